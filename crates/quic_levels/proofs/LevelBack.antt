-- What was sealed is opened.
use Rattle.std.specs.Prelude.{◌≡◌, ℕ, ◌+◌, ◌-◌, ◌<◌, ◌^◌, true, List, ◌++◌, length, Option, Some, None, MatchOption, Result, Ok, Err, IfOk, IfErr, IfSome}
use Rattle.std.proofs.Common.{sym, ap, ◌∙◌, arith, refl, subst, inl, inr, length-append}
use Rattle.std.proofs.lemmas.Option.{none-some, same_Some}
use Rattle.quic_base.proofs.PublicLaws as law
use Rattle.quic_base.specs.declared.ids.SpaceId.{SpaceId}
use Rattle.quic_base.specs.Number.{AreBytes, bytes_of}
use Rattle.bytes.specs.Filled.{Filled}
use Rattle.quic_crypto.specs.Keys.{HasSample}
use Rattle.quic_header_decode.specs.declared.decode_error.PacketDecodeError.{PacketDecodeError}
use Rattle.quic_header_decode.specs.declared.protected.ProtectedHeader.{ProtectedHeader}
use Rattle.quic_header_decode.specs.declared.protected.ProtectedHeader.TheVariants as protected
use Rattle.quic_header_decode.specs.Datagram.{CutPacket, CutsFirst, IsUncut}
use Rattle.quic_header_decode.specs.Grammar.{Cut, Uncut}
use Rattle.quic_header_decode.specs.Headers.{IsOpenedBy}
use Rattle.quic_header_decode.specs.Reading.{DecodeOptions, IsRest, left_of}
use Rattle.quic_header_decode.specs.Refusal.{Refusal, refusal_of}
use Rattle.quic_header_decode.proofs.CutAnswers.{cut_positive, cut_again, is_rest, is_uncut, uncut_again}
use Rattle.quic_header_encode.specs.declared.header.Header.{Header}
use Rattle.quic_header_encode.specs.declared.header.Header.TheVariants as header
use Rattle.quic_header_encode.specs.declared.long_type.LongType.{LongType}
use Rattle.quic_header_encode.specs.declared.long_type.LongType.TheVariants.{Handshake, ZeroRtt}
use Rattle.quic_header_encode.specs.Kinds.{phase_in, space_in}
use Rattle.quic_header_encode.specs.Types.{long_space}
use Rattle.quic_header_encode.specs.Writing.{header_size, size_in}
use Rattle.quic_levels.specs.declared.levels.Level.{Level}
use Rattle.quic_levels.specs.declared.levels.Level.TheVariants as level
use Rattle.quic_levels.specs.declared.opening.LevelError.{LevelError}
use Rattle.quic_levels.specs.declared.opening.LevelError.TheVariants as error
use Rattle.quic_levels.specs.Levels.{level_in, level_of, long_level, space_at}
use Rattle.quic_levels.specs.Opening.{BeginsSealed, IsDecode, LevelOpening, NextAnswer, OpensAt, OpensNext, OpensPacket, RefusesAt, RefusesPacket, ReturnsSealed, SkipsNext, Unlocks}
use Rattle.quic_levels.specs.Protection.{HeaderProtection, LevelProtection, PacketProtection, pair_of}
use Rattle.quic_levels.proofs.Protections.{AreLawful}
use Rattle.quic_packets.specs.declared.keys.Expected.{Expected}
use Rattle.quic_packets.specs.declared.opening.Opened.{Opened}
use Rattle.quic_packets.specs.Opening.{ExpandsIn, IsReadable, OpenedPacket, OpensPlain, UnlockedPacket, packet_of, returned}
use Rattle.quic_packets.specs.Pairs.{IsLawful, KeyPair, expected_in}
use Rattle.quic_packets.specs.Sealing.{PacketContents, Sealed, plain_packet, protected_len, sealed_header}
use Rattle.quic_packets.proofs.Opened.{Lawful, cut_same, front_bytes}
use Rattle.quic_packets.proofs.OpenedBack.{sealed_cut}
use Rattle.quic_packets.proofs.Parts.{expands_same}
use Rattle.quic_packets.proofs.SealedFound.{Found, read_numbered, sealed_found}
use Rattle.quic_packets.proofs.Sealings.{header_length}

-- ---- levels

-- what a header says without its protection, it says with it
level_found : (found : ProtectedHeader) (at : ℕ) (h : Header) (packet : List ℕ) (end : ℕ)
    → IsOpenedBy true found at h packet end → level_of found ≡ level_in h
level_found (protected.Initial i) at h packet end o = sym (ap level_in o.2)
level_found (protected.Long ty dst src len version) at h packet end o = sym (ap level_in o.2)
level_found (protected.Retry dst src version) at h packet end o = absurd o.2
level_found (protected.Short spin dst) at h packet end o = sym (ap level_in o.2)
level_found (protected.VersionNegotiate random dst src) at h packet end o = absurd o.2

long_at : (ty : LongType) → space_at (long_level ty) ≡ long_space ty
long_at Handshake = refl
long_at ZeroRtt = refl

-- a header's space is that of its level
space_level : (h : Header) (l : Level) → level_in h ≡ Some l → space_at l ≡ space_in h
space_level (header.Initial i) l e = ap space_at (sym (same_Some level.Initial l e))
space_level (header.Long ty dst src number version) l e =
    ap space_at (sym (same_Some (long_level ty) l e)) ∙ long_at ty
space_level (header.Retry dst src version) l e = absurd (none-some l e)
space_level (header.Short spin key_phase dst number) l e = ap space_at (sym (same_Some level.OneRtt l e))
space_level (header.VersionNegotiate random src dst) l e = absurd (none-some l e)

-- ---- records with the same parts

opened_same : (a b : OpenedPacket) → a.header ≡ b.header → a.header_bytes ≡ b.header_bytes → a.number ≡ b.number
    → a.payload ≡ b.payload → a ≡ b
opened_same a b head bytes number payload =
    ap (λ (x : Header). let p : OpenedPacket = record {
      header = x;
      header_bytes = a.header_bytes;
      number = a.number;
      payload = a.payload;
    } in p) head
    ∙ ap (λ (x : List ℕ). let p : OpenedPacket = record {
      header = b.header;
      header_bytes = x;
      number = a.number;
      payload = a.payload;
    } in p) bytes
    ∙ ap (λ (x : Option ℕ). let p : OpenedPacket = record {
      header = b.header;
      header_bytes = b.header_bytes;
      number = x;
      payload = a.payload;
    } in p) number
    ∙ ap (λ (x : List ℕ). let p : OpenedPacket = record {
      header = b.header;
      header_bytes = b.header_bytes;
      number = b.number;
      payload = x;
    } in p) payload

cut_equal : (a b : CutPacket) → a.head ≡ b.head → a.header_end ≡ b.header_end → a.bytes ≡ b.bytes → a ≡ b
cut_equal a b head end bytes =
    ap (λ (x : ProtectedHeader). let p : CutPacket = record { head = x; header_end = a.header_end; bytes = a.bytes } in p) head
    ∙ ap (λ (x : ℕ). let p : CutPacket = record { head = b.head; header_end = x; bytes = a.bytes } in p) end
    ∙ ap (λ (x : List ℕ). let p : CutPacket = record { head = b.head; header_end = b.header_end; bytes = x } in p) bytes

-- bytes begin with one packet
one_cut : (options : DecodeOptions) (bytes : List ℕ) (one other : CutPacket) (a b : List ℕ)
    → CutsFirst options bytes one a → CutsFirst options bytes other b → (one ≡ other) × (a ≡ b)
one_cut options bytes one other a b x y =
    let same : (let r : Result (ProtectedHeader × ℕ × ℕ) Refusal = Ok (one.head, one.header_end, length one.bytes) in r)
    ≡ Ok (other.head, other.header_end, length other.bytes) =
    sym (cut_again options bytes one.head one.header_end (length one.bytes) x.cut)
    ∙ cut_again options bytes other.head other.header_end (length other.bytes) y.cut in
    let parts : (let p : ProtectedHeader × ℕ × ℕ = (one.head, one.header_end, length one.bytes) in p)
    ≡ (other.head, other.header_end, length other.bytes) =
    cc in
    let split = cut_same one.bytes a other.bytes b (sym x.text ∙ y.text) (ap (λ p. p.2) parts) in
    (cut_equal one other (ap (λ p. p.0) parts) (ap (λ p. p.1) parts) split.0, split.1)

expands_in_same : (h : Header) (expected m n : ℕ) → ExpandsIn h expected m → ExpandsIn h expected n → m ≡ n
expands_in_same (header.Initial i) expected m n a b = expands_same i.number expected m n a b
expands_in_same (header.Long ty dst src number version) expected m n a b = expands_same number expected m n a b
expands_in_same (header.Retry dst src version) expected m n a b = absurd a
expands_in_same (header.Short spin key_phase dst number) expected m n a b = expands_same number expected m n a b
expands_in_same (header.VersionNegotiate random src dst) expected m n a b = absurd a

-- ---- a sealed packet

lawful : (key : KeyPair) → IsLawful key → Lawful key key
lawful key laws =
    record { sample_same = refl; protects = laws.protects; restores = laws.restores; sealed_len = laws.sealed_len; opens = laws.opens }

-- all that is known about what was sealed
record Given (key : KeyPair) (options : DecodeOptions) (expected : ℕ) (contents : PacketContents) (packet rest : List ℕ) : Type 0 where
  laws : IsLawful key
  sealed : Sealed key contents packet
  read : IsReadable options contents.header rest
  number : ExpandsIn contents.header expected contents.number

abbrev FoundOf : KeyPair → DecodeOptions → PacketContents → List ℕ → List ℕ → Type 0
FoundOf key options contents packet rest =
    Found key key options contents.header contents.number contents.payload packet rest

found_of : (key : KeyPair) (options : DecodeOptions) (expected : ℕ) (contents : PacketContents) (packet rest : List ℕ)
    → Given key options expected contents packet rest → FoundOf key options contents packet rest
found_of key options expected contents packet rest given =
    sealed_found key key (lawful key given.laws) options contents.header contents.number contents.payload packet rest
    given.sealed given.read

top_length : (key : KeyPair) (options : DecodeOptions) (contents : PacketContents) (rest : List ℕ)
    → IsReadable options contents.header rest
    → length (sealed_header key.tag_size contents.header contents.payload) ≡ header_size contents.header
top_length key options contents rest read =
    header_length contents.header (bytes_of 2 (2 ^ 14 + protected_len key.tag_size contents.header contents.payload))
    (read_numbered options contents.header rest read)
    (law.length-bytes_of 2 (2 ^ 14 + protected_len key.tag_size contents.header contents.payload))

-- a packet that was unlocked has the parts that were sealed
record Same (key : KeyPair) (contents : PacketContents) (got : UnlockedPacket) : Type 0 where
  header_same : got.header ≡ contents.header
  bytes_same : got.header_bytes ≡ sealed_header key.tag_size contents.header contents.payload
  number_same : got.number ≡ contents.number
  opened : key.opened got.number got.header_bytes got.sealed_payload ≡ Some contents.payload

sealed_payload_opens : (key : KeyPair) (contents : PacketContents) (packet : List ℕ) → IsLawful key
    → Sealed key contents packet
    → key.opened contents.number (sealed_header key.tag_size contents.header contents.payload)
    (key.sealed contents.number (sealed_header key.tag_size contents.header contents.payload) contents.payload)
    ≡ Some contents.payload
sealed_payload_opens key contents packet laws sealed =
    let top : List ℕ = sealed_header key.tag_size contents.header contents.payload in
    laws.opens contents.number top contents.payload (let fits : contents.number < 2 ^ 62 = sealed.fits in omega arith)
    (front_bytes top (key.sealed contents.number top contents.payload) sealed.are_bytes) sealed.payload_bytes

unlocked_same : (h : HeaderProtection) (p : PacketProtection) (options : DecodeOptions) (expected : ℕ)
    (contents : PacketContents) (packet rest : List ℕ)
    → (given : Given (pair_of h p) options expected contents packet rest)
    → (found : FoundOf (pair_of h p) options contents packet rest)
    → (got : UnlockedPacket) → Unlocks h expected (sealed_cut found.cut.0 contents packet) got
    → Same (pair_of h p) contents got
unlocked_same h p options expected contents packet rest given found got u =
    let key : KeyPair = pair_of h p in
    let at : ℕ = header_size contents.header - size_in contents.header in
    let top : List ℕ = sealed_header key.tag_size contents.header contents.payload in
    let body : List ℕ = key.sealed contents.number top contents.payload in
    let whole : got.header_bytes ++ got.sealed_payload ≡ plain_packet key contents = u.whole ∙ found.back in
    let is =
    found.cut.3 got.header (length got.header_bytes) (subst
    (λ (xs : List ℕ). IsOpenedBy true found.cut.0 at got.header xs (length got.header_bytes)) whole
    u.is_header) in
    let parts =
    cut_same got.header_bytes got.sealed_payload top body whole (is.1 ∙ sym (top_length key options contents rest given.read)) in
    let same : got.number ≡ contents.number =
    expands_in_same contents.header expected got.number contents.number
    (subst (λ (x : Header). ExpandsIn x expected got.number) is.0 u.number) given.number in
    record {
      header_same = is.0;
      bytes_same = parts.0;
      number_same = same;
      opened = ap (λ (k : ℕ). key.opened k got.header_bytes got.sealed_payload) same
          ∙ ap (λ (xs : List ℕ). key.opened contents.number xs got.sealed_payload) parts.0
          ∙ ap (key.opened contents.number top) parts.1
          ∙ sealed_payload_opens key contents packet given.laws given.sealed;
    }

-- ---- by the keys of its level

-- the keys of a level, for what was sealed with them
record Keyed (keys : LevelProtection) (l : Level) (contents : PacketContents) (h : HeaderProtection) (p : PacketProtection) : Type 0 where
  has_header : keys.header l ≡ Some h
  has_packet : keys.packet l (phase_in contents.header) contents.number ≡ Some p

header_is : (keys : LevelProtection) (l : Level) (contents : PacketContents) (h : HeaderProtection) (p : PacketProtection)
    → Keyed keys l contents h p → (k : HeaderProtection) → keys.header l ≡ Some k → k ≡ h
header_is keys l contents h p keyed k has = same_Some k h (sym has ∙ keyed.has_header)

-- the packet key of what was unlocked
packet_is : (keys : LevelProtection) (l : Level) (contents : PacketContents) (h : HeaderProtection) (p : PacketProtection)
    → Keyed keys l contents h p → (got : UnlockedPacket) → Same (pair_of h p) contents got
    → keys.packet l (phase_in got.header) got.number ≡ Some p
packet_is keys l contents h p keyed got same =
    ap (λ (x : Header). keys.packet l (phase_in x) got.number) same.header_same
    ∙ ap (λ (k : ℕ). keys.packet l (phase_in contents.header) k) same.number_same
    ∙ keyed.has_packet

-- what a level's header key unlocks is what was sealed
same_at : (keys : LevelProtection) (l : Level) (h : HeaderProtection) (p : PacketProtection) (options : DecodeOptions) (expected : ℕ)
    (contents : PacketContents) (packet rest : List ℕ)
    → Keyed keys l contents h p
    → (given : Given (pair_of h p) options expected contents packet rest)
    → (found : FoundOf (pair_of h p) options contents packet rest)
    → (k : HeaderProtection) → keys.header l ≡ Some k
    → (got : UnlockedPacket) → Unlocks k expected (sealed_cut found.cut.0 contents packet) got
    → Same (pair_of h p) contents got
same_at keys l h p options expected contents packet rest keyed given found k has got u =
    unlocked_same h p options expected contents packet rest given found got
    (subst (λ (x : HeaderProtection). Unlocks x expected (sealed_cut found.cut.0 contents packet) got)
    (header_is keys l contents h p keyed k has) u)

at_returns : (keys : LevelProtection) (l : Level) (h : HeaderProtection) (p : PacketProtection) (options : DecodeOptions) (expected : ℕ)
    (contents : PacketContents) (packet rest : List ℕ)
    → Keyed keys l contents h p
    → (given : Given (pair_of h p) options expected contents packet rest)
    → (found : FoundOf (pair_of h p) options contents packet rest)
    → (opened : OpenedPacket) → OpensAt keys expected l (sealed_cut found.cut.0 contents packet) opened
    → opened ≡ returned (pair_of h p) contents
at_returns keys l h p options expected contents packet rest keyed given found opened o =
    let u = o.unlocks in
    let got : UnlockedPacket = o.unlocked in
    let same =
    same_at keys l h p options expected contents packet rest keyed given found u.header_key u.has_header_key got u.unlocks in
    let key : o.packet_key ≡ p =
    same_Some o.packet_key p (sym u.has_packet_key ∙ packet_is keys l contents h p keyed got same) in
    opened_same opened (returned (pair_of h p) contents) (o.header ∙ same.header_same) (o.header_bytes ∙ same.bytes_same)
    (o.number ∙ ap (λ (k : ℕ). let m : Option ℕ = Some k in m) same.number_same)
    (same_Some opened.payload contents.payload (sym o.payload
    ∙ ap (λ (k : PacketProtection). k.opened got.number got.header_bytes got.sealed_payload) key ∙ same.opened))

at_refuses : (keys : LevelProtection) (l : Level) (h : HeaderProtection) (p : PacketProtection) (options : DecodeOptions) (expected : ℕ)
    (contents : PacketContents) (packet rest : List ℕ)
    → Keyed keys l contents h p
    → (given : Given (pair_of h p) options expected contents packet rest)
    → (found : FoundOf (pair_of h p) options contents packet rest)
    → (e : LevelError) → RefusesAt keys expected l (sealed_cut found.cut.0 contents packet) e → e ≡ error.OutOfMemory
at_refuses keys l h p options expected contents packet rest keyed given found (error.Decode f) r =
    let at : ℕ = header_size contents.header - size_in contents.header in
    absurd (r.2.0 (subst (λ (k : HeaderProtection). HasSample k.sample_len at packet)
    (sym (header_is keys l contents h p keyed r.0 r.1)) found.sample))
at_refuses keys l h p options expected contents packet rest keyed given found error.NoKeys (inl none) =
    absurd (none-some h (sym none ∙ keyed.has_header))
at_refuses keys l h p options expected contents packet rest keyed given found error.NoKeys (inr (got, u)) =
    let same =
    same_at keys l h p options expected contents packet rest keyed given found u.header_key u.has_header_key got u.unlocks in
    absurd (none-some p (sym u.has_packet_key ∙ packet_is keys l contents h p keyed got same))
at_refuses keys l h p options expected contents packet rest keyed given found error.Unsealed (got, k, u, none) =
    let same =
    same_at keys l h p options expected contents packet rest keyed given found u.header_key u.has_header_key got u.unlocks in
    let key : k ≡ p =
    same_Some k p (sym u.has_packet_key ∙ packet_is keys l contents h p keyed got same) in
    absurd (none-some contents.payload (sym none
    ∙ ap (λ (x : PacketProtection). x.opened got.number got.header_bytes got.sealed_payload) key ∙ same.opened))
at_refuses keys l h p options expected contents packet rest keyed given found error.OutOfMemory r = refl

-- ---- the first packet of bytes that begin with a sealed one

-- what follows from the bytes' beginning
record Start (opening : LevelOpening) (expected : Expected) (bytes : List ℕ) (contents : PacketContents) (rest : List ℕ)
    (l : Level) (h : HeaderProtection) (p : PacketProtection) : Type 0 where
  keyed : Keyed opening.keys l contents h p
  packet : List ℕ
  given : Given (pair_of h p) opening.options (expected_in expected (space_at l)) contents packet rest
  found : FoundOf (pair_of h p) opening.options contents packet rest
  first : CutsFirst opening.options bytes (sealed_cut found.cut.0 contents packet) rest
  level_is : level_of found.cut.0 ≡ Some l

abbrev StartOf : (opening : LevelOpening) (expected : Expected) (bytes : List ℕ) (contents : PacketContents) (rest : List ℕ)
    → BeginsSealed opening (expected_in expected (space_in contents.header)) bytes contents rest → Type 0
StartOf opening expected bytes contents rest begins =
    Start opening expected bytes contents rest begins.level begins.header_key begins.packet_key

start_of : (opening : LevelOpening) (expected : Expected) (bytes : List ℕ) (contents : PacketContents) (rest : List ℕ)
    → AreLawful opening.keys
    → (begins : BeginsSealed opening (expected_in expected (space_in contents.header)) bytes contents rest)
    → StartOf opening expected bytes contents rest begins
start_of opening expected bytes contents rest laws begins =
    let key : KeyPair = pair_of begins.header_key begins.packet_key in
    let at : ℕ = header_size contents.header - size_in contents.header in
    let given : Given key opening.options (expected_in expected (space_at begins.level)) contents begins.packet rest = record {
      laws = laws.pair begins.level (phase_in contents.header) contents.number begins.header_key begins.packet_key
          begins.has_header_key begins.has_packet_key;
      sealed = begins.sealed;
      read = begins.read;
      number = subst (λ (s : SpaceId). ExpandsIn contents.header (expected_in expected s) contents.number)
          (sym (space_level contents.header begins.level begins.has_level)) begins.number;
    } in
    let found : FoundOf key opening.options contents begins.packet rest =
    found_of key opening.options (expected_in expected (space_at begins.level)) contents begins.packet rest given in
    record {
      keyed = record { has_header = begins.has_header_key; has_packet = begins.has_packet_key };
      packet = begins.packet;
      given = given;
      found = found;
      first = record {
        cut = subst (λ (xs : List ℕ). Cut opening.options xs found.cut.0 at (length begins.packet)) (sym begins.text) found.cut.1;
        text = begins.text;
      };
      level_is = level_found found.cut.0 at contents.header (plain_packet key contents) (header_size contents.header) found.cut.4
          ∙ begins.has_level;
    }

first_returns : (opening : LevelOpening) (expected : Expected) (bytes : List ℕ) (contents : PacketContents) (rest : List ℕ)
    → AreLawful opening.keys
    → (begins : BeginsSealed opening (expected_in expected (space_in contents.header)) bytes contents rest)
    → (opened : Opened) (left : Option Filled) → OpensNext opening expected bytes (packet_of opened) left
    → ReturnsSealed (pair_of begins.header_key begins.packet_key) contents rest opened left
first_returns opening expected bytes contents rest laws begins opened left o =
    let s = start_of opening expected bytes contents rest laws begins in
    let cut : CutPacket = sealed_cut s.found.cut.0 contents s.packet in
    let same = one_cut opening.options bytes o.packet cut o.rest rest o.first s.first in
    let there : OpensPacket opening.keys expected cut (packet_of opened) =
    subst (λ (x : CutPacket). OpensPacket opening.keys expected x (packet_of opened)) same.0 o.opens in
    let opens : OpensAt opening.keys (expected_in expected (space_at begins.level)) begins.level cut (packet_of opened) =
    subst (λ (m : Option Level). MatchOption m (OpensPlain cut (packet_of opened))
    (λ l. OpensAt opening.keys (expected_in expected (space_at l)) l cut (packet_of opened))) s.level_is there in
    record {
      packet = at_returns opening.keys begins.level begins.header_key begins.packet_key opening.options
          (expected_in expected (space_at begins.level)) contents s.packet rest s.keyed s.given s.found (packet_of opened) opens;
      left_is = subst (IsRest left) same.1 o.left_is;
    }

skip_refuses : (opening : LevelOpening) (expected : Expected) (bytes : List ℕ) (contents : PacketContents) (rest : List ℕ)
    → AreLawful opening.keys
    → (begins : BeginsSealed opening (expected_in expected (space_in contents.header)) bytes contents rest)
    → (e : LevelError) (left : Option Filled) → SkipsNext opening expected bytes e left → e ≡ error.OutOfMemory
skip_refuses opening expected bytes contents rest laws begins e left o =
    let s = start_of opening expected bytes contents rest laws begins in
    let cut : CutPacket = sealed_cut s.found.cut.0 contents s.packet in
    let same = one_cut opening.options bytes o.packet cut o.rest rest o.first s.first in
    let there : RefusesPacket opening.keys expected cut e =
    subst (λ (x : CutPacket). RefusesPacket opening.keys expected x e) same.0 o.refused in
    let refuses : RefusesAt opening.keys (expected_in expected (space_at begins.level)) begins.level cut e =
    subst (λ (m : Option Level). MatchOption m (e ≡ error.OutOfMemory)
    (λ l. RefusesAt opening.keys (expected_in expected (space_at l)) l cut e)) s.level_is there in
    at_refuses opening.keys begins.level begins.header_key begins.packet_key opening.options
    (expected_in expected (space_at begins.level)) contents s.packet rest s.keyed s.given s.found e refuses

uncut_never : (opening : LevelOpening) (expected : Expected) (bytes : List ℕ) (contents : PacketContents) (rest : List ℕ)
    → AreLawful opening.keys → AreBytes bytes
    → (begins : BeginsSealed opening (expected_in expected (space_in contents.header)) bytes contents rest)
    → (r : Refusal) → Uncut opening.options bytes r → ⊥
uncut_never opening expected bytes contents rest laws fits begins r uncut =
    let s = start_of opening expected bytes contents rest laws begins in
    let at : ℕ = header_size contents.header - size_in contents.header in
    let yes = cut_again opening.options bytes s.found.cut.0 at (length s.packet) s.first.cut in
    let never = uncut_again opening.options bytes r fits uncut in
    let clash : (let x : Result (ProtectedHeader × ℕ × ℕ) Refusal = Ok (s.found.cut.0, at, length s.packet) in x)
    ≡ Err r = sym yes ∙ never in cc

drop_refuses : (opening : LevelOpening) (expected : Expected) (bytes : List ℕ) (contents : PacketContents) (rest : List ℕ)
    → AreLawful opening.keys → AreBytes bytes
    → (begins : BeginsSealed opening (expected_in expected (space_in contents.header)) bytes contents rest)
    → (cut : PacketDecodeError) → IsUncut opening.options opening.takes_memory bytes cut
    → (e : LevelError) → IsDecode cut e → e ≡ error.OutOfMemory
drop_refuses opening expected bytes contents rest laws fits begins cut uncut (error.Decode f) same =
    absurd (uncut_never opening expected bytes contents rest laws fits begins (refusal_of cut)
    (is_uncut opening.options opening.takes_memory bytes cut uncut same.1))
drop_refuses opening expected bytes contents rest laws fits begins cut uncut error.NoKeys same = absurd same
drop_refuses opening expected bytes contents rest laws fits begins cut uncut error.Unsealed same = absurd same
drop_refuses opening expected bytes contents rest laws fits begins cut uncut error.OutOfMemory same = refl

-- ---- what a call returns

-- what follows a packet is shorter than the bytes
cut_shorter : (options : DecodeOptions) (bytes : List ℕ) (packet : CutPacket) (rest : List ℕ) (left : Option Filled)
    → CutsFirst options bytes packet rest → IsRest left rest → IfSome left (λ f. length f.items < length bytes)
cut_shorter options bytes packet rest None first is = tt
cut_shorter options bytes packet rest (Some f) first is =
    let same : f.items ≡ rest = is.0 in
    omega (
      arith,
      cut_positive options bytes packet.head packet.header_end (length packet.bytes) first.cut,
      ap length first.text,
      length-append packet.bytes rest,
      ap length same,
    )

-- no packet is cut
pub answers_uncut : (opening : LevelOpening) (expected : Expected) (bytes : Filled) {f : LevelError}
    → AreLawful opening.keys → AreBytes bytes.items
    → (e : PacketDecodeError) → IsUncut opening.options opening.takes_memory bytes.items e → IsDecode e f
    → NextAnswer opening expected (Some bytes) (Some (Err f)) None
answers_uncut opening expected bytes {f} laws fits e uncut same = record {
  opened = tt;
  refused = inl (record { cut = e; uncut = uncut; same = same; nothing = refl });
  shorter = tt;
  sealed = λ contents rest begins.
      drop_refuses opening expected bytes.items contents rest laws fits begins e uncut f same;
}

-- a packet is cut, and opened or not
pub answers_cut : (opening : LevelOpening) (expected : Expected) (bytes : Filled) {packet : CutPacket} (left : Option Filled)
    (result : Result Opened LevelError)
    → AreLawful opening.keys
    → CutsFirst opening.options bytes.items packet (left_of left) → IfSome left (λ rest. 0 < length rest.items)
    → IfOk result (λ x. OpensPacket opening.keys expected packet (packet_of x))
    → IfErr result (RefusesPacket opening.keys expected packet)
    → NextAnswer opening expected (Some bytes) (Some result) left
answers_cut opening expected bytes {packet} left (Ok opened) laws first some opens refuses =
    let is : IsRest left (left_of left) = is_rest left some refl in
    let o : OpensNext opening expected bytes.items (packet_of opened) left =
    record { packet = packet; rest = left_of left; first = first; opens = opens; left_is = is } in
    record {
      opened = o;
      refused = tt;
      shorter = cut_shorter opening.options bytes.items packet (left_of left) left first is;
      sealed = λ contents rest begins. first_returns opening expected bytes.items contents rest laws begins opened left o;
    }
answers_cut opening expected bytes {packet} left (Err e) laws first some opens refuses =
    let is : IsRest left (left_of left) = is_rest left some refl in
    let o : SkipsNext opening expected bytes.items e left =
    record { packet = packet; rest = left_of left; first = first; refused = refuses; left_is = is } in
    record {
      opened = tt;
      refused = inr o;
      shorter = cut_shorter opening.options bytes.items packet (left_of left) left first is;
      sealed = λ contents rest begins. skip_refuses opening expected bytes.items contents rest laws begins e left o;
    }

-- ---- the next packet

pub next_of : (opening : LevelOpening) (expected : Expected) {old : Option Filled} {left : Filled}
    (result : Option (Result Opened LevelError)) (new : Option Filled)
    → old ≡ Some left → NextAnswer opening expected (Some left) result new → NextAnswer opening expected old result new
next_of opening expected {old} {left} result new is next =
    subst (λ (o : Option Filled). NextAnswer opening expected o result new) (sym is) next
