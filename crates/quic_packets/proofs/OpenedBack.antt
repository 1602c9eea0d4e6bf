-- What was sealed is opened.
use Rattle.std.specs.Prelude.{◌≡◌, ℕ, ◌+◌, ◌-◌, ◌<◌, ◌^◌, true, List, ◌++◌, length, Option, Some, None, MatchOption, Result, Ok, Err, IfOk, IfErr, IfSome}
use Rattle.std.proofs.Common.{sym, ap, ◌∙◌, arith, refl, subst, inl, inr, length-append}
use Rattle.quic_base.specs.declared.ids.SpaceId.{SpaceId}
use Rattle.quic_base.proofs.PublicLaws as law
use Rattle.quic_base.specs.Number.{AreBytes, bytes_of}
use Rattle.bytes.specs.Filled.{Filled}
use Rattle.quic_header_decode.specs.declared.protected.ProtectedHeader.{ProtectedHeader}
use Rattle.quic_header_encode.specs.declared.header.Header.{Header}
use Rattle.quic_header_encode.specs.declared.header.Header.TheVariants as header
use Rattle.quic_packets.specs.declared.opening.Opened.{Opened}
use Rattle.quic_packets.specs.declared.opening.OpenError.{OpenError}
use Rattle.quic_packets.specs.declared.opening.OpenError.TheVariants as error
use Rattle.quic_header_decode.specs.declared.decode_error.PacketDecodeError.{PacketDecodeError}
use Rattle.quic_header_decode.specs.Refusal.{Refusal, refusal_of}
use Rattle.quic_header_decode.specs.Grammar.{Cut, Uncut}
use Rattle.quic_header_decode.specs.Reading.{DecodeOptions, IsRest, left_of}
use Rattle.quic_header_decode.specs.Headers.{IsOpenedBy}
use Rattle.quic_header_decode.specs.Datagram.{CutPacket}
use Rattle.quic_header_decode.specs.Headers.{space_of}
use Rattle.quic_header_encode.specs.Kinds.{space_in}
use Rattle.quic_header_encode.specs.Writing.{header_size, size_in}
use Rattle.quic_packets.specs.Pairs.{IsLawful, KeyPair}
use Rattle.quic_packets.specs.Sealing.{PacketContents, Sealed, plain_packet, sealed_header, protected_len}
use Rattle.quic_packets.specs.Opening.{
  PacketAnswer,
  BeginsSealed,
  ExpandsIn,
  IsCutUnopened,
  IsDecode,
  IsReadable,
  NextAnswer,
  OpenedPacket,
  Opening,
  Opens,
  OpensFirst,
  OpensPacket,
  OpensPlain,
  OpensWithKey,
  Refuses,
  RefusesPacket,
  RefusesWithKey,
  ReturnsSealed,
  UnlockedPacket,
  Unlocks,
  packet_of,
  payload_opened,
  returned,
  returned_by,
}
use Rattle.quic_packets.proofs.Sealings.{header_length}
use Rattle.quic_packets.proofs.Parts.{expands_same}
use Rattle.quic_packets.proofs.Opened.{Lawful, front_bytes, cut_same}
use Rattle.quic_packets.proofs.SealedFound.{Found, sealed_found, read_numbered}
use Rattle.quic_header_decode.proofs.CutAnswers.{cut_positive, cut_again, is_rest, is_uncut, uncut_again}
use Rattle.quic_header_decode.specs.Datagram.{CutsFirst, IsUncut}

-- ---- records with the same parts

opened_same : (a b : OpenedPacket) → a.header ≡ b.header → a.header_bytes ≡ b.header_bytes → a.number ≡ b.number
    → a.payload ≡ b.payload → a ≡ b
opened_same a b head bytes number payload =
    ap (λ (x : Header). let p : OpenedPacket = record {
      header = x;
      header_bytes = a.header_bytes;
      number = a.number;
      payload = a.payload;
    } in p) head
    ∙ ap (λ (x : List ℕ). let p : OpenedPacket = record {
      header = b.header;
      header_bytes = x;
      number = a.number;
      payload = a.payload;
    } in p) bytes
    ∙ ap (λ (x : Option ℕ). let p : OpenedPacket = record {
      header = b.header;
      header_bytes = b.header_bytes;
      number = x;
      payload = a.payload;
    } in p) number
    ∙ ap (λ (x : List ℕ). let p : OpenedPacket = record {
      header = b.header;
      header_bytes = b.header_bytes;
      number = b.number;
      payload = x;
    } in p) payload

cut_equal : (a b : CutPacket) → a.head ≡ b.head → a.header_end ≡ b.header_end → a.bytes ≡ b.bytes → a ≡ b
cut_equal a b head end bytes =
    ap (λ (x : ProtectedHeader). let p : CutPacket = record { head = x; header_end = a.header_end; bytes = a.bytes } in p) head
    ∙ ap (λ (x : ℕ). let p : CutPacket = record { head = b.head; header_end = x; bytes = a.bytes } in p) end
    ∙ ap (λ (x : List ℕ). let p : CutPacket = record { head = b.head; header_end = b.header_end; bytes = x } in p) bytes

-- bytes begin with one packet
one_cut : (options : DecodeOptions) (bytes : List ℕ) (one other : CutPacket) (a b : List ℕ)
    → CutsFirst options bytes one a → CutsFirst options bytes other b → (one ≡ other) × (a ≡ b)
one_cut options bytes one other a b x y =
    let same : (let r : Result (ProtectedHeader × ℕ × ℕ) Refusal = Ok (one.head, one.header_end, length one.bytes) in r)
    ≡ Ok (other.head, other.header_end, length other.bytes) =
    sym (cut_again options bytes one.head one.header_end (length one.bytes) x.cut)
    ∙ cut_again options bytes other.head other.header_end (length other.bytes) y.cut in
    let parts : (let p : ProtectedHeader × ℕ × ℕ = (one.head, one.header_end, length one.bytes) in p)
    ≡ (other.head, other.header_end, length other.bytes) =
    cc in
    let split = cut_same one.bytes a other.bytes b (sym x.text ∙ y.text) (ap (λ p. p.2) parts) in
    (cut_equal one other (ap (λ p. p.0) parts) (ap (λ p. p.1) parts) split.0, split.1)

-- ---- by a key

expands_in_same : (h : Header) (expected m n : ℕ) → ExpandsIn h expected m → ExpandsIn h expected n → m ≡ n
expands_in_same (header.Initial i) expected m n a b = expands_same i.number expected m n a b
expands_in_same (header.Long ty dst src number version) expected m n a b = expands_same number expected m n a b
expands_in_same (header.Retry dst src version) expected m n a b = absurd a
expands_in_same (header.Short spin key_phase dst number) expected m n a b = expands_same number expected m n a b
expands_in_same (header.VersionNegotiate random src dst) expected m n a b = absurd a

lawful : (key : KeyPair) → IsLawful key → Lawful key key
lawful key laws =
    record { sample_same = refl; protects = laws.protects; restores = laws.restores; sealed_len = laws.sealed_len; opens = laws.opens }

-- a sealed packet, as it is cut
abbrev pub sealed_cut : ProtectedHeader → PacketContents → List ℕ → CutPacket
sealed_cut found contents packet =
    record { head = found; header_end = header_size contents.header - size_in contents.header; bytes = packet }

-- all that is known about what was sealed
record Given (key : KeyPair) (options : DecodeOptions) (expected : ℕ) (contents : PacketContents) (packet rest : List ℕ) : Type 0 where
  laws : IsLawful key
  sealed : Sealed key contents packet
  read : IsReadable options contents.header rest
  number : ExpandsIn contents.header expected contents.number

abbrev FoundOf : KeyPair → DecodeOptions → PacketContents → List ℕ → List ℕ → Type 0
FoundOf key options contents packet rest =
    Found key key options contents.header contents.number contents.payload packet rest

found_of : (key : KeyPair) (options : DecodeOptions) (expected : ℕ) (contents : PacketContents) (packet rest : List ℕ)
    → Given key options expected contents packet rest → FoundOf key options contents packet rest
found_of key options expected contents packet rest given =
    sealed_found key key (lawful key given.laws) options contents.header contents.number contents.payload packet rest
    given.sealed given.read

top_length : (key : KeyPair) (options : DecodeOptions) (contents : PacketContents) (rest : List ℕ)
    → IsReadable options contents.header rest
    → length (sealed_header key.tag_size contents.header contents.payload) ≡ header_size contents.header
top_length key options contents rest read =
    header_length contents.header (bytes_of 2 (2 ^ 14 + protected_len key.tag_size contents.header contents.payload))
    (read_numbered options contents.header rest read)
    (law.length-bytes_of 2 (2 ^ 14 + protected_len key.tag_size contents.header contents.payload))

-- a packet that was unlocked has the parts that were sealed
record Same (key : KeyPair) (contents : PacketContents) (got : UnlockedPacket) : Type 0 where
  header_same : got.header ≡ contents.header
  bytes_same : got.header_bytes ≡ sealed_header key.tag_size contents.header contents.payload
  number_same : got.number ≡ contents.number
  opened : payload_opened key got ≡ Some contents.payload

sealed_payload_opens : (key : KeyPair) (contents : PacketContents) (packet : List ℕ) → IsLawful key
    → Sealed key contents packet
    → key.opened contents.number (sealed_header key.tag_size contents.header contents.payload)
    (key.sealed contents.number (sealed_header key.tag_size contents.header contents.payload) contents.payload)
    ≡ Some contents.payload
sealed_payload_opens key contents packet laws sealed =
    let top : List ℕ = sealed_header key.tag_size contents.header contents.payload in
    laws.opens contents.number top contents.payload (let fits : contents.number < 2 ^ 62 = sealed.fits in omega arith)
    (front_bytes top (key.sealed contents.number top contents.payload) sealed.are_bytes) sealed.payload_bytes

unlocked_same : (key : KeyPair) (options : DecodeOptions) (expected : ℕ) (contents : PacketContents) (packet rest : List ℕ)
    → (given : Given key options expected contents packet rest) → (found : FoundOf key options contents packet rest)
    → (got : UnlockedPacket) → Unlocks key expected (sealed_cut found.cut.0 contents packet) got → Same key contents got
unlocked_same key options expected contents packet rest given found got u =
    let at : ℕ = header_size contents.header - size_in contents.header in
    let top : List ℕ = sealed_header key.tag_size contents.header contents.payload in
    let body : List ℕ = key.sealed contents.number top contents.payload in
    let whole : got.header_bytes ++ got.sealed_payload ≡ plain_packet key contents = u.whole ∙ found.back in
    let is =
    found.cut.3 got.header (length got.header_bytes) (subst
    (λ (xs : List ℕ). IsOpenedBy true found.cut.0 at got.header xs (length got.header_bytes)) whole
    u.is_header) in
    let parts =
    cut_same got.header_bytes got.sealed_payload top body whole (is.1 ∙ sym (top_length key options contents rest given.read)) in
    let same : got.number ≡ contents.number =
    expands_in_same contents.header expected got.number contents.number
    (subst (λ (x : Header). ExpandsIn x expected got.number) is.0 u.number) given.number in
    record {
      header_same = is.0;
      bytes_same = parts.0;
      number_same = same;
      opened = ap (λ (k : ℕ). key.opened k got.header_bytes got.sealed_payload) same
          ∙ ap (λ (xs : List ℕ). key.opened contents.number xs got.sealed_payload) parts.0
          ∙ ap (key.opened contents.number top) parts.1
          ∙ sealed_payload_opens key contents packet given.laws given.sealed;
    }

none_some : {A : Type 0} (x : A) → (let o : Option A = None in o) ≡ Some x → ⊥
none_some x e = cc

some_same : {A : Type 0} (x y : A) → (let o : Option A = Some x in o) ≡ Some y → x ≡ y
some_same x y e = cc

key_returns : (key : KeyPair) (options : DecodeOptions) (expected : ℕ) (contents : PacketContents) (packet rest : List ℕ)
    → (given : Given key options expected contents packet rest) → (found : FoundOf key options contents packet rest)
    → (opened : OpenedPacket) → OpensWithKey key expected (sealed_cut found.cut.0 contents packet) opened
    → opened ≡ returned key contents
key_returns key options expected contents packet rest given found opened o =
    let same = unlocked_same key options expected contents packet rest given found o.unlocked o.unlocks in
    opened_same opened (returned key contents) (o.header ∙ same.header_same) (o.header_bytes ∙ same.bytes_same)
    (o.number ∙ ap (λ (k : ℕ). let m : Option ℕ = Some k in m) same.number_same)
    (some_same opened.payload contents.payload (sym o.payload ∙ same.opened))

key_refuses : (key : KeyPair) (options : DecodeOptions) (expected : ℕ) (contents : PacketContents) (packet rest : List ℕ)
    → (given : Given key options expected contents packet rest) → (found : FoundOf key options contents packet rest)
    → (e : OpenError) → RefusesWithKey key expected (sealed_cut found.cut.0 contents packet) e → e ≡ error.OutOfMemory
key_refuses key options expected contents packet rest given found (error.Decode f) part = absurd (part.1 found.sample)
key_refuses key options expected contents packet rest given found error.Unsealed part =
    let same = unlocked_same key options expected contents packet rest given found part.0 part.1 in
    absurd (none_some contents.payload (sym part.2 ∙ same.opened))
key_refuses key options expected contents packet rest given found error.OutOfMemory part = refl

-- ---- by the key of its space

abbrev GivenIn : Opening → PacketContents → List ℕ → List ℕ → Type 0
GivenIn opening contents packet rest =
    Given (opening.keys (space_in contents.header)) opening.options (opening.expected (space_in contents.header)) contents packet rest

abbrev FoundIn : Opening → PacketContents → List ℕ → List ℕ → Type 0
FoundIn opening contents packet rest =
    FoundOf (opening.keys (space_in contents.header)) opening.options contents packet rest

given_in : (opening : Opening) (bytes : List ℕ) (contents : PacketContents) (rest : List ℕ)
    → IsLawful (opening.keys (space_in contents.header))
    → (begins : BeginsSealed opening bytes contents rest) → GivenIn opening contents begins.packet rest
given_in opening bytes contents rest laws begins =
    record { laws = laws; sealed = begins.sealed; read = begins.read; number = begins.number }

found_in : (opening : Opening) (contents : PacketContents) (packet rest : List ℕ) → GivenIn opening contents packet rest
    → FoundIn opening contents packet rest
found_in opening contents packet rest given =
    found_of (opening.keys (space_in contents.header)) opening.options (opening.expected (space_in contents.header))
    contents packet rest given

sealed_first : (opening : Opening) (bytes : List ℕ) (contents : PacketContents) (rest : List ℕ)
    (begins : BeginsSealed opening bytes contents rest)
    → (found : FoundIn opening contents begins.packet rest)
    → CutsFirst opening.options bytes (sealed_cut found.cut.0 contents begins.packet) rest
sealed_first opening bytes contents rest begins found = record {
  cut = subst (λ (xs : List ℕ). Cut opening.options xs found.cut.0
      (header_size contents.header - size_in contents.header) (length begins.packet)) (sym begins.text) found.cut.1;
  text = begins.text;
}

packet_returns : (opening : Opening) (contents : PacketContents) (packet rest : List ℕ)
    → GivenIn opening contents packet rest → (found : FoundIn opening contents packet rest)
    → (opened : OpenedPacket)
    → OpensPacket opening.keys opening.expected (sealed_cut found.cut.0 contents packet) opened
    → opened ≡ returned_by opening contents
packet_returns opening contents packet rest given found opened part =
    let cut : CutPacket = sealed_cut found.cut.0 contents packet in
    key_returns (opening.keys (space_in contents.header)) opening.options (opening.expected (space_in contents.header))
    contents packet rest given found opened
    (subst (λ (o : Option SpaceId). MatchOption o (OpensPlain cut opened)
    (λ space. OpensWithKey (opening.keys space) (opening.expected space) cut opened)) found.cut.2 part)

packet_refuses : (opening : Opening) (contents : PacketContents) (packet rest : List ℕ)
    → GivenIn opening contents packet rest → (found : FoundIn opening contents packet rest)
    → (e : OpenError) → RefusesPacket opening.keys opening.expected (sealed_cut found.cut.0 contents packet) e
    → e ≡ error.OutOfMemory
packet_refuses opening contents packet rest given found e part =
    let cut : CutPacket = sealed_cut found.cut.0 contents packet in
    key_refuses (opening.keys (space_in contents.header)) opening.options (opening.expected (space_in contents.header))
    contents packet rest given found e
    (subst (λ (o : Option SpaceId). MatchOption o (e ≡ error.OutOfMemory)
    (λ space. RefusesWithKey (opening.keys space) (opening.expected space) cut e)) found.cut.2 part)

-- what is cut of bytes that begin with a sealed packet is that packet
cut_of_sealed : (opening : Opening) (bytes : List ℕ) (contents : PacketContents) (rest : List ℕ)
    → IsLawful (opening.keys (space_in contents.header))
    → (begins : BeginsSealed opening bytes contents rest) → (packet : CutPacket) (left : List ℕ)
    → CutsFirst opening.options bytes packet left
    → (found : FoundIn opening contents begins.packet rest) × (packet ≡ sealed_cut found.cut.0 contents begins.packet) × (left ≡ rest)
cut_of_sealed opening bytes contents rest laws begins packet left first =
    let found = found_in opening contents begins.packet rest (given_in opening bytes contents rest laws begins) in
    let same =
    one_cut opening.options bytes packet (sealed_cut found.cut.0 contents begins.packet) left rest first
    (sealed_first opening bytes contents rest begins found) in
    (found, same.0, same.1)

pub sealed_cut_there : (opening : Opening) (bytes : List ℕ) (contents : PacketContents) (rest : List ℕ)
    → IsLawful (opening.keys (space_in contents.header))
    → (begins : BeginsSealed opening bytes contents rest) → (packet : CutPacket) (left : List ℕ)
    → CutsFirst opening.options bytes packet left
    → (packet.bytes ≡ begins.packet) × (left ≡ rest)
sealed_cut_there opening bytes contents rest laws begins packet left first =
    let same = cut_of_sealed opening bytes contents rest laws begins packet left first in
    (ap (λ (x : CutPacket). x.bytes) same.1, same.2)

pub sealed_space : (opening : Opening) (bytes : List ℕ) (contents : PacketContents) (rest : List ℕ)
    → IsLawful (opening.keys (space_in contents.header))
    → BeginsSealed opening bytes contents rest → (packet : CutPacket) (left : List ℕ)
    → CutsFirst opening.options bytes packet left
    → space_of packet.head ≡ Some (space_in contents.header)
sealed_space opening bytes contents rest laws begins packet left first =
    let same = cut_of_sealed opening bytes contents rest laws begins packet left first in
    ap (λ (x : CutPacket). space_of x.head) same.1 ∙ same.0.cut.2

-- ---- the first packet

pub first_returns : (opening : Opening) (bytes : List ℕ) (contents : PacketContents) (rest : List ℕ)
    → IsLawful (opening.keys (space_in contents.header))
    → BeginsSealed opening bytes contents rest → (opened : Opened) (left : Option Filled)
    → OpensFirst opening bytes opened left → ReturnsSealed opening contents rest opened left
first_returns opening bytes contents rest laws begins opened left o =
    let given = given_in opening bytes contents rest laws begins in
    let found = found_in opening contents begins.packet rest given in
    let same =
    one_cut opening.options bytes o.opens.packet (sealed_cut found.cut.0 contents begins.packet) o.rest rest
    o.opens.first (sealed_first opening bytes contents rest begins found) in
    record {
      packet = packet_returns opening contents begins.packet rest given found (packet_of opened)
          (subst (λ (x : CutPacket). OpensPacket opening.keys opening.expected x (packet_of opened)) same.0 o.opens.opens);
      left_is = subst (IsRest left) same.1 o.left_is;
    }

uncut_back : (opening : Opening) (bytes : List ℕ) (contents : PacketContents) (rest : List ℕ)
    → IsLawful (opening.keys (space_in contents.header)) → AreBytes bytes
    → BeginsSealed opening bytes contents rest → (r : Refusal) → Uncut opening.options bytes r → ⊥
uncut_back opening bytes contents rest laws fits begins r uncut =
    let found = found_in opening contents begins.packet rest (given_in opening bytes contents rest laws begins) in
    let at : ℕ = header_size contents.header - size_in contents.header in
    let yes =
    cut_again opening.options bytes found.cut.0 at (length begins.packet) (sealed_first opening bytes contents rest begins found).cut in
    let never = uncut_again opening.options bytes r fits uncut in
    let clash : (let x : Result (ProtectedHeader × ℕ × ℕ) Refusal = Ok (found.cut.0, at, length begins.packet) in x)
    ≡ Err r = sym yes ∙ never in cc

pub first_refuses : (opening : Opening) (bytes : List ℕ) (contents : PacketContents) (rest : List ℕ)
    → IsLawful (opening.keys (space_in contents.header)) → AreBytes bytes
    → BeginsSealed opening bytes contents rest → (e : OpenError) → Refuses opening bytes e → e ≡ error.OutOfMemory
first_refuses opening bytes contents rest laws fits begins (error.Decode f) (inl (e, uncut, same)) =
    absurd (uncut_back opening bytes contents rest laws fits begins (refusal_of e)
    (is_uncut opening.options opening.takes_memory bytes e uncut same.1))
first_refuses opening bytes contents rest laws fits begins error.Unsealed (inl (e, uncut, same)) = absurd same
first_refuses opening bytes contents rest laws fits begins error.OutOfMemory (inl uncut) = refl
first_refuses opening bytes contents rest laws fits begins e (inr refuses) =
    let given = given_in opening bytes contents rest laws begins in
    let found = found_in opening contents begins.packet rest given in
    let same =
    one_cut opening.options bytes refuses.1.packet (sealed_cut found.cut.0 contents begins.packet) refuses.0 rest
    refuses.1.first (sealed_first opening bytes contents rest begins found) in
    packet_refuses opening contents begins.packet rest given found e
    (subst (λ (x : CutPacket). RefusesPacket opening.keys opening.expected x e) same.0 refuses.1.refused)

-- what follows a packet is shorter than the datagram
first_shorter : (opening : Opening) (bytes : List ℕ) (opened : Opened) (left : Option Filled)
    → OpensFirst opening bytes opened left → IfSome left (λ f. length f.items < length bytes)
first_shorter opening bytes opened None o = tt
first_shorter opening bytes opened (Some f) o =
    let is : f.items ≡ o.rest = o.left_is.0 in
    let packet : CutPacket = o.opens.packet in
    omega (
      arith,
      cut_positive opening.options bytes packet.head packet.header_end (length packet.bytes)
          o.opens.first.cut,
      ap length o.opens.first.text,
      length-append packet.bytes o.rest,
      ap length is,
    )

opened_first : (opening : Opening) (bytes : List ℕ) (opened : Opened) (left : Option Filled)
    → ((space : SpaceId) → IsLawful (opening.keys space))
    → OpensFirst opening bytes opened left → PacketAnswer opening bytes (Ok (opened, left))
opened_first opening bytes opened left laws o = record {
  opened = o;
  shorter = first_shorter opening bytes opened left o;
  refused = tt;
  sealed = λ contents rest begins. first_returns opening bytes contents rest (laws (space_in contents.header)) begins opened left o;
}

refused_first : (opening : Opening) (bytes : List ℕ) (e : OpenError)
    → ((space : SpaceId) → IsLawful (opening.keys space)) → AreBytes bytes
    → Refuses opening bytes e → PacketAnswer opening bytes (Err e)
refused_first opening bytes e laws fits refuses = record {
  opened = tt;
  shorter = tt;
  refused = refuses;
  sealed = λ contents rest begins. first_refuses opening bytes contents rest (laws (space_in contents.header)) fits begins e refuses;
}

-- ---- what a call returns

-- no packet is cut
pub answers_uncut : (opening : Opening) (bytes : Filled) {f : OpenError}
    → ((space : SpaceId) → IsLawful (opening.keys space)) → AreBytes bytes.items
    → (e : PacketDecodeError) → IsUncut opening.options opening.takes_memory bytes.items e → IsDecode e f
    → NextAnswer opening (Some bytes) (Some (Err f)) None
answers_uncut opening bytes {f} laws fits e uncut same =
    (refused_first opening bytes.items f laws fits (inl (e, uncut, same)), inl ((e, uncut, same), refl))

-- a packet is cut, and opened or not
pub answers_cut : (opening : Opening) (bytes : Filled) {packet : CutPacket} (left : Option Filled)
    (result : Result Opened OpenError)
    → ((space : SpaceId) → IsLawful (opening.keys space)) → AreBytes bytes.items
    → CutsFirst opening.options bytes.items packet (left_of left) → IfSome left (λ rest. 0 < length rest.items)
    → IfOk result (λ x. OpensPacket opening.keys opening.expected packet (packet_of x))
    → IfErr result (RefusesPacket opening.keys opening.expected packet)
    → NextAnswer opening (Some bytes) (Some result) left
answers_cut opening bytes {packet} left (Ok opened) laws fits first some opens refuses =
    opened_first opening bytes.items opened left laws (record {
      rest = left_of left;
      opens = record { packet = packet; first = first; opens = opens };
      left_is = is_rest left some refl;
    })
answers_cut opening bytes {packet} left (Err e) laws fits first some opens refuses =
    let unopened : IsCutUnopened opening bytes.items e (left_of left) =
    record { packet = packet; first = first; refused = refuses } in (
      refused_first opening bytes.items e laws fits (inr (left_of left, unopened)),
      inr (left_of left, unopened, is_rest left some refl),
    )

-- what was sealed can be opened
pub sealed_opens : (opening : Opening) (bytes : List ℕ) (contents : PacketContents) (rest : List ℕ)
    → IsLawful (opening.keys (space_in contents.header))
    → BeginsSealed opening bytes contents rest → Opens opening bytes (returned_by opening contents) rest
sealed_opens opening bytes contents rest laws begins =
    let found = found_in opening contents begins.packet rest (given_in opening bytes contents rest laws begins) in
    let space : SpaceId = space_in contents.header in
    let key : KeyPair = opening.keys space in
    let cut : CutPacket = sealed_cut found.cut.0 contents begins.packet in
    let top : List ℕ = sealed_header key.tag_size contents.header contents.payload in
    let body : List ℕ = key.sealed contents.number top contents.payload in
    let opened : OpensWithKey key (opening.expected space) cut (returned key contents) = record {
      unlocked = record { header = contents.header; header_bytes = top; sealed_payload = body; number = contents.number };
      unlocks = record {
        sample = found.sample;
        whole = sym found.back;
        is_header = subst (λ (k : ℕ). IsOpenedBy true found.cut.0
            (header_size contents.header - size_in contents.header) contents.header (top ++ body) k)
            (sym (top_length key opening.options contents rest begins.read)) found.cut.4;
        number = begins.number;
      };
      header = refl;
      header_bytes = refl;
      number = refl;
      payload = sealed_payload_opens key contents begins.packet laws begins.sealed;
    } in
    record {
      packet = cut;
      first = sealed_first opening bytes contents rest begins found;
      opens = subst (λ (o : Option SpaceId). MatchOption o (OpensPlain cut (returned key contents))
          (λ s. OpensWithKey (opening.keys s) (opening.expected s) cut (returned key contents))) (sym found.cut.2)
          opened;
    }
