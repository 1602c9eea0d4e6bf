-- A sealed packet is cut from the bytes that it begins.
use Rattle.std.specs.Prelude.{◌≡◌, ℕ, ◌+◌, ◌-◌, ◌*◌, ◌/◌, ◌%◌, ◌<◌, ◌≤◌, ◌^◌, Bool, true, false, IsTrue, List, [], ◌∷◌, ◌++◌, length, drop, Some, nat_lt, nat_eq, slice_index, slice_range, slice_index_or}
use Rattle.std.proofs.Common.{cond, sym, ap, ◌∙◌, arith, refl, subst, get_or, length-append, append_assoc, length-drop}
use Rattle.quic_base.specs.Varint.{shortest_varint}
use Rattle.quic_base.specs.ConnectionId.{long_id}
use Rattle.quic_base.proofs.PublicLaws as law
use Rattle.std.proofs.lemmas.Bool.Decides.{nat_tests}
use Rattle.quic_base.specs.Number.{AreBytes, bytes_of}
use Rattle.quic_crypto.specs.Keys.{HasSample, first_unit}
use Rattle.quic_crypto.specs.declared.packet_number.PacketNumber.{PacketNumber}
use Rattle.quic_crypto.specs.declared.packet_number.PacketNumber.TheVariants.{U8, U16, U24, U32}
use Rattle.quic_crypto.specs.PacketNumbers.{number_size, number_bytes}
use Rattle.quic_header_decode.specs.declared.protected.ProtectedHeader.{ProtectedHeader}
use Rattle.quic_header_decode.specs.declared.protected.ProtectedHeader.TheVariants as protected
use Rattle.quic_header_decode.specs.declared.protected.ProtectedInitialHeader.{ProtectedInitialHeader}
use Rattle.quic_header_encode.specs.declared.long_type.LongHeaderType.{LongHeaderType}
use Rattle.quic_header_encode.specs.declared.long_type.LongHeaderType.TheVariants as kind
use Rattle.quic_header_encode.specs.declared.long_type.LongType.{LongType}
use Rattle.quic_header_encode.specs.declared.long_type.LongType.TheVariants.{Handshake, ZeroRtt}
use Rattle.quic_header_encode.specs.declared.header.Header.{Header}
use Rattle.quic_header_encode.specs.declared.header.InitialHeader.{InitialHeader}
use Rattle.quic_header_encode.specs.declared.header.Header.TheVariants as header
use Rattle.quic_header_decode.specs.Grammar.{Cut}
use Rattle.quic_header_decode.proofs.Made.{LongStart, fixed_set, long_header, initial_header, short_header}
use Rattle.quic_header_decode.specs.Reading.{DecodeOptions}
use Rattle.quic_header_encode.specs.Types.{types_of, long_type, version_2, type_number, place_of}
use Rattle.quic_header_decode.specs.Headers.{IsOpenedBy}
use Rattle.quic_header_decode.specs.Headers.{space_of}
use Rattle.quic_header_encode.specs.Kinds.{space_in}
use Rattle.quic_header_decode.specs.Headers.{IsNumberIn}
use Rattle.quic_header_encode.specs.Kinds.{bit_value}
use Rattle.quic_header_encode.specs.Writing.{header_size, size_in, has_number}
use Rattle.quic_packets.specs.Pairs.{KeyPair}
use Rattle.quic_packets.specs.Sealing.{sealed_header, protected_len}
use Rattle.quic_packets.specs.Opening.{IsReadable}
use Rattle.quic_packets.proofs.Sealings.{SealedOf, plain_of, long_first, number_length, front_length, header_length, size_within, middle}
use Rattle.quic_header_encode.proofs.Sizes.{long_length}
use Rattle.quic_packets.proofs.Parts.{length_encoded}
use Rattle.quic_packets.proofs.Opened.{Lawful, Shape, shape, front_bytes, number_known, number_there}

-- what is known about a sealed packet before its payload is opened
pub record Found (seal : KeyPair) (key : KeyPair) (options : DecodeOptions) (h : Header) (n : ℕ)
    (payload packet rest : List ℕ) : Type 0 where
  pub cut : (found : ProtectedHeader) × Cut options (packet ++ rest) found (header_size h - size_in h) (length packet)
      × (space_of found ≡ Some (space_in h))
      × ((got : Header) (end : ℕ) → IsOpenedBy true found (header_size h - size_in h) got (plain_of seal h n payload)
      end → (got ≡ h) × (end ≡ header_size h))
      × IsOpenedBy true found (header_size h - size_in h) h (plain_of seal h n payload) (header_size h)
  pub sample : HasSample key.sample_len (header_size h - size_in h) packet
  pub back : key.unprotected (header_size h - size_in h) packet ≡ plain_of seal h n payload

pub plain_length : (seal : KeyPair) (key : KeyPair) → Lawful seal key → (h : Header) (n : ℕ) (payload packet : List ℕ)
    → SealedOf seal h n payload packet → IsTrue (has_number h)
    → length (plain_of seal h n payload) ≡ header_size h + (length payload + seal.tag_size)
plain_length seal key laws h n payload packet sealed numbered =
    let top : List ℕ = sealed_header seal.tag_size h payload in
    length-append top (seal.sealed n top payload)
    ∙ ap (λ (k : ℕ). k + length (seal.sealed n top payload))
    (header_length h (bytes_of 2 (2 ^ 14 + protected_len seal.tag_size h payload)) numbered
    (law.length-bytes_of 2 (2 ^ 14 + protected_len seal.tag_size h payload)))
    ∙ ap (λ (k : ℕ). header_size h + k) (laws.sealed_len n top payload
    (let fits : n < 2 ^ 62 = sealed.fits in omega arith)
    (front_bytes top (seal.sealed n top payload) sealed.are_bytes) sealed.payload_bytes)

pub sealed_shape : (seal : KeyPair) (key : KeyPair) → Lawful seal key → (h : Header) (n : ℕ) (payload packet : List ℕ)
    → SealedOf seal h n payload packet → IsTrue (has_number h)
    → (first : ℕ) (front numbers : List ℕ) → plain_of seal h n payload ≡ (first ∷ front) ++ numbers
    → header_size h - size_in h ≡ length (first ∷ front)
    → Shape key packet front ((first ∷ front) ++ numbers) first (header_size h - size_in h)
sealed_shape seal key laws h n payload packet sealed numbered first front numbers same at_is =
    let at : ℕ = header_size h - size_in h in
    let size : size_in h ≤ header_size h = size_within h in
    let long = plain_length seal key laws h n payload packet sealed numbered in
    let sample : 4 + seal.sample_len ≤ size_in h + length payload + seal.tag_size = sealed.sample in
    shape seal key laws packet front numbers first at (subst AreBytes same sealed.are_bytes)
    (record { after_first = omega arith; room = omega (arith, long, ap length same) }) at_is (sealed.text ∙ ap (seal.protected at) same)

high_long : (b first : ℕ) → 128 ≤ first → b / first_unit (nat_lt first 128) ≡ first / first_unit (nat_lt first 128)
    → b / 16 ≡ first / 16
high_long b first long h =
    let test : nat_lt first 128 ≡ false = grind (arith, nat_tests) in
    subst (λ (s : Bool). b / first_unit s ≡ first / first_unit s) test h

high_short : (b first : ℕ) → first < 128 → b / first_unit (nat_lt first 128) ≡ first / first_unit (nat_lt first 128)
    → b / 32 ≡ first / 32
high_short b first short h =
    let test : nat_lt first 128 ≡ true = grind (arith, nat_tests) in
    subst (λ (s : Bool). b / first_unit s ≡ first / first_unit s) test h

size_bounds : (number : PacketNumber) → (1 ≤ number_size number) × (number_size number ≤ 4)
size_bounds (U8 x) = (omega arith, omega arith)
size_bounds (U16 x) = (omega arith, omega arith)
size_bounds (U24 x) = (omega arith, omega arith)
size_bounds (U32 x) = (omega arith, omega arith)

-- the tables of the types, and the index of a type in them
back_in : (second : Bool) (ty : LongHeaderType)
    → (place_of ty (cond {A = List LongHeaderType} second (kind.Retry ∷ kind.Initial ∷ kind.Standard ZeroRtt
    ∷ kind.Standard Handshake ∷ []) (kind.Initial ∷ kind.Standard ZeroRtt ∷ kind.Standard Handshake ∷ kind.Retry
    ∷ [])) ≤ 3)
    × (slice_index_or (cond {A = List LongHeaderType} second
    (kind.Retry ∷ kind.Initial ∷ kind.Standard ZeroRtt ∷ kind.Standard Handshake ∷ [])
    (kind.Initial ∷ kind.Standard ZeroRtt ∷ kind.Standard Handshake ∷ kind.Retry ∷ []))
    (place_of ty (cond {A = List LongHeaderType} second (kind.Retry ∷ kind.Initial ∷ kind.Standard ZeroRtt
    ∷ kind.Standard Handshake ∷ []) (kind.Initial ∷ kind.Standard ZeroRtt ∷ kind.Standard Handshake ∷ kind.Retry
    ∷ []))) kind.Retry ≡ ty)
back_in true kind.Initial = (omega arith, refl)
back_in true kind.Retry = (omega arith, refl)
back_in true (kind.Standard ZeroRtt) = (omega arith, refl)
back_in true (kind.Standard Handshake) = (omega arith, refl)
back_in false kind.Initial = (omega arith, refl)
back_in false kind.Retry = (omega arith, refl)
back_in false (kind.Standard ZeroRtt) = (omega arith, refl)
back_in false (kind.Standard Handshake) = (omega arith, refl)

type_back : (version : ℕ) (ty : LongHeaderType)
    → (type_number version ty ≤ 3) × (slice_index_or (types_of version) (type_number version ty) kind.Retry ≡ ty)
type_back version ty = back_in (nat_eq version version_2) ty

regroup : (front len number body : List ℕ) → (front ++ (len ++ number)) ++ body ≡ (front ++ len) ++ (number ++ body)
regroup front len number body =
    ap (λ (xs : List ℕ). xs ++ body) (sym (append_assoc front len number)) ∙ append_assoc (front ++ len) number body

-- the first byte of a long header, whose low bits were changed
record LongByte (version : ℕ) (ty : LongHeaderType) (b : ℕ) : Type 0 where
  long : 128 ≤ b
  fixed : b / 64 % 2 ≡ 1
  is : long_type version b ≡ ty

long_byte : (version b size : ℕ) (ty : LongHeaderType) → 1 ≤ size → size ≤ 4
    → b / first_unit (nat_lt (long_first version ty size) 128)
    ≡ long_first version ty size / first_unit (nat_lt (long_first version ty size) 128)
    → LongByte version ty b
long_byte version b size ty low up h =
    let t : ℕ = type_number version ty in
    let back = type_back version ty in
    let same : b / 16 ≡ (192 + 16 * t + (size - 1)) / 16 = high_long b (long_first version ty size) (omega arith) h in
    let third : t ≤ 3 = back.0 in
    let place : b / 16 % 4 ≡ t = omega arith in
    record {
      long = omega arith;
      fixed = omega arith;
      is = ap (λ (k : ℕ). slice_index_or (types_of version) k kind.Retry) place ∙ back.1;
    }

low_byte : (version size : ℕ) (ty : LongHeaderType) → 1 ≤ size → size ≤ 4 → long_first version ty size % 4 + 1 ≡ size
low_byte version size ty low up = omega arith

joined : (front len behind rest : List ℕ) → ((front ++ len) ++ behind) ++ rest ≡ front ++ (len ++ (behind ++ rest))
joined front len behind rest = append_assoc (front ++ len) behind rest ∙ append_assoc front len (behind ++ rest)

-- ---- 0-RTT and Handshake

long_sealed : (seal : KeyPair) (key : KeyPair) → Lawful seal key
    → (options : DecodeOptions) (ty : LongType) (dst src : List ℕ) (number : PacketNumber) (version n : ℕ) (payload packet rest : List ℕ)
    → SealedOf seal (header.Long ty dst src number version) n payload packet
    → IsReadable options (header.Long ty dst src number version) rest
    → Found seal key options (header.Long ty dst src number version) n payload packet rest
long_sealed seal key laws options ty dst src number version n payload packet rest sealed read =
    let h : Header = header.Long ty dst src number version in
    let size : ℕ = number_size number in
    let bounds = size_bounds number in
    let count : ℕ = protected_len seal.tag_size h payload in
    let len : List ℕ = bytes_of 2 (2 ^ 14 + count) in
    let first : ℕ = long_first version (kind.Standard ty) size in
    let tail : List ℕ = bytes_of 4 version ++ (long_id dst ++ long_id src) in
    let body : List ℕ = seal.sealed n (sealed_header seal.tag_size h payload) payload in
    let at : ℕ = header_size h - size_in h in
    let same : plain_of seal h n payload ≡ (first ∷ (tail ++ len)) ++ (number_bytes number ++ body) =
    regroup (first ∷ tail) len (number_bytes number) body in
    let at_is : at ≡ length (first ∷ (tail ++ len)) =
    omega (arith, front_length h refl, length-append (first ∷ tail) len, law.length-bytes_of 2 (2 ^ 14 + count)) in
    let it =
    sealed_shape seal key laws h n payload packet sealed refl first (tail ++ len) (number_bytes number ++ body) same at_is in
    let b : ℕ = get_or packet 0 0 in
    let byte = long_byte version b size (kind.Standard ty) bounds.0 bounds.1 it.high in
    let behind : List ℕ = drop at packet in
    let whole : packet ++ rest ≡ (b ∷ tail) ++ (len ++ (behind ++ rest)) =
    ap (λ (xs : List ℕ). xs ++ rest) it.text ∙ joined (b ∷ tail) len behind rest in
    let start : LongStart options (packet ++ rest) b version dst src (len ++ (behind ++ rest)) = record {
      long = byte.long;
      fixed = fixed_set options b byte.fixed;
      range = read.0;
      dst_len = read.2;
      src_len = read.3;
      text = whole;
    } in
    let total : length packet ≡ header_size h + (length payload + seal.tag_size) =
    it.len ∙ sym (ap length same) ∙ plain_length seal key laws h n payload packet sealed refl in
    let fit : size_in h ≤ header_size h = size_within h in
    let left : length behind ≡ length packet - at = length-drop at packet in
    record {
      cut = (
        protected.Long ty dst src count version,
        (
          behind ++ rest,
          long_header options (length (packet ++ rest)) (packet ++ rest) b version dst src len (behind ++ rest) ty count
              start read.1 byte.is (length_encoded count (sealed.short refl)),
          omega (arith, length-append behind rest, length-append packet rest),
          omega arith,
          omega (arith, length-append packet rest),
        ),
        refl,
        λ got end opened.
            let known : opened.0 ≡ number = number_known opened.0 number first (tail ++ len) body at at_is
            (low_byte version size (kind.Standard ty) bounds.0 bounds.1) sealed.writable.1
            (subst (IsNumberIn opened.0 at) same opened.1) in (
              opened.2 ∙ ap (λ (k : PacketNumber). header.Long ty dst src k version) known,
              opened.3 ∙ ap (λ (k : PacketNumber). at + number_size k) known ∙ omega arith,
            ),
        (
          number,
          subst (IsNumberIn number at) (sym same) (number_there number first (tail ++ len) body at at_is
              (low_byte version size (kind.Standard ty) bounds.0 bounds.1) sealed.writable.1),
          refl,
          omega arith,
        ),
      );
      sample = record {
        after_first = omega arith;
        room = (let enough : 4 + seal.sample_len ≤ size + length payload
            + seal.tag_size = sealed.sample in omega (arith, laws.sample_same));
      };
      back = it.back ∙ sym same;
    }

-- ---- Initial

initial_sealed : (seal : KeyPair) (key : KeyPair) → Lawful seal key
    → (options : DecodeOptions) (i : InitialHeader) (n : ℕ) (payload packet rest : List ℕ)
    → SealedOf seal (header.Initial i) n payload packet → IsReadable options (header.Initial i) rest
    → Found seal key options (header.Initial i) n payload packet rest
initial_sealed seal key laws options i n payload packet rest sealed read =
    let h : Header = header.Initial i in
    let version : ℕ = i.version in
    let token : List ℕ = i.token in
    let number : PacketNumber = i.number in
    let size : ℕ = number_size number in
    let bounds = size_bounds number in
    let count : ℕ = protected_len seal.tag_size h payload in
    let len : List ℕ = bytes_of 2 (2 ^ 14 + count) in
    let var : List ℕ = shortest_varint (length token) in
    let first : ℕ = long_first version kind.Initial size in
    let tail : List ℕ = bytes_of 4 version ++ (long_id i.dst_cid ++ long_id i.src_cid) in
    let front : List ℕ = tail ++ (var ++ token) in
    let body : List ℕ = seal.sealed n (sealed_header seal.tag_size h payload) payload in
    let at : ℕ = header_size h - size_in h in
    let same : plain_of seal h n payload ≡ (first ∷ (front ++ len)) ++ (number_bytes number ++ body) =
    regroup (first ∷ front) len (number_bytes number) body in
    let at_is : at ≡ length (first ∷ (front ++ len)) =
    omega (arith, front_length h refl, length-append (first ∷ front) len, law.length-bytes_of 2 (2 ^ 14 + count)) in
    let it =
    sealed_shape seal key laws h n payload packet sealed refl first (front ++ len) (number_bytes number ++ body) same at_is in
    let b : ℕ = get_or packet 0 0 in
    let byte = long_byte version b size kind.Initial bounds.0 bounds.1 it.high in
    let behind : List ℕ = drop at packet in
    let after : List ℕ = len ++ (behind ++ rest) in
    let whole : packet ++ rest ≡ (b ∷ tail) ++ (var ++ (token ++ after)) =
    ap (λ (xs : List ℕ). xs ++ rest) it.text ∙ joined (b ∷ front) len behind rest
    ∙ append_assoc (b ∷ tail) (var ++ token) after
    ∙ ap (λ (xs : List ℕ). (b ∷ tail) ++ xs) (append_assoc var token after) in
    let start : LongStart options (packet ++ rest) b version i.dst_cid i.src_cid (var ++ (token ++ after)) = record {
      long = byte.long;
      fixed = fixed_set options b byte.fixed;
      range = read.0;
      dst_len = read.2;
      src_len = read.3;
      text = whole;
    } in
    let total : length packet ≡ header_size h + (length payload + seal.tag_size) =
    it.len ∙ sym (ap length same) ∙ plain_length seal key laws h n payload packet sealed refl in
    let fit : size_in h ≤ header_size h = size_within h in
    let left : length behind ≡ length packet - at = length-drop at packet in
    let top : length (b ∷ tail) ≡ 7 + length i.dst_cid + length i.src_cid = long_length b version i.dst_cid i.src_cid in
    let token_at : ℕ = 7 + length i.dst_cid + length i.src_cid + length var in
    let token_found : slice_range (plain_of seal h n payload) token_at (token_at + length token) ≡ token =
    ap (λ (xs : List ℕ). slice_range xs token_at (token_at + length token))
    (ap (λ (xs : List ℕ). (xs ++ (len ++ number_bytes number)) ++ body) (sym (append_assoc (first ∷ tail) var token))
    ∙ append_assoc (((first ∷ tail) ++ var) ++ token) (len ++ number_bytes number) body
    ∙ append_assoc ((first ∷ tail) ++ var) token ((len ++ number_bytes number) ++ body))
    ∙ middle ((first ∷ tail) ++ var) token ((len ++ number_bytes number) ++ body) token_at (token_at + length token)
    (omega (arith, length-append (first ∷ tail) var, long_length first version i.dst_cid i.src_cid))
    (omega (arith, length-append (first ∷ tail) var, long_length first version i.dst_cid i.src_cid)) in
    let found : ProtectedInitialHeader =
    record {
      dst_cid = i.dst_cid;
      src_cid = i.src_cid;
      token_pos =
          record { start = token_at; end = token_at + length token };
      len = count;
      version = version;
    } in
    record {
      cut = (
        protected.Initial found,
        (
          behind ++ rest,
          initial_header options (length (packet ++ rest)) (packet ++ rest) b var token len (behind ++ rest) found start read.1 byte.is
              (law.shortest_encodes (length token) sealed.writable.0) (length_encoded count (sealed.short refl))
              (omega (
                arith,
                ap length whole,
                length-append (b ∷ tail) (var ++ (token ++ after)),
                length-append var (token ++ after),
                length-append token after,
                top,
              )) refl,
          omega (arith, length-append behind rest, length-append packet rest),
          omega arith,
          omega (arith, length-append packet rest),
        ),
        refl,
        λ got end opened.
            let known : opened.0 ≡ number = number_known opened.0 number first (front ++ len) body at at_is
            (low_byte version size kind.Initial bounds.0 bounds.1) sealed.writable.1
            (subst (IsNumberIn opened.0 at) same opened.1) in
            let made : PacketNumber → List ℕ → Header = λ k t. header.Initial
            (record { dst_cid = i.dst_cid; src_cid = i.src_cid; token = t; number = k; version = version }) in (
              opened.2 ∙ ap (λ (t : List ℕ). made opened.0 t) token_found
                  ∙ ap (λ (k : PacketNumber). made k token) known,
              opened.3 ∙ ap (λ (k : PacketNumber). at + number_size k) known ∙ omega arith,
            ),
        (
          number,
          subst (IsNumberIn number at) (sym same) (number_there number first (front ++ len) body at at_is
              (low_byte version size kind.Initial bounds.0 bounds.1) sealed.writable.1),
          ap (λ (t : List ℕ). let made : Header = header.Initial
              (record { dst_cid = i.dst_cid; src_cid = i.src_cid; token = t; number = number; version = version }) in
              made) (sym token_found),
          omega arith,
        ),
      );
      sample = record {
        after_first = omega arith;
        room = (let enough : 4 + seal.sample_len ≤ size + length payload
            + seal.tag_size = sealed.sample in omega (arith, laws.sample_same));
      };
      back = it.back ∙ sym same;
    }

-- ---- short headers

-- the bits of a short header's first byte
abbrev short_first : Bool → Bool → ℕ → ℕ
short_first spin key_phase size = 64 + bit_value spin 32 + bit_value key_phase 4 + (size - 1)

record ShortByte (spin key_phase : Bool) (size b : ℕ) : Type 0 where
  short : b < 128
  fixed : b / 64 % 2 ≡ 1
  spin_bit : spin ≡ nat_eq (b / 32 % 2) 1
  phase_bit : nat_eq (short_first spin key_phase size / 4 % 2) 1 ≡ key_phase
  low : short_first spin key_phase size % 4 + 1 ≡ size

first_small : (spin key_phase : Bool) (size : ℕ) → size ≤ 4 → short_first spin key_phase size < 128
first_small true true size up = omega arith
first_small true false size up = omega arith
first_small false true size up = omega arith
first_small false false size up = omega arith

is_one : (m : ℕ) → m ≡ 1 → nat_eq m 1 ≡ true
is_one m e = grind (arith, nat_tests)

is_none : (m : ℕ) → m ≡ 0 → nat_eq m 1 ≡ false
is_none m e = grind (arith, nat_tests)

short_byte : (spin key_phase : Bool) (size b : ℕ) → 1 ≤ size → size ≤ 4 → b / 32 ≡ short_first spin key_phase size / 32
    → ShortByte spin key_phase size b
short_byte true true size b low up h =
    record {
      short = omega arith;
      fixed = omega arith;
      spin_bit = sym (is_one (b / 32 % 2) (omega arith));
      phase_bit = is_one (short_first true true size / 4 % 2) (omega arith);
      low = omega arith;
    }
short_byte true false size b low up h =
    record {
      short = omega arith;
      fixed = omega arith;
      spin_bit = sym (is_one (b / 32 % 2) (omega arith));
      phase_bit = is_none (short_first true false size / 4 % 2) (omega arith);
      low = omega arith;
    }
short_byte false true size b low up h =
    record {
      short = omega arith;
      fixed = omega arith;
      spin_bit = sym (is_none (b / 32 % 2) (omega arith));
      phase_bit = is_one (short_first false true size / 4 % 2) (omega arith);
      low = omega arith;
    }
short_byte false false size b low up h =
    record {
      short = omega arith;
      fixed = omega arith;
      spin_bit = sym (is_none (b / 32 % 2) (omega arith));
      phase_bit = is_none (short_first false false size / 4 % 2) (omega arith);
      low = omega arith;
    }

short_sealed : (seal : KeyPair) (key : KeyPair) → Lawful seal key
    → (options : DecodeOptions) (spin key_phase : Bool) (dst : List ℕ) (number : PacketNumber) (n : ℕ) (payload packet rest : List ℕ)
    → SealedOf seal (header.Short spin key_phase dst number) n payload packet
    → IsReadable options (header.Short spin key_phase dst number) rest
    → Found seal key options (header.Short spin key_phase dst number) n payload packet rest
short_sealed seal key laws options spin key_phase dst number n payload packet rest sealed read =
    let h : Header = header.Short spin key_phase dst number in
    let size : ℕ = number_size number in
    let bounds = size_bounds number in
    let first : ℕ = short_first spin key_phase size in
    let body : List ℕ = seal.sealed n (sealed_header seal.tag_size h payload) payload in
    let at : ℕ = header_size h - size_in h in
    let same : plain_of seal h n payload ≡ (first ∷ dst) ++ (number_bytes number ++ body) =
    append_assoc (first ∷ dst) (number_bytes number) body in
    let at_is : at ≡ length (first ∷ dst) =
    omega (arith, length-append (first ∷ dst) (number_bytes number), number_length number) in
    let it =
    sealed_shape seal key laws h n payload packet sealed refl first dst (number_bytes number ++ body) same at_is in
    let b : ℕ = get_or packet 0 0 in
    let byte =
    short_byte spin key_phase size b bounds.0 bounds.1 (high_short b first (first_small spin key_phase size bounds.1) it.high) in
    let behind : List ℕ = drop at packet in
    let whole : packet ++ rest ≡ b ∷ (dst ++ (behind ++ rest)) =
    ap (λ (xs : List ℕ). xs ++ rest) it.text ∙ append_assoc (b ∷ dst) behind rest in
    let total : length packet ≡ header_size h + (length payload + seal.tag_size) =
    it.len ∙ sym (ap length same) ∙ plain_length seal key laws h n payload packet sealed refl in
    let left : length behind ≡ length packet - at = length-drop at packet in
    let ends : length packet ≡ length (packet ++ rest) = omega (arith, length-append packet rest, ap length read.0) in
    record {
      cut = (
        protected.Short spin dst,
        (
          behind ++ rest,
          short_header options (length (packet ++ rest)) (packet ++ rest) b spin dst dst (behind ++ rest) byte.short
              (fixed_set options b byte.fixed) whole (read.1 (behind ++ rest)) byte.spin_bit,
          omega (arith, length-append behind rest, length-append packet rest),
          ends,
          omega arith,
        ),
        refl,
        λ got end opened.
            let known : opened.0 ≡ number = number_known opened.0 number first dst body at at_is byte.low sealed.writable.1
            (subst (IsNumberIn opened.0 at) same opened.1) in
            let phase : nat_eq (slice_index (plain_of seal h n payload) 0 / 4 % 2) 1 ≡ key_phase = byte.phase_bit in (
              opened.2 ∙ ap (λ (p : Bool). header.Short spin p dst opened.0) phase
                  ∙ ap (λ (k : PacketNumber). header.Short spin key_phase dst k) known,
              opened.3 ∙ ap (λ (k : PacketNumber). at + number_size k) known ∙ omega arith,
            ),
        (
          number,
          subst (IsNumberIn number at) (sym same) (number_there number first dst body at at_is byte.low sealed.writable.1),
          ap (λ (p : Bool). let made : Header = header.Short spin p dst number in made) (sym byte.phase_bit),
          omega arith,
        ),
      );
      sample = record {
        after_first = omega arith;
        room = (let enough : 4 + seal.sample_len ≤ size + length payload
            + seal.tag_size = sealed.sample in omega (arith, laws.sample_same));
      };
      back = it.back ∙ sym same;
    }

pub sealed_found : (seal : KeyPair) (key : KeyPair) → Lawful seal key
    → (options : DecodeOptions) (h : Header) (n : ℕ) (payload packet rest : List ℕ)
    → SealedOf seal h n payload packet → IsReadable options h rest → Found seal key options h n payload packet rest
sealed_found seal key laws options (header.Initial i) n payload packet rest sealed read =
    initial_sealed seal key laws options i n payload packet rest sealed read
sealed_found seal key laws options (header.Long ty dst src number version) n payload packet rest sealed read =
    long_sealed seal key laws options ty dst src number version n payload packet rest sealed read
sealed_found seal key laws options (header.Retry dst src version) n payload packet rest sealed read = absurd read
sealed_found seal key laws options (header.Short spin key_phase dst number) n payload packet rest sealed read =
    short_sealed seal key laws options spin key_phase dst number n payload packet rest sealed read
sealed_found seal key laws options (header.VersionNegotiate random src dst) n payload packet rest sealed read =
    absurd read

pub read_numbered : (options : DecodeOptions) (h : Header) (rest : List ℕ) → IsReadable options h rest
    → IsTrue (has_number h)
read_numbered options (header.Initial i) rest read = refl
read_numbered options (header.Long ty dst src number version) rest read = refl
read_numbered options (header.Retry dst src version) rest read = absurd read
read_numbered options (header.Short spin key_phase dst number) rest read = refl
read_numbered options (header.VersionNegotiate random src dst) rest read = absurd read
