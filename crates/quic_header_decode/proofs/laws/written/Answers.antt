-- By the parts of a head.
use Rattle.std.specs.Prelude.{◌<◌, length}
use Rattle.std.proofs.Common.{◌≡◌, ℕ, ◌+◌, ◌-◌, ◌/◌, ◌%◌, ◌≤◌, ◌∙◌, ◌++◌, Bool, true, false, List, [], ◌∷◌, cond, nat_eq, slice_index_or, bit_or, refl, ap, arith, append_assoc}
use Rattle.std.proofs.lemmas.Nat.{or_shifted}
use Rattle.std.proofs.lemmas.Bool.Decides.{nat_tests}
use Rattle.quic_base.specs.Varint.{shortest_varint}
use Rattle.quic_base.proofs.PublicLaws as law
use Rattle.quic_crypto.specs.declared.packet_number.PacketNumber.{PacketNumber}
use Rattle.quic_crypto.specs.declared.packet_number.PacketNumber.TheVariants.{U8, U16, U24, U32}
use Rattle.quic_crypto.specs.PacketNumbers.{number_size, number_bytes}
use Rattle.quic_header_encode.specs.declared.long_type.LongHeaderType.{LongHeaderType}
use Rattle.quic_header_encode.specs.declared.long_type.LongHeaderType.TheVariants as kind
use Rattle.quic_header_encode.specs.declared.long_type.LongType.TheVariants.{Handshake, ZeroRtt}
use Rattle.quic_header_encode.specs.Types.{version_2, types_of, long_type, type_number, first_byte, place_of}
use Rattle.quic_header_encode.specs.Kinds.{long_front}
use Rattle.quic_header_encode.specs.Kinds.{bit_value}
use Rattle.quic_header_decode.proofs.Made.{fixed_set, initial_header, long_header, retry_header, short_header, negotiation_header}
use Rattle.quic_header_decode.proofs.laws.written.Goals as goal

size_bounds : (number : PacketNumber) → (1 ≤ number_size number) × (number_size number ≤ 4)
size_bounds (U8 x) = (omega arith, omega arith)
size_bounds (U16 x) = (omega arith, omega arith)
size_bounds (U24 x) = (omega arith, omega arith)
size_bounds (U32 x) = (omega arith, omega arith)

-- ---- the first bytes of long headers

-- the types of long headers, of version 2 or another
abbrev table : Bool → List LongHeaderType
table second =
    cond second (kind.Retry ∷ kind.Initial ∷ kind.Standard ZeroRtt ∷ kind.Standard Handshake ∷ [])
    (kind.Initial ∷ kind.Standard ZeroRtt ∷ kind.Standard Handshake ∷ kind.Retry ∷ [])

back_in : (second : Bool) (ty : LongHeaderType)
    → (place_of ty (table second) ≤ 3) × (slice_index_or (table second) (place_of ty (table second)) kind.Retry ≡ ty)
back_in true kind.Initial = (omega arith, refl)
back_in true kind.Retry = (omega arith, refl)
back_in true (kind.Standard ZeroRtt) = (omega arith, refl)
back_in true (kind.Standard Handshake) = (omega arith, refl)
back_in false kind.Initial = (omega arith, refl)
back_in false kind.Retry = (omega arith, refl)
back_in false (kind.Standard ZeroRtt) = (omega arith, refl)
back_in false (kind.Standard Handshake) = (omega arith, refl)

-- the first byte of a long header with a number of that many bytes
abbrev long_first : ℕ → LongHeaderType → ℕ → ℕ
long_first version ty count = first_byte version ty + (count - 1)

record LongByte (version : ℕ) (ty : LongHeaderType) (first : ℕ) : Type 0 where
  long : 128 ≤ first
  fixed : first / 64 % 2 ≡ 1
  is : long_type version first ≡ ty

long_byte : (version first low : ℕ) (ty : LongHeaderType) → low < 4 → first ≡ first_byte version ty + low
    → LongByte version ty first
long_byte version first low ty small from =
    let back = back_in (nat_eq version version_2) ty in
    let third : type_number version ty ≤ 3 = back.0 in
    let place : first / 16 % 4 ≡ type_number version ty = omega (arith, from) in
    record {
      long = omega (arith, from);
      fixed = omega (arith, from);
      is = ap (λ (k : ℕ). slice_index_or (types_of version) k kind.Retry) place ∙ back.1;
    }

apart : (front len number rest : List ℕ) → (front ++ (len ++ number)) ++ rest ≡ front ++ (len ++ (number ++ rest))
apart front len number rest =
    append_assoc front (len ++ number) rest ∙ ap (λ (xs : List ℕ). front ++ xs) (append_assoc len number rest)

pub returns-clause-initial : goal.returns-clause-initial
returns-clause-initial c = λ options whole start n h len rest range known dst_len src_len token_fits encoded place.
    let size : ℕ = number_size h.number in
    let bounds = size_bounds h.number in
    let first : ℕ = long_first h.version kind.Initial size in
    let byte = long_byte h.version first (size - 1) kind.Initial (omega (arith, bounds.0, bounds.1)) refl in
    let front : List ℕ = long_front first h.version h.dst_cid h.src_cid in
    let count : List ℕ = shortest_varint (length h.token) in
    let behind : List ℕ = number_bytes h.number ++ rest in
    let text : ((front ++ (count ++ h.token)) ++ (len ++ number_bytes h.number)) ++ rest ≡ front
    ++ (count ++ (h.token ++ (len ++ behind))) =
    apart (front ++ (count ++ h.token)) len (number_bytes h.number) rest
    ∙ append_assoc front (count ++ h.token) (len ++ behind)
    ∙ ap (λ (xs : List ℕ). front ++ xs) (append_assoc count h.token (len ++ behind)) in
    initial_header options whole (((front ++ (count ++ h.token)) ++ (len ++ number_bytes h.number)) ++ rest) first count h.token len behind
    (record {
      dst_cid = h.dst_cid;
      src_cid = h.src_cid;
      token_pos =
          record { start = start; end = start + length h.token };
      len = n;
      version = h.version;
    })
    (record {
      long = byte.long;
      fixed = fixed_set options first byte.fixed;
      range = range;
      dst_len = dst_len;
      src_len = src_len;
      text = text;
    })
    known byte.is (law.shortest_encodes (length h.token) token_fits) encoded place refl

pub returns-clause-long : goal.returns-clause-long
returns-clause-long c = λ options whole n version ty dst src len rest number range known dst_len src_len encoded.
    let size : ℕ = number_size number in
    let bounds = size_bounds number in
    let first : ℕ = long_first version (kind.Standard ty) size in
    let byte = long_byte version first (size - 1) (kind.Standard ty) (omega (arith, bounds.0, bounds.1)) refl in
    let front : List ℕ = long_front first version dst src in
    long_header options whole ((front ++ (len ++ number_bytes number)) ++ rest) first version dst src len (number_bytes number ++ rest) ty n
    (record {
      long = byte.long;
      fixed = fixed_set options first byte.fixed;
      range = range;
      dst_len = dst_len;
      src_len = src_len;
      text = apart front len (number_bytes number) rest;
    })
    known byte.is encoded

pub returns-clause-retry : goal.returns-clause-retry
returns-clause-retry c = λ options whole version dst src rest range known dst_len src_len.
    let first : ℕ = first_byte version kind.Retry in
    let byte = long_byte version first 0 kind.Retry (omega arith) (omega arith) in
    retry_header options whole (long_front first version dst src ++ rest) first version dst src rest
    (record {
      long = byte.long;
      fixed = fixed_set options first byte.fixed;
      range = range;
      dst_len = dst_len;
      src_len = src_len;
      text = refl;
    }) known byte.is

pub returns-clause-negotiation : goal.returns-clause-negotiation
returns-clause-negotiation c = λ options whole random dst src rest free fixed dst_len src_len.
    negotiation_header options whole (long_front (bit_or 128 random) 0 dst src ++ rest) random dst src rest
    (record {
      long = omega arith;
      fixed = fixed;
      range = omega arith;
      dst_len = dst_len;
      src_len = src_len;
      text = ap (λ (n : ℕ). long_front n 0 dst src ++ rest) (or_shifted 1 7 random free);
    })

-- ---- short headers

abbrev short_first : Bool → Bool → ℕ → ℕ
short_first spin key_phase low = 64 + bit_value spin 32 + bit_value key_phase 4 + low

record ShortByte (spin : Bool) (first : ℕ) : Type 0 where
  short : first < 128
  fixed : first / 64 % 2 ≡ 1
  spins : spin ≡ nat_eq (first / 32 % 2) 1

is_one : (m : ℕ) → m ≡ 1 → true ≡ nat_eq m 1
is_one m e = grind (arith, nat_tests)

is_none : (m : ℕ) → m ≡ 0 → false ≡ nat_eq m 1
is_none m e = grind (arith, nat_tests)

short_byte : (spin key_phase : Bool) (low : ℕ) → low < 4 → ShortByte spin (short_first spin key_phase low)
short_byte true true low small =
    record { short = omega arith; fixed = omega arith; spins = is_one (short_first true true low / 32 % 2) (omega arith) }
short_byte true false low small =
    record { short = omega arith; fixed = omega arith; spins = is_one (short_first true false low / 32 % 2) (omega arith) }
short_byte false true low small =
    record { short = omega arith; fixed = omega arith; spins = is_none (short_first false true low / 32 % 2) (omega arith) }
short_byte false false low small =
    record { short = omega arith; fixed = omega arith; spins = is_none (short_first false false low / 32 % 2) (omega arith) }

pub returns-clause-short : goal.returns-clause-short
returns-clause-short c = λ options whole spin key_phase dst rest number parsed.
    let bounds = size_bounds number in
    let low : ℕ = number_size number - 1 in
    let first : ℕ = short_first spin key_phase low in
    let byte = short_byte spin key_phase low (omega (arith, bounds.0, bounds.1)) in
    short_header options whole (((first ∷ dst) ++ number_bytes number) ++ rest) first spin dst dst
    (number_bytes number ++ rest) byte.short (fixed_set options first byte.fixed)
    (append_assoc (first ∷ dst) (number_bytes number) rest) parsed byte.spins
