-- The parts of a header with a number, in a packet.
use Rattle.std.specs.Prelude.{◌≡◌, ℕ, ◌+◌, ◌-◌, ◌*◌, ◌/◌, ◌%◌, ◌≤◌, Bool, true, false, List, [], ◌∷◌, ◌++◌, drop, length, nat_eq}
use Rattle.std.proofs.Common.{sym, ap, ◌∙◌, arith, refl, append_assoc}
use Rattle.std.proofs.lemmas.Bool.Decides.{nat_tests}
use Rattle.quic_crypto.specs.PacketNumbers.{number_size}
use Rattle.quic_crypto.specs.declared.packet_number.PacketNumber.{PacketNumber}
use Rattle.quic_crypto.specs.declared.packet_number.PacketNumber.TheVariants.{U8, U16, U24, U32}
use Rattle.quic_header_encode.specs.Kinds.{bit_value}
use Rattle.quic_header_encode.specs.Types.{type_number}
use Rattle.quic_header_encode.specs.declared.long_type.LongHeaderType.{LongHeaderType}

pub size_bounds : (number : PacketNumber) → (1 ≤ number_size number) × (number_size number ≤ 4)
size_bounds (U8 x) = (omega arith, omega arith)
size_bounds (U16 x) = (omega arith, omega arith)
size_bounds (U24 x) = (omega arith, omega arith)
size_bounds (U32 x) = (omega arith, omega arith)

pub regroup : (front len number body : List ℕ) → (front ++ (len ++ number)) ++ body ≡ (front ++ len) ++ (number ++ body)
regroup front len number body =
    ap (λ (xs : List ℕ). xs ++ body) (sym (append_assoc front len number)) ∙ append_assoc (front ++ len) number body

pub drop_front : (front back : List ℕ) → drop (length front) (front ++ back) ≡ back
drop_front [] back = refl
drop_front (x ∷ front) back = drop_front front back

pub behind : (packet front back : List ℕ) → packet ≡ front ++ back → drop (length front) packet ≡ back
behind packet front back split = ap (drop (length front)) split ∙ drop_front front back

abbrev pub long_first : ℕ → LongHeaderType → ℕ → ℕ
long_first version ty size = 0xc0 + 16 * type_number version ty + (size - 1)

-- the lowest bits say one less than the number's size
pub long_low : (version size : ℕ) (ty : LongHeaderType) → 1 ≤ size → size ≤ 4 → long_first version ty size % 4 + 1 ≡ size
long_low version size ty low up = omega arith

abbrev pub short_first : Bool → Bool → ℕ → ℕ
short_first spin key_phase size = 64 + bit_value spin 32 + bit_value key_phase 4 + (size - 1)

pub short_low : (spin key_phase : Bool) (size : ℕ) → 1 ≤ size → size ≤ 4 → short_first spin key_phase size % 4 + 1 ≡ size
short_low true true size low up = omega arith
short_low true false size low up = omega arith
short_low false true size low up = omega arith
short_low false false size low up = omega arith

is_one : (m : ℕ) → m ≡ 1 → true ≡ nat_eq m 1
is_one m e = grind (arith, nat_tests)

is_none : (m : ℕ) → m ≡ 0 → false ≡ nat_eq m 1
is_none m e = grind (arith, nat_tests)

pub short_phase : (spin key_phase : Bool) (size : ℕ) → 1 ≤ size → size ≤ 4
    → key_phase ≡ nat_eq (short_first spin key_phase size / 4 % 2) 1
short_phase true true size low up = is_one (short_first true true size / 4 % 2) (omega arith)
short_phase true false size low up = is_none (short_first true false size / 4 % 2) (omega arith)
short_phase false true size low up = is_one (short_first false true size / 4 % 2) (omega arith)
short_phase false false size low up = is_none (short_first false false size / 4 % 2) (omega arith)
