-- What was sealed is cut and opened.
use Rattle.std.specs.Prelude.{◌≡◌, ℕ, ◌+◌, ◌/◌, ◌%◌, ◌<◌, ◌^◌, true, List, [], ◌∷◌, ◌++◌, length, take, drop, Some, MatchOption, nat_lt, slice_range}
use Rattle.std.proofs.Common.{sym, ap, ◌∙◌, arith, refl, subst, get_or, length-append}
use Rattle.quic_base.specs.Number.{AreBytes, num, bytes_of}
use Rattle.quic_crypto.specs.Keys.{HasSample, Protects, first_unit}
use Rattle.quic_crypto.specs.declared.packet_number.PacketNumber.{PacketNumber}
use Rattle.quic_crypto.specs.declared.packet_number.PacketNumber.TheVariants.{U8, U16, U24, U32}
use Rattle.quic_crypto.specs.PacketNumbers.{number_size, number_bytes, low_part, IsInRange, NumberAt}
use Rattle.quic_header_decode.specs.Headers.{IsNumberIn}
use Rattle.quic_packets.specs.Pairs.{KeyPair}
use Rattle.quic_header_decode.specs.declared.protected.ProtectedHeader.{ProtectedHeader}
use Rattle.quic_header_decode.specs.declared.protected.ProtectedHeader.TheVariants as protected
use Rattle.quic_header_encode.specs.declared.header.Header.{Header}
use Rattle.quic_header_encode.specs.Kinds.{number_in}
use Rattle.quic_header_decode.specs.Headers.{IsOpenedBy}
use Rattle.quic_packets.proofs.Sealings.{middle, number_length}
use Rattle.quic_packets.proofs.Parts.{same_front, number_same}
use Rattle.quic_header_decode.proofs.Steps.{take_front, drop_front}
use Rattle.quic_base.proofs.PublicLaws as law

-- the keys that open are those that sealed
pub record Lawful (seal : KeyPair) (key : KeyPair) : Type 0 where
  pub sample_same : key.sample_len ≡ seal.sample_len
  pub protects : (at : ℕ) (packet : List ℕ) → AreBytes packet → HasSample seal.sample_len at packet
      → Protects at packet (seal.protected at packet)
  pub restores : (at : ℕ) (packet : List ℕ) → AreBytes packet → HasSample seal.sample_len at packet
      → key.unprotected at (seal.protected at packet) ≡ packet
  pub sealed_len : (n : ℕ) (head payload : List ℕ) → n < 2 ^ 64 → AreBytes head → AreBytes payload
      → length (seal.sealed n head payload) ≡ length payload + seal.tag_size
  pub opens : (n : ℕ) (head payload : List ℕ) → n < 2 ^ 64 → AreBytes head → AreBytes payload
      → key.opened n head (seal.sealed n head payload) ≡ Some payload

pub front_bytes : (xs ys : List ℕ) → AreBytes (xs ++ ys) → AreBytes xs
front_bytes = law.front_bytes

is_number_3 : (n : ℕ) → n < 2 ^ 24 → num (bytes_of 3 n) ≡ n
unfolding bytes_of
is_number_3 n small = omega (arith, small)

pub num_back : (number : PacketNumber) → IsInRange number → num (number_bytes number) ≡ low_part number
num_back (U8 x) h = (law.is_number_1 x h).value
num_back (U16 x) h = (law.is_number_2 x h).value
num_back (U24 x) h = (let is = is_number_3 x h in is)
num_back (U32 x) h = (law.is_number_4 x h).value

-- a packet whose header was protected, as a first byte, a front, and what follows
pub record Shape (key : KeyPair) (packet front plain : List ℕ) (first at : ℕ) : Type 0 where
  pub text : packet ≡ (get_or packet 0 0 ∷ front) ++ drop at packet
  pub len : length packet ≡ length plain
  pub high : get_or packet 0 0 / first_unit (nat_lt first 128) ≡ first / first_unit (nat_lt first 128)
  pub fits : get_or packet 0 0 < 256
  pub back : key.unprotected at packet ≡ plain

pub shape : (seal : KeyPair) (key : KeyPair) → Lawful seal key → (packet front numbers : List ℕ) (first at : ℕ)
    → AreBytes ((first ∷ front) ++ numbers)
    → HasSample seal.sample_len at ((first ∷ front) ++ numbers) → at ≡ length (first ∷ front)
    → packet ≡ seal.protected at ((first ∷ front) ++ numbers)
    → Shape key packet front ((first ∷ front) ++ numbers) first at
shape seal key laws packet front numbers first at fits sample at_is same =
    let plain : List ℕ = (first ∷ front) ++ numbers in
    let changes : Protects at plain packet =
    subst (Protects at plain) (sym same) (laws.protects at plain fits sample) in
    record {
      text = same_front plain packet front numbers first at refl changes.len at_is changes.before;
      len = changes.len;
      high = changes.first;
      fits = changes.bytes 0;
      back = ap (key.unprotected at) same ∙ laws.restores at plain fits sample;
    }

-- the number in a packet is the one that was written
pub number_known : (number written : PacketNumber) (first : ℕ) (front body : List ℕ) (at : ℕ)
    → at ≡ length (first ∷ front) → first % 4 + 1 ≡ number_size written → IsInRange written
    → IsNumberIn number at ((first ∷ front) ++ (number_bytes written ++ body)) → number ≡ written
number_known number written first front body at at_is size valid found =
    let same : number_size number ≡ number_size written = found.size ∙ size in
    let text : slice_range ((first ∷ front) ++ (number_bytes written ++ body)) at (at + number_size number) ≡ number_bytes written =
    middle (first ∷ front) (number_bytes written) body at (at + number_size number) at_is (omega (arith, number_length written)) in
    number_same number written same (sym found.text.value ∙ ap num text ∙ num_back written valid)

number_encoded : (number : PacketNumber) → IsInRange number → NumberAt number (number_bytes number)
unfolding bytes_of
number_encoded (U8 x) h = law.is_number_1 x h
number_encoded (U16 x) h = law.is_number_2 x h
number_encoded (U24 x) h =
    let four = law.is_number_4 x (omega (arith, h)) in
    record {
      bytes = law.back_bytes (x / 256 ^ 3 % 256 ∷ []) (bytes_of 3 x) four.bytes;
      width = law.length-bytes_of 3 x;
      value = is_number_3 x h;
    }
number_encoded (U32 x) h = law.is_number_4 x h

-- the number that was written is in the packet
pub number_there : (number : PacketNumber) (first : ℕ) (front body : List ℕ) (at : ℕ) → at ≡ length (first ∷ front)
    → first % 4 + 1 ≡ number_size number → IsInRange number
    → IsNumberIn number at ((first ∷ front) ++ (number_bytes number ++ body))
number_there number first front body at at_is size valid =
    let text : slice_range ((first ∷ front) ++ (number_bytes number ++ body)) at (at + number_size number) ≡ number_bytes number =
    middle (first ∷ front) (number_bytes number) body at (at + number_size number) at_is (omega (arith, number_length number)) in
    record {
      size = sym size;
      within = omega (
        arith,
        length-append (first ∷ front) (number_bytes number ++ body),
        length-append (number_bytes number) body,
        number_length number,
      );
      text = subst (NumberAt number) (sym text) (number_encoded number valid);
    }

-- two ways to cut a list at one offset
pub cut_same : (a b c d : List ℕ) → a ++ b ≡ c ++ d → length a ≡ length c → (a ≡ c) × (b ≡ d)
cut_same a b c d same long = (
  sym (take_front a b (length c) long) ∙ ap (take (length c)) same ∙ take_front c d (length c) refl,
  sym (drop_front a b (length c) long) ∙ ap (drop (length c)) same ∙ drop_front c d (length c) refl,
)

number_valid : (number : PacketNumber) (text : List ℕ) → NumberAt number text → IsInRange number
number_valid (U8 x) text t =
    let below : num text < 256 ^ 1 = subst (λ (k : ℕ). num text < 256 ^ k) t.width (law.num_below text t.bytes) in omega
    (arith, below, t.value)
number_valid (U16 x) text t =
    let below : num text < 256 ^ 2 = subst (λ (k : ℕ). num text < 256 ^ k) t.width (law.num_below text t.bytes) in omega
    (arith, below, t.value)
number_valid (U24 x) text t =
    let below : num text < 256 ^ 3 = subst (λ (k : ℕ). num text < 256 ^ k) t.width (law.num_below text t.bytes) in omega
    (arith, below, t.value)
number_valid (U32 x) text t =
    let below : num text < 256 ^ 4 = subst (λ (k : ℕ). num text < 256 ^ k) t.width (law.num_below text t.bytes) in omega
    (arith, below, t.value)

abbrev pub HasNumber : Header → Type 0
HasNumber h = MatchOption (number_in h) ⊥ IsInRange

-- the number of an open header is in range
pub opened_number : (h : ProtectedHeader) (at : ℕ) (got : Header) (packet : List ℕ) (end : ℕ)
    → IsOpenedBy true h at got packet end → HasNumber got
opened_number (protected.Initial i) at got packet end o = subst HasNumber (sym o.2) (number_valid o.0 _ o.1.text)
opened_number (protected.Long ty dst src len version) at got packet end o =
    subst HasNumber (sym o.2) (number_valid o.0 _ o.1.text)
opened_number (protected.Retry dst src version) at got packet end o = absurd o.2
opened_number (protected.Short spin dst) at got packet end o = subst HasNumber (sym o.2) (number_valid o.0 _ o.1.text)
opened_number (protected.VersionNegotiate random dst src) at got packet end o = absurd o.2
