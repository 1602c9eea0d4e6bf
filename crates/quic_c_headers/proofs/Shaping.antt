-- The fields of a header that can be written are those of its kind.
use Rattle.std.proofs.Common.{◌≡◌, ℕ, ◌<◌, ◌≤◌, ◌^◌, ◌⊎◌, List, length, Bool, Some, refl, sym, subst, inl, inr, arith}
use Rattle.quic_crypto.specs.declared.packet_number.PacketNumber.{PacketNumber}
use Rattle.quic_header_encode.proofs.Sizes.{number_few}
use Rattle.quic_header_encode.specs.declared.long_type.LongType.TheVariants.{Handshake, ZeroRtt}
use Rattle.quic_base.specs.Varint.{IsWidth}
use Rattle.quic_header_encode.specs.declared.header.Header.{Header}
use Rattle.quic_header_encode.specs.declared.header.Header.TheVariants as header
use Rattle.quic_c_headers.specs.declared.words.HeaderFields.{HeaderFields}
use Rattle.quic_c_headers.specs.Headers.{DescribesNumber, CanWriteHeader}
use Rattle.quic_c_headers.specs.Headers.{AreParts, IsNumbered, IsShaped}

with_number : (words : HeaderFields) (number : PacketNumber)
    → DescribesNumber words.number words.number_len (Some number)
    → (words.kind ≤ 2 → IsWidth words.length_len) → IsNumbered words
with_number words number s len =
    let z = number_few number in
    record { number = λ _. (omega (arith, s.1, z.0), omega (arith, s.1, z.1), s.0); len = len }

without_number : (words : HeaderFields) → (words.kind ≡ 3) ⊎ (words.kind ≡ 5) → IsNumbered words
without_number words kind =
    record { number = λ e. absurd (omega (arith, kind, e)); len = λ e. absurd (omega (arith, kind, e)) }

-- the parts of a header that has no token
no_token : (kind : ℕ) (dst src token : List ℕ) → 0 < kind → length dst ≤ 20 → length src ≤ 20
    → AreParts kind dst src token
no_token kind dst src token some dst_few src_few =
    record { dst_few = dst_few; src_few = λ _. src_few; token_short = λ e. absurd (omega (arith, some, e)) }

pub shaped : (words : HeaderFields) (dst src token : List ℕ) (clear : Bool) (head : Header)
    → CanWriteHeader words dst src token clear head → IsShaped words dst src token
shaped words dst src token clear (header.Initial h) can =
    let k : words.kind ≡ 0 = can.described.kind in
    record {
      known = omega (arith, k);
      numbered = with_number words h.number can.described.number (λ _. can.described.len refl);
      named = λ _. (can.described.version refl).1;
      parts = record {
        dst_few = can.dst_few;
        src_few = λ _. (can.described.src_is refl).1;
        token_short = λ _. subst (λ (t : List ℕ). length t < 2 ^ 62) (sym (can.described.token_is refl)) can.writable.0;
      };
    }
shaped words dst src token clear (header.Long ZeroRtt to from number version) can =
    let k : words.kind ≡ 1 = can.described.kind in
    record {
      known = omega (arith, k);
      numbered = with_number words number can.described.number (λ _. can.described.len refl);
      named = λ _. (can.described.version refl).1;
      parts = no_token words.kind dst src token (omega (arith, k)) can.dst_few (can.described.src_is refl).1;
    }
shaped words dst src token clear (header.Long Handshake to from number version) can =
    let k : words.kind ≡ 2 = can.described.kind in
    record {
      known = omega (arith, k);
      numbered = with_number words number can.described.number (λ _. can.described.len refl);
      named = λ _. (can.described.version refl).1;
      parts = no_token words.kind dst src token (omega (arith, k)) can.dst_few (can.described.src_is refl).1;
    }
shaped words dst src token clear (header.Retry to from version) can =
    let k : words.kind ≡ 3 = can.described.kind in
    record {
      known = omega (arith, k);
      numbered = without_number words (inl k);
      named = λ _. (can.described.version refl).1;
      parts = no_token words.kind dst src token (omega (arith, k)) can.dst_few (can.described.src_is refl).1;
    }
shaped words dst src token clear (header.Short spin key_phase to number) can =
    let k : words.kind ≡ 4 = can.described.kind in
    record {
      known = omega (arith, k);
      numbered = with_number words number can.described.number (λ e. absurd (omega (arith, k, e)));
      named = λ e. absurd (omega (arith, k, e));
      parts = record { dst_few = can.dst_few; src_few = λ other. absurd (other k); token_short = λ e. absurd (omega (arith, k, e)) };
    }
shaped words dst src token clear (header.VersionNegotiate random from to) can =
    let k : words.kind ≡ 5 = can.described.kind in
    record {
      known = omega (arith, k);
      numbered = without_number words (inr k);
      named = λ e. absurd (omega (arith, k, e));
      parts = no_token words.kind dst src token (omega (arith, k)) can.dst_few (can.described.src_is refl).1;
    }
