-- The first range of an ACK.
use Rattle.std.proofs.Common.{◌≡◌, ℕ, ◌+◌, ◌-◌, ◌≤◌, List, [], ◌∷◌, refl, sym, ap, subst, ◌∙◌, arith}
use Rattle.std.specs.Prelude.{Ok, Err}
use Rattle.quic_base.specs.Number.{AreBytes}
use Rattle.quic_frame_fields.specs.declared.frame.fault.Fault.{Fault}
use Rattle.quic_frame_fields.specs.Field.{AreBelow, AreBlocks}
use Rattle.quic_frame_fields.specs.Reading.{varint_at}
use Rattle.quic_frame_fields.proofs.Steps.{ok_is, ok_is_not_err}
use Rattle.quic_frame_fields.specs.declared.frame.ack.Ack.{Ack}
use Rattle.quic_frame_fields.specs.Acks.{ranges_acked}
use Rattle.quic_frame_fields.proofs.Blocks.{acked}
use Rattle.quic_frame_fields.proofs.Varints.{varint_again}

-- The first range in blocks, and what is left after it.
pub record FirstGap (ack : Ack) (bytes : List ℕ) : Type 0 where
  pub least : ℕ
  pub below : List (ℕ × ℕ)
  pub rest : List ℕ
  pub ranges : ranges_acked ack ≡ (least, ack.largest) ∷ below
  pub within : least ≤ ack.largest
  pub len : varint_at bytes ≡ Ok (ack.largest - least, rest)
  pub encoded : AreBelow least below rest

pub first_gap : (ack : Ack) → AreBytes ack.additional.now → FirstGap ack ack.additional.now
first_gap ack fits = by_ranges (ranges_acked ack) refl (acked ack.largest ack.additional.now fits ack.valid)
  where
    by_ranges : (ranges : List (ℕ × ℕ)) → ranges_acked ack ≡ ranges → AreBlocks ack.largest ranges ack.additional.now
        → FirstGap ack ack.additional.now
    by_ranges [] e s = absurd s
    by_ranges (range ∷ below) e s =
        let is : ◌≡◌ {A = ℕ × ℕ} range (range.0, ack.largest) = ap (λ (n : ℕ). (range.0, n)) s.3 in
        record {
          least = range.0;
          below = below;
          rest = s.1;
          ranges = e ∙ ap (λ (r : ℕ × ℕ). r ∷ below) is;
          within = omega (arith, s.3, s.4);
          len = ap varint_at s.2 ∙ varint_again (range.1 - range.0) s.0 s.1 s.5 ∙ ap (λ (n : ℕ). Ok (n - range.0, s.1)) s.3;
          encoded = s.6;
        }

-- The same by the number that is read.
pub record FirstReads (ack : Ack) (n : ℕ) (rest : List ℕ) : Type 0 where
  pub least : ℕ
  pub below : List (ℕ × ℕ)
  pub ranges : ranges_acked ack ≡ (least, ack.largest) ∷ below
  pub first : least + n ≡ ack.largest
  pub encoded : AreBelow least below rest

pub first_reads : (ack : Ack) (bytes : List ℕ) (n : ℕ) (rest : List ℕ) → bytes ≡ ack.additional.now → AreBytes bytes
    → varint_at bytes ≡ Ok (n, rest) → FirstReads ack n rest
first_reads ack bytes n rest e fits h =
    let f = first_gap ack (subst AreBytes e fits) in
    let same : ◌≡◌ {A = ℕ × List ℕ} (ack.largest - f.least, f.rest) (n, rest) =
    ok_is (ack.largest - f.least, f.rest) (n, rest) (sym f.len ∙ ap varint_at (sym e) ∙ h) in
    let is : ack.largest - f.least ≡ n = ap (λ (x : ℕ × List ℕ). x.0) same in
    record {
      least = f.least;
      below = f.below;
      ranges = f.ranges;
      first = omega (arith, is, f.within);
      encoded = subst (AreBelow f.least f.below) (ap (λ (x : ℕ × List ℕ). x.1) same) f.encoded;
    }

pub first_is_there : (ack : Ack) (bytes : List ℕ) (reason : Fault) → bytes ≡ ack.additional.now → AreBytes bytes
    → varint_at bytes ≡ Err reason → ⊥
first_is_there ack bytes reason e fits h =
    let f = first_gap ack (subst AreBytes e fits) in
    ok_is_not_err (sym f.len ∙ ap varint_at (sym e) ∙ h)
