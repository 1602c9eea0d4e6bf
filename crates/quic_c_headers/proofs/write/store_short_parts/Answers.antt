-- A short header is stored part after part.
use Rattle.std.proofs.Common.{◌≡◌, ◌+◌, ◌∙◌, ℕ, List, length, take, arith, rules}
use Rattle.quic_base.proofs.Storing.{stays}
use Rattle.quic_c_headers.proofs.Writing.{short_fields, short_stored}
use Rattle.quic_c_headers.proofs.write.store_short_parts.Goals as goal

pub returns : goal.returns
returns c =
    let words = c.args.words.now in
    let dst : List ℕ = c.args.dst.now in
    record {
      size = search rules;
      front = let stored : take c.store_low.result c.store_low.new.out ≡ short_fields words dst = search rules in
          stored ∙ short_stored words dst c.requires.fits.some c.requires.fits.few;
      back = c.store_low.ensures.back ∙ stays (1 + length dst) c.store_low.result c.store_short-at.new.out
          c.args.dest.now c.store_short-at.ensures.back (omega arith);
      len = search rules;
    }
