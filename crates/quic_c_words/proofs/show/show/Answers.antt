use Rattle.std.proofs.Common.{ℕ, ap, ◌∙◌, arith}
use Rattle.quic_c_words.specs.Shown.{frame_words}
use Rattle.quic_c_words.proofs.Shown.{place_is}
use Rattle.quic_c_words.proofs.show.show.Goals as goal

pub returns : goal.returns
returns c =
    rw c.parts_of.ensures at c.show_parts.ensures
    ∙ ap (λ (n : ℕ). record (frame_words c.args.begin c.args.end c.args.ty c.args.frame.now) { data_offset = n })
    (place_is c.args.end c.args.frame.now (omega arith))
