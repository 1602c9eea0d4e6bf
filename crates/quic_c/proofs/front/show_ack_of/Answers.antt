use Rattle.std.proofs.Common.{ℕ, ◌+◌, ap, ◌∙◌}
use Rattle.quic_frames.specs.declared.frame.Frame.TheVariants as frames
use Rattle.quic_c_words.specs.Shown.{counts_flag, frame_words}
use Rattle.quic_c.proofs.GapFilling.{more_is}
use Rattle.quic_c.proofs.front.show_ack_of.Goals as goal

pub fill_gaps-count-requires : goal.fill_gaps-count-requires
fill_gaps-count-requires c =
    let f = c.requires.below in
    (f.0, f.1, f.3)

pub returns : goal.returns
returns c =
    let f = c.requires.below in
    let filled = c.fill_gaps-count.ensures.fills f.0 f.1 f.3 in
    let whole = c.fill_gaps-count.ensures.whole f.0 f.1 f.3 in
    let count = c.fill_gaps-count.result.0 in
    let more =
    more_is count f.1 c.fill_gaps-count.result.1 c.more_flag.result filled.one_each whole c.more_flag.ensures.value in
    let words = frame_words 0 c.args.end c.args.ty (frames.Ack c.args.ack.now) in
    record {
      least = f.0;
      below = f.1;
      ranges = f.2;
      gaps = filled;
      others = ap (λ p. record {
        kind = p.kind;
        ty = c.args.ty;
        flags = p.flags + c.more_flag.result;
        begin = 0;
        end = c.args.end;
        data_offset = count;
        data_len = p.data_len;
        numbers = p.numbers;
      }) c.with_first-parts.ensures
          ∙ ap (λ (n : ℕ). record words {
            flags = counts_flag c.args.ack.now.ecn + c.more_flag.result;
            data_offset = count;
            data_len = n;
          }) c.requires.first
          ∙ ap (λ (n : ℕ). record words { flags = counts_flag c.args.ack.now.ecn + n; data_offset = count }) more;
    }
