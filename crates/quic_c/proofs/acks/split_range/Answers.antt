use Rattle.std.proofs.Common.{length, arith}
use Rattle.quic_frame_fields.proofs.UncountedBlocks.{some_of}
use Rattle.quic_c.proofs.RangeSteps.{cut_at_end, cut_by, more_taken, none_of}
use Rattle.quic_c.proofs.acks.split_range.Goals as goal

pub returns-in_default-split_first_range-clause-cut : goal.returns-in_default-split_first_range-clause-cut
returns-in_default-split_first_range-clause-cut c = λ _.
    (_, cut_by c.args.greatest c.args.more c.args.bytes.now _ (omega arith) c.in_default-split_first_range.ensures.stops)

pub returns-then-is_empty-clause-cut : goal.returns-then-is_empty-clause-cut
returns-then-is_empty-clause-cut c = λ _.
    let s = c.in-Ok-split_first_range in (
      _,
      cut_at_end c.args.greatest c.args.more c.args.bytes.now s.least s.next s.rest.now (omega arith)
          (none_of (length s.rest.now) c.if-is_empty.ensures) s.ensures.begins,
    )

pub returns-clause-takes : goal.returns-clause-takes
returns-clause-takes c =
    let s = c.in-Ok-split_first_range in
    more_taken c.args.greatest c.args.more c.args.bytes.now s.least s.next s.rest.now (omega arith)
    (some_of (length s.rest.now) c.if-is_empty.ensures) s.ensures.begins
