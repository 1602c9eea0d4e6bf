use Rattle.std.proofs.Common.{refl, ◌∙◌, arith}
use Rattle.quic_params.proofs.Progress.{read_none, read_more, entry_shorter, refused_from}
use Rattle.quic_params.proofs.Ends.{stops_in}
use Rattle.quic_params.proofs.reading.read_entries.Goals as goal

pub entries-init : goal.entries-init
entries-init g c = (read_none c.args.options _ _ c.requires.fresh, refl)

pub entries-smaller : goal.entries-smaller
entries-smaller g c = entry_shorter c.args.options _ _ _ _ _ _ _ c.entries.invariant.0 c.in-Ok.ensures.ok

pub entries-preserved : goal.entries-preserved
entries-preserved g c =
    (read_more c.args.options _ _ _ _ _ _ _ c.entries.invariant.0 c.in-Ok.ensures.ok, c.in-Ok.ensures.kept ∙ c.entries.invariant.1)

pub returns-in-Err-clause-left : goal.returns-in-Err-clause-left
returns-in-Err-clause-left g c =
    stops_in c.args.options _ _ _ _ _ _ c.entries.invariant.0 (omega arith)
    c.in-Err.ensures.err c.in-Err.ensures.left

pub returns-in-Err-clause-kept : goal.returns-in-Err-clause-kept
returns-in-Err-clause-kept g c = c.in-Err.ensures.kept ∙ c.entries.invariant.1

pub returns-clause-kept : goal.returns-clause-kept
returns-clause-kept g c = c.entries.invariant.1

pub returns-in-Err-clause-err : goal.returns-in-Err-clause-err
returns-in-Err-clause-err g c =
    refused_from c.args.options _ _ _ _ _ _ c.remaining-left.ensures c.entries.invariant.0
    (omega arith) c.in-Err.ensures.err
