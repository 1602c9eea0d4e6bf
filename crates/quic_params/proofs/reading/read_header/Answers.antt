use Rattle.std.proofs.Common.{arith, refl}
use Rattle.quic_params.proofs.Entries.{cut_id, cut_length, cut_value, entry_headers}
use Rattle.quic_params.proofs.Ends.{end_taken, end_dropped, end_whole}
use Rattle.quic_params.proofs.reading.read_header.Goals as goal

pub returns-in_default-clause-cut : goal.returns-in_default-clause-cut
returns-in_default-clause-cut g c = (cut_id _ c.in_default.ensures.cut, refl)

pub returns-in_default-get_var-clause-cut : goal.returns-in_default-get_var-clause-cut
returns-in_default-get_var-clause-cut g c = (cut_length _ _ _ c.in-Ok.ensures.ok c.in_default-get_var.ensures.cut, refl)

pub returns-then-remaining-len-clause-cut : goal.returns-then-remaining-len-clause-cut
returns-then-remaining-len-clause-cut g c =
    (cut_value _ _ _ _ _ c.in-Ok.ensures.ok c.in-Ok-get_var.ensures.ok (omega arith), refl)

pub returns-clause-ok : goal.returns-clause-ok
returns-clause-ok g c = grind (arith, entry_headers)

pub returns-in_default-clause-left : goal.returns-in_default-clause-left
returns-in_default-clause-left g c = end_dropped 1 _ _ c.in_default.ensures.left

pub returns-in_default-get_var-clause-left : goal.returns-in_default-get_var-clause-left
returns-in_default-get_var-clause-left g c =
    end_taken _ _ _ c.in-Ok.ensures.ok (end_dropped 1 _ _ c.in_default-get_var.ensures.left)

pub returns-then-remaining-len-clause-left : goal.returns-then-remaining-len-clause-left
returns-then-remaining-len-clause-left g c =
    end_taken _ _ _ c.in-Ok.ensures.ok (end_taken _ _ _ c.in-Ok-get_var.ensures.ok (end_whole _))
