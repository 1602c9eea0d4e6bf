-- The token of a Retry is at fault, or its tag.
use Rattle.std.proofs.Common.{length, subst, ℕ, ◌≤◌, ◌<◌}
use Rattle.quic_header_decode.specs.Places.{any_fixed}
use Rattle.quic_header_fields.proofs.Faults.{stored_whole, stored_partial}
use Rattle.quic_header_fields.proofs.fault.spans_of_partial_retry.Goals as goal

pub returns-then-saturating_sub-ge16-clause-stored : goal.returns-then-saturating_sub-ge16-clause-stored
returns-then-saturating_sub-ge16-clause-stored c = λ h all rest s.
    let w = c.walk_header-count.ensures in
    let bytes = c.args.bytes.now in
    stored_whole (any_fixed c.args.id_len c.args.versions.now) (length bytes) bytes h all rest c.args.room.now
    c.walk_header-count.new.room c.walk_header-count.result.0 c.walk_header-count.result.1 s w.spans w.count w.end
    (subst (λ (n : ℕ). 16 ≤ n) c.saturating_sub.ensures c.if-saturating_sub-ge16.true)

pub returns-clause-stored : goal.returns-clause-stored
returns-clause-stored c = λ h all rest s.
    let w = c.walk_header-count.ensures in
    let bytes = c.args.bytes.now in
    stored_partial (any_fixed c.args.id_len c.args.versions.now) (length bytes) bytes h all rest c.args.room.now
    c.walk_header-count.new.room c.put.new.room c.walk_header-count.result.0 c.walk_header-count.result.1 s w.spans
    w.count w.end (subst (λ (n : ℕ). n < 16) c.saturating_sub.ensures c.if-saturating_sub-ge16.false) c.put.ensures
