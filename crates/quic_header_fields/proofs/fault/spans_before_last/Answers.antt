use Rattle.std.proofs.Common.{length}
use Rattle.quic_header_decode.specs.Places.{any_fixed}
use Rattle.quic_header_fields.proofs.Faults.{stored_cut}
use Rattle.quic_header_fields.proofs.fault.spans_before_last.Goals as goal

pub returns-clause-stored : goal.returns-clause-stored
returns-clause-stored c = λ h all rest s.
    let w = c.walk_cut-count.ensures in
    let bytes = c.args.bytes.now in
    stored_cut (any_fixed c.args.id_len c.args.versions.now) (length bytes) bytes h all rest c.args.room.now
    c.walk_cut-count.new.room c.walk_cut-count.result.0 c.walk_cut-count.result.1 s w.spans w.count w.end
