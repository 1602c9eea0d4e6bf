use Rattle.quic_header_fields.specs.Kinds.{field_of}
use Rattle.quic_header_fields.proofs.Faults.{but_last_is}
use Rattle.quic_header_fields.proofs.fault.but_last.Goals as goal

pub returns-clause-fields : goal.returns-clause-fields
returns-clause-fields c = λ version.
    rw (c.saturating_sub-count.ensures) (but_last_is (field_of version) c.args.kinds.now)
