use Rattle.std.specs.Prelude.{true}
use Rattle.quic_wire.specs.Rfc.{rfc_rules}
use Rattle.quic_wire.proofs.Allowed.{is_allowed_payload, reads_allowed, written_allowed}
use Rattle.quic_wire.proofs.rfc.rfc_frames_again.Goals as goal

pub returns-clause-written : goal.returns-clause-written
returns-clause-written c = λ negotiated frames payload some all is.
    written_allowed negotiated frames payload (c.frames_again.ensures true frames payload some is)
    (c.written_is_least.ensures frames payload some is) all

pub returns-clause-shortest : goal.returns-clause-shortest
returns-clause-shortest c = λ negotiated frames payload least is l.
    let found =
    c.least_by_rules.ensures (rfc_rules negotiated) frames payload least (reads_allowed negotiated frames payload is) l in
    (found.0, is_allowed_payload negotiated found.0 least l.same.some found.1, found.2)
