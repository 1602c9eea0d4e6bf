use Rattle.std.proofs.Common.{◌∙◌, sym}
use Rattle.quic_c_params.proofs.DescribedParams.{described_v6}
use Rattle.quic_c_params.proofs.write.v6_in.Goals as goal

pub returns-then-there-clause-described : goal.returns-then-there-clause-described
returns-then-there-clause-described c = λ o reported there octets port.
    described_v6 o c.new.result c.from_octets.result c.args.octets c.args.port c.from_octets.ensures c.new.ensures.ip
    c.new.ensures.port c.new.ensures.flowinfo c.new.ensures.scope_id reported (sym c.if-there.true ∙ there) octets
    port
