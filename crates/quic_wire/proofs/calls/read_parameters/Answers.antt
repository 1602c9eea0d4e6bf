use Rattle.quic_params.specs.Options.{as_quinn}
use Rattle.quic_wire.proofs.calls.read_parameters.Goals as goal

pub returns : goal.returns
returns c =
    let one = c.every_list.ensures as_quinn c.args.side c.args.list.now c.are_bytes.ensures in
    record { one = record { one = one; returned = one.only c.read.result c.read.ensures.meant } }
