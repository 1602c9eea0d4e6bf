use Rattle.quic_wire.proofs.calls.read_parameters_with.Goals as goal

pub returns : goal.returns
returns c =
    let one = c.every_list.ensures c.args.options c.args.side c.args.list.now c.are_bytes.ensures in
    record { one = record { one = one; returned = one.only c.read_with.result c.read_with.ensures.meant } }
