use Rattle.quic_params.proofs.Lengths.{whole_below}
use Rattle.quic_params.proofs.storing.write_entry_into.Goals as goal

pub returns-then-len-dest-clause-few : goal.returns-then-len-dest-clause-few
returns-then-len-dest-clause-few c = whole_below c.args.number c.args.value.now

pub returns-clause-few : goal.returns-clause-few
returns-clause-few c = whole_below c.args.number c.args.value.now
