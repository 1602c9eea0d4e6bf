-- The two ends cover the bytes.
use Rattle.quic_base.proofs.Ends.{two_ends}
use Rattle.quic_base.proofs.ids.connection_id.copy_ends.Goals as goal

pub returns : goal.returns
returns g c =
    two_ends g.row.N c.args.bytes.now c.args.to.now _ _ c.requires.enough c.requires.covered
    c.copy_from_slice.ensures.after c.copy_from_slice-2.ensures.after
