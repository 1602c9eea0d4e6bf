use Rattle.quic_frames.proofs.Placing.{placed_items, broken_items}
use Rattle.quic_frames.proofs.laws.items_in_place.Goals as goal

pub returns-clause-frames : goal.returns-clause-frames
returns-clause-frames c = placed_items

pub returns-clause-broken : goal.returns-clause-broken
returns-clause-broken c = broken_items
