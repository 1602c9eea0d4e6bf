use Rattle.std.specs.Prelude.{true}
use Rattle.quic_text.proofs.PlacedLines.{placed_printed, broken_printed}
use Rattle.quic_text.proofs.laws.strict_printed.Goals as goal

pub returns-clause-frames : goal.returns-clause-frames
returns-clause-frames c = λ ps bytes. placed_printed true ps bytes (c.items_in_place.ensures.frames true ps bytes)

pub returns-clause-broken : goal.returns-clause-broken
returns-clause-broken c = λ ps bytes type reason.
    broken_printed true ps bytes type reason (c.items_in_place.ensures.broken true ps bytes type reason)
