use Rattle.std.specs.Prelude.{false}
use Rattle.quic_text.proofs.PlacedLines.{placed_printed, broken_printed}
use Rattle.quic_text.proofs.laws.frames_printed.Goals as goal

pub returns-clause-frames : goal.returns-clause-frames
returns-clause-frames c = λ ps bytes. placed_printed false ps bytes (c.items_in_place.ensures.frames false ps bytes)

pub returns-clause-broken : goal.returns-clause-broken
returns-clause-broken c = λ ps bytes type reason.
    broken_printed false ps bytes type reason (c.items_in_place.ensures.broken false ps bytes type reason)
