use Rattle.quic_params.proofs.Readings.{any_width_takes, or_repeated, repeats_taken}
use Rattle.quic_params.proofs.laws.readings.Goals as goal

pub returns-clause-width : goal.returns-clause-width
returns-clause-width c = any_width_takes

pub returns-clause-repeats : goal.returns-clause-repeats
returns-clause-repeats c = repeats_taken

pub returns-clause-unless : goal.returns-clause-unless
returns-clause-unless c = or_repeated
