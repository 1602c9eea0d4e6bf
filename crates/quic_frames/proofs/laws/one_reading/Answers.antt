use Rattle.quic_frames.proofs.Items.{begins_none, frames_relaxed}
use Rattle.quic_frames.proofs.Readings.{one_reading, one_list}
use Rattle.quic_frames.proofs.laws.one_reading.Goals as goal

pub returns-clause-one : goal.returns-clause-one
returns-clause-one c = one_reading

pub returns-clause-frames : goal.returns-clause-frames
returns-clause-frames c = one_list

pub returns-clause-begins_none : goal.returns-clause-begins_none
returns-clause-begins_none c = begins_none

pub returns-clause-relaxed : goal.returns-clause-relaxed
returns-clause-relaxed c = frames_relaxed
