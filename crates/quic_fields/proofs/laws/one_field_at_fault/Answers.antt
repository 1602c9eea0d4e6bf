use Rattle.quic_fields.proofs.FrameWalks.{no_frame_with_spans, no_frame_without, one_stop_at}
use Rattle.quic_fields.proofs.laws.one_field_at_fault.Goals as goal

pub returns-clause-exists : goal.returns-clause-exists
returns-clause-exists c = no_frame_with_spans

pub returns-clause-reported : goal.returns-clause-reported
returns-clause-reported c = no_frame_without

pub returns-clause-one : goal.returns-clause-one
returns-clause-one c = one_stop_at
