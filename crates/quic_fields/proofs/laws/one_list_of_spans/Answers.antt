use Rattle.quic_fields.proofs.FrameWalks.{frame_with_spans, frame_without, one_list_at, frame_in_row}
use Rattle.quic_fields.proofs.laws.one_list_of_spans.Goals as goal

pub returns-clause-exists : goal.returns-clause-exists
returns-clause-exists c = frame_with_spans

pub returns-clause-frames : goal.returns-clause-frames
returns-clause-frames c = frame_without

pub returns-clause-one : goal.returns-clause-one
returns-clause-one c = one_list_at

pub returns-clause-row : goal.returns-clause-row
returns-clause-row c = frame_in_row
