use Rattle.quic_frame_fields.proofs.Apart.{one_list, blocks_apart}
use Rattle.quic_frames.proofs.laws.one_list_of_ranges.Goals as goal

pub returns-clause-one : goal.returns-clause-one
returns-clause-one c = one_list

pub returns-clause-apart : goal.returns-clause-apart
returns-clause-apart c = blocks_apart
