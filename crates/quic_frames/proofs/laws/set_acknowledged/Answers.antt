use Rattle.quic_frame_fields.proofs.Sets.{are_members, are_apart, is_greatest}
use Rattle.quic_frame_fields.proofs.AckParts.{same_ack}
use Rattle.quic_frames.proofs.ReadBack.{set_read_back}
use Rattle.quic_frames.proofs.laws.set_acknowledged.Goals as goal

pub returns-clause-members : goal.returns-clause-members
returns-clause-members c = are_members

pub returns-clause-apart : goal.returns-clause-apart
returns-clause-apart c = are_apart

pub returns-clause-greatest : goal.returns-clause-greatest
returns-clause-greatest c = is_greatest

pub returns-clause-read : goal.returns-clause-read
returns-clause-read c ack delay runs counts e = same_ack _ _ _ _ _ _ _ _ e

pub returns-clause-encoded : goal.returns-clause-encoded
returns-clause-encoded c = set_read_back
