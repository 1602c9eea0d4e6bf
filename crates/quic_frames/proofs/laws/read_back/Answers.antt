use Rattle.std.specs.Prelude.{map}
use Rattle.quic_frames.specs.Meaning.{meaning_of}
use Rattle.quic_frames.proofs.InRange.{encoded_can_stand}
use Rattle.quic_frames.proofs.LeastPayloads.{frames_written}
use Rattle.quic_frames.proofs.ReadBack.{frame_fits, frame_read_back, frames_read_back}
use Rattle.quic_frames.proofs.laws.read_back.Goals as goal

pub returns-clause-one : goal.returns-clause-one
returns-clause-one c =
    λ strict last frame typed stands. (frame_read_back strict last frame typed stands, (frame_fits last frame typed stands).closed)

pub returns-clause-all : goal.returns-clause-all
returns-clause-all c =
    λ strict fs typed follow. (frames_read_back strict fs typed follow, frames_written (map meaning_of fs))

pub returns-clause-exact : goal.returns-clause-exact
returns-clause-exact c = encoded_can_stand
