use Rattle.quic_frames.proofs.LeastFrames.{frame_encoded, frame_least}
use Rattle.quic_frames.proofs.LeastPayloads.{frames_encoded, frames_written, frames_least}
use Rattle.std.specs.Prelude.{map}
use Rattle.quic_frames.specs.Least.{frame_in}
use Rattle.quic_frames.proofs.laws.least_encoding.Goals as goal

pub returns-clause-least : goal.returns-clause-least
returns-clause-least c = λ last found bytes f closed. (frame_least last found bytes f closed).least

pub returns-clause-encoded : goal.returns-clause-encoded
returns-clause-encoded c = λ strict last found bytes f closed.
    let fits = (frame_least last found bytes f closed).fits in
    (frame_encoded strict last found.frame fits, fits.closed)

pub returns-clause-all_least : goal.returns-clause-all_least
returns-clause-all_least c = λ found bytes s. (frames_least found bytes s).least

pub returns-clause-all_encoded : goal.returns-clause-all_encoded
returns-clause-all_encoded c =
    λ strict found bytes s. frames_encoded strict (map frame_in found) (frames_least found bytes s).fit

pub returns-clause-same : goal.returns-clause-same
returns-clause-same c = frames_written
