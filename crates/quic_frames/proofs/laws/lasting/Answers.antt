use Rattle.quic_frames.proofs.Later.{frames_stay, places_stay, error_lasts, only_cut}
use Rattle.quic_frames.proofs.laws.lasting.Goals as goal

pub returns-clause-frames : goal.returns-clause-frames
returns-clause-frames c = frames_stay

pub returns-clause-places : goal.returns-clause-places
returns-clause-places c = places_stay

pub returns-clause-error : goal.returns-clause-error
returns-clause-error c =
    λ strict found bytes more type reason fits known b. error_lasts strict found bytes more type reason fits known b

pub returns-clause-front : goal.returns-clause-front
returns-clause-front c = only_cut
