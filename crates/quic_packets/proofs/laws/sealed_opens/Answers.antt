-- What was sealed is cut, and its parts are those that were sealed.
use Rattle.quic_packets.proofs.OpenedBack.{sealed_cut_there, sealed_opens, sealed_space}
use Rattle.quic_packets.proofs.laws.sealed_opens.Goals as goal

pub returns-clause-opens : goal.returns-clause-opens
returns-clause-opens c = sealed_opens

pub returns-clause-cut : goal.returns-clause-cut
returns-clause-cut c = sealed_cut_there

pub returns-clause-space : goal.returns-clause-space
returns-clause-space c = sealed_space
