-- By the parts of a packet.
use Rattle.quic_header_decode.proofs.CutAnswers.{cut_positive}
use Rattle.quic_header_decode.proofs.Ends.{cut_alone, fixed_alone, version_alone}
use Rattle.quic_header_decode.proofs.laws.ends.Goals as goal

pub returns-clause-some : goal.returns-clause-some
returns-clause-some c = cut_positive

pub returns-clause-alone : goal.returns-clause-alone
returns-clause-alone c = cut_alone

pub returns-clause-fixed : goal.returns-clause-fixed
returns-clause-fixed c = fixed_alone

pub returns-clause-version : goal.returns-clause-version
returns-clause-version c = version_alone
