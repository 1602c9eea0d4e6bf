use Rattle.quic_header_decode.proofs.Ended.{cut_off, whole_cut}
use Rattle.quic_header_decode.proofs.laws.places_cut.Goals as goal

pub returns-clause-whole : goal.returns-clause-whole
returns-clause-whole c = whole_cut

pub returns-clause-cut_off : goal.returns-clause-cut_off
returns-clause-cut_off c = cut_off
