use Rattle.quic_header_decode.specs.Places.{any_fixed}
use Rattle.quic_header_fields.proofs.Stopping.{stops_inside, whole_header}
use Rattle.quic_header_fields.proofs.laws.where_reading_stops.Goals as goal

pub returns-clause-fault : goal.returns-clause-fault
returns-clause-fault c = stops_inside

pub returns-clause-whole : goal.returns-clause-whole
returns-clause-whole c = λ id_len versions. whole_header (any_fixed id_len versions)
