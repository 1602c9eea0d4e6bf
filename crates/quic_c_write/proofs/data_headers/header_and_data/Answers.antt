use Rattle.quic_c_write.proofs.DataHeaders.{header_and, header_breaks}
use Rattle.quic_c_write.proofs.data_headers.header_and_data.Goals as goal

pub returns-clause-frame : goal.returns-clause-frame
returns-clause-frame c = header_and

pub returns-clause-broken : goal.returns-clause-broken
returns-clause-broken c = header_breaks
