use Rattle.std.proofs.Common.{rules}
use Rattle.quic_crypto.proofs.packet_number.PacketNumber.new.Goals as goal

pub returns-then-range-3-clause-valid : goal.returns-then-range-3-clause-valid
returns-then-range-3-clause-valid c = search rules

pub returns-then-range-3-clause-low : goal.returns-then-range-3-clause-low
returns-then-range-3-clause-low c = search rules
