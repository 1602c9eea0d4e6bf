use Rattle.std.proofs.Common.{arith}
use Rattle.quic_base.proofs.Numbers.{takes_ipv6}
use Rattle.std.proofs.lemmas.Grind.{common_steps}
use Rattle.quic_base.proofs.coding.Ipv6AddrCodec.decode.Goals as goal

pub returns-clause-ok : goal.returns-clause-ok
returns-clause-ok g c =
    let read = c.in_ok-get_array.ensures in
    takes_ipv6 _ _ c.in_ok-get_array.field-0 c.from_octets.result.segments read.ok read.width read.bytes c.from_octets.ensures

pub returns-in_err-get_array-clause-cut : goal.returns-in_err-get_array-clause-cut
returns-in_err-get_array-clause-cut g c = grind (arith, common_steps)
