-- One packet after another is opened, each once there is room for it.
use Rattle.std.proofs.Common.{rules, ◌≡◌, ◌++◌, [], ◌∷◌, None, Some}
use Rattle.quic_packets.proofs.Nexts.{reached_first, reached_step, reached_less, reached_all, reached_refused}
use Rattle.quic_packets.proofs.opening.open_datagram.Goals as goal

pub loop-bytes-init : goal.loop-bytes-init
loop-bytes-init g c = reached_first

pub loop-bytes-preserved : goal.loop-bytes-preserved
loop-bytes-preserved g c =
    let is : c.loop-bytes.left ≡ Some c.in-Some.bytes = cc in
    let pushed : c.push.new.self.items ≡ c.reserve.new.self.items ++ (c.in-Ok.opened ∷ []) = search rules in
    reached_step c.loop-bytes.invariant is c.reserve.ensures.items c.open_first-opened.ensures.next c.in-Ok.is pushed

pub loop-bytes-smaller : goal.loop-bytes-smaller
loop-bytes-smaller g c =
    let is : c.loop-bytes.left ≡ Some c.in-Some.bytes = cc in
    reached_less c.open_first-opened.result.1 is c.open_first-opened.ensures.shorter

pub returns-in-Err : goal.returns-in-Err
returns-in-Err g c =
    let is : c.loop-bytes.left ≡ Some c.in-Some.bytes = cc in
    reached_refused c.open_first-opened.result.1 c.loop-bytes.invariant is c.reserve.ensures.items
    c.open_first-opened.ensures.next c.in-Err.is

pub returns : goal.returns
returns g c =
    let none : c.loop-bytes.left ≡ None = cc in
    reached_all tt c.loop-bytes.invariant none
