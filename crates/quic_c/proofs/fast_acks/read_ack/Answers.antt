use Rattle.std.proofs.Common.{◌≡◌, pos, to_z, w64, rules, subst}
use Rattle.quic_c_words.specs.Shown.{rules_in}
use Rattle.quic_c.specs.Front.{ShowsAck}
use Rattle.quic_c.proofs.FastCalls.{ack_read}
use Rattle.quic_c.proofs.fast_acks.read_ack.Goals as goal

pub returns-in-Some : goal.returns-in-Some
returns-in-Some g c =
    let is : to_z w64 c.in-Some.end ≡ pos c.in-Some.end = search rules in
    ack_read (rules_in c.args.flags) c.args.payload.now c.args.out.now c.show_ack_of.result c.args.gaps.now
    c.show_ack_of.new.gaps c.in-Some.end _ _ c.in-Some.ack is c.in-Some.ensures.finds
    (subst (λ t. ShowsAck c.in-Some.end t c.in-Some.ack c.args.gaps.now c.show_ack_of.result c.show_ack_of.new.gaps)
    c.type_of.ensures c.show_ack_of.ensures)
