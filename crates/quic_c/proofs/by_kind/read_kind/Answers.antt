use Rattle.std.proofs.Common.{◌≡◌, pos, to_z, w64, rules}
use Rattle.quic_c_words.specs.Shown.{rules_in}
use Rattle.quic_c.proofs.FastCalls.{kind_read}
use Rattle.quic_c.proofs.by_kind.read_kind.Goals as goal

pub returns-in-Some : goal.returns-in-Some
returns-in-Some g c =
    let is : to_z w64 c.in-Some.end ≡ pos c.in-Some.end = search rules in
    kind_read (rules_in c.args.flags) c.args.payload.now c.args.out.now c.read.new.out c.args.gaps.now c.in-Some.end _ is
    c.in-Some.ensures.answers
