use Rattle.std.proofs.Common.{sym, ◌∙◌, inr}
use Rattle.quic_c_headers.proofs.FirstFaults.{possible_by, refused_by}
use Rattle.quic_c_headers.proofs.faults.fault_of.Goals as goal

pub returns-in-None-clause-possible : goal.returns-in-None-clause-possible
returns-in-None-clause-possible c = λ to from own l _.
    possible_by c.args.kind c.args.words.now c.args.dst c.args.src c.args.token c.requires.kind
    (sym c.fault_in.ensures.found ∙ c.in-None.is) to from own l

pub returns-in-Some-clause-refused : goal.returns-in-Some-clause-refused
returns-in-Some-clause-refused c = λ to from own l.
    inr (refused_by c.args.kind c.args.words.now c.args.dst c.args.src c.args.token c.in-Some.index c.requires.kind
    (sym c.fault_in.ensures.found ∙ c.in-Some.is) to from own l)
