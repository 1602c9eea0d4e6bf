use Rattle.quic_versions.proofs.Lists.{first_is, none_is}
use Rattle.quic_versions.proofs.information.split.Goals as goal

pub returns-clause-some : goal.returns-clause-some
returns-clause-some c = λ list s. first_is list c.args.versions.now c.word.result s c.word.ensures.some

pub returns-clause-none : goal.returns-clause-none
returns-clause-none c = λ list s none. none_is list c.args.versions.now s (c.word.ensures.none none)
