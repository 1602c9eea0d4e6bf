use Rattle.quic_ranges.proofs.RunsLemmas.{RunsFrom-unique}
use Rattle.quic_ranges.proofs.PlacesLemmas.{run-at}
use Rattle.quic_ranges.proofs.LawsLemmas.{apart, maximal, maximal_behind}
use Rattle.quic_ranges.proofs.laws.runs.Goals as goal

pub returns-clause-unique : goal.returns-clause-unique
returns-clause-unique c = RunsFrom-unique 0

pub returns-clause-nonempty : goal.returns-clause-nonempty
returns-clause-nonempty c = λ rs i d h in'. (run-at 0 i d rs h in').1

pub returns-clause-apart : goal.returns-clause-apart
returns-clause-apart c = λ rs i j d h. apart 0 i j d rs h

pub returns-clause-maximal : goal.returns-clause-maximal
returns-clause-maximal c = λ rs i y d h. maximal 0 i y d rs h

pub returns-clause-maximal_behind : goal.returns-clause-maximal_behind
returns-clause-maximal_behind c = λ rs i d h. maximal_behind 0 i d rs h
