use Rattle.quic_base.proofs.PublicLaws.{shortest_encodes, length-short, encodes_unique, short_least, encoded_bound}
use Rattle.quic_base.proofs.laws.encodings.Goals as goal

pub returns-clause-shortest : goal.returns-clause-shortest
returns-clause-shortest c = shortest_encodes

pub returns-clause-length : goal.returns-clause-length
returns-clause-length c = length-short

pub returns-clause-begins_none : goal.returns-clause-begins_none
returns-clause-begins_none c = encodes_unique

pub returns-clause-least : goal.returns-clause-least
returns-clause-least c = λ v b p. (short_least v b p).0

pub returns-clause-alone : goal.returns-clause-alone
returns-clause-alone c = λ v b p. (short_least v b p).1

pub returns-clause-bound : goal.returns-clause-bound
returns-clause-bound c = λ v b p. (encoded_bound v b p).0
