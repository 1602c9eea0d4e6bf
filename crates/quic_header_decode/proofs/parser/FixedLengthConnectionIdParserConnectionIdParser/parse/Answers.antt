use Rattle.std.proofs.Common.{rules}
use Rattle.quic_header_decode.proofs.parser.FixedLengthConnectionIdParserConnectionIdParser.parse.Goals as goal

pub returns-then-remaining-len-clause-parsed : goal.returns-then-remaining-len-clause-parsed
returns-then-remaining-len-clause-parsed c = search rules
