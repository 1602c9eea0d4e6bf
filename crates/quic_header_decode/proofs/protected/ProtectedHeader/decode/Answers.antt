-- The reading returns what the grammar says.
use Rattle.std.proofs.Common.{◌≡◌, ◌≤◌, length, arith}
use Rattle.quic_header_decode.specs.Refusal.{NoMemory}
use Rattle.quic_header_decode.proofs.Steps.{match_ok}
use Rattle.quic_header_decode.proofs.CutAnswers.{header_given, refused_given}
use Rattle.quic_header_decode.proofs.protected.ProtectedHeader.decode.Goals as goal

pub returns-clause-found : goal.returns-clause-found
returns-clause-found g c =
    header_given _ _ _ _ c.decode_header.result c.rest-rest.ensures.bytes
    (omega (arith, c.remaining-len.ensures.within, c.remaining-len.ensures.value))
    (λ text id n e. match_ok (λ x. x.1 ≤ length text) (λ r. r ≡ NoMemory → ⊥)
    (g.P.ConnectionIdParser.parsed c.args.parser.now text) (id, n)
    (g.met.P.ConnectionIdParser.lawful c.args.parser.now text) e) c.decode_header.ensures.exact

pub returns-clause-refused : goal.returns-clause-refused
returns-clause-refused g c =
    refused_given _ _ _ _ c.decode_header.result c.rest-rest.ensures.bytes
    (omega (arith, c.remaining-len.ensures.within, c.remaining-len.ensures.value))
    (λ text id n e. match_ok (λ x. x.1 ≤ length text) (λ r. r ≡ NoMemory → ⊥)
    (g.P.ConnectionIdParser.parsed c.args.parser.now text) (id, n)
    (g.met.P.ConnectionIdParser.lawful c.args.parser.now text) e) c.decode_header.ensures.exact
