-- The reading returns what the grammar says.
use Rattle.std.proofs.Common.{◌≡◌, ◌≤◌, length, subst}
use Rattle.quic_base.specs.Number.{AreBytes}
use Rattle.quic_header_decode.specs.Refusal.{NoMemory}
use Rattle.quic_header_decode.proofs.Steps.{match_ok}
use Rattle.quic_header_decode.proofs.CutAnswers.{cut_given, some_left, uncut_given}
use Rattle.quic_header_decode.proofs.cut.PartialDecode.new.Goals as goal

pub returns-clause-cut : goal.returns-clause-cut
returns-clause-cut g c =
    cut_given _ _ c.cut.result (subst AreBytes c.as_slice.ensures c.are_bytes.ensures)
    (λ text id n e. match_ok (λ x. x.1 ≤ length text) (λ r. r ≡ NoMemory → ⊥)
    (g.P.ConnectionIdParser.parsed c.args.parser.now text) (id, n)
    (g.met.P.ConnectionIdParser.lawful c.args.parser.now text) e) c.cut.ensures.exact c.cut.ensures.packet
    c.cut.ensures.rest

pub returns-clause-rest : goal.returns-clause-rest
returns-clause-rest g c = some_left _ c.cut.result c.cut.ensures.rest

pub returns-clause-refused : goal.returns-clause-refused
returns-clause-refused g c =
    uncut_given _ _ _ c.cut.result (subst AreBytes c.as_slice.ensures c.are_bytes.ensures)
    (λ text id n e. match_ok (λ x. x.1 ≤ length text) (λ r. r ≡ NoMemory → ⊥)
    (g.P.ConnectionIdParser.parsed c.args.parser.now text) (id, n)
    (g.met.P.ConnectionIdParser.lawful c.args.parser.now text) e) c.cut.ensures.exact c.cut.ensures.memory
