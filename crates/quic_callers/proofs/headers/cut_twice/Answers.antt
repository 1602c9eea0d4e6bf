-- By the law of one result.
use Rattle.std.proofs.Common.{ℕ, List, sym, subst, eq-eqb}
use Rattle.quic_base.specs.Number.{AreBytes}
use Rattle.quic_header_decode.specs.Grammar.{Cut}
use Rattle.quic_header_decode.specs.Reading.{DecodeOptions}
use Rattle.quic_callers.proofs.HeadersBack.{as_long}
use Rattle.quic_callers.proofs.headers.cut_twice.Goals as goal

pub returns : goal.returns
returns g c =
    let context : DecodeOptions =
    record { parsed = g.C.ConnectionIdParser.parsed c.args.parser.now; versions = c.args.versions.now; grease = c.args.grease } in
    let bytes : AreBytes c.args.one.items = subst AreBytes c.as_slice.ensures c.are_bytes.ensures in
    let one = c.in_ok-first.ensures in
    let other = c.in_ok-second.ensures in
    let there = subst (λ (b : List ℕ). Cut context b other.0 other.1 c.in_ok-second.second) (sym c.requires) other.2 in
    eq-eqb c.in_ok-first.first c.in_ok-second.second
    (as_long context c.args.one.items c.in_ok-first.first c.in_ok-second.second
    (λ a b. c.one_answer.ensures.cut context c.args.one.items a b bytes) one (other.0, other.1, there))
