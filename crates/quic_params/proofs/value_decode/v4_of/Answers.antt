use Rattle.std.proofs.Common.{◌≡◌, arith, rules, sym, ◌∙◌}
use Rattle.std.proofs.lemmas.Bool.{false≢true}
use Rattle.std.specs.Net.Addr.{IsUnspecifiedV4}
use Rattle.quic_params.proofs.Hosts.{no_v4, some_v4}
use Rattle.quic_params.proofs.value_decode.v4_of.Goals as goal
use Rattle.quic_params.proofs.value_decode.v4_of.Goals.{else-is_unspecified-via-then-is_unspecified+else-port-eq0, else-is_unspecified-via-else-is_unspecified}

pub returns-then-port-eq0 : goal.returns-then-port-eq0
returns-then-port-eq0 c = no_v4 c.args.ip c.args.port (search rules) (omega arith)

pub returns : goal.returns
returns c =
    let n : ¬ (IsUnspecifiedV4 c.args.ip × (c.args.port ≡ 0)) = λ r.
    elim c.else-is_unspecified.branch [
      | else-is_unspecified-via-then-is_unspecified+else-port-eq0 w ↦ let p : c.args.port
          ≡ 0 = r.1 in absurd (omega (arith, w.if-port-eq0.false))
      | else-is_unspecified-via-else-is_unspecified w ↦ absurd (false≢true (sym w.if-is_unspecified.false ∙ c.is_unspecified.ensures.1 r.0))
    ] in
    some_v4 c.new.result c.args.ip c.args.port c.new.ensures.ip c.new.ensures.port n
