use Rattle.std.proofs.Common.{refl, get_or, arith}
use Rattle.quic_params.specs.Table.{ids}
use Rattle.quic_params.specs.Writing.{value_written}
use Rattle.quic_params.specs.declared.parameter.TransportParameterId.TheVariants.{MaxIdleTimeout}
use Rattle.quic_text.specs.ParameterText.{value_lines}
use Rattle.quic_text.proofs.ParameterLines.{one_more, all_of}
use Rattle.quic_text.proofs.print.params.print_record.Goals as goal

pub loop-id-preserved : goal.loop-id-preserved
loop-id-preserved c =
    one_more (λ id. value_lines id (value_written c.args.params.now id)) ids c.loop-id.id-index MaxIdleTimeout
    (get_or ids c.loop-id.id-index MaxIdleTimeout) _ _ _ (omega (arith, c.loop-id-test.true)) refl
    c.loop-id.invariant c.in_ok-print_parameter.ensures

pub returns : goal.returns
returns c =
    all_of (λ id. value_lines id (value_written c.args.params.now id)) ids c.loop-id.id-index _ _
    (omega (arith, c.loop-id-test.false)) c.loop-id.invariant
