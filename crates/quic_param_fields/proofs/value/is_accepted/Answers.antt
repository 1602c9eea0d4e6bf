use Rattle.std.proofs.Common.{refl, arith, inl, inr}
use Rattle.std.proofs.lemmas.Bool.Decides.{nat_tests}
use Rattle.quic_params.specs.declared.parameter.TransportParameterId.TheVariants as Id
use Rattle.quic_param_fields.proofs.Accepted.{tested, free}
use Rattle.quic_param_fields.proofs.value.is_accepted.Goals as goal

pub returns-in-MaxUdpPayloadSize : goal.returns-in-MaxUdpPayloadSize
returns-in-MaxUdpPayloadSize c =
    tested c.args.id Id.MaxUdpPayloadSize c.args.n _ c.in-MaxUdpPayloadSize.is c.requires (λ h. grind (arith, nat_tests, h)) (λ h. grind (arith, nat_tests, h))

pub returns-in-InitialMaxStreamsBidi : goal.returns-in-InitialMaxStreamsBidi
returns-in-InitialMaxStreamsBidi c =
    elim c.in-InitialMaxStreamsBidi.is [
      | inl is ↦ tested c.args.id Id.InitialMaxStreamsBidi c.args.n _ is c.requires (λ h. grind (arith, nat_tests, h)) (λ h. grind (arith, nat_tests, h))
      | inr is ↦ tested c.args.id Id.InitialMaxStreamsUni c.args.n _ is c.requires (λ h. grind (arith, nat_tests, h)) (λ h. grind (arith, nat_tests, h))
    ]

pub returns-in-AckDelayExponent : goal.returns-in-AckDelayExponent
returns-in-AckDelayExponent c =
    tested c.args.id Id.AckDelayExponent c.args.n _ c.in-AckDelayExponent.is c.requires (λ h. grind (arith, nat_tests, h)) (λ h. grind (arith, nat_tests, h))

pub returns-in-MaxAckDelay : goal.returns-in-MaxAckDelay
returns-in-MaxAckDelay c =
    tested c.args.id Id.MaxAckDelay c.args.n _ c.in-MaxAckDelay.is c.requires (λ h. grind (arith, nat_tests, h)) (λ h. grind (arith, nat_tests, h))

pub returns-in-ActiveConnectionIdLimit : goal.returns-in-ActiveConnectionIdLimit
returns-in-ActiveConnectionIdLimit c =
    tested c.args.id Id.ActiveConnectionIdLimit c.args.n _ c.in-ActiveConnectionIdLimit.is c.requires (λ h. grind (arith, nat_tests, h)) (λ h. grind (arith, nat_tests, h))

pub returns-in_default : goal.returns-in_default
returns-in_default c =
    let d = c.in_default in
    tested c.args.id c.args.id c.args.n _ refl c.requires
    (λ h. free c.args.id c.args.n d.not-MaxUdpPayloadSize d.not-InitialMaxStreamsBidi d.not-InitialMaxStreamsUni d.not-AckDelayExponent
    d.not-MaxAckDelay d.not-ActiveConnectionIdLimit) (λ h. refl)
