use Rattle.std.proofs.Common.{◌≡◌, Bool, length, sym, subst, arith, ◌∙◌}
use Rattle.std.proofs.lemmas.Bool.Decides.{nat_tests}
use Rattle.quic_params.specs.declared.value.Value.TheVariants.{Number}
use Rattle.quic_params.specs.Options.{kind_in}
use Rattle.quic_params.specs.Table.{row_of}
use Rattle.quic_params.specs.Value.{IsEncoded}
use Rattle.quic_param_fields.proofs.Accepted.{shortest}
use Rattle.quic_param_fields.proofs.value.is_short.Goals as goal

pub returns-else-any_width : goal.returns-else-any_width
returns-else-any_width c =
    let both = shortest c.args.id c.args.n c.args.value.now c.in_default.not-MaxDatagramFrameSize
    c.in_default.not-MinAckDelayDraft07 c.requires.kind c.requires.number in (
      (λ h. subst (λ (any : Bool). IsEncoded (kind_in any (row_of c.args.id).kind) (Number c.args.n) c.args.value.now)
          (sym c.if-any_width.false) (both.0 (sym c.size.ensures ∙ grind (arith, nat_tests, h)))),
      (λ s.
          let width = both.1 (subst (λ (any : Bool). IsEncoded (kind_in any (row_of c.args.id).kind) (Number c.args.n) c.args.value.now)
          c.if-any_width.false s) in
          let same : c.size.result ≡ length c.args.value.now = c.size.ensures ∙ width in
          grind (arith, nat_tests, same)),
    )
