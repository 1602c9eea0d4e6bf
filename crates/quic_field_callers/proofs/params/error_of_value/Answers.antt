use Rattle.std.proofs.Common.{◌≡◌, ℕ, List, [], Option, Some, None, sym, subst}
use Rattle.std.specs.Prelude.{◌⊎◌, false, IfSome, MatchOption, ⊤}
use Rattle.quic_params.specs.Table.{row_of}
use Rattle.quic_params.specs.Value.{IsEncoded, IsNoValue}
use Rattle.quic_params.specs.declared.error.Error.{Error}
use Rattle.quic_params.specs.declared.error.Error.TheVariants.{IllegalValue}
use Rattle.quic_params.specs.declared.parameter.TransportParameterId.{TransportParameterId}
use Rattle.quic_params.specs.declared.value.Value.{Value}
use Rattle.quic_param_fields.specs.Fields.{error_of, stop}
use Rattle.quic_param_fields.specs.Values.{Finds, IsAccepted, IsNoValueAt, LacksValue}
use Rattle.quic_field_callers.proofs.params.error_of_value.Goals as goal

-- an error of a list with this value of the parameter
abbrev IsItsError : List ℕ → Error → TransportParameterId → Type 0
IsItsError bytes e known = IsNoValue (row_of known).kind bytes e
    ⊎ ((value : Value) × IsEncoded (row_of known).kind value bytes × ¬ (IsAccepted known value) × (e ≡ IllegalValue))

of_found : (N : Option TransportParameterId → Type 0) (found : Option TransportParameterId) (bytes : List ℕ) (e d : Error)
    → e ≡ d → ((id : TransportParameterId) → N (Some id) → IsItsError bytes d id) → N found
    → MatchOption found ⊤ (IsItsError bytes e)
of_found N None bytes e d is law n = tt
of_found N (Some id) bytes e d is law n = subst (λ x. IsItsError bytes x id) (sym is) (law id n)

pub returns-in-Some : goal.returns-in-Some
returns-in-Some c =
    let s = c.value_spans in
    let w = s.result in
    let bytes = c.args.value.now in
    let lacks : (found : Option TransportParameterId) × Finds c.args.id found
    × LacksValue false found bytes [] s.new.room w c.in-Some.reason =
    subst (λ o. IfSome o (λ reason. (found : Option TransportParameterId) × Finds c.args.id found
    × LacksValue false found bytes [] s.new.room w reason)) c.in-Some.is s.ensures.err in
    let at = stop w.inside w.numbers c.in-Some.reason in
    let law = c.one_field_at_fault_in_a_value.ensures.reported in
    let N : Option TransportParameterId → Type 0 =
    λ found. IsNoValueAt false found lacks.2.spans bytes w.count w.end at in (
      lacks.0,
      lacks.1,
      of_found N lacks.0 bytes c.error.result (error_of c.in-Some.reason) c.error.ensures
          (λ id n. law false id lacks.2.spans bytes w.count w.end at n) lacks.2.no_value,
    )
