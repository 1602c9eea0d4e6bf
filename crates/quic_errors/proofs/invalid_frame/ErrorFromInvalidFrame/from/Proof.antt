-- `from` passes its two fields on to `error_of`. The borrow checker has no rule for a struct that is passed by
-- value, is `Copy`, and holds a `Copy` struct with a model beside a `&'static`, so this proof walks the code by hand.
use Rattle.std.proofs.Common.{List, [], ◌∷◌, refl}
use Rattle.std.proofs.raw_atomic.Walks.{proved}
use mir.Val.{Val}
use base.Logic.{id⊢}
use base.Fml.{ftrue}
use contract.Monad.{fact}
use contract.Running.{tables}
use types.Kit.{‵, raw, ◌⊛◌, some, later, ◌$◌, ◌∵◌, !, qed, done, move, drop, use1, use2, split, join, fsplit, fjoin, fpick, feq_l, pick, await, rewrite, suffices}
use types.Part.{whole, sub}
use types.Run.{enter, of_opd, stop, fld, no_more, and_then, returns}
use types.ByLocal.{alloc_all, pass_all, free_all, look_at, get, get_in, sets, lands_as}
use denote.Exit.{yes}
use denote.Laws.{shows}
use denote.Signature.{plain, static_lft}
use denote.Steps.{nothing, heard, peeks}
use denote.Struct.Laws.{lawful}
use denote.Triple.Call.{calls_at}
use denote.Triple.Clauses.{lasts}
use denote.Triple.Spec.{triple_of}
use denote.Triple.Table.{framed}
use denote.Triple.Walked.{says, Stays, stay_dropped, Goes-dropped, ends_at}
use denote.RattleType.{RattleType}
use denote.Struct.Field.{Field}
use denote.Text.{str-field}
use Rattle.std.specs.contracts.option.Option.{the_field, the_row}
use Rattle.quic_errors.specs.contracts.frame_type.FrameType.{the_row as FrameType}
use Rattle.quic_errors.specs.Codes.{IsErrorOf}
use Rattle.quic_errors.specs.contracts.invalid_frame.InvalidFrame.{the_row as From, the_type as from_type}
use Rattle.quic_errors.proofs.invalid_frame.InvalidFrame.TheLaws as from_laws
use Rattle.quic_errors.specs.contracts.transport_error.Error.{the_row as To, the_type as to_type}
use Rattle.quic_errors.proofs.transport_error.Error.TheLaws as to_laws
use Rattle.quic_errors.specs.contracts.invalid_frame.ErrorFromInvalidFrame.from as f
use Rattle.quic_errors.proofs.invalid_frame.ErrorFromInvalidFrame.from.Statement.{statement}
use Rattle.quic_errors.proofs.invalid_frame.ErrorFromInvalidFrame.from.Code as code
use Rattle.quic_errors.specs.contracts.invalid_frame.error_of as g
use Rattle.quic_errors.proofs.invalid_frame.error_of.Met.{met}

abbrev ty_field : Field
ty_field = the_field FrameType

abbrev Ty : RattleType
Ty = the_row FrameType

abbrev Text : RattleType
Text = (str-field static_lft).row

abbrev stayed : Stays f.ended.signature.params f.ended.kept
stayed = (stay_dropped (plain (λ _. From)) yes, tt)

pub from_spec : {M : Type 1} → statement M
from_spec 𝓤 𝓛 𝓜 𝓡 wired =
    let c = f.clauses 𝓛 𝓜.mem 𝓡.returns in
    proved 𝓛 f.ended stayed c 𝓜 𝓡 (Goes-dropped 𝓛 0 (plain (λ _. From)) yes (λ κs x w. refl), tt)
    f.Key.name code.function (code.unfolded 𝓤 𝓛.H 𝓜 𝓡 wired)
    (λ κs. (λ d. from_laws.lowered d ∷ [], tt)) (λ κs. (from_laws.lowers.val_is, tt)) (λ κs qs bounds a _ are.
    let e = a.0 in
    let ty_laws = from_laws.the_laws.0 in
    let text_laws = from_laws.the_laws.1.0 in
    let tys = ty_laws.low e.ty ∷ [] in
    let texts = text_laws.low e.reason ∷ [] in
    let G = triple_of 𝓛 g.signature (g.spec 𝓛 𝓜.mem 𝓡.returns) in
    let z : G.Ghost = ((tt, tt, tt, (e.ty, (e.reason, tt)), (tys, (texts, tt))), tt) in
    qed 𝓛 ((‵ ftrue ⊛ (‵ (From.own_val e (from_laws.lowered e ∷ [])) ⊛ ‵ ftrue)) ∷ ‵ ftrue ∷ []) ∵
    split ! $ drop ! $ split ! $ move ! (1 ∷ 2 ∷ []) $ drop ! $ drop ! $
    -- each field owns what it owned in the struct, at the one value that it may have
    fpick ! (λ vss. fsplit ! $ feq_l ! (λ same. fsplit ! $
    peeks ! Ty _ (shows 𝓛 Ty) e.ty vss.0 (λ one_ty. rewrite ! 0 (λ (us : List Val). ‵ (Ty.own_val e.ty us))
    (ty_laws.low-is e.ty vss.0 one_ty) refl $
    peeks ! Ty _ (shows 𝓛 Ty) e.ty tys (λ is_ty. move ! (1 ∷ []) $ fsplit ! $
    peeks ! Text _ (shows 𝓛 Text) e.reason vss.1.0 (λ one_text. rewrite ! 0
    (λ (us : List Val). ‵ (Text.own_val e.reason us)) (text_laws.low-is e.reason vss.1.0 one_text) refl $
    peeks ! Text _ (shows 𝓛 Text) e.reason texts (λ is_text.
    fjoin ! $ move ! (1 ∷ 0 ∷ []) $ fjoin ! $ nothing ! $ join ! $ nothing ! $ move ! (1 ∷ 0 ∷ []) $ use2 𝓛 (raw (G.pre z)) (id⊢ 𝓤 _) $
    enter ! _ _ _ _ _ $ alloc_all ! (λ l. pass_all ! refl ((lawful from_type from_laws.the_laws 𝓛).typed e _ are.0) $
    sets ! (of_opd ! (get_in ! (fld ! refl (stop !)) (sub ! 0 refl (whole !)))) refl
    ((ty_laws.lawful 𝓛).typed (ty_field.into e.ty) tys is_ty).0 $
    sets ! (of_opd ! (get_in ! (fld ! refl (stop !)) (sub ! 1 refl (whole !)))) refl ((text_laws.lawful 𝓛).typed e.reason texts is_text).0 $
    calls_at ! (framed 𝓤 𝓛.H 𝓜 (tables 𝓤 𝓛.H 𝓜 𝓡 𝓡.env)) G (met 𝓤 𝓛 𝓜 𝓡 (code.calls-quic_errors::invalid_frame::error_of 𝓡.env wired)) z
    (and_then ! (get ! refl) (and_then ! (get ! refl) (no_more !))) (λ v.
    use1 𝓛 (later (some (λ (r : To.Denot). (‵ ftrue ⊛ ‵ (To.own_val r (v ∷ []))) ⊛
    some (λ (ws : Unit {0} × (Unit {0} × Unit {0})). ‵ (lasts g.ended tt z.0.3 ws)
    ⊛ raw (fact 𝓤 (IsErrorOf e.ty e.reason.now r)))))) (id⊢ 𝓤 _) $
    await ! tt $ pick ! (λ r. split ! $ split ! $ drop ! $ peeks ! To _ (shows 𝓛 To) r (v ∷ []) (λ made.
    move ! (1 ∷ []) $ pick ! (λ ws. split ! $ drop ! $ heard ! _ (λ is_error.
    lands_as ! refl refl ((lawful to_type to_laws.the_laws 𝓛).typed r (v ∷ []) made).0 $
    returns ! (look_at ! 0 refl) $ free_all ! refl $
    suffices ! _ (ends_at 𝓛 f.ended stayed c ((κs, qs, bounds, a, (from_laws.lowered e ∷ [], tt)), tt) v r (tt, tt)
    (tt, tt)) $ says ! is_error $
    nothing ! $ nothing ! $ join ! $ nothing ! $ done !)))))))))))))
