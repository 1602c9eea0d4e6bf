-- A walk over a payload by an iterator, whose frames are kept.
use Rattle.std.proofs.Common.{◌≡◌, ◌≢◌, ℕ, List, [], ◌∷◌, ◌++◌, map, length, Bool, false, true, None, Some, Option, Result, Err, refl, sym, ap, subst, ◌∙◌, arith}
use Rattle.std.specs.Prelude.{Ok, if◌then◌else◌, codes, IsTrue, MatchBool}
use Rattle.std.specs.Result.{is_err, is_ok}
use Rattle.quic_base.specs.Number.{AreBytes}
use Rattle.quic_base.specs.One.{ExactlyOne, ReturnsOne}
use Rattle.quic_errors.specs.declared.invalid_frame.InvalidFrame.{InvalidFrame}
use Rattle.quic_frame_fields.specs.Payload.{TypedFrame, Reading, Complete, FailsAfter, IsReadingOf}
use Rattle.quic_frame_fields.specs.Reading.{Invalid, reason_text}
use Rattle.quic_frame_fields.specs.declared.frame.fault.Fault.{Fault}
use Rattle.quic_frame_fields.specs.declared.frame.fault.Fault.TheVariants.{UnexpectedEnd, InvalidFrameId, Malformed, LongType}
use Rattle.quic_frames.specs.declared.frame.Frame.{Frame}
use Rattle.quic_frames.specs.IterState.{IterState}
use Rattle.quic_frames.specs.Least.{frame_in}
use Rattle.quic_frames.specs.Meaning.{meaning_of}
use Rattle.quic_frames.specs.Walk.{first_of, invalid_of, Finds, LacksFrame, IsSpent}
use Rattle.quic_frames.proofs.Turns.{HasRead, has_read_none, has_read_more, has_read_all, has_read_error}
use Rattle.quic_wire.specs.Reading.{IsReturnedAs, MayGoOn}

-- These frames came, and are those before the iterator's offset.
pub record HasCome (payload : List ℕ) (frames : List Frame) (state : IterState) : Type 0 where
  pub found : List TypedFrame
  pub same : map meaning_of frames ≡ map frame_in found
  pub read : HasRead false payload found state

pub nothing_yet : (payload : List ℕ) (state : IterState) → state ≡ first_of false payload → HasCome payload [] state
nothing_yet payload state e = record { found = []; same = refl; read = has_read_none false payload state e }

pub meant_after : (frames : List Frame) (found : List TypedFrame) (frame : Frame) (one : TypedFrame)
    → map meaning_of frames ≡ map frame_in found → one.frame ≡ meaning_of frame
    → map meaning_of (frames ++ frame ∷ []) ≡ map frame_in (found ++ one ∷ [])
meant_after [] [] frame one same says = cc
meant_after [] (f ∷ found) frame one same says = cc
meant_after (f ∷ frames) [] frame one same says = cc
meant_after (f ∷ frames) (g ∷ found) frame one same says =
    let rest : map meaning_of frames ≡ map frame_in found = cc in
    let more = meant_after frames found frame one rest says in
    cc

pub one_more : (payload : List ℕ) (frames : List Frame) (state next : IterState) (frame : Frame)
    → HasCome payload frames state → Finds state frame next → HasCome payload (frames ++ frame ∷ []) next
one_more payload frames state next frame w f = record {
  found = w.found ++ f.found ∷ [];
  same = meant_after frames w.found frame f.found w.same f.says;
  read = has_read_more false payload w.found state next frame w.read f;
}

-- ---- the end of the payload, or an error

pub returns_all : (payload : List ℕ) (frames : List Frame) (state : IterState) → HasCome payload frames state
    → IsSpent state → ExactlyOne (IsReadingOf false payload)
    → ReturnsOne (IsReadingOf false payload) (IsReturnedAs frames None)
returns_all payload frames state w spent one = record {
  one = one;
  returned = subst (IsReturnedAs frames None)
      (one.only (Complete w.found) (has_read_all false payload w.found state w.read spent)) w.same;
}

pub returns_error : (payload : List ℕ) (frames : List Frame) (state : IterState) (e : InvalidFrame)
    → HasCome payload frames state → LacksFrame state (invalid_of e) → ExactlyOne (IsReadingOf false payload)
    → ReturnsOne (IsReadingOf false payload) (IsReturnedAs frames (Some e))
returns_error payload frames state e w l one = record {
  one = one;
  returned = subst (IsReturnedAs frames (Some e)) (one.only (FailsAfter w.found l.type l.reason)
      (has_read_error false payload w.found state (invalid_of e) w.read l)) (w.same, l.says);
}

-- ---- a frame is kept

pub is_kept : {X E : Type 0} (result : Result X E) (failed : Bool) (new more old : List Frame) → failed ≡ false
    → failed ≡ is_err result → new ≡ (if is_ok result then more else old) → new ≡ more
is_kept (Ok x) failed new more old not_failed is e = e
is_kept (Err x) failed new more old not_failed is e = absurd cc

-- ---- whether more bytes can help

-- Frames came.
abbrev pub IsUnderWay : List ℕ → IterState → Type 0
IsUnderWay payload state = (found : List TypedFrame) × HasRead false payload found state

pub on_the_way : (payload : List ℕ) (state next : IterState) (frame : Frame) → IsUnderWay payload state
    → Finds state frame next → IsUnderWay payload next
on_the_way payload state next frame w f =
    (w.0 ++ f.found ∷ [], has_read_more false payload w.0 state next frame w.1 f)

when_true : (P Q : Type 0) (b : Bool) → IsTrue b → MatchBool b P Q → P
when_true P Q true t p = p
when_true P Q false t p = absurd (is_not t)
  where
    is_not : IsTrue false → ⊥
    is_not t = cc

when_false : (P Q : Type 0) (b : Bool) → b ≡ false → MatchBool b P Q → Q
when_false P Q true e p = absurd cc
when_false P Q false e p = p

pub lost : (front : List ℕ) (state : IterState) (i : InvalidFrame) (final : Bool)
    → ((strict : Bool) (found others : List TypedFrame) (bytes more : List ℕ) (type : Option ℕ) (reason : Fault)
    → AreBytes (bytes ++ more) → IsReadingOf strict (bytes ++ more) (Complete found)
    → IsReadingOf strict bytes (FailsAfter others type reason) → reason ≡ UnexpectedEnd)
    → IsUnderWay front state → LacksFrame state (invalid_of i)
    → MatchBool final (i.reason.now ≢ codes "unexpected end") (i.reason.now ≡ codes "unexpected end") → IsTrue final
    → (more : List ℕ) (found : List TypedFrame) → AreBytes (front ++ more)
    → IsReadingOf false (front ++ more) (Complete found) → ⊥
lost front state i final last w l tested sure more found fits complete =
    let broken = has_read_error false front w.0 state (invalid_of i) w.1 l in
    let cut : l.reason ≡ UnexpectedEnd = last false found w.0 front more l.type l.reason fits complete broken in
    let text : i.reason.now ≡ reason_text l.reason = ap (λ (x : Invalid). x.reason) l.says in
    when_true _ _ final sure tested (text ∙ ap reason_text cut)

reason_is_end : (reason : Fault) → reason_text reason ≡ codes "unexpected end" → reason ≡ UnexpectedEnd
reason_is_end UnexpectedEnd e = refl
reason_is_end InvalidFrameId e = absurd (omega (arith, ap length e))
reason_is_end Malformed e = absurd (omega (arith, ap length e))
reason_is_end LongType e = absurd (omega (arith, ap length e))

pub may_go_on : (front : List ℕ) (state : IterState) (i : InvalidFrame) (final : Bool)
    → ExactlyOne (IsReadingOf false front) → IsUnderWay front state → LacksFrame state (invalid_of i)
    → MatchBool final (i.reason.now ≢ codes "unexpected end") (i.reason.now ≡ codes "unexpected end") → final ≡ false
    → (reading : Reading) → IsReadingOf false front reading → MayGoOn reading
may_go_on front state i final one w l tested unsure reading is =
    let broken = has_read_error false front w.0 state (invalid_of i) w.1 l in
    let text : reason_text l.reason ≡ i.reason.now = sym (ap (λ (x : Invalid). x.reason) l.says) in
    let end = reason_is_end l.reason (text ∙ when_false _ _ final unsure tested) in
    subst MayGoOn (one.only (FailsAfter w.0 l.type l.reason) broken ∙ sym (one.only reading is)) end

pub may_follow : (front : List ℕ) (state : IterState) → ExactlyOne (IsReadingOf false front) → IsUnderWay front state
    → IsSpent state → (reading : Reading) → IsReadingOf false front reading → MayGoOn reading
may_follow front state one w spent reading is =
    subst MayGoOn (one.only (Complete w.0) (has_read_all false front w.0 state w.1 spent)
    ∙ sym (one.only reading is)) tt

pub may_begin : (front : List ℕ) → ExactlyOne (IsReadingOf false front) → front ≡ []
    → (reading : Reading) → IsReadingOf false front reading → MayGoOn reading
may_begin front one none reading is = subst MayGoOn (one.only (Complete []) none ∙ sym (one.only reading is)) tt
