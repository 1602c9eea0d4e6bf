-- The types of frames that were read.
use Rattle.std.proofs.Common.{◌≡◌, ℕ, ◌<◌, ◌^◌, Bool, true, false, List, [], ◌∷◌, Option, None, Some, refl, sym, ap, subst, ◌∙◌, inl, inr, arith}
use Rattle.std.specs.Prelude.{◌⊎◌, ◌==◌, ◌&&◌, nat_lt}
use Rattle.std.specs.Map.{lookup}
use Rattle.std.proofs.lemmas.Bool.Decides.{nat_tests}
use Rattle.quic_frame_fields.specs.Payload.{TypedFrame}
use Rattle.quic_frame_fields.specs.Reading.{Invalid, invalid}
use Rattle.quic_frame_fields.specs.declared.frame.fault.Fault.{Fault}
use Rattle.quic_frame_fields.specs.Table.{Row, rows, row_of}
use Rattle.quic_frames.specs.declared.frame.Frame.{Frame}
use Rattle.quic_frames.specs.IterState.{IterState}
use Rattle.quic_frames.specs.Padding.{PassesPadding}
use Rattle.quic_frames.specs.declared.frame.rules.Rules.{Rules}
use Rattle.quic_frames.specs.declared.frame.rules.Breach.{Breach}
use Rattle.quic_frames.specs.Checking.{IsRefusedFrame}
use Rattle.quic_frames.specs.Meaning.{meaning_of}
use Rattle.quic_frames.specs.Rules.{Keeps, breach_of, breach_text, fault_by}
use Rattle.quic_frames.proofs.Checking.{breach_found}
use Rattle.quic_frames.specs.Walk.{first_of, Finds, LacksFrame}
use Rattle.quic_c_words.specs.declared.words.CFrame.{CFrame}
use Rattle.quic_c_words.specs.declared.words.CFrameIter.{CFrameIter}
use Rattle.quic_c_words.specs.declared.words.CGap.{CGap}
use Rattle.quic_c_words.specs.Shown.{frame_kind_of, frame_words, type_in, state_of}
use Rattle.quic_c.specs.Answers.{GivesFrameWords}
use Rattle.quic_c.specs.Filling.{further}
use Rattle.quic_c.specs.Front.{ReadsFront, ShowsFront}

all_fit : List (ℕ × Row) → Bool
all_fit [] = true
all_fit (entry ∷ entries) = nat_lt entry.0 (2 ^ 16) && all_fit entries

both_of : (b c : Bool) → (b && c) ≡ true → (b ≡ true) × (c ≡ true)
both_of true c h = (refl, h)
both_of false c h = absurd cc

cases_bool : (b : Bool) → (b ≡ true) ⊎ (b ≡ false)
cases_bool true = inl refl
cases_bool false = inr refl

found_fits : (t : ℕ) (entries : List (ℕ × Row)) (r : Row) → all_fit entries ≡ true
    → lookup (λ u. t == u) entries ≡ Some r → t < 2 ^ 16
unfolding all_fit
found_fits t [] r fit e = absurd cc
found_fits t (entry ∷ entries) r fit e =
    let w = both_of (nat_lt entry.0 (2 ^ 16)) (all_fit entries) fit in
    elim (cases_bool (t == entry.0)) [
      | inl here ↦ grind (arith, nat_tests)
      | inr other ↦ found_fits t entries r w.1 (rw other at e)
    ]

row_fits : (t : ℕ) (r : Row) → row_of t ≡ Some r → t < 2 ^ 16
unfolding all_fit
row_fits t r e = found_fits t rows r refl e

some_is : {t u : ℕ} → ◌≡◌ {A = Option ℕ} (Some t) (Some u) → t ≡ u
some_is e = cc

-- the last type after a frame that was found is its type
pub last_is : (old new : IterState) (frame : Frame) (finds : Finds old frame new) (t : ℕ) → new.last ≡ Some t
    → t ≡ finds.found.type
last_is old new frame finds t e = some_is (sym e ∙ ap (λ (w : IterState). w.last) finds.comes)

-- and it is one of the table
pub last_fits : (old new : IterState) (frame : Frame) (finds : Finds old frame new) (t : ℕ) → new.last ≡ Some t
    → t < 2 ^ 16
last_fits old new frame finds t e =
    let small = row_fits finds.found.type finds.stands.encoded.row finds.stands.encoded.in_table in
    omega (arith, small, last_is old new frame finds t e)

-- ---- a frame's words, with its type

pub word_back : (t : ℕ) → t < 2 ^ 16 → type_in t ≡ Some t
word_back t small = grind (arith, nat_tests)

-- where an iterator is after a frame, by its end and its type
pub behind_frame : (here next : IterState) (frame : Frame) (finds : Finds here frame next) (stop type : ℕ)
    → stop ≡ next.offset
    → type ≡ finds.found.type → type < 2 ^ 16 → further here stop (type_in type) ≡ next
behind_frame here next frame finds stop type ends begins small =
    ap (λ (n : ℕ). further here n (type_in type)) ends
    ∙ ap (λ (l : Option ℕ). further here next.offset l) (word_back type small ∙ ap (λ (n : ℕ). Some n) begins)
    ∙ sym finds.comes

-- the same frame found between equal places
found_between : (here next old new : IterState) (frame : Frame) (finds : Finds here frame next) → here ≡ old
    → next ≡ new → (f : Finds old frame new) × (f.found ≡ finds.found)
found_between here next old new frame finds p q =
    subst (λ (w : IterState). (f : Finds w frame new) × (f.found ≡ finds.found)) p
    (subst (λ (w : IterState). (f : Finds here frame w) × (f.found ≡ finds.found)) q (finds, refl))

pub gives_frame : (rules : Rules) (old new : CFrameIter) (payload : List ℕ) (out : CFrame) (here next : IterState)
    (frame : Frame) (type : ℕ) (finds : Finds here frame next)
    → Keeps rules finds.found → state_of old payload ≡ here
    → state_of new payload ≡ next → type ≡ finds.found.type
    → out ≡ frame_words old.offset new.offset type frame → GivesFrameWords rules old payload new out
gives_frame rules old new payload out here next frame type finds kept is_here is_next begins words =
    let f =
    found_between here next (state_of old payload) (state_of new payload) frame finds (sym is_here) (sym is_next) in
    record {
      frame = frame;
      finds = f.0;
      kept = subst (Keeps rules) (sym f.1) kept;
      words = words
          ∙ ap (λ (n : ℕ). frame_words old.offset new.offset n frame)
          (begins ∙ ap (λ (x : TypedFrame). x.type) (sym f.1));
    }

-- a frame of which a test found none
pub keeps : (rules : Rules) (here next : IterState) (frame : Frame) (test : Option Breach) (finds : Finds here frame next)
    → test ≡ breach_of rules (meaning_of frame) → test ≡ None → Keeps rules finds.found
keeps rules here next frame test finds tests none = ap (breach_of rules) finds.says ∙ sym tests ∙ none

-- a frame of which a test found a breach, and what is reported of it
pub is_refused : (rules : Rules) (here next : IterState) (frame : Frame) (test : Option Breach) (last : Option ℕ)
    (reported : Invalid) → Finds here frame next → test ≡ breach_of rules (meaning_of frame)
    → (b : Breach) × (test ≡ Some b) → last ≡ next.last
    → ((b : Breach) → test ≡ Some b → reported ≡ record { type = last; reason = breach_text b })
    → IsRefusedFrame rules here reported
is_refused rules here next frame test last reported finds tests some is says =
    let by_type : Option ℕ → Invalid = λ t. record { type = t; reason = breach_text some.0 } in
    inr (breach_found rules here next frame test some.0 reported finds tests some.1 (says some.0 some.1 ∙ ap by_type is))

-- bytes that aren't a frame, and what is reported of them
pub is_lacking : (rules : Rules) (here : IterState) (plain reported : Invalid) → LacksFrame here plain
    → ((type : Option ℕ) (reason : Fault) → plain ≡ invalid type reason → reported ≡ invalid type (fault_by rules type reason))
    → IsRefusedFrame rules here reported
is_lacking rules here plain reported l says =
    inl (record { plain = plain; lacks = l; says = says l.type l.reason l.says })

pub reads_front : (rules : Rules) (payload : List ℕ) (before : List CGap) (stop : ℕ) (words : CFrame)
    (after : List CGap) (frame : Frame) (next rest : IterState) (type : ℕ)
    → (finds : Finds (first_of rules.short_types payload) frame next) → Keeps rules finds.found
    → (frame_kind_of frame ≡ 0 → (more : ℕ) × PassesPadding next more rest) → (0 < frame_kind_of frame → rest ≡ next)
    → stop ≡ rest.offset → type ≡ finds.found.type → ShowsFront stop type frame before words after
    → ReadsFront rules payload before stop words after
reads_front rules payload before stop words after frame next rest type finds kept run one ends begins shows =
    record {
      frame = frame;
      next = next;
      rest = rest;
      finds = finds;
      kept = kept;
      run = run;
      one = one;
      ends = ends;
      shows = subst (λ (t : ℕ). ShowsFront stop t frame before words after) begins shows;
    }
