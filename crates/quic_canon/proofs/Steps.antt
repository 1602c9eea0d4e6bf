-- A step of a walk over a payload.
use Rattle.std.proofs.Common.{◌≡◌, ◌≢◌, ℕ, ◌-◌, ◌<◌, ◌≤◌, eqb, leb, Bool, true, false, List, [], ◌∷◌, ◌++◌, length, map, drop, Some, Result, Ok, Err, refl, sym, ap, subst, ◌∙◌, inl, inr, arith}
use Rattle.std.specs.Prelude.{◌↔◌, slice_range}
use Rattle.std.proofs.lemmas.Bool.Decides.{nat_tests}
use Rattle.std.proofs.lemmas.List.{append-nil, length-drop}
use Rattle.quic_base.proofs.PublicLaws.{same_back}
use Rattle.quic_frames.specs.declared.frame.Frame.{Frame}
use Rattle.quic_frame_fields.specs.Table.{is_open}
use Rattle.quic_frame_fields.specs.Payload.{Meaning, TypedFrame, IsFrame, AreFrames}
use Rattle.quic_frame_fields.specs.Reading.{Invalid, Item}
use Rattle.quic_frames.specs.Meaning.{meaning_of}
use Rattle.quic_frames.specs.InRange.{HasNoTypeZero, CanStand}
use Rattle.quic_frames.specs.Found.{found_as}
use Rattle.quic_frame_fields.specs.Shortest.{shortest_frame}
use Rattle.quic_frames.specs.Least.{AreOrExceed, is_end, frame_in, shortest_frames}
use Rattle.quic_frames.specs.IterState.{IterState}
use Rattle.quic_frames.specs.Walk.{left, first_of, unplaced, given, Stands, Finds, Fails, IsSpent, Advances}
use Rattle.quic_frames.proofs.Turns.{HasRead, has_read_none, has_read_more, finds_left, left_done}
use Rattle.quic_errors.specs.declared.invalid_frame.InvalidFrame.{InvalidFrame}
use Rattle.quic_canon.proofs.Cuts.{cut_there, length-slice_range, split_front, cases_bool}

-- what is used of the laws of payloads, besides those
abbrev pub BeginsNone : Type 0
BeginsNone =
    (one other : TypedFrame) (bytes longer rest : List ℕ) → is_open one.type ≡ false → IsFrame false one bytes
    → IsFrame false other longer → longer ≡ bytes ++ rest → bytes ≡ longer

abbrev pub OneShortest : Type 0
OneShortest =
    (last : Bool) (found : TypedFrame) (bytes : List ℕ) → IsFrame false found bytes
    → (is_open found.type ≡ true → last ≡ true) → AreOrExceed bytes (shortest_frame last found.frame)

abbrev pub Exact : Type 0
Exact =
    (last : Bool) (t : ℕ) (frame : Frame) (bytes : List ℕ) → HasNoTypeZero frame
    → IsFrame false (found_as t frame) bytes → (is_open t ≡ true → last ≡ true) → CanStand last frame

-- ---- a frame that was found can be written

meaning_is : (frame : Frame) (found : TypedFrame) → found.frame ≡ meaning_of frame → found ≡ found_as found.type frame
meaning_is frame found e = ap (λ (m : Meaning). let f : TypedFrame = record { type = found.type; frame = m } in f) e

at_end : (m n : ℕ) → m ≡ n → eqb m n ≡ true
at_end m n e = grind (arith, nat_tests)

pub can_stand : (old new : IterState) (frame : Frame) (size : ℕ) → Exact → old.strict ≡ false
    → size ≡ length old.payload → Finds old frame new
    → CanStand (eqb new.offset size) frame
can_stand old new frame size exact any len f =
    let s =
    subst (λ (x : TypedFrame). IsFrame false x (slice_range old.payload old.offset new.offset))
    (meaning_is frame f.found f.says) (subst (λ (b : Bool). IsFrame b f.found
    (slice_range old.payload old.offset new.offset)) any f.stands.encoded) in
    exact (eqb new.offset size) f.found.type frame (slice_range old.payload old.offset new.offset) f.distinct s
    (λ opens. at_end new.offset size (f.ends opens ∙ sym len))

-- ---- what is left of a payload

abbrev pub Reported : Type 0
Reported = Result TypedFrame Invalid

pub record Walks (payload : List ℕ) (start : ℕ) (state : IterState) : Type 0 where
  pub found : List TypedFrame
  pub read : HasRead false payload found state
  pub start_is : state.offset ≡ start
  pub within : start ≤ length payload

-- One frame has one encoding at the front of bytes.
front_is : (f : TypedFrame) (a b c d : List ℕ) → BeginsNone → a ++ b ≡ c ++ d → IsFrame false f a → IsFrame false f c
    → (is_open f.type ≡ true → b ≡ []) → (is_open f.type ≡ true → d ≡ []) → a ≡ c
front_is f a b c d begins e one other opens opens' =
    elim (cases_bool (is_open f.type)) [
      | inl open_type ↦
          sym (append-nil a) ∙ ap (λ (l : List ℕ). a ++ l) (sym (opens open_type)) ∙ e
          ∙ ap (λ (l : List ℕ). c ++ l) (opens' open_type) ∙ append-nil c
      | inr closed ↦
          elim (cases_bool (leb (length a) (length c))) [
            | inl le ↦
                let less : length a ≤ length c = grind (arith, nat_tests) in
                let r = split_front a b c d e less in begins f f a c r.0 closed one other r.1
            | inr gt ↦
                let less : length c ≤ length a = grind (arith, nat_tests) in
                let r = split_front c d a b (sym e) less in sym (begins f f c a r.0 closed other one r.1)
          ]
    ]

-- ---- one step

pub record Here (payload : List ℕ) (start stop : ℕ) (found : TypedFrame) (old new : IterState) : Type 0 where
  pub stands : Stands false payload start stop found
  pub opens : is_open found.type ≡ true → stop ≡ length payload
  pub first : map unplaced (left old) ≡ Ok found ∷ map unplaced (left new)
  pub done : (left new ≡ []) ↔ (stop ≡ length payload)

pub here : (payload : List ℕ) (start : ℕ) (old new : IterState) (frame : Frame) → Walks payload start old
    → (f : Finds old frame new)
    → Here payload start new.offset f.found old new
here payload start old new frame w f = record {
  stands = subst (λ (l : List ℕ). Stands false l start new.offset f.found) w.read.same_payload
      (subst (λ (n : ℕ). Stands false old.payload n new.offset f.found) w.start_is
      (subst (λ (b : Bool). Stands b old.payload old.offset new.offset f.found) w.read.same_strict f.stands));
  opens = λ e. f.ends e ∙ ap length w.read.same_payload;
  first = ap (map unplaced) (finds_left old new frame f);
  done = (
    (λ e. (left_done old new frame f).0 e ∙ ap length w.read.same_payload),
    (λ e. (left_done old new frame f).1 (e ∙ sym (ap length w.read.same_payload))),
  );
}

pub given_on : (found : TypedFrame) (items : List Reported) (rest : List TypedFrame) → Ok found ∷ items ≡ map given rest
    → (more : List TypedFrame) × (rest ≡ found ∷ more) × (items ≡ map given more)
given_on found items [] e = absurd cc
given_on found items (r ∷ rest) e =
    let head : found ≡ r = cc in
    let tails : items ≡ map given rest = cc in
    (rest, ap (λ (f : TypedFrame). f ∷ rest) (sym head), tails)

pub walk_on : (payload : List ℕ) (start : ℕ) (old new : IterState) (frame : Frame) → Walks payload start old
    → Finds old frame new
    → Walks payload new.offset new
walk_on payload start old new frame w f = record {
  found = w.found ++ f.found ∷ [];
  read = has_read_more false payload w.found old new frame w.read f;
  start_is = refl;
  within = (here payload start old new frame w f).stands.within;
}

nothing_left : (items : List Item) → map unplaced items ≡ [] → items ≡ []
nothing_left [] e = refl
nothing_left (i ∷ items) e = absurd cc

end_if : (more : List TypedFrame) (new : IterState) (b : Bool) → map unplaced (left new) ≡ map given more
    → (left new ≡ [] → b ≡ true)
    → (b ≡ true → left new ≡ []) → is_end (map frame_in more) ≡ b
end_if [] new b e to from = sym (to (nothing_left (left new) e))
end_if (m ∷ more) new true e to from =
    absurd (let none : map unplaced (left new) ≡ [] = ap (map unplaced) (from refl) in cc (none, e))
end_if (m ∷ more) new false e to from = refl

-- the frame that was found, in front of the others
pub record Next (payload : List ℕ) (start stop size : ℕ) (new : IterState) (found : TypedFrame) (rest : List TypedFrame) : Type 0 where
  pub more : List TypedFrame
  pub rest_is : rest ≡ found ∷ more
  pub left_are : map unplaced (left new) ≡ map given more
  pub encoded : AreFrames false more (drop stop payload)
  pub last_is : is_end (map frame_in more) ≡ eqb stop size

pub from_test : (m n : ℕ) → eqb m n ≡ true → m ≡ n
from_test m n e = grind (arith, nat_tests)

pub next_frame : (payload : List ℕ) (start size : ℕ) (old new : IterState) (frame : Frame) (rest : List TypedFrame)
    → BeginsNone
    → size ≡ length payload → Walks payload start old → (f : Finds old frame new)
    → map unplaced (left old) ≡ map given rest → AreFrames false rest (drop start payload)
    → Next payload start new.offset size new f.found rest
next_frame payload start size old new frame rest begins len w f are s =
    let h = here payload start old new frame w f in
    let g = given_on f.found (map unplaced (left new)) rest (sym h.first ∙ are) in
    let t : AreFrames false (f.found ∷ g.0) (drop start payload) =
    subst (λ (l : List TypedFrame). AreFrames false l (drop start payload)) g.1 s in
    let stop = new.offset in
    let some = h.stands.some in
    let cut = cut_there payload start stop (omega (arith, some)) in
    let front : t.0 ≡ slice_range payload start stop =
    front_is f.found t.0 t.1 (slice_range payload start stop) (drop stop payload) begins (sym t.2 ∙ cut) t.3
    h.stands.encoded t.4 (λ e. drop_end payload stop (h.opens e)) in
    let back : t.1 ≡ drop stop payload =
    same_back t.0 (slice_range payload start stop) t.1 (drop stop payload) (ap length front) (sym t.2 ∙ cut) in
    record {
      more = g.0;
      rest_is = g.1;
      left_are = g.2;
      encoded = subst (AreFrames false g.0) back t.5;
      last_is = end_if g.0 new (eqb stop size) g.2 (λ e. at_end stop size (h.done.0 e ∙ sym len))
          (λ e. h.done.1 (from_test stop size e ∙ len));
    }
  where
    drop_end : (payload : List ℕ) (stop : ℕ) → stop ≡ length payload → drop stop payload ≡ []
    drop_end payload stop e = nothing (drop stop payload) (omega (arith, length-drop stop payload, e))
      where
        nothing : (l : List ℕ) → length l ≤ 0 → l ≡ []
        nothing [] le = refl
        nothing (x ∷ l) le = absurd (omega (arith, le))

-- ---- the frames at the front that are in their shortest encodings

-- a span of the length of the shortest encoding is that
span_is : (last : Bool) (found : TypedFrame) (bytes : List ℕ) → OneShortest → IsFrame false found bytes
    → (is_open found.type ≡ true → last ≡ true)
    → length (shortest_frame last found.frame) ≡ length bytes → bytes ≡ shortest_frame last found.frame
span_is last found bytes one f opens len = is (one last found bytes f opens)
  where
    is : AreOrExceed bytes (shortest_frame last found.frame) → bytes ≡ shortest_frame last found.frame
    is (inl e) = e
    is (inr lt) = absurd (omega (arith, lt, len))

span_exceeds : (last : Bool) (found : TypedFrame) (bytes : List ℕ) → OneShortest → IsFrame false found bytes
    → (is_open found.type ≡ true → last ≡ true) → length (shortest_frame last found.frame) ≢ length bytes
    → length (shortest_frame last found.frame) < length bytes
span_exceeds last found bytes one f opens len = is (one last found bytes f opens)
  where
    is : AreOrExceed bytes (shortest_frame last found.frame) → length (shortest_frame last found.frame) < length bytes
    is (inl e) = absurd (len (sym (ap length e)))
    is (inr lt) = lt

pub at_most : (bytes least : List ℕ) → AreOrExceed bytes least → length least ≤ length bytes
at_most bytes least (inl e) = omega (arith, ap length e)
at_most bytes least (inr lt) = omega (arith, lt)

-- the span of a frame that was found
pub record Span (payload : List ℕ) (start stop size : ℕ) (found : TypedFrame) : Type 0 where
  pub some : start < stop
  pub within : stop ≤ length payload
  pub len : length (slice_range payload start stop) ≡ stop - start
  pub encoded : IsFrame false found (slice_range payload start stop)
  pub last : is_open found.type ≡ true → eqb stop size ≡ true

pub span_of : (payload : List ℕ) (start size : ℕ) (old new : IterState) (frame : Frame) → size ≡ length payload
    → Walks payload start old
    → (f : Finds old frame new) → Span payload start new.offset size f.found
span_of payload start size old new frame len w f =
    let h = here payload start old new frame w f in
    let some = h.stands.some in
    record {
      some = some;
      within = h.stands.within;
      len = length-slice_range payload start new.offset (omega (arith, some)) h.stands.within;
      encoded = h.stands.encoded;
      last = λ e. at_end new.offset size (h.opens e ∙ sym len);
    }

-- what comparing lengths says about the frame that was found
abbrev pub Tested : Bool → Frame → ℕ → ℕ → ℕ → Type 0
Tested b frame start stop size = b ≡ eqb (length (shortest_frame (eqb stop size) (meaning_of frame))) (stop - start)

pub frame_length : (frame : Frame) (found : TypedFrame) (last : Bool) → found.frame ≡ meaning_of frame
    → length (shortest_frame last (meaning_of frame)) ≡ length (shortest_frame last found.frame)
frame_length frame found last e = ap (λ (m : Meaning). length (shortest_frame last m)) (sym e)

pub shortest_there : (payload : List ℕ) (start size : ℕ) (old new : IterState) (frame : Frame) (b : Bool) → OneShortest
    → size ≡ length payload
    → Walks payload start old → (f : Finds old frame new) → Tested b frame start new.offset size → b ≡ true
    → slice_range payload start new.offset ≡ shortest_frame (eqb new.offset size) f.found.frame
shortest_there payload start size old new frame b one len w f tested e =
    let s = span_of payload start size old new frame len w f in
    let last = eqb new.offset size in
    let same = from_test (length (shortest_frame last (meaning_of frame))) (new.offset - start) (sym tested ∙ e) in
    span_is last f.found (slice_range payload start new.offset) one s.encoded s.last
    (sym (frame_length frame f.found last f.says) ∙ same ∙ sym s.len)

pub longer_there : (payload : List ℕ) (start size : ℕ) (old new : IterState) (frame : Frame) (b : Bool) → OneShortest
    → size ≡ length payload
    → Walks payload start old → (f : Finds old frame new) → Tested b frame start new.offset size → b ≡ false
    → length (shortest_frame (eqb new.offset size) f.found.frame) < new.offset - start
longer_there payload start size old new frame b one len w f tested e =
    let s = span_of payload start size old new frame len w f in
    let last = eqb new.offset size in
    let lt = span_exceeds last f.found (slice_range payload start new.offset) one s.encoded s.last
    (λ h. true_is_not_false (sym (at_end (length (shortest_frame last (meaning_of frame))) (new.offset - start)
    (frame_length frame f.found last f.says ∙ h ∙ s.len)) ∙ sym tested ∙ e)) in
    omega (arith, lt, s.len)
  where
    true_is_not_false : true ≡ false → ⊥
    true_is_not_false h = cc

pub shortest_next : (found : TypedFrame) (rest more : List TypedFrame) (last : Bool) → rest ≡ found ∷ more
    → is_end (map frame_in more) ≡ last
    → shortest_frames (map frame_in rest) ≡ shortest_frame last found.frame ++ shortest_frames (map frame_in more)
shortest_next found rest more last is end =
    ap (λ (l : List TypedFrame). shortest_frames (map frame_in l)) is
    ∙ ap (λ (b : Bool). shortest_frame b found.frame ++ shortest_frames (map frame_in more)) end

pub walk_begins : (payload : List ℕ) (state : IterState) → state ≡ first_of false payload → Walks payload 0 state
walk_begins payload state first = record {
  found = [];
  read = has_read_none false payload state first;
  start_is = ap (λ (w : IterState). w.offset) first;
  within = omega arith;
}

-- nothing is left
pub spent_at : (payload : List ℕ) (start : ℕ) (state : IterState) → Walks payload start state → IsSpent state
    → start ≡ length payload
spent_at payload start state w (inl broken) = absurd (cc (broken, w.read.goes_on))
spent_at payload start state w (inr end) = sym w.start_is ∙ end ∙ ap length w.read.same_payload

-- ---- what a step returned

pub finds_ok : (old new : IterState) (item : Result Frame InvalidFrame) (frame : Frame) → item ≡ Ok frame
    → Advances old (Some item) new → Finds old frame new
finds_ok old new item frame e a = subst (λ (r : Result Frame InvalidFrame). Advances old (Some r) new) e a

pub fails_err : (old new : IterState) (item : Result Frame InvalidFrame) (i : InvalidFrame) → item ≡ Err i
    → Advances old (Some item) new → Fails old i new
fails_err old new item i e a = subst (λ (r : Result Frame InvalidFrame). Advances old (Some r) new) e a

-- the same by the number that the code holds
pub stands_at : (payload : List ℕ) (start stop : ℕ) (old new : IterState) (frame : Frame) → Exact
    → Walks payload start old → Finds old frame new
    → stop ≡ new.offset → CanStand (eqb stop (length payload)) frame
stands_at payload start stop old new frame exact w f at =
    subst (λ (n : ℕ). CanStand (eqb n (length payload)) frame) (sym at)
    (can_stand old new frame (length payload) exact w.read.same_strict (sym (ap length w.read.same_payload)) f)

pub small_at : (payload : List ℕ) (start stop : ℕ) (old new : IterState) (frame : Frame) → OneShortest
    → Walks payload start old → Finds old frame new
    → stop ≡ new.offset → length (shortest_frame (eqb stop (length payload)) (meaning_of frame)) ≤ stop - start
small_at payload start stop old new frame one w f at =
    let s = span_of payload start (length payload) old new frame refl w f in
    let last = eqb new.offset (length payload) in
    let le =
    at_most (slice_range payload start new.offset) (shortest_frame last f.found.frame)
    (one last f.found (slice_range payload start new.offset) s.encoded s.last) in
    subst (λ (n : ℕ). length (shortest_frame (eqb n (length payload)) (meaning_of frame)) ≤ n - start) (sym at)
    (omega (arith, le, frame_length frame f.found last f.says, s.len))
