-- What an iterator returns in turn, and what that says about the payload.
use Rattle.std.proofs.Common.{◌≡◌, ◌≢◌, ℕ, ◌+◌, ◌-◌, Bool, true, false, List, [], ◌∷◌, ◌++◌, length, map, take, drop, Option, Some, None, Ok, refl, sym, ap, subst, ◌∙◌, append_assoc, inl, inr, arith}
use Rattle.std.specs.Prelude.{◌↔◌, slice_range}
use Rattle.std.proofs.lemmas.List.{append-nil, length-append, length-drop, length-take, take-append-drop, drop-drop}
use Rattle.quic_base.specs.Number.{AreBytes}
use Rattle.quic_base.proofs.PublicLaws.{back_bytes}
use Rattle.quic_errors.specs.declared.invalid_frame.InvalidFrame.{InvalidFrame}
use Rattle.quic_frame_fields.specs.Payload.{TypedFrame, IsFrame, AreFrames, AreClosed, IsBroken, IsNoFrame, last_type}
use Rattle.quic_frame_fields.specs.Reading.{Invalid, invalid, Item, Whole, Broken, items_of, found_at}
use Rattle.quic_frame_fields.specs.Table.{is_open}
use Rattle.quic_frames.specs.declared.frame.Frame.{Frame}
use Rattle.quic_frames.specs.IterState.{IterState}
use Rattle.quic_frames.specs.Walk.{left, first_of, rest_of, invalid_of, unplaced, given, Finds, LacksFrame, Fails, IsSpent}
use Rattle.quic_frame_fields.proofs.Steps.{true_is_not_false}
use Rattle.quic_frames.proofs.Frames.{found_again, no_frame_again}
use Rattle.quic_frames.proofs.Items.{is_some_bytes, nothing, frames_are_items, items_found, items_broken, no_items, all_read, no_frame_some, end_of}

-- ---- the items that are left

pub frames_first : (strict : Bool) (payload : List ℕ) (state : IterState) (found : List TypedFrame)
    → state ≡ first_of strict payload → AreFrames strict found payload → map unplaced (left state) ≡ map given found
frames_first strict payload state found first s =
    ap (λ (w : IterState). map unplaced (left w)) first ∙ frames_are_items strict found 0 None payload s

-- the rest of a payload is the frame that was found, and what is left after it
pub record Splits (old : IterState) (found : TypedFrame) (new : IterState) : Type 0 where
  pub front : List ℕ
  pub cut : rest_of old ≡ front ++ rest_of new
  pub here : front ≡ slice_range old.payload old.offset new.offset
  pub size : length front ≡ new.offset - old.offset
  pub opens : is_open found.type ≡ true → rest_of new ≡ []

pub splits : (old new : IterState) (frame : Frame) → (f : Finds old frame new) → Splits old f.found new
splits old new frame f =
    let some = f.stands.some in
    let within = f.stands.within in
    let same : new.payload ≡ old.payload = ap (λ (s : IterState). s.payload) f.comes in
    let size = new.offset - old.offset in
    let rest = drop old.offset old.payload in
    let behind : drop size rest ≡ rest_of new =
    drop-drop size old.offset old.payload ∙ ap (λ (n : ℕ). drop n old.payload) (omega (arith, some))
    ∙ ap (λ (l : List ℕ). drop new.offset l) (sym same) in
    record {
      front = take size rest;
      cut = sym (take-append-drop size rest) ∙ ap (λ (l : List ℕ). take size rest ++ l) behind;
      here = refl;
      size = omega (arith, length-take size rest, length-drop old.offset old.payload, some, within);
      opens = λ e. ap (λ (l : List ℕ). drop new.offset l) same
          ∙ nothing (drop new.offset old.payload) (omega (arith, length-drop new.offset old.payload, f.ends e));
    }

going_on : (state : IterState) → state.is_broken ≡ false
    → left state ≡ items_of state.strict state.offset state.last (rest_of state)
going_on state e = rw e refl

-- a frame that was found was the first item
pub finds_left : (old new : IterState) (frame : Frame) → (f : Finds old frame new)
    → left old ≡ Whole old.offset new.offset f.found ∷ left new
finds_left old new frame f =
    let s = splits old new frame f in
    let some = f.stands.some in
    let encoded = subst (λ (l : List ℕ). IsFrame old.strict f.found l) (sym s.here) f.stands.encoded in
    let here : found_at old.strict old.last (rest_of old) ≡ Ok (f.found, rest_of new) =
    ap (found_at old.strict old.last) s.cut ∙ found_again old.strict old.last f.found s.front (rest_of new) encoded s.opens in
    let sizes : length (rest_of old) ≡ length s.front + length (rest_of new) =
    ap length s.cut ∙ length-append s.front (rest_of new) in
    let place : end_of old.offset (rest_of old) (rest_of new) ≡ new.offset = omega (arith, sizes, s.size, some) in
    let turn = items_found old.strict old.offset old.last (rest_of old) (f.found, rest_of new) f.octets
    (is_some_bytes (rest_of old) (omega (arith, sizes, s.size, some))) here in
    let of_new : left new ≡ items_of old.strict new.offset (Some f.found.type) (rest_of new) =
    going_on new (ap (λ (t : IterState). t.is_broken) f.comes ∙ f.goes_on)
    ∙ ap (λ (t : IterState). items_of t.strict new.offset t.last (rest_of new)) f.comes in
    going_on old f.goes_on ∙ turn
    ∙ ap (λ (n : ℕ). Whole old.offset n f.found ∷ items_of old.strict n (Some f.found.type) (rest_of new)) place
    ∙ ap (λ (l : List Item). Whole old.offset new.offset f.found ∷ l) (sym of_new)

-- an error was the only item
pub lacks_left : (state : IterState) (reported : Invalid) → LacksFrame state reported → AreBytes (rest_of state)
    → left state ≡ Broken reported ∷ []
lacks_left state reported l octets =
    going_on state l.goes_on
    ∙ items_broken state.strict state.offset state.last (rest_of state) (invalid l.type l.reason)
    (no_frame_some state.strict state.last (rest_of state) l.type l.reason l.no_frame)
    (no_frame_again state.strict state.last (rest_of state) l.type l.reason octets l.no_frame)
    ∙ ap (λ (i : Invalid). Broken i ∷ []) (sym l.says)

pub fails_left : (old new : IterState) (error : InvalidFrame) → Fails old error new
    → left old ≡ Broken (invalid_of error) ∷ []
fails_left old new error f = lacks_left old (invalid_of error) f.lacks f.octets

-- nothing is left
pub spent_left : (state : IterState) → IsSpent state → left state ≡ []
spent_left state (inl broken) = rw broken refl
spent_left state (inr end) =
    let none : rest_of state ≡ [] =
    nothing (rest_of state) (omega (arith, length-drop state.offset state.payload, end)) in
    none_left state none state.is_broken refl
  where
    none_left : (state : IterState) → rest_of state ≡ [] → (b : Bool) → state.is_broken ≡ b → left state ≡ []
    none_left state none true e = rw e refl
    none_left state none false e =
        going_on state e ∙ ap (items_of state.strict state.offset state.last) none
        ∙ no_items state.strict state.offset state.last

-- nothing is left at the front only if the payload is empty
pub spent_is_empty : (strict : Bool) (payload : List ℕ) → IsSpent (first_of strict payload) → payload ≡ []
spent_is_empty strict payload (inl broken) = absurd cc
spent_is_empty strict payload (inr end) = nothing payload (omega (arith, end))

-- nothing is left after a frame that ends where the payload does
pub left_done : (old new : IterState) (frame : Frame) → Finds old frame new
    → (left new ≡ []) ↔ (new.offset ≡ length old.payload)
left_done old new frame f =
    let s = splits old new frame f in
    let goes = ap (λ (t : IterState). t.is_broken) f.comes ∙ f.goes_on in
    let same : new.payload ≡ old.payload = ap (λ (t : IterState). t.payload) f.comes in
    let within = f.stands.within in (
      (λ none.
          let rest = all_read new.strict new.offset new.last (rest_of new)
          (back_bytes s.front (rest_of new) (subst AreBytes s.cut f.octets)) (sym (going_on new goes) ∙ none) in
          omega (arith, ap length rest, length-drop new.offset new.payload, ap length same, within)),
      (λ end. spent_left new (inr (end ∙ sym (ap length same)))),
    )

-- ---- what was read so far

-- The frames that an iterator has read are at the front of its payload, and only the last may be open.
pub record HasRead (strict : Bool) (payload : List ℕ) (found : List TypedFrame) (state : IterState) : Type 0 where
  pub front : List ℕ
  pub parts : payload ≡ front ++ rest_of state
  pub encoded : AreFrames strict found front
  pub goes_on : state.is_broken ≡ false
  pub same_strict : state.strict ≡ strict
  pub same_payload : state.payload ≡ payload
  pub at : state.offset ≡ length front
  pub last : state.last ≡ last_type None found
  pub closed : rest_of state ≢ [] → AreClosed found

pub has_read_none : (strict : Bool) (payload : List ℕ) (state : IterState) → state ≡ first_of strict payload
    → HasRead strict payload [] state
has_read_none strict payload state first = record {
  front = [];
  parts = sym (ap rest_of first);
  encoded = refl;
  goes_on = ap (λ (s : IterState). s.is_broken) first;
  same_strict = ap (λ (s : IterState). s.strict) first;
  same_payload = ap (λ (s : IterState). s.payload) first;
  at = ap (λ (s : IterState). s.offset) first;
  last = ap (λ (s : IterState). s.last) first;
  closed = λ _. tt;
}

last_push : (before : Option ℕ) (found : List TypedFrame) (one : TypedFrame)
    → last_type before (found ++ one ∷ []) ≡ Some one.type
last_push before [] one = refl
last_push before (first ∷ found) one = last_push (Some first.type) found one

frames_push : (strict : Bool) (found : List TypedFrame) (one : TypedFrame) (front back : List ℕ)
    → AreFrames strict found front → AreClosed found → IsFrame strict one back
    → AreFrames strict (found ++ one ∷ []) (front ++ back)
frames_push strict [] one front back s closed f =
    subst (AreFrames strict (one ∷ [])) (ap (λ (l : List ℕ). l ++ back) (sym s))
    (back, [], sym (append-nil back), f, λ _. refl, refl)
frames_push strict (first ∷ found) one front back s closed f = (
  s.0,
  s.1 ++ back,
  ap (λ (l : List ℕ). l ++ back) s.2 ∙ append_assoc s.0 s.1 back,
  s.3,
  (λ opens. absurd (true_is_not_false (sym opens ∙ closed.0))),
  frames_push strict found one s.1 back s.5 closed.1 f,
)

closed_push : (found : List TypedFrame) (one : TypedFrame) → AreClosed found → is_open one.type ≡ false
    → AreClosed (found ++ one ∷ [])
closed_push [] one closed e = (e, tt)
closed_push (first ∷ found) one closed e = (closed.0, closed_push found one closed.1 e)

closed_unless : (b : Bool) (rest : List ℕ) → (b ≡ true → rest ≡ []) → rest ≢ [] → b ≡ false
closed_unless true rest opens some = absurd (some (opens refl))
closed_unless false rest opens some = refl

pub has_read_more : (strict : Bool) (payload : List ℕ) (found : List TypedFrame) (old new : IterState) (frame : Frame)
    → HasRead strict payload found old → (f : Finds old frame new)
    → HasRead strict payload (found ++ f.found ∷ []) new
has_read_more strict payload found old new frame h f =
    let s = splits old new frame f in
    let some = f.stands.some in
    let left_some : rest_of old ≢ [] =
    is_some_bytes (rest_of old) (omega (arith, ap length s.cut, length-append s.front (rest_of new), s.size, some)) in
    let one = subst (λ (b : Bool). IsFrame b f.found s.front) h.same_strict
    (subst (λ (l : List ℕ). IsFrame old.strict f.found l) (sym s.here) f.stands.encoded) in
    record {
      front = h.front ++ s.front;
      parts = h.parts ∙ ap (λ (l : List ℕ). h.front ++ l) s.cut ∙ sym (append_assoc h.front s.front (rest_of new));
      encoded = frames_push strict found f.found h.front s.front h.encoded (h.closed left_some) one;
      goes_on = ap (λ (t : IterState). t.is_broken) f.comes ∙ h.goes_on;
      same_strict = ap (λ (t : IterState). t.strict) f.comes ∙ h.same_strict;
      same_payload = ap (λ (t : IterState). t.payload) f.comes ∙ h.same_payload;
      at = omega (arith, h.at, s.size, some, length-append h.front s.front);
      last = ap (λ (t : IterState). t.last) f.comes ∙ sym (last_push None found f.found);
      closed = λ more. closed_push found f.found (h.closed left_some)
          (closed_unless (is_open f.found.type) (rest_of new) s.opens more);
    }

-- nothing is left: the payload is these frames
pub has_read_all : (strict : Bool) (payload : List ℕ) (found : List TypedFrame) (state : IterState)
    → HasRead strict payload found state → IsSpent state → AreFrames strict found payload
has_read_all strict payload found state h (inl broken) = absurd (true_is_not_false (sym broken ∙ h.goes_on))
has_read_all strict payload found state h (inr end) =
    let none : rest_of state ≡ [] =
    nothing (rest_of state) (omega (arith, length-drop state.offset state.payload, end)) in
    subst (AreFrames strict found) (sym (h.parts ∙ ap (λ (l : List ℕ). h.front ++ l) none ∙ append-nil h.front)) h.encoded

-- an error is next: the payload is these frames and then that
pub has_read_error : (strict : Bool) (payload : List ℕ) (found : List TypedFrame) (state : IterState)
    (reported : Invalid) → HasRead strict payload found state → (l : LacksFrame state reported)
    → IsBroken strict None found payload l.type l.reason
has_read_error strict payload found state reported h l = record {
  front = h.front;
  back = rest_of state;
  parts = h.parts;
  frames = h.encoded;
  closed = h.closed (no_frame_some state.strict state.last (rest_of state) l.type l.reason l.no_frame);
  no_frame = subst (λ (b : Bool). IsNoFrame b (last_type None found) (rest_of state) l.type l.reason) h.same_strict
      (subst (λ (t : Option ℕ). IsNoFrame state.strict t (rest_of state) l.type l.reason) h.last l.no_frame);
}
