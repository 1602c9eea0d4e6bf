-- A walk that finds the frames at the front of a payload that are in their shortest encodings.
use Rattle.std.proofs.Common.{◌≡◌, ◌≢◌, ℕ, ◌-◌, ◌<◌, ◌≤◌, eqb, Bool, true, false, List, [], ◌++◌, length, map, take, drop, Option, None, refl, sym, ap, subst, ◌∙◌, append_assoc, inl, inr, arith}
use Rattle.std.specs.Prelude.{◌⊎◌, slice_range}
use Rattle.std.proofs.lemmas.List.{length-append, length-drop}
use Rattle.quic_frames.specs.declared.frame.Frame.{Frame}
use Rattle.quic_frame_fields.specs.declared.frame.fault.Fault.{Fault}
use Rattle.quic_frame_fields.specs.Payload.{TypedFrame, AreFrames, IsBroken}
use Rattle.quic_frame_fields.specs.Reading.{invalid}
use Rattle.quic_frame_fields.specs.Shortest.{shortest_frame}
use Rattle.quic_frames.specs.Least.{frame_in, shortest_frames}
use Rattle.quic_frames.specs.IterState.{IterState}
use Rattle.quic_frames.specs.Walk.{invalid_of, left, first_of, unplaced, given, Finds, Fails, IsSpent}
use Rattle.quic_errors.specs.declared.invalid_frame.InvalidFrame.{InvalidFrame}
use Rattle.quic_frames.proofs.Turns.{frames_first, has_read_all, has_read_error}
use Rattle.quic_canon.specs.Front.{IsCut, IsFront}
use Rattle.quic_canon.proofs.LeastPayloads.{Shortest}
use Rattle.quic_canon.proofs.Cuts.{take_on}
use Rattle.quic_canon.proofs.Steps.{BeginsNone, OneShortest, Walks, here, given_on, walk_on, next_frame, at_most, span_of, Tested, shortest_there, longer_there, shortest_next, walk_begins, spent_at}

-- The first n bytes are in their shortest encoding, and either all frames so far are, or the next one isn't.
pub record InFront (payload : List ℕ) (n : ℕ) (state : IterState) (found : List TypedFrame) : Type 0 where
  pub others : List TypedFrame
  pub cut : IsCut payload n found others
  pub rest : List TypedFrame
  pub left_are : map unplaced (left state) ≡ map given rest
  pub is_there : ((n ≡ state.offset) × (rest ≡ others)) ⊎ ((n < state.offset)
      × (length (shortest_frames (map frame_in others)) < length payload - n))

pub record FrontWalk (payload : List ℕ) (front start : ℕ) (state : IterState) : Type 0 where
  pub walks : Walks payload start state
  pub before : front ≤ start
  pub in_front : (found : List TypedFrame) → AreFrames false found payload → InFront payload front state found

-- where the walk begins
pub front_begins : (payload : List ℕ) (state : IterState) (found : List TypedFrame) → state ≡ first_of false payload
    → map unplaced (left state) ≡ map given found → AreFrames false found payload → InFront payload 0 state found
front_begins payload state found first are s = record {
  others = found;
  cut = record { back = s; parts = refl; within = omega arith };
  rest = found;
  left_are = are;
  is_there = inl (sym (ap (λ (w : IterState). w.offset) first), refl);
}

pub front_walk_begins : (payload : List ℕ) (state : IterState) → state ≡ first_of false payload
    → FrontWalk payload 0 0 state
front_walk_begins payload state first = record {
  walks = walk_begins payload state first;
  before = omega arith;
  in_front = λ found s. front_begins payload state found first (frames_first false payload state found first s) s;
}

-- the frames that are left if all before are in their shortest encodings
all_so_far : (payload : List ℕ) (n : ℕ) (state : IterState) (found : List TypedFrame)
    → (f : InFront payload n state found) → n ≡ state.offset
    → f.rest ≡ f.others
all_so_far payload n state found f e = is f.is_there
  where
    is : ((n ≡ state.offset) × (f.rest ≡ f.others)) ⊎ ((n < state.offset)
        × (length (shortest_frames (map frame_in f.others)) < length payload - n))
        → f.rest ≡ f.others
    is (inl a) = a.1
    is (inr a) = let lt = a.0 in absurd (omega (arith, lt, e))

-- one more frame in its shortest encoding
pub front_grows : (payload : List ℕ) (start size : ℕ) (old new : IterState) (frame : Frame) (b : Bool) → BeginsNone
    → OneShortest
    → size ≡ length payload → FrontWalk payload start start old → Finds old frame new
    → Tested b frame start new.offset size → b ≡ true
    → FrontWalk payload new.offset new.offset new
front_grows payload start size old new frame b begins one len w f tested e =
    let stop = new.offset in
    let s = span_of payload start size old new frame len w.walks f in
    let some = s.some in
    let is = shortest_there payload start size old new frame b one len w.walks f tested e in
    record {
      walks = walk_on payload start old new frame w.walks f;
      before = omega arith;
      in_front = λ found encoded.
          let a = w.in_front found encoded in
          let rest = all_so_far payload start old found a (sym w.walks.start_is) in
          let n =
          next_frame payload start size old new frame a.others begins len w.walks f (a.left_are ∙ ap (map given) rest) a.cut.back in
          record {
            others = n.more;
            cut = record {
              back = n.encoded;
              parts = a.cut.parts ∙ ap (λ (l : List ℕ). take start payload ++ l)
                  (shortest_next f.found a.others n.more (eqb stop size) n.rest_is n.last_is
                  ∙ ap (λ (l : List ℕ). l ++ shortest_frames (map frame_in n.more)) (sym is))
                  ∙ sym (append_assoc (take start payload) (slice_range payload start stop) (shortest_frames (map frame_in n.more)))
                  ∙ ap (λ (l : List ℕ). l ++ shortest_frames (map frame_in n.more))
                  (take_on payload start stop (omega (arith, some)) s.within);
              within = s.within;
            };
            rest = n.more;
            left_are = n.left_are;
            is_there = inl (refl, refl);
          };
    }

-- the first frame that isn't
pub front_ends : (payload : List ℕ) (start size : ℕ) (old new : IterState) (frame : Frame) (b : Bool) → BeginsNone
    → OneShortest → Shortest
    → size ≡ length payload → FrontWalk payload start start old → Finds old frame new
    → Tested b frame start new.offset size → b ≡ false
    → FrontWalk payload start new.offset new
front_ends payload start size old new frame b begins one all len w f tested e =
    let stop = new.offset in
    let s = span_of payload start size old new frame len w.walks f in
    let some = s.some in
    let within = s.within in
    let lt = longer_there payload start size old new frame b one len w.walks f tested e in
    record {
      walks = walk_on payload start old new frame w.walks f;
      before = omega (arith, some);
      in_front = λ found encoded.
          let a = w.in_front found encoded in
          let rest = all_so_far payload start old found a (sym w.walks.start_is) in
          let n =
          next_frame payload start size old new frame a.others begins len w.walks f (a.left_are ∙ ap (map given) rest) a.cut.back in
          let is =
          ap length (shortest_next f.found a.others n.more (eqb stop size) n.rest_is n.last_is)
          ∙ length-append (shortest_frame (eqb stop size) f.found.frame) (shortest_frames (map frame_in n.more)) in
          let fewer =
          at_most (drop stop payload) (shortest_frames (map frame_in n.more)) (all n.more (drop stop payload) n.encoded) in
          record {
            others = a.others;
            cut = a.cut;
            rest = n.more;
            left_are = n.left_are;
            is_there = inr (some, omega (arith, is, fewer, lt, some, within, length-drop stop payload));
          };
    }

-- the frames after that
pub front_stays : (payload : List ℕ) (front start : ℕ) (old new : IterState) (frame : Frame) → front ≢ start
    → FrontWalk payload front start old
    → Finds old frame new → FrontWalk payload front new.offset new
front_stays payload front start old new frame differs w f =
    let h = here payload start old new frame w.walks f in
    let some = h.stands.some in
    let before = w.before in
    record {
      walks = walk_on payload start old new frame w.walks f;
      before = omega (arith, some, before);
      in_front = λ found encoded.
          let a = w.in_front found encoded in
          let g = given_on f.found (map unplaced (left new)) a.rest (sym h.first ∙ a.left_are) in
          record {
            others = a.others;
            cut = a.cut;
            rest = g.0;
            left_are = g.2;
            is_there = later (w.walks.start_is) some a.others a.rest a.is_there;
          };
    }
  where
    later : old.offset ≡ start → start < new.offset → (others rest : List TypedFrame)
        → ((front ≡ old.offset) × (rest ≡ others)) ⊎ ((front < old.offset)
        × (length (shortest_frames (map frame_in others)) < length payload - front))
        → {more : List TypedFrame} → ((front ≡ new.offset) × (more ≡ others))
        ⊎ ((front < new.offset) × (length (shortest_frames (map frame_in others)) < length payload - front))
    later is some others rest (inl a) = absurd (differs (a.0 ∙ is))
    later is some others rest (inr a) = inr (let lt = a.0 in omega (arith, lt, is, some), a.1)

-- nothing is left
pub front_done : (payload : List ℕ) (front start : ℕ) (state : IterState) → payload ≢ []
    → FrontWalk payload front start state → IsSpent state → IsFront payload front
front_done payload front start state some w spent =
    let encoded = has_read_all false payload w.walks.found state w.walks.read spent in
    let f = w.in_front w.walks.found encoded in
    record {
      some = some;
      found = w.walks.found;
      encoded = encoded;
      others = f.others;
      cut = f.cut;
      shorter = λ lt. shorter (w.walks.start_is ∙ spent_at payload start state w.walks spent) f.others f.rest lt f.is_there;
    }
  where
    shorter : state.offset ≡ length payload → (others rest : List TypedFrame) → front < length payload
        → ((front ≡ state.offset) × (rest ≡ others)) ⊎ ((front < state.offset)
        × (length (shortest_frames (map frame_in others)) < length payload - front))
        → length (shortest_frames (map frame_in others)) < length payload - front
    shorter is others rest lt (inl b) = let e = b.0 in absurd (omega (arith, lt, e, is))
    shorter is others rest lt (inr b) = b.1

-- an invalid frame
pub front_fails : (payload : List ℕ) (front start : ℕ) (state next : IterState) (error : InvalidFrame)
    → FrontWalk payload front start state → Fails state error next
    → (found : List TypedFrame) × (type : Option ℕ) × (reason : Fault) × IsBroken false None found payload type reason
    × (invalid_of error ≡ invalid type reason)
front_fails payload front start state next error w f = (
  w.walks.found,
  f.lacks.type,
  f.lacks.reason,
  has_read_error false payload w.walks.found state (invalid_of error) w.walks.read f.lacks,
  f.lacks.says,
)

pub grows_to : (payload : List ℕ) (front start stop : ℕ) (old new : IterState) (frame : Frame) (b : Bool) → BeginsNone
    → OneShortest → front ≡ start
    → FrontWalk payload front start old → Finds old frame new → stop ≡ new.offset
    → Tested b frame start stop (length payload) → b ≡ true → FrontWalk payload stop stop new
grows_to payload front start stop old new frame b begins one same w f at tested e =
    let v = subst (λ (n : ℕ). FrontWalk payload n start old) same w in
    let t = subst (λ (n : ℕ). Tested b frame start n (length payload)) at tested in
    subst (λ (n : ℕ). FrontWalk payload n n new) (sym at) (front_grows payload start (length payload) old new frame b
    begins one refl v f t e)

pub ends_at : (payload : List ℕ) (front start stop : ℕ) (old new : IterState) (frame : Frame) (b : Bool) → BeginsNone
    → OneShortest → Shortest
    → front ≡ start → FrontWalk payload front start old → Finds old frame new → stop ≡ new.offset
    → Tested b frame start stop (length payload) → b ≡ false → FrontWalk payload front stop new
ends_at payload front start stop old new frame b begins one all same w f at tested e =
    let v = subst (λ (n : ℕ). FrontWalk payload n start old) same w in
    let t = subst (λ (n : ℕ). Tested b frame start n (length payload)) at tested in
    let ended = front_ends payload start (length payload) old new frame b begins one all refl v f t e in
    subst (λ (n : ℕ). FrontWalk payload n stop new) (sym same) (subst (λ (n : ℕ). FrontWalk payload start n new) (sym at) ended)

pub stays_at : (payload : List ℕ) (front start stop : ℕ) (old new : IterState) (frame : Frame) → front ≢ start
    → FrontWalk payload front start old
    → Finds old frame new → stop ≡ new.offset → FrontWalk payload front stop new
stays_at payload front start stop old new frame differs w f at =
    subst (λ (n : ℕ). FrontWalk payload front n new) (sym at) (front_stays payload front start old new frame differs w f)

-- with another name for the offset
pub front_is : (payload : List ℕ) (front same start : ℕ) (state : IterState) → same ≡ front
    → FrontWalk payload front start state
    → FrontWalk payload same start state
front_is payload front same start state e w = subst (λ (n : ℕ). FrontWalk payload n start state) (sym e) w
