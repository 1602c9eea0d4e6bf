-- A walk that rewrites a payload.
use Rattle.std.proofs.Common.{◌≡◌, ℕ, ◌+◌, ◌≤◌, eqb, Bool, true, false, List, [], ◌∷◌, ◌++◌, length, map, drop, Some, Result, Err, refl, sym, ap, subst, ◌∙◌, append_assoc, arith}
use Rattle.std.specs.Prelude.{slice_range, Vec, vec_len, vec_capacity}
use Rattle.std.specs.declared.alloc.Global.{Global}
use Rattle.std.proofs.lemmas.List.{append-nil, length-append}
use Rattle.quic_frames.specs.declared.frame.Frame.{Frame}
use Rattle.quic_frame_fields.specs.Payload.{TypedFrame, AreFrames}
use Rattle.quic_frame_fields.specs.Reading.{Invalid}
use Rattle.quic_frames.specs.Meaning.{meaning_of}
use Rattle.quic_frame_fields.specs.Shortest.{shortest_frame}
use Rattle.quic_frames.specs.Least.{frame_in, shortest_frames}
use Rattle.quic_frames.specs.IterState.{IterState}
use Rattle.quic_frames.specs.Walk.{invalid_of, left, first_of, unplaced, given, Finds, IsSpent, Advances}
use Rattle.quic_frames.proofs.Turns.{frames_first, fails_left, spent_left}
use Rattle.quic_errors.specs.declared.invalid_frame.InvalidFrame.{InvalidFrame}
use Rattle.quic_canon.proofs.LeastPayloads.{Shortest}
use Rattle.quic_canon.proofs.Cuts.{slice_on, slice_none}
use Rattle.quic_canon.proofs.Steps.{BeginsNone, OneShortest, Walks, walk_on, next_frame, at_most, span_of, Tested, frame_length, shortest_there, shortest_next, walk_begins, spent_at, fails_err}

-- What was written, followed by the bytes from an offset on that stay as they are, is what the frames so far become.
pub record Rewrites (old new : Vec ℕ Global) (payload : List ℕ) (from start : ℕ) (state : IterState)
    (found : List TypedFrame) : Type 0 where
  pub rest : List TypedFrame
  pub left_are : map unplaced (left state) ≡ map given rest
  pub encoded : AreFrames false rest (drop start payload)
  pub bytes : List ℕ
  pub parts : shortest_frames (map frame_in found) ≡ bytes ++ shortest_frames (map frame_in rest)
  pub wrote : new.items ++ slice_range payload from start ≡ old.items ++ bytes
  pub within : from ≤ start

pub record RewriteWalk (old new : Vec ℕ Global) (payload : List ℕ) (from start : ℕ) (state : IterState) : Type 0 where
  pub walks : Walks payload start state
  pub capacity : vec_capacity old ≤ vec_capacity new
  pub rewrites : (found : List TypedFrame) → AreFrames false found payload → Rewrites old new payload from start state found

pub rewrite_walk_begins : (old : Vec ℕ Global) (payload : List ℕ) (state : IterState) → state ≡ first_of false payload
    → RewriteWalk old old payload 0 0 state
rewrite_walk_begins old payload state first = record {
  walks = walk_begins payload state first;
  capacity = omega arith;
  rewrites = λ found s. record {
    rest = found;
    left_are = frames_first false payload state found first s;
    encoded = s;
    bytes = [];
    parts = refl;
    wrote = ap (λ (l : List ℕ). old.items ++ l) (slice_none payload 0);
    within = omega arith;
  };
}

no_error : (rest : List TypedFrame) (i : Invalid) → Err i ∷ [] ≡ map given rest → ⊥
no_error [] i e = cc
no_error (f ∷ rest) i e = cc

pub never_fails : (old new : Vec ℕ Global) (payload : List ℕ) (from start : ℕ) (state next : IterState)
    (item : Result Frame InvalidFrame) (i : InvalidFrame)
    → ((found : List TypedFrame) × AreFrames false found payload) → RewriteWalk old new payload from start state
    → item ≡ Err i → Advances state (Some item) next → ⊥
never_fails old new payload from start state next item i s w e a =
    let r = w.rewrites s.0 s.1 in
    no_error r.rest (invalid_of i)
    (sym (ap (map unplaced) (fails_left state next i (fails_err state next item i e a))) ∙ r.left_are)

-- the bytes so far are no more than the payload has
few_bytes : (old new : Vec ℕ Global) (payload : List ℕ) (from start : ℕ) (state : IterState) (found : List TypedFrame)
    → Shortest
    → AreFrames false found payload → (r : Rewrites old new payload from start state found)
    → length r.bytes + length (shortest_frames (map frame_in r.rest)) ≤ length payload
few_bytes old new payload from start state found all s r =
    let fewer = at_most payload (shortest_frames (map frame_in found)) (all found payload s) in
    omega (arith, fewer, ap length r.parts, length-append r.bytes (shortest_frames (map frame_in r.rest)))

stand_len : (old new : Vec ℕ Global) (payload : List ℕ) (from start : ℕ) (state : IterState) (found : List TypedFrame)
    → (r : Rewrites old new payload from start state found)
    → vec_len new + length (slice_range payload from start) ≡ vec_len old + length r.bytes
stand_len old new payload from start state found r =
    omega (
      arith,
      ap length r.wrote,
      length-append new.items (slice_range payload from start),
      length-append old.items r.bytes,
      old.ok.0,
      new.ok.0,
    )

pub room_to_copy : (old new : Vec ℕ Global) (payload : List ℕ) (from start : ℕ) (state : IterState) → Shortest
    → ((found : List TypedFrame) × AreFrames false found payload) → RewriteWalk old new payload from start state
    → vec_len old + length payload ≤ vec_capacity old
    → vec_len new + length (slice_range payload from start) ≤ vec_capacity new
room_to_copy old new payload from start state all s w room =
    let r = w.rewrites s.0 s.1 in
    omega (
      arith,
      stand_len old new payload from start state s.0 r,
      few_bytes old new payload from start state s.0 all s.1 r,
      room,
      w.capacity,
    )

pub room_to_write : (old new mid : Vec ℕ Global) (payload : List ℕ) (from start stop : ℕ) (state next : IterState) (frame : Frame)
    → BeginsNone
    → Shortest → ((found : List TypedFrame) × AreFrames false found payload)
    → RewriteWalk old new payload from start state
    → vec_len old + length payload ≤ vec_capacity old → Finds state frame next → stop ≡ next.offset
    → mid.items ≡ new.items ++ slice_range payload from start → vec_capacity new ≤ vec_capacity mid
    → vec_len mid + length (shortest_frame (eqb stop (length payload)) (meaning_of frame)) ≤ vec_capacity mid
room_to_write old new mid payload from start stop state next frame begins all s w room f at copied capacity =
    let r = w.rewrites s.0 s.1 in
    let size = length payload in
    let last = eqb next.offset size in
    let n = next_frame payload start size state next frame r.rest begins refl w.walks f r.left_are r.encoded in
    let is =
    ap length (shortest_next f.found r.rest n.more last n.rest_is n.last_is)
    ∙ length-append (shortest_frame last f.found.frame) (shortest_frames (map frame_in n.more)) in
    let same = frame_length frame f.found last f.says ∙ refl in
    let here : length (shortest_frame (eqb stop size) (meaning_of frame)) ≡ length (shortest_frame last (meaning_of frame)) =
    ap (λ (k : ℕ). length (shortest_frame (eqb k size) (meaning_of frame))) at in
    omega (
      arith,
      here,
      same,
      is,
      stand_len old new payload from start state s.0 r,
      few_bytes old new payload from start state s.0 all s.1 r,
      room,
      w.capacity,
      capacity,
      ap length copied,
      length-append new.items (slice_range payload from start),
      new.ok.0,
      mid.ok.0,
    )

-- the same by other names
pub walk_as : (old new out : Vec ℕ Global) (payload : List ℕ) (from place start : ℕ) (state : IterState) → out ≡ new
    → place ≡ from
    → RewriteWalk old new payload from start state → RewriteWalk old out payload place start state
walk_as old new out payload from place start state out-is place-is w =
    subst (λ (n : ℕ). RewriteWalk old out payload n start state) (sym place-is)
    (subst (λ (v : Vec ℕ Global). RewriteWalk old v payload from start state) (sym out-is) w)

-- the frame that was found stays as it is
pub rewrite_keeps : (old new : Vec ℕ Global) (payload : List ℕ) (from start stop : ℕ) (state next : IterState) (frame : Frame) (b : Bool)
    → BeginsNone
    → OneShortest → RewriteWalk old new payload from start state → Finds state frame next → stop ≡ next.offset
    → Tested b frame start stop (length payload) → b ≡ true → RewriteWalk old new payload from stop next
rewrite_keeps old new payload from start stop state next frame b begins one w f at tested e =
    let size = length payload in
    let end = next.offset in
    let last = eqb end size in
    let t = subst (λ (n : ℕ). Tested b frame start n size) at tested in
    let s = span_of payload start size state next frame refl w.walks f in
    let some = s.some in
    let is = shortest_there payload start size state next frame b one refl w.walks f t e in
    let kept : RewriteWalk old new payload from end next = record {
      walks = walk_on payload start state next frame w.walks f;
      capacity = w.capacity;
      rewrites = λ found encoded.
          let r = w.rewrites found encoded in
          let within = r.within in
          let n = next_frame payload start size state next frame r.rest begins refl w.walks f r.left_are r.encoded in
          let here = shortest_frame last f.found.frame in
          let others = shortest_frames (map frame_in n.more) in
          record {
            rest = n.more;
            left_are = n.left_are;
            encoded = n.encoded;
            bytes = r.bytes ++ here;
            parts = r.parts ∙ ap (λ (l : List ℕ). r.bytes ++ l)
                (shortest_next f.found r.rest n.more last n.rest_is n.last_is) ∙ sym (append_assoc r.bytes here others);
            wrote = ap (λ (l : List ℕ). new.items ++ l) (sym
                (slice_on payload from start end within (omega (arith, some)) s.within))
                ∙ sym (append_assoc new.items (slice_range payload from start) (slice_range payload start end))
                ∙ ap (λ (l : List ℕ). l ++ slice_range payload start end) r.wrote
                ∙ ap (λ (l : List ℕ). (old.items ++ r.bytes) ++ l) is ∙ append_assoc old.items r.bytes here;
            within = omega (arith, within, some);
          };
    } in
    subst (λ (n : ℕ). RewriteWalk old new payload from n next) (sym at) kept

-- the frame that was found is written
pub rewrite_writes : (old new mid out : Vec ℕ Global) (payload : List ℕ) (from start stop : ℕ) (state next : IterState) (frame : Frame)
    → BeginsNone
    → RewriteWalk old new payload from start state → Finds state frame next → stop ≡ next.offset
    → mid.items ≡ new.items ++ slice_range payload from start → vec_capacity new ≤ vec_capacity mid
    → out.items ≡ mid.items ++ shortest_frame (eqb stop (length payload)) (meaning_of frame)
    → vec_capacity mid ≤ vec_capacity out
    → RewriteWalk old out payload stop stop next
rewrite_writes old new mid out payload from start stop state next frame begins w f at copied capacity wrote capacity' =
    let size = length payload in
    let end = next.offset in
    let last = eqb end size in
    let written : RewriteWalk old out payload end end next = record {
      walks = walk_on payload start state next frame w.walks f;
      capacity = omega (arith, w.capacity, capacity, capacity');
      rewrites = λ found encoded.
          let r = w.rewrites found encoded in
          let n = next_frame payload start size state next frame r.rest begins refl w.walks f r.left_are r.encoded in
          let here = shortest_frame last f.found.frame in
          let others = shortest_frames (map frame_in n.more) in
          let is : shortest_frame (eqb stop size) (meaning_of frame) ≡ here =
          ap (λ (k : ℕ). shortest_frame (eqb k size) (meaning_of frame)) at
          ∙ ap (shortest_frame last) (sym f.says) in
          record {
            rest = n.more;
            left_are = n.left_are;
            encoded = n.encoded;
            bytes = r.bytes ++ here;
            parts = r.parts ∙ ap (λ (l : List ℕ). r.bytes ++ l)
                (shortest_next f.found r.rest n.more last n.rest_is n.last_is) ∙ sym (append_assoc r.bytes here others);
            wrote = ap (λ (l : List ℕ). out.items ++ l) (slice_none payload end) ∙ append-nil out.items ∙ wrote
                ∙ ap (λ (l : List ℕ). mid.items ++ l) is
                ∙ ap (λ (l : List ℕ). l ++ here) (copied ∙ r.wrote) ∙ append_assoc old.items r.bytes here;
            within = omega arith;
          };
    } in
    subst (λ (n : ℕ). RewriteWalk old out payload n n next) (sym at) written

no_rest : (rest : List TypedFrame) → [] ≡ map given rest → rest ≡ []
no_rest [] e = refl
no_rest (f ∷ rest) e = absurd cc

-- all is written
pub rewrite_done : (old new out : Vec ℕ Global) (payload : List ℕ) (from start : ℕ) (state : IterState)
    → RewriteWalk old new payload from start state
    → IsSpent state → out.items ≡ new.items ++ slice_range payload from (length payload)
    → (found : List TypedFrame) → AreFrames false found payload
    → out.items ≡ old.items ++ shortest_frames (map frame_in found)
rewrite_done old new out payload from start state w spent copied found s =
    let r = w.rewrites found s in
    let rest = no_rest r.rest (sym (ap (map unplaced) (spent_left state spent)) ∙ r.left_are) in
    let whole : shortest_frames (map frame_in found) ≡ r.bytes =
    r.parts ∙ ap (λ (l : List TypedFrame). r.bytes ++ shortest_frames (map frame_in l)) rest ∙ append-nil r.bytes in
    copied ∙ ap (λ (n : ℕ). new.items ++ slice_range payload from n) (sym (spent_at payload start state w.walks spent)) ∙ r.wrote
    ∙ ap (λ (l : List ℕ). old.items ++ l) (sym whole)

pub room_to_end : (old new : Vec ℕ Global) (payload : List ℕ) (from start : ℕ) (state : IterState) → Shortest
    → ((found : List TypedFrame) × AreFrames false found payload) → RewriteWalk old new payload from start state
    → IsSpent state
    → vec_len old + length payload ≤ vec_capacity old
    → vec_len new + length (slice_range payload from (length payload)) ≤ vec_capacity new
room_to_end old new payload from start state all s w spent room =
    subst (λ (n : ℕ). vec_len new + length (slice_range payload from n) ≤ vec_capacity new) (spent_at payload start state w.walks spent)
    (room_to_copy old new payload from start state all s w room)
