-- A walk over a payload that sums up how many bytes its frames have in their shortest encodings.
use Rattle.std.proofs.Common.{◌≡◌, ◌≢◌, ℕ, zero, suc, ◌+◌, ◌≤◌, eqb, false, List, [], ◌∷◌, ◌++◌, length, map, drop, None, Err, refl, sym, ap, ◌∙◌, subst, inl, inr, arith}
use Rattle.std.proofs.lemmas.List.{length-append}
use Rattle.quic_frames.specs.declared.frame.Frame.{Frame}
use Rattle.quic_frames.specs.declared.frame.Frame.TheVariants as frames
use Rattle.quic_frame_fields.specs.Payload.{TypedFrame, AreFrames}
use Rattle.quic_errors.specs.declared.invalid_frame.InvalidFrame.{InvalidFrame}
use Rattle.quic_frame_fields.specs.Shortest.{shortest_frame}
use Rattle.quic_frames.specs.Least.{frame_in, shortest_frames}
use Rattle.quic_frames.specs.Meaning.{meaning_of}
use Rattle.quic_frames.specs.Padding.{PassesPadding, behind}
use Rattle.quic_frames.specs.IterState.{IterState}
use Rattle.quic_frames.specs.Walk.{invalid_of, left, first_of, unplaced, given, Finds, Fails, IsSpent}
use Rattle.quic_frames.proofs.Turns.{frames_first, spent_left, has_read_all, has_read_error}
use Rattle.quic_canon.proofs.Steps.{BeginsNone, OneShortest, Walks, walk_on, next_frame, span_of, frame_length, shortest_next, walk_begins, small_at}
use Rattle.quic_c_canon.specs.Answers.{IsReportedOf, HasLength}
use Rattle.quic_c_canon.proofs.PaddingBytes.{EachPads, padding_is}

-- The frames so far have total bytes, and the others are still to come.
pub record Sums (payload : List ℕ) (total start : ℕ) (state : IterState) (found : List TypedFrame) : Type 0 where
  pub rest : List TypedFrame
  pub left_are : map unplaced (left state) ≡ map given rest
  pub encoded : AreFrames false rest (drop start payload)
  pub len : length (shortest_frames (map frame_in found)) ≡ total + length (shortest_frames (map frame_in rest))

pub record LenWalk (payload : List ℕ) (total start : ℕ) (state : IterState) : Type 0 where
  pub walks : Walks payload start state
  pub low : total ≤ start
  pub sums : (found : List TypedFrame) → AreFrames false found payload → Sums payload total start state found

pub len_begins : (payload : List ℕ) (state : IterState) → state ≡ first_of false payload
    → LenWalk payload 0 0 state
len_begins payload state first = record {
  walks = walk_begins payload state first;
  low = omega arith;
  sums = λ found s. record { rest = found; left_are = frames_first false payload state found first s; encoded = s; len = omega arith };
}

-- one more frame
pub len_on : (payload : List ℕ) (total start stop n : ℕ) (state next : IterState) (frame : Frame) → BeginsNone
    → OneShortest
    → LenWalk payload total start state → Finds state frame next → stop ≡ next.offset
    → n ≡ length (shortest_frame (eqb stop (length payload)) (meaning_of frame)) → LenWalk payload (total + n) stop next
len_on payload total start stop n state next frame begins one w f at counted =
    let size = length payload in
    let last = eqb next.offset size in
    let there : n ≡ length (shortest_frame last (meaning_of frame)) =
    counted ∙ ap (λ (k : ℕ). length (shortest_frame (eqb k size) (meaning_of frame))) at in
    let span = span_of payload start size state next frame refl w.walks f in
    let some = span.some in
    let small = small_at payload start next.offset state next frame one w.walks f refl in
    let on : LenWalk payload (total + n) next.offset next = record {
      walks = walk_on payload start state next frame w.walks f;
      low = omega (arith, w.low, there, small, some);
      sums = λ found encoded.
          let s = w.sums found encoded in
          let more = next_frame payload start size state next frame s.rest begins refl w.walks f s.left_are s.encoded in
          let is =
          ap length (shortest_next f.found s.rest more.more last more.rest_is more.last_is)
          ∙ length-append (shortest_frame last f.found.frame) (shortest_frames (map frame_in more.more)) in
          record {
            rest = more.more;
            left_are = more.left_are;
            encoded = more.encoded;
            len = omega (arith, s.len, is, there, frame_length frame f.found last f.says);
          };
    } in
    subst (λ (k : ℕ). LenWalk payload (total + n) k next) (sym at) on

-- each frame of PADDING is one byte more
all_counted : (payload : List ℕ) (total start count k : ℕ) (state : IterState) → BeginsNone → OneShortest
    → LenWalk payload total start state
    → EachPads count state → k ≤ count → LenWalk payload (total + k) (start + k) (behind k state)
all_counted payload total start count zero state begins one w each le =
    subst (λ (n : ℕ). LenWalk payload n (start + 0) state) (omega arith) (subst (λ (n : ℕ). LenWalk payload total n state) (omega arith) w)
all_counted payload total start count (suc k) state begins one w each le =
    let so_far = all_counted payload total start count k state begins one w each (omega arith) in
    let is = w.walks.start_is in
    let at : start + suc k ≡ (behind (suc k) state).offset = omega (arith, is) in
    let counted = sym (ap length (padding_is (eqb (start + suc k) (length payload)))) in
    subst (λ (n : ℕ). LenWalk payload n (start + suc k) (behind (suc k) state)) (omega arith)
    (len_on payload (total + k) (start + k) (start + suc k) 1 (behind k state) (behind (suc k) state) frames.Padding
    begins one so_far (each k (omega arith)) at counted)

pub len_passed : (payload : List ℕ) (total start count : ℕ) (state next : IterState) → BeginsNone → OneShortest
    → LenWalk payload total start state
    → PassesPadding state count next → LenWalk payload (total + count) (start + count) next
len_passed payload total start count state next begins one w p =
    subst (LenWalk payload (total + count) (start + count)) (sym p.comes)
    (all_counted payload total start count count state begins one w p.each (omega arith))

-- by other names
pub len_as : (payload : List ℕ) (total sum start later : ℕ) (state there : IterState)
    → LenWalk payload total start state → sum ≡ total
    → there ≡ state → later ≡ there.offset → LenWalk payload sum later there
len_as payload total sum start later state there w sum-is is at =
    let here : LenWalk payload sum start there =
    subst (λ (n : ℕ). LenWalk payload n start there) (sym sum-is) (subst (LenWalk payload total start) (sym is) w) in
    subst (λ (n : ℕ). LenWalk payload sum n there) (sym here.walks.start_is ∙ sym at) here

none_given : (rest : List TypedFrame) → [] ≡ map given rest → rest ≡ []
none_given [] e = refl
none_given (f ∷ rest) e = absurd cc

-- nothing is left
pub len_done : (payload : List ℕ) (total start : ℕ) (state : IterState) → payload ≢ []
    → LenWalk payload total start state → IsSpent state → HasLength payload total
len_done payload total start state some w spent =
    let encoded = has_read_all false payload w.walks.found state w.walks.read spent in
    let s = w.sums w.walks.found encoded in
    let rest = none_given s.rest (sym (ap (map unplaced) (spent_left state spent)) ∙ s.left_are) in
    record {
      some = some;
      found = w.walks.found;
      encoded = encoded;
      len = omega (arith, s.len, ap (λ (l : List TypedFrame). length (shortest_frames (map frame_in l))) rest);
    }

-- an invalid frame
pub len_fails : (payload : List ℕ) (total start : ℕ) (state next : IterState) (error : InvalidFrame)
    → LenWalk payload total start state → Fails state error next → IsReportedOf payload (invalid_of error)
len_fails payload total start state next error w f = record {
  found = w.walks.found;
  type = f.lacks.type;
  reason = f.lacks.reason;
  broken = has_read_error false payload w.walks.found state (invalid_of error) w.walks.read f.lacks;
  reported_is = f.lacks.says;
}
