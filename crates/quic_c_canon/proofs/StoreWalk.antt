-- A walk over a payload that writes its frames in their shortest encodings, one after the other.
use Rattle.std.proofs.Common.{◌≡◌, ℕ, zero, suc, ◌+◌, ◌≤◌, eqb, false, List, [], ◌∷◌, ◌++◌, length, map, take, drop, Some, None, Result, Err, refl, sym, ap, ◌∙◌, subst, append_assoc, inl, inr, arith}
use Rattle.std.specs.Prelude.{replicate}
use Rattle.std.proofs.lemmas.List.{append-nil, length-append, length-take, length-drop, length-replicate, replicate-append-replicate, take-append-drop, drop-drop, drop_at, take_at}
use Rattle.quic_errors.specs.declared.invalid_frame.InvalidFrame.{InvalidFrame}
use Rattle.quic_frames.specs.declared.frame.Frame.{Frame}
use Rattle.quic_frames.specs.declared.frame.Frame.TheVariants as frames
use Rattle.quic_frame_fields.specs.Payload.{TypedFrame, AreFrames}
use Rattle.quic_frame_fields.specs.Reading.{Invalid}
use Rattle.quic_frame_fields.specs.Shortest.{shortest_frame}
use Rattle.quic_frames.specs.Least.{AreOrExceed, frame_in, shortest_frames}
use Rattle.quic_frames.specs.Meaning.{meaning_of}
use Rattle.quic_frames.specs.Padding.{PassesPadding, behind}
use Rattle.quic_frames.specs.IterState.{IterState}
use Rattle.quic_frames.specs.Walk.{invalid_of, left, first_of, unplaced, given, Finds, IsSpent, Advances}
use Rattle.quic_frames.proofs.Turns.{frames_first, fails_left, spent_left}
use Rattle.quic_canon.proofs.LeastPayloads.{Shortest}
use Rattle.quic_canon.proofs.Steps.{BeginsNone, Walks, walk_on, next_frame, frame_length, shortest_next, walk_begins, fails_err}
use Rattle.quic_c_canon.proofs.PaddingBytes.{EachPads, padding_is}

-- The bytes of the frames so far are at the front, and the bytes after them didn't change.
pub record Stores (payload old new : List ℕ) (at start : ℕ) (state : IterState) (found : List TypedFrame) : Type 0 where
  pub rest : List TypedFrame
  pub left_are : map unplaced (left state) ≡ map given rest
  pub encoded : AreFrames false rest (drop start payload)
  pub bytes : List ℕ
  pub parts : shortest_frames (map frame_in found) ≡ bytes ++ shortest_frames (map frame_in rest)
  pub at_is : at ≡ length bytes
  pub front : new ≡ bytes ++ drop at old

pub record StoreWalk (payload old new : List ℕ) (at : ℕ) (state : IterState) : Type 0 where
  pub walks : Walks payload state.offset state
  pub same_len : length new ≡ length old
  pub stores : (found : List TypedFrame) → AreFrames false found payload → Stores payload old new at state.offset state found

pub store_begins : (payload old : List ℕ) (state : IterState) → state ≡ first_of false payload
    → StoreWalk payload old old 0 state
store_begins payload old state first =
    let here : state.offset ≡ 0 = ap (λ (w : IterState). w.offset) first in
    record {
      walks = subst (λ (n : ℕ). Walks payload n state) (sym here) (walk_begins payload state first);
      same_len = refl;
      stores = λ found s. record {
        rest = found;
        left_are = frames_first false payload state found first s;
        encoded = subst (λ (n : ℕ). AreFrames false found (drop n payload)) (sym here) s;
        bytes = [];
        parts = refl;
        at_is = refl;
        front = refl;
      };
    }

no_error : (rest : List TypedFrame) (i : Invalid) → Err i ∷ [] ≡ map given rest → ⊥
no_error [] i e = cc
no_error (f ∷ rest) i e = cc

pub never_fails : (payload old new : List ℕ) (at : ℕ) (state next : IterState) (item : Result Frame InvalidFrame) (i : InvalidFrame)
    → ((found : List TypedFrame) × AreFrames false found payload) → StoreWalk payload old new at state
    → item ≡ Err i → Advances state (Some item) next → ⊥
never_fails payload old new at state next item i s w e a =
    let l = w.stores s.0 s.1 in
    no_error l.rest (invalid_of i)
    (sym (ap (map unplaced) (fails_left state next i (fails_err state next item i e a))) ∙ l.left_are)

-- there is room for the frame that was found
pub store_room : (payload old new : List ℕ) (at stop : ℕ) (state next : IterState) (frame : Frame) → BeginsNone
    → ((found : List TypedFrame) × AreFrames false found payload)
    → ((found : List TypedFrame) → AreFrames false found payload → length (shortest_frames (map frame_in found)) ≤ length old)
    → StoreWalk payload old new at state → Finds state frame next → stop ≡ next.offset
    → at + length (shortest_frame (eqb stop (length payload)) (meaning_of frame)) ≤ length new
store_room payload old new at stop state next frame begins s room w f there =
    let size = length payload in
    let last = eqb next.offset size in
    let l = w.stores s.0 s.1 in
    let fits = room s.0 s.1 in
    let n = next_frame payload state.offset size state next frame l.rest begins refl w.walks f l.left_are l.encoded in
    let is =
    ap length (shortest_next f.found l.rest n.more last n.rest_is n.last_is)
    ∙ length-append (shortest_frame last f.found.frame) (shortest_frames (map frame_in n.more)) in
    let all = ap length l.parts ∙ length-append l.bytes (shortest_frames (map frame_in l.rest)) in
    let here : length (shortest_frame (eqb stop size) (meaning_of frame)) ≡ length (shortest_frame last (meaning_of frame)) =
    ap (λ (k : ℕ). length (shortest_frame (eqb k size) (meaning_of frame))) there in
    omega (arith, here, frame_length frame f.found last f.says, is, all, fits, l.at_is, w.same_len)

further : (a b : ℕ) (l m : List ℕ) → drop a l ≡ drop a m → drop (a + b) l ≡ drop (a + b) m
further a b l m e = sym (drop-drop b a l) ∙ ap (drop b) e ∙ drop-drop b a m

-- the frame that was found is written
stored : (old new out bytes here : List ℕ) (at end : ℕ) → at ≡ length bytes → new ≡ bytes ++ drop at old
    → end ≡ at + length here
    → out ≡ take at new ++ (here ++ drop end new) → out ≡ (bytes ++ here) ++ drop end old
stored old new out bytes here at end is front stop wrote =
    let start : take at new ≡ bytes = ap (take at) front ∙ take_at bytes (drop at old) at (sym is) in
    let back : drop at new ≡ drop at old = ap (drop at) front ∙ drop_at bytes (drop at old) at (sym is) in
    let behind : drop end new ≡ drop end old = rw stop (further at (length here) new old back) in
    wrote ∙ ap (λ (l : List ℕ). l ++ (here ++ drop end new)) start ∙ ap (λ (l : List ℕ). bytes ++ (here ++ l)) behind
    ∙ sym (append_assoc bytes here (drop end old))

pub store_on : (payload old new out : List ℕ) (at end stop : ℕ) (state next : IterState) (frame : Frame) → BeginsNone
    → StoreWalk payload old new at state → Finds state frame next → stop ≡ next.offset
    → end ≡ at + length (shortest_frame (eqb stop (length payload)) (meaning_of frame))
    → out ≡ take at new ++ (shortest_frame (eqb stop (length payload)) (meaning_of frame) ++ drop end new)
    → length out ≡ length new → StoreWalk payload old out end next
store_on payload old new out at end stop state next frame begins w f there ends wrote size_kept =
    let size = length payload in
    let last = eqb next.offset size in
    record {
      walks = walk_on payload state.offset state next frame w.walks f;
      same_len = size_kept ∙ w.same_len;
      stores = λ found encoded.
          let l = w.stores found encoded in
          let n =
          next_frame payload state.offset size state next frame l.rest begins refl w.walks f l.left_are l.encoded in
          let here = shortest_frame last f.found.frame in
          let is : shortest_frame (eqb stop size) (meaning_of frame) ≡ here =
          ap (λ (k : ℕ). shortest_frame (eqb k size) (meaning_of frame)) there
          ∙ ap (shortest_frame last) (sym f.says) in
          let stops : end ≡ at + length here = ends ∙ ap (λ (x : List ℕ). at + length x) is in
          record {
            rest = n.more;
            left_are = n.left_are;
            encoded = n.encoded;
            bytes = l.bytes ++ here;
            parts = l.parts ∙ ap (λ (x : List ℕ). l.bytes ++ x) (shortest_next f.found l.rest n.more last n.rest_is n.last_is)
                ∙ sym (append_assoc l.bytes here (shortest_frames (map frame_in n.more)));
            at_is = omega (arith, stops, l.at_is, length-append l.bytes here);
            front = stored old new out l.bytes here at end l.at_is l.front stops
                (wrote ∙ ap (λ (x : List ℕ). take at new ++ (x ++ drop end new)) is);
          };
    }

-- bytes of 0 over those that were at an offset
abbrev padded : List ℕ → ℕ → ℕ → List ℕ
padded bytes at k = take at bytes ++ (replicate k 0 ++ drop (at + k) bytes)

length-padded : (bytes : List ℕ) (at k : ℕ) → at + k ≤ length bytes → length (padded bytes at k) ≡ length bytes
length-padded bytes at k le =
    omega (
      arith,
      length-append (take at bytes) (replicate k 0 ++ drop (at + k) bytes),
      length-append (replicate k 0) (drop (at + k) bytes),
      length-take at bytes,
      length-replicate {A = ℕ} k 0,
      length-drop (at + k) bytes,
    )

padded_none : (bytes : List ℕ) (at : ℕ) → padded bytes at 0 ≡ bytes
padded_none bytes at = ap (λ (n : ℕ). take at bytes ++ drop n bytes) (omega arith) ∙ take-append-drop at bytes

-- one more
joined : (head zeros more front back rest : List ℕ) → front ≡ head ++ zeros → back ≡ rest → zeros ++ (0 ∷ []) ≡ more
    → head ++ (more ++ rest) ≡ front ++ ((0 ∷ []) ++ back)
joined head zeros more front back rest front-is back-is one =
    ap (λ (l : List ℕ). head ++ (l ++ rest)) (sym one)
    ∙ ap (λ (l : List ℕ). head ++ l) (append_assoc zeros (0 ∷ []) rest)
    ∙ sym (append_assoc head zeros ((0 ∷ []) ++ rest))
    ∙ ap (λ (l : List ℕ). l ++ ((0 ∷ []) ++ rest)) (sym front-is)
    ∙ ap (λ (l : List ℕ). front ++ ((0 ∷ []) ++ l)) (sym back-is)

same_on : (k a : ℕ) → replicate k a ++ (a ∷ []) ≡ replicate (suc k) a
same_on k a =
    let next : k + 1 ≡ suc k = omega arith in replicate-append-replicate k 1 a ∙ ap (λ (n : ℕ). replicate n a) next

padded_on : (bytes : List ℕ) (at k : ℕ) → at + k ≤ length bytes
    → padded bytes at (suc k) ≡ take (at + k) (padded bytes at k) ++ ((0 ∷ []) ++ drop (at + suc k) (padded bytes at k))
padded_on bytes at k le =
    let head = take at bytes ++ replicate k 0 in
    let rest = drop (at + k) bytes in
    let len : length head ≡ at + k =
    omega (arith, length-append (take at bytes) (replicate k 0), length-take at bytes, length-replicate {A = ℕ} k 0) in
    let cut : padded bytes at k ≡ head ++ rest = sym (append_assoc (take at bytes) (replicate k 0) rest) in
    let back : drop (at + k) (padded bytes at k) ≡ rest = ap (drop (at + k)) cut ∙ drop_at head rest (at + k) len in
    joined (take at bytes) (replicate k 0) (replicate (suc k) 0) (take (at + k) (padded bytes at k)) (drop (at + suc k) (padded bytes at k))
    (drop (at + suc k) bytes) (ap (take (at + k)) cut ∙ take_at head rest (at + k) len)
    (subst (λ (n : ℕ). drop n (padded bytes at k) ≡ drop n bytes) (omega arith)
    (further (at + k) 1 (padded bytes at k) bytes back)) (same_on k 0)

abbrev HasRoom : List ℕ → List ℕ → Type 0
HasRoom payload old =
    (found : List TypedFrame) → AreFrames false found payload → length (shortest_frames (map frame_in found)) ≤ length old

-- each frame of PADDING is written as a byte of 0
all_stored : (payload old new : List ℕ) (at count k : ℕ) (state : IterState) → BeginsNone
    → ((found : List TypedFrame) × AreFrames false found payload) → HasRoom payload old
    → StoreWalk payload old new at state → EachPads count state → k ≤ count
    → (at + k ≤ length new) × StoreWalk payload old (padded new at k) (at + k) (behind k state)
all_stored payload old new at count zero state begins s room w each le =
    let l = w.stores s.0 s.1 in
    let same : StoreWalk payload old (padded new at 0) at state =
    subst (λ (x : List ℕ). StoreWalk payload old x at state) (sym (padded_none new at)) w in (
      omega (arith, ap length l.front, length-append l.bytes (drop at old), l.at_is),
      subst (λ (n : ℕ). StoreWalk payload old (padded new at 0) n state) (omega arith) same,
    )
all_stored payload old new at count (suc k) state begins s room w each le =
    let so_far = all_stored payload old new at count k state begins s room w each (omega arith) in
    let f = each k (omega arith) in
    let next = behind (suc k) state in
    let one = padding_is (eqb next.offset (length payload)) in
    let same = length-padded new at k so_far.0 in
    let fits =
    store_room payload old (padded new at k) (at + k) next.offset (behind k state) next frames.Padding begins s room so_far.1 f refl in
    let on : at + suc k ≤ length new = omega (arith, fits, ap length one, same) in
    let wrote =
    padded_on new at k so_far.0
    ∙ ap (λ (x : List ℕ). take (at + k) (padded new at k) ++ (x ++ drop (at + suc k) (padded new at k))) (sym one) in
    let size_kept : length (padded new at (suc k)) ≡ length (padded new at k) =
    omega (arith, same, length-padded new at (suc k) on) in
    let stored_on =
    store_on payload old (padded new at k) (padded new at (suc k)) (at + k) (at + suc k) next.offset (behind k state)
    next frames.Padding begins so_far.1
    f refl (omega (arith, ap length one)) wrote size_kept in
    (on, stored_on)

pub pad_room : (payload old new : List ℕ) (at count : ℕ) (state next : IterState) → BeginsNone
    → ((found : List TypedFrame) × AreFrames false found payload) → HasRoom payload old
    → StoreWalk payload old new at state → PassesPadding state count next
    → at + count ≤ length new
pad_room payload old new at count state next begins s room w p =
    (all_stored payload old new at count count state begins s room w p.each (omega arith)).0

pub store_pads : (payload old new out : List ℕ) (at end count : ℕ) (state next : IterState) → BeginsNone
    → ((found : List TypedFrame) × AreFrames false found payload) → HasRoom payload old
    → StoreWalk payload old new at state → PassesPadding state count next
    → end ≡ at + count → out ≡ take at new ++ (replicate count 0 ++ drop end new) → StoreWalk payload old out end next
store_pads payload old new out at end count state next begins s room w p ends wrote =
    let stored_all = (all_stored payload old new at count count state begins s room w p.each (omega arith)).1 in
    let there : StoreWalk payload old (padded new at count) (at + count) next =
    subst (StoreWalk payload old (padded new at count) (at + count)) (sym p.comes) stored_all in
    let is : out ≡ padded new at count =
    wrote ∙ ap (λ (n : ℕ). take at new ++ (replicate count 0 ++ drop n new)) ends in
    subst (λ (n : ℕ). StoreWalk payload old out n next) (sym ends)
    (subst (λ (x : List ℕ). StoreWalk payload old x (at + count) next) (sym is) there)

none_given : (rest : List TypedFrame) → [] ≡ map given rest → rest ≡ []
none_given [] e = refl
none_given (f ∷ rest) e = absurd cc

-- all is written
pub store_done : (payload old new : List ℕ) (at : ℕ) (state : IterState) → StoreWalk payload old new at state
    → IsSpent state
    → (found : List TypedFrame) → AreFrames false found payload
    → new ≡ shortest_frames (map frame_in found) ++ drop (length (shortest_frames (map frame_in found))) old
store_done payload old new at state w spent found s =
    let l = w.stores found s in
    let rest = none_given l.rest (sym (ap (map unplaced) (spent_left state spent)) ∙ l.left_are) in
    let whole : shortest_frames (map frame_in found) ≡ l.bytes =
    l.parts ∙ ap (λ (x : List TypedFrame). l.bytes ++ shortest_frames (map frame_in x)) rest ∙ append-nil l.bytes in
    l.front ∙ ap (λ (n : ℕ). l.bytes ++ drop n old) l.at_is ∙ ap (λ (x : List ℕ). x ++ drop (length x) old) (sym whole)

-- a payload of the length of its shortest form is that
pub itself : (payload : List ℕ) (n : ℕ) (found : List TypedFrame) → Shortest → AreFrames false found payload
    → n ≡ length (shortest_frames (map frame_in found)) → n ≡ length payload
    → payload ≡ shortest_frames (map frame_in found)
itself payload n found all s len same = is (all found payload s)
  where
    is : AreOrExceed payload (shortest_frames (map frame_in found)) → payload ≡ shortest_frames (map frame_in found)
    is (inl e) = e
    is (inr lt) = absurd (omega (arith, lt, len, same))
