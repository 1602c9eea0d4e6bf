-- Runs of PADDING within the walks over a payload.
use Rattle.std.proofs.Common.{◌≡◌, ◌≢◌, ℕ, zero, suc, ◌+◌, ◌-◌, ◌<◌, ◌≤◌, true, List, length, Vec, Global, refl, sym, ap, subst, ◌∙◌, arith}
use Rattle.quic_frames.specs.declared.frame.Frame.{Frame}
use Rattle.quic_frames.specs.declared.frame.Frame.TheVariants as frames
use Rattle.quic_frames.specs.Meaning.{meaning_of}
use Rattle.quic_frames.specs.Padding.{PassesPadding, behind}
use Rattle.quic_frames.specs.IterState.{IterState}
use Rattle.quic_frames.specs.Walk.{Finds, left}
use Rattle.quic_frames.proofs.Turns.{finds_left}
use Rattle.quic_canon.proofs.FrontWalk.{FrontWalk, grows_to, stays_at}
use Rattle.quic_canon.proofs.RewriteWalk.{RewriteWalk, rewrite_keeps}
use Rattle.quic_canon.proofs.Spans.{one_byte}
use Rattle.quic_canon.proofs.Steps.{BeginsNone, OneShortest, small_at}

abbrev EachPads : ℕ → IterState → Type 0
EachPads count old = (k : ℕ) → k < count → Finds (behind k old) frames.Padding (behind (suc k) old)

-- the state after one more
behind_at : (payload : List ℕ) (front start k : ℕ) (old : IterState) → FrontWalk payload front start old
    → start + suc k ≡ (behind (suc k) old).offset
behind_at payload front start k old w = let is = w.walks.start_is in omega (arith, is)

-- each is in its shortest encoding
all_grow : (payload : List ℕ) (start count k : ℕ) (old : IterState) → BeginsNone → OneShortest
    → FrontWalk payload start start old
    → EachPads count old → k ≤ count → FrontWalk payload (start + k) (start + k) (behind k old)
all_grow payload start count zero old begins one w each le =
    subst (λ (n : ℕ). FrontWalk payload n n old) (omega arith) w
all_grow payload start count (suc k) old begins one w each le =
    let so_far = all_grow payload start count k old begins one w each (omega arith) in
    let f = each k (omega arith) in
    let at = behind_at payload start start k old w in
    let small =
    small_at payload (start + k) (start + suc k) (behind k old) (behind (suc k) old) frames.Padding one so_far.walks f at in
    grows_to payload (start + k) (start + k) (start + suc k) (behind k old) (behind (suc k) old) frames.Padding true
    begins one refl so_far f at
    (one_byte _ (meaning_of frames.Padding) (start + suc k - (start + k)) (omega arith) small) refl

-- after a frame that isn't, they change nothing
all_stay : (payload : List ℕ) (front start count k : ℕ) (old : IterState) → front ≢ start
    → FrontWalk payload front start old → EachPads count old
    → k ≤ count → FrontWalk payload front (start + k) (behind k old)
all_stay payload front start count zero old differs w each le =
    subst (λ (n : ℕ). FrontWalk payload front n old) (omega arith) w
all_stay payload front start count (suc k) old differs w each le =
    let so_far = all_stay payload front start count k old differs w each (omega arith) in
    let before = w.before in
    stays_at payload front (start + k) (start + suc k) (behind k old) (behind (suc k) old) frames.Padding
    (λ e. differs (omega (arith, e, before))) so_far (each k (omega arith)) (behind_at payload front start k old w)

pub padding_grows : (payload : List ℕ) (front stop later count : ℕ) (old new : IterState) → BeginsNone → OneShortest
    → front ≡ stop
    → FrontWalk payload front stop old → PassesPadding old count new → later ≡ new.offset
    → FrontWalk payload later later new
padding_grows payload front stop later count old new begins one same w p at =
    let v = subst (λ (n : ℕ). FrontWalk payload n stop old) same w in
    let passed =
    subst (FrontWalk payload (stop + count) (stop + count)) (sym p.comes)
    (all_grow payload stop count count old begins one v p.each (omega arith)) in
    subst (λ (n : ℕ). FrontWalk payload n n new) (sym passed.walks.start_is ∙ sym at) passed

pub padding_stays : (payload : List ℕ) (front stop later count : ℕ) (old new : IterState) → front ≢ stop
    → FrontWalk payload front stop old
    → PassesPadding old count new → later ≡ new.offset → FrontWalk payload front later new
padding_stays payload front stop later count old new differs w p at =
    let passed =
    subst (FrontWalk payload front (stop + count)) (sym p.comes)
    (all_stay payload front stop count count old differs w p.each (omega arith)) in
    subst (λ (n : ℕ). FrontWalk payload front n new) (sym passed.walks.start_is ∙ sym at) passed

-- while a payload is rewritten, each stays as it is
all_kept : (old new : Vec ℕ Global) (payload : List ℕ) (from start count k : ℕ) (state : IterState) → BeginsNone
    → OneShortest
    → RewriteWalk old new payload from start state → EachPads count state → k ≤ count
    → RewriteWalk old new payload from (start + k) (behind k state)
all_kept old new payload from start count zero state begins one w each le =
    subst (λ (n : ℕ). RewriteWalk old new payload from n state) (omega arith) w
all_kept old new payload from start count (suc k) state begins one w each le =
    let so_far = all_kept old new payload from start count k state begins one w each (omega arith) in
    let f = each k (omega arith) in
    let is = w.walks.start_is in
    let at : start + suc k ≡ (behind (suc k) state).offset = omega (arith, is) in
    let small =
    small_at payload (start + k) (start + suc k) (behind k state) (behind (suc k) state) frames.Padding one so_far.walks f at in
    rewrite_keeps old new payload from (start + k) (start + suc k) (behind k state) (behind (suc k) state)
    frames.Padding true begins one so_far f at
    (one_byte _ (meaning_of frames.Padding) (start + suc k - (start + k)) (omega arith) small) refl

padding_kept : (old new : Vec ℕ Global) (payload : List ℕ) (from stop later count : ℕ) (state next : IterState)
    → BeginsNone → OneShortest → RewriteWalk old new payload from stop state → PassesPadding state count next
    → later ≡ next.offset
    → RewriteWalk old new payload from later next
padding_kept old new payload from stop later count state next begins one w p at =
    let passed =
    subst (RewriteWalk old new payload from (stop + count)) (sym p.comes)
    (all_kept old new payload from stop count count state begins one w p.each (omega arith)) in
    subst (λ (n : ℕ). RewriteWalk old new payload from n next) (sym passed.walks.start_is ∙ sym at) passed

-- the offset by another name, after PADDING and if none is skipped
pub passed_as : (old out : Vec ℕ Global) (payload : List ℕ) (from stop later count : ℕ) (state next there : IterState)
    → BeginsNone → OneShortest → RewriteWalk old out payload from stop state → PassesPadding state count next
    → there ≡ next
    → later ≡ there.offset → RewriteWalk old out payload from later there
passed_as old out payload from stop later count state next there begins one w p is at =
    subst (RewriteWalk old out payload from later) (sym is) (padding_kept old out payload from stop later count state
    next begins one w p (at ∙ ap (λ (x : IterState). x.offset) is))

pub stands_as : (old out : Vec ℕ Global) (payload : List ℕ) (from stop later : ℕ) (state there : IterState)
    → RewriteWalk old out payload from stop state → stop ≡ state.offset → there ≡ state → later ≡ there.offset
    → RewriteWalk old out payload from later there
stands_as old out payload from stop later state there w stop-is is at =
    subst (RewriteWalk old out payload from later) (sym is) (subst (λ (n : ℕ). RewriteWalk old out payload from n state)
    (stop-is ∙ sym (at ∙ ap (λ (x : IterState). x.offset) is)) w)

-- what is left gets no longer
fewer : (count k : ℕ) (old : IterState) → EachPads count old → k ≤ count
    → length (left (behind k old)) ≤ length (left old)
fewer count zero old each le = omega arith
fewer count (suc k) old each le =
    let so_far = fewer count k old each (omega arith) in
    let one = ap length (finds_left _ _ _ (each k (omega arith))) in
    omega (arith, so_far, one)

padding_shortens : (count : ℕ) (old new : IterState) → PassesPadding old count new
    → length (left new) ≤ length (left old)
padding_shortens count old new p =
    subst (λ (w : IterState). length (left w) ≤ length (left old)) (sym p.comes) (fewer count count old p.each (omega arith))

pub padding_goes_on : (count : ℕ) (old next new : IterState) (frame : Frame) → Finds old frame next
    → PassesPadding next count new
    → length (left new) < length (left old)
padding_goes_on count old next new frame f p =
    let one = ap length (finds_left old next frame f) in omega (arith, one, padding_shortens count next new p)

pub frame_goes_on : (old next there : IterState) (frame : Frame) → Finds old frame next → there ≡ next
    → length (left there) < length (left old)
frame_goes_on old next there frame f is =
    let one = ap length (finds_left old next frame f) in subst (λ (w : IterState). length (left w) < length (left old)) (sym is) (omega (arith, one))

pub padding_goes_on_as : (count : ℕ) (old next new there : IterState) (frame : Frame) → Finds old frame next
    → PassesPadding next count new
    → there ≡ new → length (left there) < length (left old)
padding_goes_on_as count old next new there frame f p is =
    subst (λ (w : IterState). length (left w) < length (left old)) (sym is) (padding_goes_on count old next new frame f p)
