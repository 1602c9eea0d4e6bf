-- Runs of receptions, from a new receiver.
use Rattle.std.specs.Prelude.{◌≡◌, ℕ, ◌≤◌, ◌⊎◌, max, Bool, List, [], ◌∷◌, All, Any, filter, is_ok, Option, Some, None, Result, Ok, Err, IsOkAnd}
use Rattle.std.specs.Option.{option_map_or}
use Rattle.std.proofs.Common.{sym, ap, ◌∙◌, arith, refl, subst, inl, inr, suc, cond}
use Rattle.std.proofs.lemmas.Bool.{cases_lt}
use Rattle.std.proofs.lemmas.List.Elements.{All-nil, All-cons}
use Rattle.std.proofs.lemmas.Option.{none-some, same_Some}
use Rattle.quic_base.specs.declared.ids.SpaceId.{SpaceId}
use Rattle.quic_base.specs.declared.ids.SpaceId.TheVariants as space
use Rattle.quic_header_encode.specs.Kinds.{space_in}
use Rattle.quic_levels.specs.declared.opening.LevelError.{LevelError}
use Rattle.quic_levels.specs.Opening.{BeginsSealed, ReturnsAgain}
use Rattle.quic_levels.specs.Protection.{pair_of}
use Rattle.quic_levels.specs.Receiving.{IsExpectedNext, OpenedIn, Receives, Reception, Run, expected_after, fresh, is_opened, one_more, raised}
use Rattle.quic_packets.specs.declared.keys.Expected.{Expected}
use Rattle.quic_packets.specs.declared.opening.Opened.{Opened}
use Rattle.quic_packets.specs.Opening.{ExpandsIn}
use Rattle.quic_packets.specs.Pairs.{expected_in}
use Rattle.quic_packets.specs.Sealing.{PacketContents}

-- ---- one reception

max_either : (a b : ℕ) → (max a b ≡ a) ⊎ (max a b ≡ b)
max_either a b = elim (cases_lt a b) [
  | inl less ↦ inr (omega arith)
  | inr more ↦ inl (omega arith)
]

-- what a space expects once a number is expected in one of them
record Raised (expected : Expected) (there here : SpaceId) (n : ℕ) : Type 0 where
  grows : expected_in expected here ≤ expected_in (raised expected there n) here
  reaches : there ≡ here → n ≤ expected_in (raised expected there n) here
  either : (expected_in (raised expected there n) here ≡ expected_in expected here)
      ⊎ ((there ≡ here) × (expected_in (raised expected there n) here ≡ n))

either_same : (there : SpaceId) (a n : ℕ) → (max a n ≡ a) ⊎ ((there ≡ there) × (max a n ≡ n))
either_same there a n = elim (max_either a n) [ inl old ↦ inl old | inr new ↦ inr (refl, new) ]

raises : (expected : Expected) (there here : SpaceId) (n : ℕ) → Raised expected there here n
raises e space.Initial space.Initial n = record {
  grows = omega arith;
  reaches = λ _. omega arith;
  either = either_same space.Initial e.initial n;
}
raises e space.Initial space.Handshake n = record { grows = omega arith; reaches = λ same. absurd cc; either = inl refl }
raises e space.Initial space.Data n = record { grows = omega arith; reaches = λ same. absurd cc; either = inl refl }
raises e space.Handshake space.Initial n = record { grows = omega arith; reaches = λ same. absurd cc; either = inl refl }
raises e space.Handshake space.Handshake n = record {
  grows = omega arith;
  reaches = λ _. omega arith;
  either = either_same space.Handshake e.handshake n;
}
raises e space.Handshake space.Data n = record { grows = omega arith; reaches = λ same. absurd cc; either = inl refl }
raises e space.Data space.Initial n = record { grows = omega arith; reaches = λ same. absurd cc; either = inl refl }
raises e space.Data space.Handshake n = record { grows = omega arith; reaches = λ same. absurd cc; either = inl refl }
raises e space.Data space.Data n = record {
  grows = omega arith;
  reaches = λ _. omega arith;
  either = either_same space.Data e.app n;
}

-- an answer opened a packet with this number, in this space
abbrev IsOpened : SpaceId → ℕ → Result Opened LevelError → Type 0
IsOpened here n answer = IsOkAnd answer (λ opened. (space_in opened.header ≡ here) × (opened.number ≡ Some n))

-- what a space expects after a reception
record Moved (old new : Expected) (here : SpaceId) (answer : Result Opened LevelError) : Type 0 where
  grows : expected_in old here ≤ expected_in new here
  above : (n : ℕ) → IsOpened here n answer → one_more n ≤ expected_in new here
  either : (expected_in new here ≡ expected_in old here)
      ⊎ ((n : ℕ) × IsOpened here n answer × (expected_in new here ≡ one_more n))

-- what is expected after a packet with this number, if it has one
abbrev after_number : Expected → SpaceId → Option ℕ → Expected
after_number old there number = option_map_or (λ n. raised old there (one_more n)) number old

moved_by : (old : Expected) (here : SpaceId) (opened : Opened) (number : Option ℕ) → opened.number ≡ number
    → Moved old (after_number old (space_in opened.header) number) here (Ok opened)
moved_by old here opened None is = record {
  grows = omega arith;
  above = λ n found. absurd (none-some n (sym is ∙ found.1));
  either = inl refl;
}
moved_by old here opened (Some m) is =
    let r = raises old (space_in opened.header) here (one_more m) in
    record {
      grows = r.grows;
      above = λ n found.
          subst (λ (k : ℕ). one_more k ≤ expected_in (raised old (space_in opened.header) (one_more m)) here)
          (same_Some m n (sym is ∙ found.1)) (r.reaches found.0);
      either = elim r.either [ inl before ↦ inl before | inr up ↦ inr (m, (up.0, is), up.1) ];
    }

moves : (old : Expected) (here : SpaceId) (answer : Result Opened LevelError)
    → Moved old (expected_after old answer) here answer
moves old here (Ok opened) = moved_by old here opened opened.number refl
moves old here (Err e) = record { grows = omega arith; above = λ n found. absurd found; either = inl refl }

moved_to : (old new : Expected) (here : SpaceId) (reception : Reception) → Receives old reception new
    → Moved old new here reception.answer
moved_to old new here reception receives =
    subst (λ (e : Expected). Moved old e here reception.answer) (sym receives.moved) (moves old here reception.answer)

-- ---- runs

abbrev Above : SpaceId → ℕ → Reception → Type 0
Above here next reception = (n : ℕ) → OpenedIn here n reception → one_more n ≤ next

abbrev Next : SpaceId → ℕ → Reception → Type 0
Next here next reception = (n : ℕ) × OpenedIn here n reception × (next ≡ one_more n)

-- what a space expects after a run
record Ran (old new : Expected) (here : SpaceId) (receptions : List Reception) : Type 0 where
  grows : expected_in old here ≤ expected_in new here
  above_all : All (Above here (expected_in new here)) receptions
  is_next : (expected_in new here ≡ expected_in old here) ⊎ Any (Next here (expected_in new here)) receptions

any_first : {X : Type 0} (P : X → Type 0) (x : X) (xs : List X) → P x → Any P (x ∷ xs)
any_first P x xs holds = (0, x, omega arith, refl, holds)

any_later : {X : Type 0} (P : X → Type 0) (x : X) (xs : List X) → Any P xs → Any P (x ∷ xs)
any_later P x xs (k, y, within, at, holds) = (suc k, y, omega arith, at, holds)

next_joined : (old mid new : Expected) (here : SpaceId) (reception : Reception) (receptions : List Reception)
    → Moved old mid here reception.answer
    → (expected_in new here ≡ expected_in mid here) ⊎ Any (Next here (expected_in new here)) receptions
    → (expected_in new here ≡ expected_in old here)
    ⊎ Any (Next here (expected_in new here)) (reception ∷ receptions)
next_joined old mid new here reception receptions moved (inl same) = elim moved.either [
  | inl before ↦ inl (same ∙ before)
  | inr (n, found, up) ↦ inr (any_first (Next here (expected_in new here)) reception receptions (n, found, same ∙ up))
]
next_joined old mid new here reception receptions moved (inr later) =
    inr (any_later (Next here (expected_in new here)) reception receptions later)

ran : (receptions : List Reception) (old new : Expected) (here : SpaceId) → Run old receptions new
    → Ran old new here receptions
ran [] old new here same = record {
  grows = omega (arith, ap (λ (e : Expected). expected_in e here) same);
  above_all = All-nil (Above here (expected_in new here));
  is_next = inl (ap (λ (e : Expected). expected_in e here) same);
}
ran (reception ∷ receptions) old new here (mid, receives, run) =
    let first = moved_to old mid here reception receives in
    let later = ran receptions mid new here run in
    record {
      grows = omega (arith, first.grows, later.grows);
      above_all = All-cons (Above here (expected_in new here)) reception receptions
          (λ n found. omega (arith, first.above n found, later.grows)) later.above_all;
      is_next = next_joined old mid new here reception receptions first later.is_next;
    }

at_first : (here : SpaceId) → expected_in fresh here ≡ 0
at_first space.Initial = refl
at_first space.Handshake = refl
at_first space.Data = refl

-- what a new receiver expects after a run
pub expected_is : (receptions : List Reception) (expected : Expected) → Run fresh receptions expected → (here : SpaceId)
    → IsExpectedNext here receptions (expected_in expected here)
expected_is receptions expected run here =
    let r = ran receptions fresh expected here run in
    record {
      above_all = r.above_all;
      is_next = elim r.is_next [ inl same ↦ inl (same ∙ at_first here) | inr some ↦ inr some ];
    }

-- a number that was opened is below both
next_below : (here : SpaceId) (receptions : List Reception) (one other : ℕ)
    → All (Above here other) receptions → (one ≡ 0) ⊎ Any (Next here one) receptions → one ≤ other
next_below here receptions one other above (inl none) = omega arith
next_below here receptions one other above (inr (k, reception, within, at, (n, found, is))) =
    let less : one_more n ≤ other =
    subst (Above here other) at (above k reception within) n found in
    omega (arith, less, is)

next_same : (here : SpaceId) (receptions : List Reception) (one other : ℕ)
    → IsExpectedNext here receptions one → IsExpectedNext here receptions other → one ≡ other
next_same here receptions one other a b =
    let up : one ≤ other = next_below here receptions one other b.above_all a.is_next in
    let down : other ≤ one = next_below here receptions other one a.above_all b.is_next in
    omega (arith, up, down)

-- a sealed packet after a run
pub sealed_after : (receptions : List Reception) (expected : Expected) → Run fresh receptions expected
    → (last : Reception) (new : Expected) → Receives expected last new
    → (contents : PacketContents) (rest : List ℕ) (next : ℕ)
    → IsExpectedNext (space_in contents.header) receptions next
    → (begins : BeginsSealed last.opening next last.bytes contents rest)
    → ReturnsAgain (pair_of begins.header_key begins.packet_key) contents rest last.answer last.left
sealed_after receptions expected run last new receives contents rest next is begins =
    let here : SpaceId = space_in contents.header in
    let same : next ≡ expected_in expected here =
    next_same here receptions next (expected_in expected here) is (expected_is receptions expected run here) in
    receives.outcome.sealed contents rest (record {
      level = begins.level;
      has_level = begins.has_level;
      header_key = begins.header_key;
      has_header_key = begins.has_header_key;
      packet_key = begins.packet_key;
      has_packet_key = begins.has_packet_key;
      packet = begins.packet;
      sealed = begins.sealed;
      read = begins.read;
      number = subst (λ (k : ℕ). ExpandsIn contents.header k contents.number) same begins.number;
      text = begins.text;
    })

-- ---- without the receptions that opened nothing

kept_by : (reception : Reception) (opened : List Reception) (old mid new : Expected) (answer : Result Opened LevelError)
    → reception.answer ≡ answer → Receives old reception mid → Run mid opened new
    → Run old (cond (is_opened reception) (reception ∷ opened) opened) new
kept_by reception opened old mid new (Ok x) is receives run =
    subst (λ (b : Bool). Run old (cond b (reception ∷ opened) opened) new)
    (sym (ap (λ (r : Result Opened LevelError). is_ok r) is)) (mid, receives, run)
kept_by reception opened old mid new (Err e) is receives run =
    let same : mid ≡ old = receives.moved ∙ ap (expected_after old) is in
    subst (λ (b : Bool). Run old (cond b (reception ∷ opened) opened) new)
    (sym (ap (λ (r : Result Opened LevelError). is_ok r) is))
    (subst (λ (e : Expected). Run e opened new) same run)

opened_run : (receptions : List Reception) (old new : Expected) → Run old receptions new
    → Run old (filter is_opened receptions) new
opened_run [] old new run = run
opened_run (reception ∷ receptions) old new (mid, receives, run) =
    kept_by reception (filter is_opened receptions) old mid new reception.answer refl receives
    (opened_run receptions mid new run)

pub without_foreign : (receptions : List Reception) (expected : Expected) → Run fresh receptions expected
    → Run fresh (filter is_opened receptions) expected
without_foreign receptions expected run = opened_run receptions fresh expected run
