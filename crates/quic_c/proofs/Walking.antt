-- The loops of callers that walk over a payload.
use Rattle.std.proofs.Common.{◌≡◌, ◌≢◌, ℕ, ◌+◌, ◌-◌, ◌<◌, ◌≤◌, List, [], ◌∷◌, ◌++◌, length, take, drop, set, Bool, None, Some, Option, refl, sym, ap, subst, ◌∙◌, inl, inr, arith}
use Rattle.std.specs.Prelude.{◌⊎◌, ℤ, pos}
use Rattle.std.proofs.lemmas.List.{append-nil, length-append, length-drop, length-take-le, take_all, take_at, drop_all, drop_at, drop-drop, take-set, take_more_set, drop-set-lt, drop-set}
use Rattle.std.proofs.Math.ListN.{length-set}
use Rattle.std.proofs.Math.Seq.{take-add}
use borrow.Rule.Slice.PartMut.{put_mid, mid_of, post_of}
use Rattle.std.proofs.lemmas.Grind.{drop_more_same}
use Rattle.quic_base.specs.Number.{AreBytes}
use Rattle.quic_base.specs.One.{ExactlyOne, ReturnsOne}
use Rattle.quic_base.proofs.PublicLaws.{back_bytes}
use Rattle.quic_frame_fields.specs.Payload.{TypedFrame}
use Rattle.quic_frame_fields.specs.Reading.{Invalid}
use Rattle.quic_frames.specs.IterState.{IterState}
use Rattle.quic_frames.specs.Checking.{IsRefusedFrame}
use Rattle.quic_frames.specs.Rules.{Checked, IsCheckedOf}
use Rattle.quic_frames.specs.Walk.{rest_of, first_of, IsSpent}
use Rattle.quic_c_words.specs.declared.words.CFrame.{CFrame}
use Rattle.quic_c_words.specs.declared.words.CFrameIter.{CFrameIter}
use Rattle.quic_c.specs.Answers.{AnswersNext, GivesFrameWords, GivesInvalid}
use Rattle.quic_c.specs.Filling.{AnswersFill, AnswersFirst, Fills, ReportsInvalid}
use Rattle.quic_c_words.specs.Shown.{at_front, state_of, rules_in, type_word, invalid_words}
use Rattle.quic_c.specs.Walks.{Ahead, ahead, ShowsFrame, ShowsRun, StopsFull, StopsAtEnd, StopsAtError, StoresFrames}
use Rattle.quic_c.proofs.Ways.{Way, Checks, way_begins, way_frame, way_entries, checked_rest, checked_all, checked_error}
use Rattle.quic_frames.proofs.CheckedTurns.{Lasts, Reads, after_frames}
use Rattle.quic_frames.proofs.Turns.{HasRead}
use Rattle.quic_results.specs.Results.{failed, frame_failure}
use Rattle.quic_results.specs.declared.results.Failure.TheVariants as failure
use Rattle.quic_results.proofs.FrameFailures.{not_count}

-- So many entries show the frames before the iterator's offset.
pub record Walking (shows : Ahead → CFrame → Ahead → Type 0) (flags : ℕ) (payload : List ℕ) (before : List CFrame)
    (frames : CFrameIter) (after : List CFrame) (count : ℕ) : Type 0 where
  pub few : count ≤ length after
  pub all : length after ≡ length before
  pub kept : drop count after ≡ drop count before
  pub by : frames.flags ≡ flags
  pub way : Way shows (rules_in flags) payload (take count after) (state_of frames payload)

pub walking_begins : (shows : Ahead → CFrame → Ahead → Type 0) (flags : ℕ) (payload : List ℕ) (before : List CFrame)
    (frames : CFrameIter) → frames.flags ≡ flags → state_of frames payload ≡ first_of (rules_in flags).short_types payload
    → Walking shows flags payload before frames before 0
walking_begins shows flags payload before frames by first = record {
  few = omega arith;
  all = refl;
  kept = refl;
  by = by;
  way = way_begins shows (rules_in flags) payload (state_of frames payload) first;
}

pub walking_next : (flags : ℕ) (payload : List ℕ) (before : List CFrame) (old new : CFrameIter) (after : List CFrame)
    (count : ℕ) (entry : CFrame)
    → Walking (ShowsFrame (rules_in flags).short_types payload) flags payload before old after count
    → count < length after → GivesFrameWords (rules_in old.flags) old payload new entry → new.flags ≡ old.flags
    → Walking (ShowsFrame (rules_in flags).short_types payload) flags payload before new (set after count entry) (count + 1)
walking_next flags payload before old new after count entry w room given by =
    let g = subst (λ (n : ℕ). GivesFrameWords (rules_in n) old payload new entry) w.by given in
    let front : take (count + 1) (set after count entry) ≡ take count after ++ entry ∷ [] =
    take_more_set after count entry room in
    record {
      few = simp length-set (omega arith);
      all = simp length-set w.all;
      kept = drop-set-lt (count + 1) after count entry (omega arith) ∙ drop_more_same after before count w.kept;
      by = by ∙ w.by;
      way = rw front (way_frame (rules_in flags) payload (take count after) (state_of old payload) (state_of new payload)
          entry g.frame w.way g.finds g.kept g.words);
    }

-- ---- where a walk stops

stores : (shows : Ahead → CFrame → Ahead → Type 0) (flags : ℕ) (payload : List ℕ) (before : List CFrame)
    (frames : CFrameIter) (after stored : List CFrame) (count : ℕ) (last : ℤ) (rest : Checked)
    → (w : Walking shows flags payload before frames after count) → take count stored ≡ take count after
    → ExactlyOne (IsCheckedOf (rules_in flags) payload)
    → IsCheckedOf (rules_in flags) payload (after_frames w.way.found rest)
    → StopsFull before count last
    ⊎ StopsAtEnd before count last stored (after_frames w.way.found rest) (ahead frames.offset rest.frames)
    ⊎ StopsAtError before count last stored (after_frames w.way.found rest) (ahead frames.offset rest.frames)
    → ReturnsOne (IsCheckedOf (rules_in flags) payload) (StoresFrames shows before count last stored)
stores shows flags payload before frames after stored count last rest w front one is why =
    let checked = after_frames w.way.found rest in
    let stored_are : StoresFrames shows before count last stored checked = record {
      end = ahead frames.offset rest.frames;
      few = omega (arith, w.few, w.all);
      shown = rw front (w.way.shown rest.frames);
      why = why;
    } in
    record {
      one = one;
      returned = subst (StoresFrames shows before count last stored) (one.only checked is) stored_are;
    }

nothing_more : (flags : ℕ) (payload : List ℕ) (found : List TypedFrame) (error : Option Invalid)
    → IsCheckedOf (rules_in flags) payload (record { frames = found; error = error })
    → IsCheckedOf (rules_in flags) payload (after_frames found (record { frames = []; error = error }))
nothing_more flags payload found error is =
    subst (λ (l : List TypedFrame). IsCheckedOf (rules_in flags) payload (record { frames = l; error = error }))
    (sym (append-nil found)) is

pub stores_full : (shows : Ahead → CFrame → Ahead → Type 0) (flags : ℕ) (payload : List ℕ) (before : List CFrame)
    (frames : CFrameIter) (after : List CFrame) (count : ℕ) → Lasts → Reads → Checks → AreBytes payload
    → Walking shows flags payload before frames after count → length after ≤ count
    → ReturnsOne (IsCheckedOf (rules_in flags) payload) (StoresFrames shows before count (pos 1) after)
stores_full shows flags payload before frames after count lasts reads checks fits w full =
    let state = state_of frames payload in
    let read = w.way.read in
    let rest = checks (rules_in flags) state.last (rest_of state)
    (back_bytes read.front (rest_of state) (subst AreBytes read.parts fits)) in
    stores shows flags payload before frames after after count (pos 1) rest.it w refl (checks (rules_in flags) None payload fits)
    (checked_rest (rules_in flags) payload w.way.found state rest.it lasts reads read w.way.kept rest.is)
    (inl (record { result = refl; full = omega (arith, full, w.few, w.all) }))

pub stores_all : (shows : Ahead → CFrame → Ahead → Type 0) (flags : ℕ) (payload : List ℕ) (before : List CFrame)
    (frames : CFrameIter) (after stored : List CFrame) (count : ℕ) (last : ℤ) → Checks → AreBytes payload
    → Walking shows flags payload before frames after count → take count stored ≡ take count after
    → drop count stored ≡ drop count after → last ≡ pos 0 → IsSpent (state_of frames payload)
    → ReturnsOne (IsCheckedOf (rules_in flags) payload) (StoresFrames shows before count last stored)
stores_all shows flags payload before frames after stored count last checks fits w front back result spent =
    let all = checked_all (rules_in flags) payload w.way.found (state_of frames payload) w.way.read w.way.kept spent in
    stores shows flags payload before frames after stored count last (record { frames = []; error = None }) w
    front (checks (rules_in flags) None payload fits) (nothing_more flags payload w.way.found None all)
    (inr (inl (record { result = result; none = refl; all = refl; kept = back ∙ w.kept })))

pub stores_error : (shows : Ahead → CFrame → Ahead → Type 0) (flags : ℕ) (payload : List ℕ) (before : List CFrame)
    (frames : CFrameIter) (after stored : List CFrame) (count : ℕ) (last : ℤ) (reported : Invalid) (entry : CFrame)
    → Lasts → Reads → Checks → AreBytes payload
    → Walking shows flags payload before frames after count → count < length after
    → IsRefusedFrame (rules_in frames.flags) (state_of frames payload) reported
    → last ≡ failed (frame_failure reported.reason)
    → entry ≡ invalid_words frames.offset (type_word reported.type)
    → take count stored ≡ take count after → drop count stored ≡ entry ∷ drop (count + 1) after
    → ReturnsOne (IsCheckedOf (rules_in flags) payload) (StoresFrames shows before count last stored)
stores_error shows flags payload before frames after stored count last reported entry lasts reads checks fits w room given result words front back =
    let refused = subst (λ (n : ℕ). IsRefusedFrame (rules_in n) (state_of frames payload) reported) w.by given in
    let all = checked_error (rules_in flags) payload w.way.found (state_of frames payload) reported lasts reads fits w.way.read
    w.way.kept refused in
    stores shows flags payload before frames after stored count last (record { frames = []; error = Some reported }) w front
    (checks (rules_in flags) None payload fits) (nothing_more flags payload w.way.found (Some reported) all)
    (inr (inr (record {
      reported = reported;
      result = result;
      error = refl;
      all = refl;
      room = omega (arith, room, w.all);
      entry = back ∙ ap (λ (e : CFrame). e ∷ drop (count + 1) after) words
          ∙ ap (λ (l : List CFrame). invalid_words frames.offset (type_word reported.type) ∷ l)
          (drop_more_same after before count w.kept);
    })))

within : (strict : Bool) (payload : List ℕ) (found : List TypedFrame) (state : IterState)
    → HasRead strict payload found state → length payload < state.offset → ⊥
within strict payload found state h past =
    omega (arith, past, h.at, ap length h.parts, length-append h.front (rest_of state))

-- a call for the next frame doesn't return 1
pub walking_stops : (shows : Ahead → CFrame → Ahead → Type 0) (flags : ℕ) (payload : List ℕ) (before : List CFrame)
    (old new : CFrameIter) (after : List CFrame) (count : ℕ) (here entry : CFrame) (result : ℤ)
    → Lasts → Reads → Checks → AreBytes payload → Walking shows flags payload before old after count
    → count < length after → AnswersNext (rules_in old.flags) old payload here result new entry → result ≢ pos 1
    → set after count here ≡ after
    → ReturnsOne (IsCheckedOf (rules_in flags) payload) (StoresFrames shows before count result (set after count entry))
walking_stops shows flags payload before old new after count here entry result lasts reads checks fits w room a stops same =
    by_result a.returns
  where
    unchanged : result ≡ pos 0 → (result ≡ pos 1) ⊎ GivesInvalid (rules_in old.flags) old payload result new entry
        ⊎ ((new ≡ old) × (entry ≡ here)) → entry ≡ here
    unchanged end (inl one) = absurd (stops one)
    unchanged end (inr (inl g)) = absurd (not_count g.reported.reason 0 (sym g.reason ∙ end))
    unchanged end (inr (inr kept)) = kept.1

    by_result : (result ≡ pos 1) ⊎ (result ≡ pos 0) ⊎ (result ≡ failed failure.Place)
        ⊎ GivesInvalid (rules_in old.flags) old payload result new entry
        → ReturnsOne (IsCheckedOf (rules_in flags) payload) (StoresFrames shows before count result (set after count entry))
    by_result (inl one) = absurd (stops one)
    by_result (inr (inl end)) =
        let all = ap (set after count) (unchanged end a.same) ∙ same in
        stores_all shows flags payload before old after (set after count entry) count result checks fits w
        (ap (take count) all) (ap (drop count) all) end (a.end end)
    by_result (inr (inr (inl past))) =
        absurd (within (rules_in flags).short_types payload w.way.found (state_of old payload) w.way.read (a.outside.0 past))
    by_result (inr (inr (inr g))) =
        stores_error shows flags payload before old after (set after count entry) count result g.reported entry lasts reads
        checks fits w room g.first g.reason g.words (take-set after count entry) (drop-set after count entry room)

-- ---- many with one call

-- Entries were stored behind the first ones.
pub record Behind {E : Type 0} (after : List E) (count : ℕ) (here entries stored : List E) : Type 0 where
  pub was : here ≡ drop count after
  pub front : take count stored ≡ take count after
  pub back : drop count stored ≡ entries
  pub size : length stored ≡ length after

pub put_behind : {E : Type 0} (after : List E) (count : ℕ) (entries : List E) → count ≤ length after
    → length entries ≡ length (mid_of count (length after - count) after)
    → Behind after count (mid_of count (length after - count) after) entries
    (put_mid count (length after - count) after entries)
put_behind {E = E} after count entries few size =
    let was : mid_of count (length after - count) after ≡ drop count after =
    take_all (length after - count) (drop count after) (omega (arith, length-drop count after)) in
    let none : post_of count (length after - count) after ≡ [] =
    drop_all (length after - count) (drop count after) (omega (arith, length-drop count after)) in
    let stored : put_mid count (length after - count) after entries ≡ take count after ++ entries =
    ap (λ (l : List E). take count after ++ (entries ++ l)) none
    ∙ ap (λ (l : List E). take count after ++ l) (append-nil entries) in
    let front : length (take count after) ≡ count = length-take-le count after few in
    record {
      was = was;
      front = ap (take count) stored ∙ take_at (take count after) entries count front;
      back = ap (drop count) stored ∙ drop_at (take count after) entries count front;
      size = omega (
        arith,
        ap length stored,
        length-append (take count after) entries,
        front,
        size,
        ap length was,
        length-drop count after,
      );
    }

pub walking_first : (flags : ℕ) (payload : List ℕ) (before : List CFrame) (new : CFrameIter) (after : List CFrame)
    (count : ℕ) → Fills (rules_in flags) (first_of (rules_in flags).short_types payload) before (state_of new payload) after count
    → new.flags ≡ flags → length after ≡ length before
    → Walking (ShowsRun (rules_in flags).short_types payload) flags payload before new after count
walking_first flags payload before new after count f by size =
    let front = first_of (rules_in flags).short_types payload in
    record {
      few = omega (arith, f.few, size);
      all = size;
      kept = f.kept;
      by = by;
      way = way_entries (rules_in flags) payload [] front (state_of new payload) (take count after)
          (way_begins (ShowsRun (rules_in flags).short_types payload) (rules_in flags) payload front refl) f.shows;
    }

pub walking_more : (flags : ℕ) (payload : List ℕ) (before : List CFrame) (old new : CFrameIter)
    (after here entries stored : List CFrame) (count more : ℕ)
    → Walking (ShowsRun (rules_in flags).short_types payload) flags payload before old after count
    → Behind after count here entries stored
    → Fills (rules_in old.flags) (state_of old payload) here (state_of new payload) entries more → new.flags ≡ old.flags
    → Walking (ShowsRun (rules_in flags).short_types payload) flags payload before new stored (count + more)
walking_more flags payload before old new after here entries stored count more w b given by =
    let f = subst (λ (n : ℕ). Fills (rules_in n) (state_of old payload) here (state_of new payload) entries more) w.by given in
    let front : take (count + more) stored ≡ take count after ++ take more entries =
    take-add count more stored ∙ ap (λ (l : List CFrame). take count stored ++ take more l) b.back
    ∙ ap (λ (l : List CFrame). l ++ take more entries) b.front in
    record {
      few = omega (arith, f.few, ap length b.was, length-drop count after, b.size, w.few);
      all = b.size ∙ w.all;
      kept = sym (drop-drop more count stored) ∙ ap (drop more) b.back ∙ f.kept ∙ ap (drop more) (b.was ∙ w.kept)
          ∙ drop-drop more count before;
      by = by ∙ w.by;
      way = rw front (way_entries (rules_in flags) payload (take count after) (state_of old payload) (state_of new payload)
          (take more entries) w.way f.shows);
    }

one_behind : (entry : CFrame) (here after : List CFrame) (count : ℕ) → here ≡ drop count after
    → entry ∷ drop 1 here ≡ entry ∷ drop (count + 1) after
one_behind entry here after count was = ap (λ (l : List CFrame). entry ∷ l) (ap (drop 1) was ∙ drop-drop 1 count after)

-- a call for the first frames doesn't return 1
pub first_stops : (flags : ℕ) (payload : List ℕ) (old new : CFrameIter) (before stored : List CFrame)
    (count : ℕ) (result : ℤ) → Lasts → Reads → Checks → AreBytes payload → payload ≢ [] → before ≢ []
    → AnswersFirst flags payload old before 0 result new stored count → result ≢ pos 1
    → ReturnsOne (IsCheckedOf (rules_in flags) payload)
    (StoresFrames (ShowsRun (rules_in flags).short_types payload) before count result stored)
first_stops flags payload old new before stored count result lasts reads checks fits some room a stops = by_result a.returns
  where
    none : (result ≡ pos 1) ⊎ (count ≡ 0) → 0 ≡ count
    none (inl one) = absurd (stops one)
    none (inr zero) = sym zero

    some_room : (l : List CFrame) → l ≢ [] → 0 < length l
    some_room [] some = absurd (some refl)
    some_room (entry ∷ l) some = omega arith

    by_result : (result ≡ pos 1) ⊎ (result ≡ failed failure.PayloadEmpty) ⊎ (result ≡ failed failure.NoRoom)
        ⊎ ReportsInvalid (rules_in flags) (at_front flags) payload before result new stored
        → ReturnsOne (IsCheckedOf (rules_in flags) payload)
        (StoresFrames (ShowsRun (rules_in flags).short_types payload) before count result stored)
    by_result (inl one) = absurd (stops one)
    by_result (inr (inl empty)) = absurd (some (a.empty.0 empty))
    by_result (inr (inr (inl full))) = absurd (room (a.room.0 full).1)
    by_result (inr (inr (inr r))) =
        let g = r.invalid in
        let w = walking_begins (ShowsRun (rules_in flags).short_types payload) flags payload before (at_front flags) refl refl in
        subst (λ (n : ℕ). ReturnsOne (IsCheckedOf (rules_in flags) payload)
        (StoresFrames (ShowsRun (rules_in flags).short_types payload) before n result stored)) (none a.counted)
        (stores_error (ShowsRun (rules_in flags).short_types payload) flags payload before (at_front flags) before stored 0 result
        g.reported r.entry lasts reads checks fits w (some_room before room) g.first g.reason g.words refl r.entries)

-- a call for more doesn't return 1
pub more_stops : (flags : ℕ) (payload : List ℕ) (before : List CFrame) (old new : CFrameIter)
    (after here entries stored : List CFrame) (count more before_more : ℕ) (result : ℤ)
    → Lasts → Reads → Checks → AreBytes payload
    → Walking (ShowsRun (rules_in flags).short_types payload) flags payload before old after count → count < length after
    → Behind after count here entries stored
    → AnswersFill (rules_in old.flags) old payload here before_more result new entries more → result ≢ pos 1
    → ReturnsOne (IsCheckedOf (rules_in flags) payload)
    (StoresFrames (ShowsRun (rules_in flags).short_types payload) before count result stored)
more_stops flags payload before old new after here entries stored count more before_more result lasts reads checks fits w room b a stops =
    by_result a.returns
  where
    unchanged : result ≡ pos 0 → (result ≡ pos 1) ⊎ ReportsInvalid (rules_in old.flags) old payload here result new entries
        ⊎ ((new ≡ old) × (entries ≡ here)) → entries ≡ here
    unchanged end (inl one) = absurd (stops one)
    unchanged end (inr (inl r)) = absurd (not_count r.invalid.reported.reason 0 (sym r.invalid.reason ∙ end))
    unchanged end (inr (inr kept)) = kept.1

    by_result : (result ≡ pos 1) ⊎ (result ≡ pos 0) ⊎ (result ≡ failed failure.NoRoom) ⊎ (result ≡ failed failure.Place)
        ⊎ ReportsInvalid (rules_in old.flags) old payload here result new entries
        → ReturnsOne (IsCheckedOf (rules_in flags) payload)
        (StoresFrames (ShowsRun (rules_in flags).short_types payload) before count result stored)
    by_result (inl one) = absurd (stops one)
    by_result (inr (inl end)) =
        stores_all (ShowsRun (rules_in flags).short_types payload) flags payload before old after stored count result checks
        fits w b.front (b.back ∙ unchanged end a.same ∙ b.was) end (a.end end)
    by_result (inr (inr (inl full))) =
        absurd (omega (arith, room, ap length (a.room.0 full).1, ap length b.was, length-drop count after))
    by_result (inr (inr (inr (inl past)))) =
        absurd (within (rules_in flags).short_types payload w.way.found (state_of old payload) w.way.read (a.outside.0 past))
    by_result (inr (inr (inr (inr r)))) =
        let g = r.invalid in
        stores_error (ShowsRun (rules_in flags).short_types payload) flags payload before old after stored count result
        g.reported r.entry lasts reads checks fits w room g.first g.reason g.words b.front
        (b.back ∙ r.entries ∙ one_behind r.entry here after count b.was)
