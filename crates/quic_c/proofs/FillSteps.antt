-- One entry more.
use Rattle.std.proofs.Common.{◌≡◌, ℕ, ℤ, ◌-◌, ◌<◌, ◌≤◌, pos, true, false, List, [], ◌∷◌, length, set, refl, sym, ap, subst, ◌∙◌, inl, inr, arith}
use Rattle.std.specs.Prelude.{◌⊎◌, ◌≢◌, ◌==◌, not}
use Rattle.std.proofs.lemmas.Bool.Decides.{nat_tests}
use Rattle.std.proofs.lemmas.List.{drop-set}
use Rattle.quic_results.proofs.FrameFailures.{not_count, not_empty, not_place, not_room}
use Rattle.quic_base.specs.declared.ids.Dir.TheVariants as dirs
use Rattle.quic_frame_fields.specs.declared.frame.close.Close.TheVariants as closes
use Rattle.quic_frame_fields.specs.Reading.{frame_at, row_at}
use Rattle.quic_frames.specs.declared.frame.Frame.{Frame}
use Rattle.quic_frames.specs.declared.frame.Frame.TheVariants as frames
use Rattle.quic_frames.specs.declared.frame.rules.Rules.{Rules}
use Rattle.quic_frames.specs.IterState.{IterState}
use Rattle.quic_frames.specs.Padding.{PassesPadding}
use Rattle.quic_c_words.specs.declared.words.CFrame.{CFrame}
use Rattle.quic_c_words.specs.declared.words.CFrameIter.{CFrameIter}
use Rattle.quic_c.specs.Answers.{AnswersNext, GivesFrameWords, GivesInvalid}
use Rattle.quic_c.specs.Filling.{AnswersFill, AnswersFirst, GivesEntry, HasNoFrame, LeavesEntry, ReportsInvalid, TakesEntry}
use Rattle.quic_c.specs.Kinds.{HasType, ReadsFrame}
use Rattle.quic_c_words.specs.Shown.{at_front, frame_kind_of, frame_words, rules_in, state_of}
use Rattle.quic_c.proofs.FastCalls.{any_next, kind_next}
use Rattle.quic_c.proofs.FastReads.{finds_at, plain_words}
use Rattle.quic_c.proofs.Filling.{Filling, filling_ends}

-- ---- a frame

goes_on : (n : ℕ) → not (n == 0) ≡ false → n ≡ 0
goes_on n e = grind (arith, nat_tests)

-- the iterator goes on behind it
pub frame_goes_on : (rules : Rules) (old : CFrameIter) (payload : List ℕ) (new : CFrameIter) (entry : CFrame)
    → GivesFrameWords rules old payload new entry → new.ended ≡ 0
frame_goes_on rules old payload new entry g =
    goes_on new.ended (ap (λ (s : IterState). s.is_broken) g.finds.comes ∙ g.finds.goes_on)

pub frame_within : (rules : Rules) (old : CFrameIter) (payload : List ℕ) (new : CFrameIter) (entry : CFrame)
    → GivesFrameWords rules old payload new entry → new.offset ≤ length payload
frame_within rules old payload new entry g = g.finds.stands.within

kind_is : (rules : Rules) (old : CFrameIter) (payload : List ℕ) (new : CFrameIter) (entry : CFrame)
    → (g : GivesFrameWords rules old payload new entry) → entry.kind ≡ frame_kind_of g.frame
kind_is rules old payload new entry g = ap (λ (e : CFrame). e.kind) g.words

-- an entry of a frame that isn't PADDING
pub one_entry : (rules : Rules) (old : CFrameIter) (payload : List ℕ) (new : CFrameIter) (entry : CFrame)
    → GivesFrameWords rules old payload new entry → 0 < entry.kind
    → GivesEntry rules (state_of old payload) entry (state_of new payload)
one_entry rules old payload new entry g some = record {
  frame = g.frame;
  next = state_of new payload;
  finds = g.finds;
  kept = g.kept;
  run = λ none. absurd (omega (arith, none, some, kind_is rules old payload new entry g));
  one = λ _. refl;
  words = g.words;
}

-- an entry of PADDING, with the PADDING that follows
run_words : (start stop end type : ℕ) (frame : Frame) → frame_kind_of frame ≡ 0
    → record (frame_words start stop type frame) { end = end; data_offset = end } ≡ frame_words start end type frame
run_words start stop end type frames.Padding none = ap (λ (n : ℕ). record (frame_words start end type frames.Padding)
    { data_offset = n }) (omega arith)
run_words start stop end type (frames.MaxStreams dirs.Bi count) none = absurd cc
run_words start stop end type (frames.MaxStreams dirs.Uni count) none = absurd cc
run_words start stop end type (frames.StreamsBlocked dirs.Bi limit) none = absurd cc
run_words start stop end type (frames.StreamsBlocked dirs.Uni limit) none = absurd cc
run_words start stop end type (frames.Close (closes.Connection x)) none = absurd cc
run_words start stop end type (frames.Close (closes.Application x)) none = absurd cc
run_words start stop end type frame none = absurd cc

pub run_entry : (rules : Rules) (old : CFrameIter) (payload : List ℕ) (here new : CFrameIter) (entry after : CFrame)
    (more : ℕ) → GivesFrameWords rules old payload here entry → entry.kind ≡ 0
    → PassesPadding (state_of here payload) more (state_of new payload)
    → after ≡ record entry { end = new.offset; data_offset = new.offset }
    → GivesEntry rules (state_of old payload) after (state_of new payload)
run_entry rules old payload here new entry after more g none passes words =
    let padding = sym (kind_is rules old payload here entry g) ∙ none in
    record {
      frame = g.frame;
      next = state_of here payload;
      finds = g.finds;
      kept = g.kept;
      run = λ _. (more, passes);
      one = λ some. absurd (omega (arith, padding, some));
      words = words ∙ ap (λ (e : CFrame). record e { end = new.offset; data_offset = new.offset }) g.words
          ∙ run_words old.offset here.offset new.offset g.finds.found.type g.frame padding;
    }

-- the entry that a reader for a kind filled
pub kind_entry : (rules : Rules) (old : CFrameIter) (payload : List ℕ) (before words : CFrame) (stop type : ℕ)
    → old.ended ≡ 0 → type ≡ words.ty → ReadsFrame payload old.offset stop words
    → TakesEntry rules old payload (pos 1) (record old { offset = stop; last_type = type }) words
kind_entry rules old payload before words stop type going is r =
    let new : CFrameIter = record old { offset = stop; last_type = type } in
    let g = (kind_next rules old payload before words stop type going is r).frame refl in
    let some : 0 < words.kind = subst (λ (n : ℕ). 0 < n) (sym (ap (λ (e : CFrame). e.kind) r.shows)) r.not_padding in
    record {
      taken = refl;
      gives = one_entry rules old payload new words g some;
      within = frame_within rules old payload new words g;
      going = going;
      flags = refl;
    }

-- PADDING in a byte
pub padding_next : (rules : Rules) (old : CFrameIter) (payload : List ℕ) (before words : CFrame) (rest : List ℕ)
    → old.ended ≡ 0 → HasType payload old.offset 0 rest → let stop = length payload - length rest in
    words ≡ plain_words 0 old.offset stop (0 ∷ 0 ∷ 0 ∷ 0 ∷ 0 ∷ [])
    → AnswersNext rules old payload before (pos 1) (record old { offset = stop; last_type = 0 }) words
unfolding frame_at row_at
padding_next rules old payload before words rest going h words_are =
    let stop = length payload - length rest in
    any_next rules old payload before words stop 0 frames.Padding going
    (λ strict last. finds_at strict last payload old.offset 0 rest rest frames.Padding h (omega arith) refl tt tt) refl
    (words_are ∙ ap (λ (n : ℕ). record (plain_words 0 old.offset stop (0 ∷ 0 ∷ 0 ∷ 0 ∷ 0 ∷ [])) { data_offset = n })
    (omega arith))

-- ---- no frame

-- The next frame isn't given, though a byte is left.
pub next_refused : (rules : Rules) (old : CFrameIter) (payload : List ℕ) (before : CFrame) (result : ℤ) (new : CFrameIter)
    (after : CFrame) → AnswersNext rules old payload before result new after → result ≢ pos 1 → old.ended ≡ 0
    → old.offset < length payload → GivesInvalid rules old payload result new after
next_refused rules old payload before result new after a other going within =
    elim a.returns [
      | inl is ↦ absurd (other is)
      | inr (inl is) ↦
          elim (a.end is) [
            | inl broken ↦
                let on : not (old.ended == 0) ≡ false = ap (λ (n : ℕ). not (n == 0)) going in
                let e : false ≡ true = sym on ∙ broken in
                absurd cc
            | inr over ↦ absurd (omega (arith, over, within))
          ]
      | inr (inr (inl is)) ↦ absurd (omega (arith, a.outside.0 is, within))
      | inr (inr (inr gives)) ↦ gives
    ]

-- Then nothing changes where others were filled before.
pub next_left : (rules : Rules) (old : CFrameIter) (payload : List ℕ) (before : CFrame) (result : ℤ) (new back : CFrameIter)
    (after : CFrame) → GivesInvalid rules old payload result new after → result ≢ pos 1 → old.ended ≡ 0
    → back ≡ record new { ended = 0 } → LeavesEntry rules old payload before result back before
next_left rules old payload before result new back after g other going is = record {
  other = other;
  none = inr (g.reported, g.first);
  same = is ∙ ap (λ (f : CFrameIter). record f { ended = 0 }) g.over
      ∙ ap (λ (n : ℕ). record old { ended = n }) (sym going);
  kept = refl;
}

-- ---- what the calls return

pub some_filled : (rules : Rules) (old : CFrameIter) (payload : List ℕ) (before : List CFrame) (count_before : ℕ)
    (here : CFrameIter) (after : List CFrame) (count : ℕ)
    → Filling rules (state_of old payload) before (state_of here payload) after count → 0 < count
    → (count ≡ length before) ⊎ HasNoFrame rules (state_of here payload) → old.offset ≤ length payload
    → 0 < length before → here.flags ≡ old.flags
    → AnswersFill rules old payload before count_before (pos 1) here after count
some_filled rules old payload before count_before here after count s some why within room flags = record {
  returns = inl refl;
  frames = λ _. (some, filling_ends rules (state_of old payload) before (state_of here payload) after count s why);
  end = λ e. absurd cc;
  room = (λ e. absurd cc, λ none. absurd (omega (arith, room, ap length none.1)));
  outside = (λ e. absurd cc, λ beyond. absurd (omega (arith, beyond, within)));
  same = inl refl;
  counted = inl refl;
  flags = flags;
}

pub nothing_left : (rules : Rules) (old here : CFrameIter) (payload : List ℕ) (before after : List CFrame)
    (count_before : ℕ) → here ≡ old → after ≡ before → old.offset ≡ length payload → 0 < length before
    → AnswersFill rules old payload before count_before (pos 0) here after count_before
nothing_left rules old here payload before after count_before is kept over room = record {
  returns = inr (inl refl);
  frames = λ e. absurd cc;
  end = λ _. inr over;
  room = (λ e. absurd cc, λ none. absurd (omega (arith, room, ap length none.1)));
  outside = (λ e. absurd cc, λ beyond. absurd (omega (arith, beyond, over)));
  same = inr (inr (is, kept));
  counted = inr refl;
  flags = ap (λ (f : CFrameIter). f.flags) is;
}

pub none_given : (rules : Rules) (old : CFrameIter) (payload : List ℕ) (before : List CFrame) (count_before : ℕ)
    (result : ℤ) (new : CFrameIter) (entry : CFrame) → GivesInvalid rules old payload result new entry
    → old.offset ≤ length payload → 0 < length before
    → AnswersFill rules old payload before count_before result new (set before 0 entry) count_before
none_given rules old payload before count_before result new entry g within room =
    let reports : ReportsInvalid rules old payload before result new (set before 0 entry) =
    record { entry = entry; invalid = g; entries = drop-set before 0 entry room } in
    record {
      returns = inr (inr (inr (inr reports)));
      frames = λ e. absurd (not_count g.reported.reason 1 (sym g.reason ∙ e));
      end = λ e. absurd (not_count g.reported.reason 0 (sym g.reason ∙ e));
      room = (
        λ e. absurd (not_room g.reported.reason (sym g.reason ∙ e)),
        λ none. absurd (omega (arith, room, ap length none.1)),
      );
      outside = (
        λ e. absurd (not_place g.reported.reason (sym g.reason ∙ e)),
        λ beyond. absurd (omega (arith, beyond, within)),
      );
      same = inr (inl reports);
      counted = inr refl;
      flags = ap (λ (f : CFrameIter). f.flags) g.over;
    }

-- ---- at the front

one_or_refused : (flags : ℕ) (payload : List ℕ) (before : List CFrame) (count_before : ℕ) (result : ℤ) (new : CFrameIter)
    (after : List CFrame) (count : ℕ)
    → AnswersFill (rules_in flags) (at_front flags) payload before count_before result new after count
    → 0 < length payload → 0 < length before
    → (result ≡ pos 1) ⊎ ReportsInvalid (rules_in flags) (at_front flags) payload before result new after
one_or_refused flags payload before count_before result new after count a some room =
    elim a.returns [
      | inl one ↦ inl one
      | inr (inl none) ↦
          elim (a.end none) [
            | inl broken ↦ absurd cc
            | inr over ↦ absurd (omega (arith, over, some))
          ]
      | inr (inr (inl full)) ↦ absurd (omega (arith, room, ap length (a.room.0 full).1))
      | inr (inr (inr (inl beyond))) ↦ absurd (omega (arith, a.outside.0 beyond))
      | inr (inr (inr (inr reports))) ↦ inr reports
    ]

pub first_filled : (flags : ℕ) (payload : List ℕ) (old : CFrameIter) (before : List CFrame) (count_before : ℕ) (result : ℤ)
    (new : CFrameIter) (after : List CFrame) (count : ℕ)
    → AnswersFill (rules_in flags) (at_front flags) payload before count_before result new after count
    → 0 < length payload → 0 < length before
    → AnswersFirst flags payload old before count_before result new after count
first_filled flags payload old before count_before result new after count a some room =
    elim (one_or_refused flags payload before count_before result new after count a some room) [
      | inl one ↦ record {
        returns = inl one;
        frames = λ _. ((a.frames one).0, a.flags, (a.frames one).1);
        empty = (λ e. absurd cc, λ none. absurd (omega (arith, some, ap length none)));
        room = (λ e. absurd cc, λ none. absurd (omega (arith, room, ap length none.1)));
        same = inl one;
        counted = a.counted;
      }
      | inr r ↦
          let g = r.invalid in
          record {
            returns = inr (inr (inr r));
            frames = λ e. absurd (not_count g.reported.reason 1 (sym g.reason ∙ e));
            empty = (
              λ e. absurd (not_empty g.reported.reason (sym g.reason ∙ e)),
              λ none. absurd (omega (arith, some, ap length none)),
            );
            room = (
              λ e. absurd (not_room g.reported.reason (sym g.reason ∙ e)),
              λ none. absurd (omega (arith, room, ap length none.1)),
            );
            same = inr (inl r);
            counted = a.counted;
          }
    ]
