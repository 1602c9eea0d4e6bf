-- A walk over a payload, call by call.
use Rattle.std.proofs.Common.{◌≡◌, ℕ, zero, suc, ◌+◌, ◌<◌, List, [], ◌∷◌, ◌++◌, length, Bool, None, Some, Option, refl, sym, ap, subst, ◌∙◌, inl, inr, append_assoc, arith}
use Rattle.std.specs.Prelude.{All, replicate, slice_index}
use Rattle.std.proofs.lemmas.List.{append-nil, replicate_more}
use Rattle.std.proofs.lemmas.List.Elements.{All-nil, All-cons, All-head, All-tail}
use Rattle.quic_base.specs.Number.{AreBytes}
use Rattle.quic_base.specs.One.{ExactlyOne}
use Rattle.quic_frame_fields.specs.Payload.{Meaning, TypedFrame, Reading}
use Rattle.quic_frame_fields.specs.Reading.{Invalid}
use Rattle.quic_frames.specs.Checking.{IsRefusedFrame}
use Rattle.quic_frames.specs.IterState.{IterState}
use Rattle.quic_frames.specs.Padding.{behind}
use Rattle.quic_frames.specs.Rules.{Checked, IsCheckedAfter, IsCheckedOf, IsCheckedReading, Keeps, reported_by}
use Rattle.quic_frames.specs.Walk.{rest_of, first_of, Finds, IsSpent, Stands}
use Rattle.quic_frames.specs.declared.frame.Frame.{Frame}
use Rattle.quic_frames.specs.declared.frame.Frame.TheVariants as frames
use Rattle.quic_frames.specs.declared.frame.rules.Rules.{Rules}
use Rattle.quic_frames.proofs.CheckedTurns.{HasReadBy, Lasts, Reads, ReadsWhole, after_frames, all_read_by, ended_with, reads_whole, refused_by}
use Rattle.quic_frames.proofs.Turns.{HasRead, has_read_none, has_read_more}
use Rattle.quic_c_words.specs.declared.words.CFrame.{CFrame}
use Rattle.quic_c.specs.Filling.{GivesEntry, Shows}
use Rattle.quic_c_words.specs.Shown.{frame_kind_of, frame_words}
use Rattle.quic_c.specs.Walks.{Ahead, ahead, padding, ShowsFirst, ShowsFrame, ShowsRun}
use Rattle.quic_c.proofs.Filling.{shows-append, kinds}

-- what the law of checked readings says
abbrev pub Checks : Type 0
Checks = (rules : Rules) (before : Option ℕ) (bytes : List ℕ) → AreBytes bytes
    → ExactlyOne (IsCheckedAfter rules before bytes)

-- ---- frames that were read, and the reading of the rest

all_append : (rules : Rules) (found others : List TypedFrame) → All (Keeps rules) found → All (Keeps rules) others
    → All (Keeps rules) (found ++ others)
all_append rules [] others kept also = also
all_append rules (first ∷ found) others kept also =
    All-cons (Keeps rules) first (found ++ others) (All-head (Keeps rules) first found kept)
    (all_append rules found others (All-tail (Keeps rules) first found kept) also)

-- more is to come
by_rest : (rules : Rules) (payload : List ℕ) (found : List TypedFrame) (reading : Reading) (rest : Checked)
    → ReadsWhole rules payload found reading → All (Keeps rules) found → IsCheckedReading rules reading rest
    → IsCheckedOf rules payload (after_frames found rest)
by_rest rules payload found reading rest w kept (inl s) = (
  w.reading,
  w.is,
  inl (
    subst (λ (c : Checked). All (Keeps rules) c.frames) (sym w.parts)
        (all_append rules found (reported_by rules reading).frames kept s.0),
    ap (after_frames found) s.1 ∙ sym w.parts,
  ),
)
by_rest rules payload found reading rest w kept (inr s) = (
  w.reading,
  w.is,
  inr (record {
    broken = s.broken;
    others = s.others;
    breach = s.breach;
    parts = ap (λ (c : Checked). c.frames) w.parts ∙ ap (λ (l : List TypedFrame). found ++ l) s.parts
        ∙ sym (append_assoc found rest.frames (s.broken ∷ s.others));
    kept = all_append rules found rest.frames kept s.kept;
    breaks = s.breaks;
    reported = s.reported;
  }),
)

pub checked_rest : (rules : Rules) (payload : List ℕ) (found : List TypedFrame) (state : IterState) (rest : Checked)
    → Lasts → Reads → HasRead rules.short_types payload found state → All (Keeps rules) found
    → IsCheckedAfter rules state.last (rest_of state) rest → IsCheckedOf rules payload (after_frames found rest)
checked_rest rules payload found state rest lasts reads h kept is =
    by_rest rules payload found is.0 rest (reads_whole rules payload found state is.0 lasts reads h is.1) kept is.2

-- the same to an iterator with rules
abbrev read_by : (rules : Rules) (payload : List ℕ) (found : List TypedFrame) (state : IterState)
    → HasRead rules.short_types payload found state → All (Keeps rules) found
    → HasReadBy rules payload found (record { place = state; rules = rules })
read_by rules payload found state h kept = record { read = h; kept = kept; by = refl }

-- nothing is to come
pub checked_all : (rules : Rules) (payload : List ℕ) (found : List TypedFrame) (state : IterState)
    → HasRead rules.short_types payload found state → All (Keeps rules) found → IsSpent state
    → IsCheckedOf rules payload (ended_with found None)
checked_all rules payload found state h kept spent =
    all_read_by rules payload found (record { place = state; rules = rules })
    (read_by rules payload found state h kept) spent

-- an error comes next
pub checked_error : (rules : Rules) (payload : List ℕ) (found : List TypedFrame) (state : IterState) (reported : Invalid)
    → Lasts → Reads → AreBytes payload → HasRead rules.short_types payload found state → All (Keeps rules) found
    → IsRefusedFrame rules state reported → IsCheckedOf rules payload (ended_with found (Some reported))
checked_error rules payload found state reported lasts reads fits h kept refused =
    refused_by rules payload found (record { place = state; rules = rules }) reported lasts reads fits
    (read_by rules payload found state h kept) refused

-- ---- on the way

-- The entries show the frames that were read, none of which breaks a rule, whatever comes next.
pub record Way (shows : Ahead → CFrame → Ahead → Type 0) (rules : Rules) (payload : List ℕ) (entries : List CFrame)
    (state : IterState) : Type 0 where
  pub found : List TypedFrame
  pub read : HasRead rules.short_types payload found state
  pub kept : All (Keeps rules) found
  pub shown : (others : List TypedFrame) → Shows shows (ahead 0 (found ++ others)) entries (ahead state.offset others)

pub way_begins : (shows : Ahead → CFrame → Ahead → Type 0) (rules : Rules) (payload : List ℕ) (state : IterState)
    → state ≡ first_of rules.short_types payload → Way shows rules payload [] state
way_begins shows rules payload state e = record {
  found = [];
  read = has_read_none rules.short_types payload state e;
  kept = All-nil (Keeps rules);
  shown = λ others. ap (λ (s : IterState). ahead s.offset others) (sym e);
}

way_goes_on : (shows : Ahead → CFrame → Ahead → Type 0) (rules : Rules) (payload : List ℕ) (entries : List CFrame)
    (old new : IterState) (entry : CFrame) (own : List TypedFrame) → (w : Way shows rules payload entries old)
    → HasRead rules.short_types payload (w.found ++ own) new → All (Keeps rules) own
    → ((others : List TypedFrame) → shows (ahead old.offset (own ++ others)) entry (ahead new.offset others))
    → Way shows rules payload (entries ++ entry ∷ []) new
way_goes_on shows rules payload entries old new entry own w read kept step = record {
  found = w.found ++ own;
  read = read;
  kept = all_append rules w.found own w.kept kept;
  shown = λ others. subst (λ (l : List TypedFrame). Shows shows (ahead 0 l) (entries ++ entry ∷ []) (ahead new.offset others))
      (sym (append_assoc w.found own others))
      (shows-append shows (ahead 0 (w.found ++ (own ++ others))) entries (ahead old.offset (own ++ others)) entry
      (ahead new.offset others) (w.shown (own ++ others)) (step others));
}

shows_first : (rules : Rules) (payload : List ℕ) (found : List TypedFrame) (old next new : IterState) (entry : CFrame)
    (frame : Frame) (more : ℕ) (others : List TypedFrame) → HasRead rules.short_types payload found old
    → (f : Finds old frame next) → new.offset ≡ next.offset + more
    → entry ≡ frame_words old.offset new.offset f.found.type frame
    → ShowsFirst rules.short_types payload more (ahead old.offset ((f.found ∷ replicate more padding) ++ others)) entry
    (ahead new.offset others)
shows_first rules payload found old next new entry frame more others h f ends words = record {
  found = f.found;
  frame = frame;
  stop = next.offset;
  parts = refl;
  means = f.says;
  stands = subst (λ (l : List ℕ). Stands rules.short_types l old.offset next.offset f.found) h.same_payload
      (subst (λ (b : Bool). Stands b old.payload old.offset next.offset f.found) h.same_strict f.stands);
  ends = ends;
  words = words;
}

-- a frame
pub way_frame : (rules : Rules) (payload : List ℕ) (entries : List CFrame) (old new : IterState) (entry : CFrame)
    (frame : Frame) → Way (ShowsFrame rules.short_types payload) rules payload entries old → (f : Finds old frame new)
    → Keeps rules f.found → entry ≡ frame_words old.offset new.offset f.found.type frame
    → Way (ShowsFrame rules.short_types payload) rules payload (entries ++ entry ∷ []) new
way_frame rules payload entries old new entry frame w f kept words =
    way_goes_on (ShowsFrame rules.short_types payload) rules payload entries old new entry (f.found ∷ []) w
    (has_read_more rules.short_types payload w.found old new frame w.read f)
    (All-cons (Keeps rules) f.found [] kept (All-nil (Keeps rules)))
    (λ others. shows_first rules payload w.found old new new entry frame 0 others w.read f (omega arith) words)

-- ---- runs of PADDING

all_padding : (rules : Rules) (n : ℕ) → All (Keeps rules) (replicate n padding)
all_padding rules zero = All-nil (Keeps rules)
all_padding rules (suc n) = All-cons (Keeps rules) padding (replicate n padding) refl (all_padding rules n)

behind_offset : (n : ℕ) (state : IterState) → (behind n state).offset ≡ state.offset + n
behind_offset zero state = omega arith
behind_offset (suc n) state = refl

-- PADDING that a byte of 0 encodes
is_padding : (n : ℕ) (next : IterState) → (f : Finds (behind n next) frames.Padding (behind (suc n) next))
    → f.found ≡ padding
is_padding n next f =
    let last : Some 0 ≡ Some f.found.type = ap (λ (s : IterState). s.last) f.comes in
    let type : f.found.type ≡ 0 = cc in
    ap (λ (t : ℕ). record { type = t; frame = f.found.frame }) type
    ∙ ap (λ (m : Meaning). record { type = 0; frame = m }) f.says

read_padding : (strict : Bool) (payload : List ℕ) (found : List TypedFrame) (next : IterState) (n : ℕ)
    → ((k : ℕ) → k < n → Finds (behind k next) frames.Padding (behind (suc k) next)) → HasRead strict payload found next
    → HasRead strict payload (found ++ replicate n padding) (behind n next)
read_padding strict payload found next zero each h =
    subst (λ (l : List TypedFrame). HasRead strict payload l next) (sym (append-nil found)) h
read_padding strict payload found next (suc n) each h =
    let before = read_padding strict payload found next n (λ k lt. each k (omega (arith, lt))) h in
    let f = each n (omega arith) in
    let more : suc n ≡ n + 1 = omega arith in
    let all : (found ++ replicate n padding) ++ f.found ∷ [] ≡ found ++ replicate (suc n) padding =
    ap (λ (t : TypedFrame). (found ++ replicate n padding) ++ t ∷ []) (is_padding n next f)
    ∙ append_assoc found (replicate n padding) (padding ∷ [])
    ∙ ap (λ (l : List TypedFrame). found ++ l) (replicate_more n padding)
    ∙ ap (λ (m : ℕ). found ++ replicate m padding) (sym more) in
    subst (λ (l : List TypedFrame). HasRead strict payload l (behind (suc n) next)) all
    (has_read_more strict payload (found ++ replicate n padding) (behind n next) (behind (suc n) next) frames.Padding before f)

-- a frame, or a run
pub way_entry : (rules : Rules) (payload : List ℕ) (entries : List CFrame) (old new : IterState) (entry : CFrame)
    → Way (ShowsRun rules.short_types payload) rules payload entries old → GivesEntry rules old entry new
    → Way (ShowsRun rules.short_types payload) rules payload (entries ++ entry ∷ []) new
way_entry rules payload entries old new entry w g =
    let f = g.finds in
    let read = has_read_more rules.short_types payload w.found old g.next g.frame w.read f in
    let kind : entry.kind ≡ frame_kind_of g.frame = ap (λ (e : CFrame). e.kind) g.words in
    elim (kinds (frame_kind_of g.frame)) [
      | inl none ↦
          let run = g.run none in
          let more = run.0 in
          let p = run.1 in
          let own = f.found ∷ replicate more padding in
          let all = read_padding rules.short_types payload (w.found ++ f.found ∷ []) g.next more p.each read in
          let now : HasRead rules.short_types payload (w.found ++ own) new =
          subst (λ (s : IterState). HasRead rules.short_types payload (w.found ++ own) s) (sym p.comes)
          (subst (λ (l : List TypedFrame). HasRead rules.short_types payload l (behind more g.next))
          (append_assoc w.found (f.found ∷ []) (replicate more padding)) all) in
          let ends : new.offset ≡ g.next.offset + more =
          ap (λ (s : IterState). s.offset) p.comes ∙ behind_offset more g.next in
          way_goes_on (ShowsRun rules.short_types payload) rules payload entries old new entry own w now
          (All-cons (Keeps rules) f.found (replicate more padding) g.kept (all_padding rules more))
          (λ others. record {
            more = more;
            first = shows_first rules payload w.found old g.next new entry g.frame more others w.read f ends g.words;
            one = λ some. absurd (omega (arith, some, kind, none));
            run = λ _ within. subst (λ (l : List ℕ). 0 < slice_index l new.offset) now.same_payload
                (p.over now.goes_on (omega (arith, within, ap length now.same_payload)));
          })
      | inr some ↦
          let is = g.one some in
          let now = subst (HasRead rules.short_types payload (w.found ++ f.found ∷ [])) (sym is) read in
          let ends : new.offset ≡ g.next.offset + 0 = omega (arith, ap (λ (s : IterState). s.offset) is) in
          way_goes_on (ShowsRun rules.short_types payload) rules payload entries old new entry (f.found ∷ []) w now
          (All-cons (Keeps rules) f.found [] g.kept (All-nil (Keeps rules)))
          (λ others. record {
            more = 0;
            first = shows_first rules payload w.found old g.next new entry g.frame 0 others w.read f ends g.words;
            one = λ _. refl;
            run = λ none. absurd (omega (arith, some, kind, none));
          })
    ]

pub way_entries : (rules : Rules) (payload : List ℕ) (entries : List CFrame) (old new : IterState) (more : List CFrame)
    → Way (ShowsRun rules.short_types payload) rules payload entries old → Shows (GivesEntry rules) old more new
    → Way (ShowsRun rules.short_types payload) rules payload (entries ++ more) new
way_entries rules payload entries old new [] w s =
    subst (λ (l : List CFrame). Way (ShowsRun rules.short_types payload) rules payload l new) (sym (append-nil entries))
    (subst (Way (ShowsRun rules.short_types payload) rules payload entries) s w)
way_entries rules payload entries old new (entry ∷ more) w s =
    subst (λ (l : List CFrame). Way (ShowsRun rules.short_types payload) rules payload l new)
    (append_assoc entries (entry ∷ []) more)
    (way_entries rules payload (entries ++ entry ∷ []) s.0 new more (way_entry rules payload entries old s.0 entry w s.1) s.2)
