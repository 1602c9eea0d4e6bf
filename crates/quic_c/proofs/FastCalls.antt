-- What calls return for a frame that breaks no rule.
use Rattle.std.proofs.Common.{◌≡◌, ℕ, ℤ, ◌-◌, ◌<◌, ◌^◌, pos, Bool, false, None, List, ◌∷◌, length, Option, Some, refl, sym, ap, subst, ◌∙◌, inl, inr, arith}
use Rattle.std.specs.Prelude.{◌≢◌, ◌==◌, not}
use Rattle.quic_frames.specs.declared.frame.Frame.{Frame}
use Rattle.quic_frames.specs.declared.frame.Frame.TheVariants as frames
use Rattle.quic_frames.specs.declared.frame.rules.Rules.{Rules}
use Rattle.quic_frames.specs.IterState.{IterState}
use Rattle.quic_frames.specs.Meaning.{meaning_of}
use Rattle.quic_frames.specs.Rules.{breach_of}
use Rattle.quic_frames.specs.Walk.{Finds, first_of, resumed}
use Rattle.quic_frame_fields.specs.declared.frame.ack.Ack.{Ack}
use Rattle.quic_frame_fields.specs.Acks.{ranges_acked}
use Rattle.quic_c_words.specs.declared.words.CFrame.{CFrame}
use Rattle.quic_c_words.specs.declared.words.CFrameIter.{CFrameIter}
use Rattle.quic_c_words.specs.declared.words.CGap.{CGap}
use Rattle.quic_c_words.specs.declared.show.Parts.{Parts}
use Rattle.quic_c_words.specs.Shown.{counts_flag, counts_numbers, first_length, frame_kind_of, frame_words, has_flag, state_of, type_in}
use Rattle.quic_c.specs.Answers.{AnswersNext, GivesFrameWords}
use Rattle.quic_c.specs.Front.{AnswersRead, ShowsAck, ShowsFront}
use Rattle.quic_c.specs.Kinds.{FindsAck, ReadsFrame}
use Rattle.quic_c_words.proofs.Shown.{place_is}
use Rattle.quic_c.proofs.Types.{gives_frame, last_fits, last_is, reads_front, word_back}

-- ---- the frame at the front

any_read : (rules : Rules) (payload : List ℕ) (before words : CFrame) (room gaps : List CGap) (stop type : ℕ) (frame : Frame)
    → Finds (first_of rules.short_types payload) frame (resumed payload stop (Some type) rules.short_types)
    → breach_of rules (meaning_of frame) ≡ None → 0 < frame_kind_of frame → ShowsFront stop type frame room words gaps
    → AnswersRead rules payload before room (pos stop) words gaps
any_read rules payload before words room gaps stop type frame f kept some shows =
    let reads =
    reads_front rules payload room stop words gaps frame _ _ type f (ap (breach_of rules) f.says ∙ kept)
    (λ zero. absurd (omega (arith, zero, some))) (λ other. refl) refl (last_is _ _ frame f type refl) shows in
    record {
      returns = inr (inr (stop, refl, reads));
      empty = (λ e. absurd cc, λ e. absurd (omega (arith, f.stands.some, f.stands.within, ap length e)));
      same = λ e. absurd cc;
      kept = inl (stop, refl);
    }

-- gaps change only for an ACK
shows_front : (stop type : ℕ) (frame : Frame) (room : List CGap) (words : CFrame) → frame_kind_of frame ≢ 0x02
    → words ≡ frame_words 0 stop type frame → ShowsFront stop type frame room words room
shows_front stop type (frames.Ack a) room words other shows = absurd (other refl)
shows_front stop type frame room words other shows = (shows, refl)

pub kind_read : (rules : Rules) (payload : List ℕ) (before words : CFrame) (room : List CGap) (stop : ℕ) (result : ℤ)
    → result ≡ pos stop → ReadsFrame payload 0 stop words → AnswersRead rules payload before room result words room
kind_read rules payload before words room stop result is r =
    subst (λ (n : ℤ). AnswersRead rules payload before room n words room) (sym is)
    (any_read rules payload before words room room stop words.ty r.frame (r.finds rules.short_types None) (r.kept rules)
    r.not_padding (shows_front stop words.ty r.frame room words r.not_ack r.shows))

pub ack_read : (rules : Rules) (payload : List ℕ) (before words : CFrame) (room gaps : List CGap) (stop type : ℕ)
    (result : ℤ) (ack : Ack) → result ≡ pos stop → FindsAck payload 0 stop type ack → ShowsAck stop type ack room words gaps
    → AnswersRead rules payload before room result words gaps
ack_read rules payload before words room gaps stop type result ack is finds shows =
    subst (λ (n : ℤ). AnswersRead rules payload before room n words gaps) (sym is)
    (any_read rules payload before words room gaps stop type (frames.Ack ack) (finds rules.short_types None) refl
    (omega arith) shows)

-- ---- the next frame

pub any_next : (rules : Rules) (old : CFrameIter) (payload : List ℕ) (before words : CFrame) (stop type : ℕ) (frame : Frame)
    → old.ended ≡ 0
    → ((strict : Bool) (last : Option ℕ)
    → Finds (resumed payload old.offset last strict) frame (resumed payload stop (Some type) strict))
    → breach_of rules (meaning_of frame) ≡ None → words ≡ frame_words old.offset stop type frame
    → AnswersNext rules old payload before (pos 1) (record old { offset = stop; last_type = type }) words
any_next rules old payload before words stop type frame going finds kept shows =
    let strict = has_flag 0x001 old.flags in
    let f = finds strict (type_in old.last_type) in
    let new : CFrameIter = record old { offset = stop; last_type = type } in
    let at : ℕ → Option ℕ → Bool → IterState = λ offset last is_broken. record {
      strict = strict;
      payload = payload;
      offset = offset;
      last = last;
      is_broken = is_broken;
    } in
    let on : not (old.ended == 0) ≡ false = ap (λ (n : ℕ). not (n == 0)) going in
    let here : state_of old payload ≡ resumed payload old.offset (type_in old.last_type) strict =
    ap (at old.offset (type_in old.last_type)) on in
    let fits : type < 2 ^ 16 = last_fits _ _ frame f type refl in
    let next : state_of new payload ≡ resumed payload stop (Some type) strict =
    ap (at stop (type_in type)) on ∙ ap (λ (l : Option ℕ). at stop l false) (word_back type fits) in
    let gives : GivesFrameWords rules old payload new words =
    gives_frame rules old new payload words _ _ frame type f (ap (breach_of rules) f.says ∙ kept) here next
    (last_is _ _ frame f type refl) shows in
    record {
      returns = inl refl;
      frame = λ _. gives;
      end = λ e. absurd cc;
      outside = (λ e. absurd cc, λ beyond. absurd (omega (arith, beyond, f.stands.some, f.stands.within)));
      same = inl refl;
      flags = refl;
    }

pub kind_next : (rules : Rules) (old : CFrameIter) (payload : List ℕ) (before words : CFrame) (stop type : ℕ)
    → old.ended ≡ 0 → type ≡ words.ty → ReadsFrame payload old.offset stop words
    → AnswersNext rules old payload before (pos 1) (record old { offset = stop; last_type = type }) words
kind_next rules old payload before words stop type going is r =
    subst (λ (t : ℕ). AnswersNext rules old payload before (pos 1) (record old { offset = stop; last_type = t }) words) (sym is)
    (any_next rules old payload before words stop words.ty r.frame going r.finds (r.kept rules) r.shows)

abbrev pub words_of : ℕ → ℕ → ℕ → Parts → CFrame
words_of start stop type parts = record {
  kind = parts.kind;
  ty = type;
  flags = parts.flags;
  begin = start;
  end = stop;
  data_offset = stop - parts.tail - parts.data_len;
  data_len = parts.data_len;
  numbers = parts.numbers;
}

pub ack_next : (rules : Rules) (old : CFrameIter) (payload : List ℕ) (before words : CFrame) (stop type : ℕ)
    (ack : Ack) → old.ended ≡ 0 → FindsAck payload old.offset stop type ack
    → words ≡ frame_words old.offset stop type (frames.Ack ack)
    → AnswersNext rules old payload before (pos 1) (record old { offset = stop; last_type = type }) words
ack_next rules old payload before words stop type ack going finds shows =
    any_next rules old payload before words stop type (frames.Ack ack) going finds refl shows

-- the words of an ACK whose first range, less one, is known
pub ack_shows : (start stop type first : ℕ) (ack : Ack) (parts : Parts) (words : CFrame) → stop < 2 ^ 64
    → first ≡ first_length (ranges_acked ack)
    → parts ≡ record {
      kind = 0x02;
      flags = counts_flag ack.ecn;
      tail = 2 ^ 64 - 1;
      data_len = first;
      numbers = ack.largest ∷ ack.delay ∷ counts_numbers ack.ecn;
    } → words ≡ words_of start stop type parts → words ≡ frame_words start stop type (frames.Ack ack)
ack_shows start stop type first ack parts words fits first_is parts_are shows =
    let of_first : ℕ → Parts = λ n. record {
      kind = 0x02;
      flags = counts_flag ack.ecn;
      tail = 2 ^ 64 - 1;
      data_len = n;
      numbers = ack.largest ∷ ack.delay ∷ counts_numbers ack.ecn;
    } in
    shows ∙ ap (words_of start stop type) parts_are ∙ ap (λ (n : ℕ). words_of start stop type (of_first n)) first_is
    ∙ ap (λ (n : ℕ). record (frame_words start stop type (frames.Ack ack)) { data_offset = n })
    (place_is stop (frames.Ack ack) fits)

-- nothing is left
pub spent_next : (rules : Rules) (old : CFrameIter) (payload : List ℕ) (out : CFrame) → old.offset ≡ length payload
    → AnswersNext rules old payload out (pos 0) old out
spent_next rules old payload out over = record {
  returns = inr (inl refl);
  frame = λ e. absurd cc;
  end = λ _. inr over;
  outside = (λ e. absurd cc, λ beyond. absurd (omega (arith, over, beyond)));
  same = inr (inr (refl, refl));
  flags = refl;
}
