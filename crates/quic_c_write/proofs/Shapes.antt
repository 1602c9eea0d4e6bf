-- What the words of a frame of any kind but ACK are.
use Rattle.std.proofs.Common.{◌≡◌, ℕ, List, [], length, Option, None, Some, Bool, true, false, refl, sym, ◌∙◌, ap, arith}
use Rattle.std.proofs.lemmas.Grind.{common_steps}
use Rattle.std.specs.Prelude.{◌==◌, ◌&&◌, if◌then◌else◌}
use Rattle.quic_base.specs.declared.ids.Dir.TheVariants as dirs
use Rattle.quic_frame_fields.specs.declared.frame.close.Close.TheVariants as closes
use Rattle.quic_frames.specs.declared.frame.Frame.{Frame}
use Rattle.quic_frames.specs.declared.frame.Frame.TheVariants as frames
use Rattle.quic_frames.specs.InRange.{IsNoAck, IsTypedFrame, InRange}
use Rattle.quic_c_words.specs.Shown.{frame_kind_of, flags_of, frame_numbers_of, data_of, data_len_of, tail_of}
use Rattle.quic_frames.specs.Meaning.{meaning_of}
use Rattle.std.specs.List.{list_any}
use Rattle.quic_c_words.specs.Slots.{Slot, slots_of, is_data}
use Rattle.quic_c_write.specs.Shapes.{IsSound, shape_of, kept_by, kept_numbers, kept_data, token_room}

pub sound : (frame : Frame) → IsNoAck frame → IsTypedFrame frame → InRange frame
    → IsSound (frame_kind_of frame) (frame_numbers_of frame) (length (data_of frame))
sound (frames.Ack _) here typed ok = elim here [ ]
sound (frames.MaxStreams dirs.Bi count) here typed ok = grind (arith, common_steps)
sound (frames.MaxStreams dirs.Uni count) here typed ok = grind (arith, common_steps)
sound (frames.StreamsBlocked dirs.Bi limit) here typed ok = grind (arith, common_steps)
sound (frames.StreamsBlocked dirs.Uni limit) here typed ok = grind (arith, common_steps)
sound (frames.Close (closes.Connection x)) here typed ok = grind (arith, common_steps)
sound (frames.Close (closes.Application x)) here typed ok = grind (arith, common_steps)
sound frame here typed ok = grind (arith, common_steps)

-- which of its words a frame takes
pub record Keeps (frame : Frame) : Type 0 where
  pub known : shape_of (frame_kind_of frame) ≡ None → ⊥
  pub numbers : kept_numbers (shape_of (frame_kind_of frame)) (frame_numbers_of frame) ≡ frame_numbers_of frame
  pub content : kept_data (shape_of (frame_kind_of frame)) (data_of frame) ≡ data_of frame
  pub flags : ◌≡◌ {A = ℕ} (if frame_kind_of frame == 0x08 && flags_of frame == 1 then 1 else 0) (flags_of frame)
  pub tail : tail_of frame ≡ token_room (frame_kind_of frame)
  pub len : data_len_of frame ≡ length (data_of frame)

fin_kept : (fin : Bool) → ◌≡◌ {A = ℕ} (if (if fin then 1 else 0) == 1 then 1 else 0) (if fin then 1 else 0)
fin_kept true = refl
fin_kept false = refl

-- a kind is looked up once for all facts about it
none_some : (s : List Slot) → ◌≡◌ {A = Option (List Slot)} (Some s) None → ⊥
none_some s e = cc

by_slots : (frame : Frame) → shape_of (frame_kind_of frame) ≡ Some (slots_of (meaning_of frame).name)
    → kept_by (slots_of (meaning_of frame).name) (frame_numbers_of frame) ≡ frame_numbers_of frame
    → (if list_any is_data (slots_of (meaning_of frame).name) then data_of frame else []) ≡ data_of frame
    → ◌≡◌ {A = ℕ} (if frame_kind_of frame == 0x08 && flags_of frame == 1 then 1 else 0) (flags_of frame)
    → tail_of frame ≡ token_room (frame_kind_of frame) → data_len_of frame ≡ length (data_of frame) → Keeps frame
by_slots frame e numbers content flags tail len = record {
  known = λ none. none_some (slots_of (meaning_of frame).name) (sym e ∙ none);
  numbers = ap (λ (o : Option (List Slot)). kept_numbers o (frame_numbers_of frame)) e ∙ numbers;
  content = ap (λ (o : Option (List Slot)). kept_data o (data_of frame)) e ∙ content;
  flags = flags;
  tail = tail;
  len = len;
}

pub keeps : (frame : Frame) → IsNoAck frame → Keeps frame
keeps (frames.Ack _) here = elim here [ ]
keeps (frames.Stream s) here = by_slots (frames.Stream s) refl refl refl (fin_kept s.fin) refl refl
keeps (frames.MaxStreams dirs.Bi count) here = by_slots (frames.MaxStreams dirs.Bi count) refl refl refl refl refl refl
keeps (frames.MaxStreams dirs.Uni count) here = by_slots (frames.MaxStreams dirs.Uni count) refl refl refl refl refl refl
keeps (frames.StreamsBlocked dirs.Bi limit) here =
    by_slots (frames.StreamsBlocked dirs.Bi limit) refl refl refl refl refl refl
keeps (frames.StreamsBlocked dirs.Uni limit) here =
    by_slots (frames.StreamsBlocked dirs.Uni limit) refl refl refl refl refl refl
keeps (frames.Close (closes.Connection x)) here =
    by_slots (frames.Close (closes.Connection x)) refl refl refl refl refl refl
keeps (frames.Close (closes.Application x)) here =
    by_slots (frames.Close (closes.Application x)) refl refl refl refl refl refl
keeps frame here = by_slots frame refl refl refl refl refl refl

pub len_is : (frame : Frame) → IsNoAck frame → data_len_of frame ≡ length (data_of frame)
len_is frame here = (keeps frame here).len
