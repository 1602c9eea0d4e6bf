-- What is written for frames is read back as these frames.
use Rattle.std.proofs.Common.{◌≡◌, ◌≢◌, length, ap, ℕ, ◌^◌, ◌<◌, Bool, true, false, List, [], ◌∷◌, map, Option, Some, None, refl, sym, subst, ◌∙◌, arith}
use Rattle.std.proofs.lemmas.Bool.Decides.{nat_tests}
use Rattle.std.proofs.lemmas.Grind.{common_steps}
use Rattle.std.proofs.lemmas.List.{length-append}
use Rattle.quic_base.specs.declared.ids.Dir.{Dir}
use Rattle.quic_base.specs.declared.ids.Dir.TheVariants.{Bi, Uni}
use Rattle.quic_base.specs.Ids.{dir_number}
use Rattle.quic_frames.specs.declared.frame.Frame.{Frame}
use Rattle.quic_frames.specs.declared.frame.Frame.TheVariants as frames
use Rattle.quic_frame_fields.specs.declared.frame.close.Close.{Close}
use Rattle.quic_frame_fields.specs.declared.frame.close.Close.TheVariants as closes
use Rattle.quic_frame_fields.specs.declared.frame.ack.Ack.{Ack}
use Rattle.quic_frame_fields.specs.declared.frame.ack.EcnCounts.{EcnCounts}
use Rattle.quic_frame_fields.specs.Field.{Value, Number, Ranges, AreApart}
use Rattle.quic_frame_fields.specs.Table as table
use Rattle.quic_frame_fields.specs.Table.{Name, Row, row_of, is_open}
use Rattle.quic_frame_fields.specs.Acks.{ranges_acked}
use Rattle.quic_frame_fields.specs.Parts.{frame_of, counts_of}
use Rattle.quic_frames.specs.Meaning.{meaning_of}
use Rattle.quic_frame_fields.specs.Payload.{IsFrame, AreFrames}
use Rattle.quic_frame_fields.specs.Shortest.{written_type, shortest_frame}
use Rattle.quic_frames.specs.Least.{is_end, shortest_frames, as_written, all_written}
use Rattle.std.specs.declared.ops.Range.{Range}
use Rattle.quic_ranges.specs.Runs.{IsMaximalRuns, member}
use Rattle.quic_frame_fields.specs.Sets.{ends_of, ranges_in, greatest_in, ack_of, AreCounts}
use Rattle.quic_frame_fields.proofs.Sets.{are_apart, is_greatest}
use Rattle.quic_frames.specs.InRange.{InRange, IsTypedFrame, AreTyped, CanStand, CanFollow}
use Rattle.quic_frame_fields.proofs.Steps.{true_is_not_false}
use Rattle.quic_frame_fields.proofs.Apart.{acked_apart}
use Rattle.quic_frames.proofs.LeastFields.{FitBlocks, AllFit, blocks_fit}
use Rattle.quic_frames.proofs.LeastFrames.{FitsRow, frame_encoded, stream_row_fits, datagram_row_fits}
use Rattle.quic_frames.proofs.LeastPayloads.{FitRows, frames_encoded}

-- a frame whose type is that of a row
of_row : {last : Bool} {t : ℕ} {r : Row} {values : List Value} → t < 2 ^ 62 → is_open t ≡ false → row_of t ≡ Some r
    → AllFit r.fields [] values → FitsRow last t (frame_of r.name values)
of_row {r} lt is_closed in_table fields =
    record {
      small = lt;
      closed = λ opens. absurd (true_is_not_false (sym opens ∙ is_closed));
      row = r;
      in_table = in_table;
      name = refl;
      fields = fields;
    }

ranges_fit : (a : Ack) → a.largest < 2 ^ 62 → FitBlocks a.largest (ranges_acked a)
ranges_fit a lt =
    let d = acked_apart a.largest a.additional.now a.valid in
    let apart : AreApart (d.first ∷ d.others) = subst AreApart d.are d.apart in
    let fits : FitBlocks d.first.1 (d.first ∷ d.others) =
    blocks_fit d.first d.others (omega (arith, d.top, lt)) apart in
    subst (FitBlocks a.largest) (sym d.are) (subst (λ (n : ℕ). FitBlocks n (d.first ∷ d.others)) d.top fits)

pub ack_row_fits : (last : Bool) (greatest delay : ℕ) (ranges : List (ℕ × ℕ)) (counts : Option EcnCounts)
    → greatest < 2 ^ 62 → delay < 2 ^ 62 → FitBlocks greatest ranges → AreCounts counts
    → FitsRow last (written_type last table.Ack (Number greatest ∷ Number delay ∷ Ranges ranges ∷ counts_of counts))
    (frame_of table.Ack (Number greatest ∷ Number delay ∷ Ranges ranges ∷ counts_of counts))
ack_row_fits last greatest delay ranges None high late blocks e =
    of_row (omega arith) refl refl (high, (late, (blocks, refl)))
ack_row_fits last greatest delay ranges (Some counts) high late blocks e =
    of_row (omega arith) refl refl (high, (late, (blocks, (e.0, (e.1.0, (e.1.1.0, refl))))))

close_fits : (last : Bool) (c : Close) → IsTypedFrame (frames.Close c) → InRange (frames.Close c)
    → FitsRow last (written_type last (meaning_of (frames.Close c)).name (meaning_of (frames.Close c)).values) (meaning_of (frames.Close c))
close_fits last (closes.Connection c) t r = of_row (omega arith) refl refl (t.0, (t.1.0, (r.1, refl)))
close_fits last (closes.Application c) t r = of_row (omega arith) refl refl (t, (r, refl))

max_streams_fit : (last : Bool) (dir : Dir) (n : ℕ) → n < 2 ^ 62
    → FitsRow last (written_type last table.MaxStreams (Number (dir_number dir) ∷ Number n ∷ []))
    (frame_of table.MaxStreams (Number (dir_number dir) ∷ Number n ∷ []))
max_streams_fit last Bi n lt = of_row (omega arith) refl refl (refl, (lt, refl))
max_streams_fit last Uni n lt = of_row (omega arith) refl refl (refl, (lt, refl))

streams_blocked_fit : (last : Bool) (dir : Dir) (n : ℕ) → n < 2 ^ 62
    → FitsRow last (written_type last table.StreamsBlocked (Number (dir_number dir) ∷ Number n ∷ []))
    (frame_of table.StreamsBlocked (Number (dir_number dir) ∷ Number n ∷ []))
streams_blocked_fit last Bi n lt = of_row (omega arith) refl refl (refl, (lt, refl))
streams_blocked_fit last Uni n lt = of_row (omega arith) refl refl (refl, (lt, refl))

-- a frame that can be written fits the row of the type by which it is written
pub frame_fits : (last : Bool) (frame : Frame) → IsTypedFrame frame → CanStand last frame
    → FitsRow last (written_type last (meaning_of frame).name (meaning_of frame).values) (meaning_of frame)
frame_fits last (frames.Ack a) t c =
    let r = c.in_range in
    ack_row_fits last a.largest a.delay (ranges_acked a) a.ecn r.0.0 r.0.1.0 (ranges_fit a r.0.0) r.1
frame_fits last (frames.Stream s) t c = stream_row_fits last s.fin s.id s.offset s.bytes.now t c.in_range c.counted
frame_fits last (frames.MaxStreams dir count) t c = max_streams_fit last dir count c.in_range
frame_fits last (frames.StreamsBlocked dir limit) t c = streams_blocked_fit last dir limit c.in_range
frame_fits last (frames.Close d) t c = close_fits last d t c.in_range
frame_fits last (frames.Datagram d) t c = datagram_row_fits last d.bytes.now c.counted
frame_fits last frame t c =
    let r = c.in_range in of_row (omega arith) refl refl (grind (arith, common_steps, nat_tests))

-- What is written for a frame is read back as this frame.
pub frame_read_back : (strict last : Bool) (frame : Frame) → IsTypedFrame frame → CanStand last frame
    → IsFrame strict (as_written last (meaning_of frame)) (shortest_frame last (meaning_of frame))
frame_read_back strict last frame t c = frame_encoded strict last (meaning_of frame) (frame_fits last frame t c)

end_of_map : (fs : List Frame) → is_end fs ≡ is_end (map meaning_of fs)
end_of_map [] = refl
end_of_map (frame ∷ fs) = refl

frames_fit : (fs : List Frame) → AreTyped fs → CanFollow fs → FitRows (map meaning_of fs)
frames_fit [] t c = tt
frames_fit (frame ∷ fs) t c = (
  frame_fits (is_end (map meaning_of fs)) frame t.0 (subst (λ (last : Bool). CanStand last frame) (end_of_map fs)
      c.0),
  frames_fit fs t.1 c.1,
)

pub frames_read_back : (strict : Bool) (fs : List Frame) → AreTyped fs → CanFollow fs
    → AreFrames strict (all_written (map meaning_of fs)) (shortest_frames (map meaning_of fs))
frames_read_back strict fs t c = frames_encoded strict (map meaning_of fs) (frames_fit fs t c)

-- An ACK of a set is read back as that.
ranges_of_set : (ranges : List (ℕ × ℕ)) → ranges ≢ [] → greatest_in ranges < 2 ^ 62 → AreApart ranges
    → FitBlocks (greatest_in ranges) ranges
ranges_of_set [] some lt apart = absurd (some refl)
ranges_of_set (range ∷ ranges) some lt apart = blocks_fit range ranges lt apart

some_ranges : (runs : List (Range ℕ)) → runs ≢ [] → ranges_in runs ≢ []
some_ranges [] some none = some refl
some_ranges (run ∷ runs) some none =
    absurd (omega (arith, ap length none, length-append (ranges_in runs) (ends_of run ∷ [])))

pub set_read_back : (strict last : Bool) (delay : ℕ) (runs : List (Range ℕ)) (counts : Option EcnCounts)
    → IsMaximalRuns runs → runs ≢ [] → ((n : ℕ) → member runs n ≡ true → n < 2 ^ 62) → delay < 2 ^ 62 → AreCounts counts
    → IsFrame strict (as_written last (ack_of delay runs counts)) (shortest_frame last (ack_of delay runs counts))
set_read_back strict last delay runs counts maximal some members late e =
    let ranges = ranges_in runs in
    let greatest = is_greatest runs some maximal in
    let high = members (greatest_in ranges) greatest.present in
    frame_encoded strict last (ack_of delay runs counts)
    (ack_row_fits last (greatest_in ranges) delay ranges counts high late
    (ranges_of_set ranges (some_ranges runs some) high (are_apart runs maximal)) e)
