-- What is encoded can be written.
use Rattle.std.proofs.Common.{◌≡◌, ℕ, ◌^◌, ◌<◌, Bool, true, false, List, [], ◌∷◌, length, Option, Some, None, refl, ap, arith}
use Rattle.std.proofs.lemmas.Bool.Decides.{nat_tests}
use Rattle.std.proofs.lemmas.Grind.{common_steps}
use Rattle.quic_base.specs.declared.ids.Dir.{Dir}
use Rattle.quic_base.specs.declared.ids.Dir.TheVariants.{Bi, Uni}
use Rattle.quic_base.specs.Ids.{dir_number}
use Rattle.quic_frames.specs.declared.frame.Frame.{Frame}
use Rattle.quic_frames.specs.declared.frame.Frame.TheVariants as frames
use Rattle.quic_frame_fields.specs.declared.frame.close.Close.TheVariants as closes
use Rattle.quic_frame_fields.specs.declared.frame.ack.Ack.{Ack}
use Rattle.quic_frame_fields.specs.declared.frame.ack.EcnCounts.{EcnCounts}
use Rattle.quic_frame_fields.specs.Field.{Number, Ranges}
use Rattle.quic_frame_fields.specs.Table as table
use Rattle.quic_frame_fields.specs.Table.{Row, row_of, is_open, stream_row, datagram_row}
use Rattle.quic_frame_fields.specs.Acks.{ranges_acked}
use Rattle.quic_frame_fields.specs.Payload.{IsFrame}
use Rattle.quic_frame_fields.specs.Parts.{frame_of, counts_of}
use Rattle.quic_frames.specs.Meaning.{meaning_of}
use Rattle.quic_frame_fields.specs.Shortest.{written_type}
use Rattle.quic_frame_fields.specs.Numbers.{AreNumeric}
use Rattle.quic_frame_fields.specs.Sets.{AreCounts}
use Rattle.quic_frames.specs.InRange.{HasNoTypeZero, InRange, open_data, CanStand}
use Rattle.quic_frames.proofs.LeastFrames.{FitsRow, in_row, stream_limits, datagram_limit, frame_least}

-- a frame whose data, if it has any, has its length written wherever the frame is
closed_frame : {last : Bool} {frame : Frame} → open_data frame ≡ [] → InRange frame → CanStand last frame
closed_frame {last} {frame} none r = record { in_range = r; counted = λ _. omega (arith, ap length none) }

ack_range : (last : Bool) (a : Ack) (ecn : Option EcnCounts)
    → FitsRow last (written_type last table.Ack (Number a.largest ∷ Number a.delay ∷ Ranges (ranges_acked a)
    ∷ counts_of ecn)) (frame_of table.Ack (Number a.largest ∷ Number a.delay ∷ Ranges (ranges_acked a)
    ∷ counts_of ecn))
    → AreNumeric (a.largest ∷ a.delay ∷ []) × AreCounts ecn
ack_range last a None f = let v = in_row refl f in ((v.0, (v.1.0, tt)), tt)
ack_range last a (Some counts) f =
    let v = in_row refl f in
    let c = v.1.1.1 in
    ((v.0, (v.1.0, tt)), (c.0, (c.1.0, (c.1.1.0, tt))))

max_streams_range : (last : Bool) (dir : Dir) (n : ℕ)
    → FitsRow last (written_type last table.MaxStreams (Number (dir_number dir) ∷ Number n ∷ []))
    (frame_of table.MaxStreams (Number (dir_number dir) ∷ Number n ∷ []))
    → n < 2 ^ 62
max_streams_range last Bi n f = (in_row refl f).1.0
max_streams_range last Uni n f = (in_row refl f).1.0

streams_blocked_range : (last : Bool) (dir : Dir) (n : ℕ)
    → FitsRow last (written_type last table.StreamsBlocked (Number (dir_number dir) ∷ Number n ∷ []))
    (frame_of table.StreamsBlocked (Number (dir_number dir) ∷ Number n ∷ []))
    → n < 2 ^ 62
streams_blocked_range last Bi n f = (in_row refl f).1.0
streams_blocked_range last Uni n f = (in_row refl f).1.0

pub can_stand : (last : Bool) (frame : Frame) → HasNoTypeZero frame
    → FitsRow last (written_type last (meaning_of frame).name (meaning_of frame).values) (meaning_of frame)
    → CanStand last frame
can_stand last (frames.Ack a) z f = closed_frame refl (ack_range last a a.ecn f)
can_stand last (frames.Stream s) z f =
    let v = stream_limits last s.fin s.id s.offset s.bytes.now f in record { in_range = v.0; counted = v.1 }
can_stand last (frames.MaxStreams dir count) z f = closed_frame refl (max_streams_range last dir count f)
can_stand last (frames.StreamsBlocked dir limit) z f = closed_frame refl (streams_blocked_range last dir limit f)
can_stand last (frames.Close (closes.Connection c)) z f = closed_frame refl (z, (in_row refl f).1.1.0)
can_stand last (frames.Close (closes.Application c)) z f = closed_frame refl (in_row refl f).1.0
can_stand last (frames.Datagram d) z f = record { in_range = tt; counted = datagram_limit last d.bytes.now f }
can_stand last frame z f =
    let v = in_row refl f in closed_frame refl (grind (arith, common_steps, nat_tests))

-- A frame that is encoded as the last of its payload, or not, can be written so.
pub encoded_can_stand : (last : Bool) (t : ℕ) (frame : Frame) (bytes : List ℕ) → HasNoTypeZero frame
    → IsFrame false (record { type = t; frame = meaning_of frame }) bytes → (is_open t ≡ true → last ≡ true)
    → CanStand last frame
encoded_can_stand last t frame bytes z f closed =
    can_stand last frame z (frame_least last (record { type = t; frame = meaning_of frame }) bytes f closed).fits
