-- The words of frames.
use Rattle.std.proofs.Common.{◌≡◌, ℕ, ◌-◌, ◌<◌, ◌^◌, refl, arith}
use Rattle.quic_frames.specs.declared.frame.Frame.{Frame}
use Rattle.quic_frames.specs.declared.frame.Frame.TheVariants as frames
use Rattle.quic_c_words.specs.Shown.{back_of, data_len_of, data_offset_of}

-- where data begin, by how far they end before the frame
pub place_is : (stop : ℕ) (frame : Frame) → stop < 2 ^ 64
    → stop - back_of frame - data_len_of frame ≡ data_offset_of stop frame
place_is stop (frames.Ack a) lt = omega arith
place_is stop frame lt = refl
