-- Runs of PADDING (RFC 9000, section 19.1).
use Rattle.std.specs.Prelude.{◌≡◌, ℕ, zero, suc, ◌+◌, ◌<◌, Some, false, length, slice_index}
use Rattle.quic_frames.specs.declared.frame.Frame.TheVariants as frames
use Rattle.quic_frames.specs.IterState.{IterState}
use Rattle.quic_frames.specs.Walk.{Finds}

-- the state after that many bytes of PADDING
abbrev pub behind : ℕ → IterState → IterState
behind zero state = state
behind (suc n) state = record state { offset = state.offset + suc n; last = Some 0 }

-- That many frames of PADDING come next, a byte each, and then no byte of 0.
pub record PassesPadding (old : IterState) (count : ℕ) (new : IterState) : Type 0 where
  pub each : (k : ℕ) → k < count → Finds (behind k old) frames.Padding (behind (suc k) old)
  pub comes : new ≡ behind count old
  pub over : new.is_broken ≡ false → new.offset < length new.payload → 0 < slice_index new.payload new.offset
