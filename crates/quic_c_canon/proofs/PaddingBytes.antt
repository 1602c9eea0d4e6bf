-- A frame of PADDING is one byte of 0.
use Rattle.std.proofs.Common.{◌≡◌, ℕ, suc, ◌<◌, Bool, [], ◌∷◌, refl}
use Rattle.quic_base.specs.Varint.{size, shortest_varint}
use Rattle.quic_frames.specs.declared.frame.Frame.TheVariants as frames
use Rattle.quic_frame_fields.specs.Shortest.{shortest_frame}
use Rattle.quic_frames.specs.Meaning.{meaning_of}
use Rattle.quic_frames.specs.Padding.{behind}
use Rattle.quic_frames.specs.IterState.{IterState}
use Rattle.quic_frames.specs.Walk.{Finds}

abbrev pub EachPads : ℕ → IterState → Type 0
EachPads count state = (k : ℕ) → k < count → Finds (behind k state) frames.Padding (behind (suc k) state)

pub padding_is : (last : Bool) → shortest_frame last (meaning_of frames.Padding) ≡ 0 ∷ []
unfolding shortest_frame shortest_varint size
padding_is last = refl
