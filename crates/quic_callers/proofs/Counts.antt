-- The data of the STREAMs that came.
use Rattle.std.proofs.Common.{◌≡◌, ℕ, ◌+◌, ◌-◌, ◌^◌, min, List, [], ◌∷◌, ◌++◌, length, false, refl, ap, ◌∙◌, arith}
use Rattle.std.proofs.lemmas.List.Sums.{sum_by_push}
use Rattle.quic_callers.specs.Data.{data_len, stream_len, streams_len}
use Rattle.quic_frames.proofs.Turns.{HasRead, has_read_none, has_read_more, has_read_all}
use Rattle.quic_frame_fields.specs.Payload.{Meaning, TypedFrame, AreFrames}
use Rattle.quic_frame_fields.specs.declared.frame.close.Close.TheVariants as closes
use Rattle.quic_frame_fields.specs.declared.frame.Stream.{Stream}
use Rattle.quic_frames.specs.declared.frame.Frame.{Frame}
use Rattle.quic_frames.specs.declared.frame.Frame.TheVariants as frames
use Rattle.quic_frames.specs.Meaning.{meaning_of}
use Rattle.quic_frames.specs.Walk.{first_of, Finds, IsSpent}
use Rattle.quic_frames.specs.IterState.{IterState}

-- the greatest count
abbrev pub most : ℕ
most = 2 ^ 64 - 1

-- Frames came, and so many bytes of their data were counted.
pub record IsCounted (payload : List ℕ) (state : IterState) (n : ℕ) : Type 0 where
  pub found : List TypedFrame
  pub read : HasRead false payload found state
  pub count : n ≡ min (streams_len found) most

pub counted_first : (payload : List ℕ) (state : IterState) → state ≡ first_of false payload → IsCounted payload state 0
counted_first payload state e = record { found = []; read = has_read_none false payload state e; count = refl }

-- the data of a frame that came
came_len : (found : TypedFrame) (frame : Frame) → found.frame ≡ meaning_of frame
    → stream_len found ≡ data_len (meaning_of frame).name (meaning_of frame).values
came_len found frame says = ap (λ (m : Meaning). data_len m.name m.values) says

other_len : (frame : Frame) → ((s : Stream) → frame ≡ frames.Stream s → ⊥)
    → data_len (meaning_of frame).name (meaning_of frame).values ≡ 0
other_len (frames.Stream s) other = absurd (other s refl)
other_len (frames.Close (closes.Connection c)) other = refl
other_len (frames.Close (closes.Application c)) other = refl
other_len frame other = refl

more : (found : List TypedFrame) (one : TypedFrame) (n m len : ℕ) → n ≡ min (streams_len found) most
    → stream_len one ≡ len → m ≡ min (n + len) most
    → m ≡ min (streams_len (found ++ one ∷ [])) most
more found one n m len so_far is then = omega (arith, so_far, is, then, sum_by_push stream_len found one)

pub counted_other : (payload : List ℕ) (state next : IterState) (frame : Frame) (n : ℕ) → IsCounted payload state n
    → Finds state frame next
    → ((s : Stream) → frame ≡ frames.Stream s → ⊥) → IsCounted payload next n
counted_other payload state next frame n w f other = record {
  found = w.found ++ f.found ∷ [];
  read = has_read_more false payload w.found state next frame w.read f;
  count = more w.found f.found n n 0 w.count (came_len f.found frame f.says ∙ other_len frame other) (omega (arith, w.count));
}

pub counted_stream : (payload : List ℕ) (state next : IterState) (frame : Frame) (s : Stream) (n m : ℕ)
    → IsCounted payload state n
    → Finds state frame next → frame ≡ frames.Stream s
    → m ≡ min (n + length s.bytes.now) most → IsCounted payload next m
counted_stream payload state next frame s n m w f is then = record {
  found = w.found ++ f.found ∷ [];
  read = has_read_more false payload w.found state next frame w.read f;
  count = more w.found f.found n m (length s.bytes.now) w.count
      (came_len f.found frame f.says ∙ ap (λ (x : Frame). data_len (meaning_of x).name (meaning_of x).values) is) then;
}

-- nothing is left, and no frame was invalid: all data were counted
pub all_counted : (payload : List ℕ) (state : IterState) (n : ℕ) → IsCounted payload state n → IsSpent state
    → (found : List TypedFrame) × AreFrames false found payload × (n ≡ min (streams_len found) most)
all_counted payload state n w spent =
    (w.found, has_read_all false payload w.found state w.read spent, w.count)
