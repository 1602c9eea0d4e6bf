-- Frames one after the other: the shortest of their encodings.
use Rattle.std.proofs.Common.{◌≡◌, ℕ, Bool, true, false, List, [], ◌∷◌, ◌++◌, length, map, refl, sym, ap, subst, inl, arith}
use Rattle.std.specs.Prelude.{⊤}
use Rattle.std.proofs.lemmas.List.{length-append}
use Rattle.quic_frame_fields.specs.Payload.{Meaning, TypedFrame, AreFrames}
use Rattle.quic_frame_fields.specs.Shortest.{written_type, shortest_frame}
use Rattle.quic_frames.specs.Least.{AreOrExceed, is_end, shortest_frames, frame_in, all_written}
use Rattle.quic_frames.proofs.Items.{frame_some}
use Rattle.quic_frames.proofs.LeastFields.{both_least}
use Rattle.quic_frames.proofs.LeastFrames.{FitsRow, frame_encoded, frame_least}

-- Each frame fits the row of its type, as the last or not.
abbrev pub FitRows : List Meaning → Type 0
FitRows [] = ⊤
FitRows (frame ∷ frames) =
    FitsRow (is_end frames) (written_type (is_end frames) frame.name frame.values) frame × FitRows frames

nothing_after : (frames : List Meaning) → is_end frames ≡ true → shortest_frames frames ≡ []
nothing_after [] e = refl
nothing_after (frame ∷ frames) e = absurd cc

-- Such frames are encoded by their shortest encodings.
pub frames_encoded : (strict : Bool) (frames : List Meaning) → FitRows frames
    → AreFrames strict (all_written frames) (shortest_frames frames)
frames_encoded strict [] f = refl
frames_encoded strict (frame ∷ frames) f =
    let last = is_end frames in (
      shortest_frame last frame,
      shortest_frames frames,
      refl,
      frame_encoded strict last frame f.0,
      (λ opens. nothing_after frames (f.0.closed opens)),
      frames_encoded strict frames f.1,
    )

pub frames_written : (frames : List Meaning) → map frame_in (all_written frames) ≡ frames
frames_written [] = refl
frames_written (frame ∷ frames) = ap (λ (l : List Meaning). frame ∷ l) (frames_written frames)

-- a frame with nothing after it is the last
ends_if : (others : List TypedFrame) (back : List ℕ) → AreFrames false others back → back ≡ []
    → is_end (map frame_in others) ≡ true
ends_if [] back s e = refl
ends_if (found ∷ others) back s e =
    absurd (omega (arith, frame_some false found s.0 s.3, ap length e, ap length s.2, length-append s.0 s.1))

pub record LeastFrames (frames : List Meaning) (bytes : List ℕ) : Type 0 where
  pub fit : FitRows frames
  pub least : AreOrExceed bytes (shortest_frames frames)

-- Frames that are encoded fit their rows, and no other encoding is as short as the shortest.
pub frames_least : (found : List TypedFrame) (bytes : List ℕ) → AreFrames false found bytes
    → LeastFrames (map frame_in found) bytes
frames_least [] bytes s = record { fit = tt; least = inl s }
frames_least (found ∷ others) bytes s =
    let frames = map frame_in others in
    let last = is_end frames in
    let one = frame_least last found s.0 s.3 (λ opens. ends_if others s.1 s.5 (s.4 opens)) in
    let more = frames_least others s.1 s.5 in
    let first = shortest_frame last found.frame in
    let second = shortest_frames frames in
    record {
      fit = (one.fits, more.fit);
      least = subst (λ (l : List ℕ). AreOrExceed l (first ++ second)) (sym s.2) (both_least first second s.0 s.1 one.least more.least);
    }
