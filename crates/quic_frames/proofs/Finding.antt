-- What a decoder consumes for a type, and what reading finds.
use Rattle.std.proofs.Common.{rules, arith, ◌≡◌, ◌≤◌, ◌+◌, ◌*◌, ◌/◌, ◌%◌, ◌^◌, ℕ, suc, [], ◌∷◌, ◌-◌, Bool, true, false, cond, ltb, List, length, take, drop, Option, None, Ok, Err, Some, refl, sym, ap, subst}
use Rattle.std.proofs.lemmas.List.{length-drop}
use Rattle.quic_base.specs.Number.{num}
use Rattle.quic_base.specs.Varint.{size}
use Rattle.quic_frame_fields.specs.declared.frame.fault.Fault.{Fault}
use Rattle.quic_frame_fields.specs.declared.frame.fault.Fault.TheVariants.{UnexpectedEnd, LongType}
use Rattle.quic_frame_fields.specs.Payload.{Meaning}
use Rattle.quic_frame_fields.specs.Reading.{frame_at, invalid, is_long_type, found_at, row_at, varint_at, blocks_at, or_end}
use Rattle.quic_base.specs.Reading.{number_at}
use Rattle.quic_frame_fields.specs.AckPlace.{ReadsBlocks}
use Rattle.quic_frame_fields.specs.Acks.{AckParts}
use Rattle.quic_frame_fields.specs.declared.frame.ack.EcnCounts.{EcnCounts}
use Rattle.quic_frame_fields.proofs.Steps.{ok_is}
use Rattle.quic_frame_fields.proofs.Varints.{varint_fails}
use Rattle.quic_frames.specs.Found.{HasItsBlocks, HasItsBlocksBehind}
use Rattle.quic_frames.specs.Meaning.{meaning_of}
use Rattle.quic_frames.specs.declared.frame.Frame.{Frame}
use Rattle.quic_frames.specs.declared.frame.Frame.TheVariants as frames

-- a type that was consumed, and a frame that follows it
pub found_whole : (strict : Bool) (before : Option ℕ) (t : ℕ) (bytes rest : List ℕ) (frame : Meaning) (left : List ℕ)
    → varint_at bytes ≡ Ok (t, rest) → is_long_type strict t (length bytes - length rest) ≡ false
    → frame_at t rest ≡ Ok (frame, left)
    → found_at strict before bytes ≡ Ok (record { type = t; frame = frame }, left)
unfolding found_at
found_whole strict before t bytes rest frame left taken wide e = rw (taken, wide, e) refl

-- a type that was consumed, and no frame
pub found_none : (strict : Bool) (before : Option ℕ) (t : ℕ) (bytes rest : List ℕ) (reason : Fault)
    → varint_at bytes ≡ Ok (t, rest) → is_long_type strict t (length bytes - length rest) ≡ false
    → frame_at t rest ≡ Err reason
    → found_at strict before bytes ≡ Err (invalid (Some t) reason)
unfolding found_at
found_none strict before t bytes rest reason taken wide e = rw (taken, wide, e) refl

-- a type that was consumed, and is too long
pub found_long : (strict : Bool) (before : Option ℕ) (t : ℕ) (bytes rest : List ℕ) → varint_at bytes ≡ Ok (t, rest)
    → is_long_type strict t (length bytes - length rest) ≡ true
    → found_at strict before bytes ≡ Err (invalid (Some t) LongType)
unfolding found_at
found_long strict before t bytes rest taken wide = rw (taken, wide) refl

-- no type
pub found_cut : (strict : Bool) (before : Option ℕ) (bytes : List ℕ) (reason : Fault) → varint_at bytes ≡ Err reason
    → found_at strict before bytes ≡ Err (invalid before UnexpectedEnd)
unfolding found_at
found_cut strict before bytes reason none = rw (none, varint_fails bytes reason none) refl

zero_at : (rest : List ℕ) → number_at (0 ∷ rest) ≡ Some (0, rest)
unfolding number_at
zero_at rest = search rules

one_more : (n : ℕ) → suc n - n ≡ 1
one_more n = search rules

one_is_short : (strict : Bool) → is_long_type strict 0 1 ≡ false
unfolding size
one_is_short true = refl
one_is_short false = refl

-- a byte of PADDING
pub found_padding : (strict : Bool) (before : Option ℕ) (bytes rest : List ℕ) → bytes ≡ 0 ∷ rest
    → found_at strict before bytes ≡ Ok (record { type = 0; frame = meaning_of frames.Padding }, rest)
unfolding found_at frame_at row_at varint_at
found_padding strict before bytes rest front =
    rw (front, zero_at rest, one_more (length rest), one_is_short strict) refl

-- a type in front of the bytes in which an ACK has its blocks
pub behind_type : (type : ℕ) (frame : Frame) (bytes behind left : List ℕ) → varint_at bytes ≡ Ok (type, behind)
    → HasItsBlocks frame behind left → HasItsBlocksBehind type frame bytes left
behind_type type (frames.Ack a) bytes behind left e h = (behind, e, h)
behind_type type frame bytes behind left e h = tt

-- what follows a number is no longer than the bytes that it was read from
pub varint_shorter : (bytes : List ℕ) (n : ℕ) (rest : List ℕ) → varint_at bytes ≡ Ok (n, rest)
    → length rest ≤ length bytes
unfolding varint_at number_at
varint_shorter [] n rest e = absurd cc
varint_shorter (b ∷ bs) n rest e = by_test (ltb (length bs) more) e
  where
    more : ℕ
    more = 2 ^ (b / 64) - 1

    by_test : (t : Bool)
        → or_end {A = ℕ × List ℕ} (cond t None (Some (b % 64 * 256 ^ more + num (take more bs), drop more bs))) ≡ Ok (n, rest)
        → length rest ≤ length (b ∷ bs)
    by_test true e = absurd cc
    by_test false e =
        let same = ok_is (b % 64 * 256 ^ more + num (take more bs), drop more bs) (n, rest) e in
        let r : drop more bs ≡ rest = ap (λ (p : ℕ × List ℕ). p.1) same in
        omega (arith, ap length r, length-drop more bs)

-- the parts of an ACK, as they were read
pub reads : (a : AckParts) (largest delay : ℕ) (bytes behind_largest behind_delay additional behind_blocks left : List
    ℕ) (ecn : Option EcnCounts)
    → a ≡ record { largest = largest; delay = delay; additional = additional; ecn = ecn }
    → varint_at bytes ≡ Ok (largest, behind_largest) → varint_at behind_largest ≡ Ok (delay, behind_delay)
    → blocks_at largest behind_delay ≡ Ok (additional, behind_blocks) → length left ≤ length behind_blocks
    → ReadsBlocks a bytes left
reads a largest delay bytes behind_largest behind_delay additional behind_blocks left ecn is one two three fewer =
    subst (λ (p : AckParts). ReadsBlocks p bytes left) (sym is)
    (record {
      behind_largest = behind_largest;
      behind_delay = behind_delay;
      behind_blocks = behind_blocks;
      largest = one;
      delay = two;
      blocks = three;
      fewer = fewer;
    })
