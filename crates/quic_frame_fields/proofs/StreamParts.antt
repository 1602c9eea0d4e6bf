-- A STREAM as its header and its data.
use Rattle.std.proofs.Common.{◌≡◌, ℕ, Bool, Option, true, false, List, [], ◌∷◌, ◌++◌, length, Some, None, ◌+◌, arith, refl, ap, ◌∙◌, eqb, append_assoc}
use Rattle.std.specs.Prelude.{not, if◌then◌else◌}
use Rattle.std.specs.Bool.{then_some}
use Rattle.std.proofs.lemmas.List.{append-nil, length-append}
use Rattle.quic_base.specs.Varint.{shortest_varint, size}
use Rattle.quic_base.proofs.PublicLaws.{length-short}
use Rattle.quic_frame_fields.specs.Field.{Number, Bytes}
use Rattle.quic_frame_fields.specs.Table.{Stream}
use Rattle.quic_frame_fields.specs.Parts.{frame_of, flag}
use Rattle.quic_frame_fields.specs.Shortest.{shortest_frame, stream_header, written_offset}

by_cases : (b last fin : Bool) (id offset : ℕ) (bytes : List ℕ) → eqb offset 0 ≡ b
    → stream_header id offset fin (if last then None else Some (length bytes)) ++ bytes
    ≡ shortest_frame last (frame_of Stream (flag fin ∷ Number id ∷ Number offset ∷ Bytes bytes ∷ []))
unfolding shortest_frame
by_cases true true true id offset bytes e = rw e (simp (append_assoc, append-nil))
by_cases true true false id offset bytes e = rw e (simp (append_assoc, append-nil))
by_cases true false true id offset bytes e = rw e (simp (append_assoc, append-nil))
by_cases true false false id offset bytes e = rw e (simp (append_assoc, append-nil))
by_cases false true true id offset bytes e = rw e (simp (append_assoc, append-nil))
by_cases false true false id offset bytes e = rw e (simp (append_assoc, append-nil))
by_cases false false true id offset bytes e = rw e (simp (append_assoc, append-nil))
by_cases false false false id offset bytes e = rw e (simp (append_assoc, append-nil))

pub stream_parts : (last fin : Bool) (id offset : ℕ) (bytes : List ℕ)
    → stream_header id offset fin (if last then None else Some (length bytes)) ++ bytes
    ≡ shortest_frame last (frame_of Stream (flag fin ∷ Number id ∷ Number offset ∷ Bytes bytes ∷ []))
stream_parts last fin id offset bytes = by_cases (eqb offset 0) last fin id offset bytes refl

-- the same, with the length as code has it
pub stream_parts_as : (last fin : Bool) (id offset : ℕ) (bytes : List ℕ) (counted : Option ℕ)
    → counted ≡ then_some (not last) (length bytes)
    → stream_header id offset fin counted ++ bytes ≡ shortest_frame last
    (frame_of Stream (flag fin ∷ Number id ∷ Number offset ∷ Bytes bytes ∷ []))
stream_parts_as true fin id offset bytes counted e =
    ap (λ (n : Option ℕ). stream_header id offset fin n ++ bytes) e ∙ stream_parts true fin id offset bytes
stream_parts_as false fin id offset bytes counted e =
    ap (λ (n : Option ℕ). stream_header id offset fin n ++ bytes) e ∙ stream_parts false fin id offset bytes

-- ---- how many bytes they have

open_type : (has_no_offset ends : Bool) → size (0x08 + (if has_no_offset then 0 else 4) + (if ends then 1 else 0)) ≡ 1
unfolding size
open_type true true = refl
open_type true false = refl
open_type false true = refl
open_type false false = refl

counted_type : (has_no_offset ends : Bool)
    → size (0x08 + (if has_no_offset then 0 else 4) + (if ends then 1 else 0) + 2) ≡ 1
unfolding size
counted_type true true = refl
counted_type true false = refl
counted_type false true = refl
counted_type false false = refl

offset_length : (b : Bool) (offset : ℕ)
    → length (if b then [] else shortest_varint offset) ≡ (if b then 0 else size offset)
offset_length true offset = refl
offset_length false offset = length-short offset

pub stream_length : (last fin : Bool) (id offset : ℕ) (bytes : List ℕ)
    → length (shortest_frame last (frame_of Stream (flag fin ∷ Number id ∷ Number offset ∷ Bytes bytes ∷ [])))
    ≡ 1 + size id + (if eqb offset 0 then 0 else size offset) + (if last then 0 else size (length bytes)) + length bytes
stream_length true fin id offset bytes =
    let t = 0x08 + (if eqb offset 0 then 0 else 4) + (if eqb (if fin then 1 else 0) 1 then 1 else 0) in
    let back = written_offset offset in
    omega (
      arith,
      ap length (stream_parts true fin id offset bytes),
      length-append (stream_header id offset fin None) bytes,
      length-append (shortest_varint t) (shortest_varint id ++ back),
      length-append (shortest_varint id) back,
      length-short t,
      length-short id,
      open_type (eqb offset 0) (eqb (if fin then 1 else 0) 1),
      offset_length (eqb offset 0) offset,
    )
stream_length false fin id offset bytes =
    let t = 0x08 + (if eqb offset 0 then 0 else 4) + (if eqb (if fin then 1 else 0) 1 then 1 else 0) + 2 in
    let n = length bytes in
    let back = written_offset offset ++ shortest_varint n in
    omega (
      arith,
      ap length (stream_parts false fin id offset bytes),
      length-append (stream_header id offset fin (Some n)) bytes,
      length-append (shortest_varint t) (shortest_varint id ++ back),
      length-append (shortest_varint id) back,
      length-append (written_offset offset) (shortest_varint n),
      length-short t,
      length-short id,
      length-short n,
      counted_type (eqb offset 0) (eqb (if fin then 1 else 0) 1),
      offset_length (eqb offset 0) offset,
    )
