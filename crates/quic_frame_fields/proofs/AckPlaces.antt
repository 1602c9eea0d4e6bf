-- The blocks of an ACK in the bytes of its frame.
use Rattle.std.proofs.Common.{◌≡◌, ℕ, ◌+◌, ◌-◌, ◌≤◌, List, [], ◌∷◌, ◌++◌, length, take, drop, Ok, refl, sym, ap, subst, ◌∙◌, append_assoc, arith}
use Rattle.std.proofs.lemmas.List.{append-nil, length-append, length-take, take-append-drop, take_at}
use Rattle.quic_base.specs.Number.{AreBytes}
use Rattle.quic_base.proofs.PublicLaws.{back_bytes}
use Rattle.quic_base.specs.Varint.{Encodes}
use Rattle.quic_frame_fields.specs.declared.frame.ack.Ack.{Ack}
use Rattle.quic_frame_fields.specs.AckPlace.{BlocksStand, ReadsBlocks}
use Rattle.quic_frame_fields.specs.Acks.{parts_of, ranges_acked}
use Rattle.quic_frame_fields.specs.Field.{AreBlocks}
use Rattle.quic_frame_fields.specs.Numbers.{AreEncoded}
use Rattle.quic_frame_fields.specs.Reading.{varint_at, blocks_at}
use Rattle.quic_frame_fields.proofs.Varints.{varint_takes}
use Rattle.quic_frame_fields.proofs.Blocks.{blocks_take, read_again}

-- Four numbers, the last of which counts the ranges below the first, in front of the blocks and a rest.
record HasHeader (bytes : List ℕ) (type largest delay : ℕ) (blocks rest : List ℕ) : Type 0 where
  ranges : List (ℕ × ℕ)
  header : List ℕ
  parts : bytes ≡ header ++ (blocks ++ rest)
  numbers : AreEncoded (type ∷ largest ∷ delay ∷ (length ranges - 1) ∷ []) header
  encoded : AreBlocks largest ranges blocks

header_read : (bytes a b c : List ℕ) (type largest delay : ℕ) (blocks rest : List ℕ) → AreBytes bytes
    → varint_at bytes ≡ Ok (type, a) → varint_at a ≡ Ok (largest, b) → varint_at b ≡ Ok (delay, c)
    → blocks_at largest c ≡ Ok (blocks, rest) → HasHeader bytes type largest delay blocks rest
header_read bytes a b c type largest delay blocks rest fits one two three four =
    let t = varint_takes bytes type a fits one in
    let fits1 = back_bytes t.front a (subst AreBytes t.split fits) in
    let l = varint_takes a largest b fits1 two in
    let fits2 = back_bytes l.front b (subst AreBytes l.split fits1) in
    let d = varint_takes b delay c fits2 three in
    let fits3 = back_bytes d.front c (subst AreBytes d.split fits2) in
    let k = blocks_take largest c blocks rest fits3 four in
    let count : length k.ranges ≡ length (k.range ∷ k.ranges) - 1 = omega arith in
    let last : c ≡ k.count_bytes ++ (blocks ++ rest) = k.parts ∙ append_assoc k.count_bytes blocks rest in
    let third : b ≡ (d.front ++ k.count_bytes) ++ (blocks ++ rest) =
    d.split ∙ ap (λ (m : List ℕ). d.front ++ m) last ∙ sym (append_assoc d.front k.count_bytes (blocks ++ rest)) in
    let second : a ≡ (l.front ++ (d.front ++ k.count_bytes)) ++ (blocks ++ rest) =
    l.split ∙ ap (λ (m : List ℕ). l.front ++ m) third
    ∙ sym (append_assoc l.front (d.front ++ k.count_bytes) (blocks ++ rest)) in
    let whole : k.count_bytes ≡ k.count_bytes ++ [] = sym (append-nil k.count_bytes) in
    let counted : Encodes (length (k.range ∷ k.ranges) - 1) k.count_bytes =
    subst (λ (n : ℕ). Encodes n k.count_bytes) count k.count in
    record {
      ranges = k.range ∷ k.ranges;
      header = t.front ++ (l.front ++ (d.front ++ k.count_bytes));
      parts = t.split ∙ ap (λ (m : List ℕ). t.front ++ m) second
          ∙ sym (append_assoc t.front (l.front ++ (d.front ++ k.count_bytes)) (blocks ++ rest));
      numbers = (
        t.front,
        l.front ++ (d.front ++ k.count_bytes),
        refl,
        t.is,
        (
          l.front,
          d.front ++ k.count_bytes,
          refl,
          l.is,
          (d.front, k.count_bytes, refl, d.is, (k.count_bytes, [], whole, counted, refl)),
        ),
      );
      encoded = k.blocks;
    }

-- ---- the blocks of an ACK in its frame

-- of two ways to cut bytes, what is in front of the longer rest begins what is in front of the shorter
front_of : (front left header rest : List ℕ) → front ++ left ≡ header ++ rest → length left ≤ length rest
    → front ≡ header ++ take (length rest - length left) rest
front_of front left header rest e fewer =
    let back = take (length rest - length left) rest in
    let over = drop (length rest - length left) rest in
    let whole : front ++ left ≡ (header ++ back) ++ over =
    e ∙ ap (λ (l : List ℕ). header ++ l) (sym (take-append-drop (length rest - length left) rest))
    ∙ sym (append_assoc header back over) in
    let sizes : length front + length left ≡ length header + length rest =
    sym (length-append front left) ∙ ap length e ∙ length-append header rest in
    let long : length (header ++ back) ≡ length front =
    omega (arith, length-append header back, length-take (length rest - length left) rest, sizes) in
    sym (take_at front left (length front) refl) ∙ ap (take (length front)) whole
    ∙ take_at (header ++ back) over (length front) long

-- the blocks that are read from a frame's bytes are there
pub stand_in_frame : (type : ℕ) (ack : Ack) (bytes behind front left : List ℕ) → AreBytes bytes
    → varint_at bytes ≡ Ok (type, behind) → ReadsBlocks (parts_of ack) behind left → bytes ≡ front ++ left
    → BlocksStand type ack front
stand_in_frame type ack bytes behind front left fits e r cut =
    let a = parts_of ack in
    let h =
    header_read bytes behind r.behind_largest r.behind_delay type a.largest a.delay a.additional r.behind_blocks fits e
    r.largest r.delay r.blocks in
    let back : List ℕ = take (length r.behind_blocks - length left) r.behind_blocks in
    let here : front ≡ (h.header ++ a.additional) ++ back =
    front_of front left (h.header ++ a.additional) r.behind_blocks
    (sym cut ∙ h.parts ∙ sym (append_assoc h.header a.additional r.behind_blocks)) r.fewer in
    let ranges : ranges_acked ack ≡ h.ranges = (read_again a.largest h.ranges a.additional h.encoded).1 in
    record {
      header = h.header;
      back = back;
      parts = here ∙ append_assoc h.header a.additional back;
      numbers = subst (λ (rs : List (ℕ × ℕ)). AreEncoded (type ∷ a.largest ∷ a.delay ∷ (length rs - 1) ∷ []) h.header)
          (sym ranges) h.numbers;
    }
