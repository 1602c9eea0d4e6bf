-- Valid ACKs.
use Rattle.std.proofs.Common.{◌≡◌, ℕ, ◌+◌, ◌-◌, ◌≤◌, Bool, true, false, List, ◌∷◌, ◌++◌, length, take, drop, Option, Some, None, Result, Ok, refl, sym, ap, subst, ◌∙◌, arith}
use Rattle.std.specs.Prelude.{nat_lt}
use Rattle.std.proofs.Math.Seq.{take-append-add}
use Rattle.std.proofs.lemmas.Bool.Decides.{nat_tests}
use Rattle.std.proofs.lemmas.List.{length-append}
use Rattle.quic_base.specs.Number.{AreBytes}
use Rattle.quic_frame_fields.specs.declared.frame.ack.Ack.{Ack}
use Rattle.quic_frame_fields.specs.declared.frame.ack.EcnCounts.{EcnCounts}
use Rattle.quic_frame_fields.specs.declared.frame.fault.Fault.{Fault}
use Rattle.quic_frame_fields.specs.Acks.{AckParts, parts_of}
use Rattle.quic_frame_fields.specs.Field.{AreBlocks, Number, Ranges}
use Rattle.quic_frame_fields.specs.Parts.{frame_of, counts_of}
use Rattle.quic_frame_fields.specs.Payload.{Meaning}
use Rattle.quic_frame_fields.specs.Table as names
use Rattle.quic_frame_fields.specs.Reading.{after_blocks, below_at, block_at, blocks_at, frame_at, gap_at, range_at, ranges_of, row_at, varint_at}
use Rattle.quic_frame_fields.proofs.Blocks.{blocks_take}
use Rattle.quic_frame_fields.proofs.Varints.{varint_again, varint_takes}
use Rattle.quic_frames.specs.declared.frame.Frame.TheVariants as frames
use Rattle.quic_frames.specs.Meaning.{meaning_of}
use Rattle.quic_frames.proofs.Finding.{reads}
use Rattle.quic_c.specs.Kinds.{FindsAck, HasType, IsAck, ReadsCounts, ack_type}
use Rattle.quic_c.proofs.FastReads.{finds_at}

-- a gap and a block that are read
pub range_reads : (low between len : ℕ) (bytes behind rest : List ℕ) → varint_at bytes ≡ Ok (between, behind)
    → varint_at behind ≡ Ok (len, rest) → between + 2 + len ≤ low
    → range_at low bytes ≡ Ok ((low - (between + 2 + len), low - (between + 2)), rest)
unfolding range_at gap_at block_at
range_reads low between len bytes behind rest first second le =
    let some : nat_lt low (between + 2) ≡ false = grind (arith, nat_tests) in
    let fits : nat_lt (low - (between + 2)) len ≡ false = grind (arith, nat_tests) in
    let least : low - (between + 2) - len ≡ low - (between + 2 + len) = omega arith in
    rw (first, some, second, fits, least) refl

-- the count of ranges below the first, the first, and these that are read
pub blocks_read : (greatest count len : ℕ) (bytes blocks behind rest : List ℕ) → varint_at bytes ≡ Ok (count, blocks)
    → varint_at blocks ≡ Ok (len, behind) → len ≤ greatest → below_at count (greatest - len) behind ≡ Ok rest
    → blocks_at greatest bytes ≡ Ok (take (length blocks - length rest) blocks, drop (length blocks - length rest) blocks)
unfolding blocks_at after_blocks block_at
blocks_read greatest count len bytes blocks behind rest first second le third =
    let fits : nat_lt greatest len ≡ false = grind (arith, nat_tests) in
    rw (first, second, fits, third) refl

pub blocks_encoded : (greatest : ℕ) (bytes back left : List ℕ) → AreBytes bytes
    → blocks_at greatest bytes ≡ Ok (back, left) → (ranges : List (ℕ × ℕ)) × AreBlocks greatest ranges back
blocks_encoded greatest bytes back left fits read =
    let t = blocks_take greatest bytes back left fits read in
    (t.range ∷ t.ranges, t.blocks)

pub blocks_shorter : (greatest : ℕ) (bytes back left : List ℕ) → AreBytes bytes
    → blocks_at greatest bytes ≡ Ok (back, left) → length left ≤ length bytes
blocks_shorter greatest bytes back left fits read =
    let t = blocks_take greatest bytes back left fits read in
    omega (
      arith,
      ap length t.parts,
      length-append (t.count_bytes ++ back) left,
      length-append t.count_bytes (back ++ left),
      length-append back left,
    )

-- the bytes of all blocks begin with the number that the bytes with them do
pub cut_reads : (bytes behind rest : List ℕ) (n : ℕ) → AreBytes bytes → varint_at bytes ≡ Ok (n, behind)
    → length rest ≤ length behind
    → varint_at (take (length bytes - length rest) bytes) ≡ Ok (n, take (length behind - length rest) behind)
cut_reads bytes behind rest n fits read fewer =
    let t = varint_takes bytes n behind fits read in
    let few = length behind - length rest in
    let len : length bytes ≡ length t.front + length behind = ap length t.split ∙ length-append t.front behind in
    let whole : length bytes - length rest ≡ length t.front + few = omega (arith, len, fewer) in
    let cut : take (length bytes - length rest) bytes ≡ t.front ++ take few behind =
    ap (λ (k : ℕ). take k bytes) whole ∙ ap (take (length t.front + few)) t.split ∙ take-append-add t.front behind few in
    ap varint_at cut ∙ varint_again n t.front (take few behind) t.is

abbrev told : List ℕ → AckParts → Result (Meaning × List ℕ) Fault
told rest p = Ok
    (frame_of names.Ack (Number p.largest ∷ Number p.delay ∷ Ranges (ranges_of p.largest p.additional) ∷ counts_of p.ecn), rest)

plain_finds : (payload : List ℕ) (start largest delay : ℕ) (fields behind counted additional rest : List ℕ) (ack : Ack)
    → HasType payload start 0x02 fields → varint_at fields ≡ Ok (largest, behind)
    → varint_at behind ≡ Ok (delay, counted) → blocks_at largest counted ≡ Ok (additional, rest)
    → parts_of ack ≡ record { largest = largest; delay = delay; additional = additional; ecn = None }
    → FindsAck payload start (length payload - length rest) 0x02 ack
unfolding frame_at row_at
plain_finds payload start largest delay fields behind counted additional rest ack h one two three parts strict last =
    finds_at strict last payload start 0x02 fields rest (frames.Ack ack) h (omega arith) is_read tt
    (reads (parts_of ack) largest delay fields behind counted additional rest rest None parts one two three (omega arith))
  where
    is_read : frame_at 0x02 fields ≡ Ok (meaning_of (frames.Ack ack), rest)
    is_read = rw (one, two, three) (ap (told rest) (sym parts))

counted_finds : (payload : List ℕ) (start largest delay : ℕ) (fields behind counted additional after rest : List ℕ)
    (counts : EcnCounts) (ack : Ack)
    → HasType payload start 0x03 fields → varint_at fields ≡ Ok (largest, behind)
    → varint_at behind ≡ Ok (delay, counted) → blocks_at largest counted ≡ Ok (additional, after)
    → ReadsCounts true after (Some counts) rest → length rest ≤ length after
    → parts_of ack ≡ record { largest = largest; delay = delay; additional = additional; ecn = Some counts }
    → FindsAck payload start (length payload - length rest) 0x03 ack
unfolding frame_at row_at
counted_finds payload start largest delay fields behind counted additional after rest counts ack h one two three read fewer parts strict last =
    finds_at strict last payload start 0x03 fields rest (frames.Ack ack) h (omega arith) is_read tt
    (reads (parts_of ack) largest delay fields behind counted additional after rest (Some counts) parts one two three fewer)
  where
    is_read : frame_at 0x03 fields ≡ Ok (meaning_of (frames.Ack ack), rest)
    is_read = rw (one, two, three, read.2, read.3, read.4) (ap (told rest) (sym parts))

pub ack_finds : (has_counts : Bool) (payload : List ℕ) (start t largest delay : ℕ)
    (fields behind counted additional after rest : List ℕ) (counts : Option EcnCounts) (ack : Ack)
    → HasType payload start t fields → IsAck has_counts t → varint_at fields ≡ Ok (largest, behind)
    → varint_at behind ≡ Ok (delay, counted) → blocks_at largest counted ≡ Ok (additional, after)
    → ReadsCounts has_counts after counts rest → length rest ≤ length after
    → parts_of ack ≡ record { largest = largest; delay = delay; additional = additional; ecn = counts }
    → FindsAck payload start (length payload - length rest) (ack_type has_counts) ack
ack_finds false payload start t largest delay fields behind counted additional after rest None ack h kind one two three read fewer parts =
    subst (λ (left : List ℕ). FindsAck payload start (length payload - length left) 0x02 ack) (sym read)
    (plain_finds payload start largest delay fields behind counted additional after ack
    (subst (λ (u : ℕ). HasType payload start u fields) kind h) one two three parts)
ack_finds true payload start t largest delay fields behind counted additional after rest (Some counts) ack h kind one two three read fewer parts =
    counted_finds payload start largest delay fields behind counted additional after rest counts ack
    (subst (λ (u : ℕ). HasType payload start u fields) kind h) one two three read fewer parts
ack_finds false payload start t largest delay fields behind counted additional after rest (Some counts) ack h kind one two three read fewer parts =
    absurd read
ack_finds true payload start t largest delay fields behind counted additional after rest None ack h kind one two three read fewer parts =
    absurd read
