-- The payload is added to, and the tag goes after it.
use Rattle.std.proofs.Common.{◌≡◌, ◌-◌, ◌%◌, ℕ, List, length, take, map, arith, ◌∙◌}
use Rattle.std.specs.Prelude.{slice_range}
use Rattle.std.proofs.lemmas.List.{length-take, length-map}
use Rattle.std.proofs.lemmas.List.Edits.{length-between}
use Rattle.quic_bench.specs.Add.{add_byte}
use Rattle.quic_bench.proofs.Ends.{put_mid-then_end}
use Rattle.quic_bench.proofs.add.AddKeyPacketKey.encrypt.Goals as goal

pub returns : goal.returns
returns c =
    let xs : List ℕ = c.args.packet.now in
    let h : ℕ = c.args.header_len in
    let part : List ℕ = slice_range xs h (length xs - 2) in
    let front_len : length (take h xs) ≡ h = omega (arith, length-take h xs) in
    let part_len : length part ≡ length xs - 2 - h = length-between xs h (length xs - 2) (omega arith) in
    rw (front_len, part_len, c.copy_from_slice.ensures.after, c.add_all.ensures)
    (put_mid-then_end xs (map (add_byte (c.args.number % 256)) part) _ h c.requires
    (length-map part (add_byte (c.args.number % 256)) ∙ part_len))
