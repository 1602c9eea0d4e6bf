use Rattle.std.proofs.Common.{◌≡◌, length, rules, arith}
use Rattle.std.proofs.lemmas.Grind.{common_steps}
use Rattle.std.specs.Prelude.{slice_index_or}
use Rattle.std.specs.Int.Bits.{bit_or}
use Rattle.quic_c_write.proofs.PlainFrames.{wrote_if}
use Rattle.quic_c_write.proofs.write_numbers.write_numbers.Goals as goal

pub returns-clause-wrote : goal.returns-clause-wrote
returns-clause-wrote c =
    let flags : c.args.words.now.flags ≡ 0 = omega arith in
    let none : c.args.words.now.data_len ≡ 0 = omega arith in
    let zero : bit_or (slice_index_or c.args.words.now.numbers 3 0) (slice_index_or c.args.words.now.numbers 4 0) ≡ 0 =
    omega arith in
    let five : length c.args.words.now.numbers ≡ 5 =
    first_of (omega (arith, c.type_inv.words), search rules, grind (arith, common_steps)) in
    wrote_if c.args.words.now c.args.out.now c.put_kind.new.out c.put_kind.result flags none five zero c.put_kind.ensures.wrote
