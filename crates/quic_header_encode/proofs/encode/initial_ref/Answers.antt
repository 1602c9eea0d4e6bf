-- A short token has at most 32 bytes.
use Rattle.std.proofs.Common.{◌≡◌, ◌<◌, length, arith}
use Rattle.quic_base.specs.Varint.{size}
use Rattle.quic_header_encode.specs.declared.long_type.HeaderKind.TheVariants as kinds
use Rattle.quic_header_encode.specs.Writing.{padded_id}
use Rattle.quic_header_encode.proofs.Stores.{size_small}
use Rattle.quic_header_encode.proofs.Sizes.{number_few, stored_length}
use Rattle.quic_header_encode.proofs.encode.initial_ref.Goals as goal

pub returns-clause-room : goal.returns-clause-room
returns-clause-room c = λ short.
    let few : length c.as_slice.result.now < 64 = omega (arith, short) in
    let one : size (length c.as_slice.result.now) ≡ 1 = size_small (length c.as_slice.result.now) few in
    let dst = padded_id c.padded.result in
    let src = padded_id c.padded-2.result in
    let all =
    stored_length kinds.Initial 192 c.args.initial.now.version dst src c.as_slice.result.now c.args.initial.now.number 2 in
    record {
      whole = omega (arith, short, one, all, number_few c.args.initial.now.number, c.padded.ensures.few, c.padded-2.ensures.few);
      dst = omega arith;
      src = omega (arith, c.padded.ensures.few);
    }
