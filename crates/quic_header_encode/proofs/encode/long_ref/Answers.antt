-- 64 bytes are enough for a header without a token.
use Rattle.std.proofs.Common.{◌+◌, [], length, arith}
use Rattle.quic_header_encode.specs.Writing.{padded_id}
use Rattle.quic_header_encode.proofs.Sizes.{room_few, stored_within}
use Rattle.quic_header_encode.proofs.encode.long_ref.Goals as goal

pub returns-clause-room : goal.returns-clause-room
returns-clause-room c =
    let k = c.long_kind.result in
    let dst = padded_id c.padded.result in
    let src = padded_id c.padded-2.result in
    record {
      whole = omega (
        arith,
        stored_within k 192 c.args.version dst src [] c.args.number.now 2 c.padded.ensures.few
            c.padded-2.ensures.few,
      );
      dst = omega (arith, room_few k 1 6);
      src = omega (arith, room_few k 0 (7 + length dst + 20), c.padded.ensures.few);
    }
