use Rattle.std.proofs.Common.{[], arith}
use Rattle.quic_header_encode.specs.declared.long_type.HeaderKind.TheVariants as kinds
use Rattle.quic_header_encode.specs.Writing.{padded_id}
use Rattle.quic_header_encode.proofs.Sizes.{stored_length, number_few}
use Rattle.quic_header_encode.proofs.encode.short_ref.Goals as goal

pub returns-clause-room : goal.returns-clause-room
returns-clause-room c =
    let number = c.args.number.now in
    let size =
    stored_length kinds.Short c.short_first.result 0 (padded_id c.padded.result) (padded_id c.padded-2.result) [] number 2 in
    record {
      whole = omega (arith, size, c.padded.ensures.few, number_few number);
      dst = omega arith;
      src = omega arith;
    }
