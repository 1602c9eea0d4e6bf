use Rattle.std.proofs.Common.{arith, refl}
use Rattle.quic_base.proofs.Words.{by_shifts}
use Rattle.quic_base.proofs.varint.number_of_word.Goals as goal

pub returns-clause-encoded : goal.returns-clause-encoded
returns-clause-encoded c =
    (by_shifts c.from_be_bytes-word.result _ c.args.front.now c.told-front c.fits-front c.from_be_bytes-word.ensures refl).0

pub returns-clause-width : goal.returns-clause-width
returns-clause-width c =
    (by_shifts c.from_be_bytes-word.result _ c.args.front.now c.told-front c.fits-front c.from_be_bytes-word.ensures refl).1

pub overflow_sub-result : goal.overflow_sub-result
overflow_sub-result c =
    omega (arith, (by_shifts c.from_be_bytes-word.result _ c.args.front.now c.told-front c.fits-front c.from_be_bytes-word.ensures refl).1)
