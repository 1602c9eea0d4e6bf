use Rattle.quic_frame_fields.proofs.ShortBlocks.{short_first}
use Rattle.quic_frame_fields.proofs.frame.field.first_range.Goals as goal

pub returns-then-all-greatest-clause-first : goal.returns-then-all-greatest-clause-first
returns-then-all-greatest-clause-first c =
    let numbers = c.in-Some.ensures in
    (short_first c.args.greatest c.in-Some.length c.in-Some.between c.in-Some.rest.now c.args.blocks.now
    (λ i. (c.type_inv.blocks i).fits) c.requires.some c.requires.valid numbers.0 numbers.1 numbers.2
    c.if-all-greatest.true).0

pub returns-then-all-greatest-clause-valid : goal.returns-then-all-greatest-clause-valid
returns-then-all-greatest-clause-valid c =
    let numbers = c.in-Some.ensures in
    (short_first c.args.greatest c.in-Some.length c.in-Some.between c.in-Some.rest.now c.args.blocks.now
    (λ i. (c.type_inv.blocks i).fits) c.requires.some c.requires.valid numbers.0 numbers.1 numbers.2
    c.if-all-greatest.true).1
