use Rattle.std.proofs.Common.{◌≡◌, ◌∷◌, Ok, refl, subst, rules}
use Rattle.quic_base.specs.Number.{AreBytes}
use Rattle.quic_base.proofs.PublicLaws.{back_bytes}
use Rattle.quic_frame_fields.specs.Reading.{after_blocks, blocks_at, varint_at}
use Rattle.quic_frame_fields.proofs.Blocks.{ranges_shorter, blocks_take, blocks_valid}
use Rattle.quic_frame_fields.proofs.frame.field.blocks.Goals as goal

pub overflow_sub-bytes : goal.overflow_sub-bytes
unfolding after_blocks
overflow_sub-bytes c =
    let bytes = c.in_ok-count.bytes.now in
    let fits : AreBytes c.args.bytes.now = λ i. (c.type_inv.bytes i).fits in
    let t = c.in_ok-count.ensures.read in
    let e : after_blocks c.in_ok-count.count c.args.greatest bytes ≡ Ok c.in_ok-rest.rest.now =
    rw (c.in_ok-low.ensures.gives, c.in_ok-rest.ensures) refl in
    ranges_shorter c.in_ok-count.count c.args.greatest bytes _ (back_bytes t.front bytes (subst AreBytes t.split fits)) e

pub returns-clause-valid : goal.returns-clause-valid
unfolding blocks_at after_blocks varint_at
returns-clause-valid c =
    let e : blocks_at c.args.greatest c.args.bytes.now ≡ Ok (c.split_at.result.0.now, c.split_at.result.1.now) =
    search rules in
    blocks_valid c.args.greatest c.args.bytes.now _ _ (λ i. (c.type_inv.bytes i).fits) e

pub returns-clause-encoded : goal.returns-clause-encoded
unfolding blocks_at after_blocks varint_at
returns-clause-encoded c =
    let e : blocks_at c.args.greatest c.args.bytes.now ≡ Ok (c.split_at.result.0.now, c.split_at.result.1.now) =
    search rules in
    let t = blocks_take c.args.greatest c.args.bytes.now _ _ (λ i. (c.type_inv.bytes i).fits) e in
    (t.range ∷ t.ranges, t.blocks)
