-- The parts are written one after another.
use Rattle.std.proofs.Common.{ℕ, ◌∙◌, ◌+◌, ◌%◌, take, arith}
use Rattle.quic_negotiation.proofs.Made.{whole}
use Rattle.quic_base.proofs.Storing.{stays}
use Rattle.quic_versions.specs.Versions.{version_bytes}
use Rattle.quic_negotiation.proofs.answer.store_packet.Goals as goal

pub returns-clause-front : goal.returns-clause-front
returns-clause-front c =
    whole (0x80 + c.args.first % 0x80) c.args.dst.now c.args.src.now (version_bytes c.args.versions.now)
    (take c.store_array-at.result c.store_array-at.new.bytes) (take c.store_id-at.result c.store_id-at.new.dest)
    (take c.store_id-at-2.result c.store_id-at-2.new.dest) (take c.store_versions.result c.store_versions.new.dest)
    c.store_array-at.ensures.front c.store_id-at.ensures.front c.store_id-at-2.ensures.front
    c.store_versions.ensures.front

pub returns-clause-back : goal.returns-clause-back
returns-clause-back c =
    let n : ℕ = c.store_versions.result in
    c.store_versions.ensures.back ∙ stays c.store_id-at-2.result n _ _ c.store_id-at-2.ensures.back (omega arith)
    ∙ stays c.store_id-at.result n _ _ c.store_id-at.ensures.back (omega arith)
    ∙ stays c.store_array-at.result n _ _ c.store_array-at.ensures.back (omega arith)
