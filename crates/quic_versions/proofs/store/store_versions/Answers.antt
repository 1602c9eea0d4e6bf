-- Each version is written after the one before.
use Rattle.std.proofs.Common.{ℕ, List, ◌++◌, ◌∙◌, take, ap}
use Rattle.quic_base.specs.Number.{bytes_of}
use Rattle.quic_versions.proofs.Stored.{stored_more}
use Rattle.quic_versions.proofs.store.store_versions.Goals as goal

pub loop-version-preserved : goal.loop-version-preserved
unfolding bytes_of
loop-version-preserved c =
    stored_more c.args.versions.now c.args.at c.loop-version.version-index c.loop-version.at c.store_array-at.result
    c.args.dest.now c.loop-version.dest c.store_array-at.new.bytes
    c.loop-version-test.true c.loop-version.invariant c.store_array-at.ensures.end
    (c.store_array-at.ensures.front ∙ ap (λ (xs : List ℕ). take c.loop-version.at c.loop-version.dest ++ xs)
    c.to_be_bytes.ensures) c.store_array-at.ensures.back c.store_array-at.ensures.len
