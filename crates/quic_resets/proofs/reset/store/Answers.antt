-- The first byte, the others, the token.
use Rattle.std.proofs.Common.{◌≡◌, ◌∙◌, ◌++◌, ◌≤◌, ℕ, List, length, take, ap, sym, arith}
use Rattle.quic_resets.specs.Resets.{reset_bytes}
use Rattle.quic_resets.proofs.Made.{made, short, whole}
use Rattle.quic_base.proofs.Storing.{stays}
use Rattle.quic_resets.proofs.reset.store.Goals as goal

pub returns-clause-front : goal.returns-clause-front
returns-clause-front c =
    whole c.in_ok-first.first.now c.in_ok-first.rest.now c.args.token.now c.as_slice.result.now
    (take c.store_array-at.result c.store_array-at.new.bytes) (take c.store_bytes-at.result c.store_bytes-at.new.dest)
    (take c.store_bytes.result c.store_bytes.new.dest) c.store_array-at.ensures.front c.store_bytes-at.ensures.front
    c.as_slice.ensures.value c.store_bytes.ensures.front
    ∙ ap (λ (xs : List ℕ). reset_bytes xs c.args.token.now) (sym c.in_ok-first.ensures.cases.0)

pub returns-clause-reset : goal.returns-clause-reset
returns-clause-reset c =
    let width : length c.args.token.now ≡ 16 = ap length (sym c.as_slice.ensures.value) ∙ c.as_slice.ensures.width in
    let long : 4 ≤ length c.in_ok-first.rest.now = omega (arith, ap length c.in_ok-first.ensures.cases.0) in
    made c.in_ok-first.first.now c.in_ok-first.rest.now c.args.token.now _ width long
    (whole c.in_ok-first.first.now c.in_ok-first.rest.now c.args.token.now c.as_slice.result.now
    (take c.store_array-at.result c.store_array-at.new.bytes) (take c.store_bytes-at.result c.store_bytes-at.new.dest)
    (take c.store_bytes.result c.store_bytes.new.dest) c.store_array-at.ensures.front c.store_bytes-at.ensures.front
    c.as_slice.ensures.value c.store_bytes.ensures.front)

pub returns-clause-short : goal.returns-clause-short
returns-clause-short c =
    short c.in_ok-first.first.now (c.in_ok-first.rest.now ++ c.args.token.now) _
    (whole c.in_ok-first.first.now c.in_ok-first.rest.now c.args.token.now c.as_slice.result.now
    (take c.store_array-at.result c.store_array-at.new.bytes) (take c.store_bytes-at.result c.store_bytes-at.new.dest)
    (take c.store_bytes.result c.store_bytes.new.dest) c.store_array-at.ensures.front c.store_bytes-at.ensures.front
    c.as_slice.ensures.value c.store_bytes.ensures.front)

pub returns-clause-back : goal.returns-clause-back
returns-clause-back c =
    let n : ℕ = c.store_bytes.result in
    c.store_bytes.ensures.back ∙ stays c.store_bytes-at.result n _ _ c.store_bytes-at.ensures.back (omega arith)
    ∙ stays c.store_array-at.result n _ _ c.store_array-at.ensures.back (omega arith)
