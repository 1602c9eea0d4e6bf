-- The two ends cover the bytes.
use Rattle.std.proofs.Common.{◌≡◌, ℕ, ◌+◌, ◌-◌, List, ◌++◌, length, take, refl, sym, ap, ◌∙◌, arith}
use Rattle.quic_header_encode.proofs.Stores.{both_ends}
use Rattle.quic_base.proofs.Storing.{stays}
use Rattle.quic_header_encode.proofs.fields.store_ends.Goals as goal

pub returns-clause-front : goal.returns-clause-front
returns-clause-front g c =
    let n : ℕ = g.row.N in
    let once : List ℕ = c.store_array.new.bytes in
    let twice : List ℕ = c.store_array-2.new.bytes in
    let front : List ℕ = take c.args.at c.args.out.now in
    let first : take (c.args.at + n) once ≡ front ++ take n c.args.bytes.now =
    ap (λ (i : ℕ). take i once) (sym c.store_array.ensures.end) ∙ c.store_array.ensures.front
    ∙ ap (λ (ys : List ℕ). front ++ ys) c.in-Some.ensures.cases.same in
    let last = ap (λ (i : ℕ). take i twice) (sym c.store_array-2.ensures.end) ∙ c.store_array-2.ensures.front
    ∙ ap (λ (ys : List ℕ). take (c.args.at + (length c.args.bytes.now - n)) once ++ ys) c.in-Some-last_chunk.ensures.cases.1.same in
    let end : c.store_array-2.result ≡ c.args.at + length c.args.bytes.now =
    omega (arith, c.store_array-2.ensures.end, c.in-Some-last_chunk.ensures.cases.0) in
    ap (λ (i : ℕ). take i twice) end
    ∙ both_ends n (length c.args.bytes.now) c.args.at c.args.bytes.now c.args.out.now once twice refl
    c.requires.many c.requires.covered (omega (arith, c.requires.room)) first last

pub returns-clause-back : goal.returns-clause-back
returns-clause-back g c =
    c.store_array-2.ensures.back
    ∙ stays c.store_array.result c.store_array-2.result _ _ c.store_array.ensures.back
    (omega (arith, c.requires.many, c.store_array.ensures.end, c.store_array-2.ensures.end))
