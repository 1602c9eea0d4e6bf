-- The length is written over the bytes before the packet number.
use Rattle.std.proofs.Common.{ℕ, ◌-◌, List, [], ◌∷◌, ◌++◌, length, take, refl, sym, ap, ◌∙◌, arith}
use Rattle.quic_base.specs.Number.{bytes_of}
use Rattle.quic_header_encode.specs.Writing.{with_len}
use Rattle.quic_header_encode.proofs.Stores.{len_stored}
use Rattle.quic_header_encode.proofs.store.set_len.Goals as goal

pub returns-in-1-clause-set : goal.returns-in-1-clause-set
unfolding bytes_of
returns-in-1-clause-set c = λ _.
    let place : ℕ = c.args.place in
    let old : List ℕ = c.args.packet.now in
    let stored = c.store_array.ensures in
    len_stored 1 place c.store_array.result old c.store_array.new.bytes ((length old - place) ∷ [])
    (omega (arith, stored.end, c.in-1.is)) refl
    (stored.front ∙ ap (λ (w : ℕ). take (place - w) old ++ ((length old - place) ∷ [])) c.in-1.is) stored.back
    ∙ ap (λ (w : ℕ). with_len w place old) (sym c.in-1.is)

pub returns-in-2-clause-set : goal.returns-in-2-clause-set
unfolding bytes_of
returns-in-2-clause-set c = λ _.
    let place : ℕ = c.args.place in
    let old : List ℕ = c.args.packet.now in
    let stored = c.store_array-in-2.ensures in
    len_stored 2 place c.store_array-in-2.result old c.store_array-in-2.new.bytes (c.to_be_bytes.result)
    (omega (arith, stored.end, c.in-2.is)) c.to_be_bytes.ensures
    (stored.front ∙ ap (λ (w : ℕ). take (place - w) old ++ c.to_be_bytes.result) c.in-2.is) stored.back
    ∙ ap (λ (w : ℕ). with_len w place old) (sym c.in-2.is)

pub returns-in-4-clause-set : goal.returns-in-4-clause-set
unfolding bytes_of
returns-in-4-clause-set c = λ _.
    let place : ℕ = c.args.place in
    let old : List ℕ = c.args.packet.now in
    let stored = c.store_array-in-4.ensures in
    len_stored 4 place c.store_array-in-4.result old c.store_array-in-4.new.bytes (c.to_be_bytes-in-4.result)
    (omega (arith, stored.end, c.in-4.is)) c.to_be_bytes-in-4.ensures
    (stored.front ∙ ap (λ (w : ℕ). take (place - w) old ++ c.to_be_bytes-in-4.result) c.in-4.is) stored.back
    ∙ ap (λ (w : ℕ). with_len w place old) (sym c.in-4.is)

pub returns-in-8-clause-set : goal.returns-in-8-clause-set
unfolding bytes_of
returns-in-8-clause-set c = λ _.
    let place : ℕ = c.args.place in
    let old : List ℕ = c.args.packet.now in
    let stored = c.store_array-in-8.ensures in
    len_stored 8 place c.store_array-in-8.result old c.store_array-in-8.new.bytes (c.to_be_bytes-in-8.result)
    (omega (arith, stored.end, c.in-8.is)) c.to_be_bytes-in-8.ensures
    (stored.front ∙ ap (λ (w : ℕ). take (place - w) old ++ c.to_be_bytes-in-8.result) c.in-8.is) stored.back
    ∙ ap (λ (w : ℕ). with_len w place old) (sym c.in-8.is)
