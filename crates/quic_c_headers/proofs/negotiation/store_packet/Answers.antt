-- What is written are the bytes of the packet.
use Rattle.std.proofs.Common.{◌≡◌, ◌≤◌, ◌∷◌, [], ◌∙◌, ℕ, List, length, take, drop, refl, ap, arith}
use Rattle.quic_base.proofs.Storing.{stays}
use Rattle.quic_c_headers.specs.Reading.{negotiation_bytes}
use Rattle.quic_c_headers.proofs.Negotiated.{bytes_stored}
use Rattle.quic_c_headers.proofs.Writing.{written}
use Rattle.quic_c_headers.proofs.negotiation.store_packet.Goals as goal

pub returns-clause-wrote : goal.returns-clause-wrote
returns-clause-wrote c =
    let bytes : List ℕ = negotiation_bytes c.args.flags c.args.dst.now c.args.src.now c.args.versions.now in
    let n : ℕ = c.store_versions.result in
    let all : List ℕ = c.store_versions.new.dest in
    let front : take n all ≡ bytes =
    bytes_stored c.args.flags c.args.dst.now c.args.src.now c.args.versions.now
    (take c.store_array-at.result c.store_array-at.new.bytes)
    (take c.store_array-at-2.result c.store_array-at-2.new.bytes)
    (take c.store_id-at.result c.store_id-at.new.dest) (take c.store_id-at-2.result c.store_id-at-2.new.dest) (take n all)
    (c.store_array-at.ensures.front ∙ ap (λ (x : ℕ). x ∷ []) c.first_word.ensures) c.store_array-at-2.ensures.front
    c.store_id-at.ensures.front c.store_id-at-2.ensures.front c.store_versions.ensures.front in
    let back : drop n all ≡ drop n c.args.dest.now =
    c.store_versions.ensures.back ∙ stays c.store_id-at-2.result n _ _ c.store_id-at-2.ensures.back (omega arith)
    ∙ stays c.store_id-at.result n _ _ c.store_id-at.ensures.back (omega arith)
    ∙ stays c.store_array-at-2.result n _ _ c.store_array-at-2.ensures.back (omega arith)
    ∙ stays c.store_array-at.result n _ _ c.store_array-at.ensures.back (omega arith) in
    let within : n ≤ length all = omega arith in
    (written n c.args.dest.now all bytes bytes within front back refl).0
