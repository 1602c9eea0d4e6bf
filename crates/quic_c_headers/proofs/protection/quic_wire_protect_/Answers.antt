-- What was masked is unmasked again.
use Rattle.std.proofs.Common.{◌≡◌, List, ℕ, length, ap, ◌∙◌, inr, rules}
use Rattle.quic_crypto.specs.Masks.{masked_packet, unmasked, HasNumber}
use Rattle.quic_c_headers.proofs.Masks.{masked_back}
use Rattle.quic_c_headers.proofs.protection.quic_wire_protect_.Goals as goal

pub returns-clause-back : goal.returns-clause-back
returns-clause-back c =
    let old : List ℕ = c.args.packet.now in
    let new : c.mask_number.new.packet ≡ masked_packet c.args.place c.args.mask.now old = search rules in
    let has : HasNumber c.args.place (length old) = search (rules, c.has_number.ensures, c.if-not-has_number) in
    inr (ap (unmasked c.args.place c.args.mask.now) new ∙ masked_back c.args.place c.args.mask.now old has.behind has.room)
