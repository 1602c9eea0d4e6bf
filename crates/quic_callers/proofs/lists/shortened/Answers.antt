use Rattle.std.proofs.Common.{◌≡◌, ◌≤◌, List, ℕ, None, length, refl, sym, ap, subst, ◌∙◌}
use Rattle.quic_params.specs.Meaning.{IsMeant}
use Rattle.quic_params.specs.Options.{as_quinn}
use Rattle.quic_params.specs.Range.{plain}
use Rattle.quic_params.specs.Writing.{written}
use Rattle.quic_params.specs.declared.record.TransportParameters.{TransportParameters}
use Rattle.quic_callers.proofs.Reread.{content_is}
use Rattle.quic_callers.proofs.lists.shortened.Goals as goal

-- a record that was read is plain
plain_is : (p : TransportParameters) → p.grease_transport_parameter ≡ None → p.write_order ≡ None → plain p ≡ p
plain_is p no_grease no_order =
    ap (λ g. record p { grease_transport_parameter = g; write_order = None }) (sym no_grease)
    ∙ ap (λ o. record p { write_order = o }) (sym no_order)

pub returns : goal.returns
returns c =
    let p = c.in-Ok.params in
    let meant = c.in-Ok.ensures.meant in
    let same = plain_is p meant.0.is_record.no_grease meant.0.is_record.no_order in
    let least =
    c.shortest.ensures.least p c.args.list.now (subst (λ q. IsMeant as_quinn q c.args.list.now) (sym same) meant.0) in
    let shorter : length (written p) ≤ length c.args.list.now =
    subst (λ q. length (written q) ≤ length c.args.list.now) same least in
    let content =
    content_is c.write.result c.in-Ok-write.field-0 _ _ c.write.new.out.items (written p) refl c.write.ensures.ok
    c.in-Ok-write.is c.new-out.ensures.items in
    (p, meant, content, subst (λ (l : List ℕ). length l ≤ length c.args.list.now) (sym content) shorter)
