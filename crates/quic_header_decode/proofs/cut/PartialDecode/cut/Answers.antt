-- The packet ends where its header says.
use Rattle.std.proofs.Common.{◌≡◌, ℕ, ◌+◌, length, drop, Option, sym, ap, ◌∙◌, arith, length-drop}
use Rattle.std.specs.Prelude.{unwrap_or}
use Rattle.std.proofs.lemmas.List.{length-take}
use Rattle.bytes.specs.Filled.{Filled}
use Rattle.quic_header_decode.specs.declared.protected.ProtectedHeader.{ProtectedHeader}
use Rattle.quic_header_decode.proofs.Cuts.{header_read, cut_read, cut_shown}
use Rattle.std.proofs.lemmas.Grind.{common_steps}
use Rattle.quic_header_decode.proofs.cut.PartialDecode.cut.Goals as goal

pub returns-then-len-remaining-clause-exact : goal.returns-then-len-remaining-clause-exact
returns-then-len-remaining-clause-exact g c =
    let kept : c.decode_header-read.new.buf.bytes.items ≡ c.new-buf.result.bytes.items =
    ap (λ (f : Filled). f.items) c.decode_header-read.ensures.bytes in
    let whole : c.new-buf.result.bytes.items ≡ c.args.bytes.items =
    ap (λ (f : Filled). f.items) c.new-buf.ensures.bytes in
    let inner : c.into_inner-datagram.result.items ≡ c.decode_header-read.new.buf.bytes.items =
    ap (λ (f : Filled). f.items) c.into_inner-datagram.ensures.value in
    let h : ProtectedHeader = c.in-Ok.plain_header in
    let stop : ℕ = c.decode_header-read.new.buf.position in
    let remaining : ℕ = c.remaining-remaining.result in
    let len : ℕ = c.unwrap_or-len.result in
    let sum : stop + remaining ≡ length c.args.bytes.items =
    c.remaining-remaining.ensures.within ∙ ap length (kept ∙ whole) in
    let len_is = c.unwrap_or-len.ensures ∙ ap (λ (o : Option ℕ). unwrap_or o remaining) c.payload_len.ensures in
    let ends : stop + len ≡ length c.into_inner-datagram.result.items =
    omega (arith, c.remaining-remaining.ensures.within, c.if-len-remaining.true, ap length inner) in
    cut_read _ c.args.bytes.items stop remaining len h
    (header_read _ c.args.bytes.items c.new-buf.result.bytes.items c.decode_header-read.new.buf.bytes.items
    c.new-buf.result.position stop h whole c.new-buf.ensures.start kept c.in-Ok.ensures.exact)
    sum len_is (omega (arith, c.if-len-remaining.true))
    ∙ cut_shown h stop c.position-position.result (stop + len) (length c.into_inner-datagram.result.items)
    (sym c.position-position.ensures.value) ends

pub split_to-requires : goal.split_to-requires
split_to-requires g c =
    let inner : c.into_inner-datagram.result.items ≡ c.decode_header-read.new.buf.bytes.items =
    ap (λ (f : Filled). f.items) c.into_inner-datagram.ensures.value in
    omega (arith, c.remaining-remaining.ensures.within, c.position-position.ensures.value, c.if-remaining-len.false, ap length inner)

pub returns-in-Ok-split_to-clause-exact : goal.returns-in-Ok-split_to-clause-exact
returns-in-Ok-split_to-clause-exact g c =
    let kept : c.decode_header-read.new.buf.bytes.items ≡ c.new-buf.result.bytes.items =
    ap (λ (f : Filled). f.items) c.decode_header-read.ensures.bytes in
    let whole : c.new-buf.result.bytes.items ≡ c.args.bytes.items =
    ap (λ (f : Filled). f.items) c.new-buf.ensures.bytes in
    let inner : c.into_inner-datagram.result.items ≡ c.decode_header-read.new.buf.bytes.items =
    ap (λ (f : Filled). f.items) c.into_inner-datagram.ensures.value in
    let h : ProtectedHeader = c.in-Ok.plain_header in
    let stop : ℕ = c.decode_header-read.new.buf.position in
    let place : ℕ = c.position-position.result in
    let remaining : ℕ = c.remaining-remaining.result in
    let len : ℕ = c.unwrap_or-len.result in
    let sum : stop + remaining ≡ length c.args.bytes.items =
    c.remaining-remaining.ensures.within ∙ ap length (kept ∙ whole) in
    let len_is = c.unwrap_or-len.ensures ∙ ap (λ (o : Option ℕ). unwrap_or o remaining) c.payload_len.ensures in
    let ends : stop + len ≡ length c.in-Ok-split_to.packet.items =
    omega (
      arith,
      c.remaining-remaining.ensures.within,
      c.position-position.ensures.value,
      c.if-remaining-len.false,
      length-take (place + len) c.into_inner-datagram.result.items,
      ap length inner,
      ap length c.in-Ok-split_to.ensures.front,
    ) in
    cut_read _ c.args.bytes.items stop remaining len h
    (header_read _ c.args.bytes.items c.new-buf.result.bytes.items c.decode_header-read.new.buf.bytes.items
    c.new-buf.result.position stop h whole c.new-buf.ensures.start kept c.in-Ok.ensures.exact)
    sum len_is c.if-remaining-len.false
    ∙ cut_shown h stop place (stop + len) (length c.in-Ok-split_to.packet.items) (sym c.position-position.ensures.value) ends

pub returns-in-Ok-split_to-clause-rest : goal.returns-in-Ok-split_to-clause-rest
returns-in-Ok-split_to-clause-rest g c =
    let kept : c.decode_header-read.new.buf.bytes.items ≡ c.new-buf.result.bytes.items =
    ap (λ (f : Filled). f.items) c.decode_header-read.ensures.bytes in
    let whole : c.new-buf.result.bytes.items ≡ c.args.bytes.items =
    ap (λ (f : Filled). f.items) c.new-buf.ensures.bytes in
    let inner : c.into_inner-datagram.result.items ≡ c.decode_header-read.new.buf.bytes.items =
    ap (λ (f : Filled). f.items) c.into_inner-datagram.ensures.value in
    let place : ℕ = c.position-position.result in
    let len : ℕ = c.unwrap_or-len.result in
    let ends : length c.in-Ok-split_to.packet.items ≡ place + len =
    omega (
      arith,
      c.remaining-remaining.ensures.within,
      c.position-position.ensures.value,
      c.if-remaining-len.false,
      length-take (place + len) c.into_inner-datagram.result.items,
      ap length inner,
      ap length c.in-Ok-split_to.ensures.front,
    ) in (
      c.in-Ok-split_to.ensures.rest.0 ∙ ap (drop (place + len)) (inner ∙ kept ∙ whole)
          ∙ ap (λ (n : ℕ). drop n c.args.bytes.items) (sym ends),
      omega (
        arith,
        c.remaining-remaining.ensures.within,
        c.position-position.ensures.value,
        c.if-remaining-len.false,
        c.if-len-remaining.false,
        ends,
        ap length (kept ∙ whole),
        length-drop (length c.in-Ok-split_to.packet.items) c.args.bytes.items,
      ),
    )

pub invariant_of-front : goal.invariant_of-front
invariant_of-front g c = grind (arith, common_steps)

pub returns-then-len-remaining-clause-packet : goal.returns-then-len-remaining-clause-packet
returns-then-len-remaining-clause-packet g c = grind (arith, common_steps)

pub returns-then-len-remaining-clause-rest : goal.returns-then-len-remaining-clause-rest
returns-then-len-remaining-clause-rest g c = grind (arith, common_steps)
