use mir.Val.{bool_byte}
use Rattle.std.proofs.Common.{◌≡◌, ℕ, ◌-◌, Bool, true, false, eqb, bit_and, [], ◌∷◌, ◌∙◌, length, refl, ap, sym, subst, arith}
use Rattle.std.specs.Prelude.{not, if◌then◌else◌}
use Rattle.quic_frame_fields.proofs.Rows.{row_of_stream}
use Rattle.quic_c_words.specs.declared.words.CFrame.{CFrame}
use Rattle.quic_c.specs.Kinds.{ReadsFrame}
use Rattle.quic_c.proofs.FastData.{data_words, stream_reads}
use Rattle.quic_c.proofs.fast.StreamKind.read.Goals as goal

flag_is : (b : Bool) → bool_byte b ≡ (if b then 1 else 0)
flag_is true = refl
flag_is false = refl

pub returns-clause-answers : goal.returns-clause-answers
returns-clause-answers c =
    let payload = c.args.payload.now in
    let begin = c.args.begin in
    let ty = c.in_ok-ty.ty in
    let h = c.in_ok-ty.ensures.parts in
    let kind = c.requires.begins _ _ h.parts in
    let stop = length payload - length c.in_ok-sent.rest.now in
    let fin = not (eqb (bit_and ty 1) 0) in
    let words = ap (λ (w : CFrame). record w { kind = 0x08; flags = c.from-fin.result }) c.put_data.ensures
    ∙ ap (λ (n : ℕ). data_words 8 ty n begin stop (length c.in_ok-sent.sent.now) (c.in_ok-id.id ∷ c.in_ok-offset.offset ∷ 0 ∷ 0 ∷ 0 ∷ []))
    (c.from-fin.ensures ∙ flag_is fin) in
    subst (ReadsFrame payload begin stop) (sym words)
    (stream_reads payload begin ty c.in_ok-id.id c.in_ok-offset.offset (not (eqb (bit_and ty 4) 0))
    (not (eqb (bit_and ty 2) 0)) fin _ _ _ c.in_ok-sent.rest.now c.in_ok-sent.sent h (omega (arith, kind.1))
    (row_of_stream ty kind.0 kind.1) c.in_ok-id.ensures.read c.in_ok-offset.ensures.read c.in_ok-sent.ensures.read
    (omega arith))
