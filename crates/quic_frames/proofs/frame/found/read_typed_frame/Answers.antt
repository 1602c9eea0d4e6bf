use Rattle.std.proofs.Common.{arith, rules, sym, ap, ◌≡◌, ◌+◌, ◌∙◌, length}
use Rattle.std.proofs.lemmas.List.{length-append}
use Rattle.quic_frame_fields.proofs.Varints.{varint_found, varint_none}
use Rattle.quic_frames.specs.Meaning.{meaning_of}
use Rattle.quic_frames.proofs.Finding.{behind_type, found_whole, found_none, found_cut, found_long}
use Rattle.std.proofs.lemmas.Grind.{common_steps}
use Rattle.quic_frames.proofs.frame.found.read_typed_frame.Goals as goal

pub overflow_sub-bytes : goal.overflow_sub-bytes
overflow_sub-bytes c =
    let taken = c.in-Ok.ensures.read in
    let total : length c.args.bytes.now ≡ length taken.front + length c.in-Ok.rest.now =
    ap length taken.split ∙ length-append taken.front c.in-Ok.rest.now in
    omega (arith, total)

pub returns-in_default-clause-gives : goal.returns-in_default-clause-gives
returns-in_default-clause-gives c =
    rw c.reason.ensures (found_cut c.args.strict c.args.last_type c.args.bytes.now _ (varint_none _ c.in_default.ensures.found))

pub returns-in-Ok-read_frame-clause-gives : goal.returns-in-Ok-read_frame-clause-gives
returns-in-Ok-read_frame-clause-gives c =
    let given = c.in-Ok-read_frame.ensures in (
      found_whole c.args.strict c.args.last_type c.of-ty.result c.args.bytes.now c.in-Ok.rest.now
          (meaning_of c.in-Ok-read_frame.frame) c.in-Ok-read_frame.rest.now (varint_found _ _ (search rules))
          (sym c.is_long.ensures ∙ c.if-is_long.false) (rw (← c.into_inner.ensures) given.0),
      given.1,
      behind_type c.of-ty.result c.in-Ok-read_frame.frame c.args.bytes.now c.in-Ok.rest.now c.in-Ok-read_frame.rest.now
          (varint_found _ _ (search rules)) given.2,
    )

pub returns-in-Err-clause-gives : goal.returns-in-Err-clause-gives
returns-in-Err-clause-gives c =
    rw c.reason-in-Err.ensures (found_none c.args.strict c.args.last_type c.of-ty.result c.args.bytes.now
    c.in-Ok.rest.now c.in-Err.fault (varint_found _ _ (search rules)) (sym c.is_long.ensures ∙ c.if-is_long.false)
    (rw (← c.into_inner.ensures) c.in-Err.ensures.0))

pub returns-then-is_long-clause-gives : goal.returns-then-is_long-clause-gives
returns-then-is_long-clause-gives c =
    rw c.reason-then-is_long.ensures (found_long c.args.strict c.args.last_type c.of-ty.result c.args.bytes.now
    c.in-Ok.rest.now (varint_found _ _ (search rules)) (sym c.is_long.ensures ∙ c.if-is_long.true))

pub returns-in-Err-clause-bytes : goal.returns-in-Err-clause-bytes
returns-in-Err-clause-bytes c = grind (arith, common_steps)

pub returns-in-Ok-read_frame-clause-bytes : goal.returns-in-Ok-read_frame-clause-bytes
returns-in-Ok-read_frame-clause-bytes c = grind (arith, common_steps)

pub returns-then-is_long-clause-bytes : goal.returns-then-is_long-clause-bytes
returns-then-is_long-clause-bytes c = grind (arith, common_steps)
