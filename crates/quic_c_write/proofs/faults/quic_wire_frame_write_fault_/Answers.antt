use Rattle.std.proofs.Common.{ℕ, false, Option, subst, inr}
use Rattle.quic_frame_fields.specs.Shortest.{shortest_frame}
use Rattle.quic_frames.specs.Meaning.{meaning_of}
use Rattle.quic_c_write.specs.Faults.{IsWriteFault, data_at, token_at}
use Rattle.quic_c_words.specs.Shown.{is_last}
use Rattle.quic_c_write.proofs.FirstFaults.{can_write_none, found_is, not_none}
use Rattle.quic_c_write.proofs.faults.quic_wire_frame_write_fault_.Goals as goal

pub returns-in_default-clause-none : goal.returns-in_default-clause-none
returns-in_default-clause-none c = λ _.
    let w = c.args.frame.now in
    let p = c.args.payload.now in
    let found = c.fault_of-fault.ensures.found (data_at w p) (token_at w p) c.is_whole-whole.ensures c.has_token-token.ensures in
    subst (λ (o : Option ℕ). IsWriteFault w p (is_last c.args.flags) o) c.in_default.is
    (found_is w p c.is_whole-whole.result c.is_last-last.result (is_last c.args.flags) c.fault_of-fault.result
    c.is_whole-whole.ensures c.is_last-last.ensures found (c.fault_of-fault.ensures.fits (data_at w p) (token_at w p)))

pub returns-clause-field : goal.returns-clause-field
returns-clause-field c =
    let w = c.args.frame.now in
    let p = c.args.payload.now in
    let found = c.fault_of-fault.ensures.found (data_at w p) (token_at w p) c.is_whole-whole.ensures c.has_token-token.ensures in
    inr (subst (λ (o : Option ℕ). IsWriteFault w p (is_last c.args.flags) o) c.in-Some.is
    (found_is w p c.is_whole-whole.result c.is_last-last.result (is_last c.args.flags) c.fault_of-fault.result
    c.is_whole-whole.ensures c.is_last-last.ensures found (c.fault_of-fault.ensures.fits (data_at w p) (token_at w p))))

pub returns-clause-refused : goal.returns-clause-refused
returns-clause-refused c =
    let w = c.args.frame.now in
    let p = c.args.payload.now in
    let last = is_last c.args.flags in
    let found = c.fault_of-fault.ensures.found (data_at w p) (token_at w p) c.is_whole-whole.ensures c.has_token-token.ensures in
    let is = found_is w p c.is_whole-whole.result c.is_last-last.result last c.fault_of-fault.result
    c.is_whole-whole.ensures c.is_last-last.ensures found (c.fault_of-fault.ensures.fits (data_at w p) (token_at w p)) in
    inr (λ frame can.
    not_none c.fault_of-fault.result c.in-Some.index c.in-Some.is
    (can_write_none w p last frame (shortest_frame last (meaning_of frame)) c.fault_of-fault.result can
    (c.read_back.ensures.one false last frame can.typed can.stands).0 is))
