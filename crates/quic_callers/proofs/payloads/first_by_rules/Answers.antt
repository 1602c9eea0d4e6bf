use Rattle.std.proofs.Common.{Some, Ok, subst}
use Rattle.quic_frames.specs.Checking.{AdvancesBy}
use Rattle.quic_callers.proofs.payloads.first_by_rules.Goals as goal

pub returns-in-Some-Ok : goal.returns-in-Some-Ok
returns-in-Some-Ok c =
    let step : AdvancesBy c.in-Ok.frames (Some (Ok c.in-Some-Ok.frame)) c.next.new.self =
    subst (λ f. AdvancesBy c.in-Ok.frames (Some f) c.next.new.self) c.in-Some-Ok.field-0-is c.in-Some-Ok.ensures.steps in
    (c.next.new.self.place, (subst (λ s. AdvancesBy s (Some (Ok c.in-Some-Ok.frame)) c.next.new.self) c.in-Ok.ensures.first step).0)
