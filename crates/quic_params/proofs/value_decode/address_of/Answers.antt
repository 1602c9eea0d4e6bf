use Rattle.std.proofs.Common.{arith, rules, refl}
use Rattle.quic_params.specs.Address.{HasNoAddress}
use Rattle.quic_params.proofs.Addresses.{address_whole, no_address, long_address}
use Rattle.quic_params.proofs.value_decode.address_of.Goals as goal

pub returns-in_default-clause-err : goal.returns-in_default-clause-err
returns-in_default-clause-err c = no_address _ (c.in_default.ensures.none refl)

pub returns-then-left-ne0-clause-err : goal.returns-then-left-ne0-clause-err
returns-then-left-ne0-clause-err c =
    let s = c.in-Some.ensures.some in
    let n : ¬ (HasNoAddress c.in-Some.address) = search rules in
    long_address c.in-Some.address _ s.0 s.1 s.2 s.3 (omega (arith, s.4)) n

pub returns-clause-ok : goal.returns-clause-ok
returns-clause-ok c =
    let s = c.in-Some.ensures.some in
    let n : ¬ (HasNoAddress c.in-Some.address) = search rules in
    address_whole c.in-Some.address _ s.0 s.1 s.2 s.3 (omega (arith, s.4)) n
