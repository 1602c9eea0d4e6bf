use Rattle.std.proofs.Common.{◌≡◌, length, rules, arith, refl}
use Rattle.std.proofs.lemmas.Grind.{common_steps}
use Rattle.quic_base.specs.Number as number
use Rattle.quic_tls.proofs.Nonces.{joined_is}
use Rattle.quic_tls.proofs.nonce.nonce.Goals as goal

pub returns : goal.returns
unfolding number.bytes_of
returns c =
    let twelve : length c.args.iv ≡ 12 = first_of (omega arith, search rules, grind (arith, common_steps)) in
    rw (c.to_be_bytes.ensures) (joined_is c.args.iv 12 twelve refl _ _ _ _ _ _ _ _)
