use Rattle.std.specs.Prelude.{None}
use Rattle.quic_frames.proofs.Checks.{one_checked, few_checked}
use Rattle.quic_frames.proofs.frame.iter.Iter.with_rules.Goals as goal

pub returns-in_err-iter-clause-one : goal.returns-in_err-iter-clause-one
returns-in_err-iter-clause-one c = one_checked c.args.rules None c.args.payload.now (λ i. (c.type_inv.payload i).fits)

pub returns-in_err-iter-clause-few : goal.returns-in_err-iter-clause-few
returns-in_err-iter-clause-few c =
    λ reading is. few_checked c.args.rules c.args.payload.now reading (λ i. (c.type_inv.payload i).fits) is

pub returns-clause-one : goal.returns-clause-one
returns-clause-one c = one_checked c.args.rules None c.args.payload.now (λ i. (c.type_inv.payload i).fits)

pub returns-clause-few : goal.returns-clause-few
returns-clause-few c =
    λ reading is. few_checked c.args.rules c.args.payload.now reading (λ i. (c.type_inv.payload i).fits) is
