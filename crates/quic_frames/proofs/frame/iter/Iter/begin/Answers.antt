use Rattle.std.proofs.Common.{arith, rules, refl}
use Rattle.std.specs.Prelude.{None}
use Rattle.quic_frames.proofs.Readings.{one_reading, few_items}
use Rattle.std.proofs.lemmas.Grind.{common_steps}
use Rattle.quic_frames.proofs.frame.iter.Iter.begin.Goals as goal

pub returns : goal.returns
returns c = record {
  empty = search rules;
  refusal = search rules;
  first = search rules;
  one = one_reading c.args.strict None c.args.payload.now (λ i. (c.type_inv.payload i).fits);
  gives = λ reading is. record { goes_on = refl; reads = is };
  few = λ reading is. few_items c.args.strict c.args.payload.now reading (λ i. (c.type_inv.payload i).fits) is;
}

pub returns-then-is_empty : goal.returns-then-is_empty
returns-then-is_empty c = record {
  empty = grind (arith, common_steps);
  refusal = search rules;
  first = tt;
  one = one_reading c.args.strict None c.args.payload.now (λ i. (c.type_inv.payload i).fits);
  gives = tt;
  few = λ reading is. few_items c.args.strict c.args.payload.now reading (λ i. (c.type_inv.payload i).fits) is;
}
