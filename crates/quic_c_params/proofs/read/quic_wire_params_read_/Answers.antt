-- What the side rejects is reported.
use Rattle.std.proofs.Common.{◌≡◌, Err, inr, of_z, refl, rules, subst, to_z, w32}
use Rattle.quic_params.specs.Meaning.{IsReadAnswer}
use Rattle.quic_params.specs.Refusal.{IsPlacedAnswer}
use Rattle.quic_params.specs.declared.options.ReadOptions.{ReadOptions}
use Rattle.quic_c_params.specs.Answers.{failure_of}
use Rattle.quic_results.specs.Results.{failed}
use Rattle.quic_c_params.proofs.read.quic_wire_params_read_.Goals as goal

pub returns-in-Err : goal.returns-in-Err
returns-in-Err c =
    let number : to_z w32 (of_z w32 c.number-in-Err.result) ≡ failed (failure_of c.in-Err.refused.error) = search rules in
    inr (inr (
      c.in-Err.refused,
      number,
      record {
        reader = c.in-Some.reader;
        is_side = c.in-Some.ensures;
        answer = subst (λ (o : ReadOptions). IsReadAnswer o c.in-Some.reader c.args.bytes.now (Err c.in-Err.refused.error))
            c.options_of.ensures c.in-Err.ensures.meant;
        place = subst (λ (o : ReadOptions). IsPlacedAnswer o c.in-Some.reader c.args.bytes.now (Err c.in-Err.refused))
            c.options_of.ensures c.in-Err.ensures.place;
      },
      refl,
      c.refusal_words.ensures,
    ))
