use Rattle.std.proofs.Common.{rules, ap, sym, ◌∙◌, subst, Ok}
use Rattle.quic_params.specs.Meaning.{IsReadAnswer}
use Rattle.quic_params.specs.Options.{as_quinn}
use Rattle.quic_params.specs.Range.{IsRecordInRange}
use Rattle.quic_params.specs.Writing.{written}
use Rattle.quic_params.specs.declared.record.TransportParameters.{TransportParameters}
use Rattle.quic_c_params.specs.Shown.{params_words}
use Rattle.quic_c_params.specs.Written.{DescribesParams}
use Rattle.quic_c_params.proofs.DescribedParams.{plain_is, plain_of}
use Rattle.quic_c_params.proofs.write.described.Goals.{then-not-same_words-via-then-not-same_words, then-not-same_words-via-else-not-same_words+then-not-in_range}
use Rattle.quic_c_params.proofs.write.described.Goals as goal

pub returns-then-not-same_words-clause-none : goal.returns-then-not-same_words-clause-none
returns-then-not-same_words-clause-none c = λ _ p says range.
    let same = c.record_in-params.ensures.described p (plain_of c.args.side c.args.words.now p says range) in
    elim c.then-not-same_words.branch [
      | then-not-same_words-via-then-not-same_words w ↦
          (let yes = c.same_words.ensures.1 (says.words_are ∙ ap params_words (sym same) ∙ sym c.show.ensures) in
          search (rules, yes, w.if-not-same_words))
      | then-not-same_words-via-else-not-same_words+then-not-in_range w ↦
          (let yes = w.in_range.ensures.1 (subst (IsRecordInRange c.args.side) (sym same) range) in
          search (rules, yes, w.if-not-in_range))
    ]

pub returns-clause-some : goal.returns-clause-some
returns-clause-some c =
    let p : TransportParameters = c.record_in-params.result in
    let says : DescribesParams c.args.words.now p = search rules in
    let range : IsRecordInRange c.args.side p = search rules in (
      says,
      range,
      subst (λ (q : TransportParameters). IsReadAnswer as_quinn c.args.side (written p) (Ok q))
          (plain_is p c.record_in-params.ensures.no_grease c.record_in-params.ensures.no_order)
          (c.read_back.ensures.own as_quinn c.args.side p c.type_bounds-2.ensures range),
    )
