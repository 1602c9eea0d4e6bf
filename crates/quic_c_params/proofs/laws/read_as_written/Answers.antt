-- What is written of a struct is read as that struct.
use Rattle.std.specs.Prelude.{◌⊎◌}
use Rattle.std.proofs.Common.{rules, ◌≡◌, ◌∙◌, pos, ℕ, ℤ, ◌<◌, List, ◌++◌, take, drop, Result, Ok, Err, refl, sym, ap, subst, arith, inl, inr, w32, to_z, of_z}
use Rattle.std.proofs.Math.Seq.{take-append_seam}
use Rattle.quic_base.specs.declared.ids.Side.{Side}
use Rattle.quic_base.specs.declared.ids.Side.TheVariants.{Client, Server}
use Rattle.quic_params.specs.Meaning.{IsReadAnswer}
use Rattle.quic_params.specs.Range.{IsRecordInRange, IsTypedRecord, plain}
use Rattle.quic_params.specs.Writing.{written}
use Rattle.quic_params.specs.declared.error.Error.{Error}
use Rattle.quic_params.specs.declared.error.Refusal.{Refusal}
use Rattle.quic_params.specs.declared.options.ReadOptions.{ReadOptions}
use Rattle.quic_params.specs.declared.record.TransportParameters.{TransportParameters}
use Rattle.quic_c_params.specs.Answers.{IsSide, failure_of, options_of, refusal_words, GivesParams, RefusesList}
use Rattle.quic_c_params.specs.Shown.{params_words}
use Rattle.quic_c_params.specs.Written.{WroteParams}
use Rattle.quic_c_params.specs.declared.words.CParams.{CParams}
use Rattle.quic_c_params.specs.declared.words.CRefusal.{CRefusal}
use Rattle.quic_results.specs.Results.{failed}
use Rattle.quic_results.specs.declared.results.Failure.TheVariants as failure
use Rattle.quic_c_params.proofs.laws.read_as_written.Goals as goal

same_side : (side : ℕ) (one other : Side) → IsSide side one → IsSide side other → one ≡ other
same_side side Client Client is is' = refl
same_side side Client Server is is' = absurd (omega arith)
same_side side Server Client is is' = absurd (omega arith)
same_side side Server Server is is' = refl

no_side : (side : ℕ) (reader : Side) → IsSide side reader → ¬ (1 < side)
no_side side Client is above = omega arith
no_side side Server is above = omega arith

abbrev Read : Type 0
Read = Result TransportParameters Error

params_is : (a b : TransportParameters) → (let r : Read = Ok a in r) ≡ Ok b → a ≡ b
params_is a b e = cc

read_or : (a : TransportParameters) (e : Error) → (let r : Read = Ok a in r) ≡ Err e → ⊥
read_or a e is = cc

abbrev OneAnswer : Type 0
OneAnswer =
    (options : ReadOptions) (side : Side) (bytes : List ℕ) (one other : Read)
    → IsReadAnswer options side bytes one → IsReadAnswer options side bytes other → one ≡ other

abbrev ReadBack : Type 0
ReadBack =
    (options : ReadOptions) (side : Side) (params : TransportParameters) → IsTypedRecord params
    → IsRecordInRange side params → IsReadAnswer options side (written params) (Ok (plain params))

abbrev IsRead : ℕ → List ℕ → ℤ → CParams → CParams → CRefusal → CRefusal → Type 0
IsRead side bytes result old new before after =
    (result ≡ pos 0) × GivesParams side 0x3ef bytes new × (after ≡ before)
    ⊎ (result ≡ failed failure.Kind) × (1 < side) × (new ≡ old) × (after ≡ before)
    ⊎ ((refused : Refusal) × (result ≡ failed (failure_of refused.error)) × RefusesList side 0x3ef bytes refused
    × (new ≡ old) × (after ≡ refusal_words refused))

read_same : (side : ℕ) (words old new : CParams) (dest after : List ℕ) (size : ℕ) (result : ℤ) (refusal refused : CRefusal)
    → OneAnswer → ReadBack → WroteParams side words dest after size
    → IsRead side (take size after) result old new refusal refused
    → (result ≡ pos 0) × (new ≡ words) × (refused ≡ refusal)
read_same side words old new dest after size result refusal refused one back wrote read =
    let reader = wrote.can.reader in
    let bytes : take size after ≡ written wrote.params =
    ap (take size) wrote.front ∙ ap (λ (n : ℕ). take n (written wrote.params ++ drop size dest)) wrote.count_is
    ∙ take-append_seam (written wrote.params) (drop size dest) in
    let right = back (options_of 0x3ef) reader wrote.params wrote.can.described.typed wrote.can.in_range in
    elim read [
      | inl found ↦ (
        found.0,
        (let gives = found.1 in
            let answer =
            subst (λ (s : Side). IsReadAnswer (options_of 0x3ef) s (written wrote.params) (Ok gives.params))
            (same_side side gives.reader reader gives.is_side wrote.can.is_side)
            (subst (λ (xs : List ℕ). IsReadAnswer (options_of 0x3ef) gives.reader xs (Ok gives.params)) bytes gives.answer) in
            let same =
            params_is gives.params (plain wrote.params)
            (one (options_of 0x3ef) reader (written wrote.params) (Ok gives.params) (Ok (plain wrote.params)) answer right) in
            gives.words ∙ ap params_words same ∙ sym wrote.can.described.words_are),
        found.2,
      )
      | inr other ↦ elim other [
        | inl kind ↦ absurd (no_side side reader wrote.can.is_side kind.1)
        | inr e ↦ absurd (let refuses = e.2 in
            let answer =
            subst (λ (s : Side). IsReadAnswer (options_of 0x3ef) s (written wrote.params) (Err e.0.error))
            (same_side side refuses.reader reader refuses.is_side wrote.can.is_side)
            (subst (λ (xs : List ℕ). IsReadAnswer (options_of 0x3ef) refuses.reader xs (Err e.0.error)) bytes refuses.answer) in
            read_or (plain wrote.params) e.0.error
            (one (options_of 0x3ef) reader (written wrote.params) (Ok (plain wrote.params)) (Err e.0.error) right answer))
      ]
    ]

pub returns-clause-returns : goal.returns-clause-returns
returns-clause-returns c =
    let wrote = c.quic_wire_params_write_-wrote in
    let count : to_z w32 (of_z w32 c.quic_wire_params_read_.result) ≡ c.quic_wire_params_read_.result = search rules in
    let done : wrote.result ≡ pos 0 = search rules in
    let r =
    read_same c.args.side c.args.words.now c.args.out.now c.quic_wire_params_read_.new.out c.args.buffer.now wrote.new.dest
    wrote.new.written c.quic_wire_params_read_.result c.args.refusal.now c.quic_wire_params_read_.new.refusal
    c.one_answer.ensures c.read_back.ensures.own (wrote.ensures.wrote done) c.quic_wire_params_read_.ensures in
    inl (count ∙ r.0)

pub returns-clause-same : goal.returns-clause-same
returns-clause-same c = λ _.
    let wrote = c.quic_wire_params_write_-wrote in
    let done : wrote.result ≡ pos 0 = search rules in
    let r =
    read_same c.args.side c.args.words.now c.args.out.now c.quic_wire_params_read_.new.out c.args.buffer.now wrote.new.dest
    wrote.new.written c.quic_wire_params_read_.result c.args.refusal.now c.quic_wire_params_read_.new.refusal
    c.one_answer.ensures c.read_back.ensures.own (wrote.ensures.wrote done) c.quic_wire_params_read_.ensures in
    r.1

pub returns-clause-kept : goal.returns-clause-kept
returns-clause-kept c =
    let wrote = c.quic_wire_params_write_-wrote in
    let done : wrote.result ≡ pos 0 = search rules in
    let r =
    read_same c.args.side c.args.words.now c.args.out.now c.quic_wire_params_read_.new.out c.args.buffer.now wrote.new.dest
    wrote.new.written c.quic_wire_params_read_.result c.args.refusal.now c.quic_wire_params_read_.new.refusal
    c.one_answer.ensures c.read_back.ensures.own (wrote.ensures.wrote done) c.quic_wire_params_read_.ensures in
    r.2

pub returns-then-wrote-ne0-clause-refused : goal.returns-then-wrote-ne0-clause-refused
returns-then-wrote-ne0-clause-refused c =
    let wrote = c.quic_wire_params_write_-wrote in
    let count : to_z w32 (of_z w32 wrote.result) ≡ wrote.result = search rules in
    λ is. wrote.ensures.refused (sym count ∙ is)

pub returns-clause-unwritten : goal.returns-clause-unwritten
returns-clause-unwritten c =
    let wrote = c.quic_wire_params_write_-wrote in
    let count : to_z w32 (of_z w32 c.quic_wire_params_read_.result) ≡ c.quic_wire_params_read_.result = search rules in
    let done : wrote.result ≡ pos 0 = search rules in
    let r =
    read_same c.args.side c.args.words.now c.args.out.now c.quic_wire_params_read_.new.out c.args.buffer.now wrote.new.dest
    wrote.new.written c.quic_wire_params_read_.result c.args.refusal.now c.quic_wire_params_read_.new.refusal
    c.one_answer.ensures c.read_back.ensures.own (wrote.ensures.wrote done) c.quic_wire_params_read_.ensures in
    inl (count ∙ r.0)
