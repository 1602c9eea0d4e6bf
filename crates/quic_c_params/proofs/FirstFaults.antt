-- Nothing is found of a struct if and only if its list can be written.
use Rattle.std.proofs.Common.{◌≡◌, ℕ, ◌<◌, ◌^◌, List, [], ◌∷◌, refl, sym, ◌∙◌, subst, inl, inr, arith}
use Rattle.std.specs.Prelude.{⊤, ◌⊎◌, Bool, true, false, nat_lt, Option, Some, None, Ok, pos, IfSome, IsNone, if◌then◌else◌}
use Rattle.std.proofs.lemmas.Bool.Decides.{nat_tests}
use Rattle.quic_base.specs.declared.ids.Side.{Side}
use Rattle.quic_params.proofs.Rules.{unbroken_valid}
use Rattle.quic_params.specs.Range.{IsRecordInRange, IsTypedRecord}
use Rattle.quic_params.specs.declared.parameter.TransportParameterId.{TransportParameterId}
use Rattle.quic_params.specs.declared.parameter.TransportParameterId.TheVariants as ids
use Rattle.quic_params.specs.declared.record.TransportParameters.{TransportParameters}
use Rattle.quic_c_params.specs.declared.words.CParams.{CParams}
use Rattle.quic_c_params.specs.declared.faults.Reason.{Reason}
use Rattle.quic_c_params.specs.declared.faults.Reason.TheVariants as reasons
use Rattle.quic_c_params.specs.declared.faults.Found.{Found}
use Rattle.quic_c_params.specs.declared.faults.Found.TheVariants as found
use Rattle.quic_c_params.specs.Faults.{first_large, integers, number_of, IsRecordFault, IsWriteFault}
use Rattle.quic_c_params.specs.Shown.{number_word, params_words}
use Rattle.quic_c_params.specs.Written.{CanWriteParams, DescribesNoParams, DescribesParams}
use Rattle.quic_c_params.specs.Answers.{IsSide}
use Rattle.quic_base.specs.declared.ids.Side.TheVariants.{Client, Server}
use Rattle.quic_params.specs.Meaning.{IsReadAnswer}
use Rattle.quic_params.specs.Options.{as_quinn}
use Rattle.quic_params.specs.Writing.{written}
use Rattle.quic_c_params.proofs.DescribedParams.{typed_number}

-- ---- integers

is_below : (n most : ℕ) → n < most → nat_lt n most ≡ true
is_below n most h = grind (arith, nat_tests)

kept_if : (b : Bool) (o p : Option TransportParameterId) → b ≡ true → o ≡ None → (if b then o else p) ≡ None
kept_if true o p t e = e
kept_if false o p t e = absurd cc

kept : (id : TransportParameterId) (n : ℕ) (others : List (TransportParameterId × ℕ)) → n < 2 ^ 62
    → first_large others ≡ None → first_large ((id, n) ∷ others) ≡ None
kept id n others lt e = kept_if (nat_lt n (2 ^ 62)) (first_large others) (Some id) (is_below n _ lt) e

word_small : (o : Option ℕ) → IfSome o (λ m. m < 2 ^ 62) → number_word o < 2 ^ 62
word_small None h = omega arith
word_small (Some n) h = h

abbrev AllSmall : List (TransportParameterId × ℕ) → Type 0
AllSmall [] = ⊤
AllSmall (entry ∷ others) = (entry.1 < 2 ^ 62) × AllSmall others

none_of_small : (all : List (TransportParameterId × ℕ)) → AllSmall all → first_large all ≡ None
none_of_small [] h = refl
none_of_small ((id, n) ∷ others) h = kept id n others h.0 (none_of_small others h.1)

typed_kept : (p : TransportParameters) → IsTypedRecord p → first_large (integers (params_words p)) ≡ None
typed_kept p typed =
    let t = typed.values in
    none_of_small (integers (params_words p)) (
      t ids.MaxIdleTimeout,
      (
        t ids.MaxUdpPayloadSize,
        (
          t ids.InitialMaxData,
          (
            t ids.InitialMaxStreamDataBidiLocal,
            (
              t ids.InitialMaxStreamDataBidiRemote,
              (
                t ids.InitialMaxStreamDataUni,
                (
                  t ids.InitialMaxStreamsBidi,
                  (
                    t ids.InitialMaxStreamsUni,
                    (
                      t ids.AckDelayExponent,
                      (
                        t ids.MaxAckDelay,
                        (
                          t ids.ActiveConnectionIdLimit,
                          (
                            word_small p.max_datagram_frame_size (typed_number p.max_datagram_frame_size (t ids.MaxDatagramFrameSize)),
                            (word_small p.min_ack_delay (typed_number p.min_ack_delay (t ids.MinAckDelayDraft07)), tt),
                          ),
                        ),
                      ),
                    ),
                  ),
                ),
              ),
            ),
          ),
        ),
      ),
    )

pub none_large : (words : CParams) (p : TransportParameters) → DescribesParams words p → first_large (integers words) ≡ None
none_large words p says =
    subst (λ (w : CParams). first_large (integers w) ≡ None) (sym says.words_are) (typed_kept p says.typed)

-- ---- records

pub no_parameter : (id : TransportParameterId) → ◌≡◌ {A = Option TransportParameterId} None (Some id) → ⊥
no_parameter id e = cc

-- of a record in range nothing is found
pub in_range_nothing : (side : Side) (p : TransportParameters) (what : Found) → IsRecordInRange side p
    → IsRecordFault side p what → what ≡ found.Nothing
in_range_nothing side p what range (inl f) =
    absurd (no_parameter f.0 (sym (unbroken_valid side p range.valid) ∙ f.1))
in_range_nothing side p what range (inr (e, inl f)) = absurd (f.0 range.address)
in_range_nothing side p what range (inr (e, inr f)) = f.1

named : (id : TransportParameterId) (reason : Reason) (what : Found) → what ≡ found.Nothing → what ≡ found.Parameter id reason
    → ⊥
named id reason what e f = cc

-- a record of which nothing is found is in range
nothing_in_range : (side : Side) (p : TransportParameters) (what : Found) → what ≡ found.Nothing
    → IsRecordFault side p what → IsRecordInRange side p
nothing_in_range side p what e (inl f) = absurd (named f.0 _ what e f.2)
nothing_in_range side p what e (inr (n, inl f)) = absurd (named _ _ what e f.1)
nothing_in_range side p what e (inr (n, inr f)) = f.0

pub described_in_range : (side : Side) (words : CParams) (what : Found) → what ≡ found.Nothing → IsWriteFault side words what
    → (p : TransportParameters) × DescribesParams words p × IsRecordInRange side p
described_in_range side words what e (inl f) = absurd (named f.0 _ what e f.2)
described_in_range side words what e (inr (n, inl f)) = (f.0, f.1.described, nothing_in_range side f.0 what e f.2)
described_in_range side words what e (inr (n, inr f)) = absurd (let g = f.1 in cc)

-- ---- for C

pub same_side : (word : ℕ) (a b : Side) → IsSide word a → IsSide word b → a ≡ b
same_side word Client Client p q = refl
same_side word Server Server p q = refl
same_side word Client Server p q = absurd (omega (arith, p, q))
same_side word Server Client p q = absurd (omega (arith, p, q))

-- 0 means nothing
pub nothing_is : (what : Found) → pos (number_of what) ≡ pos 0 → what ≡ found.Nothing
nothing_is found.Nothing e = refl
nothing_is (found.Parameter id reasons.BelowLeast) e = absurd cc
nothing_is (found.Parameter id reasons.AboveGreatest) e = absurd cc
nothing_is (found.Parameter id reasons.AboveMaxAckDelay) e = absurd cc
nothing_is (found.Parameter id reasons.OnlyFromServers) e = absurd cc
nothing_is (found.Parameter id reasons.EmptyId) e = absurd cc
nothing_is (found.Parameter id reasons.NoAddress) e = absurd cc
nothing_is found.NoRecord e = absurd cc

-- the record that a struct describes can be written
pub can_write : (word : ℕ) (side : Side) (words : CParams) (o : Option TransportParameters) → IsSide word side
    → IfSome o (λ p. DescribesParams words p × IsRecordInRange side p × IsReadAnswer as_quinn side (written p) (Ok p))
    → (IsNone o → (p : TransportParameters) → DescribesParams words p → IsRecordInRange side p → ⊥)
    → ((p : TransportParameters) × DescribesParams words p × IsRecordInRange side p)
    → (p : TransportParameters) × CanWriteParams word words p
can_write word side words None is some none there = absurd (none refl there.0 there.1 there.2)
can_write word side words (Some p) is some none there =
    (p, record { reader = side; is_side = is; described = some.0; in_range = some.1; read_back = some.2 })

no_nothing : (id : TransportParameterId) (reason : Reason) → found.Parameter id reason ≡ found.Nothing → ⊥
no_nothing id reason e = cc

no_record : found.NoRecord ≡ found.Nothing → ⊥
no_record e = cc

-- what can be written is a record in range, of which nothing is found
pub refused_if : (word : ℕ) (side : Side) (words : CParams) (what : Found) → IsSide word side
    → ((p : TransportParameters) → DescribesParams words p → IsRecordInRange side p → what ≡ found.Nothing)
    → (what ≡ found.Nothing) ⊎ DescribesNoParams word words
refused_if word side words found.Nothing is h = inl refl
refused_if word side words (found.Parameter id reason) is h = inr (λ p can. no_nothing id reason
    (h p can.described (subst (λ (s : Side). IsRecordInRange s p) (same_side word can.reader side can.is_side is) can.in_range)))
refused_if word side words found.NoRecord is h = inr (λ p can. no_record
    (h p can.described (subst (λ (s : Side). IsRecordInRange s p) (same_side word can.reader side can.is_side is) can.in_range)))

pub number_is_0 : (what : Found) → what ≡ found.Nothing → number_of what ≡ 0
number_is_0 found.Nothing e = refl
number_is_0 (found.Parameter id reason) e = absurd cc
number_is_0 found.NoRecord e = absurd cc
