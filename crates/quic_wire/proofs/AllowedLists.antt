-- Lists of transport parameters that RFC 9000 allows.
use Rattle.std.proofs.Common.{◌≡◌, ℕ, List, [], ◌∷◌, refl, inl, inr}
use Rattle.std.specs.Prelude.{◌⊎◌, Ok, Err}
use Rattle.quic_base.specs.declared.ids.Side.{Side}
use Rattle.quic_params.specs.declared.record.TransportParameters.{TransportParameters}
use Rattle.quic_params.specs.declared.error.Error.{Error}
use Rattle.quic_params.specs.declared.error.Error.TheVariants.{Malformed}
use Rattle.quic_params.specs.declared.parameter.TransportParameterId.{TransportParameterId}
use Rattle.quic_params.specs.Entry.{Accepts, Passed, Taken, Entry, Give, Given, IsGiven, IsRepeat, StopsAtEntry}
use Rattle.quic_params.specs.Meaning.{IsReadAnswer}
use Rattle.quic_params.specs.Options.{as_rfc, in_any_width}
use Rattle.quic_params.specs.Table.{row_of}
use Rattle.quic_params.specs.Value.{IsNoValue}
use Rattle.quic_wire.specs.Rfc.{Adds, AddUp, IsRfcList, IsRfcListError, StopsAdding}

adds : (before : List Given) (entry : Entry) (after : List Given) → Accepts as_rfc before entry after
    → Adds before entry after
adds before entry after (Passed unknown same) = inl (unknown, same)
adds before entry after (Taken id value known once encoded same) =
    inr (id, value, known, (λ given. once (refl, given)), encoded, same)

accepts : (before : List Given) (entry : Entry) (after : List Given) → Adds before entry after
    → Accepts as_rfc before entry after
accepts before entry after (inl passed) = Passed passed.0 passed.1
accepts before entry after (inr taken) =
    Taken taken.0 taken.1 taken.2 (λ repeat. taken.3 (repeat.1)) taken.4 taken.5

add_up : (entries : List Entry) (given : List Given) → Give as_rfc entries given → AddUp entries given
add_up [] given none = none
add_up (last ∷ earlier) given gives =
    (gives.0, add_up earlier gives.0 gives.1, adds gives.0 last given gives.2)

give : (entries : List Entry) (given : List Given) → AddUp entries given → Give as_rfc entries given
give [] given none = none
give (last ∷ earlier) given up = (up.0, give earlier up.0 up.1, accepts up.0 last given up.2)

pub list_allowed : (side : Side) (list : List ℕ) (params : TransportParameters)
    → IsReadAnswer as_rfc side list (Ok params) → IsRfcList side params list
list_allowed side list params is = record {
  entries = is.0.entries;
  given = is.0.given;
  encoded = is.0.list.encoded;
  adds_up = add_up is.0.entries is.0.given is.0.list.gives;
  is_record = is.0.is_record;
  valid = is.1;
}

pub list_read : (side : Side) (list : List ℕ) (params : TransportParameters)
    → IsRfcList side params list → IsReadAnswer as_rfc side list (Ok params)
list_read side list params is = (
  record {
    entries = is.entries;
    given = is.given;
    list = record { encoded = is.encoded; gives = give is.entries is.given is.adds_up };
    is_record = is.is_record;
  },
  is.valid,
)

-- ---- the error

abbrev RepeatOrNoValue : Type 0 → List Given → Entry → TransportParameterId → Error → Type 0
RepeatOrNoValue repeats before entry id error =
    (repeats × (error ≡ Malformed))
    ⊎ ((repeats → ⊥) × IsNoValue (in_any_width (row_of id).kind) entry.bytes error)

why_not : (before : List Given) (entry : Entry) (id : TransportParameterId) (error : Error)
    → RepeatOrNoValue (IsRepeat as_rfc id before) before entry id error
    → RepeatOrNoValue (IsGiven id before) before entry id error
why_not before entry id error (inl repeat) = inl (repeat.0.1, repeat.1)
why_not before entry id error (inr none) = inr ((λ given. none.0 (refl, given)), none.1)

cause_of : (before : List Given) (entry : Entry) (id : TransportParameterId) (error : Error)
    → RepeatOrNoValue (IsGiven id before) before entry id error
    → RepeatOrNoValue (IsRepeat as_rfc id before) before entry id error
cause_of before entry id error (inl given) = inl ((refl, given.0), given.1)
cause_of before entry id error (inr none) = inr ((λ repeat. none.0 repeat.1), none.1)

stops_adding : (before : List Given) (remaining : List ℕ) (error : Error) → StopsAtEntry as_rfc before remaining error
    → StopsAdding before remaining error
stops_adding before remaining error (inl cut) = inl cut
stops_adding before remaining error (inr r) =
    inr (
      r.entry,
      r.refused.id,
      r.front,
      r.rest,
      r.whole,
      r.encoded,
      r.refused.known,
      why_not before r.entry r.refused.id error r.refused.cause,
    )

stops_at : (before : List Given) (remaining : List ℕ) (error : Error) → StopsAdding before remaining error
    → StopsAtEntry as_rfc before remaining error
stops_at before remaining error (inl cut) = inl cut
stops_at before remaining error (inr r) =
    inr (record {
      entry = r.0;
      front = r.2;
      rest = r.3;
      whole = r.4;
      encoded = r.5;
      refused = record { id = r.1; known = r.6; cause = cause_of before r.0 r.1 error r.7 };
    })

pub list_error : (side : Side) (list : List ℕ) (error : Error) → IsReadAnswer as_rfc side list (Err error)
    → IsRfcListError side list error
list_error side list error (inl bad) =
    let f = bad.parts in
    inl (
      bad.entries,
      bad.given,
      f.front,
      f.back,
      f.whole,
      f.first.encoded,
      add_up bad.entries bad.given f.first.gives,
      f.second.0,
      stops_adding bad.given f.back error f.second.1,
    )
list_error side list error (inr record_is) =
    let meant = record_is.1 in
    inr (
      meant.entries,
      meant.given,
      record_is.0,
      meant.list.encoded,
      add_up meant.entries meant.given meant.list.gives,
      meant.is_record,
      record_is.2,
      record_is.3,
    )

pub error_read : (side : Side) (list : List ℕ) (error : Error) → IsRfcListError side list error
    → IsReadAnswer as_rfc side list (Err error)
error_read side list error (inl bad) = inl (record {
  entries = bad.0;
  given = bad.1;
  parts = record {
    front = bad.2;
    back = bad.3;
    whole = bad.4;
    first = record { encoded = bad.5; gives = give bad.0 bad.1 bad.6 };
    second = (bad.7, stops_at bad.1 bad.3 error bad.8);
  };
})
error_read side list error (inr invalid) = inr (
  invalid.2,
  record {
    entries = invalid.0;
    given = invalid.1;
    list = record { encoded = invalid.3; gives = give invalid.0 invalid.1 invalid.4 };
    is_record = invalid.5;
  },
  invalid.6,
  invalid.7,
)
