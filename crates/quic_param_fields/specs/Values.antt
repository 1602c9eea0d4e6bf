-- The value of a parameter with the spans of its fields, or with what is at fault (RFC 9000, section 18.2).
use Rattle.std.specs.Prelude.{◌≡◌, ◌≢◌, ℕ, ◌+◌, ◌⊎◌, Bool, List, [], ◌∷◌, ◌++◌, length, replicate, Option, Some, None, MatchOption}
use Rattle.quic_base.specs.Varint.{Encodes}
use Rattle.quic_base.specs.declared.ids.Side.TheVariants.{Client}
use Rattle.quic_fields.specs.declared.field.Span.{Span}
use Rattle.quic_fields.specs.Walk.{stored}
use Rattle.quic_params.specs.declared.parameter.TransportParameterId.{TransportParameterId}
use Rattle.quic_params.specs.declared.record.TransportParameters.{TransportParameters}
use Rattle.quic_params.specs.declared.value.Value.{Value}
use Rattle.quic_params.specs.declared.value.Value.TheVariants as V
use Rattle.quic_params.specs.Entry.{IsKnownParameter}
use Rattle.quic_params.specs.Meaning.{IsValid}
use Rattle.quic_params.specs.Options.{kind_in}
use Rattle.quic_params.specs.Record.{value_of}
use Rattle.quic_params.specs.Table.{row_of}
use Rattle.quic_params.specs.Value.{IsEncoded}
use Rattle.quic_param_fields.specs.declared.row.Sort.{Sort}
use Rattle.quic_param_fields.specs.declared.row.Sort.TheVariants as S
use Rattle.quic_param_fields.specs.declared.field.Reason.{Reason}
use Rattle.quic_param_fields.specs.declared.field.Reason.TheVariants as R
use Rattle.quic_param_fields.specs.declared.field.Stop.{Stop}
use Rattle.quic_param_fields.specs.declared.field.Walked.{Walked}
use Rattle.quic_param_fields.specs.Rows.{sort_in, sort_of, fields_of}
use Rattle.quic_param_fields.specs.Fields.{AreFieldsAt, StopsWithinAt, fault_at, stop, whole}

-- the parameter of a number, if a record has a field for it
abbrev pub Finds : ℕ → Option TransportParameterId → Type 0
Finds number found = MatchOption found ((id : TransportParameterId) → ¬ (IsKnownParameter id number))
    (λ id. IsKnownParameter id number)

-- A client accepts a record in which the parameter has this value. The bound of min_ack_delay is another parameter's
-- value, so it isn't a rule of the value.
abbrev pub IsAccepted : TransportParameterId → Value → Type 0
IsAccepted id value =
    (params : TransportParameters) × (value_of params id ≡ Some value)
    × IsValid Client (record params { min_ack_delay = None })

-- the addresses and ports are all zeros
abbrev pub IsNowhere : List ℕ → Type 0
IsNowhere bytes = (others : List ℕ) × (bytes ≡ replicate 24 0 ++ others)

-- the id after the addresses is empty
abbrev pub HasEmptyId : List ℕ → Type 0
HasEmptyId bytes = (addresses others : List ℕ) × (bytes ≡ addresses ++ (0 ∷ others)) × (length addresses ≡ 24)

-- What is at fault in a number: its width, or its value; nothing, if w is what was read.
abbrev pub NumberRule : Bool → TransportParameterId → ℕ → List ℕ → Walked → Walked → Type 0
NumberRule any_width id n bytes read w =
    (¬ (IsEncoded (kind_in any_width (row_of id).kind) (V.Number n) bytes) × (w ≡ fault_at 0 0 (stop 0 0 R.LongNumber)))
    ⊎ (IsEncoded (kind_in any_width (row_of id).kind) (V.Number n) bytes
    × ((¬ (IsAccepted id (V.Number n)) × (w ≡ fault_at 0 0 (stop 0 0 R.OutOfRange)))
    ⊎ (IsAccepted id (V.Number n) × (w ≡ read))))

-- What is at fault in a value whose fields are all of its bytes. Those of a number are read.
abbrev pub WholeRule : Bool → TransportParameterId → Sort → List ℕ → Walked → Walked → Type 0
WholeRule any_width id S.Number bytes read w = (n : ℕ) × Encodes n bytes × NumberRule any_width id n bytes read w
WholeRule any_width id S.Address bytes read w =
    (HasEmptyId bytes × (w ≡ fault_at 4 24 (stop 0 0 R.EmptyId))) ⊎ (¬ (HasEmptyId bytes) × (w ≡ read))
WholeRule any_width id _ bytes read w = w ≡ read

-- The same if bytes may follow the fields.
abbrev pub Rule : Bool → TransportParameterId → Sort → List ℕ → List ℕ → Walked → Walked → Type 0
Rule any_width id sort bytes rest read w =
    ((sort ≡ S.Address) × IsNowhere bytes × (w ≡ fault_at 2 6 (stop 0 0 R.NoAddress)))
    ⊎ (¬ ((sort ≡ S.Address) × IsNowhere bytes)
    × (((rest ≢ []) × (w ≡ fault_at read.count read.end (stop 0 0 R.BytesLeft)))
    ⊎ ((rest ≡ []) × WholeRule any_width id sort bytes read w)))

-- An unknown parameter has no rule.
abbrev pub RuleIn : Bool → Option TransportParameterId → List ℕ → List ℕ → Walked → Walked → Type 0
RuleIn any_width None bytes rest read w = w ≡ read
RuleIn any_width (Some id) bytes rest read w = Rule any_width id (sort_of id) bytes rest read w

-- What the bytes are as the value of a parameter, an unknown one too: the spans of the fields that can be read, and
-- what is at fault, if anything is.
abbrev pub IsRead : Bool → Option TransportParameterId → List ℕ → List Span → Walked → Type 0
IsRead any_width found bytes spans w =
    StopsWithinAt 0 0 (fields_of (sort_in found)) spans bytes w
    ⊎ ((rest : List ℕ) × (end : ℕ) × AreFieldsAt 0 0 (fields_of (sort_in found)) spans bytes rest
    × (end + length rest ≡ length bytes) × RuleIn any_width found bytes rest (whole (length spans) end) w)

-- The bytes are a value of the parameter, and these are the spans of its fields.
abbrev pub IsValueAt : Bool → Option TransportParameterId → List Span → List ℕ → Type 0
IsValueAt any_width found spans bytes = IsRead any_width found bytes spans (whole (length spans) (length bytes))

-- The bytes are no value of the parameter: these are the spans of the fields that can be read; the field with this
-- index, which begins at this offset, is at fault for this reason, so many bytes and numbers after it begins.
abbrev pub IsNoValueAt : Bool → Option TransportParameterId → List Span → List ℕ → ℕ → ℕ → Stop → Type 0
IsNoValueAt any_width found spans bytes at start s = IsRead any_width found bytes spans (fault_at at start s)

-- what the call returns, with the spans in the room, as far as it reaches
pub record HasValue (any_width : Bool) (found : Option TransportParameterId) (bytes : List ℕ) (old new : List Span)
    (w : Walked) : Type 0 where
  pub spans : List Span
  pub value : IsValueAt any_width found spans bytes
  pub room : new ≡ stored 0 spans old
  pub all : w ≡ whole (length spans) (length bytes)

pub record LacksValue (any_width : Bool) (found : Option TransportParameterId) (bytes : List ℕ) (old new : List Span)
    (w : Walked) (reason : Reason) : Type 0 where
  pub spans : List Span
  pub no_value : IsNoValueAt any_width found spans bytes w.count w.end (stop w.inside w.numbers reason)
  pub room : new ≡ stored 0 spans old
