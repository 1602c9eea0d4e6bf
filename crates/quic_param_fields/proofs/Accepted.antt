-- Which numbers and addresses a client accepts.
use Rattle.std.specs.Prelude.{⊤, IfSome}
use Rattle.std.proofs.Common.{◌≡◌, ◌≢◌, ℕ, ◌≤◌, ◌<◌, ◌^◌, Bool, true, false, List, [], ◌∷◌, length, Option, Some, None, refl, sym, ap, ◌∙◌, subst, arith}
use Rattle.quic_base.specs.Varint.{Encodes, size}
use Rattle.quic_base.proofs.PublicLaws.{encoded_bound, length-short}
use Rattle.quic_base.specs.declared.ids.Side.TheVariants.{Client}
use Rattle.quic_params.specs.declared.parameter.TransportParameterId.{TransportParameterId}
use Rattle.quic_params.specs.declared.parameter.TransportParameterId.TheVariants as Id
use Rattle.quic_params.specs.declared.record.TransportParameters.{TransportParameters}
use Rattle.quic_params.specs.declared.value.PreferredAddress.{PreferredAddress}
use Rattle.quic_params.specs.declared.value.Value.{Value}
use Rattle.quic_params.specs.declared.value.Value.TheVariants as V
use Rattle.quic_params.specs.Answer.{record_of}
use Rattle.quic_params.specs.Options.{kind_in}
use Rattle.quic_params.specs.Value.{IsEncoded}
use Rattle.quic_params.proofs.Values.{is_short}
use Rattle.quic_params.specs.Meaning.{IsValid}
use Rattle.quic_params.specs.Record.{IsOfKind, value_of, value_given}
use Rattle.quic_params.specs.Table.{row_of}
use Rattle.quic_param_fields.specs.declared.row.Sort.TheVariants as S
use Rattle.quic_param_fields.specs.Rows.{sort_of}
use Rattle.quic_param_fields.specs.Values.{IsAccepted}

-- the record in which only this parameter is given
abbrev made : TransportParameterId → Value → TransportParameters
made id value = record_of (value_given (record { id = id; value = value } ∷ []))

-- what `IsValid` says of one value
abbrev pub Bound : TransportParameterId → Value → Type 0
Bound Id.MaxUdpPayloadSize (V.Number n) = 1200 ≤ n
Bound Id.InitialMaxStreamsBidi (V.Number n) = n ≤ 2 ^ 60
Bound Id.InitialMaxStreamsUni (V.Number n) = n ≤ 2 ^ 60
Bound Id.AckDelayExponent (V.Number n) = n ≤ 20
Bound Id.MaxAckDelay (V.Number n) = n < 2 ^ 14
Bound Id.ActiveConnectionIdLimit (V.Number n) = 2 ≤ n
Bound Id.PreferredAddress (V.Address a) = a.connection_id ≢ []
Bound _ _ = ⊤

pub bounded : (id : TransportParameterId) (value : Value) → IsAccepted id value → Bound id value
bounded Id.MaxUdpPayloadSize (V.Number n) (p, is, valid) =
    subst (λ (m : ℕ). 1200 ≤ m) (let e : p.max_udp_payload_size ≡ n = cc in e) valid.payload
bounded Id.InitialMaxStreamsBidi (V.Number n) (p, is, valid) =
    subst (λ (m : ℕ). m ≤ 2 ^ 60) (let e : p.initial_max_streams_bidi ≡ n = cc in e) valid.bidi
bounded Id.InitialMaxStreamsUni (V.Number n) (p, is, valid) =
    subst (λ (m : ℕ). m ≤ 2 ^ 60) (let e : p.initial_max_streams_uni ≡ n = cc in e) valid.uni
bounded Id.AckDelayExponent (V.Number n) (p, is, valid) =
    subst (λ (m : ℕ). m ≤ 20) (let e : p.ack_delay_exponent ≡ n = cc in e) valid.exponent
bounded Id.MaxAckDelay (V.Number n) (p, is, valid) =
    subst (λ (m : ℕ). m < 2 ^ 14) (let e : p.max_ack_delay ≡ n = cc in e) valid.ack_delay
bounded Id.ActiveConnectionIdLimit (V.Number n) (p, is, valid) =
    subst (λ (m : ℕ). 2 ≤ m) (let e : p.active_connection_id_limit ≡ n = cc in e) valid.ids
bounded Id.PreferredAddress (V.Address a) (p, is, valid) = bounded_address p.preferred_address is valid.address
  where
    bounded_address : (o : Option PreferredAddress) → value_of (record p { preferred_address = o }) Id.PreferredAddress ≡ Some (V.Address a)
        → IfSome o (λ (c : PreferredAddress). c.connection_id ≢ []) → a.connection_id ≢ []
    bounded_address None e h = absurd cc
    bounded_address (Some c) e h = subst (λ (d : PreferredAddress). d.connection_id ≢ []) (let same : c ≡ a = cc in same) h
bounded _ _ h = tt

-- ---- a record with such a value

abbrev with_value : TransportParameterId → Value → TransportParameters
with_value id value = record (made id value) { min_ack_delay = None }

-- a client accepts whatever only servers send
valid : (p : TransportParameters) → p.ack_delay_exponent ≤ 20 → p.max_ack_delay < 2 ^ 14
    → 2 ≤ p.active_connection_id_limit → 1200 ≤ p.max_udp_payload_size → p.initial_max_streams_bidi ≤ 2 ^ 60
    → p.initial_max_streams_uni ≤ 2 ^ 60 → p.min_ack_delay ≡ None
    → IfSome p.preferred_address (λ (a : PreferredAddress). a.connection_id ≢ []) → IsValid Client p
valid p exponent delay ids payload bidi uni none address = record {
  exponent = exponent;
  ack_delay = delay;
  ids = ids;
  payload = payload;
  bidi = bidi;
  uni = uni;
  min_delay = rw (none) tt;
  address = address;
  no_original = λ e. absurd cc;
  no_address = λ e. absurd cc;
  no_retry = λ e. absurd cc;
  no_token = λ e. absurd cc;
}

small : 3 ≤ 20
small = omega arith

delay : 25 < 2 ^ 14
delay = omega arith

two : 2 ≤ 2
two = omega arith

payload : 1200 ≤ 65527
payload = omega arith

none : 0 ≤ 2 ^ 60
none = omega arith

-- one that changes none of the bounded values
plain : (id : TransportParameterId) (value : Value) → (with_value id value).ack_delay_exponent ≡ 3
    → (with_value id value).max_ack_delay ≡ 25 → (with_value id value).active_connection_id_limit ≡ 2
    → (with_value id value).max_udp_payload_size ≡ 65527 → (with_value id value).initial_max_streams_bidi ≡ 0
    → (with_value id value).initial_max_streams_uni ≡ 0 → (with_value id value).preferred_address ≡ None
    → IsValid Client (with_value id value)
plain id value a b c d e f g =
    valid (with_value id value) (subst (λ (n : ℕ). n ≤ 20) (sym a) small) (subst (λ (n : ℕ). n < 2 ^ 14) (sym b) delay)
    (subst (λ (n : ℕ). 2 ≤ n) (sym c) two) (subst (λ (n : ℕ). 1200 ≤ n) (sym d) payload)
    (subst (λ (n : ℕ). n ≤ 2 ^ 60) (sym e) none) (subst (λ (n : ℕ). n ≤ 2 ^ 60) (sym f) none) refl
    (subst (λ (o : Option PreferredAddress). IfSome o (λ (a : PreferredAddress). a.connection_id ≢ [])) (sym g) tt)

pub accepts : (id : TransportParameterId) (value : Value) → IsOfKind (row_of id).kind value → Bound id value
    → IsAccepted id value
accepts Id.MaxUdpPayloadSize (V.Number n) k b =
    (made Id.MaxUdpPayloadSize (V.Number n), refl, valid (with_value Id.MaxUdpPayloadSize (V.Number n)) small delay two b none none refl tt)
accepts Id.InitialMaxStreamsBidi (V.Number n) k b =
    (made Id.InitialMaxStreamsBidi (V.Number n), refl, valid (with_value Id.InitialMaxStreamsBidi (V.Number n)) small delay two payload b none refl tt)
accepts Id.InitialMaxStreamsUni (V.Number n) k b =
    (made Id.InitialMaxStreamsUni (V.Number n), refl, valid (with_value Id.InitialMaxStreamsUni (V.Number n)) small delay two payload none b refl tt)
accepts Id.AckDelayExponent (V.Number n) k b =
    (made Id.AckDelayExponent (V.Number n), refl, valid (with_value Id.AckDelayExponent (V.Number n)) b delay two payload none none refl tt)
accepts Id.MaxAckDelay (V.Number n) k b =
    (made Id.MaxAckDelay (V.Number n), refl, valid (with_value Id.MaxAckDelay (V.Number n)) small b two payload none none refl tt)
accepts Id.ActiveConnectionIdLimit (V.Number n) k b =
    (made Id.ActiveConnectionIdLimit (V.Number n), refl, valid (with_value Id.ActiveConnectionIdLimit (V.Number n)) small delay b payload none none refl tt)
accepts Id.PreferredAddress (V.Address a) k b =
    (made Id.PreferredAddress (V.Address a), refl, valid (with_value Id.PreferredAddress (V.Address a)) small delay two payload none none refl b)
accepts Id.MaxIdleTimeout (V.Number n) k b =
    (made Id.MaxIdleTimeout (V.Number n), refl, plain Id.MaxIdleTimeout (V.Number n) refl refl refl refl refl refl refl)
accepts Id.InitialMaxData (V.Number n) k b =
    (made Id.InitialMaxData (V.Number n), refl, plain Id.InitialMaxData (V.Number n) refl refl refl refl refl refl refl)
accepts Id.InitialMaxStreamDataBidiLocal (V.Number n) k b = (
  made Id.InitialMaxStreamDataBidiLocal (V.Number n),
  refl,
  plain Id.InitialMaxStreamDataBidiLocal (V.Number n) refl refl refl refl refl refl refl,
)
accepts Id.InitialMaxStreamDataBidiRemote (V.Number n) k b = (
  made Id.InitialMaxStreamDataBidiRemote (V.Number n),
  refl,
  plain Id.InitialMaxStreamDataBidiRemote (V.Number n) refl refl refl refl refl refl refl,
)
accepts Id.InitialMaxStreamDataUni (V.Number n) k b = (
  made Id.InitialMaxStreamDataUni (V.Number n),
  refl,
  plain Id.InitialMaxStreamDataUni (V.Number n) refl refl refl refl refl refl refl,
)
accepts Id.MaxDatagramFrameSize (V.Number n) k b =
    (made Id.MaxDatagramFrameSize (V.Number n), refl, plain Id.MaxDatagramFrameSize (V.Number n) refl refl refl refl refl refl refl)
accepts Id.MinAckDelayDraft07 (V.Number n) k b =
    (made Id.MinAckDelayDraft07 (V.Number n), refl, plain Id.MinAckDelayDraft07 (V.Number n) refl refl refl refl refl refl refl)
accepts Id.StatelessResetToken (V.Token t) k b =
    (made Id.StatelessResetToken (V.Token t), refl, plain Id.StatelessResetToken (V.Token t) refl refl refl refl refl refl refl)
accepts Id.DisableActiveMigration V.Flag k b =
    (made Id.DisableActiveMigration V.Flag, refl, plain Id.DisableActiveMigration V.Flag refl refl refl refl refl refl refl)
accepts Id.GreaseQuicBit V.Flag k b =
    (made Id.GreaseQuicBit V.Flag, refl, plain Id.GreaseQuicBit V.Flag refl refl refl refl refl refl refl)
accepts Id.OriginalDestinationConnectionId (V.Id i) k b = (
  made Id.OriginalDestinationConnectionId (V.Id i),
  refl,
  plain Id.OriginalDestinationConnectionId (V.Id i) refl refl refl refl refl refl refl,
)
accepts Id.InitialSourceConnectionId (V.Id i) k b = (
  made Id.InitialSourceConnectionId (V.Id i),
  refl,
  plain Id.InitialSourceConnectionId (V.Id i) refl refl refl refl refl refl refl,
)
accepts Id.RetrySourceConnectionId (V.Id i) k b = (
  made Id.RetrySourceConnectionId (V.Id i),
  refl,
  plain Id.RetrySourceConnectionId (V.Id i) refl refl refl refl refl refl refl,
)
accepts _ _ k b = absurd k

-- ---- as the code tests it

pub numeric : (id : TransportParameterId) (n : ℕ) → sort_of id ≡ S.Number → IsOfKind (row_of id).kind (V.Number n)
numeric Id.ReservedTransportParameter n e = absurd cc
numeric Id.StatelessResetToken n e = absurd cc
numeric Id.DisableActiveMigration n e = absurd cc
numeric Id.PreferredAddress n e = absurd cc
numeric Id.OriginalDestinationConnectionId n e = absurd cc
numeric Id.InitialSourceConnectionId n e = absurd cc
numeric Id.RetrySourceConnectionId n e = absurd cc
numeric Id.GreaseQuicBit n e = absurd cc
numeric _ n e = tt

-- a test of the bound
pub tested : (id other : TransportParameterId) (n : ℕ) (t : Bool) → id ≡ other → sort_of id ≡ S.Number
    → (t ≡ true → Bound other (V.Number n)) → (Bound other (V.Number n) → t ≡ true)
    → (t ≡ true → IsAccepted id (V.Number n)) × (IsAccepted id (V.Number n) → t ≡ true)
tested id other n t e s f g = (
  λ h. accepts id (V.Number n) (numeric id n s) (subst (λ (i : TransportParameterId). Bound i (V.Number n)) (sym e) (f h)),
  λ a. g (subst (λ (i : TransportParameterId). Bound i (V.Number n)) e (bounded id (V.Number n) a)),
)

pub free : (id : TransportParameterId) (n : ℕ) → id ≢ Id.MaxUdpPayloadSize → id ≢ Id.InitialMaxStreamsBidi
    → id ≢ Id.InitialMaxStreamsUni → id ≢ Id.AckDelayExponent → id ≢ Id.MaxAckDelay → id ≢ Id.ActiveConnectionIdLimit
    → Bound id (V.Number n)
free Id.MaxUdpPayloadSize n a b c d e f = absurd (a refl)
free Id.InitialMaxStreamsBidi n a b c d e f = absurd (b refl)
free Id.InitialMaxStreamsUni n a b c d e f = absurd (c refl)
free Id.AckDelayExponent n a b c d e f = absurd (d refl)
free Id.MaxAckDelay n a b c d e f = absurd (e refl)
free Id.ActiveConnectionIdLimit n a b c d e f = absurd (f refl)
free _ n a b c d e f = tt

-- Integers with a default are in their shortest encoding, unless any width is accepted.
pub shortest : (id : TransportParameterId) (n : ℕ) (b : List ℕ) → id ≢ Id.MaxDatagramFrameSize
    → id ≢ Id.MinAckDelayDraft07 → sort_of id ≡ S.Number → Encodes n b
    → (size n ≡ length b → IsEncoded (kind_in false (row_of id).kind) (V.Number n) b)
    × (IsEncoded (kind_in false (row_of id).kind) (V.Number n) b → size n ≡ length b)
shortest Id.MaxDatagramFrameSize n b first other e h = absurd (first refl)
shortest Id.MinAckDelayDraft07 n b first other e h = absurd (other refl)
shortest Id.ReservedTransportParameter n b first other e h = absurd cc
shortest Id.StatelessResetToken n b first other e h = absurd cc
shortest Id.DisableActiveMigration n b first other e h = absurd cc
shortest Id.PreferredAddress n b first other e h = absurd cc
shortest Id.OriginalDestinationConnectionId n b first other e h = absurd cc
shortest Id.InitialSourceConnectionId n b first other e h = absurd cc
shortest Id.RetrySourceConnectionId n b first other e h = absurd cc
shortest Id.GreaseQuicBit n b first other e h = absurd cc
shortest _ n b first other e h = (
  λ l. ((encoded_bound n b h).0, is_short n b h l),
  λ s. sym (length-short n) ∙ ap length (sym s.1),
)
