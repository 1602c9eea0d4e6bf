-- The rules find exactly what RFC 9000 allows.
use Rattle.std.proofs.Common.{◌≡◌, ◌≢◌, ℕ, ◌+◌, ◌<◌, ◌≤◌, ◌^◌, ◌-◌, List, [], ◌∷◌, map, length, Bool, true, false, None, refl, sym, subst, arith, inl}
use Rattle.std.specs.Prelude.{◌==◌, All, nat_lt, suc}
use Rattle.std.proofs.lemmas.Bool.Decides.{nat_tests}
use Rattle.std.proofs.lemmas.List.Elements.{All-nil, All-cons, All-head, All-tail}
use Rattle.quic_canon.specs.Least.{IsLeast}
use Rattle.quic_frame_fields.specs.Field.{Value, Number, Bytes}
use Rattle.quic_frame_fields.specs.Table.{Name, Crypto, NewToken, Stream, MaxStreams, StreamsBlocked, AckFrequency, ImmediateAck}
use Rattle.quic_frame_fields.specs.Payload.{Meaning, TypedFrame, Complete, IsReadingOf}
use Rattle.quic_frames.specs.Least.{frame_in}
use Rattle.quic_frames.specs.Rules.{IsCheckedOf, Keeps, breach_by, broken_if}
use Rattle.quic_frames.specs.declared.frame.rules.Breach.{Breach}
use Rattle.quic_frames.specs.declared.frame.rules.Breach.TheVariants as breaches
use Rattle.quic_canon.proofs.ByRules.{is_kept}
use Rattle.quic_wire.specs.Rfc.{AreAllowed, IsAllowed, IsRfcPayload, rfc_rules, without_error}

-- ---- one frame

within : (m : ℕ) → m < 2 ^ 62 → nat_lt (2 ^ 62 - 1) m ≡ false
within m le = grind (arith, nat_tests)

is_within : (m : ℕ) → nat_lt (2 ^ 62 - 1) m ≡ false → m < 2 ^ 62
is_within m e = grind (arith, nat_tests)

few : (m : ℕ) → m ≤ 2 ^ 60 → nat_lt (2 ^ 60) m ≡ false
few m le = grind (arith, nat_tests)

are_few : (m : ℕ) → nat_lt (2 ^ 60) m ≡ false → m ≤ 2 ^ 60
are_few m e = grind (arith, nat_tests)

is_some : (n : ℕ) → (suc n == 0) ≡ false
is_some n = grind (arith, nat_tests)

unbroken : (is_broken : Bool) (breach : Breach) → broken_if is_broken breach ≡ None → is_broken ≡ false
unbroken false breach e = refl
unbroken true breach e = absurd cc

unbroken_if : (is_broken : Bool) (breach : Breach) → is_broken ≡ false → broken_if is_broken breach ≡ None
unbroken_if false breach e = refl
unbroken_if true breach e = absurd cc

pub keeps : (negotiated : Bool) (name : Name) (values : List Value) → AreAllowed negotiated name values
    → breach_by (rfc_rules negotiated) name values ≡ None
keeps negotiated Crypto (Number offset ∷ Bytes sent ∷ []) allowed =
    unbroken_if (nat_lt (2 ^ 62 - 1) (offset + length sent)) breaches.Limit (within (offset + length sent) allowed)
keeps negotiated Stream (fin ∷ id ∷ Number offset ∷ Bytes sent ∷ []) allowed =
    unbroken_if (nat_lt (2 ^ 62 - 1) (offset + length sent)) breaches.Limit (within (offset + length sent) allowed)
keeps negotiated MaxStreams (dir ∷ Number count ∷ []) allowed =
    unbroken_if (nat_lt (2 ^ 60) count) breaches.Limit (few count allowed)
keeps negotiated StreamsBlocked (dir ∷ Number count ∷ []) allowed =
    unbroken_if (nat_lt (2 ^ 60) count) breaches.Limit (few count allowed)
keeps negotiated NewToken (Bytes [] ∷ []) allowed = absurd (allowed refl)
keeps negotiated NewToken (Bytes (byte ∷ token) ∷ []) allowed =
    unbroken_if (length (byte ∷ token) == 0) breaches.Token (is_some (length token))
keeps true AckFrequency values allowed = refl
keeps false AckFrequency values allowed = absurd cc
keeps true ImmediateAck values allowed = refl
keeps false ImmediateAck values allowed = absurd cc
keeps negotiated name values allowed = refl

pub is_allowed : (negotiated : Bool) (name : Name) (values : List Value)
    → breach_by (rfc_rules negotiated) name values ≡ None → AreAllowed negotiated name values
is_allowed negotiated Crypto (Number offset ∷ Bytes sent ∷ []) kept =
    is_within (offset + length sent) (unbroken (nat_lt (2 ^ 62 - 1) (offset + length sent)) breaches.Limit kept)
is_allowed negotiated Stream (fin ∷ id ∷ Number offset ∷ Bytes sent ∷ []) kept =
    is_within (offset + length sent) (unbroken (nat_lt (2 ^ 62 - 1) (offset + length sent)) breaches.Limit kept)
is_allowed negotiated MaxStreams (dir ∷ Number count ∷ []) kept =
    are_few count (unbroken (nat_lt (2 ^ 60) count) breaches.Limit kept)
is_allowed negotiated StreamsBlocked (dir ∷ Number count ∷ []) kept =
    are_few count (unbroken (nat_lt (2 ^ 60) count) breaches.Limit kept)
is_allowed negotiated NewToken (Bytes [] ∷ []) kept = absurd cc
is_allowed negotiated NewToken (Bytes (byte ∷ token) ∷ []) kept = λ none. cc
is_allowed true AckFrequency values kept = refl
is_allowed false AckFrequency values kept = absurd cc
is_allowed true ImmediateAck values kept = refl
is_allowed false ImmediateAck values kept = absurd cc
is_allowed negotiated name values kept = tt

-- ---- all frames

pub all_keep : (negotiated : Bool) (frames : List TypedFrame) → All (IsAllowed negotiated) (map frame_in frames)
    → All (Keeps (rfc_rules negotiated)) frames
all_keep negotiated [] all = All-nil (Keeps (rfc_rules negotiated))
all_keep negotiated (found ∷ frames) all =
    All-cons (Keeps (rfc_rules negotiated)) found frames
    (keeps negotiated found.frame.name found.frame.values
    (All-head (IsAllowed negotiated) found.frame (map frame_in frames) all))
    (all_keep negotiated frames (All-tail (IsAllowed negotiated) found.frame (map frame_in frames) all))

pub all_allowed : (negotiated : Bool) (frames : List TypedFrame) → All (Keeps (rfc_rules negotiated)) frames
    → All (IsAllowed negotiated) (map frame_in frames)
all_allowed negotiated [] all = All-nil (IsAllowed negotiated)
all_allowed negotiated (found ∷ frames) all =
    All-cons (IsAllowed negotiated) found.frame (map frame_in frames)
    (is_allowed negotiated found.frame.name found.frame.values
    (All-head (Keeps (rfc_rules negotiated)) found frames all))
    (all_allowed negotiated frames (All-tail (Keeps (rfc_rules negotiated)) found frames all))

-- ---- a payload

pub reads_allowed : (negotiated : Bool) (frames : List TypedFrame) (payload : List ℕ)
    → IsRfcPayload negotiated frames payload → IsCheckedOf (rfc_rules negotiated) payload (without_error frames)
reads_allowed negotiated frames payload is =
    (Complete frames, is.encoded, inl (all_keep negotiated frames is.allowed, refl))

pub is_allowed_payload : (negotiated : Bool) (frames : List TypedFrame) (payload : List ℕ) → payload ≢ []
    → IsCheckedOf (rfc_rules negotiated) payload (without_error frames) → IsRfcPayload negotiated frames payload
is_allowed_payload negotiated frames payload some is =
    let k = is_kept (rfc_rules negotiated) frames payload is in
    record { some = some; encoded = k.encoded; allowed = all_allowed negotiated frames k.kept }

-- ---- what is written

pub written_allowed : (negotiated : Bool) (frames : List Meaning) (payload : List ℕ)
    → ((found : List TypedFrame) × IsReadingOf true payload (Complete found) × (map frame_in found ≡ frames))
    → IsLeast payload payload → All (IsAllowed negotiated) frames
    → (found : List TypedFrame) × IsRfcPayload negotiated found payload × (map frame_in found ≡ frames)
written_allowed negotiated frames payload read least all = (
  read.0,
  record {
    some = least.same.some;
    encoded = read.1;
    allowed = subst (λ (l : List Meaning). All (IsAllowed negotiated) l) (sym read.2) all;
  },
  read.2,
)
