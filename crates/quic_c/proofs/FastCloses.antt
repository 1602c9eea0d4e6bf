-- NEW_CONNECTION_ID and both kinds of CONNECTION_CLOSE.
use Rattle.std.proofs.Common.{◌≡◌, ℕ, zero, suc, ◌-◌, ◌≤◌, true, Bor, List, [], ◌∷◌, length, Option, Some, None, Ok, refl, sym, subst, arith}
use Rattle.std.specs.Prelude.{◌≢◌, nat_le}
use Rattle.std.proofs.lemmas.Bool.Decides.{nat_tests}
use Rattle.quic_errors.specs.Types.{type_or_zero}
use Rattle.quic_frame_fields.specs.declared.frame.close.Close.TheVariants as closes
use Rattle.quic_frame_fields.specs.Field.{Number, is_ordered}
use Rattle.quic_frame_fields.specs.Reading.{bytes_at, counted_at, frame_at, id_at, row_at, varint_at}
use Rattle.quic_frames.specs.declared.frame.Frame.TheVariants as frames
use Rattle.quic_c_words.specs.declared.words.CFrame.{CFrame}
use Rattle.quic_c.specs.Kinds.{HasType, ReadsFrame, IsApplicationClose, IsNewId, IsTransportClose}
use Rattle.quic_c.proofs.FastReads.{reads_frame}
use Rattle.quic_c.proofs.FastData.{data_words, no_tail}

-- the type of a frame that caused a close, if its number isn't 0
blamed : (n : ℕ) → (type : Option ℕ) × (type_or_zero type ≡ n) × (type ≢ Some 0)
blamed zero = (None, refl, λ e. absurd cc)
blamed (suc n) = (Some (suc n), refl, λ e. absurd cc)

pub application_close_reads : (payload : List ℕ) (start t code : ℕ) (fields behind rest : List ℕ) (reason : Bor (List ℕ))
    → HasType payload start t fields → IsApplicationClose t → varint_at fields ≡ Ok (code, behind)
    → counted_at behind ≡ Ok (reason.now, rest) → let stop = length payload - length rest in
    ReadsFrame payload start stop (data_words t t 0 start stop (length reason.now) (code ∷ 0 ∷ 0 ∷ 0 ∷ 0 ∷ []))
unfolding frame_at row_at
application_close_reads payload start t code fields behind rest reason h kind first second = subst Goal (sym kind) here h
  where
    stop : ℕ
    stop = length payload - length rest

    Goal : ℕ → Type 0
    Goal t = HasType payload start t fields
        → ReadsFrame payload start stop (data_words t t 0 start stop (length reason.now) (code ∷ 0 ∷ 0 ∷ 0 ∷ 0 ∷ []))

    here : Goal 0x1d
    here h =
        reads_frame payload start 0x1d fields rest
        (frames.Close (closes.Application (record { error_code = code; reason = reason }))) _ h (omega arith)
        (rw (first, second) refl) tt tt refl (omega arith) (λ e. omega (arith, e)) refl (no_tail _ _ _ _ _ _ _)

pub transport_close_reads : (payload : List ℕ) (start t code ty : ℕ) (fields behind_code behind rest : List ℕ)
    (reason : Bor (List ℕ)) → HasType payload start t fields → IsTransportClose t
    → varint_at fields ≡ Ok (code, behind_code) → varint_at behind_code ≡ Ok (ty, behind)
    → counted_at behind ≡ Ok (reason.now, rest) → let stop = length payload - length rest in
    ReadsFrame payload start stop (data_words t t 0 start stop (length reason.now) (code ∷ ty ∷ 0 ∷ 0 ∷ 0 ∷ []))
unfolding frame_at row_at
transport_close_reads payload start t code ty fields behind_code behind rest reason h kind first second third =
    subst Goal (sym kind) here h
  where
    stop : ℕ
    stop = length payload - length rest

    Words : ℕ → ℕ → CFrame
    Words t ty = data_words t t 0 start stop (length reason.now) (code ∷ ty ∷ 0 ∷ 0 ∷ 0 ∷ [])

    Goal : ℕ → Type 0
    Goal t = HasType payload start t fields → ReadsFrame payload start stop (Words t ty)

    here : Goal 0x1c
    here h =
        let b = blamed ty in
        let second : varint_at behind_code ≡ Ok (type_or_zero b.0, behind) = rw b.1 second in
        subst (λ (n : ℕ). ReadsFrame payload start stop (Words 0x1c n)) b.1
        (reads_frame payload start 0x1c fields rest
        (frames.Close (closes.Connection (record { error_code = code; frame_type = b.0; reason = reason }))) _ h (omega arith)
        (rw (first, second, third) refl) b.2 tt refl (omega arith) (λ e. omega (arith, e)) refl (no_tail _ _ _ _ _ _ _))

-- the words of a NEW_CONNECTION_ID, whose id is before the sixteen bytes of its token
abbrev pub id_words : ℕ → ℕ → ℕ → ℕ → List ℕ → CFrame
id_words t start stop len numbers = record (data_words t t 0 start stop len numbers) { data_offset = stop - 16 - len }

is_in_order : (retire sequence : ℕ) → retire ≤ sequence → nat_le retire sequence ≡ true
is_in_order retire sequence le = grind (arith, nat_tests)

pub new_id_reads : (payload : List ℕ) (start t sequence retire : ℕ) (fields behind_sequence behind behind_id rest : List ℕ)
    (id token : List ℕ) → HasType payload start t fields → IsNewId t → varint_at fields ≡ Ok (sequence, behind_sequence)
    → varint_at behind_sequence ≡ Ok (retire, behind) → retire ≤ sequence → id_at behind ≡ Ok (id, behind_id)
    → bytes_at 16 behind_id ≡ Ok (token, rest) → let stop = length payload - length rest in
    ReadsFrame payload start stop (id_words t start stop (length id) (sequence ∷ retire ∷ 0 ∷ 0 ∷ 0 ∷ []))
unfolding frame_at row_at
new_id_reads payload start t sequence retire fields behind_sequence behind behind_id rest id token h kind first second le third
    fourth = subst Goal (sym kind) here h
  where
    stop : ℕ
    stop = length payload - length rest

    Goal : ℕ → Type 0
    Goal t = HasType payload start t fields
        → ReadsFrame payload start stop (id_words t start stop (length id) (sequence ∷ retire ∷ 0 ∷ 0 ∷ 0 ∷ []))

    ordered : is_ordered (Number sequence ∷ Number retire ∷ []) ≡ true
    ordered = is_in_order retire sequence le

    here : Goal 0x18
    here h =
        reads_frame payload start 0x18 fields rest
        (frames.NewConnectionId
        (record { sequence = sequence; retire_prior_to = retire; id = id; reset_token = token })) _ h (omega arith)
        (rw (first, second, ordered, third, fourth) refl) tt tt refl (omega arith) (λ e. omega (arith, e)) refl refl
