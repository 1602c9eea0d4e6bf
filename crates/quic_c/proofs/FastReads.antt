-- Frames that break no rule, by their kinds.
use Rattle.std.proofs.Common.{◌≡◌, ℕ, ◌-◌, ◌<◌, ◌≤◌, ◌^◌, Bool, true, false, List, [], ◌∷◌, length, drop, Option, Some, None, Ok, refl, sym, ap, subst, ◌∙◌, inl, inr, arith}
use Rattle.std.specs.Prelude.{◌≢◌, nat_lt}
use Rattle.std.proofs.lemmas.Bool.Decides.{nat_tests}
use Rattle.std.proofs.lemmas.List.{length-drop}
use Rattle.quic_base.specs.Varint.{size}
use Rattle.quic_base.specs.declared.ids.Dir.TheVariants.{Bi, Uni}
use Rattle.quic_frame_fields.specs.Reading.{eight_at, frame_at, is_long_type, row_at, varint_at}
use Rattle.quic_frame_fields.proofs.Varints.{one_at}
use Rattle.quic_frames.specs.declared.frame.Frame.{Frame}
use Rattle.quic_frames.specs.declared.frame.Frame.TheVariants as frames
use Rattle.quic_frames.specs.declared.frame.rules.Breach.{Breach}
use Rattle.quic_frames.specs.Found.{HasItsBlocks}
use Rattle.quic_frames.specs.InRange.{HasNoTypeZero}
use Rattle.quic_frames.specs.Meaning.{meaning_of}
use Rattle.quic_frames.specs.Rules.{breach_of, broken_if, is_past_streams}
use Rattle.quic_frames.specs.Walk.{Finds, resumed}
use Rattle.quic_frames.proofs.Finding.{behind_type, found_whole}
use Rattle.quic_frames.proofs.Places.{finds}
use Rattle.quic_frames.proofs.Quick.{all_rules, keeps_any}
use Rattle.quic_c_words.specs.declared.words.CFrame.{CFrame}
use Rattle.quic_c_words.specs.Shown.{frame_kind_of, frame_words}
use Rattle.quic_c.specs.Kinds.{HasType, ReadsFrame, HasNoFields, HasTwoNumbers, IsDataLimit, IsPath, IsReset, IsRetireId, IsStreamLimit}

-- ---- a frame with its type in one byte

one_is_short : (strict : Bool) (t : ℕ) → t < 64 → is_long_type strict t 1 ≡ false
unfolding size
one_is_short true t lt = grind (arith, nat_tests)
one_is_short false t lt = refl

-- it is found where the fields of its type give it
pub finds_at : (strict : Bool) (last : Option ℕ) (payload : List ℕ) (start t : ℕ) (fields rest : List ℕ) (frame : Frame)
    → HasType payload start t fields → t < 64 → frame_at t fields ≡ Ok (meaning_of frame, rest) → HasNoTypeZero frame
    → HasItsBlocks frame fields rest
    → Finds (resumed payload start last strict) frame (resumed payload (length payload - length rest) (Some t) strict)
finds_at strict last payload start t fields rest frame h lt reads apart blocks =
    let bytes = drop start payload in
    let taken : varint_at bytes ≡ Ok (t, fields) = ap varint_at h.parts ∙ one_at t fields lt in
    let width : length bytes - length fields ≡ 1 = omega (arith, ap length h.parts) in
    let short : is_long_type strict t (length bytes - length fields) ≡ false =
    ap (is_long_type strict t) width ∙ one_is_short strict t lt in
    let some : start < length payload = omega (arith, ap length h.parts, length-drop start payload) in
    finds strict payload start last t frame rest (apart, behind_type t frame bytes fields rest taken blocks) h.octets h.within
    some (found_whole strict last t bytes fields (meaning_of frame) rest taken short reads)

pub reads_frame : (payload : List ℕ) (start t : ℕ) (fields rest : List ℕ) (frame : Frame) (words : CFrame)
    → HasType payload start t fields → t < 64 → frame_at t fields ≡ Ok (meaning_of frame, rest) → HasNoTypeZero frame
    → HasItsBlocks frame fields rest → breach_of all_rules (meaning_of frame) ≡ None → 0 < frame_kind_of frame
    → frame_kind_of frame ≢ 2 → words.ty ≡ t → words ≡ frame_words start (length payload - length rest) t frame
    → ReadsFrame payload start (length payload - length rest) words
reads_frame payload start t fields rest frame words h lt reads apart blocks none some other type shows =
    let stop = length payload - length rest in
    record {
      frame = frame;
      finds = λ strict last. subst (λ u. Finds (resumed payload start last strict) frame (resumed payload stop (Some u) strict))
          (sym type) (finds_at strict last payload start t fields rest frame h lt reads apart blocks);
      kept = λ rules. keeps_any rules frame none;
      not_padding = some;
      not_ack = other;
      shows = shows ∙ ap (λ (u : ℕ). frame_words start stop u frame) (sym type);
    }

-- ---- frames without data

abbrev pub plain_words : ℕ → ℕ → ℕ → List ℕ → CFrame
plain_words t start stop numbers = record {
  kind = t;
  ty = t;
  flags = 0;
  begin = start;
  end = stop;
  data_offset = stop;
  data_len = 0;
  numbers = numbers;
}

no_data : (t start stop : ℕ) (numbers : List ℕ)
    → plain_words t start stop numbers ≡ record (plain_words t start stop numbers) { data_offset = stop - 0 - 0 }
no_data t start stop numbers =
    ap (λ (n : ℕ). record (plain_words t start stop numbers) { data_offset = n }) (omega arith)

pub no_fields_reads : (payload : List ℕ) (start t : ℕ) (fields : List ℕ) → HasType payload start t fields
    → HasNoFields t → let stop = length payload - length fields in
    ReadsFrame payload start stop (plain_words t start stop (0 ∷ 0 ∷ 0 ∷ 0 ∷ 0 ∷ []))
unfolding frame_at row_at
no_fields_reads payload start t fields h kind =
    elim kind [
      | inl e ↦ subst Goal (sym e) ping h
      | inr e ↦ subst Goal (sym e) done h
    ]
  where
    stop : ℕ
    stop = length payload - length fields

    Goal : ℕ → Type 0
    Goal t = HasType payload start t fields → ReadsFrame payload start stop (plain_words t start stop (0 ∷ 0 ∷ 0 ∷ 0 ∷ 0 ∷ []))

    ping : Goal 0x01
    ping h =
        reads_frame payload start 0x01 fields fields frames.Ping _ h (omega arith) refl tt tt refl (omega arith)
        (λ e. omega (arith, e)) refl (no_data _ _ _ _)

    done : Goal 0x1e
    done h =
        reads_frame payload start 0x1e fields fields frames.HandshakeDone _ h (omega arith) refl tt tt refl (omega arith)
        (λ e. omega (arith, e)) refl (no_data _ _ _ _)

pub data_limit_reads : (payload : List ℕ) (start t n : ℕ) (fields rest : List ℕ) → HasType payload start t fields
    → IsDataLimit t → varint_at fields ≡ Ok (n, rest) → let stop = length payload - length rest in
    ReadsFrame payload start stop (plain_words t start stop (0 ∷ n ∷ 0 ∷ 0 ∷ 0 ∷ []))
unfolding frame_at row_at
data_limit_reads payload start t n fields rest h kind read =
    elim kind [
      | inl e ↦ subst Goal (sym e) limit h
      | inr e ↦ subst Goal (sym e) blocked h
    ]
  where
    stop : ℕ
    stop = length payload - length rest

    Goal : ℕ → Type 0
    Goal t = HasType payload start t fields → ReadsFrame payload start stop (plain_words t start stop (0 ∷ n ∷ 0 ∷ 0 ∷ 0 ∷ []))

    limit : Goal 0x10
    limit h =
        reads_frame payload start 0x10 fields rest (frames.MaxData n) _ h (omega arith) (rw read refl) tt tt refl (omega arith)
        (λ e. omega (arith, e)) refl (no_data _ _ _ _)

    blocked : Goal 0x14
    blocked h =
        reads_frame payload start 0x14 fields rest (frames.DataBlocked n) _ h (omega arith) (rw read refl) tt tt refl
        (omega arith) (λ e. omega (arith, e)) refl (no_data _ _ _ _)

few_streams : (n : ℕ) → n ≤ 2 ^ 60 → nat_lt (2 ^ 60) n ≡ false
few_streams n few = grind (arith, nat_tests)

pub stream_limit_reads : (payload : List ℕ) (start t n : ℕ) (fields rest : List ℕ) → HasType payload start t fields
    → IsStreamLimit t → varint_at fields ≡ Ok (n, rest) → n ≤ 2 ^ 60 → let stop = length payload - length rest in
    ReadsFrame payload start stop (plain_words t start stop (0 ∷ n ∷ 0 ∷ 0 ∷ 0 ∷ []))
unfolding frame_at row_at
stream_limit_reads payload start t n fields rest h kind read few =
    elim kind [
      | inl e ↦ subst Goal (sym e) bi h
      | inr others ↦ elim others [
        | inl e ↦ subst Goal (sym e) uni h
        | inr others ↦ elim others [
          | inl e ↦ subst Goal (sym e) bi_blocked h
          | inr e ↦ subst Goal (sym e) uni_blocked h
        ]
      ]
    ]
  where
    stop : ℕ
    stop = length payload - length rest

    Goal : ℕ → Type 0
    Goal t = HasType payload start t fields → ReadsFrame payload start stop (plain_words t start stop (0 ∷ n ∷ 0 ∷ 0 ∷ 0 ∷ []))

    keeps : (breach : Breach) → broken_if (is_past_streams n) breach ≡ None
    keeps breach = ap (λ b. broken_if b breach) (few_streams n few)

    bi : Goal 0x12
    bi h =
        reads_frame payload start 0x12 fields rest (frames.MaxStreams Bi n) _ h (omega arith) (rw read refl) tt tt (keeps _)
        (omega arith) (λ e. omega (arith, e)) refl (no_data _ _ _ _)

    uni : Goal 0x13
    uni h =
        reads_frame payload start 0x13 fields rest (frames.MaxStreams Uni n) _ h (omega arith) (rw read refl) tt tt (keeps _)
        (omega arith) (λ e. omega (arith, e)) refl (no_data _ _ _ _)

    bi_blocked : Goal 0x16
    bi_blocked h =
        reads_frame payload start 0x16 fields rest (frames.StreamsBlocked Bi n) _ h (omega arith) (rw read refl) tt tt
        (keeps _) (omega arith) (λ e. omega (arith, e)) refl (no_data _ _ _ _)

    uni_blocked : Goal 0x17
    uni_blocked h =
        reads_frame payload start 0x17 fields rest (frames.StreamsBlocked Uni n) _ h (omega arith) (rw read refl) tt tt
        (keeps _) (omega arith) (λ e. omega (arith, e)) refl (no_data _ _ _ _)

pub retire_id_reads : (payload : List ℕ) (start t n : ℕ) (fields rest : List ℕ) → HasType payload start t fields
    → IsRetireId t → varint_at fields ≡ Ok (n, rest) → let stop = length payload - length rest in
    ReadsFrame payload start stop (plain_words t start stop (n ∷ 0 ∷ 0 ∷ 0 ∷ 0 ∷ []))
unfolding frame_at row_at
retire_id_reads payload start t n fields rest h kind read = subst Goal (sym kind) retired h
  where
    stop : ℕ
    stop = length payload - length rest

    Goal : ℕ → Type 0
    Goal t = HasType payload start t fields → ReadsFrame payload start stop (plain_words t start stop (n ∷ 0 ∷ 0 ∷ 0 ∷ 0 ∷ []))

    retired : Goal 0x19
    retired h =
        reads_frame payload start 0x19 fields rest (frames.RetireConnectionId n) _ h (omega arith) (rw read refl) tt tt refl
        (omega arith) (λ e. omega (arith, e)) refl (no_data _ _ _ _)

pub two_numbers_reads : (payload : List ℕ) (start t a b : ℕ) (fields behind rest : List ℕ) → HasType payload start t fields
    → HasTwoNumbers t → varint_at fields ≡ Ok (a, behind) → varint_at behind ≡ Ok (b, rest)
    → let stop = length payload - length rest in
    ReadsFrame payload start stop (plain_words t start stop (a ∷ b ∷ 0 ∷ 0 ∷ 0 ∷ []))
unfolding frame_at row_at
two_numbers_reads payload start t a b fields behind rest h kind first second =
    elim kind [
      | inl e ↦ subst Goal (sym e) stops h
      | inr others ↦ elim others [
        | inl e ↦ subst Goal (sym e) limit h
        | inr e ↦ subst Goal (sym e) blocked h
      ]
    ]
  where
    stop : ℕ
    stop = length payload - length rest

    Goal : ℕ → Type 0
    Goal t = HasType payload start t fields → ReadsFrame payload start stop (plain_words t start stop (a ∷ b ∷ 0 ∷ 0 ∷ 0 ∷ []))

    stops : Goal 0x05
    stops h =
        reads_frame payload start 0x05 fields rest (frames.StopSending (record { id = a; error_code = b })) _ h (omega arith)
        (rw (first, second) refl) tt tt refl (omega arith) (λ e. omega (arith, e)) refl (no_data _ _ _ _)

    limit : Goal 0x11
    limit h =
        reads_frame payload start 0x11 fields rest (frames.MaxStreamData a b) _ h (omega arith) (rw (first, second) refl) tt tt
        refl (omega arith) (λ e. omega (arith, e)) refl (no_data _ _ _ _)

    blocked : Goal 0x15
    blocked h =
        reads_frame payload start 0x15 fields rest (frames.StreamDataBlocked a b) _ h (omega arith)
        (rw (first, second) refl) tt tt refl (omega arith) (λ e. omega (arith, e)) refl (no_data _ _ _ _)

pub reset_reads : (payload : List ℕ) (start t id code size : ℕ) (fields behind_id behind_code rest : List ℕ)
    → HasType payload start t fields → IsReset t → varint_at fields ≡ Ok (id, behind_id)
    → varint_at behind_id ≡ Ok (code, behind_code) → varint_at behind_code ≡ Ok (size, rest)
    → let stop = length payload - length rest in
    ReadsFrame payload start stop (plain_words t start stop (id ∷ code ∷ size ∷ 0 ∷ 0 ∷ []))
unfolding frame_at row_at
reset_reads payload start t id code size fields behind_id behind_code rest h kind first second third =
    subst Goal (sym kind) resets h
  where
    stop : ℕ
    stop = length payload - length rest

    Goal : ℕ → Type 0
    Goal t = HasType payload start t fields → ReadsFrame payload start stop (plain_words t start stop (id ∷ code ∷ size ∷ 0 ∷ 0 ∷ []))

    resets : Goal 0x04
    resets h =
        reads_frame payload start 0x04 fields rest
        (frames.ResetStream (record { id = id; error_code = code; final_offset = size })) _ h (omega arith)
        (rw (first, second, third) refl) tt tt refl (omega arith) (λ e. omega (arith, e)) refl (no_data _ _ _ _)

pub path_reads : (payload : List ℕ) (start t n : ℕ) (fields rest : List ℕ) → HasType payload start t fields
    → IsPath t → eight_at fields ≡ Ok (n, rest) → let stop = length payload - length rest in
    ReadsFrame payload start stop (plain_words t start stop (n ∷ 0 ∷ 0 ∷ 0 ∷ 0 ∷ []))
unfolding frame_at row_at
path_reads payload start t n fields rest h kind read =
    elim kind [
      | inl e ↦ subst Goal (sym e) challenge h
      | inr e ↦ subst Goal (sym e) response h
    ]
  where
    stop : ℕ
    stop = length payload - length rest

    Goal : ℕ → Type 0
    Goal t = HasType payload start t fields → ReadsFrame payload start stop (plain_words t start stop (n ∷ 0 ∷ 0 ∷ 0 ∷ 0 ∷ []))

    challenge : Goal 0x1a
    challenge h =
        reads_frame payload start 0x1a fields rest (frames.PathChallenge n) _ h (omega arith) (rw read refl) tt tt refl
        (omega arith) (λ e. omega (arith, e)) refl (no_data _ _ _ _)

    response : Goal 0x1b
    response h =
        reads_frame payload start 0x1b fields rest (frames.PathResponse n) _ h (omega arith) (rw read refl) tt tt refl
        (omega arith) (λ e. omega (arith, e)) refl (no_data _ _ _ _)
