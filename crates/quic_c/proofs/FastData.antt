-- Frames with data that break no rule, by their kinds.
use Rattle.std.proofs.Common.{◌≡◌, ℕ, ◌+◌, ◌-◌, ◌<◌, ◌^◌, Bool, true, false, Bor, List, [], ◌∷◌, length, Some, None, Ok, refl, sym, ap, subst, ◌∙◌, inl, inr, eqb, bit_and, arith}
use Rattle.std.specs.Prelude.{◌==◌, not, if◌then◌else◌}
use Rattle.std.proofs.lemmas.Bool.Decides.{nat_tests}
use Rattle.quic_frame_fields.specs.Field.{Value, Number, Bytes}
use Rattle.quic_frame_fields.specs.Reading.{frame_at, row_at, varint_at, counted_at, field_at, in_row}
use Rattle.quic_frame_fields.specs.Table.{row_of, stream_row, datagram_row, offset_field, data_field}
use Rattle.quic_frames.specs.declared.frame.Frame.TheVariants as frames
use Rattle.quic_frames.specs.declared.frame.rules.Breach.{Breach}
use Rattle.quic_frames.specs.Meaning.{meaning_of}
use Rattle.quic_frames.specs.Rules.{broken_if, ends_past}
use Rattle.quic_c_words.specs.declared.words.CFrame.{CFrame}
use Rattle.quic_c.specs.Kinds.{HasType, ReadsFrame, IsCrypto, IsDatagram, IsToken}
use Rattle.quic_c.proofs.FastReads.{reads_frame}

-- the words of a frame that ends with so many bytes of data
abbrev pub data_words : ℕ → ℕ → ℕ → ℕ → ℕ → ℕ → List ℕ → CFrame
data_words kind t flags start stop len numbers = record {
  kind = kind;
  ty = t;
  flags = flags;
  begin = start;
  end = stop;
  data_offset = stop - len;
  data_len = len;
  numbers = numbers;
}

pub no_tail : (kind t flags start stop len : ℕ) (numbers : List ℕ)
    → data_words kind t flags start stop len numbers
    ≡ record (data_words kind t flags start stop len numbers) { data_offset = stop - 0 - len }
no_tail kind t flags start stop len numbers =
    ap (λ (n : ℕ). record (data_words kind t flags start stop len numbers) { data_offset = n }) (omega arith)

not_past : (offset len : ℕ) → offset + len < 2 ^ 62 → ends_past offset len ≡ false
not_past offset len lt = grind (arith, nat_tests)

pub crypto_reads : (payload : List ℕ) (start t offset : ℕ) (fields behind rest : List ℕ) (sent : Bor (List ℕ))
    → HasType payload start t fields → IsCrypto t → varint_at fields ≡ Ok (offset, behind)
    → counted_at behind ≡ Ok (sent.now, rest) → offset + length sent.now < 2 ^ 62
    → let stop = length payload - length rest in
    ReadsFrame payload start stop (data_words t t 0 start stop (length sent.now) (0 ∷ offset ∷ 0 ∷ 0 ∷ 0 ∷ []))
unfolding frame_at row_at
crypto_reads payload start t offset fields behind rest sent h kind first second small = subst Goal (sym kind) here h
  where
    stop : ℕ
    stop = length payload - length rest

    Goal : ℕ → Type 0
    Goal t = HasType payload start t fields
        → ReadsFrame payload start stop (data_words t t 0 start stop (length sent.now) (0 ∷ offset ∷ 0 ∷ 0 ∷ 0 ∷ []))

    keeps : (breach : Breach) → broken_if (ends_past offset (length sent.now)) breach ≡ None
    keeps breach = ap (λ b. broken_if b breach) (not_past offset (length sent.now) small)

    here : Goal 0x06
    here h =
        reads_frame payload start 0x06 fields rest (frames.Crypto (record { offset = offset; bytes = sent })) _ h
        (omega arith) (rw (first, second) refl) tt tt (keeps _) (omega arith) (λ e. omega (arith, e)) refl
        (no_tail _ _ _ _ _ _ _)

pub stream_reads : (payload : List ℕ) (start t id offset : ℕ) (has_offset has_length fin : Bool)
    (fields behind behind_offset rest : List ℕ) (sent : Bor (List ℕ)) → HasType payload start t fields
    → t < 64 → row_of t ≡ Some (stream_row has_offset has_length fin) → varint_at fields ≡ Ok (id, behind)
    → ((before : List Value) → field_at (offset_field has_offset) before behind ≡ Ok (Number offset ∷ [], behind_offset))
    → ((before : List Value) → field_at (data_field has_length) before behind_offset ≡ Ok (Bytes sent.now ∷ [], rest))
    → offset + length sent.now < 2 ^ 62 → let stop = length payload - length rest in
    ReadsFrame payload start stop
    (data_words 8 t (if fin then 1 else 0) start stop (length sent.now) (id ∷ offset ∷ 0 ∷ 0 ∷ 0 ∷ []))
unfolding frame_at row_at
stream_reads payload start t id offset has_offset has_length fin fields behind behind_offset rest sent h lt row first second
    third small =
    reads_frame payload start t fields rest (frames.Stream (record { id = id; offset = offset; fin = fin; bytes = sent })) _ h
    lt reads tt tt (keeps _) (omega arith) (λ e. omega (arith, e)) refl (no_tail _ _ _ _ _ _ _)
  where
    keeps : (breach : Breach) → broken_if (ends_past offset (length sent.now)) breach ≡ None
    keeps breach = ap (λ b. broken_if b breach) (not_past offset (length sent.now) small)

    flags : ℕ
    flags = if fin then 1 else 0

    reads : frame_at t fields
        ≡ Ok (meaning_of (frames.Stream (record { id = id; offset = offset; fin = fin; bytes = sent })), rest)
    reads =
        ap (λ r. in_row r fields) row
        ∙ rw (first, second (Number flags ∷ Number id ∷ []), third (Number flags ∷ Number id ∷ Number offset ∷ [])) refl

not_empty : (n : ℕ) → 0 < n → (n == 0) ≡ false
not_empty n some = grind (arith, nat_tests)

pub token_reads : (payload : List ℕ) (start t : ℕ) (fields rest : List ℕ) (sent : Bor (List ℕ))
    → HasType payload start t fields → IsToken t → counted_at fields ≡ Ok (sent.now, rest) → 0 < length sent.now
    → let stop = length payload - length rest in
    ReadsFrame payload start stop (data_words t t 0 start stop (length sent.now) (0 ∷ 0 ∷ 0 ∷ 0 ∷ 0 ∷ []))
unfolding frame_at row_at
token_reads payload start t fields rest sent h kind first some = subst Goal (sym kind) here h
  where
    stop : ℕ
    stop = length payload - length rest

    Goal : ℕ → Type 0
    Goal t = HasType payload start t fields
        → ReadsFrame payload start stop (data_words t t 0 start stop (length sent.now) (0 ∷ 0 ∷ 0 ∷ 0 ∷ 0 ∷ []))

    keeps : (breach : Breach) → broken_if (length sent.now == 0) breach ≡ None
    keeps breach = ap (λ b. broken_if b breach) (not_empty (length sent.now) some)

    here : Goal 0x07
    here h =
        reads_frame payload start 0x07 fields rest (frames.NewToken (record { token = sent })) _ h (omega arith)
        (rw first refl) tt tt (keeps _) (omega arith) (λ e. omega (arith, e)) refl (no_tail _ _ _ _ _ _ _)

abbrev has_low_bit : ℕ → Bool
has_low_bit t = not (eqb (bit_and t 1) 0)

-- the fields of a DATAGRAM
datagram_at : (has_length : Bool) (fields rest : List ℕ) (sent : Bor (List ℕ))
    → field_at (data_field has_length) [] fields ≡ Ok (Bytes sent.now ∷ [], rest)
    → row_at (datagram_row has_length) fields ≡ Ok (meaning_of (frames.Datagram (record { bytes = sent })), rest)
unfolding row_at
datagram_at has_length fields rest sent read = rw read refl

pub datagram_reads : (payload : List ℕ) (start t : ℕ) (fields rest : List ℕ) (sent : Bor (List ℕ))
    → HasType payload start t fields → IsDatagram t
    → ((before : List Value) → field_at (data_field (not (eqb (bit_and t 1) 0))) before fields
    ≡ Ok (Bytes sent.now ∷ [], rest)) → let stop = length payload - length rest in
    ReadsFrame payload start stop (data_words 0x30 t 0 start stop (length sent.now) (0 ∷ 0 ∷ 0 ∷ 0 ∷ 0 ∷ []))
unfolding frame_at row_at
datagram_reads payload start t fields rest sent h kind reads =
    elim kind [
      | inl e ↦ subst Goal (sym e) open_ h reads
      | inr e ↦ subst Goal (sym e) counted h reads
    ]
  where
    stop : ℕ
    stop = length payload - length rest

    Goal : ℕ → Type 0
    Goal t = HasType payload start t fields
        → ((before : List Value) → field_at (data_field (has_low_bit t)) before fields ≡ Ok (Bytes sent.now ∷ [], rest))
        → ReadsFrame payload start stop (data_words 0x30 t 0 start stop (length sent.now) (0 ∷ 0 ∷ 0 ∷ 0 ∷ 0 ∷ []))

    open_ : Goal 0x30
    open_ h read =
        reads_frame payload start 0x30 fields rest (frames.Datagram (record { bytes = sent })) _ h (omega arith)
        (datagram_at false fields rest sent (read [])) tt tt refl (omega arith) (λ e. omega (arith, e)) refl
        (no_tail _ _ _ _ _ _ _)

    counted : Goal 0x31
    counted h read =
        reads_frame payload start 0x31 fields rest (frames.Datagram (record { bytes = sent })) _ h (omega arith)
        (datagram_at true fields rest sent (read [])) tt tt refl (omega arith) (λ e. omega (arith, e)) refl
        (no_tail _ _ _ _ _ _ _)
