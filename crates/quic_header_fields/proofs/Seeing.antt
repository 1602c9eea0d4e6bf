-- What reading one field finds, and what later fields need of the values before them.
use Rattle.std.proofs.Common.{◌≡◌, ℕ, ◌-◌, ◌≤◌, Bool, true, false, List, [], ◌∷◌, ◌++◌, length, take, drop, Some, None, refl, append-nil, length-take, length-drop, arith}
use Rattle.std.specs.Prelude.{nat_lt, ◌==◌}
use Rattle.std.specs.List.{list_any}
use Rattle.std.proofs.lemmas.Bool.Decides.{nat_tests}
use Rattle.quic_base.specs.Reading.{number_at}
use Rattle.quic_header_decode.specs.Grammar.{HeaderValue, Number, Bytes, Version, DestinationId, SourceId, Supported, TokenLength, Token, Length, ShortId, token_length_of}
use Rattle.quic_header_decode.specs.Places.{any_fixed}
use Rattle.quic_header_decode.specs.Reading.{DecodeOptions, word_at, wide_id_at, long_id_at}
use Rattle.quic_header_fields.specs.Walk.{field_in, seen_of, with_value, seen_after}

seen_number : (before : List HeaderValue) (n : ℕ) → seen_of (before ++ Number n ∷ []) ≡ with_value (seen_of before) (Some n)
seen_number [] n = refl
seen_number (a ∷ []) n = refl
seen_number (a ∷ b ∷ []) n = refl
seen_number (a ∷ b ∷ c ∷ []) n = refl
seen_number (a ∷ b ∷ c ∷ Number d ∷ []) n = refl
seen_number (a ∷ b ∷ c ∷ Number d ∷ e ∷ values) n = refl
seen_number (a ∷ b ∷ c ∷ Bytes d ∷ []) n = refl
seen_number (a ∷ b ∷ c ∷ Bytes d ∷ e ∷ values) n = refl

seen_bytes : (before : List HeaderValue) (bytes : List ℕ)
    → seen_of (before ++ Bytes bytes ∷ []) ≡ with_value (seen_of before) None
seen_bytes [] n = refl
seen_bytes (a ∷ []) n = refl
seen_bytes (a ∷ b ∷ []) n = refl
seen_bytes (a ∷ b ∷ c ∷ []) n = refl
seen_bytes (a ∷ b ∷ c ∷ Number d ∷ []) n = refl
seen_bytes (a ∷ b ∷ c ∷ Number d ∷ e ∷ values) n = refl
seen_bytes (a ∷ b ∷ c ∷ Bytes d ∷ []) n = refl
seen_bytes (a ∷ b ∷ c ∷ Bytes d ∷ e ∷ values) n = refl

-- ---- each field: found or not

pub version_seen : (known : Bool) (options : DecodeOptions) (before : List HeaderValue) (bytes : List ℕ) (n : ℕ)
    (rest : List ℕ) → word_at bytes ≡ Some (n, rest)
    → seen_after Version before (length bytes) (field_in known options Version before bytes)
    ≡ Some (n, with_value (seen_of before) (Some n), rest)
version_seen true options before bytes n rest e = rw (e, seen_number before n) refl
version_seen false options before bytes n rest e = rw (e, seen_number before n) refl

pub version_unseen : (known : Bool) (options : DecodeOptions) (before : List HeaderValue) (bytes : List ℕ)
    → word_at bytes ≡ None
    → seen_after Version before (length bytes) (field_in known options Version before bytes) ≡ None
version_unseen true options before bytes e = rw (e) refl
version_unseen false options before bytes e = rw (e) refl

pub token_length_seen : (known : Bool) (options : DecodeOptions) (before : List HeaderValue) (bytes : List ℕ) (n : ℕ)
    (rest : List ℕ) → number_at bytes ≡ Some (n, rest)
    → seen_after TokenLength before (length bytes) (field_in known options TokenLength before bytes)
    ≡ Some (n, with_value (seen_of before) (Some n), rest)
token_length_seen true options before bytes n rest e = rw (e, seen_number before n) refl
token_length_seen false options before bytes n rest e = rw (e, seen_number before n) refl

pub token_length_unseen : (known : Bool) (options : DecodeOptions) (before : List HeaderValue) (bytes : List ℕ)
    → number_at bytes ≡ None
    → seen_after TokenLength before (length bytes) (field_in known options TokenLength before bytes) ≡ None
token_length_unseen true options before bytes e = rw (e) refl
token_length_unseen false options before bytes e = rw (e) refl

pub length_seen : (known : Bool) (options : DecodeOptions) (before : List HeaderValue) (bytes : List ℕ) (n : ℕ)
    (rest : List ℕ) → number_at bytes ≡ Some (n, rest)
    → seen_after Length before (length bytes) (field_in known options Length before bytes)
    ≡ Some (n, with_value (seen_of before) (Some n), rest)
length_seen true options before bytes n rest e = rw (e, seen_number before n) refl
length_seen false options before bytes n rest e = rw (e, seen_number before n) refl

pub length_unseen : (known : Bool) (options : DecodeOptions) (before : List HeaderValue) (bytes : List ℕ)
    → number_at bytes ≡ None
    → seen_after Length before (length bytes) (field_in known options Length before bytes) ≡ None
length_unseen true options before bytes e = rw (e) refl
length_unseen false options before bytes e = rw (e) refl

pub destination_seen : (options : DecodeOptions) (before : List HeaderValue) (bytes id rest : List ℕ)
    → long_id_at bytes ≡ Some (id, rest)
    → seen_after DestinationId before (length bytes) (field_in true options DestinationId before bytes)
    ≡ Some (length id, with_value (seen_of before) None, rest)
destination_seen options before bytes id rest e = rw (e, seen_bytes before id) refl

pub destination_unseen : (options : DecodeOptions) (before : List HeaderValue) (bytes : List ℕ)
    → long_id_at bytes ≡ None
    → seen_after DestinationId before (length bytes) (field_in true options DestinationId before bytes) ≡ None
destination_unseen options before bytes e = rw (e) refl

pub source_seen : (options : DecodeOptions) (before : List HeaderValue) (bytes id rest : List ℕ)
    → long_id_at bytes ≡ Some (id, rest)
    → seen_after SourceId before (length bytes) (field_in true options SourceId before bytes)
    ≡ Some (length id, with_value (seen_of before) None, rest)
source_seen options before bytes id rest e = rw (e, seen_bytes before id) refl

pub source_unseen : (options : DecodeOptions) (before : List HeaderValue) (bytes : List ℕ)
    → long_id_at bytes ≡ None
    → seen_after SourceId before (length bytes) (field_in true options SourceId before bytes) ≡ None
source_unseen options before bytes e = rw (e) refl

pub any_destination_seen : (options : DecodeOptions) (before : List HeaderValue) (bytes id rest : List ℕ)
    → wide_id_at bytes ≡ Some (id, rest)
    → seen_after DestinationId before (length bytes) (field_in false options DestinationId before bytes)
    ≡ Some (length id, with_value (seen_of before) None, rest)
any_destination_seen options before bytes id rest e = rw (e, seen_bytes before id) refl

pub any_destination_unseen : (options : DecodeOptions) (before : List HeaderValue) (bytes : List ℕ)
    → wide_id_at bytes ≡ None
    → seen_after DestinationId before (length bytes) (field_in false options DestinationId before bytes) ≡ None
any_destination_unseen options before bytes e = rw (e) refl

pub any_source_seen : (options : DecodeOptions) (before : List HeaderValue) (bytes id rest : List ℕ)
    → wide_id_at bytes ≡ Some (id, rest)
    → seen_after SourceId before (length bytes) (field_in false options SourceId before bytes)
    ≡ Some (length id, with_value (seen_of before) None, rest)
any_source_seen options before bytes id rest e = rw (e, seen_bytes before id) refl

pub any_source_unseen : (options : DecodeOptions) (before : List HeaderValue) (bytes : List ℕ)
    → wide_id_at bytes ≡ None
    → seen_after SourceId before (length bytes) (field_in false options SourceId before bytes) ≡ None
any_source_unseen options before bytes e = rw (e) refl

pub supported_seen : (known : Bool) (id_len version : ℕ) (versions : List ℕ) (before : List HeaderValue) (bytes : List ℕ)
    → list_any (λ known. known == version) versions ≡ true
    → seen_after (Supported version) before (length bytes)
    (field_in known (any_fixed id_len versions) (Supported version) before bytes)
    ≡ Some (0, seen_of before, bytes)
supported_seen true id_len version versions before bytes e = rw (e, append-nil before) refl
supported_seen false id_len version versions before bytes e = rw (e, append-nil before) refl

pub supported_unseen : (known : Bool) (id_len version : ℕ) (versions : List ℕ) (before : List HeaderValue) (bytes : List ℕ)
    → list_any (λ known. known == version) versions ≡ false
    → seen_after (Supported version) before (length bytes)
    (field_in known (any_fixed id_len versions) (Supported version) before bytes)
    ≡ None
supported_unseen true id_len version versions before bytes e = rw (e) refl
supported_unseen false id_len version versions before bytes e = rw (e) refl

pub token_seen : (known : Bool) (options : DecodeOptions) (before : List HeaderValue) (bytes : List ℕ)
    → token_length_of before ≤ length bytes
    → seen_after Token before (length bytes) (field_in known options Token before bytes)
    ≡ Some (
      token_length_of before,
      with_value (seen_of before) (Some (length bytes - token_length_of before)),
      drop (token_length_of before) bytes,
    )
token_seen true options before bytes enough =
    let test : nat_lt (length bytes) (token_length_of before) ≡ false = grind (arith, nat_tests) in
    let left : length (drop (token_length_of before) bytes) ≡ length bytes - token_length_of before =
    length-drop (token_length_of before) bytes in
    let width : length bytes - (length bytes - token_length_of before) ≡ token_length_of before = omega (arith, enough) in
    rw (test, left, width, seen_number before (length bytes - token_length_of before)) refl
token_seen false options before bytes enough =
    let test : nat_lt (length bytes) (token_length_of before) ≡ false = grind (arith, nat_tests) in
    let left : length (drop (token_length_of before) bytes) ≡ length bytes - token_length_of before =
    length-drop (token_length_of before) bytes in
    let width : length bytes - (length bytes - token_length_of before) ≡ token_length_of before = omega (arith, enough) in
    rw (test, left, width, seen_number before (length bytes - token_length_of before)) refl

pub token_unseen : (known : Bool) (options : DecodeOptions) (before : List HeaderValue) (bytes : List ℕ)
    → nat_lt (length bytes) (token_length_of before) ≡ true
    → seen_after Token before (length bytes) (field_in known options Token before bytes) ≡ None
token_unseen true options before bytes e = rw (e) refl
token_unseen false options before bytes e = rw (e) refl

pub short_seen : (known : Bool) (id_len : ℕ) (versions : List ℕ) (before : List HeaderValue) (bytes : List ℕ)
    → id_len ≤ length bytes
    → seen_after ShortId before (length bytes) (field_in known (any_fixed id_len versions) ShortId before bytes)
    ≡ Some (id_len, with_value (seen_of before) None, drop id_len bytes)
short_seen true id_len versions before bytes enough =
    let test : nat_lt (length bytes) id_len ≡ false = grind (arith, nat_tests) in
    let width : length (take id_len bytes) ≡ id_len = omega (arith, length-take id_len bytes, enough) in
    rw (test, seen_bytes before (take id_len bytes), width) refl
short_seen false id_len versions before bytes enough =
    let test : nat_lt (length bytes) id_len ≡ false = grind (arith, nat_tests) in
    let width : length (take id_len bytes) ≡ id_len = omega (arith, length-take id_len bytes, enough) in
    rw (test, seen_bytes before (take id_len bytes), width) refl

pub short_unseen : (known : Bool) (id_len : ℕ) (versions : List ℕ) (before : List HeaderValue) (bytes : List ℕ)
    → nat_lt (length bytes) id_len ≡ true
    → seen_after ShortId before (length bytes) (field_in known (any_fixed id_len versions) ShortId before bytes) ≡ None
short_unseen true id_len versions before bytes e = rw (e) refl
short_unseen false id_len versions before bytes e = rw (e) refl
