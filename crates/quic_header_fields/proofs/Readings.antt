-- The walk over a header says what reading returns.
use Rattle.std.specs.Prelude.{nat_lt, nat_eq, not, ◌||◌, ◌&&◌}
use Rattle.std.proofs.Common.{◌≡◌, ℕ, ◌+◌, Bool, true, false, List, [], ◌∷◌, ◌++◌, length, take, Ok, Err, Result, refl, sym, ap, ◌∙◌, inl, inr, arith}
use Rattle.std.specs.List.{list_any}
use Rattle.std.specs.Option.{ok_or}
use Rattle.std.proofs.lemmas.Bool.Decides.{nat_tests}
use Rattle.quic_base.specs.ConnectionId.{long_id}
use Rattle.quic_base.specs.Number.{AreBytes, num}
use Rattle.quic_base.specs.Reading.{◌>>=◌}
use Rattle.quic_header_encode.specs.Types.{long_type}
use Rattle.quic_header_decode.specs.declared.protected.ProtectedHeader.{ProtectedHeader}
use Rattle.quic_header_decode.specs.Grammar.{HeaderField, HeaderValue, Number, Bytes, Version, DestinationId, SourceId, Supported, ShortId, typed_row, header_row_of, is_long}
use Rattle.quic_header_decode.specs.Places.{any_fixed, IsUnknownVersion}
use Rattle.quic_header_decode.specs.Reading.{DecodeOptions, at_end, bad_id, header_at, wide_at, wide_header_at, wide_id_at, word_at}
use Rattle.quic_header_decode.specs.Refusal.{Refusal, Unsupported, Invalid, NoMemory}
use Rattle.quic_header_decode.proofs.Headers.{by_rows, finish, made, reassoc, word_says}
use Rattle.quic_header_decode.specs.Fields.{Taken}
use Rattle.quic_header_decode.proofs.Rows.{row_at, known_at}
use Rattle.quic_header_decode.proofs.Steps.{option_ok, otherwise, taken, bool_cases, take_front}
use Rattle.quic_header_decode.proofs.Wide.{Agrees, Read, header_agrees, unknown_found}
use Rattle.quic_header_fields.specs.Spans.{is_known}
use Rattle.quic_header_fields.specs.Walk.{after_field, field_in, walk_at, header_walk}
use Rattle.quic_header_fields.proofs.WalkSteps.{others_of}

-- ---- rows

bind_same : {A B : Type 0} (r : Result A Refusal) (f g : A → Result B Refusal) → ((x : A) → f x ≡ g x)
    → (r >>= f) ≡ (r >>= g)
bind_same (Ok x) f g same = same x
bind_same (Err e) f g same = refl

-- its values and what is left go to finish
abbrev row_in : {B : Type 0} → Bool → DecodeOptions → List HeaderField → List HeaderValue → List ℕ
    → (List HeaderValue → List ℕ → Result B Refusal) → Result B Refusal
row_in known options [] before bytes finish = finish before bytes
row_in known options (field ∷ fields) before bytes finish =
    field_in known options field before bytes >>= λ x. row_in known options fields (before ++ x.0) x.1 finish

step_row : {B : Type 0} (known : Bool) (options : DecodeOptions) (index start : ℕ) (field : HeaderField)
    (fields : List HeaderField) (before : List HeaderValue) (total : ℕ)
    (finish : List HeaderValue → List ℕ → Result B Refusal) (r : Result Taken Refusal)
    → ((end : ℕ) (seen : List HeaderValue) (left : List ℕ)
    → ((walk_at known options (index + 1) end fields seen left).1 >>= λ x. finish x.0 x.1)
    ≡ row_in known options fields seen left finish)
    → ((after_field index start field total (others_of known options index fields before) r).1 >>= λ x. finish x.0 x.1)
    ≡ (r >>= λ x. row_in known options fields (before ++ x.0) x.1 finish)
step_row known options index start field fields before total finish (Err e) others = refl
step_row known options index start field fields before total finish (Ok x) others = others _ (before ++ x.0) x.1

walk_row : {B : Type 0} (known : Bool) (options : DecodeOptions) (index start : ℕ) (fields : List HeaderField)
    (before : List HeaderValue) (bytes : List ℕ) (finish : List HeaderValue → List ℕ → Result B Refusal)
    → ((walk_at known options index start fields before bytes).1 >>= λ x. finish x.0 x.1)
    ≡ row_in known options fields before bytes finish
walk_row known options index start [] before bytes finish = refl
walk_row known options index start (field ∷ fields) before bytes finish =
    step_row known options index start field fields before (length bytes) finish (field_in known options field before bytes)
    (λ end seen left. walk_row known options (index + 1) end fields seen left finish)

row_known : {B : Type 0} (options : DecodeOptions) (fields : List HeaderField) (before : List HeaderValue)
    (bytes : List ℕ) (finish : List HeaderValue → List ℕ → Result B Refusal)
    → row_in true options fields before bytes finish ≡ row_at options fields before bytes finish
row_known options [] before bytes finish = refl
row_known options (field ∷ fields) before bytes finish =
    bind_same (field_in true options field before bytes) _ _
    (λ x. row_known options fields (before ++ x.0) x.1 finish)

-- ---- known versions

same_read : (w other : Read) → Agrees w other
    → ((src dst : List ℕ) (version : ℕ) → w ≡ Err (Unsupported src dst version) → ⊥) → other ≡ w
same_read (Ok x) other agrees none = agrees
same_read (Err (Unsupported src dst version)) other agrees none = absurd (none src dst version refl)
same_read (Err (Invalid text)) other agrees none = agrees
same_read (Err NoMemory) other agrees none = agrees

-- the version that an unknown version's header says is the one by which its row is chosen
pub not_unknown : (id_len : ℕ) (versions : List ℕ) (first : ℕ) (text : List ℕ) (version : ℕ) (dst src : List ℕ)
    → IsUnknownVersion (any_fixed id_len versions) (first ∷ text) version dst src
    → (is_long first ≡ true) × (is_known (any_fixed id_len versions) (num (take 4 text)) ≡ false)
not_unknown id_len versions first text version dst src (rest, (f, number, split, long, is), some, none) =
    let behind : List ℕ = long_id dst ++ (long_id src ++ rest) in
    let same_first : first ≡ f = cc in
    let same_text : text ≡ number ++ behind = cc in
    let same : num (take 4 text) ≡ version =
    ap (λ (xs : List ℕ). num (take 4 xs)) same_text ∙ ap num (take_front number behind 4 is.width) ∙ is.value in
    let zero : nat_eq version 0 ≡ false = grind (arith, nat_tests, some) in
    let new : list_any (λ known. nat_eq known version) versions ≡ false =
    elim (bool_cases (list_any (λ known. nat_eq known version) versions)) [
      | inl among ↦ absurd (none (known_at versions version among))
      | inr other ↦ other
    ] in
    (ap is_long same_first ∙ long, rw (same, zero, new) refl)

read_known : (id_len : ℕ) (versions : List ℕ) (first : ℕ) (text : List ℕ) → AreBytes (first ∷ text)
    → ((is_long first ≡ true) × (is_known (any_fixed id_len versions) (num (take 4 text)) ≡ false) → ⊥)
    → header_at (any_fixed id_len versions) (length (first ∷ text)) (first ∷ text)
    ≡ wide_header_at id_len versions (length (first ∷ text)) (first ∷ text)
read_known id_len versions first text fits known =
    same_read (wide_header_at id_len versions (length (first ∷ text)) (first ∷ text)) _
    (header_agrees id_len versions (length (first ∷ text)) (first ∷ text))
    (λ src dst version e. known (not_unknown id_len versions first text version dst src
    (unknown_found id_len versions (length (first ∷ text)) (first ∷ text) src dst version fits e)))

-- ---- other versions

not_either : (a b : Bool) → (a || b) ≡ false → (a ≡ false) × (b ≡ false)
not_either true b e = absurd cc
not_either false b e = (refl, e)

unknown_row : (id_len : ℕ) (versions : List ℕ) (whole first : ℕ) (text : List ℕ) (fields : List HeaderField)
    → is_known (any_fixed id_len versions) (num (take 4 text)) ≡ false
    → wide_at versions whole first text
    ≡ row_in false (any_fixed id_len versions)
    (Version ∷ DestinationId ∷ SourceId ∷ Supported (num (take 4 text)) ∷ fields) [] text (finish whole first)
unfolding wide_at
unknown_row id_len versions whole first text fields new =
    reassoc (ok_or (word_at text) at_end) (λ x. (Number x.0 ∷ [], x.1)) _ _
    (λ version e. reassoc (ok_or (wide_id_at version.1) bad_id) (λ x. (Bytes x.0 ∷ [], x.1)) _ _
    (λ dst f. reassoc (ok_or (wide_id_at dst.1) bad_id) (λ x. (Bytes x.0 ∷ [], x.1)) _ _
    (λ src g.
    let same : num (take 4 text) ≡ version.0 = word_says text version (option_ok (word_at text) at_end version e) in
    let tests = not_either (nat_eq version.0 0) (list_any (λ known. nat_eq known version.0) versions)
    (ap (λ (n : ℕ). is_known (any_fixed id_len versions) n) (sym same) ∙ new) in
    let test : (not (nat_eq version.0 0) && not (list_any (λ known. nat_eq known version.0) versions)) ≡ true =
    rw (tests.0, tests.1) refl in
    let other : not (list_any (λ known. nat_eq known version.0) versions) ≡ true = rw (tests.1) refl in
    taken _ _ _ _ test (rw (same, other) refl))))

-- ---- both

walk_says : (id_len : ℕ) (versions : List ℕ) (first : ℕ) (text : List ℕ) (long known : Bool) → AreBytes (first ∷ text)
    → is_long first ≡ long → is_known (any_fixed id_len versions) (num (take 4 text)) ≡ known
    → row_in known (any_fixed id_len versions) (header_row_of first (num (take 4 text))) [] text
    (finish (length (first ∷ text)) first)
    ≡ wide_header_at id_len versions (length (first ∷ text)) (first ∷ text)
unfolding wide_header_at
walk_says id_len versions first text long true fits is same =
    row_known (any_fixed id_len versions) (header_row_of first (num (take 4 text))) [] text (finish (length (first ∷ text)) first)
    ∙ sym (by_rows (any_fixed id_len versions) (length (first ∷ text)) first text)
    ∙ read_known id_len versions first text fits (λ bad. (let clash : true ≡ false = sym same ∙ bad.1 in cc))
walk_says id_len versions first text false false fits is same =
    let options = any_fixed id_len versions in
    let whole = length (first ∷ text) in
    let row : header_row_of first (num (take 4 text)) ≡ ShortId ∷ [] = rw (is) refl in
    ap (λ (fields : List HeaderField). row_in false options fields [] text (finish whole first)) row
    ∙ ap (λ (fields : List HeaderField). row_at options fields [] text (finish whole first)) (sym row)
    ∙ sym (by_rows options whole first text)
    ∙ read_known id_len versions first text fits (λ bad. (let clash : true ≡ false = sym bad.0 ∙ is in cc))
walk_says id_len versions first text true false fits is same =
    let options = any_fixed id_len versions in
    let whole = length (first ∷ text) in
    let version = num (take 4 text) in
    let tests = not_either (nat_eq version 0) (list_any (λ known. nat_eq known version) versions) same in
    let row : header_row_of first version
    ≡ Version ∷ DestinationId ∷ SourceId ∷ Supported version ∷ typed_row (long_type version first) =
    rw (is, tests.0) refl in
    ap (λ (fields : List HeaderField). row_in false options fields [] text (finish whole first)) row
    ∙ sym (unknown_row id_len versions whole first text (typed_row (long_type version first)) same)
    ∙ sym (otherwise (nat_lt first 128) _ _ _ (grind (arith, nat_tests)) refl)

whole_says : (id_len : ℕ) (versions : List ℕ) (first : ℕ) (text : List ℕ) → AreBytes (first ∷ text)
    → ((header_walk (any_fixed id_len versions) (first ∷ text)).1 >>= λ x. finish (length (first ∷ text)) first x.0 x.1)
    ≡ wide_header_at id_len versions (length (first ∷ text)) (first ∷ text)
whole_says id_len versions first text fits =
    let version = num (take 4 text) in
    let known = is_known (any_fixed id_len versions) version in
    walk_row known (any_fixed id_len versions) 1 1 (header_row_of first version) [] text (finish (length (first ∷ text)) first)
    ∙ walk_says id_len versions first text (is_long first) known fits refl refl

pub walk_refuses : (id_len : ℕ) (versions bytes : List ℕ) (e : Refusal) → AreBytes bytes
    → (header_walk (any_fixed id_len versions) bytes).1 ≡ Err e
    → wide_header_at id_len versions (length bytes) bytes ≡ Err e
unfolding wide_header_at
walk_refuses id_len versions [] e fits h = ap (λ (r : Refusal). let q : Read = Err r in q) (let same : at_end ≡ e = cc in same)
walk_refuses id_len versions (first ∷ text) e fits h =
    sym (whole_says id_len versions first text fits)
    ∙ ap (λ (r : Result Taken Refusal). r >>= λ x. finish (length (first ∷ text)) first x.0 x.1) h

pub walk_finds : (id_len : ℕ) (versions bytes : List ℕ) (x : Taken) → AreBytes bytes
    → (header_walk (any_fixed id_len versions) bytes).1 ≡ Ok x
    → (h : ProtectedHeader) × (wide_header_at id_len versions (length bytes) bytes ≡ Ok (h, x.1))
walk_finds id_len versions [] x fits h = absurd cc
walk_finds id_len versions (first ∷ text) x fits h = (
  made (length (first ∷ text)) first x.0,
  sym (whole_says id_len versions first text fits)
      ∙ ap (λ (r : Result Taken Refusal). r >>= λ y. finish (length (first ∷ text)) first y.0 y.1) h,
)
