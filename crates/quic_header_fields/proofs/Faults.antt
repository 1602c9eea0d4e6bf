-- The field at fault of a packet that isn't complete although its header is.
use Rattle.std.proofs.Common.{◌≡◌, ℕ, suc, ◌+◌, ◌-◌, ◌<◌, ◌≤◌, Bool, true, false, List, [], ◌∷◌, ◌++◌, length, map, take, slice_set, Some, Ok, Err, Result, refl, sym, ap, subst, ◌∙◌, length-append, arith}
use Rattle.std.proofs.lemmas.Bool.Decides.{nat_tests}
use Rattle.std.specs.Prelude.{nat_lt}
use Rattle.quic_base.specs.Number.{num}
use Rattle.quic_fields.specs.declared.field.Span.{Span}
use Rattle.quic_fields.specs.Spans.{AreInRow}
use Rattle.quic_fields.specs.Walk.{stored, last_end}
use Rattle.quic_header_decode.specs.declared.protected.ProtectedHeader.{ProtectedHeader}
use Rattle.quic_header_decode.specs.Fields.{Taken}
use Rattle.quic_header_decode.specs.Grammar.{HeaderField, HeaderValue, header_row_of, is_long}
use Rattle.quic_header_decode.specs.Reading.{DecodeOptions, word_at}
use Rattle.quic_header_decode.specs.Refusal.{Refusal}
use Rattle.quic_header_decode.proofs.Headers.{word_says}
use Rattle.quic_header_fields.specs.After.{bytes_span}
use Rattle.quic_header_fields.specs.Fault.{but_last, cut_walk, partial_spans, AreStored}
use Rattle.quic_header_fields.specs.Spans.{span, first_span, is_known, IsHeaderAt}
use Rattle.quic_header_fields.specs.Walk.{Walked, after_field, field_in, walk_at, header_walk}
use Rattle.quic_header_fields.proofs.HeaderLaws.{header_walk_again, header_in_row}
use Rattle.quic_header_fields.proofs.Walks.{fields_any, walk_again, walk_in_row, last_in_row}
use Rattle.quic_header_fields.proofs.WalkSteps.{others_of}

-- ---- all but the last

pub but_last_is : {X Y : Type 0} (f : X → Y) (xs : List X) → map f (take (length xs - 1) xs) ≡ but_last (map f xs)
but_last_is f [] = refl
but_last_is f (x ∷ []) = refl
but_last_is f (x ∷ y ∷ xs) =
    let less : length (x ∷ y ∷ xs) - 1 ≡ suc (length (y ∷ xs) - 1) = omega arith in
    ap (λ (k : ℕ). map f (take k (x ∷ y ∷ xs))) less ∙ ap (λ l. f x ∷ l) (but_last_is f (y ∷ xs))

cons_but_last : {X : Type 0} (x : X) (xs : List X) → 0 < length xs → but_last (x ∷ xs) ≡ x ∷ but_last xs
cons_but_last x [] some = absurd (omega (arith, some))
cons_but_last x (y ∷ xs) some = refl

after_count : (known : Bool) (options : DecodeOptions) (index start : ℕ) (field : HeaderField) (fields : List HeaderField)
    (before : List HeaderValue) (bytes : List ℕ) (x : Taken) (r : Result Taken Refusal)
    → ((end : ℕ) (seen : List HeaderValue) (left : List ℕ) → (walk_at known options (index + 1) end fields seen left).1 ≡ Ok x
    → length (walk_at known options (index + 1) end fields seen left).0 ≡ length fields)
    → (after_field index start field (length bytes) (others_of known options index fields before) r).1 ≡ Ok x
    → length (after_field index start field (length bytes) (others_of known options index fields before) r).0
    ≡ suc (length fields)
after_count known options index start field fields before bytes x (Err d) others e = absurd cc
after_count known options index start field fields before bytes x (Ok y) others e =
    ap suc (others (start + (length bytes - length y.1)) (before ++ y.0) y.1 e)

walk_count : (known : Bool) (options : DecodeOptions) (index start : ℕ) (fields : List HeaderField)
    (before : List HeaderValue) (bytes : List ℕ) (x : Taken) → (walk_at known options index start fields before bytes).1 ≡ Ok x
    → length (walk_at known options index start fields before bytes).0 ≡ length fields
walk_count known options index start [] before bytes x e = refl
walk_count known options index start (field ∷ fields) before bytes x e =
    after_count known options index start field fields before bytes x (field_in known options field before bytes)
    (λ end seen left. walk_count known options (index + 1) end fields seen left x) e

after_one : (known : Bool) (options : DecodeOptions) (index start : ℕ) (field : HeaderField) (before : List HeaderValue)
    (bytes : List ℕ) (x : Taken) (r : Result Taken Refusal)
    → (after_field index start field (length bytes) (others_of known options index [] before) r).1 ≡ Ok x
    → [] ≡ but_last (after_field index start field (length bytes) (others_of known options index [] before) r).0
after_one known options index start field before bytes x (Err d) e = absurd cc
after_one known options index start field before bytes x (Ok y) e = refl

after_more : (known : Bool) (options : DecodeOptions) (index start : ℕ) (field next : HeaderField) (fields : List HeaderField)
    (before : List HeaderValue) (bytes : List ℕ) (x : Taken) (r : Result Taken Refusal)
    → ((end : ℕ) (seen : List HeaderValue) (left : List ℕ)
    → (walk_at known options (index + 1) end (next ∷ fields) seen left).1 ≡ Ok x
    → (walk_at known options (index + 1) end (but_last (next ∷ fields)) seen left).0
    ≡ but_last (walk_at known options (index + 1) end (next ∷ fields) seen left).0)
    → (after_field index start field (length bytes) (others_of known options index (next ∷ fields) before) r).1 ≡ Ok x
    → (after_field index start field (length bytes) (others_of known options index (but_last (next ∷ fields)) before) r).0
    ≡ but_last (after_field index start field (length bytes) (others_of known options index (next ∷ fields) before) r).0
after_more known options index start field next fields before bytes x (Err d) others e = absurd cc
after_more known options index start field next fields before bytes x (Ok y) others e =
    let n = length bytes - length y.1 in
    let w = walk_at known options (index + 1) (start + n) (next ∷ fields) (before ++ y.0) y.1 in
    let count = walk_count known options (index + 1) (start + n) (next ∷ fields) (before ++ y.0) y.1 x e in
    ap (λ (l : List Span). span index start field y.0 n ∷ l) (others (start + n) (before ++ y.0) y.1 e)
    ∙ sym (cons_but_last (span index start field y.0 n) w.0 (omega (arith, count)))

walk_but_last : (known : Bool) (options : DecodeOptions) (index start : ℕ) (fields : List HeaderField)
    (before : List HeaderValue) (bytes : List ℕ) (x : Taken) → (walk_at known options index start fields before bytes).1 ≡ Ok x
    → (walk_at known options index start (but_last fields) before bytes).0
    ≡ but_last (walk_at known options index start fields before bytes).0
walk_but_last known options index start [] before bytes x e = refl
walk_but_last known options index start (field ∷ []) before bytes x e =
    after_one known options index start field before bytes x (field_in known options field before bytes) e
walk_but_last known options index start (field ∷ next ∷ fields) before bytes x e =
    after_more known options index start field next fields before bytes x (field_in known options field before bytes)
    (λ end seen left. walk_but_last known options (index + 1) end (next ∷ fields) seen left x) e

-- ---- the header without its last field

some_fields : (first version : ℕ) (b : Bool) → is_long first ≡ b → 0 < length (header_row_of first version)
some_fields first version true e = rw (e) (omega arith)
some_fields first version false e = rw (e) (omega arith)

pub cut_is : (options : DecodeOptions) (whole : ℕ) (bytes : List ℕ) (h : ProtectedHeader) (all : List Span) (rest : List ℕ)
    → IsHeaderAt options whole bytes h all rest → cut_walk options bytes ≡ but_last all
cut_is options whole bytes h spans rest (first, text, values, others, split, all, fields, is) =
    let version = num (take 4 text) in
    let known = is_known options version in
    let row = header_row_of first version in
    let any = fields_any known options 1 1 row [] others values text rest fields in
    let walked = walk_again known options 1 1 row [] others values text rest any in
    let read : (walk_at known options 1 1 row [] text).1 ≡ Ok (values, rest) = ap (λ (w : Walked). w.1) walked in
    let listed : (walk_at known options 1 1 row [] text).0 ≡ others = ap (λ (w : Walked). w.0) walked in
    let count = walk_count known options 1 1 row [] text (values, rest) read in
    let some = some_fields first version (is_long first) refl in
    let cut = walk_but_last known options 1 1 row [] text (values, rest) read ∙ ap but_last listed in
    rw (split, all, cons_but_last (first_span first) others (omega (arith, count, ap length listed, some)))
    (ap (λ (l : List Span). first_span first ∷ l) cut)

cut_row : (options : DecodeOptions) (bytes : List ℕ) → AreInRow 0 (cut_walk options bytes) (last_end 0 (cut_walk options bytes))
cut_row options [] = refl
cut_row options (first ∷ text) =
    let version = num (take 4 text) in
    (refl, omega arith, walk_in_row (is_known options version) options 1 1 (but_last (header_row_of first version)) [] text)

pub stored_cut : (options : DecodeOptions) (whole : ℕ) (bytes : List ℕ) (h : ProtectedHeader) (all : List Span) (rest : List ℕ)
    (old new : List Span) (count end : ℕ) → IsHeaderAt options whole bytes h all rest
    → new ≡ stored 0 (cut_walk options bytes) old → count ≡ length (cut_walk options bytes)
    → end ≡ last_end 0 (cut_walk options bytes) → AreStored (but_last all) old new count end
stored_cut options whole bytes h all rest old new count end s there counted ended =
    let same = cut_is options whole bytes h all rest s in
    record {
      room = there ∙ ap (λ (l : List Span). stored 0 l old) same;
      all = counted ∙ ap length same;
      stop = rw (ended, ← same) (cut_row options bytes);
    }

pub long_cut : (options : DecodeOptions) (first version : ℕ) (known : Bool) (text rest bytes : List ℕ)
    (fields : List HeaderField)
    → bytes ≡ first ∷ text → word_at text ≡ Some (version, rest) → known ≡ is_known options version
    → fields ≡ but_last (header_row_of first version)
    → cut_walk options bytes ≡ first_span first ∷ (walk_at known options 1 1 fields [] text).0
long_cut options first version known text rest bytes fields split word is row =
    let same : num (take 4 text) ≡ version = word_says text (version, rest) word in
    rw (split, same, is, row) refl

-- ---- a Retry without a token or a tag

stored_last : (index : ℕ) (spans room : List Span) (p : Span)
    → slice_set (stored index spans room) (index + length spans) p ≡ stored index (spans ++ p ∷ []) room
stored_last index [] room p = ap (λ (k : ℕ). slice_set room k p) (omega arith)
stored_last index (q ∷ ps) room p =
    ap (λ (k : ℕ). slice_set (stored index (q ∷ ps) room) k p)
    (let e : index + length (q ∷ ps) ≡ index + 1 + length ps = omega arith in e)
    ∙ stored_last (index + 1) ps (slice_set room index q) p

in_row_last : (start end : ℕ) (spans : List Span) (index number : ℕ) → AreInRow start spans end
    → AreInRow start (spans ++ bytes_span index end 0 number ∷ []) end
in_row_last start end [] index number r = (sym r, omega arith, omega arith)
in_row_last start end (p ∷ ps) index number r = (r.0, r.1, in_row_last p.end end ps index number r.2)

partial_whole : (spans : List Span) (end n : ℕ) → 16 ≤ n → partial_spans spans end n ≡ spans
partial_whole spans end n h =
    let t : nat_lt n 16 ≡ false = grind (arith, nat_tests, h) in
    rw (t) refl

partial_cut : (spans : List Span) (end n : ℕ) → n < 16
    → partial_spans spans end n ≡ spans ++ bytes_span (length spans) end 0 0 ∷ []
partial_cut spans end n h =
    let t : nat_lt n 16 ≡ true = grind (arith, nat_tests, h) in
    rw (t) refl

record IsPlaced (bytes : List ℕ) (all : List Span) (rest : List ℕ) (end : ℕ) : Type 0 where
  row : AreInRow 0 all end
  left : length rest ≡ length bytes - end

placed : (options : DecodeOptions) (whole : ℕ) (bytes : List ℕ) (h : ProtectedHeader) (all : List Span) (rest : List ℕ)
    (end : ℕ) → IsHeaderAt options whole bytes h all rest → end ≡ last_end 0 all → IsPlaced bytes all rest end
placed options whole bytes h all rest end s ended =
    let r = header_in_row options whole bytes h all rest s in
    let same : end ≡ length r.0 = ended ∙ last_in_row 0 (length r.0) all r.2 in
    record {
      row = subst (AreInRow 0 all) (sym same) r.2;
      left = omega (arith, same, ap length r.1, length-append r.0 rest);
    }

pub stored_whole : (options : DecodeOptions) (whole : ℕ) (bytes : List ℕ) (h : ProtectedHeader) (all : List Span)
    (rest : List ℕ) (old new : List Span) (count end : ℕ) → IsHeaderAt options whole bytes h all rest
    → new ≡ stored 0 (header_walk options bytes).0 old → count ≡ length (header_walk options bytes).0
    → end ≡ last_end 0 (header_walk options bytes).0 → 16 ≤ length bytes - end
    → AreStored (partial_spans all end (length rest)) old new count end
stored_whole options whole bytes h all rest old new count end s there counted ended more =
    let again = header_walk_again options whole bytes h all rest s in
    let same : (header_walk options bytes).0 ≡ all = ap (λ (w : Walked). w.0) again.1 in
    let p = placed options whole bytes h all rest end s (ended ∙ ap (last_end 0) same) in
    let is = partial_whole all end (length rest) (omega (arith, more, p.left)) in
    record {
      room = there ∙ ap (λ (l : List Span). stored 0 l old) (same ∙ sym is);
      all = counted ∙ ap length (same ∙ sym is);
      stop = subst (λ (l : List Span). AreInRow 0 l end) (sym is) p.row;
    }

pub stored_partial : (options : DecodeOptions) (whole : ℕ) (bytes : List ℕ) (h : ProtectedHeader) (all : List Span)
    (rest : List ℕ) (old mid new : List Span) (count end : ℕ) → IsHeaderAt options whole bytes h all rest
    → mid ≡ stored 0 (header_walk options bytes).0 old → count ≡ length (header_walk options bytes).0
    → end ≡ last_end 0 (header_walk options bytes).0 → length bytes - end < 16
    → new ≡ slice_set mid count (record { field = count; start = end; end = end; number = 0 })
    → AreStored (partial_spans all end (length rest)) old new (count + 1) end
stored_partial options whole bytes h all rest old mid new count end s there counted ended fewer put =
    let again = header_walk_again options whole bytes h all rest s in
    let same : (header_walk options bytes).0 ≡ all = ap (λ (w : Walked). w.0) again.1 in
    let p = placed options whole bytes h all rest end s (ended ∙ ap (last_end 0) same) in
    let is = partial_cut all end (length rest) (omega (arith, fewer, p.left)) in
    let index : count ≡ length all = counted ∙ ap length same in
    let token = bytes_span (length all) end 0 0 in
    let is_token : record { field = count; start = end; end = end; number = 0 } ≡ token =
    ap (λ (k : ℕ). record { field = k; start = end; end = end; number = 0 }) index
    ∙ ap (λ (k : ℕ). record { field = length all; start = end; end = k; number = 0 }) (omega arith) in
    let here : mid ≡ stored 0 all old = there ∙ ap (λ (l : List Span). stored 0 l old) same in
    let place : count ≡ 0 + length all = omega (arith, index) in
    record {
      room = put ∙ ap (λ (q : Span). slice_set mid count q) is_token
          ∙ ap (λ (k : ℕ). slice_set mid k token) place
          ∙ ap (λ (m : List Span). slice_set m (0 + length all) token) here
          ∙ stored_last 0 all old token ∙ ap (λ (l : List Span). stored 0 l old) (sym is);
      all = omega (arith, index, ap length is, length-append all (token ∷ []));
      stop = subst (λ (l : List Span). AreInRow 0 l end) (sym is) (in_row_last 0 end all (length all) 0 p.row);
    }
