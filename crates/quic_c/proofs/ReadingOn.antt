-- What an iterator gives from a place on.
use Rattle.std.proofs.Common.{◌≡◌, ℕ, zero, suc, ◌+◌, ◌-◌, Bool, true, false, List, [], ◌∷◌, length, map, drop, Option, None, Some, Result, Ok, Err, refl, ap, ◌∙◌, arith}
use Rattle.std.specs.Prelude.{if◌then◌else◌}
use Rattle.quic_frame_fields.specs.declared.frame.fault.Fault.{Fault}
use Rattle.quic_frame_fields.specs.declared.frame.fault.Fault.TheVariants.{LongType}
use Rattle.quic_frame_fields.specs.Payload.{Meaning, TypedFrame}
use Rattle.quic_frame_fields.specs.Reading.{Invalid, invalid, Item, Whole, varint_at, frame_at, found_at, at_type, after_type, is_long_type, items_after, items_from, items_of}
use Rattle.quic_frames.specs.Walk.{left, first_of, resumed}
use Rattle.quic_c.specs.Front.{moved_by, reported_behind}

-- with places that count from bytes before
items_moved : (strict : Bool) (n count start : ℕ) (before : Option ℕ) (bytes : List ℕ)
    → items_from strict n (count + start) before bytes ≡ map (moved_by count) (items_from strict n start before bytes)
unfolding items_from
items_moved strict zero count start before bytes = refl
items_moved strict (suc n) count start before [] = refl
items_moved strict (suc n) count start before (b ∷ bytes) =
    by_found (λ m type rest. items_moved strict n count m type rest) (found_at strict before (b ∷ bytes))
  where
    by_found : ((m : ℕ) (type : Option ℕ) (rest : List ℕ) → items_from strict n (count + m) type rest
        ≡ map (moved_by count) (items_from strict n m type rest))
        → (read : Result (TypedFrame × List ℕ) Invalid)
        → items_after (items_from strict n) (count + start) (length (b ∷ bytes)) read
        ≡ map (moved_by count) (items_after (items_from strict n) start (length (b ∷ bytes)) read)
    by_found again (Err reported) = refl
    by_found again (Ok x) =
        let len = length (b ∷ bytes) - length x.1 in
        let stop : count + start + len ≡ count + (start + len) = omega arith in
        ap (λ (m : ℕ). Whole (count + start) m x.0 ∷ items_from strict n m (Some x.0.type) x.1) stop
        ∙ ap (λ (l : List Item). Whole (count + start) (count + (start + len)) x.0 ∷ l) (again (start + len) (Some x.0.type) x.1)

-- after another type
items_reported : (strict : Bool) (n start : ℕ) (before : Option ℕ) (bytes : List ℕ)
    → items_from strict n start before bytes ≡ reported_behind before (items_from strict n start None bytes)
unfolding items_from found_at
items_reported strict zero start before bytes = refl
items_reported strict (suc n) start before [] = refl
items_reported strict (suc n) start before (b ∷ bytes) = by_type (varint_at (b ∷ bytes))
  where
    len : ℕ
    len = length (b ∷ bytes)

    by_frame : (t : ℕ) (read : Result (Meaning × List ℕ) Fault)
        → items_after (items_from strict n) start len (after_type t read)
        ≡ reported_behind before (items_after (items_from strict n) start len (after_type t read))
    by_frame t (Ok x) = refl
    by_frame t (Err e) = refl

    by_length : (t : ℕ) (read : Result (Meaning × List ℕ) Fault) (is_long : Bool)
        → items_after (items_from strict n) start len (if is_long then Err (invalid (Some t) LongType) else after_type t read)
        ≡ reported_behind before (items_after (items_from strict n) start len
        (if is_long then Err (invalid (Some t) LongType) else after_type t read))
    by_length t read true = refl
    by_length t read false = by_frame t read

    by_type : (read : Result (ℕ × List ℕ) Fault)
        → items_after (items_from strict n) start len (at_type strict before len read)
        ≡ reported_behind before (items_after (items_from strict n) start len (at_type strict None len read))
    by_type (Ok x) = by_length x.0 (frame_at x.0 x.1) (is_long_type strict x.0 (len - length x.1))
    by_type (Err e) = refl

pub reads_on : (strict : Bool) (offset : ℕ) (before : Option ℕ) (payload : List ℕ)
    → left (resumed payload offset before strict) ≡ reported_behind before
    (map (moved_by offset) (left (first_of strict (drop offset payload))))
unfolding items_of
reads_on strict offset before payload =
    let rest = drop offset payload in
    let here : offset ≡ offset + 0 = omega arith in
    items_reported strict (length rest) offset before rest
    ∙ ap (reported_behind before) (ap (λ (m : ℕ). items_from strict (length rest) m None rest) here
    ∙ items_moved strict (length rest) offset 0 None rest)
