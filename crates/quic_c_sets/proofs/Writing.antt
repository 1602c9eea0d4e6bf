-- The runs that entries describe, as an ACK has them.
use Rattle.std.proofs.Common.{◌≡◌, ℕ, zero, suc, ◌+◌, ◌-◌, ◌<◌, ◌≤◌, ◌^◌, Bool, true, ◌⊎◌, inl, inr, List, [], ◌∷◌, ◌++◌, length, take, get_or, refl, sym, ap, ◌∙◌, append_assoc, arith}
use Rattle.std.proofs.lemmas.Bool.Decides.{nat_tests}
use Rattle.std.proofs.lemmas.List.{append-nil, length-append, length-take, map_more, take_all}
use Rattle.std.specs.declared.ops.Range.{Range}
use Rattle.quic_base.specs.Varint.{shortest_varint, size}
use Rattle.quic_base.proofs.PublicLaws.{length-short}
use Rattle.quic_ranges.specs.Runs.{IsMaximalRuns, member}
use Rattle.quic_ranges.proofs.RunsLemmas.{IsGreatest-last}
use Rattle.quic_frame_fields.specs.Numbers.{AreNumeric, shortest_varints}
use Rattle.quic_frame_fields.specs.Putting.{Stores}
use Rattle.quic_frame_fields.specs.Sets.{ack_of, ack_type, count_numbers, ranges_in}
use Rattle.quic_frame_fields.specs.Shortest.{shortest_below, shortest_frame}
use Rattle.quic_frame_fields.proofs.AckParts.{SetParts, run_numbers, set_parts}
use Rattle.quic_frame_fields.proofs.Putting.{stores_more}
use Rattle.quic_frame_fields.proofs.Sets.{has_below, ranges_in-last}
use Rattle.quic_c_entries.specs.declared.words.CRange.{CRange}
use Rattle.quic_c_entries.specs.Entries.{first_runs, range_of, runs_of}
use Rattle.quic_c_entries.proofs.Placing.{many, nowhere}
use Rattle.quic_c_sets.specs.Acks.{DescribesSetAck, counts_in}
use Rattle.quic_c_sets.specs.Sets.{IsSet}

-- ---- numbers with encodings

pub numeric_more : (ns : List ℕ) (i : ℕ) → i < length ns → get_or ns i 0 < 2 ^ 62 → AreNumeric (take i ns)
    → AreNumeric (take (suc i) ns)
numeric_more [] i lt small h = absurd (omega (arith, lt))
numeric_more (n ∷ ns) zero lt small h = (small, tt)
numeric_more (n ∷ ns) (suc i) lt small h = (h.0, numeric_more ns i (omega (arith, lt)) small h.1)

pub numeric_none : (ns : List ℕ) → length ns ≡ 0 → AreNumeric ns
numeric_none [] e = tt
numeric_none (n ∷ ns) e = absurd (omega (arith, e))

pub type_none : (counts : List ℕ) → length counts ≡ 0 → 2 ≡ ack_type (counts_in counts)
type_none [] e = refl
type_none (a ∷ counts) e = absurd (omega (arith, e))

pub type_three : (counts : List ℕ) → length counts ≡ 3 → 3 ≡ ack_type (counts_in counts)
type_three [] e = absurd (omega (arith, e))
type_three (a ∷ []) e = absurd (omega (arith, e))
type_three (a ∷ b ∷ []) e = absurd (omega (arith, e))
type_three (a ∷ b ∷ c ∷ []) e = refl
type_three (a ∷ b ∷ c ∷ d ∷ counts) e = absurd (omega (arith, e))

pub numbers_counted : (counts : List ℕ) → (length counts ≡ 0) ⊎ (length counts ≡ 3)
    → count_numbers (counts_in counts) ≡ counts
numbers_counted [] three = refl
numbers_counted (a ∷ []) three = elim three [ inl e ↦ absurd (omega (arith, e)) | inr e ↦ absurd (omega (arith, e)) ]
numbers_counted (a ∷ b ∷ []) three =
    elim three [ inl e ↦ absurd (omega (arith, e)) | inr e ↦ absurd (omega (arith, e)) ]
numbers_counted (a ∷ b ∷ c ∷ []) three = refl
numbers_counted (a ∷ b ∷ c ∷ d ∷ counts) three =
    elim three [ inl e ↦ absurd (omega (arith, e)) | inr e ↦ absurd (omega (arith, e)) ]

-- ---- the runs below another one

-- the last of the first entries
pub last_run : (words : List CRange) (left : ℕ) → left < length words
    → runs_of (take (left + 1) words) ≡ runs_of (take left words) ++ range_of (get_or words left nowhere) ∷ []
last_run words left lt = map_more range_of words left nowhere lt

-- the bytes of the runs below one are those of the next, and those of the runs below that
one_run : (above run : Range ℕ) (runs left : List (Range ℕ)) → left ≡ runs ++ run ∷ [] → run.start < run.end
    → shortest_below above.start (ranges_in left) ≡ shortest_varints (run_numbers above run) ++ shortest_below run.start (ranges_in runs)
one_run above run runs left e some =
    let bytes = shortest_below run.start (ranges_in runs) in
    let gap : above.start - ((run.end - 1) + 2) ≡ above.start - run.end - 1 = omega (arith, some) in
    let one : shortest_below above.start (ranges_in left) ≡ shortest_varint (above.start - ((run.end - 1) + 2))
    ++ (shortest_varint (run.end - 1 - run.start) ++ bytes) =
    ap (λ (l : List (Range ℕ)). shortest_below above.start (ranges_in l)) e
    ∙ ap (shortest_below above.start) (ranges_in-last runs run) in
    one ∙ rw gap (simp (append_assoc, append-nil))

-- the first entries are still to be written below a run
pub record AreBelow (words : List CRange) (left : ℕ) (above : CRange) : Type 0 where
  pub within : left ≤ length words
  pub maximal : IsMaximalRuns (runs_of (take left words) ++ range_of above ∷ [])
  pub bound : above.start < 2 ^ 62

abbrev pub bytes_below : List CRange → ℕ → CRange → List ℕ
bytes_below words left above = shortest_below above.start (ranges_in (runs_of (take left words)))

pub record NextBelow (words : List CRange) (left : ℕ) (above run : CRange) : Type 0 where
  pub some : run.start < run.end
  pub apart : run.end < above.start
  pub numeric : AreNumeric (run_numbers (range_of above) (range_of run))
  pub below : AreBelow words left run
  pub parts : bytes_below words (left + 1) above ≡ shortest_varints (run_numbers (range_of above) (range_of run))
      ++ bytes_below words left run

pub next_below : (words : List CRange) (left next : ℕ) (above : CRange) → left ≡ next + 1 → AreBelow words left above
    → NextBelow words next above (get_or words next nowhere)
next_below words left next above e h =
    let run = get_or words next nowhere in
    let within = h.within in
    let bound = h.bound in
    let lt : next < length words = omega (arith, within, e) in
    let maximal : IsMaximalRuns (runs_of (take (next + 1) words) ++ range_of above ∷ []) = rw (← e) h.maximal in
    let x =
    has_below (runs_of (take next words)) (runs_of (take (next + 1) words)) (range_of run) (range_of above)
    (last_run words next lt) maximal in
    let some = x.some in
    let apart = x.apart in
    record {
      some = some;
      apart = apart;
      numeric = (omega (arith, bound), (omega (arith, apart, bound), tt));
      below = record { within = omega (arith, lt); maximal = x.maximal; bound = omega (arith, some, apart, bound) };
      parts = one_run (range_of above) (range_of run) (runs_of (take next words)) (runs_of (take (next + 1) words))
          (last_run words next lt) some;
    }

-- ---- how many bytes they are

size_least : (n : ℕ) → size n ≤ n + 1
unfolding size
size_least n = grind (arith, nat_tests)

-- len of all the bytes were counted, and all are no more than the numbers below
pub record CountedBelow (words : List CRange) (first : CRange) (len left : ℕ) (above : CRange) : Type 0 where
  pub below : AreBelow words left above
  pub counted : length (bytes_below words (length words) first) ≡ len + length (bytes_below words left above)
  pub small : len + above.start ≤ first.start

two_long : (a b : ℕ) (rest : List ℕ) → length (shortest_varints (a ∷ b ∷ []) ++ rest) ≡ size a + size b + length rest
two_long a b rest =
    omega (
      arith,
      length-append (shortest_varints (a ∷ b ∷ [])) rest,
      length-append (shortest_varint a) (shortest_varint b ++ []),
      length-append (shortest_varint b)
          [],
      length-short a,
      length-short b,
    )

pub counted_more : (words : List CRange) (first above : CRange) (len left next : ℕ) → left ≡ next + 1
    → CountedBelow words first len left above
    → CountedBelow words first (len + (size (above.start - (get_or words next nowhere).end - 1)
    + size ((get_or words next nowhere).end - 1 - (get_or words next nowhere).start))) next (get_or words next nowhere)
counted_more words first above len left next e h =
    let run = get_or words next nowhere in
    let x = next_below words left next above e h.below in
    let some = x.some in
    let apart = x.apart in
    let counted : length (bytes_below words (length words) first) ≡ len + length (bytes_below words (next + 1) above) =
    rw (← e) h.counted in
    let small = h.small in
    record {
      below = x.below;
      counted = omega (
        arith,
        counted,
        ap length x.parts,
        two_long (above.start - run.end - 1) (run.end - 1 - run.start)
            (bytes_below words next run),
      );
      small = omega (arith, small, some, apart, size_least (above.start - run.end - 1), size_least (run.end - 1 - run.start));
    }

pub all_below : (words : List CRange) (first : CRange)
    → bytes_below words (length words) first ≡ shortest_below first.start (ranges_in (runs_of words))
all_below words first =
    ap (λ (l : List CRange). shortest_below first.start (ranges_in (runs_of l))) (take_all (length words) words (omega arith))

-- ---- they are written

pub record StoredBelow (words : List CRange) (first : CRange) (at : ℕ) (old : List ℕ) (left : ℕ) (above : CRange)
    (end : ℕ) (new : List ℕ) : Type 0 where
  pub before : List ℕ
  pub below : AreBelow words left above
  pub stored : Stores before at old end new
  pub parts : bytes_below words (length words) first ≡ before ++ bytes_below words left above

pub stored_more : (words : List CRange) (first above : CRange) (at left next end stop : ℕ) (old one new : List ℕ)
    → left ≡ next + 1 → StoredBelow words first at old left above end one
    → Stores (shortest_varints (run_numbers (range_of above) (range_of (get_or words next nowhere)))) end one stop new
    → StoredBelow words first at old next (get_or words next nowhere) stop new
stored_more words first above at left next end stop old one new e h y =
    let run = get_or words next nowhere in
    let x = next_below words left next above e h.below in
    let now = shortest_varints (run_numbers (range_of above) (range_of run)) in
    let parts : bytes_below words (length words) first ≡ h.before ++ bytes_below words (next + 1) above =
    rw (← e) h.parts in
    record {
      before = h.before ++ now;
      below = x.below;
      stored = stores_more h.before now old one new at end stop h.stored y;
      parts = parts ∙ ap (λ (l : List ℕ). h.before ++ l) x.parts ∙ sym (append_assoc h.before now (bytes_below words next run));
    }

-- the next run has room
pub room_below : (words : List CRange) (first above : CRange) (at left next end : ℕ) (old one : List ℕ)
    → left ≡ next + 1 → StoredBelow words first at old left above end one
    → end + length (shortest_varints (run_numbers (range_of above) (range_of (get_or words next nowhere)))) ≤ at
    + length (bytes_below words (length words) first)
room_below words first above at left next end old one e h =
    let run = get_or words next nowhere in
    let x = next_below words left next above e h.below in
    let now = shortest_varints (run_numbers (range_of above) (range_of run)) in
    let parts : bytes_below words (length words) first ≡ h.before ++ bytes_below words (next + 1) above =
    rw (← e) h.parts in
    let so_far = h.stored.count in
    omega (
      arith,
      so_far,
      ap length parts,
      length-append h.before (bytes_below words (next + 1) above),
      ap length x.parts,
      length-append now (bytes_below words next run),
    )

-- ---- whether there is an ACK

-- the greatest run of a set, and those below it
pub whole_set : (words : List CRange) (count : ℕ) → count ≤ length words → 0 < count
    → first_runs count words ≡ runs_of (take (count - 1) words) ++ range_of (get_or words (count - 1) nowhere) ∷ []
whole_set words count within some =
    let last : count ≡ count - 1 + 1 = omega (arith, some) in
    ap (λ (n : ℕ). runs_of (take n words)) last ∙ last_run words (count - 1) (omega (arith, within, some))

pub all_small : (words : List CRange) (count : ℕ) → IsSet words count → 0 < count
    → (get_or words (count - 1) nowhere).end ≤ 2 ^ 62 → (n : ℕ)
    → member (first_runs count words) n ≡ true → n < 2 ^ 62
all_small words count set some le n e =
    let last =
    IsGreatest-last (range_of (get_or words (count - 1) nowhere)) (runs_of (take (count - 1) words))
    (first_runs count words) (whole_set words count set.within some) set.maximal in
    let most = last.1.greatest n e in
    let nonempty = last.0 in
    omega (arith, most, nonempty, le)

pub last_small : (words : List CRange) (count : ℕ) → IsSet words count → 0 < count
    → ((n : ℕ) → member (first_runs count words) n ≡ true → n < 2 ^ 62)
    → (get_or words (count - 1) nowhere).end ≤ 2 ^ 62
last_small words count set some all =
    let last =
    IsGreatest-last (range_of (get_or words (count - 1) nowhere)) (runs_of (take (count - 1) words))
    (first_runs count words) (whole_set words count set.within some) set.maximal in
    let greatest = all ((get_or words (count - 1) nowhere).end - 1) last.1.present in
    let nonempty = last.0 in
    omega (arith, greatest, nonempty)

pub last_some : (words : List CRange) (count : ℕ) → IsSet words count → 0 < count
    → (get_or words (count - 1) nowhere).start < (get_or words (count - 1) nowhere).end
last_some words count set some =
    (IsGreatest-last (range_of (get_or words (count - 1) nowhere)) (runs_of (take (count - 1) words))
    (first_runs count words) (whole_set words count set.within some) set.maximal).0

pub described_ack : (delay : ℕ) (words : List CRange) (count : ℕ) (counts : List ℕ) → IsSet words count → 0 < count
    → (get_or words (count - 1) nowhere).end ≤ 2 ^ 62 → delay < 2 ^ 62
    → (length counts ≡ 0) ⊎ (length counts ≡ 3) → AreNumeric counts → DescribesSetAck delay words count counts
described_ack delay words count counts set some le delayed three counted = record {
  set = set;
  some = some;
  short = all_small words count set some le;
  delayed = delayed;
  three = three;
  counted = counted;
}

-- ---- the parts of an ACK

pub ack_parts_of : (delay : ℕ) (words : List CRange) (count : ℕ) (counts : List ℕ) (ty : ℕ)
    → DescribesSetAck delay words count counts → ty ≡ ack_type (counts_in counts)
    → SetParts delay (first_runs count words) (runs_of (take (count - 1) words))
    (range_of (get_or words (count - 1) nowhere)) (counts_in counts) ty (count - 1)
ack_parts_of delay words count counts ty described ty_is =
    let within = described.set.within in
    let size_is : count ≡ length (first_runs count words) =
    omega (arith, within, many (take count words), length-take count words) in
    set_parts delay (first_runs count words) (runs_of (take (count - 1) words))
    (range_of (get_or words (count - 1) nowhere)) (counts_in counts) ty count
    (whole_set words count within described.some) ty_is size_is
    described.delayed described.set.maximal described.short

-- the bytes of an ACK: its numbers, those of the runs below the first, and its counts
pub whole_ack : (delay : ℕ) (words : List CRange) (count : ℕ) (counts : List ℕ) (ty : ℕ)
    → DescribesSetAck delay words count counts → ty ≡ ack_type (counts_in counts) → (last : Bool)
    → shortest_frame last (ack_of delay (first_runs count words) (counts_in counts))
    ≡ shortest_varints (ty ∷ ((get_or words (count - 1) nowhere).end - 1) ∷ delay ∷ (count - 1)
    ∷ ((get_or words (count - 1) nowhere).end - 1 - (get_or words (count - 1) nowhere).start) ∷ [])
    ++ (shortest_below (get_or words (count - 1) nowhere).start (ranges_in (runs_of (take (count - 1) words))) ++ shortest_varints counts)
whole_ack delay words count counts ty described ty_is last =
    let run = get_or words (count - 1) nowhere in
    let head = shortest_varints (ty ∷ (run.end - 1) ∷ delay ∷ (count - 1) ∷ (run.end - 1 - run.start) ∷ []) in
    let below = shortest_below run.start (ranges_in (runs_of (take (count - 1) words))) in
    (ack_parts_of delay words count counts ty described ty_is).parts last
    ∙ ap (λ (l : List ℕ). head ++ (below ++ shortest_varints l)) (numbers_counted counts described.three)
