-- The parts of runs that are in a range, run by run.
use Rattle.std.proofs.Common.{◌≡◌, ℕ, ◌+◌, ◌-◌, ◌<◌, ◌≤◌, List, [], ◌∷◌, ◌++◌, length, take, drop, get_or, refl, sym, ap, ◌∙◌, append_assoc, arith}
use Rattle.std.specs.Prelude.{max, min}
use Rattle.std.specs.declared.ops.Range.{Range}
use Rattle.std.proofs.lemmas.Bool.Decides.{nat_tests}
use Rattle.std.proofs.Math.Seq.{take-append_seam, drop-append_seam}
use Rattle.std.proofs.lemmas.List.{append-nil, drop-drop, length-append, length-drop, length-take, map-append, map_more, take-append-drop}
use Rattle.quic_ranges.specs.Intersections.{as_runs, intersections}
use Rattle.quic_c_entries.specs.declared.words.CRange.{CRange}
use Rattle.quic_c_entries.specs.declared.change.Substitute.{Substitute}
use Rattle.quic_c_entries.specs.Changes.{words_of}
use Rattle.quic_c_entries.specs.Entries.{range_of, runs_of}
use Rattle.quic_c_entries.proofs.Placing.{many, nowhere}

-- the part of one run
abbrev pub part : CRange → Range ℕ → List (Range ℕ)
part word x = as_runs (max word.start x.start) (min x.end word.end)

parts_append : (rs ss : List (Range ℕ)) (x : Range ℕ)
    → intersections (rs ++ ss) x ≡ intersections rs x ++ intersections ss x
parts_append [] ss x = refl
parts_append (r ∷ rs) ss x =
    let here : List (Range ℕ) = as_runs (max r.start x.start) (min x.end r.end) in
    ap (λ (l : List (Range ℕ)). here ++ l) (parts_append rs ss x)
    ∙ sym (append_assoc here (intersections rs x) (intersections ss x))

-- one run more
pub parts_more : (words : List CRange) (x : Range ℕ) (i : ℕ) → i < length words
    → intersections (runs_of (take (i + 1) words)) x
    ≡ intersections (runs_of (take i words)) x ++ part (get_or words i nowhere) x
parts_more words x i lt =
    let before : List (Range ℕ) = runs_of (take i words) in
    let run : CRange = get_or words i nowhere in
    ap (λ (l : List (Range ℕ)). intersections l x) (map_more range_of words i nowhere lt)
    ∙ parts_append before (range_of run ∷ []) x
    ∙ ap (λ (l : List (Range ℕ)). intersections before x ++ l) (append-nil (part run x))

-- the first runs have no more parts than all
pub parts_upto : (words : List CRange) (x : Range ℕ) (i : ℕ)
    → length (intersections (runs_of (take i words)) x) ≤ length (intersections (runs_of words) x)
parts_upto words x i =
    let before : List (Range ℕ) = intersections (runs_of (take i words)) x in
    let behind : List (Range ℕ) = intersections (runs_of (drop i words)) x in
    let all : intersections (runs_of words) x ≡ before ++ behind =
    ap (λ (l : List CRange). intersections (runs_of l) x) (sym (take-append-drop i words))
    ∙ ap (λ (l : List (Range ℕ)). intersections l x) (map-append range_of (take i words) (drop i words))
    ∙ parts_append (runs_of (take i words)) (runs_of (drop i words)) x in
    omega (arith, ap length all, length-append before behind)

part_few : (a b : ℕ) → length (as_runs a b) ≤ 1
part_few a b = grind (arith, nat_tests)

-- a run has one part at most
pub parts_few : (words : List CRange) (x : Range ℕ) → length (intersections (runs_of words) x) ≤ length words
parts_few [] x = omega arith
parts_few (w ∷ words) x = omega (
  arith,
  length-append (part w x) (intersections (runs_of words) x),
  part_few (max w.start x.start) (min x.end w.end),
  parts_few words x,
)

-- the parts of the first runs are stored
pub record StoredOn (words : List CRange) (x : Range ℕ) (old : List CRange) (i at : ℕ) (new : List CRange) : Type 0 where
  pub count : at ≡ length (intersections (runs_of (take i words)) x)
  pub front : runs_of (take at new) ≡ intersections (runs_of (take i words)) x
  pub back : drop at new ≡ drop at old
  pub len : length new ≡ length old

counted_to : (words : List CRange) (x : Range ℕ) (i n : ℕ) (s : Substitute) → i < length words
    → n ≡ length (intersections (runs_of (take i words)) x) → runs_of (words_of s) ≡ part (get_or words i nowhere) x
    → n + length (words_of s) ≡ length (intersections (runs_of (take (i + 1) words)) x)
counted_to words x i n s lt inv is = omega (
  arith,
  inv,
  ap length (parts_more words x i lt),
  length-append (intersections (runs_of (take i words)) x) (part (get_or words i nowhere) x),
  ap length is,
  many (words_of s),
)

pub counted_more : (words : List CRange) (x : Range ℕ) (i n len : ℕ) (s : Substitute) → i < length words
    → n ≡ length (intersections (runs_of (take i words)) x) → runs_of (words_of s) ≡ part (get_or words i nowhere) x
    → len ≡ length (words_of s)
    → n + len ≡ length (intersections (runs_of (take (i + 1) words)) x)
counted_more words x i n len s lt inv is e = rw e (counted_to words x i n s lt inv is)

-- they are no more than there are runs
pub counted_few : (words : List CRange) (x : Range ℕ) (i n len : ℕ) (s : Substitute) → i < length words
    → n ≡ length (intersections (runs_of (take i words)) x) → runs_of (words_of s) ≡ part (get_or words i nowhere) x
    → len ≡ length (words_of s) → n + len ≤ length words
counted_few words x i n len s lt inv is e =
    omega (arith, counted_to words x i n s lt inv is, parts_upto words x (i + 1), parts_few words x, e)

take_seam : (xs zs : List CRange) (n : ℕ) → n ≡ length xs → take n (xs ++ zs) ≡ xs
take_seam xs zs n e = ap (λ (k : ℕ). take k (xs ++ zs)) e ∙ take-append_seam xs zs

drop_seam : (xs zs : List CRange) (n : ℕ) → n ≡ length xs → drop n (xs ++ zs) ≡ zs
drop_seam xs zs n e = ap (λ (k : ℕ). drop k (xs ++ zs)) e ∙ drop-append_seam xs zs

-- what is stored in front leaves what is behind
stays : (k n : ℕ) (xs ys : List CRange) → drop k xs ≡ drop k ys → k ≤ n → drop n xs ≡ drop n ys
stays k n xs ys same le =
    let sum : k + (n - k) ≡ n = omega (arith, le) in
    ap (λ (i : ℕ). drop i xs) (sym sum) ∙ sym (drop-drop (n - k) k xs) ∙ ap (drop (n - k)) same ∙ drop-drop (n - k) k ys
    ∙ ap (λ (i : ℕ). drop i ys) sum

-- there is room for the part of the next run
pub room_for : (words : List CRange) (x : Range ℕ) (old mid : List CRange) (i at : ℕ) (s : Substitute)
    → i < length words → StoredOn words x old i at mid → runs_of (words_of s) ≡ part (get_or words i nowhere) x
    → length (intersections (runs_of words) x) ≤ length old
    → at + length (words_of s) ≤ length mid
room_for words x old mid i at s lt inv is room =
    omega (arith, counted_to words x i at s lt inv.count is, parts_upto words x (i + 1), inv.len, room)

stored_to : (words : List CRange) (x : Range ℕ) (old mid new : List CRange) (i at : ℕ) (s : Substitute)
    → i < length words → StoredOn words x old i at mid → runs_of (words_of s) ≡ part (get_or words i nowhere) x
    → at + length (words_of s) ≤ length mid
    → new ≡ take at mid ++ (words_of s ++ drop (at + length (words_of s)) mid)
    → StoredOn words x old (i + 1) (at + length (words_of s)) new
stored_to words x old mid new i at s lt inv is room made =
    let ws : List CRange = words_of s in
    let stop : ℕ = at + length ws in
    let behind : List CRange = drop stop mid in
    let front : List CRange = take at mid ++ ws in
    let parts : new ≡ front ++ behind = made ∙ sym (append_assoc (take at mid) ws behind) in
    let seam : stop ≡ length front = omega (arith, length-append (take at mid) ws, length-take at mid, room) in record {
      count = counted_to words x i at s lt inv.count is;
      front = ap (λ (l : List CRange). runs_of (take stop l)) parts ∙ ap runs_of (take_seam front behind stop seam)
          ∙ map-append range_of (take at mid) ws ∙ ap (λ (l : List (Range ℕ)). l ++ runs_of ws) inv.front
          ∙ ap (λ (l : List (Range ℕ)). intersections (runs_of (take i words)) x ++ l) is ∙ sym (parts_more words x i lt);
      back = ap (drop stop) parts ∙ drop_seam front behind stop seam
          ∙ stays at stop mid old inv.back (omega (arith));
      len = ap length parts ∙ omega (arith, length-append front behind, length-drop stop mid, seam, room) ∙ inv.len;
    }

pub stored_more : (words : List CRange) (x : Range ℕ) (old mid new : List CRange) (i at len : ℕ) (s : Substitute)
    → i < length words → StoredOn words x old i at mid → runs_of (words_of s) ≡ part (get_or words i nowhere) x
    → length (intersections (runs_of words) x) ≤ length old → len ≡ length (words_of s)
    → new ≡ take at mid ++ (words_of s ++ drop (at + length (words_of s)) mid)
    → StoredOn words x old (i + 1) (at + len) new
stored_more words x old mid new i at len s lt inv is room e made =
    rw e (stored_to words x old mid new i at s lt inv is (room_for words x old mid i at s lt inv is room) made)
