-- Numbers that bytes encode, read one after the other.
use Rattle.std.proofs.Common.{◌≡◌, ℕ, zero, suc, ◌+◌, ◌-◌, ◌<◌, ◌≤◌, List, [], ◌∷◌, ◌++◌, length, take, drop, get_or, Result, Ok, Err, refl, sym, ap, subst, ◌∙◌, append_assoc, arith}
use Rattle.std.specs.Prelude.{slice_range}
use Rattle.std.proofs.lemmas.Bool.Decides.{nat_tests}
use Rattle.std.proofs.lemmas.List.{length-append, length-drop, append-nil, take-append-drop}
use Rattle.quic_base.specs.Number.{AreBytes}
use Rattle.quic_base.specs.Varint.{shortest_varint, size}
use Rattle.quic_base.proofs.PublicLaws.{back_bytes, length-short, short_least}
use Rattle.quic_frame_fields.specs.declared.frame.fault.Fault.{Fault}
use Rattle.quic_frame_fields.specs.Reading.{varint_at}
use Rattle.quic_base.specs.Writing.{Writes}
use Rattle.quic_frame_fields.specs.Numbers.{AreEncoded, shortest_varints}
use Rattle.quic_frame_fields.proofs.Steps.{ok_is, ok_is_not_err}
use Rattle.quic_frame_fields.proofs.Varints.{varint_takes, varint_again, varint_some, one_at}
use Rattle.quic_base.proofs.Encoders.{Wrote, wrote_more, writes_within}
use Rattle.quic_frame_fields.proofs.Numbers.{all_short-at, take_whole}

pub after_shorter : (rest : List ℕ) (n : ℕ) (after : List ℕ) → AreBytes rest → varint_at rest ≡ Ok (n, after)
    → length after < length rest
after_shorter rest n after fits e =
    let t = varint_takes rest n after fits e in
    omega (arith, varint_some n t.front t.is, ap length t.split, length-append t.front after)

pub after_fits : (rest : List ℕ) (n : ℕ) (after : List ℕ) → AreBytes rest → varint_at rest ≡ Ok (n, after)
    → AreBytes after
after_fits rest n after fits e =
    let t = varint_takes rest n after fits e in back_bytes t.front after (subst AreBytes t.split fits)

pub drop_fits : (k : ℕ) (rest : List ℕ) → AreBytes rest → AreBytes (drop k rest)
drop_fits k rest fits = back_bytes (take k rest) (drop k rest) (subst AreBytes (sym (take-append-drop k rest)) fits)

-- what is read after the first bytes
pub read_behind : (k : ℕ) (rest : List ℕ) (r : Result (ℕ × List ℕ) Fault)
    → varint_at (slice_range rest k (length rest)) ≡ r → varint_at (drop k rest) ≡ r
read_behind k rest r e =
    ap varint_at (sym (take_whole (drop k rest) (length rest - k) (omega (arith, length-drop k rest)))) ∙ e

pub record NextNumber (ns : List ℕ) (n : ℕ) (after : List ℕ) : Type 0 where
  pub others : List ℕ
  pub are : ns ≡ n ∷ others
  pub numbers : AreEncoded others after

pub next_number : (ns bytes : List ℕ) (n : ℕ) (after : List ℕ) → AreBytes bytes → AreEncoded ns bytes
    → varint_at bytes ≡ Ok (n, after) → NextNumber ns n after
next_number [] bytes n after fits s e = absurd (omega (arith, after_shorter bytes n after fits e, ap length s))
next_number (k ∷ ns) bytes n after fits s e =
    let pair : (k, s.1) ≡ (n, after) =
    ok_is (k, s.1) (n, after) (sym (varint_again k s.0 s.1 s.3) ∙ ap varint_at (sym s.2) ∙ e) in
    record {
      others = ns;
      are = ap (λ (p : ℕ × List ℕ). p.0 ∷ ns) pair;
      numbers = subst (λ (p : ℕ × List ℕ). AreEncoded ns p.1) pair s.4;
    }

no_number : (ns bytes : List ℕ) (f : Fault) → AreEncoded ns bytes → varint_at bytes ≡ Err f → ns ≡ []
no_number [] bytes f s e = refl
no_number (k ∷ ns) bytes f s e = absurd (ok_is_not_err (sym (varint_again k s.0 s.1 s.3) ∙ ap varint_at (sym s.2) ∙ e))

-- Some of the numbers were read, of which P holds; the rest encodes the others.
pub record ReadSome (P : List ℕ → Type 0) (rest ns : List ℕ) : Type 0 where
  pub before : List ℕ
  pub left : List ℕ
  pub are : ns ≡ before ++ left
  pub numbers : AreEncoded left rest
  pub holds : P before

pub read_none : (P : List ℕ → Type 0) (bytes ns : List ℕ) → P [] → AreEncoded ns bytes → ReadSome P bytes ns
read_none P bytes ns p s = record { before = []; left = ns; are = refl; numbers = s; holds = p }

pub read_more : (P Q : List ℕ → Type 0) (rest ns : List ℕ) (n : ℕ) (after : List ℕ) → AreBytes rest → ReadSome P rest ns
    → varint_at rest ≡ Ok (n, after) → ((before : List ℕ) → P before → Q (before ++ n ∷ [])) → ReadSome Q after ns
read_more P Q rest ns n after fits r e step =
    let x = next_number r.left rest n after fits r.numbers e in
    record {
      before = r.before ++ n ∷ [];
      left = x.others;
      are = r.are ∙ ap (λ (l : List ℕ). r.before ++ l) x.are ∙ sym (append_assoc r.before (n ∷ []) x.others);
      numbers = x.numbers;
      holds = step r.before r.holds;
    }

pub read_all : (P : List ℕ → Type 0) (rest ns : List ℕ) (f : Fault) → ReadSome P rest ns → varint_at rest ≡ Err f → P ns
read_all P rest ns f r e =
    let none = no_number r.left rest f r.numbers e in
    let same : r.before ≡ ns = sym (append-nil r.before) ∙ ap (λ (l : List ℕ). r.before ++ l) (sym none) ∙ sym r.are in
    subst P same r.holds

-- ---- what is kept of the numbers before

pub all_short-append : (some others : List ℕ)
    → shortest_varints (some ++ others) ≡ shortest_varints some ++ shortest_varints others
all_short-append [] others = refl
all_short-append (n ∷ some) others =
    ap (λ (l : List ℕ). shortest_varint n ++ l) (all_short-append some others)
    ∙ sym (append_assoc (shortest_varint n) (shortest_varints some) (shortest_varints others))

pub all_short-last : (ns : List ℕ) (n : ℕ) → shortest_varints (ns ++ n ∷ []) ≡ shortest_varints ns ++ shortest_varint n
all_short-last ns n =
    all_short-append ns (n ∷ []) ∙ ap (λ (l : List ℕ). shortest_varints ns ++ l) (append-nil (shortest_varint n))

-- how many they are, and how long their shortest encodings
pub record AreCounted (count total : ℕ) (ns : List ℕ) : Type 0 where
  pub many : count ≡ length ns
  pub long : total ≡ length (shortest_varints ns)

one_counted : (count total n more count' total' : ℕ) → more ≡ size n → count' ≡ count + 1 → total' ≡ total + more
    → (ns : List ℕ) → AreCounted count total ns → AreCounted count' total' (ns ++ n ∷ [])
one_counted count total n more count' total' more_is c t ns a = record {
  many = let many = a.many in omega (arith, c, many, length-append ns (n ∷ []));
  long = let long = a.long in omega (
    arith,
    t,
    long,
    more_is,
    ap length (all_short-last ns n),
    length-append (shortest_varints ns) (shortest_varint n),
    length-short n,
  );
}

same_counted : (count total count' total' : ℕ) → count' ≡ count + 0 → total' ≡ total + 0 → (ns : List ℕ)
    → AreCounted count total ns → AreCounted count' total' ns
same_counted count total count' total' c t ns a = record {
  many = let many = a.many in omega (arith, c, many);
  long = let long = a.long in omega (arith, t, long);
}

read_as : (P Q : List ℕ → Type 0) (rest ns : List ℕ) → ((before : List ℕ) → P before → Q before) → ReadSome P rest ns
    → ReadSome Q rest ns
read_as P Q rest ns f r =
    record { before = r.before; left = r.left; are = r.are; numbers = r.numbers; holds = f r.before r.holds }

-- numbers of one byte each
one_size : (n : ℕ) → n < 64 → size n ≡ 1
unfolding size
one_size n lt = grind (arith, nat_tests)

pub ones_counted : (k : ℕ) (rest : List ℕ) (count total count' total' : ℕ) (ns : List ℕ) → AreBytes rest
    → k ≤ length rest → ((i : ℕ) → i < k → get_or rest i 0 < 64) → count' ≡ count + k → total' ≡ total + k
    → ReadSome (AreCounted count total) rest ns → ReadSome (AreCounted count' total') (drop k rest) ns
ones_counted zero rest count total count' total' ns fits le ones c t r =
    read_as (AreCounted count total) (AreCounted count' total') rest ns (same_counted count total count' total' c t) r
ones_counted (suc k) [] count total count' total' ns fits le ones c t r = absurd (omega (arith, le))
ones_counted (suc k) (n ∷ rest) count total count' total' ns fits le ones c t r =
    let lt : n < 64 = ones 0 (omega arith) in
    let next =
    read_more (AreCounted count total) (AreCounted (count + 1) (total + 1)) (n ∷ rest) ns n rest fits r
    (one_at n rest lt) (one_counted count total n 1 (count + 1) (total + 1) (sym (one_size n lt)) refl refl) in
    ones_counted k rest (count + 1) (total + 1) count' total' ns (after_fits (n ∷ rest) n rest fits (one_at n rest lt))
    (omega (arith, le)) (λ i i_lt. ones (suc i) (omega (arith, i_lt))) (omega (arith, c)) (omega (arith, t)) next

-- one more, of any width
pub more_counted : (rest : List ℕ) (count total n more count' total' : ℕ) (after ns : List ℕ) → AreBytes rest
    → varint_at rest ≡ Ok (n, after) → more ≡ size n → count' ≡ count + 1 → total' ≡ total + more
    → ReadSome (AreCounted count total) rest ns → ReadSome (AreCounted count' total') after ns
more_counted rest count total n more count' total' after ns fits e more_is c t r =
    read_more (AreCounted count total) (AreCounted count' total') rest ns n after fits r e
    (one_counted count total n more count' total' more_is c t)

-- the shortest encoding is no longer than the one that was read
pub after_least : (rest : List ℕ) (n : ℕ) (after : List ℕ) → AreBytes rest → varint_at rest ≡ Ok (n, after)
    → size n + length after ≤ length rest
after_least rest n after fits e =
    let t = varint_takes rest n after fits e in
    omega (arith, (short_least n t.front t.is).0, length-short n, ap length t.split, length-append t.front after)

pub longer_at : (ns : List ℕ) (i total more : ℕ) → i < length ns → more ≡ size (get_or ns i 0)
    → total ≡ length (shortest_varints (take i ns)) → total + more ≡ length (shortest_varints (take (i + 1) ns))
longer_at ns i total more lt more_is e =
    let next : i + 1 ≡ suc i = omega arith in
    let parts : shortest_varints (take (i + 1) ns) ≡ shortest_varints (take i ns) ++ shortest_varint (get_or ns i 0) =
    ap (λ (k : ℕ). shortest_varints (take k ns)) next ∙ all_short-at ns i lt in
    omega (
      arith,
      e,
      more_is,
      ap length parts,
      length-append (shortest_varints (take i ns))
          (shortest_varint (get_or ns i 0)),
      length-short (get_or ns i 0),
    )

-- bytes that are as long as the shortest encodings are these
pub short_already : (ns bytes : List ℕ) → AreEncoded ns bytes
    → (length (shortest_varints ns) ≤ length bytes) × (length bytes ≡ length (shortest_varints ns) → bytes ≡ shortest_varints ns)
short_already [] bytes s = (omega (arith, ap length s), λ _. s)
short_already (n ∷ ns) bytes s =
    let first = short_least n s.0 s.3 in
    let others = short_already ns s.1 s.4 in
    let parts : length bytes ≡ length s.0 + length s.1 = ap length s.2 ∙ length-append s.0 s.1 in
    let wanted : length (shortest_varints (n ∷ ns)) ≡ length (shortest_varint n)
    + length (shortest_varints ns) = length-append (shortest_varint n) (shortest_varints ns) in (
      omega (arith, first.0, others.0, parts, wanted),
      λ same.
          s.2 ∙ ap (λ (l : List ℕ). l ++ s.1) (first.1 (omega (arith, same, parts, wanted, first.0, others.0)))
          ∙ ap (λ (l : List ℕ). shortest_varint n ++ l) (others.1 (omega (arith, same, parts, wanted, first.0, others.0))),
    )

-- They were written.
abbrev pub WroteThem : List ℕ → ℕ → List ℕ → ℕ → List ℕ → Type 0
WroteThem w s w' s' ns = Wrote (shortest_varints ns) w s w' s'

pub wrote_one : {E : Type 0} (r : Result (Unit {0}) E) (n : ℕ) (w w1 w2 : List ℕ) (s s1 s2 : ℕ)
    → Writes r (shortest_varint n) w1 s1 w2 s2 → r ≡ Ok tt → (ns : List ℕ) → WroteThem w s w1 s1 ns
    → WroteThem w s w2 s2 (ns ++ n ∷ [])
wrote_one r n w w1 w2 s s1 s2 x ok ns so_far =
    subst (λ (l : List ℕ). Wrote l w s w2 s2) (sym (all_short-last ns n))
    (wrote_more r (shortest_varints ns) (shortest_varint n) w w1 w2 s s1 s2 so_far x ok)

pub wrote_them : {E : Type 0} (ns w w1 : List ℕ) (s s1 : ℕ) → WroteThem w s w1 s1 ns
    → Writes {E = E} (Ok tt) (shortest_varints ns) w s w1 s1
wrote_them ns w w1 s s1 x = record { ok = x.stands; err = tt; full = tt; room = x.room }

pub refused_one : {D E : Type 0} (r : Result (Unit {0}) E) (refused : Result (Unit {0}) D) (d : D) (error : E)
    (rest ns : List ℕ) (n : ℕ) (after : List ℕ) (w w1 w2 : List ℕ) (s s1 s2 : ℕ)
    → AreBytes rest → ReadSome (WroteThem w s w1 s1) rest ns → varint_at rest ≡ Ok (n, after)
    → Writes r (shortest_varint n) w1 s1 w2 s2 → r ≡ Err error → refused ≡ Err d
    → Writes refused (shortest_varints ns) w s w2 s2
refused_one r refused d error rest ns n after w w1 w2 s s1 s2 fits x e y is was =
    let next = next_number x.left rest n after fits x.numbers e in
    let parts : shortest_varints ns ≡ shortest_varints x.before ++ (shortest_varint n ++ shortest_varints next.others) =
    ap shortest_varints (x.are ∙ ap (λ (l : List ℕ). x.before ++ l) next.are)
    ∙ all_short-append x.before (n ∷ next.others) in
    writes_within r refused d (shortest_varints x.before) (shortest_varint n) (shortest_varints next.others)
    (shortest_varints ns) w w1 w2 s s1 s2 error parts x.holds y is was
