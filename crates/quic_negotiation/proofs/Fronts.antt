-- The ids of a long header of any version.
use Rattle.std.proofs.Common.{◌≡◌, ℕ, ◌+◌, ◌≤◌, List, [], ◌∷◌, ◌++◌, length, take, drop, sym, ap, ◌∙◌, arith}
use Rattle.std.specs.Int.{w32, from_be_bytes}
use Rattle.std.proofs.lemmas.Bool.Decides.{nat_tests}
use Rattle.std.proofs.lemmas.List.{drop_at, length-take, take-append-drop, take_at}
use Rattle.quic_base.specs.ConnectionId.{long_id}
use Rattle.quic_base.specs.Number.{num, AreBytes}
use Rattle.quic_base.proofs.PublicLaws as law
use Rattle.quic_header_decode.specs.Places.{AnyVersion}

parts_of_cons : (x y : ℕ) (xs ys : List ℕ) → x ∷ xs ≡ y ∷ ys → (x ≡ y) × (xs ≡ ys)
parts_of_cons x y xs ys e = (cc, cc)

-- bytes begin with one id after its length
pub one_id : (a b r s : List ℕ) → long_id a ++ r ≡ long_id b ++ s → (a ≡ b) × (r ≡ s)
one_id a b r s e =
    let parts = parts_of_cons (length a) (length b) (a ++ r) (b ++ s) e in
    (law.same_front a b r s parts.0 parts.1, law.same_back a b r s parts.0 parts.1)

word_is : (b : List ℕ) → length b ≡ 4 → from_be_bytes w32 b ≡ num b
word_is (x ∷ y ∷ z ∷ w ∷ []) h = omega arith
word_is b h = absurd (omega arith)

-- what a first byte and four more mean
pub record Front (first version : ℕ) (number behind dst src rest : List ℕ) : Type 0 where
  pub long : 128 ≤ first
  pub value : from_be_bytes w32 number ≡ version
  pub ids : behind ≡ long_id dst ++ (long_id src ++ rest)

pub front_of : (first version : ℕ) (packet text number behind dst src rest : List ℕ) → packet ≡ first ∷ text
    → number ≡ take 4 text → behind ≡ drop 4 text
    → AnyVersion packet version dst src rest → Front first version number behind dst src rest
front_of first version packet text number behind dst src rest is front back (f, word, whole, long, says) =
    let ids : List ℕ = long_id dst ++ (long_id src ++ rest) in
    let parts = parts_of_cons first f text (word ++ ids) (sym is ∙ whole) in
    let same : number ≡ word = front ∙ ap (take 4) parts.1 ∙ take_at word ids 4 says.width in
    let first_is : first ≡ f = parts.0 in
    record {
      long = (let above : 128 ≤ f = grind (arith, nat_tests) in omega (arith, above, first_is));
      value = ap (from_be_bytes w32) same ∙ word_is word says.width ∙ says.value;
      ids = back ∙ ap (drop 4) parts.1 ∙ drop_at word ids 4 says.width;
    }

-- and such bytes begin one
pub of_front : (first : ℕ) (packet text number behind dst left src rest : List ℕ) → packet ≡ first ∷ text
    → number ≡ take 4 text → behind ≡ drop 4 text
    → length behind + 4 ≡ length text → 128 ≤ first → AreBytes number
    → behind ≡ long_id dst ++ left → left ≡ long_id src ++ rest
    → AnyVersion packet (from_be_bytes w32 number) dst src rest
of_front first packet text number behind dst left src rest is front back size long bytes one two =
    let width : length number ≡ 4 = omega (arith, ap length front, length-take 4 text, size) in
    let ids : behind ≡ long_id dst ++ (long_id src ++ rest) = one ∙ ap (λ (xs : List ℕ). long_id dst ++ xs) two in
    let whole : text ≡ number ++ (long_id dst ++ (long_id src ++ rest)) =
    sym (take-append-drop 4 text) ∙ ap (λ (xs : List ℕ). xs ++ drop 4 text) (sym front)
    ∙ ap (λ (xs : List ℕ). number ++ xs) (sym back ∙ ids) in (
      first,
      number,
      is ∙ ap (λ (xs : List ℕ). first ∷ xs) whole,
      grind (arith, nat_tests),
      record { bytes = bytes; width = width; value = sym (word_is number width) },
    )

-- the version and the ids are those that are read, and no others
pub same_ids : (version v : ℕ) (packet dst src rest d s r : List ℕ) → AnyVersion packet version dst src rest
    → AnyVersion packet v d s r
    → (version ≡ v) × (dst ≡ d) × (src ≡ s)
same_ids version v packet dst src rest d s r (f, number, whole, long, word) (g, other, all, high, is) =
    let ids : List ℕ = long_id dst ++ (long_id src ++ rest) in
    let others : List ℕ = long_id d ++ (long_id s ++ r) in
    let parts = parts_of_cons f g (number ++ ids) (other ++ others) (sym whole ∙ all) in
    let behind = law.number_unique 4 version v number other ids others parts.1 word is in
    let one = one_id dst d (long_id src ++ rest) (long_id s ++ r) behind.2 in
    let two = one_id src s rest r one.1 in
    (behind.0, one.0, two.0)
