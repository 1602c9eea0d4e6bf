-- Versions one by one.
use Rattle.std.proofs.Common.{◌≡◌, ℕ, ◌<◌, ◌≤◌, true, Bor, Option, None, Some, List, [], ◌∷◌, length, take, drop, refl, sym, ap, subst, ◌∙◌, arith}
use Rattle.std.specs.Prelude.{◌==◌, IfSome}
use Rattle.std.proofs.lemmas.Bool.Decides.{nat_tests}
use Rattle.std.proofs.lemmas.List.{drop_at, length-append, length-take-le, take-append-drop, take_at}
use Rattle.quic_base.specs.Number.{AreBytes, IsNumber, num}
use Rattle.quic_base.proofs.PublicLaws.{front_bytes}
use Rattle.quic_versions.specs.Versions.{AreVersions, IsInformation}

front_is : (bytes : List ℕ) → AreBytes bytes → 4 ≤ length bytes → IsNumber 4 (num (take 4 bytes)) (take 4 bytes)
front_is bytes fits long = record {
  bytes = front_bytes (take 4 bytes) (drop 4 bytes) (subst AreBytes (sym (take-append-drop 4 bytes)) fits);
  width = length-take-le 4 bytes long;
  value = refl;
}

pub together : (bytes versions : List ℕ) → AreBytes bytes → 4 ≤ length bytes → 0 < num (take 4 bytes)
    → AreVersions versions (drop 4 bytes) → AreVersions (num (take 4 bytes) ∷ versions) bytes
together bytes versions fits long some others =
    (some, take 4 bytes, drop 4 bytes, sym (take-append-drop 4 bytes), front_is bytes fits long, others)

pub record Apart (version : ℕ) (versions bytes : List ℕ) : Type 0 where
  pub long : 4 ≤ length bytes
  pub some : 0 < version
  pub first : version ≡ num (take 4 bytes)
  pub others : AreVersions versions (drop 4 bytes)

pub apart : (version : ℕ) (versions bytes : List ℕ) → AreVersions (version ∷ versions) bytes
    → Apart version versions bytes
apart version versions bytes s =
    let four = s.4.width in
    let front : take 4 bytes ≡ s.1 = ap (take 4) s.3 ∙ take_at s.1 s.2 4 four in
    let back : drop 4 bytes ≡ s.2 = ap (drop 4) s.3 ∙ drop_at s.1 s.2 4 four in
    record {
      long = omega (arith, ap length s.3, length-append s.1 s.2, four);
      some = s.0;
      first = sym s.4.value ∙ ap num (sym front);
      others = subst (AreVersions versions) (sym back) s.5;
    }

pub none_is_0 : (versions bytes : List ℕ) → 4 ≤ length bytes → num (take 4 bytes) ≡ 0 → AreVersions versions bytes → ⊥
none_is_0 [] bytes long zero s = absurd (omega (arith, long, ap length s))
none_is_0 (version ∷ versions) bytes long zero s =
    let a = apart version versions bytes s in absurd (omega (arith, a.some, a.first, zero))

pub behind : (versions bytes : List ℕ) → 4 ≤ length bytes → AreVersions versions bytes
    → (others : List ℕ) × AreVersions others (drop 4 bytes)
behind [] bytes long s = absurd (omega (arith, long, ap length s))
behind (version ∷ versions) bytes long s = (versions, (apart version versions bytes s).others)

pub short_is_empty : (versions bytes : List ℕ) → length bytes < 4 → AreVersions versions bytes → bytes ≡ []
short_is_empty [] bytes short s = s
short_is_empty (version ∷ versions) bytes short s =
    absurd (omega (arith, short, (apart version versions bytes s).long))

pub is_nil : (bytes : List ℕ) → (length bytes == 0) ≡ true → bytes ≡ []
is_nil [] e = refl
is_nil (byte ∷ bytes) e = let zero : length (byte ∷ bytes) ≡ 0 = grind (arith, nat_tests) in absurd (omega (arith, zero))

-- ---- the word at the front

abbrev pub IsWord : List ℕ → ℕ × Bor (List ℕ) → Type 0
IsWord bytes x = (4 ≤ length bytes) × (x.0 ≡ num (take 4 bytes)) × (x.1.now ≡ drop 4 bytes)

pub first_is : (list bytes : List ℕ) (word : Option (ℕ × Bor (List ℕ))) → AreVersions list bytes
    → IfSome word (IsWord bytes)
    → IfSome word (λ x. (others : List ℕ) × (list ≡ x.0 ∷ others) × AreVersions others x.1.now)
first_is list bytes None s w = tt
first_is [] bytes (Some x) s w = absurd (omega (arith, w.0, ap length s))
first_is (version ∷ versions) bytes (Some x) s w =
    let a = apart version versions bytes s in
    (versions, ap (λ (n : ℕ). n ∷ versions) (a.first ∙ sym w.1), subst (AreVersions versions) (sym w.2) a.others)

pub none_is : (list bytes : List ℕ) → AreVersions list bytes → length bytes < 4 → list ≡ []
none_is [] bytes s short = refl
none_is (version ∷ versions) bytes s short = absurd (omega (arith, short, (apart version versions bytes s).long))

pub read_is : (list bytes : List ℕ) (word : Option (ℕ × Bor (List ℕ))) → AreVersions list bytes
    → IfSome word (IsWord bytes)
    → IfSome word (λ x. (available : List ℕ) × IsInformation x.0 available bytes × AreVersions available x.1.now)
read_is list bytes None s w = tt
read_is list bytes (Some x) s w =
    let first = first_is list bytes (Some x) s w in
    (first.0, subst (λ (l : List ℕ). AreVersions l bytes) first.1 s, first.2)
