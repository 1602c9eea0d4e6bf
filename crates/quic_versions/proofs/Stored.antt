-- Versions that are stored one after another, and what they are read as.
use Rattle.std.proofs.Common.{◌≡◌, ℕ, ◌+◌, ◌*◌, ◌<◌, ◌^◌, List, [], ◌∷◌, ◌++◌, length, take, drop, get_or, refl, sym, ap, subst, ◌∙◌, suc, inl, inr, arith}
use Rattle.std.specs.Prelude.{Contains, slice_index}
use Rattle.std.proofs.Math.Nat.{eq-zero-or-pos}
use Rattle.std.proofs.lemmas.Grind.{flat_map-append}
use Rattle.std.proofs.lemmas.List.{append-nil, append_assoc, length-append, take_more}
use Rattle.quic_base.specs.Number.{bytes_of}
use Rattle.quic_base.proofs.PublicLaws as law
use Rattle.quic_base.proofs.Storing.{stays}
use Rattle.quic_versions.specs.Versions.{AreVersions, version_bytes}

-- that many versions were written
pub record StoredOn (versions : List ℕ) (at : ℕ) (old : List ℕ) (i end : ℕ) (new : List ℕ) : Type 0 where
  pub count : end ≡ at + 4 * i
  pub front : take end new ≡ take at old ++ version_bytes (take i versions)
  pub back : drop end new ≡ drop end old
  pub len : length new ≡ length old

version_more : (versions : List ℕ) (i : ℕ) → i < length versions
    → version_bytes (take (i + 1) versions) ≡ version_bytes (take i versions) ++ bytes_of 4 (get_or versions i 0)
version_more versions i lt =
    let v : ℕ = get_or versions i 0 in
    ap version_bytes (take_more versions i 0 lt) ∙ flat_map-append (bytes_of 4) (take i versions) (v ∷ [])
    ∙ ap (λ (xs : List ℕ). version_bytes (take i versions) ++ xs) (append-nil (bytes_of 4 v))

pub stored_more : (versions : List ℕ) (at i end stop : ℕ) (old one new : List ℕ) → i < length versions
    → StoredOn versions at old i end one
    → stop ≡ end + 4 → take stop new ≡ take end one ++ bytes_of 4 (get_or versions i 0) → drop stop new ≡ drop stop one
    → length new ≡ length one
    → StoredOn versions at old (i + 1) stop new
stored_more versions at i end stop old one new lt inv after front back same = record {
  count = (let so_far = inv.count in omega (arith, so_far, after));
  front = front ∙ ap (λ (xs : List ℕ). xs ++ bytes_of 4 (get_or versions i 0)) inv.front
      ∙ append_assoc (take at old) (version_bytes (take i versions)) (bytes_of 4 (get_or versions i 0))
      ∙ ap (λ (xs : List ℕ). take at old ++ xs) (sym (version_more versions i lt));
  back = back ∙ stays end stop one old inv.back (omega (arith, after));
  len = same ∙ inv.len;
}

-- ---- what they are read as

pub in_front : (v : ℕ) (versions : List ℕ) → v ≡ 0 → Contains (v ∷ versions) 0
in_front v versions zero = (0, omega arith, zero)

pub in_rest : (v : ℕ) (versions : List ℕ) → Contains versions 0 → Contains (v ∷ versions) 0
in_rest v versions s = (suc s.0, omega (arith, s.1), s.2)

pub are_stored : (versions : List ℕ) → ((i : ℕ) → slice_index versions i < 2 ^ 32) → (Contains versions 0 → ⊥)
    → AreVersions versions (version_bytes versions)
are_stored [] fits some = refl
are_stored (v ∷ versions) fits some =
    let above : 0 < v = elim (eq-zero-or-pos v) [ inl zero ↦ absurd (some (in_front v versions zero)) | inr lt ↦ lt ] in (
      above,
      bytes_of 4 v,
      version_bytes versions,
      refl,
      law.is_number_4 v (fits 0),
      are_stored versions (λ i. fits (suc i)) (λ s. some (in_rest v versions s)),
    )

-- ---- laws

pub read_one : (list other bytes : List ℕ) → AreVersions list bytes → AreVersions other bytes → list ≡ other
read_one [] [] bytes a b = refl
read_one [] (w ∷ other) bytes a b = absurd (omega (arith, ap length (sym a ∙ b.3), length-append b.1 b.2, b.4.width))
read_one (v ∷ list) [] bytes a b = absurd (omega (arith, ap length (sym b ∙ a.3), length-append a.1 a.2, a.4.width))
read_one (v ∷ list) (w ∷ other) bytes a b =
    let same = law.number_unique 4 v w a.1 b.1 a.2 b.2 (sym a.3 ∙ b.3) a.4 b.4 in
    ap (λ (n : ℕ). n ∷ list) same.0 ∙ ap (λ (xs : List ℕ). w ∷ xs)
    (read_one list other a.2 a.5 (subst (AreVersions other) (sym same.2) b.5))

pub one_form : (list bytes others : List ℕ) → AreVersions list bytes → AreVersions list others → bytes ≡ others
one_form [] bytes others a b = a ∙ sym b
one_form (v ∷ list) bytes others a b =
    let front : a.1 ≡ b.1 =
    law.num_injective a.1 b.1 a.4.bytes b.4.bytes (a.4.width ∙ sym b.4.width) (a.4.value ∙ sym b.4.value) in
    a.3 ∙ ap (λ (xs : List ℕ). xs ++ a.2) front ∙ ap (λ (xs : List ℕ). b.1 ++ xs) (one_form list a.2 b.2 a.5 b.5)
    ∙ sym b.3
