-- Headers that are read with ids of any length if their version isn't known.
use Rattle.std.specs.Prelude.{◌≡◌, ◌≢◌, ℕ, ◌+◌, ◌-◌, ◌≤◌, Bool, true, false, List, [], ◌∷◌, ◌++◌, length, take, drop, Option, Some, None, Result, Ok, Err, Contains, nat_lt, nat_eq, not, ◌&&◌, ◌||◌}
use Rattle.std.proofs.Common.{sym, ap, subst, ◌∙◌, arith, refl, cond, inl, inr, suc, length-append, length-take}
use Rattle.std.specs.List.{list_any}
use Rattle.std.specs.Option.{ok_or}
use Rattle.std.proofs.Math.Seq.{drop-append_seam, take-append_seam}
use Rattle.std.proofs.lemmas.List.{take-append-drop}
use Rattle.std.proofs.lemmas.Bool.Decides.{nat_tests}
use Rattle.quic_base.specs.ConnectionId.{long_id}
use Rattle.quic_base.specs.Number.{AreBytes, IsNumber, bytes_of}
use Rattle.quic_base.specs.Reading.{◌>>=◌, number_at}
use Rattle.quic_base.proofs.PublicLaws as law
use Rattle.quic_header_encode.specs.declared.long_type.LongHeaderType.{LongHeaderType}
use Rattle.quic_header_encode.specs.declared.long_type.LongHeaderType.TheVariants as kind
use Rattle.quic_header_encode.specs.Types.{long_type}
use Rattle.quic_header_decode.specs.declared.protected.ProtectedHeader.{ProtectedHeader}
use Rattle.quic_header_decode.specs.declared.protected.ProtectedHeader.TheVariants as protected
use Rattle.quic_header_decode.specs.Reading.{long_id_at, wide_id_at, word_at}
use Rattle.quic_header_decode.specs.Grammar.{is_long, Refused}
use Rattle.quic_header_decode.specs.Parsers.{fixed_parsed, fixed_lawful}
use Rattle.quic_header_decode.specs.Places.{any_fixed, IsUnknownVersion, ReadAnswer}
use Rattle.quic_header_decode.specs.Reading.{TakesWithin, at_end, bad_id, header_at, long_at, typed_at, wide_at, wide_header_at}
use Rattle.quic_header_decode.specs.Refusal.{Refusal, Unsupported, Invalid, NoMemory}
use Rattle.quic_header_decode.proofs.FieldLaws.{word_found, word_of}
use Rattle.quic_header_decode.proofs.Headers.{header_found, header_again, refused_found, refused_again}
use Rattle.quic_header_decode.proofs.Rows.{known_again, known_at}
use Rattle.quic_header_decode.proofs.Steps.{bind_err, bool_cases, chosen, match_ok, none_some, option_err, option_ok, otherwise, pair_parts, some_of, some_pair, some_same, taken, then_ok}

abbrev pub Read : Type 0
Read = Result (ProtectedHeader × List ℕ) Refusal

-- ---- ids

narrow : Option (List ℕ × List ℕ) → Option (List ℕ × List ℕ)
narrow None = None
narrow (Some id) = cond (nat_lt 20 (length id.0)) None (Some id)

either_one : (a b : Bool) → b ≡ true → (a || b) ≡ true
either_one true b e = refl
either_one false b e = e

neither : (a b : Bool) → a ≡ false → b ≡ false → (a || b) ≡ false
neither true b e f = absurd cc
neither false b e f = f

first_one : (a b : Bool) → a ≡ true → (a || b) ≡ true
first_one true b e = refl
first_one false b e = absurd cc

wide_is : (n : ℕ) (rest : List ℕ) → nat_lt (length rest) n ≡ false
    → wide_id_at (n ∷ rest) ≡ Some (take n rest, drop n rest)
wide_is n rest room = otherwise (nat_lt (length rest) n) None (Some (take n rest, drop n rest)) _ room refl

narrowed : (bytes : List ℕ) → long_id_at bytes ≡ narrow (wide_id_at bytes)
unfolding narrow
narrowed [] = refl
narrowed (n ∷ rest) = elim (bool_cases (nat_lt (length rest) n)) [
  | inl short ↦
      taken (nat_lt 20 n || nat_lt (length rest) n) None (Some (take n rest, drop n rest)) None (either_one _ _ short) refl
      ∙ sym (ap narrow (taken (nat_lt (length rest) n) None (Some (take n rest, drop n rest)) None short refl))
  | inr room ↦
      let enough : n ≤ length rest = grind (arith, nat_tests) in
      let len : length (take n rest) ≡ n = omega (arith, length-take n rest) in
      elim (bool_cases (nat_lt 20 n)) [
        | inl long ↦
            taken (nat_lt 20 n || nat_lt (length rest) n) None (Some (take n rest, drop n rest)) None (first_one _ _ long) refl
            ∙ sym (ap narrow (wide_is n rest room) ∙ taken (nat_lt 20 (length (take n rest))) None
            (Some (take n rest, drop n rest)) None (ap (nat_lt 20) len ∙ long) refl)
        | inr few ↦
            otherwise (nat_lt 20 n || nat_lt (length rest) n) None (Some (take n rest, drop n rest)) _ (neither _ _ few room) refl
            ∙ sym (ap narrow (wide_is n rest room) ∙ otherwise (nat_lt 20 (length (take n rest))) None
            (Some (take n rest, drop n rest)) _ (ap (nat_lt 20) len ∙ few) refl)
      ]
]

pub wide_found : (bytes id rest : List ℕ) → wide_id_at bytes ≡ Some (id, rest) → bytes ≡ long_id id ++ rest
wide_found [] id rest e = absurd cc
wide_found (n ∷ bytes) id rest e =
    elim (chosen {A = Option (List ℕ × List ℕ)} (nat_lt (length bytes) n) None (Some (take n bytes, drop n bytes)) (Some (id, rest)) e) [
      | inl bad ↦ absurd (none_some (id, rest) bad.1)
      | inr good ↦
          let parts = pair_parts (some_same good.1) in
          let room : n ≤ length bytes = grind (arith, nat_tests) in
          let len : length id ≡ n = omega (arith, length-take n bytes, ap length parts.0) in
          ap (λ (xs : List ℕ). n ∷ xs) (sym (take-append-drop n bytes))
          ∙ ap (λ (m : ℕ). m ∷ (take n bytes ++ drop n bytes)) (sym len)
          ∙ ap (λ (xs : List ℕ). length id ∷ (xs ++ drop n bytes)) parts.0
          ∙ ap (λ (xs : List ℕ). length id ∷ (id ++ xs)) parts.1
    ]

pub wide_again : (id rest : List ℕ) → wide_id_at (long_id id ++ rest) ≡ Some (id, rest)
wide_again id rest =
    let long : length (id ++ rest) ≡ length id + length rest = length-append id rest in
    let test : nat_lt (length (id ++ rest)) (length id) ≡ false = grind (arith, nat_tests) in
    otherwise (nat_lt (length (id ++ rest)) (length id)) None
    (Some (take (length id) (id ++ rest), drop (length id) (id ++ rest))) (Some (id, rest)) test
    (some_pair (take (length id) (id ++ rest)) id (drop (length id) (id ++ rest)) rest (take-append_seam id rest)
    (drop-append_seam id rest))

-- ---- what both readers say

-- except for unknown versions, both say the same
abbrev pub Agrees : Read → Read → Type 0
Agrees (Ok x) other = other ≡ Ok x
Agrees (Err (Unsupported src dst version)) other = (found : ProtectedHeader × List ℕ) → other ≡ Ok found → ⊥
Agrees (Err (Invalid text)) other = other ≡ Err (Invalid text)
Agrees (Err NoMemory) other = other ≡ Err NoMemory

agrees_self : (r : Read) → Agrees r r
agrees_self (Ok x) = refl
agrees_self (Err (Unsupported src dst version)) = λ found e. cc
agrees_self (Err (Invalid text)) = refl
agrees_self (Err NoMemory) = refl

agree_word : (o : Option (ℕ × List ℕ)) (f g : ℕ × List ℕ → Read) → ((x : ℕ × List ℕ) → Agrees (f x) (g x))
    → Agrees (ok_or o at_end >>= f) (ok_or o at_end >>= g)
agree_word None f g h = refl
agree_word (Some x) f g h = h x

agree_narrow : (o : Option (List ℕ × List ℕ)) (f g : List ℕ × List ℕ → Read)
    → ((x : List ℕ × List ℕ) → nat_lt 20 (length x.0) ≡ false → Agrees (f x) (g x))
    → ((x : List ℕ × List ℕ) → nat_lt 20 (length x.0) ≡ true → Agrees (f x) (Err bad_id))
    → Agrees (ok_or o bad_id >>= f) (ok_or (narrow o) bad_id >>= g)
unfolding narrow
agree_narrow None f g few many = refl
agree_narrow (Some x) f g few many = elim (bool_cases (nat_lt 20 (length x.0))) [
  | inl long ↦ subst (λ (b : Bool). Agrees (f x) (ok_or (cond b None (Some x)) bad_id >>= g)) (sym long) (many x long)
  | inr short ↦ subst (λ (b : Bool). Agrees (f x) (ok_or (cond b None (Some x)) bad_id >>= g)) (sym short) (few x short)
]

agree_id : (bytes : List ℕ) (f g : List ℕ × List ℕ → Read)
    → ((x : List ℕ × List ℕ) → nat_lt 20 (length x.0) ≡ false → Agrees (f x) (g x))
    → ((x : List ℕ × List ℕ) → nat_lt 20 (length x.0) ≡ true → Agrees (f x) (Err bad_id))
    → Agrees (ok_or (wide_id_at bytes) bad_id >>= f) (ok_or (long_id_at bytes) bad_id >>= g)
agree_id bytes f g few many =
    subst (λ (o : Option (List ℕ × List ℕ)). Agrees (ok_or (wide_id_at bytes) bad_id >>= f) (ok_or o bad_id >>= g)) (sym (narrowed bytes))
    (agree_narrow (wide_id_at bytes) f g few many)

agree_bad : (o : Option (List ℕ × List ℕ)) (f : List ℕ × List ℕ → Read)
    → ((x : List ℕ × List ℕ) → Agrees (f x) (Err bad_id)) → Agrees (ok_or o bad_id >>= f) (Err bad_id)
agree_bad None f h = refl
agree_bad (Some x) f h = h x

agree_few : (zero known wide : Bool) (src dst : List ℕ) (version : ℕ) (r t : Read) → wide ≡ false
    → Agrees (cond (not zero && not known) (Err (Unsupported src dst version)) (cond wide (Err bad_id) (cond zero r t)))
    (cond zero r (cond (not known) (Err (Unsupported src dst version)) t))
agree_few zero known true src dst version r t e = absurd cc
agree_few true known false src dst version r t e = agrees_self r
agree_few false true false src dst version r t e = agrees_self t
agree_few false false false src dst version r t e = λ found is. cc

agree_many : (zero known wide : Bool) (src dst : List ℕ) (version : ℕ) (r t : Read) → wide ≡ true
    → Agrees (cond (not zero && not known) (Err (Unsupported src dst version)) (cond wide (Err bad_id) (cond zero r t))) (Err bad_id)
agree_many zero known false src dst version r t e = absurd cc
agree_many true known true src dst version r t e = refl
agree_many false true true src dst version r t e = refl
agree_many false false true src dst version r t e = λ found is. cc

wide_agrees : (versions : List ℕ) (whole first : ℕ) (bytes : List ℕ)
    → Agrees (wide_at versions whole first bytes) (long_at versions whole first bytes)
unfolding wide_at long_at
wide_agrees versions whole first bytes = agree_word (word_at bytes) _ _ (λ version.
    let known : Bool = list_any (λ k. nat_eq k version.0) versions in
    agree_id version.1 _ _
    (λ dst few. agree_id dst.1 _ _
    (λ src short. agree_few (nat_eq version.0 0) known (nat_lt 20 (length dst.0) || nat_lt 20 (length src.0)) src.0 dst.0 version.0
    (Ok (protected.VersionNegotiate (first - 128) dst.0 src.0, src.1))
    (typed_at (long_type version.0 first) whole dst.0 src.0 version.0 src.1) (neither _ _ few short))
    (λ src long. agree_many (nat_eq version.0 0) known (nat_lt 20 (length dst.0) || nat_lt 20 (length src.0)) src.0 dst.0 version.0
    (Ok (protected.VersionNegotiate (first - 128) dst.0 src.0, src.1))
    (typed_at (long_type version.0 first) whole dst.0 src.0 version.0 src.1) (either_one _ _ long)))
    (λ dst many. agree_bad (wide_id_at dst.1) _ (λ src. agree_many (nat_eq version.0 0) known
    (nat_lt 20 (length dst.0) || nat_lt 20 (length src.0)) src.0 dst.0 version.0
    (Ok (protected.VersionNegotiate (first - 128) dst.0 src.0, src.1))
    (typed_at (long_type version.0 first) whole dst.0 src.0 version.0 src.1) (first_one _ _ many))))

agree_first : (b : Bool) (short wide long : Read) → Agrees wide long → Agrees (cond b short wide) (cond b short long)
agree_first true short wide long h = agrees_self short
agree_first false short wide long h = h

pub header_agrees : (id_len : ℕ) (versions : List ℕ) (whole : ℕ) (bytes : List ℕ)
    → Agrees (wide_header_at id_len versions whole bytes) (header_at (any_fixed id_len versions) whole bytes)
unfolding wide_header_at header_at
header_agrees id_len versions whole [] = refl
header_agrees id_len versions whole (first ∷ text) =
    agree_first (nat_lt first 128) _ _ _ (wide_agrees versions whole first text)

-- ---- unknown versions

both_true : (a b : Bool) → (a && b) ≡ true → (a ≡ true) × (b ≡ true)
both_true true b e = (refl, e)
both_true false b e = absurd cc

from_not : (b : Bool) → not b ≡ true → b ≡ false
from_not true e = sym e
from_not false e = refl

typed_reported : (ty : LongHeaderType) (whole : ℕ) (dst src : List ℕ) (version : ℕ) (bytes s d : List ℕ) (v : ℕ)
    → typed_at ty whole dst src version bytes ≡ Err (Unsupported s d v) → ⊥
unfolding typed_at
typed_reported kind.Retry whole dst src version bytes s d v e = cc
typed_reported (kind.Standard ty) whole dst src version bytes s d v e =
    elim (bind_err (ok_or (number_at bytes) at_end) _ (Unsupported s d v) e) [
      | inl bad ↦ (let end = (option_err (number_at bytes) at_end (Unsupported s d v) bad).1 in cc)
      | inr x ↦ (let other = x.2 in cc)
    ]
typed_reported kind.Initial whole dst src version bytes s d v e =
    elim (bind_err (ok_or (number_at bytes) at_end) _ (Unsupported s d v) e) [
      | inl bad ↦ (let end = (option_err (number_at bytes) at_end (Unsupported s d v) bad).1 in cc)
      | inr x ↦ elim (chosen (nat_lt (length x.0.1) x.0.0) _ _ (Err (Unsupported s d v)) x.2) [
        | inl past ↦ (let other = past.1 in cc)
        | inr within ↦ elim (bind_err (ok_or (number_at (drop x.0.0 x.0.1)) at_end) _ (Unsupported s d v) within.1) [
          | inl bad ↦ (let end = (option_err (number_at (drop x.0.0 x.0.1)) at_end (Unsupported s d v) bad).1 in cc)
          | inr y ↦ (let other = y.2 in cc)
        ]
      ]
    ]

-- the ids of an unknown version after the first byte
abbrev pub HasUnknownIds : List ℕ → List ℕ → ℕ → List ℕ → List ℕ → Type 0
HasUnknownIds versions text version dst src =
    (number : List ℕ) × (rest : List ℕ) × (text ≡ number ++ (long_id dst ++ (long_id src ++ rest)))
    × IsNumber 4 version number × (version ≢ 0)
    × (Contains versions version → ⊥)

pub named : (src s dst d : List ℕ) (version v : ℕ)
    → (let r : Read = Err (Unsupported s d v) in r) ≡ Err (Unsupported src dst version)
    → (s ≡ src) × (d ≡ dst) × (v ≡ version)
named src s dst d version v e = (cc, cc, cc)

unknown_behind : (versions text src s dst d : List ℕ) (version v : ℕ)
    → (let r : Read = Err (Unsupported s d v) in r) ≡ Err (Unsupported src dst version)
    → HasUnknownIds versions text v d s → HasUnknownIds versions text version dst src
unknown_behind versions text src s dst d version v e h =
    let names = named src s dst d version v e in
    subst (λ (n : ℕ). HasUnknownIds versions text n dst src) names.2
    (subst (λ (x : List ℕ). HasUnknownIds versions text v x src) names.1
    (subst (λ (x : List ℕ). HasUnknownIds versions text v d x) names.0 h))

pub wide_unknown : (versions : List ℕ) (whole first : ℕ) (text src dst : List ℕ) (version : ℕ) → AreBytes text
    → wide_at versions whole first text ≡ Err (Unsupported src dst version)
    → HasUnknownIds versions text version dst src
unfolding wide_at
wide_unknown versions whole first text src dst version fits e =
    elim (bind_err (ok_or (word_at text) at_end) _ (Unsupported src dst version) e) [
      | inl bad ↦ absurd (let end = (option_err (word_at text) at_end (Unsupported src dst version) bad).1 in cc)
      | inr w ↦
          let number = word_found text w.0.0 w.0.1 fits (option_ok (word_at text) at_end w.0 w.1) in
          let known : Bool = list_any (λ k. nat_eq k w.0.0) versions in
          elim (bind_err (ok_or (wide_id_at w.0.1) bad_id) _ (Unsupported src dst version) w.2) [
            | inl bad ↦ absurd (let end = (option_err (wide_id_at w.0.1) bad_id (Unsupported src dst version) bad).1 in cc)
            | inr d ↦
                let one : w.0.1 ≡ long_id d.0.0 ++ d.0.1 =
                wide_found w.0.1 d.0.0 d.0.1 (option_ok (wide_id_at w.0.1) bad_id d.0 d.1) in
                elim (bind_err (ok_or (wide_id_at d.0.1) bad_id) _ (Unsupported src dst version) d.2) [
                  | inl bad ↦ absurd (let end = (option_err (wide_id_at d.0.1) bad_id (Unsupported src dst version) bad).1 in cc)
                  | inr s ↦
                      let two : d.0.1 ≡ long_id s.0.0 ++ s.0.1 =
                      wide_found d.0.1 s.0.0 s.0.1 (option_ok (wide_id_at d.0.1) bad_id s.0 s.1) in
                      elim (chosen (not (nat_eq w.0.0 0) && not known) _ _ (Err (Unsupported src dst version)) s.2) [
                        | inl reported ↦
                            let tests = both_true (not (nat_eq w.0.0 0)) (not known) reported.0 in
                            let zero : nat_eq w.0.0 0 ≡ false = from_not (nat_eq w.0.0 0) tests.0 in
                            unknown_behind versions text src s.0.0 dst d.0.0 version w.0.0 reported.1 (
                              bytes_of 4 w.0.0,
                              s.0.1,
                              number.0
                                  ∙ ap (λ (xs : List ℕ). bytes_of 4 w.0.0 ++ xs) (one ∙ ap (λ (xs : List ℕ). long_id d.0.0 ++ xs) two),
                              law.is_number_4 w.0.0 number.1,
                              (λ same. (let no : nat_eq w.0.0 0 ≡ true = grind (arith, nat_tests) in cc)),
                              (λ contained. (let no = known_again versions w.0.0 contained in cc)),
                            )
                        | inr later ↦ absurd (elim (chosen (nat_lt 20 (length d.0.0) || nat_lt 20 (length s.0.0)) _ _
                            (Err (Unsupported src dst version)) later.1) [
                              | inl long ↦ (let other = long.1 in cc)
                              | inr few ↦ elim (chosen (nat_eq w.0.0 0) _ _ (Err (Unsupported src dst version)) few.1) [
                                | inl none ↦ (let other = none.1 in cc)
                                | inr some ↦ typed_reported (long_type w.0.0 first) whole d.0.0 s.0.0 w.0.0 s.0.1 src dst version some.1
                              ]
                            ])
                      ]
                ]
          ]
    ]

pub unknown_again : (versions : List ℕ) (whole first : ℕ) (text src dst : List ℕ) (version : ℕ)
    → HasUnknownIds versions text version dst src
    → wide_at versions whole first text ≡ Err (Unsupported src dst version)
unfolding wide_at
unknown_again versions whole first text src dst version (number, rest, split, is, some, none) =
    let zero : nat_eq version 0 ≡ false = grind (arith, nat_tests, some) in
    let known : Bool = list_any (λ k. nat_eq k version) versions in
    let unseen : known ≡ false =
    elim (bool_cases known) [ inl among ↦ absurd (none (known_at versions version among)) | inr new ↦ new ] in
    let test : (not (nat_eq version 0) && not known) ≡ true = rw (zero, unseen) in
    let src_bytes : List ℕ = long_id src ++ rest in
    let dst_bytes : List ℕ = long_id dst ++ src_bytes in
    ap (wide_at versions whole first) split
    ∙ then_ok (ok_or (word_at (number ++ dst_bytes)) at_end) _ (version, dst_bytes) _
    (some_of _ at_end _ (word_of number dst_bytes version is.width is.value))
    (then_ok (ok_or (wide_id_at dst_bytes) bad_id) _ (dst, src_bytes) _ (some_of _ bad_id _ (wide_again dst src_bytes))
    (then_ok (ok_or (wide_id_at src_bytes) bad_id) _ (src, rest) _ (some_of _ bad_id _ (wide_again src rest))
    (taken (not (nat_eq version 0) && not known) _ _ _ test refl)))

-- ---- headers

fixed_reported : (short : Bool) (text id : List ℕ) (n : ℕ) (f : List ℕ × ℕ → ProtectedHeader × List ℕ) (s d : List ℕ) (v : ℕ)
    → (cond {A = Result (List ℕ × ℕ) Refusal} short (Err (Invalid text)) (Ok (id, n)) >>= λ x. Ok (f x)) ≡ Err (Unsupported s d v)
    → ⊥
fixed_reported true text id n f s d v e = cc
fixed_reported false text id n f s d v e = cc

long_first : (first : ℕ) → nat_lt first 128 ≡ false → is_long first ≡ true
long_first first e = grind (arith, nat_tests)

not_short : (first : ℕ) → is_long first ≡ true → nat_lt first 128 ≡ false
not_short first e = grind (arith, nat_tests)

pub unknown_found : (id_len : ℕ) (versions : List ℕ) (whole : ℕ) (bytes src dst : List ℕ) (version : ℕ) → AreBytes bytes
    → wide_header_at id_len versions whole bytes ≡ Err (Unsupported src dst version)
    → IsUnknownVersion (any_fixed id_len versions) bytes version dst src
unfolding wide_header_at
unknown_found id_len versions whole [] src dst version fits e = absurd cc
unknown_found id_len versions whole (first ∷ text) src dst version fits e =
    elim (chosen (nat_lt first 128) _ _ (Err (Unsupported src dst version)) e) [
      | inl short ↦ absurd (fixed_reported (nat_lt (length text) id_len) _ _ _ _ src dst version short.1)
      | inr long ↦
          let h = wide_unknown versions whole first text src dst version (λ i. fits (suc i)) long.1 in
          (h.1, (first, h.0, ap (λ (xs : List ℕ). first ∷ xs) h.2, long_first first long.0, h.3), h.4, h.5)
    ]

unknown_type : (id_len : ℕ) (versions : List ℕ) (whole : ℕ) (bytes src dst : List ℕ) (version : ℕ)
    → IsUnknownVersion (any_fixed id_len versions) bytes version dst src
    → wide_header_at id_len versions whole bytes ≡ Err (Unsupported src dst version)
unfolding wide_header_at
unknown_type id_len versions whole bytes src dst version (rest, (first, number, split, long, is), some, none) =
    ap (wide_header_at id_len versions whole) split
    ∙ otherwise (nat_lt first 128) _ _ _ (not_short first long)
    (unknown_again versions whole first (number ++ (long_id dst ++ (long_id src ++ rest))) src dst version
    (number, rest, refl, is, some, none))

pub takes : (id_len : ℕ) (versions : List ℕ) → TakesWithin (any_fixed id_len versions)
takes id_len versions text id n e =
    match_ok (λ x. x.1 ≤ length text) (λ r. r ≡ NoMemory → ⊥) (fixed_parsed id_len text) (id, n) (fixed_lawful id_len text) e

refused : (id_len : ℕ) (versions bytes : List ℕ) (e : Refusal) → AreBytes bytes
    → wide_header_at id_len versions (length bytes) bytes ≡ Err e
    → ((src dst : List ℕ) (version : ℕ) → e ≡ Unsupported src dst version → ⊥)
    → header_at (any_fixed id_len versions) (length bytes) bytes ≡ Err e
    → Refused (any_fixed id_len versions) bytes e × ((version : ℕ) (dst src : List ℕ)
    → IsUnknownVersion (any_fixed id_len versions) bytes version dst src → ⊥)
refused id_len versions bytes e fits read other same = (
  refused_found (any_fixed id_len versions) (length bytes) bytes e fits (takes id_len versions) same,
  (λ version dst src unknown. other src dst version (let reported = unknown_type id_len versions (length bytes) bytes
      src dst version unknown in cc)),
)

pub read_answer : (id_len : ℕ) (versions bytes : List ℕ) → AreBytes bytes → (r : Read)
    → wide_header_at id_len versions (length bytes) bytes ≡ r
    → ReadAnswer (any_fixed id_len versions) bytes r
read_answer id_len versions bytes fits (Ok found) e =
    let same : header_at (any_fixed id_len versions) (length bytes) bytes ≡ Ok found =
    subst (λ (r : Read). Agrees r (header_at (any_fixed id_len versions) (length bytes) bytes)) e
    (header_agrees id_len versions (length bytes) bytes) in
    header_found (any_fixed id_len versions) (length bytes) bytes found.1 found.0 fits (omega arith) (takes id_len versions) same
read_answer id_len versions bytes fits (Err (Unsupported src dst version)) e =
    unknown_found id_len versions (length bytes) bytes src dst version fits e
read_answer id_len versions bytes fits (Err (Invalid text)) e =
    refused id_len versions bytes (Invalid text) fits e (λ src dst version same. cc)
    (subst (λ (r : Read). Agrees r (header_at (any_fixed id_len versions) (length bytes) bytes)) e
    (header_agrees id_len versions (length bytes) bytes))
read_answer id_len versions bytes fits (Err NoMemory) e =
    refused id_len versions bytes NoMemory fits e (λ src dst version same. cc)
    (subst (λ (r : Read). Agrees r (header_at (any_fixed id_len versions) (length bytes) bytes)) e
    (header_agrees id_len versions (length bytes) bytes))

pub long_answer : (id_len : ℕ) (versions bytes : List ℕ) (first : ℕ) → AreBytes bytes → (r : Read)
    → bytes ≡ first ∷ drop 1 bytes → 128 ≤ first
    → wide_at versions (length bytes) first (drop 1 bytes) ≡ r → ReadAnswer (any_fixed id_len versions) bytes r
unfolding wide_header_at
long_answer id_len versions bytes first fits r split long e =
    let test : nat_lt first 128 ≡ false = grind (arith, nat_tests) in
    read_answer id_len versions bytes fits r
    (ap (wide_header_at id_len versions (length bytes)) split ∙ otherwise (nat_lt first 128) _ _ _ test e)

-- ---- one reading

sole : (id_len : ℕ) (versions bytes : List ℕ) (w r : Read) → AreBytes bytes
    → wide_header_at id_len versions (length bytes) bytes ≡ w
    → Agrees w (header_at (any_fixed id_len versions) (length bytes) bytes)
    → ReadAnswer (any_fixed id_len versions) bytes r → w ≡ r
sole id_len versions bytes (Ok x) (Ok found) fits e agrees a =
    sym agrees ∙ header_again (any_fixed id_len versions) (length bytes) bytes found.0 found.1 a
sole id_len versions bytes (Ok x) (Err (Unsupported src dst version)) fits e agrees a =
    absurd (let reported = unknown_type id_len versions (length bytes) bytes src dst version a in cc)
sole id_len versions bytes (Ok x) (Err (Invalid text)) fits e agrees a =
    absurd (let reported = refused_again (any_fixed id_len versions) (length bytes) bytes (Invalid text) fits a.0 in cc)
sole id_len versions bytes (Ok x) (Err NoMemory) fits e agrees a =
    absurd (let reported = refused_again (any_fixed id_len versions) (length bytes) bytes NoMemory fits a.0 in cc)
sole id_len versions bytes (Err (Unsupported s d v)) (Ok found) fits e agrees a =
    absurd (agrees found (header_again (any_fixed id_len versions) (length bytes) bytes found.0 found.1 a))
sole id_len versions bytes (Err (Unsupported s d v)) (Err (Unsupported src dst version)) fits e agrees a =
    sym e ∙ unknown_type id_len versions (length bytes) bytes src dst version a
sole id_len versions bytes (Err (Unsupported s d v)) (Err (Invalid text)) fits e agrees a =
    absurd (a.1 v d s (unknown_found id_len versions (length bytes) bytes s d v fits e))
sole id_len versions bytes (Err (Unsupported s d v)) (Err NoMemory) fits e agrees a =
    absurd (a.1 v d s (unknown_found id_len versions (length bytes) bytes s d v fits e))
sole id_len versions bytes (Err (Invalid t)) (Ok found) fits e agrees a =
    absurd (let reported = header_again (any_fixed id_len versions) (length bytes) bytes found.0 found.1 a in cc)
sole id_len versions bytes (Err (Invalid t)) (Err (Unsupported src dst version)) fits e agrees a =
    absurd (let reported = unknown_type id_len versions (length bytes) bytes src dst version a in cc)
sole id_len versions bytes (Err (Invalid t)) (Err (Invalid text)) fits e agrees a =
    sym agrees ∙ refused_again (any_fixed id_len versions) (length bytes) bytes (Invalid text) fits a.0
sole id_len versions bytes (Err (Invalid t)) (Err NoMemory) fits e agrees a =
    sym agrees ∙ refused_again (any_fixed id_len versions) (length bytes) bytes NoMemory fits a.0
sole id_len versions bytes (Err NoMemory) (Ok found) fits e agrees a =
    absurd (let reported = header_again (any_fixed id_len versions) (length bytes) bytes found.0 found.1 a in cc)
sole id_len versions bytes (Err NoMemory) (Err (Unsupported src dst version)) fits e agrees a =
    absurd (let reported = unknown_type id_len versions (length bytes) bytes src dst version a in cc)
sole id_len versions bytes (Err NoMemory) (Err (Invalid text)) fits e agrees a =
    sym agrees ∙ refused_again (any_fixed id_len versions) (length bytes) bytes (Invalid text) fits a.0
sole id_len versions bytes (Err NoMemory) (Err NoMemory) fits e agrees a = refl

-- bytes begin with one header or with the ids of one unknown version, or have one error
pub read_sole : (id_len : ℕ) (versions bytes : List ℕ) (one other : Read) → AreBytes bytes
    → ReadAnswer (any_fixed id_len versions) bytes one → ReadAnswer (any_fixed id_len versions) bytes other
    → one ≡ other
read_sole id_len versions bytes one other fits a b =
    let read : Read = wide_header_at id_len versions (length bytes) bytes in
    let agrees = header_agrees id_len versions (length bytes) bytes in
    sym (sole id_len versions bytes read one fits refl agrees a)
    ∙ sole id_len versions bytes read other fits refl agrees b
