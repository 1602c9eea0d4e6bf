-- The laws of the keys that protect nothing. Proofs are here because an implementation proves its trait's laws only
-- from definitions.
use Rattle.std.specs.Prelude.{◌≡◌, ℕ, ◌+◌, ◌-◌, List, ◌++◌, length, take, drop, nat_le, nat_eq, Some, None, ◌&&◌, refl}
use Rattle.std.specs.Cmp.Lexicographic.{pointwise, nat_list_eq_equiv}
use Rattle.std.proofs.Common.{cond, true, ap, ◌∙◌, arith, length-append}
use Rattle.std.proofs.Math.Seq.{drop-append_seam, take-append_seam}
use Rattle.std.proofs.lemmas.Bool.Decides.{nat_tests}
use Rattle.quic_base.specs.Number.{AreBytes, bytes_of}
use Rattle.quic_crypto.specs.Keys.{Protects, Unprotects}
use Rattle.quic_crypto.specs.Toy.{toy_tag, toy_seal, toy_open}

pub toy_protects : (at : ℕ) (packet : List ℕ) → AreBytes packet → Protects at packet packet
toy_protects at packet bytes = record
    { len = refl; bytes = bytes; first = refl; before = λ i _ _. refl; after = λ i _. refl }

pub toy_unprotects : (at : ℕ) (packet : List ℕ) → AreBytes packet → Unprotects at packet packet
toy_unprotects at packet bytes = record
    { len = refl; bytes = bytes; first = refl; before = λ i _ _. refl; after = λ i _. refl }

tag_length : (number : ℕ) → length (toy_tag number) ≡ 16
unfolding bytes_of
tag_length number = refl

pub toy_sealed_len : (number : ℕ) (payload : List ℕ) → length (toy_seal number payload) ≡ length payload + 16
toy_sealed_len number payload = length-append payload (toy_tag number)
    ∙ ap (λ n. length payload + n) (tag_length number)

opened : (tag payload : List ℕ) → length tag ≡ 16
    → cond (nat_le 16 (length (payload ++ tag))
    && pointwise nat_eq (drop (length (payload ++ tag) - 16) (payload ++ tag)) tag)
    (Some (take (length (payload ++ tag) - 16) (payload ++ tag))) None ≡ Some payload
opened tag payload long =
    let sum : length (payload ++ tag) ≡ length payload + 16 = length-append payload tag
    ∙ ap (λ n. length payload + n) long in
    let at : length (payload ++ tag) - 16 ≡ length payload = omega arith in
    let enough : nat_le 16 (length (payload ++ tag)) ≡ true = grind (arith, nat_tests) in
    rw (at, enough, drop-append_seam payload tag, take-append_seam payload tag, nat_list_eq_equiv.refl tag)

pub toy_opens : (number : ℕ) (payload : List ℕ) → toy_open number (toy_seal number payload) ≡ Some payload
toy_opens number payload = opened (toy_tag number) payload (tag_length number)
