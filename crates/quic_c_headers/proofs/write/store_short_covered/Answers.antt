-- Four bytes of a number are stored at its end, and the id overwrites those that are too many.
use Rattle.std.proofs.Common.{◌≡◌, ◌+◌, ◌-◌, ◌≤◌, ◌∷◌, ◌++◌, ◌∙◌, ℕ, List, [], length, ap, arith, rules}
use Rattle.std.specs.Prelude.{drop, take}
use Rattle.quic_base.specs.Number.{bytes_of}
use Rattle.quic_base.proofs.Storing.{stays}
use Rattle.quic_c_headers.proofs.Writing.{short_stored}
use Rattle.quic_c_headers.proofs.Covered.{covered}
use Rattle.quic_c_headers.proofs.write.store_short_covered.Goals as goal

pub returns : goal.returns
unfolding bytes_of
returns c =
    let words = c.args.words.now in
    let dst : List ℕ = c.args.dst.now in
    let k : ℕ = length dst + words.number_len - 3 in
    let one : List ℕ = c.store_array.new.bytes in
    let two : List ℕ = c.store_array-2.new.bytes in
    let new : List ℕ = c.store.new.out in
    let first : take 1 one ≡ c.short_first.result ∷ [] = search rules in
    let four : take (k + 4) two ≡ take k one ++ bytes_of 4 words.number = search rules in
    let id : take (1 + length dst) new ≡ take 1 two ++ dst = search rules in
    let behind : drop (1 + length dst) new ≡ drop (1 + length dst) two = search rules in
    let end : length dst + words.number_len + 1 ≡ k + 4 = omega arith in
    let within : k ≤ length one = omega (arith, c.store_array.ensures.len, c.requires.fits.fits) in
    record {
      size = search rules;
      front = ap (λ (i : ℕ). take i new) end
          ∙ covered k words.number_len c.short_first.result words.number dst one two new c.requires.fits.some
          c.requires.fits.few (omega arith) (omega arith) within first four id behind
          ∙ ap (λ (f : ℕ). f ∷ (dst ++ bytes_of words.number_len words.number)) c.short_first.ensures
          ∙ short_stored words dst c.requires.fits.some c.requires.fits.few;
      back = stays (1 + length dst) (length dst + words.number_len + 1) new two c.store.ensures.back (omega arith)
          ∙ stays c.store_array-2.result (length dst + words.number_len + 1) two one c.store_array-2.ensures.back (omega arith)
          ∙ stays 1 (length dst + words.number_len + 1) one c.args.dest.now (search rules) (omega arith);
      len = search rules;
    }
