-- Numbers of any width, as the readers of this crate return them.
use Rattle.std.proofs.Common.{◌≡◌, ℕ, ◌<◌, List, ◌∷◌, ◌++◌, length, Option, None, Some, Ok, Err, ap}
use Rattle.quic_base.specs.Number.{AreBytes}
use Rattle.quic_base.specs.Codec.{Takes}
use Rattle.quic_base.specs.Varint.{Encodes}
use Rattle.quic_base.specs.Reading.{number_at}
use Rattle.quic_base.proofs.PublicLaws.{number_taken, number_again, short_found, encoded_bound}
use Rattle.quic_frame_fields.specs.declared.frame.fault.Fault.{Fault}
use Rattle.quic_frame_fields.specs.declared.frame.fault.Fault.TheVariants.{UnexpectedEnd}
use Rattle.quic_frame_fields.specs.Reading.{or_end, varint_at}

or_end_ok : (found : Option (ℕ × List ℕ)) (x : ℕ × List ℕ) → or_end found ≡ Ok x → found ≡ Some x
or_end_ok None x e = absurd cc
or_end_ok (Some y) x e = cc

or_end_err : (found : Option (ℕ × List ℕ)) (e : Fault) → or_end found ≡ Err e → e ≡ UnexpectedEnd
or_end_err None e h = cc
or_end_err (Some x) e h = absurd cc

pub varint_takes : (bytes : List ℕ) (n : ℕ) (rest : List ℕ) → AreBytes bytes → varint_at bytes ≡ Ok (n, rest)
    → Takes (Encodes n) bytes rest
unfolding varint_at
varint_takes bytes n rest fits e = number_taken bytes n rest fits (or_end_ok (number_at bytes) (n, rest) e)

pub varint_again : (n : ℕ) (front rest : List ℕ) → Encodes n front → varint_at (front ++ rest) ≡ Ok (n, rest)
unfolding varint_at
varint_again n front rest s = ap or_end (number_again n front rest s)

pub varint_fails : (bytes : List ℕ) (e : Fault) → varint_at bytes ≡ Err e → e ≡ UnexpectedEnd
unfolding varint_at
varint_fails bytes e h = or_end_err (number_at bytes) e h

pub varint_some : (n : ℕ) (bytes : List ℕ) → Encodes n bytes → 0 < length bytes
varint_some n bytes s = (encoded_bound n bytes s).1

-- what was found at the front is what reading returns
pub varint_found : (bytes : List ℕ) (x : ℕ × List ℕ) → number_at bytes ≡ Some x → varint_at bytes ≡ Ok x
unfolding varint_at
varint_found bytes x e = ap or_end e

pub varint_none : (bytes : List ℕ) → number_at bytes ≡ None → varint_at bytes ≡ Err UnexpectedEnd
unfolding varint_at
varint_none bytes e = ap or_end e

pub one_at : (n : ℕ) (rest : List ℕ) → n < 64 → varint_at (n ∷ rest) ≡ Ok (n, rest)
one_at n rest lt = varint_found (n ∷ rest) (n, rest) (short_found n rest lt)
