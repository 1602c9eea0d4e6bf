-- Encoders one after the other: what the buffer has after some of them, and after one that failed.
use Rattle.std.proofs.Common.{◌≡◌, ℕ, ◌+◌, List, [], ◌++◌, length, Result, Ok, Err, OnOk, OnErr, refl, sym, ap, subst, ◌∙◌, append_assoc, arith}
use Rattle.std.proofs.lemmas.List.{length-append, append-nil}
use Rattle.std.specs.Result.{is_ok}
use Rattle.bytes.specs.Filled.{UsesSpare}
use Rattle.quic_base.specs.Codec.{KeepsRoom}
use Rattle.quic_base.specs.Writing.{Writes}
use Rattle.quic_base.proofs.PublicLaws.{begun_first, begun_second}

err_is_not_ok : {A E : Type 0} {e : E} {x : A} → Err e ≡ Ok x → ⊥
err_is_not_ok is = cc

-- one call that puts n bytes, and a result that is Ok if the call's is
pub put_writes : {D E : Type 0} (put : Result (Unit {0}) D) (result : Result (Unit {0}) E) (bytes written : List ℕ)
    (spare : ℕ) (written' : List ℕ) (spare' n : ℕ)
    → OnOk put (written' ≡ written ++ bytes) → OnErr put (written' ≡ written) → UsesSpare put spare spare' n
    → is_ok result ≡ is_ok put → length bytes ≡ n → Writes result bytes written spare written' spare'
put_writes (Ok u) (Ok v) bytes w s w' s' n ok err room same l =
    record { ok = ok; err = tt; full = tt; room = omega (arith, ap length ok, length-append w bytes) }
put_writes (Err d) (Err e) bytes w s w' s' n ok err room same l =
    record {
      ok = tt;
      err = record { done = []; left = bytes; whole = refl; stands = err ∙ sym (append-nil w) };
      full = omega (arith, room.0);
      room = omega (arith, ap length err, room.1);
    }
put_writes (Ok u) (Err e) bytes w s w' s' n ok err room same l = cc
put_writes (Err d) (Ok v) bytes w s w' s' n ok err room same l = cc

-- what was written so far
pub record Wrote (bytes written : List ℕ) (spare : ℕ) (written' : List ℕ) (spare' : ℕ) : Type 0 where
  pub stands : written' ≡ written ++ bytes
  pub room : KeepsRoom written spare written' spare'

pub wrote_nothing : (written : List ℕ) (spare : ℕ) → Wrote [] written spare written spare
wrote_nothing written spare = record { stands = sym (append-nil written); room = omega arith }

-- an encoder that succeeded, after others
pub wrote_more : {E : Type 0} (result : Result (Unit {0}) E) (a b w w1 w2 : List ℕ) (s s1 s2 : ℕ) → Wrote a w s w1 s1
    → Writes result b w1 s1 w2 s2 → result ≡ Ok tt → Wrote (a ++ b) w s w2 s2
wrote_more (Ok u) a b w w1 w2 s s1 s2 so_far x e = record {
  stands = x.ok ∙ ap (λ (k : List ℕ). k ++ b) so_far.stands ∙ append_assoc w a b;
  room = omega (arith, so_far.room, x.room);
}
wrote_more (Err e) a b w w1 w2 s s1 s2 so_far x is = absurd (err_is_not_ok is)

-- the first encoder of several, which succeeded
pub wrote_first : {E : Type 0} (result : Result (Unit {0}) E) (b w w1 : List ℕ) (s s1 : ℕ) → Writes result b w s w1 s1
    → result ≡ Ok tt → Wrote b w s w1 s1
wrote_first result b w w1 s s1 x e = wrote_more result [] b w w w1 s s s1 (wrote_nothing w s) x e

-- the last encoder after others, whether it succeeds or not
pub writes_last : {E : Type 0} (result : Result (Unit {0}) E) (a b w w1 w2 : List ℕ) (s s1 s2 : ℕ) → Wrote a w s w1 s1
    → Writes result b w1 s1 w2 s2 → Writes result (a ++ b) w s w2 s2
writes_last (Ok u) a b w w1 w2 s s1 s2 so_far x = record {
  ok = x.ok ∙ ap (λ (k : List ℕ). k ++ b) so_far.stands ∙ append_assoc w a b;
  err = tt;
  full = tt;
  room = omega (arith, so_far.room, x.room);
}
writes_last (Err e) a b w w1 w2 s s1 s2 so_far x =
    let all : length (a ++ b) ≡ length a + length b = length-append a b in
    let before : length w1 ≡ length w + length a = ap length so_far.stands ∙ length-append w a in
    record {
      ok = tt;
      err = begun_second w w1 a b w2 so_far.stands x.err;
      full = omega (arith, so_far.room, x.full, all, before);
      room = omega (arith, so_far.room, x.room);
    }

-- an encoder that failed, before others
pub writes_begun : {D E : Type 0} (result : Result (Unit {0}) E) (refused : Result (Unit {0}) D) (d : D)
    (b c w w2 : List ℕ) (s s2 : ℕ) (e : E)
    → Writes result b w s w2 s2 → result ≡ Err e → refused ≡ Err d → Writes refused (b ++ c) w s w2 s2
writes_begun (Ok u) refused d b c w w2 s s2 e x is r = absurd (err_is_not_ok (sym is))
writes_begun (Err e0) (Ok u) d b c w w2 s s2 e x is r = absurd (err_is_not_ok (sym r))
writes_begun (Err e0) (Err d0) d b c w w2 s s2 e x is r =
    let all : length (b ++ c) ≡ length b + length c = length-append b c in
    record { ok = tt; err = begun_first w b c w2 x.err; full = omega (arith, x.full, all); room = x.room }

-- an encoder that failed, between others
pub writes_within : {D E : Type 0} (result : Result (Unit {0}) E) (refused : Result (Unit {0}) D) (d : D)
    (a b c whole w w1 w2 : List ℕ) (s s1 s2 : ℕ) (e : E)
    → whole ≡ a ++ (b ++ c)
    → Wrote a w s w1 s1 → Writes result b w1 s1 w2 s2 → result ≡ Err e → refused ≡ Err d
    → Writes refused whole w s w2 s2
writes_within result refused d a b c whole w w1 w2 s s1 s2 e parts so_far x is r =
    subst (λ k. Writes refused k w s w2 s2) (sym parts) (writes_last refused a (b ++ c) w w1 w2 s s1 s2 so_far
    (writes_begun result refused d b c w1 w2 s1 s2 e x is r))

-- the last of three encoders, after two that succeeded
pub writes_third : {E F : Type 0} (second : Result (Unit {0}) E) (third : Result (Unit {0}) F) (a b c w w1 w2 w3 : List ℕ) (s s1 s2 s3 : ℕ)
    → Wrote a w s w1 s1 → Writes second b w1 s1 w2 s2 → second ≡ Ok tt → Writes third c w2 s2 w3 s3
    → Writes third (a ++ (b ++ c)) w s w3 s3
writes_third second third a b c w w1 w2 w3 s s1 s2 s3 first x is y =
    subst (λ k. Writes third k w s w3 s3) (append_assoc a b c)
    (writes_last third (a ++ b) c w w2 w3 s s2 s3 (wrote_more second a b w w1 w2 s s1 s2 first x is) y)
