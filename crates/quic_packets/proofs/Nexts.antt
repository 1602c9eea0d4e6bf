-- A datagram's packets are opened one after another, from what is left of it.
use Rattle.std.specs.Prelude.{◌≡◌, ℕ, ◌+◌, ◌<◌, List, [], ◌∷◌, ◌++◌, length, Option, Some, None, Result, Ok, Err, IfSome}
use Rattle.std.proofs.Common.{sym, subst, arith}
use Rattle.bytes.specs.Filled.{Filled}
use Rattle.quic_packets.specs.declared.opening.Opened.{Opened}
use Rattle.quic_packets.specs.declared.opening.OpenError.{OpenError}
use Rattle.quic_packets.specs.Opening.{DatagramAnswer, PacketAnswer, NextAnswer, Opening, left_size}
use Rattle.quic_packets.proofs.Rows.{All, Kept, kept_start, kept_step, kept_end, row_first}

-- ---- the next packet

less_left : (bytes : List ℕ) (left : Option Filled) → IfSome left (λ f. length f.items < length bytes)
    → left_size left < 1 + length bytes
less_left bytes None less = omega arith
less_left bytes (Some f) less = omega (arith, less)

pub next_of : (opening : Opening) {old : Option Filled} {left : Filled} (result : Option (Result Opened OpenError))
    (new : Option Filled)
    → old ≡ Some left → NextAnswer opening (Some left) result new → NextAnswer opening old result new
next_of opening {old} {left} result new is next =
    subst (λ (o : Option Filled). NextAnswer opening o result new) (sym is) next

-- ---- all packets

abbrev ReachedAt : Opening → List Opened → List ℕ → List Opened → Option Filled → Type 0
ReachedAt opening before bytes now None = All opening before bytes now
ReachedAt opening before bytes now (Some left) = Kept opening before bytes now left.items

-- how far the packets were opened
pub record Reached (opening : Opening) (before : List Opened) (bytes : List ℕ) (now : List Opened) (left : Option Filled) : Type 0 where
  is : ReachedAt opening before bytes now left

pub reached_first : {opening : Opening} {before : List Opened} {bytes : Filled}
    → Reached opening before bytes.items before (Some bytes)
reached_first {opening} {before} {bytes} = record { is = kept_start opening before bytes.items }

-- what is left begins with the next packet, and room was made
kept_at : (opening : Opening) (before : List Opened) (bytes : List ℕ) (now room : List Opened) (left : Option Filled) (next : Filled)
    → Reached opening before bytes now left → left ≡ Some next → room ≡ now → Kept opening before bytes room next.items
kept_at opening before bytes now room left next it is same =
    subst (λ (out : List Opened). Kept opening before bytes out next.items) (sym same) (subst (ReachedAt opening before bytes now) is it.is)

step_to : (opening : Opening) (before : List Opened) (bytes : List ℕ) (now new : List Opened) (opened : Opened)
    (next : List ℕ) (left : Option Filled)
    → Kept opening before bytes now next → PacketAnswer opening next (Ok (opened, left)) → new ≡ now ++ (opened ∷ [])
    → Reached opening before bytes new left
step_to opening before bytes now new opened next None it first pushed =
    record { is = kept_end opening before bytes now next new opened it first.opened first.sealed pushed }
step_to opening before bytes now new opened next (Some left) it first pushed =
    record { is = kept_step opening before bytes now next new opened left it first.opened first.sealed pushed }

-- a packet more
pub reached_step : {opening : Opening} {before : List Opened} {bytes : List ℕ} {now room new : List Opened}
    {opened : Opened} {result : Result Opened OpenError} {old left : Option Filled} {next : Filled}
    → Reached opening before bytes now old → old ≡ Some next → room ≡ now
    → NextAnswer opening (Some next) (Some result) left → result ≡ Ok opened → new ≡ room ++ (opened ∷ [])
    → Reached opening before bytes new left
reached_step {opening} {before} {bytes} {now} {room} {new} {opened} {result} {old} {left} {next} it is same first ok pushed =
    step_to opening before bytes room new opened next.items left
    (kept_at opening before bytes now room old next it is same)
    (subst (λ (r : Result Opened OpenError). NextAnswer opening (Some next) (Some r) left) ok first) pushed

-- the measure
pub reached_less : {old : Option Filled} (left : Option Filled) {next : Filled} → old ≡ Some next
    → IfSome left (λ f. length f.items < length next.items) → left_size left < left_size old
reached_less {old} left {next} is less =
    subst (λ (o : Option Filled). left_size left < left_size o) (sym is) (less_left next.items left less)

-- nothing is left
pub reached_all : {X : Type 0} {opening : Opening} {before : List Opened} {bytes : List ℕ} {now : List Opened}
    {left : Option Filled} (x : X)
    → Reached opening before bytes now left → left ≡ None → DatagramAnswer opening bytes (Ok x) before now
reached_all {X} {opening} {before} {bytes} {now} {left} x it is =
    let all : All opening before bytes now = subst (ReachedAt opening before bytes now) is it.is in
    record { opened = all.opened; refused = tt; sealed = all.returned }

-- the next packet isn't opened
pub reached_refused : {X : Type 0} {opening : Opening} {before : List Opened} {bytes : List ℕ} {now room : List Opened}
    {result : Result Opened OpenError} {old : Option Filled} (left : Option Filled) {next : Filled} {e : OpenError}
    → Reached opening before bytes now old → old ≡ Some next → room ≡ now
    → NextAnswer opening (Some next) (Some result) left → result ≡ Err e
    → DatagramAnswer {X = X} opening bytes (Err e) before room
reached_refused {X} {opening} {before} {bytes} {now} {room} {result} {old} left {next} {e} it is same answer err =
    let kept = kept_at opening before bytes now room old next it is same in
    let first : PacketAnswer opening next.items (Err e) =
    (subst (λ (r : Result Opened OpenError). NextAnswer opening (Some next) (Some r) left) err answer).0 in
    record {
      opened = tt;
      refused = (next.items, first.refused, kept.steps);
      sealed = λ packets row.
          let p = kept.progress packets row in
          let split = row_first opening p.others next.items p.row in
          (first.sealed split.contents split.rest split.begins, (p.done, p.others, p.all, p.returned));
    }
