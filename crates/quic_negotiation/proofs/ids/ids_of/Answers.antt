-- The bytes begin with these ids after a first byte and a version, or with none.
use Rattle.std.proofs.Common.{ℕ, rules, subst, sym, arith, ◌∙◌}
use Rattle.quic_header_decode.specs.Places.{AnyVersion}
use Rattle.quic_negotiation.proofs.Fronts.{front_of, of_front, one_id}
use Rattle.quic_negotiation.proofs.ids.ids_of.Goals as goal

pub returns-then-first-lt128-clause-read : goal.returns-then-first-lt128-clause-read
returns-then-first-lt128-clause-read c = λ version dst src rest is.
    let f =
    front_of c.in_ok-first.first.now version c.args.packet.now c.in_ok-first.behind.now c.in_ok-version.version.now
    c.in_ok-version.behind.now dst src rest c.in_ok-first.ensures.cases.0
    c.in_ok-version.ensures.cases.0 c.in_ok-version.ensures.cases.1 is in
    let long = f.long in
    omega (arith, long, c.if-first-lt128)

pub returns-in_err-dst-clause-read : goal.returns-in_err-dst-clause-read
returns-in_err-dst-clause-read c = rw c.from_residual-in_err-dst.ensures (λ version dst src rest is.
    let f =
    front_of c.in_ok-first.first.now version c.args.packet.now c.in_ok-first.behind.now c.in_ok-version.version.now
    c.in_ok-version.behind.now dst src rest c.in_ok-first.ensures.cases.0
    c.in_ok-version.ensures.cases.0 c.in_ok-version.ensures.cases.1 is in
    c.in_err-dst.ensures.read dst _ f.ids)

pub returns-in_err-src-clause-read : goal.returns-in_err-src-clause-read
returns-in_err-src-clause-read c = rw c.from_residual-in_err-src.ensures (λ version dst src rest is.
    let f =
    front_of c.in_ok-first.first.now version c.args.packet.now c.in_ok-first.behind.now c.in_ok-version.version.now
    c.in_ok-version.behind.now dst src rest c.in_ok-first.ensures.cases.0
    c.in_ok-version.ensures.cases.0 c.in_ok-version.ensures.cases.1 is in
    let one = one_id c.in_ok-dst.dst.now dst c.in_ok-dst.behind.now _ (sym c.in_ok-dst.ensures.read ∙ f.ids) in
    c.in_err-src.ensures.read src rest one.1)

pub returns-clause-read : goal.returns-clause-read
returns-clause-read c = (
  c.in_ok-src._rest.now,
  subst (λ (v : ℕ). AnyVersion c.args.packet.now v c.in_ok-dst.dst.now c.in_ok-src.src.now c.in_ok-src._rest.now)
      (sym c.from_be_bytes.ensures)
      (of_front c.in_ok-first.first.now c.args.packet.now c.in_ok-first.behind.now c.in_ok-version.version.now
      c.in_ok-version.behind.now c.in_ok-dst.dst.now c.in_ok-dst.behind.now c.in_ok-src.src.now
      c.in_ok-src._rest.now c.in_ok-first.ensures.cases.0 c.in_ok-version.ensures.cases.0
      c.in_ok-version.ensures.cases.1 c.in_ok-version.ensures.cases.2 (search (rules, c.if-first-lt128))
      c.are_bytes.ensures c.in_ok-dst.ensures.read c.in_ok-src.ensures.read),
)
