-- Each call continues the row of packets.
use Rattle.std.proofs.Common.{◌≡◌, ◌+◌, ◌-◌, ◌≤◌, ◌<◌, ◌∙◌, ℕ, ℤ, List, arith, ap, subst, refl, length, set, take, drop, length-drop, rules, to_z, of_z, w32, w64, pos, ◌≤ℤ◌}
use Rattle.std.proofs.lemmas.Grind.{drop_more_same}
use Rattle.std.proofs.lemmas.Int.{ints}
use Rattle.std.proofs.lemmas.List.{take_all}
use lib.IntN.{nat_abs}
use Rattle.quic_base.specs.One.{ReturnsOne}
use Rattle.quic_c_headers.specs.Packets.{IsReturned, PacketAnswerBy}
use Rattle.quic_results.specs.Results.{failed}
use Rattle.quic_results.specs.declared.results.Failure.TheVariants as failure
use Rattle.quic_c_headers.specs.declared.words.CHeader.{CHeader}
use Rattle.quic_c_headers.proofs.Packets.{only_answer}
use Rattle.quic_c_headers.proofs.Walking.{IsSole, by_error, by_packet, kept_behind, moved, moved_on, walk_ends, walk_fails, walk_full, walk_goes_on}
use Rattle.quic_c_headers.proofs.walks.walk_packets.Goals as goal

sole : (flags id_len : ℕ) (versions : List ℕ) → IsSole (PacketAnswerBy flags id_len versions)
sole flags id_len versions = λ bytes one other fits. only_answer flags id_len versions bytes one other fits

rest_is : (bytes : List ℕ) (start : ℕ) → take (length bytes - start) (drop start bytes) ≡ drop start bytes
rest_is bytes start = take_all (length bytes - start) (drop start bytes) (omega (arith, length-drop start bytes))

-- what the call returned about the rest
abbrev Called : ℕ → ℕ → List ℕ → List ℕ → ℤ → CHeader → Type 0
Called flags id_len versions bytes result head =
    length bytes < 4294967296 → id_len ≤ 20
    → ReturnsOne (PacketAnswerBy flags id_len versions bytes) (IsReturned bytes result head)

called : (flags id_len : ℕ) (versions bytes : List ℕ) (start : ℕ) (result : ℤ) (head : CHeader)
    → length bytes < 4294967296 → id_len ≤ 20
    → Called flags id_len versions (take (length bytes - start) (drop start bytes)) result head
    → ReturnsOne (PacketAnswerBy flags id_len versions (drop start bytes)) (IsReturned (drop start bytes) result head)
called flags id_len versions bytes start result head fits few returned =
    subst (λ (xs : List ℕ). Called flags id_len versions xs result head) (rest_is bytes start) returned
    (omega (arith, length-drop start bytes)) few

pub returns-then-read-lt0-clause-one : goal.returns-then-read-lt0-clause-one
returns-then-read-lt0-clause-one c = λ fits few.
    let read = c.quic_wire_header_read_-read in
    let first = PacketAnswerBy c.args.flags c.args.id_len c.args.versions.now in
    let rest = drop c.loop-count.start c.args.datagram.now in
    let r =
    called c.args.flags c.args.id_len c.args.versions.now c.args.datagram.now c.loop-count.start read.result read.new.head
    fits few read.ensures.packet in
    let count : to_z w64 (of_z w64 read.result) ≡ read.result = search rules in
    let e = by_error first rest read.result read.new.head r.one.it r.one.is r.returned (omega (arith, ints)) in
    let same : length c.loop-count.heads ≡ length c.args.heads.now = c.loop-count.auto.heads in
    moved first c.args.datagram.now c.loop-count.count (set c.loop-count.heads c.loop-count.count read.new.head) same count
    (walk_fails first (sole c.args.flags c.args.id_len c.args.versions.now) c.args.datagram.now c.loop-count.heads c.loop-count.start
    c.loop-count.count read.result read.new.head e.0 c.are_bytes.ensures c.loop-count-test.true c.loop-count.invariant.0 e.1 e.2)

pub returns-then-end-size-clause-one : goal.returns-then-end-size-clause-one
returns-then-end-size-clause-one c = λ fits few.
    let read = c.quic_wire_header_read_-read in
    let first = PacketAnswerBy c.args.flags c.args.id_len c.args.versions.now in
    let rest = drop c.loop-count.start c.args.datagram.now in
    let r =
    called c.args.flags c.args.id_len c.args.versions.now c.args.datagram.now c.loop-count.start read.result read.new.head
    fits few read.ensures.packet in
    let count : to_z w64 (of_z w64 read.result) ≡ read.result = search rules in
    let above : pos 0 ≤ℤ read.result = grind (arith, ints) in
    let p = by_packet first rest read.result read.new.head r.one.it r.one.is r.returned above in
    let end : nat_abs (to_z w64 (of_z w64 read.result)) ≡ p.0.2 = ap nat_abs (count ∙ p.2.0) in
    let within : p.0.2 ≤ length rest = p.1.cut.4 in
    let all : p.0.2 ≡ length rest =
    omega (arith, end, within, c.if-end-size.true, length-drop c.loop-count.start c.args.datagram.now) in
    let same : length c.loop-count.heads ≡ length c.args.heads.now = c.loop-count.auto.heads in
    moved first c.args.datagram.now (c.loop-count.count + 1) (set c.loop-count.heads c.loop-count.count read.new.head) {b = pos 0} same refl
    (walk_ends first (sole c.args.flags c.args.id_len c.args.versions.now) c.args.datagram.now c.loop-count.heads c.loop-count.start
    c.loop-count.count read.result read.new.head p.0 (pos 0) c.are_bytes.ensures c.loop-count-test.true c.loop-count.invariant.0
    p.1 p.2 all refl)

pub loop-count-preserved : goal.loop-count-preserved
loop-count-preserved c =
    let read = c.quic_wire_header_read_-read in
    let first = PacketAnswerBy c.args.flags c.args.id_len c.args.versions.now in
    let rest = drop c.loop-count.start c.args.datagram.now in
    let fits : length c.args.datagram.now < 4294967296 = omega arith in
    let few : c.args.id_len ≤ 20 = omega arith in
    let r =
    called c.args.flags c.args.id_len c.args.versions.now c.args.datagram.now c.loop-count.start read.result read.new.head
    fits few read.ensures.packet in
    let count : to_z w64 (of_z w64 read.result) ≡ read.result = search rules in
    let above : pos 0 ≤ℤ read.result = grind (arith, ints) in
    let p = by_packet first rest read.result read.new.head r.one.it r.one.is r.returned above in
    let end : nat_abs (to_z w64 (of_z w64 read.result)) ≡ p.0.2 = ap nat_abs (count ∙ p.2.0) in
    let less : p.0.2 < length rest =
    omega (arith, end, c.if-end-size.false, length-drop c.loop-count.start c.args.datagram.now) in
    let within : c.loop-count.start + p.0.2 ≤ length c.args.datagram.now = omega (arith, end, c.if-end-size.false) in (
      moved_on first c.args.datagram.now (set c.loop-count.heads c.loop-count.count read.new.head) c.loop-count.start
          (c.loop-count.count + 1) end
          (walk_goes_on first c.args.datagram.now c.loop-count.heads c.loop-count.start c.loop-count.count read.result read.new.head
          p.0 c.loop-count-test.true c.loop-count.invariant.0 p.1 p.2 less within),
      kept_behind c.loop-count.heads c.args.heads.now c.loop-count.count read.new.head c.loop-count.invariant.1,
    )

pub returns-clause-one : goal.returns-clause-one
returns-clause-one c = λ fits few.
    let first = PacketAnswerBy c.args.flags c.args.id_len c.args.versions.now in
    let count : to_z w64 (of_z w64 c.from-2.result) ≡ c.from-2.result = search rules in
    let inner : to_z w32 (of_z w32 c.number-2.result) ≡ c.number-2.result = search rules in
    let same : length c.loop-count.heads ≡ length c.args.heads.now = c.loop-count.auto.heads in
    moved first c.args.datagram.now c.loop-count.count c.loop-count.heads same
    (count ∙ c.from-2.ensures ∙ inner ∙ c.number-2.ensures)
    (walk_full first (sole c.args.flags c.args.id_len c.args.versions.now) c.args.datagram.now c.loop-count.heads c.loop-count.start
    c.loop-count.count (failed failure.NoRoom) c.are_bytes.ensures c.loop-count.invariant.0 c.loop-count-test.false refl)

-- ---- what isn't stored

pub returns-then-read-lt0-clause-kept : goal.returns-then-read-lt0-clause-kept
returns-then-read-lt0-clause-kept c =
    kept_behind c.loop-count.heads c.args.heads.now c.loop-count.count c.quic_wire_header_read_-read.new.head
    c.loop-count.invariant.1

pub returns-then-end-size-clause-kept : goal.returns-then-end-size-clause-kept
returns-then-end-size-clause-kept c =
    let head = c.quic_wire_header_read_-read.new.head in
    drop_more_same (set c.loop-count.heads c.loop-count.count head) c.args.heads.now (c.loop-count.count + 1)
    (kept_behind c.loop-count.heads c.args.heads.now c.loop-count.count head c.loop-count.invariant.1)

pub returns-clause-kept : goal.returns-clause-kept
returns-clause-kept c = drop_more_same c.loop-count.heads c.args.heads.now c.loop-count.count c.loop-count.invariant.1
