use Rattle.std.proofs.Common.{◌<◌, ◌+◌, ◌∙◌, ap, sym, arith, length}
use Rattle.quic_params.specs.Table.{parameter_count}
use Rattle.quic_params.specs.Writing.{shortest_entry, written_for}
use Rattle.quic_params.proofs.Further.{in_order_once, encoded_at, encoded_row}
use Rattle.quic_c_params.proofs.StoredEntries.{stores_as, further_encoded, other_there, value_short}
use Rattle.quic_c_params.proofs.lists.store_entry_at.Goals as goal

pub returns-then-index-lt-ROWS-clause-stores : goal.returns-then-index-lt-ROWS-clause-stores
returns-then-index-lt-ROWS-clause-stores c = λ es h.
    let p = c.args.params.now in
    stores_as c.store_row.result (written_for p c.row_at.result) (encoded_at p es c.args.index) c.args.dest.now c.store_row.new.dest
    (encoded_row p es c.args.index c.if-index-lt-ROWS.true ∙ ap (written_for p) (sym c.row_at.ensures)) c.store_row.ensures.stores

pub returns-then-index-lt-ROWS-clause-few : goal.returns-then-index-lt-ROWS-clause-few
returns-then-index-lt-ROWS-clause-few c = λ es h.
    let p = c.args.params.now in
    omega (
      arith,
      ap length (encoded_row p es c.args.index c.if-index-lt-ROWS.true
          ∙ ap (written_for p) (sym c.row_at.ensures)),
      c.store_row.ensures.few,
    )

pub store_entry-requires-clause-number : goal.store_entry-requires-clause-number
store_entry-requires-clause-number c =
    let r = c.requires.there in
    omega (arith, (c.nth-number.ensures r.0 r.1.encoded).0, (other_there r.0 c.args.index r.1.others c.if-index-lt-ROWS.false r.2).numeric)

pub store_entry-requires-clause-len : goal.store_entry-requires-clause-len
store_entry-requires-clause-len c =
    let r = c.requires.there in
    omega (
      arith,
      ap length (c.nth-number.ensures r.0 r.1.encoded).1,
      (other_there r.0 c.args.index r.1.others c.if-index-lt-ROWS.false r.2).short,
    )

pub returns-clause-stores : goal.returns-clause-stores
returns-clause-stores c = λ es h.
    let p = c.args.params.now in
    let r = c.requires.there in
    let same = in_order_once r.0 es c.args.further.now r.1.encoded h in
    let lt : c.args.index < parameter_count + length es = omega (arith, ap length same, r.2) in
    let n = c.nth-number.ensures es h in
    stores_as c.store_entry.result (shortest_entry c.nth-number.result.0 c.nth-number.result.1.now)
    (encoded_at p es c.args.index) c.args.dest.now c.store_entry.new.dest
    (further_encoded p es c.args.index c.nth-number.result.0 c.nth-number.result.1.now c.if-index-lt-ROWS.false lt n.0
    n.1) c.store_entry.ensures.stores

pub returns-clause-few : goal.returns-clause-few
returns-clause-few c = λ es h.
    let p = c.args.params.now in
    let r = c.requires.there in
    let same = in_order_once r.0 es c.args.further.now r.1.encoded h in
    let lt : c.args.index < parameter_count + length es = omega (arith, ap length same, r.2) in
    let n = c.nth-number.ensures es h in
    let own =
    further_encoded p es c.args.index c.nth-number.result.0 c.nth-number.result.1.now c.if-index-lt-ROWS.false lt n.0 n.1 in
    omega (
      arith,
      ap length own,
      c.store_entry.ensures.few,
      value_short es c.args.further.now c.nth-number.result.1.now
          c.args.index h c.if-index-lt-ROWS.false lt n.1,
    )
