use Rattle.std.proofs.Common.{◌≡◌, ◌+◌, ◌∙◌, refl, arith}
use Rattle.std.specs.List.{copy_within}
use Rattle.quic_c_entries.proofs.Making.{made, moved_none, moved_same}
use Rattle.quic_c_entries.proofs.change.make.Goals as goal
use Rattle.quic_c_entries.proofs.change.make.Goals.{then-change-len+then-behind-change, else-change-len, else-change-len-via-then-change-len+else-behind-change, else-change-len-via-else-change-len}

pub returns-clause-made : goal.returns-clause-made
returns-clause-made c _ =
    let old = c.args.runs.now in
    let at = c.args.change.from + c.len.result in
    let moved : c.if-change-len.runs ≡ copy_within old c.args.change.to c.args.count.now at = elim c.if-change-len.branch [
      | then-change-len+then-behind-change w ↦ w.runs-is ∙ w.copy_within.ensures.after
      | else-change-len w ↦ w.runs-is ∙ elim w.else-change-len.branch [
        | else-change-len-via-then-change-len+else-behind-change v ↦ moved_same old at c.args.change.to c.args.count.now
            (omega (arith, v.if-behind-change.false)) (omega (arith, v.if-change-len.true)) c.requires.within
        | else-change-len-via-else-change-len v ↦ moved_none old at c.args.change.to c.args.count.now v.if-change-len.false
      ]
    ] in
    made old c.if-change-len.runs c.write.new.runs c.args.count.now _ c.len.result c.args.change c.requires.within
    c.requires.fits c.len.ensures.count refl (omega arith) moved c.write.ensures
