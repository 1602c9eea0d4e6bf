use Rattle.quic_base.proofs.coding.BufMutExt.write.Goals as goal

pub returns-clause-ok : goal.returns-clause-ok
returns-clause-ok g c = c.encode.ensures.ok

pub returns-clause-err : goal.returns-clause-err
returns-clause-err g c = c.encode.ensures.err

pub returns-clause-full : goal.returns-clause-full
returns-clause-full g c = c.encode.ensures.full
