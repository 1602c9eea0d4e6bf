use Rattle.quic_errors.proofs.transport_error.CodeCodec.encode.Goals as goal

pub returns-clause-encoded : goal.returns-clause-encoded
returns-clause-encoded g c = rw (c.from_u64_unchecked.ensures, c.self.view_is) at c.encode.ensures.encoded

pub returns-clause-ok : goal.returns-clause-ok
returns-clause-ok g c = rw (c.from_u64_unchecked.ensures, c.self.view_is) at c.encode.ensures.ok

pub returns-clause-err : goal.returns-clause-err
returns-clause-err g c = rw (c.from_u64_unchecked.ensures, c.self.view_is) at c.encode.ensures.err

pub returns-clause-full : goal.returns-clause-full
returns-clause-full g c = rw (c.from_u64_unchecked.ensures, c.self.view_is) at c.encode.ensures.full
