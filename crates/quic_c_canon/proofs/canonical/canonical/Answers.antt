-- The shortest form is written.
use Rattle.std.proofs.Common.{refl, inl, rules}
use Rattle.quic_c_canon.proofs.canonical.canonical.Goals as goal

pub returns : goal.returns
returns c = inl (refl, search rules)
