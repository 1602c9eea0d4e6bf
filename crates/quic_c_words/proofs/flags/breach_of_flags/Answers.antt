use Rattle.std.proofs.Common.{sym}
use Rattle.quic_frames.specs.Meaning.{meaning_of}
use Rattle.quic_c_words.proofs.Unset.{none_broken}
use Rattle.quic_c_words.proofs.flags.breach_of_flags.Goals as goal

pub returns-then-flags-eq0 : goal.returns-then-flags-eq0
returns-then-flags-eq0 c = sym (none_broken c.args.flags (meaning_of c.args.frame.now) c.if-flags-eq0.true)
