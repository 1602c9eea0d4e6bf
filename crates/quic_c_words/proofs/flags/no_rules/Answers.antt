use Rattle.std.proofs.Common.{sym, ◌∙◌}
use Rattle.quic_c_words.proofs.Unset.{rules_unset}
use Rattle.quic_c_words.proofs.flags.no_rules.Goals as goal

pub returns : goal.returns
returns c = (c.default.ensures ∙ sym (rules_unset c.args.flags c.if-flags-ne0.false), c.default.ensures)
