use Rattle.std.proofs.Common.{ℕ, List, sym, ap, subst}
use Rattle.quic_params.specs.Entry.{Entry}
use Rattle.quic_params.specs.Further.{AreInOrder, HasEntryNumber}
use Rattle.quic_params.proofs.Refusals.{broken_there}
use Rattle.quic_params.proofs.record.TransportParameters.refused_record.Goals as goal

pub last_entry-requires : goal.last_entry-requires
last_entry-requires c =
    subst (λ (n : ℕ). (es : List Entry) × AreInOrder es c.args.list.now × HasEntryNumber n es)
    (ap (λ r. r.number) (sym c.row-number.ensures))
    (broken_there c.args.options c.args.side c.args.self.now c.args.list.now c.in-Some.id c.requires.meant
    (sym c.in-Some.ensures))
