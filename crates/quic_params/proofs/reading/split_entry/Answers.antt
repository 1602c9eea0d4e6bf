use Rattle.std.proofs.Common.{List, ℕ, take, sym, subst}
use Rattle.std.proofs.lemmas.List.{take_rest}
use Rattle.quic_base.specs.Codec.{Takes}
use Rattle.quic_params.specs.Entry.{IsEntry}
use Rattle.quic_params.proofs.Entries.{entry_taken}
use Rattle.quic_params.proofs.reading.split_entry.Goals as goal

pub returns : goal.returns
returns c =
    let mid : List ℕ = c.read_header.new.r.now in
    let len : ℕ = c.in-Ok.len in
    subst (λ (r : List ℕ). Takes (IsEntry c.in-Ok.number (take len mid)) c.args.list.now r) (sym (take_rest mid len))
    (entry_taken c.args.list.now mid c.in-Ok.number len c.in-Ok.ensures.ok c.in-Ok.ensures.enough)
