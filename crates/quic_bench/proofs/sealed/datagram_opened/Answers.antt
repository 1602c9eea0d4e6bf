-- By what is said of a row of packets, which is one.
use Rattle.std.proofs.Common.{◌≡◌, ℕ, List, [], ◌++◌, ap, ◌∙◌, rules}
use Rattle.quic_bench.proofs.RowOfOne.{opened_one, one_refused}
use Rattle.quic_bench.proofs.sealed.datagram_opened.Goals as goal

pub returns-in-Ok-open_datagram-clause-opened : goal.returns-in-Ok-open_datagram-clause-opened
returns-in-Ok-open_datagram-clause-opened g c =
    let s = c.in-Ok.ensures.sealed in
    let start : c.new-sealed.result.items ≡ [] = search rules in
    opened_one c.in-Ok-open_datagram.ensures c.args.packet.now s.0 s.1 c.requires.found
    (c.from_vec-datagram.ensures ∙ s.2 ∙ ap (λ (x : List ℕ). x ++ s.0) start)

pub returns-in-Err-open_datagram-clause-refused : goal.returns-in-Err-open_datagram-clause-refused
returns-in-Err-open_datagram-clause-refused g c =
    let s = c.in-Ok.ensures.sealed in
    let start : c.new-sealed.result.items ≡ [] = search rules in
    one_refused c.in-Err-open_datagram.ensures c.args.packet.now s.0 s.1 c.requires.found
    (c.from_vec-datagram.ensures ∙ s.2 ∙ ap (λ (x : List ℕ). x ++ s.0) start)
