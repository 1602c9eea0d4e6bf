-- The header that was appended stays, and the bytes after it are removed.
use Rattle.std.proofs.Common.{ℕ, List, ◌≡◌, ◌≤◌, ◌+◌, length, rules, ◌∙◌}
use Rattle.quic_header_encode.proofs.Stores.{stored_behind}
use Rattle.quic_header_encode.proofs.encode.put.Goals as goal

pub returns-clause-items : goal.returns-clause-items
returns-clause-items g c = λ _.
    let old : List ℕ = c.args.out.now.items in
    let start : c.len-begin.result ≡ length old = search rules in
    let stood = c.as_mut_slice.ensures.value ∙ c.in-Ok.ensures.items in
    let within : c.store-len.result ≤ length c.store-len.new.out = search rules in
    let fits : c.len-begin.result + c.store-len.result ≤ c.extend_from_slice.new.self.len = search rules in
    c.truncate.ensures.items
    ∙ stored_behind c.len-begin.result c.store-len.result c.extend_from_slice.new.self.len old _
    c.as_mut_slice.result.now c.store-len.new.out _ _ _
    start stood within fits c.store-len.ensures.front
