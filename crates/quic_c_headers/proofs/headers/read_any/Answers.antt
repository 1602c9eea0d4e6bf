-- What was read of a long header is reported.
use Rattle.std.proofs.Common.{◌≡◌, ◌∙◌, rules, to_z, of_z, w64}
use Rattle.quic_c_headers.proofs.headers.read_any.Goals as goal

pub returns-then-first-ge128-clause-reported : goal.returns-then-first-ge128-clause-reported
returns-then-first-ge128-clause-reported c =
    let long = c.show_long.ensures.reported c.args.id_len in
    let count : to_z w64 (of_z w64 c.show_long.result) ≡ c.show_long.result = search rules in
    (long.0, count ∙ long.1, long.2)
