-- What was read is reported.
use Rattle.std.proofs.Common.{◌≡◌, ◌∙◌, rules, to_z, of_z, w64}
use Rattle.quic_c_headers.proofs.headers.show_rare.Goals as goal

pub returns-clause-reported : goal.returns-clause-reported
returns-clause-reported c = λ id_len.
    let r = c.show_any.ensures.reported id_len in
    let count : to_z w64 (of_z w64 c.show_any.result) ≡ c.show_any.result = search rules in
    (r.0, count ∙ r.1, r.2)
