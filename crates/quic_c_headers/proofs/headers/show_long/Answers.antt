-- What was read is reported.
use Rattle.std.proofs.Common.{◌≡◌, ◌∙◌, rules, to_z, of_z, w64}
use Rattle.quic_c_headers.proofs.headers.show_long.Goals as goal

pub returns-in-0-clause-reported : goal.returns-in-0-clause-reported
returns-in-0-clause-reported c = λ id_len.
    let r = c.show_initial.ensures.reported id_len in
    let count : to_z w64 (of_z w64 c.show_initial.result) ≡ c.show_initial.result = search rules in
    (r.0, count ∙ r.1, r.2)

pub returns-in-3-clause-reported : goal.returns-in-3-clause-reported
returns-in-3-clause-reported c = λ id_len.
    let r = c.show_rare.ensures.reported id_len in
    let count : to_z w64 (of_z w64 c.show_rare.result) ≡ c.show_rare.result = search rules in
    (r.0, count ∙ r.1, r.2)

pub returns-in_default-clause-reported : goal.returns-in_default-clause-reported
returns-in_default-clause-reported c = λ id_len.
    let r = c.show_numbered.ensures.reported id_len in
    let count : to_z w64 (of_z w64 c.show_numbered.result) ≡ c.show_numbered.result = search rules in
    (r.0, count ∙ r.1, r.2)
