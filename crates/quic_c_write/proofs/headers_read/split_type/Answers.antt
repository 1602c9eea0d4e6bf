use Rattle.std.proofs.Common.{◌≡◌, ◌-◌, Bool, true, length, arith}
use Rattle.std.proofs.lemmas.Bool.Decides.{nat_tests}
use Rattle.quic_base.specs.Varint.{size}
use Rattle.quic_c_write.proofs.HeaderSteps.{begins_with_type, long_type}
use Rattle.quic_c_write.proofs.headers_read.split_type.Goals as goal
use Rattle.quic_c_write.proofs.headers_read.split_type.Goals.{else-rules-via-then-rules+else-bytes-rest, else-rules-via-else-rules}

pub returns-then-bytes-rest : goal.returns-then-bytes-rest
returns-then-bytes-rest c =
    let bytes = c.args.bytes.now in
    let rest = c.in-Ok.rest.now in
    let wide : length bytes - length rest ≡ size c.in-Ok.ty → ⊥ = λ e. grind (arith, nat_tests) in
    let short : ◌≡◌ {A = Bool} c.args.rules.short_types true = grind (arith, nat_tests) in
    (c.in-Ok.ty, long_type c.in-Ok.ty bytes rest c.args.rules.short_types c.in-Ok.ensures.read short wide)

pub returns : goal.returns
returns c =
    let bytes = c.args.bytes.now in
    let rest = c.in-Ok.rest.now in
    let fits : c.args.rules.short_types ≡ true → length bytes - length rest ≡ size c.in-Ok.ty =
    λ short. elim c.else-rules.branch [
      | else-rules-via-then-rules+else-bytes-rest w ↦ grind (arith, nat_tests)
      | else-rules-via-else-rules w ↦ grind (arith, nat_tests)
    ] in
    begins_with_type c.in-Ok.ty bytes rest c.args.rules.short_types c.in-Ok.ensures.read fits
