use Rattle.std.proofs.Common.{◌≡◌, ◌∙◌, refl, subst, inr, to_z, of_z, w64, rules}
use Rattle.quic_results.specs.Results.{failed}
use Rattle.quic_c_write.specs.Headers.{RefusesHeader}
use Rattle.quic_c_write.proofs.headers_read.quic_wire_frame_header_read_.Goals as goal

pub returns-in-Err : goal.returns-in-Err
returns-in-Err c =
    let count : to_z w64 (of_z w64 c.from.result) ≡ c.from.result = search rules in
    let reason : c.from.result ≡ failed c.in-Err.failure = search rules in
    record {
      answers = inr (
        c.in-Err.failure,
        count ∙ reason,
        subst (λ r. RefusesHeader r c.args.bytes.now c.in-Err.failure) c.of_flags.ensures c.in-Err.ensures,
        refl,
      );
    }
