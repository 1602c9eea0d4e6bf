use Rattle.std.proofs.Common.{refl}
use Rattle.quic_params.proofs.Addresses.{cut_ip4, cut_port4, cut_ip6, cut_port6, cut_id, cut_token, fields_read}
use Rattle.quic_params.proofs.value_decode.fields_of.Goals as goal

pub returns-in_default-clause-none : goal.returns-in_default-clause-none
returns-in_default-clause-none c = λ e. cut_ip4 _ c.in_default.ensures.cut

pub returns-in_default-decode-clause-none : goal.returns-in_default-decode-clause-none
returns-in_default-decode-clause-none c =
    λ e. cut_port4 _ _ c.in-Ok.ip4 c.in-Ok.ensures.ok c.in_default-decode.ensures.cut

pub returns-in_default-decode-2-clause-none : goal.returns-in_default-decode-2-clause-none
returns-in_default-decode-2-clause-none c = λ e.
    cut_ip6 _ _ _ c.in-Ok.ip4 c.in-Ok-decode.port4 c.in-Ok.ensures.ok c.in-Ok-decode.ensures.ok c.in_default-decode-2.ensures.cut

pub returns-in_default-decode-3-clause-none : goal.returns-in_default-decode-3-clause-none
returns-in_default-decode-3-clause-none c = λ e.
    cut_port6 _ _ _ _ c.in-Ok.ip4 c.in-Ok-decode.port4 c.in-Ok-decode-2.ip6 c.in-Ok.ensures.ok c.in-Ok-decode.ensures.ok
    c.in-Ok-decode-2.ensures.ok c.in_default-decode-3.ensures.cut

pub returns-in_default-decode_long-clause-none : goal.returns-in_default-decode_long-clause-none
returns-in_default-decode_long-clause-none c = λ e.
    cut_id _ _ _ _ _ c.in-Ok.ip4 c.in-Ok-decode.port4 c.in-Ok-decode-2.ip6 c.in-Ok-decode-3.port6
    c.in-Ok.ensures.ok c.in-Ok-decode.ensures.ok c.in-Ok-decode-2.ensures.ok c.in-Ok-decode-3.ensures.ok
    c.in_default-decode_long.ensures.some

pub returns-in_default-take_token-clause-none : goal.returns-in_default-take_token-clause-none
returns-in_default-take_token-clause-none c = λ e.
    cut_token _ _ _ _ _ _ c.in-Some.connection_id c.in-Ok.ip4 c.in-Ok-decode.port4 c.in-Ok-decode-2.ip6 c.in-Ok-decode-3.port6
    c.in-Ok.ensures.ok c.in-Ok-decode.ensures.ok c.in-Ok-decode-2.ensures.ok c.in-Ok-decode-3.ensures.ok
    c.in-Some.ensures.some (c.in_default-take_token.ensures.none refl)

pub returns-clause-some : goal.returns-clause-some
returns-clause-some c =
    fields_read _ _ _ _ _ _ _ _ c.in-Ok.ip4 c.in-Ok-decode.port4 c.in-Ok-decode-2.ip6 c.in-Ok-decode-3.port6
    c.in-Ok.ensures.ok c.in-Ok-decode.ensures.ok c.in-Ok-decode-2.ensures.ok c.in-Ok-decode-3.ensures.ok
    c.in-Some.ensures.some c.in-Some-take_token.ensures.some.0
    c.v4_of.ensures c.v6_of.ensures c.in-Some-take_token.ensures.some.1
