use Rattle.quic_param_fields.proofs.Reading.{token_taken}
use Rattle.quic_param_fields.proofs.field.read_token.Goals as goal

pub returns-clause-ok : goal.returns-clause-ok
returns-clause-ok c = token_taken c.args.bytes.now c.if-bytes-lt-RESET_TOKEN_SIZE.false
