use Rattle.std.proofs.Common.{length, drop, ◌-◌, arith}
use Rattle.std.proofs.lemmas.List.{length-drop}
use Rattle.quic_c_write.proofs.FirstFaults.{token_there}
use Rattle.quic_c_write.proofs.faults.has_token.Goals as goal

pub returns : goal.returns
returns c = λ kind.
    let words = c.args.words.now in
    token_there words c.args.payload.now (length c.args.payload.now - words.data_offset - words.data_len) kind
    (omega (
      arith,
      length-drop words.data_len (drop words.data_offset c.args.payload.now),
      length-drop words.data_offset c.args.payload.now,
    ))
