use Rattle.std.proofs.Common.{◌≡◌, ◌++◌, length}
use Rattle.std.specs.String.{string_bytes}
use Rattle.hex.specs.Hex.{encode_lower}
use Rattle.quic_text.specs.Printed.{Plain, line_bytes}
use Rattle.quic_text.specs.Whole.{AppendsAllBut}
use Rattle.quic_text.proofs.print.canon.print_digits.Given as goal

-- what waits, with the digits of what is left, is all but what was passed on
abbrev pub invariant-loop-rest : goal.invariant-loop-rest
invariant-loop-rest g l = record {
  passed : AppendsAllBut (g.W.Sink.taken l.fn.sink) (g.W.Sink.taken l.sink)
      (string_bytes l.text ++ line_bytes (Plain (encode_lower l.rest)))
      (string_bytes l.fn.text ++ line_bytes (Plain (encode_lower l.bytes)));
  failed : g.W.Sink.has_failed l.sink ≡ g.W.Sink.has_failed l.fn.sink;
}

abbrev pub decreases-loop-rest : goal.decreases-loop-rest
decreases-loop-rest g l = length l.rest
