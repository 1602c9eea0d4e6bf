-- What waits, with the lines of what is left, is all but what was passed on.
use Rattle.std.proofs.Common.{◌≡◌, ◌+◌, ◌++◌, length}
use Rattle.std.specs.String.{string_bytes}
use Rattle.std.specs.List.{flat_map}
use Rattle.quic_base.specs.Number.{AreBytes}
use Rattle.quic_text.specs.Printed.{line_bytes}
use Rattle.quic_text.specs.DatagramText.{with_ids_of, datagram_lines}
use Rattle.quic_text.specs.IdLens.{count}
use Rattle.quic_text.proofs.DatagramLines.{Waits, LeadsClean}
use Rattle.quic_text.proofs.print.datagram.print_datagram.Given as goal

abbrev pub invariant-loop-left : goal.invariant-loop-left
invariant-loop-left g l = record {
  passed : Waits l.parser.expected_len l.start l.left.items (g.W.Sink.taken l.fn.sink) (g.W.Sink.taken l.sink)
      (string_bytes l.text) (string_bytes l.fn.text ++ flat_map line_bytes
      (datagram_lines (count l.fn.id_len) l.datagram));
  clean : LeadsClean (with_ids_of l.parser.expected_len) l.start l.left.items (datagram_lines (count l.fn.id_len) l.datagram);
  within : l.start + length l.left.items ≡ length l.datagram;
  fits : AreBytes l.left.items;
  failed : g.W.Sink.has_failed l.sink ≡ g.W.Sink.has_failed l.fn.sink;
}

abbrev pub decreases-loop-left : goal.decreases-loop-left
decreases-loop-left g l = length l.left.items
