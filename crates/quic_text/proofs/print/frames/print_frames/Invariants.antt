use Rattle.std.proofs.Common.{◌≡◌, ◌++◌, map, length}
use Rattle.std.specs.String.{string_bytes}
use Rattle.std.specs.List.{flat_map, list_all}
use Rattle.quic_frames.specs.Walk.{left}
use Rattle.quic_text.specs.Printed.{line_bytes, is_plain}
use Rattle.quic_text.specs.FrameText.{item_line, frame_lines}
use Rattle.quic_text.specs.Whole.{AppendsAllBut}
use Rattle.quic_text.proofs.print.frames.print_frames.Given as goal

-- what waits, with the lines of what is left, is all but what was passed on
abbrev pub invariant-loop-item : goal.invariant-loop-item
invariant-loop-item g l = record {
  passed : AppendsAllBut (g.W.Sink.taken l.fn.sink) (g.W.Sink.taken l.sink)
      (string_bytes l.text ++ flat_map line_bytes (map item_line (left l.frames)))
      (string_bytes l.fn.text ++ flat_map line_bytes (frame_lines l.strict l.payload));
  clean : list_all is_plain (map item_line (left l.frames)) ≡ list_all is_plain (frame_lines l.strict l.payload);
  start : l.start ≡ l.frames.offset;
  failed : g.W.Sink.has_failed l.sink ≡ g.W.Sink.has_failed l.fn.sink;
}

abbrev pub decreases-loop-item : goal.decreases-loop-item
decreases-loop-item g l = length (left l.frames)
