use Rattle.std.proofs.Common.{◌≡◌, ◌*◌, ◌≤◌, length, take}
use Rattle.quic_frame_fields.specs.Numbers.{shortest_varints}
use Rattle.quic_frame_fields.specs.Putting.{Stores}
use Rattle.quic_c_write.proofs.data_headers.put_in_place.Given as goal

abbrev pub invariant-loop-number : goal.invariant-loop-number
invariant-loop-number l = record {
  near : l.at ≤ 8 * l.number-index;
  len : length l.dest ≡ length l.fn.dest;
  stores : Stores (shortest_varints (take l.number-index l.numbers)) 0 l.fn.dest l.at l.dest;
}
