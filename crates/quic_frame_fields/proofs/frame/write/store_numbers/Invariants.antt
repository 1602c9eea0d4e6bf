use Rattle.std.proofs.Common.{◌≡◌, ◌*◌, ◌≤◌, length, take}
use Rattle.quic_frame_fields.specs.Numbers.{shortest_varints}
use Rattle.quic_frame_fields.proofs.frame.write.store_numbers.Given as goal

abbrev pub invariant-loop-number : goal.invariant-loop-number
invariant-loop-number l =
    record {
      near : l.at ≤ 8 * l.number-index;
      len : length l.dest ≡ length l.fn.dest;
      front : take l.at l.dest ≡ shortest_varints (take l.number-index l.numbers);
    }
