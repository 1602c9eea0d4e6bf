use Rattle.std.specs.Prelude.{map}
use Rattle.quic_frames.specs.Least.{frame_in, shortest_frames}
use Rattle.quic_wire.proofs.Shortest.{means_frames}
use Rattle.quic_wire.proofs.laws.one_shortest.Goals as goal

pub returns-clause-one : goal.returns-clause-one
returns-clause-one c = λ frames payload some encoded.
    let least = c.one_least.ensures.exists frames payload some encoded in
    record {
      it = shortest_frames (map frame_in frames);
      is = least;
      only = λ other is. c.one_least.ensures.unique other (shortest_frames (map frame_in frames)) payload is least;
    }

pub returns-clause-none : goal.returns-clause-none
returns-clause-none c = λ least payload is. means_frames least payload is
