-- By the laws of least payloads and of least encodings.
use Rattle.std.proofs.Common.{◌∙◌, ◌≡◌, List, ℕ, map, false, subst}
use Rattle.quic_canon.specs.Least.{IsLeast}
use Rattle.quic_canon.proofs.WrittenFrames.{as_short, payload_some}
use Rattle.quic_frames.specs.Least.{all_written, frame_in, shortest_frames}
use Rattle.quic_canon.proofs.laws.written_is_least.Goals as goal

pub returns : goal.returns
returns c = λ frames payload some is.
    let written : List ℕ = shortest_frames (map frame_in is.found) in
    let least =
    c.one_least.ensures.exists is.found payload (payload_some false is.found frames payload is.encoded is.means some) is.encoded in
    let below = c.least_encoding.ensures.all_least is.found payload is.encoded in
    let above = is.least (all_written (map frame_in is.found)) written
    (c.least_encoding.ensures.all_encoded false is.found payload is.encoded)
    (c.least_encoding.ensures.same (map frame_in is.found) ∙ is.means) in
    let same : written ≡ payload = as_short payload written below above in
    let P : List ℕ → Type 0 = λ bytes. IsLeast bytes payload in
    subst P same least
