-- All of the packet is written, and read back.
use Rattle.std.proofs.Common.{◌≡◌, ◌+◌, ◌*◌, ◌++◌, ◌∙◌, ℕ, List, length, take, drop, sym, ap, inr, arith}
use Rattle.quic_header_decode.proofs.Steps.{take_front}
use Rattle.quic_c_headers.specs.Reading.{negotiation_bytes}
use Rattle.quic_c_headers.proofs.Negotiated.{bytes_long, read_back}
use Rattle.quic_c_headers.proofs.negotiation.quic_wire_negotiation_write_.Goals as goal

pub returns-then-dest-needed-clause-count : goal.returns-then-dest-needed-clause-count
returns-then-dest-needed-clause-count c =
    inr (sym (bytes_long c.args.flags c.args.dst.now c.args.src.now c.args.versions.now))

pub returns-then-dest-needed-clause-room : goal.returns-then-dest-needed-clause-room
returns-then-dest-needed-clause-room c = λ _.
    let full = c.if-dest-needed.true in
    omega (arith, full, bytes_long c.args.flags c.args.dst.now c.args.src.now c.args.versions.now)

pub returns-clause-count : goal.returns-clause-count
returns-clause-count c = inr (sym (bytes_long c.args.flags c.args.dst.now c.args.src.now c.args.versions.now))

pub returns-clause-wrote : goal.returns-clause-wrote
returns-clause-wrote c = λ _.
    let bytes : List ℕ = negotiation_bytes c.args.flags c.args.dst.now c.args.src.now c.args.versions.now in
    c.store_packet.ensures.wrote ∙ ap (λ (k : ℕ). bytes ++ drop k c.args.dest.now) c.store_packet.ensures.end

pub returns-clause-again : goal.returns-clause-again
returns-clause-again c = λ _.
    let bytes : List ℕ = negotiation_bytes c.args.flags c.args.dst.now c.args.src.now c.args.versions.now in
    let count : ℕ = 7 + length c.args.dst.now + length c.args.src.now + 4 * length c.args.versions.now in
    let long : length bytes ≡ count = bytes_long c.args.flags c.args.dst.now c.args.src.now c.args.versions.now in
    read_back c.args.flags c.args.dst.now c.args.src.now c.args.versions.now _
    (ap (take count) c.store_packet.ensures.wrote ∙ take_front bytes _ count long)
