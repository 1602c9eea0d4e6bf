-- The bytes that were appended for the header are as many as it has.
use Rattle.std.proofs.Common.{◌≤◌, ◌-◌, length, take, drop, arith, rules}
use Rattle.quic_header_encode.proofs.Sizes.{exact_room}
use Rattle.quic_header_encode.proofs.header.Header.put_with_room.Goals as goal

pub store-requires-clause-room : goal.store-requires-clause-room
store-requires-clause-room c =
    let fits : c.encoded_len-len.result ≤ length (take (length c.as_mut_slice.result.now - c.len-begin.result) (drop c.len-begin.result c.as_mut_slice.result.now)) =
    search rules in
    exact_room (λ i. i.0.now) _ _ (omega (arith, fits, c.encoded_len-len.ensures))
