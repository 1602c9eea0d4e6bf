-- Each kind's frame is written.
use Rattle.std.proofs.Common.{◌≤◌, ◌<◌, ◌^◌, ◌∷◌, [], ◌++◌, refl, arith}
use Rattle.std.specs.Int.Bits.{bit_or}
use Rattle.quic_base.specs.declared.ids.Dir.TheVariants as dirs
use Rattle.quic_base.specs.Number.{bytes_of}
use Rattle.quic_base.specs.Varint.{shortest_varint}
use Rattle.quic_frame_fields.specs.Numbers.{shortest_varints}
use Rattle.quic_frame_fields.specs.Shortest.{shortest_frame}
use Rattle.quic_frames.specs.declared.frame.Frame.TheVariants as frames
use Rattle.quic_c_write.proofs.PlainFrames.{challenge, challenge_parts, data_blocked, handshake_done, max_data, max_stream_data, max_streams, or_below, padding, ping, reset_stream, response, response_parts, retire, stop_sending, stream_data_blocked, streams_blocked, writes, writes_bare, writes_both, writes_first, writes_second}
use Rattle.quic_c_write.proofs.write_numbers.put_kind.Goals as goal

pub returns-in-0-clause-wrote : goal.returns-in-0-clause-wrote
unfolding shortest_frame
returns-in-0-clause-wrote c =
    writes_bare c.args.kind c.args.a c.args.b c.args.c (shortest_varints (0x00 ∷ [])) _ _ _ frames.Padding
    (assumption c) padding c.in-0.is refl (λ _. refl) c.put_in_place.ensures

pub returns-in-1-clause-wrote : goal.returns-in-1-clause-wrote
unfolding shortest_frame
returns-in-1-clause-wrote c =
    writes_bare c.args.kind c.args.a c.args.b c.args.c (shortest_varints (0x01 ∷ [])) _ _ _ frames.Ping
    (assumption c) ping c.in-1.is refl (λ _. refl) c.put_in_place-in-1.ensures

pub returns-in-4-clause-wrote : goal.returns-in-4-clause-wrote
unfolding shortest_frame
returns-in-4-clause-wrote c =
    let lt : bit_or (bit_or c.args.a c.args.b) c.args.c < 2 ^ 62 = assumption c in
    let two = or_below (bit_or c.args.a c.args.b) c.args.c (2 ^ 62) lt in
    let one = or_below c.args.a c.args.b (2 ^ 62) two.0 in
    writes c.args.kind (c.args.a ∷ c.args.b ∷ c.args.c ∷ 0 ∷ 0 ∷ []) (shortest_varints (0x04 ∷ c.args.a ∷ c.args.b ∷ c.args.c ∷ [])) c.args.out.now c.put_in_place-in-4.new.dest c.put_in_place-in-4.result
    (frames.ResetStream (record { id = c.args.a; error_code = c.args.b; final_offset = c.args.c })) (reset_stream c.args.a c.args.b c.args.c (one.0, (one.1, (two.1, tt)))) c.in-4.is (refl)
    (λ _. refl) c.put_in_place-in-4.ensures

pub returns-in-5-clause-wrote : goal.returns-in-5-clause-wrote
unfolding shortest_frame
returns-in-5-clause-wrote c =
    let lt : bit_or c.args.a c.args.b < 2 ^ 62 = assumption c in
    let small = or_below c.args.a c.args.b (2 ^ 62) lt in
    writes_both c.args.kind c.args.a c.args.b c.args.c (shortest_varints (0x05 ∷ c.args.a ∷ c.args.b ∷ [])) _ _ _ (frames.StopSending (record { id = c.args.a; error_code = c.args.b }))
    (assumption c) (stop_sending c.args.a c.args.b (small.0, (small.1, tt))) c.in-5.is refl (λ _. refl) c.put_in_place-in-5.ensures

pub returns-in-16-clause-wrote : goal.returns-in-16-clause-wrote
unfolding shortest_frame
returns-in-16-clause-wrote c =
    let small : c.args.b < 2 ^ 62 = assumption c in
    writes_second c.args.kind c.args.a c.args.b c.args.c (shortest_varints (0x10 ∷ c.args.b ∷ [])) _ _ _ (frames.MaxData c.args.b)
    (assumption c) (max_data c.args.b small) c.in-16.is refl (λ _. refl) c.put_in_place-in-16.ensures

pub returns-in-17-clause-wrote : goal.returns-in-17-clause-wrote
unfolding shortest_frame
returns-in-17-clause-wrote c =
    let lt : bit_or c.args.a c.args.b < 2 ^ 62 = assumption c in
    let small = or_below c.args.a c.args.b (2 ^ 62) lt in
    writes_both c.args.kind c.args.a c.args.b c.args.c (shortest_varints (0x11 ∷ c.args.a ∷ c.args.b ∷ [])) _ _ _ (frames.MaxStreamData c.args.a c.args.b)
    (assumption c) (max_stream_data c.args.a c.args.b small.0 small.1) c.in-17.is refl (λ _. refl) c.put_in_place-in-17.ensures

pub returns-in-18-clause-wrote : goal.returns-in-18-clause-wrote
unfolding shortest_frame
returns-in-18-clause-wrote c =
    let few : c.args.b ≤ 2 ^ 60 = assumption c in
    writes_second c.args.kind c.args.a c.args.b c.args.c (shortest_varints (0x12 ∷ c.args.b ∷ [])) _ _ _ (frames.MaxStreams dirs.Bi c.args.b)
    (assumption c) (max_streams dirs.Bi c.args.b few) c.in-18.is refl (λ _. refl) c.put_in_place-in-18.ensures

pub returns-in-19-clause-wrote : goal.returns-in-19-clause-wrote
unfolding shortest_frame
returns-in-19-clause-wrote c =
    let few : c.args.b ≤ 2 ^ 60 = assumption c in
    writes_second c.args.kind c.args.a c.args.b c.args.c (shortest_varints (0x13 ∷ c.args.b ∷ [])) _ _ _ (frames.MaxStreams dirs.Uni c.args.b)
    (assumption c) (max_streams dirs.Uni c.args.b few) c.in-19.is refl (λ _. refl) c.put_in_place-in-19.ensures

pub returns-in-20-clause-wrote : goal.returns-in-20-clause-wrote
unfolding shortest_frame
returns-in-20-clause-wrote c =
    let small : c.args.b < 2 ^ 62 = assumption c in
    writes_second c.args.kind c.args.a c.args.b c.args.c (shortest_varints (0x14 ∷ c.args.b ∷ [])) _ _ _ (frames.DataBlocked c.args.b)
    (assumption c) (data_blocked c.args.b small) c.in-20.is refl (λ _. refl) c.put_in_place-in-20.ensures

pub returns-in-21-clause-wrote : goal.returns-in-21-clause-wrote
unfolding shortest_frame
returns-in-21-clause-wrote c =
    let lt : bit_or c.args.a c.args.b < 2 ^ 62 = assumption c in
    let small = or_below c.args.a c.args.b (2 ^ 62) lt in
    writes_both c.args.kind c.args.a c.args.b c.args.c (shortest_varints (0x15 ∷ c.args.a ∷ c.args.b ∷ [])) _ _ _ (frames.StreamDataBlocked c.args.a c.args.b)
    (assumption c) (stream_data_blocked c.args.a c.args.b small.0 small.1) c.in-21.is refl (λ _. refl) c.put_in_place-in-21.ensures

pub returns-in-22-clause-wrote : goal.returns-in-22-clause-wrote
unfolding shortest_frame
returns-in-22-clause-wrote c =
    let few : c.args.b ≤ 2 ^ 60 = assumption c in
    writes_second c.args.kind c.args.a c.args.b c.args.c (shortest_varints (0x16 ∷ c.args.b ∷ [])) _ _ _ (frames.StreamsBlocked dirs.Bi c.args.b)
    (assumption c) (streams_blocked dirs.Bi c.args.b few) c.in-22.is refl (λ _. refl) c.put_in_place-in-22.ensures

pub returns-in-23-clause-wrote : goal.returns-in-23-clause-wrote
unfolding shortest_frame
returns-in-23-clause-wrote c =
    let few : c.args.b ≤ 2 ^ 60 = assumption c in
    writes_second c.args.kind c.args.a c.args.b c.args.c (shortest_varints (0x17 ∷ c.args.b ∷ [])) _ _ _ (frames.StreamsBlocked dirs.Uni c.args.b)
    (assumption c) (streams_blocked dirs.Uni c.args.b few) c.in-23.is refl (λ _. refl) c.put_in_place-in-23.ensures

pub returns-in-25-clause-wrote : goal.returns-in-25-clause-wrote
unfolding shortest_frame
returns-in-25-clause-wrote c =
    let small : c.args.a < 2 ^ 62 = assumption c in
    writes_first c.args.kind c.args.a c.args.b c.args.c (shortest_varints (0x19 ∷ c.args.a ∷ [])) _ _ _ (frames.RetireConnectionId c.args.a)
    (assumption c) (retire c.args.a small) c.in-25.is refl (λ _. refl) c.put_in_place-in-25.ensures

pub returns-in-26-clause-wrote : goal.returns-in-26-clause-wrote
returns-in-26-clause-wrote c =
    let small : c.args.a < 2 ^ 64 = omega (arith, c.ranges.a.fits) in
    writes_first c.args.kind c.args.a c.args.b c.args.c (shortest_varint 0x1a ++ bytes_of 8 c.args.a) _ _ _ (frames.PathChallenge c.args.a)
    (assumption c) (challenge c.args.a small) c.in-26.is refl (λ last. challenge_parts last c.args.a) c.put_path.ensures

pub returns-in-27-clause-wrote : goal.returns-in-27-clause-wrote
returns-in-27-clause-wrote c =
    let small : c.args.a < 2 ^ 64 = omega (arith, c.ranges.a.fits) in
    writes_first c.args.kind c.args.a c.args.b c.args.c (shortest_varint 0x1b ++ bytes_of 8 c.args.a) _ _ _ (frames.PathResponse c.args.a)
    (assumption c) (response c.args.a small) c.in-27.is refl (λ last. response_parts last c.args.a) c.put_path-in-27.ensures

pub returns-in-30-clause-wrote : goal.returns-in-30-clause-wrote
unfolding shortest_frame
returns-in-30-clause-wrote c =
    writes_bare c.args.kind c.args.a c.args.b c.args.c (shortest_varints (0x1e ∷ [])) _ _ _ frames.HandshakeDone
    (assumption c) handshake_done c.in-30.is refl (λ _. refl) c.put_in_place-in-30.ensures

pub put_in_place-requires-in-4-clause-numeric : goal.put_in_place-requires-in-4-clause-numeric
put_in_place-requires-in-4-clause-numeric c =
    let lt : bit_or (bit_or c.args.a c.args.b) c.args.c < 2 ^ 62 = assumption c in
    let two = or_below (bit_or c.args.a c.args.b) c.args.c (2 ^ 62) lt in
    let one = or_below c.args.a c.args.b (2 ^ 62) two.0 in
    (omega arith, (one.0, (one.1, (two.1, tt))))

pub put_in_place-requires-in-5-clause-numeric : goal.put_in_place-requires-in-5-clause-numeric
put_in_place-requires-in-5-clause-numeric c =
    let lt : bit_or c.args.a c.args.b < 2 ^ 62 = assumption c in
    let small = or_below c.args.a c.args.b (2 ^ 62) lt in
    (omega arith, (small.0, (small.1, tt)))

pub put_in_place-requires-in-17-clause-numeric : goal.put_in_place-requires-in-17-clause-numeric
put_in_place-requires-in-17-clause-numeric c =
    let lt : bit_or c.args.a c.args.b < 2 ^ 62 = assumption c in
    let small = or_below c.args.a c.args.b (2 ^ 62) lt in
    (omega arith, (small.0, (small.1, tt)))

pub put_in_place-requires-in-21-clause-numeric : goal.put_in_place-requires-in-21-clause-numeric
put_in_place-requires-in-21-clause-numeric c =
    let lt : bit_or c.args.a c.args.b < 2 ^ 62 = assumption c in
    let small = or_below c.args.a c.args.b (2 ^ 62) lt in
    (omega arith, (small.0, (small.1, tt)))
