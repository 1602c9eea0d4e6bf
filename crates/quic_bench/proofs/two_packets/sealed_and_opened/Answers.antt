-- Each packet is given back, and the second one follows the first.
use Rattle.std.specs.Prelude.{◌<◌, false, [], ◌++◌, length}
use Rattle.std.proofs.Common.{◌∙◌, refl}
use Rattle.quic_header_encode.specs.Kinds.{space_in}
use Rattle.quic_packets.specs.Opening.{Opening}
use Rattle.quic_packets.specs.Pairs.{IsLawful, keys_in, expected_in}
use Rattle.quic_bench.proofs.Carried.{begins, carries, contents_of, given_back, left_is, not_given, some_bytes, some_left}
use Rattle.quic_bench.proofs.two_packets.sealed_and_opened.Goals as goal

pub returns-in-Err-open_packet-clause-refused : goal.returns-in-Err-open_packet-clause-refused
returns-in-Err-open_packet-clause-refused g c =
    let s = c.in-Ok.ensures.sealed in
    not_given c.in-Err-open_packet.ensures c.args.first.now s.front s.back s.first_sealed (c.requires.front s.back)
    (c.from_vec-datagram.ensures ∙ s.text)

pub unreachable-requires : goal.unreachable-requires
unreachable-requires g c =
    let s = c.in-Ok.ensures.sealed in
    let second = c.args.second.now in
    let opening : Opening = record {
      keys = λ space. record {
        sample_len = g.H.HeaderKey.sample_len (keys_in c.args.keys.now space).header;
        tag_size = g.P.PacketKey.tag_size (keys_in c.args.keys.now space).packet;
        protected = g.H.HeaderKey.protected (keys_in c.args.keys.now space).header;
        unprotected = g.H.HeaderKey.unprotected (keys_in c.args.keys.now space).header;
        sealed = g.P.PacketKey.sealed (keys_in c.args.keys.now space).packet;
        opened = g.P.PacketKey.opened (keys_in c.args.keys.now space).packet;
      };
      options = record { parsed = g.C.ConnectionIdParser.parsed c.args.parser.now; versions = c.args.versions.now; grease = false };
      takes_memory = g.C.ConnectionIdParser.takes_memory c.args.parser.now;
      expected = expected_in c.args.expected.now;
    } in
    let keys = keys_in c.args.keys.now (space_in second.header.now) in
    let lawful : IsLawful (opening.keys (space_in second.header.now)) = record {
      protects = g.met.H.HeaderKey.protects keys.header;
      restores = g.met.H.HeaderKey.restores keys.header;
      sealed_len = g.met.P.PacketKey.sealed_len keys.packet;
      opens = g.met.P.PacketKey.opens keys.packet;
    } in
    let contents = contents_of second s.second_sealed.payload in
    let opens =
    c.sealed_opens.ensures.opens opening (s.back ++ []) contents [] lawful
    (begins opening second (s.back ++ []) s.back [] s.second_sealed c.requires.back refl) in
    let cut : 0 < length opens.packet.bytes =
    c.ends.ensures.some opening.options (s.back ++ []) opens.packet.head opens.packet.header_end
    (length opens.packet.bytes) opens.first.cut in
    let some : 0 < length s.back = some_bytes s.back opens.packet.bytes opens.first.text cut in
    let back =
    given_back {opening = opening} c.in-Ok-open_packet.ensures c.args.first.now s.front s.back s.first_sealed
    (c.requires.front s.back) (c.from_vec-datagram.ensures ∙ s.text) in
    some_left s.back c.in-Ok-open_packet.opened.1 back.left_is some c.in_default.is

pub returns-in-Err-open_packet-2-clause-refused : goal.returns-in-Err-open_packet-2-clause-refused
returns-in-Err-open_packet-2-clause-refused g c =
    let s = c.in-Ok.ensures.sealed in
    let back =
    given_back c.in-Ok-open_packet.ensures c.args.first.now s.front s.back s.first_sealed (c.requires.front s.back)
    (c.from_vec-datagram.ensures ∙ s.text) in
    not_given c.in-Err-open_packet-2.ensures c.args.second.now s.back [] s.second_sealed c.requires.back
    (left_is s.back c.in-Ok-open_packet.opened.1 c.in-Some.rest back.left_is c.in-Some.is)

pub returns-in-Ok-open_packet-2-clause-opened : goal.returns-in-Ok-open_packet-2-clause-opened
returns-in-Ok-open_packet-2-clause-opened g c =
    let s = c.in-Ok.ensures.sealed in
    let one =
    given_back c.in-Ok-open_packet.ensures c.args.first.now s.front s.back s.first_sealed (c.requires.front s.back)
    (c.from_vec-datagram.ensures ∙ s.text) in
    let other =
    given_back c.in-Ok-open_packet-2.ensures c.args.second.now s.back [] s.second_sealed c.requires.back
    (left_is s.back c.in-Ok-open_packet.opened.1 c.in-Some.rest one.left_is c.in-Some.is) in
    (carries one s.first_sealed.is_payload, carries other s.second_sealed.is_payload)
