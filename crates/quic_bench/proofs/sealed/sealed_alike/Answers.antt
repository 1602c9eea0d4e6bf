-- By the law of one packet.
use Rattle.std.proofs.Common.{◌≡◌, ◌∙◌, rules}
use Rattle.quic_header_encode.specs.Kinds.{space_in}
use Rattle.quic_packets.specs.Pairs.{KeyPair, keys_in}
use Rattle.quic_bench.proofs.Carried.{contents_of}
use Rattle.quic_bench.proofs.RowOfOne.{sealed_same, reported_same}
use Rattle.quic_bench.proofs.sealed.sealed_alike.Goals as goal

pub returns-clause-alike : goal.returns-clause-alike
returns-clause-alike g c =
    let keys = keys_in c.args.keys.now (space_in c.args.packet.now.header.now) in
    let pair : KeyPair = record {
      sample_len = g.H.HeaderKey.sample_len keys.header;
      tag_size = g.P.PacketKey.tag_size keys.packet;
      protected = g.H.HeaderKey.protected keys.header;
      unprotected = g.H.HeaderKey.unprotected keys.header;
      sealed = g.P.PacketKey.sealed keys.packet;
      opened = g.P.PacketKey.opened keys.packet;
    } in
    let packet = c.args.packet.now in
    let start : c.new-one.result.items ≡ c.new-other.result.items = search rules in
    let alike = sealed_same pair packet.header.now packet.number packet.frames.now _ _
    (λ payload a b. c.one_packet.ensures.packet pair (contents_of packet payload) a b)
    (λ a b. c.one_packet.ensures.payload packet.frames.now a b)
    _ _ start c.in_ok-seal.ensures.sealed c.in_ok-seal-2.ensures.sealed in
    c.eq.ensures ∙ reported_same _ _ _ _ c.as_slice.ensures.value c.as_slice-2.ensures.value alike
