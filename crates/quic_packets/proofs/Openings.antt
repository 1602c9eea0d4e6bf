-- What packets are opened with: the keys of each space, a parser of ids, and the other arguments of a call.
use Rattle.std.specs.Prelude.{ℕ, Bool, List}
use Rattle.quic_crypto.specs.declared.crypto.HeaderKey as header_key
use Rattle.quic_crypto.specs.declared.crypto.PacketKey as packet_key
use Rattle.quic_header_decode.specs.declared.parser.ConnectionIdParser as id_parser
use Rattle.quic_header_decode.specs.Reading.{read_by}
use Rattle.quic_packets.specs.declared.keys.Expected.{Expected}
use Rattle.quic_packets.specs.declared.keys.SpaceKeys.{SpaceKeys}
use Rattle.quic_packets.specs.Opening.{Opening}
use Rattle.quic_packets.specs.Pairs.{keys_in, expected_in}

abbrev pub opening_of : {H P C : Type 0} → header_key.Ghosts H → packet_key.Ghosts P → id_parser.Ghosts C
    → SpaceKeys H P → C → List ℕ → Bool → Expected → Opening
opening_of h p c keys parser versions grease expected = record {
  keys = λ space. record {
    sample_len = h.sample_len (keys_in keys space).header;
    tag_size = p.tag_size (keys_in keys space).packet;
    protected = h.protected (keys_in keys space).header;
    unprotected = h.unprotected (keys_in keys space).header;
    sealed = p.sealed (keys_in keys space).packet;
    opened = p.opened (keys_in keys space).packet;
  };
  options = read_by (c.parsed parser) versions grease;
  takes_memory = c.takes_memory parser;
  expected = expected_in expected;
}
