-- What is written, and finished, is the sealed packet.
use Rattle.std.proofs.Common.{rules, ◌≡◌, ℕ, ◌-◌, List, ◌++◌, length, sym, ap, ◌∙◌, arith, replicate, refl}
use Rattle.quic_header_encode.specs.declared.header.Header.{Header}
use Rattle.quic_packets.specs.Pairs.{KeyPair}
use Rattle.quic_packets.specs.Sealing.{payload_of}
use Rattle.quic_header_encode.specs.Writing.{header_size, header_bytes, size_in}
use Rattle.quic_packets.proofs.Sealings.{length_before, low_numbered, number_before, place_is, plain_of, sealed_end}
use Rattle.std.proofs.lemmas.Grind.{common_steps}
use Rattle.quic_packets.proofs.seal.seal_packet.Goals as goal

pub returns-clause-sealed : goal.returns-clause-sealed
returns-clause-sealed g c =
    let h : Header = c.args.header.now in
    let keys : KeyPair = record {
      sample_len = g.H.HeaderKey.sample_len c.args.keys.now.header;
      tag_size = g.P.PacketKey.tag_size c.args.keys.now.packet;
      protected = g.H.HeaderKey.protected c.args.keys.now.header;
      unprotected = g.H.HeaderKey.unprotected c.args.keys.now.header;
      sealed = g.P.PacketKey.sealed c.args.keys.now.packet;
      opened = g.P.PacketKey.opened c.args.keys.now.packet;
    } in
    let kept : c.reserve.new.self.items ≡ c.args.out.now.items = c.reserve.ensures.items in
    let tag : c.tag_len-tag.result ≡ keys.tag_size = c.tag_len-tag.ensures in
    let done = sealed_end keys h c.args.number (payload_of c.args.frames.now) c.args.out.now.items
    c.write_packet-partial.new.out.items c.finish_last.new.out.items
    c.write_packet-partial.result.start c.write_packet-partial.result.header_len c.write_packet-partial.result.pn
    (low_numbered h c.args.number c.requires.low) c.write_packet-partial.ensures.place
    c.write_packet-partial.ensures.header_len
    (c.write_packet-partial.ensures.start ∙ sym c.as_slice-before.ensures.len ∙ ap length (c.as_slice-before.ensures.value ∙ kept))
    (c.write_packet-partial.ensures.items ∙ ap (λ (xs : List ℕ). xs
    ++ (header_bytes h ++ (payload_of c.args.frames.now ++ replicate c.tag_len-tag.result 0))) kept
    ∙ ap (λ (n : ℕ). c.args.out.now.items ++ (header_bytes h ++ (payload_of c.args.frames.now ++ replicate n 0))) tag)
    c.finish_last.ensures.sealed c.finish_last.ensures.plain_bytes in
    let counted = c.payload_len-payload.ensures in
    let checked = c.in_default.ensures.none in (
      keys.protected (header_size h - size_in h) (plain_of keys h c.args.number (payload_of c.args.frames.now)),
      record {
        payload = payload_of c.args.frames.now;
        is_payload = c.is_payload.ensures;
        sealed = record {
          writable = c.requires.writable;
          low = c.requires.low;
          fits = c.requires.small;
          sample = omega (
            arith,
            (checked (length (payload_of c.args.frames.now)) counted).0,
            c.number_size.ensures.value,
            c.sample_size.ensures,
            c.tag_len-tag.ensures,
          );
          short = λ yes. omega (
            arith,
            (checked (length (payload_of c.args.frames.now)) counted).1
                (c.has_len.ensures ∙ yes),
            c.number_size.ensures.value,
            c.tag_len-tag.ensures,
          );
          are_bytes = done.1;
          payload_bytes = c.write_packet-partial.ensures.bytes;
          text = refl;
        };
      },
      done.0,
    )

pub returns-clause-len : goal.returns-clause-len
returns-clause-len g c = search rules

pub returns-then-is_err-clause-refused : goal.returns-then-is_err-clause-refused
returns-then-is_err-clause-refused g c = search rules

pub write_packet-partial-requires-clause-room : goal.write_packet-partial-requires-clause-room
write_packet-partial-requires-clause-room g c = grind (arith, common_steps)

pub finish_last-requires-clause-room : goal.finish_last-requires-clause-room
finish_last-requires-clause-room g c =
    let h : Header = c.args.header.now in
    let numbered = low_numbered h c.args.number c.requires.low in
    grind (arith, common_steps, number_before h numbered, length_before h, place_is h numbered)
