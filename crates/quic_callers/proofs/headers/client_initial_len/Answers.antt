-- By the law of examples and that of one result.
use Rattle.std.proofs.Common.{ℕ, List, [], ◌∷◌, drop, refl, subst}
use Rattle.quic_base.specs.Number.{AreBytes}
use Rattle.quic_header_decode.specs.declared.protected.ProtectedHeader.{ProtectedHeader}
use Rattle.quic_header_decode.specs.declared.protected.ProtectedHeader.TheVariants as protected
use Rattle.quic_header_decode.specs.Reading.{DecodeOptions, read_by}
use Rattle.quic_callers.proofs.HeadersBack.{begins, says_len}
use Rattle.quic_callers.proofs.headers.client_initial_len.Goals as goal

pub returns : goal.returns
returns g c =
    let context : DecodeOptions =
    read_by (g.C.ConnectionIdParser.parsed c.args.parser.now) c.args.versions.now c.args.grease in
    let datagram : List ℕ = c.args.datagram.items in
    let bytes : AreBytes datagram = subst AreBytes c.as_slice.ensures c.are_bytes.ensures in
    let h : ProtectedHeader =
    protected.Initial (record {
      dst_cid = 0x83 ∷ 0x94 ∷ 0xc8 ∷ 0xf0 ∷ 0x3e ∷ 0x51 ∷ 0x57 ∷ 0x08 ∷ [];
      src_cid = [];
      token_pos = record { start = 16; end = 16 };
      len = 1182;
      version = 1;
    }) in
    let is =
    begins context datagram _ 18 h c.requires.header refl
    (c.examples.ensures.initial context (drop 18 datagram) c.requires.known) in
    says_len context datagram 18 1182 h c.cut_len.result (λ a b. c.one_answer.ensures.cut context datagram a b bytes)
    is.0 is.1 refl c.requires.whole c.cut_len.ensures
