-- The token is a part of the header, and so of the packet.
use Rattle.std.proofs.Common.{arith, ℕ, List, ap, ◌∙◌}
use Rattle.std.specs.Prelude.{slice_range}
use Rattle.quic_header_decode.proofs.Cuts.{between-take}
use Rattle.quic_header_encode.specs.declared.header.Header.{Header}
use Rattle.quic_header_encode.specs.declared.header.Header.TheVariants as header
use Rattle.std.proofs.lemmas.Grind.{common_steps}
use Rattle.quic_header_decode.proofs.finish.finish_initial.Goals as goal

pub returns-clause-opened : goal.returns-clause-opened
returns-clause-opened c =
    let start = c.args.head.token_pos.start in
    let end = c.args.head.token_pos.end in
    ap (λ (token : List ℕ). let h : Header = header.Initial (record {
      dst_cid = c.args.head.dst_cid;
      src_cid = c.args.head.src_cid;
      token = token;
      number = c.args.number;
      version = c.args.head.version;
    }) in h)
    (c.in-Ok-slice.ensures.ok ∙ ap (λ (xs : List ℕ). slice_range xs start end) c.in-Ok.ensures.head
    ∙ between-take c.args.packet.items start end c.args.end c.requires.within)

pub returns-clause-len : goal.returns-clause-len
returns-clause-len c = grind (arith, common_steps)

pub returns-clause-whole : goal.returns-clause-whole
returns-clause-whole c = grind (arith, common_steps)
