-- The first packet as it is opened, or why it isn't. What was sealed with the keys is returned, by their laws.
use Rattle.std.proofs.Common.{subst}
use Rattle.quic_base.specs.Number.{AreBytes}
use Rattle.quic_levels.specs.declared.keys.LevelKeys.{LevelKeys}
use Rattle.quic_levels.proofs.LevelBack.{answers_cut, answers_uncut}
use Rattle.quic_levels.proofs.Protections.{AreLawful, all_lawful, opening_of, protection_of}
use Rattle.quic_levels.proofs.opening.open_first.Given as given
use Rattle.quic_levels.proofs.opening.open_first.Goals as goal

lawful : (g : given.Over) (keys : LevelKeys g.row.H.Denot g.row.P.Denot)
    → AreLawful (protection_of g.H.HeaderKey g.P.PacketKey keys)
lawful g keys = all_lawful g.H.HeaderKey g.P.PacketKey keys (λ a b. record {
  protects = g.met.H.HeaderKey.protects a;
  restores = g.met.H.HeaderKey.restores a;
  sealed_len = g.met.P.PacketKey.sealed_len b;
  opens = g.met.P.PacketKey.opens b;
})

pub returns-in-Err-clause-next : goal.returns-in-Err-clause-next
returns-in-Err-clause-next g c =
    let a = c.args in
    let o = a.options.now in
    answers_uncut (opening_of g.H.HeaderKey g.P.PacketKey g.C.ConnectionIdParser a.keys.now o.parser.now o.versions.now o.grease)
    a.expected.now a.bytes (lawful g a.keys.now)
    (subst AreBytes c.as_slice.ensures c.are_bytes.ensures) c.in-Err.e c.in-Err.ensures.refused
    c.decode_error.ensures

pub returns-in-Ok-clause-next : goal.returns-in-Ok-clause-next
returns-in-Ok-clause-next g c =
    let a = c.args in
    let o = a.options.now in
    answers_cut (opening_of g.H.HeaderKey g.P.PacketKey g.C.ConnectionIdParser a.keys.now o.parser.now o.versions.now o.grease)
    a.expected.now a.bytes c.in-Ok.rest c.open_part.result (lawful g a.keys.now) c.in-Ok.ensures.cut c.in-Ok.ensures.rest
    c.open_part.ensures.opened c.open_part.ensures.refused
