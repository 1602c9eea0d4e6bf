-- The first packet as it is opened, or why it isn't. What was sealed with the keys is returned, by their laws.
use Rattle.std.proofs.Common.{subst, ℕ, Bool, List, Err}
use Rattle.quic_base.specs.Number.{AreBytes}
use Rattle.quic_base.specs.declared.ids.SpaceId.{SpaceId}
use Rattle.quic_packets.specs.declared.keys.Expected.{Expected}
use Rattle.quic_packets.specs.declared.keys.SpaceKeys.{SpaceKeys}
use Rattle.quic_packets.specs.declared.opening.OpenError.TheVariants as error
use Rattle.quic_packets.specs.Opening.{Opening}
use Rattle.quic_packets.specs.Pairs.{IsLawful, keys_in}
use Rattle.quic_packets.proofs.OpenedBack.{answers_cut, answers_uncut}
use Rattle.quic_packets.proofs.Openings.{opening_of}
use Rattle.quic_packets.proofs.Uncuts.{memory_refused}
use Rattle.quic_packets.proofs.opening.open_first.Given as given
use Rattle.quic_packets.proofs.opening.open_first.Goals as goal

abbrev opening_in : (g : given.Over) → SpaceKeys g.row.H.Denot g.row.P.Denot → g.row.C.Denot → List ℕ → Bool → Expected
    → Opening
opening_in g = opening_of g.H.HeaderKey g.P.PacketKey g.C.ConnectionIdParser

lawful : (g : given.Over) (keys : SpaceKeys g.row.H.Denot g.row.P.Denot) (parser : g.row.C.Denot) (versions : List ℕ)
    (grease : Bool) (expected : Expected) (space : SpaceId)
    → IsLawful ((opening_in g keys parser versions grease expected).keys space)
lawful g keys parser versions grease expected space = record {
  protects = g.met.H.HeaderKey.protects (keys_in keys space).header;
  restores = g.met.H.HeaderKey.restores (keys_in keys space).header;
  sealed_len = g.met.P.PacketKey.sealed_len (keys_in keys space).packet;
  opens = g.met.P.PacketKey.opens (keys_in keys space).packet;
}

pub returns-in-Err-clause-next : goal.returns-in-Err-clause-next
returns-in-Err-clause-next g c =
    let a = c.args in
    let o = a.options.now in
    answers_uncut (opening_in g a.keys.now o.parser.now o.versions.now o.grease a.expected.now) a.bytes
    (lawful g a.keys.now o.parser.now o.versions.now o.grease a.expected.now)
    (subst AreBytes c.as_slice.ensures c.are_bytes.ensures) c.in-Err.e c.in-Err.ensures.refused
    c.decode_error.ensures

pub returns-then-not-room-clause-next : goal.returns-then-not-room-clause-next
returns-then-not-room-clause-next g c =
    let a = c.args in
    let o = a.options.now in
    let opening : Opening = opening_in g a.keys.now o.parser.now o.versions.now o.grease a.expected.now in
    answers_cut opening a.bytes c.in-Ok.parts.1 (Err error.OutOfMemory)
    (lawful g a.keys.now o.parser.now o.versions.now o.grease a.expected.now)
    (subst AreBytes c.as_slice.ensures c.are_bytes.ensures) c.in-Ok.ensures.cut c.in-Ok.ensures.rest tt
    (memory_refused opening c.in-Ok.parts.0)

pub returns-clause-next : goal.returns-clause-next
returns-clause-next g c =
    let a = c.args in
    let o = a.options.now in
    answers_cut (opening_in g a.keys.now o.parser.now o.versions.now o.grease a.expected.now) a.bytes
    c.in-Ok.parts.1 c.open_part.result (lawful g a.keys.now o.parser.now o.versions.now o.grease a.expected.now)
    (subst AreBytes c.as_slice.ensures c.are_bytes.ensures) c.in-Ok.ensures.cut c.in-Ok.ensures.rest
    c.open_part.ensures.opened c.open_part.ensures.refused
