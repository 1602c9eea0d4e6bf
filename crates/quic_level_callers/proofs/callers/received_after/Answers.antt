-- By the law, after one reception that opened nothing.
use Rattle.std.specs.Prelude.{◌≡◌, ℕ, List, [], ◌++◌, Option, Some, Result, Ok, Err}
use Rattle.std.proofs.Common.{sym, ap, ◌∙◌, subst}
use Rattle.bytes.specs.Filled.{Filled}
use Rattle.quic_frames.specs.declared.frame.Frame.{Frame}
use Rattle.quic_header_encode.specs.declared.header.Header.{Header}
use Rattle.quic_levels.specs.declared.opening.LevelError.{LevelError}
use Rattle.quic_levels.specs.Opening.{LevelOpening, NextAnswer, ReturnsAgain}
use Rattle.quic_levels.specs.Protection.{pair_of}
use Rattle.quic_levels.specs.Receiving.{expected_after, fresh}
use Rattle.quic_levels.proofs.Protections.{header_by, opening_of, packet_by}
use Rattle.quic_packets.specs.declared.keys.Expected.{Expected}
use Rattle.quic_packets.specs.declared.opening.Opened.{Opened}
use Rattle.quic_packets.specs.Pairs.{KeyPair}
use Rattle.quic_packets.specs.Sealing.{IsAppended, SealedFrames}
use Rattle.quic_level_callers.specs.Receive.{IsFoundFirst}
use Rattle.quic_level_callers.proofs.Received.{OpensAfterRuns, carries, contents_of, received}
use Rattle.quic_level_callers.proofs.callers.received_after.Goals as goal

-- what was appended to nothing
sealed_alone : (keys : KeyPair) (h : Header) (n : ℕ) (frames : List Frame) (old new bytes : List ℕ)
    → IsAppended (SealedFrames keys h n frames) old new → old ≡ [] → bytes ≡ new → SealedFrames keys h n frames bytes
sealed_alone keys h n frames old new bytes it none same =
    subst (SealedFrames keys h n frames)
    (sym (same ∙ it.2 ∙ ap (λ (xs : List ℕ). xs ++ it.0) none)) it.1

-- both receptions, as the calls return them
returned_again : OpensAfterRuns → (opening : LevelOpening) (start mid new : Expected) (first : Filled) (rest : Option Filled)
    (one : Result Opened LevelError) (e : LevelError) (left : Option Filled) (bytes : Filled) (next : Option Filled)
    (answer : Result Opened LevelError) (after : Option Filled) (keys : KeyPair) (h : Header) (n : ℕ) (frames : List Frame)
    → start ≡ fresh → rest ≡ Some first → one ≡ Err e
    → NextAnswer opening start rest (Some one) left → mid ≡ expected_after start one
    → next ≡ Some bytes → NextAnswer opening mid next (Some answer) after → new ≡ expected_after mid answer
    → IsFoundFirst opening keys h n → (s : SealedFrames keys h n frames bytes.items)
    → ReturnsAgain keys (contents_of h n s.payload) [] answer after
returned_again law opening start mid new first rest one e left bytes next answer after keys h n frames is_fresh is_first is_error
    foreign moved is_next outcome moved_again found s =
    received law opening mid new first e left bytes answer after keys h n frames
    (subst (λ (r : Result Opened LevelError). NextAnswer opening fresh (Some first) (Some r) left) is_error
    (subst (λ (r : Option Filled). NextAnswer opening fresh r (Some one) left) is_first
    (subst (λ (x : Expected). NextAnswer opening x rest (Some one) left) is_fresh foreign)))
    (moved ∙ ap (expected_after start) is_error ∙ is_fresh)
    (subst (λ (r : Option Filled). NextAnswer opening mid r (Some answer) after) is_next outcome) moved_again found s

pub returns-in-Some-Ok-clause-carried : goal.returns-in-Some-Ok-clause-carried
returns-in-Some-Ok-clause-carried g c =
    let a = c.args in
    let o = a.options.now in
    let keys : KeyPair =
    pair_of (header_by g.H.HeaderKey a.sealer.now.header) (packet_by g.P.PacketKey a.sealer.now.packet) in
    let opening : LevelOpening =
    opening_of g.H.HeaderKey g.P.PacketKey g.C.ConnectionIdParser a.keys.now o.parser.now o.versions.now o.grease in
    let arm = c.in-Some-Err in
    let last = c.in-Some-Ok in
    let one : arm.field-0 ≡ Err arm.field-0-0 = cc in
    let two : last.field-0 ≡ Ok last.opened = cc in
    let s : SealedFrames keys a.header.now a.number a.frames.now c.from_vec.result.items =
    sealed_alone keys a.header.now a.number a.frames.now c.new-out.result.items c.seal_packet.new.out.items
    c.from_vec.result.items c.in_default-seal_packet.ensures.sealed c.new-out.ensures.items c.from_vec.ensures in
    let back =
    returned_again c.packets_received.ensures.opens opening c.new-receiver.result c.receive_next.new.self
    c.receive_next-2.new.self a.first c.new-before.result.rest arm.field-0 arm.field-0-0 c.receive_next.new.packets.rest
    c.from_vec.result c.new-packets.result.rest last.field-0 c.receive_next-2.new.packets.rest keys a.header.now a.number
    a.frames.now c.new-receiver.ensures c.new-before.ensures one arm.ensures.next arm.ensures.expected
    c.new-packets.ensures last.ensures.next last.ensures.expected c.requires.found s in
    let given = subst (λ (r : Result Opened LevelError). ReturnsAgain keys (contents_of a.header.now a.number s.payload) [] r
    c.receive_next-2.new.packets.rest) two back in
    carries keys a.header.now a.number a.frames.now s.payload last.opened s.is_payload given.packet

pub returns-in-Some-Err-receive_next-clause-refused : goal.returns-in-Some-Err-receive_next-clause-refused
returns-in-Some-Err-receive_next-clause-refused g c =
    let a = c.args in
    let o = a.options.now in
    let keys : KeyPair =
    pair_of (header_by g.H.HeaderKey a.sealer.now.header) (packet_by g.P.PacketKey a.sealer.now.packet) in
    let opening : LevelOpening =
    opening_of g.H.HeaderKey g.P.PacketKey g.C.ConnectionIdParser a.keys.now o.parser.now o.versions.now o.grease in
    let arm = c.in-Some-Err in
    let last = c.in-Some-Err-receive_next in
    let one : arm.field-0 ≡ Err arm.field-0-0 = cc in
    let two : last.field-0 ≡ Err last.e = cc in
    let s : SealedFrames keys a.header.now a.number a.frames.now c.from_vec.result.items =
    sealed_alone keys a.header.now a.number a.frames.now c.new-out.result.items c.seal_packet.new.out.items
    c.from_vec.result.items c.in_default-seal_packet.ensures.sealed c.new-out.ensures.items c.from_vec.ensures in
    let back =
    returned_again c.packets_received.ensures.opens opening c.new-receiver.result c.receive_next.new.self
    c.receive_next-2.new.self a.first c.new-before.result.rest arm.field-0 arm.field-0-0 c.receive_next.new.packets.rest
    c.from_vec.result c.new-packets.result.rest last.field-0 c.receive_next-2.new.packets.rest keys a.header.now a.number
    a.frames.now c.new-receiver.ensures c.new-before.ensures one arm.ensures.next arm.ensures.expected
    c.new-packets.ensures last.ensures.next last.ensures.expected c.requires.found s in
    subst (λ (r : Result Opened LevelError). ReturnsAgain keys (contents_of a.header.now a.number s.payload) [] r
    c.receive_next-2.new.packets.rest) two back
