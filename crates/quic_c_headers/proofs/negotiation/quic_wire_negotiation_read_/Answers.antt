-- The ids that are reported are those in the packet, and a header with these is reported so.
use Rattle.std.proofs.Common.{◌≡◌, arith}
use Rattle.quic_negotiation.proofs.Fronts.{same_ids}
use Rattle.quic_c_headers.specs.Reading.{IsNegotiation}
use Rattle.quic_c_headers.proofs.Negotiated.{of_zero, same_words, reported}
use Rattle.quic_c_headers.proofs.negotiation.quic_wire_negotiation_read_.Goals as goal

pub returns-in_default-clause-none : goal.returns-in_default-clause-none
returns-in_default-clause-none c = λ _ dst src rest is. c.in_default.ensures.read 0 dst src rest is

pub returns-then-version-ne0-clause-none : goal.returns-then-version-ne0-clause-none
returns-then-version-ne0-clause-none c = λ _ dst src rest is.
    let packet = c.args.packet.now in
    let found = c.in-Some.ensures.read in
    let same =
    same_ids c.in-Some.version 0 packet c.in-Some.dst.now c.in-Some.src.now found.0 dst src rest found.1 is in
    absurd (omega (arith, same.0, c.if-version-ne0.true))

pub returns-clause-read : goal.returns-clause-read
returns-clause-read c = λ _.
    let found = c.in-Some.ensures.read in
    let zero : c.in-Some.version ≡ 0 = omega (arith, c.if-version-ne0.false) in
    let is = of_zero c.in-Some.version c.args.packet.now c.in-Some.dst.now c.in-Some.src.now found.0 zero found.1 in
    (c.in-Some.dst.now, c.in-Some.src.now, found.0, is)

pub returns-clause-reported : goal.returns-clause-reported
returns-clause-reported c = λ _ dst src rest is.
    let packet = c.args.packet.now in
    let found = c.in-Some.ensures.read in
    let same =
    same_ids c.in-Some.version 0 packet c.in-Some.dst.now c.in-Some.src.now found.0 dst src rest found.1 is in
    same_words packet c.in-Some.dst.now c.in-Some.src.now dst src same.1 same.2

pub returns-clause-agrees : goal.returns-clause-agrees
returns-clause-agrees c = λ _ few less flags id_len versions.
    let found = c.in-Some.ensures.read in
    let zero : c.in-Some.version ≡ 0 = omega (arith, c.if-version-ne0.false) in
    let is = of_zero c.in-Some.version c.args.packet.now c.in-Some.dst.now c.in-Some.src.now found.0 zero found.1 in
    reported flags id_len versions c.args.packet.now c.in-Some.dst.now c.in-Some.src.now found.0 c.args.head.now is few less
