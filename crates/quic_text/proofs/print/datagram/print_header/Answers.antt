-- A version negotiation has version 0.
use Rattle.std.proofs.Common.{arith, ◌++◌, ap, sym, ◌∙◌}
use Rattle.std.specs.String.{string_bytes}
use Rattle.quic_header_decode.specs.declared.protected.ProtectedHeader.{ProtectedHeader}
use Rattle.quic_text.specs.DatagramText.{header_text}
use Rattle.std.proofs.lemmas.Grind.{common_steps}
use Rattle.quic_text.proofs.print.datagram.print_header.Goals as goal

pub returns-in_ok-print_long-in-VersionNegotiate :
    goal.returns-in_ok-print_long-in-VersionNegotiate
returns-in_ok-print_long-in-VersionNegotiate c =
    c.in_ok-print_long-in-VersionNegotiate.ensures
    ∙ ap (λ (h : ProtectedHeader). string_bytes c.args.text.now ++ header_text h) (sym c.in-VersionNegotiate.is)

pub returns-in_ok-print_token-in-Initial : goal.returns-in_ok-print_token-in-Initial
returns-in_ok-print_token-in-Initial c = grind (arith, common_steps)
