-- `{:08x}` writes eight digits.
use Rattle.std.proofs.Common.{◌-◌, ◌^◌, false, [], codes, ap, ◌∙◌}
use Rattle.std.specs.Prelude.{option_map}
use Rattle.std.specs.Fmt.{styled_digits_output, padded_integral, format_spec}
use Rattle.std.specs.String.{string_bytes}
use Rattle.quic_text.proofs.DatagramLines.{version_written}
use Rattle.quic_text.proofs.print.datagram.print_version.Goals as goal

pub returns : goal.returns
returns c =
    version_written c.write.result (string_bytes c.args.text.now) (string_bytes c.write.new.self) (codes " version ") (styled_digits_output c.in_radix.result c.laid_out.result) c.args.version
    (ap (styled_digits_output c.in_radix.result) c.laid_out.ensures
    ∙ ap (option_map (padded_integral (format_spec 32 0 4 8 (2 ^ 64 - 1)) false [])) c.in_radix.ensures)
    c.write.ensures.bytes
