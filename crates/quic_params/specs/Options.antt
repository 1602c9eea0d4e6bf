-- How lists are read in what RFC 9000 and quinn-proto differ.
use Rattle.std.specs.Prelude.{Bool, true, false, cond}
use Rattle.quic_params.specs.declared.options.ReadOptions.{ReadOptions}
use Rattle.quic_params.specs.declared.parameter.Kind.{Kind}
use Rattle.quic_params.specs.declared.parameter.Kind.TheVariants as K

abbrev pub reading : Bool → Bool → ReadOptions
reading any_width no_repeats = record { any_width = any_width; no_repeats = no_repeats }

abbrev pub as_quinn : ReadOptions
as_quinn = reading false false

-- RFC 9000, sections 7.4 and 16
abbrev pub as_rfc : ReadOptions
as_rfc = reading true true

abbrev pub in_any_width : Kind → Kind
in_any_width (K.Integer default) = K.Varint
in_any_width kind = kind

-- the kind by which a value is read: an integer in any width as other numbers are
abbrev pub kind_in : Bool → Kind → Kind
kind_in any_width kind = cond any_width (in_any_width kind) kind

abbrev pub kind_read : ReadOptions → Kind → Kind
kind_read options kind = kind_in options.any_width kind
