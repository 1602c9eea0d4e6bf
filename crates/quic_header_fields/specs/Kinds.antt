-- The rows of fields as the code has them.
use Rattle.std.specs.Prelude.{ℕ}
use Rattle.quic_header_decode.specs.Grammar.{HeaderField}
use Rattle.quic_header_decode.specs.Grammar as fields
use Rattle.quic_header_fields.specs.declared.row.Kind.{Kind}
use Rattle.quic_header_fields.specs.declared.row.Kind.TheVariants as kinds

-- the field of a kind in a header of this version
abbrev pub field_of : ℕ → Kind → HeaderField
field_of version kinds.Version = fields.Version
field_of version kinds.DestinationId = fields.DestinationId
field_of version kinds.SourceId = fields.SourceId
field_of version kinds.Supported = fields.Supported version
field_of version kinds.TokenLength = fields.TokenLength
field_of version kinds.Token = fields.Token
field_of version kinds.Length = fields.Length
field_of version kinds.ShortId = fields.ShortId
