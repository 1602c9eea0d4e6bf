-- The names of frame types, as they are printed.
use Rattle.std.specs.Prelude.{ℕ, false, ◌++◌, List, [], ◌∷◌, Option, None, Some, ◌==◌, ◌&&◌, ◌||◌, nat_lt, nat_le, codes, if◌then◌else◌}
use Rattle.std.specs.Map.{lookup}
use Rattle.std.specs.Fmt.{digits}

-- the types that have their own name (RFC 9000, section 19; the last is of the ACK frequency extension)
abbrev pub names : List (ℕ × List ℕ)
names =
    (0x00, codes "PADDING") ∷ (0x01, codes "PING") ∷ (0x02, codes "ACK") ∷ (0x03, codes "ACK_ECN")
    ∷ (0x04, codes "RESET_STREAM")
    ∷ (0x05, codes "STOP_SENDING") ∷ (0x06, codes "CRYPTO") ∷ (0x07, codes "NEW_TOKEN") ∷ (0x10, codes "MAX_DATA")
    ∷ (0x11, codes "MAX_STREAM_DATA") ∷ (0x12, codes "MAX_STREAMS_BIDI") ∷ (0x13, codes "MAX_STREAMS_UNI")
    ∷ (0x14, codes "DATA_BLOCKED")
    ∷ (0x15, codes "STREAM_DATA_BLOCKED") ∷ (0x16, codes "STREAMS_BLOCKED_BIDI") ∷ (0x17, codes "STREAMS_BLOCKED_UNI")
    ∷ (0x18, codes "NEW_CONNECTION_ID") ∷ (0x19, codes "RETIRE_CONNECTION_ID") ∷ (0x1a, codes "PATH_CHALLENGE")
    ∷ (0x1b, codes "PATH_RESPONSE")
    ∷ (0x1c, codes "CONNECTION_CLOSE") ∷ (0x1d, codes "APPLICATION_CLOSE") ∷ (0x1e, codes "HANDSHAKE_DONE")
    ∷ (0x1f, codes "IMMEDIATE_ACK")
    ∷ (0xaf, codes "ACK_FREQUENCY") ∷ []

-- the number in lower-case hexadecimal, of at least two digits
abbrev pub hex_of : ℕ → List ℕ
hex_of n = if nat_lt n 16 then 48 ∷ digits 16 false n else digits 16 false n

-- the name of a type without its own: types 0x08 to 0x0f are one, and so are 0x30 and 0x31
abbrev pub shared_name : ℕ → List ℕ
shared_name ty =
    if nat_le 0x08 ty && nat_le ty 0x0f then codes "STREAM"
    else if (ty == 0x30) || (ty == 0x31) then codes "DATAGRAM"
    else codes "<unknown " ++ hex_of ty ++ codes ">"

abbrev pub own_name : ℕ → Option (List ℕ)
own_name ty = lookup (λ t. ty == t) names

abbrev pub own_or_shared : ℕ → Option (List ℕ) → List ℕ
own_or_shared ty (Some name) = name
own_or_shared ty None = shared_name ty

abbrev pub name_of : ℕ → List ℕ
name_of ty = own_or_shared ty (own_name ty)

-- ` in TYPE`, if the type is known
abbrev pub in_type : Option ℕ → List ℕ
in_type None = []
in_type (Some ty) = codes " in " ++ name_of ty
