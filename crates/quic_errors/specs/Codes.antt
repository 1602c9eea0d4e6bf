-- Transport errors and their texts (RFC 9000, section 20.1).
use Rattle.std.specs.Prelude.{◌≡◌, ◌≢◌, ℕ, ◌%◌, List, [], ◌∷◌, ◌++◌, Option, None, Some, ◌==◌, ◌&&◌, length, nat_le, codes, if◌then◌else◌, Bool, true, false}
use Rattle.std.specs.Fmt.{decimal}
use Rattle.std.specs.Map.{lookup}
use Rattle.std.specs.String.{string_bytes}
use Rattle.quic_errors.specs.declared.transport_error.Error.{Error}
use Rattle.quic_errors.specs.declared.transport_error.Reason.{Reason}
use Rattle.quic_errors.specs.declared.transport_error.Reason.TheVariants.{Static, Owned}
use Rattle.quic_errors.specs.Names.{in_type}

abbrev pub no_error : ℕ
no_error = 0x00

abbrev pub internal_error : ℕ
internal_error = 0x01

abbrev pub connection_refused : ℕ
connection_refused = 0x02

abbrev pub flow_control_error : ℕ
flow_control_error = 0x03

abbrev pub stream_limit_error : ℕ
stream_limit_error = 0x04

abbrev pub stream_state_error : ℕ
stream_state_error = 0x05

abbrev pub final_size_error : ℕ
final_size_error = 0x06

abbrev pub frame_encoding_error : ℕ
frame_encoding_error = 0x07

abbrev pub transport_parameter_error : ℕ
transport_parameter_error = 0x08

abbrev pub connection_id_limit_error : ℕ
connection_id_limit_error = 0x09

abbrev pub protocol_violation : ℕ
protocol_violation = 0x0a

abbrev pub invalid_token : ℕ
invalid_token = 0x0b

abbrev pub application_error : ℕ
application_error = 0x0c

abbrev pub crypto_buffer_exceeded : ℕ
crypto_buffer_exceeded = 0x0d

abbrev pub key_update_error : ℕ
key_update_error = 0x0e

abbrev pub aead_limit_reached : ℕ
aead_limit_reached = 0x0f

abbrev pub no_viable_path : ℕ
no_viable_path = 0x10

-- the codes that have their own text
abbrev pub code_texts : List (ℕ × List ℕ)
code_texts =
    (no_error, codes "the connection is being closed abruptly in the absence of any error")
    ∷ (internal_error, codes "the endpoint encountered an internal error and cannot continue with the connection")
    ∷ (connection_refused, codes "the server refused to accept a new connection")
    ∷ (flow_control_error, codes "received more data than permitted in advertised data limits")
    ∷ (stream_limit_error, codes "received a frame for a stream identifier that exceeded advertised the stream limit for the corresponding stream type")
    ∷ (stream_state_error, codes "received a frame for a stream that was not in a state that permitted that frame")
    ∷ (final_size_error, codes "received a STREAM frame or a RESET_STREAM frame containing a different final size to the one already established")
    ∷ (frame_encoding_error, codes "received a frame that was badly formatted")
    ∷ (transport_parameter_error, codes "received transport parameters that were badly formatted, included an invalid value, was absent even though it is mandatory, was present though it is forbidden, or is otherwise in error")
    ∷ (connection_id_limit_error, codes "the number of connection IDs provided by the peer exceeds the advertised active_connection_id_limit")
    ∷ (protocol_violation, codes "detected an error with protocol compliance that was not covered by more specific error codes")
    ∷ (invalid_token, codes "received an invalid Retry Token in a client Initial")
    ∷ (application_error, codes "the application or application protocol caused the connection to be closed during the handshake")
    ∷ (crypto_buffer_exceeded, codes "received more data in CRYPTO frames than can be buffered")
    ∷ (key_update_error, codes "key update error")
    ∷ (aead_limit_reached, codes "the endpoint has reached the confidentiality or integrity limit for the AEAD algorithm")
    ∷ (no_viable_path, codes "no viable network path exists") ∷ []

-- the text of any other: codes 0x100 to 0x1ff are alerts of the handshake, by their low byte
abbrev pub other_text : ℕ → List ℕ
other_text code =
    if nat_le 0x100 code && nat_le code 0x1ff then codes "the cryptographic handshake failed: error " ++ decimal (code % 256)
    else codes "unknown error"

abbrev pub own_text : ℕ → Option (List ℕ)
own_text code = lookup (λ c. code == c) code_texts

abbrev pub own_or_other : ℕ → Option (List ℕ) → List ℕ
own_or_other code (Some text) = text
own_or_other code None = other_text code

abbrev pub code_text : ℕ → List ℕ
code_text code = own_or_other code (own_text code)

-- the text of a reason
abbrev pub reason_bytes : Reason → List ℕ
reason_bytes (Static text) = text.now
reason_bytes (Owned text) = string_bytes text

-- a reason that needs no allocation
abbrev pub is_static : Reason → Bool
is_static (Static text) = true
is_static (Owned text) = false

-- `: REASON`, if it is nonempty
abbrev pub after_colon : List ℕ → List ℕ
after_colon text = if length text == 0 then [] else codes ": " ++ text

abbrev pub error_text : Error → List ℕ
error_text error = code_text error.code ++ in_type error.frame ++ after_colon (reason_bytes error.reason)

-- The error has this code and this reason, and no frame is known.
pub record IsError (error : Error) (code : ℕ) (reason : List ℕ) : Type 0 where
  pub code_is : error.code ≡ code
  pub no_frame : error.frame ≡ None
  pub reason_is : reason_bytes error.reason ≡ reason

-- Two errors say the same.
pub record IsSameCode (one other : Error) : Type 0 where
  pub code_is : other.code ≡ one.code
  pub frame_is : other.frame ≡ one.frame
  pub reason_is : reason_bytes other.reason ≡ reason_bytes one.reason

-- the reason for a type that is not in its shortest encoding but must be
abbrev pub long_type_reason : List ℕ
long_type_reason = codes "frame type not in shortest form"

-- The error is that of an invalid frame. Its code differs if only the encoding of the type is wrong.
pub record IsErrorOf (ty : Option ℕ) (reason : List ℕ) (error : Error) : Type 0 where
  pub long_is : reason ≡ long_type_reason → error.code ≡ protocol_violation
  pub other_is : reason ≢ long_type_reason → error.code ≡ frame_encoding_error
  pub frame_is : error.frame ≡ ty
  pub reason_is : reason_bytes error.reason ≡ reason
