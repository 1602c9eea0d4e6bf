-- Closes as errors and as texts (RFC 9000, section 19.19).
use Rattle.std.specs.Prelude.{◌≡◌, ℕ, List, ◌++◌, ◌==◌, length, codes, encode_utf8_all, if◌then◌else◌, Bool, true, false}
use Rattle.std.specs.Fmt.{decimal}
use Rattle.bstr.specs.Utf8.{lossy_chars}
use Rattle.quic_errors.specs.declared.transport_error.Error.{Error}
use Rattle.quic_errors.specs.Codes.{code_text, reason_bytes}
use Rattle.quic_frame_fields.specs.declared.frame.close.Close.{Close}
use Rattle.quic_frame_fields.specs.declared.frame.close.Close.TheVariants.{Connection, Application}
use Rattle.quic_frame_fields.specs.declared.frame.close.ConnectionClose.{ConnectionClose}
use Rattle.quic_frame_fields.specs.declared.frame.close.ApplicationClose.{ApplicationClose}

abbrev pub is_connection : Close → Bool
is_connection (Connection c) = true
is_connection (Application c) = false

-- bytes as text, with U+FFFD for what isn't UTF-8
abbrev pub lossy_text : List ℕ → List ℕ
lossy_text bytes = encode_utf8_all (lossy_chars bytes)

abbrev pub connection_close_text : ConnectionClose → List ℕ
connection_close_text c =
    if length c.reason.now == 0 then code_text c.error_code
    else code_text c.error_code ++ codes ": " ++ lossy_text c.reason.now

abbrev pub application_close_text : ApplicationClose → List ℕ
application_close_text c =
    if length c.reason.now == 0 then decimal c.error_code
    else lossy_text c.reason.now ++ codes " (code " ++ decimal c.error_code ++ codes ")"

-- The close has the code, the frame and the reason of the error.
pub record IsCloseOf (error : Error) (close : ConnectionClose) : Type 0 where
  pub code_is : close.error_code ≡ error.code
  pub frame_is : close.frame_type ≡ error.frame
  pub reason_is : close.reason.now ≡ reason_bytes error.reason

abbrev pub IsConnectionCloseOf : Error → Close → Type 0
IsConnectionCloseOf error (Connection c) = IsCloseOf error c
IsConnectionCloseOf error (Application c) = ⊥
