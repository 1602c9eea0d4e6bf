-- Why a packet can't be read: an error without the address of its text.
use Rattle.std.specs.Prelude.{◌≡◌, ℕ, List, Result, Ok, Err}
use Rattle.quic_header_decode.specs.declared.decode_error.PacketDecodeError.{PacketDecodeError}
use Rattle.quic_header_decode.specs.declared.decode_error.PacketDecodeError.TheVariants as error

pub data Refusal : Type 0 where
  Unsupported : List ℕ → List ℕ → ℕ → Refusal
  Invalid : List ℕ → Refusal
  NoMemory : Refusal

abbrev pub refusal_of : PacketDecodeError → Refusal
refusal_of (error.UnsupportedVersion src dst version) = Unsupported src dst version
refusal_of (error.InvalidHeader text) = Invalid text.now
refusal_of error.OutOfMemory = NoMemory

-- what a call returned is what there is to read, or its error, unless it is out of memory
abbrev pub RefusesHeader : {Y : Type 0} → PacketDecodeError → Result Y Refusal → Type 0
RefusesHeader error.OutOfMemory read = Unit {0}
RefusesHeader e read = read ≡ Err (refusal_of e)

abbrev pub GivesRead : {X Y : Type 0} → (X → Y) → Result X PacketDecodeError → Result Y Refusal → Type 0
GivesRead view (Ok x) read = read ≡ Ok (view x)
GivesRead view (Err e) read = RefusesHeader e read
