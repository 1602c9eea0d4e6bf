-- What a cut returns, and that a lawful parser reads no more bytes than there are.
use Rattle.std.specs.Prelude.{◌≡◌, ◌≢◌, ◌≤◌, ℕ, Bool, List, length, Option, Result, Ok, Err, IfOk, IfErr, MatchResult}
use Rattle.std.proofs.Common.{subst, sym}
use Rattle.bytes.specs.Filled.{Filled}
use Rattle.quic_base.specs.One.{ExactlyOne, ReturnsOne}
use Rattle.quic_header_decode.specs.Grammar.{CutAnswer}
use Rattle.quic_header_decode.specs.Datagram.{CutPacket, CutsFirst, IsUncut}
use Rattle.quic_header_decode.specs.declared.decode_error.PacketDecodeError.{PacketDecodeError}
use Rattle.quic_header_decode.specs.declared.decode_error.PacketDecodeError.TheVariants as error
use Rattle.quic_header_decode.specs.Reading.{DecodeOptions, TakesWithin, left_of}
use Rattle.quic_header_decode.specs.Refusal.{Refusal, NoMemory, refusal_of, GivesRead}

within : (text id : List ℕ) (count : ℕ) (r : Result (List ℕ × ℕ) Refusal)
    → MatchResult r (λ x. x.1 ≤ length text) (λ e. e ≢ NoMemory) → r ≡ Ok (id, count) → count ≤ length text
within text id count (Ok x) le e = let same : x ≡ (id, count) = cc in subst (λ (y : List ℕ × ℕ). y.1 ≤ length text) same le
within text id count (Err x) le e = absurd cc

pub takes_within : (options : DecodeOptions)
    → ((text : List ℕ) → MatchResult (options.parsed text) (λ x. x.1 ≤ length text) (λ e. e ≢ NoMemory))
    → TakesWithin options
takes_within options lawful text id count e = within text id count (options.parsed text) (lawful text) e

-- ---- the one result

abbrev View : Type 0
View = CutPacket × Option Filled

pub returns_cut : (options : DecodeOptions) (takes_memory : Bool) (bytes : List ℕ) (result : Result View PacketDecodeError)
    → ExactlyOne (CutAnswer options bytes)
    → IfOk result (λ x. CutsFirst options bytes x.0 (left_of x.1))
    → IfErr result (λ e. IsUncut options takes_memory bytes e)
    → ReturnsOne (CutAnswer options bytes) (GivesRead (λ (x : View). (x.0.head, x.0.header_end, length x.0.bytes)) result)
returns_cut options takes_memory bytes (Ok x) one cut refused =
    record { one = one; returned = sym (one.only (Ok (x.0.head, x.0.header_end, length x.0.bytes)) cut.cut) }
returns_cut options takes_memory bytes (Err error.OutOfMemory) one cut refused = record { one = one; returned = tt }
returns_cut options takes_memory bytes (Err (error.InvalidHeader text)) one cut refused =
    record { one = one; returned = sym (one.only (Err (refusal_of (error.InvalidHeader text))) refused) }
returns_cut options takes_memory bytes (Err (error.UnsupportedVersion src dst version)) one cut refused =
    record { one = one; returned = sym (one.only (Err (refusal_of (error.UnsupportedVersion src dst version))) refused) }
