-- What the calls return that say where a frame may be.
use Rattle.std.specs.Prelude.{◌≡◌, ⊤, ◌⊎◌, ℕ, ℤ, pos, Result, Ok, Err}
use Rattle.quic_base.specs.declared.ids.Side.{Side}
use Rattle.quic_base.specs.declared.ids.Side.TheVariants.{Client, Server}
use Rattle.quic_frames.specs.Flags.{rules_in}
use Rattle.quic_permitted.specs.Permitted.{StreamAnswer, TypeAnswer}
use Rattle.quic_permitted.specs.declared.permitted.Forbidden.{Forbidden}
use Rattle.quic_permitted.specs.declared.permitted.Forbidden.TheVariants as forbidden
use Rattle.quic_permitted.specs.declared.permitted.PacketType.{PacketType}
use Rattle.quic_permitted.specs.declared.permitted.PacketType.TheVariants.{Initial, ZeroRtt, Handshake, OneRtt}
use Rattle.quic_results.specs.declared.results.Failure.TheVariants as failure
use Rattle.quic_results.specs.Results.{failed}

-- the number of a type of packets
abbrev pub IsPacket : ℕ → PacketType → Type 0
IsPacket word Initial = word ≡ 0
IsPacket word ZeroRtt = word ≡ 1
IsPacket word Handshake = word ≡ 2
IsPacket word OneRtt = word ≡ 4

-- the number of a side
abbrev pub IsSide : ℕ → Side → Type 0
IsSide word Client = word ≡ 0
IsSide word Server = word ≡ 1

-- what is returned for an outcome
abbrev pub answered : Result ⊤ Forbidden → ℤ
answered (Ok done) = pos 0
answered (Err forbidden.Type) = failed failure.FrameType
answered (Err forbidden.Packet) = failed failure.FramePacket
answered (Err forbidden.Sender) = failed failure.FrameSender
answered (Err forbidden.Stream) = failed failure.FrameStream

-- The words name no packet or no side.
abbrev pub NameNothing : ℕ → ℕ → Type 0
NameNothing packet sender =
    ((type : PacketType) → IsPacket packet type → ⊥) ⊎ ((side : Side) → IsSide sender side → ⊥)

-- They name a packet and a side, for which this is the outcome.
pub record IsAnswered (packet sender : ℕ) (result : ℤ) (P : PacketType → Side → Result ⊤ Forbidden → Type 0) : Type 0 where
  pub type : PacketType
  pub is_type : IsPacket packet type
  pub side : Side
  pub is_side : IsSide sender side
  pub outcome : Result ⊤ Forbidden
  pub holds : P type side outcome
  pub returned : result ≡ answered outcome

-- what is returned of a frame's type
abbrev pub AnswersType : ℕ → ℕ → ℕ → ℕ → ℤ → Type 0
AnswersType t packet sender flags result =
    ((result ≡ failed failure.Kind) × NameNothing packet sender)
    ⊎ IsAnswered packet sender result (λ type side outcome. TypeAnswer (rules_in flags) t type side outcome)

-- what is returned of a frame of this kind that names this stream, if it names one
abbrev pub AnswersFrame : ℕ → ℕ → ℕ → ℕ → ℕ → ℤ → Type 0
AnswersFrame t stream packet sender flags result =
    ((result ≡ failed failure.Kind) × NameNothing packet sender)
    ⊎ IsAnswered packet sender result (λ type side outcome. StreamAnswer (rules_in flags) t stream type side outcome)
