-- The body of a frame, whose type the caller has read.
use Rattle.std.specs.Prelude.{◌≡◌, ℕ, ◌+◌, ◌^◌, ◌≤◌, ◌⊎◌, ◌↔◌, ℤ, pos, List, length}
use Rattle.quic_frames.specs.declared.frame.Frame.{Frame}
use Rattle.quic_frames.specs.declared.frame.rules.Rules.{Rules}
use Rattle.quic_frames.specs.Body.{ReadsBody, with_type}
use Rattle.quic_frames.specs.Rules.{Keeps}
use Rattle.quic_c_words.specs.declared.words.CFrame.{CFrame}
use Rattle.quic_c_words.specs.declared.words.CGap.{CGap}
use Rattle.quic_c.specs.Front.{ReportsNone, ShowsFront}
use Rattle.quic_results.specs.declared.results.Failure.TheVariants as failure
use Rattle.quic_results.specs.Results.{failed}

-- The body is given as the frame that it is behind this type, which breaks no rule. The places in its words count from
-- the body's front, where it ends among them; only an ACK fills entries.
pub record ShowsBody (rules : Rules) (type : ℕ) (body : List ℕ) (before : List CGap) (stop : ℕ) (words : CFrame)
    (after : List CGap) : Type 0 where
  pub frame : Frame
  pub rest : List ℕ
  pub reads : ReadsBody rules.short_types type body frame rest
  pub kept : Keeps rules reads.finds.found
  pub ends : stop + length rest ≡ length body
  pub shows : ShowsFront stop type frame before words after

-- What a call for the body of a frame of this type returns and leaves: where it ends, with its words; that the number
-- is no type, and nothing changes; or the reason why the body isn't given, with the type, and no entry changes. That is
-- the reason why no frame is given from a payload of the type and these bytes.
pub record AnswersBody (rules : Rules) (type : ℕ) (body : List ℕ) (before : CFrame) (room : List CGap) (result : ℤ)
    (after : CFrame) (gaps : List CGap) : Type 0 where
  pub returns : (result ≡ failed failure.Number) ⊎ ReportsNone rules (with_type type body) result after
      ⊎ ((stop : ℕ) × (result ≡ pos stop) × ShowsBody rules type body room stop after gaps)
  pub number : (result ≡ failed failure.Number) ↔ (2 ^ 62 ≤ type)
  pub same : result ≡ failed failure.Number → after ≡ before
  pub kept : ((stop : ℕ) × (result ≡ pos stop)) ⊎ (gaps ≡ room)
