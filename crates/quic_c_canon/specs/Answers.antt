-- What the call returns that writes the shortest payload of a meaning.
use Rattle.std.specs.Prelude.{◌≡◌, ◌≢◌, ℕ, ℤ, ◌-◌, ◌<◌, ◌^◌, List, [], ◌++◌, length, map, drop, Option, None, Some, false}
use Rattle.quic_frame_fields.specs.declared.frame.fault.Fault.{Fault}
use Rattle.quic_frame_fields.specs.Payload.{TypedFrame, AreFrames, IsBroken}
use Rattle.quic_frame_fields.specs.Reading.{Invalid, invalid}
use Rattle.quic_frames.specs.Least.{frame_in, shortest_frames}
use Rattle.quic_frames.specs.Rules.{Checked, IsCheckedOf}
use Rattle.quic_frames.specs.declared.frame.rules.Rules.{Rules}
use Rattle.quic_canon.specs.Least.{IsLeast}
use Rattle.quic_c_canon.specs.declared.words.CCanon.{CCanon}
use Rattle.quic_results.specs.Results.{failed, frame_failure}

-- the number of a type, as C sees it
abbrev pub type_word : Option ℕ → ℕ
type_word None = 2 ^ 64 - 1
type_word (Some n) = n

-- The shortest payload of the meaning was written at the front, the bytes after it didn't change, and its length was
-- reported.
pub record GivesLeastLen (payload before after : List ℕ) (old new : CCanon) : Type 0 where
  pub least : List ℕ
  pub is_least : IsLeast least payload
  pub front : after ≡ least ++ drop (length least) before
  pub words : new ≡ record old { len = length least }

-- There is less room than the least payload of the meaning needs, and how much that is was reported.
pub record LeastNeedsMore (payload before : List ℕ) (old new : CCanon) : Type 0 where
  pub least : List ℕ
  pub is_least : IsLeast least payload
  pub full : length before < length least
  pub words : new ≡ record old { len = length least }

-- Frames and then an invalid one: the type and the reason that reading reports for it.
pub record IsReportedOf (payload : List ℕ) (reported : Invalid) : Type 0 where
  pub found : List TypedFrame
  pub type : Option ℕ
  pub reason : Fault
  pub broken : IsBroken false None found payload type reason
  pub reported_is : reported ≡ invalid type reason

-- Something in the payload isn't a frame, and that is returned, with the type.
pub record ReportsInvalidPayload (payload : List ℕ) (old : CCanon) (result : ℤ) (new : CCanon) : Type 0 where
  pub reported : Invalid
  pub of_it : IsReportedOf payload reported
  pub reason : result ≡ failed (frame_failure reported.reason)
  pub words : new ≡ record old { last_type = type_word reported.type }

-- The payload has an error under these rules, and that is returned, with the type.
pub record ReportsInvalidBy (rules : Rules) (payload : List ℕ) (old : CCanon) (result : ℤ) (new : CCanon) : Type 0 where
  pub checked : Checked
  pub reads : IsCheckedOf rules payload checked
  pub reported : Invalid
  pub error : checked.error ≡ Some reported
  pub reason : result ≡ failed (frame_failure reported.reason)
  pub words : new ≡ record old { last_type = type_word reported.type }

-- The payload has frames and nothing else, and their shortest encodings have n bytes.
pub record HasLength (payload : List ℕ) (n : ℕ) : Type 0 where
  pub some : payload ≢ []
  pub found : List TypedFrame
  pub encoded : AreFrames false found payload
  pub len : n ≡ length (shortest_frames (map frame_in found))
