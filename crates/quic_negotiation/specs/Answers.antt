-- The answer to a packet of a version that isn't supported (RFC 8999, section 6; RFC 9000, section 6.1).
use Rattle.std.specs.Prelude.{◌≡◌, ◌≢◌, ℕ, ◌%◌, List, [], slice_index}
use Rattle.quic_header_decode.specs.Places.{AnyVersion}
use Rattle.quic_versions.specs.Versions.{AreVersions}

-- The packet is a Version Negotiation packet, which has version 0, and then versions and no other bytes. Its receiver's
-- id is the sender's of the packet that was received, and its sender's id is that packet's receiver's. The seven low
-- bits of its first byte are free.
pub record IsAnswer (first : ℕ) (versions received packet : List ℕ) : Type 0 where
  pub version : ℕ
  pub dst : List ℕ
  pub src : List ℕ
  pub rest : List ℕ
  pub list : List ℕ
  pub answered : AnyVersion received version dst src rest
  pub other : version ≢ 0
  pub negotiation : AnyVersion packet 0 src dst list
  pub listed : AreVersions versions list
  pub some : versions ≢ []
  pub bits : slice_index packet 0 % 0x80 ≡ first % 0x80
