-- A datagram that is one packet.
use Rattle.std.specs.Prelude.{◌≡◌, ◌≢◌, ℕ, ◌<◌, List, [], ◌∷◌, ◌++◌, length, map, Ok, Err, nat_eq}
use Rattle.std.proofs.Common.{sym, ap, subst, ◌∙◌, arith, refl, true, append-nil}
use Rattle.std.specs.Cmp.Lexicographic.{pointwise}
use Rattle.std.proofs.lemmas.Bool.Decides.{nat_tests}
use Rattle.quic_canon.specs.Bytes.{canon_bytes, GivesLeast}
use Rattle.quic_canon.specs.Least.{IsLeast}
use Rattle.quic_canon.specs.declared.canonical.CanonBytes.{CanonBytes}
use Rattle.quic_canon.specs.declared.canonical.CanonBytes.TheVariants.{Same, Rewritten}
use Rattle.quic_frames.specs.Meaning.{meaning_of}
use Rattle.quic_frames.specs.Written.{IsPayload}
use Rattle.quic_frames.specs.declared.frame.Frame.{Frame}
use Rattle.quic_header_encode.specs.declared.header.Header.{Header}
use Rattle.quic_packets.specs.declared.opening.Opened.{Opened}
use Rattle.quic_packets.specs.Pairs.{KeyPair}
use Rattle.quic_packets.specs.declared.opening.OpenError.{OpenError}
use Rattle.quic_packets.specs.declared.opening.OpenError.TheVariants as error
use Rattle.quic_packets.specs.Opening.{AreReturned, DatagramAnswer, Opening, SealedRow, last, packet_of, returned_by}
use Rattle.quic_packets.specs.Sealing.{IsAppended, SealedFrames}
use Rattle.quic_packets.proofs.Sealings.{SealedOf}
use Rattle.quic_bench.specs.Outgoing.{Carries, IsFoundAgain}
use Rattle.quic_bench.proofs.Carried.{IsSealed, begins, carries_same, contents_of}
use Rattle.quic_bench.specs.declared.two_packets.Outgoing.{Outgoing}

one_opened : (opening : Opening) (packet : Outgoing) (payload : List ℕ) (old new added : List Opened)
    → IsPayload packet.frames.now payload
    → AreReturned opening (contents_of packet payload ∷ []) added → new ≡ old ++ added
    → (opened : Opened) × (new ≡ old ++ (opened ∷ [])) × Carries opened packet
one_opened opening packet payload old new [] is are appended = absurd cc
one_opened opening packet payload old new (opened ∷ []) is are appended =
    let same : packet_of opened ≡ returned_by opening (contents_of packet payload) = cc in
    (opened, appended, carries_same opening packet payload opened is same)
one_opened opening packet payload old new (opened ∷ other ∷ others) is are appended = absurd cc

-- a datagram of one sealed packet
row_of_one : (opening : Opening) (packet : Outgoing) (bytes : List ℕ) → (s : IsSealed opening packet bytes)
    → IsFoundAgain opening packet []
    → SealedRow opening (contents_of packet s.payload ∷ []) bytes
row_of_one opening packet bytes s found =
    last (contents_of packet s.payload) bytes (begins opening packet bytes bytes [] s found (sym (append-nil bytes)))

-- what is given of it is that packet
pub opened_one : {X : Type 0} {opening : Opening} {bytes : List ℕ} {x : X} {old new : List Opened}
    → DatagramAnswer opening bytes (Ok x) old new
    → (packet : Outgoing) (sealed : List ℕ)
    → IsSealed opening packet sealed → IsFoundAgain opening packet [] → bytes ≡ sealed
    → (opened : Opened) × (new ≡ old ++ (opened ∷ [])) × Carries opened packet
opened_one {X} {opening} {bytes} {x} {old} {new} answer packet sealed s found is =
    let back =
    answer.sealed (contents_of packet s.payload ∷ []) (subst (SealedRow opening (contents_of packet s.payload ∷ []))
    (sym is) (row_of_one opening packet sealed s found)) in
    one_opened opening packet s.payload old new back.0 s.is_payload back.1 back.2

pub one_refused : {X : Type 0} {opening : Opening} {bytes : List ℕ} {e : OpenError} {old new : List Opened}
    → DatagramAnswer {X = X} opening bytes (Err e) old new → (packet : Outgoing) (sealed : List ℕ)
    → IsSealed opening packet sealed → IsFoundAgain opening packet [] → bytes ≡ sealed → e ≡ error.OutOfMemory
one_refused {X} {opening} {bytes} {e} {old} {new} answer packet sealed s found is =
    (answer.sealed (contents_of packet s.payload ∷ []) (subst (SealedRow opening (contents_of packet s.payload ∷ []))
    (sym is) (row_of_one opening packet sealed s found))).0

-- a packet that was sealed twice
pub sealed_same : (keys : KeyPair) (h : Header) (n : ℕ) (frames : List Frame) (one other : List ℕ)
    → ((payload : List ℕ) (a b : List ℕ) → SealedOf keys h n payload a → SealedOf keys h n payload b → a ≡ b)
    → ((a b : List ℕ) → IsPayload frames a → IsPayload frames b → a ≡ b)
    → (before before' : List ℕ) → before ≡ before' → IsAppended (SealedFrames keys h n frames) before one
    → IsAppended (SealedFrames keys h n frames) before' other → one ≡ other
sealed_same keys h n frames one other packets payloads before before' start a b =
    let first = a.1 in
    let second = b.1 in
    let payload : first.payload ≡ second.payload =
    payloads first.payload second.payload first.is_payload second.is_payload in
    let P : List ℕ → Type 0 = λ x. SealedOf keys h n x a.0 in
    let packet : a.0 ≡ b.0 = packets second.payload a.0 b.0 (subst P payload first.sealed) second.sealed in
    a.2 ∙ ap (λ x. x ++ a.0) start ∙ ap (λ x. before' ++ x) packet ∙ sym b.2

-- if there are some, there are not none
pub are_some : (frames : List Frame) → 0 < length frames → map meaning_of frames ≢ []
are_some [] some = absurd (omega (arith, some))
are_some (frame ∷ frames) some = λ none. cc

same_number : (n : ℕ) → nat_eq n n ≡ true
same_number n = grind (arith, nat_tests)

bytes_same : (bytes : List ℕ) → pointwise nat_eq bytes bytes ≡ true
bytes_same [] = refl
bytes_same (b ∷ bytes) = rw (same_number b, bytes_same bytes) refl

-- `==` returns true for equal bytes
pub reported_same : (some others x y : List ℕ) → x ≡ some → y ≡ others → some ≡ others → pointwise nat_eq x y ≡ true
reported_same some others x y is is' same =
    ap (λ (z : List ℕ). pointwise nat_eq z y) (is ∙ same ∙ sym is') ∙ bytes_same y

-- what is canonical is given as it is
pub canonical_same : (payload : List ℕ) (bytes : CanonBytes) → GivesLeast payload bytes → IsLeast payload payload
    → ((one other payload : List ℕ) → IsLeast one payload → IsLeast other payload → one ≡ other)
    → canon_bytes bytes ≡ payload
canonical_same payload (Same b) gives least unique = gives.0
canonical_same payload (Rewritten b) gives least unique = unique b.items payload payload gives.0 least
