-- A header, frames and room for a tag that were written and sealed are a sealed packet.
use Rattle.std.specs.Prelude.{◌≡◌, ℕ, ◌+◌, ◌-◌, ◌<◌, ◌≤◌, ◌^◌, Bool, IsTrue, List, ◌++◌, length, take, drop, Option, Some, None, slice_range, replicate, IfSome}
use Rattle.std.proofs.Common.{sym, ap, ◌∙◌, arith, refl, subst, length-append, append_assoc}
use Rattle.quic_base.proofs.PublicLaws.{length-bytes_of}
use Rattle.std.proofs.Math.ListN.{length-replicate}
use Rattle.std.proofs.lemmas.Slice.{between_is}
use Rattle.quic_base.specs.Number.{AreBytes, bytes_of}
use Rattle.quic_crypto.specs.Keys.{payload_in}
use Rattle.quic_crypto.specs.declared.packet_number.PacketNumber.{PacketNumber}
use Rattle.quic_crypto.specs.PacketNumbers.{number_size, number_bytes, low_part}
use Rattle.quic_header_encode.specs.declared.header.Header.{Header}
use Rattle.quic_header_encode.specs.declared.header.Header.TheVariants as header
use Rattle.quic_header_encode.specs.Types.{first_byte}
use Rattle.quic_header_encode.specs.declared.long_type.LongHeaderType.{LongHeaderType}
use Rattle.quic_header_encode.specs.Writing.{header_with, header_bytes, header_size, no_length, place_in, size_in, has_length, has_number, with_length, sealed_packet}
use Rattle.quic_packets.specs.Pairs.{KeyPair}
use Rattle.quic_packets.specs.Sealing.{IsLowPart, Sealed, plain_packet, sealed_header, protected_len}
use Rattle.quic_header_decode.proofs.Steps.{take_front, drop_front}
use Rattle.quic_header_encode.proofs.Later.{filled, front_of}

-- a sealed packet, and the packet before its header is protected, by their parts
abbrev pub SealedOf : KeyPair → Header → ℕ → List ℕ → List ℕ → Type 0
SealedOf keys h n payload bytes = Sealed keys (record { header = h; number = n; payload = payload }) bytes

abbrev pub plain_of : KeyPair → Header → ℕ → List ℕ → List ℕ
plain_of keys h n payload = plain_packet keys (record { header = h; number = n; payload = payload })

-- a header whose number is known to be a low part has one
pub low_numbered : (h : Header) (n : ℕ) → IsLowPart h n → IsTrue (has_number h)
low_numbered (header.Initial h) n low = refl
low_numbered (header.Long ty dst src number version) n low = refl
low_numbered (header.Retry dst src version) n low = absurd low
low_numbered (header.Short spin key_phase dst number) n low = refl
low_numbered (header.VersionNegotiate random src dst) n low = absurd low

pub place_is : (h : Header) → IsTrue (has_number h) → place_in h ≡ Some (size_in h, has_length h)
place_is (header.Initial h) e = refl
place_is (header.Long ty dst src number version) e = refl
place_is (header.Retry dst src version) e = absurd cc
place_is (header.Short spin key_phase dst number) e = refl
place_is (header.VersionNegotiate random src dst) e = absurd cc

pub if_some : {A : Type 0} (P : A → Type 0) (o : Option A) (x : A) → o ≡ Some x → IfSome o P → P x
if_some P (Some y) x e h = let same : y ≡ x = cc in subst P same h
if_some P None x e h = absurd cc

pub some_if : {A : Type 0} (P : A → Type 0) (o : Option A) (x : A) → o ≡ Some x → P x → IfSome o P
some_if P (Some y) x e h = let same : x ≡ y = cc in subst P same h
some_if P None x e h = absurd cc

pub number_length : (number : PacketNumber) → length (number_bytes number) ≡ number_size number
number_length number = length-bytes_of (number_size number) (low_part number)

-- the first byte of a long header with a number of that many bytes
abbrev pub long_first : ℕ → LongHeaderType → ℕ → ℕ
long_first version ty count = first_byte version ty + (count - 1)

-- where a header's number is
pub front_length : (h : Header) → IsTrue (has_length h) → header_size h ≡ length (front_of h) + 2 + size_in h
front_length (header.Initial h) e =
    omega (arith, length-append (front_of (header.Initial h)) (no_length ++ number_bytes h.number), number_length h.number)
front_length (header.Long ty dst src number version) e =
    omega (
      arith,
      length-append (front_of (header.Long ty dst src number version)) (no_length ++ number_bytes number),
      number_length number,
    )
front_length (header.Retry dst src version) e = absurd cc
front_length (header.Short spin key_phase dst number) e = absurd cc
front_length (header.VersionNegotiate random src dst) e = absurd cc

pub header_length : (h : Header) (len : List ℕ) → IsTrue (has_number h) → length len ≡ 2
    → length (header_with len h) ≡ header_size h
header_length (header.Initial h) len e two =
    omega (
      arith,
      front_length (header.Initial h) refl,
      length-append (front_of (header.Initial h)) (len ++ number_bytes h.number),
      length-append len (number_bytes h.number),
      number_length h.number,
    )
header_length (header.Long ty dst src number version) len e two =
    omega (
      arith,
      front_length (header.Long ty dst src number version) refl,
      length-append (front_of (header.Long ty dst src number version)) (len ++ number_bytes number),
      length-append len (number_bytes number),
      number_length number,
    )
header_length (header.Retry dst src version) len e two = absurd cc
header_length (header.Short spin key_phase dst number) len e two = refl
header_length (header.VersionNegotiate random src dst) len e two = absurd cc

filled_in : (h : Header) (tail : List ℕ) → IsTrue (has_number h)
    → with_length (size_in h) (has_length h) (header_size h) (header_bytes h ++ tail)
    ≡ header_with (bytes_of 2 (2 ^ 14 + (length (header_bytes h ++ tail) - (header_size h - size_in h)))) h ++ tail
filled_in (header.Initial h) tail e =
    filled (front_of (header.Initial h)) no_length (number_bytes h.number) tail
    (bytes_of 2 (2 ^ 14 + (length (header_bytes (header.Initial h) ++ tail)
    - (header_size (header.Initial h) - number_size h.number))))
    2 (header_size (header.Initial h) - number_size h.number) refl (omega (arith, front_length (header.Initial h) refl))
filled_in (header.Long ty dst src number version) tail e =
    filled (front_of (header.Long ty dst src number version)) no_length (number_bytes number) tail
    (bytes_of 2 (2 ^ 14 + (length (header_bytes (header.Long ty dst src number version) ++ tail)
    - (header_size (header.Long ty dst src number version) - number_size number))))
    2 (header_size (header.Long ty dst src number version) - number_size number) refl
    (omega (arith, front_length (header.Long ty dst src number version) refl))
filled_in (header.Retry dst src version) tail e = absurd cc
filled_in (header.Short spin key_phase dst number) tail e = refl
filled_in (header.VersionNegotiate random src dst) tail e = absurd cc

-- the middle of three parts
pub middle : (head payload room : List ℕ) (i j : ℕ) → i ≡ length head → j ≡ length head + length payload
    → slice_range (head ++ (payload ++ room)) i j ≡ payload
middle head payload room i j from to =
    between_is (head ++ (payload ++ room)) i j
    ∙ ap (drop i) (ap (take j) (sym (append_assoc head payload room))
    ∙ take_front (head ++ payload) room j (omega (arith, length-append head payload)))
    ∙ drop_front head payload i (sym from)

sealed_parts : (seal : List ℕ → List ℕ → List ℕ) (head payload room : List ℕ) (header_len tag : ℕ)
    → length head ≡ header_len → length room ≡ tag
    → sealed_packet header_len (Some (tag, seal)) (head ++ (payload ++ room)) ≡ head ++ seal head payload
sealed_parts seal head payload room header_len tag header_is room_is =
    let front : take header_len (head ++ (payload ++ room)) ≡ head =
    take_front head (payload ++ room) header_len header_is in
    let inner : payload_in header_len tag (head ++ (payload ++ room)) ≡ payload =
    middle head payload room header_len (length (head ++ (payload ++ room)) - tag) (sym header_is)
    (omega (arith, length-append head (payload ++ room), length-append payload room)) in
    ap (λ (xs : List ℕ). xs ++ seal xs (payload_in header_len tag (head ++ (payload ++ room)))) front
    ∙ ap (λ (xs : List ℕ). head ++ seal head xs) inner

pub size_within : (h : Header) → size_in h ≤ header_size h
size_within (header.Initial h) = omega (arith, front_length (header.Initial h) refl)
size_within (header.Long ty dst src number version) =
    omega (arith, front_length (header.Long ty dst src number version) refl)
size_within (header.Retry dst src version) = omega arith
size_within (header.Short spin key_phase dst number) =
    omega (arith, length-append dst (number_bytes number), number_length number)
size_within (header.VersionNegotiate random src dst) = omega arith

-- the first byte is before the number, and a length between them
pub number_before : (h : Header) → IsTrue (has_number h) → size_in h < header_size h
number_before (header.Initial h) e = omega (arith, front_length (header.Initial h) refl)
number_before (header.Long ty dst src number version) e =
    omega (arith, front_length (header.Long ty dst src number version) refl)
number_before (header.Retry dst src version) e = absurd cc
number_before (header.Short spin key_phase dst number) e =
    omega (arith, length-append dst (number_bytes number), number_length number)
number_before (header.VersionNegotiate random src dst) e = absurd cc

pub length_before : (h : Header) → IsTrue (has_length h) → size_in h + 2 ≤ header_size h
length_before h e = omega (arith, front_length h e)

counted : (whole head size payload tag : ℕ) → size ≤ head → whole ≡ head + (payload + tag)
    → whole - (head - size) ≡ size + payload + tag
counted whole head size payload tag le sum = omega arith

-- the bytes written after a header become the sealed packet
pub packet_sealed : (seal : List ℕ → List ℕ → List ℕ) (h : Header) (payload : List ℕ) (tag : ℕ) → IsTrue (has_number h)
    → sealed_packet (header_size h) (Some (tag, seal)) (with_length (size_in h) (has_length h) (header_size h)
    (header_bytes h ++ (payload ++ replicate tag 0)))
    ≡ sealed_header tag h payload ++ seal (sealed_header tag h payload) payload
packet_sealed seal h payload tag e =
    let tail : List ℕ = payload ++ replicate tag 0 in
    let room : length (replicate tag 0) ≡ tag = length-replicate {A = ℕ} tag 0 in
    let size : size_in h ≤ header_size h = size_within h in
    let count : length (header_bytes h ++ tail) - (header_size h - size_in h) ≡ protected_len tag h payload =
    counted (length (header_bytes h ++ tail)) (header_size h) (size_in h) (length payload) tag size
    (length-append (header_bytes h) tail ∙ ap (λ (n : ℕ). n + length tail) (header_length h no_length e refl)
    ∙ ap (λ (n : ℕ). header_size h + n) (length-append payload (replicate tag 0) ∙ ap (λ (n : ℕ). length payload + n) room)) in
    ap (sealed_packet (header_size h) (Some (tag, seal))) (filled_in h tail e
    ∙ ap (λ (n : ℕ). header_with (bytes_of 2 (2 ^ 14 + n)) h ++ tail) count)
    ∙ sealed_parts seal (sealed_header tag h payload) payload (replicate tag 0) (header_size h) tag
    (header_length h (bytes_of 2 (2 ^ 14 + protected_len tag h payload)) e
    (length-bytes_of 2 (2 ^ 14 + protected_len tag h payload))) room

-- the same, at the end of a buffer
pub sealed_end : (keys : KeyPair) (h : Header) (n : ℕ) (payload before old new : List ℕ) (start header_len : ℕ) (pn : Option (ℕ × Bool))
    → IsTrue (has_number h) → pn ≡ place_in h
    → header_len ≡ header_size h → start ≡ length before
    → old ≡ before ++ (header_bytes h ++ (payload ++ replicate keys.tag_size 0))
    → IfSome pn (λ p. new ≡ take start old ++ keys.protected (header_len - p.0)
    (sealed_packet header_len (Some (keys.tag_size, keys.sealed n))
    (with_length p.0 p.1 header_len (drop start old))))
    → IfSome pn (λ p. AreBytes (sealed_packet header_len (Some (keys.tag_size, keys.sealed n))
    (with_length p.0 p.1 header_len (drop start old))))
    → (new ≡ before ++ keys.protected (header_size h - size_in h) (plain_of keys h n payload)) × AreBytes (plain_of keys h n payload)
sealed_end keys h n payload before old new start header_len pn numbered pn_is len_is start_is old_is text fits =
    let written : List ℕ = header_bytes h ++ (payload ++ replicate keys.tag_size 0) in
    let seal : Option (ℕ × (List ℕ → List ℕ → List ℕ)) = Some (keys.tag_size, keys.sealed n) in
    let place = pn_is ∙ place_is h numbered in
    let front : take start old ≡ before = ap (take start) old_is ∙ take_front before written start (sym start_is) in
    let back : drop start old ≡ written = ap (drop start) old_is ∙ drop_front before written start (sym start_is) in
    let whole : sealed_packet header_len seal (with_length (size_in h) (has_length h) header_len (drop start old))
    ≡ plain_of keys h n payload =
    ap (λ (len : ℕ). sealed_packet len seal (with_length (size_in h) (has_length h) len (drop start old))) len_is
    ∙ ap (λ (xs : List ℕ). sealed_packet (header_size h) seal (with_length (size_in h) (has_length h) (header_size h) xs)) back
    ∙ packet_sealed (keys.sealed n) h payload keys.tag_size numbered in
    let shown =
    if_some (λ p. new ≡ take start old ++ keys.protected (header_len - p.0)
    (sealed_packet header_len (Some (keys.tag_size, keys.sealed n))
    (with_length p.0 p.1 header_len (drop start old)))) pn (size_in h, has_length h) place text in
    let bytes = if_some (λ p. AreBytes (sealed_packet header_len (Some (keys.tag_size, keys.sealed n))
    (with_length p.0 p.1 header_len (drop start old)))) pn (size_in h, has_length h) place fits in (
      shown
          ∙ ap (λ (xs : List ℕ). xs ++ keys.protected (header_len - size_in h)
          (sealed_packet header_len seal (with_length (size_in h) (has_length h) header_len (drop start old)))) front
          ∙ ap (λ (xs : List ℕ). before ++ keys.protected (header_len - size_in h) xs) whole
          ∙ ap (λ (len : ℕ). before ++ keys.protected (len - size_in h) (plain_of keys h n payload)) len_is,
      subst AreBytes whole bytes,
    )
