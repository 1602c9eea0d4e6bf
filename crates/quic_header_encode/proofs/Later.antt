-- A length that is filled in later equals one that is written at once.
use Rattle.std.proofs.Common.{◌≡◌, ℕ, ◌+◌, ◌-◌, List, [], ◌++◌, length, take, drop, replicate, IsTrue, refl, sym, ap, ◌∙◌, append_assoc, arith, rules}
use Rattle.std.proofs.lemmas.List.{length-append, length-replicate, take_at, drop_at}
use Rattle.quic_base.specs.Varint.{encoding_in, shortest_varint}
use Rattle.quic_crypto.specs.declared.packet_number.PacketNumber.{PacketNumber}
use Rattle.quic_crypto.specs.PacketNumbers.{number_bytes, number_size}
use Rattle.quic_header_encode.proofs.Writings.{number_length}
use Rattle.quic_header_encode.specs.declared.header.Header.{Header}
use Rattle.quic_header_encode.specs.declared.header.Header.TheVariants as header
use Rattle.quic_header_encode.specs.Kinds.{fields_of, first_in}
use Rattle.quic_header_encode.specs.Kinds.{long_front}
use Rattle.quic_header_encode.specs.Writing.{begun_by, with_len}
use Rattle.quic_header_encode.specs.Writing.{has_length, header_bytes, header_size, header_with, size_in, with_length}

-- n elements of a list are overwritten
pub filled : (front zeros number tail len : List ℕ) (n at : ℕ) → length zeros ≡ n → at ≡ length front + n
    → take (at - n) ((front ++ (zeros ++ number)) ++ tail) ++ (len ++ drop at ((front ++ (zeros ++ number)) ++ tail))
    ≡ (front ++ (len ++ number)) ++ tail
filled front zeros number tail len n at width is =
    let shown : (front ++ (zeros ++ number)) ++ tail ≡ front ++ (zeros ++ (number ++ tail)) =
    append_assoc front (zeros ++ number) tail ∙ ap (λ (xs : List ℕ). front ++ xs) (append_assoc zeros number tail) in
    let before : take (at - n) ((front ++ (zeros ++ number)) ++ tail) ≡ front =
    ap (take (at - n)) shown ∙ take_at front (zeros ++ (number ++ tail)) (at - n) (omega arith) in
    let long : length (front ++ zeros) ≡ at = omega (arith, length-append front zeros) in
    let behind : drop at ((front ++ (zeros ++ number)) ++ tail) ≡ number ++ tail =
    ap (drop at) (shown ∙ sym (append_assoc front zeros (number ++ tail)))
    ∙ drop_at (front ++ zeros) (number ++ tail) at long in
    ap (λ (xs : List ℕ). xs ++ (len ++ drop at ((front ++ (zeros ++ number)) ++ tail))) before
    ∙ ap (λ (xs : List ℕ). front ++ (len ++ xs)) behind
    ∙ ap (λ (xs : List ℕ). front ++ xs) (sym (append_assoc len number tail))
    ∙ sym (append_assoc front (len ++ number) tail)

-- the same of a header, by the count of the bytes from its number on
filled_header : (front number body : List ℕ) (width size n : ℕ) → length number ≡ n
    → size ≡ length front + (width + n)
    → with_len width (size - n) ((front ++ (replicate width 0 ++ number)) ++ body)
    ≡ (front ++ (encoding_in width (n + length body) ++ number)) ++ body
filled_header front number body width size n counted whole =
    let bytes : List ℕ = (front ++ (replicate width 0 ++ number)) ++ body in
    let at : ℕ = size - n in
    let zeros : length (replicate width 0) ≡ width = length-replicate {A = ℕ} width 0 in
    let place : at ≡ length front + width = omega (arith, whole) in
    let count : length bytes - at ≡ n + length body =
    omega (
      arith,
      place,
      whole,
      counted,
      zeros,
      length-append (front ++ (replicate width 0 ++ number)) body,
      length-append front (replicate width 0 ++ number),
      length-append (replicate width 0) number,
    ) in
    ap (λ (k : ℕ). take (at - width) bytes ++ (encoding_in width k ++ drop at bytes)) count
    ∙ filled front (replicate width 0) number body (encoding_in width (n + length body)) width at zeros place

-- what a header has before its length and number is as long, whatever its first byte is
sizes : (front rest : List ℕ) (width n : ℕ) → length rest ≡ n
    → length (front ++ (replicate width 0 ++ rest)) ≡ length front + (width + n)
sizes front rest width n is =
    omega (
      arith,
      is,
      length-append front (replicate width 0 ++ rest),
      length-append (replicate width 0) rest,
      length-replicate {A = ℕ} width 0,
    )

-- what a header with a length has before it
abbrev pub front_of : Header → List ℕ
front_of (header.Initial h) =
    long_front (first_in (fields_of (header.Initial h))) h.version h.dst_cid h.src_cid
    ++ (shortest_varint (length h.token) ++ h.token)
front_of (header.Long ty dst src number version) =
    long_front (first_in (fields_of (header.Long ty dst src number version))) version dst src
front_of _ = []

-- the same with any first byte, of a header whose number is known
later : (front first_front body : List ℕ) (width : ℕ) (number : PacketNumber) → length first_front ≡ length front
    → with_len width (length (front ++ (replicate width 0 ++ number_bytes number)) - number_size number)
    ((first_front ++ (replicate width 0 ++ number_bytes number)) ++ body)
    ≡ (first_front ++ (encoding_in width (number_size number + length body) ++ number_bytes number)) ++ body
later front first_front body width number same =
    filled_header first_front (number_bytes number) body width
    (length (front ++ (replicate width 0 ++ number_bytes number))) (number_size number) (number_length number)
    (omega (arith, same, sizes front (number_bytes number) width (number_size number) (number_length number)))

pub set_later : (h : Header) (first width : ℕ) (body : List ℕ) → IsTrue (has_length h)
    → with_len width (length (header_with (replicate width 0) h) - size_in h) (begun_by first (header_with (replicate width 0) h) ++ body)
    ≡ begun_by first (header_with (encoding_in width (size_in h + length body)) h) ++ body
set_later (header.Initial h) first width body has =
    later (front_of (header.Initial h)) (begun_by first (front_of (header.Initial h))) body width h.number refl
set_later (header.Long ty dst src number version) first width body has =
    let front : List ℕ = front_of (header.Long ty dst src number version) in
    later front (begun_by first front) body width number refl
set_later (header.Retry dst src version) first width body has = absurd (search (rules, has))
set_later (header.Short spin key_phase dst number) first width body has = absurd (search (rules, has))
set_later (header.VersionNegotiate random src dst) first width body has = absurd (search (rules, has))

pub finished_later : (h : Header) (body : List ℕ) → IsTrue (has_length h)
    → with_length (size_in h) (has_length h) (header_size h) (header_bytes h ++ body)
    ≡ header_with (encoding_in 2 (size_in h + length body)) h ++ body
finished_later (header.Initial h) body has =
    later (front_of (header.Initial h)) (front_of (header.Initial h)) body 2 h.number refl
finished_later (header.Long ty dst src number version) body has =
    let front : List ℕ = front_of (header.Long ty dst src number version) in later front front body 2 number refl
finished_later (header.Retry dst src version) body has = absurd (search (rules, has))
finished_later (header.Short spin key_phase dst number) body has = absurd (search (rules, has))
finished_later (header.VersionNegotiate random src dst) body has = absurd (search (rules, has))
