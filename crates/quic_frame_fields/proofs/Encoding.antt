-- The shortest encodings of frames, cut where their encoders cut them.
use Rattle.std.proofs.Common.{◌≡◌, ℕ, Bool, true, false, List, [], ◌∷◌, ◌++◌, length, refl, sym, ap, ◌∙◌, append_assoc, ◌+◌, ◌-◌, max, ◌≤◌, take, min, arith}
use Rattle.std.proofs.lemmas.Bool.Decides.{nat_tests}
use Rattle.std.proofs.lemmas.List.{append-nil, length-append, take_min, length-take}
use Rattle.quic_base.specs.Varint.{shortest_varint, size}
use Rattle.quic_base.proofs.PublicLaws.{length-short}
use Rattle.quic_frame_fields.specs.Field.{Number, Bytes}
use Rattle.quic_frame_fields.specs.Table.{Crypto, NewToken, NewConnectionId, ConnectionClose, ApplicationClose, Datagram}
use Rattle.quic_frame_fields.specs.Parts.{frame_of}
use Rattle.quic_frame_fields.specs.Shortest.{shortest_frame, least_room, close_in}
use Rattle.quic_errors.specs.Types.{type_or_zero}
use Rattle.quic_frame_fields.specs.declared.frame.close.Close.{Close}
use Rattle.quic_frame_fields.specs.declared.frame.close.Close.TheVariants as closes
use Rattle.quic_frame_fields.specs.Numbers.{shortest_varints}

-- numbers, each before what follows it
abbrev short_then : List ℕ → List ℕ → List ℕ
short_then [] tail = tail
short_then (n ∷ ns) tail = shortest_varint n ++ short_then ns tail

in_front : (ns tail : List ℕ) → short_then ns tail ≡ shortest_varints ns ++ tail
in_front [] tail = refl
in_front (n ∷ ns) tail =
    ap (λ (k : List ℕ). shortest_varint n ++ k) (in_front ns tail)
    ∙ sym (append_assoc (shortest_varint n) (shortest_varints ns) tail)

-- numbers and then counted bytes
counted : (ns bytes : List ℕ) (n : ℕ)
    → short_then ns ((shortest_varint n ++ bytes) ++ []) ≡ shortest_varints (ns ++ (n ∷ [])) ++ bytes
counted [] bytes n =
    append-nil (shortest_varint n ++ bytes) ∙ ap (λ (k : List ℕ). k ++ bytes) (sym (append-nil (shortest_varint n)))
counted (m ∷ ns) bytes n =
    ap (λ (k : List ℕ). shortest_varint m ++ k) (counted ns bytes n)
    ∙ sym (append_assoc (shortest_varint m) (shortest_varints (ns ++ (n ∷ []))) bytes)

pub token_parts : (last : Bool) (bytes : List ℕ)
    → shortest_frame last (frame_of NewToken (Bytes bytes ∷ [])) ≡ shortest_varints (0x07 ∷ length bytes ∷ []) ++ bytes
unfolding shortest_frame
token_parts last bytes = counted (0x07 ∷ []) bytes (length bytes)

pub crypto_parts : (last : Bool) (offset : ℕ) (bytes : List ℕ)
    → shortest_frame last (frame_of Crypto (Number offset ∷ Bytes bytes ∷ []))
    ≡ shortest_varints (0x06 ∷ offset ∷ length bytes ∷ []) ++ bytes
unfolding shortest_frame
crypto_parts last offset bytes = counted (0x06 ∷ offset ∷ []) bytes (length bytes)

pub connection_close_parts : (last : Bool) (code ty : ℕ) (bytes : List ℕ)
    → shortest_frame last (frame_of ConnectionClose (Number code ∷ Number ty ∷ Bytes bytes ∷ []))
    ≡ shortest_varints (0x1c ∷ code ∷ ty ∷ length bytes ∷ []) ++ bytes
unfolding shortest_frame
connection_close_parts last code ty bytes = counted (0x1c ∷ code ∷ ty ∷ []) bytes (length bytes)

pub application_close_parts : (last : Bool) (code : ℕ) (bytes : List ℕ)
    → shortest_frame last (frame_of ApplicationClose (Number code ∷ Bytes bytes ∷ []))
    ≡ shortest_varints (0x1d ∷ code ∷ length bytes ∷ []) ++ bytes
unfolding shortest_frame
application_close_parts last code bytes = counted (0x1d ∷ code ∷ []) bytes (length bytes)

pub id_parts : (last : Bool) (sequence retire : ℕ) (id token : List ℕ)
    → shortest_frame last (frame_of NewConnectionId (Number sequence ∷ Number retire ∷ Bytes id ∷ Bytes token ∷ []))
    ≡ shortest_varints (0x18 ∷ sequence ∷ retire ∷ []) ++ ((length id ∷ id) ++ token)
unfolding shortest_frame
id_parts last sequence retire id token =
    in_front (0x18 ∷ sequence ∷ retire ∷ []) ((length id ∷ id) ++ (token ++ []))
    ∙ ap (λ (k : List ℕ). shortest_varints (0x18 ∷ sequence ∷ retire ∷ []) ++ ((length id ∷ id) ++ k)) (append-nil token)

pub datagram_counted : (bytes : List ℕ) → shortest_frame false (frame_of Datagram (Bytes bytes ∷ []))
    ≡ shortest_varints (0x31 ∷ length bytes ∷ []) ++ bytes
unfolding shortest_frame
datagram_counted bytes = counted (0x31 ∷ []) bytes (length bytes)

pub datagram_open : (bytes : List ℕ) → shortest_frame true (frame_of Datagram (Bytes bytes ∷ [])) ≡ shortest_varints (0x30 ∷ []) ++ bytes
unfolding shortest_frame
datagram_open bytes =
    in_front (0x30 ∷ []) (bytes ++ []) ∙ ap (λ (k : List ℕ). shortest_varints (0x30 ∷ []) ++ k) (append-nil bytes)

-- ---- sizes

pub token_length : (last : Bool) (bytes : List ℕ)
    → length (shortest_frame last (frame_of NewToken (Bytes bytes ∷ []))) ≡ 1 + size (length bytes) + length bytes
unfolding size
token_length last bytes =
    let parts = ap length (token_parts last bytes) in
    let one = length-append (shortest_varints (0x07 ∷ length bytes ∷ [])) bytes in
    let two = length-append (shortest_varint 0x07) (shortest_varint (length bytes) ++ []) in
    let three = length-append (shortest_varint (length bytes)) [] in
    let first : length (shortest_varint 0x07) ≡ 1 = length-short 0x07 in
    omega (arith, parts, one, two, three, first, length-short (length bytes))

-- ---- the first bytes of a list

pub cut_is : (n : ℕ) (bytes : List ℕ) → take (min (length bytes) n) bytes ≡ take n bytes
cut_is n bytes =
    let turned : min (length bytes) n ≡ min n (length bytes) = omega arith in
    ap (λ (k : ℕ). take k bytes) turned ∙ take_min n bytes

pub cut_short : (n : ℕ) (bytes : List ℕ) → length (take n bytes) ≤ length bytes
cut_short n bytes = omega (arith, length-take n bytes)

-- ---- a close fits in its room

size_grows : (m n : ℕ) → m ≤ n → size m ≤ size n
unfolding size
size_grows m n le = grind (arith, nat_tests)

fits : (room least n total : ℕ) (reason : List ℕ) → n ≡ room - least → least ≤ room
    → total + size (length (take n reason)) + length (take n reason) ≤ total + size (length reason) + n
fits room least n total reason e le =
    let most : length (take n reason) ≤ n = omega (arith, length-take n reason) in
    omega (arith, most, size_grows (length (take n reason)) (length reason) (cut_short n reason))

pub connection_close_fits : (last : Bool) (room code ty : ℕ) (reason : List ℕ)
    → 1 + max 2 (size code) + size ty + size (length reason) ≤ room
    → length (shortest_frame last (frame_of ConnectionClose (Number code ∷ Number ty
    ∷ Bytes (take (room - (1 + max 2 (size code) + size ty + size (length reason))) reason) ∷ []))) ≤ room
unfolding size
connection_close_fits last room code ty reason le =
    let least = 1 + max 2 (size code) + size ty + size (length reason) in
    let n = room - least in
    let kept = take n reason in
    let parts = ap length (connection_close_parts last code ty kept) in
    let one = length-append (shortest_varints (0x1c ∷ code ∷ ty ∷ length kept ∷ [])) kept in
    let two =
    length-append (shortest_varint 0x1c) (shortest_varint code ++ (shortest_varint ty ++ (shortest_varint (length kept) ++ []))) in
    let three = length-append (shortest_varint code) (shortest_varint ty ++ (shortest_varint (length kept) ++ [])) in
    let four = length-append (shortest_varint ty) (shortest_varint (length kept) ++ []) in
    let five = length-append (shortest_varint (length kept)) [] in
    let first : length (shortest_varint 0x1c) ≡ 1 = length-short 0x1c in
    let enough = fits room least n (1 + size code + size ty) reason refl le in
    omega (arith, parts, one, two, three, four, five, first, length-short code, length-short ty, length-short (length kept), enough, le)

pub application_close_fits : (last : Bool) (room code : ℕ) (reason : List ℕ)
    → 1 + max 2 (size code) + size (length reason) ≤ room
    → length (shortest_frame last (frame_of ApplicationClose
    (Number code ∷ Bytes (take (room - (1 + max 2 (size code) + size (length reason))) reason) ∷ []))) ≤ room
unfolding size
application_close_fits last room code reason le =
    let least = 1 + max 2 (size code) + size (length reason) in
    let n = room - least in
    let kept = take n reason in
    let parts = ap length (application_close_parts last code kept) in
    let one = length-append (shortest_varints (0x1d ∷ code ∷ length kept ∷ [])) kept in
    let two = length-append (shortest_varint 0x1d) (shortest_varint code ++ (shortest_varint (length kept) ++ [])) in
    let three = length-append (shortest_varint code) (shortest_varint (length kept) ++ []) in
    let four = length-append (shortest_varint (length kept)) [] in
    let first : length (shortest_varint 0x1d) ≡ 1 = length-short 0x1d in
    let enough = fits room least n (1 + size code) reason refl le in
    omega (arith, parts, one, two, three, four, first, length-short code, length-short (length kept), enough, le)

pub close_fits : (last : Bool) (room : ℕ) (c : Close) → least_room c ≤ room
    → length (shortest_frame last (close_in room c)) ≤ room
close_fits last room (closes.Connection c) le =
    connection_close_fits last room c.error_code (type_or_zero c.frame_type) c.reason.now le
close_fits last room (closes.Application c) le = application_close_fits last room c.error_code c.reason.now le

pub datagram_counted_length : (bytes : List ℕ) → length (shortest_frame false (frame_of Datagram (Bytes bytes ∷ [])))
    ≡ length (shortest_varints (0x31 ∷ length bytes ∷ [])) + length bytes
datagram_counted_length bytes =
    ap length (datagram_counted bytes) ∙ length-append (shortest_varints (0x31 ∷ length bytes ∷ [])) bytes

pub datagram_open_length : (bytes : List ℕ) → length (shortest_frame true (frame_of Datagram (Bytes bytes ∷ [])))
    ≡ length (shortest_varints (0x30 ∷ [])) + length bytes
datagram_open_length bytes = ap length (datagram_open bytes) ∙ length-append (shortest_varints (0x30 ∷ [])) bytes
