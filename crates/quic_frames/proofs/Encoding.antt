-- The shortest encodings of whole frames. Those of the parts that frames hold are passed on.
use Rattle.std.proofs.Common.{◌≡◌, ℕ, Bool, true, false, List, [], ◌∷◌, ◌++◌, length, ap, ◌∙◌, append_assoc, ◌+◌, ◌<◌, ◌≤◌, arith, eqb, refl}
use Rattle.std.proofs.lemmas.Bool.Decides.{nat_tests}
use Rattle.std.specs.Prelude.{if◌then◌else◌}
use Rattle.std.proofs.lemmas.List.{append-nil, length-append}
use Rattle.quic_base.specs.Ids.{dir_number}
use Rattle.quic_base.specs.declared.ids.Dir.{Dir}
use Rattle.quic_base.specs.declared.ids.Dir.TheVariants.{Bi, Uni}
use Rattle.quic_base.specs.Number.{bytes_of}
use Rattle.quic_base.specs.Varint.{shortest_varint, size}
use Rattle.quic_frame_fields.specs.Field.{Number, Bytes}
use Rattle.quic_frame_fields.specs.Table.{Crypto, NewToken, NewConnectionId, ConnectionClose, ApplicationClose, Datagram, PathChallenge, PathResponse, Stream, MaxStreams, StreamsBlocked}
use Rattle.quic_frame_fields.specs.Parts.{frame_of, flag}
use Rattle.quic_frame_fields.specs.Shortest.{shortest_frame}
use Rattle.quic_frame_fields.specs.Numbers.{shortest_varints}
use Rattle.quic_frame_fields.proofs.Encoding as parts
use Rattle.quic_frame_fields.proofs.StreamParts as streams

pub crypto_parts : (last : Bool) (offset : ℕ) (bytes : List ℕ)
    → shortest_frame last (frame_of Crypto (Number offset ∷ Bytes bytes ∷ []))
    ≡ shortest_varints (0x06 ∷ offset ∷ length bytes ∷ []) ++ bytes
crypto_parts = parts.crypto_parts

pub token_parts : (last : Bool) (bytes : List ℕ)
    → shortest_frame last (frame_of NewToken (Bytes bytes ∷ [])) ≡ shortest_varints (0x07 ∷ length bytes ∷ []) ++ bytes
token_parts = parts.token_parts

-- the length byte of an id is a number below 64
short_small : (n : ℕ) → n < 64 → shortest_varint n ≡ n ∷ []
unfolding shortest_varint size bytes_of
short_small n lt = grind (arith, nat_tests)

pub new_id_parts : (last : Bool) (sequence retire : ℕ) (id token : List ℕ) → length id ≤ 20
    → shortest_frame last (frame_of NewConnectionId (Number sequence ∷ Number retire ∷ Bytes id ∷ Bytes token ∷ []))
    ≡ shortest_varints (0x18 ∷ sequence ∷ retire ∷ length id ∷ []) ++ (id ++ token)
new_id_parts last sequence retire id token le =
    let small : shortest_varint (length id) ≡ length id ∷ [] = short_small (length id) (omega (arith, le)) in
    parts.id_parts last sequence retire id token ∙ simp (small, append_assoc)

pub connection_close_parts : (last : Bool) (code ty : ℕ) (bytes : List ℕ)
    → shortest_frame last (frame_of ConnectionClose (Number code ∷ Number ty ∷ Bytes bytes ∷ []))
    ≡ shortest_varints (0x1c ∷ code ∷ ty ∷ length bytes ∷ []) ++ bytes
connection_close_parts = parts.connection_close_parts

pub application_close_parts : (last : Bool) (code : ℕ) (bytes : List ℕ)
    → shortest_frame last (frame_of ApplicationClose (Number code ∷ Bytes bytes ∷ []))
    ≡ shortest_varints (0x1d ∷ code ∷ length bytes ∷ []) ++ bytes
application_close_parts = parts.application_close_parts

pub datagram_counted : (bytes : List ℕ) → shortest_frame false (frame_of Datagram (Bytes bytes ∷ []))
    ≡ shortest_varints (0x31 ∷ length bytes ∷ []) ++ bytes
datagram_counted = parts.datagram_counted

pub datagram_open : (bytes : List ℕ) → shortest_frame true (frame_of Datagram (Bytes bytes ∷ [])) ≡ shortest_varints (0x30 ∷ []) ++ bytes
datagram_open = parts.datagram_open

pub stream_length : (last fin : Bool) (id offset : ℕ) (bytes : List ℕ)
    → length (shortest_frame last (frame_of Stream (flag fin ∷ Number id ∷ Number offset ∷ Bytes bytes ∷ [])))
    ≡ 1 + size id + (if eqb offset 0 then 0 else size offset) + (if last then 0 else size (length bytes)) + length bytes
stream_length = streams.stream_length

pub challenge_parts : (last : Bool) (n : ℕ)
    → shortest_frame last (frame_of PathChallenge (Number n ∷ [])) ≡ shortest_varint 0x1a ++ bytes_of 8 n
unfolding shortest_frame
challenge_parts last n = ap (λ (k : List ℕ). shortest_varint 0x1a ++ k) (append-nil (bytes_of 8 n))

pub response_parts : (last : Bool) (n : ℕ)
    → shortest_frame last (frame_of PathResponse (Number n ∷ [])) ≡ shortest_varint 0x1b ++ bytes_of 8 n
unfolding shortest_frame
response_parts last n = ap (λ (k : List ℕ). shortest_varint 0x1b ++ k) (append-nil (bytes_of 8 n))

pub max_streams_parts : (last : Bool) (dir : Dir) (count : ℕ)
    → shortest_frame last (frame_of MaxStreams (Number (dir_number dir) ∷ Number count ∷ []))
    ≡ shortest_varints ((0x12 + dir_number dir) ∷ count ∷ [])
unfolding shortest_frame
max_streams_parts last Bi count = refl
max_streams_parts last Uni count = refl

pub streams_blocked_parts : (last : Bool) (dir : Dir) (limit : ℕ)
    → shortest_frame last (frame_of StreamsBlocked (Number (dir_number dir) ∷ Number limit ∷ []))
    ≡ shortest_varints ((0x16 + dir_number dir) ∷ limit ∷ [])
unfolding shortest_frame
streams_blocked_parts last Bi limit = refl
streams_blocked_parts last Uni limit = refl

pub new_id_length : (last : Bool) (sequence retire : ℕ) (id token : List ℕ)
    → length (shortest_frame last (frame_of NewConnectionId (Number sequence ∷ Number retire ∷ Bytes id ∷ Bytes token
    ∷ []))) ≡ length (shortest_varints (0x18 ∷ sequence ∷ retire ∷ [])) + 1 + length id + length token
new_id_length last sequence retire id token =
    omega (
      arith,
      ap length (parts.id_parts last sequence retire id token),
      length-append (shortest_varints (0x18 ∷ sequence ∷ retire ∷ [])) ((length id ∷ id) ++ token),
      length-append (length id ∷ id) token,
    )

pub challenge_length : (last : Bool) (n : ℕ) → length (shortest_frame last (frame_of PathChallenge (Number n ∷ []))) ≡ 9
unfolding shortest_varint bytes_of
challenge_length last n = ap length (challenge_parts last n)

pub response_length : (last : Bool) (n : ℕ) → length (shortest_frame last (frame_of PathResponse (Number n ∷ []))) ≡ 9
unfolding shortest_varint bytes_of
response_length last n = ap length (response_parts last n)
