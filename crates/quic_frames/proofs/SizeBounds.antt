-- The shortest encodings of frames are within their bounds.
use Rattle.std.proofs.Common.{◌≡◌, ℕ, Bool, true, false, List, [], ◌∷◌, ◌++◌, length, ◌+◌, ◌*◌, ◌≤◌, refl, eqb, ap, arith}
use Rattle.std.specs.Prelude.{if◌then◌else◌}
use Rattle.std.proofs.lemmas.List.{length-append}
use Rattle.quic_base.specs.Varint.{shortest_varint, size}
use Rattle.quic_base.proofs.PublicLaws.{length-short, size_small}
use Rattle.quic_frame_fields.specs.Field.{Number, Bytes}
use Rattle.quic_frame_fields.specs.Table.{ResetStream, StopSending, Crypto, Stream, NewConnectionId, RetireConnectionId, ConnectionClose, ApplicationClose, Datagram}
use Rattle.quic_frame_fields.specs.Parts.{frame_of, flag}
use Rattle.quic_frame_fields.specs.Shortest.{shortest_frame}
use Rattle.quic_frame_fields.specs.Numbers.{shortest_varints}
use Rattle.quic_frame_fields.proofs.Encoding.{connection_close_parts, application_close_parts, crypto_parts, datagram_counted, id_parts}
use Rattle.quic_frame_fields.proofs.StreamParts.{stream_length}

-- numbers after a type of one byte
numbers_bound : (ns : List ℕ) → length (shortest_varints ns) ≤ 8 * length ns
numbers_bound [] = omega arith
numbers_bound (n ∷ ns) =
    omega (arith, length-append (shortest_varint n) (shortest_varints ns), length-short n, size_small n, numbers_bound ns)

typed_bound : (t : ℕ) (ns : List ℕ) → size t ≡ 1 → length (shortest_varints (t ∷ ns)) ≤ 1 + 8 * length ns
typed_bound t ns one =
    omega (arith, length-append (shortest_varint t) (shortest_varints ns), length-short t, one, numbers_bound ns)

bound : (t : ℕ) (ns bytes whole : List ℕ) → size t ≡ 1 → whole ≡ shortest_varints (t ∷ ns) ++ bytes
    → length whole ≤ 1 + 8 * length ns + length bytes
bound t ns bytes whole one parts =
    omega (arith, ap length parts, length-append (shortest_varints (t ∷ ns)) bytes, typed_bound t ns one)

pub connection_close_bound : (last : Bool) (code ty : ℕ) (bytes : List ℕ)
    → length (shortest_frame last (frame_of ConnectionClose (Number code ∷ Number ty ∷ Bytes bytes ∷ []))) ≤ 25 + length bytes
unfolding size
connection_close_bound last code ty bytes =
    bound 0x1c (code ∷ ty ∷ length bytes ∷ []) bytes _ refl (connection_close_parts last code ty bytes)

pub application_close_bound : (last : Bool) (code : ℕ) (bytes : List ℕ)
    → length (shortest_frame last (frame_of ApplicationClose (Number code ∷ Bytes bytes ∷ []))) ≤ 17 + length bytes
unfolding size
application_close_bound last code bytes =
    bound 0x1d (code ∷ length bytes ∷ []) bytes _ refl (application_close_parts last code bytes)

pub crypto_bound : (last : Bool) (offset : ℕ) (bytes : List ℕ)
    → length (shortest_frame last (frame_of Crypto (Number offset ∷ Bytes bytes ∷ []))) ≤ 17 + length bytes
unfolding size
crypto_bound last offset bytes = bound 0x06 (offset ∷ length bytes ∷ []) bytes _ refl (crypto_parts last offset bytes)

pub datagram_bound : (bytes : List ℕ) → length (shortest_frame false (frame_of Datagram (Bytes bytes ∷ []))) ≤ 9 + length bytes
unfolding size
datagram_bound bytes = bound 0x31 (length bytes ∷ []) bytes _ refl (datagram_counted bytes)

-- frames that have only numbers
numbers_alone : (t : ℕ) (ns whole : List ℕ) → size t ≡ 1 → whole ≡ shortest_varints (t ∷ ns)
    → length whole ≤ 1 + 8 * length ns
numbers_alone t ns whole one parts = omega (arith, ap length parts, typed_bound t ns one)

pub reset_bound : (last : Bool) (id code offset : ℕ)
    → length (shortest_frame last (frame_of ResetStream (Number id ∷ Number code ∷ Number offset ∷ []))) ≤ 25
unfolding size shortest_frame
reset_bound last id code offset = numbers_alone 0x04 (id ∷ code ∷ offset ∷ []) _ refl refl

pub stop_bound : (last : Bool) (id code : ℕ)
    → length (shortest_frame last (frame_of StopSending (Number id ∷ Number code ∷ []))) ≤ 17
unfolding size shortest_frame
stop_bound last id code = numbers_alone 0x05 (id ∷ code ∷ []) _ refl refl

pub retire_bound : (last : Bool) (sequence : ℕ)
    → length (shortest_frame last (frame_of RetireConnectionId (Number sequence ∷ []))) ≤ 9
unfolding size shortest_frame
retire_bound last sequence = numbers_alone 0x19 (sequence ∷ []) _ refl refl

pub new_id_bound : (last : Bool) (sequence retire : ℕ) (id token : List ℕ) → length id ≤ 20 → length token ≡ 16
    → length (shortest_frame last (frame_of NewConnectionId (Number sequence ∷ Number retire ∷ Bytes id ∷ Bytes token ∷ []))) ≤ 54
unfolding size
new_id_bound last sequence retire id token short_id of_16 =
    let some =
    bound 0x18 (sequence ∷ retire ∷ []) ((length id ∷ id) ++ token) _ refl (id_parts last sequence retire id token) in
    omega (arith, some, length-append (length id ∷ id) token, short_id, of_16)

pub stream_bound : (fin : Bool) (id offset : ℕ) (bytes : List ℕ)
    → length (shortest_frame false (frame_of Stream (flag fin ∷ Number id ∷ Number offset ∷ Bytes bytes ∷ []))) ≤ 25 + length bytes
stream_bound fin id offset bytes =
    omega (arith, stream_length false fin id offset bytes, size_small id, offset_bound (eqb offset 0), size_small (length bytes))
  where
    offset_bound : (b : Bool) → (if b then 0 else size offset) ≤ 8
    offset_bound true = omega arith
    offset_bound false = size_small offset
