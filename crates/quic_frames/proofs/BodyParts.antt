-- The bodies of frames, as their writers write them.
use Rattle.std.proofs.Common.{◌≡◌, ℕ, ◌≤◌, Bool, true, false, eqb, eq-eqb, List, [], ◌∷◌, ◌++◌, length, refl, ◌∙◌, append_assoc, arith}
use Rattle.std.specs.Prelude.{if◌then◌else◌}
use Rattle.std.proofs.lemmas.Bool.Decides.{nat_tests}
use Rattle.std.proofs.lemmas.List.{append-nil}
use Rattle.quic_base.specs.Ids.{dir_number}
use Rattle.quic_base.specs.declared.ids.Dir.{Dir}
use Rattle.quic_base.specs.declared.ids.Dir.TheVariants.{Bi, Uni}
use Rattle.quic_base.specs.Varint.{shortest_varint}
use Rattle.quic_frame_fields.specs.Bodies.{shortest_body}
use Rattle.quic_frame_fields.specs.Field.{Number, Bytes}
use Rattle.quic_frame_fields.specs.Numbers.{shortest_varints}
use Rattle.quic_frame_fields.specs.Parts.{frame_of, flag}
use Rattle.quic_frame_fields.specs.Table.{NewConnectionId, ConnectionClose, ApplicationClose, Datagram, Stream, MaxStreams, StreamsBlocked}
use Rattle.quic_frame_fields.proofs.Bodies.{body_of}
use Rattle.quic_frames.proofs.Encoding.{new_id_parts, connection_close_parts, application_close_parts, datagram_counted, datagram_open}

pub new_id_body : (last : Bool) (sequence retire : ℕ) (id token : List ℕ) → length id ≤ 20
    → shortest_body last (frame_of NewConnectionId (Number sequence ∷ Number retire ∷ Bytes id ∷ Bytes token ∷ []))
    ≡ shortest_varints (sequence ∷ retire ∷ length id ∷ []) ++ (id ++ token)
new_id_body last sequence retire id token few =
    body_of last (frame_of NewConnectionId (Number sequence ∷ Number retire ∷ Bytes id ∷ Bytes token ∷ [])) 0x18
    (sequence ∷ retire ∷ length id ∷ []) (id ++ token) refl (new_id_parts last sequence retire id token few)

pub connection_close_body : (last : Bool) (code ty : ℕ) (bytes : List ℕ)
    → shortest_body last (frame_of ConnectionClose (Number code ∷ Number ty ∷ Bytes bytes ∷ []))
    ≡ shortest_varints (code ∷ ty ∷ length bytes ∷ []) ++ bytes
connection_close_body last code ty bytes =
    body_of last (frame_of ConnectionClose (Number code ∷ Number ty ∷ Bytes bytes ∷ [])) 0x1c
    (code ∷ ty ∷ length bytes ∷ []) bytes refl (connection_close_parts last code ty bytes)

pub application_close_body : (last : Bool) (code : ℕ) (bytes : List ℕ)
    → shortest_body last (frame_of ApplicationClose (Number code ∷ Bytes bytes ∷ []))
    ≡ shortest_varints (code ∷ length bytes ∷ []) ++ bytes
application_close_body last code bytes =
    body_of last (frame_of ApplicationClose (Number code ∷ Bytes bytes ∷ [])) 0x1d (code ∷ length bytes ∷ []) bytes
    refl (application_close_parts last code bytes)

pub counted_body : (bytes : List ℕ) → shortest_body false (frame_of Datagram (Bytes bytes ∷ []))
    ≡ shortest_varints (length bytes ∷ []) ++ bytes
counted_body bytes =
    body_of false (frame_of Datagram (Bytes bytes ∷ [])) 0x31 (length bytes ∷ []) bytes refl (datagram_counted bytes)

pub open_body : (bytes : List ℕ) → shortest_body true (frame_of Datagram (Bytes bytes ∷ [])) ≡ shortest_varints [] ++ bytes
open_body bytes = body_of true (frame_of Datagram (Bytes bytes ∷ [])) 0x30 [] bytes refl (datagram_open bytes)

pub max_streams_body : (last : Bool) (dir : Dir) (count : ℕ)
    → shortest_body last (frame_of MaxStreams (Number (dir_number dir) ∷ Number count ∷ [])) ≡ shortest_varints (count ∷ [])
unfolding shortest_body
max_streams_body last Bi count = refl
max_streams_body last Uni count = refl

pub streams_blocked_body : (last : Bool) (dir : Dir) (limit : ℕ)
    → shortest_body last (frame_of StreamsBlocked (Number (dir_number dir) ∷ Number limit ∷ []))
    ≡ shortest_varints (limit ∷ [])
unfolding shortest_body
streams_blocked_body last Bi limit = refl
streams_blocked_body last Uni limit = refl

-- ---- a STREAM

stream_by : (at_zero last fin : Bool) (id offset : ℕ) (bytes : List ℕ) → eqb offset 0 ≡ at_zero
    → shortest_body last (frame_of Stream (flag fin ∷ Number id ∷ Number offset ∷ Bytes bytes ∷ []))
    ≡ shortest_varint id ++ ((if at_zero then [] else shortest_varint offset)
    ++ ((if last then [] else shortest_varint (length bytes)) ++ bytes))
unfolding shortest_body
stream_by true true true id offset bytes e = rw e (simp append-nil)
stream_by true true false id offset bytes e = rw e (simp append-nil)
stream_by true false true id offset bytes e = rw e (simp (append_assoc, append-nil))
stream_by true false false id offset bytes e = rw e (simp (append_assoc, append-nil))
stream_by false true true id offset bytes e = rw e (simp append-nil)
stream_by false true false id offset bytes e = rw e (simp append-nil)
stream_by false false true id offset bytes e = rw e (simp (append_assoc, append-nil))
stream_by false false false id offset bytes e = rw e (simp (append_assoc, append-nil))

is_zero : (n : ℕ) → n ≡ 0 → eqb n 0 ≡ true
is_zero n e = eq-eqb n 0 e

is_some : (n : ℕ) → (n ≡ 0 → ⊥) → eqb n 0 ≡ false
is_some n e = grind (arith, nat_tests)

pub open_at_zero : (fin : Bool) (id offset : ℕ) (bytes : List ℕ) → offset ≡ 0
    → shortest_body true (frame_of Stream (flag fin ∷ Number id ∷ Number offset ∷ Bytes bytes ∷ []))
    ≡ shortest_varints (id ∷ []) ++ bytes
open_at_zero fin id offset bytes e =
    stream_by true true fin id offset bytes (is_zero offset e) ∙ simp append-nil

pub counted_at_zero : (fin : Bool) (id offset : ℕ) (bytes : List ℕ) → offset ≡ 0
    → shortest_body false (frame_of Stream (flag fin ∷ Number id ∷ Number offset ∷ Bytes bytes ∷ []))
    ≡ shortest_varints (id ∷ length bytes ∷ []) ++ bytes
counted_at_zero fin id offset bytes e =
    stream_by true false fin id offset bytes (is_zero offset e) ∙ simp (append_assoc, append-nil)

pub open_further : (fin : Bool) (id offset : ℕ) (bytes : List ℕ) → (offset ≡ 0 → ⊥)
    → shortest_body true (frame_of Stream (flag fin ∷ Number id ∷ Number offset ∷ Bytes bytes ∷ []))
    ≡ shortest_varints (id ∷ offset ∷ []) ++ bytes
open_further fin id offset bytes e =
    stream_by false true fin id offset bytes (is_some offset e) ∙ simp (append_assoc, append-nil)

pub counted_further : (fin : Bool) (id offset : ℕ) (bytes : List ℕ) → (offset ≡ 0 → ⊥)
    → shortest_body false (frame_of Stream (flag fin ∷ Number id ∷ Number offset ∷ Bytes bytes ∷ []))
    ≡ shortest_varints (id ∷ offset ∷ length bytes ∷ []) ++ bytes
counted_further fin id offset bytes e =
    stream_by false false fin id offset bytes (is_some offset e) ∙ simp (append_assoc, append-nil)
