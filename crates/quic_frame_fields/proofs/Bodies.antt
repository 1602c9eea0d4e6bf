-- The body of a frame, behind the type with which the frame is written.
use Rattle.std.proofs.Common.{◌≡◌, ℕ, Bool, List, [], ◌∷◌, ◌++◌, length, take, drop, refl, sym, ap, ◌∙◌, append_assoc}
use Rattle.std.specs.Prelude.{Option, Some, None}
use Rattle.std.proofs.lemmas.List.{append-nil, drop_at}
use Rattle.quic_base.specs.Varint.{shortest_varint}
use Rattle.quic_frame_fields.specs.declared.frame.ack.Ack as held
use Rattle.quic_frame_fields.specs.declared.frame.ack.EcnCounts.{EcnCounts}
use Rattle.quic_frame_fields.specs.Acks.{ranges_acked}
use Rattle.quic_frame_fields.specs.Bodies.{type_written, shortest_body}
use Rattle.quic_frame_fields.specs.Field.{Number, Ranges}
use Rattle.quic_frame_fields.specs.Numbers.{shortest_varints}
use Rattle.quic_frame_fields.specs.Parts.{ack_meaning, counts_of}
use Rattle.quic_frame_fields.specs.Payload.{Meaning}
use Rattle.quic_frame_fields.specs.Sets.{ack_type, header_numbers}
use Rattle.quic_frame_fields.specs.Shortest.{shortest_frame, written_type}
use Rattle.quic_frame_fields.specs.Table.{Ack}

pub frame_parts : (last : Bool) (frame : Meaning)
    → shortest_frame last frame ≡ shortest_varint (type_written last frame) ++ shortest_body last frame
unfolding shortest_frame shortest_body
frame_parts last frame = refl

-- bytes that the frame has behind its type
pub body_is : (last : Bool) (frame : Meaning) (t : ℕ) (bytes : List ℕ) → type_written last frame ≡ t
    → shortest_frame last frame ≡ shortest_varint t ++ bytes → shortest_body last frame ≡ bytes
body_is last frame t bytes typed e =
    let front = shortest_varint t in
    let parts : shortest_frame last frame ≡ front ++ shortest_body last frame =
    frame_parts last frame ∙ ap (λ (n : ℕ). shortest_varint n ++ shortest_body last frame) typed in
    sym (drop_at front (shortest_body last frame) (length front) refl) ∙ ap (drop (length front)) (sym parts ∙ e)
    ∙ drop_at front bytes (length front) refl

-- the same of numbers and bytes that were written
pub body_of : (last : Bool) (frame : Meaning) (t : ℕ) (ns tail : List ℕ) → type_written last frame ≡ t
    → shortest_frame last frame ≡ shortest_varints (t ∷ ns) ++ tail
    → shortest_body last frame ≡ shortest_varints ns ++ tail
body_of last frame t ns tail typed e =
    body_is last frame t (shortest_varints ns ++ tail) typed
    (e ∙ append_assoc (shortest_varint t) (shortest_varints ns) tail)

ack_typed : (last : Bool) (greatest delay : ℕ) (ranges : List (ℕ × ℕ)) (counts : Option EcnCounts)
    → written_type last Ack (Number greatest ∷ Number delay ∷ Ranges ranges ∷ counts_of counts) ≡ ack_type counts
ack_typed last greatest delay ranges None = refl
ack_typed last greatest delay ranges (Some counts) = refl

-- an ACK that is held, behind its type
pub ack_behind_type : (a : held.Ack) (last : Bool)
    → drop (length (shortest_varints (take 1 (header_numbers a)))) (shortest_frame last (ack_meaning a))
    ≡ shortest_body last (ack_meaning a)
ack_behind_type a last =
    let m = ack_meaning a in
    let front = shortest_varint (ack_type a.ecn) in
    let parts : shortest_frame last m ≡ front ++ shortest_body last m =
    frame_parts last m
    ∙ ap (λ (n : ℕ). shortest_varint n ++ shortest_body last m) (ack_typed last a.largest a.delay (ranges_acked a) a.ecn) in
    ap (drop (length (front ++ []))) parts
    ∙ drop_at front (shortest_body last m) (length (front ++ [])) (ap length (sym (append-nil front)))
