-- The body of a frame, behind its type.
use Rattle.std.proofs.Common.{◌≡◌, ◌≢◌, ℕ, zero, suc, ◌-◌, ◌+◌, ◌<◌, ◌^◌, Bool, true, false, eqb, eq-eqb, List, [], ◌∷◌, ◌++◌, length, drop, Option, Some, None, Ok, Err, refl, sym, ap, subst, ◌∙◌, append_assoc, arith}
use Rattle.std.specs.Prelude.{not}
use Rattle.std.proofs.lemmas.List.{length-append, drop_at}
use Rattle.quic_base.specs.Number.{AreBytes}
use Rattle.quic_base.specs.Varint.{shortest_varint, size}
use Rattle.quic_base.proofs.PublicLaws.{shortest_encodes, length-short}
use Rattle.quic_errors.specs.declared.invalid_frame.InvalidFrame.{InvalidFrame}
use Rattle.quic_frame_fields.specs.declared.frame.fault.Fault.{Fault}
use Rattle.quic_frame_fields.specs.Payload.{Meaning, TypedFrame}
use Rattle.quic_frame_fields.specs.Reading.{frame_at, found_at, invalid, Invalid, is_long_type}
use Rattle.quic_frame_fields.proofs.Varints.{varint_again, varint_some}
use Rattle.quic_frames.specs.declared.frame.Frame.{Frame}
use Rattle.quic_frames.specs.Body.{with_type, ReadsBody, LacksBody}
use Rattle.quic_frames.specs.Found.{found_as, HasItsBlocks, HasItsBlocksBehind}
use Rattle.quic_frames.specs.InRange.{HasNoTypeZero}
use Rattle.quic_frames.specs.IterState.{IterState}
use Rattle.quic_frames.specs.Meaning.{meaning_of}
use Rattle.quic_frames.specs.Walk.{first_of, rest_of}
use Rattle.quic_frames.proofs.Finding.{behind_type, found_whole, found_none}
use Rattle.quic_frames.proofs.Frames.{found_takes, found_fails}
use Rattle.quic_frames.proofs.Items.{is_some_bytes}
use Rattle.quic_frames.proofs.Places.{finds, at_place}

both_bytes : (front back : List ℕ) → AreBytes front → AreBytes back → AreBytes (front ++ back)
both_bytes [] back one two i = two i
both_bytes (x ∷ front) back one two zero = one 0
both_bytes (x ∷ front) back one two (suc i) = both_bytes front back (λ j. one (suc j)) two i

-- the type that was put in front
type_fits : (t : ℕ) (body : List ℕ) → t < 2 ^ 62 → AreBytes body → AreBytes (with_type t body)
type_fits t body lt fits = both_bytes (shortest_varint t) body (let e = shortest_encodes t lt in e.bytes) fits

type_long : (t : ℕ) (body : List ℕ) → length (with_type t body) ≡ size t + length body
type_long t body = omega (arith, length-append (shortest_varint t) body, length-short t)

type_some : (t : ℕ) (body : List ℕ) → t < 2 ^ 62 → 0 < length (with_type t body)
type_some t body lt =
    let one = varint_some t (shortest_varint t) (shortest_encodes t lt) in
    omega (arith, one, length-append (shortest_varint t) body)

not_true : (b : Bool) → b ≡ true → not b ≡ false
not_true true e = refl
not_true false e = absurd cc

type_is_short : (strict : Bool) (t : ℕ) (body : List ℕ)
    → is_long_type strict t (length (with_type t body) - length body) ≡ false
type_is_short false t body = refl
type_is_short true t body =
    let n = length (with_type t body) - length body in
    not_true (eqb n (size t)) (eq-eqb n (size t) (omega (arith, type_long t body)))

pub body_found : (strict : Bool) (t : ℕ) (body : List ℕ) (frame : Meaning) (rest : List ℕ) → t < 2 ^ 62
    → frame_at t body ≡ Ok (frame, rest)
    → found_at strict None (with_type t body) ≡ Ok (record { type = t; frame = frame }, rest)
body_found strict t body frame rest lt e =
    found_whole strict None t (with_type t body) body frame rest
    (varint_again t (shortest_varint t) body (shortest_encodes t lt)) (type_is_short strict t body) e

-- what the body has of the bytes behind the type
body_parts : (t : ℕ) (body fields rest : List ℕ) → with_type t body ≡ (shortest_varint t ++ fields) ++ rest
    → body ≡ fields ++ rest
body_parts t body fields rest e =
    let front = shortest_varint t in
    sym (drop_at front body (length front) refl) ∙ ap (drop (length front)) (e ∙ append_assoc front fields rest)
    ∙ drop_at front (fields ++ rest) (length front) refl

rest_here : (payload rest : List ℕ) (front : List ℕ) → payload ≡ front ++ rest
    → rest ≡ drop (length payload - length rest) payload
rest_here payload rest front e =
    let n : length front ≡ length payload - length rest = omega (arith, ap length e, length-append front rest) in
    sym (drop_at front rest (length payload - length rest) n) ∙ ap (drop (length payload - length rest)) (sym e)

some_same : (t u : ℕ) → Some t ≡ Some u → u ≡ t
some_same t u e = cc

pub reads_body : (strict : Bool) (t : ℕ) (body : List ℕ) (frame : Frame) (rest : List ℕ) → t < 2 ^ 62 → AreBytes body
    → HasNoTypeZero frame → HasItsBlocks frame body rest → frame_at t body ≡ Ok (meaning_of frame, rest)
    → ReadsBody strict t body frame rest
reads_body strict t body frame rest lt fits apart blocks e =
    let payload = with_type t body in
    let taken = varint_again t (shortest_varint t) body (shortest_encodes t lt) in
    let octets = type_fits t body lt fits in
    let x = found_takes true None payload (found_as t frame, rest) octets (body_found true t body (meaning_of frame) rest lt e) in
    let long = type_long t body in
    let some = type_some t body lt in
    let typed : x.front ≡ shortest_varint t ++ x.frame.field_bytes =
    x.frame.parts ∙ ap (λ (l : List ℕ). l ++ x.frame.field_bytes) (x.frame.type_encoded.shortest refl) in
    let found = finds strict payload 0 None t frame rest (apart, behind_type t frame payload body rest taken blocks)
    octets (omega arith) some (body_found strict t body (meaning_of frame) rest lt e) in
    record {
      next = at_place strict payload (length payload - length rest) (Some t);
      finds = found;
      same = some_same t found.found.type (ap (λ (s : IterState). s.last) found.comes);
      left = rest_here payload rest x.front x.parts;
      fields = x.frame.field_bytes;
      parts = body_parts t body x.frame.field_bytes rest (x.parts ∙ ap (λ (l : List ℕ). l ++ rest) typed);
    }

pub lacks_body : (strict : Bool) (t : ℕ) (body : List ℕ) (reported : Invalid) (reason : Fault) → t < 2 ^ 62
    → AreBytes body → reported ≡ invalid (Some t) reason → frame_at t body ≡ Err reason
    → LacksBody strict t body reported
lacks_body strict t body reported reason lt fits says e =
    let payload = with_type t body in
    let taken = varint_again t (shortest_varint t) body (shortest_encodes t lt) in
    let octets = type_fits t body lt fits in
    let long = type_long t body in
    let some = is_some_bytes payload (type_some t body lt) in
    let none = found_none strict None t payload body reason taken (type_is_short strict t body) e in
    let told = found_fails strict None payload (invalid (Some t) reason) octets some none in
    record {
      goes_on = refl;
      type = told.type;
      reason = told.reason;
      no_frame = told.no_frame;
      says = says ∙ told.is_reported;
    }
