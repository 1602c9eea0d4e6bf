-- A frame whose type is one byte: it is found alike whether types must be short or not, and what breaks none of the
-- rules of RFC 9000 breaks none of any set.
use Rattle.std.proofs.Common.{◌≡◌, ℕ, suc, ◌+◌, ◌-◌, ◌<◌, ◌≤◌, Bool, true, false, List, [], ◌∷◌, length, drop, Option, Some, None, Ok, refl, sym, ap, subst, ◌∙◌, arith}
use Rattle.std.specs.Prelude.{not, ◌&&◌, ◌==◌, if◌then◌else◌}
use Rattle.std.proofs.lemmas.Bool.Decides.{nat_tests}
use Rattle.quic_base.specs.Number.{AreBytes}
use Rattle.quic_base.specs.Varint.{size}
use Rattle.quic_frame_fields.specs.declared.frame.close.Close.TheVariants as closes
use Rattle.quic_frame_fields.specs.Payload.{TypedFrame}
use Rattle.quic_frame_fields.specs.Reading.{frame_at, is_long_type, varint_at}
use Rattle.quic_frame_fields.proofs.Varints.{one_at}
use Rattle.quic_frames.specs.declared.frame.Frame.{Frame}
use Rattle.quic_frames.specs.declared.frame.Frame.TheVariants as frames
use Rattle.quic_frames.specs.declared.frame.rules.Rules.{Rules}
use Rattle.quic_frames.specs.declared.frame.rules.Breach.{Breach}
use Rattle.quic_frames.specs.Found.{found_as, HasItsBlocks}
use Rattle.quic_frames.specs.InRange.{HasNoTypeZero}
use Rattle.quic_frames.specs.IterState.{IterState}
use Rattle.quic_frames.specs.Meaning.{meaning_of}
use Rattle.quic_frames.specs.Rules.{breach_of, broken_if}
use Rattle.quic_frames.specs.Walk.{first_of, Finds}
use Rattle.quic_frames.proofs.Finding.{found_whole, behind_type}
use Rattle.quic_frames.proofs.Places.{at_place, finds}

-- ---- a type in one byte

one_more : (n : ℕ) → suc n - n ≡ 1
one_more n = omega arith

-- one byte is the shortest encoding of a number below 64
one_is_short : (strict : Bool) (t : ℕ) → t < 64 → is_long_type strict t 1 ≡ false
unfolding size
one_is_short true t lt = grind (arith, nat_tests)
one_is_short false t lt = refl

-- the frame at the front of a payload, where the fields of its type give it
pub finds_first : (strict : Bool) (payload : List ℕ) (t : ℕ) (fields rest : List ℕ) (frame : Frame) → AreBytes payload
    → payload ≡ t ∷ fields → t < 64 → frame_at t fields ≡ Ok (meaning_of frame, rest) → HasNoTypeZero frame
    → HasItsBlocks frame fields rest
    → Finds (first_of strict payload) frame (at_place strict payload (length payload - length rest) (Some t))
finds_first strict payload t fields rest frame fits is lt reads apart blocks =
    let taken : varint_at payload ≡ Ok (t, fields) = ap varint_at is ∙ one_at t fields lt in
    let width : length payload - length fields ≡ 1 = omega (arith, ap length is) in
    let short : is_long_type strict t (length payload - length fields) ≡ false =
    ap (is_long_type strict t) width ∙ one_is_short strict t lt in
    let some : 0 < length payload = omega (arith, ap length is) in
    finds strict payload 0 None t frame rest (apart, behind_type t frame payload fields rest taken blocks) fits
    (omega arith) some (found_whole strict None t payload fields (meaning_of frame) rest taken short reads)

-- ---- rules

-- all that RFC 9000 requires
abbrev pub all_rules : Rules
all_rules = record { short_types = true; data_limit = true; stream_limit = true; tokens = true; no_ack_frequency = true }

-- a rule that isn't broken where it counts isn't broken
pub not_broken : (counts is_past : Bool) (breach : Breach) → broken_if is_past breach ≡ None
    → broken_if (counts && is_past) breach ≡ None
not_broken true is_past breach none = none
not_broken false is_past breach none = refl

-- A frame that breaks none of the rules of RFC 9000 breaks none of any set.
pub keeps_any : (rules : Rules) (frame : Frame) → breach_of all_rules (meaning_of frame) ≡ None
    → breach_of rules (meaning_of frame) ≡ None
keeps_any rules (frames.Crypto x) none = not_broken rules.data_limit _ _ none
keeps_any rules (frames.Stream s) none = not_broken rules.data_limit _ _ none
keeps_any rules (frames.MaxStreams dir count) none = not_broken rules.stream_limit _ _ none
keeps_any rules (frames.StreamsBlocked dir limit) none = not_broken rules.stream_limit _ _ none
keeps_any rules (frames.NewToken t) none = not_broken rules.tokens _ _ none
keeps_any rules (frames.AckFrequency f) none = absurd cc
keeps_any rules frames.ImmediateAck none = absurd cc
keeps_any rules (frames.Close (closes.Connection c)) none = refl
keeps_any rules (frames.Close (closes.Application c)) none = refl
keeps_any rules frame none = refl
