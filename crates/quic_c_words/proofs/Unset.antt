-- Flags of which none is set.
use Rattle.std.proofs.Common.{◌≡◌, ℕ, Bool, false, List, [], ◌∷◌, None, refl, sym, ap, ◌∙◌}
use Rattle.std.specs.Prelude.{bit_and, not, ◌==◌}
use Rattle.std.specs.Int.Bits.{and_zero_l}
use Rattle.std.proofs.lemmas.Nat.{and_assoc}
use Rattle.quic_frames.specs.declared.frame.rules.Rules.{Rules}
use Rattle.quic_frame_fields.specs.Field.{Value, Number, Bytes}
use Rattle.quic_frame_fields.specs.Payload.{Meaning}
use Rattle.quic_frame_fields.specs.Table.{Name, Crypto, NewToken, Stream, MaxStreams, StreamsBlocked}
use Rattle.quic_frames.specs.Rules.{breach_by, breach_of, no_rules, only_types}
use Rattle.quic_c_words.specs.Shown.{has_flag, rules_in}

-- nor is one that is among them
unset : (flags mask flag : ℕ) → bit_and mask flag ≡ flag → bit_and flags mask ≡ 0 → has_flag flag flags ≡ false
unset flags mask flag among none =
    let is_zero : bit_and flags flag ≡ 0 =
    ap (bit_and flags) (sym among) ∙ sym (and_assoc flag flags mask) ∙ ap (λ (n : ℕ). bit_and n flag) none
    ∙ and_zero_l flag in
    ap (λ (n : ℕ). not (n == 0)) is_zero

abbrev with_bits : Bool → Bool → Bool → Bool → Bool → Rules
with_bits short_types data_limit stream_limit no_ack_frequency tokens = record {
  short_types = short_types;
  data_limit = data_limit;
  stream_limit = stream_limit;
  tokens = tokens;
  no_ack_frequency = no_ack_frequency;
}

-- so there are no rules, except for the encoding of types
pub write_rules_unset : (flags : ℕ) → bit_and flags 0x20e ≡ 0 → rules_in flags ≡ only_types (has_flag 0x001 flags)
write_rules_unset flags none =
    let short = has_flag 0x001 flags in
    let by = λ (flag : ℕ). has_flag flag flags in
    ap (λ (b : Bool). with_bits short b (by 0x004) (by 0x008) (by 0x200)) (unset flags 0x20e 0x002 refl none)
    ∙ ap (λ (b : Bool). with_bits short false b (by 0x008) (by 0x200)) (unset flags 0x20e 0x004 refl none)
    ∙ ap (λ (b : Bool). with_bits short false false b (by 0x200)) (unset flags 0x20e 0x008 refl none)
    ∙ ap (λ (b : Bool). with_bits short false false false b) (unset flags 0x20e 0x200 refl none)

-- which no frame breaks
keeps_types : (short_types : Bool) (name : Name) (values : List Value) → breach_by (only_types short_types) name values ≡ None
keeps_types short_types Crypto (Number offset ∷ Bytes sent ∷ []) = refl
keeps_types short_types Stream (fin ∷ id ∷ Number offset ∷ Bytes sent ∷ []) = refl
keeps_types short_types MaxStreams (dir ∷ Number count ∷ []) = refl
keeps_types short_types StreamsBlocked (dir ∷ Number count ∷ []) = refl
keeps_types short_types NewToken (Bytes token ∷ []) = refl
keeps_types short_types name values = refl

pub none_broken : (flags : ℕ) (frame : Meaning) → bit_and flags 0x20e ≡ 0 → breach_of (rules_in flags) frame ≡ None
none_broken flags frame none =
    ap (λ (r : Rules). breach_of r frame) (write_rules_unset flags none)
    ∙ keeps_types (has_flag 0x001 flags) frame.name frame.values

-- so there are no rules
pub rules_unset : (flags : ℕ) → bit_and flags 0x20f ≡ 0 → rules_in flags ≡ no_rules
rules_unset flags none =
    let by = λ (flag : ℕ). has_flag flag flags in
    ap (λ (b : Bool). with_bits b (by 0x002) (by 0x004) (by 0x008) (by 0x200)) (unset flags 0x20f 0x001 refl none)
    ∙ ap (λ (b : Bool). with_bits false b (by 0x004) (by 0x008) (by 0x200)) (unset flags 0x20f 0x002 refl none)
    ∙ ap (λ (b : Bool). with_bits false false b (by 0x008) (by 0x200)) (unset flags 0x20f 0x004 refl none)
    ∙ ap (λ (b : Bool). with_bits false false false b (by 0x200)) (unset flags 0x20f 0x008 refl none)
    ∙ ap (λ (b : Bool). with_bits false false false false b) (unset flags 0x20f 0x200 refl none)
