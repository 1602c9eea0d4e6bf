-- Words that describe no data describe the same frame whatever the bytes are.
use Rattle.std.proofs.Common.{◌≡◌, ℕ, Bool, true, false, List, [], ◌∷◌, length, take, drop, Option, None, Some, refl, sym, ap, ◌∙◌, inl, inr, arith}
use Rattle.std.specs.Prelude.{◌==◌, ℤ, if◌then◌else◌}
use Rattle.std.proofs.lemmas.Bool.Decides.{nat_tests}
use Rattle.quic_frames.specs.Meaning.{meaning_of}
use Rattle.quic_frames.specs.Rules.{breach_of, breach_text}
use Rattle.quic_frames.specs.declared.frame.Frame.{Frame}
use Rattle.quic_frames.specs.declared.frame.rules.Breach.{Breach}
use Rattle.quic_frames.specs.declared.frame.rules.Breach.TheVariants as breaches
use Rattle.quic_c_words.specs.declared.words.CFrame.{CFrame}
use Rattle.quic_c_write.specs.Shapes.{LacksData, shape_of, shows_data, kept_data, token_room}
use Rattle.quic_c_words.specs.Slots.{Slot}
use Rattle.quic_c_words.specs.Shown.{data_of, frame_kind_of, rules_in, tail_of, is_last}
use Rattle.quic_c_write.specs.Written.{BreaksRule, CanWriteFrame, IsAnswer, token_of}
use Rattle.quic_c_write.proofs.Meanings.{one_meaning}
use Rattle.quic_c_write.proofs.Shapes.{keeps, sound}
use Rattle.quic_results.specs.declared.results.Failure.TheVariants as failure
use Rattle.quic_results.specs.Results.{failed, frame_failure}
use Rattle.quic_results.proofs.FrameFailures.{not_count, not_room}

nil_of : (bytes : List ℕ) → length bytes ≡ 0 → bytes ≡ []
nil_of [] e = refl
nil_of (b ∷ bytes) e = absurd (omega (arith, e))

no_data : (shape : Option (List Slot)) (bytes : List ℕ) → shows_data shape ≡ false → (shape ≡ None → ⊥)
    → kept_data shape bytes ≡ bytes → bytes ≡ []
no_data None bytes e known kept = absurd (known refl)
no_data (Some s) bytes e known kept = sym kept ∙ ap (λ (b : Bool). if b then bytes else []) e

room_by : (kind : ℕ) (b : Bool) → (kind == 0x18) ≡ b → (kind ≡ 0x18 → ⊥) → token_room kind ≡ 0
room_by kind true e other = absurd (other (grind (arith, nat_tests)))
room_by kind false e other = ap (λ (b : Bool). if b then 16 else 0) e

has_none : shows_data (shape_of 0x18) ≡ false → ⊥
has_none e = cc

-- Neither data nor a token.
record IsBare (frame : Frame) : Type 0 where
  content : data_of frame ≡ []
  tail : tail_of frame ≡ 0

bare : (words : CFrame) (bytes : List ℕ) (last : Bool) (frame : Frame) → CanWriteFrame words bytes last frame
    → LacksData words → IsBare frame
bare words bytes last frame can (inl zero) =
    let kind = frame_kind_of frame in
    let s = sound frame can.kind can.typed can.stands.in_range in
    let none : length (data_of frame) ≡ 0 = sym can.described.count ∙ zero in
    record {
      content = nil_of (data_of frame) none;
      tail = (keeps frame can.kind).tail
          ∙ room_by kind (kind == 0x18) refl (λ e. omega (arith, s.some e, none));
    }
bare words bytes last frame can (inr lacks) =
    let kind = frame_kind_of frame in
    let k = keeps frame can.kind in
    let none : shows_data (shape_of kind) ≡ false =
    ap (λ (n : ℕ). shows_data (shape_of n)) (sym can.described.kind) ∙ lacks in
    record {
      content = no_data (shape_of kind) (data_of frame) none k.known k.content;
      tail = k.tail ∙ room_by kind (kind == 0x18) refl
          (λ e. has_none (ap (λ (n : ℕ). shows_data (shape_of n)) (sym e) ∙ none));
    }

pub can_anyhow : (words : CFrame) (bytes others : List ℕ) (last : Bool) (frame : Frame)
    → CanWriteFrame words bytes last frame → LacksData words → CanWriteFrame words others last frame
can_anyhow words bytes others last frame can lacks =
    let d = can.described in
    let b = bare words bytes last frame can lacks in
    let none : words.data_len ≡ 0 = d.count ∙ ap length b.content in
    let token : [] ≡ token_of frame =
    ap (λ (n : ℕ). take n (drop words.data_len (drop words.data_offset bytes))) (sym b.tail) ∙ d.token in
    record {
      described = record {
        kind = d.kind;
        flags = d.flags;
        numbers = d.numbers;
        count = d.count;
        within = λ some. absurd (omega (arith, some, none, b.tail));
        content = ap (λ (n : ℕ). take n (drop words.data_offset others)) none ∙ sym b.content;
        token = ap (λ (n : ℕ). take n (drop words.data_len (drop words.data_offset others))) b.tail ∙ token;
      };
      kind = can.kind;
      typed = can.typed;
      stands = can.stands;
    }

pub same_breach : (words : CFrame) (bytes : List ℕ) (flags : ℕ) (one other : Frame) (test : Option Breach) (b : Breach)
    → CanWriteFrame words bytes (is_last flags) one → CanWriteFrame words bytes (is_last flags) other
    → test ≡ breach_of (rules_in flags) (meaning_of one) → breach_of (rules_in flags) (meaning_of other) ≡ Some b
    → test ≡ Some b
same_breach words bytes flags one other test b can also tests breaks =
    tests ∙ ap (breach_of (rules_in flags)) (one_meaning words bytes (is_last flags) one other can also) ∙ breaks

not_argument : (b : Breach) → failed (frame_failure (breach_text b)) ≡ failed failure.Argument → ⊥
not_argument breaches.Limit e = cc
not_argument breaches.Token e = cc
not_argument breaches.Extension e = cc

pub breaks_anyhow : (words : CFrame) (bytes others : List ℕ) (flags : ℕ) (frame : Frame) (b : Breach) (result : ℤ)
    (old new : List ℕ) (written : ℕ) → CanWriteFrame words bytes (is_last flags) frame → LacksData words
    → breach_of (rules_in flags) (meaning_of frame) ≡ Some b → result ≡ failed (frame_failure (breach_text b))
    → IsAnswer words others flags result old new written
breaks_anyhow words bytes others flags frame b result old new written can lacks breaks reason =
    let broken : BreaksRule words others flags result = record {
      frame = frame;
      can = can_anyhow words bytes others (is_last flags) frame can lacks;
      breach = b;
      breaks = breaks;
      reason = reason;
    } in
    record {
      returns = inr (inr (inr broken));
      wrote = λ e. absurd (not_count (breach_text b) 0 (sym reason ∙ e));
      room = λ e. absurd (not_room (breach_text b) (sym reason ∙ e));
      refused = λ e. absurd (not_argument b (sym reason ∙ e));
    }
