-- The header of a frame, followed by its data.
use Rattle.std.proofs.Common.{◌≡◌, ℕ, ◌<◌, ◌^◌, List, [], ◌∷◌, ◌++◌, length, Bool, true, false, None, Some, refl, sym, ap, subst, ◌∙◌, inl, inr, arith}
use Rattle.std.specs.Prelude.{◌==◌, ◌&&◌, ◌||◌, ◌⊎◌, if◌then◌else◌}
use Rattle.quic_base.specs.declared.ids.Dir.TheVariants as dirs
use Rattle.quic_frame_fields.specs.declared.frame.close.Close.TheVariants as closes
use Rattle.quic_frame_fields.specs.Numbers.{AreNumeric}
use Rattle.quic_frame_fields.specs.Shortest.{shortest_frame, stream_header}
use Rattle.quic_frame_fields.proofs.Encoding.{crypto_parts, datagram_counted, datagram_open}
use Rattle.quic_frame_fields.proofs.StreamParts.{stream_parts}
use Rattle.quic_frames.specs.declared.frame.Frame.{Frame}
use Rattle.quic_frames.specs.declared.frame.Frame.TheVariants as frames
use Rattle.quic_frame_fields.specs.declared.frame.Datagram.{Datagram}
use Rattle.quic_frames.specs.Meaning.{meaning_of}
use Rattle.quic_c_words.specs.declared.words.CFrame.{CFrame}
use Rattle.quic_frames.specs.Rules.{breach_of, broken_if}
use Rattle.quic_frames.specs.declared.frame.rules.Breach.TheVariants as breaches
use Rattle.quic_c_words.specs.Shown.{data_of, frame_kind_of, has_flag, rules_in}
use Rattle.quic_c_write.specs.Written.{CanWriteFrame}
use Rattle.quic_c_write.specs.Headers.{IsHeaded, HasHeader, AreTwo, IsCounted, breaks_flags, first_in, second_in, data_header_by, data_header_bytes}

zero_fits : 0 < 2 ^ 62
zero_fits = omega arith

abbrev is_headed : ℕ → Bool
is_headed kind = kind == 0x06 || kind == 0x08 || kind == 0x30

headed : (kind : ℕ) → IsHeaded kind → is_headed kind ≡ true
headed kind (inl e) = rw e refl
headed kind (inr (inl e)) = rw e refl
headed kind (inr (inr e)) = rw e refl

never : (kind other : ℕ) → IsHeaded kind → kind ≡ other → is_headed other ≡ false → ⊥
never kind other h e apart =
    let yes : is_headed other ≡ true = ap is_headed (sym e) ∙ headed kind h in
    let same : ◌≡◌ {A = Bool} true false = sym yes ∙ apart in
    cc

-- what the law means for a frame
abbrev IsCut : CFrame → Bool → Frame → Type 0
IsCut words last frame =
    HasHeader words last × (shortest_frame last (meaning_of frame) ≡ data_header_bytes words last ++ data_of frame)

fin_is : (fin : Bool) → ◌≡◌ {A = Bool} ((if fin then 1 else 0) == 1) fin
fin_is true = refl
fin_is false = refl

fin_flag : (fin : Bool) (kind flags : ℕ) → kind ≡ 0x08 → flags ≡ (if fin then 1 else 0)
    → flags ≡ 0 ⊎ (kind ≡ 0x08) × (flags ≡ 1)
fin_flag true kind flags k e = inr (k, e)
fin_flag false kind flags k e = inl e

inner_of : (kind : ℕ) (last : Bool) → IsCounted kind last → (kind ≡ 0x06 → ⊥) → last ≡ false
inner_of kind last (inl e) other = absurd (other e)
inner_of kind last (inr e) other = e

datagram_parts : (last : Bool) (d : Datagram)
    → shortest_frame last (meaning_of (frames.Datagram d)) ≡ data_header_by 0x30 0 (0 ∷ 0 ∷ 0 ∷ 0 ∷ 0 ∷ [])
    (length d.bytes.now) last ++ d.bytes.now
datagram_parts true d = datagram_open d.bytes.now
datagram_parts false d = datagram_counted d.bytes.now

pub header_and : (words : CFrame) (bytes : List ℕ) (last : Bool) (frame : Frame) → IsHeaded words.kind
    → CanWriteFrame words bytes last frame → IsCut words last frame
header_and words bytes last (frames.Crypto x) h can =
    let s = can.described in
    let same : data_header_bytes words last ≡ data_header_by 0x06 0 (0 ∷ x.offset ∷ 0 ∷ 0 ∷ 0 ∷ []) (length x.bytes.now) last =
    rw (s.kind, s.numbers, s.count) refl in
    let has : HasHeader words last = record {
      kind = h;
      two = subst AreTwo (sym s.numbers) (refl, refl, refl);
      numeric = subst AreNumeric (sym s.numbers) (zero_fits, (can.stands.in_range.0, (zero_fits, (zero_fits, (zero_fits, tt)))));
      counted = λ _. subst (λ (n : ℕ). n < 2 ^ 62) (sym s.count) can.stands.in_range.1.0;
      id = inr (ap first_in s.numbers);
      offset = λ e. absurd (omega (arith, e, s.kind));
      flags = inl s.flags;
    } in
    (has, crypto_parts last x.offset x.bytes.now ∙ ap (λ (l : List ℕ). l ++ x.bytes.now) (sym same))
header_and words bytes last (frames.Stream x) h can =
    let s = can.described in
    let fin : ◌≡◌ {A = Bool} (words.flags == 1) x.fin = ap (λ (n : ℕ). n == 1) s.flags ∙ fin_is x.fin in
    let same : data_header_bytes words last ≡ stream_header x.id x.offset x.fin (if last then None else Some (length x.bytes.now)) =
    rw (fin, s.kind, s.numbers, s.count) refl in
    let has : HasHeader words last = record {
      kind = h;
      two = subst AreTwo (sym s.numbers) (refl, refl, refl);
      numeric = subst AreNumeric (sym s.numbers) (can.typed, (can.stands.in_range, (zero_fits, (zero_fits, (zero_fits, tt)))));
      counted = λ c. subst (λ (n : ℕ). n < 2 ^ 62) (sym s.count)
          (can.stands.counted (inner_of words.kind last c (λ e. absurd (omega (arith, e, s.kind)))));
      id = inl s.kind;
      offset = λ e. absurd (omega (arith, e, s.kind));
      flags = fin_flag x.fin words.kind words.flags s.kind s.flags;
    } in
    (has, sym (stream_parts last x.fin x.id x.offset x.bytes.now) ∙ ap (λ (l : List ℕ). l ++ x.bytes.now) (sym same))
header_and words bytes last (frames.Datagram x) h can =
    let s = can.described in
    let same : data_header_bytes words last ≡ data_header_by 0x30 0 (0 ∷ 0 ∷ 0 ∷ 0 ∷ 0 ∷ []) (length x.bytes.now) last =
    rw (s.kind, s.count) refl in
    let has : HasHeader words last = record {
      kind = h;
      two = subst AreTwo (sym s.numbers) (refl, refl, refl);
      numeric = subst AreNumeric (sym s.numbers) (zero_fits, (zero_fits, (zero_fits, (zero_fits, (zero_fits, tt)))));
      counted = λ c. subst (λ (n : ℕ). n < 2 ^ 62) (sym s.count)
          (can.stands.counted (inner_of words.kind last c (λ e. absurd (omega (arith, e, s.kind)))));
      id = inr (ap first_in s.numbers);
      offset = λ e. ap second_in s.numbers;
      flags = inl s.flags;
    } in
    (has, datagram_parts last x ∙ ap (λ (l : List ℕ). l ++ x.bytes.now) (sym same))
header_and words bytes last (frames.MaxStreams dirs.Bi count) h can =
    absurd (never words.kind 0x12 h can.described.kind refl)
header_and words bytes last (frames.MaxStreams dirs.Uni count) h can =
    absurd (never words.kind 0x13 h can.described.kind refl)
header_and words bytes last (frames.StreamsBlocked dirs.Bi limit) h can =
    absurd (never words.kind 0x16 h can.described.kind refl)
header_and words bytes last (frames.StreamsBlocked dirs.Uni limit) h can =
    absurd (never words.kind 0x17 h can.described.kind refl)
header_and words bytes last (frames.Close (closes.Connection x)) h can =
    absurd (never words.kind 0x1c h can.described.kind refl)
header_and words bytes last (frames.Close (closes.Application x)) h can =
    absurd (never words.kind 0x1d h can.described.kind refl)
header_and words bytes last frame h can = absurd (never words.kind (frame_kind_of frame) h can.described.kind refl)

-- ---- rules

none_if : (b : Bool) → broken_if (b && false) breaches.Limit ≡ None
none_if true = refl
none_if false = refl

-- a frame breaks a rule if its header does
pub header_breaks : (words : CFrame) (bytes : List ℕ) (last : Bool) (frame : Frame) (flags : ℕ) → IsHeaded words.kind
    → CanWriteFrame words bytes last frame
    → breach_of (rules_in flags) (meaning_of frame) ≡ broken_if (breaks_flags flags words) breaches.Limit
header_breaks words bytes last (frames.Crypto x) flags h can =
    let s = can.described in rw (s.kind, s.numbers, s.count) refl
header_breaks words bytes last (frames.Stream x) flags h can =
    let s = can.described in rw (s.kind, s.numbers, s.count) refl
header_breaks words bytes last (frames.Datagram x) flags h can =
    let s = can.described in rw s.kind (sym (none_if (has_flag 0x002 flags)))
header_breaks words bytes last (frames.MaxStreams dirs.Bi count) flags h can =
    absurd (never words.kind 0x12 h can.described.kind refl)
header_breaks words bytes last (frames.MaxStreams dirs.Uni count) flags h can =
    absurd (never words.kind 0x13 h can.described.kind refl)
header_breaks words bytes last (frames.StreamsBlocked dirs.Bi limit) flags h can =
    absurd (never words.kind 0x16 h can.described.kind refl)
header_breaks words bytes last (frames.StreamsBlocked dirs.Uni limit) flags h can =
    absurd (never words.kind 0x17 h can.described.kind refl)
header_breaks words bytes last (frames.Close (closes.Connection x)) flags h can =
    absurd (never words.kind 0x1c h can.described.kind refl)
header_breaks words bytes last (frames.Close (closes.Application x)) flags h can =
    absurd (never words.kind 0x1d h can.described.kind refl)
header_breaks words bytes last frame flags h can =
    absurd (never words.kind (frame_kind_of frame) h can.described.kind refl)
