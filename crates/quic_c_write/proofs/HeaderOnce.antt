-- Bytes begin with at most one header, and then no other result is right.
use Rattle.std.proofs.Common.{◌≡◌, ℕ, ◌+◌, ◌≤◌, Bool, true, false, eqb, List, ◌++◌, length, Option, Some, None, refl, sym, ap, subst, ◌∙◌, inl, inr, arith}
use Rattle.std.specs.Prelude.{ℤ, pos, if◌then◌else◌}
use Rattle.std.proofs.lemmas.Bool.Decides.{nat_tests}
use Rattle.std.proofs.lemmas.List.{length-append}
use Rattle.quic_base.specs.Varint.{shortest_varint}
use Rattle.quic_base.proofs.PublicLaws.{encodes_unique, encoded_bound}
use Rattle.quic_frame_fields.specs.Numbers.{AreEncoded}
use Rattle.quic_frame_fields.specs.Table.{Row, row_of, crypto_row, datagram_row, stream_row}
use Rattle.quic_frames.specs.declared.frame.rules.Rules.{Rules}
use Rattle.quic_results.specs.declared.results.Failure.{Failure}
use Rattle.quic_results.specs.declared.results.Failure.TheVariants as failure
use Rattle.quic_c_words.specs.declared.words.CFrame.{CFrame}
use Rattle.quic_c_write.specs.Headers.{Header, IsHeaded, BeginsWithHeader, AnswersHeader, RefusesHeader, breaks_limit, has_length, has_offset, header_kind, header_numbers, header_words, is_stream, number_if}
use Rattle.quic_c_write.proofs.HeaderNumbers.{same_encoded}
use Rattle.quic_c_write.proofs.HeaderTypes.{low_known}

-- ---- numbers that are equal when they are written

first_same : (is_written : Bool) (m n : ℕ) (ms ns : List ℕ) → number_if is_written m ++ ms ≡ number_if is_written n ++ ns
    → (is_written ≡ false → m ≡ n) → (m ≡ n) × (ms ≡ ns)
first_same true m n ms ns e other = (cc, cc)
first_same false m n ms ns e other = (other refl, e)

last_same : (is_written : Bool) (m n : ℕ) → number_if is_written m ≡ number_if is_written n
    → (is_written ≡ false → m ≡ n) → m ≡ n
last_same true m n e other = cc
last_same false m n e other = other refl

as_many : (x y z : Bool) (a b c d e f : ℕ) → length (number_if x a ++ (number_if y b ++ number_if z c))
    ≡ length (number_if x d ++ (number_if y e ++ number_if z f))
as_many true true true a b c d e f = refl
as_many true true false a b c d e f = refl
as_many true false true a b c d e f = refl
as_many true false false a b c d e f = refl
as_many false true true a b c d e f = refl
as_many false true false a b c d e f = refl
as_many false false true a b c d e f = refl
as_many false false false a b c d e f = refl

abbrev pub header_of : (type id offset len : ℕ) → Header
header_of type id offset len = record { type = type; id = id; offset = offset; len = len }

pub record SameHeader (h k : Header) (n m : ℕ) : Type 0 where
  pub header : h ≡ k
  pub count : n ≡ m

pub one_header : (short : Bool) (bytes : List ℕ) (h k : Header) (n m : ℕ) → BeginsWithHeader short bytes h n
    → BeginsWithHeader short bytes k m → SameHeader h k n m
one_header short bytes h k n m x y =
    let u =
    encodes_unique h.type k.type x.type_bytes y.type_bytes (x.number_bytes ++ x.behind) (y.number_bytes ++ y.behind)
    (sym x.parts ∙ y.parts) x.type_encoded.encoded y.type_encoded.encoded in
    let again : AreEncoded (header_numbers h.type k.id k.offset k.len) y.number_bytes =
    subst (λ (t : ℕ). AreEncoded (header_numbers t k.id k.offset k.len) y.number_bytes) (sym u.0) y.encoded in
    let v =
    same_encoded (header_numbers h.type h.id h.offset h.len) (header_numbers h.type k.id k.offset k.len) x.number_bytes
    y.number_bytes x.behind y.behind
    (as_many (is_stream h.type) (has_offset h.type) (has_length h.type) h.id h.offset h.len k.id k.offset k.len) u.2
    x.encoded again in
    let ids =
    first_same (is_stream h.type) h.id k.id (number_if (has_offset h.type) h.offset ++ number_if (has_length h.type) h.len)
    (number_if (has_offset h.type) k.offset ++ number_if (has_length h.type) k.len) v.numbers
    (λ e. x.no_id e ∙ sym (y.no_id (subst (λ (t : ℕ). is_stream t ≡ false) u.0 e))) in
    let offsets =
    first_same (has_offset h.type) h.offset k.offset (number_if (has_length h.type) h.len)
    (number_if (has_length h.type) k.len) ids.1
    (λ e. x.no_offset e ∙ sym (y.no_offset (subst (λ (t : ℕ). has_offset t ≡ false) u.0 e))) in
    let lens =
    last_same (has_length h.type) h.len k.len offsets.1
    (λ e. x.no_length e ∙ ap length v.behind ∙ sym (y.no_length (subst (λ (t : ℕ). has_length t ≡ false) u.0 e))) in
    record {
      header = ap (λ (t : ℕ). header_of t h.id h.offset h.len) u.0
          ∙ ap (λ (i : ℕ). header_of k.type i h.offset h.len) ids.0
          ∙ ap (λ (i : ℕ). header_of k.type k.id i h.len) offsets.0
          ∙ ap (λ (i : ℕ). header_of k.type k.id k.offset i) lens;
      count = x.counted ∙ ap (λ (t : List ℕ). length t + length x.number_bytes) u.1
          ∙ ap (λ (t : List ℕ). length y.type_bytes + length t) v.encoded ∙ sym y.counted;
    }

-- ---- a type with a header has a row

some_not : (r : Row) → ◌≡◌ {A = Option Row} (Some r) None → ⊥
some_not r e = cc

stream_known : (t : ℕ) → is_stream t ≡ true → row_of t ≡ None → ⊥
stream_known t s none =
    let high : t ≤ 0x1f = grind (arith, nat_tests) in
    low_known t high none

by_kind : (is_one is_long : Bool) (t : ℕ) → is_stream t ≡ is_one → eqb t 0x31 ≡ is_long
    → IsHeaded (if is_one then 0x08 else if is_long then 0x30 else t) → row_of t ≡ None → ⊥
by_kind true is_long t s l h none = stream_known t s none
by_kind false true t s l h none =
    let e : t ≡ 0x31 = grind (arith, nat_tests) in
    some_not (datagram_row true) (subst (λ (u : ℕ). row_of u ≡ None) e none)
by_kind false false t s l (inl e) none = some_not crypto_row (subst (λ (u : ℕ). row_of u ≡ None) e none)
by_kind false false t s l (inr (inl e)) none =
    some_not (stream_row false false false) (subst (λ (u : ℕ). row_of u ≡ None) e none)
by_kind false false t s l (inr (inr e)) none =
    some_not (datagram_row false) (subst (λ (u : ℕ). row_of u ≡ None) e none)

pub headed_known : (t : ℕ) → IsHeaded (header_kind t) → row_of t ≡ None → ⊥
headed_known t h none = by_kind (is_stream t) (eqb t 0x31) t refl refl h none

-- ---- no refusal

not_both : (b : Bool) → b ≡ false → b ≡ true → ⊥
not_both b f t = let e : ◌≡◌ {A = Bool} false true = sym f ∙ t in cc

never : (rules : Rules) (bytes : List ℕ) (h : Header) (n : ℕ) → BeginsWithHeader rules.short_types bytes h n
    → breaks_limit rules h ≡ false → (reason : Failure) → RefusesHeader rules bytes reason → ⊥
never rules bytes h n x kept failure.PayloadEmpty r =
    let none : length (x.type_bytes ++ (x.number_bytes ++ x.behind)) ≡ 0 = ap length (sym x.parts ∙ r) in
    omega (
      arith,
      none,
      (encoded_bound h.type x.type_bytes x.type_encoded.encoded).1,
      length-append x.type_bytes (x.number_bytes ++ x.behind),
    )
never rules bytes h n x kept failure.FrameEnd (inl r) =
    r.1 h.type x.type_bytes (x.number_bytes ++ x.behind) x.parts x.type_encoded.encoded
never rules bytes h n x kept failure.FrameEnd (inr r) =
    let b = r.1 in
    let u =
    encodes_unique h.type r.0 x.type_bytes b.front (x.number_bytes ++ x.behind) b.back (sym x.parts ∙ b.parts)
    x.type_encoded.encoded b.encoded.encoded in
    b.then.1 h.id h.offset h.len x.number_bytes x.behind (sym u.2)
    (subst (λ (t : ℕ). AreEncoded (header_numbers t h.id h.offset h.len) x.number_bytes) u.0 x.encoded)
never rules bytes h n x kept failure.FrameLongType r =
    let l = r.1 in
    let u =
    encodes_unique h.type r.0 x.type_bytes l.front (x.number_bytes ++ x.behind) l.back (sym x.parts ∙ l.parts)
    x.type_encoded.encoded l.encoded in
    l.long (sym u.1 ∙ x.type_encoded.shortest l.counts ∙ ap shortest_varint u.0)
never rules bytes h n x kept failure.FrameType r =
    let b = r.1 in
    let u =
    encodes_unique h.type r.0 x.type_bytes b.front (x.number_bytes ++ x.behind) b.back (sym x.parts ∙ b.parts)
    x.type_encoded.encoded b.encoded.encoded in
    headed_known h.type x.kind (ap row_of u.0 ∙ b.then)
never rules bytes h n x kept failure.Kind r =
    let b = r.1 in
    let u =
    encodes_unique h.type r.0 x.type_bytes b.front (x.number_bytes ++ x.behind) b.back (sym x.parts ∙ b.parts)
    x.type_encoded.encoded b.encoded.encoded in
    b.then.1 (subst (λ (t : ℕ). IsHeaded (header_kind t)) u.0 x.kind)
never rules bytes h n x kept failure.FrameLimit r =
    let s = one_header rules.short_types bytes h r.header n r.count x r.begins in
    not_both (breaks_limit rules h) kept (ap (λ (k : Header). breaks_limit rules k) s.header ∙ r.broken)
never rules bytes h n x kept failure.Argument r = r
never rules bytes h n x kept failure.Place r = r
never rules bytes h n x kept failure.Number r = r
never rules bytes h n x kept failure.Length r = r
never rules bytes h n x kept failure.Ranges r = r
never rules bytes h n x kept failure.Parameter r = r
never rules bytes h n x kept failure.NoRoom r = r
never rules bytes h n x kept failure.FrameMalformed r = r
never rules bytes h n x kept failure.FramePacket r = r
never rules bytes h n x kept failure.FrameSender r = r
never rules bytes h n x kept failure.FrameStream r = r
never rules bytes h n x kept failure.PacketEnd r = r
never rules bytes h n x kept failure.PacketFixedBit r = r
never rules bytes h n x kept failure.PacketSmall r = r
never rules bytes h n x kept failure.PacketId r = r
never rules bytes h n x kept failure.PacketToken r = r
never rules bytes h n x kept failure.PacketVersion r = r
never rules bytes h n x kept failure.PacketCut r = r
never rules bytes h n x kept failure.PacketRetry r = r
never rules bytes h n x kept failure.ParametersMalformed r = r
never rules bytes h n x kept failure.ParametersIllegal r = r

pub record IsGiven (result : ℤ) (after : CFrame) (h : Header) (n : ℕ) : Type 0 where
  pub counted : result ≡ pos n
  pub shown : after ≡ header_words h n

pub given : (rules : Rules) (bytes : List ℕ) (h : Header) (n : ℕ) (before after : CFrame) (result : ℤ)
    → BeginsWithHeader rules.short_types bytes h n → breaks_limit rules h ≡ false
    → AnswersHeader rules bytes before result after → IsGiven result after h n
given rules bytes h n before after result x kept (inl g) =
    let s = one_header rules.short_types bytes h g.header n g.count x g.begins in
    record {
      counted = g.counted ∙ ap pos (sym s.count);
      shown = g.shown ∙ ap (λ (k : Header). header_words k g.count) (sym s.header)
          ∙ ap (λ (m : ℕ). header_words h m) (sym s.count);
    }
given rules bytes h n before after result x kept (inr r) = absurd (never rules bytes h n x kept r.0 r.2)
