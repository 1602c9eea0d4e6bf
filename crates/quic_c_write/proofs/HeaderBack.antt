-- A header that was written is read back.
use Rattle.std.proofs.Common.{◌≡◌, ℕ, ◌+◌, ◌-◌, ◌^◌, ◌<◌, Bool, true, false, eqb, ltb, List, [], ◌∷◌, ◌++◌, length, refl, sym, ap, subst, ◌∙◌, append_assoc, inl, inr, arith}
use Rattle.std.specs.Prelude.{◌≢◌, ◌⊎◌, ◌==◌, ◌&&◌, ◌||◌, not, ℤ, if◌then◌else◌}
use Rattle.std.proofs.lemmas.Bool.Decides.{nat_tests}
use Rattle.std.proofs.lemmas.List.{length-append, append-nil}
use Rattle.quic_base.specs.Varint.{shortest_varint}
use Rattle.quic_base.proofs.PublicLaws.{shortest_encodes}
use Rattle.quic_frame_fields.specs.Numbers.{AreEncoded, AreNumeric, shortest_varints}
use Rattle.quic_frames.specs.declared.frame.rules.Rules.{Rules}
use Rattle.quic_c_words.specs.declared.words.CFrame.{CFrame}
use Rattle.quic_c_write.specs.Headers.{Header, HasHeader, IsHeaded, AreTwo, BeginsWithHeader, AnswersHeader, IsReadBack, StaysWithin, breaks_limit, data_header_by, data_header_bytes, first_in, second_in, has_fin, has_length, has_offset, header_kind, header_numbers, is_stream, len_behind}
use Rattle.quic_c_write.proofs.HeaderOnce.{header_of, given}

pub encoded_again : (ns : List ℕ) → AreNumeric ns → AreEncoded ns (shortest_varints ns)
encoded_again [] n = refl
encoded_again (k ∷ ns) n =
    (shortest_varint k, shortest_varints ns, refl, shortest_encodes k n.0, encoded_again ns n.1)

-- The bytes are a type and its numbers, each in its shortest encoding.
record Written (bytes : List ℕ) (h : Header) (behind : List ℕ) : Type 0 where
  shortest : bytes ≡ shortest_varint h.type ++ shortest_varints (header_numbers h.type h.id h.offset h.len)
  typed : h.type < 2 ^ 62
  numeric : AreNumeric (header_numbers h.type h.id h.offset h.len)
  kind : IsHeaded (header_kind h.type)
  no_id : is_stream h.type ≡ false → h.id ≡ 0
  no_offset : has_offset h.type ≡ false → h.offset ≡ 0
  no_length : has_length h.type ≡ false → h.len ≡ length behind

begins : (short : Bool) (bytes behind : List ℕ) (h : Header) → Written bytes h behind
    → BeginsWithHeader short (bytes ++ behind) h (length bytes)
begins short bytes behind h w =
    let front = shortest_varint h.type in
    let back = shortest_varints (header_numbers h.type h.id h.offset h.len) in
    record {
      type_bytes = front;
      number_bytes = back;
      behind = behind;
      parts = ap (λ (l : List ℕ). l ++ behind) w.shortest ∙ append_assoc front back behind;
      type_encoded = record { encoded = shortest_encodes h.type w.typed; shortest = λ s. refl };
      kind = w.kind;
      encoded = encoded_again (header_numbers h.type h.id h.offset h.len) w.numeric;
      no_id = w.no_id;
      no_offset = w.no_offset;
      no_length = w.no_length;
      counted = ap length w.shortest ∙ length-append front back;
    }

abbrev two_numbers : ℕ → ℕ → List ℕ
two_numbers a b = a ∷ b ∷ 0 ∷ 0 ∷ 0 ∷ []

-- The header that is written for these words, with these bytes behind it.
record IsOf (kind flags : ℕ) (numbers : List ℕ) (len : ℕ) (last : Bool) (behind : List ℕ) : Type 0 where
  header : Header
  written : Written (data_header_by kind flags numbers len last) header behind
  kind_is : header_kind header.type ≡ kind
  flags_are : (if has_fin header.type then 1 else 0) ≡ flags
  id_is : header.id ≡ first_in numbers
  offset_is : header.offset ≡ second_in numbers
  len_is : header.len ≡ (if kind == 0x06 || not last then len else length behind)

true_not_false : {A : Type 0} → ◌≡◌ {A = Bool} true false → A
true_not_false e = absurd cc

crypto : (offset len : ℕ) (last : Bool) (behind : List ℕ) → offset < 2 ^ 62 → len < 2 ^ 62
    → IsOf 0x06 0 (two_numbers 0 offset) len last behind
crypto offset len last behind o l = record {
  header = header_of 0x06 0 offset len;
  written = record {
    shortest = refl;
    typed = omega arith;
    numeric = (o, (l, tt));
    kind = inl refl;
    no_id = λ e. refl;
    no_offset = λ e. true_not_false e;
    no_length = λ e. true_not_false e;
  };
  kind_is = refl;
  flags_are = refl;
  id_is = refl;
  offset_is = refl;
  len_is = refl;
}

datagram : (len : ℕ) (last : Bool) (behind : List ℕ) → (last ≡ false → len < 2 ^ 62)
    → IsOf 0x30 0 (two_numbers 0 0) len last behind
datagram len true behind l = record {
  header = header_of 0x30 0 0 (length behind);
  written = record {
    shortest = refl;
    typed = omega arith;
    numeric = tt;
    kind = inr (inr refl);
    no_id = λ e. refl;
    no_offset = λ e. refl;
    no_length = λ e. refl;
  };
  kind_is = refl;
  flags_are = refl;
  id_is = refl;
  offset_is = refl;
  len_is = refl;
}
datagram len false behind l = record {
  header = header_of 0x31 0 0 len;
  written = record {
    shortest = refl;
    typed = omega arith;
    numeric = (l refl, tt);
    kind = inr (inr refl);
    no_id = λ e. refl;
    no_offset = λ e. refl;
    no_length = λ e. true_not_false e;
  };
  kind_is = refl;
  flags_are = refl;
  id_is = refl;
  offset_is = refl;
  len_is = refl;
}

abbrev OfStream : Bool → Bool → ℕ → ℕ → ℕ → List ℕ → Type 0
OfStream fin last id offset len behind = IsOf 0x08 (if fin then 1 else 0) (two_numbers id offset) len last behind

is_zero : (n : ℕ) → eqb n 0 ≡ true → n ≡ 0
is_zero n e = grind (arith, nat_tests)

-- The header of a type, which has the bits that these words ask for.
stream_of : (type : ℕ) (fin last : Bool) (id offset len read : ℕ) (behind : List ℕ)
    → data_header_by 0x08 (if fin then 1 else 0) (two_numbers id offset) len last
    ≡ shortest_varint type ++ shortest_varints (header_numbers type id offset read)
    → type < 16 → header_kind type ≡ 0x08 → is_stream type ≡ true → AreNumeric (header_numbers type id offset read)
    → (has_offset type ≡ false → offset ≡ 0) → (has_length type ≡ false → read ≡ length behind)
    → ◌≡◌ {A = ℕ} (if has_fin type then 1 else 0) (if fin then 1 else 0)
    → read ≡ (if not last then len else length behind) → OfStream fin last id offset len behind
stream_of type fin last id offset len read behind shortest small kind is numeric no_offset no_length flags count = record {
  header = header_of type id offset read;
  written = record {
    shortest = shortest;
    typed = omega (arith, small);
    numeric = numeric;
    kind = inr (inl kind);
    no_id = λ f. true_not_false (sym is ∙ f);
    no_offset = no_offset;
    no_length = no_length;
  };
  kind_is = kind;
  flags_are = flags;
  id_is = refl;
  offset_is = refl;
  len_is = count;
}

stream : (no_offset fin last : Bool) (id offset len : ℕ) (behind : List ℕ) → eqb offset 0 ≡ no_offset → id < 2 ^ 62
    → offset < 2 ^ 62 → (last ≡ false → len < 2 ^ 62) → OfStream fin last id offset len behind
stream true true true id offset len behind e i o l =
    stream_of 0x09 true true id offset len (length behind) behind (rw e (simp append-nil)) (omega arith) refl refl (i, tt)
    (λ f. is_zero offset e) (λ f. refl) refl refl
stream true true false id offset len behind e i o l =
    stream_of 0x0b true false id offset len len behind (rw e (simp append-nil)) (omega arith) refl refl (i, (l refl, tt))
    (λ f. is_zero offset e) (λ f. true_not_false f) refl refl
stream true false true id offset len behind e i o l =
    stream_of 0x08 false true id offset len (length behind) behind (rw e (simp append-nil)) (omega arith) refl refl (i, tt)
    (λ f. is_zero offset e) (λ f. refl) refl refl
stream true false false id offset len behind e i o l =
    stream_of 0x0a false false id offset len len behind (rw e (simp append-nil)) (omega arith) refl refl (i, (l refl, tt))
    (λ f. is_zero offset e) (λ f. true_not_false f) refl refl
stream false true true id offset len behind e i o l =
    stream_of 0x0d true true id offset len (length behind) behind (rw e (simp append-nil)) (omega arith) refl refl (i, (o, tt))
    (λ f. true_not_false f) (λ f. refl) refl refl
stream false true false id offset len behind e i o l =
    stream_of 0x0f true false id offset len len behind (rw e (simp append-nil)) (omega arith) refl refl (i, (o, (l refl, tt)))
    (λ f. true_not_false f) (λ f. true_not_false f) refl refl
stream false false true id offset len behind e i o l =
    stream_of 0x0c false true id offset len (length behind) behind (rw e (simp append-nil)) (omega arith) refl refl (i, (o, tt))
    (λ f. true_not_false f) (λ f. refl) refl refl
stream false false false id offset len behind e i o l =
    stream_of 0x0e false false id offset len len behind (rw e (simp append-nil)) (omega arith) refl refl (i, (o, (l refl, tt)))
    (λ f. true_not_false f) (λ f. true_not_false f) refl refl

flag_is : (fin : Bool) (flags : ℕ) → eqb flags 1 ≡ fin → flags ≡ 0 ⊎ flags ≡ 1 → (if fin then 1 else 0) ≡ flags
flag_is true flags e (inl z) = grind (arith, nat_tests)
flag_is true flags e (inr z) = sym z
flag_is false flags e (inl z) = sym z
flag_is false flags e (inr z) = grind (arith, nat_tests)

zero_of : (kind n : ℕ) → (kind ≡ 0x08 → ⊥) → kind ≡ 0x08 ⊎ n ≡ 0 → n ≡ 0
zero_of kind n other (inl e) = absurd (other e)
zero_of kind n other (inr e) = e

no_flags : (kind flags : ℕ) → (kind ≡ 0x08 → ⊥) → flags ≡ 0 ⊎ (kind ≡ 0x08) × (flags ≡ 1) → flags ≡ 0
no_flags kind flags other (inl e) = e
no_flags kind flags other (inr e) = absurd (other e.0)

any_flags : (kind flags : ℕ) → flags ≡ 0 ⊎ (kind ≡ 0x08) × (flags ≡ 1) → flags ≡ 0 ⊎ flags ≡ 1
any_flags kind flags (inl e) = inl e
any_flags kind flags (inr e) = inr e.1

two_are : (numbers : List ℕ) → AreTwo numbers → numbers ≡ two_numbers (first_in numbers) (second_in numbers)
two_are (a ∷ b ∷ c ∷ d ∷ e ∷ []) t = cc (t.0, t.1, t.2)
two_are [] t = absurd t
two_are (a ∷ []) t = absurd t
two_are (a ∷ b ∷ []) t = absurd t
two_are (a ∷ b ∷ c ∷ []) t = absurd t
two_are (a ∷ b ∷ c ∷ d ∷ []) t = absurd t
two_are (a ∷ b ∷ c ∷ d ∷ e ∷ f ∷ g) t = absurd t

first_fits : (numbers : List ℕ) → AreNumeric numbers → first_in numbers < 2 ^ 62
first_fits [] n = omega arith
first_fits (a ∷ numbers) n = n.0

second_fits : (numbers : List ℕ) → AreNumeric numbers → second_in numbers < 2 ^ 62
second_fits [] n = omega arith
second_fits (a ∷ []) n = omega arith
second_fits (a ∷ b ∷ numbers) n = n.1.0

by_kind : (kind flags a b len : ℕ) (last : Bool) (behind : List ℕ) → IsHeaded kind → a < 2 ^ 62 → b < 2 ^ 62
    → (kind ≡ 0x06 → len < 2 ^ 62) → (last ≡ false → len < 2 ^ 62) → kind ≡ 0x08 ⊎ a ≡ 0 → (kind ≡ 0x30 → b ≡ 0)
    → flags ≡ 0 ⊎ (kind ≡ 0x08) × (flags ≡ 1) → IsOf kind flags (two_numbers a b) len last behind
by_kind kind flags a b len last behind (inl k) fa fb counted closed id offset fl =
    let other : kind ≡ 0x08 → ⊥ = λ e. omega (arith, e, k) in
    rw (k, zero_of kind a other id, no_flags kind flags other fl) (crypto b len last behind fb (counted k))
by_kind kind flags a b len last behind (inr (inl k)) fa fb counted closed id offset fl =
    rw (k, sym (flag_is (eqb flags 1) flags refl (any_flags kind flags fl)))
    (stream (eqb b 0) (eqb flags 1) last a b len behind refl fa fb closed)
by_kind kind flags a b len last behind (inr (inr k)) fa fb counted closed id offset fl =
    let other : kind ≡ 0x08 → ⊥ = λ e. omega (arith, e, k) in
    rw (k, zero_of kind a other id, offset k, no_flags kind flags other fl) (datagram len last behind closed)

written_of : (words : CFrame) (last : Bool) (behind : List ℕ) → HasHeader words last
    → IsOf words.kind words.flags words.numbers words.data_len last behind
written_of words last behind h =
    let of =
    by_kind words.kind words.flags (first_in words.numbers) (second_in words.numbers) words.data_len last behind h.kind
    (first_fits words.numbers h.numeric) (second_fits words.numbers h.numeric) (λ k. h.counted (inl k))
    (λ l. h.counted (inr l)) h.id h.offset h.flags in
    subst (λ (ns : List ℕ). IsOf words.kind words.flags ns words.data_len last behind)
    (sym (two_are words.numbers h.two)) of

within : (limit is_datagram : Bool) (kind total : ℕ) → eqb kind 0x30 ≡ is_datagram
    → (limit ≡ true → kind ≢ 0x30 → total < 2 ^ 62)
    → (limit && (not (eqb kind 0x30) && ltb (2 ^ 62 - 1) total)) ≡ false
within false is_datagram kind total e stays = refl
within true true kind total e stays = rw e refl
within true false kind total e stays =
    let other : kind ≢ 0x30 = λ k. grind (arith, nat_tests) in
    let small = stays refl other in
    grind (arith, nat_tests)

pub read_back : (rules : Rules) (words : CFrame) (last : Bool) (behind : List ℕ) (before after : CFrame) (result : ℤ)
    → HasHeader words last → StaysWithin rules words last behind
    → AnswersHeader rules (data_header_bytes words last ++ behind) before result after
    → IsReadBack words last behind result after
read_back rules words last behind before after result has stays answers =
    let of = written_of words last behind has in
    let h = of.header in
    let bytes = data_header_bytes words last in
    let x = begins rules.short_types bytes behind h of.written in
    let total : second_in words.numbers + len_behind words last behind ≡ h.offset + h.len =
    sym (ap (λ (n : ℕ). n + h.len) of.offset_is ∙ ap (λ (n : ℕ). second_in words.numbers + n) of.len_is) in
    let kept : breaks_limit rules h ≡ false =
    within rules.data_limit (eqb (header_kind h.type) 0x30) (header_kind h.type) (h.offset + h.len) refl
    (λ l k. subst (λ (n : ℕ). n < 2 ^ 62) total (stays l (λ e. k (of.kind_is ∙ e)))) in
    let g = given rules (bytes ++ behind) h (length bytes) before after result x kept answers in
    record {
      counted = g.counted;
      place = ap (λ (w : CFrame). w.data_offset) g.shown;
      kind = ap (λ (w : CFrame). w.kind) g.shown ∙ of.kind_is;
      flags = ap (λ (w : CFrame). w.flags) g.shown ∙ of.flags_are;
      numbers = ap (λ (w : CFrame). w.numbers) g.shown ∙ ap (λ (n : ℕ). two_numbers n h.offset) of.id_is
          ∙ ap (λ (n : ℕ). two_numbers (first_in words.numbers) n) of.offset_is ∙ sym (two_are words.numbers has.two);
      len = ap (λ (w : CFrame). w.data_len) g.shown ∙ of.len_is;
    }
