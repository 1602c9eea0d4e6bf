-- The fields after a header.
use Rattle.std.specs.Prelude.{nat_eq, nat_lt, ◌⊎◌, ◌%◌, ◌/◌, ◌<◌}
use Rattle.std.proofs.Common.{◌≡◌, ℕ, ◌+◌, ◌-◌, ◌*◌, true, List, [], ◌∷◌, ◌++◌, length, take, drop, slice_set, refl, sym, ap, subst, ◌∙◌, inl, inr, length-append, length-take, length-drop, arith}
use Rattle.std.proofs.lemmas.Bool.Decides.{nat_tests}
use Rattle.std.proofs.lemmas.List.{take-append-drop}
use Rattle.quic_fields.specs.declared.field.Span.{Span}
use Rattle.quic_fields.specs.Spans.{AreInRow, AreNumbered}
use Rattle.quic_fields.specs.Walk.{stored, last_end}
use Rattle.quic_header_encode.specs.declared.long_type.HeaderKind.{HeaderKind}
use Rattle.quic_header_encode.specs.declared.long_type.HeaderKind.TheVariants as kind
use Rattle.quic_header_decode.specs.declared.fields.Place.{Place}
use Rattle.quic_header_decode.specs.declared.protected.ProtectedHeader.{ProtectedHeader}
use Rattle.quic_header_decode.specs.declared.protected.ProtectedHeader.TheVariants as protected
use Rattle.quic_header_decode.specs.Grammar.{HeaderAt}
use Rattle.quic_header_decode.specs.Places.{header_placed}
use Rattle.quic_header_decode.specs.Reading.{DecodeOptions}
use Rattle.quic_header_decode.proofs.Steps.{bool_cases}
use Rattle.quic_header_fields.specs.After.{bytes_span, after_at, AreAfter, HasFields}
use Rattle.quic_header_fields.specs.Walk.{Walked, header_walk}
use Rattle.quic_header_fields.proofs.HeaderLaws.{header_with_spans, header_walk_again, header_in_row}
use Rattle.quic_header_fields.proofs.Walks.{last_in_row}

-- ---- what the code computes is what the definition says

negotiation_is : (random : ℕ) (dst src : List ℕ) (index start : ℕ) (rest : List ℕ)
    → AreAfter (protected.VersionNegotiate random dst src) index start rest
    (after_at kind.VersionNegotiate index start (length rest))
negotiation_is random dst src index start rest = elim (bool_cases (nat_eq (length rest % 4) 0)) [
  | inl whole ↦
      let size : length rest ≡ length rest / 4 * 4 = grind (arith, nat_tests, whole) in
      rw (whole) (inl (length rest / 4, size, refl))
  | inr part ↦
      rw (part) (inr ((λ n e. (let no : nat_eq (length rest % 4) 0 ≡ true = grind (arith, nat_tests, e) in cc)), refl))
]

retry_is : (dst src : List ℕ) (version index start : ℕ) (rest : List ℕ)
    → AreAfter (protected.Retry dst src version) index start rest (after_at kind.Retry index start (length rest))
retry_is dst src version index start rest = elim (bool_cases (nat_lt (length rest) 16)) [
  | inl few ↦ rw (few) (inr ((let short : length rest < 16 = grind (arith, nat_tests, few) in short), refl))
  | inr enough ↦
      let n : ℕ = length rest - 16 in
      let token : List ℕ = take n rest in
      let width : length token ≡ n = omega (arith, length-take n rest) in
      let tag : length (drop n rest) ≡ 16 = grind (arith, nat_tests, enough, length-drop n rest) in
      rw (enough) (inl (
        token,
        drop n rest,
        sym (take-append-drop n rest),
        tag,
        ap (λ (k : ℕ). bytes_span index start k k ∷ bytes_span (index + 1) (start + k) 16 16 ∷ []) (sym width),
      ))
]

after_placed : (k : HeaderKind) (first : ℕ) (dst src : List ℕ) (token : Place) (len version index start : ℕ)
    (rest : List ℕ)
    → AreAfter (header_placed k first dst src token len version) index start rest (after_at k index start (length rest))
after_placed kind.Initial first dst src token len version index start rest = refl
after_placed kind.ZeroRtt first dst src token len version index start rest = refl
after_placed kind.Handshake first dst src token len version index start rest = refl
after_placed kind.Retry first dst src token len version index start rest = retry_is dst src version index start rest
after_placed kind.Short first dst src token len version index start rest = refl
after_placed kind.VersionNegotiate first dst src token len version index start rest =
    negotiation_is (first - 128) dst src index start rest

-- ---- one list

pub one_after : (h : ProtectedHeader) (index start : ℕ) (rest : List ℕ) (spans others : List Span)
    → AreAfter h index start rest spans → AreAfter h index start rest others → spans ≡ others
one_after (protected.VersionNegotiate random dst src) index start rest spans others (inl a) (inl b) =
    let same : a.0 ≡ b.0 = omega (arith, a.1, b.1) in
    a.2 ∙ ap (λ (n : ℕ). bytes_span index start (length rest) n ∷ []) same ∙ sym b.2
one_after (protected.VersionNegotiate random dst src) index start rest spans others (inl a) (inr b) = absurd (b.0 a.0 a.1)
one_after (protected.VersionNegotiate random dst src) index start rest spans others (inr a) (inl b) = absurd (a.0 b.0 b.1)
one_after (protected.VersionNegotiate random dst src) index start rest spans others (inr a) (inr b) = a.1 ∙ sym b.1
one_after (protected.Retry dst src version) index start rest spans others (inl a) (inl b) =
    let same : length a.0 ≡ length b.0 =
    omega (arith, ap length a.2, ap length b.2, length-append a.0 a.1, length-append b.0 b.1, a.3, b.3) in
    a.4 ∙ ap (λ (k : ℕ). bytes_span index start k k ∷ bytes_span (index + 1) (start + k) 16 16 ∷ []) same ∙ sym b.4
one_after (protected.Retry dst src version) index start rest spans others (inl a) (inr b) =
    absurd (omega (arith, ap length a.2, length-append a.0 a.1, a.3, b.0))
one_after (protected.Retry dst src version) index start rest spans others (inr a) (inl b) =
    absurd (omega (arith, ap length b.2, length-append b.0 b.1, b.3, a.0))
one_after (protected.Retry dst src version) index start rest spans others (inr a) (inr b) = a.1 ∙ sym b.1
one_after (protected.Initial h) index start rest spans others a b = a ∙ sym b
one_after (protected.Long ty dst src len version) index start rest spans others a b = a ∙ sym b
one_after (protected.Short spin dst) index start rest spans others a b = a ∙ sym b

-- ---- two lists, one after the other

stored_both : (index : ℕ) (spans others room : List Span)
    → stored (index + length spans) others (stored index spans room) ≡ stored index (spans ++ others) room
stored_both index [] others room = ap (λ (k : ℕ). stored k others room) (omega arith)
stored_both index (p ∷ ps) others room =
    ap (λ (k : ℕ). stored k others (stored index (p ∷ ps) room)) (let e : index + length (p ∷ ps) ≡ index + 1 + length ps = omega arith in e)
    ∙ stored_both (index + 1) ps others (slice_set room index p)

in_row_both : (start middle end : ℕ) (spans others : List Span) → AreInRow start spans middle
    → AreInRow middle others end → AreInRow start (spans ++ others) end
in_row_both start middle end [] others a b = subst (λ (k : ℕ). AreInRow k others end) (sym a) b
in_row_both start middle end (p ∷ ps) others a b = (a.0, a.1, in_row_both p.end middle end ps others a.2 b)

after_in_row : (k : HeaderKind) (index start n : ℕ) → AreInRow start (after_at k index start n) (last_end start (after_at k index start n))
after_in_row kind.Initial index start n = refl
after_in_row kind.ZeroRtt index start n = refl
after_in_row kind.Handshake index start n = refl
after_in_row kind.Short index start n = refl
after_in_row kind.VersionNegotiate index start n = elim (bool_cases (nat_eq (n % 4) 0)) [
  | inl whole ↦ rw (whole) (refl, omega arith, refl)
  | inr part ↦ rw (part) refl
]
after_in_row kind.Retry index start n = elim (bool_cases (nat_lt n 16)) [
  | inl few ↦ rw (few) refl
  | inr enough ↦ rw (enough) (refl, omega arith, (refl, omega arith, refl))
]

-- ---- the contract of the call

pub has_fields : (options : DecodeOptions) (bytes : List ℕ) (old mid new : List Span) (count end all last : ℕ)
    (k : HeaderKind) (first : ℕ) (dst src : List ℕ) (token : Place) (len version : ℕ) (rest : List ℕ)
    → HeaderAt options (length bytes) bytes (header_placed k first dst src token len version) rest
    → mid ≡ stored 0 (header_walk options bytes).0 old → count ≡ length (header_walk options bytes).0
    → end ≡ last_end 0 (header_walk options bytes).0
    → new ≡ stored count (after_at k count end (length bytes - end)) mid
    → all ≡ count + length (after_at k count end (length bytes - end))
    → last ≡ last_end end (after_at k count end (length bytes - end))
    → HasFields options bytes old new all last
has_fields options bytes old mid new count end all last k first dst src token len version rest at there counted ended
    others_there others_counted others_ended =
    let h = header_placed k first dst src token len version in
    let s = header_with_spans options (length bytes) bytes h rest at in
    let again = header_walk_again options (length bytes) bytes h s.0 rest s.1 in
    let same : (header_walk options bytes).0 ≡ s.0 = ap (λ (w : Walked). w.0) again.1 in
    let row = header_in_row options (length bytes) bytes h s.0 rest s.1 in
    let stop : last_end 0 s.0 ≡ length row.0 = last_in_row 0 (length row.0) s.0 row.2 in
    let end_is : end ≡ length row.0 = ended ∙ ap (last_end 0) same ∙ stop in
    let ends : end + length rest ≡ length bytes = omega (arith, end_is, ap length row.1, length-append row.0 rest) in
    let left : length bytes - end ≡ length rest = omega (arith, ends) in
    let index : count ≡ length s.0 = counted ∙ ap length same in
    let others : List Span = after_at k count end (length bytes - end) in
    let others_is : others ≡ after_at k (length s.0) end (length rest) =
    ap (λ (n : ℕ). after_at k n end (length bytes - end)) index ∙ ap (λ (m : ℕ). after_at k (length s.0) end m) left in
    let from_zero : count ≡ 0 + length s.0 = omega (arith, index) in
    record {
      header = h;
      spans = s.0;
      others = others;
      start = end;
      rest = rest;
      here = s.1;
      ends = ends;
      after = subst (λ (l : List Span). AreAfter h (length s.0) end rest l) (sym others_is)
          (after_placed k first dst src token len version (length s.0) end rest);
      room = others_there
          ∙ ap (λ (m : List Span). stored count others m) (there ∙ ap (λ (l : List Span). stored 0 l old) same)
          ∙ ap (λ (n : ℕ). stored n others (stored 0 s.0 old)) from_zero
          ∙ stored_both 0 s.0 others old;
      all = omega (arith, others_counted, index, length-append s.0 others);
      stop = in_row_both 0 end last s.0 others (subst (AreInRow 0 s.0) (sym end_is) row.2)
          (subst (AreInRow end others) (sym others_ended) (after_in_row k count end (length bytes - end)));
    }

-- ---- laws

pub some_after : (h : ProtectedHeader) (index start : ℕ) (rest : List ℕ)
    → (spans : List Span) × AreAfter h index start rest spans
some_after (protected.VersionNegotiate random dst src) index start rest =
    (after_at kind.VersionNegotiate index start (length rest), negotiation_is random dst src index start rest)
some_after (protected.Retry dst src version) index start rest =
    (after_at kind.Retry index start (length rest), retry_is dst src version index start rest)
some_after (protected.Initial h) index start rest = ([], refl)
some_after (protected.Long ty dst src len version) index start rest = ([], refl)
some_after (protected.Short spin dst) index start rest = ([], refl)

pub row_after : (h : ProtectedHeader) (index start : ℕ) (rest : List ℕ) (spans : List Span)
    → AreAfter h index start rest spans
    → (spans ≡ []) ⊎ (AreInRow start spans (start + length rest) × AreNumbered index spans)
row_after (protected.VersionNegotiate random dst src) index start rest spans (inl a) =
    rw (a.2) (inr ((refl, omega arith, refl), (refl, tt)))
row_after (protected.VersionNegotiate random dst src) index start rest spans (inr a) = inl a.1
row_after (protected.Retry dst src version) index start rest spans (inl a) =
    let end : start + length a.0 + 16 ≡ start + length rest = omega (arith, ap length a.2, length-append a.0 a.1, a.3) in
    rw (a.4) (inr ((refl, omega arith, (refl, omega arith, end)), (refl, (refl, tt))))
row_after (protected.Retry dst src version) index start rest spans (inr a) = inl a.1
row_after (protected.Initial h) index start rest spans a = inl a
row_after (protected.Long ty dst src len version) index start rest spans a = inl a
row_after (protected.Short spin dst) index start rest spans a = inl a
