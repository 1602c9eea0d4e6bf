-- Where the packet ends whose header was read as offsets.
use Rattle.std.specs.Prelude.{◌≡◌, ℕ, ◌+◌, ◌<◌, ◌≤◌, List, length, drop, Option, None, Some, MatchOption, nat_lt, codes}
use Rattle.std.proofs.Common.{sym, arith, refl, cond, inl, inr, length-drop}
use Rattle.std.proofs.lemmas.Bool.Decides.{nat_tests}
use Rattle.quic_header_encode.specs.declared.long_type.HeaderKind.{HeaderKind}
use Rattle.quic_header_encode.specs.declared.long_type.HeaderKind.TheVariants as kind
use Rattle.quic_header_encode.specs.Kinds.{row}
use Rattle.quic_header_decode.specs.declared.fields.Place.{Place}
use Rattle.quic_header_decode.specs.declared.places.HeaderPlaces.{HeaderPlaces}
use Rattle.quic_header_decode.specs.Grammar.{Cut, HeaderAt, Uncut, past_end}
use Rattle.quic_header_decode.specs.Places.{ends_at, header_placed, header_in}
use Rattle.quic_header_decode.specs.Reading.{DecodeOptions, len_in}
use Rattle.quic_header_decode.specs.Refusal.{Invalid}
use Rattle.quic_header_decode.proofs.Steps.{chosen, none_some, some_same}

-- where a packet ends by its kind
abbrev End : HeaderKind → ℕ → ℕ → ℕ → Option ℕ
End k at len whole = cond ((row k).has_len) (cond (nat_lt whole (at + len)) None (Some (at + len))) (Some whole)

values_are : (at len whole q : ℕ) → cond (nat_lt whole (at + len)) None (Some (at + len)) ≡ Some q
    → (q ≡ at + len) × (q ≤ whole)
values_are at len whole q e = elim (chosen {A = Option ℕ} (nat_lt whole (at + len)) None (Some (at + len)) (Some q) e) [
  | inl past ↦ absurd (none_some q past.1)
  | inr within ↦
      let same : at + len ≡ q = some_same within.1 in
      let room : at + len ≤ whole = (let test = within.0 in grind (arith, nat_tests)) in
      (sym same, omega arith)
]

lacking : (at len whole : ℕ) → cond (nat_lt whole (at + len)) None (Some (at + len)) ≡ None → whole < at + len
lacking at len whole e = elim (chosen {A = Option ℕ} (nat_lt whole (at + len)) None (Some (at + len)) None e) [
  | inl past ↦ (let test = past.0 in grind (arith, nat_tests))
  | inr within ↦ absurd (none_some (at + len) (sym within.1))
]

ended : (k : HeaderKind) (first : ℕ) (dst src : List ℕ) (token : Place) (at len version whole q : ℕ)
    → End k at len whole ≡ Some q
    → MatchOption (len_in (header_placed k first dst src token len version)) (q ≡ whole) (λ n. q ≡ at + n) × (q ≤ whole)
ended kind.Initial first dst src token at len version whole q e = values_are at len whole q e
ended kind.ZeroRtt first dst src token at len version whole q e = values_are at len whole q e
ended kind.Handshake first dst src token at len version whole q e = values_are at len whole q e
ended kind.Retry first dst src token at len version whole q e =
    (let same : whole ≡ q = some_same e in (sym same, omega arith))
ended kind.Short first dst src token at len version whole q e =
    (let same : whole ≡ q = some_same e in (sym same, omega arith))
ended kind.VersionNegotiate first dst src token at len version whole q e =
    (let same : whole ≡ q = some_same e in (sym same, omega arith))

cut_short : (k : HeaderKind) (first : ℕ) (dst src : List ℕ) (token : Place) (at len version whole : ℕ)
    → End k at len whole ≡ None
    → (len_in (header_placed k first dst src token len version) ≡ Some len) × (whole < at + len)
cut_short kind.Initial first dst src token at len version whole e = (refl, lacking at len whole e)
cut_short kind.ZeroRtt first dst src token at len version whole e = (refl, lacking at len whole e)
cut_short kind.Handshake first dst src token at len version whole e = (refl, lacking at len whole e)
cut_short kind.Retry first dst src token at len version whole e = absurd (none_some whole (sym e))
cut_short kind.Short first dst src token at len version whole e = absurd (none_some whole (sym e))
cut_short kind.VersionNegotiate first dst src token at len version whole e = absurd (none_some whole (sym e))

pub whole_cut : (options : DecodeOptions) (bytes : List ℕ) (x : HeaderPlaces) (q : ℕ)
    → HeaderAt options (length bytes) bytes (header_in bytes x) (drop x.header_end bytes)
    → x.header_end ≤ length bytes → ends_at x (length bytes) ≡ Some q
    → Cut options bytes (header_in bytes x) x.header_end q
whole_cut options bytes x q read within ends =
    let e = ended x.kind x.first _ _ x.token x.header_end x.len x.version (length bytes) q ends in
    (drop x.header_end bytes, read, omega (arith, length-drop x.header_end bytes), e.0, e.1)

pub cut_off : (options : DecodeOptions) (bytes : List ℕ) (x : HeaderPlaces)
    → HeaderAt options (length bytes) bytes (header_in bytes x) (drop x.header_end bytes)
    → x.header_end ≤ length bytes → ends_at x (length bytes) ≡ None → Uncut options bytes (Invalid (codes "packet too short to contain payload length"))
cut_off options bytes x read within ends =
    let e = cut_short x.kind x.first _ _ x.token x.header_end x.len x.version (length bytes) ends in
    past_end (header_in bytes x) (drop x.header_end bytes) x.len read e.0 (omega (arith, e.1, length-drop x.header_end bytes))
