-- What the flags of RFC 9000's way of reading find is what it allows; without flags, what is cut with the fixed bit
-- checked.
use Rattle.std.specs.Prelude.{◌≡◌, ◌≢◌, ◌↔◌, ℕ, ◌⊎◌, Bool, true, false, List, [], ◌∷◌, Result, Ok, Err, slice_index}
use Rattle.std.proofs.Common.{refl, sym, subst, arith, inl, inr}
use Rattle.std.proofs.lemmas.Bool.Decides.{nat_tests}
use Rattle.quic_base.specs.Number.{has_bit}
use Rattle.quic_header_decode.specs.declared.protected.ProtectedHeader.{ProtectedHeader}
use Rattle.quic_header_decode.specs.Grammar.{Cut}
use Rattle.quic_header_decode.specs.Parsers.{fixed_parsed}
use Rattle.quic_header_decode.specs.Places.{any_fixed}
use Rattle.quic_header_decode.specs.Reading.{read_by}
use Rattle.quic_header_decode.specs.Rfc.{IsRfcRefused, RfcPacketAnswer, RfcRefusal}
use Rattle.quic_header_decode.specs.Rfc as rfc
use Rattle.quic_header_decode.proofs.RfcPackets.{checked, cut_fixed, packet_present, relaxed, unknown_present}
use Rattle.quic_c_headers.specs.Packets.{IsRefusedBy, PacketAnswerBy, fixed_bit, retry, uncut, unknown_version}
use Rattle.quic_c_headers.specs.Reading.{LacksFixedBit}

rfc_lacks : (id_len : ℕ) (versions bytes : List ℕ) → LacksFixedBit 0x3ef versions bytes
    → rfc.LacksFixedBit (any_fixed id_len versions) bytes
rfc_lacks id_len versions [] lacks = absurd (lacks.some refl)
rfc_lacks id_len versions (first ∷ text) lacks = record {
  first = first;
  text = text;
  begins = refl;
  clear = lacks.clear;
  counts = elim (lacks.counts refl) [
    | inl short ↦ inl (grind (arith, nat_tests))
    | inr known ↦ inr (omega (arith, known.0), (known.1, known.2))
  ];
}

lacks_rfc : (id_len : ℕ) (versions bytes : List ℕ) → rfc.LacksFixedBit (any_fixed id_len versions) bytes
    → LacksFixedBit 0x3ef versions bytes
lacks_rfc id_len versions bytes lacks =
    subst (LacksFixedBit 0x3ef versions) (sym lacks.begins) (record {
      some = λ e. cc;
      clear = lacks.clear;
      asked = refl;
      counts = λ _. elim lacks.counts [
        | inl short ↦ inl (grind (arith, nat_tests))
        | inr known ↦ inr (omega (arith, known.0), known.1.0, known.1.1)
      ];
    })

refused_rfc : (id_len : ℕ) (versions bytes : List ℕ) (e : RfcRefusal) → IsRefusedBy 0x3ef id_len versions bytes e
    → IsRfcRefused (any_fixed id_len versions) bytes e
refused_rfc id_len versions bytes _ (fixed_bit l) = rfc.fixed_bit (rfc_lacks id_len versions bytes l)
refused_rfc id_len versions bytes _ (unknown_version n d s present u) = rfc.unknown_version n d s u
refused_rfc id_len versions bytes _ (uncut e present known is) =
    rfc.uncut e (λ l. present (lacks_rfc id_len versions bytes l)) known is
refused_rfc id_len versions bytes _ (retry h p q asked present cut partial) =
    rfc.retry h p q (λ l. present (lacks_rfc id_len versions bytes l)) cut partial

rfc_refused : (id_len : ℕ) (versions bytes : List ℕ) (e : RfcRefusal)
    → IsRfcRefused (any_fixed id_len versions) bytes e → IsRefusedBy 0x3ef id_len versions bytes e
rfc_refused id_len versions bytes _ (rfc.fixed_bit l) = fixed_bit (lacks_rfc id_len versions bytes l)
rfc_refused id_len versions bytes _ (rfc.unknown_version n d s u) =
    unknown_version n d s (λ l. unknown_present (any_fixed id_len versions) bytes d s n u (rfc_lacks id_len versions bytes l)) u
rfc_refused id_len versions bytes _ (rfc.uncut e present known is) =
    uncut e (λ l. present (rfc_lacks id_len versions bytes l)) known is
rfc_refused id_len versions bytes _ (rfc.retry h p q present cut partial) =
    retry h p q refl (λ l. present (rfc_lacks id_len versions bytes l)) cut partial

pub rfc_same : (id_len : ℕ) (versions bytes : List ℕ) (answer : Result (ProtectedHeader × ℕ × ℕ) RfcRefusal)
    → (PacketAnswerBy 0x3ef id_len versions bytes answer ↔ RfcPacketAnswer (any_fixed id_len versions) bytes answer)
rfc_same id_len versions bytes (Ok x) = (
  (λ is. record {
    cut = is.cut;
    fixed = cut_fixed (any_fixed id_len versions) bytes x.0 x.1 x.2
        (λ l. is.fixed (lacks_rfc id_len versions bytes l)) is.cut;
    complete = is.complete refl;
  }),
  (λ is. record {
    cut = is.cut;
    fixed = λ l. packet_present (any_fixed id_len versions) bytes x.0 x.1 x.2
        is (rfc_lacks id_len versions bytes l);
    complete = λ _. is.complete;
  }),
)
rfc_same id_len versions bytes (Err e) =
    (refused_rfc id_len versions bytes e, rfc_refused id_len versions bytes e)

-- ---- no flags

plain_lacks : (versions bytes : List ℕ) → bytes ≢ [] → has_bit 0x40 (slice_index bytes 0) ≡ false
    → LacksFixedBit 0 versions bytes
plain_lacks versions bytes some clear =
    record { some = some; clear = clear; asked = refl; counts = λ e. absurd cc }

bool_cases : (b : Bool) → (b ≡ true) ⊎ (b ≡ false)
bool_cases true = inl refl
bool_cases false = inr refl

pub plain_same : (id_len : ℕ) (versions bytes : List ℕ) (h : ProtectedHeader) (p q : ℕ)
    → (PacketAnswerBy 0 id_len versions bytes (Ok (h, p, q))
    ↔ Cut (read_by (fixed_parsed id_len) versions false) bytes h p q)
plain_same id_len versions bytes h p q = (
  (λ is. elim (bool_cases (has_bit 0x40 (slice_index bytes 0))) [
    | inl set ↦ checked (any_fixed id_len versions) bytes h p q is.cut set
    | inr clear ↦ absurd (is.fixed (plain_lacks versions bytes
        (λ none. (let split = is.cut.1.3 in cc)) clear))
  ]),
  (λ cut.
      let r = relaxed (any_fixed id_len versions) bytes h p q cut in record {
        cut = r.0;
        fixed = λ lacks. (let set = r.1 in let clear = lacks.clear in cc);
        complete = λ asked. absurd cc;
      }),
)
