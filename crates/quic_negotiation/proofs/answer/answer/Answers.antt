-- The ids are those of the packet that is answered, and no version is 0.
use Rattle.std.proofs.Common.{◌≡◌, ◌<◌, ◌^◌, ◌∙◌, ℕ, List, true, length, inl, inr, sym, ap, rules, arith}
use Rattle.std.specs.Prelude.{Contains, slice_index}
use Rattle.quic_versions.specs.Versions.{version_bytes}
use Rattle.quic_versions.proofs.Lists.{is_nil}
use Rattle.quic_versions.proofs.Stored.{are_stored}
use Rattle.quic_negotiation.proofs.Fronts.{same_ids}
use Rattle.quic_negotiation.proofs.Made.{low_bits, negotiation, some_items}
use Rattle.quic_negotiation.proofs.answer.answer.Goals.{then-version-eq0-via-then-version-eq0, then-version-eq0-via-else-version-eq0+then-is_empty, then-version-eq0-via-else-version-eq0+else-is_empty+then-has_zero, then-version-eq0-via-else-version-eq0+else-is_empty+else-has_zero+then-dest-needed}
use Rattle.quic_negotiation.proofs.answer.answer.Goals as goal

pub returns-in_err-version-clause-none : goal.returns-in_err-version-clause-none
returns-in_err-version-clause-none c = λ _ version dst src rest is other.
    absurd (c.in_err-version.ensures.read version dst src rest is)

pub returns-then-version-eq0-clause-none : goal.returns-then-version-eq0-clause-none
returns-then-version-eq0-clause-none c = λ _ version dst src rest is other.
    let found = c.in_ok-version.ensures.read in
    let same =
    same_ids c.in_ok-version.version version c.args.received.now c.in_ok-version.dst.now c.in_ok-version.src.now found.0
    dst src rest found.1 is in
    elim c.then-version-eq0.branch [
      | then-version-eq0-via-then-version-eq0 w ↦ absurd (other (omega (arith, same.0, w.if-version-eq0)))
      | then-version-eq0-via-else-version-eq0+then-is_empty w ↦ let told : w.is_empty.result ≡ true = search (rules, w.if-is_empty) in
          inl (is_nil c.args.versions.now (sym w.is_empty.ensures ∙ told))
      | then-version-eq0-via-else-version-eq0+else-is_empty+then-has_zero w ↦ inr
          (inl (w.has_zero.ensures.0 (search (rules, w.if-has_zero))))
      | then-version-eq0-via-else-version-eq0+else-is_empty+else-has_zero+then-dest-needed w ↦ inr
          (inr (omega (arith, w.if-dest-needed, ap length same.1, ap length same.2)))
    ]

pub returns-clause-answers : goal.returns-clause-answers
returns-clause-answers c =
    let versions : List ℕ = c.args.versions.now in
    let found = c.in_ok-version.ensures.read in
    let fits : (i : ℕ) → slice_index versions i < 2 ^ 32 = λ i. (c.type_inv.versions i).fits in
    let none : Contains versions 0 → ⊥ = λ s. absurd (cc (c.has_zero.ensures.1 s, c.if-has_zero.false)) in record {
      version = c.in_ok-version.version;
      dst = c.in_ok-version.dst.now;
      src = c.in_ok-version.src.now;
      rest = found.0;
      list = version_bytes versions;
      answered = found.1;
      other = λ zero. absurd (omega (arith, zero, c.if-version-eq0.false));
      negotiation = negotiation c.args.first c.in_ok-version.src.now c.in_ok-version.dst.now (version_bytes versions) _
          c.store_packet.ensures.front;
      listed = are_stored versions fits none;
      some = some_items versions c.is_empty.result c.is_empty.ensures c.if-is_empty.false;
      bits = low_bits c.args.first _ _ c.store_packet.ensures.front;
    }
