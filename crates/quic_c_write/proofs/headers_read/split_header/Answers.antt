use Rattle.std.proofs.Common.{◌≡◌, ℕ, ◌-◌, true, false, length, refl, sym, subst, ◌∙◌, rules}
use Rattle.std.specs.Prelude.{◌==◌, ◌&&◌, not, if◌then◌else◌}
use Rattle.quic_frames.specs.Rules.{ends_past}
use Rattle.quic_c_write.specs.Headers.{IsHeaded, has_fin}
use Rattle.quic_c_write.proofs.HeaderOnce.{header_of}
use Rattle.quic_c_write.proofs.HeaderSteps.{whole_header, words_are}
use Rattle.quic_c_write.proofs.headers_read.split_header.Goals as goal

pub returns-then-is_too_far : goal.returns-then-is_too_far
returns-then-is_too_far c =
    let bytes = c.args.bytes.now in
    let rest = c.in-Some.rest.now in
    let count = length bytes - length rest in
    let len = c.data_len-len.result in
    let kind = c.in_ok-kind.ensures.kind in
    record {
      header = header_of c.in_ok-ty.ty c.in-Some.id c.in-Some.offset len;
      count = count;
      begins = whole_header c.args.rules.short_types bytes c.in_ok-ty.ty c.in-Some.id c.in-Some.offset c.in-Some.written
          len count c.in_ok-ty.behind.now rest c.in_ok-ty.ensures (subst IsHeaded kind.0 kind.1)
          c.in-Some.ensures.found c.in-Some.ensures.id c.in-Some.ensures.offset c.data_len-len.ensures.value refl;
      broken = subst (λ (k : ℕ). (c.args.rules.data_limit && (not (k == 0x30) && ends_past c.in-Some.offset len)) ≡ true)
          kind.0 (sym c.is_too_far.ensures ∙ c.if-is_too_far.true);
    }

pub returns : goal.returns
returns c =
    let bytes = c.args.bytes.now in
    let rest = c.in-Some.rest.now in
    let count = length bytes - length rest in
    let len = c.data_len-len.result in
    let kind = c.in_ok-kind.ensures.kind in
    let fin : c.from.result ≡ (if has_fin c.in_ok-ty.ty then 1 else 0) = search rules in
    record {
      header = header_of c.in_ok-ty.ty c.in-Some.id c.in-Some.offset len;
      count = count;
      begins = whole_header c.args.rules.short_types bytes c.in_ok-ty.ty c.in-Some.id c.in-Some.offset c.in-Some.written
          len count c.in_ok-ty.behind.now rest c.in_ok-ty.ensures (subst IsHeaded kind.0 kind.1)
          c.in-Some.ensures.found c.in-Some.ensures.id c.in-Some.ensures.offset c.data_len-len.ensures.value refl;
      kept = subst (λ (k : ℕ). (c.args.rules.data_limit && (not (k == 0x30) && ends_past c.in-Some.offset len)) ≡ false)
          kind.0 (sym c.is_too_far.ensures ∙ c.if-is_too_far.false);
      counted = refl;
      shown = words_are (header_of c.in_ok-ty.ty c.in-Some.id c.in-Some.offset len) count c.in_ok-kind.kind c.from.result
          kind.0 fin;
    }
