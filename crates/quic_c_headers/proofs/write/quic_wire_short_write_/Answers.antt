-- The bytes written for a short header are the header that its fields describe.
use Rattle.std.proofs.Common.{◌≡◌, ◌≤◌, ℕ, List, [], length, length-append, ap, refl, inl, inr, arith, rules, to_z, w64}
use Rattle.std.specs.Prelude.{pos}
use Rattle.quic_base.specs.Number.{bytes_of}
use Rattle.quic_base.proofs.PublicLaws.{length-bytes_of}
use Rattle.quic_header_encode.specs.declared.long_type.HeaderKind.TheVariants as kind
use Rattle.quic_c_headers.specs.Headers.{IsShaped}
use Rattle.quic_c_headers.proofs.Shaping.{shaped}
use Rattle.quic_c_headers.proofs.Writing.{clear_by, header_described, short_can, short_described, short_stored, short_wrote}
use Rattle.quic_c_headers.proofs.write.quic_wire_short_write_.Goals as goal

pub returns-then-not-is_shaped-clause-short : goal.returns-then-not-is_shaped-clause-short
returns-then-not-is_shaped-clause-short c = λ _.
    inr (
      refl,
      inr (
        c.why_not.result,
        search rules,
        c.why_not.ensures,
        λ clear head can.
            let yes = c.is_shaped.ensures.1 (shaped c.args.words.now c.args.dst.now [] [] clear head can) in
            search (rules, yes, c.if-not-is_shaped),
      ),
    )

pub returns-then-dest-behind_first-clause-short : goal.returns-then-dest-behind_first-clause-short
returns-then-dest-behind_first-clause-short c = λ short.
    let words = c.args.words.now in
    let dst : List ℕ = c.args.dst.now in
    let is : IsShaped words dst [] [] = search (rules, c.is_shaped.ensures, c.if-not-is_shaped) in
    let number = is.numbered.number (inr short) in
    inr (
      refl,
      inl (
        search rules,
        record {
          clear = clear_by kind.Short words.flags;
          head = header_described kind.Short words dst [] [];
          can = short_can words dst is short;
          full = omega (
            arith,
            ap length (short_described words dst is short),
            ap length (short_stored words dst number.0 number.1),
            length-append dst (bytes_of words.number_len words.number),
            length-bytes_of words.number_len words.number,
          );
        },
      ),
    )

pub returns-then-behind_first-lt4-clause-short : goal.returns-then-behind_first-lt4-clause-short
returns-then-behind_first-lt4-clause-short c = λ short.
    let words = c.args.words.now in
    let dst : List ℕ = c.args.dst.now in
    let n : ℕ = c.store_short_parts.result in
    let new : List ℕ = c.store_short_parts.new.dest in
    let is : IsShaped words dst [] [] = search (rules, c.is_shaped.ensures, c.if-not-is_shaped) in
    let within : n ≤ length new = search rules in
    let count : to_z w64 n ≡ pos n = search rules in
    inl (
      n,
      count,
      short_wrote words dst c.args.dest.now new n is short within c.store_short_parts.ensures.front
          c.store_short_parts.ensures.back,
    )

pub returns-clause-short : goal.returns-clause-short
returns-clause-short c = λ short.
    let words = c.args.words.now in
    let dst : List ℕ = c.args.dst.now in
    let n : ℕ = c.store_short_covered.result in
    let new : List ℕ = c.store_short_covered.new.dest in
    let is : IsShaped words dst [] [] = search (rules, c.is_shaped.ensures, c.if-not-is_shaped) in
    let within : n ≤ length new = search rules in
    let count : to_z w64 n ≡ pos n = search rules in
    inl (
      n,
      count,
      short_wrote words dst c.args.dest.now new n is short within c.store_short_covered.ensures.front
          c.store_short_covered.ensures.back,
    )
