-- Fields without the shape of a header describe none, and a header that they describe is written as its bytes.
use Rattle.std.proofs.Common.{◌≡◌, ◌≤◌, ◌∙◌, ℕ, List, length, ap, inl, inr, refl, arith, rules, to_z, w64}
use Rattle.std.specs.Prelude.{pos, take, drop}
use Rattle.quic_c_headers.specs.Headers.{described_bytes, IsShaped}
use Rattle.quic_c_headers.proofs.Shaping.{shaped}
use Rattle.quic_c_headers.proofs.Writing.{bare_fields, bare_length, bare_stored, bytes_described, can_described, clear_by, header_described, stored_described, written}
use Rattle.quic_c_headers.proofs.write.write_bare.Goals as goal

pub returns-then-not-is_shaped : goal.returns-then-not-is_shaped
returns-then-not-is_shaped c =
    inr (
      refl,
      inr (
        c.why_not.result,
        search rules,
        c.why_not.ensures,
        λ clear head can.
            let yes =
            c.is_shaped.ensures.1 (shaped c.args.words.now c.args.dst.now c.args.src.now c.args.token.now clear head can) in
            search (rules, yes, c.if-not-is_shaped),
      ),
    )

pub returns-then-dest-dst : goal.returns-then-dest-dst
returns-then-dest-dst c =
    let words = c.args.words.now in
    let k = c.args.kind in
    let dst : List ℕ = c.args.dst.now in
    let src : List ℕ = c.args.src.now in
    let token : List ℕ = c.args.token.now in
    let is : IsShaped words dst src token = search (rules, c.is_shaped.ensures, c.if-not-is_shaped) in
    let stored : bare_fields k words dst src ≡ stored_described k words.length_len words dst src token =
    bare_stored k words dst src token c.requires.bare in
    let same : stored_described k words.length_len words dst src token
    ≡ described_bytes words.length_len (clear_by k words.flags) (header_described k words dst src token) =
    bytes_described k words.length_len words dst src token is.numbered c.requires.kind (λ _. refl) in
    inr (
      refl,
      inl (
        search rules,
        record {
          clear = clear_by k words.flags;
          head = header_described k words dst src token;
          can = can_described k words dst src token src token is c.requires.kind (λ _. refl) (λ _. refl);
          full = omega (arith, bare_length k words dst src, ap length stored, ap length same);
        },
      ),
    )

pub returns : goal.returns
returns c =
    let words = c.args.words.now in
    let k = c.args.kind in
    let dst : List ℕ = c.args.dst.now in
    let src : List ℕ = c.args.src.now in
    let token : List ℕ = c.args.token.now in
    let n : ℕ = c.store_long_start.result in
    let new : List ℕ = c.store_long_start.new.out in
    let is : IsShaped words dst src token = search (rules, c.is_shaped.ensures, c.if-not-is_shaped) in
    let same : stored_described k words.length_len words dst src token
    ≡ described_bytes words.length_len (clear_by k words.flags) (header_described k words dst src token) =
    bytes_described k words.length_len words dst src token is.numbered c.requires.kind (λ _. refl) in
    let fields : take n new ≡ bare_fields k words dst src = search rules in
    let back : drop n new ≡ drop n c.args.dest.now = c.store_long_start.ensures.back refl refl in
    let within : n ≤ length new = search rules in
    let all = written n c.args.dest.now new _ _ within (fields ∙ bare_stored k words dst src token c.requires.bare) back same in
    let count : to_z w64 n ≡ pos n = search rules in
    inl (
      n,
      count,
      record {
        clear = clear_by k words.flags;
        head = header_described k words dst src token;
        can = can_described k words dst src token src token is c.requires.kind (λ _. refl) (λ _. refl);
        front = all.0;
        count_is = all.1;
      },
    )
