-- Fields without the shape of a header describe none, and a header that they describe is written as its bytes.
use Rattle.std.proofs.Common.{◌≡◌, ◌≤◌, ◌<◌, ◌∙◌, ℕ, List, length, IsTrue, ap, inl, inr, refl, arith, rules, to_z, w64}
use Rattle.std.proofs.lemmas.Bool.{cases_lt}
use Rattle.std.specs.Prelude.{pos, replicate, take, drop}
use Rattle.quic_header_encode.specs.Kinds.{header_text, row, says}
use Rattle.quic_header_encode.proofs.Sizes.{exact_room}
use Rattle.quic_c_headers.specs.Headers.{described_bytes}
use Rattle.quic_c_headers.specs.Headers.{worded_bytes, IsShaped}
use Rattle.quic_c_headers.proofs.Shaping.{shaped}
use Rattle.quic_c_headers.proofs.Writing.{stored_as, bytes_described, can_described, clear_by, header_described, stored_described, with_length, written}
use Rattle.quic_c_headers.proofs.write.write_as.Goals as goal

pub returns-then-not-is_shaped : goal.returns-then-not-is_shaped
returns-then-not-is_shaped c =
    inr (
      refl,
      inr (
        c.why_not.result,
        search rules,
        c.why_not.ensures,
        λ clear head can.
            let yes =
            c.is_shaped.ensures.1 (shaped c.args.words.now c.args.dst.now c.args.src.now c.args.token.now clear head can) in
            search (rules, yes, c.if-not-is_shaped),
      ),
    )

pub returns-then-not-fits : goal.returns-then-not-fits
returns-then-not-fits c =
    let words = c.args.words.now in
    let k = c.args.kind in
    let dst : List ℕ = c.args.dst.now in
    let src : List ℕ = c.source_of-source.result.now in
    let token : List ℕ = c.token_of-own.result.now in
    let len : ℕ = c.stored_length_len.result in
    let is : IsShaped words dst c.args.src.now c.args.token.now =
    search (rules, c.is_shaped.ensures, c.if-not-is_shaped) in
    let front = header_text (replicate len 0) (says (row k) c.first_word.result words.version dst src token c.written_part-number.result) in
    let small : length c.args.dest.now < length front = elim (cases_lt (length c.args.dest.now) (length front)) [
      | inl less ↦ less
      | inr fits ↦ absurd (let no = c.if-not-fits.ensures.1 fits in search (rules, no))
    ] in
    let stored : front ≡ stored_described k len words dst src token =
    stored_as k c.first_word.result len words dst src token c.written_part-number.result c.first_word.ensures c.written_part-number.ensures.value in
    let same : stored_described k len words dst src token ≡ described_bytes words.length_len (clear_by k words.flags)
    (header_described k words dst src token) =
    bytes_described k len words dst src token is.numbered c.requires.kind c.stored_length_len.ensures.same in
    inr (
      refl,
      inl (
        search rules,
        record {
          clear = clear_by k words.flags;
          head = header_described k words dst src token;
          can = can_described k words dst c.args.src.now c.args.token.now src token is c.requires.kind
              c.source_of-source.ensures.has c.token_of-own.ensures.has;
          full = omega (arith, small, ap length stored, ap length same);
        },
      ),
    )

pub returns-then-has_len : goal.returns-then-has_len
returns-then-has_len c =
    let words = c.args.words.now in
    let k = c.args.kind in
    let dst : List ℕ = c.args.dst.now in
    let src : List ℕ = c.args.src.now in
    let token : List ℕ = c.token_of-own.result.now in
    let n : ℕ = c.store_numbered.result in
    let new : List ℕ = c.store_numbered.new.dest in
    let is : IsShaped words dst src c.args.token.now = search (rules, c.is_shaped.ensures, c.if-not-is_shaped) in
    let has : IsTrue (row k).has_len = search (rules, c.has_len.ensures, c.if-has_len) in
    let same =
    bytes_described k words.length_len words dst src token is.numbered c.requires.kind (λ _. refl) in
    let within : n ≤ length new = search rules in
    let all =
    written n c.args.dest.now new _ _ within c.store_numbered.ensures.front c.store_numbered.ensures.back same in
    let count : to_z w64 n ≡ pos n = search rules in
    inl (
      n,
      count,
      record {
        clear = clear_by k words.flags;
        head = header_described k words dst src token;
        can = can_described k words dst src c.args.token.now src token is c.requires.kind (λ _. refl) c.token_of-own.ensures.has;
        front = all.0;
        count_is = all.1;
      },
    )

pub returns-else-has_len : goal.returns-else-has_len
returns-else-has_len c =
    let words = c.args.words.now in
    let k = c.args.kind in
    let dst : List ℕ = c.args.dst.now in
    let src : List ℕ = c.source_of-source.result.now in
    let token : List ℕ = c.token_of-own.result.now in
    let n : ℕ = c.store.result in
    let new : List ℕ = c.store.new.out in
    let is : IsShaped words dst c.args.src.now c.args.token.now =
    search (rules, c.is_shaped.ensures, c.if-not-is_shaped) in
    let same : stored_described k c.stored_length_len.result words dst src token
    ≡ described_bytes words.length_len (clear_by k words.flags) (header_described k words dst src token) =
    bytes_described k c.stored_length_len.result words dst src token is.numbered c.requires.kind c.stored_length_len.ensures.same in
    let front : take n new ≡ stored_described k c.stored_length_len.result words dst src token = c.store.ensures.front
    ∙ stored_as k c.first_word.result c.stored_length_len.result words dst src token c.written_part-number.result
    c.first_word.ensures c.written_part-number.ensures.value in
    let back : drop n new ≡ drop n c.args.dest.now = c.store.ensures.back (record { dst = refl; src = refl }) in
    let within : n ≤ length new = search rules in
    let all = written n c.args.dest.now new _ _ within front back same in
    let count : to_z w64 n ≡ pos n = search rules in
    inl (
      n,
      count,
      record {
        clear = clear_by k words.flags;
        head = header_described k words dst src token;
        can = can_described k words dst c.args.src.now c.args.token.now src token is c.requires.kind
            c.source_of-source.ensures.has c.token_of-own.ensures.has;
        front = all.0;
        count_is = all.1;
      },
    )

pub store_numbered-requires-clause-room : goal.store_numbered-requires-clause-room
store_numbered-requires-clause-room c =
    let words = c.args.words.now in
    let k = c.args.kind in
    let dst : List ℕ = c.args.dst.now in
    let source : List ℕ = c.source_of-source.result.now in
    let token : List ℕ = c.token_of-own.result.now in
    let len : ℕ = c.stored_length_len.result in
    let front = header_text (replicate len 0) (says (row k) c.first_word.result words.version dst source token c.written_part-number.result) in
    let is : IsShaped words dst c.args.src.now c.args.token.now =
    search (rules, c.is_shaped.ensures, c.if-not-is_shaped) in
    let has : IsTrue (row k).has_len = search (rules, c.has_len.ensures, c.if-has_len) in
    let low : words.kind ≤ 2 = with_length k words c.requires.kind has in
    let fits : length front ≤ length c.args.dest.now = search (rules, c.fits.ensures, c.if-not-fits) in
    let stored : front ≡ stored_described k len words dst source token =
    stored_as k c.first_word.result len words dst source token c.written_part-number.result c.first_word.ensures c.written_part-number.ensures.value in
    let counted : stored_described k len words dst source token ≡ worded_bytes k words dst source token =
    ap (λ (n : ℕ). stored_described k n words dst source token) (c.stored_length_len.ensures.same (is.numbered.len low)) in
    let from : worded_bytes k words dst source token ≡ worded_bytes k words dst c.args.src.now token =
    ap (λ (xs : List ℕ). worded_bytes k words dst xs token) (c.source_of-source.ensures.has (λ e. omega (arith, e, low))) in
    omega (arith, fits, ap length stored, ap length counted, ap length from)

pub store-requires-clause-room : goal.store-requires-clause-room
store-requires-clause-room c =
    let fits = c.fits.ensures.0 (search (rules, c.if-not-fits)) in
    exact_room (λ i. i.0.now) _ _ fits
