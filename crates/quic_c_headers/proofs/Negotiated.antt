-- Version negotiation packets: one has its ids in one way, and is reported as a header of its kind; and their bytes.
use Rattle.std.proofs.Common.{◌≡◌, ℕ, ◌+◌, ◌-◌, ◌*◌, ◌%◌, ◌<◌, ◌≤◌, List, [], ◌∷◌, ◌++◌, length, take, drop, refl, sym, ap, subst, ◌∙◌, arith}
use Rattle.std.specs.Prelude.{bit_or, bit_xor, slice_index, slice_range, Ok}
use Rattle.std.proofs.lemmas.Bool.Decides.{nat_tests}
use Rattle.std.proofs.lemmas.List.{append_assoc, drop-drop, length-append}
use Rattle.std.proofs.lemmas.Nat.{le_or_l}
use Rattle.quic_base.specs.ConnectionId.{long_id}
use Rattle.quic_base.specs.Number.{bytes_of}
use Rattle.quic_base.proofs.PublicLaws as law
use Rattle.quic_header_encode.specs.Kinds.{long_front}
use Rattle.quic_header_encode.specs.declared.long_type.HeaderKind.TheVariants as kind
use Rattle.quic_header_decode.specs.declared.places.HeaderPlaces.{HeaderPlaces}
use Rattle.quic_header_decode.specs.declared.protected.ProtectedHeader.TheVariants as protected
use Rattle.quic_header_decode.specs.Grammar.{HeaderAt}
use Rattle.quic_header_decode.specs.Places.{any_fixed, AnyVersion}
use Rattle.quic_header_decode.specs.Reading.{DecodeOptions}
use Rattle.quic_header_decode.proofs.Made.{negotiation_header, LongStart}
use Rattle.quic_header_decode.proofs.Steps.{drop_front, take_front}
use Rattle.quic_c_headers.specs.declared.words.CHeader.{CHeader}
use Rattle.quic_c_headers.specs.Reading.{negotiation_bytes, negotiation_words, IsNegotiation}
use Rattle.quic_versions.specs.Versions.{version_bytes}
use Rattle.quic_c_headers.specs.Reading.{Reported}

-- ---- what is read

-- a header of any version, whose version is 0
pub of_zero : (version : ℕ) (packet dst src rest : List ℕ) → version ≡ 0 → AnyVersion packet version dst src rest
    → IsNegotiation packet dst src rest
of_zero version packet dst src rest zero is = subst (λ (v : ℕ). AnyVersion packet v dst src rest) zero is

pub same_words : (packet dst src d s : List ℕ) → dst ≡ d → src ≡ s
    → negotiation_words packet dst src ≡ negotiation_words packet d s
same_words packet dst src d s e f = rw (e, f) refl

-- ---- what is reported about headers of all kinds

-- a part of a list, and what is left after it
part_at : (a n : ℕ) (packet front part rest : List ℕ) → packet ≡ front ++ (part ++ rest) → length front ≡ a
    → length part ≡ n
    → (slice_range packet a (a + n) ≡ part) × (drop (a + n) packet ≡ rest)
part_at a n packet front part rest is from many =
    let behind : drop a packet ≡ part ++ rest = ap (drop a) is ∙ drop_front front (part ++ rest) a from in
    let count : a + n - a ≡ n = omega arith in (
      ap (λ (k : ℕ). take k (drop a packet)) count ∙ ap (take n) behind ∙ take_front part rest n many,
      sym (drop-drop n a packet) ∙ ap (drop n) behind ∙ drop_front part rest n many,
    )

-- the offsets of its fields
places : List ℕ → List ℕ → List ℕ → HeaderPlaces
places packet dst src = record {
  kind = kind.VersionNegotiate;
  first = slice_index packet 0;
  version = 0;
  dst_len = length dst;
  src_len = length src;
  token = record { start = 0; end = 0 };
  len = 0;
  header_end = 7 + length dst + length src;
}

-- the header that is there, by its parts
header_at : (options : DecodeOptions) (packet dst src rest d s left : List ℕ) (random : ℕ) → d ≡ dst → s ≡ src
    → left ≡ rest
    → HeaderAt options (length packet) packet (protected.VersionNegotiate random dst src) rest
    → HeaderAt options (length packet) packet (protected.VersionNegotiate random d s) left
header_at options packet dst src rest d s left random e f g h = rw (e, f, g) h

pub reported : (flags id_len : ℕ) (versions packet dst src rest : List ℕ) (old : CHeader) → IsNegotiation packet dst src rest
    → length dst ≤ 20 → length src ≤ 20
    → Reported flags id_len versions packet old (Ok (length packet)) (negotiation_words packet dst src)
unfolding places
reported flags id_len versions packet dst src rest old (first, number, whole, long, word) few less =
    let options : DecodeOptions = any_fixed id_len versions in
    let zero_word = law.is_number_4 0 (omega arith) in
    let zeros : number ≡ bytes_of 4 0 =
    law.num_injective number (bytes_of 4 0) word.bytes zero_word.bytes (word.width ∙ sym zero_word.width)
    (word.value ∙ sym zero_word.value) in
    let random : ℕ = slice_index packet 0 - 128 in
    let first_is : slice_index packet 0 ≡ first = ap (λ (xs : List ℕ). slice_index xs 0) whole in
    let above : 128 ≤ first = grind (arith, nat_tests) in
    let least : first ≡ 128 + random = omega (arith, above, first_is) in
    let ids : List ℕ = long_id dst ++ (long_id src ++ rest) in
    let front : List ℕ = first ∷ (number ++ (length dst ∷ [])) in
    let one : packet ≡ front ++ (dst ++ (long_id src ++ rest)) =
    whole
    ∙ ap (λ (xs : List ℕ). first ∷ xs) (sym (append_assoc number (length dst ∷ []) (dst ++ (long_id src ++ rest)))) in
    let six : length front ≡ 6 = omega (arith, length-append number (length dst ∷ []), word.width) in
    let dst_is = part_at 6 (length dst) packet front dst (long_id src ++ rest) one six refl in
    let next : List ℕ = front ++ (dst ++ (length src ∷ [])) in
    let two : packet ≡ next ++ (src ++ rest) =
    one
    ∙ sym (append_assoc front (dst ++ (length src ∷ [])) (src ++ rest)
    ∙ ap (λ (xs : List ℕ). front ++ xs) (append_assoc dst (length src ∷ []) (src ++ rest))) in
    let place : length next ≡ 6 + length dst + 1 =
    omega (arith, six, length-append front (dst ++ (length src ∷ [])), length-append dst (length src ∷ [])) in
    let src_is = part_at (6 + length dst + 1) (length src) packet next src rest two place refl in
    let end : 7 + length dst + length src ≡ 6 + length dst + 1 + length src = omega arith in
    let behind : drop (7 + length dst + length src) packet ≡ rest = ap (λ (k : ℕ). drop k packet) end ∙ src_is.1 in
    let text : packet ≡ long_front (128 + random) 0 dst src ++ rest =
    whole ∙ ap (λ (x : ℕ). x ∷ (number ++ ids)) least ∙ ap (λ (xs : List ℕ). (128 + random) ∷ (xs ++ ids)) zeros
    ∙ ap (λ (xs : List ℕ). (128 + random) ∷ (bytes_of 4 0 ++ xs)) (sym (append_assoc (long_id dst) (long_id src) rest))
    ∙ ap (λ (xs : List ℕ). (128 + random) ∷ xs) (sym (append_assoc (bytes_of 4 0) (long_id dst ++ long_id src) rest)) in
    let start : LongStart options packet (128 + random) 0 dst src rest =
    record { long = omega arith; fixed = refl; range = omega arith; dst_len = few; src_len = less; text = text } in
    let within : 7 + length dst + length src ≤ length packet =
    omega (arith, ap length two, length-append next (src ++ rest), length-append src rest, place) in
    record {
      read = Ok (places packet dst src);
      right = header_at options packet dst src rest _ _ _ random dst_is.0 src_is.0 behind
          (negotiation_header options (length packet) packet random dst src rest start);
      stored = record {
        fields = (omega arith, (refl, refl), refl, refl);
        dst_few = few;
        src_few = less;
        token_order = omega arith;
        token_within = omega arith;
        first = omega arith;
        head = within;
      };
      first = refl;
      outcome_is = refl;
      words = refl;
    }

-- ---- what is written

pub versions_long : (versions : List ℕ) → length (version_bytes versions) ≡ 4 * length versions
versions_long [] = refl
versions_long (v ∷ versions) =
    omega (arith, length-append (bytes_of 4 v) (version_bytes versions), law.length-bytes_of 4 v, versions_long versions)

-- ---- all of the packet

pub bytes_long : (flags : ℕ) (dst src versions : List ℕ)
    → length (negotiation_bytes flags dst src versions) ≡ 7 + length dst + length src + 4 * length versions
bytes_long flags dst src versions =
    let front : List ℕ = bytes_of 4 0 ++ (long_id dst ++ long_id src) in
    omega (
      arith,
      length-append front (version_bytes versions),
      length-append (bytes_of 4 0) (long_id dst ++ long_id src),
      length-append (long_id dst) (long_id src),
      law.length-bytes_of 4 0,
      versions_long versions,
    )

pub bytes_stored : (flags : ℕ) (dst src versions one two three four all : List ℕ) → one ≡ bit_or 128 (bit_xor 64 (flags % 128)) ∷ []
    → two ≡ one ++ (0 ∷ 0 ∷ 0 ∷ 0 ∷ [])
    → three ≡ two ++ long_id dst → four ≡ three ++ long_id src → all ≡ four ++ version_bytes versions
    → all ≡ negotiation_bytes flags dst src versions
unfolding bytes_of
bytes_stored flags dst src versions one two three four all e f g h i =
    let start : List ℕ = bit_or 128 (bit_xor 64 (flags % 128)) ∷ 0 ∷ 0 ∷ 0 ∷ 0 ∷ [] in
    let both : four ≡ start ++ (long_id dst ++ long_id src) =
    h
    ∙ ap (λ (xs : List ℕ). xs ++ long_id src) (g ∙ ap (λ (xs : List ℕ). xs ++ long_id dst)
    (f ∙ ap (λ (xs : List ℕ). xs ++ (0 ∷ 0 ∷ 0 ∷ 0 ∷ [])) e))
    ∙ append_assoc start (long_id dst) (long_id src) in
    i ∙ ap (λ (xs : List ℕ). xs ++ version_bytes versions) both

pub read_back : (flags : ℕ) (dst src versions bytes : List ℕ) → bytes ≡ negotiation_bytes flags dst src versions
    → IsNegotiation bytes dst src (version_bytes versions)
read_back flags dst src versions bytes is =
    let x : ℕ = bit_or 128 (bit_xor 64 (flags % 128)) in
    let high : 128 ≤ x = le_or_l 128 (bit_xor 64 (flags % 128)) in
    let ids : List ℕ = long_id dst ++ long_id src in
    let split : (bytes_of 4 0 ++ ids) ++ version_bytes versions ≡ bytes_of 4 0 ++ (long_id dst ++ (long_id src ++ version_bytes versions)) =
    append_assoc (bytes_of 4 0) ids (version_bytes versions)
    ∙ ap (λ (xs : List ℕ). bytes_of 4 0 ++ xs) (append_assoc (long_id dst) (long_id src) (version_bytes versions)) in
    (x, bytes_of 4 0, is ∙ ap (λ (xs : List ℕ). x ∷ xs) split, grind (arith, nat_tests), law.is_number_4 0 (omega arith))
