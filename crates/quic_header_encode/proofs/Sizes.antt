-- How many bytes written headers have.
use Rattle.std.proofs.Common.{◌≡◌, ℕ, ◌+◌, ◌≤◌, Bool, true, false, IsTrue, List, [], ◌∷◌, ◌++◌, length, replicate, if◌then◌else◌, refl, sym, ap, ◌∙◌, arith, rules}
use Rattle.std.proofs.lemmas.Bool.Decides.{nat_tests}
use Rattle.std.proofs.lemmas.List.{length-append, length-replicate}
use Rattle.quic_base.proofs.PublicLaws.{length-short, length-bytes_of}
use Rattle.quic_base.specs.ConnectionId.{long_id}
use Rattle.quic_base.specs.Number.{bytes_of}
use Rattle.quic_base.specs.Varint.{shortest_varint, size}
use Rattle.quic_crypto.specs.declared.packet_number.PacketNumber.{PacketNumber}
use Rattle.quic_crypto.specs.declared.packet_number.PacketNumber.TheVariants.{U8, U16, U24, U32}
use Rattle.quic_crypto.specs.PacketNumbers.{number_bytes, number_size}
use Rattle.quic_header_encode.specs.declared.long_type.HeaderKind.{HeaderKind}
use Rattle.quic_header_encode.specs.declared.long_type.HeaderKind.TheVariants as kinds
use Rattle.quic_header_encode.specs.Kinds.{long_front}
use Rattle.quic_header_encode.specs.Kinds.{header_text, says, row, Fields, first_in, version_in}
use Rattle.quic_header_encode.specs.declared.store.HeaderRef.{HeaderRef}
use Rattle.quic_header_encode.specs.Writing.{end_bytes, room_by, stored_len, token_by, HasStoreRoom, IsLong}
use Rattle.quic_header_encode.proofs.Writings.{number_length}

pub long_length : (first version : ℕ) (dst src : List ℕ)
    → length (long_front first version dst src) ≡ 7 + length dst + length src
long_length first version dst src =
    omega (
      arith,
      length-append (first ∷ bytes_of 4 version) (long_id dst ++ long_id src),
      length-append (long_id dst) (long_id src),
      length-bytes_of 4 version,
      length-append (bytes_of 4 version) (long_id dst ++ long_id src),
    )

-- a token after its length, and zeros for a length before a number
pub token_length : (token : List ℕ)
    → length (shortest_varint (length token) ++ token) ≡ size (length token) + length token
token_length token = omega (arith, length-append (shortest_varint (length token)) token, length-short (length token))

pub zeros_length : (len : ℕ) (number : PacketNumber)
    → length (replicate len 0 ++ number_bytes number) ≡ len + number_size number
zeros_length len number =
    omega (arith, length-append (replicate len 0) (number_bytes number), length-replicate {A = ℕ} len 0, number_length number)

-- how many bytes a header of each kind has
abbrev pub stored_size : HeaderKind → ℕ → ℕ → List ℕ → PacketNumber → ℕ → ℕ
stored_size kinds.Initial dst src token number len =
    7 + dst + src + (size (length token) + length token) + (len + number_size number)
stored_size kinds.ZeroRtt dst src token number len = 7 + dst + src + (len + number_size number)
stored_size kinds.Handshake dst src token number len = 7 + dst + src + (len + number_size number)
stored_size kinds.Retry dst src token number len = 7 + dst + src
stored_size kinds.Short dst src token number len = 1 + dst + number_size number
stored_size kinds.VersionNegotiate dst src token number len = 7 + dst + src

pub stored_length : (k : HeaderKind) (bits version : ℕ) (dst src token : List ℕ) (number : PacketNumber) (len : ℕ)
    → length (header_text (replicate len 0) (says (row k) bits version dst src token number))
    ≡ stored_size k (length dst) (length src) token number len
stored_length kinds.Initial bits version dst src token number len =
    let f : Fields = says (row kinds.Initial) bits version dst src token number in
    let front : List ℕ = long_front (first_in f) (version_in f) dst src in
    omega (
      arith,
      length-append (front ++ (shortest_varint (length token) ++ token)) (replicate len 0 ++ number_bytes number),
      length-append front (shortest_varint (length token) ++ token),
      token_length token,
      zeros_length len number,
      long_length (first_in f) (version_in f) dst src,
    )
stored_length kinds.ZeroRtt bits version dst src token number len =
    let f : Fields = says (row kinds.ZeroRtt) bits version dst src token number in
    omega (
      arith,
      length-append (long_front (first_in f) (version_in f) dst src) (replicate len 0 ++ number_bytes number),
      zeros_length len number,
      long_length (first_in f) (version_in f) dst src,
    )
stored_length kinds.Handshake bits version dst src token number len =
    let f : Fields = says (row kinds.Handshake) bits version dst src token number in
    omega (
      arith,
      length-append (long_front (first_in f) (version_in f) dst src) (replicate len 0 ++ number_bytes number),
      zeros_length len number,
      long_length (first_in f) (version_in f) dst src,
    )
stored_length kinds.Retry bits version dst src token number len =
    let f : Fields = says (row kinds.Retry) bits version dst src token number in
    long_length (first_in f) (version_in f) dst src
stored_length kinds.Short bits version dst src token number len =
    omega (arith, length-append dst (number_bytes number), number_length number)
stored_length kinds.VersionNegotiate bits version dst src token number len =
    let f : Fields = says (row kinds.VersionNegotiate) bits version dst src token number in
    long_length (first_in f) (version_in f) dst src

pub size_few : (n : ℕ) → (1 ≤ size n) × (size n ≤ 8)
unfolding size
size_few n = (grind (arith, nat_tests), grind (arith, nat_tests))

pub number_few : (number : PacketNumber) → (1 ≤ number_size number) × (number_size number ≤ 4)
number_few (U8 x) = (omega arith, omega arith)
number_few (U16 x) = (omega arith, omega arith)
number_few (U24 x) = (omega arith, omega arith)
number_few (U32 x) = (omega arith, omega arith)

size_within : (kind : HeaderKind) (dst src : ℕ) (token : List ℕ) (number : PacketNumber) (len : ℕ) → dst ≤ 20
    → src ≤ 20 → stored_size kind dst src token number len ≤ length token + 60 + len
size_within kinds.Initial dst src token number len d s = omega (arith, size_few (length token), number_few number)
size_within kinds.ZeroRtt dst src token number len d s = omega (arith, number_few number)
size_within kinds.Handshake dst src token number len d s = omega (arith, number_few number)
size_within kinds.Retry dst src token number len d s = omega arith
size_within kinds.Short dst src token number len d s = omega (arith, number_few number)
size_within kinds.VersionNegotiate dst src token number len d s = omega arith

-- 60 bytes are enough for a header's fields other than its token, with the token's length
pub stored_within : (k : HeaderKind) (bits version : ℕ) (dst src token : List ℕ) (number : PacketNumber) (len : ℕ)
    → length dst ≤ 20 → length src ≤ 20
    → length (header_text (replicate len 0) (says (row k) bits version dst src token number)) ≤ length token + 60 + len
stored_within k bits version dst src token number len d s =
    omega (arith, stored_length k bits version dst src token number len, size_within k (length dst) (length src) token number len d s)

-- ---- of the fields that are written

pub sized : {I : Type 0} (id : I → List ℕ) (fields : HeaderRef I) → stored_len id fields
    ≡ stored_size fields.kind (length (id fields.dst_cid)) (length (id fields.src_cid)) fields.token.now fields.number.now fields.length_len
sized id fields =
    stored_length fields.kind fields.first fields.version (id fields.dst_cid) (id fields.src_cid) fields.token.now fields.number.now fields.length_len

pub has_size : {I : Type 0} (id : I → List ℕ) (fields : HeaderRef I) (n : ℕ)
    → n ≡ stored_size fields.kind (length (id fields.dst_cid)) (length (id fields.src_cid)) fields.token.now fields.number.now fields.length_len
    → n ≡ stored_len id fields
has_size id fields n is = is ∙ sym (sized id fields)

pub short_sized : {I : Type 0} (id : I → List ℕ) (fields : HeaderRef I) → fields.kind ≡ kinds.Short
    → stored_len id fields ≡ 1 + length (id fields.dst_cid) + number_size fields.number.now
short_sized id fields is =
    sized id fields
    ∙ ap (λ k. stored_size k (length (id fields.dst_cid)) (length (id fields.src_cid)) fields.token.now fields.number.now fields.length_len) is

-- the length of a field that a header has or lacks
pub field_length : (has : Bool) (bytes : List ℕ) → IsTrue has → length (if has then bytes else []) ≡ length bytes
field_length true bytes is = refl
field_length false bytes is = absurd (search (rules, is))

-- a long header has its front, its token and its end
long_parts : (k : HeaderKind) (dst src token : List ℕ) (number : PacketNumber) (len : ℕ) → IsLong k
    → stored_size k (length dst) (length src) token number len
    ≡ 7 + length dst + length src + length (token_by k token)
    + length (if (row k).has_len then replicate len 0 ++ number_bytes number else [])
long_parts kinds.Initial dst src token number len long =
    omega (arith, token_length token, zeros_length len number)
long_parts kinds.ZeroRtt dst src token number len long = omega (arith, zeros_length len number)
long_parts kinds.Handshake dst src token number len long = omega (arith, zeros_length len number)
long_parts kinds.Retry dst src token number len long = omega arith
long_parts kinds.Short dst src token number len long = absurd (search (rules, long))
long_parts kinds.VersionNegotiate dst src token number len long = omega arith

pub long_sized : {I : Type 0} (id : I → List ℕ) (fields : HeaderRef I) → IsLong fields.kind → stored_len id fields
    ≡ 7 + length (id fields.dst_cid) + length (id fields.src_cid) + length (token_by fields.kind fields.token.now) + length (end_bytes fields)
long_sized id fields long =
    sized id fields
    ∙ long_parts fields.kind (id fields.dst_cid) (id fields.src_cid) fields.token.now fields.number.now fields.length_len long

-- ---- room

pub room_few : (k : HeaderKind) (short long : ℕ) → room_by k short long ≤ short + long
room_few kinds.Initial short long = omega arith
room_few kinds.ZeroRtt short long = omega arith
room_few kinds.Handshake short long = omega arith
room_few kinds.Retry short long = omega arith
room_few kinds.Short short long = omega arith
room_few kinds.VersionNegotiate short long = omega arith

ids_within : (k : HeaderKind) (dst src : ℕ) (token : List ℕ) (number : PacketNumber) (len : ℕ)
    → (room_by k 1 6 + dst ≤ stored_size k dst src token number len)
    × (room_by k 0 (7 + dst + src) ≤ stored_size k dst src token number len)
ids_within kinds.Initial dst src token number len = (omega arith, omega arith)
ids_within kinds.ZeroRtt dst src token number len = (omega arith, omega arith)
ids_within kinds.Handshake dst src token number len = (omega arith, omega arith)
ids_within kinds.Retry dst src token number len = (omega arith, omega arith)
ids_within kinds.Short dst src token number len = (omega arith, omega arith)
ids_within kinds.VersionNegotiate dst src token number len = (omega arith, omega arith)

-- ids that are written with nothing after them need no more room than the header
pub exact_room : {I : Type 0} (id : I → List ℕ) (fields : HeaderRef I) (n : ℕ) → stored_len id fields ≤ n
    → HasStoreRoom id (λ i. length (id i)) fields n
exact_room id fields n fits =
    let within =
    ids_within fields.kind (length (id fields.dst_cid)) (length (id fields.src_cid)) fields.token.now fields.number.now fields.length_len in
    record {
      whole = fits;
      dst = omega (arith, fits, within.0, sized id fields);
      src = omega (arith, fits, within.1, sized id fields);
    }

-- the room of a long header
pub long_room : (k : HeaderKind) (short long : ℕ) → IsLong k → room_by k short long ≡ long
long_room kinds.Initial short long is = refl
long_room kinds.ZeroRtt short long is = refl
long_room kinds.Handshake short long is = refl
long_room kinds.Retry short long is = refl
long_room kinds.VersionNegotiate short long is = refl
long_room kinds.Short short long is = absurd cc
