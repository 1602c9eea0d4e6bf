-- The laws of numbers and ids that proofs of the crates above cite. All other files here are this crate's own.
use Rattle.std.proofs.Common.{◌≡◌, ℕ, ◌<◌, ◌≤◌, ◌^◌, List, ◌∷◌, ◌++◌, length, None, Some, Result, Ok, OnErr, IfOk}
use Rattle.std.specs.Net.Addr.{ipv6_octets}
use Rattle.std.specs.declared.net.ipv6_addr.Ipv6Addr.{Ipv6Addr}
use Rattle.quic_base.specs.Number.{AreBytes, num, IsNumber, IsOctets, bytes_of}
use Rattle.quic_base.specs.Codec.{Takes, NoFront, IsBegun, Follows, IsPrefixFree}
use Rattle.quic_base.specs.ConnectionId.{IsLongId}
use Rattle.quic_base.specs.Varint.{Encodes, size, shortest_varint}
use Rattle.quic_base.specs.Reading.{number_at}
use Rattle.quic_base.proofs.Codecs as codecs
use Rattle.quic_base.proofs.LongIds as long_ids
use Rattle.quic_base.proofs.Numbers as numbers
use Rattle.quic_base.proofs.Encodings as encodings
use Rattle.quic_base.proofs.Readings as readings

-- the parts of a list of bytes are bytes
pub front_bytes : (front back : List ℕ) → AreBytes (front ++ back) → AreBytes front
front_bytes = numbers.front_bytes

pub back_bytes : (front back : List ℕ) → AreBytes (front ++ back) → AreBytes back
back_bytes = numbers.back_bytes

-- of two equal lists, fronts of one length are equal, and so are their rests
pub same_front : (b c r s : List ℕ) → length b ≡ length c → b ++ r ≡ c ++ s → b ≡ c
same_front = numbers.same_front

pub same_back : (b c r s : List ℕ) → length b ≡ length c → b ++ r ≡ c ++ s → r ≡ s
same_back = numbers.same_back

-- a number of k bytes is below 256 to the k, and has one encoding in k bytes
pub num_below : (b : List ℕ) → AreBytes b → num b < 256 ^ length b
num_below = numbers.num_below

pub num_injective : (a b : List ℕ) → AreBytes a → AreBytes b → length a ≡ length b → num a ≡ num b → a ≡ b
num_injective = numbers.num_injective

-- the bytes that are written of a number encode it
pub is_number_1 : (n : ℕ) → n < 2 ^ 8 → IsNumber 1 n (bytes_of 1 n)
is_number_1 = numbers.is_number_1

pub is_number_2 : (n : ℕ) → n < 2 ^ 16 → IsNumber 2 n (bytes_of 2 n)
is_number_2 = numbers.is_number_2

pub is_number_4 : (n : ℕ) → n < 2 ^ 32 → IsNumber 4 n (bytes_of 4 n)
is_number_4 = numbers.is_number_4

pub is_number_8 : (n : ℕ) → n < 2 ^ 64 → IsNumber 8 n (bytes_of 8 n)
is_number_8 = numbers.is_number_8

pub length-bytes_of : (k n : ℕ) → length (bytes_of k n) ≡ k
length-bytes_of = numbers.length-bytes_of

-- of fixed numbers, addresses and ids after their length no encoding begins another
pub number_unique : (k : ℕ) → IsPrefixFree (IsNumber k)
number_unique = numbers.number_unique

pub ipv6_unique : IsPrefixFree (λ (a : Ipv6Addr). IsOctets 16 (ipv6_octets a))
ipv6_unique = numbers.ipv6_unique

pub long_id_unique : IsPrefixFree IsLongId
long_id_unique = long_ids.long_id_unique

-- the shortest encoding is one, of the stated length
pub shortest_encodes : (v : ℕ) → v < 2 ^ 62 → Encodes v (shortest_varint v)
shortest_encodes = encodings.shortest_encodes

pub length-short : (v : ℕ) → length (shortest_varint v) ≡ size v
length-short = encodings.length-short

pub size_small : (v : ℕ) → size v ≤ 8
size_small = encodings.size_small

-- no encoding begins another, and none encodes two numbers
pub encodes_unique : (v u : ℕ) (b c r s : List ℕ) → b ++ r ≡ c ++ s → Encodes v b → Encodes u c
    → (v ≡ u) × (b ≡ c) × (r ≡ s)
encodes_unique = encodings.encodes_unique

-- no encoding is shorter than the shortest, and no other is as short
pub short_least : (v : ℕ) (b : List ℕ) → Encodes v b
    → (length (shortest_varint v) ≤ length b) × (length b ≡ length (shortest_varint v) → b ≡ shortest_varint v)
short_least = encodings.short_least

-- what is encoded is below 2^62, and no encoding is empty
pub encoded_bound : (v : ℕ) (b : List ℕ) → Encodes v b → (v < 2 ^ 62) × (0 < length b)
encoded_bound v b p = ((encodings.encoded_bound v b p).0, (encodings.lead v b p).0)

-- what reading finds is encoded, and what is encoded is found
pub number_taken : (bytes : List ℕ) (n : ℕ) (rest : List ℕ) → AreBytes bytes → number_at bytes ≡ Some (n, rest)
    → Takes (Encodes n) bytes rest
number_taken = readings.number_taken

pub number_again : (n : ℕ) (front rest : List ℕ) → Encodes n front → number_at (front ++ rest) ≡ Some (n, rest)
number_again = readings.number_again

pub found_taken : (n : ℕ) (bytes rest : List ℕ) → Takes (Encodes n) bytes rest → number_at bytes ≡ Some (n, rest)
found_taken = readings.found_taken

pub short_found : (n : ℕ) (rest : List ℕ) → n < 64 → number_at (n ∷ rest) ≡ Some (n, rest)
short_found = readings.short_found

-- if reading finds none, no front is an encoding, and the other way round
pub none_found : (bytes : List ℕ) → number_at bytes ≡ None → (v : ℕ) → NoFront (Encodes v) bytes
none_found = readings.none_found

pub no_number : (bytes : List ℕ) → AreBytes bytes → ((v : ℕ) → NoFront (Encodes v) bytes) → number_at bytes ≡ None
no_number = readings.no_number

-- what two decoders consume, one after another
pub takes_then : (K L : List ℕ → Type 0) (old mid new : List ℕ) → Takes K old mid → Takes L mid new
    → Takes (Follows K L) old new
takes_then = codecs.takes_then

-- the first of two decoders meets a cut, or the second does
pub cut_first : (K L : List ℕ → Type 0) (old : List ℕ) → NoFront K old → NoFront (Follows K L) old
cut_first = codecs.cut_first

pub cut_second : {T : Type 0} (K : T → List ℕ → Type 0) (L : List ℕ → Type 0) (old mid : List ℕ) (x y : T)
    → IsPrefixFree K → Takes (K x) old mid → NoFront L mid → NoFront (Follows (K y) L) old
cut_second = codecs.cut_second

-- the first of two encoders fails, or the second does
pub begun_first : (old a b new : List ℕ) → IsBegun old a new → IsBegun old (a ++ b) new
begun_first = codecs.begun_first

pub begun_second : (old mid a b new : List ℕ) → mid ≡ old ++ a → IsBegun mid b new → IsBegun old (a ++ b) new
begun_second = codecs.begun_second

-- a fact at an early return
pub on_err : {T E P : Type 0} (r : Result T E) → P → OnErr r P
on_err = codecs.on_err

-- decoding an encoding returns the value and leaves the rest
pub reads_back : {T E : Type 0} (K : T → List ℕ → Type 0) (r : Result T E) (x : T) (old b rest new : List ℕ)
    → IsPrefixFree K → K x b → old ≡ b ++ rest
    → IfOk r (λ v. Takes (K v) old new) → OnErr r ((v : T) → NoFront (K v) old) → (r ≡ Ok x) × (new ≡ rest)
reads_back = codecs.reads_back

-- what two decoders or two encoders in a row need
pub ruleset in_turn = (takes_then, cut_first, begun_first, begun_second, on_err)
