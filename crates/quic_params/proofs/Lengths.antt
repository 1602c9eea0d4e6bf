-- How long at most what is written of a record is.
use Rattle.std.proofs.Common.{◌≡◌, ℕ, ◌+◌, ◌*◌, ◌≤◌, List, [], ◌∷◌, ◌++◌, length, length-append, refl, arith}
use Rattle.std.specs.Prelude.{Bool, true, false, cond, Option, Some, None, IfSome}
use Rattle.std.specs.List.{flat_map}
use Rattle.std.specs.Net.Addr.{ipv4_octets, ipv6_octets, ipv6_segments}
use Rattle.std.specs.Net.Socket.{v4_ip, v4_port, v6_ip, v6_port, IsSocketAddrV4, IsSocketAddrV6}
use Rattle.std.specs.declared.net.socket_addr.SocketAddrV4.{SocketAddrV4}
use Rattle.std.specs.declared.net.socket_addr.SocketAddrV6.{SocketAddrV6}
use Rattle.quic_base.specs.Number.{bytes_of}
use Rattle.quic_base.specs.Varint.{shortest_varint}
use Rattle.quic_base.specs.ConnectionId.{long_id}
use Rattle.quic_base.proofs.PublicLaws.{length-short, length-bytes_of}
use Rattle.quic_params.specs.declared.parameter.Kind.{Kind}
use Rattle.quic_params.specs.declared.parameter.Kind.TheVariants as K
use Rattle.quic_params.specs.declared.parameter.TransportParameterId.{TransportParameterId}
use Rattle.quic_params.specs.declared.record.TransportParameters.{TransportParameters}
use Rattle.quic_params.specs.declared.value.PreferredAddress.{PreferredAddress}
use Rattle.quic_params.specs.declared.value.Value.{Value}
use Rattle.quic_params.specs.declared.value.Value.TheVariants as V
use Rattle.quic_params.specs.Order.{IsOrder, id_of_index, order_of}
use Rattle.quic_params.specs.Range.{IsTypedRecord, IsTypedAs, IsTypedAddress, IsFree}
use Rattle.quic_params.specs.Record.{value_of}
use Rattle.quic_params.specs.Reserved.{Reserved}
use Rattle.quic_params.specs.Table.{row_of}
use Rattle.quic_params.specs.Writing.{encoding, shortest_entry, encoded_entry, is_written, grease_bytes, of_kind, written, written_for, v4_bytes, v6_bytes}
use Rattle.quic_params.proofs.Hosts.{octets_long}
use Rattle.quic_params.proofs.Sizes.{size_below}

pub short_below : (n : ℕ) → length (shortest_varint n) ≤ 8
short_below n = omega (arith, length-short n, size_below n)

v4_below : (o : Option SocketAddrV4) → IfSome o IsSocketAddrV4 → length (v4_bytes o) ≤ 6
v4_below None t = omega arith
v4_below (Some s) t =
    omega (arith, length-append (ipv4_octets (v4_ip s)) (bytes_of 2 (v4_port s)), length-bytes_of 2 (v4_port s), t.0.0)

v6_below : (o : Option SocketAddrV6) → IfSome o IsSocketAddrV6 → length (v6_bytes o) ≤ 18
v6_below None t = omega arith
v6_below (Some s) t =
    omega (
      arith,
      length-append (ipv6_octets (v6_ip s)) (bytes_of 2 (v6_port s)),
      length-bytes_of 2 (v6_port s),
      octets_long (ipv6_segments (v6_ip s)),
      t.0.0,
    )

pub address_below : (a : PreferredAddress) → IsTypedAddress a → length (encoding (V.Address a)) ≤ 61
address_below a t =
    let tail = long_id a.connection_id ++ a.stateless_reset_token in
    omega (
      arith,
      v4_below a.address_v4 t.v4,
      v6_below a.address_v6 t.v6,
      length-append (v4_bytes a.address_v4) (v6_bytes a.address_v6 ++ tail),
      length-append (v6_bytes a.address_v6) tail,
      length-append a.connection_id a.stateless_reset_token,
      t.short,
      t.token,
    )

value_below : (k : Kind) (v : Value) → IsTypedAs k v → length (encoding v) ≤ 61
value_below k (V.Number n) t = omega (arith, short_below n)
value_below k V.Flag t = omega arith
value_below K.Token (V.Token x) t = omega (arith, t)
value_below K.Id (V.Id x) t = omega (arith, t)
value_below K.Address (V.Address a) t = address_below a t
value_below _ _ t = elim t [ ]

entry_below : (n : ℕ) (b : List ℕ) → length b ≤ 61 → length (shortest_entry n b) ≤ 77
entry_below n b le =
    omega (
      arith,
      short_below n,
      short_below (length b),
      length-append (shortest_varint n)
          (shortest_varint (length b) ++ b),
      length-append (shortest_varint (length b)) b,
    )

either : (b : Bool) (l : List ℕ) → length l ≤ 77 → length (cond b l []) ≤ 77
either true l le = le
either false l le = omega arith

encoded_below : (id : TransportParameterId) (o : Option Value) → IfSome o (IsTypedAs (row_of id).kind)
    → length (encoded_entry id o) ≤ 77
encoded_below id None t = omega arith
encoded_below id (Some v) t =
    either (is_written (row_of id).kind v) (shortest_entry (row_of id).number (encoding v))
    (entry_below (row_of id).number (encoding v) (value_below (row_of id).kind v t))

grease_below : (g : Option Reserved) → IfSome g IsFree → length (grease_bytes g) ≤ 77
grease_below None t = omega arith
grease_below (Some g) t = entry_below g.number g.payload (omega (arith, t.short))

kind_below : (k : Kind) (a b : List ℕ) → length a ≤ 77 → length b ≤ 77 → length (of_kind k a b) ≤ 77
kind_below K.Skipped a b l m = l
kind_below _ a b l m = m

pub for_below : (p : TransportParameters) → IsTypedRecord p → (id : TransportParameterId)
    → length (written_for p id) ≤ 77
unfolding written_for
for_below p t id =
    kind_below (row_of id).kind (grease_bytes p.grease_transport_parameter) (encoded_entry id (value_of p id))
    (grease_below p.grease_transport_parameter t.grease) (encoded_below id (value_of p id) (t.values id))

all_below : (f : ℕ → List ℕ) → ((i : ℕ) → length (f i) ≤ 77) → (l : List ℕ) → length (flat_map f l) ≤ 77 * length l
all_below f h [] = omega arith
all_below f h (x ∷ l) = omega (arith, length-append (f x) (flat_map f l), h x, all_below f h l)

order_long : (o : Option (List ℕ)) → IfSome o IsOrder → length (order_of o) ≡ 21
order_long None t = refl
order_long (Some l) t = t.width

pub written_below : (p : TransportParameters) → IsTypedRecord p → length (written p) ≤ 1617
written_below p t =
    omega (
      arith,
      all_below (λ i. written_for p (id_of_index i)) (λ i. for_below p t (id_of_index i))
          (order_of p.write_order),
      order_long p.write_order t.order,
    )

pub header_below : (number len : ℕ) → length (shortest_varint number ++ shortest_varint len) ≤ 16
header_below number len =
    omega (arith, short_below number, short_below len, length-append (shortest_varint number) (shortest_varint len))

pub whole_below : (number : ℕ) (value : List ℕ) → length (shortest_entry number value) ≤ 16 + length value
whole_below number value =
    omega (
      arith,
      short_below number,
      short_below (length value),
      length-append (shortest_varint number) (shortest_varint (length value) ++ value),
      length-append (shortest_varint (length value)) value,
    )
