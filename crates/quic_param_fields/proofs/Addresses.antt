-- The fields of a preferred address, as spans and as the parameter's definition has them.
use Rattle.std.specs.Prelude.{◌⊎◌}
use Rattle.std.proofs.Common.{◌≡◌, ◌≢◌, ℕ, zero, suc, ◌+◌, List, [], ◌∷◌, ◌++◌, length, replicate, Option, Some, None, refl, sym, ap, subst, ◌∙◌, append_assoc, length-append, arith, inl, inr}
use Rattle.std.specs.Net.Addr.{ipv4_octets, ipv6_octets}
use Rattle.std.specs.declared.net.ipv4_addr.Ipv4Addr.{Ipv4Addr}
use Rattle.std.specs.declared.net.ipv6_addr.Ipv6Addr.{Ipv6Addr}
use Rattle.std.specs.declared.net.socket_addr.SocketAddrV4.{SocketAddrV4}
use Rattle.std.specs.declared.net.socket_addr.SocketAddrV6.{SocketAddrV6}
use Rattle.quic_base.specs.Number.{IsNumber, IsOctets}
use Rattle.quic_base.proofs.PublicLaws.{same_front, same_back}
use Rattle.quic_fields.specs.declared.field.Span.{Span}
use Rattle.quic_params.specs.Address.{IsV4, IsV6, AreAddressFields, HasNoAddress}
use Rattle.quic_params.specs.declared.value.PreferredAddress.{PreferredAddress}
use Rattle.quic_params.proofs.Addresses.{head}
use Rattle.quic_param_fields.specs.declared.row.Kind.{Kind}
use Rattle.quic_param_fields.specs.declared.row.Kind.TheVariants as K
use Rattle.quic_param_fields.specs.declared.row.Sort.TheVariants as S
use Rattle.quic_param_fields.specs.Rows.{fields_of}
use Rattle.quic_param_fields.specs.Fields.{IsField, AreFieldsAt, span}
use Rattle.quic_param_fields.specs.Values.{IsNowhere, HasEmptyId}

-- ---- zeros

zeros_or : (b : List ℕ) → (b ≡ replicate (length b) 0) ⊎ (b ≢ replicate (length b) 0)
zeros_or [] = inl refl
zeros_or (zero ∷ b) = elim (zeros_or b) [
  | inl e ↦ inl (ap (λ (l : List ℕ). 0 ∷ l) e)
  | inr n ↦ inr (λ e. n (let t : b ≡ replicate (length b) 0 = cc in t))
]
zeros_or (suc x ∷ b) = inr (λ e. absurd cc)

-- whether these are zeros, of which there are so many
are_zeros : (k : ℕ) (b : List ℕ) → length b ≡ k → (b ≡ replicate k 0) ⊎ (b ≢ replicate k 0)
are_zeros k b l = subst (λ (n : ℕ). (b ≡ replicate n 0) ⊎ (b ≢ replicate n 0)) l (zeros_or b)

v4_of : (ip : Ipv4Addr) (n : ℕ) (i p : List ℕ) → IsOctets 4 (ipv4_octets ip) i → IsNumber 2 n p
    → (o : Option SocketAddrV4) × IsV4 o (i ++ p) × (i ++ p ≡ replicate 6 0 → o ≡ None)
v4_of ip n i p h k =
    elim (are_zeros 6 (i ++ p) (omega (arith, length-append i p, h.width, k.width))) [
      | inl zeros ↦ (None, zeros, λ e. refl)
      | inr some ↦ (Some (record { ip = ip; port = n }), (some, i, p, refl, h, k), λ e. absurd (some e))
    ]

v6_of : (ip : Ipv6Addr) (n : ℕ) (i p : List ℕ) → IsOctets 16 (ipv6_octets ip) i → IsNumber 2 n p
    → (o : Option SocketAddrV6) × IsV6 o (i ++ p) × (i ++ p ≡ replicate 18 0 → o ≡ None)
v6_of ip n i p h k =
    elim (are_zeros 18 (i ++ p) (omega (arith, length-append i p, h.width, k.width))) [
      | inl zeros ↦ (None, zeros, λ e. refl)
      | inr some ↦ (
        Some (record { ip = ip; port = n; flowinfo = 0; scope_id = 0 }),
        (some, i, p, refl, h, k, refl, refl),
        λ e. absurd (some e),
      )
    ]

absent_v4 : (o : Option SocketAddrV4) (b : List ℕ) → IsV4 o b → o ≡ None → b ≡ replicate 6 0
absent_v4 None b h e = h
absent_v4 (Some s) b h e = absurd cc

absent_v6 : (o : Option SocketAddrV6) (b : List ℕ) → IsV6 o b → o ≡ None → b ≡ replicate 18 0
absent_v6 None b h e = h
absent_v6 (Some s) b h e = absurd cc

-- ---- the parameter's definition of spans

-- the fields of an address, and what follows them
pub record IsSplit (bytes rest : List ℕ) : Type 0 where
  pub address : PreferredAddress
  pub front : List ℕ
  pub parts : bytes ≡ front ++ rest
  pub fields : AreAddressFields address front
  pub nowhere : HasNoAddress address → IsNowhere bytes
  pub is_nowhere : IsNowhere bytes → HasNoAddress address
  pub empty : address.connection_id ≡ [] → HasEmptyId bytes
  pub is_empty : HasEmptyId bytes → address.connection_id ≡ []

empty_of : (id : List ℕ) → length id ≡ 0 → id ≡ []
empty_of [] l = refl
empty_of (x ∷ id) l = absurd (omega (arith, l))

pub address_of : (spans : List Span) (bytes rest : List ℕ) → AreFieldsAt 0 0 (fields_of S.Address) spans bytes rest
    → IsSplit bytes rest
address_of spans bytes rest (n1, i4, r1, s1, e1, (ip4, is4, w1), a1, (n2, p4, r2, s2, e2, port4, a2, (n3, i6, r3, s3, e3, (ip6, is6, w3), a3, (n4, p6, r4, s4, e4, port6, a4, (n5, ids, r5, s5, e5, (id, long, w5), a5, (n6, token, r6, s6, e6, (wide, w6), a6, (a7, e7))))))) =
    let h4 = v4_of ip4 n2 i4 p4 is4 port4 in
    let h6 = v6_of ip6 n4 i6 p6 is6 port6 in
    let v4 : List ℕ = i4 ++ p4 in
    let v6 : List ℕ = i6 ++ p6 in
    let l4 : length v4 ≡ 6 = omega (arith, length-append i4 p4, is4.width, port4.width) in
    let l6 : length v6 ≡ 18 = omega (arith, length-append i6 p6, is6.width, port6.width) in
    let behind : bytes ≡ v4 ++ (v6 ++ r4) = rw (e1, e2, e3, e4) (simp append_assoc) in
    let after : r4 ≡ length id ∷ (id ++ r5) = e5 ∙ ap (λ (l : List ℕ). l ++ r5) long.value in
    record {
      address = record { address_v4 = h4.0; address_v6 = h6.0; connection_id = id; stateless_reset_token = token };
      front = ((v4 ++ v6) ++ ids) ++ token;
      parts = rw (behind, e5, e6, e7) (simp append_assoc);
      fields = record {
        v4 = v4;
        v6 = v6;
        id = ids;
        whole = refl;
        is_v4 = h4.1;
        is_v6 = h6.1;
        is_id = long;
        is_token = wide;
      };
      nowhere = λ h. (r4, behind ∙ rw (absent_v4 h4.0 v4 h4.1 h.0, absent_v6 h6.0 v6 h6.1 h.1) refl);
      is_nowhere = λ h.
          let split : v4 ++ (v6 ++ r4) ≡ replicate 6 0 ++ (replicate 18 0 ++ h.0) = sym behind ∙ h.1 in
          let second = same_back v4 (replicate 6 0) (v6 ++ r4) (replicate 18 0 ++ h.0) l4 split in (
            h4.2 (same_front v4 (replicate 6 0) (v6 ++ r4) (replicate 18 0 ++ h.0) l4 split),
            h6.2 (same_front v6 (replicate 18 0) r4 h.0 l6 second),
          );
      empty = λ h. (v4 ++ v6, r5, behind ∙ rw (after, h) (simp append_assoc), omega (arith, length-append v4 v6, l4, l6));
      is_empty = λ h.
          let split : (v4 ++ v6) ++ r4 ≡ h.0 ++ (0 ∷ h.1) = append_assoc v4 v6 r4 ∙ sym behind ∙ h.2 in
          let wide : length (v4 ++ v6) ≡ length h.0 = omega (arith, length-append v4 v6, l4, l6, h.3) in
          let first : length id ∷ (id ++ r5) ≡ 0 ∷ h.1 = sym after ∙ same_back (v4 ++ v6) h.0 r4 (0 ∷ h.1) wide split in
          empty_of id (let l : length id ≡ 0 = cc in l);
    }

-- ---- and the spans of what it defines

-- at any index and offset
abbrev Row : List Kind → List ℕ → List ℕ → Type 0
Row kinds bytes rest = (index start : ℕ) → (spans : List Span) × AreFieldsAt index start kinds spans bytes rest

-- a field, and those after it
step : (kind : Kind) (kinds : List Kind) (n : ℕ) (front left bytes rest : List ℕ) → bytes ≡ front ++ left
    → IsField kind n front left → Row kinds left rest → Row (kind ∷ kinds) bytes rest
step kind kinds n front left bytes rest e f row index start =
    let more = row (index + 1) (start + length front) in
    (span index start n (length front) ∷ more.0, (n, front, left, more.0, e, f, refl, more.1))

pub fields_of_address : (a : PreferredAddress) (bytes front rest : List ℕ) → bytes ≡ front ++ rest
    → AreAddressFields a front → (spans : List Span) × AreFieldsAt 0 0 (fields_of S.Address) spans bytes rest
fields_of_address a bytes front rest e f =
    let h = head a bytes front rest e f in
    let five : List Kind = K.Bytes16 ∷ [] in
    let four : List Kind = K.LongId ∷ five in
    let three : List Kind = K.Port ∷ four in
    let two : List Kind = K.Ip6 ∷ three in
    let last : List ℕ = a.stateless_reset_token ++ rest in
    let ids : List ℕ = h.ids ++ last in
    let port6 : List ℕ = h.host'.p ++ ids in
    let ip6 : List ℕ = h.host'.i ++ port6 in
    step K.Ip4 (K.Port ∷ two) 4 h.host.i (h.host.p ++ ip6) bytes rest h.whole (h.host.ip, h.host.is_ip, refl)
    (step K.Port two h.host.port h.host.p ip6 (h.host.p ++ ip6) rest refl h.host.is_port
    (step K.Ip6 three 16 h.host'.i port6 ip6 rest refl (h.host'.ip, h.host'.is_ip, refl)
    (step K.Port four h.host'.port h.host'.p ids port6 rest refl h.host'.is_port
    (step K.LongId five (length a.connection_id) h.ids last ids rest refl (a.connection_id, h.is_id, refl)
    (step K.Bytes16 [] 16 a.stateless_reset_token rest last rest refl (f.is_token, refl)
    (λ index start. ([], (refl, refl)))))))) 0 0
