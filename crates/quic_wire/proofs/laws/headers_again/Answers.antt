-- By the parts of the header.
use Rattle.std.specs.Prelude.{◌≡◌, ℕ, ◌+◌, Bool, true, List, [], ◌∷◌, ◌++◌, drop, length, slice_range}
use Rattle.std.proofs.Common.{refl, sym, ap, ◌∙◌, subst, arith, append_assoc, length-append}
use Rattle.quic_base.specs.ConnectionId.{long_id}
use Rattle.quic_base.specs.Number.{bytes_of}
use Rattle.quic_base.specs.Varint.{Encodes, shortest_varint}
use Rattle.quic_crypto.specs.PacketNumbers.{number_bytes, number_size}
use Rattle.quic_crypto.specs.declared.packet_number.PacketNumber.{PacketNumber}
use Rattle.quic_header_decode.specs.Grammar.{HeaderAt}
use Rattle.quic_header_decode.specs.Headers.{IsNumberIn, IsOpenedBy, IsWithoutNumber}
use Rattle.quic_header_decode.specs.Reading.{DecodeOptions}
use Rattle.quic_header_decode.specs.declared.protected.ProtectedHeader.{ProtectedHeader}
use Rattle.quic_header_decode.specs.declared.protected.ProtectedHeader.TheVariants as protected
use Rattle.quic_header_encode.proofs.Sizes.{long_length}
use Rattle.quic_header_encode.specs.Writing.{IsWritable, header_bytes, header_with, size_in}
use Rattle.quic_header_encode.specs.declared.header.Header.{Header}
use Rattle.quic_header_encode.specs.declared.header.Header.TheVariants as header
use Rattle.quic_header_encode.specs.declared.long_type.LongHeaderType.TheVariants as kind
use Rattle.quic_packets.proofs.Opened.{number_there}
use Rattle.quic_packets.proofs.Sealings.{middle}
use Rattle.quic_packets.specs.Opening.{IsReadable}
use Rattle.quic_wire.specs.Plain.{IsPlainInRange}
use Rattle.quic_wire.proofs.Numbered.{behind, long_first, long_low, regroup, short_first, short_low, short_phase, size_bounds}
use Rattle.quic_wire.proofs.laws.headers_again.Goals as goal

pub returns-clause-plain : goal.returns-clause-plain
returns-clause-plain c = of
  where
    of : (options : DecodeOptions) (h : Header) (rest : List ℕ) → IsPlainInRange options h
        → (read : ProtectedHeader) × IsWithoutNumber read h
        × HeaderAt options (length (header_bytes h ++ rest)) (header_bytes h ++ rest) read rest
    of options (header.Retry dst src version) rest range = (
      protected.Retry dst src version,
      refl,
      c.written.ensures.retry options (length (header_bytes (header.Retry dst src version) ++ rest)) version dst src rest
          range.0 range.1 range.2 range.3,
    )
    of options (header.VersionNegotiate random src dst) rest range = (
      protected.VersionNegotiate random dst src,
      refl,
      c.written.ensures.negotiation options (length (header_bytes (header.VersionNegotiate random src dst) ++ rest)) random
          dst src rest range.0 range.1 range.2 range.3,
    )
    of options (header.Initial h) rest range = absurd range
    of options (header.Long ty dst src number version) rest range = absurd range
    of options (header.Short spin key_phase dst number) rest range = absurd range

pub returns-clause-numbered : goal.returns-clause-numbered
returns-clause-numbered c = of
  where
    of : (options : DecodeOptions) (h : Header) (count : ℕ) (len payload : List ℕ) → IsWritable h
        → IsReadable options h [] → Encodes count len
        → (read : ProtectedHeader) × (at : ℕ)
        × HeaderAt options (length (header_with len h ++ payload)) (header_with len h ++ payload) read
        (drop at (header_with len h ++ payload))
        × IsOpenedBy true read at h (header_with len h ++ payload) (at + size_in h)
    of options (header.Long ty dst src number version) count len payload valid range encoded =
        let h : Header = header.Long ty dst src number version in
        let packet : List ℕ = header_with len h ++ payload in
        let size : ℕ = number_size number in
        let bounds = size_bounds number in
        let first : ℕ = long_first version (kind.Standard ty) size in
        let tail : List ℕ = bytes_of 4 version ++ (long_id dst ++ long_id src) in
        let same : packet ≡ (first ∷ (tail ++ len)) ++ (number_bytes number ++ payload) =
        regroup (first ∷ tail) len (number_bytes number) payload in
        let at : ℕ = length (first ∷ (tail ++ len)) in
        let read : ProtectedHeader = protected.Long ty dst src count version in (
          read,
          at,
          subst (HeaderAt options (length packet) packet read)
              (sym (behind packet (first ∷ (tail ++ len)) (number_bytes number ++ payload) same))
              (c.written.ensures.long options (length packet) count version ty dst src len payload number range.0
              range.1 range.2 range.3 encoded),
          (
            number,
            subst (IsNumberIn number at) (sym same) (number_there number first (tail ++ len) payload at refl
                (long_low version size (kind.Standard ty) bounds.0 bounds.1) valid.1),
            refl,
            refl,
          ),
        )
    of options (header.Initial i) count len payload valid range encoded =
        let h : Header = header.Initial i in
        let packet : List ℕ = header_with len h ++ payload in
        let version : ℕ = i.version in
        let token : List ℕ = i.token in
        let number : PacketNumber = i.number in
        let size : ℕ = number_size number in
        let bounds = size_bounds number in
        let first : ℕ = long_first version kind.Initial size in
        let var : List ℕ = shortest_varint (length token) in
        let tail : List ℕ = bytes_of 4 version ++ (long_id i.dst_cid ++ long_id i.src_cid) in
        let front : List ℕ = tail ++ (var ++ token) in
        let numbers : List ℕ = number_bytes number ++ payload in
        let same : packet ≡ (first ∷ (front ++ len)) ++ numbers =
        regroup (first ∷ front) len (number_bytes number) payload in
        let at : ℕ = length (first ∷ (front ++ len)) in
        let start : ℕ = 7 + length i.dst_cid + length i.src_cid + length var in
        let top = long_length first version i.dst_cid i.src_cid in
        let apart : packet ≡ ((first ∷ tail) ++ var) ++ (token ++ ((len ++ number_bytes number) ++ payload)) =
        ap (λ (xs : List ℕ). (xs ++ (len ++ number_bytes number)) ++ payload) (sym (append_assoc (first ∷ tail) var token))
        ∙ append_assoc (((first ∷ tail) ++ var) ++ token) (len ++ number_bytes number) payload
        ∙ append_assoc ((first ∷ tail) ++ var) token ((len ++ number_bytes number) ++ payload) in
        let token_found : slice_range packet start (start + length token) ≡ token =
        ap (λ (xs : List ℕ). slice_range xs start (start + length token)) apart
        ∙ middle ((first ∷ tail) ++ var) token ((len ++ number_bytes number) ++ payload) start (start + length token)
        (omega (arith, length-append (first ∷ tail) var, top)) (omega (arith, length-append (first ∷ tail) var, top)) in
        let place : start + length token + length (len ++ numbers) ≡ length packet =
        omega (
          arith,
          ap length apart,
          length-append ((first ∷ tail) ++ var) (token ++ ((len ++ number_bytes number) ++ payload)),
          length-append (first ∷ tail) var,
          top,
          length-append token ((len ++ number_bytes number) ++ payload),
          ap length (append_assoc len (number_bytes number) payload),
        ) in
        let read : ProtectedHeader = protected.Initial (record {
          dst_cid = i.dst_cid;
          src_cid = i.src_cid;
          token_pos = record { start = start; end = start + length token };
          len = count;
          version = version;
        }) in (
          read,
          at,
          subst (HeaderAt options (length packet) packet read) (sym (behind packet (first ∷ (front ++ len)) numbers same))
              (c.written.ensures.initial options (length packet) start count i len payload range.0 range.1 range.2
              range.3 valid.0 encoded place),
          (
            number,
            subst (IsNumberIn number at) (sym same) (number_there number first (front ++ len) payload at refl
                (long_low version size kind.Initial bounds.0 bounds.1) valid.1),
            ap (λ (t : List ℕ). let made : Header = header.Initial
                (record { dst_cid = i.dst_cid; src_cid = i.src_cid; token = t; number = number; version = version }) in
                made) (sym token_found),
            refl,
          ),
        )
    of options (header.Short spin key_phase dst number) count len payload valid range encoded =
        let h : Header = header.Short spin key_phase dst number in
        let packet : List ℕ = header_with len h ++ payload in
        let size : ℕ = number_size number in
        let bounds = size_bounds number in
        let first : ℕ = short_first spin key_phase size in
        let numbers : List ℕ = number_bytes number ++ payload in
        let same : packet ≡ (first ∷ dst) ++ numbers = append_assoc (first ∷ dst) (number_bytes number) payload in
        let at : ℕ = length (first ∷ dst) in
        let read : ProtectedHeader = protected.Short spin dst in (
          read,
          at,
          subst (HeaderAt options (length packet) packet read) (sym (behind packet (first ∷ dst) numbers same))
              (c.written.ensures.short options (length packet) spin key_phase dst payload number (range.1 numbers)),
          (
            number,
            subst (IsNumberIn number at) (sym same)
                (number_there number first dst payload at refl (short_low spin key_phase size bounds.0 bounds.1) valid.1),
            ap (λ (b : Bool). header.Short spin b dst number) (short_phase spin key_phase size bounds.0 bounds.1),
            refl,
          ),
        )
    of options (header.Retry dst src version) count len payload valid range encoded = absurd range
    of options (header.VersionNegotiate random src dst) count len payload valid range encoded = absurd range
