use Rattle.std.proofs.Common.{◌≡◌, ◌+◌, ◌*◌, ◌^◌, [], ◌∷◌, refl}
use Rattle.quic_base.specs.Number.{bytes_of}
use Rattle.quic_base.specs.Varint.{shortest_varint}
use Rattle.quic_base.proofs.Encoders.{put_writes}
use Rattle.quic_base.proofs.Encodings.{shortest_encodes, short_1, short_2, short_4, short_8}
use Rattle.quic_base.proofs.varint.VarIntCodec.encode.Goals as goal

pub returns-then-x : goal.returns-then-x
unfolding bytes_of
returns-then-x g c =
    let v = c.self.inside.0 in
    let e : shortest_varint v ≡ v ∷ [] = short_1 v c.if-x.true in
    let s = rw e at (shortest_encodes v c.self.invariant) in
    let x =
    put_writes c.put_u8.result c.map_err.result (v ∷ []) _ _ _ _ 1 c.put_u8.ensures.ok c.put_u8.ensures.err
    c.put_u8.ensures.spare c.map_err.ensures.variant refl in
    rw (← c.self.view_is, e) (record { bound = c.self.invariant; encoded = s; ok = x.ok; err = x.err; full = x.full; room = x.room })

pub returns-then-x-2 : goal.returns-then-x-2
unfolding bytes_of
returns-then-x-2 g c =
    let v = c.self.inside.0 in
    let e : shortest_varint v ≡ bytes_of 2 (2 ^ 14 + v) = short_2 v c.if-x.false c.if-x-2.true in
    let s = rw e at (shortest_encodes v c.self.invariant) in
    let x =
    put_writes c.put_u16.result c.map_err-then-x-2.result (bytes_of 2 (2 ^ 14 + v)) _ _ _ _ 2 c.put_u16.ensures.ok
    c.put_u16.ensures.err c.put_u16.ensures.spare c.map_err-then-x-2.ensures.variant refl in
    rw (← c.self.view_is, e) (record { bound = c.self.invariant; encoded = s; ok = x.ok; err = x.err; full = x.full; room = x.room })

pub returns-then-x-3 : goal.returns-then-x-3
unfolding bytes_of
returns-then-x-3 g c =
    let v = c.self.inside.0 in
    let e : shortest_varint v ≡ bytes_of 4 (2 * 2 ^ 30 + v) = short_4 v c.if-x-2.false c.if-x-3.true in
    let s = rw e at (shortest_encodes v c.self.invariant) in
    let x =
    put_writes c.put_u32.result c.map_err-then-x-3.result (bytes_of 4 (2 * 2 ^ 30 + v)) _ _ _ _ 4
    c.put_u32.ensures.ok c.put_u32.ensures.err c.put_u32.ensures.spare c.map_err-then-x-3.ensures.variant
    refl in
    rw (← c.self.view_is, e) (record { bound = c.self.invariant; encoded = s; ok = x.ok; err = x.err; full = x.full; room = x.room })

pub returns-else-x-3 : goal.returns-else-x-3
unfolding bytes_of
returns-else-x-3 g c =
    let v = c.self.inside.0 in
    let e : shortest_varint v ≡ bytes_of 8 (3 * 2 ^ 62 + v) = short_8 v c.if-x-3.false in
    let s = rw e at (shortest_encodes v c.self.invariant) in
    let x =
    put_writes c.put_u64.result c.map_err-else-x-3.result (bytes_of 8 (3 * 2 ^ 62 + v)) _ _ _ _ 8
    c.put_u64.ensures.ok c.put_u64.ensures.err c.put_u64.ensures.spare c.map_err-else-x-3.ensures.variant
    refl in
    rw (← c.self.view_is, e) (record { bound = c.self.invariant; encoded = s; ok = x.ok; err = x.err; full = x.full; room = x.room })
