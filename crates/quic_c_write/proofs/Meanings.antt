-- Words describe one meaning at most.
use Rattle.std.proofs.Common.{◌≡◌, ℕ, List, [], map, take, drop, Bool, Option, None, Some, refl, sym, ap, ◌∙◌}
use Rattle.quic_base.specs.declared.ids.Dir.TheVariants as dirs
use Rattle.quic_frame_fields.specs.declared.frame.close.Close.TheVariants as closes
use Rattle.quic_frame_fields.specs.Table.{Row}
use Rattle.quic_frame_fields.specs.Table as names
use Rattle.quic_frame_fields.specs.Payload.{Meaning}
use Rattle.quic_frames.specs.declared.frame.Frame.{Frame}
use Rattle.quic_frames.specs.declared.frame.Frame.TheVariants as frames
use Rattle.quic_frames.specs.InRange.{IsNoAck}
use Rattle.quic_frames.specs.Meaning.{meaning_of, frame_of}
use Rattle.quic_c_words.specs.declared.words.CFrame.{CFrame}
use Rattle.quic_c_words.specs.Slots.{slots_of, row_of_kind}
use Rattle.quic_c_write.specs.Shapes.{token_room}
use Rattle.quic_c_write.specs.Faults.{data_at, token_at, value_by, value_in}
use Rattle.quic_c_words.specs.Shown.{frame_kind_of, flags_of, frame_numbers_of, data_of, tail_of}
use Rattle.quic_c_write.specs.Written.{CanWriteFrame, token_of}
use Rattle.quic_c_write.proofs.Shapes.{keeps}

meaning_in : ℕ → ℕ → List ℕ → List ℕ → List ℕ → Option Row → Meaning
meaning_in kind flags ns bytes token None = frame_of names.Padding []
meaning_in kind flags ns bytes token (Some r) = frame_of r.name (map (value_by kind flags ns bytes token) (slots_of r.name))

-- the meaning of a frame of any kind but ACK, by its words, its data and its token
meaning_by : ℕ → ℕ → List ℕ → List ℕ → List ℕ → Meaning
meaning_by kind flags ns bytes token = meaning_in kind flags ns bytes token (row_of_kind kind)

-- the same of a frame
abbrev parts_by : Frame → Meaning
parts_by frame =
    meaning_by (frame_kind_of frame) (flags_of frame) (frame_numbers_of frame) (data_of frame) (token_of frame)

meaning_is : (frame : Frame) → IsNoAck frame → meaning_of frame ≡ parts_by frame
unfolding meaning_by meaning_in
meaning_is (frames.Ack _) here = elim here [ ]
meaning_is (frames.MaxStreams dirs.Bi count) here = refl
meaning_is (frames.MaxStreams dirs.Uni count) here = refl
meaning_is (frames.StreamsBlocked dirs.Bi limit) here = refl
meaning_is (frames.StreamsBlocked dirs.Uni limit) here = refl
meaning_is (frames.Close (closes.Connection x)) here = refl
meaning_is (frames.Close (closes.Application x)) here = refl
meaning_is frame here = refl

same_parts : (f : ℕ → ℕ → List ℕ → List ℕ → List ℕ → Meaning) (a a' b b' : ℕ) (c c' d d' e e' : List ℕ) → a ≡ a'
    → b ≡ b' → c ≡ c' → d ≡ d' → e ≡ e'
    → f a b c d e ≡ f a' b' c' d' e'
same_parts f a a' b b' c c' d d' e e' p q r s t = cc

pub one_meaning : (words : CFrame) (bytes : List ℕ) (last : Bool) (one other : Frame)
    → CanWriteFrame words bytes last one → CanWriteFrame words bytes last other
    → meaning_of one ≡ meaning_of other
one_meaning words bytes last one other a b =
    let kinds : frame_kind_of one ≡ frame_kind_of other = sym a.described.kind ∙ b.described.kind in
    let tails : tail_of one ≡ tail_of other =
    (keeps one a.kind).tail ∙ ap token_room kinds ∙ sym (keeps other b.kind).tail in
    let behind : List ℕ = drop words.data_len (drop words.data_offset bytes) in
    let tokens : token_of one ≡ token_of other =
    sym a.described.token ∙ ap (λ (n : ℕ). take n behind) tails ∙ b.described.token in
    meaning_is one a.kind
    ∙ same_parts meaning_by (frame_kind_of one) (frame_kind_of other) (flags_of one) (flags_of other)
    (frame_numbers_of one) (frame_numbers_of other) (data_of one) (data_of other)
    (token_of one) (token_of other) kinds (sym a.described.flags ∙ b.described.flags)
    (sym a.described.numbers ∙ b.described.numbers) (sym a.described.content ∙ b.described.content) tokens
    ∙ sym (meaning_is other b.kind)

-- ... and these are its name and values
said_by : (kind flags : ℕ) (ns bytes token : List ℕ) (r : Row) → row_of_kind kind ≡ Some r
    → meaning_by kind flags ns bytes token ≡ frame_of r.name (map (value_by kind flags ns bytes token) (slots_of r.name))
unfolding meaning_by meaning_in
said_by kind flags ns bytes token r e = ap (meaning_in kind flags ns bytes token) e

pub meaning_is_said : (words : CFrame) (payload : List ℕ) (last : Bool) (frame : Frame) (r : Row)
    → CanWriteFrame words payload last frame → row_of_kind words.kind ≡ Some r
    → meaning_of frame ≡ frame_of r.name (map (value_in words payload) (slots_of r.name))
meaning_is_said words payload last frame r a e =
    let d = a.described in
    let behind : List ℕ = drop words.data_len (drop words.data_offset payload) in
    let tail : tail_of frame ≡ token_room words.kind = (keeps frame a.kind).tail ∙ ap token_room (sym d.kind) in
    let token : token_of frame ≡ token_at words payload = sym d.token ∙ ap (λ (n : ℕ). take n behind) tail in
    meaning_is frame a.kind
    ∙ same_parts meaning_by (frame_kind_of frame) words.kind (flags_of frame) words.flags (frame_numbers_of frame)
    words.numbers (data_of frame) (data_at words payload) (token_of frame) (token_at words payload) (sym d.kind)
    (sym d.flags) (sym d.numbers) (sym d.content) token
    ∙ said_by words.kind words.flags words.numbers (data_at words payload) (token_at words payload) r e
