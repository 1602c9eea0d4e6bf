-- Frames that have nothing but numbers, and how they are written.
use Rattle.std.proofs.Common.{◌≡◌, ℕ, ◌<◌, ◌≤◌, ◌^◌, List, [], ◌∷◌, ◌++◌, length, take, drop, Bool, true, false, Some, None, Option, refl, sym, ap, subst, ◌∙◌, inl, arith}
use Rattle.std.specs.Prelude.{◌&&◌, IfSome, Ok, pos, slice_index_or}
use Rattle.std.proofs.lemmas.Grind.{common_steps}
use Rattle.std.proofs.lemmas.List.{append-nil}
use Rattle.std.proofs.lemmas.Nat.{le_or_l, le_or_r}
use Rattle.std.specs.Int.Bits.{bit_or}
use Rattle.quic_base.specs.Number.{bytes_of}
use Rattle.quic_base.specs.Varint.{shortest_varint}
use Rattle.quic_base.specs.declared.ids.Dir.{Dir}
use Rattle.quic_frame_fields.specs.Numbers.{AreNumeric}
use Rattle.quic_frame_fields.specs.Putting.{Puts}
use Rattle.quic_frame_fields.specs.Shortest.{shortest_frame}
use Rattle.quic_frames.specs.declared.frame.Frame.{Frame}
use Rattle.quic_frames.specs.declared.frame.Frame.TheVariants as frames
use Rattle.quic_frames.specs.declared.frame.rules.Breach.{Breach}
use Rattle.quic_frames.specs.declared.frame.rules.Breach.TheVariants as breaches
use Rattle.quic_frames.specs.InRange.{IsNoAck, IsTypedFrame, InRange, open_data}
use Rattle.quic_frames.specs.Meaning.{meaning_of}
use Rattle.quic_frames.specs.Rules.{breach_of, broken_if, is_past_streams}
use Rattle.quic_c_words.specs.declared.words.CFrame.{CFrame}
use Rattle.quic_c_write.specs.Plain.{IsPlain, WritesPlain, WroteAnyhow}
use Rattle.quic_c_words.specs.Shown.{data_of, flags_of, frame_kind_of, frame_numbers_of, rules_in, tail_of, is_last}
use Rattle.quic_c_write.specs.Written.{CanWriteFrame, IsAnswer, KeepsFlags, WroteFrame, token_of}
use Rattle.quic_c_write.proofs.Meanings.{one_meaning}
use Rattle.quic_results.specs.declared.results.Failure.TheVariants as failure
use Rattle.quic_results.specs.Results.{failed}

-- ---- numbers none of whose bits is set

pub or_zero : (a b : ℕ) → bit_or a b ≡ 0 → (a ≡ 0) × (b ≡ 0)
or_zero a b e = (omega (arith, e, le_or_l a b), omega (arith, e, le_or_r a b))

pub or_below : (a b n : ℕ) → bit_or a b < n → (a < n) × (b < n)
or_below a b n lt = (omega (arith, lt, le_or_l a b), omega (arith, lt, le_or_r a b))

-- ---- the frames

within : 0 < 2 ^ 62
within = omega arith

broken_by : (test : Bool) (count : ℕ) → count ≤ 2 ^ 60 → broken_if (test && is_past_streams count) breaches.Limit ≡ None
broken_by true count le = grind (arith, common_steps)
broken_by false count le = refl

-- a frame of a given kind, whose flags, data and token compute to nothing
plain : (frame : Frame) → flags_of frame ≡ 0 → data_of frame ≡ [] → open_data frame ≡ [] → tail_of frame ≡ 0
    → token_of frame ≡ [] → IsNoAck frame → IsTypedFrame frame → InRange frame
    → ((flags : ℕ) → KeepsFlags flags frame) → IsPlain frame
plain frame flags content counted tail token kind typed in_range kept = record {
  flags = flags;
  content = content;
  counted = counted;
  tail = tail;
  token = token;
  kind = kind;
  typed = typed;
  in_range = in_range;
  kept = kept;
}

pub ping : IsPlain frames.Ping
ping = plain frames.Ping refl refl refl refl refl tt tt tt (λ _. refl)

pub padding : IsPlain frames.Padding
padding = plain frames.Padding refl refl refl refl refl tt tt tt (λ _. refl)

pub challenge : (n : ℕ) → n < 2 ^ 64 → IsPlain (frames.PathChallenge n)
challenge n small = plain (frames.PathChallenge n) refl refl refl refl refl tt small tt (λ _. refl)

pub response : (n : ℕ) → n < 2 ^ 64 → IsPlain (frames.PathResponse n)
response n small = plain (frames.PathResponse n) refl refl refl refl refl tt small tt (λ _. refl)

pub challenge_parts : (last : Bool) (n : ℕ)
    → shortest_frame last (meaning_of (frames.PathChallenge n)) ≡ shortest_varint 0x1a ++ bytes_of 8 n
unfolding shortest_frame
challenge_parts last n = ap (λ (l : List ℕ). shortest_varint 0x1a ++ l) (append-nil (bytes_of 8 n))

pub response_parts : (last : Bool) (n : ℕ)
    → shortest_frame last (meaning_of (frames.PathResponse n)) ≡ shortest_varint 0x1b ++ bytes_of 8 n
unfolding shortest_frame
response_parts last n = ap (λ (l : List ℕ). shortest_varint 0x1b ++ l) (append-nil (bytes_of 8 n))

pub handshake_done : IsPlain frames.HandshakeDone
handshake_done = plain frames.HandshakeDone refl refl refl refl refl tt tt tt (λ _. refl)

pub reset_stream : (a b c : ℕ) → AreNumeric (a ∷ b ∷ c ∷ [])
    → IsPlain (frames.ResetStream (record { id = a; error_code = b; final_offset = c }))
reset_stream a b c small =
    plain (frames.ResetStream (record { id = a; error_code = b; final_offset = c })) refl refl refl refl refl tt small tt
    (λ _. refl)

pub stop_sending : (a b : ℕ) → AreNumeric (a ∷ b ∷ [])
    → IsPlain (frames.StopSending (record { id = a; error_code = b }))
stop_sending a b small =
    plain (frames.StopSending (record { id = a; error_code = b })) refl refl refl refl refl tt small tt (λ _. refl)

pub max_data : (n : ℕ) → n < 2 ^ 62 → IsPlain (frames.MaxData n)
max_data n small = plain (frames.MaxData n) refl refl refl refl refl tt small tt (λ _. refl)

pub max_stream_data : (id offset : ℕ) → id < 2 ^ 62 → offset < 2 ^ 62 → IsPlain (frames.MaxStreamData id offset)
max_stream_data id offset small also =
    plain (frames.MaxStreamData id offset) refl refl refl refl refl tt small also (λ _. refl)

pub stream_data_blocked : (id offset : ℕ) → id < 2 ^ 62 → offset < 2 ^ 62
    → IsPlain (frames.StreamDataBlocked id offset)
stream_data_blocked id offset small also =
    plain (frames.StreamDataBlocked id offset) refl refl refl refl refl tt small also (λ _. refl)

pub data_blocked : (offset : ℕ) → offset < 2 ^ 62 → IsPlain (frames.DataBlocked offset)
data_blocked offset small = plain (frames.DataBlocked offset) refl refl refl refl refl tt tt small (λ _. refl)

pub retire : (sequence : ℕ) → sequence < 2 ^ 62 → IsPlain (frames.RetireConnectionId sequence)
retire sequence small = plain (frames.RetireConnectionId sequence) refl refl refl refl refl tt tt small (λ _. refl)

pub max_streams : (dir : Dir) (count : ℕ) → count ≤ 2 ^ 60 → IsPlain (frames.MaxStreams dir count)
max_streams dir count few =
    plain (frames.MaxStreams dir count) refl refl refl refl refl tt tt (omega (arith, few))
    (λ flags. broken_by (rules_in flags).stream_limit count few)

pub streams_blocked : (dir : Dir) (limit : ℕ) → limit ≤ 2 ^ 60 → IsPlain (frames.StreamsBlocked dir limit)
streams_blocked dir limit few =
    plain (frames.StreamsBlocked dir limit) refl refl refl refl refl tt tt (omega (arith, few))
    (λ flags. broken_by (rules_in flags).stream_limit limit few)

-- ---- what is written

-- numbers that only have values where a kind has them
bare_is : (a b c : ℕ) → a ≡ 0 → b ≡ 0 → c ≡ 0
    → ◌≡◌ {A = List ℕ} (a ∷ b ∷ c ∷ 0 ∷ 0 ∷ []) (0 ∷ 0 ∷ 0 ∷ 0 ∷ 0 ∷ [])
bare_is a b c p q r = cc

second_is : (a b c : ℕ) → a ≡ 0 → c ≡ 0
    → ◌≡◌ {A = List ℕ} (a ∷ b ∷ c ∷ 0 ∷ 0 ∷ []) (0 ∷ b ∷ 0 ∷ 0 ∷ 0 ∷ [])
second_is a b c p r = cc

first_is : (a b c : ℕ) → b ≡ 0 → c ≡ 0
    → ◌≡◌ {A = List ℕ} (a ∷ b ∷ c ∷ 0 ∷ 0 ∷ []) (a ∷ 0 ∷ 0 ∷ 0 ∷ 0 ∷ [])
first_is a b c q r = cc

both_are : (a b c : ℕ) → c ≡ 0
    → ◌≡◌ {A = List ℕ} (a ∷ b ∷ c ∷ 0 ∷ 0 ∷ []) (a ∷ b ∷ 0 ∷ 0 ∷ 0 ∷ [])
both_are a b c r = cc

pub writes : (kind : ℕ) (numbers bytes old new : List ℕ) (n : ℕ) (frame : Frame) → IsPlain frame
    → kind ≡ frame_kind_of frame → numbers ≡ frame_numbers_of frame
    → ((last : Bool) → shortest_frame last (meaning_of frame) ≡ bytes)
    → Puts (Ok n) bytes old new → WritesPlain kind numbers old new n
writes kind numbers bytes old new n frame plain k h e puts = record {
  frame = frame;
  plain = plain;
  is_kind = k;
  has = h;
  puts = λ last. subst (λ (l : List ℕ). Puts (Ok n) l old new) (sym (e last)) puts;
}

-- frames without a number, with the second alone, the first alone, and the first two
pub writes_bare : (kind a b c : ℕ) (bytes old new : List ℕ) (n : ℕ) (frame : Frame) → bit_or (bit_or a b) c ≡ 0
    → IsPlain frame → kind ≡ frame_kind_of frame → frame_numbers_of frame ≡ 0 ∷ 0 ∷ 0 ∷ 0 ∷ 0 ∷ []
    → ((last : Bool) → shortest_frame last (meaning_of frame) ≡ bytes)
    → Puts (Ok n) bytes old new → WritesPlain kind (a ∷ b ∷ c ∷ 0 ∷ 0 ∷ []) old new n
writes_bare kind a b c bytes old new n frame zero plain k has e puts =
    let two = or_zero (bit_or a b) c zero in
    let one = or_zero a b two.0 in
    writes kind _ bytes old new n frame plain k (bare_is a b c one.0 one.1 two.1 ∙ sym has) e puts

pub writes_second : (kind a b c : ℕ) (bytes old new : List ℕ) (n : ℕ) (frame : Frame) → bit_or a c ≡ 0
    → IsPlain frame → kind ≡ frame_kind_of frame → frame_numbers_of frame ≡ 0 ∷ b ∷ 0 ∷ 0 ∷ 0 ∷ []
    → ((last : Bool) → shortest_frame last (meaning_of frame) ≡ bytes)
    → Puts (Ok n) bytes old new → WritesPlain kind (a ∷ b ∷ c ∷ 0 ∷ 0 ∷ []) old new n
writes_second kind a b c bytes old new n frame zero plain k has e puts =
    let two = or_zero a c zero in
    writes kind _ bytes old new n frame plain k (second_is a b c two.0 two.1 ∙ sym has) e puts

pub writes_first : (kind a b c : ℕ) (bytes old new : List ℕ) (n : ℕ) (frame : Frame) → bit_or b c ≡ 0
    → IsPlain frame → kind ≡ frame_kind_of frame → frame_numbers_of frame ≡ a ∷ 0 ∷ 0 ∷ 0 ∷ 0 ∷ []
    → ((last : Bool) → shortest_frame last (meaning_of frame) ≡ bytes)
    → Puts (Ok n) bytes old new → WritesPlain kind (a ∷ b ∷ c ∷ 0 ∷ 0 ∷ []) old new n
writes_first kind a b c bytes old new n frame zero plain k has e puts =
    let two = or_zero b c zero in
    writes kind _ bytes old new n frame plain k (first_is a b c two.0 two.1 ∙ sym has) e puts

pub writes_both : (kind a b c : ℕ) (bytes old new : List ℕ) (n : ℕ) (frame : Frame) → c ≡ 0
    → IsPlain frame → kind ≡ frame_kind_of frame → frame_numbers_of frame ≡ a ∷ b ∷ 0 ∷ 0 ∷ 0 ∷ []
    → ((last : Bool) → shortest_frame last (meaning_of frame) ≡ bytes)
    → Puts (Ok n) bytes old new → WritesPlain kind (a ∷ b ∷ c ∷ 0 ∷ 0 ∷ []) old new n
writes_both kind a b c bytes old new n frame zero plain k has e puts =
    writes kind _ bytes old new n frame plain k (both_are a b c zero ∙ sym has) e puts

pub wrote : (words : CFrame) (old new : List ℕ) (n : ℕ) → words.flags ≡ 0 → words.data_len ≡ 0
    → WritesPlain words.kind words.numbers old new n → WroteAnyhow words old new n
wrote words old new n flags none w = λ bytes rules.
    let p = w.plain in
    let zero : (word : ℕ) → word ≡ 0 → take word (drop words.data_len (drop words.data_offset bytes)) ≡ [] =
    λ word e. ap (λ (m : ℕ). take m (drop words.data_len (drop words.data_offset bytes))) e in
    let can : CanWriteFrame words bytes (is_last rules) w.frame = record {
      described = record {
        kind = w.is_kind;
        flags = flags ∙ sym p.flags;
        numbers = w.has;
        count = none ∙ sym (ap length p.content);
        within = λ some. absurd (omega (arith, some, none, p.tail));
        content = ap (λ (m : ℕ). take m (drop words.data_offset bytes)) none ∙ sym p.content;
        token = zero (tail_of w.frame) p.tail ∙ sym p.token;
      };
      kind = p.kind;
      typed = p.typed;
      stands = record {
        in_range = p.in_range;
        counted = λ _. subst (λ (l : List ℕ). length l < 2 ^ 62) (sym p.counted) within;
      };
    } in
    record {
      frame = w.frame;
      can = can;
      kept = p.kept rules;
      count = (w.puts (is_last rules)).count;
      front = (w.puts (is_last rules)).front;
    }

five_are : (ns : List ℕ) (n : ℕ) → length ns ≡ n → n ≡ 5 → slice_index_or ns 3 0 ≡ 0 → slice_index_or ns 4 0 ≡ 0
    → ns ≡ slice_index_or ns 0 0 ∷ slice_index_or ns 1 0 ∷ slice_index_or ns 2 0 ∷ 0 ∷ 0 ∷ []
five_are (a ∷ b ∷ c ∷ d ∷ e ∷ []) n long five p q = cc
five_are (a ∷ b ∷ c ∷ d ∷ e ∷ f ∷ ns) n long five p q = absurd (omega (arith, long, five))
five_are ns n long five p q = absurd (omega (arith, long, five))

-- the same of the first three of the five numbers
pub wrote_if : (words : CFrame) (old new : List ℕ) (n : Option ℕ) → words.flags ≡ 0 → words.data_len ≡ 0
    → length words.numbers ≡ 5
    → bit_or (slice_index_or words.numbers 3 0) (slice_index_or words.numbers 4 0) ≡ 0
    → IfSome n (λ m. WritesPlain words.kind (slice_index_or words.numbers 0 0 ∷ slice_index_or words.numbers 1 0
    ∷ slice_index_or words.numbers 2 0 ∷ 0 ∷ 0 ∷ []) old new m) → IfSome n (λ m. WroteAnyhow words old new m)
wrote_if words old new None flags none five zero w = tt
wrote_if words old new (Some n) flags none five zero w =
    let z = or_zero (slice_index_or words.numbers 3 0) (slice_index_or words.numbers 4 0) zero in
    let same = five_are words.numbers 5 five refl z.0 z.1 in
    wrote words old new n flags none
    (subst (λ (ns : List ℕ). WritesPlain words.kind ns old new n) (sym same) w)

-- ---- what the call answers

never : (b : Breach) → ◌≡◌ {A = Option Breach} None (Some b) → ⊥
never b e = cc

-- Where a frame was written, none that the words describe breaks a rule.
pub none_broken : (words : CFrame) (bytes : List ℕ) (flags : ℕ) (old new : List ℕ) (n : ℕ) (frame : Frame) (b : Breach)
    → WroteFrame words bytes flags old new n → CanWriteFrame words bytes (is_last flags) frame
    → breach_of (rules_in flags) (meaning_of frame) ≡ Some b → ⊥
none_broken words bytes flags old new n frame b w can breaks =
    never b (sym w.kept ∙ ap (breach_of (rules_in flags)) (one_meaning words bytes (is_last flags) w.frame frame w.can can)
    ∙ breaks)

not_room : pos 0 ≡ failed failure.NoRoom → ⊥
not_room e = cc

not_argument : pos 0 ≡ failed failure.Argument → ⊥
not_argument e = cc

pub answers : (words : CFrame) (bytes : List ℕ) (flags : ℕ) (old new : List ℕ) (n : ℕ)
    → WroteFrame words bytes flags old new n → IsAnswer words bytes flags (pos 0) old new n
answers words bytes flags old new n w = record {
  returns = inl refl;
  wrote = λ _. w;
  room = λ e. absurd (not_room e);
  refused = λ e. absurd (not_argument e);
}
