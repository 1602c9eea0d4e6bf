-- The head of an ACK.
use Rattle.std.proofs.Common.{◌≡◌, ℕ, ◌+◌, ◌-◌, ◌≤◌, ◌<◌, ◌^◌, List, [], ◌∷◌, ◌++◌, length, drop, get_or, refl, sym, ap, subst, ◌∙◌, append_assoc, arith}
use Rattle.std.specs.Prelude.{◌⊎◌}
use Rattle.std.proofs.lemmas.List.{append-nil}
use Rattle.quic_base.specs.Codec.{Takes}
use Rattle.quic_base.specs.Varint.{Encodes}
use Rattle.quic_frame_fields.specs.Field.{AreBlocks, NoNumber}
use Rattle.quic_frame_fields.specs.FirstRange.{AreLeft}
use Rattle.quic_frame_fields.specs.Numbers.{AreEncoded}
use Rattle.quic_frame_fields.specs.Reading.{varint_at}
use Rattle.quic_frame_fields.proofs.Steps.{ok_is}
use Rattle.quic_frame_fields.proofs.Varints.{varint_again}
use Rattle.quic_c_words.specs.declared.words.CFrame.{CFrame}
use Rattle.quic_c.specs.Ranges.{BeginsWithHead, GivesHead, frame_of_words}
use Rattle.quic_c.proofs.Places.{rest_placed, part_goes_on}

-- the numbers in front of a rest
pub head_read : (bytes a b c d : List ℕ) (type largest delay count : ℕ) → (type ≡ 2) ⊎ (type ≡ 3)
    → Takes (Encodes type) bytes a → Takes (Encodes largest) a b → Takes (Encodes delay) b c
    → Takes (Encodes count) c d → BeginsWithHead bytes largest count d
head_read bytes a b c d type largest delay count is one two three four =
    let third : b ≡ (three.front ++ four.front) ++ d =
    three.split ∙ ap (λ (l : List ℕ). three.front ++ l) four.split ∙ sym (append_assoc three.front four.front d) in
    let second : a ≡ (two.front ++ (three.front ++ four.front)) ++ d =
    two.split ∙ ap (λ (l : List ℕ). two.front ++ l) third
    ∙ sym (append_assoc two.front (three.front ++ four.front) d) in
    record {
      type = type;
      is_ack = is;
      delay = delay;
      header = one.front ++ (two.front ++ (three.front ++ four.front));
      parts = one.split ∙ ap (λ (l : List ℕ). one.front ++ l) second
          ∙ sym (append_assoc one.front (two.front ++ (three.front ++ four.front)) d);
      numbers = (
        one.front,
        two.front ++ (three.front ++ four.front),
        refl,
        one.is,
        (
          two.front,
          three.front ++ four.front,
          refl,
          two.is,
          (
            three.front,
            four.front,
            refl,
            three.is,
            (four.front, [], sym (append-nil four.front), four.is, refl),
          ),
        ),
      );
    }

-- A number that is taken in front of numbers is the first of them, and the others follow.
record Goes (n m : ℕ) (ns rest left : List ℕ) : Type 0 where
  same : n ≡ m
  header : List ℕ
  numbers : AreEncoded ns header
  parts : rest ≡ header ++ left

goes : (n m : ℕ) (ns bytes rest header left : List ℕ) → AreEncoded (m ∷ ns) header → bytes ≡ header ++ left
    → Takes (Encodes n) bytes rest → Goes n m ns rest left
goes n m ns bytes rest header left s whole t =
    let one : (n, rest) ≡ (m, s.1 ++ left) =
    ok_is (n, rest) (m, s.1 ++ left)
    (sym (ap varint_at t.split ∙ varint_again n t.front rest t.is)
    ∙ ap varint_at (whole ∙ ap (λ (l : List ℕ). l ++ left) s.2 ∙ append_assoc s.0 s.1 left)
    ∙ varint_again m s.0 (s.1 ++ left) s.3) in
    record {
      same = ap (λ (p : ℕ × List ℕ). p.0) one;
      header = s.1;
      numbers = s.4;
      parts = ap (λ (p : ℕ × List ℕ). p.1) one;
    }

-- numbers are in front of one rest only
same_numbers : (ns ms front header left rest : List ℕ) → length ns ≡ length ms → AreEncoded ns front
    → AreEncoded ms header → front ++ left ≡ header ++ rest → (ns ≡ ms) × (left ≡ rest)
same_numbers [] [] front header left rest len s t e =
    (refl, sym (ap (λ (l : List ℕ). l ++ left) s) ∙ e ∙ ap (λ (l : List ℕ). l ++ rest) t)
same_numbers [] (m ∷ ms) front header left rest len s t e = absurd (omega (arith, len))
same_numbers (n ∷ ns) [] front header left rest len s t e = absurd (omega (arith, len))
same_numbers (n ∷ ns) (m ∷ ms) front header left rest len s t e =
    let one =
    goes n m ms (front ++ left) (s.1 ++ left) header rest t e
    (record { front = s.0; split = ap (λ (l : List ℕ). l ++ left) s.2 ∙ append_assoc s.0 s.1 left; is = s.3 }) in
    let others = same_numbers ns ms s.1 one.header left rest (omega (arith, len)) s.4 one.numbers one.parts in
    (ap (λ (k : ℕ). k ∷ ns) one.same ∙ ap (λ (l : List ℕ). m ∷ l) others.0, others.1)

-- ---- where a number is cut off, there is no head

stops : (m : ℕ) (ns bytes header left : List ℕ) → AreEncoded (m ∷ ns) header → bytes ≡ header ++ left
    → NoNumber bytes → ⊥
stops m ns bytes header left s whole none =
    none m s.0 (s.1 ++ left) (whole ∙ ap (λ (l : List ℕ). l ++ left) s.2 ∙ append_assoc s.0 s.1 left) s.3

-- The bytes don't begin as an ACK.
abbrev NoHead : List ℕ → Type 0
NoHead bytes = (largest count : ℕ) (rest : List ℕ) → BeginsWithHead bytes largest count rest → ⊥

pub lacks_type : (bytes : List ℕ) → NoNumber bytes → NoHead bytes
lacks_type bytes cut largest count rest h =
    stops h.type (largest ∷ h.delay ∷ count ∷ []) bytes h.header rest h.numbers h.parts cut

pub has_type : (bytes a : List ℕ) (type : ℕ) → Takes (Encodes type) bytes a → ((type ≡ 2) ⊎ (type ≡ 3) → ⊥)
    → NoHead bytes
has_type bytes a type one other largest count rest h =
    let g = goes type h.type (largest ∷ h.delay ∷ count ∷ []) bytes a h.header rest h.numbers h.parts one in
    other (subst (λ (n : ℕ). (n ≡ 2) ⊎ (n ≡ 3)) (sym g.same) h.is_ack)

pub lacks_largest : (bytes a : List ℕ) (type : ℕ) → Takes (Encodes type) bytes a → NoNumber a → NoHead bytes
lacks_largest bytes a type one cut largest count rest h =
    let g = goes type h.type (largest ∷ h.delay ∷ count ∷ []) bytes a h.header rest h.numbers h.parts one in
    stops largest (h.delay ∷ count ∷ []) a g.header rest g.numbers g.parts cut

pub lacks_delay : (bytes a b : List ℕ) (type n : ℕ) → Takes (Encodes type) bytes a → Takes (Encodes n) a b
    → NoNumber b → NoHead bytes
lacks_delay bytes a b type n one two cut largest count rest h =
    let g = goes type h.type (largest ∷ h.delay ∷ count ∷ []) bytes a h.header rest h.numbers h.parts one in
    let i = goes n largest (h.delay ∷ count ∷ []) a b g.header rest g.numbers g.parts two in
    stops h.delay (count ∷ []) b i.header rest i.numbers i.parts cut

pub lacks_count : (bytes a b c : List ℕ) (type n delay : ℕ) → Takes (Encodes type) bytes a → Takes (Encodes n) a b
    → Takes (Encodes delay) b c → NoNumber c → NoHead bytes
lacks_count bytes a b c type n delay one two three cut largest count rest h =
    let g = goes type h.type (largest ∷ h.delay ∷ count ∷ []) bytes a h.header rest h.numbers h.parts one in
    let i = goes n largest (h.delay ∷ count ∷ []) a b g.header rest g.numbers g.parts two in
    let j = goes delay h.delay (count ∷ []) b c i.header rest i.numbers i.parts three in
    stops count [] c j.header rest j.numbers j.parts cut

-- blocks are those of a range at least
all_left : (greatest : ℕ) (ranges : List (ℕ × ℕ)) (blocks : List ℕ) → AreBlocks greatest ranges blocks
    → (0 < length ranges) × AreLeft greatest ranges blocks
all_left greatest [] blocks s = absurd s
all_left greatest (range ∷ ranges) blocks s = (omega arith, s)

-- the facts about the iterator behind the head of a frame
pub head_given : (payload : List ℕ) (frame : CFrame) (largest count : ℕ) (rest : List ℕ) → frame.begin ≤ frame.end
    → frame.end ≤ length payload → BeginsWithHead (frame_of_words frame payload) largest count rest → largest < 2 ^ 62
    → GivesHead frame payload (record { offset = frame.end - length rest; left = count + 1; largest = largest })
head_given payload frame largest count rest ordered within head small =
    let s = rest_placed payload frame.begin frame.end head.header rest ordered within head.parts in
    let sum = s.0 in
    let offset : ℕ = frame.end - length rest in
    let goes_on = part_goes_on payload offset frame.end (omega arith) in
    let here : drop offset payload ≡ rest ++ drop (frame.end - offset) (drop offset payload) =
    goes_on ∙ ap (λ (l : List ℕ). l ++ drop (frame.end - offset) (drop offset payload)) s.1 in
    record {
      ordered = ordered;
      ends = within;
      begins = omega arith;
      within = omega arith;
      small = small;
      count = count;
      left = refl;
      head = rw s.1 head;
      ack = λ greatest blocks behind ack.
          let same =
          same_numbers (head.type ∷ largest ∷ head.delay ∷ count ∷ [])
          (ack.type ∷ greatest ∷ ack.delay ∷ (length ack.ranges - 1) ∷ []) head.header ack.header rest
          (blocks ++ behind) refl head.numbers ack.numbers (sym head.parts ∙ ack.parts) in
          let number : largest ≡ greatest = ap (λ (ns : List ℕ). get_or ns 1 0) same.0 in
          let counted : count ≡ length ack.ranges - 1 = ap (λ (ns : List ℕ). get_or ns 3 0) same.0 in
          let all = all_left greatest ack.ranges blocks ack.encoded in
          let some = all.0 in
          record {
            count = omega arith;
            within = omega arith;
            small = small;
            blocks = blocks;
            behind = behind ++ drop (frame.end - offset) (drop offset payload);
            parts = here ∙ ap (λ (l : List ℕ). l ++ drop (frame.end - offset) (drop offset payload)) same.1
                ∙ append_assoc blocks behind (drop (frame.end - offset) (drop offset payload));
            encoded = subst (λ (n : ℕ). AreLeft n ack.ranges blocks) (sym number) all.1;
          };
    }
