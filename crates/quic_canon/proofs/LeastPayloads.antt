-- The least payload of each meaning.
use Rattle.std.proofs.Common.{◌≡◌, ◌≢◌, ℕ, Bool, true, false, List, [], ◌∷◌, ◌++◌, length, map, Option, None, refl, sym, ap, subst, ◌∙◌, inl, inr, arith}
use Rattle.quic_base.specs.Number.{AreBytes}
use Rattle.quic_base.proofs.PublicLaws.{encoded_bound}
use Rattle.quic_frame_fields.specs.declared.frame.fault.Fault.{Fault}
use Rattle.quic_frame_fields.specs.Payload.{Meaning, TypedFrame, IsFrame, AreFrames, IsBroken, Complete, FailsAfter, IsReadingAfter}
use Rattle.quic_base.specs.One.{ExactlyOne}
use Rattle.quic_frames.specs.Least.{AreOrExceed, frame_in, all_written, shortest_frames}
use Rattle.std.specs.List.{AllZip}
use Rattle.quic_canon.specs.Same.{IsSameFrame, IsSame}
use Rattle.quic_canon.specs.Least.{IsLeast}
use Rattle.quic_canon.proofs.SameFrames.{frames_same, frames_themselves}

-- what is used of the laws of payloads
abbrev pub OneReading : Type 0
OneReading =
    (some others : List TypedFrame) (bytes : List ℕ) → AreFrames false some bytes → AreFrames false others bytes → some ≡ others

abbrev pub Shortest : Type 0
Shortest =
    (found : List TypedFrame) (bytes : List ℕ) → AreFrames false found bytes → AreOrExceed bytes (shortest_frames (map frame_in found))

abbrev pub Encoded : Type 0
Encoded =
    (strict : Bool) (found : List TypedFrame) (bytes : List ℕ) → AreFrames false found bytes
    → AreFrames strict (all_written (map frame_in found)) (shortest_frames (map frame_in found))

abbrev pub Written : Type 0
Written = (frames : List Meaning) → map frame_in (all_written frames) ≡ frames

-- ---- meaning the same

-- the frames of one payload, given those of the other
along : (payload other : List ℕ) (found : List TypedFrame) → OneReading → IsSame payload other
    → AreFrames false found other
    → (frames : List TypedFrame) × AreFrames false frames payload × (map frame_in frames ≡ map frame_in found)
along payload other found one s f =
    let are = one s.others found other s.other_encoded f in
    let same = frames_same s.frames s.others payload other s.encoded s.other_encoded s.same in
    (s.frames, s.encoded, same ∙ ap (map frame_in) are)

make_same : (payload other : List ℕ) (frames others : List TypedFrame) → payload ≢ [] → AreFrames false frames payload
    → AreFrames false others other
    → map frame_in frames ≡ map frame_in others → IsSame payload other
make_same payload other frames others some s t e = record {
  some = some;
  frames = frames;
  encoded = s;
  others = others;
  other_encoded = t;
  same = subst (λ (l : List Meaning). AllZip IsSameFrame (map frame_in frames) l) e (frames_themselves (map frame_in frames));
}

front_nil : (front back : List ℕ) → front ++ back ≡ [] → front ≡ []
front_nil [] back e = refl
front_nil (b ∷ front) back e = absurd cc

pub no_frame : (found : TypedFrame) (bytes : List ℕ) → IsFrame false found bytes → bytes ≢ []
no_frame found bytes f none =
    let some = (encoded_bound found.type f.type_bytes f.type_encoded.encoded).1 in
    absurd (omega (arith, some, ap length (front_nil f.type_bytes f.field_bytes (sym f.parts ∙ none))))

filled : (frames others : List TypedFrame) (payload other : List ℕ) → payload ≢ [] → AreFrames false frames payload
    → AreFrames false others other
    → AllZip IsSameFrame (map frame_in frames) (map frame_in others) → other ≢ []
filled [] others payload other some s t same none = some s
filled (f ∷ frames) [] payload other some s t same none = absurd same
filled (f ∷ frames) (g ∷ others) payload other some s t same none =
    no_frame g t.0 t.3 (front_nil t.0 t.1 (sym t.2 ∙ none))

pub other_some : (payload other : List ℕ) → IsSame payload other → other ≢ []
other_some payload other s = filled s.frames s.others payload other s.some s.encoded s.other_encoded s.same

flip : (payload other : List ℕ) → IsSame payload other → IsSame other payload
flip payload other s =
    make_same other payload s.others s.frames (other_some payload other s) s.other_encoded s.encoded
    (sym (frames_same s.frames s.others payload other s.encoded s.other_encoded s.same))

join : (first second third : List ℕ) → OneReading → IsSame first second → IsSame second third → IsSame first third
join first second third one s t =
    let a = along first second t.frames one s t.encoded in
    make_same first third a.0 t.others s.some a.1 t.other_encoded
    (a.2 ∙ frames_same t.frames t.others second third t.encoded t.other_encoded t.same)

-- ---- the least payload

encoded_some : (frames : List TypedFrame) (payload : List ℕ) → payload ≢ [] → AreFrames false frames payload
    → map frame_in frames ≢ []
encoded_some [] payload some s e = some s
encoded_some (f ∷ frames) payload some s e = cc

some_encoded : (frames : List TypedFrame) (payload : List ℕ) → map frame_in frames ≢ [] → AreFrames false frames payload
    → payload ≢ []
some_encoded [] payload some s none = some refl
some_encoded (f ∷ frames) payload some s none = no_frame f s.0 s.3 (front_nil s.0 s.1 (sym s.2 ∙ none))

pub has_least : (found : List TypedFrame) (payload : List ℕ) → OneReading → Shortest → Encoded → Written → payload ≢ []
    → AreFrames false found payload → IsLeast (shortest_frames (map frame_in found)) payload
has_least found payload one shortest encoded written some s =
    let frames = map frame_in found in
    let least = shortest_frames frames in
    let here = encoded false found payload s in
    let are = written frames in
    let least_some : least ≢ [] =
    some_encoded (all_written frames) least (λ none. encoded_some found payload some s (sym are ∙ none)) here in
    record {
      same = make_same least payload (all_written frames) found least_some here s are;
      no_other = λ other t.
          let a = along other payload found one t s in
          subst (λ (l : List Meaning). AreOrExceed other (shortest_frames l)) a.2 (shortest a.0 other a.1);
    }

pub one_least : (one other payload : List ℕ) → IsLeast one payload → IsLeast other payload → one ≡ other
one_least one other payload a b = either (b.no_other one a.same) (a.no_other other b.same)
  where
    either : AreOrExceed one other → AreOrExceed other one → one ≡ other
    either (inl e) y = e
    either (inr lt) (inl e) = sym e
    either (inr lt) (inr gt) = absurd (omega (arith, lt, gt))

-- The least payload of what means the same is the same.
least_along : (least payload other : List ℕ) → OneReading → IsLeast least payload → IsSame payload other
    → IsLeast least other
least_along least payload other one l s = record {
  same = join least payload other one l.same s;
  no_other = λ third t. l.no_other third (join third other payload one t (flip payload other s));
}

pub equal_if_same : (payload other least least' : List ℕ) → OneReading → IsLeast least payload → IsLeast least' other
    → IsSame payload other → least ≡ least'
equal_if_same payload other least least' one l k s =
    one_least least least' other (least_along least payload other one l s) k

pub same_if_equal : (payload other least least' : List ℕ) → OneReading → IsLeast least payload → IsLeast least' other
    → least ≡ least' → IsSame payload other
same_if_equal payload other least least' one l k e =
    join payload least other one (flip least payload l.same) (subst (λ (c : List ℕ). IsSame c other) (sym e) k.same)

pub least_of_least : (payload least : List ℕ) → OneReading → IsLeast least payload → IsLeast least least
least_of_least payload least one l = least_along least payload least one l (flip least payload l.same)

-- Its types are in their shortest encodings.
pub least_is_strict : (payload least : List ℕ) → OneReading → Shortest → Encoded → Written → IsLeast least payload
    → (found : List TypedFrame) × AreFrames true found least × AreFrames false found least
least_is_strict payload least one shortest encoded written l =
    let s = l.same in
    let found = s.others in
    let frames = map frame_in found in
    let some = other_some least payload s in
    let is : shortest_frames frames ≡ least = one_least (shortest_frames frames) least payload
    (has_least found payload one shortest encoded written some s.other_encoded) l in (
      all_written frames,
      subst (AreFrames true (all_written frames)) is (encoded true found payload s.other_encoded),
      subst (AreFrames false (all_written frames)) is (encoded false found payload s.other_encoded),
    )

-- a payload with an error has none
pub broken_has_none : (found : List TypedFrame) (least payload : List ℕ) (type : Option ℕ) (reason : Fault)
    → ((before : Option ℕ) (bytes : List ℕ) → AreBytes bytes → ExactlyOne (IsReadingAfter false before bytes))
    → AreBytes payload → IsBroken false None found payload type reason → IsLeast least payload → ⊥
broken_has_none found least payload type reason one fits b l =
    let it = one None payload fits in
    let same : Complete l.same.others ≡ FailsAfter found type reason =
    it.only (Complete l.same.others) l.same.other_encoded ∙ sym (it.only (FailsAfter found type reason) b) in
    cc same
