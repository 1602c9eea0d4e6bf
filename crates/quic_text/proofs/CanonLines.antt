-- The line of a payload in its shortest form.
use Rattle.std.proofs.Common.{◌≡◌, ◌≢◌, ℕ, Bool, true, false, List, [], ◌∷◌, ◌++◌, map, None, Option, Result, Ok, Err, ◌/◌, ◌%◌, codes, take, drop, slice_index, append_assoc, take-append-drop, refl, sym, ap, ◌∙◌}
use Rattle.std.specs.List.{flat_map, list_all}
use Rattle.std.proofs.lemmas.List.{append-nil}
use Rattle.hex.specs.Hex.{encode_lower, encode_with, lower_digits}
use Rattle.quic_base.specs.Number.{AreBytes}
use Rattle.quic_frame_fields.specs.declared.frame.fault.Fault.{Fault}
use Rattle.quic_frame_fields.specs.Payload.{Meaning, TypedFrame, AreFrames, IsBroken}
use Rattle.quic_frame_fields.specs.Reading.{Invalid, invalid, Item, Whole, Broken, items_of}
use Rattle.quic_frames.specs.Least.{frame_in, shortest_frames}
use Rattle.quic_frames.specs.Walk.{unplaced, given}
use Rattle.quic_frames.proofs.Items.{frames_are_items, broken_are_items, broken_some}
use Rattle.quic_canon.specs.Least.{IsLeast}
use Rattle.quic_canon.specs.Bytes.{GivesLeast, canon_bytes}
use Rattle.quic_canon.specs.declared.canonical.CanonBytes.{CanonBytes}
use Rattle.quic_canon.specs.declared.canonical.CanonBytes.TheVariants.{Same, Rewritten}
use Rattle.quic_canon.proofs.LeastPayloads.{one_least, other_some}
use Rattle.quic_text.specs.Printed.{Printed, Plain, line_bytes, is_plain}
use Rattle.quic_text.specs.FrameText.{item_line, frame_lines}
use Rattle.quic_text.proofs.PlacedLines.{lines_some}
use Rattle.quic_text.specs.CanonText.{after_frame, frames_in, canon_line, canon_lines}

-- a payload of frames has a least one
abbrev pub HasLeast : Type 0
HasLeast =
    (found : List TypedFrame) (payload : List ℕ) → payload ≢ [] → AreFrames false found payload
    → IsLeast (shortest_frames (map frame_in found)) payload

frames_in_all : (found : List TypedFrame) (items : List Item) → map unplaced items ≡ map given found
    → frames_in items ≡ Ok (map frame_in found)
frames_in_all [] [] e = refl
frames_in_all [] (i ∷ items) e = absurd cc
frames_in_all (f ∷ found) [] e = absurd cc
frames_in_all (f ∷ found) (Whole start stop g ∷ items) e =
    let head : g ≡ f = cc in
    let tails : map unplaced items ≡ map given found = cc in
    ap (after_frame g.frame) (frames_in_all found items tails)
    ∙ ap (λ (h : TypedFrame). let r : Result (List Meaning) Invalid = Ok (h.frame ∷ map frame_in found) in r) head
frames_in_all (f ∷ found) (Broken i ∷ items) e = absurd cc

frames_in_broken : (found : List TypedFrame) (i : Invalid) (items : List Item)
    → map unplaced items ≡ map given found ++ Err i ∷ [] → frames_in items ≡ Err i
frames_in_broken [] i [] e = absurd cc
frames_in_broken [] i (Whole start stop g ∷ items) e = absurd cc
frames_in_broken [] i (Broken j ∷ items) e =
    let same : j ≡ i = cc in ap (λ (k : Invalid). let r : Result (List Meaning) Invalid = Err k in r) same
frames_in_broken (f ∷ found) i [] e = absurd cc
frames_in_broken (f ∷ found) i (Whole start stop g ∷ items) e =
    let tails : map unplaced items ≡ map given found ++ Err i ∷ [] = cc in
    ap (after_frame g.frame) (frames_in_broken found i items tails)
frames_in_broken (f ∷ found) i (Broken j ∷ items) e = absurd cc

canon_some : (bytes : List ℕ) → bytes ≢ []
    → canon_lines bytes ≡ canon_line (frames_in (items_of false 0 None bytes)) ∷ []
canon_some [] some = absurd (some refl)
canon_some (b ∷ bytes) some = refl

-- the line of the least payload
pub least_printed : (payload least : List ℕ) → HasLeast → IsLeast least payload
    → canon_lines payload ≡ Plain (encode_lower least) ∷ []
least_printed payload least has l =
    let s = l.same in
    let found = s.others in
    let some = other_some least payload s in
    let same =
    one_least (shortest_frames (map frame_in found)) least payload (has found payload some s.other_encoded) l in
    canon_some payload some
    ∙ ap (λ (r : Result (List Meaning) Invalid). canon_line r ∷ [])
    (frames_in_all found (items_of false 0 None payload)
    (frames_are_items false found 0 None payload s.other_encoded))
    ∙ ap (λ (bytes : List ℕ). let ls : List Printed = Plain (encode_lower bytes) ∷ [] in ls) same

-- the line of what is none
pub broken_printed : (found : List TypedFrame) (payload : List ℕ) (type : Option ℕ) (reason : Fault) → AreBytes payload
    → IsBroken false None found payload type reason
    → canon_lines payload ≡ item_line (Broken (invalid type reason)) ∷ []
broken_printed found payload type reason fits b =
    canon_some payload (broken_some false None found payload type reason b)
    ∙ ap (λ (r : Result (List Meaning) Invalid). canon_line r ∷ [])
    (frames_in_broken found (invalid type reason) (items_of false 0 None payload)
    (broken_are_items false found 0 None payload type reason fits b))

-- the line of what a call gave
pub given_printed : (payload : List ℕ) (bytes : CanonBytes) → HasLeast → GivesLeast payload bytes
    → canon_lines payload ≡ Plain (encode_lower (canon_bytes bytes)) ∷ []
given_printed payload (Same b) has g =
    least_printed payload payload has g.1
    ∙ ap (λ (l : List ℕ). let ls : List Printed = Plain (encode_lower l) ∷ [] in ls) (sym g.0)
given_printed payload (Rewritten v) has g = least_printed payload v.items has g.0

-- frames have no `error` line
plain_items : (found : List TypedFrame) (items : List Item) → map unplaced items ≡ map given found
    → list_all is_plain (map item_line items) ≡ true
plain_items [] [] e = refl
plain_items [] (i ∷ items) e = absurd cc
plain_items (f ∷ found) [] e = absurd cc
plain_items (f ∷ found) (Whole start stop g ∷ items) e =
    let tails : map unplaced items ≡ map given found = cc in plain_items found items tails
plain_items (f ∷ found) (Broken i ∷ items) e = absurd cc

pub plain_frames : (strict : Bool) (found : List TypedFrame) (bytes : List ℕ) → bytes ≢ []
    → AreFrames strict found bytes
    → list_all is_plain (frame_lines strict bytes) ≡ true
plain_frames strict found bytes some s =
    ap (list_all is_plain) (lines_some strict bytes some)
    ∙ plain_items found (items_of strict 0 None bytes) (frames_are_items strict found 0 None bytes s)

-- the bytes of one line, and whether it is no `error` line
pub line_shown : (payload : List ℕ) (line : Printed) → canon_lines payload ≡ line ∷ []
    → line_bytes line ≡ flat_map line_bytes (canon_lines payload)
line_shown payload line e = sym (append-nil (line_bytes line)) ∙ ap (flat_map line_bytes) (sym e)

pub line_reported : (payload : List ℕ) (line : Printed) (b : Bool) → canon_lines payload ≡ line ∷ []
    → list_all is_plain (line ∷ []) ≡ b
    → b ≡ list_all is_plain (canon_lines payload)
line_reported payload line b e reported = sym reported ∙ ap (list_all is_plain) (sym e)

-- the digits of bytes are those of their front and of their back
digits_of_both : (a b : List ℕ) → encode_lower (a ++ b) ≡ encode_lower a ++ encode_lower b
unfolding encode_with
digits_of_both [] b = refl
digits_of_both (x ∷ a) b =
    ap (λ (ds : List ℕ). slice_index lower_digits (x / 16) ∷ slice_index lower_digits (x % 16) ∷ ds) (digits_of_both a b)

-- the line of bytes, printed by their front and then by their back
pub digits_shown : (text text' bytes front back : List ℕ) (n : ℕ) → front ≡ take n bytes → back ≡ drop n bytes
    → text' ≡ text ++ encode_lower front
    → text' ++ line_bytes (Plain (encode_lower back)) ≡ text ++ line_bytes (Plain (encode_lower bytes))
digits_shown text text' bytes front back n f b e =
    let both : bytes ≡ front ++ back = sym (rw (f, b) (take-append-drop n bytes)) in
    ap (λ (l : List ℕ). l ++ line_bytes (Plain (encode_lower back))) e ∙ append_assoc text (encode_lower front) (encode_lower back ++ codes "\n")
    ∙ ap (λ (l : List ℕ). text ++ l) (sym (append_assoc (encode_lower front) (encode_lower back) (codes "\n")))
    ∙ ap (λ (l : List ℕ). text ++ (l ++ codes "\n")) (sym (digits_of_both front back) ∙ ap encode_lower (sym both))
