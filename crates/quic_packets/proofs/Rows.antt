-- Packets in a row are opened one after another.
use Rattle.std.specs.Prelude.{◌≡◌, ℕ, ◌<◌, List, [], ◌∷◌, ◌++◌, length, map, Option, Some, None}
use Rattle.std.proofs.Common.{sym, ap, ◌∙◌, arith, refl, subst, append_assoc, append-nil}
use Rattle.std.proofs.lemmas.List.{map-append}
use Rattle.bytes.specs.Filled.{Filled}
use Rattle.quic_packets.specs.declared.opening.Opened.{Opened}
use Rattle.quic_packets.specs.Sealing.{IsAppended, PacketContents}
use Rattle.quic_packets.specs.Opening.{AreReturned, BeginsSealed, OpenedPacket, Opening, Opens, OpensFirst, OpensRow, ReturnsSealed, SealedRow, end_row, last, more, packet_of, returned_by, start, step}

-- what a call that opens a packet promises of sealed bytes
abbrev pub ReturnsWhere : Opening → List ℕ → Opened → Option Filled → Type 0
ReturnsWhere opening bytes opened left =
    (contents : PacketContents) (rest : List ℕ) → BeginsSealed opening bytes contents rest → ReturnsSealed opening contents rest opened left

-- of packets in a row some were opened and appended, and the others are left
pub record Progress (opening : Opening) (packets : List PacketContents) (before now : List Opened) (left : List ℕ) : Type 0 where
  pub done : List PacketContents
  pub others : List PacketContents
  pub all : packets ≡ done ++ others
  pub returned : IsAppended (AreReturned opening done) before now
  pub row : SealedRow opening others left

pub record Kept (opening : Opening) (before : List Opened) (bytes : List ℕ) (now : List Opened) (left : List ℕ) : Type 0 where
  pub steps : IsAppended (λ added. OpensRow opening bytes (map packet_of added) (Some left)) before now
  pub progress : (packets : List PacketContents) → SealedRow opening packets bytes → Progress opening packets before now left

-- the first packet of a row, and the others
pub record Split (opening : Opening) (packets : List PacketContents) (bytes : List ℕ) : Type 0 where
  pub contents : PacketContents
  pub rest : List ℕ
  pub begins : BeginsSealed opening bytes contents rest

-- a row begins with a packet
pub row_first : (opening : Opening) (packets : List PacketContents) (bytes : List ℕ) → SealedRow opening packets bytes
    → Split opening packets bytes
row_first opening _ _ (last contents bytes begins) = record { contents = contents; rest = []; begins = begins }
row_first opening _ _ (more contents bytes rest others begins some row) =
    record { contents = contents; rest = rest; begins = begins }

record Stepped (opening : Opening) (packets : List PacketContents) (opened : Opened) (left : List ℕ) : Type 0 where
  contents : PacketContents
  after : List PacketContents
  all : packets ≡ contents ∷ after
  is : packet_of opened ≡ returned_by opening contents
  row : SealedRow opening after left

row_step : (opening : Opening) (packets : List PacketContents) (bytes : List ℕ) (opened : Opened) (next : Filled)
    → SealedRow opening packets bytes → ReturnsWhere opening bytes opened (Some next)
    → Stepped opening packets opened next.items
row_step opening _ _ opened next (last contents bytes begins) returns =
    let back = returns contents [] begins in
    absurd (let past : 0 < length {A = ℕ} [] = back.left_is.1 in omega arith)
row_step opening _ _ opened next (more contents bytes rest others begins some row) returns =
    let back = returns contents rest begins in
    record {
      contents = contents;
      after = others;
      all = refl;
      is = back.packet;
      row = subst (SealedRow opening others) (sym back.left_is.0) row;
    }

row_end : (opening : Opening) (packets : List PacketContents) (bytes : List ℕ) (opened : Opened)
    → SealedRow opening packets bytes → ReturnsWhere opening bytes opened None
    → (contents : PacketContents) × (packets ≡ contents ∷ []) × (packet_of opened ≡ returned_by opening contents)
row_end opening _ _ opened (last contents bytes begins) returns = (contents, refl, (returns contents [] begins).packet)
row_end opening _ _ opened (more contents bytes rest others begins some row) returns =
    let back = returns contents rest begins in
    absurd (let none : rest ≡ [] = back.left_is in omega (arith, ap length none, some))

-- one more is appended
appended_one : (before now new added : List Opened) (opened : Opened) → now ≡ before ++ added
    → new ≡ now ++ (opened ∷ []) → new ≡ before ++ (added ++ (opened ∷ []))
appended_one before now new added opened is same =
    same ∙ ap (λ (xs : List Opened). xs ++ (opened ∷ [])) is ∙ append_assoc before added (opened ∷ [])

returned_one : (opening : Opening) (done : List PacketContents) (contents : PacketContents) (added : List Opened) (opened : Opened)
    → AreReturned opening done added → packet_of opened ≡ returned_by opening contents
    → AreReturned opening (done ++ (contents ∷ [])) (added ++ (opened ∷ []))
returned_one opening done contents added opened are is =
    map-append packet_of added (opened ∷ []) ∙ ap (λ (xs : List OpenedPacket). xs ++ (packet_of opened ∷ [])) are
    ∙ ap (λ (x : OpenedPacket). map (returned_by opening) done ++ (x ∷ [])) is
    ∙ sym (map-append (returned_by opening) done (contents ∷ []))

pub kept_start : (opening : Opening) (before : List Opened) (bytes : List ℕ) → Kept opening before bytes before bytes
kept_start opening before bytes = record {
  steps = ([], start bytes, sym (append-nil before));
  progress = λ packets row. record { done = []; others = packets; all = refl; returned = ([], refl, sym (append-nil before)); row = row };
}

-- what is left is opened too
rows_joined : (opening : Opening) (bytes : List ℕ) (added : List OpenedPacket) (left : List ℕ)
    (others : List OpenedPacket) (end : Option (List ℕ))
    → OpensRow opening bytes added (Some left) → OpensRow opening left others end
    → OpensRow opening bytes (added ++ others) end
rows_joined opening _ _ _ others end (start bytes) row = row
rows_joined opening _ _ left others end (step bytes rest _ first behind found some steps) row =
    step bytes rest end first (behind ++ others) found some (rows_joined opening rest behind left others end steps row)

pub kept_step : (opening : Opening) (before : List Opened) (bytes : List ℕ) (now : List Opened) (left : List ℕ)
    (new : List Opened) (opened : Opened) (next : Filled)
    → Kept opening before bytes now left → OpensFirst opening left opened (Some next)
    → ReturnsWhere opening left opened (Some next) → new ≡ now ++ (opened ∷ [])
    → Kept opening before bytes new next.items
kept_step opening before bytes now left new opened next it opens returns same =
    let there : Opens opening left (packet_of opened) next.items =
    subst (Opens opening left (packet_of opened)) (sym opens.left_is.0) opens.opens in
    let some : 0 < length next.items = subst (λ (xs : List ℕ). 0 < length xs) (sym opens.left_is.0) opens.left_is.1 in
    record {
      steps = (
        it.steps.0 ++ (opened ∷ []),
        subst (λ (xs : List OpenedPacket). OpensRow opening bytes xs (Some next.items))
            (sym (map-append packet_of it.steps.0 (opened ∷ [])))
            (rows_joined opening bytes (map packet_of it.steps.0) left (packet_of opened ∷ []) (Some next.items) it.steps.1
            (step left next.items (Some next.items) (packet_of opened) [] there some (start next.items))),
        appended_one before now new it.steps.0 opened it.steps.2 same,
      );
      progress = λ packets row.
          let p = it.progress packets row in
          let s = row_step opening p.others left opened next p.row returns in
          record {
            done = p.done ++ (s.contents ∷ []);
            others = s.after;
            all = p.all ∙ ap (λ (xs : List PacketContents). p.done ++ xs) s.all ∙ sym (append_assoc p.done (s.contents ∷ []) s.after);
            returned = (
              p.returned.0 ++ (opened ∷ []),
              returned_one opening p.done s.contents p.returned.0 opened
                  p.returned.1 s.is,
              appended_one before now new p.returned.0 opened p.returned.2 same,
            );
            row = s.row;
          };
    }

-- all packets were opened
pub record All (opening : Opening) (before : List Opened) (bytes : List ℕ) (now : List Opened) : Type 0 where
  pub opened : IsAppended (λ added. OpensRow opening bytes (map packet_of added) None) before now
  pub returned : (packets : List PacketContents) → SealedRow opening packets bytes → IsAppended (AreReturned opening packets) before now

-- the last packet ends the steps
pub kept_end : (opening : Opening) (before : List Opened) (bytes : List ℕ) (now : List Opened) (left : List ℕ)
    (new : List Opened) (opened : Opened)
    → Kept opening before bytes now left → OpensFirst opening left opened None → ReturnsWhere opening left opened None
    → new ≡ now ++ (opened ∷ [])
    → All opening before bytes new
kept_end opening before bytes now left new opened it opens returns same = record {
  opened = (
    it.steps.0 ++ (opened ∷ []),
    subst (λ (xs : List OpenedPacket). OpensRow opening bytes xs None) (sym (map-append packet_of it.steps.0 (opened ∷ [])))
        (rows_joined opening bytes (map packet_of it.steps.0) left (packet_of opened ∷ []) None it.steps.1
        (end_row left (packet_of opened) (subst (Opens opening left (packet_of opened)) opens.left_is opens.opens))),
    appended_one before now new it.steps.0 opened it.steps.2 same,
  );
  returned = λ packets row.
      let p = it.progress packets row in
      let s = row_end opening p.others left opened p.row returns in (
        p.returned.0 ++ (opened ∷ []),
        subst (λ (xs : List PacketContents). AreReturned opening xs (p.returned.0 ++ (opened ∷ [])))
            (sym (p.all ∙ ap (λ (xs : List PacketContents). p.done ++ xs) s.1))
            (returned_one opening p.done s.0 p.returned.0 opened p.returned.1 s.2),
        appended_one before now new p.returned.0 opened p.returned.2 same,
      );
}
