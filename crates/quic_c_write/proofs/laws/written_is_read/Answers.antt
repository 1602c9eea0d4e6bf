use Rattle.std.proofs.Common.{◌≡◌, ◌∙◌, List, [], ◌∷◌, ℕ, ap, inl, refl, subst, sym, take}
use Rattle.std.proofs.lemmas.List.{append-nil, take_at}
use Rattle.std.proofs.lemmas.List.Elements.{All-nil, All-cons}
use Rattle.quic_frame_fields.specs.Payload.{AreFrames, Complete, TypedFrame}
use Rattle.quic_frame_fields.specs.Shortest.{shortest_frame}
use Rattle.quic_frames.specs.Least.{as_written}
use Rattle.quic_frames.specs.Meaning.{meaning_of}
use Rattle.quic_frames.specs.Rules.{Keeps}
use Rattle.quic_frames.specs.declared.frame.rules.Rules.{Rules}
use Rattle.quic_c_words.specs.Shown.{rules_in}
use Rattle.quic_c_words.specs.Shown.{is_last}
use Rattle.quic_c_write.proofs.laws.written_is_read.Goals as goal

pub returns : goal.returns
returns c = λ words bytes old new flags written short w.
    let last = is_last flags in
    let rules : Rules = record (rules_in flags) { short_types = short } in
    let frame = meaning_of w.frame in
    let all = shortest_frame last frame in
    let one : TypedFrame = as_written last frame in
    let whole : take written new ≡ all =
    ap (take written) w.front ∙ take_at all _ written (sym w.count) in
    let encoded = (c.read_back.ensures.one short last w.frame w.can.typed w.can.stands).0 in
    let read : AreFrames short (one ∷ []) all = (all, [], sym (append-nil all), encoded, λ _. refl, refl) in (
      Complete (one ∷ []),
      subst (λ (l : List ℕ). AreFrames short (one ∷ []) l) (sym whole) read,
      inl (All-cons (Keeps rules) one [] w.kept (All-nil (Keeps rules)), refl),
    )
