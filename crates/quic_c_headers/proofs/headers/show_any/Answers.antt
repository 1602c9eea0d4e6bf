-- What was read is reported.
use Rattle.std.proofs.Common.{◌≡◌, ℕ, List, Result, Ok, Err, ap, sym, ◌∙◌, rules, to_z, of_z, w64}
use Rattle.std.specs.Prelude.{IfOk, slice_index}
use Rattle.quic_header_decode.specs.declared.places.HeaderPlaces.{HeaderPlaces}
use Rattle.quic_header_decode.specs.declared.places.ReadError.{ReadError}
use Rattle.quic_c_headers.proofs.Answered.{HasFirst}
use Rattle.quic_c_headers.proofs.headers.show_any.Goals as goal

first_of : (read : Result HeaderPlaces ReadError) (first : ℕ) (packet : List ℕ) → IfOk read (λ x. x.first ≡ first)
    → slice_index packet 0 ≡ first → HasFirst read packet
first_of (Ok x) first packet is stands = is ∙ sym stands
first_of (Err e) first packet is stands = tt

pub returns-clause-reported : goal.returns-clause-reported
returns-clause-reported c = λ id_len.
    let count : to_z w64 (of_z w64 c.returned.result) ≡ c.returned.result = search rules in (
      c.show.result,
      count ∙ c.returned.ensures,
      record {
        read = c.read_long.result;
        right = c.read_long.ensures.answer id_len;
        stored = c.read_long.ensures.seen;
        first = first_of c.read_long.result c.args.first c.args.packet.now c.read_long.ensures.first
            (ap (λ (p : List ℕ). slice_index p 0) c.requires.begins);
        outcome_is = c.show.ensures.outcome;
        words = c.show.ensures.words;
      },
    )
