-- Lemmas on where a reader stops.
use Rattle.std.proofs.Common.{◌≡◌, ℕ, ◌<◌, ◌≤◌, Bool, true, false, List, [], ◌++◌, length, take, drop, get_or, refl, sym, ◌∙◌, ap, inl, arith, append_assoc, subst, inr}
use Rattle.std.specs.Prelude.{◌||◌}
use Rattle.std.proofs.lemmas.List.{take-append-drop, length-take, drop-append-le, append_cancel_right}
use Rattle.quic_base.specs.Codec.{Takes, Follows}
use Rattle.quic_base.specs.Varint.{Encodes}
use Rattle.quic_params.specs.declared.error.Error.{Error}
use Rattle.quic_params.specs.declared.error.Error.TheVariants.{Malformed}
use Rattle.quic_params.specs.declared.options.ReadOptions.{ReadOptions}
use Rattle.quic_params.specs.declared.parameter.Kind.{Kind}
use Rattle.quic_params.specs.declared.parameter.Row.{Row}
use Rattle.quic_params.specs.declared.parameter.TransportParameterId.{TransportParameterId}
use Rattle.quic_params.specs.declared.record.TransportParameters.{TransportParameters}
use Rattle.quic_params.specs.Options.{kind_read}
use Rattle.quic_params.specs.Table.{row_of}
use Rattle.quic_params.specs.Value.{IsNoValue}
use Rattle.quic_params.specs.Entry.{Given, IsEnd, IsKnownParameter, RefusesList, StopsAtEntry, StopsAt, StopsIn, within_entry}
use Rattle.quic_params.specs.State.{Holds}
use Rattle.quic_params.proofs.Entries.{at, entry_taken}
use Rattle.quic_params.proofs.Progress.{HasRead}

-- ---- ends

pub end_taken : {K : List ℕ → Type 0} (old mid new : List ℕ) → Takes K old mid → IsEnd new mid → IsEnd new old
end_taken old mid new t e = (t.front ++ e.0, t.split ∙ ap (λ l. t.front ++ l) e.1 ∙ sym (append_assoc t.front e.0 new))

pub end_dropped : (count : ℕ) (whole new : List ℕ) → new ≡ drop count whole → IsEnd new whole
end_dropped count whole new e =
    (take count whole, sym (take-append-drop count whole) ∙ ap (λ l. take count whole ++ l) (sym e))

pub end_whole : (whole : List ℕ) → IsEnd whole whole
end_whole whole = ([], refl)

-- what is dropped of a front is dropped of the whole
drop_within : (count len : ℕ) (mid : List ℕ) → count ≤ len → len ≤ length mid
    → drop count mid ≡ drop count (take len mid) ++ drop len mid
drop_within count len mid le fits =
    ap (drop count) (sym (take-append-drop len mid))
    ∙ drop-append-le count (take len mid) (drop len mid) (omega (arith, length-take len mid))

-- ---- stops

-- at an entry that is rejected, whose header was read, and so many bytes of its value
entry_left : (opt : ReadOptions) (before : List Given) (old mid new : List ℕ) (n len count : ℕ) (error : Error)
    → Takes (Follows (Encodes n) (Encodes len)) old mid → len ≤ length mid
    → RefusesList opt before (at n (take len mid)) error → count ≤ len → new ≡ drop count mid → StopsAt opt before old error new
entry_left opt before old mid new n len count error t le r within e =
    let w = entry_taken old mid n len t le in
    let parts : (t.front ++ take len mid) ++ drop len mid ≡ w.front ++ drop len mid =
    append_assoc t.front (take len mid) (drop len mid) ∙ ap (λ l. t.front ++ l) (take-append-drop len mid) ∙ sym t.split
    ∙ w.split in
    let whole : t.front ++ take len mid ≡ w.front =
    append_cancel_right (t.front ++ take len mid) w.front (drop len mid) parts in
    let value : IsEnd (drop count (take len mid)) (take len mid) =
    end_dropped count (take len mid) (drop count (take len mid)) refl in
    within_entry (record {
      entry = at n (take len mid);
      front = w.front;
      rest = drop len mid;
      whole = w.split;
      encoded = w.is;
      refused = r;
    })
    (drop count (take len mid))
    (t.front ++ value.0, sym whole ∙ ap (λ l. t.front ++ l) value.1 ∙ sym (append_assoc t.front value.0 (drop count (take len mid))))
    (e ∙ drop_within count len mid within le)

-- at a repeat, whose row is known by an equation
pub repeat_left : (opt : ReadOptions) (p : TransportParameters) (seen : List Bool) (before : List Given) (old mid : List ℕ) (n len : ℕ)
    (i : TransportParameterId) (w : Row)
    → w ≡ row_of i
    → Takes (Follows (Encodes n) (Encodes len)) old mid → len ≤ length mid → IsKnownParameter i n
    → (opt.no_repeats || w.once) ≡ true
    → get_or seen w.index false ≡ true → Holds p seen before
    → StopsAt opt before old Malformed mid
repeat_left opt p seen before old mid n len i w e t le k once seen_it h =
    let again : (opt.no_repeats || (row_of i).once) ≡ true = sym (ap (λ r. opt.no_repeats || r.once) e) ∙ once in
    let marked : get_or seen (row_of i).index false ≡ true = sym (ap (λ r. get_or seen r.index false) e) ∙ seen_it in
    entry_left opt before old mid mid n len 0 Malformed t le (record
    { id = i; known = k; cause = inl ((again, h.given_there i marked), refl) }) (omega arith) refl

-- at a value that is none
pub value_left : (opt : ReadOptions) (p : TransportParameters) (seen : List Bool) (before : List Given) (old mid new : List ℕ)
    (n len count : ℕ) (i : TransportParameterId) (error : Error) (w : Row)
    → w ≡ row_of i
    → Takes (Follows (Encodes n) (Encodes len)) old mid → len ≤ length mid → IsKnownParameter i n
    → ¬ (((opt.no_repeats || w.once) ≡ true) × (get_or seen w.index false ≡ true))
    → (k : Kind) → k ≡ kind_read opt w.kind → IsNoValue k (take len mid) error → Holds p seen before → count ≤ len → new ≡ drop count mid
    → StopsAt opt before old error new
value_left opt p seen before old mid new n len count i error w e t le k once x kind_is bad h within rest =
    let once_there : ¬ (((opt.no_repeats || (row_of i).once) ≡ true) × (get_or seen (row_of i).index false ≡ true)) =
    subst (λ (r : Row). ¬ (((opt.no_repeats || r.once) ≡ true) × (get_or seen r.index false ≡ true))) e once in
    let none : IsNoValue (kind_read opt (row_of i).kind) (take len mid) error =
    subst (λ (y : Kind). IsNoValue y (take len mid) error) (kind_is ∙ ap (λ (r : Row). kind_read opt r.kind) e) bad in
    entry_left opt before old mid new n len count error t le (record
    { id = i; known = k; cause = inr ((λ r. once_there (r.0, h.marked i r.1)), none) }) within rest

-- at a list
pub stops_in : (opt : ReadOptions) (whole old left : List ℕ) (p : TransportParameters) (seen : List Bool) (e : Error)
    → HasRead opt whole old p seen → 0 < length old
    → ((before : List Given) → Holds p seen before → StopsAtEntry opt before old e)
    → ((before : List Given) → Holds p seen before → StopsAt opt before old e left) → StopsIn opt whole e left
stops_in opt whole old left p seen e h lt stop at = record {
  bad = record {
    entries = h.entries;
    given = h.given;
    parts = record {
      front = h.front;
      back = old;
      whole = h.parts;
      first = h.list;
      second = (λ n. let z : length old ≡ 0 = ap length n in omega arith, stop h.given h.holds);
    };
  };
  stops_at = at h.given h.holds;
}
