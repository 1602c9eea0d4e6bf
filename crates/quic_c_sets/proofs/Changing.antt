-- What the calls return.
use Rattle.std.proofs.Common.{ℕ, Bool, List, take}
use Rattle.quic_c_entries.specs.declared.words.CRange.{CRange}
use Rattle.quic_c_entries.specs.declared.change.Splice.{Splice}
use Rattle.quic_c_entries.specs.Changes.{Made, SetNeedsMore, Plans}
use Rattle.quic_c_entries.proofs.Making.{one_more}
use Rattle.quic_c_sets.specs.Sets.{IsSet, Becomes, LacksRoom}

pub becomes : (test : ℕ → Bool) (old new : List CRange) (before after : ℕ) (change : Splice) → IsSet old before
    → Plans test (take before old) change
    → Made old before change new after → Becomes test old before new after
becomes test old new before after change set plan made = record {
  set = set;
  runs = rw made.runs plan.runs;
  within = made.within;
  behind = made.behind;
}

pub lacks_room : (test : ℕ → Bool) (old : List CRange) (before : ℕ) (change : Splice) → IsSet old before
    → Plans test (take before old) change
    → SetNeedsMore old before change → LacksRoom test old before
lacks_room test old before change set plan needs = record {
  set = set;
  full = needs.full;
  more = one_more test (take before old) change before plan needs.more;
}
