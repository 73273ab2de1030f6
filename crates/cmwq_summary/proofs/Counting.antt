-- The counts of each counter go on as the definition does.
use Rattle.std.proofs.Common.{◌≡◌, ℕ, ◌<◌, List, [], ◌∷◌, length, refl, sym, subst, arith}
use Rattle.std.proofs.lemmas.List.{get_or-map}
use Rattle.std.specs.Prelude.{replicate}
use Rattle.cmwq_model.specs.declared.entry.Entry.{Entry}
use Rattle.cmwq_model.specs.Prelude.{Layout}
use Rattle.cmwq_state.specs.declared.effect.Effect.{Effect}
use Rattle.cmwq_state.specs.Effects.{IsEffect}
use Rattle.cmwq_summary.specs.declared.counter.Counter.{Counter}
use Rattle.cmwq_summary.specs.declared.counter.Counter.TheVariants.{Calls}
use Rattle.cmwq_summary.specs.declared.counter.Counter.TheVariants as counter
use Rattle.cmwq_summary.specs.declared.counter.TheConstants.{COUNTERS}
use Rattle.cmwq_summary.specs.Counters.{AreAdded, AreCounted, HaveRoom, counter_at, counts_at, no_counts}
use Rattle.cmwq_summary.specs.Figures.{key_from, key_of, keys_of, number_of}
use Rattle.cmwq_summary.specs.Tallies.{IsTallyTable}
use Rattle.cmwq_summary.proofs.Tallies.{counts_few, none_tallied, told_tally}

-- each counter stands at its number
pub stands : (c : Counter) → (number_of c < length COUNTERS) × (counter_at (number_of c) ≡ c)
stands counter.Calls = (omega arith, refl)
stands counter.Replies = (omega arith, refl)
stands counter.Queueings = (omega arith, refl)
stands counter.Starts = (omega arith, refl)
stands counter.Cancels = (omega arith, refl)
stands counter.WorkerRuns = (omega arith, refl)
stands counter.ItemRuns = (omega arith, refl)
stands counter.ItemCancels = (omega arith, refl)
stands counter.CallerCalls = (omega arith, refl)
stands counter.CallerTickets = (omega arith, refl)

pub none_counted : (s : Layout) → AreCounted s [] (no_counts s)
none_counted s = record {
  each = λ j h. let c = counter_at j in
      subst (IsTallyTable (key_of c) (keys_of s c) [])
      (sym (get_or-map (λ (c : Counter). replicate (keys_of s c) 0) COUNTERS j Calls [] h))
      (none_tallied (key_of c) (keys_of s c));
}

pub counts_have_room : (s : Layout) (past : List Entry) (tables : List (List ℕ)) → length past < 9223372036854775808
    → AreCounted s past tables → HaveRoom tables
counts_have_room s past tables few are j k h =
    counts_few (key_of (counter_at j)) (keys_of s (counter_at j)) past _ few (are.each j h) k

pub counted_on : (s : Layout) (past : List Entry) (t : Effect) (old new : List (List ℕ)) → IsEffect s past t
    → AreAdded t old new → AreCounted s past old → AreCounted s (t.entry ∷ past) new
counted_on s past t old new is added are = record {
  each = λ j h. let c = counter_at j in
      told_tally (key_of c) (keys_of s c) past t.entry _ _ (key_from c t) (key_is c) (added.each j h) (are.each j h);
}
  where
    key_is : (c : Counter) → key_from c t ≡ key_of c past t.entry
    key_is c = let opened = is.opened in let started = is.started in let ended = is.ended in let begun = is.begun in cc

-- the counts of one counter
pub counts_of : (s : Layout) (past : List Entry) (tables : List (List ℕ)) (c : Counter) → AreCounted s past tables
    → IsTallyTable (key_of c) (keys_of s c) past (counts_at tables (number_of c))
counts_of s past tables c are =
    subst (λ d. IsTallyTable (key_of d) (keys_of s d) past (counts_at tables (number_of c))) (stands c).1
    (are.each (number_of c) (stands c).0)
