-- Examples of FewStartBefore. In a small history all its premises hold, and as many start before a queueing as were
-- ahead of it. And each premise is needed: where only that one does not hold, more start before it.
use Rattle.std.specs.Prelude.{◌≡◌, ◌<◌, ◌∷◌, ◌++◌, ℕ, true, false, List, [], length}
use Rattle.cmwq_model.specs.Prelude.{IsLegal, Layout, is_live, is_started, item_runs, past_of}
use Rattle.cmwq_model.specs.declared.entry.Entry.{Entry}
use Rattle.cmwq_model.specs.declared.id.PoolId.{PoolId}
use Rattle.cmwq_model.specs.declared.record.Queueing.{Queueing}
use Rattle.cmwq_model.specs.declared.reply.Reply.TheVariants as reply
use Rattle.cmwq_model_examples.specs.Words.{caller, cancel, entry, finish, normal, queue, sleep, system, take, wq}
use Rattle.cmwq_order_laws.specs.Overtaking.{StandsBehind, WaitsThrough, starts_in}

-- what came first and what came later, each with the oldest entry first; a queueing; and those said to be ahead of it
pub record Story : Type 0 where
  pub layout : Layout
  pub first : List Entry
  pub later : List Entry
  pub ahead : List Queueing
  pub queueing : Queueing

-- the only normal pool
abbrev pub pool : PoolId
pool = record { cpu = record { 0 = 0 }; high = false }

-- the queueing of an item on a queue, with a number
abbrev pub queued : ℕ → ℕ → ℕ → Queueing
queued i q n =
    record {
      item = record { 0 = i };
      place = record { queue = record { 0 = q }; cpu = record { 0 = 0 } };
      number = n;
    }

-- so many starts in the pool are among the later entries
abbrev pub starts_later : Story → ℕ
starts_later x = starts_in pool (past_of x.later)

-- ---- as many as were ahead

-- the premises hold, and the bound is met
pub record InTurn (x : Story) : Type 0 where
  pub waits : WaitsThrough x.layout (past_of x.first) (past_of x.later) pool x.ahead x.queueing
  pub is_free : item_runs (past_of x.first) x.queueing.item.0 ≡ false
  pub as_many : starts_later x ≡ length x.ahead

-- Three items are queued. The first two start before the third.
abbrev pub two_before : Story
two_before = record {
  layout = system 1 3 1 3 100 (wq 3 false false ∷ []);
  first = (
      entry (caller 0) 0 (queue 0 0 0) (reply.Yes 0) ∷
      entry (caller 0) 1 (queue 1 0 0) (reply.Yes 1) ∷
      entry (caller 0) 2 (queue 2 0 0) (reply.Yes 2) ∷
      []);
  later = (
      entry (normal 0 0) 0 take (reply.StartedEnlist 0 1) ∷
      entry (normal 0 0) 1 sleep reply.Slept ∷
      entry (normal 0 1) 0 take (reply.StartedEnlist 1 2) ∷
      []);
  ahead = queued 0 0 0 ∷ queued 1 0 1 ∷ [];
  queueing = queued 2 0 2;
}

-- ---- without one of the premises

pub data Premise : Type 0 where
  legal : Premise
  stands : Premise
  is_open : Premise
  not_started : Premise
  is_free : Premise

-- the premises of WaitsThrough, and that the item does not run at first
abbrev pub Holds : Premise → Story → Type 0
Holds legal x = IsLegal x.layout (past_of x.later ++ past_of x.first)
Holds stands x = StandsBehind x.layout (past_of x.first) pool x.ahead x.queueing
Holds is_open x = is_live (past_of x.later ++ past_of x.first) x.queueing ≡ true
Holds not_started x = is_started (past_of x.later ++ past_of x.first) x.queueing.number ≡ false
Holds is_free x = item_runs (past_of x.first) x.queueing.item.0 ≡ false

-- All but this one hold, and yet more start than were ahead.
pub record IsNeeded (q : Premise) (x : Story) : Type 0 where
  pub others : (r : Premise) → (r ≡ q → ⊥) → Holds r x
  pub more : length x.ahead < starts_later x

abbrev pub one_queue : Layout
one_queue = system 1 3 1 2 100 (wq 3 false false ∷ [])

-- A worker starts the second of two.
abbrev pub out_of_turn : Story
out_of_turn = record {
  layout = one_queue;
  first = (
      entry (caller 0) 0 (queue 0 0 0) (reply.Yes 0) ∷
      entry (caller 0) 1 (queue 1 0 0) (reply.Yes 1) ∷
      []);
  later = entry (normal 0 0) 0 take (reply.StartedEnlist 1 1) ∷ [];
  ahead = [];
  queueing = queued 0 0 0;
}

-- The queue has one place, and item 0 has it. So item 1 is inactive. Item 2 is queued after it, on another queue, and
-- starts before it.
abbrev pub inactive : Story
inactive = record {
  layout = system 1 3 1 3 100 (wq 1 false false ∷ wq 1 false false ∷ []);
  first = (
      entry (caller 0) 0 (queue 0 0 0) (reply.Yes 0) ∷
      entry (normal 0 0) 0 take (reply.StartedEnlist 0 1) ∷
      entry (caller 0) 1 (queue 1 0 0) (reply.Yes 2) ∷
      []);
  later = (
      entry (caller 0) 2 (queue 2 1 0) (reply.Yes 3) ∷
      entry (normal 0 0) 1 finish (reply.Finished 0) ∷
      entry (normal 0 0) 2 take (reply.Started 3) ∷
      []);
  ahead = [];
  queueing = queued 1 0 2;
}

-- Item 0 is taken back before item 1 starts.
abbrev pub taken_back : Story
taken_back = record {
  layout = one_queue;
  first = entry (caller 0) 0 (queue 0 0 0) (reply.Yes 0) ∷ [];
  later = (
      entry (caller 0) 1 (queue 1 0 0) (reply.Yes 1) ∷
      entry (caller 0) 2 (cancel 0) (reply.Cancelled 0) ∷
      entry (normal 0 0) 0 take (reply.StartedEnlist 1 1) ∷
      []);
  ahead = [];
  queueing = queued 0 0 0;
}

-- Item 0 starts itself.
abbrev pub started : Story
started = record {
  layout = one_queue;
  first = entry (caller 0) 0 (queue 0 0 0) (reply.Yes 0) ∷ [];
  later = entry (normal 0 0) 0 take (reply.StartedEnlist 0 1) ∷ [];
  ahead = [];
  queueing = queued 0 0 0;
}

-- Item 0 runs and is queued again. Until that run ends, item 1 may start before it.
abbrev pub behind_its_run : Story
behind_its_run = record {
  layout = one_queue;
  first = (
      entry (caller 0) 0 (queue 0 0 0) (reply.Yes 0) ∷
      entry (normal 0 0) 0 take (reply.StartedEnlist 0 1) ∷
      entry (caller 0) 1 (queue 0 0 0) (reply.Yes 2) ∷
      []);
  later = (
      entry (caller 0) 2 (queue 1 0 0) (reply.Yes 3) ∷
      entry (normal 0 0) 1 sleep reply.Slept ∷
      entry (normal 0 1) 0 take (reply.StartedEnlist 3 2) ∷
      []);
  ahead = [];
  queueing = queued 0 0 2;
}

pub record PremisesAreNeeded : Type 0 where
  pub of_legal : IsNeeded legal out_of_turn
  pub of_stands : IsNeeded stands inactive
  pub of_is_open : IsNeeded is_open taken_back
  pub of_not_started : IsNeeded not_started started
  pub of_is_free : IsNeeded is_free behind_its_run

abbrev pub AsManyMayStart : Type 0
AsManyMayStart = InTurn two_before
