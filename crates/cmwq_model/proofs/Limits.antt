-- What it says of a layout that it is inside the limits.
use Rattle.std.proofs.Common.{◌≡◌, ◌<◌, ◌≤◌, ℕ, true, length}
use Rattle.std.proofs.lemmas.Bool.{and_parts, leb-true}
use Rattle.cmwq_model.specs.Layout.{Layout, is_layout, is_between, most_cpus, most_workers, most_callers, most_items}
use Rattle.cmwq_model.specs.Layout.{most_queues, most_room}

pub record Limits (s : Layout) : Type 0 where
  pub cpus : (0 < s.cpus) × (s.cpus ≤ most_cpus)
  pub workers : (0 < s.workers) × (s.workers ≤ most_workers)
  pub callers : (0 < s.callers) × (s.callers ≤ most_callers)
  pub items : (0 < s.items) × (s.items ≤ most_items)
  pub queues : (0 < length s.queues) × (length s.queues ≤ most_queues)
  pub room : s.room ≤ most_room

between : (low high n : ℕ) → is_between low high n ≡ true → (low ≤ n) × (n ≤ high)
between low high n h = let both = and_parts _ _ h in (leb-true low n both.0, leb-true n high both.1)

pub limits_of : (s : Layout) → is_layout s ≡ true → Limits s
limits_of s h =
    let all = and_parts _ _ h in
    let room = and_parts _ _ all.0 in
    let items = and_parts _ _ room.0 in
    let callers = and_parts _ _ items.0 in
    let cpus = and_parts _ _ callers.0 in
    let queues = and_parts _ _ all.1 in
    record {
      cpus = between 1 most_cpus s.cpus cpus.0;
      workers = between 1 most_workers s.workers cpus.1;
      callers = between 1 most_callers s.callers callers.1;
      items = between 1 most_items s.items items.1;
      queues = between 1 most_queues (length s.queues) queues.0;
      room = leb-true s.room most_room room.1;
    }
