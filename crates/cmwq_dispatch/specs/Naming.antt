-- Who is named to be woken.
use Rattle.std.specs.Prelude.{◌≡◌, ◌||◌, ◌==◌, ℕ, Bool, true, false, Option, Some, None}
use Rattle.std.specs.List.{list_any}
use Rattle.cmwq_model.specs.Prelude.{same_worker}
use Rattle.cmwq_model.specs.declared.id.CallerId.{CallerId}
use Rattle.cmwq_model.specs.declared.id.WorkerId.{WorkerId}
use Rattle.cmwq_dispatch.specs.declared.wakes.Wakes.{Wakes}

-- A caller is named by its number, or as all are. So is a worker.
abbrev pub is_caller : ℕ → Option CallerId → Bool
is_caller c (Some d) = d.0 == c
is_caller c None = false

abbrev pub names_caller : Wakes → ℕ → Bool
names_caller w c = w.named.all_callers || list_any (is_caller c) w.named.callers

abbrev pub is_worker : WorkerId → Option WorkerId → Bool
is_worker v (Some w) = same_worker w v
is_worker v None = false

abbrev pub names_worker : Wakes → WorkerId → Bool
names_worker w v = w.named.all_workers || list_any (is_worker v) w.named.workers

-- who writes the history down, and those who sleep until something is completed
abbrev pub names_journal : Wakes → Bool
names_journal w = w.named.journal

abbrev pub names_completions : Wakes → Bool
names_completions w = w.named.completions

-- whoever was named still is
pub record NamesMore (old new : Wakes) : Type 0 where
  pub callers : (c : ℕ) → names_caller old c ≡ true → names_caller new c ≡ true
  pub workers : (v : WorkerId) → names_worker old v ≡ true → names_worker new v ≡ true
  pub journal : names_journal old ≡ true → names_journal new ≡ true
  pub completions : names_completions old ≡ true → names_completions new ≡ true

pub record NamesNobody (w : Wakes) : Type 0 where
  pub callers : (c : ℕ) → names_caller w c ≡ false
  pub workers : (v : WorkerId) → names_worker w v ≡ false
  pub journal : names_journal w ≡ false
  pub completions : names_completions w ≡ false

pub record NamesAll (w : Wakes) : Type 0 where
  pub callers : (c : ℕ) → names_caller w c ≡ true
  pub workers : (v : WorkerId) → names_worker w v ≡ true
  pub journal : names_journal w ≡ true
  pub completions : names_completions w ≡ true
