-- Whom to wake, as numbers. cmwq.h has the same tables.
use Rattle.cmwq_c.specs.Common.{not, Worker}
use Rattle.cmwq_c.specs.Numbers.{who_numbers, worker_meant}
use Rattle.std.specs.Prelude.{◌≡◌, ◌++◌, ◌-◌, ◌||◌, ◌==◌, ℕ, Bool, false, if◌then◌else◌, List, [], ◌∷◌, length}
use Rattle.std.specs.Prelude.{filter_map, replicate, Option, option_map}
use Rattle.std.specs.List.{list_any}
use Rattle.cmwq_model.specs.declared.id.CallerId.{CallerId}
use Rattle.cmwq_model.specs.declared.id.WorkerId.{WorkerId}
use Rattle.cmwq_dispatch.specs.Naming.{is_caller, is_worker, names_caller, names_completions, names_worker}
use Rattle.cmwq_dispatch.specs.declared.wakes.Named.{Named}
use Rattle.cmwq_dispatch.specs.declared.wakes.Wakes.{Wakes}
use Rattle.cmwq_c.specs.declared.numbers.WhoNumbers.{WhoNumbers}
use Rattle.cmwq_c.specs.declared.numbers.WakesNumbers.{WakesNumbers}

-- the numbers of nobody
abbrev pub nobody_number : ℕ
nobody_number = 255

abbrev pub nobody_numbers : WhoNumbers
nobody_numbers = record { kind = 255; index = 0; cpu = 0 }

-- those who are there, one after another, and nobody in the other places
abbrev pub filled_up : {Y : Type 0} → Y → ℕ → List Y → List Y
filled_up nobody places there = there ++ replicate (places - length there) nobody

abbrev pub told_first : {X Y : Type 0} → (X → Y) → Y → List (Option X) → List Y
told_first tell nobody named = filled_up nobody (length named) (filter_map (option_map tell) named)

abbrev pub caller_number : CallerId → ℕ
caller_number c = c.0

abbrev pub worker_numbers : WorkerId → WhoNumbers
worker_numbers w = who_numbers (Worker w)

abbrev pub flag_number : Bool → ℕ
flag_number set = if set then 1 else 0

abbrev pub wakes_numbers : Named → WakesNumbers
wakes_numbers n = record {
  workers = told_first worker_numbers nobody_numbers n.workers;
  callers = told_first caller_number nobody_number n.callers;
  all_workers = flag_number n.all_workers;
  all_callers = flag_number n.all_callers;
  clock = flag_number n.completions;
}

-- ---- whom the numbers name, as C reads them

-- those that stand before the first nobody
abbrev pub before_nobody : {Y : Type 0} → (Y → Bool) → List Y → List Y
before_nobody is_nobody [] = []
before_nobody is_nobody (y ∷ ys) = if is_nobody y then [] else y ∷ before_nobody is_nobody ys

abbrev pub is_no_caller : ℕ → Bool
is_no_caller c = c == 255

abbrev pub is_no_worker : WhoNumbers → Bool
is_no_worker n = n.kind == 255

abbrev pub is_told_caller : WakesNumbers → ℕ → Bool
is_told_caller n c = not (n.all_callers == 0) || list_any (λ d. d == c) (before_nobody is_no_caller n.callers)

abbrev pub is_told_worker : WakesNumbers → WorkerId → Bool
is_told_worker n v =
    not (n.all_workers == 0) || list_any (λ m. is_worker v (worker_meant m)) (before_nobody is_no_worker n.workers)

-- Exactly those who are named are told, as long as no caller is named that has the number of nobody.
abbrev pub CallersAreTold : Type 0
CallersAreTold = (w : Wakes) (c : ℕ) → list_any (is_caller 255) w.named.callers ≡ false
    → is_told_caller (wakes_numbers w.named) c ≡ names_caller w c

abbrev pub WorkersAreTold : Type 0
WorkersAreTold = (w : Wakes) (v : WorkerId) → is_told_worker (wakes_numbers w.named) v ≡ names_worker w v

abbrev pub ClockIsTold : Type 0
ClockIsTold = (w : Wakes) → not ((wakes_numbers w.named).clock == 0) ≡ names_completions w
