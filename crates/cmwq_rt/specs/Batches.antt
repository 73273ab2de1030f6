-- Several calls of one entry each, made one after another.
use Rattle.std.specs.Prelude.{◌≡◌, ◌∷◌, ◌++◌}
use Rattle.cmwq_rt.specs.Common.{ℕ, List, [], Some, length, take, drop, slice_get, Call, Reply, Layout, View, Extends}
use Rattle.cmwq_rt.specs.Common.{Refused, RunFault, Option, Result, Ok, Err}
use Rattle.cmwq_rt.specs.Running.{fault_after}
use Rattle.cmwq_rt.specs.declared.batch.BatchFault.{BatchFault}

-- each call is answered as one that is made alone, from what was seen after the one before it
abbrev pub MakesAll : Layout → View → List Call → List Reply → View → Type 0
MakesAll s v [] [] w = w ≡ v
MakesAll s v (c ∷ cs) (r ∷ rs) w = (next : View) × Extends s v c r next × MakesAll s next cs rs w
MakesAll s v cs rs w = ⊥

-- all of them were made, and their replies stand at the beginning of a buffer, whose rest is as it was
pub record MakesBatch (s : Layout) (v : View) (calls : List Call) (old new : List Reply) (w : View) : Type 0 where
  pub replies : List Reply
  pub makes : MakesAll s v calls replies w
  pub written : new ≡ replies ++ drop (length calls) old

-- so many of them were made so, and the next one was refused with this fault; no later one was made
pub record StopsBatch (s : Layout) (v : View) (calls : List Call) (made : ℕ) (f : RunFault) (old new : List Reply)
    (w : View) : Type 0 where
  pub middle : View
  pub next : Call
  pub makes : MakesBatch s v (take made calls) old new middle
  pub is_next : slice_get calls made ≡ Some next
  pub refused : Refused s middle next f w

-- the fault of a run after a batch of its calls
abbrev pub fault_after_batch : Result (Unit {0}) (BatchFault RunFault) → Option RunFault → Option RunFault
fault_after_batch (Ok u) old = old
fault_after_batch (Err stopped) old = fault_after (Err stopped.fault) old
