-- Whether a run holds its pool, by what its worker runs.
use Rattle.std.proofs.Common.{ℕ, ◌≡◌, ◌&&◌, Bool, true, false, not, List, Option, Some, None, option_and_then, refl}
use Rattle.std.proofs.Common.{ap₂, sym}
use Rattle.std.proofs.Common.{◌∙◌}
use Rattle.std.specs.Option.{option_map_or}
use Rattle.cmwq_model.specs.Prelude.{Layout, is_holding, is_intensive, queueing_at, run, runs_awake}
use Rattle.cmwq_model.specs.Queueings.{queue_of}
use Rattle.cmwq_model.specs.declared.entry.Entry.{Entry}
use Rattle.cmwq_model.specs.declared.id.WorkerId.{WorkerId}
use Rattle.cmwq_model.specs.declared.record.Queueing.{Queueing}

by_queue : (s : Layout) (past : List Entry) (x : Queueing) (o : Option ℕ)
    → option_and_then (queueing_at past) o ≡ Some x
    → option_map_or (is_intensive s) (option_and_then (queue_of past) o) false ≡ is_intensive s x.place.queue.0
by_queue s past x None found = cc
by_queue s past x (Some n) found = rw found refl

-- a run that is awake holds its pool, unless its queue is CPU intensive
pub holds_by : (s : Layout) (past : List Entry) (w : WorkerId) (x : Queueing) (b : Bool)
    → runs_awake past w ≡ true → option_and_then (queueing_at past) (run past w) ≡ Some x
    → b ≡ not (is_intensive s x.place.queue.0) → b ≡ is_holding s past w.pool w.index
holds_by s past w x b awake found is =
    is ∙ sym (ap₂ (λ a i. a && not i) awake (by_queue s past x (run past w) found))
