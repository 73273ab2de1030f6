-- What workers and items run after one more entry.
use Rattle.std.specs.Prelude.{◌≡◌, if◌then◌else◌, ◌∷◌}
use Rattle.cmwq_theory_steps.specs.Common.{ℕ, Bool, false, List, Option, Some, None, option_map_or, WorkerId, Worker}
use Rattle.cmwq_theory_steps.specs.Common.{Reply, Entry, Start, Layout, is_by, item_at, finishes, run, start_in}
use Rattle.cmwq_theory_steps.specs.Common.{starts_item, item_run, IsLegal}
use Rattle.cmwq_model.specs.declared.reply.Reply.TheVariants as reply

-- what a worker runs after an entry of its own
abbrev pub run_after : Reply → Option ℕ → Option ℕ
run_after (reply.Started n) o = Some n
run_after (reply.StartedEnlist n x) o = Some n
run_after (reply.Finished n) o = None
run_after r o = o

-- an entry changes what its own worker runs, and no other's
abbrev pub WorkersRunOn : Type 0
WorkersRunOn = (s : Layout) (past : List Entry) (e : Entry) (w : WorkerId) → IsLegal s (e ∷ past)
    → run (e ∷ past) w ≡ (if is_by (Worker w) e then run_after e.reply (run past w) else run past w)

-- the run of an item is what the entry starts of it, or the old one unless the entry finishes that
abbrev pub ends_run : Entry → Option Start → Bool
ends_run e o = option_map_or (λ (start : Start). finishes start.number e) o false

abbrev pub ItemsRunOn : Type 0
ItemsRunOn = (s : Layout) (past : List Entry) (e : Entry) (i : ℕ) → IsLegal s (e ∷ past)
    → item_run (e ∷ past) i
    ≡ (if starts_item past e i then start_in e else if ends_run e (item_run past i) then None else item_run past i)

-- the run of an item is that of its worker
abbrev pub ItemsAreRun : Type 0
ItemsAreRun = (s : Layout) (past : List Entry) (i : ℕ) (start : Start) → IsLegal s past → item_run past i ≡ Some start
    → (run past start.worker ≡ Some start.number) × (item_at past start.number ≡ Some i)
