-- Which queues are gone, as a book keeps them.
use Rattle.std.specs.Prelude.{◌≡◌, ◌<◌, ◌||◌}
use Rattle.cmwq_state.specs.Common.{ℕ, Bool, false, List, length, Option, Some, None, slice_index_or, option_map_or}
use Rattle.cmwq_state.specs.Common.{Call, Entry, Ticket, Layout, is_destroy_of, is_gone}
use Rattle.cmwq_model.specs.declared.call.Call.TheVariants as call

abbrev pub is_gone_at : List Bool → ℕ → Bool
is_gone_at gone q = slice_index_or gone q false

pub record AreGone (s : Layout) (past : List Entry) (gone : List Bool) : Type 0 where
  pub many : length gone ≡ length s.queues
  pub each : (q : ℕ) → q < length s.queues → is_gone_at gone q ≡ is_gone past q

-- where a wait ends: a destroy's queue is gone then
abbrev pub MayLose : Call → List Bool → Type 0
MayLose (call.Destroy q) gone = q.0 < length gone
MayLose c gone = Unit {0}

abbrev pub MayLoseQueue : Option Ticket → List Bool → Type 0
MayLoseQueue None gone = Unit {0}
MayLoseQueue (Some t) gone = MayLose t.call gone

pub record LosesQueue (done : Option Ticket) (old new : List Bool) : Type 0 where
  pub many : length new ≡ length old
  pub each : (q : ℕ) → is_gone_at new q ≡ (is_gone_at old q || option_map_or (is_destroy_of q) done false)
