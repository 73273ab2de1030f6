-- The widths of a book refine a history: max_active of each queue, and whether the freezable ones are frozen.
use Rattle.std.specs.Prelude.{◌≡◌, ◌<◌, if◌then◌else◌}
use Rattle.cmwq_state.specs.Common.{ℕ, Bool, List, length, None, slice_index, option_map_or, Call, Reply, Entry, Layout}
use Rattle.cmwq_state.specs.Common.{max_active, is_frozen, sets_max, width_told}
use Rattle.cmwq_model.specs.declared.call.Call.TheVariants as call

pub record AreWidths (s : Layout) (past : List Entry) (most : List ℕ) (stopped : Bool) : Type 0 where
  pub many : length most ≡ length s.queues
  pub each : (q : ℕ) → q < length s.queues → slice_index most q ≡ max_active s past q
  pub frozen : stopped ≡ is_frozen past

-- what a call and its reply set
abbrev pub MaySetWidth : Call → List ℕ → Type 0
MaySetWidth (call.SetMax q n) most = q.0 < length most
MaySetWidth c most = Unit {0}

pub record SetsWidth (c : Call) (r : Reply) (old new : List ℕ) : Type 0 where
  pub many : length new ≡ length old
  pub each : (q : ℕ)
      → slice_index new q ≡ option_map_or (λ n. n) (if sets_max c q then width_told r else None) (slice_index old q)
