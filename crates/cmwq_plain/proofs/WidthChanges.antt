-- Widths, and what was below max_active before they changed, as a history is gone through.
use Rattle.cmwq_plain.specs.Common.{◌≡◌, ℕ, false, not, ◌&&◌, ◌||◌, List, [], ◌∷◌, refl, option_map_or, Entry, Queueing}
use Rattle.cmwq_plain.specs.Common.{Layout, first_width, max_active, width_set, is_live, is_below_max_active}
use Rattle.cmwq_plain.specs.Common.{keeps_widths, was_below_max_active}

pub max_none : (s : Layout) (q : ℕ) → max_active s [] q ≡ first_width s q
unfolding max_active
max_none s q = refl

pub max_step : (s : Layout) (e : Entry) (past : List Entry) (q : ℕ)
    → max_active s (e ∷ past) q ≡ option_map_or (λ n. n) (width_set e q) (max_active s past q)
unfolding max_active
max_step s e past q = refl

pub ruleset max_steps = (max_none, max_step)

pub had_none : (s : Layout) (x : Queueing) → was_below_max_active s [] x ≡ false
unfolding was_below_max_active
had_none s x = refl

pub had_step : (s : Layout) (e : Entry) (past : List Entry) (x : Queueing) → was_below_max_active s (e ∷ past) x
    ≡ (was_below_max_active s past x
    || (not (keeps_widths e.reply) && (is_live past x && is_below_max_active s past x)))
unfolding was_below_max_active
had_step s e past x = refl

pub ruleset had_steps = (had_none, had_step)
