-- What is active, told by few looks.
use Rattle.std.specs.Prelude.{◌≡◌, ◌&&◌, ◌||◌, ◌∷◌}
use Rattle.cmwq_theory_steps.specs.Common.{Bool, false, not, List, [], Entry, Queueing, Layout, is_live}
use Rattle.cmwq_theory_steps.specs.Common.{is_below_max_active, is_active}
use Rattle.cmwq_model.specs.Widths.{keeps_widths}

-- it was below max_active just before an entry that changed a width
unfoldable pub was_below_max_active : Layout → List Entry → Queueing → Bool
was_below_max_active s [] x = false
was_below_max_active s (e ∷ past) x =
    was_below_max_active s past x || (not (keeps_widths e.reply) && (is_live past x && is_below_max_active s past x))

abbrev pub ActiveByLooks : Type 0
ActiveByLooks = (s : Layout) (past : List Entry) (x : Queueing)
    → is_active s past x ≡ (is_live past x && (was_below_max_active s past x || is_below_max_active s past x))
