-- What is due is fired by one rule.
use Rattle.std.specs.Prelude.{◌≡◌, ◌<◌, ℕ}
use Rattle.cmwq_model.specs.declared.id.CallerId.{CallerId}
use Rattle.cmwq_model.specs.declared.id.Who.TheVariants.{Caller}
use Rattle.cmwq_core.specs.History.{History}
use Rattle.cmwq_board.specs.Fires as board
use Rattle.cmwq_play.specs.Machines as play

-- A board fires what a schedule fires, whatever was made before, and however often it may fire.
abbrev pub BoardsFireAsSchedules : Type 0
BoardsFireAsSchedules = (n : ℕ) (h : History) (c : CallerId) → c.0 < h.layout.callers
    → board.fired n h c ≡ play.fired n h (Caller c)
