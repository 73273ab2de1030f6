-- A board fires what a schedule fires.
use Rattle.std.specs.Prelude.{◌≡◌, ◌<◌, ℕ, Bool, true, false, Some, None, if◌then◌else◌, suc, zero}
use Rattle.std.proofs.Common.{refl, sym, ◌∙◌}
use Rattle.std.proofs.lemmas.Bool.{lt-ltb}
use Rattle.cmwq_core.specs.History.{History, takes, with_entry}
use Rattle.cmwq_model.specs.Prelude.{is_nothing}
use Rattle.cmwq_model.specs.declared.call.Call.TheVariants as call
use Rattle.cmwq_model.specs.declared.id.CallerId.{CallerId}
use Rattle.cmwq_model.specs.declared.id.Who.TheVariants.{Caller}
use Rattle.cmwq_board.specs.Fires as board
use Rattle.cmwq_board.specs.Fires.{fired_once}
use Rattle.cmwq_board.proofs.Fires as boards
use Rattle.cmwq_play.specs.Machines as play
use Rattle.cmwq_play.specs.Machines.{is_made}
unfoldable use Rattle.cmwq_play.specs.Machines.{replied, stepped}
use Rattle.cmwq_play.proofs.Firing as plays
use Rattle.cmwq_schedule_laws.specs.Firing.{BoardsFireAsSchedules}

-- a caller may always fire but for want of room
made : (h : History) (c : CallerId) (room : Bool) → c.0 < h.layout.callers → takes h (Caller c) call.Fire ≡ room
    → is_made h (Caller c) call.Fire ≡ room
made h c room there takes = rw (lt-ltb c.0 h.layout.callers there, takes) refl

reply : (h : History) (c : CallerId) (room : Bool) → c.0 < h.layout.callers → takes h (Caller c) call.Fire ≡ room
    → replied h (Caller c) call.Fire ≡ (if room then Some (fired_once h c).reply else None)
unfolding replied
reply h c room there takes = rw (made h c room there takes) refl

step : (h : History) (c : CallerId) → c.0 < h.layout.callers → takes h (Caller c) call.Fire ≡ true
    → stepped h (Caller c) call.Fire ≡ with_entry h (fired_once h c)
unfolding stepped
step h c there takes = rw (made h c true there takes) refl

one_more : (n : ℕ) (h : History) (c : CallerId) → c.0 < h.layout.callers
    → board.fired n (with_entry h (fired_once h c)) c ≡ play.fired n (with_entry h (fired_once h c)) (Caller c)
    → board.fired (suc n) h c ≡ play.fired (suc n) h (Caller c)
one_more n h c there rest =
    by (takes h (Caller c) call.Fire) refl (is_nothing (fired_once h c).reply) refl
  where
    by : (room : Bool) → takes h (Caller c) call.Fire ≡ room → (last : Bool) → is_nothing (fired_once h c).reply ≡ last
        → board.fired (suc n) h c ≡ play.fired (suc n) h (Caller c)
    by false full last is =
        boards.fired_full n h c full ∙ sym (plays.fired_none n h (Caller c) (reply h c false there full))
    by true room true last =
        boards.fired_last n h c room last
        ∙ sym (plays.fired_last n h (Caller c) (fired_once h c).reply (reply h c true there room) last
        ∙ step h c there room)
    by true room false other =
        boards.fired_next n h c room other ∙ rest
        ∙ sym (plays.fired_more n h (Caller c) (fired_once h c).reply (reply h c true there room) other
        ∙ rw (step h c there room) refl)

pub boards_fire : BoardsFireAsSchedules
boards_fire zero h c there = boards.fired_zero h c ∙ sym (plays.fired_zero h (Caller c))
boards_fire (suc n) h c there = one_more n h c there (boards_fire n (with_entry h (fired_once h c)) c there)
