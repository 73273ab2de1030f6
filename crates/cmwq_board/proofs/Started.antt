-- What a worker starts and finishes.
use Rattle.std.specs.Prelude.{◌≡◌, ℕ, Bool, true, false, Option, Some, None, Ok, if◌then◌else◌, is_some}
use Rattle.std.specs.Prelude.{option_and_then}
use Rattle.std.proofs.Common.{ap, ap₂, refl, sym, ◌∙◌}
use Rattle.std.proofs.lemmas.Option.{same_Some}
use Rattle.cmwq_core.specs.History.{History, IsItemOf, next_entry, past_in}
use Rattle.cmwq_core.specs.Plans.{IsPlan}
use Rattle.cmwq_core.specs.declared.plan.Plan.{Plan}
use Rattle.cmwq_dispatch.specs.Asleep.{Asleep}
use Rattle.cmwq_dispatch.specs.Dispatched.{Dispatched, FallsAsleep}
use Rattle.cmwq_dispatch.specs.declared.dispatch.Sleep.{Sleep}
use Rattle.cmwq_dispatch.specs.declared.dispatch.Sleep.TheVariants as sleep
use Rattle.cmwq_dispatch.specs.declared.dispatch.Sleep.TheVariants.{Sleeps, LooksAgain}
use Rattle.cmwq_model.specs.Prelude.{answer, finish_answer, finished_answer, number_finished, number_started, run}
use Rattle.cmwq_model.specs.Prelude.{queueing_at, runs_awake}
use Rattle.cmwq_model.specs.declared.call.Call.TheVariants as call
use Rattle.cmwq_model.specs.declared.entry.Entry.{Entry}
use Rattle.cmwq_model.specs.declared.id.ItemId.{ItemId}
use Rattle.cmwq_model.specs.declared.id.Who.TheVariants.{Worker}
use Rattle.cmwq_model.specs.declared.id.WorkerId.{WorkerId}
use Rattle.cmwq_model.specs.declared.record.Queueing.{Queueing}
use Rattle.cmwq_model.specs.declared.reply.Reply.TheVariants as reply
use Rattle.cmwq_theory_wakes.specs.Starting.{would_start}
use Rattle.cmwq_theory_wakes.proofs.Starting.{idle_start_alike}
use Rattle.cmwq_theory_steps.proofs.RunsActive.{found_number}
use Rattle.cmwq_board.specs.Boarded.{Boarded, layout_of, past_of_board}
use Rattle.cmwq_board.specs.Machine.{started, starting, starts_by, stepped, unless}
use Rattle.cmwq_board.specs.Steps.{reply_now, start_fault}
use Rattle.cmwq_board.specs.declared.board.Start.TheVariants.{Over, Runs}
use Rattle.cmwq_board.proofs.Cores.{bare_of}
use Rattle.cmwq_board.proofs.Places.{same_asleep}

-- a run that is awake finishes with its number
pub finish_number : (h : History) (w : WorkerId) (n : ℕ) → runs_awake (past_in h) w ≡ true
    → run (past_in h) w ≡ Some n → number_finished (next_entry h (Worker w) call.Finish).reply ≡ Some n
unfolding answer finish_answer
finish_number h w n awake runs =
    ap (λ (b : Bool). number_finished (if b then finished_answer (run (past_in h) w) else reply.Misuse)) awake
    ∙ ap (λ (o : Option ℕ). number_finished (finished_answer o)) runs

-- what is planned as a start would start
pub planned_starts : (h : History) (w : WorkerId) (p : Plan) → IsPlan h (Worker w) call.Take p
    → is_some (number_started p.mark.entry.reply) ≡ true → would_start h.layout (past_in h) w ≡ true
planned_starts h w p is starts =
    sym (idle_start_alike h.layout (past_in h) w)
    ∙ (ap (λ (e : Entry). is_some (number_started e.reply)) (sym is.mark.is_next) ∙ starts)

-- ---- what a start comes to

pub started_is : (b : Boarded) (w : WorkerId) (o : Option Queueing) → start_fault b w ≡ None
    → b.dispatch.failed ≡ false → starting b w ≡ o → started b w ≡ starts_by b w o
started_is b w o none lives is =
    ap (λ x. unless x b (if b.dispatch.failed then stepped b (Ok Over) else starts_by b w (starting b w))) none
    ∙ ap (λ f. if f then stepped b (Ok Over) else starts_by b w (starting b w)) lives
    ∙ ap (starts_by b w) is

-- it would start this queueing
pub record IsStarting (b : Boarded) (w : WorkerId) (item : ItemId) (number : ℕ) : Type 0 where
  pub queueing : Queueing
  pub is : starting b w ≡ Some queueing
  pub runs : Runs item number ≡ Runs queueing.item queueing.number

pub is_starting : (b : Boarded) (w : WorkerId) (item : ItemId) (number : ℕ)
    → number_started (reply_now b (Worker w) call.Take) ≡ Some number
    → IsItemOf (past_of_board b) number (Some item) → IsStarting b w item number
is_starting b w item number starts of = record {
  queueing = of.queueing;
  is = ap (option_and_then (queueing_at (past_of_board b))) starts ∙ of.is_known;
  runs = ap₂ (λ i n. Runs i n) (same_Some item of.queueing.item of.is_its)
      (sym (found_number (past_of_board b) number of.queueing of.is_known));
}

-- or nothing
pub starting_none : (b : Boarded) (w : WorkerId) → would_start (layout_of b) (past_of_board b) w ≡ false
    → starting b w ≡ None
starting_none b w none =
    by (number_started (reply_now b (Worker w) call.Take)) refl
    (idle_start_alike (layout_of b) (past_of_board b) w ∙ none)
  where
    by : (o : Option ℕ) → number_started (reply_now b (Worker w) call.Take) ≡ o → is_some o ≡ false
        → option_and_then (queueing_at (past_of_board b)) (number_started (reply_now b (Worker w) call.Take)) ≡ None
    by None is fails = ap (option_and_then (queueing_at (past_of_board b))) is
    by (Some n) is fails = cc

-- one that falls asleep, or need not, changes nothing else
pub falls_on : (Begins : Asleep → Asleep → Type 0) (d n : Dispatched) (r : Sleep) → FallsAsleep Begins d r n
    → bare_of n ≡ bare_of d
falls_on Begins d n Sleeps is = ap bare_of (same_asleep d n is.0)
falls_on Begins d n LooksAgain is = ap bare_of is
falls_on Begins d n sleep.Over is = ap bare_of is.0
