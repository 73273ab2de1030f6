-- How a run ends.
use Rattle.std.proofs.Common.{◌⊎◌, inl, inr, true≢false}
use Rattle.cmwq_engine.specs.Common.{◌≡◌, sym, subst, true, length, Result, Ok, Err, IfOk, IfErr, Layout, Behavior}
use Rattle.cmwq_engine.specs.Common.{Conduct, Roster, Entry, List, drop, past_of, ℕ}
unfoldable use Rattle.cmwq_engine.specs.Common.{IsLegal}
use Rattle.cmwq_engine.specs.Ended.{AllCalled, AllWaited, AllWorked, AreSilent, EndsAll, FailsAs, HaveEnded, HaveRun}
use Rattle.cmwq_engine.specs.Ended.{IsRestOfLeft, IsUnfinished, is_silent, used}
use Rattle.cmwq_engine.specs.declared.gather.Tally.{Tally}
use Rattle.cmwq_monitor.specs.Held.{active_in}
use Rattle.cmwq_engine.specs.declared.gather.Ends.{Ends}
use Rattle.cmwq_monitor.specs.declared.fault.RunFault.{RunFault}
use Rattle.cmwq_monitor.specs.declared.fault.RunFault.TheVariants.{Full, NoPlace, Unfinished}

pub ends_all : {N : Type 0} (s : Layout) (does : Behavior) (calls : Conduct) (r : Roster) (o : Result (Ends N) RunFault)
    → IfOk o (λ e. HaveRun s does calls r e) → IfErr o (λ f. FailsAs s calls r f) → EndsAll s does calls r o
ends_all s does calls r (Ok e) run fails = run
ends_all s does calls r (Err f) run fails = fails

-- a fault that says nothing of what callers and workers did may be told of any run
pub fails_silently : (s : Layout) (calls : Conduct) (r : Roster) (f : RunFault) → is_silent f ≡ true
    → FailsAs s calls r f
fails_silently s calls r Unfinished silent = absurd (true≢false (sym silent))
fails_silently s calls r NoPlace silent = absurd (true≢false (sym silent))
fails_silently s calls r Full silent = absurd (true≢false (sym silent))
fails_silently s calls r f silent = record {}

-- so may what was found when all was put together
pub gathered_fails : (s : Layout) (calls : Conduct) (r : Roster) (h : List Entry) (o : Result Tally RunFault)
    → IsLegal s (past_of h)
    → IfErr o (λ f. ((f ≡ Unfinished) × IsUnfinished s calls r.threads h) ⊎ (is_silent f ≡ true))
    → IfErr o (FailsAs s calls r)
gathered_fails s calls r h (Ok t) legal fails = tt
gathered_fails s calls r h (Err f) legal (inl found) = subst (FailsAs s calls r) (sym found.0) (h, legal, found.1)
gathered_fails s calls r h (Err f) legal (inr silent) = fails_silently s calls r f silent

-- with the callers that were lent
pub ends_with_lent : {N : Type 0} (s : Layout) (does : Behavior) (calls : Conduct) (r : Roster) (ends all : Ends N)
    (o : Result (Ends N) RunFault) → HaveEnded s does calls r ends
    → all ≡ record ends { lent = all.lent } → IfOk o (λ e. (e ≡ all) × (length all.lent.items ≡ r.lent))
    → IfErr o (λ f. is_silent f ≡ true) → EndsAll s does calls r o
ends_with_lent s does calls r ends all (Ok e) ended is back silent =
    subst (λ x. HaveRun s does calls r x) (sym back.0) (
      subst (λ x. HaveEnded s does calls r x) (sym is)
          (record {
            callers = ended.callers;
            workers = ended.workers;
            idle = ended.idle;
            parts = ended.parts;
            amount =
                ended.amount;
          }),
      back.1,
    )
ends_with_lent s does calls r ends all (Err f) ended is back silent = fails_silently s calls r f silent

-- what the threads gave back, and what the hub kept, are those of a history that a run leaves
pub rest_left : (s : Layout) (does : Behavior) (calls : Conduct) (r : Roster) (o : Result Tally RunFault)
    (h : List Entry) (first : ℕ) (rest : List Entry) → IsLegal s (past_of h) → rest ≡ drop first h
    → IfOk o (λ t. t.answered ≡ length h) → IfOk o (λ t. AllCalled s calls 0 r.threads t.full h)
    → IfOk o (λ _. AllWaited s r.threads r.lent h) → IfOk o (λ t. AllWorked s does t.left_out h)
    → IfOk o (λ _. AreSilent s (used r) h) → IfOk o (λ _. active_in s h ≡ 0)
    → IfOk o (λ t. IsRestOfLeft s does calls r t.answered t.full t.left_out first rest)
rest_left s does calls r (Ok t) h first rest legal is counted called waited worked silent finished = record {
  history = h;
  left = record {
    legal = legal;
    called = called;
    waited = waited;
    worked = worked;
    silent = silent;
    finished = finished;
  };
  counted = counted;
  rest_is = is;
}
rest_left s does calls r (Err f) h first rest legal is counted called waited worked silent finished = tt
