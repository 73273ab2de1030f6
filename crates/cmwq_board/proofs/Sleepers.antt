-- Who sleeps on over several steps.
use Rattle.std.proofs.Common.{⊎_elim, inl, inr}
use Rattle.cmwq_dispatch.specs.Asleep.{Asleep, SleepOn}
use Rattle.cmwq_dispatch.specs.declared.wakes.Wakes.{Wakes}
use Rattle.cmwq_dispatch.proofs.OneNamed.{names_more}
use Rattle.cmwq_model.specs.declared.id.Who.{Who}

-- one step after another, by the same one
pub sleep_on_more : (who : Who) (a b c : Asleep) (u v w : Wakes) → SleepOn who a b u v → SleepOn who b c v w
    → SleepOn who a c u w
sleep_on_more who a b c u v w h k = record {
  callers = λ t is. ⊎_elim (k.callers t) (λ named. inr (k.named.callers t.caller.0 named)) (h.callers t is);
  workers = λ x is. ⊎_elim (k.workers x) (λ r. inr (⊎_elim (λ named. inl (k.named.workers x named)) (λ o. inr o) r))
      (h.workers x is);
  no_more_callers = λ t is. h.no_more_callers t (k.no_more_callers t is);
  no_more_workers = λ x is. h.no_more_workers x (k.no_more_workers x is);
  named = names_more u v w h.named k.named;
}
