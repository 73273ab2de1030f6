-- What a worker runs is a run that may wait.
use Rattle.std.proofs.Common.{◌≡◌, ◌∙◌, List, None, Option, Some, ap, arith, refl, subst, true, ℕ}
use Rattle.std.specs.Prelude.{Contains, option_and_then}
use Rattle.cmwq_lemmas.proofs.Members.{filter_in, found, in_contained}
use Rattle.cmwq_model.specs.Prelude.{IsLegal, Layout, has_number, is_live, is_started, queueing_at, queueings, run}
use Rattle.cmwq_model.specs.Prelude.{still_open}
use Rattle.cmwq_model.specs.declared.entry.Entry.{Entry}
use Rattle.cmwq_model.specs.declared.id.Who.TheVariants.{Worker}
use Rattle.cmwq_model.specs.declared.id.WorkerId.{WorkerId}
use Rattle.cmwq_model.specs.declared.record.Queueing.{Queueing}
use Rattle.cmwq_theory_steps.specs.ItemQueueings.{queueing_run}
use Rattle.cmwq_theory_steps.proofs.ItemRuns.{run_is}
use Rattle.cmwq_theory_steps.proofs.Pools.{runs_are_in_pools}
use Rattle.cmwq_theory_steps.proofs.RunSteps.{last_started}
use Rattle.cmwq_theory_steps.proofs.RunsActive.{found_number}

pub record IsRunning (past : List Entry) (x : Queueing) : Type 0 where
  pub is_open : Contains (still_open past) x
  pub has_started : is_started past x.number ≡ true

pub is_running : (s : Layout) (past : List Entry) (w : WorkerId) (x : Queueing) → IsLegal s past
    → queueing_run past (Worker w) ≡ Some x → IsRunning past x
is_running s past w x legal is = by (run past w) refl is
  where
    by : (o : Option ℕ) → run past w ≡ o → option_and_then (queueing_at past) o ≡ Some x → IsRunning past x
    by None none h = absurd (cc h)
    by (Some n) some h =
        let r = runs_are_in_pools s past w n legal some in
        let same : r.queueing ≡ x = grind (arith, r.found, h) in
        let made = found (has_number n) (queueings past) x h in
        record {
          is_open = in_contained (still_open past) x
              (filter_in (is_live past) (queueings past) x made.0 (subst (λ y. is_live past y ≡ true) same r.live));
          has_started = ap (is_started past) (found_number past n x h) ∙ last_started past w n (run_is past w n some).last;
        }
