-- Queueings of pasts that are alike, by their numbers.
use Rattle.std.proofs.Common.{◌≡◌, ◌∙◌, ℕ, List, Option, Some, None, option_map, option_and_then, ap, sym, refl, subst}
use Rattle.cmwq_lemmas.proofs.Members.{In, in_map, in_mapped, of_in}
use Rattle.cmwq_model.specs.Prelude.{IsLegal, Layout, queueing_at, run, still_open}
use Rattle.cmwq_model.specs.declared.entry.Entry.{Entry}
use Rattle.cmwq_model.specs.declared.id.Who.TheVariants.{Worker}
use Rattle.cmwq_model.specs.declared.id.WorkerId.{WorkerId}
use Rattle.cmwq_model.specs.declared.record.Queueing.{Queueing}
use Rattle.cmwq_theory_steps.specs.ItemQueueings.{queueing_run}
use Rattle.cmwq_theory_steps.proofs.Ended.{found_open}
use Rattle.cmwq_theory_steps.proofs.Joined.{active_live}
use Rattle.cmwq_theory_steps.proofs.RunsActive.{run_is_active}
use Rattle.cmwq_alike.specs.Alike.{IsAlike, IsOpenNumber, number_of, queueing_by}
use Rattle.cmwq_alike.proofs.Runs.{found_open_number}

module _ {s : Layout} {f : ℕ → ℕ} {past other : List Entry} (a : IsAlike s f past other) where
  pub open_alike : (x : Queueing) → In x (still_open past) → In (queueing_by f x) (still_open other)
  open_alike x here =
      subst (In (queueing_by f x)) (sym a.opened) (in_mapped (queueing_by f) (still_open past) x here)

  pub queueing_alike : (n : ℕ) → IsOpenNumber past n
      → queueing_at other (f n) ≡ option_map (queueing_by f) (queueing_at past n)
  queueing_alike n h = known (in_map number_of (still_open past) n h)
    where
      known : (x : Queueing) × In x (still_open past) × (number_of x ≡ n)
          → queueing_at other (f n) ≡ option_map (queueing_by f) (queueing_at past n)
      known q =
          let mine = of_in _ (still_open past) q.0 (found_open past) q.1 in
          let its = of_in _ (still_open other) (queueing_by f q.0) (found_open other) (open_alike q.0 q.1) in
          subst (λ m. queueing_at other (f m) ≡ option_map (queueing_by f) (queueing_at past m)) q.2
          (its ∙ sym (ap (option_map (queueing_by f)) mine))

  -- what a worker runs
  pub run_alike : (w : WorkerId) → IsLegal s past
      → queueing_run other (Worker w) ≡ option_map (queueing_by f) (queueing_run past (Worker w))
  run_alike w legal = ap (option_and_then (queueing_at other)) (a.runs w) ∙ at (run past w) refl
    where
      at : (o : Option ℕ) → run past w ≡ o → option_and_then (queueing_at other) (option_map f o)
          ≡ option_map (queueing_by f) (option_and_then (queueing_at past) o)
      at None h = refl
      at (Some n) h =
          let q = run_is_active s past w n legal h in
          queueing_alike n (found_open_number past n q.queueing q.found (active_live s past q.queueing q.active))
