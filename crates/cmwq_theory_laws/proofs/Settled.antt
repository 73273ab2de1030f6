-- Where the end of a cancel_sync is answered done, its item neither is pending nor runs after that.
use Rattle.cmwq_theory_laws.specs.Common.{◌≡◌, ℕ, true, false, ◌&&◌, List, [], ◌∷◌, Option, Some, None, refl, ap, ◌∙◌}
use Rattle.cmwq_theory_laws.specs.Common.{sym, option_map, is_some, if◌then◌else◌, eq-eqb, Entry, Start, Layout}
use Rattle.cmwq_theory_laws.specs.Common.{entry_at, is_of_item, settles, number_started, item_run, item_runs, start_in}
use Rattle.cmwq_theory_laws.specs.Common.{is_pending, unended_tickets, is_ticket, is_cancelling, cancels_sync}
use Rattle.cmwq_theory_laws.specs.Common.{is_cancel_sync_of, waits_for, IsLegal, IsDone, no_start, starts_no_item}
use Rattle.cmwq_theory_laws.specs.Common.{items_run_on, ends_ticket, ready_call, ended_call}
use Rattle.cmwq_model.specs.declared.call.Call.TheVariants as call
use Rattle.cmwq_theory_laws.specs.Headline.{CancelsSettle}
use Rattle.cmwq_theory_steps.specs.RunSteps.{ends_run}
use Rattle.cmwq_theory_laws.proofs.Cancelling.{cancelling_idle, stays_idle}
use Rattle.cmwq_lemmas.proofs.Passing.{any_found}

-- the cancel_sync whose end is answered done was unended until then
was_cancelling : (s : Layout) (past : List Entry) (e : Entry) (t i : ℕ) (begun : Entry) → IsLegal s (e ∷ past)
    → IsDone e t → entry_at past t ≡ Some begun → begun.call ≡ call.CancelSync (record { 0 = i })
    → is_cancelling past i ≡ true
was_cancelling s past e t i begun legal done at cancels =
    let ends = ends_ticket s past e t legal done in
    let is = ended_call s past e t begun legal done at ∙ cancels in
    any_found (is_ticket e.who t) (is_cancel_sync_of i) ends.ticket (unended_tickets past) ends.found
    (ap (cancels_sync i) is ∙ eq-eqb i i refl)

pub cancels_settle : (s : Layout) (past : List Entry) → IsLegal s past → CancelsSettle past
unfolding IsLegal
cancels_settle s [] legal = tt
cancels_settle s (e ∷ past) legal = (
  (λ t i begun done at cancels. (idle t i begun done at cancels, stopped t i begun done at cancels)),
  cancels_settle s past legal.2,
)
  where
    idle : (t i : ℕ) (begun : Entry) → IsDone e t → entry_at past t ≡ Some begun
        → begun.call ≡ call.CancelSync (record { 0 = i }) → is_pending (e ∷ past) i ≡ false
    idle t i begun done at cancels =
        stays_idle s past e i legal (ap (λ r. settles r && is_of_item i e) done.1)
        (cancelling_idle s past i legal.2 (was_cancelling s past e t i begun legal done at cancels))

    stays : (o : Option Start) → option_map (λ (start : Start). start.number) o ≡ None
        → is_some (if ends_run e o then None else o) ≡ false
    stays None h = refl
    stays (Some start) h = cc

    stopped : (t i : ℕ) (begun : Entry) → IsDone e t → entry_at past t ≡ Some begun
        → begun.call ≡ call.CancelSync (record { 0 = i }) → item_runs (e ∷ past) i ≡ false
    stopped t i begun done at cancels =
        let none = sym (ap (waits_for past t) cancels) ∙ ready_call s past e t begun legal done at in
        let starts_none = starts_no_item e past i (no_start e (ap number_started done.1)) in
        ap is_some
        (items_run_on s past e i legal
        ∙ ap (λ b. if b then start_in e else if ends_run e (item_run past i) then None else item_run past i)
        starts_none) ∙ stays (item_run past i) none
