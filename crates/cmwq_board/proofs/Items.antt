-- The worker that runs an item, and when timers fire.
use Rattle.std.specs.Prelude.{◌≡◌, ◌≢◌, ◌==◌, ◌<◌, ◌+◌, ℕ, Bool, true, false, List, Option, Some, None}
use Rattle.std.specs.Prelude.{◌⊎◌, if◌then◌else◌, nat_le, option_and_then}
use Rattle.std.proofs.Common.{⊎_elim, inl, inr}
use Rattle.std.proofs.Common.{refl, sym, ap, ◌∙◌, arith}
use Rattle.std.proofs.lemmas.Bool.{both_ways, eq-eqb, eqb-true, leb-false, leb-true}
use Rattle.std.proofs.lemmas.Option.{same_Some}
use Rattle.cmwq_lemmas.proofs.Members.{filter_in, found}
use Rattle.cmwq_model.specs.Prelude.{IsLegal, Layout, has_number, is_at, is_live, item_at, item_run, pool_at}
use Rattle.cmwq_model.specs.Prelude.{queueing_at}
use Rattle.cmwq_model.specs.Prelude.{run as run_in}
unfoldable use Rattle.cmwq_model.specs.Prelude.{queueings}
use Rattle.cmwq_model.specs.declared.entry.Entry.{Entry}
use Rattle.cmwq_model.specs.declared.id.WorkerId.{WorkerId}
use Rattle.cmwq_model.specs.declared.record.Queueing.{Queueing}
use Rattle.cmwq_model.specs.declared.record.Start.{Start}
use Rattle.cmwq_refinement.proofs.PlacesFit.{open_there}
use Rattle.cmwq_refinement.proofs.PoolNext.{runner_there}
use Rattle.cmwq_state.specs.Flights.{run_open}
use Rattle.cmwq_theory_steps.proofs.EndsAsTold.{runs_are_queueings}
use Rattle.cmwq_theory_steps.proofs.Entries.{is_at-true}
use Rattle.cmwq_theory_steps.proofs.ItemRuns.{runs_are_items}
use Rattle.cmwq_theory_steps.proofs.ItemSteps.{items_are_run}
use Rattle.cmwq_theory_steps.proofs.RunsActive.{found_number}
use Rattle.cmwq_board.specs.Items.{IsDue, MayFireAt, due_of, lesser}

-- ---- the worker that runs an item

-- what an item runs, as a queueing and as a start
record IsRunBy (s : Layout) (past : List Entry) (i : ℕ) (x : Queueing) (start : Start) : Type 0 where
  number : start.number ≡ x.number
  worker : is_at (run_in past start.worker) x.number ≡ true
  item : item_at past x.number ≡ Some i
  pool : start.worker.pool ≡ pool_at s x.place
  there : start.worker.index < s.workers
  cpu : x.place.cpu.0 < s.cpus

run_by : (s : Layout) (past : List Entry) (i : ℕ) (x : Queueing) → IsLegal s past → run_open past i ≡ Some x
    → (start : Start) × IsRunBy s past i x start
run_by s past i x legal is = by (item_run past i) refl
  where
    by : (o : Option Start) → item_run past i ≡ o → (start : Start) × IsRunBy s past i x start
    by None none =
        let bad : None ≡ Some x =
        sym (ap (option_and_then (λ (t : Start). queueing_at past t.number)) none) ∙ is in cc
    by (Some start) runs =
        let r = runs_are_queueings s past legal i start runs in
        let at : queueing_at past start.number ≡ Some x =
        sym (ap (option_and_then (λ (t : Start). queueing_at past t.number)) runs) ∙ is in
        let same : r.queueing ≡ x = same_Some r.queueing x (sym r.found ∙ at) in
        let number : x.number ≡ start.number = found_number past start.number x at in
        let own = items_are_run s past i start legal runs in
        let live : is_live past x ≡ true = ap (is_live past) (sym same) ∙ r.live in
        let stands = filter_in (is_live past) (queueings past) x
        (found (has_number start.number) (queueings past) x at).0 live in (
          start,
          record {
            number = sym number;
            worker = ap (λ o. is_at o x.number) own.0 ∙ eq-eqb start.number x.number (sym number);
            item = ap (item_at past) number ∙ own.1;
            pool = sym r.pool ∙ ap (λ (y : Queueing). pool_at s y.place) same;
            there = runner_there s past start.worker start.number legal own.0;
            cpu = (open_there s past x legal stands).cpu;
          },
        )

pub run_on_cpu : (s : Layout) (past : List Entry) (i : ℕ) (x : Queueing) → IsLegal s past → run_open past i ≡ Some x
    → x.place.cpu.0 < s.cpus
run_on_cpu s past i x legal is = (run_by s past i x legal is).1.cpu

-- the worker that runs this queueing is the item's
pub found_runner : (s : Layout) (past : List Entry) (i : ℕ) (x : Queueing) (w : WorkerId) → IsLegal s past
    → run_open past i ≡ Some x → is_at (run_in past w) x.number ≡ true
    → item_run past i ≡ Some (record { worker = w; number = x.number })
found_runner s past i x w legal is runs =
    let by = (run_by s past i x legal is).1 in
    runs_are_items s past w x.number i legal (is_at-true (run_in past w) x.number runs) by.item

-- there is one in the pool
pub some_runner : (s : Layout) (past : List Entry) (i : ℕ) (x : Queueing) → IsLegal s past → run_open past i ≡ Some x
    → ((k : ℕ) → k < s.workers
    → is_at (run_in past (record { pool = pool_at s x.place; index = k })) x.number ≡ false) → ⊥
some_runner s past i x legal is none =
    let start = (run_by s past i x legal is).0 in
    let by = (run_by s past i x legal is).1 in
    let own : start.worker ≡ record { pool = pool_at s x.place; index = start.worker.index } =
    ap (λ p. record { pool = p; index = start.worker.index }) by.pool in
    both_ways _ (none start.worker.index by.there)
    (ap (λ (w : WorkerId). is_at (run_in past w) x.number) (sym own) ∙ by.worker)

pub runs_nothing : (s : Layout) (past : List Entry) (i : ℕ) → IsLegal s past → run_open past i ≡ None
    → None ≡ item_run past i
runs_nothing s past i legal is = by (item_run past i) refl
  where
    by : (o : Option Start) → item_run past i ≡ o → None ≡ item_run past i
    by None none = sym none
    by (Some start) runs =
        let r = runs_are_queueings s past legal i start runs in
        let bad : None ≡ Some r.queueing =
        sym is ∙ ap (option_and_then (λ (t : Start). queueing_at past t.number)) runs ∙ r.found in cc

-- ---- the least tick at which an item may fire

widen : (past : List Entry) (k d : ℕ) → MayFireAt past k d → MayFireAt past (k + 1) d
widen past k d may = record {
  item = may.item;
  there = (let less = may.there in omega (arith, less));
  when = may.when;
}

last_or : (past : List Entry) (k d : ℕ) → MayFireAt past (k + 1) d → MayFireAt past k d ⊎ (due_of past k ≡ Some d)
last_or past k d may = at (may.item == k) refl
  where
    at : (b : Bool) → (may.item == k) ≡ b → MayFireAt past k d ⊎ (due_of past k ≡ Some d)
    at true same = inr (ap (due_of past) (sym (eqb-true may.item k same)) ∙ may.when)
    at false other = inl (record {
      item = may.item;
      there = (let less = may.there in
          let far : may.item ≢ k = λ same. both_ways _ other (eq-eqb may.item k same) in omega (arith, less, far));
      when = may.when;
    })

last_may : (past : List Entry) (k d : ℕ) → due_of past k ≡ Some d → MayFireAt past (k + 1) d
last_may past k d when = record { item = k; there = omega arith; when = when }

-- one item more
pub due_more : (past : List Entry) (k : ℕ) (o : Option ℕ) → IsDue past k o
    → IsDue past (k + 1) (lesser o (due_of past k))
due_more past k o is = at o (due_of past k) refl is
  where
    both : (d e : ℕ) (b : Bool) → due_of past k ≡ Some e → nat_le d e ≡ b → IsDue past k (Some d)
        → IsDue past (k + 1) (if b then Some d else Some e)
    both d e true when less was = (
      widen past k d was.0,
      λ f may. ⊎_elim (was.1 f)
          (λ last. let same = same_Some e f (sym when ∙ last) in let least = leb-true d e less in omega arith)
          (last_or past k f may),
    )
    both d e false when more was = (
      last_may past k e when,
      λ f may. ⊎_elim
          (λ before. let most = was.1 f before in let less = leb-false d e more in omega arith)
          (λ last. let same = same_Some e f (sym when ∙ last) in omega arith)
          (last_or past k f may),
    )

    at : (p f : Option ℕ) → due_of past k ≡ f → IsDue past k p → IsDue past (k + 1) (lesser p f)
    at None None when was =
        λ d may. ⊎_elim (was d) (λ last. let bad : None ≡ Some d = sym when ∙ last in cc) (last_or past k d may)
    at None (Some e) when was = (
      last_may past k e when,
      λ d may. ⊎_elim (λ before. absurd (was d before))
          (λ last. let same = same_Some e d (sym when ∙ last) in omega arith) (last_or past k d may),
    )
    at (Some d) None when was = (
      widen past k d was.0,
      λ f may. ⊎_elim (was.1 f) (λ last. let bad : None ≡ Some f = sym when ∙ last in cc) (last_or past k f may),
    )
    at (Some d) (Some e) when was = both d e (nat_le d e) when refl was

pub none_due : (past : List Entry) → IsDue past 0 None
none_due past d may = let less = may.there in absurd (omega (arith, less))
