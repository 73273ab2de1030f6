-- What an entry ends is a run or an unstarted queueing of its item, and what it starts is an unstarted one of an item
-- without a run.
use Rattle.cmwq_refinement.specs.Common.{◌≡◌, ℕ, true, false, List, ◌∷◌, Option, Some, None, refl, sym, ap, ◌∙◌}
use Rattle.cmwq_refinement.specs.Common.{option_and_then, is_some, WorkerId, Who, Worker, Reply, Entry, Queueing, Start}
use Rattle.cmwq_refinement.specs.Common.{Layout, item_of, item_at, number_started, number_finished, is_started, run}
use Rattle.cmwq_refinement.specs.Common.{item_run, item_runs, unstarted_queueing, queueing_at, IsLegal, ending}
use Rattle.cmwq_refinement.specs.Common.{queueing_run, ended_by, ends_as_told, found_unstarted, unstarted_is}
use Rattle.cmwq_refinement.specs.Common.{finishes_run, runs_are_items, item_run_started, starts_known, start_is}
use Rattle.cmwq_refinement.specs.Common.{started_was, runs_are_in_pools, found_known, found_number, arith}
use Rattle.cmwq_refinement.specs.Flights.{starting}

-- the run of an item is this queueing
pub record IsRun (past : List Entry) (x : Queueing) : Type 0 where
  pub start : Start
  pub is_run : item_run past x.item.0 ≡ Some start
  pub number : start.number ≡ x.number
  pub found : queueing_at past start.number ≡ Some x
  pub was_started : is_started past x.number ≡ true

-- what a worker runs is the run of its item
pub worker_runs : (s : Layout) (past : List Entry) (w : WorkerId) (n : ℕ) (x : Queueing) → IsLegal s past
    → run past w ≡ Some n
    → queueing_at past n ≡ Some x → IsRun past x
worker_runs s past w n x legal runs at =
    let number = found_number past n x at in
    let is = runs_are_items s past w n x.item.0 legal runs
    (ap (item_at past) (sym number) ∙ (found_known past n x at).item) in
    let begun =
    start_is s past x.item.0 (record { worker = w; number = n }) legal
    (item_run_started past x.item.0 (record { worker = w; number = n }) is) in
    record {
      start = record { worker = w; number = n };
      is_run = is;
      number = sym number;
      found = at;
      was_started =
          ap (is_started past) number ∙ begun.started;
    }

-- ---- what an entry ends

pub data EndKind (past : List Entry) (e : Entry) : Type 0 where
  none_ends : ending past e ≡ None → number_finished e.reply ≡ None → EndKind past e
  run_ends : (x : Queueing) → ending past e ≡ Some x → number_finished e.reply ≡ Some x.number → IsRun past x
      → EndKind past e
  unstarted_ends : (x : Queueing) → ending past e ≡ Some x → number_finished e.reply ≡ None
      → unstarted_queueing past x.item.0 ≡ Some x → EndKind past e

module _ (s : Layout) (past : List Entry) (e : Entry) (legal : IsLegal s (e ∷ past)) where
  pub legal_before : IsLegal s past
  unfolding IsLegal
  legal_before = legal.2

  finish_ends : (n : ℕ) → number_finished e.reply ≡ Some n → EndKind past e
  finish_ends n h =
      let f = finishes_run s past e n legal h in
      let r = runs_are_in_pools s past f.worker n legal_before f.is_run in
      let is : ending past e ≡ queueing_run past e.who = grind (arith, ends_as_told s past e legal) in
      run_ends r.queueing (cc (is, f.by_worker, f.is_run, r.found))
      (h ∙ ap Some (sym (found_number past n r.queueing r.found)))
      (worker_runs s past f.worker n r.queueing legal_before f.is_run r.found)

  -- what is not finished is taken back
  taken_back : (item : Option ℕ) (r : Reply) (x : Queueing) → number_finished r ≡ None
      → ended_by past e.who item r ≡ Some x → unstarted_queueing past x.item.0 ≡ Some x
  taken_back None r x unfinished is = grind arith
  taken_back (Some i) r x unfinished is = grind (arith, unstarted_is past i x)

  pub end_kind : EndKind past e
  end_kind = by (number_finished e.reply) (ending past e) refl refl
    where
      by : (n : Option ℕ) (o : Option Queueing) → number_finished e.reply ≡ n → ending past e ≡ o → EndKind past e
      by (Some n) o fin is = finish_ends n fin
      by None None unfinished is = none_ends is unfinished
      by None (Some x) unfinished is =
          unstarted_ends x is unfinished
          (taken_back (item_of e) e.reply x unfinished (sym (ends_as_told s past e legal) ∙ is))

-- ---- what an entry starts

pub record Starting (past : List Entry) (e : Entry) (x : Queueing) : Type 0 where
  pub worker : WorkerId
  pub by_worker : e.who ≡ Worker worker
  pub number : number_started e.reply ≡ Some x.number
  pub found : queueing_at past x.number ≡ Some x
  pub waits : unstarted_queueing past x.item.0 ≡ Some x
  pub has_none : item_run past x.item.0 ≡ None
  pub ends_none : ending past e ≡ None

pub data StartKind (past : List Entry) (e : Entry) : Type 0 where
  none_starts : starting past e ≡ None → number_started e.reply ≡ None → StartKind past e
  one_starts : (x : Queueing) → starting past e ≡ Some x → Starting past e x → StartKind past e

start_ends_none : (past : List Entry) (who : Who) (item : Option ℕ) (r : Reply) (n : ℕ) → number_started r ≡ Some n
    → ended_by past who item r ≡ None
start_ends_none past who item r n h = grind arith

pub start_kind : (s : Layout) (past : List Entry) (e : Entry) → IsLegal s (e ∷ past) → StartKind past e
start_kind s past e legal = by (number_started e.reply) refl
  where
    none_run : (o : Option Start) → is_some o ≡ false → o ≡ None
    none_run o idle = grind arith

    by : (o : Option ℕ) → number_started e.reply ≡ o → StartKind past e
    by None h = none_starts (ap (option_and_then (queueing_at past)) h) h
    by (Some n) h =
        let k = starts_known s past e n legal h in
        let was = started_was s past e k.item n legal h k.is_item in
        let x = was.0 in
        let waits = unstarted_is past k.item x was.1 in
        let found = found_unstarted past k.item x was.1 in
        one_starts x (cc (h, was.2, found)) (record {
          worker = k.worker;
          by_worker = k.by_worker;
          number = h ∙ ap Some (sym was.2);
          found = found;
          waits = ap (unstarted_queueing past) waits.item ∙ was.1;
          has_none = none_run (item_run past x.item.0) (ap (item_runs past) waits.item ∙ k.has_none);
          ends_none = ends_as_told s past e legal ∙ start_ends_none past e.who (item_of e) e.reply n h;
        })
