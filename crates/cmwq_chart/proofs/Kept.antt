-- What one more entry tells of workers and callers.
use Rattle.std.proofs.Common.{◌≡◌, ℕ, ◌<◌, true, false, ◌&&◌, ◌==◌, List, ◌∷◌, filter, get_or, append-nil, refl}
use Rattle.std.proofs.Common.{sym, ap, ◌∙◌, subst, arith}
use Rattle.std.specs.Prelude.{IsTrue, nat_lt, slice_set}
use Rattle.std.proofs.lemmas.Bool.{and_parts, both_ways, eq-eqb, false_from_ne_true, ltb-true}
use Rattle.std.proofs.lemmas.Bool.Decides.{nat_tests}
use Rattle.std.proofs.lemmas.List.{get_or-map, length-map}
use Rattle.std.proofs.lemmas.List.Elements.{All-weaker}
use Rattle.cmwq_model.specs.declared.entry.Entry.{Entry}
use Rattle.cmwq_model.specs.declared.id.CallerId.{CallerId}
use Rattle.cmwq_model.specs.declared.id.Who.TheVariants.{Caller, Worker}
use Rattle.cmwq_model.specs.declared.id.WorkerId.{WorkerId}
use Rattle.cmwq_model.specs.Prelude.{Layout, fits, has_numbers, is_by, is_callers, is_workers, same_who, same_worker}
use Rattle.cmwq_model.specs.Prelude.{workers, IsLegal}
use Rattle.cmwq_theory_steps.proofs.ItemRuns.{same_worker-true, same_worker_itself}
use Rattle.cmwq_theory_steps.proofs.Reasons.{legal_fits}
use Rattle.cmwq_chart.specs.declared.callers.CallerIntervals.{CallerIntervals}
use Rattle.cmwq_chart.specs.declared.workers.WorkerIntervals.{WorkerIntervals}
use Rattle.cmwq_chart.specs.CallerWaits.{all_callers, callers_of, has_calls, wait_rows, wait_signs_by, waits_ended}
use Rattle.cmwq_chart.specs.Intervals.{caller_in, callers_in, lanes_in, worker_in, worker_number, AreCallersKept}
use Rattle.cmwq_chart.specs.Intervals.{AreWorkersKept, IsCallerKept, IsWorkerKept}
use Rattle.cmwq_chart.specs.Lanes.{has_entries, lanes_of}
use Rattle.cmwq_chart.specs.Sleeps.{asleep_since, sleeps_ended}
use Rattle.cmwq_chart.proofs.Numbers.{caller_there, callers_long, worker_numbers, worker_there, worker_within}
use Rattle.cmwq_chart.proofs.Rows.{all_shown, row_within, row_written, StandsAt}

-- ---- an entry tells nothing of those that didn't make it
pub worker_untold : (past : List Entry) (e : Entry) (own : WorkerIntervals) → is_by (Worker own.worker) e ≡ false
    → IsWorkerKept past own → IsWorkerKept (e ∷ past) own
unfolding asleep_since sleeps_ended
worker_untold past e own others is = grind (arith, append-nil)

pub caller_untold : (past : List Entry) (e : Entry) (own : CallerIntervals) → is_by (Caller own.caller) e ≡ false
    → IsCallerKept past own → IsCallerKept (e ∷ past) own
unfolding wait_rows waits_ended wait_signs_by
caller_untold past e own others is = grind (arith, append-nil)

pub by_worker : (e : Entry) (w : WorkerId) → e.who ≡ Worker w → is_by (Worker w) e ≡ true
by_worker e w who = ap (λ x. same_who x (Worker w)) who ∙ same_worker_itself w

pub by_caller : (e : Entry) (c : CallerId) → e.who ≡ Caller c → is_by (Caller c) e ≡ true
by_caller e c who = ap (λ x. same_who x (Caller c)) who ∙ eq-eqb c.0 c.0 refl

-- ---- those that make entries are of the layout
module _ (s : Layout) (past : List Entry) (e : Entry) (legal : IsLegal s (e ∷ past)) where
  pub worker_inside : (w : WorkerId) → e.who ≡ Worker w → (w.pool.cpu.0 < s.cpus) × (w.index < s.workers)
  worker_inside w who =
      let fit = subst (λ x. IsTrue (fits s x e.call)) who (legal_fits s past e legal) in
      let k = and_parts _ _
      (and_parts _ _
      (and_parts (nat_lt w.pool.cpu.0 s.cpus && nat_lt w.index s.workers && is_workers e.call) (has_numbers s e.call)
      fit).0).0 in
      (ltb-true w.pool.cpu.0 s.cpus k.0, ltb-true w.index s.workers k.1)

  pub caller_inside : (c : CallerId) → e.who ≡ Caller c → c.0 < s.callers
  caller_inside c who =
      let fit = subst (λ x. IsTrue (fits s x e.call)) who (legal_fits s past e legal) in
      ltb-true c.0 s.callers
      (and_parts _ _ (and_parts (nat_lt c.0 s.callers && is_callers e.call) (has_numbers s e.call) fit).0).0

  -- where those stand
  pub worker_stands : (w : WorkerId) → e.who ≡ Worker w → StandsAt (workers s) (worker_number s.workers w) w
  worker_stands w who = let here = worker_inside w who in
      record { within = worker_within s w here.0 here.1; there = λ d. worker_there s w d here.0 here.1 }

  pub caller_stands : (c : CallerId) → e.who ≡ Caller c → StandsAt (all_callers s) c.0 c
  caller_stands c who = let here = caller_inside c who in
      record { within = omega (arith, here, callers_long s); there = λ d. caller_there s c.0 d here }

  -- that row is another then, and the others stay as they are
  pub worker_told : {w : WorkerId} {rows : List WorkerIntervals} (own next : WorkerIntervals) → e.who ≡ Worker w
      → AreWorkersKept s past rows → own ≡ get_or rows (worker_number s.workers w) own → next.worker ≡ own.worker
      → IsWorkerKept (e ∷ past) next → AreWorkersKept s (e ∷ past) (slice_set rows (worker_number s.workers w) next)
  worker_told {w} own next who kept read same is =
      row_written kept (IsWorkerKept (e ∷ past)) (worker_number s.workers) (worker_numbers s)
      (worker_number s.workers w) own next (row_within kept (worker_stands w who)) read same is
      (λ y apart kept. worker_untold past e y (other w y.worker who apart) kept)
    where
      other : (w v : WorkerId) → e.who ≡ Worker w → (worker_number s.workers v == worker_number s.workers w) ≡ false
          → is_by (Worker v) e ≡ false
      other w v who apart = ap (λ x. same_who x (Worker v)) who
          ∙ false_from_ne_true (same_worker w v) (λ same. both_ways _ apart
          (eq-eqb _ _ (ap (worker_number s.workers) (sym (same_worker-true w v same)))))

  pub caller_told : {c : CallerId} {rows : List CallerIntervals} (own next : CallerIntervals) → e.who ≡ Caller c
      → AreCallersKept s past rows → own ≡ get_or rows c.0 own → next.caller ≡ own.caller
      → IsCallerKept (e ∷ past) next → AreCallersKept s (e ∷ past) (slice_set rows c.0 next)
  caller_told {c} own next who kept read same is =
      row_written kept (IsCallerKept (e ∷ past)) (λ (c : CallerId). c.0)
      (λ k d less. ap (λ (c : CallerId). c.0) (caller_there s k d (omega (arith, callers_long s)))) c.0 own next
      (row_within kept (caller_stands c who)) read same is
      (λ y apart kept.
      caller_untold past e y (ap (λ x. same_who x (Caller y.caller)) who ∙ flipped y.caller.0 c.0 apart) kept)
    where
      flipped : (n m : ℕ) → (n == m) ≡ false → (m == n) ≡ false
      flipped n m h = grind (arith, nat_tests)

-- ---- those that are shown
pub lanes_are : (s : Layout) (past : List Entry) (rows : List WorkerIntervals) → AreWorkersKept s past rows
    → lanes_in rows ≡ lanes_of s past
unfolding lanes_of
lanes_are s past rows kept =
    all_shown (λ (own : WorkerIntervals). own.has_entries) worker_in (has_entries past) rows
    (λ k d less. (kept.kept k d less).used) ∙ ap (filter (has_entries past)) kept.owners

pub callers_are : (s : Layout) (past : List Entry) (rows : List CallerIntervals) → AreCallersKept s past rows
    → callers_in rows ≡ callers_of s past
unfolding callers_of
callers_are s past rows kept =
    all_shown (λ (own : CallerIntervals). own.has_entries) caller_in (has_calls past) rows
    (λ k d less. (kept.kept k d less).used) ∙ ap (filter (has_calls past)) kept.owners
