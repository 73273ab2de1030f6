-- A registry goes on to have the waits of the history, and it has a place for each.
use Rattle.std.proofs.Common.{◌≡◌, ◌∙◌, ◌∷◌, ◌++◌, ◌+◌, ◌≤◌, Bool, List, None, Option, ℕ, ap, ap₂, arith, false, filter}
use Rattle.std.proofs.Common.{length, length-append, option_to_list, refl, sym, true, ◌*◌, []}
use Rattle.std.specs.List.{flat_map, range_with_len}
use Rattle.std.proofs.lemmas.List.Concat.{flat_map-cons}
use Rattle.std.proofs.lemmas.List.FromFn.{length-map-range_with_len, length-range_with_len}
use Rattle.std.specs.Prelude.{if◌then◌else◌, option_and_then}
use Rattle.std.proofs.lemmas.List.Sums.{length-filter}
use Rattle.cmwq_lemmas.proofs.Lists.{filter_shorter}
use Rattle.cmwq_model.specs.Prelude.{IsLegal, Layout, cpu_workers, pool_workers, runs_asleep, ticket_in, worker_at}
use Rattle.cmwq_model.specs.Prelude.{worker_of, workers}
use Rattle.cmwq_model.specs.declared.entry.Entry.{Entry}
use Rattle.cmwq_model.specs.declared.id.PoolId.{PoolId}
use Rattle.cmwq_model.specs.declared.id.Who.{Who}
use Rattle.cmwq_model.specs.declared.id.Who.TheVariants.{Caller, Worker}
use Rattle.cmwq_model.specs.declared.id.WorkerId.{WorkerId}
use Rattle.cmwq_model.specs.declared.record.Queueing.{Queueing}
use Rattle.cmwq_model.specs.declared.record.Ticket.{Ticket}
use Rattle.cmwq_theory_steps.specs.ItemQueueings.{queueing_run}
use Rattle.cmwq_theory_steps.specs.TicketSteps.{ticket_ended}
unfoldable use Rattle.cmwq_waits.specs.Begun.{waits_of}
use Rattle.cmwq_waits.specs.Begun.{HasWaitsOf, Registry, is_lent, is_sleep, laid, registry, wait_by}
use Rattle.cmwq_waits.specs.Registered.{still_waits}
use Rattle.cmwq_waits.specs.declared.run_wait.RunWait.{RunWait}
use Rattle.cmwq_waits.proofs.Begun.{sleep_runs, slept_is}
use Rattle.cmwq_waits.proofs.Few.{waits_are_few}

-- ---- no entry yet

same_each : (f : ℕ → List WorkerId) (k : ℕ) (xs : List ℕ) → ((x : ℕ) → length (f x) ≡ k)
    → length (flat_map f xs) ≡ length xs * k
same_each f k [] same = grind arith
same_each f k (x ∷ xs) same =
    ap length (flat_map-cons f x xs) ∙ length-append (f x) (flat_map f xs)
    ∙ ap₂ (λ (a b : ℕ). a + b) (same x) (same_each f k xs same) ∙ grind arith

of_cpu : (s : Layout) (c : ℕ) → length (cpu_workers s c) ≡ 2 * s.workers
of_cpu s c =
    let low : PoolId = record { cpu = record { 0 = c }; high = false } in
    let high : PoolId = record { cpu = record { 0 = c }; high = true } in
    omega (
      arith,
      length-append (pool_workers s low) (pool_workers s high),
      length-map-range_with_len (worker_at low) 0 s.workers,
      length-map-range_with_len (worker_at high) 0 s.workers,
    )

many_workers : (s : Layout) → length (workers s) ≡ 2 * s.cpus * s.workers
many_workers s =
    same_each (cpu_workers s) (2 * s.workers) (range_with_len 0 s.cpus) (of_cpu s)
    ∙ ap (λ n. n * (2 * s.workers)) (length-range_with_len 0 s.cpus) ∙ grind arith

pub has_none : (s : Layout) (first n : ℕ) (ws : List RunWait) → ws ≡ [] → n ≡ 2 * s.cpus * s.workers
    → HasWaitsOf s [] (registry first None ws n)
unfolding waits_of
has_none s first n ws none places = record { laid = refl; waits = none; places = places ∙ sym (many_workers s) }

-- ---- one more entry

-- what an entry lays to sleep is what its worker ran before
laid_after : (s : Layout) (past : List Entry) (e : Entry) → IsLegal s (e ∷ past)
    → laid (e ∷ past) ≡ (if is_sleep e.reply then queueing_run past e.who else None)
laid_after s past e legal = by (is_sleep e.reply) refl
  where
    its : (who : Who) → is_sleep e.reply ≡ true
        → option_and_then (λ (w : WorkerId). queueing_run (e ∷ past) (Worker w)) (worker_of who) ≡ queueing_run past who
    its (Caller c) slept = refl
    its (Worker w) slept = sleep_runs s past e w legal (slept_is e.reply slept)

    by : (b : Bool) → is_sleep e.reply ≡ b
        → option_and_then (λ (w : WorkerId). queueing_run (e ∷ past) (Worker w)) (if b then worker_of e.who else None)
        ≡ (if b then queueing_run past e.who else None)
    by true slept = its e.who slept
    by false other = refl

-- What is done when an entry is made: this was run by its worker, this ticket ended, and this wait began.
pub record IsEntered (past : List Entry) (e : Entry) (r : Registry) (run : Option Queueing) (done : Option Ticket)
    (begun : Option RunWait) : Type 0 where
  pub its_run : run ≡ queueing_run past e.who
  pub its_ticket : done ≡ ticket_ended past e
  pub its_wait : begun ≡ (if is_lent r.first e.who then wait_by r.laid (ticket_in e (length past)) else None)

module _ (s : Layout) (past : List Entry) (e : Entry) (r : Registry) (run : Option Queueing) (done : Option Ticket)
    (begun : Option RunWait) (legal : IsLegal s (e ∷ past)) (has : HasWaitsOf s past r)
    (is : IsEntered past e r run done begun) where
  waits_after : filter (still_waits run done) r.waits ++ option_to_list begun ≡ waits_of r.first (e ∷ past)
  unfolding waits_of
  waits_after = rw (is.its_run, is.its_ticket, is.its_wait, has.waits, has.laid) refl

  pub has_place : length (filter (still_waits run done) r.waits) + length (option_to_list begun) ≤ r.places
  has_place =
      omega (
        arith,
        length-append (filter (still_waits run done) r.waits) (option_to_list begun),
        ap length waits_after,
        waits_are_few r.first s (e ∷ past) legal,
        length-filter (runs_asleep (e ∷ past)) (workers s),
        filter_shorter (runs_asleep (e ∷ past)) (workers s),
        has.places,
      )

  pub has_after : (new : Registry) → new.first ≡ r.first → new.places ≡ r.places
      → new.laid ≡ (if is_sleep e.reply then run else None)
      → new.waits ≡ filter (still_waits run done) r.waits ++ option_to_list begun → HasWaitsOf s (e ∷ past) new
  has_after new first places lies waits = record {
    laid = lies ∙ ap (λ (o : Option Queueing). if is_sleep e.reply then o else None) is.its_run
        ∙ sym (laid_after s past e legal);
    waits = waits ∙ waits_after ∙ ap (λ n. waits_of n (e ∷ past)) (sym first);
    places = places ∙ has.places;
  }
