-- Stands to which a script leads: each is alike to itself, and stays such.
use Rattle.std.specs.Prelude.{◌<◌, IfSome, map}
use Rattle.std.specs.List.{AllByRecursion, range_with_len}
use Rattle.std.proofs.Common.{ℕ, true, false, length, Option, Some, None, refl, sym, subst, arith, inl, inr, ⊎_elim}
use Rattle.std.proofs.lemmas.List.{length-reverse}
use Rattle.cmwq_lemmas.proofs.Lists.{All_append, All_each, All_flat, all_mapped}
unfoldable use Rattle.cmwq_model.specs.Prelude.{IsLegal}
use Rattle.cmwq_model.specs.Prelude.{unended_tickets}
use Rattle.cmwq_model.specs.declared.id.PoolId.{PoolId}
use Rattle.cmwq_alike.specs.Alike.{ticket_number}
use Rattle.cmwq_alike.proofs.Itself.{itself_alike}
use Rattle.cmwq_alike.proofs.Waits.{is_there}
use Rattle.cmwq_play.specs.declared.place.Doing.{Doing}
use Rattle.cmwq_play.specs.declared.place.Doing.TheVariants.{Acts, AtGate, AtLock, Waits}
use Rattle.cmwq_play.specs.declared.place.RunAt.{RunAt}
use Rattle.cmwq_play.specs.declared.place.Ticketed.{Ticketed}
use Rattle.cmwq_key.specs.Alike.{AlikeAreStands, AreDoingsAlike, AreRunsAlike, AreStandsAlike, AreWaitsAlike}
use Rattle.cmwq_key.specs.Alike.{EachIsAlikeToItself, FirstIsStand, IsOlderCaller, IsOlderDoing, IsOlderWait}
use Rattle.cmwq_key.specs.Alike.{IsOlderWorker, IsStand, NoneNames, OptionsMatch, SchedulesLeadToStands}
use Rattle.cmwq_key.specs.Alike.{AreTicketsAlike}
use Rattle.cmwq_play.specs.Firsts.{caller_at, of_cpu, of_pool, pool_of, worker_at}
use Rattle.cmwq_core.specs.History.{History, past_in}
use Rattle.cmwq_play.specs.Stands.{Stand}
unfoldable use Rattle.cmwq_play.specs.Starts.{first_stand}
use Rattle.cmwq_key.proofs.AlikeSearches.{after_alike}
use Rattle.cmwq_key.proofs.Matching.{all_left, all_right, match_itself}

-- ---- of two stands that are alike

module _ (R : ℕ → ℕ → Type 0) (count others : ℕ) (each : (n m : ℕ) → R n m → (n < count) × (m < others)) where
  waits_older : (o r : Option Ticketed) → OptionsMatch (AreWaitsAlike R) o r
      → IsOlderWait count o × IsOlderWait others r
  waits_older None None h = (tt, tt)
  waits_older None (Some v) h = absurd h
  waits_older (Some w) None h = absurd h
  waits_older (Some w) (Some v) h = each w.ticket v.ticket h.ticket

  doings_older : (d e : Doing) → AreDoingsAlike R d e → IsOlderDoing count d × IsOlderDoing others e
  doings_older Acts Acts h = (tt, tt)
  doings_older (AtGate gate slept) (AtGate other so) h = (tt, tt)
  doings_older (AtLock lock slept) (AtLock other so) h = (tt, tt)
  doings_older (Waits caller w) (Waits other v) h = each w.ticket v.ticket h.1.ticket
  doings_older d e h = absurd h

  runs_older : (o r : Option RunAt) → OptionsMatch (AreRunsAlike R) o r
      → IfSome o (λ (run : RunAt). IsOlderDoing count run.doing)
      × IfSome r (λ (run : RunAt). IsOlderDoing others run.doing)
  runs_older None None h = (tt, tt)
  runs_older None (Some v) h = absurd h
  runs_older (Some w) None h = absurd h
  runs_older (Some w) (Some v) h = doings_older w.doing v.doing h.doing

module _ {f : ℕ → ℕ} {p q : Stand} (a : AreStandsAlike f p q) where
  tickets_older : (n m : ℕ) → AreTicketsAlike f p.history q.history n m
      → (n < length p.history.entries) × (m < length q.history.entries)
  tickets_older n m w = (
    omega (arith, w.below, length-reverse p.history.entries),
    omega (arith, w.other_below, length-reverse q.history.entries),
  )

  the_one : IsStand p
  the_one =
      record {
        scripts_name_none = a.scripts_name_none;
        does_name_none = a.does_name_none;
        legal = a.histories.legal;
        callers = all_left _ _ p.callers q.callers
            (λ at other h. (waits_older _ _ _ tickets_older at.wait other.wait h.wait).0) a.callers;
        workers = all_left _ _ p.workers q.workers
            (λ at other h. (runs_older _ _ _ tickets_older at.run other.run h.run).0) a.workers;
      }

  the_other : IsStand q
  the_other =
      record {
        scripts_name_none = subst NoneNames (sym a.scripts) a.scripts_name_none;
        does_name_none = subst NoneNames (sym a.does) a.does_name_none;
        legal = subst (λ s. IsLegal s (past_in q.history)) (sym a.histories.layout) a.histories.other_legal;
        callers = all_right _ _ p.callers q.callers
            (λ at other h. (waits_older _ _ _ tickets_older at.wait other.wait h.wait).1) a.callers;
        workers = all_right _ _ p.workers q.workers
            (λ at other h. (runs_older _ _ _ tickets_older at.run other.run h.run).1) a.workers;
      }

pub alike_are_stands : AlikeAreStands
alike_are_stands p q a = (the_one a.1, the_other a.1)

-- ---- one stand and itself

module _ (R : ℕ → ℕ → Type 0) (count : ℕ) (itself : (n : ℕ) → n < count → R n n) where
  wait_itself : (o : Option Ticketed) → IsOlderWait count o → OptionsMatch (AreWaitsAlike R) o o
  wait_itself None older = tt
  wait_itself (Some w) older = record { call = refl; ticket = itself w.ticket older }

  doing_itself : (d : Doing) → IsOlderDoing count d → AreDoingsAlike R d d
  doing_itself Acts older = tt
  doing_itself (AtGate gate slept) older = (refl, refl)
  doing_itself (AtLock lock slept) older = (refl, refl)
  doing_itself (Waits caller w) older = (refl, record { call = refl; ticket = itself w.ticket older })

  run_itself : (o : Option RunAt) → IfSome o (λ (run : RunAt). IsOlderDoing count run.doing)
      → OptionsMatch (AreRunsAlike R) o o
  run_itself None older = tt
  run_itself (Some run) older = record { item = refl; next = refl; doing = doing_itself run.doing older }

ticket_itself : (h : History) (n : ℕ) → n < length h.entries → AreTicketsAlike (λ m. m) h h n n
ticket_itself h n less =
    record {
      below = omega (arith, less, length-reverse h.entries);
      other_below = omega (arith, less, length-reverse h.entries);
      ticket = ⊎_elim (λ there. inl (there, refl)) (λ not_so. inr (not_so, not_so))
          (is_there (map ticket_number (unended_tickets (past_in h))) n);
    }

pub each_is_alike : EachIsAlikeToItself
each_is_alike p is =
    record {
      scripts = refl;
      does = refl;
      scripts_name_none = is.scripts_name_none;
      does_name_none = is.does_name_none;
      histories = record {
        layout = refl;
        room = refl;
        long = refl;
        legal = is.legal;
        other_legal = is.legal;
        alike = itself_alike p.history.layout (past_in p.history);
      };
      callers = match_itself _ _ p.callers (λ at older. record {
        id = refl;
        next = refl;
        wait = wait_itself _ _ (ticket_itself p.history) at.wait older;
      }) is.callers;
      workers = match_itself _ _ p.workers
          (λ at older. record { id = refl; run = run_itself _ _ (ticket_itself p.history) at.run older }) is.workers;
      gates = refl;
      locks = refl;
      free = refl;
    }

-- ---- what a script leads to

pub schedules_lead : SchedulesLeadToStands
schedules_lead p schedule is goes =
    (alike_are_stands _ _ (after_alike p p schedule ((λ n. n), each_is_alike p is) goes)).0

no_runs : (count : ℕ) (pool : PoolId) → AllByRecursion (IsOlderWorker 0) (of_pool count pool)
no_runs count pool =
    all_mapped (worker_at pool) (IsOlderWorker 0) (range_with_len 0 count)
    (All_each _ (range_with_len 0 count) (λ k. tt))

pub first_is_stand : FirstIsStand
unfolding first_stand IsLegal
first_is_stand r callers does =
    record {
      scripts_name_none = callers;
      does_name_none = does;
      legal = tt;
      callers = all_mapped caller_at (IsOlderCaller 0) (range_with_len 0 (length r.callers))
          (All_each _ (range_with_len 0 (length r.callers)) (λ k. tt));
      workers = All_flat (IsOlderWorker 0) (of_cpu r.layout.workers) (range_with_len 0 r.layout.cpus) (λ cpu.
          All_append (IsOlderWorker 0) (of_pool r.layout.workers (pool_of cpu false))
          (of_pool r.layout.workers (pool_of cpu true))
          (no_runs r.layout.workers (pool_of cpu false)) (no_runs r.layout.workers (pool_of cpu true)));
    }
