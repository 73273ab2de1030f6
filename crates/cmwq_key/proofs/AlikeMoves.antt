-- Moves of stands that are alike.
use Rattle.std.specs.Prelude.{◌-◌, if◌then◌else◌, nat_lt, length, slice_get}
use Rattle.std.specs.Option.{option_map_or}
use Rattle.std.proofs.Common.{◌≡◌, ℕ, Bool, true, false, Option, Some, None, sym, subst}
use Rattle.cmwq_play.specs.declared.place.CallerAt.{CallerAt}
use Rattle.cmwq_play.specs.declared.place.WorkerAt.{WorkerAt}
use Rattle.cmwq_key.specs.Alike.{AreAlike, AreCallersAlike, AreStandsAlike, AreWorkersAlike, MovesGoOnAlike}
use Rattle.cmwq_key.specs.Alike.{OptionsMatch, RefusedAlike, AreTicketsAlike}
use Rattle.cmwq_play.specs.Stands.{Stand, may_call, may_work}
unfoldable use Rattle.cmwq_play.specs.Stands.{caller_moved, may, moved, worker_moved}
use Rattle.cmwq_key.proofs.AlikeCallers.{moves_alike}
use Rattle.cmwq_key.proofs.AlikeRuns.{works_alike}
use Rattle.cmwq_key.proofs.AlikeStands.{same_callers}
use Rattle.cmwq_key.proofs.AlikeWaits.{refused_alike}
use Rattle.cmwq_key.proofs.Matching.{match_at}

module _ {f : ℕ → ℕ} {p q : Stand} (a : AreStandsAlike f p q) where
  caller_moves : (k : ℕ) (at other : CallerAt) → AreCallersAlike (AreTicketsAlike f p.history q.history) at other
      → may_call p k at ≡ true → AreAlike (caller_moved p k at) (caller_moved q k other)
  caller_moves k at other h is =
      subst (λ id. AreAlike (caller_moved p k at)
      (caller_moved q k (record { id = id; next = other.next; wait = other.wait })))
      (sym h.id)
      (subst (λ next. AreAlike (caller_moved p k at)
      (caller_moved q k (record { id = at.id; next = next; wait = other.wait })))
      (sym h.next) (moves_alike a k at other.wait h.wait is))

  parties_move : (k : ℕ) → may p k ≡ true → AreAlike (moved p k) (moved q k)
  unfolding may moved
  parties_move k is =
      subst (λ n. AreAlike (moved p k)
      (if nat_lt k n then option_map_or (caller_moved q k) (slice_get q.callers k) q
      else option_map_or (worker_moved q (k - n)) (slice_get q.workers (k - n)) q)) (sym (same_callers a))
      (at (nat_lt k (length p.callers)) is)
    where
      of_caller : (o r : Option CallerAt) → OptionsMatch (AreCallersAlike (AreTicketsAlike f p.history q.history)) o r
          → option_map_or (may_call p k) o false ≡ true
          → AreAlike (option_map_or (caller_moved p k) o p) (option_map_or (caller_moved q k) r q)
      of_caller None None match is = (f, a)
      of_caller None (Some v) match is = absurd match
      of_caller (Some w) None match is = absurd match
      of_caller (Some w) (Some v) match is = caller_moves k w v match is

      of_worker : (j : ℕ) (o r : Option WorkerAt)
          → OptionsMatch (AreWorkersAlike (AreTicketsAlike f p.history q.history)) o r
          → option_map_or (may_work p) o false ≡ true
          → AreAlike (option_map_or (worker_moved p j) o p) (option_map_or (worker_moved q j) r q)
      of_worker j None None match is = (f, a)
      of_worker j None (Some v) match is = absurd match
      of_worker j (Some w) None match is = absurd match
      of_worker j (Some w) (Some v) match is = works_alike a j w v match is

      at : (b : Bool)
          → (if b then option_map_or (may_call p k) (slice_get p.callers k) false
          else option_map_or (may_work p) (slice_get p.workers (k - length p.callers)) false) ≡ true
          → AreAlike
          (if b then option_map_or (caller_moved p k) (slice_get p.callers k) p
          else option_map_or (worker_moved p (k - length p.callers)) (slice_get p.workers (k - length p.callers)) p)
          (if b then option_map_or (caller_moved q k) (slice_get q.callers k) q
          else option_map_or (worker_moved q (k - length p.callers)) (slice_get q.workers (k - length p.callers)) q)
      at true is = of_caller (slice_get p.callers k) (slice_get q.callers k)
          (match_at _ p.callers q.callers k a.callers) is
      at false is =
          of_worker (k - length p.callers) (slice_get p.workers (k - length p.callers))
          (slice_get q.workers (k - length p.callers))
          (match_at _ p.workers q.workers (k - length p.callers) a.workers) is

pub moves_go_on : MovesGoOnAlike
moves_go_on p q a k is = parties_move a.1 k is

pub refusals_alike : RefusedAlike
refusals_alike p q a w c = refused_alike a.1.histories p.workers q.workers a.1.workers w c
