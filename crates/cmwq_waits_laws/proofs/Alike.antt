-- What sets of waits keep goes by their runs alone, so that sets of the same runs keep the same.
use Rattle.std.proofs.Common.{◌≡◌, ◌∙◌, ◌++◌, ◌∷◌, ℕ, Bool, List, [], ap, arith, cond, count_by, filter, map, nat_le}
use Rattle.std.proofs.Common.{refl, sym}
use Rattle.std.specs.Prelude.{◌&&◌, ◌+◌, ◌==◌}
use Rattle.std.specs.List.{list_any, sum_by}
use Rattle.std.proofs.lemmas.List.{map-append}
use Rattle.std.proofs.lemmas.List.Sums.{sum_by-cons}
use Rattle.cmwq_lemmas.proofs.Lists.{All_each}
use Rattle.cmwq_lemmas.proofs.Passing.{filter_mapped}
use Rattle.cmwq_model.specs.Prelude.{Layout, is_ahead, max_active, pool_at, same_pool}
use Rattle.cmwq_model.specs.declared.record.Place.{Place}
use Rattle.cmwq_model.specs.declared.record.Queueing.{Queueing}
use Rattle.cmwq_waits.specs.HeldUp.{Scene, has_run_of, have_all_places, have_all_workers, is_in, members}
use Rattle.cmwq_waits.specs.declared.run_wait.RunWait.{RunWait}

any_mapped : {X Y : Type 0} (f : X → Y) (p : Y → Bool) (xs : List X)
    → list_any p (map f xs) ≡ list_any (λ x. p (f x)) xs
any_mapped f p [] = refl
any_mapped f p (x ∷ xs) = grind (arith, any_mapped f p xs)

pub sum_mapped : {X Y : Type 0} (f : X → Y) (g : Y → ℕ) (xs : List X) → sum_by g (map f xs) ≡ sum_by (λ x. g (f x)) xs
sum_mapped f g [] = refl
sum_mapped f g (x ∷ xs) =
    sum_by-cons g (f x) (map f xs) ∙ ap (λ n. g (f x) + n) (sum_mapped f g xs) ∙ sym (sum_by-cons (λ y. g (f y)) x xs)

-- ---- the runs of waits

abbrev run_of : RunWait → Queueing
run_of w = w.run

abbrev pub HaveSameRuns : List RunWait → List RunWait → Type 0
HaveSameRuns vs ws = map run_of vs ≡ map run_of ws

pub last_alike : (ws : List RunWait) (v w : RunWait) → v.run ≡ w.run → HaveSameRuns (ws ++ v ∷ []) (ws ++ w ∷ [])
last_alike ws v w same =
    map-append run_of ws (v ∷ [])
    ∙ (ap (λ (x : Queueing). map run_of ws ++ x ∷ []) same ∙ sym (map-append run_of ws (w ∷ [])))

pub members_alike : (p : ℕ → Bool) (vs ws : List RunWait) → HaveSameRuns vs ws
    → HaveSameRuns (members p vs) (members p ws)
members_alike p vs ws same = sym (runs vs) ∙ (ap (filter has) same ∙ runs ws)
  where
    has : Queueing → Bool
    has x = p x.number

    runs : (us : List RunWait) → filter has (map run_of us) ≡ map run_of (members p us)
    runs us = filter_mapped run_of has (is_in p) us (All_each _ us (λ u. refl))

module _ (vs ws : List RunWait) (same : HaveSameRuns vs ws) where
  sums_alike : (g : Queueing → ℕ) → sum_by (λ (v : RunWait). g v.run) vs ≡ sum_by (λ (w : RunWait). g w.run) ws
  sums_alike g = sym (sum_mapped run_of g vs) ∙ (ap (sum_by g) same ∙ sum_mapped run_of g ws)

  pub runs_alike : (i : ℕ) → has_run_of vs i ≡ has_run_of ws i
  runs_alike i =
      sym (any_mapped run_of (λ x. x.item.0 == i) vs)
      ∙ (ap (list_any (λ x. x.item.0 == i)) same ∙ any_mapped run_of (λ x. x.item.0 == i) ws)

  pub workers_alike : (s : Layout) (p : Place) → have_all_workers s vs p ≡ have_all_workers s ws p
  workers_alike s p =
      ap (nat_le s.workers) (sums_alike (λ x. cond (same_pool (pool_at s x.place) (pool_at s p)) 1 0))

  pub places_alike : (c : Scene) (x : Queueing) → have_all_places c vs x ≡ have_all_places c ws x
  places_alike c x =
      ap (nat_le (max_active c.layout c.past x.place.queue.0))
      (sums_alike (λ y. count_by (λ z. (z.item.0 == y.item.0) && is_ahead x z) c.opened))
