-- What sets of waits hold up, in scenes that are alike.
use Rattle.std.specs.Prelude.{◌&&◌, ◌||◌, ◌==◌, ◌+◌, nat_le, nat_lt, not}
use Rattle.std.specs.List.{AllByRecursion, list_any, sum_by}
use Rattle.std.proofs.Common.{◌≡◌, ◌∙◌, ℕ, zero, suc, Bool, List, [], ◌∷◌, length, map, filter, count_by, ap, ap₂, refl}
use Rattle.std.proofs.Common.{sym, inl, inr}
use Rattle.std.proofs.lemmas.List.Sums.{sum_by-cons}
use Rattle.cmwq_lemmas.proofs.Lists.{All_each}
use Rattle.cmwq_lemmas.proofs.Members.{In, all_in, in_filter, of_in}
use Rattle.cmwq_model.specs.Prelude.{is_started, max_active, same_place}
unfoldable use Rattle.cmwq_model.specs.Prelude.{is_active}
use Rattle.cmwq_model.specs.declared.record.Place.{Place}
use Rattle.cmwq_model.specs.declared.record.Queueing.{Queueing}
use Rattle.cmwq_model.specs.declared.record.Ticket.{Ticket}
use Rattle.cmwq_alike.specs.Alike.{queueing_by, ticket_by}
use Rattle.std.proofs.lemmas.List.{length-map}
use Rattle.cmwq_alike.proofs.Lemmas.{count_mapped, filter_mapped}
use Rattle.cmwq_alike.proofs.Looks.{any_mapped}
use Rattle.cmwq_waits.specs.HeldUp.{Scene, awaits, has_run_of, have_all_places, have_all_workers, is_ahead_of_item}
use Rattle.cmwq_waits.specs.HeldUp.{is_held_up, is_held_up_by, is_in_pool, is_kept, is_of_item, places_ahead}
use Rattle.cmwq_waits.specs.Refused.{is_of_run, never_ends, stays}
unfoldable use Rattle.cmwq_waits.specs.Refused.{left_of}
use Rattle.cmwq_waits.specs.declared.run_wait.RunWait.{RunWait}

abbrev pub wait_by : (ℕ → ℕ) → RunWait → RunWait
wait_by f w = record { run = queueing_by f w.run; ticket = ticket_by f w.ticket }

-- all that is read of a scene
pub record AreScenesAlike (f : ℕ → ℕ) (c d : Scene) : Type 0 where
  pub layout : d.layout ≡ c.layout
  pub opened : d.opened ≡ map (queueing_by f) c.opened
  pub widths : (q : ℕ) → max_active d.layout d.past q ≡ max_active c.layout c.past q
  pub started : (x : Queueing) → In x c.opened → is_started d.past (f x.number) ≡ is_started c.past x.number
  pub active : (x : Queueing) → In x c.opened
      → is_active d.layout d.past (queueing_by f x) ≡ is_active c.layout c.past x
  pub order : (x y : Queueing) → In x c.opened → In y c.opened
      → nat_lt (f x.number) (f y.number) ≡ nat_lt x.number y.number

-- the ticket waits for the same
abbrev pub AwaitsAlike : (ℕ → ℕ) → Scene → Scene → Ticket → Type 0
AwaitsAlike f c d t = (x : Queueing) → In x c.opened
    → awaits d.past (ticket_by f t) (queueing_by f x) ≡ awaits c.past t x

sum_mapped : {X Y : Type 0} (g : X → Y) (p : Y → ℕ) (q : X → ℕ) (xs : List X) → ((x : X) → p (g x) ≡ q x)
    → sum_by p (map g xs) ≡ sum_by q xs
sum_mapped g p q [] same = refl
sum_mapped g p q (x ∷ xs) same =
    sum_by-cons p (g x) (map g xs) ∙ (ap₂ (λ n m. n + m) (same x) (sum_mapped g p q xs same) ∙ sym (sum_by-cons q x xs))

any_mapped_in : {X Y : Type 0} (g : X → Y) (p : Y → Bool) (q : X → Bool) (xs : List X)
    → ((x : X) → In x xs → p (g x) ≡ q x) → list_any p (map g xs) ≡ list_any q xs
any_mapped_in g p q [] same = refl
any_mapped_in g p q (x ∷ xs) same =
    ap₂ (λ a b. a || b) (same x (inl refl)) (any_mapped_in g p q xs (λ y here. same y (inr here)))

module _ {f : ℕ → ℕ} {c d : Scene} (a : AreScenesAlike f c d) (set : List RunWait) where
  runs_alike : (i : ℕ) → has_run_of (map (wait_by f) set) i ≡ has_run_of set i
  runs_alike i = any_mapped (wait_by f) (is_of_item i) (is_of_item i) set (λ w. refl)

  workers_alike : (p : Place) → have_all_workers d.layout (map (wait_by f) set) p ≡ have_all_workers c.layout set p
  workers_alike p =
      ap (λ s. have_all_workers s (map (wait_by f) set) p) a.layout
      ∙ ap (nat_le c.layout.workers)
      (count_mapped (wait_by f) (is_in_pool c.layout p) (is_in_pool c.layout p) set (All_each _ set (λ w. refl)))

  ahead_alike : (x : Queueing) → In x c.opened → (w : RunWait)
      → places_ahead d (queueing_by f x) (wait_by f w) ≡ places_ahead c x w
  ahead_alike x here w =
      ap (count_by (is_ahead_of_item (queueing_by f x) w.run.item.0)) a.opened
      ∙ count_mapped (queueing_by f) (is_ahead_of_item (queueing_by f x) w.run.item.0) (is_ahead_of_item x w.run.item.0)
      c.opened
      (all_in _ c.opened (λ y there.
      ap (λ b. (y.item.0 == w.run.item.0) && (same_place y.place x.place && b)) (a.order y x there here)))

  places_alike : (x : Queueing) → In x c.opened
      → have_all_places d (map (wait_by f) set) (queueing_by f x) ≡ have_all_places c set x
  places_alike x here =
      ap₂ (λ n m. nat_le n m) (a.widths x.place.queue.0)
      (sum_mapped (wait_by f) (places_ahead d (queueing_by f x)) (places_ahead c x) set (ahead_alike x here))

  kept_alike : (x : Queueing) → In x c.opened → is_kept d (map (wait_by f) set) (queueing_by f x) ≡ is_kept c set x
  kept_alike x here =
      ap₂ (λ b e. b || e) (runs_alike x.item.0)
      (ap₂ (λ b e. not b && e) (a.started x here)
      (ap₂ (λ b e. b || e) (workers_alike x.place)
      (ap₂ (λ b e. not b && e) (a.active x here) (places_alike x here))))

  pub held_up_alike : (t : Ticket) → AwaitsAlike f c d t
      → is_held_up d (map (wait_by f) set) (ticket_by f t) ≡ is_held_up c set t
  held_up_alike t awaited =
      ap (list_any (is_held_up_by d (map (wait_by f) set) (ticket_by f t))) a.opened
      ∙ any_mapped_in (queueing_by f) (is_held_up_by d (map (wait_by f) set) (ticket_by f t)) (is_held_up_by c set t)
      c.opened
      (λ x here. ap₂ (λ b e. b && e) (awaited x here) (kept_alike x here))

-- ---- what is left of some waits

module _ {f : ℕ → ℕ} {c d : Scene} (a : AreScenesAlike f c d) where
  pub left_alike : (n : ℕ) (set : List RunWait) → AllByRecursion (λ w. AwaitsAlike f c d w.ticket) set
      → left_of n d (map (wait_by f) set) ≡ map (wait_by f) (left_of n c set)
  unfolding left_of
  left_alike zero set each = refl
  left_alike (suc n) set each =
      ap (left_of n d)
      (filter_mapped (wait_by f) (stays d (map (wait_by f) set)) (stays c set) set
      (all_in _ set (λ w here. held_up_alike a set w.ticket (of_in _ set w each here))))
      ∙ left_alike n (filter (stays c set) set)
      (all_in _ (filter (stays c set) set) (λ w here. of_in _ set w each (in_filter (stays c set) set w here).0))

  left_are_some : (n : ℕ) (set : List RunWait) (w : RunWait) → In w (left_of n c set) → In w set
  unfolding left_of
  left_are_some zero set w here = here
  left_are_some (suc n) set w here =
      (in_filter (stays c set) set w (left_are_some n (filter (stays c set) set) w here)).0

  pub never_alike : (waits : List RunWait) (run : ℕ) → AllByRecursion (λ w. AwaitsAlike f c d w.ticket) waits
      → AllByRecursion (λ (w : RunWait). (f w.run.number == f run) ≡ (w.run.number == run)) waits
      → never_ends d (map (wait_by f) waits) (f run) ≡ never_ends c waits run
  never_alike waits run each same =
      ap (list_any (is_of_run (f run)))
      (ap (λ n. left_of n d (map (wait_by f) waits)) (length-map waits (wait_by f))
      ∙ left_alike (length waits) waits each)
      ∙ any_mapped_in (wait_by f) (is_of_run (f run)) (is_of_run run) (left_of (length waits) c waits)
      (λ w here. of_in _ waits w same (left_are_some (length waits) waits w here))
