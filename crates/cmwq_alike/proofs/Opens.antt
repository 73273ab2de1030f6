-- What is open after a call is alike.
use Rattle.std.specs.Prelude.{◌∷◌, ◌++◌, if◌then◌else◌}
use Rattle.cmwq_alike.specs.Common.{map-append}
use Rattle.cmwq_alike.specs.Common.{◌≡◌, ℕ, Bool, true, false, List, filter, map, Option, Some, None, option_map}
use Rattle.cmwq_alike.specs.Common.{option_and_then, option_map_or, option_or, option_to_list, is_at, arith, refl, sym}
use Rattle.cmwq_alike.specs.Common.{ap, ap₂, ◌∙◌}
use Rattle.cmwq_alike.specs.Common.{AllByRecursion, All_both, Entry, Queueing, Layout, Place, Booking, Start, Call}
use Rattle.cmwq_alike.specs.Common.{Reply}
use Rattle.cmwq_alike.specs.Common.{still_open, is_started, number_finished, number_cancelled, finishes, takes_back}
use Rattle.cmwq_alike.specs.Common.{opens, replaces, is_of_item, item_of, item_called, item_fired, opening, queued_at}
use Rattle.cmwq_alike.specs.Common.{cpu_for, place_wanted}
use Rattle.cmwq_alike.specs.Common.{place_called, booking, item_run}
use Rattle.cmwq_alike.specs.Alike.{queueing_by, reply_by, call_by, start_by, unnumbered, Matters, next_by, IsStep}
use Rattle.cmwq_theory_steps.specs.Endings.{survives}
use Rattle.cmwq_theory_steps.proofs.Endings.{open_go_on}
use Rattle.cmwq_alike.proofs.Lemmas.{filter_mapped, map_alike}
use Rattle.cmwq_alike.proofs.Numbers.{at_alike, each_stays, new_is, finished_matters, cancelled_matters}
use Rattle.cmwq_alike.proofs.Numbers.{finished_by, cancelled_by, replaces_by, opens_by, each_matters, ended_stays}

-- the item of a call and reply
item_by : (f g : ℕ → ℕ) (c : Call) (r : Reply)
    → option_or (item_called (call_by f c)) (item_fired (reply_by g r)) ≡ option_or (item_called c) (item_fired r)
item_by f g c r = at c
  where
    fired : (r : Reply) → item_fired (reply_by g r) ≡ item_fired r
    fired r = grind arith

    at : (c : Call) → option_or (item_called (call_by f c)) (item_fired (reply_by g r))
        ≡ option_or (item_called c) (item_fired r)
    at c = grind (arith, fired r)

module _ {s : Layout} {f : ℕ → ℕ} {past other : List Entry} {e d : Entry} (k : IsStep s f past other e d) where
  pub same_item : item_of d ≡ item_of e
  same_item = ap₂ (λ c r. option_or (item_called c) (item_fired r)) k.same.call k.same.reply
      ∙ item_by (next_by f past other) (next_by f past other) e.call e.reply

  pub same_replaces : replaces d.reply ≡ replaces e.reply
  same_replaces = ap replaces k.same.reply ∙ replaces_by (next_by f past other) e.reply

  pub same_finishes : (n : ℕ) → Matters past n → finishes (f n) d ≡ finishes n e
  same_finishes n mn =
      ap (λ r. is_at (number_finished r) (f n)) k.same.reply
      ∙ (ap (λ o. is_at o (f n)) (finished_by (next_by f past other) e.reply)
      ∙ at_alike f (next_by f past other) past (number_finished e.reply) n k.alike.order
      (λ m h. ended_stays f past other m (finished_matters s past e m k.legal h)) mn)

  pub same_takes_back : (n : ℕ) → Matters past n → takes_back (f n) d ≡ takes_back n e
  same_takes_back n mn =
      ap (λ r. is_at (number_cancelled r) (f n)) k.same.reply
      ∙ (ap (λ o. is_at o (f n)) (cancelled_by (next_by f past other) e.reply)
      ∙ at_alike f (next_by f past other) past (number_cancelled e.reply) n k.alike.order
      (λ m h. ended_stays f past other m (cancelled_matters s past e m k.legal h)) mn)

  pub same_survives : (x : Queueing) → Matters past x.number → is_started other (f x.number) ≡ is_started past x.number
      → survives other d (queueing_by f x) ≡ survives past e x
  same_survives x mx started = survived
      (same_finishes x.number mx) (same_takes_back x.number mx) same_replaces (ap (λ o. is_at o x.item.0) same_item)
      started
    where
      survived : finishes (f x.number) d ≡ finishes x.number e → takes_back (f x.number) d ≡ takes_back x.number e
          → replaces d.reply ≡ replaces e.reply → is_of_item x.item.0 d ≡ is_of_item x.item.0 e
          → is_started other (f x.number) ≡ is_started past x.number
          → survives other d (queueing_by f x) ≡ survives past e x
      survived a b c h i = rw (a, b, c, h, i) refl

  pub all_survive : AllByRecursion (λ x. survives other d (queueing_by f x) ≡ survives past e x) (still_open past)
  all_survive =
      All_both (λ (x : Queueing). Matters past x.number)
      (λ (x : Queueing). is_started other (f x.number) ≡ is_started past x.number) _ (still_open past)
      (λ x mx started. same_survives x mx started) (each_matters past) k.alike.started

  -- what is opened
  same_place : (i : ℕ) → place_wanted other d.call i ≡ place_wanted past e.call i
  same_place i = ap₂ (λ c o. option_or c o) (ap place_called k.same.call ∙ called e.call)
      (booked (booking other i) (booking past i) (k.alike.bookings i))
    where
      called : (c : Call) → place_called (call_by (next_by f past other) c) ≡ place_called c
      called c = grind arith

      booked : (a b : Option Booking) → option_map unnumbered a ≡ option_map unnumbered b
          → option_map (λ (b : Booking). b.place) a ≡ option_map (λ (b : Booking). b.place) b
      booked a b h = grind arith

  same_cpu : (i : ℕ) (p : Place) → cpu_for other i p.cpu ≡ cpu_for past i p.cpu
  same_cpu i p = ap (λ o. option_map_or (λ (x : Start). x.worker.pool.cpu) o p.cpu) (k.alike.item_runs i)
      ∙ at (item_run past i)
    where
      at : (o : Option Start) → option_map_or (λ (x : Start). x.worker.pool.cpu) (option_map (start_by f) o) p.cpu
          ≡ option_map_or (λ (x : Start). x.worker.pool.cpu) o p.cpu
      at None = refl
      at (Some x) = refl

  same_queued : (i : ℕ) (p : Place) → queued_at other i p ≡ queueing_by (next_by f past other) (queued_at past i p)
  same_queued i p =
      ap₂ (λ c n. record { item = record { 0 = i }; place = record { queue = p.queue; cpu = c }; number = n })
      (same_cpu i p) (sym (new_is f past other))

  pub same_opening : opening other d ≡ option_map (queueing_by (next_by f past other)) (opening past e)
  same_opening =
      rw (ap opens k.same.reply ∙ opens_by (next_by f past other) e.reply, same_item) (at (opens e.reply) (item_of e))
    where
      placed : (i : ℕ) (o : Option Place) → option_map (queued_at other i) o
          ≡ option_map (queueing_by (next_by f past other)) (option_map (queued_at past i) o)
      placed i None = refl
      placed i (Some p) = ap Some (same_queued i p)

      at : (b : Bool) (o : Option ℕ)
          → (if b then option_and_then (λ i. option_map (queued_at other i) (place_wanted other d.call i)) o else None)
          ≡ option_map (queueing_by (next_by f past other))
          (if b then option_and_then (λ i. option_map (queued_at past i) (place_wanted past e.call i)) o else None)
      at false o = refl
      at true None = refl
      at true (Some i) = ap (option_map (queued_at other i)) (same_place i) ∙ placed i (place_wanted past e.call i)

listed : (f : ℕ → ℕ) (o : Option Queueing)
    → option_to_list (option_map (queueing_by f) o) ≡ map (queueing_by f) (option_to_list o)
listed f None = refl
listed f (Some x) = refl

pub open_go_on_alike : (s : Layout) (f : ℕ → ℕ) (past other : List Entry) (e d : Entry) → IsStep s f past other e d
    → still_open (d ∷ other) ≡ map (queueing_by (next_by f past other)) (still_open (e ∷ past))
open_go_on_alike s f past other e d k =
    open_go_on s other d k.other_legal
    ∙ (ap₂ (λ xs ys. xs ++ ys)
    (ap (filter (survives other d)) (k.alike.opened ∙ map_alike _ _ (still_open past) (each_stays f past other))
    ∙ filter_mapped (queueing_by (next_by f past other)) (survives other d) (survives past e) (still_open past)
    (All_both (λ x. queueing_by f x ≡ queueing_by (next_by f past other) x)
    (λ x. survives other d (queueing_by f x) ≡ survives past e x) _ (still_open past)
    (λ x h j. ap (survives other d) (sym h) ∙ j) (each_stays f past other) (all_survive k)))
    (ap option_to_list (same_opening k) ∙ listed (next_by f past other) (opening past e))
    ∙ (sym (map-append (queueing_by (next_by f past other)) (filter (survives past e) (still_open past))
    (option_to_list (opening past e)))
    ∙ ap (map (queueing_by (next_by f past other))) (sym (open_go_on s past e k.legal))))
