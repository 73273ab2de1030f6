-- What is active after a call, and the worklists.
use Rattle.std.specs.Prelude.{◌&&◌, ◌||◌, ◌++◌}
use Rattle.cmwq_alike.specs.Common.{map-append}
use Rattle.cmwq_alike.specs.Common.{◌≡◌, ℕ, Bool, true, not, nat_lt, List, ◌∷◌, filter, map, count_by, Some, is_at}
use Rattle.cmwq_alike.specs.Common.{refl, sym, ap, ap₂, ◌∙◌, subst, ⊎_elim, found}
use Rattle.cmwq_alike.specs.Common.{AllByRecursion, all_in, of_in, In, in_mapped, in_filter, Entry, Queueing, Layout}
use Rattle.cmwq_alike.specs.Common.{PoolId}
use Rattle.cmwq_alike.specs.Common.{still_open, IsLegal, is_live, is_active, is_below_max_active, is_ahead, same_place}
use Rattle.cmwq_alike.specs.Common.{worklist, newly_active}
use Rattle.cmwq_alike.specs.Common.{starts, number_started, filter_in, queueings}
use Rattle.cmwq_lemmas.proofs.Members.{contained_in}
use Rattle.cmwq_alike.specs.Alike.{queueing_by, Matters, IsOpenNumber, next_by, number_of, IsStep}
use Rattle.cmwq_theory_steps.specs.Activations.{waits, is_left, is_in}
use Rattle.cmwq_theory_steps.specs.Waiting.{candidates}
use Rattle.cmwq_theory_steps.proofs.Rising.{opening_number, open_below}
use Rattle.cmwq_theory_steps.proofs.Joined.{active_go_on, listed_live}
use Rattle.cmwq_theory_steps.proofs.Active.{not_active_yet}
use Rattle.cmwq_theory_steps.proofs.Waiting.{all_live, newly_are}
use Rattle.cmwq_theory_steps.proofs.Worklist.{worklist_is}
use Rattle.cmwq_theory_steps.proofs.WorklistSteps.{worklists_go_on}
use Rattle.cmwq_theory_steps.proofs.Starts.{starts_next}
use Rattle.cmwq_theory_steps.proofs.Unstarted.{next_unstarted}
use Rattle.cmwq_alike.proofs.Lemmas.{filter_mapped, count_mapped, map_alike}
use Rattle.cmwq_alike.proofs.Numbers.{at_alike, old_stays, new_is, open_matters, ended_stays, started_by, each_stays}
use Rattle.cmwq_alike.proofs.Opens.{open_go_on_alike, all_survive}
use Rattle.cmwq_alike.proofs.Orders.{open_old, order_stays}
use Rattle.cmwq_alike.proofs.Widths.{width_stays}

ahead_alike : (p : Bool) (a b c d : ℕ) → nat_lt c d ≡ nat_lt a b → (p && nat_lt c d) ≡ (p && nat_lt a b)
ahead_alike p a b c d h = ap (λ t. p && t) h

module _ {s : Layout} {f : ℕ → ℕ} {past other : List Entry} {e d : Entry} (k : IsStep s f past other e d) where
  pub below_alike : (x : Queueing) → Matters (e ∷ past) x.number
      → is_below_max_active s (d ∷ other) (queueing_by (next_by f past other) x) ≡ is_below_max_active s (e ∷ past) x
  below_alike x mx =
      ap₂ (λ n w. nat_lt n w)
      (ap (count_by (is_ahead (queueing_by (next_by f past other) x))) (open_go_on_alike s f past other e d k)
      ∙ count_mapped (queueing_by (next_by f past other)) (is_ahead (queueing_by (next_by f past other) x)) (is_ahead x)
      (still_open (e ∷ past))
      (all_in _ (still_open (e ∷ past))
      (λ y i. ap (λ t. same_place y.place x.place && t)
      (order_stays k y.number x.number (open_matters (e ∷ past) y i) mx))))
      (width_stays k x.place.queue.0)

  -- of an old one, and of a new one
  was_active : (x : Queueing) → In x (still_open (e ∷ past))
      → is_active s other (queueing_by (next_by f past other) x) ≡ is_active s past x
  was_active x i =
      ⊎_elim (λ old. ap (is_active s other) (ap (λ n. record x { number = n })
      (old_stays f past other x.number (of_in _ (still_open past) x (open_below past) old)))
      ∙ of_in _ (still_open past) x k.alike.active old)
      (λ new. let is = opening_number past e x new in
      not_active_yet s other (queueing_by (next_by f past other) x) (ap (next_by f past other) is ∙ new_is f past other)
      ∙ sym (not_active_yet s past x is)) (open_old s past e x k.legal i)

  other_open : (x : Queueing) → In x (still_open (e ∷ past))
      → In (queueing_by (next_by f past other) x) (still_open (d ∷ other))
  other_open x i =
      subst (In (queueing_by (next_by f past other) x)) (sym (open_go_on_alike s f past other e d k))
      (in_mapped (queueing_by (next_by f past other)) (still_open (e ∷ past)) x i)

  pub active_stays : AllByRecursion
      (λ x. is_active s (d ∷ other) (queueing_by (next_by f past other) x) ≡ is_active s (e ∷ past) x)
      (still_open (e ∷ past))
  active_stays =
      all_in _ (still_open (e ∷ past))
      (λ x i. active_go_on s other d (queueing_by (next_by f past other) x)
      ∙ (now (of_in _ (still_open (d ∷ other)) (queueing_by (next_by f past other) x) (all_live (d ∷ other))
      (other_open x i))
      (of_in _ (still_open (e ∷ past)) x (all_live (e ∷ past)) i) (was_active x i)
      (below_alike x (open_matters (e ∷ past) x i))
      ∙ sym (active_go_on s past e x)))
    where
      now : {a b c p q r : Bool} → a ≡ true → p ≡ true → b ≡ q → c ≡ r → (a && (b || c)) ≡ (p && (q || r))
      now ha hp hb hc = rw (ha, hp, hb, hc) refl

  -- ---- what becomes active
  pub newly_alike : newly_active s other d ≡ map (queueing_by (next_by f past other)) (newly_active s past e)
  newly_alike =
      newly_are s other d
      ∙ (ap (filter (is_below_max_active s (d ∷ other)))
      (ap (filter (waits s other)) (open_go_on_alike s f past other e d k)
      ∙ filter_mapped (queueing_by (next_by f past other)) (waits s other) (waits s past) (still_open (e ∷ past))
      (all_in _ (still_open (e ∷ past)) (λ x i. ap not (was_active x i))))
      ∙ (filter_mapped (queueing_by (next_by f past other)) (is_below_max_active s (d ∷ other))
      (is_below_max_active s (e ∷ past)) (candidates s past e)
      (all_in _ (candidates s past e)
      (λ x i. below_alike x (open_matters (e ∷ past) x (in_filter (waits s past) (still_open (e ∷ past)) x i).0)))
      ∙ ap (map (queueing_by (next_by f past other))) (sym (newly_are s past e))))

  -- ---- what starts
  pub started_matters : (n : ℕ) → number_started e.reply ≡ Some n → IsOpenNumber past n
  unfolding IsLegal
  started_matters n h =
      let q = starts_next s past e n k.legal h in
      let unstarted = next_unstarted s past k.legal.2 q.worker.pool q.queueing q.is_next in
      subst (IsOpenNumber past) q.number
      (in_mapped number_of (still_open past) q.queueing (found _ (still_open past) q.queueing unstarted).0)

  pub same_starts : (n : ℕ) → Matters past n → starts (f n) d ≡ starts n e
  same_starts n mn =
      ap (λ r. is_at (number_started r) (f n)) k.same.reply
      ∙ (ap (λ o. is_at o (f n)) (started_by (next_by f past other) e.reply)
      ∙ at_alike f (next_by f past other) past (number_started e.reply) n k.alike.order
      (λ m h. ended_stays f past other m (started_matters m h)) mn)

  -- ---- worklists
  listed_open : (p : PoolId) (x : Queueing) → In x (worklist s past p) → In x (still_open past)
  listed_open p x i =
      let q = of_in _ (worklist s past p) x (worklist_is s past p).no_others i in
      filter_in (is_live past) (queueings past) x (contained_in (queueings past) x q.0) (listed_live s past p x q.1)

  left_alike : (p : PoolId) (x : Queueing) → In x (worklist s past p)
      → is_left other d (queueing_by f x) ≡ is_left past e x
  left_alike p x i =
      let here = listed_open p x i in
      ap₂ (λ a b. a && not b) (of_in _ (still_open past) x (all_survive k) here)
      (same_starts x.number (open_matters past x here))

  stays_listed : (p : PoolId) → AllByRecursion (λ x. queueing_by f x ≡ queueing_by (next_by f past other) x)
      (worklist s past p)
  stays_listed p = all_in _ (worklist s past p)
      (λ x i. of_in _ (still_open past) x (each_stays f past other) (listed_open p x i))

  pub worklists_stay : (p : PoolId)
      → worklist s (d ∷ other) p ≡ map (queueing_by (next_by f past other)) (worklist s (e ∷ past) p)
  worklists_stay p =
      worklists_go_on s other d p k.other_legal
      ∙ (ap₂ (λ xs ys. xs ++ ys)
      (ap (filter (is_left other d)) (k.alike.worklists p)
      ∙ (filter_mapped (queueing_by f) (is_left other d) (is_left past e) (worklist s past p)
      (all_in _ (worklist s past p) (left_alike p))
      ∙ map_alike (queueing_by f) (queueing_by (next_by f past other)) (filter (is_left past e) (worklist s past p))
      (all_in _ (filter (is_left past e) (worklist s past p))
      (λ x i. of_in _ (worklist s past p) x (stays_listed p) (in_filter (is_left past e) (worklist s past p) x i).0))))
      (ap (filter (is_in s p)) newly_alike
      ∙ filter_mapped (queueing_by (next_by f past other)) (is_in s p) (is_in s p) (newly_active s past e)
      (all_in _ (newly_active s past e) (λ x i. refl)))
      ∙ (sym (map-append (queueing_by (next_by f past other)) (filter (is_left past e) (worklist s past p))
      (filter (is_in s p) (newly_active s past e)))
      ∙ ap (map (queueing_by (next_by f past other))) (sym (worklists_go_on s past e p k.legal))))
