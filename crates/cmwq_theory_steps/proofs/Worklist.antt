-- A pool's worklist has all that belongs there, and nothing else.
use Rattle.cmwq_theory_steps.specs.Common.{◌≡◌, true, List, [], ◌∷◌, option_to_list, arith, Contains, AllByRecursion}
use Rattle.cmwq_theory_steps.specs.Common.{Contains-append_left, Contains-append_right, PoolId, Entry, Layout}
use Rattle.cmwq_theory_steps.specs.Common.{queueings, opening, is_active, is_newly_active, newly_active, became_active}
use Rattle.cmwq_theory_steps.specs.Common.{is_listed, worklist, All_map, All_both, All_append, All_filter}
use Rattle.cmwq_theory_steps.proofs.Rising.{opening_number}
use Rattle.cmwq_theory_steps.proofs.Joined.{active_older}
use Rattle.cmwq_theory_steps.specs.Order.{IsWorklist}
use Rattle.std.proofs.Common.{⊎_elim}
use Rattle.std.proofs.lemmas.Bool.{cases_Bool}
use Rattle.cmwq_lemmas.proofs.Members.{all_in, in_option, contained_in, filter_in, in_contained}
use Rattle.cmwq_theory_steps.proofs.Activated.{activated_all}
use Rattle.cmwq_theory_steps.proofs.Order.{activated_in_order, in_order_filter}

-- ---- what is active became active

activated_has : (s : Layout) (past : List Entry)
    → AllByRecursion (λ x. is_active s past x ≡ true → Contains (became_active s past) x) (queueings past)
unfolding became_active queueings
activated_has s [] = tt
activated_has s (e ∷ past) =
    All_both (λ x. is_active s past x ≡ true → Contains (became_active s past) x)
    (λ x. is_newly_active s past e x ≡ true → Contains (newly_active s past e) x)
    (λ x. is_active s (e ∷ past) x ≡ true → Contains (became_active s (e ∷ past)) x) (queueings (e ∷ past))
    (λ x was newly active.
    ⊎_elim (λ before. Contains-append_left (became_active s past) (newly_active s past e) x (was before))
    (λ not_before. Contains-append_right (became_active s past) (newly_active s past e) x (newly (grind arith)))
    (cases_Bool (is_active s past x)))
    (All_append (λ x. is_active s past x ≡ true → Contains (became_active s past) x) (queueings past)
    (option_to_list (opening past e)) (activated_has s past)
    (all_in _ (option_to_list (opening past e))
    (λ x there active.
    absurd (omega
    (arith, active_older s past x active, opening_number past e x (in_option (opening past e) x there))))))
    (all_in _ (queueings (e ∷ past))
    (λ x there newly. in_contained (newly_active s past e) x
    (filter_in (is_newly_active s past e) (queueings (e ∷ past)) x there newly)))

-- ---- the worklist

pub worklist_is : (s : Layout) (past : List Entry) (p : PoolId) → IsWorklist s past p (worklist s past p)
unfolding worklist queueings
worklist_is s past p = record {
  all_stand =
      All_map (λ x. is_active s past x ≡ true → Contains (became_active s past) x) (λ x. is_listed s past p x ≡ true
      → Contains (worklist s past p) x) (queueings past)
      (λ x h listed.
      in_contained (worklist s past p) x
      (filter_in (is_listed s past p) (became_active s past) x
      (contained_in (became_active s past) x (h (grind arith))) listed))
      (activated_has s past);
  no_others =
      All_filter (λ x. Contains (queueings past) x × (is_listed s past p x ≡ true)) (is_listed s past p)
      (became_active s past)
      (All_map (Contains (queueings past)) (λ x. is_listed s past p x ≡ true
      → Contains (queueings past) x × (is_listed s past p x ≡ true)) (became_active s past)
      (λ x h listed. (h, listed))
      (activated_all s (λ h. Contains (queueings h))
      (λ e past x. Contains-append_left (queueings past) (option_to_list (opening past e)) x)
      (λ h. all_in (Contains (queueings h)) (queueings h) (in_contained (queueings h))) past));
  in_order = in_order_filter s past (is_listed s past p) (became_active s past) (activated_in_order s past);
}
