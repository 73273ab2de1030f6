-- An item's unstarted queueing after one more entry, and that what a pool starts next is one.
use Rattle.cmwq_theory_steps.specs.Common.{◌≡◌, ℕ, Bool, true, false, not, ◌&&◌, ◌==◌, List, [], ◌∷◌, ◌++◌, filter}
use Rattle.cmwq_theory_steps.specs.Common.{Option, Some, None, option_to_list, cond, arith, refl, sym, ap, ap₂, ◌∙◌}
use Rattle.cmwq_theory_steps.specs.Common.{AllByRecursion, filter-append, Entry, Queueing, PoolId, Layout, queueings}
use Rattle.cmwq_theory_steps.specs.Common.{still_open, is_live, opening, is_unstarted, unstarted_queueing, starts}
use Rattle.cmwq_theory_steps.specs.Common.{is_started, IsLegal, has_number, next, option_or, All_each, eq-eqb}
use Rattle.cmwq_theory_steps.specs.Common.{All_unfilter}
use Rattle.cmwq_theory_steps.proofs.Joined.{listed_live}
use Rattle.cmwq_theory_steps.specs.Endings.{survives}
use Rattle.cmwq_lemmas.proofs.Filters.{filter_twice, filter_same}
use Rattle.cmwq_theory_steps.proofs.Endings.{open_go_on}
use Rattle.cmwq_theory_steps.proofs.Pending.{one_unstarted}
use Rattle.cmwq_theory_steps.proofs.WorklistSteps.{opening_inert}
use Rattle.cmwq_theory_steps.specs.ItemQueueings.{still_unstarted, of_item}
use Rattle.cmwq_theory_steps.proofs.Activated.{find_holds, next_holds}
use Rattle.cmwq_theory_steps.proofs.StartsListed.{IsFound, queueings_found, queueing_at-older}
use Rattle.cmwq_theory_steps.proofs.Pools.{unstarted_alone}

-- ---- the unstarted queueing of an item after an entry

kept_one : (past : List Entry) (e : Entry) (o : Option Queueing)
    → filter (λ x. survives past e x && not (starts x.number e)) (option_to_list o)
    ≡ option_to_list (still_unstarted past e o)
kept_one past e None = refl
kept_one past e (Some x) = grind arith

opened_one : (past : List Entry) (e : Entry) (i : ℕ) (o : Option Queueing)
    → AllByRecursion (λ x. is_started (e ∷ past) x.number ≡ false) (option_to_list o)
    → filter (is_unstarted (e ∷ past) i) (option_to_list o) ≡ option_to_list (of_item i o)
opened_one past e i None h = refl
opened_one past e i (Some x) h = ap (λ b. cond ((x.item.0 == i) && not b) (x ∷ []) []) h.0 ∙ grind arith

both : (u a b : Option Queueing) → option_to_list u ≡ option_to_list a ++ option_to_list b → u ≡ option_or a b
both u a b h = grind arith

pub unstarted_goes_on : (s : Layout) (past : List Entry) (e : Entry) (i : ℕ) → IsLegal s (e ∷ past)
    → unstarted_queueing (e ∷ past) i
    ≡ option_or (still_unstarted past e (unstarted_queueing past i)) (of_item i (opening past e))
unfolding IsLegal
unstarted_goes_on s past e i legal =
    let kept : Queueing → Bool = λ x. survives past e x && not (starts x.number e) in
    let old : filter (is_unstarted (e ∷ past) i) (filter (survives past e) (still_open past))
    ≡ option_to_list (still_unstarted past e (unstarted_queueing past i)) =
    filter_twice (is_unstarted (e ∷ past) i) (survives past e) (still_open past)
    ∙ (filter_same (λ x. survives past e x && is_unstarted (e ∷ past) i x) (λ x. is_unstarted past i x && kept x)
    (still_open past)
    (All_each _ (still_open past) (λ x. grind arith))
    ∙ (sym (filter_twice kept (is_unstarted past i) (still_open past))
    ∙ (ap (filter kept) (one_unstarted s past i legal.2) ∙ kept_one past e (unstarted_queueing past i)))) in
    both (unstarted_queueing (e ∷ past) i) (still_unstarted past e (unstarted_queueing past i))
    (of_item i (opening past e))
    (sym (one_unstarted s (e ∷ past) i legal)
    ∙ (ap (filter (is_unstarted (e ∷ past) i)) (open_go_on s past e legal)
    ∙ (filter-append (is_unstarted (e ∷ past) i) (filter (survives past e) (still_open past))
    (option_to_list (opening past e))
    ∙ ap₂ (λ xs ys. xs ++ ys) old
    (opened_one past e i (opening past e) (opening_inert s past e (opening past e) legal refl)))))

-- ---- what a pool starts next

pub next_unstarted : (s : Layout) (past : List Entry) → IsLegal s past → (p : PoolId) (x : Queueing)
    → next s past p ≡ Some x → unstarted_queueing past x.item.0 ≡ Some x
next_unstarted s past legal p x h =
    let k = next_holds s IsFound (λ e past y found. queueing_at-older e past y.number y found) queueings_found past p x
    h in
    let live = listed_live s past p x k.listed in
    let new : is_started past x.number ≡ false = grind arith in
    let mine : is_unstarted past x.item.0 x ≡ true = ap₂ (λ a b. a && not b) (eq-eqb x.item.0 x.item.0 refl) new in
    let found =
    find_holds (λ y. is_live past y ≡ true → is_unstarted past x.item.0 y ≡ true
    → unstarted_queueing past x.item.0 ≡ Some y) (has_number x.number) (queueings past) x
    (All_unfilter _ (is_live past) (queueings past) (unstarted_alone s past x.item.0 legal)) k.holds in
    found.holds live mine
