-- How many are active on a queue and CPU after an entry, and what waits there.
use Rattle.cmwq_theory_steps.specs.Common.{All_map, ◌≡◌, ◌+◌, ◌-◌, ℕ, zero, suc, Bool, false, cond, not, ◌&&◌, List, []}
use Rattle.cmwq_theory_steps.specs.Common.{◌∷◌, filter, count_by, take, drop, option_to_list, refl, sym, ap, ◌∙◌, arith}
use Rattle.cmwq_theory_steps.specs.Common.{AllByRecursion, sum_by-filter_both, Entry, Layout, width, queueings, opening}
use Rattle.cmwq_theory_steps.specs.Common.{still_open, is_below_max_active, is_active, is_newly_active, newly_active}
use Rattle.cmwq_theory_steps.specs.Common.{IsLegal, All_each, count_by-none, count_by-filter}
use Rattle.cmwq_theory_steps.proofs.Rising.{opening_number}
use Rattle.cmwq_theory_steps.proofs.Joined.{stays_active}
use Rattle.cmwq_theory_steps.proofs.Lemmas.{and_false, count_append, count_by-same, drop_all, filter_all, filter_none}
use Rattle.cmwq_theory_steps.proofs.Lemmas.{flip, none_kept}
use Rattle.cmwq_theory_steps.specs.Histories.{one}
use Rattle.cmwq_theory_steps.specs.Places.{is_on, open_on, active_count}
use Rattle.cmwq_theory_steps.specs.Endings.{survives, is_ended, ending}
use Rattle.cmwq_theory_steps.specs.Activations.{waits, stay_count}
use Rattle.cmwq_theory_steps.specs.Waiting.{candidates, has_none, waiting_on, is_active_on, ends_active_on}
use Rattle.cmwq_theory_steps.proofs.Fronts.{IsFront, front_filter, count_split}
use Rattle.cmwq_theory_steps.proofs.Active.{on_each, fronts_below_max_active, not_active_yet, active_counted}
use Rattle.cmwq_theory_steps.proofs.Promoted.{newly_of_open, newly_active_on, turn_filters}
use Rattle.cmwq_theory_steps.proofs.Endings.{open_go_on}
use Rattle.cmwq_theory_steps.proofs.Ended.{one_ends}
use Rattle.cmwq_theory_steps.proofs.Waiting.{newly_are, waiting_goes_on}
use Rattle.cmwq_theory_steps.proofs.Options.{count_option}
use Rattle.cmwq_lemmas.proofs.Lists.{of_option}

-- ---- where the first so many pass, the rest fail

pub rest_dropped : {X : Type 0} (g : X → Bool) (n : ℕ) (xs : List X) → IsFront g xs → filter g xs ≡ take n xs
    → filter (λ x. not (g x)) xs ≡ drop n xs
rest_dropped g n [] front h = sym (drop_all n [] (omega arith))
rest_dropped g zero (x ∷ xs) front h =
    filter_all (λ y. not (g y)) (x ∷ xs)
    (All_map (λ y. g y ≡ false) _ (x ∷ xs) (λ y fails. ap not fails) (none_kept g (x ∷ xs) h))
rest_dropped g (suc n) (x ∷ xs) front h =
    let none : g x ≡ false → AllByRecursion (λ y. g y ≡ false) xs = front.0 in
    let empty : g x ≡ false → filter g xs ≡ [] = λ fails. filter_none g xs (front.0 fails) in
    grind (arith, rest_dropped g n xs front.1)

pub waiting_on_goes_on : (s : Layout) (past : List Entry) (e : Entry) (q c : ℕ)
    → waiting_on s (e ∷ past) q c
    ≡ drop (width s (e ∷ past) q - stay_count s past e q c) (filter (waits s past) (open_on (e ∷ past) q c))
waiting_on_goes_on s past e q c =
    turn_filters (waits s (e ∷ past)) (is_on q c) (still_open (e ∷ past))
    ∙ ap (filter (is_on q c)) (waiting_goes_on s past e)
    ∙ turn_filters (is_on q c) (has_none s (e ∷ past)) (candidates s past e)
    ∙ ap (filter (has_none s (e ∷ past))) (sym here)
    ∙ rest_dropped (is_below_max_active s (e ∷ past)) (width s (e ∷ past) q - stay_count s past e q c)
    (filter (waits s past) (open_on (e ∷ past) q c))
    (front_filter (is_below_max_active s (e ∷ past)) (waits s past) (open_on (e ∷ past) q c)
    (fronts_below_max_active s (e ∷ past) q c)) passes
  where
    here : filter (waits s past) (open_on (e ∷ past) q c) ≡ filter (is_on q c) (candidates s past e)
    here = turn_filters (waits s past) (is_on q c) (still_open (e ∷ past))

    passes : filter (is_below_max_active s (e ∷ past)) (filter (waits s past) (open_on (e ∷ past) q c))
        ≡ take (width s (e ∷ past) q - stay_count s past e q c) (filter (waits s past) (open_on (e ∷ past) q c))
    passes = ap (filter (is_below_max_active s (e ∷ past))) here
        ∙ turn_filters (is_below_max_active s (e ∷ past)) (is_on q c) (candidates s past e)
        ∙ ap (filter (is_on q c)) (sym (newly_are s past e)) ∙ newly_active_on s past e q c

-- ---- the count after an entry

pub active_count_goes_on : (s : Layout) (past : List Entry) (e : Entry) (q c : ℕ)
    → active_count s (e ∷ past) q c ≡ stay_count s past e q c + count_by (is_on q c) (newly_active s past e)
active_count_goes_on s past e q c =
    let newly = is_newly_active s past e in
    let stay : AllByRecursion (λ x. (is_active s (e ∷ past) x && is_active s past x) ≡ is_active s past x)
    (open_on (e ∷ past) q c)
    = on_each _ (e ∷ past) q c
    (All_each _ (queueings (e ∷ past)) (λ x live on. let stays = stays_active s past e x in grind arith)) in
    omega (
      arith,
      active_counted s (e ∷ past) q c,
      count_split (is_active s (e ∷ past)) (is_active s past) (open_on (e ∷ past) q c),
      count_by-same _ (is_active s past) (open_on (e ∷ past) q c) stay,
      count_by-filter (λ x. is_on q c x && newly x) (is_on q c) newly (still_open (e ∷ past)) (λ x. refl),
      count_by-filter (λ x. is_on q c x && newly x) newly (is_on q c) (still_open (e ∷ past))
          (λ x. flip (is_on q c x) (newly x)),
      ap (count_by (is_on q c)) (newly_of_open s past e),
    )

-- ---- those that stay active

pub stays_counted : (s : Layout) (past : List Entry) (e : Entry) → IsLegal s (e ∷ past) → (q c : ℕ)
    → stay_count s past e q c + one (ends_active_on s past e q c) ≡ active_count s past q c
stays_counted s past e legal q c =
    let p = is_active_on s past q c in
    let survivors = filter (survives past e) (still_open past) in
    omega (
      arith,
      count_by-filter p (is_on q c) (is_active s past) (still_open (e ∷ past)) (λ x. refl),
      count_by-filter p (is_on q c) (is_active s past) (still_open past) (λ x. refl) ∙ active_counted s past q c,
      ap (count_by p) (open_go_on s past e legal) ∙ count_append p survivors (option_to_list (opening past e)),
      count_by-none p (option_to_list (opening past e))
          (of_option _ (opening past e)
          (λ x is. ap (λ b. is_on q c x && b) (not_active_yet s past x (opening_number past e x is))
          ∙ and_false (is_on q c x))),
      sum_by-filter_both (survives past e) (is_ended past e) (λ y. refl) (λ y. cond (p y) 1 0) (still_open past),
      ap (count_by p) (one_ends s past e legal) ∙ count_option p (ending past e),
    )
