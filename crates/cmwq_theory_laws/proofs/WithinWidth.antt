-- Where an entry makes a queueing active, no more than the width are active there after it.
use Rattle.cmwq_theory_laws.specs.Common.{◌≡◌, ◌≤◌, ℕ, true, false, ◌||◌, List, [], ◌∷◌, count_by, ◌∙◌, arith}
use Rattle.cmwq_theory_laws.specs.Common.{nat_tests, AllByRecursion, Entry, Queueing, Layout, width, queueings, is_live}
use Rattle.cmwq_theory_laws.specs.Common.{still_open, is_active, is_below_max_active, is_newly_active, is_on, open_on}
use Rattle.cmwq_theory_laws.specs.Common.{OfEachEntry, All_map, All_filter, All_unfilter, count_by-same, active_go_on}
use Rattle.cmwq_theory_laws.specs.Common.{kept_front, fronts_below_max_active, ways_counted, active_on, first_active}
use Rattle.cmwq_theory_laws.specs.Headline.{WithinWidthAfter}
use Rattle.cmwq_theory_steps.proofs.Fronts.{front_less, count_or}

all_for : {A X : Type 0} (P : A → X → Type 0) (xs : List X) → ((a : A) → AllByRecursion (P a) xs)
    → AllByRecursion (λ x. (a : A) → P a x) xs
all_for P [] h = tt
all_for P (x ∷ xs) h = ((λ a. (h a).0), all_for P xs (λ a. (h a).1))

abbrev FewOn : Layout → List Entry → Entry → ℕ × ℕ → Queueing → Type 0
FewOn s past e p x = is_on p.0 p.1 x ≡ true → is_active s past x ≡ false → is_below_max_active s (e ∷ past) x ≡ true
    → count_by (is_active s (e ∷ past)) (open_on (e ∷ past) p.0 p.1) ≤ width s (e ∷ past) p.0

few_on : (s : Layout) (past : List Entry) (e : Entry) (p : ℕ × ℕ)
    → AllByRecursion (FewOn s past e p) (still_open (e ∷ past))
few_on s past e p =
    let kept = kept_front s past e p.0 p.1 (first_active s past p.0 p.1).front in
    let way = fronts_below_max_active s (e ∷ past) p.0 p.1 in
    let both =
    count_by-same (is_active s (e ∷ past)) (λ x. is_active s past x || is_below_max_active s (e ∷ past) x)
    (open_on (e ∷ past) p.0 p.1) (active_on s past e p.0 p.1)
    ∙ count_or (is_active s past) (is_below_max_active s (e ∷ past)) (open_on (e ∷ past) p.0 p.1) kept way in
    let counted = ways_counted s (e ∷ past) p.0 p.1 in
    All_unfilter _ (is_on p.0 p.1) (still_open (e ∷ past))
    (All_map _ (λ x. is_active s past x ≡ false → is_below_max_active s (e ∷ past) x ≡ true
    → count_by (is_active s (e ∷ past)) (open_on (e ∷ past) p.0 p.1) ≤ width s (e ∷ past) p.0)
    (open_on (e ∷ past) p.0 p.1)
    (λ x less fails passes. grind (arith, both, less fails passes, counted))
    (front_less (is_active s past) (is_below_max_active s (e ∷ past)) (open_on (e ∷ past) p.0 p.1) kept way))

few_after : (s : Layout) (past : List Entry) (e : Entry) → WithinWidthAfter s past e
few_after s past e =
    All_filter _ (is_newly_active s past e) (queueings (e ∷ past))
    (All_map _ _ (queueings (e ∷ past)) one
    (All_unfilter _ (is_live (e ∷ past)) (queueings (e ∷ past))
    (all_for (FewOn s past e) (still_open (e ∷ past)) (few_on s past e))))
  where
    one : (x : Queueing) → (is_live (e ∷ past) x ≡ true → (p : ℕ × ℕ) → FewOn s past e p x)
        → is_newly_active s past e x ≡ true
        → count_by (is_active s (e ∷ past)) (open_on (e ∷ past) x.place.queue.0 x.place.cpu.0) ≤ width s (e ∷ past)
        x.place.queue.0
    one x few newly =
        let on : is_on x.place.queue.0 x.place.cpu.0 x ≡ true = grind (arith, nat_tests) in
        let now = active_go_on s past e x in
        few (grind arith) (x.place.queue.0, x.place.cpu.0) on (grind arith) (grind arith)

pub within_width : (s : Layout) (past : List Entry) → OfEachEntry (WithinWidthAfter s) past
within_width s [] = tt
within_width s (e ∷ past) = (few_after s past e, within_width s past)
