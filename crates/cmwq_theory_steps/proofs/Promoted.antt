-- What an entry makes active on a queue and CPU.
use Rattle.cmwq_theory_steps.specs.Common.{◌≡◌, ◌-◌, ◌+◌, ℕ, suc, Bool, true, false, cond, not, ◌&&◌, List, [], ◌∷◌}
use Rattle.cmwq_theory_steps.specs.Common.{filter, count_by, take, nat_lt, refl, sym, ap, ap₂, ◌∙◌, arith}
use Rattle.cmwq_theory_steps.specs.Common.{AllByRecursion, Entry, Queueing, Layout, width, queueings, is_live}
use Rattle.cmwq_theory_steps.specs.Common.{still_open, is_active, is_below_max_active, is_newly_active, newly_active}
use Rattle.cmwq_theory_steps.specs.Common.{All_map, All_each, count_by-cons, count_by-none}
use Rattle.cmwq_theory_steps.proofs.Joined.{active_go_on, not_live}
use Rattle.cmwq_theory_steps.specs.Places.{is_on, open_on}
use Rattle.cmwq_theory_steps.specs.Activations.{waits, stay_count}
use Rattle.std.proofs.Math.Seq.{take-nil}
use Rattle.cmwq_lemmas.proofs.Filters.{filter_twice, filter_same}
use Rattle.cmwq_lemmas.proofs.Lists.{filter_all}
use Rattle.cmwq_lemmas.proofs.Truth.{and_false, and_true, flip}
use Rattle.cmwq_theory_steps.proofs.Fronts.{IsFront}
use Rattle.cmwq_theory_steps.proofs.Ranks.{is_below, Ranked}
use Rattle.cmwq_theory_steps.proofs.Active.{filter-ranked, on_each, ways, first_active, kept_front, open_ranked}

-- of a list whose front passes f, those that fail f and have a rank below w are the first of those that fail
module _ (f g : Queueing → Bool) (rank : Queueing → ℕ) (w : ℕ) where
  pub behind_front : (k : ℕ) (xs : List Queueing) → IsFront f xs → AllByRecursion (λ x. g x ≡ nat_lt (rank x) w) xs
      → Ranked rank k xs
      → filter (λ x. g x && not (f x)) xs ≡ take (w - (k + count_by f xs)) (filter (λ x. not (f x)) xs)
  behind_front k [] front each ranks = sym (take-nil (w - (k + count_by f [])))
  behind_front k (x ∷ xs) front each ranks = at (f x) refl (behind_front (suc k) xs front.1 each.1 ranks.1)
    where
      at : (b : Bool) → f x ≡ b
          → filter (λ y. g y && not (f y)) xs ≡ take (w - (suc k + count_by f xs)) (filter (λ y. not (f y)) xs)
          → filter (λ y. g y && not (f y)) (x ∷ xs)
          ≡ take (w - (k + count_by f (x ∷ xs))) (filter (λ y. not (f y)) (x ∷ xs))
      at true is rest =
          let same : w - (suc k + count_by f xs) ≡ w - (k + count_by f (x ∷ xs)) =
          grind (arith, count_by-cons f x xs) in
          ap (λ b. cond (g x && not b) (x ∷ filter (λ y. g y && not (f y)) xs) (filter (λ y. g y && not (f y)) xs)) is
          ∙ ap (λ b. cond b (x ∷ filter (λ y. g y && not (f y)) xs) (filter (λ y. g y && not (f y)) xs))
          (and_false (g x))
          ∙ rest ∙ ap (λ n. take n (filter (λ y. not (f y)) xs)) same
          ∙ sym (ap
          (λ b. take (w - (k + count_by f (x ∷ xs)))
          (cond (not b) (x ∷ filter (λ y. not (f y)) xs) (filter (λ y. not (f y)) xs))) is)
      at false is rest =
          let all : AllByRecursion (λ y. f y ≡ false) (x ∷ xs) = (is, front.0 is) in
          let same : w - k ≡ w - (k + count_by f (x ∷ xs)) = omega (arith, count_by-none f (x ∷ xs) all) in
          filter_same (λ y. g y && not (f y)) g (x ∷ xs)
          (All_map (λ y. f y ≡ false) _ (x ∷ xs) (λ y fails. ap (λ b. g y && not b) fails ∙ and_true (g y)) all)
          ∙ filter-ranked g rank w k (x ∷ xs) each ranks
          ∙ ap₂ take same
          (sym (filter_all (λ y. not (f y)) (x ∷ xs) (All_map _ _ (x ∷ xs) (λ y fails. ap not fails) all)))

-- of what is open, what is newly active is below max_active and wasn't active
pub newly_is : (s : Layout) (past : List Entry) (e : Entry) (x : Queueing) → is_live (e ∷ past) x ≡ true
    → is_newly_active s past e x ≡ (is_below_max_active s (e ∷ past) x && not (is_active s past x))
newly_is s past e x live = grind (arith, active_go_on s past e x)

-- what is newly active is open
pub newly_of_open : (s : Layout) (past : List Entry) (e : Entry)
    → newly_active s past e ≡ filter (is_newly_active s past e) (still_open (e ∷ past))
newly_of_open s past e =
    filter_same _ _ (queueings (e ∷ past))
    (All_each _ (queueings (e ∷ past)) (λ x. grind (arith, not_live s (e ∷ past) x)))
    ∙ sym (filter_twice (is_newly_active s past e) (is_live (e ∷ past)) (queueings (e ∷ past)))

-- filters in either order
pub turn_filters : (p q : Queueing → Bool) (xs : List Queueing) → filter p (filter q xs) ≡ filter q (filter p xs)
turn_filters p q xs = filter_twice p q xs ∙ filter_same _ _ xs (All_each _ xs (λ y. flip (q y) (p y)))
    ∙ sym (filter_twice q p xs)

pub newly_active_on : (s : Layout) (past : List Entry) (e : Entry) (q c : ℕ)
    → filter (is_on q c) (newly_active s past e)
    ≡ take (width s (e ∷ past) q - stay_count s past e q c) (filter (waits s past) (open_on (e ∷ past) q c))
newly_active_on s past e q c =
    let none : width s (e ∷ past) q - (0 + stay_count s past e q c) ≡ width s (e ∷ past) q - stay_count s past e q c =
    omega arith in
    ap (filter (is_on q c)) (newly_of_open s past e)
    ∙ turn_filters (is_on q c) (is_newly_active s past e) (still_open (e ∷ past))
    ∙ filter_same _ _ (open_on (e ∷ past) q c)
    (on_each _ (e ∷ past) q c (All_each _ (queueings (e ∷ past)) (λ x live on. newly_is s past e x live)))
    ∙ behind_front (is_active s past) (is_below_max_active s (e ∷ past))
    (λ x. count_by (is_below x) (open_on (e ∷ past) q c)) (width s (e ∷ past) q) 0 (open_on (e ∷ past) q c)
    (kept_front s past e q c (first_active s past q c).front) (ways s (e ∷ past) q c) (open_ranked (e ∷ past) q c)
    ∙ ap (λ n. take n (filter (waits s past) (open_on (e ∷ past) q c))) none
