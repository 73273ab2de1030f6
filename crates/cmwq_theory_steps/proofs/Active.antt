-- The active queueings are the first of the open ones, as many as there were and are, or as are within the width.
use Rattle.cmwq_theory_steps.specs.Common.{◌≡◌, ◌≤◌, ◌-◌, ◌+◌, ℕ, suc, min, max, Bool, true, false, ◌&&◌, ◌||◌, List}
use Rattle.cmwq_theory_steps.specs.Common.{[], ◌∷◌, ◌++◌, length, filter, count_by, take, nat_lt, option_to_list, refl}
use Rattle.cmwq_theory_steps.specs.Common.{sym, ap, ap₂, ◌∙◌, arith, zero-add, subst, le-ltb, nat_tests, length-take}
use Rattle.cmwq_theory_steps.specs.Common.{filter-append, AllByRecursion, Entry, Queueing, Layout, width, queueings}
use Rattle.cmwq_theory_steps.specs.Common.{opening, is_live, still_open, is_active, is_ahead, is_below_max_active}
use Rattle.cmwq_theory_steps.specs.Common.{All_map, All_each, All_filter, count_by-filter, count_by-none}
use Rattle.cmwq_theory_steps.proofs.Rising.{IsBelow, queueings_below, open_rise, rising_filter, opening_number}
use Rattle.cmwq_theory_steps.proofs.Opens.{open_before}
use Rattle.cmwq_theory_steps.proofs.Joined.{active_go_on, not_live}
use Rattle.cmwq_theory_steps.proofs.Lemmas.{add-one, all_kept, count_append, count_by-same, filter_same, filter_twice}
use Rattle.cmwq_theory_steps.proofs.Lemmas.{flip, length-filter, take_all}
use Rattle.cmwq_theory_steps.specs.Places.{is_on, open_on, active_ended, active_count}
use Rattle.cmwq_theory_steps.proofs.Fronts.{IsFront, front_filter, front_append, front_same, front_or, front_taken}
use Rattle.cmwq_theory_steps.proofs.Fronts.{count_or, count_split}
use Rattle.cmwq_theory_steps.proofs.Ranks.{is_below, Ranked, ranked_of}
use Rattle.cmwq_lemmas.proofs.Lists.{of_option}

-- ---- what is below max_active is a front, as long as the queue is wide

-- the test passes those with fewer than w before them, where k stand before the list
pub filter-ranked : (f : Queueing → Bool) (rank : Queueing → ℕ) (w k : ℕ) (xs : List Queueing)
    → AllByRecursion (λ x. f x ≡ nat_lt (rank x) w) xs → Ranked rank k xs → filter f xs ≡ take (w - k) xs
filter-ranked f rank w k [] each h = sym (take_all (w - k) [] (omega arith))
filter-ranked f rank w k (x ∷ xs) each h =
    let more : take (w - suc k + 1) (x ∷ xs) ≡ x ∷ take (w - suc k) xs = rw add-one refl in
    let nothing : take 0 (x ∷ xs) ≡ [] = refl in
    let nothing_later : take 0 xs ≡ [] = refl in
    grind (arith, nat_tests, filter-ranked f rank w (suc k) xs each.1 h.1, each.0, h.0)

front-ranked : (f : Queueing → Bool) (rank : Queueing → ℕ) (w k : ℕ) (xs : List Queueing)
    → AllByRecursion (λ x. f x ≡ nat_lt (rank x) w) xs → Ranked rank k xs → IsFront f xs
front-ranked f rank w k [] each h = tt
front-ranked f rank w k (x ∷ xs) each h = (
  (λ none. beyond (suc k) xs (grind (arith, nat_tests, each.0, h.0)) each.1 h.1),
  front-ranked f rank w (suc k) xs each.1 h.1,
)
  where
    beyond : (j : ℕ) (ys : List Queueing) → w ≤ j → AllByRecursion (λ y. f y ≡ nat_lt (rank y) w) ys → Ranked rank j ys
        → AllByRecursion (λ y. f y ≡ false) ys
    beyond j [] less same ranks = tt
    beyond j (y ∷ ys) less same ranks =
        (same.0 ∙ ap (λ n. nat_lt n w) ranks.0 ∙ le-ltb j w less, beyond (suc j) ys (omega arith) same.1 ranks.1)

-- of what is on a queue and CPU, the older open ones there are those below it
pub count_ahead : (past : List Entry) (q c : ℕ) (x : Queueing) → is_on q c x ≡ true
    → count_by (is_ahead x) (still_open past) ≡ count_by (is_below x) (open_on past q c)
count_ahead past q c x on =
    count_by-filter (is_ahead x) (is_on q c) (is_below x) (still_open past) (λ y. grind (arith, nat_tests))

pub open_ranked : (past : List Entry) (q c : ℕ)
    → Ranked (λ x. count_by (is_below x) (open_on past q c)) 0 (open_on past q c)
open_ranked past q c =
    ranked_of (λ x. count_by (is_below x) (open_on past q c)) 0 (open_on past q c)
    (rising_filter (is_on q c) (still_open past) (open_rise past))
    (All_each _ (open_on past q c) (λ x. sym (zero-add (count_by (is_below x) (open_on past q c)))))

-- what holds of each open queueing on a queue and CPU
pub on_each : (P : Queueing → Type 0) (past : List Entry) (q c : ℕ)
    → AllByRecursion (λ x. is_live past x ≡ true → is_on q c x ≡ true → P x) (queueings past)
    → AllByRecursion P (open_on past q c)
on_each P past q c h =
    All_filter P (is_on q c) (still_open past)
    (All_filter (λ x. is_on q c x ≡ true → P x) (is_live past) (queueings past) h)

pub ways : (s : Layout) (past : List Entry) (q c : ℕ)
    → AllByRecursion
    (λ x. is_below_max_active s past x ≡ nat_lt (count_by (is_below x) (open_on past q c)) (width s past q))
    (open_on past q c)
ways s past q c =
    on_each _ past q c
    (All_each _ (queueings past)
    (λ x live on. ap₂ (λ n w. nat_lt n w) (count_ahead past q c x on)
    (ap (width s past) (let queue : x.place.queue.0 ≡ q = grind (arith, nat_tests) in queue))))

pub fronts_below_max_active : (s : Layout) (past : List Entry) (q c : ℕ)
    → IsFront (is_below_max_active s past) (open_on past q c)
fronts_below_max_active s past q c =
    front-ranked (is_below_max_active s past) (λ x. count_by (is_below x) (open_on past q c)) (width s past q) 0
    (open_on past q c) (ways s past q c) (open_ranked past q c)

pub length-count : {X : Type 0} (f : X → Bool) (xs : List X) → count_by f xs ≡ length (filter f xs)
length-count f xs = sym (length-filter f xs)

pub ways_counted : (s : Layout) (past : List Entry) (q c : ℕ) → count_by (is_below_max_active s past) (open_on past q c)
    ≡ min (length (open_on past q c)) (width s past q)
ways_counted s past q c =
    let first =
    filter-ranked (is_below_max_active s past) (λ x. count_by (is_below x) (open_on past q c)) (width s past q) 0
    (open_on past q c) (ways s past q c) (open_ranked past q c) in
    length-count (is_below_max_active s past) (open_on past q c) ∙ ap length first
    ∙ length-take (width s past q - 0) (open_on past q c) ∙ omega arith

-- ---- what was active is a front of what is open after an entry

-- what is open after an entry: what was open and still is, then what the entry opens
open_on_more : (past : List Entry) (e : Entry) (q c : ℕ)
    → open_on (e ∷ past) q c ≡ filter (is_live (e ∷ past)) (open_on past q c)
    ++ filter (λ x. is_live (e ∷ past) x && is_on q c x) (option_to_list (opening past e))
unfolding queueings
open_on_more past e q c =
    filter_twice (is_on q c) (is_live (e ∷ past)) (queueings past ++ option_to_list (opening past e))
    ∙ filter-append (λ x. is_live (e ∷ past) x && is_on q c x) (queueings past) (option_to_list (opening past e))
    ∙ ap (λ xs. xs ++ filter (λ x. is_live (e ∷ past) x && is_on q c x) (option_to_list (opening past e)))
    (filter_same _ (λ x. (is_live past x && is_on q c x) && is_live (e ∷ past) x) (queueings past)
    (All_map (IsBelow (length past)) _ (queueings past)
    (λ x less. still (is_live past x) (is_live (e ∷ past) x) (is_on q c x)
    (open_before e past x.item.0 x.number less)) (queueings_below past))
    ∙ sym (filter_twice (is_live (e ∷ past)) (λ x. is_live past x && is_on q c x) (queueings past))
    ∙ ap (filter (is_live (e ∷ past))) (sym (filter_twice (is_on q c) (is_live past) (queueings past))))
  where
    still : (a b o : Bool) → (b ≡ true → a ≡ true) → (b && o) ≡ ((a && o) && b)
    still a b o h = grind arith

pub not_active_yet : (s : Layout) (past : List Entry) (x : Queueing) → x.number ≡ length past
    → is_active s past x ≡ false
not_active_yet s past x number =
    not_live s past x (let young : nat_lt x.number (length past) ≡ false = grind (arith, nat_tests) in grind arith)

opened_inactive : (s : Layout) (past : List Entry) (e : Entry) (f : Queueing → Bool)
    → AllByRecursion (λ x. is_active s past x ≡ false) (filter f (option_to_list (opening past e)))
opened_inactive s past e f =
    all_kept _ f (option_to_list (opening past e))
    (of_option _ (opening past e) (λ x is. not_active_yet s past x (opening_number past e x is)))

pub kept_front : (s : Layout) (past : List Entry) (e : Entry) (q c : ℕ) → IsFront (is_active s past) (open_on past q c)
    → IsFront (is_active s past) (open_on (e ∷ past) q c)
kept_front s past e q c h = subst (IsFront (is_active s past)) (sym (open_on_more past e q c))
    (front_append (is_active s past) (filter (is_live (e ∷ past)) (open_on past q c)) _
    (front_filter (is_active s past) (is_live (e ∷ past)) (open_on past q c) h) (opened_inactive s past e _))

kept_counted : (s : Layout) (past : List Entry) (e : Entry) (q c : ℕ)
    → count_by (is_active s past) (open_on (e ∷ past) q c)
    ≡ count_by (is_active s past) (open_on past q c) - active_ended s past e q c
kept_counted s past e q c =
    let opened = filter (λ x. is_live (e ∷ past) x && is_on q c x) (option_to_list (opening past e)) in
    omega (
      arith,
      ap (count_by (is_active s past)) (open_on_more past e q c),
      count_append (is_active s past) (filter (is_live (e ∷ past)) (open_on past q c)) opened,
      count_by-none (is_active s past) opened (opened_inactive s past e _),
      count_by-filter _ (is_live (e ∷ past)) (is_active s past) (open_on past q c)
          (λ x. flip (is_active s past x) (is_live (e ∷ past) x)),
      count_split (is_active s past) (is_live (e ∷ past)) (open_on past q c),
    )

-- ---- the law

pub active_on : (s : Layout) (past : List Entry) (e : Entry) (q c : ℕ)
    → AllByRecursion (λ x. is_active s (e ∷ past) x ≡ (is_active s past x || is_below_max_active s (e ∷ past) x))
    (open_on (e ∷ past) q c)
active_on s past e q c =
    on_each _ (e ∷ past) q c
    (All_each _ (queueings (e ∷ past))
    (λ x live on. active_go_on s past e x ∙ ap (λ b. b && (is_active s past x || is_below_max_active s (e ∷ past) x))
    live))

pub record FirstActive (s : Layout) (past : List Entry) (q c : ℕ) : Type 0 where
  pub front : IsFront (is_active s past) (open_on past q c)
  pub count : count_by (is_active s past) (open_on past q c) ≡ active_count s past q c

pub first_active : (s : Layout) (past : List Entry) (q c : ℕ) → FirstActive s past q c
unfolding queueings active_count is_active
first_active s [] q c = record { front = tt; count = refl }
first_active s (e ∷ past) q c =
    let before = first_active s past q c in
    let kept = kept_front s past e q c before.front in
    record {
      front = front_same (λ x. is_active s past x || is_below_max_active s (e ∷ past) x) (is_active s (e ∷ past))
          (open_on (e ∷ past) q c) (active_on s past e q c)
          (front_or _ _ (open_on (e ∷ past) q c) kept (fronts_below_max_active s (e ∷ past) q c));
      count = count_by-same (is_active s (e ∷ past)) (λ x. is_active s past x || is_below_max_active s (e ∷ past) x)
          (open_on (e ∷ past) q c) (active_on s past e q c)
          ∙ count_or (is_active s past) (is_below_max_active s (e ∷ past)) (open_on (e ∷ past) q c) kept
          (fronts_below_max_active s (e ∷ past) q c)
          ∙ ap₂ max (kept_counted s past e q c ∙ ap (λ n. n - active_ended s past e q c) before.count)
          (ways_counted s (e ∷ past) q c);
    }

pub active_counted : (s : Layout) (past : List Entry) (q c : ℕ) → count_by (is_active s past) (open_on past q c)
    ≡ active_count s past q c
active_counted s past q c = (first_active s past q c).count

pub active_are_first : (s : Layout) (past : List Entry) (q c : ℕ) → filter (is_active s past) (open_on past q c)
    ≡ take (active_count s past q c) (open_on past q c)
active_are_first s past q c = let first = first_active s past q c in
    front_taken (is_active s past) (open_on past q c) first.front ∙ ap (λ n. take n (open_on past q c)) first.count
