-- What the nodes of each level keep is the first of all items below them.
use Rattle.std.proofs.Common.{◌≡◌, ◌⊎◌, inl, inr, ℕ, zero, suc, ◌+◌, ◌*◌, ◌/◌, ◌<◌, ◌≤◌, Bool, true, false, List, []}
use Rattle.std.proofs.Common.{◌∷◌, length, Option, Some, None, refl, subst, arith, ⊎_elim, cond}
use Rattle.std.proofs.lemmas.Bool.{cases_lt}
use Rattle.std.proofs.lemmas.Bool.Decides.{nat_tests}
use Rattle.std.proofs.lemmas.List.{get_or_past}
use Rattle.cmwq_timer.specs.declared.timer.Timer.{Timer}
use Rattle.cmwq_timer.specs.declared.candidate.Candidate.{Candidate}
use Rattle.cmwq_timer.specs.Due.{is_sooner, timer_may_fire}
use Rattle.cmwq_timer.specs.Rows.{TimerRows, timer_of, NoneMayFire, IsFirstToFire}
use Rattle.cmwq_timer.specs.Tournament.{Nodes, node_at, candidate_at, node_above, any_timer, sooner, IsSoonest, IsLevel}
use Rattle.cmwq_timer.specs.Tournament.{AreLevels, IsFirst, IsFirstUnder}
use Rattle.cmwq_timer.proofs.Soonest.{not_both, sooner_chain, sooner_on, row_past, node_past}

-- ---- the first of the items at one place or another

module _ (passes : Timer → Bool) (rows : TimerRows) (P Q R : ℕ → Type 0) (left : (i : ℕ) → P i → R i) (right : (i : ℕ)
    → Q i → R i) (parted : (i : ℕ) → R i → P i ⊎ Q i) where
  pub first_of_both : (o n : Option Candidate) → IsFirst passes rows P o → IsFirst passes rows Q n
      → IsFirst passes rows R (sooner o n)
  first_of_both None None a b = λ i t at p here. ⊎_elim (λ l. a i t at p l) (λ r. b i t at p r) (parted i here)
  first_of_both None (Some d) a b = record {
    booked = b.booked;
    passing = b.passing;
    has = right d.item.0 b.has;
    none_sooner = λ i t at p here. ⊎_elim (λ l. absurd (a i t at p l)) (λ r. b.none_sooner i t at p r) (parted i here);
  }
  first_of_both (Some c) None a b = record {
    booked = a.booked;
    passing = a.passing;
    has = left c.item.0 a.has;
    none_sooner = λ i t at p here. ⊎_elim (λ l. a.none_sooner i t at p l) (λ r. absurd (b i t at p r)) (parted i here);
  }
  first_of_both (Some c) (Some d) a b = by (is_sooner d.timer c.timer) refl
    where
      by : (s : Bool) → is_sooner d.timer c.timer ≡ s → IsFirst passes rows R (cond s (Some d) (Some c))
      by true is = record {
        booked = b.booked;
        passing = b.passing;
        has = right d.item.0 b.has;
        none_sooner =
            λ i t at p here. ⊎_elim (λ l. sooner_chain t c.timer d.timer (a.none_sooner i t at p l) is)
            (λ r. b.none_sooner i t at p r) (parted i here);
      }
      by false is = record {
        booked = a.booked;
        passing = a.passing;
        has = left c.item.0 a.has;
        none_sooner =
            λ i t at p here. ⊎_elim (λ l. a.none_sooner i t at p l)
            (λ r. sooner_on t c.timer d.timer (b.none_sooner i t at p r) is) (parted i here);
      }

-- ---- the levels

pub row_inside : (rows : TimerRows) (i : ℕ) (t : Timer) → timer_of rows i ≡ Some t → i < length rows
row_inside rows i t at =
    ⊎_elim (λ l. l) (λ g. absurd (not_both (timer_of rows i) t (get_or_past rows i None g) at))
    (cases_lt i (length rows))

pub rows_under : (rows : TimerRows) (k : ℕ) → IsFirstUnder any_timer rows 0 k (candidate_at rows k)
rows_under rows k = grind arith

module _ (rows : TimerRows) (l many : ℕ) (below : Nodes) (level : List (Option Candidate))
    (is : IsLevel many below level) (under : (k : ℕ) → IsFirstUnder any_timer rows l k (below k)) (past : (k : ℕ)
    → many ≤ k → below k ≡ None) where
  -- an item below a node that keeps none isn't booked
  unbooked : (i : ℕ) (t : Timer) → below (node_above l i) ≡ None → timer_of rows i ≡ Some t → ⊥
  unbooked i t none at =
      subst (λ o. IsFirstUnder any_timer rows l (node_above l i) o) none (under (node_above l i)) i t at refl refl

  -- and below another it isn't sooner than what the node keeps
  not_sooner : (i : ℕ) (t : Timer) (d : Candidate) → below (node_above l i) ≡ Some d → timer_of rows i ≡ Some t
      → is_sooner t d.timer ≡ false
  not_sooner i t d some at = grind arith

  inside : (k : ℕ) (o : Option Candidate) → IsSoonest below (16 * k) (16 * k + 16) o
      → IsFirstUnder any_timer rows (suc l) k o
  inside k None none =
      λ i t at p same. unbooked i t (none (node_above l i) (omega (arith, same)) (omega (arith, same))) at
  inside k (Some c) first =
      let from = first.from in let less = first.below in
      let it : IsFirstUnder any_timer rows l first.at (Some c) =
      subst (λ o. IsFirstUnder any_timer rows l first.at o) first.is (under first.at) in
      record {
        booked = it.booked;
        passing = refl;
        has = (let has : node_above l c.item.0 ≡ first.at = it.has in let k : node_above l c.item.0 / 16 ≡ k =
            omega (arith, has) in k);
        none_sooner = λ i t at p same. by i t at same (below (node_above l i)) refl;
      }
    where
      by : (i : ℕ) (t : Timer) → timer_of rows i ≡ Some t → node_above l i / 16 ≡ k → (o : Option Candidate)
          → below (node_above l i) ≡ o → is_sooner t c.timer ≡ false
      by i t at same None none = absurd (unbooked i t none at)
      by i t at same (Some d) some =
          sooner_on t c.timer d.timer (not_sooner i t d some at)
          (first.none_sooner (node_above l i) d (omega (arith, same)) (omega (arith, same)) some)

  outside : (k : ℕ) → length level ≤ k → IsFirstUnder any_timer rows (suc l) k None
  outside k far = let covers = is.covers in
      λ i t at p same. unbooked i t (past (node_above l i) (omega (arith, same))) at

  pub level_under : (k : ℕ) → IsFirstUnder any_timer rows (suc l) k (node_at level k)
  level_under k =
      ⊎_elim (λ low. inside k (node_at level k) (is.each k low)) (λ far. rw (node_past level k far) (outside k far))
      (cases_lt k (length level))

module _ (rows : TimerRows) (lows middles highs : List (Option Candidate)) (top : Option Candidate)
    (are : AreLevels rows lows middles highs top) where
  pub lows_under : (k : ℕ) → IsFirstUnder any_timer rows 1 k (node_at lows k)
  lows_under = level_under rows 0 (length rows) (candidate_at rows) lows are.low (rows_under rows) (row_past rows)

  pub middles_under : (k : ℕ) → IsFirstUnder any_timer rows 2 k (node_at middles k)
  middles_under = level_under rows 1 (length lows) (node_at lows) middles are.middle lows_under (node_past lows)

  pub highs_under : (k : ℕ) → IsFirstUnder any_timer rows 3 k (node_at highs k)
  highs_under = level_under rows 2 (length middles) (node_at middles) highs are.high middles_under (node_past middles)

  pub last_under : (k : ℕ) → IsFirstUnder any_timer rows 4 k (node_at (top ∷ []) k)
  last_under = level_under rows 3 (length highs) (node_at highs) (top ∷ []) are.last highs_under (node_past highs)

-- ---- the search below a node

pub above_le : (level i : ℕ) → node_above level i ≤ i
above_le zero i = omega arith
above_le (suc l) i = let h = above_le l i in omega (arith, h)

module _ (rows : TimerRows) (level node now : ℕ) (holds : List ℕ) where
  later : (t c : Timer) → is_sooner t c ≡ false → now < c.due → timer_may_fire now holds t ≡ true → ⊥
  later t c = grind (arith, nat_tests)

  pub none_due_yet : (c : Candidate) → IsFirstUnder any_timer rows level node (Some c) → now < c.timer.due
      → IsFirstUnder (timer_may_fire now holds) rows level node None
  none_due_yet c first less = λ i t at p here. later t c.timer (first.none_sooner i t at refl here) less p

pub one_row_held : (rows : TimerRows) (node now : ℕ) (holds : List ℕ) (c : Candidate)
    → IsFirstUnder any_timer rows 0 node (Some c) → timer_may_fire now holds c.timer ≡ false
    → IsFirstUnder (timer_may_fire now holds) rows 0 node None
one_row_held rows node now holds c first not_now = grind arith

-- the items below so many nodes of the level below
abbrev pub IsBelowNodes : ℕ → ℕ → ℕ → ℕ → Type 0
IsBelowNodes level lo hi i = (lo ≤ node_above level i) × (node_above level i < hi)

abbrev pub IsFirstBelow : (Timer → Bool) → TimerRows → ℕ → ℕ → ℕ → Option Candidate → Type 0
IsFirstBelow passes rows level lo hi o = IsFirst passes rows (IsBelowNodes level lo hi) o

pub first_below_more : (passes : Timer → Bool) (rows : TimerRows) (level lo k : ℕ) (o n : Option Candidate) → lo ≤ k
    → IsFirstBelow passes rows level lo k o → IsFirstUnder passes rows level k n
    → IsFirstBelow passes rows level lo (k + 1) (sooner o n)
first_below_more passes rows level lo k o n up a b =
    first_of_both passes rows (IsBelowNodes level lo k) (λ i. node_above level i ≡ k) (IsBelowNodes level lo (k + 1))
    (λ i h. (h.0, wider (node_above level i) h.1))
    (λ i h. (from (node_above level i) h, at_end (node_above level i) h))
    (λ i h. parted (node_above level i) h.0 h.1)
    o n a b
  where
    wider : (j : ℕ) → j < k → j < k + 1
    wider j h = omega arith

    from : (j : ℕ) → j ≡ k → lo ≤ j
    from j h = omega arith

    at_end : (j : ℕ) → j ≡ k → j < k + 1
    at_end j h = omega arith

    parted : (j : ℕ) → lo ≤ j → j < k + 1 → ((lo ≤ j) × (j < k)) ⊎ (j ≡ k)
    parted j a b = ⊎_elim (λ l. inl (a, l)) (λ g. inr (omega arith)) (cases_lt j k)

-- ---- the first of all

pub above_all : (i : ℕ) → i < 65536 → node_above 4 i ≡ 0
above_all i few = omega arith

module _ (rows : TimerRows) (few : length rows < 65536) (now : ℕ) (holds : List ℕ) where
  under_last : (i : ℕ) (t : Timer) → timer_of rows i ≡ Some t → node_above 4 i ≡ 0
  under_last i t at = let l = row_inside rows i t at in above_all i (omega arith)

  pub first_fires : (c : Candidate) → IsFirstUnder (timer_may_fire now holds) rows 4 0 (Some c)
      → IsFirstToFire now holds rows c.item.0
  first_fires c first = grind (arith, under_last)

  pub none_fires : IsFirstUnder (timer_may_fire now holds) rows 4 0 None → NoneMayFire now holds rows
  none_fires none = λ i t may. none i t may.0 may.1 (under_last i t may.0)
