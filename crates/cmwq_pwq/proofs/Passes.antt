-- One step of the pass over what waits.
use Rattle.cmwq_pwq.specs.Common.{zero, suc, Some, append-nil, ◌≡◌, ◌≢◌, ℕ, ◌+◌, ◌*◌, ◌<◌, ◌≤◌, Bool, true, false, ◌&&◌}
use Rattle.cmwq_pwq.specs.Common.{◌==◌, List, [], ◌∷◌, ◌++◌, length, take, drop, cond, get_or, count_by, nat_lt, refl}
use Rattle.cmwq_pwq.specs.Common.{sym, ap, ap₂, ◌∙◌, subst, arith, slice_set, eqb-true, eq-eqb, lt-ltb, le-ltb}
use Rattle.cmwq_pwq.specs.Common.{and_parts, get_or-set_other, take_more, drop_more, take-append-drop, take_all}
use Rattle.cmwq_pwq.specs.Common.{get_or_default, length-set, filter-append, Queueing, is_on, count_by-cons, most_cpus}
use Rattle.std.specs.Prelude.{slice_get}
use Rattle.std.proofs.lemmas.Grind.{get_or-set_at}
use Rattle.std.proofs.lemmas.List.{append_assoc, length-append, length-take}
use Rattle.std.proofs.lemmas.Option.{get_or_from_slice_get, slice_get_within}
use Rattle.cmwq_pwq.specs.Pwqs.{place_of, count_at, count_of_same_pwq, AreBelowMaxActive, Passes}
use Rattle.cmwq_lemmas.proofs.Lists.{count_append}

pub count_by-one : {X : Type 0} (p : X → Bool) (x : X) → count_by p (x ∷ []) ≡ cond (p x) 1 0
count_by-one p x = let e = count_by-cons p x [] in
    e ∙ (let zero : cond (p x) 1 0 + count_by p [] ≡ cond (p x) 1 0 = omega arith in zero)

-- two places are one only for one queue on one CPU
pub one_place : (q c r d : ℕ) → c < most_cpus → d < most_cpus → place_of q c ≡ place_of r d → (q ≡ r) × (c ≡ d)
one_place q c r d k m h = (omega arith, omega arith)

pub on_parts : (q c : ℕ) (x : Queueing) → is_on q c x ≡ true → (x.place.queue.0 ≡ q) × (x.place.cpu.0 ≡ c)
on_parts q c x h = let both = and_parts (x.place.queue.0 == q) (x.place.cpu.0 == c) h in
    (eqb-true x.place.queue.0 q both.0, eqb-true x.place.cpu.0 c both.1)

pub on_itself : (q c : ℕ) (x : Queueing) → x.place.queue.0 ≡ q → x.place.cpu.0 ≡ c → is_on q c x ≡ true
on_itself q c x h k = ap₂ (λ a b. a && b) (eq-eqb x.place.queue.0 q h) (eq-eqb x.place.cpu.0 c k)

-- a count that is set, at each place
pub count_set : (counts : List ℕ) (x : Queueing) (n q c : ℕ) → x.place.cpu.0 < most_cpus → c < most_cpus
    → place_of x.place.queue.0 x.place.cpu.0 < length counts →
    count_at (slice_set counts (place_of x.place.queue.0 x.place.cpu.0) n) q c
    ≡ cond (is_on q c x) n (count_at counts q c)
count_set counts x n q c k m here = by (is_on q c x) refl
  where
    at : ℕ
    at = place_of x.place.queue.0 x.place.cpu.0

    by : (b : Bool) → is_on q c x ≡ b → count_at (slice_set counts (place_of x.place.queue.0 x.place.cpu.0) n) q c
        ≡ cond b n (count_at counts q c)
    by true h = let p = on_parts q c x h in
        get_or-set_at counts (place_of x.place.queue.0 x.place.cpu.0) (place_of q c) n 0
        (ap₂ place_of (sym p.0) (sym p.1)) here
    by false h =
        let apart : place_of q c ≢ place_of x.place.queue.0 x.place.cpu.0 = λ same.
        let p = one_place q c x.place.queue.0 x.place.cpu.0 m k same in
        let on = on_itself q c x (sym p.0) (sym p.1) in
        let bad : false ≡ true = sym h ∙ on in cc in
        get_or-set_other counts (place_of x.place.queue.0 x.place.cpu.0) (place_of q c) n 0 apart

module _ (way : Queueing → Bool) (old : List ℕ) (done : List Queueing) (x : Queueing) where
  pub passes_kept : (new : List ℕ) (rest taken : List Queueing) → Passes way done old new rest taken → way x ≡ false
      → Passes way (done ++ x ∷ []) old new (rest ++ x ∷ []) taken
  passes_kept new rest taken p h = grind (arith, filter-append, append-nil)

  pub passes_activated : (new : List ℕ) (rest taken : List Queueing) → Passes way done old new rest taken → way x ≡ true
      → x.place.cpu.0 < most_cpus → place_of x.place.queue.0 x.place.cpu.0 < length old →
      Passes way (done ++ x ∷ []) old
      (slice_set new (place_of x.place.queue.0 x.place.cpu.0) (count_of_same_pwq new x + 1)) rest (taken ++ x ∷ [])
  passes_activated new rest taken p h few there =
      grind (arith, filter-append, append-nil, length-set, count_append, count_by-one, count_set, on_parts)

  -- what the counts say now is whether it is below max_active
  pub way_now : (wide : ℕ → ℕ) (xs tail : List Queueing) (new : List ℕ) (rest taken : List Queueing)
      → AreBelowMaxActive way wide old xs → xs ≡ done ++ x ∷ tail → Passes way done old new rest taken
      → x.place.cpu.0 < most_cpus → place_of x.place.queue.0 x.place.cpu.0 < length old →
      way x ≡ nat_lt (count_of_same_pwq new x) (wide x.place.queue.0)
  way_now wide xs tail new rest taken have split p few there = grind arith

-- the step at place i of the list
module _ (way : Queueing → Bool) (wide : ℕ → ℕ) (old : List ℕ) (xs : List Queueing) (i : ℕ) (d : Queueing)
    (inside : i < length xs) (have : AreBelowMaxActive way wide old xs) where
  pub split_here : xs ≡ take i xs ++ get_or xs i d ∷ drop (i + 1) xs
  split_here = sym (take-append-drop i xs) ∙ ap (λ ys. take i xs ++ ys) (drop_more xs i d inside)

  pub pass_kept : (new : List ℕ) (rest taken : List Queueing) → Passes way (take i xs) old new rest taken
      → (get_or xs i d).place.cpu.0 < most_cpus
      → place_of (get_or xs i d).place.queue.0 (get_or xs i d).place.cpu.0 < length old →
      wide (get_or xs i d).place.queue.0 ≤ count_of_same_pwq new (get_or xs i d)
      → Passes way (take (i + 1) xs) old new (rest ++ get_or xs i d ∷ []) taken
  pass_kept new rest taken p few there full =
      let x = get_or xs i d in
      let not_below_max_active : way x ≡ false =
      way_now way old (take i xs) x wide xs (drop (i + 1) xs) new rest taken have split_here p few there
      ∙ le-ltb (count_of_same_pwq new x) (wide x.place.queue.0) full in
      subst (λ ys. Passes way ys old new (rest ++ x ∷ []) taken) (sym (take_more xs i d inside))
      (passes_kept way old (take i xs) x new rest taken p not_below_max_active)

  pub pass_activated : (new : List ℕ) (rest taken : List Queueing) → Passes way (take i xs) old new rest taken
      → (get_or xs i d).place.cpu.0 < most_cpus
      → place_of (get_or xs i d).place.queue.0 (get_or xs i d).place.cpu.0 < length old →
      count_of_same_pwq new (get_or xs i d) < wide (get_or xs i d).place.queue.0 →
      Passes way (take (i + 1) xs) old
      (slice_set new (place_of (get_or xs i d).place.queue.0 (get_or xs i d).place.cpu.0)
      (count_of_same_pwq new (get_or xs i d) + 1)) rest (taken ++ get_or xs i d ∷ [])
  pass_activated new rest taken p few there free =
      let x = get_or xs i d in
      let is_below_max_active : way x ≡ true =
      way_now way old (take i xs) x wide xs (drop (i + 1) xs) new rest taken have split_here p few there
      ∙ lt-ltb (count_of_same_pwq new x) (wide x.place.queue.0) free in
      subst (λ ys.
      Passes way ys old (slice_set new (place_of x.place.queue.0 x.place.cpu.0) (count_of_same_pwq new x + 1)) rest
      (taken ++ x ∷ [])) (sym (take_more xs i d inside))
      (passes_activated way old (take i xs) x new rest taken p is_below_max_active few there)

pub pass_all : (way : Queueing → Bool) (old new : List ℕ) (xs rest taken : List Queueing) (i : ℕ) → length xs ≤ i
    → Passes way (take i xs) old new rest taken → Passes way xs old new rest taken
pass_all way old new xs rest taken i past p = subst (λ ys. Passes way ys old new rest taken) (take_all i xs past) p

-- what is read at a place that is inside is the count there
pub read_count : (counts : List ℕ) (x : Queueing) (at n : ℕ) → at ≡ place_of x.place.queue.0 x.place.cpu.0
    → at < length counts → n ≡ get_or counts at n → n ≡ count_of_same_pwq counts x
read_count counts x at n place inside read =
    read ∙ (get_or_default counts at n 0 inside ∙ ap (λ j. get_or counts j 0) place)

pub place_inside : (q c queues n : ℕ) → q < queues → c < most_cpus → n ≡ most_cpus * queues → place_of q c < n
place_inside q c queues n h k many = omega arith

-- ---- where the pass stands: what was passed by and still waits is before what wasn't reached yet

get_behind : {X : Type 0} (rest zs : List X) (n k : ℕ) → n ≡ length rest + k → slice_get (rest ++ zs) n ≡ slice_get zs k
get_behind [] zs n k e = let same : n ≡ k = omega arith in ap (slice_get zs) same
get_behind (x ∷ rest) zs zero k e = absurd (omega arith)
get_behind (x ∷ rest) zs (suc n) k e = get_behind rest zs n k (omega arith)

cut_out : {X : Type 0} (rest : List X) (x : X) (zs : List X) (n : ℕ) → n ≡ length rest + 1
    → take (length rest) (rest ++ x ∷ zs) ++ drop n (rest ++ x ∷ zs) ≡ rest ++ zs
cut_out [] x zs n e = let one : n ≡ 1 = omega arith in ap (λ k. drop k (x ∷ zs)) one
cut_out (y ∷ rest) x zs zero e = absurd (omega arith)
cut_out (y ∷ rest) x zs (suc n) e = ap (λ ys. y ∷ ys) (cut_out rest x zs n (omega arith))

module _ (xs ys rest : List Queueing) (i : ℕ) (x : Queueing) (stands : ys ≡ rest ++ drop i xs)
    (at : slice_get xs i ≡ Some x) where
  pub reached : ys ≡ rest ++ x ∷ drop (i + 1) xs
  reached =
      stands ∙ ap (λ zs. rest ++ zs)
      (drop_more xs i x (slice_get_within xs i x at)
      ∙ ap (λ y. y ∷ drop (i + 1) xs) (get_or_from_slice_get xs i x x at))

  pub next_behind : slice_get ys (length rest) ≡ Some x
  next_behind = ap (λ zs. slice_get zs (length rest)) reached
      ∙ get_behind rest (x ∷ drop (i + 1) xs) (length rest) 0 (omega arith)

  pub passed_by : ys ≡ (rest ++ x ∷ []) ++ drop (i + 1) xs
  passed_by = reached ∙ sym (append_assoc rest (x ∷ []) (drop (i + 1) xs))

  -- what stands after it is what comes next
  pub next_after : slice_get ys (length rest + 1) ≡ slice_get xs (i + 1)
  next_after =
      let whole : xs ≡ (take i xs ++ x ∷ []) ++ drop (i + 1) xs =
      sym (take-append-drop i xs)
      ∙ (ap (λ zs. take i xs ++ zs)
      (drop_more xs i x (slice_get_within xs i x at)
      ∙ ap (λ y. y ∷ drop (i + 1) xs) (get_or_from_slice_get xs i x x at))
      ∙ sym (append_assoc (take i xs) (x ∷ []) (drop (i + 1) xs))) in
      let many : length (rest ++ x ∷ []) ≡ length rest + 1 = length-append rest (x ∷ []) in
      let same : length (take i xs ++ x ∷ []) ≡ i + 1 =
      (let taken = length-append (take i xs) (x ∷ []) in let min = length-take i xs in let less =
      slice_get_within xs i x at in omega arith) in
      ap (λ zs. slice_get zs (length rest + 1)) passed_by
      ∙ get_behind (rest ++ x ∷ []) (drop (i + 1) xs) (length rest + 1) 0 (omega arith)
      ∙ sym (ap (λ zs. slice_get zs (i + 1)) whole
      ∙ get_behind (take i xs ++ x ∷ []) (drop (i + 1) xs) (i + 1) 0 (omega arith))

  pub taken_out : (new : List Queueing)
      → ((k : ℕ) (y : Queueing) → slice_get ys k ≡ Some y → y.item.0 ≡ x.item.0 → new ≡ take k ys ++ drop (k + 1) ys)
      → new ≡ rest ++ drop (i + 1) xs
  taken_out new out = grind (arith, next_behind, drop, reached, cut_out)
