-- What becomes active after an entry that changes no width.
use Rattle.cmwq_pwq.specs.Common.{append-nil, ◌≡◌, ℕ, ◌+◌, ◌-◌, ◌<◌, ◌≤◌, Bool, true, false, ◌&&◌, ◌==◌, List, [], ◌∷◌}
use Rattle.cmwq_pwq.specs.Common.{◌++◌, length, filter, cond, nat_lt, refl, sym, ap, ap₂, ◌∙◌, subst, arith}
use Rattle.cmwq_pwq.specs.Common.{length-append, slice_set, if◌then◌else◌, AllByRecursion, list_any, has_number, lt-ltb}
use Rattle.cmwq_pwq.specs.Common.{le-ltb, append_assoc, length-set, Queueing, is_on, All_map, All_both, All_filter}
use Rattle.cmwq_pwq.specs.Common.{most_cpus}
use Rattle.cmwq_pwq.specs.Pwqs.{PwqState, place_of, count_at, count_of_same_pwq, is_waiting, is_other_waiting}
use Rattle.cmwq_pwq.specs.Pwqs.{pwqs_without_open, pwqs_with_open, AreBelowMaxActive, NoneWaitsAnew, Passes, IsPassed}
use Rattle.cmwq_pwq.specs.Pwqs.{IsBehind, AreBehind}
use Rattle.std.proofs.lemmas.Bool.{or_from, or_parts}
use Rattle.std.proofs.lemmas.List.Folds.{list_any-append}
use Rattle.cmwq_pwq.specs.Waiting.{IsFirstTaken, WaitingState}
use Rattle.cmwq_pwq.proofs.Kept.{rest_of_none}
use Rattle.cmwq_pwq.proofs.Passes.{count_set, on_parts, on_itself, passes_kept, passes_activated, way_now}

-- ---- the pass over a list of which nothing is below max_active

passes_none : (way : Queueing → Bool) (old : List ℕ) → Passes way [] old old [] []
passes_none way old = grind arith

-- the counts matter place by place
passes_as : (way : Queueing → Bool) (old new same : List ℕ) (xs rest taken : List Queueing)
    → Passes way xs old new rest taken → length same ≡ length new
    → ((q c : ℕ) → c < most_cpus → place_of q c < length old → count_at same q c ≡ count_at new q c)
    → Passes way xs old same rest taken
passes_as way old new same xs rest taken p many counts = grind arith

split_on : (done : List Queueing) (y : Queueing) (b tail : List Queueing) → done ++ (y ∷ b ++ tail) ≡ (done ++ y ∷ [])
    ++ (b ++ tail)
split_on done y b tail = sym (append_assoc done (y ∷ []) (b ++ tail))

module _ (way : Queueing → Bool) (wide : ℕ → ℕ) (old : List ℕ) (xs : List Queueing)
    (have : AreBelowMaxActive way wide old xs) where
  -- those after the width, as it is counted now, go on waiting
  pub keeps_behind : (done b tail : List Queueing) (new : List ℕ) (rest taken : List Queueing)
      → xs ≡ done ++ (b ++ tail) → length new ≡ length old → AreBehind wide new b → Passes way done old new rest taken
      → Passes way (done ++ b) old new (rest ++ b) taken
  keeps_behind done [] tail new rest taken split many behind p =
      subst (λ ys. Passes way ys old new (rest ++ []) taken) (sym (append-nil done))
      (subst (λ ys. Passes way done old new ys taken) (sym (append-nil rest)) p)
  keeps_behind done (y ∷ b) tail new rest taken split many behind p =
      let here = behind.0 in
      let there : place_of y.place.queue.0 y.place.cpu.0 < length old = rw (← many) here.counted in
      let not_below_max_active : way y ≡ false =
      way_now way old done y wide xs (b ++ tail) new rest taken have split p here.cpu there
      ∙ le-ltb (count_of_same_pwq new y) (wide y.place.queue.0) here.behind in
      let step = passes_kept way old done y new rest taken p not_below_max_active in
      let more =
      keeps_behind (done ++ y ∷ []) b tail new (rest ++ y ∷ []) taken (split ∙ split_on done y b tail) many behind.1
      step in
      subst (λ ys. Passes way ys old new (rest ++ y ∷ b) taken) (append_assoc done (y ∷ []) b)
      (subst (λ ys. Passes way ((done ++ y ∷ []) ++ b) old new ys taken) (append_assoc rest (y ∷ []) b) more)

  all_behind : AreBehind wide old xs → Passes way xs old old xs []
  all_behind behind = keeps_behind [] xs [] old [] [] (sym (append-nil xs)) refl behind (passes_none way old)

-- ---- an active queueing ends

on_sym : (x y : Queueing) → is_on x.place.queue.0 x.place.cpu.0 y ≡ is_on y.place.queue.0 y.place.cpu.0 x
on_sym x y = grind arith

abbrev pub one_less : List ℕ → Queueing → List ℕ
one_less counts x = slice_set counts (place_of x.place.queue.0 x.place.cpu.0) (count_of_same_pwq counts x - 1)

module _ (wide : ℕ → ℕ) (counts : List ℕ) (x : Queueing) (cpu : x.place.cpu.0 < most_cpus)
    (at : place_of x.place.queue.0 x.place.cpu.0 < length counts) (some : 0 < count_of_same_pwq counts x) where
  less_many : length (one_less counts x) ≡ length counts
  less_many = length-set counts (place_of x.place.queue.0 x.place.cpu.0) (count_of_same_pwq counts x - 1)

  less_at : (q c : ℕ) → c < most_cpus
      → count_at (one_less counts x) q c ≡ cond (is_on q c x) (count_of_same_pwq counts x - 1) (count_at counts q c)
  less_at q c less = count_set counts x (count_of_same_pwq counts x - 1) q c cpu less at

  -- elsewhere what is after stays after
  behind_elsewhere : (y : Queueing) → IsBehind wide counts y → is_on x.place.queue.0 x.place.cpu.0 y ≡ false
      → IsBehind wide (one_less counts x) y
  behind_elsewhere y is other = record {
    cpu = is.cpu;
    counted = rw less_many is.counted;
    behind = rw (less_at y.place.queue.0 y.place.cpu.0 is.cpu, sym (on_sym x y) ∙ other) is.behind;
  }

  -- where more than the width were active, those beside it stay after too
  behind_of_same_pwq : (y : Queueing) → wide x.place.queue.0 < count_of_same_pwq counts x → IsBehind wide counts y
      → IsBehind wide (one_less counts x) y
  behind_of_same_pwq y more is = by (is_on x.place.queue.0 x.place.cpu.0 y) refl
    where
      by : (b : Bool) → is_on x.place.queue.0 x.place.cpu.0 y ≡ b → IsBehind wide (one_less counts x) y
      by false other = behind_elsewhere y is other
      by true beside =
          let p = on_parts x.place.queue.0 x.place.cpu.0 y beside in
          let same : wide y.place.queue.0 ≡ wide x.place.queue.0 = ap wide p.0 in
          let left : wide y.place.queue.0 ≤ count_of_same_pwq counts x - 1 = omega arith in
          record {
            cpu = is.cpu;
            counted = rw less_many is.counted;
            behind = rw (less_at y.place.queue.0 y.place.cpu.0 is.cpu, sym (on_sym x y) ∙ beside) left;
          }

  module _ (way : Queueing → Bool) (xs : List Queueing) (have : AreBelowMaxActive way wide (one_less counts x) xs)
      (behind : AreBehind wide counts xs) where
    pub none_takes : (wide x.place.queue.0 < count_of_same_pwq counts x)
        → Passes way xs (one_less counts x) (one_less counts x) xs []
    none_takes more =
        all_behind way wide (one_less counts x) xs have
        (All_map (IsBehind wide counts) (IsBehind wide (one_less counts x)) xs (λ y is. behind_of_same_pwq y more is)
        behind)

    pub none_there : AllByRecursion (λ y. is_on x.place.queue.0 x.place.cpu.0 y ≡ false) xs
        → Passes way xs (one_less counts x) (one_less counts x) xs []
    none_there none =
        all_behind way wide (one_less counts x) xs have
        (All_both _ _ _ xs (λ y is other. behind_elsewhere y is other) behind none)

    -- the first that waits beside it takes its place
    pub first_takes : (rest : List Queueing) (y : Queueing) → count_of_same_pwq counts x ≤ wide x.place.queue.0
        → IsFirstTaken x.place.queue.0 x.place.cpu.0 xs rest y → Passes way xs (one_less counts x) counts rest (y ∷ [])
    first_takes rest y full first =
        subst (λ ys. Passes way ys (one_less counts x) counts rest (y ∷ [])) (sym whole)
        (subst (λ ys. Passes way ((first.before ++ y ∷ []) ++ first.after) (one_less counts x) counts ys (y ∷ []))
        (sym first.left) last)
      where
        C : List ℕ
        C = one_less counts x

        parts : (y.place.queue.0 ≡ x.place.queue.0) × (y.place.cpu.0 ≡ x.place.cpu.0)
        parts = on_parts x.place.queue.0 x.place.cpu.0 y first.is_there

        whole : xs ≡ (first.before ++ y ∷ []) ++ first.after
        whole = first.stood ∙ sym (append_assoc first.before (y ∷ []) first.after)

        all : AreBehind wide counts (first.before ++ y ∷ first.after)
        all = subst (AreBehind wide counts) first.stood behind

        ahead : (a b : List Queueing) → AreBehind wide counts (a ++ b) → AreBehind wide counts a
        ahead [] b h = tt
        ahead (z ∷ a) b h = (h.0, ahead a b h.1)

        later : (a b : List Queueing) → AreBehind wide counts (a ++ b) → AreBehind wide counts b
        later [] b h = h
        later (z ∷ a) b h = later a b h.1

        before_behind : AreBehind wide C first.before
        before_behind =
            All_both _ _ _ first.before (λ z is other. behind_elsewhere z is other)
            (ahead first.before (y ∷ first.after) all) first.none_before

        start : Passes way first.before C C first.before []
        start = keeps_behind way wide C xs have [] first.before (y ∷ first.after) C [] [] first.stood refl before_behind
            (passes_none way C)

        y_cpu : y.place.cpu.0 < most_cpus
        y_cpu = rw parts.1 cpu

        y_at : place_of y.place.queue.0 y.place.cpu.0 < length C
        y_at = rw (less_many, parts.0, parts.1) at

        of_same_pwq_less : count_of_same_pwq C y ≡ count_of_same_pwq counts x - 1
        of_same_pwq_less = less_at y.place.queue.0 y.place.cpu.0 y_cpu
            ∙ ap (λ b. cond b (count_of_same_pwq counts x - 1) (count_of_same_pwq counts y))
            (on_itself y.place.queue.0 y.place.cpu.0 x (sym parts.0) (sym parts.1))

        is_below_max_active : way y ≡ true
        is_below_max_active =
            let same : wide y.place.queue.0 ≡ wide x.place.queue.0 = ap wide parts.0 in
            let less : count_of_same_pwq C y < wide y.place.queue.0 = let is = of_same_pwq_less in omega arith in
            way_now way C first.before y wide xs first.after C first.before [] have first.stood start y_cpu y_at
            ∙ lt-ltb (count_of_same_pwq C y) (wide y.place.queue.0) less

        taken : Passes way (first.before ++ y ∷ []) C
            (slice_set C (place_of y.place.queue.0 y.place.cpu.0) (count_of_same_pwq C y + 1)) first.before (y ∷ [])
        taken = passes_activated way C first.before y C first.before [] start is_below_max_active y_cpu y_at

        back : (q c : ℕ) → c < most_cpus → (b : Bool) → is_on q c x ≡ b
            → count_at counts q c ≡ cond b (count_of_same_pwq C y + 1) (count_at C q c)
        back q c less true on =
            let p = on_parts q c x on in
            let same : count_of_same_pwq counts x ≡ count_at counts q c = ap₂ (count_at counts) p.0 p.1 in
            let is = of_same_pwq_less in omega arith
        back q c less false on =
            sym (less_at q c less ∙ ap (λ b. cond b (count_of_same_pwq counts x - 1) (count_at counts q c)) on)

        again : Passes way (first.before ++ y ∷ []) C counts first.before (y ∷ [])
        again = passes_as way C (slice_set C (place_of y.place.queue.0 y.place.cpu.0) (count_of_same_pwq C y + 1))
            counts (first.before ++ y ∷ []) first.before (y ∷ []) taken
            (sym less_many ∙ sym (length-set C (place_of y.place.queue.0 y.place.cpu.0) (count_of_same_pwq C y + 1)))
            (λ q c less here. back q c less (is_on q c x) refl
            ∙ (ap (λ b. cond b (count_of_same_pwq C y + 1) (count_at C q c))
            (ap₂ (λ n m. (n == q) && (m == c)) (sym parts.0) (sym parts.1))
            ∙ sym (count_set C y (count_of_same_pwq C y + 1) q c y_cpu less y_at)))

        last : Passes way ((first.before ++ y ∷ []) ++ first.after) C counts (first.before ++ first.after) (y ∷ [])
        last = keeps_behind way wide C xs have (first.before ++ y ∷ []) first.after [] counts first.before (y ∷ [])
            (whole ∙ ap (λ ys. (first.before ++ y ∷ []) ++ ys) (sym (append-nil first.after))) (sym less_many)
            (later first.before (y ∷ first.after) all).1 again

-- ---- the same of all that waits

length_split : (before : List Queueing) (y : Queueing) (after : List Queueing)
    → length (before ++ after) + 1 ≡ length (before ++ y ∷ after)
length_split before y after = let a = length-append before after in let b = length-append before (y ∷ after) in
    omega arith

module _ (wide : ℕ → ℕ) (l : PwqState) (x : Queueing) (cpu : x.place.cpu.0 < most_cpus)
    (at : place_of x.place.queue.0 x.place.cpu.0 < length l.counts) where
  module _ (active : is_waiting l x ≡ false) (some : 0 < count_of_same_pwq l.counts x)
      (behind : AreBehind wide l.counts l.waiting) where
    as_active : (new : PwqState) → IsPassed wide (record l { counts = one_less l.counts x }) new
        → IsPassed wide (pwqs_without_open l x) new
    as_active new p =
        subst (λ b. IsPassed wide (if b then record l { waiting = filter (is_other_waiting x.number) l.waiting }
        else record l { counts = one_less l.counts x }) new) (sym active) p

    pub ended_makes_way : (rest : List Queueing) (y : Queueing) → count_of_same_pwq l.counts x ≤ wide x.place.queue.0
        → IsFirstTaken x.place.queue.0 x.place.cpu.0 l.waiting rest y
        → IsPassed wide (pwqs_without_open l x)
        (record { items = l.items; counts = l.counts; waiting = rest; activated = y ∷ [] })
    ended_makes_way rest y full first =
        as_active (record { items = l.items; counts = l.counts; waiting = rest; activated = y ∷ [] }) (record {
          passes = λ way have. first_takes wide l.counts x cpu at some way l.waiting have behind rest y full first;
          many = sym (less_many wide l.counts x cpu at some);
          items = refl;
          sorted = ap (λ ys. length ys + 1) first.left
              ∙ (length_split first.before y first.after ∙ ap (λ ys. length ys) (sym first.stood));
        })

    ended_passed : ((way : Queueing → Bool) → AreBelowMaxActive way wide (one_less l.counts x) l.waiting
        → Passes way l.waiting (one_less l.counts x) (one_less l.counts x) l.waiting [])
        → IsPassed wide (pwqs_without_open l x)
        (record { items = l.items; counts = one_less l.counts x; waiting = l.waiting; activated = [] })
    ended_passed passes = grind arith

    pub ended_over_width : wide x.place.queue.0 < count_of_same_pwq l.counts x
        → IsPassed wide (pwqs_without_open l x)
        (record { items = l.items; counts = one_less l.counts x; waiting = l.waiting; activated = [] })
    ended_over_width more =
        ended_passed (λ way have. none_takes wide l.counts x cpu at some way l.waiting have behind more)

    pub ended_alone : AllByRecursion (λ y. is_on x.place.queue.0 x.place.cpu.0 y ≡ false) l.waiting
        → IsPassed wide (pwqs_without_open l x)
        (record { items = l.items; counts = one_less l.counts x; waiting = l.waiting; activated = [] })
    ended_alone none = ended_passed (λ way have. none_there wide l.counts x cpu at some way l.waiting have behind none)

  -- ---- one is opened

  module _ (before : PwqState) (same : length before.counts ≡ length l.counts) (passed : IsPassed wide before l) where
    there : place_of x.place.queue.0 x.place.cpu.0 < length before.counts
    there = rw same at

    shorter : (way : Queueing → Bool) → AreBelowMaxActive way wide before.counts (before.waiting ++ x ∷ [])
        → AreBelowMaxActive way wide before.counts before.waiting
    shorter way have =
        λ done y rest split. have done y (rest ++ x ∷ [])
        (ap (λ ys. ys ++ x ∷ []) split ∙ append_assoc done (y ∷ rest) (x ∷ []))

    way_last : (way : Queueing → Bool) → AreBelowMaxActive way wide before.counts (before.waiting ++ x ∷ [])
        → way x ≡ nat_lt (count_of_same_pwq l.counts x) (wide x.place.queue.0)
    way_last way have =
        way_now way before.counts before.waiting x wide (before.waiting ++ x ∷ []) [] l.counts l.waiting l.activated
        have refl (passed.passes way (shorter way have)) cpu there

    pub opened_active : count_of_same_pwq l.counts x < wide x.place.queue.0
        → IsPassed wide (pwqs_with_open before x)
        (record {
          items = l.items;
          counts =
              slice_set l.counts (place_of x.place.queue.0 x.place.cpu.0) (count_of_same_pwq l.counts x + 1);
          waiting =
              l.waiting;
          activated = l.activated ++ x ∷ [];
        })
    opened_active free = record {
      passes = λ way have. passes_activated way before.counts before.waiting x l.counts l.waiting l.activated
          (passed.passes way (shorter way have))
          (way_last way have ∙ lt-ltb (count_of_same_pwq l.counts x) (wide x.place.queue.0) free) cpu there;
      many = length-set l.counts (place_of x.place.queue.0 x.place.cpu.0) (count_of_same_pwq l.counts x + 1)
          ∙ passed.many;
      items = passed.items;
      sorted = let a = length-append l.activated (x ∷ []) in let b = length-append before.waiting (x ∷ []) in let c =
          passed.sorted in omega arith;
    }

    pub opened_waits : wide x.place.queue.0 ≤ count_of_same_pwq l.counts x
        → IsPassed wide (pwqs_with_open before x)
        (record { items = l.items; counts = l.counts; waiting = l.waiting ++ x ∷ []; activated = l.activated })
    opened_waits full = record {
      passes = λ way have. passes_kept way before.counts before.waiting x l.counts l.waiting l.activated
          (passed.passes way (shorter way have))
          (way_last way have ∙ le-ltb (count_of_same_pwq l.counts x) (wide x.place.queue.0) full);
      many = passed.many;
      items = passed.items;
      sorted = let a = length-append l.waiting (x ∷ []) in let b = length-append before.waiting (x ∷ []) in let c =
          passed.sorted in omega arith;
    }

-- none ends, or one that waited
pub nothing_ended : (wide : ℕ → ℕ) (l : PwqState) → AreBehind wide l.counts l.waiting
    → IsPassed wide l (record { items = l.items; counts = l.counts; waiting = l.waiting; activated = [] })
nothing_ended wide l behind = record {
  passes = λ way have. all_behind way wide l.counts l.waiting have behind;
  many = refl;
  items = refl;
  sorted = (let zero : length {A = Queueing} [] ≡ 0 = refl in omega arith);
}

pub waiting_ended : (wide : ℕ → ℕ) (l : PwqState) (x : Queueing) → is_waiting l x ≡ true
    → AreBehind wide l.counts l.waiting
    → IsPassed wide (pwqs_without_open l x)
    (record {
      items = l.items;
      counts = l.counts;
      waiting = filter (is_other_waiting x.number) l.waiting;
      activated =
          [];
    })
waiting_ended wide l x waits behind =
    subst (λ b. IsPassed wide (if b then record l { waiting = filter (is_other_waiting x.number) l.waiting }
    else record l { counts = one_less l.counts x })
    (record {
      items = l.items;
      counts = l.counts;
      waiting = filter (is_other_waiting x.number) l.waiting;
      activated = [];
    })) (sym waits)
    (nothing_ended wide (record l { waiting = filter (is_other_waiting x.number) l.waiting })
    (All_filter (IsBehind wide l.counts) (is_other_waiting x.number) l.waiting
    (All_map _ _ l.waiting (λ y is passes. is) behind)))

-- what the last pass made active doesn't matter
pub ended_as : (wide : ℕ → ℕ) (l : PwqState) (x : Queueing) (taken : List Queueing) (new : PwqState)
    → IsPassed wide (pwqs_without_open (record l { activated = taken }) x) new
    → IsPassed wide (pwqs_without_open l x) new
ended_as wide l x taken new p = grind arith

-- one that waits no more, where it was active
pub active_ended : (l : PwqState) (x : Queueing) → is_waiting l x ≡ false
    → record {
      items = l.items;
      counts = one_less l.counts x;
      waiting = filter (is_other_waiting x.number) l.waiting;
      activated = l.activated;
    } ≡ pwqs_without_open l x
active_ended l x fails = grind (arith, rest_of_none)

-- where it waits no more and was active, nothing else that waits is taken out
pub active_same : (items places : ℕ) (xs : List Queueing) (n : ℕ) (w : WaitingState)
    → list_any (has_number n) xs ≡ false
    → w ≡ record { items = items; places = places; queueings = filter (is_other_waiting n) xs }
    → w ≡ record { items = items; places = places; queueings = xs }
active_same items places xs n w fails is =
    is ∙ ap (λ ys. record { items = items; places = places; queueings = ys }) (sym (rest_of_none n xs fails))

-- ---- no item has one that waits only afterwards

pub none_of_rest : (q c : ℕ) (old new : List Queueing) (x : Queueing) → IsFirstTaken q c old new x
    → NoneWaitsAnew old new
none_of_rest q c old new x first i none = grind (arith, list_any-append, or_parts, or_from)

-- where one ends that is active, what waits is what waited
pub active_waiting : (l : PwqState) (x : Queueing) → is_waiting l x ≡ false
    → (pwqs_without_open l x).waiting ≡ l.waiting
active_waiting l x fails =
    ap (λ b. (if b then record l { waiting = filter (is_other_waiting x.number) l.waiting }
    else record l { counts = one_less l.counts x }).waiting) fails

pub rest_waiting : (l : PwqState) (x : Queueing) → is_waiting l x ≡ true
    → (pwqs_without_open l x).waiting ≡ filter (is_other_waiting x.number) l.waiting
rest_waiting l x waits =
    ap (λ b. (if b then record l { waiting = filter (is_other_waiting x.number) l.waiting }
    else record l { counts = one_less l.counts x }).waiting) waits

pub ended_waiting_as : (l : PwqState) (x : Queueing) (taken : List Queueing)
    → (pwqs_without_open l x).waiting ≡ (pwqs_without_open (record l { activated = taken }) x).waiting
ended_waiting_as l x taken = grind arith
