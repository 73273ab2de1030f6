-- All places of a layout, and those of them that had queueings.
use Rattle.std.proofs.Common.{◌≡◌, ℕ, zero, suc, ◌+◌, ◌*◌, ◌<◌, ◌≤◌, Bool, true, false, cond, List, [], ◌∷◌, ◌++◌}
use Rattle.std.proofs.Common.{length}
use Rattle.std.proofs.Common.{get_or, filter, map, Some, None, option_to_list, refl, sym, ap, ap₂, ◌∙◌, subst}
use Rattle.std.proofs.Common.{append_assoc, append-nil, arith, length-append, take}
use Rattle.std.specs.Prelude.{IsTrue, flat_map}
use Rattle.std.specs.List.{AllByRecursion, range_with_len}
use Rattle.std.specs.Option.{option_map_or}
use Rattle.std.proofs.lemmas.Bool.Decides.{nat_tests}
use Rattle.std.proofs.lemmas.List.{length-map, map-append}
use Rattle.std.proofs.lemmas.List.Elements.{filter-append, filter_more}
use Rattle.std.proofs.lemmas.List.FromFn.{length-range_with_len, map-range_with_len_more}
use Rattle.std.proofs.lemmas.List.Concat.{flat_map-cons}
use Rattle.std.proofs.lemmas.Grind.{flat_map-append}
use Rattle.cmwq_lemmas.proofs.Lists.{All_append, filter_shorter}
use Rattle.cmwq_lemmas.proofs.Passing.{last_any}
use Rattle.cmwq_model.specs.declared.entry.Entry.{Entry}
use Rattle.cmwq_model.specs.declared.record.Place.{Place}
use Rattle.cmwq_model.specs.declared.record.Queueing.{Queueing}
use Rattle.cmwq_model.proofs.Limits.{limits_of}
use Rattle.cmwq_model.specs.Prelude.{Layout, is_at, is_layout, most_cpus, most_queues, queueings}
use Rattle.cmwq_chart.specs.declared.levels.Level.{Level}
use Rattle.cmwq_chart.specs.Levels.{all_places, has_queueings, is_of_place, place_on, places_of_queue, places_of}
use Rattle.cmwq_chart.specs.Levels.{IsPlaceOf}
use Rattle.cmwq_chart.specs.Levels.{level_number, level_number_of, most_places, level_ended, levels_ended_by}
use Rattle.cmwq_chart.specs.Levels.{levels_ended}
use Rattle.cmwq_chart.specs.Levels.{level_until, levels_left, levels_of}
use Rattle.cmwq_chart.specs.Marks.{AreMarks, IsMarked}
use Rattle.cmwq_chart.proofs.Marked.{marked}
use Rattle.cmwq_chart.proofs.Steps.{range_more}
use Rattle.cmwq_chart_levels.specs.declared.seen.Seen.{Seen}
use Rattle.cmwq_chart_levels.specs.Seen.{IsSeen, is_used, place_in, is_level_used}

-- ---- all places

of_queue : (s : Layout) (q c n : ℕ) → c + n ≤ most_cpus → q < length s.queues
    → AllByRecursion (IsPlaceOf s) (map (place_on q) (range_with_len c n))
of_queue s q c zero few h = tt
of_queue s q c (suc n) few h = ((h, omega arith), of_queue s q (c + 1) n (omega arith) h)

of_queues : (s : Layout) (q n : ℕ) → s.cpus ≤ most_cpus → q + n ≤ length s.queues
    → AllByRecursion (IsPlaceOf s) (flat_map (places_of_queue s) (range_with_len q n))
of_queues s q zero few h = tt
of_queues s q (suc n) few h =
    subst (AllByRecursion (IsPlaceOf s)) (sym (flat_map-cons (places_of_queue s) q (range_with_len (q + 1) n)))
    (All_append (IsPlaceOf s) (places_of_queue s q) _ (of_queue s q 0 s.cpus (omega arith) (omega arith))
    (of_queues s (q + 1) n few (omega arith)))

pub all_inside : (s : Layout) → IsTrue (is_layout s) → AllByRecursion (IsPlaceOf s) (all_places s)
all_inside s inside = of_queues s 0 (length s.queues) (limits_of s inside).cpus.1 (omega arith)

many_of_queues : (s : Layout) (q n : ℕ) → length (flat_map (places_of_queue s) (range_with_len q n)) ≡ n * s.cpus
many_of_queues s q zero = omega arith
many_of_queues s q (suc n) =
    let later = many_of_queues s (q + 1) n in
    let first : length (places_of_queue s q) ≡ s.cpus =
    length-map (range_with_len 0 s.cpus) (place_on q) ∙ length-range_with_len 0 s.cpus in
    ap length (flat_map-cons (places_of_queue s) q (range_with_len (q + 1) n))
    ∙ length-append (places_of_queue s q) (flat_map (places_of_queue s) (range_with_len (q + 1) n))
    ∙ omega (arith, later, first)

many_places : (m n : ℕ) → m ≤ 255 → n ≤ 64 → m * n ≤ 16320
many_places m n a b = grind arith

pub all_few : (s : Layout) (u : Place → Bool) → IsTrue (is_layout s) → length (filter u (all_places s)) ≤ most_places
all_few s u inside =
    let all = many_of_queues s 0 (length s.queues) in
    let limits = limits_of s inside in
    let most = many_places (length s.queues) s.cpus limits.queues.1 limits.cpus.1 in
    let fewer = filter_shorter u (all_places s) in
    omega (arith, all, most, fewer)

-- ---- those that are marked

module _ (xs : List Queueing) (used : List Bool) (marks : AreMarks level_number_of xs most_places used) where
  number_is : (p : Place) → p.cpu.0 < most_cpus → (x : Queueing)
      → is_at (level_number_of x) (level_number p) ≡ is_of_place p x
  number_is p here x = grind (arith, nat_tests)

  used_is : (p : Place) → p.queue.0 < most_queues → p.cpu.0 < most_cpus → is_used used p ≡ has_queueings xs p
  used_is p queue here =
      let k = level_number p in
      let less : level_number p < most_places = omega arith in
      ap (λ o. option_map_or (λ b. b) o false) (marks.1 (level_number p) less)
      ∙ marked level_number_of (is_of_place p) xs most_places (level_number p) used _ marks less (number_is p here)
      (marks.1 (level_number p) less)

  uses_are : (s : Layout) → length s.queues ≤ most_queues → (ps : List Place) → AllByRecursion (IsPlaceOf s) ps
      → filter (is_used used) ps ≡ filter (has_queueings xs) ps
  uses_are s few [] inside = refl
  uses_are s few (p ∷ ps) inside = ap₂ (λ b qs. cond b (p ∷ qs) qs) (used_is p (omega (arith, inside.0.0)) inside.0.1)
      (uses_are s few ps inside.1)

  pub used_are : (s : Layout) → IsTrue (is_layout s) → filter (is_used used) (all_places s) ≡ places_of s xs
  unfolding places_of
  used_are s inside = uses_are s (limits_of s inside).queues.1 (all_places s) (all_inside s inside)

-- one queueing more
pub one_opened : (xs : List Queueing) (x : Queueing) (old new : List Bool)
    → AreMarks level_number_of xs most_places old → IsMarked old new (level_number_of x)
    → AreMarks level_number_of (xs ++ x ∷ []) most_places new
one_opened xs x old new are more = (
  more.0 ∙ are.0,
  λ k h. more.1 k (rw are.0 h) ∙ rw (are.1 k h) refl
      ∙ ap Some (sym (last_any (λ z. is_at (level_number_of z) k) xs x)),
)

-- ---- the levels of some places are those of all that are of these

flat_kept : {X Y : Type 0} (u : X → Bool) (v : Y → Bool) (g : X → List Y)
    → ((x : X) → u x ≡ true → filter v (g x) ≡ g x) → ((x : X) → u x ≡ false → filter v (g x) ≡ []) → (xs : List X)
    → flat_map g (filter u xs) ≡ filter v (flat_map g xs)
flat_kept u v g some none [] = refl
flat_kept u v g some none (x ∷ xs) = here (u x) refl (flat_kept u v g some none xs)
  where
    here : (b : Bool) → u x ≡ b → flat_map g (filter u xs) ≡ filter v (flat_map g xs)
        → flat_map g (cond b (x ∷ filter u xs) (filter u xs)) ≡ filter v (flat_map g (x ∷ xs))
    here true h later = flat_map-cons g x (filter u xs) ∙ ap₂ (λ a b. a ++ b) (sym (some x h)) later
        ∙ sym (filter-append v (g x) (flat_map g xs)) ∙ ap (filter v) (sym (flat_map-cons g x xs))
    here false h later = later ∙ ap (λ a. a ++ filter v (flat_map g xs)) (sym (none x h))
        ∙ sym (filter-append v (g x) (flat_map g xs)) ∙ ap (filter v) (sym (flat_map-cons g x xs))

some_kept : (v : Level → Bool) (l : Level) (c : Bool) → v l ≡ true
    → filter v (option_to_list (cond c (Some l) None)) ≡ option_to_list (cond c (Some l) None)
some_kept v l true h = ap (λ b. cond b (l ∷ []) []) h
some_kept v l false h = refl

none_kept : (v : Level → Bool) (l : Level) (c : Bool) → v l ≡ false
    → filter v (option_to_list (cond c (Some l) None)) ≡ []
none_kept v l true h = ap (λ b. cond b (l ∷ []) []) h
none_kept v l false h = refl

module _ (s : Layout) (u : Place → Bool) where
  abbrev OfThem : Level → Bool
  OfThem l = u l.place

  ended_kept : (past : List Entry) (places : List Place)
      → levels_ended s past (filter u places) ≡ filter OfThem (levels_ended s past places)
  unfolding levels_ended
  ended_kept [] places = refl
  ended_kept (e ∷ past) places =
      ap₂ (λ a b. a ++ b) (ended_kept past places)
      (flat_kept u OfThem (λ p. option_to_list (level_ended s past e p)) (λ p h. some_kept OfThem _ _ h)
      (λ p h. none_kept OfThem _ _ h) places)
      ∙ sym (filter-append OfThem (levels_ended s past places) (levels_ended_by s past e places))

  left_kept : (past : List Entry) (places : List Place)
      → levels_left s past (filter u places) ≡ filter OfThem (levels_left s past places)
  left_kept past [] = refl
  left_kept past (p ∷ places) = here (u p) (left_kept past places)
    where
      here : (b : Bool) → levels_left s past (filter u places) ≡ filter OfThem (levels_left s past places)
          → levels_left s past (cond b (p ∷ filter u places) (filter u places))
          ≡ cond b (level_until s past None p ∷ filter OfThem (levels_left s past places))
          (filter OfThem (levels_left s past places))
      here true later = ap (λ l. level_until s past None p ∷ l) later
      here false later = later

  pub levels_kept : (past : List Entry) (places : List Place) → levels_of s past (filter u places)
      ≡ filter OfThem (levels_ended s past places) ++ filter OfThem (levels_left s past places)
  levels_kept past places = ap₂ (λ a b. a ++ b) (ended_kept past places) (left_kept past places)

  pub places_back : (past : List Entry) (places : List Place) → map place_in (levels_left s past places) ≡ places
  places_back past [] = refl
  places_back past (p ∷ places) = ap (λ l. p ∷ l) (places_back past places)

-- ---- so of what is kept of a history

module _ (s : Layout) (past : List Entry) (seen : Seen) (inside : IsTrue (is_layout s)) (is : IsSeen s past seen) where
  pub places_are : (places : List Place) → places ≡ filter (is_used seen.used.items) (map place_in seen.running.items)
      → places ≡ places_of s (queueings past)
  places_are places read = read
      ∙ ap (λ l. filter (is_used seen.used.items) (map place_in l)) is.levels.running_are
      ∙ ap (filter (is_used seen.used.items)) (places_back s (is_used seen.used.items) past (all_places s))
      ∙ used_are (queueings past) seen.used.items is.used s inside

  pub places_few : (places : List Place) → places ≡ filter (is_used seen.used.items) (map place_in seen.running.items)
      → length places ≤ most_places
  places_few places read =
      let same = read ∙ ap (λ l. filter (is_used seen.used.items) (map place_in l)) is.levels.running_are
      ∙ ap (filter (is_used seen.used.items)) (places_back s (is_used seen.used.items) past (all_places s)) in
      let few = all_few s (is_used seen.used.items) inside in
      omega (arith, ap length same, few)

  pub levels_are : (levels : List Level)
      → levels ≡ filter (is_level_used seen.used.items) seen.ended.items
      ++ filter (is_level_used seen.used.items) seen.running.items
      → levels ≡ levels_of s past (places_of s (queueings past))
  levels_are levels read = read
      ∙ ap₂ (λ a b. filter (is_level_used seen.used.items) a ++ filter (is_level_used seen.used.items) b)
      is.levels.ended_are is.levels.running_are
      ∙ sym (levels_kept s (is_used seen.used.items) past (all_places s))
      ∙ ap (levels_of s past) (used_are (queueings past) seen.used.items is.used s inside)

-- ---- one more of each

pub one_kept : {X : Type 0} (p : X → Bool) (xs : List X) (i : ℕ) (d : X) (b : Bool) (base old new : List X)
    → i < length xs → old ≡ base ++ filter p (take i xs) → b ≡ p (get_or xs i d)
    → new ≡ old ++ cond b (get_or xs i d ∷ []) [] → new ≡ base ++ filter p (take (i + 1) xs)
one_kept p xs i d b base old new less so_far passes more =
    let x = get_or xs i d in
    more ∙ ap₂ (λ l c. l ++ cond c (x ∷ []) []) so_far passes
    ∙ append_assoc base (filter p (take i xs)) (cond (p x) (x ∷ []) []) ∙ ap (λ l. base ++ l) (sym (filter_more p xs i d less))

pub one_first : (s : Layout) (q n : ℕ) (base old new : List Level) (l : Level)
    → old ≡ base ++ levels_left s [] (map (place_on q) (range_with_len 0 n)) → new ≡ old ++ l ∷ []
    → l ≡ level_until s [] None (place_on q n)
    → new ≡ base ++ levels_left s [] (map (place_on q) (range_with_len 0 (n + 1)))
one_first s q n base old new l so_far more is =
    let first = level_until s [] None in
    let before = map (place_on q) (range_with_len 0 n) in
    let next = ap (map first) (map-range_with_len_more (place_on q) 0 n n (omega arith))
    ∙ map-append first before (place_on q n ∷ []) in
    more ∙ ap₂ (λ a b. a ++ b ∷ []) so_far is ∙ append_assoc base (map first before) (first (place_on q n) ∷ [])
    ∙ ap (λ k. base ++ k) (sym next)

pub queue_first : (s : Layout) (n : ℕ) (old new : List Level)
    → old ≡ levels_left s [] (flat_map (places_of_queue s) (range_with_len 0 n))
    → new ≡ old ++ levels_left s [] (places_of_queue s n)
    → new ≡ levels_left s [] (flat_map (places_of_queue s) (range_with_len 0 (n + 1)))
queue_first s n old new so_far more =
    let first = level_until s [] None in
    let next = ap (λ l. map first (flat_map (places_of_queue s) l)) (range_more n)
    ∙ ap (map first) (flat_map-append (places_of_queue s) (range_with_len 0 n) (n ∷ [])
    ∙ ap (λ l. flat_map (places_of_queue s) (range_with_len 0 n) ++ l)
    (flat_map-cons (places_of_queue s) n [] ∙ append-nil (places_of_queue s n)))
    ∙ map-append first (flat_map (places_of_queue s) (range_with_len 0 n)) (places_of_queue s n) in
    more ∙ ap (λ l. l ++ levels_left s [] (places_of_queue s n)) so_far ∙ sym next
