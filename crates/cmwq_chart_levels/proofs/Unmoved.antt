-- Where an entry gives no width, and opens and ends nothing at a place, the height of the place stays.
use Rattle.std.proofs.Common.{◌≡◌, ℕ, ◌+◌, ◌-◌, ◌<◌, ◌≤◌, Bool, true, false, cond, if◌then◌else◌, not, ◌&&◌, ◌||◌, ◌==◌}
use Rattle.std.proofs.Common.{List, [], ◌∷◌, ◌++◌, append-nil, append_assoc, length, get_or, filter, count_by, map}
use Rattle.std.proofs.Common.{take, drop, min, max, Option, Some, None, refl, sym, ap, ap₂, ◌∙◌, arith, subst}
use Rattle.std.specs.Prelude.{flat_map, nat_lt}
use Rattle.std.specs.Option.{option_map_or}
use Rattle.std.proofs.lemmas.Bool.Decides.{nat_tests}
use Rattle.std.proofs.lemmas.List.{drop_more, length-take, map_more}
use Rattle.cmwq_lemmas.proofs.Lists.{All_each, count_by-cons, count_by-filter}
use Rattle.cmwq_lemmas.proofs.Filters.{count_by-same}
use Rattle.cmwq_lemmas.proofs.Truth.{and_false}
use Rattle.cmwq_model.specs.declared.entry.Entry.{Entry}
use Rattle.cmwq_model.specs.declared.record.Place.{Place}
use Rattle.cmwq_model.specs.declared.record.Queueing.{Queueing}
use Rattle.cmwq_model.specs.Prelude.{Layout, IsLegal, opening, queueings, still_open, is_active, newly_active, width}
use Rattle.cmwq_model.specs.Widths.{keeps_widths}
use Rattle.cmwq_theory_steps.proofs.Widths.{width_same}
use Rattle.cmwq_theory_steps.specs.Histories.{one}
use Rattle.cmwq_theory_steps.specs.Endings.{ending}
use Rattle.cmwq_theory_steps.specs.Places.{is_on, open_on, active_count}
use Rattle.cmwq_theory_steps.specs.Activations.{waits, stay_count}
use Rattle.cmwq_theory_steps.specs.Waiting.{is_active_on, ends_active_on}
use Rattle.cmwq_theory_steps.proofs.Active.{active_counted, length-count}
use Rattle.cmwq_theory_steps.proofs.ActiveCounts.{active_count_goes_on, stays_counted}
use Rattle.cmwq_theory_steps.proofs.Promoted.{newly_active_on}
use Rattle.cmwq_chart.specs.declared.levels.Height.{Height}
use Rattle.cmwq_chart.specs.declared.levels.Level.{Level}
use Rattle.cmwq_chart.specs.Levels.{is_of_place, open_at, active_at, is_active_at, height_at, is_same_height}
use Rattle.cmwq_chart.specs.Levels.{changes_level, level_ended, level_until}
use Rattle.cmwq_state.specs.declared.effect.Effect.{Effect}
use Rattle.cmwq_chart_levels.specs.Turns.{is_one_of_place, may_change, IsEffectOf, IsLevelAfter, ended_levels}
use Rattle.cmwq_chart_levels.specs.Turns.{level_after}
use Rattle.cmwq_chart_levels.proofs.Counts.{open_goes_on, is_on_is}
use Rattle.cmwq_chart_levels.proofs.Turned.{turned, one_more_ended}

-- ---- as many are open

open_stays : (s : Layout) (past : List Entry) (e : Entry) (p : Place) → IsLegal s (e ∷ past)
    → is_one_of_place p (opening past e) ≡ false → is_one_of_place p (ending past e) ≡ false
    → open_at (e ∷ past) p ≡ open_at past p
open_stays s past e p legal opened ended =
    let step = open_goes_on s past e p legal in
    let none = ap one opened in
    let gone = ap one ended in
    omega (arith, step, none, gone)

open_is : (past : List Entry) (p : Place) → open_at past p ≡ length (open_on past p.queue.0 p.cpu.0)
open_is past p =
    count_by-same (is_of_place p) (is_on p.queue.0 p.cpu.0) (still_open past)
    (All_each _ (still_open past) (is_on_is p)) ∙ length-count (is_on p.queue.0 p.cpu.0) (still_open past)

-- ---- as many are active: there were no fewer than are open, or than the width

count_both : {X : Type 0} (g : X → Bool) (xs : List X) → count_by g xs + length (filter (λ x. not (g x)) xs) ≡ length xs
count_both g [] = refl
count_both g (x ∷ xs) = ap (λ n. n + length (filter (λ y. not (g y)) (x ∷ xs))) (count_by-cons g x xs)
    ∙ here (g x) (count_both g xs)
  where
    here : (b : Bool) → count_by g xs + length (filter (λ y. not (g y)) xs) ≡ length xs
        → (cond b 1 0 + count_by g xs) + length
        (cond (not b) (x ∷ filter (λ y. not (g y)) xs) (filter (λ y. not (g y)) xs)) ≡ length (x ∷ xs)
    here true h = omega (arith, h)
    here false h = omega (arith, h)

right_most : (a b : ℕ) → b ≤ max a b
right_most a b = grind arith

none_least : (w : ℕ) → min 0 w ≤ 0
none_least w = grind arith

has_most : (s : Layout) (past : List Entry) (q c : ℕ)
    → min (length (open_on past q c)) (width s past q) ≤ active_count s past q c
unfolding active_count queueings
has_most s [] q c = none_least (width s [] q)
has_most s (e ∷ past) q c = right_most _ (min (length (open_on (e ∷ past) q c)) (width s (e ∷ past) q))

fills : (active waiting all wide n : ℕ) → active + waiting ≡ all → min all wide ≤ active
    → n ≡ active + min (wide - active) waiting → n ≡ active
fills active waiting all wide n parts most is = grind arith

none_ends : (s : Layout) (past : List Entry) (p : Place) (o : Option Queueing) → is_one_of_place p o ≡ false
    → option_map_or (is_active_on s past p.queue.0 p.cpu.0) o false ≡ false
none_ends s past p None h = refl
none_ends s past p (Some x) h = ap (λ b. b && is_active s past x) (sym (is_on_is p x) ∙ h)

count_stays : (s : Layout) (past : List Entry) (e : Entry) (p : Place) → IsLegal s (e ∷ past)
    → width s (e ∷ past) p.queue.0 ≡ width s past p.queue.0 → is_one_of_place p (opening past e) ≡ false
    → is_one_of_place p (ending past e) ≡ false
    → active_count s (e ∷ past) p.queue.0 p.cpu.0 ≡ active_count s past p.queue.0 p.cpu.0
count_stays s past e p legal wide opened ended =
    let q = p.queue.0 in
    let c = p.cpu.0 in
    let none : one (ends_active_on s past e q c) ≡ 0 = ap one (none_ends s past p (ending past e) ended) in
    let stay : stay_count s past e q c ≡ active_count s past q c =
    omega (arith, stays_counted s past e legal q c, none) in
    let long : length (open_on (e ∷ past) q c) ≡ length (open_on past q c) =
    sym (open_is (e ∷ past) p) ∙ open_stays s past e p legal opened ended ∙ open_is past p in
    let newly : count_by (is_on q c) (newly_active s past e)
    ≡ min (width s (e ∷ past) q - stay_count s past e q c)
    (length (filter (waits s past) (open_on (e ∷ past) q c))) =
    length-count (is_on q c) (newly_active s past e) ∙ ap length (newly_active_on s past e q c)
    ∙ length-take (width s (e ∷ past) q - stay_count s past e q c)
    (filter (waits s past) (open_on (e ∷ past) q c)) in
    let waiting = length (filter (waits s past) (open_on (e ∷ past) q c)) in
    let parts : active_count s past q c + waiting ≡ length (open_on past q c) =
    ap (λ n. n + waiting) (sym stay) ∙ count_both (is_active s past) (open_on (e ∷ past) q c) ∙ long in
    let all : active_count s (e ∷ past) q c ≡ active_count s past q c + min (width s past q - active_count s past q c)
    waiting =
    active_count_goes_on s past e q c ∙ ap (λ n. stay_count s past e q c + n) newly
    ∙ ap (λ n. n + min (width s (e ∷ past) q - n) waiting) stay
    ∙ ap (λ w. active_count s past q c + min (w - active_count s past q c) waiting) wide in
    fills (active_count s past q c) waiting (length (open_on past q c)) (width s past q) (active_count s (e ∷ past) q c)
    parts (has_most s past q c) all

active_is : (s : Layout) (past : List Entry) (p : Place) → active_at s past p ≡ active_count s past p.queue.0 p.cpu.0
active_is s past p =
    count_by-filter (is_active_at s past p) (is_on p.queue.0 p.cpu.0) (is_active s past) (still_open past)
    (λ x. ap (λ b. b && is_active s past x) (is_on_is p x))
    ∙ active_counted s past p.queue.0 p.cpu.0

-- ---- so the height stays, and the level

pub height_stays : (s : Layout) (past : List Entry) (e : Entry) (p : Place) → IsLegal s (e ∷ past)
    → width s (e ∷ past) p.queue.0 ≡ width s past p.queue.0 → is_one_of_place p (opening past e) ≡ false
    → is_one_of_place p (ending past e) ≡ false
    → height_at s (e ∷ past) p ≡ height_at s past p
height_stays s past e p legal wide opened ended =
    let active : active_at s (e ∷ past) p ≡ active_at s past p =
    active_is s (e ∷ past) p ∙ count_stays s past e p legal wide opened ended ∙ sym (active_is s past p) in
    rw (open_stays s past e p legal opened ended, active, wide) refl

no_change : (k o c : Bool) → (not k || o || c) ≡ false → (k ≡ true) × (o ≡ false) × (c ≡ false)
no_change true false false h = (refl, refl, refl)
no_change true false true h = cc
no_change true true c h = cc
no_change false o c h = cc

pub unmoved : (s : Layout) (past : List Entry) (e : Entry) (f : Effect) (p : Place) → IsEffectOf s past e f
    → may_change f p ≡ false → height_at s (e ∷ past) p ≡ height_at s past p
unmoved s past e f p (same, is) none =
    let all = no_change (keeps_widths f.entry.reply) (is_one_of_place p f.opened) (is_one_of_place p f.ended) none in
    subst (λ e. height_at s (e ∷ past) p ≡ height_at s past p) same
    (height_stays s past f.entry p is.legal (width_same s past f.entry p.queue.0 all.0)
    (ap (is_one_of_place p) (sym is.opened) ∙ all.1) (ap (is_one_of_place p) (sym is.ended) ∙ all.2))

same_height : (h : Height) → is_same_height h h ≡ true
same_height h =
    let opens : (h.open_count == h.open_count) ≡ true = grind (arith, nat_tests) in
    let active : (h.active_count == h.active_count) ≡ true = grind (arith, nat_tests) in
    let wide : (h.width == h.width) ≡ true = grind (arith, nat_tests) in
    ap₂ (λ a b. (a && b) && (h.width == h.width)) opens active ∙ wide

module _ (s : Layout) (past : List Entry) (e : Entry) where
  unchanged : (p : Place) → height_at s (e ∷ past) p ≡ height_at s past p → changes_level s past e p ≡ false
  unchanged p same =
      ap (λ h. nat_lt 0 (length past) && not (is_same_height (height_at s past p) h)) same
      ∙ ap (λ b. nat_lt 0 (length past) && not b) (same_height (height_at s past p))
      ∙ and_false (nat_lt 0 (length past))

  pub none_left : (p : Place) → height_at s (e ∷ past) p ≡ height_at s past p → None ≡ level_ended s past e p
  none_left p same =
      ap (λ b. if b then Some (level_until s past (Some (length past - 1)) p) else None) (sym (unchanged p same))

  pub stays_level : (x : Level) → IsLevelAfter s past x → height_at s (e ∷ past) x.place ≡ height_at s past x.place
      → x ≡ level_after s (e ∷ past) x
  stays_level x goes same = turned s past e x false x.height (length past) goes refl (goes.height ∙ sym same)
      (sym (ap (λ b. nat_lt 0 (length past) && not b) (same_height x.height) ∙ and_false (nat_lt 0 (length past))))

  -- what doesn't move is left where it is
  pub as_it_is : (xs ys : List Level) (i : ℕ) (x : Level) → i < length xs
      → ys ≡ map (level_after s (e ∷ past)) (take i xs) ++ drop i xs → x ≡ get_or xs i x → IsLevelAfter s past x
      → height_at s (e ∷ past) x.place ≡ height_at s past x.place
      → ys ≡ map (level_after s (e ∷ past)) (take (i + 1) xs) ++ drop (i + 1) xs
  as_it_is xs ys i x less so_far is goes same =
      let f = level_after s (e ∷ past) in
      let front = map f (take i xs) in
      so_far ∙ ap (λ l. front ++ l) (drop_more xs i x less)
      ∙ ap (λ y. front ++ y ∷ drop (i + 1) xs) (sym is ∙ stays_level x goes same)
      ∙ sym (append_assoc front (f x ∷ []) (drop (i + 1) xs))
      ∙ ap (λ y. (front ++ f y ∷ []) ++ drop (i + 1) xs) is
      ∙ ap (λ l. l ++ drop (i + 1) xs) (sym (map_more f xs i x less))

  pub none_ended : (xs levels base : List Level) (i : ℕ) (x : Level) → i < length xs
      → levels ≡ base ++ flat_map (ended_levels s past e) (take i xs) → x ≡ get_or xs i x
      → height_at s (e ∷ past) x.place ≡ height_at s past x.place
      → levels ≡ base ++ flat_map (ended_levels s past e) (take (i + 1) xs)
  none_ended xs levels base i x less so_far is same =
      so_far ∙ sym (append-nil _) ∙ one_more_ended s past e xs base i x None less is (none_left x.place same)
