-- What one entry makes of the levels that go on before it.
use Rattle.std.proofs.Common.{◌≡◌, ℕ, ◌+◌, ◌-◌, ◌<◌, Bool, List, [], ◌∷◌, ◌++◌, length, get_or, take, drop, map, Option}
use Rattle.std.proofs.Common.{None, option_to_list, refl, sym, ap, ap₂, ◌∙◌, subst, arith}
use Rattle.std.specs.Prelude.{flat_map}
use Rattle.std.specs.List.{All}
use Rattle.std.proofs.lemmas.List.{get_or-drop, take_more, flat_map_more, length-map, length-take}
use Rattle.std.proofs.lemmas.List.Elements.{All-get_or, All-map}
use Rattle.std.proofs.lemmas.List.Folds.{flat_map-map}
use Rattle.std.proofs.Math.Seq.{get_or-append_right}
use Rattle.cmwq_model.specs.declared.entry.Entry.{Entry}
use Rattle.cmwq_model.specs.declared.record.Place.{Place}
use Rattle.cmwq_model.specs.Prelude.{Layout}
use Rattle.cmwq_chart.specs.declared.levels.Height.{Height}
use Rattle.cmwq_chart.specs.declared.levels.Level.{Level}
use Rattle.cmwq_chart.specs.Levels.{height_at, is_changed, changes_level, level_from, level_until, level_ended}
use Rattle.cmwq_chart.specs.Levels.{levels_ended, levels_left, IsPlaceOf}
use Rattle.cmwq_chart_levels.specs.Turns.{IsLevelAfter, after_if, ended_if, ended_levels, level_after}

module _ (s : Layout) (past : List Entry) (e : Entry) where
  pub turned : (x : Level) (changed : Bool) (height : Height) (n : ℕ) → IsLevelAfter s past x → n ≡ length past
      → height ≡ height_at s (e ∷ past) x.place → changed ≡ is_changed n x.height height
      → after_if x changed height n ≡ level_after s (e ∷ past) x
  unfolding level_from
  turned x changed height n goes many is change =
      let same : changed ≡ changes_level s past e x.place = change ∙ (rw (many, is, goes.height) refl) in
      rw (same, many, is, goes.from, goes.to) refl

  pub left_behind : (x : Level) (changed : Bool) (height : Height) (n : ℕ) → IsLevelAfter s past x → n ≡ length past
      → height ≡ height_at s (e ∷ past) x.place → changed ≡ is_changed n x.height height
      → ended_if x changed n ≡ level_ended s past e x.place
  left_behind x changed height n goes many is change =
      let same : changed ≡ changes_level s past e x.place = change ∙ (rw (many, is, goes.height) refl) in
      rw (same, many, goes.height, goes.from) refl

  -- where the first i of the levels were taken on
  pub untouched : (xs ys : List Level) (i : ℕ) (x : Level) → i < length xs
      → ys ≡ map (level_after s (e ∷ past)) (take i xs) ++ drop i xs → x ≡ get_or ys i x → x ≡ get_or xs i x
  untouched xs ys i x less so_far is =
      let front = map (level_after s (e ∷ past)) (take i xs) in
      let long : length front ≡ i = length-map (take i xs) (level_after s (e ∷ past)) ∙ length-take i xs
      ∙ omega arith in
      is ∙ ap (λ l. get_or l i x) so_far ∙ get_or-append_right front (drop i xs) i x (omega (arith, long))
      ∙ get_or-drop i xs (i - length front) x ∙ ap (λ k. get_or xs k x) (omega (arith, long))

  pub one_more_ended : (xs base : List Level) (i : ℕ) (x : Level) (o : Option Level) → i < length xs → x ≡ get_or xs i x
      → o ≡ level_ended s past e x.place
      → (base ++ flat_map (ended_levels s past e) (take i xs)) ++ option_to_list o ≡ base
      ++ flat_map (ended_levels s past e) (take (i + 1) xs)
  one_more_ended xs base i x o less is ended =
      ap (λ l. (base ++ flat_map (ended_levels s past e) (take i xs)) ++ option_to_list l) ended
      ∙ flat_map_more (ended_levels s past e) base (take i xs) x
      ∙ ap (λ y. base ++ flat_map (ended_levels s past e) (take i xs ++ y ∷ [])) is
      ∙ ap (λ l. base ++ flat_map (ended_levels s past e) l) (sym (take_more xs i x less))

pub they_go_on : (s : Layout) (past : List Entry) (xs : List Level) (i : ℕ) (x : Level) → All (IsLevelAfter s past) xs
    → i < length xs → x ≡ get_or xs i x → IsLevelAfter s past x
they_go_on s past xs i x all less is =
    subst (IsLevelAfter s past) (sym is) (All-get_or (IsLevelAfter s past) xs i x less all)

-- the levels that go on, of places of the layout
pub all_go_on : (s : Layout) (past : List Entry) (places : List Place) → All (IsPlaceOf s) places
    → All (IsLevelAfter s past) (levels_left s past places)
all_go_on s past places inside =
    All-map (IsLevelAfter s past) (level_until s past None) places
    (λ i d less. record { inside = inside i d less; height = refl; from = refl; to = refl })

pub left_again : (s : Layout) (past later : List Entry) (places : List Place)
    → map (level_after s later) (levels_left s past places) ≡ levels_left s later places
left_again s past later [] = refl
left_again s past later (p ∷ places) = ap (λ l. level_until s later None p ∷ l) (left_again s past later places)

pub ended_again : (s : Layout) (past : List Entry) (e : Entry) (places : List Place)
    → flat_map (ended_levels s past e) (levels_left s past places)
    ≡ flat_map (λ p. option_to_list (level_ended s past e p)) places
ended_again s past e places = flat_map-map (ended_levels s past e) (level_until s past None) places

-- with one entry more
module _ (s : Layout) (past : List Entry) (e : Entry) (places : List Place) where
  pub levels_next : (running old new : List Level) → running ≡ levels_left s past places
      → old ≡ levels_ended s past places → new ≡ old ++ flat_map (ended_levels s past e) running
      → new ≡ levels_ended s (e ∷ past) places
  unfolding levels_ended
  levels_next running old new now before more =
      more ∙ ap₂ (λ a b. a ++ flat_map (ended_levels s past e) b) before now
      ∙ ap (λ l. levels_ended s past places ++ l) (ended_again s past e places)

  pub running_next : (running new : List Level) → running ≡ levels_left s past places
      → new ≡ map (level_after s (e ∷ past)) running → new ≡ levels_left s (e ∷ past) places
  running_next running new now more = more ∙ ap (map (level_after s (e ∷ past))) now
      ∙ left_again s past (e ∷ past) places
