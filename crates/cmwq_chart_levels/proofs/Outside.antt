-- Which places an entry affects: the height of the others stays, and so do their levels.
use Rattle.std.proofs.Common.{◌≡◌, ℕ, ◌<◌, ◌≤◌, Bool, true, false, not, ◌||◌, ◌&&◌, ◌==◌, if◌then◌else◌, List, [], ◌∷◌}
use Rattle.std.proofs.Common.{◌++◌, length, map, take, drop, take-append-drop, append-nil, option_to_list, Some, None}
use Rattle.std.proofs.Common.{refl, sym, ap, ap₂, ◌∙◌, arith, subst}
use Rattle.std.specs.Prelude.{flat_map}
use Rattle.std.specs.Option.{option_map_or}
use Rattle.std.specs.List.{All}
use Rattle.std.proofs.lemmas.Bool.Decides.{nat_tests}
use Rattle.std.proofs.lemmas.Grind.{flat_map-append}
use Rattle.std.proofs.lemmas.List.{drop_all, map-append, take_all}
use Rattle.std.proofs.lemmas.List.Concat.{flat_map-cons}
use Rattle.std.proofs.lemmas.List.Elements.{All-tail, All-take, All-drop}
use Rattle.cmwq_lemmas.proofs.Truth.{same_bools}
use Rattle.cmwq_model.specs.declared.entry.Entry.{Entry}
use Rattle.cmwq_model.specs.declared.record.Place.{Place}
use Rattle.cmwq_model.specs.declared.record.Queueing.{Queueing}
use Rattle.cmwq_model.specs.declared.reply.Reply.{Reply}
use Rattle.cmwq_model.specs.declared.reply.Reply.TheVariants as reply
use Rattle.cmwq_model.specs.Prelude.{Layout, most_cpus, same_place, width, max_active, is_frozen, frozen_after}
use Rattle.cmwq_model.specs.Prelude.{is_freezable, sets_max, width_told}
use Rattle.cmwq_model.specs.Widths.{keeps_widths}
use Rattle.cmwq_chart.specs.declared.levels.Level.{Level}
use Rattle.cmwq_chart.specs.Levels.{height_at, level_number}
use Rattle.cmwq_chart_levels.specs.declared.affected.PlaceRange.{PlaceRange}
use Rattle.cmwq_chart_levels.specs.declared.affected.AffectedPlaces.{AffectedPlaces}
use Rattle.cmwq_chart_levels.specs.declared.affected.AffectedPlaces.TheVariants.{Nowhere, Within, Everywhere}
use Rattle.cmwq_state.specs.declared.effect.Effect.{Effect}
use Rattle.cmwq_chart_levels.specs.Turns.{is_one_of_place, IsEffectOf, IsLevelAfter, ended_levels, level_after}
use Rattle.cmwq_chart_levels.specs.Affected.{is_width, keeps_width, moves_at, affects, has_level_number, AreAffected}
use Rattle.cmwq_chart_levels.specs.Affected.{IsOnlyWithin}
use Rattle.cmwq_chart_levels.proofs.Unmoved.{height_stays, none_left, stays_level}
use Rattle.std.proofs.lemmas.Bool.{or_parts}

-- ---- an entry that keeps the width of a queue

frozen_kept : (r : Reply) (set frozen : Bool) → (keeps_widths r || (is_width r && not set)) ≡ true
    → frozen_after r frozen ≡ frozen
frozen_kept reply.Frozen set frozen h = cc
frozen_kept reply.Thawed set frozen h = cc
frozen_kept r set frozen h = refl

told_kept : (r : Reply) (set : Bool) → (keeps_widths r || (is_width r && not set)) ≡ true
    → (if set then width_told r else None) ≡ None
told_kept (reply.Width n) true h = cc
told_kept r true h = refl
told_kept r false h = refl

width_kept : (s : Layout) (past : List Entry) (e : Entry) (q : ℕ) → keeps_width e q ≡ true
    → width s (e ∷ past) q ≡ width s past q
unfolding width is_frozen max_active
width_kept s past e q h =
    ap₂ (λ b n. if is_freezable s q && b then 0 else n) (frozen_kept e.reply (sets_max e.call q) (is_frozen past) h)
    (ap (λ o. option_map_or (λ n. n) o (max_active s past q)) (told_kept e.reply (sets_max e.call q) h))

none_of : (k o c : Bool) → (not k || (o || c)) ≡ false → (k ≡ true) × (o ≡ false) × (c ≡ false)
none_of true false false h = (refl, refl, refl)
none_of true false true h = cc
none_of true true c h = cc
none_of false o c h = cc

pub unaffected : (s : Layout) (past : List Entry) (e : Entry) (f : Effect) (p : Place) → IsEffectOf s past e f
    → affects f p ≡ false → height_at s (e ∷ past) p ≡ height_at s past p
unaffected s past e f p (same, is) none =
    let all = none_of (keeps_width f.entry p.queue.0) (is_one_of_place p f.opened) (is_one_of_place p f.ended) none in
    subst (λ e. height_at s (e ∷ past) p ≡ height_at s past p) same
    (height_stays s past f.entry p is.legal (width_kept s past f.entry p.queue.0 all.0)
    (ap (is_one_of_place p) (sym is.opened) ∙ all.1) (ap (is_one_of_place p) (sym is.ended) ∙ all.2))

-- ---- fewer places are affected

fewer : (f g : Place → Bool) → ((p : Place) → f p ≡ false → g p ≡ false) → (a : AffectedPlaces) → AreAffected f a
    → AreAffected g a
fewer f g less Nowhere h = λ p here. less p (h p here)
fewer f g less (Within first second) h = record {
  before = λ p here k. less p (h.before p here k);
  between = λ p here k l. less p (h.between p here k l);
  behind = λ p here k. less p (h.behind p here k);
}
fewer f g less Everywhere h = tt

-- another number is another place
elsewhere : (p at : Place) → (level_number p == level_number at) ≡ false → same_place p at ≡ false
elsewhere p at h = same_bools _ _ (λ k. grind (arith, nat_tests)) (λ k. cc)

pub both_moved : (f : Effect) (x y : Queueing) (a : AffectedPlaces) → (f.opened ≡ Some x) × (f.ended ≡ Some y)
    → AreAffected (has_level_number (level_number x.place) (level_number y.place)) a → AreAffected (moves_at f) a
both_moved f x y a is h = fewer _ (moves_at f) (λ p none.
    let first : same_place p x.place ≡ false = elsewhere p x.place (or_parts _ _ none).0 in
    let second : same_place p y.place ≡ false = elsewhere p y.place (or_parts _ _ none).1 in
    rw (is.0, is.1, first, second) refl) a h

-- ---- what of the levels is outside

module _ (s : Layout) (past : List Entry) (e : Entry) (f : Effect) (is_effect : IsEffectOf s past e f) where
  abbrev pub Stays : Level → Type 0
  Stays l = affects f l.place ≡ false

  -- where no place is
  pub none_affected : (xs : List Level) → All (IsLevelAfter s past) xs
      → ((p : Place) → p.cpu.0 < most_cpus → affects f p ≡ false) → All Stays xs
  none_affected xs go none = λ k d less. none _ (go k d less).inside.1

  pub all_stay : (xs : List Level) → All (IsLevelAfter s past) xs → All Stays xs
      → map (level_after s (e ∷ past)) xs ≡ xs
  all_stay [] go stay = refl
  all_stay (x ∷ xs) go stay =
      ap₂ (λ y ys. y ∷ ys)
      (sym (stays_level s past e x (go 0 x (omega arith))
      (unaffected s past e f x.place is_effect (stay 0 x (omega arith)))))
      (all_stay xs (All-tail (IsLevelAfter s past) x xs go) (All-tail Stays x xs stay))

  pub none_end : (xs : List Level) → All Stays xs → flat_map (ended_levels s past e) xs ≡ []
  none_end [] stay = refl
  none_end (x ∷ xs) stay = flat_map-cons (ended_levels s past e) x xs
      ∙ ap₂ (λ a b. a ++ b)
      (ap option_to_list
      (sym (none_left s past e x.place (unaffected s past e f x.place is_effect (stay 0 x (omega arith))))))
      (none_end xs (All-tail Stays x xs stay))

  -- outside a range
  pub low_stays : (xs : List Level) (range : PlaceRange) (i : ℕ) → All (IsOnlyWithin (affects f) range) xs
      → All (λ l. level_number l.place < range.from) (take i xs) → All Stays (take i xs)
  low_stays xs range i only below =
      λ k d less. ((All-take (IsOnlyWithin (affects f) range) i xs only) k d less).before (below k d less)

  pub high_stays : (xs : List Level) (range : PlaceRange) (i j : ℕ) → All (IsOnlyWithin (affects f) range) xs
      → All (λ l. range.end ≤ level_number l.place) (drop j (drop i xs)) → All Stays (drop j (drop i xs))
  high_stays xs range i j only from =
      λ k d less.
      ((All-drop (IsOnlyWithin (affects f) range) j (drop i xs) (All-drop (IsOnlyWithin (affects f) range) i xs only)) k
      d less).behind (from k d less)

  -- so it is enough to turn those inside
  pub range_turned : (xs part : List Level) (i j : ℕ) → All (IsLevelAfter s past) xs → All Stays (take i xs)
      → All Stays (drop j (drop i xs)) → part ≡ map (level_after s (e ∷ past)) (take j (drop i xs))
      → take i xs ++ (part ++ drop j (drop i xs)) ≡ map (level_after s (e ∷ past)) xs
  range_turned xs part i j go low high is =
      let turn = level_after s (e ∷ past) in
      let P = IsLevelAfter s past in
      let rest = drop i xs in
      ap₂ (λ a b. a ++ b) (sym (all_stay (take i xs) (All-take P i xs go) low))
      (ap₂ (λ a b. a ++ b) is (sym (all_stay (drop j rest) (All-drop P j rest (All-drop P i xs go)) high))
      ∙ sym (map-append turn (take j rest) (drop j rest)) ∙ ap (map turn) (take-append-drop j rest))
      ∙ sym (map-append turn (take i xs) rest) ∙ ap (map turn) (take-append-drop i xs)

  pub range_ended : (xs : List Level) (i j : ℕ) → All Stays (take i xs) → All Stays (drop j (drop i xs))
      → flat_map (ended_levels s past e) (take j (drop i xs)) ≡ flat_map (ended_levels s past e) xs
  range_ended xs i j low high =
      let g = ended_levels s past e in
      let rest = drop i xs in
      sym (append-nil (flat_map g (take j rest)))
      ∙ ap (λ l. flat_map g (take j rest) ++ l) (sym (none_end (drop j rest) high))
      ∙ sym (flat_map-append g (take j rest) (drop j rest)) ∙ ap (flat_map g) (take-append-drop j rest)
      ∙ ap (λ l. l ++ flat_map g rest) (sym (none_end (take i xs) low)) ∙ sym (flat_map-append g (take i xs) rest)
      ∙ ap (flat_map g) (take-append-drop i xs)

-- a list that is written whole over one as long
pub all_written : {X : Type 0} (new old : List X) (n : ℕ) → n ≡ length old → length new ≡ length old
    → take n (new ++ drop (length new) old) ≡ new
all_written new old n all same =
    ap (take n) (ap (λ l. new ++ l) (drop_all (length new) old (omega (arith, same))) ∙ append-nil new)
    ∙ take_all n new (omega (arith, all, same))
