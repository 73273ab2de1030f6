-- The laws of levels: each is as the model says where it stands, and each place has one after each entry.
use Rattle.std.proofs.Common.{◌≡◌, ℕ, ◌-◌, ◌<◌, ◌≤◌, ◌==◌, ◌&&◌, not, Bool, true, false, List, [], ◌∷◌, ◌++◌, length}
use Rattle.std.proofs.Common.{nat_lt, Option, Some, None, IfSome, option_to_list, ◌⊎◌, inl, inr, ⊎_elim, refl, sym, ap}
use Rattle.std.proofs.Common.{◌∙◌, subst, arith, length-append}
use Rattle.std.specs.Prelude.{if◌then◌else◌}
use Rattle.std.specs.List.{AllByRecursion}
use Rattle.std.proofs.lemmas.Bool.{eqb-true, lt-ltb, ltb-true, and_parts}
use Rattle.cmwq_lemmas.proofs.Lists.{All_append, All_map, All_flat, same_tail}
use Rattle.cmwq_lemmas.proofs.Members.{In, in_left, in_right, option_in, in_contained, contained_in, flat_in, in_mapped}
use Rattle.cmwq_model.specs.declared.entry.Entry.{Entry}
use Rattle.cmwq_model.specs.declared.record.Place.{Place}
use Rattle.cmwq_model.specs.Prelude.{Layout}
use Rattle.cmwq_chart.specs.declared.levels.Height.{Height}
use Rattle.cmwq_chart.specs.declared.levels.Level.{Level}
use Rattle.cmwq_chart.specs.Levels.{height_at, is_same_height, is_changed, changes_level, level_from, level_until}
use Rattle.cmwq_chart.specs.Levels.{level_ended, levels_ended_by, levels_ended, levels_left, levels_of}
use Rattle.cmwq_output_laws.specs.BarLaws.{StandsIn}
use Rattle.cmwq_output_laws.specs.LevelLaws.{Covers, IsTrueAfter, IsTrueWhereItIs, LevelsAreTrue, HasLevelAt}
use Rattle.cmwq_output_laws.specs.LevelLaws.{PlacesHaveLevels}

-- ---- heights

all_three : (x y z : Bool) → (x && y && z) ≡ true → (x ≡ true) × (y ≡ true) × (z ≡ true)
all_three true true true h = (refl, refl, refl)
all_three true true false h = cc
all_three true false z h = cc
all_three false y z h = cc

abbrev height_of : ℕ → ℕ → ℕ → Height
height_of a b c = record { open_count = a; active_count = b; width = c }

same_numbers : (a b c u v w : ℕ) → a ≡ u → b ≡ v → c ≡ w → height_of a b c ≡ height_of u v w
same_numbers a b c u v w ha hb hc = rw (ha, hb, hc) refl

same_height : (h g : Height) → is_same_height h g ≡ true → h ≡ g
same_height h g is =
    let k = all_three (h.open_count == g.open_count) (h.active_count == g.active_count) (h.width == g.width) is in
    same_numbers h.open_count h.active_count h.width g.open_count g.active_count g.width
    (eqb-true h.open_count g.open_count k.0) (eqb-true h.active_count g.active_count k.1) (eqb-true h.width g.width k.2)

unchanged : (n : ℕ) (h g : Height) → 0 < n → is_changed n h g ≡ false → h ≡ g
unchanged n h g some is =
    same_height h g
    (by (is_same_height h g) (subst (λ b. (b && not (is_same_height h g)) ≡ false) (lt-ltb 0 n some) is))
  where
    by : (b : Bool) → (true && not b) ≡ false → b ≡ true
    by true k = refl
    by false k = cc

pub changed_later : (n : ℕ) (h g : Height) → is_changed n h g ≡ true → 0 < n
changed_later n h g is = ltb-true 0 n (and_parts (nat_lt 0 n) (not (is_same_height h g)) is).0

-- ---- from where on a level is as it is

not_empty : (after : List Entry) (e : Entry) (before : List Entry) → length before < length (after ++ e ∷ before)
not_empty after e before = omega (arith, length-append after (e ∷ before))

stays_so : (s : Layout) (p : Place) (after : List Entry) (e : Entry) (before : List Entry)
    → level_from s (after ++ e ∷ before) p ≤ length before → height_at s (after ++ e ∷ before) p
    ≡ height_at s (e ∷ before) p
unfolding level_from
stays_so s p [] e before h = refl
stays_so s p (a ∷ after) e before h =
    here (λ k. stays_so s p after e before k) (changes_level s (after ++ e ∷ before) a p) refl h
  where
    here : (level_from s (after ++ e ∷ before) p ≤ length before → height_at s (after ++ e ∷ before) p
        ≡ height_at s (e ∷ before) p)
        → (b : Bool) → changes_level s (after ++ e ∷ before) a p ≡ b
        → (if b then length (after ++ e ∷ before) else level_from s (after ++ e ∷ before) p) ≤ length before
        → height_at s (a ∷ (after ++ e ∷ before)) p ≡ height_at s (e ∷ before) p
    here earlier true is k = let more = not_empty after e before in absurd (omega arith)
    here earlier false is k =
        let more = not_empty after e before in
        sym (unchanged (length (after ++ e ∷ before)) (height_at s (after ++ e ∷ before) p)
        (height_at s (a ∷ (after ++ e ∷ before)) p) (omega arith) is) ∙ earlier k

pub from_within : (s : Layout) (past : List Entry) (p : Place) → level_from s past p ≤ length past - 1
unfolding level_from
from_within s [] p = omega arith
from_within s (a ∷ past) p = here (from_within s past p) (changes_level s past a p)
  where
    here : level_from s past p ≤ length past - 1 → (b : Bool)
        → (if b then length past else level_from s past p) ≤ length (a ∷ past) - 1
    here earlier true = omega arith
    here earlier false = omega arith

true_since : (s : Layout) (past : List Entry) (p : Place) (to : Option ℕ) (e : Entry) (before : List Entry)
    → StandsIn past e before → level_from s past p ≤ length before
    → IsTrueAfter s (e ∷ before) (level_until s past to p)
true_since s past p to e before stands begun =
    let same : height_at s past p ≡ height_at s (e ∷ before) p =
    subst (λ (q : List Entry). level_from s q p ≤ length before → height_at s q p ≡ height_at s (e ∷ before) p)
    (sym stands.parts) (stays_so s p stands.after e before) begun in
    record {
      opens = ap (λ (h : Height). h.open_count) same;
      actives = ap (λ (h : Height). h.active_count) same;
      widths = ap (λ (h : Height). h.width) same;
    }

-- ---- each level is true where it is

-- a level that an entry ended
record IsOver (s : Layout) (past : List Entry) (l : Level) : Type 0 where
  last : ℕ
  is_last : l.to ≡ Some last
  within : last < length past
  is_true : IsTrueWhereItIs s past l

pub over_by : (l : Level) (at last : ℕ) → Covers l at → l.to ≡ Some last → at ≤ last
over_by l at last covers is = subst (λ (o : Option ℕ). IfSome o (λ t. at ≤ t)) is covers.not_over

-- whether it covers an entry is seen further down, as one more lies beyond it
older_alone : (s : Layout) (past : List Entry) (a : Entry) (l : Level) (last : ℕ) → l.to ≡ Some last
    → last < length past → IsTrueWhereItIs s past l → IsTrueWhereItIs s (a ∷ past) l
older_alone s past a l last is within earlier e before stands covers = here stands.after stands.parts
  where
    here : (after : List Entry) → a ∷ past ≡ after ++ e ∷ before → IsTrueAfter s (e ∷ before) l
    here [] parts =
        let same : length past ≡ length before = ap length (same_tail a e past before parts) in
        let over = over_by l (length before) last covers is in
        absurd (omega arith)
    here (x ∷ after) parts =
        earlier e before (record { after = after; parts = same_tail a x past (after ++ e ∷ before) parts }) covers

still_over : (s : Layout) (past : List Entry) (a : Entry) (l : Level) → IsOver s past l → IsOver s (a ∷ past) l
still_over s past a l o =
    record {
      last = o.last;
      is_last = o.is_last;
      within = (let less = o.within in omega arith);
      is_true =
          older_alone s past a l o.last o.is_last o.within o.is_true;
    }

over_now : (s : Layout) (past : List Entry) (a : Entry) (p : Place)
    → AllByRecursion (IsOver s (a ∷ past)) (option_to_list (level_ended s past a p))
over_now s past a p = here (changes_level s past a p) refl
  where
    here : (b : Bool) → changes_level s past a p ≡ b
        → AllByRecursion (IsOver s (a ∷ past))
        (option_to_list (if b then Some (level_until s past (Some (length past - 1)) p) else None))
    here false is = tt
    here true is =
        let some = changed_later (length past) (height_at s past p) (height_at s (a ∷ past) p) is in
        let l : Level = level_until s past (Some (length past - 1)) p in (
          record {
            last = length past - 1;
            is_last = refl;
            within = omega arith;
            is_true =
                older_alone s past a l (length past - 1) refl (omega arith)
                (λ e before stands covers. true_since s past p (Some (length past - 1)) e before stands covers.begun);
          },
          tt,
        )

all_over : (s : Layout) (past : List Entry) (places : List Place)
    → AllByRecursion (IsOver s past) (levels_ended s past places)
unfolding levels_ended
all_over s [] places = tt
all_over s (a ∷ past) places =
    All_append (IsOver s (a ∷ past)) (levels_ended s past places) (levels_ended_by s past a places)
    (All_map (IsOver s past) (IsOver s (a ∷ past)) (levels_ended s past places) (still_over s past a)
    (all_over s past places))
    (All_flat (IsOver s (a ∷ past)) (λ p. option_to_list (level_ended s past a p)) places (over_now s past a))

left_true : (s : Layout) (past : List Entry) (places : List Place)
    → AllByRecursion (IsTrueWhereItIs s past) (levels_left s past places)
left_true s past [] = tt
left_true s past (p ∷ places) =
    ((λ e before stands covers. true_since s past p None e before stands covers.begun), left_true s past places)

pub levels_are_true : LevelsAreTrue
levels_are_true s past places =
    All_append (IsTrueWhereItIs s past) (levels_ended s past places) (levels_left s past places)
    (All_map (IsOver s past) (IsTrueWhereItIs s past) (levels_ended s past places) (λ l o. o.is_true)
    (all_over s past places))
    (left_true s past places)

-- ---- each place has a level

record HasEnded (s : Layout) (past : List Entry) (places : List Place) (p : Place) (at : ℕ) : Type 0 where
  level : Level
  listed : In level (levels_ended s past places)
  of_place : level.place ≡ p
  covers : Covers level at

ended_or_left : (s : Layout) (places : List Place) (p : Place) → In p places
    → (after : List Entry) (e : Entry) (before : List Entry)
    → HasEnded s (after ++ e ∷ before) places p (length before) ⊎ (level_from s (after ++ e ∷ before) p ≤ length before)
unfolding level_from levels_ended
ended_or_left s places p i [] e before = let within = from_within s (e ∷ before) p in inr (omega arith)
ended_or_left s places p i (a ∷ after) e before =
    ⊎_elim still (λ k. here (changes_level s (after ++ e ∷ before) a p) refl k)
    (ended_or_left s places p i after e before)
  where
    still : HasEnded s (after ++ e ∷ before) places p (length before)
        → HasEnded s (a ∷ (after ++ e ∷ before)) places p (length before)
        ⊎ (level_from s (a ∷ (after ++ e ∷ before)) p ≤ length before)
    still h = inl (record {
      level = h.level;
      listed = in_left (levels_ended s (after ++ e ∷ before) places) (levels_ended_by s (after ++ e ∷ before) a places)
          h.level h.listed;
      of_place = h.of_place;
      covers = h.covers;
    })

    here : (b : Bool) → changes_level s (after ++ e ∷ before) a p ≡ b
        → level_from s (after ++ e ∷ before) p ≤ length before
        → HasEnded s (a ∷ (after ++ e ∷ before)) places p (length before)
        ⊎ ((if b then length (after ++ e ∷ before) else level_from s (after ++ e ∷ before) p) ≤ length before)
    here false is k = inr k
    here true is k =
        let past : List Entry = after ++ e ∷ before in
        let more = not_empty after e before in
        let l : Level = level_until s past (Some (length past - 1)) p in
        let ended : level_ended s past a p ≡ Some l = ap (λ b. if b then Some l else None) is in
        inl (record {
          level = l;
          listed = in_right (levels_ended s past places) (levels_ended_by s past a places) l
              (flat_in (λ r. option_to_list (level_ended s past a r)) places p l i
              (option_in (level_ended s past a p) l ended));
          of_place = refl;
          covers = record { begun = k; not_over = omega arith };
        })

has_level : (s : Layout) (places : List Place) (p : Place) → In p places
    → (past : List Entry) (e : Entry) (before : List Entry)
    → HasEnded s past places p (length before) ⊎ (level_from s past p ≤ length before)
    → HasLevelAt s past places p (length before)
has_level s places p i past e before (inl h) = record {
  level = h.level;
  listed = in_contained (levels_of s past places) h.level
      (in_left (levels_ended s past places) (levels_left s past places) h.level h.listed);
  of_place = h.of_place;
  covers = h.covers;
}
has_level s places p i past e before (inr k) =
    let l : Level = level_until s past None p in
    record {
      level = l;
      listed = in_contained (levels_of s past places) l
          (in_right (levels_ended s past places) (levels_left s past places) l
          (in_mapped (level_until s past None) places p i));
      of_place = refl;
      covers = record { begun = k; not_over = tt };
    }

pub places_have_levels : PlacesHaveLevels
places_have_levels s past places p listed e before stands =
    let i = contained_in places p listed in
    has_level s places p i past e before
    (subst (λ (q : List Entry). HasEnded s q places p (length before) ⊎ (level_from s q p ≤ length before))
    (sym stands.parts) (ended_or_left s places p i stands.after e before))
