-- Of a place one level alone covers an entry.
use Rattle.std.proofs.Common.{◌≡◌, ℕ, ◌-◌, ◌<◌, Bool, true, false, List, [], ◌∷◌, length, nat_lt, Some, None}
use Rattle.std.proofs.Common.{option_to_list, refl, sym, ap, ◌∙◌, arith}
use Rattle.std.specs.Prelude.{if◌then◌else◌}
use Rattle.std.specs.List.{AllByRecursion}
use Rattle.std.proofs.lemmas.Bool.{lt-ltb, le-ltb}
use Rattle.cmwq_lemmas.proofs.Lists.{All_append, All_map, All_flat}
use Rattle.cmwq_model.specs.declared.entry.Entry.{Entry}
use Rattle.cmwq_model.specs.declared.record.Place.{Place}
use Rattle.cmwq_model.specs.Prelude.{Layout}
use Rattle.cmwq_chart.specs.declared.levels.Level.{Level}
use Rattle.cmwq_chart.specs.Levels.{height_at, changes_level, level_from, level_until, level_ended, levels_ended_by}
use Rattle.cmwq_chart.specs.Levels.{levels_ended, levels_left, levels_of}
use Rattle.cmwq_output_laws.specs.LevelLaws.{Covers, AreOne, LevelsAreAlone}
use Rattle.cmwq_output_laws.proofs.LevelsStand.{changed_later, from_within, over_by}

-- the level of a place that covers an entry, among those that have ended and among all
unfoldable pub ended_cover : Layout → List Entry → Place → ℕ → Level
ended_cover s [] p at = level_until s [] None p
ended_cover s (a ∷ past) p at =
    if nat_lt at (level_from s past p) then ended_cover s past p at
    else if changes_level s past a p then level_until s past (Some (length past - 1)) p
    else ended_cover s past p at

abbrev pub all_cover : Layout → List Entry → Place → ℕ → Level
all_cover s past p at = if nat_lt at (level_from s past p) then ended_cover s past p at else level_until s past None p

-- one that has ended did so before that which goes on begins, and is the one that covers its entries
record IsClosed (s : Layout) (past : List Entry) (l : Level) : Type 0 where
  last : ℕ
  is_last : l.to ≡ Some last
  before : last < level_from s past l.place
  found : (at : ℕ) → Covers l at → l ≡ ended_cover s past l.place at

closed_later : (s : Layout) (past : List Entry) (a : Entry) (l : Level) → IsClosed s past l → IsClosed s (a ∷ past) l
unfolding level_from ended_cover
closed_later s past a l c = record {
  last = c.last;
  is_last = c.is_last;
  before = here (changes_level s past a l.place);
  found = λ at covers.
      let over = over_by l at c.last covers c.is_last in
      let old = c.before in
      let early : nat_lt at (level_from s past l.place) ≡ true = lt-ltb at (level_from s past l.place) (omega arith) in
      c.found at covers
      ∙ sym (ap (λ b. if b then ended_cover s past l.place at else if changes_level s past a l.place
      then level_until s past (Some (length past - 1)) l.place else ended_cover s past l.place at) early);
}
  where
    here : (b : Bool) → c.last < (if b then length past else level_from s past l.place)
    here true = let within = from_within s past l.place in let old = c.before in omega arith
    here false = c.before

closed_now : (s : Layout) (past : List Entry) (a : Entry) (p : Place)
    → AllByRecursion (IsClosed s (a ∷ past)) (option_to_list (level_ended s past a p))
unfolding level_from ended_cover
closed_now s past a p = here (changes_level s past a p) refl
  where
    l : Level
    l = level_until s past (Some (length past - 1)) p

    here : (b : Bool) → changes_level s past a p ≡ b
        → AllByRecursion (IsClosed s (a ∷ past)) (option_to_list (if b then Some l else None))
    here false is = tt
    here true is =
        let some = changed_later (length past) (height_at s past p) (height_at s (a ∷ past) p) is in
        let begun : (if changes_level s past a p then length past else level_from s past p) ≡ length past =
        ap (λ b. if b then length past else level_from s past p) is in (
          record {
            last = length past - 1;
            is_last = refl;
            before = omega (arith, begun, some);
            found = λ at covers.
                sym (ap (λ b. if b then ended_cover s past p at else if changes_level s past a p then l
                else ended_cover s past p at) (le-ltb at (level_from s past p) covers.begun)
                ∙ ap (λ b. if b then l else ended_cover s past p at) is);
          },
          tt,
        )

all_closed : (s : Layout) (past : List Entry) (places : List Place)
    → AllByRecursion (IsClosed s past) (levels_ended s past places)
unfolding levels_ended
all_closed s [] places = tt
all_closed s (a ∷ past) places =
    All_append (IsClosed s (a ∷ past)) (levels_ended s past places) (levels_ended_by s past a places)
    (All_map (IsClosed s past) (IsClosed s (a ∷ past)) (levels_ended s past places) (closed_later s past a)
    (all_closed s past places))
    (All_flat (IsClosed s (a ∷ past)) (λ p. option_to_list (level_ended s past a p)) places (closed_now s past a))

abbrev IsFound : Layout → List Entry → Level → Type 0
IsFound s past l = (at : ℕ) → Covers l at → l ≡ all_cover s past l.place at

closed_found : (s : Layout) (past : List Entry) (l : Level) → IsClosed s past l → IsFound s past l
closed_found s past l c at covers =
    let over = over_by l at c.last covers c.is_last in
    let old = c.before in
    let early : nat_lt at (level_from s past l.place) ≡ true = lt-ltb at (level_from s past l.place) (omega arith) in
    c.found at covers
    ∙ sym (ap (λ b. if b then ended_cover s past l.place at else level_until s past None l.place) early)

left_found : (s : Layout) (past : List Entry) (places : List Place)
    → AllByRecursion (IsFound s past) (levels_left s past places)
left_found s past [] = tt
left_found s past (p ∷ places) = (
  (λ at covers.
      sym (ap (λ b. if b then ended_cover s past p at else level_until s past None p)
      (le-ltb at (level_from s past p) covers.begun))),
  left_found s past places,
)

all_found : (s : Layout) (past : List Entry) (places : List Place)
    → AllByRecursion (IsFound s past) (levels_of s past places)
all_found s past places =
    All_append (IsFound s past) (levels_ended s past places) (levels_left s past places)
    (All_map (IsClosed s past) (IsFound s past) (levels_ended s past places) (closed_found s past)
    (all_closed s past places))
    (left_found s past places)

pub levels_are_alone : LevelsAreAlone
levels_are_alone s past places =
    All_map (IsFound s past) (λ l. AllByRecursion (AreOne l) (levels_of s past places)) (levels_of s past places)
    (λ l fl. All_map (IsFound s past) (AreOne l) (levels_of s past places)
    (λ m fm at same cl cm. fl at cl ∙ ap (λ p. all_cover s past p at) same ∙ sym (fm at cm))
    (all_found s past places))
    (all_found s past places)
