-- One seed more of those whose schedules were played.
use Rattle.std.proofs.Common.{ℕ, ◌≡◌, ◌∙◌, ◌<◌, ◌≤◌, ◌+◌, Bool, true, false, if◌then◌else◌, List, ◌∷◌, length, count_by}
use Rattle.std.proofs.Common.{Option, Some, None, ap, refl, subst, sym, arith, nat_le, [], below_more}
use Rattle.std.proofs.lemmas.Bool.{leb-false, leb-true}
use Rattle.std.specs.Prelude.{IfSome}
use Rattle.cmwq_lemmas.proofs.Lists.{count_by-cons}
use Rattle.cmwq_explore.specs.Chances.{IsPlay, chosen_by, played}
use Rattle.cmwq_play.specs.Searches.{Rests, after}
use Rattle.cmwq_explore.specs.Seeds.{EndsAs, IsShortest, StandsAs, TellsSeeds, goes_on, has_ended, is_stuck, ones}
use Rattle.cmwq_explore.specs.Seeds.{shorter_of}
use Rattle.cmwq_play.specs.Stands.{IsDone, Stand}
use Rattle.cmwq_play.specs.declared.play.Standing.{Standing}
use Rattle.cmwq_play.specs.declared.play.Standing.TheVariants as standings
use Rattle.cmwq_explore.specs.declared.seeds.StuckSeed.{StuckSeed}
use Rattle.cmwq_explore.specs.declared.seeds.Tally.{Tally}

-- a stand that is stuck stands in no other way
stuck_once : (s : Standing) (p : Stand) → StandsAs s p → StandsAs standings.Stuck p → is_stuck s ≡ true
stuck_once standings.Ended p stands stuck = absurd (stuck.1 stands.1)
stuck_once standings.Stuck p stands stuck = refl
stuck_once standings.Goes p stands stuck = absurd (stands stuck.0)

stuck_is : (s : Standing) → is_stuck s ≡ true → s ≡ standings.Stuck
stuck_is standings.Stuck is = refl
stuck_is standings.Ended is = cc
stuck_is standings.Goes is = cc

pub stands_as : (s : Standing) (p : Stand) → (s ≡ standings.Ended → Rests p × IsDone p)
    → (s ≡ standings.Stuck → Rests p × (IsDone p → ⊥)) → (s ≡ standings.Goes → Rests p → ⊥) → StandsAs s p
stands_as standings.Ended p ended stuck goes = ended refl
stands_as standings.Stuck p ended stuck goes = stuck refl
stands_as standings.Goes p ended stuck goes = goes refl

pub ends_as : (start : Stand) (moves seed made : ℕ) (path : List ℕ) (p : Stand) (s : Standing)
    → IsPlay start moves made path p → path ≡ chosen_by moves seed start → StandsAs s p → EndsAs start moves seed s
ends_as start moves seed made path p s plays chosen stands =
    subst (StandsAs s) (plays.goes.1 ∙ ap (after start) chosen) stands

-- each ends in one way
pub ones_of : (s : Standing) → ones (has_ended s) + ones (is_stuck s) + ones (goes_on s) ≡ 1
ones_of standings.Ended = refl
ones_of standings.Stuck = refl
ones_of standings.Goes = refl

-- no seed
pub no_seeds : (start : Stand) (moves first : ℕ) (t : Tally) → t.ended ≡ 0 → t.stuck ≡ 0 → t.cut ≡ 0
    → t.shortest ≡ None → TellsSeeds start moves first 0 t
no_seeds start moves first t ended stuck cut shortest = record {
  ends = [];
  all = refl;
  each = tt;
  ended = ended;
  stuck = stuck;
  cut = cut;
  shortest = subst (λ (s : Option StuckSeed). IfSome s (IsShortest start moves first 0)) (sym shortest) tt;
  none = λ _ k less. absurd (omega arith);
}

-- what is told of a schedule more, which ended so after so many moves
pub record IsNext (start : Stand) (moves first count : ℕ) (old new : Tally) (standing : Standing) (s : StuckSeed) :
    Type 0
  where
    pub seed : s.seed ≡ first + count
    pub long : s.moves ≡ length (chosen_by moves (first + count) start)
    pub ends : EndsAs start moves (first + count) standing
    pub ended : new.ended ≡ old.ended + ones (has_ended standing)
    pub stuck : new.stuck ≡ old.stuck + ones (is_stuck standing)
    pub cut : new.cut ≡ old.cut + ones (goes_on standing)
    pub shortest : new.shortest ≡ (if is_stuck standing then Some (shorter_of old.shortest s) else old.shortest)

module _ (start : Stand) (moves first count : ℕ) where
  abbrev stuck_at : ℕ → Type 0
  stuck_at k = EndsAs start moves (first + k) standings.Stuck

  abbrev long_at : ℕ → ℕ
  long_at k = length (chosen_by moves (first + k) start)

  -- the new one gets stuck, and is the shortest
  new_shortest : (s : StuckSeed) → s.seed ≡ first + count → s.moves ≡ long_at count → stuck_at count
      → ((k : ℕ) → k < count → stuck_at k → s.moves ≤ long_at k) → IsShortest start moves first (count + 1) s
  new_shortest s seed long stuck least = record {
    from = omega (arith, seed);
    below = omega (arith, seed);
    stuck = subst (λ n. EndsAs start moves n standings.Stuck) (sym seed) stuck;
    long = long ∙ ap (λ n. length (chosen_by moves n start)) (sym seed);
    least = below_more (λ k. stuck_at k → s.moves ≤ long_at k) count least (λ _. omega (arith, long));
  }

  -- the old one is, where the new one is not shorter if it gets stuck
  old_shortest : (s : StuckSeed) → IsShortest start moves first count s → (stuck_at count → s.moves ≤ long_at count)
      → IsShortest start moves first (count + 1) s
  old_shortest s was last = record {
    from = was.from;
    below = let below = was.below in omega arith;
    stuck = was.stuck;
    long = was.long;
    least = below_more (λ k. stuck_at k → s.moves ≤ long_at k) count was.least last;
  }

  shortest_of_both : (old : Option StuckSeed) (s : StuckSeed) → IfSome old (IsShortest start moves first count)
      → (old ≡ None → (k : ℕ) → k < count → stuck_at k → ⊥) → s.seed ≡ first + count → s.moves ≡ long_at count
      → stuck_at count → IsShortest start moves first (count + 1) (shorter_of old s)
  shortest_of_both None s was none seed long stuck =
      new_shortest s seed long stuck (λ k less other. absurd (none refl k less other))
  shortest_of_both (Some one) s was none seed long stuck = here (nat_le one.moves s.moves) refl
    where
      here : (b : Bool) → nat_le one.moves s.moves ≡ b
          → IsShortest start moves first (count + 1) (shorter_of (Some one) s)
      here true less =
          let le = leb-true one.moves s.moves less in
          rw less (old_shortest one was (λ _. omega (arith, le, long)))
      here false more =
          let lt = leb-false one.moves s.moves more in
          rw more (new_shortest s seed long stuck (λ k less other. let most = was.least k less other in omega arith))

  kept_shortest : (old : Option StuckSeed) → IfSome old (IsShortest start moves first count) → (stuck_at count → ⊥)
      → IfSome old (IsShortest start moves first (count + 1))
  kept_shortest None was not = tt
  kept_shortest (Some one) was not = old_shortest one was (λ stuck. absurd (not stuck))

  module _ (old new : Tally) (standing : Standing) (s : StuckSeed) (was : TellsSeeds start moves first count old)
      (next : IsNext start moves first count old new standing s) where
    not_stuck : is_stuck standing ≡ false → stuck_at count → ⊥
    not_stuck not stuck =
        let is = stuck_once standing (played moves (first + count) start) next.ends stuck in
        let no = sym is ∙ not in
        cc

    shortest_now : (b : Bool) → is_stuck standing ≡ b → IfSome new.shortest (IsShortest start moves first (count + 1))
    shortest_now true is =
        let here = stuck_is standing is in
        let stuck = subst (λ e. EndsAs start moves (first + count) e) here next.ends in
        subst (λ (o : Option StuckSeed). IfSome o (IsShortest start moves first (count + 1)))
        (sym (rw is at next.shortest))
        (shortest_of_both old.shortest s was.shortest was.none next.seed next.long stuck)
    shortest_now false not =
        subst (λ (o : Option StuckSeed). IfSome o (IsShortest start moves first (count + 1)))
        (sym (rw not at next.shortest)) (kept_shortest old.shortest was.shortest (not_stuck not))

    none_now : (b : Bool) → is_stuck standing ≡ b → new.shortest ≡ None → (k : ℕ) → k < count + 1 → stuck_at k → ⊥
    none_now true is none = let no = sym (rw is at next.shortest) ∙ none in cc
    none_now false not none =
        let before = sym (rw not at next.shortest) ∙ none in
        below_more (λ k. stuck_at k → ⊥) count (was.none before) (not_stuck not)

    counted : (p : Standing → Bool) (n m : ℕ) → n ≡ count_by p was.ends → m ≡ n + ones (p standing)
        → m ≡ count_by p (standing ∷ was.ends)
    counted p n m is more =
        more ∙ ap (λ k. k + ones (p standing)) is ∙ omega arith ∙ sym (count_by-cons p standing was.ends)

    -- what is told with one schedule more
    pub one_more : TellsSeeds start moves first (count + 1) new
    one_more = record {
      ends = standing ∷ was.ends;
      all = let all = was.all in omega arith;
      each = (subst (λ n. EndsAs start moves (first + n) standing) (sym was.all) next.ends, was.each);
      ended = counted has_ended old.ended new.ended was.ended next.ended;
      stuck = counted is_stuck old.stuck new.stuck was.stuck next.stuck;
      cut = counted goes_on old.cut new.cut was.cut next.cut;
      shortest = shortest_now (is_stuck standing) refl;
      none = none_now (is_stuck standing) refl;
    }
