-- The entries that steps make are of their calls, and no more than these.
use Rattle.cmwq_output_laws.specs.Common.{◌≤◌, ◌<◌, ◌+◌, ◌-◌, ℕ, Bool, true, false, List, [], ◌∷◌, length, subst, sym}
use Rattle.cmwq_output_laws.specs.Common.{arith, fold, if◌then◌else◌, reverse, All, AllByRecursion, get_or-reverse}
use Rattle.cmwq_output_laws.specs.Common.{length-reverse, Who, Call, Entry, Layout, entry_for, Steps, has_room, step}
use Rattle.cmwq_output_laws.specs.Common.{steps, none}

module _ (s : Layout) (room : ℕ) where
  -- one step, by whether the call has room
  abbrev stepped : Bool → Steps → Who × Call → Steps
  stepped b t c =
      if b then record { past = entry_for s t.past c.0 c.1 ∷ t.past; left_out = t.left_out }
      else record { past = t.past; left_out = t.left_out + 1 }

  one_more : (t : Steps) (c : Who × Call) → length (step s room t c).past ≤ length t.past + 1
  one_more t c = here (has_room s room t.past c.0 c.1)
    where
      here : (b : Bool) → length (stepped b t c).past ≤ length t.past + 1
      here true = omega arith
      here false = omega arith

  few_on : (calls : List (Who × Call)) (t : Steps)
      → length (fold (step s room) t calls).past ≤ length t.past + length calls
  few_on [] t = omega arith
  few_on (c ∷ calls) t = let one = one_more t c in let rest = few_on calls (step s room t c) in omega arith

  pub steps_are_few : (calls : List (Who × Call)) → length (steps s room calls).past ≤ length calls
  steps_are_few calls = let all = few_on calls none in omega arith

  module _ (P : Who × Call → Type 0) where
    abbrev IsOf : Entry → Type 0
    IsOf e = P (e.who, e.call)

    step_is_of : (t : Steps) (c : Who × Call) → P c → AllByRecursion IsOf t.past
        → AllByRecursion IsOf (step s room t c).past
    step_is_of t c own older = here (has_room s room t.past c.0 c.1)
      where
        here : (b : Bool) → AllByRecursion IsOf (stepped b t c).past
        here true = (own, older)
        here false = older

    of_on : (calls : List (Who × Call)) (t : Steps) → AllByRecursion P calls → AllByRecursion IsOf t.past
        → AllByRecursion IsOf (fold (step s room) t calls).past
    of_on [] t each older = older
    of_on (c ∷ calls) t each older = of_on calls (step s room t c) each.1 (step_is_of t c each.0 older)

    pub steps_are_of : (calls : List (Who × Call)) → AllByRecursion P calls
        → AllByRecursion IsOf (steps s room calls).past
    steps_are_of calls each = of_on calls none each tt

pub all_reversed : {X : Type 0} (P : X → Type 0) (xs : List X) → All P xs → All P (reverse xs)
all_reversed P xs each i d lt =
    let same = length-reverse xs in
    let inside : i < length xs = omega arith in
    subst P (sym (get_or-reverse xs i d inside)) (each (length xs - 1 - i) d (omega arith))
