-- The examples, by computation.
use Rattle.std.specs.List.{AllByRecursion}
use Rattle.cmwq_theory_steps.specs.Common.{◌≡◌, ◌∷◌, ◌++◌, true, List, [], map, refl, subst, arith, fits}
use Rattle.cmwq_theory_steps.specs.Common.{Call, IsLegal, Who, past_of}
use Rattle.cmwq_model.specs.Prelude.{steps}
use Rattle.cmwq_model_examples.specs.Words.{call_made}
use Rattle.cmwq_model_examples.proofs.Definitions.{definitions}
use Rattle.cmwq_theory_laws.proofs.OneEntry.{steps_are_legal}
use Rattle.cmwq_order_laws.specs.Needed.{AsManyMayStart, Holds, IsNeeded, Premise, PremisesAreNeeded, Story}
use Rattle.cmwq_order_laws.specs.Needed.{behind_its_run, inactive, out_of_turn, queued, started, taken_back, two_before}
use Rattle.cmwq_order_laws.specs.Needed as needed

-- a story that is told by what its calls give is legal
abbrev calls : Story → List (Who × Call)
calls x = map call_made (x.first ++ x.later)

told : (x : Story) → AllByRecursion (λ (c : Who × Call). fits x.layout c.0 c.1 ≡ true) (calls x)
    → (steps x.layout x.layout.room (calls x)).past ≡ past_of x.later ++ past_of x.first → Holds needed.legal x
told x fit gives = subst (IsLegal x.layout) gives (steps_are_legal x.layout x.layout.room (calls x) fit)

pub as_many_may_start : AsManyMayStart
unfolding definitions
as_many_may_start = record {
  waits = record {
    legal = told two_before (refl, (refl, (refl, (refl, (refl, (refl, tt)))))) refl;
    stands = record { behind = []; worklist_is = refl };
    is_open = refl;
    not_started = refl;
  };
  is_free = refl;
  as_many = refl;
}

legal_needed : IsNeeded needed.legal out_of_turn
unfolding definitions
legal_needed = record { others = others; more = omega arith }
  where
    others : (r : Premise) → (r ≡ needed.legal → ⊥) → Holds r out_of_turn
    others needed.legal not = absurd (not refl)
    others needed.stands not = record { behind = queued 1 0 1 ∷ []; worklist_is = refl }
    others needed.is_free not = refl
    others needed.is_open not = refl
    others needed.not_started not = refl

stands_needed : IsNeeded needed.stands inactive
unfolding definitions
stands_needed = record { others = others; more = omega arith }
  where
    others : (r : Premise) → (r ≡ needed.stands → ⊥) → Holds r inactive
    others needed.legal not = told inactive (refl, (refl, (refl, (refl, (refl, (refl, tt)))))) refl
    others needed.stands not = absurd (not refl)
    others needed.is_free not = refl
    others needed.is_open not = refl
    others needed.not_started not = refl

free_needed : IsNeeded needed.is_free behind_its_run
unfolding definitions
free_needed = record { others = others; more = omega arith }
  where
    others : (r : Premise) → (r ≡ needed.is_free → ⊥) → Holds r behind_its_run
    others needed.legal not = told behind_its_run (refl, (refl, (refl, (refl, (refl, (refl, tt)))))) refl
    others needed.stands not = record { behind = []; worklist_is = refl }
    others needed.is_free not = absurd (not refl)
    others needed.is_open not = refl
    others needed.not_started not = refl

open_needed : IsNeeded needed.is_open taken_back
unfolding definitions
open_needed = record { others = others; more = omega arith }
  where
    others : (r : Premise) → (r ≡ needed.is_open → ⊥) → Holds r taken_back
    others needed.legal not = told taken_back (refl, (refl, (refl, (refl, tt)))) refl
    others needed.stands not = record { behind = []; worklist_is = refl }
    others needed.is_free not = refl
    others needed.is_open not = absurd (not refl)
    others needed.not_started not = refl

start_needed : IsNeeded needed.not_started started
unfolding definitions
start_needed = record { others = others; more = omega arith }
  where
    others : (r : Premise) → (r ≡ needed.not_started → ⊥) → Holds r started
    others needed.legal not = told started (refl, (refl, tt)) refl
    others needed.stands not = record { behind = []; worklist_is = refl }
    others needed.is_free not = refl
    others needed.is_open not = refl
    others needed.not_started not = absurd (not refl)

pub premises_are_needed : PremisesAreNeeded
premises_are_needed = record {
  of_legal = legal_needed;
  of_stands = stands_needed;
  of_is_open = open_needed;
  of_not_started = start_needed;
  of_is_free = free_needed;
}
