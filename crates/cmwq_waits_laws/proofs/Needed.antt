-- Waits of a deadlock that an entry lets go end, by computation.
use Rattle.std.proofs.Common.{◌≡◌, ◌∷◌, ◌++◌, true, false, List, [], map, refl, subst, sym, arith, ⊎_elim}
use Rattle.std.specs.Prelude.{Contains}
use Rattle.std.specs.List.{AllByRecursion, list_any}
use Rattle.std.proofs.lemmas.Bool.{both_ways}
use Rattle.cmwq_lemmas.proofs.Members.{contained_in}
use Rattle.cmwq_model.specs.Prelude.{IsLegal, finishes, fits, is_unended, past_of, steps}
use Rattle.cmwq_model.specs.declared.call.Call.{Call}
use Rattle.cmwq_model.specs.declared.entry.Entry.{Entry}
use Rattle.cmwq_model.specs.declared.id.Who.{Who}
use Rattle.cmwq_model_examples.specs.Words.{call_made}
use Rattle.cmwq_model_examples.proofs.Definitions.{definitions}
use Rattle.cmwq_theory_laws.proofs.OneEntry.{steps_are_legal}
use Rattle.cmwq_waits.specs.HeldUp.{IsDeadlock, IsWaiting, Scene, is_held_up}
use Rattle.cmwq_waits.specs.declared.run_wait.RunWait.{RunWait}
use Rattle.cmwq_waits_laws.specs.Lasting.{FinishAfterWaits, scene_of}
use Rattle.cmwq_waits_laws.specs.Needed.{EndsAfterAll, Story, WaitsMayBeLetGo, made_wider, taken_back}
use Rattle.cmwq_waits_laws.specs.Needed.{taken_back_behind}

-- the only wait
alone : (w v : RunWait) → Contains (w ∷ []) v → w ≡ v
alone w v here = ⊎_elim (λ (same : w ≡ v). same) (λ none. absurd none) (contained_in (w ∷ []) v here)

alone_dead : (c : Scene) (w : RunWait) → is_held_up c (w ∷ []) w.ticket ≡ true → IsDeadlock c (w ∷ []) (λ n. true)
alone_dead c w held v here is = subst (λ (u : RunWait). is_held_up c (w ∷ []) u.ticket ≡ true) (alone w v here) held

-- a run that never finishes doesn't finish before its wait has ended
never_finishes : (w : RunWait) (later : List Entry) → list_any (finishes w.run.number) later ≡ false
    → FinishAfterWaits (w ∷ []) later
never_finishes w [] none = tt
never_finishes w (e ∷ later) none = (
  λ v here finishes_it. absurd
      (both_ways _ none
      (let it = subst (λ (u : RunWait). finishes u.run.number e ≡ true) (sym (alone w v here)) finishes_it in
      grind (arith, it))),
  never_finishes w later (grind arith),
)

-- a story is told by what its calls give
abbrev calls : Story → List (Who × Call)
calls x = map call_made (x.first ++ x.later)

told : (x : Story) → AllByRecursion (λ (c : Who × Call). fits x.layout c.0 c.1 ≡ true) (calls x)
    → (steps x.layout x.layout.room (calls x)).past ≡ past_of x.later ++ past_of x.first
    → IsWaiting (past_of x.first) x.wait
    → is_held_up (scene_of x.layout (past_of x.first)) (x.wait ∷ []) x.wait.ticket ≡ true
    → list_any (finishes x.wait.run.number) (past_of x.later) ≡ false
    → is_unended (past_of x.later) x.wait.ticket ≡ false → EndsAfterAll x
told x fit gives waits held none ended = record {
  legal = subst (IsLegal x.layout) gives (steps_are_legal x.layout x.layout.room (calls x) fit);
  waits = waits;
  deadlock = alone_dead (scene_of x.layout (past_of x.first)) x.wait held;
  finishes = never_finishes x.wait (past_of x.later) none;
  ended = ended;
}

taken_back_ends : EndsAfterAll taken_back
unfolding definitions
taken_back_ends =
    told taken_back (refl, (refl, (refl, (refl, (refl, (refl, tt)))))) refl
    (record { is_open = (0, omega arith, refl); has_started = refl; is_unended = (0, omega arith, refl) }) refl refl
    refl

taken_back_behind_ends : EndsAfterAll taken_back_behind
unfolding definitions
taken_back_behind_ends =
    told taken_back_behind (refl, (refl, (refl, (refl, (refl, (refl, (refl, (refl, (refl, (refl, tt)))))))))) refl
    (record { is_open = (0, omega arith, refl); has_started = refl; is_unended = (0, omega arith, refl) }) refl refl
    refl

made_wider_ends : EndsAfterAll made_wider
unfolding definitions
made_wider_ends =
    told made_wider (refl, (refl, (refl, (refl, (refl, (refl, (refl, (refl, (refl, tt))))))))) refl
    (record { is_open = (0, omega arith, refl); has_started = refl; is_unended = (0, omega arith, refl) }) refl refl
    refl

pub waits_may_be_let_go : WaitsMayBeLetGo
waits_may_be_let_go = (taken_back_ends, taken_back_behind_ends, made_wider_ends)
