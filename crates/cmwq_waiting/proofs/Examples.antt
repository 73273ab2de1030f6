-- Which runs wait in small histories, and which entries trap them, by computation.
use Rattle.std.proofs.Common.{◌≡◌, ◌∷◌, ◌++◌, ◌∙◌, Bool, List, ℕ, ap, cond, false, inl, refl, subst, sym, true, ⊎_elim}
use Rattle.std.proofs.Common.{[]}
use Rattle.std.specs.Prelude.{Contains}
use Rattle.std.proofs.lemmas.Bool.{both_ways, false_from_ne_true}
use Rattle.cmwq_lemmas.proofs.Members.{In, contained_in, in_contained}
use Rattle.cmwq_model.specs.Prelude.{Layout, past_of}
use Rattle.cmwq_model.specs.declared.entry.Entry.{Entry}
use Rattle.cmwq_model_examples.proofs.Definitions.{definitions}
use Rattle.cmwq_waits.specs.HeldUp.{IsDeadlock, is_held_up, members}
use Rattle.cmwq_waits.specs.declared.run_wait.RunWait.{RunWait}
use Rattle.cmwq_waits_laws.specs.Lasting.{scene_of}
use Rattle.cmwq_waiting.specs.Deadlocks.{NoDeadlock}
use Rattle.cmwq_waiting.specs.Examples.{EntriesMayTrap, WhoWaits, narrowing, queueing}
use Rattle.cmwq_waiting.specs.Needed.{draining, one_queue, two_places, two_queues}
unfoldable use Rattle.cmwq_waits.specs.Begun.{waits_of}
use Rattle.cmwq_waiting.proofs.Needed.{told}

pub who_waits : WhoWaits
unfolding definitions waits_of
who_waits = record { waits = refl; behind = refl; not_lent = refl; ended = refl; no_sleep = refl }

-- ---- where only one run waits

the_only : (w v : RunWait) (ws : List RunWait) → ws ≡ w ∷ [] → Contains ws v → w ≡ v
the_only w v ws is here =
    ⊎_elim (λ (same : w ≡ v). same) (λ none. absurd none)
    (contained_in (w ∷ []) v (subst (λ (us : List RunWait). Contains us v) is here))

it_waits : (past : List Entry) (w : RunWait) → waits_of 1 past ≡ w ∷ [] → Contains (waits_of 1 past) w
it_waits past w is = in_contained (waits_of 1 past) w (subst (In w) (sym is) (inl refl))

only_member : (p : ℕ → Bool) (w : RunWait) (ws : List RunWait) → ws ≡ w ∷ [] → p w.run.number ≡ true
    → members p ws ≡ w ∷ []
only_member p w ws is has = ap (members p) is ∙ ap (λ b. cond b (w ∷ []) []) has

-- no waits are a deadlock if it does not hold itself up, and some are if it does
free : (s : Layout) (past : List Entry) (w : RunWait) → waits_of 1 past ≡ w ∷ []
    → is_held_up (scene_of s past) (w ∷ []) w.ticket ≡ false → NoDeadlock 1 s past
free s past w is not_held p dead v here =
    false_from_ne_true _ (λ has.
    let has_w = subst (λ (u : RunWait). p u.run.number ≡ true) (sym (the_only w v (waits_of 1 past) is here)) has in
    both_ways _ not_held
    (subst (λ (us : List RunWait). is_held_up (scene_of s past) us w.ticket ≡ true)
    (only_member p w (waits_of 1 past) is has_w) (dead w (it_waits past w is) has_w)))

dead : (s : Layout) (past : List Entry) (w : RunWait) → waits_of 1 past ≡ w ∷ []
    → is_held_up (scene_of s past) (w ∷ []) w.ticket ≡ true → NoDeadlock 1 s past → ⊥
dead s past w is held none = absurd (cc (none (λ n. true) all w (it_waits past w is)))
  where
    all : IsDeadlock (scene_of s past) (waits_of 1 past) (λ n. true)
    all v here has =
        subst (λ (u : RunWait). is_held_up (scene_of s past) (members (λ n. true) (waits_of 1 past)) u.ticket ≡ true)
        (the_only w v (waits_of 1 past) is here)
        (subst (λ (us : List RunWait). is_held_up (scene_of s past) us w.ticket ≡ true)
        (sym (only_member (λ n. true) w (waits_of 1 past) is refl)) held)

pub entries_may_trap : EntriesMayTrap
unfolding definitions waits_of
entries_may_trap = record {
  narrows = record {
    legal = told (one_queue 2) (two_places ++ narrowing ∷ [])
        (refl, (refl, (refl, (refl, (refl, (refl, (refl, (refl, tt)))))))) refl;
    none = free (one_queue 2) (past_of two_places) _ refl refl;
    some = dead (one_queue 2) (narrowing ∷ past_of two_places) _ refl refl;
  };
  queues = record {
    legal = told two_queues (draining ++ queueing ∷ [])
        (refl, (refl, (refl, (refl, (refl, (refl, (refl, tt))))))) refl;
    none = free two_queues (past_of draining) _ refl refl;
    some = dead two_queues (queueing ∷ past_of draining) _ refl refl;
  };
}
