-- A pool that an entry does not reach stays attended.
use Rattle.std.specs.Prelude.{◌⊎◌}
use Rattle.std.proofs.Common.{⊎_elim, inl, inr}
use Rattle.cmwq_theory_steps.specs.Common.{◌≡◌, Bool, true, false, List, ◌∷◌, refl}
use Rattle.cmwq_theory_steps.specs.Common.{sym, ap, ◌∙◌, subst, Entry, Layout, PoolId, WorkerId, Worker}
use Rattle.cmwq_theory_steps.specs.Common.{IsLegal, same_pool, worker_at}
use Rattle.std.proofs.lemmas.Bool.{both_ways, and_parts, false_from_ne_true}
use Rattle.cmwq_theory_steps.specs.Endings.{ending}
use Rattle.cmwq_theory_steps.proofs.ItemRuns.{same_worker_itself}
use Rattle.cmwq_theory_steps.proofs.Pools.{same_pool-true}
use Rattle.cmwq_theory_wakes.specs.Reach.{Reach, Reaches, reach_by_ending, reach_by_reply}
use Rattle.cmwq_theory_wakes.specs.Reach as reaches
use Rattle.cmwq_theory_wakes.proofs.Attended.{stay_attended}
use Rattle.cmwq_theory_wakes.proofs.Reaching.{reach_suffices}
use Rattle.cmwq_dispatch.specs.Pools.{IsAttendedAt, OwnIsUp, RestSame, rests}
use Rattle.cmwq_dispatch.proofs.EachPool.{attended_same, rests_at, rests_there}
use Rattle.cmwq_dispatch.specs.declared.resting.RestingWorkers.{RestingWorkers}

same_itself : (p : PoolId) → same_pool p p ≡ true
same_itself p = (and_parts (same_pool p p) _ (same_worker_itself (worker_at p 0))).0

-- a pool is reached or not
reached_or : (r : Reach) (p : PoolId) → Reaches r p ⊎ (Reaches r p → ⊥)
reached_or reaches.nowhere p = inr (λ h. h)
reached_or reaches.everywhere p = inl tt
reached_or (reaches.only q) p = at (same_pool q p) refl
  where
    at : (b : Bool) → same_pool q p ≡ b → (q ≡ p) ⊎ (q ≡ p → ⊥)
    at true is = inl (same_pool-true q p is)
    at false is = inr (λ same. both_ways _ is (ap (λ r. same_pool r p) same ∙ same_itself p))

-- whoever made the entry does not rest
own_rests_not : (e : Entry) (xs : List RestingWorkers) → OwnIsUp e xs → (w : WorkerId) → e.who ≡ Worker w
    → rests xs w ≡ false
own_rests_not e xs own w who = false_from_ne_true _ (λ r. let k = rests_there xs w r in
    both_ways _ (own w k.0 who k.1).0 (sym (rests_at xs w k.0 k.1) ∙ r))

pub attended_after : (s : Layout) (past : List Entry) (e : Entry) (old mid one new : List RestingWorkers) (p : PoolId)
    → IsLegal s (e ∷ past) → OwnIsUp e old → RestSame old mid → IsAttendedAt s past old p
    → (Reaches (reach_by_ending s e (ending past e)) p → IsAttendedAt s (e ∷ past) one p)
    → (IsAttendedAt s (e ∷ past) mid p → IsAttendedAt s (e ∷ past) one p)
    → (Reaches (reach_by_reply s e e.reply) p → IsAttendedAt s (e ∷ past) new p)
    → (IsAttendedAt s (e ∷ past) one p → IsAttendedAt s (e ∷ past) new p) → IsAttendedAt s (e ∷ past) new p
attended_after s past e old mid one new p legal own same was by_end keeps by keeps_on = ⊎_elim by
    (λ far. ⊎_elim (λ here. keeps_on (by_end here)) (λ away. keeps_on (keeps (stay far away)))
    (reached_or (reach_by_ending s e (ending past e)) p)) (reached_or (reach_by_reply s e e.reply) p)
  where
    stay : (Reaches (reach_by_reply s e e.reply) p → ⊥) → (Reaches (reach_by_ending s e (ending past e)) p → ⊥)
        → IsAttendedAt s (e ∷ past) mid p
    stay far away = attended_same s (e ∷ past) p (rests old) (rests mid) (λ w pool. same.rest w)
        (stay_attended s past e legal (rests old) p (own_rests_not e old own)
        (λ t. ⊎_elim far away (reach_suffices s past e legal p t)) was)

pub attended_now : (s : Layout) (now past : List Entry) (e : Entry) (old mid one new : List RestingWorkers) (p : PoolId)
    (ending_reach reach : Reach) → now ≡ e ∷ past → ending_reach ≡ reach_by_ending s e (ending past e)
    → reach ≡ reach_by_reply s e e.reply → IsLegal s now → OwnIsUp e old → RestSame old mid
    → IsAttendedAt s past old p → (Reaches ending_reach p → IsAttendedAt s now one p)
    → (IsAttendedAt s now mid p → IsAttendedAt s now one p) → (Reaches reach p → IsAttendedAt s now new p)
    → (IsAttendedAt s now one p → IsAttendedAt s now new p) → IsAttendedAt s now new p
attended_now s now past e old mid one new p ending_reach reach is ending_is reach_is legal own same was by_end keeps by
    keeps_on =
    subst (λ n. (Reaches ending_reach p → IsAttendedAt s n one p) → (IsAttendedAt s n mid p → IsAttendedAt s n one p)
    → (Reaches reach p → IsAttendedAt s n new p) → (IsAttendedAt s n one p → IsAttendedAt s n new p)
    → IsAttendedAt s n new p) (sym is)
    (λ a b c d. attended_after s past e old mid one new p (subst (IsLegal s) is legal) own same was
    (λ r. a (subst (λ q. Reaches q p) (sym ending_is) r)) b (λ r. c (subst (λ q. Reaches q p) (sym reach_is) r)) d)
    by_end keeps by keeps_on
