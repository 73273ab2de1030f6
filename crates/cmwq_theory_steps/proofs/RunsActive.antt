-- The run of a worker is an active queueing of its pool, so no more workers have runs of a queue on a CPU than it is
-- wide.
use Rattle.cmwq_theory_steps.specs.Common.{◌≡◌, ◌<◌, ℕ, true, false, List, [], ◌∷◌, length, Option, Some, None, refl}
use Rattle.cmwq_theory_steps.specs.Common.{sym, ap, ◌∙◌, subst, arith, option_map_or, eqb-true, eq-eqb, PoolId}
use Rattle.cmwq_theory_steps.specs.Common.{WorkerId, Who, Worker, Entry, Queueing, Layout, pool_at, is_at, is_by}
use Rattle.cmwq_theory_steps.specs.Common.{same_pool, same_who, item_at, starts, number_started, is_open, run}
use Rattle.cmwq_theory_steps.specs.Common.{is_number_open, last_start, queueings, queueing_at, has_number, is_live}
use Rattle.cmwq_theory_steps.specs.Common.{is_active, is_listed, IsLegal}
use Rattle.cmwq_theory_steps.proofs.Opens.{open_before}
use Rattle.cmwq_theory_steps.proofs.Joined.{stays_active}
use Rattle.cmwq_theory_steps.proofs.Entries.{IsKnown, queueings_known, item_at-older}
use Rattle.cmwq_theory_steps.proofs.Activated.{find_holds}
use Rattle.cmwq_theory_steps.proofs.ItemRuns.{same_worker-true, last_start_cases, now, before, run_is, is_run}
use Rattle.cmwq_theory_steps.proofs.ItemRuns.{open_of_item, started_older}
use Rattle.cmwq_theory_steps.proofs.StartsListed.{queueing_at-older, starts_listed}

-- ---- the run of a worker is active, and of its pool

pub found_known : (past : List Entry) (n : ℕ) (x : Queueing) → queueing_at past n ≡ Some x → IsKnown past x
found_known past n x h = (find_holds (IsKnown past) (has_number n) (queueings past) x (queueings_known past) h).holds

pub found_number : (past : List Entry) (n : ℕ) (x : Queueing) → queueing_at past n ≡ Some x → x.number ≡ n
found_number past n x h =
    eqb-true x.number n (find_holds (IsKnown past) (has_number n) (queueings past) x (queueings_known past) h).passes

pub record RunIsActive (s : Layout) (past : List Entry) (w : WorkerId) (n : ℕ) : Type 0 where
  pub queueing : Queueing
  pub found : queueing_at past n ≡ Some queueing
  pub active : is_active s past queueing ≡ true
  pub pool : same_pool (pool_at s queueing.place) w.pool ≡ true

-- a queueing that is found by a number that is open is live
live_of_number : (past : List Entry) (n : ℕ) (x : Queueing) → queueing_at past n ≡ Some x → is_number_open past n ≡ true
    → is_live past x ≡ true
live_of_number past n x found h =
    let number = found_number past n x found in
    let item : item_at past n ≡ Some x.item.0 = ap (item_at past) (sym number) ∙ (found_known past n x found).item in
    ap (is_open past x.item.0) number ∙ sym (open_of_item past x.item.0 n item) ∙ h

pub number_open_before : (e : Entry) (past : List Entry) (n : ℕ) → n < length past → is_number_open (e ∷ past) n ≡ true
    → is_number_open past n ≡ true
number_open_before e past n less h =
    at (item_at past n)
    (sym (ap (λ o. option_map_or (λ i. is_open (e ∷ past) i n) o false) (item_at-older e past n less)) ∙ h)
  where
    at : (o : Option ℕ) → option_map_or (λ i. is_open (e ∷ past) i n) o false ≡ true
        → option_map_or (λ i. is_open past i n) o false ≡ true
    at None h = h
    at (Some i) h = open_before e past i n less h

pub listed_pool : (s : Layout) (past : List Entry) (p : PoolId) (x : Queueing) → is_listed s past p x ≡ true
    → same_pool (pool_at s x.place) p ≡ true
listed_pool s past p x h = grind arith

run_begins : (s : Layout) (past : List Entry) (e : Entry) (w : WorkerId) (n : ℕ) → IsLegal s (e ∷ past)
    → is_by (Worker w) e ≡ true → number_started e.reply ≡ Some n
    → is_number_open (e ∷ past) n ≡ true → RunIsActive s (e ∷ past) w n
run_begins s past e w n legal by h is_live =
    let st = starts_listed s past e n legal (ap (λ o. is_at o n) h ∙ eq-eqb n n refl) in
    let same : st.worker ≡ w =
    same_worker-true st.worker w (subst (λ (x : Who). same_who x (Worker w) ≡ true) st.by_worker by) in
    let found = queueing_at-older e past n st.queueing st.found in
    let listed = st.listed in
    record {
      queueing = st.queueing;
      found = found;
      active = stays_active s past e st.queueing (grind arith) (live_of_number (e ∷ past) n st.queueing found is_live);
      pool = subst (λ (v : WorkerId). same_pool (pool_at s st.queueing.place) v.pool ≡ true) same
          (listed_pool s past st.worker.pool st.queueing st.listed);
    }

run_goes_on : (s : Layout) (past : List Entry) (e : Entry) (w : WorkerId) (n : ℕ) → is_number_open (e ∷ past) n ≡ true
    → RunIsActive s past w n → RunIsActive s (e ∷ past) w n
run_goes_on s past e w n is_live r =
    let found = queueing_at-older e past n r.queueing r.found in
    record {
      queueing = r.queueing;
      found = found;
      active = stays_active s past e r.queueing r.active (live_of_number (e ∷ past) n r.queueing found is_live);
      pool = r.pool;
    }

pub run_is_active : (s : Layout) (past : List Entry) (w : WorkerId) (n : ℕ) → IsLegal s past → run past w ≡ Some n
    → RunIsActive s past w n
unfolding last_start IsLegal
run_is_active s [] w n legal h = cc
run_is_active s (e ∷ past) w n legal h =
    let r = run_is (e ∷ past) w n h in
    elim (last_start_cases e past w n r.last) [
      | now by starts ↦ run_begins s past e w n legal by starts r.is_still_open
      | before last ↦ run_goes_on s past e w n r.is_still_open
          (run_is_active s past w n legal.2
          (is_run past w n last
          (number_open_before e past n (started_older s past w n legal.2 last) r.is_still_open)))
    ]
