-- What one entry does to the place of a queueing that goes on to wait.
use Rattle.cmwq_theory_steps.specs.Common.{◌≡◌, ◌+◌, ◌≤◌, ◌==◌, ℕ, Bool, true, false, not, cond, ◌&&◌, List}
use Rattle.cmwq_theory_steps.specs.Common.{[], ◌∷◌, ◌++◌, filter, find, length, Option, Some, None, refl, sym, ap, ap₂}
use Rattle.cmwq_theory_steps.specs.Common.{subst, ◌∙◌, arith, inl, filter-append, find-append}
use Rattle.cmwq_theory_steps.specs.Common.{eq-eqb, eqb-true, and_parts, option_or, PoolId, Who}
use Rattle.cmwq_theory_steps.specs.Common.{Entry, Queueing, Layout, IsLegal, is_at, is_in_pool, is_listed}
use Rattle.cmwq_theory_steps.specs.Common.{is_live, is_startable, is_started, is_unstarted, item_at, item_runs, next}
use Rattle.cmwq_theory_steps.specs.Common.{newly_active, number_started, queueings, starts, starts_item, still_open}
use Rattle.cmwq_theory_steps.specs.Common.{unstarted_queueing, worklist}
use Rattle.std.specs.Prelude.{Contains}
use Rattle.std.proofs.Common.{append_assoc, ⊎_elim}
use Rattle.std.proofs.lemmas.Bool.{and_from, both_ways}
use Rattle.std.proofs.lemmas.Option.{same_Some}
use Rattle.cmwq_lemmas.proofs.Lists.{filter_shorter}
use Rattle.cmwq_lemmas.proofs.Members.{In, contained_in, filter_in, found, in_right, of_in}
use Rattle.cmwq_theory_steps.specs.Activations.{is_in, is_left}
use Rattle.cmwq_theory_steps.specs.Endings.{survives}
use Rattle.cmwq_theory_steps.proofs.Activated.{next_holds}
use Rattle.cmwq_theory_steps.proofs.Endings.{live_goes_on}
use Rattle.cmwq_theory_steps.proofs.Entries.{IsKnown, is_at-true, known_more, queueings_known}
use Rattle.cmwq_theory_steps.proofs.ItemRuns.{no_start, start_of_worker, starts_its_item, starts_no_item}
use Rattle.cmwq_theory_steps.proofs.Joined.{listed_live}
use Rattle.cmwq_theory_steps.proofs.PendingSteps.{item_runs_go_on}
use Rattle.cmwq_theory_steps.proofs.Pools.{same_pool-true, unstarted_alone}
use Rattle.cmwq_theory_steps.proofs.Starts.{starts_next}
use Rattle.cmwq_theory_steps.proofs.Unstarted.{next_unstarted}
use Rattle.cmwq_theory_steps.proofs.Worklist.{worklist_is}
use Rattle.cmwq_theory_steps.proofs.WorklistSteps.{worklists_go_on}
use Rattle.cmwq_order_laws.specs.Overtaking.{StandsBehind}

-- ---- what stands in a worklist

-- it is known, and its item has no other queueing that hasn't started
pub record IsAlone (past : List Entry) (x : Queueing) : Type 0 where
  pub known : IsKnown past x
  pub alone : unstarted_queueing past x.item.0 ≡ Some x

listed_alone : (s : Layout) (past : List Entry) (p : PoolId) (x : Queueing) → IsLegal s past → In x (queueings past)
    → is_listed s past p x ≡ true → IsAlone past x
listed_alone s past p x legal there listed =
    let live = listed_live s past p x listed in
    let new : is_started past x.number ≡ false = grind arith in
    let mine : is_unstarted past x.item.0 x ≡ true = ap₂ (λ a b. a && not b) (eq-eqb x.item.0 x.item.0 refl) new in
    record {
      known = of_in (IsKnown past) (queueings past) x (queueings_known past) there;
      alone = of_in (λ y. is_unstarted past x.item.0 y ≡ true → unstarted_queueing past x.item.0 ≡ Some y)
          (still_open past) x (unstarted_alone s past x.item.0 legal)
          (filter_in (is_live past) (queueings past) x there live) mine;
    }

pub stands_alone : (s : Layout) (past : List Entry) (p : PoolId) (ahead : List Queueing) (x : Queueing)
    → IsLegal s past → StandsBehind s past p ahead x → IsAlone past x
stands_alone s past p ahead x legal stands =
    let here : In x (worklist s past p) =
    subst (In x) (sym stands.worklist_is) (in_right ahead (x ∷ stands.behind) x (inl refl)) in
    let k = of_in (λ y. Contains (queueings past) y × (is_listed s past p y ≡ true)) (worklist s past p) x
    (worklist_is s past p).no_others here in
    listed_alone s past p x legal (contained_in (queueings past) x k.0) k.1

-- ---- an entry, after which the queueing still is open and has not started

drops_one : {X : Type 0} (q : X → Bool) (xs : List X) (y : X) → In y xs → q y ≡ false
    → length (filter q xs) + 1 ≤ length xs
drops_one q [] y here fails = absurd here
drops_one q (z ∷ zs) y here fails = ⊎_elim
    (λ same. let no : q z ≡ false = ap q same ∙ fails in grind (arith, no, filter_shorter q zs))
    (λ later. let less = drops_one q zs y later fails in grind (arith, less))
    here

module _ (s : Layout) (past : List Entry) (e : Entry) (legal : IsLegal s (e ∷ past)) (x : Queueing)
    (is_alone : IsAlone past x) (new : is_started (e ∷ past) x.number ≡ false) where
  -- the entry doesn't start it
  not_this : starts x.number e ≡ false
  not_this = grind arith

  -- nor does it start another queueing of its item
  not_its_item : (o : Option ℕ) → number_started e.reply ≡ o → starts_item past e x.item.0 ≡ false
  unfolding IsLegal
  not_its_item None none = starts_no_item e past x.item.0 (no_start e none)
  not_its_item (Some n) started =
      let st = starts_next s past e n legal started in
      let y = st.queueing in
      let known = (next_holds s IsKnown known_more queueings_known past st.worker.pool y st.is_next).holds in
      starts_its_item e past (record { worker = st.worker; number = n }) x.item.0 y.item.0
      (start_of_worker e st.worker n st.by_worker started) (ap (item_at past) (sym st.number) ∙ known.item)
      ∙ other y (next_unstarted s past legal.2 st.worker.pool y st.is_next) st.number (y.item.0 == x.item.0) refl
    where
      other : (y : Queueing) → unstarted_queueing past y.item.0 ≡ Some y → y.number ≡ n → (b : Bool)
          → (y.item.0 == x.item.0) ≡ b → b ≡ false
      other y unstarted number false is = refl
      other y unstarted number true is =
          let item = eqb-true y.item.0 x.item.0 is in
          let same : y ≡ x =
          same_Some y x (sym unstarted ∙ ap (unstarted_queueing past) item ∙ is_alone.alone) in
          let its : starts x.number e ≡ true =
          ap₂ (λ o m. is_at o m) started (sym (ap (λ (z : Queueing). z.number) same) ∙ number) ∙ eq-eqb n n refl in
          absurd (both_ways _ not_this its)

  pub stays_free : item_runs past x.item.0 ≡ false → item_runs (e ∷ past) x.item.0 ≡ false
  stays_free is_free =
      let none = not_its_item (number_started e.reply) refl in
      item_runs_go_on s past e legal x.item.0 ∙ grind (arith, none, is_free)

  module _ (p : PoolId) (ahead : List Queueing) (stands : StandsBehind s past p ahead x) where
    -- what is started in its pool while its item doesn't run is ahead of it
    taken_ahead : item_runs past x.item.0 ≡ false → (y : Queueing) → next s past p ≡ Some y
        → starts y.number e ≡ true → In y ahead
    unfolding next
    taken_ahead is_free y is begins = at (find (is_startable past) ahead) refl
      where
        may : is_startable past x ≡ true
        may = ap not is_free

        which : option_or (find (is_startable past) ahead) (Some x) ≡ Some y
        which =
            ap (λ b. option_or (find (is_startable past) ahead) (cond b (Some x)
            (find (is_startable past) stands.behind))) (sym may)
            ∙ sym (find-append (is_startable past) ahead (x ∷ stands.behind))
            ∙ sym (ap (find (is_startable past)) stands.worklist_is) ∙ is

        at : (o : Option Queueing) → find (is_startable past) ahead ≡ o → In y ahead
        at None none =
            let same : x ≡ y = same_Some x y (sym (ap (λ o. option_or o (Some x)) none) ∙ which) in
            absurd (both_ways _ not_this (subst (λ z. starts z.number e ≡ true) (sym same) begins))
        at (Some z) is_z =
            let same : z ≡ y = same_Some z y (sym (ap (λ o. option_or o (Some x)) is_z) ∙ which) in
            subst (λ w. In w ahead) same (found (is_startable past) ahead z is_z).0

    -- what this entry starts in the pool
    pub record TakesAhead (n : ℕ) : Type 0 where
      pub queueing : Queueing
      pub number : queueing.number ≡ n
      pub there : In queueing ahead

    pub takes_ahead : item_runs past x.item.0 ≡ false → (n : ℕ) → is_in_pool p e.who ≡ true → starts n e ≡ true
        → TakesAhead n
    takes_ahead is_free n here begins =
        let st = starts_next s past e n legal (is_at-true (number_started e.reply) n begins) in
        let same : st.worker.pool ≡ p =
        same_pool-true st.worker.pool p (subst (λ (w : Who). is_in_pool p w ≡ true) st.by_worker here) in
        record {
          queueing = st.queueing;
          number = st.number;
          there = taken_ahead is_free st.queueing (subst (λ q. next s past q ≡ Some st.queueing) same st.is_next)
              (subst (λ m. starts m e ≡ true) (sym st.number) begins);
        }

    -- it stands behind those that the entry leaves
    pub stays_behind : is_live (e ∷ past) x ≡ true → StandsBehind s (e ∷ past) p (filter (is_left past e) ahead) x
    stays_behind live =
        let more : List Queueing = filter (is_in s p) (newly_active s past e) in
        let survived : survives past e x ≡ true =
        (and_parts (is_live past x) (survives past e x)
        (sym (live_goes_on past e x is_alone.known.older) ∙ live)).1 in
        let kept : is_left past e x ≡ true = and_from _ _ survived (ap not not_this) in
        record {
          behind = filter (is_left past e) stands.behind ++ more;
          worklist_is =
              worklists_go_on s past e p legal
              ∙ ap (λ l. filter (is_left past e) l ++ more) stands.worklist_is
              ∙ ap (λ l. l ++ more) (filter-append (is_left past e) ahead (x ∷ stands.behind))
              ∙ ap (λ b. (filter (is_left past e) ahead
              ++ cond b (x ∷ filter (is_left past e) stands.behind) (filter (is_left past e) stands.behind)) ++ more)
              kept
              ∙ append_assoc (filter (is_left past e) ahead) (x ∷ filter (is_left past e) stands.behind) more;
        }

    -- such a start leaves one fewer
    pub one_less : item_runs past x.item.0 ≡ false → (n : ℕ) → is_in_pool p e.who ≡ true → starts n e ≡ true
        → length (filter (is_left past e) ahead) + 1 ≤ length ahead
    one_less is_free n here begins =
        let k = takes_ahead is_free n here begins in
        let its : starts k.queueing.number e ≡ true = subst (λ m. starts m e ≡ true) (sym k.number) begins in
        drops_one (is_left past e) ahead k.queueing k.there (grind (arith, its))
