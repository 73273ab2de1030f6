-- What a legal entry starts stands in its pool's worklist: a queueing, active and not started before.
use Rattle.cmwq_theory_steps.specs.Common.{◌≡◌, ◌<◌, ℕ, true, false, cond, List, [], ◌∷◌, find, Some, option_to_list}
use Rattle.cmwq_theory_steps.specs.Common.{refl, ap, ◌∙◌, subst, arith, option_or, AllByRecursion, nat_tests, eq-eqb}
use Rattle.cmwq_theory_steps.specs.Common.{find-append, WorkerId, Worker, Entry, Queueing, Layout, starts}
use Rattle.cmwq_theory_steps.specs.Common.{number_started, is_started, queueings, queueing_at, opening, has_number}
use Rattle.cmwq_theory_steps.specs.Common.{is_listed, IsLegal, All_both}
use Rattle.cmwq_theory_steps.specs.Rising.{IsRising}
use Rattle.cmwq_theory_steps.proofs.Rising.{queueings_rise}
use Rattle.cmwq_theory_steps.proofs.Activated.{next_holds}
use Rattle.cmwq_theory_steps.proofs.Starts.{starts_next}
use Rattle.cmwq_theory_steps.proofs.Entries.{is_at-true}

-- ---- each queueing is found by its number

abbrev pub IsFound : List Entry → Queueing → Type 0
IsFound past x = queueing_at past x.number ≡ Some x

rising_found : (xs : List Queueing) → IsRising xs → AllByRecursion (λ x. find (has_number x.number) xs ≡ Some x) xs
rising_found [] h = tt
rising_found (x ∷ xs) h = (
  ap (λ b. cond b (Some x) (find (has_number x.number) xs)) (eq-eqb x.number x.number refl),
  All_both (λ y. x.number < y.number) (λ y. find (has_number y.number) xs ≡ Some y)
      (λ y. find (has_number y.number) (x ∷ xs) ≡ Some y) xs (λ y less found. grind (arith, nat_tests)) h.0
      (rising_found xs h.1),
)

pub queueings_found : (past : List Entry) → AllByRecursion (IsFound past) (queueings past)
queueings_found past = rising_found (queueings past) (queueings_rise past)

pub queueing_at-older : (e : Entry) (past : List Entry) (n : ℕ) (x : Queueing) → queueing_at past n ≡ Some x
    → queueing_at (e ∷ past) n ≡ Some x
unfolding queueings
queueing_at-older e past n x h =
    find-append (has_number n) (queueings past) (option_to_list (opening past e))
    ∙ ap (λ o. option_or o (find (has_number n) (option_to_list (opening past e)))) h

-- ---- what is started

pub record StartsListed (s : Layout) (past : List Entry) (e : Entry) (n : ℕ) : Type 0 where
  pub worker : WorkerId
  pub queueing : Queueing
  pub by_worker : e.who ≡ Worker worker
  pub number : queueing.number ≡ n
  pub found : queueing_at past n ≡ Some queueing
  pub listed : is_listed s past worker.pool queueing ≡ true

pub starts_listed : (s : Layout) (past : List Entry) (e : Entry) (n : ℕ) → IsLegal s (e ∷ past) → starts n e ≡ true
    → StartsListed s past e n
starts_listed s past e n legal h =
    let st = starts_next s past e n legal (is_at-true (number_started e.reply) n h) in
    let next =
    next_holds s IsFound (λ e past x found. queueing_at-older e past x.number x found) queueings_found past
    st.worker.pool st.queueing st.is_next in
    record {
      worker = st.worker;
      queueing = st.queueing;
      by_worker = st.by_worker;
      number = st.number;
      found = subst (λ k. queueing_at past k ≡ Some st.queueing) st.number next.holds;
      listed = next.listed;
    }

pub starts_anew : (s : Layout) (past : List Entry) (e : Entry) (n : ℕ) → IsLegal s (e ∷ past) → starts n e ≡ true
    → is_started past n ≡ false
starts_anew s past e n legal h =
    let st = starts_listed s past e n legal h in
    let listed = st.listed in
    subst (λ k. is_started past k ≡ false) st.number (grind arith)
