-- On a legal history the run of a worker is the run of its item.
use Rattle.cmwq_theory_steps.specs.Common.{nat_tests, ◌≡◌, ◌==◌, ◌<◌, ℕ, Bool, true, false, List, [], ◌∷◌, length}
use Rattle.cmwq_theory_steps.specs.Common.{Option, Some, None, refl, sym, ap, ◌∙◌, subst, arith, is_some, if◌then◌else◌}
use Rattle.cmwq_theory_steps.specs.Common.{option_map_or, eq-eqb, beq, WorkerId, Who, Worker, Entry, Start, Layout}
use Rattle.cmwq_theory_steps.specs.Common.{is_by, same_worker, same_who, item_at, number_started, is_open}
use Rattle.cmwq_theory_steps.specs.Common.{is_number_open, last_start, run, item_start, item_run, item_runs, start_in}
use Rattle.cmwq_theory_steps.specs.Common.{starts_item, IsLegal}
use Rattle.cmwq_theory_steps.proofs.Opens.{open_before}
use Rattle.cmwq_theory_steps.proofs.Lemmas.{cond_some, not-true, option_and_then_some, same_Some}
use Rattle.cmwq_theory_steps.proofs.Entries.{IsKnown, known_more, queueings_known, item_at-older}
use Rattle.cmwq_theory_steps.proofs.Activated.{next_holds}
use Rattle.cmwq_theory_steps.proofs.Starts.{starts_next}

-- ---- workers

pub flags_same : (a b : Bool) → beq a b ≡ true → a ≡ b
flags_same a b h = grind arith

pub same_worker-true : (v w : WorkerId) → same_worker v w ≡ true → v ≡ w
same_worker-true v w h = grind (arith, nat_tests, flags_same)

pub same_worker_itself : (w : WorkerId) → same_worker w w ≡ true
same_worker_itself w = grind (arith, nat_tests)

-- ---- what a worker started last, and what it runs

pub data LastStart (e : Entry) (past : List Entry) (w : WorkerId) (n : ℕ) : Type 0 where
  now : is_by (Worker w) e ≡ true → number_started e.reply ≡ Some n → LastStart e past w n
  before : last_start past w ≡ Some n → LastStart e past w n

pub last_start_cases : (e : Entry) (past : List Entry) (w : WorkerId) (n : ℕ) → last_start (e ∷ past) w ≡ Some n
    → LastStart e past w n
unfolding last_start
last_start_cases e past w n h = grind (arith, now, before)

pub record IsRunOf (past : List Entry) (w : WorkerId) (n : ℕ) : Type 0 where
  pub last : last_start past w ≡ Some n
  pub is_still_open : is_number_open past n ≡ true

pub run_is : (past : List Entry) (w : WorkerId) (n : ℕ) → run past w ≡ Some n → IsRunOf past w n
run_is past w n h = option_and_then_some (λ m. if is_number_open past m then Some m else None) (last_start past w) n h
    (λ m last k. let c = cond_some (is_number_open past m) m n k in
    record { last = last ∙ ap Some c.1; is_still_open = ap (is_number_open past) (sym c.1) ∙ c.0 })

pub is_run : (past : List Entry) (w : WorkerId) (n : ℕ) → last_start past w ≡ Some n → is_number_open past n ≡ true
    → run past w ≡ Some n
is_run past w n last is_live = grind arith

pub open_of_item : (past : List Entry) (i n : ℕ) → item_at past n ≡ Some i → is_number_open past n ≡ is_open past i n
open_of_item past i n item = ap (λ o. option_map_or (λ j. is_open past j n) o false) item

-- ---- the run of an item

pub item_run_is : (past : List Entry) (i : ℕ) (start : Start) → item_start past i ≡ Some start
    → is_open past i start.number ≡ true → item_run past i ≡ Some start
item_run_is past i start last is_live = grind arith

pub item_run_started : (past : List Entry) (i : ℕ) (start : Start) → item_run past i ≡ Some start
    → item_start past i ≡ Some start
item_run_started past i start h = grind arith

-- ---- an entry that starts a queueing, and one that starts none

pub start_of_worker : (e : Entry) (w : WorkerId) (n : ℕ) → e.who ≡ Worker w → number_started e.reply ≡ Some n
    → start_in e ≡ Some (record { worker = w; number = n })
start_of_worker e w n who number = grind arith

pub no_start : (e : Entry) → number_started e.reply ≡ None → start_in e ≡ None
no_start e none = grind arith

pub starts_its_item : (e : Entry) (past : List Entry) (start : Start) (i j : ℕ) → start_in e ≡ Some start
    → item_at past start.number ≡ Some j → starts_item past e i ≡ (j == i)
starts_its_item e past start i j is item = grind arith

pub starts_no_item : (e : Entry) (past : List Entry) (i : ℕ) → start_in e ≡ None → starts_item past e i ≡ false
starts_no_item e past i none = grind arith

pub item_starts : (e : Entry) (past : List Entry) (i : ℕ) → starts_item past e i ≡ true
    → item_start (e ∷ past) i ≡ start_in e
unfolding item_start
item_starts e past i h = ap (λ b. if b then start_in e else item_start past i) h

pub item_stays : (e : Entry) (past : List Entry) (i : ℕ) → starts_item past e i ≡ false
    → item_start (e ∷ past) i ≡ item_start past i
unfolding item_start
item_stays e past i h = ap (λ b. if b then start_in e else item_start past i) h

-- ---- what a legal entry starts: a known queueing of an item without a run

pub record StartsKnown (past : List Entry) (e : Entry) (n : ℕ) : Type 0 where
  pub worker : WorkerId
  pub item : ℕ
  pub by_worker : e.who ≡ Worker worker
  pub older : n < length past
  pub is_item : item_at past n ≡ Some item
  pub has_none : item_runs past item ≡ false

pub starts_known : (s : Layout) (past : List Entry) (e : Entry) (n : ℕ) → IsLegal s (e ∷ past)
    → number_started e.reply ≡ Some n → StartsKnown past e n
starts_known s past e n legal started =
    let st = starts_next s past e n legal started in
    let found = next_holds s IsKnown known_more queueings_known past st.worker.pool st.queueing st.is_next in
    record {
      worker = st.worker;
      item = st.queueing.item.0;
      by_worker = st.by_worker;
      older = subst (λ k. k < length past) st.number found.holds.older;
      is_item = ap (item_at past) (sym st.number) ∙ found.holds.item;
      has_none = not-true (item_runs past st.queueing.item.0) found.startable;
    }

pub started_older : (s : Layout) (past : List Entry) (w : WorkerId) (n : ℕ) → IsLegal s past
    → last_start past w ≡ Some n → n < length past
unfolding last_start IsLegal
started_older s [] w n legal h = cc
started_older s (e ∷ past) w n legal h = elim (last_start_cases e past w n h) [
  | now by starts ↦ omega (arith, (starts_known s past e n legal starts).older)
  | before last ↦ omega (arith, started_older s past w n legal.2 last)
]

-- ---- the law

-- an older start of the item is still its last, unless the entry starts one of the same item
pub unmoved : (s : Layout) (past : List Entry) (e : Entry) (i : ℕ) (o : Option ℕ) → IsLegal s (e ∷ past)
    → number_started e.reply ≡ o → item_runs past i ≡ true → starts_item past e i ≡ false
unmoved s past e i None legal none runs = starts_no_item e past i (no_start e none)
unmoved s past e i (Some m) legal started runs =
    let k = starts_known s past e m legal started in
    let is = starts_its_item e past (record { worker = k.worker; number = m }) i k.item
    (start_of_worker e k.worker m k.by_worker started) k.is_item in
    grind (arith, nat_tests, k.has_none)

abbrev RunsItem : List Entry → WorkerId → ℕ → ℕ → Type 0
RunsItem past w n i = item_run past i ≡ Some (record { worker = w; number = n })

pub runs_are_items : (s : Layout) (past : List Entry) (w : WorkerId) (n i : ℕ) → IsLegal s past → run past w ≡ Some n
    → item_at past n ≡ Some i → RunsItem past w n i
unfolding last_start IsLegal
runs_are_items s [] w n i legal h k = cc
runs_are_items s (e ∷ past) w n i legal h k =
    let r = run_is (e ∷ past) w n h in
    let is_live : is_open (e ∷ past) i n ≡ true = sym (open_of_item (e ∷ past) i n k) ∙ r.is_still_open in
    elim (last_start_cases e past w n r.last) [
      | now by starts ↦
          let st = starts_known s past e n legal starts in
          let same = same_worker-true st.worker w (subst (λ (x : Who). same_who x (Worker w) ≡ true) st.by_worker by) in
          let is_start = start_of_worker e w n (st.by_worker ∙ ap Worker same) starts in
          let starts_it =
          starts_its_item e past (record { worker = w; number = n }) i i is_start
          (sym (item_at-older e past n st.older) ∙ k) ∙ eq-eqb i i refl in
          item_run_is (e ∷ past) i (record { worker = w; number = n }) (item_starts e past i starts_it ∙ is_start)
          is_live
      | before last ↦
          let less = started_older s past w n legal.2 last in
          let known = sym (item_at-older e past n less) ∙ k in
          let it = runs_are_items s past w n i legal.2
          (is_run past w n last (open_of_item past i n known ∙ open_before e past i n less is_live)) known in
          let stays = item_stays e past i (unmoved s past e i (number_started e.reply) legal refl (ap is_some it)) in
          item_run_is (e ∷ past) i (record { worker = w; number = n })
          (stays ∙ item_run_started past i (record { worker = w; number = n }) it) is_live
    ]

-- so two workers that have runs of one item are one, and so are their runs
pub one_worker : (s : Layout) (past : List Entry) (v w : WorkerId) (n m i : ℕ) → IsLegal s past → run past v ≡ Some n
    → run past w ≡ Some m → item_at past n ≡ Some i → item_at past m ≡ Some i
    → (v ≡ w) × (n ≡ m)
one_worker s past v w n m i legal hv hw kn km =
    let starts =
    same_Some _ _ (sym (runs_are_items s past v n i legal hv kn) ∙ runs_are_items s past w m i legal hw km) in
    (ap (λ (st : Start). st.worker) starts, ap (λ (st : Start). st.number) starts)
