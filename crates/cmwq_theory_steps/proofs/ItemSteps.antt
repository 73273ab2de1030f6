-- The run of an item after one more entry, and whose run it is.
use Rattle.cmwq_theory_steps.specs.Common.{or_right, nat_tests, ◌≡◌, ◌<◌, ℕ, Bool, true, false, List, [], ◌∷◌, length}
use Rattle.cmwq_theory_steps.specs.Common.{Option, Some, None, refl, sym, ap, ◌∙◌, subst, arith, option_map}
use Rattle.cmwq_theory_steps.specs.Common.{option_and_then, if◌then◌else◌, option_map_or, WorkerId, Who, Worker, Entry}
use Rattle.cmwq_theory_steps.specs.Common.{Start, Layout, is_at, is_by, same_who, item_at, worker_of, number_started}
use Rattle.cmwq_theory_steps.specs.Common.{number_finished, finishes, starts, is_started, run, has_run, item_start}
use Rattle.cmwq_theory_steps.specs.Common.{item_run, start_in, starts_item, IsLegal}
use Rattle.cmwq_theory_steps.specs.RunSteps.{run_after, ends_run}
use Rattle.cmwq_theory_steps.proofs.Entries.{item_at-older, is_at-true}
use Rattle.cmwq_theory_steps.proofs.ItemRuns.{same_worker-true, item_run_is, item_run_started, item_starts, item_stays}
use Rattle.cmwq_theory_steps.proofs.ItemRuns.{starts_known, same_worker_itself}
use Rattle.cmwq_theory_steps.proofs.Starts.{starts_next}
use Rattle.cmwq_theory_steps.proofs.RunSteps.{started_open, started_open_on, run_begun, workers_run_on}
use Rattle.cmwq_theory_steps.proofs.Fresh.{finishes_run}

-- ---- an entry that starts a queueing of the item

pub record StartsOf (past : List Entry) (e : Entry) (i : ℕ) (start : Start) : Type 0 where
  pub by_worker : e.who ≡ Worker start.worker
  pub number : number_started e.reply ≡ Some start.number
  pub item : item_at past start.number ≡ Some i

pub starts_of : (past : List Entry) (e : Entry) (i : ℕ) (start : Start) → starts_item past e i ≡ true
    → start_in e ≡ Some start → StartsOf past e i start
starts_of past e i start h is =
    record {
      by_worker = grind arith;
      number = grind arith;
      item =
          is_at-true (item_at past start.number) i (grind arith);
    }

-- where nothing is started, nothing of the item is
pub none_started : (who : Who) (past : List Entry) (i : ℕ) (o : Option ℕ) → o ≡ None
    → option_map_or (λ (start : Start). is_at (item_at past start.number) i)
    (option_and_then (λ w. option_map (λ n. record { worker = w; number = n }) o) (worker_of who)) false ≡ false
none_started who past i o h = grind arith

pub starts_some : (past : List Entry) (e : Entry) (i : ℕ) (o : Option Start) → start_in e ≡ o
    → starts_item past e i ≡ true → (start : Start) × (start_in e ≡ Some start)
starts_some past e i None is h = absurd (grind arith)
starts_some past e i (Some start) is h = (start, is)

-- ---- the last start of an item is older, of the item, and started

pub record IsStartOf (past : List Entry) (i : ℕ) (start : Start) : Type 0 where
  pub older : start.number < length past
  pub item : item_at past start.number ≡ Some i
  pub started : is_started past start.number ≡ true

pub start_is : (s : Layout) (past : List Entry) (i : ℕ) (start : Start) → IsLegal s past
    → item_start past i ≡ Some start → IsStartOf past i start
unfolding item_start IsLegal
start_is s [] i start legal h = cc
start_is s (e ∷ past) i start legal h = at (starts_item past e i) refl h (start_is s past i start legal.2)
  where
    at : (b : Bool) → starts_item past e i ≡ b → (if b then start_in e else item_start past i) ≡ Some start
        → (item_start past i ≡ Some start → IsStartOf past i start) → IsStartOf (e ∷ past) i start
    at true is h earlier =
        let st = starts_of past e i start is h in
        let now = st.number in
        let k = starts_known s past e start.number legal st.number in
        record {
          older = omega (arith, k.older);
          item = item_at-older e past start.number k.older ∙ st.item;
          started =
              grind (arith, nat_tests);
        }
    at false is h earlier =
        let st = earlier h in
        record {
          older = omega (arith, st.older);
          item = item_at-older e past start.number st.older ∙ st.item;
          started =
              or_right (starts start.number e) _ st.started;
        }

-- ---- the run of an item after one more entry

pub item_begun : (s : Layout) (past : List Entry) (e : Entry) (i : ℕ) → IsLegal s (e ∷ past)
    → starts_item past e i ≡ true → item_run (e ∷ past) i ≡ start_in e
item_begun s past e i legal is =
    let some = starts_some past e i (start_in e) refl is in
    let st = starts_of past e i some.0 is some.1 in
    item_run_is (e ∷ past) i some.0 (item_starts e past i is ∙ some.1)
    (started_open s past e i some.0.number legal st.number st.item) ∙ sym some.1

pub items_run_on : (s : Layout) (past : List Entry) (e : Entry) (i : ℕ) → IsLegal s (e ∷ past)
    → item_run (e ∷ past) i
    ≡ (if starts_item past e i then start_in e else if ends_run e (item_run past i) then None else item_run past i)
unfolding IsLegal
items_run_on s past e i legal = at (starts_item past e i) (item_start past i) refl refl
  where
    at : (b : Bool) (o : Option Start) → starts_item past e i ≡ b → item_start past i ≡ o
        → item_run (e ∷ past) i
        ≡ (if b then start_in e else if ends_run e (item_run past i) then None else item_run past i)
    at true o is h = item_begun s past e i legal is
    at false None is h = let stays = item_stays e past i is in grind arith
    at false (Some start) is h =
        let st = start_is s past i start legal.2 h in
        let stays = item_stays e past i is ∙ h in
        simp (stays, h, started_open_on s past e i start.number legal st.older st.started) (grind arith)

-- ---- the run of an item is that of its worker

by_this : (past : List Entry) (e : Entry) (v w : WorkerId) → e.who ≡ Worker v → is_by (Worker w) e ≡ true → v ≡ w
by_this past e v w who by = same_worker-true v w (subst (λ (x : Who). same_who x (Worker w) ≡ true) who by)

run_keeps : (s : Layout) (past : List Entry) (e : Entry) (start : Start) → IsLegal s (e ∷ past)
    → finishes start.number e ≡ false → run past start.worker ≡ Some start.number
    → run (e ∷ past) start.worker ≡ Some start.number
run_keeps s past e start legal survivors runs = workers_run_on s past e start.worker legal
    ∙ at (is_by (Worker start.worker) e) refl
  where
    at : (b : Bool) → is_by (Worker start.worker) e ≡ b
        → (if b then run_after e.reply (run past start.worker) else run past start.worker) ≡ Some start.number
    at false by = runs
    at true by =
        let begun : (n : ℕ) → number_started e.reply ≡ Some n → has_run past start.worker ≡ false
        = λ n h. let st = starts_next s past e n legal h in
        subst (λ (v : WorkerId). has_run past v ≡ false) (by_this past e st.worker start.worker st.by_worker by)
        st.idle in
        let ended : (n : ℕ) → number_finished e.reply ≡ Some n → run past start.worker ≡ Some n
        = λ n h. let f = finishes_run s past e n legal h in
        subst (λ (v : WorkerId). run past v ≡ Some n) (by_this past e f.worker start.worker f.by_worker by)
        f.is_run in
        grind (arith, nat_tests)

-- a run that is left was there, and the entry doesn't finish it
pub left_run : (e : Entry) (o : Option Start) (start : Start) → (if ends_run e o then None else o) ≡ Some start
    → (o ≡ Some start) × (finishes start.number e ≡ false)
left_run e o start h = grind arith

pub runs_its_item : (s : Layout) (past : List Entry) (i : ℕ) (start : Start) → IsLegal s past
    → item_run past i ≡ Some start → run past start.worker ≡ Some start.number
unfolding IsLegal item_start
runs_its_item s [] i start legal h = cc
runs_its_item s (e ∷ past) i start legal h =
    at (starts_item past e i) refl (sym (items_run_on s past e i legal) ∙ h) (runs_its_item s past i start legal.2)
  where
    at : (b : Bool) → starts_item past e i ≡ b
        → (if b then start_in e else if ends_run e (item_run past i) then None else item_run past i) ≡ Some start
        → (item_run past i ≡ Some start → run past start.worker ≡ Some start.number)
        → run (e ∷ past) start.worker ≡ Some start.number
    at true is h earlier = let st = starts_of past e i start is h in
        run_begun s past e start.worker start.number legal
        (ap (λ (x : Who). same_who x (Worker start.worker)) st.by_worker ∙ same_worker_itself start.worker) st.number
    at false is h earlier = let was = left_run e (item_run past i) start h in
        run_keeps s past e start legal was.1 (earlier was.0)

pub items_are_run : (s : Layout) (past : List Entry) (i : ℕ) (start : Start) → IsLegal s past
    → item_run past i ≡ Some start → (run past start.worker ≡ Some start.number) × (item_at past start.number ≡ Some i)
items_are_run s past i start legal h =
    (runs_its_item s past i start legal h, (start_is s past i start legal (item_run_started past i start h)).item)
