-- What is kept of a worker goes on with each entry.
use Rattle.cmwq_model.specs.Prelude.{most_workers}
use Rattle.std.proofs.Common.{◌≡◌, ◌≢◌, ℕ, ◌+◌, ◌*◌, ◌<◌, Bool, true, false, List, [], ◌∷◌, length, get_or}
use Rattle.std.proofs.Common.{set, Option, Some, None, refl, sym, ap, ap₂, ◌∙◌, subst, arith, replicate, length-set}
use Rattle.std.proofs.Common.{get_or-set_other, get_or-set_same}
use Rattle.std.proofs.lemmas.List.{length-replicate, get_or-replicate}
use Rattle.std.specs.Prelude.{if◌then◌else◌, ◌&&◌, not, is_some}
use Rattle.cmwq_model.specs.declared.id.WorkerId.{WorkerId}
use Rattle.cmwq_model.specs.declared.id.Who.{Who}
use Rattle.cmwq_model.specs.declared.id.Who.TheVariants.{Caller, Worker}
use Rattle.cmwq_model.specs.declared.reply.Reply.{Reply}
use Rattle.cmwq_model.specs.declared.reply.Reply.TheVariants as reply
use Rattle.cmwq_model.specs.declared.entry.Entry.{Entry}
use Rattle.cmwq_model.specs.Prelude.{Layout, now, runs_awake, runs_asleep, is_asleep, asleep_after}
use Rattle.cmwq_model.specs.Prelude.{last_start, run, is_by, same_who, same_worker, IsLegal}
use Rattle.cmwq_theory_steps.specs.RunSteps.{run_after}
use Rattle.cmwq_theory_steps.proofs.RunSteps.{workers_run_on}
use Rattle.cmwq_theory_steps.proofs.StateSteps.{sleepers_go_on}
use Rattle.cmwq_theory_steps.proofs.Causes.{cause_of}
use Rattle.cmwq_theory_steps.proofs.Reasons.{sleep_reason, wake_reason}
use Rattle.cmwq_theory_steps.proofs.ItemRuns.{same_worker-true, same_worker_itself}
use Rattle.cmwq_summary.specs.declared.span.Span.{Span}
use Rattle.cmwq_summary.specs.declared.activity.Doing.{Doing}
use Rattle.cmwq_summary.specs.declared.activity.Activity.{Activity}
use Rattle.cmwq_summary.specs.declared.activity.TheConstants.{IDLE}
use Rattle.cmwq_summary.specs.Activities.{AreActivities, IsActivity, IsUpTo, MayAct, activities_after, acted_by}
use Rattle.cmwq_summary.specs.Activities.{activity_in, activity_from, doing_after, is_running, is_sleeping}
use Rattle.cmwq_summary.specs.Activities.{span_until, spent_until}
use Rattle.cmwq_summary.specs.declared.activity.Spent.{Spent}
use Rattle.cmwq_summary.specs.declared.span.TheConstants.{NO_TIME}
use Rattle.cmwq_summary.specs.Spans.{behind, passing, plus, IsSmall, IsWithin}
use Rattle.cmwq_summary.proofs.Times.{small_then}
use Rattle.cmwq_summary.proofs.Moments.{behind_more, plus_nothing, small_before, span_is}
use Rattle.cmwq_state.specs.Tables.{IsThere}
use Rattle.cmwq_model.proofs.Limits.{limits_of}
use Rattle.cmwq_state.proofs.Steps.{fits_there}
use Rattle.cmwq_state.specs.declared.effect.Effect.{Effect}
use Rattle.cmwq_summary.specs.Summed.{IsNext}
use Rattle.cmwq_summary.specs.Figures.{worker_number}
use Rattle.cmwq_summary.specs.Spent.{asleep, awake, spent_by, sum_while}
use Rattle.cmwq_theory_steps.proofs.OwedSteps.{same_starter}

-- ---- at first

pub idle_at_first : (w : WorkerId) → IsActivity [] w IDLE
unfolding sum_while now last_start is_asleep
idle_at_first w =
    record {
      runs = refl;
      sleeps = refl;
      since = record { entries = omega arith; ticks = omega arith };
      spent = refl;
    }

-- ---- until a moment

spent_is : (a b : Spent) → a.awake ≡ b.awake → a.asleep ≡ b.asleep → a ≡ b
spent_is a b p q = ap₂ (λ (x y : Span). let m : Spent = record { awake = x; asleep = y } in m) p q

-- nothing takes longer than all
sum_within : (during : List Entry → Bool) (past : List Entry) → IsWithin (sum_while during past) (behind past)
unfolding sum_while now
sum_within during [] = record { entries = omega arith; ticks = omega arith }
sum_within during (e ∷ past) = rw (behind_more past e) (by (during past) (sum_within during past))
  where
    by : (b : Bool) → IsWithin (sum_while during past) (behind past)
        → IsWithin (plus (sum_while during past) (if b then passing e else NO_TIME)) (plus (behind past) (passing e))
    by true is = record { entries = omega arith; ticks = omega arith }
    by false is = record { entries = omega arith; ticks = omega arith }

module _ (past : List Entry) (w : WorkerId) (a : Activity) (is : IsActivity past w a) where
  -- while all is small the sums are
  sum_small : (b : Bool) (sum : Span) (during : List Entry → Bool) → IsSmall (behind past)
      → span_until b sum a.since (behind past) ≡ sum_while during past → IsSmall sum
  sum_small true sum during small same =
      let all = sum_within during past in let entries = ap (λ (x : Span). x.entries) same in
      let ticks = ap (λ (x : Span). x.ticks) same in record { entries = omega arith; ticks = omega arith }
  sum_small false sum during small same =
      let all = sum_within during past in let entries = ap (λ (x : Span). x.entries) same in
      let ticks = ap (λ (x : Span). x.ticks) same in record { entries = omega arith; ticks = omega arith }

  pub up_to : (to : Span) → IsSmall (behind past) → IsSmall to → IsUpTo a to
  up_to to small moment =
      record {
        awake = sum_small (is_running a.doing) a.spent.awake (awake w) small (ap (λ (x : Spent). x.awake) is.spent);
        asleep = sum_small (is_sleeping a.doing) a.spent.asleep (asleep w) small
            (ap (λ (x : Spent). x.asleep) is.spent);
        moment = moment;
      }

  -- what goes on has one entry more, and its ticks
  one_more : (b : Bool) (sum at step total : Span) → IsWithin a.since at → span_until b sum a.since at ≡ total
      → span_until b sum a.since (plus at step) ≡ plus total (if b then step else NO_TIME)
  one_more true sum at step total within same =
      let entries = ap (λ (x : Span). x.entries) same in let ticks = ap (λ (x : Span). x.ticks) same in
      span_is _ _ (omega arith) (omega arith)
  one_more false sum at step total within same = same ∙ sym (plus_nothing total)

  module _ (e : Entry) where
    spent_more : spent_until a (behind (e ∷ past)) ≡ spent_by (e ∷ past) w
    unfolding sum_while
    spent_more = ap (spent_until a) (behind_more past e)
        ∙ spent_is (spent_until a (plus (behind past) (passing e))) (spent_by (e ∷ past) w)
        (rw is.runs
        (one_more (is_running a.doing) a.spent.awake (behind past) (passing e) _ is.since
        (ap (λ (x : Spent). x.awake) is.spent)))
        (rw is.sleeps
        (one_more (is_sleeping a.doing) a.spent.asleep (behind past) (passing e) _ is.since
        (ap (λ (x : Spent). x.asleep) is.spent)))

    -- a worker that does what it did
    pub goes_on : runs_awake (e ∷ past) w ≡ runs_awake past w → runs_asleep (e ∷ past) w ≡ runs_asleep past w
        → IsActivity (e ∷ past) w a
    goes_on runs sleeps =
        let since = is.since in
        record {
          runs = runs ∙ is.runs;
          sleeps = sleeps ∙ is.sleeps;
          since = rw (behind_more past e) record { entries = omega arith; ticks = omega arith };
          spent = spent_more;
        }

    -- a worker that begins something
    pub begins : (d : Doing) → runs_awake (e ∷ past) w ≡ is_running d → runs_asleep (e ∷ past) w ≡ is_sleeping d
        → IsActivity (e ∷ past) w (activity_from a (behind (e ∷ past)) d)
    begins d runs sleeps =
        record {
          runs = runs;
          sleeps = sleeps;
          since = record { entries = omega arith; ticks = omega arith };
          spent = spent_is _ _ (nothing_more (is_running d) _ (behind (e ∷ past)))
              (nothing_more (is_sleeping d) _ (behind (e ∷ past))) ∙ spent_more;
        }
      where
        nothing_more : (b : Bool) (sum at : Span) → span_until b sum at at ≡ sum
        nothing_more true sum at = span_is _ sum (omega arith) (omega arith)
        nothing_more false sum at = refl

-- ---- what a worker does after an entry

by_other : (s : Layout) (past : List Entry) (e : Entry) (w : WorkerId) → IsLegal s (e ∷ past)
    → is_by (Worker w) e ≡ false → (runs_awake (e ∷ past) w ≡ runs_awake past w)
    × (runs_asleep (e ∷ past) w ≡ runs_asleep past w)
by_other s past e w legal other =
    let run_same : run (e ∷ past) w ≡ run past w =
    workers_run_on s past e w legal ∙ ap (λ (b : Bool). if b then run_after e.reply (run past w) else run past w)
    other in
    let sleep_same : is_asleep (e ∷ past) w ≡ is_asleep past w =
    sleepers_go_on past e w
    ∙ ap (λ (b : Bool). if b then asleep_after e.reply (is_asleep past w) else is_asleep past w) other in (
      ap₂ (λ (o : Option ℕ) (b : Bool). is_some o && not b) run_same sleep_same,
      ap₂ (λ (o : Option ℕ) (b : Bool). is_some o && b) run_same sleep_same,
    )

-- by its reply, where it slept only if it was awake, and woke only if it slept
by_reply : (r : Reply) (o : Option ℕ) (b : Bool) (d : Doing) → (is_some o && not b) ≡ is_running d
    → (is_some o && b) ≡ is_sleeping d
    → (r ≡ reply.Slept → (is_some o && not b) ≡ true) → (r ≡ reply.Woke → (is_some o && b) ≡ true)
    → ((is_some (run_after r o) && not (asleep_after r b)) ≡ is_running (doing_after r d))
    × ((is_some (run_after r o) && asleep_after r b) ≡ is_sleeping (doing_after r d))
by_reply (reply.Started n) o b d runs sleeps slept woke = (refl, refl)
by_reply (reply.StartedEnlist n x) o b d runs sleeps slept woke = (refl, refl)
by_reply (reply.Finished n) o b d runs sleeps slept woke = (refl, refl)
by_reply reply.Slept None b d runs sleeps slept woke = let never : false ≡ true = slept refl in cc
by_reply reply.Slept (Some n) b d runs sleeps slept woke = (refl, refl)
by_reply reply.Woke None b d runs sleeps slept woke = let never : false ≡ true = woke refl in cc
by_reply reply.Woke (Some n) b d runs sleeps slept woke = (refl, refl)
by_reply r o b d runs sleeps slept woke = (runs, sleeps)

by_itself : (s : Layout) (past : List Entry) (e : Entry) (w : WorkerId) (a : Activity) → IsLegal s (e ∷ past)
    → e.who ≡ Worker w → IsActivity past w a
    → (runs_awake (e ∷ past) w ≡ is_running (doing_after e.reply a.doing))
    × (runs_asleep (e ∷ past) w ≡ is_sleeping (doing_after e.reply a.doing))
by_itself s past e w a legal who is =
    let own : is_by (Worker w) e ≡ true = ap (λ (x : Who). same_who x (Worker w)) who ∙ same_worker_itself w in
    let run_is : run (e ∷ past) w ≡ run_after e.reply (run past w) =
    workers_run_on s past e w legal ∙ ap (λ (b : Bool). if b then run_after e.reply (run past w) else run past w)
    own in
    let sleep_is : is_asleep (e ∷ past) w ≡ asleep_after e.reply (is_asleep past w) =
    sleepers_go_on past e w
    ∙ ap (λ (b : Bool). if b then asleep_after e.reply (is_asleep past w) else is_asleep past w) own in
    let cause = cause_of s past e legal in
    let same : (v : WorkerId) → e.who ≡ Worker v → v ≡ w = λ v is. same_starter v w (sym is ∙ who) in
    let slept : e.reply ≡ reply.Slept → runs_awake past w ≡ true = λ h. let why =
    sleep_reason s past e.who e.call e.reply cause h in
    subst (λ v. runs_awake past v ≡ true) (same why.0 why.1) why.3 in
    let woke : e.reply ≡ reply.Woke → runs_asleep past w ≡ true = λ h. let why =
    wake_reason s past e.who e.call e.reply cause h in
    subst (λ v. runs_asleep past v ≡ true) (same why.0 why.1) why.3 in
    let now = by_reply e.reply (run past w) (is_asleep past w) a.doing is.runs is.sleeps slept woke in (
      ap₂ (λ (o : Option ℕ) (b : Bool). is_some o && not b) run_is sleep_is ∙ now.0,
      ap₂ (λ (o : Option ℕ) (b : Bool). is_some o && b) run_is sleep_is ∙ now.1,
    )

-- ---- workers by their numbers

worker_of : ℕ → Bool → ℕ → WorkerId
worker_of cpu high index = record { pool = record { cpu = record { 0 = cpu }; high = high }; index = index }

same_numbers : (a b : Bool) (c d x y : ℕ) → x < most_workers → y < most_workers
    → 2 * most_workers * c + (if a then most_workers else 0) + x
    ≡ 2 * most_workers * d + (if b then most_workers else 0) + y → (c ≡ d) × (a ≡ b) × (x ≡ y)
same_numbers true true c d x y small less h = (omega arith, refl, omega arith)
same_numbers true false c d x y small less h = absurd (let never : ⊥ = omega arith in never)
same_numbers false true c d x y small less h = absurd (let never : ⊥ = omega arith in never)
same_numbers false false c d x y small less h = (omega arith, refl, omega arith)

apart : (v w : WorkerId) → v.index < most_workers → w.index < most_workers → same_worker v w ≡ false
    → worker_number w ≢ worker_number v
unfolding worker_of
apart v w small less other same =
    let are = same_numbers w.pool.high v.pool.high w.pool.cpu.0 v.pool.cpu.0 w.index v.index less small same in
    let is : worker_of v.pool.cpu.0 v.pool.high v.index ≡ worker_of w.pool.cpu.0 w.pool.high w.index =
    ap (λ c. worker_of c v.pool.high v.index) (sym are.0)
    ∙ (ap (λ b. worker_of w.pool.cpu.0 b v.index) (sym are.1)
    ∙ ap (worker_of w.pool.cpu.0 w.pool.high) (sym are.2)) in
    let yes : same_worker v w ≡ true = ap (λ (x : WorkerId). same_worker x w) is ∙ same_worker_itself w in
    let never : true ≡ false = sym yes ∙ other in
    cc

pub number_inside : (w : WorkerId) (cpus : ℕ) → w.pool.cpu.0 < cpus → w.index < most_workers
    → worker_number w < 2 * most_workers * cpus
number_inside w cpus here small = by w.pool.high
  where
    by : (b : Bool)
        → 2 * most_workers * w.pool.cpu.0 + (if b then most_workers else 0) + w.index < 2 * most_workers * cpus
    by true = omega arith
    by false = omega arith

-- ---- the table

pub idle_all : (cpus : ℕ) → AreActivities cpus [] (replicate (2 * most_workers * cpus) IDLE)
idle_all cpus = record {
  many_are = length-replicate (2 * most_workers * cpus) IDLE;
  each = λ w here small. subst (IsActivity [] w)
      (sym (get_or-replicate (2 * most_workers * cpus) (worker_number w) IDLE IDLE (number_inside w cpus here small)))
      (idle_at_first w);
}

module _ (s : Layout) (past : List Entry) (e : Entry) (legal : IsLegal s (e ∷ past)) (old : List Activity)
    (are : AreActivities s.cpus past old) where
  still : (w : WorkerId) → w.pool.cpu.0 < s.cpus → w.index < most_workers → is_by (Worker w) e ≡ false
      → IsActivity (e ∷ past) w (activity_in old w)
  still w here small other =
      let same = by_other s past e w legal other in
      goes_on past w (activity_in old w) (are.each w here small) e same.0 same.1

  pub callers_change_none : (c : Who) → e.who ≡ c → ((w : WorkerId) → same_who c (Worker w) ≡ false)
      → AreActivities s.cpus (e ∷ past) old
  callers_change_none c who none =
      record {
        many_are = are.many_are;
        each =
            λ w here small. still w here small (ap (λ (x : Who). same_who x (Worker w)) who ∙ none w);
      }

  pub workers_change_theirs : (v : WorkerId) → e.who ≡ Worker v → v.pool.cpu.0 < s.cpus → v.index < most_workers
      → AreActivities s.cpus (e ∷ past)
      (set old (worker_number v)
      (activity_from (activity_in old v) (behind (e ∷ past)) (doing_after e.reply (activity_in old v).doing)))
  workers_change_theirs v who there tiny =
      record {
        many_are = length-set old (worker_number v) _ ∙ are.many_are;
        each =
            λ w here small. by w here small (same_worker v w) refl;
      }
    where
      after : Activity
      after = activity_from (activity_in old v) (behind (e ∷ past)) (doing_after e.reply (activity_in old v).doing)

      inside : worker_number v < length old
      inside = let many = are.many_are in let below = number_inside v s.cpus there tiny in omega arith

      by : (w : WorkerId) → w.pool.cpu.0 < s.cpus → w.index < most_workers → (b : Bool) → same_worker v w ≡ b
          → IsActivity (e ∷ past) w (get_or (set old (worker_number v) after) (worker_number w) IDLE)
      by w here small true same =
          let is : v ≡ w = same_worker-true v w same in
          let own = by_itself s past e v (activity_in old v) legal who (are.each v there tiny) in
          let begin =
          begins past v (activity_in old v) (are.each v there tiny) e
          (doing_after e.reply (activity_in old v).doing) own.0 own.1 in
          subst (λ x. IsActivity (e ∷ past) x (get_or (set old (worker_number v) after) (worker_number x) IDLE)) is
          (subst (IsActivity (e ∷ past) v) (sym (get_or-set_same old (worker_number v) after IDLE inside)) begin)
      by w here small false other =
          subst (IsActivity (e ∷ past) w)
          (sym (get_or-set_other old (worker_number v) (worker_number w) after IDLE (apart v w tiny small other)))
          (still w here small (ap (λ (x : Who). same_who x (Worker w)) who ∙ other))

-- ---- the next entry

pub acted_are : (s : Layout) (past : List Entry) (t : Effect) (old : List Activity) → IsNext s past t
    → AreActivities s.cpus past old
    → AreActivities s.cpus (t.entry ∷ past) (activities_after old t.entry (behind (t.entry ∷ past)))
unfolding IsLegal
acted_are s past t old next are = by t.entry.who refl (fits_there s t.entry.who t.entry.call next.effect.legal.0)
  where
    by : (who : Who) → t.entry.who ≡ who → IsThere s who
        → AreActivities s.cpus (t.entry ∷ past) (acted_by who old t.entry.reply (behind (t.entry ∷ past)))
    by (Caller c) who there = callers_change_none s past t.entry next.effect.legal old are (Caller c) who (λ w. refl)
    by (Worker v) who there =
        let least = (limits_of s next.inside).workers.1 in
        workers_change_theirs s past t.entry next.effect.legal old are v who there.0 (let less : v.index < s.workers =
        there.1 in omega arith)

pub may_act : (s : Layout) (past : List Entry) (t : Effect) (old : List Activity) → IsNext s past t
    → AreActivities s.cpus past old → MayAct t.entry.who old (behind (t.entry ∷ past))
unfolding IsLegal
may_act s past t old next are = by t.entry.who (fits_there s t.entry.who t.entry.call next.effect.legal.0)
  where
    by : (who : Who) → IsThere s who → MayAct who old (behind (t.entry ∷ past))
    by (Caller c) there = tt
    by (Worker v) there =
        let least = (limits_of s next.inside).workers.1 in
        let less : v.index < most_workers = let few : v.index < s.workers = there.1 in omega arith in
        up_to past v (activity_in old v) (are.each v there.0 less) (behind (t.entry ∷ past))
        (small_before past t.entry (small_then next)) (small_then next)
