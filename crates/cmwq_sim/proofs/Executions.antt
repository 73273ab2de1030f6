-- The steps of an execution, as those of the moments that it shows.
use Rattle.cmwq_sim.specs.Common.{◌≡◌, ◌==◌, ◌<◌, ◌≤◌, ◌+◌, ◌*◌, ◌&&◌, ℕ, zero, suc, true, false, not, set, List, []}
use Rattle.cmwq_sim.specs.Common.{◌∷◌, ◌++◌, length, drop, map, filter, find, fold, add-one, append-nil, Option, Some}
use Rattle.cmwq_sim.specs.Common.{None, refl, sym, ap, ap₂, ◌∙◌, subst, arith, option_map, AllByRecursion}
use Rattle.cmwq_sim.specs.Common.{range_with_len, list_any, map-append, get_or-set_same, get_or-set_other, length-set}
use Rattle.cmwq_sim.specs.Common.{eq-eqb, Who, Worker, Call, Entry, Queueing, WorkerId, has_time, has_room, entry_for}
use Rattle.cmwq_sim.specs.Common.{has_number, run, room_needed, runs_are_in_pools, History, past_in, next_entry, takes}
use Rattle.cmwq_sim.specs.Common.{with_entry, All_map, All_each, nat_tests, fold-append, if◌then◌else◌}
use Rattle.std.proofs.Common.{subst₂}
use Rattle.cmwq_model.specs.declared.call.Call.TheVariants as call
use Rattle.cmwq_model.proofs.Growing.{one_more_is_newest}
use Rattle.cmwq_sim.specs.declared.scenario.LineKind.TheVariants as kind
use Rattle.cmwq_sim.specs.declared.execution.Running.{Running}
use Rattle.cmwq_sim.specs.declared.execution.Asleep.{Asleep}
use Rattle.cmwq_sim.specs.declared.execution.Execution.{Execution}
use Rattle.cmwq_sim.specs.Plan.{Plan, ms_of, plan_queue, is_of_plan_queue, event_of}
use Rattle.cmwq_sim.specs.Limits.{IsWithinLimits}
use Rattle.cmwq_sim.specs.Lines.{Moment, Job, Sleeper, job_with, job_of, wake_sleepers, millisecond, burn, burn_first}
use Rattle.cmwq_sim.specs.Lines.{queue_item, queued_at_first, empty, starting_items, start, tell_starts, make_ready}
use Rattle.cmwq_sim.specs.Lines.{tell, serve, is_due, is_other_sleeper, wake_sleeper, wake_item, serve_first}
use Rattle.cmwq_sim.specs.Shows.{layout_for, plan_worker, Shows, moment_of, queueing_for, IsRunAt, is_job, is_sleeper}
use Rattle.cmwq_sim.specs.Shows.{runs_in}
use Rattle.cmwq_sim.specs.Rooms.{IsRoomy, parts_left}
use Rattle.cmwq_sim.specs.Standing.{job_seen, sleeper_seen, moment_in, slot_in, Stands, StandsAt, started_one}
use Rattle.cmwq_sim.specs.Standing.{starts_lines, LessFirst}
use Rattle.cmwq_sim.specs.Takers.{IsTaker, NoTaker, taken_by}
use Rattle.cmwq_sim.proofs.Progress.{item_limits, rest, IsRunning, Begins, served, awake, started, passes}
use Rattle.cmwq_sim.proofs.Outset.{begins, queue_keeps}
use Rattle.cmwq_sim.specs.Ends.{moment_after}
use Rattle.cmwq_sim.proofs.TakersAre.{taker_starts}
use Rattle.cmwq_sim.proofs.TakeShown.{slot_with, take_shown, job_item}
use Rattle.cmwq_sim.proofs.Lists.{last_any, filter_mapped, both_ways, or_right, found_passes, range_more}
use Rattle.cmwq_sim.proofs.TakeReads.{run_of}
use Rattle.cmwq_sim.proofs.Phases.{other_lines, taken, takes_on, starts_on, start_is, serve_sleeps, serve_ends}
use Rattle.cmwq_sim.proofs.Phases.{wake_burns, wake_ends, may_start, due_item, asleep_there}
use Rattle.cmwq_sim.proofs.Queued.{ShowsQueued, queue_call, caller, queue_shown, all_shown, nothing_shown}
use Rattle.cmwq_sim.proofs.RoomKept.{queue_roomy, has_room_then, sleep_roomy, end_roomy, start_roomy, wake_roomy}
use Rattle.cmwq_sim.proofs.RoomKept.{wake_burns_roomy, wake_ends_roomy}
use Rattle.cmwq_sim.proofs.Roomy.{needs_nothing_at_first}
use Rattle.cmwq_sim.proofs.Determined.{determined}
use Rattle.cmwq_sim.proofs.Steps.{then_calls, served_as, woken_as}

-- the worker that runs the item
abbrev pub seat : Execution → ℕ → Who
seat r i = Worker (plan_worker (slot_in r.slots i))

-- the lists of a moment
pub record Lists (s : Plan) (r : Execution) (m : Moment) : Type 0 where
  pub cpu : map (job_seen s) r.cpu.items ≡ m.cpu
  pub sleeping : map (sleeper_seen s) r.sleeping.items ≡ m.sleeping
  pub lines : map event_of r.lines.items ≡ m.lines

stands_at : (s : Plan) (r : Execution) (m : Moment) → IsWithinLimits s → r.book.layout ≡ layout_for s
    → r.book.room ≡ 1000 → Shows s (past_in r.book) m (slot_in r.slots) → IsRoomy s (past_in r.book) m
    → length r.slots ≡ 8 → AllByRecursion (λ x. x < 8) r.slots → Lists s r m
    → StandsAt s r m
stands_at s r m limits layout room shows roomy slots seated lists = record {
  stands = record {
    limits = limits;
    layout = layout;
    room = room;
    shows = subst (λ m2. Shows s (past_in r.book) m2 (slot_in r.slots)) (sym same) shows;
    roomy = subst (λ m2. IsRoomy s (past_in r.book) m2) (sym same) roomy;
    slots = slots;
    seated = seated;
  };
  moment = same;
}
  where
    same : moment_in s r ≡ m
    same =
        ap₂ (λ js xs. moment_of s (past_in r.book) js xs (map event_of r.lines.items)) lists.cpu lists.sleeping
        ∙ ap (moment_of s (past_in r.book) m.cpu m.sleeping) lists.lines
        ∙ determined s (past_in r.book) m (slot_in r.slots) shows

-- a call makes the history one entry longer
past_after : (s : Plan) (h h2 : History) (who : Who) (c : Call) → h.layout ≡ layout_for s
    → h2 ≡ with_entry h (next_entry h who c) → past_in h2 ≡ entry_for (layout_for s) (past_in h) who c ∷ past_in h
past_after s h h2 who c layout is = ap past_in is ∙ one_more_is_newest h.entries (next_entry h who c)
    ∙ ap (λ l. entry_for l (past_in h) who c ∷ past_in h) layout

room_for : (s : Plan) (h : History) (who : Who) (c : Call) (m : Moment) → h.layout ≡ layout_for s → h.room ≡ 1000
    → has_time (past_in h) c ≡ true → IsRoomy s (entry_for (layout_for s) (past_in h) who c ∷ past_in h) m
    → takes h who c ≡ true
room_for s h who c m layout room time roomy = ap₂ (λ l n. has_room l n (past_in h) who c) layout room
    ∙ has_room_then s (past_in h) who c m time roomy

-- an execution goes on to where another history leads
goes_on : (s : Plan) (r r2 : Execution) (past : List Entry) (m : Moment) → Stands s r → r2.book.layout ≡ r.book.layout
    → r2.book.room ≡ r.book.room → past_in r2.book ≡ past → r2.slots ≡ r.slots → Shows s past m (slot_in r.slots)
    → IsRoomy s past m → Lists s r2 m → StandsAt s r2 m
goes_on s r r2 past m h layout room is slots shows roomy =
    stands_at s r2 m h.limits (layout ∙ h.layout) (room ∙ h.room)
    (subst₂ (λ ps ss. Shows s ps m (slot_in ss)) (sym is) (sym slots) shows)
    (subst (λ ps. IsRoomy s ps m) (sym is) roomy) (ap length slots ∙ h.slots)
    (subst (AllByRecursion (λ x. x < 8)) (sym slots) h.seated)

-- by a call
calls_on : (s : Plan) (r r2 : Execution) (who : Who) (c : Call) (m : Moment) → Stands s r
    → r2.book ≡ with_entry r.book (next_entry r.book who c) → r2.slots ≡ r.slots
    → Shows s (entry_for (layout_for s) (past_in r.book) who c ∷ past_in r.book) m (slot_in r.slots)
    → IsRoomy s (entry_for (layout_for s) (past_in r.book) who c ∷ past_in r.book) m → Lists s r2 m
    → StandsAt s r2 m
calls_on s r r2 who c m h book =
    goes_on s r r2 _ m h (ap (λ (b : History). b.layout) book) (ap (λ (b : History). b.room) book)
    (past_after s r.book r2.book who c h.layout book)

-- or by none
stays_on : (s : Plan) (r r2 : Execution) (m : Moment) → Stands s r → r2.book ≡ r.book → r2.slots ≡ r.slots
    → Shows s (past_in r.book) m (slot_in r.slots) → IsRoomy s (past_in r.book) m → Lists s r2 m → StandsAt s r2 m
stays_on s r r2 m h book =
    goes_on s r r2 (past_in r.book) m h (ap (λ (b : History). b.layout) book) (ap (λ (b : History). b.room) book)
    (ap past_in book)

ready_keeps : (s : Plan) (r : Execution) (m : Moment) (o : Option ℕ) → Lists s r m → Lists s r (make_ready m o)
ready_keeps s r m None h = h
ready_keeps s r m (Some i) h = assumption

-- ---- (1) the first of the CPU's list

module _ (s : Plan) (t : ℕ) (r : Execution) (job : Running) (js : List Running) (h : Stands s r)
    (is : r.cpu.items ≡ job ∷ js) (done : job.burn ≡ 0) where
  first : (moment_in s r).cpu ≡ job_seen s job ∷ map (job_seen s) js
  first = ap (map (job_seen s)) is

  became : (left : List ℕ) → drop job.next (ms_of s job.item) ≡ left
      → serve s t (moment_in s r) ≡ served_as s t (moment_in s r) (map (job_seen s) js) job.item left
  became left parts = ap (serve_first s t (moment_in s r)) first
      ∙ ap (λ b. if b
      then served_as s t (moment_in s r) (map (job_seen s) js) job.item (drop job.next (ms_of s job.item))
      else moment_in s r) (eq-eqb job.burn 0 done)
      ∙ ap (served_as s t (moment_in s r) (map (job_seen s) js) job.item) parts

  sleeps_roomy : (pause : ℕ) (left : List ℕ) → drop job.next (ms_of s job.item) ≡ pause ∷ left
      → IsRoomy s (then_calls s (past_in r.book) (slot_in r.slots job.item) call.Sleep)
      (served_as s t (moment_in s r) (map (job_seen s) js) job.item (pause ∷ left))
  sleeps_roomy pause left parts =
      sleep_roomy s t (past_in r.book) (moment_in s r) (slot_in r.slots) (job_seen s job) (map (job_seen s) js) pause
      left h.shows h.roomy first parts

  ends_roomy : IsRoomy s (then_calls s (past_in r.book) (slot_in r.slots job.item) call.Finish)
      (served_as s t (moment_in s r) (map (job_seen s) js) job.item [])
  ends_roomy =
      end_roomy s t (past_in r.book) (moment_in s r) (slot_in r.slots) (job_seen s job) (map (job_seen s) js) h.shows
      h.roomy first

  pub sleeps : (r2 : Execution) (pause : ℕ) → drop job.next (ms_of s job.item) ≡ pause
      ∷ drop (job.next + 1) (ms_of s job.item)
      → r2.book ≡ with_entry r.book (next_entry r.book (seat r job.item) call.Sleep) → r2.slots ≡ r.slots
      → r2.cpu.items ≡ js
      → r2.sleeping.items ≡ r.sleeping.items ++ record { item = job.item; until = t + pause; next = job.next + 1 } ∷ []
      → map event_of r2.lines.items ≡ map event_of r.lines.items
      ++ record { at = t; kind = kind.Sleeps; items = job.item ∷ [] } ∷ []
      → StandsAt s r2 (serve s t (moment_in s r))
  sleeps r2 pause parts book slots cpu sleeping lines =
      let left = drop (job.next + 1) (ms_of s job.item) in
      subst (StandsAt s r2) (sym (became (pause ∷ left) parts))
      (calls_on s r r2 (seat r job.item) call.Sleep
      (served_as s t (moment_in s r) (map (job_seen s) js) job.item (pause ∷ left)) h book slots
      (serve_sleeps s t (past_in r.book) (moment_in s r) (slot_in r.slots) (job_seen s job) (map (job_seen s) js) pause
      left h.shows first) (sleeps_roomy pause left parts) (record {
        cpu = ap (map (job_seen s)) cpu;
        sleeping =
            ap (map (sleeper_seen s)) sleeping
            ∙ map-append (sleeper_seen s) r.sleeping.items
            (record { item = job.item; until = t + pause; next = job.next + 1 } ∷ []);
        lines = lines;
      }))

  pub ends : (r2 : Execution) → drop job.next (ms_of s job.item) ≡ []
      → r2.book ≡ with_entry r.book (next_entry r.book (seat r job.item) call.Finish) → r2.slots ≡ r.slots
      → r2.cpu.items ≡ js
      → r2.sleeping.items ≡ r.sleeping.items → map event_of r2.lines.items ≡ map event_of r.lines.items
      ++ record { at = t; kind = kind.Ends; items = job.item ∷ [] } ∷ [] → StandsAt s r2 (serve s t (moment_in s r))
  ends r2 parts book slots cpu sleeping lines =
      subst (StandsAt s r2) (sym (became [] parts))
      (calls_on s r r2 (seat r job.item) call.Finish (served_as s t (moment_in s r) (map (job_seen s) js) job.item []) h
      book slots
      (serve_ends s t (past_in r.book) (moment_in s r) (slot_in r.slots) (job_seen s job) (map (job_seen s) js) h.shows
      first) ends_roomy
      (ready_keeps s r2 (tell t kind.Ends (job.item ∷ []) (record (moment_in s r) { cpu = map (job_seen s) js }))
      (find (is_of_plan_queue s (plan_queue s job.item)) (moment_in s r).behind)
      (record { cpu = ap (map (job_seen s)) cpu; sleeping = ap (map (sleeper_seen s)) sleeping; lines = lines })))

  pub has_room_to_sleep : (pause : ℕ) (left : List ℕ) → drop job.next (ms_of s job.item) ≡ pause ∷ left
      → takes r.book (seat r job.item) call.Sleep ≡ true
  has_room_to_sleep pause left parts =
      room_for s r.book (seat r job.item) call.Sleep
      (served_as s t (moment_in s r) (map (job_seen s) js) job.item (pause ∷ left)) h.layout h.room refl
      (sleeps_roomy pause left parts)

  pub has_room_to_end : takes r.book (seat r job.item) call.Finish ≡ true
  has_room_to_end =
      room_for s r.book (seat r job.item) call.Finish (served_as s t (moment_in s r) (map (job_seen s) js) job.item [])
      h.layout h.room refl ends_roomy

-- ---- who runs has a number below 8

found_below : (s : Plan) (n : ℕ) (x : Queueing) (k len : ℕ)
    → find (has_number n) (map (queueing_for s) (range_with_len k len)) ≡ Some x → n < k + len
found_below s n x k zero h = cc
found_below s n x k (suc len) h = grind (arith, nat_tests, found_below s n x (k + 1) len)

runs_there : (s : Plan) (past : List Entry) (m : Moment) (slot : ℕ → ℕ) (w : WorkerId) (n : ℕ) → Shows s past m slot
    → run past w ≡ Some n → n < length s.items
runs_there s past m slot w n h is =
    let k = runs_are_in_pools (layout_for s) past w n h.legal is in
    omega (arith, found_below s n k.queueing 0 (length s.items) (sym (ap (find (has_number n)) h.queued) ∙ k.found))

runs_below : (s : Plan) (r : Execution) (w : WorkerId) (n : ℕ) → Stands s r → run (past_in r.book) w ≡ Some n → n < 8
runs_below s r w n h is =
    omega (arith, runs_there s (past_in r.book) (moment_in s r) (slot_in r.slots) w n h.shows is, h.limits.few_items)

pub first_below : (s : Plan) (r : Execution) (job : Running) (js : List Running) → Stands s r → r.cpu.items ≡ job ∷ js
    → job.item < 8
first_below s r job js h is =
    let run =
    subst (AllByRecursion (λ k. IsRunAt (past_in r.book) (slot_in r.slots k.item) k.item false))
    (ap (map (job_seen s)) is) h.shows.cpu in
    runs_below s r (plan_worker (slot_in r.slots job.item)) job.item h run.0.runs

-- ---- (2) a sleeper

seen_due : (s : Plan) (t i : ℕ) (xs : List Asleep) (o : Option Asleep)
    → o ≡ find (λ (x : Asleep). (x.item == i) && (x.until == t)) xs → find (is_due t i) (map (sleeper_seen s) xs)
    ≡ option_map (sleeper_seen s) o
seen_due s t i xs o is = over xs ∙ ap (option_map (sleeper_seen s)) (sym is)
  where
    over : (ys : List Asleep) → find (is_due t i) (map (sleeper_seen s) ys)
        ≡ option_map (sleeper_seen s) (find (λ (x : Asleep). (x.item == i) && (x.until == t)) ys)
    over [] = refl
    over (y ∷ ys) = grind (arith, over ys)

seen_others : (s : Plan) (i : ℕ) (xs : List Asleep)
    → map (sleeper_seen s) (filter (λ (x : Asleep). not (x.item == i)) xs)
    ≡ filter (is_other_sleeper i) (map (sleeper_seen s) xs)
seen_others s i xs =
    sym (filter_mapped (sleeper_seen s) (is_other_sleeper i) (λ x. not (x.item == i)) xs (All_each _ xs (λ x. refl)))

pub nobody_woken : (s : Plan) (t i : ℕ) (r : Execution) (o : Option Asleep) → Stands s r
    → o ≡ find (λ (x : Asleep). (x.item == i) && (x.until == t)) r.sleeping.items → o ≡ None
    → StandsAt s r (wake_item s t (moment_in s r) i)
nobody_woken s t i r o h is none =
    record {
      stands = h;
      moment =
          sym (ap (wake_sleeper s t (moment_in s r))
          (seen_due s t i r.sleeping.items o is ∙ ap (option_map (sleeper_seen s)) none));
    }

module _ (s : Plan) (t i : ℕ) (r : Execution) (x : Asleep) (o : Option Asleep) (h : Stands s r)
    (found : o ≡ find (λ (y : Asleep). (y.item == i) && (y.until == t)) r.sleeping.items) (some : o ≡ Some x) where
  due : find (is_due t i) (moment_in s r).sleeping ≡ Some (sleeper_seen s x)
  due = seen_due s t i r.sleeping.items o found ∙ ap (option_map (sleeper_seen s)) some

  its : x.item ≡ i
  its = due_item t i (sleeper_seen s x) (found_passes (is_due t i) (moment_in s r).sleeping (sleeper_seen s x) due)

  asleep : list_any (is_sleeper i) (moment_in s r).sleeping ≡ true
  asleep = asleep_there t i (moment_in s r) (sleeper_seen s x) due

  pub sleeper_below : i < 8
  sleeper_below =
      runs_below s r (plan_worker (slot_in r.slots i)) i h
      (run_of (λ (y : Sleeper). y.item) (past_in r.book) (slot_in r.slots) true i (moment_in s r).sleeping
      h.shows.sleeping asleep).runs

  parts_of : (left : List ℕ) → drop x.next (ms_of s i) ≡ left → (sleeper_seen s x).left ≡ left
  parts_of left parts = ap (λ k. drop x.next (ms_of s k)) its ∙ parts

  woken_is : (left : List ℕ) → drop x.next (ms_of s i) ≡ left
      → wake_item s t (moment_in s r) i ≡ woken_as s t (moment_in s r) i left
  woken_is left parts = ap (wake_sleeper s t (moment_in s r)) due
      ∙ ap₂ (λ k ms. woken_as s t (moment_in s r) k ms) its (parts_of left parts)

  pub wakes : (r2 : Execution) (b : ℕ) → drop x.next (ms_of s i) ≡ b ∷ drop (x.next + 1) (ms_of s i)
      → r2.book ≡ with_entry r.book (next_entry r.book (seat r i) call.Wake) → r2.slots ≡ r.slots
      → r2.cpu.items ≡ r.cpu.items ++ record { item = i; burn = b; next = x.next + 1 } ∷ []
      → r2.sleeping.items ≡ filter (λ (y : Asleep). not (y.item == i)) r.sleeping.items
      → map event_of r2.lines.items ≡ map event_of r.lines.items
      ++ record { at = t; kind = kind.WakesBurns; items = i ∷ [] } ∷ []
      → StandsAt s r2 (wake_item s t (moment_in s r) i)
  wakes r2 b parts book slots cpu sleeping lines =
      let left = drop (x.next + 1) (ms_of s i) in
      subst (StandsAt s r2) (sym (woken_is (b ∷ left) parts))
      (calls_on s r r2 (seat r i) call.Wake (woken_as s t (moment_in s r) i (b ∷ left)) h book slots
      (wake_burns s t i (past_in r.book) (moment_in s r) (slot_in r.slots) h.shows asleep b left)
      (wake_burns_roomy s t i (past_in r.book) (moment_in s r) (slot_in r.slots) (sleeper_seen s x) h.shows h.roomy
      due its asleep b left (parts_of (b ∷ left) parts)) (record {
        cpu = ap (map (job_seen s)) cpu
            ∙ map-append (job_seen s) r.cpu.items (record { item = i; burn = b; next = x.next + 1 } ∷ []);
        sleeping = ap (map (sleeper_seen s)) sleeping ∙ seen_others s i r.sleeping.items;
        lines = lines;
      }))

  pub has_room_to_wake : takes r.book (seat r i) call.Wake ≡ true
  has_room_to_wake =
      room_for s r.book (seat r i) call.Wake (moment_in s r) h.layout h.room refl
      (wake_roomy s t i (past_in r.book) (moment_in s r) (slot_in r.slots) (sleeper_seen s x) h.shows h.roomy due its
      asleep)

  -- awake, and then at its end
  module _ (b : History) (book : b ≡ with_entry r.book (next_entry r.book (seat r i) call.Wake))
      (parts : drop x.next (ms_of s i) ≡ []) where
    awake_layout : b.layout ≡ layout_for s
    awake_layout = ap (λ (k : History). k.layout) book ∙ h.layout

    awake_past : past_in b ≡ then_calls s (past_in r.book) (slot_in r.slots i) call.Wake
    awake_past = past_after s r.book b (seat r i) call.Wake h.layout book

    ended_roomy : IsRoomy s (then_calls s (past_in b) (slot_in r.slots i) call.Finish)
        (woken_as s t (moment_in s r) i [])
    ended_roomy =
        rw awake_past
        (wake_ends_roomy s t i (past_in r.book) (moment_in s r) (slot_in r.slots) (sleeper_seen s x) h.shows h.roomy due
        its asleep (parts_of [] parts))

    pub has_room_to_finish : takes b (seat r i) call.Finish ≡ true
    has_room_to_finish =
        room_for s b (seat r i) call.Finish (woken_as s t (moment_in s r) i []) awake_layout
        (ap (λ (k : History). k.room) book ∙ h.room) refl ended_roomy

    pub wakes_to_end : (r2 : Execution) → r2.book ≡ with_entry b (next_entry b (seat r i) call.Finish)
        → r2.slots ≡ r.slots → r2.cpu.items ≡ r.cpu.items
        → r2.sleeping.items ≡ filter (λ (y : Asleep). not (y.item == i)) r.sleeping.items
        → map event_of r2.lines.items ≡ map event_of r.lines.items
        ++ record { at = t; kind = kind.WakesEnds; items = i ∷ [] } ∷ []
        → StandsAt s r2 (wake_item s t (moment_in s r) i)
    wakes_to_end r2 book2 slots cpu sleeping lines =
        subst (StandsAt s r2) (sym (woken_is [] parts))
        (goes_on s r r2 _ (woken_as s t (moment_in s r) i []) h
        (ap (λ (k : History). k.layout) book2 ∙ ap (λ (k : History). k.layout) book)
        (ap (λ (k : History). k.room) book2 ∙ ap (λ (k : History). k.room) book)
        (past_after s b r2.book (seat r i) call.Finish awake_layout book2) slots
        (rw awake_past (wake_ends s t i (past_in r.book) (moment_in s r) (slot_in r.slots) h.shows asleep))
        ended_roomy
        (ready_keeps s r2
        (tell t kind.WakesEnds (i ∷ [])
        (record (moment_in s r) { sleeping = filter (is_other_sleeper i) (moment_in s r).sleeping }))
        (find (is_of_plan_queue s (plan_queue s i)) (moment_in s r).behind)
        (record {
          cpu = ap (map (job_seen s)) cpu;
          sleeping =
              ap (map (sleeper_seen s)) sleeping ∙ seen_others s i r.sleeping.items;
          lines = lines;
        })))

-- ---- (3) a start

other_slots : (s : Plan) (past : List Entry) (m : Moment) (slot seat2 : ℕ → ℕ) → ((i : ℕ) → slot i ≡ seat2 i)
    → Shows s past m slot → Shows s past m seat2
other_slots s past m slot seat2 same h =
    let jobs =
    All_map (λ (j : Job). IsRunAt past (slot j.item) j.item false)
    (λ (j : Job). IsRunAt past (seat2 j.item) j.item false) m.cpu
    (λ j k. subst (λ x. IsRunAt past x j.item false) (same j.item) k) h.cpu in
    let sleepers =
    All_map (λ (j : Sleeper). IsRunAt past (slot j.item) j.item true)
    (λ (j : Sleeper). IsRunAt past (seat2 j.item) j.item true) m.sleeping
    (λ j k. subst (λ x. IsRunAt past x j.item true) (same j.item) k) h.sleeping in
    let others : (w : WorkerId) (n : ℕ) → run past w ≡ Some n → (w ≡ plan_worker (seat2 n)) × (runs_in m n ≡ true) =
    λ w n is. let k = h.no_others w n is in (k.0 ∙ ap plan_worker (same n), k.1) in
    assumption

slots_set : (slots : List ℕ) (n x : ℕ) → n < length slots → (i : ℕ)
    → slot_with (slot_in slots) n x i ≡ slot_in (set slots n x) i
slots_set slots n x less i = grind (arith, nat_tests, get_or-set_same slots n x 0, get_or-set_other slots n i x 0)

seated_set : (slots : List ℕ) (n x : ℕ) → x < 8 → AllByRecursion (λ k. k < 8) slots
    → AllByRecursion (λ k. k < 8) (set slots n x)
seated_set [] n x less all = tt
seated_set (k ∷ slots) zero x less all = (less, all.1)
seated_set (k ∷ slots) (suc n) x less all = (all.0, seated_set slots n x less all.1)

module _ (s : Plan) (r : Execution) (x n : ℕ) (h : Stands s r) (t : IsTaker r.book.layout (past_in r.book) x n) where
  taker_is : IsTaker (layout_for s) (past_in r.book) x n
  taker_is = subst (λ l. IsTaker l (past_in r.book) x n) h.layout t

  start_shown : Shows s (then_calls s (past_in r.book) x call.Take) (started_one s (moment_in s r) n)
      (slot_with (slot_in r.slots) n x)
  start_shown =
      let k = taker_starts s (past_in r.book) (moment_in s r) (slot_in r.slots) x n h.shows taker_is in
      let may = may_start s (moment_in s r) n k.1 in
      take_shown s (past_in r.book) (moment_in s r) (slot_in r.slots) x n (drop 1 (moment_in s r).ready) h.shows t.below
      k.0 may.first may.clear

  pub starts_there : n < length s.items
  starts_there =
      let k = start_shown in
      let run =
      run_of (λ (j : Job). j.item) (then_calls s (past_in r.book) x call.Take) (slot_with (slot_in r.slots) n x)
      false n ((moment_in s r).cpu ++ job_of s n ∷ []) k.cpu
      (last_any (is_job n) (moment_in s r).cpu (job_of s n)
      ∙ or_right (list_any (is_job n) (moment_in s r).cpu) (is_job n (job_of s n))
      (eq-eqb (job_of s n).item n (job_item n (ms_of s n)))) in
      runs_there s (then_calls s (past_in r.book) x call.Take) (started_one s (moment_in s r) n)
      (slot_with (slot_in r.slots) n x) (plan_worker (slot_with (slot_in r.slots) n x n)) n k run.runs

  pub starts_below : n < 8
  starts_below = let a = starts_there in omega (arith, h.limits.few_items)

  one_roomy : IsRoomy s (then_calls s (past_in r.book) x call.Take) (started_one s (moment_in s r) n)
  one_roomy = start_roomy s (past_in r.book) (moment_in s r) (slot_in r.slots) x n h.shows h.roomy taker_is

  pub has_room_to_take : takes r.book (Worker (plan_worker x)) call.Take ≡ true
  has_room_to_take =
      room_for s r.book (Worker (plan_worker x)) call.Take (started_one s (moment_in s r) n) h.layout h.room refl
      one_roomy

  pub some_part : drop 0 (ms_of s n) ≡ [] → ⊥
  some_part none =
      let k = item_limits s n h.limits starts_there in
      omega (arith, k.parts.0, ap length none)

  pub starts : (r2 : Execution) (b : ℕ) → drop 0 (ms_of s n) ≡ b ∷ drop 1 (ms_of s n)
      → r2.book ≡ with_entry r.book (next_entry r.book (Worker (plan_worker x)) call.Take) → r2.slots ≡ set r.slots n x
      → r2.cpu.items ≡ r.cpu.items ++ record { item = n; burn = b; next = 1 } ∷ []
      → r2.sleeping.items ≡ r.sleeping.items → map event_of r2.lines.items ≡ map event_of r.lines.items
      → StandsAt s r2 (started_one s (moment_in s r) n)
  starts r2 b parts book slots cpu sleeping lines =
      let past = past_after s r.book r2.book (Worker (plan_worker x)) call.Take h.layout book in
      let below = starts_below in
      let eight = h.slots in
      stands_at s r2 (started_one s (moment_in s r) n) h.limits (ap (λ (k : History). k.layout) book ∙ h.layout)
      (ap (λ (k : History). k.room) book ∙ h.room)
      (subst (λ ps. Shows s ps (started_one s (moment_in s r) n) (slot_in r2.slots)) (sym past)
      (other_slots s (then_calls s (past_in r.book) x call.Take) (started_one s (moment_in s r) n)
      (slot_with (slot_in r.slots) n x) (slot_in r2.slots)
      (λ i. slots_set r.slots n x (omega arith) i ∙ ap (λ ss. slot_in ss i) (sym slots)) start_shown))
      (subst (λ ps. IsRoomy s ps (started_one s (moment_in s r) n)) (sym past) one_roomy)
      (ap length slots ∙ length-set r.slots n x ∙ h.slots)
      (subst (AllByRecursion (λ k. k < 8)) (sym slots) (seated_set r.slots n x t.below h.seated))
      (record {
        cpu = ap (map (job_seen s)) cpu
            ∙ map-append (job_seen s) r.cpu.items (record { item = n; burn = b; next = 1 } ∷ [])
            ∙ ap (λ j. map (job_seen s) r.cpu.items ++ j ∷ []) (sym (ap (job_with n) parts));
        sleeping = ap (map (sleeper_seen s)) sleeping;
        lines = lines;
      })

-- ---- loops

pub one_more : (f : Moment → ℕ → Moment) (m : Moment) (k : ℕ) → fold f m (range_with_len 0 (k + 1))
    ≡ f (fold f m (range_with_len 0 k)) k
one_more f m k = ap (λ n. fold f m (range_with_len 0 n)) (add-one k) ∙ ap (fold f m) (range_more 0 k)
    ∙ fold-append f m (range_with_len 0 k) ((0 + k) ∷ []) ∙ ap (f (fold f m (range_with_len 0 k))) (omega arith)

-- a take for which there is no room starts nothing
pub none_taken : (s : Plan) (r : Execution) (x : ℕ) → Stands s r → x < 8
    → takes r.book (Worker (plan_worker x)) call.Take ≡ false → taken_by r.book.layout (past_in r.book) x ≡ None
none_taken s r x h less full = at (taken_by r.book.layout (past_in r.book) x) refl
  where
    at : (o : Option ℕ) → taken_by r.book.layout (past_in r.book) x ≡ o → o ≡ None
    at None is = refl
    at (Some n) is =
        absurd (both_ways (takes r.book (Worker (plan_worker x)) call.Take) full
        (has_room_to_take s r x n h (record { below = less; starts = is })))

-- these have started, and with what would start then they are all that starts
pub record HaveStarted (s : Plan) (m : Moment) (r : Execution) (is : List ℕ) : Type 0 where
  pub at : StandsAt s r (taken s m is)
  pub all : starting_items s m.cpu m.ready ≡ is ++ starting_items s (taken s m is).cpu (taken s m is).ready

pub started_on : (s : Plan) (m : Moment) (r r2 : Execution) (is : List ℕ) (x n : ℕ) → HaveStarted s m r is
    → IsTaker r.book.layout (past_in r.book) x n → StandsAt s r2 (started_one s (moment_in s r) n)
    → HaveStarted s m r2 (is ++ n ∷ [])
started_on s m r r2 is x n h t next =
    let t2 = taker_is s r x n h.at.stands t in
    let shows = subst (λ m2. Shows s (past_in r.book) m2 (slot_in r.slots)) h.at.moment h.at.stands.shows in
    let same = ap (λ m2. started_one s m2 n) h.at.moment ∙ takes_on s m is n in
    let at = subst (StandsAt s r2) same next in
    record { at = at; all = h.all ∙ starts_on s (past_in r.book) m (slot_in r.slots) is x n shows t2 }

pub fewer_ready : (s : Plan) (r r2 : Execution) (x n : ℕ) → Stands s r → IsTaker r.book.layout (past_in r.book) x n
    → StandsAt s r2 (started_one s (moment_in s r) n) → length (moment_in s r2).ready < length (moment_in s r).ready
fewer_ready s r r2 x n h t next =
    let k = taker_starts s (past_in r.book) (moment_in s r) (slot_in r.slots) x n h.shows (taker_is s r x n h t) in
    let may = may_start s (moment_in s r) n k.1 in
    omega (arith, ap (λ (m : Moment). length m.ready) next.moment, ap length may.first)

-- ---- queueing

pub record QueuedSoFar (s : Plan) (b : History) (k : ℕ) : Type 0 where
  pub layout : b.layout ≡ layout_for s
  pub room : b.room ≡ 1000
  pub shows : ShowsQueued s k (past_in b) (fold (queue_item s) empty (range_with_len 0 k))
  pub roomy : room_needed (layout_for s) (past_in b) + 2 * parts_left s
      (fold (queue_item s) empty (range_with_len 0 k)) ≤ 19 * k

module _ (s : Plan) (b : History) (k : ℕ) (limits : IsWithinLimits s) (h : QueuedSoFar s b k)
    (less : k < length s.items) where
  few : k < 8
  few = omega (arith, limits.few_items)

  next_roomy : room_needed (layout_for s) (entry_for (layout_for s) (past_in b) caller (queue_call s k)
      ∷ past_in b) + 2 * parts_left s (queue_item s (fold (queue_item s) empty (range_with_len 0 k)) k) ≤ 19 * (k + 1)
  next_roomy =
      queue_roomy s k (past_in b) (fold (queue_item s) empty (range_with_len 0 k)) h.shows limits less few
      (item_limits s k limits less).queue h.roomy

  pub has_room_to_queue : takes b caller (queue_call s k) ≡ true
  has_room_to_queue =
      room_for s b caller (queue_call s k) (queue_item s (fold (queue_item s) empty (range_with_len 0 k)) k) h.layout
      h.room refl (let a = next_roomy in omega (arith, few))

  pub one_queued : (b2 : History) → b2 ≡ with_entry b (next_entry b caller (queue_call s k)) → QueuedSoFar s b2 (k + 1)
  one_queued b2 is =
      let past = past_after s b b2 caller (queue_call s k) h.layout is in
      record {
        layout = ap (λ (x : History). x.layout) is ∙ h.layout;
        room = ap (λ (x : History). x.room) is ∙ h.room;
        shows = rw (past, one_more (queue_item s) empty k, add-one k)
            (queue_shown s k (past_in b) (fold (queue_item s) empty (range_with_len 0 k)) h.shows few
            (item_limits s k limits less).queue);
        roomy = rw (past, one_more (queue_item s) empty k) next_roomy;
      }

pub none_yet : (s : Plan) (b : History) → b ≡ record { layout = layout_for s; room = 1000; entries = [] }
    → QueuedSoFar s b 0
none_yet s b is = subst (λ x. QueuedSoFar s x 0) (sym is) (record {
  layout = refl;
  room = refl;
  shows = nothing_shown s;
  roomy = omega (arith, needs_nothing_at_first s);
})

pub queued_shown : (s : Plan) (b : History) → IsWithinLimits s → QueuedSoFar s b (length s.items) → (slot : ℕ → ℕ)
    → Shows s (past_in b) (queued_at_first s) slot
queued_shown s b limits h slot = let none = queue_keeps s empty (range_with_len 0 (length s.items)) in
    all_shown s (past_in b) (queued_at_first s) slot limits.few_items none.0 none.1 h.shows

-- one line for all that start is told at the end
told : (t : ℕ) (m : Moment) (is : List ℕ) → record m { lines = m.lines ++ starts_lines t is } ≡ tell_starts t is m
told t m [] = ap (λ ls. record m { lines = ls }) (append-nil m.lines)
told t m (i ∷ is) = refl

pub all_started : (s : Plan) (t : ℕ) (m : Moment) (r r2 : Execution) (is : List ℕ) → HaveStarted s m r is
    → NoTaker r.book.layout (past_in r.book) 8 → r2.book ≡ r.book → r2.cpu.items ≡ r.cpu.items
    → r2.sleeping.items ≡ r.sleeping.items → r2.slots ≡ r.slots
    → map event_of r2.lines.items ≡ map event_of r.lines.items ++ starts_lines t is → StandsAt s r2 (start s t m)
all_started s t m r r2 is h nobody book cpu sleeping slots lines =
    let shows = subst (λ m2. Shows s (past_in r.book) m2 (slot_in r.slots)) h.at.moment h.at.stands.shows in
    let roomy = subst (λ m2. IsRoomy s (past_in r.book) m2) h.at.moment h.at.stands.roomy in
    let none = subst (λ l. NoTaker l (past_in r.book) 8) h.at.stands.layout nobody in
    let same = start_is s t (past_in r.book) m (slot_in r.slots) is shows none h.all in
    subst (StandsAt s r2) (told t (taken s m is) is ∙ sym same)
    (stays_on s r r2 (record (taken s m is) { lines = m.lines ++ starts_lines t is }) h.at.stands book slots
    (other_lines s (past_in r.book) (taken s m is) (slot_in r.slots) (m.lines ++ starts_lines t is) shows) roomy
    (record {
      cpu = ap (map (job_seen s)) cpu ∙ ap (λ (m2 : Moment). m2.cpu) h.at.moment;
      sleeping = ap (map (sleeper_seen s)) sleeping ∙ ap (λ (m2 : Moment). m2.sleeping) h.at.moment;
      lines = lines ∙ ap (λ (m2 : Moment). m2.lines ++ starts_lines t is) h.at.moment;
    }))

-- ---- the first of the CPU's list burns

burn_shown : (s : Plan) (past : List Entry) (m : Moment) (slot : ℕ → ℕ) → Shows s past m slot
    → Shows s past (burn m) slot
burn_shown s past m slot h = over m.cpu refl
  where
    over : (js : List Job) → m.cpu ≡ js → Shows s past (record m { cpu = burn_first js }) slot
    over [] is = subst (λ js. Shows s past (record m { cpu = js }) slot) is h
    over (j ∷ js) is = let k = subst (λ ks. Shows s past (record m { cpu = ks }) slot) is h in assumption

burn_seen : (s : Plan) (xs ys : List Running) → LessFirst xs ys → map (job_seen s) ys ≡ burn_first (map (job_seen s) xs)
burn_seen s [] ys h = ap (map (job_seen s)) h
burn_seen s (x ∷ xs) ys h = ap (map (job_seen s)) h

pub burns : (s : Plan) (r r2 : Execution) → Stands s r → r2.book ≡ r.book → r2.sleeping.items ≡ r.sleeping.items
    → r2.slots ≡ r.slots → r2.lines.items ≡ r.lines.items → LessFirst r.cpu.items r2.cpu.items
    → StandsAt s r2 (burn (moment_in s r))
burns s r r2 h book sleeping slots lines less =
    stays_on s r r2 (burn (moment_in s r)) h book slots
    (burn_shown s (past_in r.book) (moment_in s r) (slot_in r.slots) h.shows) (grind (arith, h.roomy))
    (record {
      cpu = burn_seen s r.cpu.items r2.cpu.items less;
      sleeping = ap (map (sleeper_seen s)) sleeping;
      lines =
          ap (map event_of) lines;
    })

-- ---- at first

pub outset : (s : Plan) (r : Execution) → IsWithinLimits s → r.book.layout ≡ layout_for s → r.book.room ≡ 1000
    → Shows s (past_in r.book) (queued_at_first s) (slot_in r.slots) → IsRoomy s (past_in r.book) (queued_at_first s)
    → r.slots ≡ 0 ∷ 0 ∷ 0 ∷ 0 ∷ 0 ∷ 0 ∷ 0 ∷ 0 ∷ [] → r.cpu.items ≡ [] → r.sleeping.items ≡ [] → r.lines.items ≡ []
    → StandsAt s r (queued_at_first s)
outset s r limits layout room shows roomy slots cpu sleeping lines =
    let k = queue_keeps s empty (range_with_len 0 (length s.items)) in
    stands_at s r (queued_at_first s) limits layout room shows roomy (ap length slots) (rw slots (omega arith))
    (record {
      cpu = ap (map (job_seen s)) cpu ∙ sym k.0;
      sleeping = ap (map (sleeper_seen s)) sleeping ∙ sym k.1;
      lines = ap (map event_of) lines ∙ sym k.2;
    })

-- ---- a millisecond

pub begins_after : (s : Plan) → IsWithinLimits s → (n : ℕ) → Begins s n (moment_after s n)
begins_after s fine zero = begins s fine
begins_after s fine (suc n) =
    let k = passes s n (moment_after s n) fine (begins_after s fine n) in
    subst (λ j. Begins s j (moment_after s j)) (add-one n)
    (subst (Begins s (n + 1)) (sym (one_more (millisecond s) (queued_at_first s) n)) k.0)

burning : (s : Plan) (xs : List Running) → AllByRecursion (IsRunning s) (map (job_seen s) xs)
    → AllByRecursion (λ (j : Running). 1 ≤ j.burn) xs
burning s [] all = tt
burning s (x ∷ xs) all = (all.0.burns, burning s xs all.1)

pub still_burning : (s : Plan) (t : ℕ) (r0 r1 r2 r3 : Execution) → IsWithinLimits s → moment_in s r0 ≡ moment_after s t
    → StandsAt s r1 (serve s t (moment_in s r0)) → StandsAt s r2 (wake_sleepers s t (moment_in s r1))
    → StandsAt s r3 (start s t (moment_in s r2)) → AllByRecursion (λ (j : Running). 1 ≤ j.burn) r3.cpu.items
still_burning s t r0 r1 r2 r3 fine is a b c =
    let m = moment_in s r0 in
    let begun = subst (Begins s t) (sym is) (begins_after s fine t) in
    let k = started s t (rest s t m) (wake_sleepers s t (serve s t m)) fine
    (awake s t (rest s t m) (serve s t m) (served s t m begun.sound begun.first)) in
    let same = c.moment ∙ ap (start s t) (b.moment ∙ ap (wake_sleepers s t) a.moment) in
    burning s r3.cpu.items (subst (λ (m2 : Moment). AllByRecursion (IsRunning s) m2.cpu) (sym same) k.awake.goes.cpu)

pub all_phases : (s : Plan) (t : ℕ) (r0 r1 r2 r3 r4 : Execution) → moment_in s r0 ≡ moment_after s t
    → StandsAt s r1 (serve s t (moment_in s r0)) → StandsAt s r2 (wake_sleepers s t (moment_in s r1))
    → StandsAt s r3 (start s t (moment_in s r2)) → StandsAt s r4 (burn (moment_in s r3))
    → StandsAt s r4 (moment_after s (t + 1))
all_phases s t r0 r1 r2 r3 r4 is a b c d =
    subst (StandsAt s r4) (ap burn (c.moment ∙ ap (start s t) (b.moment ∙ ap (wake_sleepers s t) a.moment))
    ∙ ap (λ m. millisecond s m t) is ∙ sym (one_more (millisecond s) (queued_at_first s) t)) d

pub as_many : (xs ys : List Running) → LessFirst xs ys → length ys ≡ length xs
as_many [] ys h = ap length h
as_many (x ∷ xs) ys h = ap length h
