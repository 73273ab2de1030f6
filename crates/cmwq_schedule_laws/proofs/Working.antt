-- A worker starts a run, ends it, and does actions that wait for nobody.
use Rattle.std.specs.Option.{option_map_or}
use Rattle.std.specs.Prelude.{◌^◌, if◌then◌else◌, MatchOption, option_and_then, option_map, is_some}
use Rattle.std.proofs.Common.{◌≡◌, ◌∙◌, ◌<◌, ◌++◌, ◌∷◌, ℕ, suc, Bool, true, false, List, [], Option, Some}
use Rattle.std.proofs.Common.{None}
use Rattle.std.proofs.Common.{length, take, slice_get, nat_lt, refl, sym, ap, subst, arith, inl, inr}
use Rattle.std.proofs.lemmas.Option.{get_or_from_slice_get, slice_get_within}
use Rattle.cmwq_model.specs.Prelude.{is_retired}
use Rattle.cmwq_model.specs.Prelude.{Layout, answer, entry_for, fits, has_numbers, is_workers, number_started, past_of}
use Rattle.cmwq_model.specs.Prelude.{queueing_at, runs_asleep, runs_awake}
use Rattle.cmwq_model.specs.declared.call.Call.{Call}
use Rattle.cmwq_model.specs.declared.call.Call.TheVariants as call
use Rattle.cmwq_model.specs.declared.entry.Entry.{Entry}
use Rattle.cmwq_model.specs.declared.id.ItemId.{ItemId}
use Rattle.cmwq_model.specs.declared.id.Who.{Who}
use Rattle.cmwq_model.specs.declared.id.Who.TheVariants.{Worker}
use Rattle.cmwq_model.specs.declared.id.WorkerId.{WorkerId}
use Rattle.cmwq_model.specs.declared.record.Queueing.{Queueing}
use Rattle.cmwq_model.specs.declared.reply.Reply.{Reply}
use Rattle.cmwq_model.specs.declared.reply.Reply.TheVariants as reply
use Rattle.cmwq_model.proofs.Growing.{one_more_is_newest}
use Rattle.cmwq_json_script.specs.Scripts.{is_own}
use Rattle.cmwq_json_script.specs.declared.action.Action.{Action}
use Rattle.cmwq_json_script.specs.declared.action.Action.TheVariants as action
use Rattle.cmwq_core.specs.History.{History, past_in}
use Rattle.cmwq_monitor.specs.Calls.{Extends, own_entry}
use Rattle.cmwq_monitor.specs.Participants.{View}
use Rattle.cmwq_monitor.specs.Starts.{StartsItem}
use Rattle.cmwq_rt.specs.Running.{EndsRun}
use Rattle.cmwq_rt.specs.Sums.{no_waits, plus}
use Rattle.cmwq_rt.specs.declared.left_out.LeftOut.{LeftOut}
use Rattle.cmwq_cmd_run.specs.Interpreted as interpreted
use Rattle.cmwq_cmd_run.specs.Interpreted.{ActInTurn, MakesIfRoom, SleepsOnce, plays}
use Rattle.cmwq_cmd_run.proofs.Interpreting.{act_next}
use Rattle.cmwq_theory_steps.specs.RoomSteps.{is_promised}
use Rattle.cmwq_play.specs.Machines.{is_made, item_started, replied, stepped}
unfoldable use Rattle.cmwq_play.specs.Machines.{retires, starts}
use Rattle.cmwq_key.proofs.Gathering.{all_taken}
use Rattle.cmwq_play.specs.Stands.{after_action, first_of, rested}
use Rattle.cmwq_play.specs.declared.place.Doing.{Doing}
use Rattle.cmwq_play.specs.declared.place.Doing.TheVariants.{Acts}
use Rattle.cmwq_play.specs.declared.place.RunAt.{RunAt}
use Rattle.cmwq_schedule_laws.proofs.Accounts.{DoesNext, IsIdle, IsItems, IsRunning, SleepsOrNot, actions_at, runs_on}
use Rattle.cmwq_schedule_laws.proofs.Awake.{asleep_then, awake_then, finished_reply, is_own_call, own_call_then}
use Rattle.cmwq_schedule_laws.proofs.Awake.{started_awake, woke_reply}
use Rattle.cmwq_schedule_laws.proofs.Following.{next_small, place_next}
use Rattle.cmwq_schedule_laws.proofs.Keeping.{IsKept, IsUpToDate, having_seen, kept_after, seen_up, unmade_replies}
use Rattle.cmwq_schedule_laws.proofs.Keeping.{unmade_stays}
use Rattle.cmwq_schedule_laws.proofs.Places.{ended_there}
use Rattle.cmwq_schedule_laws.proofs.Numbered.{MakesBy, makes_by, promised_made, refused_by, worker_fits}

-- ---- what a start starts

pub record StartsThis (past : List Entry) (r : Reply) (item : ItemId) : Type 0 where
  pub number : ℕ
  pub queueing : Queueing
  pub is_started : number_started r ≡ Some number
  pub is_known : queueing_at past number ≡ Some queueing
  pub is_its : item ≡ queueing.item

item_known : (past : List Entry) (r : Reply) (item : ItemId) → item_started past r ≡ Some item → StartsThis past r item
item_known past r item = of_number (number_started r) refl
  where
    of_queueing : (n : ℕ) → number_started r ≡ Some n → (o : Option Queueing) → queueing_at past n ≡ o
        → option_map (λ (x : Queueing). x.item) o ≡ Some item → StartsThis past r item
    of_queueing n starts None known is = absurd (cc is)
    of_queueing n starts (Some x) known is =
        record { number = n; queueing = x; is_started = starts; is_known = known; is_its = cc is }

    of_number : (o : Option ℕ) → number_started r ≡ o
        → option_and_then (λ n. option_map (λ (x : Queueing). x.item) (queueing_at past n)) o ≡ Some item
        → StartsThis past r item
    of_number None starts is = absurd (cc is)
    of_number (Some n) starts is = of_queueing n starts (queueing_at past n) refl is

-- what a take starts after this history, it starts after what it saw of it
starts_there : (s : Layout) (v w : View) (log : List Entry) (r : Reply) (item : ItemId) (x : Extends s v call.Take r w)
    → w.seen ≡ log ++ own_entry s log v call.Take ∷ [] → StartsItem (past_of log) (own_entry s log v call.Take) item
    → StartsItem (past_of x.before) (own_entry s x.before v call.Take) item
starts_there s v w log r item x seen is =
    let all : own_entry s log v call.Take ∷ past_of log ≡ own_entry s x.before v call.Take ∷ past_of x.before =
    sym (one_more_is_newest log (own_entry s log v call.Take)) ∙ ap past_of (sym seen ∙ x.ends)
    ∙ one_more_is_newest x.before (own_entry s x.before v call.Take) in
    let same : past_of log ≡ past_of x.before = cc all in
    subst (λ (past : List Entry). StartsItem past (entry_for s past v.who call.Take) item) same is

-- ---- a worker that is there

module _ (s : Layout) (does : List (List Action)) (w : WorkerId) (cpu : nat_lt w.pool.cpu.0 s.cpus ≡ true)
    (index : nat_lt w.index s.workers ≡ true) where
  pub fit : (c : Call) → is_workers c ≡ true → has_numbers s c ≡ true → fits s (Worker w) c ≡ true
  fit c own numbers = worker_fits s w c cpu index own numbers

  -- what a run that sleeps does next
  pub wakes_by : (h : History) (v : View) → v.who ≡ Worker w → IsKept s h → IsUpToDate h.entries v
      → runs_asleep (past_in h) w ≡ true → MakesBy s h v (Worker w) call.Wake (stepped h (Worker w) call.Wake)
  wakes_by h v who kept up asleep =
      makes_by s h v (Worker w) call.Wake who kept up
      (promised_made s h (Worker w) call.Wake kept (fit call.Wake refl refl)
      (ap_promised (woke_reply s (past_in h) w asleep)) refl)
    where
      ap_promised : answer s (past_in h) (Worker w) call.Wake ≡ reply.Woke
          → is_promised (answer s (past_in h) (Worker w) call.Wake) ≡ true
      ap_promised is = ap is_promised is

  pub awake_after_wake : (h : History) (v : View) → IsKept s h → runs_asleep (past_in h) w ≡ true
      → MakesBy s h v (Worker w) call.Wake (stepped h (Worker w) call.Wake)
      → runs_awake (past_in (stepped h (Worker w) call.Wake)) w ≡ true
  awake_after_wake h v kept asleep made =
      ap (λ past. runs_awake past w) made.past
      ∙ awake_then s (past_in h) w (fit call.Wake refl refl) kept.legal asleep

  pub asleep_after_sleep : (h : History) (v : View) → IsKept s h → runs_awake (past_in h) w ≡ true
      → MakesBy s h v (Worker w) call.Sleep (stepped h (Worker w) call.Sleep)
      → runs_asleep (past_in (stepped h (Worker w) call.Sleep)) w ≡ true
  asleep_after_sleep h v kept awake made =
      ap (λ past. runs_asleep past w) made.past
      ∙ asleep_then s (past_in h) w (fit call.Sleep refl refl) kept.legal awake

  -- ---- a run starts

  starts_made : (h : History) (item : ItemId) → starts h w ≡ Some item → is_made h (Worker w) call.Take ≡ true
  unfolding starts
  starts_made h item is = at (is_made h (Worker w) call.Take) refl
    where
      at : (b : Bool) → is_made h (Worker w) call.Take ≡ b → b ≡ true
      at true made = refl
      at false not =
          let none = rw (unmade_replies h (Worker w) call.Take not) at is in
          absurd (cc none)

  starts_this : (h : History) (v : View) (item : ItemId) → starts h w ≡ Some item
      → MakesBy s h v (Worker w) call.Take (stepped h (Worker w) call.Take)
      → StartsThis (past_in h) (answer s (past_in h) (Worker w) call.Take) item
  unfolding starts
  starts_this h v item is made = item_known (past_in h) _ item (rw made.replies at is)

  pub begins : (h : History) (item : ItemId) → IsKept s h → IsIdle s does w h.entries → starts h w ≡ Some item
      → IsRunning s does w (first_of item) (stepped h (Worker w) call.Take).entries
  begins h item kept idle is =
      let made = makes_by s h idle.view (Worker w) call.Take idle.who kept idle.up (starts_made h item is) in
      let this = starts_this h idle.view item is made in
      let reply_is : (own_entry s h.entries idle.view call.Take).reply ≡ answer s (past_in h) (Worker w) call.Take =
      ap (λ (x : Who). answer s (past_in h) x call.Take) idle.who in
      let starts_it : StartsItem (past_in h) (own_entry s h.entries idle.view call.Take) item =
      (this.number, this.queueing, ap number_started reply_is ∙ this.is_started, this.is_known, this.is_its) in
      record {
        runs = idle.runs;
        others = idle.left_out;
        before = idle.view;
        in_turn = idle.in_turn;
        started = made.view;
        starts = (
          answer s (past_in h) (Worker w) call.Take,
          made.extends,
          starts_there s idle.view made.view h.entries _ item made.extends made.seen starts_it,
        );
        small = omega arith;
        left_out = no_waits;
        acted = made.view;
        acts = λ short. none_acted (actions_at does item.0) made.view;
        view = made.view;
        who = made.same;
        acted_who = made.same;
        doing = (
          refl,
          ap (λ past. runs_awake past w) made.past
              ∙ started_awake s (past_in h) w this.number (fit call.Take refl refl) kept.legal this.is_started,
        );
        up = made.up;
      }
    where
      none_acted : (xs : List Action) (v : View) → ActInTurn s item (take 0 xs) no_waits no_waits v v
      none_acted [] v = (refl, refl)
      none_acted (x ∷ xs) v = (refl, refl)

  -- ---- a run goes on

  module _ (run : RunAt) where
    -- its action is done
    pub goes_on : (old : List Entry) (acc : IsRunning s does w run old) (a : Action)
        → slice_get (actions_at does run.item.0) run.next ≡ Some a → (log : List Entry) (l : LeftOut) (u : View)
        → interpreted.Acts s run.item a acc.left_out l acc.acted u → u.who ≡ Worker w → IsUpToDate log u
        → runs_awake (past_of log) w ≡ true → IsRunning s does w (after_action run) log
    goes_on old acc a next log l u acts who up awake =
        let less = slice_get_within (actions_at does run.item.0) run.next a next in
        record {
          runs = acc.runs;
          others = acc.others;
          before = acc.before;
          in_turn = acc.in_turn;
          started = acc.started;
          starts = acc.starts;
          small = next_small run.next acc.small;
          left_out = l;
          acted = u;
          acts = λ short.
              subst (λ (n : ℕ). ActInTurn s run.item (take n (actions_at does run.item.0)) no_waits l acc.started u)
              (sym (place_next run.next (length (actions_at does run.item.0)) less short))
              (act_next s run.item run.item (actions_at does run.item.0) run.next a no_waits acc.left_out l acc.started
              acc.acted u less (acc.acts short) refl
              (subst (λ (b : Action). interpreted.Acts s run.item b acc.left_out l acc.acted u)
              (sym (get_or_from_slice_get (actions_at does run.item.0) run.next a a next)) acts));
          view = u;
          who = who;
          acted_who = who;
          doing = (refl, awake);
          up = up;
        }

    -- its worker makes the call
    pub calls_itself : (h : History) (acc : IsRunning s does w run h.entries) (c : Call) → IsKept s h
        → run.doing ≡ Acts → slice_get (actions_at does run.item.0) run.next ≡ Some (action.Call c) → IsItems s c
        → is_workers c ≡ true → IsRunning s does w (after_action run) (stepped h (Worker w) c).entries
    calls_itself h acc c kept acting next own workers =
        at (is_made h (Worker w) c) refl (subst (λ d. DoesNext s w
        (slice_get (actions_at does run.item.0) run.next) d acc.acted acc.view h.entries) acting
        acc.doing)
      where
        own_call : (d : Call) → is_own d ≡ true → is_workers d ≡ true → is_own_call d ≡ true
        own_call (call.Queue i q p) a b = refl
        own_call (call.Delay i q p t) a b = refl
        own_call (call.Modify i q p t) a b = refl
        own_call (call.Cancel i) a b = refl
        own_call (call.FlushItem i) a b = absurd (cc b)
        own_call (call.FlushDelayed i) a b = absurd (cc b)
        own_call (call.CancelSync i) a b = absurd (cc b)
        own_call (call.Flush q) a b = absurd (cc b)
        own_call (call.Drain q) a b = absurd (cc b)
        own_call d a b = absurd (cc a)

        fits_it : fits s (Worker w) c ≡ true
        fits_it = fit c workers own.1

        acts : (u : View) → MakesIfRoom s acc.acted c u
            → interpreted.Acts s run.item (action.Call c) acc.left_out acc.left_out acc.acted u
        acts u makes = rw (own.0, own.1, workers) (makes, refl)

        at : (b : Bool) → is_made h (Worker w) c ≡ b
            → (acc.view ≡ acc.acted) × (runs_awake (past_of h.entries) w ≡ true)
            → IsRunning s does w (after_action run) (stepped h (Worker w) c).entries
        at true made (same, awake) =
            let up = subst (IsUpToDate h.entries) same acc.up in
            let m = makes_by s h acc.acted (Worker w) c acc.acted_who kept up made in
            goes_on h.entries acc (action.Call c) next (stepped h (Worker w) c).entries acc.left_out m.view
            (acts m.view (inl (answer s (past_in h) (Worker w) c, m.extends))) m.same m.up
            (ap (λ past. runs_awake past w) m.past
            ∙ (own_call_then s (past_in h) w c fits_it kept.legal (own_call c own.0 workers)).awake ∙ awake)
        at false not (same, awake) =
            let up = subst (IsUpToDate h.entries) same acc.up in
            let none = refused_by s h acc.acted (Worker w) c acc.acted_who kept up fits_it not in
            subst (λ (g : History). IsRunning s does w (after_action run) g.entries)
            (sym (unmade_stays h (Worker w) c not))
            (goes_on h.entries acc (action.Call c) next h.entries acc.left_out (having_seen h.entries acc.acted)
            (acts (having_seen h.entries acc.acted) (inr none)) acc.acted_who (seen_up h.entries acc.acted up) awake)

    -- an action that makes no entry
    pub passes_on : (h : History) (acc : IsRunning s does w run h.entries) (a : Action) → run.doing ≡ Acts
        → slice_get (actions_at does run.item.0) run.next ≡ Some a
        → (l : LeftOut) → interpreted.Acts s run.item a acc.left_out l acc.acted acc.acted
        → IsRunning s does w (after_action run) h.entries
    passes_on h acc a acting next l acts =
        of (subst (λ d. DoesNext s w (slice_get (actions_at does run.item.0) run.next) d acc.acted acc.view h.entries)
        acting
        acc.doing)
      where
        of : (acc.view ≡ acc.acted) × (runs_awake (past_of h.entries) w ≡ true)
            → IsRunning s does w (after_action run) h.entries
        of (same, awake) =
            goes_on h.entries acc a next h.entries l acc.acted acts acc.acted_who
            (subst (IsUpToDate h.entries) same acc.up) awake

    -- ---- it sleeps at a gate or a lock, and wakes

    record FallsAsleep (h : History) (v : View) : Type 0 where
      view : View
      same : view.who ≡ Worker w
      sleeps : SleepsOrNot s (is_some (replied h (Worker w) call.Sleep)) v view
          (stepped h (Worker w) call.Sleep).entries w
      up : IsUpToDate (stepped h (Worker w) call.Sleep).entries view

    falls_asleep : (h : History) (v : View) → v.who ≡ Worker w → IsKept s h → IsUpToDate h.entries v
        → runs_awake (past_in h) w ≡ true → FallsAsleep h v
    falls_asleep h v who kept up awake = at (is_made h (Worker w) call.Sleep) refl
      where
        at : (b : Bool) → is_made h (Worker w) call.Sleep ≡ b → FallsAsleep h v
        at true made =
            let m = makes_by s h v (Worker w) call.Sleep who kept up made in
            record {
              view = m.view;
              same = m.same;
              sleeps = rw m.replies
                  ((answer s (past_in h) (Worker w) call.Sleep, m.extends), asleep_after_sleep h v kept awake m);
              up = m.up;
            }
        at false not =
            let none = refused_by s h v (Worker w) call.Sleep who kept up (fit call.Sleep refl refl) not in
            record {
              view = having_seen h.entries v;
              same = who;
              sleeps = rw (unmade_replies h (Worker w) call.Sleep not, unmade_stays h (Worker w) call.Sleep not)
                  (none, awake);
              up = rw (unmade_stays h (Worker w) call.Sleep not) (seen_up h.entries v up);
            }

    pub sleeps_at : (h : History) (acc : IsRunning s does w run h.entries) (at : Bool → Doing) → IsKept s h
        → run.doing ≡ Acts
        → ((b : Bool) (u : View) (log : List Entry) → SleepsOrNot s b acc.acted u log w
        → DoesNext s w (slice_get (actions_at does run.item.0) run.next) (at b) acc.acted u log)
        → IsRunning s does w (record run { doing = at (is_some (replied h (Worker w) call.Sleep)) })
        (stepped h (Worker w) call.Sleep).entries
    sleeps_at h acc at kept acting does_it =
        of (subst (λ d. DoesNext s w (slice_get (actions_at does run.item.0) run.next) d acc.acted acc.view h.entries)
        acting
        acc.doing)
      where
        of : (acc.view ≡ acc.acted) × (runs_awake (past_of h.entries) w ≡ true)
            → IsRunning s does w (record run { doing = at (is_some (replied h (Worker w) call.Sleep)) })
            (stepped h (Worker w) call.Sleep).entries
        of (same, awake) =
            let f = falls_asleep h acc.acted acc.acted_who kept (subst (IsUpToDate h.entries) same acc.up) awake in
            runs_on s does w run h.entries (stepped h (Worker w) call.Sleep).entries acc
            (at (is_some (replied h (Worker w) call.Sleep))) f.view f.same
            (does_it (is_some (replied h (Worker w) call.Sleep)) f.view
            (stepped h (Worker w) call.Sleep).entries f.sleeps)
            f.up

    -- the history when it goes on
    abbrev pub woken_in : History → Bool → History
    woken_in h slept = if slept then stepped h (Worker w) call.Wake else h

    pub wakes_up : (h : History) (acc : IsRunning s does w run h.entries) (a : Action) (slept : Bool) → IsKept s h
        → slice_get (actions_at does run.item.0) run.next ≡ Some a
        → SleepsOrNot s slept acc.acted acc.view h.entries w
        → ((u : View) → SleepsOnce s acc.acted u → interpreted.Acts s run.item a acc.left_out acc.left_out acc.acted u)
        → IsRunning s does w (after_action run) (woken_in h slept).entries
    wakes_up h acc a true kept next (sleeps, asleep) acts =
        let m = wakes_by h acc.view acc.who kept acc.up asleep in
        goes_on h.entries acc a next (stepped h (Worker w) call.Wake).entries acc.left_out m.view
        (acts m.view (inl (acc.view, sleeps, inl (answer s (past_in h) (Worker w) call.Wake, m.extends)))) m.same m.up
        (awake_after_wake h acc.view kept asleep m)
    wakes_up h acc a false kept next (refused, awake) acts =
        goes_on h.entries acc a next h.entries acc.left_out acc.view (acts acc.view (inr refused)) acc.who acc.up awake

    -- ---- it ends

    retires_made : (h : History) → retires h w ≡ true → is_made h (Worker w) call.Retire ≡ true
    unfolding retires
    retires_made h is = at (is_made h (Worker w) call.Retire) refl
      where
        at : (b : Bool) → is_made h (Worker w) call.Retire ≡ b → b ≡ true
        at true made = refl
        at false not =
            let none = rw (unmade_replies h (Worker w) call.Retire not) at is in
            absurd (cc none)

    retired_is : (r : Reply) → is_retired r ≡ true → r ≡ reply.Retired
    retired_is reply.Retired is = refl
    retired_is r is = absurd (cc is)

    retires_by : (h : History) (v : View) → retires h w ≡ true
        → MakesBy s h v (Worker w) call.Retire (stepped h (Worker w) call.Retire)
        → answer s (past_in h) (Worker w) call.Retire ≡ reply.Retired
    unfolding retires
    retires_by h v is made = retired_is _ (rw made.replies at is)

    -- what has been done is what the item does
    all_acted : (l : LeftOut) (v u : View) → slice_get (actions_at does run.item.0) run.next ≡ None
        → ActInTurn s run.item (take run.next (actions_at does run.item.0)) no_waits l v u
        → plays does s run.item l v u
    all_acted l v u ended acts = of (slice_get does run.item.0) refl
      where
        all : ActInTurn s run.item (actions_at does run.item.0) no_waits l v u
        all = subst (λ xs. ActInTurn s run.item xs no_waits l v u)
            (all_taken (actions_at does run.item.0) run.next ended) acts

        of : (o : Option (List Action)) → slice_get does run.item.0 ≡ o
            → MatchOption o ((u ≡ v) × (l ≡ no_waits)) (λ actions. ActInTurn s run.item actions no_waits l v u)
        of None is = subst (λ o. ActInTurn s run.item (option_map_or (λ actions. actions) o []) no_waits l v u) is all
        of (Some xs) is =
            subst (λ o. ActInTurn s run.item (option_map_or (λ actions. actions) o []) no_waits l v u) is all

    pub finishes : (h : History) (acc : IsRunning s does w run h.entries) → IsKept s h → run.doing ≡ Acts
        → slice_get (actions_at does run.item.0) run.next ≡ None
        → IsIdle s does w (rested (stepped h (Worker w) call.Finish) w).entries
    finishes h acc kept acting ended =
        of (subst (λ d. DoesNext s w (slice_get (actions_at does run.item.0) run.next) d acc.acted acc.view h.entries)
        acting
        acc.doing)
      where
        g : History
        g = stepped h (Worker w) call.Finish

        all_short : length (actions_at does run.item.0) < 2 ^ 64
        all_short =
            let over = ended_there (actions_at does run.item.0) run.next ended in
            let small = acc.small in
            omega (arith, over, small)

        then_kept : IsKept s (stepped h (Worker w) call.Finish)
        then_kept = kept_after s h (Worker w) call.Finish kept

        made : runs_awake (past_in h) w ≡ true → is_made h (Worker w) call.Finish ≡ true
        made awake =
            promised_made s h (Worker w) call.Finish kept (fit call.Finish refl refl)
            (finished_reply s (past_in h) w awake) refl

        idle : (log : List Entry) (u : View) → u.who ≡ Worker w → EndsRun s acc.acted u → IsUpToDate log u
            → IsIdle s does w log
        idle log u who ends up = record {
          runs = suc acc.runs;
          left_out = plus acc.others acc.left_out;
          view = u;
          who = who;
          in_turn = (
            acc.before,
            acc.started,
            acc.acted,
            run.item,
            acc.others,
            acc.left_out,
            acc.in_turn,
            acc.starts,
            (acc.acted, all_acted acc.left_out acc.started acc.acted ended (acc.acts all_short), inl refl),
            ends,
            refl,
          );
          up = up;
        }

        of : (acc.view ≡ acc.acted) × (runs_awake (past_of h.entries) w ≡ true)
            → IsIdle s does w (rested (stepped h (Worker w) call.Finish) w).entries
        of (same, awake) =
            let up = subst (IsUpToDate h.entries) same acc.up in
            let f = makes_by s h acc.acted (Worker w) call.Finish acc.acted_who kept up (made awake) in
            retired f (retires (stepped h (Worker w) call.Finish) w) refl
          where
            retired : MakesBy s h acc.acted (Worker w) call.Finish (stepped h (Worker w) call.Finish) → (b : Bool)
                → retires (stepped h (Worker w) call.Finish) w ≡ b
                → IsIdle s does w (if b then stepped (stepped h (Worker w) call.Finish) (Worker w) call.Retire
                else stepped h (Worker w) call.Finish).entries
            retired f false not =
                idle (stepped h (Worker w) call.Finish).entries f.view f.same
                (f.view, (answer s (past_in h) (Worker w) call.Finish, f.extends), inl refl) f.up
            retired f true is =
                let m =
                makes_by s (stepped h (Worker w) call.Finish) f.view (Worker w) call.Retire f.same then_kept f.up
                (retires_made (stepped h (Worker w) call.Finish) is) in
                let told = retires_by (stepped h (Worker w) call.Finish) f.view is m in
                idle (stepped (stepped h (Worker w) call.Finish) (Worker w) call.Retire).entries m.view m.same (
                  f.view,
                  (answer s (past_in h) (Worker w) call.Finish, f.extends),
                  inr (subst (λ r. Extends s f.view call.Retire r m.view) told m.extends),
                ) m.up
