-- One party moves: where the play stands then, if nobody else has made an entry.
use Rattle.std.specs.Prelude.{if◌then◌else◌, IfSome, option_and_then}
use Rattle.std.proofs.Common.{◌≡◌, ◌∙◌, ◌⊎◌, ◌+◌, ◌-◌, ◌==◌, ◌<◌, ◌++◌, ◌∷◌, ℕ, Bool, true, false, List, [], Option}
use Rattle.std.proofs.Common.{Some}
use Rattle.std.proofs.Common.{None, length, take, slice_get, slice_set, refl, sym, ap, subst, arith, inl, inr, ⊎_elim}
use Rattle.std.proofs.lemmas.Bool.{eq-eqb, eqb-true, false_from_ne_true}
use Rattle.std.proofs.lemmas.Option.{slice_get_within}
use Rattle.cmwq_model.specs.Prelude.{Layout, same_who, same_worker}
use Rattle.cmwq_model.specs.declared.entry.Entry.{Entry}
use Rattle.cmwq_model.specs.declared.id.Who.{Who}
use Rattle.cmwq_model.specs.declared.id.Who.TheVariants.{Worker}
use Rattle.cmwq_model.specs.declared.id.WorkerId.{WorkerId}
use Rattle.cmwq_theory_steps.proofs.ItemRuns.{same_worker-true}
use Rattle.cmwq_json_script.specs.Runs.{Run}
use Rattle.cmwq_json_script.specs.declared.action.Action.{Action}
use Rattle.cmwq_json_script.specs.declared.action.Holder.{Holder}
use Rattle.cmwq_core.specs.History.{History, past_in}
use Rattle.cmwq_lemmas.proofs.Members.{In}
use Rattle.cmwq_model.specs.declared.id.Who.TheVariants.{Caller}
use Rattle.cmwq_model.specs.declared.record.Queueing.{Queueing}
use Rattle.cmwq_theory_steps.specs.ItemQueueings.{queueing_run}
use Rattle.cmwq_waits.specs.Begun.{waits_of}
use Rattle.cmwq_waits.specs.declared.run_wait.RunWait.{RunWait}
use Rattle.cmwq_monitor.specs.Participants.{View}
use Rattle.cmwq_rt.specs.Places.{worker_by_number}
use Rattle.cmwq_engine.specs.Conduct.{caller_numbered}
use Rattle.cmwq_play.specs.Stands.{Stand}
use Rattle.cmwq_play.specs.declared.place.CallerAt.{CallerAt}
use Rattle.cmwq_play.specs.declared.place.Doing.{Doing}
use Rattle.cmwq_play.specs.declared.place.Doing.TheVariants.{Acts, AtGate, AtLock, Waits}
use Rattle.cmwq_play.specs.declared.place.RunAt.{RunAt}
use Rattle.cmwq_play.specs.declared.place.Ticketed.{Ticketed}
use Rattle.cmwq_play.specs.declared.place.WorkerAt.{WorkerAt}
use Rattle.cmwq_schedule_laws.proofs.Accounts.{AreLent, CallerStands, DoesNext, HasBegun, HasRested, Holding}
use Rattle.cmwq_schedule_laws.proofs.Accounts.{IsLendable, IsPlayable, LentStands, SleepsOrNot, Stands}
use Rattle.cmwq_schedule_laws.proofs.Accounts.{WorkerStands, Works, actions_at, caller_of, lent_to, runs_on}
use Rattle.cmwq_schedule_laws.proofs.Keeping.{IsKept}
use Rattle.cmwq_schedule_laws.proofs.Lending.{later}
use Rattle.cmwq_schedule_laws.proofs.Ordering.{one_number}
use Rattle.cmwq_schedule_laws.proofs.Places.{pushed, same_or_not, set_each, set_here, set_long, set_others, take_there}
use Rattle.cmwq_schedule_laws.proofs.Sparing.{Spares}
use Rattle.cmwq_schedule_laws.proofs.TheirWaits.{AreTheirs, IsOfWorker, IsWaitAt, WaitsBy, theirs_then}
use Rattle.cmwq_schedule_laws.proofs.WaitsGoing.{WaitsGo, one_runner}

-- ---- others are spared

apart : (a b : ℕ) → (a ≡ b → ⊥) → (a == b) ≡ false
apart a b other = false_from_ne_true (a == b) (λ same. other (eqb-true a b same))

pub callers_apart : (a b : ℕ) → (a ≡ b → ⊥) → same_who (caller_numbered a) (caller_numbered b) ≡ false
callers_apart a b other = apart a b other

pub workers_apart : (v w : WorkerId) → (v ≡ w → ⊥) → same_who (Worker v) (Worker w) ≡ false
workers_apart v w other = false_from_ne_true (same_worker v w) (λ same. other (same_worker-true v w same))

module _ (s : Layout) (old new : List Entry) where
  pub rested_later : (c : ℕ) → Spares (caller_numbered c) old new → HasRested s c old → HasRested s c new
  rested_later c spares rested = record {
    view = rested.view;
    who = rested.who;
    waited = rested.waited;
    up = later old new rested.view (caller_numbered c) rested.who spares rested.up;
  }

  caller_later : (k : ℕ) (script : List Action) (at : CallerAt) → Spares (caller_numbered k) old new
      → CallerStands s k script at old → CallerStands s k script at new
  caller_later k script at spares stands = record {
    id = stands.id;
    full = stands.full;
    view = stands.view;
    who = stands.who;
    follows = stands.follows;
    up = later old new stands.view (caller_numbered k) stands.who spares stands.up;
  }

  module _ (w : WorkerId) (spares : Spares (Worker w) old new) where
    sleeps_later : (slept : Bool) (v u : View) → SleepsOrNot s slept v u old w → SleepsOrNot s slept v u new w
    sleeps_later true v u (sleeps, asleep) = (sleeps, spares.awake.asleep ∙ asleep)
    sleeps_later false v u (refused, awake) = (refused, spares.awake.awake ∙ awake)

    begun_later : (c : ℕ) (t : _) (u : View) → Spares (caller_numbered c) old new → HasBegun s c t u old
        → HasBegun s c t u new
    begun_later c t u spared b = record {
      before = b.before;
      who = b.who;
      waited = b.waited;
      nothing_yet = b.nothing_yet;
      reply = b.reply;
      view = b.view;
      begun = b.begun;
      at_once = b.at_once;
      up = later old new b.view (caller_numbered c) (b.begun.extends.gains.same ∙ b.who) spared b.up;
    }

    doing_later : (next : Option Action) (d : Doing) (v u : View)
        → ((c : ℕ) → caller_of d ≡ Some c → Spares (caller_numbered c) old new) → DoesNext s w next d v u old
        → DoesNext s w next d v u new
    doing_later next Acts v u spared (same, awake) = (same, spares.awake.awake ∙ awake)
    doing_later next (AtGate gate slept) v u spared (is, sleeps) = (is, sleeps_later slept v u sleeps)
    doing_later next (AtLock lock slept) v u spared (is, sleeps) = (is, sleeps_later slept v u sleeps)
    doing_later next (Waits c t) v u spared (is, waits) = (
      is,
      record {
        wait = waits.wait;
        sleeps = waits.sleeps;
        first = waits.first;
        allowed = waits.allowed;
        asleep = spares.awake.asleep ∙ waits.asleep;
        begun = begun_later c t u (spared c refl) waits.begun;
      },
    )

    works_later : (does : List (List Action)) (o : Option RunAt)
        → ((c : ℕ) → option_and_then (λ (run : RunAt). caller_of run.doing) o ≡ Some c
        → Spares (caller_numbered c) old new) → Works s does w o old → Works s does w o new
    works_later does None spared idle = record {
      runs = idle.runs;
      left_out = idle.left_out;
      view = idle.view;
      who = idle.who;
      in_turn = idle.in_turn;
      up = later old new idle.view (Worker w) idle.who spares idle.up;
    }
    works_later does (Some run) spared acc =
        runs_on s does w run old new acc run.doing acc.view acc.who
        (doing_later (slice_get (actions_at does run.item.0) run.next) run.doing acc.acted acc.view spared acc.doing)
        (later old new acc.view (Worker w) acc.who spares acc.up)

  worker_later : (does : List (List Action)) (k : ℕ) (at : WorkerAt) → Spares (Worker at.id) old new
      → ((c : ℕ) → lent_to at ≡ Some c → Spares (caller_numbered c) old new) → WorkerStands s does k at old
      → WorkerStands s does k at new
  worker_later does k at spares spared stands = record {
    id = stands.id;
    cpu = stands.cpu;
    index = stands.index;
    works = works_later at.id spares does at.run spared stands.works;
  }

-- ---- the parties of a script

module _ (r : Run) (ok : IsPlayable r) (p : Stand) (st : Stands r p) where
  pub caller_there : (k : ℕ) (at : CallerAt) → slice_get p.callers k ≡ Some at → k < length r.callers
  caller_there k at is =
      let within = slice_get_within p.callers k at is in
      let all = st.all_callers in
      omega arith

  pub few_callers : (k : ℕ) → k < length r.callers + r.waits → k < r.layout.callers
  few_callers k less = let all = ok.all_callers in omega arith

  workers_differ : (j k : ℕ) (z at : WorkerAt) → (j ≡ k → ⊥) → slice_get p.workers j ≡ Some z
      → slice_get p.workers k ≡ Some at → at.id ≡ z.id → ⊥
  workers_differ j k z at other there here same =
      other
      (one_number r.layout ok.cpus ok.workers j k z.id (st.workers j z there).id
      (subst (λ (w : WorkerId). worker_by_number r.layout k ≡ Some w) same (st.workers k at here).id))

  -- the caller by which a run waits
  pub lent_by : (z : WorkerAt) (c : ℕ) (t : Ticketed) → WaitsBy z c t → lent_to z ≡ Some c
  lent_by z c t waits =
      ap (option_and_then (λ (run : RunAt). caller_of run.doing)) waits.runs ∙ ap caller_of waits.doing

  -- ---- a caller of the script moves

  abbrev pub with_caller : History → ℕ → CallerAt → List Bool → List (Option Holder) → Stand
  with_caller g k at gates locks =
      record p { history = g; callers = slice_set p.callers k at; gates = gates; locks = locks }

  pub caller_moves : (k : ℕ) (at new : CallerAt) (g : History) (gates : List Bool) (locks : List (Option Holder))
      → slice_get p.callers k ≡ Some at → IsKept r.layout g
      → ((who : Who) → same_who (caller_numbered k) who ≡ false → Spares who p.history.entries g.entries)
      → WaitsGo (length r.callers) (caller_numbered k) (past_in p.history) (past_in g)
      → CallerStands r.layout k (actions_at r.callers k) new g.entries → Stands r (with_caller g k new gates locks)
  caller_moves k at new g gates locks is kept spares goes stands = record {
    scripts = st.scripts;
    does = st.does;
    kept = kept;
    all_callers = set_long p.callers k new ∙ st.all_callers;
    all_workers = st.all_workers;
    callers = set_each (λ j z. CallerStands r.layout j (actions_at r.callers j) z g.entries) p.callers k at new is
        stands
        (λ j z other there.
        caller_later r.layout p.history.entries g.entries j (actions_at r.callers j) z
        (spares (caller_numbered j) (callers_apart k j (λ same. other (sym same)))) (st.callers j z there));
    workers = λ j z there.
        worker_later r.layout p.history.entries g.entries r.does j z (spares (Worker z.id) refl)
        (λ c waits. lent_spared c (st.lent.waiting j z c there waits).1) (st.workers j z there);
    lent = record {
      holder = st.lent.holder;
      free = st.lent.free;
      waiting = st.lent.waiting;
      each = λ c lendable. each c lendable (st.lent.holder c) (st.lent.each c lendable);
    };
    waits = theirs_then (length r.callers) (past_in p.history) (past_in g) p.workers k (caller_there k at is) goes
        st.waits (λ j z c t there waits. (st.lent.waiting j z c there (lent_by z c t waits)).1.0);
  }
    where
      lent_spared : (c : ℕ) → IsLendable r c → Spares (caller_numbered c) p.history.entries g.entries
      lent_spared c lendable =
          let here = caller_there k at is in
          let from = lendable.0 in
          spares (caller_numbered c) (callers_apart k c (λ same. absurd (omega (arith, same, here, from))))

      each : (c : ℕ) → IsLendable r c → (o : Holding) → LentStands r p c o
          → LentStands r (with_caller g k new gates locks) c o
      each c lendable (inl place) rested =
          rested_later r.layout p.history.entries g.entries c (lent_spared c lendable) rested
      each c lendable (inr j) waits = waits

  -- ---- a worker moves

  abbrev pub with_worker : History → ℕ → WorkerAt → List ℕ → List Bool → List (Option Holder) → Stand
  with_worker g k at free gates locks =
      record p {
        history = g;
        workers = slice_set p.workers k at;
        gates = gates;
        locks = locks;
        free = free;
      }

  -- it may be that a caller which is lent makes entries too
  abbrev pub IsOther : Option ℕ → Who → Type 0
  IsOther lends who = IfSome lends (λ c. same_who (caller_numbered c) who ≡ false)

  -- what the worker and the caller that is lent leave to the others
  pub record WorkerMoves (k : ℕ) (at : WorkerAt) (lends : Option ℕ) (g : History) : Type 0 where
    pub is : slice_get p.workers k ≡ Some at
    pub kept : IsKept r.layout g
    pub spares : (who : Who) → same_who (Worker at.id) who ≡ false → IsOther lends who
        → Spares who p.history.entries g.entries
    pub lendable : IfSome lends (IsLendable r)
    pub nobody_else : (j : ℕ) (z : WorkerAt) (c : ℕ) → (j ≡ k → ⊥) → slice_get p.workers j ≡ Some z
        → lent_to z ≡ Some c → IsOther lends (caller_numbered c)

  -- the runs that wait by a history
  abbrev waits_at : History → List RunWait
  waits_at g = waits_of (length r.callers) (past_in g)

  -- a wait in which the run of this worker is now
  abbrev pub IsWaitNow : WorkerAt → History → RunWait → Type 0
  IsWaitNow at g v = (c : ℕ) × (t : Ticketed) × WaitsBy at c t × IsWaitAt (past_in g) at.id c t v

  -- the run of this wait was not this worker's
  abbrev pub IsNotOf : WorkerId → RunWait → Type 0
  IsNotOf w v = queueing_run (past_in p.history) (Worker w) ≡ Some v.run → ⊥

  -- The runs that wait after such a move: those of other workers as before, and that of this one if it waits.
  pub record WaitsMove (at : WorkerAt) (run : Option RunAt) (lends : Option ℕ) (g : History) : Type 0 where
    pub stay : (v : RunWait) (w : WorkerId) → In v (waits_at p.history)
        → queueing_run (past_in p.history) (Worker w) ≡ Some v.run → same_who (Worker at.id) (Worker w) ≡ false
        → IsOther lends (Caller v.ticket.caller) → In v (waits_at g)
    pub runs : (w : WorkerId) (x : Queueing) → same_who (Worker at.id) (Worker w) ≡ false
        → queueing_run (past_in p.history) (Worker w) ≡ Some x → queueing_run (past_in g) (Worker w) ≡ Some x
    pub whence : (v : RunWait) → In v (waits_at g)
        → (In v (waits_at p.history) × IsNotOf at.id v) ⊎ IsWaitNow (record { id = at.id; run = run }) g v
    pub now : (c : ℕ) (t : Ticketed) → WaitsBy (record { id = at.id; run = run }) c t
        → (v : RunWait) × In v (waits_at g) × IsWaitAt (past_in g) at.id c t v

  -- a run that had no caller did not wait
  pub not_of : (k : ℕ) (at : WorkerAt) → slice_get p.workers k ≡ Some at → lent_to at ≡ None → (v : RunWait)
      → In v (waits_at p.history) → IsNotOf at.id v
  not_of k at is none v here runs =
      let o = st.waits.each v here in
      let same = one_runner r.layout (past_in p.history) at.id o.at.id v.run v.run st.kept.legal runs o.is.runs refl in
      ⊎_elim
      (λ (place : o.place ≡ k).
      let one : at ≡ o.at = cc (is, subst (λ (i : ℕ). slice_get p.workers i ≡ Some o.at) place o.there) in
      cc (sym none ∙ (ap lent_to one ∙ lent_by o.at o.caller o.wait o.waits)))
      (λ (other : o.place ≡ k → ⊥). workers_differ o.place k o.at at other o.there is same)
      (same_or_not o.place k)

  waits_move : (k : ℕ) (at : WorkerAt) (run : Option RunAt) (lends : Option ℕ) (g : History)
      → WorkerMoves k at lends g → WaitsMove at run lends g
      → AreTheirs (length r.callers) (past_in g) (slice_set p.workers k (record { id = at.id; run = run }))
  waits_move k at run lends g m w = record {
    each = λ v here.
        ⊎_elim
        (λ (old : In v (waits_at p.history) × IsNotOf at.id v). still v old.1 (st.waits.each v old.0))
        (λ (new : IsWaitNow (record { id = at.id; run = run }) g v). begun v new) (w.whence v here);
    all = λ j z c t there waits.
        set_each
        (λ j z. (c : ℕ) (t : Ticketed) → WaitsBy z c t
        → (v : RunWait) × In v (waits_at g) × IsWaitAt (past_in g) z.id c t v) p.workers k at
        (record { id = at.id; run = run }) m.is w.now
        (λ j z other there c t waits. goes_on j z other there c t waits) j z there c t waits;
  }
    where
      apart_from : (j : ℕ) (z : WorkerAt) → (j ≡ k → ⊥) → slice_get p.workers j ≡ Some z
          → same_who (Worker at.id) (Worker z.id) ≡ false
      apart_from j z other there = workers_apart at.id z.id (workers_differ j k z at other there m.is)

      still : (v : RunWait) → IsNotOf at.id v → IsOfWorker (past_in p.history) p.workers v
          → IsOfWorker (past_in g) (slice_set p.workers k (record { id = at.id; run = run })) v
      still v not o =
          ⊎_elim
          (λ (place : o.place ≡ k).
          let one : at ≡ o.at = cc (m.is, subst (λ (i : ℕ). slice_get p.workers i ≡ Some o.at) place o.there) in
          absurd (not (subst (λ (z : WorkerAt). queueing_run (past_in p.history) (Worker z.id) ≡ Some v.run) (sym one)
          o.is.runs)))
          (λ (other : o.place ≡ k → ⊥). record {
            place = o.place;
            at = o.at;
            there = set_others p.workers k o.place (record { id = at.id; run = run }) other ∙ o.there;
            caller = o.caller;
            wait = o.wait;
            waits = o.waits;
            is = record {
              caller = o.is.caller;
              number = o.is.number;
              runs = w.runs o.at.id v.run (apart_from o.place o.at other o.there) o.is.runs;
            };
          }) (same_or_not o.place k)

      begun : (v : RunWait) → IsWaitNow (record { id = at.id; run = run }) g v
          → IsOfWorker (past_in g) (slice_set p.workers k (record { id = at.id; run = run })) v
      begun v (c, t, waits, is) = record {
        place = k;
        at = record { id = at.id; run = run };
        there = set_here p.workers k at (record { id = at.id; run = run }) m.is;
        caller = c;
        wait = t;
        waits = waits;
        is = is;
      }

      goes_on : (j : ℕ) (z : WorkerAt) → (j ≡ k → ⊥) → slice_get p.workers j ≡ Some z → (c : ℕ) (t : Ticketed)
          → WaitsBy z c t → (v : RunWait) × In v (waits_at g) × IsWaitAt (past_in g) z.id c t v
      goes_on j z other there c t waits =
          let v = st.waits.all j z c t there waits in (
            v.0,
            w.stay v.0 z.id v.1 v.2.runs (apart_from j z other there)
                (subst (λ (n : ℕ). IsOther lends (caller_numbered n)) (sym v.2.caller)
                (m.nobody_else j z c other there (lent_by z c t waits))),
            record {
              caller = v.2.caller;
              number = v.2.number;
              runs = w.runs z.id v.0.run (apart_from j z other there) v.2.runs;
            },
          )

  script_spared : (k : ℕ) (at : WorkerAt) (lends : Option ℕ) (g : History) → WorkerMoves k at lends g → (j : ℕ)
      → j < length r.callers → Spares (caller_numbered j) p.history.entries g.entries
  script_spared k at lends g m j less = m.spares (caller_numbered j) refl (other lends m.lendable)
    where
      other : (o : Option ℕ) → IfSome o (IsLendable r) → IsOther o (caller_numbered j)
      other None lendable = tt
      other (Some c) (from, to) = callers_apart c j (λ same. absurd (omega (arith, same, less, from)))

  pub worker_moves : (k : ℕ) (at : WorkerAt) (run : Option RunAt) (lends : Option ℕ) (g : History) (free : List ℕ)
      (gates : List Bool) (locks : List (Option Holder)) → WorkerMoves k at lends g → WaitsMove at run lends g
      → Works r.layout r.does at.id run g.entries
      → AreLent r (with_worker g k (record { id = at.id; run = run }) free gates locks)
      → Stands r (with_worker g k (record { id = at.id; run = run }) free gates locks)
  worker_moves k at run lends g free gates locks m waits works lent = record {
    scripts = st.scripts;
    does = st.does;
    kept = m.kept;
    all_callers = st.all_callers;
    all_workers =
        subst (λ (n : ℕ). worker_by_number r.layout n ≡ None)
        (sym (set_long p.workers k (record { id = at.id; run = run }))) st.all_workers;
    callers = λ j z there.
        caller_later r.layout p.history.entries g.entries j (actions_at r.callers j) z
        (script_spared k at lends g m j (caller_there j z there)) (st.callers j z there);
    workers = set_each (λ j z. WorkerStands r.layout r.does j z g.entries) p.workers k at
        (record { id = at.id; run = run })
        m.is
        (let old = st.workers k at m.is in
        record { id = old.id; cpu = old.cpu; index = old.index; works = works })
        (λ j z other there.
        worker_later r.layout p.history.entries g.entries r.does j z
        (spared (Worker z.id) (workers_apart at.id z.id (workers_differ j k z at other there m.is)) (worker_other z.id))
        (λ c waits. spared (caller_numbered c) refl (m.nobody_else j z c other there waits)) (st.workers j z there));
    lent = lent;
    waits = waits_move k at run lends g m waits;
  }
    where
      spared : (who : Who) → same_who (Worker at.id) who ≡ false → IsOther lends who
          → Spares who p.history.entries g.entries
      spared = m.spares

      worker_other : (w : WorkerId) → IsOther lends (Worker w)
      worker_other w = of lends
        where
          of : (o : Option ℕ) → IsOther o (Worker w)
          of None = tt
          of (Some c) = refl

  -- ---- which callers are lent then

  -- who is lent to the worker of another place goes on waiting
  other_waits : (k : ℕ) (at : WorkerAt) (new : WorkerAt) (g : History) (free : List ℕ) (gates : List Bool)
      (locks : List (Option Holder)) (c j : ℕ) → (j ≡ k → ⊥) → LentStands r p c (inr j)
      → LentStands r (with_worker g k new free gates locks) c (inr j)
  other_waits k at new g free gates locks c j other (z, there, waits) =
      (z, set_others p.workers k j new other ∙ there, waits)

  -- nobody is lent, and nobody is given back; a caller that is free may have made a whole wait
  pub same_lent : (k : ℕ) (at : WorkerAt) (run : Option RunAt) (lends : Option ℕ) (g : History) (gates : List Bool)
      (locks : List (Option Holder)) → WorkerMoves k at lends g → lent_to at ≡ None
      → option_and_then (λ (x : RunAt). caller_of x.doing) run ≡ None
      → IfSome lends (λ c. HasRested r.layout c g.entries)
      → AreLent r (with_worker g k (record { id = at.id; run = run }) p.free gates locks)
  same_lent k at run lends g gates locks m was_none is_none rests = record {
    holder = st.lent.holder;
    free = st.lent.free;
    waiting = λ j z c. waiting c j z;
    each = λ c lendable. each c lendable (st.lent.holder c) (st.lent.each c lendable);
  }
    where
      waiting : (c j : ℕ) (z : WorkerAt)
          → slice_get (slice_set p.workers k (record { id = at.id; run = run })) j ≡ Some z → lent_to z ≡ Some c
          → (st.lent.holder c ≡ inr j) × IsLendable r c
      waiting c =
          set_each (λ j z. lent_to z ≡ Some c → (st.lent.holder c ≡ inr j) × IsLendable r c) p.workers k at
          (record { id = at.id; run = run }) m.is (λ waits. absurd (cc (sym is_none ∙ waits)))
          (λ j z other there waits. st.lent.waiting j z c there waits)

      rests_on : (c : ℕ) → (o : Option ℕ) → IfSome o (λ d. HasRested r.layout d g.entries)
          → ((who : Who) → same_who (Worker at.id) who ≡ false → IsOther o who → Spares who p.history.entries g.entries)
          → HasRested r.layout c p.history.entries → HasRested r.layout c g.entries
      rests_on c None rested spares old =
          rested_later r.layout p.history.entries g.entries c (spares (caller_numbered c) refl tt) old
      rests_on c (Some d) rested spares old =
          ⊎_elim (λ (same : d ≡ c). subst (λ (i : ℕ). HasRested r.layout i g.entries) same rested)
          (λ (other : d ≡ c → ⊥).
          rested_later r.layout p.history.entries g.entries c
          (spares (caller_numbered c) refl (callers_apart d c other)) old) (same_or_not d c)

      each : (c : ℕ) → IsLendable r c → (o : Holding) → LentStands r p c o
          → LentStands r (with_worker g k (record { id = at.id; run = run }) p.free gates locks) c o
      each c lendable (inl place) rested = rests_on c lends rests m.spares rested
      each c lendable (inr j) (z, there, waits) =
          other_waits k at (record { id = at.id; run = run }) g p.free gates locks c j
          (λ same.
          let one : at ≡ z = cc (m.is, subst (λ (i : ℕ). slice_get p.workers i ≡ Some z) same there) in
          absurd (cc (sym was_none ∙ (ap lent_to one ∙ waits)))) (z, there, waits)

  -- the holder of one caller is another now
  abbrev holder_set : (ℕ → Holding) → ℕ → Holding → ℕ → Holding
  holder_set f c x d = if d == c then x else f d

  set_one : (f : ℕ → Holding) (c : ℕ) (x : Holding) (d : ℕ) → d ≡ c → holder_set f c x d ≡ x
  set_one f c x d same = ap (λ b. if b then x else f d) (eq-eqb d c same)

  set_not : (f : ℕ → Holding) (c : ℕ) (x : Holding) (d : ℕ) → (d ≡ c → ⊥) → holder_set f c x d ≡ f d
  set_not f c x d other = ap (λ b. if b then x else f d) (apart d c other)

  -- the last of those that are free is lent
  pub one_lent : (k : ℕ) (at : WorkerAt) (run : RunAt) (c : ℕ) (g : History) (gates : List Bool)
      (locks : List (Option Holder)) → WorkerMoves k at (Some c) g → lent_to at ≡ None
      → caller_of run.doing ≡ Some c → slice_get p.free (length p.free - 1) ≡ Some c
      → AreLent r (with_worker g k (record { id = at.id; run = Some run })
      (take (length p.free - 1) p.free) gates locks)
  one_lent k at run c g gates locks m was_none waits_now last = record {
    holder = holder_set st.lent.holder c (inr k);
    free = still_free;
    waiting = λ j z d. waiting d j z;
    each = λ d lendable. each d lendable (same_or_not d c);
  }
    where
      now : WorkerAt
      now = record { id = at.id; run = Some run }

      still_free : (i d : ℕ) → slice_get (take (length p.free - 1) p.free) i ≡ Some d
          → (holder_set st.lent.holder c (inr k) d ≡ inl i) × IsLendable r d
      still_free i d is =
          let there = take_there p.free (length p.free - 1) i d is in
          let old = st.lent.free i d there.0 in
          let less = there.1 in (
            set_not st.lent.holder c (inr k) d
                (λ same.
                let place = (st.lent.free (length p.free - 1) c last).0 in
                let both : ◌≡◌ {A = Holding} (inl i) (inl (length p.free - 1)) =
                sym old.0 ∙ (ap st.lent.holder same ∙ place) in
                let at_last : i ≡ length p.free - 1 = cc both in
                absurd (omega (arith, at_last, less))) ∙ old.0,
            old.1,
          )

      waiting : (d j : ℕ) (z : WorkerAt)
          → slice_get (slice_set p.workers k (record { id = at.id; run = Some run })) j ≡ Some z → lent_to z ≡ Some d
          → (holder_set st.lent.holder c (inr k) d ≡ inr j) × IsLendable r d
      waiting d =
          set_each (λ j z. lent_to z ≡ Some d → (holder_set st.lent.holder c (inr k) d ≡ inr j) × IsLendable r d)
          p.workers k at (record { id = at.id; run = Some run }) m.is
          (λ waits.
          let same : d ≡ c = cc (sym waits ∙ waits_now) in
          (set_one st.lent.holder c (inr k) d same, subst (λ (i : ℕ). IsLendable r i) (sym same) m.lendable))
          (λ j z other there waits.
          let old = st.lent.waiting j z d there waits in (
            set_not st.lent.holder c (inr k) d
                (λ same.
                let place = (st.lent.free (length p.free - 1) c last).0 in
                let both : ◌≡◌ {A = Holding} (inr j) (inl (length p.free - 1)) =
                sym old.0 ∙ (ap st.lent.holder same ∙ place) in
                absurd (cc both)) ∙ old.0,
            old.1,
          ))

      of_other : (d : ℕ) → (d ≡ c → ⊥) → (o : Holding) → LentStands r p d o
          → LentStands r (with_worker g k (record { id = at.id; run = Some run })
          (take (length p.free - 1) p.free) gates locks)
          d o
      of_other d other (inl place) rested =
          rested_later r.layout p.history.entries g.entries d
          (m.spares (caller_numbered d) refl (callers_apart c d (λ same. other (sym same)))) rested
      of_other d other (inr j) (z, there, waits) =
          other_waits k at (record { id = at.id; run = Some run }) g (take (length p.free - 1) p.free) gates locks d j
          (λ same.
          let one : at ≡ z = cc (m.is, subst (λ (i : ℕ). slice_get p.workers i ≡ Some z) same there) in
          absurd (cc (sym was_none ∙ (ap lent_to one ∙ waits)))) (z, there, waits)

      each : (d : ℕ) → IsLendable r d → (d ≡ c) ⊎ (d ≡ c → ⊥)
          → LentStands r (with_worker g k (record { id = at.id; run = Some run })
          (take (length p.free - 1) p.free) gates locks)
          d (holder_set st.lent.holder c (inr k) d)
      each d lendable (inl same) =
          subst
          (λ (o : Holding).
          LentStands r (with_worker g k (record { id = at.id; run = Some run })
          (take (length p.free - 1) p.free) gates locks)
          d o) (sym (set_one st.lent.holder c (inr k) d same)) (
            record { id = at.id; run = Some run },
            set_here p.workers k at (record { id = at.id; run = Some run }) m.is,
            waits_now ∙ ap Some (sym same),
          )
      each d lendable (inr other) =
          subst
          (λ (o : Holding).
          LentStands r (with_worker g k (record { id = at.id; run = Some run })
          (take (length p.free - 1) p.free) gates locks)
          d o) (sym (set_not st.lent.holder c (inr k) d other))
          (of_other d other (st.lent.holder d) (st.lent.each d lendable))

  -- it is given back
  pub one_back : (k : ℕ) (at : WorkerAt) (run : RunAt) (c : ℕ) (g : History) (gates : List Bool)
      (locks : List (Option Holder)) → WorkerMoves k at (Some c) g → lent_to at ≡ Some c → caller_of run.doing ≡ None
      → HasRested r.layout c g.entries
      → AreLent r (with_worker g k (record { id = at.id; run = Some run }) (p.free ++ c ∷ []) gates locks)
  one_back k at run c g gates locks m waited is_none rests = record {
    holder = holder_set st.lent.holder c (inl (length p.free));
    free = free_now;
    waiting = λ j z d. waiting d j z;
    each = λ d lendable. each d lendable (same_or_not d c);
  }
    where
      held : st.lent.holder c ≡ inr k
      held = (st.lent.waiting k at c m.is waited).0

      free_now : (i d : ℕ) → slice_get (p.free ++ c ∷ []) i ≡ Some d
          → (holder_set st.lent.holder c (inl (length p.free)) d ≡ inl i) × IsLendable r d
      free_now i d is =
          ⊎_elim
          (λ (old : slice_get p.free i ≡ Some d).
          let was = st.lent.free i d old in (
            set_not st.lent.holder c (inl (length p.free)) d
                (λ same.
                let both : ◌≡◌ {A = Holding} (inl i) (inr k) = sym was.0 ∙ (ap st.lent.holder same ∙ held) in
                absurd (cc both)) ∙ was.0,
            was.1,
          ))
          (λ (new : (i ≡ length p.free) × (c ≡ d)). (
            set_one st.lent.holder c (inl (length p.free)) d (sym new.1) ∙ ap (λ (n : ℕ). inl n) (sym new.0),
            subst (λ (x : ℕ). IsLendable r x) new.1 m.lendable,
          )) (pushed p.free c d i is)

      waiting : (d j : ℕ) (z : WorkerAt)
          → slice_get (slice_set p.workers k (record { id = at.id; run = Some run })) j ≡ Some z → lent_to z ≡ Some d
          → (holder_set st.lent.holder c (inl (length p.free)) d ≡ inr j) × IsLendable r d
      waiting d =
          set_each
          (λ j z. lent_to z ≡ Some d → (holder_set st.lent.holder c (inl (length p.free)) d ≡ inr j) × IsLendable r d)
          p.workers k at (record { id = at.id; run = Some run }) m.is (λ waits. absurd (cc (sym is_none ∙ waits)))
          (λ j z other there waits.
          let old = st.lent.waiting j z d there waits in (
            set_not st.lent.holder c (inl (length p.free)) d
                (λ same.
                let both : ◌≡◌ {A = Holding} (inr j) (inr k) = sym old.0 ∙ (ap st.lent.holder same ∙ held) in
                let place : j ≡ k = cc both in
                other place) ∙ old.0,
            old.1,
          ))

      of_other : (d : ℕ) → (d ≡ c → ⊥) → (o : Holding) → LentStands r p d o
          → LentStands r (with_worker g k (record { id = at.id; run = Some run }) (p.free ++ c ∷ []) gates locks) d o
      of_other d other (inl place) rested =
          rested_later r.layout p.history.entries g.entries d
          (m.spares (caller_numbered d) refl (callers_apart c d (λ same. other (sym same)))) rested
      of_other d other (inr j) (z, there, waits) =
          other_waits k at (record { id = at.id; run = Some run }) g (p.free ++ c ∷ []) gates locks d j
          (λ same.
          let one : at ≡ z = cc (m.is, subst (λ (i : ℕ). slice_get p.workers i ≡ Some z) same there) in
          let both : ◌≡◌ {A = Option ℕ} (Some c) (Some d) = sym waited ∙ (ap lent_to one ∙ waits) in
          let this : c ≡ d = cc both in
          other (sym this)) (z, there, waits)

      each : (d : ℕ) → IsLendable r d → (d ≡ c) ⊎ (d ≡ c → ⊥)
          → LentStands r (with_worker g k (record { id = at.id; run = Some run }) (p.free ++ c ∷ []) gates locks) d
          (holder_set st.lent.holder c (inl (length p.free)) d)
      each d lendable (inl same) =
          subst
          (λ (o : Holding).
          LentStands r (with_worker g k (record { id = at.id; run = Some run }) (p.free ++ c ∷ []) gates locks) d o)
          (sym (set_one st.lent.holder c (inl (length p.free)) d same))
          (subst (λ (i : ℕ). HasRested r.layout i g.entries) (sym same) rests)
      each d lendable (inr other) =
          subst
          (λ (o : Holding).
          LentStands r (with_worker g k (record { id = at.id; run = Some run }) (p.free ++ c ∷ []) gates locks) d o)
          (sym (set_not st.lent.holder c (inl (length p.free)) d other))
          (of_other d other (st.lent.holder d) (st.lent.each d lendable))
