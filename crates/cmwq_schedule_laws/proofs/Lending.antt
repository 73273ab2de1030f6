-- The wait of a run is left out, begins, or ends: what its worker and the caller that is lent have done then.
use Rattle.std.specs.Prelude.{◌&&◌, if◌then◌else◌, not, is_some, option_and_then}
use Rattle.std.proofs.Common.{◌≡◌, ◌++◌, ◌∙◌, ◌∷◌, ℕ, Bool, true, false, List, Option, Some, None, []}
use Rattle.std.proofs.Common.{slice_get, nat_lt, refl, sym, ap, subst, inl, inr, true≢false}
use mathlib.Core.List.{IsPrefix}
use Rattle.cmwq_model.specs.Prelude.{Layout, answer, fits, has_numbers, is_workers, past_of, runs_asleep, runs_awake}
use Rattle.cmwq_model.specs.Prelude.{serial_of}
use Rattle.cmwq_model.specs.declared.call.Call.{Call}
use Rattle.cmwq_model.specs.declared.call.Call.TheVariants as call
use Rattle.cmwq_model.specs.declared.entry.Entry.{Entry}
use Rattle.cmwq_model.specs.declared.id.Who.{Who}
use Rattle.cmwq_model.specs.declared.id.Who.TheVariants.{Worker}
use Rattle.cmwq_model.specs.declared.id.WorkerId.{WorkerId}
use Rattle.cmwq_model.specs.declared.reply.Reply.{Reply}
use Rattle.cmwq_json_script.specs.declared.action.Action.{Action}
use Rattle.cmwq_json_script.specs.declared.action.Action.TheVariants as action
use Rattle.cmwq_core.specs.History.{History, past_in}
use Rattle.cmwq_waits.specs.Begun.{is_lent, waits_of}
use Rattle.cmwq_waits.specs.Registered.{refusal_of}
use Rattle.cmwq_monitor.specs.Calls.{own_entry}
use Rattle.cmwq_monitor.specs.Participants.{View, is_caller, made_by}
use Rattle.cmwq_monitor.specs.Whole.{Completes}
use Rattle.cmwq_monitor.proofs.Beginnings.{prefix_trans}
use Rattle.cmwq_monitor.proofs.Entering.{made_all}
use Rattle.cmwq_rt.specs.Running.{MakesOne}
use Rattle.cmwq_rt.specs.Sums.{one_refused, one_without_room}
use Rattle.cmwq_rt.specs.Waiting.{HasWaited, WasAllowed, is_wait}
use Rattle.cmwq_rt.specs.declared.left_out.LeftOut.{LeftOut}
use Rattle.cmwq_rt.proofs.Lending.{waited_more}
use Rattle.cmwq_engine.specs.Conduct.{caller_numbered}
use Rattle.cmwq_cmd_run.specs.Interpreted as interpreted
use Rattle.cmwq_cmd_run.specs.Interpreted.{WaitsIfMay}
use Rattle.cmwq_play.specs.Machines.{called, ended, ends, has_wait_room, is_made, stepped}
use Rattle.cmwq_play.specs.Stands.{Stand, after_action, last_free, with_room}
unfoldable use Rattle.cmwq_play.specs.Stands.{lent_for}
use Rattle.cmwq_play.specs.Waiting.{is_refused, may_wait, waits_in}
use Rattle.cmwq_play.specs.declared.machine.Called.{Called}
use Rattle.cmwq_play.specs.declared.machine.Called.TheVariants.{NoRoom, Whole, Waits as Began}
use Rattle.cmwq_play.specs.declared.place.Doing.TheVariants.{Acts, Waits}
use Rattle.cmwq_play.specs.declared.place.RunAt.{RunAt}
use Rattle.cmwq_play.specs.declared.place.Ticketed.{Ticketed}
use Rattle.cmwq_schedule_laws.proofs.Accounts.{DoesNext, HasRested, IsItems, IsRunning, IsWaitingBy, actions_at}
use Rattle.cmwq_schedule_laws.proofs.Accounts.{runs_on}
use Rattle.cmwq_schedule_laws.proofs.Calling.{CameOf, wait_completes}
use Rattle.cmwq_schedule_laws.proofs.Keeping.{IsKept, IsUpToDate, having_seen, kept_after, own_counted, seen_up}
use Rattle.cmwq_schedule_laws.proofs.Keeping.{up_later}
use Rattle.cmwq_schedule_laws.proofs.Numbered.{MakesBy, came_by, end_by, makes_by}
use Rattle.cmwq_schedule_laws.proofs.Sparing.{GoesOn, Spares, called_goes, ended_goes, stepped_goes}
use Rattle.cmwq_schedule_laws.proofs.Waiting.{HasRoom, has_room, lacked_room, nobody_left, none_found, refused_for}
use Rattle.cmwq_schedule_laws.proofs.Waiting.{refusal_is, wait_room_is}
use Rattle.cmwq_rt.proofs.Sleeping.{waits_by_caller}
use Rattle.cmwq_schedule_laws.proofs.Waiting.{some_found, waits_of_items, was_allowed}
use Rattle.cmwq_schedule_laws.proofs.Working as working

-- ---- others go on

pub later : (old new : List Entry) (v : View) (who : Who) → v.who ≡ who → Spares who old new → IsUpToDate old v
    → IsUpToDate new v
later old new v who same spares up =
    up_later old new v spares.longer
    (subst (λ (x : Who). serial_of (past_of new) x ≡ serial_of (past_of old) x) (sym same) spares.same) up

-- ---- whether a caller is lent

-- A caller was lent: the wait was not refused, and there is room for it.
pub record IsLentFor (p : Stand) (w : WorkerId) (c : Call) (caller : ℕ) : Type 0 where
  pub last : last_free p.free ≡ Some caller
  pub may : may_wait p.history p.workers w c ≡ true
  pub room : has_wait_room p.history w (record { 0 = caller }) c ≡ true

pub lent_is : (p : Stand) (w : WorkerId) (c : Call) (caller : ℕ) → lent_for p w c ≡ Some caller → IsLentFor p w c caller
unfolding lent_for
lent_is p w c caller = of_may (may_wait p.history p.workers w c) refl
  where
    of_room : (d : ℕ) → last_free p.free ≡ Some d → may_wait p.history p.workers w c ≡ true → (b : Bool)
        → has_wait_room p.history w (record { 0 = d }) c ≡ b → (if b then Some d else None) ≡ Some caller
        → IsLentFor p w c caller
    of_room d free may true room is =
        let same : d ≡ caller = cc is in
        subst (IsLentFor p w c) same (record { last = free; may = may; room = room })
    of_room d free may false room is = absurd (cc is)

    of_free : (o : Option ℕ) → last_free p.free ≡ o → may_wait p.history p.workers w c ≡ true
        → option_and_then (with_room p w c) o ≡ Some caller → IsLentFor p w c caller
    of_free None free may is = absurd (cc is)
    of_free (Some d) free may is = of_room d free may (has_wait_room p.history w (record { 0 = d }) c) refl is

    of_may : (b : Bool) → may_wait p.history p.workers w c ≡ b
        → (if b then option_and_then (with_room p w c) (last_free p.free) else None) ≡ Some caller
        → IsLentFor p w c caller
    of_may true may is = of_free (last_free p.free) refl may is
    of_may false may is = absurd (cc is)

-- ---- a worker that is there

-- callers from a number on are lent, and the runs that wait are those of the stand
module _ (s : Layout) (does : List (List Action)) (w : WorkerId) (cpu : nat_lt w.pool.cpu.0 s.cpus ≡ true)
    (index : nat_lt w.index s.workers ≡ true) (p : Stand)
    (kept : IsKept s p.history) (first : ℕ)
    (same : (c : Call) → refusal_of s (past_in p.history) (waits_of first (past_in p.history)) w c
    ≡ refusal_of s (past_in p.history) (waits_in p.history p.workers) w c)
    (run : RunAt) where
  abbrev h : History
  h = p.history

  abbrev next_action : Option Action
  next_action = slice_get (actions_at does run.item.0) run.next

  fit_sleep : fits s (Worker w) call.Sleep ≡ true
  fit_sleep = working.fit s does w cpu index call.Sleep refl refl

  refusal : (c : Call) → is_refused h p.workers w c ≡ is_some (refusal_of s (past_in h) (waits_in h p.workers) w c)
  refusal c = refusal_is s h p.workers w c kept fit_sleep

  may_numbers : (c : Call) → IsItems s c → may_wait h p.workers w c ≡ not (is_refused h p.workers w c)
  may_numbers c own =
      ap (λ b. b && not (is_refused h p.workers w c))
      (subst (λ (l : Layout). has_numbers l c ≡ true) (sym kept.layout) own.1)

  not_true : (b : Bool) → not b ≡ true → b ≡ false
  not_true true is = absurd (cc is)
  not_true false is = refl

  not_false : (b : Bool) → not b ≡ false → b ≡ true
  not_false true is = refl
  not_false false is = absurd (cc is)

  allowed : (c : Call) → IsItems s c → may_wait h p.workers w c ≡ true
      → refusal_of s (past_in h) (waits_in h p.workers) w c ≡ None
  allowed c own may = none_found _ (sym (refusal c) ∙ not_true _ (sym (may_numbers c own) ∙ may))

  -- what a call of the item that is no worker's makes
  acts_by : (c : Call) → IsItems s c → is_workers c ≡ false → (old new : LeftOut) (v u : View)
      → WaitsIfMay s run.item old new v c u → interpreted.Acts s run.item (action.Call c) old new v u
  acts_by c own other old new v u waits = rw (own.0, own.1, other) waits

  -- ---- the wait is left out

  -- each caller that is free is one of the shape, and is lent to runs
  abbrev AreLendable : Type 0
  AreLendable = (d : ℕ) → last_free p.free ≡ Some d
      → (nat_lt d s.callers ≡ true) × (is_lent first (caller_numbered d) ≡ true)

  -- the worker sees all entries then
  left_out : (c : Call) → IsItems s c → is_workers c ≡ false → (old : LeftOut) (v : View) → v.who ≡ Worker w
      → IsUpToDate h.entries v → AreLendable → lent_for p w c ≡ None
      → (l : LeftOut) × WaitsIfMay s run.item old l v c (having_seen h.entries v)
  unfolding lent_for
  left_out c own other old v who up lendable = of_may (may_wait h p.workers w c) refl
    where
      of_room : (d : ℕ) → last_free p.free ≡ Some d → refusal_of s (past_in h) (waits_in h p.workers) w c ≡ None
          → (b : Bool) → has_wait_room h w (record { 0 = d }) c ≡ b → (if b then Some d else None) ≡ None
          → (l : LeftOut) × WaitsIfMay s run.item old l v c (having_seen h.entries v)
      of_room d last free true room is = absurd (cc is)
      of_room d last free false room is =
          let there = lendable d last in
          let fit : fits s (caller_numbered d) c ≡ true =
          rw (there.0, (waits_by_caller c (waits_of_items s c own other)).0, own.1) refl in
          let lacked = sym (wait_room_is s h w (record { 0 = d }) c kept fit_sleep fit) ∙ room in (
            one_without_room old,
            (
              first,
              inr (inr (
                lacked_room first s h p.workers w v kept who up c (same c) (caller_numbered d) there.1 free lacked,
                refl,
              )),
            ),
          )

      of_free : (o : Option ℕ) → last_free p.free ≡ o → refusal_of s (past_in h) (waits_in h p.workers) w c ≡ None
          → option_and_then (with_room p w c) o ≡ None
          → (l : LeftOut) × WaitsIfMay s run.item old l v c (having_seen h.entries v)
      of_free None last free is =
          let nobody = nobody_left first s h p.workers w v kept who up c (same c) run.item free in
          (one_refused old, (first, inr (inl (nobody, refl))))
      of_free (Some d) last free is = of_room d last free (has_wait_room h w (record { 0 = d }) c) refl is

      of_may : (b : Bool) → may_wait h p.workers w c ≡ b
          → (if b then option_and_then (with_room p w c) (last_free p.free) else None) ≡ None
          → (l : LeftOut) × WaitsIfMay s run.item old l v c (having_seen h.entries v)
      of_may true may is = of_free (last_free p.free) refl (allowed c own may) is
      of_may false may is =
          let why = some_found _ (sym (refusal c) ∙ not_false _ (sym (may_numbers c own) ∙ may)) in (
            one_refused old,
            (first, inr (inl (refused_for first s h p.workers w v kept who up c (same c) run.item why.0 why.1, refl))),
          )

  pub waits_not : (acc : IsRunning s does w run h.entries) (c : Call) → run.doing ≡ Acts
      → next_action ≡ Some (action.Call c) → IsItems s c → is_workers c ≡ false → AreLendable
      → lent_for p w c ≡ None → IsRunning s does w (after_action run) h.entries
  waits_not acc c acting next own other lendable none =
      of (subst (λ d. DoesNext s w next_action d acc.acted acc.view h.entries) acting acc.doing)
    where
      of : (acc.view ≡ acc.acted) × (runs_awake (past_of h.entries) w ≡ true)
          → IsRunning s does w (after_action run) h.entries
      of (still, awake) =
          let up = subst (IsUpToDate h.entries) still acc.up in
          let l = left_out c own other acc.left_out acc.acted acc.acted_who up lendable none in
          let now = having_seen h.entries acc.acted in
          working.goes_on s does w cpu index run h.entries acc (action.Call c) next h.entries l.0 now
          (acts_by c own other acc.left_out l.0 acc.acted now l.1) acc.acted_who (seen_up h.entries acc.acted up) awake

  -- ---- it begins

  -- the worker slept, and the caller made the call whole
  abbrev slept : History
  slept = stepped h (Worker w) call.Sleep

  pub caller_spared : (c : ℕ) → Spares (caller_numbered c) h.entries slept.entries
  caller_spared c = (stepped_goes s (Worker w) h call.Sleep kept).spares (caller_numbered c) refl

  slept_kept : IsKept s slept
  slept_kept = kept_after s h (Worker w) call.Sleep kept

  -- a worker's run that sleeps, while only another makes entries
  still_asleep : (old new : List Entry) → Spares (Worker w) old new → runs_asleep (past_of old) w ≡ true
      → runs_asleep (past_of new) w ≡ true
  still_asleep old new spares asleep = spares.awake.asleep ∙ asleep

  -- the run waited, and goes on
  has_waited : (from : ℕ) (v u before after z : View) (c : Call) (r : Reply) → MakesOne s v call.Sleep u
      → WasAllowed s from v c before.who u → made_by before.who u.seen ≡ made_by before.who before.seen
      → is_caller after.who ≡ true
      → Completes s before c r after → MakesOne s u call.Wake z
      → IsPrefix (u.seen ++ own_entry s u.seen before c ∷ []) after.seen
      → IsPrefix after.seen z.seen → HasWaited s from v c r z
  has_waited from v u before after z c r sleeps allowed nothing by whole wakes at_once sees = (
    v,
    inl refl,
    record {
      asleep = u;
      sleeps = sleeps;
      before = before;
      after = after;
      allowed = allowed;
      nothing_yet = nothing;
      by_caller = by;
      completes = whole;
      wakes = wakes;
      at_once = at_once;
      sees = sees;
    },
  )

  -- what has come of the wait: it was whole, and the run goes on; or it goes on waiting
  abbrev pub BegunAs : ℕ → Call → History → Called → Type 0
  BegunAs c cl g NoRoom = ⊥
  BegunAs c cl g Whole =
      IsRunning s does w (after_action run) (stepped g (Worker w) call.Wake).entries
      × HasRested s c (stepped g (Worker w) call.Wake).entries
  BegunAs c cl g (Began t) = IsRunning s does w (record run { doing = Waits c t }) g.entries

  pub begins : (acc : IsRunning s does w run h.entries) (cl : Call) (c : ℕ) → run.doing ≡ Acts
      → next_action ≡ Some (action.Call cl) → IsItems s cl → is_workers cl ≡ false → lent_for p w cl ≡ Some c
      → nat_lt c s.callers ≡ true → is_lent first (caller_numbered c) ≡ true → HasRested s c h.entries
      → BegunAs c cl (called slept (caller_numbered c) cl).history (called slept (caller_numbered c) cl).outcome
  begins acc cl c acting next own other lent there lendable rested =
      of (subst (λ d. DoesNext s w next_action d acc.acted acc.view h.entries) acting acc.doing)
    where
      wait : is_wait cl ≡ true
      wait = waits_of_items s cl own other

      its : IsLentFor p w cl c
      its = lent_is p w cl c lent

      room : HasRoom s h w (record { 0 = c }) cl
      room = has_room s h w (record { 0 = c }) cl kept wait its.room

      fit_fire : fits s (caller_numbered c) call.Fire ≡ true
      fit_fire = rw there refl

      rested_up : IsUpToDate slept.entries rested.view
      rested_up = later h.entries slept.entries rested.view (caller_numbered c) rested.who (caller_spared c) rested.up

      nothing_yet : (m : MakesBy s h acc.acted (Worker w) call.Sleep slept)
          → made_by rested.view.who m.view.seen ≡ made_by rested.view.who rested.view.seen
      nothing_yet m =
          subst (λ (es : List Entry). made_by rested.view.who es ≡ made_by rested.view.who rested.view.seen) (sym m.all)
          (made_all rested.view slept.entries (own_counted slept.entries rested.view rested_up) rested_up.book
          rested_up.older)

      was_now : IsUpToDate h.entries acc.acted → (m : MakesBy s h acc.acted (Worker w) call.Sleep slept)
          → WasAllowed s first acc.acted cl (caller_numbered c) m.view
      was_now up m =
          was_allowed first s h p.workers w acc.acted kept acc.acted_who up cl (same cl) m.view (caller_numbered c)
          lendable (allowed cl own its.may) room.whole m.seen

      of : (acc.view ≡ acc.acted) × (runs_awake (past_of h.entries) w ≡ true)
          → BegunAs c cl (called slept (caller_numbered c) cl).history (called slept (caller_numbered c) cl).outcome
      of (still, awake) =
          came (makes_by s h acc.acted (Worker w) call.Sleep acc.acted_who kept
          (subst (IsUpToDate h.entries) still acc.up) room.sleeps)
          (called slept (caller_numbered c) cl).history (called slept (caller_numbered c) cl).outcome
          (called_goes s (caller_numbered c) slept cl slept_kept)
          (came_by s slept rested.view (caller_numbered c) cl rested.who slept_kept rested_up fit_fire)
        where
          came : MakesBy s h acc.acted (Worker w) call.Sleep slept → (g : History) (o : Called)
              → GoesOn s (caller_numbered c) slept g → CameOf s slept rested.view cl g o → BegunAs c cl g o
          came m g NoRoom goes (stays, not) =
              let made = room.calls slept slept_kept awake m.past in
              true≢false
              (sym (subst (λ (x : Who). is_made slept x cl ≡ true) (sym rested.who) made) ∙ not)
          came m g Whole goes (r, after, whole, up, saw) =
              let spared = goes.spares (Worker w) refl in
              let asleep = working.asleep_after_sleep s does w cpu index h acc.acted kept awake m in
              let asleep_on = still_asleep slept.entries g.entries spared asleep in
              let view_up = later slept.entries g.entries m.view (Worker w) m.same spared m.up in
              let z = working.wakes_by s does w cpu index g m.view m.same goes.kept view_up asleep_on in
              let wakes_by_itself = (stepped_goes s (Worker w) g call.Wake goes.kept).spares (caller_numbered c) refl in
              let after_who : after.who ≡ caller_numbered c = whole.gains.same ∙ rested.who in
              let at_once =
              subst (λ (es : List Entry). IsPrefix (es ++ own_entry s es rested.view cl ∷ []) after.seen) (sym m.all)
              saw in
              let sees : IsPrefix after.seen z.view.seen =
              subst (λ (es : List Entry). IsPrefix after.seen es) (sym z.all)
              (prefix_trans after.seen g.entries (stepped g (Worker w) call.Wake).entries up.older
              wakes_by_itself.longer) in (
                working.goes_on s does w cpu index run h.entries acc (action.Call cl) next
                    (stepped g (Worker w) call.Wake).entries acc.left_out z.view
                    (acts_by cl own other acc.left_out acc.left_out acc.acted z.view (
                      first,
                      inl (
                        r,
                        has_waited first acc.acted m.view rested.view after z.view cl r
                            (answer s (past_in h) (Worker w) call.Sleep, m.extends)
                            (subst (λ (x : Who). WasAllowed s first acc.acted cl x m.view) (sym rested.who)
                            (was_now (subst (IsUpToDate h.entries) still acc.up) m))
                            (nothing_yet m) (ap is_caller after_who) whole
                            (answer s (past_in g) (Worker w) call.Wake, z.extends) at_once sees,
                        refl,
                      ),
                    )) z.same z.up
                    (working.awake_after_wake s does w cpu index g m.view goes.kept asleep_on z),
                record {
                  view = after;
                  who = after_who;
                  waited = waited_more s rested.view after cl r rested.waited wait whole;
                  up = later g.entries (stepped g (Worker w) call.Wake).entries after (caller_numbered c) after_who
                      wakes_by_itself up;
                },
              )
          came m g (Began t) goes (r, view, call_is, begun, up, saw) =
              let spared = goes.spares (Worker w) refl in
              let asleep = working.asleep_after_sleep s does w cpu index h acc.acted kept awake m in
              runs_on s does w run h.entries g.entries acc (Waits c t) m.view m.same (
                next ∙ ap (λ (d : Call). Some (action.Call d)) (sym call_is),
                record {
                  wait = ap is_wait call_is ∙ wait;
                  sleeps = (answer s (past_in h) (Worker w) call.Sleep, m.extends);
                  first = first;
                  allowed = subst (λ (d : Call). WasAllowed s first acc.acted d (caller_numbered c) m.view)
                      (sym call_is)
                      (was_now (subst (IsUpToDate h.entries) still acc.up) m);
                  asleep = still_asleep slept.entries g.entries spared asleep;
                  begun = record {
                    before = rested.view;
                    who = rested.who;
                    waited = rested.waited;
                    nothing_yet = nothing_yet m;
                    reply = r;
                    view = view;
                    begun = begun;
                    at_once = subst (λ (d : Call). IsPrefix (m.view.seen
                        ++ own_entry s m.view.seen rested.view d ∷ []) view.seen) (sym call_is)
                        (subst (λ (es : List Entry). IsPrefix (es ++ own_entry s es rested.view cl ∷ []) view.seen)
                        (sym m.all) saw);
                    up = up;
                  };
                },
              )
              (later slept.entries g.entries m.view (Worker w) m.same spared m.up)

  -- ---- it ends

  -- the history in which the wait has ended, and the run is awake
  abbrev pub woken : ℕ → Ticketed → History
  woken c t = stepped (ended h (caller_numbered c) t) (Worker w) call.Wake

  pub ends_then : (acc : IsRunning s does w run h.entries) (c : ℕ) (t : Ticketed) → run.doing ≡ Waits c t
      → ((d : Call) → next_action ≡ Some (action.Call d) → IsItems s d)
      → nat_lt c s.callers ≡ true → ends h (caller_numbered c) t.ticket ≡ true
      → IsRunning s does w (after_action run) (woken c t).entries × HasRested s c (woken c t).entries
  ends_then acc c t waiting items there may =
      of (subst (λ d. DoesNext s w next_action d acc.acted acc.view h.entries) waiting acc.doing)
    where
      fit_fire : fits s (caller_numbered c) call.Fire ≡ true
      fit_fire = rw there refl

      not_workers : (d : Call) → is_wait d ≡ true → is_workers d ≡ false
      not_workers (call.FlushItem i) is = refl
      not_workers (call.FlushDelayed i) is = refl
      not_workers (call.CancelSync i) is = refl
      not_workers (call.Flush q) is = refl
      not_workers (call.Drain q) is = refl
      not_workers d is = absurd (cc is)

      of : (next_action ≡ Some (action.Call t.call)) × IsWaitingBy s w c t acc.acted acc.view h.entries
          → IsRunning s does w (after_action run) (woken c t).entries × HasRested s c (woken c t).entries
      of (next, x) =
          let b = x.begun in
          let view_who : b.view.who ≡ caller_numbered c = b.begun.extends.gains.same ∙ b.who in
          let e = end_by s h b.view (caller_numbered c) t view_who kept b.up fit_fire may in
          let goes = ended_goes s (caller_numbered c) h t kept in
          let g = ended h (caller_numbered c) t in
          let spared = goes.spares (Worker w) refl in
          let asleep_on = still_asleep h.entries g.entries spared x.asleep in
          let view_up = later h.entries g.entries acc.view (Worker w) acc.who spared acc.up in
          let z = working.wakes_by s does w cpu index g acc.view acc.who goes.kept view_up asleep_on in
          let wakes_by_itself = (stepped_goes s (Worker w) g call.Wake goes.kept).spares (caller_numbered c) refl in
          let last_who : e.last.who ≡ caller_numbered c = e.ended.gains.same ∙ view_who in
          let whole = wait_completes s b.before b.view t b.reply g.entries b.begun e in
          let at_once =
          prefix_trans (acc.view.seen ++ own_entry s acc.view.seen b.before t.call ∷ []) b.view.seen e.last.seen
          b.at_once e.ended.gains.older in
          let sees : IsPrefix e.last.seen z.view.seen =
          subst (λ (es : List Entry). IsPrefix e.last.seen es) (sym z.all)
          (prefix_trans e.last.seen g.entries (stepped g (Worker w) call.Wake).entries e.up.older
          wakes_by_itself.longer) in (
            working.goes_on s does w cpu index run h.entries acc (action.Call t.call) next
                (stepped g (Worker w) call.Wake).entries acc.left_out z.view
                (acts_by t.call (items t.call next) (not_workers t.call x.wait) acc.left_out acc.left_out acc.acted
                z.view (
                  x.first,
                  inl (
                    b.reply,
                    has_waited x.first acc.acted acc.view b.before e.last z.view t.call b.reply x.sleeps
                        (subst (λ (y : Who). WasAllowed s x.first acc.acted t.call y acc.view) (sym b.who) x.allowed)
                        b.nothing_yet (ap is_caller last_who) whole
                        (answer s (past_in g) (Worker w) call.Wake, z.extends) at_once sees,
                    refl,
                  ),
                )) z.same z.up (working.awake_after_wake s does w cpu index g acc.view goes.kept asleep_on z),
            record {
              view = e.last;
              who = last_who;
              waited = waited_more s b.before e.last t.call b.reply b.waited x.wait whole;
              up = later g.entries (stepped g (Worker w) call.Wake).entries e.last (caller_numbered c) last_who
                  wakes_by_itself e.up;
            },
          )
