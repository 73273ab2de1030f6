-- The runs that wait once a wait of a run has begun, and once it has ended.
use Rattle.std.specs.Cmp.Derive.{both_true}
use Rattle.std.specs.Option.{option_map_or}
use Rattle.std.specs.Prelude.{if◌then◌else◌, is_some, option_and_then}
use Rattle.std.proofs.Common.{◌≡◌, ◌∙◌, ◌∷◌, ℕ, Bool, true, false, Option, Some, None, ap, ap₂, arith}
use Rattle.std.proofs.Common.{filter, length, option_to_list, refl, subst, sym, ⊎_elim}
use Rattle.std.proofs.lemmas.Bool.{and_parts}
use Rattle.std.proofs.lemmas.Option.{same_Some}
use Rattle.cmwq_lemmas.proofs.Members.{In, in_right, option_in}
use Rattle.cmwq_model.specs.Prelude.{IsLegal, Layout, fits, gives_ticket, has_run, is_asleep, is_done, is_drain}
use Rattle.cmwq_model.specs.Prelude.{is_tick, queueing_at, run, runs_asleep, runs_awake, ticket_for, ticket_in}
use Rattle.cmwq_model.specs.Prelude.{ticket_told, worker_of}
use Rattle.cmwq_model.specs.declared.call.Call.{Call}
use Rattle.cmwq_model.specs.declared.call.Call.TheVariants as call
use Rattle.cmwq_model.specs.declared.entry.Entry.{Entry}
use Rattle.cmwq_model.specs.declared.id.Who.{Who}
use Rattle.cmwq_model.specs.declared.id.Who.TheVariants.{Worker}
use Rattle.cmwq_model.specs.declared.id.WorkerId.{WorkerId}
use Rattle.cmwq_model.specs.declared.record.Queueing.{Queueing}
use Rattle.cmwq_model.specs.declared.reply.Reply.{Reply}
use Rattle.cmwq_model.proofs.Growing.{one_more_is_newest}
use Rattle.cmwq_theory_steps.specs.ItemQueueings.{queueing_run}
use Rattle.cmwq_theory_steps.specs.RoomSteps.{is_promised}
use Rattle.cmwq_theory_steps.proofs.Pools.{runs_are_in_pools}
use Rattle.cmwq_core.specs.History.{History, next_entry, past_in}
unfoldable use Rattle.cmwq_waits.specs.Begun.{waits_of}
use Rattle.cmwq_waits.specs.Begun.{is_lent, is_sleep, laid, wait_begun, wait_by, waits_on}
use Rattle.cmwq_waits.specs.declared.run_wait.RunWait.{RunWait}
use Rattle.cmwq_waits.proofs.Begun.{IsBegun, in_waits, runs_by, sleep_runs}
use Rattle.cmwq_key.proofs.AlikeCalls.{given_both, new_ticket}
use Rattle.cmwq_engine.specs.Conduct.{caller_numbered}
use Rattle.cmwq_play.specs.Machines.{AfterCall, after_reply, begun, is_made}
unfoldable use Rattle.cmwq_play.specs.Machines.{called, ended, ends, fired, replied, stepped}
use Rattle.cmwq_play.specs.declared.machine.Called.{Called}
use Rattle.cmwq_play.specs.declared.machine.Called.TheVariants.{NoRoom, Whole, Waits as Began}
use Rattle.cmwq_play.specs.declared.place.Ticketed.{Ticketed}
use Rattle.cmwq_schedule_laws.proofs.Awake.{slept_reply, woke_reply}
use Rattle.cmwq_schedule_laws.proofs.Keeping.{IsKept, kept_after, made_replies, made_steps, unmade_replies}
use Rattle.cmwq_schedule_laws.proofs.Numbered.{promised_made}
use Rattle.cmwq_schedule_laws.proofs.Sparing.{fired_goes, stepped_goes}
use Rattle.cmwq_schedule_laws.proofs.WaitsGoing.{begins_or_not, callers_lay_none, one_runner, own_gone}

-- ---- the entry of a call that is made

made_past : (h : History) (who : Who) (c : Call) → is_made h who c ≡ true
    → past_in (stepped h who c) ≡ next_entry h who c ∷ past_in h
made_past h who c made = ap past_in (made_steps h who c made) ∙ one_more_is_newest h.entries (next_entry h who c)

made_legal : (s : Layout) (h : History) (who : Who) (c : Call) → IsKept s h → is_made h who c ≡ true
    → IsLegal s (next_entry h who c ∷ past_in h)
made_legal s h who c kept made = subst (IsLegal s) (made_past h who c made) (kept_after s h who c kept).legal

-- ---- a run wakes

-- it waits no more
pub woken_gone : (first : ℕ) (s : Layout) (g : History) (w : WorkerId) (v : RunWait) → IsKept s g
    → fits s (Worker w) call.Wake ≡ true → queueing_run (past_in g) (Worker w) ≡ Some v.run
    → In v (waits_of first (past_in (stepped g (Worker w) call.Wake))) → ⊥
woken_gone first s g w v kept fit runs here =
    ⊎_elim
    (λ (before : In v (waits_of first (past_in g))).
    let k = in_waits first s (past_in g) kept.legal v before in
    let same = one_runner s (past_in g) k.worker w v.run v.run kept.legal k.runs runs refl in
    let asleep : runs_asleep (past_in g) w ≡ true =
    both_true (ap is_some (runs_by (past_in g) w v.run runs).runs)
    (subst (λ (u : WorkerId). is_asleep (past_in g) u ≡ true) same k.asleep) in
    let made = promised_made s g (Worker w) call.Wake kept fit
    (ap is_promised (woke_reply s (past_in g) w asleep)) refl in
    own_gone first s (past_in g) (next_entry g (Worker w) call.Wake)
    (made_legal s g (Worker w) call.Wake kept made) v w refl runs
    (subst (λ past. In v (waits_of first past)) (made_past g (Worker w) call.Wake made) here))
    (λ (begins : (is_lent first (Worker w) ≡ true) × (laid (past_in g) ≡ Some v.run)). absurd (cc begins.0))
    (((stepped_goes s (Worker w) g call.Wake kept).waits first).whence v here)

-- ---- a ticket ends

made_to_end : (h : History) (who : Who) (k : ℕ) → ends h who k ≡ true → is_made h who (call.End k) ≡ true
unfolding ends
made_to_end h who k may = at (is_made h who (call.End k)) refl
  where
    at : (b : Bool) → is_made h who (call.End k) ≡ b → b ≡ true
    at true made = refl
    at false not =
        let none = rw (unmade_replies h who (call.End k) not) at may in
        absurd (cc none)

end_is_done : (h : History) (who : Who) (k : ℕ) → ends h who k ≡ true
    → is_done (next_entry h who (call.End k)).reply ≡ true
unfolding ends
end_is_done h who k may = rw (made_replies h who (call.End k) (made_to_end h who k may)) at may

done_gives_none : (r : Reply) → is_done r ≡ true → gives_ticket r ≡ false
done_gives_none r is = grind arith

-- no wait begins then
module _ (first : ℕ) (s : Layout) (h : History) (c : ℕ) (t : Ticketed) (kept : IsKept s h)
    (lent : is_lent first (caller_numbered c) ≡ true) (may : ends h (caller_numbered c) t.ticket ≡ true) where
  abbrev lent_one : Who
  lent_one = caller_numbered c

  abbrev e : Entry
  e = next_entry h (caller_numbered c) (call.End t.ticket)

  abbrev one : History
  one = stepped h (caller_numbered c) (call.End t.ticket)

  made : is_made h (caller_numbered c) (call.End t.ticket) ≡ true
  made = made_to_end h (caller_numbered c) t.ticket may

  ended_first : (v : RunWait) → In v (waits_of first (past_in one)) → In v (waits_of first (past_in h))
  ended_first v here =
      ⊎_elim (λ (old : In v (waits_of first (past_in h))). old)
      (λ (begins : IsBegun first (past_in h) e v).
      absurd (cc (sym (ap (λ b. if b then ticket_for e.who e.call (length (past_in h)) else None)
      (done_gives_none e.reply (end_is_done h (caller_numbered c) t.ticket may))) ∙ begins.given)))
      (begins_or_not first s (past_in h) e (made_legal s h (caller_numbered c) (call.End t.ticket) kept made) v
      (subst (λ past. In v (waits_of first past)) (made_past h (caller_numbered c) (call.End t.ticket) made) here))

  pub ended_begins_none : (v : RunWait) → In v (waits_of first (past_in (ended h (caller_numbered c) t)))
      → In v (waits_of first (past_in h))
  unfolding ended
  ended_begins_none v = at (is_drain t.call)
    where
      one_kept : IsKept s one
      one_kept = kept_after s h (caller_numbered c) (call.End t.ticket) kept

      at : (b : Bool) → In v (waits_of first (past_in (if b then fired one.layout.items one lent_one else one)))
          → In v (waits_of first (past_in h))
      at false here = ended_first v here
      at true here =
          ⊎_elim (λ (old : In v (waits_of first (past_in one))). ended_first v old)
          (λ (begins : (is_lent first lent_one ≡ true) × (laid (past_in one) ≡ Some v.run)).
          absurd (cc (sym (ap laid (made_past h lent_one (call.End t.ticket) made)
          ∙ callers_lay_none first (past_in h) e lent) ∙ begins.1)))
          (((fired_goes s lent_one one.layout.items one one_kept).waits first).whence v here)

-- ---- a wait begins

-- what a call leaves that goes on waiting: its entry, which gave the ticket
abbrev pub BeganAs : History → Who → Call → History → Called → Type 0
BeganAs h who c g (Began t) =
    (g ≡ stepped h who c) × (r : Reply) × (replied h who c ≡ Some r) × (ticket_told r ≡ Some t.ticket)
BeganAs h who c g o = Unit {0}

pub began_as : (h : History) (who : Who) (c : Call)
    → BeganAs h who c (called h who c).history (called h who c).outcome
unfolding called
began_as h who c = at (replied h who c) refl
  where
    Is : AfterCall → Type 0
    Is a = BeganAs h who c a.history a.outcome

    begins : (r : Reply) → replied h who c ≡ Some r → (k : ℕ) → ticket_told r ≡ Some k → (b : Bool)
        → Is (if b then record {
          history = ended (stepped h who c) who (record { ticket = k; call = c });
          outcome = Whole;
        } else record { history = stepped h who c; outcome = Began (record { ticket = k; call = c }) })
    begins r is k told true = tt
    begins r is k told false = (refl, r, is, told)

    given : (r : Reply) → replied h who c ≡ Some r → (o : Option ℕ) → ticket_told r ≡ o
        → Is (option_map_or (λ k. begun (stepped h who c) who (record { ticket = k; call = c })) o
        (record { history = stepped h who c; outcome = Whole }))
    given r is None told = tt
    given r is (Some k) told = begins r is k told (ends (stepped h who c) who k)

    told : (r : Reply) → replied h who c ≡ Some r → (b : Bool)
        → Is (if b then record {
          history = fired (stepped h who c).layout.items (stepped h who c) who;
          outcome = Whole;
        } else option_map_or (λ k. begun (stepped h who c) who (record { ticket = k; call = c })) (ticket_told r)
        (record { history = stepped h who c; outcome = Whole }))
    told r is true = tt
    told r is false = given r is (ticket_told r) refl

    at : (o : Option Reply) → replied h who c ≡ o
        → Is (option_map_or (after_reply (stepped h who c) who c) o (record { history = h; outcome = NoRoom }))
    at None is = tt
    at (Some r) is = told r is (is_tick c)

-- a run that falls asleep
pub record HasLaid (g : History) (w : WorkerId) : Type 0 where
  pub run : Queueing
  pub lies : laid (past_in g) ≡ Some run
  pub runs : queueing_run (past_in g) (Worker w) ≡ Some run

pub has_laid : (s : Layout) (h : History) (w : WorkerId) → IsKept s h → runs_awake (past_in h) w ≡ true
    → is_made h (Worker w) call.Sleep ≡ true → HasLaid (stepped h (Worker w) call.Sleep) w
has_laid s h w kept awake made = by (run (past_in h) w) refl
  where
    e : Entry
    e = next_entry h (Worker w) call.Sleep

    by : (o : Option ℕ) → run (past_in h) w ≡ o → HasLaid (stepped h (Worker w) call.Sleep) w
    by None none = absurd (cc (sym (ap is_some none) ∙ (and_parts (has_run (past_in h) w) _ awake).0))
    by (Some n) some =
        let r = runs_are_in_pools s (past_in h) w n kept.legal some in
        let before : queueing_run (past_in h) (Worker w) ≡ Some r.queueing =
        ap (option_and_then (queueing_at (past_in h))) some ∙ r.found in
        let slept = slept_reply h.layout (past_in h) w awake in
        let now : queueing_run (e ∷ past_in h) (Worker w) ≡ Some r.queueing =
        sleep_runs s (past_in h) e w (made_legal s h (Worker w) call.Sleep kept made) slept ∙ before in
        let past = made_past h (Worker w) call.Sleep made in
        record {
          run = r.queueing;
          lies = ap laid past
              ∙ ap (λ q. option_and_then (λ (u : WorkerId). queueing_run (e ∷ past_in h) (Worker u))
              (if is_sleep q then worker_of (Worker w) else None)) slept ∙ now;
          runs = ap (λ es. queueing_run es (Worker w)) past ∙ now;
        }

-- its wait, once the caller has been given the ticket
pub record IsNewWait (first : ℕ) (g : History) (x : Queueing) (c : ℕ) (t : Ticketed) : Type 0 where
  pub wait : RunWait
  pub there : In wait (waits_of first (past_in g))
  pub caller : wait.ticket.caller.0 ≡ c
  pub number : wait.ticket.number ≡ t.ticket
  pub run : wait.run ≡ x

made_reply : (h : History) (who : Who) (c : Call) (r : Reply) → replied h who c ≡ Some r
    → (is_made h who c ≡ true) × ((next_entry h who c).reply ≡ r)
made_reply h who c r is = at (is_made h who c) refl
  where
    at : (b : Bool) → is_made h who c ≡ b → (is_made h who c ≡ true) × ((next_entry h who c).reply ≡ r)
    at true made = (made, same_Some (next_entry h who c).reply r (sym (made_replies h who c made) ∙ is))
    at false not = absurd (cc (sym (unmade_replies h who c not) ∙ is))

pub new_wait : (first : ℕ) (s : Layout) (h : History) (x : Queueing) (c : ℕ) (cl : Call) (t : Ticketed) → IsKept s h
    → laid (past_in h) ≡ Some x → is_lent first (caller_numbered c) ≡ true → (g : History)
    → BeganAs h (caller_numbered c) cl g (Began t) → IsNewWait first g x c t
unfolding waits_of
new_wait first s h x c cl t kept lies lent g (is, r, replies, told) =
    let k = made_reply h (caller_numbered c) cl r replies in
    let e = next_entry h (caller_numbered c) cl in
    let legal = made_legal s h (caller_numbered c) cl kept k.0 in
    let given : ticket_told e.reply ≡ Some t.ticket = ap ticket_told k.1 ∙ told in
    let number = (new_ticket s (past_in h) e t.ticket legal given).number in
    let v : RunWait = record {
      run = x;
      ticket = record { caller = record { 0 = c }; call = cl; number = length (past_in h) };
    } in
    let ticket : ticket_in e (length (past_in h)) ≡ Some v.ticket =
    ap (λ b. if b then ticket_for e.who e.call (length (past_in h)) else None)
    (given_both e.reply t.ticket given).0 in
    let begins : wait_begun first (past_in h) e ≡ Some v =
    ap (λ b. if b then wait_by (laid (past_in h)) (ticket_in e (length (past_in h))) else None) lent
    ∙ ap₂ wait_by lies ticket in
    let here : In v (waits_of first (e ∷ past_in h)) =
    in_right (filter (waits_on (past_in h) e) (waits_of first (past_in h)))
    (option_to_list (wait_begun first (past_in h) e)) v (option_in (wait_begun first (past_in h) e) v begins) in
    record {
      wait = v;
      there = subst (λ (i : History). In v (waits_of first (past_in i))) (sym is)
          (subst (λ past. In v (waits_of first past)) (sym (made_past h (caller_numbered c) cl k.0)) here);
      caller = refl;
      number = sym number;
      run = refl;
    }
