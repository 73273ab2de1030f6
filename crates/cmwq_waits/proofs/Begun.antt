-- Who waits by a history: runs that sleep, each once.
use Rattle.std.proofs.Common.{◌≡◌, ◌∙◌, ◌∷◌, ◌++◌, Bool, List, None, Option, Some, ℕ, ap, append-nil, ap₂, arith}
use Rattle.std.proofs.Common.{eq-eqb, false, filter, find, get_or, inl, inr, length, not, option_to_list}
use Rattle.std.proofs.Common.{refl, subst, suc, sym, true, ⊎_elim, []}
use Rattle.std.specs.Prelude.{if◌then◌else◌, ◌<◌, Contains, option_and_then, option_map}
use Rattle.std.proofs.lemmas.Bool.{false_from_ne_true}
use Rattle.std.proofs.lemmas.List.Kept.{AllPairs-cons, AllPairs-filter}
use Rattle.std.proofs.lemmas.Option.{same_Some}
use Rattle.cmwq_lemmas.proofs.Members.{In, contained_in, filter_in, in_append, in_contained, in_filter, in_left}
use Rattle.cmwq_lemmas.proofs.Members.{in_option, in_right, option_in}
unfoldable use Rattle.cmwq_model.specs.Prelude.{IsLegal, is_asleep, queueings}
use Rattle.cmwq_model.specs.Prelude.{Layout, asleep_after, has_number, is_by, item_at, item_of}
use Rattle.cmwq_model.specs.Prelude.{opens, place_wanted, queued_at, queueing_at, run, same_who}
use Rattle.cmwq_model.specs.Prelude.{ticket_in, unended_tickets, worker_of}
use Rattle.cmwq_model.specs.declared.entry.Entry.{Entry}
use Rattle.cmwq_model.specs.declared.id.CallerId.{CallerId}
use Rattle.cmwq_model.specs.declared.id.Who.{Who}
use Rattle.cmwq_model.specs.declared.id.Who.TheVariants.{Caller, Worker}
use Rattle.cmwq_model.specs.declared.id.WorkerId.{WorkerId}
use Rattle.cmwq_model.specs.declared.record.Queueing.{Queueing}
use Rattle.cmwq_model.specs.declared.record.Ticket.{Ticket}
use Rattle.cmwq_model.specs.declared.reply.Reply.{Reply}
use Rattle.cmwq_model.specs.declared.reply.Reply.TheVariants as reply
use Rattle.cmwq_theory_steps.specs.ItemQueueings.{queueing_run}
use Rattle.cmwq_theory_steps.specs.RunSteps.{run_after}
use Rattle.cmwq_theory_steps.specs.TicketSteps.{is_ended_by, is_kept, ticket_ended}
use Rattle.cmwq_theory_steps.proofs.ItemRuns.{same_worker-true, same_worker_itself}
use Rattle.cmwq_theory_steps.proofs.RunSteps.{workers_run_on}
use Rattle.cmwq_theory_steps.proofs.RunsActive.{found_known, found_number}
use Rattle.cmwq_theory_steps.proofs.StartsListed.{queueing_at-older}
use Rattle.cmwq_theory_steps.proofs.TicketSteps.{one_ticket_ends, unended_go_on}
use Rattle.cmwq_waits.specs.Refused.{AreApart}
use Rattle.cmwq_waits.specs.Registered.{is_for, is_run_of}
use Rattle.cmwq_waits.specs.declared.run_wait.RunWait.{RunWait}
use Rattle.cmwq_waits.proofs.Running.{is_running}
use Rattle.cmwq_waits.proofs.Greatest.{later_apart}
use Rattle.cmwq_waits.proofs.Held.{both}
use Rattle.cmwq_waits.proofs.Loops.{at_place}
unfoldable use Rattle.cmwq_waits.specs.Begun.{waits_of}
use Rattle.cmwq_waits.specs.Begun.{IsAsleepFor, WaitsAreApart}
use Rattle.cmwq_waits.specs.Begun.{WaitsAreAsleep, WaitsAreWaiting, is_lent, is_sleep, laid, sleeper, wait_begun}
use Rattle.cmwq_waits.specs.Begun.{wait_by, waits_on}

-- ---- what a pair is made of

wait_parts : (o : Option Queueing) (t : Option Ticket) (w : RunWait) → wait_by o t ≡ Some w
    → (o ≡ Some w.run) × (t ≡ Some w.ticket)
wait_parts None t w is = absurd (cc is)
wait_parts (Some x) None w is = absurd (cc is)
wait_parts (Some x) (Some t) w is =
    let same = same_Some (record { run = x; ticket = t }) w is in
    (ap (λ (v : RunWait). Some v.run) same, ap (λ (v : RunWait). Some v.ticket) same)

pub record IsBegun (first : ℕ) (past : List Entry) (e : Entry) (w : RunWait) : Type 0 where
  pub lent : is_lent first e.who ≡ true
  pub lies : laid past ≡ Some w.run
  pub given : ticket_in e (length past) ≡ Some w.ticket

pub begun_is : (first : ℕ) (past : List Entry) (e : Entry) (w : RunWait) → wait_begun first past e ≡ Some w
    → IsBegun first past e w
begun_is first past e w is = by (is_lent first e.who) refl is
  where
    by : (b : Bool) → is_lent first e.who ≡ b
        → (if b then wait_by (laid past) (ticket_in e (length past)) else None) ≡ Some w → IsBegun first past e w
    by false other h = absurd (cc h)
    by true lent h =
        let parts = wait_parts (laid past) (ticket_in e (length past)) w h in
        record { lent = lent; lies = parts.0; given = parts.1 }

-- the worker that fell asleep
pub record IsLaid (past : List Entry) (x : Queueing) : Type 0 where
  pub worker : WorkerId
  pub sleeps : sleeper past ≡ Some worker
  pub runs : queueing_run past (Worker worker) ≡ Some x

pub laid_is : (past : List Entry) (x : Queueing) → laid past ≡ Some x → IsLaid past x
laid_is past x lies = by (sleeper past) refl lies
  where
    by : (o : Option WorkerId) → sleeper past ≡ o
        → option_and_then (λ (w : WorkerId). queueing_run past (Worker w)) o ≡ Some x → IsLaid past x
    by None none h = absurd (cc h)
    by (Some w) is h = record { worker = w; sleeps = is; runs = h }

its_worker : (who : Who) (w : WorkerId) → worker_of who ≡ Some w → who ≡ Worker w
its_worker (Caller c) w is = absurd (cc is)
its_worker (Worker v) w is = ap Worker (same_Some v w is)

pub record IsOfSleep (e : Entry) (w : WorkerId) : Type 0 where
  pub by_worker : e.who ≡ Worker w
  pub slept : is_sleep e.reply ≡ true

pub sleep_is : (e : Entry) (w : WorkerId) → (if is_sleep e.reply then worker_of e.who else None) ≡ Some w
    → IsOfSleep e w
sleep_is e w is = by (is_sleep e.reply) refl is
  where
    by : (b : Bool) → is_sleep e.reply ≡ b → (if b then worker_of e.who else None) ≡ Some w → IsOfSleep e w
    by false other h = absurd (cc h)
    by true slept h = record { by_worker = its_worker e.who w h; slept = slept }

pub slept_is : (r : Reply) → is_sleep r ≡ true → r ≡ reply.Slept
slept_is reply.Slept is = refl
slept_is r is = grind (arith, is)

by_itself : (e : Entry) (w : WorkerId) → e.who ≡ Worker w → is_by (Worker w) e ≡ true
by_itself e w is = ap (λ (who : Who). same_who who (Worker w)) is ∙ same_worker_itself w

sleeper_asleep : (past : List Entry) (w : WorkerId) → sleeper past ≡ Some w → is_asleep past w ≡ true
unfolding is_asleep
sleeper_asleep [] w is = absurd (cc is)
sleeper_asleep (e ∷ past) w is =
    let k = sleep_is e w is in
    ap (λ b. if b then asleep_after e.reply (is_asleep past w) else is_asleep past w) (by_itself e w k.by_worker)
    ∙ ap (λ r. asleep_after r (is_asleep past w)) (slept_is e.reply k.slept)

pub lent_is : (first : ℕ) (who : Who) → is_lent first who ≡ true → (c : CallerId) × (who ≡ Caller c)
lent_is first (Caller c) lent = (c, refl)
lent_is first (Worker w) lent = absurd (cc lent)

lent_not_by : (first : ℕ) (e : Entry) (w : WorkerId) → is_lent first e.who ≡ true → is_by (Worker w) e ≡ false
lent_not_by first e w lent =
    let c = lent_is first e.who lent in ap (λ (who : Who). same_who who (Worker w)) c.1

-- ---- entries of others

run_kept : (s : Layout) (past : List Entry) (e : Entry) (w : WorkerId) (x : Queueing) → IsLegal s (e ∷ past)
    → is_by (Worker w) e ≡ false → queueing_run past (Worker w) ≡ Some x → queueing_run (e ∷ past) (Worker w) ≡ Some x
run_kept s past e w x legal other runs = by (run past w) refl runs
  where
    same : run (e ∷ past) w ≡ run past w
    same = workers_run_on s past e w legal ∙ ap (λ b. if b then run_after e.reply (run past w) else run past w) other

    by : (o : Option ℕ) → run past w ≡ o → option_and_then (queueing_at past) o ≡ Some x
        → queueing_run (e ∷ past) (Worker w) ≡ Some x
    by None none h = absurd (cc h)
    by (Some n) is h = ap (option_and_then (queueing_at (e ∷ past))) (same ∙ is) ∙ queueing_at-older e past n x h

asleep_kept : (past : List Entry) (e : Entry) (w : WorkerId) → is_by (Worker w) e ≡ false → is_asleep past w ≡ true
    → is_asleep (e ∷ past) w ≡ true
unfolding is_asleep
asleep_kept past e w other asleep =
    ap (λ b. if b then asleep_after e.reply (is_asleep past w) else is_asleep past w) other ∙ asleep

goes_on : (b : Bool) → (b ≡ false → ⊥) → b ≡ true
goes_on true fails = refl
goes_on false fails = absurd (fails refl)

unended_kept : (s : Layout) (past : List Entry) (e : Entry) (w : RunWait) → IsLegal s (e ∷ past)
    → is_for (ticket_ended past e) w ≡ false → Contains (unended_tickets past) w.ticket
    → Contains (unended_tickets (e ∷ past)) w.ticket
unended_kept s past e w legal other here =
    in_contained (unended_tickets (e ∷ past)) w.ticket
    (subst (In w.ticket) (sym (unended_go_on s past e legal))
    (in_left (filter (is_kept e) (unended_tickets past)) (option_to_list (ticket_in e (length past))) w.ticket
    (filter_in (is_kept e) (unended_tickets past) w.ticket (contained_in (unended_tickets past) w.ticket here) stays)))
  where
    stays : is_kept e w.ticket ≡ true
    stays = goes_on (is_kept e w.ticket)
        (λ fails. let ends_it : is_ended_by e w.ticket ≡ true = grind (arith, fails) in
        let there =
        filter_in (is_ended_by e) (unended_tickets past) w.ticket (contained_in (unended_tickets past) w.ticket here)
        ends_it in
        let is = in_option (ticket_ended past e) w.ticket (subst (In w.ticket) (one_ticket_ends past e) there) in
        cc (sym other ∙ (ap (λ o. is_for o w) is ∙ eq-eqb w.ticket.number w.ticket.number refl)))

-- ---- those who wait are asleep

still_asleep : (s : Layout) (past : List Entry) (e : Entry) (w : RunWait) → IsLegal s (e ∷ past)
    → waits_on past e w ≡ true → IsAsleepFor past w → IsAsleepFor (e ∷ past) w
still_asleep s past e w legal on was =
    let parts = both (not (is_run_of (queueing_run past e.who) w)) (not (is_for (ticket_ended past e) w)) on in
    let ticket : is_for (ticket_ended past e) w ≡ false = let other = parts.1 in grind arith in
    let run_on : is_run_of (queueing_run past e.who) w ≡ false = let other = parts.0 in grind arith in
    let other : is_by (Worker was.worker) e ≡ false =
    false_from_ne_true _ (λ its. absurd (cc (sym run_on ∙ own its))) in
    record {
      worker = was.worker;
      runs = run_kept s past e was.worker w.run legal other was.runs;
      asleep = asleep_kept past e was.worker other was.asleep;
      unended = unended_kept s past e w legal ticket was.unended;
    }
  where
    who_is : (who : Who) → same_who who (Worker was.worker) ≡ true → who ≡ Worker was.worker
    who_is (Caller c) is = absurd (cc is)
    who_is (Worker v) is = ap Worker (same_worker-true v was.worker is)

    own : is_by (Worker was.worker) e ≡ true → is_run_of (queueing_run past e.who) w ≡ true
    own its = ap (λ (who : Who). is_run_of (queueing_run past who) w) (who_is e.who its)
        ∙ ap (λ o. is_run_of o w) was.runs
        ∙ eq-eqb w.run.number w.run.number refl

begun_asleep : (first : ℕ) (s : Layout) (past : List Entry) (e : Entry) (w : RunWait) → IsLegal s (e ∷ past)
    → IsBegun first past e w → IsAsleepFor (e ∷ past) w
begun_asleep first s past e w legal is =
    let k = laid_is past w.run is.lies in
    let other = lent_not_by first e k.worker is.lent in
    record {
      worker = k.worker;
      runs = run_kept s past e k.worker w.run legal other k.runs;
      asleep = asleep_kept past e k.worker other (sleeper_asleep past k.worker k.sleeps);
      unended = in_contained (unended_tickets (e ∷ past)) w.ticket
          (subst (In w.ticket) (sym (unended_go_on s past e legal))
          (in_right (filter (is_kept e) (unended_tickets past)) (option_to_list (ticket_in e (length past))) w.ticket
          (option_in (ticket_in e (length past)) w.ticket is.given)));
    }

pub in_waits : (first : ℕ) (s : Layout) (past : List Entry) → IsLegal s past → (w : RunWait)
    → In w (waits_of first past)
    → IsAsleepFor past w
unfolding waits_of IsLegal
in_waits first s [] legal w here = absurd here
in_waits first s (e ∷ past) legal w here =
    ⊎_elim (λ old. let k = in_filter (waits_on past e) (waits_of first past) w old in
    still_asleep s past e w legal k.1 (in_waits first s past legal.2 w k.0))
    (λ new. begun_asleep first s past e w legal
    (begun_is first past e w (in_option (wait_begun first past e) w new)))
    (in_append (filter (waits_on past e) (waits_of first past)) (option_to_list (wait_begun first past e)) w here)

pub waits_are_asleep : WaitsAreAsleep
waits_are_asleep first s past legal w here = in_waits first s past legal w (contained_in (waits_of first past) w here)

pub waits_are_waiting : WaitsAreWaiting
waits_are_waiting first s past legal w here =
    let k = waits_are_asleep first s past legal w here in
    let r = is_running s past k.worker w.run legal k.runs in
    record { is_open = r.is_open; has_started = r.has_started; is_unended = k.unended }

-- ---- apart

apart_one : (ws : List RunWait) (w : RunWait) → AreApart ws → ((v : RunWait) → In v ws → v.run.number ≡ w.run.number
    → ⊥)
    → AreApart (ws ++ w ∷ [])
apart_one [] w apart other = λ i j d less within. absurd (omega arith)
apart_one (u ∷ us) w apart other =
    AllPairs-cons (λ (v x : RunWait). v.run.number ≡ x.run.number → ⊥) u (us ++ w ∷ [])
    (λ k d within. begins k d within)
    (apart_one us w (λ i j d less within. apart (suc i) (suc j) d (omega arith) (omega arith))
    (λ v here same. other v (inr here) same))
  where
    begins : (k : ℕ) (d : RunWait) → k < length (us ++ w ∷ [])
        → u.run.number ≡ (get_or (us ++ w ∷ []) k d).run.number → ⊥
    begins k d within same =
        let x = get_or (us ++ w ∷ []) k d in
        ⊎_elim (λ (old : In x us). later_apart u x us apart old same)
        (λ (new : In x (w ∷ [])). ⊎_elim
        (λ (is : w ≡ x). other u (inl refl) (same ∙ ap (λ (v : RunWait). v.run.number) (sym is)))
        (λ none. absurd none) new)
        (in_append us (w ∷ []) x (contained_in (us ++ w ∷ []) x (at_place (us ++ w ∷ []) k d within)))

-- a sleep changes nothing of what its worker runs
same_if : {A : Type 0} (b : Bool) (x : A) → (if b then x else x) ≡ x
same_if true x = refl
same_if false x = refl

sleep_queueings : (past : List Entry) (e : Entry) → e.reply ≡ reply.Slept → queueings (e ∷ past) ≡ queueings past
unfolding queueings
sleep_queueings past e slept =
    ap (λ (o : Option Queueing). queueings past ++ option_to_list o)
    (ap (λ r. if opens r then option_and_then (λ i. option_map (queued_at past i) (place_wanted past e.call i))
    (item_of e)
    else None) slept)
    ∙ append-nil (queueings past)

pub sleep_runs : (s : Layout) (past : List Entry) (e : Entry) (w : WorkerId) → IsLegal s (e ∷ past)
    → e.reply ≡ reply.Slept
    → queueing_run (e ∷ past) (Worker w) ≡ queueing_run past (Worker w)
sleep_runs s past e w legal slept =
    ap₂ (λ (o : Option ℕ) (qs : List Queueing). option_and_then (λ n. find (has_number n) qs) o)
    (workers_run_on s past e w legal
    ∙ ap (λ r. if is_by (Worker w) e then run_after r (run past w) else run past w) slept
    ∙ same_if (is_by (Worker w) e) (run past w)) (sleep_queueings past e slept)

-- whoever fell asleep just now does not wait yet
own_runs : (past : List Entry) (who : Who) (w : WorkerId) (x : Queueing) (v : RunWait) → who ≡ Worker w
    → queueing_run past (Worker w) ≡ Some x → v.run.number ≡ x.number → is_run_of (queueing_run past who) v ≡ true
own_runs past who w x v is runs same =
    ap (λ (u : Who). is_run_of (queueing_run past u) v) is ∙ ap (λ o. is_run_of o v) runs
    ∙ eq-eqb v.run.number x.number same

pub workers_begin_none : (first : ℕ) (past : List Entry) (e : Entry) (w : WorkerId) → e.who ≡ Worker w
    → wait_begun first past e ≡ None
workers_begin_none first past e w is =
    ap (λ (who : Who). if is_lent first who then wait_by (laid past) (ticket_in e (length past)) else None) is

pub sleeper_does_not : (first : ℕ) (s : Layout) (past : List Entry) (x : Queueing) (v : RunWait) → IsLegal s past
    → laid past ≡ Some x → In v (waits_of first past) → v.run.number ≡ x.number → ⊥
unfolding waits_of IsLegal
sleeper_does_not first s [] x v legal lies here same = here
sleeper_does_not first s (e ∷ past) x v legal lies here same =
    let k = laid_is (e ∷ past) x lies in
    let sleep = sleep_is e k.worker k.sleeps in
    let before = sym (sleep_runs s past e k.worker legal (slept_is e.reply sleep.slept)) ∙ k.runs in
    ⊎_elim (λ old. let on = (in_filter (waits_on past e) (waits_of first past) v old).1 in
    let parts = both (not (is_run_of (queueing_run past e.who) v)) (not (is_for (ticket_ended past e) v)) on in
    let own = own_runs past e.who k.worker x v sleep.by_worker before same in
    absurd (cc (sym (ap not own) ∙ parts.0)))
    (λ new. absurd (cc (sym (workers_begin_none first past e k.worker sleep.by_worker)
    ∙ in_option (wait_begun first past e) v new)))
    (in_append (filter (waits_on past e) (waits_of first past)) (option_to_list (wait_begun first past e)) v here)

by_begun : (first : ℕ) (s : Layout) (past : List Entry) (e : Entry) → IsLegal s (e ∷ past)
    → AreApart (filter (waits_on past e) (waits_of first past))
    → AreApart (filter (waits_on past e) (waits_of first past) ++ option_to_list (wait_begun first past e))
unfolding IsLegal
by_begun first s past e legal apart = by (wait_begun first past e) refl
  where
    by : (o : Option RunWait) → wait_begun first past e ≡ o
        → AreApart (filter (waits_on past e) (waits_of first past) ++ option_to_list o)
    by None none = subst AreApart (sym (append-nil (filter (waits_on past e) (waits_of first past)))) apart
    by (Some w) is =
        apart_one (filter (waits_on past e) (waits_of first past)) w apart
        (λ v here same. sleeper_does_not first s past w.run v legal.2 (begun_is first past e w is).lies
        (in_filter (waits_on past e) (waits_of first past) v here).0 same)

pub waits_are_apart : WaitsAreApart
unfolding waits_of IsLegal
waits_are_apart first s [] legal = λ i j d less within. absurd (omega arith)
waits_are_apart first s (e ∷ past) legal =
    by_begun first s past e legal
    (AllPairs-filter (λ (v w : RunWait). v.run.number ≡ w.run.number → ⊥) (waits_on past e) (waits_of first past)
    (waits_are_apart first s past legal.2))

-- ---- what a worker that waits runs

pub record RunsBy (past : List Entry) (w : WorkerId) (x : Queueing) : Type 0 where
  pub runs : run past w ≡ Some x.number
  pub known : item_at past x.number ≡ Some x.item.0

pub runs_by : (past : List Entry) (w : WorkerId) (x : Queueing) → queueing_run past (Worker w) ≡ Some x
    → RunsBy past w x
runs_by past w x is = by (run past w) refl is
  where
    by : (o : Option ℕ) → run past w ≡ o → option_and_then (queueing_at past) o ≡ Some x → RunsBy past w x
    by None none h = absurd (cc h)
    by (Some n) runs h = record {
      runs = runs ∙ ap Some (sym (found_number past n x h));
      known = (found_known past n x h).item;
    }
