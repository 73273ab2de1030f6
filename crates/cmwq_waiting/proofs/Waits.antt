-- The waits of a history, from entry to entry.
use Rattle.std.proofs.Common.{◌≡◌, ◌∙◌, ◌∷◌, ◌++◌, ◌==◌, Bool, List, None, Option, Some, ℕ, ap, append-nil, ap₂, arith}
use Rattle.std.proofs.Common.{eqb-true, false, filter, length, not, option_to_list}
use Rattle.std.proofs.Common.{refl, subst, sym, true}
use Rattle.std.specs.Prelude.{if◌then◌else◌, ◌&&◌, option_and_then}
use Rattle.std.proofs.lemmas.Bool.{false_from_ne_true}
use Rattle.cmwq_lemmas.proofs.Lists.{filter_all}
use Rattle.cmwq_lemmas.proofs.Members.{In, all_in}
unfoldable use Rattle.cmwq_model.specs.Prelude.{IsLegal, is_asleep}
use Rattle.cmwq_model.specs.Prelude.{Layout, gives_ticket, is_done, item_at}
use Rattle.cmwq_model.specs.Prelude.{runs_awake, ticket_for}
use Rattle.cmwq_model.specs.Prelude.{ticket_in, worker_of}
use Rattle.cmwq_model.specs.declared.entry.Entry.{Entry}
use Rattle.cmwq_model.specs.declared.id.Who.{Who}
use Rattle.cmwq_model.specs.declared.id.Who.TheVariants.{Worker}
use Rattle.cmwq_model.specs.declared.id.WorkerId.{WorkerId}
use Rattle.cmwq_model.specs.declared.record.Queueing.{Queueing}
use Rattle.cmwq_model.specs.declared.record.Ticket.{Ticket}
use Rattle.cmwq_model.specs.declared.reply.Reply.{Reply}
use Rattle.cmwq_model.specs.declared.reply.Reply.TheVariants as reply
use Rattle.cmwq_theory_steps.specs.ItemQueueings.{queueing_run}
use Rattle.cmwq_theory_steps.specs.TicketSteps.{ticket_asked}
use Rattle.cmwq_theory_steps.proofs.Causes.{cause_of}
use Rattle.cmwq_theory_steps.proofs.ItemRuns.{one_worker}
use Rattle.cmwq_theory_steps.proofs.Reasons.{sleep_reason}
use Rattle.cmwq_waits.specs.Refused.{is_other}
use Rattle.cmwq_waits.specs.Registered.{is_for, is_run_of}
use Rattle.cmwq_waits.specs.declared.run_wait.RunWait.{RunWait}
unfoldable use Rattle.cmwq_waits.specs.Begun.{waits_of}
use Rattle.cmwq_waiting.specs.Waits.{EntriesGoOn, IsPair, PairsAddOne, SleepsAddNone}
use Rattle.cmwq_waits.specs.Begun.{is_sleep, laid, wait_begun}
use Rattle.cmwq_waits.specs.Begun.{wait_by, waits_on}
use Rattle.cmwq_waits.proofs.Begun.{in_waits, lent_is, runs_by, sleep_runs, sleeper_does_not, workers_begin_none}

-- ---- from entry to entry

pub entries_go_on : EntriesGoOn
unfolding waits_of
entries_go_on first past e none =
    ap (λ o. filter (waits_on past e) (waits_of first past) ++ option_to_list o) none ∙ append-nil _

-- ---- what takes none out

all_wait_on : (past : List Entry) (e : Entry) (ws : List RunWait) → ((v : RunWait) → In v ws → waits_on past e v ≡ true)
    → filter (waits_on past e) ws ≡ ws
all_wait_on past e ws on = filter_all (waits_on past e) ws (all_in (λ v. waits_on past e v ≡ true) ws on)

-- a worker that is awake has no run that waits
pub awake_does_not : (first : ℕ) (s : Layout) (past : List Entry) (w : WorkerId) (v : RunWait) → IsLegal s past
    → is_asleep past w ≡ false → In v (waits_of first past) → is_run_of (queueing_run past (Worker w)) v ≡ false
awake_does_not first s past w v legal awake here = by (queueing_run past (Worker w)) refl
  where
    by : (o : Option Queueing) → queueing_run past (Worker w) ≡ o → is_run_of o v ≡ false
    by None none = refl
    by (Some x) is = false_from_ne_true (v.run.number == x.number) (λ same.
        let number = eqb-true v.run.number x.number same in
        let sleeps = in_waits first s past legal v here in
        let a = runs_by past sleeps.worker v.run sleeps.runs in
        let b = runs_by past w x is in
        let worker =
        (one_worker s past sleeps.worker w v.run.number x.number x.item.0 legal a.runs b.runs
        (ap (item_at past) number ∙ b.known) b.known).0 in
        absurd (cc (sym sleeps.asleep ∙ (ap (is_asleep past) worker ∙ awake))))

asleep_of : (past : List Entry) (w : WorkerId) → runs_awake past w ≡ true → is_asleep past w ≡ false
asleep_of past w awake = let h = awake in grind arith

pub sleeps_add_none : SleepsAddNone
unfolding IsLegal
sleeps_add_none first s past e legal slept =
    let why = sleep_reason s past e.who e.call e.reply (cause_of s past e legal) slept in
    entries_go_on first past e (workers_begin_none first past e why.0 why.1)
    ∙ all_wait_on past e (waits_of first past)
    (λ v here. ap₂ (λ a b. not a && not b)
    (ap (λ (who : Who). is_run_of (queueing_run past who) v) why.1
    ∙ awake_does_not first s past why.0 v legal.2 (asleep_of past why.0 why.3) here)
    (ap (λ r. is_for (if is_done r then ticket_asked past e.who e.call else None) v) slept))

pub gives : (e : Entry) (n : ℕ) (t : Ticket) → ticket_in e n ≡ Some t → gives_ticket e.reply ≡ true
gives e n t is = by (gives_ticket e.reply) refl is
  where
    by : (b : Bool) → gives_ticket e.reply ≡ b → (if b then ticket_for e.who e.call n else None) ≡ Some t
        → gives_ticket e.reply ≡ true
    by true given h = given
    by false other h = absurd (cc h)

not_done : (r : Reply) → gives_ticket r ≡ true → is_done r ≡ false
not_done reply.Done gives = absurd (cc gives)
not_done r gives = grind arith

pub pair_runs : (first : ℕ) (s : Layout) (past : List Entry) (sleep call : Entry) (w : RunWait)
    → IsLegal s (sleep ∷ past) → (is : IsPair first past sleep call w)
    → queueing_run (sleep ∷ past) (Worker is.worker) ≡ Some w.run
pair_runs first s past sleep call w legal is = sleep_runs s past sleep is.worker legal is.slept ∙ is.runs

pub pair_lies : (first : ℕ) (s : Layout) (past : List Entry) (sleep call : Entry) (w : RunWait)
    → IsLegal s (sleep ∷ past) → IsPair first past sleep call w → laid (sleep ∷ past) ≡ Some w.run
pair_lies first s past sleep call w legal is =
    ap (option_and_then (λ (v : WorkerId). queueing_run (sleep ∷ past) (Worker v)))
    (ap₂ (λ r who. if is_sleep r then worker_of who else None) is.slept is.by_worker)
    ∙ pair_runs first s past sleep call w legal is

-- none of the others is its run's
pub others_than : (first : ℕ) (s : Layout) (past : List Entry) (sleep call : Entry) (w : RunWait)
    → IsLegal s (sleep ∷ past) → IsPair first past sleep call w
    → filter (is_other w.run.number) (waits_of first past) ≡ waits_of first past
others_than first s past sleep call w legal is =
    filter_all (is_other w.run.number) (waits_of first past)
    (all_in (λ v. is_other w.run.number v ≡ true) (waits_of first past)
    (λ v here. ap not (false_from_ne_true (v.run.number == w.run.number) (λ same.
    sleeper_does_not first s (sleep ∷ past) w.run v legal (pair_lies first s past sleep call w legal is)
    (subst (In v) (sym (sleeps_add_none first s past sleep legal is.slept)) here)
    (eqb-true v.run.number w.run.number same)))))

pub pairs_add_one : PairsAddOne
unfolding waits_of IsLegal
pairs_add_one first s past sleep call w legal is =
    ap₂ (λ (ws : List RunWait) (o : Option RunWait). ws ++ option_to_list o)
    (all_wait_on (sleep ∷ past) call (waits_of first (sleep ∷ past))
    (λ v here. ap₂ (λ a b. not a && not b) (not_its v)
    (ap (λ b. is_for (if b then ticket_asked (sleep ∷ past) call.who call.call else None) v)
    (not_done call.reply (gives call (length (sleep ∷ past)) w.ticket is.given))))
    ∙ sleeps_add_none first s past sleep legal.2 is.slept) begun
  where
    not_its : (v : RunWait) → is_run_of (queueing_run (sleep ∷ past) call.who) v ≡ false
    not_its v = let c = lent_is first call.who is.lent in
        ap (λ (who : Who). is_run_of (queueing_run (sleep ∷ past) who) v) c.1

    lies : laid (sleep ∷ past) ≡ Some w.run
    lies = pair_lies first s past sleep call w legal.2 is

    begun : wait_begun first (sleep ∷ past) call ≡ Some w
    begun = ap (λ b. if b then wait_by (laid (sleep ∷ past)) (ticket_in call (length (sleep ∷ past))) else None) is.lent
        ∙ ap₂ wait_by lies is.given
