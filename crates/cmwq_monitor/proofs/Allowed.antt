-- Each wait that began was allowed, before and after a step.
use Rattle.std.specs.Prelude.{◌||◌, option_and_then}
use Rattle.cmwq_monitor.specs.Common.{◌≡◌, ◌++◌, ◌∙◌, ◌∷◌, Bool, Call, Caller, Entry, History, IsLegal, Layout, List}
use Rattle.cmwq_monitor.specs.Common.{None, Queueing, Who, Worker, [], ap, arith, entry_for, false, gives_ticket}
use Rattle.cmwq_monitor.specs.Common.{past_of, refl, subst, sym, true, true≢false, ℕ}
unfoldable use Rattle.cmwq_monitor.specs.Common.{answer}
use Rattle.cmwq_core.specs.History.{with_entry}
use Rattle.cmwq_model.specs.declared.call.Call.TheVariants as call
use Rattle.cmwq_model.proofs.Growing.{one_more_is_newest}
use Rattle.cmwq_theory_steps.specs.ItemQueueings.{queueing_run}
use Rattle.cmwq_waits.specs.Allowed.{BeginsAllowed, WaitsWereAllowed}
use Rattle.cmwq_waits.specs.Begun.{is_lent, waits_of}
use Rattle.cmwq_waits.specs.Refused.{refusal}
use Rattle.cmwq_waits.proofs.Allowed.{after_sleep_allowed, ticketless_begins_allowed, unlent_begins_allowed}
use Rattle.cmwq_dispatch.specs.Dispatched.{Dispatched}
use Rattle.cmwq_monitor.specs.Calls.{own_entry}
use Rattle.cmwq_monitor.specs.Held.{Held, IsOpenTo, is_shut_to, refusal_after, refusal_at}
use Rattle.cmwq_monitor.specs.Participants.{View, is_caller}
use Rattle.cmwq_monitor.specs.Steps.{MayBegin}

-- ---- which entries begin no wait

not_or : (a b : Bool) → (a || b) ≡ false → b ≡ false
not_or true b h = absurd (true≢false h)
not_or false b h = h

unlent_if_open : (h : Held) (who : Who) → is_shut_to h who ≡ false → is_lent h.first_lent who ≡ false
unlent_if_open h (Caller c) takes = not_or h.closed (is_lent h.first_lent (Caller c)) takes
unlent_if_open h (Worker w) takes = refl

-- those of one whose calls it takes
pub open_may_begin : (s : Layout) (h : Held) (v : View) (c : Call) → IsOpenTo h v.who → MayBegin s h v c
open_may_begin s h v c takes =
    unlent_begins_allowed h.first_lent s (past_of h.history) (own_entry s h.history v c)
    (unlent_if_open h v.who takes.1)

worker_unlent : (first : ℕ) (who : Who) → is_caller who ≡ false → is_lent first who ≡ false
worker_unlent first (Caller c) is = absurd (true≢false is)
worker_unlent first (Worker w) is = refl

pub worker_may_begin : (s : Layout) (h : Held) (v : View) (c : Call) → is_caller v.who ≡ false → MayBegin s h v c
worker_may_begin s h v c is =
    unlent_begins_allowed h.first_lent s (past_of h.history) (own_entry s h.history v c)
    (worker_unlent h.first_lent v.who is)

-- fires, and the ends of tickets
fire_gives_none : (s : Layout) (past : List Entry) (who : Who) → gives_ticket (entry_for s past who call.Fire).reply
    ≡ false
unfolding answer
fire_gives_none s past who = grind arith

end_gives_none : (s : Layout) (past : List Entry) (who : Who) (n : ℕ)
    → gives_ticket (entry_for s past who (call.End n)).reply ≡ false
unfolding answer
end_gives_none s past who n = grind arith

pub fire_may_begin : (s : Layout) (h : Held) (v : View) → MayBegin s h v call.Fire
fire_may_begin s h v =
    ticketless_begins_allowed h.first_lent s (past_of h.history) (own_entry s h.history v call.Fire)
    (fire_gives_none s (past_of h.history) v.who)

pub end_may_begin : (s : Layout) (h : Held) (v : View) (n : ℕ) → MayBegin s h v (call.End n)
end_may_begin s h v n =
    ticketless_begins_allowed h.first_lent s (past_of h.history) (own_entry s h.history v (call.End n))
    (end_gives_none s (past_of h.history) v.who n)

-- ---- after a step

-- an entry was made
pub allowed_after : (s : Layout) (d new : Dispatched) (e : Entry) → new.history ≡ with_entry d.history e
    → new.first_lent ≡ d.first_lent → BeginsAllowed d.first_lent s (past_of d.history.entries) e
    → WaitsWereAllowed d.first_lent s (past_of d.history.entries)
    → WaitsWereAllowed new.first_lent s (past_of new.history.entries)
allowed_after s d new e made first begins all =
    subst (λ (n : ℕ). WaitsWereAllowed n s (past_of new.history.entries)) (sym first)
    (subst (WaitsWereAllowed d.first_lent s)
    (sym (ap (λ (h : History). past_of h.entries) made ∙ one_more_is_newest d.history.entries e)) (begins, all))

-- the history is as it was
pub allowed_still : (s : Layout) (d new : Dispatched) → new.history ≡ d.history → new.first_lent ≡ d.first_lent
    → WaitsWereAllowed d.first_lent s (past_of d.history.entries)
    → WaitsWereAllowed new.first_lent s (past_of new.history.entries)
allowed_still s d new same first all =
    subst (λ (n : ℕ). WaitsWereAllowed n s (past_of new.history.entries)) (sym first)
    (subst (λ (h : History). WaitsWereAllowed d.first_lent s (past_of h.entries)) (sym same) all)

-- ---- a run falls asleep

refusal_free : (s : Layout) (first : ℕ) (log : List Entry) (who : Who) (c : Call)
    → refusal_after s first log who c ≡ None
    → option_and_then (λ (x : Queueing). refusal s (past_of log) (waits_of first (past_of log)) x c)
    (queueing_run (past_of log) who) ≡ None
refusal_free s first log (Caller k) c free = refl
refusal_free s first log (Worker w) c free = free

-- Its wait was not refused. So the next entry may begin it.
pub sleep_may_begin : (s : Layout) (old new : Held) (v w u : View) (c : Call) → refusal_at s old v.who c ≡ None
    → new.first_lent ≡ old.first_lent → w.seen ≡ old.history ++ own_entry s old.history v call.Sleep ∷ []
    → new.history ≡ w.seen → IsLegal s (past_of w.seen) → MayBegin s new u c
sleep_may_begin s old new v w u c free first seen all legal =
    let e = own_entry s old.history v call.Sleep in
    let past : past_of w.seen ≡ e ∷ past_of old.history = ap past_of seen ∙ one_more_is_newest old.history e in
    let next = own_entry s new.history u c in
    subst (λ (n : ℕ). BeginsAllowed n s (past_of new.history) next) (sym first)
    (subst (λ (p : List Entry). BeginsAllowed old.first_lent s p next) (sym (ap past_of all ∙ past))
    (after_sleep_allowed old.first_lent s (past_of old.history) e next (subst (IsLegal s) past legal)
    (refusal_free s old.first_lent old.history v.who c free)))
