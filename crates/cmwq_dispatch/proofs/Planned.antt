-- What the ends of tickets and the starts of workers would be.
use Rattle.cmwq_theory_steps.specs.Common.{◌≡◌, ◌≤◌, ◌<◌, ℕ, Bool, true, false, ◌&&◌, ◌∷◌, Option, Some, None, refl}
use Rattle.cmwq_theory_steps.specs.Common.{sym, ap, ◌∙◌, arith, is_some, nat_lt, IsTrue, fits, is_done}
use Rattle.cmwq_theory_steps.specs.Common.{number_started, answer, ticket_of, waits_for, waiting_for, end_of_ticket}
use Rattle.cmwq_theory_steps.specs.Common.{room_needed, Layout, IsLegal, Entry, Ticket, Who, Caller, Worker, Call}
use Rattle.cmwq_theory_steps.specs.Common.{Reply}
use Rattle.cmwq_theory_steps.specs.Common.{CallerId, WorkerId}
use Rattle.std.specs.Cmp.Derive.{both_true}
use Rattle.std.proofs.lemmas.Bool.{both_ways, le-leb, lt-ltb}
use Rattle.cmwq_model.specs.declared.call.Call.TheVariants as call
use Rattle.cmwq_model.specs.declared.reply.Reply.TheVariants as reply
use Rattle.cmwq_core.specs.History.{History, next_entry, past_in, takes}
use Rattle.cmwq_core.specs.Plans.{IsPlan}
use Rattle.cmwq_core.specs.declared.plan.Plan.{Plan}
use Rattle.cmwq_state.specs.Tables.{IsThere}
use Rattle.cmwq_theory_laws.proofs.WithinRoom.{promised_have_time}
use Rattle.cmwq_theory_steps.proofs.Promised.{promised_need_no_more}
use Rattle.cmwq_theory_steps.specs.RoomSteps.{is_promised}
use Rattle.cmwq_theory_wakes.specs.Starting.{would_start}
use Rattle.cmwq_theory_wakes.proofs.Starting.{idle_start_alike}

pub caller_fits : (s : Layout) (c : CallerId) (n : ℕ) → c.0 < s.callers → IsTrue (fits s (Caller c) (call.End n))
caller_fits s c n there = ap (λ a. (a && true) && true) (lt-ltb c.0 s.callers there)

pub worker_fits : (s : Layout) (w : WorkerId) → IsThere s (Worker w) → IsTrue (fits s (Worker w) call.Take)
worker_fits s w there =
    ap (λ a. (a && nat_lt w.index s.workers && true) && true) (lt-ltb w.pool.cpu.0 s.cpus there.0)
    ∙ ap (λ a. (a && true) && true) (lt-ltb w.index s.workers there.1)

-- a promised reply has room, so a call for which there is none would not get it
unpromised : (h : History) (who : Who) (c : Call) (b : Bool) → IsTrue (fits h.layout who c)
    → IsLegal h.layout (past_in h) → room_needed h.layout (past_in h) ≤ h.room → takes h who c ≡ false
    → is_promised (next_entry h who c).reply ≡ b → b ≡ false
unfolding IsLegal
unpromised h who c false fit legal within full is = refl
unpromised h who c true fit legal within full is =
    let e = next_entry h who c in
    let more : room_needed h.layout (e ∷ past_in h) ≤ room_needed h.layout (past_in h) =
    promised_need_no_more h.layout (past_in h) e (fit, refl, legal) is in
    let taken : takes h who c ≡ true =
    both_true (promised_have_time h.layout (past_in h) who c is)
    (le-leb (room_needed h.layout (e ∷ past_in h)) h.room (omega arith)) in
    absurd (both_ways _ full taken)

start_is_promised : (r : Reply) → is_promised r ≡ false → is_some (number_started r) ≡ false
start_is_promised (reply.Started n) h = cc
start_is_promised (reply.StartedEnlist n x) h = cc
start_is_promised r h = refl

done_is_promised : (r : Reply) → is_promised r ≡ false → is_done r ≡ false
done_is_promised reply.Done h = cc
done_is_promised r h = refl

-- where there is no room for a take, it would start nothing
pub full_starts_none : (h : History) (w : WorkerId) → IsThere h.layout (Worker w) → IsLegal h.layout (past_in h)
    → room_needed h.layout (past_in h) ≤ h.room → takes h (Worker w) call.Take ≡ false
    → would_start h.layout (past_in h) w ≡ false
full_starts_none h w there legal within full =
    sym (idle_start_alike h.layout (past_in h) w)
    ∙ start_is_promised _ (unpromised h (Worker w) call.Take _ (worker_fits h.layout w there) legal within full refl)

-- and where one is answered otherwise
pub planned_starts_none : (h : History) (w : WorkerId) (p : Plan) → IsPlan h (Worker w) call.Take p
    → is_some (number_started p.mark.entry.reply) ≡ false → would_start h.layout (past_in h) w ≡ false
planned_starts_none h w p is starts =
    sym (idle_start_alike h.layout (past_in h) w)
    ∙ (ap (λ (e : Entry). is_some (number_started e.reply)) (sym is.mark.is_next) ∙ starts)

-- the end of a ticket that waits for nothing is done
pub end_is_done : (h : History) (c : CallerId) (n : ℕ) (t : Ticket) → ticket_of (past_in h) (Caller c) n ≡ Some t
    → is_some (waits_for (past_in h) t.number t.call) ≡ false
    → is_done (next_entry h (Caller c) (call.End n)).reply ≡ true
unfolding answer
end_is_done h c n t of free =
    ap (λ o. is_done (end_of_ticket (past_in h) o)) of ∙ at (waits_for (past_in h) t.number t.call) free
  where
    at : (o : Option ℕ) → is_some o ≡ false → is_done (waiting_for o) ≡ true
    at None k = refl
    at (Some m) k = cc

-- so there is room for it
pub ready_has_room : (h : History) (c : CallerId) (n : ℕ) (t : Ticket) → c.0 < h.layout.callers
    → IsLegal h.layout (past_in h) → room_needed h.layout (past_in h) ≤ h.room
    → ticket_of (past_in h) (Caller c) n ≡ Some t → is_some (waits_for (past_in h) t.number t.call) ≡ false
    → takes h (Caller c) (call.End n) ≡ false → ⊥
ready_has_room h c n t there legal within of free full =
    both_ways _
    (done_is_promised _ (unpromised h (Caller c) (call.End n) _
    (caller_fits h.layout c n there) legal within full refl))
    (end_is_done h c n t of free)
