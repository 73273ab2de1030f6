-- A run wakes if it sleeps. So a run that went to sleep for a wait sleeps no more once the wait has ended.
use Rattle.std.specs.Prelude.{◌≡◌, ◌≤◌, ◌&&◌, ◌∷◌, ℕ, Bool, true, false, Some, List}
use Rattle.std.specs.Prelude.{IsTrue, if◌then◌else◌, nat_lt}
use Rattle.std.specs.Cmp.Derive.{both_true}
use Rattle.std.proofs.Common.{refl, sym, ap, ap₂, ◌∙◌, subst, arith}
use Rattle.std.proofs.lemmas.Bool.{and_parts, le-leb}
use Rattle.cmwq_core.specs.History.{History, next_entry, past_in, takes, with_entry}
use Rattle.cmwq_dispatch.specs.Dispatched.{Dispatched, past_now}
use Rattle.cmwq_dispatch.specs.declared.wakes.Wakes.{Wakes}
use Rattle.cmwq_dispatch.proofs.Steady.{newest}
unfoldable use Rattle.cmwq_model.specs.Prelude.{IsLegal, answer, is_asleep}
use Rattle.cmwq_model.specs.Prelude.{Layout, asleep_after, fits, has_run, room_needed, runs_asleep}
use Rattle.cmwq_model.specs.declared.call.Call.TheVariants as call
use Rattle.cmwq_model.specs.declared.entry.Entry.{Entry}
use Rattle.cmwq_model.specs.declared.id.CallerId.{CallerId}
use Rattle.cmwq_model.specs.declared.id.Who.TheVariants.{Worker}
use Rattle.cmwq_model.specs.declared.id.WorkerId.{WorkerId}
use Rattle.cmwq_model.specs.declared.record.Ticket.{Ticket}
use Rattle.cmwq_model.specs.declared.reply.Reply.TheVariants as reply
use Rattle.cmwq_theory_laws.proofs.WithinRoom.{promised_have_time}
use Rattle.cmwq_theory_steps.specs.RoomSteps.{is_promised}
use Rattle.cmwq_theory_steps.proofs.ItemRuns.{same_worker_itself}
use Rattle.cmwq_theory_steps.proofs.Promised.{promised_need_no_more}
use Rattle.cmwq_board.specs.Boarded.{Boarded, layout_of, past_of_board}
use Rattle.cmwq_board.specs.Steps.{has_worker}
use Rattle.cmwq_board.specs.NewsAfter.{after_left}
use Rattle.cmwq_board.specs.Waits.{Ends, EndsAt, EndsLeft, EndsOrWaits, IsAwakeThen, IsWoken, MayEnterOf}
use Rattle.cmwq_board.specs.Waits.{SleepsNoMore, ThenClears, lending_at, sleeper, sleeper_at}
use Rattle.cmwq_board.specs.Waits.EndsLeft.{more, nothing}
use Rattle.cmwq_board.specs.declared.board.Ended.TheVariants.{Done}
use Rattle.cmwq_board.specs.declared.lending.Lending.{Lending}
use Rattle.cmwq_board.specs.declared.lending.Lending.TheVariants.{Free, Waits}
use Rattle.cmwq_board.proofs.Cores.{keeps_by_end}
use Rattle.cmwq_board.proofs.Ends.{Keeps, keeps_more, keeps_same}

-- ---- a run that sleeps wakes

woken_reply : (s : Layout) (past : List Entry) (w : WorkerId) → runs_asleep past w ≡ true
    → answer s past (Worker w) call.Wake ≡ reply.Woke
unfolding answer
woken_reply s past w asleep = ap (λ b. if b then reply.Woke else reply.Misuse) asleep

wake_fits : (s : Layout) (w : WorkerId) → has_worker s w ≡ true → IsTrue (fits s (Worker w) call.Wake)
wake_fits s w there =
    let parts = and_parts (nat_lt w.pool.cpu.0 s.cpus) (nat_lt w.index s.workers) there in
    ap₂ (λ a b. (a && b && true) && true) parts.0 parts.1

-- there is room for that
pub takes_wake : (h : History) (w : WorkerId) → has_worker h.layout w ≡ true → IsLegal h.layout (past_in h)
    → room_needed h.layout (past_in h) ≤ h.room → runs_asleep (past_in h) w ≡ true → takes h (Worker w) call.Wake ≡ true
unfolding IsLegal
takes_wake h w there legal within asleep =
    let e = next_entry h (Worker w) call.Wake in
    let promised : is_promised e.reply ≡ true = ap is_promised (woken_reply h.layout (past_in h) w asleep) in
    let needed : room_needed h.layout (e ∷ past_in h) ≤ room_needed h.layout (past_in h) =
    promised_need_no_more h.layout (past_in h) e (wake_fits h.layout w there, refl, legal) promised in
    both_true (promised_have_time h.layout (past_in h) (Worker w) call.Wake promised)
    (le-leb (room_needed h.layout (e ∷ past_in h)) h.room (omega arith))

-- and then it sleeps no more
and_false : (b : Bool) → (b && false) ≡ false
and_false true = refl
and_false false = refl

woken_past : (d n : Dispatched) (w : WorkerId)
    → n.history ≡ with_entry d.history (next_entry d.history (Worker w) call.Wake) → runs_asleep (past_now d) w ≡ true → runs_asleep (past_now n) w ≡ false
unfolding is_asleep
woken_past d n w made asleep =
    let e = next_entry d.history (Worker w) call.Wake in
    ap (λ p. runs_asleep p w) (newest d.history n.history e made)
    ∙ ap (λ b. has_run (e ∷ past_now d) w && b)
    (ap (λ b. if b then asleep_after e.reply (is_asleep (past_now d) w) else is_asleep (past_now d) w)
    (same_worker_itself w)
    ∙ ap (λ r. asleep_after r (is_asleep (past_now d) w)) (woken_reply d.history.layout (past_now d) w asleep))
    ∙ and_false (has_run (e ∷ past_now d) w)

pub woken : (w : WorkerId) (d n : Dispatched) (v u : Wakes) → IsWoken (Some w) d n v u
    → runs_asleep (past_now n) w ≡ false
woken w d n v u is = by (runs_asleep (past_now d) w) refl is
  where
    by : (b : Bool) → runs_asleep (past_now d) w ≡ b → MayEnterOf (Some w) call.Wake b d n v u
        → runs_asleep (past_now n) w ≡ false
    by true asleep enters = woken_past d n w (ap (λ (x : Dispatched). x.history) enters.made) asleep
    by false awake same = ap (λ (x : Dispatched). runs_asleep (past_now x) w) same.0 ∙ awake

-- ---- what callers do changes nothing of that

keeps_left : (a b : Boarded) (v u : Wakes) → EndsLeft a b v u → Keeps a.dispatch.history b.dispatch.history
keeps_left a b v u (nothing x y) = keeps_same x.dispatch.history x.dispatch.history refl
keeps_left a b v u (more x y z p q r ends first) =
    keeps_more x.dispatch.history y.dispatch.history z.dispatch.history (keeps_left x y p q ends)
    (keeps_by_end first.ticket y.lent (after_left first.ticket.call y.news) y z q r first.ends)

-- ---- once the wait has ended

ended_awake : (w : WorkerId) (place : ℕ) (t : Ticket) (a b : Boarded) (v u : Wakes)
    → ThenClears (EndsAt place t (Some w)) a b v u → IsLegal (layout_of b) (past_of_board b)
    → runs_asleep (past_of_board b) w ≡ false
ended_awake w place t a b v u is legal =
    let ends = is.step.ends in
    let keeps = keeps_more is.step.ended.history is.mid.dispatch.history b.dispatch.history
    (keeps_same is.step.ended.history is.mid.dispatch.history
    (ap (λ (x : Dispatched). x.history) is.step.settles.settled))
    (keeps_left is.mid b is.meanwhile u is.clears.ends) in
    keeps.sleeps legal w ∙ woken w ends.fired is.step.ended ends.then_fired is.step.then_ended ends.wakes

pub sleeps_no_more : (c : CallerId) (a b : Boarded) (v u : Wakes) → EndsOrWaits c Done a b v u
    → IsLegal (layout_of b) (past_of_board b) → SleepsNoMore c Done a b
sleeps_no_more c a b v u is legal w done slept =
    by (lending_at a is.place) is.ends (sym (ap (sleeper_at a) is.is_place) ∙ slept)
  where
    by : (l : Lending) → IsAwakeThen c (Ends is.place l Done b v u) a → sleeper l ≡ Some w
        → runs_asleep (past_of_board b) w ≡ false
    by Free ends of = absurd ends.next
    by (Waits t run slept) ends of =
        ended_awake w is.place t ends.awake b v u
        (subst (λ o. ThenClears (EndsAt is.place t o) ends.awake b v u) of ends.next) legal
