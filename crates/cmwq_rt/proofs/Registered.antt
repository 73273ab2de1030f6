-- Who has registered under a hold of the lock may sleep there.
use Rattle.std.proofs.Common.{◌≡◌, ◌∷◌, ◌++◌, ◌<◌, true, None, ⊎_elim, ap, inl, inr, refl, sym, subst, ◌∙◌, ℕ}
use Rattle.std.proofs.Common.{arith, length, length-append}
use Rattle.std.specs.Prelude.{Contains}
use Rattle.std.proofs.Math.Seq.{get_or-append_seam}
use Rattle.cmwq_model.specs.Prelude.{Layout, past_of, ticket_of}
use Rattle.cmwq_model.specs.declared.call.Call.{Call}
use Rattle.cmwq_model.specs.declared.id.CallerId.{CallerId}
use Rattle.cmwq_model.specs.declared.id.Who.{Who}
use Rattle.cmwq_model.specs.declared.id.Who.TheVariants.{Caller, Worker}
use Rattle.cmwq_dispatch.specs.declared.dispatch.Sleep.{Sleep}
use Rattle.cmwq_dispatch.specs.declared.dispatch.Sleep.TheVariants.{Sleeps, Over}
use Rattle.cmwq_monitor.specs.Held.{Held, is_over}
use Rattle.cmwq_monitor.specs.Participants.{View, is_caller}
use Rattle.cmwq_monitor.specs.Sleeping.{EndsOrWaits, WhetherDone}
use Rattle.cmwq_monitor.specs.declared.monitor.Ended.{Ended}
use Rattle.cmwq_monitor.specs.declared.monitor.Ended.TheVariants.{Done, Not}
use Rattle.cmwq_turns.specs.declared.party.Awaited.{Awaited}
use Rattle.cmwq_turns.specs.declared.party.Awaited.TheVariants as awaited
use Rattle.cmwq_rt.specs.Sleeping.{MaySleep, MaySleepFor}

-- it registered for its ticket
pub may_sleep : (s : Layout) (old new : Held) (v : View) (n : ℕ) → is_caller v.who ≡ true
    → EndsOrWaits s old v n (Not Sleeps) new → MaySleepFor s new v.who n
may_sleep s old new v n caller h = by v.who refl caller
  where
    by : (w : Who) → v.who ≡ w → is_caller w ≡ true → MaySleepFor s new v.who n
    by (Worker w) is k = absurd (cc k)
    by (Caller c) is k =
        let t = h.1.0 in
        let same = h.1.2 in
        let among = h.1.3.tickets in
        let long = length-append among.before (t ∷ among.after) in
        let less : length among.before < length (among.before ++ t ∷ among.after) = omega arith in
        let here : Contains (among.before ++ t ∷ among.after) t =
        (length among.before, less, get_or-append_seam among.before t among.after t) in (
          c,
          is,
          inl (record {
            ticket = t;
            given = ap (λ (g : Held). ticket_of (past_of g.history) (Caller c) n) same
                ∙ ap (λ w. ticket_of (past_of old.history) w n) (sym is) ∙ h.1.1;
            asleep = subst (λ ts. Contains ts t) (sym among.now) here;
          }),
        )

-- its wait will never be ready
pub may_sleep_on : (s : Layout) (old new : Held) (v : View) (n : ℕ) → is_caller v.who ≡ true
    → EndsOrWaits s old v n (Not Over) new → MaySleepFor s new v.who n
may_sleep_on s old new v n caller h = by v.who refl caller
  where
    by : (w : Who) → v.who ≡ w → is_caller w ≡ true → MaySleepFor s new v.who n
    by (Worker w) is k = absurd (cc k)
    by (Caller c) is k =
        let same = h.1.0 in (
          c,
          is,
          inr (⊎_elim
              (λ over. inl (ap (is_over s) same ∙ over))
              (λ none. inr (ap (λ (g : Held). ticket_of (past_of g.history) (Caller c) n) same
              ∙ ap (λ w. ticket_of (past_of old.history) w n) (sym is) ∙ none)) h.1.1),
        )

-- what it sleeps for is its ticket
pub sleeps_for : (s : Layout) (h : Held) (w : Who) (call : Call) (n : ℕ) (a : Awaited) → MaySleepFor s h w n
    → ((c : CallerId) → w ≡ Caller c → a ≡ awaited.Ticket c call n) → MaySleep s h w a
sleeps_for s h w call n a may is =
    subst (λ (u : Who). MaySleep s h u a) (sym may.1)
    (subst (MaySleep s h (Caller may.0)) (sym (is may.0 may.1)) (refl, may.2))

-- the same of one that looked whether its wait has ended, and has not changed by that
module _ (s : Layout) (old new : Held) (v u : View) (n : ℕ) (caller : is_caller v.who ≡ true) (w : Who)
    (who_is : w ≡ u.who) (A : Type 0) where
  from_view : (e : Ended) (i : Sleep) → e ≡ Not i → WhetherDone e A (u ≡ v) → MaySleepFor s new v.who n
      → MaySleepFor s new w n
  from_view Done i is h may = cc is
  from_view (Not k) i is h may =
      subst (λ (x : Who). MaySleepFor s new x n) (sym (who_is ∙ ap (λ (x : View). x.who) h)) may

  pub when_registered : (e : Ended) (i : Sleep) → e ≡ Not i → i ≡ Sleeps → WhetherDone e A (u ≡ v)
      → EndsOrWaits s old v n e new → MaySleepFor s new w n
  when_registered e i is sleeps same h =
      from_view e i is same
      (may_sleep s old new v n caller (subst (λ x. EndsOrWaits s old v n x new) (is ∙ ap Not sleeps) h))

  pub when_never_ready : (e : Ended) (i : Sleep) → e ≡ Not i → i ≡ Over → WhetherDone e A (u ≡ v)
      → EndsOrWaits s old v n e new → MaySleepFor s new w n
  when_never_ready e i is over same h =
      from_view e i is same
      (may_sleep_on s old new v n caller (subst (λ x. EndsOrWaits s old v n x new) (is ∙ ap Not over) h))
