-- While no active queueing is open, workers change nothing of that, and callers do not by ending tickets.
use Rattle.std.proofs.Common.{⊎_elim}
use Rattle.cmwq_theory_steps.specs.Common.{◌≡◌, ◌==◌, ℕ, Bool, true, false, ◌&&◌, ◌||◌, not, List, [], ◌∷◌, ◌++◌}
use Rattle.cmwq_theory_steps.specs.Common.{Option, Some, None, refl, sym, ap, ap₂, ◌∙◌, subst, arith, cond, is_some}
use Rattle.cmwq_theory_steps.specs.Common.{if◌then◌else◌, filter, count_by, option_map, option_to_list, option_and_then}
use Rattle.cmwq_theory_steps.specs.Common.{Layout, IsLegal, Entry, Queueing, WorkerId, Who, Caller}
use Rattle.cmwq_theory_steps.specs.Common.{Worker}
use Rattle.cmwq_theory_steps.specs.Common.{Call, Reply, PoolId, opens, opening, still_open, queueings, has_number}
use Rattle.cmwq_theory_steps.specs.Common.{is_live}
use Rattle.cmwq_theory_steps.specs.Common.{is_active, is_newly_active, newly_active, next, run}
use Rattle.cmwq_theory_steps.specs.Common.{runs_awake, runs_asleep, number_finished, answer, replaces}
use Rattle.cmwq_theory_steps.specs.Common.{place_wanted, queued_at, item_of, fits, cancel_answer, eqb-true}
use Rattle.cmwq_theory_steps.specs.Common.{number_cancelled, CallerId, is_workers, may_make, has_numbers, nat_lt}
use Rattle.cmwq_theory_steps.specs.Common.{Ticket}
use Rattle.cmwq_theory_steps.specs.Common.{end_of_ticket, waiting_for, waits_for, ticket_of, is_asleep}
use Rattle.cmwq_theory_steps.specs.Common.{taken_back_answer}
use Rattle.cmwq_theory_steps.specs.Common.{unstarted_queueing, is_booked}
use Rattle.cmwq_model.specs.declared.call.Call.TheVariants as call
use Rattle.cmwq_model.specs.declared.reply.Reply.TheVariants as reply
use Rattle.std.proofs.lemmas.Bool.{both_ways, and_parts, and_from, false_from_ne_true}
use Rattle.cmwq_lemmas.proofs.Lists.{count_by-cons, count_by-none}
use Rattle.cmwq_lemmas.proofs.Members.{In, all_in, found, in_append, in_filter, in_left, filter_in}
use Rattle.cmwq_theory_steps.specs.Endings.{ending, survives}
use Rattle.cmwq_theory_steps.specs.Activations.{behind_width, is_below_max_active_at_once, waits}
use Rattle.cmwq_model.specs.Widths.{keeps_widths}
use Rattle.cmwq_theory_steps.specs.Refusals.{is_refusal}
use Rattle.cmwq_theory_steps.proofs.Activated.{next_holds}
use Rattle.cmwq_theory_steps.proofs.Causes.{Cause, cause_of}
use Rattle.cmwq_theory_steps.proofs.Causes as cause
use Rattle.cmwq_theory_steps.proofs.Ended.{ends_which}
use Rattle.cmwq_theory_steps.proofs.Endings.{open_go_on}
use Rattle.cmwq_theory_steps.proofs.NewlyActive.{newly_active_are}
use Rattle.cmwq_theory_steps.proofs.Refusals.{none_mapped, refusals_do_nothing}
use Rattle.cmwq_theory_steps.proofs.RunsActive.{run_is_active}
use Rattle.cmwq_theory_wakes.specs.Starting.{allows_start, worker_is_idle, would_start}
use Rattle.cmwq_dispatch.specs.Dispatched.{Dispatched, active_in, is_end, is_over, past_now}

-- ---- no queueing is active, so nothing runs and nothing is next

none_passes : {X : Type 0} (p : X → Bool) (xs : List X) (x : X) → count_by p xs ≡ 0 → In x xs → p x ≡ true → ⊥
none_passes p [] x none i h = i
none_passes p (y ∷ ys) x none i h = ⊎_elim
    (λ same. absurd (omega (arith, none, count_by-cons p y ys, ap {B = ℕ} (λ (b : Bool). cond b 1 0) (ap p same ∙ h))))
    (λ k. none_passes p ys x (omega (arith, none, count_by-cons p y ys)) k h) i

active_live : (s : Layout) (past : List Entry) (x : Queueing) → is_active s past x ≡ true → is_live past x ≡ true
unfolding is_active
active_live s [] x h = cc
active_live s (e ∷ past) x h = (and_parts (is_live (e ∷ past) x) _ h).0

pub none_active : (s : Layout) (past : List Entry) (x : Queueing) → active_in s past ≡ 0 → In x (queueings past)
    → is_active s past x ≡ false
none_active s past x none i = false_from_ne_true _ (λ active.
    none_passes (is_active s past) (still_open past) x none
    (filter_in (is_live past) (queueings past) x i (active_live s past x active)) active)

pub nothing_runs : (s : Layout) (past : List Entry) (w : WorkerId) → IsLegal s past → active_in s past ≡ 0
    → run past w ≡ None
nothing_runs s past w legal none = at (run past w) refl
  where
    at : (o : Option ℕ) → run past w ≡ o → run past w ≡ None
    at None is = is
    at (Some n) is =
        let r = run_is_active s past w n legal is in
        absurd (both_ways _
        (none_active s past r.queueing none (found (has_number n) (queueings past) r.queueing r.found).0) r.active)

pub nothing_is_next : (s : Layout) (past : List Entry) (p : PoolId) → active_in s past ≡ 0 → next s past p ≡ None
unfolding queueings
nothing_is_next s past p none = at (next s past p) refl
  where
    Known : List Entry → Queueing → Type 0
    Known past x = In x (queueings past)

    at : (o : Option Queueing) → next s past p ≡ o → next s past p ≡ None
    at None is = is
    at (Some x) is =
        let k = next_holds s (λ past x. In x (queueings past))
        (λ e past x i. in_left (queueings past) (option_to_list (opening past e)) x i)
        (λ past. all_in (λ x. In x (queueings past)) (queueings past) (λ x i. i)) past p x is in
        absurd (both_ways _ (none_active s past x none k.holds)
        (and_parts (is_active s past x) _ (and_parts _ _ k.listed).0).0)

pub nobody_starts : (s : Layout) (past : List Entry) (w : WorkerId) → active_in s past ≡ 0
    → would_start s past w ≡ false
nobody_starts s past w none = false_from_ne_true _ (λ h.
    both_ways _ (ap is_some (nothing_is_next s past w.pool none))
    (and_parts (is_some (next s past w.pool)) _ (and_parts (worker_is_idle past w) (allows_start s past w.pool) h).1).0)

-- ---- what a worker is answered then, and an end of a ticket

-- It opens and ends nothing, and changes no width.
data IsQuiet : Reply → Type 0 where
  refused : (r : Reply) → is_refusal r ≡ true → IsQuiet r
  ended : IsQuiet reply.Done
  retired : IsQuiet reply.Retired

awake_runs : (past : List Entry) (w : WorkerId) → run past w ≡ None → runs_awake past w ≡ false
awake_runs past w none = ap (λ o. is_some o && not (is_asleep past w)) none

asleep_runs : (past : List Entry) (w : WorkerId) → run past w ≡ None → runs_asleep past w ≡ false
asleep_runs past w none = ap (λ o. is_some o && is_asleep past w) none

-- a call that only callers make
not_a_workers : (s : Layout) (w : WorkerId) (c : Call) (r : Reply) → is_workers c ≡ false → fits s (Worker w) c ≡ true
    → IsQuiet r
not_a_workers s w c r callers fit =
    absurd (both_ways _ callers (and_parts (nat_lt w.pool.cpu.0 s.cpus && nat_lt w.index s.workers) (is_workers c)
    (and_parts (may_make s (Worker w) c) (has_numbers s c) fit).0).1)

quiet_of_worker : (s : Layout) (past : List Entry) (w : WorkerId) (c : Call) (r : Reply) → run past w ≡ None
    → ((p : PoolId) → next s past p ≡ None) → fits s (Worker w) c ≡ true → r ≡ answer s past (Worker w) c
    → Cause s past (Worker w) c r → IsQuiet r
unfolding answer cancel_answer
quiet_of_worker s past w c r idle none fit told (cause.misuse who c2) = refused _ refl
quiet_of_worker s past w c r idle none fit told (cause.no who c2) = refused _ refl
quiet_of_worker s past w c r idle none fit told (cause.foreign who c2) = refused _ refl
quiet_of_worker s past w c r idle none fit told (cause.draining who c2) = refused _ refl
quiet_of_worker s past w c r idle none fit told (cause.nothing who c2) = refused _ refl
quiet_of_worker s past w c r idle none fit told (cause.idle who c2) = refused _ refl
quiet_of_worker s past w c r idle none fit told (cause.crowded who c2) = refused _ refl
quiet_of_worker s past w c r idle none fit told (cause.waiting who k t n h) = refused _ refl
quiet_of_worker s past w c r idle none fit told (cause.held who c2) = refused _ refl
quiet_of_worker s past w c r idle none fit told (cause.kept who c2) = refused _ refl
quiet_of_worker s past w c r idle none fit told (cause.gone who c2) = refused _ refl
quiet_of_worker s past w c r idle none fit told (cause.timers who c2) = refused _ refl
quiet_of_worker s past w c r idle none fit told (cause.queued who i q p free pending) =
    absurd (both_ways _ (awake_runs past w idle) free.awake)
quiet_of_worker s past w c r idle none fit told (cause.delayed_by_none who i q p t z free pending) =
    absurd (both_ways _ (awake_runs past w idle) free.awake)
quiet_of_worker s past w c r idle none fit told (cause.delayed who i q p t z free pending) =
    absurd (both_ways _ (awake_runs past w idle) free.awake)
quiet_of_worker s past w c r idle none fit told (cause.modified_idle who i q p t z free pending) =
    absurd (both_ways _ (awake_runs past w idle) free.awake)
quiet_of_worker s past w c r idle none fit told (cause.modified_again who i q p t z free pending) =
    absurd (both_ways _ (awake_runs past w idle) free.awake)
quiet_of_worker s past w c r idle none fit told (cause.modified_booked who i q p t z free pending) =
    absurd (both_ways _ (awake_runs past w idle) free.awake)
quiet_of_worker s past w c r idle none fit told (cause.modified_rebooked who i q p t z free pending) =
    absurd (both_ways _ (awake_runs past w idle) free.awake)
quiet_of_worker s past w c r idle none fit told (cause.cancelled who i x h) =
    let misuse : reply.Cancelled x.number ≡ reply.Misuse =
    told ∙ ap (λ b. if not b then reply.Misuse else taken_back_answer (unstarted_queueing past i.0)
    (is_booked past i.0))
    (awake_runs past w idle) in
    cc
quiet_of_worker s past w c r idle none fit told (cause.unbooked who i h k) =
    let misuse : reply.Unbooked ≡ reply.Misuse =
    told ∙ ap (λ b. if not b then reply.Misuse else taken_back_answer (unstarted_queueing past i.0)
    (is_booked past i.0))
    (awake_runs past w idle) in
    cc
quiet_of_worker s past w c r idle none fit told (cause.told who t) = not_a_workers s w (call.Tick t) _ refl fit
quiet_of_worker s past w c r idle none fit told (cause.fires who b h) = not_a_workers s w call.Fire _ refl fit
quiet_of_worker s past w c r idle none fit told (cause.flushed who q h k) = not_a_workers s w (call.Flush q) _ refl fit
quiet_of_worker s past w c r idle none fit told (cause.drained who q h k) = not_a_workers s w (call.Drain q) _ refl fit
quiet_of_worker s past w c r idle none fit told (cause.destroyed who q h k l m) =
    not_a_workers s w (call.Destroy q) _ refl fit
quiet_of_worker s past w c r idle none fit told (cause.widened who q n h) =
    not_a_workers s w (call.SetMax q n) _ refl fit
quiet_of_worker s past w c r idle none fit told (cause.freezes who h) = not_a_workers s w call.Freeze _ refl fit
quiet_of_worker s past w c r idle none fit told (cause.thaws who h) = not_a_workers s w call.Thaw _ refl fit
quiet_of_worker s past w c r idle none fit told (cause.item_flushed who i h k) =
    not_a_workers s w (call.FlushItem i) _ refl fit
quiet_of_worker s past w c r idle none fit told (cause.delayed_queued who i h k l) =
    not_a_workers s w (call.FlushDelayed i) _ refl fit
quiet_of_worker s past w c r idle none fit told (cause.delayed_flushed who i h k l) =
    not_a_workers s w (call.FlushDelayed i) _ refl fit
quiet_of_worker s past w c r idle none fit told (cause.sync_cancelled who i x h k) =
    not_a_workers s w (call.CancelSync i) _ refl fit
quiet_of_worker s past w c r idle none fit told (cause.sync_unbooked who i h k l) =
    not_a_workers s w (call.CancelSync i) _ refl fit
quiet_of_worker s past w c r idle none fit told (cause.sync_waits who i h k l) =
    not_a_workers s w (call.CancelSync i) _ refl fit
quiet_of_worker s past w c r idle none fit told (cause.ended who n t h k) = ended
quiet_of_worker s past w c r idle none fit told (cause.starts v x a b h k l) =
    let bad : Some x ≡ None = sym h ∙ none v.pool in cc
quiet_of_worker s past w c r idle none fit told (cause.enlists v x y a b h k l) =
    let bad : Some x ≡ None = sym h ∙ none v.pool in cc
quiet_of_worker s past w c r idle none fit told (cause.finishes v n h k) =
    let bad : Some n ≡ None = sym k ∙ idle in cc
quiet_of_worker s past w c r idle none fit told (cause.sleeps v h) = absurd (both_ways _ (awake_runs past w idle) h)
quiet_of_worker s past w c r idle none fit told (cause.wakes v h) = absurd (both_ways _ (asleep_runs past w idle) h)
quiet_of_worker s past w c r idle none fit told (cause.retires v h k l) = retired

quiet_end : (s : Layout) (past : List Entry) (o : Option Ticket) → IsQuiet (end_of_ticket past o)
quiet_end s past None = refused _ refl
quiet_end s past (Some t) = at (waits_for past t.number t.call)
  where
    at : (o : Option ℕ) → IsQuiet (waiting_for o)
    at None = ended
    at (Some n) = refused _ refl

quiet_of_caller : (s : Layout) (past : List Entry) (k : CallerId) (c : Call) → is_end c ≡ true
    → IsQuiet (answer s past (Caller k) c)
unfolding answer
quiet_of_caller s past k (call.End n) h = quiet_end s past (ticket_of past (Caller k) n)
quiet_of_caller s past k c h = cc

-- ---- so no queueing gets active

pub record OpensNothing (s : Layout) (past : List Entry) (e : Entry) : Type 0 where
  pub opened : opening past e ≡ None
  pub newly : newly_active s past e ≡ []

plainly : (s : Layout) (past : List Entry) (e : Entry) → IsLegal s (e ∷ past) → opens e.reply ≡ false
    → number_finished e.reply ≡ None → number_cancelled e.reply ≡ None → replaces e.reply ≡ false
    → keeps_widths e.reply ≡ true → OpensNothing s past e
plainly s past e legal opens_none finished cancelled replaces_none widths =
    let none =
    none_mapped (ending past e) (ends_which s past e legal ∙ rw (finished, cancelled, replaces_none) refl) in
    let shut : opening past e ≡ None =
    ap (λ b. if b then option_and_then (λ i. option_map (queued_at past i) (place_wanted past e.call i)) (item_of e)
    else None) opens_none in
    record {
      opened = shut;
      newly = newly_active_are s past e legal widths
          ∙ ap₂ (λ o x. filter (waits s past) (option_to_list (behind_width s past o))
          ++ filter (is_below_max_active_at_once s past e) (option_to_list x)) none shut;
    }

quiet_opens_nothing : (s : Layout) (past : List Entry) (e : Entry) → IsLegal s (e ∷ past) → (r : Reply) → e.reply ≡ r
    → IsQuiet r → OpensNothing s past e
quiet_opens_nothing s past e legal r is (refused q h) =
    let k = refusals_do_nothing s past e legal (ap is_refusal is ∙ h) in record { opened = k.opened; newly = k.newly }
quiet_opens_nothing s past e legal r is ended =
    plainly s past e legal (ap opens is) (ap number_finished is) (ap number_cancelled is) (ap replaces is)
    (ap keeps_widths is)
quiet_opens_nothing s past e legal r is retired =
    plainly s past e legal (ap opens is) (ap number_finished is) (ap number_cancelled is) (ap replaces is)
    (ap keeps_widths is)

none_after : (s : Layout) (past : List Entry) (e : Entry) → IsLegal s (e ∷ past) → active_in s past ≡ 0
    → OpensNothing s past e → active_in s (e ∷ past) ≡ 0
unfolding queueings
none_after s past e legal none k =
    count_by-none (is_active s (e ∷ past)) (still_open (e ∷ past))
    (all_in _ (still_open (e ∷ past)) (λ x i. false_from_ne_true _ (λ active. at x i active)))
  where
    was : (x : Queueing) → In x (still_open (e ∷ past)) → In x (still_open past)
    was x i = ⊎_elim (λ a. (in_filter (survives past e) (still_open past) x a).0) (λ b. absurd b)
        (in_append (filter (survives past e) (still_open past)) [] x
        (subst (In x) (open_go_on s past e legal
        ∙ ap (λ o. filter (survives past e) (still_open past) ++ option_to_list o) k.opened) i))

    at : (x : Queueing) → In x (still_open (e ∷ past)) → is_active s (e ∷ past) x ≡ true → ⊥
    at x i active =
        let there = in_filter (is_live (e ∷ past)) (queueings (e ∷ past)) x i in
        let before : is_active s past x ≡ false =
        false_from_ne_true _ (λ h. none_passes (is_active s past) (still_open past) x none (was x i) h) in
        subst (In x) k.newly (filter_in (is_newly_active s past e) (queueings (e ∷ past)) x there.0
        (and_from _ _ active (ap not before)))

pub stays_none : (s : Layout) (past : List Entry) (e : Entry) → IsLegal s (e ∷ past) → active_in s past ≡ 0
    → ((k : CallerId) → e.who ≡ Caller k → is_end e.call ≡ true) → active_in s (e ∷ past) ≡ 0
unfolding IsLegal
stays_none s past e legal none ends = none_after s past e legal none
    (quiet_opens_nothing s past e legal e.reply refl (at e.who refl))
  where
    told : e.reply ≡ answer s past e.who e.call
    told = ap (λ (d : Entry). d.reply) legal.1

    at : (who : Who) → e.who ≡ who → IsQuiet e.reply
    at (Caller k) is =
        subst IsQuiet (sym (told ∙ ap (λ (a : Who). answer s past a e.call) is))
        (quiet_of_caller s past k e.call (ends k is))
    at (Worker w) is =
        quiet_of_worker s past w e.call e.reply (nothing_runs s past w legal.2 none)
        (λ p. nothing_is_next s past p none) (subst (λ (a : Who). fits s a e.call ≡ true) is legal.0)
        (told ∙ ap (λ (a : Who). answer s past a e.call) is)
        (subst (λ (a : Who). Cause s past a e.call e.reply) is (cause_of s past e legal))

-- ---- a dispatch that is over stays over, and nobody could go on where one is at rest

pub over_parts : (d : Dispatched) → is_over d ≡ true → d.failed ≡ false
    → (d.closed ≡ true) × (active_in d.history.layout (past_now d) ≡ 0) × (d.firing ≡ 0)
over_parts d over lives =
    let k = and_parts (d.closed && (active_in d.history.layout (past_now d) == 0)) (d.firing == 0)
    (sym (ap (λ b. b || (d.closed && (active_in d.history.layout (past_now d) == 0) && (d.firing == 0))) lives)
    ∙ over) in
    let l = and_parts d.closed (active_in d.history.layout (past_now d) == 0) k.0 in
    (l.0, eqb-true (active_in d.history.layout (past_now d)) 0 l.1, eqb-true d.firing 0 k.1)
