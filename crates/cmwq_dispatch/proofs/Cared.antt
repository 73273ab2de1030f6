-- Nobody is forgotten as somebody begins to sleep, or rises, and nobody who is woken is left out.
use Rattle.std.specs.Prelude.{◌⊎◌}
use Rattle.std.proofs.Common.{⊎_elim, inl, inr, slice_set}
use Rattle.cmwq_theory_steps.specs.Common.{◌≡◌, ◌==◌, ◌*◌, ◌<◌, ℕ, Bool, true, false, not, ◌&&◌, ◌||◌, List, [], ◌∷◌}
use Rattle.cmwq_theory_steps.specs.Common.{◌++◌}
use Rattle.cmwq_theory_steps.specs.Common.{length, filter, Some, refl, sym, ap, ap₂, ◌∙◌, subst, slice_get, ◌≤◌, arith}
use Rattle.cmwq_theory_steps.specs.Common.{nat_lt, nat_tests, option_map, Call, Option, Queueing, IsLegal}
use Rattle.cmwq_theory_steps.specs.Endings.{ending}
use Rattle.cmwq_theory_steps.specs.Common.{Contains, AllByRecursion, All_append, Entry, Layout, Ticket}
use Rattle.cmwq_theory_steps.specs.Common.{PoolId, WorkerId, Who, Worker, same_pool, same_worker, worker_at, eqb-true}
use Rattle.std.proofs.lemmas.Bool.{both_ways, and_parts, false_from_ne_true}
use Rattle.cmwq_lemmas.proofs.Members.{In, all_in, contained_in, in_append, in_contained, in_filter, in_left, in_right}
use Rattle.cmwq_lemmas.proofs.Members.{of_in}
use Rattle.cmwq_lemmas.proofs.Truth.{and_false, and_true, or_false, or_true}
use Rattle.std.proofs.lemmas.Option.{slice_get_within}
use Rattle.cmwq_model.specs.declared.id.CallerId.{CallerId}
use Rattle.cmwq_theory_steps.proofs.Entries.{entry_at-older}
use Rattle.cmwq_theory_steps.proofs.ItemRuns.{same_worker_itself, same_worker-true}
use Rattle.cmwq_theory_steps.proofs.Pools.{same_pool-true}
use Rattle.cmwq_theory_wakes.specs.Rest.{IsOfItsCall, IsUnready, call_at}
use Rattle.cmwq_theory_wakes.specs.Starting.{IsAttended, worker_is_idle}
use Rattle.cmwq_dispatch.specs.Asleep.{Asleep, IsLookedAfter, Leaves, NobodySleeps, Rests, Rises, SleepOn, Waits}
use Rattle.cmwq_dispatch.specs.Naming.{NamesAll, NamesMore}
use Rattle.cmwq_dispatch.specs.Pools.{AllRecorded, IsAttendedAt, LeavesNamed, OwnIsUp, pool_number, rests}
use Rattle.cmwq_dispatch.specs.Resting.{IsAttendedBy, IsRecorded, IsUp, rests_in}
use Rattle.cmwq_dispatch.specs.Waiting.{AllWait, AreFlushes, AreKnown, IsKnown, MostWait, OnlyNamed, is_of_other}
use Rattle.cmwq_dispatch.specs.Waiting.{unnamed}
use Rattle.cmwq_dispatch.specs.declared.resting.RestingWorkers.{RestingWorkers}
use Rattle.cmwq_dispatch.specs.declared.waiters.Waiter.{Waiter}
use Rattle.cmwq_dispatch.specs.declared.wakes.Wakes.{Wakes}
use Rattle.cmwq_dispatch.proofs.EachPool.{attended_at, look_keeps, others_same, recorded_all, rests_at, rests_set_here}
use Rattle.cmwq_dispatch.proofs.EachPool.{rests_set_other, rests_there, same_or, same_pool_number, worker_is}
use Rattle.cmwq_dispatch.proofs.Flushed.{set_here, set_length}
use Rattle.cmwq_dispatch.proofs.Listed.{each_listed, stays_or_named, unnamed_in, was_unnamed}
use Rattle.cmwq_dispatch.proofs.Flushed.{same_ticket, was_there}
use Rattle.cmwq_dispatch.proofs.OneNamed.{names_more, names_same}
use Rattle.cmwq_dispatch.proofs.Released.{most_wait_on}

same_pool_itself : (p : PoolId) → same_pool p p ≡ true
same_pool_itself p = (and_parts (same_pool p p) _ (same_worker_itself (worker_at p 0))).0

true_or_false : (b : Bool) → (b ≡ true) ⊎ (b ≡ false)
true_or_false true = inl refl
true_or_false false = inr refl

-- a ticket stays of its call
there : (past : List Entry) (n : ℕ) (c : Call) → call_at past n ≡ Some c → n < length past
there past n c h = at (nat_lt n (length past)) refl
  where
    at : (b : Bool) → nat_lt n (length past) ≡ b → n < length past
    at true is = grind (arith, nat_tests)
    at false is = absurd (grind arith)

pub known_on : (past : List Entry) (e : Entry) (t : Ticket) → IsOfItsCall past t → IsOfItsCall (e ∷ past) t
known_on past e t h =
    ap (option_map (λ (e : Entry). e.call)) (entry_at-older e past t.number (there past t.number t.call h)) ∙ h

-- ---- nobody sleeps

pub looked_after_nobody : (s : Layout) (past : List Entry) (a : Asleep) → NobodySleeps a → length a.pools ≡ 2 * s.cpus
    → IsLookedAfter s past a
looked_after_nobody s past a nobody places = record {
  none_forgotten = record {
    known = subst (AllByRecursion _) (sym nobody.callers) tt;
    callers = subst (AllByRecursion _) (sym nobody.callers) tt;
    workers = λ p w pool resting starts. absurd (both_ways _ (nobody.workers w) resting);
  };
  callers = subst (AllByRecursion _) (sym nobody.callers) tt;
  recorded = nobody.recorded past;
  places = places;
}

pub all_named : (who : Who) (old new : Asleep) (before after : Wakes) → NobodySleeps new → NamesAll after
    → NamesMore before after → SleepOn who old new before after
all_named who old new before after nobody all more = record {
  callers = λ t h. inr (all.callers t.caller.0);
  workers = λ w h. inr (inl (all.workers w));
  no_more_callers = λ t h. absurd (subst (In t) nobody.callers (contained_in new.tickets t h));
  no_more_workers = λ w h. absurd (both_ways _ (nobody.workers w) h);
  named = more;
}

pub sleep_same : (who : Who) (a : Asleep) (w : Wakes) → SleepOn who a a w w
sleep_same who a w = record {
  callers = λ t h. inl h;
  workers = λ v h. inl h;
  no_more_callers = λ t h. h;
  no_more_workers = λ v h. h;
  named = names_same w;
}

-- ---- a caller begins to sleep, or leaves

pub waits_kept : (s : Layout) (past : List Entry) (t : Ticket) (old new : Asleep) → IsKnown s past t → IsUnready past t
    → Waits t old new → IsLookedAfter s past old → IsLookedAfter s past new
waits_kept s past t old new known unready k a = record {
  none_forgotten = record {
    known = more (IsOfItsCall past) known.call a.none_forgotten.known;
    callers = more (IsUnready past) unready a.none_forgotten.callers;
    workers = λ p. subst (λ xs. IsAttended s past (rests xs) p) (sym k.pools) (a.none_forgotten.workers p);
  };
  callers = more (λ t. t.caller.0 < s.callers) known.caller a.callers;
  recorded = subst (AllRecorded past) (sym k.pools) a.recorded;
  places = ap length k.pools ∙ a.places;
}
  where
    was : (u : Ticket) → In u (k.tickets.before ++ k.tickets.after) → In u old.tickets
    was u i = subst (In u) (sym k.tickets.was) i

    more : (P : Ticket → Type 0) → P t → AllByRecursion P old.tickets → AllByRecursion P new.tickets
    more P one all = all_in P new.tickets (λ u i. ⊎_elim
        (λ l. of_in P old.tickets u all (was u (in_left k.tickets.before k.tickets.after u l)))
        (λ r. ⊎_elim (λ same. subst P same one)
        (λ m. of_in P old.tickets u all (was u (in_right k.tickets.before k.tickets.after u m))) r)
        (in_append k.tickets.before (t ∷ k.tickets.after) u (subst (In u) k.tickets.now i)))

pub leaves_kept : (s : Layout) (past : List Entry) (c : CallerId) (old new : Asleep) → Leaves c old new
    → IsLookedAfter s past old → IsLookedAfter s past new
leaves_kept s past c old new k a = record {
  none_forgotten = record {
    known = fewer (IsOfItsCall past) a.none_forgotten.known;
    callers = fewer (IsUnready past) a.none_forgotten.callers;
    workers = λ p. subst (λ xs. IsAttended s past (rests xs) p) (sym k.pools) (a.none_forgotten.workers p);
  };
  callers = fewer (λ t. t.caller.0 < s.callers) a.callers;
  recorded = subst (AllRecorded past) (sym k.pools) a.recorded;
  places = ap length k.pools ∙ a.places;
}
  where
    fewer : (P : Ticket → Type 0) → AllByRecursion P old.tickets → AllByRecursion P new.tickets
    fewer P all = all_in P new.tickets (λ u i. of_in P old.tickets u all
        (in_filter (is_of_other c.0) old.tickets u (subst (In u) k.tickets i)).0)

pub leaves_nobody : (c : CallerId) (old new : Asleep) → Leaves c old new → NobodySleeps old → NobodySleeps new
leaves_nobody c old new k nobody = record {
  callers = k.tickets ∙ ap (filter (is_of_other c.0)) nobody.callers;
  workers = λ w. ap (λ xs. rests xs w) k.pools ∙ nobody.workers w;
  recorded = λ past. subst (AllRecorded past) (sym k.pools) (nobody.recorded past);
}

-- ---- the workers of a pool are set

attended_by : (s : Layout) (past : List Entry) (xs : List RestingWorkers) (p : PoolId) (z : RestingWorkers)
    → slice_get xs (pool_number p) ≡ Some z → IsAttendedAt s past xs p → IsAttendedBy s past p z
attended_by s past xs p z at attended x resting starts =
    let u = attended (worker_at p x) refl (rests_at xs (worker_at p x) z at ∙ resting) starts in
    record {
      worker = u.worker.index;
      idle = subst (λ w. worker_is_idle past w ≡ true) (worker_is u.worker p u.pool) u.idle;
      does_not_rest = sym (rests_at xs (worker_at p u.worker.index) z at)
          ∙ (ap (rests xs) (sym (worker_is u.worker p u.pool)) ∙ u.does_not_rest);
    }

pub set_kept : (s : Layout) (past : List Entry) (tickets : List Ticket) (xs : List RestingWorkers) (p : PoolId) (n : ℕ)
    (v y : RestingWorkers) → n ≡ pool_number p → slice_get xs n ≡ Some v
    → (IsRecorded past p v → IsAttendedBy s past p v → IsRecorded past p y × IsAttendedBy s past p y)
    → IsLookedAfter s past (record { tickets = tickets; pools = xs })
    → IsLookedAfter s past (record { tickets = tickets; pools = slice_set xs n y })
set_kept s past tickets xs p n v y is at keeps a =
    let here : slice_get xs (pool_number p) ≡ Some v = ap (slice_get xs) (sym is) ∙ at in
    let k = keeps (a.recorded p v here) (attended_by s past xs p v here (a.none_forgotten.workers p)) in
    record {
      none_forgotten = record {
        known = a.none_forgotten.known;
        callers = a.none_forgotten.callers;
        workers = λ q. look_keeps s past xs (slice_set xs n y) p q (others_same xs p n y is)
            (attended_at s past xs p n v y is at k.1) (a.none_forgotten.workers q);
      };
      callers = a.callers;
      recorded = recorded_all past xs p n y is a.recorded k.0;
      places = set_length xs n y ∙ a.places;
    }

-- the test of a worker, of its pool and of other pools
in_pool : (v w : WorkerId) → pool_number v.pool ≡ pool_number w.pool → same_worker v w ≡ (v.index == w.index)
in_pool v w same =
    ap (λ b. b && (v.index == w.index))
    (ap (λ q. same_pool q w.pool) (same_pool_number v.pool w.pool same) ∙ same_pool_itself w.pool)

in_other : (v w : WorkerId) → (pool_number v.pool ≡ pool_number w.pool → ⊥) → same_worker v w ≡ false
in_other v w apart =
    ap (λ b. b && (v.index == w.index))
    (false_from_ne_true _ (λ same. apart (ap pool_number (same_pool-true v.pool w.pool same))))

pub set_rests : (tickets : List Ticket) (xs : List RestingWorkers) (w : WorkerId) (n : ℕ) (v y : RestingWorkers)
    → n ≡ pool_number w.pool → slice_get xs n ≡ Some v
    → ((x : ℕ) → rests_in y x ≡ (rests_in v x || (x == w.index)))
    → Rests w (record { tickets = tickets; pools = xs }) (record { tickets = tickets; pools = slice_set xs n y })
set_rests tickets xs w n v y is at more = record {
  tickets = refl;
  workers = λ u. ⊎_elim
      (λ same. rests_set_here xs n v y u same at ∙ (more u.index
      ∙ ap₂ (λ a b. a || b) (sym (rests_at xs u v (ap (slice_get xs) same ∙ at))) (sym (in_pool u w (same ∙ is)))))
      (λ apart. rests_set_other xs n y u apart ∙ (sym (or_false (rests xs u))
      ∙ ap (λ b. rests xs u || b) (sym (in_other u w (λ e. apart (e ∙ sym is))))))
      (same_or (pool_number u.pool) n);
}

pub set_rises : (tickets : List Ticket) (xs : List RestingWorkers) (w : WorkerId) (n : ℕ) (v y : RestingWorkers)
    → n ≡ pool_number w.pool → slice_get xs n ≡ Some v
    → ((x : ℕ) → rests_in y x ≡ (rests_in v x && not (x == w.index)))
    → Rises w (record { tickets = tickets; pools = xs }) (record { tickets = tickets; pools = slice_set xs n y })
set_rises tickets xs w n v y is at less = record {
  tickets = refl;
  workers = λ u. ⊎_elim
      (λ same. rests_set_here xs n v y u same at ∙ (less u.index
      ∙ ap₂ (λ a b. a && not b) (sym (rests_at xs u v (ap (slice_get xs) same ∙ at))) (sym (in_pool u w (same ∙ is)))))
      (λ apart. rests_set_other xs n y u apart ∙ (sym (and_true (rests xs u))
      ∙ ap (λ b. rests xs u && not b) (sym (in_other u w (λ e. apart (e ∙ sym is))))))
      (same_or (pool_number u.pool) n);
}

-- the workers of a pool after one of them was up
pub up_then_rests : (v z y : RestingWorkers) (x : ℕ) → rests_in z x ≡ false
    → ((k : ℕ) → (k == x) ≡ false → rests_in z k ≡ rests_in v k)
    → ((k : ℕ) → rests_in y k ≡ (rests_in z k || (k == x))) → (k : ℕ) → rests_in y k ≡ (rests_in v k || (k == x))
up_then_rests v z y x up others more k = more k ∙ at (k == x) refl
  where
    at : (b : Bool) → (k == x) ≡ b → (rests_in z k || (k == x)) ≡ (rests_in v k || (k == x))
    at true is = ap (λ b. rests_in z k || b) is ∙ (or_true (rests_in z k)
        ∙ (sym (or_true (rests_in v k)) ∙ sym (ap (λ b. rests_in v k || b) is)))
    at false is = ap (λ b. b || (k == x)) (others k is)

pub up_is_less : (v z : RestingWorkers) (x : ℕ) → rests_in z x ≡ false
    → ((k : ℕ) → (k == x) ≡ false → rests_in z k ≡ rests_in v k) → (k : ℕ)
    → rests_in z k ≡ (rests_in v k && not (k == x))
up_is_less v z x up others k = at (k == x) refl
  where
    at : (b : Bool) → (k == x) ≡ b → rests_in z k ≡ (rests_in v k && not (k == x))
    at true is = ap (rests_in z) (eqb-true k x is) ∙ (up ∙ (sym (and_false (rests_in v k))
        ∙ sym (ap (λ b. rests_in v k && not b) is)))
    at false is = others k is ∙ (sym (and_true (rests_in v k)) ∙ sym (ap (λ b. rests_in v k && not b) is))

pub far_rises : (a : Asleep) (w : WorkerId) → length a.pools ≤ pool_number w.pool → Rises w a a
far_rises a w far = record {
  tickets = refl;
  workers = λ u. at u (rests a.pools u) refl;
}
  where
    at : (u : WorkerId) (b : Bool) → rests a.pools u ≡ b → rests a.pools u ≡ (rests a.pools u && not (same_worker u w))
    at u false is = is ∙ sym (ap (λ b. b && not (same_worker u w)) is)
    at u true is =
        let there = rests_there a.pools u is in
        let less = slice_get_within a.pools (pool_number u.pool) there.0 there.1 in
        let apart : pool_number u.pool ≡ pool_number w.pool → ⊥ = λ e. absurd (omega (arith, less, far, e)) in
        sym (and_true (rests a.pools u)) ∙ ap (λ b. rests a.pools u && not b) (sym (in_other u w apart))

-- ---- after an entry

pub after_entry : (s : Layout) (past : List Entry) (ws fs : List Waiter) (xs : List RestingWorkers)
    → AreKnown s past ws → AreKnown s past fs → AllWait past ws → AllWait past fs → AllRecorded past xs
    → ((p : PoolId) → IsAttendedAt s past xs p) → length xs ≡ 2 * s.cpus
    → IsLookedAfter s past (record { tickets = unnamed ws ++ unnamed fs; pools = xs })
after_entry s past ws fs xs kw kf aw af recorded attended places = record {
  none_forgotten = record {
    known = All_append (IsOfItsCall past) (unnamed ws) (unnamed fs)
        (each_listed (IsOfItsCall past) ws (λ k w at quiet. (kw k w at quiet).call))
        (each_listed (IsOfItsCall past) fs (λ k w at quiet. (kf k w at quiet).call));
    callers = All_append (IsUnready past) (unnamed ws) (unnamed fs) (each_listed (IsUnready past) ws aw)
        (each_listed (IsUnready past) fs af);
    workers = attended;
  };
  callers = All_append (λ t. t.caller.0 < s.callers) (unnamed ws) (unnamed fs)
      (each_listed (λ t. t.caller.0 < s.callers) ws (λ k w at quiet. (kw k w at quiet).caller))
      (each_listed (λ t. t.caller.0 < s.callers) fs (λ k w at quiet. (kf k w at quiet).caller));
  recorded = recorded;
  places = places;
}

-- what is known of those that sleep goes on to hold as the history grows
pub known_left : (s : Layout) (past : List Entry) (e : Entry) (ws : List Waiter) (us : List Ticket)
    → AllByRecursion (IsOfItsCall past) (unnamed ws ++ us)
    → AllByRecursion (λ t. t.caller.0 < s.callers) (unnamed ws ++ us) → AreKnown s (e ∷ past) ws
known_left s past e ws us known callers k w at quiet =
    let i = in_left (unnamed ws) us w.ticket (unnamed_in ws k w at quiet) in
    record {
      caller = of_in (λ t. t.caller.0 < s.callers) _ w.ticket callers i;
      call = known_on past e w.ticket (of_in (IsOfItsCall past) _ w.ticket known i);
    }

pub known_right : (s : Layout) (past : List Entry) (e : Entry) (us : List Ticket) (ws : List Waiter)
    → AllByRecursion (IsOfItsCall past) (us ++ unnamed ws)
    → AllByRecursion (λ t. t.caller.0 < s.callers) (us ++ unnamed ws) → AreKnown s (e ∷ past) ws
known_right s past e us ws known callers k w at quiet =
    let i = in_right us (unnamed ws) w.ticket (unnamed_in ws k w at quiet) in
    record {
      caller = of_in (λ t. t.caller.0 < s.callers) _ w.ticket callers i;
      call = known_on past e w.ticket (of_in (IsOfItsCall past) _ w.ticket known i);
    }

-- those that are named stay known
pub known_kept : (s : Layout) (past : List Entry) (wakes : Wakes) (old new : List Waiter) → OnlyNamed wakes old new
    → AreKnown s past old → AreKnown s past new
known_kept s past wakes old new only known k w at quiet =
    let t = was_unnamed wakes old new w.ticket only (unnamed_in new k w at quiet) in
    of_in (IsKnown s past) (unnamed old) w.ticket (each_listed (IsKnown s past) old known) t

pub sleep_on : (who : Who) (ws fs us gs : List Waiter) (xs ys : List RestingWorkers) (a b c : Wakes)
    → OnlyNamed b ws us → OnlyNamed b fs gs → NamesMore a b → LeavesNamed xs ys b c
    → SleepOn who (record { tickets = unnamed ws ++ unnamed fs; pools = xs })
    (record { tickets = unnamed us ++ unnamed gs; pools = ys }) a c
sleep_on who ws fs us gs xs ys a b c w f more k = record {
  callers = λ t h. ⊎_elim
      (λ i. ⊎_elim (λ on. inl (in_contained _ t (in_left (unnamed us) (unnamed gs) t on)))
      (λ named. inr (k.more.callers t.caller.0 named)) (stays_or_named b ws us t w i))
      (λ i. ⊎_elim (λ on. inl (in_contained _ t (in_right (unnamed us) (unnamed gs) t on)))
      (λ named. inr (k.more.callers t.caller.0 named)) (stays_or_named b fs gs t f i))
      (in_append (unnamed ws) (unnamed fs) t (contained_in _ t h));
  workers = λ v h. ⊎_elim inl (λ named. inr (inl named)) (k.left v h);
  no_more_callers = λ t h. in_contained _ t (⊎_elim
      (λ i. in_left (unnamed ws) (unnamed fs) t (was_unnamed b ws us t w i))
      (λ i. in_right (unnamed ws) (unnamed fs) t (was_unnamed b fs gs t f i))
      (in_append (unnamed us) (unnamed gs) t (contained_in _ t h)));
  no_more_workers = k.fewer;
  named = names_more a b c more k.more;
}

-- who made the entry rose before
pub risen_sleep_on : (w : WorkerId) (old mid new : Asleep) (a b : Wakes) → Rises w old mid
    → SleepOn (Worker w) mid new a b → SleepOn (Worker w) old new a b
risen_sleep_on w old mid new a b k h = record {
  callers = λ t i. h.callers t (subst (λ ts. Contains ts t) (sym k.tickets) i);
  workers = λ v r. ⊎_elim
      (λ same. inr (inr (ap Worker (sym (same_worker-true v w same)))))
      (λ apart. h.workers v (k.workers v ∙ ap₂ (λ x y. x && not y) r apart)) (true_or_false (same_worker v w));
  no_more_callers = λ t i. subst (λ ts. Contains ts t) k.tickets (h.no_more_callers t i);
  no_more_workers = λ v r. (and_parts (rests old.pools v) _ (sym (k.workers v) ∙ h.no_more_workers v r)).0;
  named = h.named;
}

-- ---- what a look after an entry is given

module _ (s : Layout) (now past : List Entry) (e : Entry) (ws fs : List Waiter) (xs : List RestingWorkers)
    (is : now ≡ e ∷ past) (a : IsLookedAfter s past (record { tickets = unnamed ws ++ unnamed fs; pools = xs })) where
  pub known_now : AreKnown s now ws
  known_now = subst (λ p. AreKnown s p ws) (sym is)
      (known_left s past e ws (unnamed fs) a.none_forgotten.known a.callers)

  pub known_flushes_now : AreKnown s now fs
  known_flushes_now = subst (λ p. AreKnown s p fs) (sym is)
      (known_right s past e (unnamed ws) fs a.none_forgotten.known a.callers)

  pub most_wait_now : (o : Option Queueing) → o ≡ ending past e → IsLegal s now → MostWait now o ws
  most_wait_now o ends legal = subst (λ p. MostWait p o ws) (sym is)
      (most_wait_on s past e ws o (subst (IsLegal s) is legal) (sym ends)
      (λ k w at quiet. of_in (IsUnready past) _ w.ticket a.none_forgotten.callers
      (in_left (unnamed ws) (unnamed fs) w.ticket (unnamed_in ws k w at quiet))))

  pub most_flushes_wait_now : (o : Option Queueing) → o ≡ ending past e → IsLegal s now → MostWait now o fs
  most_flushes_wait_now o ends legal = subst (λ p. MostWait p o fs) (sym is)
      (most_wait_on s past e fs o (subst (IsLegal s) is legal) (sym ends)
      (λ k w at quiet. of_in (IsUnready past) _ w.ticket a.none_forgotten.callers
      (in_right (unnamed ws) (unnamed fs) w.ticket (unnamed_in fs k w at quiet))))

pub flushes_kept : (wakes : Wakes) (old new : List Waiter) → OnlyNamed wakes old new → AreFlushes old → AreFlushes new
flushes_kept wakes old new only kind k w at =
    let v = was_there wakes old new k w only at in
    let f = kind k v.0 v.1 in
    (f.0, ap (λ (t : Ticket). t.call) (same_ticket wakes v.0 w v.2) ∙ f.1)

-- ---- a worker rose

pub own_is_up : (e : Entry) (w : WorkerId) (xs : List RestingWorkers) (n : ℕ) (y : RestingWorkers)
    → n ≡ pool_number w.pool → e.who ≡ Worker w → IsUp y w.index → OwnIsUp e (slice_set xs n y)
own_is_up e w xs n y is who up v z who_is at =
    let same : w ≡ v = cc (who, who_is) in
    let here : z ≡ y =
    set_here xs n y z (ap (slice_get (slice_set xs n y)) (is ∙ ap (λ (u : WorkerId). pool_number u.pool) same) ∙ at) in
    subst (λ (u : RestingWorkers). IsUp u v.index) (sym here) (subst (λ (u : WorkerId). IsUp y u.index) same up)

pub far_is_up : (e : Entry) (w : WorkerId) (xs : List RestingWorkers) → length xs ≤ pool_number w.pool
    → e.who ≡ Worker w → OwnIsUp e xs
far_is_up e w xs far who v z who_is at =
    let same : w ≡ v = cc (who, who_is) in
    let less = slice_get_within xs (pool_number v.pool) z at in
    let number = ap (λ (u : WorkerId). pool_number u.pool) same in absurd (omega (arith, less, far, number))

abbrev no_layout : Layout
no_layout = record { cpus = 0; workers = 0; callers = 0; items = 0; room = 0; queues = [] }

pub set_nobody : (tickets : List Ticket) (xs : List RestingWorkers) (w : WorkerId) (n : ℕ) (v y : RestingWorkers)
    → n ≡ pool_number w.pool → slice_get xs n ≡ Some v
    → ((x : ℕ) → rests_in y x ≡ (rests_in v x && not (x == w.index)))
    → ((s : Layout) (past : List Entry) (p : PoolId) → IsRecorded past p v → IsAttendedBy s past p v
    → IsRecorded past p y × IsAttendedBy s past p y)
    → NobodySleeps (record { tickets = tickets; pools = xs })
    → NobodySleeps (record { tickets = tickets; pools = slice_set xs n y })
set_nobody tickets xs w n v y is at less kept nobody = record {
  callers = nobody.callers;
  workers = λ u. (set_rises tickets xs w n v y is at less).workers u
      ∙ ap (λ b. b && not (same_worker u w)) (nobody.workers u);
  recorded = λ past. recorded_all past xs w.pool n y is (nobody.recorded past)
      (kept no_layout past w.pool (nobody.recorded past w.pool v (ap (slice_get xs) (sym is) ∙ at))
      (λ x resting starts. absurd (both_ways _ (nobody.workers (worker_at w.pool x))
      (rests_at xs (worker_at w.pool x) v (ap (slice_get xs) (sym is) ∙ at) ∙ resting)))).0;
}

-- ---- the same lists

pub at_lists : (P : List Waiter → List Waiter → List RestingWorkers → Type 0) (ws us fs gs : List Waiter)
    (xs ys : List RestingWorkers) → us ≡ ws → gs ≡ fs → ys ≡ xs → P ws fs xs → P us gs ys
at_lists P ws us fs gs xs ys w f x h =
    subst (λ a. P a gs ys) (sym w) (subst (λ b. P ws b ys) (sym f) (subst (λ c. P ws fs c) (sym x) h))
