-- A wait that is not refused makes no deadlock.
use Rattle.std.proofs.Common.{◌≡◌, ◌∙◌, ◌∷◌, ◌++◌, ◌≤◌, Bool, List, None, Some, ℕ, ap, append-nil, ap₂, arith, cond}
use Rattle.std.proofs.Common.{count_by, false, filter, inl, length, refl, subst, sym, true, ⊎_elim, []}
use Rattle.std.specs.Prelude.{◌&&◌, ◌||◌, if◌then◌else◌, nat_le, option_and_then, option_map}
use Rattle.std.specs.List.{list_any, sum_by}
use Rattle.std.specs.Option.{option_map_or}
use Rattle.std.proofs.lemmas.Bool.{and_from, and_parts, both_ways, or_cases}
use Rattle.std.proofs.lemmas.List.Elements.{filter-append}
use Rattle.std.proofs.lemmas.Option.{same_Some}
use Rattle.cmwq_lemmas.proofs.Members.{In, any_in, contained_in, in_any, in_append, in_contained, in_left, in_right}
unfoldable use Rattle.cmwq_model.specs.Prelude.{IsLegal, max_active}
use Rattle.cmwq_model.specs.Prelude.{Layout, cancels_sync, gives_ticket, holds_up, is_active, is_at, is_started}
use Rattle.cmwq_model.specs.Prelude.{item_of, opens, place_wanted, queued_at, still_open, ticket_for, ticket_in}
use Rattle.cmwq_model.specs.Prelude.{unended_tickets}
use Rattle.cmwq_model.specs.Widths.{sets_max, width_told}
use Rattle.cmwq_model.specs.declared.call.Call.{Call}
use Rattle.cmwq_model.specs.declared.entry.Entry.{Entry}
use Rattle.cmwq_model.specs.declared.id.Who.{Who}
use Rattle.cmwq_model.specs.declared.id.Who.TheVariants.{Caller, Worker}
use Rattle.cmwq_model.specs.declared.record.Queueing.{Queueing}
use Rattle.cmwq_model.specs.declared.record.Ticket.{Ticket}
use Rattle.cmwq_model.specs.declared.reply.Reply.{Reply}
use Rattle.cmwq_model.specs.declared.reply.Reply.TheVariants as reply
use Rattle.cmwq_theory_steps.proofs.Causes as cause
use Rattle.cmwq_theory_steps.proofs.Causes.{Cause, cause_of}
use Rattle.cmwq_theory_steps.proofs.Reasons.{sleep_reason}
use Rattle.cmwq_waits.specs.HeldUp.{IsDeadlock, Scene, awaits, has_run_of, have_all_places, have_all_workers}
use Rattle.cmwq_waits.specs.HeldUp.{is_ahead_of_item, is_held_up, is_held_up_by, is_in, is_kept, members}
use Rattle.cmwq_waits.specs.Refused.{CouldNeverEnd, Refuses, is_other, is_turned_away, next_ticket, next_wait}
use Rattle.cmwq_waits.specs.Refused.{scene_after, waits_with}
use Rattle.cmwq_waits.specs.declared.run_wait.RunWait.{RunWait}
use Rattle.cmwq_waits.proofs.Running.{is_running}
use Rattle.cmwq_waits_laws.specs.Lasting.{scene_of}
use Rattle.cmwq_waits_laws.proofs.Alike.{HaveSameRuns, last_alike, members_alike, places_alike, runs_alike}
use Rattle.cmwq_waits_laws.proofs.Alike.{workers_alike}
use Rattle.cmwq_waits_laws.proofs.Kept.{Way, all_places, all_workers, by_way, its_run, way}
use Rattle.cmwq_waits_laws.proofs.Made.{quiet, same_opened}
use Rattle.cmwq_waits.specs.Allowed.{RefusesIn}
use Rattle.cmwq_waiting.specs.Deadlocks.{AllowedTrapNone, MayTrap, NoDeadlock, narrows, queues}
use Rattle.cmwq_waits.specs.Begun.{wait_begun, waits_of}
use Rattle.cmwq_waiting.proofs.AllowedAsleep.{allowed_asleep_too}
use Rattle.cmwq_waiting.proofs.Trapping.{entries_trap_none, held_back, holds_back, inactive_back}
use Rattle.cmwq_waits.proofs.Begun.{in_waits, waits_are_waiting}
use Rattle.cmwq_waiting.proofs.Waits.{gives, others_than, pairs_add_one, sleeps_add_none}
use Rattle.cmwq_waits.proofs.Begun.{workers_begin_none}

-- a call that is turned away gives no ticket
not_turned : (s : Layout) (past : List Entry) (who : Who) (c : Call) (r : Reply) → Cause s past who c r
    → gives_ticket r ≡ true → is_turned_away past c ≡ false
not_turned s past who c r (cause.flushed w q free there) gives = refl
not_turned s past who c r (cause.drained w q free there) gives = refl
not_turned s past who c r (cause.destroyed w q free there alone none) gives = refl
not_turned s past who c r (cause.item_flushed w i free is) gives = refl
not_turned s past who c r (cause.delayed_queued w i free clear was) gives = clear
not_turned s past who c r (cause.delayed_flushed w i free was is) gives = grind (arith, was)
not_turned s past who c r (cause.sync_cancelled w i x free is) gives = refl
not_turned s past who c r (cause.sync_unbooked w i free none was) gives = refl
not_turned s past who c r (cause.sync_waits w i free none was) gives = refl
not_turned s past who c r other gives = absurd (cc gives)

ticket_is : (e : Entry) (n : ℕ) (t : Ticket) → ticket_in e n ≡ Some t → (t.number ≡ n) × (t.call ≡ e.call)
ticket_is e n t is = by (gives_ticket e.reply) is
  where
    of_who : (who : Who) → ticket_for who e.call n ≡ Some t → (t.number ≡ n) × (t.call ≡ e.call)
    of_who (Caller c) h =
        (ap (λ (u : Ticket). u.number) (sym (same_Some _ t h)), ap (λ (u : Ticket). u.call) (sym (same_Some _ t h)))
    of_who (Worker w) h = absurd (cc h)

    by : (b : Bool) → (if b then ticket_for e.who e.call n else None) ≡ Some t → (t.number ≡ n) × (t.call ≡ e.call)
    by true h = of_who e.who h
    by false h = absurd (cc h)

untold : (r : Reply) → gives_ticket r ≡ true → width_told r ≡ None
untold (reply.Width n) given = absurd (cc given)
untold r given = grind (arith, given)

pub no_width : (s : Layout) (past : List Entry) (e : Entry) (q : ℕ) → width_told e.reply ≡ None
    → max_active s (e ∷ past) q ≡ max_active s past q
unfolding max_active
no_width s past e q none = by (sets_max e.call q)
  where
    by : (b : Bool) → option_map_or (λ n. n) (if b then width_told e.reply else None) (max_active s past q)
        ≡ max_active s past q
    by true = ap (λ o. option_map_or (λ n. n) o (max_active s past q)) none
    by false = refl

-- ---- what holds a ticket up after a call that begins a wait, held it up in the scene that was looked at

module _ (s : Layout) (past : List Entry) (e : Entry) (legal : IsLegal s (e ∷ past)) (before : IsLegal s past)
    (given : gives_ticket e.reply ≡ true) where
  abbrev seen : Scene
  seen = scene_after s past e.call

  abbrev after : Scene
  after = scene_of s (e ∷ past)

  same_started : (n : ℕ) → is_started (e ∷ past) n ≡ is_started past n
  same_started n = ap (λ o. is_at o n || is_started past n) (quiet e.reply given).starts_none

  same_max : (q : ℕ) → max_active s (e ∷ past) q ≡ max_active s past q
  same_max q = no_width s past e q (untold e.reply given)

  awaits_seen : (t : Ticket) (x : Queueing) → awaits (e ∷ past) t x ≡ true → awaits past t x ≡ true
  awaits_seen t x up =
      ⊎_elim (λ holds. let was = holds_back past e t.number t.call x holds in grind (arith, was))
      (λ of_run. let was = ap (λ b. cancels_sync x.item.0 t.call && b) (sym (same_started x.number)) ∙ of_run in
      grind (arith, was))
      (or_cases (holds_up (e ∷ past) t.number t.call x) (cancels_sync x.item.0 t.call && is_started
      (e ∷ past) x.number) up)

  same_places : (set : List RunWait) (x : Queueing) → have_all_places after set x ≡ have_all_places seen set x
  same_places set x =
      ap₂ (λ n (xs : List Queueing). nat_le n
      (sum_by (λ (w : RunWait). count_by (is_ahead_of_item x w.run.item.0) xs) set)) (same_max x.place.queue.0)
      (sym (same_opened s past e legal before given))

  wide : (q : ℕ) → max_active s past q ≤ max_active s (e ∷ past) q
  wide q = omega (arith, same_max q)

  module _ (vs ws : List RunWait) (same : HaveSameRuns vs ws) where
    kept_seen : (x : Queueing) → In x (still_open (e ∷ past)) → is_kept after vs x ≡ true → is_kept seen ws x ≡ true
    kept_seen x there kept =
        by_way (has_run_of ws x.item.0) (is_started past x.number) (have_all_workers s ws x.place)
        (is_active s past x) (have_all_places seen ws x)
        (by (way (has_run_of vs x.item.0) (is_started (e ∷ past) x.number) (have_all_workers s vs x.place)
        (is_active s (e ∷ past) x) (have_all_places after vs x) kept))
      where
        unstarted_too : is_started (e ∷ past) x.number ≡ false → is_started past x.number ≡ false
        unstarted_too none = sym (same_started x.number) ∙ none

        by : Way (has_run_of vs x.item.0) (is_started (e ∷ past) x.number) (have_all_workers s vs x.place)
            (is_active s (e ∷ past) x) (have_all_places after vs x)
            → Way (has_run_of ws x.item.0) (is_started past x.number) (have_all_workers s ws x.place)
            (is_active s past x) (have_all_places seen ws x)
        by (its_run is) = its_run (sym (runs_alike vs ws same x.item.0) ∙ is)
        by (all_workers unstarted is) =
            all_workers (unstarted_too unstarted) (sym (workers_alike vs ws same s x.place) ∙ is)
        by (all_places unstarted inactive is) =
            all_places (unstarted_too unstarted) (inactive_back s past e legal before vs x there inactive)
            (sym (same_places ws x) ∙ sym (places_alike vs ws same after x) ∙ is)

    held_seen : (t : Ticket) → is_held_up after vs t ≡ true → is_held_up seen ws t ≡ true
    held_seen t held =
        let k = in_any (is_held_up_by after vs t) (still_open (e ∷ past)) held in
        let parts = and_parts (awaits (e ∷ past) t k.0) (is_kept after vs k.0) k.2 in
        any_in (is_held_up_by seen ws t) seen.opened k.0
        (subst (In k.0) (sym (same_opened s past e legal before given)) k.1)
        (and_from _ _ (awaits_seen t k.0 parts.0) (kept_seen k.0 k.1 parts.1))

-- a ticket's caller does not matter
same_held : (c : Scene) (set : List RunWait) (t u : Ticket) → t.number ≡ u.number → t.call ≡ u.call
    → is_held_up c set t ≡ is_held_up c set u
same_held c set t u number calls =
    ap₂ (λ n d. list_any (λ x. (holds_up c.past n d x || (cancels_sync x.item.0 d && is_started c.past x.number))
    && is_kept c set x) c.opened) number calls

-- ---- a sleep traps none

sleeps_trap_none : (first : ℕ) (s : Layout) (past : List Entry) (e : Entry) → IsLegal s (e ∷ past)
    → e.reply ≡ reply.Slept → NoDeadlock first s past → NoDeadlock first s (e ∷ past)
sleeps_trap_none first s past e legal slept alive =
    entries_trap_none first s past e legal begins (λ locks. calm locks) alive
  where
    begins : wait_begun first past e ≡ None
    begins = let why = sleep_reason s past e.who e.call e.reply (cause_of s past e legal) slept in
        workers_begin_none first past e why.0 why.1

    calm : MayTrap first s past e → ⊥
    calm (narrows w here x opened unstarted up less) =
        absurd (omega (arith, less, no_width s past e x.place.queue.0 (ap width_told slept)))
    calm (queues w here x opened up) =
        absurd (cc (sym (ap (λ r. if opens r then option_and_then (λ i. option_map (queued_at past i)
        (place_wanted past e.call i)) (item_of e) else None) slept) ∙ opened))

-- ---- the law

pub allowed_trap_none : AllowedTrapNone
unfolding IsLegal
allowed_trap_none first s past sleep call w legal is allowed calm alive p dead v here =
    by (p w.run.number) refl
  where
    now : List Entry
    now = sleep ∷ past

    old : waits_of first now ≡ waits_of first past
    old = sleeps_add_none first s past sleep legal.2 is.slept

    ws : List RunWait
    ws = waits_of first past

    more : waits_of first (call ∷ now) ≡ ws ++ w ∷ []
    more = pairs_add_one first s past sleep call w legal is

    given : gives_ticket call.reply ≡ true
    given = gives call (length now) w.ticket is.given

    allowed_now : RefusesIn first s now w.run call.call None
    allowed_now =
        subst (λ (us : List RunWait). Refuses s now us w.run call.call None) (sym old)
        (allowed_asleep_too s past sleep ws w.run call.call legal.2 is.slept (waits_are_waiting first s past legal.2.2)
        (is_running s past is.worker w.run legal.2.2 is.runs).is_open allowed)

    last : RunWait
    last = next_wait now w.run call.call

    with_last : waits_with now (waits_of first now) w.run call.call ≡ ws ++ last ∷ []
    with_last =
        ap (λ (us : List RunWait). filter (is_other w.run.number) us ++ last ∷ []) old
        ∙ ap (λ (us : List RunWait). us ++ last ∷ []) (others_than first s past sleep call w legal.2 is)

    after_all : (u : RunWait) → In u (ws ++ w ∷ []) → p u.run.number ≡ true
        → is_held_up (scene_of s (call ∷ now)) (members p (ws ++ w ∷ [])) u.ticket ≡ true
    after_all u there has =
        subst (λ (us : List RunWait). is_held_up (scene_of s (call ∷ now)) (members p us) u.ticket ≡ true) more
        (dead u (in_contained (waits_of first (call ∷ now)) u (subst (In u) (sym more) there)) has)

    -- with the new one
    alike : HaveSameRuns (members p (ws ++ w ∷ [])) (members p (ws ++ last ∷ []))
    alike = members_alike p (ws ++ w ∷ []) (ws ++ last ∷ []) (last_alike ws w last refl)

    seen_held : (u : RunWait) → In u (ws ++ w ∷ []) → p u.run.number ≡ true
        → is_held_up (scene_after s now call.call) (members p (ws ++ last ∷ [])) u.ticket ≡ true
    seen_held u there has =
        held_seen s now call legal legal.2 given (members p (ws ++ w ∷ [])) (members p (ws ++ last ∷ [])) alike u.ticket
        (after_all u there has)

    never : p w.run.number ≡ true → CouldNeverEnd s now (waits_of first now) w.run call.call
    never has = record {
      set = p;
      has = has;
      deadlock = λ u there its.
          subst (λ (us : List RunWait). is_held_up (scene_after s now call.call) (members p us) u.ticket ≡ true)
          (sym with_last)
          (⊎_elim (λ older. seen_held u (in_left ws (w ∷ []) u older) its)
          (λ new. ⊎_elim (λ same. let k = ticket_is call (length now) w.ticket is.given in
          subst (λ (x : RunWait). is_held_up (scene_after s now call.call) (members p
          (ws ++ last ∷ [])) x.ticket ≡ true)
          same
          (same_held (scene_after s now call.call) (members p (ws ++ last ∷ [])) last.ticket w.ticket (sym k.0)
          (sym k.1)
          ∙ seen_held w (in_right ws (w ∷ []) w (inl refl)) has)) (λ none. absurd none) new)
          (in_append ws (last ∷ []) u
          (subst (In u) with_last (contained_in (waits_with now (waits_of first now) w.run call.call) u there))));
    }

    fails : p w.run.number ≡ true → ⊥
    fails has = ⊎_elim
        (λ turned. both_ways _ (not_turned s now call.who call.call call.reply
        (cause_of s now call legal) given) turned)
        (λ (k : (awaits now (next_ticket now call.call) w.run ≡ false)
        × (CouldNeverEnd s now (waits_of first now) w.run call.call → ⊥)). k.1 (never has)) allowed_now

    -- without it
    without : p w.run.number ≡ false → members p (ws ++ w ∷ []) ≡ members p ws
    without none =
        filter-append (is_in p) ws (w ∷ [])
        ∙ ap (λ b. members p ws ++ cond b (w ∷ []) []) none
        ∙ append-nil (members p ws)

    older_dead : p w.run.number ≡ false → IsDeadlock (scene_of s now) (waits_of first now) p
    older_dead none u there its =
        let u_old = subst (In u) old (contained_in (waits_of first now) u there) in
        subst (λ (us : List RunWait). is_held_up (scene_of s now) (members p us) u.ticket ≡ true) (sym old)
        (held_back s now call legal legal.2 (members p ws) u.ticket
        (contained_in (unended_tickets now) u.ticket
        (in_waits first s now legal.2 u (contained_in (waits_of first now) u there)).unended)
        (λ x open_now unstarted up. wide s now call legal legal.2 given x.place.queue.0)
        (λ x opened up. calm (queues u there x opened up))
        (subst (λ (us : List RunWait). is_held_up (scene_of s (call ∷ now)) us u.ticket ≡ true) (without none)
        (after_all u (in_left ws (w ∷ []) u u_old) its)))

    by : (b : Bool) → p w.run.number ≡ b → p v.run.number ≡ false
    by true has = absurd (fails has)
    by false none =
        ⊎_elim
        (λ older. sleeps_trap_none first s past sleep legal.2 is.slept alive p (older_dead none) v
        (in_contained (waits_of first now) v (subst (In v) (sym old) older)))
        (λ new. ⊎_elim (λ same. subst (λ (x : RunWait). p x.run.number ≡ false) same none)
        (λ nothing. absurd nothing) new)
        (in_append ws (w ∷ []) v (subst (In v) more (contained_in (waits_of first (call ∷ now)) v here)))
