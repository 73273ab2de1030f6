-- A wait that is refused is refused as well once its run has fallen asleep.
use Rattle.std.proofs.Common.{◌≡◌, ◌∙◌, ◌∷◌, ◌<◌, ◌≤◌, ◌==◌, ◌&&◌, ◌||◌, ◌⊎◌, ⊎_elim, ℕ, suc, Bool, true}
use Rattle.std.proofs.Common.{List, [], Option, Some, None, ap, ap₂, arith, filter, inl, length, nat_le}
use Rattle.std.proofs.Common.{refl}
use Rattle.std.proofs.Common.{subst, sym}
use Rattle.std.specs.Prelude.{Contains}
use Rattle.std.proofs.lemmas.Bool.{and_from, and_parts, both_ways, cases_lt, or_cases, or_left, or_right}
use Rattle.std.proofs.lemmas.Bool.Decides.{nat_tests}
use Rattle.cmwq_lemmas.proofs.Members.{In, any_in, contained_in, in_any, in_append, in_contained, in_filter, in_left}
use Rattle.cmwq_lemmas.proofs.Members.{in_mapped, in_right, of_in}
unfoldable use Rattle.cmwq_model.specs.Prelude.{IsLegal, serving_from}
use Rattle.cmwq_model.specs.Prelude.{Layout, cancels_sync, holds_up, is_active, is_started, is_within, still_open}
use Rattle.cmwq_model.specs.Prelude.{unended_tickets}
use Rattle.cmwq_model.specs.declared.call.Call.{Call}
use Rattle.cmwq_model.specs.declared.call.Call.TheVariants as call
use Rattle.cmwq_model.specs.declared.entry.Entry.{Entry}
use Rattle.cmwq_model.specs.declared.record.Queueing.{Queueing}
use Rattle.cmwq_model.specs.declared.record.Ticket.{Ticket}
use Rattle.cmwq_model.specs.declared.reply.Reply.TheVariants as reply
use Rattle.cmwq_theory_steps.proofs.Fresh.{not_started_yet}
use Rattle.cmwq_theory_steps.proofs.Given.{IsGiven, unended_given}
use Rattle.cmwq_theory_steps.proofs.TicketSteps.{not_served_yet}
use Rattle.cmwq_waits.specs.HeldUp.{AreWaiting, NeverEnds, awaits, has_run_of, have_all_places}
use Rattle.cmwq_waits.specs.HeldUp.{have_all_workers, is_held_up, is_held_up_by, is_in, is_kept, members}
use Rattle.cmwq_waits.specs.Refused.{is_other, next_ticket, next_wait, scene_after, waits_with}
use Rattle.cmwq_waits.specs.declared.run_wait.RunWait.{RunWait}
use Rattle.cmwq_waits.specs.declared.waits.Stuck.TheVariants.{Itself, Circle}
use Rattle.cmwq_waits_laws.specs.Lasting.{RefusedAsleepToo}
use Rattle.cmwq_waits_laws.proofs.Alike.{HaveSameRuns, last_alike, members_alike}
use Rattle.cmwq_waits_laws.proofs.Asleep.{keeps_moved, move, moved, moved_new, moved_old, moved_opened, moved_within}
use Rattle.cmwq_waits_laws.proofs.Asleep.{now, old_or_new, next, same_serving, same_started, same_turned, within}
use Rattle.cmwq_waits_laws.proofs.Kept.{Keeps, by_way, way}
use Rattle.cmwq_waits_laws.proofs.Staying.{open_known}

-- a flush is served from a number that is known
served_below : (past : List Entry) (q n b : ℕ) → serving_from past q n ≡ Some b → b < length past
unfolding serving_from
served_below [] q n b is = absurd (cc is)
served_below (e ∷ past) q n b is = grind (arith, nat_tests, served_below past q n b)

abbrev pub move_ticket : ℕ → Ticket → Ticket
move_ticket last t = record { caller = t.caller; call = t.call; number = moved last t.number }

pub same_ticket : (last : ℕ) (t : Ticket) → t.number < last → move_ticket last t ≡ t
same_ticket last t less =
    ap (λ n. record { caller = t.caller; call = t.call; number = n }) (moved_old last t.number less)

pub new_ticket : (past : List Entry) (e : Entry) (c : Call)
    → move_ticket (length past) (next_ticket past c) ≡ next_ticket (e ∷ past) c
new_ticket past e c =
    ap (λ n. record { caller = record { 0 = 0 }; call = c; number = n }) (moved_new (length past))

module _ (s : Layout) (past : List Entry) (e : Entry) (legal : IsLegal s (e ∷ past)) (before : IsLegal s past)
    (slept : e.reply ≡ reply.Slept) where
  -- ---- what a ticket waits for

  served_moved : (q n m : ℕ) → n ≤ length past → m ≤ length past → is_within (serving_from past q n) m ≡ true
      → is_within (serving_from (e ∷ past) q (moved (length past) n)) (moved (length past) m) ≡ true
  served_moved q n m below within up =
      ⊎_elim
      (λ (old : n < length past). ap₂ is_within
      (ap (serving_from (e ∷ past) q) (moved_old (length past) n old)
      ∙ same_serving s past e legal before slept q n old)
      refl ∙ by (serving_from past q n) refl up)
      (λ (last : length past ≤ n). ap (λ o. is_within o (moved (length past) m))
      (ap (λ k. serving_from (e ∷ past) q (moved (length past) k)) (omega arith)
      ∙ (ap (serving_from (e ∷ past) q) (moved_new (length past))
      ∙ not_served_yet (e ∷ past) q (suc (length past)) (omega arith))))
      (cases_lt n (length past))
    where
      by : (o : Option ℕ) → serving_from past q n ≡ o → is_within o m ≡ true
          → is_within o (moved (length past) m) ≡ true
      by None is up = refl
      by (Some b) is up =
          let known = served_below past q n b is in
          let same : moved (length past) m ≡ m = moved_old (length past) m (grind (arith, nat_tests)) in
          ap (λ k. nat_le k b) same ∙ up

  holds_moved : (n : ℕ) (c : Call) (x : Queueing) → n ≤ length past → x.number ≤ length past
      → holds_up past n c x ≡ true
      → holds_up (e ∷ past) (moved (length past) n) c (move (length past) x) ≡ true
  holds_moved n (call.Flush q) x below within up =
      let k = and_parts (x.place.queue.0 == q.0) (is_within (serving_from past q.0 n) x.number) up in
      and_from _ _ k.0 (served_moved q.0 n x.number below within k.1)
  holds_moved n (call.FlushItem i) x below within up =
      let k = and_parts (x.item.0 == i.0) (nat_le x.number n) up in
      and_from _ _ k.0 (moved_within (length past) x.number n within below k.1)
  holds_moved n (call.FlushDelayed i) x below within up =
      let k = and_parts (x.item.0 == i.0) (nat_le x.number n) up in
      and_from _ _ k.0 (moved_within (length past) x.number n within below k.1)
  holds_moved n (call.Drain q) x below within up = up
  holds_moved n (call.Destroy q) x below within up = up
  holds_moved n c x below within up = absurd (cc up)

  started_moved : (x : Queueing) → In x (still_open past) ⊎ (x.number ≡ length past) → is_started past x.number ≡ true
      → is_started (e ∷ past) (moved (length past) x.number) ≡ true
  started_moved x from started =
      ⊎_elim
      (λ old. ap (is_started (e ∷ past)) (moved_old (length past) x.number (open_known past x old))
      ∙ (same_started s past e legal before slept x.number ∙ started))
      (λ new. absurd
      (both_ways _ (ap (is_started past) new ∙ not_started_yet s past (length past) before (omega arith)) started)) from

  module _ (c : Call) where
    awaits_moved : (t : Ticket) (x : Queueing) → t.number ≤ length past
        → In x (now s past e legal before slept c).opened → awaits past t x ≡ true
        → awaits (e ∷ past) (move_ticket (length past) t) (move (length past) x) ≡ true
    awaits_moved t x below here up =
        let m = moved (length past) t.number in
        let y = move (length past) x in
        ⊎_elim
        (λ holds. or_left (holds_up (e ∷ past) m t.call y)
        (cancels_sync x.item.0 t.call && is_started (e ∷ past) y.number)
        (holds_moved t.number t.call x below (within s past e legal before slept c x here) holds))
        (λ of_run. let k = and_parts (cancels_sync x.item.0 t.call) (is_started past x.number) of_run in
        or_right (holds_up (e ∷ past) m t.call y) (cancels_sync x.item.0 t.call && is_started (e ∷ past) y.number)
        (and_from _ _ k.0 (started_moved x (old_or_new s past e legal before slept c x here) k.1)))
        (or_cases (holds_up past t.number t.call x) (cancels_sync x.item.0 t.call && is_started past x.number) up)

    held_moved : (vs ws : List RunWait) → HaveSameRuns vs ws → (t : Ticket) → t.number ≤ length past
        → is_held_up (now s past e legal before slept c) vs t ≡ true
        → is_held_up (next s past e legal before slept c) ws (move_ticket (length past) t) ≡ true
    held_moved vs ws same t below held =
        let x = in_any (is_held_up_by (scene_after s past c) vs t) (scene_after s past c).opened held in
        let y = move (length past) x.0 in
        let by = and_parts (awaits past t x.0) (is_kept (scene_after s past c) vs x.0) x.2 in
        let there =
        subst (In y) (sym (moved_opened s past e legal before slept c))
        (in_mapped (move (length past)) (scene_after s past c).opened x.0 x.1) in
        let keeps : Keeps (scene_after s (e ∷ past) c) ws y =
        keeps_moved s past e legal before slept c vs ws same x.0 x.1
        (way (has_run_of vs x.0.item.0) (is_started past x.0.number) (have_all_workers s vs x.0.place)
        (is_active s past x.0) (have_all_places (scene_after s past c) vs x.0) by.1) in
        any_in (is_held_up_by (scene_after s (e ∷ past) c) ws (move_ticket (length past) t))
        (scene_after s (e ∷ past) c).opened y there
        (and_from _ _ (awaits_moved t x.0 below x.1 by.0)
        (by_way (has_run_of ws y.item.0) (is_started (e ∷ past) y.number) (have_all_workers s ws y.place)
        (is_active s (e ∷ past) y) (have_all_places (scene_after s (e ∷ past) c) ws y) keeps))

    -- ---- whether it waits for its own run

    holds_alike : (d : Call) (x : Queueing) → x.number < length past
        → holds_up (e ∷ past) (suc (length past)) d x ≡ holds_up past (length past) d x
    holds_alike (call.Flush q) x less =
        ap (λ o. (x.place.queue.0 == q.0) && is_within o x.number)
        (not_served_yet (e ∷ past) q.0 (suc (length past)) (omega arith)
        ∙ sym (not_served_yet past q.0 (length past) (omega arith)))
    holds_alike (call.FlushItem i) x less = grind (arith, nat_tests)
    holds_alike (call.FlushDelayed i) x less = grind (arith, nat_tests)
    holds_alike d x less = refl

    pub own_alike : (run : Queueing) → In run (still_open past)
        → awaits (e ∷ past) (next_ticket (e ∷ past) c) run ≡ awaits past (next_ticket past c) run
    own_alike run here =
        ap₂ (λ a b. a || (cancels_sync run.item.0 c && b)) (holds_alike c run (open_known past run here))
        (same_started s past e legal before slept run.number)

    -- ---- whether it could never end

    module _ (waits : List RunWait) (waiting : AreWaiting past waits) (run : Queueing) where
      abbrev others : List RunWait
      others = filter (is_other run.number) waits

      module _ (p : ℕ → Bool) (dead : (w : RunWait) → Contains (waits_with past waits run c) w → is_in p w ≡ true
          → is_held_up (scene_after s past c) (members p (waits_with past waits run c)) w.ticket ≡ true) where
        same_members : HaveSameRuns (members p (waits_with past waits run c))
            (members p (waits_with (e ∷ past) waits run c))
        same_members =
            members_alike p (waits_with past waits run c) (waits_with (e ∷ past) waits run c)
            (last_alike others (next_wait past run c) (next_wait (e ∷ past) run c) refl)

        abbrev IsHeldAfter : Ticket → Type 0
        IsHeldAfter t =
            is_held_up (scene_after s (e ∷ past) c) (members p (waits_with (e ∷ past) waits run c)) t ≡ true

        old_held : (w : RunWait) → In w others → is_in p w ≡ true → IsHeldAfter w.ticket
        old_held w here has =
            let is = waiting w (in_contained waits w (in_filter (is_other run.number) waits w here).0) in
            let given =
            of_in (IsGiven past) (unended_tickets past) w.ticket (unended_given past)
            (contained_in (unended_tickets past) w.ticket is.is_unended) in
            let known = given.older in
            subst IsHeldAfter (same_ticket (length past) w.ticket known)
            (held_moved (members p (waits_with past waits run c)) (members p (waits_with (e ∷ past) waits run c))
            same_members w.ticket (omega (arith, known))
            (dead w
            (in_contained (waits_with past waits run c) w (in_left others (next_wait past run c ∷ []) w here)) has))

        new_held : p run.number ≡ true → IsHeldAfter (next_ticket (e ∷ past) c)
        new_held has =
            subst IsHeldAfter (new_ticket past e c)
            (held_moved (members p (waits_with past waits run c)) (members p (waits_with (e ∷ past) waits run c))
            same_members (next_ticket past c) (omega arith)
            (dead (next_wait past run c)
            (in_contained (waits_with past waits run c) (next_wait past run c)
            (in_right others (next_wait past run c ∷ []) (next_wait past run c) (inl refl))) has))

        all_held : (w : RunWait) → Contains (waits_with (e ∷ past) waits run c) w → is_in p w ≡ true
            → IsHeldAfter w.ticket
        all_held w here has =
            ⊎_elim (λ (old : In w others). old_held w old has)
            (λ (new : In w (next_wait (e ∷ past) run c ∷ [])). ⊎_elim
            (λ (same : next_wait (e ∷ past) run c ≡ w). subst (λ (v : RunWait). IsHeldAfter v.ticket) same
            (new_held (ap (is_in p) same ∙ has)))
            (λ none. absurd none) new)
            (in_append others (next_wait (e ∷ past) run c ∷ []) w
            (contained_in (waits_with (e ∷ past) waits run c) w here))

      never_moved : NeverEnds (scene_after s past c) (waits_with past waits run c) run.number
          → NeverEnds (scene_after s (e ∷ past) c) (waits_with (e ∷ past) waits run c) run.number
      never_moved never =
          record { set = never.set; has = never.has; deadlock = all_held never.set never.deadlock }

pub refused_asleep_too : RefusedAsleepToo
unfolding IsLegal
refused_asleep_too s past e waits run c Itself legal slept waiting here refuses = (
  same_turned s past e legal legal.2 slept c ∙ refuses.0,
  own_alike s past e legal legal.2 slept c run (contained_in (still_open past) run here) ∙ refuses.1,
)
refused_asleep_too s past e waits run c Circle legal slept waiting here refuses = (
  same_turned s past e legal legal.2 slept c ∙ refuses.0,
  own_alike s past e legal legal.2 slept c run (contained_in (still_open past) run here) ∙ refuses.1,
  never_moved s past e legal legal.2 slept c waits waiting run refuses.2,
)
