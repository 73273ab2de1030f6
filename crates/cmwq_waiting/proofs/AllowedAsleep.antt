-- A wait that is not refused is not refused either once its run has fallen asleep.
use Rattle.std.proofs.Common.{◌≡◌, ◌∙◌, ◌∷◌, ◌==◌, ◌≤◌, ◌<◌, Bool, List, None, Option, Some, ℕ, ap, arith, false}
use Rattle.std.proofs.Common.{filter, inl, inr, length, refl, subst, suc, sym, true, ⊎_elim, []}
use Rattle.std.specs.Prelude.{◌&&◌, Contains, nat_le}
use Rattle.std.proofs.lemmas.Bool.{and_from, and_parts, both_ways, cases_lt, false_from_ne_true, or_cases}
use Rattle.std.proofs.lemmas.Bool.Decides.{nat_tests}
use Rattle.cmwq_lemmas.proofs.Members.{In, any_in, contained_in, in_any, in_append, in_contained, in_filter, in_left}
use Rattle.cmwq_lemmas.proofs.Members.{in_map, in_right, of_in}
unfoldable use Rattle.cmwq_model.specs.Prelude.{IsLegal, is_active, queueings}
use Rattle.cmwq_model.specs.Prelude.{Layout, cancels_sync, holds_up, is_live, is_started, is_within, serving_from}
use Rattle.cmwq_model.specs.Prelude.{still_open, unended_tickets}
use Rattle.cmwq_model.specs.declared.call.Call.{Call}
use Rattle.cmwq_model.specs.declared.call.Call.TheVariants as call
use Rattle.cmwq_model.specs.declared.entry.Entry.{Entry}
use Rattle.cmwq_model.specs.declared.record.Queueing.{Queueing}
use Rattle.cmwq_model.specs.declared.record.Ticket.{Ticket}
use Rattle.cmwq_model.specs.declared.reply.Reply.TheVariants as reply
use Rattle.cmwq_theory_steps.specs.Endings.{survives}
use Rattle.cmwq_theory_steps.proofs.Active.{not_active_yet}
use Rattle.cmwq_theory_steps.proofs.Fresh.{not_started_yet}
use Rattle.cmwq_theory_steps.proofs.Given.{IsGiven, unended_given}
use Rattle.cmwq_theory_steps.proofs.Joined.{stays_active}
use Rattle.cmwq_theory_steps.proofs.TicketSteps.{not_served_yet}
use Rattle.cmwq_waits.specs.HeldUp.{AreWaiting, NeverEnds, awaits, has_run_of, have_all_places, have_all_workers}
use Rattle.cmwq_waits.specs.HeldUp.{is_held_up, is_held_up_by, is_in, is_kept, members}
use Rattle.cmwq_waits.specs.Refused.{is_other, next_ticket, next_wait, scene_after, waits_with}
use Rattle.cmwq_waits.specs.declared.run_wait.RunWait.{RunWait}
use Rattle.cmwq_waits_laws.proofs.Alike.{HaveSameRuns, last_alike, members_alike, places_alike, runs_alike}
use Rattle.cmwq_waits_laws.proofs.Alike.{workers_alike}
use Rattle.cmwq_waits_laws.proofs.Asleep.{move, moved, moved_new, moved_old, moved_opened, now, old_or_new}
use Rattle.cmwq_waits_laws.proofs.Asleep.{places_moved, same_serving, same_started, same_turned, within}
use Rattle.cmwq_waits_laws.proofs.Kept.{Way, all_places, all_workers, by_way, its_run, way}
use Rattle.cmwq_waits_laws.proofs.Staying.{open_known, stays_open}
use Rattle.cmwq_waits_laws.proofs.StillRefused.{move_ticket, new_ticket, own_alike, same_ticket}
use Rattle.cmwq_waiting.specs.Deadlocks.{AllowedAsleepToo}

moved_back : (last a b : ℕ) → a ≤ last → b ≤ last → nat_le (moved last a) (moved last b) ≡ true → nat_le a b ≡ true
moved_back last a b below within less = grind (arith, nat_tests, below, within, less)

module _ (s : Layout) (past : List Entry) (e : Entry) (legal : IsLegal s (e ∷ past)) (before : IsLegal s past)
    (slept : e.reply ≡ reply.Slept) where
  served_back : (q n m : ℕ) → n ≤ length past → m ≤ length past
      → is_within (serving_from (e ∷ past) q (moved (length past) n)) (moved (length past) m) ≡ true
      → is_within (serving_from past q n) m ≡ true
  served_back q n m below inside up =
      ⊎_elim
      (λ (old : n < length past). by (serving_from past q n)
      (ap (λ o. is_within o (moved (length past) m)) (sym (ap (serving_from (e ∷ past) q) (moved_old
      (length past) n old)
      ∙ same_serving s past e legal before slept q n old)) ∙ up))
      (λ (last : length past ≤ n). ap (λ o. is_within o m) (not_served_yet past q n last))
      (cases_lt n (length past))
    where
      by : (o : Option ℕ) → is_within o (moved (length past) m) ≡ true → is_within o m ≡ true
      by None h = refl
      by (Some b) h = grind (arith, nat_tests, h)

  holds_unmoved : (n : ℕ) (c : Call) (x : Queueing) → n ≤ length past → x.number ≤ length past
      → holds_up (e ∷ past) (moved (length past) n) c (move (length past) x) ≡ true
      → holds_up past n c x ≡ true
  holds_unmoved n (call.Flush q) x below inside up =
      let k = and_parts (x.place.queue.0 == q.0)
      (is_within (serving_from (e ∷ past) q.0 (moved (length past) n)) (moved (length past) x.number)) up in
      and_from _ _ k.0 (served_back q.0 n x.number below inside k.1)
  holds_unmoved n (call.FlushItem i) x below inside up =
      let k = and_parts (x.item.0 == i.0) (nat_le (moved (length past) x.number) (moved (length past) n)) up in
      and_from _ _ k.0 (moved_back (length past) x.number n inside below k.1)
  holds_unmoved n (call.FlushDelayed i) x below inside up =
      let k = and_parts (x.item.0 == i.0) (nat_le (moved (length past) x.number) (moved (length past) n)) up in
      and_from _ _ k.0 (moved_back (length past) x.number n inside below k.1)
  holds_unmoved n (call.Drain q) x below inside up = up
  holds_unmoved n (call.Destroy q) x below inside up = up
  holds_unmoved n c x below inside up = absurd (cc up)

  module _ (c : Call) where
    abbrev seen : List Queueing
    seen = (now s past e legal before slept c).opened

    started_back : (x : Queueing) → In x seen → is_started (e ∷ past) (moved (length past) x.number) ≡ true
        → is_started past x.number ≡ true
    started_back x here started =
        ⊎_elim
        (λ old. sym (same_started s past e legal before slept x.number)
        ∙ ap (is_started (e ∷ past)) (sym (moved_old (length past) x.number (open_known past x old))) ∙ started)
        (λ new. absurd (both_ways _
        (ap (λ n. is_started (e ∷ past) (moved (length past) n)) new ∙ ap (is_started (e ∷ past)) (moved_new
        (length past))
        ∙ not_started_yet s (e ∷ past) (suc (length past)) legal (omega arith)) started))
        (old_or_new s past e legal before slept c x here)

    unstarted_back : (x : Queueing) → In x seen → is_started (e ∷ past) (moved (length past) x.number) ≡ false
        → is_started past x.number ≡ false
    unstarted_back x here none =
        ⊎_elim
        (λ old. sym (same_started s past e legal before slept x.number)
        ∙ ap (is_started (e ∷ past)) (sym (moved_old (length past) x.number (open_known past x old))) ∙ none)
        (λ new. ap (is_started past) new ∙ not_started_yet s past (length past) before (omega arith))
        (old_or_new s past e legal before slept c x here)

    inactive_back : (x : Queueing) → In x seen → is_active s (e ∷ past) (move (length past) x) ≡ false
        → is_active s past x ≡ false
    inactive_back x here none =
        ⊎_elim
        (λ old. false_from_ne_true _ (λ active.
        let same : move (length past) x ≡ x =
        ap (λ n. record { item = x.item; place = x.place; number = n })
        (moved_old (length past) x.number (open_known past x old)) in
        both_ways _ (ap (is_active s (e ∷ past)) (sym same) ∙ none)
        (stays_active s past e x active
        (in_filter (is_live (e ∷ past)) (queueings (e ∷ past)) x (stays_open s past e legal x old (all_on x))).1)))
        (λ new. not_active_yet s past x new)
        (old_or_new s past e legal before slept c x here)
      where
        all_on : (y : Queueing) → survives past e y ≡ true
        all_on y = let is = slept in grind (arith, is)

    awaits_back : (t : Ticket) (x : Queueing) → t.number ≤ length past → In x seen
        → awaits (e ∷ past) (move_ticket (length past) t) (move (length past) x) ≡ true → awaits past t x ≡ true
    awaits_back t x below here up =
        let m = moved (length past) t.number in
        let y = move (length past) x in
        ⊎_elim
        (λ holds. let was = holds_unmoved t.number t.call x below (within s past e legal before slept c x here) holds in
        grind (arith, was))
        (λ of_run. let k = and_parts (cancels_sync x.item.0 t.call) (is_started (e ∷ past) y.number) of_run in
        let cancels = k.0 in
        let was = started_back x here k.1 in
        grind (arith, cancels, was))
        (or_cases (holds_up (e ∷ past) m t.call y) (cancels_sync x.item.0 t.call && is_started (e ∷ past) y.number) up)

    held_unmoved : (vs ws : List RunWait) → HaveSameRuns vs ws → (t : Ticket) → t.number ≤ length past
        → is_held_up (scene_after s (e ∷ past) c) vs (move_ticket (length past) t) ≡ true
        → is_held_up (scene_after s past c) ws t ≡ true
    held_unmoved vs ws same t below held =
        let k = in_any (is_held_up_by (scene_after s (e ∷ past) c) vs (move_ticket (length past) t))
        (scene_after s (e ∷ past) c).opened held in
        let m = in_map (move (length past)) seen k.0
        (subst (In k.0) (moved_opened s past e legal before slept c) k.1) in
        let x = m.0 in
        let both_are : (awaits (e ∷ past) (move_ticket (length past) t) (move (length past) x)
        && is_kept (scene_after s (e ∷ past) c) vs (move (length past) x)) ≡ true =
        ap (is_held_up_by (scene_after s (e ∷ past) c) vs (move_ticket (length past) t)) m.2 ∙ k.2 in
        let parts = and_parts (awaits (e ∷ past) (move_ticket (length past) t) (move (length past) x))
        (is_kept (scene_after s (e ∷ past) c) vs (move (length past) x)) both_are in
        any_in (is_held_up_by (scene_after s past c) ws t) seen x m.1
        (and_from _ _ (awaits_back t x below m.1 parts.0) (kept x m.1 parts.1))
      where
        kept : (x : Queueing) → In x seen → is_kept (scene_after s (e ∷ past) c) vs (move (length past) x) ≡ true
            → is_kept (scene_after s past c) ws x ≡ true
        kept x here is =
            by_way (has_run_of ws x.item.0) (is_started past x.number) (have_all_workers s ws x.place)
            (is_active s past x) (have_all_places (scene_after s past c) ws x)
            (by (way (has_run_of vs x.item.0) (is_started (e ∷ past) (moved (length past) x.number))
            (have_all_workers s vs x.place) (is_active s (e ∷ past) (move (length past) x))
            (have_all_places (scene_after s (e ∷ past) c) vs (move (length past) x)) is))
          where
            by : Way (has_run_of vs x.item.0) (is_started (e ∷ past) (moved (length past) x.number))
                (have_all_workers s vs x.place) (is_active s (e ∷ past) (move (length past) x))
                (have_all_places (scene_after s (e ∷ past) c) vs (move (length past) x))
                → Way (has_run_of ws x.item.0) (is_started past x.number) (have_all_workers s ws x.place)
                (is_active s past x) (have_all_places (scene_after s past c) ws x)
            by (its_run has) = its_run (sym (runs_alike vs ws same x.item.0) ∙ has)
            by (all_workers unstarted all) =
                all_workers (unstarted_back x here unstarted) (sym (workers_alike vs ws same s x.place) ∙ all)
            by (all_places unstarted inactive all) =
                all_places (unstarted_back x here unstarted) (inactive_back x here inactive)
                (sym (places_moved s past e legal before slept c ws x here)
                ∙ sym (places_alike vs ws same (scene_after s (e ∷ past) c) (move (length past) x)) ∙ all)

    -- ---- whether it could never end

    module _ (waits : List RunWait) (waiting : AreWaiting past waits) (run : Queueing) where
      abbrev others : List RunWait
      others = filter (is_other run.number) waits

      never_unmoved : NeverEnds (scene_after s (e ∷ past) c) (waits_with (e ∷ past) waits run c) run.number
          → NeverEnds (scene_after s past c) (waits_with past waits run c) run.number
      never_unmoved never = record { set = p; has = never.has; deadlock = λ w there has. of_all w there has }
        where
          p : ℕ → Bool
          p = never.set

          alike : HaveSameRuns (members p (waits_with (e ∷ past) waits run c)) (members p (waits_with past waits run c))
          alike = members_alike p (waits_with (e ∷ past) waits run c) (waits_with past waits run c)
              (last_alike others (next_wait (e ∷ past) run c) (next_wait past run c) refl)

          back : (t : Ticket) → t.number ≤ length past
              → is_held_up (scene_after s (e ∷ past) c) (members p (waits_with (e ∷ past) waits run c))
              (move_ticket (length past) t) ≡ true
              → is_held_up (scene_after s past c) (members p (waits_with past waits run c)) t ≡ true
          back t below held =
              held_unmoved (members p (waits_with (e ∷ past) waits run c)) (members p
              (waits_with past waits run c)) alike t
              below held

          of_all : (w : RunWait) → Contains (waits_with past waits run c) w → is_in p w ≡ true
              → is_held_up (scene_after s past c) (members p (waits_with past waits run c)) w.ticket ≡ true
          of_all w there has =
              ⊎_elim
              (λ old. let is = waiting w (in_contained waits w (in_filter (is_other run.number) waits w old).0) in
              let given = of_in (IsGiven past) (unended_tickets past) w.ticket (unended_given past)
              (contained_in (unended_tickets past) w.ticket is.is_unended) in
              let known = given.older in
              back w.ticket (omega (arith, known))
              (subst (λ (t : Ticket). is_held_up (scene_after s (e ∷ past) c)
              (members p (waits_with (e ∷ past) waits run c)) t ≡ true) (sym (same_ticket (length past) w.ticket known))
              (never.deadlock w (in_contained (waits_with (e ∷ past) waits run c) w
              (in_left others (next_wait (e ∷ past) run c ∷ []) w old)) has)))
              (λ new. ⊎_elim (λ same. subst (λ (v : RunWait).
              is_held_up (scene_after s past c) (members p (waits_with past waits run c)) v.ticket ≡ true) same
              (back (next_ticket past c) (omega arith)
              (subst (λ (t : Ticket). is_held_up (scene_after s (e ∷ past) c)
              (members p (waits_with (e ∷ past) waits run c)) t ≡ true) (sym (new_ticket past e c))
              (never.deadlock (next_wait (e ∷ past) run c) (in_contained (waits_with (e ∷ past) waits run c)
              (next_wait (e ∷ past) run c)
              (in_right others (next_wait (e ∷ past) run c ∷ []) (next_wait (e ∷ past) run c) (inl refl))) never.has))))
              (λ none. absurd none) new)
              (in_append others (next_wait past run c ∷ []) w (contained_in (waits_with past waits run c) w there))

pub allowed_asleep_too : AllowedAsleepToo
unfolding IsLegal
allowed_asleep_too s past e waits run c legal slept waiting here allowed =
    ⊎_elim (λ turned. inl (same_turned s past e legal legal.2 slept c ∙ turned))
    (λ k. inr (
      own_alike s past e legal legal.2 slept c run (contained_in (still_open past) run here) ∙ k.0,
      λ never. k.1 (never_unmoved s past e legal legal.2 slept c waits waiting run never),
    )) allowed
