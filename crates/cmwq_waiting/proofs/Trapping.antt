-- An entry that begins no wait makes no deadlock, unless it may trap waits.
use Rattle.std.proofs.Common.{◌≡◌, ◌∙◌, ◌∷◌, ◌==◌, ◌≤◌, Bool, List, None, Option, Some, ℕ, ap, arith, count_by, eq-eqb}
use Rattle.std.proofs.Common.{eqb-true, false, filter, length, not, option_to_list, refl, subst, sym, true, ⊎_elim, []}
use Rattle.std.specs.Prelude.{◌&&◌, if◌then◌else◌, Contains, nat_le}
use Rattle.std.specs.List.{list_any, sum_by}
use Rattle.std.specs.Option.{option_or}
use Rattle.std.proofs.lemmas.Bool.{and_from, and_parts, both_ways, false_from_ne_true, le-leb, leb-true, or_cases}
use Rattle.std.proofs.lemmas.Bool.Decides.{nat_tests}
use Rattle.cmwq_lemmas.proofs.Filters.{filter_same, filter_twice}
use Rattle.cmwq_lemmas.proofs.Lists.{count_append, count_by-cons, count_by-none}
use Rattle.cmwq_lemmas.proofs.Members.{In, all_in, any_in, contained_in, filter_in, in_any, in_append, in_contained}
use Rattle.cmwq_lemmas.proofs.Members.{in_filter, in_option}
use Rattle.cmwq_lemmas.proofs.Truth.{same_bools}
unfoldable use Rattle.cmwq_model.specs.Prelude.{IsLegal, is_active, serving_from}
use Rattle.cmwq_model.specs.Prelude.{Layout, cancels_sync, holds_up, is_cancel_sync_of, is_cancelling, is_live}
use Rattle.cmwq_model.specs.Prelude.{is_served_after, is_started, is_unstarted, is_within, max_active, opening}
use Rattle.cmwq_model.specs.Prelude.{queueings, still_open, unended_tickets}
use Rattle.cmwq_model.specs.declared.call.Call.{Call}
use Rattle.cmwq_model.specs.declared.call.Call.TheVariants as call
use Rattle.cmwq_model.specs.declared.entry.Entry.{Entry}
use Rattle.cmwq_model.specs.declared.record.Queueing.{Queueing}
use Rattle.cmwq_model.specs.declared.record.Ticket.{Ticket}
use Rattle.cmwq_theory_steps.specs.Endings.{survives}
use Rattle.cmwq_theory_steps.proofs.Endings.{open_go_on}
use Rattle.cmwq_theory_steps.proofs.Joined.{stays_active}
use Rattle.cmwq_theory_steps.proofs.Rising.{opening_number}
use Rattle.cmwq_theory_laws.proofs.Cancelling.{cancelling_idle}
use Rattle.cmwq_waits.specs.HeldUp.{IsDeadlock, Scene, awaits, has_run_of, have_all_places, have_all_workers}
use Rattle.cmwq_waits.specs.HeldUp.{is_ahead_of_item, is_held_up, is_held_up_by, is_in, is_kept, members, places_ahead}
use Rattle.cmwq_waits.specs.declared.run_wait.RunWait.{RunWait}
use Rattle.cmwq_waits.proofs.Greatest.{same_run}
use Rattle.cmwq_waits.proofs.Loops.{le_or_lt}
use Rattle.cmwq_waits_laws.specs.Lasting.{scene_of}
use Rattle.cmwq_waits_laws.proofs.Counts.{sum_by_each}
use Rattle.cmwq_waits_laws.proofs.Kept.{Way, all_places, all_workers, by_way, its_run, way}
use Rattle.cmwq_waits_laws.proofs.Staying.{open_known}
use Rattle.cmwq_waiting.specs.Deadlocks.{EntriesTrapNone, narrows, queues}
use Rattle.cmwq_waits.specs.Begun.{waits_of, waits_on}
use Rattle.cmwq_waiting.proofs.Rest.{is_found}
use Rattle.cmwq_waits.proofs.Begun.{in_waits, waits_are_apart}
use Rattle.cmwq_waiting.proofs.Waits.{entries_go_on}

-- ---- what holds a ticket up after an entry held it up before

within_back : (past : List Entry) (e : Entry) (q n m : ℕ) → is_within (serving_from (e ∷ past) q n) m ≡ true
    → is_within (serving_from past q n) m ≡ true
unfolding serving_from
within_back past e q n m h = at (serving_from past q n) refl h
  where
    at : (o : Option ℕ) → serving_from past q n ≡ o
        → is_within (option_or o (if nat_le n (length past) && is_served_after (e ∷ past) q n then Some (length past)
        else None)) m ≡ true
        → is_within o m ≡ true
    at (Some b) is k = k
    at None is k = refl

pub holds_back : (past : List Entry) (e : Entry) (n : ℕ) (c : Call) (x : Queueing) → holds_up (e ∷ past) n c x ≡ true
    → holds_up past n c x ≡ true
holds_back past e n (call.Flush q) x h =
    let k = and_parts (x.place.queue.0 == q.0) (is_within (serving_from (e ∷ past) q.0 n) x.number) h in
    and_from _ _ k.0 (within_back past e q.0 n x.number k.1)
holds_back past e n c x h = grind arith

count_kept : (f g : Queueing → Bool) (xs : List Queueing) → count_by f (filter g xs) ≤ count_by f xs
count_kept f g [] = omega arith
count_kept f g (x ∷ xs) = grind (arith, count_by-cons f x xs, count_by-cons f x (filter g xs), count_kept f g xs)

-- the queue of this queueing gets no narrower
abbrev pub IsNoNarrower : Layout → List Entry → Entry → Queueing → Type 0
IsNoNarrower s past e x = max_active s past x.place.queue.0 ≤ max_active s (e ∷ past) x.place.queue.0

module _ (s : Layout) (past : List Entry) (e : Entry) (legal : IsLegal s (e ∷ past)) (before : IsLegal s past) where
  abbrev now : Scene
  now = scene_of s past

  abbrev next : Scene
  next = scene_of s (e ∷ past)

  module _ (t : Ticket) (unended : In t (unended_tickets past)) where
    awaits_back : (x : Queueing) → In x (still_open past) → awaits (e ∷ past) t x ≡ true → awaits past t x ≡ true
    awaits_back x here up =
        ⊎_elim (λ holds. let was = holds_back past e t.number t.call x holds in grind (arith, was))
        (λ of_run. let k = and_parts (cancels_sync x.item.0 t.call) (is_started (e ∷ past) x.number) of_run in
        by (is_started past x.number) refl k.0)
        (or_cases (holds_up (e ∷ past) t.number t.call x)
        (cancels_sync x.item.0 t.call && is_started (e ∷ past) x.number) up)
      where
        by : (b : Bool) → is_started past x.number ≡ b → cancels_sync x.item.0 t.call ≡ true → awaits past t x ≡ true
        by true started cancels = grind (arith, started, cancels)
        by false unstarted cancels =
            let cancelling : is_cancelling past x.item.0 ≡ true =
            any_in (is_cancel_sync_of x.item.0) (unended_tickets past) t unended cancels in
            let idle = cancelling_idle s past x.item.0 before cancelling in
            let of_item : is_unstarted past x.item.0 x ≡ true =
            and_from _ _ (eq-eqb x.item.0 x.item.0 refl) (ap not unstarted) in
            let some = is_found (is_unstarted past x.item.0) (still_open past) x here of_item in
            absurd (grind (arith, idle, some))

  module _ (set : List RunWait) where
    count_back : (x : Queueing) → In x (still_open past) → (w : RunWait)
        → places_ahead next x w ≤ places_ahead now x w
    count_back x here w =
        omega (
          arith,
          ap (count_by f) (open_go_on s past e legal),
          count_append f (filter (survives past e) (still_open past)) (option_to_list (opening past e)),
          count_kept f (survives past e) (still_open past),
          count_by-none f (option_to_list (opening past e)) (all_in _ (option_to_list (opening past e))
              (λ y there. let number = opening_number past e y (in_option (opening past e) y there) in
              let older = open_known past x here in grind (arith, nat_tests, number, older))),
        )
      where
        f : Queueing → Bool
        f = is_ahead_of_item x w.run.item.0

    places_back : (x : Queueing) → In x (still_open past) → IsNoNarrower s past e x
        → have_all_places next set x ≡ true → have_all_places now set x ≡ true
    places_back x here wide all =
        le-leb (max_active s past x.place.queue.0) (sum_by (places_ahead now x) set)
        (omega (
          arith,
          wide,
          leb-true (max_active s (e ∷ past) x.place.queue.0) (sum_by (places_ahead next x) set) all,
          sum_by_each (places_ahead next x) (places_ahead now x) set (λ w there. count_back x here w),
        ))

    unstarted_back : (n : ℕ) → is_started (e ∷ past) n ≡ false → is_started past n ≡ false
    unstarted_back n none = grind (arith, none)

    pub inactive_back : (x : Queueing) → In x (still_open (e ∷ past)) → is_active s (e ∷ past) x ≡ false
        → is_active s past x ≡ false
    inactive_back x there none =
        false_from_ne_true _ (λ active. both_ways _ none (stays_active s past e x active
        (in_filter (is_live (e ∷ past)) (queueings (e ∷ past)) x there).1))

    kept_back : (x : Queueing) → In x (still_open past) → In x (still_open (e ∷ past))
        → (is_started past x.number ≡ false → IsNoNarrower s past e x) → is_kept next set x ≡ true
        → is_kept now set x ≡ true
    kept_back x here there wide kept =
        by_way (has_run_of set x.item.0) (is_started past x.number) (have_all_workers s set x.place)
        (is_active s past x) (have_all_places now set x)
        (by (way (has_run_of set x.item.0) (is_started (e ∷ past) x.number) (have_all_workers s set x.place)
        (is_active s (e ∷ past) x) (have_all_places next set x) kept))
      where
        by : Way (has_run_of set x.item.0) (is_started (e ∷ past) x.number) (have_all_workers s set x.place)
            (is_active s (e ∷ past) x) (have_all_places next set x)
            → Way (has_run_of set x.item.0) (is_started past x.number) (have_all_workers s set x.place)
            (is_active s past x) (have_all_places now set x)
        by (its_run is) = its_run is
        by (all_workers unstarted is) = all_workers (unstarted_back x.number unstarted) is
        by (all_places unstarted inactive is) =
            let none = unstarted_back x.number unstarted in
            all_places none (inactive_back x there inactive) (places_back x here (wide none) is)

    pub held_back : (t : Ticket) → In t (unended_tickets past)
        → ((x : Queueing) → In x (still_open past) → is_started past x.number ≡ false → awaits past t x ≡ true
        → IsNoNarrower s past e x)
        → ((x : Queueing) → opening past e ≡ Some x → awaits (e ∷ past) t x ≡ true → ⊥)
        → is_held_up next set t ≡ true → is_held_up now set t ≡ true
    held_back t unended wide apart held =
        let k = in_any (is_held_up_by next set t) (still_open (e ∷ past)) held in
        let x = k.0 in
        let parts = and_parts (awaits (e ∷ past) t x) (is_kept next set x) k.2 in
        ⊎_elim
        (λ old. let here = (in_filter (survives past e) (still_open past) x old).0 in
        let was = awaits_back t unended x here parts.0 in
        any_in (is_held_up_by now set t) (still_open past) x here
        (and_from _ _ was (kept_back x here k.1 (λ unstarted. wide x here unstarted was) parts.1)))
        (λ new. absurd (apart x (in_option (opening past e) x new) parts.0))
        (in_append (filter (survives past e) (still_open past)) (option_to_list (opening past e)) x
        (subst (In x) (open_go_on s past e legal) k.1))

-- ---- so a deadlock after an entry was one before

pub entries_trap_none : EntriesTrapNone
unfolding IsLegal
entries_trap_none first s past e legal none calm alive p dead w here =
    let was = (in_filter on ws w (there w here)).0 in
    let out = alive q before w (in_contained ws w was) in
    let some = any_in (has_number_of w.run.number) (filter on ws) w (there w here)
    (eq-eqb w.run.number w.run.number refl) in
    grind (arith, out, some)
  where
    ws : List RunWait
    ws = waits_of first past

    on : RunWait → Bool
    on = waits_on past e

    has_number_of : ℕ → RunWait → Bool
    has_number_of n v = v.run.number == n

    q : ℕ → Bool
    q n = p n && list_any (has_number_of n) (filter on ws)

    same : waits_of first (e ∷ past) ≡ filter on ws
    same = entries_go_on first past e none

    there : (v : RunWait) → Contains (waits_of first (e ∷ past)) v → In v (filter on ws)
    there v h = subst (In v) same (contained_in (waits_of first (e ∷ past)) v h)

    stays : (v : RunWait) → In v ws → list_any (has_number_of v.run.number) (filter on ws) ≡ true → on v ≡ true
    stays v was some =
        let k = in_any (has_number_of v.run.number) (filter on ws) some in
        let u = in_filter on ws k.0 k.1 in
        subst (λ (x : RunWait). on x ≡ true)
        (same_run ws k.0 v (waits_are_apart first s past legal.2) u.0 was
        (eqb-true k.0.run.number v.run.number k.2)) u.1

    members_same : members q ws ≡ members p (waits_of first (e ∷ past))
    members_same =
        filter_same (is_in q) (λ v. on v && is_in p v) ws
        (all_in _ ws (λ v was. same_bools (is_in q v) (on v && is_in p v)
        (λ both. let k = and_parts (p v.run.number) (list_any (has_number_of v.run.number) (filter on ws)) both in
        and_from _ _ (stays v was k.1) k.0)
        (λ both. let k = and_parts (on v) (p v.run.number) both in
        and_from _ _ k.1 (any_in (has_number_of v.run.number) (filter on ws) v (filter_in on ws v was k.0)
        (eq-eqb v.run.number v.run.number refl)))))
        ∙ sym (filter_twice (is_in p) on ws)
        ∙ ap (members p) (sym same)

    before : IsDeadlock (scene_of s past) ws q
    before v was is =
        let k = and_parts (p v.run.number) (list_any (has_number_of v.run.number) (filter on ws)) is in
        let v_was = contained_in ws v was in
        let v_there = in_contained (waits_of first (e ∷ past)) v
        (subst (In v) (sym same) (filter_in on ws v v_was (stays v v_was k.1))) in
        let held = dead v v_there k.0 in
        held_back s past e legal legal.2 (members q ws) v.ticket
        (contained_in (unended_tickets past) v.ticket (in_waits first s past legal.2 v v_was).unended)
        (λ x here unstarted up. ⊎_elim (λ less. less)
        (λ more. absurd (calm (narrows v was x (in_contained (still_open past) x here) unstarted up more)))
        (le_or_lt (max_active s past x.place.queue.0) (max_active s (e ∷ past) x.place.queue.0)))
        (λ x opens up. calm (queues v was x opens up))
        (subst (λ (vs : List RunWait). is_held_up (scene_of s (e ∷ past)) vs v.ticket ≡ true) (sym members_same) held)
