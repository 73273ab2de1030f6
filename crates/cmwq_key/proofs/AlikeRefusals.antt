-- Which waits are refused, in pasts that are alike.
use Rattle.std.specs.Prelude.{◌&&◌, ◌||◌, ◌==◌, ◌<◌, ◌⊎◌, ◌++◌, nat_le, nat_lt, not, if◌then◌else◌}
use Rattle.std.specs.List.{AllByRecursion}
use Rattle.std.specs.Option.{option_map_or}
use Rattle.std.proofs.Common.{◌≡◌, ◌∙◌, ℕ, true, List, [], ◌∷◌, length, map, filter, Option, Some, None, option_map}
use Rattle.std.proofs.Common.{option_to_list, is_some, ap, ap₂, refl, sym, subst, arith, inl, inr, ⊎_elim}
use Rattle.std.proofs.lemmas.Bool.Decides.{nat_tests}
use Rattle.cmwq_lemmas.proofs.Members.{In, all_in, in_append, in_filter, in_mapped, in_option, of_in}
use Rattle.cmwq_model.specs.Prelude.{IsLegal, Layout, booking, cancels_sync, holds_up, is_flush_of, is_started}
use Rattle.cmwq_model.specs.Prelude.{is_within, item_run, queued_at, serving_from, still_open, unended_tickets}
unfoldable use Rattle.cmwq_model.specs.Prelude.{is_active}
use Rattle.cmwq_model.specs.declared.call.Call.{Call}
use Rattle.cmwq_model.specs.declared.call.Call.TheVariants as call
use Rattle.cmwq_model.specs.declared.entry.Entry.{Entry}
use Rattle.cmwq_model.specs.declared.id.ItemId.{ItemId}
use Rattle.cmwq_model.specs.declared.record.Booking.{Booking}
use Rattle.cmwq_model.specs.declared.record.Place.{Place}
use Rattle.cmwq_model.specs.declared.record.Queueing.{Queueing}
use Rattle.cmwq_model.specs.declared.record.Start.{Start}
use Rattle.cmwq_model.specs.declared.record.Ticket.{Ticket}
use Rattle.cmwq_theory_steps.proofs.Active.{not_active_yet}
use Rattle.cmwq_theory_steps.proofs.Fresh.{not_started_yet}
use Rattle.cmwq_theory_steps.proofs.TicketSteps.{not_served_yet}
use Rattle.std.proofs.lemmas.List.{map-append}
use Rattle.cmwq_alike.proofs.Lemmas.{both_parts}
use Rattle.cmwq_alike.specs.Alike.{IsAlike, IsServedAlike, Matters, next_by, queueing_by, start_by, ticket_by}
use Rattle.cmwq_alike.specs.Alike.{ticket_number, unnumbered}
use Rattle.cmwq_alike.proofs.Lemmas.{filter_mapped, map_alike}
use Rattle.cmwq_alike.proofs.Looks.{held_back_alike}
use Rattle.cmwq_alike.proofs.Numbers.{each_stays, less_alike, new_is, old_stays, open_matters}
use Rattle.cmwq_alike.proofs.Orders.{old_of}
use Rattle.cmwq_alike.proofs.Served.{served_below}
use Rattle.cmwq_waits.specs.HeldUp.{awaits}
use Rattle.cmwq_waits.specs.Refused.{is_other, is_turned_away, item_taken_back, never_ends, next_ticket, next_wait}
use Rattle.cmwq_waits.specs.Refused.{queued, refusal, scene_after, stays_open, waits_with}
use Rattle.cmwq_waits.specs.declared.run_wait.RunWait.{RunWait}
use Rattle.cmwq_waits.specs.declared.waits.Stuck.TheVariants.{Itself, Circle}
use Rattle.cmwq_key.proofs.AlikeScenes.{AreScenesAlike, never_alike, wait_by}

-- a number that matters, or that of the next entry
abbrev pub IsNear : List Entry → ℕ → Type 0
IsNear past n = Matters past n ⊎ (n ≡ length past)

within_new : (a b : Option ℕ) (n m : ℕ) → is_some a ≡ is_some b → ((i : ℕ) → a ≡ Some i → i < n)
    → ((i : ℕ) → b ≡ Some i → i < m) → is_within a n ≡ is_within b m
within_new None None n m same la lb = refl
within_new (Some i) None n m same la lb = absurd (cc same)
within_new None (Some j) n m same la lb = absurd (cc same)
within_new (Some i) (Some j) n m same la lb = let p = la i refl in let q = lb j refl in grind (arith, nat_tests)

module _ {s : Layout} {f : ℕ → ℕ} {past other : List Entry} (a : IsAlike s f past other) where
  abbrev pub by : ℕ → ℕ
  by = next_by f past other

  near_order : (n m : ℕ) → IsNear past n → IsNear past m → nat_lt (by n) (by m) ≡ nat_lt n m
  near_order n m near_n near_m =
      ⊎_elim (λ mn. ⊎_elim (both_old mn) (old_new mn) near_m) (λ new. ⊎_elim (new_old new) (both_new new) near_m) near_n
    where
      both_old : Matters past n → Matters past m → nat_lt (by n) (by m) ≡ nat_lt n m
      both_old mn mm =
          rw (old_stays f past other n (old_of past n mn).below, old_stays f past other m (old_of past m mm).below)
          (a.order n m mn mm)

      old_new : Matters past n → m ≡ length past → nat_lt (by n) (by m) ≡ nat_lt n m
      old_new mn new =
          let less = a.below n mn in
          let small = (old_of past n mn).below in
          rw (old_stays f past other n small, new, new_is f past other) (grind (arith, nat_tests))

      new_old : n ≡ length past → Matters past m → nat_lt (by n) (by m) ≡ nat_lt n m
      new_old new mm =
          let less = a.below m mm in
          let small = (old_of past m mm).below in
          rw (old_stays f past other m small, new, new_is f past other) (grind (arith, nat_tests))

      both_new : n ≡ length past → m ≡ length past → nat_lt (by n) (by m) ≡ nat_lt n m
      both_new new also = rw (new, also) (grind (arith, nat_tests))

  near_later : (n m : ℕ) → IsNear past n → IsNear past m → nat_le (by n) (by m) ≡ nat_le n m
  near_later n m near_n near_m = at n m (by n) (by m) (near_order m n near_m near_n)
    where
      at : (n m i j : ℕ) → nat_lt j i ≡ nat_lt m n → nat_le i j ≡ nat_le n m
      at n m i j h = grind (arith, nat_tests)

  pub near_same : (n m : ℕ) → IsNear past n → IsNear past m → (by n == by m) ≡ (n == m)
  near_same n m near_n near_m =
      less_alike n m (by n) (by m) (near_order n m near_n near_m) (near_order m n near_m near_n)

  -- ---- what is open in a scene

  -- open, or queued next
  abbrev IsOpenOrNext : Queueing → Type 0
  IsOpenOrNext x = In x (still_open past) ⊎ (x.number ≡ length past)

  near_open : (x : Queueing) → IsOpenOrNext x → IsNear past x.number
  near_open x here = ⊎_elim (λ old. inl (open_matters past x old)) (λ new. inr new) here

  pub by_old : (x : Queueing) → In x (still_open past) → by x.number ≡ f x.number
  by_old x old = old_stays f past other x.number (old_of past x.number (open_matters past x old)).below

  by_new : (n : ℕ) → n ≡ length past → by n ≡ length other
  by_new n new = ap by new ∙ new_is f past other

  started_alike : IsLegal s past → IsLegal s other → (x : Queueing) → IsOpenOrNext x
      → is_started other (by x.number) ≡ is_started past x.number
  started_alike legal other_legal x here =
      ⊎_elim (λ old. ap (is_started other) (by_old x old) ∙ of_in _ (still_open past) x a.started old)
      (λ new. let its = by_new x.number new in
      not_started_yet s other (by x.number) other_legal (omega arith)
      ∙ sym (not_started_yet s past x.number legal (omega arith))) here

  active_alike : (x : Queueing) → IsOpenOrNext x → is_active s other (queueing_by by x) ≡ is_active s past x
  active_alike x here =
      ⊎_elim
      (λ old. ap (λ n. is_active s other (record x { number = n })) (by_old x old)
      ∙ of_in _ (still_open past) x a.active old)
      (λ new. not_active_yet s other (queueing_by by x) (by_new x.number new) ∙ sym (not_active_yet s past x new)) here

  opened_alike : still_open other ≡ map (queueing_by by) (still_open past)
  opened_alike = a.opened ∙ map_alike (queueing_by f) (queueing_by by) (still_open past) (each_stays f past other)

  queued_alike : (c : Call) → queued other c ≡ option_map (queueing_by by) (queued past c)
  queued_alike (call.FlushDelayed i) = at (booking other i.0) (booking past i.0) (a.bookings i.0)
    where
      cpu : (p : Place) (o : Option Start)
          → option_map_or (λ (x : Start). x.worker.pool.cpu) (option_map (start_by f) o) p.cpu
          ≡ option_map_or (λ (x : Start). x.worker.pool.cpu) o p.cpu
      cpu p None = refl
      cpu p (Some x) = refl

      same : (p : Place) → queued_at other i.0 p ≡ queueing_by by (queued_at past i.0 p)
      same p =
          ap₂ (λ c n. record { item = record { 0 = i.0 }; place = record { queue = p.queue; cpu = c }; number = n })
          (ap (λ o. option_map_or (λ (x : Start). x.worker.pool.cpu) o p.cpu) (a.item_runs i.0)
          ∙ cpu p (item_run past i.0))
          (sym (new_is f past other))

      place : (b c : Booking) → unnumbered b ≡ unnumbered c → b.place ≡ c.place
      place b c h = grind arith

      at : (o p : Option Booking) → option_map unnumbered o ≡ option_map unnumbered p
          → option_map (λ (b : Booking). queued_at other i.0 b.place) o
          ≡ option_map (queueing_by by) (option_map (λ (b : Booking). queued_at past i.0 b.place) p)
      at None None h = refl
      at None (Some c) h = absurd (grind arith)
      at (Some b) None h = absurd (grind arith)
      at (Some b) (Some c) h = ap Some (ap (queued_at other i.0) (grind arith) ∙ same c.place)
  queued_alike c = refl

  queued_next : (c : Call) (x : Queueing) → queued past c ≡ Some x → x.number ≡ length past
  queued_next (call.FlushDelayed i) x h = at (booking past i.0) h
    where
      at : (o : Option Booking) → option_map (λ (b : Booking). queued_at past i.0 b.place) o ≡ Some x
          → x.number ≡ length past
      at None h = absurd (grind arith)
      at (Some b) h = grind arith
  queued_next c x h = absurd (cc h)

  -- what is open in the scene after a call
  in_scene : (c : Call) (x : Queueing) → In x (scene_after s past c).opened → IsOpenOrNext x
  in_scene c x here =
      ⊎_elim (λ left. inl (in_filter (stays_open past (item_taken_back c)) (still_open past) x left).0)
      (λ right. inr (queued_next c x (in_option (queued past c) x right)))
      (in_append (filter (stays_open past (item_taken_back c)) (still_open past)) (option_to_list (queued past c)) x
      here)

  stays_alike : IsLegal s past → IsLegal s other → (taken : Option ItemId) (x : Queueing) → In x (still_open past)
      → stays_open other taken (queueing_by by x) ≡ stays_open past taken x
  stays_alike legal other_legal None x old = refl
  stays_alike legal other_legal (Some i) x old =
      ap (λ b. not ((x.item.0 == i.0) && not b)) (started_alike legal other_legal x (inl old))

  listed : (o : Option Queueing)
      → option_to_list (option_map (queueing_by by) o) ≡ map (queueing_by by) (option_to_list o)
  listed None = refl
  listed (Some x) = refl

  pub scenes_alike : IsLegal s past → IsLegal s other → (c : Call)
      → AreScenesAlike by (scene_after s past c) (scene_after s other c)
  scenes_alike legal other_legal c =
      record {
        layout = refl;
        opened =
            ap₂ (λ xs ys. xs ++ ys)
            (ap (filter (stays_open other (item_taken_back c))) opened_alike
            ∙ filter_mapped (queueing_by by) (stays_open other (item_taken_back c))
            (stays_open past (item_taken_back c))
            (still_open past) (all_in _ (still_open past) (stays_alike legal other_legal (item_taken_back c))))
            (ap option_to_list (queued_alike c) ∙ listed (queued past c))
            ∙ sym (map-append (queueing_by by) (filter (stays_open past (item_taken_back c)) (still_open past))
            (option_to_list (queued past c)));
        widths = a.widths;
        started = λ x here. started_alike legal other_legal x (in_scene c x here);
        active = λ x here. active_alike x (in_scene c x here);
        order = λ x y here there.
            near_order x.number y.number (near_open x (in_scene c x here)) (near_open y (in_scene c y there));
      }

  -- ---- what tickets wait for

  -- unended, or given next
  abbrev IsUnendedOrNext : Ticket → Type 0
  IsUnendedOrNext t = In t (unended_tickets past) ⊎ (t.number ≡ length past)

  near_ticket : (t : Ticket) → IsUnendedOrNext t → IsNear past t.number
  near_ticket t here =
      ⊎_elim (λ old. inl (inr (in_mapped ticket_number (unended_tickets past) t old))) (λ new. inr new) here

  flush_alike : (q : ℕ) (t : Ticket) → IsUnendedOrNext t → is_flush_of q t ≡ true → (x : Queueing) → IsOpenOrNext x
      → (x.place.queue.0 == q) ≡ true
      → is_within (serving_from other q (by t.number)) (by x.number) ≡ is_within (serving_from past q t.number) x.number
  flush_alike q t here flush x there on = ⊎_elim of_old of_new here
    where
      of_new : t.number ≡ length past
          → is_within (serving_from other q (by t.number)) (by x.number)
          ≡ is_within (serving_from past q t.number) x.number
      of_new new =
          let its = by_new t.number new in
          let none = not_served_yet past q t.number (omega arith) in
          let other_none = not_served_yet other q (by t.number) (omega arith) in
          ap (λ o. is_within o (by x.number)) other_none ∙ sym (ap (λ o. is_within o x.number) none)

      of_old : In t (unended_tickets past)
          → is_within (serving_from other q (by t.number)) (by x.number)
          ≡ is_within (serving_from past q t.number) x.number
      of_old old =
          let is : by t.number ≡ f t.number =
          old_stays f past other t.number
          (old_of past t.number (inr (in_mapped ticket_number (unended_tickets past) t old))).below in
          let served : IsServedAlike f past other q t.number =
          of_in _ (unended_tickets past) t (a.served q) old flush in
          ap (λ n. is_within (serving_from other q n) (by x.number)) is
          ∙ ⊎_elim
          (λ open_one. ap (is_within (serving_from other q (f t.number))) (by_old x open_one)
          ∙ of_in _ (still_open past) x served.within open_one on)
          (λ new. within_new _ _ (by x.number) x.number served.both
          (λ i h. let less = served_below other q (f t.number) i h in let its = by_new x.number new in omega arith)
          (λ i h. let less = served_below past q t.number i h in omega arith)) there

  holds_alike : (t : Ticket) → IsUnendedOrNext t → (x : Queueing) → IsOpenOrNext x → (c : Call) → t.call ≡ c
      → holds_up other (by t.number) c (queueing_by by x) ≡ holds_up past t.number c x
  holds_alike t here x there (call.Flush q) is =
      let flush : is_flush_of q.0 t ≡ true = grind (arith, nat_tests) in
      both_parts (x.place.queue.0 == q.0) _ _ (flush_alike q.0 t here flush x there)
  holds_alike t here x there (call.FlushItem l) is =
      ap (λ b. (x.item.0 == l.0) && b) (near_later x.number t.number (near_open x there) (near_ticket t here))
  holds_alike t here x there (call.FlushDelayed l) is =
      ap (λ b. (x.item.0 == l.0) && b) (near_later x.number t.number (near_open x there) (near_ticket t here))
  holds_alike t here x there c is = refl

  awaits_alike : IsLegal s past → IsLegal s other → (t : Ticket) → IsUnendedOrNext t → (x : Queueing) → IsOpenOrNext x
      → awaits other (ticket_by by t) (queueing_by by x) ≡ awaits past t x
  awaits_alike legal other_legal t here x there =
      ap₂ (λ b e. b || (cancels_sync x.item.0 t.call && e)) (holds_alike t here x there t.call refl)
      (started_alike legal other_legal x there)

  -- ---- waits of runs

  -- the run is open, and its ticket is unended
  abbrev pub IsKnownWait : RunWait → Type 0
  IsKnownWait w = In w.run (still_open past) × In w.ticket (unended_tickets past)

  pub known_by : (w : RunWait) → IsKnownWait w → wait_by f w ≡ wait_by by w
  known_by w known =
      ap₂ (λ n m. record { run = record (w.run) { number = n }; ticket = record (w.ticket) { number = m } })
      (sym (by_old w.run known.0))
      (sym (old_stays f past other w.ticket.number
      (old_of past w.ticket.number (inr (in_mapped ticket_number (unended_tickets past) w.ticket known.1))).below))

  module _ (legal : IsLegal s past) (other_legal : IsLegal s other) (waits : List RunWait)
      (known : AllByRecursion IsKnownWait waits) (run : Queueing) (is_open : In run (still_open past)) (c : Call) where
    other_alike : (w : RunWait) → In w waits → is_other (by run.number) (wait_by by w) ≡ is_other run.number w
    other_alike w here =
        ap not (near_same w.run.number run.number (near_open w.run (inl (of_in _ waits w known here).0))
        (near_open run (inl is_open)))

    next_alike : ticket_by by (next_ticket past c) ≡ next_ticket other c
    next_alike = ap (λ n. record { caller = record { 0 = 0 }; call = c; number = n }) (by_new (length past) refl)

    waits_alike : waits_with other (map (wait_by by) waits) (queueing_by by run) c
        ≡ map (wait_by by) (waits_with past waits run c)
    waits_alike =
        ap₂ (λ xs t. xs ++ record { run = queueing_by by run; ticket = t } ∷ [])
        (filter_mapped (wait_by by) (is_other (by run.number)) (is_other run.number) waits (all_in _ waits other_alike))
        (sym next_alike)
        ∙ sym (map-append (wait_by by) (filter (is_other run.number) waits) (next_wait past run c ∷ []))

    -- the waits that are looked at wait for the same
    seen : (w : RunWait) → In w (waits_with past waits run c) → In w.run (still_open past) × IsUnendedOrNext w.ticket
    seen w here =
        ⊎_elim (λ left. let k = of_in _ waits w known (in_filter (is_other run.number) waits w left).0 in
        (k.0, inl k.1))
        (λ right. ⊎_elim (λ is. subst (λ v. In v.run (still_open past) × IsUnendedOrNext v.ticket) is
        (is_open, inr refl))
        (λ none. absurd none) right)
        (in_append (filter (is_other run.number) waits) (next_wait past run c ∷ []) w here)

    never_ends_alike : never_ends (scene_after s other c)
        (waits_with other (map (wait_by by) waits) (queueing_by by run) c)
        (by run.number) ≡ never_ends (scene_after s past c) (waits_with past waits run c) run.number
    never_ends_alike =
        ap (λ ws. never_ends (scene_after s other c) ws (by run.number)) waits_alike
        ∙ never_alike (scenes_alike legal other_legal c) (waits_with past waits run c) run.number
        (all_in _ (waits_with past waits run c) (λ w here x there.
        awaits_alike legal other_legal w.ticket (seen w here).1 x (in_scene c x there)))
        (all_in _ (waits_with past waits run c) (λ w here.
        near_same w.run.number run.number (near_open w.run (inl (seen w here).0)) (near_open run (inl is_open))))

    own_alike : awaits other (next_ticket other c) (queueing_by by run) ≡ awaits past (next_ticket past c) run
    own_alike =
        ap (λ t. awaits other t (queueing_by by run)) (sym next_alike)
        ∙ awaits_alike legal other_legal (next_ticket past c) (inr refl) run (inl is_open)

    turned_alike : (d : Call) → is_turned_away other d ≡ is_turned_away past d
    turned_alike (call.FlushDelayed i) = held_back_alike a legal i.0
    turned_alike d = refl

    pub refusal_alike : refusal s other (map (wait_by by) waits) (queueing_by by run) c ≡ refusal s past waits run c
    refusal_alike =
        ap (λ b. if b then None else if awaits other (next_ticket other c) (queueing_by by run) then Some Itself
        else if never_ends (scene_after s other c) (waits_with other (map (wait_by by) waits) (queueing_by by run) c)
        (by run.number) then Some Circle else None) (turned_alike c)
        ∙ ap₂ (λ e n. if is_turned_away past c then None else if e then Some Itself else if n then Some Circle
        else None)
        own_alike never_ends_alike
