-- Runs that have all workers or all places of a queue on a CPU, and what they keep if they have not.
use Rattle.std.proofs.Common.{[], ◌∷◌, eq-eqb, eqb-true}
use Rattle.std.proofs.lemmas.List.Sums.{sum_by-cons}
use Rattle.cmwq_lemmas.proofs.Truth.{and_false, same_bools}
unfoldable use Rattle.cmwq_model.specs.Prelude.{is_active}
use Rattle.std.proofs.Common.{◌≡◌, ◌∙◌, ◌<◌, ◌≤◌, ℕ, Bool, true, false, List, length, refl, subst, sym, ap, arith, ⊎_elim, not}
use Rattle.std.specs.Prelude.{◌==◌}
use Rattle.std.specs.List.{list_any, sum_by}
use Rattle.std.proofs.lemmas.Bool.{le-leb, leb-true}
use Rattle.std.proofs.lemmas.Bool.Decides.{nat_tests}
use Rattle.cmwq_model.specs.Prelude.{is_live, is_started, is_unstarted, max_active, queueings}
use Rattle.cmwq_model.specs.declared.entry.Entry.{Entry}
use Rattle.cmwq_model.specs.declared.id.QueueId.{QueueId}
use Rattle.cmwq_model.specs.declared.record.Queueing.{Queueing}
use Rattle.cmwq_model.specs.declared.record.Ticket.{Ticket}
use Rattle.cmwq_lemmas.proofs.Filters.{count_by-wider}
use Rattle.cmwq_lemmas.proofs.Members.{In, all_in, any_in, contained_in, in_any, in_contained, in_filter}
use Rattle.cmwq_refinement.proofs.PlacesFit.{open_there}
use Rattle.cmwq_waits.specs.HeldUp.{Scene, awaits, has_run_of, have_all_places, have_all_workers, is_ahead_of_item}
use Rattle.cmwq_waits.specs.HeldUp.{is_held_up_by, is_kept, is_of_item, places_ahead}
use Rattle.cmwq_waits.specs.Looks.{IsScene, KeepNone, LeavesSome, WaitsForQueue, holds_of_item, holds_unstarted}
use Rattle.cmwq_waits.specs.Looks.{is_item_held, last_at}
use Rattle.cmwq_waits.specs.declared.run_wait.RunWait.{RunWait}
use Rattle.cmwq_waits.proofs.Places.{was_open}
use Rattle.cmwq_waits.proofs.Held.{and_true, both, opened_item}

-- ---- counts that grow

sum_more : {X : Type 0} (f g : X → ℕ) (xs : List X) → ((x : X) → f x ≤ g x) → sum_by f xs ≤ sum_by g xs
sum_more f g [] less = omega arith
sum_more f g (x ∷ xs) less =
    omega (arith, less x, sum_more f g xs less, sum_by-cons f x xs, sum_by-cons g x xs)

live_earlier : (past : List Entry) (x : Queueing) → is_live past x ≡ true → x.number < length past
live_earlier past x live = grind (arith, nat_tests)

module _ (c : Scene) (is : IsScene c) where
  opened_number : (x : Queueing) → In x c.opened → x.number ≤ length c.past
  opened_number x here =
      ⊎_elim
      (λ left. let less = live_earlier c.past x (in_filter (is_live c.past) (queueings c.past) x left).1 in omega arith)
      (λ right. let next = (is.next x right).number in omega arith) (was_open c is x here)

  opened_cpu : (x : Queueing) → In x c.opened → x.place.cpu.0 < c.layout.cpus
  opened_cpu x here =
      ⊎_elim (λ left. (open_there c.layout c.past x is.legal left).cpu) (λ right. (is.next x right).cpu)
      (was_open c is x here)

  -- ---- the places before a queueing are among those at its place

  module _ (set : List RunWait) (q : QueueId) where
    ahead_of_last : (x : Queueing) → In x c.opened → x.place.queue.0 ≡ q.0 → (w : RunWait)
        → places_ahead c x w ≤ places_ahead c (last_at c q x.place.cpu.0) w
    ahead_of_last x here same w =
        let i = w.run.item.0 in
        count_by-wider (is_ahead_of_item x i) (is_ahead_of_item (last_at c q x.place.cpu.0) i) c.opened
        (all_in (λ y. is_ahead_of_item x i y ≡ true → is_ahead_of_item (last_at c q x.place.cpu.0) i y ≡ true) c.opened
        (λ y _ ahead. let early = opened_number x here in grind (arith, nat_tests)))

    no_places : (x : Queueing) → In x c.opened → x.place.queue.0 ≡ q.0
        → have_all_places c set (last_at c q x.place.cpu.0) ≡ false → have_all_places c set x ≡ false
    no_places x here same none = by (have_all_places c set x) refl
      where
        by : (b : Bool) → have_all_places c set x ≡ b → have_all_places c set x ≡ false
        by false none_so = none_so
        by true some =
            let most = max_active c.layout c.past in
            let less = leb-true (most x.place.queue.0) (sum_by (places_ahead c x) set) some in
            let more =
            sum_more (places_ahead c x) (places_ahead c (last_at c q x.place.cpu.0)) set (ahead_of_last x here same) in
            let all =
            le-leb (most q.0) (sum_by (places_ahead c (last_at c q x.place.cpu.0)) set)
            (omega (arith, less, more, ap most same)) in
            absurd (cc (sym none ∙ all))

    no_workers : (x : Queueing) → x.place.queue.0 ≡ q.0
        → have_all_workers c.layout set (last_at c q x.place.cpu.0).place ≡ false
        → have_all_workers c.layout set x.place ≡ false
    no_workers x same none =
        ap (λ n. have_all_workers c.layout set (record { queue = record { 0 = n }; cpu = x.place.cpu })) same ∙ none

    pub keep_none : (n : ℕ) → c.layout.cpus ≤ n → ((k : ℕ) → k < n → LeavesSome c set q k) → KeepNone c set q.0
    keep_none n all none x here same =
        let there = contained_in c.opened x here in
        let left = none x.place.cpu.0 (let cpu = opened_cpu x there in omega arith) in
        rw (no_workers x same left.0, no_places x there same left.1) (and_false (not (is_active c.layout c.past x)))

  -- the last queueing by its number
  pub next_leaves : (set : List RunWait) (q : QueueId) (cpu n : ℕ) (told : Bool) → n ≡ length c.past
      → told ≡ have_all_places c set (record {
        item = record { 0 = 0 };
        place = record { queue = q; cpu = record { 0 = cpu } };
        number = n;
      })
      → told ≡ false → have_all_places c set (last_at c q cpu) ≡ false
  next_leaves set q cpu n told many is none = subst (λ m. have_all_places c set (record {
    item = record { 0 = 0 };
    place = record { queue = q; cpu = record { 0 = cpu } };
    number = m;
  }) ≡ false) many (sym is ∙ none)

  -- ---- what has not started, by its items

  module _ (set : List RunWait) (t : Ticket) where
    -- what these runs hold of an item is held
    pub item_holds : (i : ℕ) → is_item_held c set t i ≡ true → list_any (holds_unstarted c set t) c.opened ≡ true
    item_holds i some =
        let x = in_any (holds_of_item c set t i) c.opened some in
        let parts = both (is_unstarted c.past i x.0) (is_held_up_by c set t x.0) x.2 in
        let own = both (x.0.item.0 == i) (not (is_started c.past x.0.number)) parts.0 in
        any_in (holds_unstarted c set t) c.opened x.0 x.1 (and_true own.1 parts.1)

    holds_item : (x : Queueing) (i : ℕ) → In x c.opened → x.item.0 ≡ i → holds_unstarted c set t x ≡ true
        → is_item_held c set t i ≡ true
    holds_item x i here own held =
        let parts = both (not (is_started c.past x.number)) (is_held_up_by c set t x) held in
        any_in (holds_of_item c set t i) c.opened x here
        (and_true (and_true (eq-eqb x.item.0 i own) parts.0) parts.1)

    -- where no item's is held, none is
    pub none_of_items : (n : ℕ) → c.layout.items ≤ n → ((k : ℕ) → k < n → is_item_held c set t k ≡ false)
        → list_any (holds_unstarted c set t) c.opened ≡ false
    none_of_items n all none = by (list_any (holds_unstarted c set t) c.opened) refl
      where
        by : (b : Bool) → list_any (holds_unstarted c set t) c.opened ≡ b
            → list_any (holds_unstarted c set t) c.opened ≡ false
        by false none_so = none_so
        by true some =
            let x = in_any (holds_unstarted c set t) c.opened some in
            let held = holds_item x.0 x.0.item.0 x.1 refl x.2 in
            let item = opened_item c is x.0 x.1 in
            absurd (cc (sym (none x.0.item.0 (omega arith)) ∙ held))

    -- where they keep only what is of their own items, and no such is held, none is
    pub none_of_runs : (q : ℕ) → WaitsForQueue c t q → KeepNone c set q
        → list_any (λ (w : RunWait). is_item_held c set t w.run.item.0) set ≡ false
        → list_any (holds_unstarted c set t) c.opened ≡ false
    none_of_runs q waits keep none = by (list_any (holds_unstarted c set t) c.opened) refl
      where
        found : (x : Queueing) → In x c.opened → holds_unstarted c set t x ≡ true → ⊥
        found x here held =
            let parts = both (not (is_started c.past x.number)) (is_held_up_by c set t x) held in
            let up = both (awaits c.past t x) (is_kept c set x) parts.1 in
            let unstarted : is_started c.past x.number ≡ false = let not_yet = parts.0 in grind arith in
            let unkept = keep x (in_contained c.opened x here) (waits x unstarted up.0) in
            let own : has_run_of set x.item.0 ≡ true =
            (let kept = up.1 in let not_yet = parts.0 in grind (arith, unkept)) in
            let w = in_any (is_of_item x.item.0) set own in
            let also =
            any_in (λ (v : RunWait). is_item_held c set t v.run.item.0) set w.0 w.1
            (holds_item x w.0.run.item.0 here (sym (eqb-true w.0.run.item.0 x.item.0 w.2)) held) in
            cc (sym none ∙ also)

        by : (b : Bool) → list_any (holds_unstarted c set t) c.opened ≡ b
            → list_any (holds_unstarted c set t) c.opened ≡ false
        by false none_so = none_so
        by true some = let x = in_any (holds_unstarted c set t) c.opened some in absurd (found x.0 x.1 x.2)

    -- of one item
    pub held_of_item : (i : ℕ) → ((x : Queueing) → is_started c.past x.number ≡ false → awaits c.past t x ≡ true
        → x.item.0 ≡ i)
        → is_item_held c set t i ≡ list_any (holds_unstarted c set t) c.opened
    held_of_item i waits =
        same_bools (is_item_held c set t i) (list_any (holds_unstarted c set t) c.opened) (item_holds i)
        (λ some. let x = in_any (holds_unstarted c set t) c.opened some in
        let parts = both (not (is_started c.past x.0.number)) (is_held_up_by c set t x.0) x.2 in
        let up = both (awaits c.past t x.0) (is_kept c set x.0) parts.1 in
        let unstarted : is_started c.past x.0.number ≡ false = let not_yet = parts.0 in grind arith in
        holds_item x.0 i x.1 (waits x.0 unstarted up.0) x.2)

    -- of nothing
    pub held_of_none : ((x : Queueing) → is_started c.past x.number ≡ false → awaits c.past t x ≡ false)
        → list_any (holds_unstarted c set t) c.opened ≡ false
    held_of_none waits = by (list_any (holds_unstarted c set t) c.opened) refl
      where
        by : (b : Bool) → list_any (holds_unstarted c set t) c.opened ≡ b
            → list_any (holds_unstarted c set t) c.opened ≡ false
        by false none_so = none_so
        by true some =
            let x = in_any (holds_unstarted c set t) c.opened some in
            let parts = both (not (is_started c.past x.0.number)) (is_held_up_by c set t x.0) x.2 in
            let up = both (awaits c.past t x.0) (is_kept c set x.0) parts.1 in
            let unstarted : is_started c.past x.0.number ≡ false = let not_yet = parts.0 in grind arith in
            absurd (cc (sym (waits x.0 unstarted) ∙ up.0))
