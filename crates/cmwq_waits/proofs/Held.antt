-- What is held up, of the runs and of what has not started.
use Rattle.std.proofs.Common.{◌≡◌, ◌∙◌, ◌<◌, ◌≤◌, ℕ, Bool, true, false, List, [], ◌∷◌, Option, Some, refl}
use Rattle.std.proofs.Common.{subst, sym, ap, ap₂, arith, filter, option_to_list, inl, inr, ⊎_elim, not, length, eq-eqb, eqb-true}
use Rattle.std.specs.Prelude.{◌&&◌, ◌||◌, Contains}
use Rattle.std.specs.List.{list_any}
use Rattle.std.proofs.lemmas.Bool.Decides.{nat_tests}
use Rattle.cmwq_model.specs.Prelude.{Layout, holds_up, is_started, is_unstarted, still_open}
unfoldable use Rattle.cmwq_model.specs.Prelude.{is_active}
use Rattle.cmwq_model.specs.declared.entry.Entry.{Entry}
use Rattle.cmwq_model.specs.declared.record.Queueing.{Queueing}
use Rattle.cmwq_model.specs.declared.record.Ticket.{Ticket}
use Rattle.cmwq_lemmas.proofs.Truth.{and_false, or_false, same_bools}
use Rattle.cmwq_lemmas.proofs.Members.{In, any_in, in_any, in_contained, in_filter}
use Rattle.cmwq_refinement.proofs.PlacesFit.{open_there}
use Rattle.cmwq_state.specs.Waits.{IsOpenOrNext}
use Rattle.cmwq_waits.specs.HeldUp.{Scene, awaits, has_run_of, is_held_up_by, is_kept, is_kept_unstarted, is_of_item}
use Rattle.cmwq_waits.specs.Looks.{AreSeen, IsScene, holds_unstarted, is_item_held}
use Rattle.cmwq_waits.specs.declared.run_wait.RunWait.{RunWait}
use Rattle.cmwq_waits.proofs.Places.{one_started, run_stays, was_open}

-- some pass both tests where some of those that pass the first pass the second
pub any_filter : {X : Type 0} (p q : X → Bool) (xs : List X) → list_any (λ x. p x && q x) xs ≡ list_any q (filter p xs)
any_filter p q [] = refl
any_filter p q (x ∷ xs) = grind (arith, any_filter p q xs)

any_split : {X : Type 0} (p q : X → Bool) (xs : List X)
    → list_any q xs ≡ (list_any (λ x. p x && q x) xs || list_any (λ x. not (p x) && q x) xs)
any_split p q [] = refl
any_split p q (x ∷ xs) = grind (arith, any_split p q xs)

-- what isn't there yet is not active
pub inactive_later : (s : Layout) (past : List Entry) (x : Queueing) → length past ≤ x.number
    → is_active s past x ≡ false
unfolding is_active
inactive_later s [] x later = refl
inactive_later s (e ∷ past) x later = grind (arith, nat_tests)

pub both : (a b : Bool) → (a && b) ≡ true → (a ≡ true) × (b ≡ true)
both true b h = (refl, h)
both false b h = absurd (cc h)

pub and_true : {a b : Bool} → a ≡ true → b ≡ true → (a && b) ≡ true
and_true is also = rw (is, also) refl

or_true : {a : Bool} (b : Bool) → a ≡ true → (a || b) ≡ true
or_true b is = rw is refl

-- what has started is kept as the item's run
kept_run : (h k started : Bool) → started ≡ true → (h || (not started && k)) ≡ true → h ≡ true
kept_run true k started is kept = refl
kept_run false k true is kept = absurd (cc kept)
kept_run false k false is kept = absurd (cc is)

-- ---- the unstarted queueing of an item

pub unstarted_of : (c : Scene) (i : ℕ) (o : Option Queueing) (x : Queueing)
    → filter (is_unstarted c.past i) c.opened ≡ option_to_list o → o ≡ Some x
    → In x c.opened × (is_started c.past x.number ≡ false)
unstarted_of c i o x is some =
    let there = in_filter (is_unstarted c.past i) c.opened x (subst (In x) (sym (is ∙ ap option_to_list some)) (inl refl)) in
    (there.0, (let passes = there.1 in grind arith))

pub held_alone : (c : Scene) (set : List RunWait) (t : Ticket) (i : ℕ) (o : Option Queueing)
    → filter (is_unstarted c.past i) c.opened ≡ option_to_list o
    → is_item_held c set t i ≡ list_any (is_held_up_by c set t) (option_to_list o)
held_alone c set t i o is =
    any_filter (is_unstarted c.past i) (is_held_up_by c set t) c.opened ∙ ap (list_any (is_held_up_by c set t)) is

pub awaits_unstarted : (past : List Entry) (t : Ticket) (x : Queueing) → is_started past x.number ≡ false
    → awaits past t x ≡ holds_up past t.number t.call x
awaits_unstarted past t x is = rw (is, and_false, or_false) refl

pub held_some : (c : Scene) (set : List RunWait) (t : Ticket) (i : ℕ) (o : Option Queueing) (x : Queueing) (h k : Bool)
    → filter (is_unstarted c.past i) c.opened ≡ option_to_list o → o ≡ Some x
    → h ≡ holds_up c.past t.number t.call x → k ≡ is_kept c set x → (h && k) ≡ is_item_held c set t i
held_some c set t i o x h k is some up kept =
    let unstarted = (unstarted_of c i o x is some).1 in
    ap₂ (λ a b. a && b) (up ∙ sym (awaits_unstarted c.past t x unstarted)) kept
    ∙ sym
    (held_alone c set t i o is
    ∙ (ap (λ p. list_any (is_held_up_by c set t) (option_to_list p)) some ∙ or_false (is_held_up_by c set t x)))

module _ (c : Scene) (is : IsScene c) where
  -- ---- what is open is inside the layout, and of a known number

  pub open_or_next : (x : Queueing) → In x c.opened → IsOpenOrNext c.past x
  open_or_next x here =
      ⊎_elim (λ left. inl (in_contained (still_open c.past) x left)) (λ right. inr (is.next x right).number)
      (was_open c is x here)

  pub opened_queue : (x : Queueing) → In x c.opened → x.place.queue.0 < length c.layout.queues
  opened_queue x here =
      ⊎_elim (λ left. (open_there c.layout c.past x is.legal left).queue) (λ right. (is.next x right).queue)
      (was_open c is x here)

  pub opened_item : (x : Queueing) → In x c.opened → x.item.0 < c.layout.items
  opened_item x here =
      ⊎_elim (λ left. (open_there c.layout c.past x is.legal left).item) (λ right. (is.next x right).item)
      (was_open c is x here)

  pub earlier_is_open : (x : Queueing) → In x c.opened → x.number < length c.past → Contains (still_open c.past) x
  earlier_is_open x here earlier =
      ⊎_elim (λ open_x. open_x) (λ later. absurd (omega (arith, later, earlier))) (open_or_next x here)

  -- ---- the runs

  -- a ticket is held up by a run exactly where it waits for one of the set
  module _ (set : List RunWait) (seen : AreSeen c.past set) (t : Ticket) where
    abbrev of_started : Queueing → Bool
    of_started x = is_started c.past x.number && is_held_up_by c set t x

    run_there : list_any of_started c.opened ≡ true → list_any (λ w. awaits c.past t w.run) set ≡ true
    run_there some =
        let x = in_any of_started c.opened some in
        let started = both (is_started c.past x.0.number) (is_held_up_by c set t x.0) x.2 in
        let held = both (awaits c.past t x.0) (is_kept c set x.0) started.1 in
        let w =
        in_any (is_of_item x.0.item.0) set
        (kept_run (has_run_of set x.0.item.0) (is_kept_unstarted c set x.0) (is_started c.past x.0.number) started.0
        held.1) in
        let sees = seen w.0 (in_contained set w.0 w.1) in
        let there = run_stays c is w.0.run sees.is_open sees.has_started in
        let same =
        one_started c is x.0 w.0.run x.1 there started.0 sees.has_started
        (sym (eqb-true w.0.run.item.0 x.0.item.0 w.2)) in
        any_in (λ v. awaits c.past t v.run) set w.0 w.1 (sym (ap (awaits c.past t) same) ∙ held.0)

    run_here : list_any (λ w. awaits c.past t w.run) set ≡ true → list_any of_started c.opened ≡ true
    run_here some =
        let w = in_any (λ v. awaits c.past t v.run) set some in
        let sees = seen w.0 (in_contained set w.0 w.1) in
        let there = run_stays c is w.0.run sees.is_open sees.has_started in
        let own =
        any_in (is_of_item w.0.run.item.0) set w.0 w.1 (eq-eqb w.0.run.item.0 w.0.run.item.0 refl) in
        any_in of_started c.opened w.0.run there
        (and_true sees.has_started (and_true w.2 (or_true (not (is_started c.past w.0.run.number) && is_kept_unstarted c set w.0.run) own)))

    pub held_in_parts : list_any (is_held_up_by c set t) c.opened
        ≡ (list_any (λ w. awaits c.past t w.run) set || list_any (holds_unstarted c set t) c.opened)
    held_in_parts =
        any_split (λ x. is_started c.past x.number) (is_held_up_by c set t) c.opened
        ∙ ap (λ b. b || list_any (holds_unstarted c set t) c.opened)
        (same_bools (list_any of_started c.opened) (list_any (λ w. awaits c.past t w.run) set) run_there run_here)
