-- One after another the tickets are ended that were left and are ready: each once, in the order of the callers.
use Rattle.std.specs.Prelude.{◌≡◌, ◌<◌, ◌&&◌, ◌==◌, ◌∷◌, [], ℕ, Bool, true, false, not, Option, Some, None, List}
use Rattle.std.specs.Prelude.{if◌then◌else◌, is_some, filter, find}
use Rattle.std.specs.List.{AllByRecursion, fold}
use Rattle.std.proofs.Common.{refl, sym, ap, ap₂, ◌∙◌, subst, arith}
use Rattle.std.proofs.lemmas.Bool.{eq-eqb}
use Rattle.std.proofs.lemmas.Bool.Decides.{nat_tests}
use Rattle.std.proofs.lemmas.List.Folds.{fold_stays}
use Rattle.std.proofs.lemmas.Option.{same_Some}
use Rattle.cmwq_lemmas.proofs.Filters.{filter_same, filter_twice}
use Rattle.cmwq_lemmas.proofs.Lists.{All_each, All_map, filter_all, find_none}
use Rattle.cmwq_lemmas.proofs.Passing.{all_kept}
use Rattle.cmwq_lemmas.proofs.Rising.{RisesBy, rises_filter}
use Rattle.cmwq_lemmas.proofs.Truth.{flip}
use Rattle.cmwq_core.specs.History.{is_done_waiting}
use Rattle.cmwq_model.specs.Prelude.{IsLegal, Layout, is_held_by, unended_tickets}
use Rattle.cmwq_model.specs.declared.record.Ticket.{Ticket}
use Rattle.cmwq_refinement.proofs.Numbers.{found, of_in, number_of_ticket}
use Rattle.cmwq_refinement.proofs.TicketSteps.{unended_rise}
use Rattle.cmwq_refinement.specs.Tickets.{the_caller, tickets_held}
use Rattle.cmwq_board.specs.Boarded.{Boarded, has_space, layout_of, most_made, past_of_board}
use Rattle.cmwq_board.specs.Lent.{EndsTicketOf, caller_of, is_other}
use Rattle.cmwq_board.specs.Machine.{cleared_at, cleared_of, ended_left, is_left, left_at}
unfoldable use Rattle.cmwq_board.specs.Machine.{cleared}
use Rattle.cmwq_board.specs.Waits.{caller_at, has_sought, place_with, places, sought_at}
use Rattle.cmwq_board.specs.declared.left.Sought.TheVariants.{Ready}
use Rattle.cmwq_board.proofs.Ends.{keeps_ended}

-- ---- lists

swap : {X : Type 0} (p q : X → Bool) (xs : List X) → filter p (filter q xs) ≡ filter q (filter p xs)
swap p q xs =
    filter_twice p q xs
    ∙ filter_same (λ x. q x && p x) (λ x. p x && q x) xs (All_each _ xs (λ x. flip (q x) (p x)))
    ∙ sym (filter_twice q p xs)

find_both : {X : Type 0} (p q : X → Bool) (xs : List X) → find (λ x. p x && q x) xs ≡ find q (filter p xs)
find_both p q [] = refl
find_both p q (x ∷ xs) = grind (arith, find_both p q xs)

-- ---- a ticket that is not ready, or has no space for its end

not_both : {X : Type 0} (s d : Bool) (x y : X) → d ≡ false → (if s && d then x else y) ≡ y
not_both true d x y is = rw is refl
not_both false d x y is = refl

stays : (b : Boarded) (t : Ticket) → is_done_waiting (past_of_board b) t ≡ false → cleared_of b t ≡ b
stays b t unready = not_both _ _ _ b unready

all_stay : (b : Boarded) (ts : List Ticket) → AllByRecursion (λ t. is_done_waiting (past_of_board b) t ≡ false) ts
    → fold cleared_of b ts ≡ b
all_stay b [] none = refl
all_stay b (t ∷ ts) none = ap (λ x. fold cleared_of x ts) (stays b t none.0) ∙ all_stay b ts none.1

-- what is sought at a place is the first ready one of those that are left there
sought_is : (b : Boarded) (place : ℕ)
    → sought_at b Ready place ≡ find (is_done_waiting (past_of_board b)) (left_at b place)
sought_is b place =
    find_both (is_left b place) (is_done_waiting (past_of_board b))
    (tickets_held (unended_tickets (past_of_board b)) (caller_at b place).0)

none_ready : {X : Type 0} (p : X → Bool) (xs : List X) (o : Option X) → find p xs ≡ o → is_some o ≡ false
    → AllByRecursion (λ x. p x ≡ false) xs
none_ready p xs None is none = find_none p xs is
none_ready p xs (Some x) is none = cc

unready_at : (b : Boarded) (place : ℕ) → has_sought b Ready place ≡ false
    → AllByRecursion (λ t. is_done_waiting (past_of_board b) t ≡ false) (left_at b place)
unready_at b place none =
    none_ready (is_done_waiting (past_of_board b)) (left_at b place) (sought_at b Ready place)
    (sym (sought_is b place)) none

place_stays : (b : Boarded) (place : ℕ) → has_sought b Ready place ≡ false → cleared_at b place ≡ b
place_stays b place none = all_stay b (left_at b place) (unready_at b place none)

-- where none is ready, or there is no space, nothing is done
pub none_cleared : (b : Boarded) → place_with b Ready ≡ None → cleared b ≡ b
unfolding cleared
none_cleared b none = by (places b) (find_none (has_sought b Ready) (places b) none)
  where
    by : (ps : List ℕ) → AllByRecursion (λ p. has_sought b Ready p ≡ false) ps → fold cleared_at b ps ≡ b
    by [] is = refl
    by (p ∷ ps) is = ap (λ x. fold cleared_at x ps) (place_stays b p is.0) ∙ by ps is.1

pub full_cleared : (b : Boarded) → has_space b (most_made (layout_of b)) ≡ false → cleared b ≡ b
unfolding cleared
full_cleared b full =
    fold_stays cleared_at b
    (λ place. fold_stays cleared_of b
    (λ t. rw full refl)
    (left_at b place)) (places b)

-- ---- the first is ended

rising : (b : Boarded) (place : ℕ) → RisesBy number_of_ticket (left_at b place)
rising b place =
    rises_filter number_of_ticket (is_left b place) _
    (rises_filter number_of_ticket (is_held_by (the_caller (caller_at b place).0)) _
    (unended_rise (past_of_board b)))

other_number : (t u : Ticket) → (u.number ≡ t.number → ⊥) → is_other t u ≡ true
other_number t u differ = by (u.number == t.number) refl
  where
    by : (b : Bool) → (u.number == t.number) ≡ b → not (b && (u.caller.0 == t.caller.0)) ≡ true
    by true same = absurd (differ (grind (arith, nat_tests)))
    by false other = refl

not_itself : (t : Ticket) → is_other t t ≡ false
not_itself t = ap₂ (λ x y. not (x && y)) (eq-eqb t.number t.number refl) (eq-eqb t.caller.0 t.caller.0 refl)

module _ (b c : Boarded) (t : Ticket) (ends : cleared_of b t ≡ c)
    (waits : (u : Ticket) → is_done_waiting (past_of_board b) u ≡ false
    → is_done_waiting (past_of_board c) u ≡ false) where
  -- among those of its caller
  first_ends : (ts : List Ticket) → RisesBy number_of_ticket ts
      → find (is_done_waiting (past_of_board b)) ts ≡ Some t
      → fold cleared_of b ts ≡ fold cleared_of c (filter (is_other t) ts)
  first_ends [] rise is = cc
  first_ends (u ∷ us) rise is = by (first_ends us rise.1) (is_done_waiting (past_of_board b) u) refl
    where
      by : (find (is_done_waiting (past_of_board b)) us ≡ Some t
          → fold cleared_of b us ≡ fold cleared_of c (filter (is_other t) us)) → (d : Bool) → is_done_waiting (past_of_board b) u ≡ d
          → fold cleared_of b (u ∷ us) ≡ fold cleared_of c (filter (is_other t) (u ∷ us))
      by rest true ready =
          let same : u ≡ t =
          same_Some u t (ap (λ d. if d then Some u else find (is_done_waiting (past_of_board b)) us) (sym ready) ∙ is) in
          ap (λ x. fold cleared_of (cleared_of b x) us) same ∙ ap (λ x. fold cleared_of x us) ends
          ∙ ap (fold cleared_of c)
          (sym (ap (λ d. if d then u ∷ filter (is_other t) us else filter (is_other t) us)
          (ap (is_other t) same ∙ not_itself t)
          ∙ filter_all (is_other t) us
          (All_map (λ v. u.number < v.number) (λ v. is_other t v ≡ true) us
          (λ v less. other_number t v (λ e. let at = ap (λ (x : Ticket). x.number) same in omega (arith, less, e, at)))
          rise.0)))
      by rest false unready =
          let later : find (is_done_waiting (past_of_board b)) us ≡ Some t =
          ap (λ d. if d then Some u else find (is_done_waiting (past_of_board b)) us) (sym unready) ∙ is in
          let there = (found (is_done_waiting (past_of_board b)) us t later).0 in
          let less : u.number < t.number = of_in (λ v. u.number < v.number) us t rise.0 there in
          ap (λ x. fold cleared_of x us) (stays b u unready) ∙ rest later
          ∙ ap (λ x. fold cleared_of x (filter (is_other t) us)) (sym (stays c u (waits u unready)))
          ∙ ap (fold cleared_of c)
          (sym (ap (λ d. if d then u ∷ filter (is_other t) us else filter (is_other t) us)
          (other_number t u (λ e. omega (arith, less, e)))))

  -- among those of all
  among_all : (place : ℕ) → ((p : ℕ) → left_at c p ≡ filter (is_other t) (left_at b p))
      → find (is_done_waiting (past_of_board b)) (left_at b place) ≡ Some t
      → (ps : List ℕ) → find (has_sought b Ready) ps ≡ Some place → fold cleared_at b ps ≡ fold cleared_at c ps
  among_all place others first [] is = cc
  among_all place others first (p ∷ ps) is = by (among_all place others first ps) (has_sought b Ready p) refl
    where
      by : (find (has_sought b Ready) ps ≡ Some place → fold cleared_at b ps ≡ fold cleared_at c ps) → (h : Bool)
          → has_sought b Ready p ≡ h → fold cleared_at b (p ∷ ps) ≡ fold cleared_at c (p ∷ ps)
      by rest true has =
          let same : p ≡ place =
          same_Some p place (ap (λ d. if d then Some p else find (has_sought b Ready) ps) (sym has) ∙ is) in
          ap (λ x. fold cleared_at x ps)
          (first_ends (left_at b p) (rising b p) (ap (λ q. find (is_done_waiting (past_of_board b)) (left_at b q)) same
          ∙ first) ∙ ap (fold cleared_of c) (sym (others p)))
      by rest false none =
          let later : find (has_sought b Ready) ps ≡ Some place =
          ap (λ d. if d then Some p else find (has_sought b Ready) ps) (sym none) ∙ is in
          ap (λ x. fold cleared_at x ps) (place_stays b p none) ∙ rest later
          ∙ ap (λ x. fold cleared_at x ps)
          (sym (all_stay c (left_at c p)
          (subst (AllByRecursion (λ u. is_done_waiting (past_of_board c) u ≡ false)) (sym (others p))
          (all_kept (λ u. is_done_waiting (past_of_board c) u ≡ false) (is_other t) (left_at b p)
          (All_map (λ u. is_done_waiting (past_of_board b) u ≡ false)
          (λ u. is_done_waiting (past_of_board c) u ≡ false) (left_at b p) waits (unready_at b p none))))))

both_true : {X : Type 0} (s d : Bool) (x y : X) → s ≡ true → d ≡ true → (if s && d then x else y) ≡ x
both_true s d x y one other = rw (one, other) refl

left_of_others : (b : Boarded) (t : Ticket) → let c = ended_left t b in
    layout_of c ≡ layout_of b → EndsTicketOf t (past_of_board b) (past_of_board c) → (p : ℕ)
    → left_at c p ≡ filter (is_other t) (left_at b p)
left_of_others b t layout ends p =
    let held = is_held_by (the_caller (caller_at b p).0) in
    let c = ended_left t b in
    ap (λ (s : Layout). filter (is_left b p)
    (tickets_held (unended_tickets (past_of_board c)) (caller_of s b.lent p).0)) layout
    ∙ ap (λ ts. filter (is_left b p) (filter held ts)) ends
    ∙ ap (filter (is_left b p)) (swap held (is_other t) (unended_tickets (past_of_board b)))
    ∙ swap (is_left b p) (is_other t) (filter held (unended_tickets (past_of_board b)))

pub first_cleared : (b : Boarded) (place : ℕ) (t : Ticket) → let c = ended_left t b in
    IsLegal (layout_of c) (past_of_board c) → EndsTicketOf t (past_of_board b) (past_of_board c)
    → has_space b (most_made (layout_of b)) ≡ true → place_with b Ready ≡ Some place
    → sought_at b Ready place ≡ Some t → cleared b ≡ cleared c
unfolding cleared
first_cleared b place t legal tickets space first sought =
    let c = ended_left t b in
    let keeps = keeps_ended t b.dispatch.history in
    let is : find (is_done_waiting (past_of_board b)) (left_at b place) ≡ Some t = sym (sought_is b place) ∙ sought in
    let ready : is_done_waiting (past_of_board b) t ≡ true =
    (found (is_done_waiting (past_of_board b)) (left_at b place) t is).1 in
    among_all b c t (both_true _ _ c b space ready) (keeps.waits legal) place
    (left_of_others b t keeps.layout tickets) is (places b) first
