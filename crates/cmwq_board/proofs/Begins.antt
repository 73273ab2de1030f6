-- What is known where a wait is not refused.
use Rattle.std.specs.Prelude.{◌≡◌, ◌≤◌, ◌<◌, ◌+◌, ◌&&◌, ◌||◌, ℕ, Bool, true, false, not, List, length}
use Rattle.std.specs.Prelude.{Option, Some, None, if◌then◌else◌, find, slice_index_or, IsTrue}
use Rattle.std.proofs.Common.{refl, sym, ap, ap₂, ◌∙◌, subst, arith, true≢false}
use Rattle.std.proofs.lemmas.Bool.{and_parts, eq-eqb, leb-true, lt-ltb}
use Rattle.std.proofs.lemmas.List.Quantifiers.{position-Some}
use Rattle.cmwq_dispatch.specs.Dispatched.{Dispatched, is_over, past_now}
use Rattle.cmwq_model.specs.Prelude.{Layout, fits, gives_ticket, has_numbers}
use Rattle.cmwq_model.specs.declared.call.Call.{Call}
use Rattle.cmwq_model.specs.declared.call.Call.TheVariants as call
use Rattle.cmwq_model.specs.declared.id.CallerId.{CallerId}
use Rattle.cmwq_model.specs.declared.id.Who.TheVariants.{Caller}
use Rattle.cmwq_model.specs.declared.id.WorkerId.{WorkerId}
use Rattle.cmwq_waits.specs.declared.waits.Stuck.{Stuck}
use Rattle.cmwq_board.specs.Asked.{is_wait}
use Rattle.cmwq_board.specs.Boarded.{Boarded, board_of, has_space, layout_of}
use Rattle.cmwq_board.specs.Left.{is_free}
use Rattle.cmwq_board.specs.Lent.{AreLent, caller_of, ticket_at, waits_by}
use Rattle.cmwq_board.specs.Steps.{Stays, may_fire}
use Rattle.cmwq_board.proofs.Places.{caller_there, firing_may}
use Rattle.std.specs.Option.{option_or}
use Rattle.std.proofs.lemmas.Option.{same_Some}
use Rattle.cmwq_refinement.proofs.Numbers.{found, of_in, range_below}
use Rattle.cmwq_state.specs.Tails.{Tailed}
use Rattle.cmwq_model.specs.declared.entry.Entry.{Entry}
use Rattle.cmwq_model.specs.declared.record.Ticket.{Ticket}
use Rattle.cmwq_model.specs.declared.reply.Reply.{Reply}
use Rattle.cmwq_board.specs.Waits.{caller_at, early_fault, first_free, has_its_run, has_room_for, is_there}
use Rattle.cmwq_board.specs.Waits.{lending_at, lending_by, lent_fault, lent_place, may_be_lent, places, room_fault}
use Rattle.cmwq_board.specs.Waits.{sleeps_first, stuck_now, with_firing}
use Rattle.cmwq_board.specs.declared.fault.BoardFault.TheVariants as fault
use Rattle.cmwq_board.specs.declared.fault.WaitFault.TheVariants as wait
use Rattle.cmwq_board.specs.declared.fault.WaitFault.{WaitFault}
use Rattle.cmwq_board.specs.declared.lending.Lending.{Lending}
use Rattle.cmwq_board.specs.declared.lending.Lending.TheVariants.{Free, Waits}
use Rattle.cmwq_board.specs.declared.news.News.{News}

-- ---- the first that is free

pub record IsFree (lent : List Lending) (place : ℕ) : Type 0 where
  pub less : place < length lent
  pub free : slice_index_or lent place Free ≡ Free

free_is : (l : Lending) → is_free l ≡ true → l ≡ Free
free_is Free is = refl
free_is (Waits t run slept) is = absurd (true≢false (sym is))

pub first_is_free : (lent : List Lending) (place : ℕ) → first_free lent ≡ Some place → IsFree lent place
first_is_free lent place is =
    let found = position-Some is_free lent place Free is in
    record { less = found.0; free = free_is (slice_index_or lent place Free) found.1 }

-- the first that may be lent, or the first that is free, is free
pub lent_is_free : (b : Boarded) (place : ℕ) → lent_place b ≡ Some place → IsFree b.lent place
lent_is_free b place is = at (find (may_be_lent b) (places b)) refl is
  where
    at : (o : Option ℕ) → find (may_be_lent b) (places b) ≡ o → option_or o (first_free b.lent) ≡ Some place
        → IsFree b.lent place
    at None none first = first_is_free b.lent place first
    at (Some k) some same =
        let of = found (may_be_lent b) (places b) k some in
        let lt = of_in (λ i. i < 0 + length b.lent) (places b) k (range_below 0 (length b.lent)) of.0 in
        let less : k < length b.lent = omega (arith, lt) in
        let free = and_parts (is_free (lending_at b k)) _ of.1 in
        subst (IsFree b.lent) (same_Some k place same)
        (record { less = less; free = free_is (slice_index_or b.lent k Free) free.0 })

-- ---- no fault

not_then : {X : Type 0} (b : Bool) (x : X) (o : Option X) → (if b then Some x else o) ≡ None → (b ≡ false) × (o ≡ None)
not_then true x o is = cc
not_then false x o is = (refl, is)

not_false : (b : Bool) → not b ≡ false → b ≡ true
not_false true is = refl
not_false false is = cc

pub record MayWait (b : Boarded) (run : Option WorkerId) (c : Call) : Type 0 where
  pub call : is_wait c ≡ true
  pub numbers : has_numbers (layout_of b) c ≡ true
  pub there : is_there (layout_of b) run ≡ true
  pub lives : b.dispatch.failed ≡ false
  pub lasts : is_over b.dispatch ≡ false
  pub has : has_its_run b run ≡ true
  pub space : has_space b 3 ≡ true

neither : (a b : Bool) → (a || b) ≡ false → a ≡ false
neither false b is = refl
neither true b is = is

pub no_early_fault : (b : Boarded) (run : Option WorkerId) (c : Call) → early_fault b run c ≡ None → MayWait b run c
no_early_fault b run c none =
    let refused = not_then _ _ _ none in
    let failed = not_then _ _ _ refused.1 in
    let closed = not_then _ _ _ failed.1 in
    let misuse = not_then _ _ _ closed.1 in
    let crowded = not_then _ _ _ misuse.1 in
    let asked = and_parts (is_wait c && has_numbers (layout_of b) c) (is_there (layout_of b) run)
    (not_false _ refused.0) in
    let numbers = and_parts (is_wait c) (has_numbers (layout_of b) c) asked.0 in
    record {
      call = numbers.0;
      numbers = numbers.1;
      there = asked.1;
      lives = failed.0;
      lasts = neither (is_over b.dispatch) _ closed.0;
      has = not_false _ misuse.0;
      space = not_false _ crowded.0;
    }

-- where it is not refused there is a caller with room for it
pub record MayBegin (b : Boarded) (run : Option WorkerId) (c : Call) (place : ℕ) : Type 0 where
  pub waits : MayWait b run c
  pub room : has_room_for b.dispatch run (caller_at b place) c ≡ true

not_stuck : (b : Boarded) (run : Option WorkerId) (c : Call) (o : Option Stuck) → lent_fault b run c o ≡ None
    → room_fault b run c (lent_place b) ≡ None
not_stuck b run c None is = is
not_stuck b run c (Some x) is = cc

has_room : (r : Bool) (f : WaitFault) → (if r then None else Some f) ≡ None → r ≡ true
has_room true f is = refl
has_room false f is = cc

pub no_lent_fault : (b : Boarded) (run : Option WorkerId) (c : Call) (place : ℕ) → lent_place b ≡ Some place
    → early_fault b run c ≡ None → lent_fault b run c (stuck_now b run c) ≡ None → MayBegin b run c place
no_lent_fault b run c place first early none =
    let room : room_fault b run c (Some place) ≡ None =
    ap (room_fault b run c) (sym first) ∙ not_stuck b run c (stuck_now b run c) none in
    record { waits = no_early_fault b run c early; room = has_room _ _ room }

-- ---- the call fits

pub wait_fits : (s : Layout) (c : CallerId) (cl : Call) → c.0 < s.callers → is_wait cl ≡ true → has_numbers s cl ≡ true
    → IsTrue (fits s (Caller c) cl)
wait_fits s c (call.Flush q) there wait numbers = ap₂ (λ a b. (a && true) && b) (lt-ltb c.0 s.callers there) numbers
wait_fits s c (call.Drain q) there wait numbers = ap₂ (λ a b. (a && true) && b) (lt-ltb c.0 s.callers there) numbers
wait_fits s c (call.Destroy q) there wait numbers = ap₂ (λ a b. (a && true) && b) (lt-ltb c.0 s.callers there) numbers
wait_fits s c (call.FlushItem i) there wait numbers = ap₂ (λ a b. (a && true) && b) (lt-ltb c.0 s.callers there) numbers
wait_fits s c (call.FlushDelayed i) there wait numbers =
    ap₂ (λ a b. (a && true) && b) (lt-ltb c.0 s.callers there) numbers
wait_fits s c (call.CancelSync i) there wait numbers =
    ap₂ (λ a b. (a && true) && b) (lt-ltb c.0 s.callers there) numbers
wait_fits s c cl there wait numbers = cc

-- ---- what the call of a lent caller needs

pub record MayLend (d : Dispatched) (t : Tailed Entry) (lent : List Lending) (run : Option WorkerId) (c : Call)
    (place : ℕ) (caller : CallerId) : Type 0 where
  pub call : is_wait c ≡ true
  pub fits : IsTrue (fits d.history.layout (Caller caller) c)
  pub there : is_there d.history.layout run ≡ true
  pub may : may_fire d ≡ true
  pub room : has_room_for d run caller c ≡ true
  pub space : length t.all + 3 ≤ t.room + t.given
  pub less : place < length lent
  pub free : slice_index_or lent place Free ≡ Free
  pub at : caller ≡ caller_of d.history.layout lent place

lent_here : (d : Dispatched) (t : Tailed Entry) (lent : List Lending) (news : News) (run : Option WorkerId) (c : Call) (place : ℕ)
    → t.all ≡ d.history.entries → AreLent d.history.layout (past_now d) lent
    → lent_place (board_of d t.given t.room lent news) ≡ Some place → MayBegin (board_of d t.given t.room lent news) run c place
    → MayLend (with_firing d) t lent run c place (caller_at (board_of d t.given t.room lent news) place)
lent_here d t lent news run c place kept are first may =
    let free = lent_is_free (board_of d t.given t.room lent news) place first in
    let there = caller_there d.history.layout lent place are.few free.less in
    let entries = leb-true (length d.history.entries + 3) (t.room + t.given) may.waits.space in
    record {
      call = may.waits.call;
      fits = wait_fits d.history.layout (caller_at (board_of d t.given t.room lent news) place) c there may.waits.call
          may.waits.numbers;
      there = may.waits.there;
      may = firing_may d.failed d.closed 1 may.waits.lives refl;
      room = may.room;
      space = subst (λ es. length es + 3 ≤ t.room + t.given) (sym kept) entries;
      less = free.less;
      free = free.free;
      at = refl;
    }

pub may_lend : (d n : Dispatched) (t : Tailed Entry) (lent : List Lending) (news : News) (b : Boarded) (run : Option WorkerId)
    (c : Call) (place : ℕ) (caller : CallerId) → n ≡ with_firing d → board_of d t.given t.room lent news ≡ b
    → caller ≡ caller_at b place → t.all ≡ d.history.entries → AreLent d.history.layout (past_now d) lent
    → lent_place b ≡ Some place → early_fault b run c ≡ None
    → lent_fault b run c (stuck_now b run c) ≡ None → MayLend n t lent run c place caller
may_lend d n t lent news b run c place caller new view is kept are first early none =
    let here = board_of d t.given t.room lent news in
    let its_first : lent_place here ≡ Some place = subst (λ x. lent_place x ≡ Some place) (sym view) first in
    let its_early : early_fault here run c ≡ None = subst (λ x. early_fault x run c ≡ None) (sym view) early in
    let its_none : lent_fault here run c (stuck_now here run c) ≡ None =
    subst (λ (x : Boarded). lent_fault x run c (stuck_now x run c) ≡ None) (sym view) none in
    subst (λ m. MayLend m t lent run c place caller) (sym new)
    (subst (λ k. MayLend (with_firing d) t lent run c place k) (sym (is ∙ ap (λ x. caller_at x place) (sym view)))
    (lent_here d t lent news run c place kept are its_first (no_lent_fault here run c place its_first its_early its_none)))

-- the caller of a place waits by the ticket that its call got, if it got one
pub lending_waits : (run : Option WorkerId) (slept : Bool) (t : Ticket) (r : Reply) → gives_ticket r ≡ true
    → waits_by t (lending_by run slept t r) ≡ true
lending_waits run slept t r gives = rw gives (eq-eqb t.number t.number refl)

pub lending_has : (run : Option WorkerId) (slept : Bool) (t u : Ticket) (r : Reply)
    → ticket_at (lending_by run slept t r) ≡ Some u → (gives_ticket r ≡ true) × (t ≡ u)
lending_has run slept t u r is = at (gives_ticket r) refl is
  where
    at : (b : Bool) → gives_ticket r ≡ b → ticket_at (if b then Waits t run slept else Free) ≡ Some u
        → (gives_ticket r ≡ true) × (t ≡ u)
    at true gives has = (gives, same_Some t u has)
    at false gives has = cc

pub fires_stay : (d n : Dispatched) → Stays d n → may_fire d ≡ true → may_fire n ≡ true
fires_stay d n stays may = rw (stays.failed, stays.closed, stays.firing) may

-- whether there is room for the call of the first that is free
pub room_is : (b : Boarded) (run : Option WorkerId) (c : Call) (place : ℕ) (r : Bool) → lent_place b ≡ Some place
    → has_room_for b.dispatch run (caller_at b place) c ≡ r
    → room_fault b run c (lent_place b) ≡ (if r then None else Some (wait.Board fault.Full))
room_is b run c place r first room =
    ap (room_fault b run c) first ∙ ap (λ x. if x then None else Some (wait.Board fault.Full)) room

-- whoever may fire changes nothing of a run
pub firing_sleeps : (d : Dispatched) (run : Option WorkerId) → sleeps_first (with_firing d) run ≡ sleeps_first d run
firing_sleeps d None = refl
firing_sleeps d (Some w) = refl
