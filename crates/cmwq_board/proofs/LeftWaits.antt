-- A run that has left its wait waits no more, and is not why another wait is refused.
use Rattle.std.specs.Prelude.{◌≡◌, ◌≢◌, ◌<◌, ◌==◌, ◌||◌, [], ◌∷◌, ℕ, Bool, true, false, not, zero, suc, List, length}
use Rattle.std.specs.Prelude.{Option, Some, None, if◌then◌else◌, filter, slice_index_or, slice_set}
use Rattle.std.specs.List.{cons_option, list_any}
use Rattle.std.specs.Option.{option_map}
use Rattle.std.proofs.Common.{true≢false, refl, sym, ap, ◌∙◌}
use Rattle.std.proofs.lemmas.Bool.{eq-eqb, eqb-true}
use Rattle.std.proofs.lemmas.List.{get_or-set_other, get_or-set_same}
use Rattle.std.proofs.lemmas.Option.{same_Some}
use Rattle.cmwq_dispatch.specs.declared.wakes.Wakes.{Wakes}
use Rattle.cmwq_model.specs.Prelude.{IsLegal, Layout, same_worker}
use Rattle.cmwq_model.specs.declared.entry.Entry.{Entry}
use Rattle.cmwq_model.specs.declared.id.CallerId.{CallerId}
use Rattle.cmwq_model.specs.declared.id.Who.TheVariants.{Worker}
use Rattle.cmwq_model.specs.declared.id.WorkerId.{WorkerId}
use Rattle.cmwq_model.specs.declared.record.Queueing.{Queueing}
use Rattle.cmwq_theory_steps.specs.ItemQueueings.{queueing_run}
use Rattle.cmwq_theory_steps.proofs.ItemRuns.{same_worker_itself}
use Rattle.cmwq_waits.specs.Refused.{is_other}
use Rattle.cmwq_waits.specs.Registered.{refusal_of}
use Rattle.cmwq_waits.specs.declared.run_wait.RunWait.{RunWait}
use Rattle.cmwq_board.specs.Boarded.{Boarded, layout_of, past_of_board}
use Rattle.cmwq_board.specs.Lent.{RunsWaitOnce, is_wait_of}
use Rattle.cmwq_board.specs.Runs.{LeftRefusesNothing, wait_in, waits_in}
use Rattle.cmwq_board.specs.Waits.{Clears, EndsLeft, IsAwakeThen, IsLeft, WaitsNoMore, lending_at, place_of, waiter}
use Rattle.cmwq_board.specs.Waits.{waiter_at}
use Rattle.cmwq_board.specs.Waits.EndsLeft.{more, nothing}
use Rattle.cmwq_board.specs.declared.lending.Lending.{Lending}
use Rattle.cmwq_board.specs.declared.lending.Lending.TheVariants.{Free, Waits}
use Rattle.cmwq_board.proofs.WaitingRuns.{one_runner, wait_is}

-- ---- it waits by none of the callers

at_none : (w : WorkerId) (lent : List Lending)
    → ((i : ℕ) → is_wait_of w (slice_index_or lent i Free) ≡ true → ⊥) → list_any (is_wait_of w) lent ≡ false
at_none w [] none = refl
at_none w (l ∷ ls) none = by (is_wait_of w l) refl (at_none w ls (λ i is. none (suc i) is))
  where
    by : (b : Bool) → is_wait_of w l ≡ b → list_any (is_wait_of w) ls ≡ false → list_any (is_wait_of w) (l ∷ ls) ≡ false
    by true is rest = absurd (none 0 is)
    by false is rest = rw is rest

pub freed_waits_by_none : (w : WorkerId) (lent : List Lending) (place : ℕ) → RunsWaitOnce lent → place < length lent
    → is_wait_of w (slice_index_or lent place Free) ≡ true → list_any (is_wait_of w) (slice_set lent place Free) ≡ false
freed_waits_by_none w lent place once less waits =
    at_none w (slice_set lent place Free) (λ i is. by i (i == place) refl is)
  where
    by : (i : ℕ) (b : Bool) → (i == place) ≡ b → is_wait_of w (slice_index_or (slice_set lent place Free) i Free) ≡ true
        → ⊥
    by i true same is =
        let at = eqb-true i place same in
        true≢false (sym is
        ∙ ap (λ k. is_wait_of w (slice_index_or (slice_set lent place Free) k Free)) at
        ∙ ap (is_wait_of w) (get_or-set_same lent place Free Free less))
    by i false differs is =
        let other : i ≢ place = λ e. true≢false (sym (eq-eqb i place e) ∙ differs) in
        other (once w i place (ap (is_wait_of w) (sym (get_or-set_other lent place i Free Free other)) ∙ is) waits)

-- the ends of what was left change nothing of that
left_lent : (a b : Boarded) (u v : Wakes) → EndsLeft a b u v → b.lent ≡ a.lent
left_lent a b u v (nothing x w) = refl
left_lent a b u v (more x y z p q r left first) = first.ends.lent ∙ left_lent x y p q left

waits_by_it : (w : WorkerId) (l : Lending) → waiter l ≡ Some w → is_wait_of w l ≡ true
waits_by_it w Free is = cc
waits_by_it w (Waits t None slept) is = cc
waits_by_it w (Waits t (Some v) slept) is =
    ap (λ u. same_worker u w) (same_Some v w is) ∙ same_worker_itself w

pub waits_no_more : (c : CallerId) (place : ℕ) (a b n : Boarded) (u v : Wakes) → RunsWaitOnce a.lent
    → place < length a.lent → place_of a c ≡ Some place → IsAwakeThen c (IsLeft place b) a → Clears b n u v
    → WaitsNoMore c a n
waits_no_more c place a b n u v once less at is clears w waits =
    let waits_here : is_wait_of w (slice_index_or a.lent place Free) ≡ true =
    waits_by_it w (lending_at a place) (sym (ap (waiter_at a) at) ∙ waits) in
    let lent : n.lent ≡ slice_set a.lent place Free =
    left_lent b n u v clears.ends ∙ ap (λ (x : Boarded). x.lent) is.next
    ∙ ap (λ (x : Boarded). slice_set x.lent place Free) is.awakes.same in
    ap (list_any (is_wait_of w)) lent ∙ freed_waits_by_none w a.lent place once less waits_here

-- ---- the waits of the other runs

none_of : (s : Layout) (past : List Entry) (w : WorkerId) (x : Queueing) (ls : List Lending) → IsLegal s past
    → queueing_run past (Worker w) ≡ Some x → list_any (is_wait_of w) ls ≡ false
    → filter (is_other x.number) (waits_in past ls) ≡ waits_in past ls
none_of s past w x [] legal runs none = refl
none_of s past w x (l ∷ ls) legal runs none =
    by (λ k. none_of s past w x ls legal runs k) (wait_in past l) refl (is_wait_of w l) refl
  where
    Rest : Type 0
    Rest = list_any (is_wait_of w) ls ≡ false → filter (is_other x.number) (waits_in past ls) ≡ waits_in past ls

    none_later : is_wait_of w l ≡ false → list_any (is_wait_of w) ls ≡ false
    none_later is = ap (λ b. b || list_any (is_wait_of w) ls) (sym is) ∙ none

    other : (v : RunWait) → wait_in past l ≡ Some v → is_wait_of w l ≡ false → is_other x.number v ≡ true
    other v is waits = differs (v.run.number == x.number) refl
      where
        differs : (b : Bool) → (v.run.number == x.number) ≡ b → not b ≡ true
        differs true same =
            let of = wait_is past l v is in
            let worker : of.worker ≡ w =
            one_runner s past of.worker w v.run x legal of.runs runs (eqb-true v.run.number x.number same) in
            absurd (true≢false (sym (sym (ap (λ u. is_wait_of u l) worker) ∙ of.its_run) ∙ waits))
        differs false differ = refl

    by : Rest → (o : Option RunWait) → wait_in past l ≡ o → (b : Bool) → is_wait_of w l ≡ b
        → filter (is_other x.number) (cons_option o (waits_in past ls)) ≡ cons_option o (waits_in past ls)
    by rest o is true waits =
        absurd (true≢false (sym (ap (λ b. b || list_any (is_wait_of w) ls) waits) ∙ none))
    by rest None is false waits = rest (none_later waits)
    by rest (Some v) is false waits = rw (other v is waits) (ap (λ ws. v ∷ ws) (rest (none_later waits)))

but_for : (p : RunWait → Bool) (past : List Entry) (ls : List Lending) (place : ℕ) (v : RunWait)
    → wait_in past (slice_index_or ls place Free) ≡ Some v → p v ≡ false
    → filter p (waits_in past (slice_set ls place Free)) ≡ filter p (waits_in past ls)
but_for p past [] place v is out = refl
but_for p past (l ∷ ls) zero v is out =
    sym (ap (λ o. filter p (cons_option o (waits_in past ls))) is
    ∙ ap (λ b. if b then v ∷ filter p (waits_in past ls) else filter p (waits_in past ls)) out)
but_for p past (l ∷ ls) (suc place) v is out = by (wait_in past l) (but_for p past ls place v is out)
  where
    by : (o : Option RunWait)
        → filter p (waits_in past (slice_set ls place Free)) ≡ filter p (waits_in past ls)
        → filter p (cons_option o (waits_in past (slice_set ls place Free)))
        ≡ filter p (cons_option o (waits_in past ls))
    by None rest = rest
    by (Some u) rest = ap (λ ws. if p u then u ∷ ws else ws) rest

pub left_refuses_nothing : LeftRefusesNothing
left_refuses_nothing b place t left slept x w c legal once less at runs =
    let past = past_of_board b in
    let none : list_any (is_wait_of left) (slice_set b.lent place Free) ≡ false =
    freed_waits_by_none left b.lent place once less (ap (is_wait_of left) at ∙ same_worker_itself left) in
    let its : wait_in past (slice_index_or b.lent place Free) ≡ Some (record { run = x; ticket = t }) =
    ap (wait_in past) at ∙ ap (option_map (λ (y : Queueing). record { run = y; ticket = t })) runs in
    ap (λ ws. refusal_of (layout_of b) past ws w c)
    (sym (none_of (layout_of b) past left x (slice_set b.lent place Free) legal runs none)
    ∙ but_for (is_other x.number) past b.lent place (record { run = x; ticket = t }) its
    (ap not (eq-eqb x.number x.number refl)))
