-- How many are active of a queue on a CPU rises only where something is opened there, as long as no width changes.
use Rattle.std.proofs.Common.{◌≡◌, ℕ, ◌+◌, ◌≤◌, Bool, true, false, cond, ◌==◌, ◌&&◌, ◌||◌, List, [], ◌∷◌, filter}
use Rattle.std.proofs.Common.{count_by, Option, Some, None, option_to_list, refl, sym, ap, ap₂, ◌∙◌, arith}
use Rattle.std.specs.Prelude.{slice_get}
use Rattle.std.specs.Option.{option_map_or}
use Rattle.std.proofs.Math.Bool.{or-true}
use Rattle.std.proofs.lemmas.Bool.{eqb-true}
use Rattle.std.proofs.lemmas.Option.{get_or_from_slice_get, slice_get_within}
use Rattle.cmwq_lemmas.proofs.Lists.{count_by-cons, count_append}
use Rattle.cmwq_lemmas.proofs.Members.{found, in_at, in_filter}
use Rattle.cmwq_model.specs.declared.entry.Entry.{Entry}
use Rattle.cmwq_model.specs.declared.record.Queueing.{Queueing}
use Rattle.cmwq_model.specs.Prelude.{Layout, is_active, is_below_max_active, is_live, newly_active, opening, queueings}
use Rattle.cmwq_model.specs.Prelude.{still_open, width, IsLegal}
use Rattle.cmwq_model.specs.Widths.{keeps_widths}
use Rattle.cmwq_theory_steps.specs.Looks.{was_below_max_active}
use Rattle.cmwq_theory_steps.proofs.Looks.{active_by_looks}
use Rattle.cmwq_theory_steps.specs.Activations.{behind_width, open_of_same_pwq, is_below_max_active_at_once}
use Rattle.cmwq_theory_steps.specs.Activations.{is_of_same_pwq, waits}
use Rattle.cmwq_theory_steps.specs.Endings.{is_ended, ending}
use Rattle.cmwq_theory_steps.specs.Histories.{one}
use Rattle.cmwq_theory_steps.specs.Places.{is_on}
use Rattle.cmwq_theory_steps.specs.Waiting.{ends_active_on, is_active_on}
use Rattle.cmwq_theory_steps.proofs.Active.{active_counted}
use Rattle.cmwq_theory_steps.proofs.ActiveCounts.{active_count_goes_on, stays_counted}
use Rattle.cmwq_theory_steps.proofs.NewlyActive.{newly_active_are}
use Rattle.cmwq_state.specs.Pwqs.{active_on}

module _ (q c : ℕ) where
  one_is : (b : Bool) → cond b 1 0 + 0 ≡ one b
  one_is true = refl
  one_is false = refl

  -- of one element, which is kept or not
  of_one : (x : Queueing) (b : Bool) → count_by (is_on q c) (cond b (x ∷ []) []) ≤ one (is_on q c x)
  of_one x true = let is : count_by (is_on q c) (x ∷ []) ≡ one (is_on q c x) =
      count_by-cons (is_on q c) x [] ∙ one_is (is_on q c x) in omega (arith, is)
  of_one x false = omega arith

  of_option : (p : Queueing → Bool) (o : Option Queueing)
      → count_by (is_on q c) (filter p (option_to_list o)) ≤ count_by (is_on q c) (option_to_list o)
  of_option p None = omega arith
  of_option p (Some x) = let kept = of_one x (p x) in let is : count_by (is_on q c) (x ∷ []) ≡ one (is_on q c x) =
      count_by-cons (is_on q c) x [] ∙ one_is (is_on q c x) in omega (arith, kept, is)

  same_pwq : (x y : Queueing) → is_of_same_pwq y x ≡ true → is_on q c x ≡ is_on q c y
  same_pwq x y same = by (x.place.queue.0 == y.place.queue.0) (x.place.cpu.0 == y.place.cpu.0) refl refl same
    where
      by : (a b : Bool) → (x.place.queue.0 == y.place.queue.0) ≡ a → (x.place.cpu.0 == y.place.cpu.0) ≡ b
          → (a && b) ≡ true → is_on q c x ≡ is_on q c y
      by true true queues cpus h =
          ap₂ (λ n m. (n == q) && (m == c)) (eqb-true x.place.queue.0 y.place.queue.0 queues)
          (eqb-true x.place.cpu.0 y.place.cpu.0 cpus)
      by true false queues cpus h = cc
      by false b queues cpus h = cc

  module _ (s : Layout) (past : List Entry) (e : Entry) where
    -- what takes the place of an active one stands where that did
    behind : (y : Queueing) → ending past e ≡ Some y → (b : Bool) → is_below_max_active s past y ≡ b
        → (o : Option Queueing) → slice_get (open_of_same_pwq past y) (width s past y.place.queue.0) ≡ o
        → count_by (is_on q c) (filter (waits s past) (option_to_list (cond b o None))) ≤ one
        (is_active_on s past q c y)
    behind y is false below o at = omega arith
    behind y is true below None at = omega arith
    behind y is true below (Some x) at =
        let there =
        in_filter (is_of_same_pwq y) (still_open past) x
        (in_at (open_of_same_pwq past y) (width s past y.place.queue.0) x
        (slice_get_within (open_of_same_pwq past y) (width s past y.place.queue.0) x at)
        (get_or_from_slice_get (open_of_same_pwq past y) (width s past y.place.queue.0) x x at)) in
        let live : is_live past y ≡ true =
        (in_filter (is_live past) (queueings past) y (found (is_ended past e) (still_open past) y is).0).1 in
        let active : is_active s past y ≡ true =
        active_by_looks s past y ∙ ap₂ (λ a d. a && (was_below_max_active s past y || d)) live below
        ∙ or-true (was_below_max_active s past y) in
        let same : one (is_on q c x) ≡ one (is_active_on s past q c y) =
        ap one (same_pwq x y there.1 ∙ sym (and_true (is_on q c y)) ∙ ap (λ a. is_on q c y && a) (sym active)) in
        let kept = of_one x (waits s past x) in
        omega (arith, same, kept)
      where
        and_true : (a : Bool) → (a && true) ≡ a
        and_true true = refl
        and_true false = refl

    moved_up : (o : Option Queueing) → ending past e ≡ o
        → count_by (is_on q c) (filter (waits s past) (option_to_list (behind_width s past o))) ≤ one
        (ends_active_on s past e q c)
    moved_up None is = omega arith
    moved_up (Some y) is =
        let up = behind y is (is_below_max_active s past y) refl
        (slice_get (open_of_same_pwq past y) (width s past y.place.queue.0)) refl in
        let ends : one (ends_active_on s past e q c) ≡ one (is_active_on s past q c y) =
        ap (λ o. one (option_map_or (is_active_on s past q c) o false)) is in
        omega (arith, up, ends)

    pub no_more_active : IsLegal s (e ∷ past) → keeps_widths e.reply ≡ true
        → count_by (is_on q c) (option_to_list (opening past e)) ≡ 0 → active_on s (e ∷ past) q c ≤ active_on s past q c
    no_more_active legal keeps none =
        let up = filter (waits s past) (option_to_list (behind_width s past (ending past e))) in
        let opened = filter (is_below_max_active_at_once s past e) (option_to_list (opening past e)) in
        let newly : count_by (is_on q c) (newly_active s past e)
        ≡ count_by (is_on q c) up + count_by (is_on q c) opened =
        ap (count_by (is_on q c)) (newly_active_are s past e legal keeps) ∙ count_append (is_on q c) up opened in
        let moved = moved_up (ending past e) refl in
        let nothing = of_option (is_below_max_active_at_once s past e) (opening past e) in
        let after = active_counted s (e ∷ past) q c ∙ active_count_goes_on s past e q c in
        let before = active_counted s past q c in
        let stays = stays_counted s past e legal q c in
        omega (arith, newly, moved, nothing, after, before, stays, none)
