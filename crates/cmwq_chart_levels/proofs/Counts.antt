-- How many queueings of a place are open and active.
use Rattle.cmwq_model.specs.Prelude.{most_cpus}
use Rattle.std.proofs.Common.{◌≡◌, ℕ, ◌+◌, ◌*◌, ◌≤◌, Bool, cond, ◌==◌, ◌&&◌, List, ◌∷◌, length, filter, count_by}
use Rattle.std.proofs.Common.{option_to_list, refl, sym, ap, ap₂, ◌∙◌, arith, subst}
use Rattle.std.specs.Prelude.{slice_index}
use Rattle.std.proofs.lemmas.List.Sums.{count_by-le-length}
use Rattle.std.proofs.lemmas.List.Filters.{sum_by-filter_both}
use Rattle.cmwq_lemmas.proofs.Lists.{count_by-filter, count_append}
use Rattle.cmwq_model.specs.declared.entry.Entry.{Entry}
use Rattle.cmwq_model.specs.declared.record.Place.{Place}
use Rattle.cmwq_model.specs.declared.record.Queueing.{Queueing}
use Rattle.cmwq_model.specs.Prelude.{Layout, IsLegal, opening, still_open, is_active}
use Rattle.cmwq_theory_steps.specs.Endings.{survives, is_ended, ending}
use Rattle.cmwq_theory_steps.specs.Histories.{one}
use Rattle.cmwq_theory_steps.specs.Places.{is_on}
use Rattle.cmwq_theory_steps.proofs.Endings.{open_go_on}
use Rattle.cmwq_theory_steps.proofs.Options.{count_option}
use Rattle.cmwq_theory_steps.proofs.Ended.{one_ends}
use Rattle.cmwq_state.specs.Pwqs.{AreActiveCounts}
use Rattle.cmwq_chart.specs.Levels.{is_of_place, open_at, active_at, is_active_at, IsPlaceOf}
use Rattle.cmwq_state.specs.declared.effect.Effect.{Effect}
use Rattle.cmwq_chart_levels.specs.Turns.{is_one_of_place, IsEffectOf}

pub open_goes_on : (s : Layout) (past : List Entry) (e : Entry) (p : Place) → IsLegal s (e ∷ past)
    → open_at (e ∷ past) p + one (is_one_of_place p (ending past e))
    ≡ open_at past p + one (is_one_of_place p (opening past e))
open_goes_on s past e p legal =
    let after = ap (count_by (is_of_place p)) (open_go_on s past e legal)
    ∙ count_append (is_of_place p) (filter (survives past e) (still_open past)) (option_to_list (opening past e)) in
    let opened = count_option (is_of_place p) (opening past e) in
    let before =
    sym (sum_by-filter_both (survives past e) (is_ended past e) (λ y. refl) (λ y. cond (is_of_place p y) 1 0)
    (still_open past)) in
    let ended : count_by (is_of_place p) (filter (is_ended past e) (still_open past))
    ≡ one (is_one_of_place p (ending past e)) = ap (count_by (is_of_place p)) (one_ends s past e legal)
    ∙ count_option (is_of_place p) (ending past e) in
    let split : count_by (is_of_place p) (still_open past)
    ≡ count_by (is_of_place p) (filter (survives past e) (still_open past)) + count_by (is_of_place p)
    (filter (is_ended past e) (still_open past)) = before in
    omega (arith, after, opened, split, ended)

pub open_few : (past : List Entry) (p : Place) → open_at past p ≤ length (still_open past)
open_few past p = count_by-le-length (is_of_place p) (still_open past)

-- the same of what was read off an entry
pub open_step : (s : Layout) (past : List Entry) (e : Entry) (f : Effect) (p : Place) (before : ℕ)
    (is_opened is_ended : Bool) → IsEffectOf s past e f → before ≡ open_at past p
    → is_opened ≡ is_one_of_place p f.opened → is_ended ≡ is_one_of_place p f.ended
    → open_at (e ∷ past) p + one is_ended ≡ before + one is_opened
open_step s past e f p before is_opened is_ended (same, is) was o n =
    let opened : one is_opened ≡ one (is_one_of_place p (opening past f.entry)) =
    ap one (o ∙ ap (is_one_of_place p) is.opened) in
    let ended : one is_ended ≡ one (is_one_of_place p (ending past f.entry)) =
    ap one (n ∙ ap (is_one_of_place p) is.ended) in
    let step = open_goes_on s past f.entry p is.legal in
    subst (λ e. open_at (e ∷ past) p + one is_ended ≡ before + one is_opened) same
    (omega (arith, opened, ended, step, was))

eqb-swap : (a b : ℕ) → (a == b) ≡ (b == a)
eqb-swap a b = grind arith

pub is_on_is : (p : Place) (x : Queueing) → is_of_place p x ≡ is_on p.queue.0 p.cpu.0 x
is_on_is p x = ap₂ (λ a b. a && b) (eqb-swap p.queue.0 x.place.queue.0) (eqb-swap p.cpu.0 x.place.cpu.0)

pub active_count_is : (s : Layout) (past : List Entry) (counts : List ℕ) (p : Place) → IsPlaceOf s p
    → AreActiveCounts s past counts
    → slice_index counts (most_cpus * p.queue.0 + p.cpu.0) ≡ active_at s past p
active_count_is s past counts p inside are =
    are.each p.queue.0 p.cpu.0 inside.0 inside.1
    ∙ sym (count_by-filter (is_active_at s past p) (is_on p.queue.0 p.cpu.0) (is_active s past) (still_open past)
    (λ x. ap (λ b. b && is_active s past x) (is_on_is p x)))
