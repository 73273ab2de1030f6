-- What is open after one more entry.
use Rattle.cmwq_theory_steps.specs.Common.{◌≡◌, ◌<◌, ℕ, true, ◌&&◌, not, List, ◌∷◌, ◌++◌, length, filter, Some}
use Rattle.cmwq_theory_steps.specs.Common.{option_to_list, nat_lt, sym, ap, ap₂, ◌∙◌, arith, lt-ltb, filter-append}
use Rattle.cmwq_theory_steps.specs.Common.{Entry, Queueing, Layout, is_of_item, finishes, takes_back, replaces}
use Rattle.cmwq_theory_steps.specs.Common.{is_started, is_cancelled, is_open, queueings, is_live, still_open, opening}
use Rattle.cmwq_theory_steps.specs.Common.{IsLegal, All_map}
use Rattle.cmwq_theory_steps.proofs.Rising.{IsBelow, queueings_below, opening_number}
use Rattle.cmwq_theory_steps.proofs.Lemmas.{filter_all, filter_same, filter_twice}
use Rattle.cmwq_theory_steps.specs.Endings.{survives}
use Rattle.cmwq_theory_steps.proofs.Fresh.{open_at_once}
use Rattle.cmwq_lemmas.proofs.Lists.{of_option}

-- of a queueing of item i with number n
pub open_step : (past : List Entry) (e : Entry) (i n : ℕ) → n < length past
    → is_open (e ∷ past) i n
    ≡ (is_open past i n
    && (not (finishes n e) && not (takes_back n e)
    && not (replaces e.reply && is_of_item i e && not (is_started past n))))
unfolding is_cancelled
open_step past e i n less =
    let now : nat_lt n (length (e ∷ past)) ≡ true = lt-ltb n (length (e ∷ past)) (omega arith) in
    rw (now, lt-ltb n (length past) less) (grind arith)

pub live_goes_on : (past : List Entry) (e : Entry) (x : Queueing) → x.number < length past
    → is_live (e ∷ past) x ≡ (is_live past x && survives past e x)
live_goes_on past e x less = open_step past e x.item.0 x.number less

pub opened_live : (s : Layout) (past : List Entry) (e : Entry) (x : Queueing) → IsLegal s (e ∷ past)
    → opening past e ≡ Some x → is_live (e ∷ past) x ≡ true
opened_live s past e x legal h = ap (is_open (e ∷ past) x.item.0) (opening_number past e x h)
    ∙ open_at_once s past e x.item.0 legal

pub open_go_on : (s : Layout) (past : List Entry) (e : Entry) → IsLegal s (e ∷ past)
    → still_open (e ∷ past) ≡ filter (survives past e) (still_open past) ++ option_to_list (opening past e)
unfolding queueings
open_go_on s past e legal =
    filter-append (is_live (e ∷ past)) (queueings past) (option_to_list (opening past e))
    ∙ ap₂ (λ xs ys. xs ++ ys)
    (filter_same (is_live (e ∷ past)) (λ x. is_live past x && survives past e x) (queueings past)
    (All_map (IsBelow (length past)) _ (queueings past) (λ x less. live_goes_on past e x less)
    (queueings_below past))
    ∙ sym (filter_twice (survives past e) (is_live past) (queueings past)))
    (filter_all (is_live (e ∷ past)) (option_to_list (opening past e))
    (of_option _ (opening past e) (λ x h. opened_live s past e x legal h)))
