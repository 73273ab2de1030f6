-- What waits is after the width, and what finishes doesn't wait.
use Rattle.cmwq_state.specs.Common.{◌≡◌, ℕ, ◌<◌, ◌≤◌, Bool, true, false, not, List, [], ◌∷◌, length, count_by, max, min}
use Rattle.cmwq_state.specs.Common.{Option, Some, None, is_some, refl, sym, ap, ◌∙◌, subst, arith, IfSome}
use Rattle.cmwq_state.specs.Common.{option_and_then, list_any, same_Some, not-true, count_by-le-length, Who, Reply}
use Rattle.cmwq_state.specs.Common.{Entry, Queueing, Layout, width, item_of, number_finished, queueings, still_open}
use Rattle.cmwq_state.specs.Common.{opening, queueing_at, has_number, is_active, IsLegal, count_by-cons, queueing_run}
use Rattle.cmwq_state.specs.Common.{ending, is_ended, is_on, open_on, active_count, waits, waiting_queueings}
use Rattle.cmwq_state.specs.Common.{run_is_active, In, all_in, found, in_filter, filter_in, open_there}
use Rattle.cmwq_state.specs.Common.{opened_are_there, PwqState, is_waiting, AreBehind, IsBehind, IsPlacedIf, on_itself}
use Rattle.cmwq_state.specs.Common.{place_inside, ended_by, ends_as_told, most_cpus}
use Rattle.cmwq_model.specs.Widths.{keeps_widths}
use Rattle.cmwq_theory_steps.proofs.Widths.{width_same}
use Rattle.cmwq_theory_steps.proofs.Active.{active_counted}
use Rattle.cmwq_theory_steps.proofs.Fresh.{finishes_run}
use Rattle.cmwq_state.specs.Pwqs.{ArePwqsOf}
use Rattle.cmwq_state.proofs.PwqsSteps.{waits_by_number}

-- where one fails, fewer pass than there are
fewer_pass : {X : Type 0} (p : X → Bool) (xs : List X) (x : X) → In x xs → p x ≡ false → count_by p xs < length xs
fewer_pass p [] x here fails = absurd here
fewer_pass p (y ∷ ys) x here fails = grind (arith, count_by-cons, count_by-le-length, fewer_pass p ys x)

-- where more are open than active, the width or more are active
between : (a n w : ℕ) → max a (min n w) < n → w ≤ max a (min n w)
between a n w h = omega arith

filled : (s : Layout) (past : List Entry) (q c : ℕ) → active_count s past q c < length (open_on past q c)
    → width s past q ≤ active_count s past q c
unfolding active_count queueings
filled s [] q c h = absurd (let none : length (open_on [] q c) ≡ 0 = refl in omega arith)
filled s (e ∷ past) q c h = between _ (length (open_on (e ∷ past) q c)) (width s (e ∷ past) q) h

pub waits_behind : (s : Layout) (past : List Entry) (x : Queueing) → In x (waiting_queueings s past)
    → width s past x.place.queue.0 ≤ active_count s past x.place.queue.0 x.place.cpu.0
waits_behind s past x there =
    let q = x.place.queue.0 in let c = x.place.cpu.0 in
    let k = in_filter (waits s past) (still_open past) x there in
    let here = filter_in (is_on q c) (still_open past) x k.0 (on_itself q c x refl refl) in
    let less = fewer_pass (is_active s past) (open_on past q c) x here (not-true (is_active s past x) k.1) in
    filled s past q c (subst (λ n. n < length (open_on past q c)) (active_counted s past q c) less)

pub all_behind : (s : Layout) (past : List Entry) (e : Entry) (l : PwqState) (wide : ℕ → ℕ) → IsLegal s past
    → s.cpus ≤ most_cpus → ArePwqsOf s past l → keeps_widths e.reply ≡ true
    → ((q : ℕ) → q < length s.queues → wide q ≡ width s (e ∷ past) q) → AreBehind wide l.counts l.waiting
all_behind s past e l wide legal few pwqs keeps widths =
    subst (AreBehind wide l.counts) (sym pwqs.waiting) (all_in (IsBehind wide l.counts) (waiting_queueings s past) one)
  where
    one : (x : Queueing) → In x (waiting_queueings s past) → IsBehind wide l.counts x
    one x there = grind (arith, open_there, in_filter, width, width_same, active_count, waits_behind, place_inside)

-- ---- what ends and what is opened

ends_run : (past : List Entry) (who : Who) (i : Option ℕ) (r : Reply) (n : ℕ) → number_finished r ≡ Some n
    → ended_by past who i r ≡ queueing_run past who
ends_run past who i r n h = grind arith

finished_active : (s : Layout) (past : List Entry) (e : Entry) (n : ℕ) (x : Queueing) → IsLegal s (e ∷ past)
    → IsLegal s past → number_finished e.reply ≡ Some n → ending past e ≡ Some x → is_active s past x ≡ true
finished_active s past e n x legal before h is =
    let run_of = finishes_run s past e n legal h in
    let r = run_is_active s past run_of.worker n before run_of.is_run in
    let runs : queueing_run past e.who ≡ Some r.queueing = ap (queueing_run past) run_of.by_worker
    ∙ (ap (option_and_then (queueing_at past)) run_of.is_run ∙ r.found) in
    let ends : ending past e ≡ Some r.queueing =
    ends_as_told s past e legal ∙ (ends_run past e.who (item_of e) e.reply n h ∙ runs) in
    subst (λ y. is_active s past y ≡ true) (same_Some r.queueing x (sym ends ∙ is)) r.active

pub ended_open : (s : Layout) (past : List Entry) (e : Entry) (x : Queueing) → ending past e ≡ Some x
    → In x (still_open past)
ended_open s past e x is = (found (is_ended past e) (still_open past) x is).0

pub finished_waits_not : (s : Layout) (past : List Entry) (e : Entry) (l : PwqState) → IsLegal s (e ∷ past)
    → IsLegal s past → ArePwqsOf s past l → is_some (number_finished e.reply) ≡ true
    → IfSome (ending past e) (λ x. is_waiting l x ≡ false)
finished_waits_not s past e l legal before pwqs h = by (ending past e) refl (number_finished e.reply) refl h
  where
    by : (o : Option Queueing) → ending past e ≡ o → (m : Option ℕ) → number_finished e.reply ≡ m → is_some m ≡ true
        → IfSome o (λ x. is_waiting l x ≡ false)
    by None is m finished some = tt
    by (Some x) is None finished some = cc
    by (Some x) is (Some n) finished some =
        ap (list_any (has_number x.number)) pwqs.waiting
        ∙ (waits_by_number s past x (ended_open s past e x is)
        ∙ ap not (finished_active s past e n x legal before finished is))

pub ended_placed : (s : Layout) (past : List Entry) (e : Entry) (o : Option Queueing) → IsLegal s past
    → s.cpus ≤ most_cpus → ending past e ≡ o → IsPlacedIf (length s.queues) o
ended_placed s past e None before few is = tt
ended_placed s past e (Some x) before few is = let there = open_there s past x before (ended_open s past e x is) in
    let h = there.cpu in (there.queue, omega arith)

pub opened_placed : (s : Layout) (past : List Entry) (e : Entry) (o : Option Queueing) → IsLegal s (e ∷ past)
    → s.cpus ≤ most_cpus → opening past e ≡ o → IsPlacedIf (length s.queues) o
opened_placed s past e o legal few is = grind (arith, opened_are_there)
