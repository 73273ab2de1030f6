-- What an empty history leaves, and the serials of a legal one.
use Rattle.cmwq_publish.specs.Common.{◌≡◌, ℕ, ◌+◌, ◌≤◌, ◌==◌, List, [], ◌∷◌, length, Bool, true, false, cond, refl, ap}
use Rattle.cmwq_publish.specs.Common.{sym, ◌∙◌, subst, arith, if◌then◌else◌, option_map, length-reverse, CallerId, Who}
use Rattle.cmwq_publish.specs.Common.{Caller, Worker, Entry, is_at, is_by, same_who, serial_of, Layout, booking}
use Rattle.cmwq_publish.specs.Common.{item_start, queueings, IsLegal, past_of, bits}
use Rattle.std.proofs.lemmas.Bool.{eqb-true}
use Rattle.std.proofs.lemmas.List.Sums.{count_by-le-length, sum_by-cons}
use Rattle.cmwq_publish.specs.Marked.{caller_number_of}
use Rattle.cmwq_model.proofs.Growing.{nothing_is_legal}

nothing_leaves_no_bits : (i : ℕ) → bits [] i ≡ 0
unfolding booking queueings item_start
nothing_leaves_no_bits i = refl

pub none_is_legal : (s : Layout) (log : List Entry) → log ≡ [] → IsLegal s (past_of log)
none_is_legal s log is = subst (λ l. IsLegal s (past_of l)) (sym is) (nothing_is_legal s)

pub none_leave_no_bits : (log : List Entry) (i : ℕ) → log ≡ [] → bits (past_of log) i ≡ 0
none_leave_no_bits log i is = subst (λ l. bits (past_of l) i ≡ 0) (sym is) (nothing_leaves_no_bits i)

-- the serials of a legal history count
pub own_serial : (s : Layout) (past : List Entry) (e : Entry) → IsLegal s (e ∷ past) → e.serial ≡ serial_of past e.who
unfolding IsLegal
own_serial s past e legal = ap (λ (x : Entry). x.serial) legal.1

pub serial_below : (s : Layout) (log : List Entry) (e : Entry) → IsLegal s (e ∷ past_of log) → e.serial ≤ length log
serial_below s log e legal =
    let own = own_serial s (past_of log) e legal in
    let few = count_by-le-length (is_by e.who) (past_of log) in
    let same = length-reverse log in
    omega arith

counted_one : (past : List Entry) (e : Entry) (who : Who)
    → serial_of (e ∷ past) who ≡ cond (is_by who e) 1 0 + serial_of past who
counted_one past e who = sum_by-cons (λ y. cond (is_by who y) 1 0) e past

abbrev caller : ℕ → Who
caller c = Caller (record { 0 = c })

of_caller : (past : List Entry) (e : Entry) (d : CallerId) (c : ℕ) (b : Bool) → (d.0 == c) ≡ b → e.who ≡ Caller d
    → e.serial ≡ serial_of past e.who
    → cond b 1 0 + serial_of past (caller c) ≡ (if b then e.serial + 1 else serial_of past (caller c))
of_caller past e d c true same is own =
    let n : e.serial ≡ serial_of past (caller c) = own ∙ ap (serial_of past) (is ∙ ap caller (eqb-true d.0 c same)) in
    omega arith
of_caller past e d c false other is own = omega arith

-- how many entries a caller has after one more
pub next_serial : (past : List Entry) (e : Entry) (who : Who) (c : ℕ) → e.who ≡ who → e.serial ≡ serial_of past e.who
    → serial_of (e ∷ past) (caller c)
    ≡ (if is_at (option_map (λ (t : CallerId). t.0) (caller_number_of who)) c then e.serial + 1
    else serial_of past (caller c))
next_serial past e (Caller d) c is own =
    counted_one past e (caller c) ∙ ap (λ w. cond (same_who w (caller c)) 1 0 + serial_of past (caller c)) is
    ∙ of_caller past e d c (d.0 == c) refl is own
next_serial past e (Worker w) c is own =
    let none : 0 + serial_of past (caller c) ≡ serial_of past (caller c) = omega arith in
    counted_one past e (caller c) ∙ ap (λ w. cond (same_who w (caller c)) 1 0 + serial_of past (caller c)) is ∙ none
