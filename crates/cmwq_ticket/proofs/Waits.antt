-- A row as it is kept: each ticket without its caller.
use Rattle.cmwq_ticket.specs.Common.{◌≡◌, ℕ, Bool, true, false, cond, List, [], ◌∷◌, ◌++◌, suc, filter, find, list_all}
use Rattle.cmwq_ticket.specs.Common.{nat_lt, Some, refl, sym, ap, arith, Ticket}
use Rattle.std.proofs.Common.{ap₂, map}
use Rattle.std.specs.Prelude.{option_map}
use Rattle.std.proofs.lemmas.List.Folds.{list_all-map}
use Rattle.cmwq_model.specs.declared.id.CallerId.{CallerId}
use Rattle.cmwq_ticket.specs.declared.row.Wait.{Wait}
use Rattle.cmwq_ticket.specs.Rows.{comes_before, is_numbered, is_other_ticket}
use Rattle.cmwq_ticket.specs.Waits.{AreOfCaller, is_other_wait, is_wait_numbered, ticket_by}

pub find_ticket : (c : CallerId) (n : ℕ) (waits : List Wait) → find (is_numbered n) (map (ticket_by c) waits)
    ≡ option_map (ticket_by c) (find (is_wait_numbered n) waits)
find_ticket c n [] = refl
find_ticket c n (w ∷ waits) = by (is_wait_numbered n w) (find_ticket c n waits)
  where
    by : (b : Bool) → find (is_numbered n) (map (ticket_by c) waits)
        ≡ option_map (ticket_by c) (find (is_wait_numbered n) waits)
        → cond b (Some (ticket_by c w)) (find (is_numbered n) (map (ticket_by c) waits))
        ≡ option_map (ticket_by c) (cond b (Some w) (find (is_wait_numbered n) waits))
    by true e = refl
    by false e = e

pub all_before : (c : CallerId) (t : Ticket) (waits : List Wait)
    → list_all (λ (w : Wait). nat_lt w.number t.number) waits ≡ list_all (comes_before t) (map (ticket_by c) waits)
all_before c t waits = sym (list_all-map (comes_before t) (ticket_by c) waits)

pub without_wait : (c : CallerId) (n : ℕ) (waits : List Wait) → map (ticket_by c) (filter (is_other_wait n) waits)
    ≡ filter (is_other_ticket n) (map (ticket_by c) waits)
without_wait c n [] = refl
without_wait c n (w ∷ waits) = by (is_other_wait n w) (without_wait c n waits)
  where
    by : (b : Bool) → map (ticket_by c) (filter (is_other_wait n) waits)
        ≡ filter (is_other_ticket n) (map (ticket_by c) waits)
        → map (ticket_by c) (cond b (w ∷ filter (is_other_wait n) waits) (filter (is_other_wait n) waits))
        ≡ cond b (ticket_by c w ∷ filter (is_other_ticket n) (map (ticket_by c) waits))
        (filter (is_other_ticket n) (map (ticket_by c) waits))
    by true e = ap (λ ts. ticket_by c w ∷ ts) e
    by false e = e

caller_id : ℕ → CallerId
caller_id n = record { 0 = n }

same_caller : (c d : CallerId) → c.0 ≡ d.0 → c ≡ d
unfolding caller_id
same_caller c d e = ap caller_id e

-- the caller of a row's tickets is that of one more
pub pushed_wait : (c : CallerId) (t : Ticket) (w : Wait) (waits : List Wait) → ticket_by t.caller w ≡ t
    → AreOfCaller t.caller.0 (map (ticket_by c) waits) → map (ticket_by t.caller) (waits ++ w ∷ [])
    ≡ map (ticket_by c) waits ++ t ∷ []
pushed_wait c t w [] is own = ap (λ u. u ∷ []) is
pushed_wait c t w (v ∷ waits) is own =
    let same : c ≡ t.caller = same_caller c t.caller (own 0 (ticket_by c v) (omega arith)) in
    ap₂ (λ u ts. u ∷ ts) (ap (λ d. ticket_by d v) (sym same))
    (pushed_wait c t w waits is (λ j d less. own (suc j) d (omega arith)))
