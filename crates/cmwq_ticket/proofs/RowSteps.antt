-- A row as tickets come and go, and what is counted in it.
use Rattle.cmwq_ticket.specs.Common.{◌≡◌, ℕ, ◌+◌, ◌<◌, Bool, true, false, cond, List, [], ◌∷◌, ◌++◌, length, get_or}
use Rattle.cmwq_ticket.specs.Common.{suc, filter, find, count_by, AllPairs, Some, refl, sym, ap, arith, list_all}
use Rattle.cmwq_ticket.specs.Common.{eqb-true, ltb-true, nat_tests, length-append, sum_by-cons, length-filter}
use Rattle.cmwq_ticket.specs.Common.{count_by-le-length, AllPass-from_list_all, Ticket}
use Rattle.std.proofs.lemmas.Option.{same_Some}
use Rattle.std.proofs.lemmas.List.Kept.{AllPairs-filter}
use Rattle.std.proofs.lemmas.List.Quantifiers.{all_pairs_push}
use Rattle.cmwq_ticket.specs.Rows.{is_numbered, is_other_ticket, comes_before, IsOlderTicket, IsRow}

-- ---- it stays a row

pub IsRow-push : (row : List Ticket) (t : Ticket) → list_all (comes_before t) row ≡ true → length row < 64 → IsRow row
    → IsRow (row ++ t ∷ [])
IsRow-push row t before room is = record {
  rising = all_pairs_push IsOlderTicket row t is.rising
      (λ k d lt. ltb-true (get_or row k d).number t.number (AllPass-from_list_all (comes_before t) row before k d lt));
  few = let longer = length-append row (t ∷ []) in omega arith;
}

pub IsRow-filter : (p : Ticket → Bool) (row : List Ticket) → IsRow row → IsRow (filter p row)
IsRow-filter p row is = record {
  rising = AllPairs-filter IsOlderTicket p row is.rising;
  few = let is_len = length-filter p row in let le = count_by-le-length p row in let few = is.few in omega arith;
}

-- ---- one ticket less

abbrev one_of : Bool → ℕ
one_of b = cond b 1 0

-- what comes later than a number has another
filter_later : (n : ℕ) (row : List Ticket) → ((k : ℕ) (d : Ticket) → k < length row → n < (get_or row k d).number)
    → filter (is_other_ticket n) row ≡ row
filter_later n [] later = refl
filter_later n (x ∷ row) later =
    let here : n < x.number = later 0 x (omega arith) in
    let other : is_other_ticket n x ≡ true = grind (arith, nat_tests) in
    let rest = filter_later n row (λ k d lt. later (suc k) d (omega arith)) in
    rw other (ap (λ xs. x ∷ xs) rest)

AllPairs-tail : (x : Ticket) (row : List Ticket) → AllPairs IsOlderTicket (x ∷ row) → AllPairs IsOlderTicket row
AllPairs-tail x row rise i j d before lt = rise (suc i) (suc j) d (omega arith) (omega arith)

-- where the ticket with this number is found, the row without it has one less of what it is
pub count_by-other : (p : Ticket → Bool) (n : ℕ) (t : Ticket) (row : List Ticket) → AllPairs IsOlderTicket row
    → find (is_numbered n) row ≡ Some t → count_by p (filter (is_other_ticket n) row) + cond (p t) 1 0 ≡ count_by p row
count_by-other p n t [] rise found = cc
count_by-other p n t (x ∷ row) rise found =
    which (is_numbered n x) refl (λ there. count_by-other p n t row (AllPairs-tail x row rise) there)
  where
    which : (b : Bool) → is_numbered n x ≡ b
        → (find (is_numbered n) row ≡ Some t → count_by p (filter (is_other_ticket n) row) + cond (p t) 1 0
        ≡ count_by p row) → count_by p (filter (is_other_ticket n) (x ∷ row)) + cond (p t) 1 0 ≡ count_by p (x ∷ row)
    which true is others =
        let same : x ≡ t = same_Some x t (rw is at found) in
        let here = eqb-true x.number n is in
        let rest =
        filter_later n row (λ k d lt. let later = rise 0 (suc k) d (omega arith) (omega arith) in omega arith) in
        let one = sum_by-cons (λ u. cond (p u) 1 0) x row in
        rw (is, rest) (let eq = ap (λ (u : Ticket). one_of (p u)) (sym same) in omega arith)
    which false is others =
        let there : find (is_numbered n) row ≡ Some t = rw is at found in
        let rest = others there in
        let one = sum_by-cons (λ u. cond (p u) 1 0) x row in
        let kept = sum_by-cons (λ u. cond (p u) 1 0) x (filter (is_other_ticket n) row) in
        rw is (omega arith)
