-- The first ticket of a number, of whichever caller, looked for row by row.
use Rattle.cmwq_ticket.specs.Common.{◌≡◌, ℕ, ◌+◌, ◌<◌, true, false, List, length, get_or, drop, find, Option, Some}
use Rattle.cmwq_ticket.specs.Common.{None, is_some, suc, refl, sym, ap, ◌∙◌, add-one, drop-cons, flat_map, find-append}
use Rattle.cmwq_ticket.specs.Common.{Ticket}
use Rattle.std.specs.Option.{option_or}
use Rattle.cmwq_ticket.specs.Rows.{TicketRows, is_numbered, any_ticket}

-- the rows from i on begin with that of i
any_ticket-row : (rows : TicketRows) (i n : ℕ) (row : List Ticket) → i < length rows → row ≡ get_or rows i row
    → any_ticket (drop i rows) n ≡ option_or (find (is_numbered n) row) (any_ticket (drop (i + 1) rows) n)
any_ticket-row rows i n row lt at =
    rw (add-one, drop-cons rows i row, ← at)
    (find-append (is_numbered n) row (flat_map (λ (r : List Ticket). r) (drop (suc i) rows)))

-- and are not looked at any further where it is there
pub any_ticket-found : (rows : TicketRows) (i n : ℕ) (row : List Ticket) (r : Option Ticket) → i < length rows
    → row ≡ get_or rows i row → r ≡ find (is_numbered n) row → is_some r ≡ true → any_ticket (drop i rows) n ≡ r
any_ticket-found rows i n row r lt at is some =
    any_ticket-row rows i n row lt at ∙ ap (λ o. option_or o (any_ticket (drop (i + 1) rows) n)) (sym is) ∙ first r some
  where
    first : (o : Option Ticket) → is_some o ≡ true → option_or o (any_ticket (drop (i + 1) rows) n) ≡ o
    first (Some t) h = refl
    first None h = cc

pub any_ticket-skipped : (rows : TicketRows) (i n : ℕ) (row : List Ticket) (r : Option Ticket) → i < length rows
    → row ≡ get_or rows i row → r ≡ find (is_numbered n) row → is_some r ≡ false
    → any_ticket (drop i rows) n ≡ any_ticket (drop (i + 1) rows) n
any_ticket-skipped rows i n row r lt at is none =
    any_ticket-row rows i n row lt at ∙ ap (λ o. option_or o (any_ticket (drop (i + 1) rows) n)) (sym is)
    ∙ second r none
  where
    second : (o : Option Ticket) → is_some o ≡ false → option_or o (any_ticket (drop (i + 1) rows) n)
        ≡ any_ticket (drop (i + 1) rows) n
    second None h = refl
    second (Some t) h = cc
