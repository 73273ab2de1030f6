-- The flushes of a queue, as plain lists.
use Rattle.std.specs.Prelude.{◌≡◌, ℕ, ◌+◌, ◌*◌, ◌<◌, ◌≤◌, if◌then◌else◌, List, [], ◌∷◌, ◌++◌, length, filter, find, All}
use Rattle.std.specs.Prelude.{Bool, true, Option, MatchOption, is_some, nat_lt}
use Rattle.std.specs.Option.{option_map_or}
use Rattle.cmwq_flush.specs.declared.served.Served.{Served}
use Rattle.cmwq_flush.specs.Numbers.{without}
use Rattle.cmwq_flush.specs.Served.{tickets_of_served, has_ticket, is_other_flush, served_waits_for}

-- next is one more than the number that was opened last, opened the open numbers, which rise; the flushes that are
-- served and the tickets in overflow stand by age
pub record FlushBook : Type 0 where
  pub items : ℕ
  pub next : ℕ
  pub opened : List ℕ
  pub served : List Served
  pub overflow : List ℕ

abbrev pub new_book : ℕ → FlushBook
new_book items = record { items = items; next = 0; opened = []; served = []; overflow = [] }

-- the tickets of flushes by age
abbrev pub flush_tickets : FlushBook → List ℕ
flush_tickets b = tickets_of_served b.served ++ b.overflow

-- two queueings of each item may be open
abbrev pub CanOpen : FlushBook → ℕ → Type 0
CanOpen b n = (b.next ≤ n) × (length b.opened < 2 * b.items)

-- the ticket comes after those of all flushes that stand
abbrev pub IsLatestFlush : FlushBook → ℕ → Type 0
IsLatestFlush b t = All (λ u. u < t) (flush_tickets b)

-- a flush that is served waits for all that was opened before, one in overflow for all that is open
abbrev pub served_of : FlushBook → ℕ → Option Served
served_of b t = find (has_ticket t) b.served

abbrev pub is_waited_for : FlushBook → ℕ → ℕ → Bool
is_waited_for b t n = option_map_or (served_waits_for n) (served_of b t) true

abbrev pub IsReady : FlushBook → ℕ → Type 0
IsReady b t = MatchOption (served_of b t) (b.opened ≡ []) (λ s. All (λ n. s.bound ≤ n) b.opened)

abbrev pub flushes_with_open : FlushBook → ℕ → FlushBook
flushes_with_open b n = record b { next = n + 1; opened = b.opened ++ n ∷ [] }

abbrev pub flushes_without_open : FlushBook → ℕ → FlushBook
flushes_without_open b n = record b { opened = without n b.opened }

-- a flush is served at once where fewer than 15 are, and else in overflow
abbrev pub flush_from : ℕ → ℕ → Served
flush_from t bound = record { ticket = t; bound = bound }

abbrev pub flushes_with_wait : FlushBook → ℕ → FlushBook
flushes_with_wait b t = if nat_lt (length b.served) 15 then record b { served = b.served ++ flush_from t b.next ∷ [] }
    else record b { overflow = b.overflow ++ t ∷ [] }

-- the end of one that is served serves the oldest of the overflow from that moment on
abbrev pub served_with_oldest : List Served → List ℕ → ℕ → List Served
served_with_oldest served [] bound = served
served_with_oldest served (t ∷ overflow) bound = served ++ flush_from t bound ∷ []

abbrev pub without_oldest : List ℕ → List ℕ
without_oldest [] = []
without_oldest (t ∷ overflow) = overflow

abbrev pub serve_oldest : FlushBook → List Served → FlushBook
serve_oldest b served =
    record b { served = served_with_oldest served b.overflow b.next; overflow = without_oldest b.overflow }

abbrev pub flushes_without_wait : FlushBook → ℕ → FlushBook
flushes_without_wait b t = if is_some (served_of b t) then serve_oldest b (filter (is_other_flush t) b.served)
    else record b { overflow = without t b.overflow }
