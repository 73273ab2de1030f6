-- How many unended tickets there are of each kind that is asked for: by item, and by queue.
use Rattle.std.specs.Prelude.{◌≡◌, ◌+◌, ◌-◌, ◌<◌}
use Rattle.cmwq_ticket.specs.Common.{ℕ, Bool, true, List, length, All, count_by, sum_by, nat_lt, slice_index, slice_set}
use Rattle.cmwq_ticket.specs.Common.{replicate, Call, Ticket, is_cancel_sync_of, is_destroy_of, is_drain_of}
use Rattle.cmwq_model.specs.declared.call.Call.TheVariants as call

-- of each item how many cancel it, of each queue how many destroy it, and how many drain or destroy it
pub record TicketCounts : Type 0 where
  pub cancels : List ℕ
  pub destroys : List ℕ
  pub drains : List ℕ

-- of so many items and queues, the item or queue that a call cancels, drains or destroys is one
abbrev pub is_counted : ℕ → ℕ → Call → Bool
is_counted items queues (call.CancelSync i) = nat_lt i.0 items
is_counted items queues (call.Drain q) = nat_lt q.0 queues
is_counted items queues (call.Destroy q) = nat_lt q.0 queues
is_counted items queues c = true

abbrev pub no_counts : ℕ → ℕ → TicketCounts
no_counts items queues =
    record { cancels = replicate items 0; destroys = replicate queues 0; drains = replicate queues 0 }

-- one more, and one less
abbrev pub more_at : ℕ → List ℕ → List ℕ
more_at k counts = slice_set counts k (slice_index counts k + 1)

abbrev pub less_at : ℕ → List ℕ → List ℕ
less_at k counts = slice_set counts k (slice_index counts k - 1)

abbrev pub counts_with : Call → TicketCounts → TicketCounts
counts_with (call.CancelSync i) a = record a { cancels = more_at i.0 a.cancels }
counts_with (call.Drain q) a = record a { drains = more_at q.0 a.drains }
counts_with (call.Destroy q) a = record a { destroys = more_at q.0 a.destroys; drains = more_at q.0 a.drains }
counts_with c a = a

abbrev pub counts_without : Call → TicketCounts → TicketCounts
counts_without (call.CancelSync i) a = record a { cancels = less_at i.0 a.cancels }
counts_without (call.Drain q) a = record a { drains = less_at q.0 a.drains }
counts_without (call.Destroy q) a = record a { destroys = less_at q.0 a.destroys; drains = less_at q.0 a.drains }
counts_without c a = a

-- where there is something to take away
abbrev pub HasSome : ℕ → List ℕ → Type 0
HasSome k counts = 0 < slice_index counts k

abbrev pub HasCount : Call → TicketCounts → Type 0
HasCount (call.CancelSync i) a = HasSome i.0 a.cancels
HasCount (call.Drain q) a = HasSome q.0 a.drains
HasCount (call.Destroy q) a = HasSome q.0 a.destroys × HasSome q.0 a.drains
HasCount c a = Unit {0}

-- each count may rise by one
abbrev pub IsBelowLimit : ℕ → Type 0
IsBelowLimit n = n < 65535

pub record HaveRoom (a : TicketCounts) : Type 0 where
  pub cancels : All IsBelowLimit a.cancels
  pub destroys : All IsBelowLimit a.destroys
  pub drains : All IsBelowLimit a.drains

-- the tickets that pass a test, of all callers
abbrev pub count_all : (Ticket → Bool) → List (List Ticket) → ℕ
count_all p rows = sum_by (count_by p) rows

abbrev pub IsExact : (ℕ → Ticket → Bool) → List ℕ → List (List Ticket) → Type 0
IsExact p counts rows = (i : ℕ) → slice_index counts i ≡ count_all (p i) rows

-- there is a count for each item and each queue
pub record AreSized (items queues : ℕ) (a : TicketCounts) : Type 0 where
  pub cancels : length a.cancels ≡ items
  pub destroys : length a.destroys ≡ queues
  pub drains : length a.drains ≡ queues

pub record AreExact (a : TicketCounts) (rows : List (List Ticket)) : Type 0 where
  pub cancels : IsExact is_cancel_sync_of a.cancels rows
  pub destroys : IsExact is_destroy_of a.destroys rows
  pub drains : IsExact is_drain_of a.drains rows
