-- The callers that sleep until their waits are ready.
use Rattle.std.specs.Prelude.{◌≡◌, ◌<◌, ◌≤◌, ℕ, Bool, true, false, List, [], ◌∷◌, length, slice_get, Option, Some}
use Rattle.std.specs.Prelude.{MatchOption, if◌then◌else◌, ◌++◌, ◌==◌, not}
use Rattle.cmwq_model.specs.Prelude.{Layout, is_flush_of}
use Rattle.cmwq_model.specs.declared.entry.Entry.{Entry}
use Rattle.cmwq_model.specs.declared.id.QueueId.{QueueId}
use Rattle.cmwq_model.specs.declared.call.Call.TheVariants as call
use Rattle.cmwq_model.specs.declared.record.Queueing.{Queueing}
use Rattle.cmwq_model.specs.declared.record.Ticket.{Ticket}
use Rattle.cmwq_theory_wakes.specs.Readiness.{may_release}
use Rattle.cmwq_theory_wakes.specs.Rest.{IsOfItsCall, IsUnready}
use Rattle.cmwq_dispatch.specs.Naming.{names_caller}
use Rattle.cmwq_dispatch.specs.declared.wakes.Wakes.{Wakes}
use Rattle.cmwq_dispatch.specs.declared.waiters.Waiter.{Waiter}

-- The tickets of those that were not named since they began to sleep.
abbrev pub unnamed : List Waiter → List Ticket
unnamed [] = []
unnamed (w ∷ ws) = if w.is_named then unnamed ws else w.ticket ∷ unnamed ws

-- One more begins to sleep.
pub record IsAdded (t : Ticket) (old new : List Waiter) : Type 0 where
  pub before : List Waiter
  pub after : List Waiter
  pub was : old ≡ before ++ after
  pub now : new ≡ before ++ record { ticket = t; is_named = false } ∷ after

abbrev pub is_of_other : ℕ → Ticket → Bool
is_of_other c t = not (t.caller.0 == c)

abbrev pub is_of_other_caller : ℕ → Waiter → Bool
is_of_other_caller c w = is_of_other c w.ticket

-- The waits stand in the order in which they were begun.
abbrev pub AreInOrder : List Waiter → Type 0
AreInOrder xs = (i j : ℕ) (v w : Waiter) → i ≤ j → slice_get xs i ≡ Some v → slice_get xs j ≡ Some w
    → v.ticket.number ≤ w.ticket.number

abbrev pub AreFlushes : List Waiter → Type 0
AreFlushes xs = (k : ℕ) (w : Waiter) → slice_get xs k ≡ Some w → (q : QueueId) × (w.ticket.call ≡ call.Flush q)

-- The ticket is of a caller that there is, and has the call of its entry.
pub record IsKnown (s : Layout) (past : List Entry) (t : Ticket) : Type 0 where
  pub caller : t.caller.0 < s.callers
  pub call : IsOfItsCall past t

-- This holds of each one that was not named since.
abbrev pub EachUnnamed : (Ticket → Type 0) → List Waiter → Type 0
EachUnnamed P xs = (k : ℕ) (w : Waiter) → slice_get xs k ≡ Some w → w.is_named ≡ false → P w.ticket

abbrev pub AreKnown : Layout → List Entry → List Waiter → Type 0
AreKnown s past xs = EachUnnamed (IsKnown s past) xs

abbrev pub AllWait : List Entry → List Waiter → Type 0
AllWait past xs = EachUnnamed (IsUnready past) xs

-- All wait but for the flushes of this queue, or but for those that the end of this queueing may release.
abbrev pub OthersWait : List Entry → QueueId → List Waiter → Type 0
OthersWait past q xs = EachUnnamed (λ t. is_flush_of q.0 t ≡ false → IsUnready past t) xs

abbrev pub UnreleasedWait : List Entry → Queueing → List Waiter → Type 0
UnreleasedWait past x xs = EachUnnamed (λ t. may_release t.call x ≡ false → IsUnready past t) xs

abbrev pub MostWait : List Entry → Option Queueing → List Waiter → Type 0
MostWait past ended xs = MatchOption ended (AllWait past xs) (λ x. UnreleasedWait past x xs)

-- A waiter is as it was, or is named now.
pub data IsNamedOrSame (wakes : Wakes) (v w : Waiter) : Type 0 where
  same : w ≡ v → IsNamedOrSame wakes v w
  named : w ≡ record v { is_named = true } → names_caller wakes v.ticket.caller.0 ≡ true → IsNamedOrSame wakes v w

pub record OnlyNamed (wakes : Wakes) (old new : List Waiter) : Type 0 where
  pub count : length new ≡ length old
  pub each : (k : ℕ) (v w : Waiter) → slice_get old k ≡ Some v → slice_get new k ≡ Some w → IsNamedOrSame wakes v w
