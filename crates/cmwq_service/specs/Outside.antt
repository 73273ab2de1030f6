-- Calls that are refused before they are made, and by which limit.
use Rattle.std.specs.Prelude.{◌≡◌, ◌∷◌, ℕ, Bool, ◌&&◌, false, not, if◌then◌else◌, List, [], length, nat_le, nat_lt}
use Rattle.std.specs.Prelude.{Option, Some}
use Rattle.std.specs.List.{find}
use Rattle.cmwq_model.specs.Prelude.{Layout, has_numbers, is_callers}
use Rattle.cmwq_model.specs.declared.call.Call.{Call}
use Rattle.cmwq_model.specs.declared.call.Call.TheVariants as call
use Rattle.cmwq_model.specs.declared.id.CpuId.{CpuId}
use Rattle.cmwq_model.specs.declared.id.ItemId.{ItemId}
use Rattle.cmwq_model.specs.declared.id.QueueId.{QueueId}
use Rattle.cmwq_kinds.specs.Numbers.{numbers_of_call}
use Rattle.cmwq_service.specs.declared.outside.Asked.{Asked}
use Rattle.cmwq_service.specs.declared.outside.Asked.TheVariants as asked
use Rattle.cmwq_service.specs.declared.outside.Limit.{Limit}
use Rattle.cmwq_service.specs.declared.outside.Limit.TheVariants as limit
use Rattle.cmwq_service.specs.declared.outside.Outside.{Outside}

-- what was asked as numbers, which nothing else has: a call has five
abbrev pub numbers_asked : Asked → List ℕ
numbers_asked (asked.Call c) = numbers_of_call c
numbers_asked (asked.Busy i) = i.0 ∷ []

-- ---- the limits of a call's numbers

abbrev pub item_limit : Layout → ItemId → Limit
item_limit s i = limit.Item i.0 s.items

abbrev pub queue_limit : Layout → QueueId → Limit
queue_limit s q = limit.Queue q.0 (length s.queues)

abbrev pub cpu_limit : Layout → CpuId → Limit
cpu_limit s c = limit.Cpu c.0 s.cpus

abbrev pub place_limits : Layout → ItemId → QueueId → CpuId → List Limit
place_limits s i q c = item_limit s i ∷ queue_limit s q ∷ cpu_limit s c ∷ []

-- in the order in which the numbers stand in the call
abbrev pub limits_in : Layout → Call → List Limit
limits_in s (call.Queue i q c) = place_limits s i q c
limits_in s (call.Delay i q c t) = place_limits s i q c
limits_in s (call.Modify i q c t) = place_limits s i q c
limits_in s (call.Cancel i) = item_limit s i ∷ []
limits_in s (call.FlushItem i) = item_limit s i ∷ []
limits_in s (call.FlushDelayed i) = item_limit s i ∷ []
limits_in s (call.CancelSync i) = item_limit s i ∷ []
limits_in s (call.Flush q) = queue_limit s q ∷ []
limits_in s (call.Drain q) = queue_limit s q ∷ []
limits_in s (call.Destroy q) = queue_limit s q ∷ []
limits_in s (call.SetMax q n) = queue_limit s q ∷ limit.MaxActive n ∷ []
limits_in s c = []

-- ids begin at 0, and a max_active at 1
abbrev pub is_broken : Limit → Bool
is_broken (limit.Item i items) = nat_le items i
is_broken (limit.Queue q queues) = nat_le queues q
is_broken (limit.Cpu c cpus) = nat_le cpus c
is_broken (limit.MaxActive n) = nat_lt n 1
is_broken l = false

-- the first limit that the call breaks
abbrev pub limit_broken : Layout → Call → Option Limit
limit_broken s c = find is_broken (limits_in s c)

-- what a call answers of which a number isn't inside the layout
pub record IsOutside (s : Layout) (c : Call) (o : Outside) : Type 0 where
  pub asked : o.asked ≡ asked.Call c
  pub limit : limit_broken s c ≡ Some o.limit

-- what a look at such an item answers
abbrev pub look_outside : Layout → ItemId → Outside
look_outside s i = record { asked = asked.Busy i; limit = item_limit s i }

-- ---- batches: each call of one is a call of callers, or each one of workers

-- a call that such a maker makes, with its numbers inside the layout
abbrev pub is_allowed : (Call → Bool) → Layout → Call → Bool
is_allowed is_made s c = is_made c && has_numbers s c

-- who alone makes such a call, as others don't
abbrev pub makers_limit : Call → Limit
makers_limit c = if is_callers c then limit.OfCallers else limit.OfWorkers

-- the limit that a call breaks which isn't allowed; is_made tells whether the batch's maker makes such calls
abbrev pub limit_in_batch : Bool → Layout → Call → Option Limit
limit_in_batch is_made s c = if is_made then limit_broken s c else Some (makers_limit c)

-- what a batch answers of which a call isn't allowed: it tells the first one
pub record IsFirstOutside (is_made : Call → Bool) (s : Layout) (cs : List Call) (o : Outside) : Type 0 where
  pub call : Call
  pub first : find (λ c. not (is_allowed is_made s c)) cs ≡ Some call
  pub asked : o.asked ≡ asked.Call call
  pub limit : limit_in_batch (is_made call) s call ≡ Some o.limit
