-- Histories that are alike: the numbers that still matter of the one are those of the other, in the same order.
use Rattle.std.specs.Prelude.{◌≡◌, ◌==◌, ◌⊎◌, ◌<◌, if◌then◌else◌, ◌∷◌}
use Rattle.cmwq_alike.specs.Common.{ℕ, true, List, length, map, option_map, nat_lt, is_some}
use Rattle.cmwq_alike.specs.Common.{AllByRecursion, In, Who, Call, Reply, Entry, Queueing, Ticket}
use Rattle.cmwq_alike.specs.Common.{Booking, Start, WorkerId, PoolId, Layout, IsLegal, still_open, unended_tickets}
use Rattle.cmwq_alike.specs.Common.{is_started, is_active, worklist, run, is_asleep, item_run, booking, is_gone}
use Rattle.cmwq_alike.specs.Common.{standing_bookings, is_enlisted, is_frozen, max_active, now, serving_from}
use Rattle.cmwq_alike.specs.Common.{is_within, is_flush_of, answer, owed, fits, is_done}
use Rattle.cmwq_model.specs.Prelude.{entry_for, has_room}
use Rattle.cmwq_model.specs.declared.reply.Reply.TheVariants as reply
use Rattle.cmwq_model.specs.declared.call.Call.TheVariants as call

-- ---- renumbering

abbrev pub queueing_by : (ℕ → ℕ) → Queueing → Queueing
queueing_by f x = record x { number = f x.number }

abbrev pub ticket_by : (ℕ → ℕ) → Ticket → Ticket
ticket_by f t = record t { number = f t.number }

-- of a booking the number never matters
abbrev pub unnumbered : Booking → Booking
unnumbered b = record b { number = 0 }

abbrev pub start_by : (ℕ → ℕ) → Start → Start
start_by f x = record x { number = f x.number }

abbrev pub call_by : (ℕ → ℕ) → Call → Call
call_by f (call.End t) = call.End (f t)
call_by f c = c

abbrev pub reply_by : (ℕ → ℕ) → Reply → Reply
reply_by f (reply.Yes k) = reply.Yes (f k)
reply_by f (reply.Again k) = reply.Again (f k)
reply_by f (reply.Cancelled n) = reply.Cancelled (f n)
reply_by f (reply.Fired i k) = reply.Fired i (f k)
reply_by f (reply.Ticket k) = reply.Ticket (f k)
reply_by f (reply.TicketQueued k) = reply.TicketQueued (f k)
reply_by f (reply.TicketCancelled k n) = reply.TicketCancelled (f k) (f n)
reply_by f (reply.TicketUnbooked k) = reply.TicketUnbooked (f k)
reply_by f (reply.TicketNo k) = reply.TicketNo (f k)
reply_by f (reply.Waiting n) = reply.Waiting (f n)
reply_by f (reply.Started n) = reply.Started (f n)
reply_by f (reply.StartedEnlist n x) = reply.StartedEnlist (f n) x
reply_by f (reply.Finished n) = reply.Finished (f n)
reply_by f r = r

-- ---- the numbers that matter

abbrev pub number_of : Queueing → ℕ
number_of x = x.number

abbrev pub ticket_number : Ticket → ℕ
ticket_number t = t.number

abbrev pub IsOpenNumber : List Entry → ℕ → Type 0
IsOpenNumber past n = In n (map number_of (still_open past))

abbrev pub IsTicketNumber : List Entry → ℕ → Type 0
IsTicketNumber past n = In n (map ticket_number (unended_tickets past))

abbrev pub Matters : List Entry → ℕ → Type 0
Matters past n = IsOpenNumber past n ⊎ IsTicketNumber past n

-- their order stays
abbrev pub KeepsOrder : (ℕ → ℕ) → List Entry → Type 0
KeepsOrder f past = (a b : ℕ) → Matters past a → Matters past b → nat_lt (f a) (f b) ≡ nat_lt a b

-- ---- a flush is served in both or in neither, and of its queue waits for the same

pub record IsServedAlike (f : ℕ → ℕ) (past other : List Entry) (q n : ℕ) : Type 0 where
  pub both : is_some (serving_from other q (f n)) ≡ is_some (serving_from past q n)
  pub within : AllByRecursion (λ (x : Queueing). (x.place.queue.0 == q) ≡ true
      → is_within (serving_from other q (f n)) (f x.number) ≡ is_within (serving_from past q n) x.number)
      (still_open past)

-- ---- all that an answer depends on

pub record IsAlike (s : Layout) (f : ℕ → ℕ) (past other : List Entry) : Type 0 where
  pub order : KeepsOrder f past
  pub below : (n : ℕ) → Matters past n → f n < length other
  pub opened : still_open other ≡ map (queueing_by f) (still_open past)
  pub started : AllByRecursion (λ x. is_started other (f x.number) ≡ is_started past x.number) (still_open past)
  pub active : AllByRecursion (λ x. is_active s other (queueing_by f x) ≡ is_active s past x) (still_open past)
  pub worklists : (p : PoolId) → worklist s other p ≡ map (queueing_by f) (worklist s past p)
  pub runs : (w : WorkerId) → run other w ≡ option_map f (run past w)
  pub sleepers : (w : WorkerId) → is_asleep other w ≡ is_asleep past w
  pub enlisted : (w : WorkerId) → is_enlisted other w ≡ is_enlisted past w
  pub item_runs : (i : ℕ) → item_run other i ≡ option_map (start_by f) (item_run past i)
  pub tickets : unended_tickets other ≡ map (ticket_by f) (unended_tickets past)
  pub served : (q : ℕ) → AllByRecursion (λ t. is_flush_of q t ≡ true → IsServedAlike f past other q t.number)
      (unended_tickets past)
  pub gone : (q : ℕ) → is_gone other q ≡ is_gone past q
  pub bookings : (i : ℕ) → option_map unnumbered (booking other i) ≡ option_map unnumbered (booking past i)
  pub standing : map unnumbered (standing_bookings other) ≡ map unnumbered (standing_bookings past)
  pub time : now other ≡ now past
  pub frozen : is_frozen other ≡ is_frozen past
  pub widths : (q : ℕ) → max_active s other q ≡ max_active s past q

-- ---- one more entry

-- old numbers stay as they were, and the number of the new entry becomes that of the other's new entry
abbrev pub next_by : (ℕ → ℕ) → List Entry → List Entry → ℕ → ℕ
next_by f past other n = if nat_lt n (length past) then f n else length other

-- the same call, answered alike
pub record IsSameEntry (f : ℕ → ℕ) (e d : Entry) : Type 0 where
  pub who : d.who ≡ e.who
  pub call : d.call ≡ call_by f e.call
  pub reply : d.reply ≡ reply_by f e.reply

-- what lay before, and both entries, which are alike
pub record IsStep (s : Layout) (f : ℕ → ℕ) (past other : List Entry) (e d : Entry) : Type 0 where
  pub alike : IsAlike s f past other
  pub legal : IsLegal s (e ∷ past)
  pub other_legal : IsLegal s (d ∷ other)
  pub same : IsSameEntry (next_by f past other) e d

abbrev pub OnSteps : (Layout → (ℕ → ℕ) → List Entry → List Entry → Entry → Entry → Type 0) → Type 0
OnSteps Law = (s : Layout) (f : ℕ → ℕ) (past other : List Entry) (e d : Entry) → IsStep s f past other e d
    → Law s f past other e d

-- ---- the laws

-- an end asks for a ticket that matters
abbrev pub Asks : List Entry → Call → Type 0
Asks past (call.End n) = IsTicketNumber past n
Asks past c = Unit {0}

-- answers are alike
abbrev pub AnswersAreAlike : Type 0
AnswersAreAlike = (s : Layout) (f : ℕ → ℕ) (past other : List Entry) (who : Who) (c : Call) → IsLegal s past
    → IsAlike s f past other → Asks past c
    → answer s other who (call_by f c) ≡ reply_by (next_by f past other) (answer s past who c)

-- what is alike stays so
abbrev pub AlikeGoOn : Type 0
AlikeGoOn = OnSteps (λ s f past other e d. IsAlike s (next_by f past other) (e ∷ past) (d ∷ other))

-- each history is alike to itself
abbrev pub EachIsAlikeToItself : Type 0
EachIsAlikeToItself = (s : Layout) (past : List Entry) → IsAlike s (λ n. n) past past

-- what is owed is the same, so calls have room in both where both are equally long
abbrev pub OwedAreAlike : Type 0
OwedAreAlike = (s : Layout) (f : ℕ → ℕ) (past other : List Entry) → IsLegal s past → IsAlike s f past other
    → owed s other ≡ owed s past

-- a call that fits makes the next entry of both, and they are alike after it
abbrev pub CallsGoOnAlike : Type 0
CallsGoOnAlike = (s : Layout) (f : ℕ → ℕ) (past other : List Entry) (who : Who) (c : Call) → IsLegal s past
    → IsLegal s other → IsAlike s f past other → Asks past c → fits s who c ≡ true
    → IsAlike s (next_by f past other) (entry_for s past who c ∷ past) (entry_for s other who (call_by f c) ∷ other)

-- and there is room for it in both or in neither, where both are equally long
abbrev pub RoomIsAlike : Type 0
RoomIsAlike = (s : Layout) (room : ℕ) (f : ℕ → ℕ) (past other : List Entry) (who : Who) (c : Call) → IsLegal s past
    → IsLegal s other → IsAlike s f past other → Asks past c → fits s who c ≡ true → length other ≡ length past
    → has_room s room other who (call_by f c) ≡ has_room s room past who c

-- ---- what a caller waits with

-- an unended ticket, and the same one of the other; or both were ended
pub record IsWaitAlike (f : ℕ → ℕ) (past other : List Entry) (n m : ℕ) : Type 0 where
  pub below : n < length past
  pub other_below : m < length other
  pub ticket : (IsTicketNumber past n × (m ≡ f n)) ⊎ ((IsTicketNumber past n → ⊥) × (IsTicketNumber other m → ⊥))

-- whatever the next entry is, and whoever made it
abbrev pub WaitsGoOnAlike : Type 0
WaitsGoOnAlike =
    OnSteps (λ s f past other e d. (n m : ℕ) → IsWaitAlike f past other n m
    → IsWaitAlike (next_by f past other) (e ∷ past) (d ∷ other) n m)

-- a wait would end in both or in neither
abbrev pub WaitsEndAlike : Type 0
WaitsEndAlike = (s : Layout) (f : ℕ → ℕ) (past other : List Entry) (who : Who) (n m : ℕ) → IsLegal s past
    → IsLegal s other → IsAlike s f past other → IsWaitAlike f past other n m
    → is_done (answer s other who (call.End m)) ≡ is_done (answer s past who (call.End n))
