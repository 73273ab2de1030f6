-- What a whole call does, which may make several entries: a tick fires what is due, and a call that waits ends its
-- ticket.
use Rattle.std.specs.Prelude.{◌≡◌, ◌≢◌, ◌⊎◌, ◌||◌, ◌∷◌, ◌++◌}
use Rattle.cmwq_monitor.specs.Common.{ℕ, zero, suc, true, false, List, [], All, Option, None, MatchOption}
use Rattle.cmwq_monitor.specs.Common.{MatchBool, IsPrefix, Who, Call, Reply, Entry, Layout, is_by, serial_of, IsLegal}
use Rattle.cmwq_monitor.specs.Common.{past_of, has_room}
use Rattle.cmwq_model.specs.Prelude.{is_drain, is_tick, ticket_told}
use Rattle.cmwq_model.specs.declared.call.Call.TheVariants as call
use Rattle.cmwq_model.specs.declared.reply.Reply.TheVariants as reply
use Rattle.cmwq_monitor.specs.Participants.{View, Gains, made_by}
use Rattle.cmwq_monitor.specs.Calls.{StandFrom}
use Rattle.cmwq_monitor.specs.Faults.{Refused, IsStranger}
use Rattle.cmwq_monitor.specs.declared.fault.RunFault.{RunFault}
use Rattle.cmwq_monitor.specs.declared.fault.RunFault.TheVariants.{NoMemory}

abbrev pub Is : Call → Reply → Entry → Type 0
Is c r e = (e.call ≡ c) × (e.reply ≡ r)

-- A call had no room: after some beginning of the history, in which its caller has made these entries and no more.
abbrev pub HadNoRoom : Layout → Who → List Entry → List Entry → Call → Type 0
HadNoRoom s who history made c = (before : List Entry) × IsPrefix before history × (made_by who before ≡ made)
    × (has_room s s.room (past_of before) who c ≡ false)

-- Timers are fired until there is nothing to fire, or no room for it, but at most so many times.
abbrev pub Fires : Layout → Who → List Entry → ℕ → List Entry → List Entry → Type 0
Fires s who history zero made es = es ≡ []
Fires s who history (suc n) made es =
    ((es ≡ []) × HadNoRoom s who history made call.Fire)
    ⊎ (((e : Entry) × (es ≡ e ∷ []) × Is call.Fire reply.Nothing e)
    ⊎ ((e : Entry) × (rest : List Entry) × (es ≡ e ∷ rest) × (e.call ≡ call.Fire) × (e.reply ≢ reply.Nothing)
    × Fires s who history n (made ++ e ∷ []) rest))

-- A ticket's end was done, and after that of a drain timers are fired.
abbrev pub EndsTicket : Layout → Who → List Entry → List Entry → Call → ℕ → List Entry → Type 0
EndsTicket s who history made c k es =
    (e : Entry) × (rest : List Entry) × (es ≡ e ∷ rest) × Is (call.End k) reply.Done e
    × MatchBool (is_drain c) (Fires s who history s.items (made ++ e ∷ []) rest) (rest ≡ [])

-- Behind the first entry of a call stand: after a tick, fires; after a call that gave a ticket, the end of that; after
-- any other, nothing.
abbrev pub Behind : Layout → Who → List Entry → List Entry → Call → Reply → List Entry → Type 0
Behind s who history made c r es =
    MatchBool (is_tick c) (Fires s who history s.items made es)
    (MatchOption (ticket_told r) (es ≡ []) (λ k. EndsTicket s who history made c k es))

-- The entries that a call with this reply leaves in a history, in which its caller had made those before it.
pub record MakesEntries (s : Layout) (who : Who) (history made : List Entry) (c : Call) (r : Reply)
    (es : List Entry) : Type 0 where
  pub first : Entry
  pub rest : List Entry
  pub all : es ≡ first ∷ rest
  pub is : Is c r first
  pub behind : Behind s who history (made ++ first ∷ []) c r rest

-- what it sees ends with an entry of its own
abbrev pub EndsOwn : Who → List Entry → Type 0
EndsOwn who seen = (before : List Entry) × (e : Entry) × (seen ≡ before ++ e ∷ []) × (is_by who e ≡ true)

-- after timers were fired: so too, or after that there was no room for another fire
abbrev pub EndsFiring : Layout → Who → List Entry → Type 0
EndsFiring s who seen = EndsOwn who seen ⊎ HadNoRoom s who seen (made_by who seen) call.Fire

-- how a whole call ends what its caller sees: a tick and a drain fire timers
abbrev pub EndsWhole : Layout → Who → List Entry → Call → Type 0
EndsWhole s who seen c = MatchBool (is_tick c || is_drain c) (EndsFiring s who seen) (EndsOwn who seen)

-- A whole call was answered: it made its entries and no others, under the caller's next serials, and what its caller
-- sees is legal and ends with them. It has as many entries there as its serial says.
pub record Completes (s : Layout) (v : View) (c : Call) (r : Reply) (w : View) : Type 0 where
  pub entries : List Entry
  pub gains : Gains v entries w
  pub makes : MakesEntries s v.who w.seen (made_by v.who v.seen) c r entries
  pub serials : StandFrom v.serial entries
  pub counts : serial_of (past_of w.seen) w.who ≡ w.serial
  pub ends : EndsWhole s v.who w.seen c
  pub legal : IsLegal s (past_of w.seen)

-- A whole call broke off after these entries of it.
abbrev pub IsFire : Entry → Type 0
IsFire e = e.call ≡ call.Fire

abbrev pub PartEnd : Call → ℕ → List Entry → Type 0
PartEnd c k es =
    (es ≡ [])
    ⊎ ((e : Entry) × (rest : List Entry) × (es ≡ e ∷ rest) × Is (call.End k) reply.Done e
    × MatchBool (is_drain c) (All IsFire rest) (rest ≡ []))

abbrev pub PartBehind : Call → Reply → List Entry → Type 0
PartBehind c r es =
    MatchBool (is_tick c) (All IsFire es) (MatchOption (ticket_told r) (es ≡ []) (λ k. PartEnd c k es))

abbrev pub IsPart : Call → List Entry → Type 0
IsPart c [] = Unit {0}
IsPart c (e ∷ es) = (e.call ≡ c) × PartBehind c e.reply es

-- the ticket that such entries leave unended
abbrev pub ticket_left : List Entry → Option ℕ
ticket_left (e ∷ []) = ticket_told e.reply
ticket_left es = None

-- What may stop a call in the middle: want of memory, with the ticket that is unended then, or a hub that turns out to
-- be another's.
abbrev pub Stops : View → Option ℕ → RunFault → Type 0
Stops w ticket f = (f ≡ NoMemory ticket) ⊎ IsStranger w f

-- A whole call that answered a fault was refused, and has made no entry, or it stopped after some of its entries.
abbrev pub BrokeOff : Layout → View → Call → RunFault → View → Type 0
BrokeOff s v c f w =
    Refused s v c f w
    ⊎ ((e : Entry) × (es : List Entry) × Gains v (e ∷ es) w × IsPart c (e ∷ es) × Stops w (ticket_left (e ∷ es)) f)
