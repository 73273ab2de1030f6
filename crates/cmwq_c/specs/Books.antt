-- Which calls of C are refused, and which callers and workers there are.
use Rattle.cmwq_c.specs.Common.{option_map, nat_lt, Who, Caller, Worker, Call, Layout, fits, Lasting, unmade_by}
use Rattle.std.specs.Prelude.{Bool, ◌&&◌, if◌then◌else◌, Option, Some}
use Rattle.cmwq_core.specs.declared.tail_book.Unmade.{Unmade}
use Rattle.cmwq_core.specs.declared.tail_book.Unmade.TheVariants as unmade
use Rattle.cmwq_c.specs.declared.session.Refusal.{Refusal}
use Rattle.cmwq_c.specs.declared.session.Refusal.TheVariants.{Unfit, Crowded, Full}

abbrev pub refused_by : Unmade → Refusal
refused_by unmade.Crowded = Crowded
refused_by unmade.Full = Full

-- why a call isn't made: it doesn't fit the shape, no entry more can be kept, or there is no room
abbrev pub refusal_of : Lasting → Who → Call → Option Refusal
refusal_of l who call = if fits l.history.layout who call then option_map refused_by (unmade_by l who call)
    else Some Unfit

-- the shape has this caller or worker
abbrev pub is_inside : Layout → Who → Bool
is_inside s (Caller c) = nat_lt c.0 s.callers
is_inside s (Worker w) = nat_lt w.pool.cpu.0 s.cpus && nat_lt w.index s.workers
