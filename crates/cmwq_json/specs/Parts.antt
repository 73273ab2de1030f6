-- Which member of an input is refused.
use Rattle.std.specs.Prelude.{ℕ}
use Rattle.cmwq_json.specs.declared.refused.Part.TheVariants as part
use Rattle.cmwq_json.specs.declared.refused.Refused.{Refused}

abbrev pub top : Refused
top = record { part = part.Top; index = 0 }

abbrev pub queues : ℕ → Refused
queues i = record { part = part.Queues; index = i }

abbrev pub items : ℕ → Refused
items i = record { part = part.Items; index = i }

abbrev pub callers : ℕ → Refused
callers i = record { part = part.Callers; index = i }
