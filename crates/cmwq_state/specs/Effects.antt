-- What an entry does, as it is applied to the parts.
use Rattle.std.specs.Prelude.{◌≡◌, ◌<◌, if◌then◌else◌, ◌∷◌}
use Rattle.cmwq_state.specs.Common.{ℕ, true, List, length, Option, None, Entry, Layout, is_layout, item_of, item_number}
use Rattle.cmwq_state.specs.Common.{settles, booking_of, opening, IsLegal, owed, ending, ticket_ended, ticket_given}
use Rattle.cmwq_state.specs.Common.{starting}
use Rattle.cmwq_state.specs.declared.effect.Effect.{Effect}

abbrev pub settled_by : Entry → Option ℕ
settled_by e = if settles e.reply then item_of e else None

pub record IsEffect (s : Layout) (past : List Entry) (f : Effect) : Type 0 where
  pub legal : IsLegal s (f.entry ∷ past)
  pub ended : f.ended ≡ ending past f.entry
  pub started : f.started ≡ starting past f.entry
  pub opened : f.opened ≡ opening past f.entry
  pub done : f.done ≡ ticket_ended past f.entry
  pub begun : f.begun ≡ ticket_given past f.entry
  pub settled : item_number f.settled ≡ settled_by f.entry
  pub booked : f.booked ≡ booking_of f.entry (length past)
  pub owing : f.owing ≡ owed s (f.entry ∷ past)

-- the effect is that of the next entry after a legal past, in a layout inside the limits
pub record IsNextEffect (s : Layout) (past : List Entry) (f : Effect) : Type 0 where
  pub inside : is_layout s ≡ true
  pub before : IsLegal s past
  pub few : length past < 9223372036854775808
  pub effect : IsEffect s past f
