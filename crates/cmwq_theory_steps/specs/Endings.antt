-- What one more entry ends and opens, and so what is open after it.
use Rattle.std.specs.Prelude.{◌≡◌, ◌<◌, ◌&&◌, if◌then◌else◌, ◌∷◌, ◌++◌}
use Rattle.cmwq_theory_steps.specs.Common.{ℕ, Bool, not, List, length, filter, find, Option, None, option_map}
use Rattle.cmwq_theory_steps.specs.Common.{option_and_then, option_to_list, option_or, Entry, Queueing, Layout, item_of}
use Rattle.cmwq_theory_steps.specs.Common.{is_of_item, number_finished, number_cancelled, finishes, takes_back}
use Rattle.cmwq_theory_steps.specs.Common.{replaces, is_started, is_live, still_open, opening, unstarted_queueing}
use Rattle.cmwq_theory_steps.specs.Common.{IsLegal}

-- the entry puts something new in the place of this queueing, which hasn't started
abbrev pub is_replaced : List Entry → Entry → Queueing → Bool
is_replaced past e x = replaces e.reply && is_of_item x.item.0 e && not (is_started past x.number)

-- the entry neither finishes this queueing, nor takes it back, nor replaces it
abbrev pub survives : List Entry → Entry → Queueing → Bool
survives past e x = not (finishes x.number e) && not (takes_back x.number e) && not (is_replaced past e x)

abbrev pub is_ended : List Entry → Entry → Queueing → Bool
is_ended past e x = not (survives past e x)

-- a queueing is open after the entry where it was open before and survives
abbrev pub SurvivorsStayOpen : Type 0
SurvivorsStayOpen = (past : List Entry) (e : Entry) (x : Queueing) → x.number < length past
    → is_live (e ∷ past) x ≡ (is_live past x && survives past e x)

-- what is open after the entry: what was open and survives, then what the entry opens
abbrev pub OpenGoOn : Type 0
OpenGoOn = (s : Layout) (past : List Entry) (e : Entry) → IsLegal s (e ∷ past)
    → still_open (e ∷ past) ≡ filter (survives past e) (still_open past) ++ option_to_list (opening past e)

-- the queueing that the entry ends: one at most
abbrev pub ending : List Entry → Entry → Option Queueing
ending past e = find (is_ended past e) (still_open past)

abbrev pub OneEnds : Type 0
OneEnds = (s : Layout) (past : List Entry) (e : Entry) → IsLegal s (e ∷ past)
    → filter (is_ended past e) (still_open past) ≡ option_to_list (ending past e)

-- it is the one that the reply says finished or cancelled, or the unstarted one of the item that is queued or booked
-- anew
abbrev pub number_replaced : List Entry → Entry → Option ℕ
number_replaced past e =
    if replaces e.reply then option_and_then (λ i. option_map (λ (x : Queueing). x.number) (unstarted_queueing past i))
    (item_of e) else None

abbrev pub number_ended : List Entry → Entry → Option ℕ
number_ended past e =
    option_or (number_finished e.reply) (option_or (number_cancelled e.reply) (number_replaced past e))

abbrev pub EndsWhich : Type 0
EndsWhich = (s : Layout) (past : List Entry) (e : Entry) → IsLegal s (e ∷ past)
    → option_map (λ (x : Queueing). x.number) (ending past e) ≡ number_ended past e
