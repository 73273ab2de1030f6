-- What one entry more does to each word.
use Rattle.cmwq_plain.specs.Common.{◌≡◌, ℕ, ◌+◌, ◌≤◌, false, ◌&&◌, ◌||◌, not, nat_lt, List, [], ◌∷◌, ◌++◌, length}
use Rattle.cmwq_plain.specs.Common.{filter, None, is_some, option_to_list, if◌then◌else◌, refl, ap, sum_by-cons, Worker}
use Rattle.cmwq_plain.specs.Common.{WorkerId, Entry, is_by, is_of_item, ticks_told, now, serial_of, settles, booking}
use Rattle.cmwq_plain.specs.Common.{booking_of, is_started, is_cancelled, takes_back, replaces, number_started}
use Rattle.cmwq_plain.specs.Common.{last_start, is_asleep, asleep_after, item_start, starts_item, start_in, queueings}
use Rattle.cmwq_plain.specs.Common.{opening, still_open, is_live, is_done, ends_destroy, is_gone, tickets, ticket_in}
use Rattle.cmwq_plain.specs.Common.{unended_tickets, is_unended, frozen_after, is_frozen}
use Rattle.cmwq_model.specs.declared.id.Who.{Who}
use Rattle.cmwq_plain.specs.Past.{open_upto, unended_upto}
use Rattle.cmwq_plain.proofs.Parts.{upto-none, upto-all}

pub serial_step : (e : Entry) (past : List Entry) (who : Who)
    → serial_of (e ∷ past) who ≡ (if is_by who e then 1 else 0) + serial_of past who
serial_step e past who = sum_by-cons (λ x. if is_by who x then 1 else 0) e past

pub now_step : (e : Entry) (past : List Entry) → now (e ∷ past) ≡ now past + ticks_told e.call
unfolding now
now_step e past = refl

pub booking_none : (i : ℕ) → booking [] i ≡ None
unfolding booking
booking_none i = refl

pub booking_step : (e : Entry) (past : List Entry) (i : ℕ)
    → booking (e ∷ past) i ≡ (if settles e.reply && is_of_item i e then booking_of e (length past) else booking past i)
unfolding booking
booking_step e past i = refl

pub ruleset booking_steps = (booking_none, booking_step)

pub cancelled_none : (i n : ℕ) → is_cancelled [] i n ≡ false
unfolding is_cancelled
cancelled_none i n = refl

pub cancelled_step : (e : Entry) (past : List Entry) (i n : ℕ)
    → is_cancelled (e ∷ past) i n
    ≡ (is_cancelled past i n || takes_back n e
    || (replaces e.reply && is_of_item i e && nat_lt n (length past) && not (is_started past n)))
unfolding is_cancelled
cancelled_step e past i n = refl

pub ruleset cancelled_steps = (cancelled_none, cancelled_step)

pub last_start_none : (w : WorkerId) → last_start [] w ≡ None
unfolding last_start
last_start_none w = refl

pub last_start_step : (e : Entry) (past : List Entry) (w : WorkerId)
    → last_start (e ∷ past) w
    ≡ (if is_by (Worker w) e && is_some (number_started e.reply) then number_started e.reply else last_start past w)
unfolding last_start
last_start_step e past w = refl

pub ruleset last_start_steps = (last_start_none, last_start_step)

pub asleep_none : (w : WorkerId) → is_asleep [] w ≡ false
unfolding is_asleep
asleep_none w = refl

pub asleep_step : (e : Entry) (past : List Entry) (w : WorkerId)
    → is_asleep (e ∷ past) w
    ≡ (if is_by (Worker w) e then asleep_after e.reply (is_asleep past w) else is_asleep past w)
unfolding is_asleep
asleep_step e past w = refl

pub ruleset asleep_steps = (asleep_none, asleep_step)

pub item_start_none : (i : ℕ) → item_start [] i ≡ None
unfolding item_start
item_start_none i = refl

pub item_start_step : (e : Entry) (past : List Entry) (i : ℕ)
    → item_start (e ∷ past) i ≡ (if starts_item past e i then start_in e else item_start past i)
unfolding item_start
item_start_step e past i = refl

pub ruleset item_start_steps = (item_start_none, item_start_step)

pub queueings_step : (e : Entry) (past : List Entry) → queueings (e ∷ past) ≡ queueings past
    ++ option_to_list (opening past e)
unfolding queueings
queueings_step e past = refl

pub open_none : (past : List Entry) → open_upto past 0 ≡ []
unfolding open_upto queueings
open_none past = ap (λ p. filter (is_live past) (queueings p)) (upto-none past)

pub open_all : (past : List Entry) (k : ℕ) → length past ≤ k → open_upto past k ≡ still_open past
unfolding open_upto
open_all past k h = ap (λ p. filter (is_live past) (queueings p)) (upto-all past k h)

pub ruleset open_ends = (open_none, open_all)

pub queueings_none : queueings [] ≡ []
unfolding queueings
queueings_none = refl

pub tickets_step : (e : Entry) (past : List Entry)
    → tickets (e ∷ past) ≡ tickets past ++ option_to_list (ticket_in e (length past))
unfolding tickets
tickets_step e past = refl

pub unended_none : (past : List Entry) → unended_upto past 0 ≡ []
unfolding unended_upto tickets
unended_none past = ap (λ p. filter (is_unended past) (tickets p)) (upto-none past)

pub unended_all : (past : List Entry) (k : ℕ) → length past ≤ k → unended_upto past k ≡ unended_tickets past
unfolding unended_upto
unended_all past k h = ap (λ p. filter (is_unended past) (tickets p)) (upto-all past k h)

pub ruleset unended_ends = (unended_none, unended_all)

pub frozen_none : is_frozen [] ≡ false
unfolding is_frozen
frozen_none = refl

pub frozen_step : (e : Entry) (past : List Entry) → is_frozen (e ∷ past) ≡ frozen_after e.reply (is_frozen past)
unfolding is_frozen
frozen_step e past = refl

pub ruleset frozen_steps = (frozen_none, frozen_step)

pub gone_none : (q : ℕ) → is_gone [] q ≡ false
unfolding is_gone
gone_none q = refl

pub gone_step : (e : Entry) (past : List Entry) (q : ℕ)
    → is_gone (e ∷ past) q ≡ (is_gone past q || (is_done e.reply && ends_destroy past q e.who e.call))
unfolding is_gone
gone_step e past q = refl

pub ruleset gone_steps = (gone_none, gone_step)
