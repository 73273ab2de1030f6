-- What one entry more does to each word.
use Rattle.cmwq_plain.specs.Common.{◌≡◌, ℕ, ◌+◌, ◌<◌, ◌≤◌, ◌&&◌, ◌||◌, not, ◌==◌, nat_le, List, [], ◌∷◌, ◌++◌, length}
use Rattle.cmwq_plain.specs.Common.{filter, Some, None, option_to_list, if◌then◌else◌, refl, ap, arith, option_or}
use Rattle.cmwq_plain.specs.Common.{Worker, WorkerId, Entry, Call, is_by, bookings, booking_of, stands}
use Rattle.cmwq_plain.specs.Common.{standing_bookings, is_enlisted, enlists, is_retired, serving_from, is_served_after}
use Rattle.cmwq_plain.specs.Common.{least_waited, waits_for, may_fire}
use Rattle.cmwq_model.specs.declared.id.ItemId.{ItemId}
use Rattle.cmwq_model.specs.declared.call.Call.TheVariants.{CancelSync}
use Rattle.cmwq_plain.specs.Past.{upto}
use Rattle.cmwq_plain.proofs.Parts.{upto-none, upto-all, length-upto, upto-grows}
use Rattle.cmwq_plain.specs.Partial.{fireable, fireable_upto, standing_upto}

pub enlisted_none : (w : WorkerId) → is_enlisted [] w ≡ (w.index == 0)
unfolding is_enlisted
enlisted_none w = refl

pub enlisted_step : (e : Entry) (past : List Entry) (w : WorkerId)
    → is_enlisted (e ∷ past) w ≡ (enlists e w || (not (is_by (Worker w) e && is_retired e.reply) && is_enlisted past w))
unfolding is_enlisted
enlisted_step e past w = refl

pub ruleset enlisted_steps = (enlisted_none, enlisted_step)

pub bookings_step : (e : Entry) (past : List Entry) → bookings (e ∷ past) ≡ bookings past
    ++ option_to_list (booking_of e (length past))
unfolding bookings
bookings_step e past = refl

pub fireable_none : (past : List Entry) → fireable_upto past 0 ≡ []
unfolding fireable_upto bookings
fireable_none past = ap (λ p. filter (may_fire past) (filter (stands past) (bookings p))) (upto-none past)

pub fireable_all : (past : List Entry) (k : ℕ) → length past ≤ k → fireable_upto past k ≡ fireable past
unfolding fireable_upto
fireable_all past k h = ap (λ p. filter (may_fire past) (filter (stands past) (bookings p))) (upto-all past k h)

pub ruleset fireable_ends = (fireable_none, fireable_all)

pub standing_none : (past : List Entry) → standing_upto past 0 ≡ []
unfolding standing_upto bookings
standing_none past = ap (λ p. filter (stands past) (bookings p)) (upto-none past)

pub standing_all : (past : List Entry) (k : ℕ) → length past ≤ k → standing_upto past k ≡ standing_bookings past
unfolding standing_upto
standing_all past k h = ap (λ p. filter (stands past) (bookings p)) (upto-all past k h)

pub ruleset standing_ends = (standing_none, standing_all)

pub served_none : (q n : ℕ) → serving_from [] q n ≡ None
unfolding serving_from
served_none q n = refl

pub served_step : (e : Entry) (past : List Entry) (q n : ℕ)
    → serving_from (e ∷ past) q n
    ≡ option_or (serving_from past q n) (if nat_le n (length past) && is_served_after (e ∷ past) q n
    then Some (length past) else None)
unfolding serving_from
served_step e past q n = refl

served_step_of : (past whole : List Entry) (k q n : ℕ) → length past ≡ k → (e : Entry) × (whole ≡ e ∷ past)
    → serving_from whole q n
    ≡ option_or (serving_from past q n) (if nat_le n k && is_served_after whole q n then Some k else None)
served_step_of past whole k q n h (e, is) = rw (is, ← h) (served_step e past q n)

-- the same where the entry isn't named
pub served_more : (past : List Entry) (k q n : ℕ) → k < length past → serving_from (upto past (k + 1)) q n
    ≡ option_or (serving_from (upto past k) q n) (if nat_le n k && is_served_after (upto past (k + 1)) q n then Some k
    else None)
served_more past k q n h =
    served_step_of (upto past k) (upto past (k + 1)) k q n (length-upto past k (omega arith)) (upto-grows past k h)

pub ruleset served_steps = (served_none, served_more)

pub waits_other : (past : List Entry) (n : ℕ) (c : Call) → ((i : ItemId) → c ≡ CancelSync i → ⊥)
    → least_waited past n c ≡ waits_for past n c
waits_other past n (CancelSync i) h = absurd (h i refl)
waits_other past n c h = refl
