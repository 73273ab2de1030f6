-- How many stand ahead of a queueing, as its history is gone through.
use Rattle.cmwq_plain.specs.Common.{◌≡◌, ℕ, ◌+◌, ◌<◌, ◌≤◌, Bool, List, ◌∷◌, ◌++◌, length, filter, count_by}
use Rattle.cmwq_plain.specs.Common.{option_to_list, if◌then◌else◌, ap, arith, filter-append, sum_by-append, Entry}
use Rattle.cmwq_plain.specs.Common.{Queueing, queueings, opening, still_open, is_live, is_ahead}
use Rattle.cmwq_plain.specs.Past.{upto, open_upto}
use Rattle.cmwq_plain.proofs.Parts.{upto-grows}
use Rattle.cmwq_plain.proofs.PastSteps.{queueings_step, open_none, open_all}
use Rattle.cmwq_plain.specs.Partial.{ahead_upto}

-- the count ahead
pub ahead_none : (past : List Entry) (x : Queueing) → ahead_upto past x 0 ≡ 0
unfolding ahead_upto
ahead_none past x = ap (count_by (is_ahead x)) (open_none past)

pub ahead_all : (past : List Entry) (x : Queueing) (k : ℕ) → length past ≤ k
    → ahead_upto past x k ≡ count_by (is_ahead x) (still_open past)
unfolding ahead_upto
ahead_all past x k h = ap (count_by (is_ahead x)) (open_all past k h)

count_longer : (p q : Queueing → Bool) (xs ys : List Queueing)
    → count_by p (filter q xs) ≤ count_by p (filter q (xs ++ ys))
count_longer p q xs ys =
    rw (filter-append q xs ys) (omega (arith, sum_by-append (λ x. if p x then 1 else 0) (filter q xs) (filter q ys)))

ahead_longer : (whole past rest : List Entry) (x : Queueing) → (e : Entry) × (rest ≡ e ∷ past)
    → count_by (is_ahead x) (filter (is_live whole) (queueings past)) ≤ count_by (is_ahead x)
    (filter (is_live whole) (queueings rest))
ahead_longer whole past rest x (e, is) =
    rw (is, queueings_step e past)
    (count_longer (is_ahead x) (is_live whole) (queueings past) (option_to_list (opening past e)))

pub ahead_grows : (past : List Entry) (x : Queueing) (k : ℕ) → k < length past
    → ahead_upto past x k ≤ ahead_upto past x (k + 1)
unfolding ahead_upto open_upto
ahead_grows past x k h = ahead_longer past (upto past k) (upto past (k + 1)) x (upto-grows past k h)

pub ruleset ahead_ends = (ahead_none, ahead_all, ahead_grows)
