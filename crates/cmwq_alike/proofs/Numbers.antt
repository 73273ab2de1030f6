-- Numbers that are renumbered.
use Rattle.std.specs.Prelude.{◌<◌}
use Rattle.cmwq_alike.specs.Common.{◌≡◌, ℕ, ◌==◌, nat_lt, List, ◌∷◌, length, Option, Some}
use Rattle.cmwq_alike.specs.Common.{None, option_map, is_at, arith, refl, sym, ap, ◌∙◌, nat_tests, lt-ltb, inl, subst}
use Rattle.cmwq_alike.specs.Common.{AllByRecursion, All_map, In, all_in, in_mapped, in_map, found, Entry, Queueing}
use Rattle.cmwq_alike.specs.Common.{Layout}
use Rattle.cmwq_alike.specs.Common.{Reply, still_open, number_finished, number_cancelled, number_started}
use Rattle.cmwq_alike.specs.Common.{IsLegal, opens, replaces, of_in}
use Rattle.cmwq_alike.specs.Alike.{queueing_by, reply_by, KeepsOrder, Matters, IsOpenNumber, next_by, number_of}
use Rattle.cmwq_theory_steps.specs.Endings.{ending, is_ended}
use Rattle.cmwq_theory_steps.proofs.Ended.{ends_which}
use Rattle.cmwq_theory_steps.proofs.Rising.{open_below}

pub less_alike : (a b c d : ℕ) → nat_lt c d ≡ nat_lt a b → nat_lt d c ≡ nat_lt b a → (c == d) ≡ (a == b)
less_alike a b c d h k = grind (arith, nat_tests)

pub same_tests : (f : ℕ → ℕ) (past : List Entry) (a b : ℕ) → KeepsOrder f past → Matters past a → Matters past b
    → (f a == f b) ≡ (a == b)
same_tests f past a b order ma mb = less_alike a b (f a) (f b) (order a b ma mb) (order b a mb ma)

-- the old numbers stay
pub old_stays : (f : ℕ → ℕ) (past other : List Entry) (n : ℕ) → n < length past → next_by f past other n ≡ f n
old_stays f past other n less = grind (arith, lt-ltb n (length past) less)

pub new_is : (f : ℕ → ℕ) (past other : List Entry) → next_by f past other (length past) ≡ length other
new_is f past other = grind (arith, nat_tests)

pub open_matters : (past : List Entry) (x : Queueing) → In x (still_open past) → Matters past x.number
open_matters past x h = inl (in_mapped number_of (still_open past) x h)

pub each_matters : (past : List Entry) → AllByRecursion (λ x. Matters past x.number) (still_open past)
each_matters past = all_in (λ x. Matters past x.number) (still_open past) (open_matters past)

pub each_stays : (f : ℕ → ℕ) (past other : List Entry)
    → AllByRecursion (λ x. queueing_by f x ≡ queueing_by (next_by f past other) x) (still_open past)
each_stays f past other =
    All_map (λ (x : Queueing). x.number < length past) _ (still_open past)
    (λ x less. ap (λ n. record x { number = n }) (sym (old_stays f past other x.number less))) (open_below past)

-- what a reply says finished or cancelled was open
ended_matters : (past : List Entry) (e : Entry) (n : ℕ) (o : Option Queueing) → ending past e ≡ o
    → option_map number_of o ≡ Some n → IsOpenNumber past n
ended_matters past e n None is h = absurd (grind arith)
ended_matters past e n (Some x) is h =
    subst (IsOpenNumber past) (grind arith)
    (in_mapped number_of (still_open past) x (found (is_ended past e) (still_open past) x is).0)

pub finished_matters : (s : Layout) (past : List Entry) (e : Entry) (n : ℕ) → IsLegal s (e ∷ past)
    → number_finished e.reply ≡ Some n → IsOpenNumber past n
finished_matters s past e n legal h =
    ended_matters past e n (ending past e) refl
    (ends_which s past e legal ∙ rw h refl)

pub cancelled_matters : (s : Layout) (past : List Entry) (e : Entry) (n : ℕ) → IsLegal s (e ∷ past)
    → number_cancelled e.reply ≡ Some n → IsOpenNumber past n
cancelled_matters s past e n legal h =
    let none : number_finished e.reply ≡ None = not_both e.reply n h in
    ended_matters past e n (ending past e) refl (ends_which s past e legal ∙ rw (none, h) refl)
  where
    not_both : (r : Reply) (n : ℕ) → number_cancelled r ≡ Some n → number_finished r ≡ None
    not_both r n h = grind arith

-- the parts of a renumbered reply
pub finished_by : (g : ℕ → ℕ) (r : Reply) → number_finished (reply_by g r) ≡ option_map g (number_finished r)
finished_by g r = grind arith

pub cancelled_by : (g : ℕ → ℕ) (r : Reply) → number_cancelled (reply_by g r) ≡ option_map g (number_cancelled r)
cancelled_by g r = grind arith

pub started_by : (g : ℕ → ℕ) (r : Reply) → number_started (reply_by g r) ≡ option_map g (number_started r)
started_by g r = grind arith

pub replaces_by : (g : ℕ → ℕ) (r : Reply) → replaces (reply_by g r) ≡ replaces r
replaces_by g r = grind arith

pub opens_by : (g : ℕ → ℕ) (r : Reply) → opens (reply_by g r) ≡ opens r
opens_by g r = grind arith

-- what is one of the old numbers in the one is in the other
pub at_alike : (f g : ℕ → ℕ) (past : List Entry) (o : Option ℕ) (n : ℕ) → KeepsOrder f past
    → ((m : ℕ) → o ≡ Some m → (g m ≡ f m) × Matters past m) → Matters past n
    → is_at (option_map g o) (f n) ≡ is_at o n
at_alike f g past None n order each mn = refl
at_alike f g past (Some m) n order each mn =
    let h = each m refl in
    ap (λ k. k == f n) h.0 ∙ same_tests f past m n order h.1 mn

pub matters_below : (past : List Entry) (n : ℕ) → IsOpenNumber past n → n < length past
matters_below past n h =
    let q = in_map number_of (still_open past) n h in
    let less = of_in (λ (x : Queueing). x.number < length past) (still_open past) q.0 (open_below past) q.1 in
    subst (λ k. k < length past) q.2 less

-- so both are the same number
pub ended_stays : (f : ℕ → ℕ) (past other : List Entry) (n : ℕ) → IsOpenNumber past n
    → (next_by f past other n ≡ f n) × Matters past n
ended_stays f past other n h = (old_stays f past other n (matters_below past n h), inl h)
