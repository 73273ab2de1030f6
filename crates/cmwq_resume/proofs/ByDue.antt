-- Bookings by due: those that are there, and in another order.
use Rattle.cmwq_resume.specs.Common.{◌≡◌, ◌+◌, ℕ, Bool, true, false, List, [], ◌∷◌, map, count_by, cond, refl, sym}
use Rattle.cmwq_resume.specs.Common.{ap, ◌∙◌, arith, AllByRecursion, if◌then◌else◌, nat_lt, nat_tests, count_by-cons}
use Rattle.cmwq_resume.specs.Common.{Booking}
use Rattle.cmwq_resume.specs.Resume.{put_by_due, by_due}
use Rattle.cmwq_resume.specs.Plays.{unnumbered}

pub put_all : (P : Booking → Type 0) (b : Booking) (bs : List Booking) → P b → AllByRecursion P bs
    → AllByRecursion P (put_by_due b bs)
put_all P b [] one all = (one, tt)
put_all P b (a ∷ bs) one all = at (nat_lt a.due b.due) (put_all P b bs one all.1)
  where
    at : (x : Bool) → AllByRecursion P (put_by_due b bs)
        → AllByRecursion P (if x then a ∷ put_by_due b bs else b ∷ a ∷ bs)
    at true rest = (all.0, rest)
    at false rest = (one, all)

pub all_by_due : (P : Booking → Type 0) (bs : List Booking) → AllByRecursion P bs → AllByRecursion P (by_due bs)
all_by_due P [] all = tt
all_by_due P (b ∷ bs) all = put_all P b (by_due bs) all.0 (all_by_due P bs all.1)

put_count : (p : Booking → Bool) (b : Booking) (bs : List Booking)
    → count_by p (put_by_due b bs) ≡ cond (p b) 1 0 + count_by p bs
put_count p b [] = count_by-cons p b []
put_count p b (a ∷ bs) = at (nat_lt a.due b.due) (put_count p b bs)
  where
    at : (x : Bool) → count_by p (put_by_due b bs) ≡ cond (p b) 1 0 + count_by p bs
        → count_by p (if x then a ∷ put_by_due b bs else b ∷ a ∷ bs) ≡ cond (p b) 1 0 + count_by p (a ∷ bs)
    at true rest = omega (arith, rest, count_by-cons p a (put_by_due b bs), count_by-cons p a bs)
    at false rest = count_by-cons p b (a ∷ bs)

pub count_by_due : (p : Booking → Bool) (bs : List Booking) → count_by p (by_due bs) ≡ count_by p bs
count_by_due p [] = refl
count_by_due p (b ∷ bs) =
    put_count p b (by_due bs) ∙ ap (λ n. cond (p b) 1 0 + n) (count_by_due p bs) ∙ sym (count_by-cons p b bs)

put_unnumbered : (b : Booking) (bs : List Booking)
    → put_by_due (unnumbered b) (map unnumbered bs) ≡ map unnumbered (put_by_due b bs)
put_unnumbered b [] = refl
put_unnumbered b (a ∷ bs) = at (nat_lt a.due b.due) (put_unnumbered b bs)
  where
    at : (x : Bool) → put_by_due (unnumbered b) (map unnumbered bs) ≡ map unnumbered (put_by_due b bs)
        → (if x then unnumbered a ∷ put_by_due (unnumbered b) (map unnumbered bs)
        else unnumbered b ∷ unnumbered a ∷ map unnumbered bs)
        ≡ map unnumbered (if x then a ∷ put_by_due b bs else b ∷ a ∷ bs)
    at true rest = ap (λ ys. unnumbered a ∷ ys) rest
    at false rest = refl

pub unnumbered_by_due : (bs : List Booking) → by_due (map unnumbered bs) ≡ map unnumbered (by_due bs)
unnumbered_by_due [] = refl
unnumbered_by_due (b ∷ bs) =
    ap (put_by_due (unnumbered b)) (unnumbered_by_due bs) ∙ put_unnumbered b (by_due bs)

-- where all are due at once, each stays where it is
put_first : (t : ℕ) (b : Booking) (bs : List Booking) → b.due ≡ t → AllByRecursion (λ (a : Booking). a.due ≡ t) bs
    → put_by_due b bs ≡ b ∷ bs
put_first t b [] one all = refl
put_first t b (a ∷ bs) one all =
    ap (λ x. if x then a ∷ put_by_due b bs else b ∷ a ∷ bs) (not_less a.due b.due (all.0 ∙ sym one))
  where
    not_less : (m n : ℕ) → m ≡ n → nat_lt m n ≡ false
    not_less m n same = grind (arith, nat_tests)

pub by_due_same : (t : ℕ) (bs : List Booking) → AllByRecursion (λ (a : Booking). a.due ≡ t) bs → by_due bs ≡ bs
by_due_same t [] all = refl
by_due_same t (b ∷ bs) all = ap (put_by_due b) (by_due_same t bs all.1) ∙ put_first t b bs all.0 all.1
