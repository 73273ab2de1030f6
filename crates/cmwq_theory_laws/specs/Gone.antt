-- What becomes of a queue that is destroyed.
use Rattle.std.specs.Prelude.{◌≡◌, ◌==◌, ◌∷◌}
use Rattle.cmwq_theory_laws.specs.Common.{ℕ, true, false, List, Some, AllByRecursion, Entry, Booking, booking}
use Rattle.cmwq_theory_laws.specs.Common.{still_open, is_gone, OfLegal}

-- no item is booked on the queue, and nothing of it is open
abbrev pub NoneBooked : List Entry → ℕ → Type 0
NoneBooked past q = (i : ℕ) (b : Booking) → booking past i ≡ Some b → (b.place.queue.0 == q) ≡ false

abbrev pub NoneOpen : List Entry → ℕ → Type 0
NoneOpen past q = AllByRecursion (λ x. (x.place.queue.0 == q) ≡ false) (still_open past)

-- so it is once the end of a destroy was answered done, however the history goes on
abbrev pub GoneAreEmpty : List Entry → Type 0
GoneAreEmpty past = (q : ℕ) → is_gone past q ≡ true → NoneOpen past q × NoneBooked past q

abbrev pub GoneStayEmpty : Type 0
GoneStayEmpty = OfLegal (λ s. GoneAreEmpty)

abbrev pub GoneStayGone : Type 0
GoneStayGone = (past : List Entry) (e : Entry) (q : ℕ) → is_gone past q ≡ true → is_gone (e ∷ past) q ≡ true
