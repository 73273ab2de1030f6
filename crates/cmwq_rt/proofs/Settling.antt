-- One after another sees the whole history.
use Rattle.cmwq_rt.specs.Common.{◌≡◌, ◌≢◌, ℕ, zero, suc, ◌+◌, ◌<◌, ◌≤◌, List, [], ◌∷◌, length, set, refl, sym, ap, ◌∙◌}
use Rattle.cmwq_rt.specs.Common.{subst, arith, slice_get, slice_set, Some, slice_get_within, Entry, View, Settles}
use Rattle.cmwq_rt.specs.Common.{AllSettle}
use native.Mathlib.Decide.{ℕ_discrete}
use mathlib.Core.Logic.{dite}

get_set_same : {A : Type 0} (l : List A) (i : ℕ) (a b : A) → slice_get (set l i a) i ≡ Some b → a ≡ b
get_set_same [] i a b e = absurd (cc e)
get_set_same (x ∷ xs) zero a b e = cc e
get_set_same (x ∷ xs) (suc i) a b e = get_set_same xs i a b e

get_set_other : {A : Type 0} (l : List A) (i k : ℕ) (a : A) → k ≢ i → slice_get (set l i a) k ≡ slice_get l k
get_set_other [] i k a n = refl
get_set_other (x ∷ xs) zero zero a n = absurd (n refl)
get_set_other (x ∷ xs) zero (suc k) a n = refl
get_set_other (x ∷ xs) (suc i) zero a n = refl
get_set_other (x ∷ xs) (suc i) (suc k) a n = get_set_other xs i k a (λ e. n (ap suc e))

-- those before this place see it all, and those from there on are as they were
abbrev pub Done : List Entry → List View → List View → ℕ → Type 0
Done log old cur i = (k : ℕ) (v w : View) → k < i → slice_get old k ≡ Some v → slice_get cur k ≡ Some w
    → Settles log v w

abbrev pub Left : List View → List View → ℕ → Type 0
Left old cur i = (k : ℕ) → i ≤ k → slice_get cur k ≡ slice_get old k

pub done_more : (log : List Entry) (old cur : List View) (i : ℕ) (x y : View) → slice_get cur i ≡ Some x
    → Settles log x y → Done log old cur i → Left old cur i → Done log old (slice_set cur i y) (i + 1)
done_more log old cur i x y at is done left k v w lt was now =
    dite (ℕ_discrete k i)
    (λ (e : k ≡ i).
    let w_is : y ≡ w = get_set_same cur i y w (subst (λ (j : ℕ). slice_get (set cur i y) j ≡ Some w) e now) in
    let v_is : x ≡ v =
    (let t : Some x ≡ Some v = sym at ∙ left i (omega arith) ∙ subst (λ (j : ℕ). slice_get old j ≡ Some v) e was in
    cc t) in
    subst (λ (p : View × View). Settles log p.0 p.1) (λ t. (v_is t, w_is t)) is)
    (λ (n : k ≢ i). done k v w (omega arith) was (sym (get_set_other cur i k y n) ∙ now))

pub left_more : (old cur : List View) (i : ℕ) (y : View) → Left old cur i → Left old (slice_set cur i y) (i + 1)
left_more old cur i y left k le = get_set_other cur i k y (λ e. omega arith) ∙ left k (omega arith)

pub done_all : (log : List Entry) (old cur : List View) (i : ℕ) → length old ≤ i → Done log old cur i
    → AllSettle log old cur
done_all log old cur i le done k v w was now = let lt = slice_get_within old k v was in done k v w (omega arith) was now
