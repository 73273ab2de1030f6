-- What the threads gave back, put together.
use Rattle.cmwq_engine.specs.Common.{◌≡◌, ◌⊎◌, ℕ, zero, suc, ◌+◌, ◌<◌, ◌≤◌, Bool, true, false, List, [], ◌∷◌, ◌++◌}
use Rattle.cmwq_engine.specs.Common.{length, refl, sym, ap, ◌∙◌, subst, inl, inr, ⊎_elim, arith, ◌-◌, Some, None}
use Rattle.cmwq_engine.specs.Common.{nat_lt, slice_get, IsPrefix, WorkerId, Entry, Layout, serial_of, past_of, View}
use Rattle.cmwq_engine.specs.Common.{made_by, newcomer, worker_by_number, Behavior, Conduct, LeftOut, Worker, plus}
use Rattle.cmwq_engine.specs.Common.{caller_numbered}
use Rattle.std.proofs.lemmas.Bool.{ltb-true, ltb-false}
use Rattle.cmwq_monitor.specs.Settled.{Settles}
use Rattle.cmwq_monitor.proofs.Entries.{made_length, made_same}
use Rattle.cmwq_engine.specs.Ended.{AllCalled, AllWorkedFrom, CalledAt, CalledIn, WorkedFrom, WorkedIn}
use Rattle.cmwq_monitor.proofs.Beginnings.{prefix_trans}

pushed : {X : Type 0} (xs : List X) (e x : X) (k : ℕ) → slice_get (xs ++ e ∷ []) k ≡ Some x
    → (slice_get xs k ≡ Some x) ⊎ ((k ≡ length xs) × (e ≡ x))
pushed [] e x zero h = inr (refl, cc h)
pushed [] e x (suc k) h = absurd (cc h)
pushed (y ∷ ys) e x zero h = inl h
pushed (y ∷ ys) e x (suc k) h =
    ⊎_elim (λ (t : slice_get ys k ≡ Some x). inl t) (λ (t : (k ≡ length ys) × (e ≡ x)). inr (ap suc t.0, t.1))
    (pushed ys e x k h)

pub last_at : {X : Type 0} (xs : List X) (e : X) → slice_get (xs ++ e ∷ []) (length xs) ≡ Some e
last_at [] e = refl
last_at (x ∷ xs) e = last_at xs e

pub kept_at : {X : Type 0} (xs : List X) (e x : X) (k : ℕ) → slice_get xs k ≡ Some x
    → slice_get (xs ++ e ∷ []) k ≡ Some x
kept_at [] e x k h = absurd (cc h)
kept_at (y ∷ ys) e x zero h = h
kept_at (y ∷ ys) e x (suc k) h = kept_at ys e x k h

-- one more at the end
pub all_push : {H : Type 0} (P : ℕ → H → Type 0) (hs : List H) (h : H)
    → ((k : ℕ) (x : H) → slice_get hs k ≡ Some x → P k x) → P (length hs) h → (k : ℕ) (x : H)
    → slice_get (hs ++ h ∷ []) k ≡ Some x → P k x
all_push P hs h old new k x at =
    ⊎_elim (λ (t : slice_get hs k ≡ Some x). old k x t)
    (λ (t : (k ≡ length hs) × (h ≡ x)). subst (λ (y : _). P k y) t.1 (subst (λ (n : ℕ). P n h) (sym t.0) new))
    (pushed hs h x k at)

-- one more before the others
pub one_before : (P : ℕ → Type 0) (n m : ℕ) → P n → ((k : ℕ) → n + 1 ≤ k → k < m → P k) → (k : ℕ) → n ≤ k → k < m → P k
one_before P n m one rest k le lt = test (nat_lt n k) refl
  where
    test : (b : Bool) → nat_lt n k ≡ b → P k
    test true is = rest k (let less = ltb-true n k is in omega (arith, less)) lt
    test false is =
        let same : n ≡ k = (let more = ltb-false n k is in omega (arith, le, more)) in
        subst P same one

none_made : (xs : List Entry) → length xs ≡ 0 → xs ≡ []
none_made [] is = refl
none_made (x ∷ xs) is = absurd (cc is)

-- a caller that did nothing has no entry in the whole history
pub silent_in : (k : ℕ) (h : List Entry) (v w : View) → v ≡ newcomer (caller_numbered k) → Settles h v w
    → made_by (caller_numbered k) h ≡ []
silent_in k h v w new settled =
    let none : serial_of (past_of h) (caller_numbered k) ≡ 0 =
    subst (λ (u : View). serial_of (past_of h) u.who ≡ u.serial) new settled.2 in
    none_made (made_by (caller_numbered k) h) (made_length (caller_numbered k) h ∙ none)

-- the whole history has no more entries of the caller than it has seen
pub called_in : (s : Layout) (calls : Conduct) (k full : ℕ) (v w : View) (h : List Entry) → CalledAt s calls k full v
    → Settles h v w → CalledIn s calls k full h
called_in s calls k full v w h called settled = record {
  last = v;
  did = called.1;
  who = called.0;
  older = settled.1;
  own = subst (λ x. serial_of (past_of h) x ≡ v.serial) called.0 settled.2;
}

-- the whole history has no more entries of the worker than it has made
pub worked_in : (s : Layout) (does : Behavior) (x : WorkerId) (l : LeftOut) (v w : View) (h : List Entry)
    → WorkedFrom s does l (newcomer (Worker x)) v → Settles h v w → WorkedIn s does x l h
worked_in s does x l v w h (who, (n, last, runs, settled)) settles = record {
  runs = n;
  last = last;
  in_turn = runs;
  older = prefix_trans last.seen v.seen h settled.1 settles.1;
  own = subst (λ a. serial_of (past_of h) a ≡ v.serial) who settles.2 ∙ ap (λ (u : View). u.serial) settled.0;
}

-- one worker more, from the last to the first
pub one_worked : (s : Layout) (does : Behavior) (k n many : ℕ) (x : WorkerId) (one others all : LeftOut)
    (h : List Entry) → n ≡ suc k → all ≡ plus one others → worker_by_number s k ≡ Some x → WorkedIn s does x one h
    → AllWorkedFrom s does n many others h → AllWorkedFrom s does k (many + 1) all h
one_worked s does k n many x one others all h next sum at worked rest =
    let more : suc many ≡ many + 1 = omega arith in
    subst (λ (m : ℕ). AllWorkedFrom s does k m all h) more
    (x, one, others, at, worked, subst (λ (m : ℕ). AllWorkedFrom s does m many others h) next rest, sum)

-- one caller more, from the last to the first
pub one_called : (s : Layout) (calls : Conduct) (k n many one full all : ℕ) (h : List Entry) → n ≡ suc k
    → all ≡ one + full → CalledIn s calls k one h → AllCalled s calls n many full h
    → AllCalled s calls k (many + 1) all h
one_called s calls k n many one full all h next sum called rest =
    let more : suc many ≡ many + 1 = omega arith in
    subst (λ (m : ℕ). AllCalled s calls k m all h) more
    (one, full, called, subst (λ (m : ℕ). AllCalled s calls m many full h) next rest, sum)

pub all_called : (s : Layout) (calls : Conduct) (n m many full : ℕ) (h : List Entry) → n ≡ 0 → m ≡ many
    → AllCalled s calls n m full h → AllCalled s calls 0 many full h
all_called s calls n m many full h none all so =
    subst (λ (k : ℕ). AllCalled s calls 0 k full h) all (subst (λ (k : ℕ). AllCalled s calls k m full h) none so)
