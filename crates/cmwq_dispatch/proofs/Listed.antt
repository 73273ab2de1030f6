-- The lists of those that sleep for tickets, and the tickets of those that were not named since.
use Rattle.std.specs.Prelude.{◌⊎◌}
use Rattle.std.proofs.Common.{⊎_elim, inl, inr}
use Rattle.cmwq_theory_steps.specs.Common.{◌≡◌, ◌≤◌, ℕ, zero, suc, Bool, true, false, List, [], ◌∷◌, ◌++◌}
use Rattle.cmwq_theory_steps.specs.Common.{filter, Option, Some, None, refl, sym, ap, ◌∙◌, subst, arith}
use Rattle.cmwq_theory_steps.specs.Common.{slice_get, if◌then◌else◌, AllByRecursion, Ticket}
use Rattle.cmwq_model.specs.declared.id.QueueId.{QueueId}
use Rattle.cmwq_model.specs.declared.call.Call.TheVariants as call
use Rattle.std.proofs.Common.{append_assoc}
use Rattle.std.proofs.lemmas.Bool.{both_ways}
use Rattle.std.proofs.lemmas.Option.{slice_get_within, slice_get-get_or, same_Some}
use Rattle.cmwq_lemmas.proofs.Members.{In, all_in, of_in}
use Rattle.cmwq_dispatch.specs.Asleep.{IsAmong}
use Rattle.cmwq_dispatch.specs.Naming.{names_caller}
use Rattle.cmwq_dispatch.specs.Waiting.{AreFlushes, AreInOrder, EachUnnamed, IsAdded, IsNamedOrSame, OnlyNamed}
use Rattle.cmwq_dispatch.specs.Waiting.{is_of_other}
use Rattle.cmwq_dispatch.specs.Waiting.{is_of_other_caller, unnamed}
use Rattle.cmwq_dispatch.specs.Waiting as waiting
use Rattle.cmwq_dispatch.specs.declared.wakes.Wakes.{Wakes}
use Rattle.cmwq_dispatch.specs.declared.waiters.Waiter.{Waiter}
use Rattle.cmwq_dispatch.proofs.Flushed.{was_there}

-- ---- the tickets of a list

pub unnamed_cons : (x : Waiter) (xs : List Waiter) (b : Bool) → x.is_named ≡ b
    → unnamed (x ∷ xs) ≡ (if b then unnamed xs else x.ticket ∷ unnamed xs)
unnamed_cons x xs b is = ap (λ c. if c then unnamed xs else x.ticket ∷ unnamed xs) is

pub unnamed-append : (xs ys : List Waiter) → unnamed (xs ++ ys) ≡ unnamed xs ++ unnamed ys
unnamed-append [] ys = refl
unnamed-append (x ∷ xs) ys = at x.is_named refl (unnamed-append xs ys)
  where
    at : (b : Bool) → x.is_named ≡ b → unnamed (xs ++ ys) ≡ unnamed xs ++ unnamed ys
        → unnamed ((x ∷ xs) ++ ys) ≡ unnamed (x ∷ xs) ++ unnamed ys
    at true is more = unnamed_cons x (xs ++ ys) true is ∙ (more
        ∙ sym (ap (λ ts. ts ++ unnamed ys) (unnamed_cons x xs true is)))
    at false is more = unnamed_cons x (xs ++ ys) false is ∙ (ap (λ ts. x.ticket ∷ ts) more
        ∙ sym (ap (λ ts. ts ++ unnamed ys) (unnamed_cons x xs false is)))

-- such a ticket is that of one in the list
pub record IsUnnamed (xs : List Waiter) (t : Ticket) : Type 0 where
  pub place : ℕ
  pub waiter : Waiter
  pub at : slice_get xs place ≡ Some waiter
  pub quiet : waiter.is_named ≡ false
  pub its : waiter.ticket ≡ t

further : (x : Waiter) (xs : List Waiter) (t : Ticket) → IsUnnamed xs t → IsUnnamed (x ∷ xs) t
further x xs t u = record { place = suc u.place; waiter = u.waiter; at = u.at; quiet = u.quiet; its = u.its }

pub in_unnamed : (xs : List Waiter) (t : Ticket) → In t (unnamed xs) → IsUnnamed xs t
in_unnamed [] t h = absurd h
in_unnamed (x ∷ xs) t h = at x.is_named refl (λ i. in_unnamed xs t i)
  where
    at : (b : Bool) → x.is_named ≡ b → (In t (unnamed xs) → IsUnnamed xs t) → IsUnnamed (x ∷ xs) t
    at true is rest = further x xs t (rest (subst (In t) (unnamed_cons x xs true is) h))
    at false is rest = ⊎_elim (λ same. record { place = 0; waiter = x; at = refl; quiet = is; its = same })
        (λ i. further x xs t (rest i)) (subst (In t) (unnamed_cons x xs false is) h)

pub unnamed_in : (xs : List Waiter) (k : ℕ) (w : Waiter) → slice_get xs k ≡ Some w → w.is_named ≡ false
    → In w.ticket (unnamed xs)
unnamed_in [] k w at quiet = cc
unnamed_in (x ∷ xs) zero w at quiet =
    let same : x ≡ w = same_Some x w at in
    subst (In w.ticket) (sym (unnamed_cons x xs false (ap (λ (u : Waiter). u.is_named) same ∙ quiet)))
    (inl (ap (λ (u : Waiter). u.ticket) same))
unnamed_in (x ∷ xs) (suc k) w at quiet = by x.is_named refl (unnamed_in xs k w at quiet)
  where
    by : (b : Bool) → x.is_named ≡ b → In w.ticket (unnamed xs) → In w.ticket (unnamed (x ∷ xs))
    by true is rest = subst (In w.ticket) (sym (unnamed_cons x xs true is)) rest
    by false is rest = subst (In w.ticket) (sym (unnamed_cons x xs false is)) (inr rest)

pub each_listed : (P : Ticket → Type 0) (xs : List Waiter) → EachUnnamed P xs → AllByRecursion P (unnamed xs)
each_listed P xs h =
    all_in P (unnamed xs) (λ t i. let u = in_unnamed xs t i in subst P u.its (h u.place u.waiter u.at u.quiet))

pub listed_each : (P : Ticket → Type 0) (xs : List Waiter) → AllByRecursion P (unnamed xs) → EachUnnamed P xs
listed_each P xs h k w at quiet = of_in P (unnamed xs) w.ticket h (unnamed_in xs k w at quiet)

-- ---- some are named

pub stays_or_named : (wakes : Wakes) (old new : List Waiter) (t : Ticket) → OnlyNamed wakes old new
    → In t (unnamed old) → In t (unnamed new) ⊎ (names_caller wakes t.caller.0 ≡ true)
stays_or_named wakes old new t only i = at (slice_get new u.place) refl
  where
    u : IsUnnamed old t
    u = in_unnamed old t i

    at : (o : Option Waiter) → slice_get new u.place ≡ o
        → In t (unnamed new) ⊎ (names_caller wakes t.caller.0 ≡ true)
    at None is =
        let less = slice_get_within old u.place u.waiter u.at in
        let there = slice_get-get_or new u.place u.waiter (let same = only.count in omega arith) in
        cc
    at (Some w) is = elim (only.each u.place u.waiter w u.at is) [
      | waiting.same e ↦ inl (subst (λ s. In s (unnamed new)) (ap (λ (v : Waiter). v.ticket) e ∙ u.its)
          (unnamed_in new u.place w is (ap (λ (v : Waiter). v.is_named) e ∙ u.quiet)))
      | waiting.named e h ↦ inr (subst (λ (s : Ticket). names_caller wakes s.caller.0 ≡ true) u.its h)
    ]

pub was_unnamed : (wakes : Wakes) (old new : List Waiter) (t : Ticket) → OnlyNamed wakes old new
    → In t (unnamed new) → In t (unnamed old)
was_unnamed wakes old new t only i =
    let u = in_unnamed new t i in
    let v = was_there wakes old new u.place u.waiter only u.at in
    at u v.0 v.1 v.2
  where
    at : (u : IsUnnamed new t) (v : Waiter) → slice_get old u.place ≡ Some v → IsNamedOrSame wakes v u.waiter
        → In t (unnamed old)
    at u v is (waiting.same e) =
        subst (λ s. In s (unnamed old)) (ap (λ (x : Waiter). x.ticket) (sym e) ∙ u.its)
        (unnamed_in old u.place v is (ap (λ (x : Waiter). x.is_named) (sym e) ∙ u.quiet))
    at u v is (waiting.named e h) = absurd (both_ways _ u.quiet (ap (λ (x : Waiter). x.is_named) e))

-- ---- one more

pub among : (t : Ticket) (xs ys : List Waiter) → IsAdded t xs ys → IsAmong t (unnamed xs) (unnamed ys)
among t xs ys k = record {
  before = unnamed k.before;
  after = unnamed k.after;
  was = ap unnamed k.was ∙ unnamed-append k.before k.after;
  now = ap unnamed k.now ∙ unnamed-append k.before (record { ticket = t; is_named = false } ∷ k.after);
}

pub among_left : (t : Ticket) (xs ys zs : List Ticket) → IsAmong t xs ys → IsAmong t (xs ++ zs) (ys ++ zs)
among_left t xs ys zs k = record {
  before = k.before;
  after = k.after ++ zs;
  was = ap (λ ts. ts ++ zs) k.was ∙ append_assoc k.before k.after zs;
  now = ap (λ ts. ts ++ zs) k.now ∙ append_assoc k.before (t ∷ k.after) zs;
}

pub among_right : (t : Ticket) (xs ys zs : List Ticket) → IsAmong t xs ys → IsAmong t (zs ++ xs) (zs ++ ys)
among_right t xs ys zs k = record {
  before = zs ++ k.before;
  after = k.after;
  was = ap (λ ts. zs ++ ts) k.was ∙ sym (append_assoc zs k.before k.after);
  now = ap (λ ts. zs ++ ts) k.now ∙ sym (append_assoc zs k.before (t ∷ k.after));
}

got_of_added : (before after : List Waiter) (y w : Waiter) (k : ℕ) → slice_get (before ++ y ∷ after) k ≡ Some w
    → (w ≡ y) ⊎ ((j : ℕ) × (slice_get (before ++ after) j ≡ Some w))
got_of_added [] after y w zero h = inl (sym (same_Some y w h))
got_of_added [] after y w (suc k) h = inr (k, h)
got_of_added (x ∷ xs) after y w zero h = inr (0, h)
got_of_added (x ∷ xs) after y w (suc k) h = ⊎_elim inl (λ u. inr (suc u.0, u.1)) (got_of_added xs after y w k h)

pub flushes_added : (t : Ticket) (xs ys : List Waiter) (q : QueueId) → t.call ≡ call.Flush q → IsAdded t xs ys
    → AreFlushes xs → AreFlushes ys
flushes_added t xs ys q is k kind i w at = ⊎_elim (λ same. (q, ap (λ (v : Waiter). v.ticket.call) same ∙ is))
    (λ u. kind u.0 w (ap (λ zs. slice_get zs u.0) k.was ∙ u.1))
    (got_of_added k.before k.after _ w i (sym (ap (λ zs. slice_get zs i) k.now) ∙ at))

-- ---- some leave

got_of_filter : (p : Waiter → Bool) (xs : List Waiter) (k : ℕ) (w : Waiter) → slice_get (filter p xs) k ≡ Some w
    → (j : ℕ) × (slice_get xs j ≡ Some w)
got_of_filter p [] k w h = cc
got_of_filter p (x ∷ xs) k w h = at (p x) refl k h (λ i g. got_of_filter p xs i w g)
  where
    at : (b : Bool) → p x ≡ b → (i : ℕ) → slice_get (filter p (x ∷ xs)) i ≡ Some w
        → ((i : ℕ) → slice_get (filter p xs) i ≡ Some w → (j : ℕ) × (slice_get xs j ≡ Some w))
        → (j : ℕ) × (slice_get (x ∷ xs) j ≡ Some w)
    at false is i g rest =
        let u = rest i (sym (ap (λ b. slice_get (if b then x ∷ filter p xs else filter p xs) i) is) ∙ g) in
        (suc u.0, u.1)
    at true is zero g rest =
        (0, sym (ap (λ b. slice_get (if b then x ∷ filter p xs else filter p xs) 0) is) ∙ g)
    at true is (suc i) g rest =
        let u = rest i (sym (ap (λ b. slice_get (if b then x ∷ filter p xs else filter p xs) (suc i)) is) ∙ g) in
        (suc u.0, u.1)

pub flushes_filter : (p : Waiter → Bool) (xs : List Waiter) → AreFlushes xs → AreFlushes (filter p xs)
flushes_filter p xs kind k w at = let u = got_of_filter p xs k w at in kind u.0 w u.1

tail_in_order : (x : Waiter) (xs : List Waiter) → AreInOrder (x ∷ xs) → AreInOrder xs
tail_in_order x xs order i j v w less hv hw = order (suc i) (suc j) v w (omega arith) hv hw

first_kept : (p : Waiter → Bool) (x : Waiter) (xs : List Waiter) → AreInOrder (x ∷ xs) → AreInOrder (filter p xs)
    → AreInOrder (x ∷ filter p xs)
first_kept p x xs order kept zero zero v w less hv hw =
    let same : v ≡ w = same_Some v w (sym hv ∙ hw) in
    subst (λ (u : Waiter). v.ticket.number ≤ u.ticket.number) same (omega arith)
first_kept p x xs order kept zero (suc j) v w less hv hw =
    let u = got_of_filter p xs j w hw in order 0 (suc u.0) v w (omega arith) hv u.1
first_kept p x xs order kept (suc i) zero v w less hv hw = absurd (omega arith)
first_kept p x xs order kept (suc i) (suc j) v w less hv hw = kept i j v w (omega arith) hv hw

pub order_filter : (p : Waiter → Bool) (xs : List Waiter) → AreInOrder xs → AreInOrder (filter p xs)
order_filter p [] order = order
order_filter p (x ∷ xs) order = at (p x) refl (order_filter p xs (tail_in_order x xs order))
  where
    at : (b : Bool) → p x ≡ b → AreInOrder (filter p xs) → AreInOrder (filter p (x ∷ xs))
    at true is rest = subst (λ b. AreInOrder (if b then x ∷ filter p xs else filter p xs)) (sym is)
        (first_kept p x xs order rest)
    at false is rest = subst (λ b. AreInOrder (if b then x ∷ filter p xs else filter p xs)) (sym is) rest

pub unnamed_filter : (c : ℕ) (xs : List Waiter) → unnamed (filter (is_of_other_caller c) xs)
    ≡ filter (is_of_other c) (unnamed xs)
unnamed_filter c [] = refl
unnamed_filter c (x ∷ xs) = at (is_of_other c x.ticket) x.is_named refl refl (unnamed_filter c xs)
  where
    at : (b n : Bool) → is_of_other c x.ticket ≡ b → x.is_named ≡ n
        → unnamed (filter (is_of_other_caller c) xs) ≡ filter (is_of_other c) (unnamed xs)
        → unnamed (if is_of_other c x.ticket then x ∷ filter (is_of_other_caller c) xs
        else filter (is_of_other_caller c) xs)
        ≡ filter (is_of_other c) (if x.is_named then unnamed xs else x.ticket ∷ unnamed xs)
    at true true other quiet rest =
        ap (λ b. unnamed (if b then x ∷ filter (is_of_other_caller c) xs else filter (is_of_other_caller c) xs)) other
        ∙ (unnamed_cons x (filter (is_of_other_caller c) xs) true quiet ∙ (rest
        ∙ sym (ap (λ n. filter (is_of_other c) (if n then unnamed xs else x.ticket ∷ unnamed xs)) quiet)))
    at true false other quiet rest =
        ap (λ b. unnamed (if b then x ∷ filter (is_of_other_caller c) xs else filter (is_of_other_caller c) xs)) other
        ∙ (unnamed_cons x (filter (is_of_other_caller c) xs) false quiet
        ∙ (ap (λ ts. x.ticket ∷ ts) rest
        ∙ (sym (ap (λ b. if b then x.ticket ∷ filter (is_of_other c) (unnamed xs)
        else filter (is_of_other c) (unnamed xs)) other)
        ∙ sym (ap (λ n. filter (is_of_other c) (if n then unnamed xs else x.ticket ∷ unnamed xs)) quiet))))
    at false true other quiet rest =
        ap (λ b. unnamed (if b then x ∷ filter (is_of_other_caller c) xs else filter (is_of_other_caller c) xs)) other
        ∙ (rest ∙ sym (ap (λ n. filter (is_of_other c) (if n then unnamed xs else x.ticket ∷ unnamed xs)) quiet))
    at false false other quiet rest =
        ap (λ b. unnamed (if b then x ∷ filter (is_of_other_caller c) xs else filter (is_of_other_caller c) xs)) other
        ∙ (rest
        ∙ (sym (ap (λ b. if b then x.ticket ∷ filter (is_of_other c) (unnamed xs)
        else filter (is_of_other c) (unnamed xs)) other)
        ∙ sym (ap (λ n. filter (is_of_other c) (if n then unnamed xs else x.ticket ∷ unnamed xs)) quiet)))

-- ---- one more, or none

pub flushes_added_or : (t : Ticket) (xs ys : List Waiter) (q : QueueId) (b : Bool) → t.call ≡ call.Flush q
    → (b ≡ true → IsAdded t xs ys) → (b ≡ false → ys ≡ xs) → AreFlushes xs → AreFlushes ys
flushes_added_or t xs ys q true is added full kind = flushes_added t xs ys q is (added refl) kind
flushes_added_or t xs ys q false is added full kind = subst AreFlushes (sym (full refl)) kind
