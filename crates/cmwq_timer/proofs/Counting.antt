-- How many items are booked on each queue, where a row is written.
use Rattle.std.proofs.Common.{◌≡◌, ℕ, ◌+◌, ◌-◌, ◌*◌, ◌<◌, Bool, true, cond, ◌||◌, ◌==◌, List, [], ◌∷◌, length, Option}
use Rattle.std.proofs.Common.{Some, None, refl, sym, ap, ◌∙◌, arith, ⊎_elim, set}
use Rattle.std.specs.Prelude.{count_by, nat_lt, slice_index, replicate}
use Rattle.std.specs.List.{list_any}
use Rattle.std.proofs.lemmas.Bool.{cases_eq, eq-eqb, eqb-true}
use Rattle.std.proofs.lemmas.List.{get_or-set_same, get_or-set_other, get_or-replicate, length-set, length-replicate}
use Rattle.std.proofs.lemmas.List.Folds.{sum_by-replicate}
use Rattle.std.proofs.lemmas.List.Sums.{count_by-le-length, sum_by-cons, sum_by-set}
use Rattle.cmwq_timer.specs.declared.timer.Timer.{Timer}
use Rattle.cmwq_timer.specs.declared.timers.TheConstants.{QUEUES}
use Rattle.cmwq_timer.specs.Rows.{TimerRows, timer_of, is_timer_on, any_timer_on, AreCounted, timer_counts_with}
use Rattle.cmwq_timer.specs.Rows.{timer_counts_without, HasRoomFor}

abbrev bit : ℕ → Option Timer → ℕ
bit q o = cond (is_timer_on q o) 1 0

-- the row's own timer goes, and the new one comes
written : (q : ℕ) (rows : TimerRows) (i : ℕ) (o : Option Timer) → i < length rows
    → count_by (is_timer_on q) (set rows i o) + bit q (timer_of rows i) ≡ count_by (is_timer_on q) rows + bit q o
written q rows i o here = sum_by-set (bit q) rows i o None here

with_at : (counts : List ℕ) (o : Option Timer) (q : ℕ) → q < length counts → slice_index (timer_counts_with o counts) q
    ≡ slice_index counts q + bit q o
with_at counts None q inside = sym (nothing (slice_index counts q))
  where
    nothing : (n : ℕ) → n + 0 ≡ n
    nothing n = omega arith
with_at counts (Some t) q inside = ⊎_elim
    (λ same. rw same
    (get_or-set_same counts t.place.queue.0 (slice_index counts t.place.queue.0 + 1) 0 (rw same at inside)
    ∙ ap (λ b. slice_index counts t.place.queue.0 + cond b 1 0)
    (sym (eq-eqb t.place.queue.0 t.place.queue.0 refl))))
    (λ ne. get_or-set_other counts t.place.queue.0 q (slice_index counts t.place.queue.0 + 1) 0 ne
    ∙ none (t.place.queue.0 == q) (λ h. ne (sym (eqb-true t.place.queue.0 q h))))
    (cases_eq q t.place.queue.0)
  where
    none : (b : Bool) → (b ≡ true → ⊥) → slice_index counts q ≡ slice_index counts q + cond b 1 0
    none b h = grind arith

without_at : (counts : List ℕ) (o : Option Timer) (q : ℕ) → q < length counts
    → slice_index (timer_counts_without o counts) q ≡ slice_index counts q - bit q o
without_at counts None q inside = sym (nothing (slice_index counts q))
  where
    nothing : (n : ℕ) → n - 0 ≡ n
    nothing n = omega arith
without_at counts (Some t) q inside = ⊎_elim
    (λ same. rw same
    (get_or-set_same counts t.place.queue.0 (slice_index counts t.place.queue.0 - 1) 0 (rw same at inside)
    ∙ ap (λ b. slice_index counts t.place.queue.0 - cond b 1 0)
    (sym (eq-eqb t.place.queue.0 t.place.queue.0 refl))))
    (λ ne. get_or-set_other counts t.place.queue.0 q (slice_index counts t.place.queue.0 - 1) 0 ne
    ∙ none (t.place.queue.0 == q) (λ h. ne (sym (eqb-true t.place.queue.0 q h))))
    (cases_eq q t.place.queue.0)
  where
    none : (b : Bool) → (b ≡ true → ⊥) → slice_index counts q ≡ slice_index counts q - cond b 1 0
    none b h = grind arith

length_with : (counts : List ℕ) (o : Option Timer) → length (timer_counts_with o counts) ≡ length counts
length_with counts o = grind (arith, length-set)

length_without : (counts : List ℕ) (o : Option Timer) → length (timer_counts_without o counts) ≡ length counts
length_without counts o = grind (arith, length-set)

-- a queue has a number below 256
module _ (rows : TimerRows) (counts : List ℕ) (are : AreCounted rows counts) where
  counted : (o : Option Timer) (t : Timer) → o ≡ Some t → bit t.place.queue.0 o ≡ 1
  counted o t is = ap (bit t.place.queue.0) is ∙ ap (λ b. cond b 1 0) (eq-eqb t.place.queue.0 t.place.queue.0 refl)

  module _ (i : ℕ) (here : i < length rows) where
    pub written_counts : (o : Option Timer)
        → AreCounted (set rows i o) (timer_counts_with o (timer_counts_without (timer_of rows i) counts))
    written_counts o = record {
      few = rw (length-set rows i o) are.few;
      many = length_with (timer_counts_without (timer_of rows i) counts) o ∙ length_without counts (timer_of rows i)
          ∙ are.many;
      exact = λ q less.
          let within : q < length counts = rw are.many less in
          let within2 : q < length (timer_counts_without (timer_of rows i) counts) =
          rw (length_without counts (timer_of rows i)) within in
          let more = with_at (timer_counts_without (timer_of rows i) counts) o q within2 in
          let fewer = without_at counts (timer_of rows i) q within in
          let exact = are.exact q less in
          let change = written q rows i o here in
          let none = written q rows i None here in
          omega (arith, more, fewer, exact, change, none);
    }

    pub has_room : (o : Option Timer) → ((t : Timer) → o ≡ Some t → t.place.queue.0 < QUEUES)
        → HasRoomFor o (timer_counts_without (timer_of rows i) counts)
    has_room None known = tt
    has_room (Some t) known =
        let q = t.place.queue.0 in
        let within : q < length counts = rw are.many (known t refl) in
        let within2 : q < length (timer_counts_without (timer_of rows i) counts) =
        rw (length_without counts (timer_of rows i)) within in
        let fewer = without_at counts (timer_of rows i) q within in
        let exact = are.exact q (known t refl) in
        let change = written q rows i (Some t) here in
        let most = count_by-le-length (is_timer_on q) (set rows i (Some t)) in
        let size = length-set rows i (Some t) in
        let one = counted (Some t) t refl in
        let none = written q rows i None here in
        let few = are.few in
        (within2, omega (arith, fewer, exact, change, most, size, one, none, few))

pub none_counted : (items : ℕ) → items < 65536 → AreCounted (replicate items None) (replicate QUEUES 0)
none_counted items few = record {
  few = rw (length-replicate {A = Option Timer} items None) few;
  many = length-replicate {A = ℕ} QUEUES 0;
  exact = λ q less. get_or-replicate QUEUES q 0 0 less ∙ sym (sum_by-replicate (bit q) items None ∙ nothing items);
}
  where
    nothing : (n : ℕ) → n * 0 ≡ 0
    nothing n = omega arith

any_cons : (a b : Bool) → (a || b) ≡ cond a true b
any_cons a b = grind arith

any_counted : (p : Option Timer → Bool) (rows : TimerRows) → nat_lt 0 (count_by p rows) ≡ list_any p rows
any_counted p [] = refl
any_counted p (x ∷ rows) =
    let cons : count_by p (x ∷ rows) ≡ cond (p x) 1 0 + count_by p rows = sum_by-cons (λ y. cond (p y) 1 0) x rows in
    let any : list_any p (x ∷ rows) ≡ cond (p x) true (list_any p rows) = any_cons (p x) (list_any p rows) in
    ap (nat_lt 0) cons ∙ by (p x) (any_counted p rows) ∙ sym any
  where
    by : (b : Bool) → nat_lt 0 (count_by p rows) ≡ list_any p rows → nat_lt 0 (cond b 1 0 + count_by p rows)
        ≡ cond b true (list_any p rows)
    by b h = grind arith

pub booked_on : (rows : TimerRows) (counts : List ℕ) (q : ℕ) → AreCounted rows counts → q < QUEUES
    → nat_lt 0 (slice_index counts q) ≡ any_timer_on rows q
booked_on rows counts q are less = ap (nat_lt 0) (are.exact q less) ∙ any_counted (is_timer_on q) rows
