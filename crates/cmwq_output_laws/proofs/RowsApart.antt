-- Of the waits of a caller in one row, the one that begins first ends before the other begins.
use Rattle.std.proofs.Common.{◌≡◌, ℕ, zero, suc, ◌+◌, ◌<◌, ◌≤◌, ◌⊎◌, Bool, true, false, List, [], ◌∷◌, ◌++◌, length}
use Rattle.std.proofs.Common.{Option, Some, None, option_map, option_to_list, refl, sym, ap, ◌∙◌, subst, arith}
use Rattle.std.proofs.Common.{inl, inr, ⊎_elim, append-nil, flat_map, ltb-false, nat_lt}
use Rattle.std.specs.Prelude.{if◌then◌else◌, option_and_then, slice_get, slice_set}
use Rattle.std.specs.Option.{option_map_or}
use Rattle.std.specs.List.{AllByRecursion, range_with_len}
use Rattle.std.proofs.lemmas.List.{set_past}
use Rattle.std.proofs.lemmas.List.Concat.{flat_map-cons}
use Rattle.std.proofs.lemmas.Option.{same_Some}
use Rattle.cmwq_lemmas.proofs.Members.{In, all_in, in_append, in_option}
use Rattle.cmwq_model.specs.declared.call.Call.{Call}
use Rattle.cmwq_model.specs.declared.entry.Entry.{Entry}
use Rattle.cmwq_model.specs.declared.id.CallerId.{CallerId}
use Rattle.cmwq_model.specs.declared.id.Who.TheVariants.{Caller}
use Rattle.cmwq_model.specs.declared.reply.Reply.{Reply}
use Rattle.cmwq_model.specs.declared.reply.Reply.TheVariants as reply
use Rattle.cmwq_model.specs.Prelude.{gives_ticket, is_by, is_done}
use Rattle.cmwq_chart.specs.declared.waits.CallerWait.{CallerWait}
use Rattle.cmwq_chart.specs.CallerWaits.{begun_in_row, end_asked, free_row, left_row, number_done, rows_after}
use Rattle.cmwq_chart.specs.CallerWaits.{ticket_in_row, ticket_row, wait_ended_in, wait_in, wait_left, wait_over}
use Rattle.cmwq_chart.specs.CallerWaits.{wait_rows, waits_by, waits_ended, waits_left}
use Rattle.cmwq_output_laws.specs.BarLaws.{EndsBefore}
use Rattle.cmwq_output_laws.specs.WaitLaws.{StandApart, WaitsOfARowAreApart}

-- ---- rows

pub left_is : (rows : List (Option ℕ)) (k : ℕ) → left_row rows k ≡ slice_set rows k None
left_is rows k = by (nat_lt k (length rows)) refl
  where
    by : (b : Bool) → nat_lt k (length rows) ≡ b
        → (if b then slice_set rows k None else rows) ≡ slice_set rows k None
    by true is = refl
    by false is = sym (set_past rows k None (ltb-false k (length rows) is))

-- a row that was left holds no ticket, and the others hold what they held
row_set : (rows : List (Option ℕ)) (k j n : ℕ) → ticket_in_row (slice_set rows k None) j ≡ Some n
    → (j ≡ k → ⊥) × (ticket_in_row rows j ≡ Some n)
row_set [] k j n h = absurd (cc h)
row_set (r ∷ rows) zero zero n h = absurd (cc h)
row_set (r ∷ rows) zero (suc j) n h = (λ e. absurd (omega arith), h)
row_set (r ∷ rows) (suc k) zero n h = (λ e. absurd (omega arith), h)
row_set (r ∷ rows) (suc k) (suc j) n h =
    let is = row_set rows k j n h in
    (λ e. is.0 (omega arith), is.1)

row_put : (rows : List (Option ℕ)) (k m j n : ℕ) → ticket_in_row (slice_set rows k (Some m)) j ≡ Some n
    → (n ≡ m) ⊎ (ticket_in_row rows j ≡ Some n)
row_put [] k m j n h = inr h
row_put (r ∷ rows) zero m zero n h = inl (sym (same_Some m n h))
row_put (r ∷ rows) zero m (suc j) n h = inr h
row_put (r ∷ rows) (suc k) m zero n h = inr h
row_put (r ∷ rows) (suc k) m (suc j) n h = row_put rows k m j n h

row_pushed : (rows : List (Option ℕ)) (m j n : ℕ) → ticket_in_row (rows ++ Some m ∷ []) j ≡ Some n
    → (n ≡ m) ⊎ (ticket_in_row rows j ≡ Some n)
row_pushed [] m zero n h = inl (sym (same_Some m n h))
row_pushed [] m (suc j) n h = absurd (cc h)
row_pushed (r ∷ rows) m zero n h = inr h
row_pushed (r ∷ rows) m (suc j) n h = row_pushed rows m j n h

row_begun : (rows : List (Option ℕ)) (m j n : ℕ) → ticket_in_row (begun_in_row rows m) j ≡ Some n
    → (n ≡ m) ⊎ (ticket_in_row rows j ≡ Some n)
row_begun rows m j n h = by (nat_lt (free_row rows) (length rows)) h
  where
    by : (b : Bool)
        → ticket_in_row (if b then slice_set rows (free_row rows) (Some m) else rows ++ Some m ∷ []) j ≡ Some n
        → (n ≡ m) ⊎ (ticket_in_row rows j ≡ Some n)
    by true k = row_put rows (free_row rows) m j n k
    by false k = row_pushed rows m j n k

-- ---- waits that have ended, and rows in which others go on

-- it has ended before this entry
record EndedBefore (n : ℕ) (w : CallerWait) : Type 0 where
  at : ℕ
  to : w.to ≡ Some at
  from : w.from < at
  before : at < n

still : (n m : ℕ) (w : CallerWait) → n ≤ m → EndedBefore n w → EndedBefore m w
still n m w less h = record { at = h.at; to = h.to; from = h.from; before = (let b = h.before in omega arith) }

ends_before : (n : ℕ) (w : CallerWait) → EndedBefore n w → EndsBefore w.to n
ends_before n w h = subst (λ o. EndsBefore o n) (sym h.to) h.before

-- These waits have ended before this entry, and stand apart; and where a ticket waits in a row, those that were in the
-- row have ended before it was given.
record AreApartSoFar (ws : List CallerWait) (rows : List (Option ℕ)) (m : ℕ) : Type 0 where
  ended : (w : CallerWait) → In w ws → EndedBefore m w
  given : (k n : ℕ) → ticket_in_row rows k ≡ Some n → n < m
  freed : (k n : ℕ) → ticket_in_row rows k ≡ Some n → (w : CallerWait) → In w ws → w.row ≡ k → EndedBefore n w
  apart : (w v : CallerWait) → In w ws → In v ws → StandApart w v

module _ (c : CallerId) (ws : List CallerWait) (rows : List (Option ℕ)) (m : ℕ) (h : AreApartSoFar ws rows m) where
  goes_on : AreApartSoFar (ws ++ []) rows (suc m)
  goes_on = subst (λ l. AreApartSoFar l rows (suc m)) (sym (append-nil ws)) record {
    ended = λ w i. still m (suc m) w (omega arith) (h.ended w i);
    given = λ k n is. (let less = h.given k n is in omega arith);
    freed = h.freed;
    apart = h.apart;
  }

  begins : AreApartSoFar (ws ++ []) (begun_in_row rows m) (suc m)
  begins = subst (λ l. AreApartSoFar l (begun_in_row rows m) (suc m)) (sym (append-nil ws)) record {
    ended = λ w i. still m (suc m) w (omega arith) (h.ended w i);
    given = λ k n is. ⊎_elim (λ (e : n ≡ m). (let less : n < suc m = omega arith in less))
        (λ old. (let less = h.given k n old in omega arith)) (row_begun rows m k n is);
    freed = λ k n is w i at. ⊎_elim (λ (e : n ≡ m). subst (λ u. EndedBefore u w) (sym e) (h.ended w i))
        (λ old. h.freed k n old w i at) (row_begun rows m k n is);
    apart = h.apart;
  }

  module _ (k : ℕ) where
    rest : (j n : ℕ) → ticket_in_row (left_row rows k) j ≡ Some n → (j ≡ k → ⊥) × (ticket_in_row rows j ≡ Some n)
    rest j n is = row_set rows k j n (subst (λ l. ticket_in_row l j ≡ Some n) (left_is rows k) is)

    ends_none : AreApartSoFar (ws ++ []) (left_row rows k) (suc m)
    ends_none = subst (λ l. AreApartSoFar l (left_row rows k) (suc m)) (sym (append-nil ws)) record {
      ended = λ w i. still m (suc m) w (omega arith) (h.ended w i);
      given = λ j n is. (let less = h.given j n (rest j n is).1 in omega arith);
      freed = λ j n is. h.freed j n (rest j n is).1;
      apart = h.apart;
    }

    module _ (t : ℕ) (there : ticket_in_row rows k ≡ Some t) where
      abbrev x : CallerWait
      x = wait_in c k (Some m) t

      x_ended : EndedBefore (suc m) x
      x_ended = record { at = m; to = refl; from = h.given k t there; before = omega arith }

      -- one of the others, in its row
      with_other : (w : CallerWait) → In w ws → StandApart w x × StandApart x w
      with_other w i = (
        λ same less. ends_before t w (h.freed k t there w i same),
        λ same less. let f = h.freed k t there w i (sym same) in
            let a = f.from in
            let b = f.before in
            absurd (omega arith),
      )

      ends_one : AreApartSoFar (ws ++ x ∷ []) (left_row rows k) (suc m)
      ends_one = record {
        ended = λ w i. ⊎_elim (λ a. still m (suc m) w (omega arith) (h.ended w a)) (λ b. ⊎_elim
            (λ e. subst (EndedBefore (suc m)) e x_ended) (λ f. absurd f) b) (in_append ws (x ∷ []) w i);
        given = λ j n is. (let less = h.given j n (rest j n is).1 in omega arith);
        freed = λ j n is w i at. ⊎_elim (λ a. h.freed j n (rest j n is).1 w a at) (λ b. ⊎_elim
            (λ (e : x ≡ w). absurd ((rest j n is).0 (sym (ap (λ (y : CallerWait). y.row) e ∙ at)))) (λ f. absurd f) b)
            (in_append ws (x ∷ []) w i);
        apart = λ w v i j. both w v (in_append ws (x ∷ []) w i) (in_append ws (x ∷ []) v j);
      }
        where
          both : (w v : CallerWait) → In w ws ⊎ In w (x ∷ []) → In v ws ⊎ In v (x ∷ []) → StandApart w v
          both w v (inl a) (inl b) = h.apart w v a b
          both w v (inl a) (inr (inl e)) = subst (StandApart w) e (with_other w a).0
          both w v (inr (inl e)) (inl b) = subst (λ y. StandApart y v) e (with_other v b).1
          both w v (inr (inl e)) (inr (inl f)) =
              subst (λ y. StandApart y v) e (subst (StandApart x) f (λ same less. absurd (omega arith)))
          both w v (inr (inr f)) j = absurd f
          both w v i (inr (inr f)) = absurd f

    ends : AreApartSoFar (ws ++ option_to_list (option_map (wait_in c k (Some m)) (ticket_in_row rows k)))
        (left_row rows k) (suc m)
    ends = by (ticket_in_row rows k) refl
      where
        by : (o : Option ℕ) → ticket_in_row rows k ≡ o
            → AreApartSoFar (ws ++ option_to_list (option_map (wait_in c k (Some m)) o)) (left_row rows k) (suc m)
        by None is = ends_none
        by (Some t) is = ends_one t is

pub not_done : (r : Reply) → gives_ticket r ≡ true → is_done r ≡ false
not_done reply.Done h = cc
not_done r h = refl

module _ (c : CallerId) (ws : List CallerWait) (rows : List (Option ℕ)) (e : Entry) (m : ℕ)
    (h : AreApartSoFar ws rows m) where
  one_more : (b : Bool) → AreApartSoFar (ws ++ option_to_list (if b then wait_ended_in rows e c m else None))
      (if b then rows_after e m rows else rows) (suc m)
  one_more false = goes_on c ws rows m h
  one_more true = own (gives_ticket e.reply) refl
    where
      ended : (o : Option ℕ)
          → AreApartSoFar (ws ++ option_to_list (option_and_then (λ t. wait_over rows c m (ticket_row rows t)) o))
          (option_map_or (λ t. left_row rows (ticket_row rows t)) o rows) (suc m)
      ended None = goes_on c ws rows m h
      ended (Some t) = ends c ws rows m h (ticket_row rows t)

      own : (g : Bool) → gives_ticket e.reply ≡ g
          → AreApartSoFar (ws ++ option_to_list (wait_ended_in rows e c m))
          (if g then begun_in_row rows m
          else option_map_or (λ t. left_row rows (ticket_row rows t)) (number_done e) rows) (suc m)
      own true is =
          let none : number_done e ≡ None = ap (λ b. if b then end_asked e.call else None) (not_done e.reply is) in
          subst (λ o. AreApartSoFar
          (ws ++ option_to_list (option_and_then (λ t. wait_over rows c m (ticket_row rows t)) o))
          (begun_in_row rows m) (suc m)) (sym none) (begins c ws rows m h)
      own false is = ended (number_done e)

so_far : (c : CallerId) (past : List Entry) → AreApartSoFar (waits_ended past c) (wait_rows past c) (length past)
unfolding waits_ended wait_rows
so_far c [] = record {
  ended = λ w i. absurd i;
  given = λ k n is. absurd (cc is);
  freed = λ k n is w i. absurd i;
  apart = λ w v i. absurd i;
}
so_far c (e ∷ past) =
    one_more c (waits_ended past c) (wait_rows past c) e (length past) (so_far c past) (is_by (Caller c) e)

-- ---- and those that go on

in_flat : {X Y : Type 0} (f : X → List Y) (xs : List X) (y : Y) → In y (flat_map f xs)
    → (x : X) × In x xs × In y (f x)
in_flat f [] y h = absurd h
in_flat f (x ∷ xs) y h =
    ⊎_elim (λ a. (x, inl refl, a)) (λ b. let i = in_flat f xs y b in
    (i.0, inr i.1, i.2)) (in_append (f x) (flat_map f xs) y (subst (In y) (flat_map-cons f x xs) h))

-- it goes on at the end, in this row
record GoesOn (c : CallerId) (rows : List (Option ℕ)) (w : CallerWait) : Type 0 where
  ticket : ℕ
  there : ticket_in_row rows w.row ≡ Some ticket
  from : w.from ≡ ticket

left_goes_on : (c : CallerId) (rows : List (Option ℕ)) (w : CallerWait) → In w (waits_left rows c) → GoesOn c rows w
left_goes_on c rows w i =
    let at = in_flat (wait_left rows c) (range_with_len 0 (length rows)) w i in
    by at.0 (ticket_in_row rows at.0) refl
    (in_option (option_map (wait_in c at.0 None) (ticket_in_row rows at.0)) w at.2)
  where
    by : (k : ℕ) (o : Option ℕ) → ticket_in_row rows k ≡ o → option_map (wait_in c k None) o ≡ Some w → GoesOn c rows w
    by k None is h = absurd (cc h)
    by k (Some t) is h =
        let same : wait_in c k None t ≡ w = same_Some (wait_in c k None t) w h in
        subst (GoesOn c rows) same (record { ticket = t; there = is; from = refl })

apart : (c : CallerId) (past : List Entry) (w v : CallerWait)
    → In w (waits_ended past c) ⊎ In w (waits_left (wait_rows past c) c)
    → In v (waits_ended past c) ⊎ In v (waits_left (wait_rows past c) c) → StandApart w v
apart c past w v (inl a) (inl b) = (so_far c past).apart w v a b
apart c past w v (inl a) (inr b) =
    λ same less. let g = left_goes_on c (wait_rows past c) v b in
    subst (EndsBefore w.to) (sym g.from)
    (ends_before g.ticket w ((so_far c past).freed v.row g.ticket g.there w a same))
apart c past w v (inr a) (inl b) =
    λ same less. let g = left_goes_on c (wait_rows past c) w a in
    let f = (so_far c past).freed w.row g.ticket g.there v b (sym same) in
    let from = g.from in
    let one = f.from in
    let two = f.before in
    absurd (omega arith)
apart c past w v (inr a) (inr b) =
    λ same less. let g = left_goes_on c (wait_rows past c) w a in
    let k = left_goes_on c (wait_rows past c) v b in
    let one : g.ticket ≡ k.ticket = same_Some g.ticket k.ticket
    (sym g.there ∙ ap (ticket_in_row (wait_rows past c)) same ∙ k.there) in
    let from = g.from in
    let to = k.from in
    absurd (omega arith)

pub waits_of_a_row_are_apart : WaitsOfARowAreApart
unfolding waits_by
waits_of_a_row_are_apart past c =
    all_in (λ w. AllByRecursion (StandApart w) (waits_by past c)) (waits_by past c)
    (λ w i. all_in (StandApart w) (waits_by past c) (λ v j. apart c past w v
    (in_append (waits_ended past c) (waits_left (wait_rows past c) c) w i)
    (in_append (waits_ended past c) (waits_left (wait_rows past c) c) v j)))
