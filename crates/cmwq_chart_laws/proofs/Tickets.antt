-- Each ticket has one wait.
use Rattle.std.proofs.Common.{◌≡◌, ℕ, zero, suc, ◌+◌, ◌<◌, ◌≤◌, ◌==◌, Bool, true, false, ◌&&◌, ◌||◌, not, List, [], ◌∷◌}
use Rattle.std.proofs.Common.{◌++◌, cond, count_by, length, map, filter, flat_map, Option, Some, None, option_map}
use Rattle.std.proofs.Common.{option_to_list, reverse, refl, sym, ap, ap₂, ◌∙◌, subst, arith, nat_lt, lt-ltb, le-ltb}
use Rattle.std.proofs.Common.{ltb-true}
use Rattle.std.proofs.Common.{ltb-false, eq-eqb, eqb-true, ne_eqb, ⊎_elim, inl, append-nil, length-append}
use Rattle.std.specs.Prelude.{if◌then◌else◌, is_some, option_and_then, slice_get, slice_set}
use Rattle.std.specs.Option.{option_map_or}
use Rattle.std.specs.List.{AllByRecursion, list_any, range_with_len}
use Rattle.std.proofs.lemmas.Bool.{cases_eq}
use Rattle.std.proofs.lemmas.List.{reverse-append, reverse-reverse}
use Rattle.std.proofs.lemmas.List.Elements.{filter-append}
use Rattle.std.proofs.lemmas.List.Sums.{length-filter}
use Rattle.cmwq_lemmas.proofs.Lists.{All_append, count_append, count_by-cons}
use Rattle.cmwq_lemmas.proofs.Members.{In, any_in, in_filter, in_left, in_right, of_in}
use Rattle.cmwq_lemmas.proofs.Truth.{and_false, and_true}
use Rattle.cmwq_model.specs.declared.call.Call.{Call}
use Rattle.cmwq_model.specs.declared.call.Call.TheVariants as call
use Rattle.cmwq_model.specs.declared.entry.Entry.{Entry}
use Rattle.cmwq_model.specs.declared.id.CallerId.{CallerId}
use Rattle.cmwq_model.specs.declared.id.Who.TheVariants.{Caller}
use Rattle.cmwq_model.specs.declared.reply.Reply.{Reply}
use Rattle.cmwq_model.specs.declared.reply.Reply.TheVariants as reply
use Rattle.cmwq_model.specs.Prelude.{Layout, gives_ticket, is_at, is_by, is_done, is_end_of, past_of, same_who}
use Rattle.cmwq_chart.specs.declared.waits.CallerWait.{CallerWait}
use Rattle.cmwq_chart.specs.CallerWaits.{begun_in_row, caller_of_number, callers_of, caller_waits_of, end_asked}
use Rattle.cmwq_chart.specs.CallerWaits.{free_row}
use Rattle.cmwq_chart.specs.CallerWaits.{has_calls, left_row, number_done, rows_after, ticket_in_row, ticket_row}
use Rattle.cmwq_chart.specs.CallerWaits.{wait_ended, wait_in, wait_left, wait_over, wait_rows, waits_by, waits_ended}
use Rattle.cmwq_chart.specs.CallerWaits.{waits_left}
use Rattle.cmwq_output_laws.specs.BarLaws.{StandsIn}
use Rattle.cmwq_chart_laws.specs.Waits.{ends_wait_of}
use Rattle.cmwq_output_laws.proofs.RowsApart.{left_is, not_done}
use Rattle.cmwq_chart_laws.proofs.Causing.{is_ended}
use Rattle.cmwq_chart_laws.proofs.Folded.{only, picked, same_if}

-- one that passes alone
pub one_passes : {X : Type 0} (test : X → Bool) (xs : List X) → count_by test xs ≡ 1
    → (x : X) × (filter test xs ≡ x ∷ [])
one_passes test xs h = by (filter test xs) (length-filter test xs ∙ h)
  where
    by : {X : Type 0} (ys : List X) → length ys ≡ 1 → (x : X) × (ys ≡ x ∷ [])
    by [] k = absurd (omega arith)
    by (x ∷ []) k = (x, refl)
    by (x ∷ y ∷ ys) k = absurd (omega arith)

pub none_of_none : {X : Type 0} (test : X → Bool) (xs : List X) → count_by test xs ≡ 0 → filter test xs ≡ []
none_of_none test xs h = by (filter test xs) (length-filter test xs ∙ h)
  where
    by : {X : Type 0} (ys : List X) → length ys ≡ 0 → ys ≡ []
    by [] k = refl
    by (y ∷ ys) k = absurd (omega arith)

abbrev pub if_one : Bool → ℕ
if_one b = cond b 1 0

module _ (c : CallerId) (n : ℕ) where
  abbrev pub here : Option ℕ → Bool
  here r = is_at r n

  abbrev from_here : CallerWait → Bool
  from_here x = x.from == n

  -- ---- a row more, and one less

  begun_later : (k m : ℕ) (rows : List (Option ℕ)) → begun_in_row (Some k ∷ rows) m ≡ Some k ∷ begun_in_row rows m
  unfolding free_row
  begun_later k m rows = by (nat_lt (free_row rows) (length rows)) refl
    where
      by : (b : Bool) → nat_lt (free_row rows) (length rows) ≡ b
          → (if nat_lt (1 + free_row rows) (suc (length rows)) then slice_set (Some k ∷ rows) (1 + free_row rows)
          (Some m)
          else (Some k ∷ rows) ++ Some m ∷ [])
          ≡ Some k ∷ (if b then slice_set rows (free_row rows) (Some m) else rows ++ Some m ∷ [])
      by true is =
          ap (λ b. if b then slice_set (Some k ∷ rows) (1 + free_row rows) (Some m) else (Some k ∷ rows) ++ Some m ∷ [])
          (lt-ltb (1 + free_row rows) (suc (length rows))
          (let less = ltb-true (free_row rows) (length rows) is in omega arith))
          ∙ ap (λ j. slice_set (Some k ∷ rows) j (Some m)) (let e : 1 + free_row rows ≡ suc (free_row rows) = omega
          arith in
          e)
      by false is =
          ap (λ b. if b then slice_set (Some k ∷ rows) (1 + free_row rows) (Some m) else (Some k ∷ rows) ++ Some m ∷ [])
          (le-ltb (1 + free_row rows) (suc (length rows))
          (let less = ltb-false (free_row rows) (length rows) is in omega arith))

  begun_count : (m : ℕ) (rows : List (Option ℕ))
      → count_by here (begun_in_row rows m) ≡ count_by here rows + cond (m == n) 1 0
  unfolding free_row
  begun_count m [] = let k = count_by-cons here (Some m) [] in omega arith
  begun_count m (None ∷ rows) =
      let a = count_by-cons here (Some m) rows in
      let b = count_by-cons here None rows in
      ap (λ t. count_by here (if t then Some m ∷ rows else (None ∷ rows) ++ Some m ∷ []))
      (lt-ltb 0 (suc (length rows)) (omega arith)) ∙ omega arith
  begun_count m (Some k ∷ rows) =
      let a = count_by-cons here (Some k) (begun_in_row rows m) in
      let b = count_by-cons here (Some k) rows in
      let h = begun_count m rows in
      ap (count_by here) (begun_later k m rows) ∙ omega arith

  abbrev ended_there : ℕ → Option ℕ → Option ℕ → List CallerWait
  ended_there row to r = option_to_list (option_map (wait_in c row to) r)

  ended_count : (row : ℕ) (to r : Option ℕ) → count_by from_here (ended_there row to r) ≡ cond (here r) 1 0
  ended_count row to None = refl
  ended_count row to (Some t) = let a = count_by-cons from_here (wait_in c row to t) [] in omega arith

  set_count : (row : ℕ) (to : Option ℕ) (rows : List (Option ℕ)) (k : ℕ)
      → count_by here (slice_set rows k None) + count_by from_here (ended_there row to (ticket_in_row rows k))
      ≡ count_by here rows
  set_count row to [] k = refl
  set_count row to (r ∷ rows) zero =
      let a = count_by-cons here None rows in
      let b = count_by-cons here r rows in
      let e = ended_count row to r in
      omega arith
  set_count row to (r ∷ rows) (suc k) =
      let a = count_by-cons here r (slice_set rows k None) in
      let b = count_by-cons here r rows in
      let h = set_count row to rows k in
      omega arith

  left_count : (row : ℕ) (to : Option ℕ) (rows : List (Option ℕ)) (k : ℕ)
      → count_by here (left_row rows k) + count_by from_here (ended_there row to (ticket_in_row rows k))
      ≡ count_by here rows
  left_count row to rows k =
      ap (λ l. count_by here l + count_by from_here (ended_there row to (ticket_in_row rows k))) (left_is rows k)
      ∙ set_count row to rows k

  -- ---- how many waits begin there: those that have ended, and those whose ticket waits in a row

  abbrev gives_here : List Entry → Entry → Bool
  gives_here past e = is_by (Caller c) e && gives_ticket e.reply && (length past == n)

  pub given : List Entry → ℕ
  given [] = 0
  given (e ∷ past) = given past + cond (gives_here past e) 1 0

  all_count : (past : List Entry)
      → count_by from_here (waits_ended past c) + count_by here (wait_rows past c) ≡ given past
  unfolding waits_ended wait_rows given
  all_count [] = refl
  all_count (e ∷ past) =
      let more = count_append from_here (waits_ended past c) (option_to_list (wait_ended past e c)) in
      let h = all_count past in
      let step = by (is_by (Caller c) e) refl in
      omega arith
    where
      ended : (o : Option ℕ)
          → count_by from_here (option_to_list (option_and_then
          (λ t. wait_over (wait_rows past c) c (length past) (ticket_row (wait_rows past c) t)) o))
          + count_by here (option_map_or
          (λ t. left_row (wait_rows past c) (ticket_row (wait_rows past c) t)) o (wait_rows past c))
          ≡ count_by here (wait_rows past c)
      ended None = omega arith
      ended (Some t) =
          let k = left_count (ticket_row (wait_rows past c) t) (Some (length past)) (wait_rows past c)
          (ticket_row (wait_rows past c) t) in
          omega arith

      own : (g : Bool) → gives_ticket e.reply ≡ g
          → count_by from_here (option_to_list (option_and_then
          (λ t. wait_over (wait_rows past c) c (length past) (ticket_row (wait_rows past c) t)) (number_done e)))
          + count_by here (if g then begun_in_row (wait_rows past c) (length past) else option_map_or
          (λ t. left_row (wait_rows past c) (ticket_row (wait_rows past c) t)) (number_done e) (wait_rows past c))
          ≡ count_by here (wait_rows past c) + cond (g && (length past == n)) 1 0
      own true is =
          let none : number_done e ≡ None = ap (λ b. if b then end_asked e.call else None) (not_done e.reply is) in
          let begun = begun_count (length past) (wait_rows past c) in
          ap (λ o. count_by from_here (option_to_list (option_and_then
          (λ t. wait_over (wait_rows past c) c (length past) (ticket_row (wait_rows past c) t)) o))
          + count_by here (begun_in_row (wait_rows past c) (length past))) none ∙ omega arith
      own false is = let k = ended (number_done e) in omega arith

      by : (b : Bool) → is_by (Caller c) e ≡ b
          → count_by from_here (option_to_list (if b then option_and_then
          (λ t. wait_over (wait_rows past c) c (length past) (ticket_row (wait_rows past c) t)) (number_done e) else
          None))
          + count_by here (if b then rows_after e (length past) (wait_rows past c) else wait_rows past c)
          ≡ count_by here (wait_rows past c) + cond (b && gives_ticket e.reply && (length past == n)) 1 0
      by true is = own (gives_ticket e.reply) refl
      by false is = omega arith

  -- those left at the end, row after row
  left_waits : (all rows : List (Option ℕ)) (a : ℕ) → ((i : ℕ) → slice_get all (a + i) ≡ slice_get rows i)
      → count_by from_here (flat_map (wait_left all c) (range_with_len a (length rows))) ≡ count_by here rows
  left_waits all [] a same = refl
  left_waits all (r ∷ rows) a same =
      let first : ticket_in_row all a ≡ r =
      ap (λ k. ticket_in_row all k) (let e : a ≡ a + 0 = omega arith in e)
      ∙ ap (λ (o : Option (Option ℕ)). option_and_then (λ k. k) o) (same 0) in
      let more = count_append from_here (wait_left all c a) (flat_map (wait_left all c)
      (range_with_len (a + 1) (length rows))) in
      let one : count_by from_here (wait_left all c a) ≡ cond (is_at r n) 1 0 =
      ap (λ o. count_by from_here (option_to_list (option_map (wait_in c a None) o))) first ∙ ended_count a None r in
      let rest = left_waits all rows (a + 1)
      (λ i. ap (slice_get all) (let e : a + 1 + i ≡ a + suc i = omega arith in e) ∙ same (suc i)) in
      let whole = count_by-cons here r rows in
      omega arith

  pub waits_count : (past : List Entry) → count_by from_here (waits_by past c) ≡ given past
  unfolding waits_by
  waits_count past =
      let more = count_append from_here (waits_ended past c) (waits_left (wait_rows past c) c) in
      let left = left_waits (wait_rows past c) (wait_rows past c) 0
      (λ i. ap (slice_get (wait_rows past c)) (let e : 0 + i ≡ i = omega arith in e)) in
      let all = all_count past in
      omega arith

  -- ---- the entry at this place

  none_given : (past : List Entry) → length past ≤ n → given past ≡ 0
  unfolding given
  none_given [] less = refl
  none_given (e ∷ past) less =
      let earlier = none_given past (omega arith) in
      let other : (length past == n) ≡ false = ne_eqb (length past) n (λ same. absurd (omega arith)) in
      let none : gives_here past e ≡ false =
      ap (λ b. is_by (Caller c) e && gives_ticket e.reply && b) other
      ∙ and_false (is_by (Caller c) e && gives_ticket e.reply) in
      let nought : if_one (gives_here past e) ≡ 0 = ap if_one none in
      omega arith

  given_by : (after : List Entry) (e : Entry) (before : List Entry) → length before ≡ n
      → given (after ++ e ∷ before) ≡ cond (is_by (Caller c) e && gives_ticket e.reply) 1 0
  unfolding given
  given_by [] e before place =
      let none = none_given before (omega arith) in
      let same : gives_here before e ≡ (is_by (Caller c) e && gives_ticket e.reply) =
      ap (λ b. is_by (Caller c) e && gives_ticket e.reply && b) (eq-eqb (length before) n place)
      ∙ and_true (is_by (Caller c) e && gives_ticket e.reply) in
      let one : if_one (gives_here before e) ≡ if_one (is_by (Caller c) e && gives_ticket e.reply) =
      ap if_one same in
      omega arith
  given_by (a ∷ after) e before place =
      let past : List Entry = after ++ e ∷ before in
      let rest = given_by after e before place in
      let long : length (after ++ e ∷ before) ≡ length after + length (e ∷ before) = length-append after (e ∷ before) in
      let other : (length (after ++ e ∷ before) == n) ≡ false =
      ne_eqb (length (after ++ e ∷ before)) n (λ same. absurd (omega arith)) in
      let none : gives_here (after ++ e ∷ before) a ≡ false =
      ap (λ b. is_by (Caller c) a && gives_ticket a.reply && b) other
      ∙ and_false (is_by (Caller c) a && gives_ticket a.reply) in
      let nought : if_one (gives_here (after ++ e ∷ before) a) ≡ 0 = ap if_one none in
      omega arith

  -- ---- the ticket waits in a row until an entry ends it

  left_same : (rows : List (Option ℕ)) (u : ℕ) → (u ≡ n → ⊥)
      → count_by here (slice_set rows (ticket_row rows u) None) ≡ count_by here rows
  unfolding ticket_row
  left_same [] u differs = refl
  left_same (r ∷ rows) u differs = by r (is_at r u) refl (left_same rows u differs)
    where
      by : (r : Option ℕ) (b : Bool) → is_at r u ≡ b
          → count_by here (slice_set rows (ticket_row rows u) None) ≡ count_by here rows
          → count_by here (slice_set (r ∷ rows) (if b then 0 else 1 + ticket_row rows u) None)
          ≡ count_by here (r ∷ rows)
      by None true is earlier = cc
      by (Some m) true is earlier =
          let other : (m == n) ≡ false = ne_eqb m n (λ same. differs (sym (eqb-true m u is) ∙ same)) in
          count_by-cons here None rows ∙ sym (ap (λ b. if_one b + count_by here rows) other)
          ∙ sym (count_by-cons here (Some m) rows)
      by r false is earlier =
          ap (λ k. count_by here (slice_set (r ∷ rows) k None))
          (let one : 1 + ticket_row rows u ≡ suc (ticket_row rows u) = omega arith in one)
          ∙ count_by-cons here r (slice_set rows (ticket_row rows u) None)
          ∙ ap (λ k. if_one (here r) + k) earlier ∙ sym (count_by-cons here r rows)

  left_none : (rows : List (Option ℕ)) → count_by here rows ≤ 1
      → count_by here (slice_set rows (ticket_row rows n) None) ≡ 0
  unfolding ticket_row
  left_none [] few = refl
  left_none (r ∷ rows) few =
      let whole = count_by-cons here r rows in
      by r (is_at r n) refl few (left_none rows (omega arith))
    where
      by : (r : Option ℕ) (b : Bool) → is_at r n ≡ b → count_by here (r ∷ rows) ≤ 1
          → count_by here (slice_set rows (ticket_row rows n) None) ≡ 0
          → count_by here (slice_set (r ∷ rows) (if b then 0 else 1 + ticket_row rows n) None) ≡ 0
      by r true is less earlier =
          let whole = count_by-cons here r rows in
          let one : if_one (here r) ≡ 1 = ap if_one is in
          let head = count_by-cons here None rows in
          omega arith
      by r false is less earlier =
          let none : if_one (here r) ≡ 0 = ap if_one is in
          ap (λ k. count_by here (slice_set (r ∷ rows) k None))
          (let one : 1 + ticket_row rows n ≡ suc (ticket_row rows n) = omega arith in one)
          ∙ count_by-cons here r (slice_set rows (ticket_row rows n) None)
          ∙ omega arith

  -- whether an entry of the caller ends it
  no_end : (a : Entry) → number_done a ≡ None → (is_end_of n a.call && is_done a.reply) ≡ false
  no_end a h = by a.call (is_done a.reply) h
    where
      by : (k : Call) (b : Bool) → (if b then end_asked k else None) ≡ None → (is_end_of n k && b) ≡ false
      by (call.End t) true h = cc
      by k true h = refl
      by k false h = and_false (is_end_of n k)

  an_end : (a : Entry) (u : ℕ) → number_done a ≡ Some u → (is_end_of n a.call && is_done a.reply) ≡ (u == n)
  an_end a u h =
      let k = is_ended a u h in
      ap₂ (λ x y. is_end_of n x && is_done y) k.0 k.1 ∙ and_true (u == n)

  pub rows_then : (after : List Entry) (e : Entry) (before : List Entry) → length before ≡ n → is_by (Caller c) e ≡ true
      → gives_ticket e.reply ≡ true
      → count_by here (wait_rows (after ++ e ∷ before) c) ≡ if_one (not (list_any (ends_wait_of c n) after))
  unfolding wait_rows
  rows_then [] e before place own gives =
      let begun = begun_count (length before) (wait_rows before c) in
      let none = none_given before (omega arith) in
      let all = all_count before in
      let one : if_one (length before == n) ≡ 1 = ap if_one (eq-eqb (length before) n place) in
      ap (λ b. count_by here (if b then rows_after e (length before) (wait_rows before c) else wait_rows before c)) own
      ∙ ap (λ b. count_by here (if b then begun_in_row (wait_rows before c) (length before) else option_map_or
      (λ t. left_row (wait_rows before c) (ticket_row (wait_rows before c) t)) (number_done e) (wait_rows before c)))
      gives ∙ omega arith
  rows_then (a ∷ after) e before place own gives =
      by (rows_then after e before place own gives) (is_by (Caller c) a)
    where
      few : (b : Bool) → if_one b ≤ 1
      few true = omega arith
      few false = omega arith

      ended : count_by here (wait_rows (after ++ e ∷ before) c) ≡ if_one (not (list_any (ends_wait_of c n) after))
          → (o : Option ℕ) → number_done a ≡ o
          → count_by here (option_map_or (λ t. left_row (wait_rows (after ++ e ∷ before) c)
          (ticket_row (wait_rows (after ++ e ∷ before) c) t)) o (wait_rows (after ++ e ∷ before) c))
          ≡ if_one (not ((is_end_of n a.call && is_done a.reply) || list_any (ends_wait_of c n) after))
      ended earlier None done =
          earlier ∙ sym (ap (λ b. if_one (not (b || list_any (ends_wait_of c n) after))) (no_end a done))
      ended earlier (Some u) done =
          ap (count_by here) (left_is (wait_rows (after ++ e ∷ before) c)
          (ticket_row (wait_rows (after ++ e ∷ before) c) u))
          ∙ ⊎_elim
          (λ same. ap (λ k. count_by here (slice_set (wait_rows (after ++ e ∷ before) c)
          (ticket_row (wait_rows (after ++ e ∷ before) c) k) None)) same
          ∙ left_none (wait_rows (after ++ e ∷ before) c)
          (let m = few (not (list_any (ends_wait_of c n) after)) in omega arith)
          ∙ sym (ap (λ b. if_one (not (b || list_any (ends_wait_of c n) after)))
          (an_end a u done ∙ eq-eqb u n same)))
          (λ differs. left_same (wait_rows (after ++ e ∷ before) c) u differs ∙ earlier
          ∙ sym (ap (λ b. if_one (not (b || list_any (ends_wait_of c n) after)))
          (an_end a u done ∙ ne_eqb u n differs)))
          (cases_eq u n)

      own_entry : count_by here (wait_rows (after ++ e ∷ before) c)
          ≡ if_one (not (list_any (ends_wait_of c n) after)) → (g : Bool) → gives_ticket a.reply ≡ g
          → count_by here (if g then begun_in_row (wait_rows (after ++ e ∷ before) c) (length (after ++ e ∷ before))
          else option_map_or (λ t. left_row (wait_rows (after ++ e ∷ before) c)
          (ticket_row (wait_rows (after ++ e ∷ before) c) t)) (number_done a) (wait_rows (after ++ e ∷ before) c))
          ≡ if_one (not ((is_end_of n a.call && is_done a.reply) || list_any (ends_wait_of c n) after))
      own_entry earlier true given =
          let begun = begun_count (length (after ++ e ∷ before)) (wait_rows (after ++ e ∷ before) c) in
          let long : length (after ++ e ∷ before) ≡ length after + length (e ∷ before) =
          length-append after (e ∷ before) in
          let other : if_one (length (after ++ e ∷ before) == n) ≡ 0 =
          ap if_one (ne_eqb (length (after ++ e ∷ before)) n (λ same. absurd (omega arith))) in
          let still : count_by here (begun_in_row (wait_rows (after ++ e ∷ before) c) (length (after ++ e ∷ before)))
          ≡ count_by here (wait_rows (after ++ e ∷ before) c) = omega arith in
          still ∙ earlier
          ∙ sym (ap (λ b. if_one (not ((is_end_of n a.call && b) || list_any (ends_wait_of c n) after)))
          (not_done a.reply given)
          ∙ ap (λ b. if_one (not (b || list_any (ends_wait_of c n) after))) (and_false (is_end_of n a.call)))
      own_entry earlier false given = ended earlier (number_done a) refl

      by : count_by here (wait_rows (after ++ e ∷ before) c) ≡ if_one (not (list_any (ends_wait_of c n) after))
          → (b : Bool)
          → count_by here (if b then rows_after a (length (after ++ e ∷ before)) (wait_rows (after ++ e ∷ before) c)
          else wait_rows (after ++ e ∷ before) c)
          ≡ if_one (not ((b && is_end_of n a.call && is_done a.reply) || list_any (ends_wait_of c n) after))
      by earlier true = own_entry earlier (gives_ticket a.reply) refl
      by earlier false = earlier

  ended_some : (past : List Entry) → AllByRecursion (λ (x : CallerWait). is_some x.to ≡ true) (waits_ended past c)
  unfolding waits_ended
  ended_some [] = tt
  ended_some (e ∷ past) =
      All_append (λ (x : CallerWait). is_some x.to ≡ true) (waits_ended past c) (option_to_list (wait_ended past e c))
      (ended_some past) (by (is_by (Caller c) e) (number_done e))
    where
      over : (row : ℕ) (o : Option ℕ) → AllByRecursion (λ (x : CallerWait). is_some x.to ≡ true)
          (option_to_list (option_map (wait_in c row (Some (length past))) o))
      over row None = tt
      over row (Some t) = (refl, tt)

      by : (b : Bool) (o : Option ℕ) → AllByRecursion (λ (x : CallerWait). is_some x.to ≡ true)
          (option_to_list (if b then option_and_then
          (λ t. wait_over (wait_rows past c) c (length past) (ticket_row (wait_rows past c) t)) o else None))
      by true None = tt
      by true (Some t) =
          over (ticket_row (wait_rows past c) t) (ticket_in_row (wait_rows past c) (ticket_row (wait_rows past c) t))
      by false o = tt

  -- a wait without an end is of a ticket that none of the later entries ended
  pub goes_on : (after : List Entry) (e : Entry) (before : List Entry) (x : CallerWait) → length before ≡ n
      → is_by (Caller c) e ≡ true → gives_ticket e.reply ≡ true
      → filter from_here (waits_by (after ++ e ∷ before) c) ≡ x ∷ [] → x.to ≡ None
      → list_any (ends_wait_of c n) after ≡ false
  unfolding waits_by
  goes_on after e before x place own gives alone lasts = by (list_any (ends_wait_of c n) after) refl
    where
      none_left : list_any (ends_wait_of c n) after ≡ true
          → filter from_here (waits_left (wait_rows (after ++ e ∷ before) c) c) ≡ []
      none_left h =
          none_of_none from_here (waits_left (wait_rows (after ++ e ∷ before) c) c)
          (left_waits (wait_rows (after ++ e ∷ before) c) (wait_rows (after ++ e ∷ before) c) 0
          (λ i. ap (slice_get (wait_rows (after ++ e ∷ before) c)) (let z : 0 + i ≡ i = omega arith in z))
          ∙ rows_then after e before place own gives ∙ ap (λ b. if_one (not b)) h)

      by : (b : Bool) → list_any (ends_wait_of c n) after ≡ b → b ≡ false
      by false h = refl
      by true h =
          let ended : filter from_here (waits_ended (after ++ e ∷ before) c) ≡ x ∷ [] =
          sym (ap (λ l. filter from_here (waits_ended (after ++ e ∷ before) c) ++ l) (none_left h)
          ∙ append-nil (filter from_here (waits_ended (after ++ e ∷ before) c)))
          ∙ sym (filter-append from_here (waits_ended (after ++ e ∷ before) c)
          (waits_left (wait_rows (after ++ e ∷ before) c) c)) ∙ alone in
          let i = in_filter from_here (waits_ended (after ++ e ∷ before) c) x
          (subst (λ l. In x l) (sym ended) (inl refl)) in
          let some : is_some x.to ≡ true =
          of_in (λ (y : CallerWait). is_some y.to ≡ true) (waits_ended (after ++ e ∷ before) c) x
          (ended_some (after ++ e ∷ before)) i.0 in
          let clash : true ≡ false = sym some ∙ ap is_some lasts in
          cc

-- ---- of all callers one made the entry

of_callers : {X : Type 0} (test : X → Bool) (f : CallerId → List X) (has : CallerId → Bool) (is : List ℕ)
    → filter test (flat_map f (filter has (map caller_of_number is)))
    ≡ flat_map (λ i. if has (caller_of_number i) then filter test (f (caller_of_number i)) else []) is
of_callers test f has [] = refl
of_callers test f has (i ∷ is) = by (of_callers test f has is) (has (caller_of_number i))
  where
    by : filter test (flat_map f (filter has (map caller_of_number is)))
        ≡ flat_map (λ j. if has (caller_of_number j) then filter test (f (caller_of_number j)) else []) is
        → (b : Bool) → filter test (flat_map f (cond b (caller_of_number i ∷ filter has (map caller_of_number is))
        (filter has (map caller_of_number is))))
        ≡ (if b then filter test (f (caller_of_number i)) else [])
        ++ flat_map (λ j. if has (caller_of_number j) then filter test (f (caller_of_number j)) else []) is
    by rest true =
        filter-append test (f (caller_of_number i)) (flat_map f (filter has (map caller_of_number is)))
        ∙ ap (λ l. filter test (f (caller_of_number i)) ++ l) rest
    by rest false = rest

pub same_flat : {X : Type 0} (f g : ℕ → List X) (is : List ℕ) → ((i : ℕ) → f i ≡ g i) → flat_map f is ≡ flat_map g is
same_flat f g [] same = refl
same_flat f g (i ∷ is) same = ap₂ (λ k l. k ++ l) (same i) (same_flat f g is same)

-- an entry of the past of a list is one of the list
pub entry_listed : (entries : List Entry) (e : Entry) (before : List Entry) → StandsIn (past_of entries) e before
    → In e entries
entry_listed entries e before stands =
    let back : entries ≡ reverse (stands.after ++ e ∷ before) =
    sym (reverse-reverse entries) ∙ ap reverse stands.parts in
    let parts : reverse (stands.after ++ e ∷ before) ≡ reverse (e ∷ before) ++ reverse stands.after =
    reverse-append stands.after (e ∷ before) in
    let split : reverse (e ∷ before) ≡ reverse before ++ reverse (e ∷ []) = reverse-append (e ∷ []) before in
    subst (λ l. In e l) (sym (back ∙ parts))
    (in_left (reverse (e ∷ before)) (reverse stands.after) e
    (subst (λ l. In e l) (sym split) (in_right (reverse before) (reverse (e ∷ [])) e (inl refl))))

module _ (s : Layout) (entries : List Entry) (e : Entry) (before : List Entry) (c : CallerId)
    (stands : StandsIn (past_of entries) e before) (by_caller : e.who ≡ Caller c) (there : c.0 < s.callers) where
  is_by_number : (d : CallerId) → is_by (Caller d) e ≡ (c.0 == d.0)
  is_by_number d = ap (λ x. same_who x (Caller d)) by_caller

  pub is_by_itself : is_by (Caller c) e ≡ true
  is_by_itself = is_by_number c ∙ eq-eqb c.0 c.0 refl

  pub is_by_none : (d : CallerId) → (d.0 ≡ c.0 → ⊥) → is_by (Caller d) e ≡ false
  is_by_none d differs = is_by_number d ∙ ne_eqb c.0 d.0 (λ same. differs (sym same))

  entry_there : In e entries
  entry_there = entry_listed entries e before stands

  has_it : has_calls entries c ≡ true
  has_it = any_in (is_by (Caller c)) entries e entry_there is_by_itself

  -- what none of the other callers has is what this one has of it
  pub of_caller : {X : Type 0} (test : X → Bool) (f : CallerId → List X)
      → ((d : CallerId) → (d.0 ≡ c.0 → ⊥) → filter test (f d) ≡ [])
      → filter test (flat_map f (callers_of s entries)) ≡ filter test (f c)
  unfolding callers_of
  of_caller test f none =
      of_callers test f (has_calls entries) (range_with_len 0 s.callers)
      ∙ same_flat (λ i. if has_calls entries (caller_of_number i) then filter test (f (caller_of_number i)) else [])
      (only c.0 (λ i. filter test (f (caller_of_number i)))) (range_with_len 0 s.callers)
      (λ i. ⊎_elim (here i) (other i) (cases_eq i c.0))
      ∙ picked c.0 (λ i. filter test (f (caller_of_number i))) 0 s.callers (omega arith) (omega arith)
    where
      here : (i : ℕ) → i ≡ c.0
          → (if has_calls entries (caller_of_number i) then filter test (f (caller_of_number i)) else [])
          ≡ only c.0 (λ i. filter test (f (caller_of_number i))) i
      here i same =
          ap (λ b. if b then filter test (f (caller_of_number i)) else [])
          (ap (λ k. has_calls entries (caller_of_number k)) same ∙ has_it)
          ∙ sym (ap (λ b. if b then filter test (f (caller_of_number i)) else []) (eq-eqb i c.0 same))

      other : (i : ℕ) → (i ≡ c.0 → ⊥)
          → (if has_calls entries (caller_of_number i) then filter test (f (caller_of_number i)) else [])
          ≡ only c.0 (λ i. filter test (f (caller_of_number i))) i
      other i differs =
          ap (λ l. if has_calls entries (caller_of_number i) then l else []) (none (caller_of_number i) differs)
          ∙ same_if (has_calls entries (caller_of_number i)) []
          ∙ sym (ap (λ b. if b then filter test (f (caller_of_number i)) else []) (ne_eqb i c.0 differs))

  module _ (gives : gives_ticket e.reply ≡ true) where
    abbrev its : CallerWait → Bool
    its x = x.from == length before

    own_count : (d : CallerId)
        → count_by its (waits_by (past_of entries) d) ≡ if_one (is_by (Caller d) e && gives_ticket e.reply)
    own_count d =
        waits_count d (length before) (past_of entries) ∙ ap (given d (length before)) stands.parts
        ∙ given_by d (length before) stands.after e before refl

    pub waits_alone : filter its (caller_waits_of (past_of entries) (callers_of s entries))
        ≡ filter its (waits_by (past_of entries) c)
    waits_alone =
        of_caller its (waits_by (past_of entries))
        (λ d differs. none_of_none its (waits_by (past_of entries) d)
        (own_count d ∙ ap (λ b. if_one (b && gives_ticket e.reply)) (is_by_none d differs)))

    pub counts_one : count_by its (waits_by (past_of entries) c) ≡ 1
    counts_one = own_count c ∙ ap₂ (λ a b. if_one (a && b)) is_by_itself gives
