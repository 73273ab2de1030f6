-- The rows of a page's entries tell the history.
use Rattle.std.proofs.Common.{◌≡◌, ℕ, zero, suc, ◌+◌, ◌*◌, ◌^◌, ◌<◌, ◌≤◌, ◌==◌, ◌||◌, ◌&&◌, ◌⊎◌, Bool, true, false}
use Rattle.std.proofs.Common.{List, [], ◌∷◌, ◌++◌, length, flat_map, get_or, refl, sym, ap, ap₂, ◌∙◌, subst, arith, inl}
use Rattle.std.proofs.Common.{inr, ⊎_elim, append_assoc, append-nil, reverse}
use Rattle.std.proofs.lemmas.Bool.Decides.{nat_tests}
use Rattle.std.specs.Prelude.{codes, decimal, if◌then◌else◌, nat_le, slice_index_or}
use Rattle.std.specs.List.{AllByRecursion}
use Rattle.std.proofs.Math.Nat.{eq-or-lt_of_le}
use Rattle.std.proofs.lemmas.Bool.{and_parts, cases_lt}
use Rattle.std.proofs.lemmas.Grind.{same_number_lists}
use Rattle.std.proofs.lemmas.Fmt.{decimal_injective, digits_decimal}
use Rattle.std.proofs.lemmas.List.{append_cancel_left, reverse-append}
use Rattle.std.proofs.lemmas.List.Concat.{flat_map-cons}
use Rattle.std.proofs.lemmas.Simd.{Each1-from_get_or}
use Rattle.std.proofs.lemmas.Str.Parse.{not_in_digits}
use Rattle.cmwq_model.specs.declared.call.Call.{Call}
use Rattle.cmwq_model.specs.declared.call.Call.TheVariants as call
use Rattle.cmwq_model.specs.declared.entry.Entry.{Entry}
use Rattle.cmwq_model.specs.declared.id.WorkerId.{WorkerId}
use Rattle.cmwq_model.specs.declared.id.Who.{Who}
use Rattle.cmwq_model.specs.declared.id.Who.TheVariants.{Caller, Worker}
use Rattle.cmwq_model.specs.Legal.{IsLegal}
use Rattle.cmwq_model.specs.Prelude.{Layout, entry_for, fits, is_layout, may_make, past_of}
use Rattle.cmwq_model.specs.Ranges.{IsCall, greatest_long}
use Rattle.cmwq_model.proofs.Growing.{older_are_legal}
use Rattle.cmwq_kinds.specs.Numbers.{numbers_of_call, numbers_of_place, numbers_of_reply, with_one}
use Rattle.cmwq_kinds.proofs.Apart.{calls_stand_apart}
use Rattle.cmwq_text.proofs.NumberLaws.{own}
use Rattle.cmwq_chart_text.specs.Filled.{filled_from, filled_template}
use Rattle.cmwq_page.specs.Entries.{call_template, entries_text, entry_text, reply_template}
use Rattle.cmwq_page.specs.Rows.{who_number, worker_number}
use Rattle.cmwq_chart_laws.specs.PageRows.{AreInRange, RowsTellHistories}

-- ---- cells: numbers, each with a space or a line feed after it

abbrev separator : Bool → ℕ
separator true = 10
separator false = 32

IsInside : ℕ → Type 0
IsInside x = (x ≡ 32 → ⊥) × (x ≡ 10 → ⊥)

no_separator : (x : ℕ) (b : Bool) → IsInside x → x ≡ separator b → ⊥
unfolding IsInside
no_separator x true h e = h.1 e
no_separator x false h e = h.0 e

split : (xs ys : List ℕ) (a b : Bool) (r t : List ℕ) → AllByRecursion IsInside xs → AllByRecursion IsInside ys
    → xs ++ separator a ∷ r ≡ ys ++ separator b ∷ t → (xs ≡ ys) × (r ≡ t)
split [] [] a b r t in_xs in_ys e = (refl, (let tail : r ≡ t = cc in tail))
split [] (y ∷ ys) a b r t in_xs in_ys e =
    let head : y ≡ separator a = cc in
    absurd (no_separator y a in_ys.0 head)
split (x ∷ xs) [] a b r t in_xs in_ys e =
    let head : x ≡ separator b = cc in
    absurd (no_separator x b in_xs.0 head)
split (x ∷ xs) (y ∷ ys) a b r t in_xs in_ys e =
    let head : x ≡ y = cc in
    let tail : xs ++ separator a ∷ r ≡ ys ++ separator b ∷ t = cc in
    let k = split xs ys a b r t in_xs.1 in_ys.1 tail in
    (ap₂ (λ z zs. z ∷ zs) head k.0, k.1)

decimals_inside : (n : ℕ) → n ≤ greatest_long → AllByRecursion IsInside (decimal n)
unfolding IsInside
decimals_inside n within =
    let less : n < 2 ^ 64 = omega arith in
    let digits = digits_decimal own n less in
    Each1-from_get_or IsInside (decimal n) 0 (λ i there. (
      not_in_digits own (decimal n) 32 digits (λ r. absurd (omega (arith, r))) i there,
      not_in_digits own (decimal n) 10 digits (λ r. absurd (omega (arith, r))) i there,
    ))

same_cell : (n m : ℕ) (a b : Bool) (r t : List ℕ) → n ≤ greatest_long → m ≤ greatest_long
    → decimal n ++ separator a ∷ r ≡ decimal m ++ separator b ∷ t → (n ≡ m) × (r ≡ t)
same_cell n m a b r t le_n le_m e =
    let k = split (decimal n) (decimal m) a b r t (decimals_inside n le_n) (decimals_inside m le_m) e in
    (decimal_injective n m (omega arith) (omega arith) k.0, k.1)

-- ---- a template without plain words, of these separators

row : List Bool → List ℕ
row [] = []
row (b ∷ bs) = 36 ∷ separator b ∷ row bs

cells : List Bool → List ℕ → ℕ → List ℕ → List ℕ
cells [] ns k rest = rest
cells (b ∷ bs) ns k rest = decimal (slice_index_or ns k 0) ++ separator b ∷ cells bs ns (k + 1) rest

filled : (bs : List Bool) (ns : List ℕ) (k : ℕ) (rest : List ℕ) → filled_from (row bs) ns k ++ rest ≡ cells bs ns k rest
unfolding filled_from row cells
filled [] ns k rest = refl
filled (true ∷ bs) ns k rest =
    append_assoc (decimal (slice_index_or ns k 0)) (10 ∷ filled_from (row bs) ns (k + 1 + 0)) rest
    ∙ ap (λ j. decimal (slice_index_or ns k 0) ++ 10 ∷ (filled_from (row bs) ns j ++ rest))
    (let same : k + 1 + 0 ≡ k + 1 = omega arith in same)
    ∙ ap (λ l. decimal (slice_index_or ns k 0) ++ 10 ∷ l) (filled bs ns (k + 1) rest)
filled (false ∷ bs) ns k rest =
    append_assoc (decimal (slice_index_or ns k 0)) (32 ∷ filled_from (row bs) ns (k + 1 + 0)) rest
    ∙ ap (λ j. decimal (slice_index_or ns k 0) ++ 32 ∷ (filled_from (row bs) ns j ++ rest))
    (let same : k + 1 + 0 ≡ k + 1 = omega arith in same)
    ∙ ap (λ l. decimal (slice_index_or ns k 0) ++ 32 ∷ l) (filled bs ns (k + 1) rest)

Within : List ℕ → Type 0
Within ns = (i : ℕ) → slice_index_or ns i 0 ≤ greatest_long

SameFrom : ℕ → ℕ → List ℕ → List ℕ → Type 0
SameFrom k n ns ms = (i : ℕ) → k ≤ i → i < k + n → slice_index_or ns i 0 ≡ slice_index_or ms i 0

cells_same : (bs : List Bool) (ns ms : List ℕ) (k : ℕ) (r t : List ℕ) → Within ns → Within ms
    → cells bs ns k r ≡ cells bs ms k t → SameFrom k (length bs) ns ms × (r ≡ t)
unfolding cells Within SameFrom
cells_same [] ns ms k r t in_ns in_ms e = (λ i from less. absurd (omega arith), e)
cells_same (b ∷ bs) ns ms k r t in_ns in_ms e =
    let first = same_cell (slice_index_or ns k 0) (slice_index_or ms k 0) b b (cells bs ns (k + 1) r)
    (cells bs ms (k + 1) t) (in_ns k) (in_ms k) e in
    let rest = cells_same bs ns ms (k + 1) r t in_ns in_ms first.1 in (
      λ i from less. ⊎_elim
          (λ (here : k ≡ i). ap (λ j. slice_index_or ns j 0) (sym here) ∙ first.0
          ∙ ap (λ j. slice_index_or ms j 0) here)
          (λ (later : k < i). rest.0 i (omega arith) (omega arith)) (eq-or-lt_of_le from),
      rest.1,
    )

-- ---- the numbers of calls

abbrev kind : Call → ℕ
kind c = slice_index_or (numbers_of_call c) 0 0

-- how many cells come after those of who made it and of the kind
rest_cells : ℕ → List Bool
rest_cells k =
    if k == 0 then false ∷ false ∷ false ∷ []
    else if k == 1 || k == 2 then false ∷ false ∷ false ∷ false ∷ []
    else if k == 17 then false ∷ false ∷ []
    else if k == 5 || (nat_le 12 k && nat_le k 16) || k == 18 || k == 19 then []
    else false ∷ []

call_row : (c : Call) → call_template c ≡ row (false ∷ false ∷ rest_cells (kind c))
unfolding numbers_of_call row rest_cells
call_row (call.Queue i q c) = refl
call_row (call.Delay i q c t) = refl
call_row (call.Modify i q c t) = refl
call_row (call.Cancel i) = refl
call_row (call.Tick t) = refl
call_row call.Fire = refl
call_row (call.Flush q) = refl
call_row (call.Drain q) = refl
call_row (call.FlushItem i) = refl
call_row (call.FlushDelayed i) = refl
call_row (call.CancelSync i) = refl
call_row (call.End t) = refl
call_row call.Take = refl
call_row call.Finish = refl
call_row call.Sleep = refl
call_row call.Wake = refl
call_row call.Retire = refl
call_row (call.SetMax q n) = refl
call_row call.Freeze = refl
call_row call.Thaw = refl
call_row (call.Destroy q) = refl

zeros : ℕ → List ℕ
zeros zero = []
zeros (suc n) = 0 ∷ zeros n

in_zeros : (n i : ℕ) → slice_index_or (zeros n) i 0 ≡ 0
unfolding zeros
in_zeros zero i = refl
in_zeros (suc n) zero = refl
in_zeros (suc n) (suc i) = in_zeros n i

after_one : (k i : ℕ) → 1 ≤ i → slice_index_or (with_one k 0) i 0 ≡ 0
unfolding zeros
after_one k zero h = absurd (omega arith)
after_one k (suc i) h = in_zeros 4 i

after_two : (k n i : ℕ) → 2 ≤ i → slice_index_or (with_one k n) i 0 ≡ 0
unfolding zeros
after_two k n zero h = absurd (omega arith)
after_two k n (suc zero) h = absurd (omega arith)
after_two k n (suc (suc i)) h = in_zeros 3 i

after_three : (k n m i : ℕ) → 3 ≤ i → slice_index_or (numbers_of_place k n m 0 0) i 0 ≡ 0
unfolding zeros
after_three k n m zero h = absurd (omega arith)
after_three k n m (suc zero) h = absurd (omega arith)
after_three k n m (suc (suc zero)) h = absurd (omega arith)
after_three k n m (suc (suc (suc i))) h = in_zeros 2 i

after_four : (k n m p i : ℕ) → 4 ≤ i → slice_index_or (numbers_of_place k n m p 0) i 0 ≡ 0
unfolding zeros
after_four k n m p zero h = absurd (omega arith)
after_four k n m p (suc zero) h = absurd (omega arith)
after_four k n m p (suc (suc zero)) h = absurd (omega arith)
after_four k n m p (suc (suc (suc zero))) h = absurd (omega arith)
after_four k n m p (suc (suc (suc (suc i)))) h = in_zeros 1 i

after_five : (k n m p t i : ℕ) → 5 ≤ i → slice_index_or (numbers_of_place k n m p t) i 0 ≡ 0
after_five k n m p t zero h = absurd (omega arith)
after_five k n m p t (suc zero) h = absurd (omega arith)
after_five k n m p t (suc (suc zero)) h = absurd (omega arith)
after_five k n m p t (suc (suc (suc zero))) h = absurd (omega arith)
after_five k n m p t (suc (suc (suc (suc zero)))) h = absurd (omega arith)
after_five k n m p t (suc (suc (suc (suc (suc i))))) h = refl

-- the others are 0
beyond : (c : Call) (i : ℕ) → 1 + length (rest_cells (kind c)) ≤ i → slice_index_or (numbers_of_call c) i 0 ≡ 0
unfolding numbers_of_call rest_cells
beyond (call.Queue x q c) i h = after_four 0 x.0 q.0 c.0 i h
beyond (call.Delay x q c t) i h = after_five 1 x.0 q.0 c.0 t i h
beyond (call.Modify x q c t) i h = after_five 2 x.0 q.0 c.0 t i h
beyond (call.Cancel x) i h = after_two 3 x.0 i h
beyond (call.Tick t) i h = after_two 4 t i h
beyond call.Fire i h = after_one 5 i h
beyond (call.Flush q) i h = after_two 6 q.0 i h
beyond (call.Drain q) i h = after_two 7 q.0 i h
beyond (call.FlushItem x) i h = after_two 8 x.0 i h
beyond (call.FlushDelayed x) i h = after_two 9 x.0 i h
beyond (call.CancelSync x) i h = after_two 10 x.0 i h
beyond (call.End t) i h = after_two 11 t i h
beyond call.Take i h = after_one 12 i h
beyond call.Finish i h = after_one 13 i h
beyond call.Sleep i h = after_one 14 i h
beyond call.Wake i h = after_one 15 i h
beyond call.Retire i h = after_one 16 i h
beyond (call.SetMax q n) i h = after_three 17 q.0 n i h
beyond call.Freeze i h = after_one 18 i h
beyond call.Thaw i h = after_one 19 i h
beyond (call.Destroy q) i h = after_two 20 q.0 i h

five_within : (k n m p t : ℕ) → k ≤ 20 → n ≤ greatest_long → m ≤ greatest_long → p ≤ greatest_long
    → t ≤ greatest_long → Within (numbers_of_place k n m p t)
unfolding Within
five_within k n m p t a b c d e zero = omega arith
five_within k n m p t a b c d e (suc zero) = b
five_within k n m p t a b c d e (suc (suc zero)) = c
five_within k n m p t a b c d e (suc (suc (suc zero))) = d
five_within k n m p t a b c d e (suc (suc (suc (suc zero)))) = e
five_within k n m p t a b c d e (suc (suc (suc (suc (suc i))))) = omega arith

one_within : (k n : ℕ) → k ≤ 20 → n ≤ greatest_long → Within (with_one k n)
one_within k n a b = five_within k n 0 0 0 a b (omega arith) (omega arith) (omega arith)

within : (c : Call) → IsCall greatest_long c → Within (numbers_of_call c)
unfolding numbers_of_call
within (call.Queue x q c) h =
    five_within 0 x.0 q.0 c.0 0 (omega arith) (let a = h.0 in omega arith) (let a = h.1 in omega arith)
    (let a = h.2 in omega arith) (omega arith)
within (call.Delay x q c t) h =
    five_within 1 x.0 q.0 c.0 t (omega arith) (let a = h.0.0 in omega arith) (let a = h.0.1 in omega arith)
    (let a = h.0.2 in omega arith) (let a = h.1 in omega arith)
within (call.Modify x q c t) h =
    five_within 2 x.0 q.0 c.0 t (omega arith) (let a = h.0.0 in omega arith) (let a = h.0.1 in omega arith)
    (let a = h.0.2 in omega arith) (let a = h.1 in omega arith)
within (call.Cancel x) h = one_within 3 x.0 (omega arith) (omega arith)
within (call.Tick t) h = one_within 4 t (omega arith) (omega arith)
within call.Fire h = one_within 5 0 (omega arith) (omega arith)
within (call.Flush q) h = one_within 6 q.0 (omega arith) (omega arith)
within (call.Drain q) h = one_within 7 q.0 (omega arith) (omega arith)
within (call.FlushItem x) h = one_within 8 x.0 (omega arith) (omega arith)
within (call.FlushDelayed x) h = one_within 9 x.0 (omega arith) (omega arith)
within (call.CancelSync x) h = one_within 10 x.0 (omega arith) (omega arith)
within (call.End t) h = one_within 11 t (omega arith) h
within call.Take h = one_within 12 0 (omega arith) (omega arith)
within call.Finish h = one_within 13 0 (omega arith) (omega arith)
within call.Sleep h = one_within 14 0 (omega arith) (omega arith)
within call.Wake h = one_within 15 0 (omega arith) (omega arith)
within call.Retire h = one_within 16 0 (omega arith) (omega arith)
within (call.SetMax q n) h =
    five_within 17 q.0 n 0 0 (omega arith) (let a = h.0 in omega arith) (let a = h.1 in omega arith) (omega arith)
    (omega arith)
within call.Freeze h = one_within 18 0 (omega arith) (omega arith)
within call.Thaw h = one_within 19 0 (omega arith) (omega arith)
within (call.Destroy q) h = one_within 20 q.0 (omega arith) (omega arith)

are_five : (c : Call) → length (numbers_of_call c) ≡ 5
unfolding numbers_of_call
are_five (call.Queue x q c) = refl
are_five (call.Delay x q c t) = refl
are_five (call.Modify x q c t) = refl
are_five (call.Cancel x) = refl
are_five (call.Tick t) = refl
are_five call.Fire = refl
are_five (call.Flush q) = refl
are_five (call.Drain q) = refl
are_five (call.FlushItem x) = refl
are_five (call.FlushDelayed x) = refl
are_five (call.CancelSync x) = refl
are_five (call.End t) = refl
are_five call.Take = refl
are_five call.Finish = refl
are_five call.Sleep = refl
are_five call.Wake = refl
are_five call.Retire = refl
are_five (call.SetMax q n) = refl
are_five call.Freeze = refl
are_five call.Thaw = refl
are_five (call.Destroy q) = refl

-- ---- who

callers_few : (s : Layout) (n : ℕ) → is_layout s ≡ true → n < s.callers → n ≤ 255
callers_few s n layout less = grind (arith, nat_tests)

workers_few : (s : Layout) (x : ℕ) → is_layout s ≡ true → x < s.workers → x < 64
workers_few s x layout less = grind (arith, nat_tests)

cpus_few : (s : Layout) (c : ℕ) → is_layout s ≡ true → c < s.cpus → c < 64
cpus_few s c layout less = grind (arith, nat_tests)

abbrev if_high : Bool → ℕ
if_high b = if b then 64 else 0

workers_apart : (v w : WorkerId) (h k : Bool) → v.pool.high ≡ h → w.pool.high ≡ k → v.index < 64 → w.index < 64
    → worker_number v ≡ worker_number w → (v.pool.cpu.0 ≡ w.pool.cpu.0) × (h ≡ k) × (v.index ≡ w.index)
workers_apart v w true true eh ek iv iw e =
    let hv : if_high v.pool.high ≡ 64 = ap if_high eh in
    let hw : if_high w.pool.high ≡ 64 = ap if_high ek in
    (omega arith, refl, omega arith)
workers_apart v w false false eh ek iv iw e =
    let hv : if_high v.pool.high ≡ 0 = ap if_high eh in
    let hw : if_high w.pool.high ≡ 0 = ap if_high ek in
    (omega arith, refl, omega arith)
workers_apart v w true false eh ek iv iw e =
    let hv : if_high v.pool.high ≡ 64 = ap if_high eh in
    let hw : if_high w.pool.high ≡ 0 = ap if_high ek in
    absurd (omega arith)
workers_apart v w false true eh ek iv iw e =
    let hv : if_high v.pool.high ≡ 0 = ap if_high eh in
    let hw : if_high w.pool.high ≡ 64 = ap if_high ek in
    absurd (omega arith)

who_is : (s : Layout) (a b : Who) (c d : Call) → is_layout s ≡ true → may_make s a c ≡ true → may_make s b d ≡ true
    → who_number a ≡ who_number b → a ≡ b
who_is s (Caller a) (Caller b) c d layout ma mb e = λ j. Caller (record { 0 = e j })
who_is s (Caller a) (Worker w) c d layout ma mb e =
    let few = callers_few s a.0 layout (grind (arith, nat_tests)) in
    absurd (omega arith)
who_is s (Worker w) (Caller b) c d layout ma mb e =
    let few = callers_few s b.0 layout (grind (arith, nat_tests)) in
    absurd (omega arith)
who_is s (Worker v) (Worker w) c d layout ma mb e =
    let fv = workers_few s v.index layout (grind (arith, nat_tests)) in
    let fw = workers_few s w.index layout (grind (arith, nat_tests)) in
    let k = workers_apart v w v.pool.high w.pool.high refl refl fv fw e in
    let cpu = k.0 in
    let high = k.1 in
    let index = k.2 in
    λ j. Worker (record { pool = record { cpu = record { 0 = cpu j }; high = high j }; index = index j })

who_within : (s : Layout) (a : Who) (c : Call) → is_layout s ≡ true → may_make s a c ≡ true
    → who_number a ≤ greatest_long
who_within s (Caller a) c layout ma =
    let few = callers_few s a.0 layout (grind (arith, nat_tests)) in
    omega arith
who_within s (Worker w) c layout ma =
    let few = workers_few s w.index layout (grind (arith, nat_tests)) in
    let cpus = cpus_few s w.pool.cpu.0 layout (grind (arith, nat_tests)) in
    let high = at_most w.pool.high in
    omega arith
  where
    at_most : (b : Bool) → if_high b ≤ 64
    at_most true = omega arith
    at_most false = omega arith

-- ---- rows

module _ (s : Layout) (layout : is_layout s ≡ true) where
  numbers : Entry → List ℕ
  numbers e = who_number e.who ∷ numbers_of_call e.call

  -- what comes after the first part of a row
  last_part : Entry → List ℕ → List ℕ
  last_part e rest = filled_template (reply_template e.reply) (numbers_of_reply e.reply) ++ rest

  as_cells : (e : Entry) (rest : List ℕ)
      → entry_text e ++ rest ≡ cells (false ∷ false ∷ rest_cells (kind e.call)) (numbers e) 0 (last_part e rest)
  unfolding entry_text numbers last_part
  as_cells e rest =
      append_assoc (filled_template (call_template e.call) (who_number e.who ∷ numbers_of_call e.call))
      (filled_template (reply_template e.reply) (numbers_of_reply e.reply)) rest
      ∙ ap (λ l. filled_template l (who_number e.who ∷ numbers_of_call e.call)
      ++ (filled_template (reply_template e.reply) (numbers_of_reply e.reply) ++ rest)) (call_row e.call)
      ∙ filled (false ∷ false ∷ rest_cells (kind e.call)) (who_number e.who ∷ numbers_of_call e.call) 0
      (filled_template (reply_template e.reply) (numbers_of_reply e.reply) ++ rest)

  record IsSameCall (e f : Entry) (rest more : List ℕ) : Type 0 where
    who : e.who ≡ f.who
    call : e.call ≡ f.call
    after : last_part e rest ≡ last_part f more

  same_call : (e f : Entry) (rest more : List ℕ) → fits s e.who e.call ≡ true → fits s f.who f.call ≡ true
      → IsCall greatest_long e.call → IsCall greatest_long f.call → entry_text e ++ rest ≡ entry_text f ++ more
      → IsSameCall e f rest more
  unfolding cells numbers Within SameFrom
  same_call e f rest more fe ff ie if_ same =
      let c = e.call in
      let d = f.call in
      let we = within c ie in
      let wf = within d if_ in
      let me : may_make s e.who c ≡ true = (and_parts (may_make s e.who c) _ fe).0 in
      let mf : may_make s f.who d ≡ true = (and_parts (may_make s f.who d) _ ff).0 in
      let all = sym (as_cells e rest) ∙ same ∙ as_cells f more in
      let one = same_cell (who_number e.who) (who_number f.who) false false
      (cells (false ∷ rest_cells (kind c)) (numbers e) 1 (last_part e rest))
      (cells (false ∷ rest_cells (kind d)) (numbers f) 1 (last_part f more))
      (who_within s e.who c layout me) (who_within s f.who d layout mf) all in
      let two = same_cell (kind c) (kind d) false false
      (cells (rest_cells (kind c)) (numbers e) 2 (last_part e rest))
      (cells (rest_cells (kind d)) (numbers f) 2 (last_part f more)) (we 0) (wf 0) one.1 in
      let alike = two.1 ∙ ap (λ k. cells (rest_cells k) (numbers f) 2 (last_part f more)) (sym two.0) in
      let others = cells_same (rest_cells (kind c)) (numbers e) (numbers f) 2 (last_part e rest) (last_part f more)
      (bounded e (who_within s e.who c layout me) we) (bounded f (who_within s f.who d layout mf) wf) alike in
      record {
        who = who_is s e.who f.who c d layout me mf one.0;
        call = calls_stand_apart c d (same_number_lists (numbers_of_call c) (numbers_of_call d)
            (are_five c ∙ sym (are_five d))
            (λ i _. each c d two.0 (length (rest_cells (kind c))) refl others.0 i));
        after = others.1;
      }
    where
      bounded : (a : Entry) → who_number a.who ≤ greatest_long → Within (numbers_of_call a.call) → Within (numbers a)
      bounded a w h zero = w
      bounded a w h (suc i) = h i

      each : (c d : Call) → kind c ≡ kind d → (n : ℕ) → length (rest_cells (kind c)) ≡ n
          → SameFrom 2 n (who_number e.who ∷ numbers_of_call c) (who_number f.who ∷ numbers_of_call d)
          → (i : ℕ) → slice_index_or (numbers_of_call c) i 0 ≡ slice_index_or (numbers_of_call d) i 0
      each c d kinds n long others zero = kinds
      each c d kinds n long others (suc i) = ⊎_elim
          (λ (less : suc (suc i) < 2 + n). others (suc (suc i)) (omega arith) less)
          (λ (more : 2 + n ≤ suc (suc i)). beyond c (suc i) (omega arith)
          ∙ sym (beyond d (suc i)
          (let same : length (rest_cells (kind d)) ≡ n = ap (λ k. length (rest_cells k)) (sym kinds) ∙ long in
          omega arith)))
          (cases_lt (suc (suc i)) (2 + n))

  -- ---- entry after entry, from the oldest on

  oldest_first : (e : Entry) (es past : List Entry) → past_of (e ∷ es) ++ past ≡ past_of es ++ e ∷ past
  oldest_first e es past =
      ap (λ l. l ++ past) (reverse-append (e ∷ []) es) ∙ append_assoc (reverse es) (e ∷ []) past

  no_row : (e : Entry) (rest : List ℕ) → [] ≡ entry_text e ++ rest → ⊥
  unfolding cells
  no_row e rest h =
      let all = h ∙ as_cells e rest in
      none (decimal (slice_index_or (numbers e) 0 0)) 32 _ all
    where
      none : (xs : List ℕ) (a : ℕ) (r : List ℕ) → [] ≡ xs ++ a ∷ r → ⊥
      none [] a r k = cc k
      none (x ∷ xs) a r k = cc k

  tell : (past es fs : List Entry) → IsLegal s (past_of es ++ past) → IsLegal s (past_of fs ++ past) → AreInRange es
      → AreInRange fs → entries_text es ≡ entries_text fs → es ≡ fs
  unfolding IsLegal
  tell past [] [] le lf ie if_ same = refl
  tell past [] (f ∷ fs) le lf ie if_ same =
      absurd (no_row f (entries_text fs) (same ∙ flat_map-cons entry_text f fs))
  tell past (e ∷ es) [] le lf ie if_ same =
      absurd (no_row e (entries_text es) (sym same ∙ flat_map-cons entry_text e es))
  tell past (e ∷ es) (f ∷ fs) le lf ie if_ same =
      let le_all = subst (IsLegal s) (oldest_first e es past) le in
      let lf_all = subst (IsLegal s) (oldest_first f fs past) lf in
      let he = older_are_legal s (past_of es) (e ∷ past) le_all in
      let hf = older_are_legal s (past_of fs) (f ∷ past) lf_all in
      let rows = sym (flat_map-cons entry_text e es) ∙ same ∙ flat_map-cons entry_text f fs in
      let k = same_call e f (entries_text es) (entries_text fs) he.0 hf.0 ie.0 if_.0 rows in
      let one : e ≡ f = he.1 ∙ ap₂ (λ w c. entry_for s past w c) k.who k.call ∙ sym hf.1 in
      let rest : entries_text es ≡ entries_text fs = append_cancel_left (entry_text f) (entries_text es)
      (entries_text fs) (ap (λ a. entry_text a ++ entries_text es) (sym one) ∙ rows) in
      ap₂ (λ a l. a ∷ l) one
      (tell (e ∷ past) es fs le_all (subst (λ a. IsLegal s (past_of fs ++ a ∷ past)) (sym one) lf_all) ie.1 if_.1 rest)

pub rows_tell_histories : RowsTellHistories
rows_tell_histories s entries others layout le lf ie if_ same =
    tell s layout [] entries others (subst (IsLegal s) (sym (append-nil (past_of entries))) le)
    (subst (IsLegal s) (sym (append-nil (past_of others))) lf) ie if_ same
