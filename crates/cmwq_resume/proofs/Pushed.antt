-- The loops that add calls.
use Rattle.cmwq_resume.specs.Common.{◌≡◌, ◌+◌, ◌++◌, ◌==◌, ℕ, suc, Bool, true, false, List, [], ◌∷◌, length, map}
use Rattle.cmwq_resume.specs.Common.{filter, refl, sym, ap, ap₂, ◌∙◌, arith, cond, if◌then◌else◌, append-nil}
use Rattle.cmwq_resume.specs.Common.{append_assoc, map-append, range_with_len, filter-append, Call, Queueing, Booking}
use Rattle.cmwq_resume.specs.Common.{Layout, eqb-true}
use Rattle.std.proofs.lemmas.List.{length-append}
use Rattle.cmwq_model.specs.declared.call.Call.TheVariants as call
use Rattle.std.proofs.lemmas.List.Concat.{flat_map-cons}
use Rattle.std.proofs.lemmas.Grind.{flat_map-append}
use Rattle.cmwq_resume.specs.Resume.{asked, due_call, gone_calls, left_at, later_call, queue_call, tick_calls, widen}
use Rattle.cmwq_resume.specs.Resume.{widths_calls}
use Rattle.cmwq_resume.specs.Leavings.{later_after}
use Rattle.cmwq_resume.proofs.Sorted.{range_next}

-- one queue more
pub widths_more : (s : Layout) (w : ℕ → ℕ) (n : ℕ) (old before new : List Call)
    → before ≡ old ++ widths_calls s w (range_with_len 0 n) → new ≡ before ++ widen s w n
    → new ≡ old ++ widths_calls s w (range_with_len 0 (n + 1))
widths_more s w n old before new so_far more =
    more ∙ ap (λ l. l ++ widen s w n) so_far ∙ append_assoc old (widths_calls s w (range_with_len 0 n)) (widen s w n)
    ∙ ap (λ l. old ++ l)
    (sym (ap (widths_calls s w) (range_next n) ∙ flat_map-append (widen s w) (range_with_len 0 n) (n ∷ [])
    ∙ ap (λ l. widths_calls s w (range_with_len 0 n) ++ l)
    (flat_map-cons (widen s w) n [] ∙ append-nil (widen s w n))))

gone_append : (n : ℕ) (xs ys : List ℕ)
    → gone_calls n (xs ++ ys) ≡ gone_calls n xs ++ gone_calls (n + length (gone_calls n xs)) ys
gone_append n [] ys = let same : n ≡ n + 0 = omega arith in ap (λ m. gone_calls m ys) same
gone_append n (x ∷ xs) ys =
    let here : n + 2 + length (gone_calls (n + 2) xs) ≡ n + suc (suc (length (gone_calls (n + 2) xs))) = omega arith in
    ap (λ l. call.Destroy (record { 0 = x }) ∷ call.End n ∷ l)
    (gone_append (n + 2) xs ys ∙ ap (λ m. gone_calls (n + 2) xs ++ gone_calls m ys) here)

gone_joined : (old : List Call) (xs ys : List ℕ)
    → (old ++ gone_calls (length old) xs) ++ gone_calls (length (old ++ gone_calls (length old) xs)) ys
    ≡ old ++ gone_calls (length old) (xs ++ ys)
gone_joined old xs ys =
    append_assoc old (gone_calls (length old) xs) (gone_calls (length (old ++ gone_calls (length old) xs)) ys)
    ∙ ap (λ l. old ++ l)
    (ap (λ m. gone_calls (length old) xs ++ gone_calls m ys) (length-append old (gone_calls (length old) xs))
    ∙ sym (gone_append (length old) xs ys))

pub gone_more : (p : ℕ → Bool) (n : ℕ) (old before new : List Call)
    → before ≡ old ++ gone_calls (length old) (filter p (range_with_len 0 n))
    → new ≡ before ++ (if p n then gone_calls (length before) (n ∷ []) else [])
    → new ≡ old ++ gone_calls (length old) (filter p (range_with_len 0 (n + 1)))
gone_more p n old before new so_far more =
    more ∙ at (p n)
    ∙ sym (ap (λ is. old ++ gone_calls (length old) (filter p is)) (range_next n)
    ∙ ap (λ is. old ++ gone_calls (length old) is) (filter-append p (range_with_len 0 n) (n ∷ [])))
  where
    at : (b : Bool) → before ++ (if b then gone_calls (length before) (n ∷ []) else [])
        ≡ old ++ gone_calls (length old) (filter p (range_with_len 0 n) ++ cond b (n ∷ []) [])
    at true =
        ap (λ l. l ++ gone_calls (length l) (n ∷ [])) so_far ∙ gone_joined old (filter p (range_with_len 0 n)) (n ∷ [])
    at false =
        append-nil before ∙ so_far
        ∙ ap (λ is. old ++ gone_calls (length old) is) (sym (append-nil (filter p (range_with_len 0 n))))

-- ---- all calls, one after the other

queue_asked : (xs : List Queueing) → map queue_call (map asked xs) ≡ map queue_call xs
queue_asked [] = refl
queue_asked (x ∷ xs) = ap (λ l. queue_call x ∷ l) (queue_asked xs)

due_left : (t : ℕ) (xs : List Booking) → map due_call (map (left_at t) xs) ≡ map due_call xs
due_left t [] = refl
due_left t (x ∷ xs) = ap (λ l. due_call x ∷ l) (due_left t xs)

later_left : (t : ℕ) (xs : List Booking) → map later_call (map (left_at t) xs) ≡ map (later_after t) xs
later_left t [] = refl
later_left t (x ∷ xs) = ap (λ l. later_after t x ∷ l) (later_left t xs)

tick_left : (t : ℕ) (xs : List Booking) → tick_calls (map (left_at t) xs) ≡ tick_calls xs
tick_left t [] = refl
tick_left t (x ∷ xs) = refl

pub some_tick : (xs : List Booking) → (length xs == 0) ≡ false → tick_calls xs ≡ call.Tick 1 ∷ []
some_tick [] h = cc
some_tick (x ∷ xs) h = refl

pub no_tick : (xs : List Booking) → (length xs == 0) ≡ true → tick_calls xs ≡ []
no_tick [] h = refl
no_tick (x ∷ xs) h = let bad = eqb-true (length (x ∷ xs)) 0 h in absurd (omega arith)

pub assembled : (t : ℕ) (ws fs : List Call) (gs : List ℕ) (one two : List Queueing) (os ls : List Booking)
    (widths gone frozen broken queued all : List Call) → widths ≡ [] ++ ws
    → gone ≡ widths ++ gone_calls (length widths) gs → frozen ≡ gone ++ fs → broken ≡ frozen ++ map queue_call one
    → queued ≡ broken ++ map queue_call two
    → all ≡ ((queued ++ map due_call os) ++ tick_calls os) ++ map (later_after t) ls
    → all
    ≡ ws ++ (gone_calls (length ws) gs ++ (fs
    ++ (map queue_call (map asked one ++ map asked two)
    ++ (map due_call (map (left_at t) os) ++ (tick_calls (map (left_at t) os)
    ++ map later_call (map (left_at t) ls))))))
assembled t ws fs gs one two os ls widths gone frozen broken queued all a b c d e f =
    together
    ∙ sym (ap (λ l. ws ++ (gone_calls (length ws) gs ++ (fs ++ l)))
    (ap₂ (λ k l. k ++ l)
    (map-append queue_call (map asked one) (map asked two)
    ∙ ap₂ (λ k l. k ++ l) (queue_asked one) (queue_asked two))
    (ap₂ (λ k l. k ++ l) (due_left t os) (ap₂ (λ k l. k ++ l) (tick_left t os) (later_left t ls)))))
  where
    at_first : gone ≡ ws ++ gone_calls (length ws) gs
    at_first = b ∙ ap (λ l. l ++ gone_calls (length l) gs) a

    flat : (u v w x y z p q : List Call)
        → ((((((u ++ v) ++ w) ++ x) ++ y) ++ z) ++ p) ++ q ≡ u ++ (v ++ (w ++ ((x ++ y) ++ (z ++ (p ++ q)))))
    flat u v w x y z p q = simp (append_assoc) refl

    together : all
        ≡ ws ++ (gone_calls (length ws) gs ++ (fs ++ ((map queue_call one ++ map queue_call two)
        ++ (map due_call os ++ (tick_calls os ++ map (later_after t) ls)))))
    together =
        f ∙ ap (λ l. ((l ++ map due_call os) ++ tick_calls os) ++ map (later_after t) ls)
        (e ∙ ap (λ l. l ++ map queue_call two)
        (d ∙ ap (λ l. l ++ map queue_call one) (c ∙ ap (λ l. l ++ fs) at_first)))
        ∙ flat ws (gone_calls (length ws) gs) fs (map queue_call one) (map queue_call two) (map due_call os)
        (tick_calls os) (map (later_after t) ls)
