-- The first of a pool's worklist that it may start is the earliest one that became active.
use Rattle.cmwq_plain.specs.Common.{◌≡◌, ℕ, suc, ◌+◌, ◌<◌, ◌≤◌, Bool, true, false, ◌&&◌, not, List, [], ◌∷◌, ◌++◌}
use Rattle.cmwq_plain.specs.Common.{length, filter, find, fold, Option, Some, None, option_map, option_and_then}
use Rattle.cmwq_plain.specs.Common.{option_to_list, nat_lt, cond, if◌then◌else◌, refl, ap, ◌∙◌, sym, arith, option_or}
use Rattle.cmwq_plain.specs.Common.{IfSome, append-nil, find-append, lt-ltb, le-ltb, PoolId, Entry, Queueing, Layout}
use Rattle.cmwq_plain.specs.Common.{item_of, queueings, opening, opens, queued_at, place_wanted, is_active}
use Rattle.cmwq_plain.specs.Common.{is_newly_active, newly_active, is_listed, is_startable, became_active, worklist}
use Rattle.cmwq_plain.specs.Common.{next, is_live}
use Rattle.cmwq_model.specs.declared.record.Place.{Place}
use Rattle.cmwq_theory_steps.proofs.Joined.{not_live}
use Rattle.cmwq_plain.specs.Past.{upto}
use Rattle.cmwq_plain.proofs.Parts.{upto-none, upto-all, upto-grows, length-upto}
use Rattle.cmwq_plain.proofs.PastSteps.{queueings_step}
use Rattle.cmwq_plain.specs.declared.active.Candidate.{Candidate}
use Rattle.cmwq_plain.specs.Earliest.{may_start, earliest_since, earlier, better, best_upto, queueing_of}

-- Since when.

pub since_none : (s : Layout) (x : Queueing) → earliest_since s [] x ≡ None
unfolding earliest_since
since_none s x = refl

since_step : (s : Layout) (e : Entry) (past : List Entry) (x : Queueing)
    → earliest_since s (e ∷ past) x
    ≡ option_or (earliest_since s past x) (if is_active s (e ∷ past) x then Some (length past) else None)
unfolding earliest_since
since_step s e past x = refl

since_step_of : (s : Layout) (past rest : List Entry) (k : ℕ) (x : Queueing) → length past ≡ k
    → (e : Entry) × (rest ≡ e ∷ past)
    → earliest_since s rest x ≡ option_or (earliest_since s past x) (if is_active s rest x then Some k else None)
since_step_of s past rest k x h (e, is) = rw (is, ← h) (since_step s e past x)

pub since_more : (s : Layout) (past : List Entry) (k : ℕ) (x : Queueing) → k < length past
    → earliest_since s (upto past (k + 1)) x
    ≡ option_or (earliest_since s (upto past k) x) (if is_active s (upto past (k + 1)) x then Some k else None)
since_more s past k x h =
    since_step_of s (upto past k) (upto past (k + 1)) k x (length-upto past k (omega arith)) (upto-grows past k h)

pub ruleset since_steps = (since_none, since_more)

-- what isn't opened yet isn't live, nor active, nor has it been
inactive : (s : Layout) (past : List Entry) (x : Queueing) → length past ≤ x.number → is_active s past x ≡ false
inactive s past x h = let e : nat_lt x.number (length past) ≡ false = le-ltb x.number (length past) h in
    not_live s past x (let dead : is_live past x ≡ false = grind arith in dead)

since_unopened : (s : Layout) (past : List Entry) (x : Queueing) → length past ≤ x.number
    → earliest_since s past x ≡ None
unfolding earliest_since
since_unopened s [] x h = refl
since_unopened s (e ∷ past) x h = rw (since_unopened s past x (omega arith), inactive s (e ∷ past) x h)

or_none : (o : Option ℕ) (b : Bool) (n : ℕ) → option_or o (if b then Some n else None) ≡ None → b ≡ false
or_none None true n h = cc
or_none None false n h = refl
or_none (Some m) b n h = cc

active_since : (s : Layout) (past : List Entry) (x : Queueing) → earliest_since s past x ≡ None
    → is_active s past x ≡ false
active_since s [] x h = inactive s [] x (omega arith)
active_since s (e ∷ past) x h =
    or_none (earliest_since s past x) (is_active s (e ∷ past) x) (length past) (sym (since_step s e past x) ∙ h)

abbrev IsNumberBelow : ℕ → Option ℕ → Type 0
IsNumberBelow n None = Unit {0}
IsNumberBelow n (Some m) = m < n

below_or : (o : Option ℕ) (b : Bool) (n : ℕ) → IsNumberBelow n o
    → IsNumberBelow (suc n) (option_or o (if b then Some n else None))
below_or None true n h = omega arith
below_or None false n h = tt
below_or (Some m) b n h = omega arith

since_below : (s : Layout) (past : List Entry) (x : Queueing) → IsNumberBelow (length past) (earliest_since s past x)
unfolding earliest_since
since_below s [] x = tt
since_below s (e ∷ past) x =
    below_or (earliest_since s past x) (is_active s (e ∷ past) x) (length past) (since_below s past x)

-- One entry more: what was active before it stays earlier than what it made active.

abbrev IsBelow : ℕ → Option Candidate → Type 0
IsBelow n None = Unit {0}
IsBelow n (Some b) = b.since < n

abbrev tagged : ℕ → Option Queueing → Option Candidate
tagged n None = None
tagged n (Some x) = Some (record { queueing = x; since = n })

or_if : (q : Bool) (b c : Candidate) (o : Option Candidate)
    → (if q then Some b else Some c) ≡ option_or (if q then Some b else Some c) o
or_if true b c o = refl
or_if false b c o = refl

step_law : (n : ℕ) (x : Queueing) (p active was : Bool) (before : Option ℕ) (a : Option Candidate) (b : Option Queueing)
    → IsBelow n a → IsNumberBelow n before → (before ≡ None → was ≡ false)
    → (if p then earlier (option_or a (tagged n b)) x (option_or before (if active then Some n else None))
    else option_or a (tagged n b))
    ≡ option_or (if p then earlier a x before else a)
    (tagged n (option_or b (if p && (active && not was) then Some x else None)))
step_law n x false active was before a None ha hb hw = refl
step_law n x false active was before a (Some y) ha hb hw = refl
step_law n x true active was (Some m) None None ha hb hw = refl
step_law n x true active was (Some m) None (Some y) ha hb hw = let e : nat_lt m n ≡ true = lt-ltb m n hb in rw e
step_law n x true active was (Some m) (Some c) b ha hb hw =
    or_if (nat_lt m c.since) (record { queueing = x; since = m }) c
    (tagged n (option_or b (if active && not was then Some x else None)))
step_law n x true true was None None None ha hb hw = rw (hw refl)
step_law n x true true was None None (Some y) ha hb hw = let e : nat_lt n n ≡ false = le-ltb n n (omega arith) in rw e
step_law n x true true was None (Some c) b ha hb hw = let e : nat_lt n c.since ≡ false =
    le-ltb n c.since (omega arith) in rw e
step_law n x true false was None a None ha hb hw = refl
step_law n x true false was None a (Some y) ha hb hw = refl

below_if : (q : Bool) (n : ℕ) (b c : Candidate) → b.since < n → c.since < n → IsBelow n (if q then Some b else Some c)
below_if true n b c hb hc = hb
below_if false n b c hb hc = hc

step_below : (n : ℕ) (x : Queueing) (p : Bool) (before : Option ℕ) (a : Option Candidate) → IsBelow n a
    → IsNumberBelow n before → IsBelow n (if p then earlier a x before else a)
step_below n x false before a ha hb = ha
step_below n x true None a ha hb = ha
step_below n x true (Some m) None ha hb = hb
step_below n x true (Some m) (Some c) ha hb = below_if (nat_lt m c.since) n (record { queueing = x; since = m }) c hb ha

find_cond : (t : Queueing → Bool) (w : Bool) (x : Queueing) (ys : List Queueing)
    → find t (cond w (x ∷ ys) ys) ≡ cond w (cond (t x) (Some x) (find t ys)) (find t ys)
find_cond t true x ys = refl
find_cond t false x ys = refl

or_cond : (w t : Bool) (b : Option Queueing) (x : Queueing) (o : Option Queueing)
    → option_or b (cond w (cond t (Some x) o) o) ≡ option_or (option_or b (if t && w then Some x else None)) o
or_cond w t (Some y) x o = refl
or_cond true true None x o = refl
or_cond true false None x o = refl
or_cond false true None x o = refl
or_cond false false None x o = refl

find_more : (t w : Queueing → Bool) (b : Option Queueing) (x : Queueing) (xs : List Queueing)
    → option_or b (find t (filter w (x ∷ xs)))
    ≡ option_or (option_or b (if t x && w x then Some x else None)) (find t (filter w xs))
find_more t w b x xs = ap (option_or b) (find_cond t (w x) x (filter w xs))
    ∙ or_cond (w x) (t x) b x (find t (filter w xs))

or_nothing : (b : Option Queueing) → option_or b None ≡ b
or_nothing None = refl
or_nothing (Some y) = refl

better_step : (s : Layout) (e : Entry) (past : List Entry) (test : Queueing → Bool) (x : Queueing)
    (a : Option Candidate) (b : Option Queueing) → IsBelow (length past) a
    → better s (e ∷ past) test (option_or a (tagged (length past) b)) x
    ≡ option_or (better s past test a x)
    (tagged (length past) (option_or b (if test x && is_newly_active s past e x then Some x else None)))
better_step s e past test x a b h =
    rw (since_step s e past x)
    (step_law (length past) x (test x) (is_active s (e ∷ past) x) (is_active s past x) (earliest_since s past x) a b
    h (since_below s past x) (active_since s past x))

fold_law : (s : Layout) (e : Entry) (past : List Entry) (test : Queueing → Bool) (xs : List Queueing)
    (a : Option Candidate) (b : Option Queueing) → IsBelow (length past) a
    → fold (better s (e ∷ past) test) (option_or a (tagged (length past) b)) xs
    ≡ option_or (fold (better s past test) a xs)
    (tagged (length past) (option_or b (find test (filter (is_newly_active s past e) xs))))
fold_law s e past test [] a b h = ap (λ c. option_or a (tagged (length past) c)) (sym (or_nothing b))
fold_law s e past test (x ∷ xs) a b h =
    ap (λ c. fold (better s (e ∷ past) test) c xs) (better_step s e past test x a b h)
    ∙ fold_law s e past test xs (better s past test a x)
    (option_or b (if test x && is_newly_active s past e x then Some x else None))
    (step_below (length past) x (test x) (earliest_since s past x) a h (since_below s past x))
    ∙ ap (λ c. option_or (fold (better s past test) (better s past test a x) xs) (tagged (length past) c))
    (sym (find_more test (is_newly_active s past e) b x xs))

-- What is opened at the end wasn't active before.

opened_by : (past : List Entry) (i : ℕ) (o : Option Place)
    → IfSome (option_map (queued_at past i) o) (λ x. x.number ≡ length past)
opened_by past i None = tt
opened_by past i (Some p) = refl

opened_of : (past : List Entry) (e : Entry) (b : Bool) (o : Option ℕ)
    → IfSome (if b then option_and_then (λ i. option_map (queued_at past i) (place_wanted past e.call i)) o else None)
    (λ x. x.number ≡ length past)
opened_of past e false o = tt
opened_of past e true None = tt
opened_of past e true (Some i) = opened_by past i (place_wanted past e.call i)

opening_number : (past : List Entry) (e : Entry) → IfSome (opening past e) (λ x. x.number ≡ length past)
opening_number past e = opened_of past e (opens e.reply) (item_of e)

pub fold_push_none : {A B : Type 0} (f : B → A → B) (a : B) (xs : List A) → fold f a (xs ++ []) ≡ fold f a xs
fold_push_none f a xs = ap (fold f a) (append-nil xs)

pub fold_push_some : {A B : Type 0} (f : B → A → B) (a : B) (xs : List A) (x : A)
    → fold f a (xs ++ x ∷ []) ≡ f (fold f a xs) x
fold_push_some f a [] x = refl
fold_push_some f a (y ∷ xs) x = fold_push_some f (f a y) xs x

same_if : (b : Bool) (a : Option Candidate) → (if b then a else a) ≡ a
same_if true a = refl
same_if false a = refl

better_unopened : (s : Layout) (past : List Entry) (test : Queueing → Bool) (a : Option Candidate) (x : Queueing)
    → length past ≤ x.number → better s past test a x ≡ a
better_unopened s past test a x h = rw (since_unopened s past x h) (same_if (test x) a)

fold_opened : (s : Layout) (past : List Entry) (test : Queueing → Bool) (xs : List Queueing) (o : Option Queueing)
    → IfSome o (λ x. x.number ≡ length past) → fold (better s past test) None (xs ++ option_to_list o)
    ≡ fold (better s past test) None xs
fold_opened s past test xs None h = fold_push_none (better s past test) None xs
fold_opened s past test xs (Some x) h = fold_push_some (better s past test) None xs x
    ∙ better_unopened s past test (fold (better s past test) None xs) x (omega arith)

map_or : (n : ℕ) (a : Option Candidate) (b : Option Queueing) → option_or (option_map queueing_of a) b
    ≡ option_map queueing_of (option_or a (tagged n b))
map_or n None None = refl
map_or n None (Some x) = refl
map_or n (Some c) b = refl

best_more : (s : Layout) (e : Entry) (past : List Entry) (test : Queueing → Bool)
    → fold (better s (e ∷ past) test) None (queueings (e ∷ past))
    ≡ option_or (fold (better s past test) None (queueings past))
    (tagged (length past) (find test (newly_active s past e)))
best_more s e past test =
    fold_law s e past test (queueings (e ∷ past)) None None tt
    ∙ ap (λ a. option_or a (tagged (length past) (find test (newly_active s past e))))
    (ap (fold (better s past test) None) (queueings_step e past)
    ∙ fold_opened s past test (queueings past) (opening past e) (opening_number past e))

best_law : (s : Layout) (test : Queueing → Bool) (past : List Entry)
    → find test (became_active s past) ≡ option_map queueing_of (fold (better s past test) None (queueings past))
unfolding became_active queueings
best_law s test [] = refl
best_law s test (e ∷ past) =
    find-append test (became_active s past) (newly_active s past e)
    ∙ ap (λ o. option_or o (find test (newly_active s past e))) (best_law s test past)
    ∙ map_or (length past) (fold (better s past test) None (queueings past)) (find test (newly_active s past e))
    ∙ ap (option_map queueing_of) (sym (best_more s e past test))

both_cond : (q p : Bool) (x : Queueing) (o : Option Queueing) → cond q (cond p (Some x) o) o ≡ cond (q && p) (Some x) o
both_cond true p x o = refl
both_cond false p x o = refl

find_filter : (p q : Queueing → Bool) (xs : List Queueing) → find p (filter q xs) ≡ find (λ x. q x && p x) xs
find_filter p q [] = refl
find_filter p q (x ∷ xs) = find_cond p (q x) x (filter q xs) ∙ both_cond (q x) (p x) x (find p (filter q xs))
    ∙ ap (λ o. cond (q x && p x) (Some x) o) (find_filter p q xs)

next_best : (s : Layout) (past : List Entry) (p : PoolId)
    → next s past p ≡ option_map queueing_of (fold (better s past (may_start s past p)) None (queueings past))
unfolding next worklist
next_best s past p = find_filter (is_startable past) (is_listed s past p) (became_active s past)
    ∙ best_law s (may_start s past p) past

pub best_none : (s : Layout) (past : List Entry) (p : PoolId) → best_upto s past p 0 ≡ None
unfolding best_upto queueings
best_none s past p = ap (λ l. fold (better s past (may_start s past p)) None (queueings l)) (upto-none past)

pub best_all : (s : Layout) (past : List Entry) (p : PoolId) (k : ℕ) → length past ≤ k
    → option_map queueing_of (best_upto s past p k) ≡ next s past p
unfolding best_upto
best_all s past p k h =
    ap (λ l. option_map queueing_of (fold (better s past (may_start s past p)) None (queueings l))) (upto-all past k h)
    ∙ sym (next_best s past p)

pub ruleset best_steps = (best_none, best_all, fold_push_none, fold_push_some)
