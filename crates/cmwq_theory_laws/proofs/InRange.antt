-- The replies of a legal history fit its layout, and its numbers are inside their ranges.
use Rattle.cmwq_theory_laws.specs.Common.{◌≡◌, ◌<◌, ◌≤◌, ◌+◌, ◌*◌, ℕ, true, ◌&&◌, List, [], ◌∷◌, length, find, Option}
use Rattle.cmwq_theory_laws.specs.Common.{Some, None, refl, sym, ap, ap₂, subst, arith, option_map, IsTrue, reverse}
use Rattle.cmwq_theory_laws.specs.Common.{All, AllByRecursion, le-leb, lt-ltb, reverse-append, reverse-reverse}
use Rattle.cmwq_theory_laws.specs.Common.{length-reverse, All-from_recursion, recursion_from_All, WorkerId, Who, Call}
use Rattle.cmwq_theory_laws.specs.Common.{Reply, Entry, Queueing, Start, Layout, is_layout, reply_fits, entry_fits}
use Rattle.cmwq_theory_laws.specs.Common.{IsWho, IsCall, IsReply, IsEntry, greatest, is_by, serial_of, ticks_told, now}
use Rattle.cmwq_theory_laws.specs.Common.{run, item_run, still_open, unstarted_queueing, next, holds_up, least_waited}
use Rattle.cmwq_theory_laws.specs.Common.{waits_for, IsLegal, past_of, most_time, has_time, All_append, find_holds}
use Rattle.cmwq_theory_laws.specs.Common.{next_holds, IsKnown, known_more, queueings_known, IsOpenOne, open_known}
use Rattle.cmwq_theory_laws.specs.Common.{unstarted_is, started_older, run_is, items_are_run, due_own, Cause, cause_of}
use Rattle.cmwq_theory_laws.specs.Common.{legal_fits}
use Rattle.cmwq_model.proofs.Limits.{limits_of}
use Rattle.cmwq_model.specs.Prelude.{most_items, most_workers}
use Rattle.cmwq_model.specs.declared.call.Call.TheVariants as call
use Rattle.cmwq_theory_steps.proofs.Causes as cause
use Rattle.std.proofs.lemmas.List.Sums.{count_by-le-length}
use Rattle.std.proofs.lemmas.Option.{same_Some}
use Rattle.cmwq_theory_steps.proofs.OwedItems.{booked_within}
use Rattle.cmwq_theory_steps.proofs.Starts.{reserve_there}

-- ---- numbers of queueings are those of older entries

next_older : (s : Layout) (past : List Entry) (w : WorkerId) (x : Queueing) → next s past w.pool ≡ Some x
    → x.number < length past
next_older s past w x h = (next_holds s IsKnown known_more queueings_known past w.pool x h).holds.older

run_older : (s : Layout) (past : List Entry) (w : WorkerId) (n : ℕ) → IsLegal s past → run past w ≡ Some n
    → n < length past
run_older s past w n legal h = started_older s past w n legal (run_is past w n h).last

unstarted_older : (past : List Entry) (i : ℕ) (x : Queueing) → unstarted_queueing past i ≡ Some x
    → x.number < length past
unstarted_older past i x h = (unstarted_is past i x h).known.older

least_older : (past : List Entry) (k n : ℕ) (c : Call) → least_waited past k c ≡ Some n → n < length past
least_older past k n c h = at (find (holds_up past k c) (still_open past)) refl h
  where
    at : (o : Option Queueing) → find (holds_up past k c) (still_open past) ≡ o
        → option_map (λ (x : Queueing). x.number) o ≡ Some n → n < length past
    at None found number = cc
    at (Some x) found number =
        subst (λ m. m < length past) (same_Some x.number n number)
        (find_holds (IsOpenOne past) (holds_up past k c) (still_open past) x (open_known past) found).holds.known.older

item_older : (s : Layout) (past : List Entry) (i n : ℕ) → IsLegal s past
    → option_map (λ (start : Start). start.number) (item_run past i) ≡ Some n → n < length past
item_older s past i n legal h = at (item_run past i) refl h
  where
    at : (o : Option Start) → item_run past i ≡ o → option_map (λ (start : Start). start.number) o ≡ Some n
        → n < length past
    at None is number = cc
    at (Some start) is number =
        subst (λ m. m < length past) (same_Some start.number n number)
        (run_older s past start.worker start.number legal (items_are_run s past i start legal is).0)

waited_older : (s : Layout) (past : List Entry) (k n : ℕ) (c : Call) → IsLegal s past → waits_for past k c ≡ Some n
    → n < length past
waited_older s past k n (call.CancelSync i) legal h = item_older s past i.0 n legal h
waited_older s past k n c legal h = least_older past k n c h

-- ---- items and workers are of the layout

-- ---- the reply that an entry gets

record Limits (s : Layout) (most : ℕ) (past : List Entry) (c : Call) : Type 0 where
  long : length past ≤ most
  soon : now past + ticks_told c ≤ most_time
  asked : IsCall most c
  few_items : s.items ≤ most_items
  few_workers : s.workers ≤ most_workers

replies_fit : (s : Layout) (past : List Entry) (who : Who) (c : Call) (r : Reply) → IsLegal s past
    → Cause s past who c r → reply_fits s r ≡ true
replies_fit s past who c r legal (cause.fires w b due) =
    lt-ltb b.item.0 s.items (booked_within s past b.item.0 b legal (due_own past b due))
replies_fit s past who c r legal (cause.enlists w x y en idle starts clear by) =
    lt-ltb y s.workers (reserve_there s past w y by)
replies_fit s past who c r legal other = refl

replies_in_range : (s : Layout) (most : ℕ) (past : List Entry) (who : Who) (c : Call) (r : Reply) → IsLegal s past
    → Limits s most past c → Cause s past who c r → IsReply most r
replies_in_range s m past who c r legal l (cause.waiting w k t n waits) =
    omega (arith, waited_older s past t.number n t.call legal waits, l.long)
replies_in_range s m past who c r legal l (cause.cancelled w i x u) =
    omega (arith, unstarted_older past i.0 x u, l.long)
replies_in_range s m past who c r legal l (cause.fires w b due) =
    (omega (arith, booked_within s past b.item.0 b legal (due_own past b due), l.few_items), l.long)
replies_in_range s m past who c r legal l (cause.widened w q n here) = grind arith
replies_in_range s m past who c r legal l (cause.sync_cancelled w i x free u) =
    (l.long, omega (arith, unstarted_older past i.0 x u, l.long))
replies_in_range s m past who c r legal l (cause.starts w x en idle begins clear none) =
    omega (arith, next_older s past w x begins, l.long)
replies_in_range s m past who c r legal l (cause.enlists w x y en idle begins clear by) =
    (omega (arith, next_older s past w x begins, l.long), omega (arith, reserve_there s past w y by, l.few_workers))
replies_in_range s m past who c r legal l (cause.finishes w n awake runs) =
    omega (arith, run_older s past w n legal runs, l.long)
replies_in_range s m past who c r legal l other = omega arith

-- ---- the laws

pub entries_fit : (s : Layout) (past : List Entry) (e : Entry) → IsLegal s (e ∷ past) → entry_fits s e ≡ true
unfolding IsLegal
entries_fit s past e legal =
    ap₂ (λ a b. a && b) (legal_fits s past e legal)
    (replies_fit s past e.who e.call e.reply legal.2 (cause_of s past e legal))

pub serial_most : (past : List Entry) (who : Who) → serial_of past who ≤ length past
serial_most past who = count_by-le-length (is_by who) past

told_most : (m : ℕ) (c : Call) → IsCall m c → ticks_told c ≤ greatest
told_most m (call.Tick t) h = h
told_most m c h = omega arith

pub now_most : (m : ℕ) (past : List Entry) → AllByRecursion (λ e. IsWho e.who × IsCall m e.call) past
    → now past ≤ length past * greatest
unfolding now
now_most m [] h = omega arith
now_most m (e ∷ past) h = omega (arith, now_most m past h.1, told_most m e.call h.0.1)

entry_in_range : (s : Layout) (m : ℕ) (past : List Entry) (e : Entry) → is_layout s ≡ true → IsLegal s (e ∷ past)
    → length past ≤ m → now past + ticks_told e.call ≤ most_time → IsWho e.who × IsCall m e.call → IsEntry m e
unfolding IsLegal
entry_in_range s m past e inside legal long soon own = record {
  who = own.0;
  serial = omega (arith, ap (λ (x : Entry). x.serial) legal.1, serial_most past e.who);
  call = own.1;
  reply = replies_in_range s m past e.who e.call e.reply legal.2 (record {
    long = long;
    soon = soon;
    asked = own.1;
    few_items = (limits_of s inside).items.1;
    few_workers = (limits_of s inside).workers.1;
  }) (cause_of s past e legal);
}

past_fits : (s : Layout) (past : List Entry) → IsLegal s past → AllByRecursion (λ e. IsTrue (entry_fits s e)) past
unfolding IsLegal
past_fits s [] legal = tt
past_fits s (e ∷ past) legal = (entries_fit s past e legal, past_fits s past legal.2)

past_in_range : (s : Layout) (m : ℕ) (past : List Entry) → is_layout s ≡ true → IsLegal s past → length past ≤ m
    → now past ≤ most_time → AllByRecursion (λ e. IsWho e.who × IsCall m e.call) past → AllByRecursion (IsEntry m) past
unfolding IsLegal now
past_in_range s m [] inside legal long soon all = tt
past_in_range s m (e ∷ past) inside legal long soon all = (
  entry_in_range s m past e inside legal (omega arith) soon all.0,
  past_in_range s m past inside legal.2 (omega arith) (omega arith) all.1,
)

All_reverse : (P : Entry → Type 0) (xs : List Entry) → AllByRecursion P xs → AllByRecursion P (reverse xs)
All_reverse P [] h = tt
All_reverse P (x ∷ xs) h =
    subst (AllByRecursion P) (sym (reverse-append (x ∷ []) xs))
    (All_append P (reverse xs) (x ∷ []) (All_reverse P xs h.1) (h.0, tt))

pub legal_histories_fit : (s : Layout) (m : ℕ) (entries : List Entry) → IsTrue (is_layout s)
    → IsLegal s (past_of entries) → length entries ≤ m → now (past_of entries) ≤ most_time
    → All (λ e. IsWho e.who × IsCall m e.call) entries
    → All (λ e. IsTrue (entry_fits s e)) entries × All (IsEntry m) entries
legal_histories_fit s m entries inside legal long soon all = (
  back (λ e. IsTrue (entry_fits s e)) (past_fits s (past_of entries) legal),
  back (IsEntry m)
      (past_in_range s m (past_of entries) inside legal (omega (arith, length-reverse entries)) soon
      (All_reverse (λ e. IsWho e.who × IsCall m e.call) entries
      (recursion_from_All (λ e. IsWho e.who × IsCall m e.call) entries all))),
)
  where
    back : (P : Entry → Type 0) → AllByRecursion P (past_of entries) → All P entries
    back P h =
        All-from_recursion P entries
        (subst (AllByRecursion P) (reverse-reverse entries) (All_reverse P (reverse entries) h))

-- ---- a short history has room for every tick

has_time_with : (past : List Entry) (c : Call) → now past + ticks_told c ≤ most_time → has_time past c ≡ true
has_time_with past (call.Tick t) h = le-leb (now past + t) most_time h
has_time_with past c h = refl

pub short_has_time : (m : ℕ) (past : List Entry) (c : Call) → AllByRecursion (λ e. IsWho e.who × IsCall m e.call) past
    → IsCall m c → length past ≤ 1010000 → has_time past c ≡ true
short_has_time m past c all own short = has_time_with past c (omega (arith, now_most m past all, told_most m c own))
