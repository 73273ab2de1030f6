-- What workers and items run after one more entry.
use Rattle.cmwq_theory_steps.specs.Common.{arith, option_or, ◌≡◌, ◌<◌, ℕ, Bool, true, false, not, ◌&&◌, ◌||◌, List, []}
use Rattle.cmwq_theory_steps.specs.Common.{◌∷◌, length, Option, Some, None, refl, sym, ap, ap₂, ◌∙◌, subst}
use Rattle.cmwq_theory_steps.specs.Common.{option_and_then, is_some, if◌then◌else◌, option_map_or, eq-eqb, WorkerId}
use Rattle.cmwq_theory_steps.specs.Common.{Who, Worker, Reply, Entry, Layout, is_at, is_by, same_who, item_at}
use Rattle.cmwq_theory_steps.specs.Common.{is_of_item, number_started, number_finished, number_cancelled, starts}
use Rattle.cmwq_theory_steps.specs.Common.{finishes, takes_back, replaces, is_started, is_open, is_number_open}
use Rattle.cmwq_theory_steps.specs.Common.{last_start, run, IsLegal}
use Rattle.cmwq_theory_steps.proofs.Joined.{listed_live}
use Rattle.cmwq_model.specs.declared.reply.Reply.TheVariants as reply
use Rattle.std.proofs.lemmas.Bool.{both_ways, false_from_ne_true, or_right}
use Rattle.std.proofs.lemmas.Option.{same_Some}
use Rattle.cmwq_lemmas.proofs.Truth.{and_false, and_true}
use Rattle.cmwq_theory_steps.specs.RunSteps.{run_after}
use Rattle.cmwq_theory_steps.proofs.Entries.{item_at-older, is_at-true}
use Rattle.cmwq_theory_steps.proofs.Endings.{open_step}
use Rattle.cmwq_theory_steps.proofs.ItemRuns.{same_worker-true, last_start_cases, now, before, run_is, is_run}
use Rattle.cmwq_theory_steps.proofs.ItemRuns.{open_of_item, started_older, starts_known, one_worker, same_worker_itself}
use Rattle.cmwq_theory_steps.proofs.StartsListed.{starts_listed}
use Rattle.cmwq_theory_steps.proofs.RunsActive.{found_known}
use Rattle.cmwq_theory_steps.proofs.Fresh.{finishes_run, takes_back_unstarted, unstarted_is}

-- ---- a queueing that has started stays open until it is finished

pub started_not_cancelled : (s : Layout) (past : List Entry) (e : Entry) (n : ℕ) → IsLegal s (e ∷ past)
    → is_started past n ≡ true → takes_back n e ≡ false
started_not_cancelled s past e n legal started = false_from_ne_true _ (λ back.
    let k = takes_back_unstarted s past e n legal (is_at-true (number_cancelled e.reply) n back) in
    both_ways _ (unstarted_is past k.item k.queueing k.is_unstarted).not_started
    (ap (is_started past) k.number ∙ started))

pub started_open_on : (s : Layout) (past : List Entry) (e : Entry) (i n : ℕ) → IsLegal s (e ∷ past) → n < length past
    → is_started past n ≡ true → is_open (e ∷ past) i n ≡ (is_open past i n && not (finishes n e))
started_open_on s past e i n legal less started =
    open_step past e i n less
    ∙ ap₂ (λ t u. is_open past i n
    && (not (finishes n e) && not t && not (replaces e.reply && is_of_item i e && not u)))
    (started_not_cancelled s past e n legal started) started
    ∙ simp (and_false, and_true) refl

-- what an entry starts is open after it
pub no_end : (r : Reply) (n : ℕ) → number_started r ≡ Some n → (number_finished r ≡ None) × (number_cancelled r ≡ None)
    × (replaces r ≡ false)
no_end (reply.Started m) n h = (refl, refl, refl)
no_end r n h = grind arith

pub started_open : (s : Layout) (past : List Entry) (e : Entry) (i n : ℕ) → IsLegal s (e ∷ past)
    → number_started e.reply ≡ Some n → item_at past n ≡ Some i → is_open (e ∷ past) i n ≡ true
started_open s past e i n legal h item =
    let st = starts_listed s past e n legal (ap (λ o. is_at o n) h ∙ eq-eqb n n refl) in
    let known = found_known past n st.queueing st.found in
    let same = same_Some st.queueing.item.0 i (sym known.item ∙ ap (item_at past) st.number ∙ item) in
    let live = listed_live s past st.worker.pool st.queueing st.listed in
    let was : is_open past i n ≡ true = sym (ap₂ (λ a b. is_open past a b) same st.number) ∙ live in
    let none = no_end e.reply n h in
    open_step past e i n (subst (λ m. m < length past) st.number known.older)
    ∙ ap₂ (λ a b. a && b) was
    (ap₂ (λ a b. a && b) (ap₂ (λ a b. not (is_at a n) && not (is_at b n)) none.0 none.1)
    (ap (λ r. not (r && is_of_item i e && not (is_started past n))) none.2))

-- ---- the run of a worker

pub last_started : (past : List Entry) (w : WorkerId) (n : ℕ) → last_start past w ≡ Some n → is_started past n ≡ true
unfolding last_start
last_started [] w n h = cc
last_started (e ∷ past) w n h = elim (last_start_cases e past w n h) [
  | now by starts ↦ ap (λ o. is_at o n || is_started past n) starts ∙ ap (λ b. b || is_started past n) (eq-eqb n n refl)
  | before last ↦ or_right (starts n e) _ (last_started past w n last)
]

started_number_open : (s : Layout) (past : List Entry) (e : Entry) (n : ℕ) → IsLegal s (e ∷ past) → n < length past
    → is_started past n ≡ true → is_number_open (e ∷ past) n ≡ (is_number_open past n && not (finishes n e))
started_number_open s past e n legal less started =
    ap (λ o. option_map_or (λ i. is_open (e ∷ past) i n) o false) (item_at-older e past n less) ∙ at (item_at past n)
  where
    at : (o : Option ℕ) → option_map_or (λ i. is_open (e ∷ past) i n) o false
        ≡ (option_map_or (λ i. is_open past i n) o false && not (finishes n e))
    at None = refl
    at (Some i) = started_open_on s past e i n legal less started

abbrev run_of : List Entry → Option ℕ → Option ℕ
run_of past o = option_and_then (λ n. if is_number_open past n then Some n else None) o

-- where the worker starts nothing
run_left : (s : Layout) (past : List Entry) (e : Entry) (w : WorkerId) → IsLegal s (e ∷ past)
    → last_start (e ∷ past) w ≡ last_start past w → ((n : ℕ) → run past w ≡ Some n → finishes n e ≡ false)
    → run (e ∷ past) w ≡ run past w
unfolding IsLegal
run_left s past e w legal last survivors = ap (run_of (e ∷ past)) last ∙ at (last_start past w) refl survivors
  where
    at : (o : Option ℕ) → last_start past w ≡ o → ((n : ℕ) → run_of past o ≡ Some n → finishes n e ≡ false)
        → run_of (e ∷ past) o ≡ run_of past o
    at None h k = refl
    at (Some n) h k =
        ap (λ b. if b then Some n else None)
        (started_number_open s past e n legal (started_older s past w n legal.2 h) (last_started past w n h))
        ∙ here (is_number_open past n) (k n)
      where
        here : (b : Bool) → ((if b then Some n else None) ≡ Some n → finishes n e ≡ false)
            → (if b && not (finishes n e) then Some n else None) ≡ (if b then Some n else None)
        here true h = ap (λ f. if not f then Some n else None) (h refl)
        here false h = refl

run_ended : (s : Layout) (past : List Entry) (e : Entry) (w : WorkerId) (n : ℕ) → IsLegal s (e ∷ past)
    → last_start (e ∷ past) w ≡ last_start past w → run past w ≡ Some n → finishes n e ≡ true → run (e ∷ past) w ≡ None
unfolding IsLegal
run_ended s past e w n legal last runs ends =
    let r = run_is past w n runs in
    let closed : is_number_open (e ∷ past) n ≡ false =
    started_number_open s past e n legal (started_older s past w n legal.2 r.last) (last_started past w n r.last)
    ∙ ap₂ (λ a b. a && not b) r.is_still_open ends in
    ap (run_of (e ∷ past)) (last ∙ r.last) ∙ ap (λ b. if b then Some n else None) closed

pub run_begun : (s : Layout) (past : List Entry) (e : Entry) (w : WorkerId) (n : ℕ) → IsLegal s (e ∷ past)
    → is_by (Worker w) e ≡ true → number_started e.reply ≡ Some n → run (e ∷ past) w ≡ Some n
unfolding last_start
run_begun s past e w n legal by h =
    let k = starts_known s past e n legal h in
    let item = item_at-older e past n k.older ∙ k.is_item in
    is_run (e ∷ past) w n (ap₂ (λ a o. if a && is_some o then o else last_start past w) by h)
    (open_of_item (e ∷ past) k.item n item ∙ started_open s past e k.item n legal h k.is_item)

no_last_start : (past : List Entry) (e : Entry) (w : WorkerId)
    → (is_by (Worker w) e && is_some (number_started e.reply)) ≡ false → last_start (e ∷ past) w ≡ last_start past w
unfolding last_start
no_last_start past e w h = ap (λ b. if b then number_started e.reply else last_start past w) h

number_item : (past : List Entry) (n : ℕ) → is_number_open past n ≡ true → (i : ℕ) × (item_at past n ≡ Some i)
number_item past n h = at (item_at past n) refl h
  where
    at : (o : Option ℕ) → item_at past n ≡ o → option_map_or (λ i. is_open past i n) o false ≡ true
        → (i : ℕ) × (item_at past n ≡ Some i)
    at None item h = cc
    at (Some i) item h = (i, item)

run_after_is : (r : Reply) (start finish o : Option ℕ) → number_started r ≡ start → number_finished r ≡ finish
    → run_after r o ≡ option_or start (if is_some finish then None else o)
run_after_is (reply.Finished m) start finish o hs hf = ap₂ (λ a b. option_or a (if is_some b then None else o)) hs hf
run_after_is r start finish o hs hf = ap₂ (λ a b. option_or a (if is_some b then None else o)) hs hf

run_goes : (s : Layout) (past : List Entry) (e : Entry) (w : WorkerId) (by : Bool) (start finish : Option ℕ)
    → IsLegal s (e ∷ past) → is_by (Worker w) e ≡ by → number_started e.reply ≡ start → number_finished e.reply ≡ finish
    → run (e ∷ past) w ≡ (if by then run_after e.reply (run past w) else run past w)
unfolding IsLegal
run_goes s past e w true (Some n) f legal hb hs hf =
    run_begun s past e w n legal hb hs ∙ sym (run_after_is e.reply _ _ _ hs hf)
run_goes s past e w true None None legal hb hs hf =
    run_left s past e w legal (no_last_start past e w (ap₂ (λ a o. a && is_some o) hb hs))
    (λ n runs. ap (λ o. is_at o n) hf) ∙ sym (run_after_is e.reply _ _ _ hs hf)
run_goes s past e w true None (Some m) legal hb hs hf =
    let f = finishes_run s past e m legal hf in
    let same : f.worker ≡ w =
    same_worker-true f.worker w (subst (λ (x : Who). same_who x (Worker w) ≡ true) f.by_worker hb) in
    run_ended s past e w m legal (no_last_start past e w (ap₂ (λ a o. a && is_some o) hb hs))
    (subst (λ (v : WorkerId). run past v ≡ Some m) same f.is_run) (ap (λ o. is_at o m) hf ∙ eq-eqb m m refl)
    ∙ sym (run_after_is e.reply _ _ _ hs hf)
run_goes s past e w false o f legal hb hs hf =
    run_left s past e w legal (no_last_start past e w (ap (λ a. a && is_some (number_started e.reply)) hb))
    (λ n runs. false_from_ne_true _ (λ ends.
    let f = finishes_run s past e n legal (is_at-true (number_finished e.reply) n ends) in
    let item = number_item past n (run_is past w n runs).is_still_open in
    let same : f.worker ≡ w = (one_worker s past f.worker w n n item.0 legal.2 f.is_run runs item.1 item.1).0 in
    both_ways _ hb (ap (λ (x : Who). same_who x (Worker w)) (f.by_worker ∙ ap Worker same) ∙ same_worker_itself w)))

pub workers_run_on : (s : Layout) (past : List Entry) (e : Entry) (w : WorkerId) → IsLegal s (e ∷ past)
    → run (e ∷ past) w ≡ (if is_by (Worker w) e then run_after e.reply (run past w) else run past w)
workers_run_on s past e w legal =
    run_goes s past e w (is_by (Worker w) e) (number_started e.reply) (number_finished e.reply) legal refl refl refl
