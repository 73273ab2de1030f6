-- Which entries make a wait ready to end.
use Rattle.std.proofs.lemmas.Bool.{both_ways, and_parts, and_from, false_from_ne_true}
use Rattle.cmwq_model.specs.Prelude.{holds_up, is_within, least_waited}
use Rattle.cmwq_model.specs.declared.id.QueueId.{QueueId}
use Rattle.cmwq_model.specs.declared.id.ItemId.{ItemId}
use Rattle.cmwq_model.specs.declared.call.Call.{Call}
use Rattle.cmwq_model.specs.declared.call.Call.TheVariants as call
use Rattle.cmwq_lemmas.proofs.Members.{In, of_in, found, filter_in, in_left, in_option}
use Rattle.cmwq_lemmas.proofs.Filters.{count_by-wider}
use Rattle.cmwq_theory_steps.specs.Common.{◌≡◌, ◌≤◌, ◌<◌, ◌==◌, ℕ, Bool, true, false, not, ◌&&◌, List, [], ◌∷◌, length}
use Rattle.cmwq_theory_steps.specs.Common.{filter, find, Option, Some, None, option_to_list, nat_le, refl, sym, ap, ◌∙◌}
use Rattle.cmwq_theory_steps.specs.Common.{subst, arith, is_some, option_map, option_or, if◌then◌else◌, nat_tests}
use Rattle.cmwq_theory_steps.specs.Common.{find_none, All_each, Entry, Queueing, Start, Layout, IsLegal, still_open}
use Rattle.cmwq_theory_steps.specs.Common.{opening, item_run, is_served_after, is_older_flush, finishes}
use Rattle.cmwq_theory_steps.specs.Common.{unended_tickets, serving_from, starts_item, start_in, is_live, queueing_at}
use Rattle.cmwq_theory_steps.specs.Common.{eq-eqb, takes_back, queueings, has_number}
use Rattle.cmwq_theory_steps.specs.Endings.{survives, is_ended, ending, is_replaced}
use Rattle.cmwq_theory_steps.specs.RunSteps.{ends_run}
use Rattle.cmwq_theory_steps.proofs.Rising.{open_below}
use Rattle.cmwq_theory_steps.proofs.Endings.{open_go_on}
use Rattle.cmwq_theory_steps.proofs.Ended.{one_ends}
use Rattle.cmwq_theory_steps.proofs.ItemSteps.{items_run_on, starts_some}
use Rattle.cmwq_theory_steps.proofs.TicketSteps.{served_stay}
use Rattle.cmwq_theory_steps.proofs.EndsAsTold.{runs_are_queueings}
use Rattle.cmwq_theory_steps.proofs.RunsActive.{found_number}
use Rattle.cmwq_theory_wakes.specs.Readiness.{is_unready, may_release, Releases}

-- ---- flushes of a queue get ready in the order in which they began

-- a flush is served from a position in the past
served_within : (past : List Entry) (q n b : ℕ) → serving_from past q n ≡ Some b → b < length past
unfolding serving_from
served_within [] q n b h = cc
served_within (e ∷ past) q n b h = grind (arith, nat_tests, served_within past q n b)

record ServedBy (past : List Entry) (q m b : ℕ) : Type 0 where
  position : ℕ
  served : serving_from past q m ≡ Some position
  within : position ≤ b

wider : (past : List Entry) (q m n : ℕ) → m ≤ n → is_served_after past q n ≡ true → is_served_after past q m ≡ true
wider past q m n less h =
    let fewer = count_by-wider (is_older_flush q m) (is_older_flush q n) (unended_tickets past)
    (All_each _ (unended_tickets past) (λ t older. grind (arith, nat_tests))) in
    grind (arith, nat_tests)

served_now : (past : List Entry) (e : Entry) (q m : ℕ) → m ≤ length past → is_served_after (e ∷ past) q m ≡ true
    → (o : Option ℕ) → serving_from past q m ≡ o → ServedBy (e ∷ past) q m (length past)
unfolding serving_from
served_now past e q m there after None is = record {
  position = length past;
  served = ap (λ o. option_or o (if nat_le m (length past) && is_served_after (e ∷ past) q m then Some (length past)
      else None)) is
      ∙ grind (arith, nat_tests);
  within = omega arith;
}
served_now past e q m there after (Some a) is =
    let before = served_within past q m a is in
    record { position = a; served = served_stay past e q m a is; within = omega arith }

served_before : (past : List Entry) (q m n b : ℕ) → m ≤ n → serving_from past q n ≡ Some b → ServedBy past q m b
unfolding serving_from
served_before [] q m n b less h = cc
served_before (e ∷ past) q m n b less h =
    at (λ a is. served_before past q m n a less is) (serving_from past q n) refl h
  where
    at : ((a : ℕ) → serving_from past q n ≡ Some a → ServedBy past q m a) → (o : Option ℕ) → serving_from past q n ≡ o
        → option_or o (if nat_le n (length past) && is_served_after (e ∷ past) q n then Some (length past) else None)
        ≡ Some b → ServedBy (e ∷ past) q m b
    at earlier (Some a) is k =
        let before = earlier a is in
        record {
          position = before.position;
          served = served_stay past e q m before.position before.served;
          within = (let w = before.within in let same : a ≡ b = cc in omega arith);
        }
    at earlier None is k =
        let there : n ≤ length past = grind (arith, nat_tests) in
        let after : is_served_after (e ∷ past) q n ≡ true = grind (arith, nat_tests) in
        let same : length past ≡ b = grind (arith, nat_tests) in
        let older = wider (e ∷ past) q m n less after in
        let now = served_now past e q m (omega arith) older (serving_from past q m) refl in
        record { position = now.position; served = now.served; within = (let w = now.within in omega arith) }

held_later : (past : List Entry) (q : QueueId) (m n : ℕ) (x : Queueing) → m ≤ n
    → holds_up past m (call.Flush q) x ≡ true → holds_up past n (call.Flush q) x ≡ true
held_later past q m n x less h = at (serving_from past q.0 n) refl
  where
    at : (o : Option ℕ) → serving_from past q.0 n ≡ o
        → ((x.place.queue.0 == q.0) && is_within o x.number) ≡ true
    at None is = grind (arith, nat_tests)
    at (Some b) is =
        let before = served_before past q.0 m n b less is in
        let served = before.served in
        let within = before.within in
        let both : ((x.place.queue.0 == q.0) && is_within (Some before.position) x.number) ≡ true
        = subst (λ o. ((x.place.queue.0 == q.0) && is_within o x.number) ≡ true) served h in
        grind (arith, nat_tests)

-- there is a least queueing that a wait waits for exactly if an open queueing holds it up
held_by : (past : List Entry) (n : ℕ) (c : Call) → is_some (least_waited past n c) ≡ true
    → (x : Queueing) × In x (still_open past) × (holds_up past n c x ≡ true)
held_by past n c h = at (find (holds_up past n c) (still_open past)) refl h
  where
    at : (o : Option Queueing) → find (holds_up past n c) (still_open past) ≡ o
        → is_some (option_map (λ (x : Queueing). x.number) o) ≡ true
        → (x : Queueing) × In x (still_open past) × (holds_up past n c x ≡ true)
    at None is k = cc
    at (Some x) is k =
        let there = found (holds_up past n c) (still_open past) x is in
        (x, there.0, there.1)

holding : (past : List Entry) (n : ℕ) (c : Call) (x : Queueing) → In x (still_open past)
    → holds_up past n c x ≡ true → is_some (least_waited past n c) ≡ true
holding past n c x there holds = at (find (holds_up past n c) (still_open past)) refl
  where
    at : (o : Option Queueing) → find (holds_up past n c) (still_open past) ≡ o
        → is_some (option_map (λ (x : Queueing). x.number) o) ≡ true
    at None is =
        absurd (both_ways _ (of_in (λ y. holds_up past n c y ≡ false) (still_open past) x
        (find_none (holds_up past n c) (still_open past) is) there) holds)
    at (Some y) is = refl

pub flushes_in_order : (past : List Entry) (q : QueueId) (m n : ℕ) → m ≤ n
    → is_unready past m (call.Flush q) ≡ true → is_unready past n (call.Flush q) ≡ true
flushes_in_order past q m n less h =
    let k = held_by past m (call.Flush q) h in
    holding past n (call.Flush q) k.0 k.1 (held_later past q m n k.0 less k.2)

-- ---- a wait that gets ready is released by the end of what held it up

served_same : (past : List Entry) (e : Entry) (q n m : ℕ) → m < length past
    → is_within (serving_from past q n) m ≡ true → is_within (serving_from (e ∷ past) q n) m ≡ true
unfolding serving_from
served_same past e q n m less h = at (serving_from past q n) refl h
  where
    at : (o : Option ℕ) → serving_from past q n ≡ o → is_within o m ≡ true
        → is_within (option_or o (if nat_le n (length past) && is_served_after (e ∷ past) q n then Some (length past)
        else None)) m ≡ true
    at (Some b) is k = k
    at None is k = grind (arith, nat_tests)

holds_on : (past : List Entry) (e : Entry) (n : ℕ) (c : Call) (x : Queueing) → x.number < length past
    → holds_up past n c x ≡ true → holds_up (e ∷ past) n c x ≡ true
holds_on past e n (call.Flush q) x less h =
    let k = and_parts (x.place.queue.0 == q.0) (is_within (serving_from past q.0 n) x.number) h in
    and_from _ _ k.0 (served_same past e q.0 n x.number less k.1)
holds_on past e n c x less h = grind arith

holder_is : (past : List Entry) (n : ℕ) (c : Call) (x : Queueing) → holds_up past n c x ≡ true
    → may_release c x ≡ true
holder_is past n (call.Flush q) x h = (and_parts _ _ h).0
holder_is past n (call.FlushItem i) x h = (and_parts _ _ h).0
holder_is past n (call.FlushDelayed i) x h = (and_parts _ _ h).0
holder_is past n c x h = grind arith

is_the_ended : (s : Layout) (past : List Entry) (e : Entry) (x : Queueing) → IsLegal s (e ∷ past)
    → In x (still_open past) → survives past e x ≡ false → ending past e ≡ Some x
is_the_ended s past e x legal there ends =
    in_option (ending past e) x
    (subst (In x) (one_ends s past e legal) (filter_in (is_ended past e) (still_open past) x there (ap not ends)))

released : (s : Layout) (past : List Entry) (e : Entry) (n : ℕ) (c : Call) → IsLegal s (e ∷ past)
    → is_some (least_waited past n c) ≡ true → is_some (least_waited (e ∷ past) n c) ≡ false → Releases past e c
released s past e n c legal h free =
    let k = held_by past n c h in
    let less = of_in (λ x. x.number < length past) (still_open past) k.0 (open_below past) k.1 in
    let gone : survives past e k.0 ≡ false =
    false_from_ne_true _ (λ stays. both_ways _ free (holding (e ∷ past) n c k.0
    (subst (In k.0) (sym (open_go_on s past e legal))
    (in_left (filter (survives past e) (still_open past)) (option_to_list (opening past e)) k.0
    (filter_in (survives past e) (still_open past) k.0 k.1 stays)))
    (holds_on past e n c k.0 less k.2))) in
    record { queueing = k.0; ends = is_the_ended s past e k.0 legal k.1 gone; released = holder_is past n c k.0 k.2 }

run_over : (s : Layout) (past : List Entry) (e : Entry) (i : ItemId) → IsLegal s (e ∷ past)
    → (o : Option Start) → item_run past i.0 ≡ o
    → is_some (option_map (λ (start : Start). start.number) o) ≡ true
    → is_some (option_map (λ (start : Start). start.number) (item_run (e ∷ past) i.0)) ≡ false
    → Releases past e (call.CancelSync i)
unfolding IsLegal
run_over s past e i legal None is h free = cc
run_over s past e i legal (Some start) is h free =
    let on = items_run_on s past e i.0 legal in
    let run = runs_are_queueings s past legal.2 i.0 start is in
    let new : item_run (e ∷ past) i.0
    ≡ (if starts_item past e i.0 then start_in e else if finishes start.number e then None else Some start) =
    on ∙ ap (λ o. if starts_item past e i.0 then start_in e else if ends_run e o then None else o) is in
    let finished : finishes start.number e ≡ true =
    at (starts_item past e i.0) refl (finishes start.number e)
    (subst (λ o. is_some (option_map (λ (start : Start). start.number) o) ≡ false) new free) in
    let gone : survives past e run.queueing ≡ false =
    subst (λ n. (not (finishes n e) && not (takes_back n e) && not (is_replaced past e run.queueing)) ≡ false)
    (sym (found_number past start.number run.queueing run.found))
    (ap (λ b. not b && not (takes_back start.number e) && not (is_replaced past e run.queueing)) finished) in
    record {
      queueing = run.queueing;
      ends = is_the_ended s past e run.queueing legal (there run.queueing run.found run.live) gone;
      released = ap (λ n. n == i.0) run.item ∙ eq-eqb i.0 i.0 refl;
    }
  where
    there : (x : Queueing) → queueing_at past start.number ≡ Some x → is_live past x ≡ true → In x (still_open past)
    there x at live =
        filter_in (is_live past) (queueings past) x (found (has_number start.number) (queueings past) x at).0 live

    at : (b : Bool) → starts_item past e i.0 ≡ b → (f : Bool)
        → is_some (option_map (λ (start : Start). start.number)
        (if b then start_in e else if f then None else Some start)) ≡ false
        → f ≡ true
    at true st f k =
        let begun = starts_some past e i.0 (start_in e) refl st in
        absurd (both_ways _ k (ap (λ o. is_some (option_map (λ (start : Start). start.number) o)) begun.1))
    at false st true k = refl
    at false st false k = cc

pub released_by : (s : Layout) (past : List Entry) (e : Entry) → IsLegal s (e ∷ past) → (n : ℕ) (c : Call)
    → is_unready past n c ≡ true → is_unready (e ∷ past) n c ≡ false → Releases past e c
released_by s past e legal n (call.CancelSync i) h free = run_over s past e i legal (item_run past i.0) refl h free
released_by s past e legal n c h free = released s past e n c legal h free
