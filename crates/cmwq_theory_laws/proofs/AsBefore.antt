-- Where widths don't change, what is active is what was active before widths could change.
use Rattle.cmwq_theory_laws.specs.Common.{cause_of, and-false, ◌≡◌, ℕ, Bool, true, false, not, ◌&&◌, ◌||◌, List, []}
use Rattle.cmwq_theory_laws.specs.Common.{◌∷◌, ◌++◌, length, filter, find, count_by, Option, Some, None, option_to_list}
use Rattle.cmwq_theory_laws.specs.Common.{nat_lt, refl, sym, ap, ap₂, ◌∙◌, arith, if◌then◌else◌, option_map_or}
use Rattle.cmwq_theory_laws.specs.Common.{AllByRecursion, ltb-true, lt-ltb, nat_tests, PoolId, Who, Caller, Worker}
use Rattle.cmwq_theory_laws.specs.Common.{Call, Reply, Entry, Queueing, Ticket, Layout, first_width, is_freezable}
use Rattle.cmwq_theory_laws.specs.Common.{pool_at, same_pool, serial_of, is_started, width, max_active, is_frozen}
use Rattle.cmwq_theory_laws.specs.Common.{frozen_after, sets_max, width_told, queueings, is_live, still_open, is_ahead}
use Rattle.cmwq_theory_laws.specs.Common.{is_below_max_active, is_active, is_newly_active, is_listed, became_active}
use Rattle.cmwq_theory_laws.specs.Common.{worklist, next, is_startable, gives_ticket, ticket_for, ticket_in, tickets}
use Rattle.cmwq_theory_laws.specs.Common.{is_done, is_unended, unended_tickets, destroys, is_destroy_of, is_ticket}
use Rattle.cmwq_theory_laws.specs.Common.{ticket_of, ends_destroy, is_gone, queue_answer, modify_answer, wait_answer}
use Rattle.cmwq_theory_laws.specs.Common.{answer, take_answer, IsLegal, entry_for, find_holds, All_map, All_append}
use Rattle.cmwq_theory_laws.specs.Common.{All_each, filter_same, active_go_on, Cause}
use Rattle.cmwq_model.specs.declared.call.Call.TheVariants as call
use Rattle.cmwq_theory_laws.specs.FirstWidths.{queue_before, modify_before, wait_before, is_first, is_newly_first}
use Rattle.cmwq_theory_laws.specs.FirstWidths.{ever_first, is_listed_before, next_before, HasFirstWidths, is_old}
use Rattle.cmwq_theory_laws.specs.FirstWidths.{take_before, answer_before, entry_before, IsLegalBefore}
use Rattle.cmwq_theory_steps.proofs.Causes as cause
use Rattle.cmwq_theory_steps.proofs.Ahead.{fewer_ahead}
use Rattle.cmwq_lemmas.proofs.Passing.{all_kept}

-- ---- with the layout's widths

abbrev IsAsBefore : Layout → List Entry → Queueing → Type 0
IsAsBefore s past x = is_active s past x ≡ is_first s past x

goes_on_as_before : (s : Layout) (past : List Entry) (e : Entry) (x : Queueing) → width s (e ∷ past) x.place.queue.0
    ≡ first_width s x.place.queue.0 → IsAsBefore s past x
    → is_active s (e ∷ past) x ≡ (is_live (e ∷ past) x && (is_active s past x || is_below_max_active s (e ∷ past) x))
    → is_active s (e ∷ past) x ≡ is_first s (e ∷ past) x
goes_on_as_before s past e x wide was is =
    is ∙ ap₂ (λ a w. is_live (e ∷ past) x && (a || nat_lt (count_by (is_ahead x) (still_open (e ∷ past))) w)) was wide
    ∙ ap (λ b. is_live (e ∷ past) x && b) (at (is_first s past x) refl)
  where
    at : (b : Bool) → is_first s past x ≡ b
        → (b || nat_lt (count_by (is_ahead x) (still_open (e ∷ past))) (first_width s x.place.queue.0))
        ≡ nat_lt (count_by (is_ahead x) (still_open (e ∷ past))) (first_width s x.place.queue.0)
    at true h =
        let less = ltb-true (count_by (is_ahead x) (still_open past)) (first_width s x.place.queue.0) (grind arith) in
        sym (lt-ltb _ _ (omega (arith, fewer_ahead past e x (ltb-true x.number (length past) (grind arith)))))
    at false h = refl

-- of any queueing
pub active_as_before : (s : Layout) (past : List Entry) (x : Queueing) → HasFirstWidths s past → IsAsBefore s past x
unfolding is_active
active_as_before s [] x wide = grind (arith, nat_tests)
active_as_before s (e ∷ past) x wide =
    goes_on_as_before s past e x (wide.0 x.place.queue.0) (active_as_before s past x wide.1) (active_go_on s past e x)

-- the lists of what became active, too
pub activated_as_before : (s : Layout) (past : List Entry) → HasFirstWidths s past
    → became_active s past ≡ ever_first s past
unfolding became_active ever_first
activated_as_before s [] wide = refl
activated_as_before s (e ∷ past) wide = ap₂ (λ xs ys. xs ++ ys) (activated_as_before s past wide.1)
    (filter_same (is_newly_active s past e) (is_newly_first s past e) (queueings (e ∷ past))
    (All_each _ (queueings (e ∷ past))
    (λ x. ap₂ (λ a b. a && not b) (active_as_before s (e ∷ past) x wide) (active_as_before s past x wide.1))))

pub all_as_before : (s : Layout) (past : List Entry) → HasFirstWidths s past
    → ((x : Queueing) → is_active s past x ≡ is_first s past x) × (became_active s past ≡ ever_first s past)
all_as_before s past wide = ((λ x. active_as_before s past x wide), activated_as_before s past wide)

-- ---- histories without the new calls

unset : (e : Entry) (q : ℕ) (c : Call) → is_old c ≡ true → sets_max c q ≡ false
unset e q (call.SetMax r n) h = cc
unset e q c h = refl

abbrev AreOld : List Entry → Type 0
AreOld past = AllByRecursion (λ e. is_old e.call ≡ true) past

-- what they are answered freezes nothing
abbrev AreKept : List Entry → Type 0
AreKept past = AllByRecursion (λ e. frozen_after e.reply false ≡ false) past

never_frozen : (past : List Entry) → AreKept past → is_frozen past ≡ false
unfolding is_frozen
never_frozen [] h = refl
never_frozen (e ∷ past) h = ap (frozen_after e.reply) (never_frozen past h.1) ∙ h.0

max_kept : (s : Layout) (past : List Entry) (q : ℕ) → AreOld past → max_active s past q ≡ first_width s q
unfolding max_active
max_kept s [] q h = refl
max_kept s (e ∷ past) q h =
    ap (λ b. option_map_or (λ n. n) (if b then width_told e.reply else None) (max_active s past q))
    (unset e q e.call h.0) ∙ max_kept s past q h.1

width_kept : (s : Layout) (past : List Entry) (q : ℕ) → AreOld past → AreKept past → width s past q ≡ first_width s q
unfolding width
width_kept s past q old kept =
    ap (λ b. if is_freezable s q && b then 0 else max_active s past q) (never_frozen past kept)
    ∙ ap (λ b. if b then 0 else max_active s past q) (and-false (is_freezable s q)) ∙ max_kept s past q old

widths_kept : (s : Layout) (past : List Entry) → AreOld past → AreKept past → HasFirstWidths s past
widths_kept s [] old kept = tt
widths_kept s (e ∷ past) old kept = ((λ q. width_kept s (e ∷ past) q old kept), widths_kept s past old.1 kept.1)

-- the next is the same, so each answer is
next_as_before : (s : Layout) (past : List Entry) (p : PoolId) → HasFirstWidths s past
    → next s past p ≡ next_before s past p
unfolding next worklist next_before
next_as_before s past p wide =
    let listed =
    All_each _ (became_active s past)
    (λ x. ap (λ b. b && not (is_started past x.number) && same_pool (pool_at s x.place) p)
    (active_as_before s past x wide)) in
    ap (find (is_startable past))
    (filter_same (is_listed s past p) (is_listed_before s past p) (became_active s past) listed
    ∙ ap (filter (is_listed_before s past p)) (activated_as_before s past wide))

-- ---- no queue is gone

none_given : (q n : ℕ) (who : Who) (c : Call) (b : Bool) → destroys q c ≡ false
    → AllByRecursion (λ t. is_destroy_of q t ≡ false) (option_to_list (if b then ticket_for who c n else None))
none_given q n (Caller d) c true h = (h, tt)
none_given q n who c b h = grind arith

no_destroys : (past : List Entry) (q : ℕ) → AllByRecursion (λ e. destroys q e.call ≡ false) past
    → AllByRecursion (λ t. is_destroy_of q t ≡ false) (tickets past)
unfolding tickets
no_destroys [] q h = tt
no_destroys (e ∷ past) q h =
    All_append (λ t. is_destroy_of q t ≡ false) (tickets past) (option_to_list (ticket_in e (length past)))
    (no_destroys past q h.1) (none_given q (length past) e.who e.call (gives_ticket e.reply) h.0)

no_end : (past : List Entry) (q : ℕ) (who : Who) (c : Call)
    → AllByRecursion (λ t. is_destroy_of q t ≡ false) (tickets past) → ends_destroy past q who c ≡ false
no_end past q who (call.End n) all = at (ticket_of past who n) refl
  where
    at : (o : Option Ticket) → ticket_of past who n ≡ o → option_map_or (is_destroy_of q) o false ≡ false
    at None h = refl
    at (Some t) h = (find_holds (λ u. is_destroy_of q u ≡ false) (is_ticket who n) (unended_tickets past) t
        (all_kept (λ u. is_destroy_of q u ≡ false) (is_unended past) (tickets past) all) h).holds
no_end past q who c all = refl

pub none_gone : (past : List Entry) (q : ℕ) → AllByRecursion (λ e. destroys q e.call ≡ false) past
    → is_gone past q ≡ false
unfolding is_gone
none_gone [] q h = refl
none_gone (e ∷ past) q h =
    ap₂ (λ a b. a || (is_done e.reply && b)) (none_gone past q h.1)
    (no_end past q e.who e.call (no_destroys past q h.1)) ∙ and-false (is_done e.reply)

old_destroys : (q : ℕ) (c : Call) → is_old c ≡ true → destroys q c ≡ false
old_destroys q (call.Destroy r) h = cc
old_destroys q c h = refl

old_none_gone : (past : List Entry) (q : ℕ) → AreOld past → is_gone past q ≡ false
old_none_gone past q old =
    none_gone past q (All_map (λ e. is_old e.call ≡ true) _ past (λ e is. old_destroys q e.call is) old)

-- ---- each answer to such a call is as it was

answer_as_before : (s : Layout) (past : List Entry) (who : Who) (c : Call) → HasFirstWidths s past
    → ((q : ℕ) → is_gone past q ≡ false) → answer s past who c ≡ answer_before s past who c
unfolding answer take_answer take_before queue_answer queue_before modify_answer modify_before wait_answer wait_before
answer_as_before s past who (call.Queue i q c) wide none = rw (none q.0) refl
answer_as_before s past who (call.Delay i q c t) wide none = rw (none q.0) refl
answer_as_before s past who (call.Modify i q c t) wide none = rw (none q.0) refl
answer_as_before s past who (call.Flush q) wide none = rw (none q.0) refl
answer_as_before s past who (call.Drain q) wide none = rw (none q.0) refl
answer_as_before s past (Worker w) call.Take wide none = rw (next_as_before s past w.pool wide) refl
answer_as_before s past who c wide none = refl

kept_by_cause : (s : Layout) (past : List Entry) (who : Who) (c : Call) (r : Reply) → Cause s past who c r
    → is_old c ≡ true → frozen_after r false ≡ false
kept_by_cause s past who c r (cause.freezes w free) h = cc
kept_by_cause s past who c r other h = refl

legal_kept : (s : Layout) (past : List Entry) → AreOld past → IsLegal s past → AreKept past
unfolding IsLegal
legal_kept s [] old legal = tt
legal_kept s (e ∷ past) old legal =
    (kept_by_cause s past e.who e.call e.reply (cause_of s past e legal) old.0, legal_kept s past old.1 legal.2)

pub legal_as_before : (s : Layout) (past : List Entry) → AreOld past → (IsLegal s past → IsLegalBefore s past)
    × (IsLegalBefore s past → IsLegal s past)
unfolding IsLegal IsLegalBefore
legal_as_before s [] old = ((λ h. tt), (λ h. tt))
legal_as_before s (e ∷ past) old =
    let earlier = legal_as_before s past old.1 in
    let same : IsLegal s past → entry_for s past e.who e.call ≡ entry_before s past e.who e.call =
    λ legal. ap (λ r. record { who = e.who; serial = serial_of past e.who; call = e.call; reply = r })
    (answer_as_before s past e.who e.call (widths_kept s past old.1 (legal_kept s past old.1 legal))
    (λ q. old_none_gone past q old.1)) in
    ((λ h. (h.0, h.1 ∙ same h.2, earlier.0 h.2)), (λ h. (h.0, h.1 ∙ sym (same (earlier.1 h.2)), earlier.1 h.2)))
