-- The unended tickets, after one more entry.
use Rattle.std.specs.Prelude.{if◌then◌else◌}
use Rattle.cmwq_theory_steps.specs.Common.{◌≡◌, ◌+◌, ◌==◌, ◌&&◌, ◌∷◌, ◌++◌, [], ℕ, Bool, true, false, not, List}
use Rattle.cmwq_theory_steps.specs.Common.{Some, None, length, filter, find, option_to_list, refl, sym, ap, ap₂}
use Rattle.cmwq_theory_steps.specs.Common.{◌∙◌, subst, arith, nat_tests, append-nil, Entry, Layout, Ticket, Who}
use Rattle.cmwq_theory_steps.specs.Common.{IsLegal}
use Rattle.cmwq_theory_steps.specs.Common.{Call, Caller, Worker, cond, ends, gives_ticket, is_done, is_end_of}
use Rattle.cmwq_theory_steps.specs.Common.{same_who, ticket_for, ticket_in, ticket_of, unended_tickets}
use Rattle.cmwq_theory_steps.specs.Histories.{one}
use Rattle.cmwq_theory_steps.specs.TicketSteps.{is_kept, passes, ticket_asked, ticket_ended}
use Rattle.cmwq_theory_steps.proofs.TicketSteps.{is_done_reply, tickets_go_on}
use Rattle.cmwq_model.specs.Prelude.{is_drain}
use Rattle.cmwq_model.specs.declared.call.Call.TheVariants as call
use Rattle.cmwq_model.specs.declared.id.CallerId.{CallerId}
use Rattle.cmwq_model.specs.declared.reply.Reply.{Reply}
use Rattle.cmwq_core.specs.History.{History, next_entry, past_in}
use Rattle.std.proofs.lemmas.List.{length-reverse}
use Rattle.std.proofs.lemmas.List.Folds.{find-append}
use Rattle.std.proofs.lemmas.Option.{same_Some}
use Rattle.cmwq_refinement.proofs.Numbers.{all_in, filter_all, found}
use Rattle.cmwq_theory_steps.proofs.Causes.{Cause, cause_of}
use Rattle.cmwq_theory_steps.proofs.Causes as cause
use Rattle.cmwq_board.specs.Asked.{is_single, is_wait}
use Rattle.cmwq_dispatch.specs.Asleep.{SleepOn}
use Rattle.cmwq_dispatch.specs.Dispatched.{Dispatched, past_now}
use Rattle.cmwq_dispatch.specs.declared.wakes.Wakes.{Wakes}
use Rattle.cmwq_state.specs.Tails.{Tailed}
use Rattle.cmwq_board.specs.Boarded.{board_of}
use Rattle.cmwq_board.specs.Steps.{Makes, after_call}
use Rattle.cmwq_board.specs.declared.lending.Lending.{Lending}
use Rattle.cmwq_board.specs.declared.news.News.{News}
use Rattle.cmwq_board.specs.Lent.{EndsTicketOf, GivesBy, SameTickets, TicketsGoOn, is_of_drain, is_other}
use Rattle.cmwq_board.specs.Lent.{unended_drains}

-- ---- one that neither ends nor gives a ticket

pub same_tickets : (old new : List Entry) (e : Entry) → TicketsGoOn e old new → ((t : Ticket) → ends t e ≡ false)
    → ticket_in e (length old) ≡ None → SameTickets old new
same_tickets old new e go ends_none given =
    go ∙ ap (λ o. filter (is_kept e) (unended_tickets old) ++ option_to_list o) given
    ∙ append-nil (filter (is_kept e) (unended_tickets old))
    ∙ filter_all (is_kept e) (unended_tickets old)
    (all_in (λ t. is_kept e t ≡ true) (unended_tickets old) (λ t i. ap not (ends_none t)))

-- a worker's
worker_ends : (who : Who) (t : Ticket) (x y : Bool) (w : _) → who ≡ Worker w
    → ((same_who who (Caller t.caller) && x) && y) ≡ false
worker_ends who t x y w is = rw is refl

worker_gives : (who : Who) (cl : Call) (n : ℕ) (b : Bool) (w : _) → who ≡ Worker w
    → (if b then ticket_for who cl n else None) ≡ None
worker_gives who cl n true w is = rw is refl
worker_gives who cl n false w is = refl

pub same_by_worker : (old new : List Entry) (e : Entry) (w : _) → TicketsGoOn e old new → e.who ≡ Worker w
    → SameTickets old new
same_by_worker old new e w go is =
    same_tickets old new e go (λ t. worker_ends e.who t (is_end_of t.number e.call) (is_done e.reply) w is)
    (worker_gives e.who e.call (length old) (gives_ticket e.reply) w is)

-- one of another call than an end
not_end : (n : ℕ) (x y : Bool) (cl : Call) → is_end_of n cl ≡ false → ((x && is_end_of n cl) && y) ≡ false
not_end n true y cl is = rw is refl
not_end n false y cl is = refl

pub same_by_call : (old new : List Entry) (e : Entry) → TicketsGoOn e old new
    → ((n : ℕ) → is_end_of n e.call ≡ false) → gives_ticket e.reply ≡ false → SameTickets old new
same_by_call old new e go none gives =
    same_tickets old new e go
    (λ t. not_end t.number (same_who e.who (Caller t.caller)) (is_done e.reply) e.call (none t.number))
    (ap (λ b. if b then ticket_for e.who e.call (length old) else None) gives)

-- only waits are given tickets
gives_to_waits : (s : Layout) (past : List Entry) (who : Who) (c : Call) (r : Reply) → Cause s past who c r
    → gives_ticket r ≡ true → is_wait c ≡ true
gives_to_waits s past who c r (cause.flushed w q free there) h = refl
gives_to_waits s past who c r (cause.drained w q free there) h = refl
gives_to_waits s past who c r (cause.destroyed w q free there new none) h = refl
gives_to_waits s past who c r (cause.item_flushed w i free some) h = refl
gives_to_waits s past who c r (cause.delayed_queued w i free clear was) h = refl
gives_to_waits s past who c r (cause.delayed_flushed w i free none some) h = refl
gives_to_waits s past who c r (cause.sync_cancelled w i x free found) h = refl
gives_to_waits s past who c r (cause.sync_unbooked w i free none was) h = refl
gives_to_waits s past who c r (cause.sync_waits w i free none idle) h = refl
gives_to_waits s past who c r other h = cc

gives_none : (s : Layout) (past : List Entry) (e : Entry) → IsLegal s (e ∷ past) → is_wait e.call ≡ false
    → gives_ticket e.reply ≡ false
gives_none s past e legal plain = at (gives_ticket e.reply) refl
  where
    at : (b : Bool) → gives_ticket e.reply ≡ b → b ≡ false
    at false is = refl
    at true is =
        let bad : true ≡ false =
        sym (gives_to_waits s past e.who e.call e.reply (cause_of s past e legal) is) ∙ plain in cc

-- neither a wait nor an end
pub same_by_plain : (s : Layout) (old new : List Entry) (e : Entry) → TicketsGoOn e old new → IsLegal s (e ∷ old)
    → is_wait e.call ≡ false → ((n : ℕ) → is_end_of n e.call ≡ false) → SameTickets old new
same_by_plain s old new e go legal plain none =
    same_by_call old new e go none (gives_none s old e legal plain)

single_is_plain : (c : Call) → is_single c ≡ true → is_wait c ≡ false
single_is_plain (call.Flush q) single = cc
single_is_plain (call.Drain q) single = cc
single_is_plain (call.Destroy q) single = cc
single_is_plain (call.FlushItem i) single = cc
single_is_plain (call.FlushDelayed i) single = cc
single_is_plain (call.CancelSync i) single = cc
single_is_plain c single = refl

single_is_no_end : (c : Call) (n : ℕ) → is_single c ≡ true → is_end_of n c ≡ false
single_is_no_end (call.End t) n single = cc
single_is_no_end c n single = refl

pub same_by_single : (s : Layout) (old new : List Entry) (e : Entry) → TicketsGoOn e old new → IsLegal s (e ∷ old)
    → is_single e.call ≡ true → SameTickets old new
same_by_single s old new e go legal single =
    same_by_plain s old new e go legal (single_is_plain e.call single) (λ n. single_is_no_end e.call n single)

pub grown : (d n : Dispatched) (e : Entry) → past_now n ≡ e ∷ past_now d
    → length n.history.entries ≡ length d.history.entries + 1
grown d n e past =
    let old = length-reverse d.history.entries in
    let new = length-reverse n.history.entries in
    let more : length (past_now n) ≡ length (past_now d) + 1 = ap (λ (p : List Entry). length p) past ∙ omega arith in
    omega (arith, old, new, more)

legal_entered : (d n : Dispatched) (e : Entry) → IsLegal n.history.layout (past_now n)
    → past_now n ≡ e ∷ past_now d → n.history.layout ≡ d.history.layout → IsLegal d.history.layout (e ∷ past_now d)
legal_entered d n e legal past layout =
    subst (λ (s : Layout). IsLegal s (e ∷ past_now d)) layout (subst (IsLegal n.history.layout) past legal)

pub single_entered : (d n : Dispatched) (e : Entry) → TicketsGoOn e (past_now d) (past_now n)
    → IsLegal n.history.layout (past_now n) → past_now n ≡ e ∷ past_now d → n.history.layout ≡ d.history.layout
    → is_single e.call ≡ true → SameTickets (past_now d) (past_now n)
single_entered d n e go legal past layout single =
    same_by_single d.history.layout (past_now d) (past_now n) e go (legal_entered d n e legal past layout) single

pub plain_entered : (d n : Dispatched) (e : Entry) → TicketsGoOn e (past_now d) (past_now n)
    → IsLegal n.history.layout (past_now n) → past_now n ≡ e ∷ past_now d → n.history.layout ≡ d.history.layout
    → is_wait e.call ≡ false → ((k : ℕ) → is_end_of k e.call ≡ false) → SameTickets (past_now d) (past_now n)
plain_entered d n e go legal past layout plain none =
    same_by_plain d.history.layout (past_now d) (past_now n) e go (legal_entered d n e legal past layout) plain none

-- ---- a wait's call

wait_is_no_end : (cl : Call) (n : ℕ) → is_wait cl ≡ true → is_end_of n cl ≡ false
wait_is_no_end (call.End t) n wait = cc
wait_is_no_end cl n wait = refl

pub given_by_call : (h : History) (c : CallerId) (cl : Call) (new : List Entry)
    → TicketsGoOn (next_entry h (Caller c) cl) (past_in h) new → is_wait cl ≡ true
    → GivesBy (next_entry h (Caller c) cl).reply (record { caller = c; call = cl; number = length h.entries })
    (past_in h) new
given_by_call h c cl new go wait =
    let e = next_entry h (Caller c) cl in
    go
    ∙ ap₂ (λ xs n. xs ++ option_to_list (ticket_in e n))
    (filter_all (is_kept e) (unended_tickets (past_in h))
    (all_in (λ t. is_kept e t ≡ true) (unended_tickets (past_in h))
    (λ t i. ap not
    (not_end t.number (same_who (Caller c) (Caller t.caller)) (is_done e.reply) cl (wait_is_no_end cl t.number wait)))))
    (length-reverse h.entries)

-- ---- the end of a ticket

kept_is_other : (t u : Ticket) → not (((t.caller.0 == u.caller.0) && (t.number == u.number)) && true) ≡ is_other t u
kept_is_other t u = grind (arith, nat_tests)

filter_each : {X : Type 0} (p q : X → Bool) (xs : List X) → ((x : X) → p x ≡ q x) → filter p xs ≡ filter q xs
filter_each p q [] same = refl
filter_each p q (x ∷ xs) same = ap₂ (λ b ys. cond b (x ∷ ys) ys) (same x) (filter_each p q xs same)

done_gives : (e : Entry) (n : ℕ) → is_done e.reply ≡ true → ticket_in e n ≡ None
done_gives e n done = rw (is_done_reply e.reply done) refl

pub ended_by_call : (old new : List Entry) (e : Entry) (t : Ticket) → TicketsGoOn e old new → e.who ≡ Caller t.caller
    → e.call ≡ call.End t.number → is_done e.reply ≡ true → EndsTicketOf t old new
ended_by_call old new e t go who ended done =
    go ∙ ap (λ o. filter (is_kept e) (unended_tickets old) ++ option_to_list o) (done_gives e (length old) done)
    ∙ append-nil (filter (is_kept e) (unended_tickets old))
    ∙ filter_each (is_kept e) (is_other t) (unended_tickets old)
    (λ u. rw (who, ended, done) (kept_is_other t u))

ended_is : (past : List Entry) (e : Entry) (t : Ticket) → e.who ≡ Caller t.caller → e.call ≡ call.End t.number
    → is_done e.reply ≡ true → ticket_of past (Caller t.caller) t.number ≡ Some t → ticket_ended past e ≡ Some t
ended_is past e t who ended done held =
    ap (λ b. if b then ticket_asked past e.who e.call else None) done
    ∙ ap₂ (ticket_asked past) who ended ∙ held

pub ended_counts : (s : Layout) (past : List Entry) (e : Entry) (t : Ticket) → IsLegal s (e ∷ past)
    → e.who ≡ Caller t.caller → e.call ≡ call.End t.number → is_done e.reply ≡ true
    → ticket_of past (Caller t.caller) t.number ≡ Some t
    → unended_drains (e ∷ past) + (if is_drain t.call then 1 else 0) ≡ unended_drains past
ended_counts s past e t legal who ended done held =
    let law = tickets_go_on s past e is_of_drain legal in
    ap (λ o. unended_drains (e ∷ past) + one (passes is_of_drain o)) (sym (ended_is past e t who ended done held))
    ∙ law ∙ ap (λ o. unended_drains past + one (passes is_of_drain o)) (done_gives e (length past) done)
    ∙ zero_more (unended_drains past)
  where
    zero_more : (n : ℕ) → n + 0 ≡ n
    zero_more n = omega arith

-- ---- what is found under a number stays

pub still_found : {X : Type 0} (p : X → Bool) (xs ys : List X) (x : X) → find p xs ≡ Some x → find p (xs ++ ys) ≡ Some x
still_found p xs ys x is = find-append p xs ys ∙ rw is refl

kept_step : {X : Type 0} (p q : X → Bool) (y : X) (ys : List X) (x : X)
    → (find p ys ≡ Some x → find p (filter q ys) ≡ Some x) → find p (y ∷ ys) ≡ Some x → q x ≡ true
    → find p (filter q (y ∷ ys)) ≡ Some x
kept_step {X} p q y ys x later is passes = at (p y) refl (q y) refl
  where
    found_at : (b : Bool) → p y ≡ b → (if b then Some y else find p ys) ≡ Some x
    found_at b py = sym (ap (λ c. if c then Some y else find p ys) py) ∙ is

    at : (b : Bool) → p y ≡ b → (c : Bool) → q y ≡ c → find p (filter q (y ∷ ys)) ≡ Some x
    at true py true qy = rw (qy, py) (found_at true py)
    at true py false qy =
        let same : y ≡ x = same_Some y x (found_at true py) in
        absurd (let bad : false ≡ true = sym qy ∙ ap q same ∙ passes in cc)
    at false py true qy = rw (qy, py) (later (found_at false py))
    at false py false qy = rw qy (later (found_at false py))

pub kept_found : {X : Type 0} (p q : X → Bool) (xs : List X) (x : X) → find p xs ≡ Some x → q x ≡ true
    → find p (filter q xs) ≡ Some x
kept_found p q [] x is passes = cc
kept_found p q (y ∷ ys) x is passes = kept_step p q y ys x (λ h. kept_found p q ys x h passes) is passes

-- a call that is made on the parts of a board is made on the board
pub makes_in : (d n : Dispatched) (t u : Tailed Entry) (lent : List Lending) (news : News) (who : Who) (c : Call)
    (v w : Wakes)
    → n ≡ record (after_call d who c) { asleep = n.asleep } → SleepOn who d.asleep n.asleep v w
    → u ≡ record t { all = n.history.entries }
    → Makes who c (board_of d t.given t.room lent news) (board_of n u.given u.room lent news) v w
makes_in d n t u lent news who c v w made named kept = (
  record { made = made; named = named },
  ap (λ (x : Tailed Entry). board_of n x.given x.room lent news) kept,
)
