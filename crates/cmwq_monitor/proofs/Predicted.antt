-- What an entry that would not be made says, and what one that starts a queueing names.
use Rattle.cmwq_monitor.specs.Common.{◌≡◌, ◌<◌, ℕ, true, false, true≢false, List, [], ◌∷◌, ◌++◌, None}
use Rattle.cmwq_monitor.specs.Common.{Option, Some, refl}
use Rattle.cmwq_monitor.specs.Common.{ap, sym, ◌∙◌, subst, IsTrue, same_Some, ItemId, Who, Caller, Worker, Call, Reply}
use Rattle.cmwq_monitor.specs.Common.{Entry, Mark, Queueing, Layout, fits, number_started, still_open, is_unstarted}
use Rattle.cmwq_monitor.specs.Common.{unstarted_queueing, queueing_at, is_done, IsLegal, past_of, entry_for, answer}
use Rattle.cmwq_monitor.specs.Common.{History, IsMark, IsThere}
use Rattle.std.specs.Prelude.{is_some}
use Rattle.cmwq_model.specs.declared.reply.Reply.TheVariants as reply
use Rattle.cmwq_model.specs.declared.id.CallerId.{CallerId}
use Rattle.cmwq_model.specs.declared.id.WorkerId.{WorkerId}
use Rattle.cmwq_model.specs.declared.record.Ticket.{Ticket}
use Rattle.cmwq_theory_steps.specs.Common.{end_of_ticket, ticket_of, waiting_for, waits_for}
use Rattle.cmwq_theory_steps.proofs.Starts.{starts_next}
use Rattle.cmwq_theory_steps.proofs.Unstarted.{next_unstarted}
use Rattle.cmwq_theory_steps.proofs.StartsListed.{IsFound}
use Rattle.cmwq_theory_steps.proofs.Ended.{found_open}
use Rattle.cmwq_theory_wakes.specs.Starting.{would_start}
use Rattle.cmwq_theory_wakes.proofs.Starting.{idle_start_alike}
use Rattle.cmwq_lemmas.proofs.Members.{found, of_in}
use Rattle.cmwq_refinement.proofs.PlacesFit.{open_there}
use Rattle.cmwq_model.specs.declared.call.Call.TheVariants as call
use Rattle.cmwq_model.proofs.Growing.{one_more_is_newest}
use Rattle.cmwq_monitor.specs.Participants.{View, is_caller}
use Rattle.cmwq_monitor.specs.Calls.{Extends, own_entry}
use Rattle.cmwq_monitor.specs.Steps.{is_start}
use Rattle.cmwq_monitor.specs.Starts.{StartsItem}
use Rattle.cmwq_monitor.proofs.Entering.{next_of_mark}
use Rattle.cmwq_monitor.proofs.Fitting.{worker_fits}

-- ---- what would not be answered

-- the end of a ticket that is not ready, or that the caller does not have, is not done
pub unready_not_done : (past : List Entry) (c : CallerId) (n : ℕ) (t : Ticket) → ticket_of past (Caller c) n ≡ Some t
    → is_some (waits_for past t.number t.call) ≡ true → (s : Layout)
    → is_done (entry_for s past (Caller c) (call.End n)).reply ≡ false
unfolding answer
unready_not_done past c n t of waits s =
    ap (λ o. is_done (end_of_ticket past o)) of ∙ at (waits_for past t.number t.call) waits
  where
    at : (o : Option ℕ) → is_some o ≡ true → is_done (waiting_for o) ≡ false
    at (Some m) k = refl
    at None k = cc

pub unknown_not_done : (past : List Entry) (c : CallerId) (n : ℕ) → ticket_of past (Caller c) n ≡ None → (s : Layout)
    → is_done (entry_for s past (Caller c) (call.End n)).reply ≡ false
unfolding answer
unknown_not_done past c n none s = ap (λ o. is_done (end_of_ticket past o)) none

start_number : (r : Reply) → is_start r ≡ is_some (number_started r)
start_number (reply.Started n) = refl
start_number (reply.StartedEnlist n x) = refl
start_number r = refl

pub would_not_start : (s : Layout) (past : List Entry) (w : WorkerId) → would_start s past w ≡ false
    → is_start (entry_for s past (Worker w) call.Take).reply ≡ false
would_not_start s past w not =
    start_number (entry_for s past (Worker w) call.Take).reply ∙ (idle_start_alike s past w ∙ not)

pub is_start_of : (r : Reply) → is_some (number_started r) ≡ true → is_start r ≡ true
is_start_of r h = start_number r ∙ h

-- ---- the mark of a start names an item of the layout

number_of_start : (r : Reply) → is_start r ≡ true → (n : ℕ) × (number_started r ≡ Some n)
number_of_start (reply.Started n) h = (n, refl)
number_of_start (reply.StartedEnlist n x) h = (n, refl)
number_of_start r h = absurd (true≢false (sym h))

start_names : (h : History) (who : Who) (call : Call) (m : Mark) → IsLegal h.layout (m.entry ∷ past_of h.entries)
    → IsMark h who call m → is_start m.entry.reply ≡ true
    → (item : ItemId) × (m.item ≡ Some item) × (item.0 < h.layout.items) × StartsItem (past_of h.entries) m.entry item
unfolding IsLegal
start_names h who call m legal is starts =
    let s = h.layout in
    let past = past_of h.entries in
    let n = number_of_start m.entry.reply starts in
    let st = starts_next s past m.entry n.0 legal n.1 in
    let x = st.queueing in
    let un : unstarted_queueing past x.item.0 ≡ Some x = next_unstarted s past legal.2 st.worker.pool x st.is_next in
    let stands = (found (is_unstarted past x.item.0) (still_open past) x un).0 in
    let there = open_there s past x legal.2 stands in
    let known : queueing_at past n.0 ≡ Some x =
    subst (λ k. queueing_at past k ≡ Some x) st.number
    (of_in (IsFound past) (still_open past) x (found_open past) stands) in
    let named = is.starts n.0 n.1 in
    let same : named.queueing ≡ x = same_Some named.queueing x (sym named.is_known ∙ known) in
    (x.item, named.is_its ∙ ap (λ (y : Queueing). Some y.item) same, there.item, (n.0, x, n.1, known, refl))

pub started_item : (s : Layout) (h : History) (own who : Who) (m : Mark) → h.layout ≡ s → own ≡ who
    → is_caller who ≡ false → IsThere s who → IsLegal h.layout (past_of h.entries)
    → IsMark h own call.Take m → is_start m.entry.reply ≡ true → (item : ItemId) × (m.item ≡ Some item)
    × (item.0 < s.items) × StartsItem (past_of h.entries) m.entry item
started_item s h own who m layout same works there legal is starts =
    let fit : IsTrue (fits h.layout own call.Take) =
    rw (layout, same) (worker_fits s who call.Take works there refl refl) in
    let named = start_names h own call.Take m (next_of_mark h own call.Take m fit legal is).legal is starts in
    (named.0, named.1, subst (λ (l : Layout). named.0.0 < l.items) layout named.2, named.3)

-- what a take starts after this history, it starts after what it sees of it
pub starts_there : (s : Layout) (v w : View) (log : List Entry) (r : Reply) (item : ItemId)
    (x : Extends s v call.Take r w) → w.seen ≡ log ++ own_entry s log v call.Take ∷ []
    → StartsItem (past_of log) (own_entry s log v call.Take) item
    → StartsItem (past_of x.before) (own_entry s x.before v call.Take) item
starts_there s v w log r item x seen is =
    let all : own_entry s log v call.Take ∷ past_of log ≡ own_entry s x.before v call.Take ∷ past_of x.before =
    sym (one_more_is_newest log (own_entry s log v call.Take)) ∙ ap past_of (sym seen ∙ x.ends)
    ∙ one_more_is_newest x.before (own_entry s x.before v call.Take) in
    let same : past_of log ≡ past_of x.before = cc all in
    subst (λ (past : List Entry). StartsItem past (entry_for s past v.who call.Take) item) same is
