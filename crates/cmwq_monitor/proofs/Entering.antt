-- What a call of one entry leaves.
use Rattle.cmwq_monitor.specs.Common.{◌≡◌, ◌+◌, ◌≤◌, List, [], ◌∷◌, ◌++◌, refl, ap, sym, ◌∙◌, subst, arith, append-nil}
use Rattle.cmwq_monitor.specs.Common.{IsTrue, Bool, filter-append, IsPrefix, Who, Call, Entry, Mark, Layout, fits}
use Rattle.cmwq_monitor.specs.Common.{serial_of, is_by, IsLegal, past_of, has_room, History, IsMark, takes}
use Rattle.cmwq_monitor.specs.Common.{serials_rise}
use Rattle.cmwq_publish.specs.Next.{IsNextMark}
use Rattle.cmwq_publish.specs.Publications.{Publication}
use Rattle.cmwq_monitor.specs.Participants.{View, Gains, made_by}
use Rattle.cmwq_monitor.specs.Calls.{Extends, own_entry}
use Rattle.cmwq_monitor.specs.Steps.{InStep}
use Rattle.cmwq_publish.proofs.Beginnings.{shorter_begins}
use Rattle.cmwq_monitor.proofs.Beginnings.{prefix_of_prefix}
use Rattle.cmwq_model.proofs.Growing.{one_more_is_newest}
use Rattle.cmwq_monitor.proofs.Entries.{made_length, made_same, made_own}

-- the entry of a mark may be published next
pub next_of_mark : (h : History) (who : Who) (call : Call) (m : Mark) → IsTrue (fits h.layout who call)
    → IsLegal h.layout (past_of h.entries) → IsMark h who call m → IsNextMark h.layout h.entries m
unfolding IsLegal
next_of_mark h who call m fit legal is = record {
  legal = subst (λ (e : Entry). IsLegal h.layout (e ∷ past_of h.entries)) (sym is.is_next) (fit, refl, legal);
  bits_are = is.bits_are;
}

-- who counts as many entries as the history has of it, and has seen no fewer, has seen all of them
pub made_all : (v : View) (log : List Entry) → v.serial ≤ serial_of (past_of v.seen) v.who
    → serial_of (past_of log) v.who ≡ v.serial → IsPrefix v.seen log → made_by v.who log ≡ made_by v.who v.seen
made_all v log own book older =
    made_same v.who v.seen log older (let a = made_length v.who log in let b = made_length v.who v.seen in omega arith)

abbrev pub view_after : Layout → List Entry → View → Call → View
view_after s log v call = record { who = v.who; serial = v.serial + 1; seen = log ++ own_entry s log v call ∷ [] }

pub serial_after : (s : Layout) (log : List Entry) (v : View) (call : Call) → serial_of (past_of log) v.who ≡ v.serial
    → serial_of (past_of (log ++ own_entry s log v call ∷ [])) v.who ≡ v.serial + 1
serial_after s log v call book =
    let e = own_entry s log v call in
    ap (λ past. serial_of past v.who) (one_more_is_newest log e) ∙ (serials_rise (past_of log) e).0
    ∙ ap (λ n. n + 1) book

legal_after : (s : Layout) (log : List Entry) (v : View) (call : Call) → IsTrue (fits s v.who call)
    → IsLegal s (past_of log) → IsLegal s (past_of (log ++ own_entry s log v call ∷ []))
unfolding IsLegal
legal_after s log v call fit legal = rw (one_more_is_newest log (own_entry s log v call)) (fit, refl, legal)

pub extends : (s : Layout) (v : View) (log : List Entry) (call : Call)
    → v.serial ≤ serial_of (past_of v.seen) v.who → InStep log v → IsPrefix v.seen (log ++ own_entry s log v call ∷ [])
    → IsTrue (fits s v.who call) → IsLegal s (past_of log)
    → Extends s v call (own_entry s log v call).reply (view_after s log v call)
extends s v log call own step pre fit legal =
    let e = own_entry s log v call in
    let older = shorter_begins v.seen log (log ++ e ∷ []) pre (prefix_of_prefix log (e ∷ [])) step.1 in
    let made : made_by v.who (log ++ e ∷ []) ≡ made_by v.who v.seen ++ e ∷ [] =
    filter-append (is_by v.who) log (e ∷ []) ∙ ap (λ xs. xs ++ made_by v.who (e ∷ [])) (made_all v log own step.0 older)
    ∙ ap (λ xs. made_by v.who v.seen ++ xs) (made_own v.who e refl) in
    record {
      before = log;
      older = older;
      ends = refl;
      reply = refl;
      serial = step.0;
      gains = record { same = refl; serial = refl; older = pre; made = made };
      counts = serial_after s log v call step.0;
      legal = legal_after s log v call fit legal;
    }

pub step_after : (s : Layout) (v : View) (log : List Entry) (call : Call) → InStep log v
    → InStep (log ++ own_entry s log v call ∷ []) (view_after s log v call)
step_after s v log call step = (serial_after s log v call step.0, omega arith)

-- a participant that made no entry has seen more of the history
pub gains_seen : (v : View) (log : List Entry) → v.serial ≤ serial_of (past_of v.seen) v.who → InStep log v
    → IsPrefix v.seen log → Gains v [] (record v { seen = log })
gains_seen v log own step older = record {
  same = refl;
  serial = omega arith;
  older = older;
  made = made_all v log own step.0 older ∙ sym (append-nil (made_by v.who v.seen));
}

-- what is published then is the history with the entry of the call
pub shown_is : (s : Layout) (log now : List Entry) (before after : Publication) (v : View) (call : Call) (m : Mark)
    → m.entry ≡ own_entry s log v call → before.entries ≡ log
    → after ≡ record before { entries = before.entries ++ m.entry ∷ [] } → now ≡ after.entries
    → now ≡ log ++ own_entry s log v call ∷ []
shown_is s log now before after v call m entry same more is =
    is ∙ ap (λ (p : Publication). p.entries) more ∙ ap (λ xs. xs ++ m.entry ∷ []) same ∙ ap (λ e. log ++ e ∷ []) entry

-- what the Book says of room is said of the history under the lock
pub room_is : (s : Layout) (h : History) (log : List Entry) (own who : Who) (call : Call) (b : Bool) → h.layout ≡ s
    → h.room ≡ s.room → h.entries ≡ log → own ≡ who → b ≡ takes h own call → has_room s s.room (past_of log) who call
    ≡ b
room_is s h log own who call b layout room entries same is =
    sym (is ∙ ap (λ l. has_room l h.room (past_of h.entries) own call) layout
    ∙ ap (λ n. has_room s n (past_of h.entries) own call) room
    ∙ ap (λ es. has_room s s.room (past_of es) own call) entries
    ∙ ap (λ w. has_room s s.room (past_of log) w call) same)
