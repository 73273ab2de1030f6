-- Each entry that asks for the end of a wait has one mark in a chart.
use Rattle.std.proofs.Common.{◌≡◌, ℕ, suc, ◌+◌, ◌<◌, ◌≤◌, ◌==◌, Bool, true, false, not, List, []}
use Rattle.std.proofs.Common.{◌∷◌, ◌++◌, cond, count_by, length, filter, Option, Some, None}
use Rattle.std.proofs.Common.{option_map, option_to_list, refl, sym, ap, ap₂, ◌∙◌, subst, arith, eq-eqb, eqb-true}
use Rattle.std.proofs.Common.{ne_eqb, length-append, append-nil}
use Rattle.std.specs.Prelude.{if◌then◌else◌, IsTrue, option_and_then}
use Rattle.std.specs.List.{AllByRecursion, list_any}
use Rattle.std.proofs.lemmas.Bool.{and_parts, or_parts}
use Rattle.std.proofs.lemmas.Option.{same_Some}
use Rattle.std.proofs.lemmas.List.Elements.{filter-append}
use Rattle.std.proofs.lemmas.List.Folds.{list_any-append}
use Rattle.cmwq_lemmas.proofs.Lists.{All_append, All_map, count_by-cons}
use Rattle.cmwq_lemmas.proofs.Members.{In, found, in_filter, of_in}
use Rattle.cmwq_model.specs.declared.call.Call.{Call}
use Rattle.cmwq_model.specs.declared.call.Call.TheVariants as call
use Rattle.cmwq_model.specs.declared.entry.Entry.{Entry}
use Rattle.cmwq_model.specs.declared.id.CallerId.{CallerId}
use Rattle.cmwq_model.specs.declared.id.Who.{Who}
use Rattle.cmwq_model.specs.declared.id.Who.TheVariants.{Caller, Worker}
use Rattle.cmwq_model.specs.declared.record.Ticket.{Ticket}
use Rattle.cmwq_model.specs.declared.reply.Reply.{Reply}
use Rattle.cmwq_model.specs.declared.reply.Reply.TheVariants as reply
use Rattle.cmwq_model.specs.Prelude.{IsLegal, Layout, answer, end_of_ticket, ends, gives_ticket, is_at, is_by, is_done}
use Rattle.cmwq_model.specs.Prelude.{is_layout, is_ticket, is_unended, past_of, same_who}
use Rattle.cmwq_model.specs.Prelude.{ticket_for, ticket_in, ticket_of, tickets, unended_tickets}
use Rattle.cmwq_model.proofs.Growing.{older_are_legal}
use Rattle.cmwq_theory_steps.proofs.Causes.{Cause, cause_of}
use Rattle.cmwq_theory_steps.proofs.Causes as cause
use Rattle.cmwq_theory_steps.proofs.Inversions.{answer_is}
use Rattle.cmwq_theory_steps.proofs.Reasons.{legal_fits}
use Rattle.cmwq_chart.specs.declared.waits.WaitSign.{WaitSign}
use Rattle.cmwq_chart.specs.Bars.{bars_of}
use Rattle.cmwq_chart.specs.CallerWaits.{callers_of, caller_waits_of, end_asked, is_end_answer, sign_on, ticket_in_row}
use Rattle.cmwq_chart.specs.CallerWaits.{ticket_row, wait_rows, wait_sign_of, wait_signs_by, wait_signs_of}
use Rattle.cmwq_chart.specs.Lanes.{lanes_of}
use Rattle.cmwq_chart.specs.Levels.{levels_of}
use Rattle.cmwq_chart.specs.Shapes.{places_in}
use Rattle.cmwq_chart.specs.Signs.{signs_of}
use Rattle.cmwq_chart.specs.Sleeps.{sleeps_of}
use Rattle.cmwq_chart_text.specs.declared.figures.Figure.TheVariants as figure
use Rattle.cmwq_chart_text.specs.declared.page.Window.{Window}
use Rattle.cmwq_output_laws.specs.BarLaws.{StandsIn}
use Rattle.cmwq_chart_laws.specs.Causes.{HasEntryBy}
use Rattle.cmwq_chart_laws.specs.Charts.{chart_figures, chart_page}
use Rattle.cmwq_chart_laws.specs.Waits.{EndsAreDrawn, HasOneEndDrawn, is_wait_sign_at}
use Rattle.cmwq_chart_laws.proofs.Causing.{GivesTicket, one_later}
use Rattle.cmwq_chart_laws.proofs.ChartRows.{charts_are_of_rows}
use Rattle.cmwq_chart_laws.proofs.Once.{is_drawn_once, one_wait_sign}
use Rattle.cmwq_chart_laws.proofs.Tickets.{if_one, is_by_itself, is_by_none, of_caller, rows_then}
use Rattle.cmwq_chart_laws.proofs.WaitsDrawn.{caller_there}

-- ---- the marks of a caller, of which one is of the entry

abbrev there : ℕ → WaitSign → Bool
there at x = x.at == at

abbrev sign_made : CallerId → ℕ → ℕ → Bool → WaitSign
sign_made c row at done = record { caller = c; row = row; at = at; is_done = done }

module _ (c : CallerId) where
  is_at_it : (past : List Entry) (e : Entry) (x : WaitSign) → wait_sign_of past e c ≡ Some x → x.at ≡ length past
  is_at_it past e x h = by (is_by (Caller c) e) (is_end_answer e.reply) (end_asked e.call) h
    where
      on : (row : ℕ) (o : Option ℕ) → option_map (λ (t : ℕ). sign_made c row (length past) (is_done e.reply)) o
          ≡ Some x → x.at ≡ length past
      on row None k = cc
      on row (Some t) k = sym (ap (λ (y : WaitSign). y.at) (same_Some (sign_made c row (length past) (is_done e.reply))
          x k))

      by : (a b : Bool) (o : Option ℕ) → (if a then (if b then option_and_then
          (λ t. sign_on (wait_rows past c) e c (length past) (ticket_row (wait_rows past c) t)) o else None) else None)
          ≡ Some x → x.at ≡ length past
      by true true None k = cc
      by true true (Some t) k =
          on (ticket_row (wait_rows past c) t) (ticket_in_row (wait_rows past c) (ticket_row (wait_rows past c) t)) k
      by true false o k = cc
      by false b o k = cc

  none_of : (past : List Entry) (e : Entry) (at : ℕ) → (length past == at) ≡ false
      → filter (there at) (option_to_list (wait_sign_of past e c)) ≡ []
  none_of past e at other = by (wait_sign_of past e c) (is_at_it past e)
    where
      by : (o : Option WaitSign) → ((x : WaitSign) → o ≡ Some x → x.at ≡ length past)
          → filter (there at) (option_to_list o) ≡ []
      by None k = refl
      by (Some x) k = ap (λ b. cond b (x ∷ []) []) (ap (λ n. n == at) (k x refl) ∙ other)

  all_of : (past : List Entry) (e : Entry) (at : ℕ) → length past ≡ at
      → filter (there at) (option_to_list (wait_sign_of past e c)) ≡ option_to_list (wait_sign_of past e c)
  all_of past e at same = by (wait_sign_of past e c) (is_at_it past e)
    where
      by : (o : Option WaitSign) → ((x : WaitSign) → o ≡ Some x → x.at ≡ length past)
          → filter (there at) (option_to_list o) ≡ option_to_list o
      by None k = refl
      by (Some x) k = ap (λ b. cond b (x ∷ []) []) (eq-eqb x.at at (k x refl ∙ same))

  none_yet : (past : List Entry) (at : ℕ) → length past ≤ at → filter (there at) (wait_signs_by past c) ≡ []
  unfolding wait_signs_by
  none_yet [] at h = refl
  none_yet (e ∷ past) at h =
      let less : length past < at = omega arith in
      filter-append (there at) (wait_signs_by past c) (option_to_list (wait_sign_of past e c))
      ∙ ap₂ (λ k l. k ++ l) (none_yet past at (omega arith))
      (none_of past e at (ne_eqb (length past) at (λ same. absurd (omega arith))))

  its_sign : (after : List Entry) (e : Entry) (before : List Entry)
      → filter (there (length before)) (wait_signs_by (after ++ e ∷ before) c)
      ≡ option_to_list (wait_sign_of before e c)
  unfolding wait_signs_by
  its_sign [] e before =
      filter-append (there (length before)) (wait_signs_by before c) (option_to_list (wait_sign_of before e c))
      ∙ ap₂ (λ k l. k ++ l) (none_yet before (length before) (omega arith)) (all_of before e (length before) refl)
  its_sign (a ∷ after) e before =
      let more : length (after ++ e ∷ before) ≡ length after + length (e ∷ before) = length-append after (e ∷ before) in
      filter-append (there (length before)) (wait_signs_by (after ++ e ∷ before) c)
      (option_to_list (wait_sign_of (after ++ e ∷ before) a c))
      ∙ ap₂ (λ k l. k ++ l) (its_sign after e before)
      (none_of (after ++ e ∷ before) a (length before)
      (ne_eqb (length (after ++ e ∷ before)) (length before) (λ same. absurd (omega arith))))
      ∙ append-nil (option_to_list (wait_sign_of before e c))

-- ---- in a legal history such an entry asks for the end of a ticket that waits in a row

asks_end : (s : Layout) (past : List Entry) (who : Who) (k : Call) (r : Reply) → Cause s past who k r
    → is_end_answer r ≡ true → (n : ℕ) × (k ≡ call.End n)
asks_end s past who k r (cause.waiting w n t m h) is = (n, refl)
asks_end s past who k r (cause.ended w n t found ready) is = (n, refl)
asks_end s past who k r other is = cc

has_ticket : (s : Layout) (past : List Entry) (e : Entry) (n : ℕ) → IsLegal s (e ∷ past) → e.call ≡ call.End n
    → is_end_answer e.reply ≡ true → (t : Ticket) × (ticket_of past e.who n ≡ Some t)
unfolding answer
has_ticket s past e n legal asked is =
    by (ticket_of past e.who n) refl (answer_is s past e legal ∙ ap (answer s past e.who) asked)
  where
    by : (o : Option Ticket) → ticket_of past e.who n ≡ o → e.reply ≡ end_of_ticket past (ticket_of past e.who n)
        → (t : Ticket) × (ticket_of past e.who n ≡ Some t)
    by None none reply_is =
        let misuse : e.reply ≡ reply.Misuse = reply_is ∙ ap (end_of_ticket past) none in
        let clash : true ≡ false = sym is ∙ ap is_end_answer misuse in
        cc
    by (Some t) some reply_is = (t, some)

-- a ticket was given by the entry with its number
abbrev IsGiven : List Entry → Ticket → Type 0
IsGiven past t = HasEntryBy past t.number (Caller t.caller) GivesTicket

all_given : (past : List Entry) → AllByRecursion (IsGiven past) (tickets past)
unfolding tickets
all_given [] = tt
all_given (e ∷ past) =
    All_append (IsGiven (e ∷ past)) (tickets past) (option_to_list (ticket_in e (length past)))
    (All_map (IsGiven past) (IsGiven (e ∷ past)) (tickets past)
    (λ t h. one_later e past t.number (Caller t.caller) GivesTicket h) (all_given past))
    (by (gives_ticket e.reply) refl e.who refl)
  where
    by : (b : Bool) → gives_ticket e.reply ≡ b → (who : Who) → e.who ≡ who → AllByRecursion (IsGiven (e ∷ past))
        (option_to_list (if b then ticket_for who e.call (length past) else None))
    by true gives (Caller c) is = (
      record {
        entry = e;
        before = past;
        stands = record { after = []; parts = refl };
        place = refl;
        by_who = is;
        is_so = gives;
      },
      tt,
    )
    by true gives (Worker w) is = tt
    by false gives who is = tt

some_row : (n : ℕ) (rows : List (Option ℕ)) → 1 ≤ count_by (λ r. is_at r n) rows
    → ticket_in_row rows (ticket_row rows n) ≡ Some n
unfolding ticket_row
some_row n [] many = absurd (omega arith)
some_row n (r ∷ rows) many =
    let whole = count_by-cons (λ k. is_at k n) r rows in
    by r (is_at r n) refl (λ k. some_row n rows k) (subst (λ m. 1 ≤ m) whole many)
  where
    by : (r : Option ℕ) (b : Bool) → is_at r n ≡ b
        → (1 ≤ count_by (λ k. is_at k n) rows → ticket_in_row rows (ticket_row rows n) ≡ Some n)
        → 1 ≤ cond (is_at r n) 1 0 + count_by (λ k. is_at k n) rows
        → ticket_in_row (r ∷ rows) (if b then 0 else 1 + ticket_row rows n) ≡ Some n
    by None true is earlier many = cc
    by (Some m) true is earlier many = ap Some (eqb-true m n is)
    by r false is earlier many =
        let none : if_one (is_at r n) ≡ 0 = ap if_one is in
        ap (ticket_in_row (r ∷ rows)) (let one : 1 + ticket_row rows n ≡ suc (ticket_row rows n) = omega arith in one)
        ∙ earlier (omega arith)

held_by : (who : Who) (n : ℕ) (t : Ticket) → is_ticket who n t ≡ true
    → (c : CallerId) × (who ≡ Caller c) × (t.number ≡ n) × (t.caller ≡ c)
held_by (Caller c) n t h =
    let k = and_parts (t.number == n) (t.caller.0 == c.0) h in (
      c,
      refl,
      eqb-true t.number n k.0,
      ap (λ (m : ℕ). let made : CallerId = record { 0 = m } in made) (eqb-true t.caller.0 c.0 k.1),
    )
held_by (Worker w) n t h =
    let k = and_parts (t.number == n) false h in let clash : false ≡ true = k.1 in cc

-- an unended ticket waits in a row of its caller
waits_there : (past : List Entry) (t : Ticket) → In t (unended_tickets past)
    → ticket_in_row (wait_rows past t.caller) (ticket_row (wait_rows past t.caller) t.number) ≡ Some t.number
waits_there past t i =
    let k = in_filter (is_unended past) (tickets past) t i in
    let given : IsGiven past t = of_in (IsGiven past) (tickets past) t (all_given past) k.0 in
    let whole : list_any (ends t) (given.stands.after ++ given.entry ∷ given.before) ≡ false =
    ap (list_any (ends t)) (sym given.stands.parts) ∙ not_true (list_any (ends t) past) k.1 in
    let later = or_parts (list_any (ends t) given.stands.after) (list_any (ends t) (given.entry ∷ given.before))
    (sym (list_any-append (ends t) given.stands.after (given.entry ∷ given.before)) ∙ whole) in
    let own : is_by (Caller t.caller) given.entry ≡ true =
    ap (λ (x : Who). same_who x (Caller t.caller)) given.by_who ∙ eq-eqb t.caller.0 t.caller.0 refl in
    let one : count_by (λ r. is_at r t.number) (wait_rows past t.caller) ≡ 1 =
    ap (λ (l : List Entry). count_by (λ r. is_at r t.number) (wait_rows l t.caller)) given.stands.parts
    ∙ rows_then t.caller t.number given.stands.after given.entry given.before given.place own given.is_so
    ∙ ap (λ b. if_one (not b)) later.0 in
    some_row t.number (wait_rows past t.caller) (omega arith)
  where
    not_true : (b : Bool) → not b ≡ true → b ≡ false
    not_true true h = cc
    not_true false h = refl

made_sign : (past : List Entry) (e : Entry) (c : CallerId) (n : ℕ) → is_by (Caller c) e ≡ true
    → is_end_answer e.reply ≡ true → e.call ≡ call.End n
    → ticket_in_row (wait_rows past c) (ticket_row (wait_rows past c) n) ≡ Some n
    → wait_sign_of past e c ≡ Some (sign_made c (ticket_row (wait_rows past c) n) (length past) (is_done e.reply))
made_sign past e c n own is asked waits =
    ap (λ b. if b then (if is_end_answer e.reply then option_and_then
    (λ t. sign_on (wait_rows past c) e c (length past) (ticket_row (wait_rows past c) t)) (end_asked e.call) else None)
    else None) own
    ∙ ap (λ b. if b then option_and_then
    (λ t. sign_on (wait_rows past c) e c (length past) (ticket_row (wait_rows past c) t)) (end_asked e.call) else None)
    is
    ∙ ap (λ k. option_and_then
    (λ t. sign_on (wait_rows past c) e c (length past) (ticket_row (wait_rows past c) t)) (end_asked k)) asked
    ∙ ap (option_map (λ (t : ℕ). sign_made c (ticket_row (wait_rows past c) n) (length past) (is_done e.reply))) waits

module _ (w : Window) (s : Layout) (entries : List Entry) (is : IsTrue (is_layout s))
    (legal : IsLegal s (past_of entries))
    (e : Entry) (before : List Entry) (c : CallerId) (n : ℕ) (stands : StandsIn (past_of entries) e before)
    (by_caller : e.who ≡ Caller c) (there_is : c.0 < s.callers) (answers : is_end_answer e.reply ≡ true)
    (asked : e.call ≡ call.End n)
    (waits : ticket_in_row (wait_rows before c) (ticket_row (wait_rows before c) n) ≡ Some n) where
  abbrev it : WaitSign
  it = sign_made c (ticket_row (wait_rows before c) n) (length before) (is_done e.reply)

  of_one : (d : CallerId) → filter (there (length before)) (wait_signs_by (past_of entries) d)
      ≡ option_to_list (wait_sign_of before e d)
  of_one d =
      ap (λ (l : List Entry). filter (there (length before)) (wait_signs_by l d)) stands.parts
      ∙ its_sign d stands.after e before

  alone : filter (there (length before)) (wait_signs_of (past_of entries) (callers_of s entries)) ≡ it ∷ []
  alone =
      of_caller s entries e before c stands by_caller there_is (there (length before)) (wait_signs_by (past_of entries))
      (λ d differs. of_one d
      ∙ ap (λ b. option_to_list (if b then (if is_end_answer e.reply then option_and_then
      (λ t. sign_on (wait_rows before d) e d (length before) (ticket_row (wait_rows before d) t)) (end_asked e.call)
      else None) else None)) (is_by_none s entries e before c stands by_caller there_is d differs))
      ∙ of_one c
      ∙ ap option_to_list
      (made_sign before e c n (is_by_itself s entries e before c stands by_caller there_is) answers asked waits)

  pub end_is_drawn : HasOneEndDrawn w s entries e before
  end_is_drawn = record {
    sign = it;
    at = refl;
    by_caller = by_caller;
    is_done = refl;
    drawn = is_drawn_once (chart_page w entries) (chart_figures s entries) (charts_are_of_rows w s entries is legal)
        (is_wait_sign_at (length before)) (figure.WaitSign it)
        (one_wait_sign (is_wait_sign_at (length before)) (caller_waits_of (past_of entries) (callers_of s entries))
        (wait_signs_of (past_of entries) (callers_of s entries)) (bars_of (past_of entries))
        (sleeps_of (past_of entries) (lanes_of s entries)) (signs_of (past_of entries))
        (levels_of s (past_of entries) (places_in s entries)) it alone (λ y. refl) (λ y. refl) (λ y. refl) (λ y. refl)
        (λ y. refl)) refl;
  }

pub ends_are_drawn : EndsAreDrawn
ends_are_drawn w s entries is legal e before stands answers =
    let older : IsLegal s (e ∷ before) = older_are_legal s stands.after (e ∷ before)
    (subst (IsLegal s) stands.parts legal) in
    let asked = asks_end s before e.who e.call e.reply (cause_of s before e older) answers in
    let ticket = has_ticket s before e asked.0 older asked.1 answers in
    let k = found (is_ticket e.who asked.0) (unended_tickets before) ticket.0 ticket.1 in
    let held = held_by e.who asked.0 ticket.0 k.1 in
    let waits = waits_there before ticket.0 k.0 in
    end_is_drawn w s entries is legal e before held.0 asked.0 stands held.1
    (caller_there s e held.0 (legal_fits s before e older) held.1) answers asked.1
    (subst (λ (m : ℕ). ticket_in_row (wait_rows before held.0) (ticket_row (wait_rows before held.0) m) ≡ Some m) held.2
    (subst (λ (d : CallerId). ticket_in_row (wait_rows before d) (ticket_row (wait_rows before d) ticket.0.number)
    ≡ Some ticket.0.number) held.3 waits))
