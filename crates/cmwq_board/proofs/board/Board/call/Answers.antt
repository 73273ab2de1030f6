use Rattle.std.specs.Prelude.{◌≡◌, None, Ok}
use Rattle.std.proofs.Common.{ap, ap₂, ◌∙◌, rules, sym, subst}
use Rattle.cmwq_core.specs.History.{next_entry}
use Rattle.cmwq_dispatch.specs.Dispatched.{past_now}
use Rattle.cmwq_model.specs.declared.entry.Entry.{Entry}
use Rattle.cmwq_state.specs.Tails.{Tailed}
use Rattle.cmwq_board.specs.Boarded.{Boarded, board_of}
use Rattle.cmwq_board.specs.Lent.{SameTickets}
use Rattle.cmwq_board.specs.Machine.{bare, cleared, drains_in, made, stepped, told}
use Rattle.cmwq_board.specs.NewsAfter.{after_reply}
use Rattle.cmwq_board.specs.Steps.{Makes, call_fault, reply_now}
use Rattle.cmwq_board.proofs.Moves.{goes_more, goes_told, made_core, made_goes, taken_core, taken_outcome}
use Rattle.cmwq_board.proofs.Places.{board_same, drains_same, left_same}
use Rattle.cmwq_board.proofs.Tickets.{makes_in, single_entered}
use Rattle.cmwq_board.proofs.board.Board.call.Goals as goal

pub invariant_of-self : goal.invariant_of-self
invariant_of-self c =
    let d = c.self.inside.dispatch in
    let n = c.enter-entered.new.dispatch in
    let lent = c.self.inside.lent.items in
    let same : SameTickets (past_now d) (past_now n) =
    single_entered d n (next_entry d.history c.args.who c.args.call) c.in-Ok.ensures.tickets c.in-Ok.ensures.legal
    c.in-Ok.ensures.past c.in-Ok.ensures.stays.layout (sym c.is_single.ensures ∙ c.if-not-is_single.false) in (
      ap (λ (t : Tailed Entry). t.all) c.in-Ok.ensures.kept,
      c.self.invariant.1 ∙ sym (drains_same (past_now d) (past_now n) same),
      c.self.invariant.2,
      board_same d n c.self.inside.tail.room c.enter-entered.new.tail.room lent c.in-Ok.ensures.stays same
          (ap (λ (t : Tailed Entry). t.room) c.in-Ok.ensures.kept) c.self.invariant.3,
      λ h. c.self.invariant.4 (left_same d.history.layout n.history.layout (past_now d) (past_now n) lent
          c.in-Ok.ensures.stays.layout same h),
      c.self.invariant.5,
    )

pub returns-in-Ok-clause-core : goal.returns-in-Ok-clause-core
returns-in-Ok-clause-core c =
    let b = c.args.self.now in
    let who = c.args.who in
    let call = c.args.call in
    let i = c.self.inside in
    let n = c.enter-entered.new in
    let mid = board_of n.dispatch n.tail.given n.tail.room i.lent.items i.news in
    let makes : Makes who call b mid c.args.wakes.now n.wakes =
    subst (λ (x : Boarded). Makes who call x mid c.args.wakes.now n.wakes) c.self.view_is
    (makes_in i.dispatch n.dispatch i.tail n.tail i.lent.items i.news who call c.args.wakes.now n.wakes c.in-Ok.ensures.made
    c.in-Ok.ensures.named c.in-Ok.ensures.kept) in
    let none : call_fault b who call ≡ None = search rules in
    let heard = c.after_reply-self-inside.result in
    let reply : c.in-Ok.reply ≡ reply_now b who call =
    c.in-Ok.ensures.reply ∙ ap (λ (x : Boarded). reply_now x who call) c.self.view_is in
    let news : heard ≡ after_reply (reply_now b who call) b.news =
    c.after_reply-self-inside.ensures ∙ ap₂ after_reply reply (ap (λ (x : Boarded). x.news) c.self.view_is) in
    c.clears.ensures.core
    ∙ ap cleared
    (ap (λ (x : Boarded). record x { news = heard }) (made_core who call b mid c.args.wakes.now n.wakes makes)
    ∙ ap (λ k. record (made (bare b) who call) { news = k }) news)
    ∙ taken_core (call_fault b who call) (bare b)
    (stepped (cleared (told (bare b) who call)) (Ok (reply_now b who call))) none

pub returns-in-Ok-clause-outcome : goal.returns-in-Ok-clause-outcome
returns-in-Ok-clause-outcome c =
    let b = c.args.self.now in
    let who = c.args.who in
    let call = c.args.call in
    let none : call_fault b who call ≡ None = search rules in
    let reply : c.in-Ok.reply ≡ reply_now b who call =
    c.in-Ok.ensures.reply ∙ ap (λ (x : Boarded). reply_now x who call) c.self.view_is in
    ap Ok reply
    ∙ taken_outcome (call_fault b who call) (bare b)
    (stepped (cleared (told (bare b) who call)) (Ok (reply_now b who call))) none

pub returns-in-Ok-clause-named : goal.returns-in-Ok-clause-named
returns-in-Ok-clause-named c =
    let b = c.args.self.now in
    let who = c.args.who in
    let call = c.args.call in
    let i = c.self.inside in
    let d = i.dispatch in
    let n = c.enter-entered.new in
    let mid = board_of n.dispatch n.tail.given n.tail.room i.lent.items i.news in
    let makes : Makes who call b mid c.args.wakes.now n.wakes =
    subst (λ (x : Boarded). Makes who call x mid c.args.wakes.now n.wakes) c.self.view_is
    (makes_in d n.dispatch i.tail n.tail i.lent.items i.news who call c.args.wakes.now n.wakes c.in-Ok.ensures.made
    c.in-Ok.ensures.named c.in-Ok.ensures.kept) in
    let same : SameTickets (past_now d) (past_now n.dispatch) =
    single_entered d n.dispatch (next_entry d.history who call) c.in-Ok.ensures.tickets c.in-Ok.ensures.legal
    c.in-Ok.ensures.past c.in-Ok.ensures.stays.layout (sym c.is_single.ensures ∙ c.if-not-is_single.false) in
    let heard = c.after_reply-self-inside.result in
    goes_more who b (record mid { news = heard }) c.clears.new.self c.args.wakes.now n.wakes c.clears.new.wakes
    (goes_told who b mid heard c.args.wakes.now n.wakes
    (made_goes who call b mid c.args.wakes.now n.wakes makes
    (subst (λ (x : Boarded). drains_in mid ≡ drains_in x) c.self.view_is
    (drains_same (past_now d) (past_now n.dispatch) same))))
    (c.clears.ensures.goes who)
