use Rattle.std.specs.Prelude.{◌≡◌, None, Ok, Result, Some, false, if◌then◌else◌}
use Rattle.std.proofs.Common.{ap, ◌∙◌, rules, subst, sym}
use Rattle.cmwq_dispatch.specs.Asleep.{Rests, SleepOn}
use Rattle.cmwq_dispatch.specs.Dispatched.{Dispatched, FallsAsleep, is_over, past_now}
use Rattle.cmwq_model.specs.declared.call.Call.TheVariants as call
use Rattle.cmwq_model.specs.declared.entry.Entry.{Entry}
use Rattle.cmwq_model.specs.declared.id.Who.{Who}
use Rattle.cmwq_model.specs.declared.id.Who.TheVariants.{Worker}
use Rattle.cmwq_state.specs.Tails.{Tailed}
use Rattle.cmwq_board.specs.Boarded.{Boarded, board_of}
use Rattle.cmwq_board.specs.Fires.{with_call}
use Rattle.cmwq_board.specs.Lent.{unended_drains}
use Rattle.cmwq_board.specs.Machine.{GoesOn, Stepped, bare, made, starting}
use Rattle.cmwq_board.specs.Steps.{after_entry, start_fault}
use Rattle.cmwq_board.specs.declared.board.Start.{Start}
use Rattle.cmwq_board.specs.declared.board.Start.TheVariants as start
use Rattle.cmwq_board.specs.declared.fault.BoardFault.{BoardFault}
use Rattle.cmwq_board.proofs.Cores.{bare_of}
use Rattle.cmwq_board.proofs.Moves.{not_fewer}
use Rattle.cmwq_board.proofs.Started.{IsStarting, falls_on, is_starting, started_is, starting_none}
use Rattle.cmwq_board.proofs.Places.{board_same, drains_same, left_same}
use Rattle.cmwq_board.proofs.Tickets.{same_by_worker}
use Rattle.cmwq_board.proofs.board.Board.start.Goals as goal
use Rattle.cmwq_board.proofs.board.Board.start.Goals.{in-Sleeps, in-Over}

pub invariant_of-self-2 : goal.invariant_of-self-2
invariant_of-self-2 c =
    let d = c.self.inside.dispatch in
    let n = c.make.new.dispatch in
    let lent = c.self.inside.lent.items in
    let who = ap (λ (e : Entry). e.who) c.in-Some.ensures.plan.mark.is_next in
    let same =
    same_by_worker (past_now d) (past_now n) c.in-Some.startable.plan.mark.entry c.args.worker
    c.make.ensures.tickets who in (
      ap (λ (t : Tailed Entry). t.all) c.make.ensures.kept,
      c.self.invariant.1 ∙ sym (drains_same (past_now d) (past_now n) same),
      c.self.invariant.2,
      board_same d n c.self.inside.tail.room c.make.new.tail.room lent c.make.ensures.stays same
          (ap (λ (t : Tailed Entry). t.room) c.make.ensures.kept) c.self.invariant.3,
      λ h. c.self.invariant.4 (left_same d.history.layout n.history.layout (past_now d) (past_now n) lent
          c.make.ensures.stays.layout same h),
      c.self.invariant.5,
    )

pub returns-clause-core : goal.returns-clause-core
returns-clause-core c =
    let b = c.args.self.now in
    let w = c.args.worker in
    let i = c.self.inside in
    let n = c.make.new in
    let s = c.in-Some.startable in
    let next = c.in-Some.ensures.plan.mark.is_next in
    let none : start_fault b w ≡ None = search rules in
    let lives : b.dispatch.failed ≡ false = search rules in
    let starts = subst (λ (x : Boarded). IsStarting x w s.item s.number) c.self.view_is
    (is_starting (board_of i.dispatch i.tail.given i.tail.room i.lent.items i.news) w s.item s.number
    c.in-Some.ensures.number c.in-Some.ensures.item) in
    let same : bare_of n.dispatch
    ≡ record (bare_of i.dispatch) { history = with_call i.dispatch.history (Worker w) call.Take } =
    ap bare_of c.make.ensures.made ∙ ap (λ (e : Entry). bare_of (after_entry i.dispatch e)) next in
    ap (λ (d : Dispatched). board_of d n.tail.given n.tail.room i.lent.items i.news) same
    ∙ ap (λ (x : Tailed Entry). made (bare (board_of i.dispatch x.given x.room i.lent.items i.news)) (Worker w) call.Take)
    c.make.ensures.kept
    ∙ ap (λ x. made (bare x) (Worker w) call.Take) c.self.view_is
    ∙ ap (λ (x : Stepped (Result Start BoardFault)). x.core)
    (sym (started_is (bare b) w (Some starts.queueing) none lives starts.is))

pub returns-clause-outcome : goal.returns-clause-outcome
returns-clause-outcome c =
    let b = c.args.self.now in
    let w = c.args.worker in
    let i = c.self.inside in
    let s = c.in-Some.startable in
    let none : start_fault b w ≡ None = search rules in
    let lives : b.dispatch.failed ≡ false = search rules in
    let starts = subst (λ (x : Boarded). IsStarting x w s.item s.number) c.self.view_is
    (is_starting (board_of i.dispatch i.tail.given i.tail.room i.lent.items i.news) w s.item s.number
    c.in-Some.ensures.number c.in-Some.ensures.item) in
    ap Ok starts.runs
    ∙ ap (λ (x : Stepped (Result Start BoardFault)). x.outcome)
    (sym (started_is (bare b) w (Some starts.queueing) none lives starts.is))

pub returns-clause-named : goal.returns-clause-named
returns-clause-named c =
    let w = c.args.worker in
    let i = c.self.inside in
    let d = i.dispatch in
    let n = c.make.new in
    let mid = board_of n.dispatch n.tail.given n.tail.room i.lent.items i.news in
    let who = ap (λ (e : Entry). e.who) c.in-Some.ensures.plan.mark.is_next in
    let same = same_by_worker (past_now d) (past_now n.dispatch) c.in-Some.startable.plan.mark.entry w
    c.make.ensures.tickets who in
    subst (λ (x : Boarded). GoesOn (Worker w) x mid c.args.wakes.now n.wakes) c.self.view_is
    (record {
      sleepers = subst (λ (x : Who). SleepOn x d.asleep n.dispatch.asleep c.args.wakes.now n.wakes) who
          c.make.ensures.named;
      time = not_fewer (unended_drains (past_now d)) (unended_drains (past_now n.dispatch))
          (drains_same (past_now d) (past_now n.dispatch) same);
    })

pub returns-in_default-clause-core : goal.returns-in_default-clause-core
returns-in_default-clause-core c =
    let b = c.args.self.now in
    let w = c.args.worker in
    let i = c.self.inside in
    let inside = board_of i.dispatch i.tail.given i.tail.room i.lent.items i.news in
    let none : start_fault b w ≡ None = search rules in
    let lives : b.dispatch.failed ≡ false = search rules in
    let nothing : starting b w ≡ None =
    subst (λ (x : Boarded). starting x w ≡ None) c.self.view_is
    (starting_none inside w (sym c.in_default.ensures.starts)) in
    ap (λ (d : Dispatched). board_of d i.tail.given i.tail.room i.lent.items i.news)
    (falls_on (Rests w) i.dispatch c.idles.new.self c.idles.result c.idles.ensures.rests)
    ∙ ap bare c.self.view_is
    ∙ ap (λ (x : Stepped (Result Start BoardFault)). x.core) (sym (started_is (bare b) w None none lives nothing))

pub returns-in_default-clause-outcome : goal.returns-in_default-clause-outcome
returns-in_default-clause-outcome c =
    let b = c.args.self.now in
    let w = c.args.worker in
    let i = c.self.inside in
    let d = i.dispatch in
    let inside = board_of d i.tail.given i.tail.room i.lent.items i.news in
    let none : start_fault b w ≡ None = search rules in
    let lives : b.dispatch.failed ≡ false = search rules in
    let nothing : starting b w ≡ None =
    subst (λ (x : Boarded). starting x w ≡ None) c.self.view_is
    (starting_none inside w (sym c.in_default.ensures.starts)) in
    let over : is_over b.dispatch ≡ is_over d = ap (λ (x : Boarded). is_over x.dispatch) (sym c.self.view_is) in
    let comes = ap (λ (x : Stepped (Result Start BoardFault)). x.outcome)
    (sym (started_is (bare b) w None none lives nothing)) in
    elim c.match-idles.branch [
      | in-Sleeps v ↦ v.result-is
          ∙ ap (λ o. Ok (if o then start.Over else start.Rests))
          (sym (over ∙ (subst (λ r. FallsAsleep (Rests w) d r c.idles.new.self) v.in-Sleeps.is c.idles.ensures.rests).2))
          ∙ comes
      | in-Over v ↦ v.result-is
          ∙ ap (λ o. Ok (if o then start.Over else start.Rests))
          (sym (over ∙ (subst (λ r. FallsAsleep (Rests w) d r c.idles.new.self) v.in-Over.is c.idles.ensures.rests).1))
          ∙ comes
    ]
