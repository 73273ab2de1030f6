use Rattle.std.specs.Prelude.{◌≤◌, List, length, max, min}
use Rattle.std.proofs.Common.{ap, arith, ◌∙◌, sym, subst}
use Rattle.std.proofs.lemmas.List.{length-replicate}
use Rattle.cmwq_dispatch.specs.Dispatched.{Dispatched, is_new, past_now}
use Rattle.cmwq_model.specs.Prelude.{unended_tickets}
use Rattle.cmwq_model.specs.declared.entry.Entry.{Entry}
use Rattle.cmwq_state.specs.Tails.{Tailed}
use Rattle.cmwq_board.specs.Boarded.{IsBoard, least_kept, most_made}
use Rattle.cmwq_board.specs.declared.lending.Lending.{Lending}
use Rattle.cmwq_board.specs.declared.lending.Lending.TheVariants.{Free}
use Rattle.cmwq_board.proofs.Places.{new_board, new_unended}
use Rattle.cmwq_board.proofs.board.Board.new.Goals as goal

pub of_parts-requires-clause-none : goal.of_parts-requires-clause-none
of_parts-requires-clause-none c =
    let s = c.args.shape.now in
    let d = c.in_ok-dispatch.dispatch in
    ap (λ (x : Dispatched). unended_tickets (past_now x)) c.in_ok-dispatch.ensures.new ∙ new_unended s d.asleep

pub of_parts-requires-clause-board : goal.of_parts-requires-clause-board
of_parts-requires-clause-board c =
    let s = c.args.shape.now in
    let d = c.in_ok-dispatch.dispatch in
    let n = min c.args.lent s.callers in
    let keeps = max c.args.kept (least_kept s) in
    let most : most_made s ≤ keeps = omega arith in
    let few : n ≤ s.callers = omega arith in
    let new = is_new s s.room s.callers d.asleep in
    subst (λ (x : Dispatched). IsBoard x c.in_ok-tail.tail.room c.in_ok-lent.lent.items)
    (sym c.in_ok-dispatch.ensures.new)
    (subst (λ k. IsBoard new k c.in_ok-lent.lent.items)
    (sym (ap (λ (t : Tailed Entry). t.room) c.in_ok-tail.ensures))
    (subst (λ (ls : List Lending). IsBoard new keeps ls) (sym c.in_ok-lent.ensures.lent)
    (new_board s d.asleep keeps n most few)))

pub of_parts-requires-clause-room : goal.of_parts-requires-clause-room
of_parts-requires-clause-room c =
    let n = min c.args.lent c.args.shape.now.callers in
    let long = ap length c.in_ok-lent.ensures.lent ∙ length-replicate n Free in
    subst (λ k. k ≤ c.in_ok-lent.runs) (sym long) (omega (arith, c.in_ok-lent.ensures.runs))
