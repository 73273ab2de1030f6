use Rattle.std.proofs.Common.{◌≤◌, ◌∙◌, Some, ap, arith, length, map, sym}
use Rattle.std.specs.Prelude.{option_map}
use Rattle.std.proofs.lemmas.List.{length-map}
use Rattle.std.proofs.lemmas.Option.{slice_get-map, slice_get_past}
use Rattle.cmwq_list.specs.Lists.{list_at}
use Rattle.cmwq_list.proofs.Walking.{has_there}
use Rattle.cmwq_pool.specs.Upkeep.{noted_task}
use Rattle.cmwq_pool.proofs.listing.first_task.Goals as goal

pub returns-then-len-eq0 : goal.returns-then-len-eq0
returns-then-len-eq0 c =
    let xs = list_at c.args.lists.now.lists c.args.list in
    let none : length xs ≤ 0 = omega (arith, c.len.ensures.len, c.if-len-eq0.true) in
    sym (slice_get_past (map (noted_task c.args.notes.now) xs) 0
    (omega (arith, none, length-map xs (noted_task c.args.notes.now))))

pub returns-in_err-item : goal.returns-in_err-item
returns-in_err-item c =
    let xs = list_at c.args.lists.now.lists c.args.list in
    let f = noted_task c.args.notes.now in
    c.from_residual.ensures
    ∙ sym (slice_get-map f xs 0 ∙ ap (option_map f) (sym c.first.ensures ∙ c.in_err-item.was))

pub task_of-requires-clause-item : goal.task_of-requires-clause-item
task_of-requires-clause-item c =
    let xs = list_at c.args.lists.now.lists c.args.list in
    let known =
    c.len.ensures.once.known c.in_ok-item.item c.args.list
    (has_there xs 0 c.in_ok-item.item (sym c.first.ensures ∙ c.in_ok-item.was)) in
    omega (arith, known, c.requires.noted)

pub returns : goal.returns
returns c =
    let xs = list_at c.args.lists.now.lists c.args.list in
    let f = noted_task c.args.notes.now in
    ap (λ t. Some t) c.task_of.ensures
    ∙ sym (slice_get-map f xs 0 ∙ ap (option_map f) (sym c.first.ensures ∙ c.in_ok-item.was))
