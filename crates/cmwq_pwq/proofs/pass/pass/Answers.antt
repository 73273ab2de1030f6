use Rattle.cmwq_pwq.specs.Common.{rules, ◌≡◌, ◌<◌, ◌≤◌, ◌+◌, ◌++◌, ◌∷◌, [], Some, length, get_or, length-append, sym}
use Rattle.cmwq_pwq.specs.Common.{ap, ◌∙◌, arith, append-nil, All-get_or}
use Rattle.std.specs.Prelude.{slice_get}
use Rattle.std.proofs.lemmas.List.{drop_all}
use Rattle.std.proofs.lemmas.Option.{get_or_from_slice_get, slice_get_cases, slice_get_within}
use Rattle.cmwq_pwq.specs.Pwqs.{IsPlaced, place_of, count_of_same_pwq, width_by}
use Rattle.cmwq_pwq.proofs.Passes.{next_after, next_behind, passed_by, taken_out, pass_kept, pass_activated, pass_all}
use Rattle.cmwq_pwq.proofs.Passes.{read_count, place_inside}
use Rattle.cmwq_pwq.proofs.pass.pass.Goals as goal
use Rattle.cmwq_pwq.proofs.pass.pass.Goals.{then-index-width_by, else-index-width_by}

pub loop-index-preserved : goal.loop-index-preserved
loop-index-preserved c =
    let xs = c.args.waiting.now.queueings in let i = c.loop-index.index in
    let inv = c.loop-index.invariant in
    let x = c.in-Some.queueing in
    let wide = width_by c.args.queues.now c.args.most.now c.args.frozen in
    let old = c.args.counts.now.items in let new = c.loop-index.counts.items in
    let ys = c.loop-index.waiting.queueings in
    let rest = inv.passed.0 in
    let at : slice_get xs i ≡ Some x = sym inv.here ∙ c.in-Some.is in
    let less : i < length xs = slice_get_within xs i x at in
    let is : get_or xs i x ≡ x = get_or_from_slice_get xs i x x at in
    let placed : IsPlaced (length c.args.queues.now) x =
    rw is at (All-get_or (IsPlaced (length c.args.queues.now)) xs i x less c.requires.placed) in
    let inside_old : place_of x.place.queue.0 x.place.cpu.0 < length old =
    place_inside x.place.queue.0 x.place.cpu.0 (length c.args.queues.now) (length old) placed.0 placed.1
    (sym c.args.counts.now.ok.0 ∙ c.requires.counts) in
    let inside : c.place_of-place.result < length new =
    rw c.place_of-place.ensures
    (place_inside x.place.queue.0 x.place.cpu.0 (length c.args.queues.now) (length new) placed.0 placed.1
    (sym c.loop-index.counts.ok.0 ∙ (inv.many ∙ c.requires.counts))) in
    let count : c.index.result.now ≡ count_of_same_pwq new x =
    read_count new x c.place_of-place.result c.index.result.now c.place_of-place.ensures inside c.index.ensures in
    let here : c.next-next.result ≡ slice_get xs (i + 1) =
    c.next-next.ensures (length rest) (next_behind xs ys rest i x inv.passed.1 at)
    ∙ next_after xs ys rest i x inv.passed.1 at in
    elim c.if-index-width_by.branch [
      | then-index-width_by w ↦
          let read : w.index_mut.result.now ≡ count_of_same_pwq new x =
          read_count new x c.place_of-place.result w.index_mut.result.now c.place_of-place.ensures inside
          w.index_mut.ensures.value in
          record {
            here = here;
            items = search rules;
            places = search rules;
            many = search rules;
            activated_capacity = search rules;
            passed = (
              rest,
              rw w.waiting-is
                  (taken_out xs ys rest i x inv.passed.1 at w.unlink.new.self.queueings w.unlink.ensures.by_index),
              search rules,
              λ way have.
                  let free = rw (count, c.width_by.ensures) at w.if-index-width_by.true in
                  rw (w.activated-is, w.push_reserved.ensures.items, w.counts-is, read, c.place_of-place.ensures)
                  (rw is at
                  (pass_activated way wide old xs i x less have new rest c.loop-index.activated.items
                  (inv.passed.3 way have) (rw is placed.1) (rw is inside_old) (rw is free))),
            );
          }
      | else-index-width_by w ↦ record {
        here = here;
        items = search rules;
        places = search rules;
        many = search rules;
        activated_capacity = search rules;
        passed = (
          rest ++ x ∷ [],
          rw w.waiting-is (passed_by xs ys rest i x inv.passed.1 at),
          (let more : length (rest ++ x ∷ []) ≡ length rest + 1 = length-append rest (x ∷ []) in let was =
              inv.passed.2 in rw w.activated-is (omega arith)),
          λ way have.
              let full = rw (count, c.width_by.ensures) at w.if-index-width_by.false in
              rw (w.counts-is, w.activated-is)
              (rw is at
              (pass_kept way wide old xs i x less have new rest c.loop-index.activated.items (inv.passed.3 way have)
              (rw is placed.1) (rw is inside_old) (rw is full))),
        );
      }
    ]

pub returns-clause-passes : goal.returns-clause-passes
returns-clause-passes c =
    let xs = c.args.waiting.now.queueings in let i = c.loop-index.index in
    let inv = c.loop-index.invariant in
    let rest = inv.passed.0 in
    let past : length xs ≤ i = rw c.len-index-end.ensures.len at c.loop-index-test.false in
    let left : c.loop-index.waiting.queueings ≡ rest =
    inv.passed.1 ∙ (ap (λ zs. rest ++ zs) (drop_all i xs past) ∙ append-nil rest) in
    λ way have. rw left
    (pass_all way c.args.counts.now.items c.loop-index.counts.items xs rest c.loop-index.activated.items i past
    (inv.passed.3 way have))

pub returns-in_default-clause-passes : goal.returns-in_default-clause-passes
returns-in_default-clause-passes c = grind (arith, slice_get_cases)
