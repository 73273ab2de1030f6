use Rattle.std.proofs.Common.{◌+◌, ◌-◌, length, take, drop, sym, subst, arith}
use Rattle.std.proofs.lemmas.Result.{err_from_is_err_and}
use Rattle.std.specs.Io.KnownBytes.{Appends}
use Rattle.cmwq_io.specs.Moves.{AppendsFront}
use Rattle.std.proofs.KnownBytes.{Appends-trans}
use Rattle.cmwq_base.proofs.Fronts.{front_before, front_after}
use Rattle.cmwq_chart_text.specs.Filled.{filled_from}
use Rattle.cmwq_chart_text.proofs.Filling.{front_parts, all_plain, hole_there, hole_parts, rest_taken}
use Rattle.cmwq_chart_text.proofs.filled.+write_from.Goals as goal

pub returns-in_err-write_all-clause-err : goal.returns-in_err-write_all-clause-err
returns-in_err-write_all-clause-err g below c =
    let e = err_from_is_err_and c.from_residual.result c.from_residual.ensures.1 in
    let t = c.args.template.now in
    let p = c.plain_length-plain.result in
    rw (e.1) (subst (AppendsFront _ _)
    (sym (front_parts t c.args.numbers.now c.args.next p c.plain_length-plain.ensures.length))
    (front_before _ _ _ (filled_from (drop p t) c.args.numbers.now c.args.next) c.in_err-write_all.ensures.err))

pub returns-then-plain-template-clause-ok : goal.returns-then-plain-template-clause-ok
returns-then-plain-template-clause-ok g below c =
    subst (Appends _ _)
    (sym (all_plain c.args.template.now c.args.numbers.now c.args.next c.plain_length-plain.result
    c.plain_length-plain.ensures.length (omega arith))) c.in_ok-write_all.ensures.ok

pub write_number-requires : goal.write_number-requires
write_number-requires g below c =
    hole_there c.args.template.now c.args.numbers.now c.args.next c.plain_length-plain.result
    c.plain_length-plain.ensures.length (omega arith)

pub returns-in_err-write_number-clause-err : goal.returns-in_err-write_number-clause-err
returns-in_err-write_number-clause-err g below c =
    let e = err_from_is_err_and c.from_residual-in_err-write_number.result
    c.from_residual-in_err-write_number.ensures.1 in
    let t = c.args.template.now in
    let p = c.plain_length-plain.result in
    rw (e.1) (subst (AppendsFront _ _)
    (sym (hole_parts t c.args.numbers.now c.args.next p c.plain_length-plain.ensures.length
    (take (length t - (p + 1)) (drop (p + 1) t)) (omega arith) (rest_taken t (p + 1))))
    (front_after _ _ _ _ _ c.in_ok-write_all.ensures.ok
    (front_before _ _ _
    (filled_from (take (length t - (p + 1)) (drop (p + 1) t)) c.args.numbers.now (c.args.next + 1))
    (rw (c.number_at.ensures) at c.in_err-write_number.ensures.err))))

pub returns-in_err-write_from-clause-err : goal.returns-in_err-write_from-clause-err
returns-in_err-write_from-clause-err g below c =
    let e = err_from_is_err_and c.from_residual-in_err-write_from.result c.from_residual-in_err-write_from.ensures.1 in
    let t = c.args.template.now in
    let p = c.plain_length-plain.result in
    rw (e.1) (subst (AppendsFront _ _)
    (sym (hole_parts t c.args.numbers.now c.args.next p c.plain_length-plain.ensures.length
    (take (length t - (p + 1)) (drop (p + 1) t)) (omega arith) (rest_taken t (p + 1))))
    (front_after _ _ _ _ _ c.in_ok-write_all.ensures.ok
    (front_after _ _ _ _ _ (rw (c.number_at.ensures) at c.in_ok-write_number.ensures.ok)
    c.in_err-write_from.ensures.err)))

pub returns-clause-ok : goal.returns-clause-ok
returns-clause-ok g below c =
    let t = c.args.template.now in
    let p = c.plain_length-plain.result in
    subst (Appends _ _)
    (sym (hole_parts t c.args.numbers.now c.args.next p c.plain_length-plain.ensures.length
    (take (length t - (p + 1)) (drop (p + 1) t)) (omega arith) (rest_taken t (p + 1))))
    (Appends-trans _ _ _ _ _ c.in_ok-write_all.ensures.ok
    (Appends-trans _ _ _ _ _ (rw (c.number_at.ensures) at c.in_ok-write_number.ensures.ok)
    c.in_ok-write_from.ensures.ok))
