use Rattle.cmwq_pwq.specs.Common.{◌≡◌, ◌∙◌, ◌&&◌, true, false, sym, ap, eq-eqb}
use Rattle.std.specs.Prelude.{is_some}
use Rattle.std.proofs.lemmas.Bool.{ne_eqb}
use Rattle.cmwq_list.specs.Lists.{list_of}
use Rattle.cmwq_pwq.specs.Waiting.{row_of}
use Rattle.cmwq_pwq.proofs.Kept.{is_in_row, rest_by_number, waits_in_row}
use Rattle.cmwq_pwq.proofs.waiting.Waiting.waits.Goals as goal

pub returns-then-at-queueing-clause-waits : goal.returns-then-at-queueing-clause-waits
returns-then-at-queueing-clause-waits c =
    let s = c.self.inside in let x = c.args.queueing in
    let r = rw (← c.self.view_is) at c.requires in
    let read : c.at.result ≡ row_of s.rows x.item.0 = c.at.ensures ∙ ap (row_of s.rows) c.from-item.ensures in
    let here : is_in_row s.rows x ≡ true =
    eq-eqb (row_of s.rows x.item.0).number x.number (ap (λ y. y.number) (sym read) ∙ c.if-at-queueing.true) in
    let listed : c.is_some.result ≡ is_some (list_of s.all.lists x.item.0) =
    c.is_some.ensures ∙ ap is_some (c.list_of.ensures ∙ ap (list_of s.all.lists) c.from-item.ensures) in
    rw (← c.self.view_is)
    (listed ∙ (ap (λ b. b && is_some (list_of s.all.lists x.item.0)) (sym here)
    ∙ waits_in_row s.rows x s.all s.pwqs c.self.invariant r.number))

pub returns-then-at-queueing-clause-others : goal.returns-then-at-queueing-clause-others
returns-then-at-queueing-clause-others c =
    let s = c.self.inside in let x = c.args.queueing in
    let r = rw (← c.self.view_is) at c.requires in
    let read : c.at.result ≡ row_of s.rows x.item.0 = c.at.ensures ∙ ap (row_of s.rows) c.from-item.ensures in
    let here : is_in_row s.rows x ≡ true =
    eq-eqb (row_of s.rows x.item.0).number x.number (ap (λ y. y.number) (sym read) ∙ c.if-at-queueing.true) in
    rw (← c.self.view_is) (λ waits. rest_by_number s.rows x s.all s.pwqs c.self.invariant r.number here)

pub returns-else-at-queueing-clause-waits : goal.returns-else-at-queueing-clause-waits
returns-else-at-queueing-clause-waits c =
    let s = c.self.inside in let x = c.args.queueing in
    let r = rw (← c.self.view_is) at c.requires in
    let read : c.at.result ≡ row_of s.rows x.item.0 = c.at.ensures ∙ ap (row_of s.rows) c.from-item.ensures in
    let fails : is_in_row s.rows x ≡ false =
    ne_eqb (row_of s.rows x.item.0).number x.number (λ e. c.if-at-queueing.false (ap (λ y. y.number) read ∙ e)) in
    rw (read, ← c.self.view_is)
    (fails ∙ (ap (λ b. b && is_some (list_of s.all.lists x.item.0)) (sym fails)
    ∙ waits_in_row s.rows x s.all s.pwqs c.self.invariant r.number))
