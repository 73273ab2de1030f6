use Rattle.std.proofs.Common.{◌≡◌, ◌∙◌, ◌++◌, ◌<◌, ap, arith, length}
use Rattle.serde_json.specs.View.{view}
use Rattle.cmwq_names.specs.Named.{words_before}
use Rattle.cmwq_names.proofs.Naming.{none_left, some_left}
use Rattle.cmwq_names.proofs.texts.push_first.Goals as goal

pub returns-then-is_empty-clause-names : goal.returns-then-is_empty-clause-names
returns-then-is_empty-clause-names c =
    let d = view c.args.script.now in let f = c.args.form in
    let text = c.args.text.now in let old = c.args.out.now.items in
    let none : length c.split_words.result.1.now ≡ 0 = grind (arith, c.is_empty.ensures, c.if-is_empty.true) in
    let now : c.extend_from_slice.new.self.items ≡ old ++ words_before text =
    c.in_ok-extend_from_slice.ensures.items ∙ ap (λ l. old ++ l) c.split_words.ensures.words in
    rw (now, c.split_words.ensures.rest)
    (none_left d f old text (rw c.split_words.ensures.rest at none))

pub returns-clause-names : goal.returns-clause-names
returns-clause-names c =
    let d = view c.args.script.now in let f = c.args.form in
    let text = c.args.text.now in let old = c.args.out.now.items in
    let some : 0 < length c.split_words.result.1.now = grind (arith, c.is_empty.ensures, c.if-is_empty.false) in
    let now : c.extend_from_slice.new.self.items ≡ old ++ words_before text =
    c.in_ok-extend_from_slice.ensures.items ∙ ap (λ l. old ++ l) c.split_words.ensures.words in
    let after = rw (now, c.split_words.ensures.words, c.split_words.ensures.rest) at c.in_ok-left.ensures.shown in
    let left = rw c.split_words.ensures.rest at c.in_ok-left.ensures.rest in
    rw (after, left) (some_left d f old text (rw c.split_words.ensures.rest at some))
