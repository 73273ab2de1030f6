use Rattle.cmwq_state.proofs.Applied.{may_end_books, may_open_books, may_be_done, may_begin, books_applied}
use Rattle.cmwq_state.proofs.apply.apply_books.Goals as goal

pub end_in_books-requires : goal.end_in_books-requires
end_in_books-requires c =
    let n = c.requires.2 in
    may_end_books c.requires.0 c.requires.1 c.args.effect.now c.args.books.now n.effect n.before c.requires.3

pub open_in_books-requires : goal.open_in_books-requires
open_in_books-requires c =
    let n = c.requires.2 in
    may_open_books c.requires.0 c.requires.1 c.args.effect.now c.args.books.now c.end_in_books.new.books n.few n.effect
    c.requires.3 c.end_in_books.ensures.books c.end_in_books.ensures.numbers

pub done_in_books-requires : goal.done_in_books-requires
done_in_books-requires c =
    let n = c.requires.2 in
    may_be_done c.requires.0 c.requires.1 c.args.effect.now c.args.books.now c.end_in_books.new.books
    c.open_in_books.new.books n.effect n.before c.requires.3 c.end_in_books.ensures.books
    c.open_in_books.ensures.books

pub begin_in_books-requires : goal.begin_in_books-requires
begin_in_books-requires c =
    let n = c.requires.2 in
    may_begin c.requires.0 c.requires.1 c.args.effect.now c.args.books.now c.end_in_books.new.books
    c.open_in_books.new.books c.done_in_books.new.books n.effect c.requires.3
    c.end_in_books.ensures.books c.open_in_books.ensures.books c.done_in_books.ensures.books

pub returns : goal.returns
returns c = λ s past next are.
    books_applied s past c.args.effect.now c.args.books.now c.end_in_books.new.books c.open_in_books.new.books
    c.done_in_books.new.books c.begin_in_books.new.books next.effect are
    c.end_in_books.ensures.books c.open_in_books.ensures.books c.done_in_books.ensures.books
    c.begin_in_books.ensures.books
    c.end_in_books.ensures.numbers c.open_in_books.ensures.numbers c.done_in_books.ensures.numbers
    c.begin_in_books.ensures.numbers
