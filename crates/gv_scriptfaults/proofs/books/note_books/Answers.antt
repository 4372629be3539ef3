use Rattle.std.proofs.Common.{◌<◌, ℕ, List, length, map, take, subst, arith}
use Rattle.std.proofs.lemmas.List.{take_all}
use Rattle.gv_scriptnames.specs.declared.outline.BookOutline.{BookOutline}
use Rattle.gv_scriptnames.specs.Names.{names_in}
use Rattle.gv_scriptnames.specs.Found.{of_book}
use Rattle.gv_scriptfaults.specs.Tables.{Holds}
use Rattle.gv_scriptfaults.proofs.Meeting.{each_read, each_through}
use Rattle.gv_scriptfaults.proofs.Declaring.{named_read}
use Rattle.gv_scriptfaults.proofs.books.note_books.Goals as goal

pub loop-book-preserved : goal.loop-book-preserved
loop-book-preserved c =
    let text = c.args.text.now in
    let books = c.args.books.now in
    let i = c.loop-book.book-index in
    let lt : i < length books = omega arith in
    record {
      noted = λ spec program. each_read (of_book text spec program) books i _ c.args.first.now c.loop-book.first c.note_book.new.first lt (c.loop-book.invariant.noted spec program)
          (c.in_ok-note_book.ensures.noted spec program (take i books) c.loop-book.invariant.names);
      names = subst (λ (ns : List (List ℕ)). Holds ns c.note_book.new.names) (named_read text (λ (b : BookOutline). b.name) books i _ lt)
          (c.in_ok-note_book.ensures.added (names_in text (map (λ (b : BookOutline). b.name) (take i books))) c.loop-book.invariant.names);
    }

pub returns-clause-noted : goal.returns-clause-noted
returns-clause-noted c = λ spec program.
    each_through (of_book c.args.text.now spec program) c.args.books.now c.loop-book.book-index c.args.first.now c.loop-book.first (omega arith) (c.loop-book.invariant.noted spec program)

pub returns-clause-names : goal.returns-clause-names
returns-clause-names c =
    subst (λ (bs : List BookOutline). Holds (names_in c.args.text.now (map (λ (b : BookOutline). b.name) bs)) c.loop-book.names) (take_all c.loop-book.book-index c.args.books.now (omega arith)) c.loop-book.invariant.names
