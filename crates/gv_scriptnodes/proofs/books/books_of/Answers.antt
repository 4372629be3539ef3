use Rattle.std.proofs.Common.{ℕ, List, sym, subst, ◌∙◌, arith}
use Rattle.gv_termread.specs.declared.generated.term_acts.Part.TheVariants.{Other as POther}
use Rattle.gv_scriptsyntax.specs.declared.tree.Book.{Book}
use Rattle.gv_scriptsyntax.specs.declared.generated.script_acts.ScriptPart.TheVariants.{Books as PBooks}
use Rattle.gv_scriptsyntax.specs.Nodes.{IsPartAt}
use Rattle.gv_scriptnames.specs.Outlines.{of_book}
use Rattle.gv_scriptnames.specs.declared.outline.BookOutline.{BookOutline}
use Rattle.gv_scriptnodes.specs.Lasts.{IsLeft}
use Rattle.gv_scriptnodes.proofs.Ends.{books_end}
use Rattle.gv_scriptnodes.proofs.Taken.{none_taken, one_taken, all_taken}
use Rattle.gv_scriptnodes.proofs.books.books_of.Goals as goal

pub loop-book-init : goal.loop-book-init
loop-book-init c = record {
  within = c.requires.within;
  left = λ whole is.
      subst (λ (taken : List BookOutline). IsLeft (λ (place : ℕ) (books : List Book). IsPartAt c.args.text.now c.args.nodes.now place (POther (PBooks books))) of_book c.args.at taken whole) (sym c.new-books.ensures.items) (none_taken (λ (place : ℕ) (books : List Book). IsPartAt c.args.text.now c.args.nodes.now place (POther (PBooks books))) of_book c.args.at whole is);
}

pub loop-book-preserved : goal.loop-book-preserved
loop-book-preserved c = let b = c.place_of-place.ensures.before in let w = c.loop-book.invariant.within in record {
  within = omega (arith, b, w);
  left = λ whole is.
      subst (λ (taken : List BookOutline). IsLeft (λ (place : ℕ) (books : List Book). IsPartAt c.args.text.now c.args.nodes.now place (POther (PBooks books))) of_book c.place_of-place.result taken whole) (sym c.in_ok-push.ensures.items)
      (one_taken (λ (place : ℕ) (books : List Book). IsPartAt c.args.text.now c.args.nodes.now place (POther (PBooks books))) of_book c.loop-book.place c.place_of-place.result c.book_at-book.result c.loop-book.books.items whole (c.loop-book.invariant.left whole is)
      (λ rest at. let e = c.book_at-book.ensures rest at in record { rest = e.rest; last = e.last; at = e.left c.place_of-place.result c.place_of-place.ensures; same = e.same; made = e.made }));
}

pub returns : goal.returns
returns c = λ whole is.
    c.reverse.ensures.items
    ∙ all_taken (λ (place : ℕ) (books : List Book). IsPartAt c.args.text.now c.args.nodes.now place (POther (PBooks books))) of_book c.loop-book.place c.loop-book.books.items whole (c.loop-book.invariant.left whole is)
    (λ rest at. books_end c.args.text.now c.args.nodes.now c.loop-book.place c.loop-book.invariant.within rest at (grind (arith, c.act_of.ensures, c.loop-book-test.false)))
