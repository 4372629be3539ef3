use Rattle.gv_declnodes.proofs.BooksActs.{no_books_is}
use Rattle.gv_declnodes.proofs.generated.books_node.no_books_made.Goals as goal

pub returns : goal.returns
returns c = λ whole is. no_books_is c.args._text.now c.args._nodes.now c.args._at c.requires.made whole is
