use Rattle.gv_declnodes.proofs.BooksActs.{book_is}
use Rattle.gv_declnodes.proofs.generated.books_node.book_made.Goals as goal

pub returns : goal.returns
returns c = λ whole is. book_is c.args.text.now c.args.nodes.now c.args.at c.place_of-books.result c.token_of-name.result c.token_of-sort.result c.token_of-count.result c.place_of-first.result c.requires.made c.place_of-books.ensures c.token_of-name.ensures c.token_of-sort.ensures c.token_of-count.ensures c.place_of-first.ensures whole is
