use Rattle.std.proofs.Common.{◌≡◌}
use Rattle.gv_scriptnodes.proofs.DeclActs.{book_is}
use Rattle.gv_scriptnodes.proofs.books.book_at.Goals as goal

pub returns : goal.returns
returns c = λ whole is.
    let n = book_is c.args.text.now c.args.nodes.now c.args.at c.requires.made whole is in
    let q_name : c.token_of-name.result ≡ n.name = n.at_name c.token_of-name.result c.token_of-name.ensures in
    let q_count : c.token_of-count.result ≡ n.count = n.at_count c.token_of-count.result c.token_of-count.ensures in
    record {
      rest = n.books;
      last = record { name = n.name; sort = n.sort; count = n.count; first = n.first };
      left = n.at_books;
      same = cc;
      made = n.made;
    }
