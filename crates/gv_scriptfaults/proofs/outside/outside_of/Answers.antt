use Rattle.std.proofs.Common.{◌<◌, ◌∷◌, [], List, length, map, take, get_or, sym, subst, refl, ap, ◌∙◌, arith, append-nil}
use Rattle.std.proofs.lemmas.List.{take_more, take_all, map-append}
use Rattle.gv_scriptnames.specs.declared.outline.BookOutline.{BookOutline}
use Rattle.gv_scriptnames.specs.Scopes.{Shape, block_lease, book_lease}
use Rattle.gv_scriptfaults.specs.Scoped.{params_of}
use Rattle.gv_scriptfaults.specs.Tables.{IsTable}
use Rattle.gv_scriptfaults.proofs.Tables.{table_more}
use Rattle.gv_scriptfaults.proofs.Declaring.{none_token}
use Rattle.gv_scriptfaults.proofs.outside.outside_of.Goals as goal

abbrev none_book : BookOutline
none_book = record { name = none_token; count = none_token }

pub loop-book-init : goal.loop-book-init
loop-book-init c = table_more (λ (s : Shape). s.name) params_of [] block_lease _ _ c.new-preds.result c.keep.new.self c.in_ok-from_slice.ensures refl c.in_ok-keep.ensures c.new-preds.ensures

pub loop-book-preserved : goal.loop-book-preserved
loop-book-preserved c =
    let text = c.args.text.now in
    let books = c.args.books.now in
    let i = c.loop-book.book-index in
    let lt : i < length books = omega arith in
    let more = ap (λ (ss : List Shape). block_lease ∷ ss) (sym (ap (map (book_lease text)) (take_more books i none_book lt) ∙ map-append (book_lease text) (take i books) (get_or books i none_book ∷ []))) in
    subst (λ (ss : List Shape). IsTable (λ (s : Shape). s.name) params_of ss c.keep-in-loop-book.new.self) more
    (table_more (λ (s : Shape). s.name) params_of (block_lease ∷ map (book_lease text) (take i books)) (book_lease text (get_or books i none_book)) _ _ c.loop-book.preds c.keep-in-loop-book.new.self c.in_ok-lease_name.ensures refl c.in_ok-keep-2.ensures c.loop-book.invariant)

pub returns : goal.returns
returns c =
    let text = c.args.text.now in
    record {
      preds = subst (λ (ss : List Shape). IsTable (λ (s : Shape). s.name) params_of ss c.loop-book.preds)
          (ap (λ (bs : List BookOutline). block_lease ∷ map (book_lease text) bs) (take_all c.loop-book.book-index c.args.books.now (omega arith)) ∙ ap (λ (ss : List Shape). block_lease ∷ ss) (sym (append-nil (map (book_lease text) c.args.books.now))))
          c.loop-book.invariant;
      books = c.requires;
    }
