-- Books nodes by the acts that make them. Made by tools/script_nodes.py from script.grammar: edit that.
use Rattle.std.proofs.Common.{◌≡◌, ℕ, true, List, [], ◌∷◌, ◌++◌, Some, refl, sym, ap, ◌∙◌}
use Rattle.std.specs.Prelude.{drop, take}
use Rattle.gv_grammar.specs.Building.{has_tops}
use Rattle.gv_termread.specs.declared.generated.term_acts.Part.TheVariants.{Term as PTerm, Token as PToken, Other as POther}
use Rattle.gv_scriptsyntax.specs.declared.generated.script_acts.ScriptPart.TheVariants.{Books as PBooks}
use Rattle.gv_scriptsyntax.specs.declared.tree.Book.{Book}
use Rattle.gv_termread.specs.declared.placed.PlacedTerm.{PlacedTerm}
use Rattle.gv_termread.specs.declared.token.SeenToken.{SeenToken}
use Rattle.gv_scriptsyntax.specs.declared.node.Node.{Node}
use Rattle.gv_scriptsyntax.specs.declared.node.Node.TheVariants.{Made}
use Rattle.gv_scriptsyntax.specs.declared.generated.script_table.TheConstants as act
use Rattle.gv_termread.specs.TermActs.{is_term, is_token}
use Rattle.gv_scriptsyntax.specs.ScriptActs.{is_books, made_book, made_no_books}
use Rattle.gv_scriptsyntax.specs.Nodes.{Parts, built, IsPartAt}
use Rattle.gv_scriptnodes.specs.Places.{IsChild, IsTokenOf}
use Rattle.gv_scriptnodes.proofs.Opened.{opened}
use Rattle.gv_scriptnodes.proofs.Tops.{accepted, top_books, top_term, top_token}
use Rattle.gv_certnodes.specs.Places.{IsMadeBy}
use Rattle.gv_declnodes.specs.Books.{IsBook}
use Rattle.gv_certnodes.proofs.Opened.{at_part, same_act}

no_books_end : (text : List ℕ) (nodes : List Node) (at : ℕ)
    → (whole : List Book) (parts rest : Parts) (behind : Parts) → built text (take at nodes) ≡ Some parts → parts ≡ behind
    → POther (PBooks whole) ∷ rest ≡ POther (PBooks (made_no_books parts)) ∷ drop 0 parts → whole ≡ []
no_books_end text nodes at whole parts rest behind before shape q =
    let made : whole ≡ made_no_books parts = cc in
    made ∙ ap (λ (ps : Parts). made_no_books ps) shape

pub no_books_is : (text : List ℕ) (nodes : List Node) (at : ℕ) → IsMadeBy nodes at act.ACT_NO_BOOKS
    → (whole : List Book) → IsPartAt text nodes at (POther (PBooks whole)) → whole ≡ []
no_books_is text nodes at by whole is =
    let o = opened text nodes at (Made by.raw by.from) (POther (PBooks whole)) by.node is in
    let a = accepted text act.ACT_NO_BOOKS o.parts (POther (PBooks whole) ∷ o.rest) (same_act text by.raw act.ACT_NO_BOOKS o.parts by.number ∙ o.done) in
    go o.parts o.rest o.before a.0 a.1
  where
    go : (parts rest : Parts) → built text (take at nodes) ≡ Some parts → has_tops ([]) parts ≡ true → POther (PBooks whole) ∷ rest ≡ POther (PBooks (made_no_books parts)) ∷ drop 0 parts → whole ≡ []
    go parts rest before h q =
        no_books_end text nodes at whole parts rest parts before refl q

book_end : (text : List ℕ) (nodes : List Node) (at : ℕ) (at_books : ℕ) (at_name : SeenToken) (at_sort : SeenToken) (at_count : SeenToken) (at_first : ℕ) → IsChild text nodes at 8 at_books → IsTokenOf text nodes at 6 at_name → IsTokenOf text nodes at 4 at_sort → IsTokenOf text nodes at 3 at_count → IsChild text nodes at 1 at_first
    → (whole : List Book) (parts rest : Parts) (passed_8 : SeenToken) (first : PlacedTerm) (passed_6 : SeenToken) (count : SeenToken) (sort : SeenToken) (passed_3 : SeenToken) (name : SeenToken) (passed_1 : SeenToken) (books : List Book) (behind : Parts) → built text (take at nodes) ≡ Some parts → parts ≡ PToken passed_8 ∷ PTerm first ∷ PToken passed_6 ∷ PToken count ∷ PToken sort ∷ PToken passed_3 ∷ PToken name ∷ PToken passed_1 ∷ POther (PBooks books) ∷ behind
    → POther (PBooks whole) ∷ rest ≡ POther (PBooks (made_book parts)) ∷ drop 9 parts → IsBook text nodes at at_books at_name at_sort at_count at_first whole
book_end text nodes at at_books at_name at_sort at_count at_first known_books known_name known_sort known_count known_first whole parts rest passed_8 first passed_6 count sort passed_3 name passed_1 books behind before shape q =
    let made : whole ≡ made_book parts = cc in
    record {
      of_books = books;
      of_first = first;
      at_books = at_part text nodes at 8 at_books parts (behind) (POther (PBooks books)) known_books before (ap (λ (ps : Parts). drop 8 ps) shape);
      at_first = at_part text nodes at 1 at_first parts (PToken passed_6 ∷ PToken count ∷ PToken sort ∷ PToken passed_3 ∷ PToken name ∷ PToken passed_1 ∷ POther (PBooks books) ∷ behind) (PTerm first) known_first before (ap (λ (ps : Parts). drop 1 ps) shape);
      made = made ∙ ap (λ (ps : Parts). made_book ps) shape
          ∙ ap (λ (x : SeenToken). let y : List Book = (books ++ (record { name = x; sort = sort; count = count; first = first }) ∷ []) in y) (sym (known_name.same parts (PToken passed_1 ∷ POther (PBooks books) ∷ behind) name before (ap (λ (ps : Parts). drop 6 ps) shape)))
          ∙ ap (λ (x : SeenToken). let y : List Book = (books ++ (record { name = at_name; sort = x; count = count; first = first }) ∷ []) in y) (sym (known_sort.same parts (PToken passed_3 ∷ PToken name ∷ PToken passed_1 ∷ POther (PBooks books) ∷ behind) sort before (ap (λ (ps : Parts). drop 4 ps) shape)))
          ∙ ap (λ (x : SeenToken). let y : List Book = (books ++ (record { name = at_name; sort = at_sort; count = x; first = first }) ∷ []) in y) (sym (known_count.same parts (PToken sort ∷ PToken passed_3 ∷ PToken name ∷ PToken passed_1 ∷ POther (PBooks books) ∷ behind) count before (ap (λ (ps : Parts). drop 3 ps) shape)));
    }

pub book_is : (text : List ℕ) (nodes : List Node) (at : ℕ) (at_books : ℕ) (at_name : SeenToken) (at_sort : SeenToken) (at_count : SeenToken) (at_first : ℕ) → IsMadeBy nodes at act.ACT_BOOK → IsChild text nodes at 8 at_books → IsTokenOf text nodes at 6 at_name → IsTokenOf text nodes at 4 at_sort → IsTokenOf text nodes at 3 at_count → IsChild text nodes at 1 at_first
    → (whole : List Book) → IsPartAt text nodes at (POther (PBooks whole)) → IsBook text nodes at at_books at_name at_sort at_count at_first whole
book_is text nodes at at_books at_name at_sort at_count at_first by known_books known_name known_sort known_count known_first whole is =
    let o = opened text nodes at (Made by.raw by.from) (POther (PBooks whole)) by.node is in
    let a = accepted text act.ACT_BOOK o.parts (POther (PBooks whole) ∷ o.rest) (same_act text by.raw act.ACT_BOOK o.parts by.number ∙ o.done) in
    go o.parts o.rest o.before a.0 a.1
  where
    go : (parts rest : Parts) → built text (take at nodes) ≡ Some parts → has_tops (is_token ∷ is_term ∷ is_token ∷ is_token ∷ is_token ∷ is_token ∷ is_token ∷ is_token ∷ is_books ∷ []) parts ≡ true → POther (PBooks whole) ∷ rest ≡ POther (PBooks (made_book parts)) ∷ drop 9 parts → IsBook text nodes at at_books at_name at_sort at_count at_first whole
    go parts rest before h q =
        top_token (is_term ∷ is_token ∷ is_token ∷ is_token ∷ is_token ∷ is_token ∷ is_token ∷ is_books ∷ []) parts h (λ x0 r0 e0 h0.
        top_term (is_token ∷ is_token ∷ is_token ∷ is_token ∷ is_token ∷ is_token ∷ is_books ∷ []) r0 h0 (λ x1 r1 e1 h1.
        top_token (is_token ∷ is_token ∷ is_token ∷ is_token ∷ is_token ∷ is_books ∷ []) r1 h1 (λ x2 r2 e2 h2.
        top_token (is_token ∷ is_token ∷ is_token ∷ is_token ∷ is_books ∷ []) r2 h2 (λ x3 r3 e3 h3.
        top_token (is_token ∷ is_token ∷ is_token ∷ is_books ∷ []) r3 h3 (λ x4 r4 e4 h4.
        top_token (is_token ∷ is_token ∷ is_books ∷ []) r4 h4 (λ x5 r5 e5 h5.
        top_token (is_token ∷ is_books ∷ []) r5 h5 (λ x6 r6 e6 h6.
        top_token (is_books ∷ []) r6 h6 (λ x7 r7 e7 h7.
        top_books ([]) r7 h7 (λ x8 r8 e8 h8.
        book_end text nodes at at_books at_name at_sort at_count at_first known_books known_name known_sort known_count known_first whole parts rest x0 x1 x2 x3 x4 x5 x6 x7 x8 r8 before (e0 ∙ ap (λ (ps : Parts). PToken x0 ∷ ps) (e1 ∙ ap (λ (ps : Parts). PTerm x1 ∷ ps) (e2 ∙ ap (λ (ps : Parts). PToken x2 ∷ ps) (e3 ∙ ap (λ (ps : Parts). PToken x3 ∷ ps) (e4 ∙ ap (λ (ps : Parts). PToken x4 ∷ ps) (e5 ∙ ap (λ (ps : Parts). PToken x5 ∷ ps) (e6 ∙ ap (λ (ps : Parts). PToken x6 ∷ ps) (e7 ∙ ap (λ (ps : Parts). PToken x7 ∷ ps) e8)))))))) q)))))))))
