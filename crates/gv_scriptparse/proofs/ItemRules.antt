-- The rules of items of heaps and terms keep the meaning of their names.
use Rattle.std.proofs.Common.{◌≡◌, ◌+◌, ◌∷◌, ◌++◌, ◌∙◌, ℕ, List, inl, refl, sym, ap, append_assoc, arith, []}
use Rattle.std.proofs.lemmas.List.{append-nil, map-append}
use Rattle.gv_grammar.specs.Text.{plain, opens, tokens_of}
use Rattle.gv_termread.specs.declared.token.SeenToken.{SeenToken}
use Rattle.gv_grammar.proofs.Meaning.{none, taken, acted, means, mk, at, one_class}
use Rattle.gv_termread.specs.declared.generated.term_table.TheConstants.{CLASS_AND_AND, CLASS_BANG, CLASS_COMMA, CLASS_EQUAL, CLASS_L_PAREN, CLASS_NUMBER, CLASS_OR_OR, CLASS_R_PAREN}
use Rattle.gv_scriptsyntax.specs.declared.generated.script_table.TheConstants.{CLASS_BOOK_ATOM_WORD, CLASS_CELL_ATOM_WORD, CLASS_DONE_WORD, CLASS_EACH_WORD, CLASS_FIELD_ATOM_WORD, CLASS_LOCK_WORD, CLASS_L_BRACE, CLASS_ONE_ATOM_WORD, CLASS_R_BRACE, CLASS_SEMI, CLASS_THREE_ATOM_WORD, CLASS_TOKEN_WORD, NAME_BOOK_ITEM, NAME_CELL_ITEM, NAME_CONSTANT_ITEM, NAME_DONE_ITEM, NAME_EACH_ITEM, NAME_EQUATED, NAME_EQUATION, NAME_FIELD_ITEM, NAME_FIRST, NAME_FIRST_COMPARISON, NAME_FIRST_COMPARISON_TAIL, NAME_FIRST_CONJUNCTION, NAME_FIRST_CONJUNCTION_TAIL, NAME_FIRST_DISJUNCTION, NAME_FIRST_DISJUNCTION_TAIL, NAME_FIRST_PRIM, NAME_FIRST_PRODUCT, NAME_FIRST_PRODUCT_TAIL, NAME_FIRST_SUM, NAME_FIRST_SUM_TAIL, NAME_FIRST_UNARY, NAME_HEAP, NAME_ITEM, NAME_ITEMS, NAME_LOCK_ITEM, NAME_ONE_ITEM, NAME_OPERATORS, NAME_PLAIN_ITEM, NAME_SECOND, NAME_THREE_ITEM, NAME_TOKEN_ITEM, NAME_TWO_ITEM, NAME_UNEQUAL, NAME_VARIABLE_ITEM, RULE_BOOK_ITEM_ATOM, RULE_BOOK_ITEM_FACT, RULE_CELL_ITEM_ATOM, RULE_CELL_ITEM_FACT, RULE_CONSTANT_ITEM_FACT, RULE_CONSTANT_ITEM_INST, RULE_DONE_ITEM_ATOM, RULE_DONE_ITEM_FACT, RULE_EACH_ITEM_ATOM, RULE_EACH_ITEM_FACT, RULE_EQUATED_END, RULE_EQUATED_EQUAL, RULE_EQUATED_OTHER, RULE_EQUATION_FIRST, RULE_FIELD_ITEM_ATOM, RULE_FIELD_ITEM_FACT, RULE_FIRST_COMPARISON_FIRST, RULE_FIRST_COMPARISON_TAIL_END, RULE_FIRST_COMPARISON_TAIL_MORE, RULE_FIRST_CONJUNCTION_FIRST, RULE_FIRST_CONJUNCTION_TAIL_END, RULE_FIRST_CONJUNCTION_TAIL_MORE, RULE_FIRST_DISJUNCTION_FIRST, RULE_FIRST_DISJUNCTION_TAIL_END, RULE_FIRST_DISJUNCTION_TAIL_MORE, RULE_FIRST_PRIM_CONSTANT, RULE_FIRST_PRIM_FREE, RULE_FIRST_PRIM_MAKER, RULE_FIRST_PRIM_NUMBER, RULE_FIRST_PRIM_ONE, RULE_FIRST_PRIM_PAREN, RULE_FIRST_PRIM_THREE, RULE_FIRST_PRIM_TWO, RULE_FIRST_PRODUCT_FIRST, RULE_FIRST_PRODUCT_TAIL_END, RULE_FIRST_PRODUCT_TAIL_MORE, RULE_FIRST_SUM_FIRST, RULE_FIRST_SUM_TAIL_END, RULE_FIRST_SUM_TAIL_MORE, RULE_FIRST_TERM, RULE_FIRST_UNARY_PRIM, RULE_FIRST_UNARY_SIGN, RULE_HEAP_BRACES, RULE_ITEMS_END, RULE_ITEMS_MORE, RULE_ITEM_BOOK, RULE_ITEM_CELL, RULE_ITEM_CONSTANT, RULE_ITEM_DONE, RULE_ITEM_EACH, RULE_ITEM_FIELD, RULE_ITEM_LOCK, RULE_ITEM_MAKER, RULE_ITEM_NUMBER, RULE_ITEM_OF_ONE, RULE_ITEM_OF_THREE, RULE_ITEM_OF_TWO, RULE_ITEM_ONE, RULE_ITEM_PAREN, RULE_ITEM_PLAIN, RULE_ITEM_SIGN, RULE_ITEM_THREE, RULE_ITEM_TOKEN, RULE_ITEM_TWO, RULE_LOCK_ITEM_ATOM, RULE_LOCK_ITEM_FACT, RULE_ONE_ITEM_ATOM, RULE_ONE_ITEM_FACT, RULE_OPERATORS_TAILS, RULE_PLAIN_ITEM_FACT, RULE_PLAIN_ITEM_INST, RULE_SECOND_PRIM, RULE_SECOND_SIGN, RULE_THREE_ITEM_ATOM, RULE_THREE_ITEM_FACT, RULE_TOKEN_ITEM_ATOM, RULE_TOKEN_ITEM_FACT, RULE_TWO_ITEM_ATOM, RULE_TWO_ITEM_FACT, RULE_UNEQUAL_EQUAL, RULE_UNEQUAL_OTHER, RULE_VARIABLE_ITEM_FACT}
use Rattle.gv_termread.specs.Language.{unary, product, sum, compare, comparison, conjunction, prim, invert, number, constant, variable, paren}
use Rattle.gv_termread.specs.Trees as read
use Rattle.gv_scriptsyntax.specs.Language.{IsEquation, IsFirst, IsFirstPrim, IsHeap, IsHeapItems, IsItem, equation, first_add, first_and, first_compare, first_comparison, first_conjunction, first_constant, first_invert, first_maker, first_multiply, first_number, first_one, first_or, first_paren, first_prim, first_product, first_sum, first_term, first_three, first_two, first_unary, first_variable, heap_of, held, held_constant, held_each, held_plain, next_item, no_items}
use Rattle.gv_scriptparse.proofs.Meanings.{Keeps, bang_inverts, equal_compares, named_free, no_caret, one_atom_free, other_compares, two_atoms_free, word_free, fact_of, second_of, prim_begins, FirstUnary, FirstProduct, FirstSum, FirstComparison, FirstConjunction, FirstDisjunction}

module _ (text : List ℕ) where
  pub heap_braces : Keeps text RULE_HEAP_BRACES NAME_HEAP
  heap_braces _ (acted (acted (taken t0 it0 (acted (means {ts = u0} d0 (taken t1 it1 (acted (acted none)))))))) n =
      let x0 = d0 (n + 1) [] [] no_items in
      let e0 = x0.same in
      mk (IsHeap text n) _ _ (heap_of t0 t1 (one_class CLASS_L_BRACE t0.class it0) x0.spelled (one_class CLASS_R_BRACE t1.class it1)) (simp (map-append, append_assoc, append-nil, e0))

  pub items_more : Keeps text RULE_ITEMS_MORE NAME_ITEMS
  items_more _ (means {ts = u0} d0 (taken t0 it0 (acted (means {ts = zs} k none)))) n xs ps h =
      let x0 = d0 n in
      let e0 = x0.same in
      at (simp (map-append, append_assoc, append-nil, e0)) (k n _ _ (next_item t0 h x0.spelled (one_class CLASS_SEMI t0.class it0)))

  pub items_end : Keeps text RULE_ITEMS_END NAME_ITEMS
  items_end _ none n xs ps h = mk (IsHeapItems text n) xs ps h (simp append-nil)

  pub item_sign : Keeps text RULE_ITEM_SIGN NAME_ITEM
  item_sign _ (acted (acted (taken t i (means {ts = ts} d (acted (means {ts = vs} k (acted (acted none)))))))) n = let a = d (n + 1) in let e = a.same in at (simp (append_assoc, e)) (fact_of text n vs k (invert t i a.spelled))

  pub item_number : Keeps text RULE_ITEM_NUMBER NAME_ITEM
  item_number _ (acted (taken t i (acted (means {ts = ts} d (acted (acted none)))))) n = fact_of text n ts d (prim (number t i))

  pub item_paren : Keeps text RULE_ITEM_PAREN NAME_ITEM
  item_paren _ (acted (acted (acted (taken o i (means {ts = ts} d (taken c j (acted (acted (means {ts = vs} k (acted (acted none))))))))))) n =
      let a = d (n + 1) in
      let e = a.same in
      let q : tokens_of (opens n o ∷ a.placed ++ plain c ∷ []) ≡ o ∷ (ts ++ (c ∷ [])) = simp (map-append, e) in
      at (ap (λ (us : List SeenToken). us ++ (vs ++ [])) q ∙ ap (λ (us : List SeenToken). o ∷ us) (append_assoc ts (c ∷ []) (vs ++ [])))
      (fact_of text n vs k (prim (paren o c (one_class CLASS_L_PAREN o.class i) a.spelled (one_class CLASS_R_PAREN c.class j))))

  pub item_maker : Keeps text RULE_ITEM_MAKER NAME_ITEM
  item_maker _ (taken t i (acted (means {ts = ts} d (means {ts = vs} k (acted (acted none)))))) n = let a = d n t i in let e = a.same in at (simp (append_assoc, e)) (fact_of text n vs k (prim a.spelled))

  pub item_of_one : Keeps text RULE_ITEM_OF_ONE NAME_ITEM
  item_of_one _ (taken t i (acted (means {ts = ts} d (means {ts = vs} k (acted (acted none)))))) n = let a = d n t i in let e = a.same in at (simp (append_assoc, e)) (fact_of text n vs k (prim a.spelled))

  pub item_of_two : Keeps text RULE_ITEM_OF_TWO NAME_ITEM
  item_of_two _ (taken t i (acted (means {ts = ts} d (means {ts = vs} k (acted (acted none)))))) n = let a = d n t i in let e = a.same in at (simp (append_assoc, e)) (fact_of text n vs k (prim a.spelled))

  pub item_of_three : Keeps text RULE_ITEM_OF_THREE NAME_ITEM
  item_of_three _ (taken t i (acted (means {ts = ts} d (means {ts = vs} k (acted (acted none)))))) n = let a = d n t i in let e = a.same in at (simp (append_assoc, e)) (fact_of text n vs k (prim a.spelled))

  pub item_constant : Keeps text RULE_ITEM_CONSTANT NAME_ITEM
  item_constant _ (taken t i (means {ts = ts} d none)) n = at (simp append-nil) (d n t i)

  pub item_plain : Keeps text RULE_ITEM_PLAIN NAME_ITEM
  item_plain _ (taken t i (means {ts = ts} d none)) n = at (simp append-nil) (d n t i)

  pub item_one : Keeps text RULE_ITEM_ONE NAME_ITEM
  item_one _ (taken t i (means {ts = ts} d none)) n = at (simp append-nil) (d n t (one_class CLASS_ONE_ATOM_WORD t.class i))

  pub item_two : Keeps text RULE_ITEM_TWO NAME_ITEM
  item_two _ (taken t i (means {ts = ts} d none)) n = at (simp append-nil) (d n t i)

  pub item_three : Keeps text RULE_ITEM_THREE NAME_ITEM
  item_three _ (taken t i (means {ts = ts} d none)) n = at (simp append-nil) (d n t (one_class CLASS_THREE_ATOM_WORD t.class i))

  pub item_cell : Keeps text RULE_ITEM_CELL NAME_ITEM
  item_cell _ (taken t i (means {ts = ts} d none)) n = at (simp append-nil) (d n t (one_class CLASS_CELL_ATOM_WORD t.class i))

  pub item_field : Keeps text RULE_ITEM_FIELD NAME_ITEM
  item_field _ (taken t i (means {ts = ts} d none)) n = at (simp append-nil) (d n t (one_class CLASS_FIELD_ATOM_WORD t.class i))

  pub item_book : Keeps text RULE_ITEM_BOOK NAME_ITEM
  item_book _ (taken t i (means {ts = ts} d none)) n = at (simp append-nil) (d n t (one_class CLASS_BOOK_ATOM_WORD t.class i))

  pub item_lock : Keeps text RULE_ITEM_LOCK NAME_ITEM
  item_lock _ (taken t i (means {ts = ts} d none)) n = at (simp append-nil) (d n t (one_class CLASS_LOCK_WORD t.class i))

  pub item_token : Keeps text RULE_ITEM_TOKEN NAME_ITEM
  item_token _ (taken t i (means {ts = ts} d none)) n = at (simp append-nil) (d n t (one_class CLASS_TOKEN_WORD t.class i))

  pub item_done : Keeps text RULE_ITEM_DONE NAME_ITEM
  item_done _ (taken t i (means {ts = ts} d none)) n = at (simp append-nil) (d n t (one_class CLASS_DONE_WORD t.class i))

  pub item_each : Keeps text RULE_ITEM_EACH NAME_ITEM
  item_each _ (taken t i (means {ts = ts} d none)) n = at (simp append-nil) (d n t (one_class CLASS_EACH_WORD t.class i))

  pub constant_item_inst : Keeps text RULE_CONSTANT_ITEM_INST NAME_CONSTANT_ITEM
  constant_item_inst _ (means {ts = ts} d (acted (acted (acted none)))) n w h = let a = d n in let e = a.same in mk (IsItem text n) _ _ (held_constant w h a.spelled) (simp (append-nil, e))

  pub constant_item_fact : Keeps text RULE_CONSTANT_ITEM_FACT NAME_CONSTANT_ITEM
  constant_item_fact _ (acted (acted (means {ts = ts} d (acted (acted none))))) n w h = fact_of text n ts d (prim (constant w h))

  pub plain_item_inst : Keeps text RULE_PLAIN_ITEM_INST NAME_PLAIN_ITEM
  plain_item_inst _ (means {ts = ts} d (acted (acted (acted none)))) n w h = let a = d n in let e = a.same in mk (IsItem text n) _ _ (held_plain w h a.spelled) (simp (append-nil, e))

  pub plain_item_fact : Keeps text RULE_PLAIN_ITEM_FACT NAME_PLAIN_ITEM
  plain_item_fact _ (means {ts = ts} d none) n w h = at (simp append-nil) (d n w (named_free w.class h))

  pub one_item_atom : Keeps text RULE_ONE_ITEM_ATOM NAME_ONE_ITEM
  one_item_atom _ (means {ts = ts} d (acted none)) n w h = let a = d n w h in let e = a.same in mk (IsItem text n) _ _ (held a.spelled) (simp (append-nil, e))

  pub one_item_fact : Keeps text RULE_ONE_ITEM_FACT NAME_ONE_ITEM
  one_item_fact _ (means {ts = ts} d none) n w h = at (simp append-nil) (d n w (one_atom_free w.class h))

  pub two_item_atom : Keeps text RULE_TWO_ITEM_ATOM NAME_TWO_ITEM
  two_item_atom _ (means {ts = ts} d (acted none)) n w h = let a = d n w h in let e = a.same in mk (IsItem text n) _ _ (held a.spelled) (simp (append-nil, e))

  pub two_item_fact : Keeps text RULE_TWO_ITEM_FACT NAME_TWO_ITEM
  two_item_fact _ (means {ts = ts} d none) n w h = at (simp append-nil) (d n w (two_atoms_free w.class h))

  pub three_item_atom : Keeps text RULE_THREE_ITEM_ATOM NAME_THREE_ITEM
  three_item_atom _ (means {ts = ts} d (acted none)) n w h = let a = d n w h in let e = a.same in mk (IsItem text n) _ _ (held a.spelled) (simp (append-nil, e))

  pub three_item_fact : Keeps text RULE_THREE_ITEM_FACT NAME_THREE_ITEM
  three_item_fact _ (means {ts = ts} d none) n w h = at (simp append-nil) (d n w (word_free CLASS_THREE_ATOM_WORD w.class h refl))

  pub cell_item_atom : Keeps text RULE_CELL_ITEM_ATOM NAME_CELL_ITEM
  cell_item_atom _ (means {ts = ts} d (acted none)) n w h = let a = d n w h in let e = a.same in mk (IsItem text n) _ _ (held a.spelled) (simp (append-nil, e))

  pub cell_item_fact : Keeps text RULE_CELL_ITEM_FACT NAME_CELL_ITEM
  cell_item_fact _ (means {ts = ts} d none) n w h = at (simp append-nil) (d n w (word_free CLASS_CELL_ATOM_WORD w.class h refl))

  pub field_item_atom : Keeps text RULE_FIELD_ITEM_ATOM NAME_FIELD_ITEM
  field_item_atom _ (means {ts = ts} d (acted none)) n w h = let a = d n w h in let e = a.same in mk (IsItem text n) _ _ (held a.spelled) (simp (append-nil, e))

  pub field_item_fact : Keeps text RULE_FIELD_ITEM_FACT NAME_FIELD_ITEM
  field_item_fact _ (means {ts = ts} d none) n w h = at (simp append-nil) (d n w (word_free CLASS_FIELD_ATOM_WORD w.class h refl))

  pub book_item_atom : Keeps text RULE_BOOK_ITEM_ATOM NAME_BOOK_ITEM
  book_item_atom _ (means {ts = ts} d (acted none)) n w h = let a = d n w h in let e = a.same in mk (IsItem text n) _ _ (held a.spelled) (simp (append-nil, e))

  pub book_item_fact : Keeps text RULE_BOOK_ITEM_FACT NAME_BOOK_ITEM
  book_item_fact _ (means {ts = ts} d none) n w h = at (simp append-nil) (d n w (word_free CLASS_BOOK_ATOM_WORD w.class h refl))

  pub lock_item_atom : Keeps text RULE_LOCK_ITEM_ATOM NAME_LOCK_ITEM
  lock_item_atom _ (means {ts = ts} d (acted none)) n w h = let a = d n w h in let e = a.same in mk (IsItem text n) _ _ (held a.spelled) (simp (append-nil, e))

  pub lock_item_fact : Keeps text RULE_LOCK_ITEM_FACT NAME_LOCK_ITEM
  lock_item_fact _ (means {ts = ts} d none) n w h = at (simp append-nil) (d n w (word_free CLASS_LOCK_WORD w.class h refl))

  pub token_item_atom : Keeps text RULE_TOKEN_ITEM_ATOM NAME_TOKEN_ITEM
  token_item_atom _ (means {ts = ts} d (acted none)) n w h = let a = d n w h in let e = a.same in mk (IsItem text n) _ _ (held a.spelled) (simp (append-nil, e))

  pub token_item_fact : Keeps text RULE_TOKEN_ITEM_FACT NAME_TOKEN_ITEM
  token_item_fact _ (means {ts = ts} d none) n w h = at (simp append-nil) (d n w (word_free CLASS_TOKEN_WORD w.class h refl))

  pub done_item_atom : Keeps text RULE_DONE_ITEM_ATOM NAME_DONE_ITEM
  done_item_atom _ (means {ts = ts} d (acted none)) n w h = let a = d n w h in let e = a.same in mk (IsItem text n) _ _ (held a.spelled) (simp (append-nil, e))

  pub done_item_fact : Keeps text RULE_DONE_ITEM_FACT NAME_DONE_ITEM
  done_item_fact _ (means {ts = ts} d none) n w h = at (simp append-nil) (d n w (word_free CLASS_DONE_WORD w.class h refl))

  pub each_item_atom : Keeps text RULE_EACH_ITEM_ATOM NAME_EACH_ITEM
  each_item_atom _ (means {ts = ts} d (acted none)) n w h = let a = d n w h in let e = a.same in mk (IsItem text n) _ _ (held_each a.spelled) (simp (append-nil, e))

  pub each_item_fact : Keeps text RULE_EACH_ITEM_FACT NAME_EACH_ITEM
  each_item_fact _ (means {ts = ts} d none) n w h = at (simp append-nil) (d n w (word_free CLASS_EACH_WORD w.class h refl))

  pub variable_item_fact : Keeps text RULE_VARIABLE_ITEM_FACT NAME_VARIABLE_ITEM
  variable_item_fact _ (acted (acted (means {ts = ts} d (acted (acted none))))) n w h = fact_of text n ts d (prim (variable w (inl h)))

  pub operators_tails : Keeps text RULE_OPERATORS_TAILS NAME_OPERATORS
  operators_tails _ (means {ts = os} p (means {ts = bs} s (means {ts = cs} c (means {ts = ds} j (means {ts = es} d none))))) n x xs h =
      let x1 = p n x xs (unary h) in
      let x2 = s n x1.tree x1.placed (product x1.spelled) in
      let x3 = c n x2.tree x2.placed (sum x2.spelled) in
      let x4 = j n x3.tree x3.placed (comparison x3.spelled) in
      let x5 = d n x4.tree x4.placed (conjunction x4.spelled) in
      let e1 = x1.same in let e2 = x2.same in let e3 = x3.same in let e4 = x4.same in
      at (rw (e4, e3, e2, e1) (simp (append_assoc, append-nil))) x5

  pub second_sign : Keeps text RULE_SECOND_SIGN NAME_SECOND
  second_sign _ (acted (acted (taken t i (means {ts = ts} d (acted (means {ts = vs} k (acted none))))))) n =
      let a = d (n + 1) in
      let e = a.same in
      let q : t.class ≡ CLASS_BANG = one_class CLASS_BANG t.class i in
      second_of text n (t ∷ (ts ++ (vs ++ []))) vs (opens n t ∷ a.placed) k (invert t (bang_inverts t.class q) a.spelled) (record { some = omega arith; well = no_caret t.class q }) (simp (append-nil, e))

  pub second_prim : Keeps text RULE_SECOND_PRIM NAME_SECOND
  second_prim _ (acted (means {ts = ts} d (means {ts = vs} k (acted none)))) n =
      let a = d n in
      let e = a.same in
      second_of text n (ts ++ (vs ++ [])) vs a.placed k (prim a.spelled) (prim_begins text a.spelled) (simp (append-nil, e))

  pub first_term_rule : Keeps text RULE_FIRST_TERM NAME_FIRST
  first_term_rule _ (acted (means {ts = ts} d (acted none))) n = let a = d n in mk (IsFirst text n) a.tree.0 _ (first_term a.spelled) (a.same ∙ sym (append-nil ts))

  pub first_disjunction_first : Keeps text RULE_FIRST_DISJUNCTION_FIRST NAME_FIRST_DISJUNCTION
  first_disjunction_first _ (means {ts = ts} d (means {ts = vs} k none)) n = let a = d n in let e = a.same in at (simp (append-nil, e)) (k n a.tree _ (first_conjunction a.spelled))

  pub first_disjunction_tail_more : Keeps text RULE_FIRST_DISJUNCTION_TAIL_MORE NAME_FIRST_DISJUNCTION_TAIL
  first_disjunction_tail_more _ (acted (taken t i (means {ts = ts} d (acted (means {ts = vs} k none))))) n (x, m) xs h =
      let a = d (m + 1) in let e = a.same in
      at (simp (map-append, append_assoc, append-nil, e)) (k n (read.binary t x a.tree.0, a.tree.1) _ (first_or t h (one_class CLASS_OR_OR t.class i) a.spelled))

  pub first_disjunction_tail_end : Keeps text RULE_FIRST_DISJUNCTION_TAIL_END NAME_FIRST_DISJUNCTION_TAIL
  first_disjunction_tail_end _ none n x xs h = mk (FirstDisjunction text n) x _ h (simp append-nil)

  pub first_conjunction_first : Keeps text RULE_FIRST_CONJUNCTION_FIRST NAME_FIRST_CONJUNCTION
  first_conjunction_first _ (means {ts = ts} d (means {ts = vs} k none)) n = let a = d n in let e = a.same in at (simp (append-nil, e)) (k n a.tree _ (first_comparison a.spelled))

  pub first_conjunction_tail_more : Keeps text RULE_FIRST_CONJUNCTION_TAIL_MORE NAME_FIRST_CONJUNCTION_TAIL
  first_conjunction_tail_more _ (acted (taken t i (means {ts = ts} d (acted (means {ts = vs} k none))))) n (x, m) xs h =
      let a = d (m + 1) in let e = a.same in
      at (simp (map-append, append_assoc, append-nil, e)) (k n (read.binary t x a.tree.0, a.tree.1) _ (first_and t h (one_class CLASS_AND_AND t.class i) a.spelled))

  pub first_conjunction_tail_end : Keeps text RULE_FIRST_CONJUNCTION_TAIL_END NAME_FIRST_CONJUNCTION_TAIL
  first_conjunction_tail_end _ none n x xs h = mk (FirstConjunction text n) x _ h (simp append-nil)

  pub first_comparison_first : Keeps text RULE_FIRST_COMPARISON_FIRST NAME_FIRST_COMPARISON
  first_comparison_first _ (means {ts = ts} d (means {ts = vs} k none)) n = let a = d n in let e = a.same in at (simp (append-nil, e)) (k n a.tree _ (first_sum a.spelled))

  pub first_comparison_tail_more : Keeps text RULE_FIRST_COMPARISON_TAIL_MORE NAME_FIRST_COMPARISON_TAIL
  first_comparison_tail_more _ (acted (taken t i (means {ts = ts} d (acted (means {ts = vs} k none))))) n (x, m) xs h =
      let a = d (m + 1) in let e = a.same in
      at (simp (map-append, append_assoc, append-nil, e)) (k n (read.binary t x a.tree.0, a.tree.1) _ (first_compare t h i a.spelled))

  pub first_comparison_tail_end : Keeps text RULE_FIRST_COMPARISON_TAIL_END NAME_FIRST_COMPARISON_TAIL
  first_comparison_tail_end _ none n x xs h = mk (FirstComparison text n) x _ h (simp append-nil)

  pub first_sum_first : Keeps text RULE_FIRST_SUM_FIRST NAME_FIRST_SUM
  first_sum_first _ (means {ts = ts} d (means {ts = vs} k none)) n = let a = d n in let e = a.same in at (simp (append-nil, e)) (k n a.tree _ (first_product a.spelled))

  pub first_sum_tail_more : Keeps text RULE_FIRST_SUM_TAIL_MORE NAME_FIRST_SUM_TAIL
  first_sum_tail_more _ (acted (taken t i (means {ts = ts} d (acted (means {ts = vs} k none))))) n (x, m) xs h =
      let a = d (m + 1) in let e = a.same in
      at (simp (map-append, append_assoc, append-nil, e)) (k n (read.binary t x a.tree.0, a.tree.1) _ (first_add t h i a.spelled))

  pub first_sum_tail_end : Keeps text RULE_FIRST_SUM_TAIL_END NAME_FIRST_SUM_TAIL
  first_sum_tail_end _ none n x xs h = mk (FirstSum text n) x _ h (simp append-nil)

  pub first_product_first : Keeps text RULE_FIRST_PRODUCT_FIRST NAME_FIRST_PRODUCT
  first_product_first _ (means {ts = ts} d (means {ts = vs} k none)) n = let a = d n in let e = a.same in at (simp (append-nil, e)) (k n a.tree _ (first_unary a.spelled))

  pub first_product_tail_more : Keeps text RULE_FIRST_PRODUCT_TAIL_MORE NAME_FIRST_PRODUCT_TAIL
  first_product_tail_more _ (acted (taken t i (means {ts = ts} d (acted (means {ts = vs} k none))))) n (x, m) xs h =
      let a = d (m + 1) in let e = a.same in
      at (simp (map-append, append_assoc, append-nil, e)) (k n (read.binary t x a.tree.0, a.tree.1) _ (first_multiply t h i a.spelled))

  pub first_product_tail_end : Keeps text RULE_FIRST_PRODUCT_TAIL_END NAME_FIRST_PRODUCT_TAIL
  first_product_tail_end _ none n x xs h = mk (FirstProduct text n) x _ h (simp append-nil)

  pub first_unary_sign : Keeps text RULE_FIRST_UNARY_SIGN NAME_FIRST_UNARY
  first_unary_sign _ (acted (taken t i (means {ts = ts} d (acted none)))) n = let a = d (n + 1) in let e = a.same in mk (FirstUnary text n) (read.unary t a.tree.0, a.tree.1) _ (first_invert t i a.spelled) (simp (append-nil, e))

  pub first_unary_prim : Keeps text RULE_FIRST_UNARY_PRIM NAME_FIRST_UNARY
  first_unary_prim _ (means {ts = ts} d none) n = let a = d n in mk (FirstUnary text n) (a.tree, n) _ (first_prim a.spelled) (a.same ∙ sym (append-nil ts))

  pub first_prim_number : Keeps text RULE_FIRST_PRIM_NUMBER NAME_FIRST_PRIM
  first_prim_number _ (taken t0 it0 (acted none)) n =
      mk (IsFirstPrim text n) _ _ (first_number t0 (one_class CLASS_NUMBER t0.class it0)) refl

  pub first_prim_constant : Keeps text RULE_FIRST_PRIM_CONSTANT NAME_FIRST_PRIM
  first_prim_constant _ (taken t0 it0 (acted none)) n =
      mk (IsFirstPrim text n) _ _ (first_constant t0 it0) refl

  pub first_prim_free : Keeps text RULE_FIRST_PRIM_FREE NAME_FIRST_PRIM
  first_prim_free _ (taken t0 it0 (acted none)) n =
      mk (IsFirstPrim text n) _ _ (first_variable t0 it0) refl

  pub first_prim_paren : Keeps text RULE_FIRST_PRIM_PAREN NAME_FIRST_PRIM
  first_prim_paren _ (acted (acted (taken t0 it0 (means {ts = u0} d0 (taken t1 it1 (acted (acted none))))))) n =
      let x0 = d0 (n + 1) in
      let e0 = x0.same in
      mk (IsFirstPrim text n) _ _ (first_paren t0 t1 (one_class CLASS_L_PAREN t0.class it0) x0.spelled (one_class CLASS_R_PAREN t1.class it1)) (simp (map-append, append_assoc, append-nil, e0))

  pub first_prim_maker : Keeps text RULE_FIRST_PRIM_MAKER NAME_FIRST_PRIM
  first_prim_maker _ (taken t0 it0 (acted (acted (taken t1 it1 (taken t2 it2 (taken t3 it3 (means {ts = u0} d0 (taken t4 it4 (acted (acted none)))))))))) n =
      let x0 = d0 (n + 1) in
      let e0 = x0.same in
      mk (IsFirstPrim text n) _ _ (first_maker t0 t1 t2 t3 t4 it0 (one_class CLASS_L_PAREN t1.class it1) (one_class CLASS_NUMBER t2.class it2) (one_class CLASS_COMMA t3.class it3) x0.spelled (one_class CLASS_R_PAREN t4.class it4)) (simp (map-append, append_assoc, append-nil, e0))

  pub first_prim_one : Keeps text RULE_FIRST_PRIM_ONE NAME_FIRST_PRIM
  first_prim_one _ (taken t0 it0 (acted (acted (taken t1 it1 (means {ts = u0} d0 (taken t2 it2 (acted (acted none)))))))) n =
      let x0 = d0 (n + 1) in
      let e0 = x0.same in
      mk (IsFirstPrim text n) _ _ (first_one t0 t1 t2 it0 (one_class CLASS_L_PAREN t1.class it1) x0.spelled (one_class CLASS_R_PAREN t2.class it2)) (simp (map-append, append_assoc, append-nil, e0))

  pub first_prim_two : Keeps text RULE_FIRST_PRIM_TWO NAME_FIRST_PRIM
  first_prim_two _ (taken t0 it0 (acted (acted (taken t1 it1 (means {ts = u0} d0 (taken t2 it2 (means {ts = u1} d1 (taken t3 it3 (acted (acted none)))))))))) n =
      let x0 = d0 (n + 1) in
      let e0 = x0.same in
      let x1 = d1 (n + 1) in
      let e1 = x1.same in
      mk (IsFirstPrim text n) _ _ (first_two t0 t1 t2 t3 it0 (one_class CLASS_L_PAREN t1.class it1) x0.spelled (one_class CLASS_COMMA t2.class it2) x1.spelled (one_class CLASS_R_PAREN t3.class it3)) (simp (map-append, append_assoc, append-nil, e0, e1))

  pub first_prim_three : Keeps text RULE_FIRST_PRIM_THREE NAME_FIRST_PRIM
  first_prim_three _ (taken t0 it0 (acted (acted (taken t1 it1 (means {ts = u0} d0 (taken t2 it2 (means {ts = u1} d1 (taken t3 it3 (means {ts = u2} d2 (taken t4 it4 (acted (acted none)))))))))))) n =
      let x0 = d0 (n + 1) in
      let e0 = x0.same in
      let x1 = d1 (n + 1) in
      let e1 = x1.same in
      let x2 = d2 (n + 1) in
      let e2 = x2.same in
      mk (IsFirstPrim text n) _ _ (first_three t0 t1 t2 t3 t4 it0 (one_class CLASS_L_PAREN t1.class it1) x0.spelled (one_class CLASS_COMMA t2.class it2) x1.spelled (one_class CLASS_COMMA t3.class it3) x2.spelled (one_class CLASS_R_PAREN t4.class it4)) (simp (map-append, append_assoc, append-nil, e0, e1, e2))

  pub equation_first : Keeps text RULE_EQUATION_FIRST NAME_EQUATION
  equation_first _ (means {ts = ts} d (means {ts = vs} k none)) n = let a = d n in let e = a.same in at (simp (append-nil, e)) (k n a.tree _ (sum a.spelled))

  pub unequal_other : Keeps text RULE_UNEQUAL_OTHER NAME_UNEQUAL
  unequal_other _ (acted (taken t i (means {ts = ts} d (acted (means {ts = vs} k none))))) n (x, m) xs h =
      let a = d (m + 1) in let e = a.same in
      at (simp (map-append, append_assoc, append-nil, e)) (k n (read.binary t x a.tree.0, a.tree.1) _ (compare t h (other_compares t.class i) a.spelled))

  pub unequal_equal : Keeps text RULE_UNEQUAL_EQUAL NAME_UNEQUAL
  unequal_equal _ (acted (taken t i (means {ts = ts} d (acted (means {ts = vs} k none))))) n (x, m) xs h =
      let a = d (m + 1) in let e = a.same in
      let q = one_class CLASS_EQUAL t.class i in
      at (simp (map-append, append_assoc, append-nil, e)) (k n (read.binary t x a.tree.0, a.tree.1) _ (compare t h (equal_compares t.class q) a.spelled, equation t h q a.spelled))

  pub equated_other : Keeps text RULE_EQUATED_OTHER NAME_EQUATED
  equated_other _ (acted (taken t i (means {ts = ts} d (acted (means {ts = vs} k none))))) n (x, m) xs h =
      let a = d (m + 1) in let e = a.same in
      at (simp (map-append, append_assoc, append-nil, e)) (k n (read.binary t x a.tree.0, a.tree.1) _ (compare t h.0 (other_compares t.class i) a.spelled))

  pub equated_equal : Keeps text RULE_EQUATED_EQUAL NAME_EQUATED
  equated_equal _ (acted (taken t i (means {ts = ts} d (acted (means {ts = vs} k none))))) n (x, m) xs h =
      let a = d (m + 1) in let e = a.same in
      let q = one_class CLASS_EQUAL t.class i in
      at (simp (map-append, append_assoc, append-nil, e)) (k n (read.binary t x a.tree.0, a.tree.1) _ (compare t h.0 (equal_compares t.class q) a.spelled, equation t h.0 q a.spelled))

  pub equated_end : Keeps text RULE_EQUATED_END NAME_EQUATED
  equated_end _ none n x xs h = mk (IsEquation text n) x.0 _ h.1 (simp append-nil)
