-- The rules of calls, expressions and types keep the meaning of their names.
use Rattle.std.proofs.Common.{◌≡◌, ◌+◌, ◌||◌, ◌∷◌, ◌++◌, ◌∙◌, ℕ, Bool, true, false, eqb, List, Some, None, refl, sym, subst, append_assoc, []}
use Rattle.std.proofs.lemmas.List.{append-nil, map-append}
use Rattle.gv_grammar.specs.Derivation.{is_among}
use Rattle.gv_grammar.specs.Text.{plain, opens, tokens_of}
use Rattle.gv_grammar.proofs.Meaning.{none, taken, acted, means, Made, mk, at, Phrase, Tail, one_class}
use Rattle.gv_gosyntax.specs.declared.generated.gosyntax_table.TheConstants.{CLASS_AMP, CLASS_AND_AND, CLASS_BLOCK, CLASS_BYTE, CLASS_COLON, CLASS_COMMA, CLASS_DOT, CLASS_L_BRACE, CLASS_L_BRACKET, CLASS_L_PAREN, CLASS_MAKE, CLASS_MAP, CLASS_MUTEX, CLASS_NEW, CLASS_OR_OR, CLASS_R_BRACE, CLASS_R_BRACKET, CLASS_R_PAREN, CLASS_SEMI, CLASS_STAR, CLASS_SYNC, CLASS_TEXT, CLASS_UINT64, NAME_AFTER_EXPR, NAME_AFTER_FIELD, NAME_AFTER_KEYED, NAME_AFTER_PARAM, NAME_AFTER_SYNC, NAME_AFTER_TEXT, NAME_ARGUMENTS, NAME_BOUND, NAME_BRACKET, NAME_BUILT_IN, NAME_CLOSED, NAME_CLOSING, NAME_COMPARISON, NAME_COMPARISON_OPERATORS, NAME_COMPARISON_TAIL, NAME_CONJUNCTION, NAME_CONJUNCTION_OPERATORS, NAME_CONJUNCTION_TAIL, NAME_EXPR, NAME_EXPRS, NAME_EXPR_TAIL, NAME_FIELDS, NAME_IN_BRACKET, NAME_ITEMS, NAME_KEYED, NAME_LITERAL, NAME_MAKE_REST, NAME_OPERATORS, NAME_PARAMS, NAME_POINTED, NAME_PRIM_TAIL, NAME_PRODUCT, NAME_PRODUCT_OPERATORS, NAME_PRODUCT_TAIL, NAME_SUM, NAME_SUM_OPERATORS, NAME_SUM_TAIL, NAME_TEXTS, NAME_TYPE_OF, NAME_UNARY, NAME_WHOLE, RULE_AFTER_EXPR_END, RULE_AFTER_EXPR_MORE, RULE_AFTER_FIELD_END, RULE_AFTER_FIELD_MORE, RULE_AFTER_KEYED_END, RULE_AFTER_KEYED_MORE, RULE_AFTER_PARAM_END, RULE_AFTER_PARAM_MORE, RULE_AFTER_SYNC_MUTEX, RULE_AFTER_SYNC_NAME, RULE_AFTER_TEXT_END, RULE_AFTER_TEXT_MORE, RULE_ARGUMENTS_LIST, RULE_BOUND_NONE, RULE_BOUND_SOME, RULE_BRACKET_OPEN, RULE_BUILT_IN_MAKE, RULE_BUILT_IN_NEW, RULE_BUILT_IN_PAIR, RULE_CLOSED_CONSTANT, RULE_CLOSED_CONVERT, RULE_CLOSED_PAREN, RULE_CLOSING_INDEX, RULE_CLOSING_SLICE, RULE_COMPARISON_FIRST, RULE_COMPARISON_OPERATORS_COMPARISON, RULE_COMPARISON_OPERATORS_CONJUNCTION, RULE_COMPARISON_OPERATORS_END, RULE_COMPARISON_OPERATORS_EXPR, RULE_COMPARISON_TAIL_END, RULE_COMPARISON_TAIL_MORE, RULE_CONJUNCTION_FIRST, RULE_CONJUNCTION_OPERATORS_CONJUNCTION, RULE_CONJUNCTION_OPERATORS_END, RULE_CONJUNCTION_OPERATORS_EXPR, RULE_CONJUNCTION_TAIL_END, RULE_CONJUNCTION_TAIL_MORE, RULE_EXPRS_END, RULE_EXPRS_MORE, RULE_EXPR_FIRST, RULE_EXPR_TAIL_END, RULE_EXPR_TAIL_MORE, RULE_FIELDS_END, RULE_FIELDS_MORE, RULE_IN_BRACKET_INDEX, RULE_IN_BRACKET_SLICE, RULE_ITEMS_POINTERS, RULE_ITEMS_WORD, RULE_KEYED_END, RULE_KEYED_MORE, RULE_LITERAL_FIELDS, RULE_MAKE_REST_LENGTH, RULE_MAKE_REST_NONE, RULE_OPERATORS_TAILS, RULE_PARAMS_END, RULE_PARAMS_MORE, RULE_POINTED_NAME, RULE_POINTED_SYNC, RULE_PRIM_TAIL_BRACKET, RULE_PRIM_TAIL_END, RULE_PRIM_TAIL_MEMBER, RULE_PRODUCT_FIRST, RULE_PRODUCT_OPERATORS_COMPARISON, RULE_PRODUCT_OPERATORS_CONJUNCTION, RULE_PRODUCT_OPERATORS_END, RULE_PRODUCT_OPERATORS_EXPR, RULE_PRODUCT_OPERATORS_PRODUCT, RULE_PRODUCT_OPERATORS_SUM, RULE_PRODUCT_TAIL_END, RULE_PRODUCT_TAIL_MORE, RULE_SUM_FIRST, RULE_SUM_OPERATORS_COMPARISON, RULE_SUM_OPERATORS_CONJUNCTION, RULE_SUM_OPERATORS_END, RULE_SUM_OPERATORS_EXPR, RULE_SUM_OPERATORS_SUM, RULE_SUM_TAIL_END, RULE_SUM_TAIL_MORE, RULE_TEXTS_END, RULE_TEXTS_MORE, RULE_TYPE_OF_BLOCK, RULE_TYPE_OF_MAP, RULE_TYPE_OF_POINTER, RULE_TYPE_OF_SLICE, RULE_TYPE_OF_WORD, RULE_UNARY_CLOSED, RULE_UNARY_NAME, RULE_UNARY_SIGN, RULE_WHOLE_EXPR}
use Rattle.gv_gosyntax.specs.declared.lexeme.Lexeme.{Lexeme}
use Rattle.gv_gosyntax.specs.declared.tree.Expr.{Expr}
use Rattle.gv_gosyntax.specs.declared.tree.Pointed.{Pointed}
use Rattle.gv_gosyntax.specs.declared.tree.GoType.{GoType}
use Rattle.gv_gosyntax.specs.declared.tree.Expr.TheVariants.{Paren, Convert, Binary}
use Rattle.gv_gosyntax.specs.declared.tree.Pointed.TheVariants.{Named}
use Rattle.gv_gosyntax.specs.declared.tree.Call.TheVariants.{Function, Pair, Make, New}
use Rattle.gv_gosyntax.specs.declared.tree.Expr.TheVariants as expr
use Rattle.gv_gosyntax.specs.declared.tree.GoType.TheVariants as type
use Rattle.gv_gosyntax.specs.declared.tree.Call.TheVariants as call_tree
use Rattle.gv_goparse.specs.Language.{Tokens, Is, AnyOf, other_names, names, IsList, IsPointed, IsType, IsExpr, IsBound, IsWhole, IsKeyed, IsCall, IsText, IsGroup, items, named, mutex, type_word, type_slice, type_pointers, type_map, type_pointer, type_block, constant, paren, convert, invert, prim, unary, times, product, plus, sum, compare, comparison, both, conjunction, either, unbound, bound, whole, keyed, pair, make, make_length, new, literal, one_text}
use Rattle.gv_goparse.proofs.Meanings.{Prim, Unary, Product, Sum, Comparison, Conjunction, Expression, member_prim, place_prim, front_next, front_list, IsSlice, IsMaking, IsSync, Keeps, go_name, go_closed, go_dot, go_open, go_to, go_first, go_index, go_from, go_on, ends, end_here, of_alone, slice_start, making, sync_start, fresh, behind}
use Rattle.gv_goparse.proofs.SimpleRules.{member_call, go_bracket}

pub arguments_list : Keeps RULE_ARGUMENTS_LIST NAME_ARGUMENTS
arguments_list _ (acted (acted (taken o i (acted (means {ts = ts} d (taken c j (acted (acted none)))))))) h n x xs g = let a = d (x.1 + 1) [] [] fresh in let e = a.same in mk (IsCall h n) (Function x.0 a.tree) (xs ++ (opens x.1 o ∷ (a.placed ++ (plain c ∷ [])))) (member_call o c g (one_class CLASS_L_PAREN o.class i) a.spelled (one_class CLASS_R_PAREN c.class j)) (simp (map-append, e))

pub exprs_more : Keeps RULE_EXPRS_MORE NAME_EXPRS
exprs_more _ (means {ts = ts} d (acted (means {ts = vs} k none))) n xs ps h = let a = d n in let e = a.same in at (simp (map-append, append_assoc, append-nil, e)) (k n (xs ++ a.tree ∷ []) (ps ++ a.placed) (front_next h a.spelled))

pub exprs_end : Keeps RULE_EXPRS_END NAME_EXPRS
exprs_end _ none n xs ps h = mk (IsList (IsWhole n) CLASS_COMMA) xs ps (front_list h) (simp append-nil)

pub after_expr_more : Keeps RULE_AFTER_EXPR_MORE NAME_AFTER_EXPR
after_expr_more _ (taken t i (acted (means {ts = ts} k none))) n xs ps h = at (simp (map-append, append_assoc, append-nil)) (k n xs (ps ++ (plain t ∷ [])) (behind t h (one_class CLASS_COMMA t.class i)))

pub after_expr_end : Keeps RULE_AFTER_EXPR_END NAME_AFTER_EXPR
after_expr_end _ none n xs ps h = mk (IsList (IsWhole n) CLASS_COMMA) xs ps (items h) (simp append-nil)

pub fields_more : Keeps RULE_FIELDS_MORE NAME_FIELDS
fields_more _ (means {ts = ts} d (means {ts = vs} k none)) n xs ps h = let a = d n in let e = a.same in at (simp (map-append, append_assoc, append-nil, e)) (k n (xs ++ a.tree ∷ []) (ps ++ a.placed) (front_next h a.spelled))

pub fields_end : Keeps RULE_FIELDS_END NAME_FIELDS
fields_end _ none n xs ps h = mk (IsList IsGroup CLASS_SEMI) xs ps (front_list h) (simp append-nil)

pub after_field_more : Keeps RULE_AFTER_FIELD_MORE NAME_AFTER_FIELD
after_field_more _ (taken t i (acted (means {ts = ts} k none))) n xs ps h = at (simp (map-append, append_assoc, append-nil)) (k n xs (ps ++ (plain t ∷ [])) (behind t h (one_class CLASS_SEMI t.class i)))

pub after_field_end : Keeps RULE_AFTER_FIELD_END NAME_AFTER_FIELD
after_field_end _ none n xs ps h = mk (IsList IsGroup CLASS_SEMI) xs ps (items h) (simp append-nil)

pub params_more : Keeps RULE_PARAMS_MORE NAME_PARAMS
params_more _ (means {ts = ts} d (means {ts = vs} k none)) n xs ps h = let a = d n in let e = a.same in at (simp (map-append, append_assoc, append-nil, e)) (k n (xs ++ a.tree ∷ []) (ps ++ a.placed) (front_next h a.spelled))

pub params_end : Keeps RULE_PARAMS_END NAME_PARAMS
params_end _ none n xs ps h = mk (IsList IsGroup CLASS_COMMA) xs ps (front_list h) (simp append-nil)

pub after_param_more : Keeps RULE_AFTER_PARAM_MORE NAME_AFTER_PARAM
after_param_more _ (taken t i (acted (means {ts = ts} k none))) n xs ps h = at (simp (map-append, append_assoc, append-nil)) (k n xs (ps ++ (plain t ∷ [])) (behind t h (one_class CLASS_COMMA t.class i)))

pub after_param_end : Keeps RULE_AFTER_PARAM_END NAME_AFTER_PARAM
after_param_end _ none n xs ps h = mk (IsList IsGroup CLASS_COMMA) xs ps (items h) (simp append-nil)

pub keyed_more : Keeps RULE_KEYED_MORE NAME_KEYED
keyed_more _ (taken i g (taken c j (means {ts = ts} d (acted (means {ts = vs} k none))))) n xs ps h = let a = d n in let e = a.same in at (simp (map-append, append_assoc, append-nil, e)) (k n (xs ++ (record { key = i; value = a.tree }) ∷ []) (ps ++ (plain i ∷ plain c ∷ a.placed)) (front_next h (keyed i c g (one_class CLASS_COLON c.class j) a.spelled)))

pub keyed_end : Keeps RULE_KEYED_END NAME_KEYED
keyed_end _ none n xs ps h = mk (IsList (IsKeyed n) CLASS_COMMA) xs ps (front_list h) (simp append-nil)

pub after_keyed_more : Keeps RULE_AFTER_KEYED_MORE NAME_AFTER_KEYED
after_keyed_more _ (taken t i (acted (means {ts = ts} k none))) n xs ps h = at (simp (map-append, append_assoc, append-nil)) (k n xs (ps ++ (plain t ∷ [])) (behind t h (one_class CLASS_COMMA t.class i)))

pub after_keyed_end : Keeps RULE_AFTER_KEYED_END NAME_AFTER_KEYED
after_keyed_end _ none n xs ps h = mk (IsList (IsKeyed n) CLASS_COMMA) xs ps (items h) (simp append-nil)

pub texts_more : Keeps RULE_TEXTS_MORE NAME_TEXTS
texts_more _ (taken t i (acted (means {ts = vs} k none))) n xs ps h = at (simp (map-append, append_assoc, append-nil)) (k n (xs ++ t ∷ []) (ps ++ (plain t ∷ [])) (front_next h (one_text t (one_class CLASS_TEXT t.class i))))

pub texts_end : Keeps RULE_TEXTS_END NAME_TEXTS
texts_end _ none n xs ps h = mk (IsList IsText CLASS_SEMI) xs ps (front_list h) (simp append-nil)

pub after_text_more : Keeps RULE_AFTER_TEXT_MORE NAME_AFTER_TEXT
after_text_more _ (taken t i (acted (means {ts = ts} k none))) n xs ps h = at (simp (map-append, append_assoc, append-nil)) (k n xs (ps ++ (plain t ∷ [])) (behind t h (one_class CLASS_SEMI t.class i)))

pub after_text_end : Keeps RULE_AFTER_TEXT_END NAME_AFTER_TEXT
after_text_end _ none n xs ps h = mk (IsList IsText CLASS_SEMI) xs ps (items h) (simp append-nil)

pub built_in_pair : Keeps RULE_BUILT_IN_PAIR NAME_BUILT_IN
built_in_pair _ (taken w g (acted (acted (taken o i (means {ts = ts} d (taken s j (means {ts = vs} e (taken c l (acted (acted none)))))))))) h n = let a = d (n + 1) in let b = e (n + 1) in let p = a.same in let q = b.same in mk (IsCall h n) (Pair w a.tree b.tree) (plain w ∷ opens n o ∷ (a.placed ++ (plain s ∷ (b.placed ++ (plain c ∷ []))))) (pair w o s c g (one_class CLASS_L_PAREN o.class i) a.spelled (one_class CLASS_COMMA s.class j) b.spelled (one_class CLASS_R_PAREN c.class l)) (simp (map-append, p, q))

pub built_in_make : Keeps RULE_BUILT_IN_MAKE NAME_BUILT_IN
built_in_make _ (taken w g (acted (acted (taken o i (means {ts = ts} d (means {ts = vs} k none)))))) h n = let a = d n in let e = a.same in at (simp (append-nil, e)) (k h n (w, a.tree) (plain w ∷ opens n o ∷ a.placed) (making w o (one_class CLASS_MAKE w.class g) (one_class CLASS_L_PAREN o.class i) a.spelled))

pub built_in_new : Keeps RULE_BUILT_IN_NEW NAME_BUILT_IN
built_in_new _ (taken w g (acted (acted (taken o i (taken s j (taken d l (taken m p (taken c q (acted (acted none)))))))))) h n = mk (IsCall h n) (New w) (plain w ∷ opens n o ∷ plain s ∷ plain d ∷ plain m ∷ plain c ∷ []) (new w o s d m c (one_class CLASS_NEW w.class g) (one_class CLASS_L_PAREN o.class i) (one_class CLASS_SYNC s.class j) (one_class CLASS_DOT d.class l) (one_class CLASS_MUTEX m.class p) (one_class CLASS_R_PAREN c.class q)) refl

-- `make` as far as its type, closed
pub make_none : {h : Bool} {n : ℕ} {x : Lexeme × GoType} {xs : Tokens} (c : Lexeme) → IsMaking n x xs → Is CLASS_R_PAREN c → IsCall h n (Make x.0 x.1 None) (xs ++ (plain c ∷ []))
make_none c (making w o g i t) l = make w o c g i t l

pub make_some : {h : Bool} {n : ℕ} {x : Lexeme × GoType} {e : Expr} {xs us : Tokens} (s c : Lexeme) → IsMaking n x xs → Is CLASS_COMMA s → IsWhole (n + 1) e us → Is CLASS_R_PAREN c
    → IsCall h n (Make x.0 x.1 (Some e)) (xs ++ (plain s ∷ (us ++ (plain c ∷ []))))
make_some s c (making w o g i t) j d l = make_length w o s c g i t j d l

pub make_rest_length : Keeps RULE_MAKE_REST_LENGTH NAME_MAKE_REST
make_rest_length _ (taken s i (means {ts = ts} d (taken c j (acted (acted none))))) h n x xs g = let a = d (n + 1) in let e = a.same in mk (IsCall h n) (Make x.0 x.1 (Some a.tree)) (xs ++ (plain s ∷ (a.placed ++ (plain c ∷ [])))) (make_some s c g (one_class CLASS_COMMA s.class i) a.spelled (one_class CLASS_R_PAREN c.class j)) (simp (map-append, e))

pub make_rest_none : Keeps RULE_MAKE_REST_NONE NAME_MAKE_REST
make_rest_none _ (taken c j (acted (acted none))) h n x xs g = mk (IsCall h n) (Make x.0 x.1 None) (xs ++ (plain c ∷ [])) (make_none c g (one_class CLASS_R_PAREN c.class j)) (simp map-append)

pub literal_fields : Keeps RULE_LITERAL_FIELDS NAME_LITERAL
literal_fields _ (taken a g (taken i h (taken o j (acted (means {ts = ts} d (taken c l (acted none))))))) n = let b = d n [] [] fresh in let e = b.same in mk (IsCall false n) (call_tree.Literal a i b.tree) (plain a ∷ plain i ∷ plain o ∷ (b.placed ++ (plain c ∷ []))) (literal a i o c refl (one_class CLASS_AMP a.class g) h (one_class CLASS_L_BRACE o.class j) b.spelled (one_class CLASS_R_BRACE c.class l)) (simp (map-append, e))

pub whole_of : (ts : List Lexeme) → Phrase Expression ts → Phrase IsWhole (ts ++ [])
whole_of ts d n = let a = d n in mk (IsWhole n) a.tree.0 a.placed (whole a.spelled) (a.same ∙ sym (append-nil ts))

-- a whole expression, as one of a larger kind
pub of_whole : {E : Type 0} (P : ℕ → E → Tokens → Type 0) (to : Expr → E) (us : List Lexeme) → ((n m : ℕ) (e : Expr) (xs : Tokens) → IsExpr n e m xs → P n (to e) xs) → Phrase IsWhole us → Phrase P (us ++ [])
of_whole P to us f d n = go (d n).tree (d n).placed (d n).spelled (d n).same
  where
    go : (e : Expr) (ps : Tokens) → IsWhole n e ps → tokens_of ps ≡ us → Made (P n) (us ++ [])
    go e ps (whole {m = m} h) q = mk (P n) (to e) ps (f n m e ps h) (q ∙ sym (append-nil us))

pub whole_expr : Keeps RULE_WHOLE_EXPR NAME_WHOLE
whole_expr _ (acted (means {ts = ts} d (acted none))) = whole_of ts d

pub bound_some : Keeps RULE_BOUND_SOME NAME_BOUND
bound_some _ (means {ts = ts} d (acted none)) = of_whole IsBound (λ e. Some e) ts (λ n m x xs h. bound h) d

pub bound_none : Keeps RULE_BOUND_NONE NAME_BOUND
bound_none _ (acted none) n = mk (IsBound n) None [] unbound refl

pub expr_first : Keeps RULE_EXPR_FIRST NAME_EXPR
expr_first _ (means {ts = ts} d (means {ts = vs} k none)) n = let a = d n in let e = a.same in at (simp (append-nil, e)) (k n a.tree a.placed (unary a.spelled))

pub expr_tail_more : Keeps RULE_EXPR_TAIL_MORE NAME_EXPR_TAIL
expr_tail_more _ (acted (taken t i (means {ts = ts} d (acted (means {ts = vs} k none))))) n (x, m) xs h = let a = d (m + 1) in let e = a.same in at (simp (map-append, append_assoc, append-nil, e)) (k n (Binary x t a.tree.0, a.tree.1) (xs ++ (opens m t ∷ a.placed)) (either t h (one_class CLASS_OR_OR t.class i) a.spelled))

pub expr_tail_end : Keeps RULE_EXPR_TAIL_END NAME_EXPR_TAIL
expr_tail_end _ none n x xs h = mk (Expression n) x xs h (simp append-nil)

pub conjunction_first : Keeps RULE_CONJUNCTION_FIRST NAME_CONJUNCTION
conjunction_first _ (means {ts = ts} d (means {ts = vs} k none)) n = let a = d n in let e = a.same in at (simp (append-nil, e)) (k n a.tree a.placed (comparison a.spelled))

pub conjunction_tail_more : Keeps RULE_CONJUNCTION_TAIL_MORE NAME_CONJUNCTION_TAIL
conjunction_tail_more _ (acted (taken t i (means {ts = ts} d (acted (means {ts = vs} k none))))) n (x, m) xs h = let a = d (m + 1) in let e = a.same in at (simp (map-append, append_assoc, append-nil, e)) (k n (Binary x t a.tree.0, a.tree.1) (xs ++ (opens m t ∷ a.placed)) (both t h (one_class CLASS_AND_AND t.class i) a.spelled))

pub conjunction_tail_end : Keeps RULE_CONJUNCTION_TAIL_END NAME_CONJUNCTION_TAIL
conjunction_tail_end _ none n x xs h = mk (Conjunction n) x xs h (simp append-nil)

pub comparison_first : Keeps RULE_COMPARISON_FIRST NAME_COMPARISON
comparison_first _ (means {ts = ts} d (means {ts = vs} k none)) n = let a = d n in let e = a.same in at (simp (append-nil, e)) (k n a.tree a.placed (sum a.spelled))

pub comparison_tail_more : Keeps RULE_COMPARISON_TAIL_MORE NAME_COMPARISON_TAIL
comparison_tail_more _ (acted (taken t i (means {ts = ts} d (acted (means {ts = vs} k none))))) n (x, m) xs h = let a = d (m + 1) in let e = a.same in at (simp (map-append, append_assoc, append-nil, e)) (k n (Binary x t a.tree.0, a.tree.1) (xs ++ (opens m t ∷ a.placed)) (compare t h i a.spelled))

pub comparison_tail_end : Keeps RULE_COMPARISON_TAIL_END NAME_COMPARISON_TAIL
comparison_tail_end _ none n x xs h = mk (Comparison n) x xs h (simp append-nil)

pub sum_first : Keeps RULE_SUM_FIRST NAME_SUM
sum_first _ (means {ts = ts} d (means {ts = vs} k none)) n = let a = d n in let e = a.same in at (simp (append-nil, e)) (k n a.tree a.placed (product a.spelled))

pub sum_tail_more : Keeps RULE_SUM_TAIL_MORE NAME_SUM_TAIL
sum_tail_more _ (acted (taken t i (means {ts = ts} d (acted (means {ts = vs} k none))))) n (x, m) xs h = let a = d (m + 1) in let e = a.same in at (simp (map-append, append_assoc, append-nil, e)) (k n (Binary x t a.tree.0, a.tree.1) (xs ++ (opens m t ∷ a.placed)) (plus t h i a.spelled))

pub sum_tail_end : Keeps RULE_SUM_TAIL_END NAME_SUM_TAIL
sum_tail_end _ none n x xs h = mk (Sum n) x xs h (simp append-nil)

pub product_first : Keeps RULE_PRODUCT_FIRST NAME_PRODUCT
product_first _ (means {ts = ts} d (means {ts = vs} k none)) n = let a = d n in let e = a.same in at (simp (append-nil, e)) (k n a.tree a.placed (unary a.spelled))

pub product_tail_more : Keeps RULE_PRODUCT_TAIL_MORE NAME_PRODUCT_TAIL
product_tail_more _ (acted (taken t i (means {ts = ts} d (acted (means {ts = vs} k none))))) n (x, m) xs h = let a = d (m + 1) in let e = a.same in at (simp (map-append, append_assoc, append-nil, e)) (k n (Binary x t a.tree.0, a.tree.1) (xs ++ (opens m t ∷ a.placed)) (times t h i a.spelled))

pub product_tail_end : Keeps RULE_PRODUCT_TAIL_END NAME_PRODUCT_TAIL
product_tail_end _ none n x xs h = mk (Product n) x xs h (simp append-nil)

pub operators_tails : Keeps RULE_OPERATORS_TAILS NAME_OPERATORS
operators_tails _ (means {ts = ts} k none) = go_on ts (λ n x xs h. unary h) k

pub product_operators_product : Keeps RULE_PRODUCT_OPERATORS_PRODUCT NAME_PRODUCT_OPERATORS
product_operators_product _ (acted (taken t i (means {ts = ts} d (acted (means {ts = vs} k none))))) n (x, m) xs h = let a = d (m + 1) in let e = a.same in at (simp (map-append, append_assoc, append-nil, e)) (k n (Binary x t a.tree.0, a.tree.1) (xs ++ (opens m t ∷ a.placed)) (times t h i a.spelled))

pub product_operators_sum : Keeps RULE_PRODUCT_OPERATORS_SUM NAME_PRODUCT_OPERATORS
product_operators_sum _ (acted (taken t i (means {ts = ts} d (acted (means {ts = vs} k none))))) n (x, m) xs h = let a = d (m + 1) in let e = a.same in at (simp (map-append, append_assoc, append-nil, e)) (k n (Binary x t a.tree.0, a.tree.1) (xs ++ (opens m t ∷ a.placed)) (plus t (product h) i a.spelled))

pub product_operators_comparison : Keeps RULE_PRODUCT_OPERATORS_COMPARISON NAME_PRODUCT_OPERATORS
product_operators_comparison _ (acted (taken t i (means {ts = ts} d (acted (means {ts = vs} k none))))) n (x, m) xs h = let a = d (m + 1) in let e = a.same in at (simp (map-append, append_assoc, append-nil, e)) (k n (Binary x t a.tree.0, a.tree.1) (xs ++ (opens m t ∷ a.placed)) (compare t (sum (product h)) i a.spelled))

pub product_operators_conjunction : Keeps RULE_PRODUCT_OPERATORS_CONJUNCTION NAME_PRODUCT_OPERATORS
product_operators_conjunction _ (acted (taken t i (means {ts = ts} d (acted (means {ts = vs} k none))))) n (x, m) xs h = let a = d (m + 1) in let e = a.same in at (simp (map-append, append_assoc, append-nil, e)) (k n (Binary x t a.tree.0, a.tree.1) (xs ++ (opens m t ∷ a.placed)) (both t (comparison (sum (product h))) (one_class CLASS_AND_AND t.class i) a.spelled))

pub product_operators_expr : Keeps RULE_PRODUCT_OPERATORS_EXPR NAME_PRODUCT_OPERATORS
product_operators_expr _ (acted (taken t i (means {ts = ts} d (acted (means {ts = vs} k none))))) n (x, m) xs h = let a = d (m + 1) in let e = a.same in at (simp (map-append, append_assoc, append-nil, e)) (k n (Binary x t a.tree.0, a.tree.1) (xs ++ (opens m t ∷ a.placed)) (either t (conjunction (comparison (sum (product h)))) (one_class CLASS_OR_OR t.class i) a.spelled))

pub product_operators_end : Keeps RULE_PRODUCT_OPERATORS_END NAME_PRODUCT_OPERATORS
product_operators_end _ none n x xs h = mk (Expression n) x xs (conjunction (comparison (sum (product h)))) (simp append-nil)

pub sum_operators_sum : Keeps RULE_SUM_OPERATORS_SUM NAME_SUM_OPERATORS
sum_operators_sum _ (acted (taken t i (means {ts = ts} d (acted (means {ts = vs} k none))))) n (x, m) xs h = let a = d (m + 1) in let e = a.same in at (simp (map-append, append_assoc, append-nil, e)) (k n (Binary x t a.tree.0, a.tree.1) (xs ++ (opens m t ∷ a.placed)) (plus t h i a.spelled))

pub sum_operators_comparison : Keeps RULE_SUM_OPERATORS_COMPARISON NAME_SUM_OPERATORS
sum_operators_comparison _ (acted (taken t i (means {ts = ts} d (acted (means {ts = vs} k none))))) n (x, m) xs h = let a = d (m + 1) in let e = a.same in at (simp (map-append, append_assoc, append-nil, e)) (k n (Binary x t a.tree.0, a.tree.1) (xs ++ (opens m t ∷ a.placed)) (compare t (sum h) i a.spelled))

pub sum_operators_conjunction : Keeps RULE_SUM_OPERATORS_CONJUNCTION NAME_SUM_OPERATORS
sum_operators_conjunction _ (acted (taken t i (means {ts = ts} d (acted (means {ts = vs} k none))))) n (x, m) xs h = let a = d (m + 1) in let e = a.same in at (simp (map-append, append_assoc, append-nil, e)) (k n (Binary x t a.tree.0, a.tree.1) (xs ++ (opens m t ∷ a.placed)) (both t (comparison (sum h)) (one_class CLASS_AND_AND t.class i) a.spelled))

pub sum_operators_expr : Keeps RULE_SUM_OPERATORS_EXPR NAME_SUM_OPERATORS
sum_operators_expr _ (acted (taken t i (means {ts = ts} d (acted (means {ts = vs} k none))))) n (x, m) xs h = let a = d (m + 1) in let e = a.same in at (simp (map-append, append_assoc, append-nil, e)) (k n (Binary x t a.tree.0, a.tree.1) (xs ++ (opens m t ∷ a.placed)) (either t (conjunction (comparison (sum h))) (one_class CLASS_OR_OR t.class i) a.spelled))

pub sum_operators_end : Keeps RULE_SUM_OPERATORS_END NAME_SUM_OPERATORS
sum_operators_end _ none n x xs h = mk (Expression n) x xs (conjunction (comparison (sum h))) (simp append-nil)

pub comparison_operators_comparison : Keeps RULE_COMPARISON_OPERATORS_COMPARISON NAME_COMPARISON_OPERATORS
comparison_operators_comparison _ (acted (taken t i (means {ts = ts} d (acted (means {ts = vs} k none))))) n (x, m) xs h = let a = d (m + 1) in let e = a.same in at (simp (map-append, append_assoc, append-nil, e)) (k n (Binary x t a.tree.0, a.tree.1) (xs ++ (opens m t ∷ a.placed)) (compare t h i a.spelled))

pub comparison_operators_conjunction : Keeps RULE_COMPARISON_OPERATORS_CONJUNCTION NAME_COMPARISON_OPERATORS
comparison_operators_conjunction _ (acted (taken t i (means {ts = ts} d (acted (means {ts = vs} k none))))) n (x, m) xs h = let a = d (m + 1) in let e = a.same in at (simp (map-append, append_assoc, append-nil, e)) (k n (Binary x t a.tree.0, a.tree.1) (xs ++ (opens m t ∷ a.placed)) (both t (comparison h) (one_class CLASS_AND_AND t.class i) a.spelled))

pub comparison_operators_expr : Keeps RULE_COMPARISON_OPERATORS_EXPR NAME_COMPARISON_OPERATORS
comparison_operators_expr _ (acted (taken t i (means {ts = ts} d (acted (means {ts = vs} k none))))) n (x, m) xs h = let a = d (m + 1) in let e = a.same in at (simp (map-append, append_assoc, append-nil, e)) (k n (Binary x t a.tree.0, a.tree.1) (xs ++ (opens m t ∷ a.placed)) (either t (conjunction (comparison h)) (one_class CLASS_OR_OR t.class i) a.spelled))

pub comparison_operators_end : Keeps RULE_COMPARISON_OPERATORS_END NAME_COMPARISON_OPERATORS
comparison_operators_end _ none n x xs h = mk (Expression n) x xs (conjunction (comparison h)) (simp append-nil)

pub conjunction_operators_conjunction : Keeps RULE_CONJUNCTION_OPERATORS_CONJUNCTION NAME_CONJUNCTION_OPERATORS
conjunction_operators_conjunction _ (acted (taken t i (means {ts = ts} d (acted (means {ts = vs} k none))))) n (x, m) xs h = let a = d (m + 1) in let e = a.same in at (simp (map-append, append_assoc, append-nil, e)) (k n (Binary x t a.tree.0, a.tree.1) (xs ++ (opens m t ∷ a.placed)) (both t h (one_class CLASS_AND_AND t.class i) a.spelled))

pub conjunction_operators_expr : Keeps RULE_CONJUNCTION_OPERATORS_EXPR NAME_CONJUNCTION_OPERATORS
conjunction_operators_expr _ (acted (taken t i (means {ts = ts} d (acted (means {ts = vs} k none))))) n (x, m) xs h = let a = d (m + 1) in let e = a.same in at (simp (map-append, append_assoc, append-nil, e)) (k n (Binary x t a.tree.0, a.tree.1) (xs ++ (opens m t ∷ a.placed)) (either t (conjunction h) (one_class CLASS_OR_OR t.class i) a.spelled))

pub conjunction_operators_end : Keeps RULE_CONJUNCTION_OPERATORS_END NAME_CONJUNCTION_OPERATORS
conjunction_operators_end _ none n x xs h = mk (Expression n) x xs (conjunction h) (simp append-nil)

pub unary_sign : Keeps RULE_UNARY_SIGN NAME_UNARY
unary_sign _ (acted (taken t i (means {ts = ts} d (acted none)))) n = let a = d (n + 1) in let e = a.same in mk (Unary n) (expr.Unary t a.tree.0, a.tree.1) (opens n t ∷ a.placed) (invert t i a.spelled) (simp (append-nil, e))

-- an operand, where none of the signs stands before it
pub unsigned : (us : List Lexeme) → Tail Prim Prim us → Tail Prim Unary us
unsigned us k n x xs h = let a = k n x xs h in mk (Unary n) a.tree a.placed (prim a.spelled) a.same

pub unary_name : Keeps RULE_UNARY_NAME NAME_UNARY
unary_name _ (taken i h (acted (means {ts = ts} k none))) = go_name ts (λ n x xs a. unsigned ts k n x xs (member_prim (of_alone a))) i h

pub unary_closed : Keeps RULE_UNARY_CLOSED NAME_UNARY
unary_closed _ (means {ts = ts} d (means {ts = vs} k none)) = go_closed ts vs d (unsigned vs k)

pub prim_tail_member : Keeps RULE_PRIM_TAIL_MEMBER NAME_PRIM_TAIL
prim_tail_member _ (acted (taken d i (taken x j (acted (means {ts = ts} k none))))) = go_dot ts (λ n x xs h. k n x xs (member_prim h)) d x (one_class CLASS_DOT d.class i) j

pub prim_tail_bracket : Keeps RULE_PRIM_TAIL_BRACKET NAME_PRIM_TAIL
prim_tail_bracket _ (means {ts = ts} b (means {ts = vs} k none)) = go_bracket ts vs b k

pub prim_tail_end : Keeps RULE_PRIM_TAIL_END NAME_PRIM_TAIL
prim_tail_end _ none = end_here Prim

pub closed_constant : Keeps RULE_CLOSED_CONSTANT NAME_CLOSED
closed_constant _ (taken t i (acted none)) n = mk (Prim n) (expr.Constant t, n) (plain t ∷ []) (constant t i) refl

pub closed_paren : Keeps RULE_CLOSED_PAREN NAME_CLOSED
closed_paren _ (acted (acted (taken o i (means {ts = ts} d (taken c j (acted (acted none))))))) n = let a = d (n + 1) in let e = a.same in mk (Prim n) (Paren o a.tree.0, n) (opens n o ∷ (a.placed ++ (plain c ∷ []))) (paren o c (one_class CLASS_L_PAREN o.class i) a.spelled (one_class CLASS_R_PAREN c.class j)) (simp (map-append, e))

pub closed_convert : Keeps RULE_CLOSED_CONVERT NAME_CLOSED
closed_convert _ (taken w g (acted (acted (taken o i (means {ts = ts} d (taken c j (acted (acted none)))))))) n = let a = d (n + 1) in let e = a.same in mk (Prim n) (Convert w a.tree.0, n) (plain w ∷ opens n o ∷ (a.placed ++ (plain c ∷ []))) (convert w o c g (one_class CLASS_L_PAREN o.class i) a.spelled (one_class CLASS_R_PAREN c.class j)) (simp (map-append, e))

pub bracket_open : Keeps RULE_BRACKET_OPEN NAME_BRACKET
bracket_open _ (acted (taken o i (means {ts = ts} k none))) = go_open ts k o (one_class CLASS_L_BRACKET o.class i)

pub in_bracket_slice : Keeps RULE_IN_BRACKET_SLICE NAME_IN_BRACKET
in_bracket_slice _ (taken d i (means {ts = ts} b (taken c j (acted none)))) = go_to ts [] b (end_here Prim) d c (one_class CLASS_COLON d.class i) (one_class CLASS_R_BRACKET c.class j)

pub in_bracket_index : Keeps RULE_IN_BRACKET_INDEX NAME_IN_BRACKET
in_bracket_index _ (means {ts = ts} b (means {ts = vs} k none)) = go_first ts vs b k

pub closing_index : Keeps RULE_CLOSING_INDEX NAME_CLOSING
closing_index _ (taken c j (acted none)) = go_index [] (ends Prim (λ x. x) (λ n x xs h. place_prim h)) c (one_class CLASS_R_BRACKET c.class j)

pub closing_slice : Keeps RULE_CLOSING_SLICE NAME_CLOSING
closing_slice _ (taken d i (means {ts = ts} b (taken c j (acted none)))) = go_from ts [] b (end_here Prim) d c (one_class CLASS_COLON d.class i) (one_class CLASS_R_BRACKET c.class j)

pub type_of_word : Keeps RULE_TYPE_OF_WORD NAME_TYPE_OF
type_of_word _ (taken w h (acted none)) n = mk IsType (type.Word w) (plain w ∷ []) (type_word w h) refl

pub type_of_slice : Keeps RULE_TYPE_OF_SLICE NAME_TYPE_OF
type_of_slice _ (taken o i (taken c j (means {ts = ts} k none))) n = at (simp append-nil) (k n o (plain o ∷ plain c ∷ []) (slice_start o c (one_class CLASS_L_BRACKET o.class i) (one_class CLASS_R_BRACKET c.class j)))

pub type_of_map : Keeps RULE_TYPE_OF_MAP NAME_TYPE_OF
type_of_map _ (taken m h (taken o i (taken k j (taken c l (taken v p (acted none)))))) n = mk IsType (type.Map m) (plain m ∷ plain o ∷ plain k ∷ plain c ∷ plain v ∷ []) (type_map m o k c v (one_class CLASS_MAP m.class h) (one_class CLASS_L_BRACKET o.class i) (one_class CLASS_UINT64 k.class j) (one_class CLASS_R_BRACKET c.class l) (one_class CLASS_UINT64 v.class p)) refl

pub type_of_pointer : Keeps RULE_TYPE_OF_POINTER NAME_TYPE_OF
type_of_pointer _ (taken s h (means {ts = ts} d (acted none))) n = let a = d n in let e = a.same in mk IsType (type.Pointer s a.tree) (plain s ∷ a.placed) (type_pointer s (one_class CLASS_STAR s.class h) a.spelled) (simp (append-nil, e))

pub type_of_block : Keeps RULE_TYPE_OF_BLOCK NAME_TYPE_OF
type_of_block _ (taken k h (taken d i (taken b j (acted none)))) n = mk IsType (type.Block k) (plain k ∷ plain d ∷ plain b ∷ []) (type_block k d b h (one_class CLASS_DOT d.class i) (one_class CLASS_BLOCK b.class j)) refl

pub or_true : (b c : Bool) → c ≡ true → (b || c) ≡ true
or_true true c h = refl
or_true false c h = h

pub other_name : (k : ℕ) → is_among k other_names ≡ true → is_among k names ≡ true
other_name k h = or_true (eqb CLASS_SYNC k) (is_among k other_names) h

pub sync_name : (k : ℕ) → k ≡ CLASS_SYNC → is_among k names ≡ true
sync_name k h = subst (λ (j : ℕ). is_among j names ≡ true) (sym h) refl

pub slice_of : {n : ℕ} {o : Lexeme} {xs : Tokens} (w : Lexeme) → IsSlice n o xs → AnyOf (CLASS_BYTE ∷ CLASS_UINT64 ∷ []) w → IsType (type.Slice o w) (xs ++ (plain w ∷ []))
slice_of w (slice_start o c i j) h = type_slice o c w i j h

pub pointers_of : {n : ℕ} {o : Lexeme} {p : Pointed} {xs us : Tokens} (s : Lexeme) → IsSlice n o xs → Is CLASS_STAR s → IsPointed p us → IsType (type.Pointers o p) (xs ++ (plain s ∷ us))
pointers_of s (slice_start o c i j) h d = type_pointers o c s i j h d

pub named_sync : {n : ℕ} {s : Lexeme} {xs : Tokens} → IsSync n s xs → IsPointed (Named s) xs
named_sync (sync_start s h) = named s (sync_name s.class h)

pub mutex_of : {n : ℕ} {s : Lexeme} {xs : Tokens} (d m : Lexeme) → IsSync n s xs → Is CLASS_DOT d → Is CLASS_MUTEX m → IsPointed (Pointed.Mutex s) (xs ++ (plain d ∷ plain m ∷ []))
mutex_of d m (sync_start s h) i j = mutex s d m h i j

pub items_word : Keeps RULE_ITEMS_WORD NAME_ITEMS
items_word _ (taken w h (acted none)) n o xs g = mk IsType (type.Slice o w) (xs ++ (plain w ∷ [])) (slice_of w g h) (simp map-append)

pub items_pointers : Keeps RULE_ITEMS_POINTERS NAME_ITEMS
items_pointers _ (taken s h (means {ts = ts} d (acted none))) n o xs g = let a = d n in let e = a.same in mk IsType (type.Pointers o a.tree) (xs ++ (plain s ∷ a.placed)) (pointers_of s g (one_class CLASS_STAR s.class h) a.spelled) (simp (map-append, append-nil, e))

pub pointed_name : Keeps RULE_POINTED_NAME NAME_POINTED
pointed_name _ (taken i h (acted none)) n = mk IsPointed (Named i) (plain i ∷ []) (named i (other_name i.class h)) refl

pub pointed_sync : Keeps RULE_POINTED_SYNC NAME_POINTED
pointed_sync _ (taken s h (means {ts = ts} k none)) n = at (simp append-nil) (k n s (plain s ∷ []) (sync_start s (one_class CLASS_SYNC s.class h)))

pub after_sync_mutex : Keeps RULE_AFTER_SYNC_MUTEX NAME_AFTER_SYNC
after_sync_mutex _ (taken d i (taken m j (acted none))) n s xs g = mk IsPointed (Pointed.Mutex s) (xs ++ (plain d ∷ plain m ∷ [])) (mutex_of d m g (one_class CLASS_DOT d.class i) (one_class CLASS_MUTEX m.class j)) (simp map-append)

pub after_sync_name : Keeps RULE_AFTER_SYNC_NAME NAME_AFTER_SYNC
after_sync_name _ (acted none) n s xs g = mk IsPointed (Named s) xs (named_sync g) (simp append-nil)
