-- What is derived by any tables that contain the fragment of terms is spelled by the published grammar of terms.
use Rattle.std.proofs.Common.{◌≡◌, ℕ, ◌+◌, List, [], ◌∷◌, ◌++◌, inl, inr, refl, sym, ap, ◌∙◌, append_assoc, None, Some}
use Rattle.std.specs.Prelude.{map, slice_get}
use Rattle.std.proofs.lemmas.List.{append-nil, map-append}
use Rattle.gv_grammar.specs.declared.symbols.Symbol.{Symbol}
use Rattle.gv_grammar.specs.Derivation.{Tables}
use Rattle.gv_grammar.specs.Building.{Reduction}
use Rattle.gv_grammar.specs.Fragment.{Contains}
use Rattle.gv_grammar.specs.Text.{plain, opens, tokens_of}
use Rattle.gv_grammar.proofs.Meaning.{Meant, none, taken, acted, means, Made, mk, at, Phrase, Tail, meaning_at, one_class}
use Rattle.gv_grammar.proofs.Containing.{in_set, RowsMean}
use Rattle.gv_termread.specs.declared.generated.term_table.TheConstants.{CLASS_AND_AND, CLASS_COMMA, CLASS_L_PAREN, CLASS_OR_OR, CLASS_R_PAREN, NAME_COMPARISON, NAME_COMPARISON_TAIL, NAME_CONJUNCTION, NAME_CONJUNCTION_TAIL, NAME_DISJUNCTION, NAME_DISJUNCTION_TAIL, NAME_MAKER_REST, NAME_ONE_REST, NAME_PRIM, NAME_PRODUCT, NAME_PRODUCT_TAIL, NAME_SUM, NAME_SUM_TAIL, NAME_THREE_REST, NAME_TWO_REST, NAME_UNARY, NAME_WHOLE, RULE_COMPARISON_FIRST, RULE_COMPARISON_TAIL_END, RULE_COMPARISON_TAIL_MORE, RULE_CONJUNCTION_FIRST, RULE_CONJUNCTION_TAIL_END, RULE_CONJUNCTION_TAIL_MORE, RULE_DISJUNCTION_FIRST, RULE_DISJUNCTION_TAIL_END, RULE_DISJUNCTION_TAIL_MORE, RULE_MAKER_REST_CALL, RULE_MAKER_REST_NAME, RULE_ONE_REST_CALL, RULE_ONE_REST_NAME, RULE_PRIM_CONSTANT, RULE_PRIM_FREE, RULE_PRIM_MAKER, RULE_PRIM_NUMBER, RULE_PRIM_ONE, RULE_PRIM_PAREN, RULE_PRIM_THREE, RULE_PRIM_TWO, RULE_PRODUCT_FIRST, RULE_PRODUCT_TAIL_END, RULE_PRODUCT_TAIL_MORE, RULE_SUM_FIRST, RULE_SUM_TAIL_END, RULE_SUM_TAIL_MORE, RULE_THREE_REST_CALL, RULE_THREE_REST_NAME, RULE_TWO_REST_CALL, RULE_TWO_REST_NAME, RULE_UNARY_PRIM, RULE_UNARY_SIGN, RULE_WHOLE_TERM, SET_OR_OR, SET_AND_AND, SET_COMPARING, SET_ADDING, SET_MULTIPLYING, SET_INVERTING, SET_ANY_NUMBER, SET_CONSTANT, SET_FREE, SET_L_PAREN, SET_R_PAREN, SET_COMMA, SET_MAKER, SET_OF_ONE, SET_OF_TWO, SET_OF_THREE}
use Rattle.gv_termread.specs.declared.generated.term_acts.Part.{Part}
use Rattle.gv_termread.specs.declared.token.SeenToken.{SeenToken}
use Rattle.gv_termread.specs.declared.placed.PlacedTerm.{PlacedTerm}
use Rattle.gv_termread.specs.Trees.{binary, unary as inverted}
use Rattle.gv_termread.specs.TermFragment.{term_fragment, term_rules}
use Rattle.gv_termread.specs.Language.{Tokens, Lexicon, AnyOf, makers, of_one, of_two, of_three, IsTerm, term, IsDisjunction, conjunction, or, IsConjunction, comparison, and, IsComparison, sum, compare, IsSum, product, add, IsProduct, unary, multiply, IsUnary, prim, invert, IsPrim, number, constant, variable, paren, maker, one, two, three}

-- the row of a rule of the fragment
abbrev row_of : ℕ → List Symbol
row_of rule = elim (slice_get term_rules rule) [ None ↦ [] | Some of ↦ of.1 ]

-- the tokens of pieces that stand one after another
pieces_of_three : (x y z : Tokens) {a b c : List SeenToken} → tokens_of x ≡ a → tokens_of y ≡ b → tokens_of z ≡ c → tokens_of ((x ++ y) ++ z) ≡ a ++ (b ++ c)
pieces_of_three x y z e f g = simp (map-append, append_assoc, e, f, g)

pieces_of_four : (x y z w : Tokens) {a b c d : List SeenToken} → tokens_of x ≡ a → tokens_of y ≡ b → tokens_of z ≡ c → tokens_of w ≡ d → tokens_of (((x ++ y) ++ z) ++ w) ≡ a ++ (b ++ (c ++ d))
pieces_of_four x y z w e f g h = simp (map-append, append_assoc, e, f, g, h)

module _ (w : Lexicon) where
  -- relations with a level behind as those with none, and those with no level as those with one
  abbrev Disjunction : ℕ → PlacedTerm × ℕ → Tokens → Type 0
  Disjunction n x ps = IsDisjunction w n x.0 x.1 ps

  abbrev Conjunction : ℕ → PlacedTerm × ℕ → Tokens → Type 0
  Conjunction n x ps = IsConjunction w n x.0 x.1 ps

  abbrev Comparison : ℕ → PlacedTerm × ℕ → Tokens → Type 0
  Comparison n x ps = IsComparison w n x.0 x.1 ps

  abbrev Sum : ℕ → PlacedTerm × ℕ → Tokens → Type 0
  Sum n x ps = IsSum w n x.0 x.1 ps

  abbrev Product : ℕ → PlacedTerm × ℕ → Tokens → Type 0
  Product n x ps = IsProduct w n x.0 x.1 ps

  abbrev Unary : ℕ → PlacedTerm × ℕ → Tokens → Type 0
  Unary n x ps = IsUnary w n x.0 x.1 ps

  -- what stands behind a function's word
  abbrev Behind : List ℕ → List SeenToken → Type 0
  Behind words us = (n : ℕ) (t : SeenToken) → AnyOf words t → Made (IsPrim w n) (t ∷ us)

  -- what each name means; an including language has more behind them
  abbrev pub meanings_with : List (List SeenToken → Type 0) → List (List SeenToken → Type 0)
  meanings_with more =
      Phrase (IsTerm w)
      ∷ Phrase Disjunction
      ∷ Tail Disjunction Disjunction
      ∷ Phrase Conjunction
      ∷ Tail Conjunction Conjunction
      ∷ Phrase Comparison
      ∷ Tail Comparison Comparison
      ∷ Phrase Sum
      ∷ Tail Sum Sum
      ∷ Phrase Product
      ∷ Tail Product Product
      ∷ Phrase Unary
      ∷ Phrase (IsPrim w)
      ∷ Behind makers
      ∷ Behind of_one
      ∷ Behind of_two
      ∷ Behind of_three
      ∷ more

  module _ {O : Type 0} {g : Tables} {acts : List (Reduction (Part O))} (c : Contains g acts (term_fragment {O = O} w.text w.names w.numbers)) (more : List (List SeenToken → Type 0)) where
    abbrev pub M : ℕ → List SeenToken → Type 0
    M of us = meaning_at (meanings_with more) of us

    -- a rule keeps the meaning of its name
    abbrev Keeps : ℕ → ℕ → Type 0
    Keeps rule of = (us : List SeenToken) → Meant g SeenToken (λ token. token.class) M (row_of rule) us → M of us

    whole_term : Keeps RULE_WHOLE_TERM NAME_WHOLE
    whole_term _ (acted (means {ts = ts} d (acted none))) n = let a = d n in mk (IsTerm w n) a.tree.0 _ (term a.spelled) (a.same ∙ sym (append-nil ts))

    disjunction_first : Keeps RULE_DISJUNCTION_FIRST NAME_DISJUNCTION
    disjunction_first _ (means {ts = ts} d (means {ts = vs} k none)) n = let a = d n in let e = a.same in at (simp (append-nil, e)) (k n a.tree _ (conjunction a.spelled))

    disjunction_tail_more : Keeps RULE_DISJUNCTION_TAIL_MORE NAME_DISJUNCTION_TAIL
    disjunction_tail_more _ (acted (taken t i (means {ts = ts} d (acted (means {ts = vs} k none))))) n (x, m) xs h =
        let a = d (m + 1) in let e = a.same in
        at (simp (map-append, append_assoc, append-nil, e)) (k n (binary t x a.tree.0, a.tree.1) _ (or t h (one_class CLASS_OR_OR t.class (in_set c SET_OR_OR t.class refl i)) a.spelled))

    disjunction_tail_end : Keeps RULE_DISJUNCTION_TAIL_END NAME_DISJUNCTION_TAIL
    disjunction_tail_end _ none n x xs h = mk (Disjunction n) x _ h (simp append-nil)

    conjunction_first : Keeps RULE_CONJUNCTION_FIRST NAME_CONJUNCTION
    conjunction_first _ (means {ts = ts} d (means {ts = vs} k none)) n = let a = d n in let e = a.same in at (simp (append-nil, e)) (k n a.tree _ (comparison a.spelled))

    conjunction_tail_more : Keeps RULE_CONJUNCTION_TAIL_MORE NAME_CONJUNCTION_TAIL
    conjunction_tail_more _ (acted (taken t i (means {ts = ts} d (acted (means {ts = vs} k none))))) n (x, m) xs h =
        let a = d (m + 1) in let e = a.same in
        at (simp (map-append, append_assoc, append-nil, e)) (k n (binary t x a.tree.0, a.tree.1) _ (and t h (one_class CLASS_AND_AND t.class (in_set c SET_AND_AND t.class refl i)) a.spelled))

    conjunction_tail_end : Keeps RULE_CONJUNCTION_TAIL_END NAME_CONJUNCTION_TAIL
    conjunction_tail_end _ none n x xs h = mk (Conjunction n) x _ h (simp append-nil)

    comparison_first : Keeps RULE_COMPARISON_FIRST NAME_COMPARISON
    comparison_first _ (means {ts = ts} d (means {ts = vs} k none)) n = let a = d n in let e = a.same in at (simp (append-nil, e)) (k n a.tree _ (sum a.spelled))

    comparison_tail_more : Keeps RULE_COMPARISON_TAIL_MORE NAME_COMPARISON_TAIL
    comparison_tail_more _ (acted (taken t i (means {ts = ts} d (acted (means {ts = vs} k none))))) n (x, m) xs h =
        let a = d (m + 1) in let e = a.same in
        at (simp (map-append, append_assoc, append-nil, e)) (k n (binary t x a.tree.0, a.tree.1) _ (compare t h (in_set c SET_COMPARING t.class refl i) a.spelled))

    comparison_tail_end : Keeps RULE_COMPARISON_TAIL_END NAME_COMPARISON_TAIL
    comparison_tail_end _ none n x xs h = mk (Comparison n) x _ h (simp append-nil)

    sum_first : Keeps RULE_SUM_FIRST NAME_SUM
    sum_first _ (means {ts = ts} d (means {ts = vs} k none)) n = let a = d n in let e = a.same in at (simp (append-nil, e)) (k n a.tree _ (product a.spelled))

    sum_tail_more : Keeps RULE_SUM_TAIL_MORE NAME_SUM_TAIL
    sum_tail_more _ (acted (taken t i (means {ts = ts} d (acted (means {ts = vs} k none))))) n (x, m) xs h =
        let a = d (m + 1) in let e = a.same in
        at (simp (map-append, append_assoc, append-nil, e)) (k n (binary t x a.tree.0, a.tree.1) _ (add t h (in_set c SET_ADDING t.class refl i) a.spelled))

    sum_tail_end : Keeps RULE_SUM_TAIL_END NAME_SUM_TAIL
    sum_tail_end _ none n x xs h = mk (Sum n) x _ h (simp append-nil)

    product_first : Keeps RULE_PRODUCT_FIRST NAME_PRODUCT
    product_first _ (means {ts = ts} d (means {ts = vs} k none)) n = let a = d n in let e = a.same in at (simp (append-nil, e)) (k n a.tree _ (unary a.spelled))

    product_tail_more : Keeps RULE_PRODUCT_TAIL_MORE NAME_PRODUCT_TAIL
    product_tail_more _ (acted (taken t i (means {ts = ts} d (acted (means {ts = vs} k none))))) n (x, m) xs h =
        let a = d (m + 1) in let e = a.same in
        at (simp (map-append, append_assoc, append-nil, e)) (k n (binary t x a.tree.0, a.tree.1) _ (multiply t h (in_set c SET_MULTIPLYING t.class refl i) a.spelled))

    product_tail_end : Keeps RULE_PRODUCT_TAIL_END NAME_PRODUCT_TAIL
    product_tail_end _ none n x xs h = mk (Product n) x _ h (simp append-nil)

    unary_sign : Keeps RULE_UNARY_SIGN NAME_UNARY
    unary_sign _ (acted (taken t i (means {ts = ts} d (acted none)))) n =
        let a = d (n + 1) in let e = a.same in mk (Unary n) (inverted t a.tree.0, a.tree.1) _ (invert t (in_set c SET_INVERTING t.class refl i) a.spelled) (simp (append-nil, e))

    unary_prim : Keeps RULE_UNARY_PRIM NAME_UNARY
    unary_prim _ (means {ts = ts} d none) n = let a = d n in mk (Unary n) (a.tree, n) _ (prim a.spelled) (a.same ∙ sym (append-nil ts))

    prim_number : Keeps RULE_PRIM_NUMBER NAME_PRIM
    prim_number _ (taken t i (acted none)) n = mk (IsPrim w n) _ _ (number t (in_set c SET_ANY_NUMBER t.class refl i)) refl

    prim_constant : Keeps RULE_PRIM_CONSTANT NAME_PRIM
    prim_constant _ (taken t i (acted none)) n = mk (IsPrim w n) _ _ (constant t (in_set c SET_CONSTANT t.class refl i)) refl

    prim_free : Keeps RULE_PRIM_FREE NAME_PRIM
    prim_free _ (taken t i (acted none)) n = mk (IsPrim w n) _ _ (variable t (inl (in_set c SET_FREE t.class refl i))) refl

    prim_paren : Keeps RULE_PRIM_PAREN NAME_PRIM
    prim_paren _ (acted (acted (taken o i (means d (taken z j (acted (acted none))))))) n =
        let a = d (n + 1) in let e = a.same in mk (IsPrim w n) _ _ (paren o z (one_class CLASS_L_PAREN o.class (in_set c SET_L_PAREN o.class refl i)) a.spelled (one_class CLASS_R_PAREN z.class (in_set c SET_R_PAREN z.class refl j))) (simp (map-append, e))

    prim_maker : Keeps RULE_PRIM_MAKER NAME_PRIM
    prim_maker _ (taken t i (means {ts = ts} d none)) n = at (simp append-nil) (d n t (in_set c SET_MAKER t.class refl i))

    prim_one : Keeps RULE_PRIM_ONE NAME_PRIM
    prim_one _ (taken t i (means {ts = ts} d none)) n = at (simp append-nil) (d n t (in_set c SET_OF_ONE t.class refl i))

    prim_two : Keeps RULE_PRIM_TWO NAME_PRIM
    prim_two _ (taken t i (means {ts = ts} d none)) n = at (simp append-nil) (d n t (in_set c SET_OF_TWO t.class refl i))

    prim_three : Keeps RULE_PRIM_THREE NAME_PRIM
    prim_three _ (taken t i (means {ts = ts} d none)) n = at (simp append-nil) (d n t (in_set c SET_OF_THREE t.class refl i))

    maker_rest_call : Keeps RULE_MAKER_REST_CALL NAME_MAKER_REST
    maker_rest_call _ (acted (acted (taken o i (taken k g (taken s l (means d (taken z p (acted (acted none))))))))) n f h =
        let a = d (n + 1) in let e = a.same in
        mk (IsPrim w n) _ _ (maker f o k s z h (one_class CLASS_L_PAREN o.class (in_set c SET_L_PAREN o.class refl i)) (in_set c SET_ANY_NUMBER k.class refl g) (one_class CLASS_COMMA s.class (in_set c SET_COMMA s.class refl l)) a.spelled (one_class CLASS_R_PAREN z.class (in_set c SET_R_PAREN z.class refl p))) (simp (map-append, e))

    maker_rest_name : Keeps RULE_MAKER_REST_NAME NAME_MAKER_REST
    maker_rest_name _ (acted none) n f h = mk (IsPrim w n) _ _ (variable f (inr (inl h))) refl

    one_rest_call : Keeps RULE_ONE_REST_CALL NAME_ONE_REST
    one_rest_call _ (acted (acted (taken o i (means d (taken z p (acted (acted none))))))) n f h =
        let a = d (n + 1) in let e = a.same in
        mk (IsPrim w n) _ _ (one f o z h (one_class CLASS_L_PAREN o.class (in_set c SET_L_PAREN o.class refl i)) a.spelled (one_class CLASS_R_PAREN z.class (in_set c SET_R_PAREN z.class refl p))) (simp (map-append, e))

    one_rest_name : Keeps RULE_ONE_REST_NAME NAME_ONE_REST
    one_rest_name _ (acted none) n f h = mk (IsPrim w n) _ _ (variable f (inr (inr (inl h)))) refl

    two_rest_call : Keeps RULE_TWO_REST_CALL NAME_TWO_REST
    two_rest_call _ (acted (acted (taken o i (means d (taken s l (means b (taken z p (acted (acted none))))))))) n f h =
        let x1 = d (n + 1) in
        let x2 = b (n + 1) in
        let e1 = x1.same in
        let e2 = x2.same in
        mk (IsPrim w n) _ _ (two f o s z h (one_class CLASS_L_PAREN o.class (in_set c SET_L_PAREN o.class refl i)) x1.spelled (one_class CLASS_COMMA s.class (in_set c SET_COMMA s.class refl l)) x2.spelled (one_class CLASS_R_PAREN z.class (in_set c SET_R_PAREN z.class refl p)))
        (pieces_of_three (plain f ∷ opens n o ∷ x1.placed) (plain s ∷ x2.placed) (plain z ∷ []) (ap (λ (us : List SeenToken). f ∷ o ∷ us) e1) (ap (λ (us : List SeenToken). s ∷ us) e2) refl)

    two_rest_name : Keeps RULE_TWO_REST_NAME NAME_TWO_REST
    two_rest_name _ (acted none) n f h = mk (IsPrim w n) _ _ (variable f (inr (inr (inr (inl h))))) refl

    three_rest_call : Keeps RULE_THREE_REST_CALL NAME_THREE_REST
    three_rest_call _ (acted (acted (taken o i (means d (taken s l (means b (taken r q (means y (taken z p (acted (acted none))))))))))) n f h =
        let x1 = d (n + 1) in
        let x2 = b (n + 1) in
        let x3 = y (n + 1) in
        let e1 = x1.same in
        let e2 = x2.same in
        let e3 = x3.same in
        mk (IsPrim w n) _ _ (three f o s r z h (one_class CLASS_L_PAREN o.class (in_set c SET_L_PAREN o.class refl i)) x1.spelled (one_class CLASS_COMMA s.class (in_set c SET_COMMA s.class refl l)) x2.spelled (one_class CLASS_COMMA r.class (in_set c SET_COMMA r.class refl q)) x3.spelled (one_class CLASS_R_PAREN z.class (in_set c SET_R_PAREN z.class refl p)))
        (pieces_of_four (plain f ∷ opens n o ∷ x1.placed) (plain s ∷ x2.placed) (plain r ∷ x3.placed) (plain z ∷ []) (ap (λ (us : List SeenToken). f ∷ o ∷ us) e1) (ap (λ (us : List SeenToken). s ∷ us) e2) (ap (λ (us : List SeenToken). r ∷ us) e3) refl)

    three_rest_name : Keeps RULE_THREE_REST_NAME NAME_THREE_REST
    three_rest_name _ (acted none) n f h = mk (IsPrim w n) _ _ (variable f (inr (inr (inr (inr h))))) refl

    -- each rule of the fragment keeps the meaning of its name
    pub term_rules_mean : RowsMean g SeenToken (λ token. token.class) M term_rules
    term_rules_mean = (whole_term, (disjunction_first, (disjunction_tail_more, (disjunction_tail_end, (conjunction_first, (conjunction_tail_more, (conjunction_tail_end, (comparison_first, (comparison_tail_more, (comparison_tail_end, (sum_first, (sum_tail_more, (sum_tail_end, (product_first, (product_tail_more, (product_tail_end, (unary_sign, (unary_prim, (prim_number, (prim_constant, (prim_free, (prim_paren, (prim_maker, (prim_one, (prim_two, (prim_three, (maker_rest_call, (maker_rest_name, (one_rest_call, (one_rest_name, (two_rest_call, (two_rest_name, (three_rest_call, (three_rest_name, tt))))))))))))))))))))))))))))))))))
