-- Terms of a script that the published grammar spells are derived, and the steps build them.
use Rattle.std.proofs.Common.{◌≡◌, ℕ, true, false, eqb, List, [], ◌∷◌, ◌++◌, ◌||◌, Option, inl, inr, ⊎_elim, refl, sym, ap, subst, ◌∙◌, append_assoc, arith}
use Rattle.std.proofs.lemmas.List.{append-nil}
use Rattle.std.proofs.lemmas.Bool.Decides.{nat_tests}
use Rattle.gv_grammar.specs.declared.symbols.Symbol.{Symbol}
use Rattle.gv_grammar.specs.declared.symbols.Symbol.TheVariants.{Name as N, Act as A}
use Rattle.gv_grammar.specs.declared.levels.TheConstants.{RESTORE}
use Rattle.gv_grammar.specs.Derivation.{is_among}
use Rattle.gv_grammar.specs.Building.{act_of}
use Rattle.gv_grammar.specs.Text.{plain, opens}
use Rattle.gv_grammar.proofs.Spelling.{Reading, tk, tk_in, op, op_in, sv, rs, ac, ru, re}
use Rattle.gv_grammar.proofs.Meaning.{more_classes}
use Rattle.gv_termread.specs.declared.generated.term_table.TheConstants.{ACT_BINARY, ACT_CONSTANT, ACT_MAKER, ACT_NUMBER, ACT_OF_ONE, ACT_OF_THREE, ACT_OF_TWO, ACT_PAREN, ACT_UNARY, ACT_VARIABLE, CLASS_AND_AND, CLASS_AT_LEAST, CLASS_AT_MOST, CLASS_BANG, CLASS_CARET, CLASS_COMMA, CLASS_EQUAL, CLASS_GREATER, CLASS_LESS, CLASS_L_PAREN, CLASS_NOT_EQUAL, CLASS_NUMBER, CLASS_OR_OR, CLASS_R_PAREN, NAME_COMPARISON, NAME_COMPARISON_TAIL, NAME_CONJUNCTION, NAME_CONJUNCTION_TAIL, NAME_DISJUNCTION_TAIL, NAME_PRIM, NAME_PRODUCT, NAME_PRODUCT_TAIL, NAME_SUM, NAME_SUM_TAIL, NAME_UNARY, NAME_WHOLE, RULE_COMPARISON_FIRST, RULE_COMPARISON_TAIL_END, RULE_COMPARISON_TAIL_MORE, RULE_CONJUNCTION_FIRST, RULE_CONJUNCTION_TAIL_END, RULE_CONJUNCTION_TAIL_MORE, RULE_DISJUNCTION_TAIL_END, RULE_DISJUNCTION_TAIL_MORE, RULE_MAKER_REST_CALL, RULE_MAKER_REST_NAME, RULE_ONE_REST_CALL, RULE_ONE_REST_NAME, RULE_PRIM_CONSTANT, RULE_PRIM_FREE, RULE_PRIM_MAKER, RULE_PRIM_NUMBER, RULE_PRIM_ONE, RULE_PRIM_PAREN, RULE_PRIM_THREE, RULE_PRIM_TWO, RULE_PRODUCT_FIRST, RULE_PRODUCT_TAIL_END, RULE_PRODUCT_TAIL_MORE, RULE_SUM_FIRST, RULE_SUM_TAIL_END, RULE_SUM_TAIL_MORE, RULE_THREE_REST_CALL, RULE_THREE_REST_NAME, RULE_TWO_REST_CALL, RULE_TWO_REST_NAME, RULE_UNARY_PRIM, RULE_UNARY_SIGN, SET_ADDING, SET_AND_AND, SET_ANY_NUMBER, SET_COMMA, SET_COMPARING, SET_CONSTANT, SET_FREE, SET_INVERTING, SET_L_PAREN, SET_MAKER, SET_MULTIPLYING, SET_OF_ONE, SET_OF_THREE, SET_OF_TWO, SET_OR_OR, SET_R_PAREN}
use Rattle.gv_scriptsyntax.specs.declared.generated.script_table.TheConstants.{NAME_EQUATED, NAME_EQUATION, NAME_FIRST, NAME_FIRST_COMPARISON, NAME_FIRST_COMPARISON_TAIL, NAME_FIRST_CONJUNCTION, NAME_FIRST_CONJUNCTION_TAIL, NAME_FIRST_DISJUNCTION, NAME_FIRST_DISJUNCTION_TAIL, NAME_FIRST_PRIM, NAME_FIRST_PRODUCT, NAME_FIRST_PRODUCT_TAIL, NAME_FIRST_SUM, NAME_FIRST_SUM_TAIL, NAME_FIRST_UNARY, NAME_OPERATORS, NAME_SECOND, NAME_UNEQUAL, RULE_EQUATED_END, RULE_EQUATED_EQUAL, RULE_EQUATED_OTHER, RULE_EQUATION_FIRST, RULE_FIRST_COMPARISON_FIRST, RULE_FIRST_COMPARISON_TAIL_END, RULE_FIRST_COMPARISON_TAIL_MORE, RULE_FIRST_CONJUNCTION_FIRST, RULE_FIRST_CONJUNCTION_TAIL_END, RULE_FIRST_CONJUNCTION_TAIL_MORE, RULE_FIRST_DISJUNCTION_FIRST, RULE_FIRST_DISJUNCTION_TAIL_END, RULE_FIRST_DISJUNCTION_TAIL_MORE, RULE_FIRST_PRIM_CONSTANT, RULE_FIRST_PRIM_FREE, RULE_FIRST_PRIM_MAKER, RULE_FIRST_PRIM_NUMBER, RULE_FIRST_PRIM_ONE, RULE_FIRST_PRIM_PAREN, RULE_FIRST_PRIM_THREE, RULE_FIRST_PRIM_TWO, RULE_FIRST_PRODUCT_FIRST, RULE_FIRST_PRODUCT_TAIL_END, RULE_FIRST_PRODUCT_TAIL_MORE, RULE_FIRST_SUM_FIRST, RULE_FIRST_SUM_TAIL_END, RULE_FIRST_SUM_TAIL_MORE, RULE_FIRST_TERM, RULE_FIRST_UNARY_PRIM, RULE_FIRST_UNARY_SIGN, RULE_OPERATORS_TAILS, RULE_SECOND_PRIM, RULE_SECOND_SIGN, RULE_UNEQUAL_EQUAL, RULE_UNEQUAL_OTHER, SET_BANG, SET_EQUAL, SET_OTHER_COMPARING}
use Rattle.gv_termread.specs.declared.generated.term_acts.Part.{Part}
use Rattle.gv_termread.specs.declared.generated.term_acts.Part.TheVariants.{Token as PToken, Term as PTerm}
use Rattle.gv_termread.specs.declared.placed.PlacedTerm.{PlacedTerm}
use Rattle.gv_termread.specs.Language.{Tokens, AnyOf, inverting, term, IsDisjunction, conjunction, or, IsConjunction, comparison, and, IsComparison, sum, compare, IsSum, product, add, IsProduct, unary, multiply, IsUnary, prim, invert, IsPrim, number, constant, variable, paren, maker, one, two, three}
use Rattle.gv_termread.proofs.Forward.{term_reads}
use Rattle.gv_scriptsyntax.specs.declared.generated.script_acts.ScriptPart.{ScriptPart}
use Rattle.gv_scriptsyntax.specs.ScriptTable.{script_tables}
use Rattle.gv_scriptsyntax.specs.ScriptActs.{script_acts}
use Rattle.gv_scriptsyntax.specs.Words.{lexicon}
use Rattle.gv_scriptsyntax.specs.Language.{IsWhole, begins_with, IsSecond, second_term, IsFirstPrim, first_number, first_constant, first_variable, first_paren, first_maker, first_one, first_two, first_three, IsFirstUnary, first_prim, first_invert, IsFirstProduct, first_unary, first_multiply, IsFirstSum, first_product, first_add, IsFirstComparison, first_sum, first_compare, IsFirstConjunction, first_comparison, first_and, IsFirstDisjunction, first_conjunction, first_or, IsFirst, first_term, IsEquation, equation}
use Rattle.gv_scriptsyntax.proofs.ScriptContains.{script_contains}

-- the comparisons but `==`
abbrev other_comparing : List ℕ
other_comparing = CLASS_NOT_EQUAL ∷ CLASS_LESS ∷ CLASS_AT_MOST ∷ CLASS_GREATER ∷ CLASS_AT_LEAST ∷ []

-- a unary operator that is no `^`
only_bang : (k : ℕ) → is_among k inverting ≡ true → eqb k CLASS_CARET ≡ false → k ≡ CLASS_BANG
only_bang k i e = ⊎_elim (λ (q : k ≡ CLASS_BANG). q) (λ (q : (eqb CLASS_CARET k || false) ≡ true). absurd (grind (arith, nat_tests))) (more_classes CLASS_BANG k _ i)

module _ (text : List ℕ) where
  abbrev pub Parts : Type 0
  Parts = List (Part ScriptPart)

  -- a reading of a script
  abbrev pub Read : List Symbol → Tokens → ℕ → List ℕ → Parts → Option Parts → Type 0
  Read = Reading script_tables (λ token. token.class) PToken (act_of (script_acts text))

  pub to : {ss : List Symbol} {n : ℕ} {kept : List ℕ} {parts : Parts} {final : Option Parts} (xs : Tokens) {ys : Tokens} → xs ≡ ys → Read ss xs n kept parts final → Read ss ys n kept parts final
  to {ss} {n} {kept} {parts} {final} xs e r = subst (λ (us : Tokens). Read ss us n kept parts final) e r

  pub whole_reads : {n : ℕ} {x : PlacedTerm} {ts : Tokens} → IsWhole text n x ts → {s : List Symbol} {us : Tokens} {kept : List ℕ} {parts : Parts} {final : Option Parts}
      → Read s us n kept (PTerm x ∷ parts) final → Read (N NAME_WHOLE ∷ s) (ts ++ us) n kept parts final
  whole_reads d k = term_reads (lexicon text) (script_contains text) d k

  pub prim_reads : {n : ℕ} {x : PlacedTerm} {ts : Tokens} → IsPrim (lexicon text) n x ts → {s : List Symbol} {us : Tokens} {kept : List ℕ} {parts : Parts} {final : Option Parts}
      → Read s us n kept (PTerm x ∷ parts) final → Read (N NAME_PRIM ∷ s) (ts ++ us) n kept parts final
  prim_reads (number t i) k = ru RULE_PRIM_NUMBER refl (tk_in SET_ANY_NUMBER i (ac ACT_NUMBER refl k))
  prim_reads (constant t i) k = ru RULE_PRIM_CONSTANT refl (tk_in SET_CONSTANT i (ac ACT_CONSTANT refl k))
  prim_reads (variable t (inl i)) k = ru RULE_PRIM_FREE refl (tk_in SET_FREE i (ac ACT_VARIABLE refl k))
  prim_reads (variable t (inr (inl i))) k = ru RULE_PRIM_MAKER refl (tk_in SET_MAKER i (ru RULE_MAKER_REST_NAME refl (ac ACT_VARIABLE refl k)))
  prim_reads (variable t (inr (inr (inl i)))) k = ru RULE_PRIM_ONE refl (tk_in SET_OF_ONE i (ru RULE_ONE_REST_NAME refl (ac ACT_VARIABLE refl k)))
  prim_reads (variable t (inr (inr (inr (inl i))))) k = ru RULE_PRIM_TWO refl (tk_in SET_OF_TWO i (ru RULE_TWO_REST_NAME refl (ac ACT_VARIABLE refl k)))
  prim_reads (variable t (inr (inr (inr (inr i))))) k = ru RULE_PRIM_THREE refl (tk_in SET_OF_THREE i (ru RULE_THREE_REST_NAME refl (ac ACT_VARIABLE refl k)))
  prim_reads (paren o z {ts = ts} i d l) {us = us} k =
      ru RULE_PRIM_PAREN refl (sv (op SET_L_PAREN CLASS_L_PAREN i refl (re ts (plain z ∷ []) us (whole_reads d (tk SET_R_PAREN CLASS_R_PAREN l refl (rs (ac ACT_PAREN refl k)))))))
  prim_reads (maker f o j s z {ts = ts} h i g l d p) {us = us} k =
      ru RULE_PRIM_MAKER refl (tk_in SET_MAKER h (ru RULE_MAKER_REST_CALL refl (sv (op SET_L_PAREN CLASS_L_PAREN i refl (tk_in SET_ANY_NUMBER g (tk SET_COMMA CLASS_COMMA l refl
      (re ts (plain z ∷ []) us (whole_reads d (tk SET_R_PAREN CLASS_R_PAREN p refl (rs (ac ACT_MAKER refl k)))))))))))
  prim_reads (one f o z {ts = ts} h i d l) {us = us} k =
      ru RULE_PRIM_ONE refl (tk_in SET_OF_ONE h (ru RULE_ONE_REST_CALL refl (sv (op SET_L_PAREN CLASS_L_PAREN i refl (re ts (plain z ∷ []) us (whole_reads d (tk SET_R_PAREN CLASS_R_PAREN l refl (rs (ac ACT_OF_ONE refl k)))))))))
  prim_reads {n} (two f o s z {ts = ts} {us = vs} h i d l e p) {us = us} k =
      re (plain f ∷ opens n o ∷ ts ++ plain s ∷ vs) (plain z ∷ []) us (re (plain f ∷ opens n o ∷ ts) (plain s ∷ vs) (plain z ∷ us)
      (ru RULE_PRIM_TWO refl (tk_in SET_OF_TWO h (ru RULE_TWO_REST_CALL refl (sv (op SET_L_PAREN CLASS_L_PAREN i refl (whole_reads d (tk SET_COMMA CLASS_COMMA l refl
      (whole_reads e (tk SET_R_PAREN CLASS_R_PAREN p refl (rs (ac ACT_OF_TWO refl k))))))))))))
  prim_reads {n} (three f o s r z {ts = ts} {us = vs} {vs = ws} h i d l e p b q) {us = us} k =
      re ((plain f ∷ opens n o ∷ ts ++ plain s ∷ vs) ++ plain r ∷ ws) (plain z ∷ []) us (re (plain f ∷ opens n o ∷ ts ++ plain s ∷ vs) (plain r ∷ ws) (plain z ∷ us)
      (re (plain f ∷ opens n o ∷ ts) (plain s ∷ vs) (plain r ∷ (ws ++ plain z ∷ us))
      (ru RULE_PRIM_THREE refl (tk_in SET_OF_THREE h (ru RULE_THREE_REST_CALL refl (sv (op SET_L_PAREN CLASS_L_PAREN i refl (whole_reads d (tk SET_COMMA CLASS_COMMA l refl
      (whole_reads e (tk SET_COMMA CLASS_COMMA p refl (whole_reads b (tk SET_R_PAREN CLASS_R_PAREN q refl (rs (ac ACT_OF_THREE refl k)))))))))))))))

  pub unary_reads : {n m : ℕ} {x : PlacedTerm} {ts : Tokens} → IsUnary (lexicon text) n x m ts → {s : List Symbol} {us : Tokens} {kept : List ℕ} {parts : Parts} {final : Option Parts}
      → Read s us m kept (PTerm x ∷ parts) final → Read (N NAME_UNARY ∷ s) (ts ++ us) n kept parts final
  unary_reads (prim d) k = ru RULE_UNARY_PRIM refl (prim_reads d k)
  unary_reads (invert t i d) k = ru RULE_UNARY_SIGN refl (op_in SET_INVERTING i (unary_reads d (ac ACT_UNARY refl k)))

  pub product_reads : {n m : ℕ} {x : PlacedTerm} {ts : Tokens} → IsProduct (lexicon text) n x m ts → {s : List Symbol} {us : Tokens} {kept : List ℕ} {parts : Parts} {final : Option Parts}
      → Read (N NAME_PRODUCT_TAIL ∷ s) us m kept (PTerm x ∷ parts) final → Read (N NAME_PRODUCT ∷ s) (ts ++ us) n kept parts final
  product_reads (unary d) k = ru RULE_PRODUCT_FIRST refl (unary_reads d k)
  product_reads (multiply {m = m} t {ts = ts} {us = vs} d i e) {us = us} k =
      re ts (opens m t ∷ vs) us (product_reads d (ru RULE_PRODUCT_TAIL_MORE refl (op_in SET_MULTIPLYING i (unary_reads e (ac ACT_BINARY refl k)))))

  pub sum_reads : {n m : ℕ} {x : PlacedTerm} {ts : Tokens} → IsSum (lexicon text) n x m ts → {s : List Symbol} {us : Tokens} {kept : List ℕ} {parts : Parts} {final : Option Parts}
      → Read (N NAME_SUM_TAIL ∷ s) us m kept (PTerm x ∷ parts) final → Read (N NAME_SUM ∷ s) (ts ++ us) n kept parts final
  sum_reads (product d) k = ru RULE_SUM_FIRST refl (product_reads d (ru RULE_PRODUCT_TAIL_END refl k))
  sum_reads (add {m = m} t {ts = ts} {us = vs} d i e) {us = us} k =
      re ts (opens m t ∷ vs) us (sum_reads d (ru RULE_SUM_TAIL_MORE refl (op_in SET_ADDING i (product_reads e (ru RULE_PRODUCT_TAIL_END refl (ac ACT_BINARY refl k))))))

  pub comparison_reads : {n m : ℕ} {x : PlacedTerm} {ts : Tokens} → IsComparison (lexicon text) n x m ts → {s : List Symbol} {us : Tokens} {kept : List ℕ} {parts : Parts} {final : Option Parts}
      → Read (N NAME_COMPARISON_TAIL ∷ s) us m kept (PTerm x ∷ parts) final → Read (N NAME_COMPARISON ∷ s) (ts ++ us) n kept parts final
  comparison_reads (sum d) k = ru RULE_COMPARISON_FIRST refl (sum_reads d (ru RULE_SUM_TAIL_END refl k))
  comparison_reads (compare {m = m} t {ts = ts} {us = vs} d i e) {us = us} k =
      re ts (opens m t ∷ vs) us (comparison_reads d (ru RULE_COMPARISON_TAIL_MORE refl (op_in SET_COMPARING i (sum_reads e (ru RULE_SUM_TAIL_END refl (ac ACT_BINARY refl k))))))

  pub conjunction_reads : {n m : ℕ} {x : PlacedTerm} {ts : Tokens} → IsConjunction (lexicon text) n x m ts → {s : List Symbol} {us : Tokens} {kept : List ℕ} {parts : Parts} {final : Option Parts}
      → Read (N NAME_CONJUNCTION_TAIL ∷ s) us m kept (PTerm x ∷ parts) final → Read (N NAME_CONJUNCTION ∷ s) (ts ++ us) n kept parts final
  conjunction_reads (comparison d) k = ru RULE_CONJUNCTION_FIRST refl (comparison_reads d (ru RULE_COMPARISON_TAIL_END refl k))
  conjunction_reads (and {m = m} t {ts = ts} {us = vs} d i e) {us = us} k =
      re ts (opens m t ∷ vs) us (conjunction_reads d (ru RULE_CONJUNCTION_TAIL_MORE refl (op SET_AND_AND CLASS_AND_AND i refl (comparison_reads e (ru RULE_COMPARISON_TAIL_END refl (ac ACT_BINARY refl k))))))

  -- ---- terms before another one or a parenthesis

  first_prim_reads : {n : ℕ} {x : PlacedTerm} {ts : Tokens} → IsFirstPrim text n x ts → {s : List Symbol} {us : Tokens} {kept : List ℕ} {parts : Parts} {final : Option Parts}
      → Read s us n kept (PTerm x ∷ parts) final → Read (N NAME_FIRST_PRIM ∷ s) (ts ++ us) n kept parts final
  first_prim_reads (first_number t h0) k =
      ru RULE_FIRST_PRIM_NUMBER refl (tk SET_ANY_NUMBER CLASS_NUMBER h0 refl (ac ACT_NUMBER refl k))
  first_prim_reads (first_constant t h0) k =
      ru RULE_FIRST_PRIM_CONSTANT refl (tk_in SET_CONSTANT h0 (ac ACT_CONSTANT refl k))
  first_prim_reads (first_variable t h0) k =
      ru RULE_FIRST_PRIM_FREE refl (tk_in SET_FREE h0 (ac ACT_VARIABLE refl k))
  first_prim_reads (first_paren {n = n} o c {ts = t0} h0 h1 h2) {us = us} k =
      to (opens n o ∷ (t0 ++ (plain c ∷ us))) (simp append_assoc) (ru RULE_FIRST_PRIM_PAREN refl (sv (op SET_L_PAREN CLASS_L_PAREN h0 refl (whole_reads h1 (tk SET_R_PAREN CLASS_R_PAREN h2 refl (rs (ac ACT_PAREN refl k)))))))
  first_prim_reads (first_maker {n = n} f o k' s' c {ts = t0} h0 h1 h2 h3 h4 h5) {us = us} k =
      to (plain f ∷ opens n o ∷ plain k' ∷ plain s' ∷ (t0 ++ (plain c ∷ us))) (simp append_assoc) (ru RULE_FIRST_PRIM_MAKER refl (tk_in SET_MAKER h0 (sv (op SET_L_PAREN CLASS_L_PAREN h1 refl (tk SET_ANY_NUMBER CLASS_NUMBER h2 refl (tk SET_COMMA CLASS_COMMA h3 refl (whole_reads h4 (tk SET_R_PAREN CLASS_R_PAREN h5 refl (rs (ac ACT_MAKER refl k))))))))))
  first_prim_reads (first_one {n = n} f o c {ts = t0} h0 h1 h2 h3) {us = us} k =
      to (plain f ∷ opens n o ∷ (t0 ++ (plain c ∷ us))) (simp append_assoc) (ru RULE_FIRST_PRIM_ONE refl (tk_in SET_OF_ONE h0 (sv (op SET_L_PAREN CLASS_L_PAREN h1 refl (whole_reads h2 (tk SET_R_PAREN CLASS_R_PAREN h3 refl (rs (ac ACT_OF_ONE refl k))))))))
  first_prim_reads (first_two {n = n} f o s' c {ts = t0} {us = t1} h0 h1 h2 h3 h4 h5) {us = us} k =
      to (plain f ∷ opens n o ∷ (t0 ++ (plain s' ∷ (t1 ++ (plain c ∷ us))))) (simp append_assoc) (ru RULE_FIRST_PRIM_TWO refl (tk_in SET_OF_TWO h0 (sv (op SET_L_PAREN CLASS_L_PAREN h1 refl (whole_reads h2 (tk SET_COMMA CLASS_COMMA h3 refl (whole_reads h4 (tk SET_R_PAREN CLASS_R_PAREN h5 refl (rs (ac ACT_OF_TWO refl k))))))))))
  first_prim_reads (first_three {n = n} f o s' r c {ts = t0} {us = t1} {vs = t2} h0 h1 h2 h3 h4 h5 h6 h7) {us = us} k =
      to (plain f ∷ opens n o ∷ (t0 ++ (plain s' ∷ (t1 ++ (plain r ∷ (t2 ++ (plain c ∷ us))))))) (simp append_assoc) (ru RULE_FIRST_PRIM_THREE refl (tk_in SET_OF_THREE h0 (sv (op SET_L_PAREN CLASS_L_PAREN h1 refl (whole_reads h2 (tk SET_COMMA CLASS_COMMA h3 refl (whole_reads h4 (tk SET_COMMA CLASS_COMMA h5 refl (whole_reads h6 (tk SET_R_PAREN CLASS_R_PAREN h7 refl (rs (ac ACT_OF_THREE refl k))))))))))))

  first_unary_reads : {n m : ℕ} {x : PlacedTerm} {ts : Tokens} → IsFirstUnary text n x m ts → {s : List Symbol} {us : Tokens} {kept : List ℕ} {parts : Parts} {final : Option Parts}
      → Read s us m kept (PTerm x ∷ parts) final → Read (N NAME_FIRST_UNARY ∷ s) (ts ++ us) n kept parts final
  first_unary_reads (first_prim d) k = ru RULE_FIRST_UNARY_PRIM refl (first_prim_reads d k)
  first_unary_reads (first_invert t i d) k = ru RULE_FIRST_UNARY_SIGN refl (op_in SET_INVERTING i (first_unary_reads d (ac ACT_UNARY refl k)))

  first_product_reads : {n m : ℕ} {x : PlacedTerm} {ts : Tokens} → IsFirstProduct text n x m ts → {s : List Symbol} {us : Tokens} {kept : List ℕ} {parts : Parts} {final : Option Parts}
      → Read (N NAME_FIRST_PRODUCT_TAIL ∷ s) us m kept (PTerm x ∷ parts) final → Read (N NAME_FIRST_PRODUCT ∷ s) (ts ++ us) n kept parts final
  first_product_reads (first_unary d) k = ru RULE_FIRST_PRODUCT_FIRST refl (first_unary_reads d k)
  first_product_reads (first_multiply {m = m} t {ts = ts} {us = vs} d i e) {us = us} k =
      re ts (opens m t ∷ vs) us (first_product_reads d (ru RULE_FIRST_PRODUCT_TAIL_MORE refl (op_in SET_MULTIPLYING i (first_unary_reads e (ac ACT_BINARY refl k)))))

  first_sum_reads : {n m : ℕ} {x : PlacedTerm} {ts : Tokens} → IsFirstSum text n x m ts → {s : List Symbol} {us : Tokens} {kept : List ℕ} {parts : Parts} {final : Option Parts}
      → Read (N NAME_FIRST_SUM_TAIL ∷ s) us m kept (PTerm x ∷ parts) final → Read (N NAME_FIRST_SUM ∷ s) (ts ++ us) n kept parts final
  first_sum_reads (first_product d) k = ru RULE_FIRST_SUM_FIRST refl (first_product_reads d (ru RULE_FIRST_PRODUCT_TAIL_END refl k))
  first_sum_reads (first_add {m = m} t {ts = ts} {us = vs} d i e) {us = us} k =
      re ts (opens m t ∷ vs) us (first_sum_reads d (ru RULE_FIRST_SUM_TAIL_MORE refl (op_in SET_ADDING i (first_product_reads e (ru RULE_FIRST_PRODUCT_TAIL_END refl (ac ACT_BINARY refl k))))))

  first_comparison_reads : {n m : ℕ} {x : PlacedTerm} {ts : Tokens} → IsFirstComparison text n x m ts → {s : List Symbol} {us : Tokens} {kept : List ℕ} {parts : Parts} {final : Option Parts}
      → Read (N NAME_FIRST_COMPARISON_TAIL ∷ s) us m kept (PTerm x ∷ parts) final → Read (N NAME_FIRST_COMPARISON ∷ s) (ts ++ us) n kept parts final
  first_comparison_reads (first_sum d) k = ru RULE_FIRST_COMPARISON_FIRST refl (first_sum_reads d (ru RULE_FIRST_SUM_TAIL_END refl k))
  first_comparison_reads (first_compare {m = m} t {ts = ts} {us = vs} d i e) {us = us} k =
      re ts (opens m t ∷ vs) us (first_comparison_reads d (ru RULE_FIRST_COMPARISON_TAIL_MORE refl (op_in SET_COMPARING i (first_sum_reads e (ru RULE_FIRST_SUM_TAIL_END refl (ac ACT_BINARY refl k))))))

  first_conjunction_reads : {n m : ℕ} {x : PlacedTerm} {ts : Tokens} → IsFirstConjunction text n x m ts → {s : List Symbol} {us : Tokens} {kept : List ℕ} {parts : Parts} {final : Option Parts}
      → Read (N NAME_FIRST_CONJUNCTION_TAIL ∷ s) us m kept (PTerm x ∷ parts) final → Read (N NAME_FIRST_CONJUNCTION ∷ s) (ts ++ us) n kept parts final
  first_conjunction_reads (first_comparison d) k = ru RULE_FIRST_CONJUNCTION_FIRST refl (first_comparison_reads d (ru RULE_FIRST_COMPARISON_TAIL_END refl k))
  first_conjunction_reads (first_and {m = m} t {ts = ts} {us = vs} d i e) {us = us} k =
      re ts (opens m t ∷ vs) us (first_conjunction_reads d (ru RULE_FIRST_CONJUNCTION_TAIL_MORE refl (op SET_AND_AND CLASS_AND_AND i refl (first_comparison_reads e (ru RULE_FIRST_COMPARISON_TAIL_END refl (ac ACT_BINARY refl k))))))

  first_disjunction_reads : {n m : ℕ} {x : PlacedTerm} {ts : Tokens} → IsFirstDisjunction text n x m ts → {s : List Symbol} {us : Tokens} {kept : List ℕ} {parts : Parts} {final : Option Parts}
      → Read (N NAME_FIRST_DISJUNCTION_TAIL ∷ s) us m kept (PTerm x ∷ parts) final → Read (N NAME_FIRST_DISJUNCTION ∷ s) (ts ++ us) n kept parts final
  first_disjunction_reads (first_conjunction d) k = ru RULE_FIRST_DISJUNCTION_FIRST refl (first_conjunction_reads d (ru RULE_FIRST_CONJUNCTION_TAIL_END refl k))
  first_disjunction_reads (first_or {m = m} t {ts = ts} {us = vs} d i e) {us = us} k =
      re ts (opens m t ∷ vs) us (first_disjunction_reads d (ru RULE_FIRST_DISJUNCTION_TAIL_MORE refl (op SET_OR_OR CLASS_OR_OR i refl (first_conjunction_reads e (ru RULE_FIRST_CONJUNCTION_TAIL_END refl (ac ACT_BINARY refl k))))))

  pub first_reads : {n : ℕ} {x : PlacedTerm} {ts : Tokens} → IsFirst text n x ts → {s : List Symbol} {us : Tokens} {kept : List ℕ} {parts : Parts} {final : Option Parts}
      → Read s us n kept (PTerm x ∷ parts) final → Read (N NAME_FIRST ∷ s) (ts ++ us) n kept parts final
  first_reads (first_term d) k = ru RULE_FIRST_TERM refl (sv (first_disjunction_reads d (ru RULE_FIRST_DISJUNCTION_TAIL_END refl (rs k))))

  -- ---- a term by its first operand

  -- What reads on behind the operand reads the whole, as far as the tail of its level.
  pub record Spine (n : ℕ) (x : PlacedTerm) (m : ℕ) (ts : Tokens) (tail : ℕ) (tails : List Symbol) : Type 0 where
    pub operand : PlacedTerm
    pub level : ℕ
    pub front : Tokens
    pub back : Tokens
    pub same : front ++ back ≡ ts
    pub begun : IsUnary (lexicon text) n operand level front
    pub goes : (s : List Symbol) (us : Tokens) (kept : List ℕ) (parts : Parts) (final : Option Parts) → Read (N tail ∷ s) us m kept (PTerm x ∷ parts) final
        → Read (tails ++ s) (back ++ us) level kept (PTerm operand ∷ parts) final

  product_spine : {n m : ℕ} {x : PlacedTerm} {ts : Tokens} → IsProduct (lexicon text) n x m ts → Spine n x m ts NAME_PRODUCT_TAIL (N NAME_PRODUCT_TAIL ∷ [])
  product_spine {n} {m} {x} {ts} (unary d) = record { operand = x; level = m; front = ts; back = []; same = append-nil ts; begun = d; goes = λ s us kept parts final k. k }
  product_spine (multiply {m = m} t {ts = ts} {us = vs} d i e) = let a = product_spine d in record {
    operand = a.operand;
    level = a.level;
    front = a.front;
    back = a.back ++ (opens m t ∷ vs);
    same = sym (append_assoc a.front a.back (opens m t ∷ vs)) ∙ ap (λ (ps : Tokens). ps ++ (opens m t ∷ vs)) a.same;
    begun = a.begun;
    goes = λ s us kept parts final k. re a.back (opens m t ∷ vs) us (a.goes s (opens m t ∷ (vs ++ us)) kept parts final (ru RULE_PRODUCT_TAIL_MORE refl (op_in SET_MULTIPLYING i (unary_reads e (ac ACT_BINARY refl k)))));
  }

  sum_spine : {n m : ℕ} {x : PlacedTerm} {ts : Tokens} → IsSum (lexicon text) n x m ts → Spine n x m ts NAME_SUM_TAIL (N NAME_PRODUCT_TAIL ∷ N NAME_SUM_TAIL ∷ [])
  sum_spine (product d) = let a = product_spine d in record {
    operand = a.operand;
    level = a.level;
    front = a.front;
    back = a.back;
    same = a.same;
    begun = a.begun;
    goes = λ s us kept parts final k. a.goes (N NAME_SUM_TAIL ∷ s) us kept parts final (ru RULE_PRODUCT_TAIL_END refl k);
  }
  sum_spine (add {m = m} t {ts = ts} {us = vs} d i e) = let a = sum_spine d in record {
    operand = a.operand;
    level = a.level;
    front = a.front;
    back = a.back ++ (opens m t ∷ vs);
    same = sym (append_assoc a.front a.back (opens m t ∷ vs)) ∙ ap (λ (ps : Tokens). ps ++ (opens m t ∷ vs)) a.same;
    begun = a.begun;
    goes = λ s us kept parts final k. re a.back (opens m t ∷ vs) us (a.goes s (opens m t ∷ (vs ++ us)) kept parts final (ru RULE_SUM_TAIL_MORE refl (op_in SET_ADDING i (product_reads e (ru RULE_PRODUCT_TAIL_END refl (ac ACT_BINARY refl k))))));
  }

  comparison_spine : {n m : ℕ} {x : PlacedTerm} {ts : Tokens} → IsComparison (lexicon text) n x m ts → Spine n x m ts NAME_COMPARISON_TAIL (N NAME_PRODUCT_TAIL ∷ N NAME_SUM_TAIL ∷ N NAME_COMPARISON_TAIL ∷ [])
  comparison_spine (sum d) = let a = sum_spine d in record {
    operand = a.operand;
    level = a.level;
    front = a.front;
    back = a.back;
    same = a.same;
    begun = a.begun;
    goes = λ s us kept parts final k. a.goes (N NAME_COMPARISON_TAIL ∷ s) us kept parts final (ru RULE_SUM_TAIL_END refl k);
  }
  comparison_spine (compare {m = m} t {ts = ts} {us = vs} d i e) = let a = comparison_spine d in record {
    operand = a.operand;
    level = a.level;
    front = a.front;
    back = a.back ++ (opens m t ∷ vs);
    same = sym (append_assoc a.front a.back (opens m t ∷ vs)) ∙ ap (λ (ps : Tokens). ps ++ (opens m t ∷ vs)) a.same;
    begun = a.begun;
    goes = λ s us kept parts final k. re a.back (opens m t ∷ vs) us (a.goes s (opens m t ∷ (vs ++ us)) kept parts final (ru RULE_COMPARISON_TAIL_MORE refl (op_in SET_COMPARING i (sum_reads e (ru RULE_SUM_TAIL_END refl (ac ACT_BINARY refl k))))));
  }

  conjunction_spine : {n m : ℕ} {x : PlacedTerm} {ts : Tokens} → IsConjunction (lexicon text) n x m ts → Spine n x m ts NAME_CONJUNCTION_TAIL (N NAME_PRODUCT_TAIL ∷ N NAME_SUM_TAIL ∷ N NAME_COMPARISON_TAIL ∷ N NAME_CONJUNCTION_TAIL ∷ [])
  conjunction_spine (comparison d) = let a = comparison_spine d in record {
    operand = a.operand;
    level = a.level;
    front = a.front;
    back = a.back;
    same = a.same;
    begun = a.begun;
    goes = λ s us kept parts final k. a.goes (N NAME_CONJUNCTION_TAIL ∷ s) us kept parts final (ru RULE_COMPARISON_TAIL_END refl k);
  }
  conjunction_spine (and {m = m} t {ts = ts} {us = vs} d i e) = let a = conjunction_spine d in record {
    operand = a.operand;
    level = a.level;
    front = a.front;
    back = a.back ++ (opens m t ∷ vs);
    same = sym (append_assoc a.front a.back (opens m t ∷ vs)) ∙ ap (λ (ps : Tokens). ps ++ (opens m t ∷ vs)) a.same;
    begun = a.begun;
    goes = λ s us kept parts final k. re a.back (opens m t ∷ vs) us (a.goes s (opens m t ∷ (vs ++ us)) kept parts final (ru RULE_CONJUNCTION_TAIL_MORE refl (op SET_AND_AND CLASS_AND_AND i refl (comparison_reads e (ru RULE_COMPARISON_TAIL_END refl (ac ACT_BINARY refl k))))));
  }

  disjunction_spine : {n m : ℕ} {x : PlacedTerm} {ts : Tokens} → IsDisjunction (lexicon text) n x m ts → Spine n x m ts NAME_DISJUNCTION_TAIL (N NAME_PRODUCT_TAIL ∷ N NAME_SUM_TAIL ∷ N NAME_COMPARISON_TAIL ∷ N NAME_CONJUNCTION_TAIL ∷ N NAME_DISJUNCTION_TAIL ∷ [])
  disjunction_spine (conjunction d) = let a = conjunction_spine d in record {
    operand = a.operand;
    level = a.level;
    front = a.front;
    back = a.back;
    same = a.same;
    begun = a.begun;
    goes = λ s us kept parts final k. a.goes (N NAME_DISJUNCTION_TAIL ∷ s) us kept parts final (ru RULE_CONJUNCTION_TAIL_END refl k);
  }
  disjunction_spine (or {m = m} t {ts = ts} {us = vs} d i e) = let a = disjunction_spine d in record {
    operand = a.operand;
    level = a.level;
    front = a.front;
    back = a.back ++ (opens m t ∷ vs);
    same = sym (append_assoc a.front a.back (opens m t ∷ vs)) ∙ ap (λ (ps : Tokens). ps ++ (opens m t ∷ vs)) a.same;
    begun = a.begun;
    goes = λ s us kept parts final k. re a.back (opens m t ∷ vs) us (a.goes s (opens m t ∷ (vs ++ us)) kept parts final (ru RULE_DISJUNCTION_TAIL_MORE refl (op SET_OR_OR CLASS_OR_OR i refl (conjunction_reads e (ru RULE_CONJUNCTION_TAIL_END refl (ac ACT_BINARY refl k))))));
  }

  pub record Begun (n : ℕ) (x : PlacedTerm) (ts : Tokens) : Type 0 where
    pub operand : PlacedTerm
    pub level : ℕ
    pub last : ℕ
    pub front : Tokens
    pub back : Tokens
    pub same : front ++ back ≡ ts
    pub begun : IsUnary (lexicon text) n operand level front
    pub goes : (s : List Symbol) (us : Tokens) (kept : List ℕ) (parts : Parts) (final : Option Parts) → Read s us last kept (PTerm x ∷ parts) final
        → Read (N NAME_OPERATORS ∷ s) (back ++ us) level kept (PTerm operand ∷ parts) final

  pub begun_of : {n : ℕ} {x : PlacedTerm} {ts : Tokens} → IsWhole text n x ts → Begun n x ts
  begun_of (term {m = m} d) = let a = disjunction_spine d in record {
    operand = a.operand;
    level = a.level;
    last = m;
    front = a.front;
    back = a.back;
    same = a.same;
    begun = a.begun;
    goes = λ s us kept parts final k. ru RULE_OPERATORS_TAILS refl (a.goes s us kept parts final (ru RULE_DISJUNCTION_TAIL_END refl k));
  }

  -- a term behind another one
  second_at : {n : ℕ} {x : PlacedTerm} {m : ℕ} {front : Tokens} (back : Tokens) → IsUnary (lexicon text) n x m front → begins_with text CLASS_CARET (front ++ back) ≡ false → {s : List Symbol} {us : Tokens} {kept : List ℕ} {parts : Parts} {final : Option Parts}
      → Read (N NAME_OPERATORS ∷ A RESTORE ∷ s) us m (n ∷ kept) (PTerm x ∷ parts) final → Read (N NAME_SECOND ∷ s) (front ++ us) n kept parts final
  second_at back (prim d) e k = ru RULE_SECOND_PRIM refl (sv (prim_reads d k))
  second_at back (invert t i d) e k = ru RULE_SECOND_SIGN refl (sv (op SET_BANG CLASS_BANG (only_bang t.class i e) refl (unary_reads d (ac ACT_UNARY refl k))))

  pub second_reads : {n : ℕ} {x : PlacedTerm} {ts : Tokens} → IsSecond text n x ts → {s : List Symbol} {us : Tokens} {kept : List ℕ} {parts : Parts} {final : Option Parts}
      → Read s us n kept (PTerm x ∷ parts) final → Read (N NAME_SECOND ∷ s) (ts ++ us) n kept parts final
  second_reads {n} {x} {ts} (second_term d e) {s = s} {us = us} {kept = kept} {parts = parts} {final = final} k =
      let a = begun_of d in
      subst (λ (ps : Tokens). Read (N NAME_SECOND ∷ s) (ps ++ us) n kept parts final) a.same
      (re a.front a.back us (second_at a.back a.begun (subst (λ (ps : Tokens). begins_with text CLASS_CARET ps ≡ false) (sym a.same) e) (a.goes (A RESTORE ∷ s) us (n ∷ kept) parts final (rs k))))

  -- ---- equations

  pub record Both (s : List Symbol) (us : Tokens) (n : ℕ) (kept : List ℕ) (parts : Parts) (final : Option Parts) : Type 0 where
    pub unequal : Read (N NAME_UNEQUAL ∷ s) us n kept parts final
    pub equated : Read (N NAME_EQUATED ∷ s) us n kept parts final

  left_reads : {n m : ℕ} {x : PlacedTerm} {ts : Tokens} → IsComparison (lexicon text) n x m ts → {s : List Symbol} {us : Tokens} {kept : List ℕ} {parts : Parts} {final : Option Parts}
      → Both s us m kept (PTerm x ∷ parts) final → Read (N NAME_EQUATION ∷ s) (ts ++ us) n kept parts final
  left_reads (sum d) k = ru RULE_EQUATION_FIRST refl (sum_reads d (ru RULE_SUM_TAIL_END refl k.unequal))
  left_reads (compare {m = m} t {ts = ts} {us = vs} d i e) {us = us} k =
      re ts (opens m t ∷ vs) us (left_reads d (⊎_elim
      (λ (q : t.class ≡ CLASS_EQUAL). record {
        unequal = ru RULE_UNEQUAL_EQUAL refl (op SET_EQUAL CLASS_EQUAL q refl (sum_reads e (ru RULE_SUM_TAIL_END refl (ac ACT_BINARY refl k.equated))));
        equated = ru RULE_EQUATED_EQUAL refl (op SET_EQUAL CLASS_EQUAL q refl (sum_reads e (ru RULE_SUM_TAIL_END refl (ac ACT_BINARY refl k.equated))));
      })
      (λ (q : AnyOf other_comparing t). record {
        unequal = ru RULE_UNEQUAL_OTHER refl (op_in SET_OTHER_COMPARING q (sum_reads e (ru RULE_SUM_TAIL_END refl (ac ACT_BINARY refl k.unequal))));
        equated = ru RULE_EQUATED_OTHER refl (op_in SET_OTHER_COMPARING q (sum_reads e (ru RULE_SUM_TAIL_END refl (ac ACT_BINARY refl k.unequal))));
      })
      (more_classes CLASS_EQUAL t.class _ i)))

  pub equation_reads : {n : ℕ} {x : PlacedTerm} {ts : Tokens} → IsEquation text n x ts → {s : List Symbol} {us : Tokens} {kept : List ℕ} {parts : Parts} {final : Option Parts}
      → ((m : ℕ) → Read s us m kept (PTerm x ∷ parts) final) → Read (N NAME_EQUATION ∷ s) (ts ++ us) n kept parts final
  equation_reads (equation {m = m} {k = j} t {ts = ts} {us = vs} d i e) {us = us} k =
      re ts (opens m t ∷ vs) us (left_reads d (record {
        unequal = ru RULE_UNEQUAL_EQUAL refl (op SET_EQUAL CLASS_EQUAL i refl (sum_reads e (ru RULE_SUM_TAIL_END refl (ac ACT_BINARY refl (ru RULE_EQUATED_END refl (k j))))));
        equated = ru RULE_EQUATED_EQUAL refl (op SET_EQUAL CLASS_EQUAL i refl (sum_reads e (ru RULE_SUM_TAIL_END refl (ac ACT_BINARY refl (ru RULE_EQUATED_END refl (k j))))));
      }))
