-- What the published grammar of terms spells is derived by any tables that contain its fragment, and the steps build its
-- tree.
use Rattle.std.proofs.Common.{ℕ, List, [], ◌∷◌, ◌++◌, Option, Some, inl, inr, refl, subst}
use Rattle.std.proofs.lemmas.List.{append-nil}
use Rattle.gv_grammar.specs.declared.symbols.Symbol.{Symbol}
use Rattle.gv_grammar.specs.declared.symbols.Symbol.TheVariants.{Name as N}
use Rattle.gv_grammar.specs.Derivation.{Tables, done}
use Rattle.gv_grammar.specs.Building.{Reduction, act_of}
use Rattle.gv_grammar.specs.Fragment.{Contains}
use Rattle.gv_grammar.specs.Text.{plain, opens}
use Rattle.gv_grammar.proofs.Spelling.{Reading, sv, rs, re}
use Rattle.gv_grammar.proofs.Containing.{ru_of, tk_of, op_of, ac_of, sole}
use Rattle.gv_termread.specs.declared.generated.term_table.TheConstants.{ACT_BINARY, ACT_CONSTANT, ACT_MAKER, ACT_NUMBER, ACT_OF_ONE, ACT_OF_THREE, ACT_OF_TWO, ACT_PAREN, ACT_UNARY, ACT_VARIABLE, CLASS_AND_AND, CLASS_COMMA, CLASS_L_PAREN, CLASS_OR_OR, CLASS_R_PAREN, NAME_COMPARISON, NAME_COMPARISON_TAIL, NAME_CONJUNCTION, NAME_CONJUNCTION_TAIL, NAME_DISJUNCTION, NAME_DISJUNCTION_TAIL, NAME_PRIM, NAME_PRODUCT, NAME_PRODUCT_TAIL, NAME_SUM, NAME_SUM_TAIL, NAME_UNARY, NAME_WHOLE, RULE_COMPARISON_FIRST, RULE_COMPARISON_TAIL_END, RULE_COMPARISON_TAIL_MORE, RULE_CONJUNCTION_FIRST, RULE_CONJUNCTION_TAIL_END, RULE_CONJUNCTION_TAIL_MORE, RULE_DISJUNCTION_FIRST, RULE_DISJUNCTION_TAIL_END, RULE_DISJUNCTION_TAIL_MORE, RULE_MAKER_REST_CALL, RULE_MAKER_REST_NAME, RULE_ONE_REST_CALL, RULE_ONE_REST_NAME, RULE_PRIM_CONSTANT, RULE_PRIM_FREE, RULE_PRIM_MAKER, RULE_PRIM_NUMBER, RULE_PRIM_ONE, RULE_PRIM_PAREN, RULE_PRIM_THREE, RULE_PRIM_TWO, RULE_PRODUCT_FIRST, RULE_PRODUCT_TAIL_END, RULE_PRODUCT_TAIL_MORE, RULE_SUM_FIRST, RULE_SUM_TAIL_END, RULE_SUM_TAIL_MORE, RULE_THREE_REST_CALL, RULE_THREE_REST_NAME, RULE_TWO_REST_CALL, RULE_TWO_REST_NAME, RULE_UNARY_PRIM, RULE_UNARY_SIGN, RULE_WHOLE_TERM, SET_ADDING, SET_AND_AND, SET_ANY_NUMBER, SET_COMMA, SET_COMPARING, SET_CONSTANT, SET_FREE, SET_INVERTING, SET_L_PAREN, SET_MAKER, SET_MULTIPLYING, SET_OF_ONE, SET_OF_THREE, SET_OF_TWO, SET_OR_OR, SET_R_PAREN}
use Rattle.gv_termread.specs.declared.generated.term_acts.Part.{Part}
use Rattle.gv_termread.specs.declared.generated.term_acts.Part.TheVariants.{Token as PToken, Term as PTerm}
use Rattle.gv_termread.specs.declared.placed.PlacedTerm.{PlacedTerm}
use Rattle.gv_termread.specs.TermFragment.{term_fragment}
use Rattle.gv_termread.specs.Language.{Tokens, Lexicon, IsTerm, term, IsDisjunction, conjunction, or, IsConjunction, comparison, and, IsComparison, sum, compare, IsSum, product, add, IsProduct, unary, multiply, IsUnary, prim, invert, IsPrim, number, constant, variable, paren, maker, one, two, three}

module _ {O : Type 0} {g : Tables} {acts : List (Reduction (Part O))} (w : Lexicon) (c : Contains g acts (term_fragment {O = O} w.text w.names w.numbers)) where
  abbrev Parts : Type 0
  Parts = List (Part O)

  -- a reading of a term
  abbrev pub Read : List Symbol → Tokens → ℕ → List ℕ → Parts → Option Parts → Type 0
  Read = Reading g (λ token. token.class) PToken (act_of acts)

  mutual
    pub term_reads : {n : ℕ} {x : PlacedTerm} {ts : Tokens} → IsTerm w n x ts → {s : List Symbol} {us : Tokens} {kept : List ℕ} {parts : Parts} {final : Option Parts}
        → Read s us n kept (PTerm x ∷ parts) final → Read (N NAME_WHOLE ∷ s) (ts ++ us) n kept parts final
    term_reads (term d) k = ru_of c RULE_WHOLE_TERM refl (sv (disjunction_reads d (ru_of c RULE_DISJUNCTION_TAIL_END refl (rs k))))

    disjunction_reads : {n m : ℕ} {x : PlacedTerm} {ts : Tokens} → IsDisjunction w n x m ts → {s : List Symbol} {us : Tokens} {kept : List ℕ} {parts : Parts} {final : Option Parts}
        → Read (N NAME_DISJUNCTION_TAIL ∷ s) us m kept (PTerm x ∷ parts) final → Read (N NAME_DISJUNCTION ∷ s) (ts ++ us) n kept parts final
    disjunction_reads (conjunction d) k = ru_of c RULE_DISJUNCTION_FIRST refl (conjunction_reads d (ru_of c RULE_CONJUNCTION_TAIL_END refl k))
    disjunction_reads (or {m = m} t {ts = ts} {us = vs} d i e) {us = us} k =
        re ts (opens m t ∷ vs) us (disjunction_reads d (ru_of c RULE_DISJUNCTION_TAIL_MORE refl (op_of c SET_OR_OR refl (sole CLASS_OR_OR i) (conjunction_reads e (ru_of c RULE_CONJUNCTION_TAIL_END refl (ac_of c ACT_BINARY refl k))))))

    conjunction_reads : {n m : ℕ} {x : PlacedTerm} {ts : Tokens} → IsConjunction w n x m ts → {s : List Symbol} {us : Tokens} {kept : List ℕ} {parts : Parts} {final : Option Parts}
        → Read (N NAME_CONJUNCTION_TAIL ∷ s) us m kept (PTerm x ∷ parts) final → Read (N NAME_CONJUNCTION ∷ s) (ts ++ us) n kept parts final
    conjunction_reads (comparison d) k = ru_of c RULE_CONJUNCTION_FIRST refl (comparison_reads d (ru_of c RULE_COMPARISON_TAIL_END refl k))
    conjunction_reads (and {m = m} t {ts = ts} {us = vs} d i e) {us = us} k =
        re ts (opens m t ∷ vs) us (conjunction_reads d (ru_of c RULE_CONJUNCTION_TAIL_MORE refl (op_of c SET_AND_AND refl (sole CLASS_AND_AND i) (comparison_reads e (ru_of c RULE_COMPARISON_TAIL_END refl (ac_of c ACT_BINARY refl k))))))

    comparison_reads : {n m : ℕ} {x : PlacedTerm} {ts : Tokens} → IsComparison w n x m ts → {s : List Symbol} {us : Tokens} {kept : List ℕ} {parts : Parts} {final : Option Parts}
        → Read (N NAME_COMPARISON_TAIL ∷ s) us m kept (PTerm x ∷ parts) final → Read (N NAME_COMPARISON ∷ s) (ts ++ us) n kept parts final
    comparison_reads (sum d) k = ru_of c RULE_COMPARISON_FIRST refl (sum_reads d (ru_of c RULE_SUM_TAIL_END refl k))
    comparison_reads (compare {m = m} t {ts = ts} {us = vs} d i e) {us = us} k =
        re ts (opens m t ∷ vs) us (comparison_reads d (ru_of c RULE_COMPARISON_TAIL_MORE refl (op_of c SET_COMPARING refl i (sum_reads e (ru_of c RULE_SUM_TAIL_END refl (ac_of c ACT_BINARY refl k))))))

    sum_reads : {n m : ℕ} {x : PlacedTerm} {ts : Tokens} → IsSum w n x m ts → {s : List Symbol} {us : Tokens} {kept : List ℕ} {parts : Parts} {final : Option Parts}
        → Read (N NAME_SUM_TAIL ∷ s) us m kept (PTerm x ∷ parts) final → Read (N NAME_SUM ∷ s) (ts ++ us) n kept parts final
    sum_reads (product d) k = ru_of c RULE_SUM_FIRST refl (product_reads d (ru_of c RULE_PRODUCT_TAIL_END refl k))
    sum_reads (add {m = m} t {ts = ts} {us = vs} d i e) {us = us} k =
        re ts (opens m t ∷ vs) us (sum_reads d (ru_of c RULE_SUM_TAIL_MORE refl (op_of c SET_ADDING refl i (product_reads e (ru_of c RULE_PRODUCT_TAIL_END refl (ac_of c ACT_BINARY refl k))))))

    product_reads : {n m : ℕ} {x : PlacedTerm} {ts : Tokens} → IsProduct w n x m ts → {s : List Symbol} {us : Tokens} {kept : List ℕ} {parts : Parts} {final : Option Parts}
        → Read (N NAME_PRODUCT_TAIL ∷ s) us m kept (PTerm x ∷ parts) final → Read (N NAME_PRODUCT ∷ s) (ts ++ us) n kept parts final
    product_reads (unary d) k = ru_of c RULE_PRODUCT_FIRST refl (unary_reads d k)
    product_reads (multiply {m = m} t {ts = ts} {us = vs} d i e) {us = us} k =
        re ts (opens m t ∷ vs) us (product_reads d (ru_of c RULE_PRODUCT_TAIL_MORE refl (op_of c SET_MULTIPLYING refl i (unary_reads e (ac_of c ACT_BINARY refl k)))))

    unary_reads : {n m : ℕ} {x : PlacedTerm} {ts : Tokens} → IsUnary w n x m ts → {s : List Symbol} {us : Tokens} {kept : List ℕ} {parts : Parts} {final : Option Parts}
        → Read s us m kept (PTerm x ∷ parts) final → Read (N NAME_UNARY ∷ s) (ts ++ us) n kept parts final
    unary_reads (prim d) k = ru_of c RULE_UNARY_PRIM refl (prim_reads d k)
    unary_reads (invert t i d) k = ru_of c RULE_UNARY_SIGN refl (op_of c SET_INVERTING refl i (unary_reads d (ac_of c ACT_UNARY refl k)))

    prim_reads : {n : ℕ} {x : PlacedTerm} {ts : Tokens} → IsPrim w n x ts → {s : List Symbol} {us : Tokens} {kept : List ℕ} {parts : Parts} {final : Option Parts}
        → Read s us n kept (PTerm x ∷ parts) final → Read (N NAME_PRIM ∷ s) (ts ++ us) n kept parts final
    prim_reads (number t i) k = ru_of c RULE_PRIM_NUMBER refl (tk_of c SET_ANY_NUMBER refl i (ac_of c ACT_NUMBER refl k))
    prim_reads (constant t i) k = ru_of c RULE_PRIM_CONSTANT refl (tk_of c SET_CONSTANT refl i (ac_of c ACT_CONSTANT refl k))
    prim_reads (variable t (inl i)) k = ru_of c RULE_PRIM_FREE refl (tk_of c SET_FREE refl i (ac_of c ACT_VARIABLE refl k))
    prim_reads (variable t (inr (inl i))) k = ru_of c RULE_PRIM_MAKER refl (tk_of c SET_MAKER refl i (ru_of c RULE_MAKER_REST_NAME refl (ac_of c ACT_VARIABLE refl k)))
    prim_reads (variable t (inr (inr (inl i)))) k = ru_of c RULE_PRIM_ONE refl (tk_of c SET_OF_ONE refl i (ru_of c RULE_ONE_REST_NAME refl (ac_of c ACT_VARIABLE refl k)))
    prim_reads (variable t (inr (inr (inr (inl i))))) k = ru_of c RULE_PRIM_TWO refl (tk_of c SET_OF_TWO refl i (ru_of c RULE_TWO_REST_NAME refl (ac_of c ACT_VARIABLE refl k)))
    prim_reads (variable t (inr (inr (inr (inr i))))) k = ru_of c RULE_PRIM_THREE refl (tk_of c SET_OF_THREE refl i (ru_of c RULE_THREE_REST_NAME refl (ac_of c ACT_VARIABLE refl k)))
    prim_reads (paren o z {ts = ts} i d l) {us = us} k =
        ru_of c RULE_PRIM_PAREN refl (sv (op_of c SET_L_PAREN refl (sole CLASS_L_PAREN i) (re ts (plain z ∷ []) us (term_reads d (tk_of c SET_R_PAREN refl (sole CLASS_R_PAREN l) (rs (ac_of c ACT_PAREN refl k)))))))
    prim_reads (maker f o j s z {ts = ts} h i g l d p) {us = us} k =
        ru_of c RULE_PRIM_MAKER refl (tk_of c SET_MAKER refl h (ru_of c RULE_MAKER_REST_CALL refl (sv (op_of c SET_L_PAREN refl (sole CLASS_L_PAREN i) (tk_of c SET_ANY_NUMBER refl g (tk_of c SET_COMMA refl (sole CLASS_COMMA l)
        (re ts (plain z ∷ []) us (term_reads d (tk_of c SET_R_PAREN refl (sole CLASS_R_PAREN p) (rs (ac_of c ACT_MAKER refl k)))))))))))
    prim_reads (one f o z {ts = ts} h i d l) {us = us} k =
        ru_of c RULE_PRIM_ONE refl (tk_of c SET_OF_ONE refl h (ru_of c RULE_ONE_REST_CALL refl (sv (op_of c SET_L_PAREN refl (sole CLASS_L_PAREN i) (re ts (plain z ∷ []) us (term_reads d (tk_of c SET_R_PAREN refl (sole CLASS_R_PAREN l) (rs (ac_of c ACT_OF_ONE refl k)))))))))
    prim_reads {n} (two f o s z {ts = ts} {us = vs} h i d l e p) {us = us} k =
        re (plain f ∷ opens n o ∷ ts ++ plain s ∷ vs) (plain z ∷ []) us (re (plain f ∷ opens n o ∷ ts) (plain s ∷ vs) (plain z ∷ us)
        (ru_of c RULE_PRIM_TWO refl (tk_of c SET_OF_TWO refl h (ru_of c RULE_TWO_REST_CALL refl (sv (op_of c SET_L_PAREN refl (sole CLASS_L_PAREN i) (term_reads d (tk_of c SET_COMMA refl (sole CLASS_COMMA l)
        (term_reads e (tk_of c SET_R_PAREN refl (sole CLASS_R_PAREN p) (rs (ac_of c ACT_OF_TWO refl k))))))))))))
    prim_reads {n} (three f o s r z {ts = ts} {us = vs} {vs = ws} h i d l e p b q) {us = us} k =
        re ((plain f ∷ opens n o ∷ ts ++ plain s ∷ vs) ++ plain r ∷ ws) (plain z ∷ []) us (re (plain f ∷ opens n o ∷ ts ++ plain s ∷ vs) (plain r ∷ ws) (plain z ∷ us)
        (re (plain f ∷ opens n o ∷ ts) (plain s ∷ vs) (plain r ∷ (ws ++ plain z ∷ us))
        (ru_of c RULE_PRIM_THREE refl (tk_of c SET_OF_THREE refl h (ru_of c RULE_THREE_REST_CALL refl (sv (op_of c SET_L_PAREN refl (sole CLASS_L_PAREN i) (term_reads d (tk_of c SET_COMMA refl (sole CLASS_COMMA l)
        (term_reads e (tk_of c SET_COMMA refl (sole CLASS_COMMA p) (term_reads b (tk_of c SET_R_PAREN refl (sole CLASS_R_PAREN q) (rs (ac_of c ACT_OF_THREE refl k)))))))))))))))

  -- a whole term
  pub whole_term_reads : (level : ℕ) (x : PlacedTerm) (ts : Tokens) → IsTerm w level x ts → Read (N NAME_WHOLE ∷ []) ts level [] [] (Some (PTerm x ∷ []))
  whole_term_reads level x ts d =
      subst (λ (us : Tokens). Read (N NAME_WHOLE ∷ []) us level [] [] (Some (PTerm x ∷ []))) (append-nil ts)
      (term_reads d (record { steps = []; derives = done; runs = refl; levels = λ limit at. refl }))
