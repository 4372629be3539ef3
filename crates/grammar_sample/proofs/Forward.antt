-- What the published grammar spells is derived, and the steps build its tree.
use Rattle.std.proofs.Common.{◌≡◌, ℕ, ◌+◌, List, [], ◌∷◌, ◌++◌, Option, Some, None, refl, sym, ap, subst}
use Rattle.std.proofs.lemmas.List.{append-nil}
use Rattle.gv_grammar.specs.declared.symbols.Symbol.{Symbol}
use Rattle.gv_grammar.specs.declared.symbols.Symbol.TheVariants.{Token as T, Name as N, Act as A}
use Rattle.gv_grammar.specs.declared.levels.TheConstants.{OPEN, SAVE, RESTORE}
use Rattle.gv_grammar.specs.Derivation.{done}
use Rattle.gv_grammar.specs.Building.{act_of}
use Rattle.gv_grammar.specs.Text.{Placed, plain, opens}
use Rattle.gv_grammar.proofs.Spelling.{Reading, tk, tk_in, op, op_in, sv, rs, ac, ru, late_mark, late_rule, late_token, re, one_of_two}
use Rattle.grammar_sample.specs.declared.generated.sample_table.TheConstants.{CLASS_IDENT, CLASS_NUMBER, CLASS_FUNC, CLASS_L_PAREN, CLASS_R_PAREN, CLASS_COMMA, CLASS_SEMI, CLASS_ASSIGN, CLASS_DEFINE, CLASS_BANG, CLASS_PLUS, CLASS_MINUS, CLASS_STAR, CLASS_L_BRACE, CLASS_R_BRACE, CLASS_DOT, CLASS_IF, CLASS_ELSE, SET_ADD_OP, SET_ASSIGN_OP, SET_L_BRACE, SET_R_BRACE, SET_SEMI, SET_IF, SET_ELSE, SET_IDENT, SET_DOT, SET_L_PAREN, SET_R_PAREN, SET_BANG, SET_STAR, SET_NUMBER, SET_FUNC, SET_COMMA, NAME_BLOCK, NAME_STMTS, NAME_AFTER, NAME_STMT, NAME_BRANCH_REST, NAME_OTHERWISE, NAME_SIMPLE, NAME_DOTS, NAME_SPOT, NAME_RIGHT, NAME_RIGHT_DOTS, NAME_RIGHT_SPOT, NAME_SUM, NAME_SUM_TAIL, NAME_PRODUCT, NAME_PRODUCT_TAIL, NAME_UNARY, NAME_PRIM, NAME_CLOSED, NAME_SELECTS, NAME_ARGS, NAME_MORE_ARGS, ACT_BEGIN, ACT_BLOCK, ACT_ADD, ACT_SEPARATED, ACT_NESTED, ACT_IF, ACT_IF_ELSE, ACT_HEAD, ACT_NUMBER, ACT_NONE, ACT_APPLY, ACT_PAREN, ACT_MEMBER, ACT_MORE, ACT_CALL, ACT_CALLED, ACT_ASSIGN, ACT_NOT, ACT_VALUE, ACT_CALL_VALUE, ACT_OPERAND, ACT_BINARY, ACT_NAME, ACT_SELECT, ACT_FIRST, ACT_NEXT, RULE_BLOCK_BRACES, RULE_STMTS_SOME, RULE_STMTS_NONE, RULE_AFTER_MORE, RULE_AFTER_END, RULE_STMT_SIMPLE, RULE_STMT_BLOCK, RULE_STMT_BRANCH, RULE_BRANCH_CONDITION, RULE_BRANCH_REST_BODY, RULE_OTHERWISE_OTHER, RULE_OTHERWISE_NONE, RULE_OTHER_BLOCK, RULE_OTHER_BRANCH, RULE_SIMPLE_NAME, RULE_SIMPLE_CLOSED, RULE_DOTS_MEMBER, RULE_SPOT_MEMBER, RULE_SPOT_CALL, RULE_SPOT_ASSIGN, RULE_RIGHT_NOT, RULE_RIGHT_CLOSED, RULE_RIGHT_NAME, RULE_RIGHT_DOTS_MEMBER, RULE_RIGHT_DOTS_VALUE, RULE_RIGHT_SPOT_MEMBER, RULE_RIGHT_SPOT_CALL, RULE_RIGHT_SPOT_VALUE, RULE_SUM_PRODUCT, RULE_SUM_TAIL_MORE, RULE_SUM_TAIL_END, RULE_PRODUCT_UNARY, RULE_PRODUCT_TAIL_MORE, RULE_PRODUCT_TAIL_END, RULE_UNARY_NOT, RULE_UNARY_PRIM, RULE_PRIM_CLOSED, RULE_PRIM_NAME, RULE_CLOSED_NUMBER, RULE_CLOSED_APPLY, RULE_CLOSED_PAREN, RULE_SELECTS_MORE, RULE_SELECTS_END, RULE_ARGS_SOME, RULE_ARGS_NONE, RULE_MORE_ARGS_MORE, RULE_MORE_ARGS_END}
use Rattle.grammar_sample.specs.declared.generated.sample_acts.Part.{Part}
use Rattle.grammar_sample.specs.declared.generated.sample_acts.Part.TheVariants.{Token as PToken, Expr as PExpr, Args as PArgs, Head as PHead, Call as PCall, Right as PRight, Stmt as PStmt, Stmts as PStmts}
use Rattle.grammar_sample.specs.declared.tree.Token.{Token}
use Rattle.grammar_sample.specs.declared.tree.Expr.{Expr}
use Rattle.grammar_sample.specs.declared.tree.Expr.TheVariants.{Select}
use Rattle.grammar_sample.specs.declared.tree.Call.{Call}
use Rattle.grammar_sample.specs.declared.tree.Left.{Left}
use Rattle.grammar_sample.specs.declared.tree.Right.{Right}
use Rattle.grammar_sample.specs.declared.tree.Stmt.{Stmt}
use Rattle.grammar_sample.specs.Tree.{named_as, left_as}
use Rattle.grammar_sample.specs.SampleTable.{sample_tables}
use Rattle.grammar_sample.specs.SampleActs.{sample_acts}
use Rattle.grammar_sample.specs.Language.{Is, IsPrim, number, name, apply, paren, select, IsUnary, not, prim, IsProduct, unary, times, IsSum, product, plus, IsArgs, no_args, some_args, IsList, one, more, no_receiver, receiver, IsCall, call, IsLeft, variable, field, IsRight, value, result, IsStmt, assign, called, block, branch, IsBranch, only, otherwise, chain, IsBlock, IsExpression, expression, braces, IsStmts, no_stmts, unclosed, closed, IsItems, first, next}

abbrev Parts : Type 0
Parts = List Part

-- a reading of the sample language
abbrev pub Read : List Symbol → List (Placed Token) → ℕ → List ℕ → Parts → Option Parts → Type 0
Read = Reading sample_tables (λ token. token.class) PToken (act_of sample_acts)

-- a call's list regrouped
call_grouped : {ss : List Symbol} {n : ℕ} (m l : ℕ) {kept : List ℕ} {parts : Parts} {final : Option Parts} (dot x o c : Token) (ts vs us : List (Placed Token))
    → Read ss (ts ++ (opens m dot ∷ plain x ∷ opens l o ∷ (vs ++ plain c ∷ us))) n kept parts final
    → Read ss ((((ts ++ opens m dot ∷ []) ++ (plain x ∷ opens l o ∷ vs)) ++ plain c ∷ []) ++ us) n kept parts final
call_grouped m l dot x o c ts vs us r =
    re ((ts ++ opens m dot ∷ []) ++ (plain x ∷ opens l o ∷ vs)) (plain c ∷ []) us (re (ts ++ opens m dot ∷ []) (plain x ∷ opens l o ∷ vs) (plain c ∷ us) (re ts (opens m dot ∷ []) (plain x ∷ opens l o ∷ (vs ++ plain c ∷ us)) r))

mutual
  unary_reads : {n m : ℕ} {e : Expr} {ts : List (Placed Token)} → IsUnary n e m ts → {s : List Symbol} {us : List (Placed Token)} {kept : List ℕ} {parts : Parts} {final : Option Parts}
      → Read s us m kept (PExpr e ∷ parts) final → Read (N NAME_UNARY ∷ s) (ts ++ us) n kept parts final
  unary_reads (not t i d) k = ru RULE_UNARY_NOT refl (op SET_BANG CLASS_BANG i refl (unary_reads d (ac ACT_NOT refl k)))
  unary_reads (prim d) k = ru RULE_UNARY_PRIM refl (prim_reads d (ru RULE_SELECTS_END refl k))

  prim_reads : {n m : ℕ} {e : Expr} {ts : List (Placed Token)} → IsPrim n e m ts → {s : List Symbol} {us : List (Placed Token)} {kept : List ℕ} {parts : Parts} {final : Option Parts}
      → Read (N NAME_SELECTS ∷ s) us m kept (PExpr e ∷ parts) final → Read (N NAME_PRIM ∷ s) (ts ++ us) n kept parts final
  prim_reads (number t i) k = ru RULE_PRIM_CLOSED refl (ru RULE_CLOSED_NUMBER refl (tk SET_NUMBER CLASS_NUMBER i refl (ac ACT_NUMBER refl k)))
  prim_reads (name t i) k = ru RULE_PRIM_NAME refl (tk SET_IDENT CLASS_IDENT i refl (ac ACT_NAME refl k))
  prim_reads (apply f o c {ts = ts} i j d l) {us = us} k =
      ru RULE_PRIM_CLOSED refl (ru RULE_CLOSED_APPLY refl (tk SET_FUNC CLASS_FUNC i refl (sv (op SET_L_PAREN CLASS_L_PAREN j refl (ac ACT_NONE refl (re ts (plain c ∷ []) us (args_reads d (tk SET_R_PAREN CLASS_R_PAREN l refl (rs (ac ACT_APPLY refl k))))))))))
  prim_reads (paren o c {ts = ts} i d l) {us = us} k =
      ru RULE_PRIM_CLOSED refl (ru RULE_CLOSED_PAREN refl (sv (op SET_L_PAREN CLASS_L_PAREN i refl (re ts (plain c ∷ []) us (sum_reads d (ru RULE_SUM_TAIL_END refl (tk SET_R_PAREN CLASS_R_PAREN l refl (rs (ac ACT_PAREN refl k)))))))))
  prim_reads (select {m = m} d x {ts = ts} p i j) {us = us} k =
      re ts (opens m d ∷ plain x ∷ []) us (prim_reads p (ru RULE_SELECTS_MORE refl (op SET_DOT CLASS_DOT i refl (tk SET_IDENT CLASS_IDENT j refl (ac ACT_SELECT refl k)))))

  product_reads : {n m : ℕ} {e : Expr} {ts : List (Placed Token)} → IsProduct n e m ts → {s : List Symbol} {us : List (Placed Token)} {kept : List ℕ} {parts : Parts} {final : Option Parts}
      → Read (N NAME_PRODUCT_TAIL ∷ s) us m kept (PExpr e ∷ parts) final → Read (N NAME_PRODUCT ∷ s) (ts ++ us) n kept parts final
  product_reads (unary d) k = ru RULE_PRODUCT_UNARY refl (unary_reads d k)
  product_reads (times {m = m} t {ts = ts} {us = vs} d i e) {us = us} k =
      re ts (opens m t ∷ vs) us (product_reads d (ru RULE_PRODUCT_TAIL_MORE refl (op SET_STAR CLASS_STAR i refl (unary_reads e (ac ACT_BINARY refl k)))))

  sum_reads : {n m : ℕ} {e : Expr} {ts : List (Placed Token)} → IsSum n e m ts → {s : List Symbol} {us : List (Placed Token)} {kept : List ℕ} {parts : Parts} {final : Option Parts}
      → Read (N NAME_SUM_TAIL ∷ s) us m kept (PExpr e ∷ parts) final → Read (N NAME_SUM ∷ s) (ts ++ us) n kept parts final
  sum_reads (product d) k = ru RULE_SUM_PRODUCT refl (product_reads d (ru RULE_PRODUCT_TAIL_END refl k))
  sum_reads (plus {m = m} t {ts = ts} {us = vs} d i e) {us = us} k =
      re ts (opens m t ∷ vs) us (sum_reads d (ru RULE_SUM_TAIL_MORE refl (op_in SET_ADD_OP (one_of_two sample_tables SET_ADD_OP CLASS_PLUS CLASS_MINUS t.class refl refl i) (product_reads e (ru RULE_PRODUCT_TAIL_END refl (ac ACT_BINARY refl k))))))

  args_reads : {n : ℕ} {es : List Expr} {ts : List (Placed Token)} → IsArgs n es ts → {s : List Symbol} {us : List (Placed Token)} {kept : List ℕ} {parts : Parts} {final : Option Parts}
      → Read s us n kept (PArgs es ∷ parts) final → Read (N NAME_ARGS ∷ s) (ts ++ us) n kept (PArgs [] ∷ parts) final
  args_reads no_args k = ru RULE_ARGS_NONE refl k
  args_reads (some_args d) k = list_reads d (ru RULE_MORE_ARGS_END refl k)

  list_reads : {n : ℕ} {es : List Expr} {ts : List (Placed Token)} → IsList n es ts → {s : List Symbol} {us : List (Placed Token)} {kept : List ℕ} {parts : Parts} {final : Option Parts}
      → Read (N NAME_MORE_ARGS ∷ s) us n kept (PArgs es ∷ parts) final → Read (N NAME_ARGS ∷ s) (ts ++ us) n kept (PArgs [] ∷ parts) final
  list_reads (one d) k = ru RULE_ARGS_SOME refl (sv (sum_reads d (ru RULE_SUM_TAIL_END refl (rs (ac ACT_FIRST refl k)))))
  list_reads (more t {ts = ts} {us = vs} d i e) {us = us} k =
      re ts (plain t ∷ vs) us (list_reads d (ru RULE_MORE_ARGS_MORE refl (tk SET_COMMA CLASS_COMMA i refl (sv (sum_reads e (ru RULE_SUM_TAIL_END refl (rs (ac ACT_NEXT refl k))))))))

-- What a prim leaves in front of a `.`, a `(`, an `=` or an operator.
record Before (dots spot : ℕ) (e : Expr) (s : List Symbol) (us : List (Placed Token)) (n : ℕ) (kept : List ℕ) (parts : Parts) (final : Option Parts) : Type 0 where
  at_dots : Read (N dots ∷ s) us n kept (PExpr e ∷ parts) final
  at_spot : (of : Option Expr) (name : ℕ) → named_as of name ≡ e → Read (N spot ∷ s) us n kept (PHead (record { of = of; name = name }) ∷ parts) final

-- A name of the grammar whose rules begin so, in a statement or on a right side, with the names that go on from
-- there, and the act that finishes a call.
record Place (begun dots spot finish : ℕ) : Type 0 where
  by_closed : (s : List Symbol) (us : List (Placed Token)) (n : ℕ) (kept : List ℕ) (parts : Parts) (final : Option Parts)
      → Read (N NAME_CLOSED ∷ N dots ∷ s) us n kept parts final → Read (N begun ∷ s) us n kept parts final
  by_name : (s : List Symbol) (us : List (Placed Token)) (n : ℕ) (kept : List ℕ) (parts : Parts) (final : Option Parts)
      → Read (T SET_IDENT ∷ A ACT_HEAD ∷ N spot ∷ s) us n kept parts final → Read (N begun ∷ s) us n kept parts final
  by_dot : (s : List Symbol) (us : List (Placed Token)) (n : ℕ) (kept : List ℕ) (parts : Parts) (final : Option Parts)
      → Read (A OPEN ∷ T SET_DOT ∷ T SET_IDENT ∷ A ACT_MEMBER ∷ N spot ∷ s) us n kept parts final → Read (N dots ∷ s) us n kept parts final
  by_more : (s : List Symbol) (us : List (Placed Token)) (n : ℕ) (kept : List ℕ) (parts : Parts) (final : Option Parts)
      → Read (A OPEN ∷ T SET_DOT ∷ T SET_IDENT ∷ A ACT_MORE ∷ N spot ∷ s) us n kept parts final → Read (N spot ∷ s) us n kept parts final
  by_call : (s : List Symbol) (us : List (Placed Token)) (n : ℕ) (kept : List ℕ) (parts : Parts) (final : Option Parts)
      → Read (A SAVE ∷ A OPEN ∷ T SET_L_PAREN ∷ A ACT_NONE ∷ N NAME_ARGS ∷ T SET_R_PAREN ∷ A RESTORE ∷ A ACT_CALL ∷ A finish ∷ s) us n kept parts final → Read (N spot ∷ s) us n kept parts final

on_right : Place NAME_RIGHT NAME_RIGHT_DOTS NAME_RIGHT_SPOT ACT_CALL_VALUE
on_right = record {
  by_closed = λ s us n kept parts final k. ru RULE_RIGHT_CLOSED refl k;
  by_name = λ s us n kept parts final k. ru RULE_RIGHT_NAME refl k;
  by_dot = λ s us n kept parts final k. ru RULE_RIGHT_DOTS_MEMBER refl k;
  by_more = λ s us n kept parts final k. ru RULE_RIGHT_SPOT_MEMBER refl k;
  by_call = λ s us n kept parts final k. ru RULE_RIGHT_SPOT_CALL refl k;
}

in_statement : Place NAME_SIMPLE NAME_DOTS NAME_SPOT ACT_CALLED
in_statement = record {
  by_closed = λ s us n kept parts final k. ru RULE_SIMPLE_CLOSED refl k;
  by_name = λ s us n kept parts final k. ru RULE_SIMPLE_NAME refl k;
  by_dot = λ s us n kept parts final k. ru RULE_DOTS_MEMBER refl k;
  by_more = λ s us n kept parts final k. ru RULE_SPOT_MEMBER refl k;
  by_call = λ s us n kept parts final k. ru RULE_SPOT_CALL refl k;
}

-- a `.` and a name behind a prim
dotted : {begun dots spot finish : ℕ} → Place begun dots spot finish → {m : ℕ} (d x : Token) {e : Expr} → Is CLASS_DOT d → Is CLASS_IDENT x → {s : List Symbol} {us : List (Placed Token)} {kept : List ℕ} {parts : Parts} {final : Option Parts}
    → ((of : Expr) → of ≡ e → Read (N spot ∷ s) us (m + 1) kept (PHead (record { of = Some of; name = x.value }) ∷ parts) final) → Before dots spot e s (opens m d ∷ plain x ∷ us) m kept parts final
dotted p d x {e = e} i j k = record {
  at_dots = p.by_dot _ _ _ _ _ _ (op SET_DOT CLASS_DOT i refl (tk SET_IDENT CLASS_IDENT j refl (ac ACT_MEMBER refl (k e refl))));
  at_spot = λ of name q. p.by_more _ _ _ _ _ _ (op SET_DOT CLASS_DOT i refl (tk SET_IDENT CLASS_IDENT j refl (ac ACT_MORE refl (k (named_as of name) q))));
}

prim_before : {begun dots spot finish : ℕ} → Place begun dots spot finish → {n m : ℕ} {e : Expr} {ts : List (Placed Token)} → IsPrim n e m ts → {s : List Symbol} {us : List (Placed Token)} {kept : List ℕ} {parts : Parts} {final : Option Parts}
    → Before dots spot e s us m kept parts final → Read (N begun ∷ s) (ts ++ us) n kept parts final
prim_before p (number t i) k = p.by_closed _ _ _ _ _ _ (ru RULE_CLOSED_NUMBER refl (tk SET_NUMBER CLASS_NUMBER i refl (ac ACT_NUMBER refl k.at_dots)))
prim_before p (name t i) k = p.by_name _ _ _ _ _ _ (tk SET_IDENT CLASS_IDENT i refl (ac ACT_HEAD refl (k.at_spot None t.value refl)))
prim_before p (apply f o c {ts = ts} i j d l) {us = us} k =
    p.by_closed _ _ _ _ _ _ (ru RULE_CLOSED_APPLY refl (tk SET_FUNC CLASS_FUNC i refl (sv (op SET_L_PAREN CLASS_L_PAREN j refl (ac ACT_NONE refl (re ts (plain c ∷ []) us (args_reads d (tk SET_R_PAREN CLASS_R_PAREN l refl (rs (ac ACT_APPLY refl k.at_dots))))))))))
prim_before p (paren o c {ts = ts} i d l) {us = us} k =
    p.by_closed _ _ _ _ _ _ (ru RULE_CLOSED_PAREN refl (sv (op SET_L_PAREN CLASS_L_PAREN i refl (re ts (plain c ∷ []) us (sum_reads d (ru RULE_SUM_TAIL_END refl (tk SET_R_PAREN CLASS_R_PAREN l refl (rs (ac ACT_PAREN refl k.at_dots)))))))))
prim_before p (select {m = m} d x {e = e} {ts = ts} q i j) {us = us} k =
    re ts (opens m d ∷ plain x ∷ []) us (prim_before p q (dotted p d x i j (λ of r. k.at_spot (Some of) x.value (ap (λ (y : Expr). Select y x.value) r))))

-- a product on the right side
right_product : {n m : ℕ} {e : Expr} {ts : List (Placed Token)} → IsProduct n e m ts → {s : List Symbol} {us : List (Placed Token)} {kept : List ℕ} {parts : Parts} {final : Option Parts}
    → Read (N NAME_PRODUCT_TAIL ∷ N NAME_SUM_TAIL ∷ A ACT_VALUE ∷ s) us m kept (PExpr e ∷ parts) final → Read (N NAME_RIGHT ∷ s) (ts ++ us) n kept parts final
right_product (unary (not t i d)) k = ru RULE_RIGHT_NOT refl (op SET_BANG CLASS_BANG i refl (unary_reads d (ac ACT_NOT refl k)))
right_product {m = m} (unary (prim d)) {s = s} {us = us} {kept = kept} {parts = parts} {final = final} k = prim_before on_right d (record {
  at_dots = ru RULE_RIGHT_DOTS_VALUE refl k;
  at_spot = λ of name q. ru RULE_RIGHT_SPOT_VALUE refl (ac ACT_OPERAND refl (subst (λ (x : Expr). Read (N NAME_PRODUCT_TAIL ∷ N NAME_SUM_TAIL ∷ A ACT_VALUE ∷ s) us m kept (PExpr x ∷ parts) final) (sym q) k));
})
right_product (times {m = m} t {ts = ts} {us = vs} d i e) {us = us} k =
    re ts (opens m t ∷ vs) us (right_product d (ru RULE_PRODUCT_TAIL_MORE refl (op SET_STAR CLASS_STAR i refl (unary_reads e (ac ACT_BINARY refl k)))))

-- a sum on the right side
right_sum : {n m : ℕ} {e : Expr} {ts : List (Placed Token)} → IsSum n e m ts → {s : List Symbol} {us : List (Placed Token)} {kept : List ℕ} {parts : Parts} {final : Option Parts}
    → Read (N NAME_SUM_TAIL ∷ A ACT_VALUE ∷ s) us m kept (PExpr e ∷ parts) final → Read (N NAME_RIGHT ∷ s) (ts ++ us) n kept parts final
right_sum (product d) k = right_product d (ru RULE_PRODUCT_TAIL_END refl k)
right_sum (plus {m = m} t {ts = ts} {us = vs} d i e) {us = us} k =
    re ts (opens m t ∷ vs) us (right_sum d (ru RULE_SUM_TAIL_MORE refl (op_in SET_ADD_OP (one_of_two sample_tables SET_ADD_OP CLASS_PLUS CLASS_MINUS t.class refl refl i) (product_reads e (ru RULE_PRODUCT_TAIL_END refl (ac ACT_BINARY refl k))))))

-- a call, on the right side or in a statement
call_reads : {begun dots spot finish : ℕ} → Place begun dots spot finish → {n : ℕ} {r : Call} {ts : List (Placed Token)} → IsCall n r ts → {s : List Symbol} {us : List (Placed Token)} {kept : List ℕ} {parts : Parts} {final : Option Parts}
    → ((m : ℕ) → Read (A finish ∷ s) us m kept (PCall r ∷ parts) final) → Read (N begun ∷ s) (ts ++ us) n kept parts final
call_reads p (call {m = m} x o c {us = vs} no_receiver i j d l) {us = us} k =
    p.by_name _ _ _ _ _ _ (tk SET_IDENT CLASS_IDENT i refl (ac ACT_HEAD refl (p.by_call _ _ _ _ _ _ (sv (op SET_L_PAREN CLASS_L_PAREN j refl (ac ACT_NONE refl
    (re vs (plain c ∷ []) us (args_reads d (tk SET_R_PAREN CLASS_R_PAREN l refl (rs (ac ACT_CALL refl (k m))))))))))))
call_reads {finish = finish} p (call x o c {es = es} {us = vs} (receiver {m = m} dot {e = e} {ts = ts} q h) i j d l) {s = s} {us = us} {kept = kept} {parts = parts} {final = final} k =
    call_grouped m (m + 1) dot x o c ts vs us (prim_before p q (dotted p dot x h i (λ of r. p.by_call _ _ _ _ _ _ (sv (op SET_L_PAREN CLASS_L_PAREN j refl (ac ACT_NONE refl
    (args_reads d (tk SET_R_PAREN CLASS_R_PAREN l refl (rs (ac ACT_CALL refl (last of r)))))))))))
  where
    last : (of : Expr) → of ≡ e → Read (A finish ∷ s) us (m + 1) kept (PCall (record { receiver = Some of; name = x.value; arguments = es }) ∷ parts) final
    last of r = subst (λ (y : Expr). Read (A finish ∷ s) us (m + 1) kept (PCall (record { receiver = Some y; name = x.value; arguments = es }) ∷ parts) final) (sym r) (k (m + 1))

right_reads : {n : ℕ} {r : Right} {ts : List (Placed Token)} → IsRight n r ts → {s : List Symbol} {us : List (Placed Token)} {kept : List ℕ} {parts : Parts} {final : Option Parts}
    → ((m : ℕ) → Read s us m kept (PRight r ∷ parts) final) → Read (N NAME_RIGHT ∷ s) (ts ++ us) n kept parts final
right_reads (value {m = m} d) k = right_sum d (ru RULE_SUM_TAIL_END refl (ac ACT_VALUE refl (k m)))
right_reads (result d) k = call_reads on_right d (λ m. ac ACT_CALL_VALUE refl (k m))

left_reads : {n : ℕ} {l : Left} {ts : List (Placed Token)} → IsLeft n l ts → {s : List Symbol} {us : List (Placed Token)} {kept : List ℕ} {parts : Parts} {final : Option Parts}
    → ((m : ℕ) (of : Option Expr) (name : ℕ) → left_as of name ≡ l → Read (N NAME_SPOT ∷ s) us m kept (PHead (record { of = of; name = name }) ∷ parts) final) → Read (N NAME_SIMPLE ∷ s) (ts ++ us) n kept parts final
left_reads (variable {n = n} x i) k = ru RULE_SIMPLE_NAME refl (tk SET_IDENT CLASS_IDENT i refl (ac ACT_HEAD refl (k n None x.value refl)))
left_reads (field {m = m} d x {e = e} {ts = ts} p i j) {us = us} k =
    re ts (opens m d ∷ plain x ∷ []) us (prim_before in_statement p (dotted in_statement d x i j (λ of r. k (m + 1) (Some of) x.value (ap (λ (y : Expr). Left.Field y x.value) r))))

mutual
  stmt_reads : {n : ℕ} {r : Stmt} {ts : List (Placed Token)} → IsStmt n r ts → {s : List Symbol} {us : List (Placed Token)} {kept : List ℕ} {parts : Parts} {final : Option Parts}
      → Read s us n kept (PStmt r ∷ parts) final → Read (N NAME_STMT ∷ s) (ts ++ us) n kept parts final
  stmt_reads {n} (assign t {l = l} {r = r} {ts = ts} {us = vs} d i e) {s = s} {us = us} {kept = kept} {parts = parts} {final = final} k =
      re ts (plain t ∷ vs) us (ru RULE_STMT_SIMPLE refl (sv (left_reads d (λ m of name q. ru RULE_SPOT_ASSIGN refl (rs (sv (tk_in SET_ASSIGN_OP (one_of_two sample_tables SET_ASSIGN_OP CLASS_ASSIGN CLASS_DEFINE t.class refl refl i)
      (right_reads e (λ m'. ac ACT_ASSIGN refl (rs (subst (λ (x : Left). Read s us n kept (PStmt (Stmt.Assign x t r) ∷ parts) final) (sym q) k)))))))))))
  stmt_reads (called d) k = ru RULE_STMT_SIMPLE refl (sv (call_reads in_statement d (λ m. ac ACT_CALLED refl (rs k))))
  stmt_reads (block d) k = ru RULE_STMT_BLOCK refl (block_reads d (ac ACT_NESTED refl k))
  stmt_reads {n} (branch d) {s = s} {us = us} {kept = kept} {parts = parts} {final = final} k =
      let (i, rest, c, e, r) = branch_reads d (λ m. rs {m = m} k) in
      subst (λ (ts : List (Placed Token)). Read (N NAME_STMT ∷ s) (ts ++ us) n kept parts final) (sym e) (ru RULE_STMT_BRANCH refl (sv (ru RULE_BRANCH_CONDITION refl (tk SET_IF CLASS_IF c refl r))))

  -- what stands behind the `if`
  branch_reads : {n : ℕ} {r : Stmt} {ts : List (Placed Token)} → IsBranch n r ts → {s : List Symbol} {us : List (Placed Token)} {kept : List ℕ} {parts : Parts} {final : Option Parts}
      → ((m : ℕ) → Read s us m kept (PStmt r ∷ parts) final)
      → (i : Token) × (rest : List (Placed Token)) × Is CLASS_IF i × (ts ≡ plain i ∷ rest) × Read (N NAME_BRANCH_REST ∷ s) (rest ++ us) n kept (PToken i ∷ parts) final
  branch_reads {n} (only i {ts = ts} {us = vs} c d b) {us = us} k = (
    i,
    ts ++ vs,
    c,
    refl,
    re ts vs us (ru RULE_BRANCH_REST_BODY refl (sv (sum_reads d (ru RULE_SUM_TAIL_END refl (rs (block_reads b (ru RULE_OTHERWISE_NONE refl (ac ACT_IF refl (k n))))))))),
  )
  branch_reads {n} (otherwise i l {ts = ts} {us = vs} {vs = ws} c d b h e) {us = us} k = (
    i,
    (ts ++ vs) ++ plain l ∷ ws,
    c,
    refl,
    re (ts ++ vs) (plain l ∷ ws) us (re ts vs (plain l ∷ (ws ++ us)) (ru RULE_BRANCH_REST_BODY refl (sv (sum_reads d (ru RULE_SUM_TAIL_END refl (rs (block_reads b
        (ru RULE_OTHERWISE_OTHER refl (tk SET_ELSE CLASS_ELSE h refl (ru RULE_OTHER_BLOCK refl (block_reads e (ac ACT_NESTED refl (ac ACT_IF_ELSE refl (k n)))))))))))))),
  )
  branch_reads {n} (chain i l {e = x} {ss = ss} {ts = ts} {us = vs} {vs = ws} c d b h e) {s = s} {us = us} {kept = kept} {parts = parts} {final = final} k =
      let (j, rest, c', q, r) = branch_reads e (λ m. ac ACT_IF_ELSE refl (k m)) in
      let other : Read (N NAME_OTHERWISE ∷ s) (opens n l ∷ (ws ++ us)) n kept (PStmts ss ∷ PExpr x ∷ PToken i ∷ parts) final =
      subst (λ (ps : List (Placed Token)). Read (N NAME_OTHERWISE ∷ s) (opens n l ∷ (ps ++ us)) n kept (PStmts ss ∷ PExpr x ∷ PToken i ∷ parts) final) (sym q)
      (ru RULE_OTHERWISE_OTHER refl (late_token SET_ELSE CLASS_ELSE h refl (late_rule RULE_OTHER_BRANCH refl (late_mark SET_IF CLASS_IF c' refl r)))) in (
        i,
        (ts ++ vs) ++ opens n l ∷ ws,
        c,
        refl,
        re (ts ++ vs) (opens n l ∷ ws) us (re ts vs (opens n l ∷ (ws ++ us)) (ru RULE_BRANCH_REST_BODY refl (sv (sum_reads d (ru RULE_SUM_TAIL_END refl (rs (block_reads b other))))))),
      )

  block_reads : {n : ℕ} {ss : List Stmt} {ts : List (Placed Token)} → IsBlock n ss ts → {s : List Symbol} {us : List (Placed Token)} {kept : List ℕ} {parts : Parts} {final : Option Parts}
      → Read s us n kept (PStmts ss ∷ parts) final → Read (N NAME_BLOCK ∷ s) (ts ++ us) n kept parts final
  block_reads (braces o c {ts = ts} i d j) {us = us} k =
      ru RULE_BLOCK_BRACES refl (sv (op SET_L_BRACE CLASS_L_BRACE i refl (ac ACT_BEGIN refl (re ts (plain c ∷ []) us (stmts_read d (tk SET_R_BRACE CLASS_R_BRACE j refl (rs (ac ACT_BLOCK refl k))))))))

  stmts_read : {n : ℕ} {ss : List Stmt} {ts : List (Placed Token)} → IsStmts n ss ts → {s : List Symbol} {us : List (Placed Token)} {kept : List ℕ} {parts : Parts} {final : Option Parts}
      → Read s us n kept (PStmts ss ∷ parts) final → Read (N NAME_STMTS ∷ s) (ts ++ us) n kept (PStmts [] ∷ parts) final
  stmts_read no_stmts k = ru RULE_STMTS_NONE refl k
  stmts_read (unclosed d) k = items_read d (ru RULE_AFTER_END refl k)
  stmts_read (closed t {ts = ts} d i) {us = us} k =
      re ts (plain t ∷ []) us (items_read d (ru RULE_AFTER_MORE refl (tk SET_SEMI CLASS_SEMI i refl (ac ACT_SEPARATED refl (ru RULE_STMTS_NONE refl k)))))

  items_read : {n : ℕ} {ss : List Stmt} {ts : List (Placed Token)} → IsItems n ss ts → {s : List Symbol} {us : List (Placed Token)} {kept : List ℕ} {parts : Parts} {final : Option Parts}
      → Read (N NAME_AFTER ∷ s) us n kept (PStmts ss ∷ parts) final → Read (N NAME_STMTS ∷ s) (ts ++ us) n kept (PStmts [] ∷ parts) final
  items_read (first d) k = ru RULE_STMTS_SOME refl (stmt_reads d (ac ACT_ADD refl k))
  items_read (next t {ts = ts} {us = vs} d i e) {us = us} k =
      re ts (plain t ∷ vs) us (items_read d (ru RULE_AFTER_MORE refl (tk SET_SEMI CLASS_SEMI i refl (ac ACT_SEPARATED refl (ru RULE_STMTS_SOME refl (stmt_reads e (ac ACT_ADD refl k)))))))

-- a whole block
pub whole_reads : (level : ℕ) (ss : List Stmt) (ts : List (Placed Token)) → IsBlock level ss ts → Read (N NAME_BLOCK ∷ []) ts level [] [] (Some (PStmts ss ∷ []))
whole_reads level ss ts d =
    subst (λ (us : List (Placed Token)). Read (N NAME_BLOCK ∷ []) us level [] [] (Some (PStmts ss ∷ []))) (append-nil ts)
    (block_reads d (record { steps = []; derives = done; runs = refl; levels = λ limit at. refl }))

-- an expression by itself
pub expression_reads : (level : ℕ) (e : Expr) (ts : List (Placed Token)) → IsExpression level e ts → Read (N NAME_SUM ∷ []) ts level [] [] (Some (PExpr e ∷ []))
expression_reads level e ts (expression d) =
    subst (λ (us : List (Placed Token)). Read (N NAME_SUM ∷ []) us level [] [] (Some (PExpr e ∷ []))) (append-nil ts)
    (sum_reads d (ru RULE_SUM_TAIL_END refl (record { steps = []; derives = done; runs = refl; levels = λ limit at. refl })))
