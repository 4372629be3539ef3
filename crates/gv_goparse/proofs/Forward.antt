-- What the published grammar spells is derived, and the steps build its tree: statements, declarations, packages.
use Rattle.std.proofs.Common.{◌≡◌, ℕ, Bool, true, false, List, [], ◌∷◌, ◌++◌, Option, Some, refl, sym, subst, append_assoc}
use Rattle.std.proofs.lemmas.List.{append-nil}
use Rattle.gv_grammar.specs.declared.symbols.Symbol.{Symbol}
use Rattle.gv_grammar.specs.declared.symbols.Symbol.TheVariants.{Token as T, Name as N, Act as A}
use Rattle.gv_grammar.specs.declared.levels.TheConstants.{OPEN, SAVE, RESTORE, OPEN_BEFORE}
use Rattle.gv_grammar.specs.Derivation.{done}
use Rattle.gv_grammar.specs.Text.{plain, opens}
use Rattle.gv_grammar.proofs.Spelling.{tk, tk_in, op, sv, rs, ac, ru, late_mark, late_rule, late_token}
use Rattle.gv_gosyntax.specs.declared.generated.gosyntax_table.TheConstants.{ACT_BLOCK, ACT_CONST, ACT_DECL, ACT_EMPTY, ACT_FILE, ACT_FOR, ACT_FOREVER, ACT_FUNC, ACT_GO, ACT_IF, ACT_IF_ELSE, ACT_IMPORT, ACT_IN_PARENS, ACT_JUMP, ACT_NAME, ACT_NESTED, ACT_NO_DECLS, ACT_NO_GROUPS, ACT_NO_IMPORTS, ACT_NO_NAMES, ACT_NO_PART, ACT_NO_RECEIVER, ACT_NO_RIGHTS, ACT_NO_STMTS, ACT_NO_TYPES, ACT_PART, ACT_PAST_RIGHTS, ACT_PAST_STMTS, ACT_PAST_TYPES, ACT_RECEIVER, ACT_RESULT, ACT_RETURN, ACT_RIGHT, ACT_SIMPLE, ACT_STMT, ACT_STRUCT, ACT_TYPE, ACT_TYPED_CONST, ACT_VALUE, ACT_VAR, ACT_VAR_VALUE, ACT_WHILE, CLASS_ASSIGN, CLASS_COMMA, CLASS_CONST, CLASS_ELSE, CLASS_FOR, CLASS_FUNC, CLASS_GO, CLASS_IF, CLASS_IMPORT, CLASS_L_BRACE, CLASS_L_PAREN, CLASS_PACKAGE, CLASS_RETURN, CLASS_R_BRACE, CLASS_R_PAREN, CLASS_SEMI, CLASS_STAR, CLASS_STRUCT, CLASS_TEXT, CLASS_TYPE, CLASS_UINT64, CLASS_VAR, NAME_AFTER_STMT, NAME_BRACES, NAME_CLAUSES, NAME_DECL, NAME_DECLS, NAME_FILE, NAME_HEADER, NAME_IF_REST, NAME_IMP, NAME_IMPORTS, NAME_LOOP_AFTER_STMT, NAME_LOOP_BRACES, NAME_LOOP_IF_REST, NAME_LOOP_OTHER, NAME_LOOP_OTHERWISE, NAME_LOOP_STMT, NAME_LOOP_STMTS, NAME_MORE_RETURNED, NAME_OTHER, NAME_OTHERWISE, NAME_PLAIN, NAME_POST_PART, NAME_RECEIVER, NAME_RESULTS, NAME_RETURNED, NAME_STMT, NAME_STMTS, NAME_WHOLE, RULE_AFTER_FIRST_CLAUSES, RULE_AFTER_STMT_END, RULE_AFTER_STMT_MORE, RULE_BRACES_BLOCK, RULE_CLAUSES_REST, RULE_CONST_REST_PLAIN, RULE_CONST_REST_TYPED, RULE_DECLS_END, RULE_DECLS_MORE, RULE_DECL_CONST, RULE_DECL_FUNC, RULE_DECL_STRUCT, RULE_FILE_WHOLE, RULE_HEADER_CLAUSES, RULE_HEADER_FOREVER, RULE_IF_REST_BODY, RULE_IMPORTS_END, RULE_IMPORTS_MORE, RULE_IMP_MANY, RULE_IMP_ONE, RULE_LOOP_AFTER_STMT_END, RULE_LOOP_AFTER_STMT_MORE, RULE_LOOP_BRACES_BLOCK, RULE_LOOP_IF_REST_BODY, RULE_LOOP_OTHERWISE_ELSE, RULE_LOOP_OTHERWISE_NONE, RULE_LOOP_OTHER_BLOCK, RULE_LOOP_OTHER_IF, RULE_LOOP_STMTS_EMPTY, RULE_LOOP_STMTS_END, RULE_LOOP_STMTS_MORE, RULE_LOOP_STMT_BLOCK, RULE_LOOP_STMT_IF, RULE_LOOP_STMT_JUMP, RULE_LOOP_STMT_PLAIN, RULE_MORE_RETURNED_END, RULE_MORE_RETURNED_MORE, RULE_MORE_TYPES_END, RULE_OTHERWISE_ELSE, RULE_OTHERWISE_NONE, RULE_OTHER_BLOCK, RULE_OTHER_IF, RULE_PLAIN_FOR, RULE_PLAIN_GO, RULE_PLAIN_RETURN, RULE_PLAIN_SIMPLE, RULE_PLAIN_VAR, RULE_POST_PART_NONE, RULE_POST_PART_SOME, RULE_RECEIVER_NONE, RULE_RECEIVER_SOME, RULE_RESULTS_MANY, RULE_RESULTS_NONE, RULE_RESULTS_ONE, RULE_RETURNED_NONE, RULE_STMTS_EMPTY, RULE_STMTS_END, RULE_STMTS_MORE, RULE_STMT_BLOCK, RULE_STMT_IF, RULE_STMT_PLAIN, RULE_VAR_REST_NONE, RULE_VAR_REST_VALUE, SET_ASSIGN, SET_COMMA, SET_CONST, SET_ELSE, SET_FOR, SET_FUNC, SET_GO, SET_ID, SET_IF, SET_IMPORT, SET_JUMP, SET_L_BRACE, SET_L_PAREN, SET_PACKAGE, SET_RETURN, SET_R_BRACE, SET_R_PAREN, SET_SEMI, SET_STAR, SET_STRUCT, SET_TEXT, SET_TYPE, SET_UINT64, SET_VAR}
use Rattle.gv_gosyntax.specs.declared.generated.gosyntax_acts.Part.TheVariants.{Token as PToken, Names as PNames, Imports as PImports, Expr as PExpr, Rights as PRights, Part as PPart, Stmt as PStmt, Stmts as PStmts, Block as PBlock, Types as PTypes, Receiver as PReceiver, Decl as PDecl, Decls as PDecls, File as PFile}
use Rattle.gv_gosyntax.specs.declared.lexeme.Lexeme.{Lexeme}
use Rattle.gv_gosyntax.specs.declared.tree.GoType.{GoType}
use Rattle.gv_gosyntax.specs.declared.tree.Right.{Right}
use Rattle.gv_gosyntax.specs.declared.tree.Simple.{Simple}
use Rattle.gv_gosyntax.specs.declared.tree.Block.{Block}
use Rattle.gv_gosyntax.specs.declared.tree.Stmt.{Stmt}
use Rattle.gv_gosyntax.specs.declared.tree.Receiver.{Receiver}
use Rattle.gv_gosyntax.specs.declared.tree.Decl.{Decl}
use Rattle.gv_gosyntax.specs.declared.tree.File.{File}
use Rattle.gv_gosyntax.specs.declared.tree.Stmt.TheVariants as stmt
use Rattle.gv_goparse.specs.Language.{Tokens, Is, IsItems, IsRight, IsPart, IsValue, IsStmt, IsIf, IsBlock, IsStmts, IsBody, IsReceiver, IsResults, IsDecl, IsImport, IsImports, IsDecls, IsFile, first, next, value, result, no_part, part, operand, simple, var, var_value, branch, nested, jump, forever, while, clauses, return_none, return_one, return_more, go, only, otherwise, chain, braces, no_stmts, next_stmt, next_empty, all_closed, last_open, no_receiver, receiver, no_results, one_result, results, struct, const, typed_const, func, one_import, imports, no_imports, next_import, no_decls, next_decl, file}
use Rattle.gv_goparse.proofs.Operands.{Parts, Read, LateRead, to, on_return, in_simple, in_post, in_header, bound_reads, whole_expr, whole_reads, returned_values, header_values, expr_at}
use Rattle.gv_goparse.proofs.Phrases.{type_reads, fields_read, params_read, texts_read, type_list, right_calls, plain_calls, returned_calls, simple_calls, post_calls, header_calls, call_reads, right_reads, in_simples, in_posts, in_headers, simple_at}

-- Blocks and statements have names of their own within a `for`.
abbrev pub braces_of : Bool → ℕ
braces_of false = NAME_BRACES
braces_of true = NAME_LOOP_BRACES

abbrev pub stmts_of : Bool → ℕ
stmts_of false = NAME_STMTS
stmts_of true = NAME_LOOP_STMTS

abbrev pub after_of : Bool → ℕ
after_of false = NAME_AFTER_STMT
after_of true = NAME_LOOP_AFTER_STMT

abbrev pub stmt_of : Bool → ℕ
stmt_of false = NAME_STMT
stmt_of true = NAME_LOOP_STMT

abbrev pub rest_of : Bool → ℕ
rest_of false = NAME_IF_REST
rest_of true = NAME_LOOP_IF_REST

abbrev pub otherwise_of : Bool → ℕ
otherwise_of false = NAME_OTHERWISE
otherwise_of true = NAME_LOOP_OTHERWISE

abbrev pub other_of : Bool → ℕ
other_of false = NAME_OTHER
other_of true = NAME_LOOP_OTHER

pub by_braces : (b : Bool) {s : List Symbol} {us : Tokens} {n : ℕ} {kept : List ℕ} {parts : Parts} {final : Option Parts} → Read (A SAVE ∷ A OPEN ∷ T SET_L_BRACE ∷ A ACT_NO_STMTS ∷ N (stmts_of b) ∷ T SET_R_BRACE ∷ A RESTORE ∷ A ACT_BLOCK ∷ s) us n kept parts final → Read (N (braces_of b) ∷ s) us n kept parts final
by_braces false k = ru RULE_BRACES_BLOCK refl k
by_braces true k = ru RULE_LOOP_BRACES_BLOCK refl k

pub by_stmt : (b : Bool) {s : List Symbol} {us : Tokens} {n : ℕ} {kept : List ℕ} {parts : Parts} {final : Option Parts} → Read (N (stmt_of b) ∷ A ACT_STMT ∷ N (after_of b) ∷ s) us n kept parts final → Read (N (stmts_of b) ∷ s) us n kept parts final
by_stmt false k = ru RULE_STMTS_MORE refl k
by_stmt true k = ru RULE_LOOP_STMTS_MORE refl k

pub by_empty : (b : Bool) {s : List Symbol} {us : Tokens} {n : ℕ} {kept : List ℕ} {parts : Parts} {final : Option Parts} → Read (T SET_SEMI ∷ A ACT_EMPTY ∷ N (stmts_of b) ∷ s) us n kept parts final → Read (N (stmts_of b) ∷ s) us n kept parts final
by_empty false k = ru RULE_STMTS_EMPTY refl k
by_empty true k = ru RULE_LOOP_STMTS_EMPTY refl k

pub by_no_stmt : (b : Bool) {s : List Symbol} {us : Tokens} {n : ℕ} {kept : List ℕ} {parts : Parts} {final : Option Parts} → Read (s) us n kept parts final → Read (N (stmts_of b) ∷ s) us n kept parts final
by_no_stmt false k = ru RULE_STMTS_END refl k
by_no_stmt true k = ru RULE_LOOP_STMTS_END refl k

pub by_semi : (b : Bool) {s : List Symbol} {us : Tokens} {n : ℕ} {kept : List ℕ} {parts : Parts} {final : Option Parts} → Read (T SET_SEMI ∷ A ACT_PAST_STMTS ∷ N (stmts_of b) ∷ s) us n kept parts final → Read (N (after_of b) ∷ s) us n kept parts final
by_semi false k = ru RULE_AFTER_STMT_MORE refl k
by_semi true k = ru RULE_LOOP_AFTER_STMT_MORE refl k

pub by_no_semi : (b : Bool) {s : List Symbol} {us : Tokens} {n : ℕ} {kept : List ℕ} {parts : Parts} {final : Option Parts} → Read (s) us n kept parts final → Read (N (after_of b) ∷ s) us n kept parts final
by_no_semi false k = ru RULE_AFTER_STMT_END refl k
by_no_semi true k = ru RULE_LOOP_AFTER_STMT_END refl k

pub by_plain : (b : Bool) {s : List Symbol} {us : Tokens} {n : ℕ} {kept : List ℕ} {parts : Parts} {final : Option Parts} → Read (N NAME_PLAIN ∷ s) us n kept parts final → Read (N (stmt_of b) ∷ s) us n kept parts final
by_plain false k = ru RULE_STMT_PLAIN refl k
by_plain true k = ru RULE_LOOP_STMT_PLAIN refl k

pub by_if : (b : Bool) {s : List Symbol} {us : Tokens} {n : ℕ} {kept : List ℕ} {parts : Parts} {final : Option Parts} → Read (A SAVE ∷ T SET_IF ∷ N (rest_of b) ∷ A RESTORE ∷ s) us n kept parts final → Read (N (stmt_of b) ∷ s) us n kept parts final
by_if false k = ru RULE_STMT_IF refl k
by_if true k = ru RULE_LOOP_STMT_IF refl k

pub by_block : (b : Bool) {s : List Symbol} {us : Tokens} {n : ℕ} {kept : List ℕ} {parts : Parts} {final : Option Parts} → Read (N (braces_of b) ∷ A ACT_NESTED ∷ s) us n kept parts final → Read (N (stmt_of b) ∷ s) us n kept parts final
by_block false k = ru RULE_STMT_BLOCK refl k
by_block true k = ru RULE_LOOP_STMT_BLOCK refl k

pub by_rest : (b : Bool) {s : List Symbol} {us : Tokens} {n : ℕ} {kept : List ℕ} {parts : Parts} {final : Option Parts} → Read (N NAME_WHOLE ∷ N (braces_of b) ∷ N (otherwise_of b) ∷ s) us n kept parts final → Read (N (rest_of b) ∷ s) us n kept parts final
by_rest false k = ru RULE_IF_REST_BODY refl k
by_rest true k = ru RULE_LOOP_IF_REST_BODY refl k

pub by_else : (b : Bool) {s : List Symbol} {us : Tokens} {n : ℕ} {kept : List ℕ} {parts : Parts} {final : Option Parts} → Read (T SET_ELSE ∷ N (other_of b) ∷ s) us n kept parts final → Read (N (otherwise_of b) ∷ s) us n kept parts final
by_else false k = ru RULE_OTHERWISE_ELSE refl k
by_else true k = ru RULE_LOOP_OTHERWISE_ELSE refl k

pub by_no_else : (b : Bool) {s : List Symbol} {us : Tokens} {n : ℕ} {kept : List ℕ} {parts : Parts} {final : Option Parts} → Read (A ACT_IF ∷ s) us n kept parts final → Read (N (otherwise_of b) ∷ s) us n kept parts final
by_no_else false k = ru RULE_OTHERWISE_NONE refl k
by_no_else true k = ru RULE_LOOP_OTHERWISE_NONE refl k

pub by_else_block : (b : Bool) {s : List Symbol} {us : Tokens} {n : ℕ} {kept : List ℕ} {parts : Parts} {final : Option Parts} → Read (N (braces_of b) ∷ A ACT_NESTED ∷ A ACT_IF_ELSE ∷ s) us n kept parts final → Read (N (other_of b) ∷ s) us n kept parts final
by_else_block false k = ru RULE_OTHER_BLOCK refl k
by_else_block true k = ru RULE_LOOP_OTHER_BLOCK refl k

pub by_else_if : (b : Bool) {s : List Symbol} {us : Tokens} {n : ℕ} {kept : List ℕ} {parts : Parts} {final : Option Parts} → LateRead (A OPEN_BEFORE ∷ T SET_IF ∷ N (rest_of b) ∷ A ACT_IF_ELSE ∷ s) us n kept parts final → LateRead (N (other_of b) ∷ s) us n kept parts final
by_else_if false k = late_rule RULE_OTHER_IF refl k
by_else_if true k = late_rule RULE_LOOP_OTHER_IF refl k

pub part_reads : {n : ℕ} {f : Option Simple} {ts : Tokens} → IsPart n f ts → {s : List Symbol} {us : Tokens} {kept : List ℕ} {parts : Parts} {final : Option Parts}
    → Read s us n kept (PPart f ∷ parts) final → Read (N NAME_POST_PART ∷ s) (ts ++ us) n kept parts final
part_reads no_part k = ru RULE_POST_PART_NONE refl (ac ACT_NO_PART refl k)
part_reads (part d) k = ru RULE_POST_PART_SOME refl (sv (simple_at in_post in_posts post_calls plain_calls d (λ m. rs (ac ACT_PART refl k))))

-- the first part, as far as its semicolon
pub first_part : {n : ℕ} {f : Option Simple} {ts : Tokens} → IsPart n f ts → {s : List Symbol} {us : Tokens} {kept : List ℕ} {parts : Parts} {final : Option Parts}
    → Read (N NAME_CLAUSES ∷ s) us n kept (PPart f ∷ parts) final → Read (N NAME_HEADER ∷ s) (ts ++ us) n (n ∷ kept) parts final
first_part no_part k = ru RULE_HEADER_CLAUSES refl (rs (ac ACT_NO_PART refl k))
first_part (part d) k = simple_at in_header in_headers header_calls plain_calls d (λ m. ru RULE_AFTER_FIRST_CLAUSES refl (rs (ac ACT_PART refl k)))

-- the first of several operands behind `return`, and those before a later one
pub values_read : {n : ℕ} {rs' : List Right} {ts : Tokens} → IsItems (IsValue n) CLASS_COMMA rs' ts → {s : List Symbol} {us : Tokens} {kept : List ℕ} {parts : Parts} {final : Option Parts}
    → Read (N NAME_MORE_RETURNED ∷ s) us n kept (PRights rs' ∷ parts) final → Read (N NAME_RETURNED ∷ s) (ts ++ us) n (n ∷ kept) (PRights [] ∷ parts) final
values_read (first (operand d)) k = expr_at on_return returned_values d (ac ACT_VALUE refl (ac ACT_RIGHT refl (rs k)))
values_read (next t {ts = ts} {us = vs} d i (operand e)) {us = us} k =
    to (ts ++ (plain t ∷ (vs ++ us))) (simp append_assoc) (values_read d (ru RULE_MORE_RETURNED_MORE refl (tk SET_COMMA CLASS_COMMA i refl (ac ACT_PAST_RIGHTS refl (whole_expr e (ac ACT_VALUE refl (ac ACT_RIGHT refl k)))))))

pub returned_reads : {n : ℕ} {r : Right} {ts : Tokens} → IsRight false n r ts → {w : Lexeme} {s : List Symbol} {us : Tokens} {kept : List ℕ} {parts : Parts} {final : Option Parts}
    → Read s us n kept (PStmt (stmt.Return w (r ∷ [])) ∷ parts) final → Read (N NAME_RETURNED ∷ s) (ts ++ us) n (n ∷ kept) (PRights [] ∷ PToken w ∷ parts) final
returned_reads (value d) k = expr_at on_return returned_values d (ac ACT_VALUE refl (ac ACT_RIGHT refl (rs (ru RULE_MORE_RETURNED_END refl (ac ACT_RETURN refl k)))))
returned_reads (result d) k = call_reads on_return returned_calls d (λ m. ac ACT_RESULT refl (ac ACT_RIGHT refl (rs (ac ACT_RETURN refl k))))

mutual
  pub stmt_reads : {b : Bool} {n : ℕ} {x : Stmt} {ts : Tokens} → IsStmt b n x ts → {s : List Symbol} {us : Tokens} {kept : List ℕ} {parts : Parts} {final : Option Parts}
      → Read s us n kept (PStmt x ∷ parts) final → Read (N (stmt_of b) ∷ s) (ts ++ us) n kept parts final
  stmt_reads {b = b} (simple d) k = by_plain b (ru RULE_PLAIN_SIMPLE refl (sv (simple_at in_simple in_simples simple_calls right_calls d (λ m. rs (ac ACT_SIMPLE refl k)))))
  stmt_reads {b = b} (var w i h j t) k = by_plain b (ru RULE_PLAIN_VAR refl (tk SET_VAR CLASS_VAR h refl (tk_in SET_ID j (type_reads t (ru RULE_VAR_REST_NONE refl (ac ACT_VAR refl k))))))
  stmt_reads {b = b} (var_value w i x {ts = ts} {us = vs} h j t l d) {us = us} k =
      to (plain w ∷ plain i ∷ (ts ++ (plain x ∷ (vs ++ us)))) (simp append_assoc) (by_plain b (ru RULE_PLAIN_VAR refl (tk SET_VAR CLASS_VAR h refl (tk_in SET_ID j (type_reads t
      (ru RULE_VAR_REST_VALUE refl (tk SET_ASSIGN CLASS_ASSIGN l refl (sv (right_reads right_calls d (λ m. rs (ac ACT_VAR_VALUE refl k)))))))))))
  stmt_reads {b} {n} {x} (branch d) {s = s} {us = us} {kept = kept} {parts = parts} {final = final} k =
      let (i, rest, c, e, r) = if_reads d (λ m. rs {m = m} k) in
      subst (λ (ts : Tokens). Read (N (stmt_of b) ∷ s) (ts ++ us) n kept parts final) (sym e) (by_if b (sv (tk SET_IF CLASS_IF c refl r)))
  stmt_reads {b = b} (nested d) k = by_block b (block_reads d (ac ACT_NESTED refl k))
  stmt_reads (jump w h) k = ru RULE_LOOP_STMT_JUMP refl (tk_in SET_JUMP h (ac ACT_JUMP refl k))
  stmt_reads {b = b} (forever w h d) k = by_plain b (ru RULE_PLAIN_FOR refl (tk SET_FOR CLASS_FOR h refl (sv (ru RULE_HEADER_FOREVER refl (rs (block_reads d (ac ACT_FOREVER refl k)))))))
  stmt_reads {b = b} (while w {ts = ts} {us = vs} h e d) {us = us} k =
      to (plain w ∷ (ts ++ (vs ++ us))) (simp append_assoc) (by_plain b (ru RULE_PLAIN_FOR refl (tk SET_FOR CLASS_FOR h refl (sv (expr_at in_header header_values e (rs (block_reads d (ac ACT_WHILE refl k))))))))
  stmt_reads {b = b} (clauses w x t {ts = ts} {us = vs} {vs = ws} {ws = xs} h f i c j p d) {us = us} k =
      to (plain w ∷ (ts ++ (plain x ∷ (vs ++ (plain t ∷ (ws ++ (xs ++ us))))))) (simp append_assoc) (by_plain b (ru RULE_PLAIN_FOR refl (tk SET_FOR CLASS_FOR h refl (sv (first_part f (ru RULE_CLAUSES_REST refl
      (tk SET_SEMI CLASS_SEMI i refl (bound_reads c (tk SET_SEMI CLASS_SEMI j refl (part_reads p (block_reads d (ac ACT_FOR refl k))))))))))))
  stmt_reads {b = b} (return_none w h) k = by_plain b (ru RULE_PLAIN_RETURN refl (tk SET_RETURN CLASS_RETURN h refl (ac ACT_NO_RIGHTS refl (sv (ru RULE_RETURNED_NONE refl (rs (ac ACT_RETURN refl k)))))))
  stmt_reads {b = b} (return_one w h d) k = by_plain b (ru RULE_PLAIN_RETURN refl (tk SET_RETURN CLASS_RETURN h refl (ac ACT_NO_RIGHTS refl (sv (returned_reads d k)))))
  stmt_reads {b = b} (return_more w t {ts = ts} {us = vs} h d i (operand e)) {us = us} k =
      to (plain w ∷ (ts ++ (plain t ∷ (vs ++ us)))) (simp append_assoc) (by_plain b (ru RULE_PLAIN_RETURN refl (tk SET_RETURN CLASS_RETURN h refl (ac ACT_NO_RIGHTS refl (sv (values_read d (ru RULE_MORE_RETURNED_MORE refl
      (tk SET_COMMA CLASS_COMMA i refl (ac ACT_PAST_RIGHTS refl (whole_expr e (ac ACT_VALUE refl (ac ACT_RIGHT refl (ru RULE_MORE_RETURNED_END refl (ac ACT_RETURN refl k))))))))))))))
  stmt_reads {b} {n} (go w f o c p q {ts = ts} h i j l d g r) {us = us} k =
      to (plain w ∷ plain f ∷ opens n o ∷ plain c ∷ (ts ++ (opens n p ∷ plain q ∷ us))) (simp append_assoc) (by_plain b (ru RULE_PLAIN_GO refl (tk SET_GO CLASS_GO h refl (tk SET_FUNC CLASS_FUNC i refl
      (sv (op SET_L_PAREN CLASS_L_PAREN j refl (tk SET_R_PAREN CLASS_R_PAREN l refl (rs (block_reads d (sv (op SET_L_PAREN CLASS_L_PAREN g refl (tk SET_R_PAREN CLASS_R_PAREN r refl (rs (ac ACT_GO refl k))))))))))))))

  -- what stands behind the `if`
  pub if_reads : {b : Bool} {n : ℕ} {x : Stmt} {ts : Tokens} → IsIf b n x ts → {s : List Symbol} {us : Tokens} {kept : List ℕ} {parts : Parts} {final : Option Parts}
      → ((m : ℕ) → Read s us m kept (PStmt x ∷ parts) final)
      → (i : Lexeme) × (rest : Tokens) × Is CLASS_IF i × (ts ≡ plain i ∷ rest) × Read (N (rest_of b) ∷ s) (rest ++ us) n kept (PToken i ∷ parts) final
  if_reads {b} {n} (only i {ts = ts} {us = vs} c d k') {us = us} k =
      (i, ts ++ vs, c, refl, to (ts ++ (vs ++ us)) (simp append_assoc) (by_rest b (whole_expr d (block_reads k' (by_no_else b (ac ACT_IF refl (k n)))))))
  if_reads {b} {n} (otherwise i l {ts = ts} {us = vs} {vs = ws} c d k' h o) {us = us} k = (
    i,
    ts ++ (vs ++ (plain l ∷ ws)),
    c,
    refl,
    to (ts ++ (vs ++ (plain l ∷ (ws ++ us)))) (simp append_assoc) (by_rest b (whole_expr d (block_reads k' (by_else b (tk SET_ELSE CLASS_ELSE h refl
        (by_else_block b (block_reads o (ac ACT_NESTED refl (ac ACT_IF_ELSE refl (k n)))))))))),
  )
  if_reads {b} {n} (chain i l {e = x} {k = y} {ts = ts} {us = vs} {vs = ws} c d k' h e) {s = s} {us = us} {kept = kept} {parts = parts} {final = final} k =
      let (j, rest, g, q, r) = if_reads e {parts = PToken l ∷ PBlock y ∷ PExpr x ∷ PToken i ∷ parts} (λ m. ac ACT_IF_ELSE refl (k m)) in (
        i,
        ts ++ (vs ++ (opens n l ∷ ws)),
        c,
        refl,
        to (ts ++ (vs ++ (opens n l ∷ (ws ++ us)))) (simp append_assoc) (by_rest b (whole_expr d (block_reads k' (by_else b
            (late_token SET_ELSE CLASS_ELSE h refl (by_else_if b (subst (λ (ys : Tokens). LateRead (A OPEN_BEFORE ∷ T SET_IF ∷ N (rest_of b) ∷ A ACT_IF_ELSE ∷ s) (ys ++ us) n kept (PToken l ∷ PBlock y ∷ PExpr x ∷ PToken i ∷ parts) final) (sym q) (late_mark SET_IF CLASS_IF g refl r)))))))),
      )

  pub block_reads : {b : Bool} {n : ℕ} {x : Block} {ts : Tokens} → IsBlock b n x ts → {s : List Symbol} {us : Tokens} {kept : List ℕ} {parts : Parts} {final : Option Parts}
      → Read s us n kept (PBlock x ∷ parts) final → Read (N (braces_of b) ∷ s) (ts ++ us) n kept parts final
  block_reads {b} {n} (braces o c {ts = ts} h d i) {us = us} k =
      to (opens n o ∷ (ts ++ (plain c ∷ us))) (simp append_assoc) (by_braces b (sv (op SET_L_BRACE CLASS_L_BRACE h refl (ac ACT_NO_STMTS refl (body_reads d (tk SET_R_BRACE CLASS_R_BRACE i refl (rs (ac ACT_BLOCK refl k))))))))

  pub stmts_read : {b : Bool} {n : ℕ} {xs : List Stmt} {ts : Tokens} → IsStmts b n xs ts → {s : List Symbol} {us : Tokens} {kept : List ℕ} {parts : Parts} {final : Option Parts}
      → Read (N (stmts_of b) ∷ s) us n kept (PStmts xs ∷ parts) final → Read (N (stmts_of b) ∷ s) (ts ++ us) n kept (PStmts [] ∷ parts) final
  stmts_read no_stmts k = k
  stmts_read {b = b} (next_stmt t {ts = ts} {us = vs} d e i) {us = us} k =
      to (ts ++ (vs ++ (plain t ∷ us))) (simp append_assoc) (stmts_read d (by_stmt b (stmt_reads e (ac ACT_STMT refl (by_semi b (tk SET_SEMI CLASS_SEMI i refl (ac ACT_PAST_STMTS refl k)))))))
  stmts_read {b = b} (next_empty t {ts = ts} d i) {us = us} k = to (ts ++ (plain t ∷ us)) (simp append_assoc) (stmts_read d (by_empty b (tk SET_SEMI CLASS_SEMI i refl (ac ACT_EMPTY refl k))))

  pub body_reads : {b : Bool} {n : ℕ} {xs : List Stmt} {ts : Tokens} → IsBody b n xs ts → {s : List Symbol} {us : Tokens} {kept : List ℕ} {parts : Parts} {final : Option Parts}
      → Read s us n kept (PStmts xs ∷ parts) final → Read (N (stmts_of b) ∷ s) (ts ++ us) n kept (PStmts [] ∷ parts) final
  body_reads {b = b} (all_closed d) k = stmts_read d (by_no_stmt b k)
  body_reads {b = b} (last_open {ts = ts} {us = vs} d e) {us = us} k = to (ts ++ (vs ++ us)) (simp append_assoc) (stmts_read d (by_stmt b (stmt_reads e (ac ACT_STMT refl (by_no_semi b k)))))

pub receiver_reads : {n : ℕ} {r : Option Receiver} {ts : Tokens} → IsReceiver n r ts → {s : List Symbol} {us : Tokens} {kept : List ℕ} {parts : Parts} {final : Option Parts}
    → Read s us n kept (PReceiver r ∷ parts) final → Read (N NAME_RECEIVER ∷ s) (ts ++ us) n kept parts final
receiver_reads no_receiver k = ru RULE_RECEIVER_NONE refl (ac ACT_NO_RECEIVER refl k)
receiver_reads (receiver o i x t c h j l g f) k =
    ru RULE_RECEIVER_SOME refl (sv (op SET_L_PAREN CLASS_L_PAREN h refl (tk_in SET_ID j (tk SET_STAR CLASS_STAR l refl (tk_in SET_ID g (tk SET_R_PAREN CLASS_R_PAREN f refl (rs (ac ACT_RECEIVER refl k))))))))

pub results_read : {n : ℕ} {r : List GoType} {ts : Tokens} → IsResults n r ts → {s : List Symbol} {us : Tokens} {kept : List ℕ} {parts : Parts} {final : Option Parts}
    → Read s us n kept (PTypes r ∷ parts) final → Read (N NAME_RESULTS ∷ s) (ts ++ us) n kept (PTypes [] ∷ parts) final
results_read no_results k = ru RULE_RESULTS_NONE refl k
results_read (one_result t) k = ru RULE_RESULTS_ONE refl (type_reads t (ac ACT_TYPE refl k))
results_read (results o c {ts = ts} h d i) {us = us} k =
    ru RULE_RESULTS_MANY refl (sv (op SET_L_PAREN CLASS_L_PAREN h refl (ac ACT_PAST_TYPES refl (to (ts ++ (plain c ∷ us)) (simp append_assoc) (type_list d (ru RULE_MORE_TYPES_END refl (tk SET_R_PAREN CLASS_R_PAREN i refl (rs (ac ACT_PAST_TYPES refl k)))))))))

pub decl_reads : {n : ℕ} {d : Decl} {ts : Tokens} → IsDecl n d ts → {s : List Symbol} {us : Tokens} {kept : List ℕ} {parts : Parts} {final : Option Parts}
    → Read s us n kept (PDecl d ∷ parts) final → Read (N NAME_DECL ∷ s) (ts ++ us) n kept parts final
decl_reads (struct w i x o c {ts = ts} h j l g d f) {us = us} k =
    to (plain w ∷ plain i ∷ plain x ∷ plain o ∷ (ts ++ (plain c ∷ us))) (simp append_assoc) (ru RULE_DECL_STRUCT refl (tk SET_TYPE CLASS_TYPE h refl (tk_in SET_ID j (tk SET_STRUCT CLASS_STRUCT l refl (tk SET_L_BRACE CLASS_L_BRACE g refl
    (ac ACT_NO_GROUPS refl (fields_read d (tk SET_R_BRACE CLASS_R_BRACE f refl (ac ACT_STRUCT refl k)))))))))
decl_reads (const w i x h j l d) k = ru RULE_DECL_CONST refl (tk SET_CONST CLASS_CONST h refl (tk_in SET_ID j (ru RULE_CONST_REST_PLAIN refl (tk SET_ASSIGN CLASS_ASSIGN l refl (whole_reads d (ac ACT_CONST refl k))))))
decl_reads (typed_const w i u x h j g l d) k =
    ru RULE_DECL_CONST refl (tk SET_CONST CLASS_CONST h refl (tk_in SET_ID j (ru RULE_CONST_REST_TYPED refl (tk SET_UINT64 CLASS_UINT64 g refl (tk SET_ASSIGN CLASS_ASSIGN l refl (whole_reads d (ac ACT_TYPED_CONST refl k)))))))
decl_reads {n} (func w i o c {ts = ts} {us = vs} {vs = ws} {ws = xs} h r j g p l q d) {us = us} k =
    to (plain w ∷ (ts ++ (plain i ∷ opens n o ∷ (vs ++ (plain c ∷ (ws ++ (xs ++ us))))))) (simp append_assoc) (ru RULE_DECL_FUNC refl (tk SET_FUNC CLASS_FUNC h refl (receiver_reads r (tk_in SET_ID j
    (sv (op SET_L_PAREN CLASS_L_PAREN g refl (ac ACT_NO_GROUPS refl (params_read p (tk SET_R_PAREN CLASS_R_PAREN l refl (rs (ac ACT_NO_TYPES refl (results_read q (block_reads d (ac ACT_FUNC refl k))))))))))))))

pub import_reads : {n : ℕ} {x : List Lexeme} {ts : Tokens} → IsImport n x ts → {s : List Symbol} {us : Tokens} {kept : List ℕ} {parts : Parts} {final : Option Parts}
    → Read s us n kept (PNames x ∷ parts) final → Read (N NAME_IMP ∷ s) (ts ++ us) n kept parts final
import_reads (one_import t i) k = ru RULE_IMP_ONE refl (ac ACT_NO_NAMES refl (tk SET_TEXT CLASS_TEXT i refl (ac ACT_NAME refl k)))
import_reads (imports o c {ts = ts} h d i) {us = us} k =
    ru RULE_IMP_MANY refl (sv (op SET_L_PAREN CLASS_L_PAREN h refl (ac ACT_NO_NAMES refl (to (ts ++ (plain c ∷ us)) (simp append_assoc) (texts_read d (tk SET_R_PAREN CLASS_R_PAREN i refl (rs (ac ACT_IN_PARENS refl k))))))))

pub imports_read : {n : ℕ} {xs : List (List Lexeme)} {ts : Tokens} → IsImports n xs ts → {s : List Symbol} {us : Tokens} {kept : List ℕ} {parts : Parts} {final : Option Parts}
    → Read (N NAME_IMPORTS ∷ s) us n kept (PImports xs ∷ parts) final → Read (N NAME_IMPORTS ∷ s) (ts ++ us) n kept (PImports [] ∷ parts) final
imports_read no_imports k = k
imports_read (next_import w t {ts = ts} {us = vs} d h x i) {us = us} k =
    to (ts ++ (plain w ∷ (vs ++ (plain t ∷ us)))) (simp append_assoc) (imports_read d (ru RULE_IMPORTS_MORE refl (tk SET_IMPORT CLASS_IMPORT h refl (import_reads x (tk SET_SEMI CLASS_SEMI i refl (ac ACT_IMPORT refl k))))))

pub decls_read : {n : ℕ} {xs : List Decl} {ts : Tokens} → IsDecls n xs ts → {s : List Symbol} {us : Tokens} {kept : List ℕ} {parts : Parts} {final : Option Parts}
    → Read (N NAME_DECLS ∷ s) us n kept (PDecls xs ∷ parts) final → Read (N NAME_DECLS ∷ s) (ts ++ us) n kept (PDecls [] ∷ parts) final
decls_read no_decls k = k
decls_read (next_decl t {ts = ts} {us = vs} d x i) {us = us} k =
    to (ts ++ (vs ++ (plain t ∷ us))) (simp append_assoc) (decls_read d (ru RULE_DECLS_MORE refl (decl_reads x (tk SET_SEMI CLASS_SEMI i refl (ac ACT_DECL refl k)))))

pub file_reads : {n : ℕ} {x : File} {ts : Tokens} → IsFile n x ts → {us : Tokens} {kept : List ℕ} {parts : Parts} {final : Option Parts}
    → Read [] us n kept (PFile x ∷ parts) final → Read (N NAME_FILE ∷ []) (ts ++ us) n kept parts final
file_reads (file p i x {ts = ts} {us = vs} h j l d e) {us = us} k =
    to (plain p ∷ plain i ∷ plain x ∷ (ts ++ (vs ++ us))) (simp append_assoc) (ru RULE_FILE_WHOLE refl (tk SET_PACKAGE CLASS_PACKAGE h refl (tk_in SET_ID j (tk SET_SEMI CLASS_SEMI l refl
    (ac ACT_NO_IMPORTS refl (imports_read d (ru RULE_IMPORTS_END refl (ac ACT_NO_DECLS refl (decls_read e (ru RULE_DECLS_END refl (ac ACT_FILE refl k)))))))))))

-- a whole package
pub whole_file : (level : ℕ) (x : File) (ts : Tokens) → IsFile level x ts → Read (N NAME_FILE ∷ []) ts level [] [] (Some (PFile x ∷ []))
whole_file level x ts d =
    subst (λ (us : Tokens). Read (N NAME_FILE ∷ []) us level [] [] (Some (PFile x ∷ []))) (append-nil ts)
    (file_reads d (record { steps = []; derives = done; runs = refl; levels = λ limit at. refl }))
