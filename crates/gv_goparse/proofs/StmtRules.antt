-- The rules of statements and declarations keep the meaning of their names.
use Rattle.std.proofs.Common.{◌≡◌, ◌+◌, ◌∷◌, ◌++◌, ◌∙◌, ℕ, Bool, true, false, List, Some, None, refl, sym, ap, append_assoc, []}
use Rattle.std.proofs.lemmas.List.{append-nil, map-append}
use Rattle.gv_grammar.specs.Text.{plain, opens, tokens_of}
use Rattle.gv_grammar.proofs.Meaning.{none, taken, acted, means, Made, mk, at, Phrase, Tail, one_class}
use Rattle.gv_gosyntax.specs.declared.generated.gosyntax_table.TheConstants.{CLASS_ASSIGN, CLASS_COMMA, CLASS_CONST, CLASS_ELSE, CLASS_FOR, CLASS_FUNC, CLASS_GO, CLASS_IF, CLASS_IMPORT, CLASS_L_BRACE, CLASS_L_PAREN, CLASS_PACKAGE, CLASS_RETURN, CLASS_R_BRACE, CLASS_R_PAREN, CLASS_SEMI, CLASS_STAR, CLASS_STRUCT, CLASS_TEXT, CLASS_TYPE, CLASS_UINT64, CLASS_VAR, NAME_AFTER_STMT, NAME_BRACES, NAME_CONST_REST, NAME_DECL, NAME_DECLS, NAME_FILE, NAME_GROUP, NAME_IF_REST, NAME_IMP, NAME_IMPORTS, NAME_LOOP_AFTER_STMT, NAME_LOOP_BRACES, NAME_LOOP_IF_REST, NAME_LOOP_OTHER, NAME_LOOP_OTHERWISE, NAME_LOOP_STMT, NAME_LOOP_STMTS, NAME_MORE_NAMES, NAME_MORE_TYPES, NAME_OTHER, NAME_OTHERWISE, NAME_PLAIN, NAME_RECEIVER, NAME_RESULTS, NAME_STMT, NAME_STMTS, NAME_VAR_REST, RULE_AFTER_STMT_END, RULE_AFTER_STMT_MORE, RULE_BRACES_BLOCK, RULE_CONST_REST_PLAIN, RULE_CONST_REST_TYPED, RULE_DECLS_END, RULE_DECLS_MORE, RULE_DECL_CONST, RULE_DECL_FUNC, RULE_DECL_STRUCT, RULE_FILE_WHOLE, RULE_GROUP_NAMES, RULE_IF_REST_BODY, RULE_IMPORTS_END, RULE_IMPORTS_MORE, RULE_IMP_MANY, RULE_IMP_ONE, RULE_LOOP_AFTER_STMT_END, RULE_LOOP_AFTER_STMT_MORE, RULE_LOOP_BRACES_BLOCK, RULE_LOOP_IF_REST_BODY, RULE_LOOP_OTHERWISE_ELSE, RULE_LOOP_OTHERWISE_NONE, RULE_LOOP_OTHER_BLOCK, RULE_LOOP_OTHER_IF, RULE_LOOP_STMTS_EMPTY, RULE_LOOP_STMTS_END, RULE_LOOP_STMTS_MORE, RULE_LOOP_STMT_BLOCK, RULE_LOOP_STMT_IF, RULE_LOOP_STMT_JUMP, RULE_LOOP_STMT_PLAIN, RULE_MORE_NAMES_END, RULE_MORE_NAMES_MORE, RULE_MORE_TYPES_END, RULE_MORE_TYPES_MORE, RULE_OTHERWISE_ELSE, RULE_OTHERWISE_NONE, RULE_OTHER_BLOCK, RULE_OTHER_IF, RULE_PLAIN_FOR, RULE_PLAIN_GO, RULE_PLAIN_RETURN, RULE_PLAIN_SIMPLE, RULE_PLAIN_VAR, RULE_RECEIVER_NONE, RULE_RECEIVER_SOME, RULE_RESULTS_MANY, RULE_RESULTS_NONE, RULE_RESULTS_ONE, RULE_STMTS_EMPTY, RULE_STMTS_END, RULE_STMTS_MORE, RULE_STMT_BLOCK, RULE_STMT_IF, RULE_STMT_PLAIN, RULE_VAR_REST_NONE, RULE_VAR_REST_VALUE}
use Rattle.gv_gosyntax.specs.declared.lexeme.Lexeme.{Lexeme}
use Rattle.gv_gosyntax.specs.declared.tree.Expr.{Expr}
use Rattle.gv_gosyntax.specs.declared.tree.GoType.{GoType}
use Rattle.gv_gosyntax.specs.declared.tree.Right.{Right}
use Rattle.gv_gosyntax.specs.declared.tree.Decl.TheVariants.{Struct, Const}
use Rattle.gv_gosyntax.specs.declared.tree.Stmt.TheVariants as stmt
use Rattle.gv_gosyntax.specs.declared.tree.Decl.TheVariants as decl
use Rattle.gv_goparse.specs.Language.{Tokens, Is, IsItems, IsType, IsWhole, IsRight, IsStmt, IsIf, IsBlock, IsBody, IsName, IsGroup, IsReceiver, IsResults, IsDecl, IsImport, IsImports, IsDecls, IsFile, first, next, whole, simple, var, var_value, branch, nested, jump, go, braces, no_stmts, next_empty, all_closed, one_name, group, no_receiver, receiver, no_results, one_result, results, struct, const, typed_const, func, one_import, imports, no_imports, next_import, no_decls, next_decl, file}
use Rattle.gv_goparse.proofs.Meanings.{unclosed_body, unclosed_stmts, IsHalf, half_only, half_otherwise, half_chain, loop_stmt, rights_stmt, IsVar, IsConst, Keeps, end_here, alone_so, unclosed, half, var_start, const_start, fresh}

pub braces_block : Keeps RULE_BRACES_BLOCK NAME_BRACES
braces_block _ (acted (acted (taken o i (acted (means {ts = ts} d (taken e j (acted (acted none)))))))) n = let a = d (n + 1) [] [] no_stmts in let q = a.same in mk (IsBlock false n) (record { start = o; statements = a.tree; end = e }) (opens n o ∷ (a.placed ++ (plain e ∷ []))) (braces o e (one_class CLASS_L_BRACE o.class i) a.spelled (one_class CLASS_R_BRACE e.class j)) (simp (map-append, q))

pub stmts_more : Keeps RULE_STMTS_MORE NAME_STMTS
stmts_more _ (means {ts = ts} d (acted (means {ts = vs} k none))) n ss xs h = let a = d n in let e = a.same in at (simp (map-append, append_assoc, append-nil, e)) (k n (ss ++ a.tree ∷ []) (xs ++ a.placed) (unclosed h a.spelled))

pub stmts_empty : Keeps RULE_STMTS_EMPTY NAME_STMTS
stmts_empty _ (taken t i (acted (means {ts = ts} k none))) n ss xs h = at (simp (map-append, append_assoc, append-nil)) (k n (ss ++ stmt.Empty ∷ []) (xs ++ (plain t ∷ [])) (next_empty t h (one_class CLASS_SEMI t.class i)))

pub stmts_end : Keeps RULE_STMTS_END NAME_STMTS
stmts_end _ none n ss xs h = mk (IsBody false n) ss xs (all_closed h) (simp append-nil)

pub after_stmt_more : Keeps RULE_AFTER_STMT_MORE NAME_AFTER_STMT
after_stmt_more _ (taken t i (acted (means {ts = ts} k none))) n ss xs h = at (simp (map-append, append_assoc, append-nil)) (k n ss (xs ++ (plain t ∷ [])) (unclosed_stmts t h (one_class CLASS_SEMI t.class i)))

pub after_stmt_end : Keeps RULE_AFTER_STMT_END NAME_AFTER_STMT
after_stmt_end _ none n ss xs h = mk (IsBody false n) ss xs (unclosed_body h) (simp append-nil)

pub stmt_plain : Keeps RULE_STMT_PLAIN NAME_STMT
stmt_plain _ (means {ts = ts} d none) n = at (sym (append-nil ts)) (d false n)

pub stmt_if : Keeps RULE_STMT_IF NAME_STMT
stmt_if _ (acted (taken i h (means {ts = ts} d (acted none)))) n = let a = d n i (one_class CLASS_IF i.class h) in mk (IsStmt false n) a.tree a.placed (branch a.spelled) (a.same ∙ ap (λ (us : List Lexeme). i ∷ us) (sym (append-nil ts)))

pub stmt_block : Keeps RULE_STMT_BLOCK NAME_STMT
stmt_block _ (means {ts = ts} d (acted none)) = alone_so (IsStmt false) (λ k. stmt.Block k) ts (λ n x xs h. nested h) d

pub if_body : (b : Bool) (ts vs ws : List Lexeme) → Phrase IsWhole ts → Phrase (IsBlock b) vs → Tail (IsHalf b) (IsIf b) ws → (n : ℕ) (i : Lexeme) → Is CLASS_IF i → Made (IsIf b n) (i ∷ (ts ++ (vs ++ (ws ++ []))))
if_body b ts vs ws d e o n i c = go (d n).tree (d n).placed (d n).spelled (d n).same
  where
    go : (x : Expr) (ys : Tokens) → IsWhole n x ys → tokens_of ys ≡ ts → Made (IsIf b n) (i ∷ (ts ++ (vs ++ (ws ++ []))))
    go x ys (whole a) p =
        let k = e n in
        let q = k.same in
        at (simp (map-append, append_assoc, append-nil, p, q)) (o n ((i, x), k.tree) (plain i ∷ (ys ++ k.placed)) (half i c a k.spelled))

pub if_rest_body : Keeps RULE_IF_REST_BODY NAME_IF_REST
if_rest_body _ (means {ts = ts} d (means {ts = vs} e (means {ts = ws} o none))) n i c = if_body false ts vs ws d e o n i c

pub otherwise_else : Keeps RULE_OTHERWISE_ELSE NAME_OTHERWISE
otherwise_else _ (taken l i (means {ts = ts} d none)) n x ps h = at (simp append-nil) (d n x ps l h (one_class CLASS_ELSE l.class i))

pub otherwise_none : Keeps RULE_OTHERWISE_NONE NAME_OTHERWISE
otherwise_none _ (acted none) n x ps h = mk (IsIf false n) (stmt.If x.0.0 x.0.1 x.1 None) ps (half_only h) (simp append-nil)

pub other_block : Keeps RULE_OTHER_BLOCK NAME_OTHER
other_block _ (means {ts = ts} d (acted (acted none))) n x ps l h c = let a = d n in let e = a.same in mk (IsIf false n) (stmt.If x.0.0 x.0.1 x.1 (Some (stmt.Block a.tree))) (ps ++ (plain l ∷ a.placed)) (half_otherwise l h c a.spelled) (simp (map-append, append-nil, e))

pub other_if : Keeps RULE_OTHER_IF NAME_OTHER
other_if _ (acted (taken i g (means {ts = ts} d (acted none)))) n x ps l h c = let a = d (n + 1) i (one_class CLASS_IF i.class g) in let e = a.same in mk (IsIf false n) (stmt.If x.0.0 x.0.1 x.1 (Some a.tree)) (ps ++ (opens n l ∷ a.placed)) (half_chain l h c a.spelled) (simp (map-append, append-nil, e))

pub loop_braces_block : Keeps RULE_LOOP_BRACES_BLOCK NAME_LOOP_BRACES
loop_braces_block _ (acted (acted (taken o i (acted (means {ts = ts} d (taken e j (acted (acted none)))))))) n = let a = d (n + 1) [] [] no_stmts in let q = a.same in mk (IsBlock true n) (record { start = o; statements = a.tree; end = e }) (opens n o ∷ (a.placed ++ (plain e ∷ []))) (braces o e (one_class CLASS_L_BRACE o.class i) a.spelled (one_class CLASS_R_BRACE e.class j)) (simp (map-append, q))

pub loop_stmts_more : Keeps RULE_LOOP_STMTS_MORE NAME_LOOP_STMTS
loop_stmts_more _ (means {ts = ts} d (acted (means {ts = vs} k none))) n ss xs h = let a = d n in let e = a.same in at (simp (map-append, append_assoc, append-nil, e)) (k n (ss ++ a.tree ∷ []) (xs ++ a.placed) (unclosed h a.spelled))

pub loop_stmts_empty : Keeps RULE_LOOP_STMTS_EMPTY NAME_LOOP_STMTS
loop_stmts_empty _ (taken t i (acted (means {ts = ts} k none))) n ss xs h = at (simp (map-append, append_assoc, append-nil)) (k n (ss ++ stmt.Empty ∷ []) (xs ++ (plain t ∷ [])) (next_empty t h (one_class CLASS_SEMI t.class i)))

pub loop_stmts_end : Keeps RULE_LOOP_STMTS_END NAME_LOOP_STMTS
loop_stmts_end _ none n ss xs h = mk (IsBody true n) ss xs (all_closed h) (simp append-nil)

pub loop_after_stmt_more : Keeps RULE_LOOP_AFTER_STMT_MORE NAME_LOOP_AFTER_STMT
loop_after_stmt_more _ (taken t i (acted (means {ts = ts} k none))) n ss xs h = at (simp (map-append, append_assoc, append-nil)) (k n ss (xs ++ (plain t ∷ [])) (unclosed_stmts t h (one_class CLASS_SEMI t.class i)))

pub loop_after_stmt_end : Keeps RULE_LOOP_AFTER_STMT_END NAME_LOOP_AFTER_STMT
loop_after_stmt_end _ none n ss xs h = mk (IsBody true n) ss xs (unclosed_body h) (simp append-nil)

pub loop_stmt_plain : Keeps RULE_LOOP_STMT_PLAIN NAME_LOOP_STMT
loop_stmt_plain _ (means {ts = ts} d none) n = at (sym (append-nil ts)) (d true n)

pub loop_stmt_if : Keeps RULE_LOOP_STMT_IF NAME_LOOP_STMT
loop_stmt_if _ (acted (taken i h (means {ts = ts} d (acted none)))) n = let a = d n i (one_class CLASS_IF i.class h) in mk (IsStmt true n) a.tree a.placed (branch a.spelled) (a.same ∙ ap (λ (us : List Lexeme). i ∷ us) (sym (append-nil ts)))

pub loop_stmt_block : Keeps RULE_LOOP_STMT_BLOCK NAME_LOOP_STMT
loop_stmt_block _ (means {ts = ts} d (acted none)) = alone_so (IsStmt true) (λ k. stmt.Block k) ts (λ n x xs h. nested h) d

pub loop_stmt_jump : Keeps RULE_LOOP_STMT_JUMP NAME_LOOP_STMT
loop_stmt_jump _ (taken w h (acted none)) n = mk (IsStmt true n) (stmt.Jump w) (plain w ∷ []) (jump w h) refl

pub loop_if_rest_body : Keeps RULE_LOOP_IF_REST_BODY NAME_LOOP_IF_REST
loop_if_rest_body _ (means {ts = ts} d (means {ts = vs} e (means {ts = ws} o none))) n i c = if_body true ts vs ws d e o n i c

pub loop_otherwise_else : Keeps RULE_LOOP_OTHERWISE_ELSE NAME_LOOP_OTHERWISE
loop_otherwise_else _ (taken l i (means {ts = ts} d none)) n x ps h = at (simp append-nil) (d n x ps l h (one_class CLASS_ELSE l.class i))

pub loop_otherwise_none : Keeps RULE_LOOP_OTHERWISE_NONE NAME_LOOP_OTHERWISE
loop_otherwise_none _ (acted none) n x ps h = mk (IsIf true n) (stmt.If x.0.0 x.0.1 x.1 None) ps (half_only h) (simp append-nil)

pub loop_other_block : Keeps RULE_LOOP_OTHER_BLOCK NAME_LOOP_OTHER
loop_other_block _ (means {ts = ts} d (acted (acted none))) n x ps l h c = let a = d n in let e = a.same in mk (IsIf true n) (stmt.If x.0.0 x.0.1 x.1 (Some (stmt.Block a.tree))) (ps ++ (plain l ∷ a.placed)) (half_otherwise l h c a.spelled) (simp (map-append, append-nil, e))

pub loop_other_if : Keeps RULE_LOOP_OTHER_IF NAME_LOOP_OTHER
loop_other_if _ (acted (taken i g (means {ts = ts} d (acted none)))) n x ps l h c = let a = d (n + 1) i (one_class CLASS_IF i.class g) in let e = a.same in mk (IsIf true n) (stmt.If x.0.0 x.0.1 x.1 (Some a.tree)) (ps ++ (opens n l ∷ a.placed)) (half_chain l h c a.spelled) (simp (map-append, append-nil, e))

pub plain_simple : Keeps RULE_PLAIN_SIMPLE NAME_PLAIN
plain_simple _ (acted (means {ts = ts} d (acted (acted none)))) b = alone_so (IsStmt b) (λ x. stmt.Simple x) ts (λ n x xs h. simple h) d

-- `var` as far as its type
pub var_none : {b : Bool} {n : ℕ} {x : (Lexeme × Lexeme) × GoType} {xs : Tokens} → IsVar n x xs → IsStmt b n (stmt.Var x.0.0 x.0.1 x.1 None) xs
var_none (var_start w i h j t) = var w i h j t

pub var_some : {b : Bool} {n : ℕ} {x : (Lexeme × Lexeme) × GoType} {r : Right} {xs us : Tokens} (s : Lexeme) → IsVar n x xs → Is CLASS_ASSIGN s → IsRight false n r us → IsStmt b n (stmt.Var x.0.0 x.0.1 x.1 (Some r)) (xs ++ (plain s ∷ us))
var_some s (var_start w i h j t) l d = var_value w i s h j t l d

pub plain_var : Keeps RULE_PLAIN_VAR NAME_PLAIN
plain_var _ (taken w g (taken i h (means {ts = ts} t (means {ts = vs} k none)))) b n = let a = t n in let e = a.same in at (simp (append-nil, e)) (k b n ((w, i), a.tree) (plain w ∷ plain i ∷ a.placed) (var_start w i (one_class CLASS_VAR w.class g) h a.spelled))

pub plain_for : Keeps RULE_PLAIN_FOR NAME_PLAIN
plain_for _ (taken w g (acted (means {ts = ts} d none))) b n = let a = d n in mk (IsStmt b n) (stmt.For w a.tree.0 a.tree.1) (plain w ∷ a.placed) (loop_stmt w (one_class CLASS_FOR w.class g) a.spelled) (ap (λ (us : List Lexeme). w ∷ us) (a.same ∙ sym (append-nil ts)))

pub plain_return : Keeps RULE_PLAIN_RETURN NAME_PLAIN
plain_return _ (taken w g (acted (acted (means {ts = ts} d none)))) b n = let a = d n in mk (IsStmt b n) (stmt.Return w a.tree) (plain w ∷ a.placed) (rights_stmt w (one_class CLASS_RETURN w.class g) a.spelled) (ap (λ (us : List Lexeme). w ∷ us) (a.same ∙ sym (append-nil ts)))

pub plain_go : Keeps RULE_PLAIN_GO NAME_PLAIN
plain_go _ (taken w g (taken f h (acted (acted (taken o i (taken c j (acted (means {ts = ts} d (acted (acted (taken p l (taken q r (acted (acted none)))))))))))))) b n = let a = d n in let e = a.same in mk (IsStmt b n) (stmt.Go w a.tree) (plain w ∷ plain f ∷ opens n o ∷ plain c ∷ (a.placed ++ (opens n p ∷ plain q ∷ []))) (go w f o c p q (one_class CLASS_GO w.class g) (one_class CLASS_FUNC f.class h) (one_class CLASS_L_PAREN o.class i) (one_class CLASS_R_PAREN c.class j) a.spelled (one_class CLASS_L_PAREN p.class l) (one_class CLASS_R_PAREN q.class r)) (simp (map-append, e))

pub var_rest_value : Keeps RULE_VAR_REST_VALUE NAME_VAR_REST
var_rest_value _ (taken s i (acted (means {ts = ts} d (acted (acted none))))) b n x xs h = let a = d n in let e = a.same in mk (IsStmt b n) (stmt.Var x.0.0 x.0.1 x.1 (Some a.tree)) (xs ++ (plain s ∷ a.placed)) (var_some s h (one_class CLASS_ASSIGN s.class i) a.spelled) (simp (map-append, append-nil, e))

pub var_rest_none : Keeps RULE_VAR_REST_NONE NAME_VAR_REST
var_rest_none _ (acted none) b n x xs h = mk (IsStmt b n) (stmt.Var x.0.0 x.0.1 x.1 None) xs (var_none h) (simp append-nil)

pub file_whole : Keeps RULE_FILE_WHOLE NAME_FILE
file_whole _ (taken p g (taken i h (taken s j (acted (means {ts = ts} d (acted (means {ts = vs} e (acted none)))))))) n = let a = d n [] [] no_imports in let b = e n [] [] no_decls in let x = a.same in let y = b.same in mk (IsFile n) (record { name = i; imports = a.tree; decls = b.tree }) (plain p ∷ plain i ∷ plain s ∷ (a.placed ++ b.placed)) (file p i s (one_class CLASS_PACKAGE p.class g) h (one_class CLASS_SEMI s.class j) a.spelled b.spelled) (simp (map-append, append-nil, x, y))

pub imports_more : Keeps RULE_IMPORTS_MORE NAME_IMPORTS
imports_more _ (taken w g (means {ts = ts} d (taken t i (acted (means {ts = vs} k none))))) n xs ps h = let a = d n in let e = a.same in at (simp (map-append, append_assoc, append-nil, e)) (k n (xs ++ a.tree ∷ []) (ps ++ (plain w ∷ (a.placed ++ (plain t ∷ [])))) (next_import w t h (one_class CLASS_IMPORT w.class g) a.spelled (one_class CLASS_SEMI t.class i)))

pub imports_end : Keeps RULE_IMPORTS_END NAME_IMPORTS
imports_end _ none = end_here IsImports

pub imp_one : Keeps RULE_IMP_ONE NAME_IMP
imp_one _ (acted (taken t i (acted none))) n = mk (IsImport n) (t ∷ []) (plain t ∷ []) (one_import t (one_class CLASS_TEXT t.class i)) refl

pub imp_many : Keeps RULE_IMP_MANY NAME_IMP
imp_many _ (acted (acted (taken o i (acted (means {ts = ts} d (taken c j (acted (acted none)))))))) n = let a = d n [] [] fresh in let e = a.same in mk (IsImport n) a.tree (opens n o ∷ (a.placed ++ (plain c ∷ []))) (imports o c (one_class CLASS_L_PAREN o.class i) a.spelled (one_class CLASS_R_PAREN c.class j)) (simp (map-append, e))

pub decls_more : Keeps RULE_DECLS_MORE NAME_DECLS
decls_more _ (means {ts = ts} d (taken t i (acted (means {ts = vs} k none)))) n xs ps h = let a = d n in let e = a.same in at (simp (map-append, append_assoc, append-nil, e)) (k n (xs ++ a.tree ∷ []) (ps ++ (a.placed ++ (plain t ∷ []))) (next_decl t h a.spelled (one_class CLASS_SEMI t.class i)))

pub decls_end : Keeps RULE_DECLS_END NAME_DECLS
decls_end _ none = end_here IsDecls

pub decl_struct : Keeps RULE_DECL_STRUCT NAME_DECL
decl_struct _ (taken w g (taken i h (taken s j (taken o l (acted (means {ts = ts} d (taken c p (acted none)))))))) n = let a = d n [] [] fresh in let e = a.same in mk (IsDecl n) (Struct i a.tree) (plain w ∷ plain i ∷ plain s ∷ plain o ∷ (a.placed ++ (plain c ∷ []))) (struct w i s o c (one_class CLASS_TYPE w.class g) h (one_class CLASS_STRUCT s.class j) (one_class CLASS_L_BRACE o.class l) a.spelled (one_class CLASS_R_BRACE c.class p)) (simp (map-append, e))

pub decl_const : Keeps RULE_DECL_CONST NAME_DECL
decl_const _ (taken w g (taken i h (means {ts = ts} k none))) n = at (simp append-nil) (k n i (plain w ∷ plain i ∷ []) (const_start w i (one_class CLASS_CONST w.class g) h))

pub const_plain : {n : ℕ} {i : Lexeme} {e : Expr} {xs us : Tokens} (s : Lexeme) → IsConst n i xs → Is CLASS_ASSIGN s → IsWhole n e us → IsDecl n (Const i None e) (xs ++ (plain s ∷ us))
const_plain s (const_start w i g h) j d = const w i s g h j d

pub const_typed : {n : ℕ} {i : Lexeme} {e : Expr} {xs us : Tokens} (u s : Lexeme) → IsConst n i xs → Is CLASS_UINT64 u → Is CLASS_ASSIGN s → IsWhole n e us → IsDecl n (Const i (Some u) e) (xs ++ (plain u ∷ plain s ∷ us))
const_typed u s (const_start w i g h) l j d = typed_const w i u s g h l j d

pub const_rest_typed : Keeps RULE_CONST_REST_TYPED NAME_CONST_REST
const_rest_typed _ (taken u i (taken s j (means {ts = ts} d (acted none)))) n x xs h = let a = d n in let e = a.same in mk (IsDecl n) (Const x (Some u) a.tree) (xs ++ (plain u ∷ plain s ∷ a.placed)) (const_typed u s h (one_class CLASS_UINT64 u.class i) (one_class CLASS_ASSIGN s.class j) a.spelled) (simp (map-append, append-nil, e))

pub const_rest_plain : Keeps RULE_CONST_REST_PLAIN NAME_CONST_REST
const_rest_plain _ (taken s j (means {ts = ts} d (acted none))) n x xs h = let a = d n in let e = a.same in mk (IsDecl n) (Const x None a.tree) (xs ++ (plain s ∷ a.placed)) (const_plain s h (one_class CLASS_ASSIGN s.class j) a.spelled) (simp (map-append, append-nil, e))

pub decl_func : Keeps RULE_DECL_FUNC NAME_DECL
decl_func _ (taken w g (means {ts = ts} r (taken i h (acted (acted (taken o j (acted (means {ts = us} p (taken c l (acted (acted (means {ts = vs} q (means {ts = ws} d (acted none)))))))))))))) n = let a = r n in let b = p n [] [] fresh in let t = q n in let k = d n in let e1 = a.same in let e2 = b.same in let e3 = t.same in let e4 = k.same in mk (IsDecl n) (decl.Func (record { receiver = a.tree; name = i; params = b.tree; results = t.tree; body = k.tree })) (plain w ∷ (a.placed ++ (plain i ∷ opens n o ∷ (b.placed ++ (plain c ∷ (t.placed ++ k.placed)))))) (func w i o c (one_class CLASS_FUNC w.class g) a.spelled h (one_class CLASS_L_PAREN o.class j) b.spelled (one_class CLASS_R_PAREN c.class l) t.spelled k.spelled) (simp (map-append, append-nil, e1, e2, e3, e4))

pub receiver_some : Keeps RULE_RECEIVER_SOME NAME_RECEIVER
receiver_some _ (acted (acted (taken o g (taken i h (taken s j (taken t l (taken c p (acted (acted none))))))))) n = mk (IsReceiver n) (Some (record { name = i; of = t })) (opens n o ∷ plain i ∷ plain s ∷ plain t ∷ plain c ∷ []) (receiver o i s t c (one_class CLASS_L_PAREN o.class g) h (one_class CLASS_STAR s.class j) l (one_class CLASS_R_PAREN c.class p)) refl

pub receiver_none : Keeps RULE_RECEIVER_NONE NAME_RECEIVER
receiver_none _ (acted none) n = mk (IsReceiver n) None [] no_receiver refl

pub group_names : Keeps RULE_GROUP_NAMES NAME_GROUP
group_names _ (acted (taken i h (acted (means {ts = ts} k (means {ts = vs} t (acted none)))))) n = let a = k n (i ∷ []) (plain i ∷ []) (first (one_name i h)) in let b = t n in let e = a.same in let f = b.same in mk IsGroup (record { names = a.tree; kind = b.tree }) (a.placed ++ b.placed) (group a.spelled b.spelled) (simp (map-append, append-nil, e, f))

pub more_names_more : Keeps RULE_MORE_NAMES_MORE NAME_MORE_NAMES
more_names_more _ (taken t i (acted (taken x h (acted (means {ts = ts} k none))))) n xs ps d = at (simp (map-append, append_assoc, append-nil)) (k n (xs ++ x ∷ []) (ps ++ (plain t ∷ plain x ∷ [])) (next t d (one_class CLASS_COMMA t.class i) (one_name x h)))

pub more_names_end : Keeps RULE_MORE_NAMES_END NAME_MORE_NAMES
more_names_end _ none = end_here (λ n. IsItems IsName CLASS_COMMA)

pub results_one : Keeps RULE_RESULTS_ONE NAME_RESULTS
results_one _ (means {ts = ts} d (acted none)) = alone_so IsResults (λ t. t ∷ []) ts (λ n x xs h. one_result h) d

pub results_many : Keeps RULE_RESULTS_MANY NAME_RESULTS
results_many _ (acted (acted (taken o i (acted (means {ts = ts} d (acted (means {ts = vs} k (taken c j (acted (acted none)))))))))) n = let a = d n in let b = k n (a.tree ∷ []) a.placed (first a.spelled) in let e = a.same in let f = b.same in mk (IsResults n) b.tree (opens n o ∷ (b.placed ++ (plain c ∷ []))) (results o c (one_class CLASS_L_PAREN o.class i) b.spelled (one_class CLASS_R_PAREN c.class j)) (simp (map-append, append_assoc, f, e))

pub results_none : Keeps RULE_RESULTS_NONE NAME_RESULTS
results_none _ none n = mk (IsResults n) [] [] no_results refl

pub more_types_more : Keeps RULE_MORE_TYPES_MORE NAME_MORE_TYPES
more_types_more _ (taken t i (acted (means {ts = ts} d (acted (means {ts = vs} k none))))) n xs ps h = let a = d n in let e = a.same in at (simp (map-append, append_assoc, append-nil, e)) (k n (xs ++ a.tree ∷ []) (ps ++ (plain t ∷ a.placed)) (next t h (one_class CLASS_COMMA t.class i) a.spelled))

pub more_types_end : Keeps RULE_MORE_TYPES_END NAME_MORE_TYPES
more_types_end _ none = end_here (λ n. IsItems IsType CLASS_COMMA)
