-- What stands on top of the parts that an act takes, by its tests. Made by tools/nodes.py from gosyntax.grammar: edit that.
use Rattle.std.proofs.Common.{◌≡◌, ℕ, Bool, true, false, List, [], ◌∷◌, Option, Some, None, refl, ap}
use Rattle.std.specs.Prelude.{if◌then◌else◌}
use Rattle.std.proofs.lemmas.Bool.{false≢true}
use Rattle.gv_grammar.specs.Building.{has_tops, accepts, made_by}
use Rattle.gv_grammar.proofs.Tests.{both}
use Rattle.gv_gosyntax.specs.declared.generated.gosyntax_acts.Part.{Part}
use Rattle.gv_gosyntax.specs.declared.generated.gosyntax_acts.Part.TheVariants.{Names as PNames, Imports as PImports, Expr as PExpr, Exprs as PExprs, Bound as PBound, Keyed as PKeyed, Call as PCall, Right as PRight, Rights as PRights, Simple as PSimple, Part as PPart, Stmt as PStmt, Stmts as PStmts, Block as PBlock, Pointed as PPointed, GoType as PGoType, Types as PTypes, Receiver as PReceiver, Groups as PGroups, Decl as PDecl, Decls as PDecls, File as PFile, Token as PToken}
use Rattle.gv_gosyntax.specs.declared.tree.Block.{Block}
use Rattle.gv_gosyntax.specs.declared.tree.Call.{Call}
use Rattle.gv_gosyntax.specs.declared.tree.Decl.{Decl}
use Rattle.gv_gosyntax.specs.declared.tree.Expr.{Expr}
use Rattle.gv_gosyntax.specs.declared.tree.File.{File}
use Rattle.gv_gosyntax.specs.declared.tree.GoType.{GoType}
use Rattle.gv_gosyntax.specs.declared.tree.Group.{Group}
use Rattle.gv_gosyntax.specs.declared.tree.KeyedExpr.{KeyedExpr}
use Rattle.gv_gosyntax.specs.declared.lexeme.Lexeme.{Lexeme}
use Rattle.gv_gosyntax.specs.declared.tree.Pointed.{Pointed}
use Rattle.gv_gosyntax.specs.declared.tree.Receiver.{Receiver}
use Rattle.gv_gosyntax.specs.declared.tree.Right.{Right}
use Rattle.gv_gosyntax.specs.declared.tree.Simple.{Simple}
use Rattle.gv_gosyntax.specs.declared.tree.Stmt.{Stmt}
use Rattle.gv_gosyntax.specs.GosyntaxActs.{gosyntax_acts, is_block, is_bound, is_call, is_decl, is_decls, is_expr, is_exprs, is_file, is_go_type, is_groups, is_imports, is_keyed, is_names, is_part, is_pointed, is_receiver, is_right, is_rights, is_simple, is_stmt, is_stmts, is_token, is_types}
use Rattle.gv_gosyntax.specs.Nodes.{done_by}

-- what an act that makes something has taken, and what it made
pub accepted : (act : ℕ) (parts made : List Part) → done_by act parts ≡ Some made → (accepts gosyntax_acts act parts ≡ true) × (made ≡ made_by gosyntax_acts act parts)
unfolding done_by
accepted act parts made h = go (accepts gosyntax_acts act parts) refl h
  where
    go : (b : Bool) → accepts gosyntax_acts act parts ≡ b → (if b then Some (made_by gosyntax_acts act parts) else None) ≡ Some made
        → (accepts gosyntax_acts act parts ≡ true) × (made ≡ made_by gosyntax_acts act parts)
    go false e h = absurd cc
    go true e h = (e, cc)

-- what follows from the part on top and the others
abbrev pub Topped : {K : Type 0} → (K → Part) → List (Part → Bool) → List Part → Type 0 → Type 0
Topped {K} of tests parts G = (top : K) (rest : List Part) → parts ≡ of top ∷ rest → has_tops tests rest ≡ true → G

topped : {K G : Type 0} (of : K → Part) (test : Part → Bool) → ((p : Part) → test p ≡ true → (k : K) × (p ≡ of k))
    → (tests : List (Part → Bool)) (parts : List Part) → has_tops (test ∷ tests) parts ≡ true → Topped of tests parts G → G
topped of test inside tests [] h follows = absurd (false≢true h)
topped of test inside tests (p ∷ ps) h follows =
    let b = both (test p) (has_tops tests ps) h in
    let i = inside p b.0 in
    follows i.0 ps (ap (λ (q : Part). q ∷ ps) i.1) b.1

in_token : (p : Part) → is_token p ≡ true → (k : Lexeme) × (p ≡ PToken k)
in_token (PToken k) h = (k, refl)
in_token p h = absurd (false≢true h)

pub top_token : {G : Type 0} (tests : List (Part → Bool)) (parts : List Part) → has_tops (is_token ∷ tests) parts ≡ true → Topped {K = Lexeme} (λ k. PToken k) tests parts G → G
top_token tests parts h follows = topped (λ (k : Lexeme). PToken k) is_token in_token tests parts h follows

in_names : (p : Part) → is_names p ≡ true → (k : List Lexeme) × (p ≡ PNames k)
in_names (PNames k) h = (k, refl)
in_names p h = absurd (false≢true h)

pub top_names : {G : Type 0} (tests : List (Part → Bool)) (parts : List Part) → has_tops (is_names ∷ tests) parts ≡ true → Topped {K = List Lexeme} (λ k. PNames k) tests parts G → G
top_names tests parts h follows = topped (λ (k : List Lexeme). PNames k) is_names in_names tests parts h follows

in_imports : (p : Part) → is_imports p ≡ true → (k : List (List Lexeme)) × (p ≡ PImports k)
in_imports (PImports k) h = (k, refl)
in_imports p h = absurd (false≢true h)

pub top_imports : {G : Type 0} (tests : List (Part → Bool)) (parts : List Part) → has_tops (is_imports ∷ tests) parts ≡ true → Topped {K = List (List Lexeme)} (λ k. PImports k) tests parts G → G
top_imports tests parts h follows = topped (λ (k : List (List Lexeme)). PImports k) is_imports in_imports tests parts h follows

in_expr : (p : Part) → is_expr p ≡ true → (k : Expr) × (p ≡ PExpr k)
in_expr (PExpr k) h = (k, refl)
in_expr p h = absurd (false≢true h)

pub top_expr : {G : Type 0} (tests : List (Part → Bool)) (parts : List Part) → has_tops (is_expr ∷ tests) parts ≡ true → Topped {K = Expr} (λ k. PExpr k) tests parts G → G
top_expr tests parts h follows = topped (λ (k : Expr). PExpr k) is_expr in_expr tests parts h follows

in_exprs : (p : Part) → is_exprs p ≡ true → (k : List Expr) × (p ≡ PExprs k)
in_exprs (PExprs k) h = (k, refl)
in_exprs p h = absurd (false≢true h)

pub top_exprs : {G : Type 0} (tests : List (Part → Bool)) (parts : List Part) → has_tops (is_exprs ∷ tests) parts ≡ true → Topped {K = List Expr} (λ k. PExprs k) tests parts G → G
top_exprs tests parts h follows = topped (λ (k : List Expr). PExprs k) is_exprs in_exprs tests parts h follows

in_bound : (p : Part) → is_bound p ≡ true → (k : Option Expr) × (p ≡ PBound k)
in_bound (PBound k) h = (k, refl)
in_bound p h = absurd (false≢true h)

pub top_bound : {G : Type 0} (tests : List (Part → Bool)) (parts : List Part) → has_tops (is_bound ∷ tests) parts ≡ true → Topped {K = Option Expr} (λ k. PBound k) tests parts G → G
top_bound tests parts h follows = topped (λ (k : Option Expr). PBound k) is_bound in_bound tests parts h follows

in_keyed : (p : Part) → is_keyed p ≡ true → (k : List KeyedExpr) × (p ≡ PKeyed k)
in_keyed (PKeyed k) h = (k, refl)
in_keyed p h = absurd (false≢true h)

pub top_keyed : {G : Type 0} (tests : List (Part → Bool)) (parts : List Part) → has_tops (is_keyed ∷ tests) parts ≡ true → Topped {K = List KeyedExpr} (λ k. PKeyed k) tests parts G → G
top_keyed tests parts h follows = topped (λ (k : List KeyedExpr). PKeyed k) is_keyed in_keyed tests parts h follows

in_call : (p : Part) → is_call p ≡ true → (k : Call) × (p ≡ PCall k)
in_call (PCall k) h = (k, refl)
in_call p h = absurd (false≢true h)

pub top_call : {G : Type 0} (tests : List (Part → Bool)) (parts : List Part) → has_tops (is_call ∷ tests) parts ≡ true → Topped {K = Call} (λ k. PCall k) tests parts G → G
top_call tests parts h follows = topped (λ (k : Call). PCall k) is_call in_call tests parts h follows

in_right : (p : Part) → is_right p ≡ true → (k : Right) × (p ≡ PRight k)
in_right (PRight k) h = (k, refl)
in_right p h = absurd (false≢true h)

pub top_right : {G : Type 0} (tests : List (Part → Bool)) (parts : List Part) → has_tops (is_right ∷ tests) parts ≡ true → Topped {K = Right} (λ k. PRight k) tests parts G → G
top_right tests parts h follows = topped (λ (k : Right). PRight k) is_right in_right tests parts h follows

in_rights : (p : Part) → is_rights p ≡ true → (k : List Right) × (p ≡ PRights k)
in_rights (PRights k) h = (k, refl)
in_rights p h = absurd (false≢true h)

pub top_rights : {G : Type 0} (tests : List (Part → Bool)) (parts : List Part) → has_tops (is_rights ∷ tests) parts ≡ true → Topped {K = List Right} (λ k. PRights k) tests parts G → G
top_rights tests parts h follows = topped (λ (k : List Right). PRights k) is_rights in_rights tests parts h follows

in_simple : (p : Part) → is_simple p ≡ true → (k : Simple) × (p ≡ PSimple k)
in_simple (PSimple k) h = (k, refl)
in_simple p h = absurd (false≢true h)

pub top_simple : {G : Type 0} (tests : List (Part → Bool)) (parts : List Part) → has_tops (is_simple ∷ tests) parts ≡ true → Topped {K = Simple} (λ k. PSimple k) tests parts G → G
top_simple tests parts h follows = topped (λ (k : Simple). PSimple k) is_simple in_simple tests parts h follows

in_part : (p : Part) → is_part p ≡ true → (k : Option Simple) × (p ≡ PPart k)
in_part (PPart k) h = (k, refl)
in_part p h = absurd (false≢true h)

pub top_part : {G : Type 0} (tests : List (Part → Bool)) (parts : List Part) → has_tops (is_part ∷ tests) parts ≡ true → Topped {K = Option Simple} (λ k. PPart k) tests parts G → G
top_part tests parts h follows = topped (λ (k : Option Simple). PPart k) is_part in_part tests parts h follows

in_stmt : (p : Part) → is_stmt p ≡ true → (k : Stmt) × (p ≡ PStmt k)
in_stmt (PStmt k) h = (k, refl)
in_stmt p h = absurd (false≢true h)

pub top_stmt : {G : Type 0} (tests : List (Part → Bool)) (parts : List Part) → has_tops (is_stmt ∷ tests) parts ≡ true → Topped {K = Stmt} (λ k. PStmt k) tests parts G → G
top_stmt tests parts h follows = topped (λ (k : Stmt). PStmt k) is_stmt in_stmt tests parts h follows

in_stmts : (p : Part) → is_stmts p ≡ true → (k : List Stmt) × (p ≡ PStmts k)
in_stmts (PStmts k) h = (k, refl)
in_stmts p h = absurd (false≢true h)

pub top_stmts : {G : Type 0} (tests : List (Part → Bool)) (parts : List Part) → has_tops (is_stmts ∷ tests) parts ≡ true → Topped {K = List Stmt} (λ k. PStmts k) tests parts G → G
top_stmts tests parts h follows = topped (λ (k : List Stmt). PStmts k) is_stmts in_stmts tests parts h follows

in_block : (p : Part) → is_block p ≡ true → (k : Block) × (p ≡ PBlock k)
in_block (PBlock k) h = (k, refl)
in_block p h = absurd (false≢true h)

pub top_block : {G : Type 0} (tests : List (Part → Bool)) (parts : List Part) → has_tops (is_block ∷ tests) parts ≡ true → Topped {K = Block} (λ k. PBlock k) tests parts G → G
top_block tests parts h follows = topped (λ (k : Block). PBlock k) is_block in_block tests parts h follows

in_pointed : (p : Part) → is_pointed p ≡ true → (k : Pointed) × (p ≡ PPointed k)
in_pointed (PPointed k) h = (k, refl)
in_pointed p h = absurd (false≢true h)

pub top_pointed : {G : Type 0} (tests : List (Part → Bool)) (parts : List Part) → has_tops (is_pointed ∷ tests) parts ≡ true → Topped {K = Pointed} (λ k. PPointed k) tests parts G → G
top_pointed tests parts h follows = topped (λ (k : Pointed). PPointed k) is_pointed in_pointed tests parts h follows

in_go_type : (p : Part) → is_go_type p ≡ true → (k : GoType) × (p ≡ PGoType k)
in_go_type (PGoType k) h = (k, refl)
in_go_type p h = absurd (false≢true h)

pub top_go_type : {G : Type 0} (tests : List (Part → Bool)) (parts : List Part) → has_tops (is_go_type ∷ tests) parts ≡ true → Topped {K = GoType} (λ k. PGoType k) tests parts G → G
top_go_type tests parts h follows = topped (λ (k : GoType). PGoType k) is_go_type in_go_type tests parts h follows

in_types : (p : Part) → is_types p ≡ true → (k : List GoType) × (p ≡ PTypes k)
in_types (PTypes k) h = (k, refl)
in_types p h = absurd (false≢true h)

pub top_types : {G : Type 0} (tests : List (Part → Bool)) (parts : List Part) → has_tops (is_types ∷ tests) parts ≡ true → Topped {K = List GoType} (λ k. PTypes k) tests parts G → G
top_types tests parts h follows = topped (λ (k : List GoType). PTypes k) is_types in_types tests parts h follows

in_receiver : (p : Part) → is_receiver p ≡ true → (k : Option Receiver) × (p ≡ PReceiver k)
in_receiver (PReceiver k) h = (k, refl)
in_receiver p h = absurd (false≢true h)

pub top_receiver : {G : Type 0} (tests : List (Part → Bool)) (parts : List Part) → has_tops (is_receiver ∷ tests) parts ≡ true → Topped {K = Option Receiver} (λ k. PReceiver k) tests parts G → G
top_receiver tests parts h follows = topped (λ (k : Option Receiver). PReceiver k) is_receiver in_receiver tests parts h follows

in_groups : (p : Part) → is_groups p ≡ true → (k : List Group) × (p ≡ PGroups k)
in_groups (PGroups k) h = (k, refl)
in_groups p h = absurd (false≢true h)

pub top_groups : {G : Type 0} (tests : List (Part → Bool)) (parts : List Part) → has_tops (is_groups ∷ tests) parts ≡ true → Topped {K = List Group} (λ k. PGroups k) tests parts G → G
top_groups tests parts h follows = topped (λ (k : List Group). PGroups k) is_groups in_groups tests parts h follows

in_decl : (p : Part) → is_decl p ≡ true → (k : Decl) × (p ≡ PDecl k)
in_decl (PDecl k) h = (k, refl)
in_decl p h = absurd (false≢true h)

pub top_decl : {G : Type 0} (tests : List (Part → Bool)) (parts : List Part) → has_tops (is_decl ∷ tests) parts ≡ true → Topped {K = Decl} (λ k. PDecl k) tests parts G → G
top_decl tests parts h follows = topped (λ (k : Decl). PDecl k) is_decl in_decl tests parts h follows

in_decls : (p : Part) → is_decls p ≡ true → (k : List Decl) × (p ≡ PDecls k)
in_decls (PDecls k) h = (k, refl)
in_decls p h = absurd (false≢true h)

pub top_decls : {G : Type 0} (tests : List (Part → Bool)) (parts : List Part) → has_tops (is_decls ∷ tests) parts ≡ true → Topped {K = List Decl} (λ k. PDecls k) tests parts G → G
top_decls tests parts h follows = topped (λ (k : List Decl). PDecls k) is_decls in_decls tests parts h follows

in_file : (p : Part) → is_file p ≡ true → (k : File) × (p ≡ PFile k)
in_file (PFile k) h = (k, refl)
in_file p h = absurd (false≢true h)

pub top_file : {G : Type 0} (tests : List (Part → Bool)) (parts : List Part) → has_tops (is_file ∷ tests) parts ≡ true → Topped {K = File} (λ k. PFile k) tests parts G → G
top_file tests parts h follows = topped (λ (k : File). PFile k) is_file in_file tests parts h follows
