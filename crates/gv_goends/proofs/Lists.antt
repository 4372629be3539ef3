-- Lists of statements that grow at their end.
use Rattle.std.proofs.Common.{◌≡◌, Bool, true, false, ◌||◌, List, [], ◌∷◌, ◌++◌, refl, ap, ◌∙◌}
use Rattle.std.specs.Prelude.{if◌then◌else◌}
use Rattle.gv_gosyntax.specs.declared.tree.Stmt.{Stmt as DeclaredStmt}
use Rattle.gv_gosyntax.specs.declared.tree.Stmt.TheVariants as stmt
use Rattle.gv_gotypes.specs.Trees.{Stmt, Empty, Stmts, no_more, next}
use Rattle.gv_gotypes.specs.Returns.{breaks, stmts_break, ends, stmts_end, is_empty}
use Rattle.gv_goends.specs.Trees.{stmt_of, plain}
use Rattle.gv_goends.proofs.Trees.{empty_stmt}

pub or_none : (b : Bool) → (b || false) ≡ b
or_none true = refl
or_none false = refl

or_three : (a b c : Bool) → (a || (b || c)) ≡ ((a || b) || c)
or_three true b c = refl
or_three false b c = refl

or_true : (b : Bool) → (b || true) ≡ true
or_true true = refl
or_true false = refl

more_break : (ss : List DeclaredStmt) (s : DeclaredStmt) → stmts_break (plain (ss ++ s ∷ [])) ≡ (stmts_break (plain ss) || breaks (stmt_of s))
more_break [] s = or_none (breaks (stmt_of s))
more_break (t ∷ ss) s = ap (λ (b : Bool). breaks (stmt_of t) || b) (more_break ss s) ∙ or_three (breaks (stmt_of t)) (stmts_break (plain ss)) (breaks (stmt_of s))

-- a last statement with a break, one without, and an empty one
pub break_last : (ss : List DeclaredStmt) (s : DeclaredStmt) → breaks (stmt_of s) ≡ true → stmts_break (plain (ss ++ s ∷ [])) ≡ true
break_last ss s e = more_break ss s ∙ ap (λ (b : Bool). stmts_break (plain ss) || b) e ∙ or_true (stmts_break (plain ss))

pub break_before : (ss : List DeclaredStmt) (s : DeclaredStmt) → breaks (stmt_of s) ≡ false → stmts_break (plain (ss ++ s ∷ [])) ≡ stmts_break (plain ss)
break_before ss s e = more_break ss s ∙ ap (λ (b : Bool). stmts_break (plain ss) || b) e ∙ or_none (stmts_break (plain ss))

pub no_break : breaks (stmt_of stmt.Empty) ≡ false
no_break = ap breaks empty_stmt

-- ---- ends

empty_behind : (x : Stmt) (us vs : Stmts) → is_empty us ≡ is_empty vs → is_empty (next x us) ≡ is_empty (next x vs)
empty_behind Empty us vs e = e
empty_behind other us vs e = refl

some_behind : (x : Stmt) (us : Stmts) → is_empty us ≡ false → is_empty (next x us) ≡ false
some_behind Empty us e = e
some_behind other us e = refl

empty_more : (ss : List DeclaredStmt) → is_empty (plain (ss ++ stmt.Empty ∷ [])) ≡ is_empty (plain ss)
empty_more [] = ap (λ (s : Stmt). is_empty (next s no_more)) empty_stmt
empty_more (t ∷ ss) = empty_behind (stmt_of t) (plain (ss ++ stmt.Empty ∷ [])) (plain ss) (empty_more ss)

pub end_before : (ss : List DeclaredStmt) → stmts_end (plain (ss ++ stmt.Empty ∷ [])) ≡ stmts_end (plain ss)
end_before [] = ap (λ (s : Stmt). stmts_end (next s no_more)) empty_stmt
end_before (t ∷ ss) =
    ap (λ (b : Bool). if b then ends (stmt_of t) else stmts_end (plain (ss ++ stmt.Empty ∷ []))) (empty_more ss)
    ∙ ap (λ (b : Bool). if is_empty (plain ss) then ends (stmt_of t) else b) (end_before ss)

not_empty : (ss : List DeclaredStmt) (s : DeclaredStmt) → is_empty (next (stmt_of s) no_more) ≡ false → is_empty (plain (ss ++ s ∷ [])) ≡ false
not_empty [] s h = h
not_empty (t ∷ ss) s h = some_behind (stmt_of t) (plain (ss ++ s ∷ [])) (not_empty ss s h)

pub end_last : (ss : List DeclaredStmt) (s : DeclaredStmt) → is_empty (next (stmt_of s) no_more) ≡ false → stmts_end (plain (ss ++ s ∷ [])) ≡ ends (stmt_of s)
end_last [] s h = refl
end_last (t ∷ ss) s h =
    ap (λ (b : Bool). if b then ends (stmt_of t) else stmts_end (plain (ss ++ s ∷ []))) (not_empty ss s h) ∙ end_last ss s h
