-- Statements that are taken from the end, and walked over from the first one on.
use Rattle.std.proofs.Common.{◌≡◌, ℕ, ◌≤◌, List, [], ◌∷◌, ◌++◌, Option, Some, None, refl, sym, ap, subst, ◌∙◌, append_assoc, arith}
use Rattle.gv_gosyntax.specs.declared.generated.gosyntax_acts.Part.TheVariants.{Stmt as PStmt, Stmts as PStmts}
use Rattle.gv_gosyntax.specs.declared.node.Node.{Node}
use Rattle.gv_gosyntax.specs.declared.tree.Stmt.{Stmt as DeclaredStmt}
use Rattle.gv_gosyntax.specs.declared.tree.Stmt.TheVariants as stmt
use Rattle.gv_gosyntax.specs.Nodes.{IsPartAt}
use Rattle.gv_gonodes.specs.Places.{IsBefore}
use Rattle.gv_gonodes.specs.Stmts.{IsStmt, IsEmpty}
use Rattle.gv_gotypes.specs.Types.{Finding}
use Rattle.gv_gotypes.specs.Trees.{Stmt, next}
use Rattle.gv_gotypes.specs.Scopes.{Env}
use Rattle.gv_gotypes.specs.Statements.{after, stmt_findings, stmts_findings}
use Rattle.gv_gotyped.specs.declared.fault.Fault.{Fault}
use Rattle.gv_gotyped.specs.First.{first_of, earliest}
use Rattle.gv_gotyped.proofs.Firsts.{first_both, earliest_of_three}
use Rattle.gv_goends.specs.Trees.{plain, stmt_of}
use Rattle.gv_goends.proofs.Trees.{empty_stmt}
use Rattle.gv_gostmts.specs.Lists.{AreStmts, AreWithin}

-- an empty statement changes nothing
empty_within : (xs ys : List DeclaredStmt) (env : Env) → stmts_findings env (plain (xs ++ ys)) ≡ stmts_findings env (plain (xs ++ stmt.Empty ∷ ys))
empty_within [] ys env = sym (ap (λ (s : Stmt). stmts_findings env (next s (plain ys))) empty_stmt)
empty_within (x ∷ xs) ys env = ap (λ (fs : List Finding). stmt_findings env (stmt_of x) ++ fs) (empty_within xs ys (after env (stmt_of x)))

-- statements, of which the last ones stand at places, and the others are made at one
pub record IsSplit (nodes : List Node) (at place : ℕ) (places : List ℕ) (ss : List DeclaredStmt) : Type 0 where
  pub before : List DeclaredStmt
  pub done : List DeclaredStmt
  pub there : IsPartAt nodes place (PStmts before)
  pub are : AreStmts nodes at places done
  pub same : (env : Env) → stmts_findings env (plain (before ++ done)) ≡ stmts_findings env (plain ss)

pub split_more : (nodes : List Node) (at place stmts one : ℕ) (places : List ℕ) (ss : List DeclaredStmt) → place ≤ at → (s : IsSplit nodes at place places ss)
    → IsStmt nodes place stmts one s.before → IsSplit nodes at stmts (one ∷ places) ss
split_more nodes at place stmts one places ss below s m = record {
  before = m.of_stmts;
  done = m.of_stmt ∷ s.done;
  there = m.at_stmts.is;
  are = (record { before = (let k = m.at_stmt.before in omega (arith, k, below)); is = m.at_stmt.is }, s.are);
  same = λ env. sym (ap (λ (xs : List DeclaredStmt). stmts_findings env (plain xs))
      (ap (λ (xs : List DeclaredStmt). xs ++ s.done) m.made ∙ append_assoc m.of_stmts (m.of_stmt ∷ []) s.done)) ∙ s.same env;
}

pub split_empty : (nodes : List Node) (at place stmts : ℕ) (places : List ℕ) (ss : List DeclaredStmt) → (s : IsSplit nodes at place places ss)
    → IsEmpty nodes place stmts s.before → IsSplit nodes at stmts places ss
split_empty nodes at place stmts places ss s m = record {
  before = m.of_stmts;
  done = s.done;
  there = m.at_stmts.is;
  are = s.are;
  same = λ env. empty_within m.of_stmts s.done env
      ∙ sym (ap (λ (xs : List DeclaredStmt). stmts_findings env (plain xs))
      (ap (λ (xs : List DeclaredStmt). xs ++ s.done) m.made ∙ append_assoc m.of_stmts (stmt.Empty ∷ []) s.done)) ∙ s.same env;
}

pub split_all : (nodes : List Node) (at place : ℕ) (places : List ℕ) (ss : List DeclaredStmt) → (s : IsSplit nodes at place places ss) → s.before ≡ [] → AreWithin nodes at places ss
split_all nodes at place places ss s e = record {
  of_places = s.done;
  are = s.are;
  same = λ env. sym (ap (λ (xs : List DeclaredStmt). stmts_findings env (plain (xs ++ s.done))) e) ∙ s.same env;
}

-- ---- from the first one on

pub record First (nodes : List Node) (limit place : ℕ) (rest : List ℕ) (ss : List DeclaredStmt) : Type 0 where
  pub of_first : DeclaredStmt
  pub of_rest : List DeclaredStmt
  pub same : ss ≡ of_first ∷ of_rest
  pub there : IsBefore nodes limit place (PStmt of_first)
  pub are : AreStmts nodes limit rest of_rest

by_cons : (nodes : List Node) (limit place : ℕ) (rest : List ℕ) (ss : List DeclaredStmt) → AreStmts nodes limit (place ∷ rest) ss → First nodes limit place rest ss
by_cons nodes limit place rest [] h = absurd h
by_cons nodes limit place rest (s ∷ ss) h = record { of_first = s; of_rest = ss; same = refl; there = h.0; are = h.1 }

pub split : (nodes : List Node) (limit : ℕ) (ps : List ℕ) (place : ℕ) (rest : List ℕ) (ss : List DeclaredStmt) → ps ≡ place ∷ rest → AreStmts nodes limit ps ss → First nodes limit place rest ss
split nodes limit ps place rest ss q h = by_cons nodes limit place rest ss (subst (λ (x : List ℕ). AreStmts nodes limit x ss) q h)

by_nil : (nodes : List Node) (limit : ℕ) (ss : List DeclaredStmt) → AreStmts nodes limit [] ss → ss ≡ []
by_nil nodes limit [] h = refl
by_nil nodes limit (s ∷ ss) h = absurd h

pub nothing : (nodes : List Node) (limit : ℕ) (ps : List ℕ) (ss : List DeclaredStmt) → ps ≡ [] → AreStmts nodes limit ps ss → ss ≡ []
nothing nodes limit ps ss q h = by_nil nodes limit ss (subst (λ (x : List ℕ). AreStmts nodes limit x ss) q h)

-- what is told of them all, by what was told of those before and by those that are left
pub record Walked (before now : Env) (nodes : List Node) (limit : ℕ) (places : List ℕ) (first : Option Fault) (ss : List DeclaredStmt) : Type 0 where
  pub left : List DeclaredStmt
  pub are : AreStmts nodes limit places left
  pub told : first_of (stmts_findings before (plain ss)) ≡ earliest first (first_of (stmts_findings now (plain left)))

pub walked_more : (before now after_it : Env) (nodes : List Node) (limit : ℕ) (places rest : List ℕ) (place : ℕ) (first own then : Option Fault) (ss : List DeclaredStmt)
    → (w : Walked before now nodes limit places first ss) → (f : First nodes limit place rest w.left)
    → own ≡ first_of (stmt_findings now (stmt_of f.of_first)) → after_it ≡ after now (stmt_of f.of_first) → then ≡ earliest first own
    → Walked before after_it nodes limit rest then ss
walked_more before now after_it nodes limit places rest place first own then ss w f o a t =
    let here = stmt_findings now (stmt_of f.of_first) in let behind = stmts_findings (after now (stmt_of f.of_first)) (plain f.of_rest) in record {
      left = f.of_rest;
      are = f.are;
      told = w.told
          ∙ ap (λ (xs : List DeclaredStmt). earliest first (first_of (stmts_findings now (plain xs)))) f.same
          ∙ ap (λ (x : Option Fault). earliest first x) (first_both here behind ∙ ap (λ (x : Option Fault). earliest x (first_of behind)) (sym o))
          ∙ sym (earliest_of_three first own (first_of behind))
          ∙ ap (λ (x : Option Fault). earliest x (first_of behind)) (sym t)
          ∙ ap (λ (e : Env). earliest then (first_of (stmts_findings e (plain f.of_rest)))) (sym a);
    }

pub walked_all : (before now : Env) (nodes : List Node) (limit : ℕ) (places : List ℕ) (first : Option Fault) (ss : List DeclaredStmt)
    → (w : Walked before now nodes limit places first ss) → w.left ≡ [] → first ≡ first_of (stmts_findings before (plain ss))
walked_all before now nodes limit places first ss w e =
    sym (w.told ∙ ap (λ (xs : List DeclaredStmt). earliest first (first_of (stmts_findings now (plain xs)))) e ∙ none first)
  where
    none : (a : Option Fault) → earliest a None ≡ a
    none None = refl
    none (Some f) = refl
