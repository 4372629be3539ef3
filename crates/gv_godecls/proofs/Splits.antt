-- Declarations that are taken from the end.
use Rattle.std.proofs.Common.{◌≡◌, ℕ, ◌≤◌, ◌<◌, List, [], ◌∷◌, ◌++◌, length, sym, ap, ◌∙◌, append_assoc, subst, arith}
use Rattle.gv_gosyntax.specs.declared.generated.gosyntax_acts.Part.TheVariants.{Decls as PDecls}
use Rattle.gv_gosyntax.specs.declared.node.Node.{Node}
use Rattle.gv_gosyntax.specs.declared.tree.Decl.{Decl}
use Rattle.gv_gosyntax.specs.Nodes.{IsPartAt}
use Rattle.gv_gonodes.specs.Places.{IsBefore}
use Rattle.gv_gonodes.specs.Decls.{IsDecl, IsSomeDecls}
use Rattle.gv_godecls.specs.Placed.{AreDecls}

-- declarations, of which the last ones stand at places, and the others are made at one
pub record IsSplit (nodes : List Node) (at place : ℕ) (places : List ℕ) (ds : List Decl) : Type 0 where
  pub before : List Decl
  pub done : List Decl
  pub whole : ds ≡ before ++ done
  pub there : IsPartAt nodes place (PDecls before)
  pub are : AreDecls nodes at places done

pub split_more : (nodes : List Node) (at place decls decl : ℕ) (places : List ℕ) (ds : List Decl) → place ≤ at → (s : IsSplit nodes at place places ds) → IsDecl nodes place decls decl s.before
    → IsSplit nodes at decls (decl ∷ places) ds
split_more nodes at place decls decl places ds below s m = record {
  before = m.of_decls;
  done = m.of_decl ∷ s.done;
  whole = s.whole ∙ ap (λ (xs : List Decl). xs ++ s.done) m.made ∙ append_assoc m.of_decls (m.of_decl ∷ []) s.done;
  there = m.at_decls.is;
  are = (record { before = (let k = m.at_decl.before in omega (arith, k, below)); is = m.at_decl.is }, s.are);
}

pub split_all : (nodes : List Node) (at place : ℕ) (places : List ℕ) (ds : List Decl) → (s : IsSplit nodes at place places ds) → s.before ≡ [] → AreDecls nodes at places ds
split_all nodes at place places ds s e = subst (AreDecls nodes at places) (sym (s.whole ∙ ap (λ (xs : List Decl). xs ++ s.done) e)) s.are

pub decls_there : (nodes : List Node) (at inner : ℕ) (ds : List Decl) → at < length nodes → IsBefore nodes at inner (PDecls ds) → IsSomeDecls nodes inner
decls_there nodes at inner ds l is = let k = is.before in record { whole = ds; within = omega (arith, l, k); part = is.is }
