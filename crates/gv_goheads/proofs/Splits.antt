-- Lists that are taken from the end.
use Rattle.std.proofs.Common.{◌≡◌, ℕ, ◌<◌, List, [], ◌∷◌, ◌++◌, length, sym, ap, ◌∙◌, append_assoc, refl, arith}
use Rattle.std.proofs.lemmas.List.{append-nil}
use Rattle.std.specs.Prelude.{Option}
use Rattle.gv_gosyntax.specs.declared.generated.gosyntax_acts.Part.{Part}
use Rattle.gv_gosyntax.specs.declared.generated.gosyntax_acts.Part.TheVariants.{Decl as PDecl, Decls as PDecls, GoType as PGoType, Groups as PGroups, Imports as PImports, Names as PNames, Receiver as PReceiver, Types as PTypes}
use Rattle.gv_gosyntax.specs.declared.lexeme.Lexeme.{Lexeme}
use Rattle.gv_gosyntax.specs.declared.node.Node.{Node}
use Rattle.gv_gosyntax.specs.declared.tree.Decl.{Decl}
use Rattle.gv_gosyntax.specs.declared.tree.GoType.{GoType}
use Rattle.gv_gosyntax.specs.declared.tree.Group.{Group}
use Rattle.gv_gosyntax.specs.declared.tree.Receiver.{Receiver}
use Rattle.gv_gosyntax.specs.Nodes.{IsPartAt}
use Rattle.gv_gonodes.specs.Places.{IsBefore}
use Rattle.gv_gonodes.specs.Decl.{IsSomeDecl}
use Rattle.gv_gonodes.specs.Decls.{IsSomeDecls}
use Rattle.gv_gonodes.specs.GoType.{IsSomeGoType}
use Rattle.gv_gonodes.specs.Groups.{IsSomeGroups}
use Rattle.gv_gonodes.specs.Imports.{IsSomeImports}
use Rattle.gv_gonodes.specs.Names.{IsSomeNames}
use Rattle.gv_gonodes.specs.Receiver.{IsSomeReceiver}
use Rattle.gv_gonodes.specs.Types.{IsSomeTypes}
use Rattle.gv_gotypes.specs.Declarations.{all_imports}
use Rattle.gv_gotypes.specs.Trees.{decl_of}
use Rattle.gv_goheads.specs.declared.head.Head.{Head}
use Rattle.gv_goheads.specs.Heads.{head_of, heads_of}

-- the first items are made at a place, and the others are done
pub record IsSplit {T : Type 0} (nodes : List Node) (part : List T → Part) (place : ℕ) (done whole : List T) : Type 0 where
  pub lefts : List T
  pub there : IsPartAt nodes place (part lefts)
  pub same : whole ≡ lefts ++ done

pub split_more : {T : Type 0} (nodes : List Node) (part : List T → Part) (place inner : ℕ) (done whole grown ys : List T) (y : T) → (s : IsSplit nodes part place done whole) → s.lefts ≡ ys ++ y ∷ []
    → IsPartAt nodes inner (part ys) → grown ≡ y ∷ done → IsSplit nodes part inner grown whole
split_more nodes part place inner done whole grown ys y s made there is = record {
  lefts = ys;
  there = there;
  same = s.same ∙ ap (λ xs. xs ++ done) made ∙ append_assoc ys (y ∷ []) done ∙ ap (λ xs. ys ++ xs) (sym is);
}

pub split_past : {T : Type 0} (nodes : List Node) (part : List T → Part) (place inner : ℕ) (done whole ys : List T) → (s : IsSplit nodes part place done whole) → s.lefts ≡ ys
    → IsPartAt nodes inner (part ys) → IsSplit nodes part inner done whole
split_past nodes part place inner done whole ys s made there = record { lefts = ys; there = there; same = s.same ∙ ap (λ xs. xs ++ done) made }

pub split_all : {T : Type 0} (nodes : List Node) (part : List T → Part) (place : ℕ) (done whole : List T) → (s : IsSplit nodes part place done whole) → s.lefts ≡ [] → whole ≡ done
split_all nodes part place done whole s e = s.same ∙ ap (λ xs. xs ++ done) e

-- ---- imports

all_more : (tss : List (List Lexeme)) (ts : List Lexeme) → all_imports (tss ++ ts ∷ []) ≡ all_imports tss ++ ts
all_more [] ts = append-nil ts
all_more (us ∷ tss) ts = ap (λ xs. us ++ xs) (all_more tss ts) ∙ sym (append_assoc us (all_imports tss) ts)

-- the first imports are made at a place, and the paths of the others are done
pub record AreImported (nodes : List Node) (place : ℕ) (done : List Lexeme) (tss : List (List Lexeme)) : Type 0 where
  pub lefts : List (List Lexeme)
  pub there : IsPartAt nodes place (PImports lefts)
  pub same : all_imports tss ≡ all_imports lefts ++ done

pub imported_more : (nodes : List Node) (place inner : ℕ) (done grown ts : List Lexeme) (tss uss : List (List Lexeme)) → (s : AreImported nodes place done tss) → s.lefts ≡ uss ++ ts ∷ []
    → IsPartAt nodes inner (PImports uss) → grown ≡ ts ++ done → AreImported nodes inner grown tss
imported_more nodes place inner done grown ts tss uss s made there is = record {
  lefts = uss;
  there = there;
  same = s.same ∙ ap (λ xs. all_imports xs ++ done) made ∙ ap (λ xs. xs ++ done) (all_more uss ts) ∙ append_assoc (all_imports uss) ts done ∙ ap (λ xs. all_imports uss ++ xs) (sym is);
}

-- ---- heads

heads_more : (ds : List Decl) (d : Decl) → heads_of (ds ++ d ∷ []) ≡ heads_of ds ++ head_of (decl_of d) ∷ []
heads_more [] d = refl
heads_more (e ∷ ds) d = ap (λ hs. head_of (decl_of e) ∷ hs) (heads_more ds d)

-- the first declarations are made at a place, and the heads of the others are done
pub record AreHeaded (nodes : List Node) (place : ℕ) (done : List Head) (ds : List Decl) : Type 0 where
  pub lefts : List Decl
  pub there : IsPartAt nodes place (PDecls lefts)
  pub same : heads_of ds ≡ heads_of lefts ++ done

pub headed_more : (nodes : List Node) (place inner : ℕ) (done grown : List Head) (h : Head) (ds es : List Decl) (d : Decl) → (s : AreHeaded nodes place done ds) → s.lefts ≡ es ++ d ∷ []
    → IsPartAt nodes inner (PDecls es) → h ≡ head_of (decl_of d) → grown ≡ h ∷ done → AreHeaded nodes inner grown ds
headed_more nodes place inner done grown h ds es d s made there head is = record {
  lefts = es;
  there = there;
  same = s.same ∙ ap (λ xs. heads_of xs ++ done) made ∙ ap (λ xs. xs ++ done) (heads_more es d) ∙ append_assoc (heads_of es) (head_of (decl_of d) ∷ []) done
      ∙ ap (λ x. heads_of es ++ x ∷ done) (sym head) ∙ ap (λ xs. heads_of es ++ xs) (sym is);
}

-- ---- parts of nodes before others

pub names_there : (nodes : List Node) (at inner : ℕ) (ts : List Lexeme) → at < length nodes → IsBefore nodes at inner (PNames ts) → IsSomeNames nodes inner
names_there nodes at inner ts l is = let k = is.before in record { whole = ts; within = omega (arith, l, k); part = is.is }

pub imports_there : (nodes : List Node) (at inner : ℕ) (tss : List (List Lexeme)) → at < length nodes → IsBefore nodes at inner (PImports tss) → IsSomeImports nodes inner
imports_there nodes at inner tss l is = let k = is.before in record { whole = tss; within = omega (arith, l, k); part = is.is }

pub types_there : (nodes : List Node) (at inner : ℕ) (ts : List GoType) → at < length nodes → IsBefore nodes at inner (PTypes ts) → IsSomeTypes nodes inner
types_there nodes at inner ts l is = let k = is.before in record { whole = ts; within = omega (arith, l, k); part = is.is }

pub type_there : (nodes : List Node) (at inner : ℕ) (t : GoType) → at < length nodes → IsBefore nodes at inner (PGoType t) → IsSomeGoType nodes inner
type_there nodes at inner t l is = let k = is.before in record { whole = t; within = omega (arith, l, k); part = is.is }

pub groups_there : (nodes : List Node) (at inner : ℕ) (gs : List Group) → at < length nodes → IsBefore nodes at inner (PGroups gs) → IsSomeGroups nodes inner
groups_there nodes at inner gs l is = let k = is.before in record { whole = gs; within = omega (arith, l, k); part = is.is }

pub receiver_there : (nodes : List Node) (at inner : ℕ) (r : Option Receiver) → at < length nodes → IsBefore nodes at inner (PReceiver r) → IsSomeReceiver nodes inner
receiver_there nodes at inner r l is = let k = is.before in record { whole = r; within = omega (arith, l, k); part = is.is }

pub decl_there : (nodes : List Node) (at inner : ℕ) (d : Decl) → at < length nodes → IsBefore nodes at inner (PDecl d) → IsSomeDecl nodes inner
decl_there nodes at inner d l is = let k = is.before in record { whole = d; within = omega (arith, l, k); part = is.is }

pub decls_there : (nodes : List Node) (at inner : ℕ) (ds : List Decl) → at < length nodes → IsBefore nodes at inner (PDecls ds) → IsSomeDecls nodes inner
decls_there nodes at inner ds l is = let k = is.before in record { whole = ds; within = omega (arith, l, k); part = is.is }
