-- A state whose terms are those of a store stands for the same path while the store grows.
use Rattle.std.proofs.Common.{◌≡◌, ◌<◌, List, [], ◌∷◌, Some, None, length, refl, ap, sym, ◌∙◌}
use Rattle.std.specs.Prelude.{Option, map, option_map}
use Rattle.gv_terms.specs.declared.term.Term.{Term}
use Rattle.gv_terms.specs.declared.tree.TermTree.{TermTree}
use Rattle.gv_terms.specs.Store.{tree_at, Grows}
use Rattle.gv_known.proofs.Nodes.{tree_kept}
use Rattle.gv_axioms.proofs.Stacks.{same_trees}
use Rattle.gv_commands.specs.declared.atom.Inst.{Inst}
use Rattle.gv_commands.specs.declared.atom.Simple.{Simple}
use Rattle.gv_commands.specs.declared.atom.Simple.TheVariants as simple
use Rattle.gv_commands.specs.declared.atom.Atom.{Atom}
use Rattle.gv_commands.specs.declared.atom.Atom.TheVariants as atom
use Rattle.gv_asserts.specs.declared.stamped.Stamped.{Stamped}
use Rattle.gv_asserts.specs.Atoms.{map_inst, map_simple, assertion_of, atom_at}
use Rattle.gv_asserts.specs.Heaps.{local_at, instance_at}
use Rattle.gv_asserts.specs.Staying.{terms_of, AreOf, IsAtomOf, AreAtomsOf, AreLocalsOf, StayingLaw}

module _ (st more : List TermTree) (grows : Grows st more) where
  abbrev old : Term → TermTree
  old t = tree_at st t.id

  abbrev new : Term → TermTree
  new t = tree_at more t.id

  kept : (t : Term) → t.id < length st → new t ≡ old t
  kept t l = tree_kept st more t l grows

  all_kept : (ts : List Term) → AreOf st ts → map new ts ≡ map old ts
  all_kept [] are = refl
  all_kept (t ∷ ts) are = let first = kept t are.0 in let rest = all_kept ts are.1 in cc

  inst_kept : (i : Inst Term) → AreOf st i.args → map_inst new i ≡ map_inst old i
  inst_kept i are = ap (λ ts. record { pred = i.pred; args = ts }) (all_kept i.args are)

  simple_kept : (a : Simple Term) → AreOf st (terms_of a) → map_simple new a ≡ map_simple old a
  simple_kept (simple.Cell object of field value) are = let a = kept object are.0 in let b = kept value are.1.0 in cc
  simple_kept (simple.Ro object of field value) are = let a = kept object are.0 in let b = kept value are.1.0 in cc
  simple_kept (simple.Slice slice items) are = let a = kept slice are.0 in let b = kept items are.1.0 in cc
  simple_kept (simple.Roslice slice items) are = let a = kept slice are.0 in let b = kept items are.1.0 in cc
  simple_kept (simple.Spare slice) are = let a = kept slice are.0 in cc
  simple_kept (simple.Map m entries) are = let a = kept m are.0 in let b = kept entries are.1.0 in cc
  simple_kept (simple.Mutex mutex) are = let a = kept mutex are.0 in cc
  simple_kept (simple.Held mutex) are = let a = kept mutex are.0 in cc
  simple_kept (simple.Lock mutex guarded) are = let a = kept mutex are.0 in let b = inst_kept guarded are.1 in cc
  simple_kept (simple.Master disk address block) are = let a = kept disk are.0 in let b = kept address are.1.0 in let c = kept block are.1.1.0 in cc
  simple_kept (simple.Lease disk address block) are = let a = kept disk are.0 in let b = kept address are.1.0 in let c = kept block are.1.1.0 in cc
  simple_kept (simple.Down disk) are = let a = kept disk are.0 in cc
  simple_kept (simple.Field field value) are = let a = kept value are.0 in cc
  simple_kept (simple.Flease field value) are = let a = kept value are.0 in cc
  simple_kept (simple.Bmaster book place value) are = let a = kept place are.0 in let b = kept value are.1.0 in cc
  simple_kept (simple.Blease book place value) are = let a = kept place are.0 in let b = kept value are.1.0 in cc
  simple_kept (simple.Token call op args) are = let a = kept call are.0 in let b = all_kept args are.1 in cc
  simple_kept (simple.Done call None) are = let a = kept call are.0 in cc
  simple_kept (simple.Done call (Some reply)) are = let a = kept call are.0 in let b = kept reply are.1.0 in cc
  simple_kept (simple.Half name value) are = let a = kept name are.0 in let b = kept value are.1.0 in cc
  simple_kept (simple.Instance i) are = let a = inst_kept i are in cc

  atom_kept : (a : Atom Term) → IsAtomOf st a → atom_at more a ≡ atom_at st a
  atom_kept (atom.Simple a) are = ap assertion_of (simple_kept a are)
  atom_kept (atom.Each e) are =
      let (low, high, except, body) = are in
      let a = kept e.low low in
      let b = kept e.high high in
      let c = all_kept e.except except in
      let d = ap assertion_of (simple_kept e.body body) in
      cc

  atoms_kept : (items : List Stamped) → AreAtomsOf st items → map (λ s. atom_at more s.atom) items ≡ map (λ s. atom_at st s.atom) items
  atoms_kept [] are = refl
  atoms_kept (s ∷ items) are = let first = atom_kept s.atom are.0 in let rest = atoms_kept items are.1 in cc

  locals_kept : (locals : List (Option Term)) → AreLocalsOf st locals → map (local_at more) locals ≡ map (local_at st) locals
  locals_kept [] are = refl
  locals_kept (None ∷ locals) are = let rest = locals_kept locals are in cc
  locals_kept (Some t ∷ locals) are = let first = kept t are.0 in let rest = locals_kept locals are.1 in cc

  crash_kept : (o : Option (Inst Term)) → ((i : Inst Term) → o ≡ Some i → AreOf st i.args) → option_map (instance_at more) o ≡ option_map (instance_at st) o
  crash_kept None are = refl
  crash_kept (Some i) are = let args = all_kept i.args (are i refl) in cc

pub staying_law : StayingLaw
staying_law st more h p grows of is = record {
  locals = is.locals ∙ sym (locals_kept st more grows h.locals of.locals);
  vars = is.vars;
  facts = is.facts ∙ sym (same_trees st more h.facts of.facts grows);
  atoms = is.atoms ∙ sym (atoms_kept st more grows h.atoms.items of.atoms);
  mode = is.mode;
  bracket = is.bracket;
  booted = is.booted;
  stepped = is.stepped;
  standing = is.standing;
  crash = is.crash ∙ sym (crash_kept st more grows h.crash of.crash);
}
