-- Rules about copies, the crash invariant, locals, cells and locks keep what a path speaks of.
use Rattle.std.proofs.Common.{List, [], ◌∷◌, Option}
use Rattle.gv_terms.specs.declared.tree.TermTree.{TermTree}
use Rattle.gv_lang.specs.Todo.{Todo}
use Rattle.gv_resources.specs.Kinds as kind
use Rattle.gv_assertions.specs.Atoms.{Atom, Owns, Instance}
use Rattle.gv_instances.specs.Agreeing.{AreClosedAtoms}
use Rattle.gv_seats.specs.Paths.{Path, goes_on}
use Rattle.gv_seats.specs.Seats.{Proof}
use Rattle.gv_seats.specs.Scoping.{IsScoped}
use Rattle.gv_rules.specs.Rows.{Copies, Opens, Closes, Lets, Loads, Stores, Locks, Unlocks, copies, opens, closes, lets, loads, stores, locks_mutex, unlocks_mutex}
use Rattle.gv_appending.proofs.Terms.{term_closed}
use Rattle.gv_scoping.specs.Laws.{KeepsScope, RulesKeep}
use Rattle.gv_scoping.proofs.Closed.{AreClosedLocals, local_set, atom_of, atoms_left, atoms_join, atoms_replaced, replaced_of}

-- a step that brings no variable and no fact
pub stays : (h : Path) (rest : Todo) (locals : List (Option TermTree)) (atoms : List Atom) → IsScoped h → AreClosedLocals h.vars locals → AreClosedAtoms h.vars atoms
    → IsScoped (goes_on h rest locals atoms)
stays h rest locals atoms s l a = record { locals = l; facts = s.facts; atoms = a; start = s.start }

copies_keep : (o : Proof) → KeepsScope (Copies o)
copies_keep o h _ (copies a left takes persistent) s = record {
  locals = s.locals;
  facts = s.facts;
  atoms = atoms_join h.vars h.atoms (a ∷ []) s.atoms (atom_of h.vars takes s.atoms, tt);
  start = s.start;
}

opens_keep : (o : Proof) → KeepsScope (Opens o)
opens_keep o h _ (opens booted mode bracket) s = record {
  locals = s.locals;
  facts = s.facts;
  atoms = atoms_join h.vars h.atoms (Instance o.crash [] ∷ []) s.atoms (tt, tt);
  start = s.start;
}

closes_keep : (o : Proof) → KeepsScope (Closes o)
closes_keep o h _ (closes left booted bracket takes) s = record { locals = s.locals; facts = s.facts; atoms = atoms_left h.vars takes s.atoms; start = s.start }

lets_keep : KeepsScope Lets
lets_keep h _ (lets x e t sort place rest may todo l term sorted) s =
    stays h rest _ h.atoms s (local_set h.vars h.locals x t l s.locals (term_closed h.vars h.locals s.locals e t term)) s.atoms

loads_keep : KeepsScope Loads
loads_keep h _ (loads x p object v of field frozen left place rest may todo l term object_sort sort v_sort local takes) s =
    stays h rest _ h.atoms s (local_set h.vars h.locals x v l s.locals (atom_of h.vars takes s.atoms).1.0) s.atoms

stores_keep : KeepsScope Stores
stores_keep h _ (stores p e object v t of field atoms place rest may todo p_term object_sort e_term sort t_sort v_sort local replaces) s =
    stays h rest h.locals atoms s s.locals
    (atoms_replaced h.vars replaces s.atoms ((replaced_of h.vars replaces s.atoms).0, (term_closed h.vars h.locals s.locals e t e_term, tt)))

locks_keep : KeepsScope Locks
locks_keep h _ (locks_mutex m object pred args left place rest may todo term sorted takes) s =
    let guard = atom_of h.vars takes s.atoms in
    stays h rest h.locals _ s s.locals (atoms_join h.vars h.atoms (Instance pred args ∷ Owns kind.Held (object ∷ []) [] ∷ []) s.atoms (guard.1.1, ((guard.0, tt), tt)))

unlocks_keep : KeepsScope Unlocks
unlocks_keep h _ (unlocks_mutex m object pred args known without left place rest may todo term sorted takes takes_held takes_guard) s =
    stays h rest h.locals left s s.locals (atoms_left h.vars takes_guard (atoms_left h.vars takes_held s.atoms))

pub rules_keep : RulesKeep
rules_keep = record {
  copies = copies_keep;
  opens = opens_keep;
  closes = closes_keep;
  lets = lets_keep;
  loads = loads_keep;
  stores = stores_keep;
  locks = locks_keep;
  unlocks = unlocks_keep;
}
