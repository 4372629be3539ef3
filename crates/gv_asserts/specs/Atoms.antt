-- Atoms as they run, and the assertions that they are.
use Rattle.std.specs.Prelude.{ℕ, List, [], ◌∷◌, map, Option, Some, None, option_map, true, false}
use Rattle.gv_terms.specs.declared.term.Term.{Term}
use Rattle.gv_terms.specs.declared.tree.TermTree.{TermTree}
use Rattle.gv_terms.specs.Store.{tree_at}
use Rattle.gv_resources.specs.Kinds as kind
use Rattle.gv_assertions.specs.Atoms as logic
use Rattle.gv_assertions.specs.Atoms.{Owns, Slice, Spare, Instance}
use Rattle.gv_seats.specs.Paths.{number}
use Rattle.gv_commands.specs.declared.atom.Inst.{Inst}
use Rattle.gv_commands.specs.declared.atom.Simple.{Simple}
use Rattle.gv_commands.specs.declared.atom.Simple.TheVariants as simple
use Rattle.gv_commands.specs.declared.atom.Atom.{Atom}
use Rattle.gv_commands.specs.declared.atom.Atom.TheVariants as atom

-- ---- with other terms

abbrev pub map_inst : {A B : Type 0} → (A → B) → Inst A → Inst B
map_inst f i = record { pred = i.pred; args = map f i.args }

abbrev pub map_simple : {A B : Type 0} → (A → B) → Simple A → Simple B
map_simple f (simple.Cell object of field value) = simple.Cell (f object) of field (f value)
map_simple f (simple.Ro object of field value) = simple.Ro (f object) of field (f value)
map_simple f (simple.Slice slice items) = simple.Slice (f slice) (f items)
map_simple f (simple.Roslice slice items) = simple.Roslice (f slice) (f items)
map_simple f (simple.Spare slice) = simple.Spare (f slice)
map_simple f (simple.Map m entries) = simple.Map (f m) (f entries)
map_simple f (simple.Mutex mutex) = simple.Mutex (f mutex)
map_simple f (simple.Held mutex) = simple.Held (f mutex)
map_simple f (simple.Lock mutex guarded) = simple.Lock (f mutex) (map_inst f guarded)
map_simple f (simple.Master disk address block) = simple.Master (f disk) (f address) (f block)
map_simple f (simple.Lease disk address block) = simple.Lease (f disk) (f address) (f block)
map_simple f (simple.Down disk) = simple.Down (f disk)
map_simple f (simple.Field field value) = simple.Field field (f value)
map_simple f (simple.Flease field value) = simple.Flease field (f value)
map_simple f (simple.Bmaster book place value) = simple.Bmaster book (f place) (f value)
map_simple f (simple.Blease book place value) = simple.Blease book (f place) (f value)
map_simple f (simple.Token call op args) = simple.Token (f call) op (map f args)
map_simple f (simple.Done call reply) = simple.Done (f call) (option_map f reply)
map_simple f (simple.Half name value) = simple.Half (f name) (f value)
map_simple f (simple.Instance i) = simple.Instance (map_inst f i)

-- ---- as assertions

abbrev pub listed : {A : Type 0} → Option A → List A
listed None = []
listed (Some x) = x ∷ []

abbrev pub assertion_of : Simple TermTree → logic.Atom
assertion_of (simple.Cell object of field value) = Owns kind.Cell (object ∷ number of ∷ number field ∷ []) (value ∷ [])
assertion_of (simple.Ro object of field value) = Owns kind.FrozenCell (object ∷ number of ∷ number field ∷ []) (value ∷ [])
assertion_of (simple.Slice slice items) = Slice false slice items
assertion_of (simple.Roslice slice items) = Slice true slice items
assertion_of (simple.Spare slice) = Spare slice
assertion_of (simple.Map m entries) = Owns kind.Map (m ∷ []) (entries ∷ [])
assertion_of (simple.Mutex mutex) = Owns kind.Mutex (mutex ∷ []) []
assertion_of (simple.Held mutex) = Owns kind.Held (mutex ∷ []) []
assertion_of (simple.Lock mutex guarded) = Owns kind.Lock (mutex ∷ []) (number guarded.pred ∷ guarded.args)
assertion_of (simple.Master disk address block) = Owns kind.Master (disk ∷ address ∷ []) (block ∷ [])
assertion_of (simple.Lease disk address block) = Owns kind.Lease (disk ∷ address ∷ []) (block ∷ [])
assertion_of (simple.Down disk) = Owns kind.Down (disk ∷ []) []
assertion_of (simple.Field field value) = Owns kind.Field (number field ∷ []) (value ∷ [])
assertion_of (simple.Flease field value) = Owns kind.FieldLease (number field ∷ []) (value ∷ [])
assertion_of (simple.Bmaster book place value) = Owns kind.BookMaster (number book ∷ place ∷ []) (value ∷ [])
assertion_of (simple.Blease book place value) = Owns kind.BookLease (number book ∷ place ∷ []) (value ∷ [])
assertion_of (simple.Token call op args) = Owns kind.Token (call ∷ []) (number op ∷ args)
assertion_of (simple.Done call reply) = Owns kind.Done (call ∷ []) (listed reply)
assertion_of (simple.Half name value) = Owns kind.Half (name ∷ []) (value ∷ [])
assertion_of (simple.Instance i) = Instance i.pred i.args

-- The number of a range is bound under a name that no variable bears, and that a script can't write. So ranges whose bodies differ in
-- the name of the number alone are one assertion, and no term that is put in is caught.
abbrev pub bound : List ℕ
bound = []

-- the assertion that an atom over terms of a store is
abbrev pub simple_at : List TermTree → Simple Term → logic.Atom
simple_at st a = assertion_of (map_simple (λ t. tree_at st t.id) a)

abbrev pub atom_at : List TermTree → Atom Term → logic.Atom
atom_at st (atom.Simple a) = simple_at st a
atom_at st (atom.Each e) =
    logic.Each bound (tree_at st e.low.id) (tree_at st e.high.id) (map (λ t. tree_at st t.id) e.except) (simple_at st e.body)
