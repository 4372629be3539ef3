-- A state whose terms are those of a store stands for the same path while the store grows.
use Rattle.std.specs.Prelude.{◌≡◌, ◌<◌, List, [], ◌∷◌, Option, Some, None, length}
use Rattle.gv_terms.specs.declared.term.Term.{Term}
use Rattle.gv_terms.specs.declared.tree.TermTree.{TermTree}
use Rattle.gv_terms.specs.Store.{AreIn, Grows}
use Rattle.gv_commands.specs.declared.atom.Inst.{Inst}
use Rattle.gv_commands.specs.declared.atom.Simple.{Simple}
use Rattle.gv_commands.specs.declared.atom.Simple.TheVariants as simple
use Rattle.gv_commands.specs.declared.atom.Atom.{Atom}
use Rattle.gv_commands.specs.declared.atom.Atom.TheVariants as atom
use Rattle.gv_seats.specs.Paths.{Path}
use Rattle.gv_asserts.specs.declared.stamped.Stamped.{Stamped}
use Rattle.gv_asserts.specs.declared.heap.Heap.{Heap}
use Rattle.gv_asserts.specs.Atoms.{listed}
use Rattle.gv_asserts.specs.Heaps.{IsHeapOf}

-- all terms of an atom, in the order in which they are written
abbrev pub terms_of : {A : Type 0} → Simple A → List A
terms_of (simple.Cell object of field value) = object ∷ value ∷ []
terms_of (simple.Ro object of field value) = object ∷ value ∷ []
terms_of (simple.Slice slice items) = slice ∷ items ∷ []
terms_of (simple.Roslice slice items) = slice ∷ items ∷ []
terms_of (simple.Spare slice) = slice ∷ []
terms_of (simple.Map m entries) = m ∷ entries ∷ []
terms_of (simple.Mutex mutex) = mutex ∷ []
terms_of (simple.Held mutex) = mutex ∷ []
terms_of (simple.Lock mutex guarded) = mutex ∷ guarded.args
terms_of (simple.Master disk address block) = disk ∷ address ∷ block ∷ []
terms_of (simple.Lease disk address block) = disk ∷ address ∷ block ∷ []
terms_of (simple.Down disk) = disk ∷ []
terms_of (simple.Field field value) = value ∷ []
terms_of (simple.Flease field value) = value ∷ []
terms_of (simple.Bmaster book place value) = place ∷ value ∷ []
terms_of (simple.Blease book place value) = place ∷ value ∷ []
terms_of (simple.Token call op args) = call ∷ args
terms_of (simple.Done call reply) = call ∷ listed reply
terms_of (simple.Half name value) = name ∷ value ∷ []
terms_of (simple.Instance i) = i.args

-- all of them are terms of the store
abbrev pub AreOf : List TermTree → List Term → Type 0
AreOf st [] = Unit {0}
AreOf st (t ∷ ts) = (t.id < length st) × AreOf st ts

abbrev pub IsAtomOf : List TermTree → Atom Term → Type 0
IsAtomOf st (atom.Simple a) = AreOf st (terms_of a)
IsAtomOf st (atom.Each e) = (e.low.id < length st) × (e.high.id < length st) × AreOf st e.except × AreOf st (terms_of e.body)

abbrev pub AreAtomsOf : List TermTree → List Stamped → Type 0
AreAtomsOf st [] = Unit {0}
AreAtomsOf st (s ∷ items) = IsAtomOf st s.atom × AreAtomsOf st items

-- the terms of locals that have one
abbrev pub AreLocalsOf : List TermTree → List (Option Term) → Type 0
AreLocalsOf st [] = Unit {0}
AreLocalsOf st (None ∷ locals) = AreLocalsOf st locals
AreLocalsOf st (Some t ∷ locals) = (t.id < length st) × AreLocalsOf st locals

-- all terms of a state
pub record IsStateOf (st : List TermTree) (h : Heap) : Type 0 where
  pub locals : AreLocalsOf st h.locals
  pub facts : AreIn st h.facts
  pub atoms : AreAtomsOf st h.atoms.items
  pub crash : (i : Inst Term) → h.crash ≡ Some i → AreOf st i.args

abbrev pub StayingLaw : Type 0
StayingLaw = (st more : List TermTree) (h : Heap) (p : Path) → Grows st more → IsStateOf st h → IsHeapOf st h p → IsHeapOf more h p
