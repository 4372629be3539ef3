-- What the rows of atoms say of what a crash keeps, what may be copied, and what is no token; and the same of atoms and predicates, from
-- what is noted of each predicate.
use Rattle.std.specs.Prelude.{ℕ, Bool, true, List, [], ◌∷◌, ◌++◌, Option, Some, None, slice_get}
use Rattle.std.specs.List.{list_all}
use Rattle.gv_resources.specs.Kinds as kind
use Rattle.gv_resources.specs.Kinds.{Kind, is_durable, is_persistent, is_token_free}
use Rattle.gv_commands.specs.declared.atom.Simple.{Simple}
use Rattle.gv_commands.specs.declared.atom.Simple.TheVariants as simple
use Rattle.gv_commands.specs.declared.atom.Atom.{Atom}
use Rattle.gv_commands.specs.declared.atom.Atom.TheVariants as atom
use Rattle.gv_commands.specs.declared.decls.Item.{Item}
use Rattle.gv_commands.specs.declared.decls.Item.TheVariants as item
use Rattle.gv_commands.specs.declared.decls.Case.{Case}
use Rattle.gv_commands.specs.declared.decls.Pred.{Pred}
use Rattle.gv_asserts.specs.declared.quality.Quality.{Quality}
use Rattle.gv_asserts.specs.declared.quality.Quality.TheVariants as quality
use Rattle.gv_asserts.specs.declared.quality.Kept.{Kept}

-- ---- rows

abbrev pub keeps : Quality → Kind → Bool
keeps quality.Durable k = is_durable k
keeps quality.Persistent k = is_persistent k
keeps quality.TokenFree k = is_token_free k

-- the kind of the resources that an atom names; an instance names none by itself
abbrev pub resource_of : {A : Type 0} → Simple A → Option Kind
resource_of (simple.Cell object of field value) = Some kind.Cell
resource_of (simple.Ro object of field value) = Some kind.FrozenCell
resource_of (simple.Slice slice items) = Some kind.Item
resource_of (simple.Roslice slice items) = Some kind.FrozenItem
resource_of (simple.Spare slice) = Some kind.Item
resource_of (simple.Map m entries) = Some kind.Map
resource_of (simple.Mutex mutex) = Some kind.Mutex
resource_of (simple.Held mutex) = Some kind.Held
resource_of (simple.Lock mutex guarded) = Some kind.Lock
resource_of (simple.Master disk address block) = Some kind.Master
resource_of (simple.Lease disk address block) = Some kind.Lease
resource_of (simple.Down disk) = Some kind.Down
resource_of (simple.Field field value) = Some kind.Field
resource_of (simple.Flease field value) = Some kind.FieldLease
resource_of (simple.Bmaster book place value) = Some kind.BookMaster
resource_of (simple.Blease book place value) = Some kind.BookLease
resource_of (simple.Token call op args) = Some kind.Token
resource_of (simple.Done call reply) = Some kind.Done
resource_of (simple.Half name value) = Some kind.Half
resource_of (simple.Instance i) = None

-- ---- from what is noted of each predicate

abbrev pub noted : Quality → Kept → Bool
noted quality.Durable k = k.durable
noted quality.Persistent k = k.persistent
noted quality.TokenFree k = k.token_free

-- of a predicate; one that isn't declared has no case
abbrev pub noted_in : Quality → Option Kept → Bool
noted_in q None = true
noted_in q (Some k) = noted q k

abbrev pub noted_at : Quality → List Kept → ℕ → Bool
noted_at q table n = noted_in q (slice_get table n)

abbrev pub simple_keeps : {A : Type 0} → Quality → List Kept → Simple A → Bool
simple_keeps q table (simple.Cell object of field value) = keeps q kind.Cell
simple_keeps q table (simple.Ro object of field value) = keeps q kind.FrozenCell
simple_keeps q table (simple.Slice slice items) = keeps q kind.Item
simple_keeps q table (simple.Roslice slice items) = keeps q kind.FrozenItem
simple_keeps q table (simple.Spare slice) = keeps q kind.Item
simple_keeps q table (simple.Map m entries) = keeps q kind.Map
simple_keeps q table (simple.Mutex mutex) = keeps q kind.Mutex
simple_keeps q table (simple.Held mutex) = keeps q kind.Held
simple_keeps q table (simple.Lock mutex guarded) = keeps q kind.Lock
simple_keeps q table (simple.Master disk address block) = keeps q kind.Master
simple_keeps q table (simple.Lease disk address block) = keeps q kind.Lease
simple_keeps q table (simple.Down disk) = keeps q kind.Down
simple_keeps q table (simple.Field field value) = keeps q kind.Field
simple_keeps q table (simple.Flease field value) = keeps q kind.FieldLease
simple_keeps q table (simple.Bmaster book place value) = keeps q kind.BookMaster
simple_keeps q table (simple.Blease book place value) = keeps q kind.BookLease
simple_keeps q table (simple.Token call op args) = keeps q kind.Token
simple_keeps q table (simple.Done call reply) = keeps q kind.Done
simple_keeps q table (simple.Half name value) = keeps q kind.Half
simple_keeps q table (simple.Instance i) = noted_at q table i.pred

abbrev pub atom_keeps : {A : Type 0} → Quality → List Kept → Atom A → Bool
atom_keeps q table (atom.Simple a) = simple_keeps q table a
atom_keeps q table (atom.Each e) = simple_keeps q table e.body

abbrev pub item_keeps : Quality → List Kept → Item → Bool
item_keeps q table (item.Fact f) = true
item_keeps q table (item.Atom a) = atom_keeps q table a

abbrev pub case_keeps : Quality → List Kept → Case → Bool
case_keeps q table c = list_all (item_keeps q table) c.items

abbrev pub pred_keeps : Quality → List Kept → Pred → Bool
pred_keeps q table p = list_all (case_keeps q table) p.cases

abbrev pub kept_of : List Kept → Pred → Kept
kept_of table p = record {
  durable = pred_keeps quality.Durable table p;
  persistent = pred_keeps quality.Persistent table p;
  token_free = pred_keeps quality.TokenFree table p;
}

-- one predicate after another, each from those before it
abbrev pub table_on : List Kept → List Pred → List Kept
table_on table [] = table
table_on table (p ∷ preds) = table_on (table ++ kept_of table p ∷ []) preds

abbrev pub table_of : List Pred → List Kept
table_of preds = table_on [] preds
