-- When a piece stands for assertions under a valuation. It may own more than they say.
use Rattle.std.specs.Prelude.{◌≡◌, ◌≢◌, ℕ, ◌+◌, ◌<◌, ◌≤◌, Bool, true, List, [], ◌∷◌, ◌++◌, Option, Some, None, map, length, slice_get}
use Rattle.gv_base.specs.declared.slice_val.SliceVal.{SliceVal}
use Rattle.gv_terms.specs.declared.tree.TermTree.{TermTree}
use Rattle.gv_terms.specs.declared.value.Value.{Value}
use Rattle.gv_terms.specs.declared.value.Value.TheVariants as val
use Rattle.gv_terms.specs.declared.value.Env.{Env}
use Rattle.gv_terms.specs.declared.var.Var.{Var}
use Rattle.gv_terms.specs.Values.{has_sort, word_of, slice_of}
use Rattle.gv_terms.specs.Trees.{value_under}
use Rattle.gv_atomic.specs.Choices.{bound, binds}
use Rattle.gv_resources.specs.Kinds as kind
use Rattle.gv_resources.specs.Kinds.{Kind, item_kind}
use Rattle.gv_resources.specs.Pieces.{Resource, Have, Piece, sum_below}
use Rattle.gv_terms.specs.Ranges.{IsInRange}
use Rattle.gv_assertions.specs.Atoms.{Atom, Owns, Slice, Spare, Instance, Each, Case, Predicate, facts_of, atoms_of}

abbrev pub valued : Env → List TermTree → List Value
valued env ts = map (value_under env) ts

abbrev pub number_under : Env → TermTree → ℕ
number_under env t = word_of (value_under env t)

-- ---- facts, and the valuations of a case

abbrev pub IsTrueUnder : Env → TermTree → Type 0
IsTrueUnder env fact = value_under env fact ≡ val.Bool true

abbrev pub AreTrueUnder : Env → List TermTree → Type 0
AreTrueUnder env [] = Unit {0}
AreTrueUnder env (fact ∷ facts) = IsTrueUnder env fact × AreTrueUnder env facts

-- as many values as variables, each of its variable's sort, and one that can be
abbrev pub AreValuesOf : List Var → List Value → Type 0
AreValuesOf [] [] = Unit {0}
AreValuesOf [] (v ∷ values) = ⊥
AreValuesOf (x ∷ vars) [] = ⊥
AreValuesOf (x ∷ vars) (v ∷ values) = (has_sort v x.sort ≡ true) × IsInRange v × AreValuesOf vars values

abbrev pub names_of : List Var → List (List ℕ)
names_of vars = map (λ x. x.name) vars

-- the parameters have the arguments' values, and the case's own variables some values
abbrev pub case_env : Predicate → Case → (args own : List Value) → Env
case_env pred case args own = binds (bound (names_of pred.params) args ++ bound (names_of case.vars) own)

-- a valuation with a number under a name
abbrev pub indexed : Env → List ℕ → ℕ → Env
indexed env index n = binds (record { name = index; value = val.Word n } ∷ env.bindings)

-- the number is none of these
abbrev pub IsNoneOf : Env → List TermTree → ℕ → Type 0
IsNoneOf env [] n = Unit {0}
IsNoneOf env (t ∷ ts) n = (n ≢ number_under env t) × IsNoneOf env ts n

-- ---- keys

-- an object and a place in it; the struct's number tells assertions apart, and no resources
abbrev pub without_struct : List Value → List Value
without_struct (object ∷ of ∷ place ∷ []) = object ∷ place ∷ []
without_struct _ = []

-- the key of the resource that an assertion with this key names
abbrev pub owned_key : Kind → List Value → List Value
owned_key kind.Cell key = without_struct key
owned_key kind.FrozenCell key = without_struct key
owned_key _ key = key

-- ---- slices

-- the items of a list as cells hold them, a byte as the byte string of it alone; only bytes, words and references are items of a slice
abbrev pub items_of : Value → Option (List Value)
items_of (val.Bytes x) = Some (map (λ b. val.Bytes (b ∷ [])) x)
items_of (val.Words x) = Some (map (λ w. val.Word w) x)
items_of (val.Refs x) = Some (map (λ r. val.Ref r) x)
items_of _ = None

-- the key of the cell at a place of a slice, counted from its offset
abbrev pub cell_key : SliceVal → ℕ → List Value
cell_key s place = val.Ref s.object ∷ val.Word (s.offset + place) ∷ []

-- the cells from a place on have these items, one after another
abbrev pub OwnsItems : Kind → SliceVal → ℕ → List Value → Piece → Type 0
OwnsItems k s place [] p = Unit {0}
OwnsItems k s place (v ∷ items) p = (0 < p (Have k (cell_key s place) (v ∷ []))) × OwnsItems k s (place + 1) items p

-- the cells of the slice, as many as there are items
pub record OwnsSlice (frozen : Bool) (s : SliceVal) (list : Value) (p : Piece) : Type 0 where
  pub items : List Value
  pub of_list : items_of list ≡ Some items
  pub as_many : length items ≡ s.length
  pub cells : OwnsItems (item_kind frozen) s 0 items p

abbrev pub OwnsSpare : SliceVal → Piece → Type 0
OwnsSpare s p = (place : ℕ) → s.length ≤ place → place < s.capacity → (v : Value) × (0 < p (Have kind.Item (cell_key s place) (v ∷ [])))

-- ---- all assertions

-- two pieces are parts of a third
abbrev pub AreParts : Piece → Piece → Piece → Type 0
AreParts q r p = (e : Resource) → q e + r e ≤ p e

mutual
  pub data StandsFor (preds : List Predicate) : Env → Atom → Piece → Type 0 where
    owns : {env : Env} {k : Kind} {key value : List TermTree} {p : Piece} → 0 < p (Have k (owned_key k (valued env key)) (valued env value))
        → StandsFor preds env (Owns k key value) p
    slice : {env : Env} {frozen : Bool} {s items : TermTree} {p : Piece} → OwnsSlice frozen (slice_of (value_under env s)) (value_under env items) p
        → StandsFor preds env (Slice frozen s items) p
    spare : {env : Env} {s : TermTree} {p : Piece} → OwnsSpare (slice_of (value_under env s)) p → StandsFor preds env (Spare s) p
    -- one of the predicate's cases, under some values of its own variables
    instance : {env : Env} {number : ℕ} {args : List TermTree} {p : Piece} (pred : Predicate) (place : ℕ) (case : Case) (own : List Value)
        → slice_get preds number ≡ Some pred → slice_get pred.cases place ≡ Some case → AreValuesOf case.vars own
        → AreTrueUnder (case_env pred case (valued env args) own) (facts_of case.items)
        → StandForAll preds (case_env pred case (valued env args) own) (atoms_of case.items) p
        → StandsFor preds env (Instance number args) p
    -- a part for each number
    each : {env : Env} {index : List ℕ} {low high : TermTree} {except : List TermTree} {a : Atom} {p : Piece} (parts : ℕ → Piece)
        → ((e : Resource) → sum_below (number_under env high) (λ n. parts n e) ≤ p e)
        → ((n : ℕ) → number_under env low ≤ n → n < number_under env high → IsNoneOf env except n → StandsFor preds (indexed env index n) a (parts n))
        → StandsFor preds env (Each index low high except a) p

  -- a part for each assertion
  pub data StandForAll (preds : List Predicate) : Env → List Atom → Piece → Type 0 where
    none : {env : Env} {p : Piece} → StandForAll preds env [] p
    both : {env : Env} {a : Atom} {all : List Atom} {p : Piece} (q r : Piece) → AreParts q r p → StandsFor preds env a q → StandForAll preds env all r
        → StandForAll preds env (a ∷ all) p
