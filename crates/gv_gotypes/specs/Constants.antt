-- Declared constants: what each is, and what is found in it.
use Rattle.std.specs.Prelude.{ℕ, suc, zero, Bool, true, false, ◌==◌, ◌||◌, if◌then◌else◌, List, [], ◌∷◌, ◌++◌, length, Option, Some, None, slice_get}
use Rattle.gv_base.specs.declared.answers.Code.TheVariants.{WrongType}
use Rattle.gv_gosyntax.specs.declared.lexeme.Lexeme.{Lexeme}
use Rattle.gv_gotypes.specs.Trees as decl
use Rattle.gv_gotypes.specs.Trees.{Decl, File}
use Rattle.gv_gotypes.specs.Trees.{Expr, Constant, Name, Paren, Convert, Select, Index, Slice, Unary, Binary, Bound, left_out, bound}
use Rattle.gv_operands.specs.declared.types.GoType.TheVariants.{Word}
use Rattle.gv_operands.specs.declared.types.Kind.TheVariants.{Untyped, OfWord}
use Rattle.gv_operands.specs.declared.types.Class.{Class}
use Rattle.gv_operands.specs.declared.types.Class.TheVariants.{Fixed}
use Rattle.gv_operands.specs.declared.part.Spot.{Spot}
use Rattle.gv_gotypes.specs.Types.{Finding, Fault}
use Rattle.gv_gotypes.specs.Scopes.{Source, Entity, ConstantOf, Package, Env, name_in, entity_named}
use Rattle.gv_operands.specs.declared.part.Want.TheVariants.{Exactly}
use Rattle.gv_gotypes.specs.Places.{start_of, spot_of, refusal, in_place, unless_refused}
use Rattle.gv_gotypes.specs.Expressions.{operand}
use Rattle.gv_gotypes.specs.Declarations.{outside, without_constants}

-- a declared constant: whether `uint64` stands in its declaration, and its expression
pub record ConstantTree : Type 0 where
  pub is_word : Bool
  pub expr : Expr

abbrev pub is_there : Option Lexeme → Bool
is_there None = false
is_there (Some t) = true

abbrev pub constant_trees : List Decl → List ConstantTree
constant_trees [] = []
constant_trees (decl.Const i u e ∷ ds) = record { is_word = is_there u; expr = e } ∷ constant_trees ds
constant_trees (d ∷ ds) = constant_trees ds

-- ---- what leads back

abbrev pub constant_number : Option Entity → List ℕ
constant_number (Some (ConstantOf n)) = n ∷ []
constant_number e = []

abbrev mutual
  -- the constants that an expression names
  pub named_by : Env → Expr → List ℕ
  named_by env (Constant t) = []
  named_by env (Name t) = constant_number (entity_named env (name_in env.source t))
  named_by env (Paren t e) = named_by env e
  named_by env (Convert t e) = named_by env e
  named_by env (Select e t) = named_by env e
  named_by env (Index e i) = named_by env e ++ named_by env i
  named_by env (Slice e a b) = named_by env e ++ (named_by_bound env a ++ named_by_bound env b)
  named_by env (Unary t e) = named_by env e
  named_by env (Binary a t b) = named_by env a ++ named_by env b

  pub named_by_bound : Env → Bound → List ℕ
  named_by_bound env left_out = []
  named_by_bound env (bound e) = named_by env e

abbrev pub named_of : Env → List ConstantTree → ℕ → List ℕ
named_of env cs n = elim (slice_get cs n) [ None ↦ [] | Some c ↦ named_by env c.expr ]

abbrev pub some_number : (ℕ → Bool) → List ℕ → Bool
some_number f [] = false
some_number f (n ∷ ns) = f n || some_number f ns

-- an expression leads to a constant over at most so many others
abbrev pub leads : ℕ → Env → List ConstantTree → ℕ → ℕ → Bool
leads zero env cs from to = false
leads (suc most) env cs from to = some_number (λ n. n == to || leads most env cs n to) (named_of env cs from)

-- the expression of a constant leads back to that constant
abbrev pub leads_back : Env → List ConstantTree → ℕ → Bool
leads_back env cs n = leads (length cs) env cs n n

-- ---- what it is

-- a constant with a value; with `uint64` in its declaration, a word
abbrev pub settled_constant : Bool → Option Class → Option Class
settled_constant is_word (Some (Fixed OfWord (Some v))) = Some (Fixed OfWord (Some v))
settled_constant true (Some (Fixed Untyped (Some v))) = Some (Fixed OfWord (Some v))
settled_constant false (Some (Fixed k (Some v))) = Some (Fixed k (Some v))
settled_constant is_word c = None

-- Each constant by what the others are: where one is nothing yet, so are those that name it.
abbrev pub round : Env → List ConstantTree → List (Option Class)
round env [] = []
round env (c ∷ cs) = settled_constant c.is_word (operand env c.expr).class ∷ round env cs

abbrev pub with_constants : Package → List (Option Class) → Package
with_constants p ks = record { names = p.names; structs = p.structs; procedures = p.procedures; constants = ks }

-- So many rounds from where no constant is anything. After as many rounds as there are constants nothing changes, and what leads back to itself
-- is nothing.
abbrev pub rounds : ℕ → Source → Package → List ConstantTree → List (Option Class)
rounds zero s p cs = []
rounds (suc n) s p cs = round (outside s (with_constants p (rounds n s p cs))) cs

-- all that a package declares
abbrev pub declared_by : Source → File → Package
declared_by s f = let cs = constant_trees f.decls in let p = without_constants s f in with_constants p (rounds (length cs) s p cs)

-- ---- what is found in it

-- with `uint64` it stands in the place of a word; else it must be a constant
abbrev pub constant_place : Bool → Spot → Option Class → List Finding
constant_place true e c = in_place e (Exactly Word) c
constant_place false e None = []
constant_place false e (Some (Fixed k v)) = refusal e (Fixed k v)
constant_place false e (Some c) = unless_refused (refusal e c) (Fault e.start WrongType ∷ [])

-- What is found in the declaration of the constant with a number. One with `uint64` takes constants alone, as any does: outside of functions
-- there is nothing else that a word is made of.
abbrev pub constant_findings : Env → List ConstantTree → ℕ → Bool → Expr → List Finding
constant_findings env cs n is_word e = let o = operand env e in
    (if leads_back env cs n then Fault (start_of e) WrongType ∷ [] else [])
    ++ (o.findings ++ constant_place is_word (spot_of e) o.class)
