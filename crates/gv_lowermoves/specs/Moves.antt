-- What the code makes of left sides, beside what the translation makes of them.
use Rattle.std.specs.Prelude.{◌≡◌, ℕ, List, [], ◌∷◌, length, map, None}
use Rattle.gv_base.specs.declared.answers.Place.{Place}
use Rattle.gv_lang.specs.Plain.{expr_of}
use Rattle.gv_lang.specs.Tree as lang
use Rattle.gv_gotypes.specs.Trees.{Expr}
use Rattle.gv_gotypes.specs.Scopes.{Env}
use Rattle.gv_lowering.specs.Operands.{Context, operated, read}
use Rattle.gv_lowering.specs.Operands.{Read as ReadHere}
use Rattle.gv_lowering.specs.Statements as lower
use Rattle.gv_lowering.specs.Statements.{Made}
use Rattle.gv_lowerops.specs.declared.draft.Draft.{Draft}
use Rattle.gv_lowerops.specs.declared.draft.Read.{Read}
use Rattle.gv_lowerops.specs.Tails.{IsBehind}
use Rattle.gv_lowermoves.specs.declared.locals.Target.{Target}
use Rattle.gv_lowermoves.specs.declared.locals.Target.TheVariants as target
use Rattle.gv_lowermoves.specs.declared.locals.Locals.{Locals}
use Rattle.gv_lowermoves.specs.declared.locals.LocalOne.{LocalOne}

abbrev pub target_in : Target → lower.Target
target_in (target.Known x) = lower.Known x
target_in (target.Fresh k) = lower.Fresh k

-- What a statement becomes, behind what was made before.
abbrev pub IsMadeBehind : Draft → Draft → Made → Type 0
IsMadeBehind old new m = IsBehind old new m.cmds m.temps

-- The locals that left sides set, with the temporaries among them in use.
pub record AreGiven (c : Context) (old : Draft) (ts : List Target) (made : Locals) : Type 0 where
  pub locals : made.locals.items ≡ (lower.given c (length old.temps.items) (map target_in ts)).0
  pub behind : IsBehind old made.draft [] (lower.given c (length old.temps.items) (map target_in ts)).1

-- The same of one.
pub record IsGiven (c : Context) (old : Draft) (t : Target) (made : LocalOne) : Type 0 where
  pub local : made.local ∷ [] ≡ (lower.given c (length old.temps.items) (target_in t ∷ [])).0
  pub behind : IsBehind old made.draft [] (lower.given c (length old.temps.items) (target_in t ∷ [])).1

-- An operand where it is read before anything is made: its value there, and nothing more.
pub record IsBefore (c : Context) (at : Place) (env : Env) (old : Draft) (e : Expr) (made : Read) : Type 0 where
  pub behind : IsBehind old made.draft [] []
  pub value : expr_of made.value ≡ (read c at env e None (length old.temps.items)).value

-- a target gets what it was with an operand
abbrev pub updated_by : Context → Place → ℕ → Target → ℕ → lang.Expr → ReadHere → Made
updated_by c at n t sign before r = lower.set c at n (target_in t ∷ []) (record { before = r.cmds; temps = r.temps; last = operated sign before r.value })

-- a read of a map sets the first two locals
abbrev pub IsFound : Context → Place → Draft → List Target → lang.Expr → lang.Expr → Draft → Type 0
IsFound c at old ts m k new = let xs = lower.given c (length old.temps.items) (map target_in ts) in
    IsBehind old new (lang.Do (lang.MapGet (lower.first_of xs.0) (lower.second_of xs.0) m k) at ∷ []) xs.1
