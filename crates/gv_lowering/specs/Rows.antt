-- Worked rows: the program of a sum, and the procedures of a package with every kind of statement, computed.
use Rattle.std.specs.Prelude.{◌≡◌, ℕ, true, [], ◌∷◌, ◌++◌, codes, None}
use Rattle.gv_base.specs.declared.answers.Place.{Place}
use Rattle.gv_lang.specs.declared.pure.Binary.TheVariants as binary
use Rattle.gv_lang.specs.declared.program.LocalKind.TheVariants as kind
use Rattle.gv_lang.specs.WellShaped.{is_well_shaped}
use Rattle.gv_gosyntax.specs.declared.lexeme.Lexeme.{Lexeme}
use Rattle.gv_gosyntax.specs.declared.tree.GoType.{GoType}
use Rattle.gv_gotypes.specs.Trees as go
use Rattle.gv_gotypes.specs.Kinds.{kind_of as type_of}
use Rattle.gv_gotypes.specs.Scopes.{Env, name_in, is_blank}
use Rattle.gv_lowering.specs.Operands.{Context, kind_if, temporary}
use Rattle.gv_lowering.specs.Statements.{made, zero_of, at_byte}
use Rattle.gv_lowering.specs.Bodies.{Post, stmt}
use Rattle.gv_lang.specs.Tree.{LocalAt, Let, Two, New, Do, Return, finish, next, Program}
use Rattle.gv_gotypes.specs.Rows.{adder_source, adder_file}
use Rattle.gv_lowering.specs.More.{more_source, more_file, more}
use Rattle.gv_lowering.specs.Programs.{program_of}
use Rattle.gv_lowering.specs.Shapes.{shapes_source, shapes_file, shapes}
use Rattle.std.specs.Fmt.{decimal}

abbrev at : ℕ → ℕ → Place
at line column = record { line = line; column = column }

-- func Recover() *Adder { return &Adder{} }, and func (s *Adder) Add(a uint64, b uint64) uint64 { return a + b }
abbrev pub adder : Program
adder = record {
  structs = record { name = codes "Adder"; fields = [] } ∷ [];
  procs = record {
    name = codes "Recover";
    params = 0;
    locals = record { name = codes "t." ++ decimal 1; kind = kind.Ref } ∷ [];
    results = kind.Ref ∷ [];
    body = next (Do (New 0 0 []) (at 6 2)) (next (Return (LocalAt 0 ∷ []) (at 6 2)) finish);
  }
      ∷ record {
        name = codes "Adder.Add";
        params = 3;
        locals = record { name = codes "s"; kind = kind.Ref } ∷ record { name = codes "a"; kind = kind.Word } ∷ record { name = codes "b"; kind = kind.Word } ∷ [];
        results = kind.Word ∷ [];
        body = next (Return (Two binary.Plus (LocalAt 1) (LocalAt 2) ∷ []) (at 10 2)) finish;
      } ∷ [];
  recover = 0;
  ops = 1 ∷ [];
}

-- `var _ T` sets a temporary of its kind to zero, and declares nothing
abbrev pub BlankIsTemporary : Type 0
BlankIsTemporary = (c : Context) (w t : Lexeme) (k : GoType) (env : Env) (post : Post) (n : ℕ) → is_blank (name_in env.source t) ≡ true
    → stmt c (go.Var w t k None) env post n
    ≡ made (Do (Let (temporary c n) (zero_of (type_of env k))) (at_byte env w.start) ∷ []) (kind_if (type_of env k) ∷ [])

pub record Rows : Type 0 where
  pub blank : BlankIsTemporary
  pub sum : program_of adder_source adder_file ≡ adder
  pub statements : program_of shapes_source shapes_file ≡ shapes
  pub more_statements : program_of more_source more_file ≡ more
  pub shaped : is_well_shaped shapes ≡ true
  pub more_shaped : is_well_shaped more ≡ true
