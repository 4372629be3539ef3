-- The lines of recovery in a program of one procedure, computed.
use Rattle.std.specs.Prelude.{◌≡◌, [], ◌∷◌, codes}
use Rattle.gv_base.specs.declared.answers.Place.{Place}
use Rattle.gv_lang.specs.declared.program.LocalKind.TheVariants as kind
use Rattle.gv_lang.specs.Tree.{LocalAt, New, Do, Return, finish, next, Program}
use Rattle.gv_pointlines.specs.PointLines.{point_lines}

abbrev here : Place
here = record { line = 6; column = 2 }

-- func Recover() *Adder { return &Adder{} }
abbrev pub adder : Program
adder = record {
  structs = record { name = codes "Adder"; fields = [] } ∷ [];
  procs = record {
    name = codes "Recover";
    params = 0;
    locals = record { name = codes "t.1"; kind = kind.Ref } ∷ [];
    results = kind.Ref ∷ [];
    body = next (Do (New 0 0 []) here) (next (Return (LocalAt 0 ∷ []) here) finish);
  } ∷ [];
  recover = 0;
  ops = [];
}

pub record Worked : Type 0 where
  pub adder : point_lines adder ≡ codes "proc Recover" ∷ codes "1 New t.1 6:2 -> 2" ∷ codes "2 Return 6:2" ∷ []
