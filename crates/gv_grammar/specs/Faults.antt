-- What faults say of the classes.
use Rattle.std.specs.Prelude.{◌≡◌, ℕ, List, ◌++◌, take, length}
use Rattle.gv_grammar.specs.declared.faults.Fault.{Fault}
use Rattle.gv_grammar.specs.declared.faults.Fault.TheVariants.{NoMemory, Refused, End}
use Rattle.gv_grammar.specs.declared.read_faults.ReadFault.{ReadFault}
use Rattle.gv_grammar.specs.declared.read_faults.ReadFault.TheVariants.{NoMemory as ReadNoMemory, Refused as ReadRefused, TooDeep, End as ReadEnd}
use Rattle.gv_grammar.specs.declared.steps.Step.{Step}
use Rattle.gv_grammar.specs.Derivation.{Tables, Spells}
use Rattle.gv_grammar.specs.Levels.{takes_in, IsTooDeep, IsShallow}
use Rattle.gv_grammar.specs.Outcomes.{IsRefusedAt, EndsEarly}

-- what a fault of a derivation says
abbrev pub Explains : Tables → ℕ → List ℕ → Fault → Type 0
Explains g root classes NoMemory = Unit {0}
Explains g root classes (Refused at) = IsRefusedAt g root classes at
Explains g root classes End = EndsEarly g root classes

-- every derivation of a list that begins with these classes begins with the steps, which take no more than these
pub record Begin (g : Tables) (root : ℕ) (seen : List ℕ) (steps : List Step) : Type 0 where
  pub front : (others : List Step) (more : List ℕ) → Spells g root others (seen ++ more) → (rest : List Step) × (others ≡ steps ++ rest)
  pub count : takes_in steps ≡ length seen

-- the steps are those of the classes before the fault
abbrev pub IsFrontOf : Tables → ℕ → List ℕ → List Step → Fault → Type 0
IsFrontOf g root classes steps NoMemory = Unit {0}
IsFrontOf g root classes steps (Refused at) = Begin g root (take at classes) steps
IsFrontOf g root classes steps End = Begin g root classes steps

module _ (g : Tables) (root level limit : ℕ) where
  -- what a fault of a derivation within the limit says
  abbrev pub ReadExplains : List ℕ → ReadFault → Type 0
  ReadExplains classes ReadNoMemory = Unit {0}
  ReadExplains classes (ReadRefused at) = IsRefusedAt g root classes at × IsShallow g root level limit classes
  ReadExplains classes (TooDeep at) = IsTooDeep g root level limit classes at
  ReadExplains classes ReadEnd = EndsEarly g root classes × IsShallow g root level limit classes

  -- what a fault of the longest run says
  abbrev pub RunExplains : List ℕ → ReadFault → Type 0
  RunExplains classes ReadNoMemory = Unit {0}
  RunExplains classes (ReadRefused at) = IsRefusedAt g root classes at × EndsEarly g root (take at classes) × IsShallow g root level limit classes
  RunExplains classes (TooDeep at) = IsTooDeep g root level limit classes at
  RunExplains classes ReadEnd = EndsEarly g root classes × IsShallow g root level limit classes
