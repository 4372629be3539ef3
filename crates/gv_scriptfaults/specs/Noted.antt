-- What is noted of the parts of an outline.
use Rattle.std.specs.Prelude.{◌≡◌, ℕ, List, [], ◌++◌, map, Option}
use Rattle.gv_lang.specs.declared.program.Proc.{Proc}
use Rattle.gv_lang.specs.declared.program.Program.{Program}
use Rattle.gv_atomic.specs.declared.spec.Spec.{Spec}
use Rattle.gv_termread.specs.declared.token.SeenToken.{SeenToken}
use Rattle.gv_typing.specs.declared.term_fault.Fault.{Fault}
use Rattle.gv_scriptnames.specs.Names.{name_in, names_in, names_of}
use Rattle.gv_scriptnames.specs.declared.mention.Mention.{Mention}
use Rattle.gv_scriptnames.specs.declared.outline.BookOutline.{BookOutline}
use Rattle.gv_scriptnames.specs.declared.outline.CaseOutline.{CaseOutline}
use Rattle.gv_scriptnames.specs.declared.outline.PredOutline.{PredOutline}
use Rattle.gv_scriptnames.specs.declared.outline.CutOutline.{CutOutline}
use Rattle.gv_scriptnames.specs.declared.outline.BodyOutline.{BodyOutline}
use Rattle.gv_scriptnames.specs.declared.outline.OpOutline.{OpOutline}
use Rattle.gv_scriptnames.specs.declared.outline.ProcOutline.{ProcOutline}
use Rattle.gv_scriptnames.specs.declared.outline.Outline.{Outline}
use Rattle.gv_scriptnames.specs.Mentions.{Mentions}
use Rattle.gv_scriptnames.specs.Scopes.{Scope, outside, pred_named, recovery}
use Rattle.gv_scriptnames.specs.Found.{all_twice, of_mention, of_mentions, of_book, of_pred_outline, of_crash, of_root, of_locals, of_cut, of_body, of_op, of_own, of_proc, in_all, in_each}
use Rattle.gv_scriptfaults.specs.declared.names.NameSet.{NameSet}
use Rattle.gv_scriptfaults.specs.Least.{after}
use Rattle.gv_scriptfaults.specs.declared.scoped.Known.{Known}
use Rattle.gv_scriptfaults.specs.declared.scoped.Outside.{Outside}
use Rattle.gv_scriptfaults.specs.declared.scoped.ProcFacts.{ProcFacts}
use Rattle.gv_scriptfaults.specs.Tables.{Holds}
use Rattle.gv_scriptfaults.specs.Procs.{AreFacts}
use Rattle.gv_scriptfaults.specs.Scoped.{IsKnown, IsOutside, Sees}

-- names that are declared twice, behind those of two sets
abbrev pub AreDeclared : List ℕ → NameSet → NameSet → List SeenToken → Option Fault → Option Fault → Type 0
AreDeclared text outer own ts old new = (spec : Spec) (program : Program) (before names : List (List ℕ)) → Holds before outer → Holds names own
    → new ≡ after old (all_twice text spec program (before ++ names) ts)

-- a set has these names too
abbrev pub AreAdded : List ℕ → NameSet → List SeenToken → NameSet → Type 0
AreAdded text old ts new = (names : List (List ℕ)) → Holds names old → Holds (names ++ names_in text ts) new

-- ---- names that are used

abbrev pub IsMention : List ℕ → Known → Outside → NameSet → Mention → Option Fault → Option Fault → Type 0
IsMention text k o cuts m old new = (spec : Spec) (program : Program) (sc : Scope) → Sees spec program sc k o cuts → new ≡ after old (of_mention text spec program sc m)

abbrev pub AreMentions : List ℕ → Known → Outside → NameSet → Mentions → Option Fault → Option Fault → Type 0
AreMentions text k o cuts ms old new = (spec : Spec) (program : Program) (sc : Scope) → Sees spec program sc k o cuts → new ≡ after old (of_mentions text spec program sc ms)

-- ---- declarations

-- the names of the books before, in a set
abbrev pub IsBook : List ℕ → NameSet → BookOutline → Option Fault → Option Fault → Type 0
IsBook text names b old new = (spec : Spec) (program : Program) (before : List BookOutline) → Holds (names_in text (map (λ c. c.name) before)) names
    → new ≡ after old (of_book text spec program before b)

-- the predicates before, in a table, with all books
abbrev pub IsPred : List ℕ → Known → Outside → PredOutline → Option Fault → Option Fault → Type 0
IsPred text k o p old new = (spec : Spec) (program : Program) (books : List BookOutline) (before : List PredOutline) → IsKnown spec program k → IsOutside (outside text books before) o
    → new ≡ after old (of_pred_outline text spec program books before p)

-- the variables of cases, behind the names of parameters in a set
abbrev pub AreCaseVars : List ℕ → NameSet → List CaseOutline → Option Fault → Option Fault → Type 0
AreCaseVars text params cases old new = (spec : Spec) (program : Program) (names : List (List ℕ)) → Holds names params
    → new ≡ after old (in_all (λ c. all_twice text spec program names (names_of c.vars)) cases)

-- what stands in cases
abbrev pub AreCaseItems : List ℕ → Known → Outside → NameSet → List CaseOutline → Option Fault → Option Fault → Type 0
AreCaseItems text k o cuts cases old new = (spec : Spec) (program : Program) (sc : Scope) → Sees spec program sc k o cuts
    → new ≡ after old (in_all (λ c. of_mentions text spec program sc c.items) cases)

-- all predicates, from those before every script and the books' on
abbrev pub ArePreds : List ℕ → Known → Outside → List PredOutline → Option Fault → Option Fault → Type 0
ArePreds text k o preds old new = (spec : Spec) (program : Program) (books : List BookOutline) → IsKnown spec program k → IsOutside (outside text books []) o
    → new ≡ after old (in_each (of_pred_outline text spec program books) [] preds)

-- ---- blocks with their cuts

-- the locals that a cut names
abbrev pub AreLocals : List ℕ → Option ProcFacts → List SeenToken → Option Fault → Option Fault → Type 0
AreLocals text facts ts old new = (spec : Spec) (program : Program) (proc : Option Proc) → AreFacts proc facts → new ≡ after old (of_locals text spec program ts proc)

-- the names of the cuts before, in a set
abbrev pub IsCut : List ℕ → Known → Outside → NameSet → Option ProcFacts → NameSet → CutOutline → Option Fault → Option Fault → Type 0
IsCut text k o cuts facts names cut old new = (spec : Spec) (program : Program) (sc : Scope) (proc : Option Proc) (before : List CutOutline) → Sees spec program sc k o cuts → AreFacts proc facts
    → Holds (names_in text (map (λ d. d.name) before)) names → new ≡ after old (of_cut text spec program sc proc before cut)

abbrev pub AreCuts : List ℕ → Known → Outside → NameSet → Option ProcFacts → List CutOutline → Option Fault → Option Fault → Type 0
AreCuts text k o cuts facts all old new = (spec : Spec) (program : Program) (sc : Scope) (proc : Option Proc) → Sees spec program sc k o cuts → AreFacts proc facts
    → new ≡ after old (in_each (of_cut text spec program sc proc) [] all)

abbrev pub IsBody : List ℕ → Known → Outside → Option ProcFacts → BodyOutline → Option Fault → Option Fault → Type 0
IsBody text k o facts body old new = (spec : Spec) (program : Program) (sc : Scope) (proc : Option Proc) → IsKnown spec program k → IsOutside sc o → AreFacts proc facts
    → new ≡ after old (of_body text spec program sc proc body)

-- ---- operations and procedures, behind those whose names are in a set

abbrev pub IsOp : List ℕ → Known → Outside → NameSet → OpOutline → Option Fault → Option Fault → Type 0
IsOp text k o names op old new = (spec : Spec) (program : Program) (sc : Scope) (before : List OpOutline) → IsKnown spec program k → IsOutside sc o
    → Holds (names_in text (map (λ p. p.name) before)) names → new ≡ after old (of_op text spec program sc before op)

abbrev pub AreOps : List ℕ → Known → Outside → List OpOutline → Option Fault → Option Fault → Type 0
AreOps text k o ops old new = (spec : Spec) (program : Program) (sc : Scope) → IsKnown spec program k → IsOutside sc o
    → new ≡ after old (in_each (of_op text spec program sc) [] ops)

abbrev pub IsProc : List ℕ → Known → Outside → NameSet → ProcOutline → Option Fault → Option Fault → Type 0
IsProc text k o names r old new = (spec : Spec) (program : Program) (sc : Scope) (before : List ProcOutline) → IsKnown spec program k → IsOutside sc o → sc.cuts ≡ []
    → Holds (names_in text (map (λ q. q.name) before)) names → new ≡ after old (of_proc text spec program sc before r)

abbrev pub AreProcs : List ℕ → Known → Outside → List ProcOutline → Option Fault → Option Fault → Type 0
AreProcs text k o procs old new = (spec : Spec) (program : Program) (sc : Scope) → IsKnown spec program k → IsOutside sc o → sc.cuts ≡ []
    → new ≡ after old (in_each (of_proc text spec program sc) [] procs)

-- the instance that a procedure owns
abbrev pub IsOwn : List ℕ → Known → Outside → NameSet → Option Mention → Option Fault → Option Fault → Type 0
IsOwn text k o cuts own old new = (spec : Spec) (program : Program) (sc : Scope) → Sees spec program sc k o cuts → new ≡ after old (of_own text spec program sc own)

-- ---- the whole, in two parts

-- what is declared before the blocks
abbrev pub AreDeclarations : List ℕ → Known → Outline → Option Fault → Option Fault → Type 0
AreDeclarations text k s old new = (spec : Spec) (program : Program) → IsKnown spec program k → let sc = outside text s.books s.preds in
    new ≡ after old (in_each (of_book text spec program) [] s.books
    ++ (in_each (of_pred_outline text spec program s.books) [] s.preds
    ++ (of_crash text spec program s.crash (pred_named sc (name_in text s.crash))
    ++ of_root text spec program s.root (pred_named sc (name_in text s.root)))))

-- the blocks, and what stands with them
abbrev pub AreBlocks : List ℕ → Program → Known → Outside → Outline → Option Fault → Option Fault → Type 0
AreBlocks text program k o s old new = (spec : Spec) (sc : Scope) → IsKnown spec program k → IsOutside sc o → sc.cuts ≡ []
    → new ≡ after old (of_mentions text spec program sc s.init
    ++ (of_body text spec program sc (recovery program) s.recover
    ++ (in_each (of_op text spec program sc) [] s.ops
    ++ in_each (of_proc text spec program sc) [] s.procs)))
