-- Worked rows: small outlines with what the rules answer, whatever the specification is.
use Rattle.std.specs.Prelude.{ℕ, ◌+◌, List, [], ◌∷◌, codes, None}
use Rattle.gv_base.specs.declared.answers.Code.{Code}
use Rattle.gv_base.specs.declared.answers.Code.TheVariants as code
use Rattle.gv_lang.specs.declared.program.Local.{Local}
use Rattle.gv_lang.specs.declared.program.LocalKind.TheVariants as kind
use Rattle.gv_lang.specs.declared.program.Program.{Program}
use Rattle.gv_atomic.specs.declared.spec.Spec.{Spec}
use Rattle.gv_termread.specs.declared.token.SeenToken.{SeenToken}
use Rattle.gv_termread.specs.declared.generated.term_table.TheConstants.{CLASS_IDENT, CLASS_LEN_WORD, CLASS_NIL_WORD, CLASS_NUMBER}
use Rattle.gv_scriptsyntax.specs.declared.generated.script_table.TheConstants.{CLASS_SORT_WORD}
use Rattle.gv_scriptsyntax.specs.declared.tree.Par.{Par}
use Rattle.gv_scriptnames.specs.declared.mention.Mention.{Mention}
use Rattle.gv_scriptnames.specs.declared.mention.Mention.TheVariants as mention
use Rattle.gv_scriptnames.specs.declared.outline.BookOutline.{BookOutline}
use Rattle.gv_scriptnames.specs.declared.outline.CaseOutline.{CaseOutline}
use Rattle.gv_scriptnames.specs.declared.outline.PredOutline.{PredOutline}
use Rattle.gv_scriptnames.specs.declared.outline.CutOutline.{CutOutline}
use Rattle.gv_scriptnames.specs.declared.outline.BodyOutline.{BodyOutline}
use Rattle.gv_scriptnames.specs.declared.outline.ProcOutline.{ProcOutline}
use Rattle.gv_scriptnames.specs.declared.outline.Outline.{Outline}
use Rattle.gv_scriptnames.specs.Laws.{IsTypedOutline, IsRefusedOutline}

-- ---- a text of names, and a program

-- each letter is a name
abbrev pub letters : List ℕ
letters = codes "CHPQpxyJKfr"

-- the name that is the letter at a place, and where it is used again
abbrev pub n : ℕ → SeenToken
n at = record { class = CLASS_IDENT; start = at; end = at + 1; value = 0 }

abbrev pub number : ℕ → ℕ → SeenToken
number at value = record { class = CLASS_NUMBER; start = at; end = at + 1; value = value }

-- a parameter of the sort with this number
abbrev pub par : ℕ → ℕ → Par
par at sort = record { name = n at; sort = record { class = CLASS_SORT_WORD; start = at; end = at + 1; value = sort } }

abbrev pub local : List ℕ → Local
local name = record { name = name; kind = kind.Word }

-- recovery has no local; the procedure f has the parameter p, the local x and one result; neither has a command
abbrev pub program : Program
program = record {
  structs = [];
  procs =
      record { name = codes "r"; params = 0; locals = []; results = kind.Ref ∷ []; body = [] }
      ∷ record { name = codes "f"; params = 1; locals = local (codes "p") ∷ local (codes "x") ∷ []; results = kind.Word ∷ []; body = [] } ∷ [];
  recover = 0;
  ops = [];
}

-- ---- parts of outlines

abbrev pub case_of : List Mention → CaseOutline
case_of ms = record { vars = []; items = ms }

-- a predicate with these parameters and one case
abbrev pub pred : ℕ → List Par → List Mention → PredOutline
pred at params ms = record { name = n at; params = params; cases = case_of ms ∷ [] }

abbrev pub crash_pred : PredOutline
crash_pred = pred 0 [] []

-- of a reference
abbrev pub root_pred : PredOutline
root_pred = pred 1 (par 4 8 ∷ []) []

abbrev pub no_body : BodyOutline
no_body = record { block = []; cuts = [] }

abbrev pub cut : ℕ → ℕ → List SeenToken → CutOutline
cut at point locals = record { name = n at; number = number 8 point; locals = locals; vars = []; items = []; block = [] }

abbrev pub proc : BodyOutline → ProcOutline
proc body = record { name = n 9; own = None; vars = []; results = n 10 ∷ []; pre = []; post = []; body = body }

-- with these books, these predicates behind that of the crash and that of the root, these commands of init, this recovery and these procedures
abbrev pub outline : List BookOutline → List PredOutline → List Mention → BodyOutline → List ProcOutline → Outline
outline books preds init recover procs = record {
  books = books;
  preds = crash_pred ∷ root_pred ∷ preds;
  crash = n 0;
  root = n 1;
  init = init;
  recover = recover;
  ops = [];
  procs = procs;
}

-- ---- rows

abbrev pub Typed : Outline → Type 0
Typed s = (spec : Spec) → IsTypedOutline letters spec program s

abbrev pub Refused : Outline → ℕ → Code → Type 0
Refused s at c = (spec : Spec) → IsRefusedOutline letters spec program s at c

pub record AreRows : Type 0 where
  -- the least script, and one whose predicate names an earlier one with its one term
  pub least : Typed (outline [] [] [] no_body [])
  pub earlier_predicate : Typed (outline [] (pred 2 [] (mention.Pred (n 1) 1 ∷ []) ∷ []) [] no_body [])
  -- P names Q, which comes later; and itself
  pub later_predicate : Refused (outline [] (pred 2 [] (mention.Pred (n 3) 0 ∷ []) ∷ pred 3 [] [] ∷ []) [] no_body []) 3 code.Undeclared
  pub own_predicate : Refused (outline [] (pred 2 [] (mention.Pred (n 2) 0 ∷ []) ∷ []) [] no_body []) 2 code.Undeclared
  -- the root's predicate with two terms
  pub too_many_terms : Refused (outline [] [] (mention.Pred (n 1) 2 ∷ []) no_body []) 1 code.WrongCount
  -- two parameters of one name
  pub parameter_twice : Refused (outline [] (pred 2 (par 5 0 ∷ par 5 0 ∷ []) [] ∷ []) [] no_body []) 5 code.Twice
  -- a predicate named `len`, and an `each` that binds `nil`
  pub named_as_a_function : Refused (outline [] (record { name = record { class = CLASS_LEN_WORD; start = 2; end = 3; value = 0 }; params = []; cases = case_of [] ∷ [] } ∷ []) [] no_body []) 2 code.Twice
  pub bound_as_a_constant : Refused (outline [] [] (mention.Bound (record { class = CLASS_NIL_WORD; start = 5; end = 6; value = 0 }) ∷ []) no_body []) 5 code.Twice
  -- a book without a cell, and one with the most
  pub book_of_none : Refused (outline (record { name = n 2; count = number 3 0 } ∷ []) [] [] no_body []) 3 code.TooMany
  pub book_of_most : Typed (outline (record { name = n 2; count = number 3 65536 } ∷ []) [] [] no_body [])
  -- a cut at a point of a procedure without points
  pub cut_at_no_point : Refused (outline [] [] [] (record { block = []; cuts = cut 7 1 [] ∷ [] }) []) 8 code.TooMany
  pub no_such_procedure : Refused (outline [] [] [] no_body (record { name = n 8; own = None; vars = []; results = n 10 ∷ []; pre = []; post = []; body = no_body } ∷ [])) 8 code.Undeclared
  -- the local p is one of f, and none of recovery; it stands before the number that is no point
  pub local_of_another : Refused (outline [] [] [] (record { block = []; cuts = cut 7 1 (n 4 ∷ []) ∷ [] }) []) 4 code.Undeclared
  pub own_local : Refused (outline [] [] [] no_body (proc (record { block = []; cuts = cut 7 1 (n 4 ∷ []) ∷ [] }) ∷ [])) 8 code.TooMany
  -- `to` names a cut of recovery alone
  pub cut_of_recovery : Refused (outline [] [] [] (record { block = []; cuts = cut 7 1 [] ∷ [] }) (proc (record { block = mention.Cut (n 7) ∷ []; cuts = [] }) ∷ [])) 7 code.Undeclared
  pub own_cut : Refused (outline [] [] [] (record { block = mention.Cut (n 7) ∷ []; cuts = cut 7 1 [] ∷ [] }) []) 8 code.TooMany
  -- a result and a variable that bear a parameter's name
  pub result_as_a_parameter : Refused (outline [] [] [] no_body
      (record { name = n 9; own = None; vars = []; results = n 4 ∷ []; pre = []; post = []; body = no_body } ∷ [])) 4 code.Twice
  pub two_results : Refused (outline [] [] [] no_body
      (record { name = n 9; own = None; vars = []; results = n 10 ∷ n 6 ∷ []; pre = []; post = []; body = no_body } ∷ [])) 9 code.WrongCount
  -- cells and books that nothing declares
  pub no_such_cell : Refused (outline [] [] (mention.Cell (n 5) ∷ []) no_body []) 5 code.Undeclared
  pub no_such_book : Refused (outline [] [] (mention.Book (n 5) ∷ []) no_body []) 5 code.Undeclared
