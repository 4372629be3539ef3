-- Which faults a script has that its grammar allows: names and counts. Each rule is a constructor, which tells where its fault stands
-- and by which code.
use Rattle.std.specs.Prelude.{◌≡◌, ℕ, nat_eq, true, false, List, [], ◌∷◌, ◌++◌, map, length, take, slice_get, Option, Some, None}
use Rattle.gv_base.specs.declared.answers.Code.{Code}
use Rattle.gv_base.specs.declared.answers.Code.TheVariants.{Undeclared, Twice, WrongType, WrongCount, TooMany}
use Rattle.gv_terms.specs.declared.sort.Sort.{Sort}
use Rattle.gv_terms.specs.declared.sort.Sort.TheVariants.{Ref}
use Rattle.gv_terms.specs.Values.{is_sort}
use Rattle.gv_lang.specs.declared.program.Proc.{Proc}
use Rattle.gv_lang.specs.declared.program.Program.{Program}
use Rattle.gv_atomic.specs.declared.spec.Op.{Op as SpecOp}
use Rattle.gv_atomic.specs.declared.spec.Spec.{Spec}
use Rattle.gv_termread.specs.declared.token.SeenToken.{SeenToken}
use Rattle.gv_scriptnames.specs.Names.{name_in, names_in, names_of, is_constant, is_word}
use Rattle.gv_scriptnames.specs.declared.outline.BookOutline.{BookOutline}
use Rattle.gv_scriptnames.specs.declared.outline.PredOutline.{PredOutline}
use Rattle.gv_scriptnames.specs.declared.outline.CutOutline.{CutOutline}
use Rattle.gv_scriptnames.specs.declared.outline.BodyOutline.{BodyOutline}
use Rattle.gv_scriptnames.specs.declared.outline.OpOutline.{OpOutline}
use Rattle.gv_scriptnames.specs.declared.outline.ProcOutline.{ProcOutline}
use Rattle.gv_scriptnames.specs.declared.outline.Outline.{Outline}
use Rattle.gv_scriptnames.specs.declared.mention.Mention.{Mention}
use Rattle.gv_scriptnames.specs.declared.mention.Mention.TheVariants as mention
use Rattle.gv_scriptnames.specs.Mentions.{Mentions}
use Rattle.gv_scriptnames.specs.Scopes.{Shape, Scope, outside, beside, is_borne, pred_named, is_cell, is_field, op_named, proc_named, proc_of_op, recovery, is_point, is_local, param_names, is_cell_count}
use Rattle.gv_scriptnames.specs.Told.{HasItemFault}

-- in this text, for this specification and this program
module _ (text : List ℕ) (spec : Spec) (program : Program) where
  -- ---- names that are declared

  -- behind these names: the name is a constant of terms, or one of them
  pub data IsTwice (before : List (List ℕ)) (t : SeenToken) : ℕ → Code → Type 0 where
    constant : is_constant t ≡ true → IsTwice before t t.start Twice
    again : is_borne before (name_in text t) ≡ true → IsTwice before t t.start Twice

  -- the same of each of several names, behind those before it
  abbrev pub HasTwice : List (List ℕ) → List SeenToken → ℕ → Code → Type 0
  HasTwice before ts = HasItemFault (λ i t. IsTwice (before ++ names_in text (take i ts)) t) ts

  -- ---- names that are used

  pub data HasMentionFault (sc : Scope) : Mention → ℕ → Code → Type 0 where
    no_pred : (t : SeenToken) (count : ℕ) → pred_named sc (name_in text t) ≡ None → HasMentionFault sc (mention.Pred t count) t.start Undeclared
    other_terms : (t : SeenToken) (count : ℕ) (s : Shape) → pred_named sc (name_in text t) ≡ Some s → nat_eq count (length s.params) ≡ false
        → HasMentionFault sc (mention.Pred t count) t.start WrongCount
    no_cell : (t : SeenToken) → is_cell program (name_in text t) ≡ false → HasMentionFault sc (mention.Cell t) t.start Undeclared
    no_field : (t : SeenToken) → is_field spec (name_in text t) ≡ false → HasMentionFault sc (mention.Field t) t.start Undeclared
    no_book : (t : SeenToken) → is_borne sc.books (name_in text t) ≡ false → HasMentionFault sc (mention.Book t) t.start Undeclared
    no_op : (w t : SeenToken) (count : ℕ) → op_named spec (name_in text t) ≡ None → HasMentionFault sc (mention.Op w t count) t.start Undeclared
    other_arguments : (w t : SeenToken) (count : ℕ) (o : SpecOp) → op_named spec (name_in text t) ≡ Some o → nat_eq count (length o.params) ≡ false
        → HasMentionFault sc (mention.Op w t count) w.start WrongCount
    bound_constant : (t : SeenToken) → is_constant t ≡ true → HasMentionFault sc (mention.Bound t) t.start Twice
    no_cut : (t : SeenToken) → is_borne sc.cuts (name_in text t) ≡ false → HasMentionFault sc (mention.Cut t) t.start Undeclared

  abbrev pub HasMentionsFault : Scope → Mentions → ℕ → Code → Type 0
  HasMentionsFault sc ms = HasItemFault (λ i m. HasMentionFault sc m) ms

  -- ---- books and predicates

  pub data HasBookFault (before : List BookOutline) (b : BookOutline) : ℕ → Code → Type 0 where
    book_name : {at : ℕ} {code : Code} → IsTwice (names_in text (map (λ c. c.name) before)) b.name at code → HasBookFault before b at code
    book_count : is_cell_count b.count.value ≡ false → HasBookFault before b b.count.start TooMany

  -- A predicate behind others: its name is no word of terms or atoms and new, the names of its parameters and of a case's variables
  -- are distinct, and what stands in it names earlier predicates alone.
  pub data HasPredFault (books : List BookOutline) (before : List PredOutline) (p : PredOutline) : ℕ → Code → Type 0 where
    pred_word : is_word p.name ≡ true → HasPredFault books before p p.name.start Twice
    pred_again : (s : Shape) → pred_named (outside text books before) (name_in text p.name) ≡ Some s → HasPredFault books before p p.name.start Twice
    pred_params : {at : ℕ} {code : Code} → HasTwice [] (names_of p.params) at code → HasPredFault books before p at code
    case_vars : {at : ℕ} {code : Code} → HasItemFault (λ i c. HasTwice (names_in text (names_of p.params)) (names_of c.vars)) p.cases at code
        → HasPredFault books before p at code
    case_items : {at : ℕ} {code : Code} → HasItemFault (λ i c. HasMentionsFault (outside text books before) c.items) p.cases at code
        → HasPredFault books before p at code

  -- behind `crash` stands a predicate without parameters
  pub data HasCrashFault (sc : Scope) (t : SeenToken) : ℕ → Code → Type 0 where
    no_crash : pred_named sc (name_in text t) ≡ None → HasCrashFault sc t t.start Undeclared
    crash_params : (s : Shape) → pred_named sc (name_in text t) ≡ Some s → nat_eq (length s.params) 0 ≡ false → HasCrashFault sc t t.start WrongCount

  -- behind `root` one with one parameter, a reference
  pub data HasRootFault (sc : Scope) (t : SeenToken) : ℕ → Code → Type 0 where
    no_root : pred_named sc (name_in text t) ≡ None → HasRootFault sc t t.start Undeclared
    root_params : (s : Shape) → pred_named sc (name_in text t) ≡ Some s → nat_eq (length s.params) 1 ≡ false → HasRootFault sc t t.start WrongCount
    root_sort : (s : Shape) (of : Option Sort) → pred_named sc (name_in text t) ≡ Some s → s.params ≡ of ∷ [] → is_sort Ref of ≡ false
        → HasRootFault sc t t.start WrongType

  -- ---- blocks with their cuts

  -- A cut behind others, of a procedure: its number is that of a point, and its locals are the procedure's.
  pub data HasCutFault (sc : Scope) (proc : Option Proc) (before : List CutOutline) (c : CutOutline) : ℕ → Code → Type 0 where
    cut_name : {at : ℕ} {code : Code} → IsTwice (names_in text (map (λ d. d.name) before)) c.name at code → HasCutFault sc proc before c at code
    cut_number : (p : Proc) → proc ≡ Some p → is_point p c.number.value ≡ false → HasCutFault sc proc before c c.number.start TooMany
    cut_locals : {at : ℕ} {code : Code} → HasTwice [] c.locals at code → HasCutFault sc proc before c at code
    no_local : (p : Proc) (number : ℕ) (t : SeenToken) → proc ≡ Some p → slice_get c.locals number ≡ Some t → is_local p (name_in text t) ≡ false
        → HasCutFault sc proc before c t.start Undeclared
    cut_vars : {at : ℕ} {code : Code} → HasTwice (names_in text c.locals) (names_of c.vars) at code → HasCutFault sc proc before c at code
    cut_items : {at : ℕ} {code : Code} → HasMentionsFault sc c.items at code → HasCutFault sc proc before c at code
    cut_block : {at : ℕ} {code : Code} → HasMentionsFault sc c.block at code → HasCutFault sc proc before c at code

  -- `to` names a cut of the same recovery, operation or procedure
  pub data HasBodyFault (sc : Scope) (proc : Option Proc) (b : BodyOutline) (at : ℕ) (code : Code) : Type 0 where
    body_block : HasMentionsFault (beside text sc b.cuts) b.block at code → HasBodyFault sc proc b at code
    body_cut : HasItemFault (λ i c. HasCutFault (beside text sc b.cuts) proc (take i b.cuts) c) b.cuts at code → HasBodyFault sc proc b at code

  pub data HasOpFault (sc : Scope) (before : List OpOutline) (o : OpOutline) : ℕ → Code → Type 0 where
    no_operation : op_named spec (name_in text o.name) ≡ None → HasOpFault sc before o o.name.start Undeclared
    no_method : proc_of_op program (name_in text o.name) ≡ None → HasOpFault sc before o o.name.start Undeclared
    op_again : is_borne (names_in text (map (λ p. p.name) before)) (name_in text o.name) ≡ true → HasOpFault sc before o o.name.start Twice
    op_body : {at : ℕ} {code : Code} → HasBodyFault sc (proc_of_op program (name_in text o.name)) o.body at code → HasOpFault sc before o at code

  -- A procedure's parameters, variables and results have distinct names, and it has as many results as the program says.
  pub data HasProcFault (sc : Scope) (before : List ProcOutline) (r : ProcOutline) : ℕ → Code → Type 0 where
    no_proc : proc_named program (name_in text r.name) ≡ None → HasProcFault sc before r r.name.start Undeclared
    proc_again : is_borne (names_in text (map (λ q. q.name) before)) (name_in text r.name) ≡ true → HasProcFault sc before r r.name.start Twice
    other_results : (p : Proc) → proc_named program (name_in text r.name) ≡ Some p → nat_eq (length r.results) (length p.results) ≡ false
        → HasProcFault sc before r r.name.start WrongCount
    proc_own : {at : ℕ} {code : Code} (m : Mention) → r.own ≡ Some m → HasMentionFault sc m at code → HasProcFault sc before r at code
    proc_vars : {at : ℕ} {code : Code} → HasTwice (param_names (proc_named program (name_in text r.name))) (names_of r.vars) at code
        → HasProcFault sc before r at code
    proc_results : {at : ℕ} {code : Code}
        → HasTwice (param_names (proc_named program (name_in text r.name)) ++ names_in text (names_of r.vars)) r.results at code
        → HasProcFault sc before r at code
    proc_pre : {at : ℕ} {code : Code} → HasMentionsFault sc r.pre at code → HasProcFault sc before r at code
    proc_post : {at : ℕ} {code : Code} → HasMentionsFault sc r.post at code → HasProcFault sc before r at code
    proc_body : {at : ℕ} {code : Code} → HasBodyFault sc (proc_named program (name_in text r.name)) r.body at code → HasProcFault sc before r at code

  -- ---- the whole

  pub data HasOutlineFault (s : Outline) (at : ℕ) (code : Code) : Type 0 where
    its_book : HasItemFault (λ i b. HasBookFault (take i s.books) b) s.books at code → HasOutlineFault s at code
    its_pred : HasItemFault (λ i p. HasPredFault s.books (take i s.preds) p) s.preds at code → HasOutlineFault s at code
    its_crash : HasCrashFault (outside text s.books s.preds) s.crash at code → HasOutlineFault s at code
    its_root : HasRootFault (outside text s.books s.preds) s.root at code → HasOutlineFault s at code
    its_init : HasMentionsFault (outside text s.books s.preds) s.init at code → HasOutlineFault s at code
    its_recover : HasBodyFault (outside text s.books s.preds) (recovery program) s.recover at code → HasOutlineFault s at code
    its_op : HasItemFault (λ i o. HasOpFault (outside text s.books s.preds) (take i s.ops) o) s.ops at code → HasOutlineFault s at code
    its_proc : HasItemFault (λ i r. HasProcFault (outside text s.books s.preds) (take i s.procs) r) s.procs at code → HasOutlineFault s at code
