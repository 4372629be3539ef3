-- The faults of an outline as a list, which can be computed.
use Rattle.std.specs.Prelude.{◌≡◌, ℕ, Bool, true, false, not, nat_eq, ◌⊎◌, List, [], ◌∷◌, ◌++◌, map, length, Option, Some, None}
use Rattle.gv_base.specs.declared.answers.Code.{Code}
use Rattle.gv_base.specs.declared.answers.Code.TheVariants.{Undeclared, Twice, WrongType, WrongCount, TooMany}
use Rattle.gv_terms.specs.declared.sort.Sort.{Sort}
use Rattle.gv_terms.specs.declared.sort.Sort.TheVariants.{Ref}
use Rattle.gv_terms.specs.Values.{is_sort}
use Rattle.gv_lang.specs.declared.program.Proc.{Proc}
use Rattle.gv_lang.specs.declared.program.Program.{Program}
use Rattle.gv_atomic.specs.declared.spec.Op.{Op as SpecOp}
use Rattle.gv_atomic.specs.declared.spec.Spec.{Spec}
use Rattle.gv_termread.specs.declared.token.SeenToken.{SeenToken}
use Rattle.gv_scriptnames.specs.declared.mention.Mention.{Mention}
use Rattle.gv_scriptnames.specs.declared.mention.Mention.TheVariants as mention
use Rattle.gv_scriptnames.specs.declared.outline.BookOutline.{BookOutline}
use Rattle.gv_scriptnames.specs.declared.outline.PredOutline.{PredOutline}
use Rattle.gv_scriptnames.specs.declared.outline.CutOutline.{CutOutline}
use Rattle.gv_scriptnames.specs.declared.outline.BodyOutline.{BodyOutline}
use Rattle.gv_scriptnames.specs.declared.outline.OpOutline.{OpOutline}
use Rattle.gv_scriptnames.specs.declared.outline.ProcOutline.{ProcOutline}
use Rattle.gv_scriptnames.specs.declared.outline.Outline.{Outline}
use Rattle.gv_scriptnames.specs.Names.{name_in, names_in, names_of, is_constant, is_word}
use Rattle.gv_scriptnames.specs.Mentions.{Mentions}
use Rattle.gv_scriptnames.specs.Scopes.{Shape, Scope, outside, beside, is_borne, pred_named, is_cell, is_field, op_named, proc_named, proc_of_op, recovery, is_point, is_local, param_names, is_cell_count}

-- a place and a code
abbrev pub Found : Type 0
Found = List (ℕ × Code)

-- a fault is in a list
abbrev pub IsIn : Found → ℕ → Code → Type 0
IsIn [] at code = ⊥
IsIn (f ∷ fs) at code = ((f.0 ≡ at) × (f.1 ≡ code)) ⊎ IsIn fs at code

-- one fault, unless something holds
abbrev pub unless : Bool → ℕ → Code → Found
unless true at code = []
unless false at code = (at, code) ∷ []

-- those of each item, behind the items before it
abbrev pub in_each : {T : Type 0} → (List T → T → Found) → List T → List T → Found
in_each of before [] = []
in_each of before (x ∷ xs) = of before x ++ in_each of (before ++ x ∷ []) xs

-- those of each item by itself
abbrev pub in_all : {T : Type 0} → (T → Found) → List T → Found
in_all of [] = []
in_all of (x ∷ xs) = of x ++ in_all of xs

module _ (text : List ℕ) (spec : Spec) (program : Program) where
  -- ---- names

  abbrev pub twice : List (List ℕ) → SeenToken → Found
  twice before t = unless (not (is_constant t)) t.start Twice ++ unless (not (is_borne before (name_in text t))) t.start Twice

  abbrev pub all_twice : List (List ℕ) → List SeenToken → Found
  all_twice names ts = in_each (λ before t. twice (names ++ names_in text before) t) [] ts

  abbrev pub of_pred : SeenToken → ℕ → Option Shape → Found
  of_pred t count None = (t.start, Undeclared) ∷ []
  of_pred t count (Some s) = unless (nat_eq count (length s.params)) t.start WrongCount

  abbrev pub of_op_mention : SeenToken → SeenToken → ℕ → Option SpecOp → Found
  of_op_mention w t count None = (t.start, Undeclared) ∷ []
  of_op_mention w t count (Some o) = unless (nat_eq count (length o.params)) w.start WrongCount

  abbrev pub of_mention : Scope → Mention → Found
  of_mention sc (mention.Pred t count) = of_pred t count (pred_named sc (name_in text t))
  of_mention sc (mention.Cell t) = unless (is_cell program (name_in text t)) t.start Undeclared
  of_mention sc (mention.Field t) = unless (is_field spec (name_in text t)) t.start Undeclared
  of_mention sc (mention.Book t) = unless (is_borne sc.books (name_in text t)) t.start Undeclared
  of_mention sc (mention.Op w t count) = of_op_mention w t count (op_named spec (name_in text t))
  of_mention sc (mention.Bound t) = unless (not (is_constant t)) t.start Twice
  of_mention sc (mention.Cut t) = unless (is_borne sc.cuts (name_in text t)) t.start Undeclared

  abbrev pub of_mentions : Scope → Mentions → Found
  of_mentions sc ms = in_all (of_mention sc) ms

  -- ---- declarations before the blocks

  abbrev pub of_book : List BookOutline → BookOutline → Found
  of_book before b = twice (names_in text (map (λ c. c.name) before)) b.name ++ unless (is_cell_count b.count.value) b.count.start TooMany

  abbrev pub again : Option Shape → SeenToken → Found
  again None t = []
  again (Some s) t = (t.start, Twice) ∷ []

  abbrev pub of_pred_outline : List BookOutline → List PredOutline → PredOutline → Found
  of_pred_outline books before p =
      unless (not (is_word p.name)) p.name.start Twice
      ++ (again (pred_named (outside text books before) (name_in text p.name)) p.name
      ++ (all_twice [] (names_of p.params)
      ++ (in_all (λ c. all_twice (names_in text (names_of p.params)) (names_of c.vars)) p.cases
      ++ in_all (λ c. of_mentions (outside text books before) c.items) p.cases)))

  abbrev pub of_crash : SeenToken → Option Shape → Found
  of_crash t None = (t.start, Undeclared) ∷ []
  of_crash t (Some s) = unless (nat_eq (length s.params) 0) t.start WrongCount

  abbrev pub of_root_params : SeenToken → List (Option Sort) → Found
  of_root_params t (of ∷ []) = unless (is_sort Ref of) t.start WrongType
  of_root_params t params = (t.start, WrongCount) ∷ []

  abbrev pub of_root : SeenToken → Option Shape → Found
  of_root t None = (t.start, Undeclared) ∷ []
  of_root t (Some s) = of_root_params t s.params

  -- ---- blocks with their cuts

  abbrev pub of_point : SeenToken → Option Proc → Found
  of_point t None = []
  of_point t (Some p) = unless (is_point p t.value) t.start TooMany

  abbrev pub of_locals : List SeenToken → Option Proc → Found
  of_locals ts None = []
  of_locals ts (Some p) = in_all (λ t. unless (is_local p (name_in text t)) t.start Undeclared) ts

  abbrev pub of_cut : Scope → Option Proc → List CutOutline → CutOutline → Found
  of_cut sc proc before c =
      twice (names_in text (map (λ d. d.name) before)) c.name
      ++ (of_point c.number proc
      ++ (all_twice [] c.locals
      ++ (of_locals c.locals proc
      ++ (all_twice (names_in text c.locals) (names_of c.vars)
      ++ (of_mentions sc c.items
      ++ of_mentions sc c.block)))))

  abbrev pub of_body : Scope → Option Proc → BodyOutline → Found
  of_body sc proc b = of_mentions (beside text sc b.cuts) b.block ++ in_each (of_cut (beside text sc b.cuts) proc) [] b.cuts

  abbrev pub if_none : {T : Type 0} → Option T → SeenToken → Found
  if_none None t = (t.start, Undeclared) ∷ []
  if_none (Some x) t = []

  abbrev pub of_op : Scope → List OpOutline → OpOutline → Found
  of_op sc before o =
      if_none (op_named spec (name_in text o.name)) o.name
      ++ (if_none (proc_of_op program (name_in text o.name)) o.name
      ++ (unless (not (is_borne (names_in text (map (λ p. p.name) before)) (name_in text o.name))) o.name.start Twice
      ++ of_body sc (proc_of_op program (name_in text o.name)) o.body))

  abbrev pub of_results : SeenToken → List SeenToken → Option Proc → Found
  of_results t names None = (t.start, Undeclared) ∷ []
  of_results t names (Some p) = unless (nat_eq (length names) (length p.results)) t.start WrongCount

  abbrev pub of_own : Scope → Option Mention → Found
  of_own sc None = []
  of_own sc (Some m) = of_mention sc m

  abbrev pub of_proc : Scope → List ProcOutline → ProcOutline → Found
  of_proc sc before r = let proc = proc_named program (name_in text r.name) in
      of_results r.name r.results proc
      ++ (unless (not (is_borne (names_in text (map (λ q. q.name) before)) (name_in text r.name))) r.name.start Twice
      ++ (of_own sc r.own
      ++ (all_twice (param_names proc) (names_of r.vars)
      ++ (all_twice (param_names proc ++ names_in text (names_of r.vars)) r.results
      ++ (of_mentions sc r.pre
      ++ (of_mentions sc r.post
      ++ of_body sc proc r.body))))))

  -- ---- the whole

  abbrev pub found : Outline → Found
  found s = let sc = outside text s.books s.preds in
      in_each of_book [] s.books
      ++ (in_each (of_pred_outline s.books) [] s.preds
      ++ (of_crash s.crash (pred_named sc (name_in text s.crash))
      ++ (of_root s.root (pred_named sc (name_in text s.root))
      ++ (of_mentions sc s.init
      ++ (of_body sc (recovery program) s.recover
      ++ (in_each (of_op sc) [] s.ops
      ++ in_each (of_proc sc) [] s.procs))))))
