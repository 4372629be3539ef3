-- The same of what a script declares, and of whole outlines.
use Rattle.std.proofs.Common.{◌≡◌, ℕ, false, not, ◌⊎◌, inl, inr, List, [], ◌∷◌, ◌++◌, length, Option, Some, None, refl, sym, ap, subst, ◌∙◌, arith}
use Rattle.std.specs.Prelude.{take, map, nat_eq}
use Rattle.std.proofs.lemmas.Bool.{false≢true}
use Rattle.gv_base.specs.declared.answers.Code.{Code}
use Rattle.gv_base.specs.declared.answers.Code.TheVariants.{Undeclared, Twice, WrongType, WrongCount, TooMany}
use Rattle.gv_terms.specs.declared.sort.Sort.{Sort}
use Rattle.gv_terms.specs.declared.sort.Sort.TheVariants.{Ref}
use Rattle.gv_terms.specs.Values.{is_sort}
use Rattle.gv_lang.specs.declared.program.Proc.{Proc}
use Rattle.gv_lang.specs.declared.program.Program.{Program}
use Rattle.gv_atomic.specs.declared.spec.Spec.{Spec}
use Rattle.gv_termread.specs.declared.token.SeenToken.{SeenToken}
use Rattle.gv_scriptnames.specs.declared.mention.Mention.{Mention}
use Rattle.gv_scriptnames.specs.declared.outline.BookOutline.{BookOutline}
use Rattle.gv_scriptnames.specs.declared.outline.PredOutline.{PredOutline}
use Rattle.gv_scriptnames.specs.declared.outline.CutOutline.{CutOutline}
use Rattle.gv_scriptnames.specs.declared.outline.BodyOutline.{BodyOutline}
use Rattle.gv_scriptnames.specs.declared.outline.OpOutline.{OpOutline}
use Rattle.gv_scriptnames.specs.declared.outline.ProcOutline.{ProcOutline}
use Rattle.gv_scriptnames.specs.declared.outline.Outline.{Outline}
use Rattle.gv_scriptnames.specs.Names.{name_in, names_in, names_of, is_word}
use Rattle.gv_scriptnames.specs.Scopes.{Shape, Scope, outside, beside, is_borne, pred_named, op_named, proc_named, proc_of_op, recovery, is_point, is_local, param_names, is_cell_count}
use Rattle.gv_scriptnames.specs.Told.{HasItemFault}
use Rattle.gv_scriptnames.specs.Faults as fault
use Rattle.gv_scriptnames.specs.Faults.{IsTwice, HasTwice, HasMentionFault, HasMentionsFault, HasBookFault, HasPredFault, HasCrashFault, HasRootFault, HasCutFault, HasBodyFault, HasOpFault, HasProcFault, HasOutlineFault}
use Rattle.gv_scriptnames.specs.Found.{unless, all_twice, of_mentions, of_book, again, of_pred_outline, of_crash, of_root_params, of_root, of_point, of_locals, of_cut, of_body, if_none, of_op, of_results, of_own, of_proc, found}
use Rattle.gv_scriptnames.proofs.Finding.{Same, not_true, not_false, all_same, each_same}
use Rattle.gv_scriptnames.proofs.Agreement.{Kind, Only, either_same, via, moved, only_same, none_same, some_none, none_some, twice_same, all_twice_same, mention_same, mentions_same}

module _ (text : List ℕ) (spec : Spec) (program : Program) where
  pub book_same : (before : List BookOutline) (b : BookOutline) → Same (HasBookFault text spec program before b) (of_book text spec program before b)
  book_same before b = via (HasBookFault text spec program before b) (either_same (twice_same text spec program (names_in text (map (λ c. c.name) before)) b.name) (only_same (is_cell_count b.count.value) b.count.start TooMany)) to back
    where
      to : (at : ℕ) (code : Code) → (HasBookFault text spec program before b) at code → (IsTwice text spec program (names_in text (map (λ c. c.name) before)) b.name) at code ⊎ ((Only (is_cell_count b.count.value) b.count.start TooMany) at code)
      to at code (fault.book_name g) = inl (g)
      to at code (fault.book_count e) = inr (e, refl, refl)

      back : (at : ℕ) (code : Code) → (IsTwice text spec program (names_in text (map (λ c. c.name) before)) b.name) at code ⊎ ((Only (is_cell_count b.count.value) b.count.start TooMany) at code) → (HasBookFault text spec program before b) at code
      back at code (inl h) = fault.book_name h
      back at code (inr h) = moved (HasBookFault text spec program before b) b.count.start at TooMany code h.1 h.2 (fault.book_count h.0)

  again_same : (t : SeenToken) (found : Option Shape) → Same (λ at code. (s : Shape) × (found ≡ Some s) × (t.start ≡ at) × (Twice ≡ code)) (again text spec program found t)
  again_same t None = none_same (λ at code h. none_some h.1)
  again_same t (Some s) = via (λ at code. (r : Shape) × (Some s ≡ Some r) × (t.start ≡ at) × (Twice ≡ code)) (only_same false t.start Twice)
      (λ at code h. (refl, h.2, h.3)) (λ at code h. (s, refl, h.1, h.2))

  pub pred_outline_same : (books : List BookOutline) (before : List PredOutline) (p : PredOutline) → Same (HasPredFault text spec program books before p) (of_pred_outline text spec program books before p)
  pred_outline_same books before p = via (HasPredFault text spec program books before p) (either_same (only_same (not (is_word p.name)) p.name.start Twice) (either_same (again_same p.name (pred_named (outside text books before) (name_in text p.name))) (either_same (all_twice_same text spec program [] (names_of p.params)) (either_same (all_same (λ c. HasTwice text spec program (names_in text (names_of p.params)) (names_of c.vars)) (λ c. all_twice text spec program (names_in text (names_of p.params)) (names_of c.vars)) (λ c. all_twice_same text spec program (names_in text (names_of p.params)) (names_of c.vars)) p.cases) (all_same (λ c. HasMentionsFault text spec program (outside text books before) c.items) (λ c. of_mentions text spec program (outside text books before) c.items) (λ c. mentions_same text spec program (outside text books before) c.items) p.cases))))) to back
    where
      to : (at : ℕ) (code : Code) → (HasPredFault text spec program books before p) at code → (Only (not (is_word p.name)) p.name.start Twice) at code ⊎ ((λ (a : ℕ) (c : Code). (s : Shape) × (pred_named (outside text books before) (name_in text p.name) ≡ Some s) × (p.name.start ≡ a) × (Twice ≡ c)) at code ⊎ ((HasTwice text spec program [] (names_of p.params)) at code ⊎ ((HasItemFault (λ i c. HasTwice text spec program (names_in text (names_of p.params)) (names_of c.vars)) p.cases) at code ⊎ ((HasItemFault (λ i c. HasMentionsFault text spec program (outside text books before) c.items) p.cases) at code))))
      to at code (fault.pred_word e) = inl (not_true (is_word p.name) e, refl, refl)
      to at code (fault.pred_again s e) = inr (inl (s, e, refl, refl))
      to at code (fault.pred_params g) = inr (inr (inl (g)))
      to at code (fault.case_vars g) = inr (inr (inr (inl (g))))
      to at code (fault.case_items g) = inr (inr (inr (inr (g))))

      back : (at : ℕ) (code : Code) → (Only (not (is_word p.name)) p.name.start Twice) at code ⊎ ((λ (a : ℕ) (c : Code). (s : Shape) × (pred_named (outside text books before) (name_in text p.name) ≡ Some s) × (p.name.start ≡ a) × (Twice ≡ c)) at code ⊎ ((HasTwice text spec program [] (names_of p.params)) at code ⊎ ((HasItemFault (λ i c. HasTwice text spec program (names_in text (names_of p.params)) (names_of c.vars)) p.cases) at code ⊎ ((HasItemFault (λ i c. HasMentionsFault text spec program (outside text books before) c.items) p.cases) at code)))) → (HasPredFault text spec program books before p) at code
      back at code (inl h) = moved (HasPredFault text spec program books before p) p.name.start at Twice code h.1 h.2 (fault.pred_word (not_false (is_word p.name) h.0))
      back at code (inr (inl h)) = moved (HasPredFault text spec program books before p) p.name.start at Twice code h.2 h.3 (fault.pred_again h.0 h.1)
      back at code (inr (inr (inl h))) = fault.pred_params h
      back at code (inr (inr (inr (inl h)))) = fault.case_vars h
      back at code (inr (inr (inr (inr h)))) = fault.case_items h

  crash_same : (sc : Scope) (t : SeenToken) (found : Option Shape) → pred_named sc (name_in text t) ≡ found → Same (HasCrashFault text spec program sc t) (of_crash text spec program t found)
  crash_same sc t None e = via (HasCrashFault text spec program sc t) (only_same (false) t.start Undeclared) to back
    where
      to : (at : ℕ) (code : Code) → (HasCrashFault text spec program sc t) at code → (Only (false) t.start Undeclared) at code
      to at code (fault.no_crash q) = (refl, refl, refl)
      to at code (fault.crash_params s q b) = absurd (none_some (sym e ∙ q))

      back : (at : ℕ) (code : Code) → (Only (false) t.start Undeclared) at code → (HasCrashFault text spec program sc t) at code
      back at code h = moved (HasCrashFault text spec program sc t) t.start at Undeclared code h.1 h.2 (fault.no_crash e)
  crash_same sc t (Some x) e = via (HasCrashFault text spec program sc t) (only_same (nat_eq (length x.params) 0) t.start WrongCount) to back
    where
      to : (at : ℕ) (code : Code) → (HasCrashFault text spec program sc t) at code → (Only (nat_eq (length x.params) 0) t.start WrongCount) at code
      to at code (fault.no_crash q) = absurd (none_some (sym q ∙ e))
      to at code (fault.crash_params s q b) = ((let same : x ≡ s = cc in ap (λ (y : Shape). nat_eq (length y.params) 0) same ∙ b), refl, refl)

      back : (at : ℕ) (code : Code) → (Only (nat_eq (length x.params) 0) t.start WrongCount) at code → (HasCrashFault text spec program sc t) at code
      back at code h = moved (HasCrashFault text spec program sc t) t.start at WrongCount code h.1 h.2 (fault.crash_params x e h.0)

  root_none : (sc : Scope) (t : SeenToken) → pred_named sc (name_in text t) ≡ None → Same (HasRootFault text spec program sc t) ((t.start, Undeclared) ∷ [])
  root_none sc t e = via (HasRootFault text spec program sc t) (only_same false t.start Undeclared) to back
    where
      to : (at : ℕ) (code : Code) → (HasRootFault text spec program sc t) at code → Only false t.start Undeclared at code
      to at code (fault.no_root q) = (refl, refl, refl)
      to at code (fault.root_params s q b) = absurd (none_some (sym e ∙ q))
      to at code (fault.root_sort s of q p b) = absurd (none_some (sym e ∙ q))

      back : (at : ℕ) (code : Code) → Only false t.start Undeclared at code → (HasRootFault text spec program sc t) at code
      back at code h = moved (HasRootFault text spec program sc t) t.start at Undeclared code h.1 h.2 (fault.no_root e)

  -- where the predicate has not one parameter
  root_many : (sc : Scope) (t : SeenToken) (s : Shape) → pred_named sc (name_in text t) ≡ Some s → nat_eq (length s.params) 1 ≡ false → ((of : Option Sort) → s.params ≡ of ∷ [] → ⊥)
      → Same (HasRootFault text spec program sc t) ((t.start, WrongCount) ∷ [])
  root_many sc t s e b never = via (HasRootFault text spec program sc t) (only_same false t.start WrongCount) to back
    where
      to : (at : ℕ) (code : Code) → (HasRootFault text spec program sc t) at code → Only false t.start WrongCount at code
      to at code (fault.no_root q) = absurd (none_some (sym q ∙ e))
      to at code (fault.root_params r q c) = (refl, refl, refl)
      to at code (fault.root_sort r of q p c) = let same : r ≡ s = cc in absurd (never of (ap (λ (y : Shape). y.params) (sym same) ∙ p))

      back : (at : ℕ) (code : Code) → Only false t.start WrongCount at code → (HasRootFault text spec program sc t) at code
      back at code h = moved (HasRootFault text spec program sc t) t.start at WrongCount code h.1 h.2 (fault.root_params s e b)

  root_one : (sc : Scope) (t : SeenToken) (s : Shape) (of : Option Sort) → pred_named sc (name_in text t) ≡ Some s → s.params ≡ of ∷ []
      → Same (HasRootFault text spec program sc t) (unless (is_sort Ref of) t.start WrongType)
  root_one sc t s of e p = via (HasRootFault text spec program sc t) (only_same (is_sort Ref of) t.start WrongType) to back
    where
      one : (r : Shape) → pred_named sc (name_in text t) ≡ Some r → r.params ≡ of ∷ []
      one r q = let same : r ≡ s = cc in ap (λ (y : Shape). y.params) same ∙ p

      to : (at : ℕ) (code : Code) → (HasRootFault text spec program sc t) at code → Only (is_sort Ref of) t.start WrongType at code
      to at code (fault.no_root q) = absurd (none_some (sym q ∙ e))
      to at code (fault.root_params r q c) = absurd (false≢true (sym c ∙ ap (λ (ps : List (Option Sort)). nat_eq (length ps) 1) (one r q)))
      to at code (fault.root_sort r other q g c) =
          let lists : of ∷ [] ≡ other ∷ [] = sym (one r q) ∙ g in
          let same : of ≡ other = cc in
          (ap (is_sort Ref) same ∙ c, refl, refl)

      back : (at : ℕ) (code : Code) → Only (is_sort Ref of) t.start WrongType at code → (HasRootFault text spec program sc t) at code
      back at code h = moved (HasRootFault text spec program sc t) t.start at WrongType code h.1 h.2 (fault.root_sort s of e p h.0)

  root_some : (sc : Scope) (t : SeenToken) (s : Shape) (params : List (Option Sort)) → pred_named sc (name_in text t) ≡ Some s → s.params ≡ params
      → Same (HasRootFault text spec program sc t) (of_root_params text spec program t params)
  root_some sc t s [] e p = root_many sc t s e (ap (λ (ps : List (Option Sort)). nat_eq (length ps) 1) p) (λ of q. let x : [] ≡ of ∷ [] = sym p ∙ q in cc)
  root_some sc t s (of ∷ []) e p = root_one sc t s of e p
  root_some sc t s (of ∷ more ∷ ps) e p =
      root_many sc t s e (ap (λ (qs : List (Option Sort)). nat_eq (length qs) 1) p ∙ grind (arith)) (λ a q. let x : of ∷ more ∷ ps ≡ a ∷ [] = sym p ∙ q in cc)

  root_same : (sc : Scope) (t : SeenToken) (found : Option Shape) → pred_named sc (name_in text t) ≡ found → Same (HasRootFault text spec program sc t) (of_root text spec program t found)
  root_same sc t None e = root_none sc t e
  root_same sc t (Some s) e = root_some sc t s s.params e refl

  point_same : (t : SeenToken) (proc : Option Proc) → Same (λ at code. (p : Proc) × (proc ≡ Some p) × (is_point p t.value ≡ false) × (t.start ≡ at) × (TooMany ≡ code)) (of_point text spec program t proc)
  point_same t None = none_same (λ at code h. none_some h.1)
  point_same t (Some p) = via (λ at code. (q : Proc) × (Some p ≡ Some q) × (is_point q t.value ≡ false) × (t.start ≡ at) × (TooMany ≡ code)) (only_same (is_point p t.value) t.start TooMany)
      (λ at code h. let same : p ≡ h.0 = (let e = h.1 in cc) in (ap (λ (q : Proc). is_point q t.value) same ∙ h.2, h.3, h.4)) (λ at code h. (p, refl, h.0, h.1, h.2))

  locals_same : (ts : List SeenToken) (proc : Option Proc)
      → Same (HasItemFault (λ i t a c. (p : Proc) × (proc ≡ Some p) × (is_local p (name_in text t) ≡ false) × (t.start ≡ a) × (Undeclared ≡ c)) ts) (of_locals text spec program ts proc)
  locals_same ts None = none_same (λ at code h. let f = h.fault in none_some f.1)
  locals_same ts (Some p) = all_same (λ t a c. (q : Proc) × (Some p ≡ Some q) × (is_local q (name_in text t) ≡ false) × (t.start ≡ a) × (Undeclared ≡ c))
      (λ t. unless (is_local p (name_in text t)) t.start Undeclared)
      (λ t. via (λ a c. (q : Proc) × (Some p ≡ Some q) × (is_local q (name_in text t) ≡ false) × (t.start ≡ a) × (Undeclared ≡ c)) (only_same (is_local p (name_in text t)) t.start Undeclared)
      (λ at code h. let same : p ≡ h.0 = (let e = h.1 in cc) in (ap (λ (q : Proc). is_local q (name_in text t)) same ∙ h.2, h.3, h.4)) (λ at code h. (p, refl, h.0, h.1, h.2))) ts

  pub cut_outline_same : (sc : Scope) (proc : Option Proc) (before : List CutOutline) (c : CutOutline) → Same (HasCutFault text spec program sc proc before c) (of_cut text spec program sc proc before c)
  cut_outline_same sc proc before c = via (HasCutFault text spec program sc proc before c) (either_same (twice_same text spec program (names_in text (map (λ d. d.name) before)) c.name) (either_same (point_same c.number proc) (either_same (all_twice_same text spec program [] c.locals) (either_same (locals_same c.locals proc) (either_same (all_twice_same text spec program (names_in text c.locals) (names_of c.vars)) (either_same (mentions_same text spec program sc c.items) (mentions_same text spec program sc c.block))))))) to back
    where
      to : (at : ℕ) (code : Code) → (HasCutFault text spec program sc proc before c) at code → (IsTwice text spec program (names_in text (map (λ d. d.name) before)) c.name) at code ⊎ ((λ (a : ℕ) (d : Code). (p : Proc) × (proc ≡ Some p) × (is_point p c.number.value ≡ false) × (c.number.start ≡ a) × (TooMany ≡ d)) at code ⊎ ((HasTwice text spec program [] c.locals) at code ⊎ ((HasItemFault (λ i t a d. (p : Proc) × (proc ≡ Some p) × (is_local p (name_in text t) ≡ false) × (t.start ≡ a) × (Undeclared ≡ d)) c.locals) at code ⊎ ((HasTwice text spec program (names_in text c.locals) (names_of c.vars)) at code ⊎ ((HasMentionsFault text spec program sc c.items) at code ⊎ ((HasMentionsFault text spec program sc c.block) at code))))))
      to at code (fault.cut_name g) = inl (g)
      to at code (fault.cut_number p e b) = inr (inl (p, e, b, refl, refl))
      to at code (fault.cut_locals g) = inr (inr (inl (g)))
      to at code (fault.no_local p number t e there b) = inr (inr (inr (inl (record { number = number; item = t; there = there; fault = (p, e, b, refl, refl) }))))
      to at code (fault.cut_vars g) = inr (inr (inr (inr (inl (g)))))
      to at code (fault.cut_items g) = inr (inr (inr (inr (inr (inl (g))))))
      to at code (fault.cut_block g) = inr (inr (inr (inr (inr (inr (g))))))

      back : (at : ℕ) (code : Code) → (IsTwice text spec program (names_in text (map (λ d. d.name) before)) c.name) at code ⊎ ((λ (a : ℕ) (d : Code). (p : Proc) × (proc ≡ Some p) × (is_point p c.number.value ≡ false) × (c.number.start ≡ a) × (TooMany ≡ d)) at code ⊎ ((HasTwice text spec program [] c.locals) at code ⊎ ((HasItemFault (λ i t a d. (p : Proc) × (proc ≡ Some p) × (is_local p (name_in text t) ≡ false) × (t.start ≡ a) × (Undeclared ≡ d)) c.locals) at code ⊎ ((HasTwice text spec program (names_in text c.locals) (names_of c.vars)) at code ⊎ ((HasMentionsFault text spec program sc c.items) at code ⊎ ((HasMentionsFault text spec program sc c.block) at code)))))) → (HasCutFault text spec program sc proc before c) at code
      back at code (inl h) = fault.cut_name h
      back at code (inr (inl h)) = moved (HasCutFault text spec program sc proc before c) c.number.start at TooMany code h.3 h.4 (fault.cut_number h.0 h.1 h.2)
      back at code (inr (inr (inl h))) = fault.cut_locals h
      back at code (inr (inr (inr (inl h)))) = let f = h.fault in moved (HasCutFault text spec program sc proc before c) h.item.start at Undeclared code f.3 f.4 (fault.no_local f.0 h.number h.item f.1 h.there f.2)
      back at code (inr (inr (inr (inr (inl h))))) = fault.cut_vars h
      back at code (inr (inr (inr (inr (inr (inl h)))))) = fault.cut_items h
      back at code (inr (inr (inr (inr (inr (inr h)))))) = fault.cut_block h

  pub body_same : (sc : Scope) (proc : Option Proc) (b : BodyOutline) → Same (HasBodyFault text spec program sc proc b) (of_body text spec program sc proc b)
  body_same sc proc b = via (HasBodyFault text spec program sc proc b) (either_same (mentions_same text spec program (beside text sc b.cuts) b.block) (each_same (HasCutFault text spec program (beside text sc b.cuts) proc) (of_cut text spec program (beside text sc b.cuts) proc) (cut_outline_same (beside text sc b.cuts) proc) b.cuts)) to back
    where
      to : (at : ℕ) (code : Code) → (HasBodyFault text spec program sc proc b) at code → (HasMentionsFault text spec program (beside text sc b.cuts) b.block) at code ⊎ ((HasItemFault (λ i c. HasCutFault text spec program (beside text sc b.cuts) proc (take i b.cuts) c) b.cuts) at code)
      to at code (fault.body_block g) = inl (g)
      to at code (fault.body_cut g) = inr (g)

      back : (at : ℕ) (code : Code) → (HasMentionsFault text spec program (beside text sc b.cuts) b.block) at code ⊎ ((HasItemFault (λ i c. HasCutFault text spec program (beside text sc b.cuts) proc (take i b.cuts) c) b.cuts) at code) → (HasBodyFault text spec program sc proc b) at code
      back at code (inl h) = fault.body_block h
      back at code (inr h) = fault.body_cut h

  none_there : {T : Type 0} (t : SeenToken) (found : Option T) → Same (λ at code. (found ≡ None) × (t.start ≡ at) × (Undeclared ≡ code)) (if_none text spec program found t)
  none_there t None = via (λ at code. (None ≡ None) × (t.start ≡ at) × (Undeclared ≡ code)) (only_same false t.start Undeclared) (λ at code h. (refl, h.1, h.2)) (λ at code h. (refl, h.1, h.2))
  none_there t (Some x) = none_same (λ at code h. some_none h.0)

  pub op_outline_same : (sc : Scope) (before : List OpOutline) (o : OpOutline) → Same (HasOpFault text spec program sc before o) (of_op text spec program sc before o)
  op_outline_same sc before o = via (HasOpFault text spec program sc before o) (either_same (none_there o.name (op_named spec (name_in text o.name))) (either_same (none_there o.name (proc_of_op program (name_in text o.name))) (either_same (only_same (not (is_borne (names_in text (map (λ p. p.name) before)) (name_in text o.name))) o.name.start Twice) (body_same sc (proc_of_op program (name_in text o.name)) o.body)))) to back
    where
      to : (at : ℕ) (code : Code) → (HasOpFault text spec program sc before o) at code → (λ (a : ℕ) (c : Code). (op_named spec (name_in text o.name) ≡ None) × (o.name.start ≡ a) × (Undeclared ≡ c)) at code ⊎ ((λ (a : ℕ) (c : Code). (proc_of_op program (name_in text o.name) ≡ None) × (o.name.start ≡ a) × (Undeclared ≡ c)) at code ⊎ ((Only (not (is_borne (names_in text (map (λ p. p.name) before)) (name_in text o.name))) o.name.start Twice) at code ⊎ ((HasBodyFault text spec program sc (proc_of_op program (name_in text o.name)) o.body) at code)))
      to at code (fault.no_operation e) = inl (e, refl, refl)
      to at code (fault.no_method e) = inr (inl (e, refl, refl))
      to at code (fault.op_again e) = inr (inr (inl (not_true (is_borne (names_in text (map (λ p. p.name) before)) (name_in text o.name)) e, refl, refl)))
      to at code (fault.op_body g) = inr (inr (inr (g)))

      back : (at : ℕ) (code : Code) → (λ (a : ℕ) (c : Code). (op_named spec (name_in text o.name) ≡ None) × (o.name.start ≡ a) × (Undeclared ≡ c)) at code ⊎ ((λ (a : ℕ) (c : Code). (proc_of_op program (name_in text o.name) ≡ None) × (o.name.start ≡ a) × (Undeclared ≡ c)) at code ⊎ ((Only (not (is_borne (names_in text (map (λ p. p.name) before)) (name_in text o.name))) o.name.start Twice) at code ⊎ ((HasBodyFault text spec program sc (proc_of_op program (name_in text o.name)) o.body) at code))) → (HasOpFault text spec program sc before o) at code
      back at code (inl h) = moved (HasOpFault text spec program sc before o) o.name.start at Undeclared code h.1 h.2 (fault.no_operation h.0)
      back at code (inr (inl h)) = moved (HasOpFault text spec program sc before o) o.name.start at Undeclared code h.1 h.2 (fault.no_method h.0)
      back at code (inr (inr (inl h))) = moved (HasOpFault text spec program sc before o) o.name.start at Twice code h.1 h.2 (fault.op_again (not_false (is_borne (names_in text (map (λ p. p.name) before)) (name_in text o.name)) h.0))
      back at code (inr (inr (inr h))) = fault.op_body h

  -- there is no such procedure, or it has another number of results
  abbrev pub Results : SeenToken → List SeenToken → Option Proc → Kind
  Results t names proc = λ at code. ((proc ≡ None) × (t.start ≡ at) × (Undeclared ≡ code)) ⊎ ((p : Proc) × (proc ≡ Some p) × (nat_eq (length names) (length p.results) ≡ false) × (t.start ≡ at) × (WrongCount ≡ code))

  results_same : (t : SeenToken) (names : List SeenToken) (proc : Option Proc) → Same (Results t names proc) (of_results text spec program t names proc)
  results_same t names None = via (Results t names None) (only_same false t.start Undeclared) to back
    where
      to : (at : ℕ) (code : Code) → Results t names None at code → Only false t.start Undeclared at code
      to at code (inl h) = (refl, h.1, h.2)
      to at code (inr h) = absurd (none_some h.1)

      back : (at : ℕ) (code : Code) → Only false t.start Undeclared at code → Results t names None at code
      back at code h = inl (refl, h.1, h.2)
  results_same t names (Some p) = via (Results t names (Some p)) (only_same (nat_eq (length names) (length p.results)) t.start WrongCount) to back
    where
      to : (at : ℕ) (code : Code) → Results t names (Some p) at code → Only (nat_eq (length names) (length p.results)) t.start WrongCount at code
      to at code (inl h) = absurd (some_none h.0)
      to at code (inr h) = let same : p ≡ h.0 = (let e = h.1 in cc) in (ap (λ (q : Proc). nat_eq (length names) (length q.results)) same ∙ h.2, h.3, h.4)

      back : (at : ℕ) (code : Code) → Only (nat_eq (length names) (length p.results)) t.start WrongCount at code → Results t names (Some p) at code
      back at code h = inr (p, refl, h.0, h.1, h.2)

  own_same : (sc : Scope) (own : Option Mention) → Same (λ at code. (m : Mention) × (own ≡ Some m) × HasMentionFault text spec program sc m at code) (of_own text spec program sc own)
  own_same sc None = none_same (λ at code h. none_some h.1)
  own_same sc (Some m) = via (λ at code. (n : Mention) × (Some m ≡ Some n) × HasMentionFault text spec program sc n at code) (mention_same text spec program sc m)
      (λ at code h. let same : h.0 ≡ m = (let e = h.1 in cc) in subst (λ (n : Mention). HasMentionFault text spec program sc n at code) same h.2) (λ at code h. (m, refl, h))

  pub proc_outline_same : (sc : Scope) (before : List ProcOutline) (r : ProcOutline) → Same (HasProcFault text spec program sc before r) (of_proc text spec program sc before r)
  proc_outline_same sc before r = via (HasProcFault text spec program sc before r) (either_same (results_same r.name r.results (proc_named program (name_in text r.name))) (either_same (only_same (not (is_borne (names_in text (map (λ q. q.name) before)) (name_in text r.name))) r.name.start Twice) (either_same (own_same sc r.own) (either_same (all_twice_same text spec program (param_names (proc_named program (name_in text r.name))) (names_of r.vars)) (either_same (all_twice_same text spec program (param_names (proc_named program (name_in text r.name)) ++ names_in text (names_of r.vars)) r.results) (either_same (mentions_same text spec program sc r.pre) (either_same (mentions_same text spec program sc r.post) (body_same sc (proc_named program (name_in text r.name)) r.body)))))))) to back
    where
      to : (at : ℕ) (code : Code) → (HasProcFault text spec program sc before r) at code → (Results r.name r.results (proc_named program (name_in text r.name))) at code ⊎ ((Only (not (is_borne (names_in text (map (λ q. q.name) before)) (name_in text r.name))) r.name.start Twice) at code ⊎ ((λ (a : ℕ) (c : Code). (m : Mention) × (r.own ≡ Some m) × HasMentionFault text spec program sc m a c) at code ⊎ ((HasTwice text spec program (param_names (proc_named program (name_in text r.name))) (names_of r.vars)) at code ⊎ ((HasTwice text spec program (param_names (proc_named program (name_in text r.name)) ++ names_in text (names_of r.vars)) r.results) at code ⊎ ((HasMentionsFault text spec program sc r.pre) at code ⊎ ((HasMentionsFault text spec program sc r.post) at code ⊎ ((HasBodyFault text spec program sc (proc_named program (name_in text r.name)) r.body) at code)))))))
      to at code (fault.no_proc e) = inl (inl (e, refl, refl))
      to at code (fault.other_results p e b) = inl (inr (p, e, b, refl, refl))
      to at code (fault.proc_again e) = inr (inl (not_true (is_borne (names_in text (map (λ q. q.name) before)) (name_in text r.name)) e, refl, refl))
      to at code (fault.proc_own m e g) = inr (inr (inl (m, e, g)))
      to at code (fault.proc_vars g) = inr (inr (inr (inl (g))))
      to at code (fault.proc_results g) = inr (inr (inr (inr (inl (g)))))
      to at code (fault.proc_pre g) = inr (inr (inr (inr (inr (inl (g))))))
      to at code (fault.proc_post g) = inr (inr (inr (inr (inr (inr (inl (g)))))))
      to at code (fault.proc_body g) = inr (inr (inr (inr (inr (inr (inr (g)))))))

      back : (at : ℕ) (code : Code) → (Results r.name r.results (proc_named program (name_in text r.name))) at code ⊎ ((Only (not (is_borne (names_in text (map (λ q. q.name) before)) (name_in text r.name))) r.name.start Twice) at code ⊎ ((λ (a : ℕ) (c : Code). (m : Mention) × (r.own ≡ Some m) × HasMentionFault text spec program sc m a c) at code ⊎ ((HasTwice text spec program (param_names (proc_named program (name_in text r.name))) (names_of r.vars)) at code ⊎ ((HasTwice text spec program (param_names (proc_named program (name_in text r.name)) ++ names_in text (names_of r.vars)) r.results) at code ⊎ ((HasMentionsFault text spec program sc r.pre) at code ⊎ ((HasMentionsFault text spec program sc r.post) at code ⊎ ((HasBodyFault text spec program sc (proc_named program (name_in text r.name)) r.body) at code))))))) → (HasProcFault text spec program sc before r) at code
      back at code (inl (inl h)) = moved (HasProcFault text spec program sc before r) r.name.start at Undeclared code h.1 h.2 (fault.no_proc h.0)
      back at code (inl (inr h)) = moved (HasProcFault text spec program sc before r) r.name.start at WrongCount code h.3 h.4 (fault.other_results h.0 h.1 h.2)
      back at code (inr (inl h)) = moved (HasProcFault text spec program sc before r) r.name.start at Twice code h.1 h.2 (fault.proc_again (not_false (is_borne (names_in text (map (λ q. q.name) before)) (name_in text r.name)) h.0))
      back at code (inr (inr (inl h))) = fault.proc_own h.0 h.1 h.2
      back at code (inr (inr (inr (inl h)))) = fault.proc_vars h
      back at code (inr (inr (inr (inr (inl h))))) = fault.proc_results h
      back at code (inr (inr (inr (inr (inr (inl h)))))) = fault.proc_pre h
      back at code (inr (inr (inr (inr (inr (inr (inl h))))))) = fault.proc_post h
      back at code (inr (inr (inr (inr (inr (inr (inr h))))))) = fault.proc_body h

  pub outline_same : (s : Outline) → Same (HasOutlineFault text spec program s) (found text spec program s)
  outline_same s = via (HasOutlineFault text spec program s) (either_same (each_same (HasBookFault text spec program) (of_book text spec program) book_same s.books) (either_same (each_same (HasPredFault text spec program s.books) (of_pred_outline text spec program s.books) (pred_outline_same s.books) s.preds) (either_same (crash_same (outside text s.books s.preds) s.crash (pred_named (outside text s.books s.preds) (name_in text s.crash)) refl) (either_same (root_same (outside text s.books s.preds) s.root (pred_named (outside text s.books s.preds) (name_in text s.root)) refl) (either_same (mentions_same text spec program (outside text s.books s.preds) s.init) (either_same (body_same (outside text s.books s.preds) (recovery program) s.recover) (either_same (each_same (HasOpFault text spec program (outside text s.books s.preds)) (of_op text spec program (outside text s.books s.preds)) (op_outline_same (outside text s.books s.preds)) s.ops) (each_same (HasProcFault text spec program (outside text s.books s.preds)) (of_proc text spec program (outside text s.books s.preds)) (proc_outline_same (outside text s.books s.preds)) s.procs)))))))) to back
    where
      to : (at : ℕ) (code : Code) → (HasOutlineFault text spec program s) at code → (HasItemFault (λ i b. HasBookFault text spec program (take i s.books) b) s.books) at code ⊎ ((HasItemFault (λ i p. HasPredFault text spec program s.books (take i s.preds) p) s.preds) at code ⊎ ((HasCrashFault text spec program (outside text s.books s.preds) s.crash) at code ⊎ ((HasRootFault text spec program (outside text s.books s.preds) s.root) at code ⊎ ((HasMentionsFault text spec program (outside text s.books s.preds) s.init) at code ⊎ ((HasBodyFault text spec program (outside text s.books s.preds) (recovery program) s.recover) at code ⊎ ((HasItemFault (λ i o. HasOpFault text spec program (outside text s.books s.preds) (take i s.ops) o) s.ops) at code ⊎ ((HasItemFault (λ i r. HasProcFault text spec program (outside text s.books s.preds) (take i s.procs) r) s.procs) at code)))))))
      to at code (fault.its_book g) = inl (g)
      to at code (fault.its_pred g) = inr (inl (g))
      to at code (fault.its_crash g) = inr (inr (inl (g)))
      to at code (fault.its_root g) = inr (inr (inr (inl (g))))
      to at code (fault.its_init g) = inr (inr (inr (inr (inl (g)))))
      to at code (fault.its_recover g) = inr (inr (inr (inr (inr (inl (g))))))
      to at code (fault.its_op g) = inr (inr (inr (inr (inr (inr (inl (g)))))))
      to at code (fault.its_proc g) = inr (inr (inr (inr (inr (inr (inr (g)))))))

      back : (at : ℕ) (code : Code) → (HasItemFault (λ i b. HasBookFault text spec program (take i s.books) b) s.books) at code ⊎ ((HasItemFault (λ i p. HasPredFault text spec program s.books (take i s.preds) p) s.preds) at code ⊎ ((HasCrashFault text spec program (outside text s.books s.preds) s.crash) at code ⊎ ((HasRootFault text spec program (outside text s.books s.preds) s.root) at code ⊎ ((HasMentionsFault text spec program (outside text s.books s.preds) s.init) at code ⊎ ((HasBodyFault text spec program (outside text s.books s.preds) (recovery program) s.recover) at code ⊎ ((HasItemFault (λ i o. HasOpFault text spec program (outside text s.books s.preds) (take i s.ops) o) s.ops) at code ⊎ ((HasItemFault (λ i r. HasProcFault text spec program (outside text s.books s.preds) (take i s.procs) r) s.procs) at code))))))) → (HasOutlineFault text spec program s) at code
      back at code (inl h) = fault.its_book h
      back at code (inr (inl h)) = fault.its_pred h
      back at code (inr (inr (inl h))) = fault.its_crash h
      back at code (inr (inr (inr (inl h)))) = fault.its_root h
      back at code (inr (inr (inr (inr (inl h))))) = fault.its_init h
      back at code (inr (inr (inr (inr (inr (inl h)))))) = fault.its_recover h
      back at code (inr (inr (inr (inr (inr (inr (inl h))))))) = fault.its_op h
      back at code (inr (inr (inr (inr (inr (inr (inr h))))))) = fault.its_proc h
