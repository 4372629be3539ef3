-- What is found of operations and procedures.
use Rattle.std.proofs.Common.{◌≡◌, ℕ, zero, suc, ◌<◌, Bool, true, false, List, [], ◌∷◌, ◌++◌, length, get_or, arith, Option, Some, None, is_some, option_map, Bor, refl, sym, ap, subst, ◌∙◌}
use Rattle.std.specs.Prelude.{slice_get}
use Rattle.std.specs.Option.{option_and_then, option_copied}
use Rattle.std.specs.Str.{bytes_eq}
use Rattle.gv_base.specs.declared.answers.Code.TheVariants.{Undeclared}
use Rattle.gv_lang.specs.declared.program.Proc.{Proc}
use Rattle.gv_lang.specs.declared.program.Program.{Program}
use Rattle.gv_atomic.specs.declared.spec.Spec.{Spec}
use Rattle.gv_termread.specs.declared.token.SeenToken.{SeenToken}
use Rattle.gv_scriptnames.specs.Scopes.{named, proc_named, proc_of_op}
use Rattle.gv_scriptnames.specs.Found.{unless, if_none}
use Rattle.gv_scriptfaults.specs.declared.names.Table.{Table}
use Rattle.gv_scriptfaults.specs.declared.scoped.Known.{Known}
use Rattle.gv_scriptfaults.specs.declared.scoped.ProcFacts.{ProcFacts}
use Rattle.gv_scriptfaults.specs.Procs.{IsFacts, AreFacts}
use Rattle.gv_scriptfaults.specs.Scoped.{IsKnown, IsPlace, ArePlaces}
use Rattle.gv_scriptfaults.specs.Tables.{entry, kept}
use Rattle.gv_scriptfaults.proofs.Tables.{found_last}

pub facts_for : (spec : Spec) (program : Program) (k : Known) → IsKnown spec program k → (place : Option ℕ) → AreFacts (option_and_then (slice_get program.procs) place) (option_and_then (slice_get k.facts) place)
facts_for spec program k known None = tt
facts_for spec program k known (Some i) = known.facts i

pub both_there : (proc : Option Proc) (facts : Option ProcFacts) → AreFacts proc facts → is_some facts ≡ is_some proc
both_there None None are = refl
both_there None (Some f) are = absurd are
both_there (Some p) None are = absurd are
both_there (Some p) (Some f) are = refl

pub mapped_there : {T V : Type 0} (of : T → V) (o : Option T) → is_some (option_map of o) ≡ is_some o
mapped_there of None = refl
mapped_there of (Some x) = refl

pub copied_there : {T : Type 0} (o : Option (Bor T)) → is_some o ≡ is_some (option_copied o)
copied_there None = refl
copied_there (Some r) = refl

pub none_found : {T : Type 0} (text : List ℕ) (spec : Spec) (program : Program) (o : Option T) (t : SeenToken) → unless (is_some o) t.start Undeclared ≡ if_none text spec program o t
none_found text spec program None t = refl
none_found text spec program (Some x) t = refl

-- the facts of the procedure that a name bears
pub named_facts : (spec : Spec) (program : Program) (k : Known) (n m : List ℕ) (facts : Option ProcFacts) → IsKnown spec program k → n ≡ m → facts ≡ option_and_then (slice_get k.facts) (entry k.procs n) → AreFacts (proc_named program m) facts
named_facts spec program k n m facts known e p =
    subst (λ (o : Option Proc). AreFacts o facts) (sym (known.procs n) ∙ ap (proc_named program) e)
    (subst (λ (o : Option ProcFacts). AreFacts (option_and_then (slice_get program.procs) (entry k.procs n)) o) (sym p) (facts_for spec program k known (entry k.procs n)))

-- and of the one whose method it is
pub method_facts : (spec : Spec) (program : Program) (k : Known) (n m : List ℕ) (facts : Option ProcFacts) → IsKnown spec program k → n ≡ m → facts ≡ option_and_then (slice_get k.facts) (entry k.methods n) → AreFacts (proc_of_op program m) facts
method_facts spec program k n m facts known e p =
    subst (λ (o : Option Proc). AreFacts o facts) (sym (known.methods n) ∙ ap (proc_of_op program) e)
    (subst (λ (o : Option ProcFacts). AreFacts (option_and_then (slice_get program.procs) (entry k.methods n)) o) (sym p) (facts_for spec program k known (entry k.methods n)))

-- ---- lists that are gone through from the front

pub facts_more : (ps : List Proc) (fs : List ProcFacts) (p : Proc) (f : ProcFacts) → ((i : ℕ) → AreFacts (slice_get ps i) (slice_get fs i)) → IsFacts p f
    → (i : ℕ) → AreFacts (slice_get (ps ++ p ∷ []) i) (slice_get (fs ++ f ∷ []) i)
facts_more [] [] p f all is zero = is
facts_more [] [] p f all is (suc i) = tt
facts_more [] (g ∷ fs) p f all is i = absurd (all zero)
facts_more (q ∷ ps) [] p f all is i = absurd (all zero)
facts_more (q ∷ ps) (g ∷ fs) p f all is zero = all zero
facts_more (q ∷ ps) (g ∷ fs) p f all is (suc i) = facts_more ps fs p f (λ j. all (suc j)) is i

pub got : {T : Type 0} (items : List T) (i : ℕ) (x : T) → i < length items → x ≡ get_or items i x → slice_get items i ≡ Some x
got [] i x lt is = absurd (omega (arith, lt))
got (p ∷ items) zero x lt is = ap Some (sym is)
got (p ∷ items) (suc i) x lt is = got items i x (omega (arith, lt)) is

place_step : (procs : List Proc) (p : Proc) (at : ℕ) (o : Option Proc) (e : Option ℕ) (b : Bool) → slice_get procs at ≡ Some p → IsPlace procs o e → IsPlace procs (kept o b p) (kept e b at)
place_step procs p at None None true q h = q
place_step procs p at None None false q h = tt
place_step procs p at None (Some i) b q h = absurd h
place_step procs p at (Some o) None b q h = absurd h
place_step procs p at (Some o) (Some i) b q h = h

pub place_more : (procs some : List Proc) (p : Proc) (at : ℕ) (name : List ℕ) (old new : Table ℕ) → name ≡ p.name → slice_get procs at ≡ Some p → ((n : List ℕ) → entry new n ≡ kept (entry old n) (bytes_eq name n) at)
    → ArePlaces procs some old → ArePlaces procs (some ++ p ∷ []) new
place_more procs some p at name old new e q more was n =
    subst (λ (o : Option ℕ). IsPlace procs (named (λ (r : Proc). r.name) (some ++ p ∷ []) n) o) (sym (more n))
    (subst (λ (o : Option Proc). IsPlace procs o (kept (entry old n) (bytes_eq name n) at)) (sym (found_last (λ (r : Proc). bytes_eq r.name n) some p))
    (subst (λ (m : List ℕ). IsPlace procs (kept (named (λ (r : Proc). r.name) some n) (bytes_eq p.name n) p) (kept (entry old n) (bytes_eq m n) at)) (sym e)
    (place_step procs p at (named (λ (r : Proc). r.name) some n) (entry old n) (bytes_eq p.name n) q (was n))))

pub place_is : (procs : List Proc) (o : Option Proc) (e : Option ℕ) → IsPlace procs o e → o ≡ option_and_then (slice_get procs) e
place_is procs None None h = refl
place_is procs None (Some i) h = absurd h
place_is procs (Some p) None h = absurd h
place_is procs (Some p) (Some i) h = sym h

pub mapped_same : (o : Option ℕ) → option_map (λ (i : ℕ). i) o ≡ o
mapped_same None = refl
mapped_same (Some i) = refl
