-- What a call of a function gives.
use Rattle.std.proofs.Common.{◌≡◌, ℕ, Bool, true, false, ◌==◌, List, [], ◌∷◌, ◌++◌, length, Option, Some, None, refl, sym, ap, subst, ◌∙◌, arith}
use Rattle.std.specs.Prelude.{if◌then◌else◌}
use Rattle.gv_base.specs.declared.answers.Code.TheVariants.{WrongCount}
use Rattle.gv_operands.specs.declared.types.GoType.{GoType}
use Rattle.gv_gotypes.specs.Types.{Finding, unless}
use Rattle.gv_gotypes.specs.Trees.{Expr}
use Rattle.gv_gotypes.specs.Scopes.{Env, Signature as AnySignature}
use Rattle.gv_gotypes.specs.Places.{start_of}
use Rattle.gv_gotypes.specs.Calls.{Callee as AnyCallee, Answer as AnyAnswer, arguments, function_answer}
use Rattle.gv_gotyped.specs.declared.fault.Fault.{Fault}
use Rattle.gv_gotyped.specs.First.{first_of, earliest}
use Rattle.gv_gotyped.proofs.Firsts.{first_of_two, first_of_lists}
use Rattle.gv_goscopes.specs.declared.called.Signature.{Signature}
use Rattle.gv_goscopes.specs.Called.{IsSignature, IsThisSignature}
use Rattle.gv_gocalls.specs.declared.answers.Callee.{Callee}
use Rattle.gv_gocalls.specs.declared.answers.Answer.{Answer}
use Rattle.gv_gocalls.specs.declared.answers.Results.TheVariants.{Unknown, Of}
use Rattle.gv_gocalls.specs.Answers.{IsThisCallee, IsThisAnswer}

-- by the signature of what is called, if that is known
abbrev by_signature : Env → Expr → List Expr → List Finding → Option AnySignature → AnyAnswer
by_signature env f es fs o = elim o [
  | None ↦ record { results = None; findings = fs ++ arguments env [] es }
  | Some s ↦ record { results = Some s.results; findings = fs ++ (unless (length s.params == length es) (start_of f) WrongCount ++ arguments env s.params es) }
]

pub known_stands : (env : Env) (f : Expr) (es : List Expr) (k : AnyCallee) (s : AnySignature) (callee : Callee) (given : Signature) (number : ℕ) (count misfit more first : Option Fault)
    → IsThisCallee callee (start_of f) k → k.signature ≡ Some s → IsThisSignature given s → number ≡ length es
    → count ≡ first_of (unless (length given.params.now == number) callee.start WrongCount) → misfit ≡ first_of (arguments env given.params.now es)
    → more ≡ earliest count misfit → first ≡ earliest callee.first more
    → IsThisAnswer (record { start = callee.start; results = Of given.results; first = first }) (start_of f) (function_answer env f es k)
known_stands env f es k s callee given number count misfit more first h is sig same counted argued both told =
    let r : Answer = record { start = callee.start; results = Of given.results; first = first } in
    let wrong : List Finding = unless (length s.params == length es) (start_of f) WrongCount in
    let e : count ≡ first_of wrong =
    counted
    ∙ ap (λ (ps : List (Option GoType)). first_of (unless (length ps == number) callee.start WrongCount)) sig.params
    ∙ ap (λ (n : ℕ). first_of (unless (length s.params == n) callee.start WrongCount)) same
    ∙ ap (λ (n : ℕ). first_of (unless (length s.params == length es) n WrongCount)) h.start in
    let m : misfit ≡ first_of (arguments env s.params es) = argued ∙ ap (λ (ps : List (Option GoType)). first_of (arguments env ps es)) sig.params in
    subst (λ (o : Option AnySignature). IsThisAnswer r (start_of f) (by_signature env f es k.findings o)) (sym is)
    (record {
      start = h.start;
      results = ap (λ (rs : List (Option GoType)). Some rs) sig.results;
      first = told ∙ first_of_lists k.findings wrong (arguments env s.params es) callee.first count misfit more h.first e m both;
    })

pub unknown_stands : (env : Env) (f : Expr) (es : List Expr) (k : AnyCallee) (callee : Callee) (misfit first : Option Fault)
    → IsThisCallee callee (start_of f) k → k.signature ≡ None → misfit ≡ first_of (arguments env [] es) → first ≡ earliest callee.first misfit
    → IsThisAnswer (record { start = callee.start; results = Unknown; first = first }) (start_of f) (function_answer env f es k)
unknown_stands env f es k callee misfit first h is argued told =
    let r : Answer = record { start = callee.start; results = Unknown; first = first } in
    subst (λ (o : Option AnySignature). IsThisAnswer r (start_of f) (by_signature env f es k.findings o)) (sym is)
    (record { start = h.start; results = refl; first = told ∙ first_of_two k.findings (arguments env [] es) callee.first misfit h.first argued })

-- ---- what is known of a signature

pub record IsThere (known : Signature) (o : Option AnySignature) : Type 0 where
  pub of_it : AnySignature
  pub same : o ≡ Some of_it
  pub is : IsThisSignature known of_it

pub there : (known : Signature) (o : Option AnySignature) → IsSignature (Some known) o → IsThere known o
there known None h = absurd h
there known (Some s) h = record { of_it = s; same = refl; is = h }

pub nowhere : (o : Option AnySignature) → IsSignature None o → o ≡ None
nowhere None h = refl
nowhere (Some s) h = absurd h

-- ---- tests of classes

pub equal : (m n : ℕ) → m ≡ n → (m == n) ≡ true
equal m n e = grind arith

pub unequal : (m n : ℕ) → (m ≡ n → ⊥) → (m == n) ≡ false
unequal m n e = grind arith
