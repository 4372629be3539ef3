-- What is known of what is called, and keys that stand in a list again.
use Rattle.std.specs.Prelude.{◌≡◌, ℕ, List, [], ◌∷◌, ◌++◌, Option, Some, None, not}
use Rattle.gv_base.specs.declared.answers.Code.TheVariants.{Twice}
use Rattle.gv_gosyntax.specs.declared.lexeme.Lexeme.{Lexeme}
use Rattle.gv_gotypes.specs.Types.{Finding, unless}
use Rattle.gv_gotypes.specs.Scopes.{Source, Signature as AnySignature, name_in}
use Rattle.gv_gotypes.specs.Members.{Member, ValueOf, FieldOf, Called as CalledMember, TypeName}
use Rattle.gv_gotypes.specs.Calls.{is_keyed_in}
use Rattle.gv_goscopes.specs.declared.called.Signature.{Signature}
use Rattle.gv_goscopes.specs.declared.called.Called.{Called}
use Rattle.gv_goscopes.specs.declared.called.Called.TheVariants.{By, Other}

-- these are the types of parameters and results
pub record IsThisSignature (known : Signature) (s : AnySignature) : Type 0 where
  pub params : known.params.now ≡ s.params
  pub results : known.results.now ≡ s.results

abbrev pub IsSignature : Option Signature → Option AnySignature → Type 0
IsSignature None None = Unit {0}
IsSignature (Some known) (Some s) = IsThisSignature known s
IsSignature known s = ⊥

-- what is known of a member where it is called
abbrev pub IsThisCalled : Called → Member → Type 0
IsThisCalled (By known) (CalledMember s) = IsThisSignature known s
IsThisCalled Other (ValueOf c) = Unit {0}
IsThisCalled Other (FieldOf n k) = Unit {0}
IsThisCalled Other TypeName = Unit {0}
IsThisCalled known m = ⊥

abbrev pub IsCalled : Option Called → Option Member → Type 0
IsCalled None None = Unit {0}
IsCalled (Some known) (Some m) = IsThisCalled known m
IsCalled known m = ⊥

-- names of a list that stand among those before them, and before the list
abbrev pub keyed_again : Source → List (List ℕ) → List Lexeme → List Finding
keyed_again s before [] = []
keyed_again s before (t ∷ ts) =
    unless (not (is_keyed_in before (name_in s t))) t.start Twice ++ keyed_again s (name_in s t ∷ before) ts
