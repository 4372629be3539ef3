-- What a call that found something, or nothing, says.
use Rattle.std.proofs.Common.{◌≡◌, ℕ, List, Option, Some, None, Result, Ok, Err, IfErr, subst}
use Rattle.std.specs.Prelude.{IfSome, IfNone}
use Rattle.gv_base.specs.declared.answers.Place.{Place}
use Rattle.gv_base.specs.declared.answers.Code.{Code}
use Rattle.gv_base.specs.declared.answers.Refusal.{Refusal}
use Rattle.gv_base.specs.declared.answers.Refusal.TheVariants as refusal
use Rattle.gv_base.specs.declared.token.Token.{Token}
use Rattle.gv_text.specs.Answers.{AreReadAs}
use Rattle.gv_lex.specs.Reading as lex
use Rattle.gv_smallscript.specs.declared.forms.SmallFault.{SmallFault}
use Rattle.gv_smallscript.specs.declared.forms.SmallFault.TheVariants as fault
use Rattle.gv_smallscript.specs.declared.forms.SmallScript.{SmallScript}
use Rattle.gv_smallscript.specs.SmallScript.{HasForm, IsSmallScript}
use Rattle.gv_smallscript.proofs.Once.{same_tokens}

pub none_of : {A X : Type 0} (o : Option A) → o ≡ None → IfNone o X → X
none_of {A} {X} o e h = subst (λ (p : Option A). IfNone p X) e h

pub some_of : {A : Type 0} (o : Option A) (x : A) (P : A → Type 0) → o ≡ Some x → IfSome o P → P x
some_of {A} o x P e h = subst (λ (p : Option A). IfSome p P) e h

-- of no form is a text whose tokens are of none
pub other_of : (text : List ℕ) (ts : List Token) (o : Option SmallScript) (r : Result SmallScript SmallFault) → IfErr r (λ e. o ≡ None)
    → IfNone o ((s : SmallScript) → HasForm text ts s → ⊥) → lex.IsRead text ts → IfErr r (λ e. e ≡ fault.Other → (s : SmallScript) → IsSmallScript text s → ⊥)
other_of text ts o (Ok s) k none cut = tt
other_of text ts o (Err e) k none cut =
    λ is s small. none_of o k none s (subst (λ (us : List Token). HasForm text us s) (same_tokens text small.tokens ts small.cut cut) small.form)

pub not_read : (ts : List Token) (r : Refusal) (place : Place) (code : Code) → r ≡ refusal.At place code → AreReadAs ts (Err r) → ⊥
not_read ts r place code e h =
    let read : AreReadAs ts (Err (refusal.At place code)) = subst (λ (x : Refusal). AreReadAs ts (Err x)) e h in
    read
