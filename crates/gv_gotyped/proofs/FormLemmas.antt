-- Forms by the fault that is told of their parts.
use Rattle.std.proofs.Common.{◌≡◌, ℕ, Bool, true, false, List, [], ◌∷◌, Option, Some, None, refl, sym, subst}
use Rattle.std.specs.Prelude.{if◌then◌else◌}
use Rattle.gv_operands.specs.Operators.{is_fixed}
use Rattle.gv_base.specs.declared.answers.Code.TheVariants as code
use Rattle.gv_operands.specs.declared.types.Class.{Class}
use Rattle.gv_gotypes.specs.Types.{Finding, Fault as FaultAt, Outer, Assigned}
use Rattle.gv_gotypes.specs.Places.{run_form, whole_form}
use Rattle.gv_gotyped.specs.declared.fault.Fault.{Fault}
use Rattle.gv_gotyped.specs.declared.outcomes.Made.{Made}
use Rattle.gv_gotyped.specs.First.{first_of, AreFaults, IsMade}

pub refused_form : (fs : List Finding) (made : Option Class) (start : ℕ) (f : Fault) → AreFaults fs → Some f ≡ first_of fs
    → IsMade (record { class = None; first = Some f }) (run_form fs made start)
refused_form [] made start f h e = absurd cc
refused_form (FaultAt at c ∷ fs) made start f h e = record { class = refl; first = e }
refused_form (Outer at declared ∷ fs) made start f h e = absurd h
refused_form (Assigned declared ∷ fs) made start f h e = absurd h

pub right_form : (fs : List Finding) (c : Class) (start : ℕ) → AreFaults fs → None ≡ first_of fs
    → IsMade (record { class = Some c; first = None }) (run_form fs (Some c) start)
right_form [] c start h e = record { class = refl; first = refl }
right_form (FaultAt at k ∷ fs) c start h e = absurd cc
right_form (Outer at declared ∷ fs) c start h e = absurd h
right_form (Assigned declared ∷ fs) c start h e = absurd h

pub wrong_form : (fs : List Finding) (start : ℕ) → AreFaults fs → None ≡ first_of fs
    → IsMade (record { class = None; first = Some (record { start = start; code = code.WrongType }) }) (run_form fs None start)
wrong_form [] start h e = record { class = refl; first = refl }
wrong_form (FaultAt at k ∷ fs) start h e = absurd cc
wrong_form (Outer at declared ∷ fs) start h e = absurd h
wrong_form (Assigned declared ∷ fs) start h e = absurd h

pub fixed_form : (fs : List Finding) (c : Class) (start : ℕ) → is_fixed c ≡ true → IsMade (record { class = Some c; first = None }) (whole_form fs (Some c) start)
fixed_form fs c start e = subst
    (λ (b : Bool). IsMade (record { class = Some c; first = None }) (if b then record { class = Some c; findings = [] } else run_form fs (Some c) start))
    (sym e) (record { class = refl; first = refl })

pub other_form : (fs : List Finding) (c : Class) (start : ℕ) (m : Made) → is_fixed c ≡ false → IsMade m (run_form fs (Some c) start) → IsMade m (whole_form fs (Some c) start)
other_form fs c start m e h = subst
    (λ (b : Bool). IsMade m (if b then record { class = Some c; findings = [] } else run_form fs (Some c) start)) (sym e) h

-- what is made by another name
pub renamed : (fs : List Finding) (start : ℕ) (m : Made) (c d : Option Class) → c ≡ d → IsMade m (whole_form fs c start) → IsMade m (whole_form fs d start)
renamed fs start m c d e h = subst (λ (x : Option Class). IsMade m (whole_form fs x start)) e h
