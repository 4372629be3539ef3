-- The program where nothing is kept.
use Rattle.std.proofs.Common.{◌≡◌, ℕ, suc, ◌-◌, ◌^◌, ◌<◌, true, List, [], ◌∷◌, length, map, refl, sym, ap, subst, ◌∙◌, arith}
use Rattle.gv_base.specs.declared.small.Small.{Small}
use Rattle.gv_base.specs.declared.small.SmallOp.{SmallOp}
use Rattle.gv_lang.specs.declared.program.Proc.{Proc as DeclaredProc}
use Rattle.gv_lang.specs.declared.program.Program.{Program as DeclaredProgram}
use Rattle.gv_lang.specs.declared.program.Struct.{Struct}
use Rattle.gv_lang.specs.Plain.{proc_of, program_of as plain_program_of}
use Rattle.gv_lang.specs.WellShaped.{is_well_shaped}
use Rattle.gv_smallprogram.specs.Program.{nowhere, nothing_kept, method_proc, recovery_proc, numbers_from, methods_from, program_of}
use Rattle.gv_smallprogram.specs.Laws.{IsSound}
use Rattle.gv_smallprogram.proofs.Shaped.{well_shaped}

-- no number of an operation is looked at
methods_are : (number : ℕ) (ops : List SmallOp) → map (method_proc [] [] nowhere) ops ≡ methods_from nothing_kept number ops
methods_are number [] = refl
methods_are number (op ∷ ops) = ap (λ ms. method_proc [] [] nowhere op ∷ ms) (methods_are (suc number) ops)

-- these are its parts
pub is_program : (structs : List Struct) (procs : List DeclaredProc) (numbers : List ℕ) (small : Small) → structs ≡ record { name = []; fields = [] } ∷ []
    → map proc_of procs ≡ recovery_proc nowhere ∷ map (method_proc [] [] nowhere) small.ops → numbers ≡ numbers_from 1 small.ops
    → plain_program_of (record { structs = structs; procs = procs; recover = 0; ops = numbers }) ≡ program_of small
is_program structs procs numbers small s p n =
    let all : map proc_of procs ≡ recovery_proc nowhere ∷ methods_from nothing_kept 0 small.ops = p ∙ ap (λ ms. recovery_proc nowhere ∷ ms) (methods_are 0 small.ops) in
    λ i. record { structs = s i; procs = all i; recover = 0; ops = n i }

-- and has a good shape
pub is_shaped : (g : DeclaredProgram) (small : Small) → plain_program_of g ≡ program_of small → length small.ops < 2 ^ 32 - 3 → IsSound small
    → is_well_shaped (plain_program_of g) ≡ true
is_shaped g small e few sound = subst (λ p. is_well_shaped p ≡ true) (sym e) (well_shaped nothing_kept small refl sound (omega arith))
