-- The place and the literal tell the operator.
use Rattle.std.proofs.Common.{◌≡◌, ℕ, List, [], ◌∷◌, get_or, refl, ap, sym, ◌∙◌}
use Rattle.gv_terms.specs.declared.operator.Operator.{Operator}
use Rattle.gv_terms.specs.declared.operator.Operator.TheVariants as op
use Rattle.gv_terms.specs.Places.{place_of, literal_of}

-- the operators in their order, with this literal
abbrev all_with : ℕ → List Operator
all_with k = op.Number k ∷ op.True ∷ op.False ∷ op.Nil ∷ op.NilSlice ∷ op.NoCall ∷ op.MapWW ∷ op.MapWB ∷ op.Not ∷ op.Complement ∷ op.Or ∷ op.And ∷ op.Equal ∷ op.Less ∷ op.AtMost ∷ op.Plus ∷ op.Minus ∷ op.BitOr ∷ op.BitXor ∷ op.Times ∷ op.Divide ∷ op.Remainder ∷ op.ShiftLeft ∷ op.ShiftRight ∷ op.BitAnd ∷ op.BitClear ∷ op.If ∷ op.Imp ∷ op.Fits ∷ op.Bytes k ∷ op.Words k ∷ op.Refs k ∷ op.Blocks k ∷ op.Len ∷ op.At ∷ op.Upd ∷ op.Sub ∷ op.Cat ∷ op.IsZero ∷ op.Le64 ∷ op.Un64 ∷ op.Put64 ∷ op.Get ∷ op.Has ∷ op.Put ∷ op.Del ∷ op.SLen ∷ op.Sl ∷ op.SCap ∷ []

abbrev operator_at : ℕ → ℕ → Operator
operator_at i k = get_or (all_with k) i op.True

found : (o : Operator) → operator_at (place_of o) (literal_of o) ≡ o
found (op.Number k) = refl
found op.True = refl
found op.False = refl
found op.Nil = refl
found op.NilSlice = refl
found op.NoCall = refl
found op.MapWW = refl
found op.MapWB = refl
found op.Not = refl
found op.Complement = refl
found op.Or = refl
found op.And = refl
found op.Equal = refl
found op.Less = refl
found op.AtMost = refl
found op.Plus = refl
found op.Minus = refl
found op.BitOr = refl
found op.BitXor = refl
found op.Times = refl
found op.Divide = refl
found op.Remainder = refl
found op.ShiftLeft = refl
found op.ShiftRight = refl
found op.BitAnd = refl
found op.BitClear = refl
found op.If = refl
found op.Imp = refl
found op.Fits = refl
found (op.Bytes k) = refl
found (op.Words k) = refl
found (op.Refs k) = refl
found (op.Blocks k) = refl
found op.Len = refl
found op.At = refl
found op.Upd = refl
found op.Sub = refl
found op.Cat = refl
found op.IsZero = refl
found op.Le64 = refl
found op.Un64 = refl
found op.Put64 = refl
found op.Get = refl
found op.Has = refl
found op.Put = refl
found op.Del = refl
found op.SLen = refl
found op.Sl = refl
found op.SCap = refl

pub same_operator : (o p : Operator) → place_of o ≡ place_of p → literal_of o ≡ literal_of p → o ≡ p
same_operator o p e f =
    sym (found o) ∙ ap (λ i. operator_at i (literal_of o)) e ∙ ap (λ k. operator_at (place_of p) k) f ∙ found p
