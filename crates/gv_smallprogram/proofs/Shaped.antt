-- The program of a package of the small form has a good shape.
use Rattle.std.proofs.Common.{◌≡◌, ℕ, suc, ◌+◌, ◌<◌, ◌≤◌, nat_lt, nat_le, Bool, true, ◌&&◌, List, [], ◌∷◌, length, map, slice_get, refl, ap, ◌∙◌, arith}
use Rattle.std.specs.Prelude.{not, fold}
use Rattle.std.specs.List.{list_all}
use Rattle.std.proofs.lemmas.Bool.Decides.{nat_tests}
use Rattle.gv_base.specs.declared.answers.Place.{Place}
use Rattle.gv_base.specs.declared.small.Small.{Small}
use Rattle.gv_base.specs.declared.small.SmallOp.{SmallOp}
use Rattle.gv_small.specs.Tokens.{is_among}
use Rattle.gv_small.specs.Forms.{is_distinct}
use Rattle.gv_lang.specs.declared.program.LocalKind.TheVariants as kind
use Rattle.gv_lang.specs.Tree.{Return, finish, next, Program}
use Rattle.gv_lang.specs.Graph.{size}
use Rattle.gv_lang.specs.Kinds.{agree_all, is_typed_block}
use Rattle.gv_lang.specs.WellShaped.{too_many, is_fine_proc, is_recovery, is_operation, method_at, are_distinct, commands, are_few, is_well_shaped}
use Rattle.gv_smallprogram.specs.Program.{Unkept, sum_expr, param_locals, method_locals, method_proc, recovery_proc, numbers_from, methods_from, program_with}
use Rattle.gv_smallprogram.specs.Laws.{is_sound_op, IsSound, IsWord, AreFew, ProgramsAreWellShaped}
use Rattle.gv_smallprogram.proofs.Sums.{and_first, and_second, sum_kind}
use Rattle.gv_smallprogram.proofs.Names.{IsMethodAt, Stand, stand_behind, first_stands, rest_stands, names_are}

less : (a b : ℕ) → a < b → nat_lt a b ≡ true
less a b h = grind (arith, nat_tests)

no_more : (a b : ℕ) → a ≤ b → nat_le a b ≡ true
no_more a b h = grind (arith, nat_tests)

all_three : (a b c : Bool) → a ≡ true → b ≡ true → c ≡ true → (a && b && c) ≡ true
all_three a b c p q r = rw (p, q, r) refl

all_five : (a b c d e : Bool) → a ≡ true → b ≡ true → c ≡ true → d ≡ true → e ≡ true → (a && b && c && d && e) ≡ true
all_five a b c d e p q r s t = rw (p, q, r, s, t) refl

both : (a b : Bool) → a ≡ true → b ≡ true → (a && b) ≡ true
both a b p q = rw (p, q) refl

-- ---- counts

param_count : (names : List (List ℕ)) (number : ℕ) → length (param_locals number names) ≡ length names
param_count [] number = refl
param_count (n ∷ names) number = ap suc (param_count names (suc number))

method_count : (unkept : Unkept) (number : ℕ) (ops : List SmallOp) → length (methods_from unkept number ops) ≡ length ops
method_count unkept number [] = refl
method_count unkept number (op ∷ ops) = ap suc (method_count unkept (suc number) ops)

command_count : (unkept : Unkept) (count number : ℕ) (ops : List SmallOp) → fold (λ a x. a + x) count (map (λ p. size p.body) (methods_from unkept number ops)) ≡ count + length ops
command_count unkept count number [] = omega arith
command_count unkept count number (op ∷ ops) = (let rest = command_count unkept (count + 1) (suc number) ops in rest ∙ omega arith)

-- ---- names

same_distinct : (ns : List (List ℕ)) → are_distinct ns ≡ is_distinct ns
same_distinct [] = refl
same_distinct (n ∷ ns) = ap (λ b. not (is_among ns n) && b) (same_distinct ns)

-- ---- procedures

fine_method : (g : Program) (type_name receiver : List ℕ) (place : Place) (op : SmallOp) → is_sound_op op ≡ true → is_fine_proc g (method_proc type_name receiver place op) ≡ true
fine_method g type_name receiver place op sound =
    all_three (nat_le (suc (length op.params)) (length (method_locals receiver op)))
    (is_typed_block g (method_locals receiver op) (kind.Word ∷ []) (next (Return (sum_expr op ∷ []) place) finish))
    true
    (no_more (suc (length op.params)) (length (method_locals receiver op)) (let count = param_count op.params 2 in omega (arith, count)))
    (ap (λ k. agree_all (k ∷ []) (kind.Word ∷ []) && true) (sum_kind receiver op sound))
    refl

module _ (unkept : Unkept) (g : Program) where
  fine_methods : (number : ℕ) (ops : List SmallOp) → list_all is_sound_op ops ≡ true → list_all (is_fine_proc g) (methods_from unkept number ops) ≡ true
  fine_methods number [] sound = refl
  fine_methods number (op ∷ ops) sound =
      both (is_fine_proc g (method_proc unkept.type_name (unkept.receiver number) (unkept.returns number) op))
      (list_all (is_fine_proc g) (methods_from unkept (suc number) ops))
      (fine_method g unkept.type_name (unkept.receiver number) (unkept.returns number) op (and_first (is_sound_op op) (list_all is_sound_op ops) sound))
      (fine_methods (suc number) ops (and_second (is_sound_op op) (list_all is_sound_op ops) sound))

  is_op : (number : ℕ) (op : SmallOp) → IsMethodAt unkept g.procs number op → is_operation (slice_get g.procs number) ≡ true
  is_op number op at = ap is_operation at.there

  are_ops : (from number : ℕ) (ops : List SmallOp) → Stand unkept g.procs from number ops → list_all (λ n. is_operation (slice_get g.procs n)) (numbers_from from ops) ≡ true
  are_ops from number [] h = refl
  are_ops from number (op ∷ ops) h =
      both (is_operation (slice_get g.procs from)) (list_all (λ n. is_operation (slice_get g.procs n)) (numbers_from (suc from) ops))
      (is_op from op (first_stands unkept g.procs from number op ops h))
      (are_ops (suc from) (suc number) ops (rest_stands unkept g.procs from number op ops h))

module _ (unkept : Unkept) (small : Small) where
  abbrev g : Program
  g = program_with unkept small

  behind : Stand unkept g.procs 1 0 small.ops
  behind = stand_behind unkept (recovery_proc unkept.recovers) small.ops

  counted : AreFew small → are_few g ≡ true
  counted few =
      let procs = method_count unkept 0 small.ops in
      let all : commands g ≡ 2 + length small.ops = command_count unkept 2 0 small.ops in
      all_three (nat_lt 1 too_many) (nat_lt (length g.procs) too_many) (nat_lt (commands g) too_many) refl
      (less (length g.procs) too_many (omega (arith, procs)))
      (less (commands g) too_many (omega (arith, all)))

  shaped : IsWord unkept → IsSound small → AreFew small → is_well_shaped g ≡ true
  shaped word sound few =
      all_five (list_all (is_fine_proc g) g.procs) (is_recovery (slice_get g.procs g.recover)) (list_all (λ n. is_operation (slice_get g.procs n)) g.ops)
      (are_distinct (map (method_at g) g.ops)) (are_few g)
      (fine_methods unkept g 0 small.ops sound.sums)
      refl
      (are_ops unkept g 1 0 small.ops behind)
      (ap are_distinct (names_are unkept g word 1 0 small.ops behind) ∙ same_distinct (map (λ op. op.name) small.ops) ∙ sound.names)
      (counted few)

pub well_shaped : ProgramsAreWellShaped
well_shaped unkept small word sound few = shaped unkept small word sound few
