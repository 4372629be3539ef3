-- The expression of a Sum has the Sum's value, and the kind of a word.
use Rattle.std.proofs.Common.{◌≡◌, ℕ, zero, suc, ◌+◌, ◌-◌, ◌%◌, ◌^◌, ◌<◌, nat_lt, Bool, true, false, ◌&&◌, cond, List, [], ◌∷◌, length, map, fold, slice_get, Some, option_map, refl, sym, ap, subst, ◌∙◌, arith}
use Rattle.std.specs.Prelude.{slice_index}
use Rattle.std.specs.List.{AllByRecursion, list_all}
use Rattle.std.proofs.lemmas.Bool.Decides.{nat_tests}
use Rattle.gv_base.specs.declared.small.SmallOp.{SmallOp}
use Rattle.gv_base.specs.declared.small.Turn.{Turn}
use Rattle.gv_base.specs.declared.small.Part.{Part}
use Rattle.gv_base.specs.declared.small.Part.TheVariants as part
use Rattle.gv_base.specs.declared.val.Val.{Val}
use Rattle.gv_base.specs.declared.val.Val.TheVariants as val
use Rattle.gv_words.specs.Words.{minus}
use Rattle.gv_lang.specs.declared.pure.Binary.TheVariants as binary
use Rattle.gv_lang.specs.declared.program.LocalKind.TheVariants as kind
use Rattle.gv_lang.specs.Tree.{Expr, Two}
use Rattle.gv_lang.specs.Values.{value, two}
use Rattle.gv_lang.specs.Kinds.{kind_of, kind_of_two}
use Rattle.gv_smallprogram.specs.Sums.{part_value, turned, sum_value}
use Rattle.gv_smallprogram.specs.Program.{part_expr, turn_expr, sum_expr, param_locals, method_locals}
use Rattle.gv_smallprogram.specs.Laws.{is_sound_part, is_sound_op}

pub and_first : (a b : Bool) → (a && b) ≡ true → a ≡ true
and_first true b e = refl
and_first false b e = absurd cc

pub and_second : (a b : Bool) → (a && b) ≡ true → b ≡ true
and_second true b e = e
and_second false b e = absurd cc

pub below : (a b : ℕ) → nat_lt a b ≡ true → a < b
below a b e = grind (arith, nat_tests)

abbrev pub AreBounded : List ℕ → Type 0
AreBounded ns = AllByRecursion (λ n. n < 2 ^ 64) ns

-- the locals of a call
abbrev pub locals_of : Val → List ℕ → List Val
locals_of receiver ns = receiver ∷ map val.Word ns

got : (ns : List ℕ) (place : ℕ) → place < length ns → slice_get (map val.Word ns) place ≡ Some (val.Word (slice_index ns place))
got [] place h = absurd (omega arith)
got (n ∷ ns) zero h = refl
got (n ∷ ns) (suc place) h = got ns place (omega arith)

bounded_at : (ns : List ℕ) (place : ℕ) → AreBounded ns → place < length ns → slice_index ns place < 2 ^ 64
bounded_at [] place all h = absurd (omega arith)
bounded_at (n ∷ ns) zero all h = all.0
bounded_at (n ∷ ns) (suc place) all h = bounded_at ns place all.1 (omega arith)

pub part_below : (ns : List ℕ) → AreBounded ns → (p : Part) → is_sound_part (length ns) p ≡ true → part_value ns p < 2 ^ 64
part_below ns all (part.Param place) h = bounded_at ns place all (below place (length ns) h)
part_below ns all (part.Number n) h = below n (2 ^ 64) h

module _ (receiver : Val) (ns : List ℕ) (all : AreBounded ns) where
  part_is : (p : Part) → is_sound_part (length ns) p ≡ true → value (locals_of receiver ns) (part_expr p) ≡ Some (val.Word (part_value ns p))
  part_is (part.Param place) h = got ns place (below place (length ns) h)
  part_is (part.Number n) h = refl

  taken_away : (a b : ℕ) → b < 2 ^ 64 → minus a b ≡ (a + (2 ^ 64 - b)) % 2 ^ 64
  taken_away a b h = ap (λ n. n % 2 ^ 64) (omega arith)

  turn_is : (e : Expr) (a : ℕ) (t : Turn) → value (locals_of receiver ns) e ≡ Some (val.Word a) → is_sound_part (length ns) t.part ≡ true
      → value (locals_of receiver ns) (turn_expr e t) ≡ Some (val.Word (turned ns a t))
  turn_is e a t is h = go t.minus
    where
      b : ℕ
      b = part_value ns t.part

      go : (m : Bool) → value (locals_of receiver ns) (Two (cond m binary.Minus binary.Plus) e (part_expr t.part))
          ≡ Some (val.Word (cond m ((a + (2 ^ 64 - part_value ns t.part)) % 2 ^ 64) ((a + part_value ns t.part) % 2 ^ 64)))
      go true = ap (λ o. two binary.Minus o (value (locals_of receiver ns) (part_expr t.part))) is
          ∙ ap (two binary.Minus (Some (val.Word a))) (part_is t.part h)
          ∙ ap (λ n. Some (val.Word n)) (taken_away a (part_value ns t.part) (part_below ns all t.part h))
      go false = ap (λ o. two binary.Plus o (value (locals_of receiver ns) (part_expr t.part))) is
          ∙ ap (two binary.Plus (Some (val.Word a))) (part_is t.part h)

  turns_are : (e : Expr) (a : ℕ) (ts : List Turn) → value (locals_of receiver ns) e ≡ Some (val.Word a)
      → list_all (λ t. is_sound_part (length ns) t.part) ts ≡ true
      → value (locals_of receiver ns) (fold turn_expr e ts) ≡ Some (val.Word (fold (turned ns) a ts))
  turns_are e a [] is h = is
  turns_are e a (t ∷ ts) is h =
      turns_are (turn_expr e t) (turned ns a t) ts
      (turn_is e a t is (and_first (is_sound_part (length ns) t.part) (list_all (λ u. is_sound_part (length ns) u.part) ts) h))
      (and_second (is_sound_part (length ns) t.part) (list_all (λ u. is_sound_part (length ns) u.part) ts) h)

  pub sum_is : (op : SmallOp) → length ns ≡ length op.params → is_sound_op op ≡ true → value (locals_of receiver ns) (sum_expr op) ≡ Some (val.Word (sum_value op ns))
  sum_is op long h =
      let sound : is_sound_part (length ns) op.first && list_all (λ t. is_sound_part (length ns) t.part) op.rest ≡ true =
      subst (λ n. is_sound_part n op.first && list_all (λ t. is_sound_part n t.part) op.rest ≡ true) (sym long) h in
      let first = and_first (is_sound_part (length ns) op.first) (list_all (λ t. is_sound_part (length ns) t.part) op.rest) sound in
      let rest = and_second (is_sound_part (length ns) op.first) (list_all (λ t. is_sound_part (length ns) t.part) op.rest) sound in
      turns_are (part_expr op.first) (part_value ns op.first) op.rest (part_is op.first first) rest

-- ---- kinds

param_kind : (names : List (List ℕ)) (number place : ℕ) → place < length names → option_map (λ l. l.kind) (slice_get (param_locals number names) place) ≡ Some kind.Word
param_kind [] number place h = absurd (omega arith)
param_kind (n ∷ names) number zero h = refl
param_kind (n ∷ names) number (suc place) h = param_kind names (suc number) place (omega arith)

module _ (receiver : List ℕ) (op : SmallOp) where
  abbrev IsWordKind : Expr → Type 0
  IsWordKind e = kind_of (method_locals receiver op) e ≡ Some kind.Word

  part_kind : (p : Part) → is_sound_part (length op.params) p ≡ true → IsWordKind (part_expr p)
  part_kind (part.Param place) h = param_kind op.params 2 place (below place (length op.params) h)
  part_kind (part.Number n) h = refl

  turn_kind : (e : Expr) (t : Turn) → IsWordKind e → is_sound_part (length op.params) t.part ≡ true → IsWordKind (turn_expr e t)
  turn_kind e t is h = go t.minus
    where
      go : (m : Bool) → IsWordKind (Two (cond m binary.Minus binary.Plus) e (part_expr t.part))
      go true = ap (λ k. kind_of_two binary.Minus k (kind_of (method_locals receiver op) (part_expr t.part))) is
          ∙ ap (kind_of_two binary.Minus (Some kind.Word)) (part_kind t.part h)
      go false = ap (λ k. kind_of_two binary.Plus k (kind_of (method_locals receiver op) (part_expr t.part))) is
          ∙ ap (kind_of_two binary.Plus (Some kind.Word)) (part_kind t.part h)

  turn_kinds : (e : Expr) (ts : List Turn) → IsWordKind e → list_all (λ t. is_sound_part (length op.params) t.part) ts ≡ true → IsWordKind (fold turn_expr e ts)
  turn_kinds e [] is h = is
  turn_kinds e (t ∷ ts) is h =
      turn_kinds (turn_expr e t) ts
      (turn_kind e t is (and_first (is_sound_part (length op.params) t.part) (list_all (λ u. is_sound_part (length op.params) u.part) ts) h))
      (and_second (is_sound_part (length op.params) t.part) (list_all (λ u. is_sound_part (length op.params) u.part) ts) h)

  pub sum_kind : is_sound_op op ≡ true → IsWordKind (sum_expr op)
  sum_kind h =
      let first = and_first (is_sound_part (length op.params) op.first) (list_all (λ t. is_sound_part (length op.params) t.part) op.rest) h in
      let rest = and_second (is_sound_part (length op.params) op.first) (list_all (λ t. is_sound_part (length op.params) t.part) op.rest) h in
      turn_kinds (part_expr op.first) op.rest (part_kind op.first first) rest
