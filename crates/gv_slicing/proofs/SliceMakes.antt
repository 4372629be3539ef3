-- Making a slice of zeros.
use Rattle.std.proofs.Common.{◌≡◌, ℕ, zero, suc, ◌+◌, ◌<◌, Bool, true, false, nat_eq, nat_lt, nat_le, ltb-true, List, [], ◌∷◌, map, length, replicate, Option, Some, refl, sym, ap, subst, ◌∙◌, arith}
use Rattle.std.specs.Prelude.{slice_get, slice_set}
use Rattle.std.specs.List.{list_all}
use Rattle.std.proofs.lemmas.List.{length-replicate}
use Rattle.std.proofs.lemmas.List.Elements.{All-replicate}
use Rattle.gv_base.specs.declared.answers.Place.{Place}
use Rattle.gv_base.specs.declared.answer.Answer.{Answer}
use Rattle.gv_base.specs.declared.answer.Answer.TheVariants.{Next}
use Rattle.gv_base.specs.declared.reason.Reason.TheVariants.{OutOfRange}
use Rattle.gv_base.specs.declared.val.Val.{Val}
use Rattle.gv_base.specs.declared.val.Val.TheVariants as stored
use Rattle.gv_terms.specs.declared.sort.Sort.{Sort}
use Rattle.gv_terms.specs.declared.operator.Operator.TheVariants as op
use Rattle.gv_terms.specs.declared.tree.TermTree.{TermTree}
use Rattle.gv_terms.specs.declared.value.Env.{Env}
use Rattle.gv_terms.specs.declared.value.Value.{Value}
use Rattle.gv_terms.specs.declared.value.Value.TheVariants as val
use Rattle.gv_terms.specs.declared.var.Var.{Var}
use Rattle.gv_words.specs.Words.{words}
use Rattle.gv_terms.specs.Meaning.{operate, too_long}
use Rattle.gv_terms.specs.Trees.{value_under}
use Rattle.gv_terms.specs.Values.{has_sort, slice_of}
use Rattle.gv_terms.proofs.Valued.{value_apply}
use Rattle.gv_world.specs.declared.cell.Cell.{Cell}
use Rattle.gv_world.specs.Answers.{and_then, undefined_if}
use Rattle.gv_world.specs.Store as world
use Rattle.gv_world.specs.Store.{Store as World, fresh, with_new}
use Rattle.gv_world.specs.Slices.{whole_of, new_cell}
use Rattle.gv_lang.specs.declared.program.ItemKind.{ItemKind}
use Rattle.gv_lang.specs.declared.program.ItemKind.TheVariants as item
use Rattle.gv_lang.specs.Tree.{Expr, MakeSlice, Do, Program}
use Rattle.gv_lang.specs.Todo.{Todo, Run}
use Rattle.gv_lang.specs.Threads.{Frame}
use Rattle.gv_lang.specs.Table.{as_word, sets, zero_item, makes_slice}
use Rattle.gv_lang.specs.Values.{value}
use Rattle.gv_lang.specs.Step.{Stepped, GoesOn, stepped, settled}
use Rattle.gv_resources.specs.Told.{value_of}
use Rattle.gv_resources.proofs.Sums.{with_piece}
use Rattle.gv_assertions.specs.Atoms.{Slice, Spare}
use Rattle.gv_terms.specs.Ranges.{IsInRange}
use Rattle.gv_assertions.specs.Standing.{StandsFor, slice, spare, both, none, AreTrueUnder, IsTrueUnder, AreValuesOf, OwnsSlice, OwnsSpare, items_of}
use Rattle.gv_assertions.proofs.Lists.{joined}
use Rattle.gv_instances.proofs.Agreeing.{closed_law}
use Rattle.gv_seats.specs.Paths.{number}
use Rattle.gv_seats.specs.Seats.{shape_of}
use Rattle.gv_seats.specs.Changes.{Nothing}
use Rattle.gv_seats.specs.Scoping.{variable, extended}
use Rattle.gv_seats.specs.Soundness.{Goes, goes, at_rest}
use Rattle.gv_seats.proofs.Extending.{described_agree}
use Rattle.gv_seats.proofs.Locals.{have_set, set_length}
use Rattle.gv_giving.proofs.Folding.{extended_agree, extended_valued, extended_values}
use Rattle.gv_slicing.specs.Laws.{MakesLaw}
use Rattle.gv_slicing.specs.Rows.{makes, list_sort, less, one_of, zero_facts, made_path}
use Rattle.gv_slicing.proofs.Fresh.{next_object, fresh_is, sliced_too, sliced_changes, new_items, owns_slice, no_spare, untouched_is, base_grown, still_grown}
use Rattle.gv_slicing.proofs.Operands.{word_operand}
use Rattle.gv_slicing.proofs.Truths.{facts_join, number_value, equal_true, one_value}

-- ---- lists of zeros

abbrev zeros : ItemKind → ℕ → Value
zeros item.Byte n = val.Bytes (replicate n 0)
zeros item.Word n = val.Words (replicate n 0)
zeros item.Ref n = val.Refs (replicate n 0)

abbrev zero_cells : ItemKind → ℕ → List Cell
zero_cells k n = replicate n (new_cell (zero_item k))

copies : {A B : Type 0} (f : A → B) (n : ℕ) (x : A) → map f (replicate n x) ≡ replicate n (f x)
copies f zero x = refl
copies f (suc n) x = ap (λ ys. f x ∷ ys) (copies f n x)

zero_items : (k : ItemKind) (n : ℕ) → items_of (zeros k n) ≡ Some (map (λ (c : Cell). value_of c.value) (zero_cells k n))
zero_items item.Byte n = ap Some (copies (λ b. val.Bytes (b ∷ [])) n 0 ∙ sym (copies (λ (c : Cell). value_of c.value) n (new_cell (zero_item item.Byte))))
zero_items item.Word n = ap Some (copies (λ b. val.Word b) n 0 ∙ sym (copies (λ (c : Cell). value_of c.value) n (new_cell (zero_item item.Word))))
zero_items item.Ref n = ap Some (copies (λ b. val.Ref b) n 0 ∙ sym (copies (λ (c : Cell). value_of c.value) n (new_cell (zero_item item.Ref))))

zeros_sort : (k : ItemKind) (n : ℕ) → has_sort (zeros k n) (list_sort k) ≡ true
zeros_sort item.Byte n = refl
zeros_sort item.Word n = refl
zeros_sort item.Ref n = refl

few_zeros : (n : ℕ) → n < too_long → length (replicate n zero) < too_long
few_zeros n l = omega (arith, length-replicate n zero, l)

zeros_can : (k : ItemKind) (n : ℕ) → n < too_long → IsInRange (zeros k n)
zeros_can item.Byte n l = (few_zeros n l, All-replicate (λ b. b < 256) n 0 (omega arith))
zeros_can item.Word n l = (few_zeros n l, All-replicate (λ b. b < words) n 0 (omega arith))
zeros_can item.Ref n l = few_zeros n l

all_zero : (n : ℕ) → list_all (λ v. nat_eq v 0) (replicate n 0) ≡ true
all_zero zero = refl
all_zero (suc n) = all_zero n

zeros_long : (k : ItemKind) (n : ℕ) → operate op.Len (zeros k n ∷ []) ≡ val.Word n
zeros_long item.Byte n = ap (λ (m : ℕ). val.Word m) (length-replicate n 0)
zeros_long item.Word n = ap (λ (m : ℕ). val.Word m) (length-replicate n 0)
zeros_long item.Ref n = ap (λ (m : ℕ). val.Word m) (length-replicate n 0)

zeros_zero : (k : ItemKind) (n : ℕ) → operate op.IsZero (zeros k n ∷ []) ≡ val.Bool true
zeros_zero item.Byte n = ap (λ (b : Bool). val.Bool b) (all_zero n)
zeros_zero item.Word n = ap (λ (b : Bool). val.Bool b) (all_zero n)
zeros_zero item.Ref n = ap (λ (b : Bool). val.Bool b) (all_zero n)

cells_unmarked : (k : ItemKind) (n i : ℕ) (c : Cell) → slice_get (zero_cells k n) i ≡ Some c → c.marked ≡ false
cells_unmarked k zero i c e = absurd cc
cells_unmarked k (suc n) zero c e = let same : new_cell (zero_item k) ≡ c = cc in ap (λ (x : Cell). x.marked) (sym same)
cells_unmarked k (suc n) (suc i) c e = cells_unmarked k n i c e

same_numbers : (n : ℕ) → nat_eq n n ≡ true
same_numbers n = grind arith

-- ---- the step

module _ (program : Program) (extra : ℕ) (w : World) (f : Frame) (below : List Frame) where
  abbrev at : Todo → Frame
  at todo = record f { todo = todo }

  abbrev came : (x : ℕ) → ItemKind → ℕ → ℕ → Todo → Answer Stepped
  came x k n object next =
      Next (GoesOn (with_new w (world.Cells (zero_cells k n))) (at_rest (record f { locals = slice_set f.locals x (stored.Slice (whole_of object n)); todo = next }) below) [])

  make_step : (x : ℕ) (k : ItemKind) (e : Expr) (place : Place) (next : Todo) (n : ℕ) → f.todo ≡ Run (Do (MakeSlice x k e) place) ∷ next
      → value f.locals e ≡ Some (stored.Word n) → n < too_long → stepped program extra (at_rest f below) w ≡ came x k n (fresh w) next
  make_step x k e place next n is found l =
      subst (λ (todo : Todo). stepped program extra (at_rest (at todo) below) w ≡ came x k n (fresh w) next) (sym is)
      (subst (λ (r : Option Val). and_then (and_then (as_word r) (λ m. makes_slice w f.locals x k m)) (settled (at_rest (at (Run (Do (MakeSlice x k e) place) ∷ next)) below) w (Some next))
      ≡ came x k n (fresh w) next) (sym found)
      (subst (λ (b : Bool). and_then (undefined_if b OutOfRange (sets (with_new w (world.Cells (zero_cells k n))) f.locals x (stored.Slice (whole_of (fresh w) n))))
      (settled (at_rest (at (Run (Do (MakeSlice x k e) place) ∷ next)) below) w (Some next)) ≡ came x k n (fresh w) next) (sym (short n l)) refl))
    where
      short : (n : ℕ) → n < too_long → nat_le too_long n ≡ false
      short n l = grind arith

-- ---- the law

below_is : (env : Env) (n : TermTree) (m : ℕ) → value_under env n ≡ val.Word m → IsTrueUnder env (less n (number too_long)) → m < too_long
below_is env n m is truth =
    let both : operate op.Less (val.Word m ∷ val.Word too_long ∷ []) ≡ val.Bool true =
    sym (value_apply env op.Less (n ∷ number too_long ∷ []) ∙ ap (λ (v : Value). operate op.Less (v ∷ value_under env (number too_long) ∷ [])) is
    ∙ ap (λ (v : Value). operate op.Less (val.Word m ∷ v ∷ [])) (number_value env too_long)) ∙ truth in
    let test : nat_lt m too_long ≡ true = cc in
    ltb-true m too_long test

pub makes_law : MakesLaw
makes_law o h _ (makes x k e n s z place next may todo l term n_sort n_closed known s_sort z_sort new) scoped program extra w g start f below rest seat =
    let (m, found, n_is) = word_operand seat.env h.locals f.locals seat.described.locals e n term n_sort in
    let facts = known seat.env seat.described.valuation seat.described.facts in
    let low = below_is seat.env n m n_is facts.0 in
    let object = next_object w in
    let cells = zero_cells k m in
    let sv = val.SliceS (whole_of object m) in
    let zv = zeros k m in
    let news : List Var = s ∷ z ∷ [] in
    let values : List Value = sv ∷ zv ∷ [] in
    let env = extended seat.env news values in
    let sorted : AreValuesOf news values = (ap (λ (r : Sort). has_sort sv r) s_sort, (omega arith, omega arith), (ap (λ (r : Sort). has_sort zv r) z_sort ∙ zeros_sort k m, zeros_can k m low, tt)) in
    let same = extended_agree h.vars news seat.env values new in
    let each = extended_values h.vars news seat.env values new sorted in
    let s_is : value_under env (variable s) ≡ sv = first_is each in
    let z_is : value_under env (variable z) ≡ zv = second_is each in
    let n_now : value_under env n ≡ val.Word m = sym ((closed_law h.vars seat.env env).value same n n_closed) ∙ n_is in
    let before = described_agree o.preds start seat.env env h f seat.piece scoped same (extended_valued h.vars news seat.env values sorted seat.described.valuation) seat.described in
    let untouched = untouched_is o w g cells seat.base.consistent in
    let items = new_items (shape_of o) w g cells untouched in
    let long : length cells ≡ m = length-replicate m (new_cell (zero_item k)) in
    let slice_stands : StandsFor o.preds env (Slice false (variable s) (variable z)) items =
    slice (subst (λ (y : Value). OwnsSlice false (slice_of y) (value_under env (variable z)) items) (sym s_is)
    (subst (λ (y : Value). OwnsSlice false (whole_of object m) y items) (sym z_is)
    (subst (λ (i : ℕ). OwnsSlice false (whole_of object i) zv items) long (owns_slice (shape_of o) w g cells untouched zv (zero_items k m))))) in
    let spare_stands : StandsFor o.preds env (Spare (variable s)) (λ e. 0) =
    spare (subst (λ (y : Value). OwnsSpare (slice_of y) (λ e. 0)) (sym s_is) (no_spare object m (λ e. 0))) in
    let truths : AreTrueUnder env (zero_facts (variable s) (variable z) n) = (
      equal_true env (one_of op.Len (variable z)) n (val.Word m) (val.Word m) (one_value env op.Len (variable z) zv z_is ∙ zeros_long k m) n_now (same_numbers m),
      (
        one_value env op.IsZero (variable z) zv z_is ∙ zeros_zero k m,
        (
          equal_true env (one_of op.SLen (variable s)) n (val.Word m) (val.Word m) (one_value env op.SLen (variable s) sv s_is) n_now (same_numbers m),
          (equal_true env (one_of op.SCap (variable s)) n (val.Word m) (val.Word m) (one_value env op.SCap (variable s) sv s_is) n_now (same_numbers m), tt),
        ),
      ),
    ) in
    let step = make_step program extra w f below x k e place next m (seat.described.todo ∙ todo) found low ∙ ap (λ (i : ℕ). came program extra w f below x k m i next) (fresh_is w) in
    subst (λ (answer : Answer Stepped). Goes o g start below h (made_path h next x s z n ∷ []) rest Nothing answer) (sym step)
    (goes (record {
      after = sliced_too g object;
      changed = sliced_changes g object;
      path = made_path h next x s z n;
      place = 0;
      among = refl;
      procedure = refl;
      seat = record {
        env = env;
        piece = λ e. seat.piece e + items e;
        pool = seat.pool;
        locks = with_piece seat.locks object (λ e. 0);
        described = record {
          todo = refl;
          as_many = set_length f.locals x (stored.Slice (whole_of object m)) ∙ seat.described.as_many ∙ sym (set_length h.locals x (Some (variable s)));
          locals = have_set env h.locals f.locals x (variable s) (stored.Slice (whole_of object m)) before.locals before.as_many l (ap Some (sym s_is));
          valuation = before.valuation;
          started = before.started;
          facts = facts_join env h.facts (zero_facts (variable s) (variable z) n) before.facts truths;
          stands = joined {q = items} (λ e. omega arith) before.stands (both items (λ e. 0) (λ e. omega arith) slice_stands (both (λ e. 0) (λ e. 0) (λ e. omega arith) spare_stands none));
        };
        base = base_grown o w g cells seat.base.consistent h.mode h.bracket seat.piece seat.pool seat.locks rest seat.base;
        still = still_grown o w g cells seat.base.consistent rest (cells_unmarked k m) seat.still;
      };
    }))
  where
    first_is : {a b c d : Value} → a ∷ b ∷ [] ≡ c ∷ d ∷ [] → a ≡ c
    first_is e = cc

    second_is : {a b c d : Value} → a ∷ b ∷ [] ≡ c ∷ d ∷ [] → b ≡ d
    second_is e = cc
