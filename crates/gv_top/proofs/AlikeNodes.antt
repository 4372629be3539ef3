-- Specifications that differ in their stores alone have one search for an explanation of a history.
use Rattle.std.proofs.Common.{◌≡◌, ℕ, List, [], ◌∷◌, ◌++◌, Option, Some, None, option_map, map, refl, sym, ap, subst, ◌∙◌}
use Rattle.std.specs.Prelude.{slice_get}
use Rattle.std.specs.List.{flat_map}
use Rattle.gv_terms.specs.declared.tree.TermTree.{TermTree}
use Rattle.gv_terms.specs.declared.value.Value.{Value}
use Rattle.gv_terms.specs.declared.value.Value.TheVariants as val
use Rattle.gv_terms.specs.declared.value.Binding.{Binding}
use Rattle.gv_terms.specs.Trees.{value_under}
use Rattle.gv_terms.specs.Values.{word_of}
use Rattle.gv_atomic.specs.declared.spec.Pick.{Pick}
use Rattle.gv_atomic.specs.declared.spec.Op.{Op}
use Rattle.gv_atomic.specs.declared.spec.Spec.{Spec}
use Rattle.gv_atomic.specs.Choices.{binds, picked, limit_of}
use Rattle.gv_atomic.specs.Specification.{fields_bound, op_before}
use Rattle.gv_spec.specs.declared.entry.Entry.{Entry}
use Rattle.gv_spec.specs.declared.explanation.Move.{Move}
use Rattle.gv_spec.specs.declared.explanation.Move.TheVariants as move
use Rattle.gv_spec.specs.Atomic.{atomic_of}
use Rattle.gv_spec.specs.History.{entry_of, move_of}
use Rattle.gv_spec.specs.Walks.{Explains}
use Rattle.gv_spec.specs.Move as moves
use Rattle.gv_spec.specs.Specification.{Specification}
use Rattle.gv_specs.specs.Alike.{ShownPick, shown_pick, shown_op, AreAlike}
use Rattle.gv_judge.specs.Choosing.{words_within, allowed_lists, lists_of_op, choosing_of}
use Rattle.gv_judge.specs.Explained.{search_order, IsUnexplained}
use Rattle.gv_judge.specs.Search.{Choosing, nodes, IsFirstFull, AreNoneFull, IsSpent}
use Rattle.gv_lines.specs.Moves.{move_line, move_lines}
use Rattle.gv_top.specs.declared.judge.Judgement.{Judgement}
use Rattle.gv_top.specs.declared.judge.Judgement.TheVariants.{Explained, Unexplained, Spent}
use Rattle.gv_top.specs.Judge.{Tells}
use Rattle.gv_top.proofs.AlikeMeaning.{ops_at, bound_same, before_same, picks_are, atomic_same}
use Rattle.gv_top.proofs.AlikeSchedules.{line_same}
use Rattle.gv_top.proofs.ExplainExact.{explained_by}

-- ---- lists of choices

allowed_same : (ts us : List TermTree) (before : List Binding) (ps qs : List Pick) → map (shown_pick ts) ps ≡ map (shown_pick us) qs
    → allowed_lists ts before ps ≡ allowed_lists us before qs
allowed_same ts us before [] [] e = refl
allowed_same ts us before [] (q ∷ qs) e = absurd cc
allowed_same ts us before (p ∷ ps) [] e = absurd cc
allowed_same ts us before (p ∷ ps) (q ∷ qs) e =
    let head : shown_pick ts p ≡ shown_pick us q = cc in
    let rest : map (shown_pick ts) ps ≡ map (shown_pick us) qs = cc in
    let name : p.name ≡ q.name = ap (λ (x : ShownPick). x.name) head in
    let limit : limit_of ts before p ≡ limit_of us before q = ap (λ (x : ShownPick). word_of (value_under (binds before) x.bound)) head in
    let later : (λ (c : ℕ). allowed_lists ts (before ++ picked q c ∷ []) ps) ≡ (λ (c : ℕ). allowed_lists us (before ++ picked q c ∷ []) qs) =
    λ i c. allowed_same ts us (before ++ picked q c ∷ []) ps qs rest i in
    ap (λ n. flat_map (λ c. map (λ (choices : List ℕ). c ∷ choices) (allowed_lists ts (before ++ picked p c ∷ []) ps)) (words_within n)) limit
    ∙ ap (λ (n : List ℕ). flat_map (λ c. let b : Binding = record { name = n; value = val.Word c } in map (λ (choices : List ℕ). c ∷ choices) (allowed_lists ts (before ++ b ∷ []) ps)) (words_within (limit_of us before q))) name
    ∙ ap (λ (lists : ℕ → List (List ℕ)). flat_map (λ c. map (λ (choices : List ℕ). c ∷ choices) (lists c)) (words_within (limit_of us before q))) later

module _ (s t : Spec) (alike : AreAlike s t) where
  lists_at : (args fields : List Value) (a b : Option Op) → option_map (shown_op s.store) a ≡ option_map (shown_op t.store) b → lists_of_op s a args fields ≡ lists_of_op t b args fields
  lists_at args fields None None e = refl
  lists_at args fields None (Some p) e = absurd cc
  lists_at args fields (Some o) None e = absurd cc
  lists_at args fields (Some o) (Some p) e =
      let same : shown_op s.store o ≡ shown_op t.store p = cc in
      ap (λ (bs : List Binding). allowed_lists s.store bs o.picks) (before_same s t alike o p same args fields)
      ∙ allowed_same s.store t.store (op_before t p args fields) o.picks p.picks (picks_are s t alike o p same)

  crash_lists : (fields : List Value) → allowed_lists s.store (fields_bound s.fields fields) s.crash_picks ≡ allowed_lists t.store (fields_bound t.fields fields) t.crash_picks
  crash_lists fields =
      ap (λ (bs : List Binding). allowed_lists s.store bs s.crash_picks) (bound_same s t alike fields)
      ∙ allowed_same s.store t.store (fields_bound t.fields fields) s.crash_picks t.crash_picks alike.crash_picks

  choosing_same : choosing_of s ≡ choosing_of t
  choosing_same = λ i. record {
    of_operation = λ op args fields. lists_at args fields (slice_get s.ops op) (slice_get t.ops op) (ops_at s t alike op) i;
    of_crash = λ fields. crash_lists fields i;
  }

  -- ---- nodes

  search_same : (history : List Entry) → search_order s history ≡ search_order t history
  search_same history =
      ap (λ (a : Specification (List Value) Value). nodes a (choosing_of s) (map entry_of history)) (atomic_same s t alike)
      ∙ ap (λ (c : Choosing (List Value) Value). nodes (atomic_of t) c (map entry_of history)) choosing_same

  unexplained_too : (history : List Entry) → IsUnexplained s history → IsUnexplained t history
  unexplained_too history h = λ ms words x.
      h ms words (subst (λ (a : Specification (List Value) Value). Explains a (map move_of ms) (map entry_of history)) (sym (atomic_same s t alike)) x)

  -- ---- lines

  move_same : (m : Move) → move_line s m ≡ move_line t m
  move_same (move.Act number choices) = refl
  move_same (move.Boot choices) = refl
  move_same (move.Other e) = line_same s t alike e

  moves_lines_same : (ms : List Move) → move_lines s ms ≡ move_lines t ms
  moves_lines_same [] = refl
  moves_lines_same (m ∷ ms) = ap (λ (l : List ℕ). l ∷ move_lines s ms) (move_same m) ∙ ap (λ (ls : List (List ℕ)). move_line t m ∷ ls) (moves_lines_same ms)

  -- ---- what is told of a history

  pub judged_by : (history : List Entry) (most : ℕ) (j : Judgement) → Tells s history most j → Tells t history most j
  judged_by history most (Explained lines) h = record {
    moves = h.moves;
    first = subst (λ (all : List (List (moves.Move Value))). IsFirstFull all (map entry_of history) most (map move_of h.moves)) (search_same history) h.first;
    explains = explained_by s t alike history h.moves h.explains;
    lines_are = h.lines_are ∙ moves_lines_same h.moves;
  }
  judged_by history most Unexplained h =
      (subst (λ (all : List (List (moves.Move Value))). AreNoneFull all (map entry_of history) most) (search_same history) h.0, unexplained_too history h.1)
  judged_by history most (Spent spent) h =
      (h.0, subst (λ (all : List (List (moves.Move Value))). IsSpent all (map entry_of history) most) (search_same history) h.1)
