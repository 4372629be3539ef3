-- The items of parts whose last one changes.
use Rattle.std.proofs.Common.{◌≡◌, ℕ, ◌-◌, ◌<◌, List, [], ◌∷◌, ◌++◌, Option, Some, None, length, take, get_or, refl, sym, ap, ◌∙◌, arith}
use Rattle.std.proofs.Math.ListN.{set}
use Rattle.std.proofs.lemmas.List.Sums.{fold-append}
use Rattle.std.proofs.lemmas.List.{set-append_left}
use Rattle.gv_lang.specs.Tree.{Block, finish, next}
use Rattle.gv_lang.specs.Todo as items
use Rattle.gv_lang.specs.Todo.{put, left, repeated}
use Rattle.gv_thread.specs.declared.todo.Part.{Part}
use Rattle.gv_thread.proofs.Lasts.{fold_push, fold_last, fold_set}
use Rattle.gv_thread.specs.Parts.{placed, placed_if, items_of, after_head}

pub pushed : (ps : List Part) (p : Part) → items_of (ps ++ p ∷ []) ≡ placed (items_of ps) p
pushed ps p = fold_push placed [] ps p

pub last_of : (ps : List Part) (count : ℕ) (d : Part) → count ≡ length ps → 0 < count
    → items_of ps ≡ placed (items_of (take (count - 1) ps)) (get_or ps (count - 1) d)
last_of ps count d e some = fold_last placed [] ps count d e some

pub set_last : (ps : List Part) (count : ℕ) (q : Part) → count ≡ length ps → 0 < count
    → items_of (set ps (count - 1) q) ≡ placed (items_of (take (count - 1) ps)) q
set_last ps count q e some = fold_set placed [] ps count q e some

pub set_under : (ps : List Part) (count : ℕ) (p q : Part) → count ≡ length ps → 0 < count
    → items_of (set (ps ++ p ∷ []) (count - 1) q) ≡ placed (placed (items_of (take (count - 1) ps)) q) p
set_under ps count p q e some =
    ap items_of (set-append_left ps (p ∷ []) (count - 1) q (omega arith)) ∙ pushed (set ps (count - 1) q) p
    ∙ ap (λ below. placed below p) (set_last ps count q e some)

-- what is left of the last part without its command, and what was there
abbrev pub Leaves : Part → Option Part → Type 0
Leaves p left = (below : items.Todo) → placed_if below left ≡ after_head (placed below p)

without_head : (ps : List Part) (count : ℕ) (p : Part) (left : Option Part) → count ≡ length ps → 0 < count → p ≡ get_or ps (count - 1) p → Leaves p left
    → placed_if (items_of (take (count - 1) ps)) left ≡ after_head (items_of ps)
without_head ps count p left e some at leaves =
    leaves (items_of (take (count - 1) ps))
    ∙ ap after_head (ap (placed (items_of (take (count - 1) ps))) at ∙ sym (last_of ps count p e some))

-- a part in place of a last one of which nothing is left
pub one_for_last : (ps : List Part) (count : ℕ) (p q : Part) → count ≡ length ps → 0 < count → p ≡ get_or ps (count - 1) p → Leaves p None
    → items_of (set ps (count - 1) q) ≡ placed (after_head (items_of ps)) q
one_for_last ps count p q e some at leaves =
    set_last ps count q e some ∙ ap (λ below. placed below q) (without_head ps count p None e some at leaves)

-- two parts in its place
pub two_for_last : (ps qs : List Part) (count : ℕ) (p low high : Part) → count ≡ length ps → 0 < count → p ≡ get_or ps (count - 1) p → Leaves p None
    → qs ≡ ps ++ high ∷ [] → items_of (set qs (count - 1) low) ≡ placed (placed (after_head (items_of ps)) low) high
two_for_last ps qs count p low high e some at leaves made =
    ap (λ xs. items_of (set xs (count - 1) low)) made
    ∙ set_under ps count high low e some
    ∙ ap (λ below. placed (placed below low) high) (without_head ps count p None e some at leaves)

-- two parts behind what is left of the last one
pub two_behind : (ps qs : List Part) (count : ℕ) (p q low high : Part) → count ≡ length ps → 0 < count → p ≡ get_or ps (count - 1) p → Leaves p (Some q)
    → qs ≡ ps ++ low ∷ high ∷ [] → items_of (set qs (count - 1) q) ≡ placed (placed (after_head (items_of ps)) low) high
two_behind ps qs count p q low high e some at leaves made =
    ap (λ xs. items_of (set xs (count - 1) q)) made
    ∙ ap items_of (set-append_left ps (low ∷ high ∷ []) (count - 1) q (omega arith))
    ∙ fold-append placed [] (set ps (count - 1) q) (low ∷ high ∷ [])
    ∙ ap (λ below. placed (placed below low) high) (set_last ps count q e some ∙ without_head ps count p (Some q) e some at leaves)

-- ---- loops

pub left_put : (b : Block) (rest : items.Todo) → left (put b rest) ≡ left rest
left_put finish rest = refl
left_put (next c b) rest = left_put b rest

pub repeated_put : (b : Block) (rest : items.Todo) → repeated (put b rest) ≡ repeated rest
repeated_put finish rest = refl
repeated_put (next c b) rest = repeated_put b rest

pub ruleset parts = (pushed, last_of, set_last, set_under)

pub ruleset passing = (left_put, repeated_put)
