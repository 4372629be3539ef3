-- One step of each pass over cells.
use Rattle.std.proofs.Common.{◌≡◌, ◌∙◌, ℕ, zero, suc, ◌<◌, ◌≤◌, true, false, List, [], ◌∷◌, ◌++◌, length, take, drop, set, get_or, map, refl, ap, arith}
use Rattle.gv_base.specs.declared.val.Val.{Val}
use Rattle.gv_world.specs.declared.cell.Cell.{Cell}
use Rattle.gv_world.specs.Cells.{with_mark, as_written, overwritten}

-- a list whose first items are changed already, with the next one changed too
pub next_changed : {A : Type 0} (f : A → A) (xs : List A) (i : ℕ) (d : A) → i < length xs
    → set (map f (take i xs) ++ drop i xs) i (f (get_or xs i d)) ≡ map f (take (suc i) xs) ++ drop (suc i) xs
next_changed f [] i d lt = absurd (omega arith)
next_changed f (x ∷ xs) zero d lt = refl
next_changed f (x ∷ xs) (suc i) d lt = ap (λ l. f x ∷ l) (next_changed f xs i d (omega arith))

-- what such a list has next is what it had
pub next_same : {A : Type 0} (f : A → A) (xs : List A) (i : ℕ) (d : A) → i < length xs → get_or (map f (take i xs) ++ drop i xs) i d ≡ get_or xs i d
next_same f [] i d lt = absurd (omega arith)
next_same f (x ∷ xs) zero d lt = refl
next_same f (x ∷ xs) (suc i) d lt = next_same f xs i d (omega arith)

pub none_written : (cells : List Cell) → cells ≡ overwritten cells []
none_written [] = refl
none_written (c ∷ cells) = refl

abbrev pub written_cell : Cell → Val → Cell
written_cell c v = record { value = as_written c.value v; marked = false }

pub next_written : (cells : List Cell) (items : List Val) (i : ℕ) (c : Cell) (v : Val) → i < length items → length items ≤ length cells
    → set (overwritten cells (take i items)) i (written_cell (get_or cells i c) (get_or items i v)) ≡ overwritten cells (take (suc i) items)
next_written [] [] i c v lt le = absurd (omega arith)
next_written [] (w ∷ items) i c v lt le = absurd (omega arith)
next_written (d ∷ cells) [] i c v lt le = absurd (omega arith)
next_written (d ∷ cells) (w ∷ items) zero c v lt le = ap (λ l. written_cell d w ∷ l) (none_written cells)
next_written (d ∷ cells) (w ∷ items) (suc i) c v lt le = ap (λ l. written_cell d w ∷ l) (next_written cells items i c v (omega arith) (omega arith))

pub next_unwritten : (cells : List Cell) (items : List Val) (i : ℕ) (c : Cell) → i < length items → length items ≤ length cells
    → get_or (overwritten cells (take i items)) i c ≡ get_or cells i c
next_unwritten [] [] i c lt le = absurd (omega arith)
next_unwritten [] (w ∷ items) i c lt le = absurd (omega arith)
next_unwritten (d ∷ cells) [] i c lt le = absurd (omega arith)
next_unwritten (d ∷ cells) (w ∷ items) zero c lt le = refl
next_unwritten (d ∷ cells) (w ∷ items) (suc i) c lt le = next_unwritten cells items i c (omega arith) (omega arith)

-- ---- as the passes of the code go: `cells` is what they have made so far of `xs`

pub marked_more : (xs cells : List Cell) (i j : ℕ) (d : Cell) → i < length xs → j ≡ suc i → cells ≡ map (with_mark true) (take i xs) ++ drop i xs
    → set cells i (with_mark true (get_or cells i d)) ≡ map (with_mark true) (take j xs) ++ drop j xs
marked_more xs cells i j d lt e is =
    rw (is, e) (ap (λ c. set (map (with_mark true) (take i xs) ++ drop i xs) i (with_mark true c)) (next_same (with_mark true) xs i d lt) ∙ next_changed (with_mark true) xs i d lt)

pub written_more : (xs cells : List Cell) (items : List Val) (i j : ℕ) (v w : Val) (d : Cell) → i < length items → length items ≤ length xs → j ≡ suc i
    → cells ≡ overwritten xs (take i items) → v ≡ as_written (get_or cells i d).value (get_or items i w)
    → set cells i (record { value = v; marked = false }) ≡ overwritten xs (take j items)
written_more xs cells items i j v w d lt le e is value =
    rw (value, is, e)
    (ap (λ c. set (overwritten xs (take i items)) i (written_cell c (get_or items i w))) (next_unwritten xs items i d lt le) ∙ next_written xs items i d w lt le)
