-- Writing a block, whose master and lease are owned.
use Rattle.std.proofs.Common.{◌≡◌, ◌≢◌, ℕ, zero, suc, ◌+◌, ◌<◌, ◌≤◌, ◌⊎◌, inl, inr, Bool, true, false, not, nat_eq, nat_lt, eqb-true, if◌then◌else◌, List, [], ◌∷◌, map, length, take, drop, Option, Some, None, refl, sym, ap, subst, ◌∙◌, arith}
use Rattle.std.specs.Prelude.{slice_get, slice_set}
use Rattle.std.specs.List.{All}
use Rattle.std.proofs.lemmas.List.Elements.{All-set}
use Rattle.std.proofs.lemmas.Option.{slice_get_within}
use Rattle.gv_base.specs.declared.answers.Place.{Place}
use Rattle.gv_base.specs.declared.answer.Answer.{Answer}
use Rattle.gv_base.specs.declared.answer.Answer.TheVariants.{Next}
use Rattle.gv_base.specs.declared.reason.Reason.TheVariants.{OutOfRange, BadBlockLength, Race, Kind as kind_reason}
use Rattle.gv_base.specs.declared.val.Val.{Val}
use Rattle.gv_base.specs.declared.val.Val.TheVariants as stored
use Rattle.gv_base.specs.declared.slice_val.SliceVal.{SliceVal}
use Rattle.gv_terms.specs.declared.sort.Sort.TheVariants as sort
use Rattle.gv_terms.specs.declared.operator.Operator.TheVariants as op
use Rattle.gv_terms.specs.declared.tree.TermTree.{TermTree}
use Rattle.gv_terms.specs.declared.value.Env.{Env}
use Rattle.gv_terms.specs.declared.value.Value.{Value}
use Rattle.gv_terms.specs.declared.value.Value.TheVariants as val
use Rattle.gv_terms.specs.Meaning.{operate}
use Rattle.gv_terms.specs.Trees.{value_under}
use Rattle.gv_terms.specs.Values.{sort_of_value, slice_of, word_of}
use Rattle.gv_terms.proofs.Valued.{value_apply}
use Rattle.gv_terms.proofs.ValueSorts.{values_have_sorts}
use Rattle.gv_world.specs.declared.cell.Cell.{Cell}
use Rattle.gv_world.specs.Answers.{and_then, undefined_if}
use Rattle.gv_world.specs.Store.{Disk, Store as World, block_bytes}
use Rattle.gv_world.specs.Cells.{as_cells, cells_of, run, is_short, is_marked, are_bytes, only_bytes, bytes_in}
use Rattle.gv_world.specs.Disks.{byte_cells, disk_with, slice_run, length_of, whole, with_block, with_disk, disk_write}
use Rattle.gv_lang.specs.Tree.{Expr, DiskWrite, Do, Program}
use Rattle.gv_lang.specs.Todo.{Todo, Run}
use Rattle.gv_lang.specs.Threads.{Frame}
use Rattle.gv_lang.specs.Table.{as_word, as_slice, leaves}
use Rattle.gv_lang.specs.Values.{value}
use Rattle.gv_lang.specs.Step.{Stepped, GoesOn, stepped, settled}
use Rattle.gv_resources.specs.Kinds as kind
use Rattle.gv_resources.specs.Kinds.{Kind, item_kind}
use Rattle.gv_resources.specs.Pieces.{Resource, Have, Piece, Fits, single}
use Rattle.gv_resources.specs.Ghost.{Ghost}
use Rattle.gv_resources.specs.Told.{Shape, told, under, only_if, object_at, cells_in, in_block, block_at, failed_in, numbers_of, number_of}
use Rattle.gv_resources.proofs.Equality.{single_same, single_within}
use Rattle.gv_resources.proofs.Fitting.{retold, retold_test, fits_change, fits_same}
use Rattle.gv_resources.proofs.Sums.{number_test, below_test, changed, changed_there, changed_elsewhere}
use Rattle.gv_assertions.specs.Atoms.{Slice, Predicate}
use Rattle.gv_assertions.specs.Standing.{StandsFor, owns, slice, OwnsItems, OwnsSlice, cell_key, owned_key, number_under, IsTrueUnder}
use Rattle.gv_assertions.proofs.Lists.{front, parted}
use Rattle.gv_seats.specs.Paths.{number, goes_on}
use Rattle.gv_seats.specs.Seats.{Proof, shape_of, IsConsistent, CellAt, MapAt, AreOwned, of_locks}
use Rattle.gv_seats.specs.Seats.{is_marked as cell_marked}
use Rattle.gv_seats.specs.Changes.{SetsBlock, Changed}
use Rattle.gv_seats.specs.Soundness.{Goes, goes, at_rest}
use Rattle.gv_seats.proofs.Bases.{still_closed}
use Rattle.gv_seats.proofs.Expressions.{expressions_law}
use Rattle.gv_seats.proofs.Locals.{set_there, set_elsewhere, set_length}
use Rattle.gv_seats.proofs.Objects.{has_cell, cells_are}
use Rattle.gv_rules.proofs.Loads.{unmarked_is}
use Rattle.gv_rules.proofs.Stores.{swapped}
use Rattle.gv_slicing.specs.Rows.{one_of, equal}
use Rattle.gv_slicing.proofs.Lists.{mapped_at, drop_there}
use Rattle.gv_slicing.proofs.Operands.{word_operand, slice_is, slice_value}
use Rattle.gv_slicing.proofs.Owned.{owns_item, item_told, byte_is, not_mine}
use Rattle.gv_slicing.proofs.Truths.{number_value, one_value}
use Rattle.gv_blocks.specs.Laws.{WritesLaw}
use Rattle.gv_blocks.specs.Rows.{writes, block_of}
use Rattle.gv_blocks.proofs.Blocks.{Block, block_is, disk_found}
use Rattle.gv_blocks.proofs.DiskReads.{number_sort}

-- ---- values

bytes_value : (x : Value) → sort_of_value x ≡ Some sort.Bytes → (bytes : List ℕ) × (x ≡ val.Bytes bytes)
bytes_value (val.Bytes bytes) e = (bytes, refl)
bytes_value _ e = absurd cc

-- what an equation of numbers says
equal_numbers : (env : Env) (a : TermTree) (m n : ℕ) → value_under env a ≡ val.Word m → IsTrueUnder env (equal a (number n)) → m ≡ n
equal_numbers env a m n is truth =
    let both : operate op.Equal (val.Word m ∷ val.Word n ∷ []) ≡ val.Bool true =
    sym (value_apply env op.Equal (a ∷ number n ∷ []) ∙ ap (λ (v : Value). operate op.Equal (v ∷ value_under env (number n) ∷ [])) is
    ∙ ap (λ (v : Value). operate op.Equal (val.Word m ∷ v ∷ [])) (number_value env n)) ∙ truth in
    let test : nat_eq m n ≡ true = cc in
    eqb-true m n test

-- ---- a run of cells with these bytes

abbrev byte_cell : ℕ → Cell
byte_cell b = record { value = stored.Byte b; marked = false }

bytes_run : (cells : List Cell) (off : ℕ) (bytes : List ℕ) → ((i b : ℕ) → slice_get bytes i ≡ Some b → slice_get cells (off + i) ≡ Some (byte_cell b))
    → run cells off (length bytes) ≡ byte_cells bytes
bytes_run cells off [] there = refl
bytes_run cells off (b ∷ bytes) there =
    let first : slice_get cells off ≡ Some (byte_cell b) = subst (λ (n : ℕ). slice_get cells n ≡ Some (byte_cell b)) (omega arith) (there 0 b refl) in
    ap (λ (cs : List Cell). take (suc (length bytes)) cs) (drop_there cells off (byte_cell b) first)
    ∙ ap (λ (cs : List Cell). byte_cell b ∷ cs) (bytes_run cells (suc off) bytes (λ i c e. subst (λ (n : ℕ). slice_get cells n ≡ Some (byte_cell c)) (omega arith) (there (suc i) c e)))

all_bytes : (bytes : List ℕ) → are_bytes (byte_cells bytes) ≡ true
all_bytes [] = refl
all_bytes (b ∷ bytes) = all_bytes bytes

none_marked : (bytes : List ℕ) → is_marked (byte_cells bytes) ≡ false
none_marked [] = refl
none_marked (b ∷ bytes) = none_marked bytes

same_bytes : (bytes : List ℕ) → bytes_in (byte_cells bytes) ≡ bytes
same_bytes [] = refl
same_bytes (b ∷ bytes) = ap (λ xs. b ∷ xs) (same_bytes bytes)

cells_long : (bytes : List ℕ) → length (byte_cells bytes) ≡ length bytes
cells_long [] = refl
cells_long (b ∷ bytes) = ap suc (cells_long bytes)

-- ---- the cells of a slice that is owned

cell_made : (v : Val) (m : Bool) (b : ℕ) → v ≡ stored.Byte b → m ≡ false → record { value = v; marked = m } ≡ byte_cell b
cell_made v m b e q = rw (e, q) refl

items_long : (bytes : List ℕ) → length (map (λ c. val.Bytes (c ∷ [])) bytes) ≡ length bytes
items_long [] = refl
items_long (b ∷ bytes) = ap suc (items_long bytes)

pub record Bytes (w : World) (s : SliceVal) (bytes : List ℕ) : Type 0 where
  pub run_is : slice_run w s ≡ Next (byte_cells bytes)
  pub long : length_of s ≡ length bytes

-- a slice whose bytes are owned, and not none, has them
slice_bytes : (z : Shape) (w : World) (g : Ghost) (all : Piece) → Fits all (told z w g) → (frozen : Bool) (s : SliceVal) (bytes : List ℕ) (mine rest : Piece)
    → ((e : Resource) → mine e + rest e ≤ all e) → OwnsSlice frozen s (val.Bytes bytes) mine → AreOwned w rest → 0 < length bytes → Bytes w s bytes
slice_bytes z w g all f frozen s [] mine rest parts h still some = absurd (omega (arith, some))
slice_bytes z w g all f frozen s (b0 ∷ more) mine rest parts h still some =
    let bytes = b0 ∷ more in
    let items : map (λ (c : ℕ). val.Bytes (c ∷ [])) bytes ≡ h.items = cc_items h.of_list in
    let object = s.object in
    let at : (i b : ℕ) → slice_get bytes i ≡ Some b → slice_get (cells_in (object_at w object)) (s.offset + i) ≡ Some (byte_cell b) = found_at h.items items h.cells in
    let first = has_cell w object (s.offset + 0) (byte_cell b0) (at 0 b0 refl) in
    let before : cells_in (object_at w object) ≡ first.cells = ap cells_in (ap (object_at w) first.number ∙ first.there) in
    let run_them : run first.cells s.offset (length bytes) ≡ byte_cells bytes =
    bytes_run first.cells s.offset bytes (λ i b e. subst (λ (cs : List Cell). slice_get cs (s.offset + i) ≡ Some (byte_cell b)) before (at i b e)) in
    let long : s.length ≡ length bytes = sym h.as_many ∙ ap (λ (xs : List Value). length xs) (sym items) ∙ items_long bytes in
    let not_nil : nat_eq object 0 ≡ false = (let k = first.number in nil_not object (omega arith)) in
    record {
      run_is = ap (λ (t : Bool). if t then Next [] else and_then (cells_of w object) (λ cells. Next (run cells s.offset s.length))) not_nil
          ∙ ap (λ (a : Answer (List Cell)). and_then a (λ cells. Next (run cells s.offset s.length))) (ap (cells_of w) first.number ∙ cells_are w first.index ∙ ap as_cells first.there)
          ∙ ap (λ (n : ℕ). Next (run first.cells s.offset n)) long ∙ ap (λ (cs : List Cell). Next cs) run_them;
      long = ap (λ (t : Bool). if t then 0 else s.length) not_nil ∙ long;
    }
  where
    cc_items : {xs ys : List Value} → Some xs ≡ Some ys → xs ≡ ys
    cc_items e = cc

    nil_not : (n : ℕ) → 0 < n → nat_eq n 0 ≡ false
    nil_not n l = elim (number_test n 0) [ inl (e, t) ↦ absurd (omega arith) | inr (ne, t) ↦ t ]

    found_at : (items : List Value) → map (λ (c : ℕ). val.Bytes (c ∷ [])) (b0 ∷ more) ≡ items → OwnsItems (item_kind frozen) s 0 items mine → (i b : ℕ) → slice_get (b0 ∷ more) i ≡ Some b
        → slice_get (cells_in (object_at w s.object)) (s.offset + i) ≡ Some (byte_cell b)
    found_at items are owned i b e =
        let item : slice_get items i ≡ Some (val.Bytes (b ∷ [])) = subst (λ (xs : List Value). slice_get xs i ≡ Some (val.Bytes (b ∷ []))) are (mapped_at (λ (c : ℕ). val.Bytes (c ∷ [])) (b0 ∷ more) i b e) in
        let has : 0 < mine (Have (item_kind frozen) (val.Ref s.object ∷ val.Word (s.offset + i) ∷ []) (val.Bytes (b ∷ []) ∷ [])) =
        subst (λ (n : ℕ). 0 < mine (Have (item_kind frozen) (cell_key s n) (val.Bytes (b ∷ []) ∷ []))) (omega arith) (owns_item (item_kind frozen) s 0 items mine i (val.Bytes (b ∷ [])) owned item) in
        let within = parts (Have (item_kind frozen) (val.Ref s.object ∷ val.Word (s.offset + i) ∷ []) (val.Bytes (b ∷ []) ∷ [])) in
        let found = item_told z w g frozen s.object (s.offset + i) (val.Bytes (b ∷ []))
        (f.says (item_kind frozen) (val.Ref s.object ∷ val.Word (s.offset + i) ∷ []) (val.Bytes (b ∷ []) ∷ []) (omega arith)) in
        let free = unmarked_is found.cell.marked (λ m. not_mine z w g all f frozen s.object (s.offset + i) (val.Bytes (b ∷ []) ∷ []) mine rest parts frozen has
        (still (CellAt s.object (s.offset + i)) (ap cell_marked found.there ∙ m))) in
        found.there ∙ ap Some (whole_cell found.cell b (byte_is found.cell.value b found.is) free)
      where
        whole_cell : (c : Cell) (b : ℕ) → c.value ≡ stored.Byte b → c.marked ≡ false → c ≡ byte_cell b
        whole_cell c b e q = cell_made c.value c.marked b e q

-- ---- the write

module _ (o : Proof) (w : World) (g : Ghost) (d n : ℕ) (v : Value) (b : Block o w g d n v) (s : SliceVal) (bytes : List ℕ) (has : Bytes w s bytes) (long : length bytes ≡ block_bytes) where
  abbrev pub disk_now : Disk
  disk_now = with_block b.disk n bytes

  abbrev pub written : World
  written = with_disk w d disk_now

  short : is_short (byte_cells bytes) (length_of s) ≡ false
  short =
      ap (λ (m : ℕ). is_short (byte_cells bytes) m) has.long
      ∙ elim (below_test (length (byte_cells bytes)) (length bytes)) [
        | inl (l, t) ↦ absurd (let k = cells_long bytes in omega arith)
        | inr (l, t) ↦ t
      ]

  as_long : nat_eq (length_of s) block_bytes ≡ true
  as_long = elim (number_test (length_of s) block_bytes) [ inl (e, t) ↦ t | inr (ne, t) ↦ absurd (ne (has.long ∙ long)) ]

  whole_is : whole (byte_cells bytes) s ≡ Next (byte_cells bytes)
  whole_is =
      ap (λ (t : Bool). undefined_if t OutOfRange (undefined_if (not (nat_eq (length_of s) block_bytes)) BadBlockLength (undefined_if (is_marked (byte_cells bytes)) Race (Next (byte_cells bytes))))) short
      ∙ ap (λ (t : Bool). undefined_if (not t) BadBlockLength (undefined_if (is_marked (byte_cells bytes)) Race (Next (byte_cells bytes)))) as_long
      ∙ ap (λ (t : Bool). undefined_if t Race (Next (byte_cells bytes))) (none_marked bytes)

  pub writes_it : disk_write w d n s ≡ Next written
  writes_it =
      ap (λ (a : Answer (List Cell)). and_then a (λ found. only_bytes found (and_then (disk_with w d n) (λ disk. and_then (whole found s) (λ cells. Next (with_disk w d (with_block disk n (bytes_in cells)))))))) has.run_is
      ∙ ap (λ (t : Bool). undefined_if (not t) kind_reason (and_then (disk_with w d n) (λ disk. and_then (whole (byte_cells bytes) s) (λ cells. Next (with_disk w d (with_block disk n (bytes_in cells))))))) (all_bytes bytes)
      ∙ ap (λ (a : Answer Disk). and_then a (λ disk. and_then (whole (byte_cells bytes) s) (λ cells. Next (with_disk w d (with_block disk n (bytes_in cells)))))) (disk_found o w g d n v b)
      ∙ ap (λ (a : Answer (List Cell)). and_then a (λ cells. Next (with_disk w d (with_block b.disk n (bytes_in cells))))) whole_is
      ∙ ap (λ (xs : List ℕ). Next (with_disk w d (with_block b.disk n xs))) (same_bytes bytes)

  -- ---- the record beside the state

  abbrev pub shadowed : Ghost
  shadowed = record g { shadow = changed g.shadow d (slice_set (g.shadow d) n bytes) }

  shadow_elsewhere : (e m : ℕ) → (e ≡ d → m ≢ n) → slice_get (shadowed.shadow e) m ≡ slice_get (g.shadow e) m
  shadow_elsewhere e m ne = elim (number_test e d) [
    | inl (same, t) ↦
        (let here : slice_get (shadowed.shadow d) m ≡ slice_get (g.shadow d) m =
        ap (λ (xs : List (List ℕ)). slice_get xs m) (changed_there g.shadow d (slice_set (g.shadow d) n bytes)) ∙ set_elsewhere (g.shadow d) n m bytes (ne same) in rw same here)
    | inr (other, t) ↦ ap (λ (xs : List (List ℕ)). slice_get xs m) (changed_elsewhere g.shadow d e (slice_set (g.shadow d) n bytes) other)
  ]

  shadow_there : slice_get (shadowed.shadow d) n ≡ Some bytes
  shadow_there =
      ap (λ (xs : List (List ℕ)). slice_get xs n) (changed_there g.shadow d (slice_set (g.shadow d) n bytes))
      ∙ set_there (g.shadow d) n bytes (slice_get_within (g.shadow d) n b.bytes b.kept)

  pub block_changes : Changed (SetsBlock d n) g shadowed
  block_changes = record {
    history = refl;
    moves = refl;
    walk = λ never. refl;
    kept = λ call never. refl;
    book = λ book place never. refl;
    halves = λ never. refl;
    named = λ never. refl;
    shadow = λ disk address other. shadow_elsewhere disk address (λ e q. other (named_block disk address e q));
    mode = λ never. refl;
    booted = refl;
    calls = refl;
    since = refl;
    gone = refl;
  }
    where
      named_block : (disk address : ℕ) → disk ≡ d → address ≡ n → SetsBlock d n ≡ SetsBlock disk address
      named_block disk address e q = rw (e, q) refl

  -- ---- disks

  same_failure : disk_now.failed ≡ b.disk.failed
  same_failure = at b.disk
    where
      at : (disk : Disk) → (with_block disk n bytes).failed ≡ disk.failed
      at disk = flag disk.failed disk
        where
          flag : (t : Bool) (disk : Disk) → (if t then disk else record disk { blocks = slice_set disk.blocks n bytes }).failed ≡ disk.failed
          flag true disk = refl
          flag false disk = refl

  same_size : length disk_now.blocks ≡ length b.disk.blocks
  same_size = flag b.disk.failed b.disk
    where
      flag : (t : Bool) (disk : Disk) → length (if t then disk else record disk { blocks = slice_set disk.blocks n bytes }).blocks ≡ length disk.blocks
      flag true disk = refl
      flag false disk = set_length disk.blocks n bytes

  now_blocks : disk_now.failed ≡ false → disk_now.blocks ≡ slice_set b.disk.blocks n bytes
  now_blocks alive = flag b.disk.failed b.disk (sym same_failure ∙ alive)
    where
      flag : (t : Bool) (disk : Disk) → t ≡ false → (if t then disk else record disk { blocks = slice_set disk.blocks n bytes }).blocks ≡ slice_set disk.blocks n bytes
      flag true disk e = absurd cc
      flag false disk e = refl

  d_there : d < length w.disks
  d_there = slice_get_within w.disks d b.disk b.there

  disk_at : (e : ℕ) (disk : Disk) → slice_get written.disks e ≡ Some disk → ((e ≡ d) × (disk ≡ disk_now)) ⊎ ((e ≢ d) × (slice_get w.disks e ≡ Some disk))
  disk_at e disk found = elim (number_test e d) [
    | inl (same, t) ↦ inl (same, some_disk (sym (ap (λ (k : ℕ). slice_get written.disks k) (sym same) ∙ found) ∙ set_there w.disks d disk_now d_there))
    | inr (ne, t) ↦ inr (ne, sym (set_elsewhere w.disks d e disk_now ne) ∙ found)
  ]
    where
      some_disk : {x y : Disk} → Some x ≡ Some y → x ≡ y
      some_disk q = cc

  -- what a disk was like before
  was : (e : ℕ) (disk : Disk) → slice_get written.disks e ≡ Some disk → (before : Disk) × (slice_get w.disks e ≡ Some before) × (disk.failed ≡ before.failed) × (length disk.blocks ≡ length before.blocks)
  was e disk found = elim (disk_at e disk found) [
    | inl (same, is) ↦ (b.disk, ap (λ (k : ℕ). slice_get w.disks k) same ∙ b.there, ap (λ (x : Disk). x.failed) is ∙ same_failure, ap (λ (x : Disk). length x.blocks) is ∙ same_size)
    | inr (ne, before) ↦ (disk, before, refl, refl)
  ]

  pub consistent_written : IsConsistent o w g → IsConsistent o written shadowed
  consistent_written c = record {
    fresh = λ object l. (let u = c.fresh object l in record { guards = u.guards; sliced = u.sliced; frozen = u.frozen });
    blocks = record {
      as_many = set_length w.disks d disk_now ∙ c.blocks.as_many;
      sized = λ e disk found. (let (before, there, failed, size) = was e disk found in size ∙ c.blocks.sized e before there);
      same = λ e disk found alive. elim (disk_at e disk found) [
        | inl (same, is) ↦ (
            let now_alive : disk_now.failed ≡ false = sym (ap (λ (x : Disk). x.failed) is) ∙ alive in
            ap shadowed.shadow same ∙ changed_there g.shadow d (slice_set (g.shadow d) n bytes)
            ∙ ap (λ (xs : List (List ℕ)). slice_set xs n bytes) (c.blocks.same d b.disk b.there (sym same_failure ∙ now_alive)) ∙ sym (now_blocks now_alive) ∙ sym (ap (λ (x : Disk). x.blocks) is))
        | inr (ne, before) ↦ changed_elsewhere g.shadow d e (slice_set (g.shadow d) n bytes) ne ∙ c.blocks.same e disk before alive
      ];
      long = λ e below. elim (number_test e d) [
        | inl (same, t) ↦ (let here : length (shadowed.shadow d) ≡ o.blocks = ap length (changed_there g.shadow d (slice_set (g.shadow d) n bytes)) ∙ set_length (g.shadow d) n bytes ∙ c.blocks.long d b.below in
            ap (λ (k : ℕ). length (shadowed.shadow k)) same ∙ here)
        | inr (ne, t) ↦ ap length (changed_elsewhere g.shadow d e (slice_set (g.shadow d) n bytes) ne) ∙ c.blocks.long e below
      ];
      whole = λ e below. elim (number_test e d) [
        | inl (same, t) ↦ subst (λ (xs : List (List ℕ)). All (λ block. length block ≡ block_bytes) xs) (sym (ap shadowed.shadow same ∙ changed_there g.shadow d (slice_set (g.shadow d) n bytes)))
            (All-set (λ (block : List ℕ). length block ≡ block_bytes) (g.shadow d) n bytes long (c.blocks.whole d b.below))
        | inr (ne, t) ↦ subst (λ (xs : List (List ℕ)). All (λ block. length block ≡ block_bytes) xs) (sym (changed_elsewhere g.shadow d e (slice_set (g.shadow d) n bytes) ne)) (c.blocks.whole e below)
      ];
    };
    failures = record {
      one = λ d1 e1 disk other x y p q. (let (a, a_there, a_failed, a_size) = was d1 disk x in let (k, k_there, k_failed, k_size) = was e1 other y in
          c.failures.one d1 e1 a k a_there k_there (sym a_failed ∙ p) (sym k_failed ∙ q));
      of_two = λ d1 disk x p. (let (a, a_there, a_failed, a_size) = was d1 disk x in set_length w.disks d disk_now ∙ c.failures.of_two d1 a a_there (sym a_failed ∙ p));
    };
    fields = c.fields;
    names = c.names;
    unguarded = c.unguarded;
    walked = record {
      entries = c.walked.entries;
      passes = c.walked.passes;
      later = c.walked.later;
      unacted = c.walked.unacted;
      acted = c.walked.acted;
      since = c.walked.since;
      gone = c.walked.gone;
    };
  }

  -- ---- what is told

  abbrev pub block_key : List Value
  block_key = val.Word d ∷ val.Word n ∷ []

  key_is : (key : List Value) (k : ℕ × ℕ) → numbers_of key ≡ Some k → k.0 ≡ d → k.1 ≡ n → key ≡ block_key
  key_is (val.Word i ∷ val.Word j ∷ []) k e p q =
      let pair : ℕ × ℕ = (i, j) in
      let same : pair ≡ k = some_pair pair k e in
      let a : i ≡ d = ap (λ (x : ℕ × ℕ). x.0) same ∙ p in
      let c : j ≡ n = ap (λ (x : ℕ × ℕ). x.1) same ∙ q in
      rw (a, c) refl
    where
      some_pair : (x y : ℕ × ℕ) → Some x ≡ Some y → x ≡ y
      some_pair x y e = cc
  key_is _ k e p q = absurd cc

  blocks_elsewhere : (key : List Value) → key ≢ block_key → under (numbers_of key) (λ x. block_at (shape_of o) g x.0 x.1) ≡ under (numbers_of key) (λ x. block_at (shape_of o) shadowed x.0 x.1)
  blocks_elsewhere key ne = at (numbers_of key) refl
    where
      at : (found : Option (ℕ × ℕ)) → numbers_of key ≡ found → under found (λ x. block_at (shape_of o) g x.0 x.1) ≡ under found (λ x. block_at (shape_of o) shadowed x.0 x.1)
      at None e = refl
      at (Some k) e = ap (λ (x : Option (List ℕ)). only_if (nat_lt k.0 o.disks) (in_block x)) (sym (shadow_elsewhere k.0 k.1 (λ p q. ne (key_is key k e p q))))

  downs_same : (found : Option ℕ) → under found (λ e. failed_in (slice_get w.disks e)) ≡ under found (λ e. failed_in (slice_get written.disks e))
  downs_same None = refl
  downs_same (Some e) = elim (number_test e d) [
    | inl (same, t) ↦ (
        let here : failed_in (slice_get w.disks d) ≡ failed_in (slice_get written.disks d) =
        ap failed_in b.there ∙ ap (λ (x : Bool). only_if x (Some [])) (sym same_failure) ∙ sym (ap failed_in (set_there w.disks d disk_now d_there)) in
        rw same here)
    | inr (ne, t) ↦ ap failed_in (sym (set_elsewhere w.disks d e disk_now ne))
  ]

  here_told : block_at (shape_of o) shadowed d n ≡ Some (val.Bytes bytes ∷ [])
  here_told =
      ap (λ (x : Option (List ℕ)). only_if (nat_lt d o.disks) (in_block x)) shadow_there
      ∙ elim (below_test d o.disks) [ inl (l, t) ↦ ap (λ (x : Bool). only_if x (Some (val.Bytes bytes ∷ []))) t | inr (l, t) ↦ absurd (let k = b.below in omega arith) ]

  pub told_written : (k : Kind) (key : List Value)
      → retold (retold (told (shape_of o) w g) kind.Master block_key (Some (val.Bytes bytes ∷ []))) kind.Lease block_key (Some (val.Bytes bytes ∷ [])) k key ≡ told (shape_of o) written shadowed k key
  told_written k key = elim (retold_test (retold (told (shape_of o) w g) kind.Master block_key (Some (val.Bytes bytes ∷ []))) kind.Lease block_key (Some (val.Bytes bytes ∷ [])) k key) [
    | inl (p, q, t) ↦ (let same : Some (val.Bytes bytes ∷ []) ≡ told (shape_of o) written shadowed k key = rw (p, q) (sym here_told) in t ∙ same)
    | inr (ne, t) ↦ elim (retold_test (told (shape_of o) w g) kind.Master block_key (Some (val.Bytes bytes ∷ [])) k key) [
      | inl (p, q, u) ↦ (let same : Some (val.Bytes bytes ∷ []) ≡ told (shape_of o) written shadowed k key = rw (p, q) (sym here_told) in t ∙ u ∙ same)
      | inr (other, u) ↦ t ∙ u ∙ rest k key ne other
    ]
  ]
    where
      rest : (k : Kind) (key : List Value) → (k ≡ kind.Lease → key ≢ block_key) → (k ≡ kind.Master → key ≢ block_key) → told (shape_of o) w g k key ≡ told (shape_of o) written shadowed k key
      rest kind.Master key ne other = blocks_elsewhere key (other refl)
      rest kind.Lease key ne other = blocks_elsewhere key (ne refl)
      rest kind.Down key ne other = downs_same (number_of key)
      rest _ key ne other = refl

  pub still_written : (rest : Piece) → AreOwned w rest → AreOwned written rest
  still_written rest still (CellAt object place) m = still (CellAt object place) m
  still_written rest still (MapAt object) m = still (MapAt object) m

-- ---- the step

module _ (program : Program) (extra : ℕ) (w : World) (f : Frame) (below : List Frame) where
  abbrev at : Todo → Frame
  at todo = record f { todo = todo }

  abbrev row : Todo → Todo → Option Val → Option Val → Option Val → Answer Stepped
  row todo next x y z = and_then (and_then (as_word x) (λ k. and_then (as_word y) (λ m. and_then (as_slice z) (λ t. leaves f.locals (disk_write w k m t))))) (settled (at_rest (at todo) below) w (Some next))

  write_step : (dd a e : Expr) (place : Place) (next : Todo) (d n : ℕ) (s : SliceVal) (after : World) → f.todo ≡ Run (Do (DiskWrite dd a e) place) ∷ next
      → value f.locals dd ≡ Some (stored.Word d) → value f.locals a ≡ Some (stored.Word n) → value f.locals e ≡ Some (stored.Slice s) → disk_write w d n s ≡ Next after
      → stepped program extra (at_rest f below) w ≡ Next (GoesOn after (at_rest (at next) below) [])
  write_step dd a e place next d n s after is p q r written =
      let todo : Todo = Run (Do (DiskWrite dd a e) place) ∷ next in
      subst (λ (t : Todo). stepped program extra (at_rest (at t) below) w ≡ Next (GoesOn after (at_rest (at next) below) [])) (sym is)
      (subst (λ (x : Option Val). row todo next x (value f.locals a) (value f.locals e) ≡ Next (GoesOn after (at_rest (at next) below) [])) (sym p)
      (subst (λ (x : Option Val). row todo next (Some (stored.Word d)) x (value f.locals e) ≡ Next (GoesOn after (at_rest (at next) below) [])) (sym q)
      (subst (λ (x : Option Val). row todo next (Some (stored.Word d)) (Some (stored.Word n)) x ≡ Next (GoesOn after (at_rest (at next) below) [])) (sym r)
      (subst (λ (x : Answer World). and_then (leaves f.locals x) (settled (at_rest (at todo) below) w (Some next)) ≡ Next (GoesOn after (at_rest (at next) below) [])) (sym written) refl))))

-- ---- the law

owned_block : {preds : List Predicate} {env : Env} {d : ℕ} {a v : TermTree} {p : Piece} (n : ℕ) (k : Kind) → ((x : List Value) → owned_key k x ≡ x) → value_under env a ≡ val.Word n
    → StandsFor preds env (block_of k d a v) p → 0 < p (Have k (val.Word d ∷ val.Word n ∷ []) (value_under env v ∷ []))
owned_block {env = env} {d = d} {a = a} {v = v} {p = p} n k plain_key is (owns has) =
    let key : value_under env (number d) ∷ value_under env a ∷ [] ≡ val.Word d ∷ val.Word n ∷ [] = keys _ _ (number_value env d) is in
    subst (λ (x : List Value). 0 < p (Have k x (value_under env v ∷ []))) (plain_key (value_under env (number d) ∷ value_under env a ∷ []) ∙ key) has
  where
    keys : (x y : Value) → x ≡ val.Word d → y ≡ val.Word n → x ∷ y ∷ [] ≡ val.Word d ∷ val.Word n ∷ []
    keys x y p q = rw (p, q) refl

block_stands : (preds : List Predicate) (env : Env) (d n : ℕ) (a t : TermTree) (k : Kind) (bytes : List ℕ) → ((x : List Value) → x ≡ owned_key k x) → value_under env a ≡ val.Word n
    → value_under env t ≡ val.Bytes bytes → StandsFor preds env (block_of k d a t) (single (Have k (val.Word d ∷ val.Word n ∷ []) (val.Bytes bytes ∷ [])))
block_stands preds env d n a t k bytes plain_key is t_is =
    let one : Resource = Have k (val.Word d ∷ val.Word n ∷ []) (val.Bytes bytes ∷ []) in
    let key : val.Word d ∷ val.Word n ∷ [] ≡ value_under env (number d) ∷ value_under env a ∷ [] = keys _ _ (number_value env d) is in
    owns (subst (λ (x : List Value). 0 < single one (Have k x (value_under env t ∷ []))) (key ∙ plain_key (value_under env (number d) ∷ value_under env a ∷ []))
    (subst (λ (x : Value). 0 < single one (Have k (val.Word d ∷ val.Word n ∷ []) (x ∷ []))) (sym t_is) (let s = single_same one in omega arith)))
  where
    keys : (x y : Value) → x ≡ val.Word d → y ≡ val.Word n → val.Word d ∷ val.Word n ∷ [] ≡ x ∷ y ∷ []
    keys x y p q = rw (p, q) refl

pub writes_law : WritesLaw
writes_law o h d address k (writes _ dd a e _ v u s t frozen left mid after place next may todo d_term a_term a_sort s_term s_sort t_sort takes known first second) program extra w g start f below rest seat =
    let env = seat.env in
    let dsc = seat.described in
    let (m, d_found, d_is) = word_operand env h.locals f.locals dsc.locals dd (number d) d_term (number_sort d) in
    let (n, a_found, a_is) = word_operand env h.locals f.locals dsc.locals a address a_term a_sort in
    let is_d : val.Word m ≡ val.Word d = sym d_is ∙ number_value env d in
    let same_d : m ≡ d = cc in
    let (sv, s_found, s_plain) = expressions_law env h.locals f.locals dsc.locals e s sort.SliceS s_term s_sort in
    let (sl, s_is) = slice_value (value_under env s) (values_have_sorts env s sort.SliceS s_sort) in
    let (bytes, t_is) = bytes_value (value_under env t) (values_have_sorts env t sort.Bytes t_sort) in
    let facts = known env dsc.valuation dsc.facts in
    let long : length bytes ≡ block_bytes = equal_numbers env (one_of op.Len t) (length bytes) block_bytes (one_value env op.Len t (val.Bytes bytes) t_is) facts.0 in
    let (q, r, split, slice_stands, others) = parted (front takes dsc.stands) in
    let all : Piece = λ x. seat.piece x + (seat.pool x + (of_locks w seat.locks x + rest x)) in
    let has = slice_bytes (shape_of o) w g all seat.base.fits frozen sl bytes q rest (λ x. let l = split x in omega arith) (slice_owned env s t sl bytes q s_is t_is slice_stands) seat.still (omega arith) in
    let one = swapped first dsc.stands in
    let key : List Value = val.Word d ∷ val.Word n ∷ [] in
    let old_v : List Value = value_under env v ∷ [] in
    let old_u : List Value = value_under env u ∷ [] in
    let new : List Value = val.Bytes bytes ∷ [] in
    let has_master : 0 < one.first (Have kind.Master key old_v) = owned_block n kind.Master (λ x. refl) a_is one.stands in
    let within = one.split (Have kind.Master key old_v) in
    let b = block_is o w g d n (value_under env v) seat.base.consistent.blocks (seat.base.fits.says kind.Master key old_v (omega arith)) in
    let mid_piece : Piece = λ x. single (Have kind.Master key new) x + one.others x in
    let mid_stands = one.again (single (Have kind.Master key new)) mid_piece (λ x. omega arith) (block_stands o.preds env d n address t kind.Master bytes (λ x. refl) a_is t_is) in
    let two = swapped second mid_stands in
    let has_lease : 0 < two.first (Have kind.Lease key old_u) = owned_block n kind.Lease (λ x. refl) a_is two.stands in
    let later : Piece = λ x. single (Have kind.Lease key new) x + two.others x in
    let later_stands = two.again (single (Have kind.Lease key new)) later (λ x. omega arith) (block_stands o.preds env d n address t kind.Lease bytes (λ x. refl) a_is t_is) in
    let middle : Fits (λ x. mid_piece x + (seat.pool x + (of_locks w seat.locks x + rest x))) _ =
    fits_change kind.Master key old_v new seat.base.fits refl (λ x. let l = one.split x in let i = single_within (Have kind.Master key old_v) one.first has_master x in omega arith) (omega arith) in
    let lease_within = two.split (Have kind.Lease key old_u) in
    let fits : Fits (λ x. later x + (seat.pool x + (of_locks w seat.locks x + rest x))) _ =
    fits_change kind.Lease key old_u new middle refl (λ x. let l = two.split x in let i = single_within (Have kind.Lease key old_u) two.first has_lease x in omega arith) (omega arith) in
    let now = written o w g d n (value_under env v) b sl bytes has long in
    let step = write_step program extra w f below dd a e place next d n sl now (dsc.todo ∙ todo) (d_found ∙ ap (λ (i : ℕ). Some (stored.Word i)) same_d) a_found
    (s_found ∙ ap Some (slice_is sv sl (s_plain ∙ ap Some s_is))) (writes_it o w g d n (value_under env v) b sl bytes has long) in
    let ghost = shadowed o w g d n (value_under env v) b sl bytes has long in
    let address_is : number_under env address ≡ n = ap word_of a_is in
    subst (λ (answer : Answer Stepped). Goes o g start below h (goes_on h next h.locals after ∷ []) rest (SetsBlock d (number_under env address)) answer) (sym step)
    (goes (record {
      after = ghost;
      changed = subst (λ (i : ℕ). Changed (SetsBlock d i) g ghost) (sym address_is) (block_changes o w g d n (value_under env v) b sl bytes has long);
      path = goes_on h next h.locals after;
      place = 0;
      among = refl;
      procedure = refl;
      seat = record {
        env = env;
        piece = later;
        pool = seat.pool;
        locks = seat.locks;
        described = record { todo = refl; as_many = dsc.as_many; locals = dsc.locals; valuation = dsc.valuation; started = dsc.started; facts = dsc.facts; stands = later_stands };
        base = record {
          fits = fits_same (told_written o w g d n (value_under env v) b sl bytes has long) fits;
          mode = seat.base.mode;
          crash = λ shared closed. seat.base.crash shared (still_closed h.bracket closed);
          free = seat.base.free;
          consistent = consistent_written o w g d n (value_under env v) b sl bytes has long seat.base.consistent;
        };
        still = still_written o w g d n (value_under env v) b sl bytes has long rest seat.still;
      };
    }))
  where
    slice_owned : (env : Env) (s t : TermTree) (sl : SliceVal) (bytes : List ℕ) (q : Piece) → value_under env s ≡ val.SliceS sl → value_under env t ≡ val.Bytes bytes
        → StandsFor o.preds env (Slice frozen s t) q → OwnsSlice frozen sl (val.Bytes bytes) q
    slice_owned env s t sl bytes q s_is t_is (slice h) =
        subst (λ (x : Value). OwnsSlice frozen (slice_of x) (val.Bytes bytes) q) s_is (subst (λ (x : Value). OwnsSlice frozen (slice_of (value_under env s)) x q) t_is h)
