-- Reading a block of one of two disks.
use Rattle.std.proofs.Common.{◌≡◌, ℕ, ◌+◌, ◌-◌, ◌<◌, Bool, true, false, List, [], ◌∷◌, length, is_some, Option, Some, None, refl, sym, ap, subst, ◌∙◌, arith}
use Rattle.std.specs.Prelude.{slice_get, slice_set}
use Rattle.gv_base.specs.declared.answers.Place.{Place}
use Rattle.gv_base.specs.declared.answer.Answer.{Answer}
use Rattle.gv_base.specs.declared.answer.Answer.TheVariants.{Next}
use Rattle.gv_base.specs.declared.val.Val.{Val}
use Rattle.gv_base.specs.declared.val.Val.TheVariants as stored
use Rattle.gv_terms.specs.declared.sort.Sort.{Sort}
use Rattle.gv_terms.specs.declared.sort.Sort.TheVariants as sort
use Rattle.gv_terms.specs.declared.operator.Operator.TheVariants as op
use Rattle.gv_terms.specs.declared.tree.TermTree.{TermTree}
use Rattle.gv_terms.specs.declared.tree.TermTree.TheVariants as tree
use Rattle.gv_terms.specs.declared.value.Env.{Env}
use Rattle.gv_terms.specs.declared.value.Value.{Value}
use Rattle.gv_terms.specs.declared.value.Value.TheVariants as val
use Rattle.gv_terms.specs.declared.var.Var.{Var}
use Rattle.gv_terms.specs.Scopes.{is_among, is_closed}
use Rattle.gv_terms.specs.Trees.{sort_of, value_under}
use Rattle.gv_terms.specs.Values.{has_sort, slice_of}
use Rattle.gv_terms.proofs.NodeSorts.{sort_apply}
use Rattle.gv_terms.proofs.Valued.{value_apply}
use Rattle.gv_world.specs.declared.cell.Cell.{Cell}
use Rattle.gv_world.specs.Answers.{and_then}
use Rattle.gv_world.specs.Store as world
use Rattle.gv_world.specs.Store.{Disk, Store as World, block_bytes, with_new}
use Rattle.gv_world.specs.Disks.{byte_cells, disk_read}
use Rattle.gv_world.specs.Slices.{nil_slice, whole_of}
use Rattle.gv_lang.specs.Tree.{Expr, DiskRead2, Do, Program}
use Rattle.gv_lang.specs.Todo.{Todo, Run}
use Rattle.gv_lang.specs.Threads.{Frame}
use Rattle.gv_lang.specs.Table.{as_word, sets_both, block_slice}
use Rattle.gv_lang.specs.Values.{value}
use Rattle.gv_lang.specs.Step.{Stepped, GoesOn, stepped, settled}
use Rattle.gv_resources.specs.Kinds as kind
use Rattle.gv_resources.specs.Pieces.{Have, Piece, Fits, single}
use Rattle.gv_resources.specs.Ghost.{Ghost}
use Rattle.gv_resources.specs.Told.{told, only_if, failed_in}
use Rattle.gv_resources.proofs.Equality.{single_same}
use Rattle.gv_resources.proofs.Fitting.{fits_told}
use Rattle.gv_resources.proofs.Sums.{with_piece}
use Rattle.gv_assertions.specs.Atoms.{Atom, Owns, Slice, Spare, Takes, here, there, Predicate}
use Rattle.gv_assertions.specs.Standing.{StandsFor, owns, slice, spare, both, none, OwnsSlice, OwnsSpare, AreTrueUnder}
use Rattle.gv_assertions.proofs.Lists.{front, parted, joined}
use Rattle.gv_instances.proofs.Agreeing.{closed_law}
use Rattle.gv_instances.specs.Agreeing.{AgreeOnVars, IsClosedAtom, AreClosedAtoms}
use Rattle.gv_seats.specs.Paths.{Path, number, term_of}
use Rattle.gv_seats.specs.Seats.{Proof, shape_of, Seat, HaveValues, plain, of_locks}
use Rattle.gv_seats.specs.Changes.{Nothing}
use Rattle.gv_seats.specs.Soundness.{Goes, goes, at_rest}
use Rattle.gv_seats.specs.Scoping.{IsScoped, variable}
use Rattle.gv_seats.proofs.Bases.{unchanged, base_after, base_with}
use Rattle.gv_seats.proofs.Extending.{with_value, agree_one, new_value, valued_one, described_agree}
use Rattle.gv_seats.proofs.Locals.{have_set, set_length}
use Rattle.gv_rules.specs.Rows.{IsLocal}
use Rattle.gv_slicing.specs.Rows.{one_of}
use Rattle.gv_slicing.proofs.Fresh.{next_object, fresh_is, sliced_too, sliced_changes, new_items, owns_slice, no_spare, untouched_is, base_grown, still_grown}
use Rattle.gv_slicing.proofs.Operands.{word_operand}
use Rattle.gv_slicing.proofs.Truths.{facts_join, number_value, equal_true, one_value}
use Rattle.gv_blocks.specs.Laws.{ReadsLaw}
use Rattle.gv_blocks.specs.Rows.{reads, reads_other, block_kind, block_facts, read_path, failed_path, truth}
use Rattle.gv_blocks.proofs.Blocks.{Block, block_is, block_told, read_failed, read_block, byte_items, bytes_unmarked, bytes_long}

-- ---- the step

module _ (program : Program) (extra : ℕ) (w : World) (f : Frame) (below : List Frame) where
  abbrev at : Todo → Frame
  at todo = record f { todo = todo }

  -- the frame behind a command that sets two locals
  abbrev pub with_both : (x ok : ℕ) → (v u : Val) → Todo → Frame
  with_both x ok v u next = record f { locals = slice_set (slice_set f.locals x v) ok u; todo = next }

  abbrev pub came : (x ok : ℕ) → Todo → World × Option ℕ → Answer Stepped
  came x ok next read = Next (GoesOn read.0 (at_rest (with_both x ok (stored.Slice (block_slice read.1)) (stored.Bool (is_some read.1)) next) below) [])

  pub read_step : (x ok : ℕ) (dd a : Expr) (place : Place) (next : Todo) (d n : ℕ) (read : World × Option ℕ) → f.todo ≡ Run (Do (DiskRead2 x ok dd a) place) ∷ next
      → value f.locals dd ≡ Some (stored.Word d) → value f.locals a ≡ Some (stored.Word n) → disk_read w d n ≡ Next read
      → stepped program extra (at_rest f below) w ≡ came x ok next read
  read_step x ok dd a place next d n read is d_value a_value answer =
      subst (λ (todo : Todo). stepped program extra (at_rest (at todo) below) w ≡ came x ok next read) (sym is)
      (subst (λ (r : Option Val). and_then (and_then (as_word r) (λ k. and_then (as_word (value f.locals a)) (λ m. and_then (disk_read w k m) (λ found.
      sets_both found.0 f.locals x ok (stored.Slice (block_slice found.1)) (stored.Bool (is_some found.1))))))
      (settled (at_rest (at (Run (Do (DiskRead2 x ok dd a) place) ∷ next)) below) w (Some next)) ≡ came x ok next read) (sym d_value)
      (subst (λ (r : Option Val). and_then (and_then (as_word r) (λ m. and_then (disk_read w d m) (λ found.
      sets_both found.0 f.locals x ok (stored.Slice (block_slice found.1)) (stored.Bool (is_some found.1)))))
      (settled (at_rest (at (Run (Do (DiskRead2 x ok dd a) place) ∷ next)) below) w (Some next)) ≡ came x ok next read) (sym a_value)
      (subst (λ (r : Answer (World × Option ℕ)). and_then (and_then r (λ found. sets_both found.0 f.locals x ok (stored.Slice (block_slice found.1)) (stored.Bool (is_some found.1))))
      (settled (at_rest (at (Run (Do (DiskRead2 x ok dd a) place) ∷ next)) below) w (Some next)) ≡ came x ok next read) (sym answer) refl)))

-- ---- operands

pub number_sort : (n : ℕ) → sort_of (number n) ≡ Some sort.Word
number_sort n = sort_apply (op.Number n) []

-- ---- two locals are set

pub have_both : (env : Env) (terms : List (Option TermTree)) (locals : List Val) (x ok : ℕ) (t u : TermTree) (v y : Val) → HaveValues env terms locals → length locals ≡ length terms
    → x < length terms → ok < length terms → plain v ≡ Some (value_under env t) → plain y ≡ Some (value_under env u)
    → HaveValues env (slice_set (slice_set terms x (Some t)) ok (Some u)) (slice_set (slice_set locals x v) ok y)
have_both env terms locals x ok t u v y have as_many l k is also =
    have_set env (slice_set terms x (Some t)) (slice_set locals x v) ok u y (have_set env terms locals x t v have as_many l is)
    (set_length locals x v ∙ as_many ∙ sym (set_length terms x (Some t))) (let m = set_length terms x (Some t) in omega arith) also

pub both_long : {A B : Type 0} (xs : List A) (ys : List B) (x ok : ℕ) (a b : A) (c d : B) → length xs ≡ length ys
    → length (slice_set (slice_set xs x a) ok b) ≡ length (slice_set (slice_set ys x c) ok d)
both_long xs ys x ok a b c d e =
    set_length (slice_set xs x a) ok b ∙ set_length xs x a ∙ e ∙ sym (set_length ys x c) ∙ sym (set_length (slice_set ys x c) ok d)

truth_value : (env : Env) (b : Bool) → value_under env (truth b) ≡ val.Bool b
truth_value env true = value_apply env op.True []
truth_value env false = value_apply env op.False []

-- ---- both outcomes

module _ (o : Proof) (w : World) (g : Ghost) (start : Env) (f : Frame) (h : Path) (rest : Piece) (seat : Seat o w g start f h rest) (x ok d n : ℕ) (v : TermTree) (next : Todo)
    (l : IsLocal h x) (k : IsLocal h ok) (b : Block o w g d n (value_under seat.env v)) where
  -- what the row knows of the disk: it has failed, and the frame knows that from now on
  pub fails : b.disk.failed ≡ true
      → Seat o w g start (record f { locals = slice_set (slice_set f.locals x (stored.Slice nil_slice)) ok (stored.Bool false); todo = next }) (failed_path h next x ok d) rest
  fails failed =
      let down : Piece = single (Have kind.Down (val.Word d ∷ []) []) in
      let later : Piece = λ e. seat.piece e + down e in
      let is_told : told (shape_of o) w g kind.Down (val.Word d ∷ []) ≡ Some [] = ap failed_in b.there ∙ ap (λ (t : Bool). only_if t (Some [])) failed in
      let fits : Fits (λ e. later e + (seat.pool e + (of_locks w seat.locks e + rest e))) (told (shape_of o) w g) =
      fits_told kind.Down (val.Word d ∷ []) [] seat.base.fits refl is_told (λ e. omega arith) in
      let stands : StandsFor o.preds seat.env (Owns kind.Down (number d ∷ []) []) down =
      owns (subst (λ (y : Value). 0 < down (Have kind.Down (y ∷ []) [])) (sym (number_value seat.env d)) (let s = single_same (Have kind.Down (val.Word d ∷ []) []) in omega arith)) in
      record {
        env = seat.env;
        piece = later;
        pool = seat.pool;
        locks = seat.locks;
        described = record {
          todo = refl;
          as_many = both_long f.locals h.locals x ok _ _ _ _ seat.described.as_many;
          locals = have_both seat.env h.locals f.locals x ok (tree.Apply op.NilSlice []) (truth false) (stored.Slice nil_slice) (stored.Bool false) seat.described.locals
              seat.described.as_many l k (ap Some (sym (value_apply seat.env op.NilSlice []))) (ap Some (sym (truth_value seat.env false)));
          valuation = seat.described.valuation;
          started = seat.described.started;
          facts = seat.described.facts;
          stands = joined {q = down} (λ e. omega arith) seat.described.stands (both down (λ e. 0) (λ e. omega arith) stands none);
        };
        base = base_after o w g h.mode h.bracket later seat.pool seat.locks rest (base_with o w g h.mode h.bracket seat.piece later seat.pool seat.locks rest seat.base fits);
        still = seat.still;
      }

  module _ (scoped : IsScoped h) (s : Var) (s_sort : s.sort ≡ sort.SliceS) (new : (r : Sort) → is_among h.vars s.name r ≡ false)
      (v_closed : is_closed h.vars v ≡ true) where
    abbrev cells : List Cell
    cells = byte_cells b.bytes

    abbrev object : ℕ
    object = next_object w

    abbrev s_value : Value
    s_value = val.SliceS (whole_of object block_bytes)

    abbrev env : Env
    env = with_value seat.env s s_value

    s_is : value_under env (variable s) ≡ s_value
    s_is = new_value seat.env s s_value (ap (λ (r : Sort). has_sort s_value r) s_sort)

    same_vars : AgreeOnVars seat.env env h.vars
    same_vars = agree_one h.vars seat.env s s_value new

    v_is : value_under env v ≡ val.Bytes b.bytes
    v_is = sym ((closed_law h.vars seat.env env).value same_vars v v_closed) ∙ sym b.is

    abbrev items : Piece
    items = new_items (shape_of o) w g cells (untouched_is o w g cells seat.base.consistent)

    long : length cells ≡ block_bytes
    long = bytes_long b.bytes ∙ b.whole

    slice_stands : StandsFor o.preds env (Slice false (variable s) v) items
    slice_stands =
        slice (subst (λ (y : Value). OwnsSlice false (slice_of y) (value_under env v) items) (sym s_is)
        (subst (λ (y : Value). OwnsSlice false (whole_of object block_bytes) y items) (sym v_is)
        (subst (λ (m : ℕ). OwnsSlice false (whole_of object m) (val.Bytes b.bytes) items) long
        (owns_slice (shape_of o) w g cells (untouched_is o w g cells seat.base.consistent) (val.Bytes b.bytes) (ap Some (sym (byte_items b.bytes)))))))

    spare_stands : StandsFor o.preds env (Spare (variable s)) (λ e. 0)
    spare_stands = spare (subst (λ (y : Value). OwnsSpare (slice_of y) (λ e. 0)) (sym s_is) (no_spare object block_bytes (λ e. 0)))

    facts_true : AreTrueUnder env (block_facts (variable s) v)
    facts_true = (
      equal_true env (one_of op.SLen (variable s)) (number block_bytes) (val.Word block_bytes) (val.Word block_bytes) (one_value env op.SLen (variable s) s_value s_is) (number_value env block_bytes) refl,
      (
        equal_true env (one_of op.Len v) (number block_bytes) (val.Word block_bytes) (val.Word block_bytes)
            (one_value env op.Len v (val.Bytes b.bytes) v_is ∙ ap (λ (m : ℕ). val.Word m) b.whole) (number_value env block_bytes) refl,
        (equal_true env (one_of op.SCap (variable s)) (number block_bytes) (val.Word block_bytes) (val.Word block_bytes) (one_value env op.SCap (variable s) s_value s_is) (number_value env block_bytes) refl, tt),
      ),
    )

    pub reads_it : Seat o (with_new w (world.Cells cells)) (sliced_too g object) start
        (record f { locals = slice_set (slice_set f.locals x (stored.Slice (whole_of object block_bytes))) ok (stored.Bool true); todo = next }) (read_path h next x ok s v) rest
    reads_it =
        let before = described_agree o.preds start seat.env env h f seat.piece scoped same_vars (valued_one seat.env s s_value (omega arith, omega arith) seat.described.valuation) seat.described in
        record {
          env = env;
          piece = λ e. seat.piece e + items e;
          pool = seat.pool;
          locks = with_piece seat.locks object (λ e. 0);
          described = record {
            todo = refl;
            as_many = both_long f.locals h.locals x ok _ _ _ _ seat.described.as_many;
            locals = have_both env h.locals f.locals x ok (variable s) (truth true) (stored.Slice (whole_of object block_bytes)) (stored.Bool true) before.locals before.as_many l k
                (ap Some (sym s_is)) (ap Some (sym (truth_value env true)));
            valuation = before.valuation;
            started = before.started;
            facts = facts_join env h.facts (block_facts (variable s) v) before.facts facts_true;
            stands = joined {q = items} (λ e. omega arith) before.stands (both items (λ e. 0) (λ e. omega arith) slice_stands (both (λ e. 0) (λ e. 0) (λ e. omega arith) spare_stands none));
          };
          base = base_grown o w g cells seat.base.consistent h.mode h.bracket seat.piece seat.pool seat.locks rest seat.base;
          still = still_grown o w g cells seat.base.consistent rest (bytes_unmarked b.bytes) seat.still;
        }

-- ---- the law

pub taken_closed : (vars : List Var) {all left : List Atom} {a : Atom} → Takes all a left → AreClosedAtoms vars all → IsClosedAtom vars a
taken_closed vars here c = c.0
taken_closed vars (there t) c = taken_closed vars t c.1

owned_block : {preds : List Predicate} {env : Env} {d a v : TermTree} {p : Piece} (leased : Bool) → StandsFor preds env (Owns (block_kind leased) (d ∷ a ∷ []) (v ∷ [])) p
    → 0 < p (Have (block_kind leased) (value_under env d ∷ value_under env a ∷ []) (value_under env v ∷ []))
owned_block false (owns has) = has
owned_block true (owns has) = has

owned_down : {preds : List Predicate} {env : Env} {d : TermTree} {p : Piece} → StandsFor preds env (Owns kind.Down (d ∷ []) []) p → 0 < p (Have kind.Down (value_under env d ∷ []) [])
owned_down (owns has) = has

block_key : (x y : Value) (d n : ℕ) → x ≡ val.Word d → y ≡ val.Word n → x ∷ y ∷ [] ≡ val.Word d ∷ val.Word n ∷ []
block_key x y d n e q = rw (e, q) refl

-- what the row finds where its frame stands
pub record Operands (o : Proof) (w : World) (g : Ghost) (f : Frame) (env : Env) (d : ℕ) (dd a : Expr) (v : TermTree) : Type 0 where
  pub n : ℕ
  pub d_value : value f.locals dd ≡ Some (stored.Word d)
  pub a_value : value f.locals a ≡ Some (stored.Word n)
  pub block : Block o w g d n (value_under env v)

pub operands : (o : Proof) (w : World) (g : Ghost) (start : Env) (f : Frame) (h : Path) (rest : Piece) (seat : Seat o w g start f h rest) (d : ℕ) (dd a : Expr) (address v : TermTree) (leased : Bool)
    (left : List Atom) → term_of h.locals dd ≡ Some (number d) → term_of h.locals a ≡ Some address → sort_of address ≡ Some sort.Word
    → Takes h.atoms (Owns (block_kind leased) (number d ∷ address ∷ []) (v ∷ [])) left → Operands o w g f seat.env d dd a v
operands o w g start f h rest seat d dd a address v leased left d_term a_term a_sort takes =
    let (m, d_found, d_is) = word_operand seat.env h.locals f.locals seat.described.locals dd (number d) d_term (number_sort d) in
    let (n, a_found, a_is) = word_operand seat.env h.locals f.locals seat.described.locals a address a_term a_sort in
    let is_d : val.Word m ≡ val.Word d = sym d_is ∙ number_value seat.env d in
    let same_d : m ≡ d = cc in
    let (q, r, split, stands, others) = parted (front takes seat.described.stands) in
    let xs : List Value = value_under seat.env v ∷ [] in
    let has : 0 < q (Have (block_kind leased) (val.Word d ∷ val.Word n ∷ []) xs) =
    subst (λ (key : List Value). 0 < q (Have (block_kind leased) key xs)) (block_key (value_under seat.env (number d)) (value_under seat.env address) d n (number_value seat.env d) a_is)
    (owned_block leased stands) in
    let within = split (Have (block_kind leased) (val.Word d ∷ val.Word n ∷ []) xs) in
    let says = seat.base.fits.says (block_kind leased) (val.Word d ∷ val.Word n ∷ []) xs (omega arith) in
    record {
      n = n;
      d_value = d_found ∙ ap (λ (i : ℕ). Some (stored.Word i)) same_d;
      a_value = a_found;
      block = block_is o w g d n (value_under seat.env v) seat.base.consistent.blocks (block_told o w g leased d n xs says);
    }

no_failure : (b : Bool) (x : List Value) → only_if b (Some x) ≡ Some x → b ≡ true
no_failure true x e = refl
no_failure false x e = absurd cc

-- a disk that is told as failed is there and has failed
down_is : (found : Option Disk) → failed_in found ≡ Some [] → (disk : Disk) × (found ≡ Some disk) × (disk.failed ≡ true)
down_is None e = absurd cc
down_is (Some disk) e = (disk, refl, no_failure disk.failed [] e)

-- the other disk can't have failed too
not_both : (o : Proof) (w : World) (g : Ghost) (start : Env) (f : Frame) (h : Path) (rest : Piece) (seat : Seat o w g start f h rest) (d n : ℕ) (v : Value) (others : List Atom) → d < 2
    → Takes h.atoms (Owns kind.Down (number (1 - d) ∷ []) []) others → (b : Block o w g d n v) → b.disk.failed ≡ true → ⊥
not_both o w g start f h rest seat d n v others below takes b failed =
    let (q, r, split, stands, left) = parted (front takes seat.described.stands) in
    let has : 0 < q (Have kind.Down (val.Word (1 - d) ∷ []) []) = subst (λ (y : Value). 0 < q (Have kind.Down (y ∷ []) [])) (number_value seat.env (1 - d)) (owned_down stands) in
    let within = split (Have kind.Down (val.Word (1 - d) ∷ []) []) in
    let says = seat.base.fits.says kind.Down (val.Word (1 - d) ∷ []) [] (omega arith) in
    let (disk, found, other_failed) = down_is (slice_get w.disks (1 - d)) says in
    let same = seat.base.consistent.failures.one d (1 - d) b.disk disk b.there found failed other_failed in
    omega arith

pub reads_law : ReadsLaw
reads_law o h ks (reads x ok d dd a address v leased left s place next may todo l k d_term d_below a_term a_sort takes s_sort new) scoped program extra w g start f below rest seat = go b.disk.failed refl
  where
    ops : Operands o w g f seat.env d dd a v
    ops = operands o w g start f h rest seat d dd a address v leased left d_term a_term a_sort takes

    b : Block o w g d ops.n (value_under seat.env v)
    b = ops.block

    go : (failed : Bool) → b.disk.failed ≡ failed
        → Goes o g start below h (read_path h next x ok s v ∷ failed_path h next x ok d ∷ []) rest Nothing (stepped program extra (at_rest f below) w)
    go true e =
        let step = read_step program extra w f below x ok dd a place next d ops.n (w, None) (seat.described.todo ∙ todo) ops.d_value ops.a_value (read_failed o w g d ops.n _ b e) in
        subst (λ (answer : Answer Stepped). Goes o g start below h (read_path h next x ok s v ∷ failed_path h next x ok d ∷ []) rest Nothing answer) (sym step)
        (goes (record {
          after = g;
          changed = unchanged g;
          path = failed_path h next x ok d;
          place = 1;
          among = refl;
          procedure = refl;
          seat = fails o w g start f h rest seat x ok d ops.n v next l k b e;
        }))
    go false e =
        let read : World × Option ℕ = (with_new w (world.Cells (byte_cells b.bytes)), Some (next_object w)) in
        let answer : disk_read w d ops.n ≡ Next read = read_block o w g d ops.n _ b seat.base.consistent.blocks e
        ∙ ap (λ (m : ℕ). Next (with_new w (world.Cells (byte_cells b.bytes)), Some m)) (fresh_is w) in
        let step = read_step program extra w f below x ok dd a place next d ops.n read (seat.described.todo ∙ todo) ops.d_value ops.a_value answer in
        subst (λ (answer : Answer Stepped). Goes o g start below h (read_path h next x ok s v ∷ failed_path h next x ok d ∷ []) rest Nothing answer) (sym step)
        (goes (record {
          after = sliced_too g (next_object w);
          changed = sliced_changes g (next_object w);
          path = read_path h next x ok s v;
          place = 0;
          among = refl;
          procedure = refl;
          seat = reads_it o w g start f h rest seat x ok d ops.n v next l k b scoped s s_sort new.0 (taken_closed h.vars takes scoped.atoms).1.0;
        }))
reads_law o h ks (reads_other x ok d dd a address v leased left others s place next may todo l k d_term d_below a_term a_sort takes takes_other s_sort new) scoped program extra w g start f below rest seat = go b.disk.failed refl
  where
    ops : Operands o w g f seat.env d dd a v
    ops = operands o w g start f h rest seat d dd a address v leased left d_term a_term a_sort takes

    b : Block o w g d ops.n (value_under seat.env v)
    b = ops.block

    go : (failed : Bool) → b.disk.failed ≡ failed → Goes o g start below h (read_path h next x ok s v ∷ []) rest Nothing (stepped program extra (at_rest f below) w)
    go true e = absurd (not_both o w g start f h rest seat d ops.n _ others d_below takes_other b e)
    go false e =
        let read : World × Option ℕ = (with_new w (world.Cells (byte_cells b.bytes)), Some (next_object w)) in
        let answer : disk_read w d ops.n ≡ Next read = read_block o w g d ops.n _ b seat.base.consistent.blocks e
        ∙ ap (λ (m : ℕ). Next (with_new w (world.Cells (byte_cells b.bytes)), Some m)) (fresh_is w) in
        let step = read_step program extra w f below x ok dd a place next d ops.n read (seat.described.todo ∙ todo) ops.d_value ops.a_value answer in
        subst (λ (answer : Answer Stepped). Goes o g start below h (read_path h next x ok s v ∷ []) rest Nothing answer) (sym step)
        (goes (record {
          after = sliced_too g (next_object w);
          changed = sliced_changes g (next_object w);
          path = read_path h next x ok s v;
          place = 0;
          among = refl;
          procedure = refl;
          seat = reads_it o w g start f h rest seat x ok d ops.n v next l k b scoped s s_sort new.0 (taken_closed h.vars takes scoped.atoms).1.0;
        }))
