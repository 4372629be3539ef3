-- Where the row of a write of a block is applied, the write is sound.
use Rattle.std.proofs.Common.{◌≡◌, ◌≢◌, inl, inr, Bool, true, false, List, [], ◌∷◌, ◌++◌, Option, Some, refl, sym, ap, subst, ◌∙◌}
use Rattle.std.specs.Prelude.{slice_get, slice_set}
use Rattle.std.specs.List.{All}
use Rattle.std.proofs.lemmas.List.Elements.{All-nil, All-cons}
use Rattle.gv_terms.specs.declared.operator.Operator.TheVariants as op
use Rattle.gv_terms.specs.declared.tree.TermTree.{TermTree}
use Rattle.gv_terms.specs.declared.value.Env.{Env}
use Rattle.gv_world.specs.Store.{block_bytes}
use Rattle.gv_certs.specs.Known.{is_known}
use Rattle.gv_certs.proofs.Known.{known_true}
use Rattle.gv_resources.specs.Kinds as kind
use Rattle.gv_resources.specs.Kinds.{Kind}
use Rattle.gv_assertions.specs.Atoms.{Atom, Owns, Slice, Takes}
use Rattle.gv_assertions.specs.Standing.{IsTrueUnder, AreTrueUnder, number_under}
use Rattle.gv_seats.specs.Paths.{Path, number, goes_on}
use Rattle.gv_seats.specs.Changes.{SetsBlock}
use Rattle.gv_seats.specs.Soundness.{IsSoundStep}
use Rattle.gv_seats.proofs.Locals.{set_elsewhere}
use Rattle.gv_slicing.specs.Rows.{one_of, equal}
use Rattle.gv_blocks.specs.Rows.{writes, block_of}
use Rattle.gv_blocks.proofs.DiskWrites.{writes_law}
use Rattle.gv_rows.specs.Formed.{AreFormed, values_of}
use Rattle.gv_rows.specs.Rows.{Head, Owned, Cells, State, Spot, atom_of, first_of, slot_of, started}
use Rattle.gv_rows.specs.Table.{disk_write_row}
use Rattle.gv_rows.specs.Told.{IsSpot}
use Rattle.gv_rows.specs.Laws.{DiskWriteRowLaw}
use Rattle.gv_rows.proofs.Inversion.{told_law}
use Rattle.gv_rows.proofs.Rules.{taken_formed, one_value, replaced}

-- what a path's facts make known is true
pub all_true : (env : Env) (facts : List TermTree) → AreTrueUnder env facts → All (IsTrueUnder env) facts
all_true env [] h = All-nil (IsTrueUnder env)
all_true env (f ∷ facts) h = All-cons (IsTrueUnder env) f facts h.0 (all_true env facts h.1)

-- a block that was found, of one kind
record BlockFound (h : Path) (k : Kind) (key : List TermTree) (x : Spot) : Type 0 where
  v : TermTree
  value : x.value ≡ v ∷ []
  at : slice_get h.atoms x.place ≡ Some (Owns k key (v ∷ []))

block_found : (h : Path) (k : Kind) (key : List TermTree) (x : Spot) → values_of k ≡ Some 1 → AreFormed h.atoms → IsSpot (Owned k) (Owned k) key h.atoms x → BlockFound h k key x
block_found h k key x single formed spot =
    let root : x.head ≡ Owned k = elim spot.root [ inl q ↦ q | inr q ↦ q ] in
    let taken : Takes h.atoms (Owns k key x.value) x.others = subst (λ (r : Head). Takes h.atoms (atom_of r key x.value) x.others) root spot.taken in
    let (v, one) = one_value x.value (taken_formed taken formed 1 single) in
    record { v = v; value = one; at = spot.at ∙ ap (λ (r : Head). Some (atom_of r key x.value)) root ∙ ap (λ (xs : List TermTree). Some (Owns k key xs)) one }

-- a slice that was found
pub record SliceFound (h : Path) (s : TermTree) (x : Spot) : Type 0 where
  pub frozen : Bool
  pub taken : Takes h.atoms (Slice frozen s (first_of x.value)) x.others

pub slice_found : (h : Path) (s : TermTree) (x : Spot) → IsSpot (Cells false) (Cells true) (s ∷ []) h.atoms x → SliceFound h s x
slice_found h s x spot = elim spot.root [
  | inl e ↦ record { frozen = false; taken = subst (λ (r : Head). Takes h.atoms (atom_of r (s ∷ []) x.value) x.others) e spot.taken }
  | inr e ↦ record { frozen = true; taken = subst (λ (r : Head). Takes h.atoms (atom_of r (s ∷ []) x.value) x.others) e spot.taken }
]

-- the last slot, where those before are as many as they should be
last_slot : (a b c d v w : TermTree) (xs : List TermTree) → slot_of (slice_get (a ∷ b ∷ c ∷ d ∷ v ∷ w ∷ xs) 6) ≡ first_of xs
last_slot a b c d v w [] = refl
last_slot a b c d v w (t ∷ xs) = refl

kinds_apart : (key other : List TermTree) (v w : TermTree) → Some (Owns kind.Master key (v ∷ [])) ≡ Some (Owns kind.Lease other (w ∷ [])) → ⊥
kinds_apart key other v w e = cc

pub disk_write_row_law : DiskWriteRowLaw
disk_write_row_law o h t d dd a e address s place rest may todo d_term a_term a_sort s_term s_sort formed sorts applied =
    let start : List TermTree = number d ∷ address ∷ s ∷ number o.blocks ∷ [] in
    let key : List TermTree = number d ∷ address ∷ [] in
    let (m, m_is, after_m) = told_law [] disk_write_row (started h start) t applied in
    let (l, l_is, after_l) = after_m in
    let (c, c_is, after_c) = after_l in
    let (address_known, known) = after_c in
    let master = block_found h kind.Master key m refl formed m_is in
    let lease = block_found h kind.Lease key l refl formed l_is in
    let found = slice_found h s c c_is in
    let items = first_of c.value in
    let slots : List TermTree = ((start ++ m.value) ++ l.value) ++ c.value in
    let last : slot_of (slice_get slots 6) ≡ items =
    ap (λ (xs : List TermTree). slot_of (slice_get (((start ++ xs) ++ l.value) ++ c.value) 6)) master.value
    ∙ ap (λ (xs : List TermTree). slot_of (slice_get (((start ++ master.v ∷ []) ++ xs) ++ c.value) 6)) lease.value
    ∙ last_slot (number d) address s (number o.blocks) master.v lease.v c.value in
    let (long, known_size) = known in
    let (size, came) = known_size in
    let long_now : is_known h.facts (equal (one_of op.Len items) (number block_bytes)) ≡ true = subst (λ (x : TermTree). is_known h.facts (equal (one_of op.Len x) (number block_bytes)) ≡ true) last long in
    let mid = slice_set h.atoms m.place (block_of kind.Master d address items) in
    let after = slice_set mid l.place (block_of kind.Lease d address items) in
    let other : l.place ≢ m.place = (λ q. kinds_apart key key master.v lease.v (sym master.at ∙ ap (slice_get h.atoms) (sym q) ∙ lease.at)) in
    let first = replaced h.atoms m.place (block_of kind.Master d address master.v) (block_of kind.Master d address items) master.at in
    let second = replaced mid l.place (block_of kind.Lease d address lease.v) (block_of kind.Lease d address items) (set_elsewhere h.atoms m.place l.place (block_of kind.Master d address items) other ∙ lease.at) in
    let gives = writes_law o h d address _ (writes d dd a e address master.v lease.v s items found.frozen c.others mid after place rest may todo d_term a_term a_sort s_term s_sort
    (sorts found.frozen items c.others found.taken) found.taken
    (λ env valuation facts. (known_true env h.facts _ (all_true env h.facts facts) long_now, (known_true env h.facts _ (all_true env h.facts facts) size, tt))) first second) in
    let locals_are : h.locals ≡ t.path.locals = ap (λ (x : State). x.path.locals) came in
    let slot_atoms = λ (x : TermTree). slice_set (slice_set h.atoms m.place (block_of kind.Master d address x)) l.place (block_of kind.Lease d address x) in
    let atoms_are : after ≡ t.path.atoms = ap slot_atoms (sym last) ∙ ap (λ (x : State). x.path.atoms) came in
    subst (λ (ls : List (Option TermTree)). IsSoundStep o (λ env. SetsBlock d (number_under env address)) h (goes_on h rest ls t.path.atoms ∷ [])) locals_are
    (subst (λ (as_now : List Atom). IsSoundStep o (λ env. SetsBlock d (number_under env address)) h (goes_on h rest h.locals as_now ∷ [])) atoms_are gives)
