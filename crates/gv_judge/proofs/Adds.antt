-- What a turn adds, and what is added after it.
use Rattle.std.proofs.Common.{◌≡◌, Bool, true, eqb, eqb-true, ℕ, ◌+◌, ◌<◌, zero, suc, List, [], ◌∷◌, ◌++◌, map, length, get_or, drop, Option, Some, None, refl, sym, ap, subst, ◌∙◌, arith}
use Rattle.std.specs.Prelude.{slice_get}
use Rattle.std.proofs.lemmas.Option.{slice_get-get_or}
use Rattle.gv_terms.specs.declared.tree.TermTree.{TermTree}
use Rattle.gv_terms.specs.declared.value.Value.{Value}
use Rattle.gv_terms.specs.declared.value.Binding.{Binding}
use Rattle.gv_atomic.specs.declared.spec.Pick.{Pick}
use Rattle.gv_atomic.specs.declared.spec.Op.{Op}
use Rattle.gv_atomic.specs.declared.spec.Spec.{Spec}
use Rattle.gv_atomic.specs.Specification.{fields_bound, op_before}
use Rattle.gv_spec.specs.declared.entry.Entry as held_entry
use Rattle.gv_spec.specs.Move as move
use Rattle.gv_spec.specs.Move.{Move}
use Rattle.gv_spec.specs.Atomic.{atomic_of}
use Rattle.gv_spec.specs.History.{entry_of}
use Rattle.gv_judge.specs.declared.calls.Waiting.{Waiting}
use Rattle.gv_judge.specs.Search.{showing}
use Rattle.gv_judge.specs.Choosing.{allowed_lists, lists_of_op, choosing_of}
use Rattle.gv_judge.specs.Later.{first_list, later_lists, lists_from}
use Rattle.gv_judge.specs.Turn.{acts_from, later_of_op}
use Rattle.gv_judge.proofs.Later.{first_of_all}

pub none_at : {A : Type 0} (xs : List A) (i : ℕ) → slice_get xs i ≡ None → drop i xs ≡ []
none_at [] zero e = refl
none_at [] (suc i) e = refl
none_at (x ∷ xs) zero e = absurd (let clash = e in cc)
none_at (x ∷ xs) (suc i) e = none_at xs i e

pub drop_at : {A : Type 0} (xs : List A) (i : ℕ) (x : A) → slice_get xs i ≡ Some x → drop i xs ≡ x ∷ drop (suc i) xs
drop_at [] zero x e = absurd (let clash = e in cc)
drop_at [] (suc i) x e = absurd (let clash = e in cc)
drop_at (y ∷ xs) zero x e = (let same : y ≡ x = cc in ap (λ z. z ∷ xs) same)
drop_at (y ∷ xs) (suc i) x e = drop_at xs i x e

drop_one : {A : Type 0} (xs : List A) (i : ℕ) (x : A) → slice_get xs i ≡ Some x → drop i xs ≡ x ∷ drop (i + 1) xs
drop_one xs i x e = (let one : suc i ≡ i + 1 = omega arith in drop_at xs i x e ∙ ap (λ k. x ∷ drop k xs) one)

-- what was read at a place
pub read_at : {A : Type 0} (xs : List A) (i : ℕ) (x : A) → i < length xs → x ≡ get_or xs i x → slice_get xs i ≡ Some x
read_at xs i x lt e = slice_get-get_or xs i x lt ∙ ap Some (sym e)

module _ (s : Spec) (fields : List Value) where
  pub no_act : (calls : List Waiting) (i : ℕ) → slice_get calls i ≡ None → [] ≡ acts_from s fields (drop i calls)
  no_act calls i e = ap (acts_from s fields) (sym (none_at calls i e))

  pub act_first : (calls : List Waiting) (i : ℕ) (c : Waiting) (o : Op) (zeros : List ℕ) → slice_get calls i ≡ Some c → slice_get s.ops c.op ≡ Some o → zeros ≡ first_list o.picks
      → move.Act c.number zeros ∷ (map (λ cs. move.Act c.number cs) (later_of_op s (slice_get s.ops c.op) c.args.now fields zeros) ++ acts_from s fields (drop (i + 1) calls))
      ≡ acts_from s fields (drop i calls)
  act_first calls i c o zeros at op first =
      let before = op_before s o c.args.now fields in
      let rest = acts_from s fields (drop (i + 1) calls) in
      let lists : zeros ∷ later_of_op s (slice_get s.ops c.op) c.args.now fields zeros ≡ lists_of_op s (slice_get s.ops c.op) c.args.now fields =
      ap (λ x. zeros ∷ later_of_op s x c.args.now fields zeros) op
      ∙ ap (λ z. z ∷ later_lists s.store before o.picks z) first ∙ sym (first_of_all s.store before o.picks)
      ∙ ap (λ x. lists_of_op s x c.args.now fields) (sym op) in
      ap (λ ls. map (λ cs. move.Act c.number cs) ls ++ rest) lists ∙ ap (acts_from s fields) (sym (drop_one calls i c at))

  pub boot_first : (calls : List Waiting) (zeros : List ℕ) → zeros ≡ first_list s.crash_picks
      → move.Boot zeros ∷ (map (λ cs. move.Boot cs) (later_lists s.store (fields_bound s.fields fields) s.crash_picks zeros) ++ acts_from s fields calls)
      ≡ map (λ cs. move.Boot cs) (allowed_lists s.store (fields_bound s.fields fields) s.crash_picks) ++ acts_from s fields calls
  boot_first calls zeros first =
      ap (λ ls. map (λ cs. move.Boot cs) ls ++ acts_from s fields calls)
      (ap (λ z. z ∷ later_lists s.store (fields_bound s.fields fields) s.crash_picks z) first ∙ sym (first_of_all s.store (fields_bound s.fields fields) s.crash_picks))

  -- the entry at a place is shown first
  pub shown_at : (history : List held_entry.Entry) (i : ℕ) (e : held_entry.Entry) → slice_get history i ≡ Some e
      → showing (atomic_of s) (choosing_of s) fields (map entry_of (drop i history)) ≡ showing (atomic_of s) (choosing_of s) fields (entry_of e ∷ map entry_of (drop (i + 1) history))
  shown_at history i e at = ap (λ es. showing (atomic_of s) (choosing_of s) fields (map entry_of es)) (drop_one history i e at)

  pub none_shown : (history : List held_entry.Entry) (i : ℕ) → slice_get history i ≡ None → showing (atomic_of s) (choosing_of s) fields (map entry_of (drop i history)) ≡ []
  none_shown history i at = ap (λ es. showing (atomic_of s) (choosing_of s) fields (map entry_of es)) (none_at history i at)

module _ (s : Spec) (fields : List Value) (c : Waiting) where
  -- a list of choices of the call's operation, where there is one, and those that come after it
  abbrev pub from_op : Option (List ℕ) → List (List ℕ)
  from_op None = []
  from_op (Some choices) = choices ∷ later_of_op s (slice_get s.ops c.op) c.args.now fields choices

  pub later_op : (o : Op) (b : List Binding) (picks : List Pick) (choices : List ℕ) (out : Option (List ℕ)) → slice_get s.ops c.op ≡ Some o → picks ≡ o.picks
      → b ≡ op_before s o c.args.now fields → later_lists s.store b picks choices ≡ lists_from s.store b picks out
      → later_of_op s (slice_get s.ops c.op) c.args.now fields choices ≡ from_op out
  later_op o b picks choices out op same before e =
      let told : later_lists s.store (op_before s o c.args.now fields) o.picks choices ≡ lists_from s.store (op_before s o c.args.now fields) o.picks out =
      subst (λ ps. later_lists s.store (op_before s o c.args.now fields) ps choices ≡ lists_from s.store (op_before s o c.args.now fields) ps out) same
      (subst (λ x. later_lists s.store x picks choices ≡ lists_from s.store x picks out) before e) in
      ap (λ x. later_of_op s x c.args.now fields choices) op ∙ told ∙ same_from out
    where
      same_from : (out : Option (List ℕ)) → lists_from s.store (op_before s o c.args.now fields) o.picks out ≡ from_op out
      same_from None = refl
      same_from (Some cs) = ap (λ x. cs ∷ later_of_op s x c.args.now fields cs) (sym op)

pub none_left : {A : Type 0} (xs : List A) (b : Bool) → b ≡ eqb (length xs) 0 → b ≡ true → xs ≡ []
none_left [] b e h = refl
none_left (x ∷ xs) b e h = let none : length (x ∷ xs) ≡ 0 = eqb-true (length (x ∷ xs)) 0 (sym e ∙ h) in absurd (omega (arith, none))

-- an operation that picks nothing has no other list of choices
pub no_later_op : (s : Spec) (fields : List Value) (c : Waiting) (o : Op) (choices : List ℕ) → slice_get s.ops c.op ≡ Some o → o.picks ≡ []
    → later_of_op s (slice_get s.ops c.op) c.args.now fields choices ≡ []
no_later_op s fields c o choices op none =
    ap (λ x. later_of_op s x c.args.now fields choices) op ∙ ap (λ ps. later_lists s.store (op_before s o c.args.now fields) ps choices) none

-- the lists that come next, told of the same bindings
pub lists_moved : (ts : List TermTree) (b d : List Binding) (picks : List Pick) (choices : List ℕ) (o : Option (List ℕ)) → b ≡ d → later_lists ts b picks choices ≡ lists_from ts b picks o
    → later_lists ts d picks choices ≡ lists_from ts d picks o
lists_moved ts b d picks choices o e h = subst (λ x. later_lists ts x picks choices ≡ lists_from ts x picks o) e h
