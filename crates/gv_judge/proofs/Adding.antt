-- What is added to a node, told from the node that the program holds.
use Rattle.std.proofs.Common.{◌≡◌, ◌⊎◌, ℕ, ◌+◌, ◌<◌, ◌≤◌, zero, suc, cond, List, [], ◌∷◌, ◌++◌, map, length, take, drop, Some, None, refl, sym, ap, subst, ◌∙◌, arith, inl, inr}
use Rattle.std.specs.Prelude.{slice_get}
use Rattle.std.specs.List.{flat_map}
use Rattle.gv_terms.specs.declared.value.Value.{Value}
use Rattle.gv_atomic.specs.declared.spec.Spec.{Spec}
use Rattle.gv_spec.specs.declared.entry.Entry as held_entry
use Rattle.gv_spec.specs.Move as move
use Rattle.gv_spec.specs.Entry.{Entry}
use Rattle.gv_spec.specs.Move.{Move}
use Rattle.gv_spec.specs.Atomic.{atomic_of}
use Rattle.gv_spec.specs.History.{entry_of}
use Rattle.gv_spec.specs.Walks.{Standing, NeverCalled, Called, Acted, Answered, Dropped, WalkState}
use Rattle.gv_judge.specs.declared.calls.Waiting.{Waiting}
use Rattle.gv_judge.specs.declared.node.Node.{Node}
use Rattle.gv_judge.specs.Choosing.{choosing_of, lists_of_op}
use Rattle.gv_judge.specs.Search.{count_up, acts_of, showing, additions}
use Rattle.gv_judge.specs.Room.{IsBound}
use Rattle.gv_judge.specs.Calls.{waiting_under, AreCalls}
use Rattle.gv_judge.specs.Node.{to_do, StandsAt}
use Rattle.gv_judge.specs.Turn.{acts_from}
use Rattle.gv_judge.proofs.CallLists.{by_test, same_test, other_test, none_under, above}
use Rattle.gv_judge.proofs.Standing.{does}

module _ (s : Spec) (fields : List Value) (table : ℕ → Standing Value) where
  no_acts : (n : ℕ) (c : Standing Value) → to_do c ≡ None → acts_of (atomic_of s) (choosing_of s) fields n c ≡ []
  no_acts n NeverCalled h = refl
  no_acts n (Called op args) h = absurd (let clash = h in cc)
  no_acts n (Acted reply) h = refl
  no_acts n Answered h = refl
  no_acts n Dropped h = refl

  -- the acts of the calls under the numbers from one on are those of the calls that wait
  acts_all : (ops many low : ℕ) (calls : List Waiting) → AreCalls ops low calls → ((m : ℕ) → low ≤ m → to_do (table m) ≡ waiting_under calls m)
      → ((m op : ℕ) (args : List Value) → waiting_under calls m ≡ Some (op, args) → m < low + many)
      → flat_map (λ n. acts_of (atomic_of s) (choosing_of s) fields n (table n)) (count_up many low) ≡ acts_from s fields calls
  acts_all ops zero low [] all stands below = refl
  acts_all ops zero low (c ∷ calls) all stands below =
      absurd (let lt = below c.number c.op c.args.now (ap (λ b. cond b (Some (c.op, c.args.now)) (waiting_under calls c.number)) (same_test c.number c.number refl)) in let ge = all.0 in omega (arith, lt, ge))
  acts_all ops (suc many) low [] all stands below =
      ap (λ l. l ++ flat_map (λ n. acts_of (atomic_of s) (choosing_of s) fields n (table n)) (count_up many (low + 1))) (no_acts low (table low) (stands low (omega arith)))
      ∙ acts_all ops many (low + 1) [] tt (λ m h. stands m (omega (arith, h))) (λ m op args e. absurd (let clash = e in cc))
  acts_all ops (suc many) low (c ∷ calls) all stands below =
      go (by_test low c.number (λ b. (low ≡ c.number) ⊎ (low ≡ c.number → ⊥)) inl inr)
      (λ a t b. acts_all ops many (low + 1) calls a t b) (λ a t b. acts_all ops many (low + 1) (c ∷ calls) a t b)
    where
      behind : (m : ℕ) → c.number + 1 ≤ m → waiting_under (c ∷ calls) m ≡ waiting_under calls m
      behind m le = ap (λ b. cond b (Some (c.op, c.args.now)) (waiting_under calls m)) (other_test m c.number (λ e. omega (arith, e, le)))

      go : (low ≡ c.number) ⊎ (low ≡ c.number → ⊥)
          → (AreCalls ops (low + 1) calls → ((m : ℕ) → low + 1 ≤ m → to_do (table m) ≡ waiting_under calls m)
          → ((m op : ℕ) (args : List Value) → waiting_under calls m ≡ Some (op, args) → m < low + 1 + many)
          → flat_map (λ n. acts_of (atomic_of s) (choosing_of s) fields n (table n)) (count_up many (low + 1)) ≡ acts_from s fields calls)
          → (AreCalls ops (low + 1) (c ∷ calls) → ((m : ℕ) → low + 1 ≤ m → to_do (table m) ≡ waiting_under (c ∷ calls) m)
          → ((m op : ℕ) (args : List Value) → waiting_under (c ∷ calls) m ≡ Some (op, args) → m < low + 1 + many)
          → flat_map (λ n. acts_of (atomic_of s) (choosing_of s) fields n (table n)) (count_up many (low + 1)) ≡ acts_from s fields (c ∷ calls))
          → acts_of (atomic_of s) (choosing_of s) fields low (table low) ++ flat_map (λ n. acts_of (atomic_of s) (choosing_of s) fields n (table n)) (count_up many (low + 1)) ≡ acts_from s fields (c ∷ calls)
      go (inl e) short long =
          let stood : table low ≡ Called c.op c.args.now = does (table low) c.op c.args.now (stands low (omega arith) ∙ ap (λ b. cond b (Some (c.op, c.args.now)) (waiting_under calls low)) (same_test low c.number e)) in
          let own : acts_of (atomic_of s) (choosing_of s) fields low (table low) ≡ map (λ cs. move.Act c.number cs) (lists_of_op s (slice_get s.ops c.op) c.args.now fields) =
          ap (acts_of (atomic_of s) (choosing_of s) fields low) stood ∙ ap (λ n. map (λ cs. move.Act n cs) (lists_of_op s (slice_get s.ops c.op) c.args.now fields)) e in
          let later = short (subst (λ k. AreCalls ops (k + 1) calls) (sym e) all.2)
          (λ m h. stands m (omega (arith, h)) ∙ behind m (omega (arith, h, e)))
          (λ m op args f. (let high = above ops (c.number + 1) calls m op args all.2 f in let lt = below m op args (behind m high ∙ f) in omega (arith, lt))) in
          ap (λ l. l ++ flat_map (λ n. acts_of (atomic_of s) (choosing_of s) fields n (table n)) (count_up many (low + 1))) own
          ∙ ap (λ l. map (λ cs. move.Act c.number cs) (lists_of_op s (slice_get s.ops c.op) c.args.now fields) ++ l) later
      go (inr d) short long =
          let ge = all.0 in
          let higher : AreCalls ops (low + 1) (c ∷ calls) = (omega (arith, ge, d), all.1, all.2) in
          let none : waiting_under (c ∷ calls) low ≡ None = none_under ops (low + 1) (c ∷ calls) low higher (omega arith) in
          ap (λ l. l ++ flat_map (λ n. acts_of (atomic_of s) (choosing_of s) fields n (table n)) (count_up many (low + 1))) (no_acts low (table low) (stands low (omega arith) ∙ none))
          ∙ long higher (λ m h. stands m (omega (arith, h))) (λ m op args f. (let lt = below m op args f in omega (arith, lt)))

map_drop : (before left : List (Entry Value)) (history : List held_entry.Entry) → map entry_of history ≡ before ++ left → map entry_of (drop (length before) history) ≡ left
map_drop [] left history e = e
map_drop (b ∷ before) left [] e = absurd (let clash = e in cc)
map_drop (b ∷ before) left (h ∷ history) e = map_drop before left history cc

map_take : (before left : List (Entry Value)) (history : List held_entry.Entry) → map entry_of history ≡ before ++ left → before ≡ map entry_of (take (length before) history)
map_take [] left history e = refl
map_take (b ∷ before) left [] e = absurd (let clash = e in cc)
map_take (b ∷ before) left (h ∷ history) e = (let first : b ≡ entry_of h = cc in ap (λ l. b ∷ l) (map_take before left history cc) ∙ ap (λ x. x ∷ map entry_of (take (length before) history)) first)

length_map : (h : List held_entry.Entry) → length (map entry_of h) ≡ length h
length_map [] = refl
length_map (x ∷ h) = ap suc (length_map h)

length_parts : (xs ys : List (Entry Value)) → length (xs ++ ys) ≡ length xs + length ys
length_parts [] ys = omega arith
length_parts (x ∷ xs) ys = (let r = length_parts xs ys in omega (arith, r))

module _ (s : Spec) (history : List held_entry.Entry) (before left : List (Entry Value)) (n : Node) (w : WalkState (List Value) Value) (bound : ℕ) where
  -- what is added first is what may be added
  pub first_is_all : map entry_of history ≡ before ++ left → StandsAt s before n w → IsBound bound w left
      → showing (atomic_of s) (choosing_of s) n.fields.values (map entry_of (drop n.place history)) ++ acts_from s n.fields.values n.waiting.items
      ≡ additions (atomic_of s) (choosing_of s) bound w left
  first_is_all split stands b =
      let rest : map entry_of (drop n.place history) ≡ left = ap (λ k. map entry_of (drop k history)) stands.place ∙ map_drop before left history split in
      let acts : flat_map (λ k. acts_of (atomic_of s) (choosing_of s) n.fields.values k (w.table k)) (count_up bound 0) ≡ acts_from s n.fields.values n.waiting.items =
      acts_all s n.fields.values w.table (length s.ops) bound 0 n.waiting.items stands.ready (λ m h. stands.waiting m)
      (λ m op args e. (let lt = b.table m op args (does (w.table m) op args (stands.waiting m ∙ e)) in omega (arith, lt))) in
      ap (λ l. showing (atomic_of s) (choosing_of s) n.fields.values l ++ acts_from s n.fields.values n.waiting.items) rest
      ∙ ap (λ l. showing (atomic_of s) (choosing_of s) n.fields.values left ++ l) (sym acts)
      ∙ ap (λ f. showing (atomic_of s) (choosing_of s) f left ++ flat_map (λ k. acts_of (atomic_of s) (choosing_of s) f k (w.table k)) (count_up bound 0)) (sym stands.fields)

  pub shown_before : map entry_of history ≡ before ++ left → StandsAt s before n w → before ≡ map entry_of (take n.place history)
  shown_before split stands = map_take before left history split ∙ ap (λ k. map entry_of (take k history)) (sym stands.place)

  pub place_within : map entry_of history ≡ before ++ left → StandsAt s before n w → n.place ≤ length history
  place_within split stands =
      let long : length (map entry_of history) ≡ length (before ++ left) = ap length split in
      let maps = length_map history in
      let parts = length_parts before left in
      let p = stands.place in
      omega (arith, long, maps, parts, p)
