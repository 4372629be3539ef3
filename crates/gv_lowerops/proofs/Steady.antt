-- What reads nothing has no temporaries, and is the same behind any number of them.
use Rattle.std.proofs.Common.{◌≡◌, ℕ, ◌+◌, Bool, true, false, ◌&&◌, ◌==◌, if◌then◌else◌, List, [], ◌∷◌, ◌++◌, length, Option, Some, None, refl, sym, ap, ◌∙◌}
use Rattle.gv_base.specs.declared.answers.Place.{Place}
use Rattle.gv_lang.specs.declared.program.LocalKind.{LocalKind}
use Rattle.gv_lang.specs.declared.program.LocalKind.TheVariants as kind
use Rattle.gv_lang.specs.Tree as lang
use Rattle.gv_operands.specs.declared.types.GoType.{GoType}
use Rattle.gv_operands.specs.Types.{own_type_of}
use Rattle.gv_gosyntax.specs.declared.generated.gosyntax_table.TheConstants as class
use Rattle.gv_gotypes.specs.Trees as go
use Rattle.gv_gotypes.specs.Scopes.{Env, name_in, entity_named}
use Rattle.gv_gotypes.specs.Expressions.{operand}
use Rattle.gv_lowering.specs.Operands.{Context, Last, Value, Reads, ReadsMap, Tail, Read, plain, after, settled, settled_by, constant_of, nil_of, variable_in, selected, indexed, one_operand, converted, is_short, has_reads, both, guarded, joined, part_of, tail, low_of, high_of}
use Rattle.gv_lowerops.specs.Short.{IsSteady}

-- ---- lists without items

never_empty : (xs : List lang.Cmd) (y : lang.Cmd) (ys : List lang.Cmd) → xs ++ y ∷ ys ≡ [] → ⊥
never_empty [] y ys h = cc
never_empty (x ∷ xs) y ys h = cc

first_empty : (xs ys : List lang.Cmd) → xs ++ ys ≡ [] → xs ≡ []
first_empty [] ys h = refl
first_empty (x ∷ xs) ys h = absurd cc

second_empty : (xs ys : List lang.Cmd) → xs ++ ys ≡ [] → ys ≡ []
second_empty [] ys h = h
second_empty (x ∷ xs) ys h = absurd cc

none_of : (xs ys : List LocalKind) → xs ≡ [] → ys ≡ [] → xs ++ ys ≡ []
none_of xs ys h k = ap (λ (x : List LocalKind). x ++ ys) h ∙ k

-- ---- what is settled

settled_before : (c : Context) (at : Place) (m : ℕ) (before : List lang.Cmd) (temps : List LocalKind) (l : Last) → (settled_by c at m before temps l).cmds ≡ [] → before ≡ []
settled_before c at m before temps (Value v) h = h
settled_before c at m before temps (Reads k f) h = absurd (never_empty before _ [] h)
settled_before c at m before temps (ReadsMap a b) h = absurd (never_empty before _ [] h)

settled_temps : (c : Context) (at : Place) (m : ℕ) (before : List lang.Cmd) (temps : List LocalKind) (l : Last) → (settled_by c at m before temps l).cmds ≡ [] → (settled_by c at m before temps l).temps ≡ temps
settled_temps c at m before temps (Value v) h = refl
settled_temps c at m before temps (Reads k f) h = absurd (never_empty before _ [] h)
settled_temps c at m before temps (ReadsMap a b) h = absurd (never_empty before _ [] h)

settled_same : (c : Context) (at : Place) (m k : ℕ) (before : List lang.Cmd) (temps : List LocalKind) (l : Last) → (settled_by c at m before temps l).cmds ≡ [] → settled_by c at k before temps l ≡ settled_by c at m before temps l
settled_same c at m k before temps (Value v) h = refl
settled_same c at m k before temps (Reads j f) h = absurd (never_empty before _ [] h)
settled_same c at m k before temps (ReadsMap a b) h = absurd (never_empty before _ [] h)

-- What is made behind m temporaries and before the place is known.
record IsStill (f : ℕ → Tail) (m : ℕ) : Type 0 where
  temps : (f m).temps ≡ []
  same : (k : ℕ) → f k ≡ f m

abbrev Stays : Context → Place → (ℕ → Tail) → Type 0
Stays c at f = (m : ℕ) → (settled c at m (f m)).cmds ≡ [] → IsStill f m

steady_from : (c : Context) (at : Place) (f : ℕ → Tail) → Stays c at f → IsSteady (λ m. settled c at m (f m))
steady_from c at f h = λ m e. let s = h m e in record {
  temps = settled_temps c at m (f m).before (f m).temps (f m).last e ∙ s.temps;
  same = λ k. ap (λ (t : Tail). settled c at k t) (s.same k) ∙ settled_same c at m k (f m).before (f m).temps (f m).last e;
}

plain_stays : (c : Context) (at : Place) (v : lang.Expr) → Stays c at (λ m. plain v)
plain_stays c at v = λ m e. record { temps = refl; same = λ k. refl }

constant_stays : (c : Context) (at : Place) (o : Option lang.Expr) (f : ℕ → Tail) → Stays c at f → Stays c at (λ m. elim o as (λ _. Tail) [ None ↦ f m | Some v ↦ plain v ])
constant_stays c at None f h = h
constant_stays c at (Some v) f h = plain_stays c at v

-- ---- one part, two, three

one_stays : (c : Context) (at : Place) (r : ℕ → Read) (g : Read → Last) → IsSteady r → Stays c at (λ m. after (r m) (g (r m)))
one_stays c at r g h = λ m e. let s = h m (settled_before c at m (r m).cmds (r m).temps (g (r m)) e) in record {
  temps = s.temps;
  same = λ k. ap (λ (x : Read). after x (g x)) (s.same k);
}

abbrev two_of : (Read → Read → Last) → Read → Read → Tail
two_of g r s = record { before = r.cmds ++ s.cmds; temps = r.temps ++ s.temps; last = g r s }

abbrev behind_first : (ℕ → Read) → (ℕ → Read) → ℕ → Read
behind_first r s m = s (m + length (r m).temps)

two_stay : (c : Context) (at : Place) (r s : ℕ → Read) (g : Read → Read → Last) → IsSteady r → IsSteady s → Stays c at (λ m. two_of g (r m) (behind_first r s m))
two_stay c at r s g h j = λ m e.
    let q = settled_before c at m ((r m).cmds ++ (behind_first r s m).cmds) ((r m).temps ++ (behind_first r s m).temps) (g (r m) (behind_first r s m)) e in
    let a = h m (first_empty (r m).cmds (behind_first r s m).cmds q) in
    let b = j (m + length (r m).temps) (second_empty (r m).cmds (behind_first r s m).cmds q) in
    record {
      temps = none_of (r m).temps (behind_first r s m).temps a.temps b.temps;
      same = λ k. ap (λ (x : Read). two_of g x (behind_first r s k)) (a.same k) ∙ ap (λ (x : Read). two_of g (r m) x) (b.same (k + length (r k).temps));
    }

abbrev high_at : (ℕ → Read) → (ℕ → Read) → (lang.Expr → ℕ → Read) → ℕ → Read
high_at r low high m = high (r m).value (m + length (r m).temps + length (behind_first r low m).temps)

part_stays : (c : Context) (at : Place) (r low : ℕ → Read) (high : lang.Expr → ℕ → Read) → IsSteady r → IsSteady low → ((v : lang.Expr) → IsSteady (high v)) → Stays c at (λ m. part_of (r m) (behind_first r low m) (high_at r low high m))
part_stays c at r low high h j i = λ m e.
    let whole = part_of (r m) (behind_first r low m) (high_at r low high m) in
    let q = settled_before c at m whole.before whole.temps whole.last e in
    let p = second_empty (r m).cmds ((behind_first r low m).cmds ++ (high_at r low high m).cmds) q in
    let a = h m (first_empty (r m).cmds ((behind_first r low m).cmds ++ (high_at r low high m).cmds) q) in
    let b = j (m + length (r m).temps) (first_empty (behind_first r low m).cmds (high_at r low high m).cmds p) in
    let d = i (r m).value (m + length (r m).temps + length (behind_first r low m).temps) (second_empty (behind_first r low m).cmds (high_at r low high m).cmds p) in
    record {
      temps = none_of (r m).temps ((behind_first r low m).temps ++ (high_at r low high m).temps) a.temps (none_of (behind_first r low m).temps (high_at r low high m).temps b.temps d.temps);
      same = λ k.
          ap (λ (x : Read). part_of x (behind_first r low k) (high_at r low high k)) (a.same k)
          ∙ (ap (λ (x : Read). part_of (r m) x (high_at r low high k)) (b.same (k + length (r k).temps))
          ∙ (ap (λ (x : Read). part_of (r m) (behind_first r low m) (high x.value (k + length (r k).temps + length (behind_first r low k).temps))) (a.same k)
          ∙ ap (λ (x : Read). part_of (r m) (behind_first r low m) x) (d.same (k + length (r k).temps + length (behind_first r low k).temps))));
    }

pick_stays : (c : Context) (at : Place) (b : Bool) (f g : ℕ → Tail) → Stays c at f → Stays c at g → Stays c at (λ m. if b then f m else g m)
pick_stays c at true f g h j = h
pick_stays c at false f g h j = j

converted_stays : (c : Context) (at : Place) (word : ℕ) (t : ℕ → Tail) → Stays c at t → Stays c at (λ m. converted word (t m) (settled c at m (t m)))
converted_stays c at word t h =
    let r : ℕ → Read = λ m. settled c at m (t m) in
    let s : IsSteady r = steady_from c at t h in
    let bytes : Read → Last = λ (x : Read). Reads kind.Word (λ (y : ℕ). lang.Rem y x.value (lang.Number 256)) in
    let lengths : Read → Last = λ (x : Read). Reads kind.Word (λ (y : ℕ). lang.Len y x.value) in
    pick_stays c at (word == class.CLASS_UINT64) t (λ m. if word == class.CLASS_BYTE then after (r m) (bytes (r m)) else after (r m) (lengths (r m))) h
    (pick_stays c at (word == class.CLASS_BYTE) (λ m. after (r m) (bytes (r m))) (λ m. after (r m) (lengths (r m))) (one_stays c at r bytes s) (one_stays c at r lengths s))

-- ---- `&&` and `||`

abbrev wants_if : ℕ → (ℕ → Read) → Read → ℕ → Bool
wants_if sign s r m = is_short sign && has_reads (s (m + length r.temps))

guarded_reads : (c : Context) (at : Place) (n sign : ℕ) (r s : Read) → (guarded c at n sign r s).before ≡ [] → ⊥
guarded_reads c at n sign r s h = never_empty r.cmds _ _ h

not_first : (b : Bool) (x y : Tail) → (x.before ≡ [] → ⊥) → (if b then x else y).before ≡ [] → b ≡ false
not_first true x y h e = absurd (h e)
not_first false x y h e = refl

is_second : (b : Bool) (x y : Tail) → b ≡ false → (if b then x else y) ≡ y
is_second true x y h = absurd cc
is_second false x y h = refl

is_first : (b : Bool) (x y : Tail) → b ≡ true → (if b then x else y) ≡ x
is_first true x y h = refl
is_first false x y h = absurd cc

joined_stay : (c : Context) (at : Place) (sign : ℕ) (r s : ℕ → Read) → IsSteady r → IsSteady s → Stays c at (λ m. joined c at m sign (r m) s)
joined_stay c at sign r s h j = λ m e.
    let whole = joined c at m sign (r m) s in
    let within = guarded c at m sign (r m) (s (m + length (r m).temps + 1)) in
    let plainly = both sign (r m) (behind_first r s m) in
    let q = settled_before c at m whole.before whole.temps whole.last e in
    let w = not_first (wants_if sign s (r m) m) within plainly (λ x. guarded_reads c at m sign (r m) (s (m + length (r m).temps + 1)) x) q in
    let is : whole ≡ plainly = is_second (wants_if sign s (r m) m) within plainly w in
    let p : plainly.before ≡ [] = ap (λ (t : Tail). t.before) (sym is) ∙ q in
    let a = h m (first_empty (r m).cmds (behind_first r s m).cmds p) in
    let b = j (m + length (r m).temps) (second_empty (r m).cmds (behind_first r s m).cmds p) in
    record {
      temps = ap (λ (t : Tail). t.temps) is ∙ none_of (r m).temps (behind_first r s m).temps a.temps b.temps;
      same = λ k.
          is_second (wants_if sign s (r k) k) (guarded c at k sign (r k) (s (k + length (r k).temps + 1))) (both sign (r k) (behind_first r s k))
          (ap (λ (x : Read). is_short sign && has_reads x) (b.same (k + length (r k).temps)) ∙ w)
          ∙ (ap (λ (x : Read). both sign x (behind_first r s k)) (a.same k)
          ∙ (ap (λ (x : Read). both sign (r m) x) (b.same (k + length (r k).temps)) ∙ sym is));
    }

-- ---- every operand

mutual
  tail_stays : (c : Context) (at : Place) (env : Env) (e : go.Expr) (want : Option GoType) → Stays c at (λ m. tail c at env e want m)
  tail_stays c at env (go.Constant t) want = constant_stays c at (constant_of (operand env (go.Constant t)).class) (λ m. plain (nil_of want)) (plain_stays c at (nil_of want))
  tail_stays c at env (go.Name t) want =
      constant_stays c at (constant_of (operand env (go.Name t)).class) (λ m. plain (variable_in c (entity_named env (name_in env.source t)))) (plain_stays c at (variable_in c (entity_named env (name_in env.source t))))
  tail_stays c at env (go.Paren t e) want = tail_stays c at env e want
  tail_stays c at env (go.Convert w e) want =
      constant_stays c at (constant_of (operand env (go.Convert w e)).class) (λ m. converted w.class (tail c at env e None m) (settled c at m (tail c at env e None m)))
      (converted_stays c at w.class (λ m. tail c at env e None m) (tail_stays c at env e None))
  tail_stays c at env (go.Select e t) want =
      let r : ℕ → Read = λ m. settled c at m (tail c at env e None m) in
      let g : Read → Last = λ x. selected env t (operand env e).class x.value in
      constant_stays c at (constant_of (operand env (go.Select e t)).class) (λ m. after (r m) (g (r m))) (one_stays c at r g (steady_from c at (λ m. tail c at env e None m) (tail_stays c at env e None)))
  tail_stays c at env (go.Index e i) want =
      let r : ℕ → Read = λ m. settled c at m (tail c at env e None m) in
      let s : ℕ → Read = λ m. settled c at m (tail c at env i None m) in
      let g : Read → Read → Last = λ x y. indexed (own_type_of (operand env e).class) x.value y.value in
      two_stay c at r s g (steady_from c at (λ m. tail c at env e None m) (tail_stays c at env e None)) (steady_from c at (λ m. tail c at env i None m) (tail_stays c at env i None))
  tail_stays c at env (go.Slice e a b) want =
      let r : ℕ → Read = λ m. settled c at m (tail c at env e None m) in
      part_stays c at r (λ m. low_of c at env a m) (λ v m. high_of c at env b v m) (steady_from c at (λ m. tail c at env e None m) (tail_stays c at env e None)) (low_steady c at env a) (high_steady c at env b)
  tail_stays c at env (go.Unary t e) want =
      let r : ℕ → Read = λ m. settled c at m (tail c at env e None m) in
      let g : Read → Last = λ x. Value (one_operand t.class x.value) in
      constant_stays c at (constant_of (operand env (go.Unary t e)).class) (λ m. after (r m) (g (r m))) (one_stays c at r g (steady_from c at (λ m. tail c at env e None m) (tail_stays c at env e None)))
  tail_stays c at env (go.Binary a t b) want =
      let r : ℕ → Read = λ m. settled c at m (tail c at env a None m) in
      let s : ℕ → Read = λ m. settled c at m (tail c at env b None m) in
      constant_stays c at (constant_of (operand env (go.Binary a t b)).class) (λ m. joined c at m t.class (r m) s)
      (joined_stay c at t.class r s (steady_from c at (λ m. tail c at env a None m) (tail_stays c at env a None)) (steady_from c at (λ m. tail c at env b None m) (tail_stays c at env b None)))

  low_steady : (c : Context) (at : Place) (env : Env) (b : go.Bound) → IsSteady (λ m. low_of c at env b m)
  low_steady c at env go.left_out = λ m e. record { temps = refl; same = λ k. refl }
  low_steady c at env (go.bound e) = steady_from c at (λ m. tail c at env e None m) (tail_stays c at env e None)

  high_steady : (c : Context) (at : Place) (env : Env) (b : go.Bound) (v : lang.Expr) → IsSteady (λ m. high_of c at env b v m)
  high_steady c at env go.left_out v = λ m e. absurd cc
  high_steady c at env (go.bound e) v = steady_from c at (λ m. tail c at env e None m) (tail_stays c at env e None)

-- an operand that is no whole right side
pub read_steady : (c : Context) (at : Place) (env : Env) (e : go.Expr) (want : Option GoType) → IsSteady (λ m. settled c at m (tail c at env e want m))
read_steady c at env e want = steady_from c at (λ m. tail c at env e want m) (tail_stays c at env e want)

-- ---- how `&&` and `||` go on

reads_none : (r : Read) → r.cmds ≡ [] → has_reads r ≡ false
reads_none r h = ap (λ (x : List lang.Cmd). elim x as (λ _. Bool) [ [] ↦ false | c ∷ cs ↦ true ]) h

reads_some : (cs : List lang.Cmd) → (cs ≡ [] → ⊥) → (elim cs as (λ _. Bool) [ [] ↦ false | c ∷ ds ↦ true ]) ≡ true
reads_some [] h = absurd (h refl)
reads_some (c ∷ cs) h = refl

never : (b : Bool) → (b && false) ≡ false
never true = refl
never false = refl

-- where the right operand reads nothing
pub joined_both : (c : Context) (at : Place) (n sign : ℕ) (r : Read) (s : ℕ → Read) (m : ℕ) → IsSteady s → (s m).cmds ≡ [] → both sign r (s m) ≡ joined c at n sign r s
joined_both c at n sign r s m j e =
    let b = j m e in
    let k = n + length r.temps in
    let none : is_short sign && has_reads (s k) ≡ false =
    ap (λ (x : Bool). is_short sign && x) (ap (λ (x : Read). has_reads x) (b.same k) ∙ reads_none (s m) e) ∙ never (is_short sign) in
    ap (λ (x : Read). both sign r x) (sym (b.same k)) ∙ sym (is_second (wants_if sign s r n) (guarded c at n sign r (s (n + length r.temps + 1))) (both sign r (s k)) none)

-- and where it reads
pub joined_guarded : (c : Context) (at : Place) (n sign : ℕ) (r : Read) (s : ℕ → Read) → is_short sign ≡ true → IsSteady s → ((s (n + length r.temps + 1)).cmds ≡ [] → ⊥)
    → guarded c at n sign r (s (n + length r.temps + 1)) ≡ joined c at n sign r s
joined_guarded c at n sign r s h j e =
    let k = n + length r.temps in
    let some : has_reads (s k) ≡ true = reads_some (s k).cmds (λ x. e (ap (λ (y : Read). y.cmds) ((j k x).same (k + 1)) ∙ x)) in
    let all : is_short sign && has_reads (s k) ≡ true = ap (λ (x : Bool). x && has_reads (s k)) h ∙ some in
    sym (is_first (wants_if sign s r n) (guarded c at n sign r (s (n + length r.temps + 1))) (both sign r (s k)) all)

-- an operator that takes both
pub joined_plain : (c : Context) (at : Place) (n sign : ℕ) (r : Read) (s : ℕ → Read) → is_short sign ≡ false → both sign r (s (n + length r.temps)) ≡ joined c at n sign r s
joined_plain c at n sign r s h =
    sym (is_second (wants_if sign s r n) (guarded c at n sign r (s (n + length r.temps + 1))) (both sign r (s (n + length r.temps))) (ap (λ (x : Bool). x && has_reads (s (n + length r.temps))) h))
