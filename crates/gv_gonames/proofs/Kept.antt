-- What a table of scopes keeps, step by step.
use Rattle.std.proofs.Common.{◌≡◌, ℕ, suc, ◌<◌, ◌≤◌, Bool, true, false, cond, ◌==◌, List, [], ◌∷◌, length, Option, Some, None, is_some, ◌⊎◌, inl, inr, refl, sym, ap, ◌∙◌, subst, arith}
use Rattle.std.proofs.lemmas.Bool.{lt-ltb, le-ltb, eq-eqb}
use Rattle.std.specs.Str.{bytes_eq}
use Rattle.std.proofs.lemmas.Slice.Eq.{bytes_eq-Decides}
use Rattle.gv_gotypes.specs.declared.names.Entity.{Entity}
use Rattle.gv_gotypes.specs.declared.names.Found.{Found}
use Rattle.gv_gotypes.specs.Scopes.{Named, Entry, is_here, found_among, from_outside}
use Rattle.gv_gotypes.specs.Scopes as entry
use Rattle.gv_gonames.specs.declared.trail.Local.{Local}
use Rattle.gv_gonames.specs.declared.trail.DeclaredStep.{DeclaredStep}
use Rattle.gv_gonames.specs.declared.trail.Step.{Step}
use Rattle.gv_gonames.specs.declared.trail.Step.TheVariants.{Declared, Opened, Literal, Function}
use Rattle.gv_gonames.specs.Trail.{entries_of, count_blocks, count_literals, local_of, local_in, found_by, is_here_by, flat, IsKept}
use Rattle.gv_gonames.proofs.Lookups.{turned}

-- ---- counts

same_or : {V : Type 0} (b : Bool) (v w : V) (r : Option V) → cond b (Some v) r ≡ Some w → ((b ≡ true) × (v ≡ w)) ⊎ ((b ≡ false) × (r ≡ Some w))
same_or true v w r e = inl (refl, cc)
same_or false v w r e = inr (refl, e)

-- no more literals were opened before a declaration than by now
pub literals_before : (es : List Entry) (name : List ℕ) (l : Local) → local_in es name ≡ Some l → l.literals ≤ count_literals es
literals_before [] name l e = absurd cc
literals_before (entry.Declared n ∷ es) name l e = elim (same_or (bytes_eq n.name name) (local_of es n.entity) l (local_in es name) e) [
  | inl h ↦ subst (λ (x : Local). x.literals ≤ count_literals es) h.1 (omega arith)
  | inr h ↦ literals_before es name l h.1
]
literals_before (entry.Opened ∷ es) name l e = literals_before es name l e
literals_before (entry.Literal ∷ es) name l e = omega (arith, literals_before es name l e)

pub blocks_before : (es : List Entry) (name : List ℕ) (l : Local) → local_in es name ≡ Some l → l.blocks ≤ count_blocks es
blocks_before [] name l e = absurd cc
blocks_before (entry.Declared n ∷ es) name l e = elim (same_or (bytes_eq n.name name) (local_of es n.entity) l (local_in es name) e) [
  | inl h ↦ subst (λ (x : Local). x.blocks ≤ count_blocks es) h.1 (omega arith)
  | inr h ↦ blocks_before es name l h.1
]
blocks_before (entry.Opened ∷ es) name l e = omega (arith, blocks_before es name l e)
blocks_before (entry.Literal ∷ es) name l e = omega (arith, blocks_before es name l e)

-- ---- what a name stands for

passed : (b : Bool) (es : List Entry) (e : Entity) (o : Option Local) (other : Option Entity)
    → found_by (cond b (Some (local_of es e)) o) other (count_literals es) ≡ cond b (Some (record { entity = e; is_outer = false })) (found_by o other (count_literals es))
passed true es e o other = ap (λ (b : Bool). Some (record { entity = e; is_outer = b })) (le-ltb (count_literals es) (count_literals es) (omega arith))
passed false es e o other = refl

outside : (es : List Entry) (name : List ℕ) (other : Option Entity) (o : Option Local) → local_in es name ≡ o → found_by o other (suc (count_literals es)) ≡ from_outside (found_by o other (count_literals es))
outside es name None None e = refl
outside es name (Some x) None e = ap (λ (b : Bool). Some (record { entity = x; is_outer = b })) (lt-ltb 0 (suc (count_literals es)) (omega arith))
outside es name other (Some l) e = ap (λ (b : Bool). Some (record { entity = l.entity; is_outer = b })) (lt-ltb l.literals (suc (count_literals es)) (omega (arith, literals_before es name l e)))

pub found_so : (es : List Entry) (name : List ℕ) (other : Option Entity) → found_by (local_in es name) other (count_literals es) ≡ found_among es other name
found_so [] name None = refl
found_so [] name (Some e) = refl
found_so (entry.Declared n ∷ es) name other = passed (bytes_eq n.name name) es n.entity (local_in es name) other
    ∙ ap (λ (r : Option Found). cond (bytes_eq n.name name) (Some (record { entity = n.entity; is_outer = false })) r) (found_so es name other)
found_so (entry.Opened ∷ es) name other = found_so es name other
found_so (entry.Literal ∷ es) name other = outside es name other (local_in es name) refl ∙ ap from_outside (found_so es name other)

unlike : (m n : ℕ) → m < n → (m == n) ≡ false
unlike m n l = grind (arith, l)

alike : (n : ℕ) → (n == n) ≡ true
alike n = eq-eqb n n refl

met : (b : Bool) (es : List Entry) (e : Entity) (o : Option Local) → is_here_by (cond b (Some (local_of es e)) o) (count_blocks es) ≡ cond b true (is_here_by o (count_blocks es))
met true es e o = alike (count_blocks es)
met false es e o = refl

gone : (es : List Entry) (name : List ℕ) (o : Option Local) → local_in es name ≡ o → is_here_by o (suc (count_blocks es)) ≡ false
gone es name None e = refl
gone es name (Some l) e = unlike l.blocks (suc (count_blocks es)) (omega (arith, blocks_before es name l e))

pub here_so : (es : List Entry) (name : List ℕ) → is_here_by (local_in es name) (count_blocks es) ≡ is_here es name
here_so [] name = refl
here_so (entry.Declared n ∷ es) name = met (bytes_eq n.name name) es n.entity (local_in es name) ∙ ap (λ (b : Bool). cond (bytes_eq n.name name) true b) (here_so es name)
here_so (entry.Opened ∷ es) name = gone es name (local_in es name) refl
here_so (entry.Literal ∷ es) name = gone es name (local_in es name) refl

-- ---- counts have room

pub blocks_room : (ss : List Step) → count_blocks (entries_of ss) ≤ length ss
blocks_room [] = omega arith
blocks_room (Declared d ∷ ss) = omega (arith, blocks_room ss)
blocks_room (Opened ∷ ss) = omega (arith, blocks_room ss)
blocks_room (Literal r ∷ ss) = omega (arith, blocks_room ss)
blocks_room (Function r ∷ ss) = omega (arith, blocks_room ss)

pub literals_room : (ss : List Step) → count_literals (entries_of ss) ≤ length ss
literals_room [] = omega arith
literals_room (Declared d ∷ ss) = omega (arith, literals_room ss)
literals_room (Opened ∷ ss) = omega (arith, literals_room ss)
literals_room (Literal r ∷ ss) = omega (arith, literals_room ss)
literals_room (Function r ∷ ss) = omega (arith, literals_room ss)

-- ---- a declaration, and its end

same_name : (a b : List ℕ) → bytes_eq a b ≡ true → a ≡ b
same_name a b e = (bytes_eq-Decides a b).0 e

abbrev At : Type 0
At = List ℕ → Option (Option Local)

pub kept_declared : (ss : List Step) (at new : At) (blocks literals : ℕ) (d : DeclaredStep) → IsKept ss at blocks literals → d.before ≡ flat (at d.name.items)
    → ((n : List ℕ) → new n ≡ cond (bytes_eq n d.name.items) (Some (Some (record { entity = d.entity; blocks = blocks; literals = literals }))) (at n))
    → IsKept (Declared d ∷ ss) new blocks literals
kept_declared ss at new blocks literals d h before put = record {
  found = λ n. ap flat (put n) ∙ step n (bytes_eq n d.name.items) refl;
  chained = (before ∙ h.found d.name.items, h.chained);
  blocks_are = h.blocks_are;
  literals_are = h.literals_are;
}
  where
    here : Local
    here = record { entity = d.entity; blocks = blocks; literals = literals }

    is_local : here ≡ local_of (entries_of ss) d.entity
    is_local = ap (λ (b : ℕ). record { entity = d.entity; blocks = b; literals = literals }) h.blocks_are ∙ ap (λ (l : ℕ). record { entity = d.entity; blocks = count_blocks (entries_of ss); literals = l }) h.literals_are

    step : (n : List ℕ) (b : Bool) → bytes_eq n d.name.items ≡ b → flat (cond b (Some (Some here)) (at n)) ≡ local_in (entries_of (Declared d ∷ ss)) n
    step n true e = ap Some is_local ∙ ap (λ (b : Bool). cond b (Some (local_of (entries_of ss) d.entity)) (local_in (entries_of ss) n)) (sym (turned d.name.items n ∙ e))
    step n false e = h.found n ∙ ap (λ (b : Bool). cond b (Some (local_of (entries_of ss) d.entity)) (local_in (entries_of ss) n)) (sym (turned d.name.items n ∙ e))

pub kept_undone : (ss : List Step) (at new : At) (blocks literals : ℕ) (d : DeclaredStep) → IsKept (Declared d ∷ ss) at blocks literals
    → ((n : List ℕ) → new n ≡ cond (bytes_eq n d.name.items) (Some d.before) (at n)) → IsKept ss new blocks literals
kept_undone ss at new blocks literals d h put = record {
  found = λ n. ap flat (put n) ∙ step n (bytes_eq n d.name.items) refl;
  chained = h.chained.1;
  blocks_are = h.blocks_are;
  literals_are = h.literals_are;
}
  where
    step : (n : List ℕ) (b : Bool) → bytes_eq n d.name.items ≡ b → flat (cond b (Some d.before) (at n)) ≡ local_in (entries_of ss) n
    step n true e = h.chained.0 ∙ ap (local_in (entries_of ss)) (sym (same_name n d.name.items e))
    step n false e = h.found n ∙ ap (λ (b : Bool). cond b (Some (local_of (entries_of ss) d.entity)) (local_in (entries_of ss) n)) (turned d.name.items n ∙ e)

-- a name that was declared is in the table
pub is_there : (ss : List Step) (at : At) (blocks literals : ℕ) (d : DeclaredStep) → IsKept (Declared d ∷ ss) at blocks literals → is_some (at d.name.items) ≡ true
is_there ss at blocks literals d h = step (at d.name.items) (h.found d.name.items
    ∙ ap (λ (b : Bool). cond b (Some (local_of (entries_of ss) d.entity)) (local_in (entries_of ss) d.name.items)) ((bytes_eq-Decides d.name.items d.name.items).1 refl))
  where
    step : (o : Option (Option Local)) → flat o ≡ Some (local_of (entries_of ss) d.entity) → is_some o ≡ true
    step None e = absurd cc
    step (Some l) e = refl
