-- What is made of an operand, from what is made of its parts.
use Rattle.std.proofs.Common.{◌≡◌, ℕ, ◌+◌, Bool, List, [], ◌∷◌, ◌++◌, length, map, Option, Some, None, refl, sym, ap, subst, ◌∙◌, append_assoc, length-append}
use Rattle.std.specs.Prelude.{option_map}
use Rattle.gv_base.specs.declared.answers.Place.{Place}
use Rattle.gv_lang.specs.declared.cmd.Cmd.{Cmd as DeclaredCmd}
use Rattle.gv_lang.specs.declared.program.LocalKind.{LocalKind}
use Rattle.gv_lang.specs.declared.program.LocalKind.TheVariants as kind
use Rattle.gv_lang.specs.declared.pure.Pure.{Pure}
use Rattle.gv_lang.specs.declared.pure.Pure.TheVariants as pure
use Rattle.gv_lang.specs.Plain.{expr_of, tree_of, body_of}
use Rattle.gv_lang.specs.Tree as lang
use Rattle.gv_lang.proofs.Trees.{expr_local}
use Rattle.gv_operands.specs.declared.types.Class.{Class}
use Rattle.gv_operands.specs.declared.types.GoType.{GoType}
use Rattle.gv_operands.specs.declared.part.Part.{Part}
use Rattle.gv_operands.specs.Types.{own_type_of}
use Rattle.gv_gotypes.specs.Trees as go
use Rattle.gv_gosyntax.specs.declared.lexeme.Lexeme.{Lexeme}
use Rattle.gv_gotypes.specs.declared.names.Library.{Library}
use Rattle.gv_gotypes.specs.declared.names.Entity.{Entity}
use Rattle.gv_gotypes.specs.declared.names.Entity.TheVariants.{Imported, StructOf, ConstantOf, ProcedureOf, Variable}
use Rattle.gv_gotypes.specs.declared.names.Found.{Found}
use Rattle.gv_gotypes.specs.Scopes.{Env, name_in}
use Rattle.gv_gotypes.specs.Scopes.{found as found_in}
use Rattle.gv_gotypes.specs.Expressions.{operand, found_outcome, library_in, library_of}
use Rattle.gv_gotyped.specs.Operands.{IsOperand}
use Rattle.gv_gotyped.specs.declared.outcomes.Operand.{Operand}
use Rattle.gv_lowering.specs.Operands as lower
use Rattle.gv_lowering.specs.Operands.{Context}
use Rattle.gv_lowerops.specs.declared.draft.Draft.{Draft}
use Rattle.gv_lowerops.specs.declared.draft.Mark.{Mark}
use Rattle.gv_lowerops.specs.declared.draft.Tail.{Tail}
use Rattle.gv_lowerops.specs.declared.draft.Read.{Read}
use Rattle.gv_lowerops.specs.declared.last.Last.{Last}
use Rattle.gv_lowerops.specs.declared.last.Last.TheVariants as last
use Rattle.gv_lowerops.specs.declared.last.Reading.{Reading}
use Rattle.gv_lowerops.specs.Short.{IsSetAside}
use Rattle.gv_lowerops.specs.Tails.{IsBehind, IsMark, IsTailBehind, IsReadBehind, IsRead, read_by, last_of}
use Rattle.gv_lowerops.proofs.Behind.{behind_same, behind_then, behind_more, count_behind, trees_more, same_block}

length_more : (ts : List LocalKind) (k : LocalKind) → length (ts ++ k ∷ []) ≡ length ts + 1
length_more ts k = length-append ts (k ∷ [])

-- ---- what ends in a read sets a temporary

abbrev Settles : Context → Place → Draft → lower.Tail → Read → lower.Last → Type 0
Settles c at old t made l = IsReadBehind old made (lower.settled_by c at (length old.temps.items) t.before t.temps l)

pub value_settled : (c : Context) (at : Place) (old draft : Draft) (v : Pure) (t : lower.Tail) → IsTailBehind old (record { draft = draft; last = last.Value v }) t
    → IsReadBehind old (record { draft = draft; value = v }) (lower.settled c at (length old.temps.items) t)
value_settled c at old draft v t h = subst (λ (l : lower.Last). Settles c at old t (record { draft = draft; value = v }) l) h.last (record { behind = h.behind; value = refl })

temporary_of : (c : Context) (old draft : Draft) (cs : List lang.Cmd) (ts : List LocalKind) (x : ℕ) → IsBehind old draft cs ts → x ≡ lower.temporary c (length draft.temps.items)
    → x ≡ lower.temporary c (length old.temps.items + length ts)
temporary_of c old draft cs ts x h e = e ∙ ap (λ (m : ℕ). lower.temporary c m) (count_behind old draft cs ts h)

pub reads_settled : (c : Context) (at : Place) (old draft new : Draft) (k : LocalKind) (r : Reading) (t : lower.Tail) (x : ℕ) (cmd : DeclaredCmd)
    → IsTailBehind old (record { draft = draft; last = last.Reads k r }) t → x ≡ lower.temporary c (length draft.temps.items) → tree_of cmd ≡ lang.Do (read_by r x) at
    → new.cmds.items ≡ draft.cmds.items ++ cmd ∷ [] → new.temps.items ≡ draft.temps.items ++ k ∷ []
    → IsReadBehind old (record { draft = new; value = pure.Local x }) (lower.settled c at (length old.temps.items) t)
reads_settled c at old draft new k r t x cmd h e is cmds temps =
    let q = temporary_of c old draft t.before t.temps x h.behind e in
    subst (λ (l : lower.Last). Settles c at old t (record { draft = new; value = pure.Local x }) l) h.last (record {
      behind = behind_more old draft new t.before t.temps (k ∷ []) cmd (lang.Do (read_by r (lower.temporary c (length old.temps.items + length t.temps))) at) h.behind cmds
          (is ∙ ap (λ (y : ℕ). lang.Do (read_by r y) at) q) temps;
      value = expr_local x ∙ ap (λ (y : ℕ). lang.LocalAt y) q;
    })

pub map_settled : (c : Context) (at : Place) (old draft mid new : Draft) (m k : Pure) (t : lower.Tail) (x ok : ℕ) (cmd : DeclaredCmd)
    → IsTailBehind old (record { draft = draft; last = last.ReadsMap m k }) t → x ≡ lower.temporary c (length draft.temps.items) → ok ≡ lower.temporary c (length mid.temps.items)
    → tree_of cmd ≡ lang.Do (lang.MapGet x ok (expr_of m) (expr_of k)) at → mid.temps.items ≡ draft.temps.items ++ kind.Word ∷ []
    → new.cmds.items ≡ draft.cmds.items ++ cmd ∷ [] → new.temps.items ≡ mid.temps.items ++ kind.Bool ∷ []
    → IsReadBehind old (record { draft = new; value = pure.Local x }) (lower.settled c at (length old.temps.items) t)
map_settled c at old draft mid new m k t x ok cmd h e o is first cmds second =
    let n = length old.temps.items + length t.temps in
    let q = temporary_of c old draft t.before t.temps x h.behind e in
    let more : length mid.temps.items ≡ n + 1 = ap (λ (l : List LocalKind). length l) first ∙ (length_more draft.temps.items kind.Word ∙ ap (λ (l : ℕ). l + 1) (count_behind old draft t.before t.temps h.behind)) in
    let p : ok ≡ lower.temporary c (n + 1) = o ∙ ap (λ (l : ℕ). lower.temporary c l) more in
    subst (λ (l : lower.Last). Settles c at old t (record { draft = new; value = pure.Local x }) l) h.last (record {
      behind = behind_more old draft new t.before t.temps (kind.Word ∷ kind.Bool ∷ []) cmd (lang.Do (lang.MapGet (lower.temporary c n) (lower.temporary c (n + 1)) (expr_of m) (expr_of k)) at)
          h.behind cmds
          (is ∙ (ap (λ (y : ℕ). lang.Do (lang.MapGet y ok (expr_of m) (expr_of k)) at) q ∙ ap (λ (y : ℕ). lang.Do (lang.MapGet (lower.temporary c n) y (expr_of m) (expr_of k)) at) p))
          (second ∙ (ap (λ (l : List LocalKind). l ++ kind.Bool ∷ []) first ∙ append_assoc draft.temps.items (kind.Word ∷ []) (kind.Bool ∷ [])));
      value = expr_local x ∙ ap (λ (y : ℕ). lang.LocalAt y) q;
    })

-- ---- constants

pub class_of : (env : Env) (e : go.Expr) (known : Operand) → IsOperand env e known → known.part.class ≡ (operand env e).class
class_of env e known h = ap (λ (p : Part). p.class) h.part

abbrev picked : lower.Tail → Option lang.Expr → lower.Tail
picked t o = elim o as (λ _. lower.Tail) [ None ↦ t | Some v ↦ lower.plain v ]

pub constant_is : (env : Env) (e : go.Expr) (old draft new : Draft) (mark : Mark) (t : lower.Tail) (v : Pure) (known : Operand) (l : Last)
    → IsMark old mark → IsOperand env e known → IsTailBehind old (record { draft = draft; last = l }) t → Some (expr_of v) ≡ lower.constant_of known.part.class
    → IsBehind old new [] [] → IsTailBehind old (record { draft = new; last = last.Value v }) (lower.or_constant env e t)
constant_is env e old draft new mark t v known l m h tail is back =
    let q : Some (expr_of v) ≡ lower.constant_of (operand env e).class = is ∙ ap (λ (k : Option Class). lower.constant_of k) (class_of env e known h) in
    subst (λ (o : Option lang.Expr). IsTailBehind old (record { draft = new; last = last.Value v }) (picked t o)) q (record { behind = back; last = refl })

pub no_constant : (env : Env) (e : go.Expr) (old : Draft) (made : Tail) (t : lower.Tail) (known : Operand) → IsOperand env e known → IsTailBehind old made t
    → None ≡ lower.constant_of known.part.class → IsTailBehind old made (lower.or_constant env e t)
no_constant env e old made t known h tail is =
    let q : None ≡ lower.constant_of (operand env e).class = is ∙ ap (λ (k : Option Class). lower.constant_of k) (class_of env e known h) in
    subst (λ (o : Option lang.Expr). IsTailBehind old made (picked t o)) q tail

-- ---- one part, and two

pub after_tail : (old : Draft) (made : Read) (r : lower.Read) (l : Last) (g : lang.Expr → lower.Last) → IsReadBehind old made r → last_of l ≡ g (expr_of made.value)
    → IsTailBehind old (record { draft = made.draft; last = l }) (lower.after r (g r.value))
after_tail old made r l g h is = record { behind = h.behind; last = is ∙ ap (λ (x : lang.Expr). g x) h.value }

abbrev two_of : (lang.Expr → lang.Expr → lower.Last) → lower.Read → lower.Read → lower.Tail
two_of g r s = record { before = r.cmds ++ s.cmds; temps = r.temps ++ s.temps; last = g r.value s.value }

pub two_tail : (old mid : Draft) (a : Pure) (b : Read) (r s : lower.Read) (l : Last) (g : lang.Expr → lang.Expr → lower.Last)
    → IsReadBehind old (record { draft = mid; value = a }) r → IsReadBehind mid b s → last_of l ≡ g (expr_of a) (expr_of b.value)
    → IsTailBehind old (record { draft = b.draft; last = l }) (two_of g r s)
two_tail old mid a b r s l g h k is = record {
  behind = behind_then old mid b.draft r.cmds s.cmds r.temps s.temps h.behind k.behind;
  last = is ∙ (ap (λ (x : lang.Expr). g x (expr_of b.value)) h.value ∙ ap (λ (x : lang.Expr). g r.value x) k.value);
}

-- what is made behind another draft, behind so many temporaries
pub moved_read : (old mid : Draft) (cs : List lang.Cmd) (ts : List LocalKind) (b : Read) (s : ℕ → lower.Read) → IsBehind old mid cs ts → IsReadBehind mid b (s (length mid.temps.items))
    → IsReadBehind mid b (s (length old.temps.items + length ts))
moved_read old mid cs ts b s h k = subst (λ (m : ℕ). IsReadBehind mid b (s m)) (count_behind old mid cs ts h) k

-- ---- `e[i]`

pub index_tail : (c : Context) (at : Place) (env : Env) (old mid : Draft) (e i : go.Expr) (a : Pure) (known place : Operand) (b : Read) (l : Last) (want : Option GoType)
    → IsRead c at env old e None (record { read = record { draft = mid; value = a }; known = known }) → IsRead c at env mid i None (record { read = b; known = place })
    → last_of l ≡ lower.indexed (own_type_of known.part.class) (expr_of a) (expr_of b.value)
    → IsTailBehind old (record { draft = b.draft; last = l }) (lower.tail c at env (go.Index e i) want (length old.temps.items))
index_tail c at env old mid e i a known place b l want h k is =
    let n = length old.temps.items in
    let r = lower.read c at env e None n in
    two_tail old mid a b r (lower.read c at env i None (n + length r.temps)) l (λ x y. lower.indexed (own_type_of (operand env e).class) x y)
    h.read (moved_read old mid r.cmds r.temps b (λ m. lower.read c at env i None m) h.read.behind k.read)
    (is ∙ ap (λ (o : Option Class). lower.indexed (own_type_of o) (expr_of a) (expr_of b.value)) (class_of env e known h.known))

-- ---- `&&` and `||`

map_empty : (cs : List DeclaredCmd) → map tree_of cs ≡ [] → cs ≡ []
map_empty [] h = refl
map_empty (c ∷ cs) h = absurd cc

made_of_block : (block : Draft) (right : Read) (s : lower.Read) → block.cmds.items ≡ [] → IsReadBehind block right s → map tree_of right.draft.cmds.items ≡ s.cmds
made_of_block block right s none h = h.behind.cmds ∙ ap (λ (z : List DeclaredCmd). map tree_of z ++ s.cmds) none

-- what is made in a block of its own reads where there are commands
pub nothing_read : (block : Draft) (right : Read) (s : lower.Read) → block.cmds.items ≡ [] → IsReadBehind block right s → right.draft.cmds.items ≡ [] → s.cmds ≡ []
nothing_read block right s none h empty = sym (made_of_block block right s none h) ∙ ap (λ (z : List DeclaredCmd). map tree_of z) empty

pub something_read : (block : Draft) (right : Read) (s : lower.Read) → block.cmds.items ≡ [] → IsReadBehind block right s → (right.draft.cmds.items ≡ [] → ⊥) → s.cmds ≡ [] → ⊥
something_read block right s none h some empty = some (map_empty right.draft.cmds.items (made_of_block block right s none h ∙ empty))

pub count_aside : (old mid block : Draft) (left : Pure) (before : List DeclaredCmd) (used : ℕ) (r : lower.Read) → IsReadBehind old (record { draft = mid; value = left }) r → IsSetAside mid before used block
    → length block.temps.items ≡ length old.temps.items + length r.temps + 1
count_aside old mid block left before used r h set =
    ap (λ (l : List LocalKind). length l) set.temps ∙ (length_more mid.temps.items kind.Bool ∙ ap (λ (n : ℕ). n + 1) (count_behind old mid r.cmds r.temps h.behind))

-- the right operand of `&&` or `||` reads
pub guarded_tail : (c : Context) (at : Place) (old mid block : Draft) (left : Pure) (before : List DeclaredCmd) (used : ℕ) (right : Read) (new : Draft) (r s : lower.Read) (sign x : ℕ)
    (inner first if : DeclaredCmd)
    → IsReadBehind old (record { draft = mid; value = left }) r → IsSetAside mid before used block → IsReadBehind block right s
    → x ≡ lower.temporary c used → tree_of inner ≡ lang.Do (lang.Let x (expr_of right.value)) at → tree_of first ≡ lang.Do (lang.Let x (expr_of left)) at
    → tree_of if ≡ lower.guarded_if sign (lang.LocalAt x) (body_of (right.draft.cmds.items ++ inner ∷ [])) at
    → new.cmds.items ≡ (before ++ first ∷ []) ++ if ∷ [] → new.temps.items ≡ right.draft.temps.items
    → IsTailBehind old (record { draft = new; last = last.Value (pure.Local x) }) (lower.guarded c at (length old.temps.items) sign r s)
guarded_tail c at old mid block left before used right new r s sign x inner first if h set k ex ei ef eif cmds temps =
    let y = lower.temporary c (length old.temps.items + length r.temps) in
    let q : x ≡ y = ex ∙ (ap (λ (m : ℕ). lower.temporary c m) set.used ∙ ap (λ (m : ℕ). lower.temporary c m) (count_behind old mid r.cmds r.temps h.behind)) in
    let right_trees : map tree_of right.draft.cmds.items ≡ s.cmds = k.behind.cmds ∙ ap (λ (z : List DeclaredCmd). map tree_of z ++ s.cmds) set.cmds in
    let body : map tree_of (right.draft.cmds.items ++ inner ∷ []) ≡ s.cmds ++ lang.Do (lang.Let y s.value) at ∷ [] =
    trees_more right.draft.cmds.items inner (lang.Do (lang.Let x (expr_of right.value)) at) ei
    ∙ (ap (λ (z : List lang.Cmd). z ++ lang.Do (lang.Let x (expr_of right.value)) at ∷ []) right_trees
    ∙ (ap (λ (z : ℕ). s.cmds ++ lang.Do (lang.Let z (expr_of right.value)) at ∷ []) q ∙ ap (λ (z : lang.Expr). s.cmds ++ lang.Do (lang.Let y z) at ∷ []) k.value)) in
    let block_is : body_of (right.draft.cmds.items ++ inner ∷ []) ≡ lower.block_of (s.cmds ++ lang.Do (lang.Let y s.value) at ∷ []) =
    same_block (map tree_of (right.draft.cmds.items ++ inner ∷ [])) ∙ ap (λ (z : List lang.Cmd). lower.block_of z) body in
    let if_is : tree_of if ≡ lower.guarded_if sign (lang.LocalAt y) (lower.block_of (s.cmds ++ lang.Do (lang.Let y s.value) at ∷ [])) at =
    eif ∙ (ap (λ (z : ℕ). lower.guarded_if sign (lang.LocalAt z) (body_of (right.draft.cmds.items ++ inner ∷ [])) at) q ∙ ap (λ (z : lang.Block). lower.guarded_if sign (lang.LocalAt y) z at) block_is) in
    let first_is : tree_of first ≡ lang.Do (lang.Let y r.value) at =
    ef ∙ (ap (λ (z : ℕ). lang.Do (lang.Let z (expr_of left)) at) q ∙ ap (λ (z : lang.Expr). lang.Do (lang.Let y z) at) h.value) in
    let all : map tree_of new.cmds.items ≡ (map tree_of mid.cmds.items ++ lang.Do (lang.Let y r.value) at ∷ [])
    ++ lower.guarded_if sign (lang.LocalAt y) (lower.block_of (s.cmds ++ lang.Do (lang.Let y s.value) at ∷ [])) at ∷ [] =
    ap (λ (z : List DeclaredCmd). map tree_of z) cmds
    ∙ (trees_more (before ++ first ∷ []) if (lower.guarded_if sign (lang.LocalAt y) (lower.block_of (s.cmds ++ lang.Do (lang.Let y s.value) at ∷ [])) at) if_is
    ∙ ap (λ (z : List lang.Cmd). z ++ lower.guarded_if sign (lang.LocalAt y) (lower.block_of (s.cmds ++ lang.Do (lang.Let y s.value) at ∷ [])) at ∷ [])
    (trees_more before first (lang.Do (lang.Let y r.value) at) first_is ∙ ap (λ (z : List DeclaredCmd). map tree_of z ++ lang.Do (lang.Let y r.value) at ∷ []) set.before)) in
    record {
      behind = behind_then old mid new r.cmds
          (lang.Do (lang.Let y r.value) at ∷ lower.guarded_if sign (lang.LocalAt y) (lower.block_of (s.cmds ++ lang.Do (lang.Let y s.value) at ∷ [])) at ∷ []) r.temps (kind.Bool ∷ s.temps) h.behind (record {
            cmds = all ∙ append_assoc (map tree_of mid.cmds.items) (lang.Do (lang.Let y r.value) at ∷ []) _;
            temps = temps ∙ (k.behind.temps ∙ (ap (λ (z : List LocalKind). z ++ s.temps) set.temps ∙ append_assoc mid.temps.items (kind.Bool ∷ []) s.temps));
          });
      last = ap (λ (z : lang.Expr). lower.Value z) (expr_local x ∙ ap (λ (z : ℕ). lang.LocalAt z) q);
    }

-- ---- members of packages

abbrev library_case : Context → Place → Env → Lexeme → Lexeme → ℕ → Option Found → lower.Tail
library_case c at env w name n found =
    let r = lower.settled c at n (picked (lower.plain (lower.variable_in c (option_map (λ f. f.entity) found))) (lower.constant_of (found_outcome env w found).class)) in
    lower.after r (lower.selected env name (found_outcome env w found).class r.value)

abbrev no_read : lower.Tail
no_read = record { before = []; temps = []; last = lower.Value lang.Nil }

entity_read : (c : Context) (at : Place) (env : Env) (w name : Lexeme) (n : ℕ) (l : Library) (e : Entity) (o : Bool) → library_in (Some e) ≡ Some l
    → no_read ≡ library_case c at env w name n (Some (record { entity = e; is_outer = o }))
entity_read c at env w name n l (Imported k) o h = refl
entity_read c at env w name n l (StructOf k) o h = absurd cc
entity_read c at env w name n l (ConstantOf k) o h = absurd cc
entity_read c at env w name n l (ProcedureOf k) o h = absurd cc
entity_read c at env w name n l (Variable b k) o h = absurd cc

library_read : (c : Context) (at : Place) (env : Env) (w name : Lexeme) (n : ℕ) (l : Library) (found : Option Found) → library_in (option_map (λ f. f.entity) found) ≡ Some l
    → no_read ≡ library_case c at env w name n found
library_read c at env w name n l None h = absurd cc
library_read c at env w name n l (Some f) h = entity_read c at env w name n l f.entity f.is_outer h

pub library_tail : (c : Context) (at : Place) (env : Env) (w name : Lexeme) (l : Library) (old : Draft) (v : Pure) → library_of env (go.Name w) ≡ Some l → expr_of v ≡ lang.Nil
    → IsTailBehind old (record { draft = old; last = last.Value v }) (library_case c at env w name (length old.temps.items) (found_in env (name_in env.source w)))
library_tail c at env w name l old v h is = subst (λ (t : lower.Tail). IsTailBehind old (record { draft = old; last = last.Value v }) t)
    (library_read c at env w name (length old.temps.items) l (found_in env (name_in env.source w)) h) (record { behind = behind_same old; last = ap (λ (x : lang.Expr). lower.Value x) is })
