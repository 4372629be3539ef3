-- What was read stays read where the store grows.
use Rattle.std.proofs.Common.{◌≡◌, ℕ, ◌+◌, ◌<◌, List, [], ◌∷◌, ◌++◌, Option, Some, length, map, take, get_or, sym, ap, ◌∙◌, arith, length-append, append_assoc, append-nil}
use Rattle.std.proofs.lemmas.List.{get_or_append_left, take_more, map-append}
use Rattle.gv_terms.specs.declared.operator.Operator.TheVariants as op
use Rattle.gv_terms.specs.declared.tree.TermTree.{TermTree}
use Rattle.gv_terms.specs.declared.tree.TermTree.TheVariants as tree
use Rattle.gv_terms.specs.declared.term.Term.{Term}
use Rattle.gv_terms.specs.declared.var.Var.{Var}
use Rattle.gv_terms.specs.Store.{tree_at, Grows}
use Rattle.gv_termread.specs.declared.placed.PlacedTerm.{PlacedTerm}
use Rattle.gv_atomic.specs.declared.spec.Field.{Field}
use Rattle.gv_atomic.specs.declared.spec.Pick.{Pick}
use Rattle.gv_atomic.specs.declared.spec.Assign.{Assign}
use Rattle.gv_atomic.specs.declared.spec.Op.{Op}
use Rattle.gv_specread.specs.declared.tree.FieldTree.{FieldTree}
use Rattle.gv_specread.specs.declared.tree.PickTree.{PickTree}
use Rattle.gv_specread.specs.declared.tree.AssignTree.{AssignTree}
use Rattle.gv_specread.specs.declared.tree.ReplyTree.{ReplyTree}
use Rattle.gv_specread.specs.declared.tree.OpTree.{OpTree}
use Rattle.gv_specs.specs.Names.{Named, with_var, with_vars, with_picks}
use Rattle.gv_specs.specs.Told.{AreEach}
use Rattle.gv_specs.specs.Spelled as spelled
use Rattle.gv_specs.specs.Spelled.{IsTermOf, IsField, IsPick, IsAssign, IsBody, IsReply, IsAllowed, IsOp}
use Rattle.gv_specs.proofs.Scopes.{with_one}
use Rattle.gv_specs.proofs.Items.{each_weaker}

-- ---- stores

pub grows_not : (ts : List TermTree) → Grows ts ts
grows_not ts = ([], sym (append-nil ts))

pub grows_on : (a b c : List TermTree) → Grows a b → Grows b c → Grows a c
grows_on a b c g h = (g.0 ++ h.0, h.1 ∙ ap (λ (ts : List TermTree). ts ++ h.0) g.1 ∙ append_assoc a g.0 h.0)

still_within : (a b : List TermTree) (n : ℕ) → Grows a b → n < length a → n < length b
still_within a b n g l = omega (arith, l, ap length g.1, length-append a g.0)

same_tree : (a b : List TermTree) (n : ℕ) → Grows a b → n < length a → tree_at b n ≡ tree_at a n
same_tree a b n g l = ap (λ (ts : List TermTree). tree_at ts n) g.1 ∙ get_or_append_left a g.0 (tree.Apply (op.Number 0) []) n l

-- ---- parts

pub term_grows : (a b : List TermTree) (vars : List Var) (t : PlacedTerm) (term : Term) → Grows a b → IsTermOf a vars t term → IsTermOf b vars t term
term_grows a b vars t term g h = record { within = still_within a b term.id g h.within; same = h.same ∙ ap Some (sym (same_tree a b term.id g h.within)) }

pub field_grows : (text : List ℕ) (a b : List TermTree) (t : FieldTree) (f : Field) → Grows a b → IsField text a t f → IsField text b t f
field_grows text a b t f g h = record { name = h.name; its_sort = h.its_sort; leased = h.leased; first = term_grows a b [] t.first f.first g h.first }

pub pick_grows : (text : List ℕ) (a b : List TermTree) (vars : List Var) (t : PickTree) (p : Pick) → Grows a b → IsPick text a vars t p → IsPick text b vars t p
pick_grows text a b vars t p g h = record { name = h.name; bound = term_grows a b vars t.bound p.bound g h.bound }

pub assign_grows : (text : List ℕ) (a b : List TermTree) (named : Named) (vars : List Var) (t : AssignTree) (x : Assign) → Grows a b → IsAssign text a named vars t x → IsAssign text b named vars t x
assign_grows text a b named vars t x g h = record { name = h.name; term = term_grows a b vars t.term x.term g h.term }

pub picks_grow : (text : List ℕ) (a b : List TermTree) (vars : List Var) (trees : List PickTree) (picks : List Pick) → Grows a b → AreEach (λ i t p. IsPick text a (with_picks text vars (take i trees)) t p) trees picks
    → AreEach (λ i t p. IsPick text b (with_picks text vars (take i trees)) t p) trees picks
picks_grow text a b vars trees picks g = each_weaker (λ i t p. IsPick text a (with_picks text vars (take i trees)) t p) (λ i t p. IsPick text b (with_picks text vars (take i trees)) t p) trees picks
    (λ i t p h. pick_grows text a b (with_picks text vars (take i trees)) t p g h)

pub assigns_grow : (text : List ℕ) (a b : List TermTree) (named : Named) (vars : List Var) (trees : List AssignTree) (body : List Assign) → Grows a b → AreEach (λ i t x. IsAssign text a named vars t x) trees body
    → AreEach (λ i t x. IsAssign text b named vars t x) trees body
assigns_grow text a b named vars trees body g = each_weaker (λ i t x. IsAssign text a named vars t x) (λ i t x. IsAssign text b named vars t x) trees body (λ i t x h. assign_grows text a b named vars t x g h)

pub body_grows : (text : List ℕ) (a b : List TermTree) (named : Named) (vars : List Var) (trees : List PickTree) (assigns : List AssignTree) (picks : List Pick) (body : List Assign) → Grows a b → IsBody text a named vars trees assigns picks body
    → IsBody text b named vars trees assigns picks body
body_grows text a b named vars trees assigns picks body g h = record { chosen = picks_grow text a b vars trees picks g h.chosen; assigned = assigns_grow text a b named (with_picks text vars trees) assigns body g h.assigned }

pub reply_grows : (a b : List TermTree) (vars : List Var) (t : Option ReplyTree) (r : Option Term) → Grows a b → IsReply a vars t r → IsReply b vars t r
reply_grows a b vars t r g (spelled.written_reply x term h) = spelled.written_reply x term (term_grows a b vars x.term term g h)
reply_grows a b vars t r g spelled.no_reply = spelled.no_reply

pub allowed_grows : (a b : List TermTree) (vars : List Var) (t : Option PlacedTerm) (term : Term) → Grows a b → IsAllowed a vars t term → IsAllowed b vars t term
allowed_grows a b vars t term g (spelled.written x u h) = spelled.written x u (term_grows a b vars x u g h)
allowed_grows a b vars t term g (spelled.always u within same) = spelled.always u (still_within a b u.id g within) (same_tree a b u.id g within ∙ same)

pub op_grows : (text : List ℕ) (a b : List TermTree) (named : Named) (fields : List Var) (t : OpTree) (o : Op) → Grows a b → IsOp text a named fields t o → IsOp text b named fields t o
op_grows text a b named fields t o g h = record {
  name = h.name;
  params = h.params;
  allowed = allowed_grows a b _ t.allowed o.allowed g h.allowed;
  body = body_grows text a b named _ t.body.picks t.body.assigns o.picks o.body g h.body;
  reply = reply_grows a b _ t.body.reply o.reply g h.reply;
}

-- ---- scopes

-- the variables of one item more
pub vars_more : {T : Type 0} (var : T → Var) (vars : List Var) (items : List T) (i : ℕ) (x : T) → i < length items → x ≡ get_or items i x → with_vars vars (map var (take (i + 1) items)) ≡ with_var (with_vars vars (map var (take i items))) (var x)
vars_more {T} var vars items i x lt is =
    ap (λ (xs : List T). with_vars vars (map var xs)) (take_more items i x lt ∙ ap (λ (y : T). take i items ++ y ∷ []) (sym is))
    ∙ ap (with_vars vars) (map-append var (take i items) (x ∷ []))
    ∙ with_one vars (map var (take i items)) (var x)

pub more_vars : (vars items : List Var) (i : ℕ) (x : Var) → i < length items → x ≡ get_or items i x → with_vars vars (take (i + 1) items) ≡ with_var (with_vars vars (take i items)) x
more_vars vars items i x lt is = ap (with_vars vars) (take_more items i x lt ∙ ap (λ (y : Var). take i items ++ y ∷ []) (sym is)) ∙ with_one vars (take i items) x
