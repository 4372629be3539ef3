-- A specification has at most one small form, which doesn't depend on the numbers of its terms.
use Rattle.std.proofs.Common.{◌≡◌, List, [], ◌∷◌, ◌&&◌, nat_eq, length, Option, Some, None, map, option_map, refl, sym, ap, ◌∙◌}
use Rattle.std.specs.Prelude.{if◌then◌else◌}
use Rattle.std.proofs.lemmas.List.{length-map}
use Rattle.gv_small.specs.declared.sum_reader.Sum.{Sum}
use Rattle.gv_terms.specs.Trees.{root_of}
use Rattle.gv_base.specs.declared.small.SmallOp.{SmallOp}
use Rattle.gv_terms.specs.declared.term.Term.{Term}
use Rattle.gv_terms.specs.declared.tree.TermTree.{TermTree}
use Rattle.gv_terms.specs.declared.var.Var.{Var}
use Rattle.gv_terms.specs.Store.{tree_at}
use Rattle.gv_atomic.specs.declared.spec.Op.{Op}
use Rattle.gv_specs.specs.Alike.{ShownOp, shown_op, shown_pick, shown_assign, shown_field}
use Rattle.gv_smallspec.specs.SmallSpec.{small_op, is_true, op_of, word_names, reply_sum, sum_of}
use Rattle.gv_smallspec.specs.Laws.{HasOne, AlikeHaveSame}

pub same_values : {A : Type 0} (xs ys : List A) → map Some xs ≡ map Some ys → xs ≡ ys
same_values [] [] e = refl
same_values [] (y ∷ ys) e = absurd cc
same_values (x ∷ xs) [] e = absurd cc
same_values {A} (x ∷ xs) (y ∷ ys) e =
    let first : Some x ≡ Some y = cc in
    let left : map Some xs ≡ map Some ys = cc in
    let same : x ≡ y = cc in
    rw (same, same_values xs ys left) refl

pub one_small : HasOne
one_small s x y h k = ap (λ ops. record { ops = ops }) (same_values x.ops y.ops (sym h.ops ∙ k.ops))

-- ---- specifications that are alike

empty_too : {A B C : Type 0} (f : A → C) (g : B → C) (xs : List A) (ys : List B) → map f xs ≡ map g ys → xs ≡ [] → ys ≡ []
empty_too f g [] [] e h = refl
empty_too f g [] (y ∷ ys) e h = absurd cc
empty_too f g (x ∷ xs) ys e h = absurd cc

abbrev shown_sum : List Var → Option TermTree → Option Sum
shown_sum params None = None
shown_sum params (Some t) = sum_of params t

-- the small operation of what is shown
abbrev small_shown : ShownOp → Option SmallOp
small_shown s = if is_true (root_of s.allowed) && (nat_eq (length s.picks) 0 && nat_eq (length s.body) 0)
    then op_of s.name (word_names s.params) (shown_sum s.params s.reply) else None

reply_shown : (ts : List TermTree) (params : List Var) (r : Option Term) → reply_sum ts params r ≡ shown_sum params (option_map (λ t. tree_at ts t.id) r)
reply_shown ts params None = refl
reply_shown ts params (Some t) = refl

as_shown : (ts : List TermTree) (o : Op) → small_op ts o ≡ small_shown (shown_op ts o)
as_shown ts o =
    let picks : length (map (shown_pick ts) o.picks) ≡ length o.picks = length-map o.picks (shown_pick ts) in
    let body : length (map (shown_assign ts) o.body) ≡ length o.body = length-map o.body (shown_assign ts) in
    rw (picks, body, reply_shown ts o.params o.reply) refl

ops_same : (ts us : List TermTree) (os ps : List Op) → map (shown_op ts) os ≡ map (shown_op us) ps → map (small_op ts) os ≡ map (small_op us) ps
ops_same ts us [] [] e = refl
ops_same ts us [] (p ∷ ps) e = absurd cc
ops_same ts us (o ∷ os) [] e = absurd cc
ops_same ts us (o ∷ os) (p ∷ ps) e =
    let first : shown_op ts o ≡ shown_op us p = cc in
    let left : map (shown_op ts) os ≡ map (shown_op us) ps = cc in
    let same : small_op ts o ≡ small_op us p = as_shown ts o ∙ ap small_shown first ∙ sym (as_shown us p) in
    rw (same, ops_same ts us os ps left) refl

pub alike_same : AlikeHaveSame
alike_same s t x a h = record {
  disks = sym a.count ∙ h.disks;
  fields = empty_too (shown_field s.store) (shown_field t.store) s.fields t.fields a.fields h.fields;
  crash_picks = empty_too (shown_pick s.store) (shown_pick t.store) s.crash_picks t.crash_picks a.crash_picks h.crash_picks;
  crash = empty_too (shown_assign s.store) (shown_assign t.store) s.crash t.crash a.crash h.crash;
  ops = sym (ops_same s.store t.store s.ops t.ops a.ops) ∙ h.ops;
}
