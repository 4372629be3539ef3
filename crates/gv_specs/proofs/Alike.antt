-- A text spells one specification, its store aside.
use Rattle.std.proofs.Common.{◌≡◌, ℕ, suc, List, [], ◌∷◌, Option, Some, option_map, map, take, refl, sym, ap, subst, ◌∙◌, arith}
use Rattle.gv_terms.specs.declared.tree.TermTree.{TermTree}
use Rattle.gv_terms.specs.declared.term.Term.{Term}
use Rattle.gv_terms.specs.declared.var.Var.{Var}
use Rattle.gv_terms.specs.Store.{tree_at}
use Rattle.gv_termread.specs.declared.placed.PlacedTerm.{PlacedTerm}
use Rattle.gv_atomic.specs.declared.spec.Field.{Field}
use Rattle.gv_atomic.specs.declared.spec.Pick.{Pick}
use Rattle.gv_atomic.specs.declared.spec.Assign.{Assign}
use Rattle.gv_atomic.specs.declared.spec.Op.{Op}
use Rattle.gv_atomic.specs.declared.spec.Spec.{Spec}
use Rattle.gv_specread.specs.declared.tree.FieldTree.{FieldTree}
use Rattle.gv_specread.specs.declared.tree.PickTree.{PickTree}
use Rattle.gv_specread.specs.declared.tree.AssignTree.{AssignTree}
use Rattle.gv_specread.specs.declared.tree.ReplyTree.{ReplyTree}
use Rattle.gv_specread.specs.declared.tree.OpTree.{OpTree}
use Rattle.gv_specread.specs.declared.tree.SpecTree.{SpecTree}
use Rattle.gv_specread.specs.declared.tree.DisksTree.{DisksTree}
use Rattle.gv_specs.specs.Alike.{shown_field, shown_pick, shown_assign, shown_op, AreAlike, SpellsOne}
use Rattle.gv_specs.specs.Names.{Named, with_fields, with_params, with_picks, field_named}
use Rattle.gv_specs.specs.Spelled as spelled
use Rattle.gv_specs.specs.Spelled.{IsTermOf, IsField, IsPick, IsAssign, IsBody, IsReply, IsAllowed, IsOp, AreDisks, IsSpelled}
use Rattle.gv_specs.specs.Told.{AreEach}
use Rattle.gv_specs.proofs.Decided.{one_tree}

-- two lists beside a third one
map_same : {S T U V : Type 0} (Is : ℕ → S → T → Type 0) (Has : ℕ → S → U → Type 0) (f : T → V) (g : U → V) (items : List S) (xs : List T) (ys : List U) → AreEach Is items xs → AreEach Has items ys
    → ((i : ℕ) (s : S) (x : T) (y : U) → Is i s x → Has i s y → f x ≡ g y) → map f xs ≡ map g ys
map_same Is Has f g [] [] [] h k same = refl
map_same Is Has f g [] (x ∷ xs) ys h k same = let c = h.count in absurd (omega (arith, c))
map_same Is Has f g [] [] (y ∷ ys) h k same = let c = k.count in absurd (omega (arith, c))
map_same Is Has f g (s ∷ items) [] ys h k same = let c = h.count in absurd (omega (arith, c))
map_same Is Has f g (s ∷ items) (x ∷ xs) [] h k same = let c = k.count in absurd (omega (arith, c))
map_same {S} {T} {U} {V} Is Has f g (s ∷ items) (x ∷ xs) (y ∷ ys) h k same =
    let one : f x ≡ g y = same 0 s x y (h.each 0 s x refl refl) (k.each 0 s y refl refl) in
    let rest : map f xs ≡ map g ys = map_same (λ i. Is (suc i)) (λ i. Has (suc i)) f g items xs ys
    (record { count = let c = h.count in omega (arith, c); each = λ i a b p q. h.each (suc i) a b p q })
    (record { count = let c = k.count in omega (arith, c); each = λ i a b p q. k.each (suc i) a b p q }) (λ i a b d p q. same (suc i) a b d p q) in
    ap (λ (v : V). v ∷ map f xs) one ∙ ap (λ (vs : List V). g y ∷ vs) rest

module _ (ts us : List TermTree) where
  term_same : (vars : List Var) (t : PlacedTerm) (a b : Term) → IsTermOf ts vars t a → IsTermOf us vars t b → tree_at ts a.id ≡ tree_at us b.id
  term_same vars t a b h k = let both : Some (tree_at ts a.id) ≡ Some (tree_at us b.id) = sym h.same ∙ k.same in cc

  field_same : (text : List ℕ) (t : FieldTree) (f g : Field) → IsField text ts t f → IsField text us t g → shown_field ts f ≡ shown_field us g
  field_same text t f g h k =
      let name : f.name ≡ g.name = h.name ∙ sym k.name in
      let its : f.sort ≡ g.sort = h.its_sort ∙ sym k.its_sort in
      let leased : f.leased ≡ g.leased = h.leased ∙ sym k.leased in
      let first : tree_at ts f.first.id ≡ tree_at us g.first.id = term_same [] t.first f.first g.first h.first k.first in
      rw (name, its, leased, first) refl

  pick_same : (text : List ℕ) (vars : List Var) (t : PickTree) (p q : Pick) → IsPick text ts vars t p → IsPick text us vars t q → shown_pick ts p ≡ shown_pick us q
  pick_same text vars t p q h k =
      let name : p.name ≡ q.name = h.name ∙ sym k.name in
      let bound : tree_at ts p.bound.id ≡ tree_at us q.bound.id = term_same vars t.bound p.bound q.bound h.bound k.bound in
      rw (name, bound) refl

  assign_same : (text : List ℕ) (named : Named) (vars : List Var) (t : AssignTree) (a b : Assign) → IsAssign text ts named vars t a → IsAssign text us named vars t b → shown_assign ts a ≡ shown_assign us b
  assign_same text named vars t a b h k =
      let both : Some a.field ≡ Some b.field = sym h.name ∙ k.name in
      let field : a.field ≡ b.field = cc in
      let term : tree_at ts a.term.id ≡ tree_at us b.term.id = term_same vars t.term a.term b.term h.term k.term in
      rw (field, term) refl

  picks_same : (text : List ℕ) (named : Named) (vars : List Var) (trees : List PickTree) (assigns : List AssignTree) (picks others : List Pick) (body more : List Assign) → IsBody text ts named vars trees assigns picks body
      → IsBody text us named vars trees assigns others more → map (shown_pick ts) picks ≡ map (shown_pick us) others
  picks_same text named vars trees assigns picks others body more h k = map_same _ _ (shown_pick ts) (shown_pick us) trees picks others h.chosen k.chosen (λ i t p q a b. pick_same text (with_picks text vars (take i trees)) t p q a b)

  body_same : (text : List ℕ) (named : Named) (vars : List Var) (trees : List PickTree) (assigns : List AssignTree) (picks others : List Pick) (body more : List Assign) → IsBody text ts named vars trees assigns picks body
      → IsBody text us named vars trees assigns others more → map (shown_assign ts) body ≡ map (shown_assign us) more
  body_same text named vars trees assigns picks others body more h k = map_same _ _ (shown_assign ts) (shown_assign us) assigns body more h.assigned k.assigned (λ i t p q a b. assign_same text named (with_picks text vars trees) t p q a b)

  allowed_same : (vars : List Var) (t : Option PlacedTerm) (a b : Term) → IsAllowed ts vars t a → IsAllowed us vars t b → tree_at ts a.id ≡ tree_at us b.id
  allowed_same vars t a b (spelled.written p u h) (spelled.written q v k) = term_same vars p u v h k
  allowed_same vars t a b (spelled.always u within same) (spelled.always v more other) = same ∙ sym other

  reply_same : (vars : List Var) (t : Option ReplyTree) (a b : Option Term) → IsReply ts vars t a → IsReply us vars t b → option_map (λ x. tree_at ts x.id) a ≡ option_map (λ x. tree_at us x.id) b
  reply_same vars t a b (spelled.written_reply r x h) (spelled.written_reply q y k) = ap Some (term_same vars r.term x y h k)
  reply_same vars t a b spelled.no_reply spelled.no_reply = refl

  op_same : (text : List ℕ) (named : Named) (fields : List Var) (t : OpTree) (o p : Op) → IsOp text ts named fields t o → IsOp text us named fields t p → shown_op ts o ≡ shown_op us p
  op_same text named fields t o p h k =
      let name : o.name ≡ p.name = h.name ∙ sym k.name in
      let params : o.params ≡ p.params = h.params ∙ sym k.params in
      let allowed : tree_at ts o.allowed.id ≡ tree_at us p.allowed.id = allowed_same (with_params text [] t.params) t.allowed o.allowed p.allowed h.allowed k.allowed in
      let picks : map (shown_pick ts) o.picks ≡ map (shown_pick us) p.picks = picks_same text named (with_params text fields t.params) t.body.picks t.body.assigns o.picks p.picks o.body p.body h.body k.body in
      let body : map (shown_assign ts) o.body ≡ map (shown_assign us) p.body = body_same text named (with_params text fields t.params) t.body.picks t.body.assigns o.picks p.picks o.body p.body h.body k.body in
      let reply : option_map (λ x. tree_at ts x.id) o.reply ≡ option_map (λ x. tree_at us x.id) p.reply = reply_same (with_picks text (with_params text fields t.params) t.body.picks) t.body.reply o.reply p.reply h.reply k.reply in
      rw (name, params, allowed, picks, body, reply) refl

disks_same : (t : DisksTree) (a b c d : ℕ) → AreDisks t a b → AreDisks t c d → (a ≡ c) × (b ≡ d)
disks_same t a b c d spelled.no_disk spelled.no_disk = (refl, refl)
disks_same t a b c d (spelled.one_disk n) (spelled.one_disk m) = (refl, refl)
disks_same t a b c d (spelled.two_disks n) (spelled.two_disks m) = (refl, refl)

tree_same : (text : List ℕ) (tree : SpecTree) (s t : Spec) → IsSpelled text tree s → IsSpelled text tree t → AreAlike s t
tree_same text tree s t h k =
    let d = disks_same tree.disks s.disks s.blocks t.disks t.blocks h.its_disks k.its_disks in
    let vars = with_fields text [] tree.fields in
    record {
      count = d.0;
      blocks = d.1;
      fields = map_same _ _ (shown_field s.store) (shown_field t.store) tree.fields s.fields t.fields h.fields k.fields (λ i f a b p q. field_same s.store t.store text f a b p q);
      ops = map_same _ _ (shown_op s.store) (shown_op t.store) tree.ops s.ops t.ops h.ops k.ops (λ i o a b p q. op_same s.store t.store text (field_named text tree.fields) vars o a b p q);
      crash_picks = picks_same s.store t.store text (field_named text tree.fields) vars tree.crash.picks tree.crash.assigns s.crash_picks t.crash_picks s.crash t.crash h.crash k.crash;
      crash = body_same s.store t.store text (field_named text tree.fields) vars tree.crash.picks tree.crash.assigns s.crash_picks t.crash_picks s.crash t.crash h.crash k.crash;
    }

pub one_specification : SpellsOne
one_specification text s t h k = tree_same text h.tree s t h.spelled (subst (λ (x : SpecTree). IsSpelled text x t) (one_tree text k.tree h.tree k.has h.has) k.spelled)
