-- What is named, gathered from node to node.
use Rattle.std.proofs.Common.{◌≡◌, ℕ, ◌+◌, ◌<◌, List, [], ◌∷◌, ◌++◌, length, Some, refl, sym, ap, subst, ◌∙◌, arith}
use Rattle.std.specs.Prelude.{take, slice_get}
use Rattle.gv_termread.specs.declared.generated.term_acts.Part.{Part}
use Rattle.gv_scriptsyntax.specs.declared.generated.script_acts.ScriptPart.{ScriptPart}
use Rattle.gv_scriptsyntax.specs.declared.node.Node.{Node}
use Rattle.gv_scriptsyntax.specs.Nodes.{Parts, built, first_of, IsFormed, IsPartAt}
use Rattle.gv_scriptsyntax.proofs.Nodes.{within_end}
use Rattle.gv_scriptnames.specs.declared.mention.Mention.{Mention}
use Rattle.gv_scriptnames.specs.Mentions.{Mentions}
use Rattle.gv_scriptnodes.specs.Gathered.{in_part, in_parts, named_at, IsGathered}
use Rattle.gv_scriptnodes.proofs.Gathering.{nil_right}
use Rattle.gv_scriptnodes.proofs.Named.{node_adding}

joins : (xs ys zs : Mentions) → (xs ++ ys) ++ zs ≡ xs ++ (ys ++ zs)
joins [] ys zs = refl
joins (x ∷ xs) ys zs = ap (λ (ms : Mentions). x ∷ ms) (joins xs ys zs)

cancel : (xs ys zs : Mentions) → xs ++ ys ≡ xs ++ zs → ys ≡ zs
cancel [] ys zs e = e
cancel (x ∷ xs) ys zs e = let r : xs ++ ys ≡ xs ++ zs = cc in cancel xs ys zs r

module _ (text : List ℕ) (nodes : List Node) (formed : IsFormed text nodes) where
  pub none_gathered : (at from : ℕ) → at < length nodes → ((node : Node) → slice_get nodes at ≡ Some node → from ≡ first_of at node) → IsGathered text nodes from from []
  none_gathered at from less first =
      let w = within_end text nodes at less in
      let m = formed at w.0 w.1 in
      let q = first w.0 w.1 in
      let start : built text (take from nodes) ≡ Some m.before = ap (λ (n : ℕ). built text (take n nodes)) q ∙ m.kept in
      record { before = m.before; parts = m.before; start = start; here = start; same = sym (nil_right (in_parts m.before)) }

  pub from_below : (at from : ℕ) → at < length nodes → ((node : Node) → slice_get nodes at ≡ Some node → from ≡ first_of at node) → from < at + 1
  from_below at from less first =
      let w = within_end text nodes at less in
      let s = (formed at w.0 w.1).some in
      let q = first w.0 w.1 in
      omega (arith, s, q)

  -- one node more
  pub one_gathered : (from place : ℕ) (mentions : Mentions) → place < length nodes → IsGathered text nodes from place mentions → IsGathered text nodes from (place + 1) (mentions ++ named_at text nodes place)
  one_gathered from place mentions less g =
      let w = within_end text nodes place less in
      let m = formed place w.0 w.1 in
      record {
        before = g.before;
        parts = m.part ∷ m.before;
        start = g.start;
        here = m.made;
        same =
            node_adding text nodes place w.0 g.parts (m.part ∷ m.before) w.1 g.here m.made
            ∙ (ap (λ (ms : Mentions). ms ++ named_at text nodes place) g.same ∙ joins (in_parts g.before) mentions (named_at text nodes place));
      }

  pub some_gathered : (from place : ℕ) (mentions : Mentions) (mention : Mention) → place < length nodes → IsGathered text nodes from place mentions → named_at text nodes place ≡ mention ∷ []
      → IsGathered text nodes from (place + 1) (mentions ++ mention ∷ [])
  some_gathered from place mentions mention less g e =
      subst (λ (ms : Mentions). IsGathered text nodes from (place + 1) (mentions ++ ms)) e (one_gathered from place mentions less g)

  pub nothing_gathered : (from place : ℕ) (mentions : Mentions) → place < length nodes → IsGathered text nodes from place mentions → named_at text nodes place ≡ []
      → IsGathered text nodes from (place + 1) mentions
  nothing_gathered from place mentions less g e =
      subst (λ (ms : Mentions). IsGathered text nodes from (place + 1) ms) (nil_right mentions)
      (subst (λ (ms : Mentions). IsGathered text nodes from (place + 1) (mentions ++ ms)) e (one_gathered from place mentions less g))

  -- all nodes of a part
  pub all_gathered : (at from : ℕ) (mentions : Mentions) → at < length nodes → ((node : Node) → slice_get nodes at ≡ Some node → from ≡ first_of at node) → IsGathered text nodes from (at + 1) mentions
      → (part : Part ScriptPart) → IsPartAt text nodes at part → mentions ≡ in_part part
  all_gathered at from mentions less first g part is =
      let w = within_end text nodes at less in
      let m = formed at w.0 w.1 in
      let start : Some g.before ≡ Some m.before = sym g.start ∙ (ap (λ (n : ℕ). built text (take n nodes)) (first w.0 w.1) ∙ m.kept) in
      let before : g.before ≡ m.before = cc in
      let here : Some g.parts ≡ Some (m.part ∷ m.before) = sym g.here ∙ m.made in
      let parts : g.parts ≡ m.part ∷ m.before = cc in
      let there : Some (part ∷ is.before) ≡ Some (m.part ∷ m.before) = sym is.made ∙ m.made in
      let same : m.part ≡ part = cc in
      cancel (in_parts m.before) mentions (in_part part)
      (ap (λ (ps : Parts). in_parts ps ++ mentions) (sym before) ∙ (sym g.same ∙ (ap in_parts parts ∙ ap (λ (p : Part ScriptPart). in_parts m.before ++ in_part p) same)))
