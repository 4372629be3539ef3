-- The numbers of a whole script, by the commands that its nodes begin.
use Rattle.std.proofs.Common.{◌≡◌, ℕ, false, List, [], ◌∷◌, ◌++◌, length, refl, sym, ap, ◌∙◌}
use Rattle.std.specs.Prelude.{map}
use Rattle.gv_base.specs.declared.answers.Place.{Place}
use Rattle.gv_base.specs.Places.{place_at}
use Rattle.gv_termread.specs.declared.generated.term_acts.Part.TheVariants.{Other as POther}
use Rattle.gv_termread.specs.declared.token.SeenToken.{SeenToken}
use Rattle.gv_scriptsyntax.specs.declared.generated.script_acts.ScriptPart.TheVariants.{Script as PScript}
use Rattle.gv_scriptsyntax.specs.declared.node.Node.{Node}
use Rattle.gv_scriptsyntax.specs.declared.tree.Script.{Script}
use Rattle.gv_scriptsyntax.specs.Nodes.{IsTreeOf}
use Rattle.gv_scriptnumbers.specs.Numbers.{Starts, numbered}
use Rattle.gv_scriptplaces.specs.Begun.{begun}
use Rattle.gv_scriptplaces.proofs.Stacks.{inner}
use Rattle.gv_scriptplaces.proofs.Telling.{nodes_told}

-- the commands that the nodes of a script begin are all but `crash` and `root`
pub script_begun : (text : List ℕ) (nodes : List Node) (s : Script) → IsTreeOf text nodes s → inner (PScript s) ≡ begun false nodes
script_begun text nodes s is = (nodes_told text nodes [] (POther (PScript s) ∷ []) is.whole refl).same

-- `crash` and `root`, and behind them these
pub numbers_so : (s : Script) (crash root : SeenToken) (all : Starts) {none one two done : Starts} → done ≡ two ++ all → two ≡ one ++ root.start ∷ [] → one ≡ none ++ crash.start ∷ [] → none ≡ []
    → crash ≡ s.crash_word → root ≡ s.root_word → inner (PScript s) ≡ all → done ≡ numbered s
numbers_so s crash root all e f g h p q r =
    let so : crash.start ∷ root.start ∷ all ≡ numbered s = rw (p, q, sym r) refl in
    e ∙ (ap (λ (xs : Starts). xs ++ all) (f ∙ ap (λ (xs : Starts). xs ++ root.start ∷ []) (g ∙ ap (λ (xs : Starts). xs ++ crash.start ∷ []) h)) ∙ so)

map_end : (f : ℕ → Place) (xs : List ℕ) (x : ℕ) → map f (xs ++ x ∷ []) ≡ map f xs ++ f x ∷ []
map_end f [] x = refl
map_end f (y ∷ xs) x = ap (λ (ys : List Place). f y ∷ ys) (map_end f xs x)

-- places of bytes, and the last one
pub places_end : (text : List ℕ) (starts others : List ℕ) → starts ≡ others → map (place_at text) starts ++ place_at text (length text) ∷ [] ≡ map (place_at text) (others ++ length text ∷ [])
places_end text starts others e = ap (λ (xs : List ℕ). map (place_at text) xs ++ place_at text (length text) ∷ []) e ∙ sym (map_end (place_at text) others (length text))
