-- The last node of a script is the whole script.
use Rattle.std.proofs.Common.{◌≡◌, ℕ, ◌+◌, ◌-◌, ◌<◌, List, [], ◌∷◌, length, Some, refl, ap, ◌∙◌, arith}
use Rattle.std.specs.Prelude.{take, map}
use Rattle.gv_termread.specs.declared.generated.term_acts.Part.TheVariants.{Other as POther}
use Rattle.gv_scriptsyntax.specs.declared.generated.script_acts.ScriptPart.TheVariants.{Script as PScript}
use Rattle.gv_termread.specs.declared.token.SeenToken.{SeenToken}
use Rattle.gv_scriptsyntax.specs.declared.tree.Par.{Par}
use Rattle.gv_scriptsyntax.specs.declared.tree.Item.{Item}
use Rattle.gv_scriptsyntax.specs.declared.tree.Case.{Case}
use Rattle.gv_scriptsyntax.specs.declared.tree.Script.{Script}
use Rattle.gv_scriptsyntax.specs.declared.node.Node.{Node}
use Rattle.gv_scriptsyntax.specs.Nodes.{built, IsPartAt, IsTreeOf}
use Rattle.gv_scriptsyntax.proofs.Nodes.{take_whole}
use Rattle.gv_scriptnames.specs.declared.outline.BookOutline.{BookOutline}
use Rattle.gv_scriptnames.specs.declared.outline.CaseOutline.{CaseOutline}
use Rattle.gv_scriptnames.specs.declared.outline.PredOutline.{PredOutline}
use Rattle.gv_scriptnames.specs.declared.outline.BodyOutline.{BodyOutline}
use Rattle.gv_scriptnames.specs.declared.outline.OpOutline.{OpOutline}
use Rattle.gv_scriptnames.specs.declared.outline.ProcOutline.{ProcOutline}
use Rattle.gv_scriptnames.specs.declared.outline.Outline.{Outline}
use Rattle.gv_scriptnames.specs.Mentions.{Mentions, in_items, in_block}
use Rattle.gv_scriptnames.specs.Outlines.{of_book, of_case, of_pred, of_body, of_op, of_proc, outline_of}
use Rattle.gv_scriptnodes.specs.Places.{act_at, IsSomeScript}
use Rattle.gv_scriptnodes.proofs.Ends.{script_act}

pub some_nodes : (text : List ℕ) (nodes : List Node) (script : Script) → IsTreeOf text nodes script → 0 < length nodes
some_nodes text [] script is = let w : Some [] ≡ Some (POther (PScript script) ∷ []) = is.whole in absurd cc
some_nodes text (n ∷ nodes) script is = omega arith

pub last_part : (text : List ℕ) (nodes : List Node) (script : Script) → IsTreeOf text nodes script → IsPartAt text nodes (length nodes - 1) (POther (PScript script))
last_part text nodes script is =
    let some = some_nodes text nodes script is in
    let z : (length nodes - 1) + 1 ≡ length nodes = omega (arith, some) in
    record { before = []; made = ap (λ (n : ℕ). built text (take n nodes)) z ∙ (ap (built text) (take_whole text nodes) ∙ is.whole) }

pub act_script : (text : List ℕ) (nodes : List Node) → IsSomeScript text nodes → act_at nodes (length nodes - 1) ≡ 125
act_script text nodes some =
    let more = some_nodes text nodes some.script some.tree in
    script_act text nodes (length nodes - 1) (omega (arith, more)) some.script (last_part text nodes some.script some.tree)

-- ---- outlines by their parts

abbrev case_with : List Par → Mentions → CaseOutline
case_with vars items = record { vars = vars; items = items }

abbrev tree_of : List Par → List Item → Case
tree_of vars items = record { vars = vars; items = items }

pub case_same : (vars others : List Par) (ms : Mentions) (items : List Item) (case : Case) → vars ≡ others → ms ≡ in_items items → case ≡ tree_of others items → case_with vars ms ≡ of_case case
case_same vars others ms items case p q r = rw (p, q, r) refl

abbrev outline_with : List BookOutline → List PredOutline → SeenToken → SeenToken → Mentions → BodyOutline → List OpOutline → List ProcOutline → Outline
outline_with books preds crash root init recover ops procs =
    record { books = books; preds = preds; crash = crash; root = root; init = init; recover = recover; ops = ops; procs = procs }

pub outline_same : (s t : Script) (books : List BookOutline) (preds : List PredOutline) (crash root : SeenToken) (init : Mentions) (recover : BodyOutline) (ops : List OpOutline) (procs : List ProcOutline)
    → s ≡ t → books ≡ map of_book t.books → preds ≡ map of_pred t.preds → crash ≡ t.crash → root ≡ t.root → init ≡ in_block t.init → recover ≡ of_body t.recover t.cuts
    → ops ≡ map of_op t.ops → procs ≡ map of_proc t.procs → outline_with books preds crash root init recover ops procs ≡ outline_of s
outline_same s t books preds crash root init recover ops procs e a b c d f g h i = rw (a, b, c, d, f, g, h, i, e) refl
