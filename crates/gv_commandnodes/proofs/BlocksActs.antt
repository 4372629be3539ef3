-- Blocks nodes by the acts that make them. Made by tools/script_nodes.py from script.grammar: edit that.
use Rattle.std.proofs.Common.{◌≡◌, ℕ, true, List, [], ◌∷◌, Some, refl, ap, ◌∙◌}
use Rattle.std.specs.Prelude.{drop, take}
use Rattle.gv_grammar.specs.Building.{has_tops}
use Rattle.gv_termread.specs.declared.generated.term_acts.Part.TheVariants.{Other as POther}
use Rattle.gv_scriptsyntax.specs.declared.generated.script_acts.ScriptPart.TheVariants.{Block as PBlock, Blocks as PBlocks}
use Rattle.gv_scriptsyntax.specs.declared.tree.Block.{Block}
use Rattle.gv_scriptsyntax.specs.declared.node.Node.{Node}
use Rattle.gv_scriptsyntax.specs.declared.node.Node.TheVariants.{Made}
use Rattle.gv_scriptsyntax.specs.declared.generated.script_table.TheConstants as act
use Rattle.gv_scriptsyntax.specs.ScriptActs.{is_block, is_blocks, made_next_block, made_no_blocks}
use Rattle.gv_scriptsyntax.specs.Nodes.{Parts, built, IsPartAt}
use Rattle.gv_scriptnodes.specs.Places.{IsChild}
use Rattle.gv_scriptnodes.proofs.Opened.{opened}
use Rattle.gv_scriptnodes.proofs.Tops.{accepted, top_block, top_blocks}
use Rattle.gv_certnodes.specs.Places.{IsMadeBy}
use Rattle.gv_commandnodes.specs.Blocks.{IsNextBlock}
use Rattle.gv_certnodes.proofs.Opened.{at_part, same_act}

no_blocks_end : (text : List ℕ) (nodes : List Node) (at : ℕ)
    → (whole : List Block) (parts rest : Parts) (behind : Parts) → built text (take at nodes) ≡ Some parts → parts ≡ behind
    → POther (PBlocks whole) ∷ rest ≡ POther (PBlocks (made_no_blocks parts)) ∷ drop 0 parts → whole ≡ []
no_blocks_end text nodes at whole parts rest behind before shape q =
    let made : whole ≡ made_no_blocks parts = cc in
    made ∙ ap (λ (ps : Parts). made_no_blocks ps) shape

pub no_blocks_is : (text : List ℕ) (nodes : List Node) (at : ℕ) → IsMadeBy nodes at act.ACT_NO_BLOCKS
    → (whole : List Block) → IsPartAt text nodes at (POther (PBlocks whole)) → whole ≡ []
no_blocks_is text nodes at by whole is =
    let o = opened text nodes at (Made by.raw by.from) (POther (PBlocks whole)) by.node is in
    let a = accepted text act.ACT_NO_BLOCKS o.parts (POther (PBlocks whole) ∷ o.rest) (same_act text by.raw act.ACT_NO_BLOCKS o.parts by.number ∙ o.done) in
    go o.parts o.rest o.before a.0 a.1
  where
    go : (parts rest : Parts) → built text (take at nodes) ≡ Some parts → has_tops ([]) parts ≡ true → POther (PBlocks whole) ∷ rest ≡ POther (PBlocks (made_no_blocks parts)) ∷ drop 0 parts → whole ≡ []
    go parts rest before h q =
        no_blocks_end text nodes at whole parts rest parts before refl q

next_block_end : (text : List ℕ) (nodes : List Node) (at : ℕ) (at_blocks : ℕ) (at_block : ℕ) → IsChild text nodes at 1 at_blocks → IsChild text nodes at 0 at_block
    → (whole : List Block) (parts rest : Parts) (block : Block) (blocks : List Block) (behind : Parts) → built text (take at nodes) ≡ Some parts → parts ≡ POther (PBlock block) ∷ POther (PBlocks blocks) ∷ behind
    → POther (PBlocks whole) ∷ rest ≡ POther (PBlocks (made_next_block parts)) ∷ drop 2 parts → IsNextBlock text nodes at at_blocks at_block whole
next_block_end text nodes at at_blocks at_block known_blocks known_block whole parts rest block blocks behind before shape q =
    let made : whole ≡ made_next_block parts = cc in
    record {
      of_blocks = blocks;
      of_block = block;
      at_blocks = at_part text nodes at 1 at_blocks parts (behind) (POther (PBlocks blocks)) known_blocks before (ap (λ (ps : Parts). drop 1 ps) shape);
      at_block = at_part text nodes at 0 at_block parts (POther (PBlocks blocks) ∷ behind) (POther (PBlock block)) known_block before (ap (λ (ps : Parts). drop 0 ps) shape);
      made = made ∙ ap (λ (ps : Parts). made_next_block ps) shape;
    }

pub next_block_is : (text : List ℕ) (nodes : List Node) (at : ℕ) (at_blocks : ℕ) (at_block : ℕ) → IsMadeBy nodes at act.ACT_NEXT_BLOCK → IsChild text nodes at 1 at_blocks → IsChild text nodes at 0 at_block
    → (whole : List Block) → IsPartAt text nodes at (POther (PBlocks whole)) → IsNextBlock text nodes at at_blocks at_block whole
next_block_is text nodes at at_blocks at_block by known_blocks known_block whole is =
    let o = opened text nodes at (Made by.raw by.from) (POther (PBlocks whole)) by.node is in
    let a = accepted text act.ACT_NEXT_BLOCK o.parts (POther (PBlocks whole) ∷ o.rest) (same_act text by.raw act.ACT_NEXT_BLOCK o.parts by.number ∙ o.done) in
    go o.parts o.rest o.before a.0 a.1
  where
    go : (parts rest : Parts) → built text (take at nodes) ≡ Some parts → has_tops (is_block ∷ is_blocks ∷ []) parts ≡ true → POther (PBlocks whole) ∷ rest ≡ POther (PBlocks (made_next_block parts)) ∷ drop 2 parts → IsNextBlock text nodes at at_blocks at_block whole
    go parts rest before h q =
        top_block (is_blocks ∷ []) parts h (λ x0 r0 e0 h0.
        top_blocks ([]) r0 h0 (λ x1 r1 e1 h1.
        next_block_end text nodes at at_blocks at_block known_blocks known_block whole parts rest x0 x1 r1 before (e0 ∙ ap (λ (ps : Parts). POther (PBlock x0) ∷ ps) e1) q))
