-- Acts that make lists of commands, blocks, and what has blocks.
use Rattle.std.proofs.Common.{◌≡◌, true, List, [], ◌∷◌, ◌++◌, Option, Some, None, refl, sym, ap, subst, ◌∙◌}
use Rattle.std.specs.Prelude.{drop}
use Rattle.gv_termread.specs.declared.generated.term_acts.Part.TheVariants.{Token as PToken, Other as POther}
use Rattle.gv_termread.specs.declared.token.SeenToken.{SeenToken}
use Rattle.gv_termread.specs.TermActs.{is_token}
use Rattle.gv_scriptsyntax.specs.declared.generated.script_acts.ScriptPart.TheVariants.{Arm as PArm, Arms as PArms, Block as PBlock, Blocks as PBlocks, Books as PBooks, Command as PCommand, Commands as PCommands, Cuts as PCuts, Ending as PEnding, Items as PItems, MaybeBlock as PMaybeBlock, MaybeInst as PMaybeInst, Names as PNames, Ops as POps, Pars as PPars, Preds as PPreds, Procs as PProcs, Script as PScript}
use Rattle.gv_scriptsyntax.specs.declared.tree.Par.{Par}
use Rattle.gv_scriptsyntax.specs.declared.tree.Inst.{Inst}
use Rattle.gv_scriptsyntax.specs.declared.tree.Item.{Item}
use Rattle.gv_scriptsyntax.specs.declared.tree.Block.{Block}
use Rattle.gv_scriptsyntax.specs.declared.tree.Arm.{Arm}
use Rattle.gv_scriptsyntax.specs.declared.tree.Command.{Command}
use Rattle.gv_scriptsyntax.specs.declared.tree.Book.{Book}
use Rattle.gv_scriptsyntax.specs.declared.tree.Pred.{Pred}
use Rattle.gv_scriptsyntax.specs.declared.tree.Cut.{Cut}
use Rattle.gv_scriptsyntax.specs.declared.tree.Op.{Op}
use Rattle.gv_scriptsyntax.specs.declared.tree.Proc.{Proc}
use Rattle.gv_scriptsyntax.specs.ScriptActs.{is_names, is_pars, is_maybe_inst, is_items, is_command, is_commands, is_ending, is_block, is_blocks, is_arm, is_arms, is_books, is_preds, is_cuts, is_ops, is_procs, made_no_during, made_during, made_no_blocks, made_next_block, made_no_arms, made_next_arm, made_arm, made_no_commands, made_command, made_last, made_block, made_no_cuts, made_cut, made_no_ops, made_op, made_no_procs, made_proc, made_script}
use Rattle.gv_scriptsyntax.specs.Nodes.{Parts}
use Rattle.gv_scriptnumbers.specs.Numbers.{of_arm, of_block, of_command, of_cut, of_op, of_proc}
use Rattle.gv_scriptnumbers.proofs.Constructs.{all_numbered}
use Rattle.gv_scriptnodes.proofs.Tops.{top_token, top_names, top_pars, top_maybe_inst, top_items, top_command, top_commands, top_ending, top_block, top_blocks, top_arm, top_arms, top_books, top_preds, top_cuts, top_ops, top_procs}
use Rattle.gv_scriptplaces.proofs.Stacks.{nil_right, joins, by_each_end, joined_end, good, other_on, Kept, Keeps}

no_during_kept : (rest : Parts) → good (POther (PMaybeBlock None) ∷ rest) ≡ true → Kept 99 (rest) (POther (PMaybeBlock None) ∷ rest)
no_during_kept rest g =
    let off = other_on (POther (PMaybeBlock None)) rest refl refl g in
    record { good = off.1; same = simp (nil_right, joins) refl; list = refl }

pub no_during_keeps : Keeps 99 (record { takes = []; makes = λ parts. POther (PMaybeBlock (made_no_during parts)) })
no_during_keeps parts h g = no_during_kept parts g

during_kept : (block : Block) (x1 : SeenToken) (rest : Parts) → good (POther (PMaybeBlock (Some block)) ∷ rest) ≡ true → Kept 100 (POther (PBlock block) ∷ PToken x1 ∷ rest) (POther (PMaybeBlock (Some block)) ∷ rest)
during_kept block x1 rest g =
    let off = other_on (POther (PMaybeBlock (Some block))) rest refl refl g in
    record { good = rw (off.0, off.1) refl; same = rw (off.0) (simp (nil_right, joins) refl); list = refl }

pub during_keeps : Keeps 100 (record { takes = is_block ∷ is_token ∷ []; makes = λ parts. POther (PMaybeBlock (made_during parts)) })
during_keeps parts h g =
    top_block (is_token ∷ []) parts h (λ x0 r0 e0 h0.
    top_token ([]) r0 h0 (λ x1 r1 e1 h1.
    subst (λ (ps : Parts). good (POther (PMaybeBlock (made_during ps)) ∷ drop 2 ps) ≡ true → Kept 100 ps (POther (PMaybeBlock (made_during ps)) ∷ drop 2 ps)) (sym (e0 ∙ ap (λ (ps : Parts). POther (PBlock x0) ∷ ps) (e1))) (during_kept x0 x1 r1) g))

no_blocks_kept : (rest : Parts) → good (POther (PBlocks []) ∷ rest) ≡ true → Kept 101 (rest) (POther (PBlocks []) ∷ rest)
no_blocks_kept rest g =
    let off = other_on (POther (PBlocks [])) rest refl refl g in
    record { good = off.1; same = simp (nil_right, joins) refl; list = refl }

pub no_blocks_keeps : Keeps 101 (record { takes = []; makes = λ parts. POther (PBlocks (made_no_blocks parts)) })
no_blocks_keeps parts h g = no_blocks_kept parts g

next_block_kept : (block : Block) (blocks : List Block) (rest : Parts) → good (POther (PBlocks (blocks ++ block ∷ [])) ∷ rest) ≡ true → Kept 102 (POther (PBlock block) ∷ POther (PBlocks blocks) ∷ rest) (POther (PBlocks (blocks ++ block ∷ [])) ∷ rest)
next_block_kept block blocks rest g =
    let off = other_on (POther (PBlocks (blocks ++ block ∷ []))) rest refl refl g in
    record { good = rw (off.0, off.1) refl; same = rw (joined_end of_block blocks block) (simp (nil_right, joins) refl); list = refl }

pub next_block_keeps : Keeps 102 (record { takes = is_block ∷ is_blocks ∷ []; makes = λ parts. POther (PBlocks (made_next_block parts)) })
next_block_keeps parts h g =
    top_block (is_blocks ∷ []) parts h (λ x0 r0 e0 h0.
    top_blocks ([]) r0 h0 (λ x1 r1 e1 h1.
    subst (λ (ps : Parts). good (POther (PBlocks (made_next_block ps)) ∷ drop 2 ps) ≡ true → Kept 102 ps (POther (PBlocks (made_next_block ps)) ∷ drop 2 ps)) (sym (e0 ∙ ap (λ (ps : Parts). POther (PBlock x0) ∷ ps) (e1))) (next_block_kept x0 x1 r1) g))

no_arms_kept : (rest : Parts) → good (POther (PArms []) ∷ rest) ≡ true → Kept 103 (rest) (POther (PArms []) ∷ rest)
no_arms_kept rest g =
    let off = other_on (POther (PArms [])) rest refl refl g in
    record { good = off.1; same = simp (nil_right, joins) refl; list = refl }

pub no_arms_keeps : Keeps 103 (record { takes = []; makes = λ parts. POther (PArms (made_no_arms parts)) })
no_arms_keeps parts h g = no_arms_kept parts g

next_arm_kept : (arm : Arm) (arms : List Arm) (rest : Parts) → good (POther (PArms (arms ++ arm ∷ [])) ∷ rest) ≡ true → Kept 104 (POther (PArm arm) ∷ POther (PArms arms) ∷ rest) (POther (PArms (arms ++ arm ∷ [])) ∷ rest)
next_arm_kept arm arms rest g =
    let off = other_on (POther (PArms (arms ++ arm ∷ []))) rest refl refl g in
    record { good = rw (off.0, off.1) refl; same = rw (joined_end of_arm arms arm) (simp (nil_right, joins) refl); list = refl }

pub next_arm_keeps : Keeps 104 (record { takes = is_arm ∷ is_arms ∷ []; makes = λ parts. POther (PArms (made_next_arm parts)) })
next_arm_keeps parts h g =
    top_arm (is_arms ∷ []) parts h (λ x0 r0 e0 h0.
    top_arms ([]) r0 h0 (λ x1 r1 e1 h1.
    subst (λ (ps : Parts). good (POther (PArms (made_next_arm ps)) ∷ drop 2 ps) ≡ true → Kept 104 ps (POther (PArms (made_next_arm ps)) ∷ drop 2 ps)) (sym (e0 ∙ ap (λ (ps : Parts). POther (PArm x0) ∷ ps) (e1))) (next_arm_kept x0 x1 r1) g))

arm_kept : (end : SeenToken) (commands : List Command) (names : List SeenToken) (start : SeenToken) (rest : Parts) → good (POther (PArm (record { names = names; block = record { start = start; commands = commands; end = end } })) ∷ rest) ≡ true → Kept 105 (PToken end ∷ POther (PCommands commands) ∷ POther (PNames names) ∷ PToken start ∷ rest) (POther (PArm (record { names = names; block = record { start = start; commands = commands; end = end } })) ∷ rest)
arm_kept end commands names start rest g =
    let off = other_on (POther (PArm (record { names = names; block = record { start = start; commands = commands; end = end } }))) rest refl refl g in
    record { good = rw (off.0, off.1) refl; same = rw (off.0, all_numbered.an_arm names (record { start = start; commands = commands; end = end }), all_numbered.a_block start end commands) (simp (nil_right, joins) refl); list = refl }

pub arm_keeps : Keeps 105 (record { takes = is_token ∷ is_commands ∷ is_names ∷ is_token ∷ []; makes = λ parts. POther (PArm (made_arm parts)) })
arm_keeps parts h g =
    top_token (is_commands ∷ is_names ∷ is_token ∷ []) parts h (λ x0 r0 e0 h0.
    top_commands (is_names ∷ is_token ∷ []) r0 h0 (λ x1 r1 e1 h1.
    top_names (is_token ∷ []) r1 h1 (λ x2 r2 e2 h2.
    top_token ([]) r2 h2 (λ x3 r3 e3 h3.
    subst (λ (ps : Parts). good (POther (PArm (made_arm ps)) ∷ drop 4 ps) ≡ true → Kept 105 ps (POther (PArm (made_arm ps)) ∷ drop 4 ps)) (sym (e0 ∙ ap (λ (ps : Parts). PToken x0 ∷ ps) (e1 ∙ ap (λ (ps : Parts). POther (PCommands x1) ∷ ps) (e2 ∙ ap (λ (ps : Parts). POther (PNames x2) ∷ ps) (e3))))) (arm_kept x0 x1 x2 x3 r3) g))))

no_commands_kept : (rest : Parts) → good (POther (PCommands []) ∷ rest) ≡ true → Kept 106 (rest) (POther (PCommands []) ∷ rest)
no_commands_kept rest g =
    let off = other_on (POther (PCommands [])) rest refl refl g in
    record { good = off.1; same = simp (nil_right, joins) refl; list = refl }

pub no_commands_keeps : Keeps 106 (record { takes = []; makes = λ parts. POther (PCommands (made_no_commands parts)) })
no_commands_keeps parts h g = no_commands_kept parts g

command_kept : (x0 : SeenToken) (next : Command) (commands : List Command) (rest : Parts) → good (POther (PCommands (commands ++ next ∷ [])) ∷ rest) ≡ true → Kept 107 (PToken x0 ∷ POther (PCommand next) ∷ POther (PCommands commands) ∷ rest) (POther (PCommands (commands ++ next ∷ [])) ∷ rest)
command_kept x0 next commands rest g =
    let off = other_on (POther (PCommands (commands ++ next ∷ []))) rest refl refl g in
    record { good = rw (off.0, off.1) refl; same = rw (joined_end of_command commands next) (simp (nil_right, joins) refl); list = refl }

pub command_keeps : Keeps 107 (record { takes = is_token ∷ is_command ∷ is_commands ∷ []; makes = λ parts. POther (PCommands (made_command parts)) })
command_keeps parts h g =
    top_token (is_command ∷ is_commands ∷ []) parts h (λ x0 r0 e0 h0.
    top_command (is_commands ∷ []) r0 h0 (λ x1 r1 e1 h1.
    top_commands ([]) r1 h1 (λ x2 r2 e2 h2.
    subst (λ (ps : Parts). good (POther (PCommands (made_command ps)) ∷ drop 3 ps) ≡ true → Kept 107 ps (POther (PCommands (made_command ps)) ∷ drop 3 ps)) (sym (e0 ∙ ap (λ (ps : Parts). PToken x0 ∷ ps) (e1 ∙ ap (λ (ps : Parts). POther (PCommand x1) ∷ ps) (e2)))) (command_kept x0 x1 x2 r2) g)))

last_kept : (x0 : Option SeenToken) (last : Command) (commands : List Command) (rest : Parts) → good (POther (PCommands (commands ++ last ∷ [])) ∷ rest) ≡ true → Kept 108 (POther (PEnding x0) ∷ POther (PCommand last) ∷ POther (PCommands commands) ∷ rest) (POther (PCommands (commands ++ last ∷ [])) ∷ rest)
last_kept x0 last commands rest g =
    let off = other_on (POther (PCommands (commands ++ last ∷ []))) rest refl refl g in
    record { good = rw (off.0, off.1) refl; same = rw (joined_end of_command commands last) (simp (nil_right, joins) refl); list = refl }

pub last_keeps : Keeps 108 (record { takes = is_ending ∷ is_command ∷ is_commands ∷ []; makes = λ parts. POther (PCommands (made_last parts)) })
last_keeps parts h g =
    top_ending (is_command ∷ is_commands ∷ []) parts h (λ x0 r0 e0 h0.
    top_command (is_commands ∷ []) r0 h0 (λ x1 r1 e1 h1.
    top_commands ([]) r1 h1 (λ x2 r2 e2 h2.
    subst (λ (ps : Parts). good (POther (PCommands (made_last ps)) ∷ drop 3 ps) ≡ true → Kept 108 ps (POther (PCommands (made_last ps)) ∷ drop 3 ps)) (sym (e0 ∙ ap (λ (ps : Parts). POther (PEnding x0) ∷ ps) (e1 ∙ ap (λ (ps : Parts). POther (PCommand x1) ∷ ps) (e2)))) (last_kept x0 x1 x2 r2) g)))

block_kept : (end : SeenToken) (commands : List Command) (start : SeenToken) (rest : Parts) → good (POther (PBlock (record { start = start; commands = commands; end = end })) ∷ rest) ≡ true → Kept 111 (PToken end ∷ POther (PCommands commands) ∷ PToken start ∷ rest) (POther (PBlock (record { start = start; commands = commands; end = end })) ∷ rest)
block_kept end commands start rest g =
    let off = other_on (POther (PBlock (record { start = start; commands = commands; end = end }))) rest refl refl g in
    record { good = rw (off.0, off.1) refl; same = rw (off.0, all_numbered.a_block start end commands) (simp (nil_right, joins) refl); list = refl }

pub block_keeps : Keeps 111 (record { takes = is_token ∷ is_commands ∷ is_token ∷ []; makes = λ parts. POther (PBlock (made_block parts)) })
block_keeps parts h g =
    top_token (is_commands ∷ is_token ∷ []) parts h (λ x0 r0 e0 h0.
    top_commands (is_token ∷ []) r0 h0 (λ x1 r1 e1 h1.
    top_token ([]) r1 h1 (λ x2 r2 e2 h2.
    subst (λ (ps : Parts). good (POther (PBlock (made_block ps)) ∷ drop 3 ps) ≡ true → Kept 111 ps (POther (PBlock (made_block ps)) ∷ drop 3 ps)) (sym (e0 ∙ ap (λ (ps : Parts). PToken x0 ∷ ps) (e1 ∙ ap (λ (ps : Parts). POther (PCommands x1) ∷ ps) (e2)))) (block_kept x0 x1 x2 r2) g)))

no_cuts_kept : (rest : Parts) → good (POther (PCuts []) ∷ rest) ≡ true → Kept 119 (rest) (POther (PCuts []) ∷ rest)
no_cuts_kept rest g =
    let off = other_on (POther (PCuts [])) rest refl refl g in
    record { good = off.1; same = simp (nil_right, joins) refl; list = refl }

pub no_cuts_keeps : Keeps 119 (record { takes = []; makes = λ parts. POther (PCuts (made_no_cuts parts)) })
no_cuts_keeps parts h g = no_cuts_kept parts g

cut_kept : (block : Block) (items : List Item) (vars : List Par) (x3 : SeenToken) (locals : List SeenToken) (x5 : SeenToken) (mode : SeenToken) (number : SeenToken) (x8 : SeenToken) (name : SeenToken) (x10 : SeenToken) (cuts : List Cut) (rest : Parts) → good (POther (PCuts (cuts ++ (record { name = name; number = number; mode = mode; locals = locals; vars = vars; items = items; block = block }) ∷ [])) ∷ rest) ≡ true → Kept 120 (POther (PBlock block) ∷ POther (PItems items) ∷ POther (PPars vars) ∷ PToken x3 ∷ POther (PNames locals) ∷ PToken x5 ∷ PToken mode ∷ PToken number ∷ PToken x8 ∷ PToken name ∷ PToken x10 ∷ POther (PCuts cuts) ∷ rest) (POther (PCuts (cuts ++ (record { name = name; number = number; mode = mode; locals = locals; vars = vars; items = items; block = block }) ∷ [])) ∷ rest)
cut_kept block items vars x3 locals x5 mode number x8 name x10 cuts rest g =
    let off = other_on (POther (PCuts (cuts ++ (record { name = name; number = number; mode = mode; locals = locals; vars = vars; items = items; block = block }) ∷ []))) rest refl refl g in
    record { good = rw (off.0, off.1) refl; same = rw (by_each_end of_cut cuts (record { name = name; number = number; mode = mode; locals = locals; vars = vars; items = items; block = block })) (simp (nil_right, joins) refl); list = refl }

pub cut_keeps : Keeps 120 (record { takes = is_block ∷ is_items ∷ is_pars ∷ is_token ∷ is_names ∷ is_token ∷ is_token ∷ is_token ∷ is_token ∷ is_token ∷ is_token ∷ is_cuts ∷ []; makes = λ parts. POther (PCuts (made_cut parts)) })
cut_keeps parts h g =
    top_block (is_items ∷ is_pars ∷ is_token ∷ is_names ∷ is_token ∷ is_token ∷ is_token ∷ is_token ∷ is_token ∷ is_token ∷ is_cuts ∷ []) parts h (λ x0 r0 e0 h0.
    top_items (is_pars ∷ is_token ∷ is_names ∷ is_token ∷ is_token ∷ is_token ∷ is_token ∷ is_token ∷ is_token ∷ is_cuts ∷ []) r0 h0 (λ x1 r1 e1 h1.
    top_pars (is_token ∷ is_names ∷ is_token ∷ is_token ∷ is_token ∷ is_token ∷ is_token ∷ is_token ∷ is_cuts ∷ []) r1 h1 (λ x2 r2 e2 h2.
    top_token (is_names ∷ is_token ∷ is_token ∷ is_token ∷ is_token ∷ is_token ∷ is_token ∷ is_cuts ∷ []) r2 h2 (λ x3 r3 e3 h3.
    top_names (is_token ∷ is_token ∷ is_token ∷ is_token ∷ is_token ∷ is_token ∷ is_cuts ∷ []) r3 h3 (λ x4 r4 e4 h4.
    top_token (is_token ∷ is_token ∷ is_token ∷ is_token ∷ is_token ∷ is_cuts ∷ []) r4 h4 (λ x5 r5 e5 h5.
    top_token (is_token ∷ is_token ∷ is_token ∷ is_token ∷ is_cuts ∷ []) r5 h5 (λ x6 r6 e6 h6.
    top_token (is_token ∷ is_token ∷ is_token ∷ is_cuts ∷ []) r6 h6 (λ x7 r7 e7 h7.
    top_token (is_token ∷ is_token ∷ is_cuts ∷ []) r7 h7 (λ x8 r8 e8 h8.
    top_token (is_token ∷ is_cuts ∷ []) r8 h8 (λ x9 r9 e9 h9.
    top_token (is_cuts ∷ []) r9 h9 (λ x10 r10 e10 h10.
    top_cuts ([]) r10 h10 (λ x11 r11 e11 h11.
    subst (λ (ps : Parts). good (POther (PCuts (made_cut ps)) ∷ drop 12 ps) ≡ true → Kept 120 ps (POther (PCuts (made_cut ps)) ∷ drop 12 ps)) (sym (e0 ∙ ap (λ (ps : Parts). POther (PBlock x0) ∷ ps) (e1 ∙ ap (λ (ps : Parts). POther (PItems x1) ∷ ps) (e2 ∙ ap (λ (ps : Parts). POther (PPars x2) ∷ ps) (e3 ∙ ap (λ (ps : Parts). PToken x3 ∷ ps) (e4 ∙ ap (λ (ps : Parts). POther (PNames x4) ∷ ps) (e5 ∙ ap (λ (ps : Parts). PToken x5 ∷ ps) (e6 ∙ ap (λ (ps : Parts). PToken x6 ∷ ps) (e7 ∙ ap (λ (ps : Parts). PToken x7 ∷ ps) (e8 ∙ ap (λ (ps : Parts). PToken x8 ∷ ps) (e9 ∙ ap (λ (ps : Parts). PToken x9 ∷ ps) (e10 ∙ ap (λ (ps : Parts). PToken x10 ∷ ps) (e11))))))))))))) (cut_kept x0 x1 x2 x3 x4 x5 x6 x7 x8 x9 x10 x11 r11) g))))))))))))

no_ops_kept : (rest : Parts) → good (POther (POps []) ∷ rest) ≡ true → Kept 121 (rest) (POther (POps []) ∷ rest)
no_ops_kept rest g =
    let off = other_on (POther (POps [])) rest refl refl g in
    record { good = off.1; same = simp (nil_right, joins) refl; list = refl }

pub no_ops_keeps : Keeps 121 (record { takes = []; makes = λ parts. POther (POps (made_no_ops parts)) })
no_ops_keeps parts h g = no_ops_kept parts g

op_kept : (cuts : List Cut) (block : Block) (name : SeenToken) (x3 : SeenToken) (ops : List Op) (rest : Parts) → good (POther (POps (ops ++ (record { name = name; block = block; cuts = cuts }) ∷ [])) ∷ rest) ≡ true → Kept 122 (POther (PCuts cuts) ∷ POther (PBlock block) ∷ PToken name ∷ PToken x3 ∷ POther (POps ops) ∷ rest) (POther (POps (ops ++ (record { name = name; block = block; cuts = cuts }) ∷ [])) ∷ rest)
op_kept cuts block name x3 ops rest g =
    let off = other_on (POther (POps (ops ++ (record { name = name; block = block; cuts = cuts }) ∷ []))) rest refl refl g in
    record { good = rw (off.0, off.1) refl; same = rw (by_each_end of_op ops (record { name = name; block = block; cuts = cuts })) (simp (nil_right, joins) refl); list = refl }

pub op_keeps : Keeps 122 (record { takes = is_cuts ∷ is_block ∷ is_token ∷ is_token ∷ is_ops ∷ []; makes = λ parts. POther (POps (made_op parts)) })
op_keeps parts h g =
    top_cuts (is_block ∷ is_token ∷ is_token ∷ is_ops ∷ []) parts h (λ x0 r0 e0 h0.
    top_block (is_token ∷ is_token ∷ is_ops ∷ []) r0 h0 (λ x1 r1 e1 h1.
    top_token (is_token ∷ is_ops ∷ []) r1 h1 (λ x2 r2 e2 h2.
    top_token (is_ops ∷ []) r2 h2 (λ x3 r3 e3 h3.
    top_ops ([]) r3 h3 (λ x4 r4 e4 h4.
    subst (λ (ps : Parts). good (POther (POps (made_op ps)) ∷ drop 5 ps) ≡ true → Kept 122 ps (POther (POps (made_op ps)) ∷ drop 5 ps)) (sym (e0 ∙ ap (λ (ps : Parts). POther (PCuts x0) ∷ ps) (e1 ∙ ap (λ (ps : Parts). POther (PBlock x1) ∷ ps) (e2 ∙ ap (λ (ps : Parts). PToken x2 ∷ ps) (e3 ∙ ap (λ (ps : Parts). PToken x3 ∷ ps) (e4)))))) (op_kept x0 x1 x2 x3 x4 r4) g)))))

no_procs_kept : (rest : Parts) → good (POther (PProcs []) ∷ rest) ≡ true → Kept 123 (rest) (POther (PProcs []) ∷ rest)
no_procs_kept rest g =
    let off = other_on (POther (PProcs [])) rest refl refl g in
    record { good = off.1; same = simp (nil_right, joins) refl; list = refl }

pub no_procs_keeps : Keeps 123 (record { takes = []; makes = λ parts. POther (PProcs (made_no_procs parts)) })
no_procs_keeps parts h g = no_procs_kept parts g

proc_kept : (cuts : List Cut) (block : Block) (post : List Item) (results : List SeenToken) (x4 : SeenToken) (pre : List Item) (x6 : SeenToken) (vars : List Par) (x8 : SeenToken) (own : Option Inst) (name : SeenToken) (x11 : SeenToken) (procs : List Proc) (rest : Parts) → good (POther (PProcs (procs ++ (record { name = name; own = own; vars = vars; pre = pre; results = results; post = post; block = block; cuts = cuts }) ∷ [])) ∷ rest) ≡ true → Kept 124 (POther (PCuts cuts) ∷ POther (PBlock block) ∷ POther (PItems post) ∷ POther (PNames results) ∷ PToken x4 ∷ POther (PItems pre) ∷ PToken x6 ∷ POther (PPars vars) ∷ PToken x8 ∷ POther (PMaybeInst own) ∷ PToken name ∷ PToken x11 ∷ POther (PProcs procs) ∷ rest) (POther (PProcs (procs ++ (record { name = name; own = own; vars = vars; pre = pre; results = results; post = post; block = block; cuts = cuts }) ∷ [])) ∷ rest)
proc_kept cuts block post results x4 pre x6 vars x8 own name x11 procs rest g =
    let off = other_on (POther (PProcs (procs ++ (record { name = name; own = own; vars = vars; pre = pre; results = results; post = post; block = block; cuts = cuts }) ∷ []))) rest refl refl g in
    record { good = rw (off.0, off.1) refl; same = rw (by_each_end of_proc procs (record { name = name; own = own; vars = vars; pre = pre; results = results; post = post; block = block; cuts = cuts })) (simp (nil_right, joins) refl); list = refl }

pub proc_keeps : Keeps 124 (record { takes = is_cuts ∷ is_block ∷ is_items ∷ is_names ∷ is_token ∷ is_items ∷ is_token ∷ is_pars ∷ is_token ∷ is_maybe_inst ∷ is_token ∷ is_token ∷ is_procs ∷ []; makes = λ parts. POther (PProcs (made_proc parts)) })
proc_keeps parts h g =
    top_cuts (is_block ∷ is_items ∷ is_names ∷ is_token ∷ is_items ∷ is_token ∷ is_pars ∷ is_token ∷ is_maybe_inst ∷ is_token ∷ is_token ∷ is_procs ∷ []) parts h (λ x0 r0 e0 h0.
    top_block (is_items ∷ is_names ∷ is_token ∷ is_items ∷ is_token ∷ is_pars ∷ is_token ∷ is_maybe_inst ∷ is_token ∷ is_token ∷ is_procs ∷ []) r0 h0 (λ x1 r1 e1 h1.
    top_items (is_names ∷ is_token ∷ is_items ∷ is_token ∷ is_pars ∷ is_token ∷ is_maybe_inst ∷ is_token ∷ is_token ∷ is_procs ∷ []) r1 h1 (λ x2 r2 e2 h2.
    top_names (is_token ∷ is_items ∷ is_token ∷ is_pars ∷ is_token ∷ is_maybe_inst ∷ is_token ∷ is_token ∷ is_procs ∷ []) r2 h2 (λ x3 r3 e3 h3.
    top_token (is_items ∷ is_token ∷ is_pars ∷ is_token ∷ is_maybe_inst ∷ is_token ∷ is_token ∷ is_procs ∷ []) r3 h3 (λ x4 r4 e4 h4.
    top_items (is_token ∷ is_pars ∷ is_token ∷ is_maybe_inst ∷ is_token ∷ is_token ∷ is_procs ∷ []) r4 h4 (λ x5 r5 e5 h5.
    top_token (is_pars ∷ is_token ∷ is_maybe_inst ∷ is_token ∷ is_token ∷ is_procs ∷ []) r5 h5 (λ x6 r6 e6 h6.
    top_pars (is_token ∷ is_maybe_inst ∷ is_token ∷ is_token ∷ is_procs ∷ []) r6 h6 (λ x7 r7 e7 h7.
    top_token (is_maybe_inst ∷ is_token ∷ is_token ∷ is_procs ∷ []) r7 h7 (λ x8 r8 e8 h8.
    top_maybe_inst (is_token ∷ is_token ∷ is_procs ∷ []) r8 h8 (λ x9 r9 e9 h9.
    top_token (is_token ∷ is_procs ∷ []) r9 h9 (λ x10 r10 e10 h10.
    top_token (is_procs ∷ []) r10 h10 (λ x11 r11 e11 h11.
    top_procs ([]) r11 h11 (λ x12 r12 e12 h12.
    subst (λ (ps : Parts). good (POther (PProcs (made_proc ps)) ∷ drop 13 ps) ≡ true → Kept 124 ps (POther (PProcs (made_proc ps)) ∷ drop 13 ps)) (sym (e0 ∙ ap (λ (ps : Parts). POther (PCuts x0) ∷ ps) (e1 ∙ ap (λ (ps : Parts). POther (PBlock x1) ∷ ps) (e2 ∙ ap (λ (ps : Parts). POther (PItems x2) ∷ ps) (e3 ∙ ap (λ (ps : Parts). POther (PNames x3) ∷ ps) (e4 ∙ ap (λ (ps : Parts). PToken x4 ∷ ps) (e5 ∙ ap (λ (ps : Parts). POther (PItems x5) ∷ ps) (e6 ∙ ap (λ (ps : Parts). PToken x6 ∷ ps) (e7 ∙ ap (λ (ps : Parts). POther (PPars x7) ∷ ps) (e8 ∙ ap (λ (ps : Parts). PToken x8 ∷ ps) (e9 ∙ ap (λ (ps : Parts). POther (PMaybeInst x9) ∷ ps) (e10 ∙ ap (λ (ps : Parts). PToken x10 ∷ ps) (e11 ∙ ap (λ (ps : Parts). PToken x11 ∷ ps) (e12)))))))))))))) (proc_kept x0 x1 x2 x3 x4 x5 x6 x7 x8 x9 x10 x11 x12 r12) g)))))))))))))

script_kept : (procs : List Proc) (ops : List Op) (cuts : List Cut) (recover : Block) (x4 : SeenToken) (init : Block) (x6 : SeenToken) (x7 : SeenToken) (root : SeenToken) (root_word : SeenToken) (x10 : SeenToken) (crash : SeenToken) (crash_word : SeenToken) (preds : List Pred) (books : List Book) (rest : Parts) → good (POther (PScript (record { books = books; preds = preds; crash_word = crash_word; crash = crash; root_word = root_word; root = root; init = init; recover = recover; cuts = cuts; ops = ops; procs = procs })) ∷ rest) ≡ true → Kept 125 (POther (PProcs procs) ∷ POther (POps ops) ∷ POther (PCuts cuts) ∷ POther (PBlock recover) ∷ PToken x4 ∷ POther (PBlock init) ∷ PToken x6 ∷ PToken x7 ∷ PToken root ∷ PToken root_word ∷ PToken x10 ∷ PToken crash ∷ PToken crash_word ∷ POther (PPreds preds) ∷ POther (PBooks books) ∷ rest) (POther (PScript (record { books = books; preds = preds; crash_word = crash_word; crash = crash; root_word = root_word; root = root; init = init; recover = recover; cuts = cuts; ops = ops; procs = procs })) ∷ rest)
script_kept procs ops cuts recover x4 init x6 x7 root root_word x10 crash crash_word preds books rest g =
    let off = other_on (POther (PScript (record { books = books; preds = preds; crash_word = crash_word; crash = crash; root_word = root_word; root = root; init = init; recover = recover; cuts = cuts; ops = ops; procs = procs }))) rest refl refl g in
    record { good = rw (off.0, off.1) refl; same = simp (nil_right, joins) refl; list = refl }

pub script_keeps : Keeps 125 (record { takes = is_procs ∷ is_ops ∷ is_cuts ∷ is_block ∷ is_token ∷ is_block ∷ is_token ∷ is_token ∷ is_token ∷ is_token ∷ is_token ∷ is_token ∷ is_token ∷ is_preds ∷ is_books ∷ []; makes = λ parts. POther (PScript (made_script parts)) })
script_keeps parts h g =
    top_procs (is_ops ∷ is_cuts ∷ is_block ∷ is_token ∷ is_block ∷ is_token ∷ is_token ∷ is_token ∷ is_token ∷ is_token ∷ is_token ∷ is_token ∷ is_preds ∷ is_books ∷ []) parts h (λ x0 r0 e0 h0.
    top_ops (is_cuts ∷ is_block ∷ is_token ∷ is_block ∷ is_token ∷ is_token ∷ is_token ∷ is_token ∷ is_token ∷ is_token ∷ is_token ∷ is_preds ∷ is_books ∷ []) r0 h0 (λ x1 r1 e1 h1.
    top_cuts (is_block ∷ is_token ∷ is_block ∷ is_token ∷ is_token ∷ is_token ∷ is_token ∷ is_token ∷ is_token ∷ is_token ∷ is_preds ∷ is_books ∷ []) r1 h1 (λ x2 r2 e2 h2.
    top_block (is_token ∷ is_block ∷ is_token ∷ is_token ∷ is_token ∷ is_token ∷ is_token ∷ is_token ∷ is_token ∷ is_preds ∷ is_books ∷ []) r2 h2 (λ x3 r3 e3 h3.
    top_token (is_block ∷ is_token ∷ is_token ∷ is_token ∷ is_token ∷ is_token ∷ is_token ∷ is_token ∷ is_preds ∷ is_books ∷ []) r3 h3 (λ x4 r4 e4 h4.
    top_block (is_token ∷ is_token ∷ is_token ∷ is_token ∷ is_token ∷ is_token ∷ is_token ∷ is_preds ∷ is_books ∷ []) r4 h4 (λ x5 r5 e5 h5.
    top_token (is_token ∷ is_token ∷ is_token ∷ is_token ∷ is_token ∷ is_token ∷ is_preds ∷ is_books ∷ []) r5 h5 (λ x6 r6 e6 h6.
    top_token (is_token ∷ is_token ∷ is_token ∷ is_token ∷ is_token ∷ is_preds ∷ is_books ∷ []) r6 h6 (λ x7 r7 e7 h7.
    top_token (is_token ∷ is_token ∷ is_token ∷ is_token ∷ is_preds ∷ is_books ∷ []) r7 h7 (λ x8 r8 e8 h8.
    top_token (is_token ∷ is_token ∷ is_token ∷ is_preds ∷ is_books ∷ []) r8 h8 (λ x9 r9 e9 h9.
    top_token (is_token ∷ is_token ∷ is_preds ∷ is_books ∷ []) r9 h9 (λ x10 r10 e10 h10.
    top_token (is_token ∷ is_preds ∷ is_books ∷ []) r10 h10 (λ x11 r11 e11 h11.
    top_token (is_preds ∷ is_books ∷ []) r11 h11 (λ x12 r12 e12 h12.
    top_preds (is_books ∷ []) r12 h12 (λ x13 r13 e13 h13.
    top_books ([]) r13 h13 (λ x14 r14 e14 h14.
    subst (λ (ps : Parts). good (POther (PScript (made_script ps)) ∷ drop 15 ps) ≡ true → Kept 125 ps (POther (PScript (made_script ps)) ∷ drop 15 ps)) (sym (e0 ∙ ap (λ (ps : Parts). POther (PProcs x0) ∷ ps) (e1 ∙ ap (λ (ps : Parts). POther (POps x1) ∷ ps) (e2 ∙ ap (λ (ps : Parts). POther (PCuts x2) ∷ ps) (e3 ∙ ap (λ (ps : Parts). POther (PBlock x3) ∷ ps) (e4 ∙ ap (λ (ps : Parts). PToken x4 ∷ ps) (e5 ∙ ap (λ (ps : Parts). POther (PBlock x5) ∷ ps) (e6 ∙ ap (λ (ps : Parts). PToken x6 ∷ ps) (e7 ∙ ap (λ (ps : Parts). PToken x7 ∷ ps) (e8 ∙ ap (λ (ps : Parts). PToken x8 ∷ ps) (e9 ∙ ap (λ (ps : Parts). PToken x9 ∷ ps) (e10 ∙ ap (λ (ps : Parts). PToken x10 ∷ ps) (e11 ∙ ap (λ (ps : Parts). PToken x11 ∷ ps) (e12 ∙ ap (λ (ps : Parts). PToken x12 ∷ ps) (e13 ∙ ap (λ (ps : Parts). POther (PPreds x13) ∷ ps) (e14)))))))))))))))) (script_kept x0 x1 x2 x3 x4 x5 x6 x7 x8 x9 x10 x11 x12 x13 x14 r14) g)))))))))))))))
