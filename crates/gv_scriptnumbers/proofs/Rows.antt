-- Worked rows, computed.
use Rattle.std.proofs.Common.{rules}
use Rattle.gv_scriptsyntax.specs.declared.tree.Command as declared_command
use Rattle.gv_scriptsyntax.specs.declared.tree.Block as declared_block
use Rattle.gv_scriptnumbers.specs.Numbers.{of_command, of_block}
use Rattle.gv_scriptnumbers.specs.Rows.{AreRows}

pub all_rows : AreRows
unfolding of_block of_command
all_rows = record {
  least = search (rules, declared_block.the_lemmas, declared_command.the_lemmas);
  two_commands = search (rules, declared_block.the_lemmas, declared_command.the_lemmas);
  two_blocks = search (rules, declared_block.the_lemmas, declared_command.the_lemmas);
  crash_in_a_block = search (rules, declared_block.the_lemmas, declared_command.the_lemmas);
  cuts_behind_their_blocks = search (rules, declared_block.the_lemmas, declared_command.the_lemmas);
}
