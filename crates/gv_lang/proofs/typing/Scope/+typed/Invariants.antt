use Rattle.std.proofs.Common.{◌≡◌, ◌+◌, ◌*◌, ◌≤◌, length}
use Rattle.gv_lang.specs.Plain.{tree_of, body_of, program_of}
use Rattle.gv_lang.specs.Graph.{size, command_size}
use Rattle.gv_lang.specs.Kinds.{is_typed_block}
use Rattle.gv_lang.proofs.typing.Scope.+typed.Given as goal

abbrev pub decreases-is_typed : goal.decreases-is_typed
decreases-is_typed l = 2 * command_size (tree_of l.c.now)

abbrev pub decreases-is_typed_block : goal.decreases-is_typed_block
decreases-is_typed_block l = 2 * size (body_of l.cs.now) + 1

abbrev pub invariant-is_typed_block-loop-rest : goal.invariant-is_typed_block-loop-rest
invariant-is_typed_block-loop-rest l = record {
  same : is_typed_block (program_of l.self.program.now) l.self.locals.now l.self.results.now (body_of l.rest)
      ≡ is_typed_block (program_of l.self.program.now) l.self.locals.now l.self.results.now (body_of l.initial.rest);
  smaller : size (body_of l.rest) ≤ size (body_of l.cs);
}

abbrev pub decreases-is_typed_block-loop-rest : goal.decreases-is_typed_block-loop-rest
decreases-is_typed_block-loop-rest l = length l.rest
