-- Worked rows: small scripts with the bytes at which their commands begin.
use Rattle.std.specs.Prelude.{◌≡◌, ℕ, ◌+◌, List, [], ◌∷◌}
use Rattle.gv_termread.specs.declared.token.SeenToken.{SeenToken}
use Rattle.gv_scriptsyntax.specs.declared.tree.Block.{Block}
use Rattle.gv_scriptsyntax.specs.declared.tree.Command.{Command}
use Rattle.gv_scriptsyntax.specs.declared.tree.Command.TheVariants as command
use Rattle.gv_scriptsyntax.specs.declared.tree.Op.{Op}
use Rattle.gv_scriptsyntax.specs.declared.tree.Cut.{Cut}
use Rattle.gv_scriptsyntax.specs.declared.tree.Script.{Script}
use Rattle.gv_scriptsyntax.specs.Empty.{no_term}
use Rattle.gv_scriptnumbers.specs.Numbers.{numbered}

-- the token at a byte; which one it is makes no difference
abbrev pub t : ℕ → SeenToken
t at = record { class = 1; start = at; end = at + 1; value = 0 }

abbrev pub block : ℕ → List Command → ℕ → Block
block start commands end = record { start = t start; commands = commands; end = t end }

-- crash C; root R; init INIT recover RECOVER CUTS OPS
abbrev pub script : Block → Block → List Cut → List Op → Script
script init recover cuts ops = record {
  books = [];
  preds = [];
  crash_word = t 0;
  crash = t 6;
  root_word = t 9;
  root = t 14;
  init = init;
  recover = recover;
  cuts = cuts;
  ops = ops;
  procs = [];
}

-- cut J at 1 own locals () vars () { } BLOCK
abbrev pub cut : ℕ → Block → Cut
cut at b = record { name = t (at + 4); number = t (at + 9); mode = t (at + 11); locals = []; vars = []; items = []; block = b }

-- op A BLOCK CUTS
abbrev pub op : ℕ → Block → List Cut → Op
op at b cuts = record { name = t (at + 3); block = b; cuts = cuts }

pub record AreRows : Type 0 where
  -- crash C; root R; init { } recover { }
  pub least : numbered (script (block 22 [] 24) (block 34 [] 36) [] []) ≡ 0 ∷ 9 ∷ 24 ∷ 36 ∷ []
  -- crash C; root R; init { open; close; } recover { }
  pub two_commands : numbered (script (block 22 (command.Alone (t 24) ∷ command.Alone (t 30) ∷ []) 37) (block 47 [] 49) [] []) ≡ 0 ∷ 9 ∷ 24 ∷ 30 ∷ 37 ∷ 49 ∷ []
  -- crash C; root R; init { cases p { open; } { } } recover { }
  pub two_blocks : numbered (script (block 22 (command.Cases (t 24) no_term (block 32 (command.Alone (t 34) ∷ []) 40) (block 42 [] 44) ∷ []) 46) (block 56 [] 58) [] [])
      ≡ 0 ∷ 9 ∷ 24 ∷ 34 ∷ 40 ∷ 44 ∷ 46 ∷ 58 ∷ []
  -- crash C; root R; init { crash { open; }; } recover { }
  pub crash_in_a_block : numbered (script (block 22 (command.OnBlock (t 24) (block 30 (command.Alone (t 32) ∷ []) 38) ∷ []) 41) (block 51 [] 53) [] [])
      ≡ 0 ∷ 9 ∷ 24 ∷ 32 ∷ 38 ∷ 41 ∷ 53 ∷ []
  -- crash C; root R; init { } recover { } cut J at 1 own locals () vars () { } { open; } op A { close; } cut J at 1 own locals () vars () { } { }
  pub cuts_behind_their_blocks : numbered (script (block 22 [] 24) (block 34 [] 36) (cut 38 (block 75 (command.Alone (t 77) ∷ []) 83) ∷ [])
      (op 85 (block 90 (command.Alone (t 92) ∷ []) 99) (cut 101 (block 138 [] 140) ∷ []) ∷ [])) ≡ 0 ∷ 9 ∷ 24 ∷ 36 ∷ 77 ∷ 83 ∷ 92 ∷ 99 ∷ 140 ∷ []
