-- The own instance of a procedure is the first of what its place names.
use Rattle.std.proofs.Common.{◌≡◌, Option, Some, None, ap}
use Rattle.std.specs.Prelude.{slice_get, option_map}
use Rattle.gv_scriptsyntax.specs.declared.tree.Inst.{Inst}
use Rattle.gv_scriptnames.specs.Mentions.{Mentions, of_inst}
use Rattle.gv_scriptnodes.specs.Gathered.{in_own}

pub own_first : (own : Option Inst) (ms : Mentions) → ms ≡ in_own own → slice_get ms 0 ≡ option_map of_inst own
own_first None ms e = ap (λ (xs : Mentions). slice_get xs 0) e
own_first (Some p) ms e = ap (λ (xs : Mentions). slice_get xs 0) e
