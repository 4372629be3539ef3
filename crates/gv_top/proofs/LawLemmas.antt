-- A text spells at most one value.
use Rattle.std.proofs.Common.{◌≡◌, true, false, Some, refl, sym, ◌∙◌}
use Rattle.gv_small.specs.Tokens.{tokens_of}
use Rattle.gv_gotree.specs.SmallPackage.{IsSmallPackage}
use Rattle.gv_gotree.proofs.PackageLemmas as packages
use Rattle.gv_top.specs.Laws.{SpellsOne}
use Rattle.gv_top.specs.SmallScript.{IsSmallScript}
use Rattle.gv_top.proofs.ScriptLemmas as scripts

some_same : {A : Type 0} (x y : A) → Some x ≡ Some y → x ≡ y
some_same x y e = cc

pub one_package : SpellsOne IsSmallPackage
one_package text a b h k =
    let e = some_same a.ops b.ops (sym (packages.small_read text (tokens_of true text) a refl h) ∙ packages.small_read text (tokens_of true text) b refl k) in
    λ i. record { ops = e i }

pub one_script : SpellsOne IsSmallScript
one_script text a b h k =
    let e = some_same a.ops b.ops (sym (scripts.script_read text (tokens_of false text) a refl h) ∙ scripts.script_read text (tokens_of false text) b refl k) in
    λ i. record { ops = e i }
