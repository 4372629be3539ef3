-- Values found one after another.
use Rattle.std.proofs.Common.{◌≡◌, List, [], ◌∷◌, ◌++◌, Option, Some, None, append_assoc, refl}
use Rattle.std.proofs.lemmas.List.{append-nil}
use Rattle.gv_base.specs.declared.val.Val.{Val}
use Rattle.gv_lang.specs.Values.{also}

-- what was found, and then the others
abbrev pub prefixed : List Val → Option (List Val) → Option (List Val)
prefixed found None = None
prefixed found (Some vs) = Some (found ++ vs)

pub prefixed_none : (vs : Option (List Val)) → prefixed [] vs ≡ vs
prefixed_none None = refl
prefixed_none (Some vs) = refl

pub prefixed_also : (found : List Val) (v : Val) (rest : Option (List Val)) → prefixed found (also (Some v) rest) ≡ prefixed (found ++ v ∷ []) rest
prefixed_also found v None = refl
prefixed_also found v (Some vs) = rw append_assoc refl

pub prefixed_all : (found : List Val) → prefixed found (Some []) ≡ Some found
prefixed_all found = rw append-nil refl

pub ruleset prefixes = (prefixed_none, prefixed_also, prefixed_all)
