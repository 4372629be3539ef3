-- What stands at a place of a list of byte strings.
use Rattle.std.proofs.lemmas.Option.{unwrap_or-slice_get, get_or_from_slice_get}

pub ruleset places = (unwrap_or-slice_get, get_or_from_slice_get)
