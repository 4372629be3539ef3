-- The worked searches, computed.
use Rattle.std.proofs.Common.{refl}
use Rattle.gv_judge.specs.SearchExamples.{WorkedSearches}

pub worked_searches : WorkedSearches
worked_searches = record { first = refl; wrong = refl; three = refl; none = refl }
