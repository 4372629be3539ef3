use Rattle.gv_judge.proofs.Visits.{HasVisited}
use Rattle.gv_judge.proofs.judging.go_through.Given as goal

abbrev pub invariant-loop-visited : goal.invariant-loop-visited
invariant-loop-visited l = HasVisited l.spec l.history l.search l._visited
