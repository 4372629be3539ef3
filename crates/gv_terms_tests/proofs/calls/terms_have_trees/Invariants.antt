use Rattle.gv_terms_tests.proofs.calls.terms_have_trees.Given as goal

-- each comparison counts in the ledger of its own blank
abbrev pub ghosts-have_one_tree : goal.ghosts-have_one_tree
ghosts-have_one_tree g a = record { name = a.blank.name; parts = a.blank.parts }
