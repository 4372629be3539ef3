-- Names in scripts: their bytes, and which of them are words.
use Rattle.std.specs.Prelude.{ℕ, Bool, List, ◌++◌, map}
use Rattle.gv_grammar.specs.Derivation.{is_among}
use Rattle.gv_termread.specs.declared.token.SeenToken.{SeenToken}
use Rattle.gv_termread.specs.Language.{makers, of_one, of_two, of_three, constants}
use Rattle.gv_termread.specs.Seen.{bytes_from}
use Rattle.gv_scriptsyntax.specs.Words.{atom_words}
use Rattle.gv_scriptsyntax.specs.declared.tree.Par.{Par}

abbrev pub name_in : List ℕ → SeenToken → List ℕ
name_in text t = bytes_from text t.start t.end

abbrev pub names_in : List ℕ → List SeenToken → List (List ℕ)
names_in text ts = map (name_in text) ts

-- the names of parameters and variables
abbrev pub names_of : List Par → List SeenToken
names_of ps = map (λ p. p.name) ps

-- a word that is a constant in every term: `true`, `nil`, `mapww` and the others
abbrev pub is_constant : SeenToken → Bool
is_constant t = is_among t.class constants

-- a word of a term, as `len` and `nil`, or of an atom, as `slice`
abbrev pub is_word : SeenToken → Bool
is_word t = is_among t.class (makers ++ (of_one ++ (of_two ++ (of_three ++ (constants ++ atom_words)))))
