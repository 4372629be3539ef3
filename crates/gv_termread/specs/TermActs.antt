-- What each act makes of the parts, the top one first. Made by tools/grammar.py from term.grammar: edit that.
use Rattle.std.specs.Prelude.{Bool, true, false, List, [], ◌∷◌, ℕ, Option}
use Rattle.gv_grammar.specs.declared.steps.Step.{Step}
use Rattle.gv_grammar.specs.Building.{Reduction, act_of, run}
use Rattle.gv_termread.specs.declared.generated.term_acts.Part.{Part}
use Rattle.gv_termread.specs.declared.generated.term_acts.Part.TheVariants.{Token as PToken, Term as PTerm, Other as POther}
use Rattle.gv_termread.specs.declared.generated.term_acts.NoOther.{NoOther}
use Rattle.gv_termread.specs.declared.token.SeenToken.{SeenToken}
use Rattle.gv_termread.specs.Trees.{number, constant, variable, in_parens, maker, apply, unary, binary}

abbrev pub is_token : {O : Type 0} → (Part O) → Bool
is_token (PToken of) = true
is_token part = false

abbrev pub is_term : {O : Type 0} → (Part O) → Bool
is_term (PTerm of) = true
is_term part = false

abbrev pub made_binary : {O : Type 0} → List (Part O) → List (Part O)
made_binary (PTerm right ∷ PToken sign ∷ PTerm left ∷ parts) = PTerm (binary sign left right) ∷ parts
made_binary parts = parts

abbrev pub made_unary : {O : Type 0} → List (Part O) → List (Part O)
made_unary (PTerm inner ∷ PToken sign ∷ parts) = PTerm (unary sign inner) ∷ parts
made_unary parts = parts

abbrev pub made_number : {O : Type 0} → List (Part O) → List (Part O)
made_number (PToken token ∷ parts) = PTerm (number token) ∷ parts
made_number parts = parts

abbrev pub made_constant : {O : Type 0} → List (Part O) → List (Part O)
made_constant (PToken word ∷ parts) = PTerm (constant word) ∷ parts
made_constant parts = parts

abbrev pub made_variable : {O : Type 0} → List ℕ → List (Part O) → List (Part O)
made_variable text (PToken name ∷ parts) = PTerm (variable text name) ∷ parts
made_variable text parts = parts

abbrev pub made_paren : {O : Type 0} → List (Part O) → List (Part O)
made_paren (PToken _ ∷ PTerm inner ∷ PToken brace ∷ parts) = PTerm (in_parens brace inner) ∷ parts
made_paren parts = parts

abbrev pub made_maker : {O : Type 0} → List (Part O) → List (Part O)
made_maker (PToken _ ∷ PTerm item ∷ PToken _ ∷ PToken count ∷ PToken _ ∷ PToken name ∷ parts) = PTerm (maker name count item) ∷ parts
made_maker parts = parts

abbrev pub made_of_one : {O : Type 0} → List (Part O) → List (Part O)
made_of_one (PToken _ ∷ PTerm a ∷ PToken _ ∷ PToken name ∷ parts) = PTerm (apply name (a ∷ [])) ∷ parts
made_of_one parts = parts

abbrev pub made_of_two : {O : Type 0} → List (Part O) → List (Part O)
made_of_two (PToken _ ∷ PTerm b ∷ PToken _ ∷ PTerm a ∷ PToken _ ∷ PToken name ∷ parts) = PTerm (apply name (a ∷ b ∷ [])) ∷ parts
made_of_two parts = parts

abbrev pub made_of_three : {O : Type 0} → List (Part O) → List (Part O)
made_of_three (PToken _ ∷ PTerm c ∷ PToken _ ∷ PTerm b ∷ PToken _ ∷ PTerm a ∷ PToken _ ∷ PToken name ∷ parts) = PTerm (apply name (a ∷ b ∷ c ∷ [])) ∷ parts
made_of_three parts = parts

-- the acts, from the first number behind the marks on
abbrev pub term_acts : {O : Type 0} → List ℕ → List (Reduction (Part O))
term_acts text =
    record { takes = is_term ∷ is_token ∷ is_term ∷ []; makes = made_binary }
    ∷ record { takes = is_term ∷ is_token ∷ []; makes = made_unary }
    ∷ record { takes = is_token ∷ []; makes = made_number }
    ∷ record { takes = is_token ∷ []; makes = made_constant }
    ∷ record { takes = is_token ∷ []; makes = (made_variable text) }
    ∷ record { takes = is_token ∷ is_term ∷ is_token ∷ []; makes = made_paren }
    ∷ record { takes = is_token ∷ is_term ∷ is_token ∷ is_token ∷ is_token ∷ is_token ∷ []; makes = made_maker }
    ∷ record { takes = is_token ∷ is_term ∷ is_token ∷ is_token ∷ []; makes = made_of_one }
    ∷ record { takes = is_token ∷ is_term ∷ is_token ∷ is_term ∷ is_token ∷ is_token ∷ []; makes = made_of_two }
    ∷ record { takes = is_token ∷ is_term ∷ is_token ∷ is_term ∷ is_token ∷ is_term ∷ is_token ∷ is_token ∷ []; makes = made_of_three }
    ∷ []

-- the parts that steps leave of tokens
abbrev pub term_built : List ℕ → List Step → List SeenToken → Option (List (Part NoOther))
term_built text steps tokens = run PToken (act_of (term_acts text)) steps tokens []
