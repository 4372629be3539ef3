-- Tokens in order of text, and where those of a class begin.
use Rattle.std.specs.Prelude.{◌≡◌, ℕ, ◌==◌, if◌then◌else◌, List, [], ◌∷◌}
use Rattle.std.specs.List.Sorted.{IsNonDecreasingBy}
use Rattle.gv_gosyntax.specs.declared.generated.gosyntax_table.TheConstants.{CLASS_SYNC}
use Rattle.gv_gosyntax.specs.declared.lexeme.Lexeme.{Lexeme}

-- none begins before the one before it
abbrev pub AreOrdered : List Lexeme → Type 0
AreOrdered ts = IsNonDecreasingBy (λ t. t.start) ts

-- where those of a class begin
abbrev pub starts_of : ℕ → List Lexeme → List ℕ
starts_of class [] = []
starts_of class (t ∷ ts) = if t.class == class then t.start ∷ starts_of class ts else starts_of class ts

-- beside a table of where the words `sync` begin
pub record AreIndexed (ts : List Lexeme) (syncs : List ℕ) : Type 0 where
  pub ordered : AreOrdered ts
  pub listed : syncs ≡ starts_of CLASS_SYNC ts
