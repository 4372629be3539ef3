-- Packages that go on to the form of packages that is checked, and where other texts are refused.
use Rattle.std.specs.Prelude.{◌≡◌, ℕ, List}
use Rattle.gv_base.specs.Places.{place_at}
use Rattle.gv_base.specs.declared.answers.Place.{Place}
use Rattle.gv_base.specs.declared.answers.Code.{Code}
use Rattle.gv_base.specs.declared.answers.Code.TheVariants.{NotInProfile}
use Rattle.gv_base.specs.declared.small.Small.{Small}
use Rattle.gv_base.specs.declared.token.Token.{Token}
use Rattle.gv_small.specs.Tokens.{start}
use Rattle.gv_tokens.specs.Reading as characters
use Rattle.gv_gosyntax.specs.declared.tree.File.{File}
use Rattle.gv_goparse.specs.Seen.{seen}
use Rattle.gv_goparse.specs.Reading as grammar
use Rattle.gv_gotree.specs.SmallPackage.{IsSmallPackage}

-- a text has tokens, and they are a package of the grammar
pub record IsPackage (text : List ℕ) : Type 0 where
  pub tokens : List Token
  pub are_tokens : characters.IsRead text tokens
  pub file : File
  pub is_file : grammar.IsRead (seen text tokens) file

-- a text has tokens, and the grammar refuses them
pub record HasGrammarFault (text : List ℕ) (at : ℕ) (code : Code) : Type 0 where
  pub tokens : List Token
  pub are_tokens : characters.IsRead text tokens
  pub refused : grammar.IsRefusedAt text (seen text tokens) at code

-- a package of the grammar that is of the small form
pub record IsPackageOf (text : List ℕ) (small : Small) : Type 0 where
  pub grammatical : IsPackage text
  pub small_form : IsSmallPackage text small

-- Each stage refuses what the stage before it lets through: at a character, at a token, or all of a package of the grammar.
pub data IsRefusedPackage (text : List ℕ) (place : Place) (code : Code) : Type 0 where
  in_tokens : (at : ℕ) → place ≡ place_at text at → characters.IsRefused text at code → IsRefusedPackage text place code
  in_grammar : (at : ℕ) → place ≡ place_at text at → HasGrammarFault text at code → IsRefusedPackage text place code
  outside : IsPackage text → place ≡ start → code ≡ NotInProfile → ((small : Small) → IsSmallPackage text small → ⊥) → IsRefusedPackage text place code
