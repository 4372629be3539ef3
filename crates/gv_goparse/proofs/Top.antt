-- What the language of packages owes to have its reader.
use Rattle.std.proofs.Common.{◌≡◌, refl}
use Rattle.gv_grammar.specs.Building.{act_of}
use Rattle.gv_grammar.proofs.Whole.{Laws}
use Rattle.gv_gosyntax.specs.declared.generated.gosyntax_acts.Part.TheVariants.{Token as PToken, File as PFile}
use Rattle.gv_gosyntax.specs.declared.generated.gosyntax_table.TheConstants.{NAME_FILE}
use Rattle.gv_gosyntax.specs.declared.lexeme.Lexeme.{Lexeme}
use Rattle.gv_gosyntax.specs.declared.tree.File.{File}
use Rattle.gv_gosyntax.specs.GosyntaxTable.{gosyntax_tables}
use Rattle.gv_gosyntax.specs.GosyntaxActs.{gosyntax_acts}
use Rattle.gv_gosyntax.proofs.GosyntaxPredictive.{gosyntax_predictive}
use Rattle.gv_goparse.specs.Language.{IsFile}
use Rattle.gv_goparse.proofs.Forward.{whole_file}
use Rattle.gv_goparse.proofs.Backward.{file_means}

one_file : (a b : File) → PFile a ≡ PFile b → a ≡ b
one_file a b e = cc

pub go_laws : Laws gosyntax_tables NAME_FILE (λ (token : Lexeme). token.class) PToken (act_of gosyntax_acts) IsFile PFile
go_laws = record {
  may_begin = (gosyntax_predictive, refl);
  token_for = λ class _. (record { class = class; start = 0; end = 0 }, refl);
  one_tree = one_file;
  reads = whole_file;
  means = file_means;
}
