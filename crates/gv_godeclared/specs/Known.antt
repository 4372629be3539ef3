-- What is known of a package once its declarations are walked over.
use Rattle.std.specs.Prelude.{◌≡◌, List, []}
use Rattle.gv_gotypes.specs.Trees.{File}
use Rattle.gv_gotypes.specs.Scopes.{Source, StructType, Signature, Env}
use Rattle.gv_gotypes.specs.Declarations.{no_counts, outside, without_constants}
use Rattle.gv_gotypes.specs.Files.{file_env}
use Rattle.gv_gotyped.specs.First.{first_of}
use Rattle.gv_goparts.specs.Parts.{names_in, structs_findings, methods_findings}
use Rattle.gv_goseen.specs.Seen.{env_of, outer_of}
use Rattle.gv_godeclared.specs.declared.known.Known.{Known}

-- a place where a package has these structs and procedures
abbrev pub with_declared : Env → List StructType → List Signature → Env
with_declared env ss sigs = record {
  source = env.source;
  declared = record { names = env.declared.names; structs = ss; procedures = sigs; constants = env.declared.constants };
  entries = env.entries;
  results = env.results;
}

-- All that it declares but the constants is seen, outside of all functions, with the faults that are told of names, structs and methods.
pub record IsKnown (s : Source) (f : File) (known : Known) : Type 0 where
  pub env : env_of known.seen ≡ outside s (without_constants s f)
  pub outer : outer_of known.seen ≡ []
  pub names : known.names ≡ first_of (names_in s f)
  pub structs : known.structs ≡ first_of (structs_findings (file_env s f) f.decls)
  pub methods : known.methods ≡ first_of (methods_findings (file_env s f) no_counts f.decls)
