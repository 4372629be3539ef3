-- What is seen where a walk stands, by the tables that are kept of it.
use Rattle.std.specs.Prelude.{ℕ, nat_lt, if◌then◌else◌, List, map, Option, Some, None}
use Rattle.gv_gotypes.specs.Scopes.{Source, Signature, StructType, Package, Env}
use Rattle.gv_gotyped.specs.declared.members.Member.{Member}
use Rattle.gv_gotyped.specs.declared.members.Member.TheVariants.{Field, Other}
use Rattle.gv_gonames.specs.Structs.{StructOf}
use Rattle.gv_gonames.specs.declared.rows.MemberRow.{MemberRow}
use Rattle.gv_gonames.specs.declared.rows.MemberRow.TheVariants as row
use Rattle.gv_gonames.specs.Trail.{Around}
use Rattle.gv_goseen.specs.declared.declared.Procedure.{Procedure}
use Rattle.gv_goseen.specs.declared.declared.Declared.{Declared}
use Rattle.gv_goseen.specs.declared.seen.Seen.{Seen}

abbrev pub signature_of : Procedure → Signature
signature_of p = record { params = p.params.items; results = p.results.items }

abbrev pub struct_in : StructOf → StructType
struct_in s = s.struct

-- what a package declares
abbrev pub package_of : Declared → Package
package_of d = record {
  names = d.names.names;
  structs = map struct_in d.structs.items;
  procedures = map signature_of d.procedures.items;
  constants = d.constants.items;
}

abbrev pub source_of : Seen → Source
source_of s = record { text = s.text.now; tokens = s.tokens }

-- what is seen where these entries stand around
abbrev pub env_with : Seen → Around → Env
env_with s a = record { source = source_of s; declared = package_of s.declared; entries = a.entries; results = a.results }

abbrev pub env_of : Seen → Env
env_of s = env_with s s.locals.here

abbrev pub outer_of : Seen → List Env
outer_of s = map (env_with s) s.locals.outer

-- what is known of a member of a struct as an operand, where there are so many procedures
abbrev pub member_by : ℕ → Option MemberRow → Option Member
member_by procedures None = None
member_by procedures (Some (row.Field kind)) = Some (Field kind)
member_by procedures (Some (row.Method number)) = if nat_lt number procedures then Some Other else None
