-- Names of a package as a table has them.
use Rattle.std.specs.Prelude.{ℕ, List, [], ◌∷◌, ◌++◌, map, slice_range}
use Rattle.gv_gotypes.specs.Scopes.{Named}
use Rattle.gv_gotypes.specs.declared.names.Entity.{Entity}
use Rattle.gv_gonames.specs.declared.span.Span.{Span}
use Rattle.gv_gonames.specs.declared.rows.NameRow.{NameRow}

-- the names that stand at spans of a text
abbrev pub named_row : List ℕ → NameRow → Named
named_row text r = record { name = slice_range text r.name.start r.name.end; entity = r.entity }

abbrev pub named_rows : List ℕ → List NameRow → List Named
named_rows text rs = map (named_row text) rs

-- a text, and names that stand in it
pub record NamesOf : Type 0 where
  pub text : List ℕ
  pub names : List Named

-- how a span is spelled
abbrev pub spelled : NamesOf → Span → List ℕ
spelled t s = slice_range t.text s.start s.end

-- with one more
abbrev pub with_named : NamesOf → Span → Entity → NamesOf
with_named t s e = record { text = t.text; names = t.names ++ record { name = spelled t s; entity = e } ∷ [] }
