-- Types as they are written, by what their names stand for.
use Rattle.std.proofs.Common.{◌≡◌, Option, refl, ap, ◌∙◌}
use Rattle.std.specs.Prelude.{option_map}
use Rattle.gv_gosyntax.specs.declared.lexeme.Lexeme.{Lexeme}
use Rattle.gv_gosyntax.specs.declared.tree.Pointed.{Pointed}
use Rattle.gv_gosyntax.specs.declared.tree.GoType.TheVariants as tree
use Rattle.gv_operands.specs.declared.types.Base.{Base}
use Rattle.gv_operands.specs.declared.types.GoType.{GoType}
use Rattle.gv_operands.specs.declared.types.GoType.TheVariants.{Pointers, Pointer}
use Rattle.gv_gotypes.specs.declared.names.Entity.{Entity}
use Rattle.gv_gotypes.specs.Scopes.{Env, name_in, entity_named}
use Rattle.gv_gotypes.specs.Kinds.{word_of_pointed, base_in, block_in, name_findings}
use Rattle.gv_gotyped.specs.declared.fault.Fault.{Fault}
use Rattle.gv_gotyped.specs.First.{first_of}
use Rattle.gv_gotyped.specs.Kinds.{IsWritten}

-- what is told of a name by what it stands for
told : (p : Pointed) (e g : Option Entity) (b : Option Base) (w : Lexeme) (start : Lexeme) (f : Option Fault)
    → b ≡ base_in p e → w ≡ word_of_pointed p → f ≡ first_of (name_findings e b w.start start.start) → e ≡ g
    → f ≡ first_of (name_findings g (base_in p g) (word_of_pointed p).start start.start)
told p e g b w start f base word first is =
    first
    ∙ ap (λ (x : Lexeme). first_of (name_findings e b x.start start.start)) word
    ∙ ap (λ (x : Option Base). first_of (name_findings e x (word_of_pointed p).start start.start)) base
    ∙ ap (λ (x : Option Entity). first_of (name_findings x (base_in p x) (word_of_pointed p).start start.start)) is

pub pointer_stands : (env : Env) (s : Lexeme) (p : Pointed) (e : Option Entity) (b : Option Base) (k : Option GoType) (w : Lexeme) (f : Option Fault)
    → b ≡ base_in p e → k ≡ option_map Pointer b → w ≡ word_of_pointed p → f ≡ first_of (name_findings e b w.start s.start)
    → e ≡ entity_named env (name_in env.source (word_of_pointed p))
    → IsWritten env (tree.Pointer s p) (record { start = s.start; kind = k; first = f })
pointer_stands env s p e b k w f base kind word first is = record {
  start = refl;
  kind = kind ∙ ap (λ (x : Option Base). option_map Pointer x) (base ∙ ap (λ (x : Option Entity). base_in p x) is);
  first = told p e (entity_named env (name_in env.source (word_of_pointed p))) b w s f base word first is;
}

pub pointers_stand : (env : Env) (s : Lexeme) (p : Pointed) (e : Option Entity) (b : Option Base) (k : Option GoType) (w : Lexeme) (f : Option Fault)
    → b ≡ base_in p e → k ≡ option_map Pointers b → w ≡ word_of_pointed p → f ≡ first_of (name_findings e b w.start s.start)
    → e ≡ entity_named env (name_in env.source (word_of_pointed p))
    → IsWritten env (tree.Pointers s p) (record { start = s.start; kind = k; first = f })
pointers_stand env s p e b k w f base kind word first is = record {
  start = refl;
  kind = kind ∙ ap (λ (x : Option Base). option_map Pointers x) (base ∙ ap (λ (x : Option Entity). base_in p x) is);
  first = told p e (entity_named env (name_in env.source (word_of_pointed p))) b w s f base word first is;
}

pub block_stands : (env : Env) (w : Lexeme) (e : Option Entity) (k : Option GoType) (f : Option Fault)
    → k ≡ block_in w.class e → f ≡ first_of (name_findings e k w.start w.start) → e ≡ entity_named env (name_in env.source w)
    → IsWritten env (tree.Block w) (record { start = w.start; kind = k; first = f })
block_stands env w e k f kind first is = record {
  start = refl;
  kind = kind ∙ ap (λ (x : Option Entity). block_in w.class x) is;
  first = first
      ∙ ap (λ (x : Option GoType). first_of (name_findings e x w.start w.start)) kind
      ∙ ap (λ (x : Option Entity). first_of (name_findings x (block_in w.class x) w.start w.start)) is;
}
