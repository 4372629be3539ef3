use Rattle.std.proofs.Common.{◌≡◌, ℕ, ◌+◌, List, [], ◌∷◌, Option, drop, get_or, ap, sym, subst, refl, ◌∙◌}
use Rattle.std.proofs.lemmas.List.{drop_more, drop_all}
use Rattle.gv_gosyntax.specs.declared.lexeme.Lexeme.{Lexeme}
use Rattle.gv_gotypes.specs.Scopes.{Source, Env}
use Rattle.gv_gotypes.specs.Declarations.{group_fields}
use Rattle.gv_gotyped.specs.declared.fault.Fault.{Fault}
use Rattle.gv_gonames.specs.Structs.{StructOf}
use Rattle.gv_goseen.specs.Seen.{env_of, source_of}
use Rattle.gv_gostructs.specs.Fields.{with_fields}
use Rattle.gv_gostructs.proofs.Rests.{AreLeft, left_first, left_more, left_none, field_on, field_fields, nothing_on}
use Rattle.gv_gostructs.proofs.fields.declare_group.Goals as goal

pub loop-name-init : goal.loop-name-init
loop-name-init c = record {
  text = c.requires.text;
  alone = c.requires.alone;
  table_is = refl;
  left = λ before h. left_first (source_of c.args.seen.now) before c.args.table.now.struct.fields c.args.names.now h;
}

pub loop-name-preserved : goal.loop-name-preserved
loop-name-preserved c =
    let s : Source = source_of c.args.seen.now in
    let env : Env = env_of c.args.seen.now in
    let names : List Lexeme = c.args.names.now in
    let i : ℕ = c.loop-name.name-index in
    let t : Lexeme = get_or names i (record { class = 0; start = 0; end = 0 }) in
    let known : StructOf = c.loop-name.table in
    let grown : StructOf = c.declare_field.new.table in
    let next : drop i names ≡ t ∷ drop (i + 1) names = drop_more names i (record { class = 0; start = 0; end = 0 }) c.loop-name-test.true in
    record {
      text = ap (λ (x : StructOf). x.text) c.in_ok-own.ensures.declared ∙ c.loop-name.invariant.text;
      alone = ap (λ (x : StructOf). x.struct.methods) c.in_ok-own.ensures.declared ∙ c.loop-name.invariant.alone;
      table_is = field_on s c.args.table.now known grown env t (drop (i + 1) names) names c.args.kind refl c.loop-name.invariant.text
          (ap (λ (ts : List Lexeme). with_fields known (group_fields env ts c.args.kind)) (sym next) ∙ c.loop-name.invariant.table_is) c.in_ok-own.ensures.declared;
      left = λ before h.
          let l : AreLeft s before known.struct.fields c.loop-name.first names (t ∷ drop (i + 1) names)
          = subst (λ (ts : List Lexeme). AreLeft s before known.struct.fields c.loop-name.first names ts) next (c.loop-name.invariant.left before h) in
          subst (λ (f : Option Fault). AreLeft s before grown.struct.fields f names (drop (i + 1) names)) (sym c.earliest-first.ensures)
          (left_more s before known.struct.fields grown.struct.fields c.loop-name.first c.in_ok-own.own names (drop (i + 1) names) t c.args.kind l
          (λ now a. c.in_ok-own.ensures.told s.tokens now a) (field_fields s known grown t c.args.kind c.loop-name.invariant.text c.in_ok-own.ensures.declared));
    }

pub returns-clause-told : goal.returns-clause-told
returns-clause-told c = λ before h.
    left_none (source_of c.args.seen.now) before c.loop-name.table.struct.fields c.loop-name.first c.args.names.now
    (subst (λ (ts : List Lexeme). AreLeft (source_of c.args.seen.now) before c.loop-name.table.struct.fields c.loop-name.first c.args.names.now ts)
    (drop_all c.loop-name.name-index c.args.names.now c.loop-name-test.false) (c.loop-name.invariant.left before h))

pub returns-clause-declared : goal.returns-clause-declared
returns-clause-declared c =
    let env : Env = env_of c.args.seen.now in
    sym (ap (λ (ts : List Lexeme). with_fields c.loop-name.table (group_fields env ts c.args.kind)) (drop_all c.loop-name.name-index c.args.names.now c.loop-name-test.false)
    ∙ nothing_on c.loop-name.table)
    ∙ c.loop-name.invariant.table_is
