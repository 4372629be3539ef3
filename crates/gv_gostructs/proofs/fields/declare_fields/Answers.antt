use Rattle.std.proofs.Common.{◌≡◌, ℕ, ◌+◌, List, [], ◌∷◌, ◌++◌, Option, drop, ap, sym, subst, refl, ◌∙◌}
use Rattle.std.proofs.lemmas.List.{drop_all}
use Rattle.gv_gosyntax.specs.declared.tree.Group.{Group}
use Rattle.gv_gotypes.specs.Scopes.{Source, Env, FieldType}
use Rattle.gv_gotypes.specs.Declarations.{group_fields, all_fields}
use Rattle.gv_gotypes.specs.Kinds.{kind_of}
use Rattle.gv_gotypes.specs.Files.{fields_twice}
use Rattle.gv_gotyped.specs.First.{first_of, earliest}
use Rattle.gv_operands.specs.declared.types.GoType.{GoType}
use Rattle.gv_gosyntax.specs.declared.lexeme.Lexeme.{Lexeme}
use Rattle.gv_gotyped.specs.declared.fault.Fault.{Fault}
use Rattle.gv_gonames.specs.Structs.{StructOf}
use Rattle.gv_goseen.specs.Seen.{env_of, source_of}
use Rattle.gv_gostructs.specs.Fields.{with_fields}
use Rattle.gv_gostructs.proofs.Rests.{AreStill, still_first, still_more, still_none, fields_on, nothing_on, drop_item}
use Rattle.gv_gostructs.proofs.fields.declare_fields.Goals as goal

pub loop-group-init : goal.loop-group-init
loop-group-init c = record {
  text = c.requires.text;
  alone = c.requires.alone;
  table_is = refl;
  left = still_first (env_of c.args.seen.now) c.args.table.now.struct.fields c.args.groups.now c.requires.bare;
}

pub loop-group-preserved : goal.loop-group-preserved
loop-group-preserved c =
    let env : Env = env_of c.args.seen.now in
    let groups : List Group = c.args.groups.now in
    let i : ℕ = c.loop-group.group-index in
    let g : Group = c.group-item.result in
    let known : StructOf = c.loop-group.table in
    let grown : StructOf = c.declare_group.new.table in
    let next : drop i groups ≡ g ∷ drop (i + 1) groups = drop_item groups i g c.loop-group-test.true c.group-item.is in
    let added : grown ≡ with_fields known (group_fields env g.names (kind_of env g.kind))
    = c.in_ok-again.ensures.declared
    ∙ ap (λ (ns : List Lexeme). with_fields known (group_fields env ns c.written_at-written.result.kind)) c.as_slice.ensures
    ∙ ap (λ (k : Option GoType). with_fields known (group_fields env g.names k)) c.written_at-written.ensures.kind in
    record {
      text = ap (λ (x : StructOf). x.text) added ∙ c.loop-group.invariant.text;
      alone = ap (λ (x : StructOf). x.struct.methods) added ∙ c.loop-group.invariant.alone;
      table_is = ap (λ (x : StructOf). with_fields x (all_fields env (drop (i + 1) groups))) added
          ∙ fields_on known (group_fields env g.names (kind_of env g.kind)) (all_fields env (drop (i + 1) groups))
          ∙ ap (λ (gs : List Group). with_fields known (all_fields env gs)) (sym next)
          ∙ c.loop-group.invariant.table_is;
      left =
          let l : AreStill env known.struct.fields c.loop-group.first groups (g ∷ drop (i + 1) groups)
          = subst (λ (gs : List Group). AreStill env known.struct.fields c.loop-group.first groups gs) next c.loop-group.invariant.left in
          subst (λ (f : Option Fault). AreStill env grown.struct.fields f groups (drop (i + 1) groups))
          (sym (c.earliest-first.ensures ∙ ap (λ (f : Option Fault). earliest c.loop-group.first f) c.earliest.ensures))
          (still_more env known.struct.fields grown.struct.fields c.loop-group.first c.written_at-written.result.first c.in_ok-again.again groups (drop (i + 1) groups) g (kind_of env g.kind) l
          c.written_at-written.ensures.first
          (λ now a. c.in_ok-again.ensures.told now a ∙ ap (λ (ns : List Lexeme). first_of (fields_twice env.source now ns)) c.as_slice.ensures)
          (ap (λ (x : StructOf). x.struct.fields) added));
    }

pub returns-clause-told : goal.returns-clause-told
returns-clause-told c =
    still_none (env_of c.args.seen.now) c.loop-group.table.struct.fields c.loop-group.first c.args.groups.now
    (subst (λ (gs : List Group). AreStill (env_of c.args.seen.now) c.loop-group.table.struct.fields c.loop-group.first c.args.groups.now gs)
    (drop_all c.loop-group.group-index c.args.groups.now c.loop-group-test.false) c.loop-group.invariant.left)

pub returns-clause-declared : goal.returns-clause-declared
returns-clause-declared c =
    let env : Env = env_of c.args.seen.now in
    sym (ap (λ (gs : List Group). with_fields c.loop-group.table (all_fields env gs)) (drop_all c.loop-group.group-index c.args.groups.now c.loop-group-test.false)
    ∙ nothing_on c.loop-group.table)
    ∙ c.loop-group.invariant.table_is
