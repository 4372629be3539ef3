use Rattle.std.proofs.Common.{ℕ, List, length, map, Option, sym, subst, ap, ◌∙◌}
use Rattle.std.specs.Prelude.{slice_get}
use Rattle.std.specs.Option.{option_and_then}
use Rattle.std.specs.List.{list_any}
use Rattle.gv_lang.specs.declared.program.Struct.{Struct}
use Rattle.gv_lang.specs.declared.program.Proc.{Proc}
use Rattle.gv_atomic.specs.declared.spec.Field.{Field}
use Rattle.gv_atomic.specs.declared.spec.Op.{Op}
use Rattle.gv_scriptnames.specs.Scopes.{is_field_of, named}
use Rattle.gv_scriptfaults.specs.Tables.{Holds, IsTable, entry}
use Rattle.gv_scriptfaults.specs.declared.scoped.ProcFacts.{ProcFacts}
use Rattle.gv_scriptfaults.specs.Procs.{AreFacts}
use Rattle.gv_scriptfaults.specs.Scoped.{ArePlaces}
use Rattle.gv_scriptfaults.proofs.Lookups.{place_is, mapped_same}
use Rattle.gv_scriptfaults.proofs.known.known_of.Goals as goal

pub returns : goal.returns
returns c =
    let procs = c.args.program.now.procs in
    let places = subst (λ (ps : List Proc). ArePlaces ps ps c.in_ok-places_of.field-0) c.as_slice-procs.ensures c.in_ok-places_of.ensures in
    record {
      cells = λ n. c.in_ok-cells_of.ensures n ∙ ap (λ (ss : List Struct). list_any (is_field_of n) ss) c.as_slice-3.ensures;
      fields = subst (λ (fs : List Field). Holds (map (λ (f : Field). f.name) fs) c.in_ok-fields_of.field-0) c.as_slice.ensures c.in_ok-fields_of.ensures;
      ops = subst (λ (os : List Op). IsTable (λ (o : Op). o.name) (λ (o : Op). length o.params) os c.in_ok-ops_of.field-0) c.as_slice-2.ensures c.in_ok-ops_of.ensures;
      facts = λ i. subst (λ (ps : List Proc). AreFacts (slice_get ps i) (slice_get c.from_vec.result i)) c.as_slice-procs.ensures
          (subst (λ (fs : List ProcFacts). AreFacts (slice_get c.as_slice-procs.result.now i) (slice_get fs i)) (sym c.from_vec.ensures) (c.in_ok-all_facts.ensures i));
      procs = λ n. place_is procs (named (λ (p : Proc). p.name) procs n) (entry c.in_ok-places_of.field-0 n) (places n);
      methods = λ n. ap (λ (o : Option ℕ). option_and_then (slice_get procs) o) (sym (c.in_ok-methods_of.ensures n ∙ mapped_same _));
    }
