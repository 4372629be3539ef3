use Rattle.std.proofs.Common.{◌≡◌, ℕ, ◌<◌, ◌≤◌, List, Option, Some, length, set, ap, sym, subst, ◌∙◌}
use Rattle.std.specs.Prelude.{slice_range}
use Rattle.gv_gotyped.specs.First.{first_of}
use Rattle.gv_gonames.specs.Structs.{StructOf}
use Rattle.gv_goseen.specs.Naming.{span_by, method_twice_in}
use Rattle.gv_gomethods.specs.Methods.{IsGrowing}
use Rattle.gv_gomethods.proofs.Ones.{there, past, in_there, past_told, there_growing}
use Rattle.gv_gomethods.proofs.methods.declare_at.Goals as goal

pub declare_method-requires : goal.declare_method-requires
declare_method-requires c =
    let items : List StructOf = c.args.structs.now.items in
    let within : c.args.number < length items = subst (λ (m : ℕ). c.args.number < m) (c.len.ensures ∙ c.args.structs.now.ok.0) c.if-at-len.true in
    record { text = ap (λ (t : StructOf). t.text) c.index_mut.ensures.value ∙ in_there c.args.text.now c.args.number items _ c.requires within }

pub returns-in_ok-own-clause-told : goal.returns-in_ok-own-clause-told
returns-in_ok-own-clause-told c = λ p growing.
    let items : List StructOf = c.args.structs.now.items in
    let n : ℕ = c.args.number in
    let t : StructOf = c.index_mut.result.now in
    let within : n < length items = subst (λ (m : ℕ). n < m) (c.len.ensures ∙ c.args.structs.now.ok.0) c.if-at-len.true in
    let g : IsGrowing p c.args.procedure n t.struct = there_growing p c.args.procedure n items t _ within c.index_mut.ensures.value growing in
    let text : t.text ≡ c.args.text.now = ap (λ (u : StructOf). u.text) c.index_mut.ensures.value ∙ in_there c.args.text.now n items _ c.requires within in
    c.in_ok-own.ensures.told p n g.rest g.grown g.below g.from
    ∙ ap (λ (x : List ℕ). first_of (method_twice_in p c.args.procedure (slice_range x c.args.name.start c.args.name.end) n c.args.name.start)) text

pub returns-in_ok-own-clause-declared : goal.returns-in_ok-own-clause-declared
returns-in_ok-own-clause-declared c =
    let items : List StructOf = c.args.structs.now.items in
    let n : ℕ = c.args.number in
    let within : n < length items = subst (λ (m : ℕ). n < m) (c.len.ensures ∙ c.args.structs.now.ok.0) c.if-at-len.true in
    ap (λ (x : StructOf). set items n x) c.in_ok-own.ensures.declared
    ∙ sym (there (span_by c.args.name) c.args.procedure n items c.index_mut.result.now _ within c.index_mut.ensures.value)

pub returns-else-at-len-clause-told : goal.returns-else-at-len-clause-told
returns-else-at-len-clause-told c = λ p growing.
    past_told p c.args.procedure c.args.number c.args.structs.now.items (slice_range c.args.text.now c.args.name.start c.args.name.end) c.args.name.start
    (subst (λ (m : ℕ). m ≤ c.args.number) (c.len.ensures ∙ c.args.structs.now.ok.0) c.if-at-len.false) growing

pub returns-else-at-len-clause-declared : goal.returns-else-at-len-clause-declared
returns-else-at-len-clause-declared c =
    sym (past (span_by c.args.name) c.args.procedure c.args.number c.args.structs.now.items
    (subst (λ (m : ℕ). m ≤ c.args.number) (c.len.ensures ∙ c.args.structs.now.ok.0) c.if-at-len.false))
