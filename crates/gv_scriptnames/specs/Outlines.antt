-- The outline of a script: what it declares and names.
use Rattle.std.specs.Prelude.{List, map, option_map}
use Rattle.gv_scriptsyntax.specs.declared.tree.Block.{Block}
use Rattle.gv_scriptsyntax.specs.declared.tree.Book.{Book}
use Rattle.gv_scriptsyntax.specs.declared.tree.Case.{Case}
use Rattle.gv_scriptsyntax.specs.declared.tree.Pred.{Pred}
use Rattle.gv_scriptsyntax.specs.declared.tree.Cut.{Cut}
use Rattle.gv_scriptsyntax.specs.declared.tree.Op.{Op}
use Rattle.gv_scriptsyntax.specs.declared.tree.Proc.{Proc}
use Rattle.gv_scriptsyntax.specs.declared.tree.Script.{Script}
use Rattle.gv_scriptnames.specs.declared.outline.BookOutline.{BookOutline}
use Rattle.gv_scriptnames.specs.declared.outline.CaseOutline.{CaseOutline}
use Rattle.gv_scriptnames.specs.declared.outline.PredOutline.{PredOutline}
use Rattle.gv_scriptnames.specs.declared.outline.CutOutline.{CutOutline}
use Rattle.gv_scriptnames.specs.declared.outline.BodyOutline.{BodyOutline}
use Rattle.gv_scriptnames.specs.declared.outline.OpOutline.{OpOutline}
use Rattle.gv_scriptnames.specs.declared.outline.ProcOutline.{ProcOutline}
use Rattle.gv_scriptnames.specs.declared.outline.Outline.{Outline}
use Rattle.gv_scriptnames.specs.Mentions.{of_inst, in_items, in_block}

abbrev pub of_book : Book → BookOutline
of_book b = record { name = b.name; count = b.count }

abbrev pub of_case : Case → CaseOutline
of_case c = record { vars = c.vars; items = in_items c.items }

abbrev pub of_pred : Pred → PredOutline
of_pred p = record { name = p.name; params = p.params; cases = map of_case p.cases }

abbrev pub of_cut : Cut → CutOutline
of_cut c = record { name = c.name; number = c.number; locals = c.locals; vars = c.vars; items = in_items c.items; block = in_block c.block }

abbrev pub of_body : Block → List Cut → BodyOutline
of_body block cuts = record { block = in_block block; cuts = map of_cut cuts }

abbrev pub of_op : Op → OpOutline
of_op o = record { name = o.name; body = of_body o.block o.cuts }

abbrev pub of_proc : Proc → ProcOutline
of_proc r = record {
  name = r.name;
  own = option_map of_inst r.own;
  vars = r.vars;
  results = r.results;
  pre = in_items r.pre;
  post = in_items r.post;
  body = of_body r.block r.cuts;
}

abbrev pub outline_of : Script → Outline
outline_of s = record {
  books = map of_book s.books;
  preds = map of_pred s.preds;
  crash = s.crash;
  root = s.root;
  init = in_block s.init;
  recover = of_body s.recover s.cuts;
  ops = map of_op s.ops;
  procs = map of_proc s.procs;
}
