use Rattle.std.proofs.Common.{◌≡◌, ◌∙◌, map, false, None, sym, ap}
use Rattle.std.specs.List.{list_any}
use Rattle.sal_module.specs.Faults.{least}
use Rattle.sal_module_table.specs.Leafrefs.{is_some_reference, references_at, edges_of}
use Rattle.sal_module_table.proofs.Nowhere.{no-edges, no-faults}
use Rattle.sal_module_table.proofs.leafrefs.no_targets.Goals as goal

pub returns-clause-edges : goal.returns-clause-edges
returns-clause-edges c =
    let stmts = c.args.modules.now in
    let forest = c.args.forest.now in
    let none : list_any is_some_reference (map (references_at stmts) forest) ≡ false = ap (list_any is_some_reference) (sym c.requires.leafrefs) ∙ c.requires.none in
    c.in_ok-edges.ensures ∙ sym (no-edges stmts forest 0 forest none)

pub returns-clause-fault : goal.returns-clause-fault
returns-clause-fault c =
    let stmts = c.args.modules.now in
    let forest = c.args.forest.now in
    let none : list_any is_some_reference (map (references_at stmts) forest) ≡ false = ap (list_any is_some_reference) (sym c.requires.leafrefs) ∙ c.requires.none in
    sym (ap (least None) (no-faults stmts forest (edges_of stmts forest) 0 forest none))
