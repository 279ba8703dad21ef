use Rattle.std.proofs.Common.{◌≡◌, ◌∙◌, ◌∷◌, ◌++◌, [], List, map, filter, length, sym, ap, arith, append-nil}
use Rattle.sal_stmt.specs.declared.stmt.Stmt.{Stmt}
use Rattle.sal_typedefs.specs.declared.walk.Way.{Way}
use Rattle.sal_typedefs.specs.Scopes.{Site}
use Rattle.sal_typedefs.specs.Names.{is_leafref, steps_of}
use Rattle.sal_typedefs.specs.Spots.{site_of}
use Rattle.sal_typedefs.specs.Walks.{Node, left, node_of}
use Rattle.sal_typedefs.specs.Leafrefs.{leafref_seen, stmt_in}
use Rattle.sal_typedefs.proofs.WalkLists.{sites-under, passing-more}
use Rattle.sal_typedefs.proofs.leafrefs.leafrefs_by_way.Goals as goal

pub ways-init : goal.ways-init
ways-init c =
    let modules = c.args.typedefs.now in
    let sites = ap (map (λ (n : Node). n.site)) c.in_ok-ways.ensures ∙ sites-under (steps_of modules) modules (site_of c.args.spot) in
    ap (λ items. map leafref_seen items ++ map stmt_in (filter is_leafref (map (λ (n : Node). n.site) (left modules c.in_ok-ways.ways.items)))) c.new-all.ensures.items
    ∙ ap (λ sites. map stmt_in (filter is_leafref sites)) sites

-- the sites that are left
abbrev sites : List Stmt → List Way → List Site
sites modules ways = map (λ (n : Node). n.site) (left modules ways)

pub returns : goal.returns
returns c =
    let done = map leafref_seen c.ways.all.items in
    let none : left c.args.typedefs.now c.ways.ways.items ≡ [] = rw c.in_default.is at c.in_ok-gone.ensures in
    sym (append-nil done) ∙ ap (λ ns. done ++ map stmt_in (filter is_leafref (map (λ (n : Node). n.site) ns))) (sym none) ∙ c.ways.invariant

pub ways-preserved : goal.ways-preserved
ways-preserved c =
    let modules = c.args.typedefs.now in
    let gone = c.in-Some.gone in
    let rest = sites modules c.next.new.ways.items in
    let one : left modules c.ways.ways.items ≡ node_of gone ∷ left modules c.next.new.ways.items = rw c.in-Some.is at c.in_ok-gone.ensures in
    sym (passing-more stmt_in is_leafref (map leafref_seen c.ways.all.items) (map leafref_seen c.push_leafref.new.all.items) (site_of gone.spot) rest c.in_ok-push_leafref.ensures)
    ∙ ap (λ ns. map leafref_seen c.ways.all.items ++ map stmt_in (filter is_leafref (map (λ (n : Node). n.site) ns))) (sym one) ∙ c.ways.invariant

pub ways-smaller : goal.ways-smaller
ways-smaller c =
    let modules = c.args.typedefs.now in
    let one : left modules c.ways.ways.items ≡ node_of c.in-Some.gone ∷ left modules c.next.new.ways.items = rw c.in-Some.is at c.in_ok-gone.ensures in
    rw (ap length one) (omega arith)
