use Rattle.std.proofs.Common.{◌≡◌, ◌∙◌, Bool, [], map, ap, subst}
use Rattle.std.specs.Prelude.{IfOk}
use Rattle.std.specs.List.{list_any}
use Rattle.sal_typedefs.specs.Names.{is_of, steps_of}
use Rattle.sal_typedefs.specs.Spots.{site_of}
use Rattle.sal_typedefs.specs.Walks.{Node, nodes}
use Rattle.sal_typedefs.proofs.WalkLists.{sites-under}
use Rattle.sal_typedefs.proofs.circle.reaches.Goals as goal

pub returns : goal.returns
returns c =
    let a = c.args in
    let modules = a.typedefs.now in
    let steps = steps_of modules in
    let ways = c.in_ok-ways.ensures ∙ ap (nodes steps modules) c.in_ok-copy.ensures in
    let sites = ap (map (λ (n : Node). n.site)) ways ∙ sites-under steps modules (site_of a.spot.now) in
    let P : Bool → Type 0 = λ b. IfOk c.one_is_of.result (λ does. does ≡ b) in
    subst P (ap (list_any (is_of modules (record { «module» = a.spot.now.module; stmt = a.typedef.now; around = [] }))) sites) c.one_is_of.ensures
