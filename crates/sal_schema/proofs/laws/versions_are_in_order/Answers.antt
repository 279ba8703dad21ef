use Rattle.sal_schema.proofs.Fronts.{front-all}
use Rattle.sal_schema.proofs.Stays.{extends-itself, extends-on}
use Rattle.sal_schema.proofs.laws.versions_are_in_order.Goals as goal

pub returns-clause-itself : goal.returns-clause-itself
returns-clause-itself c = extends-itself

pub returns-clause-on : goal.returns-clause-on
returns-clause-on c = extends-on

pub returns-clause-counts : goal.returns-clause-counts
returns-clause-counts c newer older e nodes types modules identities =
    let these = front-all newer.nodes older.nodes e.nodes nodes in
    let tys = front-all newer.types older.types e.types types in
    let mods = front-all newer.modules older.modules e.modules modules in
    let ids = front-all newer.identities older.identities e.identities identities in
    λ i. record { nodes = these i; types = tys i; modules = mods i; identities = ids i }
