-- The domain that is refused is one of the world, and so the status is written by its schema.
use Rattle.std.proofs.Common.{◌≡◌, ℕ, ◌<◌, ◌≤◌, ◌∷◌, List, length, ap, sym, ◌∙◌, subst, arith}
use Rattle.std.proofs.lemmas.Bool.Decides.{nat_tests}
use Rattle.std.proofs.lemmas.List.{length-map}
use Rattle.sal_history.specs.World.{Domain}
use Rattle.sal_hub.specs.Openings.{domain_of, world_of}
use Rattle.sal_prepare.specs.Scripted.{domain_in}
use Rattle.sal_prepare.proofs.Worlds.{fault_within, refusal_comes}
use Rattle.sal_prepare.proofs.openings.hub_of.Goals as goal

pub refusal-requires : goal.refusal-requires
refusal-requires c =
    let world = world_of c.args.rules c.args.devices.items in
    let long : length c.args.readers.now ≡ length world = ap length c.requires.tables ∙ length-map world (λ (d : Domain). d.table ∷ d.upgrades) in
    let some = subst (λ (n : ℕ). 1 ≤ n) (sym (length-map c.args.devices.items (domain_of c.args.rules))) c.requires.some in
    let within : domain_in c.in-Err.fault < length c.args.readers.now =
    subst (λ (n : ℕ). domain_in c.in-Err.fault < n) (sym long) (fault_within world c.in-Err.fault some c.in-Err.ensures) in
    grind (arith, nat_tests, within)

pub returns-in-Err : goal.returns-in-Err
returns-in-Err c = record {
  world = refusal_comes c.args.readers.now (world_of c.args.rules c.args.devices.items) c.in-Err.fault c.refusal.result c.requires.tables c.in-Err.ensures c.refusal.ensures;
  fresh = tt;
}
