-- The readers of domains.
use Rattle.std.proofs.Common.{◌≡◌, ℕ, ◌<◌, true, List, ◌∷◌, length, ap, ◌∙◌, arith}
use Rattle.std.proofs.lemmas.Bool.Decides.{nat_tests}
use Rattle.std.proofs.lemmas.List.{length-map}
use Rattle.sal_history.specs.World.{Domain}
use Rattle.sal_schema.specs.declared.table.SchemaTable.{SchemaTable}
use Rattle.sal_script.specs.Tables.{has_domain, versions_of}

-- the readers of a world have its domains
pub reader_there : (readers : List (List SchemaTable)) (world : List Domain) (n : ℕ) → readers ≡ versions_of world → n < length world → has_domain readers n ≡ true
reader_there readers world n is inside =
    let long = ap length is ∙ length-map world (λ (d : Domain). d.table ∷ d.upgrades) in
    grind (arith, nat_tests, long)

pub reader_among : (readers : List (List SchemaTable)) (count n : ℕ) → count ≡ length readers → n < count → has_domain readers n ≡ true
reader_among readers count n many inside = grind (arith, nat_tests, many)
