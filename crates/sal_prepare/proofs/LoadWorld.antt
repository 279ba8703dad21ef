-- The script of a load is prepared to its world.
use Rattle.std.proofs.Common.{◌≡◌, ℕ, Bool, false, ◌||◌, List, [], ◌∷◌, None, Result, Ok, refl, ap, ◌∙◌}
use Rattle.std.specs.List.{list_any}
use Rattle.sal_types.specs.Reading.{◌>>=◌}
use Rattle.sal_restrict.specs.declared.yang_type.YangType.TheViews.{out-roll-YangType}
use Rattle.sal_schema.specs.declared.table.SchemaTable.{SchemaTable}
use Rattle.sal_schema.specs.Table.{closest}
use Rattle.sal_json.specs.Patterns.{has_malformed}
use Rattle.sal_rules.specs.Breaches.{first}
use Rattle.sal_rules.specs.Contexts.{through_plain, from_list}
use Rattle.sal_rules.specs.Rules.{is_there}
use Rattle.sal_history.specs.World.{Domain}
use Rattle.sal_hub.specs.Openings.{fault_of}
use Rattle.sal_script.specs.Load.{parts_of}
use Rattle.sal_script.specs.LoadExamples.{table}
use Rattle.sal_versions.specs.Loads.{LoadsHaveOneVersion}
use Rattle.sal_versions.specs.Versions.{Versions, tables_of}
use Rattle.sal_prepare.specs.declared.status.Status.{Status}
use Rattle.sal_prepare.specs.Each.{each_from}
use Rattle.sal_prepare.specs.Loads.{LoadsArePrepared, load_world}
use Rattle.sal_rows.specs.declared.clash.Rules.TheVariants.{One}
use Rattle.sal_prepare.specs.Scripted.{domains_of, if_formed, or_schema, over_world, reader_versions, world_over}
use Rattle.sal_prepare.proofs.Formed.{all_formed}

formed : list_any has_malformed table.types ≡ false
formed = simp out-roll-YangType

opened : fault_of load_world ≡ None
unfolding closest first through_plain from_list is_there
opened = refl

world : (rounds start : ℕ) → world_over One (domains_of (parts_of rounds start)) ((table ∷ []) ∷ []) ≡ Ok load_world
world rounds start = rw opened refl

-- there is one version, and its patterns are well formed
tables : LoadsHaveOneVersion → (rounds start : ℕ) → reader_versions (parts_of rounds start) ≡ Ok ((table ∷ []) ∷ [])
tables own rounds start =
    ap (λ (made : Result Versions (List ℕ)). (or_schema 0 made >>= (λ (v : Versions). Ok (tables_of v ∷ []))) >>= each_from if_formed 0) own.1
    ∙ ap (λ (ts : List SchemaTable). each_from if_formed 0 (ts ∷ [])) own.2
    ∙ all_formed ((table ∷ []) ∷ []) 0 (ap (λ (b : Bool). (b || false) || false) formed)

pub prepared : LoadsHaveOneVersion → LoadsArePrepared
prepared own rounds start =
    let parts = parts_of rounds start in
    ap (λ (r : Result (List (List SchemaTable)) Status). r >>= over_world parts) (tables own rounds start)
    ∙ ap (λ (r : Result (List Domain) Status). r >>= (λ world. Ok (record { parts = parts; world = world }))) (world rounds start)
