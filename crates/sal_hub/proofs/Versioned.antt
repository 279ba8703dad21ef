-- Versions by the numbers of domains, and at places of the log.
use Rattle.std.proofs.Common.{◌≡◌, ℕ, zero, suc, ◌+◌, ◌≤◌, true, false, List, [], ◌∷◌, ◌++◌, drop, map, take, Some, refl, ap, sym, ◌∙◌, cond, arith, if◌then◌else◌, nat_eq}
use Rattle.std.specs.Prelude.{slice_get}
use Rattle.std.proofs.lemmas.Bool.Decides.{nat_tests}
use Rattle.std.proofs.lemmas.List.{take-append-drop}
use Rattle.std.proofs.lemmas.List.Sums.{sum_by-append}
use Rattle.std.proofs.lemmas.Option.{slice_get_within}
use Rattle.sal_schema.specs.declared.table.SchemaTable.{SchemaTable}
use Rattle.sal_history.specs.Answered.{Answered}
use Rattle.sal_history.specs.Versions.{schema_version, upgraded, version_at}
use Rattle.sal_history.specs.World.{Domain, OneIsUpgraded, table_of}
use Rattle.sal_history.proofs.Versions.{one-table}
use Rattle.sal_commit.specs.declared.domain.Domain.{Domain as Stored}
use Rattle.sal_hub.specs.declared.pipeline.Pipeline.{Pipeline}
use Rattle.sal_hub.specs.Current.{IsKept, answers, number_of}
use Rattle.sal_hub.specs.Journals.{Noted}
use Rattle.sal_hub.specs.PipelineView.{queue_of, shown, world_in}
use Rattle.sal_hub.proofs.Deciding.{table-at, version-here}

-- a domain's table by the version of domain 0 is the one by its own version
pub numbered : (world : List Domain) (v n : ℕ) → OneIsUpgraded world → table_of world v n ≡ table_of world (number_of v n) n
numbered world v zero only = let own : nat_eq 0 0 ≡ true = grind (arith, nat_tests) in ap (λ b. table_of world (if b then v else 0) 0) (sym own)
numbered world v (suc n) only =
    let other : nat_eq (suc n) 0 ≡ false = grind (arith, nat_tests) in
    one-table world (suc n) v 0 (λ d at. only n d at) ∙ ap (λ b. table_of world (if b then v else 0) (suc n)) (sym other)

-- ---- a domain that is kept

module _ (journal : Noted) (p : Pipeline) (is : IsKept journal p) (n : ℕ) (d : Stored) (at : slice_get (map shown p.domains.items) n ≡ Some (shown d)) where
  pub version-present : d.version ≡ number_of (schema_version (answers journal.log (queue_of p))) n
  version-present = sym (version-here (queue_of p).domains n (shown d) at) ∙ is.current.versions n (slice_get_within (queue_of p).domains n (shown d) at)

  pub schema-present : d.schema.value ≡ table_of (world_in (queue_of p).domains) d.version n
  schema-present =
      sym (table-at (queue_of p).domains n (shown d) at) ∙ is.current.tables n
      ∙ numbered (world_in (queue_of p).domains) (schema_version (answers journal.log (queue_of p))) n is.current.only
      ∙ ap (λ v. table_of (world_in (queue_of p).domains) v n) (sym version-present)

-- ---- places

-- the version at a place is no later than the present one
pub version_at-low : (answered : List Answered) (place : ℕ) → version_at answered place ≤ schema_version answered
version_at-low answered place =
    let all : schema_version (take place answered ++ drop place answered) ≡ schema_version answered = ap schema_version (take-append-drop place answered) in
    let sum : schema_version (take place answered ++ drop place answered) ≡ version_at answered place + schema_version (drop place answered) =
    sum_by-append (λ (a : Answered). cond (upgraded a.entry.call a.reply) 1 0) (take place answered) (drop place answered) in
    omega (arith, all, sum)
