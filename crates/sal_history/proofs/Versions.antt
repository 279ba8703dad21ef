-- The tables of a domain's versions, and the present version over one entry more.
use Rattle.std.proofs.Common.{◌≡◌, ℕ, zero, suc, ◌+◌, ◌≤◌, Bool, true, false, List, [], ◌∷◌, ◌++◌, length, Option, None, Some, refl, ap, sym, ◌∙◌, subst, cond, arith, inl, inr}
use Rattle.std.specs.Prelude.{not, nat_eq, slice_get}
use Rattle.std.specs.List.{AllByRecursion}
use Rattle.std.specs.Option.{option_map, option_or}
use Rattle.std.proofs.Math.Seq.{take-length}
use Rattle.std.proofs.lemmas.Bool.{cases_lt, eqb-true}
use Rattle.std.proofs.lemmas.List.{take-append-le}
use Rattle.std.proofs.lemmas.List.Sums.{sum_by-append}
use Rattle.std.proofs.lemmas.Option.{none-some, same_Some}
use Rattle.sal_types.specs.declared.value.Store.{Store}
use Rattle.sal_types.specs.declared.value.Store.TheVariants.{Config, Oper}
use Rattle.sal_types.specs.declared.row.Row.{Row}
use Rattle.sal_rows.specs.declared.outcome.CallFault.{CallFault}
use Rattle.sal_rows.specs.declared.outcome.CallFault.TheVariants.{WrongVersion}
use Rattle.sal_schema.specs.declared.table.SchemaTable.{SchemaTable}
use Rattle.sal_schema.specs.Versions.{Extends}
use Rattle.sal_schema.proofs.Stays.{extends-itself, extends-on}
use Rattle.sal_rules.specs.Breaches.{breach}
use Rattle.sal_history.specs.Answered.{Answered}
use Rattle.sal_history.specs.declared.call.Call.{Call}
use Rattle.sal_history.specs.declared.call.Call.TheVariants.{Upgrade}
use Rattle.sal_history.specs.declared.reply.Reply.{Reply}
use Rattle.sal_history.specs.declared.reply.Reply.TheVariants.{Accepted}
use Rattle.sal_history.specs.History.{fault_if, refused_or, reply_to, trees_of, upgrade_refusal}
use Rattle.sal_history.specs.Versions.{breach_in, broken_by, is_upgrade, schema_version, tables_now, upgraded, version_at}
use Rattle.sal_history.specs.World.{Domain, IsChain, last_of, table_of, version_from, version_in}
use Rattle.sal_types.proofs.Handy.{not_false}

-- ---- the tables of a chain of versions

pub first-version : (table : SchemaTable) (upgrades : List SchemaTable) → version_from table upgrades 0 ≡ table
first-version table [] = refl
first-version table (next ∷ upgrades) = refl

-- the version after `v` is the upgrade at that place
pub next-version : (table : SchemaTable) (upgrades : List SchemaTable) (v : ℕ) (next : SchemaTable) → slice_get upgrades v ≡ Some next → version_from table upgrades (suc v) ≡ next
next-version table [] v next at = absurd (none-some next at)
next-version table (u ∷ upgrades) zero next at = first-version u upgrades ∙ same_Some u next at
next-version table (u ∷ upgrades) (suc v) next at = next-version u upgrades v next at

-- a property of all tables is one of each version
pub at-version : (P : SchemaTable → Type 0) (table : SchemaTable) (upgrades : List SchemaTable) (v : ℕ) → P table → AllByRecursion P upgrades → P (version_from table upgrades v)
at-version P table [] v here rest = here
at-version P table (u ∷ upgrades) zero here rest = here
at-version P table (u ∷ upgrades) (suc v) here rest = at-version P u upgrades v rest.0 rest.1

-- in a chain each version extends the one before, also past the last one, which is then repeated
pub chain-at : (table : SchemaTable) (upgrades : List SchemaTable) (v : ℕ) → IsChain table upgrades → Extends (version_from table upgrades (suc v)) (version_from table upgrades v)
chain-at table [] v chain = extends-itself table
chain-at table (u ∷ upgrades) zero chain = subst (λ t. Extends t table) (sym (first-version u upgrades)) chain.0
chain-at table (u ∷ upgrades) (suc v) chain = chain-at u upgrades v chain.1

-- a chain with one version more
pub chain-push : (table : SchemaTable) (upgrades : List SchemaTable) (next : SchemaTable) → IsChain table upgrades → Extends next (version_from table upgrades (length upgrades)) → IsChain table (upgrades ++ next ∷ [])
chain-push table [] next chain extends = (extends, tt)
chain-push table (u ∷ upgrades) next chain extends = (chain.0, chain-push u upgrades next chain.1 extends)

-- if each extends the one before, each later one extends each earlier one
pub later-extends : (f : ℕ → SchemaTable) → ((v : ℕ) → Extends (f (suc v)) (f v)) → (v w : ℕ) → v ≤ w → Extends (f w) (f v)
later-extends f each v zero le = let same : zero ≡ v = omega (arith, le) in subst (λ k. Extends (f zero) (f k)) same (extends-itself (f zero))
later-extends f each v (suc w) le = elim (cases_lt v (suc w)) [
  | inl lt ↦ extends-on (f (suc w)) (f w) (f v) (each w) (later-extends f each v w (omega (arith, lt)))
  | inr ge ↦ let same : suc w ≡ v = omega (arith, le, ge) in subst (λ k. Extends (f (suc w)) (f k)) same (extends-itself (f (suc w)))
]

-- ---- the tables of a world

pub table-in : (world : List Domain) (number v : ℕ) (d : Domain) → slice_get world number ≡ Some d → table_of world v number ≡ version_in d v
table-in [] number v d at = absurd (none-some d at)
table-in (x ∷ world) zero v d at = ap (λ (y : Domain). version_in y v) (same_Some x d at)
table-in (x ∷ world) (suc n) v d at = table-in world n v d at

pub last-in : (world : List Domain) (number : ℕ) (d : Domain) → slice_get world number ≡ Some d → last_of world number ≡ version_in d (length d.upgrades)
last-in [] number d at = absurd (none-some d at)
last-in (x ∷ world) zero d at = ap (λ (y : Domain). version_in y (length y.upgrades)) (same_Some x d at)
last-in (x ∷ world) (suc n) d at = last-in world n d at

-- a domain without upgrades has one table
pub one-table : (world : List Domain) (number v w : ℕ) → ((d : Domain) → slice_get world number ≡ Some d → d.upgrades ≡ []) → table_of world v number ≡ table_of world w number
one-table [] number v w none = refl
one-table (x ∷ world) zero v w none =
    let e : x.upgrades ≡ [] = none x refl in
    ap (λ (us : List SchemaTable). version_from x.table us v) e ∙ sym (ap (λ (us : List SchemaTable). version_from x.table us w) e)
one-table (x ∷ world) (suc n) v w none = one-table world n v w none

-- ---- the present version

-- no other call is an upgrade
pub no-upgrade : (call : Call) (reply : Reply) → is_upgrade call ≡ false → upgraded call reply ≡ false
no-upgrade (Upgrade version) reply e = cc
no-upgrade call reply e = refl

pub schema_version-push : (answered : List Answered) (a : Answered) → schema_version (answered ++ a ∷ []) ≡ schema_version answered + cond (upgraded a.entry.call a.reply) 1 0
schema_version-push answered a =
    let one : 0 + cond (upgraded a.entry.call a.reply) 1 0 ≡ cond (upgraded a.entry.call a.reply) 1 0 = omega arith in
    sum_by-append (λ (x : Answered). cond (upgraded x.entry.call x.reply) 1 0) answered (a ∷ []) ∙ ap (λ n. schema_version answered + n) one

-- any other entry does not change it, nor the tables
pub schema_version-same : (answered : List Answered) (a : Answered) → upgraded a.entry.call a.reply ≡ false → schema_version (answered ++ a ∷ []) ≡ schema_version answered
schema_version-same answered a e =
    let none : schema_version answered + 0 ≡ schema_version answered = omega arith in
    schema_version-push answered a ∙ ap (λ b. schema_version answered + cond b 1 0) e ∙ none

pub schema_version-next : (answered : List Answered) (a : Answered) → upgraded a.entry.call a.reply ≡ true → schema_version (answered ++ a ∷ []) ≡ schema_version answered + 1
schema_version-next answered a e = schema_version-push answered a ∙ ap (λ b. schema_version answered + cond b 1 0) e

pub tables-same : (world : List Domain) (answered : List Answered) (a : Answered) → upgraded a.entry.call a.reply ≡ false → tables_now world (answered ++ a ∷ []) ≡ tables_now world answered
tables-same world answered a e = ap (λ v domain. table_of world v domain) (schema_version-same answered a e)

-- the version never falls
pub schema_version-rises : (answered : List Answered) (a : Answered) → schema_version answered ≤ schema_version (answered ++ a ∷ [])
schema_version-rises answered a = omega (arith, schema_version-push answered a)

-- the version at an earlier place is unchanged, and the one after all entries is the present one
pub version_at-stays : (answered : List Answered) (a : Answered) (place : ℕ) → place ≤ length answered → version_at (answered ++ a ∷ []) place ≡ version_at answered place
version_at-stays answered a place le = ap schema_version (take-append-le place answered (a ∷ []) le)

pub version_at-now : (answered : List Answered) → version_at answered (length answered) ≡ schema_version answered
version_at-now answered = ap schema_version (take-length answered)

-- ---- an upgrade that is accepted

pub or_none : {X : Type 0} (a b : Option X) → option_or a b ≡ None → (a ≡ None) × (b ≡ None)
or_none None b e = (refl, e)
or_none (Some x) b e = cc

pub fault_none : (test : Bool) (fault : CallFault) → fault_if test fault ≡ None → test ≡ false
fault_none true fault e = cc
fault_none false fault e = refl

map_none : {X Y : Type 0} (f : X → Y) (o : Option X) → option_map f o ≡ None → o ≡ None
map_none f None e = refl
map_none f (Some x) e = cc

-- if the trees break no rule of a table, no tree has a breach
pub none-broken : (table : SchemaTable) (trees : Store → List Row) (s : Store) → broken_by table trees ≡ None → breach table s (trees s) ≡ None
none-broken table trees Config e = map_none _ (breach table Config (trees Config)) (or_none (breach_in table trees Config) (breach_in table trees Oper) e).0
none-broken table trees Oper e = map_none _ (breach table Oper (trees Oper)) (or_none (breach_in table trees Config) (breach_in table trees Oper) e).1

-- the call named the next version, by which the newest trees of domain 0 have no breach
pub record IsGoodUpgrade (world : List Domain) (answered : List Answered) (call : Call) : Type 0 where
  pub version : ℕ
  pub call_is : call ≡ Upgrade version
  pub next : schema_version answered + 1 ≡ version
  pub unbroken : (s : Store) → breach (table_of world version 0) s (trees_of world answered 0 s) ≡ None

pub good-upgrade : (world : List Domain) (answered : List Answered) (client : ℕ) (call : Call) → upgraded call (reply_to world answered client call) ≡ true → IsGoodUpgrade world answered call
good-upgrade world answered client (Upgrade version) e =
    let wrong = not (nat_eq (schema_version answered + 1) version) in
    let broken = broken_by (table_of world version 0) (trees_of world answered 0) in
    elim (upgrade_refusal world answered version) as (λ (o : Option CallFault). upgrade_refusal world answered version ≡ o → upgraded (Upgrade version) (refused_or o Accepted) ≡ true → IsGoodUpgrade world answered (Upgrade version)) [
      | None ↦ λ none h.
          let parts = or_none (fault_if wrong (WrongVersion (schema_version answered))) broken none in
          record {
            version = version;
            call_is = refl;
            next = eqb-true (schema_version answered + 1) version (not_false (nat_eq (schema_version answered + 1) version) (fault_none wrong (WrongVersion (schema_version answered)) parts.0));
            unbroken = λ s. none-broken (table_of world version 0) (trees_of world answered 0) s parts.1;
          }
      | Some fault ↦ λ some h. cc
    ] refl e
good-upgrade world answered client call e = cc
