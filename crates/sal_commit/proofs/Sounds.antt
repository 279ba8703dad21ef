-- Commits whose trees break no rule.
use Rattle.std.proofs.Common.{◌≡◌, ℕ, ◌+◌, ◌-◌, ◌≤◌, ◌<◌, List, [], ◌∷◌, ◌++◌, length, get_or, take, drop, Bool, true, false, if◌then◌else◌, Option, Some, None, refl, sym, ap, ◌∙◌, subst, arith, length-append}
use Rattle.std.proofs.lemmas.List.{drop-append-le, get_or_default, get_or-drop, get_or-take, length-drop, length-take}
use Rattle.std.proofs.lemmas.List.Elements.{All-push, All-cons, All-nil}
use Rattle.std.specs.Option.{option_map, option_or}
use Rattle.sal_types.specs.declared.value.Store.{Store}
use Rattle.sal_types.specs.declared.value.Store.TheVariants.{Config, Oper}
use Rattle.sal_types.specs.declared.row.Row.{Row}
use Rattle.sal_schema.specs.declared.table.SchemaTable.{SchemaTable}
use Rattle.sal_rows.specs.declared.outcome.Breach.{Breach}
use Rattle.sal_rules.specs.Breaches.{breach}
use Rattle.sal_commit.specs.declared.fault.DomainFault.{DomainFault}
use Rattle.sal_commit.specs.declared.fault.DomainFault.TheVariants.{Broken}
use Rattle.sal_commit.specs.Opening.{broken, fault_over}
use Rattle.sal_commit.specs.Sound.{AreSound, AreSoundSince, BreakNone}
use Rattle.sal_tree.specs.declared.commit.Commit.{Commit}

none-broken : (table : SchemaTable) (s : Store) (rows : List Row) → broken table s rows ≡ None → breach table s rows ≡ None
none-broken table s rows e = of_map (breach table s rows) e
  where
    of_map : (b : Option Breach) → option_map (Broken s) b ≡ None → b ≡ None
    of_map None e = refl
    of_map (Some x) e = cc

-- trees without a fault break no rule
pub none-fault : (table : SchemaTable) (trees : Store → List Row) → fault_over table trees ≡ None → (s : Store) → breach table s (trees s) ≡ None
none-fault table trees e Config = none-broken table Config (trees Config) (first (broken table Config (trees Config)) (broken table Oper (trees Oper)) e)
  where
    first : (a b : Option DomainFault) → option_or a b ≡ None → a ≡ None
    first None b e = refl
    first (Some x) b e = cc
none-fault table trees e Oper = none-broken table Oper (trees Oper) (second (broken table Config (trees Config)) (broken table Oper (trees Oper)) e)
  where
    second : (a b : Option DomainFault) → option_or a b ≡ None → b ≡ None
    second None b e = e
    second (Some x) b e = cc

-- one commit
pub AreSound-one : (table : SchemaTable) (commits : List Commit) (c : Commit) → commits ≡ c ∷ [] → BreakNone table c.trees → AreSound table commits
AreSound-one table commits c one none =
    subst (AreSound table) (sym one) (All-cons (λ (x : Commit). BreakNone table x.trees) c [] none (All-nil (λ (x : Commit). BreakNone table x.trees)))

-- one commit more, or none
pub AreSoundSince-push : (since : ℕ) (table : SchemaTable) (commits : List Commit) (c : Commit) (pushed : Bool) → since ≤ length commits → AreSoundSince since table commits → BreakNone table c.trees
    → AreSoundSince since table (if pushed then commits ++ c ∷ [] else commits)
AreSoundSince-push since table commits c true low sound none =
    subst (AreSound table) (sym (drop-append-le since commits (c ∷ []) low)) (All-push (λ (x : Commit). BreakNone table x.trees) (drop since commits) c sound none)
AreSoundSince-push since table commits c false low sound none = sound

-- with one commit more, or none, there are more than before
pub longer : (since : ℕ) (commits : List Commit) (c : Commit) (pushed : Bool) → since < length commits → since < length (if pushed then commits ++ c ∷ [] else commits)
longer since commits c true low = omega (arith, low, length-append commits (c ∷ []))
longer since commits c false low = low

-- one of the commits
pub AreSoundSince-at : (since : ℕ) (table other : SchemaTable) (commits : List Commit) (k : ℕ) (c : Commit) → other ≡ table → since ≤ k → k < length commits → c ≡ get_or commits k c
    → AreSoundSince since table commits → BreakNone other c.trees
AreSoundSince-at since table other commits k c same low short at sound =
    let place : since + (k - since) ≡ k = omega (arith, low) in
    let there : c ≡ get_or (drop since commits) (k - since) c = at ∙ sym (get_or-drop since commits (k - since) c ∙ ap (λ i. get_or commits i c) place) in
    let within : k - since < length (drop since commits) = omega (arith, low, short, length-drop since commits) in
    subst (λ (t : SchemaTable). BreakNone t c.trees) (sym same) (subst (λ (x : Commit). BreakNone table x.trees) (sym there) (sound (k - since) c within))

-- the first commits
pub AreSoundSince-take : (since : ℕ) (table : SchemaTable) (n : ℕ) (commits : List Commit) → AreSoundSince since table commits → AreSoundSince since table (take n commits)
AreSoundSince-take since table n commits sound k c short =
    let long : length (drop since (take n commits)) ≡ length (take n commits) - since = length-drop since (take n commits) in
    let shorter : since + k < n = omega (arith, short, long, length-take n commits) in
    let within : k < length (drop since commits) = omega (arith, short, long, length-take n commits, length-drop since commits) in
    let same : get_or (drop since (take n commits)) k c ≡ get_or (drop since commits) k c =
    get_or-drop since (take n commits) k c ∙ get_or-take n commits (since + k) c shorter ∙ sym (get_or-drop since commits k c) in
    subst (λ (x : Commit). BreakNone table x.trees) (sym same) (sound k c within)

-- the newest commit alone
pub AreSoundSince-newest : (since : ℕ) (table : SchemaTable) (commits : List Commit) → since ≡ length commits - 1 → ((c : Commit) → c ≡ get_or commits (length commits - 1) c → BreakNone table c.trees) → AreSoundSince since table commits
AreSoundSince-newest since table commits is none k c short =
    let last : since + k ≡ length commits - 1 = omega (arith, is, short, length-drop since commits) in
    let x : Commit = get_or (drop since commits) k c in
    none x (get_or-drop since commits k c ∙ ap (λ i. get_or commits i c) last ∙ get_or_default commits (length commits - 1) c x (omega (arith, is, short, length-drop since commits)))
