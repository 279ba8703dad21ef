-- Properties of the parts of a table.
use Rattle.std.proofs.Common.{◌≡◌, ℕ, zero, suc, ◌+◌, ◌<◌, ◌≤◌, Bool, true, false, cond, not, ◌&&◌, nat_lt, IsTrue, List, [], ◌∷◌, ◌++◌, inl, inr, length, get_or, Option, Some, None, sym, refl, ap, ◌∙◌, arith}
use Rattle.std.proofs.lemmas.Bool.Decides.{nat_tests}
use Rattle.std.specs.Prelude.{IfSome}
use Rattle.std.specs.List.{slice_get, All}
use Rattle.std.specs.Prelude.{nat_eq}
use borrow.Author.Tests.{ltb-true}
use Rattle.std.proofs.lemmas.List.Elements.{All-cons}
use Rattle.std.proofs.lemmas.Bool.{cases_lt, true≢false}
use Rattle.std.specs.Option.{option_map_or, option_and_then, option_map}
use Rattle.sal_schema.specs.declared.kind.Kind.{Kind}
use Rattle.sal_schema.specs.declared.table.NodeInfo.{NodeInfo}
use Rattle.sal_schema.specs.declared.table.IdentityInfo.{IdentityInfo}
use Rattle.sal_schema.specs.declared.table.SchemaTable.{SchemaTable}
use Rattle.sal_schema.specs.Kinds.{is_leaf, is_list}
use Rattle.sal_schema.specs.Table.{closest, is_kind, is_same, parent_of, children_in}
use Rattle.sal_schema.specs.Valid.{IsTable, has_numbers, has_its_keys, is_good_identity, is_identifier, is_empty, agree, all_differ}
use Rattle.sal_schema.proofs.Conjuncts.{and_first, and_second}
use Rattle.sal_schema.proofs.Numbered.{all_from-at, list_all-at}

-- the item at a place of a list
pub slice_get_at : {X : Type 0} (xs : List X) (k : ℕ) (d : X) → k < length xs → slice_get xs k ≡ Some (get_or xs k d)
slice_get_at [] k d inside = absurd (omega arith)
slice_get_at (x ∷ xs) zero d inside = refl
slice_get_at (x ∷ xs) (suc k) d inside = slice_get_at xs k d (omega arith)

pub slice_get_past : {X : Type 0} (xs : List X) (k : ℕ) → length xs ≤ k → slice_get xs k ≡ None
slice_get_past [] k past = refl
slice_get_past (x ∷ xs) zero past = absurd (omega arith)
slice_get_past (x ∷ xs) (suc k) past = slice_get_past xs k (omega arith)

pub slice_get_some : {X : Type 0} (xs : List X) (k : ℕ) (x : X) → slice_get xs k ≡ Some x → (k < length xs) × (x ≡ get_or xs k x)
slice_get_some [] k x e = cc
slice_get_some (y ∷ xs) zero x e = (omega arith, cc)
slice_get_some (y ∷ xs) (suc k) x e = let (inside, here) = slice_get_some xs k x e in (omega arith, here)

pub slice_get_there : {X : Type 0} (xs : List X) (k : ℕ) → k < length xs → (x : X) × (slice_get xs k ≡ Some x)
slice_get_there [] k inside = absurd (omega arith)
slice_get_there (x ∷ xs) zero inside = (x, refl)
slice_get_there (x ∷ xs) (suc k) inside = slice_get_there xs k (omega arith)

-- a number of the table at a place
pub numbers_at : (table : SchemaTable) (n : ℕ) (node : NodeInfo) → IsTable table → n < length table.nodes → node ≡ get_or table.nodes n node
    → IsTrue (has_numbers table n node)
numbers_at table n node good inside here =
    rw (← here) at (all_from-at (has_numbers table) 0 table.nodes n n node good.numbers inside (omega arith))

before : (n : ℕ) (parent : Option ℕ) → IsTrue (option_map_or (λ p. nat_lt p n) parent true) → IfSome parent (λ p. p < n)
before n None h = tt
before n (Some p) h = grind (arith, nat_tests)

-- a parent is before its child
pub parent_before : (table : SchemaTable) (nodes : List NodeInfo) (n : ℕ) (node : NodeInfo) → IsTable table → nodes ≡ table.nodes → n < length nodes
    → node ≡ get_or nodes n node → IfSome node.parent (λ p. p < n)
parent_before table nodes n node good all inside here =
    let inside : n < length table.nodes = rw all at inside in
    let here : node ≡ get_or table.nodes n node = rw all at here in
    before n node.parent (and_first _ _ (and_first _ _ (numbers_at table n node good inside here)))

-- what the numbers of a node are
pub parent_is_before : (table : SchemaTable) (n : ℕ) (node : NodeInfo) → IsTrue (has_numbers table n node) → IfSome node.parent (λ p. p < n)
parent_is_before table n node h = before n node.parent (and_first _ _ (and_first _ _ h))

pub module_is_there : (table : SchemaTable) (n : ℕ) (node : NodeInfo) → IsTrue (has_numbers table n node) → node.module < length table.modules
module_is_there table n node h = ltb-true node.module (length table.modules) (and_second (option_map_or (λ p. nat_lt p n) node.parent true) _ (and_first _ _ h))

pub type_is_there : (table : SchemaTable) (n : ℕ) (node : NodeInfo) → IsTrue (has_numbers table n node) → IfSome node.ty (λ t. t < length table.types)
type_is_there table n node h =
    before (length table.types) node.ty
    (and_second (option_map_or (λ p. nat_lt p n) node.parent true && nat_lt node.module (length table.modules)) _ h)

-- a node whose kind passes a test is there
pub is_there : (test : Kind → Bool) (table : SchemaTable) (n : ℕ) → IsTrue (is_kind test table n) → n < length table.nodes
is_there test table n h =
    elim (cases_lt n (length table.nodes)) [
      | inl below ↦ below
      | inr past ↦
          let no : is_kind test table n ≡ false = ap (λ r. option_map_or test (option_map (λ (node : NodeInfo). node.kind) r) false) (slice_get_past table.nodes n past) in
          absurd (true≢false (sym h ∙ no))
    ]

-- the keys of a node are nodes
pub keys_are_there : (table : SchemaTable) (n : ℕ) (node : NodeInfo) → IsTable table → n < length table.nodes → node ≡ get_or table.nodes n node
    → All (λ leaf. leaf < length table.nodes) node.keys
keys_are_there table n node good inside here k d low =
    let all = rw (← here) at (all_from-at (has_its_keys table) 0 table.nodes n n node good.keys inside (omega arith)) in
    let one = list_all-at (λ leaf. is_kind is_leaf table leaf && is_same (parent_of table leaf) (Some n)) node.keys k d (and_second (agree (is_list node.kind) (not (is_empty node.keys)) && all_differ nat_eq node.keys) _ all) low in
    is_there is_leaf table (get_or node.keys k d) (and_first _ _ one)

-- children are nodes
pub children_are_there : (parent : Option ℕ) (i n : ℕ) (nodes : List NodeInfo) → i + length nodes ≤ n → All (λ child. child < n) (children_in i nodes parent)
children_are_there parent i n [] room = λ k d low. absurd (omega arith)
children_are_there parent i n (node ∷ nodes) room =
    let later = children_are_there parent (i + 1) n nodes (omega arith) in
    elim (is_same node.parent parent) as (λ b. All (λ child. child < n) (cond b (i ∷ []) [] ++ children_in (i + 1) nodes parent)) [
      | true ↦ All-cons (λ child. child < n) i (children_in (i + 1) nodes parent) (omega arith) later
      | false ↦ later
    ]

-- so are those that were kept
pub kept_are_there : (table seen : SchemaTable) (parent : Option ℕ) (kept : List ℕ) → table ≡ seen → kept ≡ children_in 0 table.nodes parent
    → All (λ child. child < length seen.nodes) kept
kept_are_there table seen parent kept same is =
    let all : All (λ child. child < length table.nodes) kept = rw is (children_are_there parent 0 (length table.nodes) table.nodes (omega arith)) in
    rw (← same) all

-- the numbers of an identity
pub identity_is_good : (table : SchemaTable) (i : ℕ) (identity : IdentityInfo) → IsTable table → i < length table.identities → identity ≡ get_or table.identities i identity
    → identity.module < length table.modules
identity_is_good table i identity good inside here =
    let all = rw (← here) at (all_from-at (is_good_identity table) 0 table.identities i i identity good.identities inside (omega arith)) in
    ltb-true identity.module (length table.modules) (and_second (is_identifier identity.name) _ (and_first _ _ (and_first _ _ all)))

pub parent_of_before : (table : SchemaTable) (n : ℕ) → IsTable table → IfSome (parent_of table n) (λ p. p < n)
parent_of_before table n good =
    elim (slice_get table.nodes n) as (λ r. slice_get table.nodes n ≡ r → IfSome (option_and_then (λ (node : NodeInfo). node.parent) r) (λ p. p < n)) [
      | None ↦ λ e. tt
      | Some node ↦ λ e. let (inside, here) = slice_get_some table.nodes n node e in parent_before table table.nodes n node good refl inside here
    ] refl

pub lower : (parent : Option ℕ) (n m : ℕ) → IfSome parent (λ p. p < n) → n ≤ m → IfSome parent (λ p. p < m)
lower None n m h le = tt
lower (Some p) n m h le = omega arith

module _ (test : Kind → Bool) (table : SchemaTable) where
  pub closest-None : (steps : ℕ) → closest test table steps None ≡ None
  unfolding closest
  closest-None zero = refl
  closest-None (suc steps) = refl

  pub closest-Some : (steps n : ℕ) → closest test table (suc steps) (Some n) ≡ cond (is_kind test table n) (Some n) (closest test table steps (parent_of table n))
  unfolding closest
  closest-Some steps n = refl

  -- the climb has the same end for each sufficient number of steps
  pub closest-enough : (m k : ℕ) (here : Option ℕ) → IsTable table → IfSome here (λ n. n < m) → IfSome here (λ n. n < k)
      → closest test table m here ≡ closest test table k here
  closest-enough m k None good h i = closest-None m ∙ sym (closest-None k)
  closest-enough zero k (Some n) good h i = absurd (omega arith)
  closest-enough (suc m) zero (Some n) good h i = absurd (omega arith)
  closest-enough (suc m) (suc k) (Some n) good h i =
      let above = parent_of_before table n good in
      let rest = closest-enough m k (parent_of table n) good (lower (parent_of table n) n m above (omega arith)) (lower (parent_of table n) n k above (omega arith)) in
      closest-Some m n ∙ ap (cond (is_kind test table n) (Some n)) rest ∙ sym (closest-Some k n)
