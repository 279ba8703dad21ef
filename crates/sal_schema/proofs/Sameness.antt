-- The tests of nodes, types and identities: two are the same.
use Rattle.std.proofs.Common.{◌≡◌, ℕ, suc, ◌<◌, Bool, true, false, ◌&&◌, ◌==◌, nat_eq, IsTrue, ◌↔◌, List, [], ◌∷◌, length, take, Option, Some, None, refl, sym, ap, ◌∙◌, arith, Decides}
use Rattle.std.proofs.lemmas.Bool.{and_right}
use mathlib.Core.Bool.{beq}
use Rattle.std.specs.List.{list_all}
use Rattle.std.specs.Prelude.{◌≢◌}
use Rattle.std.specs.Option.{option_eq}
use Rattle.std.specs.Cmp.{unsigned_Decides, signed_Decides, booleans_Decides}
use Rattle.std.specs.Cmp.Lexicographic.{pointwise, pointwise_decides}
use Rattle.std.proofs.lemmas.Option.{same_Some}
use Rattle.sal_restrict.specs.declared.ranges.Part.{Part}
use Rattle.sal_restrict.specs.declared.yang_type.Pattern.{Pattern}
use Rattle.sal_restrict.specs.declared.yang_type.YangType.{YangType, out-YangType, roll-YangType}
use Rattle.sal_restrict.specs.declared.yang_type.YangType.TheOpen.{YangType-F}
use Rattle.sal_restrict.specs.declared.yang_type.YangType.TheViews.{roll-out-YangType}
use Rattle.sal_schema.specs.declared.kind.Kind.{Kind}
use Rattle.sal_schema.specs.declared.kind.Kind.TheVariants as kinds
use Rattle.sal_schema.specs.declared.table.NodeInfo.{NodeInfo}
use Rattle.sal_schema.specs.declared.table.IdentityInfo.{IdentityInfo}
use Rattle.sal_schema.specs.declared.table.SchemaTable.{SchemaTable}
use Rattle.sal_schema.specs.Kinds.{kind_eq}
use Rattle.sal_schema.specs.Same.{begins, same_numbers, same_texts, same_number, same_place, same_use, same_limits, same_node, same_identity, same_part, same_range, same_pattern, same_layer, same_plain, same_members, same_type_layer, same_type, extends}
use Rattle.sal_schema.specs.Valid.{IsTable, is_good_layer, is_good_type_layer, is_good_type}
use Rattle.sal_schema.specs.Versions.{Extends}
use Rattle.sal_schema.proofs.Conjuncts.{and_first, and_second}

both : (a b : Bool) → a ≡ true → b ≡ true → (a && b) ≡ true
both true b h k = k
both false b h k = h

-- ---- plain values

pub numbers-decide : (a b : List ℕ) → Decides (same_numbers a b) (a ≡ b)
numbers-decide = pointwise_decides unsigned_Decides

texts-decide : (a b : List (List ℕ)) → Decides (same_texts a b) (a ≡ b)
texts-decide = pointwise_decides numbers-decide

option-decides : {X : Type 0} (same : X → X → Bool) → ((a b : X) → Decides (same a b) (a ≡ b)) → (a b : Option X) → Decides (option_eq same a b) (a ≡ b)
option-decides same each None None = (λ e. refl, λ e. refl)
option-decides same each None (Some y) = (λ e. cc, λ e. cc)
option-decides same each (Some x) None = (λ e. cc, λ e. cc)
option-decides same each (Some x) (Some y) = (λ e. ap Some ((each x y).0 e), λ e. (each x y).1 (same_Some x y e))

number-decides : (a b : Option ℕ) → Decides (same_number a b) (a ≡ b)
number-decides = option-decides nat_eq unsigned_Decides

kind-same : (a b : Kind) → kind_eq a b ≡ true → a ≡ b
kind-same (kinds.Container p) (kinds.Container q) e = ap kinds.Container ((booleans_Decides p q).0 e)
kind-same kinds.List kinds.List e = refl
kind-same kinds.LeafList kinds.LeafList e = refl
kind-same kinds.Leaf kinds.Leaf e = refl
kind-same kinds.Choice kinds.Choice e = refl
kind-same kinds.Case kinds.Case e = refl
kind-same kinds.Rpc kinds.Rpc e = refl
kind-same kinds.Input kinds.Input e = refl
kind-same kinds.Output kinds.Output e = refl
kind-same kinds.Notification kinds.Notification e = refl
kind-same a b e = cc

kind-itself : (a : Kind) → kind_eq a a ≡ true
kind-itself (kinds.Container p) = (booleans_Decides p p).1 refl
kind-itself kinds.List = refl
kind-itself kinds.LeafList = refl
kind-itself kinds.Leaf = refl
kind-itself kinds.Choice = refl
kind-itself kinds.Case = refl
kind-itself kinds.Rpc = refl
kind-itself kinds.Input = refl
kind-itself kinds.Output = refl
kind-itself kinds.Notification = refl

-- ---- nodes

node-same : (a b : NodeInfo) → same_node a b ≡ true → a ≡ b
node-same a b e =
    let front = and_first (same_place a b && same_use a b) (same_limits a b) e in
    let place = and_first (same_place a b) (same_use a b) front in
    let used = and_second (same_place a b) (same_use a b) front in
    let limits = and_second (same_place a b && same_use a b) (same_limits a b) e in
    let stands = and_first (same_number a.parent b.parent && kind_eq a.kind b.kind) (a.module == b.module && same_numbers a.name b.name) place in
    let called = and_second (same_number a.parent b.parent && kind_eq a.kind b.kind) (a.module == b.module && same_numbers a.name b.name) place in
    let typed = and_first (option_eq beq a.config b.config && same_number a.ty b.ty) (same_numbers a.keys b.keys && beq a.mandatory b.mandatory) used in
    let keyed = and_second (option_eq beq a.config b.config && same_number a.ty b.ty) (same_numbers a.keys b.keys && beq a.mandatory b.mandatory) used in
    let counted = and_first (a.min_elements == b.min_elements && same_number a.max_elements b.max_elements) (same_texts a.unique b.unique) limits in
    let parent : a.parent ≡ b.parent = (number-decides a.parent b.parent).0 (and_first (same_number a.parent b.parent) (kind_eq a.kind b.kind) stands) in
    let kind : a.kind ≡ b.kind = kind-same a.kind b.kind (and_second (same_number a.parent b.parent) (kind_eq a.kind b.kind) stands) in
    let owner : a.module ≡ b.module = (unsigned_Decides a.module b.module).0 (and_first (a.module == b.module) (same_numbers a.name b.name) called) in
    let name : a.name ≡ b.name = (numbers-decide a.name b.name).0 (and_second (a.module == b.module) (same_numbers a.name b.name) called) in
    let config : a.config ≡ b.config = (option-decides beq booleans_Decides a.config b.config).0 (and_first (option_eq beq a.config b.config) (same_number a.ty b.ty) typed) in
    let ty : a.ty ≡ b.ty = (number-decides a.ty b.ty).0 (and_second (option_eq beq a.config b.config) (same_number a.ty b.ty) typed) in
    let keys : a.keys ≡ b.keys = (numbers-decide a.keys b.keys).0 (and_first (same_numbers a.keys b.keys) (beq a.mandatory b.mandatory) keyed) in
    let mandatory : a.mandatory ≡ b.mandatory = (booleans_Decides a.mandatory b.mandatory).0 (and_second (same_numbers a.keys b.keys) (beq a.mandatory b.mandatory) keyed) in
    let least : a.min_elements ≡ b.min_elements = (unsigned_Decides a.min_elements b.min_elements).0 (and_first (a.min_elements == b.min_elements) (same_number a.max_elements b.max_elements) counted) in
    let most : a.max_elements ≡ b.max_elements = (number-decides a.max_elements b.max_elements).0 (and_second (a.min_elements == b.min_elements) (same_number a.max_elements b.max_elements) counted) in
    let unique : a.unique ≡ b.unique = (texts-decide a.unique b.unique).0 (and_second (a.min_elements == b.min_elements && same_number a.max_elements b.max_elements) (same_texts a.unique b.unique) limits) in
    λ i. record { parent = parent i; kind = kind i; «module» = owner i; name = name i; config = config i; ty = ty i; keys = keys i; mandatory = mandatory i; min_elements = least i; max_elements = most i; unique = unique i }

node-itself : (a : NodeInfo) → same_node a a ≡ true
node-itself a =
    let stands = both (same_number a.parent a.parent) (kind_eq a.kind a.kind) ((number-decides a.parent a.parent).1 refl) (kind-itself a.kind) in
    let called = both (a.module == a.module) (same_numbers a.name a.name) ((unsigned_Decides a.module a.module).1 refl) ((numbers-decide a.name a.name).1 refl) in
    let typed = both (option_eq beq a.config a.config) (same_number a.ty a.ty) ((option-decides beq booleans_Decides a.config a.config).1 refl) ((number-decides a.ty a.ty).1 refl) in
    let keyed = both (same_numbers a.keys a.keys) (beq a.mandatory a.mandatory) ((numbers-decide a.keys a.keys).1 refl) ((booleans_Decides a.mandatory a.mandatory).1 refl) in
    let counted = both (a.min_elements == a.min_elements) (same_number a.max_elements a.max_elements) ((unsigned_Decides a.min_elements a.min_elements).1 refl) ((number-decides a.max_elements a.max_elements).1 refl) in
    let place = both (same_number a.parent a.parent && kind_eq a.kind a.kind) (a.module == a.module && same_numbers a.name a.name) stands called in
    let used = both (option_eq beq a.config a.config && same_number a.ty a.ty) (same_numbers a.keys a.keys && beq a.mandatory a.mandatory) typed keyed in
    let limits = both (a.min_elements == a.min_elements && same_number a.max_elements a.max_elements) (same_texts a.unique a.unique) counted ((texts-decide a.unique a.unique).1 refl) in
    both (same_place a a && same_use a a) (same_limits a a) (both (same_place a a) (same_use a a) place used) limits

-- ---- identities

identity-same : (a b : IdentityInfo) → same_identity a b ≡ true → a ≡ b
identity-same a b e =
    let front = and_first (same_numbers a.name b.name && a.module == b.module) (same_numbers a.derived_from b.derived_from) e in
    let name : a.name ≡ b.name = (numbers-decide a.name b.name).0 (and_first (same_numbers a.name b.name) (a.module == b.module) front) in
    let owner : a.module ≡ b.module = (unsigned_Decides a.module b.module).0 (and_second (same_numbers a.name b.name) (a.module == b.module) front) in
    let derived : a.derived_from ≡ b.derived_from = (numbers-decide a.derived_from b.derived_from).0 (and_second (same_numbers a.name b.name && a.module == b.module) (same_numbers a.derived_from b.derived_from) e) in
    λ i. record { name = name i; «module» = owner i; derived_from = derived i }

identity-itself : (a : IdentityInfo) → same_identity a a ≡ true
identity-itself a =
    both (same_numbers a.name a.name && a.module == a.module) (same_numbers a.derived_from a.derived_from)
    (both (same_numbers a.name a.name) (a.module == a.module) ((numbers-decide a.name a.name).1 refl) ((unsigned_Decides a.module a.module).1 refl)) ((numbers-decide a.derived_from a.derived_from).1 refl)

-- ---- types

part-decides : (a b : Part) → Decides (same_part a b) (a ≡ b)
part-decides a b =
    let low = signed_Decides a.low b.low in
    let high = signed_Decides a.high b.high in (
      λ e. (let l : a.low ≡ b.low = low.0 (and_first _ _ e) in let h : a.high ≡ b.high = high.0 (and_second _ _ e) in λ i. record { low = l i; high = h i }),
      λ e. both _ _ (low.1 (ap (λ (p : Part). p.low) e)) (high.1 (ap (λ (p : Part). p.high) e)),
    )

range-decides : (a b : List Part) → Decides (same_range a b) (a ≡ b)
range-decides = pointwise_decides part-decides

pattern-decides : (a b : Pattern) → Decides (same_pattern a b) (a ≡ b)
pattern-decides a b =
    let text = numbers-decide a.text b.text in
    let inverted = booleans_Decides a.inverted b.inverted in (
      λ e. (let t : a.text ≡ b.text = text.0 (and_first _ _ e) in let v : a.inverted ≡ b.inverted = inverted.0 (and_second _ _ e) in λ i. record { text = t i; inverted = v i }),
      λ e. both _ _ (text.1 (ap (λ (p : Pattern). p.text) e)) (inverted.1 (ap (λ (p : Pattern). p.inverted) e)),
    )

patterns-decide : (a b : List Pattern) → Decides (pointwise same_pattern a b) (a ≡ b)
patterns-decide = pointwise_decides pattern-decides

layer-same : (a b : YangType-F YangType) → same_layer a b ≡ true → a ≡ b
layer-same (YangType-F.Int bits signed range) (YangType-F.Int bits2 signed2 range2) e =
    let front = and_first (bits == bits2 && beq signed signed2) (same_range range range2) e in
    let p : bits ≡ bits2 = (unsigned_Decides bits bits2).0 (and_first (bits == bits2) (beq signed signed2) front) in
    let q : signed ≡ signed2 = (booleans_Decides signed signed2).0 (and_second (bits == bits2) (beq signed signed2) front) in
    let r : range ≡ range2 = (range-decides range range2).0 (and_second (bits == bits2 && beq signed signed2) (same_range range range2) e) in
    λ i. YangType-F.Int (p i) (q i) (r i)
layer-same (YangType-F.Dec digits range) (YangType-F.Dec digits2 range2) e =
    let p : digits ≡ digits2 = (unsigned_Decides digits digits2).0 (and_first (digits == digits2) (same_range range range2) e) in
    let r : range ≡ range2 = (range-decides range range2).0 (and_second (digits == digits2) (same_range range range2) e) in
    λ i. YangType-F.Dec (p i) (r i)
layer-same (YangType-F.Text lengths patterns) (YangType-F.Text lengths2 patterns2) e =
    let p : lengths ≡ lengths2 = (range-decides lengths lengths2).0 (and_first (same_range lengths lengths2) (pointwise same_pattern patterns patterns2) e) in
    let q : patterns ≡ patterns2 = (patterns-decide patterns patterns2).0 (and_second (same_range lengths lengths2) (pointwise same_pattern patterns patterns2) e) in
    λ i. YangType-F.Text (p i) (q i)
layer-same YangType-F.Bool YangType-F.Bool e = refl
layer-same (YangType-F.Enum names places) (YangType-F.Enum names2 places2) e =
    let p : names ≡ names2 = (texts-decide names names2).0 (and_first (same_texts names names2) (same_numbers places places2) e) in
    let q : places ≡ places2 = (numbers-decide places places2).0 (and_second (same_texts names names2) (same_numbers places places2) e) in
    λ i. YangType-F.Enum (p i) (q i)
layer-same (YangType-F.Bits names places) (YangType-F.Bits names2 places2) e =
    let p : names ≡ names2 = (texts-decide names names2).0 (and_first (same_texts names names2) (same_numbers places places2) e) in
    let q : places ≡ places2 = (numbers-decide places places2).0 (and_second (same_texts names names2) (same_numbers places places2) e) in
    λ i. YangType-F.Bits (p i) (q i)
layer-same (YangType-F.Bin lengths) (YangType-F.Bin lengths2) e = ap YangType-F.Bin ((range-decides lengths lengths2).0 e)
layer-same (YangType-F.Ident bases) (YangType-F.Ident bases2) e = ap YangType-F.Ident ((numbers-decide bases bases2).0 e)
layer-same YangType-F.Empty YangType-F.Empty e = refl
layer-same a b e = cc

-- a type of a schema that is not a union
layer-itself : (table : SchemaTable) (a : YangType-F YangType) → IsTrue (is_good_layer table a) → same_layer a a ≡ true
layer-itself table (YangType-F.Int bits signed range) h =
    both (bits == bits && beq signed signed) (same_range range range) (both (bits == bits) (beq signed signed) ((unsigned_Decides bits bits).1 refl) ((booleans_Decides signed signed).1 refl)) ((range-decides range range).1 refl)
layer-itself table (YangType-F.Dec digits range) h = both (digits == digits) (same_range range range) ((unsigned_Decides digits digits).1 refl) ((range-decides range range).1 refl)
layer-itself table (YangType-F.Text lengths patterns) h = both (same_range lengths lengths) (pointwise same_pattern patterns patterns) ((range-decides lengths lengths).1 refl) ((patterns-decide patterns patterns).1 refl)
layer-itself table YangType-F.Bool h = refl
layer-itself table (YangType-F.Enum names places) h = both (same_texts names names) (same_numbers places places) ((texts-decide names names).1 refl) ((numbers-decide places places).1 refl)
layer-itself table (YangType-F.Bits names places) h = both (same_texts names names) (same_numbers places places) ((texts-decide names names).1 refl) ((numbers-decide places places).1 refl)
layer-itself table (YangType-F.Bin lengths) h = (range-decides lengths lengths).1 refl
layer-itself table (YangType-F.Ident bases) h = (numbers-decide bases bases).1 refl
layer-itself table YangType-F.Empty h = refl
layer-itself table a h = cc

rolled : (a b : YangType) → out-YangType a ≡ out-YangType b → a ≡ b
rolled a b e = sym (roll-out-YangType a) ∙ ap roll-YangType e ∙ roll-out-YangType b

members-same : (a b : List YangType) → same_members a b ≡ true → a ≡ b
members-same [] [] e = refl
members-same [] (y ∷ b) e = cc
members-same (x ∷ a) [] e = cc
members-same (x ∷ a) (y ∷ b) e =
    let here : x ≡ y = rolled x y (layer-same (out-YangType x) (out-YangType y) (and_first (same_plain x y) (same_members a b) e)) in
    let rest : a ≡ b = members-same a b (and_second (same_plain x y) (same_members a b) e) in
    λ i. here i ∷ rest i

members-itself : (table : SchemaTable) (a : List YangType) → IsTrue (list_all (λ member. is_good_layer table (out-YangType member)) a) → same_members a a ≡ true
members-itself table [] h = refl
members-itself table (x ∷ a) h =
    both (same_plain x x) (same_members a a)
    (layer-itself table (out-YangType x) (and_first (is_good_layer table (out-YangType x)) (list_all (λ member. is_good_layer table (out-YangType member)) a) h))
    (members-itself table a (and_second (is_good_layer table (out-YangType x)) (list_all (λ member. is_good_layer table (out-YangType member)) a) h))

type-layer-same : (a b : YangType-F YangType) → same_type_layer a b ≡ true → a ≡ b
type-layer-same (YangType-F.Union a) (YangType-F.Union b) e = ap YangType-F.Union (members-same a b e)
type-layer-same a b e = layer-same a b e

type-layer-itself : (table : SchemaTable) (a : YangType-F YangType) → IsTrue (is_good_type_layer table a) → same_type_layer a a ≡ true
type-layer-itself table (YangType-F.Union a) h = members-itself table a (and_second _ (list_all (λ member. is_good_layer table (out-YangType member)) a) h)
type-layer-itself table a h = layer-itself table a h

type-same : (a b : YangType) → same_type a b ≡ true → a ≡ b
type-same a b e = rolled a b (type-layer-same (out-YangType a) (out-YangType b) e)

-- ---- lists

begins-same : {X : Type 0} (same : X → X → Bool) → ((a b : X) → same a b ≡ true → a ≡ b) → (front xs : List X) → begins same front xs ≡ true → take (length front) xs ≡ front
begins-same same each [] xs e = refl
begins-same same each (y ∷ front) [] e = cc
begins-same same each (y ∷ front) (x ∷ xs) e =
    let here : y ≡ x = each y x (and_first (same y x) (begins same front xs) e) in
    let rest = begins-same same each front xs (and_second (same y x) (begins same front xs) e) in
    λ i. sym here i ∷ rest i

begins-itself : {X : Type 0} (same : X → X → Bool) (good : X → Bool) → ((a : X) → IsTrue (good a) → same a a ≡ true) → (front xs : List X) → IsTrue (list_all good front) → take (length front) xs ≡ front → begins same front xs ≡ true
begins-itself same good each [] xs h e = refl
begins-itself same good each (y ∷ front) [] h e = cc
begins-itself same good each (y ∷ front) (x ∷ xs) h e =
    let here : x ≡ y = cc in
    let rest : take (length front) xs ≡ front = cc in
    both (same y x) (begins same front xs) (ap (same y) here ∙ each y (and_first (good y) (list_all good front) h))
    (begins-itself same good each front xs (and_second (good y) (list_all good front) h) rest)

-- lists that are not as long
pub members-short : (a b : List YangType) → length a ≢ length b → same_members a b ≡ false
members-short [] [] differ = absurd (differ refl)
members-short [] (y ∷ b) differ = refl
members-short (x ∷ a) [] differ = refl
members-short (x ∷ a) (y ∷ b) differ = and_right (same_plain x y) (same_members a b) (members-short a b (λ e. differ (ap suc e)))

pub begins-short : {X : Type 0} (same : X → X → Bool) (front xs : List X) → length xs < length front → begins same front xs ≡ false
begins-short same [] xs h = absurd (omega arith)
begins-short same (y ∷ front) [] h = refl
begins-short same (y ∷ front) (x ∷ xs) h = and_right (same y x) (begins same front xs) (begins-short same front xs (omega arith))

abbrev any : {X : Type 0} → X → Bool
any x = true

all-any : {X : Type 0} (xs : List X) → IsTrue (list_all any xs)
all-any [] = refl
all-any (x ∷ xs) = all-any xs

-- ---- tables

extends-sound : (newer older : SchemaTable) → extends newer older ≡ true → Extends newer older
extends-sound newer older e =
    let front = and_first (begins same_node older.nodes newer.nodes && begins same_type older.types newer.types) (begins same_numbers older.modules newer.modules && begins same_identity older.identities newer.identities) e in
    let rest = and_second (begins same_node older.nodes newer.nodes && begins same_type older.types newer.types) (begins same_numbers older.modules newer.modules && begins same_identity older.identities newer.identities) e in
    record {
      nodes = begins-same same_node node-same older.nodes newer.nodes (and_first (begins same_node older.nodes newer.nodes) (begins same_type older.types newer.types) front);
      types = begins-same same_type type-same older.types newer.types (and_second (begins same_node older.nodes newer.nodes) (begins same_type older.types newer.types) front);
      modules = begins-same same_numbers (λ a b. (numbers-decide a b).0) older.modules newer.modules (and_first (begins same_numbers older.modules newer.modules) (begins same_identity older.identities newer.identities) rest);
      identities = begins-same same_identity identity-same older.identities newer.identities (and_second (begins same_numbers older.modules newer.modules) (begins same_identity older.identities newer.identities) rest);
    }

extends-complete : (newer older : SchemaTable) → IsTable older → Extends newer older → extends newer older ≡ true
extends-complete newer older good e =
    both (begins same_node older.nodes newer.nodes && begins same_type older.types newer.types) (begins same_numbers older.modules newer.modules && begins same_identity older.identities newer.identities)
    (both (begins same_node older.nodes newer.nodes) (begins same_type older.types newer.types) (begins-itself same_node any (λ a h. node-itself a) older.nodes newer.nodes (all-any older.nodes) e.nodes)
    (begins-itself same_type (is_good_type older) (λ a h. type-layer-itself older (out-YangType a) h) older.types newer.types good.types e.types))
    (both (begins same_numbers older.modules newer.modules) (begins same_identity older.identities newer.identities) (begins-itself same_numbers any (λ a h. (numbers-decide a a).1 refl) older.modules newer.modules (all-any older.modules) e.modules)
    (begins-itself same_identity any (λ a h. identity-itself a) older.identities newer.identities (all-any older.identities) e.identities))

pub extends-is : (newer older : SchemaTable) (b : Bool) → IsTable older → b ≡ extends newer older → IsTrue b ↔ Extends newer older
extends-is newer older b good e = (λ h. extends-sound newer older (sym e ∙ h), λ h. e ∙ extends-complete newer older good h)
