-- The parts of a JSON value.
use Rattle.std.proofs.Common.{ℕ, zero, suc, List, Option, Some, None, Ordering, Less, Equal, Greater, nat_cmp, subst}
use Rattle.std.specs.Prelude.{⊤}
use Rattle.std.specs.Ordering.{match_ordering}
use Rattle.std.specs.Cmp.Lexicographic.{slice_cmp}
use Rattle.serde_json.specs.Data.{Data, null, boolean, number, string, array, object, Items, no_items, item, Members, no_members, member}
use Rattle.serde_json.specs.Find.{get, get_member, get_item, at}
use Rattle.sal_json_laws.specs.Json.{IsJson, AreJson, HasJson}
use Rattle.sal_json_laws.specs.Laws.{MembersAreJson, ElementsAreJson}

abbrev pub Found : Option Data → Type 0
Found None = ⊤
Found (Some part) = IsJson part

found_or : (o : Ordering) (rest : Option Data) (d : Data) → Found rest → IsJson d → Found (match_ordering o rest (Some d) rest)
found_or Less rest d more is = more
found_or Equal rest d more is = is
found_or Greater rest d more is = more

pub member_json : (name : List ℕ) (ms : Members) → HasJson ms → Found (get_member name ms)
member_json name no_members is = tt
member_json name (member l d ms) is = found_or (slice_cmp nat_cmp name l) (get_member name ms) d (member_json name ms is.1.1) is.1.0

item_json : (i : ℕ) (items : Items) → AreJson items → Found (get_item i items)
item_json i no_items is = tt
item_json zero (item d items) is = is.0
item_json (suc i) (item d items) is = item_json i items is.1

get_json : (json : Data) → IsJson json → (name : List ℕ) → Found (get name json)
get_json null is name = tt
get_json (boolean b) is name = tt
get_json (number x) is name = tt
get_json (string t) is name = tt
get_json (array items) is name = tt
get_json (object ms) is name = member_json name ms is

at_json : (json : Data) → IsJson json → (i : ℕ) → Found (at i json)
at_json null is i = tt
at_json (boolean b) is i = tt
at_json (number x) is i = tt
at_json (string t) is i = tt
at_json (array items) is i = item_json i items is
at_json (object ms) is i = tt

pub members_are_json : MembersAreJson
members_are_json json is name part e = subst Found e (get_json json is name)

pub elements_are_json : ElementsAreJson
elements_are_json json is i part e = subst Found e (at_json json is i)
