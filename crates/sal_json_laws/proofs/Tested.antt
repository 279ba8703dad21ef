-- The test of a JSON value is correct.
use Rattle.std.proofs.Common.{◌≡◌, ℕ, ◌&&◌, true, List, [], ◌∷◌, Option, Some, None, is_none, nat_lt, ltb-true, lt-ltb, refl, ap}
use Rattle.std.proofs.lemmas.Bool.{and_parts, and_from}
use Rattle.serde_json.specs.Data.{Data, null, boolean, number, string, array, object, Items, no_items, item, Members, no_members, member}
use Rattle.serde_json.specs.Find.{get_member}
use Rattle.sal_json_laws.specs.Json.{IsJson, AreJson, HasJson, are_bytes, is_json, are_json, has_json}
use Rattle.sal_json_laws.specs.Laws.{TestsJson}
use Rattle.sal_json_laws.proofs.Bytes.{Bytes, bytes-from}
use Rattle.sal_json_laws.proofs.Named.{has_bytes}

bytes_tested : (t : List ℕ) → are_bytes t ≡ true → Bytes t
bytes_tested [] e = tt
bytes_tested (c ∷ t) e = let p = and_parts (nat_lt c 256) (are_bytes t) e in (ltb-true c 256 p.0, bytes_tested t p.1)

bytes_pass : (t : List ℕ) → Bytes t → are_bytes t ≡ true
bytes_pass [] is = refl
bytes_pass (c ∷ t) is = and_from (nat_lt c 256) (are_bytes t) (lt-ltb c 256 is.0) (bytes_pass t is.1)

none_tested : (o : Option Data) → is_none o ≡ true → o ≡ None
none_tested None e = refl
none_tested (Some d) e = cc

mutual
  json_tested : (json : Data) → is_json json ≡ true → IsJson json
  json_tested null e = tt
  json_tested (boolean b) e = tt
  json_tested (number x) e = tt
  json_tested (string t) e = has_bytes t (bytes_tested t e)
  json_tested (array items) e = items_tested items e
  json_tested (object ms) e = members_tested ms e

  items_tested : (items : Items) → are_json items ≡ true → AreJson items
  items_tested no_items e = tt
  items_tested (item json items) e = let p = and_parts (is_json json) (are_json items) e in (json_tested json p.0, items_tested items p.1)

  members_tested : (ms : Members) → has_json ms ≡ true → HasJson ms
  members_tested no_members e = tt
  members_tested (member name json ms) e =
      let p = and_parts (is_none (get_member name ms)) (is_json json && has_json ms) e in
      let q = and_parts (is_json json) (has_json ms) p.1 in
      (none_tested (get_member name ms) p.0, (json_tested json q.0, members_tested ms q.1))

mutual
  json_passes : (json : Data) → IsJson json → is_json json ≡ true
  json_passes null is = refl
  json_passes (boolean b) is = refl
  json_passes (number x) is = refl
  json_passes (string t) is = bytes_pass t (bytes-from t (is t refl))
  json_passes (array items) is = items_pass items is
  json_passes (object ms) is = members_pass ms is

  items_pass : (items : Items) → AreJson items → are_json items ≡ true
  items_pass no_items is = refl
  items_pass (item json items) is = and_from (is_json json) (are_json items) (json_passes json is.0) (items_pass items is.1)

  members_pass : (ms : Members) → HasJson ms → has_json ms ≡ true
  members_pass no_members is = refl
  members_pass (member name json ms) is =
      and_from (is_none (get_member name ms)) (is_json json && has_json ms) (ap is_none is.0) (and_from (is_json json) (has_json ms) (json_passes json is.1.0) (members_pass ms is.1.1))

pub tests_json : TestsJson
tests_json json = (json_tested json, json_passes json)
