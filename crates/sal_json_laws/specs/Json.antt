-- A JSON value as a text has it.
use Rattle.std.specs.Prelude.{◌≡◌, ℕ, ◌&&◌, Bool, true, List, [], ◌∷◌, Some, None, is_none, nat_lt, ⊤}
use Rattle.base64.specs.GeneralPurpose.{IsBytes}
use Rattle.serde_json.specs.Data.{Data, null, boolean, number, string, array, object, Items, no_items, item, Members, no_members, member}
use Rattle.serde_json.specs.Find.{as_str, get_member}

-- the text of a JSON value is bytes
abbrev pub HasBytes : Data → Type 0
HasBytes json = (t : List ℕ) → as_str json ≡ Some t → IsBytes t

-- each name occurs once in its object, and strings are bytes
abbrev mutual
  pub IsJson : Data → Type 0
  IsJson null = ⊤
  IsJson (boolean b) = ⊤
  IsJson (number x) = ⊤
  IsJson (string t) = HasBytes (string t)
  IsJson (array items) = AreJson items
  IsJson (object ms) = HasJson ms

  pub AreJson : Items → Type 0
  AreJson no_items = ⊤
  AreJson (item json items) = IsJson json × AreJson items

  pub HasJson : Members → Type 0
  HasJson no_members = ⊤
  HasJson (member name json ms) = (get_member name ms ≡ None) × (IsJson json × HasJson ms)

-- ---- the same, as a test

abbrev pub are_bytes : List ℕ → Bool
are_bytes [] = true
are_bytes (c ∷ t) = nat_lt c 256 && are_bytes t

abbrev mutual
  pub is_json : Data → Bool
  is_json null = true
  is_json (boolean b) = true
  is_json (number x) = true
  is_json (string t) = are_bytes t
  is_json (array items) = are_json items
  is_json (object ms) = has_json ms

  pub are_json : Items → Bool
  are_json no_items = true
  are_json (item json items) = is_json json && are_json items

  pub has_json : Members → Bool
  has_json no_members = true
  has_json (member name json ms) = is_none (get_member name ms) && (is_json json && has_json ms)
