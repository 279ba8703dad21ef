-- A value that is read from a text is JSON, and so are its members and elements.
use Rattle.std.specs.Prelude.{◌≡◌, ◌↔◌, ℕ, List, Some, IsUtf8, IsTrue}
use Rattle.base64.specs.GeneralPurpose.{IsBytes}
use Rattle.serde_json.specs.Data.{Data}
use Rattle.serde_json.specs.Find.{get, at}
use Rattle.serde_json.specs.Read.{read}
use Rattle.sal_json_laws.specs.Json.{IsJson, is_json}

-- Whatever bytes: the value that is read from them has each name once in its object, and its strings are bytes.
abbrev pub ReadsAsJson : Type 0
ReadsAsJson = (text : List ℕ) → IsBytes text → (json : Data) → read text ≡ Some json → IsJson json

-- UTF-8 is bytes.
abbrev pub TextsAreBytes : Type 0
TextsAreBytes = (text : List ℕ) → IsUtf8 text → IsBytes text

-- So a value that is read from UTF-8 is JSON.
abbrev pub TextsReadAsJson : Type 0
TextsReadAsJson = (text : List ℕ) → IsUtf8 text → (json : Data) → read text ≡ Some json → IsJson json

-- The members of an object are JSON,
abbrev pub MembersAreJson : Type 0
MembersAreJson = (json : Data) → IsJson json → (name : List ℕ) (part : Data) → get name json ≡ Some part → IsJson part

-- and so are the elements of an array.
abbrev pub ElementsAreJson : Type 0
ElementsAreJson = (json : Data) → IsJson json → (i : ℕ) (part : Data) → at i json ≡ Some part → IsJson part

-- The test says the same.
abbrev pub TestsJson : Type 0
TestsJson = (json : Data) → IsTrue (is_json json) ↔ IsJson json
