-- What is read from bytes is JSON.
use Rattle.std.proofs.Common.{List, [], ◌∷◌, Option, Some, None, option_map, option_and_then, subst}
use Rattle.std.specs.Prelude.{⊤}
use Rattle.json.specs.Token.{Token}
use Rattle.json.specs.Lex.{tokens}
use Rattle.json.specs.Json as json
use Rattle.serde_json.specs.Data.{Num, number, array, object, item, Members, no_members, put}
use Rattle.serde_json.specs.Read.{number_of, of_json, of_items, of_members, max_depth, read}
use Rattle.sal_json_laws.specs.Laws.{ReadsAsJson, TextsAreBytes, TextsReadAsJson}
use Rattle.sal_json_laws.proofs.Bytes.{bytes-from, bytes-to, bytes-utf8}
use Rattle.sal_json_laws.proofs.Lexed.{tokens_texts}
use Rattle.sal_json_laws.proofs.Named.{IsSound, AreSound, HasSound, sound_put, sound_json}
use Rattle.sal_json_laws.proofs.Parsed.{IsOfBytes, AreOfBytes, HasOfBytes, Gives, value_kept}

abbrev If : {A : Type 0} → (A → Type 0) → Option A → Type 0
If P None = ⊤
If P (Some a) = P a

if_map : {A B : Type 0} (P : A → Type 0) (Q : B → Type 0) (f : A → B) → ((a : A) → P a → Q (f a)) → (o : Option A) → If P o → If Q (option_map f o)
if_map P Q f keeps None is = tt
if_map P Q f keeps (Some a) is = keeps a is

if_then : {A B : Type 0} (P : A → Type 0) (Q : B → Type 0) (f : A → Option B) → ((a : A) → P a → If Q (f a)) → (o : Option A) → If P o → If Q (option_and_then f o)
if_then P Q f keeps None is = tt
if_then P Q f keeps (Some a) is = keeps a is

any_number : (o : Option Num) → If IsSound (option_map number o)
any_number None = tt
any_number (Some x) = tt

mutual
  of_json_sound : (j : json.Json) → IsOfBytes j → If IsSound (of_json j)
  of_json_sound json.null is = tt
  of_json_sound (json.boolean b) is = tt
  of_json_sound (json.number s) is = any_number (number_of s)
  of_json_sound (json.string s) is = is
  of_json_sound (json.array js) is = if_map AreSound IsSound array (λ ds x. x) (of_items js) (of_items_sound js is)
  of_json_sound (json.object ms) is = if_map HasSound IsSound object (λ ds x. x) (of_members ms no_members) (of_members_sound ms no_members is tt)

  of_items_sound : (js : json.Items) → AreOfBytes js → If AreSound (of_items js)
  of_items_sound json.no_items is = tt
  of_items_sound (json.item j js) is =
      if_then IsSound AreSound (λ d. option_map (item d) (of_items js)) (λ d x. if_map AreSound AreSound (item d) (λ ds y. (x, y)) (of_items js) (of_items_sound js is.1)) (of_json j) (of_json_sound j is.0)

  of_members_sound : (ms : json.Members) (found : Members) → HasOfBytes ms → HasSound found → If HasSound (of_members ms found)
  of_members_sound json.no_members found is was = was
  of_members_sound (json.member k j ms) found is was =
      if_then IsSound HasSound (λ d. of_members ms (put k d found)) (λ d x. of_members_sound ms (put k d found) is.1 (sound_put k d found x was)) (of_json j) (of_json_sound j is.0)

last_of_bytes : (o : Option (json.Json × List Token)) → Gives IsOfBytes o → If IsOfBytes (option_and_then (λ p. json.if_last p.0 p.1) o)
last_of_bytes None is = tt
last_of_bytes (Some (j, [])) is = is.0
last_of_bytes (Some (j, t ∷ r)) is = tt

pub reads_as_json : ReadsAsJson
reads_as_json text is d e =
    let parsed = last_of_bytes (json.value max_depth (tokens text)) (value_kept max_depth (tokens text) (tokens_texts text (bytes-from text is))) in
    let sound : If IsSound (read text) = if_then IsOfBytes IsSound of_json of_json_sound (option_and_then (λ p. json.if_last p.0 p.1) (json.value max_depth (tokens text))) parsed in
    let here : If IsSound (Some d) = subst (If IsSound) e sound in
    sound_json d here

pub texts_are_bytes : TextsAreBytes
texts_are_bytes text is = bytes-to text (bytes-utf8 text is)

pub texts_read_as_json : TextsReadAsJson
texts_read_as_json text is = reads_as_json text (texts_are_bytes text is)
