-- The strings of a parsed text of bytes are bytes.
use Rattle.std.proofs.Common.{ℕ, zero, suc, List, [], ◌∷◌, length, Option, Some, None, option_and_then}
use Rattle.std.specs.Prelude.{⊤}
use Rattle.json.specs.Token.{Token}
use Rattle.json.specs.Json.{Json, null, boolean, number, string, array, object, Items, no_items, item, Members, no_members, member, Parse, parse_map, after_end_array, read_key, items_step, members_step, items, members, value_with, value}
use Rattle.sal_json_laws.proofs.Bytes.{Bytes}
use Rattle.sal_json_laws.proofs.Lexed.{HaveTexts}

abbrev mutual
  pub IsOfBytes : Json → Type 0
  IsOfBytes null = ⊤
  IsOfBytes (boolean b) = ⊤
  IsOfBytes (number s) = ⊤
  IsOfBytes (string s) = Bytes s
  IsOfBytes (array js) = AreOfBytes js
  IsOfBytes (object ms) = HasOfBytes ms

  pub AreOfBytes : Items → Type 0
  AreOfBytes no_items = ⊤
  AreOfBytes (item j js) = IsOfBytes j × AreOfBytes js

  pub HasOfBytes : Members → Type 0
  HasOfBytes no_members = ⊤
  HasOfBytes (member k j ms) = IsOfBytes j × HasOfBytes ms

-- the parsed value, and the tokens after it
abbrev pub Gives : {A : Type 0} → (A → Type 0) → Option (A × List Token) → Type 0
Gives P None = ⊤
Gives P (Some p) = P p.0 × HaveTexts p.1

abbrev pub Keeps : {A : Type 0} → (A → Type 0) → Parse A → Type 0
Keeps P parse = (ts : List Token) → HaveTexts ts → Gives P (parse ts)

mapped : {A B : Type 0} (P : A → Type 0) (Q : B → Type 0) (h : A → B) → ((a : A) → P a → Q (h a)) → (o : Option (A × List Token)) → Gives P o → Gives Q (parse_map h o)
mapped P Q h keeps None is = tt
mapped P Q h keeps (Some p) is = (keeps p.0 is.0, is.1)

and_more : {B : Type 0} (Q : B → Type 0) (h : Json → B → B) → ((j : Json) (b : B) → IsOfBytes j → Q b → Q (h j b)) → (more : Parse B) → Keeps Q more
    → (o : Option (Json × List Token)) → Gives IsOfBytes o → Gives Q (option_and_then (λ q. parse_map (h q.0) (more q.1)) o)
and_more Q h keeps more later None is = tt
and_more Q h keeps more later (Some q) is = mapped Q Q (h q.0) (λ b y. keeps q.0 b is.0 y) (more q.1) (later q.1 is.1)

abbrev Ended : Option (List Token) → Type 0
Ended None = ⊤
Ended (Some r) = HaveTexts r

array_ended : (ts : List Token) → HaveTexts ts → Ended (after_end_array ts)
array_ended [] is = tt
array_ended (Token.begin_object ∷ ts) is = tt
array_ended (Token.end_object ∷ ts) is = tt
array_ended (Token.begin_array ∷ ts) is = tt
array_ended (Token.end_array ∷ ts) is = is.1
array_ended (Token.key s ∷ ts) is = tt
array_ended (Token.string s ∷ ts) is = tt
array_ended (Token.number s ∷ ts) is = tt
array_ended (Token.boolean b ∷ ts) is = tt
array_ended (Token.null ∷ ts) is = tt
array_ended (Token.bad ∷ ts) is = tt

abbrev AfterKey : Option (Option (List ℕ) × List Token) → Type 0
AfterKey None = ⊤
AfterKey (Some p) = HaveTexts p.1

key_read : (ts : List Token) → HaveTexts ts → AfterKey (read_key ts)
key_read [] is = tt
key_read (Token.begin_object ∷ ts) is = tt
key_read (Token.end_object ∷ ts) is = is.1
key_read (Token.begin_array ∷ ts) is = tt
key_read (Token.end_array ∷ ts) is = tt
key_read (Token.key s ∷ ts) is = is.1
key_read (Token.string s ∷ ts) is = tt
key_read (Token.number s ∷ ts) is = tt
key_read (Token.boolean b ∷ ts) is = tt
key_read (Token.null ∷ ts) is = tt
key_read (Token.bad ∷ ts) is = tt

module _ (p : Parse Json) (keeps : Keeps IsOfBytes p) where
  item_turn : (more : Parse Items) → Keeps AreOfBytes more → (ts : List Token) → HaveTexts ts → (o : Option (List Token)) → Ended o → Gives AreOfBytes (items_step p more ts o)
  item_turn more later ts is (Some r) rest = (tt, rest)
  item_turn more later ts is None rest = and_more AreOfBytes item (λ j b x y. (x, y)) more later (p ts) (keeps ts is)

  items_kept : (n : ℕ) → Keeps AreOfBytes (items p n)
  unfolding items
  items_kept zero ts is = tt
  items_kept (suc n) ts is = item_turn (items p n) (items_kept n) ts is (after_end_array ts) (array_ended ts is)

  member_turn : (more : Parse Members) → Keeps HasOfBytes more → (o : Option (Option (List ℕ) × List Token)) → AfterKey o → Gives HasOfBytes (option_and_then (λ q. members_step p more q.0 q.1) o)
  member_turn more later None is = tt
  member_turn more later (Some (None, s)) is = (tt, is)
  member_turn more later (Some (Some k, s)) is = and_more HasOfBytes (member k) (λ j b x y. (x, y)) more later (p s) (keeps s is)

  members_kept : (n : ℕ) → Keeps HasOfBytes (members p n)
  unfolding members
  members_kept zero ts is = tt
  members_kept (suc n) ts is = member_turn (members p n) (members_kept n) (read_key ts) (key_read ts is)

one_level : (a : Parse Items) (o : Parse Members) → ((ts : List Token) → HaveTexts ts → Gives IsOfBytes (parse_map array (a ts))) → ((ts : List Token) → HaveTexts ts → Gives IsOfBytes (parse_map object (o ts))) → Keeps IsOfBytes (value_with a o)
one_level a o p q [] is = tt
one_level a o p q (Token.begin_object ∷ ts) is = q ts is.1
one_level a o p q (Token.end_object ∷ ts) is = tt
one_level a o p q (Token.begin_array ∷ ts) is = p ts is.1
one_level a o p q (Token.end_array ∷ ts) is = tt
one_level a o p q (Token.key s ∷ ts) is = tt
one_level a o p q (Token.string s ∷ ts) is = (is.0, is.1)
one_level a o p q (Token.number s ∷ ts) is = (tt, is.1)
one_level a o p q (Token.boolean b ∷ ts) is = (tt, is.1)
one_level a o p q (Token.null ∷ ts) is = (tt, is.1)
one_level a o p q (Token.bad ∷ ts) is = tt

pub value_kept : (d : ℕ) → Keeps IsOfBytes (value d)
unfolding value
value_kept zero = one_level (λ ts. None) (λ ts. None) (λ ts is. tt) (λ ts is. tt)
value_kept (suc d) =
    one_level (λ ts. items (value d) (length ts) ts) (λ ts. members (value d) (length ts) ts)
    (λ ts is. mapped AreOfBytes IsOfBytes array (λ js x. x) (items (value d) (length ts) ts) (items_kept (value d) (value_kept d) (length ts) ts is))
    (λ ts is. mapped HasOfBytes IsOfBytes object (λ ms x. x) (members (value d) (length ts) ts) (members_kept (value d) (value_kept d) (length ts) ts is))
