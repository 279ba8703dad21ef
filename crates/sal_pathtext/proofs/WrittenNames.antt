-- A name that is written reads back, and means its node.
use Rattle.std.proofs.Common.{◌≡◌, ℕ, Bool, true, false, ◌==◌, IsTrue, List, [], ◌∷◌, ◌++◌, length, take, drop, Option, Some, None, Ok, if◌then◌else◌, refl, sym, ap, subst, ◌∙◌, inl, inr, arith, append_assoc}
use Rattle.std.specs.List.{list_all}
use Rattle.std.proofs.Math.Seq.{take-append_seam, drop-append_seam}
use Rattle.std.proofs.lemmas.Bool.{cases_Bool, and_from}
use Rattle.std.proofs.lemmas.Bool.Decides.{nat_tests}
use Rattle.sal_types.specs.Reading.{◌>>=◌}
use Rattle.sal_schema.specs.declared.table.SchemaTable.{SchemaTable}
use Rattle.sal_schema.specs.Names.{child_of}
use Rattle.sal_schema.specs.Table.{is_data_child, name_of}
use Rattle.sal_schema.specs.Valid.{IsTable, is_identifier, starts_identifier, goes_on, text_eq}
use Rattle.sal_schema.proofs.Conjuncts.{and_first, and_second}
use Rattle.sal_schema.specs.Lookups.{own_module, full_name}
use Rattle.sal_schema.proofs.Children.{IsChild, child, own_module-is, name_of-is, child-again}
use Rattle.sal_json.proofs.Readable.{text_eq-same}
use Rattle.sal_pathtext.specs.Words.{Text, Read, Name, first, word_len, is_blank, bad_text, identifier, name}
use Rattle.sal_pathtext.specs.Nodes.{meant}
use Rattle.sal_pathtext.specs.Written.{name_text}

-- ---- words

starts-goes : (c : ℕ) → starts_identifier c ≡ true → goes_on c ≡ true
starts-goes c e = grind (arith, nat_tests)

word-run : (word rest : Text) → list_all goes_on word ≡ true → goes_on (first rest) ≡ false → word_len (word ++ rest) ≡ length word
word-run [] [] all end = refl
word-run [] (c ∷ rest) all end = rw end refl
word-run (c ∷ word) rest all end =
    let more = word-run word rest (and_second (goes_on c) (list_all goes_on word) all) end in
    rw (and_first (goes_on c) (list_all goes_on word) all) (omega (arith, more))

identifier-goes : (word : Text) → IsTrue (is_identifier word) → list_all goes_on word ≡ true
identifier-goes [] well = cc
identifier-goes (c ∷ word) well =
    and_from (goes_on c) (list_all goes_on word) (starts-goes c (and_first (starts_identifier c) (list_all goes_on word) well))
    (and_second (starts_identifier c) (list_all goes_on word) well)

identifier-starts : (word rest : Text) → IsTrue (is_identifier word) → starts_identifier (first (word ++ rest)) ≡ true
identifier-starts [] rest well = cc
identifier-starts (c ∷ word) rest well = and_first (starts_identifier c) (list_all goes_on word) well

-- what follows a name: no byte of a name and no colon
pub record IsEnd (rest : Text) : Type 0 where
  pub no_word : goes_on (first rest) ≡ false
  pub no_colon : (first rest == 58) ≡ false

module _ (whole : Text) where
  identifier-again : (word rest : Text) → IsTrue (is_identifier word) → goes_on (first rest) ≡ false → identifier whole (word ++ rest) ≡ Ok (word, rest)
  identifier-again word rest well end =
      let all = word ++ rest in
      let run = word-run word rest (identifier-goes word well) end in
      let front : take (word_len all) all ≡ word = ap (λ n. take n all) run ∙ take-append_seam word rest in
      let behind : drop (word_len all) all ≡ rest = ap (λ n. drop n all) run ∙ drop-append_seam word rest in
      ap (λ b. if b then Ok (take (word_len all) all, drop (word_len all) all) else bad_text whole all) (identifier-starts word rest well)
      ∙ (λ i. Ok (front i, behind i))

  -- a name, after its first word
  abbrev pub from_word : Text × Text → Read Name
  from_word one = if first one.1 == 58 then (identifier whole (drop 1 one.1) >>= λ two. Ok ((Some one.0, two.0), two.1)) else Ok ((None, one.0), one.1)

  name-plain : (word rest : Text) → IsTrue (is_identifier word) → IsEnd rest → name whole (word ++ rest) ≡ Ok ((None, word), rest)
  unfolding name
  name-plain word rest well end =
      ap (λ r. r >>= from_word) (identifier-again word rest well end.no_word)
      ∙ ap (λ b. if b then (identifier whole (drop 1 rest) >>= λ two. Ok ((Some word, two.0), two.1)) else Ok ((None, word), rest)) end.no_colon

  name-full : (m word rest : Text) → IsTrue (is_identifier m) → IsTrue (is_identifier word) → IsEnd rest → name whole ((m ++ (58 ∷ word)) ++ rest) ≡ Ok ((Some m, word), rest)
  unfolding name
  name-full m word rest of_module well end =
      ap (λ t. identifier whole t >>= from_word) (append_assoc m (58 ∷ word) rest)
      ∙ ap (λ r. r >>= from_word) (identifier-again m (58 ∷ (word ++ rest)) of_module refl)
      ∙ ap (λ r. r >>= λ two. Ok ((Some m, two.0), two.1)) (identifier-again word rest well end.no_word)

-- a name does not begin with a blank, a dot
pub not_blank : (c : ℕ) → starts_identifier c ≡ true → is_blank c ≡ false
not_blank c e = elim (cases_Bool (is_blank c)) [
  | inl blank ↦ grind (arith, nat_tests)
  | inr other ↦ other
]

pub not_dot : (c : ℕ) → starts_identifier c ≡ true → (c == 46) ≡ false
not_dot c e = elim (cases_Bool (c == 46)) [
  | inl dot ↦ grind (arith, nat_tests)
  | inr other ↦ other
]

module _ (table : SchemaTable) (good : IsTable table) where
  own_module-well : (parent : Option ℕ) (n : ℕ) → IsChild table parent n → IsTrue (is_identifier (own_module table n))
  own_module-well parent n c = subst (λ t. IsTrue (is_identifier t)) (sym (own_module-is table good parent n c)) c.module_named_well

  name_of-well : (parent : Option ℕ) (n : ℕ) → IsChild table parent n → IsTrue (is_identifier (name_of table n))
  name_of-well parent n c = subst (λ t. IsTrue (is_identifier t)) (sym (name_of-is table good parent n c)) c.named_well

  -- ---- names as they are written

  -- what the written name of a node says, if both are of one module or not
  abbrev told : ℕ → Bool → Name
  told n same = if same then (None, name_of table n) else (Some (own_module table n), name_of table n)

  -- what the written name of a node below another, or at the top, says
  abbrev pub spelled : Option ℕ → ℕ → Name
  spelled None n = (Some (own_module table n), name_of table n)
  spelled (Some p) n = told n (text_eq (own_module table n) (own_module table p))

  pub meant-again : (here : Option ℕ) (n : ℕ) → is_data_child table here n ≡ true → meant table here (spelled here n) ≡ Some n
  meant-again None n below = child-again table good None n (child table good None n below)
  meant-again (Some p) n below = by (text_eq (own_module table n) (own_module table p)) refl
    where
      by : (b : Bool) → text_eq (own_module table n) (own_module table p) ≡ b → meant table (Some p) (told n b) ≡ Some n
      by true same = ap (λ m. child_of table (Some p) m (name_of table n)) (sym (text_eq-same (own_module table n) (own_module table p) same)) ∙ child-again table good (Some p) n (child table good (Some p) n below)
      by false other = ap (λ b. if b then None else child_of table (Some p) (own_module table n) (name_of table n)) other ∙ child-again table good (Some p) n (child table good (Some p) n below)

  module _ (whole : Text) where
    pub name-again : (here : Option ℕ) (n : ℕ) (rest : Text) → is_data_child table here n ≡ true → IsEnd rest → name whole (name_text table here n ++ rest) ≡ Ok (spelled here n, rest)
    name-again None n rest below end =
        let c = child table good None n below in
        name-full whole (own_module table n) (name_of table n) rest (own_module-well None n c) (name_of-well None n c) end
    name-again (Some p) n rest below end =
        let c = child table good (Some p) n below in
        elim (text_eq (own_module table n) (own_module table p)) as (λ b. name whole ((if b then name_of table n else full_name table n) ++ rest) ≡ Ok (told n b, rest)) [
          | true ↦ name-plain whole (name_of table n) rest (name_of-well (Some p) n c) end
          | false ↦ name-full whole (own_module table n) (name_of table n) rest (own_module-well (Some p) n c) (name_of-well (Some p) n c) end
        ]

  full-starts : (parent : Option ℕ) (n : ℕ) (rest : Text) → IsChild table parent n → starts_identifier (first (full_name table n ++ rest)) ≡ true
  full-starts parent n rest c =
      ap (λ t. starts_identifier (first t)) (append_assoc (own_module table n) (58 ∷ name_of table n) rest)
      ∙ identifier-starts (own_module table n) (58 ∷ (name_of table n ++ rest)) (own_module-well parent n c)

  pub name-starts : (here : Option ℕ) (n : ℕ) (rest : Text) → is_data_child table here n ≡ true → starts_identifier (first (name_text table here n ++ rest)) ≡ true
  name-starts None n rest below = full-starts None n rest (child table good None n below)
  name-starts (Some p) n rest below =
      let c = child table good (Some p) n below in
      elim (text_eq (own_module table n) (own_module table p)) as (λ b. starts_identifier (first ((if b then name_of table n else full_name table n) ++ rest)) ≡ true) [
        | true ↦ identifier-starts (name_of table n) rest (name_of-well (Some p) n c)
        | false ↦ full-starts (Some p) n rest c
      ]
