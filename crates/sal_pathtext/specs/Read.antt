-- From a text to the path that it denotes, or to the first fault from the left with its offset. A fault is found as soon as
-- the text up to there shows it.
use Rattle.std.specs.Prelude.{ℕ, zero, suc, Bool, false, ◌&&◌, ◌==◌, List, [], ◌∷◌, ◌++◌, length, drop, Option, Some, None, Result, Ok, Err, if◌then◌else◌}
use Rattle.std.specs.Option.{option_map_or}
use Rattle.sal_types.specs.declared.value.Value.{Value}
use Rattle.sal_types.specs.declared.value.Step.{Step}
use Rattle.sal_types.specs.declared.value.Step.TheVariants.{Node}
use Rattle.sal_types.specs.Reading.{◌>>=◌, GivesUnless}
use Rattle.sal_schema.specs.declared.table.SchemaTable.{SchemaTable}
use Rattle.sal_schema.specs.Kinds.{is_list, has_entries}
use Rattle.sal_schema.specs.Table.{is_kind}
use Rattle.sal_json.specs.declared.fault.ScalarFault.{ScalarFault}
use Rattle.sal_pathtext.specs.declared.fault.PathTextFault.{PathTextFault}
use Rattle.sal_pathtext.specs.declared.fault.PathTextFault.TheVariants.{BadText, UnknownNode, BadPredicate, TooDeep, NoMemory}
use Rattle.sal_pathtext.specs.declared.given.Given.{Given}
use Rattle.sal_pathtext.specs.declared.here.Here.{Here}
use Rattle.sal_pathtext.specs.Words.{Text, Read, first, is_empty, after_blanks, place, bad_text, name, said, closed}
use Rattle.sal_pathtext.specs.Nodes.{meant, dot_meant, key_meant, not_given, entry_given, value_of}

-- at the root
abbrev pub top : Here
top = record { node = None; wants_entry = false; name_at = 0 }

-- after the predicates of an entry
abbrev pub behind_entry : Here → Here
behind_entry here = record { node = here.node; wants_entry = false; name_at = here.name_at }

-- a value as the value of its predicate, which is at this place
abbrev pub taken : ℕ → Result Value ScalarFault → Result Value PathTextFault
taken at (Ok value) = Ok value
taken at (Err fault) = Err (BadPredicate at)

-- the value, or this fault if there is none
abbrev pub found : {X : Type 0} → PathTextFault → Option X → Result X PathTextFault
found fault (Some x) = Ok x
found fault None = Err fault

module _ (table : SchemaTable) where
  -- after the name of a node, which is at this place
  abbrev pub behind_name : ℕ → ℕ → Here
  behind_name n at = record { node = Some n; wants_entry = is_kind has_entries table n; name_at = at }

  -- a list was named, and has no keys yet
  abbrev pub lacks_keys : Here → Bool
  lacks_keys here = here.wants_entry && option_map_or (is_kind is_list table) here.node false

module _ (table : SchemaTable) (whole : Text) where
  -- ---- predicates

  -- the leaf of a list or leaf-list that a predicate names
  unfoldable pub subject : ℕ → Text → Read (Option ℕ)
  subject n t =
      if first t == 46 then Ok (dot_meant table n, drop 1 t) else (do
        (key, after) ← name whole t
        Ok (key_meant table n key, after))

  -- a predicate, at its `[`, after those that gave these values
  unfoldable pub predicate : ℕ → List Given → Text → Read Given
  predicate n given t = do
    (named, after) ← subject n (after_blanks (drop 1 t))
    leaf ← found (BadPredicate (place whole t)) (not_given given named)
    (text, rest) ← said whole after
    value ← taken (place whole t) (value_of table leaf text)
    end ← closed whole rest
    Ok (record { leaf = leaf; value = value }, end)

  -- All predicates from here on, at most n. The length of the text is always enough.
  unfoldable pub predicates : ℕ → ℕ → List Given → Text → Read (List Given)
  predicates zero n given t = Ok (given, t)
  predicates (suc most) n given t =
      if first t == 91 then (do
        (one, after) ← predicate n given t
        predicates most n (given ++ one ∷ []) after)
      else Ok (given, t)

  -- ---- steps

  -- a name, after its slash
  unfoldable pub named : Here → Text → Result (Step × Here × Text) PathTextFault
  named here t = do
    (called, after) ← name whole t
    if lacks_keys table here then Err (BadPredicate here.name_at) else (do
      n ← found (UnknownNode (place whole t)) (meant table here.node called)
      Ok (Node n, behind_name table n (place whole t), after))

  -- the predicates of an entry, at the first `[`
  unfoldable pub entered : Here → Text → Result (Step × Here × Text) PathTextFault
  entered here t =
      if here.wants_entry then (do
        n ← found (BadPredicate (place whole t)) here.node
        (given, rest) ← predicates (length t) n [] t
        step ← found (BadPredicate here.name_at) (entry_given table n given)
        Ok (step, behind_entry here, rest))
      else Err (BadPredicate (place whole t))

  -- one step
  abbrev pub step : Here → Text → Result (Step × Here × Text) PathTextFault
  step here t = if first t == 91 then entered here t else if first t == 47 then named here (drop 1 t) else bad_text whole t

  -- the fault of a step too many: the first predicate of an entry, or a name
  abbrev pub one_entry_more : Here → Text → Result (List Step) PathTextFault
  one_entry_more here t = do
    n ← found (BadPredicate (place whole t)) here.node
    past ← predicate n [] t
    Err TooDeep

  unfoldable pub one_more : Here → Text → Result (List Step) PathTextFault
  one_more here t = if first t == 91 && here.wants_entry then one_entry_more here t else (step here t >>= λ past. Err TooDeep)

  -- the steps from here on, at most `room` of them
  unfoldable pub steps : ℕ → Here → Text → Result (List Step) PathTextFault
  steps zero here t = if is_empty t then Ok [] else one_more here t
  steps (suc room) here t =
      if is_empty t then Ok [] else (do
        (one, next, after) ← step here t
        others ← steps room next after
        Ok (one ∷ others))

  -- the root, or at least one step
  abbrev pub path : Result (List Step) PathTextFault
  path = if first whole == 47 then (if length whole == 1 then Ok [] else steps 32 top whole) else Err (BadText 0)

-- the path that a text denotes
unfoldable pub read_path : SchemaTable → Text → Result (List Step) PathTextFault
read_path table whole = path table whole

-- The result, seen by `view`, equals the definition's value or fault, unless memory ran out.
abbrev pub Gives : {X Y : Type 0} → (X → Y) → Result X PathTextFault → Result Y PathTextFault → Type 0
Gives = GivesUnless NoMemory
