-- What readers of parts give, put together.
use Rattle.std.proofs.Common.{◌≡◌, inl, inr, ℕ, ◌<◌, Bool, true, false, List, [], ◌∷◌, ◌++◌, length, Option, Some, Result, Ok, Err, if◌then◌else◌, refl, sym, ap, subst, ◌∙◌, append_assoc, append-nil}
use Rattle.std.specs.List.{list_any}
use Rattle.std.proofs.lemmas.Bool.{lt-ltb, or_cases, false_from_ne_true}
use Rattle.serde_json.specs.Data.{Data, null, boolean, number, string, array, object, Members, no_members, member}
use Rattle.sal_types.specs.declared.value.Cell.{Cell}
use Rattle.sal_types.specs.declared.value.Cell.TheVariants.{Mark}
use Rattle.sal_types.specs.declared.value.Step.{Step}
use Rattle.sal_types.specs.declared.value.Step.TheVariants.{Node}
use Rattle.sal_types.specs.declared.row.Row.{Row}
use Rattle.sal_types.specs.Reading.{◌>>=◌}
use Rattle.sal_types.specs.Tree.{cell}
use Rattle.sal_schema.specs.declared.table.SchemaTable.{SchemaTable}
use Rattle.sal_schema.specs.Kinds.{is_leaf}
use Rattle.sal_schema.specs.Table.{is_kind}
use Rattle.sal_data.specs.declared.fault.DataFault.{DataFault}
use Rattle.sal_data.specs.declared.fault.DataFault.TheVariants.{TooDeep, WrongShape, DoubleEntry}
use Rattle.sal_data.specs.Members.{member_node}
use Rattle.sal_data.specs.Read.{Reading, followed, marked, longer, leaf_rows, key_step, item_step, one_more, items_rows, node_rows, object_rows, members_rows, entries_rows, same_step}
use Rattle.serde_json.specs.View.{items_of}
use Rattle.sal_data.proofs.Listed.{In, In-front, In-back, In-either}
use Rattle.sal_data.proofs.ObjectMembers.{Has}
use Rattle.sal_data.proofs.RunsApart.{step_is}

-- ---- steps of a reading

pub bind_is : {A B F : Type 0} (r : Result A F) (f : A → Result B F) (x : A) → r ≡ Ok x → (r >>= f) ≡ f x
bind_is r f x e = ap (λ s. s >>= f) e

pub longer-is : (path : List Step) (s : Step) → length path < 32 → longer path s ≡ Ok (path ++ s ∷ [])
longer-is path s room = ap (λ (b : Bool). if b then Ok (path ++ s ∷ []) else Err (TooDeep path)) (lt-ltb (length path) 32 room)

In-from_any : (s : Step) (steps : List Step) → list_any (same_step s) steps ≡ true → In s steps
In-from_any s [] e = cc
In-from_any s (t ∷ steps) e = elim (or_cases (same_step s t) (list_any (same_step s) steps) e) [
  | inl here ↦ inl (step_is s t here)
  | inr more ↦ inr (In-from_any s steps more)
]

none_same : (s : Step) (steps : List Step) → (In s steps → ⊥) → list_any (same_step s) steps ≡ false
none_same s steps never = false_from_ne_true (list_any (same_step s) steps) (λ e. never (In-from_any s steps e))

pub one_more-is : (seen : List Step) (s : Step) (path : List Step) → (In s seen → ⊥) → one_more seen s path ≡ Ok (s ∷ seen)
one_more-is seen s path never = ap (λ (b : Bool). if b then Err (DoubleEntry path) else Ok (s ∷ seen)) (none_same s seen never)

followed-is : (xs ys : List Row) (rest : Reading) → rest ≡ Ok ys → followed xs rest ≡ Ok (xs ++ ys)
followed-is xs ys rest e = bind_is rest (λ more. Ok (xs ++ more)) ys e

-- a leaf is read from any JSON value
pub node_rows-leaf : (table : SchemaTable) (n : ℕ) (path : List Step) (json : Data) → is_kind is_leaf table n ≡ true → node_rows table n path json ≡ leaf_rows table n path json
node_rows-leaf table n path null e = ap (λ (b : Bool). if b then leaf_rows table n path null else Err (WrongShape path)) e
node_rows-leaf table n path (boolean x) e = ap (λ (b : Bool). if b then leaf_rows table n path (boolean x) else Err (WrongShape path)) e
node_rows-leaf table n path (number x) e = ap (λ (b : Bool). if b then leaf_rows table n path (number x) else Err (WrongShape path)) e
node_rows-leaf table n path (string t) e = ap (λ (b : Bool). if b then leaf_rows table n path (string t) else Err (WrongShape path)) e
node_rows-leaf table n path (array items) e = rw e refl
node_rows-leaf table n path (object ms) e = rw e refl

-- ---- what is read of a tree

module _ (rows : List Row) where
  -- each row that was read is one of the tree
  abbrev pub IsSound : List Row → Type 0
  IsSound read = (row : Row) → In row read → cell rows row.path ≡ Some row.cell

  abbrev pub at_row : List Step → Cell → Row
  at_row path c = record { path = path; cell = c }

  -- the tree's rows at the path and below it are read
  pub record Gives (path : List Step) (reading : Reading) : Type 0 where
    pub read : List Row
    pub is : reading ≡ Ok read
    pub sound : IsSound read
    pub all : (q : List Step) (c : Cell) → cell rows (path ++ q) ≡ Some c → In (at_row (path ++ q) c) read

  -- those below it are
  pub record GivesBelow (path : List Step) (reading : Reading) : Type 0 where
    pub read : List Row
    pub is : reading ≡ Ok read
    pub sound : IsSound read
    pub all : (s : Step) (q : List Step) (c : Cell) → cell rows (path ++ s ∷ q) ≡ Some c → In (at_row (path ++ s ∷ q) c) read

  sound-append : (xs ys : List Row) → IsSound xs → IsSound ys → IsSound (xs ++ ys)
  sound-append xs ys a b row there = elim (In-either row xs ys there) [ inl h ↦ a row h | inr h ↦ b row h ]

  sound-one : (path : List Step) (c : Cell) → cell rows path ≡ Some c → IsSound (at_row path c ∷ [])
  sound-one path c e row (inl same) = ap (λ (r : Row). cell rows r.path) same ∙ e ∙ ap (λ (r : Row). Some r.cell) (sym same)
  sound-one path c e row (inr none) = absurd none

  -- never row at the path
  pub from_below : (path : List Step) (reading : Reading) → ((c : Cell) → cell rows path ≡ Some c → ⊥) → GivesBelow path reading → Gives path reading
  from_below path reading none g = record {
    read = g.read;
    is = g.is;
    sound = g.sound;
    all = λ q c e. by q c e;
  }
    where
      by : (q : List Step) (c : Cell) → cell rows (path ++ q) ≡ Some c → In (at_row (path ++ q) c) g.read
      by [] c e = absurd (none c (ap (cell rows) (sym (append-nil path)) ∙ e))
      by (s ∷ q) c e = g.all s q c e

  -- one row at the path
  pub with_mark : (path : List Step) (reading : Reading) → cell rows path ≡ Some Mark → GivesBelow path reading → Gives path (marked true path reading)
  with_mark path reading here g = record {
    read = at_row path Mark ∷ g.read;
    is = followed-is (at_row path Mark ∷ []) g.read reading g.is;
    sound = sound-append (at_row path Mark ∷ []) g.read (sound-one path Mark here) g.sound;
    all = λ q c e. by q c e;
  }
    where
      by : (q : List Step) (c : Cell) → cell rows (path ++ q) ≡ Some c → In (at_row (path ++ q) c) (at_row path Mark ∷ g.read)
      by [] c e =
          let same : path ++ [] ≡ path = append-nil path in
          let found : Some c ≡ Some Mark = sym e ∙ ap (cell rows) same ∙ here in
          let is_mark : c ≡ Mark = cc in
          inl (λ i. at_row (same i) (is_mark i))
      by (s ∷ q) c e = inr (g.all s q c e)

  pub only_row : (path : List Step) (c : Cell) → cell rows path ≡ Some c → ((s : Step) (q : List Step) (d : Cell) → cell rows (path ++ s ∷ q) ≡ Some d → ⊥) → Gives path (Ok (at_row path c ∷ []))
  only_row path c here none = record {
    read = at_row path c ∷ [];
    is = refl;
    sound = sound-one path c here;
    all = λ q d e. by q d e;
  }
    where
      by : (q : List Step) (d : Cell) → cell rows (path ++ q) ≡ Some d → In (at_row (path ++ q) d) (at_row path c ∷ [])
      by [] d e =
          let same : path ++ [] ≡ path = append-nil path in
          let found : Some d ≡ Some c = sym e ∙ ap (cell rows) same ∙ here in
          let is : d ≡ c = cc in
          inl (λ i. at_row (same i) (is i))
      by (s ∷ q) d e = absurd (none s q d e)

  pub Gives-same : (path : List Step) (r s : Reading) → r ≡ s → Gives path s → Gives path r
  Gives-same path r s e g = record { read = g.read; is = e ∙ g.is; sound = g.sound; all = g.all }

  pub GivesBelow-same : (path : List Step) (r s : Reading) → r ≡ s → GivesBelow path s → GivesBelow path r
  GivesBelow-same path r s e g = record { read = g.read; is = e ∙ g.is; sound = g.sound; all = g.all }

  -- rows below one more step
  pub behind : (path : List Step) (s : Step) (q : List Step) → (path ++ s ∷ []) ++ q ≡ path ++ s ∷ q
  behind path s q = append_assoc path (s ∷ []) q

  all_behind : (path : List Step) (s : Step) (reading : Reading) (g : Gives (path ++ s ∷ []) reading) (q : List Step) (c : Cell) → cell rows (path ++ s ∷ q) ≡ Some c → In (at_row (path ++ s ∷ q) c) g.read
  all_behind path s reading g q c e =
      subst (λ (r : List Step). In (at_row r c) g.read) (behind path s q) (g.all q c (ap (cell rows) (behind path s q) ∙ e))

  -- ---- members

  module _ (table : SchemaTable) (parent : Option ℕ) (path : List Step) where
    -- the member of an object reads as its node's rows
    pub record MemberGives (name : List ℕ) (json : Data) : Type 0 where
      pub node : ℕ
      pub found : member_node table parent path name ≡ Ok node
      pub room : length path < 32
      pub gives : Gives (path ++ Node node ∷ []) (node_rows table node (path ++ Node node ∷ []) json)

    -- what the members are read as
    pub record MembersGive (ms : Members) : Type 0 where
      pub read : List Row
      pub is : members_rows table parent path ms ≡ Ok read
      pub sound : IsSound read
      pub all : (name : List ℕ) (json : Data) (n : ℕ) (q : List Step) (c : Cell) → Has name json ms → member_node table parent path name ≡ Ok n → cell rows (path ++ Node n ∷ q) ≡ Some c
          → In (at_row (path ++ Node n ∷ q) c) read

    same_node : (n m : ℕ) → ◌≡◌ {A = Result ℕ DataFault} (Ok n) (Ok m) → n ≡ m
    same_node n m e = cc

    pub members_give : (ms : Members) → ((name : List ℕ) (json : Data) → Has name json ms → MemberGives name json) → MembersGive ms
    members_give no_members each = record { read = []; is = refl; sound = λ row there. absurd there; all = λ name json n q c h. absurd h }
    members_give (member name json ms) each =
        let one = each name json (inl (refl, refl)) in
        let rest = members_give ms (λ k d h. each k d (inr h)) in
        let n = one.node in
        let below = path ++ Node n ∷ [] in
        let rest_is = followed-is one.gives.read rest.read (members_rows table parent path ms) rest.is in
        record {
          read = one.gives.read ++ rest.read;
          is = bind_is (member_node table parent path name) (λ n. longer path (Node n) >>= (λ below. node_rows table n below json >>= (λ rows. followed rows (members_rows table parent path ms)))) n one.found
              ∙ bind_is (longer path (Node n)) (λ below. node_rows table n below json >>= (λ rows. followed rows (members_rows table parent path ms))) below (longer-is path (Node n) one.room)
              ∙ bind_is (node_rows table n below json) (λ rows. followed rows (members_rows table parent path ms)) one.gives.read one.gives.is
              ∙ rest_is;
          sound = sound-append one.gives.read rest.read one.gives.sound rest.sound;
          all = λ k d m q c h found e. by one rest k d m q c h found e;
        }
      where
        by : (one : MemberGives name json) (rest : MembersGive ms) (k : List ℕ) (d : Data) (m : ℕ) (q : List Step) (c : Cell) → Has k d (member name json ms) → member_node table parent path k ≡ Ok m → cell rows (path ++ Node m ∷ q) ≡ Some c
            → In (at_row (path ++ Node m ∷ q) c) (one.gives.read ++ rest.read)
        by one rest k d m q c (inl (a, b)) found e =
            let same : m ≡ one.node = same_node m one.node (sym found ∙ ap (member_node table parent path) a ∙ one.found) in
            let there = all_behind path (Node one.node) (node_rows table one.node (path ++ Node one.node ∷ []) json) one.gives q c (ap (λ k. cell rows (path ++ Node k ∷ q)) (sym same) ∙ e) in
            In-front (at_row (path ++ Node m ∷ q) c) one.gives.read rest.read (subst (λ k. In (at_row (path ++ Node k ∷ q) c) one.gives.read) (sym same) there)
        by one rest k d m q c (inr h) found e = In-back (at_row (path ++ Node m ∷ q) c) one.gives.read rest.read (rest.all k d m q c h found e)

  -- ---- entries

  -- no step occurs twice
  abbrev pub Apart : List Step → Type 0
  Apart [] = Unit {0}
  Apart (s ∷ steps) = (In s steps → ⊥) × Apart steps

  module _ (table : SchemaTable) (n : ℕ) (path : List Step) where
    -- the JSON value of an entry of a list reads as its rows
    pub record EntryGives (s : Step) (json : Data) : Type 0 where
      pub found : key_step table n path json ≡ Ok s
      pub room : length path < 32
      pub gives : Gives (path ++ s ∷ []) (marked true (path ++ s ∷ []) (object_rows table (Some n) (path ++ s ∷ []) json))

    -- those of these steps do
    abbrev pub AreEntries : List Step → List Data → Type 0
    AreEntries [] [] = Unit {0}
    AreEntries [] (json ∷ more) = ⊥
    AreEntries (s ∷ steps) [] = ⊥
    AreEntries (s ∷ steps) (json ∷ more) = EntryGives s json × AreEntries steps more

    pub record EntriesGive (seen steps : List Step) (values : List Data) : Type 0 where
      pub read : List Row
      pub is : entries_rows table n path seen (items_of values) ≡ Ok read
      pub sound : IsSound read
      pub all : (s : Step) (q : List Step) (c : Cell) → In s steps → cell rows (path ++ s ∷ q) ≡ Some c → In (at_row (path ++ s ∷ q) c) read

    pub entries_give : (steps : List Step) (values : List Data) (seen : List Step) → Apart steps → ((s : Step) → In s seen → In s steps → ⊥) → AreEntries steps values → EntriesGive seen steps values
    entries_give [] [] seen apart fresh each = record { read = []; is = refl; sound = λ row there. absurd there; all = λ s q c h. absurd h }
    entries_give [] (json ∷ more) seen apart fresh each = absurd each
    entries_give (s ∷ steps) [] seen apart fresh each = absurd each
    entries_give (s ∷ steps) (json ∷ more) seen (mine, apart) fresh (one, others) =
        let rest = entries_give steps more (s ∷ seen) apart (λ t before later. elim before [ inl e ↦ mine (subst (λ u. In u steps) e later) | inr old ↦ fresh t old (inr later) ]) others in
        let below = path ++ s ∷ [] in
        record {
          read = one.gives.read ++ rest.read;
          is = bind_is (key_step table n path json) (λ step. longer path step >>= (λ below. one_more seen step below >>= (λ now. marked true below (object_rows table (Some n) below json) >>= (λ rows. followed rows (entries_rows table n path now (items_of more)))))) s one.found
              ∙ bind_is (longer path s) (λ below. one_more seen s below >>= (λ now. marked true below (object_rows table (Some n) below json) >>= (λ rows. followed rows (entries_rows table n path now (items_of more))))) below (longer-is path s one.room)
              ∙ bind_is (one_more seen s below) (λ now. marked true below (object_rows table (Some n) below json) >>= (λ rows. followed rows (entries_rows table n path now (items_of more)))) (s ∷ seen) (one_more-is seen s below (λ before. fresh s before (inl refl)))
              ∙ bind_is (marked true below (object_rows table (Some n) below json)) (λ rows. followed rows (entries_rows table n path (s ∷ seen) (items_of more))) one.gives.read one.gives.is
              ∙ followed-is one.gives.read rest.read (entries_rows table n path (s ∷ seen) (items_of more)) rest.is;
          sound = sound-append one.gives.read rest.read one.gives.sound rest.sound;
          all = λ t q c h e. by rest t q c h e;
        }
      where
        by : (rest : EntriesGive (s ∷ seen) steps more) (t : Step) (q : List Step) (c : Cell) → In t (s ∷ steps) → cell rows (path ++ t ∷ q) ≡ Some c → In (at_row (path ++ t ∷ q) c) (one.gives.read ++ rest.read)
        by rest t q c (inl same) e =
            let there = all_behind path s (marked true (path ++ s ∷ []) (object_rows table (Some n) (path ++ s ∷ []) json)) one.gives q c (ap (λ u. cell rows (path ++ u ∷ q)) (sym same) ∙ e) in
            In-front (at_row (path ++ t ∷ q) c) one.gives.read rest.read (subst (λ u. In (at_row (path ++ u ∷ q) c) one.gives.read) (sym same) there)
        by rest t q c (inr h) e = In-back (at_row (path ++ t ∷ q) c) one.gives.read rest.read (rest.all t q c h e)

    -- the JSON value of an entry of a leaf-list reads as its row
    pub record ItemGives (s : Step) (json : Data) : Type 0 where
      pub found : item_step table n path json ≡ Ok s
      pub room : length path < 32
      pub here : cell rows (path ++ s ∷ []) ≡ Some Mark
      pub alone : (t : Step) (q : List Step) (c : Cell) → cell rows ((path ++ s ∷ []) ++ t ∷ q) ≡ Some c → ⊥

    abbrev pub AreItems : List Step → List Data → Type 0
    AreItems [] [] = Unit {0}
    AreItems [] (json ∷ more) = ⊥
    AreItems (s ∷ steps) [] = ⊥
    AreItems (s ∷ steps) (json ∷ more) = ItemGives s json × AreItems steps more

    pub record ItemsGive (seen steps : List Step) (values : List Data) : Type 0 where
      pub read : List Row
      pub is : items_rows table n path seen (items_of values) ≡ Ok read
      pub sound : IsSound read
      pub all : (s : Step) (q : List Step) (c : Cell) → In s steps → cell rows (path ++ s ∷ q) ≡ Some c → In (at_row (path ++ s ∷ q) c) read

    pub items_give : (steps : List Step) (values : List Data) (seen : List Step) → Apart steps → ((s : Step) → In s seen → In s steps → ⊥) → AreItems steps values → ItemsGive seen steps values
    items_give [] [] seen apart fresh each = record { read = []; is = refl; sound = λ row there. absurd there; all = λ s q c h. absurd h }
    items_give [] (json ∷ more) seen apart fresh each = absurd each
    items_give (s ∷ steps) [] seen apart fresh each = absurd each
    items_give (s ∷ steps) (json ∷ more) seen (mine, apart) fresh (one, others) =
        let rest = items_give steps more (s ∷ seen) apart (λ t before later. elim before [ inl e ↦ mine (subst (λ u. In u steps) e later) | inr old ↦ fresh t old (inr later) ]) others in
        let below = path ++ s ∷ [] in
        record {
          read = at_row below Mark ∷ rest.read;
          is = bind_is (item_step table n path json) (λ step. longer path step >>= (λ below. one_more seen step below >>= (λ now. marked true below (items_rows table n path now (items_of more))))) s one.found
              ∙ bind_is (longer path s) (λ below. one_more seen s below >>= (λ now. marked true below (items_rows table n path now (items_of more)))) below (longer-is path s one.room)
              ∙ bind_is (one_more seen s below) (λ now. marked true below (items_rows table n path now (items_of more))) (s ∷ seen) (one_more-is seen s below (λ before. fresh s before (inl refl)))
              ∙ followed-is (at_row below Mark ∷ []) rest.read (items_rows table n path (s ∷ seen) (items_of more)) rest.is;
          sound = sound-append (at_row below Mark ∷ []) rest.read (sound-one below Mark one.here) rest.sound;
          all = λ t q c h e. by rest t q c h e;
        }
      where
        by : (rest : ItemsGive (s ∷ seen) steps more) (t : Step) (q : List Step) (c : Cell) → In t (s ∷ steps) → cell rows (path ++ t ∷ q) ≡ Some c → In (at_row (path ++ t ∷ q) c) (at_row (path ++ s ∷ []) Mark ∷ rest.read)
        by rest t [] c (inl same) e =
            let here : cell rows (path ++ s ∷ []) ≡ Some c = ap (λ u. cell rows (path ++ u ∷ [])) (sym same) ∙ e in
            let found : Some c ≡ Some Mark = sym here ∙ one.here in
            let is : c ≡ Mark = cc in
            inl (λ i. at_row (path ++ same i ∷ []) (is i))
        by rest t (u ∷ q) c (inl same) e =
            absurd (one.alone u q c (ap (cell rows) (behind path s (u ∷ q)) ∙ ap (λ v. cell rows (path ++ v ∷ u ∷ q)) (sym same) ∙ e))
        by rest t q c (inr h) e = inr (rest.all t q c h e)
