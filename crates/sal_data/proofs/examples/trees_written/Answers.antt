-- Each example by computation.
use Rattle.std.specs.Prelude.{◌≡◌, ℕ, List, codes}
use Rattle.std.proofs.Common.{refl}
use Rattle.serde_json.specs.Data.{Data, string, object, no_members, member}
use Rattle.sal_types.specs.declared.value.Atom.TheVariants.{Text, Unsigned}
use Rattle.sal_restrict.specs.declared.yang_type.YangType.TheViews.{out-roll-YangType}
use Rattle.sal_json.specs.Written.{type_json_of, layer_for}
use Rattle.sal_data.specs.Written.{scalar_json, node_json, runs_of}
use Rattle.sal_data.specs.Examples.{table, value, whole_number, nothing, only, one, two}
use Rattle.sal_data.proofs.examples.trees_written.Goals as goal

-- ---- the values of the leafs

id : (n : ℕ) → scalar_json table 2 (value 0 (Unsigned n)) ≡ whole_number n
unfolding scalar_json
id n = simp (type_json_of, layer_for, out-roll-YangType)

side : (t : List ℕ) → scalar_json table 3 (value 0 (Text t)) ≡ string t
unfolding scalar_json
side t = simp (type_json_of, layer_for, out-roll-YangType)

tag : (t : List ℕ) → scalar_json table 4 (value 0 (Text t)) ≡ string t
unfolding scalar_json
tag t = simp (type_json_of, layer_for, out-roll-YangType)

size : (t : List ℕ) → scalar_json table 6 (value 1 (Text t)) ≡ string t
unfolding scalar_json
size t = simp (type_json_of, layer_for, out-roll-YangType)

site : (t : List ℕ) → scalar_json table 7 (value 0 (Text t)) ≡ string t
unfolding scalar_json
site t = simp (type_json_of, layer_for, out-roll-YangType)

-- ---- the trees, from the values of the leafs

abbrev slot_of : Data → Data → Data → Data
slot_of first side site = object (member (codes "geo:site") site (member (codes "id") first (member (codes "side") side no_members)))

abbrev rack_of : Data → Data → Data → Data → Data
rack_of size slot a b =
    only "inv:rack" (object (member (codes "lamp") nothing (member (codes "size") size (member (codes "slot") (one slot) (member (codes "tag") (two a b) no_members)))))

pub returns-clause-whole : goal.returns-clause-whole
unfolding node_json runs_of
returns-clause-whole c = λ i. rack_of (size (codes "4") i) (slot_of (id 1 i) (side (codes "l") i) (site (codes "x") i)) (tag (codes "a") i) (tag (codes "b") i)

pub returns-clause-entry : goal.returns-clause-entry
unfolding node_json runs_of
returns-clause-entry c = λ i. slot_of (id 1 i) (side (codes "l") i) (site (codes "x") i)

pub returns-clause-list : goal.returns-clause-list
unfolding node_json runs_of
returns-clause-list c = λ i. one (slot_of (id 1 i) (side (codes "l") i) (site (codes "x") i))

pub returns-clause-of_none : goal.returns-clause-of_none
unfolding node_json runs_of
returns-clause-of_none c = refl
