-- Each step that is read fits the place that the reader has reached.
use Rattle.std.proofs.Common.{◌≡◌, ℕ, zero, suc, Bool, true, false, not, ◌&&◌, ◌||◌, ◌==◌, List, [], ◌∷◌, length, drop, Option, Some, None, Result, Ok, Err, if◌then◌else◌, refl, sym, ap, subst, ◌∙◌}
use Rattle.std.specs.Option.{option_map_or}
use Rattle.std.proofs.lemmas.Bool.{true≢false, and_from}
use Rattle.sal_types.specs.declared.value.Step.{Step}
use Rattle.sal_types.specs.declared.value.Step.TheVariants.{Node, Key, Item}
use Rattle.sal_types.specs.Reading.{◌>>=◌}
use Rattle.sal_schema.specs.declared.kind.Kind.{Kind}
use Rattle.sal_schema.specs.declared.kind.Kind.TheVariants.{List as ListKind, LeafList}
use Rattle.sal_schema.specs.declared.table.SchemaTable.{SchemaTable}
use Rattle.sal_schema.specs.Kinds.{is_list, has_entries, has_type, is_message}
use Rattle.sal_schema.specs.Paths.{may_follow, may_pick, step_fits, after_step, fits_from, fits_path}
use Rattle.sal_schema.specs.Table.{is_kind, kind_of, is_data_child}
use Rattle.sal_schema.specs.Valid.{IsTable}
use Rattle.sal_schema.proofs.Childless.{no_child}
use Rattle.sal_json.proofs.Chosen.{same_ok}
use Rattle.sal_pathtext.specs.declared.fault.PathTextFault.{PathTextFault}
use Rattle.sal_pathtext.specs.declared.fault.PathTextFault.TheVariants.{BadText, BadPredicate, UnknownNode, TooDeep}
use Rattle.sal_pathtext.specs.declared.given.Given.{Given}
use Rattle.sal_pathtext.specs.declared.here.Here.{Here}
use Rattle.sal_pathtext.specs.Words.{Text, Name, first, is_empty, place, bad_text, name}
use Rattle.sal_pathtext.specs.Nodes.{meant, entry_given}
use Rattle.sal_pathtext.specs.Read.{top, found, predicate, predicates, lacks_keys, behind_name, behind_entry, named, entered, step, one_more, one_entry_more, steps, read_path}
use Rattle.sal_pathtext.proofs.Children.{meant-is}
use Rattle.sal_pathtext.proofs.Fitting.{bind_ok, found_ok, predicates_right, IsSound, entry_fits}

-- a step and what follows
abbrev pub Taken : Type 0
Taken = Step × Here × Text

-- a fault is no answer
pub never : {X P : Type 0} (fault : PathTextFault) (x : X) → ◌≡◌ {A = Result X PathTextFault} (Err fault) (Ok x) → P
never fault x e = cc

bind_never : {X Y P : Type 0} (r : Result X PathTextFault) (fault : PathTextFault) (y : Y) → (r >>= λ x. Err fault) ≡ Ok y → P
bind_never (Ok x) fault y e = never fault y e
bind_never (Err other) fault y e = never other y e

module _ (table : SchemaTable) (good : IsTable table) where
  -- what holds of a step that was read here
  abbrev Fits : Here → Taken → Type 0
  Fits here p =
      (step_fits table (record { node = here.node; wants_entry = here.wants_entry }) p.0 ≡ true)
      × (after_step table (record { node = here.node; wants_entry = here.wants_entry }) p.0 ≡ record { node = p.1.node; wants_entry = p.1.wants_entry })
      × IsSound table p.1

  -- ---- names

  entries_or_list : (o : Option Kind) → option_map_or has_entries o false ≡ true → option_map_or is_list o false ≡ false → option_map_or has_type o false ≡ true
  entries_or_list None is isnt = cc
  entries_or_list (Some k) is isnt = by k is isnt
    where
      by : (k : Kind) → has_entries k ≡ true → is_list k ≡ false → has_type k ≡ true
      by ListKind is isnt = cc
      by LeafList is isnt = refl
      by k is isnt = cc

  -- a child is neither below a list that lacks its keys nor below a leaf-list
  not_waiting : (w : Bool) (o : Option ℕ) (n : ℕ) → (w ≡ true → option_map_or (is_kind has_entries table) o false ≡ true)
      → (w && option_map_or (is_kind is_list table) o false) ≡ false → is_data_child table o n ≡ true → w ≡ false
  not_waiting false o n sound lacks child = refl
  not_waiting true None n sound lacks child = sym (sound refl)
  not_waiting true (Some p) n sound lacks child = absurd (no_child table p n good (entries_or_list (kind_of table p) (sound refl) lacks) child)

  child_follows : (o : Option ℕ) (n : ℕ) → is_data_child table o n ≡ true → may_follow table o n ≡ true
  child_follows None n child = ap (λ b. b || is_kind is_message table n) child
  child_follows (Some p) n child = child

  name_fits : (here : Here) (n at : ℕ) (after : Text) → IsSound table here → lacks_keys table here ≡ false → is_data_child table here.node n ≡ true
      → Fits here (Node n, behind_name table n at, after)
  name_fits here n at after sound lacks child =
      let free : here.wants_entry ≡ false = not_waiting here.wants_entry here.node n sound lacks child in
      (and_from (not here.wants_entry) (may_follow table here.node n) (ap not free) (child_follows here.node n child), refl, λ e. e)

  -- ---- entries

  pick_fits : (here : Here) (n : ℕ) (one : Step) → here.wants_entry ≡ true → here.node ≡ Some n → may_pick table n one ≡ true
      → (step_fits table (record { node = here.node; wants_entry = here.wants_entry }) one ≡ true)
      × (after_step table (record { node = here.node; wants_entry = here.wants_entry }) one ≡ record { node = here.node; wants_entry = false })
  pick_fits here n (Node m) wants owner picks = absurd (true≢false (sym picks))
  pick_fits here n (Key values) wants owner picks =
      (and_from here.wants_entry (option_map_or (λ k. may_pick table k (Key values)) here.node false) wants (ap (λ o. option_map_or (λ k. may_pick table k (Key values)) o false) owner ∙ picks), refl)
  pick_fits here n (Item value) wants owner picks =
      (and_from here.wants_entry (option_map_or (λ k. may_pick table k (Item value)) here.node false) wants (ap (λ o. option_map_or (λ k. may_pick table k (Item value)) o false) owner ∙ picks), refl)

  module _ (whole : Text) where
    abbrev pub from_node : ℕ → Text → ℕ → Result (Step × Here × Text) PathTextFault
    from_node at after n = Ok (Node n, behind_name table n at, after)

    abbrev pub from_name : Here → ℕ → Name × Text → Result (Step × Here × Text) PathTextFault
    from_name here at called = if lacks_keys table here then Err (BadPredicate here.name_at) else (found (UnknownNode at) (meant table here.node called.0) >>= from_node at called.1)

    named_fits : (here : Here) (t : Text) (p : Taken) → IsSound table here → named table whole here t ≡ Ok p → Fits here p
    unfolding named
    named_fits here t p sound e =
        bind_ok (name whole t) (from_name here (place whole t)) p e (λ called read e1. by called (lacks_keys table here) refl e1)
      where
        by : (called : Name × Text) (b : Bool) → lacks_keys table here ≡ b
            → (if b then Err (BadPredicate here.name_at) else (found (UnknownNode (place whole t)) (meant table here.node called.0) >>= from_node (place whole t) called.1)) ≡ Ok p → Fits here p
        by called true lacks e = never (BadPredicate here.name_at) p e
        by called false lacks e =
            bind_ok (found (UnknownNode (place whole t)) (meant table here.node called.0)) (from_node (place whole t) called.1) p e (λ n there e1.
            let child = meant-is table here.node called.0 n (found_ok (UnknownNode (place whole t)) (meant table here.node called.0) n there) in
            subst (Fits here) (same_ok (Node n, behind_name table n (place whole t), called.1) p e1) (name_fits here n (place whole t) called.1 sound lacks child))

    abbrev pub from_given : Here → ℕ → List Given × Text → Result (Step × Here × Text) PathTextFault
    from_given here n read = found (BadPredicate here.name_at) (entry_given table n read.0) >>= λ one. Ok (one, behind_entry here, read.1)

    abbrev pub from_owner : Here → Text → ℕ → Result (Step × Here × Text) PathTextFault
    from_owner here t n = predicates table whole (length t) n [] t >>= from_given here n

    entered_fits : (here : Here) (t : Text) (p : Taken) → IsSound table here → entered table whole here t ≡ Ok p → Fits here p
    unfolding entered
    entered_fits here t p sound e = by here.wants_entry refl e
      where
        at : PathTextFault
        at = BadPredicate (place whole t)

        by : (b : Bool) → here.wants_entry ≡ b → (if b then (found (BadPredicate (place whole t)) here.node >>= from_owner here t) else Err (BadPredicate (place whole t))) ≡ Ok p → Fits here p
        by false wants e = never (BadPredicate (place whole t)) p e
        by true wants e =
            bind_ok (found (BadPredicate (place whole t)) here.node) (from_owner here t) p e (λ n there e1.
            bind_ok (predicates table whole (length t) n [] t) (from_given here n) p e1 (λ read ended e2.
            bind_ok (found (BadPredicate here.name_at) (entry_given table n read.0)) (λ one. Ok (one, behind_entry here, read.1)) p e2 (λ one made e3.
            let owner = found_ok (BadPredicate (place whole t)) here.node n there in
            let entries : is_kind has_entries table n ≡ true = sym (ap (λ o. option_map_or (is_kind has_entries table) o false) owner) ∙ sound wants in
            let right = predicates_right table whole (length t) n [] t read refl ended in
            let picks = entry_fits table whole n read.0 one entries right (found_ok (BadPredicate here.name_at) (entry_given table n read.0) one made) in
            let (here_fits, then_there) = pick_fits here n one wants owner picks in
            subst (Fits here) (same_ok (one, behind_entry here, read.1) p e3) (here_fits, then_there, λ no_more. absurd (true≢false (sym no_more))))))

    step_is_fit : (here : Here) (t : Text) (p : Taken) → IsSound table here → step table whole here t ≡ Ok p → Fits here p
    step_is_fit here t p sound e =
        elim (first t == 91) as (λ b. (if b then entered table whole here t else if first t == 47 then named table whole here (drop 1 t) else bad_text whole t) ≡ Ok p → Fits here p) [
          | true ↦ λ e1. entered_fits here t p sound e1
          | false ↦ λ e1. elim (first t == 47) as (λ b. (if b then named table whole here (drop 1 t) else bad_text whole t) ≡ Ok p → Fits here p) [
            | true ↦ λ e2. named_fits here (drop 1 t) p sound e2
            | false ↦ λ e2. never (BadText (place whole t)) p e2
          ] e1
        ] e

    -- ---- steps

    pub full : {P : Type 0} (here : Here) (t : Text) (path : List Step) → one_more table whole here t ≡ Ok path → P
    unfolding one_more
    full {P = P} here t path e =
        elim (first t == 91 && here.wants_entry) as (λ b. (if b then one_entry_more table whole here t else (step table whole here t >>= λ past. Err TooDeep)) ≡ Ok path → P) [
          | true ↦ λ e1. bind_ok (found (BadPredicate (place whole t)) here.node) (λ n. predicate table whole n [] t >>= λ past. Err TooDeep) path e1 (λ n there e2. bind_never (predicate table whole n [] t) TooDeep path e2)
          | false ↦ λ e1. bind_never (step table whole here t) TooDeep path e1
        ] e

    abbrev pub from_step : ℕ → Taken → Result (List Step) PathTextFault
    from_step room p = steps table whole room p.1 p.2 >>= λ others. Ok (p.0 ∷ others)

    steps_fit : (room : ℕ) (here : Here) (t : Text) (path : List Step) → IsSound table here → steps table whole room here t ≡ Ok path
        → fits_from table (record { node = here.node; wants_entry = here.wants_entry }) path ≡ true
    unfolding steps
    steps_fit zero here t path sound e =
        elim (is_empty t) as (λ b. (if b then Ok [] else one_more table whole here t) ≡ Ok path → fits_from table (record { node = here.node; wants_entry = here.wants_entry }) path ≡ true) [
          | true ↦ λ e1. ap (fits_from table (record { node = here.node; wants_entry = here.wants_entry })) (sym (same_ok [] path e1))
          | false ↦ λ e1. full here t path e1
        ] e
    steps_fit (suc room) here t path sound e =
        elim (is_empty t) as (λ b. (if b then Ok [] else (step table whole here t >>= from_step room)) ≡ Ok path → fits_from table (record { node = here.node; wants_entry = here.wants_entry }) path ≡ true) [
          | true ↦ λ e1. ap (fits_from table (record { node = here.node; wants_entry = here.wants_entry })) (sym (same_ok [] path e1))
          | false ↦ λ e1. bind_ok (step table whole here t) (from_step room) path e1 (λ p read e2.
              bind_ok (steps table whole room p.1 p.2) (λ others. Ok (p.0 ∷ others)) path e2 (λ others more e3.
              let (here_fits, then_there, still) = step_is_fit here t p sound read in
              let rest = steps_fit room p.1 p.2 others still more in
              ap (fits_from table (record { node = here.node; wants_entry = here.wants_entry })) (sym (same_ok (p.0 ∷ others) path e3))
              ∙ and_from (step_fits table (record { node = here.node; wants_entry = here.wants_entry }) p.0) (fits_from table (after_step table (record { node = here.node; wants_entry = here.wants_entry }) p.0) others) here_fits
              (ap (λ place. fits_from table place others) then_there ∙ rest)))
        ] e

-- a path that was read fits
pub read_fits : (table : SchemaTable) (whole : Text) (path : List Step) → IsTable table → read_path table whole ≡ Ok path → fits_path table path ≡ true
unfolding read_path
read_fits table whole path good e =
    elim (first whole == 47) as (λ b. (if b then (if length whole == 1 then Ok [] else steps table whole 32 top whole) else Err (BadText 0)) ≡ Ok path → fits_path table path ≡ true) [
      | true ↦ λ e1. elim (length whole == 1) as (λ b. (if b then Ok [] else steps table whole 32 top whole) ≡ Ok path → fits_path table path ≡ true) [
        | true ↦ λ e2. ap (fits_path table) (sym (same_ok [] path e2))
        | false ↦ λ e2. steps_fit table good whole 32 top whole path (λ no_more. absurd (true≢false (sym no_more))) e2
      ] e1
      | false ↦ λ e1. never (BadText 0) path e1
    ] e
