-- The members of an object, and those of one that is built member by member.
use Rattle.std.proofs.Common.{◌≡◌, ◌⊎◌, inl, inr, ℕ, ◌+◌, List, [], ◌∷◌, Option, Some, None, refl, sym, ap, subst, ◌∙◌}
use Rattle.std.specs.List.{fold}
use Rattle.std.specs.declared.cmp.Ordering.{Ordering}
use Rattle.std.specs.declared.cmp.Ordering.TheVariants.{Less, Equal, Greater}
use Rattle.std.specs.Ordering.{nat_cmp, match_ordering}
use Rattle.std.specs.Cmp.{tied_itself, nat_cmp_total}
use Rattle.std.specs.Cmp.Lexicographic.{slice_cmp, lists_total}
use Rattle.std.specs.FinMap.{nat_cmp-IsAntisymmetric, slice_cmp-IsAntisymmetric}
use Rattle.serde_json.specs.Data.{Data, Members, no_members, member, put}
use Rattle.serde_json.specs.Find.{get_member}
use Rattle.sal_types.specs.declared.value.Step.{Step}
use Rattle.sal_types.specs.declared.value.Step.TheVariants.{Node, Key, Item}
use Rattle.sal_types.specs.declared.row.Row.{Row}
use Rattle.sal_schema.specs.declared.table.SchemaTable.{SchemaTable}
use Rattle.sal_data.specs.Members.{member_name}
use Rattle.sal_data.specs.Written.{Writer, step_of, with_member, with_run}
use Rattle.sal_data.proofs.Listed.{In}

-- the member is among these
abbrev pub Has : List ℕ → Data → Members → Type 0
Has k d no_members = ⊥
Has k d (member l e ms) = ((k ≡ l) × (d ≡ e)) ⊎ Has k d ms

-- a member of this name is among these
abbrev pub IsNamed : List ℕ → Members → Type 0
IsNamed k ms = (d : Data) × Has k d ms

same_text : (k l : List ℕ) → slice_cmp nat_cmp k l ≡ Equal → k ≡ l
same_text k l e = slice_cmp-IsAntisymmetric nat_cmp-IsAntisymmetric k l e

pub Has-from_put : (l : List ℕ) (e : Data) (k : List ℕ) (d : Data) (ms : Members) → Has l e (put k d ms) → ((l ≡ k) × (e ≡ d)) ⊎ Has l e ms
Has-from_put l e k d no_members h = h
Has-from_put l e k d (member n x ms) h =
    elim (slice_cmp nat_cmp k n) as (λ o. slice_cmp nat_cmp k n ≡ o → Has l e (match_ordering o (member k d (member n x ms)) (member n d ms) (member n x (put k d ms))) → ((l ≡ k) × (e ≡ d)) ⊎ Has l e (member n x ms)) [
      | Less ↦ λ is h. h
      | Equal ↦ λ is h. elim h [ inl (a, b) ↦ inl (a ∙ sym (same_text k n is), b) | inr more ↦ inr (inr more) ]
      | Greater ↦ λ is h. elim h [
        | inl here ↦ inr (inl here)
        | inr more ↦ elim (Has-from_put l e k d ms more) [ inl new ↦ inl new | inr old ↦ inr (inr old) ]
      ]
    ] refl h

pub IsNamed-put : (k : List ℕ) (d : Data) (ms : Members) → IsNamed k (put k d ms)
IsNamed-put k d no_members = (d, inl (refl, refl))
IsNamed-put k d (member n x ms) =
    elim (slice_cmp nat_cmp k n) as (λ o. slice_cmp nat_cmp k n ≡ o → IsNamed k (match_ordering o (member k d (member n x ms)) (member n d ms) (member n x (put k d ms)))) [
      | Less ↦ λ is. (d, inl (refl, refl))
      | Equal ↦ λ is. (d, inl (same_text k n is, refl))
      | Greater ↦ λ is. let (e, there) = IsNamed-put k d ms in (e, inr there)
    ] refl

pub IsNamed-kept : (l k : List ℕ) (d : Data) (ms : Members) → IsNamed l ms → IsNamed l (put k d ms)
IsNamed-kept l k d no_members (e, h) = absurd h
IsNamed-kept l k d (member n x ms) (e, h) =
    elim (slice_cmp nat_cmp k n) as (λ o. IsNamed l (match_ordering o (member k d (member n x ms)) (member n d ms) (member n x (put k d ms)))) [
      | Less ↦ (e, inr h)
      | Equal ↦ elim h [ inl (a, b) ↦ (d, inl (a, refl)) | inr more ↦ (e, inr more) ]
      | Greater ↦ elim h [ inl here ↦ (e, inl here) | inr more ↦ let (f, there) = IsNamed-kept l k d ms (e, more) in (f, inr there) ]
    ]

-- a member that is found is there, and one that is there is found
pub Has-found : (k : List ℕ) (d : Data) (ms : Members) → get_member k ms ≡ Some d → Has k d ms
Has-found k d no_members e = cc
Has-found k d (member n x ms) e =
    elim (slice_cmp nat_cmp k n) as (λ o. slice_cmp nat_cmp k n ≡ o → match_ordering o (get_member k ms) (Some x) (get_member k ms) ≡ Some d → Has k d (member n x ms)) [
      | Less ↦ λ is e. inr (Has-found k d ms e)
      | Equal ↦ λ is e. inl (same_text k n is, cc)
      | Greater ↦ λ is e. inr (Has-found k d ms e)
    ] refl e

other_text : (k n : List ℕ) (o : Ordering) → slice_cmp nat_cmp k n ≡ o → k ≡ n → o ≡ Equal
other_text k n o is same =
    sym is ∙ ap (λ (t : List ℕ). slice_cmp nat_cmp t n) same ∙ tied_itself (lists_total nat_cmp_total) n

pub found : (k : List ℕ) (d : Data) (ms : Members) → Has k d ms → (e : Data) × (get_member k ms ≡ Some e)
found k d no_members h = absurd h
found k d (member n x ms) (inl (a, b)) =
    let same : slice_cmp nat_cmp k n ≡ Equal = other_text k n (slice_cmp nat_cmp k n) refl a in
    (x, ap (λ o. match_ordering o (get_member k ms) (Some x) (get_member k ms)) same)
found k d (member n x ms) (inr more) =
    elim (slice_cmp nat_cmp k n) as (λ o. (e : Data) × (match_ordering o (get_member k ms) (Some x) (get_member k ms) ≡ Some e)) [
      | Less ↦ found k d ms more
      | Equal ↦ (x, refl)
      | Greater ↦ found k d ms more
    ]

-- ---- an object of the nodes that runs name

module _ (table : SchemaTable) (parent : Option ℕ) (f : Writer) (k : ℕ) where
  -- the member is that of a node that a run names
  pub record IsOf (runs : List (List Row)) (name : List ℕ) (d : Data) : Type 0 where
    pub node : ℕ
    pub run : List Row
    pub there : In run runs
    pub step : step_of k run ≡ Some (Node node)
    pub named : name ≡ member_name table parent node
    pub value : d ≡ f node (k + 1) run

  more_runs : (r : List Row) (runs : List (List Row)) (name : List ℕ) (d : Data) → IsOf runs name d → IsOf (r ∷ runs) name d
  more_runs r runs name d h = record { node = h.node; run = h.run; there = inr h.there; step = h.step; named = h.named; value = h.value }

  abbrev pub build : Members → List (List Row) → Members
  build ms runs = fold (with_run table parent f k) ms runs

  pub of_runs : (runs : List (List Row)) (ms : Members) (name : List ℕ) (d : Data) → Has name d (build ms runs) → Has name d ms ⊎ IsOf runs name d
  of_runs [] ms name d h = inl h
  of_runs (run ∷ runs) ms name d h = by (λ ms h. of_runs runs ms name d h) (step_of k run) refl h
    where
      by : ((ms : Members) → Has name d (build ms runs) → Has name d ms ⊎ IsOf runs name d) → (o : Option Step) → step_of k run ≡ o → Has name d (build (with_member table parent f k ms o run) runs) → Has name d ms ⊎ IsOf (run ∷ runs) name d
      by rest (Some (Node n)) at h = elim (rest (put (member_name table parent n) (f n (k + 1) run) ms) h) [
        | inl before ↦ elim (Has-from_put name d (member_name table parent n) (f n (k + 1) run) ms before) [
          | inl (called, value) ↦ inr (record { node = n; run = run; there = inl refl; step = at; named = called; value = value })
          | inr old ↦ inl old
        ]
        | inr later ↦ inr (more_runs run runs name d later)
      ]
      by rest None at h = elim (rest ms h) [ inl old ↦ inl old | inr later ↦ inr (more_runs run runs name d later) ]
      by rest (Some (Key values)) at h = elim (rest ms h) [ inl old ↦ inl old | inr later ↦ inr (more_runs run runs name d later) ]
      by rest (Some (Item value)) at h = elim (rest ms h) [ inl old ↦ inl old | inr later ↦ inr (more_runs run runs name d later) ]

  stays_named : (runs : List (List Row)) (ms : Members) (name : List ℕ) → IsNamed name ms → IsNamed name (build ms runs)
  stays_named [] ms name h = h
  stays_named (run ∷ runs) ms name h = stays_named runs (with_run table parent f k ms run) name (by (step_of k run))
    where
      by : (o : Option Step) → IsNamed name (with_member table parent f k ms o run)
      by (Some (Node n)) = IsNamed-kept name (member_name table parent n) (f n (k + 1) run) ms h
      by None = h
      by (Some (Key values)) = h
      by (Some (Item value)) = h

  pub each_named : (runs : List (List Row)) (ms : Members) (run : List Row) (n : ℕ) → In run runs → step_of k run ≡ Some (Node n) → IsNamed (member_name table parent n) (build ms runs)
  each_named [] ms run n there at = absurd there
  each_named (r ∷ runs) ms run n (inl e) at =
      let here : step_of k r ≡ Some (Node n) = ap (step_of k) (sym e) ∙ at in
      stays_named runs (with_run table parent f k ms r) (member_name table parent n)
      (subst (λ o. IsNamed (member_name table parent n) (with_member table parent f k ms o r)) (sym here) (IsNamed-put (member_name table parent n) (f n (k + 1) r) ms))
  each_named (r ∷ runs) ms run n (inr h) at = each_named runs (with_run table parent f k ms r) run n h at
