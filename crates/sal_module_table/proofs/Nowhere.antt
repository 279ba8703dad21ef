-- Without leafrefs there are no edges and no faults of leafrefs.
use Rattle.std.proofs.Common.{◌≡◌, ℕ, ◌+◌, ◌<◌, List, [], ◌∷◌, ◌++◌, length, map, take, get_or, true, false, None, refl, sym, ap, ◌∙◌, inl, inr}
use Rattle.std.specs.List.{flat_map, list_any}
use Rattle.std.specs.Option.{option_to_list}
use Rattle.std.specs.declared.alloc.Global.{Global}
use Rattle.std.specs.declared.vec.Vec.{Vec}
use Rattle.std.proofs.lemmas.Bool.{cases_Bool}
use Rattle.std.proofs.lemmas.List.{map-append, take_more}
use Rattle.sal_stmt.specs.declared.stmt.Stmt.{Stmt}
use Rattle.sal_grouping.specs.declared.forest.Branch.{Branch}
use Rattle.sal_grouping.specs.Indexes.{lists}
use Rattle.sal_grouping.proofs.Places.{numbered}
use Rattle.sal_module_table.specs.Leafrefs.{Reference, references_at, target_of, targets_of, leafref_faults, node_faults, is_some_reference, no_targets}

none-here : (refs : List Reference) → is_some_reference refs ≡ false → refs ≡ []
none-here [] e = refl
none-here (one ∷ more) e = cc

module _ (stmts : List Stmt) (forest : List Branch) where
  first-none : (b : Branch) (some : List Branch) → list_any is_some_reference (map (references_at stmts) (b ∷ some)) ≡ false
      → (references_at stmts b ≡ []) × (list_any is_some_reference (map (references_at stmts) some) ≡ false)
  first-none b some e = elim (cases_Bool (is_some_reference (references_at stmts b))) [
    | inl t ↦ (let no = rw t at e in cc)
    | inr f ↦ (none-here (references_at stmts b) f, rw f at e)
  ]

  pub no-edges : (n : ℕ) (some : List Branch) → list_any is_some_reference (map (references_at stmts) some) ≡ false
      → numbered (λ k b. targets_of stmts forest k b ∷ []) n some ≡ map no_targets some
  no-edges n [] e = refl
  no-edges n (b ∷ some) e =
      let (none, rest) = first-none b some e in
      ap (λ refs. flat_map (λ one. option_to_list (target_of stmts forest n b one)) refs ∷ numbered (λ k b. targets_of stmts forest k b ∷ []) (n + 1) some) none
      ∙ ap (λ (more : List (List ℕ)). [] ∷ more) (no-edges (n + 1) some rest)

  pub no-faults : (edges : List (List ℕ)) (n : ℕ) (some : List Branch) → list_any is_some_reference (map (references_at stmts) some) ≡ false
      → numbered (node_faults stmts forest edges) n some ≡ []
  no-faults edges n [] e = refl
  no-faults edges n (b ∷ some) e =
      let (none, rest) = first-none b some e in
      ap (λ refs. flat_map (leafref_faults stmts forest edges n b) refs ++ numbered (node_faults stmts forest edges) (n + 1) some) none ∙ no-faults edges (n + 1) some rest

-- ---- no targets for one node more

some-node : Branch
some-node = record { parent = None; «module» = 0; source = 0; at = 0; implied = None }

pub none-more : (forest : List Branch) (i : ℕ) (old new : List (Vec ℕ Global)) (v : Vec ℕ Global) → i < length forest → lists old ≡ map no_targets (take i forest)
    → new ≡ old ++ v ∷ [] → v.items ≡ [] → lists new ≡ map no_targets (take (i + 1) forest)
none-more forest i old new v h so_far put empty =
    ap lists put ∙ map-append (λ (w : Vec ℕ Global). w.items) old (v ∷ [])
    ∙ ap (λ (items : List ℕ). lists old ++ items ∷ []) empty
    ∙ ap (λ (front : List (List ℕ)). front ++ [] ∷ []) so_far
    ∙ sym (ap (map no_targets) (take_more forest i some-node h) ∙ map-append no_targets (take i forest) (get_or forest i some-node ∷ []))
