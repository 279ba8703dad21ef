-- The tree as it grows, from one node to the next.
use Rattle.std.proofs.Common.{◌≡◌, ℕ, zero, suc, ◌+◌, ◌-◌, ◌*◌, ◌<◌, ◌≤◌, inl, inr, List, [], ◌∷◌, ◌++◌, fold, length, drop, get_or, Option, Some, None, refl, sym, ap, ◌∙◌, arith, length-append}
use Rattle.std.specs.Prelude.{Vec}
use Rattle.std.proofs.lemmas.List.{drop_more}
use Rattle.std.specs.declared.alloc.Global.{Global}
use Rattle.sal_grouping.specs.declared.rows.Row.{Row}
use Rattle.sal_grouping.specs.declared.node.Node.{Node}
use Rattle.sal_grouping.specs.declared.grow.Frame.{Frame}
use Rattle.sal_grouping.specs.Growth.{Seed, node_of, below, grow, grown, nodes_in, nodes_within, seeds_in, in_choice, plain, trees_until, module_grown}
use Rattle.sal_stmt.specs.declared.stmt.Stmt.{Stmt}
use Rattle.sal_module.specs.declared.keyword.Keyword.{Keyword}
use Rattle.sal_module.specs.declared.keyword.Keyword.TheVariants.{Choice}
use Rattle.sal_grouping.proofs.VisitLists.{nodes-none}
use Rattle.std.proofs.lemmas.Bool.{cases_lt}
use Rattle.std.proofs.lemmas.List.{length-map}
use Rattle.sal_grouping.specs.Rows.{top_of}
use Rattle.sal_grouping.specs.Frames.{with_seed, with_frame, with_frames}

drop-past : {X : Type 0} (xs : List X) (i : ℕ) → length xs ≤ i → drop i xs ≡ []
drop-past [] zero h = refl
drop-past [] (suc i) h = refl
drop-past (x ∷ xs) zero h = absurd (omega arith)
drop-past (x ∷ xs) (suc i) h = drop-past xs i (omega arith)

module _ (rows : List Row) (named : List (Option ℕ)) (owner : ℕ) where
  pub grow-none : (parent : Option ℕ) (forest : List Node) (seeds : List Seed) → grow 0 rows named owner parent forest seeds ≡ forest
  unfolding grow
  grow-none parent forest seeds = refl

  grow-suc : (n : ℕ) (parent : Option ℕ) (forest : List Node) (seeds : List Seed) → grow (suc n) rows named owner parent forest seeds ≡ fold (with_seed n rows named owner parent) forest seeds
  unfolding grow
  grow-suc n parent forest seeds = refl

  pub grow-more : (n : ℕ) (parent : Option ℕ) (forest : List Node) (seeds : List Seed) → 0 < n → grow n rows named owner parent forest seeds ≡ fold (with_seed (n - 1) rows named owner parent) forest seeds
  grow-more zero parent forest seeds h = absurd (omega arith)
  grow-more (suc n) parent forest seeds h = let less : suc n - 1 ≡ n = omega arith in rw less (grow-suc n parent forest seeds)

  -- ---- it grows only at its end

  fold-length : (step : List Node → Seed → List Node) → ((forest : List Node) (seed : Seed) → length forest + 1 ≤ length (step forest seed)) → (forest : List Node) (seeds : List Seed)
      → length forest + length seeds ≤ length (fold step forest seeds)
  fold-length step more forest [] = omega arith
  fold-length step more forest (seed ∷ seeds) = omega (arith, more forest seed, fold-length step more (step forest seed) seeds)

  grow-length : (n : ℕ) (parent : Option ℕ) (forest : List Node) (seeds : List Seed) → length forest ≤ length (grow n rows named owner parent forest seeds)
  grow-length zero parent forest seeds = rw (grow-none parent forest seeds) (omega arith)
  grow-length (suc n) parent forest seeds =
      let each : (f : List Node) (seed : Seed) → length f + 1 ≤ length (with_seed n rows named owner parent f seed) =
      λ f seed. omega (arith, length-append f (node_of owner parent seed ∷ []), grow-length n (Some (length f)) (f ++ node_of owner parent seed ∷ []) (below rows named seed)) in
      rw (grow-suc n parent forest seeds) (omega (arith, fold-length (with_seed n rows named owner parent) each forest seeds))

  seed-length : (n : ℕ) (parent : Option ℕ) (forest : List Node) (seed : Seed) → length forest + 1 ≤ length (with_seed n rows named owner parent forest seed)
  seed-length n parent forest seed =
      omega (arith, length-append forest (node_of owner parent seed ∷ []), grow-length n (Some (length forest)) (forest ++ node_of owner parent seed ∷ []) (below rows named seed))

  steps-length : (n : ℕ) (parent : Option ℕ) (forest : List Node) (seeds : List Seed) → length forest + length seeds ≤ length (fold (with_seed n rows named owner parent) forest seeds)
  steps-length n parent forest seeds = fold-length (with_seed n rows named owner parent) (seed-length n parent) forest seeds

  pub frames-length : (frames : List Frame) (forest : List Node) → length forest ≤ length (with_frames rows named owner frames forest)
  frames-length [] forest = omega arith
  frames-length (frame ∷ frames) forest =
      omega (arith, frames-length frames forest, steps-length frame.levels frame.parent (with_frames rows named owner frames forest) (drop frame.next frame.seeds.items))

  -- ---- frames

  pub frames-last : (frames : List Frame) (frame : Frame) (forest : List Node) → with_frames rows named owner (frames ++ frame ∷ []) forest ≡ with_frames rows named owner frames (with_frame rows named owner frame forest)
  frames-last [] frame forest = refl
  frames-last (f ∷ frames) frame forest = ap (with_frame rows named owner f) (frames-last frames frame forest)

  pub frames-one : (empty pushed : List Frame) (frame : Frame) (forest : List Node) → empty ≡ [] → pushed ≡ empty ++ frame ∷ [] → with_frames rows named owner pushed forest ≡ with_frame rows named owner frame forest
  frames-one empty pushed frame forest none push =
      ap (λ fs. with_frames rows named owner fs forest) (push ∙ ap (λ fs. fs ++ frame ∷ []) none)

  pub frame-whole : (n : ℕ) (parent : Option ℕ) (seeds : Vec Seed Global) (forest : List Node) → 0 < n
      → with_frame rows named owner (record { parent = parent; seeds = seeds; next = 0; levels = n - 1 }) forest ≡ grow n rows named owner parent forest seeds.items
  frame-whole n parent seeds forest h = sym (grow-more n parent forest seeds.items h)

  pub frame-done : (frame : Frame) (forest : List Node) → length frame.seeds.items ≤ frame.next → with_frame rows named owner frame forest ≡ forest
  frame-done frame forest h = rw (drop-past frame.seeds.items frame.next h) refl

  pub frame-next : (frame : Frame) (forest : List Node) (seed : Seed) → frame.next < length frame.seeds.items → seed ≡ get_or frame.seeds.items frame.next seed
      → with_frame rows named owner frame forest
      ≡ with_frame rows named owner (record { parent = frame.parent; seeds = frame.seeds; next = frame.next + 1; levels = frame.levels }) (with_seed frame.levels rows named owner frame.parent forest seed)
  frame-next frame forest seed h is =
      ap (fold (with_seed frame.levels rows named owner frame.parent) forest) (drop_more frame.seeds.items frame.next seed h)
      ∙ ap (λ s. fold (with_seed frame.levels rows named owner frame.parent) (with_seed frame.levels rows named owner frame.parent forest s) (drop (frame.next + 1) frame.seeds.items)) (sym is)

  -- children past the limit
  pub seed-many : (n limit : ℕ) (parent : Option ℕ) (forest : List Node) (seed : Seed) → 0 < n → limit < length (below rows named seed) → limit < length (with_seed n rows named owner parent forest seed)
  seed-many n limit parent forest seed h many =
      let start = forest ++ node_of owner parent seed ∷ [] in
      rw (grow-more n (Some (length forest)) start (below rows named seed) h) (omega (arith, steps-length (n - 1) (Some (length forest)) start (below rows named seed)))

  pub frame-length : (frame : Frame) (forest : List Node) → length forest ≤ length (with_frame rows named owner frame forest)
  frame-length frame forest = omega (arith, steps-length frame.levels frame.parent forest (drop frame.next frame.seeds.items))

  -- ---- one node

  module _ (frames pushed : List Frame) (frame : Frame) (forest next : List Node) (seed : Seed) (number : ℕ) (within : frame.next < length frame.seeds.items)
      (is : seed ≡ get_or frame.seeds.items frame.next seed) (num : number ≡ length forest) (put : next ≡ forest ++ node_of owner frame.parent seed ∷ [])
      (push : pushed ≡ frames ++ record { parent = frame.parent; seeds = frame.seeds; next = frame.next + 1; levels = frame.levels } ∷ []) where
    abbrev after : Frame
    after = record { parent = frame.parent; seeds = frame.seeds; next = frame.next + 1; levels = frame.levels }

    seeded : grow frame.levels rows named owner (Some number) next (below rows named seed) ≡ with_seed frame.levels rows named owner frame.parent forest seed
    seeded = ap (λ n. grow frame.levels rows named owner (Some n) next (below rows named seed)) num
        ∙ ap (λ f. grow frame.levels rows named owner (Some (length forest)) f (below rows named seed)) put

    pub step-few : (later : List Frame) → with_frames rows named owner later next ≡ with_frames rows named owner pushed (grow frame.levels rows named owner (Some number) next (below rows named seed))
        → with_frames rows named owner later next ≡ with_frames rows named owner frames (with_frame rows named owner frame forest)
    step-few later so =
        so ∙ ap (with_frames rows named owner pushed) seeded ∙ ap (λ fs. with_frames rows named owner fs (with_seed frame.levels rows named owner frame.parent forest seed)) push
        ∙ frames-last frames after (with_seed frame.levels rows named owner frame.parent forest seed)
        ∙ ap (with_frames rows named owner frames) (sym (frame-next frame forest seed within is))

    pub step-many : 0 < frame.levels → (limit : ℕ) → limit < length (below rows named seed) → limit < length (with_frames rows named owner frames (with_frame rows named owner frame forest))
    step-many h limit many =
        let one = with_seed frame.levels rows named owner frame.parent forest seed in
        rw (frame-next frame forest seed within is)
        (omega (arith, seed-many frame.levels limit frame.parent forest seed h many, frame-length after one, frames-length frames (with_frame rows named owner after one)))

  -- ---- past the limit

  pub nodes-empty : (b : ℕ) → length rows ≡ 0 → nodes_in rows named b ≡ []
  nodes-empty b none = ap (λ n. nodes_within n rows named b) none ∙ nodes-none rows named b

  pub grown-length : (parent : Option ℕ) (forest : List Node) (seeds : List Seed) → length forest ≤ length (grown rows named owner parent forest seeds)
  grown-length parent forest seeds = grow-length (2 * length rows) parent forest seeds

  grown-many : (parent : Option ℕ) (forest : List Node) (seeds : List Seed) → 0 < length rows → length seeds ≤ length (grown rows named owner parent forest seeds)
  grown-many parent forest seeds h =
      let more : 0 < 2 * length rows = omega arith in
      rw (grow-more (2 * length rows) parent forest seeds more) (omega (arith, steps-length (2 * length rows - 1) parent forest seeds))

  seeds-length : (kind : Option Keyword) (b : ℕ) → length (seeds_in rows named kind b) ≡ length (nodes_in rows named b)
  seeds-length None b = length-map (nodes_in rows named b) plain
  seeds-length (Some k) b = by_kind k
    where
      by_kind : (k : Keyword) → length (seeds_in rows named (Some k) b) ≡ length (nodes_in rows named b)
      by_kind Choice = length-map (nodes_in rows named b) (in_choice rows)
      by_kind other = length-map (nodes_in rows named b) plain

  pub seeds-many : (kind : Option Keyword) (b : ℕ) (parent : Option ℕ) (forest : List Node) → 65536 < length (seeds_in rows named kind b) → 65536 < length (grown rows named owner parent forest (seeds_in rows named kind b))
  seeds-many kind b parent forest many = elim (cases_lt 0 (length rows)) [
    | inl some ↦ omega (arith, grown-many parent forest (seeds_in rows named kind b) some)
    | inr none ↦
        let empty : length (nodes_in rows named b) ≡ 0 = ap length (nodes-empty b (omega arith)) in
        absurd (omega (arith, seeds-length kind b))
  ]

  -- ---- one module after another

  module _ (stmts : List Stmt) where
    pub trees-none : trees_until 0 stmts rows named ≡ []
    unfolding trees_until
    trees-none = refl

    trees-suc : (m : ℕ) → trees_until (suc m) stmts rows named ≡ module_grown stmts rows named (trees_until m stmts rows named) m
    unfolding trees_until
    trees-suc m = refl

    pub trees-more : (m : ℕ) → trees_until (m + 1) stmts rows named ≡ module_grown stmts rows named (trees_until m stmts rows named) m
    trees-more m = let next : m + 1 ≡ suc m = omega arith in rw next (trees-suc m)

-- later modules take no node away
pub trees-length : (rows : List Row) (named : List (Option ℕ)) (stmts : List Stmt) (m j : ℕ) → length (trees_until m stmts rows named) ≤ length (trees_until (m + j) stmts rows named)
trees-length rows named stmts m zero = let none : m + 0 ≡ m = omega arith in rw none (omega arith)
trees-length rows named stmts m (suc j) =
    let more : m + suc j ≡ m + j + 1 = omega arith in
    rw (more, trees-more rows named 0 stmts (m + j))
    (omega (arith, trees-length rows named stmts m j, grown-length rows named (m + j) None (trees_until (m + j) stmts rows named) (seeds_in rows named None (top_of stmts (m + j)))))

pub trees-past : (rows : List Row) (named : List (Option ℕ)) (stmts : List Stmt) (m : ℕ) → m < length stmts → 65536 < length (module_grown stmts rows named (trees_until m stmts rows named) m)
    → 65536 < length (trees_until (length stmts) stmts rows named)
trees-past rows named stmts m h past =
    let there : m + 1 + (length stmts - (m + 1)) ≡ length stmts = omega arith in
    let here = ap length (trees-more rows named 0 stmts m) in
    let last = ap (λ n. length (trees_until n stmts rows named)) there in
    omega (arith, trees-length rows named stmts (m + 1) (length stmts - (m + 1)), here, last, past)
