-- If no two statements of a text have the same place, the statement at the place of a row is the row's, and all blocks around it are read.
use Rattle.std.proofs.Common.{◌≡◌, ℕ, zero, suc, ◌+◌, true, ◌==◌, nat_eq, IsTrue, List, [], ◌∷◌, ◌++◌, fold, length, Option, Some, None, refl, sym, ap, subst, ◌∙◌, inl, inr, arith, append_assoc, length-append}
use Rattle.std.specs.Prelude.{option_and_then, is_none, if◌then◌else◌}
use Rattle.std.specs.List.{list_all, flat_map, enumerate_from, slice_get}
use Rattle.std.proofs.lemmas.Bool.Decides.{nat_tests}
use Rattle.sal_stmt.specs.declared.stmt.Stmt.{Stmt, out-Stmt}
use Rattle.sal_module.specs.declared.keyword.Keyword.{Keyword}
use Rattle.sal_module.specs.Keywords.{keyword_of}
use Rattle.sal_module.specs.Places.{find_first}
use Rattle.sal_module.specs.Statements.{subs_of}
use Rattle.sal_grouping.proofs.Parts.{TreeRow}
use Rattle.sal_grouping.specs.Rows.{part_of, row_of, with_row, with_rows, rows_of}
use Rattle.sal_schema.specs.Valid.{all_differ}
use Rattle.sal_schema.proofs.Conjuncts.{and_first, and_second}
use Rattle.sal_typedefs.specs.Scopes.{Site, within, top, place_of, way_to, site_at}
use Rattle.sal_module_table.specs.Types.{is_read}
use Rattle.sal_build.specs.Readable.{places, has_own_places, is_shallow}
use Rattle.sal_build.proofs.Members.{In}
use Rattle.sal_build.proofs.OwnPlaces.{differ-tail, differ-parts, way-any, way-later, way-inside}
use Rattle.sal_build.proofs.OwnStatements.{part-is, not-extension, middle-got, last-got}
use Rattle.sal_build.proofs.ReadSites.{IsReadSite, inner-read}

abbrev Differ : List ℕ → Type 0
Differ numbers = IsTrue (all_differ nat_eq numbers)

places-suc : (levels : ℕ) (stmt : Stmt) → places (suc levels) stmt ≡ (out-Stmt stmt).at ∷ flat_map (places levels) (subs_of stmt)
unfolding places
places-suc levels stmt = refl

abbrev first_way : ℕ → ℕ → Site → List Stmt → Option Site
first_way levels at site subs = find_first (λ sub. way_to levels at (within site sub)) subs

way-itself : (levels : ℕ) (site : Site) → way_to levels (place_of site) site ≡ Some site
way-itself levels site = let here : (place_of site == place_of site) ≡ true = grind (arith, nat_tests) in way-any levels (place_of site) site here

-- ---- rows

pub record HasSite (stmts : List Stmt) (row : TreeRow) : Type 0 where
  pub site : Site
  pub found : site_at stmts row.module row.at ≡ Some site
  pub read : IsReadSite stmts site
  pub opened : IsTrue (is_read site.stmt)

abbrev pub HaveSites : List Stmt → List TreeRow → Type 0
HaveSites stmts rows = (k : ℕ) (row : TreeRow) → slice_get rows k ≡ Some row → HasSite stmts row

part-read : (stmt : Stmt) (keyword : Keyword) → part_of stmt ≡ Some keyword → IsTrue (is_read stmt)
part-read stmt keyword e =
    let known : keyword_of (out-Stmt stmt).keyword ≡ Some keyword = part-is (keyword_of (out-Stmt stmt).keyword) keyword e in
    let plain = not-extension stmt (ap is_none e) in
    rw (known, plain) refl

module _ (stmts : List Stmt) (shallow : IsTrue (list_all (is_shallow 64) stmts)) where
  -- what is found in a statement is found in its module
  abbrev Finds : ℕ → Site → Type 0
  Finds levels site = (at : ℕ) (s : Site) → way_to levels at site ≡ Some s → site_at stmts site.module at ≡ Some s

  row-site : (levels : ℕ) (around : Option ℕ) (rows : List TreeRow) (site : Site) (keyword : Option Keyword) → part_of site.stmt ≡ keyword → IsReadSite stmts site
      → ((at : ℕ) (s : Site) → way_to levels at site ≡ Some s → site_at stmts site.module at ≡ Some s) → HaveSites stmts rows → HaveSites stmts (with_row site.module around rows site.stmt keyword)
  row-site levels around rows site None e read finds have = have
  row-site levels around rows site (Some keyword) e read finds have =
      last-got (HasSite stmts) rows (row_of site.module around site.stmt keyword) have (record {
        site = site;
        found = finds (place_of site) site (way-itself levels site);
        read = read;
        opened = part-read site.stmt keyword e;
      })

  fold-sites : (levels : ℕ) (site : Site) (around : Option ℕ)
      → ((rows : List TreeRow) (sub : Stmt) → IsReadSite stmts (within site sub) → Differ (places levels sub) → ((at : ℕ) (s : Site) → way_to levels at (within site sub) ≡ Some s → site_at stmts site.module at ≡ Some s)
      → HaveSites stmts rows → HaveSites stmts (with_rows levels site.module around rows sub))
      → (rows : List TreeRow) (subs : List Stmt) → ((sub : Stmt) → In sub subs → IsReadSite stmts (within site sub)) → Differ (flat_map (places levels) subs)
      → ((at : ℕ) (s : Site) → first_way levels at site subs ≡ Some s → site_at stmts site.module at ≡ Some s) → HaveSites stmts rows
      → HaveSites stmts (fold (λ front sub. with_rows levels site.module around front sub) rows subs)
  fold-sites levels site around each rows [] read differ finds have = have
  fold-sites levels site around each rows (sub ∷ subs) read differ finds have =
      let (first, later) = differ-parts (places levels sub) (flat_map (places levels) subs) differ in
      fold-sites levels site around each (with_rows levels site.module around rows sub) subs (λ other i. read other (inr i)) later (λ at s e. finds at s (way-later levels at site s sub subs differ e))
      (each rows sub (read sub (inl refl)) first (λ at s e. finds at s (rw e refl)) have)

  more-sites : (levels : ℕ) (around : Option ℕ) (rows : List TreeRow) (site : Site) → IsReadSite stmts site → Differ (places levels site.stmt)
      → ((at : ℕ) (s : Site) → way_to levels at site ≡ Some s → site_at stmts site.module at ≡ Some s) → HaveSites stmts rows → HaveSites stmts (with_rows levels site.module around rows site.stmt)
  unfolding with_rows
  more-sites zero around rows site read differ finds have = row-site 0 around rows site (part_of site.stmt) refl read finds have
  more-sites (suc levels) around rows site read differ finds have =
      elim (part_of site.stmt) as (λ p. part_of site.stmt ≡ p
      → HaveSites stmts (if is_none p then rows else fold (λ below sub. with_rows levels site.module (Some (length rows)) below sub) (with_row site.module around rows site.stmt p) (subs_of site.stmt))) [
        | None ↦ λ e. have
        | Some keyword ↦ λ e.
            let opened = part-read site.stmt keyword e in
            let apart : Differ ((out-Stmt site.stmt).at ∷ flat_map (places levels) (subs_of site.stmt)) = subst Differ (places-suc levels site.stmt) differ in
            fold-sites levels site (Some (length rows)) (λ front sub inner own found. more-sites levels (Some (length rows)) front (within site sub) inner own found)
            (with_row site.module around rows site.stmt (Some keyword)) (subs_of site.stmt) (λ sub i. inner-read stmts shallow site sub read opened i)
            (differ-tail (out-Stmt site.stmt).at (flat_map (places levels) (subs_of site.stmt)) apart) (λ at s found. finds at s (way-inside levels at site s apart found))
            (row-site (suc levels) around rows site (Some keyword) e read finds have)
      ] refl

  -- ---- of all modules

  rows-sites : (done rest : List Stmt) (n : ℕ) (rows : List TreeRow) → n ≡ length done → stmts ≡ done ++ rest → IsTrue (list_all has_own_places rest) → HaveSites stmts rows
      → HaveSites stmts (fold (λ rows (e : ℕ × Stmt). with_rows 64 e.0 None rows e.1) rows (enumerate_from n rest))
  rows-sites done [] n rows count is placed have = have
  rows-sites done (stmt ∷ rest) n rows count is placed have =
      let own = and_first (has_own_places stmt) (list_all has_own_places rest) placed in
      let later = and_second (has_own_places stmt) (list_all has_own_places rest) placed in
      let got : slice_get stmts n ≡ Some stmt = ap (λ (xs : List Stmt). slice_get xs n) is ∙ middle-got done rest stmt n count in
      let whole = λ (at : ℕ). ap (option_and_then (λ (stmt : Stmt). way_to 64 at (top n stmt))) got in
      rows-sites (done ++ stmt ∷ []) rest (n + 1) (with_rows 64 n None rows stmt) (omega (arith, count, length-append done (stmt ∷ []))) (is ∙ sym (append_assoc done (stmt ∷ []) rest)) later
      (more-sites 64 None rows (top n stmt) (record { levels = 64; at = (refl, got) }) own (λ at s e. whole at ∙ e) have)

pub own-sites : (stmts : List Stmt) → IsTrue (list_all (is_shallow 64) stmts) → IsTrue (list_all has_own_places stmts) → HaveSites stmts (rows_of stmts)
own-sites stmts shallow placed = rows-sites stmts shallow [] stmts 0 [] refl refl placed (λ k row e. absurd (nothing row e))
  where
    nothing : (row : TreeRow) → ◌≡◌ {A = Option TreeRow} None (Some row) → ⊥
    nothing row e = cc
