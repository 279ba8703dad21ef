-- Where each statement has a place of its own, the statement at the place of a row is its own, and the profile found nothing there, nor around it.
use Rattle.std.proofs.Common.{◌≡◌, ℕ, zero, suc, ◌+◌, ◌-◌, Bool, true, false, not, ◌==◌, nat_eq, IsTrue, List, [], ◌∷◌, ◌++◌, fold, length, Option, Some, None, refl, sym, ap, ◌∙◌, subst, inl, inr, arith, append_assoc, length-append}
use Rattle.std.specs.Prelude.{⊤, option_and_then, is_none}
use Rattle.std.specs.List.{list_all, flat_map, enumerate_from, slice_get}
use Rattle.std.proofs.lemmas.Bool.{cases_Bool}
use Rattle.std.proofs.lemmas.Bool.Decides.{nat_tests}
use Rattle.sal_stmt.specs.declared.stmt.Stmt.{Stmt, out-Stmt}
use Rattle.sal_module.specs.declared.keyword.Keyword.{Keyword}
use Rattle.sal_module.specs.declared.keyword.Keyword.TheVariants as word
use Rattle.sal_module.specs.Keywords.{Word, same, word_of, keyword_of, keyword_among, words}
use Rattle.sal_module.specs.Modules.{stmt_at}
use Rattle.sal_module.specs.Places.{find_first}
use Rattle.sal_module.specs.Profile.{is_prefixed, allows, is_judged, sub_faults, argument_faults, left_out_faults, entry_faults, type_faults, block_faults, level_faults, tree_faults, module_faults}
use Rattle.sal_module.specs.Statements.{is_named, subs_of, argument_of}
use Rattle.sal_module.specs.Table.{rule_of}
use Rattle.sal_module.proofs.Levels.{tree_faults-last, tree_faults-more, below}
use Rattle.sal_grouping.proofs.Parts.{TreeRow}
use Rattle.sal_grouping.specs.Rows.{is_part, part_of, part_among, row_of, with_row, with_rows, rows_of}
use Rattle.sal_schema.specs.Valid.{all_differ}
use Rattle.sal_schema.proofs.Conjuncts.{and_first, and_second}
use Rattle.sal_typedefs.specs.Scopes.{Site, top, way_to, site_at}
use Rattle.sal_build.specs.Readable.{places, has_own_places}
use Rattle.sal_build.proofs.Distinct.{true-is}
use Rattle.sal_module.proofs.Initials.{same-text}
use Rattle.sal_build.proofs.OwnPlaces.{differ-tail, differ-parts, way-any, site-stmt, way-later, way-inside}
use Rattle.sal_build.proofs.NamedModules.{rule-named}
use Rattle.sal_build.proofs.Quiet.{front-nil}

-- ---- keywords

unprefixed-among : (all : List Word) (text : List ℕ) (keyword : Keyword) → IsTrue (list_all (λ (w : Word). not (is_prefixed w.0)) all) → keyword_among all text ≡ Some keyword → is_prefixed text ≡ false
unprefixed-among [] text keyword h e = cc
unprefixed-among (w ∷ all) text keyword h e = elim (cases_Bool (same w.0 text)) [
  | inl t ↦ ap is_prefixed (sym (same-text w.0 text t)) ∙ true-is (is_prefixed w.0) (and_first (not (is_prefixed w.0)) (list_all (λ (v : Word). not (is_prefixed v.0)) all) h)
  | inr f ↦ unprefixed-among all text keyword (and_second (not (is_prefixed w.0)) (list_all (λ (v : Word). not (is_prefixed v.0)) all) h) (rw f at e)
]

-- a keyword of the profile has no prefix
unprefixed : (text : List ℕ) (keyword : Keyword) → keyword_of text ≡ Some keyword → is_prefixed text ≡ false
unfolding keyword_of words
unprefixed text keyword e = unprefixed-among words text keyword refl e

pub part-is : (o : Option Keyword) (keyword : Keyword) → part_among o ≡ Some keyword → o ≡ Some keyword
part-is None keyword e = cc
part-is (Some other) keyword e = elim (cases_Bool (is_part other)) [ inl t ↦ rw t at e | inr f ↦ (let no = rw f at e in cc) ]

extension-part : is_none (part_among (keyword_of (word_of word.Extension))) ≡ true
unfolding keyword_of word_of words
extension-part = refl

pub not-extension : (stmt : Stmt) → is_none (part_of stmt) ≡ false → is_named word.Extension stmt ≡ false
not-extension stmt e = elim (cases_Bool (is_named word.Extension stmt)) [
  | inl t ↦
      let is : is_none (part_of stmt) ≡ is_none (part_among (keyword_of (word_of word.Extension))) = ap (λ w. is_none (part_among (keyword_of w))) (rule-named word.Extension stmt t) in
      absurd (let no : true ≡ false = sym extension-part ∙ sym is ∙ e in cc)
  | inr f ↦ f
]

-- ---- the faults of the profile in a block

pub block-quiet : (m : ℕ) (stmt : Stmt) → is_named word.Extension stmt ≡ false → level_faults m stmt ≡ [] → block_faults m stmt (rule_of (out-Stmt stmt).keyword) ≡ []
unfolding level_faults
block-quiet m stmt plain e =
    let rule = rule_of (out-Stmt stmt).keyword in
    let (fronts, block) = front-nil (argument_faults m stmt rule ++ left_out_faults m stmt) _ e in
    rw plain at block

pub subs-quiet : (m : ℕ) (stmt : Stmt) → is_named word.Extension stmt ≡ false → level_faults m stmt ≡ [] → flat_map (sub_faults m stmt (rule_of (out-Stmt stmt).keyword)) (subs_of stmt) ≡ []
subs-quiet m stmt plain e =
    let rule = rule_of (out-Stmt stmt).keyword in
    let (front, types) = front-nil (flat_map (entry_faults m stmt) rule.entries ++ flat_map (sub_faults m stmt rule) (subs_of stmt)) (type_faults m stmt) (block-quiet m stmt plain e) in
    let (entries, subs) = front-nil (flat_map (entry_faults m stmt) rule.entries) (flat_map (sub_faults m stmt rule) (subs_of stmt)) front in
    subs

-- nothing found at more levels: nothing at the statement, and nothing below
pub split-quiet : (m levels : ℕ) (stmt : Stmt) → tree_faults m (suc levels) stmt ≡ [] → (level_faults m stmt ≡ []) × (flat_map (below m levels stmt) (subs_of stmt) ≡ [])
split-quiet m levels stmt quiet =
    let less : suc levels - 1 ≡ levels = omega arith in
    let more : (suc levels == 0) ≡ false = grind (arith, nat_tests) in
    front-nil (level_faults m stmt) (flat_map (below m levels stmt) (subs_of stmt))
    (ap (λ n. level_faults m stmt ++ flat_map (below m n stmt) (subs_of stmt)) (sym less) ∙ sym (tree_faults-more m (suc levels) stmt more) ∙ quiet)

pub sub-judged : (m : ℕ) (parent sub : Stmt) → is_named word.Extension parent ≡ false → is_none (part_of sub) ≡ false → sub_faults m parent (rule_of (out-Stmt parent).keyword) sub ≡ [] → is_judged parent sub ≡ true
sub-judged m parent sub plain part e =
    elim (part_of sub) as (λ p. part_of sub ≡ p → is_none p ≡ false → is_judged parent sub ≡ true) [
      | None ↦ λ at no. absurd (let wrong : true ≡ false = no in cc)
      | Some keyword ↦ λ at some.
          let bare = unprefixed (out-Stmt sub).keyword keyword (part-is (keyword_of (out-Stmt sub).keyword) keyword at) in
          elim (cases_Bool (allows (rule_of (out-Stmt parent).keyword) (out-Stmt sub).keyword)) [
            | inl t ↦ rw (bare, t, plain) refl
            | inr f ↦ (let no = rw (bare, f) at e in cc)
          ]
    ] refl part

-- ---- rows

-- a statement that is not an extension, without fault in the profile; `deep` holds at this many levels above the last one
pub record IsSound (deep : ℕ → Stmt → Bool) (m : ℕ) (stmt : Stmt) : Type 0 where
  pub levels : ℕ
  pub quiet : tree_faults m levels stmt ≡ []
  pub depth : deep levels stmt ≡ true
  pub plain : is_named word.Extension stmt ≡ false

abbrev pub AreSound : (ℕ → Stmt → Bool) → ℕ → List Stmt → Type 0
AreSound deep m [] = ⊤
AreSound deep m (stmt ∷ stmts) = IsSound deep m stmt × AreSound deep m stmts

pub record IsOwn (stmts : List Stmt) (row : TreeRow) : Type 0 where
  pub stmt : Stmt
  pub found : stmt_at stmts row.module row.at ≡ Some stmt
  pub keyword : keyword_of (out-Stmt stmt).keyword ≡ Some row.keyword
  pub part : is_none (part_of stmt) ≡ false
  pub name : argument_of stmt ≡ row.name
  pub good : level_faults row.module stmt ≡ []

-- with the statements around it
pub record IsSited (deep : ℕ → Stmt → Bool) (stmts : List Stmt) (row : TreeRow) : Type 0 where
  pub own : IsOwn stmts row
  pub site : Site
  pub found : site_at stmts row.module row.at ≡ Some site
  pub sound : AreSound deep site.module (site.stmt ∷ site.around)

abbrev pub AreSited : (ℕ → Stmt → Bool) → List Stmt → List TreeRow → Type 0
AreSited deep stmts rows = (k : ℕ) (row : TreeRow) → slice_get rows k ≡ Some row → IsSited deep stmts row

abbrev pub AreOwn : List Stmt → List TreeRow → Type 0
AreOwn stmts rows = (k : ℕ) (row : TreeRow) → slice_get rows k ≡ Some row → IsOwn stmts row

pub last-got : {X : Type 0} (P : X → Type 0) (xs : List X) (x : X) → ((k : ℕ) (y : X) → slice_get xs k ≡ Some y → P y) → P x → (k : ℕ) (y : X) → slice_get (xs ++ x ∷ []) k ≡ Some y → P y
last-got P [] x each h zero y e = let is : x ≡ y = cc in subst P is h
last-got P [] x each h (suc k) y e = cc
last-got P (z ∷ xs) x each h zero y e = each 0 y e
last-got P (z ∷ xs) x each h (suc k) y e = last-got P xs x (λ j w f. each (suc j) w f) h k y e

-- what holds of a statement a level above the last one holds of those in its block
abbrev pub GoesDown : (ℕ → Stmt → Bool) → Type 0
GoesDown deep = (levels : ℕ) (stmt : Stmt) → deep (suc levels) stmt ≡ true → IsTrue (list_all (deep levels) (subs_of stmt))

module _ (deep : ℕ → Stmt → Bool) (down : GoesDown deep) (stmts : List Stmt) (m : ℕ) where
  abbrev here : List Stmt → Stmt → Site
  here blocks stmt = record { «module» = m; stmt = stmt; around = blocks }

  abbrev Finds : ℕ → List Stmt → Stmt → Type 0
  Finds levels blocks stmt = (at : ℕ) (s : Site) → way_to levels at (here blocks stmt) ≡ Some s → site_at stmts m at ≡ Some s

  own-row : (levels : ℕ) (around : Option ℕ) (rows : List TreeRow) (blocks : List Stmt) (stmt : Stmt) (keyword : Option Keyword) → part_of stmt ≡ keyword → Finds levels blocks stmt
      → (is_none keyword ≡ false → (level_faults m stmt ≡ []) × IsSound deep m stmt) → AreSound deep m blocks → AreSited deep stmts rows → AreSited deep stmts (with_row m around rows stmt keyword)
  own-row levels around rows blocks stmt None e finds good outer own = own
  own-row levels around rows blocks stmt (Some keyword) e finds good outer own =
      let at = (out-Stmt stmt).at in
      let same : (at == at) ≡ true = grind (arith, nat_tests) in
      let found = finds at (here blocks stmt) (way-any levels at (here blocks stmt) same) in
      let (level, sound) = good refl in
      last-got (IsSited deep stmts) rows (row_of m around stmt keyword) own (record {
        own = record {
          stmt = stmt;
          found = site-stmt stmts m at (here blocks stmt) found;
          keyword = part-is (keyword_of (out-Stmt stmt).keyword) keyword e;
          part = ap is_none e;
          name = refl;
          good = level;
        };
        site = here blocks stmt;
        found = found;
        sound = (sound, outer);
      })

  abbrev Walks : ℕ → List Stmt → Option ℕ → Type 0
  Walks levels blocks around =
      (rows : List TreeRow) (sub : Stmt) → IsTrue (all_differ nat_eq (places levels sub)) → IsTrue (deep levels sub) → (is_none (part_of sub) ≡ false → tree_faults m levels sub ≡ [])
      → Finds levels blocks sub → AreSited deep stmts rows → AreSited deep stmts (with_rows levels m around rows sub)

  fold-own : (levels : ℕ) (parent : Stmt) (blocks : List Stmt) (around : Option ℕ) → is_named word.Extension parent ≡ false
      → Walks levels (parent ∷ blocks) around
      → (rows : List TreeRow) (subs : List Stmt) → IsTrue (all_differ nat_eq (flat_map (places levels) subs)) → IsTrue (list_all (deep levels) subs)
      → flat_map (sub_faults m parent (rule_of (out-Stmt parent).keyword)) subs ≡ [] → flat_map (below m levels parent) subs ≡ []
      → ((at : ℕ) (s : Site) → find_first (λ sub. way_to levels at (here (parent ∷ blocks) sub)) subs ≡ Some s → site_at stmts m at ≡ Some s) → AreSited deep stmts rows
      → AreSited deep stmts (fold (λ front sub. with_rows levels m around front sub) rows subs)
  fold-own levels parent blocks around plain each rows [] differ depth allowed quiet finds own = own
  fold-own levels parent blocks around plain each rows (sub ∷ subs) differ depth allowed quiet finds own =
      let (first, others) = front-nil (sub_faults m parent (rule_of (out-Stmt parent).keyword) sub) (flat_map (sub_faults m parent (rule_of (out-Stmt parent).keyword)) subs) allowed in
      let (level, rest) = front-nil (below m levels parent sub) (flat_map (below m levels parent) subs) quiet in
      let (one, later) = differ-parts (places levels sub) (flat_map (places levels) subs) differ in
      let judged = λ (some : is_none (part_of sub) ≡ false). (rw (sub-judged m parent sub plain some first) at level) in
      fold-own levels parent blocks around plain each (with_rows levels m around rows sub) subs later (and_second (deep levels sub) (list_all (deep levels) subs) depth) others rest
      (λ at s e. finds at s (way-later levels at (here blocks parent) s sub subs differ e))
      (each rows sub one (and_first (deep levels sub) (list_all (deep levels) subs) depth) judged (λ at s e. finds at s (rw e refl)) own)

  more-own : (levels : ℕ) (around : Option ℕ) (rows : List TreeRow) (blocks : List Stmt) (stmt : Stmt) → AreSound deep m blocks → IsTrue (all_differ nat_eq (places levels stmt)) → IsTrue (deep levels stmt)
      → (is_none (part_of stmt) ≡ false → tree_faults m levels stmt ≡ []) → Finds levels blocks stmt → AreSited deep stmts rows → AreSited deep stmts (with_rows levels m around rows stmt)
  unfolding with_rows places
  more-own zero around rows blocks stmt outer differ depth quiet finds own =
      own-row 0 around rows blocks stmt (part_of stmt) refl finds
      (λ some. (sym (tree_faults-last m stmt) ∙ quiet some, record { levels = 0; quiet = quiet some; depth = depth; plain = not-extension stmt some })) outer own
  more-own (suc levels) around rows blocks stmt outer differ depth quiet finds own = elim (cases_Bool (is_none (part_of stmt))) [
    | inl none ↦ rw none own
    | inr some ↦
        let (level, rest) = split-quiet m levels stmt (quiet some) in
        let plain = not-extension stmt some in
        let sound : IsSound deep m stmt = record { levels = suc levels; quiet = quiet some; depth = depth; plain = plain } in
        rw some (fold-own levels stmt blocks (Some (length rows)) plain
        (λ front sub one deeper judged found. more-own levels (Some (length rows)) front (stmt ∷ blocks) sub (sound, outer) one deeper judged found)
        (with_row m around rows stmt (part_of stmt)) (subs_of stmt) (differ-tail (out-Stmt stmt).at (flat_map (places levels) (subs_of stmt)) differ) (down levels stmt depth) (subs-quiet m stmt plain level) rest
        (λ at s e. finds at s (way-inside levels at (here blocks stmt) s differ e)) (own-row (suc levels) around rows blocks stmt (part_of stmt) refl finds (λ n. (level, sound)) outer own))
  ]

-- ---- of all modules

pub module-quiet : (m : ℕ) (stmt : Stmt) → module_faults m stmt ≡ [] → tree_faults m 64 stmt ≡ []
unfolding module_faults
module-quiet m stmt e = elim (cases_Bool (is_named word.Module stmt)) [ inl t ↦ rw t at e | inr f ↦ (let no = rw f at e in cc) ]

pub middle-got : {X : Type 0} (done rest : List X) (x : X) (n : ℕ) → n ≡ length done → slice_get (done ++ x ∷ rest) n ≡ Some x
middle-got [] rest x n e = let none : n ≡ 0 = omega arith in rw none refl
middle-got (y ∷ done) rest x zero e = absurd (omega arith)
middle-got (y ∷ done) rest x (suc n) e = middle-got done rest x n (omega arith)

module _ (deep : ℕ → Stmt → Bool) (down : GoesDown deep) where
  rows-own : (all done rest : List Stmt) (n : ℕ) (rows : List TreeRow) → n ≡ length done → all ≡ done ++ rest → IsTrue (list_all has_own_places rest) → IsTrue (list_all (deep 64) rest)
      → flat_map (λ (e : ℕ × Stmt). module_faults e.0 e.1) (enumerate_from n rest) ≡ [] → AreSited deep all rows
      → AreSited deep all (fold (λ rows (e : ℕ × Stmt). with_rows 64 e.0 None rows e.1) rows (enumerate_from n rest))
  rows-own all done [] n rows count is differ depth quiet own = own
  rows-own all done (stmt ∷ rest) n rows count is differ depth quiet own =
      let (first, others) = front-nil (module_faults n stmt) (flat_map (λ (e : ℕ × Stmt). module_faults e.0 e.1) (enumerate_from (n + 1) rest)) quiet in
      let one = and_first (has_own_places stmt) (list_all has_own_places rest) differ in
      let later = and_second (has_own_places stmt) (list_all has_own_places rest) differ in
      let got : slice_get all n ≡ Some stmt = ap (λ (xs : List Stmt). slice_get xs n) is ∙ middle-got done rest stmt n count in
      rows-own all (done ++ stmt ∷ []) rest (n + 1) (with_rows 64 n None rows stmt) (omega (arith, count, length-append done (stmt ∷ []))) (is ∙ sym (append_assoc done (stmt ∷ []) rest)) later
      (and_second (deep 64 stmt) (list_all (deep 64) rest) depth) others
      (more-own deep down all n 64 None rows [] stmt tt one (and_first (deep 64 stmt) (list_all (deep 64) rest) depth) (λ some. module-quiet n stmt first)
      (λ at s e. ap (option_and_then (λ stmt. way_to 64 at (top n stmt))) got ∙ e) own)

  pub sited-rows : (stmts : List Stmt) → IsTrue (list_all has_own_places stmts) → IsTrue (list_all (deep 64) stmts) → flat_map (λ (e : ℕ × Stmt). module_faults e.0 e.1) (enumerate_from 0 stmts) ≡ []
      → AreSited deep stmts (rows_of stmts)
  sited-rows stmts differ depth quiet = rows-own stmts [] stmts 0 [] refl refl differ depth quiet (λ k row e. absurd (nothing row e))
    where
      nothing : (row : TreeRow) → ◌≡◌ {A = Option TreeRow} None (Some row) → ⊥
      nothing row e = cc

-- what holds of any statement
abbrev any_depth : ℕ → Stmt → Bool
any_depth levels stmt = true

all-deep : (stmts : List Stmt) → IsTrue (list_all (λ stmt. true) stmts)
all-deep [] = refl
all-deep (stmt ∷ stmts) = all-deep stmts

pub own-rows : (stmts : List Stmt) → IsTrue (list_all has_own_places stmts) → flat_map (λ (e : ℕ × Stmt). module_faults e.0 e.1) (enumerate_from 0 stmts) ≡ [] → AreOwn stmts (rows_of stmts)
own-rows stmts differ quiet = λ k row e. (sited-rows any_depth (λ levels stmt h. all-deep (subs_of stmt)) stmts differ (all-deep stmts) quiet k row e).own
