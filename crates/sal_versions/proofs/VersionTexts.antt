-- The texts of versions, and the versions that they build, one upgrade after another.
use Rattle.std.proofs.Common.{◌≡◌, ℕ, ◌+◌, ◌<◌, ◌^◌, List, [], ◌∷◌, ◌++◌, map, length, get_or, take, drop, IsTrue, Result, Ok, Err, append-nil, append_assoc, ap, sym, subst, ◌∙◌, arith}
use Rattle.std.specs.Prelude.{IfOk}
use Rattle.std.specs.List.{flat_map, sum_by}
use Rattle.std.proofs.lemmas.Bool.Decides.{nat_tests}
use Rattle.std.proofs.lemmas.List.{drop_more, take_more, map-append}
use Rattle.std.proofs.lemmas.List.Concat.{flat_map-append}
use Rattle.sal_types.specs.Reading.{◌>>=◌}
use Rattle.sal_stmt.specs.declared.fault.StmtFault.{StmtFault}
use Rattle.sal_stmt.specs.declared.stmt.Stmt.{Stmt}
use Rattle.sal_stmt.specs.Text.{read}
use Rattle.sal_script.specs.Limits.{all_texts, are_short}
use Rattle.sal_script.proofs.ShortTexts.{with_upgrade, version_short, Texts}
use Rattle.sal_build.specs.Readable.{are_readable, ReadIsReadable}
use Rattle.sal_versions.specs.declared.schema_fault.SchemaFault.{SchemaFault}
use Rattle.sal_versions.specs.declared.schema_fault.SchemaFault.TheVariants.{Bad, NoMemory}
use Rattle.sal_versions.specs.Schemas.{IsFaultOf, IsOfUpgrade}
use Rattle.sal_versions.specs.Versions.{Versions, next_of, or_upgrade, upgraded}
use Rattle.sal_versions.proofs.ReadTexts.{short_sum}

-- a consequence of a result
pub if_ok : {X F : Type 0} {P Q : X → Type 0} (result : Result X F) → ((x : X) → P x → Q x) → IfOk result P → IfOk result Q
if_ok (Ok x) next is = next x is
if_ok (Err fault) next is = tt

-- ---- texts

abbrev AreRead : Texts → List Stmt → Type 0
AreRead texts stmts = ◌≡◌ {A = List (Result Stmt StmtFault)} (map read texts) (map Ok stmts)

pub version-0-short : (modules : Texts) (upgrades : List Texts) → IsTrue (are_short (all_texts modules upgrades)) → IsTrue (are_short modules)
version-0-short modules upgrades short = subst (λ (texts : Texts). IsTrue (are_short texts)) (append-nil modules) (version_short modules upgrades 0 short)

pub version-0-read : (modules : Texts) (stmts : List Stmt) → AreRead modules stmts → AreRead (all_texts modules []) stmts
version-0-read modules stmts is = ap (map read) (append-nil modules) ∙ is

module _ (modules : Texts) (upgrades : List Texts) (i : ℕ) (texts : Texts) (h : i < length upgrades) (is : texts ≡ get_or upgrades i texts) where
  joined : all_texts modules (take (i + 1) upgrades) ≡ all_texts modules (take i upgrades) ++ texts
  joined =
      let front = take i upgrades in
      ap (λ us. all_texts modules us) (take_more upgrades i texts h ∙ ap (λ t. front ++ t ∷ []) (sym is))
      ∙ ap (λ all. modules ++ all) (flat_map-append (λ (t : Texts). t) front (texts ∷ []) ∙ ap (λ t. flat_map (λ (t : Texts). t) front ++ t) (append-nil texts))
      ∙ sym (append_assoc modules (flat_map (λ (t : Texts). t) front) texts)

  -- the statements that the next version reads
  pub next-read : (stmts more : List Stmt) → AreRead (all_texts modules (take i upgrades)) stmts → AreRead texts more → AreRead (all_texts modules (take (i + 1) upgrades)) (stmts ++ more)
  next-read stmts more was now =
      ap (map read) joined ∙ map-append read (all_texts modules (take i upgrades)) texts
      ∙ ap (λ (done : List (Result Stmt StmtFault)). done ++ map read texts) was
      ∙ ap (λ (rest : List (Result Stmt StmtFault)). map Ok stmts ++ rest) now
      ∙ sym (map-append Ok stmts more)

  pub next-readable : ReadIsReadable → IsTrue (are_short (all_texts modules upgrades)) → (stmts : List Stmt) → AreRead (all_texts modules (take i upgrades)) stmts
      → (more : List Stmt) → AreRead texts more → IsTrue (are_readable (stmts ++ more))
  next-readable law short stmts was more now =
      law (all_texts modules (take (i + 1) upgrades)) (stmts ++ more) (next-read stmts more was now)
      (short_sum (all_texts modules (take (i + 1) upgrades)) (version_short modules upgrades (i + 1) short))

  pub next-short : IsTrue (are_short (all_texts modules upgrades)) → IsTrue (are_short texts)
  next-short short =
      let all = short_sum (all_texts modules (take (i + 1) upgrades)) (version_short modules upgrades (i + 1) short) in
      let more = with_upgrade modules upgrades i texts h is in
      let less : sum_by length texts < 2 ^ 32 = omega (arith, all, more) in
      grind (arith, nat_tests, less)

  -- ---- versions

  turn : (before : Versions) → upgraded (i + 1) before (drop i upgrades) ≡ (or_upgrade (i + 1) (next_of before texts) >>= (λ more. upgraded (i + 1 + 1) more (drop (i + 1) upgrades)))
  turn before =
      let split : drop i upgrades ≡ texts ∷ drop (i + 1) upgrades = drop_more upgrades i texts h ∙ ap (λ first. first ∷ drop (i + 1) upgrades) (sym is) in
      ap (upgraded (i + 1) before) split

  pub goes : (before next : Versions) (total : Result Versions (List ℕ)) → or_upgrade (i + 1) (next_of before texts) ≡ Ok next → upgraded (i + 1) before (drop i upgrades) ≡ total
      → upgraded (i + 1 + 1) next (drop (i + 1) upgrades) ≡ total
  goes before next total made so_far =
      sym (ap (λ (r : Result Versions (List ℕ)). r >>= (λ more. upgraded (i + 1 + 1) more (drop (i + 1) upgrades))) made) ∙ sym (turn before) ∙ so_far

  pub stops : (before : Versions) (total : Result Versions (List ℕ)) (e : SchemaFault) → IsFaultOf (or_upgrade (i + 1) (next_of before texts)) e → upgraded (i + 1) before (drop i upgrades) ≡ total
      → IsFaultOf total e
  stops before total NoMemory fault so_far = tt
  stops before total (Bad text) fault so_far =
      sym so_far ∙ turn before ∙ ap (λ (r : Result Versions (List ℕ)). r >>= (λ more. upgraded (i + 1 + 1) more (drop (i + 1) upgrades))) fault

-- a fault of an upgrade
pub upgrade-fault : (u : ℕ) (made : Result Versions (List ℕ)) (fault result : SchemaFault) → IsFaultOf made fault → IsOfUpgrade u fault result → IsFaultOf (or_upgrade u made) result
upgrade-fault u made (Bad text) (Bad told) is names = ap (or_upgrade u) is ∙ ap Err (sym names)
upgrade-fault u made (Bad text) NoMemory is names = tt
upgrade-fault u made NoMemory (Bad told) is names = cc
upgrade-fault u made NoMemory NoMemory is names = tt
