-- Statements read from texts are readable: each takes at least one byte, at most 64 blocks are open, and no two have the same place.
use Rattle.std.proofs.Common.{◌≡◌, ℕ, zero, suc, ◌+◌, ◌<◌, ◌≤◌, ◌^◌, nat_lt, IsTrue, List, [], ◌∷◌, ◌++◌, map, length, Ok, inl, inr, refl, ap, ◌∙◌, arith, length-append}
use Rattle.std.specs.Prelude.{codes}
use Rattle.std.specs.List.{list_all, sum_by}
use Rattle.std.proofs.lemmas.Bool.Decides.{nat_tests}
use Rattle.std.proofs.lemmas.List.Sums.{sum_by-cons}
use Rattle.sal_stmt.specs.declared.stmt.Stmt.{Stmt}
use Rattle.sal_stmt.specs.Words.{Text}
use Rattle.sal_stmt.specs.Text.{read}
use Rattle.sal_stmt.specs.Spelling.{IsPlain, AreStatements, no_statement, one_statement, IsBlock, IsStatement, Spells}
use Rattle.sal_stmt.proofs.Spelled.{read_is_spelled}
use Rattle.sal_module.specs.Statements.{subs_of}
use Rattle.sal_typedefs.specs.Names.{count, steps_of}
use Rattle.sal_build.specs.Readable.{has_own_places, is_shallow, is_readable, ReadIsCounted, ReadIsReadable}
use Rattle.sal_build.proofs.OrderedTexts.{gap, head, subs_made, in_order}
use Rattle.sal_build.proofs.OwnPlaces.{order-differs}
use Rattle.sal_build.proofs.Quiet.{both}

-- the text has at least as many bytes as statements, and none is deeper
record IsCounted (levels : ℕ) (t : Text) (stmt : Stmt) (rest : Text) : Type 0 where
  few : count levels stmt + length rest ≤ length t
  depth : IsTrue (is_shallow levels stmt)

are-counted : (levels : ℕ) (whole : Text) (IsOne : Text → Stmt → Text → Type 0) → ((t : Text) (stmt : Stmt) (rest : Text) → IsOne t stmt rest → IsCounted levels t stmt rest)
    → (t : Text) (stmts : List Stmt) (rest : Text) → AreStatements whole IsOne t stmts rest → (sum_by (count levels) stmts + length rest ≤ length t) × IsTrue (list_all (is_shallow levels) stmts)
are-counted levels whole IsOne each t [] rest (no_statement _ _ last) =
    let none : sum_by (count levels) [] ≡ 0 = refl in
    (omega (arith, none, gap t (codes "}" ++ rest) last, length-append (codes "}") rest), refl)
are-counted levels whole IsOne each t (stmt ∷ stmts) rest (one_statement _ here _ after _ _ before one others) =
    let first = each here stmt after one in
    let (more, deep) = are-counted levels whole IsOne each after stmts rest others in
    (omega (arith, gap t here before, first.few, more, sum_by-cons (count levels) stmt stmts), both (is_shallow levels stmt) (list_all (is_shallow levels) stmts) first.depth deep)

alone : (levels : ℕ) (stmt : Stmt) → subs_of stmt ≡ [] → (count levels stmt ≡ 1) × IsTrue (is_shallow levels stmt)
unfolding count is_shallow
alone zero stmt none = (refl, rw none refl)
alone (suc levels) stmt none = (rw none refl, rw none refl)

plain : (levels : ℕ) (whole t : Text) (stmt : Stmt) (rest : Text) → IsPlain whole t stmt rest → IsCounted levels t stmt rest
plain levels whole t stmt rest is =
    let none : subs_of stmt ≡ [] = ap subs_of is.same ∙ subs_made _ _ _ in
    let (one, deep) = alone levels stmt none in
    record { few = omega (arith, one, head whole t is.head (codes ";" ++ rest) is.is_head, length-append (codes ";") rest); depth = deep }

with-block : (levels : ℕ) (stmt : Stmt) (subs : List Stmt) → subs_of stmt ≡ subs → IsTrue (list_all (is_shallow levels) subs)
    → (count (suc levels) stmt ≡ 1 + sum_by (count levels) subs) × IsTrue (is_shallow (suc levels) stmt)
unfolding count is_shallow
with-block levels stmt subs same deep = (ap (λ xs. 1 + sum_by (count levels) xs) same, rw same deep)

block : (levels : ℕ) (whole t : Text) (stmt : Stmt) (rest : Text) (IsOne : Text → Stmt → Text → Type 0) → ((u : Text) (one : Stmt) (after : Text) → IsOne u one after → IsCounted levels u one after)
    → IsBlock whole IsOne t stmt rest → IsCounted (suc levels) t stmt rest
block levels whole t stmt rest IsOne each is =
    let (few, deep) = are-counted levels whole IsOne each is.block is.subs rest is.are_subs in
    let same : subs_of stmt ≡ is.subs = ap subs_of is.same ∙ subs_made _ _ _ in
    let (all, depth) = with-block levels stmt is.subs same deep in
    record { few = omega (arith, few, all, head whole t is.head (codes "{" ++ is.block) is.is_head, length-append (codes "{") is.block); depth = depth }

statement : (levels : ℕ) (whole t : Text) (stmt : Stmt) (rest : Text) → IsStatement whole levels t stmt rest → IsCounted levels t stmt rest
statement zero whole t stmt rest is = plain zero whole t stmt rest is
statement (suc levels) whole t stmt rest (inl is) = plain (suc levels) whole t stmt rest is
statement (suc levels) whole t stmt rest (inr is) = block levels whole t stmt rest (IsStatement whole levels) (λ u one after. statement levels whole u one after) is

counted : (text : Text) (stmt : Stmt) → Spells text stmt → (count 64 stmt ≤ length text) × IsTrue (is_shallow 64 stmt)
counted text stmt is =
    let one = statement 64 text is.here stmt is.after is.statement in
    (omega (arith, gap text is.here is.before, one.few), one.depth)

pub what_is_read_is_counted : ReadIsCounted
what_is_read_is_counted text stmt e = (counted text stmt (read_is_spelled text stmt e)).0

-- ---- texts

pub readable : (text : Text) (stmt : Stmt) (high : ℕ) → length text < high → read text ≡ Ok stmt → IsTrue (is_readable stmt)
readable text stmt high few e =
    let is = read_is_spelled text stmt e in
    both (has_own_places stmt) (is_shallow 64 stmt) (order-differs 64 high stmt (in_order text stmt high few is)).0 (counted text stmt is).1

-- the statements of texts, with this many bytes in all
all-readable : (high : ℕ) (texts : List Text) (stmts : List Stmt) → map read texts ≡ map Ok stmts → sum_by length texts < high → IsTrue (list_all is_readable stmts) × (steps_of stmts ≤ sum_by length texts)
all-readable high [] [] e few = (refl, omega arith)
all-readable high [] (stmt ∷ stmts) e few = cc
all-readable high (text ∷ texts) [] e few = cc
all-readable high (text ∷ texts) (stmt ∷ stmts) e few =
    let first : read text ≡ Ok stmt = cc in
    let others : map read texts ≡ map Ok stmts = cc in
    let all = sum_by-cons length text texts in
    let (rest, count_rest) = all-readable high texts stmts others (omega (arith, all, few)) in (
      both (is_readable stmt) (list_all is_readable stmts) (readable text stmt high (omega (arith, all, few)) first) rest,
      omega (arith, all, sum_by-cons (count 64) stmt stmts, what_is_read_is_counted text stmt first, count_rest),
    )

is-fewer : (n m : ℕ) → n < m → IsTrue (nat_lt n m)
is-fewer n m h = grind (arith, nat_tests)

pub what_is_read_is_readable : ReadIsReadable
what_is_read_is_readable texts stmts e few =
    let (all, count_all) = all-readable (2 ^ 32) texts stmts e few in
    let small : IsTrue (nat_lt (steps_of stmts) (2 ^ 32)) = is-fewer (steps_of stmts) (2 ^ 32) (omega (arith, count_all, few)) in
    both (list_all is_readable stmts) (nat_lt (steps_of stmts) (2 ^ 32)) all small
