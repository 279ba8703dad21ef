-- The statements of a text are in its order: each statement before its substatements, and these before the next one.
use Rattle.std.proofs.Common.{◌≡◌, ℕ, zero, suc, ◌<◌, ◌≤◌, true, List, [], ◌∷◌, ◌++◌, length, Option, None, Some, inl, inr, refl, ap, ◌∙◌, arith, length-append}
use Rattle.std.specs.Prelude.{nat_lt, codes}
use Rattle.std.proofs.lemmas.Bool.{and_from}
use Rattle.std.proofs.lemmas.Bool.Decides.{nat_tests}
use Rattle.sal_stmt.specs.declared.stmt.Stmt.{Stmt, out-Stmt, out-roll-Stmt}
use Rattle.sal_stmt.specs.Words.{Text, is_keyword}
use Rattle.sal_stmt.specs.Text.{made, place}
use Rattle.sal_stmt.specs.Spelling.{Separator, Gap, no_gap, wider, IsString, AreStrings, last_string, joined, IsArgument, HasArgument, IsHead, IsPlain, AreStatements, no_statement, one_statement, IsBlock, IsStatement, Spells}
use Rattle.sal_module.specs.Statements.{subs_of}
use Rattle.sal_module.specs.Places.{start_or, all_before, is_in_order}

-- ---- what is left gets no longer

abbrev Shorter : Text → Text → Type 0
Shorter rest t = length rest ≤ length t

behind : (front rest t : Text) → t ≡ front ++ rest → Shorter rest t
behind front rest t same = omega (arith, ap length same, length-append front rest)

separator : (t rest : Text) → Separator t rest → Shorter rest t
separator t rest (Separator.blank c _ same) = behind (c ∷ []) rest t same
separator t rest (Separator.line text _ _ same) = omega (arith, ap length same, length-append (codes "//") (text ++ rest), length-append text rest)
separator t rest (Separator.comment text _ same) =
    omega (arith, ap length same, length-append (codes "/*") (text ++ (codes "*/" ++ rest)), length-append text (codes "*/" ++ rest), length-append (codes "*/") rest)

pub gap : (t rest : Text) → Gap t rest → Shorter rest t
gap t rest (no_gap _) = omega arith
gap t rest (wider _ next _ one more) = omega (arith, separator t next one, gap next rest more)

string : (whole t : Text) (text : List ℕ) (rest : Text) → IsString whole t text rest → Shorter rest t
string whole t text rest (IsString.single _ same) = omega (arith, ap length same, length-append (codes "'") (text ++ (codes "'" ++ rest)), length-append text (codes "'" ++ rest), length-append (codes "'") rest)
string whole t text rest (IsString.double raw _ same _) =
    omega (arith, ap length same, length-append (codes "\"") (raw ++ (codes "\"" ++ rest)), length-append raw (codes "\"" ++ rest), length-append (codes "\"") rest)

strings : (whole t : Text) (text : List ℕ) (rest : Text) → AreStrings whole t text rest → Shorter rest t
strings whole t text rest (last_string _ _ _ one) = string whole t text rest one
strings whole t _ rest (joined _ text after plus next more _ one before behind_it others) =
    omega (arith, string whole t text after one, gap after (codes "+" ++ plus) before, length-append (codes "+") plus, gap plus next behind_it, strings whole next more rest others)

argument : (whole t : Text) (text : List ℕ) (rest : Text) → IsArgument whole t text rest → Shorter rest t
argument whole t text rest (IsArgument.word _ _ same) = behind text rest t same
argument whole t text rest (IsArgument.strings all) = strings whole t text rest all

has_argument : (whole t : Text) (arg : Option (List ℕ)) (rest : Text) → HasArgument whole t arg rest → Shorter rest t
has_argument whole t None rest is = gap t rest is
has_argument whole t (Some text) rest (here, after, before, one, behind_it) = omega (arith, gap t here before, argument whole here text after one, gap after rest behind_it)

-- a keyword has a letter
named : (keyword : List ℕ) → is_keyword keyword ≡ true → 0 < length keyword
unfolding is_keyword
named [] is = cc
named (c ∷ keyword) is = omega arith

pub head : (whole t : Text) (it : List ℕ × Option (List ℕ)) (rest : Text) → IsHead whole t it rest → length rest < length t
head whole t it rest is =
    omega (arith, ap length is.keyword, length-append it.0 is.after, named it.0 is.is_name, has_argument whole is.after it.1 rest is.argument)

-- ---- statements

placed : (at : ℕ) (it : List ℕ × Option (List ℕ)) (subs : List Stmt) → (out-Stmt (made at it subs)).at ≡ at
placed at it subs = simp out-roll-Stmt

pub subs_made : (at : ℕ) (it : List ℕ × Option (List ℕ)) (subs : List Stmt) → subs_of (made at it subs) ≡ subs
subs_made at it subs = simp (out-roll-Stmt, subs_of)

-- the rest after the statement, which begins where the text begins, is shorter, and before each place that is not before the rest
record IsPut (levels : ℕ) (whole t : Text) (stmt : Stmt) (rest : Text) : Type 0 where
  shorter : length rest < length t
  at : (out-Stmt stmt).at ≡ place whole t
  ordered : (high : ℕ) → place whole rest ≤ high → is_in_order levels high stmt ≡ true

record ArePut (levels : ℕ) (whole t : Text) (stmts : List Stmt) (rest : Text) (high : ℕ) : Type 0 where
  shorter : length rest < length t
  start : place whole t ≤ start_or high stmts
  ordered : all_before (is_in_order levels) high stmts ≡ true

are_put : (levels : ℕ) (whole : Text) (IsOne : Text → Stmt → Text → Type 0)
    → ((t : Text) (stmt : Stmt) (rest : Text) → length t ≤ length whole → IsOne t stmt rest → IsPut levels whole t stmt rest)
    → (t : Text) (stmts : List Stmt) (rest : Text) → length t ≤ length whole → AreStatements whole IsOne t stmts rest
    → (high : ℕ) → place whole rest ≤ high → ArePut levels whole t stmts rest high
are_put levels whole IsOne each t [] rest within (no_statement _ _ last) high low =
    let shorter = gap t (codes "}" ++ rest) last in
    record { shorter = omega (arith, shorter, length-append (codes "}") rest); start = omega (arith, shorter, length-append (codes "}") rest, low); ordered = refl }
are_put levels whole IsOne each t (stmt ∷ stmts) rest within (one_statement _ here _ after _ _ before one others) high low =
    let shorter = gap t here before in
    let first = each here stmt after (omega (arith, shorter, within)) one in
    let more = are_put levels whole IsOne each after stmts rest (omega (arith, shorter, within, first.shorter)) others high low in
    record {
      shorter = omega (arith, shorter, first.shorter, more.shorter);
      start = omega (arith, shorter, within, first.at);
      ordered = and_from _ _ (first.ordered (start_or high stmts) more.start) more.ordered;
    }

below : (n m : ℕ) → n < m → nat_lt n m ≡ true
below n m h = grind (arith, nat_tests)

-- a statement without a block
alone : (levels : ℕ) (stmt : Stmt) (high : ℕ) → (out-Stmt stmt).at < high → subs_of stmt ≡ [] → is_in_order levels high stmt ≡ true
unfolding is_in_order
alone zero stmt high low none = below _ _ low
alone (suc levels) stmt high low none = rw none (and_from _ _ (below _ _ low) refl)

plain : (levels : ℕ) (whole t : Text) (stmt : Stmt) (rest : Text) → length t ≤ length whole → IsPlain whole t stmt rest → IsPut levels whole t stmt rest
plain levels whole t stmt rest within is =
    let shorter : length rest < length t = omega (arith, head whole t is.head (codes ";" ++ rest) is.is_head, length-append (codes ";") rest) in
    let at : (out-Stmt stmt).at ≡ place whole t = ap (λ s. (out-Stmt s).at) is.same ∙ placed _ _ _ in
    let none : subs_of stmt ≡ [] = ap subs_of is.same ∙ subs_made _ _ _ in
    record {
      shorter = shorter;
      at = at;
      ordered = λ high low. alone levels stmt high (omega (arith, shorter, within, at, low)) none;
    }

block : (levels : ℕ) (whole t : Text) (stmt : Stmt) (rest : Text) (IsOne : Text → Stmt → Text → Type 0)
    → ((u : Text) (one : Stmt) (after : Text) → length u ≤ length whole → IsOne u one after → IsPut levels whole u one after)
    → length t ≤ length whole → IsBlock whole IsOne t stmt rest → IsPut (suc levels) whole t stmt rest
unfolding is_in_order
block levels whole t stmt rest IsOne each within is =
    let opened : length is.block < length t = omega (arith, head whole t is.head (codes "{" ++ is.block) is.is_head, length-append (codes "{") is.block) in
    let at : (out-Stmt stmt).at ≡ place whole t = ap (λ s. (out-Stmt s).at) is.same ∙ placed _ _ _ in
    let same : subs_of stmt ≡ is.subs = ap subs_of is.same ∙ subs_made _ _ _ in
    let put = λ (high : ℕ) (low : place whole rest ≤ high). are_put levels whole IsOne each is.block is.subs rest (omega (arith, opened, within)) is.are_subs high low in
    record {
      shorter = omega (arith, opened, (put (place whole rest) (omega arith)).shorter);
      at = at;
      ordered = λ high low. rw same (and_from _ _ (below _ _ (omega (arith, at, opened, within, (put high low).start))) (put high low).ordered);
    }

statement : (levels : ℕ) (whole t : Text) (stmt : Stmt) (rest : Text) → length t ≤ length whole → IsStatement whole levels t stmt rest → IsPut levels whole t stmt rest
statement zero whole t stmt rest within is = plain zero whole t stmt rest within is
statement (suc levels) whole t stmt rest within (inl is) = plain (suc levels) whole t stmt rest within is
statement (suc levels) whole t stmt rest within (inr is) = block levels whole t stmt rest (IsStatement whole levels) (λ u one after. statement levels whole u one after) within is

pub in_order : (text : Text) (stmt : Stmt) (high : ℕ) → length text < high → Spells text stmt → is_in_order 64 high stmt ≡ true
in_order text stmt high few is =
    (statement 64 text is.here stmt is.after (gap text is.here is.before) is.statement).ordered high (omega (arith, few))
