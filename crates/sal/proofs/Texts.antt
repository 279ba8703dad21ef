-- Texts that are short together are read to readable statements, or the first that is none has its fault.
use Rattle.std.proofs.Common.{◌≡◌, ◌↔◌, ℕ, ◌+◌, ◌-◌, ◌<◌, ◌≤◌, ◌^◌, List, [], ◌∷◌, ◌++◌, map, length, get_or, take, IsTrue, false, true, IfErr, IsErrAnd, Result, Ok, Err, refl, ap, sym, ◌∙◌, subst, arith}
use Rattle.std.specs.Borrow.{Bor}
use Rattle.std.specs.List.{sum_by}
use Rattle.std.proofs.lemmas.List.{get_or-map, length-map, map_more, map_push, take_all}
use Rattle.std.proofs.lemmas.List.Sums.{get_or-le-sum_by, sum_by-take-le, sum_by_more}
use Rattle.sal_stmt.specs.declared.fault.StmtFault.{StmtFault}
use Rattle.sal_stmt.specs.declared.stmt.Stmt.{Stmt}
use Rattle.sal_stmt.specs.Text.{read}
use Rattle.sal_stmt.specs.Words.{Text}
use Rattle.sal_schema.specs.declared.table.SchemaTable.{SchemaTable}
use Rattle.sal_module_table.specs.Build.{build}
use Rattle.sal_build.specs.Readable.{are_readable, ReadIsReadable}
use Rattle.sal.specs.declared.modules.SchemaFault.{SchemaFault}
use Rattle.sal.specs.declared.modules.SchemaFault.TheVariants as fault
use Rattle.sal.specs.Modules.{AreRead, AreShort, IsFaultOf, IsFirstUnread, IsSchemaOf, IsUnread, IsUnreadAmong, texts_in}

-- ---- one of the texts

inside_of : (texts : List (Bor Text)) (i : ℕ) → i < length texts → i < length (texts_in texts)
inside_of texts i inside = subst (λ n. i < n) (sym (length-map texts (λ (t : Bor Text). t.now))) inside

past_of : (texts : List (Bor Text)) (i : ℕ) → length texts ≤ i → length (texts_in texts) ≤ i
past_of texts i past = subst (λ n. n ≤ i) (sym (length-map texts (λ (t : Bor Text). t.now))) past

text_at : (texts : List (Bor Text)) (i : ℕ) (other : Bor Text) → i < length texts → get_or (texts_in texts) i [] ≡ (get_or texts i other).now
text_at texts i other inside = get_or-map (λ (t : Bor Text). t.now) texts i other [] inside

-- ---- how long texts are

longer : (texts : List (Bor Text)) (i : ℕ) (other : Bor Text) → i < length texts → sum_by length (take (i + 1) (texts_in texts)) ≡ sum_by length (take i (texts_in texts)) + length (get_or texts i other).now
longer texts i other inside =
    sum_by_more length (texts_in texts) i [] (inside_of texts i inside)
    ∙ ap (λ (t : Text). sum_by length (take i (texts_in texts)) + length t) (text_at texts i other inside)

pub still_short : (texts : List (Bor Text)) (i : ℕ) (other : Bor Text) (room : ℕ) → i < length texts → sum_by length (take i (texts_in texts)) + room ≡ 4294967295 → length (get_or texts i other).now ≤ room
    → sum_by length (take (i + 1) (texts_in texts)) + (room - length (get_or texts i other).now) ≡ 4294967295
still_short texts i other room inside so_far fits =
    let grown = longer texts i other inside in
    omega (arith, grown, so_far, fits)

too_long : (texts : List (Bor Text)) (i : ℕ) (other : Bor Text) (room : ℕ) → i < length texts → sum_by length (take i (texts_in texts)) + room ≡ 4294967295 → room < length (get_or texts i other).now → AreShort (texts_in texts) → ⊥
too_long texts i other room inside so_far more short =
    let grown = longer texts i other inside in
    let part = sum_by-take-le length (texts_in texts) (i + 1) in
    omega (arith, grown, part, so_far, more, short)

pub none_is_short : (texts : List (Bor Text)) (i : ℕ) (other : Bor Text) (room : ℕ) → i < length texts → sum_by length (take i (texts_in texts)) + room ≡ 4294967295 → room < length (get_or texts i other).now → IsTrue false ↔ AreShort (texts_in texts)
none_is_short texts i other room inside so_far more = (λ h. cc, λ short. absurd (too_long texts i other room inside so_far more short))

all_short : (texts : List (Bor Text)) (i room : ℕ) → length texts ≤ i → sum_by length (take i (texts_in texts)) + room ≡ 4294967295 → AreShort (texts_in texts)
all_short texts i room past so_far =
    let whole = ap (λ (ts : List Text). sum_by length ts) (take_all i (texts_in texts) (past_of texts i past)) in
    omega (arith, whole, so_far)

pub whole_is_short : (texts : List (Bor Text)) (i room : ℕ) → length texts ≤ i → sum_by length (take i (texts_in texts)) + room ≡ 4294967295 → IsTrue true ↔ AreShort (texts_in texts)
whole_is_short texts i room past so_far = (λ h. all_short texts i room past so_far, λ short. refl)

pub short_one : (texts : List (Bor Text)) (i : ℕ) (other : Bor Text) → i < length texts → AreShort (texts_in texts) → length (get_or texts i other).now < 2 ^ 32
short_one texts i other inside short =
    let part = get_or-le-sum_by length (texts_in texts) i [] (inside_of texts i inside) in
    let here = ap (λ (t : Text). length t) (text_at texts i other inside) in
    omega (arith, part, here, short)

-- ---- each is read

pub read_one : (text : Text) (stmt : Stmt) → read text ≡ Ok stmt → AreRead (text ∷ []) (stmt ∷ [])
read_one text stmt e = ap (λ (r : Result Stmt StmtFault). r ∷ []) e

pub one_more : (texts : List (Bor Text)) (i : ℕ) (other : Bor Text) (stmts : List Stmt) (stmt : Stmt) → i < length texts → AreRead (take i (texts_in texts)) stmts
    → AreRead ((get_or texts i other).now ∷ []) (stmt ∷ []) → AreRead (take (i + 1) (texts_in texts)) (stmts ++ stmt ∷ [])
one_more texts i other stmts stmt inside so_far here =
    map_more read (texts_in texts) i [] (inside_of texts i inside)
    ∙ ap (λ (t : Text). map read (take i (texts_in texts)) ++ read t ∷ []) (text_at texts i other inside)
    ∙ ap (λ (rs : List (Result Stmt StmtFault)). rs ++ read (get_or texts i other).now ∷ []) so_far
    ∙ ap (λ (rs : List (Result Stmt StmtFault)). map Ok stmts ++ rs) here
    ∙ sym (map_push Ok stmts stmt)

pub all_read : (texts : List (Bor Text)) (i : ℕ) (stmts : List Stmt) → length texts ≤ i → AreRead (take i (texts_in texts)) stmts → AreRead (texts_in texts) stmts
all_read texts i stmts past so_far = subst (λ (ts : List Text). AreRead ts stmts) (take_all i (texts_in texts) (past_of texts i past)) so_far

pub texts_readable : ReadIsReadable → (texts : List (Bor Text)) (stmts : List Stmt) → AreShort (texts_in texts) → AreRead (texts_in texts) stmts → IsTrue (are_readable stmts)
texts_readable law texts stmts short each = law (texts_in texts) stmts each short

pub is_schema : (texts : List (Bor Text)) (stmts : List Stmt) (table : SchemaTable) → AreRead (texts_in texts) stmts → build stmts ≡ Ok table → IsSchemaOf (texts_in texts) table
is_schema texts stmts table each e = (stmts, each, e)

-- ---- the first that is not read

pub first_unread : (texts : List (Bor Text)) (i : ℕ) (other : Bor Text) (stmts : List Stmt) (found : SchemaFault) → i < length texts → AreRead (take i (texts_in texts)) stmts
    → IsUnread i (get_or texts i other).now found → IsUnreadAmong (texts_in texts) found
first_unread texts i other stmts (fault.Text place unread) inside so_far here =
    subst (λ n. IsFirstUnread (texts_in texts) n unread) (sym here.0)
    (stmts, inside_of texts i inside, so_far, ap read (text_at texts i other inside) ∙ here.1)
first_unread texts i other stmts (fault.Modules modules) inside so_far here = absurd here
first_unread texts i other stmts fault.TooLong inside so_far here = absurd here
first_unread texts i other stmts fault.NoMemory inside so_far here = tt

pub unread_is_fault : (texts : List Text) (found : SchemaFault) → AreShort texts → IsUnreadAmong texts found → IsFaultOf texts found
unread_is_fault texts (fault.Text place unread) short here = (short, here)
unread_is_fault texts (fault.Modules modules) short here = absurd here
unread_is_fault texts fault.TooLong short here = absurd here
unread_is_fault texts fault.NoMemory short here = tt

-- the fault that a `?` passes on
pub passed_on : {X : Type 0} (P : SchemaFault → Type 0) (result : Result X SchemaFault) (found : SchemaFault) → IsErrAnd result (λ d. d ≡ found) → P found → IfErr result P
passed_on P (Ok x) found is holds = absurd is
passed_on P (Err d) found is holds = rw is holds
