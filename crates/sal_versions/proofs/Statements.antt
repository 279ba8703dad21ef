-- The statements of texts, one after another.
use Rattle.std.proofs.Common.{◌≡◌, ℕ, ◌+◌, ◌<◌, List, [], ◌∷◌, ◌++◌, length, get_or, drop, Result, Ok, Err, append_assoc, refl, ap, sym, ◌∙◌}
use Rattle.std.proofs.lemmas.List.{drop_more}
use Rattle.std.specs.Result.{IsErrAnd}
use Rattle.sal_types.specs.Reading.{◌>>=◌}
use Rattle.sal_stmt.specs.declared.stmt.Stmt.{Stmt}
use Rattle.sal_stmt.specs.Text.{read}
use Rattle.sal_versions.specs.declared.schema_fault.SchemaFault.{SchemaFault}
use Rattle.sal_versions.specs.declared.schema_fault.SchemaFault.TheVariants.{Bad, NoMemory}
use Rattle.sal_versions.specs.Schemas.{or_text, statements_from, IsFaultOf, Makes}

-- the statements read so far, and then those of the rest
abbrev pub before : List Stmt → Result (List Stmt) (List ℕ) → Result (List Stmt) (List ℕ)
before done rest = rest >>= (λ more. Ok (done ++ more))

one_more : (r : Result Stmt (List ℕ)) (done : List Stmt) (rest : Result (List Stmt) (List ℕ))
    → before done (r >>= (λ y. rest >>= (λ ys. Ok (y ∷ ys)))) ≡ (r >>= (λ y. before (done ++ y ∷ []) rest))
one_more (Err e) done rest = refl
one_more (Ok y) done (Err e) = refl
one_more (Ok y) done (Ok ys) = ap Ok (sym (append_assoc done (y ∷ []) ys))

-- a fault of one text, whose module has this number, is that of all
module _ (texts : List (List ℕ)) (done : List Stmt) (number i : ℕ) (x : List ℕ) (h : i < length texts) (is : x ≡ get_or texts i x) where
  turn : before done (statements_from number (drop i texts)) ≡ (or_text number x (read x) >>= (λ y. before (done ++ y ∷ []) (statements_from (number + 1) (drop (i + 1) texts))))
  turn =
      let split : drop i texts ≡ x ∷ drop (i + 1) texts = drop_more texts i x h ∙ ap (λ first. first ∷ drop (i + 1) texts) (sym is) in
      rw split (one_more (or_text number x (read x)) done (statements_from (number + 1) (drop (i + 1) texts)))

  pub text_fault : (total : Result (List Stmt) (List ℕ)) (e : SchemaFault) → IsFaultOf (or_text number x (read x)) e → before done (statements_from number (drop i texts)) ≡ total → IsFaultOf total e
  text_fault total NoMemory fault so_far = tt
  text_fault total (Bad text) fault so_far =
      sym so_far ∙ turn ∙ ap (λ r. r >>= (λ y. before (done ++ y ∷ []) (statements_from (number + 1) (drop (i + 1) texts)))) fault

-- the fault that a `?` passes on
pub makes_err : {X Y : Type 0} (view : X → Y) (result : Result X SchemaFault) (e : SchemaFault) (made : Result Y (List ℕ)) → IsErrAnd result (λ d. d ≡ e) → IsFaultOf made e → Makes view result made
makes_err view (Ok x) e made is fault = absurd is
makes_err view (Err d) e made is fault = rw is fault
