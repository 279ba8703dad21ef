-- Steps with their replies, one more and all.
use Rattle.std.proofs.Common.{◌≡◌, ℕ, ◌+◌, ◌<◌, ◌≤◌, Bool, true, false, List, [], ◌∷◌, ◌++◌, length, get_or, take, drop, min, inl, inr, refl, ap, sym, ◌∙◌, append_assoc, arith}
use Rattle.std.specs.Prelude.{◌⊎◌, map}
use Rattle.std.specs.List.{zip, position_or_len}
use Rattle.std.proofs.lemmas.Bool.{cases_lt}
use Rattle.std.proofs.lemmas.List.{append-nil, drop_all, drop_more, drop-map, get_or-map, length-map, map_more, map_push}
use Rattle.sal_draw_script.specs.declared.rows.Bead.{Bead as CodeBead}
use Rattle.std.specs.Prelude.{Vec}
use Rattle.std.specs.declared.alloc.Global.{Global}
use Rattle.sal_script.specs.declared.reply.StepReply.{StepReply}
use Rattle.sal_script.specs.declared.script.ScriptStep.{ScriptStep}
use Rattle.sal_script.specs.Moves.{clients_of, move_of, moves_of}
use Rattle.sal_draw_script.specs.Rows.{Bead, bead, bead_of, beads, beads_of, client_beads}

-- what is left of two lists
pub zipped_more : {A B C : Type 0} (f : A × B → C) (xs : List A) (ys : List B) (i : ℕ) (x : A) (y : B) (done : List C) → i < length xs → i < length ys → x ≡ get_or xs i x → y ≡ get_or ys i y → (done ++ f (x, y) ∷ []) ++ map f (zip (drop (i + 1) xs) (drop (i + 1) ys)) ≡ done ++ map f (zip (drop i xs) (drop i ys))
zipped_more {A} {B} f xs ys i x y done hx hy ex ey =
    let more : x ∷ drop (i + 1) xs ≡ drop i xs = ap (λ (a : A). a ∷ drop (i + 1) xs) ex ∙ sym (drop_more xs i x hx) in
    let others : y ∷ drop (i + 1) ys ≡ drop i ys = ap (λ (b : B). b ∷ drop (i + 1) ys) ey ∙ sym (drop_more ys i y hy) in
    append_assoc done (f (x, y) ∷ []) (map f (zip (drop (i + 1) xs) (drop (i + 1) ys)))
    ∙ ap (λ (front : List A). done ++ map f (zip front (y ∷ drop (i + 1) ys))) more
    ∙ ap (λ (bs : List B). done ++ map f (zip (drop i xs) bs)) others

zip_nil : {A B : Type 0} (xs : List A) → zip {K = A} {X = B} xs [] ≡ []
zip_nil [] = refl
zip_nil (x ∷ xs) = refl

zipped_end : {A B : Type 0} (xs : List A) (ys : List B) (i : ℕ) → ((length xs ≤ i) ⊎ (length ys ≤ i)) → zip (drop i xs) (drop i ys) ≡ []
zipped_end {A} {B} xs ys i (inl h) = ap (λ (front : List A). zip front (drop i ys)) (drop_all i xs h)
zipped_end {A} {B} xs ys i (inr h) = ap (λ (bs : List B). zip (drop i xs) bs) (drop_all i ys h) ∙ zip_nil (drop i xs)

one_ends : (a b i : ℕ) → min a b ≤ i → ((a < b) ⊎ (b ≤ a)) → ((a ≤ i) ⊎ (b ≤ i))
one_ends a b i h (inl l) = inl (omega arith)
one_ends a b i h (inr l) = inr (omega arith)

pub zipped_all : {A B C : Type 0} (f : A × B → C) (xs : List A) (ys : List B) (i : ℕ) (done : List C) → min (length xs) (length ys) ≤ i → done ++ map f (zip (drop i xs) (drop i ys)) ≡ done
zipped_all {A} {B} f xs ys i done h =
    ap (λ (ps : List (A × B)). done ++ map f ps) (zipped_end xs ys i (one_ends (length xs) (length ys) i h (cases_lt (length xs) (length ys)))) ∙ append-nil done

-- an item of a list as another list has it
pub mapped_read : {A B : Type 0} (f : A → B) (xs : List A) (i : ℕ) (x : A) → i < length xs → x ≡ get_or xs i x → f x ≡ get_or (map f xs) i (f x)
mapped_read f xs i x h e = ap f e ∙ sym (get_or-map f xs i x (f x) h)

-- one item more of a list that is made of another
pub mapped_more : {A B : Type 0} (f : A → B) (xs : List A) (i : ℕ) (x : A) → i < length xs → x ≡ get_or xs i x → map f (take (i + 1) xs) ≡ map f (take i xs) ++ f x ∷ []
mapped_more {A} {B} f xs i x h e = map_more f xs i x h ∙ ap (λ (y : A). map f (take i xs) ++ f y ∷ []) (sym e)

-- a step more of a client
pub beads_more : (steps : List ScriptStep) (replies : List StepReply) (i : ℕ) (x : ScriptStep) (y : StepReply) (list new : List CodeBead) (b : CodeBead) → new ≡ list ++ b ∷ [] → bead_of b ≡ bead (move_of x, y) → i < length steps → i < length replies → x ≡ get_or steps i x → y ≡ get_or replies i y → map bead_of new ++ map bead (zip (drop (i + 1) (moves_of steps)) (drop (i + 1) replies)) ≡ map bead_of list ++ map bead (zip (drop i (moves_of steps)) (drop i replies))
beads_more steps replies i x y list new b grown same hx hy ex ey =
    let ms = moves_of steps in
    let rest = map bead (zip (drop (i + 1) ms) (drop (i + 1) replies)) in
    let within : i < length ms = omega (arith, hx, length-map steps move_of) in
    ap (λ (bs : List CodeBead). map bead_of bs ++ rest) grown
    ∙ ap (λ (bs : List Bead). bs ++ rest) (map_push bead_of list b ∙ ap (λ (z : Bead). map bead_of list ++ z ∷ []) same)
    ∙ zipped_more bead ms replies i (move_of x) y (map bead_of list) within hy (mapped_read move_of steps i x hx ex) ey

pub beads_all : (steps : List ScriptStep) (replies : List StepReply) (i : ℕ) (list : List Bead) → min (length steps) (length replies) ≤ i → list ++ map bead (zip (drop i (moves_of steps)) (drop i replies)) ≡ list
beads_all steps replies i list h = zipped_all bead (moves_of steps) replies i list (omega (arith, h, length-map steps move_of))

-- a client more
pub all_more : (clients : List (List ScriptStep)) (replies : List (List StepReply)) (i : ℕ) (x : List ScriptStep) (y : List StepReply) (list new : List (Vec CodeBead Global)) (b : Vec CodeBead Global) → new ≡ list ++ b ∷ [] → beads_of b ≡ beads (moves_of x) y → i < length clients → i < length replies → x ≡ get_or clients i x → y ≡ get_or replies i y → map beads_of new ++ map client_beads (zip (drop (i + 1) (clients_of clients)) (drop (i + 1) replies)) ≡ map beads_of list ++ map client_beads (zip (drop i (clients_of clients)) (drop i replies))
all_more clients replies i x y list new b grown same hx hy ex ey =
    let cs = clients_of clients in
    let rest = map client_beads (zip (drop (i + 1) cs) (drop (i + 1) replies)) in
    let within : i < length cs = omega (arith, hx, length-map clients moves_of) in
    ap (λ (bs : List (Vec CodeBead Global)). map beads_of bs ++ rest) grown
    ∙ ap (λ (bs : List (List Bead)). bs ++ rest) (map_push beads_of list b ∙ ap (λ (z : List Bead). map beads_of list ++ z ∷ []) same)
    ∙ zipped_more client_beads cs replies i (moves_of x) y (map beads_of list) within hy (mapped_read moves_of clients i x hx ex) ey

pub clients_all : (clients : List (List ScriptStep)) (replies : List (List StepReply)) (i : ℕ) (list : List (List Bead)) → min (length clients) (length replies) ≤ i → list ++ map client_beads (zip (drop i (clients_of clients)) (drop i replies)) ≡ list
clients_all clients replies i list h = zipped_all client_beads (clients_of clients) replies i list (omega (arith, h, length-map clients moves_of))
