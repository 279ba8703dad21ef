-- The names of a schema path, from one to the next.
use Rattle.std.proofs.Common.{◌≡◌, ℕ, ◌+◌, ◌<◌, ◌≤◌, List, [], ◌∷◌, length, take, drop, Option, Some, None, Bor, arith}
use Rattle.std.proofs.lemmas.Str.Pattern.{IsSplitOnceResult}
use Rattle.sal_types.proofs.Separated.{parted, part_len, parted-last, parted-more, parted-whole, parted-parts}

abbrev pub names : List ℕ → List (List ℕ)
names t = parted 47 t

pub names-last : (t : List ℕ) → length t ≤ part_len 47 t → names t ≡ t ∷ []
names-last = parted-last 47

pub names-more : (t : List ℕ) → part_len 47 t < length t → names t ≡ take (part_len 47 t) t ∷ names (drop (part_len 47 t + 1) t)
names-more = parted-more 47

pub names-whole : (text : List ℕ) (r : Option (Bor (List ℕ) × Bor (List ℕ))) → IsSplitOnceResult 47 text r → r ≡ None → names text ≡ text ∷ []
names-whole = parted-whole 47 (omega arith)

pub names-parts : (text : List ℕ) (r : Option (Bor (List ℕ) × Bor (List ℕ))) → IsSplitOnceResult 47 text r → (x : Bor (List ℕ) × Bor (List ℕ)) → r ≡ Some x → names text ≡ x.0.now ∷ names x.1.now
names-parts = parted-parts 47 (omega arith)
