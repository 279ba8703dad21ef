-- The text of `feed N C`: N notifications were taken, and the sum of their numbers.
use Rattle.std.specs.Prelude.{ℕ, ◌-◌, ◌*◌, ◌/◌, List, [], ◌∷◌, ◌++◌, codes, decimal}

-- the sum of the numbers from 0 to n - 1
abbrev pub sum_below : ℕ → ℕ
sum_below n = n * (n - 1) / 2

abbrev pub feed_text : ℕ → ℕ → List ℕ
feed_text notes capacity =
    codes "feed " ++ (decimal notes ++ (32 ∷ (decimal capacity ++ (codes "\ntaken " ++ (decimal notes ++ (codes "\nsum " ++ (decimal (sum_below notes) ++ 10 ∷ [])))))))
