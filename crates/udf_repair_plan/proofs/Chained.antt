-- What rules put one after another.
use Rattle.std.proofs.Common.{ℕ, List, [], ◌++◌}
use Rattle.udf_wanted.specs.Wanted.{LookAlike}
use Rattle.udf_wanted.proofs.Looking.{both}

-- five mends behind a first one
pub chained : (first files set bitmap integrity last a b c d e h : List (ℕ × List ℕ)) → LookAlike first a → LookAlike files (first ++ b) → LookAlike set (files ++ c)
    → LookAlike bitmap (set ++ d) → LookAlike integrity (bitmap ++ e) → LookAlike last (integrity ++ h) → LookAlike last (a ++ (b ++ (c ++ (d ++ (e ++ h)))))
chained first files set bitmap integrity last a b c d e h one two three four five six =
    both [] first last a (b ++ (c ++ (d ++ (e ++ h)))) one
    (both first files last b (c ++ (d ++ (e ++ h))) two
    (both files set last c (d ++ (e ++ h)) three
    (both set bitmap last d (e ++ h) four
    (both bitmap integrity last e h five six))))
