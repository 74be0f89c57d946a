-- Lists of numbers: which stand there, how often, and whether they differ. Definitions only.
use Rattle.std.specs.Prelude.{ℕ, ◌+◌, ◌≡◌, Bool, true, false, ◌||◌, List, [], ◌∷◌, eqb}

-- `xs.contains(&o)`
abbrev pub listed : ℕ → List ℕ → Bool
listed o [] = false
listed o (x ∷ xs) = eqb o x || listed o xs

-- 1 where a test passes
abbrev pub one : Bool → ℕ
one true = 1
one false = 0

-- how often o stands in a list
abbrev pub occurs : ℕ → List ℕ → ℕ
occurs o [] = 0
occurs o (x ∷ xs) = one (eqb o x) + occurs o xs

-- no two are equal
abbrev pub Distinct : List ℕ → Type 0
Distinct [] = Unit {0}
Distinct (x ∷ xs) = (listed x xs ≡ false) × Distinct xs

-- each of the first list stands in the second
abbrev pub AllListed : List ℕ → List ℕ → Type 0
AllListed [] ys = Unit {0}
AllListed (x ∷ xs) ys = (listed x ys ≡ true) × AllListed xs ys
