-- What is claimed of the kit's arithmetic, lib.Ieee, by the rule of Rounding.antt; proved in proofs/Theorem.antt. Definitions only.
-- The number `fin s m e` is (-1)^s m 2^e. Operations with an infinity, a NaN or a zero divisor are the kit's own cases
-- (6.1, 6.2, 7.2, 7.3).
use Rattle.std.specs.Prelude.{◌≡◌, ℕ, suc, ◌*◌, ◌^◌, ◌<◌, Bool, true, false, not, ◌&&◌, T, ℤ, pos, negsuc, Float}
use Rattle.std.specs.Float.{fin, Format, binary32, binary64}
use Rattle.std.specs.Float.Ieee.{up, down, unlike, round, fits, add, sub, mul, div, of_int, to_unsigned}
use Rattle.exp.specs.Narrow.{narrow}
use Rattle.rounding.specs.Rounding.{FormatNumber, Datum, Rounded, Sum, TowardZero}

-- the kit's format f is the standard's of p digits and the largest exponent emax
pub record Arithmetic (p emax : ℕ) (f : Format) : Type 0 where
  -- `round` keeps the rule, and no other value that the format holds does
  pub rounds : (s : Bool) (a d : ℕ) → 0 < d → Rounded p emax s a d (round f s a d)
  pub alone : (s : Bool) (a d : ℕ) (x : Float) → 0 < d → T (fits f x) → Rounded p emax s a d x → x ≡ round f s a d
  -- the finite values that the format holds are the standard's numbers, of either sign
  pub held : (s : Bool) (m : ℕ) (e : ℤ) → T (fits f (fin s m e)) → (v : ℕ) × FormatNumber p emax v × Datum p emax (fin s m e) s v
  pub holds : (s : Bool) (v : ℕ) → FormatNumber p emax v → (x : Float) × T (fits f x) × Datum p emax x s v
  -- 6.3: "when the sum of two operands with opposite signs (or the difference of two operands with like signs) is exactly zero, the sign of
  -- that sum (or difference) shall be +0"; "x + x and x - (-x) have the sign of x when x is zero"
  pub sums : (s t : Bool) (m n : ℕ) (e d : ℤ)
      → Sum p emax s (m * up e * down d) t (n * up d * down e) (down e * down d) (s && t) (add f (fin s m e) (fin t n d))
  pub differences : (s t : Bool) (m n : ℕ) (e d : ℤ)
      → Sum p emax s (m * up e * down d) (not t) (n * up d * down e) (down e * down d) (s && not t) (sub f (fin s m e) (fin t n d))
  -- 6.3: "the sign of a product or quotient is the exclusive OR of the operands' signs"
  pub products : (s t : Bool) (m n : ℕ) (e d : ℤ)
      → Rounded p emax (unlike s t) (m * up e * (n * up d)) (down e * down d) (mul f (fin s m e) (fin t n d))
  pub quotients : (s t : Bool) (m n : ℕ) (e d : ℤ) → 0 < n
      → Rounded p emax (unlike s t) (m * up e * down d) (n * up d * down e) (div f (fin s m e) (fin t n d))
  -- 5.4.1, convertFromInt: a whole number from 0 on, and one below
  pub wholes : (n : ℕ) → Rounded p emax false n 1 (of_int f (pos n))
  pub minuses : (n : ℕ) → Rounded p emax true (suc n) 1 (of_int f (negsuc n))

-- table 3.5
abbrev pub Binary32 : Type 0
Binary32 = Arithmetic 24 127 binary32

abbrev pub Binary64 : Type 0
Binary64 = Arithmetic 53 1023 binary64

pub record Conversions : Type 0 where
  -- 5.4.2, convertFormat: an f64 to an f32, and an f32 to an f64, which is the same datum
  pub narrowed : (s : Bool) (m : ℕ) (e : ℤ) → Rounded 24 127 s (m * up e) (down e) (narrow (fin s m e))
  pub widened : (s : Bool) (m : ℕ) (e : ℤ) → T (fits binary32 (fin s m e)) → Rounded 53 1023 s (m * up e) (down e) (fin s m e)
  -- 5.8, convertToIntegerTowardZero: a number that is not negative and below 2 ^ w, to w bits
  pub cut : (w m : ℕ) (e : ℤ) → m * up e < 2 ^ w * down e → TowardZero (m * up e) (down e) (to_unsigned w (fin false m e))
