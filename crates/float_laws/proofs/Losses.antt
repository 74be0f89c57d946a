-- The loss 1 - got / sent in f32, for at most 64 frames: its three tests are tests on the whole numbers. Assumes nothing.
use mathlib.Core.Path.{◌≡◌, refl}
use Prim.Native.Nat.{ℕ, ◌+◌, ◌*◌, ◌^◌, ◌≤◌, ◌<◌}
use native.Mathlib.Nat.{mul-pos}
use native.Mathlib.Omega.{arith}
use mathlib.Core.Bool.{Bool, true, false, not}
use lib.Dec.{T, not_T}
use lib.IntN.{pos, negsuc}
use lib.Ieee.{Float, nan, inf, fin, Format, binary32, prec, le, lt, eq, sub, div, fits, of_int, of_bits, is_nan}
use lib.Ieee.Back.{round_whole}
use lib.Ieee.Exact.{HasValue}
use lib.Ieee.Scale.{finite}
use lib.Ieee.Positive.{den, den_pos, positive_of_value}
use Rattle.ieee.specs.Range.{In, w32}
use Rattle.float.specs.Gear.{loss_to_step_down, loss_of, whole_loss}
use Rattle.ieee.proofs.Value.{le_antisym, eq→le, P, N, le_trans, le_refl, lt_not_le, lt-le, finite-between}
use Rattle.ieee.proofs.Rounds.{Rounds, rounds-same, div-rounds, P_pos}
use Rattle.ieee.proofs.Representable.{rounds-le, rounds-ge}
use Rattle.ieee.proofs.Mono.{null, sub-mono}

-- ---- a quotient of two whole numbers is their fraction, rounded once
value : (f : Format) (n : ℕ) → n ≤ 2 ^ prec f → HasValue (of_int f (pos n)) false n 1
unfolding of_int
value f n h = round_whole f false n h

plain-part : (x : Float) (n : ℕ) → HasValue x false n 1 → (P x ≡ n * den x) × (N x ≡ 0) × T (finite x)
plain-part nan n h = absurd h
plain-part (inf s) n h = absurd h
plain-part (fin true m e) n h = absurd (mathlib.Core.Bool.true≢false h.0)
plain-part (fin false m e) n h = (omega (arith, h.1), refl, tt)

pub quotient-rounds : (f : Format) (a b : ℕ) → a ≤ 2 ^ prec f → b ≤ 2 ^ prec f → 0 < b → Rounds f (div f (of_int f (pos a)) (of_int f (pos b))) a 0 b
quotient-rounds f a b h k B =
    let x = of_int f (pos a) in
    let y = of_int f (pos b) in
    let p = plain-part x a (value f a h) in
    let q = plain-part y b (value f b k) in
    let Y = positive_of_value y b 1 (value f b k) B in
    rounds-same f (div f x y) (P x * den y) (N x * den y) (den x * P y) a 0 b (mul-pos (den_pos x) (P_pos y Y).0) B
    (go (P x) (N x) (den x) (P y) (den y) p.0 p.1 q.0) (div-rounds f x y p.2 Y)
  where
    go : (P N D Q C : ℕ) → P ≡ a * D → N ≡ 0 → Q ≡ b * C → P * C * b + 0 * (D * Q) ≡ a * (D * Q) + N * C * b
    go P N D Q C e n g = rw (e, n, g) (omega arith)

module _ (got sent : ℕ) (h : got ≤ sent) (B : 0 < sent) (k : sent ≤ 64) where
  q : Float
  q = div binary32 (w32 got) (w32 sent)

  q-rounds : Rounds binary32 q got 0 sent
  unfolding q
  q-rounds = quotient-rounds binary32 got sent (omega (arith, h, k)) (omega (arith, k)) B

  -- got / sent against a value b of the format
  q-le : (b : Float) → T (finite b) → T (fits binary32 b) → got * den b + N b * sent ≤ P b * sent + 0 * den b → T (le q b)
  q-le b f g u = rounds-le binary32 q b got 0 sent B f g q-rounds u

  q-ge : (b : Float) → T (finite b) → T (fits binary32 b) → P b * sent + 0 * den b ≤ got * den b + N b * sent → T (le b q)
  q-ge b f g u = rounds-ge binary32 q b got 0 sent B f g q-rounds u

  abbrev one : Float
  one = fin false 1 (pos 0)

  q-low : T (le null q)
  q-low = q-ge null tt (unfold fits in tt) (omega arith)

  q-high : T (le q one)
  q-high = q-le one tt (unfold fits in tt) (omega (arith, h))

  q-finite : T (finite q)
  q-finite = finite-between null q one tt tt q-low q-high

  -- so for the loss
  loss-ge : (b : Float) → T (finite b) → T (le q b) → T (le (sub binary32 one b) (loss_of got sent))
  unfolding q of_int
  loss-ge b f u = sub-mono binary32 one one b q tt tt f q-finite (le_refl one (unfold is_nan in tt)) u

  loss-le : (b : Float) → T (finite b) → T (le b q) → T (le (loss_of got sent) (sub binary32 one b))
  unfolding q of_int
  loss-le b f u = sub-mono binary32 one one q b tt tt q-finite f (le_refl one (unfold is_nan in tt)) u

  pub loss-in : In (w32 0) (w32 1) (loss_of got sent)
  unfolding of_int sub
  loss-in = record { low = loss-ge one tt q-high; high = loss-le null tt q-low }

  -- ---- loss > 0.99: nothing came through
  pub loss-all : got ≡ 0 → T (lt whole_loss (loss_of got sent))
  unfolding of_bits sub lt
  loss-all e = lt-le whole_loss one (loss_of got sent) tt (loss-ge null tt (q-le null tt (unfold fits in tt) (omega (arith, e))))

  pub loss-not-all : 0 < got → T (not (lt whole_loss (loss_of got sent)))
  unfolding of_bits sub le
  loss-not-all g =
      not_T (lt whole_loss (loss_of got sent))
      (λ t. lt_not_le whole_loss (loss_of got sent) t
      (le_trans (loss_of got sent) (fin false 63 (negsuc 5)) whole_loss (loss-le (fin false 1 (negsuc 5)) tt (q-ge (fin false 1 (negsuc 5)) tt (unfold fits in tt) (omega (arith, g, k)))) tt))

  -- ---- loss == 0.0: all came through
  pub loss-none : got ≡ sent → T (eq (loss_of got sent) null)
  unfolding sub of_int
  loss-none e = le_antisym (loss_of got sent) null (loss-le one tt (q-ge one tt (unfold fits in tt) (omega (arith, e)))) loss-in.low

  pub loss-some : got < sent → T (not (eq (loss_of got sent) null))
  unfolding sub lt
  loss-some g =
      not_T (eq (loss_of got sent) null)
      (λ t. lt_not_le null (loss_of got sent) (lt-le null (fin false 1 (negsuc 5)) (loss_of got sent) tt (loss-ge (fin false 63 (negsuc 5)) tt (q-le (fin false 63 (negsuc 5)) tt (unfold fits in tt) (omega (arith, g, k))))) (eq→le (loss_of got sent) null t))

  -- ---- loss > 0.3: fewer than seven tenths came through
  pub loss-heavy : 10 * got < 7 * sent → T (lt loss_to_step_down (loss_of got sent))
  unfolding of_bits sub lt
  loss-heavy g =
      lt-le loss_to_step_down (fin false 617 (negsuc 10)) (loss_of got sent) tt
      (loss-ge (fin false 1431 (negsuc 10)) tt (q-le (fin false 1431 (negsuc 10)) tt (unfold fits in tt) (omega (arith, g, k))))

  pub loss-light : 7 * sent ≤ 10 * got → T (not (lt loss_to_step_down (loss_of got sent)))
  unfolding of_bits sub le
  loss-light g =
      not_T (lt loss_to_step_down (loss_of got sent))
      (λ t. lt_not_le loss_to_step_down (loss_of got sent) t
      (loss-le (fin false 11744051 (negsuc 23)) tt (q-ge (fin false 11744051 (negsuc 23)) tt (unfold fits in tt) (omega (arith, g)))))
