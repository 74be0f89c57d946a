-- What the loops and the calls of the writer need of its definitions.
-- Assumes nothing.
use Prim.Native.Nat.{ℕ, zero, suc, ◌+◌, ◌-◌, ◌/◌, ◌%◌, ◌≤◌, ◌<◌}
use mathlib.Core.Path.{◌≡◌, refl, sym, ap, ◌∙◌}
use mathlib.Core.Bool.{Bool, true, false, ◌&&◌}
use mathlib.Core.List.{List, [], ◌∷◌, ◌++◌, append_assoc, append-nil}
use native.Mathlib.Omega.{arith}
use borrow.Author.Tests.{lt-ltb, le-ltb, le-leb, lt-leb, leb-true}
use lib.Dec.{ltb, leb}
use lib.ListN.{length, get_or, set, take, drop, length-append, drop_of_length-le}
use Rattle.laws.specs.Bytes.{overwrite}
use Rattle.laws.proofs.Bytes.{over-nil, over-cat, over-front, set-over, over-eq}
use Rattle.laws.specs.Span.{every, upto, from}
use Rattle.std.specs.List.{list_all}
use Rattle.laws.proofs.Picks.{by, and_first, and_second}
use Rattle.calendar.specs.declared.Date.{Date}
use Rattle.calendar.specs.declared.Time.{Time}
use Rattle.calendar.specs.Calendar.{date_of, time_of}
use lib.Seq.{take_at, drop-cons}
use native.Mathlib.Numerals.{add-one}
use Rattle.adif.specs.Adif.{«CALL», QSO_DATE, TIME_ON, QSO_DATE_OFF, TIME_OFF, APP_STATION_ACKED}
use Rattle.adif.specs.Adif.{last_digits, digit_count, numeral, date_text, time_text, written, written_all, record_of, sign_char, sign_ok}
use Rattle.adif.specs.AdifCode.{Put, moment}

-- ---- the loop that counts digits

module _ (k r z : ℕ) (inv : z ≡ (k - 1) + digit_count (10 - k) r) (from : 1 ≤ k) where
  pub count-found : k < 10 → r < 10 → k ≡ z
  unfolding digit_count
  count-found h l =
      let j : 10 - k ≡ suc (9 - k) = omega arith in
      let e : digit_count (10 - k) r ≡ 1 = ap (λ (x : ℕ). digit_count x r) j ∙ rw (lt-ltb r 10 l) in
      omega arith

  pub count_next : k < 10 → 10 ≤ r → z ≡ (k + 1 - 1) + digit_count (10 - (k + 1)) (r / 10)
  unfolding digit_count
  count_next h l =
      let j : 10 - k ≡ suc (10 - (k + 1)) = omega arith in
      let e : digit_count (10 - k) r ≡ suc (digit_count (10 - (k + 1)) (r / 10)) = ap (λ (x : ℕ). digit_count x r) j ∙ rw (le-ltb r 10 l) in
      omega arith

  pub count-last : k ≡ 10 → 10 ≡ z
  unfolding digit_count
  count-last h =
      let j : 10 - k ≡ 0 = omega arith in
      let e : digit_count (10 - k) r ≡ 1 = ap (λ (x : ℕ). digit_count x r) j in
      omega arith

-- ---- digits

pub length_digits : (k n : ℕ) → length (last_digits k n) ≡ k
unfolding last_digits
length_digits zero n = refl
length_digits (suc k) n =
    let e = length_digits k (n / 10) in
    simp length-append (omega arith)

-- a digit stored, then those before it
pub digits-next : (l : List ℕ) (at i n : ℕ)
    → overwrite (set l (at + i) (48 + n % 10)) at (last_digits i (n / 10)) ≡ overwrite l at (last_digits (suc i) n)
unfolding last_digits
digits-next l at i n =
    let xs = last_digits i (n / 10) in
    let c = (48 + n % 10) ∷ [] in
    let e = set-over l (at + i) (48 + n % 10) ∙ ap (λ (j : ℕ). overwrite l (at + j) c) (sym (length_digits i (n / 10))) in
    ap (λ (m : List ℕ). overwrite m at xs) e ∙ over-front l at xs c

pub digits-none : (l : List ℕ) (at n : ℕ) → overwrite l at (last_digits 0 n) ≡ l
unfolding last_digits
digits-none l at n = over-nil l at

-- ---- a decimal has 1 to 10 digits

pub places-least : (k n : ℕ) → 1 ≤ digit_count k n
unfolding digit_count
places-least zero n = omega arith
places-least (suc k) n = by (λ (x : ℕ). 1 ≤ x) (ltb n 10) (λ e. omega arith) (λ e. omega arith)

pub places-most : (k n : ℕ) → digit_count k n ≤ suc k
unfolding digit_count
places-most zero n = omega arith
places-most (suc k) n = by (λ (x : ℕ). x ≤ suc (suc k)) (ltb n 10) (λ e. omega arith) (λ e. omega (arith, places-most k (n / 10)))

pub length-decimal : (n : ℕ) → length (numeral n) ≡ digit_count 9 n
unfolding numeral
length-decimal n = length_digits (digit_count 9 n) n

pub decimal-most : (n : ℕ) → length (numeral n) ≤ 10
decimal-most n = omega (arith, length-decimal n, places-most 9 n)

-- ---- one piece after the other

pub put-more : (l m o xs ys : List ℕ) (at p q : ℕ) → Put l at xs m p → Put m p ys o q → Put l at (xs ++ ys) o q
put-more l m o xs ys at p q a b = (
  b.0 ∙ ap (λ (x : List ℕ). overwrite x p ys) a.0 ∙ ap (λ (k : ℕ). overwrite (overwrite l at xs) k ys) a.1 ∙ over-cat l at xs ys,
  simp length-append (omega arith),
)

-- one character
pub put_one : (l : List ℕ) (at v : ℕ) → Put l at (v ∷ []) (set l at v) (at + 1)
put_one l at v = (set-over l at v, refl)

-- a whole list
pub put_whole : (l bs : List ℕ) → length bs ≡ length l → overwrite l 0 bs ≡ bs
put_whole l bs e =
    over-eq l 0 bs (omega arith) ∙ ap (λ (r : List ℕ). bs ++ r) (drop_of_length-le l {i = 0 + length bs} (omega arith)) ∙ append-nil bs

-- three runs of digits that fill a list
three : (l x y z : List ℕ) (i j k a b c : ℕ) → length l ≡ i + j + k
    → x ≡ overwrite l 0 (last_digits i a) → y ≡ overwrite x i (last_digits j b) → z ≡ overwrite y (i + j) (last_digits k c)
    → z ≡ last_digits i a ++ (last_digits j b ++ last_digits k c)
three l x y z i j k a b c n p q r =
    let u : Put l 0 (last_digits i a) x i = (p, omega (arith, length_digits i a)) in
    let v : Put x i (last_digits j b) y (i + j) = (q, omega (arith, length_digits j b)) in
    let w : Put y (i + j) (last_digits k c) z (i + j + k) = (r, omega (arith, length_digits k c)) in
    let t = put-more _ _ _ _ _ _ _ _ u (put-more _ _ _ _ _ _ _ _ v w) in
    t.0 ∙ put_whole l _ (omega (arith, t.1))

pub date-made : (l x y z : List ℕ) (t : ℕ) (d : Date) → length l ≡ 8 → d ≡ date_of t
    → x ≡ overwrite l 0 (last_digits 4 d.year) → y ≡ overwrite x 4 (last_digits 2 d.month)
    → z ≡ overwrite y 6 (last_digits 2 d.day) → z ≡ date_text t
unfolding date_text
date-made l x y z t d n e p q r =
    three l x y z 4 2 2 d.year d.month d.day n p q r
    ∙ ap (λ (f : Date). last_digits 4 f.year ++ (last_digits 2 f.month ++ last_digits 2 f.day)) e

pub time-made : (l x y z : List ℕ) (t : ℕ) (d : Time) → length l ≡ 6 → d ≡ time_of t
    → x ≡ overwrite l 0 (last_digits 2 d.hour) → y ≡ overwrite x 2 (last_digits 2 d.minute)
    → z ≡ overwrite y 4 (last_digits 2 d.second) → z ≡ time_text t
unfolding time_text
time-made l x y z t d n e p q r =
    three l x y z 2 2 2 d.hour d.minute d.second n p q r
    ∙ ap (λ (f : Time). last_digits 2 f.hour ++ (last_digits 2 f.minute ++ last_digits 2 f.second)) e

pub length-date : (t : ℕ) → length (date_text t) ≡ 8
unfolding date_text
length-date t = simp (length-append, length_digits)

pub length-time : (t : ℕ) → length (time_text t) ≡ 6
unfolding time_text
length-time t = simp (length-append, length_digits)

pub decimal-made : (l x : List ℕ) (at n k : ℕ) → k ≡ digit_count 9 n → x ≡ overwrite l at (last_digits k n) → Put l at (numeral n) x (at + k)
unfolding numeral
decimal-made l x at n k e p = (p ∙ ap (λ (j : ℕ). overwrite l at (last_digits j n)) e, omega (arith, length_digits (digit_count 9 n) n))

pub length-written : (name value : List ℕ) → length (written name value) ≤ length name + length value + 13
unfolding written
length-written name value = simp length-append (omega (arith, decimal-most (length value)))

-- the first k of a list that begins with a run of k
pub prefix-made : (l x bs : List ℕ) (k : ℕ) → Put l 0 bs x k → length bs ≤ length l → take k x ≡ bs
prefix-made l x bs k p h =
    let n : length bs ≡ k = omega (arith, p.1) in
    ap (take k) (p.0 ∙ over-eq l 0 bs (omega arith)) ∙ take_at bs _ k n

pub count-made : (l x name m o : List ℕ) (at n k q : ℕ) → Put l 0 (numeral n) x k → 10 ≤ length l
    → Put m at (written name (take k x)) o q → Put m at (written name (numeral n)) o q
count-made l x name m o at n k q p h r =
    rw (prefix-made l x (numeral n) k p (omega (arith, decimal-most n))) at r

-- ---- the fields of a second

pub moment-made : (l m o dated timed d h : List ℕ) (at p q t : ℕ) → d ≡ date_text t → h ≡ time_text t
    → Put l at (written dated d) m p → Put m p (written timed h) o q → Put l at (moment dated timed t) o q
moment-made l m o dated timed d h at p q t e f a b = put-more _ _ _ _ _ _ _ _ (rw e at a) (rw f at b)

moment-most : (dated timed : List ℕ) (t : ℕ) → length (moment dated timed t) ≤ length dated + length timed + 40
moment-most dated timed t =
    simp length-append (omega (arith, length-written dated (date_text t), length-written timed (time_text t), length-date t, length-time t))

-- ---- the record

pub call-most : (call : List ℕ) → length call ≤ 12 → length (written «CALL» call) ≤ 29
call-most call h = omega (arith, length-written «CALL» call)

pub on-most : (t : ℕ) → length (moment QSO_DATE TIME_ON t) ≤ 55
on-most t = omega (arith, moment-most QSO_DATE TIME_ON t)

pub off-most : (t : ℕ) → length (moment QSO_DATE_OFF TIME_OFF t) ≤ 60
off-most t = omega (arith, moment-most QSO_DATE_OFF TIME_OFF t)

pub acked-most : (n : ℕ) → length (written APP_STATION_ACKED (numeral n)) ≤ 40
acked-most n = omega (arith, length-written APP_STATION_ACKED (numeral n), decimal-most n)

module _ (call : List ℕ) (on off acked : ℕ) where
  pub record-made : (l m₁ m₂ m₃ m₄ o : List ℕ) (p₁ p₂ p₃ p₄ q : ℕ)
      → Put l 0 (written «CALL» call) m₁ p₁
      → Put m₁ p₁ (moment QSO_DATE TIME_ON on) m₂ p₂
      → Put m₂ p₂ (moment QSO_DATE_OFF TIME_OFF off) m₃ p₃
      → Put m₃ p₃ (written APP_STATION_ACKED (numeral acked)) m₄ p₄
      → Put m₄ p₄ (written_all []) o q
      → Put l 0 (record_of call on off acked) o q
  unfolding record_of
  record-made l m₁ m₂ m₃ m₄ o p₁ p₂ p₃ p₄ q a b c d e =
      let r = put-more _ _ _ _ _ _ _ _ a (put-more _ _ _ _ _ _ _ _ b (put-more _ _ _ _ _ _ _ _ c (put-more _ _ _ _ _ _ _ _ d e))) in
      simp append_assoc at r

  -- 256 bytes are enough
  pub record-most : length call ≤ 12 → length (record_of call on off acked) ≤ 189
  unfolding record_of
  record-most h =
      let f = simp length-append at (on-most on) in
      let g = simp length-append at (off-most off) in
      simp length-append (omega (arith, f, g, call-most call h, acked-most acked))

-- ---- the call sign

-- a test at every place of a list is the test of all that stands there
listed-from : (t : ℕ → Bool) (s : List ℕ) (a m : ℕ) → a + m ≡ length s → every (λ i. t (get_or s i 0)) (from a m) ≡ list_all t (drop a s)
unfolding from every
listed-from t s a zero e = sym (ap (list_all t) (drop_of_length-le s {i = a} (omega arith)))
listed-from t s a (suc m) e =
    ap (λ (b : Bool). t (get_or s a 0) && b) (listed-from t s (a + 1) m (omega arith))
    ∙ sym (ap (list_all t) (drop-cons s a 0 (omega arith) ∙ ap (λ (i : ℕ). get_or s a 0 ∷ drop i s) (sym (add-one a))))

every-listed : (t : ℕ → Bool) (s : List ℕ) → every (λ i. t (get_or s i 0)) (upto 0 (length s)) ≡ list_all t s
unfolding upto
every-listed t s = listed-from t s 0 (length s - 0) (omega arith)

module _ (s : List ℕ) where
  pub sign-none : length s ≡ 0 → false ≡ sign_ok s
  unfolding sign_ok
  sign-none h = simp (lt-leb 1 (length s) (omega arith))

  pub sign-long : 12 < length s → false ≡ sign_ok s
  unfolding sign_ok
  sign-long h = simp (le-leb 1 (length s) (omega arith), lt-leb (length s) 12 h)

  pub sign-made : (b : Bool) → (length s ≡ 0 → ⊥) → length s ≤ 12 → b ≡ list_all sign_char s → b ≡ sign_ok s
  unfolding sign_ok
  sign-made b h l e = e ∙ sym (every-listed sign_char s) ∙ simp (le-leb 1 (length s) (omega arith), le-leb (length s) 12 l)

pub sign-length : (s : List ℕ) → sign_ok s ≡ true → length s ≤ 12
unfolding sign_ok
sign-length s e = leb-true _ _ (and_first _ _ (and_second (leb 1 (length s)) _ e))
