-- What a window keeps agrees with a stream, and stays so. Assumes nothing.
use Prim.Native.Nat.{ℕ, zero, suc, ◌+◌, ◌-◌, ◌≤◌, ◌<◌}
use mathlib.Core.Path.{◌≡◌, refl, sym, ap, ap₂, ◌∙◌, subst}
use mathlib.Core.Bool.{Bool, true, false, cond, ◌||◌, false≢true}
use mathlib.Core.List.{List, [], ◌∷◌, ◌++◌, map}
use native.Mathlib.Omega.{arith}
use lib.Dec.{ltb}
use lib.ListN.{length, take, drop, get_or, replicate, length-drop, length-append, length-replicate, get_or-append}
use lib.Seq.{drop-nil, get_or-drop}
use borrow.Author.Tests.{le-leb, ltb-true, ltb-false}
use Rattle.laws.proofs.Picks.{by, test, or_left, or_right}
use Rattle.window.specs.Window.{is_kept, kept_byte, keep_at, keep_from, lead, handed, moved}
use Rattle.window.specs.WindowCode.{has}

-- each place that is kept holds the byte of l there
abbrev pub WindowFits : List ℕ → List ℕ → Type 0
WindowFits [] l = Unit {0}
WindowFits (v ∷ w) [] = (is_kept v ≡ false) × WindowFits w []
WindowFits (v ∷ w) (y ∷ l) = (is_kept v ≡ true → kept_byte v ≡ y) × WindowFits w l

pub fits-none : (w l : List ℕ) → WindowFits w [] → WindowFits w l
fits-none [] l f = tt
fits-none (v ∷ w) [] f = f
fits-none (v ∷ w) (y ∷ l) f = (λ e. absurd (false≢true (sym f.0 ∙ e)), fits-none w l f.1)

-- the stream grows at its end
pub fits_more : (w l m : List ℕ) → WindowFits w l → WindowFits w (l ++ m)
fits_more [] l m f = tt
fits_more (v ∷ w) [] m f = fits-none (v ∷ w) m f
fits_more (v ∷ w) (y ∷ l) m f = (f.0, fits_more w l m f.1)

pub fits-zeros : (n : ℕ) (l : List ℕ) → WindowFits (replicate n 0) l
fits-zeros zero l = tt
fits-zeros (suc n) [] = (refl, fits-zeros n [])
fits-zeros (suc n) (y ∷ l) = (λ e. absurd (false≢true e), fits-zeros n l)

-- bytes of the stream are kept
first_byte : (v b y : ℕ) → b < 256 → b ≡ y → (is_kept v ≡ true → kept_byte v ≡ y) → is_kept (cond (is_kept v) v (256 + b)) ≡ true → kept_byte (cond (is_kept v) v (256 + b)) ≡ y
first_byte v b y h e f = by (λ (x : ℕ). is_kept x ≡ true → kept_byte x ≡ y) (is_kept v) (λ k _. f k) (λ k _. omega (arith, h, e))

pub fits-keep : (d : ℕ) (bs w l : List ℕ) → ((i : ℕ) → i < length bs → get_or bs i 0 < 256) → d + length bs ≤ length l → bs ≡ take (length bs) (drop d l) → WindowFits w l → WindowFits (keep_at d bs w) l
unfolding keep_at
fits-keep d bs [] l s h e f = tt
fits-keep zero [] (v ∷ w) l s h e f = f
fits-keep zero (b ∷ bs) (v ∷ w) [] s h e f = absurd (omega (arith, h))
fits-keep zero (b ∷ bs) (v ∷ w) (y ∷ l) s h e f = (
  first_byte v b y (s 0 (omega arith)) (ap (λ (x : List ℕ). get_or x 0 0) e) f.0,
  fits-keep zero bs w l (λ i k. s (suc i) (omega (arith, k))) (omega (arith, h)) (ap (drop 1) e) f.1,
)
fits-keep (suc d) bs (v ∷ w) [] s h e f = absurd (omega (arith, h))
fits-keep (suc d) bs (v ∷ w) (y ∷ l) s h e f = (f.0, fits-keep d bs w l s (omega (arith, h)) e f.1)

-- what is handed on is a beginning of the stream
pub fits-lead : (w l : List ℕ) → WindowFits w l → lead w ≤ length l
unfolding lead
fits-lead [] l f = omega arith
fits-lead (v ∷ w) [] f = subst (λ (b : Bool). cond b (suc (lead w)) 0 ≤ 0) (sym f.0) (omega arith)
fits-lead (v ∷ w) (y ∷ l) f = by (λ (n : ℕ). n ≤ suc (length l)) (is_kept v) (λ k. omega (arith, fits-lead w l f.1)) (λ k. omega arith)

pub fits-handed : (w l : List ℕ) → WindowFits w l → handed w ≡ take (lead w) l
unfolding lead
fits-handed [] l f = refl
fits-handed (v ∷ w) [] f = subst (λ (b : Bool). map kept_byte (take (cond b (suc (lead w)) 0) (v ∷ w)) ≡ take (cond b (suc (lead w)) 0) []) (sym f.0) refl
fits-handed (v ∷ w) (y ∷ l) f =
    by (λ (n : ℕ). map kept_byte (take n (v ∷ w)) ≡ take n (y ∷ l)) (is_kept v) (λ k. ap₂ ◌∷◌ (f.0 k) (fits-handed w l f.1)) (λ k. refl)

pub fits-drop : (k : ℕ) (w l : List ℕ) → WindowFits w l → WindowFits (drop k w) (drop k l)
fits-drop zero w l f = f
fits-drop (suc k) [] l f = tt
fits-drop (suc k) (v ∷ w) [] f = rw (sym (drop-nil {A = ℕ} k)) (fits-drop k w [] f.1)
fits-drop (suc k) (v ∷ w) (y ∷ l) f = fits-drop k w l f.1

pub fits-append : (w l : List ℕ) (n : ℕ) → WindowFits w l → WindowFits (w ++ replicate n 0) l
fits-append [] l n f = fits-zeros n l
fits-append (v ∷ w) [] n f = (f.0, fits-append w [] n f.1)
fits-append (v ∷ w) (y ∷ l) n f = (f.0, fits-append w l n f.1)

pub fits_moved : (w l : List ℕ) → WindowFits w l → WindowFits (moved w) (drop (lead w) l)
fits_moved w l f = fits-append (drop (lead w) w) (drop (lead w) l) (lead w) (fits-drop (lead w) w l f)

-- ---- what is kept stays kept

pub keep-kept : (d : ℕ) (bs w : List ℕ) (i : ℕ) → is_kept (get_or w i 0) ≡ true → is_kept (get_or (keep_at d bs w) i 0) ≡ true
unfolding keep_at
keep-kept d bs [] i e = e
keep-kept zero [] (v ∷ w) i e = e
keep-kept zero (b ∷ bs) (v ∷ w) zero e = by (λ (x : ℕ). is_kept x ≡ true) (is_kept v) (λ k. k) (λ k. le-leb 256 (256 + b) (omega arith))
keep-kept zero (b ∷ bs) (v ∷ w) (suc i) e = keep-kept zero bs w i e
keep-kept (suc d) bs (v ∷ w) zero e = e
keep-kept (suc d) bs (v ∷ w) (suc i) e = keep-kept d bs w i e

-- and what is to be kept is
pub keep-new : (d : ℕ) (bs w : List ℕ) (i : ℕ) → d ≤ i → i < d + length bs → i < length w → is_kept (get_or (keep_at d bs w) i 0) ≡ true
unfolding keep_at
keep-new d bs [] i l h n = absurd (omega (arith, n))
keep-new zero [] (v ∷ w) i l h n = absurd (omega (arith, h))
keep-new zero (b ∷ bs) (v ∷ w) zero l h n = by (λ (x : ℕ). is_kept x ≡ true) (is_kept v) (λ k. k) (λ k. le-leb 256 (256 + b) (omega arith))
keep-new zero (b ∷ bs) (v ∷ w) (suc i) l h n = keep-new zero bs w i (omega arith) (omega (arith, h)) (omega (arith, n))
keep-new (suc d) bs (v ∷ w) zero l h n = absurd (omega (arith, l))
keep-new (suc d) bs (v ∷ w) (suc i) l h n = keep-new d bs w i (omega (arith, l)) (omega (arith, h)) (omega (arith, n))

pub has-or : (first : ℕ) (w : List ℕ) (o : ℕ) → has first w o ≡ true → (first ≤ o → is_kept (get_or w (o - first) 0) ≡ true)
has-or first w o e h = subst (λ (b : Bool). (b || is_kept (get_or w (o - first) 0)) ≡ true) (lt_no o first h) e
  where
    lt_no : (a b : ℕ) → b ≤ a → ltb a b ≡ false
    lt_no a b k = test (ltb a b) (λ t. absurd (omega (arith, ltb-true a b t, k))) (λ t. t)

has-by : (first : ℕ) (w : List ℕ) (o : ℕ) → (first ≤ o → is_kept (get_or w (o - first) 0) ≡ true) → has first w o ≡ true
has-by first w o f = test (ltb o first) (λ t. or_left (ltb o first) _ t) (λ t. or_right (ltb o first) _ (f (ltb-false o first t)))

pub has-stays : (first off : ℕ) (bs w : List ℕ) (o : ℕ) → has first w o ≡ true → has first (keep_from first off bs w) o ≡ true
has-stays first off bs w o e = has-by first (keep_from first off bs w) o (λ h. keep-kept (off - first) (drop (first - off) bs) w (o - first) (has-or first w o e h))

pub has_new : (first off : ℕ) (bs w : List ℕ) (o : ℕ) → off ≤ o → o < off + length bs → off + length bs ≤ first + length w → has first (keep_from first off bs w) o ≡ true
has_new first off bs w o l h n =
    has-by first (keep_from first off bs w) o
    (λ k. keep-new (off - first) (drop (first - off) bs) w (o - first) (omega (arith, l, k)) (omega (arith, length-drop (first - off) bs, l, h, k)) (omega (arith, n, h, k)))

pub drop-lead : (w : List ℕ) → lead w ≤ length w
unfolding lead
drop-lead [] = omega arith
drop-lead (v ∷ w) = by (λ (n : ℕ). n ≤ suc (length w)) (is_kept v) (λ k. omega (arith, drop-lead w)) (λ k. omega arith)

-- kept places are within the window
pub kept-within : (w : List ℕ) (i : ℕ) → is_kept (get_or w i 0) ≡ true → i < length w
kept-within [] i e = absurd (false≢true e)
kept-within (v ∷ w) zero e = omega arith
kept-within (v ∷ w) (suc i) e = omega (arith, kept-within w i e)

moved_at : (w : List ℕ) (i : ℕ) → lead w ≤ i → is_kept (get_or w i 0) ≡ true → is_kept (get_or (moved w) (i - lead w) 0) ≡ true
moved_at w i h e =
    let k = lead w in
    let n : i < length w = kept-within w i e in
    let a : get_or (moved w) (i - k) 0 ≡ get_or w i 0 =
    get_or-append (drop k w) (replicate k 0) 0 (i - k) (omega (arith, length-drop k w, n, h)) ∙ get_or-drop k w (i - k) 0 ∙ ap (λ (x : ℕ). get_or w x 0) (back k i h) in
    subst (λ (x : ℕ). is_kept x ≡ true) (sym a) e
  where
    back : (k j : ℕ) → k ≤ j → k + (j - k) ≡ j
    back k j l = omega (arith, l)

pub has-moved : (first : ℕ) (w : List ℕ) (o : ℕ) → has first w o ≡ true → has (first + lead w) (moved w) o ≡ true
has-moved first w o e =
    has-by (first + lead w) (moved w) o
    (λ h. subst (λ (x : ℕ). is_kept (get_or (moved w) x 0) ≡ true) (less o first (lead w)) (moved_at w (o - first) (omega (arith, h)) (has-or first w o e (omega (arith, h)))))
  where
    less : (a b k : ℕ) → a - b - k ≡ a - (b + k)
    less a b k = omega arith

pub length-keep : (d : ℕ) (bs w : List ℕ) → length (keep_at d bs w) ≡ length w
unfolding keep_at
length-keep d bs [] = refl
length-keep zero [] (v ∷ w) = refl
length-keep zero (b ∷ bs) (v ∷ w) = ap suc (length-keep zero bs w)
length-keep (suc d) bs (v ∷ w) = ap suc (length-keep d bs w)

pub length_moved : (w : List ℕ) → length (moved w) ≡ length w
length_moved w = omega (arith, length-append (drop (lead w) w) (replicate (lead w) 0), length-drop (lead w) w, length-replicate {A = ℕ} (lead w) 0, drop-lead w)

pub fits-part : (k : ℕ) (w l : List ℕ) → WindowFits w l → WindowFits (take k w) l
fits-part zero w l f = tt
fits-part (suc k) [] l f = tt
fits-part (suc k) (v ∷ w) [] f = (f.0, fits-part k w [] f.1)
fits-part (suc k) (v ∷ w) (y ∷ l) f = (f.0, fits-part k w l f.1)

pub fits-at : (w l : List ℕ) (i : ℕ) → WindowFits w l → is_kept (get_or w i 0) ≡ true → kept_byte (get_or w i 0) ≡ get_or l i 0
fits-at [] l i f e = absurd (false≢true e)
fits-at (v ∷ w) [] zero f e = absurd (false≢true (sym f.0 ∙ e))
fits-at (v ∷ w) [] (suc i) f e = fits-at w [] i f.1 e
fits-at (v ∷ w) (y ∷ l) zero f e = f.0 e
fits-at (v ∷ w) (y ∷ l) (suc i) f e = fits-at w l i f.1 e
