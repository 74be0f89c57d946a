-- A turn of each loop, and its end: noting a q, and filling the listing. Assumes nothing.
use Prim.Native.Nat.{ℕ, zero, suc, ◌+◌, ◌-◌, ◌≤◌, ◌<◌}
use mathlib.Core.Path.{◌≡◌, refl, sym, ap, ◌∙◌}
use mathlib.Core.Bool.{cond}
use mathlib.Core.List.{List, [], ◌∷◌, ◌++◌, map, append-nil}
use native.Mathlib.Omega.{arith}
use lib.Dec.{eqb, ltb}
use lib.Ieee.{Float}
use lib.ListN.{length, set, get_or, replicate, length-append, length-map}
use lib.Seq.{set_at, append_snoc}
use borrow.Author.Tests.{lt-ltb, le-ltb, eq-eqb, ne_eqb}
use Rattle.laws.specs.Span.{from, upto, first}
use Rattle.laws.proofs.Span.{upto-more, upto-none, first-hit, first-miss, first-end}
use Rattle.laws.proofs.Lists.{map-append}
use Rattle.config.specs.declared.Marks.{Marks}
use Rattle.report.specs.Report.{snr_from_q}
use Rattle.report.specs.declared.ChanClass.{ChanClass}
use Rattle.levels.specs.Usable.{level_for}
use Rattle.levels.proofs.usable.Laws.{level-for-lt}
use Rattle.reachable.specs.Reachable.{chosen_by, no_q, Reached, given, places, listing}

-- ---- a function along a..a + m

map_same : (g h : ℕ → ℕ) (a m : ℕ) → ((l : ℕ) → a ≤ l → g l ≡ h l) → map g (from a m) ≡ map h (from a m)
unfolding from
map_same g h a zero f = refl
map_same g h a (suc m) f = λ i. f a (omega arith) i ∷ map_same g h (a + 1) m (λ l k. f l (omega arith)) i

-- h is g but at a + i
set-map : (g h : ℕ → ℕ) (v a m i : ℕ) → i < m → v ≡ h (a + i) → ((l : ℕ) → (l ≡ a + i → ⊥) → g l ≡ h l)
    → set (map g (from a m)) i v ≡ map h (from a m)
unfolding from
set-map g h v a zero i k e f = absurd (omega arith)
set-map g h v a (suc m) zero k e f =
    let z : v ≡ h a = e ∙ ap h (omega arith) in
    λ i. z i ∷ map_same g h (a + 1) m (λ l j. f l (λ w. omega arith)) i
set-map g h v a (suc m) (suc j) k e f =
    λ i. f a (λ w. omega arith) i ∷ set-map g h v (a + 1) m j (omega arith) (e ∙ ap h (omega arith)) (λ l n. f l (λ w. n (omega arith))) i

pub get_d-map-from : (g : ℕ → ℕ) (d a m i : ℕ) → i < m → get_or (map g (from a m)) i d ≡ g (a + i)
unfolding from
get_d-map-from g d a zero i h = absurd (omega arith)
get_d-map-from g d a (suc m) zero h = ap g (omega arith)
get_d-map-from g d a (suc m) (suc i) h = get_d-map-from g d (a + 1) m i (omega arith) ∙ ap g (omega arith)

-- ---- noting a q: for each level the lowest of q..n

abbrev lowest_in : (ℕ → ℕ) → ℕ → ℕ → ℕ → ℕ
lowest_in f q n l = first (λ k. eqb (f k) l) no_q (upto q n)

abbrev pub lowest_from : (ℕ → ℕ) → ℕ → ℕ → List ℕ
lowest_from f q n = map (lowest_in f q n) (upto 0 17)

map-none : (g : ℕ → ℕ) (v a m : ℕ) → ((l : ℕ) → g l ≡ v) → map g (from a m) ≡ replicate m v
unfolding from
map-none g v a zero f = refl
map-none g v a (suc m) f = λ i. f a i ∷ map-none g v (a + 1) m f i

-- what `level_for` gives is a level
pub chosen : (m : Marks) (power : ℕ) (c : ChanClass) (top : ℕ) (db : Float) (q l : ℕ) → top < 17 → db ≡ snr_from_q q
    → l ≡ level_for m power c top db → (l < 17) × (l ≡ chosen_by m power c top q)
chosen m power c top db q l h e d = (rw d (level-for-lt m power c top db h), d ∙ ap (level_for m power c top) e)

pub noted-none : (f : ℕ → ℕ) (q n : ℕ) → n ≤ q → replicate 17 no_q ≡ lowest_from f q n
unfolding upto
noted-none f q n h = sym (map-none (lowest_in f q n) no_q 0 17 (λ l. first-end q n (λ k. eqb (f k) l) no_q h))

pub noted : (f : ℕ → ℕ) (xs : List ℕ) (p q n l : ℕ) → p ≡ q + 1 → q < n → l < 17 → l ≡ f q → xs ≡ lowest_from f p n
    → set xs l q ≡ lowest_from f q n
unfolding upto
noted f xs p q n l s h b d e =
    ap (λ (ys : List ℕ). set ys l q) (e ∙ ap (λ (k : ℕ). lowest_from f k n) s)
    ∙ set-map (lowest_in f (q + 1) n) (lowest_in f q n) q 0 17 l b
    (sym (first-hit q n (λ k. eqb (f k) (0 + l)) no_q h (eq-eqb (f q) (0 + l) (omega arith))))
    (λ k w. sym (first-miss q n (λ j. eqb (f j) k) no_q h (ne_eqb (f q) k (λ z. w (omega arith)))))

-- ---- filling the listing

-- some entries stand in the first places, and those of the levels from l on are to come
pub record Filled (g : ℕ → ℕ) (level q : List ℕ) (n l : ℕ) : Type 0 where
  pub done : List Reached
  pub whole : given g (upto 0 17) ≡ done ++ given g (upto l 17)
  pub count : n ≡ length done
  pub levels : level ≡ places (map (λ (x : Reached). x.level) done)
  pub qs : q ≡ places (map (λ (x : Reached). x.q) done)

pub filled_none : (g : ℕ → ℕ) → Filled g (replicate 17 0) (replicate 17 0) 0 0
filled_none g = record { done = []; whole = refl; count = refl; levels = refl; qs = refl }

-- one place more
place : (xs : List ℕ) (n v : ℕ) → n ≡ length xs → n < 17 → set (places xs) n v ≡ places (xs ++ (v ∷ []))
place xs n v e h =
    let s : 17 - length xs ≡ suc (17 - (length xs + 1)) = omega arith in
    let t : 17 - (length xs + 1) ≡ 17 - length (xs ++ (v ∷ [])) = omega (arith, length-append xs (v ∷ [])) in
    ap (λ (m : ℕ). set (xs ++ replicate m 0) n v) s
    ∙ set_at xs 0 (replicate (17 - (length xs + 1)) 0) v n (sym e)
    ∙ sym (append_snoc xs v (replicate (17 - (length xs + 1)) 0))
    ∙ ap (λ (m : ℕ). xs ++ (v ∷ []) ++ replicate m 0) t

stored : (f : Reached → ℕ) (x : Reached) (ys : List ℕ) (done : List Reached) (n v : ℕ) → n ≡ length done → n < 17
    → ys ≡ places (map f done) → v ≡ f x → set ys n v ≡ places (map f (done ++ (x ∷ [])))
stored f x ys done n v e h p z =
    ap (λ (us : List ℕ). set us n v) p
    ∙ place (map f done) n v (e ∙ sym (length-map done f)) h
    ∙ ap (λ (k : ℕ). places (map f done ++ (k ∷ []))) z
    ∙ ap places (sym (map-append f done (x ∷ [])))

given-more : (g : ℕ → ℕ) (l : ℕ) → l < 17 → g l < no_q → given g (upto l 17) ≡ record { level = l; q = g l } ∷ given g (upto (l + 1) 17)
unfolding given
given-more g l h k = rw (upto-more l 17 h) (rw (lt-ltb (g l) no_q k) refl)

given-less : (g : ℕ → ℕ) (l : ℕ) → l < 17 → no_q ≤ g l → given g (upto l 17) ≡ given g (upto (l + 1) 17)
unfolding given
given-less g l h k = rw (upto-more l 17 h) (rw (le-ltb (g l) no_q k) refl)

module _ (g : ℕ → ℕ) (level q : List ℕ) (n l : ℕ) (i : Filled g level q n l) (h : l < 17) where
  pub filled-hit : n < 17 → (k : ℕ) → k ≡ g l → k < no_q → Filled g (set level n l) (set q n k) (n + 1) (l + 1)
  filled-hit b k e s =
      let x : Reached = record { level = l; q = g l } in
      record {
        done = i.done ++ (x ∷ []);
        whole = i.whole
            ∙ ap (λ (xs : List Reached). i.done ++ xs) (given-more g l h (omega arith))
            ∙ sym (append_snoc i.done x (given g (upto (l + 1) 17)));
        count = omega (arith, i.count, length-append i.done (x ∷ []));
        levels = stored (λ (y : Reached). y.level) x level i.done n l i.count b i.levels refl;
        qs = stored (λ (y : Reached). y.q) x q i.done n k i.count b i.qs e;
      }

  pub filled-miss : no_q ≤ g l → Filled g level q n (l + 1)
  filled-miss k =
      record {
        done = i.done;
        whole = i.whole ∙ ap (λ (xs : List Reached). i.done ++ xs) (given-less g l h k);
        count = i.count;
        levels = i.levels;
        qs = i.qs;
      }

pub filled-as : (g : ℕ → ℕ) (level level' q q' : List ℕ) (n n' l : ℕ) → Filled g level q n l → level' ≡ level → q' ≡ q → n' ≡ n
    → Filled g level' q' n' l
filled-as g level level' q q' n n' l i a b c =
    record { done = i.done; whole = i.whole; count = c ∙ i.count; levels = a ∙ i.levels; qs = b ∙ i.qs }

pub filled-all : (g : ℕ → ℕ) (level q : List ℕ) (n l : ℕ) → Filled g level q n l → 17 ≤ l
    → record { refusal = 0; n = n; level = level; q = q } ≡ listing 0 (given g (upto 0 17))
unfolding listing given
filled-all g level q n l i h =
    let w : given g (upto 0 17) ≡ i.done = i.whole ∙ (rw (upto-none l 17 h) (append-nil i.done)) in
    (λ j. record { refusal = 0; n = i.count j; level = i.levels j; q = i.qs j }) ∙ ap (listing 0) (sym w)

-- ---- what was noted is what is listed

given-same : (g h : ℕ → ℕ) (a m : ℕ) → ((l : ℕ) → a ≤ l → l < a + m → g l ≡ h l) → given g (from a m) ≡ given h (from a m)
unfolding given from
given-same g h a zero f = refl
given-same g h a (suc m) f =
    rw (f a (omega arith) (omega arith))
    (ap (λ (xs : List Reached). cond (ltb (h a) no_q) (record { level = a; q = h a } ∷ xs) xs)
    (given-same g h (a + 1) m (λ l i j. f l (omega arith) (omega arith))))

pub listed-noted : (g : ℕ → ℕ) (xs : List ℕ) → xs ≡ map g (upto 0 17) → given (λ l. get_or xs l 0) (upto 0 17) ≡ given g (upto 0 17)
unfolding upto
listed-noted g xs e =
    given-same (λ l. get_or xs l 0) g 0 17
    (λ l i j. ap (λ (ys : List ℕ). get_or ys l 0) e ∙ get_d-map-from g 0 0 17 l (omega arith) ∙ ap g (omega arith))
