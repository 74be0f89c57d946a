-- What a receiver keeps of frames that carry the bytes of a stream, and what its bitmap says. Assumes nothing.
use Prim.Native.Nat.{ℕ, zero, suc, ◌+◌, ◌-◌, ◌^◌, ◌≤◌, ◌<◌}
use mathlib.Core.Path.{◌≡◌, sym, ap, ap₂, ◌∙◌, subst}
use mathlib.Core.Logic.{◌⊎◌, inl, inr}
use mathlib.Core.Bool.{true, ◌&&◌}
use mathlib.Core.List.{List, [], ◌∷◌}
use native.Mathlib.Omega.{arith}
use native.Mathlib.Nat.{two-pow-succ}
use lib.Dec.{leb}
use lib.Pow.{pow_mono}
use lib.ListN.{length, take, drop, get_or, length-drop}
use lib.Seq.{take-nil, drop-drop, get_or-drop}
use borrow.Author.Tests.{leb-true}
use Rattle.laws.proofs.Picks.{by, and_first, and_second}
use Rattle.ledger.specs.Reply.{bit_at}
use Rattle.window.specs.Window.{keep_from}
use Rattle.window.specs.WindowCode.{has}
use Rattle.window.proofs.Fits.{WindowFits, fits-keep, has-stays, has_new, length-keep}
use Rattle.receiver.specs.Frames.{Slotted, len_of, off_of, payload_of, frame_ok, slot_ok, reach_ok, box_bytes}
use Rattle.receiver.specs.declared.Taking.{Taking}
use Rattle.receiver.specs.Taking.{take_one, all_taken}
use Rattle.receiver.proofs.Bits.{bit-more}

drop-take : (m n : ℕ) (l : List ℕ) → drop m (take n l) ≡ take (n - m) (drop m l)
drop-take zero n l = ap (λ (k : ℕ). take k l) (let e : n ≡ n - 0 = omega arith in e)
drop-take (suc m) zero l = sym (ap (λ (k : ℕ). take k (drop (suc m) l)) (let e : 0 - suc m ≡ 0 = omega arith in e))
drop-take (suc m) (suc n) [] = sym (take-nil (suc n - suc m))
drop-take (suc m) (suc n) (x ∷ l) = drop-take m n l ∙ ap (λ (k : ℕ). take k (drop m l)) (let e : n - m ≡ suc n - suc m = omega arith in e)

-- a frame that carries the bytes of l at its offset
pub record Carries (l f : List ℕ) : Type 0 where
  pub whole : length (payload_of f) ≡ len_of f
  pub within : off_of f + len_of f ≤ length l
  pub same : payload_of f ≡ take (len_of f) (drop (off_of f) l)
  pub bytes : (i : ℕ) → get_or (payload_of f) i 0 < 256

module _ (l : List ℕ) (first : ℕ) where
  pub fits-take : (f w : List ℕ) → first ≤ length l → Carries l f → WindowFits w (drop first l) → WindowFits (keep_from first (off_of f) (payload_of f) w) (drop first l)
  fits-take f w h c g =
      let o = off_of f in
      let n = len_of f in
      let bs = drop (first - o) (payload_of f) in
      let len : length bs ≡ n - (first - o) = omega (arith, length-drop (first - o) (payload_of f), c.whole) in
      let at : o + (first - o) ≡ first + (o - first) = omega arith in
      fits-keep (o - first) bs w (drop first l)
      (λ i k. subst (λ (x : ℕ). x < 256) (sym (get_or-drop (first - o) (payload_of f) i 0)) (c.bytes (first - o + i)))
      (omega (arith, length-drop first l, len, c.within, h))
      (ap (drop (first - o)) c.same ∙ drop-take (first - o) n (drop o l) ∙ ap₂ take (sym len) (drop-drop (first - o) o l ∙ ap (λ (k : ℕ). drop k l) at ∙ sym (drop-drop (o - first) first l)))
      g

  -- all bytes of a frame have been handed on or are kept
  abbrev pub Had : List ℕ → List ℕ → Type 0
  Had f w = (o : ℕ) → off_of f ≤ o → o < off_of f + len_of f → has first w o ≡ true

  -- and so of each frame that a bitmap names; `at` gives the frame of each place in the burst
  abbrev pub Named : (ℕ → List ℕ) → ℕ → List ℕ → Type 0
  Named at b w = (i : ℕ) → bit_at b i ≡ true → Had (at i) w

  -- each frame has its place in the burst as slot number, and carries the bytes of l
  abbrev pub FromBurst : (ℕ → List ℕ) → List Slotted → Type 0
  FromBurst at [] = Unit {0}
  FromBurst at (x ∷ xs) = (x.frame ≡ at x.slot) × Carries l x.frame × FromBurst at xs

  pub record Took (at : ℕ → List ℕ) (y : Taking × List ℕ) : Type 0 where
    pub length : length y.1 ≡ box_bytes
    pub fits : WindowFits y.1 (drop first l)
    pub few : y.0.least ≤ 64
    pub small : y.0.bitmap < 2 ^ y.0.least
    pub named : Named at y.0.bitmap y.1

  module _ (at : ℕ → List ℕ) (h : first ≤ length l) where
    named_more : (t : Taking) (x : Slotted) (w : List ℕ) → x.frame ≡ at x.slot → Carries l x.frame → length w ≡ box_bytes → reach_ok first x.frame ≡ true
        → t.bitmap < 2 ^ x.slot → Named at t.bitmap w → Named at (t.bitmap + 2 ^ x.slot) (keep_from first (off_of x.frame) (payload_of x.frame) w)
    named_more t x w e c n r s k i b o lo hi = go (bit-more x.slot i t.bitmap s b)
      where
        go : (i ≡ x.slot) ⊎ (bit_at t.bitmap i ≡ true) → has first (keep_from first (off_of x.frame) (payload_of x.frame) w) o ≡ true
        go (inl z) =
            let f : at i ≡ x.frame = ap at z ∙ sym e in
            let fits : off_of x.frame + len_of x.frame ≤ first + box_bytes = leb-true _ _ (and_first _ _ r) in
            has_new first (off_of x.frame) (payload_of x.frame) w o
            (subst (λ (y : List ℕ). off_of y ≤ o) f lo)
            (omega (arith, c.whole, subst (λ (y : List ℕ). o < off_of y + len_of y) f hi))
            (omega (arith, c.whole, n, fits))
        go (inr z) = has-stays first (off_of x.frame) (payload_of x.frame) w o (k i z o lo hi)

    took_one : (x : Slotted) (y : Taking × List ℕ) → x.frame ≡ at x.slot → Carries l x.frame → Took at y → Took at (take_one first x y)
    unfolding take_one
    took_one x y e c k =
        by (Took at) (slot_ok y.0.least x.slot && frame_ok x.frame)
        (λ ok. by (Took at) (reach_ok first x.frame)
        (λ r.
        let lo : y.0.least ≤ x.slot = leb-true _ _ (and_first _ _ (and_first _ _ ok)) in
        let s : y.0.bitmap < 2 ^ x.slot = omega (arith, k.small, pow_mono lo) in
        record {
          length = length-keep _ _ y.1 ∙ k.length;
          fits = fits-take x.frame y.1 h c k.fits;
          few = omega (arith, leb-true x.slot 63 (and_second (leb y.0.least x.slot) (leb x.slot 63) (and_first _ _ ok)));
          small = subst (λ (n : ℕ). y.0.bitmap + 2 ^ x.slot < n) (sym (two-more x.slot)) (omega (arith, s));
          named = named_more y.0 x y.1 e c k.length r s k.named;
        })
        (λ r. record { length = k.length; fits = k.fits; few = k.few; small = k.small; named = k.named }))
        (λ no. record { length = k.length; fits = k.fits; few = k.few; small = k.small; named = k.named })
      where
        two-more : (n : ℕ) → 2 ^ (n + 1) ≡ 2 ^ n + 2 ^ n
        two-more n = ap (λ (m : ℕ). 2 ^ m) (let q : n + 1 ≡ suc n = omega arith in q) ∙ two-pow-succ n

    pub took-all : (xs : List Slotted) (y : Taking × List ℕ) → FromBurst at xs → Took at y → Took at (all_taken first xs y)
    unfolding all_taken
    took-all [] y s k = k
    took-all (x ∷ xs) y s k = took-all xs (take_one first x y) s.2 (took_one x y s.0 s.1 k)

    -- nothing that was kept is lost
    stays-one : (x : Slotted) (y : Taking × List ℕ) (o : ℕ) → has first y.1 o ≡ true → has first (take_one first x y).1 o ≡ true
    unfolding take_one
    stays-one x y o e =
        by (λ (z : Taking × List ℕ). has first z.1 o ≡ true) (slot_ok y.0.least x.slot && frame_ok x.frame)
        (λ ok. by (λ (z : Taking × List ℕ). has first z.1 o ≡ true) (reach_ok first x.frame) (λ r. has-stays first (off_of x.frame) (payload_of x.frame) y.1 o e) (λ r. e))
        (λ no. e)

    pub stays_all : (xs : List Slotted) (y : Taking × List ℕ) (o : ℕ) → has first y.1 o ≡ true → has first (all_taken first xs y).1 o ≡ true
    unfolding all_taken
    stays_all [] y o e = e
    stays_all (x ∷ xs) y o e = stays_all xs (take_one first x y) o (stays-one x y o e)
