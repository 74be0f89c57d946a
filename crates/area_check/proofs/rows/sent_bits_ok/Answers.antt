-- `area_check::rows::sent_bits_ok` meets its contract. The invariant: the test of all is that of what is left of both.
use Prim.Native.Nat.{ℕ}
use mathlib.Core.Bool.{Bool, true, ◌&&◌}
use mathlib.Core.List.{List, [], ◌∷◌}
use mathlib.Core.Path.{◌≡◌, refl, sym, ap₂, ◌∙◌}
use lib.Dec.{ltb, leb}
use mathlib.Core.Logic.{inl, inr, ◌⊎◌}
use Rattle.limits.specs.Limits.{max_bits, max_held}
use Rattle.std.proofs.lemmas.Slice.Zip.{Zip-more, either_empty_from_Zip}
use Rattle.area_check.specs.Rows.{sent_bits_ok}
use Rattle.area_check.proofs.rows.sent_bits_ok.Goals as goal

-- a pair and the rest
turn : (all : Bool) (xs ys : List ℕ) (b h : ℕ) (bs hs : List ℕ) → all ≡ sent_bits_ok xs ys → (xs ≡ b ∷ bs) × (ys ≡ h ∷ hs)
    → all ≡ ((ltb 0 b && leb b max_bits) && ((leb b h && leb h max_held) && sent_bits_ok bs hs))
unfolding sent_bits_ok
turn all xs ys b h bs hs v e = v ∙ ap₂ sent_bits_ok e.0 e.1

-- nothing is left
none : (all : Bool) (xs ys : List ℕ) → all ≡ sent_bits_ok xs ys → (xs ≡ []) ⊎ (ys ≡ []) → all ≡ true
unfolding sent_bits_ok
none all xs ys v e = v ∙ left xs ys e
  where
    left : (xs ys : List ℕ) → (xs ≡ []) ⊎ (ys ≡ []) → sent_bits_ok xs ys ≡ true
    left [] ys e = refl
    left (x ∷ xs) [] e = refl
    left (x ∷ xs) (y ∷ ys) (inl e) = cc
    left (x ∷ xs) (y ∷ ys) (inr e) = cc

pub returns-then-not-b : goal.returns-then-not-b
returns-then-not-b c =
    let e = Zip-more c.loop-b.b-iterator c.next.new.self c.next.result (c.in-Some.field-0-0, c.in-Some.field-0-1) c.in-Some.is c.next.ensures.steps in
    sym (turn _ _ _ _ _ _ _ c.loop-b.invariant e ∙ simp c.if-not-b.true)

pub returns-then-not-b-h : goal.returns-then-not-b-h
returns-then-not-b-h c =
    let e = Zip-more c.loop-b.b-iterator c.next.new.self c.next.result (c.in-Some.field-0-0, c.in-Some.field-0-1) c.in-Some.is c.next.ensures.steps in
    sym (turn _ _ _ _ _ _ _ c.loop-b.invariant e ∙ simp (c.if-not-b.false, c.if-not-b-h.true))

pub loop-b-preserved : goal.loop-b-preserved
loop-b-preserved c =
    let e = Zip-more c.loop-b.b-iterator c.next.new.self c.next.result (c.in-Some.field-0-0, c.in-Some.field-0-1) c.in-Some.is c.next.ensures.steps in
    turn _ _ _ _ _ _ _ c.loop-b.invariant e ∙ simp (c.if-not-b.false, c.if-not-b-h.false)

pub returns : goal.returns
returns c = sym (none _ _ _ c.loop-b.invariant (either_empty_from_Zip c.loop-b.b-iterator c.next.new.self c.next.result c.in-None.is c.next.ensures.steps))
