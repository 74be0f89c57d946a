-- What an answer of the receiver says to the sender. Assumes nothing.
use Prim.Native.Nat.{ℕ, zero, suc, ◌+◌, ◌*◌, ◌/◌, ◌%◌, ◌^◌, ◌≤◌, ◌<◌}
use mathlib.Core.Path.{◌≡◌, refl, sym, ap, ap₂, ◌∙◌, subst}
use mathlib.Core.Bool.{Bool, true, false, cond, ◌&&◌, ◌||◌, false≢true}
use mathlib.Core.Logic.{◌⊎◌, inl, inr}
use mathlib.Core.List.{List, [], ◌∷◌, ◌++◌}
use native.Mathlib.Omega.{arith}
use native.Mathlib.Nat.{zero-add}
use lib.Dec.{leb, ltb, eqb}
use lib.ListN.{length, get_or}
use borrow.Author.Tests.{leb-true, ltb-true, eqb-true}
use Rattle.std.proofs.Common.{Some}
use Rattle.laws.specs.Little.{num, le}
use Rattle.laws.proofs.Picks.{test, and_first, and_second}
use Rattle.report.specs.Ack.{ack_of, info_of}
use Rattle.ledger.specs.Ledger.{Frame}
use Rattle.ledger.specs.Claim.{bit_over}
use Rattle.ledger.specs.Tally.{Event, reply}
use Rattle.ledger.specs.Reply.{long_ack}
use Rattle.demand.specs.Lists.{long_event}
use Rattle.receiver.specs.Frames.{len_of, off_of}
use Rattle.receiver.specs.Receiving.{ack_bytes}
use Rattle.arrival.proofs.Sending.{Matches}

num-le8 : (v : ℕ) → v < 2 ^ 64 → num (le 8 v) ≡ v
unfolding num
num-le8 v h = omega (arith, h)

pub read_back : (n b db k : ℕ) → n ≤ 3 → b < 2 ^ 64 → long_event (ack_of (ack_bytes n b db k)) ≡ reply (long_ack n b)
unfolding ack_of
read_back n b db k h l = ap₂ (λ (x y : ℕ). reply (long_ack x y)) (let e : n % 4 ≡ n = omega (arith, h) in e) (num-le8 b l)

-- a frame whose bit is set has the offset: it stands at a place of the burst
pub bit_found : (b : ℕ → Bool) (i : ℕ) (fs : List Frame) (gs : List (List ℕ)) (o : ℕ) → Matches fs gs → bit_over b i fs o ≡ true
    → (j : ℕ) × (b (i + j) ≡ true) × (off_of (get_or gs j []) ≤ o) × (o < off_of (get_or gs j []) + len_of (get_or gs j []))
bit_found b i [] gs o m e = absurd (false≢true e)
bit_found b i (f ∷ fs) [] o m e = absurd m
bit_found b i (f ∷ fs) (g ∷ gs) o m e =
    test (b i && (leb f.off o && ltb o (f.off + f.len)))
    (λ k.
    let w : (leb f.off o && ltb o (f.off + f.len)) ≡ true = and_second (b i) (leb f.off o && ltb o (f.off + f.len)) k in
    (0, ap b (let z : i + 0 ≡ i = omega arith in z) ∙ and_first (b i) _ k, omega (arith, m.0, leb-true f.off o (and_first (leb f.off o) (ltb o (f.off + f.len)) w)), omega (arith, m.0, m.1, ltb-true o (f.off + f.len) (and_second (leb f.off o) (ltb o (f.off + f.len)) w))))
    (λ k.
    let r = bit_found b (suc i) fs gs o m.2 (sym (ap (λ (x : Bool). x || bit_over b (suc i) fs o) k) ∙ e) in
    (suc r.0, ap b (let z : i + suc r.0 ≡ suc i + r.0 = omega arith in z) ∙ r.1, r.2, r.3))

-- as a reception's frame
pub info-back : (n b db k : ℕ) → n ≤ 3 → b < 2 ^ 64 → long_ack (info_of (ack_bytes n b db k)).burst (info_of (ack_bytes n b db k)).bitmap ≡ long_ack n b
info-back n b db k h l = ap₂ long_ack (let e : n % 4 ≡ n = omega (arith, h) in e) (num-le8 b l)
