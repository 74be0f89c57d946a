-- `vanitycrow_frames` meets its contract. The loop's invariant: i frames are written.
use mathlib.Core.Path.{◌≡◌, refl, sym, ap, ◌∙◌}
use Prim.Native.Nat.{ℕ, ◌+◌, ◌*◌, ◌≤◌, ◌<◌}
use native.Mathlib.Nat.{mul-le-mul, mul-le-mul_right, add-mul, one-mul}
use native.Mathlib.Omega.{arith}
use lib.ListN.{length}
use Rattle.laws.specs.Steps.{steps}
use Rattle.laws.proofs.Bytes.{length_over}
use Rattle.laws.proofs.Steps.{steps-none, steps-more}
use Rattle.frame.specs.Frame.{max_payload}
use Rattle.frame.proofs.Laws.{short}
use Rattle.bench_abi.specs.Burst.{frame_at, bench_frames}
use Rattle.bench_abi.proofs.vanitycrow_frames.Goals as goal

-- frame i ends by the end of the last
ends : (i count size : ℕ) → i < count → i * size + size ≤ count * size
ends i count size h = let e : i * size + size ≡ (i + 1) * size = sym (add-mul i 1 size ∙ ap (λ (x : ℕ). i * size + x) (one-mul size)) in rw e (mul-le-mul_right size (omega arith))

-- an offset is small
offset : (i count n size : ℕ) → i < count → count ≤ 64 → n ≤ max_payload size → i * n ≤ 16256
offset i count n size h k m = mul-le-mul {m₁ = n} {n₂ = 64} {m₂ = 254} (omega arith) (omega (arith, short size n m))

pub loop-i-init : goal.loop-i-init
loop-i-init c = (steps-none _ _, refl, c.table-t.ensures)

pub overflow_mul-i : goal.overflow_mul-i
overflow_mul-i c = omega (arith, ends c.loop-i.i c.args.count c.args.size (omega arith), c.requires.2)

pub overflow_mul-i-in-loop-i : goal.overflow_mul-i-in-loop-i
overflow_mul-i-in-loop-i c =
    omega (arith, offset c.loop-i.i c.args.count (length c.args.payload.now) c.args.size (omega arith) c.requires.0 c.requires.3)

pub overflow_cast-i : goal.overflow_cast-i
overflow_cast-i c =
    omega (arith, offset c.loop-i.i c.args.count (length c.args.payload.now) c.args.size (omega arith) c.requires.0 c.requires.3)

pub encode-requires : goal.encode-requires
encode-requires c =
    let v = c.loop-i.invariant in
    (v.2, omega (arith, ends c.loop-i.i c.args.count c.args.size (omega arith), c.requires.2, v.1), c.requires.1, c.requires.3)

pub loop-i-preserved : goal.loop-i-preserved
loop-i-preserved c =
    let v = c.loop-i.invariant in
    (steps-more _ c.loop-i.i _ _ _ v.0 c.encode.ensures, ap length c.encode.ensures ∙ length_over _ _ _ ∙ v.1, v.2)

pub shape_of-out : goal.shape_of-out
shape_of-out c = c.loop-i.invariant.1

pub returns : goal.returns
unfolding bench_frames
returns c =
    let a = c.args in
    let e : c.loop-i.i ≡ a.count = omega arith in
    c.loop-i.invariant.0 ∙ ap (λ (k : ℕ). steps (frame_at a.size a.payload.now) k a.out.now) e
