-- Held numbers (document 01, module 2; harq.rs is not among the files). Definitions only.
use Rattle.std.specs.Prelude.{cond, List, [], ◌∷◌, ℕ, ◌+◌, ◌-◌, ◌*◌, ◌%◌, min, ltb, eqb}
use Rattle.limits.specs.Limits.{partial_max}
use Rattle.harq.specs.declared.Harq.{Harq}

-- the rate ends above h
unfoldable pub above : ℕ → List ℕ → List ℕ
above h [] = []
above h (e ∷ es) = cond (ltb h e) (e ∷ above h es) (above h es)

-- the smallest of e and es
unfoldable pub smallest : ℕ → List ℕ → ℕ
smallest e [] = e
smallest e (x ∷ es) = smallest (min e x) es

-- the smallest of the ends less h; with none, the slot
unfoldable pub up_to : List ℕ → ℕ → ℕ → ℕ
up_to [] h slot = slot
up_to (e ∷ es) h slot = smallest e es - h

-- the increment for h held bits: the smallest rate end above h, less h; with none above, the slot
unfoldable pub increment_of : Harq → ℕ → ℕ → ℕ
increment_of q h slot = up_to (above h q.ends) h slot

-- where the increment for h held bits starts in the mother code
unfoldable pub start_of : Harq → ℕ → ℕ
start_of q h = h % q.mother

-- H_MAX: a piece is held only while its bits are below twice the mother length
abbrev pub h_max : Harq → ℕ
h_max q = 2 * q.mother

-- the partial field: 0 where parity = stored, else min(parity, 62) + 1
unfoldable pub partial_field : ℕ → ℕ → ℕ
partial_field parity stored = cond (eqb parity stored) 0 (min parity partial_max + 1)

-- check bits for n: 0 for 0, else 1 + n mod 3
unfoldable pub check_bits : ℕ → ℕ
check_bits n = cond (eqb n 0) 0 (1 + n % 3)

-- burst_check_bits: n = stored, plus 1 where the field isn't 0
unfoldable pub burst_check_bits : ℕ → ℕ → ℕ
burst_check_bits stored field = check_bits (cond (eqb field 0) stored (stored + 1))
