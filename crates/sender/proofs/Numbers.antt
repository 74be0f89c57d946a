-- A call's answer with its number: from what the call says, and what `number` says of its verdict.
use Prim.Native.Nat.{ℕ}
use mathlib.Core.List.{List}
use mathlib.Core.Path.{◌≡◌, ap, ◌∙◌}
use Rattle.refusals.specs.Refusals.{number_of}
use Rattle.sender.specs.Calls.{Answer, Bursted, Finding}
use Rattle.sender.specs.declared.Left.{Left}
use Rattle.sender.specs.declared.LeftBurst.{LeftBurst}
use Rattle.sender.specs.declared.Place.{Place}
use Rattle.sender.specs.Numbered.{answer_number, burst_number, find_number}

pub answer-numbered : (q : Answer) (a : List ℕ) (x : Answer × List ℕ) (n : ℕ) → (q, a) ≡ x → n ≡ number_of q.verdict
    → (record { refusal = n; next = q.next }, a) ≡ answer_number x
answer-numbered q a x n is e = ap {B = Left × List ℕ} (λ (m : ℕ). (record { refusal = m; next = q.next }, a)) e ∙ ap answer_number is

pub burst-numbered : (q : Bursted) (b : List ℕ × List ℕ) (x : Bursted × (List ℕ × List ℕ)) (n : ℕ) → (q, b) ≡ x → n ≡ number_of q.verdict
    → (record { burst = record { refusal = n; outgoing = q.outgoing }; next = q.next }, b) ≡ burst_number x
burst-numbered q b x n is e = ap {B = LeftBurst × (List ℕ × List ℕ)}
    (λ (m : ℕ). (record { burst = record { refusal = m; outgoing = q.outgoing }; next = q.next }, b)) e ∙ ap burst_number is

pub find-numbered : (q x : Finding) (n : ℕ) → q ≡ x → n ≡ number_of q.verdict
    → record { refusal = n; here = q.found.here; start = q.found.start; len = q.found.len } ≡ find_number x
find-numbered q x n is e = ap {B = Place} (λ (m : ℕ). record {
  refusal = m;
  here = q.found.here;
  start = q.found.start;
  len = q.found.len;
}) e ∙ ap find_number is
