-- What a reply says of the outstanding burst's frames (`on_ack` of gear.rs: `any_fresh`, `counts`, `sent`, `got`). Definitions only.
use Rattle.std.specs.Prelude.{List, [], ◌∷◌, Bool, cond, ◌&&◌, ℕ, suc, ◌+◌, eqb, ltb, length}
use Rattle.laws.specs.Lists.{one}
use Rattle.ledger.specs.Ledger as L
use Rattle.ledger.specs.Ledger.{Sent}
use Rattle.ledger.specs.Reply.{Reply}
use Rattle.gear.specs.declared.Outcome.{Outcome}

-- `s.held == s.bits`
abbrev pub is_fresh : Sent → Bool
is_fresh f = eqb f.bits f.held

-- frames sent fresh; those of them that came through; all that came through. The first frame is at place i
abbrev pub fresh_sent : List Sent → ℕ
fresh_sent [] = 0
fresh_sent (f ∷ fs) = one (is_fresh f) + fresh_sent fs

abbrev pub fresh_came : (ℕ → Bool) → ℕ → List Sent → ℕ
fresh_came b i [] = 0
fresh_came b i (f ∷ fs) = one (is_fresh f && b i) + fresh_came b (suc i) fs

abbrev pub all_got : (ℕ → Bool) → ℕ → List Sent → ℕ
all_got b i [] = 0
all_got b i (f ∷ fs) = one (b i) + all_got b (suc i) fs

-- `counts`: the fresh frames, or all where none is fresh
unfoldable pub outcome_of : Reply → L.Sender → Outcome
outcome_of r l =
    let b = r.bit (length l.sent) in
    let any = ltb 0 (fresh_sent l.sent) in
    record {
      empty = eqb (length l.sent) 0;
      fresh = any;
      matched = eqb r.number l.number;
      sent = cond any (fresh_sent l.sent) (length l.sent);
      got = cond any (fresh_came b 0 l.sent) (all_got b 0 l.sent);
    }
