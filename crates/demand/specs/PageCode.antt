-- What the page of demand 3 is put together from: follows the code or serves proofs; nothing here has to be believed.
use Rattle.std.specs.Prelude.{◌≡◌, List, true, cond, ◌&&◌, ℕ, ◌≤◌}
use Rattle.limits.specs.Limits.{min_payload}
use Rattle.config.specs.declared.Profile.{Profile}
use Rattle.config.specs.Ranges.{in_range, in_order}
use Rattle.ledger.specs.ClaimCode.{LedgerClaim}
use Rattle.ledger.specs.Sizes.{Sizes}
use Rattle.record.specs.Profiles.{sizes_of}
use Rattle.area.specs.Layout.{area_bytes}
use Rattle.verdicts.specs.Verdicts.{passed, station_ok}
use Rattle.sender.specs.Calls.{burst_call}
use Rattle.demand.specs.Lists.{Call, shown, next, call_told}
use Rattle.demand.specs.Page.{messages, c, s, t, Sends}

-- the profile's sizes, where it is not refused; where it is, no call gets so far that they matter
abbrev pub sizes_for : Profile → Sizes
sizes_for p = cond (in_range p && in_order p) (sizes_of p) (record { short = min_payload; long = min_payload; top = 0 })

-- after a list of calls, and of one further call i
pub record AfterCalls (p : Profile) (n : ℕ) (is : List Call) (i : Call) : Type 0 where
  pub ledger :
      LedgerClaim (sizes_for p) (messages p n is) (s p n is) (t p n is) (call_told p i (c p n is)) (shown (next p i (c p n is))).sender
  pub sound : (in_range p && in_order p) ≡ true → area_bytes ≤ n → station_ok p (c p n is).0 (c p n is).1 ≡ true
  pub sends : (out : List ℕ) → passed (burst_call p (c p n is).0 (c p n is).1 out).0.verdict ≡ true → Sends p n is out
