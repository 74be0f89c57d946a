-- The plan of `data_burst` (sender.rs; document 01, module 6), over the held pieces' bits. Definitions only.
use Rattle.std.specs.Prelude.{Bool, ℕ, leb}
use Rattle.std.specs.Float.Ieee.{le}
use Rattle.float.specs.Gear.{data_seconds}
use Rattle.harq.specs.Held.{increment_of}
use Rattle.harq.specs.declared.Harq.{Harq}
use Rattle.ledger.specs.Plan as L
use Rattle.plan.specs.declared.Choice.{Choice}

-- `self.data_s(level, bits, cue) <= max_s`
unfoldable pub fits : Choice → ℕ → Bool
fits c bits = le (data_seconds c.pre_s c.rate bits c.cue_s) c.max_s

-- what the ledger's plan takes of it (crates/ledger/specs/Plan.antt)
abbrev pub choice_of : Harq → Choice → Bool → ℕ → L.Choice
choice_of q c merging number =
    record {
      long = c.long;
      same_wave = c.same_wave;
      partial = c.partial;
      slot = c.slot;
      increment = λ (h : ℕ). increment_of q h c.slot;
      in_burst = fits c;
      in_max_bits = λ (b : ℕ). leb b c.max_bits;
      merging = merging;
      number = number;
    }
