use Rattle.levels.proofs.rates.RateLaws.{paced}
use Rattle.levels.proofs.rates.level_rate.Goals as goal

pub payload_rate-requires : goal.payload_rate-requires
payload_rate-requires c =
    let s = c in
    let k = paced s.args.cfg s.requires.fact_2 s.args.l s.requires.fact_1 in record {
      fact_1 = s.requires.fact_1;
      fact_2 = rw c.at.ensures (record { usual = k.usual; pre = k.pre; rate = k.rate; cue = k.cue; slot = k.slot });
    }

pub returns : goal.returns
returns c = rw c.at.ensures at c.payload_rate.ensures
