-- What the profile fixes for the ledger. Definitions only.
use Rattle.harq.specs.Held.{h_max}
use Rattle.frame.specs.Frame.{max_payload}
use Rattle.config.specs.declared.Profile.{Profile}
use Rattle.ledger.specs.Sizes.{Sizes}

-- payloads of short and long frames, and H_MAX
abbrev pub sizes_of : Profile → Sizes
sizes_of p = record { short = max_payload p.short_bytes; long = max_payload p.long_bytes; top = h_max p.codes }
