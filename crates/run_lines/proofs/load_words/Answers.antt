-- `load_words`: under the profile of the numbers. Assumes nothing.
use Rattle.run_lines.proofs.load_words.Goals as goal

pub profile_of-requires : goal.profile_of-requires
profile_of-requires c = tt

pub load-requires : goal.load-requires
load-requires c = tt

pub returns : goal.returns
returns c =
    let d = c in record {
      value = rw (← d.profile_of.ensures) c.load.ensures.value;
      bytes_after = c.load.ensures.bytes_after;
    }
