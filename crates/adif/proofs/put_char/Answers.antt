-- `adif::put_char` meets its contract. Assumes nothing.
use Rattle.adif.proofs.Steps.{put_one}
use Rattle.adif.proofs.put_char.Goals as goal

pub returns : goal.returns
returns c = put_one _ _ _
