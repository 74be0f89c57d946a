-- `frame::crc::table` meets its contract: each entry is computed.
use Rattle.laws.specs.Span.{from, upto}
use Rattle.laws.proofs.Tables.{alike_same}
use Rattle.frame.specs.Crc.{shift, shifts}
use Rattle.frame.specs.Table.{table_of}
use Rattle.frame.proofs.crc.table.Goals as goal

pub returns : goal.returns
unfolding table_of shifts shift from upto
returns c = alike_same _ table_of tt
