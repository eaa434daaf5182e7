use Rattle.nt_design.proofs.Puts.{put_is_write}
use Rattle.nt_design.proofs.laws.puts_are_writes.Goals as goal

pub returns : goal.returns
returns c v old value path s r of leads is = put_is_write v old value path s r of leads is
