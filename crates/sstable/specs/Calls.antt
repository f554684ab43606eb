-- Calls as the code has them.
use Rattle.format.specs.Writing as writing
use Rattle.sstable.specs.declared.call.Call.{Call}
use Rattle.sstable.specs.declared.call.Call.TheVariants.{Insert, InsertKey, InsertValue, Finish}

abbrev pub call_of : {V : Type 0} → Call V → writing.Call V
call_of (Insert key value) = writing.insert key.now value
call_of (InsertKey key) = writing.insert_key key.now
call_of (InsertValue value) = writing.insert_value value
call_of Finish = writing.finish
