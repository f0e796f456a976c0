use Rattle.std.proofs.Common.{refl}
use Rattle.logstore.specs.Sized.{shown_records_stand}
use Rattle.logstore.proofs.Walks.{empty_log, ends_in_a_record, last_record_counts, one_record_more, stops_at_no_record}
use Rattle.logstore.proofs.Stores.{size_high}
use Rattle.logstore.proofs.laws.laws_stand.Goals as goal

pub returns : goal.returns
returns c = record { empty = empty_log; more = one_record_more; ends = ends_in_a_record; last = last_record_counts; shown = shown_records_stand; longest = size_high; stops = stops_at_no_record; rooms = (refl, refl) }
