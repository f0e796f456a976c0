use Rattle.flat.specs.Sized.{places_fit}
use Rattle.flat.proofs.Offsets.{places_apart}
use Rattle.flat.specs.Sized.{span_is}
use Rattle.flat.proofs.Spans.{span_cases}
use Rattle.flat.proofs.laws.laws_stand.Goals as goal

pub returns : goal.returns
returns c = record { span = span_is; apart = places_apart; fit = places_fit; cases = span_cases }
