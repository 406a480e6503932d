use Rattle.byte_order.proofs.WordsLemmas.{first_half_turned, second_half_turned, stated_turned}
use Rattle.byte_order.proofs.laws.halves_change_places.Goals as goal

pub returns-clause-first : goal.returns-clause-first
returns-clause-first c = first_half_turned

pub returns-clause-second : goal.returns-clause-second
returns-clause-second c = second_half_turned

pub returns-clause-stated : goal.returns-clause-stated
returns-clause-stated c = stated_turned
